-- What is written of bodies of namespaces sees what links hold through `asks` and `items` alone.
use Rattle.std.proofs.Common.{◌≡◌, refl, ap, true, codes}
use Rattle.swc_ecma_codegen_common.specs.declared.positions.Span.{Span}
use Rattle.swc_ecma_codegen_tree.specs.declared.links.AnyNode.{map-AnyNode}
use Rattle.swc_ecma_codegen_tree.specs.declared.links.AnyNode.TheOpen as nodes
use Rattle.swc_ecma_codegen_tree.specs.declared.parts.TsPart.TheVariants as ts_parts
use Rattle.swc_ecma_codegen_tree.specs.declared.programs.ModuleItem.{ModuleItem}
use Rattle.swc_ecma_codegen_tree.specs.declared.ts_decls.TsModuleBlock.{TsModuleBlock}
use Rattle.swc_ecma_codegen_tree.specs.declared.ts_decls.TsNamespaceBody.{TsNamespaceBody}
use Rattle.swc_ecma_codegen_tree.specs.declared.ts_decls.TsNamespaceBody.TheVariants as bodies
use Rattle.swc_ecma_codegen_spans.specs.Spans.{module_item_span, node_span, ts_namespace_body_span}
use Rattle.swc_ecma_codegen_grammar.proofs.MappedNamespaces.{by_item}
use Rattle.swc_ecma_codegen_tokens.specs.Run.{Plan, Part}
use Rattle.swc_ecma_codegen_tokens.specs.Lists.{deeper, shallower}
use Rattle.swc_ecma_codegen_tokens.specs.Words.{punct, formatting_space, leading_comments, trailing_comments}
use Rattle.swc_ecma_codegen_emit.specs.declared.nodes.Context.TheVariants.{Plain, Dotted}
use Rattle.swc_ecma_codegen_emit.specs.Places.{Place, Whole, context_of}
use Rattle.swc_ecma_codegen_emit.specs.Answers.{Answers, place_of}
use Rattle.swc_ecma_codegen_emit.specs.Lists.{child_at, child_of}
use Rattle.swc_ecma_codegen_emit.specs.Modules.{module_item, module_item_by}
use Rattle.swc_ecma_codegen_emit.specs.Namespaces.{module_block_format, ts_module_block, ts_namespace_decl, namespace_inside, braced_body, dotted_body, ts_namespace_body}
use Rattle.swc_ecma_codegen_emit.specs.Parts.{ts_part}
use Rattle.swc_ecma_codegen_emit.specs.Tree.{node_items}
use Rattle.swc_ecma_codegen_emit.proofs.MappedPats.{children_mapped}
use Rattle.swc_ecma_codegen_emit.proofs.MappedStmts.{stmt_mapped, stmt_placed}

-- an item, by where it stands and what is written of it
item_same : (a b : Span) (p q : Part) → a ≡ b → ((rest : Plan) → p rest ≡ q rest) → child_at a (λ rest. leading_comments a.lo (p (trailing_comments true a.hi rest))) ≡ child_at b (λ rest. leading_comments b.lo (q (trailing_comments true b.hi rest)))
item_same a b p q e h = λ i. child_at (e i) (λ rest. leading_comments (e i).lo (h (trailing_comments true (e i).hi rest) i))

block_mapped : {X Y : Type 0} (g : X → Y) (asks : Y → Answers) (items : Y → Place → Part) (n : TsModuleBlock X) (rest : Plan) → node_items asks items (map-AnyNode X Y g (nodes.TsPart (ts_parts.TsNamespaceBody (bodies.TsModuleBlock n)))) (Whole Plain) rest ≡ braced_body (λ x. asks (g x)) (λ x. items (g x)) (bodies.TsModuleBlock n) rest
unfolding node_items node_span ts_part ts_namespace_body braced_body namespace_inside ts_module_block ts_namespace_body_span module_item module_item_by module_item_span
block_mapped {X} g asks items n rest =
    ap (λ z. leading_comments n.span.lo (punct (codes "{") (deeper z)))
    (children_mapped {A = ModuleItem X} _ (child_of (module_item_span (place_of asks)) (λ m place. module_item asks items m)) (child_of (module_item_span (place_of (λ x. asks (g x)))) (λ m place. module_item (λ x. asks (g x)) (λ x. items (g x)) m))
    (by_item {X = X} _ (λ d. refl) (λ s. item_same _ _ _ _ (stmt_placed g asks s) (stmt_mapped g asks items s (Whole Plain)))) module_block_format n.span n.body.items (leading_comments n.span.lo (shallower (punct (codes "}") rest))))

pub namespace_body_mapped : {X Y : Type 0} (g : X → Y) (asks : Y → Answers) (items : Y → Place → Part) (n : TsNamespaceBody X) (place : Place) (rest : Plan) → node_items asks items (map-AnyNode X Y g (nodes.TsPart (ts_parts.TsNamespaceBody n))) place rest ≡ ts_namespace_body (λ x. asks (g x)) (λ x. items (g x)) n (context_of place) rest
unfolding node_items ts_part ts_namespace_body dotted_body braced_body namespace_inside ts_namespace_decl ts_namespace_body_span
namespace_body_mapped g asks items (bodies.TsModuleBlock n) (Whole Dotted) rest = ap formatting_space (block_mapped g asks items n rest)
namespace_body_mapped g asks items (bodies.TsModuleBlock n) place rest = block_mapped g asks items n rest
namespace_body_mapped g asks items (bodies.TsNamespaceDecl n) (Whole Dotted) rest = refl
namespace_body_mapped g asks items (bodies.TsNamespaceDecl n) place rest = refl
