-- What is written of bodies of namespaces.
use Rattle.std.specs.Prelude.{ℕ, map, codes, None}
use Rattle.swc_ecma_codegen_tree.specs.declared.ts_decls.TsModuleBlock.{TsModuleBlock}
use Rattle.swc_ecma_codegen_tree.specs.declared.ts_decls.TsNamespaceBody.{TsNamespaceBody}
use Rattle.swc_ecma_codegen_tree.specs.declared.ts_decls.TsNamespaceBody.TheVariants as bodies
use Rattle.swc_ecma_codegen_tree.specs.declared.ts_decls.TsNamespaceDecl.{TsNamespaceDecl}
use Rattle.swc_ecma_codegen_spans.specs.Spans.{module_item_span, ts_namespace_body_span}
use Rattle.swc_ecma_codegen_tokens.specs.Run.{Part}
use Rattle.swc_ecma_codegen_tokens.specs.Lists.{list, deeper, shallower}
use Rattle.swc_ecma_codegen_tokens.specs.Words.{keyword, punct, space, formatting_space, leading_comments}
use Rattle.swc_ecma_codegen_emit.specs.declared.nodes.Context.{Context}
use Rattle.swc_ecma_codegen_emit.specs.declared.nodes.Context.TheVariants.{Plain, Dotted}
use Rattle.swc_ecma_codegen_emit.specs.Places.{Place, Whole}
use Rattle.swc_ecma_codegen_emit.specs.Answers.{Answers, place_of}
use Rattle.swc_ecma_codegen_emit.specs.Exprs.{ident}
use Rattle.swc_ecma_codegen_emit.specs.Lists.{child_of}
use Rattle.swc_ecma_codegen_emit.specs.Modules.{module_item}
use Rattle.swc_ecma_codegen_emit.specs.TsDecls.{declare_word}

-- `SourceFileStatements`
abbrev pub module_block_format : ℕ
module_block_format = 2049

abbrev pub block_items : {X : Type 0} → (X → Answers) → (X → Place → Part) → TsModuleBlock X → Part
block_items asks items n = list module_block_format n.span (map (child_of (module_item_span (place_of asks)) (λ m place. module_item asks items m)) n.body.items)

-- what stands between the braces, whose comments come after it
unfoldable pub ts_module_block : {X : Type 0} → (X → Answers) → (X → Place → Part) → TsModuleBlock X → Part
ts_module_block asks items n rest = block_items asks items n (leading_comments n.span.lo rest)

-- `declare namespace a { b; }`, by itself
unfoldable pub ts_namespace_decl : {X : Type 0} → (X → Place → Part) → TsNamespaceDecl X → Part
ts_namespace_decl items n rest =
    leading_comments n.span.lo
    (declare_word n.declare
    (keyword None (codes "namespace") (space (ident n.id (formatting_space (items n.body.node.value (Whole Plain) rest))))))

unfoldable pub namespace_inside : {X : Type 0} → (X → Answers) → (X → Place → Part) → TsNamespaceBody X → Part
namespace_inside asks items (bodies.TsModuleBlock n) rest = ts_module_block asks items n rest
namespace_inside asks items (bodies.TsNamespaceDecl n) rest = ts_namespace_decl items n rest

-- `{ b; }`: what stands in braces is a level deeper, minified too
unfoldable pub braced_body : {X : Type 0} → (X → Answers) → (X → Place → Part) → TsNamespaceBody X → Part
braced_body asks items n rest =
    leading_comments (ts_namespace_body_span n).lo
    (punct (codes "{") (deeper (namespace_inside asks items n (shallower (punct (codes "}") rest)))))

-- the same behind the name, or a further name: ` { b; }` or `.b { c; }`
unfoldable pub dotted_body : {X : Type 0} → (X → Answers) → (X → Place → Part) → TsNamespaceBody X → Part
dotted_body asks items (bodies.TsModuleBlock n) rest = formatting_space (braced_body asks items (bodies.TsModuleBlock n) rest)
dotted_body asks items (bodies.TsNamespaceDecl n) rest = punct (codes ".") (ident n.id (items n.body.node.value (Whole Dotted) rest))

unfoldable pub ts_namespace_body : {X : Type 0} → (X → Answers) → (X → Place → Part) → TsNamespaceBody X → Context → Part
ts_namespace_body asks items n Dotted rest = dotted_body asks items n rest
ts_namespace_body asks items n context rest = braced_body asks items n rest
