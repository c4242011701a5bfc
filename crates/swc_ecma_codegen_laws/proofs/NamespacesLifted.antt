-- Namespaces: a law of the words holds of the plan.
use Rattle.std.proofs.Common.{Bool, refl}
use Rattle.swc_ecma_codegen_laws.proofs.Children.{children_hold}
use Rattle.std.specs.Prelude.{map, codes, None}
use Rattle.swc_ecma_codegen_tree.specs.declared.ts_decls.TsModuleBlock.{TsModuleBlock}
use Rattle.swc_ecma_codegen_tree.specs.declared.ts_decls.TsNamespaceBody.{TsNamespaceBody}
use Rattle.swc_ecma_codegen_tree.specs.declared.ts_decls.TsNamespaceBody.TheVariants as bodies
use Rattle.swc_ecma_codegen_tree.specs.declared.ts_decls.TsNamespaceDecl.{TsNamespaceDecl}
use Rattle.swc_ecma_codegen_spans.specs.Spans.{module_item_span, ts_namespace_body_span}
use Rattle.swc_ecma_codegen_tokens.specs.Run.{Part}
use Rattle.swc_ecma_codegen_emit.specs.declared.nodes.Context.{Context}
use Rattle.swc_ecma_codegen_emit.specs.declared.nodes.Context.TheVariants.{Plain, Dotted}
use Rattle.swc_ecma_codegen_emit.specs.Places.{Whole}
use Rattle.swc_ecma_codegen_emit.specs.Answers.{place_of}
use Rattle.swc_ecma_codegen_emit.specs.Lists.{child_of}
use Rattle.swc_ecma_codegen_emit.specs.Modules.{module_item}
use Rattle.swc_ecma_codegen_laws.proofs.OfWords.{Known, asks_in, items_in}
use Rattle.swc_ecma_codegen_emit.specs.Namespaces.{module_block_format, block_items, ts_module_block, ts_namespace_decl, namespace_inside, braced_body, dotted_body, ts_namespace_body}
use Rattle.swc_ecma_codegen_laws.proofs.ExprsLifted.{ident_holds}
use Rattle.swc_ecma_codegen_laws.proofs.ModulesLifted.{module_item_holds}
use Rattle.swc_ecma_codegen_laws.proofs.TsDeclsLifted.{declare_word_holds}

pub block_items_holds : {X : Type 0} {holds : Bool → Part → Type 0} (known : Known holds X) (bounded : Bool) (n : TsModuleBlock X) → holds bounded (block_items (asks_in known) (items_in known) n)
block_items_holds known bounded n = known.words.list bounded module_block_format refl n.span (map (child_of (module_item_span (place_of (asks_in known))) (λ m place. module_item (asks_in known) (items_in known) m)) n.body.items) (children_hold _ _ (module_item_span (place_of (asks_in known))) (λ m place. module_item (asks_in known) (items_in known) m) (λ m. (module_item_holds known bounded m)) n.body.items)

pub ts_module_block_holds : {X : Type 0} {holds : Bool → Part → Type 0} (known : Known holds X) (bounded : Bool) (n : TsModuleBlock X) → holds bounded (ts_module_block (asks_in known) (items_in known) n)
unfolding ts_module_block
ts_module_block_holds known bounded n = known.words.and_then bounded (block_items_holds known bounded n) (known.words.leading_comments bounded n.span.lo)

pub ts_namespace_decl_holds : {X : Type 0} {holds : Bool → Part → Type 0} (known : Known holds X) (bounded : Bool) (n : TsNamespaceDecl X) → holds bounded (ts_namespace_decl (items_in known) n)
unfolding ts_namespace_decl
ts_namespace_decl_holds known bounded n = known.words.and_then bounded (known.words.leading_comments bounded n.span.lo) (known.words.and_then bounded (declare_word_holds known.words bounded n.declare) (known.words.and_then bounded (known.words.keyword bounded None (codes "namespace")) (known.words.and_then bounded (known.words.space bounded) (known.words.and_then bounded (ident_holds known.words bounded n.id) (known.words.and_then bounded (known.words.formatting_space bounded) (known.law bounded n.body.node.value (Whole Plain)))))))

pub namespace_inside_holds : {X : Type 0} {holds : Bool → Part → Type 0} (known : Known holds X) (bounded : Bool) (x2 : TsNamespaceBody X) → holds bounded (namespace_inside (asks_in known) (items_in known) x2)
unfolding namespace_inside
namespace_inside_holds known bounded (bodies.TsModuleBlock n) = ts_module_block_holds known bounded n
namespace_inside_holds known bounded (bodies.TsNamespaceDecl n) = ts_namespace_decl_holds known bounded n

pub braced_body_holds : {X : Type 0} {holds : Bool → Part → Type 0} (known : Known holds X) (bounded : Bool) (n : TsNamespaceBody X) → holds bounded (braced_body (asks_in known) (items_in known) n)
unfolding braced_body
braced_body_holds known bounded n = known.words.and_then bounded (known.words.leading_comments bounded (ts_namespace_body_span n).lo) (known.words.and_then bounded (known.words.punct bounded (codes "{")) (known.words.and_then bounded (known.words.deeper bounded) (known.words.and_then bounded (namespace_inside_holds known bounded n) (known.words.and_then bounded (known.words.shallower bounded) (known.words.punct bounded (codes "}"))))))

pub dotted_body_holds : {X : Type 0} {holds : Bool → Part → Type 0} (known : Known holds X) (bounded : Bool) (x2 : TsNamespaceBody X) → holds bounded (dotted_body (asks_in known) (items_in known) x2)
unfolding dotted_body
dotted_body_holds known bounded (bodies.TsModuleBlock n) = known.words.and_then bounded (known.words.formatting_space bounded) (braced_body_holds known bounded (bodies.TsModuleBlock n))
dotted_body_holds known bounded (bodies.TsNamespaceDecl n) = known.words.and_then bounded (known.words.punct bounded (codes ".")) (known.words.and_then bounded (ident_holds known.words bounded n.id) (known.law bounded n.body.node.value (Whole Dotted)))

pub ts_namespace_body_holds : {X : Type 0} {holds : Bool → Part → Type 0} (known : Known holds X) (bounded : Bool) (n : TsNamespaceBody X) (context : Context) → holds bounded (ts_namespace_body (asks_in known) (items_in known) n context)
unfolding ts_namespace_body
ts_namespace_body_holds known bounded n Dotted = dotted_body_holds known bounded n
ts_namespace_body_holds known bounded n context = braced_body_holds known bounded n
