-- Bodies of namespaces: one production a node. `f` says what is read of what a link holds, in its role. TypeScript handbook, section
-- "Namespaces".
use Rattle.std.specs.Prelude.{not, map, codes}
use Rattle.swc_ecma_codegen_tree.specs.declared.ts_decls.TsModuleBlock.{TsModuleBlock}
use Rattle.swc_ecma_codegen_tree.specs.declared.ts_decls.TsNamespaceBody.{TsNamespaceBody}
use Rattle.swc_ecma_codegen_tree.specs.declared.ts_decls.TsNamespaceBody.TheVariants as bodies
use Rattle.swc_ecma_codegen_tree.specs.declared.ts_decls.TsNamespaceDecl.{TsNamespaceDecl}
use Rattle.swc_ecma_codegen_grammar.specs.Phrases.{Phrase, Never, ◌>◌, mark, in_order, where_}
use Rattle.swc_ecma_codegen_grammar.specs.NamePhrases.{ident}
use Rattle.swc_ecma_codegen_grammar.specs.StmtPhrases.{module_item}
use Rattle.swc_ecma_codegen_grammar.specs.declared.roles.Role.{Role}
use Rattle.swc_ecma_codegen_grammar.specs.declared.roles.Role.TheVariants.{DottedBody}

-- `{ b; }` of `namespace a { b; }`
unfoldable pub ts_module_block : {X : Type 0} → (X → Role → Phrase) → TsModuleBlock X → Phrase
ts_module_block f n = mark (codes "{") > in_order (map (module_item f) n.body.items) > mark (codes "}")

-- `.b { c; }` of `namespace a.b { c; }`, where no `declare` has a place
unfoldable pub dotted_namespace : {X : Type 0} → (X → Role → Phrase) → TsNamespaceDecl X → Phrase
dotted_namespace f n = where_ (not n.declare) (mark (codes ".") > ident n.id > f n.body.node.value DottedBody)

-- a body behind the name: `{ b; }` or `.b { c; }`
unfoldable pub dotted_body : {X : Type 0} → (X → Role → Phrase) → TsNamespaceBody X → Phrase
dotted_body f (bodies.TsModuleBlock n) = ts_module_block f n
dotted_body f (bodies.TsNamespaceDecl n) = dotted_namespace f n

-- a body by itself: only braces
unfoldable pub ts_namespace_body : {X : Type 0} → (X → Role → Phrase) → TsNamespaceBody X → Phrase
ts_namespace_body f (bodies.TsModuleBlock n) = ts_module_block f n
ts_namespace_body f (bodies.TsNamespaceDecl n) = Never
