-- The productions of bodies of namespaces see what links hold through f alone.
use Rattle.std.proofs.Common.{◌≡◌, refl, ap, codes}
use Rattle.swc_ecma_codegen_tree.specs.declared.links.AnyNode.{map-AnyNode}
use Rattle.swc_ecma_codegen_tree.specs.declared.links.AnyNode.TheOpen as nodes
use Rattle.swc_ecma_codegen_tree.specs.Links.{ModuleDeclBox}
use Rattle.swc_ecma_codegen_tree.specs.declared.parts.TsPart.TheVariants as ts_parts
use Rattle.swc_ecma_codegen_tree.specs.declared.programs.ModuleItem.{ModuleItem}
use Rattle.swc_ecma_codegen_tree.specs.declared.programs.ModuleItem.TheVariants as module_items
use Rattle.swc_ecma_codegen_tree.specs.declared.stmts.Stmt.{Stmt}
use Rattle.swc_ecma_codegen_tree.specs.declared.ts_decls.TsModuleBlock.{TsModuleBlock}
use Rattle.swc_ecma_codegen_tree.specs.declared.ts_decls.TsNamespaceBody.{TsNamespaceBody}
use Rattle.swc_ecma_codegen_tree.specs.declared.ts_decls.TsNamespaceBody.TheVariants as bodies
use Rattle.swc_ecma_codegen_grammar.specs.Phrases.{Phrase, ◌>◌, mark, in_order}
use Rattle.swc_ecma_codegen_grammar.specs.NamespacePhrases.{ts_module_block, dotted_namespace, dotted_body, ts_namespace_body}
use Rattle.swc_ecma_codegen_grammar.specs.PartPhrases.{ts_part}
use Rattle.swc_ecma_codegen_grammar.specs.StmtPhrases.{module_item}
use Rattle.swc_ecma_codegen_grammar.specs.declared.roles.Role.{Role}
use Rattle.swc_ecma_codegen_grammar.specs.declared.roles.Role.TheVariants.{NamespaceBody, DottedBody}
use Rattle.swc_ecma_codegen_grammar.specs.TreePhrases.{node_phrase}
use Rattle.swc_ecma_codegen_grammar.proofs.Mapped.{list_mapped}
use Rattle.swc_ecma_codegen_grammar.proofs.MappedStmts.{stmt_mapped}

-- what holds of each item, by its variant
pub by_item : {X : Type 0} (P : ModuleItem X → Type 0) → ((n : ModuleDeclBox X) → P (module_items.ModuleDecl n)) → ((n : Stmt X) → P (module_items.Stmt n)) → (n : ModuleItem X) → P n
by_item P declared stated (module_items.ModuleDecl n) = declared n
by_item P declared stated (module_items.Stmt n) = stated n

block_mapped : {X Y : Type 0} (g : X → Y) (f : Y → Role → Phrase) (n : TsModuleBlock X) → node_phrase f (map-AnyNode X Y g (nodes.TsPart (ts_parts.TsNamespaceBody (bodies.TsModuleBlock n)))) NamespaceBody ≡ ts_module_block (λ x. f (g x)) n
unfolding node_phrase ts_part ts_namespace_body ts_module_block module_item
block_mapped {X} g f n = ap (λ ps. mark (codes "{") > in_order ps > mark (codes "}")) (list_mapped {A = ModuleItem X} _ (module_item f) (module_item (λ x. f (g x))) (by_item {X = X} _ (λ d. refl) (λ s. stmt_mapped g f s)) n.body.items)

pub namespace_body_mapped : {X Y : Type 0} (g : X → Y) (f : Y → Role → Phrase) (n : TsNamespaceBody X) → node_phrase f (map-AnyNode X Y g (nodes.TsPart (ts_parts.TsNamespaceBody n))) NamespaceBody ≡ ts_namespace_body (λ x. f (g x)) n
unfolding node_phrase ts_part ts_namespace_body
namespace_body_mapped g f (bodies.TsModuleBlock n) = block_mapped g f n
namespace_body_mapped g f (bodies.TsNamespaceDecl n) = refl

pub dotted_body_mapped : {X Y : Type 0} (g : X → Y) (f : Y → Role → Phrase) (n : TsNamespaceBody X) → node_phrase f (map-AnyNode X Y g (nodes.TsPart (ts_parts.TsNamespaceBody n))) DottedBody ≡ dotted_body (λ x. f (g x)) n
unfolding node_phrase ts_part dotted_body dotted_namespace ts_namespace_body
dotted_body_mapped g f (bodies.TsModuleBlock n) = block_mapped g f n
dotted_body_mapped g f (bodies.TsNamespaceDecl n) = refl
