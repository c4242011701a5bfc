-- Imports and exports: one production a node. `f` says what is read of what a link holds, in its role. ECMA-262, section 16.2. `type` and
-- `declare` are TypeScript's: its handbook, section "Modules".
use Rattle.std.specs.Prelude.{Bool, List, [], ◌∷◌, map, codes, Option, Some, None}
use Rattle.swc_ecma_codegen_tree.specs.Links.{ObjectLitBox}
use Rattle.swc_ecma_codegen_tree.specs.declared.decls.Decl.{Decl}
use Rattle.swc_ecma_codegen_tree.specs.declared.decls.Decl.TheVariants as decls
use Rattle.swc_ecma_codegen_tree.specs.declared.lits.Str.{Str}
use Rattle.swc_ecma_codegen_tree.specs.declared.modules.DefaultDecl.{DefaultDecl}
use Rattle.swc_ecma_codegen_tree.specs.declared.modules.DefaultDecl.TheVariants as default_decls
use Rattle.swc_ecma_codegen_tree.specs.declared.modules.ExportAll.{ExportAll}
use Rattle.swc_ecma_codegen_tree.specs.declared.modules.ExportDecl.{ExportDecl}
use Rattle.swc_ecma_codegen_tree.specs.declared.modules.ExportDefaultDecl.{ExportDefaultDecl}
use Rattle.swc_ecma_codegen_tree.specs.declared.modules.ExportDefaultExpr.{ExportDefaultExpr}
use Rattle.swc_ecma_codegen_tree.specs.declared.modules.ExportNamedSpecifier.{ExportNamedSpecifier}
use Rattle.swc_ecma_codegen_tree.specs.declared.modules.ExportNamespaceSpecifier.{ExportNamespaceSpecifier}
use Rattle.swc_ecma_codegen_tree.specs.declared.modules.ExportSpecifier.{ExportSpecifier}
use Rattle.swc_ecma_codegen_tree.specs.declared.modules.ExportSpecifier.TheVariants as exported
use Rattle.swc_ecma_codegen_tree.specs.declared.modules.ImportDecl.{ImportDecl}
use Rattle.swc_ecma_codegen_tree.specs.declared.modules.ImportNamedSpecifier.{ImportNamedSpecifier}
use Rattle.swc_ecma_codegen_tree.specs.declared.modules.ImportPhase.{ImportPhase}
use Rattle.swc_ecma_codegen_tree.specs.declared.modules.ImportPhase.TheVariants.{Evaluation, Source, Defer}
use Rattle.swc_ecma_codegen_tree.specs.declared.modules.ImportSpecifier.{ImportSpecifier}
use Rattle.swc_ecma_codegen_tree.specs.declared.modules.ImportSpecifier.TheVariants as imported
use Rattle.swc_ecma_codegen_tree.specs.declared.modules.ModuleExportName.{ModuleExportName}
use Rattle.swc_ecma_codegen_tree.specs.declared.modules.ModuleExportName.TheVariants as export_names
use Rattle.swc_ecma_codegen_tree.specs.declared.modules.NamedExport.{NamedExport}
use Rattle.swc_ecma_codegen_tree.specs.declared.programs.ModuleDecl.{ModuleDecl}
use Rattle.swc_ecma_codegen_tree.specs.declared.programs.ModuleDecl.TheVariants as module_decls
use Rattle.swc_ecma_codegen_grammar.specs.Phrases.{Phrase, Never, Nothing, RightBrace, Chosen, AttributesWord, ◌>◌, word, mark, ending, listed}
use Rattle.swc_ecma_codegen_grammar.specs.ClassPhrases.{class_expr}
use Rattle.swc_ecma_codegen_grammar.specs.DeclPhrases.{decl}
use Rattle.swc_ecma_codegen_grammar.specs.ElementPhrases.{closing_of}
use Rattle.swc_ecma_codegen_grammar.specs.FunctionPhrases.{word_if, fn_expr}
use Rattle.swc_ecma_codegen_grammar.specs.LitPhrases.{str_lit}
use Rattle.swc_ecma_codegen_grammar.specs.NamePhrases.{ident}
use Rattle.swc_ecma_codegen_grammar.specs.PatPhrases.{value_at}
use Rattle.swc_ecma_codegen_grammar.specs.TsDeclPhrases.{declare_word, ts_interface_decl, ts_import_equals_decl, ts_export_assignment, ts_namespace_export_decl}
use Rattle.swc_ecma_codegen_grammar.specs.declared.roles.Role.{Role}
use Rattle.swc_ecma_codegen_grammar.specs.declared.roles.Role.TheVariants.{ObjectLiteral, ClassHead, ClassWord, ClassTail, ExportedHead, ExportedTail}

-- `a` or `'b c'`
unfoldable pub module_export_name : ModuleExportName → Phrase
module_export_name (export_names.Ident n) = ident n
module_export_name (export_names.Str n) = str_lit n

-- `type` of `import type a from 'b'`, where it stands
unfoldable pub type_word : Bool → Phrase
type_word type_only = word_if type_only (word (codes "type"))

-- ---- imports

-- `a as` of `import { a as b } from 'c'`
unfoldable pub imported_as : Option ModuleExportName → Phrase
imported_as None = Nothing
imported_as (Some n) = module_export_name n > word (codes "as")

-- section 16.2.2: `a as b`, or `type a as b`
unfoldable pub import_named : ImportNamedSpecifier → Phrase
import_named n = type_word n.is_type_only > imported_as n.imported > ident n.local

-- among braces only such stand
unfoldable pub import_specifier : ImportSpecifier → Phrase
import_specifier (imported.Named n) = import_named n
import_specifier n = Never

-- `{ a, b as c }` or `* as a`
unfoldable pub import_bindings : List ImportSpecifier → Phrase
import_bindings (imported.Namespace n ∷ []) = mark (codes "*") > word (codes "as") > ident n.local
import_bindings ns = mark (codes "{") > listed (codes ",") (map import_specifier ns) > closing_of RightBrace ns

-- what stands after the default one, which is first: `, { b }`
unfoldable pub after_default : List ImportSpecifier → Phrase
after_default [] = Nothing
after_default (n ∷ ns) = mark (codes ",") > import_bindings (n ∷ ns)

-- `a, { b } from`
unfoldable pub import_clause : List ImportSpecifier → Phrase
import_clause [] = Nothing
import_clause (imported.Default n ∷ ns) = ident n.local > after_default ns > word (codes "from")
import_clause ns = import_bindings ns > word (codes "from")

-- a proposal: `source` of `import source a from 'b'`
unfoldable pub import_phase : ImportPhase → Phrase
import_phase Evaluation = Nothing
import_phase Source = word (codes "source")
import_phase Defer = word (codes "defer")

-- section 16.2.2: `with { type: 'json' }`, where there is such
unfoldable pub attributes : {X : Type 0} → (X → Role → Phrase) → Option (ObjectLitBox X) → Phrase
attributes f None = Nothing
attributes f (Some n) = Chosen AttributesWord > f n.node.value ObjectLiteral

-- `import a, { b as c } from 'd' with { type: 'json' };`, or `import type a from 'b';`
unfoldable pub import_decl : {X : Type 0} → (X → Role → Phrase) → ImportDecl X → Phrase
import_decl f n =
    word (codes "import") > type_word n.type_only > import_phase n.phase > import_clause n.specifiers.items > str_lit n.src > attributes f n.with > ending

-- ---- exports

-- `as b` of `export { a as b }`
unfoldable pub exported_as : Option ModuleExportName → Phrase
exported_as None = Nothing
exported_as (Some n) = word (codes "as") > module_export_name n

-- section 16.2.3: `a as b`, or `type a as b`
unfoldable pub export_named_specifier : ExportNamedSpecifier → Phrase
export_named_specifier n = type_word n.is_type_only > module_export_name n.orig > exported_as n.exported

-- among braces only such stand
unfoldable pub export_specifier : ExportSpecifier → Phrase
export_specifier (exported.Named n) = export_named_specifier n
export_specifier n = Never

-- `* as a`
unfoldable pub export_namespace : ExportNamespaceSpecifier → Phrase
export_namespace n = mark (codes "*") > word (codes "as") > module_export_name n.name

-- `{ a, b as c }`
unfoldable pub export_braces : List ExportSpecifier → Phrase
export_braces ns = mark (codes "{") > listed (codes ",") (map export_specifier ns) > closing_of RightBrace ns

-- `{ a }` or `* as a`, and both in a proposal
unfoldable pub export_clause : List ExportSpecifier → Phrase
export_clause (exported.Namespace n ∷ []) = export_namespace n
export_clause (exported.Namespace n ∷ m ∷ ns) = export_namespace n > mark (codes ",") > export_braces (m ∷ ns)
export_clause ns = export_braces ns

-- `from 'a'`, where it is so; without it there are no attributes
unfoldable pub from_clause : {X : Type 0} → (X → Role → Phrase) → Option (ObjectLitBox X) → Option Str → Phrase
from_clause f with_ (Some n) = word (codes "from") > str_lit n > attributes f with_
from_clause f None None = Nothing
from_clause f (Some n) None = Never

-- `export { a, b as c } from 'd';`, or `export type { a };`
unfoldable pub export_named : {X : Type 0} → (X → Role → Phrase) → NamedExport X → Phrase
export_named f n = word (codes "export") > type_word n.type_only > export_clause n.specifiers.items > from_clause f n.with n.src > ending

-- `export * from 'a';`, or `export type * from 'a';`
unfoldable pub export_all : {X : Type 0} → (X → Role → Phrase) → ExportAll X → Phrase
export_all f n =
    word (codes "export") > type_word n.type_only > mark (codes "*") > word (codes "from") > str_lit n.src > attributes f n.with > ending

-- what of a declaration stands before `export`: `@a` of `@a export class B {}`
unfoldable pub exported_head : {X : Type 0} → (X → Role → Phrase) → Decl X → Phrase
exported_head f (decls.Class n) = f n.class.node.value ClassHead
exported_head f n = Nothing

-- and what stands after it
unfoldable pub exported_tail : {X : Type 0} → (X → Role → Phrase) → Decl X → Phrase
exported_tail f (decls.Class n) = declare_word n.declare > f n.class.node.value ClassWord > ident n.ident > f n.class.node.value ClassTail
exported_tail f n = decl f n

-- `export let a = b;`
unfoldable pub export_decl : {X : Type 0} → (X → Role → Phrase) → ExportDecl X → Phrase
export_decl f n = f n.decl.node.value ExportedHead > word (codes "export") > f n.decl.node.value ExportedTail

-- `class {}` of `export default class {}`
unfoldable pub default_decl : {X : Type 0} → (X → Role → Phrase) → DefaultDecl X → Phrase
default_decl f (default_decls.Class n) = class_expr f n
default_decl f (default_decls.Fn n) = fn_expr f n
default_decl f (default_decls.TsInterfaceDecl n) = ts_interface_decl f n

unfoldable pub export_default_decl : {X : Type 0} → (X → Role → Phrase) → ExportDefaultDecl X → Phrase
export_default_decl f n = word (codes "export") > word (codes "default") > default_decl f n.decl

-- `export default a;`
unfoldable pub export_default_expr : {X : Type 0} → (X → Role → Phrase) → ExportDefaultExpr X → Phrase
export_default_expr f n = word (codes "export") > word (codes "default") > value_at f n.expr > ending

-- ---- all of them

unfoldable pub module_decl : {X : Type 0} → (X → Role → Phrase) → ModuleDecl X → Phrase
module_decl f (module_decls.Import n) = import_decl f n
module_decl f (module_decls.ExportDecl n) = export_decl f n
module_decl f (module_decls.ExportNamed n) = export_named f n
module_decl f (module_decls.ExportDefaultDecl n) = export_default_decl f n
module_decl f (module_decls.ExportDefaultExpr n) = export_default_expr f n
module_decl f (module_decls.ExportAll n) = export_all f n
module_decl f (module_decls.TsImportEquals n) = ts_import_equals_decl f n
module_decl f (module_decls.TsExportAssignment n) = ts_export_assignment f n
module_decl f (module_decls.TsNamespaceExport n) = ts_namespace_export_decl n
