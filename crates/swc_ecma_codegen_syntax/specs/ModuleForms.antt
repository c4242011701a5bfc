-- Scripts, modules, imports and exports: one production a node, with nonterminals. ECMA-262, section 16.
use Rattle.std.specs.Prelude.{Bool, true, false, ◌&&◌, ◌||◌, not, codes, string_bytes, List, [], ◌∷◌, length, ◌==◌, Option, Some, None}
use Rattle.swc_ecma_codegen_tree.specs.Links.{ObjectLitBox}
use Rattle.swc_ecma_codegen_tree.specs.declared.decls.Decl.{Decl}
use Rattle.swc_ecma_codegen_tree.specs.declared.decls.Decl.TheVariants as decls
use Rattle.swc_ecma_codegen_tree.specs.declared.idents.Ident.{Ident}
use Rattle.swc_ecma_codegen_tree.specs.declared.lits.Str.{Str}
use Rattle.swc_ecma_codegen_tree.specs.declared.modules.DefaultDecl.{DefaultDecl}
use Rattle.swc_ecma_codegen_tree.specs.declared.modules.DefaultDecl.TheVariants as default_decls
use Rattle.swc_ecma_codegen_tree.specs.declared.modules.ExportDefaultDecl.{ExportDefaultDecl}
use Rattle.swc_ecma_codegen_tree.specs.declared.modules.ExportAll.{ExportAll}
use Rattle.swc_ecma_codegen_tree.specs.declared.modules.ExportDecl.{ExportDecl}
use Rattle.swc_ecma_codegen_tree.specs.declared.modules.ExportDefaultExpr.{ExportDefaultExpr}
use Rattle.swc_ecma_codegen_tree.specs.declared.modules.ExportSpecifier.{ExportSpecifier}
use Rattle.swc_ecma_codegen_tree.specs.declared.modules.ExportSpecifier.TheVariants as exported
use Rattle.swc_ecma_codegen_tree.specs.declared.modules.ImportDecl.{ImportDecl}
use Rattle.swc_ecma_codegen_tree.specs.declared.modules.ImportSpecifier.{ImportSpecifier}
use Rattle.swc_ecma_codegen_tree.specs.declared.modules.ImportSpecifier.TheVariants as imported
use Rattle.swc_ecma_codegen_tree.specs.declared.modules.ModuleExportName.{ModuleExportName}
use Rattle.swc_ecma_codegen_tree.specs.declared.modules.ModuleExportName.TheVariants as export_names
use Rattle.swc_ecma_codegen_tree.specs.declared.modules.NamedExport.{NamedExport}
use Rattle.swc_ecma_codegen_tree.specs.declared.programs.Module.{Module}
use Rattle.swc_ecma_codegen_tree.specs.declared.programs.ModuleDecl.{ModuleDecl}
use Rattle.swc_ecma_codegen_tree.specs.declared.programs.ModuleDecl.TheVariants as module_decls
use Rattle.swc_ecma_codegen_tree.specs.declared.programs.ModuleItem.{ModuleItem}
use Rattle.swc_ecma_codegen_tree.specs.declared.programs.ModuleItem.TheVariants as module_items
use Rattle.swc_ecma_codegen_tree.specs.declared.programs.Program.{Program}
use Rattle.swc_ecma_codegen_tree.specs.declared.programs.Program.TheVariants as programs
use Rattle.swc_ecma_codegen_tree.specs.declared.programs.Script.{Script}
use Rattle.swc_ecma_codegen_grammar.specs.Phrases.{Never, Nothing, Chosen, AttributesWord, word, mark, ending}
use Rattle.swc_ecma_codegen_grammar.specs.LitPhrases.{str_lit}
use Rattle.swc_ecma_codegen_grammar.specs.ModulePhrases.{type_word, import_phase, import_clause, export_clause}
use Rattle.swc_ecma_codegen_grammar.specs.StmtPhrases.{shebang}
use Rattle.swc_ecma_codegen_grammar.specs.declared.roles.Role.TheVariants.{ObjectLiteral, ModuleDeclaration, ExportedHead, ExportedTail, ClassHead}
use Rattle.swc_ecma_codegen_syntax.specs.declared.lookahead.Lookahead.TheVariants.{DefaultStart}
use Rattle.swc_ecma_codegen_syntax.specs.declared.nonterminals.Nonterminal.TheVariants as nt
use Rattle.swc_ecma_codegen_syntax.specs.declared.parameters.Parameters.{Parameters}
use Rattle.swc_ecma_codegen_syntax.specs.Parameters.{of_script, of_module, with_in, in_list}
use Rattle.swc_ecma_codegen_syntax.specs.Forms.{Form, Fixed, Part, Shaped, Restricted, Provided, ByRule, ByScope, ByCore, ◌⇢◌}
use Rattle.swc_ecma_codegen_syntax.specs.declared.verdicts.Shape.TheVariants.{Attribute}
use Rattle.swc_ecma_codegen_syntax.specs.NameForms.{is_free, is_assignable, has_no_escape}
use Rattle.swc_ecma_codegen_syntax.specs.CallForms.{is_evaluation}
use Rattle.swc_ecma_codegen_syntax.specs.DeclForms.{decl_form}
use Rattle.swc_ecma_codegen_syntax.specs.StmtForms.{stmt_form, is_empty, list_form}
use Rattle.swc_ecma_codegen_syntax.specs.ClassForms.{class_rest_form, class_expr_form}
use Rattle.swc_ecma_codegen_syntax.specs.FunctionForms.{fn_default_form}

-- ---- names

-- `?` behind a name is of TypeScript, and of one with an escape it isn't asked here what it stands for
unfoldable pub is_plain : Ident → Bool
is_plain n = has_no_escape (string_bytes n.sym) && not n.optional

-- ModuleExportName: any IdentifierName, or a string
unfoldable pub is_export_name : ModuleExportName → Bool
is_export_name (export_names.Ident n) = not n.optional
is_export_name (export_names.Str n) = true

unfoldable pub is_optional_name : Option ModuleExportName → Bool
is_optional_name None = true
is_optional_name (Some n) = is_export_name n

-- ---- imports, 16.2.2

-- ImportedBinding, a BindingIdentifier
unfoldable pub is_bound : Parameters → Ident → Bool
is_bound c n = is_free c (string_bytes n.sym) && is_assignable c.is_strict (string_bytes n.sym)

unfoldable pub local_of : ImportSpecifier → Ident
local_of (imported.Named n) = n.local
local_of (imported.Default n) = n.local
local_of (imported.Namespace n) = n.local

-- `type` is of TypeScript
unfoldable pub is_plain_import : ImportSpecifier → Bool
is_plain_import (imported.Named n) = not n.is_type_only && (is_plain n.local && is_optional_name n.imported)
is_plain_import (imported.Default n) = is_plain n.local
is_plain_import (imported.Namespace n) = is_plain n.local

unfoldable pub are_bound : Parameters → List ImportSpecifier → Bool
are_bound c [] = true
are_bound c (x ∷ xs) = is_bound c (local_of x) && are_bound c xs

unfoldable pub are_plain_imports : List ImportSpecifier → Bool
are_plain_imports [] = true
are_plain_imports (x ∷ xs) = is_plain_import x && are_plain_imports xs

-- WithClause : with { WithEntries }, of ECMA-262, 2025, section 16.2.2
unfoldable pub attributes_form : {X : Type 0} → Parameters → Option (ObjectLitBox X) → Form X
attributes_form c None = Fixed Nothing
attributes_form c (Some n) = Provided ByCore false (Fixed (Chosen AttributesWord) ⇢ Shaped Attribute nt.PrimaryExpression (with_in c) ObjectLiteral n.node.value)

-- ImportDeclaration. `source` and `defer` are proposals.
unfoldable pub import_form : {X : Type 0} → Parameters → ImportDecl X → Form X
import_form c n =
    Provided ByScope (not n.type_only && (is_evaluation n.phase && are_plain_imports n.specifiers.items))
    (Provided ByRule (are_bound c n.specifiers.items)
    (Fixed (word (codes "import")) ⇢ Fixed (type_word n.type_only) ⇢ Fixed (import_phase n.phase) ⇢ Fixed (import_clause n.specifiers.items)
    ⇢ Fixed (str_lit n.src) ⇢ attributes_form c n.with ⇢ Fixed ending))

-- ---- exports, 16.2.3

-- without `from` a name that is exported is one that the module declares: an IdentifierReference
unfoldable pub is_declared_name : Parameters → ModuleExportName → Bool
is_declared_name c (export_names.Ident n) = is_free c (string_bytes n.sym)
is_declared_name c (export_names.Str n) = false

unfoldable pub is_declared : Parameters → ExportSpecifier → Bool
is_declared c (exported.Named n) = is_declared_name c n.orig
is_declared c n = false

unfoldable pub are_declared : Parameters → List ExportSpecifier → Bool
are_declared c [] = true
are_declared c (x ∷ xs) = is_declared c x && are_declared c xs

unfoldable pub is_named : ExportSpecifier → Bool
is_named (exported.Named n) = true
is_named n = false

unfoldable pub are_named : List ExportSpecifier → Bool
are_named [] = true
are_named (x ∷ xs) = is_named x && are_named xs

unfoldable pub is_namespace : ExportSpecifier → Bool
is_namespace (exported.Namespace n) = true
is_namespace n = false

unfoldable pub begins_namespace : List ExportSpecifier → Bool
begins_namespace [] = false
begins_namespace (x ∷ xs) = is_namespace x

-- with it: names in braces, or `* as a` alone
unfoldable pub are_reexported : List ExportSpecifier → Bool
are_reexported xs = (length xs == 1 && begins_namespace xs) || are_named xs

unfoldable pub are_exported : Parameters → Option Str → List ExportSpecifier → Bool
are_exported c None xs = are_declared c xs
are_exported c (Some from) xs = are_reexported xs

-- a name with an escape is spelled as it is
unfoldable pub is_plain_name : ModuleExportName → Bool
is_plain_name (export_names.Ident n) = is_plain n
is_plain_name (export_names.Str n) = true

unfoldable pub is_plain_export : ExportSpecifier → Bool
is_plain_export (exported.Named n) = not n.is_type_only && (is_plain_name n.orig && is_optional_name n.exported)
is_plain_export (exported.Namespace n) = is_export_name n.name
is_plain_export (exported.Default n) = true

unfoldable pub are_plain_exports : List ExportSpecifier → Bool
are_plain_exports [] = true
are_plain_exports (x ∷ xs) = is_plain_export x && are_plain_exports xs

-- FromClause
unfoldable pub from_form : {X : Type 0} → Parameters → Option (ObjectLitBox X) → Option Str → Form X
from_form c attributes (Some n) = Fixed (word (codes "from")) ⇢ Fixed (str_lit n) ⇢ attributes_form c attributes
from_form c None None = Fixed Nothing
from_form c (Some n) None = Fixed Never

-- export NamedExports; export ExportFromClause FromClause
unfoldable pub export_named_form : {X : Type 0} → Parameters → NamedExport X → Form X
export_named_form c n =
    Provided ByScope (not n.type_only && are_plain_exports n.specifiers.items)
    (Provided ByRule (are_exported c n.src n.specifiers.items)
    (Fixed (word (codes "export")) ⇢ Fixed (type_word n.type_only) ⇢ Fixed (export_clause n.specifiers.items) ⇢ from_form c n.with n.src ⇢ Fixed ending))

-- export * FromClause
unfoldable pub export_all_form : {X : Type 0} → Parameters → ExportAll X → Form X
export_all_form c n =
    Provided ByScope (not n.type_only)
    (Fixed (word (codes "export")) ⇢ Fixed (type_word n.type_only) ⇢ Fixed (mark (codes "*")) ⇢ Fixed (word (codes "from")) ⇢ Fixed (str_lit n.src)
    ⇢ attributes_form c n.with ⇢ Fixed ending)

-- What stands before `export`, and behind it: no `using`.
unfoldable pub exported_head_form : {X : Type 0} → Parameters → Decl X → Form X
exported_head_form c (decls.Class n) = Part nt.DecoratorList c ClassHead n.class.node.value
exported_head_form c n = Fixed Nothing

unfoldable pub exported_tail_form : {X : Type 0} → Parameters → Decl X → Form X
exported_tail_form c (decls.Class n) = class_rest_form c n
exported_tail_form c (decls.Using n) = Provided ByRule false (Fixed Never)
exported_tail_form c n = decl_form c n

-- export VariableStatement, export Declaration
unfoldable pub export_decl_form : {X : Type 0} → Parameters → ExportDecl X → Form X
export_decl_form c n =
    Part nt.ExportedHead c ExportedHead n.decl.node.value ⇢ Fixed (word (codes "export")) ⇢ Part nt.StatementListItem c ExportedTail n.decl.node.value

-- export default [lookahead ∉ { function, async function, class }] AssignmentExpression ;
unfoldable pub export_default_form : {X : Type 0} → Parameters → ExportDefaultExpr X → Form X
export_default_form c n =
    Fixed (word (codes "export")) ⇢ Fixed (word (codes "default")) ⇢ Restricted DefaultStart nt.AssignmentExpression (with_in c) false n.expr.node.value ⇢ Fixed ending

-- HoistableDeclaration[+Default], ClassDeclaration[+Default]; an interface is of TypeScript
unfoldable pub default_form : {X : Type 0} → Parameters → DefaultDecl X → Form X
default_form c (default_decls.Class n) = class_expr_form c n
default_form c (default_decls.Fn n) = fn_default_form c n
default_form c (default_decls.TsInterfaceDecl n) = Provided ByScope false (Fixed Never)

unfoldable pub default_decl_form : {X : Type 0} → Parameters → ExportDefaultDecl X → Form X
default_decl_form c n = Fixed (word (codes "export")) ⇢ Fixed (word (codes "default")) ⇢ default_form c n.decl

unfoldable pub module_decl_form : {X : Type 0} → Parameters → ModuleDecl X → Form X
module_decl_form c (module_decls.Import n) = import_form c n
module_decl_form c (module_decls.ExportDecl n) = export_decl_form c n
module_decl_form c (module_decls.ExportNamed n) = export_named_form c n
module_decl_form c (module_decls.ExportDefaultDecl n) = default_decl_form c n
module_decl_form c (module_decls.ExportDefaultExpr n) = export_default_form c n
module_decl_form c (module_decls.ExportAll n) = export_all_form c n
module_decl_form c n = Provided ByScope false (Fixed Never)

-- ---- programs

-- ImportDeclaration, ExportDeclaration, StatementListItem
unfoldable pub item_form : {X : Type 0} → Parameters → ModuleItem X → Form X
item_form c (module_items.ModuleDecl n) = Part nt.ModuleDeclaration c ModuleDeclaration n.node.value
item_form c (module_items.Stmt n) = stmt_form c n

unfoldable pub is_empty_item : {X : Type 0} → ModuleItem X → Bool
is_empty_item (module_items.Stmt n) = is_empty n
is_empty_item n = false

unfoldable pub begins_empty_item : {X : Type 0} → List (ModuleItem X) → Bool
begins_empty_item [] = false
begins_empty_item (x ∷ xs) = is_empty_item x

-- 16.2: ModuleItemList
unfoldable pub items_form : {X : Type 0} → Parameters → List (ModuleItem X) → Form X
items_form c [] = Fixed Nothing
items_form c (x ∷ xs) = item_form (in_list (begins_empty_item xs) c) x ⇢ items_form c xs

unfoldable pub module_form : {X : Type 0} → Parameters → Module X → Form X
module_form c n = Fixed (shebang n.shebang) ⇢ items_form c n.body.items

-- 16.1
unfoldable pub script_form : {X : Type 0} → Parameters → Script X → Form X
script_form c n = Fixed (shebang n.shebang) ⇢ list_form c n.body.items

-- A program, for an emission that minifies or one that doesn't.
unfoldable pub program_form : {X : Type 0} → Bool → Program X → Form X
program_form minify (programs.Module n) = module_form (record of_module { minify = minify }) n
program_form minify (programs.Script n) = script_form (record of_script { minify = minify }) n
