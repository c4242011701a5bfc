-- What is written of declarations of TypeScript.
use Rattle.std.specs.Prelude.{ℕ, Bool, if◌then◌else◌, List, [], ◌∷◌, map, codes, Option, Some, None}
use Rattle.swc_ecma_codegen_common.specs.declared.positions.Span.{Span}
use Rattle.swc_ecma_codegen_tree.specs.Links.{TsNamespaceBodyBox}
use Rattle.swc_ecma_codegen_tree.specs.declared.ts_decls.TsEnumDecl.{TsEnumDecl}
use Rattle.swc_ecma_codegen_tree.specs.declared.ts_decls.TsEnumMember.{TsEnumMember}
use Rattle.swc_ecma_codegen_tree.specs.declared.ts_decls.TsEnumMemberId.{TsEnumMemberId}
use Rattle.swc_ecma_codegen_tree.specs.declared.ts_decls.TsEnumMemberId.TheVariants as enum_names
use Rattle.swc_ecma_codegen_tree.specs.declared.ts_decls.TsExportAssignment.{TsExportAssignment}
use Rattle.swc_ecma_codegen_tree.specs.declared.ts_decls.TsExprWithTypeArgs.{TsExprWithTypeArgs}
use Rattle.swc_ecma_codegen_tree.specs.declared.ts_decls.TsExternalModuleRef.{TsExternalModuleRef}
use Rattle.swc_ecma_codegen_tree.specs.declared.ts_decls.TsImportEqualsDecl.{TsImportEqualsDecl}
use Rattle.swc_ecma_codegen_tree.specs.declared.ts_decls.TsInterfaceDecl.{TsInterfaceDecl}
use Rattle.swc_ecma_codegen_tree.specs.declared.ts_decls.TsModuleDecl.{TsModuleDecl}
use Rattle.swc_ecma_codegen_tree.specs.declared.ts_decls.TsModuleName.{TsModuleName}
use Rattle.swc_ecma_codegen_tree.specs.declared.ts_decls.TsModuleName.TheVariants as module_names
use Rattle.swc_ecma_codegen_tree.specs.declared.ts_decls.TsModuleRef.{TsModuleRef}
use Rattle.swc_ecma_codegen_tree.specs.declared.ts_decls.TsModuleRef.TheVariants as module_refs
use Rattle.swc_ecma_codegen_tree.specs.declared.ts_decls.TsNamespaceExportDecl.{TsNamespaceExportDecl}
use Rattle.swc_ecma_codegen_tree.specs.declared.ts_decls.TsTypeAliasDecl.{TsTypeAliasDecl}
use Rattle.swc_ecma_codegen_tokens.specs.Run.{Part}
use Rattle.swc_ecma_codegen_tokens.specs.Lists.{list}
use Rattle.swc_ecma_codegen_tokens.specs.Lits.{str_lit}
use Rattle.swc_ecma_codegen_tokens.specs.Words.{keyword, punct, semi, space, formatting_space, leading_comments}
use Rattle.swc_ecma_codegen_emit.specs.declared.nodes.Context.TheVariants.{Plain, Dotted}
use Rattle.swc_ecma_codegen_emit.specs.Places.{Place, Whole}
use Rattle.swc_ecma_codegen_emit.specs.Annotations.{type_args, type_params, word_before}
use Rattle.swc_ecma_codegen_emit.specs.Exprs.{ident, spaced_punct}
use Rattle.swc_ecma_codegen_emit.specs.Lists.{child_of}
use Rattle.swc_ecma_codegen_emit.specs.Pats.{initializer}
use Rattle.swc_ecma_codegen_emit.specs.Types.{type_at}

-- `declare` and a blank, where it stands
unfoldable pub declare_word : Bool → Part
declare_word declared rest = word_before declared (codes "declare") rest

-- ---- interfaces and aliases

-- `A<B>`
unfoldable pub ts_expr_with_type_args : {X : Type 0} → (X → Place → Part) → TsExprWithTypeArgs X → Part
ts_expr_with_type_args items n rest = leading_comments n.span.lo (items n.expr.node.value (Whole Plain) (type_args items Plain n.type_args rest))

abbrev pub extended_place : {X : Type 0} → TsExprWithTypeArgs X → Span
extended_place n = n.span

-- `HeritageClauseTypes`
abbrev pub extended_format : ℕ
extended_format = 272

abbrev pub extended_list : {X : Type 0} → (X → Place → Part) → Span → List (TsExprWithTypeArgs X) → Part
extended_list items span ns = list extended_format span (map (child_of extended_place (λ n place. ts_expr_with_type_args items n)) ns)

-- ` extends A<B>, C`
unfoldable pub some_extends : {X : Type 0} → (X → Place → Part) → Span → List (TsExprWithTypeArgs X) → Part
some_extends items span ns rest = space (keyword None (codes "extends") (space (extended_list items span ns rest)))

unfoldable pub extends_clause : {X : Type 0} → (X → Place → Part) → Span → List (TsExprWithTypeArgs X) → Part
extends_clause items span [] rest = rest
extends_clause items span (n ∷ ns) rest = some_extends items span (n ∷ ns) rest

-- `declare interface A<B> extends C { d: E; }`
unfoldable pub ts_interface_decl : {X : Type 0} → (X → Place → Part) → TsInterfaceDecl X → Part
ts_interface_decl items n rest =
    leading_comments n.span.lo
    (declare_word n.declare
    (keyword None (codes "interface")
    (space
    (ident n.id
    (type_params items n.type_params
    (extends_clause items n.span n.extends.items
    (formatting_space (items n.body.node.value (Whole Plain) rest))))))))

-- `declare type A<B> = C;`
unfoldable pub ts_type_alias_decl : {X : Type 0} → (X → Place → Part) → TsTypeAliasDecl X → Part
ts_type_alias_decl items n rest =
    leading_comments n.span.lo
    (declare_word n.declare
    (keyword None (codes "type")
    (space
    (ident n.id
    (type_params items n.type_params
    (spaced_punct (codes "=") (type_at items n.type_ann (semi rest))))))))

-- ---- enums

unfoldable pub ts_enum_member_id : TsEnumMemberId → Part
ts_enum_member_id (enum_names.Ident n) rest = ident n rest
ts_enum_member_id (enum_names.Str n) rest = str_lit n rest

-- `a`, `"a" = 1`
unfoldable pub ts_enum_member : {X : Type 0} → (X → Place → Part) → TsEnumMember X → Part
ts_enum_member items n rest = leading_comments n.span.lo (ts_enum_member_id n.id (initializer items n.init rest))

abbrev pub enum_member_place : {X : Type 0} → TsEnumMember X → Span
enum_member_place n = n.span

-- `EnumMembers`
abbrev pub enum_format : ℕ
enum_format = 81

abbrev pub enum_members : {X : Type 0} → (X → Place → Part) → TsEnumDecl X → Part
enum_members items n = list enum_format n.span (map (child_of enum_member_place (λ m place. ts_enum_member items m)) n.members.items)

-- `{ B, C = 1 }`
unfoldable pub enum_body : {X : Type 0} → (X → Place → Part) → TsEnumDecl X → Part
enum_body items n rest = punct (codes "{") (enum_members items n (punct (codes "}") rest))

-- `declare const enum A { B, C = 1 }`
unfoldable pub ts_enum_decl : {X : Type 0} → (X → Place → Part) → TsEnumDecl X → Part
ts_enum_decl items n rest =
    leading_comments n.span.lo
    (declare_word n.declare
    (word_before n.is_const (codes "const")
    (keyword None (codes "enum")
    (space (ident n.id (formatting_space (enum_body items n rest)))))))

-- ---- namespaces and modules

unfoldable pub ts_module_name : TsModuleName → Part
ts_module_name (module_names.Ident n) rest = keyword None (codes "namespace") (space (ident n rest))
ts_module_name (module_names.Str n) rest = keyword None (codes "module") (space (str_lit n rest))

-- `namespace a`, `module "a"` or `global`
unfoldable pub module_head : Bool → TsModuleName → Part
module_head global n rest = if global then keyword None (codes "global") rest else ts_module_name n rest

-- `.b { c; }`, ` { c; }`, or the semicolon in its place
unfoldable pub module_tail : {X : Type 0} → (X → Place → Part) → Option (TsNamespaceBodyBox X) → Part
module_tail items None rest = semi rest
module_tail items (Some n) rest = items n.node.value (Whole Dotted) rest

-- `declare namespace a.b { c; }`
unfoldable pub ts_module_decl : {X : Type 0} → (X → Place → Part) → TsModuleDecl X → Part
ts_module_decl items n rest = leading_comments n.span.lo (declare_word n.declare (module_head n.global n.id (module_tail items n.body rest)))

-- ---- imports and exports

-- `require("a")`
unfoldable pub ts_external_module_ref : TsExternalModuleRef → Part
ts_external_module_ref n rest =
    leading_comments n.span.lo (keyword None (codes "require") (punct (codes "(") (str_lit n.expr (punct (codes ")") rest))))

unfoldable pub ts_module_ref : {X : Type 0} → (X → Place → Part) → TsModuleRef X → Part
ts_module_ref items (module_refs.TsEntityName n) rest = items n.node.value (Whole Plain) rest
ts_module_ref items (module_refs.TsExternalModuleRef n) rest = ts_external_module_ref n rest

-- `export import type a = b.c;`
unfoldable pub ts_import_equals_decl : {X : Type 0} → (X → Place → Part) → TsImportEqualsDecl X → Part
ts_import_equals_decl items n rest =
    leading_comments n.span.lo
    (word_before n.is_export (codes "export")
    (keyword None (codes "import")
    (space
    (word_before n.is_type_only (codes "type")
    (ident n.id (spaced_punct (codes "=") (ts_module_ref items n.module_ref (semi rest))))))))

-- `export = a;`
unfoldable pub ts_export_assignment : {X : Type 0} → (X → Place → Part) → TsExportAssignment X → Part
ts_export_assignment items n rest =
    leading_comments n.span.lo (keyword None (codes "export") (spaced_punct (codes "=") (items n.expr.node.value (Whole Plain) (semi rest))))

-- `export as namespace a;`
unfoldable pub ts_namespace_export_decl : TsNamespaceExportDecl → Part
ts_namespace_export_decl n rest =
    leading_comments n.span.lo
    (keyword None (codes "export")
    (space (keyword None (codes "as") (space (keyword None (codes "namespace") (space (ident n.id (semi rest))))))))
