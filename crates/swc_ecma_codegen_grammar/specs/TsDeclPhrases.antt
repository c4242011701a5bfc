-- Declarations of TypeScript: one production a node. `f` says what is read of what a link holds, in its role. TypeScript handbook, the
-- section that stands with each.
use Rattle.std.specs.Prelude.{Bool, true, false, List, [], ◌∷◌, map, codes, Option, Some, None}
use Rattle.swc_ecma_codegen_tree.specs.Links.{TsNamespaceBodyBox}
use Rattle.swc_ecma_codegen_tree.specs.declared.ts_decls.TsEnumDecl.{TsEnumDecl}
use Rattle.swc_ecma_codegen_tree.specs.declared.ts_decls.TsEnumMember.{TsEnumMember}
use Rattle.swc_ecma_codegen_tree.specs.declared.ts_decls.TsEnumMemberId.{TsEnumMemberId}
use Rattle.swc_ecma_codegen_tree.specs.declared.ts_decls.TsEnumMemberId.TheVariants as enum_names
use Rattle.swc_ecma_codegen_tree.specs.declared.ts_decls.TsExportAssignment.{TsExportAssignment}
use Rattle.swc_ecma_codegen_tree.specs.declared.ts_decls.TsExprWithTypeArgs.{TsExprWithTypeArgs}
use Rattle.swc_ecma_codegen_tree.specs.declared.ts_decls.TsExternalModuleRef.{TsExternalModuleRef}
use Rattle.swc_ecma_codegen_tree.specs.declared.ts_decls.TsImportEqualsDecl.{TsImportEqualsDecl}
use Rattle.swc_ecma_codegen_tree.specs.declared.ts_decls.TsInterfaceDecl.{TsInterfaceDecl}
use Rattle.swc_ecma_codegen_tree.specs.declared.ts_decls.TsModuleDecl.{TsModuleDecl}
use Rattle.swc_ecma_codegen_tree.specs.declared.ts_decls.TsModuleName.{TsModuleName}
use Rattle.swc_ecma_codegen_tree.specs.declared.ts_decls.TsModuleName.TheVariants as module_names
use Rattle.swc_ecma_codegen_tree.specs.declared.ts_decls.TsModuleRef.{TsModuleRef}
use Rattle.swc_ecma_codegen_tree.specs.declared.ts_decls.TsModuleRef.TheVariants as module_refs
use Rattle.swc_ecma_codegen_tree.specs.declared.ts_decls.TsNamespaceExportDecl.{TsNamespaceExportDecl}
use Rattle.swc_ecma_codegen_tree.specs.declared.ts_decls.TsTypeAliasDecl.{TsTypeAliasDecl}
use Rattle.swc_ecma_codegen_grammar.specs.Phrases.{Phrase, Nothing, ◌>◌, word, mark, ending, listed, where_, is_possible}
use Rattle.swc_ecma_codegen_grammar.specs.AnnotationPhrases.{type_args, type_params}
use Rattle.swc_ecma_codegen_grammar.specs.FunctionPhrases.{word_if}
use Rattle.swc_ecma_codegen_grammar.specs.LitPhrases.{str_lit}
use Rattle.swc_ecma_codegen_grammar.specs.MemberPhrases.{interface_body_at}
use Rattle.swc_ecma_codegen_grammar.specs.NamePhrases.{ident}
use Rattle.swc_ecma_codegen_grammar.specs.PatPhrases.{value_at, initializer}
use Rattle.swc_ecma_codegen_grammar.specs.TypePhrases.{type_at}
use Rattle.swc_ecma_codegen_grammar.specs.declared.roles.Role.{Role}
use Rattle.swc_ecma_codegen_grammar.specs.declared.roles.Role.TheVariants.{EntityName, DottedBody}

-- `declare` of `declare let a;`, where it stands. Section "Declaration Files".
unfoldable pub declare_word : Bool → Phrase
declare_word declared = word_if declared (word (codes "declare"))

-- ---- interfaces and aliases. Sections "Object Types" and "Everyday Types".

-- `A<B>`
unfoldable pub ts_expr_with_type_args : {X : Type 0} → (X → Role → Phrase) → TsExprWithTypeArgs X → Phrase
ts_expr_with_type_args f n = value_at f n.expr > type_args f n.type_args

-- `extends A<B>, C`, where there is such
unfoldable pub extends_clause : {X : Type 0} → (X → Role → Phrase) → List (TsExprWithTypeArgs X) → Phrase
extends_clause f [] = Nothing
extends_clause f (n ∷ ns) = word (codes "extends") > listed (codes ",") (map (ts_expr_with_type_args f) (n ∷ ns))

-- `declare interface A<B> extends C { d: E; }`
unfoldable pub ts_interface_decl : {X : Type 0} → (X → Role → Phrase) → TsInterfaceDecl X → Phrase
ts_interface_decl f n =
    declare_word n.declare > word (codes "interface") > ident n.id > type_params f n.type_params > extends_clause f n.extends.items
    > interface_body_at f n.body

-- `declare type A<B> = C;`
unfoldable pub ts_type_alias_decl : {X : Type 0} → (X → Role → Phrase) → TsTypeAliasDecl X → Phrase
ts_type_alias_decl f n =
    declare_word n.declare > word (codes "type") > ident n.id > type_params f n.type_params > mark (codes "=") > type_at f n.type_ann > ending

-- ---- enums. Section "Enums".

unfoldable pub ts_enum_member_id : TsEnumMemberId → Phrase
ts_enum_member_id (enum_names.Ident n) = ident n
ts_enum_member_id (enum_names.Str n) = str_lit n

-- `a`, `"a" = 1`
unfoldable pub ts_enum_member : {X : Type 0} → (X → Role → Phrase) → TsEnumMember X → Phrase
ts_enum_member f n = ts_enum_member_id n.id > initializer f n.init

-- `declare const enum A { B, C = 1 }`
unfoldable pub ts_enum_decl : {X : Type 0} → (X → Role → Phrase) → TsEnumDecl X → Phrase
ts_enum_decl f n =
    declare_word n.declare > word_if n.is_const (word (codes "const")) > word (codes "enum") > ident n.id
    > mark (codes "{") > listed (codes ",") (map (ts_enum_member f) n.members.items) > mark (codes "}")

-- ---- namespaces and modules. Section "Namespaces".

unfoldable pub ts_module_name : TsModuleName → Phrase
ts_module_name (module_names.Ident n) = word (codes "namespace") > ident n
ts_module_name (module_names.Str n) = word (codes "module") > str_lit n

-- `namespace a`, `module "a"` or `global`, which stands there for the name; that is a name or a string all the same
unfoldable pub module_head : Bool → TsModuleName → Phrase
module_head true n = where_ (is_possible (ts_module_name n)) (word (codes "global"))
module_head false n = ts_module_name n

-- `{ a; }` or `.b { a; }`, or the semicolon in its place
unfoldable pub module_tail : {X : Type 0} → (X → Role → Phrase) → Option (TsNamespaceBodyBox X) → Phrase
module_tail f None = ending
module_tail f (Some n) = f n.node.value DottedBody

-- `declare namespace a.b { c; }`
unfoldable pub ts_module_decl : {X : Type 0} → (X → Role → Phrase) → TsModuleDecl X → Phrase
ts_module_decl f n = declare_word n.declare > module_head n.global n.id > module_tail f n.body

-- ---- imports and exports. Section "Modules".

-- `require("a")`
unfoldable pub ts_external_module_ref : TsExternalModuleRef → Phrase
ts_external_module_ref n = word (codes "require") > mark (codes "(") > str_lit n.expr > mark (codes ")")

unfoldable pub ts_module_ref : {X : Type 0} → (X → Role → Phrase) → TsModuleRef X → Phrase
ts_module_ref f (module_refs.TsEntityName n) = f n.node.value EntityName
ts_module_ref f (module_refs.TsExternalModuleRef n) = ts_external_module_ref n

-- `export import type a = b.c;`
unfoldable pub ts_import_equals_decl : {X : Type 0} → (X → Role → Phrase) → TsImportEqualsDecl X → Phrase
ts_import_equals_decl f n =
    word_if n.is_export (word (codes "export")) > word (codes "import") > word_if n.is_type_only (word (codes "type")) > ident n.id
    > mark (codes "=") > ts_module_ref f n.module_ref > ending

-- `export = a;`
unfoldable pub ts_export_assignment : {X : Type 0} → (X → Role → Phrase) → TsExportAssignment X → Phrase
ts_export_assignment f n = word (codes "export") > mark (codes "=") > value_at f n.expr > ending

-- `export as namespace a;`
unfoldable pub ts_namespace_export_decl : TsNamespaceExportDecl → Phrase
ts_namespace_export_decl n = word (codes "export") > word (codes "as") > word (codes "namespace") > ident n.id > ending
