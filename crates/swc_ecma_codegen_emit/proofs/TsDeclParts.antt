-- What is written of declarations of TypeScript is what they read as.
use Rattle.std.proofs.Common.{Bool, true, false, refl, List, [], ◌∷◌, codes, Option, Some, None}
use Rattle.swc_ecma_codegen_common.specs.declared.positions.Span.{Span}
use Rattle.swc_ecma_codegen_tree.specs.Links.{TsNamespaceBodyBox}
use Rattle.swc_ecma_codegen_tree.specs.declared.ts_decls.TsEnumDecl.{TsEnumDecl}
use Rattle.swc_ecma_codegen_tree.specs.declared.ts_decls.TsEnumMember.{TsEnumMember}
use Rattle.swc_ecma_codegen_tree.specs.declared.ts_decls.TsEnumMemberId.{TsEnumMemberId}
use Rattle.swc_ecma_codegen_tree.specs.declared.ts_decls.TsEnumMemberId.TheVariants as enum_names
use Rattle.swc_ecma_codegen_tree.specs.declared.ts_decls.TsExportAssignment.{TsExportAssignment}
use Rattle.swc_ecma_codegen_tree.specs.declared.ts_decls.TsExprWithTypeArgs.{TsExprWithTypeArgs}
use Rattle.swc_ecma_codegen_tree.specs.declared.ts_decls.TsExternalModuleRef.{TsExternalModuleRef}
use Rattle.swc_ecma_codegen_tree.specs.declared.ts_decls.TsImportEqualsDecl.{TsImportEqualsDecl}
use Rattle.swc_ecma_codegen_tree.specs.declared.ts_decls.TsInterfaceDecl.{TsInterfaceDecl}
use Rattle.swc_ecma_codegen_tree.specs.declared.ts_decls.TsModuleDecl.{TsModuleDecl}
use Rattle.swc_ecma_codegen_tree.specs.declared.ts_decls.TsModuleName.{TsModuleName}
use Rattle.swc_ecma_codegen_tree.specs.declared.ts_decls.TsModuleName.TheVariants as module_names
use Rattle.swc_ecma_codegen_tree.specs.declared.ts_decls.TsModuleRef.{TsModuleRef}
use Rattle.swc_ecma_codegen_tree.specs.declared.ts_decls.TsModuleRef.TheVariants as module_refs
use Rattle.swc_ecma_codegen_tree.specs.declared.ts_decls.TsNamespaceExportDecl.{TsNamespaceExportDecl}
use Rattle.swc_ecma_codegen_tree.specs.declared.ts_decls.TsTypeAliasDecl.{TsTypeAliasDecl}
use Rattle.swc_ecma_codegen_grammar.specs.Phrases.{mark, is_possible}
use Rattle.swc_ecma_codegen_grammar.specs.TsDeclPhrases as lists
use Rattle.swc_ecma_codegen_grammar.specs.declared.roles.Role.TheVariants.{InterfaceBody, DottedBody}
use Rattle.swc_ecma_codegen_tokens.specs.Run.{Env}
use Rattle.swc_ecma_codegen_tokens.specs.Words.{punct}
use Rattle.swc_ecma_codegen_tokens.proofs.Listing.ListLaws.{prints_list, prints_bracketed}
use Rattle.swc_ecma_codegen_tokens.proofs.Reading.Phrased.{Prints, PrintsAt, prints_wider, loosened, then, after, prints_nothing, prints_keyword, prints_punct, prints_semi, prints_where}
use Rattle.swc_ecma_codegen_tokens.proofs.Reading.Printed.{writes_space, writes_formatting_space}
use Rattle.swc_ecma_codegen_tokens.proofs.Commenting.CommentPrints.{writes_leading}
use Rattle.swc_ecma_codegen_tokens.proofs.Filling.Shapes.{open_, ended_if_any, ended}
use Rattle.swc_ecma_codegen_tokens.proofs.LiteralTokens.StringPrints.{prints_str}
use Rattle.swc_ecma_codegen_emit.specs.declared.nodes.Context.TheVariants.{Plain}
use Rattle.swc_ecma_codegen_emit.specs.Places.{Whole}
use Rattle.swc_ecma_codegen_emit.specs.TsDecls as words
use Rattle.swc_ecma_codegen_emit.specs.TsDecls.{extended_format, extended_place, enum_format, enum_member_place}
use Rattle.swc_ecma_codegen_emit.proofs.AnnotationParts.{type_args_print, type_params_print, word_before_prints, word_space_prints, no_line}
use Rattle.swc_ecma_codegen_emit.proofs.ExprParts.{ident_prints, spaced_prints}
use Rattle.swc_ecma_codegen_emit.proofs.Linked.{Linked, expr_at}
use Rattle.swc_ecma_codegen_emit.proofs.MarkWords as marks
use Rattle.swc_ecma_codegen_emit.proofs.PatParts.{initializer_prints}
use Rattle.swc_ecma_codegen_emit.proofs.TsDeclWords as decl_words
use Rattle.swc_ecma_codegen_emit.proofs.TypeParts.{type_at, entity_at}

pub declare_prints : (env : Env) (declared : Bool) → PrintsAt open_ env (words.declare_word declared) (lists.declare_word declared)
unfolding words.declare_word lists.declare_word
declare_prints env declared = word_before_prints env declared (codes "declare") decl_words.declare_word

-- ---- interfaces and aliases

pub expr_with_type_args_prints : {X : Type 0} (l : Linked X) (n : TsExprWithTypeArgs X) → Prints l.env (words.ts_expr_with_type_args l.items n) (lists.ts_expr_with_type_args l.reads n)
unfolding words.ts_expr_with_type_args lists.ts_expr_with_type_args
expr_with_type_args_prints l n = after (writes_leading l.env n.span.lo) (then (expr_at l n.expr Plain) (type_args_print l Plain n.type_args))

extends_print : {X : Type 0} (l : Linked X) (span : Span) (ns : List (TsExprWithTypeArgs X)) → PrintsAt ended_if_any l.env (words.extends_clause l.items span ns) (lists.extends_clause l.reads ns)
unfolding words.extends_clause words.some_extends lists.extends_clause
extends_print l span [] = prints_wider ended_if_any refl prints_nothing
extends_print l span (n ∷ ns) =
    prints_wider ended_if_any refl
    (after (writes_space l.env)
    (then (word_space_prints l.env (codes "extends") marks.extends_word)
    (prints_list l.env extended_format span extended_place (words.ts_expr_with_type_args l.items) (lists.ts_expr_with_type_args l.reads) (λ m. loosened (expr_with_type_args_prints l m)) refl refl refl refl (n ∷ ns))))

pub interface_prints : {X : Type 0} (l : Linked X) (n : TsInterfaceDecl X) → Prints l.env (words.ts_interface_decl l.items n) (lists.ts_interface_decl l.reads n)
unfolding words.ts_interface_decl lists.ts_interface_decl
interface_prints l n =
    after (writes_leading l.env n.span.lo)
    (then (declare_prints l.env n.declare)
    (then (word_space_prints l.env (codes "interface") decl_words.interface_word)
    (then (ident_prints l n.id)
    (then (type_params_print l n.type_params)
    (then (extends_print l n.span n.extends.items) (after (writes_formatting_space l.env) (l.law n.body.node.value (Whole Plain) InterfaceBody)))))))

pub alias_prints : {X : Type 0} (l : Linked X) (n : TsTypeAliasDecl X) → PrintsAt ended l.env (words.ts_type_alias_decl l.items n) (lists.ts_type_alias_decl l.reads n)
unfolding words.ts_type_alias_decl lists.ts_type_alias_decl
alias_prints l n =
    after (writes_leading l.env n.span.lo)
    (then (declare_prints l.env n.declare)
    (then (word_space_prints l.env (codes "type") decl_words.type_word)
    (then (ident_prints l n.id)
    (then (type_params_print l n.type_params)
    (then (spaced_prints l.env (codes "=") refl marks.equal) (then (type_at l n.type_ann) (prints_semi l.env)))))))

-- ---- enums

member_id_prints : {X : Type 0} (l : Linked X) (n : TsEnumMemberId) → Prints l.env (words.ts_enum_member_id n) (lists.ts_enum_member_id n)
unfolding words.ts_enum_member_id lists.ts_enum_member_id
member_id_prints l (enum_names.Ident n) = ident_prints l n
member_id_prints l (enum_names.Str n) = prints_str l.env n

enum_member_prints : {X : Type 0} (l : Linked X) (n : TsEnumMember X) → Prints l.env (words.ts_enum_member l.items n) (lists.ts_enum_member l.reads n)
unfolding words.ts_enum_member lists.ts_enum_member
enum_member_prints l n = after (writes_leading l.env n.span.lo) (then (member_id_prints l n.id) (initializer_prints l n.init))

pub enum_prints : {X : Type 0} (l : Linked X) (n : TsEnumDecl X) → Prints l.env (words.ts_enum_decl l.items n) (lists.ts_enum_decl l.reads n)
unfolding words.ts_enum_decl words.enum_body lists.ts_enum_decl
enum_prints l n =
    after (writes_leading l.env n.span.lo)
    (then (declare_prints l.env n.declare)
    (then (word_before_prints l.env n.is_const (codes "const") marks.const_word)
    (then (word_space_prints l.env (codes "enum") decl_words.enum_word)
    (then (ident_prints l n.id)
    (after (writes_formatting_space l.env)
    (prints_bracketed l.env (codes "{") marks.left_brace (λ rest. rest) (no_line l.env) enum_format n.span enum_member_place (words.ts_enum_member l.items) (lists.ts_enum_member l.reads)
    (mark (codes "}")) (punct (codes "}")) (λ m. loosened (enum_member_prints l m)) refl refl refl (prints_punct l.env (codes "}") marks.right_brace) n.members.items))))))

-- ---- namespaces and modules

module_name_prints : {X : Type 0} (l : Linked X) (n : TsModuleName) → Prints l.env (words.ts_module_name n) (lists.ts_module_name n)
unfolding words.ts_module_name lists.ts_module_name
module_name_prints l (module_names.Ident n) = then (word_space_prints l.env (codes "namespace") decl_words.namespace_word) (ident_prints l n)
module_name_prints l (module_names.Str n) = then (word_space_prints l.env (codes "module") decl_words.module_word) (prints_str l.env n)

module_head_prints : {X : Type 0} (l : Linked X) (global : Bool) (n : TsModuleName) → Prints l.env (words.module_head global n) (lists.module_head global n)
unfolding words.module_head lists.module_head
module_head_prints l true n = prints_where (is_possible (lists.ts_module_name n)) (λ h. prints_keyword l.env None (codes "global") decl_words.global_word)
module_head_prints l false n = module_name_prints l n

module_tail_prints : {X : Type 0} (l : Linked X) (n : Option (TsNamespaceBodyBox X)) → PrintsAt ended l.env (words.module_tail l.items n) (lists.module_tail l.reads n)
unfolding words.module_tail lists.module_tail
module_tail_prints l None = prints_semi l.env
module_tail_prints l (Some n) = prints_wider ended refl (l.law n.node.value (Whole Plain) DottedBody)

pub module_prints : {X : Type 0} (l : Linked X) (n : TsModuleDecl X) → PrintsAt ended l.env (words.ts_module_decl l.items n) (lists.ts_module_decl l.reads n)
unfolding words.ts_module_decl lists.ts_module_decl
module_prints l n =
    after (writes_leading l.env n.span.lo) (then (declare_prints l.env n.declare) (then (module_head_prints l n.global n.id) (module_tail_prints l n.body)))

-- ---- imports and exports

external_ref_prints : (env : Env) (n : TsExternalModuleRef) → Prints env (words.ts_external_module_ref n) (lists.ts_external_module_ref n)
unfolding words.ts_external_module_ref lists.ts_external_module_ref
external_ref_prints env n =
    after (writes_leading env n.span.lo)
    (then (prints_keyword env None (codes "require") decl_words.require_word)
    (then (prints_punct env (codes "(") marks.left_parenthesis) (then (prints_str env n.expr) (prints_punct env (codes ")") marks.right_parenthesis))))

module_ref_prints : {X : Type 0} (l : Linked X) (n : TsModuleRef X) → Prints l.env (words.ts_module_ref l.items n) (lists.ts_module_ref l.reads n)
unfolding words.ts_module_ref lists.ts_module_ref
module_ref_prints l (module_refs.TsEntityName n) = entity_at l n
module_ref_prints l (module_refs.TsExternalModuleRef n) = external_ref_prints l.env n

pub import_equals_prints : {X : Type 0} (l : Linked X) (n : TsImportEqualsDecl X) → PrintsAt ended l.env (words.ts_import_equals_decl l.items n) (lists.ts_import_equals_decl l.reads n)
unfolding words.ts_import_equals_decl lists.ts_import_equals_decl
import_equals_prints l n =
    after (writes_leading l.env n.span.lo)
    (then (word_before_prints l.env n.is_export (codes "export") marks.export_word)
    (then (word_space_prints l.env (codes "import") marks.import_word)
    (then (word_before_prints l.env n.is_type_only (codes "type") decl_words.type_word)
    (then (ident_prints l n.id)
    (then (spaced_prints l.env (codes "=") refl marks.equal) (then (module_ref_prints l n.module_ref) (prints_semi l.env)))))))

pub export_assignment_prints : {X : Type 0} (l : Linked X) (n : TsExportAssignment X) → PrintsAt ended l.env (words.ts_export_assignment l.items n) (lists.ts_export_assignment l.reads n)
unfolding words.ts_export_assignment lists.ts_export_assignment
export_assignment_prints l n =
    after (writes_leading l.env n.span.lo)
    (then (prints_keyword l.env None (codes "export") marks.export_word)
    (then (spaced_prints l.env (codes "=") refl marks.equal) (then (expr_at l n.expr Plain) (prints_semi l.env))))

pub namespace_export_prints : {X : Type 0} (l : Linked X) (n : TsNamespaceExportDecl) → PrintsAt ended l.env (words.ts_namespace_export_decl n) (lists.ts_namespace_export_decl n)
unfolding words.ts_namespace_export_decl lists.ts_namespace_export_decl
namespace_export_prints l n =
    after (writes_leading l.env n.span.lo)
    (then (word_space_prints l.env (codes "export") marks.export_word)
    (then (word_space_prints l.env (codes "as") marks.as_word)
    (then (word_space_prints l.env (codes "namespace") decl_words.namespace_word) (then (ident_prints l n.id) (prints_semi l.env)))))
