-- TsDecls: a law of the words holds of the plan.
use Rattle.std.proofs.Common.{refl}
use Rattle.swc_ecma_codegen_laws.proofs.Children.{children_hold}
use Rattle.std.specs.Prelude.{Bool, List, [], ◌∷◌, map, codes, Option, Some, None}
use Rattle.swc_ecma_codegen_common.specs.declared.positions.Span.{Span}
use Rattle.swc_ecma_codegen_tree.specs.Links.{TsNamespaceBodyBox}
use Rattle.swc_ecma_codegen_tree.specs.declared.ts_decls.TsEnumDecl.{TsEnumDecl}
use Rattle.swc_ecma_codegen_tree.specs.declared.ts_decls.TsEnumMember.{TsEnumMember}
use Rattle.swc_ecma_codegen_tree.specs.declared.ts_decls.TsEnumMemberId.{TsEnumMemberId}
use Rattle.swc_ecma_codegen_tree.specs.declared.ts_decls.TsEnumMemberId.TheVariants as enum_names
use Rattle.swc_ecma_codegen_tree.specs.declared.ts_decls.TsExportAssignment.{TsExportAssignment}
use Rattle.swc_ecma_codegen_tree.specs.declared.ts_decls.TsExprWithTypeArgs.{TsExprWithTypeArgs}
use Rattle.swc_ecma_codegen_tree.specs.declared.ts_decls.TsExternalModuleRef.{TsExternalModuleRef}
use Rattle.swc_ecma_codegen_tree.specs.declared.ts_decls.TsImportEqualsDecl.{TsImportEqualsDecl}
use Rattle.swc_ecma_codegen_tree.specs.declared.ts_decls.TsInterfaceDecl.{TsInterfaceDecl}
use Rattle.swc_ecma_codegen_tree.specs.declared.ts_decls.TsModuleDecl.{TsModuleDecl}
use Rattle.swc_ecma_codegen_tree.specs.declared.ts_decls.TsModuleName.{TsModuleName}
use Rattle.swc_ecma_codegen_tree.specs.declared.ts_decls.TsModuleName.TheVariants as module_names
use Rattle.swc_ecma_codegen_tree.specs.declared.ts_decls.TsModuleRef.{TsModuleRef}
use Rattle.swc_ecma_codegen_tree.specs.declared.ts_decls.TsModuleRef.TheVariants as module_refs
use Rattle.swc_ecma_codegen_tree.specs.declared.ts_decls.TsNamespaceExportDecl.{TsNamespaceExportDecl}
use Rattle.swc_ecma_codegen_tree.specs.declared.ts_decls.TsTypeAliasDecl.{TsTypeAliasDecl}
use Rattle.swc_ecma_codegen_tokens.specs.Run.{Part}
use Rattle.swc_ecma_codegen_emit.specs.declared.nodes.Context.TheVariants.{Plain, Dotted}
use Rattle.swc_ecma_codegen_emit.specs.Places.{Whole}
use Rattle.swc_ecma_codegen_emit.specs.Lists.{child_of}
use Rattle.swc_ecma_codegen_laws.proofs.OfWords.{OfWords, Known, items_in, either}
use Rattle.swc_ecma_codegen_emit.specs.TsDecls.{declare_word, ts_expr_with_type_args, extended_place, extended_format, extended_list, some_extends, extends_clause, ts_interface_decl, ts_type_alias_decl, ts_enum_member_id, ts_enum_member, enum_member_place, enum_format, enum_members, enum_body, ts_enum_decl, ts_module_name, module_head, module_tail, ts_module_decl, ts_external_module_ref, ts_module_ref, ts_import_equals_decl, ts_export_assignment, ts_namespace_export_decl}
use Rattle.swc_ecma_codegen_laws.proofs.AnnotationsLifted.{type_args_holds, type_params_holds, word_before_holds}
use Rattle.swc_ecma_codegen_laws.proofs.ExprsLifted.{ident_holds, spaced_punct_holds}
use Rattle.swc_ecma_codegen_laws.proofs.PatsLifted.{initializer_holds}
use Rattle.swc_ecma_codegen_laws.proofs.TypesLifted.{type_at_holds}

pub declare_word_holds : {holds : Bool → Part → Type 0} (words : OfWords holds) (bounded : Bool) (declared : Bool) → holds bounded (declare_word declared)
unfolding declare_word
declare_word_holds words bounded declared = word_before_holds words bounded declared (codes "declare")

pub ts_expr_with_type_args_holds : {X : Type 0} {holds : Bool → Part → Type 0} (known : Known holds X) (bounded : Bool) (n : TsExprWithTypeArgs X) → holds bounded (ts_expr_with_type_args (items_in known) n)
unfolding ts_expr_with_type_args
ts_expr_with_type_args_holds known bounded n = known.words.and_then bounded (known.words.leading_comments bounded n.span.lo) (known.words.and_then bounded (known.law bounded n.expr.node.value (Whole Plain)) (type_args_holds known bounded Plain n.type_args))

pub extended_list_holds : {X : Type 0} {holds : Bool → Part → Type 0} (known : Known holds X) (bounded : Bool) (span : Span) (ns : List (TsExprWithTypeArgs X)) → holds bounded (extended_list (items_in known) span ns)
extended_list_holds known bounded span ns = known.words.list bounded extended_format refl span (map (child_of extended_place (λ n place. ts_expr_with_type_args (items_in known) n)) ns) (children_hold _ _ extended_place (λ n place. ts_expr_with_type_args (items_in known) n) (λ n. (ts_expr_with_type_args_holds known bounded n)) ns)

pub some_extends_holds : {X : Type 0} {holds : Bool → Part → Type 0} (known : Known holds X) (bounded : Bool) (span : Span) (ns : List (TsExprWithTypeArgs X)) → holds bounded (some_extends (items_in known) span ns)
unfolding some_extends
some_extends_holds known bounded span ns = known.words.and_then bounded (known.words.space bounded) (known.words.and_then bounded (known.words.keyword bounded None (codes "extends")) (known.words.and_then bounded (known.words.space bounded) (extended_list_holds known bounded span ns)))

pub extends_clause_holds : {X : Type 0} {holds : Bool → Part → Type 0} (known : Known holds X) (bounded : Bool) (span : Span) (x2 : List (TsExprWithTypeArgs X)) → holds bounded (extends_clause (items_in known) span x2)
unfolding extends_clause
extends_clause_holds known bounded span [] = known.words.none bounded
extends_clause_holds known bounded span (n ∷ ns) = some_extends_holds known bounded span (n ∷ ns)

pub ts_interface_decl_holds : {X : Type 0} {holds : Bool → Part → Type 0} (known : Known holds X) (bounded : Bool) (n : TsInterfaceDecl X) → holds bounded (ts_interface_decl (items_in known) n)
unfolding ts_interface_decl
ts_interface_decl_holds known bounded n = known.words.and_then bounded (known.words.leading_comments bounded n.span.lo) (known.words.and_then bounded (declare_word_holds known.words bounded n.declare) (known.words.and_then bounded (known.words.keyword bounded None (codes "interface")) (known.words.and_then bounded (known.words.space bounded) (known.words.and_then bounded (ident_holds known.words bounded n.id) (known.words.and_then bounded (type_params_holds known bounded n.type_params) (known.words.and_then bounded (extends_clause_holds known bounded n.span n.extends.items) (known.words.and_then bounded (known.words.formatting_space bounded) (known.law bounded n.body.node.value (Whole Plain)))))))))

pub ts_type_alias_decl_holds : {X : Type 0} {holds : Bool → Part → Type 0} (known : Known holds X) (bounded : Bool) (n : TsTypeAliasDecl X) → holds bounded (ts_type_alias_decl (items_in known) n)
unfolding ts_type_alias_decl
ts_type_alias_decl_holds known bounded n = known.words.and_then bounded (known.words.leading_comments bounded n.span.lo) (known.words.and_then bounded (declare_word_holds known.words bounded n.declare) (known.words.and_then bounded (known.words.keyword bounded None (codes "type")) (known.words.and_then bounded (known.words.space bounded) (known.words.and_then bounded (ident_holds known.words bounded n.id) (known.words.and_then bounded (type_params_holds known bounded n.type_params) (known.words.and_then bounded (spaced_punct_holds known.words bounded (codes "=")) (known.words.and_then bounded (type_at_holds known bounded n.type_ann) (known.words.semi bounded))))))))

pub ts_enum_member_id_holds : {holds : Bool → Part → Type 0} (words : OfWords holds) (bounded : Bool) (x0 : TsEnumMemberId) → holds bounded (ts_enum_member_id x0)
unfolding ts_enum_member_id
ts_enum_member_id_holds words bounded (enum_names.Ident n) = ident_holds words bounded n
ts_enum_member_id_holds words bounded (enum_names.Str n) = words.str_lit bounded n

pub ts_enum_member_holds : {X : Type 0} {holds : Bool → Part → Type 0} (known : Known holds X) (bounded : Bool) (n : TsEnumMember X) → holds bounded (ts_enum_member (items_in known) n)
unfolding ts_enum_member
ts_enum_member_holds known bounded n = known.words.and_then bounded (known.words.leading_comments bounded n.span.lo) (known.words.and_then bounded (ts_enum_member_id_holds known.words bounded n.id) (initializer_holds known bounded n.init))

pub enum_members_holds : {X : Type 0} {holds : Bool → Part → Type 0} (known : Known holds X) (bounded : Bool) (n : TsEnumDecl X) → holds bounded (enum_members (items_in known) n)
enum_members_holds known bounded n = known.words.list bounded enum_format refl n.span (map (child_of enum_member_place (λ m place. ts_enum_member (items_in known) m)) n.members.items) (children_hold _ _ enum_member_place (λ m place. ts_enum_member (items_in known) m) (λ m. (ts_enum_member_holds known bounded m)) n.members.items)

pub enum_body_holds : {X : Type 0} {holds : Bool → Part → Type 0} (known : Known holds X) (bounded : Bool) (n : TsEnumDecl X) → holds bounded (enum_body (items_in known) n)
unfolding enum_body
enum_body_holds known bounded n = known.words.and_then bounded (known.words.punct bounded (codes "{")) (known.words.and_then bounded (enum_members_holds known bounded n) (known.words.punct bounded (codes "}")))

pub ts_enum_decl_holds : {X : Type 0} {holds : Bool → Part → Type 0} (known : Known holds X) (bounded : Bool) (n : TsEnumDecl X) → holds bounded (ts_enum_decl (items_in known) n)
unfolding ts_enum_decl
ts_enum_decl_holds known bounded n = known.words.and_then bounded (known.words.leading_comments bounded n.span.lo) (known.words.and_then bounded (declare_word_holds known.words bounded n.declare) (known.words.and_then bounded (word_before_holds known.words bounded n.is_const (codes "const")) (known.words.and_then bounded (known.words.keyword bounded None (codes "enum")) (known.words.and_then bounded (known.words.space bounded) (known.words.and_then bounded (ident_holds known.words bounded n.id) (known.words.and_then bounded (known.words.formatting_space bounded) (enum_body_holds known bounded n)))))))

pub ts_module_name_holds : {holds : Bool → Part → Type 0} (words : OfWords holds) (bounded : Bool) (x0 : TsModuleName) → holds bounded (ts_module_name x0)
unfolding ts_module_name
ts_module_name_holds words bounded (module_names.Ident n) = words.and_then bounded (words.keyword bounded None (codes "namespace")) (words.and_then bounded (words.space bounded) (ident_holds words bounded n))
ts_module_name_holds words bounded (module_names.Str n) = words.and_then bounded (words.keyword bounded None (codes "module")) (words.and_then bounded (words.space bounded) (words.str_lit bounded n))

pub module_head_holds : {holds : Bool → Part → Type 0} (words : OfWords holds) (bounded : Bool) (global : Bool) (n : TsModuleName) → holds bounded (module_head global n)
unfolding module_head
module_head_holds words bounded global n = either words bounded global (words.keyword bounded None (codes "global")) (ts_module_name_holds words bounded n)

pub module_tail_holds : {X : Type 0} {holds : Bool → Part → Type 0} (known : Known holds X) (bounded : Bool) (x1 : Option (TsNamespaceBodyBox X)) → holds bounded (module_tail (items_in known) x1)
unfolding module_tail
module_tail_holds known bounded None = known.words.semi bounded
module_tail_holds known bounded (Some n) = known.law bounded n.node.value (Whole Dotted)

pub ts_module_decl_holds : {X : Type 0} {holds : Bool → Part → Type 0} (known : Known holds X) (bounded : Bool) (n : TsModuleDecl X) → holds bounded (ts_module_decl (items_in known) n)
unfolding ts_module_decl
ts_module_decl_holds known bounded n = known.words.and_then bounded (known.words.leading_comments bounded n.span.lo) (known.words.and_then bounded (declare_word_holds known.words bounded n.declare) (known.words.and_then bounded (module_head_holds known.words bounded n.global n.id) (module_tail_holds known bounded n.body)))

pub ts_external_module_ref_holds : {holds : Bool → Part → Type 0} (words : OfWords holds) (bounded : Bool) (n : TsExternalModuleRef) → holds bounded (ts_external_module_ref n)
unfolding ts_external_module_ref
ts_external_module_ref_holds words bounded n = words.and_then bounded (words.leading_comments bounded n.span.lo) (words.and_then bounded (words.keyword bounded None (codes "require")) (words.and_then bounded (words.punct bounded (codes "(")) (words.and_then bounded (words.str_lit bounded n.expr) (words.punct bounded (codes ")")))))

pub ts_module_ref_holds : {X : Type 0} {holds : Bool → Part → Type 0} (known : Known holds X) (bounded : Bool) (x1 : TsModuleRef X) → holds bounded (ts_module_ref (items_in known) x1)
unfolding ts_module_ref
ts_module_ref_holds known bounded (module_refs.TsEntityName n) = known.law bounded n.node.value (Whole Plain)
ts_module_ref_holds known bounded (module_refs.TsExternalModuleRef n) = ts_external_module_ref_holds known.words bounded n

pub ts_import_equals_decl_holds : {X : Type 0} {holds : Bool → Part → Type 0} (known : Known holds X) (bounded : Bool) (n : TsImportEqualsDecl X) → holds bounded (ts_import_equals_decl (items_in known) n)
unfolding ts_import_equals_decl
ts_import_equals_decl_holds known bounded n = known.words.and_then bounded (known.words.leading_comments bounded n.span.lo) (known.words.and_then bounded (word_before_holds known.words bounded n.is_export (codes "export")) (known.words.and_then bounded (known.words.keyword bounded None (codes "import")) (known.words.and_then bounded (known.words.space bounded) (known.words.and_then bounded (word_before_holds known.words bounded n.is_type_only (codes "type")) (known.words.and_then bounded (ident_holds known.words bounded n.id) (known.words.and_then bounded (spaced_punct_holds known.words bounded (codes "=")) (known.words.and_then bounded (ts_module_ref_holds known bounded n.module_ref) (known.words.semi bounded))))))))

pub ts_export_assignment_holds : {X : Type 0} {holds : Bool → Part → Type 0} (known : Known holds X) (bounded : Bool) (n : TsExportAssignment X) → holds bounded (ts_export_assignment (items_in known) n)
unfolding ts_export_assignment
ts_export_assignment_holds known bounded n = known.words.and_then bounded (known.words.leading_comments bounded n.span.lo) (known.words.and_then bounded (known.words.keyword bounded None (codes "export")) (known.words.and_then bounded (spaced_punct_holds known.words bounded (codes "=")) (known.words.and_then bounded (known.law bounded n.expr.node.value (Whole Plain)) (known.words.semi bounded))))

pub ts_namespace_export_decl_holds : {holds : Bool → Part → Type 0} (words : OfWords holds) (bounded : Bool) (n : TsNamespaceExportDecl) → holds bounded (ts_namespace_export_decl n)
unfolding ts_namespace_export_decl
ts_namespace_export_decl_holds words bounded n = words.and_then bounded (words.leading_comments bounded n.span.lo) (words.and_then bounded (words.keyword bounded None (codes "export")) (words.and_then bounded (words.space bounded) (words.and_then bounded (words.keyword bounded None (codes "as")) (words.and_then bounded (words.space bounded) (words.and_then bounded (words.keyword bounded None (codes "namespace")) (words.and_then bounded (words.space bounded) (words.and_then bounded (ident_holds words bounded n.id) (words.semi bounded))))))))
