-- When declarations of TypeScript are well-formed.
use Rattle.std.proofs.Common.{◌≡◌, ◌∙◌, refl, ap, Bool, true, false, not, ◌&&◌, List, [], ◌∷◌, codes}
use Rattle.swc_ecma_codegen_tree.specs.declared.ts_decls.TsEnumDecl.{TsEnumDecl}
use Rattle.swc_ecma_codegen_tree.specs.declared.ts_decls.TsExportAssignment.{TsExportAssignment}
use Rattle.swc_ecma_codegen_tree.specs.declared.ts_decls.TsExprWithTypeArgs.{TsExprWithTypeArgs}
use Rattle.swc_ecma_codegen_tree.specs.declared.ts_decls.TsExternalModuleRef.{TsExternalModuleRef}
use Rattle.swc_ecma_codegen_tree.specs.declared.ts_decls.TsImportEqualsDecl.{TsImportEqualsDecl}
use Rattle.swc_ecma_codegen_tree.specs.declared.ts_decls.TsInterfaceDecl.{TsInterfaceDecl}
use Rattle.swc_ecma_codegen_tree.specs.declared.ts_decls.TsModuleBlock.{TsModuleBlock}
use Rattle.swc_ecma_codegen_tree.specs.declared.ts_decls.TsModuleDecl.{TsModuleDecl}
use Rattle.swc_ecma_codegen_tree.specs.declared.ts_decls.TsModuleName.{TsModuleName}
use Rattle.swc_ecma_codegen_tree.specs.declared.ts_decls.TsNamespaceDecl.{TsNamespaceDecl}
use Rattle.swc_ecma_codegen_tree.specs.declared.ts_decls.TsNamespaceExportDecl.{TsNamespaceExportDecl}
use Rattle.swc_ecma_codegen_tree.specs.declared.ts_decls.TsTypeAliasDecl.{TsTypeAliasDecl}
use Rattle.swc_ecma_codegen_grammar.specs.ElementPhrases.{element}
use Rattle.swc_ecma_codegen_grammar.specs.LitPhrases.{str_lit}
use Rattle.swc_ecma_codegen_grammar.specs.MemberPhrases.{interface_body_at}
use Rattle.swc_ecma_codegen_grammar.specs.NamePhrases.{ident}
use Rattle.swc_ecma_codegen_grammar.specs.NamespacePhrases.{ts_module_block, dotted_namespace}
use Rattle.swc_ecma_codegen_grammar.specs.PatPhrases.{value_at}
use Rattle.swc_ecma_codegen_grammar.specs.Phrases.{Phrase, is_possible}
use Rattle.swc_ecma_codegen_grammar.specs.StmtPhrases.{module_item}
use Rattle.swc_ecma_codegen_grammar.specs.TsDeclPhrases.{declare_word, ts_expr_with_type_args, extends_clause, ts_interface_decl, ts_type_alias_decl, ts_enum_member, ts_enum_decl, ts_module_name, module_head, module_tail, ts_module_decl, ts_external_module_ref, ts_module_ref, ts_import_equals_decl, ts_export_assignment, ts_namespace_export_decl}
use Rattle.swc_ecma_codegen_grammar.specs.TypePhrases.{type_at, args_at, params_at}
use Rattle.swc_ecma_codegen_grammar.specs.declared.roles.Role.{Role}
use Rattle.swc_ecma_codegen_grammar.specs.declared.roles.Role.TheVariants.{DottedBody}
use Rattle.swc_ecma_codegen_validate.specs.Possible.{all_possible}
use Rattle.swc_ecma_codegen_validate.proofs.Annotations.{args_possible, params_possible}
use Rattle.swc_ecma_codegen_validate.proofs.Lists.{in_order_possible, listed_possible, and_true}
use Rattle.swc_ecma_codegen_validate.proofs.MembersPossible.{past_word}
use Rattle.swc_ecma_codegen_validate.proofs.Possible.{where_possible}

-- what stands behind `declare`, where it is there
pub past_declare : (declared : Bool) (rest : Bool) → (is_possible (declare_word declared) && rest) ≡ rest
unfolding declare_word
past_declare declared rest = past_word declared (codes "declare") rest

-- ---- interfaces and aliases

pub expr_with_type_args_possible : {X : Type 0} (f : X → Role → Phrase) (n : TsExprWithTypeArgs X) → is_possible (ts_expr_with_type_args f n) ≡ (is_possible (value_at f n.expr) && is_possible (element (args_at f) n.type_args))
unfolding is_possible ts_expr_with_type_args
expr_with_type_args_possible f n = ap (λ b. is_possible (value_at f n.expr) && b) (args_possible f n.type_args)

extends_possible : {X : Type 0} (f : X → Role → Phrase) (ns : List (TsExprWithTypeArgs X)) → is_possible (extends_clause f ns) ≡ all_possible (ts_expr_with_type_args f) ns
unfolding is_possible extends_clause all_possible
extends_possible f [] = refl
extends_possible f (n ∷ ns) = listed_possible (codes ",") (ts_expr_with_type_args f) (n ∷ ns)

pub interface_decl_possible : {X : Type 0} (f : X → Role → Phrase) (n : TsInterfaceDecl X) → is_possible (ts_interface_decl f n) ≡ (is_possible (ident n.id) && (is_possible (element (params_at f) n.type_params) && (all_possible (ts_expr_with_type_args f) n.extends.items && is_possible (interface_body_at f n.body))))
unfolding is_possible ts_interface_decl
interface_decl_possible f n =
    let body : Bool = is_possible (interface_body_at f n.body) in
    past_declare n.declare _
    ∙ ap (λ b. is_possible (ident n.id) && (b && (is_possible (extends_clause f n.extends.items) && body))) (params_possible f n.type_params)
    ∙ ap (λ b. is_possible (ident n.id) && (is_possible (element (params_at f) n.type_params) && (b && body))) (extends_possible f n.extends.items)

pub alias_possible : {X : Type 0} (f : X → Role → Phrase) (n : TsTypeAliasDecl X) → is_possible (ts_type_alias_decl f n) ≡ (is_possible (ident n.id) && (is_possible (element (params_at f) n.type_params) && is_possible (type_at f n.type_ann)))
unfolding is_possible ts_type_alias_decl
alias_possible f n =
    past_declare n.declare _
    ∙ ap (λ b. is_possible (ident n.id) && (b && (is_possible (type_at f n.type_ann) && true))) (params_possible f n.type_params)
    ∙ ap (λ b. is_possible (ident n.id) && (is_possible (element (params_at f) n.type_params) && b)) (and_true (is_possible (type_at f n.type_ann)))

-- ---- enums

pub enum_possible : {X : Type 0} (f : X → Role → Phrase) (n : TsEnumDecl X) → is_possible (ts_enum_decl f n) ≡ (is_possible (ident n.id) && all_possible (ts_enum_member f) n.members.items)
unfolding is_possible ts_enum_decl
enum_possible f n =
    past_declare n.declare _
    ∙ past_word n.is_const (codes "const") _
    ∙ ap (λ b. is_possible (ident n.id) && b) (and_true _ ∙ listed_possible (codes ",") (ts_enum_member f) n.members.items)

-- ---- namespaces and modules

-- the name is asked for, whether it is written or `global` stands there
head_possible : (global : Bool) (n : TsModuleName) → is_possible (module_head global n) ≡ is_possible (ts_module_name n)
unfolding is_possible module_head
head_possible true n = where_possible (is_possible (ts_module_name n)) _ ∙ and_true _
head_possible false n = refl

pub module_decl_possible : {X : Type 0} (f : X → Role → Phrase) (n : TsModuleDecl X) → is_possible (ts_module_decl f n) ≡ (is_possible (ts_module_name n.id) && is_possible (module_tail f n.body))
unfolding is_possible ts_module_decl
module_decl_possible f n = past_declare n.declare _ ∙ ap (λ b. b && is_possible (module_tail f n.body)) (head_possible n.global n.id)

pub module_block_possible : {X : Type 0} (f : X → Role → Phrase) (n : TsModuleBlock X) → is_possible (ts_module_block f n) ≡ all_possible (module_item f) n.body.items
unfolding is_possible ts_module_block
module_block_possible f n = and_true _ ∙ in_order_possible (module_item f) n.body.items

pub dotted_namespace_possible : {X : Type 0} (f : X → Role → Phrase) (n : TsNamespaceDecl X) → is_possible (dotted_namespace f n) ≡ (not n.declare && (is_possible (ident n.id) && is_possible (f n.body.node.value DottedBody)))
unfolding is_possible dotted_namespace
dotted_namespace_possible f n = where_possible (not n.declare) _

-- ---- imports and exports

pub external_ref_possible : (n : TsExternalModuleRef) → is_possible (ts_external_module_ref n) ≡ is_possible (str_lit n.expr)
unfolding is_possible ts_external_module_ref
external_ref_possible n = and_true _

pub import_equals_possible : {X : Type 0} (f : X → Role → Phrase) (n : TsImportEqualsDecl X) → is_possible (ts_import_equals_decl f n) ≡ (is_possible (ident n.id) && is_possible (ts_module_ref f n.module_ref))
unfolding is_possible ts_import_equals_decl
import_equals_possible f n =
    past_word n.is_export (codes "export") _
    ∙ past_word n.is_type_only (codes "type") _
    ∙ ap (λ b. is_possible (ident n.id) && b) (and_true (is_possible (ts_module_ref f n.module_ref)))

pub export_assignment_possible : {X : Type 0} (f : X → Role → Phrase) (n : TsExportAssignment X) → is_possible (ts_export_assignment f n) ≡ is_possible (value_at f n.expr)
unfolding is_possible ts_export_assignment
export_assignment_possible f n = and_true _

pub namespace_export_possible : (n : TsNamespaceExportDecl) → is_possible (ts_namespace_export_decl n) ≡ is_possible (ident n.id)
unfolding is_possible ts_namespace_export_decl
namespace_export_possible n = and_true _
