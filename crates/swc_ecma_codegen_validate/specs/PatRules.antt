-- The rules of patterns, and of what is assigned to.
use Rattle.std.specs.Prelude.{codes}
use Rattle.swc_ecma_codegen_tree.specs.declared.pats.ArrayPat.{ArrayPat}
use Rattle.swc_ecma_codegen_tree.specs.declared.pats.AssignPat.{AssignPat}
use Rattle.swc_ecma_codegen_tree.specs.declared.pats.AssignPatProp.{AssignPatProp}
use Rattle.swc_ecma_codegen_tree.specs.declared.pats.AssignTarget.{AssignTarget}
use Rattle.swc_ecma_codegen_tree.specs.declared.pats.AssignTargetPat.{AssignTargetPat}
use Rattle.swc_ecma_codegen_tree.specs.declared.pats.KeyValuePatProp.{KeyValuePatProp}
use Rattle.swc_ecma_codegen_tree.specs.declared.pats.ObjectPat.{ObjectPat}
use Rattle.swc_ecma_codegen_tree.specs.declared.pats.ObjectPatProp.{ObjectPatProp}
use Rattle.swc_ecma_codegen_tree.specs.declared.pats.Pat.{Pat}
use Rattle.swc_ecma_codegen_tree.specs.declared.pats.RestPat.{RestPat}
use Rattle.swc_ecma_codegen_tree.specs.declared.pats.SimpleAssignTarget.{SimpleAssignTarget}
use Rattle.swc_ecma_codegen_tree.specs.declared.pats.Pat.TheVariants as pats
use Rattle.swc_ecma_codegen_tree.specs.declared.pats.ObjectPatProp.TheVariants as object_pat_props
use Rattle.swc_ecma_codegen_tree.specs.declared.pats.AssignTarget.TheVariants as assign_targets
use Rattle.swc_ecma_codegen_tree.specs.declared.pats.AssignTargetPat.TheVariants as assign_target_pats
use Rattle.swc_ecma_codegen_tree.specs.declared.pats.SimpleAssignTarget.TheVariants as simple_assign_targets
use Rattle.swc_ecma_codegen_grammar.specs.declared.roles.Role.TheVariants.{Annotation, Expression, Pattern}
use Rattle.swc_ecma_codegen_validate.specs.Rules.{Rules, Each, Optional, ◌&◌, not_here, at, link}
use Rattle.swc_ecma_codegen_validate.specs.NameRules.{binding_ident}
use Rattle.swc_ecma_codegen_validate.specs.ExprRules.{member_expr, super_prop_expr, paren_expr, prop_name, opt_chain_expr}
use Rattle.swc_ecma_codegen_validate.specs.TsRules.{ts_as_expr, ts_satisfies_expr, ts_non_null_expr, ts_type_assertion, ts_instantiation}

unfoldable pub array_pat : {X : Type 0} → ArrayPat X → Rules X
array_pat n = at (codes "elems") (Each n.elems.items (λ x. Optional x (λ y. link y Pattern))) & at (codes "type_ann") (Optional n.type_ann (λ x. link x Annotation))

unfoldable pub rest_pat : {X : Type 0} → RestPat X → Rules X
rest_pat n = at (codes "arg") (link n.arg Pattern) & at (codes "type_ann") (Optional n.type_ann (λ x. link x Annotation))

unfoldable pub assign_pat : {X : Type 0} → AssignPat X → Rules X
assign_pat n = at (codes "left") (link n.left Pattern) & at (codes "right") (link n.right Expression)

unfoldable pub key_value_pat_prop : {X : Type 0} → KeyValuePatProp X → Rules X
key_value_pat_prop n = at (codes "key") (prop_name n.key) & at (codes "value") (link n.value Pattern)

unfoldable pub assign_pat_prop : {X : Type 0} → AssignPatProp X → Rules X
assign_pat_prop n = at (codes "key") (binding_ident n.key) & at (codes "value") (Optional n.value (λ x. link x Expression))

unfoldable pub object_pat_prop : {X : Type 0} → ObjectPatProp X → Rules X
object_pat_prop (object_pat_props.KeyValue n) = key_value_pat_prop n
object_pat_prop (object_pat_props.Assign n) = assign_pat_prop n
object_pat_prop (object_pat_props.Rest n) = rest_pat n

unfoldable pub object_pat : {X : Type 0} → ObjectPat X → Rules X
object_pat n = at (codes "props") (Each n.props.items object_pat_prop) & at (codes "type_ann") (Optional n.type_ann (λ x. link x Annotation))

unfoldable pub pat : {X : Type 0} → Pat X → Rules X
pat (pats.Ident n) = binding_ident n
pat (pats.Array n) = array_pat n
pat (pats.Rest n) = rest_pat n
pat (pats.Object n) = object_pat n
pat (pats.Assign n) = assign_pat n
pat (pats.Invalid n) = not_here
pat (pats.Expr n) = link n Expression

unfoldable pub assign_target_pat : {X : Type 0} → AssignTargetPat X → Rules X
assign_target_pat (assign_target_pats.Array n) = array_pat n
assign_target_pat (assign_target_pats.Object n) = object_pat n
assign_target_pat (assign_target_pats.Invalid n) = not_here

unfoldable pub simple_assign_target : {X : Type 0} → SimpleAssignTarget X → Rules X
simple_assign_target (simple_assign_targets.Ident n) = binding_ident n
simple_assign_target (simple_assign_targets.Member n) = member_expr n
simple_assign_target (simple_assign_targets.SuperProp n) = super_prop_expr n
simple_assign_target (simple_assign_targets.Paren n) = paren_expr n
simple_assign_target (simple_assign_targets.OptChain n) = opt_chain_expr n
simple_assign_target (simple_assign_targets.TsAs n) = ts_as_expr n
simple_assign_target (simple_assign_targets.TsSatisfies n) = ts_satisfies_expr n
simple_assign_target (simple_assign_targets.TsNonNull n) = ts_non_null_expr n
simple_assign_target (simple_assign_targets.TsTypeAssertion n) = ts_type_assertion n
simple_assign_target (simple_assign_targets.TsInstantiation n) = ts_instantiation n
simple_assign_target (simple_assign_targets.Invalid n) = not_here

unfoldable pub assign_target : {X : Type 0} → AssignTarget X → Rules X
assign_target (assign_targets.Simple n) = simple_assign_target n
assign_target (assign_targets.Pat n) = assign_target_pat n
