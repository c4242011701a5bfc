-- The form of any expression over what links hold as something else.
use Rattle.std.proofs.Common.{◌≡◌, Bool, false, refl, ap, codes}
use Rattle.swc_ecma_codegen_tree.specs.Links.{ExprBox}
use Rattle.swc_ecma_codegen_tree.specs.declared.links.AnyNode.{map-AnyNode}
use Rattle.swc_ecma_codegen_tree.specs.declared.links.AnyNode.TheOpen as nodes
use Rattle.swc_ecma_codegen_tree.specs.declared.exprs.Expr.{Expr}
use Rattle.swc_ecma_codegen_tree.specs.declared.exprs.Expr.TheVariants as exprs
use Rattle.swc_ecma_codegen_syntax.specs.declared.nonterminals.Nonterminal.TheVariants as nt
use Rattle.swc_ecma_codegen_syntax.specs.declared.parameters.Parameters.{Parameters}
use Rattle.swc_ecma_codegen_syntax.specs.Forms.{Fixed, ◌⇢◌, map_form}
use Rattle.swc_ecma_codegen_syntax.specs.NameForms.{name_form, lit_form}
use Rattle.swc_ecma_codegen_syntax.specs.MemberForms.{expr_part}
use Rattle.swc_ecma_codegen_syntax.specs.ExprForms.{unary_form, bin_form, cond_form, assign_form, await_form, seq_form, paren_form, expr_form, expr_nonterminal}
use Rattle.swc_ecma_codegen_syntax.proofs.Judged.{some_mapped}
use Rattle.swc_ecma_codegen_syntax.proofs.MappedCalls.{form_in, nonterminal_in, array_mapped, call_mapped, new_mapped, new_nonterminal_mapped}
use Rattle.swc_ecma_codegen_syntax.proofs.MappedExprs.{object_mapped, member_mapped, super_mapped, tagged_by, chain_mapped, update_mapped, yield_mapped}
use Rattle.swc_ecma_codegen_syntax.proofs.MappedFunctions.{fn_expr_mapped, arrow_mapped}
use Rattle.swc_ecma_codegen_syntax.proofs.MappedClasses.{class_expr_mapped}
use Rattle.swc_ecma_codegen_grammar.specs.Phrases.{mark}
use Rattle.swc_ecma_codegen_grammar.specs.declared.roles.Role.TheVariants.{FieldValue}
use Rattle.swc_ecma_codegen_syntax.specs.ClassForms.{field_expr_form}
use Rattle.swc_ecma_codegen_syntax.specs.NodeForms.{node_form}

pub expr_mapped : {X Y : Type 0} (g : X → Y) (keeps called : Bool) (c : Parameters) (n : Expr X) → form_in keeps called c (map-AnyNode X Y g (nodes.Expr n)) ≡ map_form g (expr_form keeps called c n)
unfolding expr_form unary_form bin_form cond_form assign_form await_form seq_form paren_form name_form lit_form map_form
expr_mapped {X} g keeps called c (exprs.Seq n) = some_mapped {A = ExprBox X} g _ (codes ",") (expr_part nt.AssignmentExpression c) (expr_part nt.AssignmentExpression c) (λ x. refl) n.exprs.items
expr_mapped g keeps called c (exprs.Array n) = array_mapped g keeps called c n
expr_mapped g keeps called c (exprs.Object n) = object_mapped g keeps called c n
expr_mapped g keeps called c (exprs.Update n) = update_mapped g keeps called c n n.prefix
expr_mapped g keeps called c (exprs.Member n) = member_mapped g keeps called c n.span n.obj n.prop
expr_mapped g keeps called c (exprs.SuperProp n) = super_mapped g keeps called c n n.prop
expr_mapped g keeps called c (exprs.Call n) = call_mapped g keeps called c n
expr_mapped g keeps called c (exprs.New n) = new_mapped g keeps called c n
expr_mapped g keeps called c (exprs.TaggedTpl n) = tagged_by g keeps called c n n.type_params
expr_mapped g keeps called c (exprs.Yield n) = yield_mapped g keeps called c n n.delegate n.arg
expr_mapped g keeps called c (exprs.OptChain n) = chain_mapped g keeps called c n n.base
expr_mapped g keeps called c (exprs.Fn n) = fn_expr_mapped g keeps called c n
expr_mapped g keeps called c (exprs.Arrow n) = arrow_mapped g keeps called c n
expr_mapped g keeps called c (exprs.Class n) = class_expr_mapped g keeps called c n
expr_mapped g keeps called c n = refl

pub nonterminal_mapped : {X Y : Type 0} (g : X → Y) (keeps called : Bool) (c : Parameters) (n : Expr X) → nonterminal_in keeps called c (map-AnyNode X Y g (nodes.Expr n)) ≡ expr_nonterminal keeps called c n
unfolding expr_nonterminal
nonterminal_mapped g keeps called c (exprs.New n) = new_nonterminal_mapped g keeps called c n
nonterminal_mapped g keeps called c n = refl

-- the value of a field
pub field_mapped : {X Y : Type 0} (g : X → Y) (called : Bool) (c : Parameters) (n : Expr X) → node_form called c (map-AnyNode X Y g (nodes.Expr n)) FieldValue ≡ map_form g (field_expr_form (expr_form false called c n) n)
unfolding node_form field_expr_form map_form
field_mapped g called c (exprs.Seq n) = ap (λ a. Fixed (mark (codes "(")) ⇢ a ⇢ Fixed (mark (codes ")"))) (expr_mapped g false called c (exprs.Seq n))
field_mapped g called c n = expr_mapped g false called c n
