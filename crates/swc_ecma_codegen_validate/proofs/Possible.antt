-- When a phrase on a condition is possible.
use Rattle.std.proofs.Common.{◌≡◌, Bool, true, false, ◌&&◌, Option, Some, None, ap, refl}
use Rattle.swc_ecma_codegen_grammar.specs.LitPhrases.{after_sign}
use Rattle.swc_ecma_codegen_tree.specs.Links.{ExprBox}
use Rattle.swc_ecma_codegen_tree.specs.declared.exprs.MemberExpr.{MemberExpr}
use Rattle.swc_ecma_codegen_tree.specs.declared.exprs.MemberProp.{MemberProp}
use Rattle.swc_ecma_codegen_tree.specs.declared.exprs.MemberProp.TheVariants as member_props
use Rattle.swc_ecma_codegen_tree.specs.declared.exprs.MetaPropKind.{MetaPropKind}
use Rattle.swc_ecma_codegen_tree.specs.declared.exprs.MetaPropKind.TheVariants as meta_props
use Rattle.swc_ecma_codegen_grammar.specs.CallPhrases.{callee_at}
use Rattle.swc_ecma_codegen_grammar.specs.ExprPhrases.{yield_arg, yield_rest, member_prop, member_expr, chain_mark, chain_prop, chain_member, meta_prop}
use Rattle.swc_ecma_codegen_grammar.specs.declared.roles.Role.{Role}
use Rattle.swc_ecma_codegen_grammar.specs.Phrases.{Phrase, ◌>◌, is_possible, where_}

pub where_possible : (b : Bool) (p : Phrase) → is_possible (where_ b p) ≡ b && is_possible p
unfolding is_possible where_
where_possible true p = refl
where_possible false p = refl

pub sign_possible : (negative : Bool) (p : Phrase) → is_possible (after_sign negative p) ≡ is_possible p
unfolding is_possible after_sign
sign_possible true p = refl
sign_possible false p = refl

-- with `*` or without
pub yield_possible : {X : Type 0} (f : X → Role → Phrase) (delegate : Bool) (arg : Option (ExprBox X)) → is_possible (yield_rest f delegate arg) ≡ is_possible (yield_arg f arg)
unfolding is_possible yield_rest yield_arg
yield_possible f true None = refl
yield_possible f true (Some n) = refl
yield_possible f false None = refl
yield_possible f false (Some n) = refl

pub meta_prop_possible : (kind : MetaPropKind) → is_possible (meta_prop kind) ≡ true
unfolding is_possible meta_prop
meta_prop_possible meta_props.NewTarget = refl
meta_prop_possible meta_props.ImportMeta = refl

-- `a?.b` is well-formed where `a.b` is
chain_prop_possible : {X : Type 0} (f : X → Role → Phrase) (optional : Bool) (n : MemberProp X) → is_possible (chain_mark optional n > chain_prop f n) ≡ is_possible (member_prop f n)
unfolding is_possible chain_mark chain_prop member_prop
chain_prop_possible f true (member_props.Ident n) = refl
chain_prop_possible f false (member_props.Ident n) = refl
chain_prop_possible f true (member_props.Computed n) = refl
chain_prop_possible f false (member_props.Computed n) = refl
chain_prop_possible f true n = refl
chain_prop_possible f false n = refl

pub chain_member_possible : {X : Type 0} (f : X → Role → Phrase) (optional : Bool) (n : MemberExpr X) → is_possible (chain_member f optional n) ≡ is_possible (member_expr f n)
unfolding is_possible chain_member member_expr
chain_member_possible f optional n = ap (λ b. is_possible (callee_at f n.obj) && b) (chain_prop_possible f optional n.prop)
