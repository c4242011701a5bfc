-- Without nonterminals the form of any expression is the production that tells its tokens, where it keeps its structure.
use Rattle.std.proofs.Common.{◌≡◌, Bool, true, false, refl, sym, ap, codes}
use Rattle.std.proofs.lemmas.Bool.{true≢false}
use Rattle.swc_ecma_codegen_tree.specs.declared.exprs.Expr.{Expr}
use Rattle.swc_ecma_codegen_tree.specs.declared.exprs.Expr.TheVariants as exprs
use Rattle.swc_ecma_codegen_grammar.specs.Phrases.{Phrase, Then, word}
use Rattle.swc_ecma_codegen_grammar.specs.ExprPhrases.{unary_expr, bin_expr, assign_expr, yield_expr, await_expr, cond_expr, seq_expr, paren_expr, expr}
use Rattle.swc_ecma_codegen_grammar.specs.declared.roles.Role.{Role}
use Rattle.swc_ecma_codegen_syntax.specs.declared.nonterminals.Nonterminal.TheVariants as nt
use Rattle.swc_ecma_codegen_syntax.specs.declared.parameters.Parameters.{Parameters}
use Rattle.swc_ecma_codegen_syntax.specs.Summary.{Summary}
use Rattle.swc_ecma_codegen_syntax.specs.Forms.{forget, keeps, is_met}
use Rattle.swc_ecma_codegen_syntax.specs.NameForms.{name_form, lit_form}
use Rattle.swc_ecma_codegen_syntax.specs.MemberForms.{expr_part}
use Rattle.swc_ecma_codegen_syntax.specs.ExprForms.{unary_form, bin_form, cond_form, assign_form, yield_form, await_form, seq_form, paren_form, expr_form}
use Rattle.swc_ecma_codegen_syntax.specs.Verdicts.{Grammar}
use Rattle.swc_ecma_codegen_syntax.proofs.Judged.{some_forgets}
use Rattle.swc_ecma_codegen_syntax.proofs.Forgets.{array_forgets, object_forgets, update_forgets, member_forgets, super_prop_forgets, call_forgets, new_forgets, tagged_forgets, yield_forgets, chain_forgets}
use Rattle.swc_ecma_codegen_syntax.proofs.FunctionForgets.{fn_expr_forgets, arrow_forgets}
use Rattle.swc_ecma_codegen_syntax.proofs.ClassForgets.{class_expr_forgets}

pub expr_forgets : {X : Type 0} (grammar : Grammar) (f : X → Role → Parameters → Summary) (p : X → Role → Phrase) (called : Bool) (c : Parameters) (n : Expr X) → keeps grammar f (expr_form false called c n) ≡ true → forget p (expr_form false called c n) ≡ expr p n
unfolding forget keeps is_met expr_form expr unary_form bin_form cond_form assign_form yield_form await_form seq_form paren_form name_form lit_form unary_expr bin_expr cond_expr assign_expr yield_expr await_expr seq_expr paren_expr
expr_forgets grammar f p called c (exprs.This n) k = refl
expr_forgets grammar f p called c (exprs.Array n) k = array_forgets p c n
expr_forgets grammar f p called c (exprs.Object n) k = object_forgets grammar f p c n k
expr_forgets grammar f p called c (exprs.Unary n) k = refl
expr_forgets grammar f p called c (exprs.Update n) k = update_forgets p c n n.prefix
expr_forgets grammar f p called c (exprs.Bin n) k = refl
expr_forgets grammar f p called c (exprs.Assign n) k = refl
expr_forgets grammar f p called c (exprs.Member n) k = member_forgets p _ c n
expr_forgets grammar f p called c (exprs.SuperProp n) k = super_prop_forgets p c n
expr_forgets grammar f p called c (exprs.Cond n) k = refl
expr_forgets grammar f p called c (exprs.Call n) k = call_forgets p c n
expr_forgets grammar f p called c (exprs.New n) k = new_forgets p c false n
expr_forgets grammar f p called c (exprs.Seq n) k = some_forgets p (codes ",") (expr_part nt.AssignmentExpression c) n.exprs.items
expr_forgets grammar f p called c (exprs.Ident n) k = refl
expr_forgets grammar f p called c (exprs.Lit n) k = refl
expr_forgets grammar f p called c (exprs.Tpl n) k = refl
expr_forgets grammar f p called c (exprs.TaggedTpl n) k = tagged_forgets p _ c n
expr_forgets grammar f p called c (exprs.Yield n) k = ap (Then (word (codes "yield"))) (yield_forgets p c n.delegate n.arg)
expr_forgets grammar f p called c (exprs.MetaProp n) k = refl
expr_forgets grammar f p called c (exprs.Await n) k = refl
expr_forgets grammar f p called c (exprs.Paren n) k = refl
expr_forgets grammar f p called c (exprs.PrivateName n) k = refl
expr_forgets grammar f p called c (exprs.OptChain n) k = chain_forgets p c n
expr_forgets grammar f p called c (exprs.JSXElement n) k = refl
expr_forgets grammar f p called c (exprs.JSXFragment n) k = refl
expr_forgets grammar f p called c (exprs.Fn n) k = fn_expr_forgets p c n
expr_forgets grammar f p called c (exprs.Arrow n) k = arrow_forgets p c n.value
expr_forgets grammar f p called c (exprs.Class n) k = class_expr_forgets p c n
expr_forgets grammar f p called c n k = absurd (true≢false (sym k))
