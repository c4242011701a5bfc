-- What is written of an expression, whatever its variant, is what it reads as.
use Rattle.std.proofs.Common.{◌≡◌, Bool, true, false, cond, ◌&&◌, [], codes, refl, sym, ap, ◌∙◌, subst}
use Rattle.swc_ecma_codegen_common.specs.declared.positions.Span.{Span}
use Rattle.swc_ecma_codegen_tree.specs.declared.exprs.Expr.{Expr}
use Rattle.swc_ecma_codegen_tree.specs.declared.exprs.Expr.TheVariants as exprs
use Rattle.swc_ecma_codegen_spans.specs.Spans.{expr_span}
use Rattle.swc_ecma_codegen_grammar.specs.Phrases.{Phrase, ◌>◌, mark}
use Rattle.swc_ecma_codegen_grammar.specs.ExprPhrases as lists
use Rattle.swc_ecma_codegen_grammar.specs.TreePhrases.{is_sequence, field_value}
use Rattle.swc_ecma_codegen_grammar.specs.declared.roles.Role.{Role}
use Rattle.swc_ecma_codegen_grammar.specs.declared.roles.Role.TheVariants.{Template, Element}
use Rattle.swc_ecma_codegen_tokens.specs.Run.{Env}
use Rattle.swc_ecma_codegen_tokens.specs.Words.{trailing_comments}
use Rattle.swc_ecma_codegen_tokens.specs.Written.{Anything}
use Rattle.swc_ecma_codegen_tokens.proofs.Reading.Printed.{writes_if, writes_nothing, Fills}
use Rattle.swc_ecma_codegen_tokens.proofs.Commenting.CommentPrints.{writes_trailing}
use Rattle.swc_ecma_codegen_tokens.proofs.Reading.Phrased.{Prints, then, before, prints_never, prints_punct}
use Rattle.swc_ecma_codegen_tokens.proofs.Jsx.TagPrints.{prints_spots}
use Rattle.swc_ecma_codegen_emit.specs.declared.nodes.Context.{Context}
use Rattle.swc_ecma_codegen_emit.specs.declared.nodes.Context.TheVariants.{Plain, FieldValue}
use Rattle.swc_ecma_codegen_emit.specs.Places.{Whole}
use Rattle.swc_ecma_codegen_emit.specs.Answers.{place_of}
use Rattle.swc_ecma_codegen_emit.specs.AnyExpr as words
use Rattle.swc_ecma_codegen_emit.specs.AnyExpr.{is_field_value}
use Rattle.swc_ecma_codegen_emit.specs.Calls as calls
use Rattle.swc_ecma_codegen_emit.proofs.FunctionExprParts.{fn_expr_prints, arrow_expr_prints, class_expr_prints}
use Rattle.swc_ecma_codegen_emit.proofs.CallParts.{array_lit_prints, call_prints, new_prints}
use Rattle.swc_ecma_codegen_emit.proofs.TemplateParts.{tagged_tpl_prints}
use Rattle.swc_ecma_codegen_emit.proofs.PropParts.{object_lit_prints}
use Rattle.swc_ecma_codegen_emit.proofs.ExprParts.{this_prints, unary_prints, update_prints, bin_prints, assign_prints, member_prints, super_prop_expr_prints, cond_prints, seq_prints, ident_prints, lit_prints, yield_prints, meta_prop_expr_prints, await_prints, paren_prints, private_name_prints, opt_chain_prints}
use Rattle.swc_ecma_codegen_emit.proofs.Linked.{Linked}
use Rattle.swc_ecma_codegen_emit.proofs.MarkWords as marks
use Rattle.swc_ecma_codegen_emit.proofs.TsExprParts.{as_prints, const_assertion_prints, satisfies_prints, non_null_prints, type_assertion_prints, instantiation_prints}

writes_closed : (env : Env) (left : Bool) (span : Span) → Fills env (words.expr_closed left span)
unfolding words.expr_closed
writes_closed env left span = writes_if env left (λ rest. rest) (trailing_comments true span.hi) [] (writes_nothing env) (writes_trailing env true span.hi)

parts_print : {X : Type 0} (l : Linked X) (n : Expr X) (context : Context) → Prints l.env (words.expr_parts l.asks l.items n context) (lists.expr_in l.reads (calls.keeps_arguments context) n)
unfolding words.expr_parts lists.expr lists.expr_in
parts_print l (exprs.This n) context = this_prints l.env n
parts_print l (exprs.Object n) context = object_lit_prints l n
parts_print l (exprs.Fn n) context = fn_expr_prints l n
parts_print l (exprs.Array n) context = array_lit_prints l n
parts_print l (exprs.Unary n) context = unary_prints l n
parts_print l (exprs.Update n) context = update_prints l n
parts_print l (exprs.Bin n) context = bin_prints l n context
parts_print l (exprs.Assign n) context = assign_prints l n
parts_print l (exprs.Member n) context = member_prints l n
parts_print l (exprs.SuperProp n) context = super_prop_expr_prints l n
parts_print l (exprs.Cond n) context = cond_prints l n
parts_print l (exprs.Call n) context = call_prints l n
parts_print l (exprs.New n) context = new_prints l (calls.keeps_arguments context) n
parts_print l (exprs.Seq n) context = seq_prints l n
parts_print l (exprs.Ident n) context = ident_prints l n
parts_print l (exprs.Lit n) context = lit_prints l.env n context
parts_print l (exprs.Tpl n) context = l.law n.node.value (Whole Plain) Template
parts_print l (exprs.TaggedTpl n) context = tagged_tpl_prints l n
parts_print l (exprs.Arrow n) context = arrow_expr_prints l n.value
parts_print l (exprs.Class n) context = class_expr_prints l n
parts_print l (exprs.Yield n) context = yield_prints l n
parts_print l (exprs.MetaProp n) context = meta_prop_expr_prints l.env n
parts_print l (exprs.Await n) context = await_prints l n
parts_print l (exprs.Paren n) context = paren_prints l n
parts_print l (exprs.PrivateName n) context = private_name_prints l n
parts_print l (exprs.OptChain n) context = opt_chain_prints l n
parts_print l (exprs.JSXElement n) context = prints_spots Anything Anything refl refl (l.law n.node.value (Whole Plain) Element)
parts_print l (exprs.JSXFragment n) context = prints_spots Anything Anything refl refl (l.law n.node.value (Whole Plain) Element)
parts_print l (exprs.TsAs n) context = as_prints l n
parts_print l (exprs.TsConstAssertion n) context = const_assertion_prints l n
parts_print l (exprs.TsSatisfies n) context = satisfies_prints l n
parts_print l (exprs.TsNonNull n) context = non_null_prints l n
parts_print l (exprs.TsTypeAssertion n) context = type_assertion_prints l n
parts_print l (exprs.TsInstantiation n) context = instantiation_prints l n
parts_print l n context = prints_never

-- the comments after it
expr_prints : {X : Type 0} (l : Linked X) (n : Expr X) (context : Context) → Prints l.env (words.expr l.asks l.items n context) (lists.expr_in l.reads (calls.keeps_arguments context) n)
unfolding words.expr
expr_prints l n context = before (parts_print l n context) (writes_closed l.env (words.leaves_comments n context) (expr_span (place_of l.asks) n))

-- where it is no callee, and where it is one
plain_same : {X : Type 0} (f : X → Role → Phrase) (n : Expr X) → lists.expr_in f false n ≡ lists.expr f n
unfolding lists.expr_in lists.expr
plain_same f (exprs.New n) = refl
plain_same f n = refl

pub plain_expr_prints : {X : Type 0} (l : Linked X) (n : Expr X) (context : Context) → calls.keeps_arguments context ≡ false → Prints l.env (words.expr l.asks l.items n context) (lists.expr l.reads n)
plain_expr_prints l n context h =
    let P : Phrase → Type 0 = λ f. Prints l.env (words.expr l.asks l.items n context) f in
    subst P (ap (λ b. lists.expr_in l.reads b n) h ∙ plain_same l.reads n) (expr_prints l n context)

pub callee_expr_prints : {X : Type 0} (l : Linked X) (n : Expr X) (context : Context) → calls.keeps_arguments context ≡ true → Prints l.env (words.expr l.asks l.items n context) (lists.expr_in l.reads true n)
callee_expr_prints l n context h =
    let P : Phrase → Type 0 = λ f. Prints l.env (words.expr l.asks l.items n context) f in
    subst P (ap (λ b. lists.expr_in l.reads b n) h) (expr_prints l n context)

-- ---- where it stands

and_none : (b : Bool) → (b && false) ≡ false
and_none true = refl
and_none false = refl

not_wrapped : {X : Type 0} (n : Expr X) (context : Context) → is_field_value context ≡ false → words.is_wrapped n context ≡ false
unfolding words.is_wrapped
not_wrapped n context h = ap (λ b. is_sequence n && b) h ∙ and_none (is_sequence n)

-- elsewhere it has no parentheses of its own
pub unwrapped_prints : {X : Type 0} {f : Phrase} (l : Linked X) (n : Expr X) (context : Context) → is_field_value context ≡ false → Prints l.env (words.expr l.asks l.items n context) f → Prints l.env (words.placed_expr l.asks l.items n context) f
unfolding words.placed_expr
unwrapped_prints {f = f} l n context h p =
    subst (λ b. Prints l.env (λ rest. cond b (words.wrapped l.asks l.items n rest) (words.expr l.asks l.items n context rest)) f) (sym (not_wrapped n context h)) p

value_prints : {X : Type 0} (l : Linked X) (n : Expr X) (sequence : Bool) → Prints l.env (λ rest. cond (sequence && true) (words.wrapped l.asks l.items n rest) (words.expr l.asks l.items n FieldValue rest)) (cond sequence (mark (codes "(") > lists.expr l.reads n > mark (codes ")")) (lists.expr l.reads n))
unfolding words.wrapped
value_prints l n true = then (prints_punct l.env (codes "(") marks.left_parenthesis) (then (plain_expr_prints l n Plain refl) (prints_punct l.env (codes ")") marks.right_parenthesis))
value_prints l n false = plain_expr_prints l n FieldValue refl

-- the value of a field
pub field_value_prints : {X : Type 0} (l : Linked X) (n : Expr X) → Prints l.env (words.placed_expr l.asks l.items n FieldValue) (field_value l.reads n)
unfolding words.placed_expr words.is_wrapped is_field_value field_value
field_value_prints l n = value_prints l n (is_sequence n)
