-- AnyExpr: a law of the words holds of the plan.
use Rattle.std.specs.Prelude.{Bool, true, codes}
use Rattle.swc_ecma_codegen_common.specs.declared.positions.Span.{Span}
use Rattle.swc_ecma_codegen_tree.specs.declared.exprs.Expr.{Expr}
use Rattle.swc_ecma_codegen_tree.specs.declared.exprs.Expr.TheVariants as exprs
use Rattle.swc_ecma_codegen_spans.specs.Spans.{expr_span}
use Rattle.swc_ecma_codegen_tokens.specs.Run.{Part}
use Rattle.swc_ecma_codegen_emit.specs.declared.nodes.Context.{Context}
use Rattle.swc_ecma_codegen_emit.specs.declared.nodes.Context.TheVariants.{Plain}
use Rattle.swc_ecma_codegen_emit.specs.Places.{Whole}
use Rattle.swc_ecma_codegen_emit.specs.Answers.{place_of}
use Rattle.swc_ecma_codegen_emit.specs.Calls.{keeps_arguments}
use Rattle.swc_ecma_codegen_emit.specs.Lists.{unsupported}
use Rattle.swc_ecma_codegen_laws.proofs.OfWords.{OfWords, Known, asks_in, items_in, either}
use Rattle.swc_ecma_codegen_tokens.specs.declared.refusals.Unprintable.TheVariants as unprintable
use Rattle.swc_ecma_codegen_emit.specs.AnyExpr.{expr_parts, leaves_comments, expr_closed, expr, is_wrapped, wrapped, placed_expr}
use Rattle.swc_ecma_codegen_laws.proofs.CallsLifted.{array_lit_holds, call_expr_holds, new_expr_holds}
use Rattle.swc_ecma_codegen_laws.proofs.ClassExprsLifted.{class_expr_holds}
use Rattle.swc_ecma_codegen_laws.proofs.ExprsLifted.{assign_holds, await_expr_holds, bin_holds, choice_holds, ident_holds, member_holds, meta_prop_expr_holds, opt_chain_holds, paren_holds, private_name_holds, seq_holds, super_prop_expr_holds, this_holds, unary_holds, update_holds, yield_expr_holds}
use Rattle.swc_ecma_codegen_laws.proofs.FunctionExprsLifted.{arrow_expr_holds, fn_expr_holds}
use Rattle.swc_ecma_codegen_laws.proofs.JsxLifted.{jsx_member_expr_holds, jsx_namespaced_name_holds}
use Rattle.swc_ecma_codegen_laws.proofs.LitsLifted.{lit_at_holds}
use Rattle.swc_ecma_codegen_laws.proofs.PropsLifted.{object_lit_holds}
use Rattle.swc_ecma_codegen_laws.proofs.TemplatesLifted.{tagged_tpl_holds}
use Rattle.swc_ecma_codegen_laws.proofs.TsExprsLifted.{ts_as_expr_holds, ts_const_assertion_holds, ts_instantiation_holds, ts_non_null_expr_holds, ts_satisfies_expr_holds, ts_type_assertion_holds}

pub expr_parts_holds : {X : Type 0} {holds : Bool → Part → Type 0} (known : Known holds X) (bounded : Bool) (x2 : Expr X) (context : Context) → holds bounded (expr_parts (asks_in known) (items_in known) x2 context)
unfolding expr_parts unsupported
expr_parts_holds known bounded (exprs.This n) context = this_holds known.words bounded n
expr_parts_holds known bounded (exprs.Object n) context = object_lit_holds known bounded n
expr_parts_holds known bounded (exprs.Fn n) context = fn_expr_holds known bounded n Plain
expr_parts_holds known bounded (exprs.Array n) context = array_lit_holds known bounded n
expr_parts_holds known bounded (exprs.Unary n) context = unary_holds known bounded n
expr_parts_holds known bounded (exprs.Update n) context = update_holds known bounded n
expr_parts_holds known bounded (exprs.Bin n) context = bin_holds known bounded n context
expr_parts_holds known bounded (exprs.Assign n) context = assign_holds known bounded n
expr_parts_holds known bounded (exprs.Member n) context = member_holds known bounded n
expr_parts_holds known bounded (exprs.SuperProp n) context = super_prop_expr_holds known bounded n
expr_parts_holds known bounded (exprs.Cond n) context = choice_holds known bounded n
expr_parts_holds known bounded (exprs.Call n) context = call_expr_holds known bounded n
expr_parts_holds known bounded (exprs.New n) context = new_expr_holds known bounded (keeps_arguments context) n
expr_parts_holds known bounded (exprs.Seq n) context = seq_holds known bounded n
expr_parts_holds known bounded (exprs.Ident n) context = ident_holds known.words bounded n
expr_parts_holds known bounded (exprs.Lit n) context = lit_at_holds known.words bounded n context
expr_parts_holds known bounded (exprs.Tpl n) context = known.law bounded n.node.value (Whole Plain)
expr_parts_holds known bounded (exprs.TaggedTpl n) context = tagged_tpl_holds known bounded n
expr_parts_holds known bounded (exprs.Arrow n) context = arrow_expr_holds known bounded n.value
expr_parts_holds known bounded (exprs.Class n) context = class_expr_holds known bounded n
expr_parts_holds known bounded (exprs.Yield n) context = yield_expr_holds known bounded n
expr_parts_holds known bounded (exprs.MetaProp n) context = meta_prop_expr_holds known.words bounded n
expr_parts_holds known bounded (exprs.Await n) context = await_expr_holds known bounded n
expr_parts_holds known bounded (exprs.Paren n) context = paren_holds known bounded n
expr_parts_holds known bounded (exprs.PrivateName n) context = private_name_holds known.words bounded n
expr_parts_holds known bounded (exprs.OptChain n) context = opt_chain_holds known bounded n
expr_parts_holds known bounded (exprs.JSXMember n) context = jsx_member_expr_holds known bounded n
expr_parts_holds known bounded (exprs.JSXNamespacedName n) context = jsx_namespaced_name_holds known.words bounded n
expr_parts_holds known bounded (exprs.JSXEmpty n) context = known.words.none bounded
expr_parts_holds known bounded (exprs.JSXElement n) context = known.law bounded n.node.value (Whole Plain)
expr_parts_holds known bounded (exprs.JSXFragment n) context = known.law bounded n.node.value (Whole Plain)
expr_parts_holds known bounded (exprs.TsAs n) context = ts_as_expr_holds known bounded n
expr_parts_holds known bounded (exprs.TsConstAssertion n) context = ts_const_assertion_holds known bounded n
expr_parts_holds known bounded (exprs.TsSatisfies n) context = ts_satisfies_expr_holds known bounded n
expr_parts_holds known bounded (exprs.TsNonNull n) context = ts_non_null_expr_holds known bounded n
expr_parts_holds known bounded (exprs.TsTypeAssertion n) context = ts_type_assertion_holds known bounded n
expr_parts_holds known bounded (exprs.TsInstantiation n) context = ts_instantiation_holds known bounded n
expr_parts_holds known bounded (exprs.Invalid n) context = known.words.refuse bounded unprintable.UnsupportedNode

pub expr_closed_holds : {holds : Bool → Part → Type 0} (words : OfWords holds) (bounded : Bool) (left : Bool) (span : Span) → holds bounded (expr_closed left span)
unfolding expr_closed
expr_closed_holds words bounded left span = either words bounded left (words.none bounded) (words.trailing_comments bounded true span.hi)

pub expr_holds : {X : Type 0} {holds : Bool → Part → Type 0} (known : Known holds X) (bounded : Bool) (n : Expr X) (context : Context) → holds bounded (expr (asks_in known) (items_in known) n context)
unfolding expr
expr_holds known bounded n context = known.words.and_then bounded (expr_parts_holds known bounded n context) (expr_closed_holds known.words bounded (leaves_comments n context) (expr_span (place_of (asks_in known)) n))

pub wrapped_holds : {X : Type 0} {holds : Bool → Part → Type 0} (known : Known holds X) (bounded : Bool) (n : Expr X) → holds bounded (wrapped (asks_in known) (items_in known) n)
unfolding wrapped
wrapped_holds known bounded n = known.words.and_then bounded (known.words.punct bounded (codes "(")) (known.words.and_then bounded (expr_holds known bounded n Plain) (known.words.punct bounded (codes ")")))

pub placed_expr_holds : {X : Type 0} {holds : Bool → Part → Type 0} (known : Known holds X) (bounded : Bool) (n : Expr X) (context : Context) → holds bounded (placed_expr (asks_in known) (items_in known) n context)
unfolding placed_expr
placed_expr_holds known bounded n context = either known.words bounded (is_wrapped n context) (wrapped_holds known bounded n) (expr_holds known bounded n context)
