-- Calls: a law of the words holds of the plan.
use Rattle.swc_ecma_codegen_laws.proofs.Children.{children_hold}
use Rattle.std.proofs.Common.{◌≡◌, refl}
use Rattle.std.specs.Prelude.{ℕ, Bool, true, false, List, [], map, codes, Option, Some, None}
use Rattle.std.specs.declared.vec.Vec.{Vec}
use Rattle.swc_ecma_codegen_common.specs.declared.positions.Span.{Span}
use Rattle.swc_ecma_codegen_tree.specs.declared.modules.ImportPhase.{ImportPhase}
use Rattle.swc_ecma_codegen_tree.specs.declared.modules.ImportPhase.TheVariants as phases
use Rattle.swc_ecma_codegen_tree.specs.declared.exprs.ArrayLit.{ArrayLit}
use Rattle.swc_ecma_codegen_tree.specs.declared.exprs.ExprOrSpread.{ExprOrSpread}
use Rattle.swc_ecma_codegen_tree.specs.declared.exprs.CallExpr.{CallExpr}
use Rattle.swc_ecma_codegen_tree.specs.declared.exprs.Callee as callee_exprs
use Rattle.swc_ecma_codegen_tree.specs.declared.exprs.Callee.TheVariants as callees
use Rattle.swc_ecma_codegen_tree.specs.declared.exprs.Import.{Import}
use Rattle.swc_ecma_codegen_tree.specs.declared.exprs.NewExpr.{NewExpr}
use Rattle.swc_ecma_codegen_tree.specs.declared.exprs.OptCall.{OptCall}
use Rattle.swc_ecma_codegen_tree.specs.declared.exprs.Super.{Super}
use Rattle.swc_ecma_codegen_tree.specs.Links.{TsTypeParamInstantiationBox}
use Rattle.swc_ecma_codegen_spans.specs.Spans.{option_span, expr_or_spread_span}
use Rattle.swc_ecma_codegen_grammar.specs.ElementPhrases.{last_is_hole}
use Rattle.swc_ecma_codegen_tokens.specs.Run.{Part}
use Rattle.swc_ecma_codegen_tokens.specs.Choices.{empty_arguments}
use Rattle.swc_ecma_codegen_tokens.specs.Words.{keyword}
use Rattle.swc_ecma_codegen_emit.specs.Annotations.{type_args}
use Rattle.swc_ecma_codegen_emit.specs.declared.nodes.Context.TheVariants.{Plain, Callee}
use Rattle.swc_ecma_codegen_emit.specs.Places.{Whole}
use Rattle.swc_ecma_codegen_emit.specs.Answers.{place_of}
use Rattle.swc_ecma_codegen_emit.specs.Lists.{child_of, if_some_at}
use Rattle.swc_ecma_codegen_laws.proofs.OfWords.{OfWords, Known, asks_in, items_in, either, keeps_comma}
use Rattle.swc_ecma_codegen_emit.specs.Calls.{spread_mark, expr_or_spread, argument_place, argument_items, array_format, array_elements, array_lit, call_format, new_format, arguments, import_phase, import_callee, super_keyword, callee, call_expr, listed_arguments, new_arguments, new_gap, new_expr, call_mark, chain_call}
use Rattle.swc_ecma_codegen_laws.proofs.AnnotationsLifted.{type_args_holds}
use Rattle.swc_ecma_codegen_laws.proofs.ListsLifted.{if_some_at_holds}

pub spread_mark_holds : {holds : Bool → Part → Type 0} (words : OfWords holds) (bounded : Bool) (x0 : Option Span) → holds bounded (spread_mark x0)
unfolding spread_mark
spread_mark_holds words bounded None = words.none bounded
spread_mark_holds words bounded (Some dots) = words.punct bounded (codes "...")

pub expr_or_spread_holds : {X : Type 0} {holds : Bool → Part → Type 0} (known : Known holds X) (bounded : Bool) (n : ExprOrSpread X) → holds bounded (expr_or_spread (asks_in known) (items_in known) n)
unfolding expr_or_spread
expr_or_spread_holds known bounded n = known.words.and_then bounded (known.words.leading_comments bounded (expr_or_spread_span (place_of (asks_in known)) n).lo) (known.words.and_then bounded (spread_mark_holds known.words bounded n.spread) (known.law bounded n.expr.node.value (Whole Plain)))

array_keeps : (hole : Bool) → keeps_comma (array_format hole) ≡ true
array_keeps true = refl
array_keeps false = refl

pub array_elements_holds : {X : Type 0} {holds : Bool → Part → Type 0} (known : Known holds X) (bounded : Bool) (n : ArrayLit X) → holds bounded (array_elements (asks_in known) (items_in known) n)
array_elements_holds known bounded n = known.words.list bounded (array_format (last_is_hole n.elems.items)) (array_keeps (last_is_hole n.elems.items)) n.span (map (child_of (option_span (argument_place (asks_in known))) (if_some_at (argument_items (asks_in known) (items_in known)))) n.elems.items) (children_hold _ _ (option_span (argument_place (asks_in known))) (if_some_at (argument_items (asks_in known) (items_in known))) (λ x. (if_some_at_holds known.words bounded (argument_items (asks_in known) (items_in known)) (λ x place. (expr_or_spread_holds known bounded x)) x (Whole Plain))) n.elems.items)

pub array_lit_holds : {X : Type 0} {holds : Bool → Part → Type 0} (known : Known holds X) (bounded : Bool) (n : ArrayLit X) → holds bounded (array_lit (asks_in known) (items_in known) n)
unfolding array_lit
array_lit_holds known bounded n = known.words.and_then bounded (known.words.leading_comments bounded n.span.lo) (known.words.and_then bounded (known.words.position bounded n.span.lo) (known.words.and_then bounded (known.words.punct bounded (codes "[")) (known.words.and_then bounded (array_elements_holds known bounded n) (known.words.and_then bounded (known.words.punct bounded (codes "]")) (known.words.position bounded n.span.hi)))))

pub arguments_holds : {X : Type 0} {holds : Bool → Part → Type 0} (known : Known holds X) (bounded : Bool) (format : ℕ) → keeps_comma format ≡ true → (parent : Span) (xs : List (ExprOrSpread X)) → holds bounded (arguments (asks_in known) (items_in known) format parent xs)
unfolding arguments
arguments_holds known bounded format keeps parent xs = known.words.and_then bounded (known.words.punct bounded (codes "(")) (known.words.and_then bounded (known.words.list bounded format keeps parent (map (child_of (argument_place (asks_in known)) (argument_items (asks_in known) (items_in known))) xs) (children_hold _ _ (argument_place (asks_in known)) (argument_items (asks_in known) (items_in known)) (λ x. (expr_or_spread_holds known bounded x)) xs)) (known.words.punct bounded (codes ")")))

pub import_phase_holds : {holds : Bool → Part → Type 0} (words : OfWords holds) (bounded : Bool) (x0 : ImportPhase) → holds bounded (import_phase x0)
unfolding import_phase
import_phase_holds words bounded phases.Evaluation = words.none bounded
import_phase_holds words bounded phases.Source = words.and_then bounded (words.punct bounded (codes ".")) (words.keyword bounded None (codes "source"))
import_phase_holds words bounded phases.Defer = words.and_then bounded (words.punct bounded (codes ".")) (words.keyword bounded None (codes "defer"))

pub import_callee_holds : {holds : Bool → Part → Type 0} (words : OfWords holds) (bounded : Bool) (n : Import) → holds bounded (import_callee n)
unfolding import_callee
import_callee_holds words bounded n = words.and_then bounded (words.keyword bounded (Some n.span) (codes "import")) (import_phase_holds words bounded n.phase)

pub super_keyword_holds : {holds : Bool → Part → Type 0} (words : OfWords holds) (bounded : Bool) (n : Super) → holds bounded (super_keyword n)
unfolding super_keyword
super_keyword_holds words bounded n = words.keyword bounded (Some n.span) (codes "super")

pub callee_holds : {X : Type 0} {holds : Bool → Part → Type 0} (known : Known holds X) (bounded : Bool) (x1 : callee_exprs.Callee X) → holds bounded (callee (items_in known) x1)
unfolding callee
callee_holds known bounded (callees.Super n) = super_keyword_holds known.words bounded n
callee_holds known bounded (callees.Import n) = import_callee_holds known.words bounded n
callee_holds known bounded (callees.Expr n) = known.law bounded n.node.value (Whole Callee)

pub call_expr_holds : {X : Type 0} {holds : Bool → Part → Type 0} (known : Known holds X) (bounded : Bool) (n : CallExpr X) → holds bounded (call_expr (asks_in known) (items_in known) n)
unfolding call_expr
call_expr_holds known bounded n = known.words.and_then bounded (known.words.commit_pending_semi bounded) (known.words.and_then bounded (known.words.leading_comments bounded n.span.lo) (known.words.and_then bounded (known.words.position bounded n.span.lo) (known.words.and_then bounded (callee_holds known bounded n.callee) (known.words.and_then bounded (type_args_holds known bounded Plain n.type_args) (arguments_holds known bounded call_format refl n.span n.args.items)))))

pub new_gap_holds : {holds : Bool → Part → Type 0} (words : OfWords holds) (bounded : Bool) (starts : Bool) → holds bounded (new_gap starts)
unfolding new_gap
new_gap_holds words bounded starts = either words bounded starts (words.space bounded) (words.formatting_space bounded)

-- what is called
new_callee_holds : {X : Type 0} {holds : Bool → Part → Type 0} (known : Known holds X) (bounded : Bool) (n : NewExpr X) → holds bounded (λ rest. new_gap ((asks_in known) n.callee.node.value).starts ((items_in known) n.callee.node.value (Whole Plain) (type_args (items_in known) Plain n.type_args rest)))
new_callee_holds known bounded n = known.words.and_then bounded (new_gap_holds known.words bounded ((asks_in known) n.callee.node.value).starts) (known.words.and_then bounded (known.law bounded n.callee.node.value (Whole Plain)) (type_args_holds known bounded Plain n.type_args))

-- without arguments
bare_new_holds : {X : Type 0} {holds : Bool → Part → Type 0} (known : Known holds X) (bounded : Bool) (callee : X) (types : Option (TsTypeParamInstantiationBox X)) → holds bounded (λ rest. new_gap ((asks_in known) callee).starts ((items_in known) callee (Whole Plain) (type_args (items_in known) Plain types rest))) → holds bounded (λ rest. keyword None (codes "new") (new_gap ((asks_in known) callee).starts ((items_in known) callee (Whole Plain) (type_args (items_in known) Plain types (empty_arguments rest)))))
unfolding type_args
bare_new_holds known bounded callee None h = known.words.bare_new bounded (known.node callee) None h
bare_new_holds known bounded callee (Some types) h = known.words.bare_new bounded (known.node callee) (Some (known.node types.node.value)) h

-- and its arguments
new_listed_holds : {X : Type 0} {holds : Bool → Part → Type 0} (known : Known holds X) (bounded : Bool) (n : NewExpr X) (keeps : Bool) (xs : List (ExprOrSpread X)) → holds bounded (λ rest. keyword None (codes "new") (new_gap ((asks_in known) n.callee.node.value).starts ((items_in known) n.callee.node.value (Whole Plain) (type_args (items_in known) Plain n.type_args (listed_arguments (asks_in known) (items_in known) n.span keeps xs rest)))))
unfolding listed_arguments
new_listed_holds known bounded n false [] = bare_new_holds known bounded n.callee.node.value n.type_args (new_callee_holds known bounded n)
new_listed_holds known bounded n keeps xs = known.words.and_then bounded (known.words.keyword bounded None (codes "new")) (known.words.and_then bounded (new_callee_holds known bounded n) (arguments_holds known bounded new_format refl n.span xs))

new_parts_hold : {Z : Type 0} {X : Type 0} {holds : Bool → Part → Type 0} (known : Known holds X) (bounded : Bool) (n : NewExpr X) (keeps : Bool) (args : Option (Vec (ExprOrSpread X) Z)) → holds bounded (λ rest. keyword None (codes "new") (new_gap ((asks_in known) n.callee.node.value).starts ((items_in known) n.callee.node.value (Whole Plain) (type_args (items_in known) Plain n.type_args (new_arguments (asks_in known) (items_in known) n.span keeps args rest)))))
unfolding new_arguments
new_parts_hold known bounded n keeps None = known.words.and_then bounded (known.words.keyword bounded None (codes "new")) (new_callee_holds known bounded n)
new_parts_hold known bounded n keeps (Some xs) = new_listed_holds known bounded n keeps xs.items

pub new_expr_holds : {X : Type 0} {holds : Bool → Part → Type 0} (known : Known holds X) (bounded : Bool) (keeps : Bool) (n : NewExpr X) → holds bounded (new_expr (asks_in known) (items_in known) keeps n)
unfolding new_expr
new_expr_holds known bounded keeps n = known.words.and_then bounded (known.words.commit_pending_semi bounded) (known.words.and_then bounded (known.words.leading_comments bounded n.span.lo) (known.words.and_then bounded (known.words.position bounded n.span.lo) (new_parts_hold known bounded n keeps n.args)))

pub call_mark_holds : {holds : Bool → Part → Type 0} (words : OfWords holds) (bounded : Bool) (optional : Bool) → holds bounded (call_mark optional)
unfolding call_mark
call_mark_holds words bounded optional = either words bounded optional (words.punct bounded (codes "?.")) (words.none bounded)

pub chain_call_holds : {X : Type 0} {holds : Bool → Part → Type 0} (known : Known holds X) (bounded : Bool) (optional : Bool) (n : OptCall X) → holds bounded (chain_call (asks_in known) (items_in known) optional n)
unfolding chain_call
chain_call_holds known bounded optional n = known.words.and_then bounded (known.law bounded n.callee.node.value (Whole Callee)) (known.words.and_then bounded (call_mark_holds known.words bounded optional) (known.words.and_then bounded (type_args_holds known bounded Plain n.type_args) (arguments_holds known bounded call_format refl n.span n.args.items)))
