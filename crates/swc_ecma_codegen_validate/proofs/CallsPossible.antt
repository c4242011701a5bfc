-- When arrays, calls and `new` are well-formed.
use Rattle.std.proofs.Common.{◌≡◌, Bool, true, false, ◌&&◌, codes, List, [], ◌∷◌, map, Option, Some, None, refl, sym, ap, ◌∙◌}
use Rattle.std.specs.declared.vec.Vec.{Vec}
use Rattle.swc_ecma_codegen_common.specs.declared.positions.Span.{Span}
use Rattle.swc_ecma_codegen_tree.specs.declared.modules.ImportPhase.{ImportPhase}
use Rattle.swc_ecma_codegen_tree.specs.declared.modules.ImportPhase.TheVariants as phases
use Rattle.swc_ecma_codegen_tree.specs.declared.exprs.Expr.{Expr}
use Rattle.swc_ecma_codegen_tree.specs.declared.exprs.Expr.TheVariants as exprs
use Rattle.swc_ecma_codegen_tree.specs.declared.exprs.ArrayLit.{ArrayLit}
use Rattle.swc_ecma_codegen_tree.specs.declared.exprs.ExprOrSpread.{ExprOrSpread}
use Rattle.swc_ecma_codegen_tree.specs.declared.exprs.CallExpr.{CallExpr}
use Rattle.swc_ecma_codegen_tree.specs.declared.exprs.Import.{Import}
use Rattle.swc_ecma_codegen_tree.specs.declared.exprs.NewExpr.{NewExpr}
use Rattle.swc_ecma_codegen_tree.specs.declared.exprs.OptCall.{OptCall}
use Rattle.swc_ecma_codegen_grammar.specs.AnnotationPhrases.{type_args}
use Rattle.swc_ecma_codegen_grammar.specs.TypePhrases.{args_at}
use Rattle.swc_ecma_codegen_grammar.specs.Phrases.{Phrase, listed, is_possible}
use Rattle.swc_ecma_codegen_grammar.specs.ElementPhrases.{element, last_is_hole}
use Rattle.swc_ecma_codegen_grammar.specs.CallPhrases.{value_at, callee_at, spread_mark, expr_or_spread, array_elements, array_lit, arguments, import_phase, import_callee, callee, call_expr, listed_arguments, new_arguments, new_expr, call_mark, chain_call}
use Rattle.swc_ecma_codegen_grammar.specs.ExprPhrases.{expr, expr_in}
use Rattle.swc_ecma_codegen_grammar.specs.declared.roles.Role.{Role}
use Rattle.swc_ecma_codegen_validate.specs.Possible.{all_possible}
use Rattle.swc_ecma_codegen_validate.proofs.Annotations.{args_possible}
use Rattle.swc_ecma_codegen_validate.proofs.Lists.{listed_possible, and_true}

pub spread_possible : (spread : Option Span) → is_possible (spread_mark spread) ≡ true
unfolding is_possible spread_mark
spread_possible None = refl
spread_possible (Some dots) = refl

elements_possible : {X : Type 0} (f : X → Role → Phrase) (hole : Bool) (xs : List (Option (ExprOrSpread X))) → is_possible (array_elements f hole xs) ≡ all_possible (element (expr_or_spread f)) xs
unfolding is_possible array_elements
elements_possible f true xs = and_true (is_possible (listed (codes ",") (map (element (expr_or_spread f)) xs))) ∙ listed_possible (codes ",") (element (expr_or_spread f)) xs
elements_possible f false xs = listed_possible (codes ",") (element (expr_or_spread f)) xs

pub array_lit_possible : {X : Type 0} (f : X → Role → Phrase) (n : ArrayLit X) → is_possible (array_lit f n) ≡ all_possible (element (expr_or_spread f)) n.elems.items
unfolding is_possible array_lit
array_lit_possible f n = and_true (is_possible (array_elements f (last_is_hole n.elems.items) n.elems.items)) ∙ elements_possible f (last_is_hole n.elems.items) n.elems.items

arguments_possible : {X : Type 0} (f : X → Role → Phrase) (xs : List (ExprOrSpread X)) → is_possible (arguments f xs) ≡ all_possible (expr_or_spread f) xs
unfolding is_possible arguments
arguments_possible f xs = and_true (is_possible (listed (codes ",") (map (expr_or_spread f) xs))) ∙ listed_possible (codes ",") (expr_or_spread f) xs

phase_possible : (phase : ImportPhase) → is_possible (import_phase phase) ≡ true
unfolding is_possible import_phase
phase_possible phases.Evaluation = refl
phase_possible phases.Source = refl
phase_possible phases.Defer = refl

pub import_possible : (n : Import) → is_possible (import_callee n) ≡ true
unfolding is_possible import_callee
import_possible n = phase_possible n.phase

pub call_possible : {X : Type 0} (f : X → Role → Phrase) (n : CallExpr X) → is_possible (call_expr f n) ≡ (is_possible (callee f n.callee) && (is_possible (element (args_at f) n.type_args) && all_possible (expr_or_spread f) n.args.items))
unfolding is_possible call_expr
call_possible f n =
    ap (λ b. is_possible (callee f n.callee) && (b && is_possible (arguments f n.args.items))) (args_possible f n.type_args)
    ∙ ap (λ b. is_possible (callee f n.callee) && (is_possible (element (args_at f) n.type_args) && b)) (arguments_possible f n.args.items)

pub listed_arguments_possible : {X : Type 0} (f : X → Role → Phrase) (keeps : Bool) (xs : List (ExprOrSpread X)) → is_possible (listed_arguments f keeps xs) ≡ all_possible (expr_or_spread f) xs
unfolding is_possible listed_arguments all_possible
listed_arguments_possible f false [] = refl
listed_arguments_possible f false (x ∷ xs) = arguments_possible f (x ∷ xs)
listed_arguments_possible f true xs = arguments_possible f xs

pub new_possible : {X : Type 0} (f : X → Role → Phrase) (keeps : Bool) (n : NewExpr X) → is_possible (new_expr f keeps n) ≡ (is_possible (value_at f n.callee) && (is_possible (element (args_at f) n.type_args) && is_possible (new_arguments f keeps n.args)))
unfolding is_possible new_expr
new_possible f keeps n = ap (λ b. is_possible (value_at f n.callee) && (b && is_possible (new_arguments f keeps n.args))) (args_possible f n.type_args)

mark_possible : (optional : Bool) → is_possible (call_mark optional) ≡ true
unfolding is_possible call_mark
mark_possible true = refl
mark_possible false = refl

pub chain_call_possible : {X : Type 0} (f : X → Role → Phrase) (optional : Bool) (n : OptCall X) → is_possible (chain_call f optional n) ≡ (is_possible (callee_at f n.callee) && (is_possible (element (args_at f) n.type_args) && all_possible (expr_or_spread f) n.args.items))
unfolding is_possible chain_call
chain_call_possible f optional n =
    ap (λ b. is_possible (callee_at f n.callee) && (b && (is_possible (type_args f n.type_args) && is_possible (arguments f n.args.items)))) (mark_possible optional)
    ∙ ap (λ b. is_possible (callee_at f n.callee) && (b && is_possible (arguments f n.args.items))) (args_possible f n.type_args)
    ∙ ap (λ b. is_possible (callee_at f n.callee) && (is_possible (element (args_at f) n.type_args) && b)) (arguments_possible f n.args.items)

pub optional_call_possible : {X : Type 0} (f : X → Role → Phrase) (optional : Bool) (n : OptCall X) → is_possible (chain_call f optional n) ≡ is_possible (chain_call f false n)
optional_call_possible f optional n = chain_call_possible f optional n ∙ sym (chain_call_possible f false n)

kept_arguments_possible : {X Z : Type 0} (f : X → Role → Phrase) (args : Option (Vec (ExprOrSpread X) Z)) → is_possible (new_arguments f true args) ≡ is_possible (new_arguments f false args)
unfolding is_possible new_arguments
kept_arguments_possible f None = refl
kept_arguments_possible f (Some xs) = listed_arguments_possible f true xs.items ∙ sym (listed_arguments_possible f false xs.items)

-- a callee is well-formed where it is another expression
pub callee_possible : {X : Type 0} (f : X → Role → Phrase) (n : Expr X) → is_possible (expr_in f true n) ≡ is_possible (expr f n)
unfolding expr_in expr
callee_possible f (exprs.New n) = new_possible f true n ∙ ap (λ b. is_possible (value_at f n.callee) && (is_possible (element (args_at f) n.type_args) && b)) (kept_arguments_possible f n.args) ∙ sym (new_possible f false n)
callee_possible f n = refl
