-- What is written of arrays, calls and `new` is what it reads as.
use Rattle.std.proofs.Common.{◌≡◌, ℕ, Bool, true, false, List, [], ◌∷◌, map, codes, refl, Option, Some, None}
use Rattle.std.specs.declared.vec.Vec.{Vec}
use Rattle.std.specs.Str.{chars, is_utf8}
use Rattle.std.proofs.lemmas.Bool.{false≢true}
use Rattle.swc_ecma_codegen_common.specs.declared.positions.Span.{Span}
use Rattle.swc_ecma_codegen_tree.specs.declared.modules.ImportPhase.{ImportPhase}
use Rattle.swc_ecma_codegen_tree.specs.declared.modules.ImportPhase.TheVariants as phases
use Rattle.swc_ecma_codegen_tree.specs.declared.exprs.ArrayLit.{ArrayLit}
use Rattle.swc_ecma_codegen_tree.specs.declared.exprs.ExprOrSpread.{ExprOrSpread}
use Rattle.swc_ecma_codegen_tree.specs.declared.exprs.CallExpr.{CallExpr}
use Rattle.swc_ecma_codegen_tree.specs.declared.exprs.Callee as callee_exprs
use Rattle.swc_ecma_codegen_tree.specs.declared.exprs.Callee.TheVariants as callees
use Rattle.swc_ecma_codegen_tree.specs.declared.exprs.NewExpr.{NewExpr}
use Rattle.swc_ecma_codegen_tree.specs.declared.exprs.OptCall.{OptCall}
use Rattle.swc_ecma_codegen_spans.specs.Spans.{option_span, expr_or_spread_span}
use Rattle.swc_ecma_codegen_grammar.specs.Chars.{is_start, is_part, is_letter, is_digit}
use Rattle.swc_ecma_codegen_grammar.specs.Names.{is_word, all_part}
use Rattle.swc_ecma_codegen_grammar.specs.Punctuators.{is_punctuator, punctuators}
use Rattle.swc_ecma_codegen_grammar.specs.Texts.{is_same, is_among}
use Rattle.swc_ecma_codegen_grammar.specs.Phrases.{◌>◌, mark}
use Rattle.swc_ecma_codegen_grammar.specs.ElementPhrases.{element, last_is_hole}
use Rattle.swc_ecma_codegen_grammar.specs.CallPhrases as lists
use Rattle.swc_ecma_codegen_grammar.specs.ListFormats.{comma_delimited, allows_trailing_comma, forces_trailing_comma}
use Rattle.swc_ecma_codegen_grammar.specs.declared.roles.Role.TheVariants.{Callee as IsCallee}
use Rattle.swc_ecma_codegen_tokens.specs.Run.{Env}
use Rattle.swc_ecma_codegen_tokens.specs.Lists.{list}
use Rattle.swc_ecma_codegen_tokens.specs.Words.{punct, space, formatting_space, position}
use Rattle.swc_ecma_codegen_tokens.specs.Written.{IsWord, IsMark}
use Rattle.swc_ecma_codegen_tokens.proofs.Reading.Printed.{writes_if, writes_nothing, writes_space, writes_formatting_space, writes_commit, writes_position, Fills, makes_wider}
use Rattle.swc_ecma_codegen_tokens.proofs.Commenting.CommentPrints.{writes_leading}
use Rattle.swc_ecma_codegen_tokens.proofs.Reading.Phrased.{Prints, then, after, before, prints_nothing, prints_keyword, prints_punct, PrintsAt, prints_wider, loosened}
use Rattle.swc_ecma_codegen_tokens.proofs.Reading.Choices.{prints_empty_arguments}
use Rattle.swc_ecma_codegen_tokens.proofs.Listing.ListLaws.{prints_bracketed, prints_bracketed_some, prints_forced_closing}
use Rattle.swc_ecma_codegen_emit.specs.declared.nodes.Context.TheVariants.{Plain, Callee}
use Rattle.swc_ecma_codegen_emit.specs.Places.{Whole}
use Rattle.swc_ecma_codegen_emit.specs.Answers.{place_of}
use Rattle.swc_ecma_codegen_emit.specs.Calls as words
use Rattle.swc_ecma_codegen_emit.specs.Lists.{child_of, if_some_at}
use Rattle.swc_ecma_codegen_emit.proofs.AnnotationParts.{type_args_print}
use Rattle.swc_ecma_codegen_emit.proofs.Linked.{Linked, expr_at}
use Rattle.swc_ecma_codegen_tokens.proofs.Filling.Shapes.{open_, loose}

open_is_mark : IsMark (codes "(")
unfolding is_punctuator is_among is_same punctuators chars is_utf8 lib.Utf8.encode
open_is_mark = record { utf8 = refl; ascii = refl; shape = refl }

close_is_mark : IsMark (codes ")")
unfolding is_punctuator is_among is_same punctuators chars is_utf8 lib.Utf8.encode
close_is_mark = record { utf8 = refl; ascii = refl; shape = refl }

open_bracket_is_mark : IsMark (codes "[")
unfolding is_punctuator is_among is_same punctuators chars is_utf8 lib.Utf8.encode
open_bracket_is_mark = record { utf8 = refl; ascii = refl; shape = refl }

close_bracket_is_mark : IsMark (codes "]")
unfolding is_punctuator is_among is_same punctuators chars is_utf8 lib.Utf8.encode
close_bracket_is_mark = record { utf8 = refl; ascii = refl; shape = refl }

dot_is_mark : IsMark (codes ".")
unfolding is_punctuator is_among is_same punctuators chars is_utf8 lib.Utf8.encode
dot_is_mark = record { utf8 = refl; ascii = refl; shape = refl }

question_dot_is_mark : IsMark (codes "?.")
unfolding is_punctuator is_among is_same punctuators chars is_utf8 lib.Utf8.encode
question_dot_is_mark = record { utf8 = refl; ascii = refl; shape = refl }

ellipsis_is_mark : IsMark (codes "...")
unfolding is_punctuator is_among is_same punctuators chars is_utf8 lib.Utf8.encode
ellipsis_is_mark = record { utf8 = refl; ascii = refl; shape = refl }

pub super_is_word : IsWord (codes "super")
unfolding is_word is_start is_part is_letter is_digit all_part chars is_utf8 lib.Utf8.encode
super_is_word = record { utf8 = refl; ascii = refl; shape = refl }

import_is_word : IsWord (codes "import")
unfolding is_word is_start is_part is_letter is_digit all_part chars is_utf8 lib.Utf8.encode
import_is_word = record { utf8 = refl; ascii = refl; shape = refl }

source_is_word : IsWord (codes "source")
unfolding is_word is_start is_part is_letter is_digit all_part chars is_utf8 lib.Utf8.encode
source_is_word = record { utf8 = refl; ascii = refl; shape = refl }

defer_is_word : IsWord (codes "defer")
unfolding is_word is_start is_part is_letter is_digit all_part chars is_utf8 lib.Utf8.encode
defer_is_word = record { utf8 = refl; ascii = refl; shape = refl }

new_is_word : IsWord (codes "new")
unfolding is_word is_start is_part is_letter is_digit all_part chars is_utf8 lib.Utf8.encode
new_is_word = record { utf8 = refl; ascii = refl; shape = refl }

-- ---- elements and arguments

spread_mark_prints : (env : Env) (spread : Option Span) → PrintsAt open_ env (words.spread_mark spread) (lists.spread_mark spread)
unfolding words.spread_mark lists.spread_mark
spread_mark_prints env None = prints_nothing
spread_mark_prints env (Some dots) = prints_wider open_ refl (prints_punct env (codes "...") ellipsis_is_mark)

expr_or_spread_prints : {X : Type 0} (l : Linked X) (n : ExprOrSpread X) → Prints l.env (words.expr_or_spread l.asks l.items n) (lists.expr_or_spread l.reads n)
unfolding words.expr_or_spread lists.expr_or_spread
expr_or_spread_prints l n = after (writes_leading l.env (expr_or_spread_span (place_of l.asks) n).lo) (then (spread_mark_prints l.env n.spread) (expr_at l n.expr Plain))

element_prints : {X : Type 0} (l : Linked X) (n : Option (ExprOrSpread X)) → PrintsAt open_ l.env (if_some_at (words.argument_items l.asks l.items) n (Whole Plain)) (element (lists.expr_or_spread l.reads) n)
unfolding if_some_at element
element_prints l None = prints_nothing
element_prints l (Some n) = prints_wider open_ refl (expr_or_spread_prints l n)

arguments_print : {X : Type 0} (l : Linked X) (format : ℕ) → comma_delimited format ≡ true → forces_trailing_comma format ≡ false → allows_trailing_comma format ≡ false → (parent : Span) (xs : List (ExprOrSpread X)) → Prints l.env (words.arguments l.asks l.items format parent xs) (lists.arguments l.reads xs)
unfolding words.arguments lists.arguments
arguments_print l format c f a parent xs =
    prints_bracketed l.env (codes "(") open_is_mark (λ rest. rest) (makes_wider loose refl (writes_nothing l.env)) format parent (words.argument_place l.asks) (λ n. words.expr_or_spread l.asks l.items n) (lists.expr_or_spread l.reads) (mark (codes ")")) (punct (codes ")")) (λ n. loosened (expr_or_spread_prints l n)) c f a (prints_punct l.env (codes ")") close_is_mark) xs

-- ---- arrays

closing_bracket_prints : (env : Env) (span : Span) → Prints env (λ rest. punct (codes "]") (position span.hi rest)) (mark (codes "]"))
closing_bracket_prints env span = before (prints_punct env (codes "]") close_bracket_is_mark) (writes_position env span.hi)

array_by : {X : Type 0} (l : Linked X) (span : Span) (hole : Bool) (xs : List (Option (ExprOrSpread X))) → last_is_hole xs ≡ hole → Prints l.env (λ rest. punct (codes "[") (list (words.array_format hole) span (map (child_of (option_span (words.argument_place l.asks)) (if_some_at (words.argument_items l.asks l.items))) xs) (punct (codes "]") (position span.hi rest)))) (mark (codes "[") > lists.array_elements l.reads hole xs > mark (codes "]"))
unfolding lists.array_elements last_is_hole
array_by l span true [] h = absurd (false≢true h)
array_by l span true (x ∷ xs) h =
    prints_bracketed_some l.env (codes "[") open_bracket_is_mark (λ rest. rest) (makes_wider loose refl (writes_nothing l.env)) (words.array_format true) span (option_span (words.argument_place l.asks)) (λ n. if_some_at (words.argument_items l.asks l.items) n (Whole Plain)) (element (lists.expr_or_spread l.reads)) (mark (codes ",")) (mark (codes "]")) (λ rest. punct (codes "]") (position span.hi rest)) (λ n. prints_wider loose refl (element_prints l n)) refl (λ last. prints_forced_closing l.env (words.array_format true) span last refl refl refl) (closing_bracket_prints l.env span) x xs
array_by l span false xs h =
    prints_bracketed l.env (codes "[") open_bracket_is_mark (λ rest. rest) (makes_wider loose refl (writes_nothing l.env)) (words.array_format false) span (option_span (words.argument_place l.asks)) (λ n. if_some_at (words.argument_items l.asks l.items) n (Whole Plain)) (element (lists.expr_or_spread l.reads)) (mark (codes "]")) (λ rest. punct (codes "]") (position span.hi rest)) (λ n. prints_wider loose refl (element_prints l n)) refl refl refl (closing_bracket_prints l.env span) xs

pub array_lit_prints : {X : Type 0} (l : Linked X) (n : ArrayLit X) → Prints l.env (words.array_lit l.asks l.items n) (lists.array_lit l.reads n)
unfolding words.array_lit lists.array_lit
array_lit_prints l n = after (writes_leading l.env n.span.lo) (after (writes_position l.env n.span.lo) (array_by l n.span (last_is_hole n.elems.items) n.elems.items refl))

-- ---- calls

import_phase_prints : (env : Env) (phase : ImportPhase) → PrintsAt open_ env (words.import_phase phase) (lists.import_phase phase)
unfolding words.import_phase lists.import_phase
import_phase_prints env phases.Evaluation = prints_nothing
import_phase_prints env phases.Source = prints_wider open_ refl (then (prints_punct env (codes ".") dot_is_mark) (prints_keyword env None (codes "source") source_is_word))
import_phase_prints env phases.Defer = prints_wider open_ refl (then (prints_punct env (codes ".") dot_is_mark) (prints_keyword env None (codes "defer") defer_is_word))

callee_prints : {X : Type 0} (l : Linked X) (n : callee_exprs.Callee X) → Prints l.env (words.callee l.items n) (lists.callee l.reads n)
unfolding words.callee words.super_keyword words.import_callee lists.callee lists.import_callee
callee_prints l (callees.Super n) = prints_keyword l.env (Some n.span) (codes "super") super_is_word
callee_prints l (callees.Import n) = then (prints_keyword l.env (Some n.span) (codes "import") import_is_word) (import_phase_prints l.env n.phase)
callee_prints l (callees.Expr n) = l.law n.node.value (Whole Callee) IsCallee

pub call_prints : {X : Type 0} (l : Linked X) (n : CallExpr X) → Prints l.env (words.call_expr l.asks l.items n) (lists.call_expr l.reads n)
unfolding words.call_expr lists.call_expr
call_prints l n =
    after (writes_commit l.env)
    (after (writes_leading l.env n.span.lo)
    (after (writes_position l.env n.span.lo)
    (then (callee_prints l n.callee) (then (type_args_print l Plain n.type_args) (arguments_print l words.call_format refl refl refl n.span n.args.items)))))

-- ---- `new`

listed_arguments_print : {X : Type 0} (l : Linked X) (parent : Span) (keeps : Bool) (xs : List (ExprOrSpread X)) → PrintsAt open_ l.env (words.listed_arguments l.asks l.items parent keeps xs) (lists.listed_arguments l.reads keeps xs)
unfolding words.listed_arguments lists.listed_arguments
listed_arguments_print l parent false [] = prints_empty_arguments
listed_arguments_print l parent false (x ∷ xs) = prints_wider open_ refl (arguments_print l words.new_format refl refl refl parent (x ∷ xs))
listed_arguments_print l parent true xs = prints_wider open_ refl (arguments_print l words.new_format refl refl refl parent xs)

new_arguments_print : {X Z : Type 0} (l : Linked X) (parent : Span) (keeps : Bool) (args : Option (Vec (ExprOrSpread X) Z)) → PrintsAt open_ l.env (words.new_arguments l.asks l.items parent keeps args) (lists.new_arguments l.reads keeps args)
unfolding words.new_arguments lists.new_arguments
new_arguments_print l parent keeps None = prints_nothing
new_arguments_print l parent keeps (Some xs) = listed_arguments_print l parent keeps xs.items

writes_new_gap : (env : Env) (starts : Bool) → Fills env (words.new_gap starts)
unfolding words.new_gap
writes_new_gap env starts = writes_if env starts space formatting_space [] (writes_space env) (writes_formatting_space env)

pub new_prints : {X : Type 0} (l : Linked X) (keeps : Bool) (n : NewExpr X) → Prints l.env (words.new_expr l.asks l.items keeps n) (lists.new_expr l.reads keeps n)
unfolding words.new_expr lists.new_expr
new_prints l keeps n =
    after (writes_commit l.env)
    (after (writes_leading l.env n.span.lo)
    (after (writes_position l.env n.span.lo)
    (then (prints_keyword l.env None (codes "new") new_is_word)
    (after (writes_new_gap l.env (l.asks n.callee.node.value).starts)
    (then (expr_at l n.callee Plain) (then (type_args_print l Plain n.type_args) (new_arguments_print l n.span keeps n.args)))))))

-- ---- calls in optional chains

call_mark_prints : (env : Env) (optional : Bool) → PrintsAt open_ env (words.call_mark optional) (lists.call_mark optional)
unfolding words.call_mark lists.call_mark
call_mark_prints env true = prints_wider open_ refl (prints_punct env (codes "?.") question_dot_is_mark)
call_mark_prints env false = prints_nothing

pub chain_call_prints : {X : Type 0} (l : Linked X) (optional : Bool) (n : OptCall X) → Prints l.env (words.chain_call l.asks l.items optional n) (lists.chain_call l.reads optional n)
unfolding words.chain_call lists.chain_call
chain_call_prints l optional n =
    then (l.law n.callee.node.value (Whole Callee) IsCallee)
    (then (call_mark_prints l.env optional)
    (then (type_args_print l Plain n.type_args) (arguments_print l words.call_format refl refl refl n.span n.args.items)))
