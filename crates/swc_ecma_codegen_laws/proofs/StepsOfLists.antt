-- Lists: a law of the words holds of the plan.
use Rattle.swc_ecma_codegen_laws.proofs.Children.{ChildrenHold}
use Rattle.swc_ecma_codegen_laws.specs.Breaks.{is_mark, is_break}
use Rattle.swc_ecma_codegen_laws.proofs.OfSteps.{is_other}
use Rattle.std.proofs.Common.{refl}
use Rattle.std.specs.Prelude.{ℕ, ◌==◌, ◌&&◌, Bool, true, false, not, if◌then◌else◌, List, [], ◌∷◌, codes}
use Rattle.swc_ecma_codegen_common.specs.declared.positions.Span.{Span}
use Rattle.swc_ecma_codegen_text_writer.specs.Sheet.{Deeper, Shallower}
use Rattle.swc_ecma_codegen_grammar.specs.ListFormats.{multi_line, bar_delimited, ampersand_delimited, comma_delimited, allows_trailing_comma, indented, space_between_braces, space_between_siblings, optional_if_empty, no_intervening_comments, no_space_if_empty, forces_trailing_comma, leading_line, separating_line, closing_line}
use Rattle.swc_ecma_codegen_tokens.specs.Run.{Part, Plain, Remake, no_part}
use Rattle.swc_ecma_codegen_laws.proofs.OfSteps.{OfSteps, when_minified_holds, by_lines_holds, either, either_at}
use Rattle.swc_ecma_codegen_tokens.specs.Lists.{ListChild}
use Rattle.swc_ecma_codegen_tokens.specs.Lists.{blank_if, line_or_blank, deeper, formatting_deeper, deeper_if, shallower, formatting_shallower, shallower_if, opening, delimiter, separator, child_comments, first_child_after, first_child, next_child_after, next_child, source_has_comma, comma_if, source_comma, wanted_comma, may_have_comma, trailing_comma, closing, list_end, list_closing, empty_list, more_children, last_place, list_after, list}
use Rattle.swc_ecma_codegen_laws.proofs.StepsOfWords.{formatting_line_holds, formatting_space_holds, trailing_comments_holds}

pub blank_if_holds : {holds : Bool → Part → Type 0} (words : OfSteps holds) (bounded : Bool) (wanted : Bool) → holds bounded (blank_if wanted)
unfolding blank_if
blank_if_holds words bounded wanted = either words bounded wanted (formatting_space_holds words bounded) (words.none bounded)

pub line_or_blank_holds : {holds : Bool → Part → Type 0} (words : OfSteps holds) (bounded : Bool) (line : Bool) (wanted : Bool) → holds bounded (line_or_blank line wanted)
unfolding line_or_blank
line_or_blank_holds words bounded line wanted = either words bounded line (formatting_line_holds words bounded) (blank_if_holds words bounded wanted)

pub deeper_holds : {holds : Bool → Part → Type 0} (words : OfSteps holds) (bounded : Bool) → holds bounded deeper
unfolding deeper is_other is_mark is_break
deeper_holds words bounded = words.step bounded (Plain Deeper) refl

pub formatting_deeper_holds : {holds : Bool → Part → Type 0} (words : OfSteps holds) (bounded : Bool) → holds bounded formatting_deeper
unfolding formatting_deeper no_part
formatting_deeper_holds words bounded = when_minified_holds words bounded no_part (words.none bounded) deeper (deeper_holds words bounded)

pub deeper_if_holds : {holds : Bool → Part → Type 0} (words : OfSteps holds) (bounded : Bool) (wanted : Bool) → holds bounded (deeper_if wanted)
unfolding deeper_if
deeper_if_holds words bounded wanted = either words bounded wanted (formatting_deeper_holds words bounded) (words.none bounded)

pub shallower_holds : {holds : Bool → Part → Type 0} (words : OfSteps holds) (bounded : Bool) → holds bounded shallower
unfolding shallower is_other is_mark is_break
shallower_holds words bounded = words.step bounded (Plain Shallower) refl

pub formatting_shallower_holds : {holds : Bool → Part → Type 0} (words : OfSteps holds) (bounded : Bool) → holds bounded formatting_shallower
unfolding formatting_shallower no_part
formatting_shallower_holds words bounded = when_minified_holds words bounded no_part (words.none bounded) shallower (shallower_holds words bounded)

pub shallower_if_holds : {holds : Bool → Part → Type 0} (words : OfSteps holds) (bounded : Bool) (wanted : Bool) → holds bounded (shallower_if wanted)
unfolding shallower_if
shallower_if_holds words bounded wanted = either words bounded wanted (formatting_shallower_holds words bounded) (words.none bounded)

pub opening_holds : {holds : Bool → Part → Type 0} (words : OfSteps holds) (bounded : Bool) (format : ℕ) (line : Bool) → holds bounded (opening format line)
unfolding opening
opening_holds words bounded format line = words.and_then bounded (line_or_blank_holds words bounded line (space_between_braces format)) (deeper_if_holds words bounded (indented format))

pub delimiter_holds : {holds : Bool → Part → Type 0} (words : OfSteps holds) (bounded : Bool) (format : ℕ) → holds bounded (delimiter format)
unfolding delimiter
delimiter_holds words bounded format = either words bounded (comma_delimited format) (words.punct bounded (codes ",")) (either words bounded (bar_delimited format) (words.and_then bounded (formatting_space_holds words bounded) (words.punct bounded (codes "|"))) (either words bounded (ampersand_delimited format) (words.and_then bounded (formatting_space_holds words bounded) (words.punct bounded (codes "&"))) (words.none bounded)))

pub separator_holds : {holds : Bool → Part → Type 0} (words : OfSteps holds) (bounded : Bool) (format : ℕ) (line : Bool) → holds bounded (separator format line)
unfolding separator
separator_holds words bounded format line = words.and_then bounded (delimiter_holds words bounded format) (line_or_blank_holds words bounded line (space_between_siblings format))

pub child_comments_holds : {holds : Bool → Part → Type 0} (words : OfSteps holds) (bounded : Bool) (format : ℕ) (line : Bool) (place : Span) → holds bounded (child_comments format line place)
unfolding child_comments
child_comments_holds words bounded format line place = either words bounded (no_intervening_comments format) (words.none bounded) (either words bounded line (words.none bounded) (trailing_comments_holds words bounded false place.hi))

pub first_child_after_holds : {holds : Bool → Part → Type 0} (words : OfSteps holds) (bounded : Bool) (format : ℕ) (line : Bool) (x : ListChild) → holds bounded x.part → holds bounded (first_child_after format line x)
unfolding first_child_after
first_child_after_holds words bounded format line x h_x = words.and_then bounded (opening_holds words bounded format line) (words.and_then bounded h_x (child_comments_holds words bounded format line x.place))

pub first_child_holds : {holds : Bool → Part → Type 0} (words : OfSteps holds) (bounded : Bool) (format : ℕ) (parent : Span) (x : ListChild) → holds bounded x.part → holds bounded (first_child format parent x)
first_child_holds words bounded format parent x h_x = by_lines_holds words bounded (λ lines. first_child_after format (leading_line lines format parent x.place) x) (λ lines. (first_child_after_holds words bounded format (leading_line lines format parent x.place) x h_x))

pub next_child_after_holds : {holds : Bool → Part → Type 0} (words : OfSteps holds) (bounded : Bool) (format : ℕ) (line : Bool) (x : ListChild) → holds bounded x.part → holds bounded (next_child_after format line x)
unfolding next_child_after
next_child_after_holds words bounded format line x h_x = words.and_then bounded (separator_holds words bounded format line) (words.and_then bounded h_x (child_comments_holds words bounded format line x.place))

pub next_child_holds : {holds : Bool → Part → Type 0} (words : OfSteps holds) (bounded : Bool) (format : ℕ) (previous : Span) (x : ListChild) → holds bounded x.part → holds bounded (next_child format previous x)
next_child_holds words bounded format previous x h_x = by_lines_holds words bounded (λ lines. next_child_after format (separating_line lines format previous x.place) x) (λ lines. (next_child_after_holds words bounded format (separating_line lines format previous x.place) x h_x))

pub comma_if_holds : {holds : Bool → Part → Type 0} (words : OfSteps holds) (bounded : Bool) (wanted : Bool) → holds bounded (comma_if wanted)
unfolding comma_if
comma_if_holds words bounded wanted = either words bounded wanted (words.and_then bounded (words.punct bounded (codes ",")) (formatting_space_holds words bounded)) (words.none bounded)

pub source_comma_holds : {holds : Bool → Part → Type 0} (words : OfSteps holds) (bounded : Bool) (parent : Span) → holds bounded (source_comma parent)
unfolding source_comma is_other is_mark is_break
source_comma_holds words bounded parent = either words bounded (parent.lo.0 == 0) (words.none bounded) (words.and_then bounded (words.step bounded (Remake true) refl) (by_lines_holds words bounded (λ lines. comma_if (source_has_comma (lines.snippet parent))) (λ lines. (comma_if_holds words bounded (source_has_comma (lines.snippet parent))))))

pub wanted_comma_holds : {holds : Bool → Part → Type 0} (words : OfSteps holds) (bounded : Bool) (format : ℕ) (parent : Span) → holds bounded (wanted_comma format parent)
unfolding wanted_comma
wanted_comma_holds words bounded format parent = either words bounded (forces_trailing_comma format) (comma_if_holds words bounded true) (either words bounded (allows_trailing_comma format) (source_comma_holds words bounded parent) (words.none bounded))

pub trailing_comma_holds : {holds : Bool → Part → Type 0} (words : OfSteps holds) (bounded : Bool) (format : ℕ) (parent : Span) → holds bounded (trailing_comma format parent)
unfolding trailing_comma
trailing_comma_holds words bounded format parent = words.by_env bounded (λ now rest env. if may_have_comma format now.config then wanted_comma format parent rest env else rest env) (λ now. (either_at words bounded (may_have_comma format now.config) (wanted_comma_holds words bounded format parent) (words.none bounded)))

pub closing_holds : {holds : Bool → Part → Type 0} (words : OfSteps holds) (bounded : Bool) (format : ℕ) (line : Bool) → holds bounded (closing format line)
unfolding closing
closing_holds words bounded format line = words.and_then bounded (shallower_if_holds words bounded (indented format)) (line_or_blank_holds words bounded line (space_between_braces format))

pub list_end_holds : {holds : Bool → Part → Type 0} (words : OfSteps holds) (bounded : Bool) (format : ℕ) (parent : Span) (last : Span) → holds bounded (list_end format parent last)
list_end_holds words bounded format parent last = by_lines_holds words bounded (λ lines. closing format (closing_line lines format parent last)) (λ lines. (closing_holds words bounded format (closing_line lines format parent last)))

pub list_closing_holds : {holds : Bool → Part → Type 0} (words : OfSteps holds) (bounded : Bool) (format : ℕ) (parent : Span) (last : Span) → holds bounded (list_closing format parent last)
unfolding list_closing
list_closing_holds words bounded format parent last = words.and_then bounded (trailing_comma_holds words bounded format parent) (list_end_holds words bounded format parent last)

pub empty_list_holds : {holds : Bool → Part → Type 0} (words : OfSteps holds) (bounded : Bool) (format : ℕ) → holds bounded (empty_list format)
unfolding empty_list
empty_list_holds words bounded format = either words bounded (multi_line format) (formatting_line_holds words bounded) (blank_if_holds words bounded (space_between_braces format && not (no_space_if_empty format)))

pub more_children_holds : {holds : Bool → Part → Type 0} (words : OfSteps holds) (bounded : Bool) (format : ℕ) (previous : Span) (x2 : List ListChild) → ChildrenHold holds bounded x2 → holds bounded (more_children format previous x2)
unfolding more_children ChildrenHold
more_children_holds words bounded format previous [] h_ = words.none bounded
more_children_holds words bounded format previous (x ∷ xs) h_x_xs = words.and_then bounded (next_child_holds words bounded format previous x h_x_xs.0) (more_children_holds words bounded format x.place xs h_x_xs.1)

pub list_after_holds : {holds : Bool → Part → Type 0} (words : OfSteps holds) (bounded : Bool) (format : ℕ) (parent : Span) (previous : Span) (xs : List ListChild) → ChildrenHold holds bounded xs → holds bounded (list_after format parent previous xs)
list_after_holds words bounded format parent previous xs h_xs = words.and_then bounded (more_children_holds words bounded format previous xs h_xs) (list_closing_holds words bounded format parent (last_place previous xs))

pub list_holds : {holds : Bool → Part → Type 0} (words : OfSteps holds) (bounded : Bool) (format : ℕ) (parent : Span) (x2 : List ListChild) → ChildrenHold holds bounded x2 → holds bounded (list format parent x2)
unfolding list ChildrenHold
list_holds words bounded format parent [] h_ = either words bounded (optional_if_empty format) (words.none bounded) (empty_list_holds words bounded format)
list_holds words bounded format parent (x ∷ xs) h_x_xs = words.and_then bounded (first_child_holds words bounded format parent x h_x_xs.0) (list_after_holds words bounded format parent x.place xs h_x_xs.1)
