-- Lists are written alike by any layout, but for a comma behind the last child of some.
use Rattle.std.proofs.Common.{◌≡◌, ℕ, ◌==◌, Bool, true, false, not, ◌&&◌, ◌||◌, if◌then◌else◌, List, [], ◌∷◌, ◌++◌, codes, Option, None, refl, sym, ap, ◌∙◌, subst}
use Rattle.std.proofs.lemmas.Bool.{true≢false}
use Rattle.swc_ecma_codegen_common.specs.declared.positions.Span.{Span}
use Rattle.swc_ecma_codegen_grammar.specs.ListFormats.{allows_trailing_comma, ampersand_delimited, bar_delimited, can_skip_trailing_comma, closing_line, comma_delimited, forces_trailing_comma, indented, leading_line, multi_line, no_intervening_comments, no_space_if_empty, optional_if_empty, separating_line, space_between_braces, space_between_siblings}
use Rattle.swc_ecma_codegen_grammar.specs.Phrases.{Closing, closing_mark}
use Rattle.swc_ecma_codegen_grammar.specs.SourceLines.{Lines}
use Rattle.swc_ecma_codegen_tokens.specs.Lists.{ListChild, blank_if, by_lines, child_comments, closing, comma_if as put_comma, deeper_if, delimiter, empty_list, first_child, first_child_after, formatting_deeper, formatting_shallower, line_or_blank, list, list_closing, list_end, last_place, may_have_comma, more_children, next_child, next_child_after, opening, separator, shallower_if, source_comma, source_has_comma, trailing_comma, wanted_comma}
use Rattle.swc_ecma_codegen_tokens.specs.Run.{Env, Part, Remake, no_part, step}
use Rattle.swc_ecma_codegen_tokens.specs.Words.{punct}
use Rattle.swc_ecma_codegen_tokens.specs.declared.refusals.Unprintable.{Unprintable}
use Rattle.swc_ecma_codegen_emit.specs.FunctionExprs.{comma_list_format}
use Rattle.swc_ecma_codegen_laws.specs.Layouts.{Tokens, is_brace, mark}
use Rattle.swc_ecma_codegen_laws.proofs.Children.{ChildrenHold}
use Rattle.swc_ecma_codegen_laws.proofs.TwoLayouts.Differing.{comma_if, differ_comma, differ_same}
use Rattle.swc_ecma_codegen_laws.proofs.TwoLayouts.Words.{always_deeper, always_formatting_line, always_formatting_space, always_punct, always_remake, always_shallower, always_trailing}
use Rattle.swc_ecma_codegen_laws.proofs.OfWords.{keeps_comma, may_skip}
use Rattle.swc_ecma_codegen_laws.proofs.TwoLayouts.Emissions.{TwoLayouts, Both, Fits, IsAlike, Writes, bare, Always, always_either, always_if, always_minified, always_more, always_none, always_then, both_always, both_as, both_then, first_env, second_env, writes_as, writes_either, writes_if, writes_more, writes_then}

-- ---- blanks, lines and levels

always_blank_if : (wanted : Bool) → Always (blank_if wanted) []
unfolding blank_if
always_blank_if wanted = always_if wanted always_formatting_space always_none

always_line_or_blank : (line wanted : Bool) → Always (line_or_blank line wanted) []
unfolding line_or_blank
always_line_or_blank line wanted = always_if line always_formatting_line (always_blank_if wanted)

always_deeper_if : (wanted : Bool) → Always (deeper_if wanted) []
unfolding deeper_if formatting_deeper no_part
always_deeper_if wanted = always_if wanted (always_minified always_none always_deeper) always_none

always_shallower_if : (wanted : Bool) → Always (shallower_if wanted) []
unfolding shallower_if formatting_shallower no_part
always_shallower_if wanted = always_if wanted (always_minified always_none always_shallower) always_none

always_opening : (format : ℕ) (line : Bool) → Always (opening format line) []
unfolding opening
always_opening format line = always_then (always_line_or_blank line (space_between_braces format)) (always_deeper_if (indented format))

always_closing : (format : ℕ) (line : Bool) → Always (closing format line) []
unfolding closing
always_closing format line = always_then (always_shallower_if (indented format)) (always_line_or_blank line (space_between_braces format))

always_child_comments : (format : ℕ) (line : Bool) (place : Span) → Always (child_comments format line place) []
unfolding child_comments
always_child_comments format line place = always_if (no_intervening_comments format) always_none (always_if line always_none (always_trailing false place.hi))

always_empty : (format : ℕ) → Always (empty_list format) []
unfolding empty_list
always_empty format = always_if (multi_line format) always_formatting_line (always_blank_if (space_between_braces format && not (no_space_if_empty format)))

-- what each answers to where lines end
always_by_lines : (ask : Lines → Part) → ((lines : Lines) → Always (ask lines) []) → Always (by_lines ask) []
unfolding by_lines
always_by_lines ask h = record { at = λ env. writes_as (by_lines ask) (ask env.lines) (λ rest. refl) ((h env.lines).at env) }

always_list_end : (format : ℕ) (parent last : Span) → Always (list_end format parent last) []
always_list_end format parent last = always_by_lines (λ lines. closing format (closing_line lines format parent last)) (λ lines. always_closing format (closing_line lines format parent last))

-- ---- children

-- the mark between two children
abbrev pub delimiters : ℕ → Tokens
delimiters format = if comma_delimited format then mark (codes ",") ∷ [] else (if bar_delimited format then mark (codes "|") ∷ [] else (if ampersand_delimited format then mark (codes "&") ∷ [] else []))

always_delimiter : (format : ℕ) → Always (delimiter format) (delimiters format)
unfolding delimiter
always_delimiter format =
    always_either (comma_delimited format) (always_punct (codes ","))
    (always_either (bar_delimited format) (always_then always_formatting_space (always_punct (codes "|"))) (always_either (ampersand_delimited format) (always_then always_formatting_space (always_punct (codes "&"))) always_none))

always_separator : (format : ℕ) (line : Bool) → Always (separator format line) (delimiters format)
unfolding separator
always_separator format line = always_more (always_delimiter format) (always_line_or_blank line (space_between_siblings format))

both_first : {two : TwoLayouts} (x y : Option ℕ) (f g : ℕ) (parent : Span) (c : ListChild) → Both two x y c.part c.part → Both two x y (first_child f parent c) (first_child g parent c)
unfolding by_lines first_child_after
both_first {two} x y f g parent c h =
    let a : Bool = leading_line two.first_lines f parent c.place in
    let b : Bool = leading_line two.second_lines g parent c.place in
    both_as (first_child f parent c) (first_child g parent c) (first_child_after f a c) (first_child_after g b c) (λ rest. refl) (λ rest. refl)
    (both_then (both_always (always_opening f a) (always_opening g b)) (both_then h (both_always (always_child_comments f a c.place) (always_child_comments g b c.place))))

both_next : {two : TwoLayouts} (x y : Option ℕ) (f g : ℕ) → delimiters f ≡ delimiters g → (previous : Span) (c : ListChild) → Both two x y c.part c.part → Both two x y (next_child f previous c) (next_child g previous c)
unfolding by_lines next_child_after
both_next {two} x y f g e previous c h =
    let a : Bool = separating_line two.first_lines f previous c.place in
    let b : Bool = separating_line two.second_lines g previous c.place in
    let between : Always (separator g b) (delimiters f) = subst (λ z. Always (separator g b) z) (sym e) (always_separator g b) in
    both_as (next_child f previous c) (next_child g previous c) (next_child_after f a c) (next_child_after g b c) (λ rest. refl) (λ rest. refl)
    (both_then (both_always (always_separator f a) between) (both_then h (both_always (always_child_comments f a c.place) (always_child_comments g b c.place))))

both_more : {two : TwoLayouts} (bounded : Bool) (x y : Option ℕ) (f g : ℕ) → delimiters f ≡ delimiters g → (previous : Span) (cs : List ListChild) → ChildrenHold (IsAlike two) bounded cs → Both two x y (more_children f previous cs) (more_children g previous cs)
unfolding more_children ChildrenHold
both_more bounded x y f g e previous [] h = both_always always_none always_none
both_more bounded x y f g e previous (c ∷ cs) h = both_then (both_next x y f g e previous c (h.0.at x y)) (both_more bounded x y f g e c.place cs h.1)

-- ---- the last comma

-- whether there is one: by the format, whether it is minified, and the source text
abbrev pub in_source : Lines → Span → Bool
in_source lines parent = if parent.lo.0 == 0 then false else source_has_comma (lines.snippet parent)

abbrev pub has_comma : ℕ → Bool → Bool → Bool
has_comma format minify source = if comma_delimited format && not (can_skip_trailing_comma format && minify) then (if forces_trailing_comma format then true else (if allows_trailing_comma format then source else false)) else false

always_comma : (wanted : Bool) → Always (put_comma wanted) (comma_if wanted)
unfolding put_comma
always_comma true = always_then (always_punct (codes ",")) always_formatting_space
always_comma false = always_none

source_writes : (env : Env) (parent : Span) → Writes (bare env) (source_comma parent) (comma_if (in_source env.lines parent)) None
unfolding source_comma by_lines
source_writes env parent =
    let ask : Lines → Part = λ lines. put_comma (source_has_comma (lines.snippet parent)) in
    let asked : Writes (bare env) (by_lines ask) (comma_if (source_has_comma (env.lines.snippet parent))) None = writes_as (by_lines ask) (ask env.lines) (λ rest. refl) ((always_comma (source_has_comma (env.lines.snippet parent))).at env) in
    writes_if (parent.lo.0 == 0) (λ rest. rest) (λ rest. step (Remake true) (by_lines ask rest)) comma_if false (source_has_comma (env.lines.snippet parent)) (always_none.at env) (writes_then (step (Remake true)) (by_lines ask) ((always_remake true).at env) asked)

wanted_writes : (env : Env) (format : ℕ) (parent : Span) → Writes (bare env) (wanted_comma format parent) (comma_if (if forces_trailing_comma format then true else (if allows_trailing_comma format then in_source env.lines parent else false))) None
unfolding wanted_comma
wanted_writes env format parent =
    writes_if (forces_trailing_comma format) (put_comma true) (λ rest. if allows_trailing_comma format then source_comma parent rest else rest) comma_if true (if allows_trailing_comma format then in_source env.lines parent else false) ((always_comma true).at env)
    (writes_if (allows_trailing_comma format) (source_comma parent) (λ rest. rest) comma_if (in_source env.lines parent) false (source_writes env parent) (always_none.at env))

comma_writes : (env : Env) (format : ℕ) (parent : Span) → Writes (bare env) (trailing_comma format parent) (comma_if (has_comma format env.config.minify (in_source env.lines parent))) None
unfolding trailing_comma
comma_writes env format parent =
    let may : Bool = may_have_comma format env.config in
    writes_as (trailing_comma format parent) (λ rest now. if may then wanted_comma format parent rest now else rest now) (λ rest. refl)
    (writes_either may (wanted_comma format parent) (λ rest. rest) comma_if (if forces_trailing_comma format then true else (if allows_trailing_comma format then in_source env.lines parent else false)) false (wanted_writes env format parent) (always_none.at env))

closing_writes : (env : Env) (format : ℕ) (parent last : Span) → Writes (bare env) (list_closing format parent last) (comma_if (has_comma format env.config.minify (in_source env.lines parent))) None
unfolding list_closing
closing_writes env format parent last = writes_more env (trailing_comma format parent) (list_end format parent last) (comma_if (has_comma format env.config.minify (in_source env.lines parent))) None (comma_writes env format parent) (always_list_end format parent last)

-- ---- whole lists

-- what a list ends with, and what stands behind it: with the last comma of each
both_closing : {two : TwoLayouts} (x y : Option ℕ) (f g : ℕ) (parent last : Span) (q r : Part) (ts : Tokens) → Always q ts → Always r ts → Fits two (comma_if (has_comma f two.first_minify (in_source two.first_lines parent)) ++ ts) (comma_if (has_comma g two.second_minify (in_source two.second_lines parent)) ++ ts) → Both two x y (λ rest. list_closing f parent last (q rest)) (λ rest. list_closing g parent last (r rest))
both_closing {two} x y f g parent last q r ts h k fit = record {
  us = comma_if (has_comma f two.first_minify (in_source two.first_lines parent)) ++ ts;
  vs = comma_if (has_comma g two.second_minify (in_source two.second_lines parent)) ++ ts;
  stop = None;
  first = writes_then (list_closing f parent last) q (closing_writes (first_env two x) f parent last) (h.at (first_env two x));
  second = writes_then (list_closing g parent last) r (closing_writes (second_env two y) g parent last) (k.at (second_env two y));
  fit = λ z. fit;
}

-- One list in two formats, whose marks between are the same, and what stands behind it.
both_list : {two : TwoLayouts} (bounded : Bool) (x y : Option ℕ) (f g : ℕ) → delimiters f ≡ delimiters g → (parent : Span) (cs : List ListChild) → ChildrenHold (IsAlike two) bounded cs → (q r : Part) (ts : Tokens) → Always q ts → Always r ts → Fits two (comma_if (has_comma f two.first_minify (in_source two.first_lines parent)) ++ ts) (comma_if (has_comma g two.second_minify (in_source two.second_lines parent)) ++ ts) → Both two x y (λ rest. list f parent cs (q rest)) (λ rest. list g parent cs (r rest))
unfolding list ChildrenHold
both_list bounded x y f g e parent [] h q r ts j k fit = both_then (both_always (always_if (optional_if_empty f) always_none (always_empty f)) (always_if (optional_if_empty g) always_none (always_empty g))) (both_always j k)
both_list bounded x y f g e parent (c ∷ cs) h q r ts j k fit =
    both_then (both_first x y f g parent c (h.0.at x y)) (both_then (both_more bounded x y f g e c.place cs h.1) (both_closing x y f g parent (last_place c.place cs) q r ts j k fit))

none_if : (b : Bool) → (if b then false else false) ≡ false
none_if true = refl
none_if false = refl

comma_of : (delimited skips forces allows a b c d : Bool) → (if forces then not skips else not allows) ≡ true → (if delimited && not (skips && a) then (if forces then true else (if allows then c else false)) else false) ≡ (if delimited && not (skips && b) then (if forces then true else (if allows then d else false)) else false)
comma_of delimited true true allows a b c d h = absurd (true≢false (sym h))
comma_of delimited false true allows a b c d h = refl
comma_of delimited skips false true a b c d h = absurd (true≢false (sym h))
comma_of delimited skips false false a b c d h = none_if (delimited && not (skips && a)) ∙ sym (none_if (delimited && not (skips && b)))

fits_kept : (two : TwoLayouts) (format : ℕ) (parent : Span) → keeps_comma format ≡ true → (ts : Tokens) → Fits two (comma_if (has_comma format two.first_minify (in_source two.first_lines parent)) ++ ts) (comma_if (has_comma format two.second_minify (in_source two.second_lines parent)) ++ ts)
fits_kept two format parent h ts =
    subst (λ b. Fits two (comma_if (has_comma format two.first_minify (in_source two.first_lines parent)) ++ ts) (comma_if b ++ ts))
    (comma_of (comma_delimited format) (can_skip_trailing_comma format) (forces_trailing_comma format) (allows_trailing_comma format) two.first_minify two.second_minify (in_source two.first_lines parent) (in_source two.second_lines parent) h)
    (differ_same (comma_if (has_comma format two.first_minify (in_source two.first_lines parent)) ++ ts))

-- the same list
pub alike_list : {two : TwoLayouts} (bounded : Bool) (format : ℕ) → keeps_comma format ≡ true → (parent : Span) (cs : List ListChild) → ChildrenHold (IsAlike two) bounded cs → IsAlike two bounded (list format parent cs)
alike_list {two} bounded format e parent cs h = record { at = λ x y. both_list bounded x y format format refl parent cs h (λ rest. rest) (λ rest. rest) [] always_none always_none (fits_kept two format parent e []) }

-- and the mark that closes it, before which there may be a comma
has_less : (delimited skips forces allows a b c d : Bool) → (b ≡ true → a ≡ true) → c ≡ d → (if delimited && not (skips && a) then (if forces then true else (if allows then c else false)) else false) ≡ true → (if delimited && not (skips && b) then (if forces then true else (if allows then d else false)) else false) ≡ true
has_less false skips forces allows a b c d o e h = h
has_less true false forces allows a b c d o e h = ap (λ z. if forces then true else (if allows then z else false)) (sym e) ∙ h
has_less true true forces allows true b c d o e h = absurd (true≢false (sym h))
has_less true true forces allows false true c d o e h = absurd (true≢false (sym (o refl)))
has_less true true forces allows false false c d o e h = ap (λ z. if forces then true else (if allows then z else false)) (sym e) ∙ h

source_same : (two : TwoLayouts) (parent : Span) → two.commas ≡ false → in_source two.first_lines parent ≡ in_source two.second_lines parent
source_same two parent e = ap (λ z. if parent.lo.0 == 0 then false else source_has_comma z) (two.one_source e parent)

-- and just as many where no layout decides on it
same_comma : (delimited skips forces allows layout brace a b c d : Bool) → (not skips || brace) ≡ true → (layout && brace) ≡ false → (layout ≡ false → a ≡ b) → c ≡ d → (if delimited && not (skips && b) then (if forces then true else (if allows then d else false)) else false) ≡ (if delimited && not (skips && a) then (if forces then true else (if allows then c else false)) else false)
same_comma delimited false forces allows layout brace a b c d may l o e = ap (λ z. if delimited && true then (if forces then true else (if allows then z else false)) else false) (sym e)
same_comma delimited true forces allows true true a b c d may l o e = absurd (true≢false l)
same_comma delimited true forces allows true false a b c d may l o e = absurd (true≢false (sym may))
same_comma delimited true forces allows false brace a b c d may l o e = ap (λ z. if delimited && not z then (if forces then true else (if allows then d else false)) else false) (sym (o refl)) ∙ ap (λ z. if delimited && not a then (if forces then true else (if allows then z else false)) else false) (sym e)

fits_closed : (two : TwoLayouts) (format : ℕ) (parent : Span) (close : Closing) → may_skip format close ≡ true → Fits two (comma_if (has_comma format two.first_minify (in_source two.first_lines parent)) ++ (mark (closing_mark close) ∷ [])) (comma_if (has_comma format two.second_minify (in_source two.second_lines parent)) ++ (mark (closing_mark close) ∷ []))
fits_closed two format parent close may =
    differ_comma close (has_comma format two.first_minify (in_source two.first_lines parent)) (has_comma format two.second_minify (in_source two.second_lines parent))
    (λ e h. has_less (comma_delimited format) (can_skip_trailing_comma format) (forces_trailing_comma format) (allows_trailing_comma format) two.first_minify two.second_minify (in_source two.first_lines parent) (in_source two.second_lines parent) two.ordered (source_same two parent e) h)
    (λ e l. same_comma (comma_delimited format) (can_skip_trailing_comma format) (forces_trailing_comma format) (allows_trailing_comma format) two.layout (is_brace close) two.first_minify two.second_minify (in_source two.first_lines parent) (in_source two.second_lines parent) may l two.one_layout (source_same two parent e))

pub alike_closed : {two : TwoLayouts} (bounded : Bool) (format : ℕ) (parent : Span) (cs : List ListChild) (close : Closing) → may_skip format close ≡ true → ChildrenHold (IsAlike two) bounded cs → IsAlike two bounded (λ rest. list format parent cs (punct (closing_mark close) rest))
alike_closed {two} bounded format parent cs close may h = record { at = λ x y. both_list bounded x y format format refl parent cs h (punct (closing_mark close)) (punct (closing_mark close)) (mark (closing_mark close) ∷ []) (always_punct (closing_mark close)) (always_punct (closing_mark close)) (fits_closed two format parent close may) }

never_by : (may forces allows source : Bool) → (forces || allows) ≡ false → (if may then (if forces then true else (if allows then source else false)) else false) ≡ false
never_by true true allows source h = absurd (true≢false h)
never_by true false true source h = absurd (true≢false h)
never_by true false false source h = refl
never_by false forces allows source h = refl

never : (format : ℕ) (minify source : Bool) → (forces_trailing_comma format || allows_trailing_comma format) ≡ false → has_comma format minify source ≡ false
never format minify source h = never_by (comma_delimited format && not (can_skip_trailing_comma format && minify)) (forces_trailing_comma format) (allows_trailing_comma format) source h

-- in two formats, neither of which has a comma behind the last child
pub both_formats : {two : TwoLayouts} (bounded : Bool) (x y : Option ℕ) (f g : ℕ) → delimiters f ≡ delimiters g → (forces_trailing_comma f || allows_trailing_comma f) ≡ false → (forces_trailing_comma g || allows_trailing_comma g) ≡ false → (parent : Span) (cs : List ListChild) → ChildrenHold (IsAlike two) bounded cs → Both two x y (list f parent cs) (list g parent cs)
both_formats {two} bounded x y f g e c d parent cs h =
    both_list bounded x y f g e parent cs h (λ rest. rest) (λ rest. rest) [] always_none always_none
    (subst (λ a. Fits two (comma_if a ++ []) (comma_if (has_comma g two.second_minify (in_source two.second_lines parent)) ++ [])) (sym (never f two.first_minify (in_source two.first_lines parent) c))
    (subst (λ b. Fits two [] (comma_if b ++ [])) (sym (never g two.second_minify (in_source two.second_lines parent) d)) (differ_same [])))

-- ---- the only parameter of an arrow function

list_shut : (parent last : Span) → Always (list_closing comma_list_format parent last) []
list_shut parent last = record { at = λ env. closing_writes env comma_list_format parent last }

pub list_of_one : (env : Env) (parent place : Span) (part : Part) (ts : Tokens) (stop : Option Unprintable) → Writes (bare env) part ts stop → Writes (bare env) (list comma_list_format parent (record { place = place; part = part } ∷ [])) ts stop
unfolding list by_lines first_child_after more_children last_place
list_of_one env parent place part ts stop h =
    let line : Bool = leading_line env.lines comma_list_format parent place in
    let behind : Part = λ rest. child_comments comma_list_format line place (list_closing comma_list_format parent place rest) in
    writes_as {env = bare env} (list comma_list_format parent (record { place = place; part = part } ∷ [])) (λ rest. opening comma_list_format line (part (behind rest))) (λ rest. refl)
    (writes_then (opening comma_list_format line) (λ rest. part (behind rest)) ((always_opening comma_list_format line).at env)
    (writes_more env part behind ts stop h (always_then (always_child_comments comma_list_format line place) (list_shut parent place))))
