-- What lists write: what stands before, between and after their children, and the tokens of the whole.
use Rattle.std.proofs.Common.{◌≡◌, ℕ, None, arith, Bool, true, false, cond, not, ◌&&◌, ◌==◌, List, [], ◌∷◌, map, codes, refl, sym, ap, ◌∙◌, subst, inl, inr}
use Rattle.std.specs.Str.{chars, is_utf8}
use Rattle.std.proofs.lemmas.Bool.{cases_Bool, true≢false}
use Rattle.swc_ecma_codegen_common.specs.declared.positions.Span.{Span}
use Rattle.swc_ecma_codegen_grammar.specs.SourceLines.{Lines}
use Rattle.swc_ecma_codegen_grammar.specs.CommentMaps.{Maps}
use Rattle.swc_ecma_codegen_grammar.specs.ListFormats.{comma_delimited, bar_delimited, ampersand_delimited, allows_trailing_comma, indented, space_between_braces, space_between_siblings, optional_if_empty, multi_line, no_intervening_comments, no_space_if_empty, forces_trailing_comma, can_skip_trailing_comma, leading_line, separating_line, closing_line}
use Rattle.swc_ecma_codegen_grammar.specs.declared.kinds.Kind.TheVariants.{Punctuator}
use Rattle.swc_ecma_codegen_grammar.specs.Tokens as lexical
use Rattle.swc_ecma_codegen_grammar.specs.Tokens.{token_of}
use Rattle.swc_ecma_codegen_grammar.specs.Punctuators.{is_punctuator, punctuators}
use Rattle.swc_ecma_codegen_grammar.specs.Texts.{is_same, is_among}
use Rattle.swc_ecma_codegen_grammar.specs.Phrases as phrases
use Rattle.swc_ecma_codegen_grammar.specs.PlainPhrases.{plain_phrase}
use Rattle.swc_ecma_codegen_grammar.specs.Phrases.{Phrase, Closing, CommaBefore, closing_mark, is_possible, names_in, mark, ◌>◌}
use Rattle.swc_ecma_codegen_tokens.specs.Run.{Env, Plan, Part, Remake, at_maps, maps_after, step, spelling, when_minified, no_part}
use Rattle.swc_ecma_codegen_tokens.specs.Words.{allows_break, punct, formatting_space, formatting_line, trailing_comments}
use Rattle.swc_ecma_codegen_tokens.specs.Written.{IsMark}
use Rattle.swc_ecma_codegen_tokens.specs.Plain.{IsPlain}
use Rattle.swc_ecma_codegen_tokens.proofs.Reading.StillPlain.{still_plain}
use Rattle.swc_ecma_codegen_tokens.specs.Lists.{ListChild, by_lines, blank_if, line_or_blank, deeper, formatting_deeper, deeper_if, shallower, formatting_shallower, shallower_if, opening, delimiter, separator, child_comments, first_child_after, next_child_after, comma_if, source_comma, wanted_comma, source_has_comma, may_have_comma, trailing_comma, closing, list_end, list_closing, empty_list, more_children, last_place, list}
use Rattle.swc_ecma_codegen_tokens.proofs.Emission.Emitting.{minified_same, pretty_same}
use Rattle.swc_ecma_codegen_tokens.proofs.Listing.ListCommas.{written_same, left_out_same, forced_same, source_same}
use Rattle.swc_ecma_codegen_tokens.proofs.Reading.Printed.{writes_remake, MakesWithin, from_both, within_then, with_room, writes_then, writes_same, writes_nothing, writes_if, writes_minified, writes_formatting_space, writes_formatting_line, writes_shallower, deeper_within, opened_within, writes_opened_punct, Fills, MakesAt, EndsLines, makes_wider}
use Rattle.swc_ecma_codegen_tokens.proofs.Commenting.CommentPrints.{writes_trailing}
use Rattle.swc_ecma_codegen_tokens.specs.Escapes.{may_make_text}
use Rattle.swc_ecma_codegen_tokens.specs.Targets.{is_out}
use Rattle.swc_ecma_codegen_tokens.proofs.Emission.StepAscii.{holds_string}
use Rattle.swc_ecma_codegen_tokens.proofs.Reading.Choices.{IsAmong, IsPlainAmong, placed_among, comma_among, no_comma_among, prints_no_comma}
use Rattle.swc_ecma_codegen_tokens.proofs.Filling.Shapes.{Shape, open_, ended, loose, closed, past_line, join}
use Rattle.swc_ecma_codegen_tokens.proofs.Emission.PartSteps.{NamedBy, names_then, no_names, placed_after, safe_then, no_strings}
use Rattle.swc_ecma_codegen_tokens.proofs.Reading.Phrased.{Prints, PrintsAt, prints_wider, loosened, then, after as behind, before, prints_nothing, prints_never, prints_same, prints_opened, prints_punct, prints_unbroken, prints_mark, mark_spelled}

-- ---- parts

-- what asks where lines end
pub writes_by_lines : {i : Shape} (env : Env) (ask : Lines → Part) (ts : List lexical.Token) {a : Bool} → MakesAt i env (ask env.lines) ts a → MakesAt i env (by_lines ask) ts a
unfolding by_lines
writes_by_lines env ask ts h = writes_same env (by_lines ask) (ask env.lines) ts (λ maps rest. refl) h

-- the same behind a part
asked_behind : {i : Shape} {env : Env} {q : Part} {ts : List lexical.Token} {a : Bool} → MakesAt i env q ts a → (ask : Lines → Part) (maps : Maps) (rest : Plan) → q (by_lines ask rest) (at_maps maps env) ≡ q (ask env.lines rest) (at_maps maps env)
unfolding by_lines
asked_behind {env = env} h ask maps rest = let x = h.from maps in x.is_steps (by_lines ask rest) ∙ sym (x.is_steps (ask env.lines rest))

writes_blank_if : (env : Env) (b : Bool) → Fills env (blank_if b)
unfolding blank_if
writes_blank_if env b = writes_if env b formatting_space (λ rest. rest) [] (writes_formatting_space env) (writes_nothing env)

writes_line_or_blank : (env : Env) (line b : Bool) → EndsLines env (line_or_blank line b)
unfolding line_or_blank
writes_line_or_blank env line b = writes_if env line formatting_line (blank_if b) [] (writes_formatting_line env) (makes_wider loose refl (writes_blank_if env b))

writes_formatting_shallower : (env : Env) → Fills env formatting_shallower
unfolding formatting_shallower no_part
writes_formatting_shallower env = writes_minified env no_part shallower [] (writes_nothing env) (writes_shallower env)

writes_shallower_if : (env : Env) (b : Bool) → Fills env (shallower_if b)
unfolding shallower_if
writes_shallower_if env b = writes_if env b formatting_shallower (λ rest. rest) [] (writes_formatting_shallower env) (writes_nothing env)

nothing_within : (env : Env) → MakesWithin open_ 1 env (λ rest. rest) [] false
nothing_within env = with_room 0 1 (omega arith) (writes_nothing env)

formatting_deeper_within : (env : Env) → MakesWithin open_ 1 env formatting_deeper [] false
unfolding formatting_deeper no_part
formatting_deeper_within env = elim (cases_Bool env.config.minify) [
  | inl small ↦ writes_same env (when_minified no_part deeper) no_part [] (λ maps rest. minified_same no_part deeper rest (at_maps maps env) small) (nothing_within env)
  | inr wide ↦ writes_same env (when_minified no_part deeper) deeper [] (λ maps rest. pretty_same no_part deeper rest (at_maps maps env) wide) (deeper_within env)
]

deeper_if_within : (env : Env) (b : Bool) → MakesWithin open_ 1 env (deeper_if b) [] false
unfolding deeper_if
deeper_if_within env true = formatting_deeper_within env
deeper_if_within env false = nothing_within env

-- ---- before the first child

writes_opening : (env : Env) (format : ℕ) (line : Bool) → indented format ≡ false → EndsLines env (opening format line)
unfolding opening deeper_if
writes_opening env format line h =
    writes_then env (line_or_blank line (space_between_braces format)) (deeper_if (indented format)) [] [] (writes_line_or_blank env line (space_between_braces format))
    (let P : Bool → Type 0 = λ b. Fills env (deeper_if b) in subst P (sym h) (writes_nothing env))

-- A level comes with the bracket before it, behind which other blanks may stand.
bracket_within : (env : Env) (t : List ℕ) → IsMark t → (p : Part) → EndsLines env p → (format : ℕ) (line : Bool) → MakesAt ended env (λ rest. punct t (p (opening format line rest))) (token_of Punctuator (spelling Punctuator t) ∷ []) false
unfolding opening
bracket_within env t w p h format line =
    let x : lexical.Token = token_of Punctuator (spelling Punctuator t) in
    let b = space_between_braces format in
    with_room 1 1 (omega arith)
    (within_then env (punct t) (λ rest. p (line_or_blank line b (deeper_if (indented format) rest))) (x ∷ []) [] (opened_within env t (mark_spelled t w) w.ascii)
    (within_then env p (λ rest. line_or_blank line b (deeper_if (indented format) rest)) [] [] h
    (within_then env (line_or_blank line b) (deeper_if (indented format)) [] [] (writes_line_or_blank env line b) (deeper_if_within env (indented format)))))

prints_bracket : (env : Env) (t : List ℕ) → IsMark t → (p : Part) → EndsLines env p → (format : ℕ) (line : Bool) → PrintsAt ended env (λ rest. punct t (p (opening format line rest))) (mark t)
prints_bracket env t w p h format line = prints_mark env (λ rest. punct t (p (opening format line rest))) t (bracket_within env t w p h format line)

-- ---- between children

pub comma_is_mark : IsMark (codes ",")
unfolding is_punctuator is_among is_same punctuators chars is_utf8 lib.Utf8.encode
comma_is_mark = record { utf8 = refl; ascii = refl; shape = refl }

-- the plan that a test picks
picked : (b : Bool) (p q : Plan) (env : Env) → b ≡ true → cond b p q env ≡ p env
picked b p q env h = ap (λ z. cond z p q env) h

passed_over : (b : Bool) (p q : Plan) (env : Env) → b ≡ false → cond b p q env ≡ q env
passed_over b p q env h = ap (λ z. cond z p q env) h

prints_comma : (env : Env) (format : ℕ) → comma_delimited format ≡ true → PrintsAt ended env (delimiter format) (mark (codes ","))
unfolding delimiter
prints_comma env format h = prints_same (delimiter format) (punct (codes ",")) (λ maps rest. picked (comma_delimited format) (punct (codes ",") rest) _ (at_maps maps env) h) (prints_punct env (codes ",") comma_is_mark)

prints_separator : (env : Env) (format : ℕ) (line : Bool) → comma_delimited format ≡ true → PrintsAt ended env (separator format line) (mark (codes ","))
unfolding separator
prints_separator env format line h = before (prints_comma env format h) (writes_line_or_blank env line (space_between_siblings format))

-- no delimiter stands between the children of a list
pub record IsUndelimited (format : ℕ) : Type 0 where
  pub no_comma : comma_delimited format ≡ false
  pub no_bar : bar_delimited format ≡ false
  pub no_ampersand : ampersand_delimited format ≡ false

writes_delimiter : (env : Env) (format : ℕ) → IsUndelimited format → Fills env (delimiter format)
unfolding delimiter
writes_delimiter env format u = writes_same env (delimiter format) (λ rest. rest) [] (λ maps rest. passed_over (comma_delimited format) _ _ (at_maps maps env) u.no_comma ∙ passed_over (bar_delimited format) _ _ (at_maps maps env) u.no_bar ∙ passed_over (ampersand_delimited format) _ rest (at_maps maps env) u.no_ampersand) (writes_nothing env)

writes_separator : (env : Env) (format : ℕ) (line : Bool) → IsUndelimited format → EndsLines env (separator format line)
unfolding separator
writes_separator env format line u = writes_then env (delimiter format) (line_or_blank line (space_between_siblings format)) [] [] (writes_delimiter env format u) (writes_line_or_blank env line (space_between_siblings format))

writes_child_comments : (env : Env) (format : ℕ) (line : Bool) (place : Span) → Fills env (child_comments format line place)
unfolding child_comments
writes_child_comments env format line place = writes_if env (no_intervening_comments format) (λ rest. rest) (λ rest. cond line rest (trailing_comments false place.hi rest)) [] (writes_nothing env) (writes_if env line (λ rest. rest) (trailing_comments false place.hi) [] (writes_nothing env) (writes_trailing env false place.hi))

-- ---- after the last child

writes_end : (env : Env) (format : ℕ) (parent last : Span) → EndsLines env (list_end format parent last)
unfolding closing
writes_end env format parent last =
    let line : Bool = closing_line env.lines format parent last in
    writes_by_lines env (λ lines. closing format (closing_line lines format parent last)) []
    (writes_then env (shallower_if (indented format)) (line_or_blank line (space_between_braces format)) [] [] (writes_shallower_if env (indented format)) (writes_line_or_blank env line (space_between_braces format)))

no_comma_wanted : (env : Env) (format : ℕ) (parent : Span) → forces_trailing_comma format ≡ false → allows_trailing_comma format ≡ false → Fills env (wanted_comma format parent)
unfolding wanted_comma
no_comma_wanted env format parent f a = writes_same env (wanted_comma format parent) (λ rest. rest) [] (λ maps rest. passed_over (forces_trailing_comma format) _ _ (at_maps maps env) f ∙ passed_over (allows_trailing_comma format) _ rest (at_maps maps env) a) (writes_nothing env)

no_comma_written : (env : Env) (format : ℕ) (parent : Span) → forces_trailing_comma format ≡ false → allows_trailing_comma format ≡ false → Fills env (trailing_comma format parent)
no_comma_written env format parent f a = elim (cases_Bool (may_have_comma format env.config)) [
  | inl some ↦ writes_same env (trailing_comma format parent) (wanted_comma format parent) [] (λ maps rest. written_same format parent rest (at_maps maps env) some) (no_comma_wanted env format parent f a)
  | inr none ↦ writes_same env (trailing_comma format parent) (λ rest. rest) [] (λ maps rest. left_out_same format parent rest (at_maps maps env) none) (writes_nothing env)
]

-- a list without a trailing comma
pub writes_closing : (env : Env) (format : ℕ) (parent last : Span) → forces_trailing_comma format ≡ false → allows_trailing_comma format ≡ false → EndsLines env (list_closing format parent last)
unfolding list_closing
writes_closing env format parent last f a = writes_then env (trailing_comma format parent) (list_end format parent last) [] [] (no_comma_written env format parent f a) (writes_end env format parent last)

-- a comma and a blank
prints_comma_if : (env : Env) → PrintsAt ended env (comma_if true) (mark (codes ","))
unfolding comma_if
prints_comma_if env = before (prints_punct env (codes ",") comma_is_mark) (writes_formatting_space env)

may_be : (comma skips minify : Bool) → comma ≡ true → skips ≡ false → (comma && not (skips && minify)) ≡ true
may_be true false minify h k = refl
may_be comma true minify h k = absurd (cc)
may_be false skips minify h k = absurd (cc)

-- a list with one, always: `[a, , ]`
pub prints_forced_closing : (env : Env) (format : ℕ) (parent last : Span) → comma_delimited format ≡ true → forces_trailing_comma format ≡ true → can_skip_trailing_comma format ≡ false → PrintsAt loose env (list_closing format parent last) (mark (codes ","))
unfolding list_closing
prints_forced_closing env format parent last c f s =
    prints_wider loose refl (before (prints_same (trailing_comma format parent) (comma_if true) (λ maps rest. written_same format parent rest (at_maps maps env) (may_be (comma_delimited format) (can_skip_trailing_comma format) env.config.minify c s) ∙ forced_same format parent rest (at_maps maps env) f) (prints_comma_if env))
    (writes_end env format parent last))

-- ---- whole lists

-- the children of a list, by where they stand and what is written of them
abbrev pub children_of : {A : Type 0} → (A → Span) → (A → Part) → List A → List ListChild
children_of place part xs = map (λ x. record { place = place x; part = part x }) xs

writes_empty : (env : Env) (format : ℕ) → EndsLines env (empty_list format)
unfolding empty_list
writes_empty env format = writes_if env (multi_line format) formatting_line (blank_if (space_between_braces format && not (no_space_if_empty format))) [] (writes_formatting_line env) (makes_wider loose refl (writes_blank_if env (space_between_braces format && not (no_space_if_empty format))))

-- a list without children
pub writes_no_list : (env : Env) (format : ℕ) (parent : Span) → EndsLines env (list format parent [])
unfolding list
writes_no_list env format parent = writes_if env (optional_if_empty format) (λ rest. rest) (empty_list format) [] (makes_wider loose refl (writes_nothing env)) (writes_empty env format)

-- a child, and the comments right after it
prints_child : {i : Shape} (env : Env) (format : ℕ) (line : Bool) (x : ListChild) {f : Phrase} → PrintsAt i env x.part f → PrintsAt (join i open_) env (λ rest. x.part (child_comments format line x.place rest)) f
prints_child env format line x h = before h (writes_child_comments env format line x.place)

-- the children after one, with commas between
prints_more : {A : Type 0} (env : Env) (format : ℕ) (place : A → Span) (part : A → Part) (e : A → Phrase) → ((x : A) → PrintsAt loose env (part x) (e x)) → comma_delimited format ≡ true → (previous : Span) (xs : List A) → PrintsAt loose env (more_children format previous (children_of place part xs)) (phrases.each_after (codes ",") (map e xs))
unfolding more_children phrases.each_after by_lines next_child_after
prints_more env format place part e law c previous [] = prints_wider loose refl prints_nothing
prints_more env format place part e law c previous (x ∷ xs) =
    let line : Bool = separating_line env.lines format previous (place x) in
    let more : Part = more_children format (place x) (children_of place part xs) in
    prints_same (more_children format previous (children_of place part (x ∷ xs))) (λ rest. separator format line (part x (child_comments format line (place x) (more rest)))) (λ maps rest. refl)
    (prints_wider loose refl (then (prints_separator env format line c) (then (prints_child env format line (record { place = place x; part = part x }) (law x)) (prints_more env format place part e law c (place x) xs))))

-- the first child and those after it, behind what opens the list
abbrev pub children_after : {A : Type 0} → ℕ → Bool → (A → Span) → (A → Part) → A → List A → Part
children_after format line place part x xs rest = part x (child_comments format line (place x) (more_children format (place x) (children_of place part xs) rest))

pub prints_children : {A : Type 0} (env : Env) (format : ℕ) (line : Bool) (place : A → Span) (part : A → Part) (e : A → Phrase) → ((x : A) → PrintsAt loose env (part x) (e x)) → comma_delimited format ≡ true → (x : A) (xs : List A) → PrintsAt loose env (children_after format line place part x xs) (phrases.listed (codes ",") (map e (x ∷ xs)))
unfolding phrases.listed
prints_children env format line place part e law c x xs = then (prints_child env format line (record { place = place x; part = part x }) (law x)) (prints_more env format place part e law c (place x) xs)

-- A list in parts, behind a part: what opens it, its children, and what closes it.
pub list_in_parts : {A : Type 0} {i : Shape} {env : Env} {q : Part} {ts : List lexical.Token} {a : Bool} → MakesAt i env q ts a → (format : ℕ) (parent : Span) (place : A → Span) (part : A → Part) (x : A) (xs : List A) (maps : Maps) (rest : Plan) → q (list format parent (children_of place part (x ∷ xs)) rest) (at_maps maps env) ≡ q (opening format (leading_line env.lines format parent (place x)) (children_after format (leading_line env.lines format parent (place x)) place part x xs (list_closing format parent (last_place (place x) (children_of place part xs)) rest))) (at_maps maps env)
unfolding list first_child_after
list_in_parts {env = env} h format parent place part x xs maps rest =
    asked_behind h (λ lines. first_child_after format (leading_line lines format parent (place x)) (record { place = place x; part = part x })) maps (more_children format (place x) (children_of place part xs) (list_closing format parent (last_place (place x) (children_of place part xs)) rest))

-- One that isn't indented, with what its end reads as, to the mark after it: `a, b, }`.
pub prints_some : {A : Type 0} (env : Env) (format : ℕ) (parent : Span) (place : A → Span) (part : A → Part) (e : A → Phrase) (tail : Phrase) (close : Part) → ((x : A) → PrintsAt loose env (part x) (e x)) → comma_delimited format ≡ true → indented format ≡ false → ((last : Span) → PrintsAt closed env (λ rest. list_closing format parent last (close rest)) tail) → (x : A) (xs : List A) → PrintsAt closed env (λ rest. list format parent (children_of place part (x ∷ xs)) (close rest)) (phrases.listed (codes ",") (map e (x ∷ xs)) > tail)
prints_some env format parent place part e tail close law c i ends x xs =
    let line : Bool = leading_line env.lines format parent (place x) in
    let last : Span = last_place (place x) (children_of place part xs) in
    let children : Part = children_after format line place part x xs in
    let ending : Part = list_closing format parent last in
    prints_same (λ rest. list format parent (children_of place part (x ∷ xs)) (close rest)) (λ rest. opening format line (children (ending (close rest)))) (λ maps rest. list_in_parts (writes_nothing env) format parent place part x xs maps (close rest))
    (behind (writes_opening env format line i) (then (prints_children env format line place part e law c x xs) (ends last)))

-- One that isn't indented and has no trailing comma.
pub prints_list : {A : Type 0} (env : Env) (format : ℕ) (parent : Span) (place : A → Span) (part : A → Part) (e : A → Phrase) → ((x : A) → PrintsAt loose env (part x) (e x)) → comma_delimited format ≡ true → indented format ≡ false → forces_trailing_comma format ≡ false → allows_trailing_comma format ≡ false → (xs : List A) → PrintsAt loose env (list format parent (children_of place part xs)) (phrases.listed (codes ",") (map e xs))
unfolding phrases.listed
prints_list env format parent place part e law c i f a [] = before prints_nothing (writes_no_list env format parent)
prints_list env format parent place part e law c i f a (x ∷ xs) =
    let line : Bool = leading_line env.lines format parent (place x) in
    let last : Span = last_place (place x) (children_of place part xs) in
    let children : Part = children_after format line place part x xs in
    let ending : Part = list_closing format parent last in
    prints_same (list format parent (children_of place part (x ∷ xs))) (λ rest. opening format line (children (ending rest))) (λ maps rest. list_in_parts (writes_nothing env) format parent place part x xs maps rest)
    (behind (writes_opening env format line i) (before (prints_children env format line place part e law c x xs) (writes_closing env format parent last f a)))

-- One child that stands on the line of what is around it, whatever the source text says: minified `a` of `a => b`.
blank_opening : (env : Env) (format : ℕ) → indented format ≡ false → Fills env (opening format false)
unfolding opening deeper_if line_or_blank
blank_opening env format h =
    writes_then env (blank_if (space_between_braces format)) (deeper_if (indented format)) [] [] (writes_blank_if env (space_between_braces format))
    (let P : Bool → Type 0 = λ b. Fills env (deeper_if b) in subst P (sym h) (writes_nothing env))

blank_closing : (env : Env) (format : ℕ) → Fills env (closing format false)
unfolding closing line_or_blank
blank_closing env format = writes_then env (shallower_if (indented format)) (blank_if (space_between_braces format)) [] [] (writes_shallower_if env (indented format)) (writes_blank_if env (space_between_braces format))

blank_end : (env : Env) (format : ℕ) (parent last : Span) → closing_line env.lines format parent last ≡ false → Fills env (list_end format parent last)
blank_end env format parent last e = writes_by_lines env (λ lines. closing format (closing_line lines format parent last)) [] (let P : Bool → Type 0 = λ b. Fills env (closing format b) in subst P (sym e) (blank_closing env format))

-- One that isn't indented, has no trailing comma, and begins on the line before it, with its first child: `a = b, c` of `using a = b, c`.
pub prints_list_on_line : {A : Type 0} (env : Env) (format : ℕ) (parent : Span) (place : A → Span) (part : A → Part) (e : A → Phrase) → ((x : A) → Prints env (part x) (e x)) → comma_delimited format ≡ true → indented format ≡ false → forces_trailing_comma format ≡ false → allows_trailing_comma format ≡ false → (x : A) (xs : List A) → leading_line env.lines format parent (place x) ≡ false → PrintsAt ended env (list format parent (children_of place part (x ∷ xs))) (phrases.listed (codes ",") (map e (x ∷ xs)))
unfolding phrases.listed
prints_list_on_line env format parent place part e law c i f a x xs l =
    let line : Bool = leading_line env.lines format parent (place x) in
    let last : Span = last_place (place x) (children_of place part xs) in
    let children : Part = children_after format line place part x xs in
    let ending : Part = list_closing format parent last in
    prints_same (list format parent (children_of place part (x ∷ xs))) (λ rest. opening format line (children (ending rest))) (λ maps rest. list_in_parts (writes_nothing env) format parent place part x xs maps rest)
    (behind (let P : Bool → Type 0 = λ b. Fills env (opening format b) in subst P (sym l) (blank_opening env format i))
    (before (then (prints_child env format line (record { place = place x; part = part x }) (law x)) (prints_more env format place part e (λ y. loosened (law y)) c (place x) xs))
    (writes_closing env format parent last f a)))

pub prints_one_child : {A : Type 0} {i : Shape} (env : Env) (format : ℕ) (parent : Span) (place : A → Span) (part : A → Part) (x : A) {f : Phrase} → PrintsAt i env (part x) f → leading_line env.lines format parent (place x) ≡ false → closing_line env.lines format parent (place x) ≡ false → indented format ≡ false → forces_trailing_comma format ≡ false → allows_trailing_comma format ≡ false
    → PrintsAt (join open_ (join (join i open_) open_)) env (list format parent (children_of place part (x ∷ []))) f
unfolding more_children list_closing last_place
prints_one_child env format parent place part x law l c i f a =
    let line : Bool = leading_line env.lines format parent (place x) in
    prints_same (list format parent (children_of place part (x ∷ []))) (λ rest. opening format line (children_after format line place part x [] (list_closing format parent (place x) rest))) (λ maps rest. list_in_parts (writes_nothing env) format parent place part x [] maps rest)
    (behind (let P : Bool → Type 0 = λ b. Fills env (opening format b) in subst P (sym l) (blank_opening env format i))
    (before (prints_child env format line (record { place = place x; part = part x }) law)
    (writes_then env (trailing_comma format parent) (list_end format parent (place x)) [] [] (no_comma_written env format parent f a) (blank_end env format parent (place x) c))))

-- ---- lists behind their bracket, indented or not

-- With a trailing comma or another tail of its own: `[a, , ]`; `p` is what stands between the bracket and the list.
pub prints_bracketed_some : {A : Type 0} {j : Shape} (env : Env) (t : List ℕ) → IsMark t → (p : Part) → EndsLines env p → (format : ℕ) (parent : Span) (place : A → Span) (part : A → Part) (e : A → Phrase) (tail after : Phrase) (close : Part) → ((x : A) → PrintsAt loose env (part x) (e x)) → comma_delimited format ≡ true → ((last : Span) → PrintsAt loose env (list_closing format parent last) tail) → PrintsAt j env close after → (x : A) (xs : List A) → PrintsAt (past_line j) env (λ rest. punct t (p (list format parent (children_of place part (x ∷ xs)) (close rest)))) (mark t > (phrases.listed (codes ",") (map e (x ∷ xs)) > tail) > after)
prints_bracketed_some env t w p h format parent place part e tail after close law c ends closed x xs =
    let line : Bool = leading_line env.lines format parent (place x) in
    let last : Span = last_place (place x) (children_of place part xs) in
    let children : Part = children_after format line place part x xs in
    let ending : Part = list_closing format parent last in
    prints_same (λ rest. punct t (p (list format parent (children_of place part (x ∷ xs)) (close rest)))) (λ rest. punct t (p (opening format line (children (ending (close rest))))))
    (λ maps rest. list_in_parts (writes_then env (punct t) p (token_of Punctuator (spelling Punctuator t) ∷ []) [] (writes_opened_punct env t (mark_spelled t w) w.ascii) h) format parent place part x xs maps (close rest))
    (then (prints_bracket env t w p h format line) (then (then (prints_children env format line place part e law c x xs) (ends last)) closed))

-- Without a trailing comma: `{ a, b }`.
pub prints_bracketed : {A : Type 0} {j : Shape} (env : Env) (t : List ℕ) → IsMark t → (p : Part) → EndsLines env p → (format : ℕ) (parent : Span) (place : A → Span) (part : A → Part) (e : A → Phrase) (after : Phrase) (close : Part) → ((x : A) → PrintsAt loose env (part x) (e x)) → comma_delimited format ≡ true → forces_trailing_comma format ≡ false → allows_trailing_comma format ≡ false → PrintsAt j env close after → (xs : List A) → PrintsAt (past_line j) env (λ rest. punct t (p (list format parent (children_of place part xs) (close rest)))) (mark t > phrases.listed (codes ",") (map e xs) > after)
unfolding phrases.listed
prints_bracketed env t w p h format parent place part e after close law c f a closed [] =
    then (prints_opened env t w) (then (before (behind h prints_nothing) (writes_no_list env format parent)) closed)
prints_bracketed env t w p h format parent place part e after close law c f a closed (x ∷ xs) =
    let line : Bool = leading_line env.lines format parent (place x) in
    let last : Span = last_place (place x) (children_of place part xs) in
    let children : Part = children_after format line place part x xs in
    let ending : Part = list_closing format parent last in
    prints_same (λ rest. punct t (p (list format parent (children_of place part (x ∷ xs)) (close rest)))) (λ rest. punct t (p (opening format line (children (ending (close rest))))))
    (λ maps rest. list_in_parts (writes_then env (punct t) p (token_of Punctuator (spelling Punctuator t) ∷ []) [] (writes_opened_punct env t (mark_spelled t w) w.ascii) h) format parent place part x xs maps (close rest))
    (then (prints_bracket env t w p h format line) (then (before (prints_children env format line place part e law c x xs) (writes_closing env format parent last f a)) closed))

-- ---- lists without delimiters, as statements of a block

more_in_order : {A : Type 0} (env : Env) (format : ℕ) (place : A → Span) (part : A → Part) (e : A → Phrase) → ((x : A) → PrintsAt loose env (part x) (e x)) → IsUndelimited format → (previous : Span) (xs : List A) → PrintsAt loose env (more_children format previous (children_of place part xs)) (phrases.in_order (map e xs))
unfolding more_children phrases.in_order by_lines next_child_after
more_in_order env format place part e law u previous [] = prints_wider loose refl prints_nothing
more_in_order env format place part e law u previous (x ∷ xs) =
    let line : Bool = separating_line env.lines format previous (place x) in
    let more : Part = more_children format (place x) (children_of place part xs) in
    prints_same (more_children format previous (children_of place part (x ∷ xs))) (λ rest. separator format line (part x (child_comments format line (place x) (more rest)))) (λ maps rest. refl)
    (behind (writes_separator env format line u) (then (prints_child env format line (record { place = place x; part = part x }) (law x)) (more_in_order env format place part e law u (place x) xs)))

no_comma_undelimited : (env : Env) (format : ℕ) (parent : Span) → IsUndelimited format → Fills env (trailing_comma format parent)
no_comma_undelimited env format parent u = writes_same env (trailing_comma format parent) (λ rest. rest) [] (λ maps rest. left_out_same format parent rest (at_maps maps env) (ap (λ b. b && not (can_skip_trailing_comma format && env.config.minify)) u.no_comma)) (writes_nothing env)

closing_undelimited : (env : Env) (format : ℕ) (parent last : Span) → IsUndelimited format → EndsLines env (list_closing format parent last)
unfolding list_closing
closing_undelimited env format parent last u = writes_then env (trailing_comma format parent) (list_end format parent last) [] [] (no_comma_undelimited env format parent u) (writes_end env format parent last)

-- One that isn't indented: decorators, or the statements of a program.
pub prints_in_order : {A : Type 0} (env : Env) (format : ℕ) (parent : Span) (place : A → Span) (part : A → Part) (e : A → Phrase) → ((x : A) → PrintsAt loose env (part x) (e x)) → IsUndelimited format → indented format ≡ false → (xs : List A) → PrintsAt loose env (list format parent (children_of place part xs)) (phrases.in_order (map e xs))
unfolding phrases.in_order
prints_in_order env format parent place part e law u i [] = before prints_nothing (writes_no_list env format parent)
prints_in_order env format parent place part e law u i (x ∷ xs) =
    let line : Bool = leading_line env.lines format parent (place x) in
    let last : Span = last_place (place x) (children_of place part xs) in
    let ending : Part = list_closing format parent last in
    prints_same (list format parent (children_of place part (x ∷ xs))) (λ rest. opening format line (children_after format line place part x xs (ending rest))) (λ maps rest. list_in_parts (writes_nothing env) format parent place part x xs maps rest)
    (behind (writes_opening env format line i)
    (then (prints_child env format line (record { place = place x; part = part x }) (law x)) (before (more_in_order env format place part e law u (place x) xs) (closing_undelimited env format parent last u))))

-- Behind its bracket, indented or not: the statements of a block, the members of a class.
pub prints_bracketed_in_order : {A : Type 0} {j : Shape} (env : Env) (t : List ℕ) → IsMark t → (p : Part) → EndsLines env p → (format : ℕ) (parent : Span) (place : A → Span) (part : A → Part) (e : A → Phrase) (after : Phrase) (close : Part) → ((x : A) → PrintsAt loose env (part x) (e x)) → IsUndelimited format → PrintsAt j env close after → (xs : List A) → PrintsAt (past_line j) env (λ rest. punct t (p (list format parent (children_of place part xs) (close rest)))) (mark t > phrases.in_order (map e xs) > after)
unfolding phrases.in_order
prints_bracketed_in_order env t w p h format parent place part e after close law u closed [] =
    then (prints_opened env t w) (then (before (behind h prints_nothing) (writes_no_list env format parent)) closed)
prints_bracketed_in_order env t w p h format parent place part e after close law u closed (x ∷ xs) =
    let line : Bool = leading_line env.lines format parent (place x) in
    let last : Span = last_place (place x) (children_of place part xs) in
    let ending : Part = list_closing format parent last in
    prints_same (λ rest. punct t (p (list format parent (children_of place part (x ∷ xs)) (close rest)))) (λ rest. punct t (p (opening format line (children_after format line place part x xs (ending (close rest))))))
    (λ maps rest. list_in_parts (writes_then env (punct t) p (token_of Punctuator (spelling Punctuator t) ∷ []) [] (writes_opened_punct env t (mark_spelled t w) w.ascii) h) format parent place part x xs maps (close rest))
    (then (prints_bracket env t w p h format line)
    (then (then (prints_child env format line (record { place = place x; part = part x }) (law x)) (before (more_in_order env format place part e law u (place x) xs) (closing_undelimited env format parent last u))) closed))

-- ---- lists joined by `|` or `&`, all on one line

-- A blank and this mark stand between the children, and no line ends; nothing else is written.
pub record IsJoined (format : ℕ) (t : List ℕ) : Type 0 where
  pub joins : (rest : Plan) → delimiter format rest ≡ formatting_space (punct t rest)
  pub is_mark : IsMark t
  pub unbroken : allows_break t ≡ false
  pub no_comma : comma_delimited format ≡ false
  pub flat : indented format ≡ false
  pub leads : (lines : Lines) (p q : Span) → leading_line lines format p q ≡ false
  pub separates : (lines : Lines) (p q : Span) → separating_line lines format p q ≡ false
  pub closes : (lines : Lines) (p q : Span) → closing_line lines format p q ≡ false

prints_joint : (env : Env) (format : ℕ) (t : List ℕ) → IsJoined format t → Prints env (separator format false) (mark t)
unfolding separator line_or_blank
prints_joint env format t j =
    before (prints_same (delimiter format) (λ rest. formatting_space (punct t rest)) (λ maps rest. ap (λ plan. plan (at_maps maps env)) (j.joins rest)) (behind (writes_formatting_space env) (prints_unbroken env t j.unbroken j.is_mark)))
    (writes_blank_if env (space_between_siblings format))

joined_more : {A : Type 0} (env : Env) (format : ℕ) (t : List ℕ) (place : A → Span) (part : A → Part) (e : A → Phrase) → ((x : A) → Prints env (part x) (e x)) → IsJoined format t → (previous : Span) (xs : List A) → PrintsAt open_ env (more_children format previous (children_of place part xs)) (phrases.each_after t (map e xs))
unfolding more_children phrases.each_after by_lines next_child_after
joined_more env format t place part e law j previous [] = prints_nothing
joined_more env format t place part e law j previous (x ∷ xs) =
    let line : Bool = separating_line env.lines format previous (place x) in
    let more : Part = more_children format (place x) (children_of place part xs) in
    let P : Bool → Type 0 = λ b. PrintsAt open_ env (λ rest. separator format b (part x (child_comments format b (place x) (more rest)))) (mark t > e x > phrases.each_after t (map e xs)) in
    prints_same (more_children format previous (children_of place part (x ∷ xs))) (λ rest. separator format line (part x (child_comments format line (place x) (more rest)))) (λ maps rest. refl)
    (subst P (sym (j.separates env.lines previous (place x)))
    (prints_wider open_ refl (then (prints_joint env format t j) (then (prints_child env format false (record { place = place x; part = part x }) (law x)) (joined_more env format t place part e law j (place x) xs)))))

joined_closing : (env : Env) (format : ℕ) (t : List ℕ) (parent last : Span) → IsJoined format t → Fills env (list_closing format parent last)
unfolding list_closing
joined_closing env format t parent last j =
    writes_then env (trailing_comma format parent) (list_end format parent last) [] []
    (writes_same env (trailing_comma format parent) (λ rest. rest) [] (λ maps rest. left_out_same format parent rest (at_maps maps env) (ap (λ b. b && not (can_skip_trailing_comma format && env.config.minify)) j.no_comma)) (writes_nothing env))
    (blank_end env format parent last (j.closes env.lines parent last))

-- one at least: `A | B`
pub prints_joined : {A : Type 0} (env : Env) (format : ℕ) (t : List ℕ) (parent : Span) (place : A → Span) (part : A → Part) (e : A → Phrase) → ((x : A) → Prints env (part x) (e x)) → IsJoined format t → (xs : List A) → Prints env (list format parent (children_of place part xs)) (phrases.some_listed t (map e xs))
unfolding phrases.some_listed
prints_joined env format t parent place part e law j [] = prints_never
prints_joined env format t parent place part e law j (x ∷ xs) =
    let line : Bool = leading_line env.lines format parent (place x) in
    let last : Span = last_place (place x) (children_of place part xs) in
    let ending : Part = list_closing format parent last in
    let P : Bool → Type 0 = λ b. Prints env (λ rest. opening format b (children_after format b place part x xs (ending rest))) (e x > phrases.each_after t (map e xs)) in
    prints_same (list format parent (children_of place part (x ∷ xs))) (λ rest. opening format line (children_after format line place part x xs (ending rest))) (λ maps rest. list_in_parts (writes_nothing env) format parent place part x xs maps rest)
    (subst P (sym (j.leads env.lines parent (place x)))
    (behind (blank_opening env format j.flat)
    (then (prints_child env format false (record { place = place x; part = part x }) (law x)) (before (joined_more env format t place part e law j (place x) xs) (joined_closing env format t parent last j)))))

-- ---- a trailing comma where the source text has one

-- What reads the source text may take memory.
prints_asked : {i : Shape} {env : Env} {f : Phrase} (mark_after : Closing) (p : Part) → IsAmong env.config f (CommaBefore mark_after) → IsPlainAmong env f (CommaBefore mark_after) → PrintsAt i env p f → PrintsAt (join open_ i) env (λ rest. step (Remake true) (p rest)) (CommaBefore mark_after)
unfolding is_possible is_out may_make_text names_in holds_string
prints_asked {env = env} {f = f} mark_after p i plain h = record {
  where_possible = λ w o maps.
      let v : Env = at_maps maps env in
      let m = (writes_remake env true).from maps in
      let a = h.where_possible (i.possible ∙ w) (i.out ∙ o) (maps_after m.steps maps) in
      record {
        tokens = a.tokens;
        generated = i.generates a.tokens a.generated;
        plain = λ e. let still = still_plain m.steps maps env e in plain (maps_after m.steps maps) still a.tokens (a.plain still);
        writes = from_both v (step (Remake true)) p [] a.tokens m a.writes;
        named = subst (λ ns. NamedBy v (λ rest. step (Remake true) (p rest)) ns) i.names (names_then p [] (names_in f) m (no_names v (step (Remake true))) a.named);
        placed = placed_after p (CommaBefore mark_after) a.tokens m (placed_among i a.placed);
        safe = safe_then p m (no_strings m refl) a.safe;
      };
  where_out = λ w o. absurd (true≢false (sym o));
}

-- a part that ends with a closing mark, behind the comma
abbrev Closes : Env → Closing → Part → Type 0
Closes env mark_after p = PrintsAt closed env p (mark (closing_mark mark_after))

prints_read : {env : Env} (mark_after : Closing) (end : Part) (b : Bool) → ((maps : Maps) → IsPlain (at_maps maps env) → b ≡ false) → Closes env mark_after end → PrintsAt closed env (λ rest. step (Remake true) (comma_if b (end rest))) (CommaBefore mark_after)
unfolding comma_if plain_phrase
prints_read {env = env} mark_after end true never h = prints_wider closed refl (prints_asked mark_after (λ rest. comma_if true (end rest)) (comma_among env.config mark_after) (λ maps e. absurd (true≢false (never maps e))) (then (prints_comma_if env) h))
prints_read {env = env} mark_after end false never h = prints_wider closed refl (prints_asked mark_after end (no_comma_among env.config mark_after) (λ maps e ts g. g) h)

nowhere_same : (parent : Span) (rest : Plan) (env : Env) → (parent.lo.0 == 0) ≡ true → source_comma parent rest env ≡ rest env
unfolding source_comma
nowhere_same parent rest env h = picked (parent.lo.0 == 0) rest _ env h

-- a text that isn't known has none
no_text_no_comma : source_has_comma None ≡ false
unfolding source_has_comma
no_text_no_comma = refl

prints_source_comma : {env : Env} (parent : Span) (mark_after : Closing) (end : Part) → Closes env mark_after end → PrintsAt closed env (λ rest. source_comma parent (end rest)) (CommaBefore mark_after)
prints_source_comma {env = env} parent mark_after end h = elim (cases_Bool (parent.lo.0 == 0)) [
  | inl none ↦ prints_same (λ rest. source_comma parent (end rest)) end (λ maps rest. nowhere_same parent (end rest) (at_maps maps env) none) (prints_no_comma mark_after h)
  | inr some ↦ prints_same (λ rest. source_comma parent (end rest)) (λ rest. step (Remake true) (comma_if (source_has_comma (env.lines.snippet parent)) (end rest))) (λ maps rest. source_same parent (end rest) (at_maps maps env) some) (prints_read mark_after end (source_has_comma (env.lines.snippet parent)) (λ maps e. ap source_has_comma (e.no_source parent) ∙ no_text_no_comma) h)
]

allowed_same : (format : ℕ) (parent : Span) (rest : Plan) (env : Env) → forces_trailing_comma format ≡ false → allows_trailing_comma format ≡ true → wanted_comma format parent rest env ≡ source_comma parent rest env
unfolding wanted_comma
allowed_same format parent rest env f a = passed_over (forces_trailing_comma format) _ _ env f ∙ picked (allows_trailing_comma format) _ rest env a

prints_allowed_comma : {env : Env} (format : ℕ) (parent : Span) (mark_after : Closing) (end : Part) → forces_trailing_comma format ≡ false → allows_trailing_comma format ≡ true → Closes env mark_after end → PrintsAt closed env (λ rest. trailing_comma format parent (end rest)) (CommaBefore mark_after)
prints_allowed_comma {env = env} format parent mark_after end f a h = elim (cases_Bool (may_have_comma format env.config)) [
  | inl some ↦ prints_same (λ rest. trailing_comma format parent (end rest)) (λ rest. source_comma parent (end rest)) (λ maps rest. written_same format parent (end rest) (at_maps maps env) some ∙ allowed_same format parent (end rest) (at_maps maps env) f a) (prints_source_comma parent mark_after end h)
  | inr none ↦ prints_same (λ rest. trailing_comma format parent (end rest)) end (λ maps rest. left_out_same format parent (end rest) (at_maps maps env) none) (prints_no_comma mark_after h)
]

-- `[a, ] = b`, to the bracket
pub prints_optional_closing : (env : Env) (format : ℕ) (parent last : Span) (mark_after : Closing) (close : Part) → forces_trailing_comma format ≡ false → allows_trailing_comma format ≡ true → Prints env close (mark (closing_mark mark_after)) → PrintsAt closed env (λ rest. list_closing format parent last (close rest)) (CommaBefore mark_after)
unfolding list_closing
prints_optional_closing env format parent last mark_after close f a h =
    prints_allowed_comma format parent mark_after (λ rest. list_end format parent last (close rest)) f a (prints_wider closed refl (behind (writes_end env format parent last) h))
