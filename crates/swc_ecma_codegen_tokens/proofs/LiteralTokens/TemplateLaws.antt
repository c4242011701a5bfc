-- What the calls of a part of a template write: one token.
use Rattle.std.proofs.Common.{◌≡◌, ℕ, ◌+◌, Bool, true, false, cond, not, ◌&&◌, ◌||◌, ◌==◌, List, [], ◌∷◌, ◌++◌, codes, None, refl, sym, ap, ◌∙◌, subst, append_assoc, append-nil, arith, ◌⊎◌, inl, inr}
use Rattle.std.specs.Str.{chars, is_utf8, IsUtf8}
use Rattle.std.proofs.lemmas.Bool.{and_from, and_parts, or_from, or_left, false_from_ne_true, true≢false}
use Rattle.std.proofs.lemmas.List.Folds.{list_all-append}
use Rattle.std.proofs.lemmas.Str.{chars-append, IsUtf8-from_is_utf8}
use Rattle.swc_ecma_codegen_common.specs.declared.positions.BytePos.{BytePos}
use Rattle.swc_ecma_codegen_common.specs.declared.positions.Span.{Span}
use Rattle.swc_ecma_codegen_spans.specs.Spans.{dummy_span}
use Rattle.swc_ecma_codegen_grammar.specs.declared.kinds.Kind.{Kind}
use Rattle.swc_ecma_codegen_grammar.specs.declared.kinds.TemplatePart.{TemplatePart}
use Rattle.swc_ecma_codegen_grammar.specs.GapRules.{PreviousToken, Whole, allows, fuses, last_after}
use Rattle.swc_ecma_codegen_grammar.specs.Reads.{is_child, is_hashbang_kind}
use Rattle.swc_ecma_codegen_grammar.specs.Parts.{IsEnding, tokens_of}
use Rattle.swc_ecma_codegen_grammar.specs.Parts as parts
use Rattle.swc_ecma_codegen_grammar.specs.Texts.{begins}
use Rattle.swc_ecma_codegen_grammar.specs.Templates.{part_end, part_units}
use Rattle.swc_ecma_codegen_grammar.specs.TemplatePhrases.{part_kind, part_begin, part_text}
use Rattle.swc_ecma_codegen_grammar.specs.Tokens.{Characters, Units, has_shape, token_of, value_of, part_value}
use Rattle.swc_ecma_codegen_text_writer.proofs.Stays.{pointed_stays, before_punct_stays}
use Rattle.swc_ecma_codegen_text_writer.specs.Sheet.{Sheet, Semicolons, AtOnce, HoldsNone, HoldsOne, Position, Punct, StrLit, effect, written, literal_written, settled, before_punct, is_ending, dropped, pointed, fills_lines}
use Rattle.swc_ecma_codegen_literals.specs.AsciiNames.{is_ascii_text}
use Rattle.swc_ecma_codegen_tokens.specs.Ascii.{is_other_piece, is_kept_piece, is_other_end, is_kept_end, is_other_value, keeps_other, keeps_tokens, are_ascii, are_ascii_or_kept}
use Rattle.swc_ecma_codegen_tokens.specs.Run.{at_maps, after_step, Env, Plan, Part, State, Step, Guard, Plain, Ends, put, run, step, spelling, text_of, after_token, after_tokens, after_plain, makes_text}
use Rattle.swc_ecma_codegen_tokens.specs.Starts.{start_class}
use Rattle.swc_ecma_codegen_tokens.specs.Templates as words
use Rattle.swc_ecma_codegen_tokens.specs.Words.{position}
use Rattle.swc_ecma_codegen_tokens.specs.Written.{AtRest, holds_one}
use Rattle.swc_ecma_codegen_text_writer.proofs.Cuts.{grows_last, pointed_grows}
use Rattle.swc_ecma_codegen_tokens.proofs.Emission.Fronts.{run_append}
use Rattle.swc_ecma_codegen_tokens.proofs.Emission.StepAscii.{HandsOverAscii, has_string, has_append, keeps_append, ascii_append, ascii_keeps, or_kept_append, kept_of_ascii}
use Rattle.swc_ecma_codegen_tokens.proofs.Emission.PendingSemi.{front, pointed_keeps, settled_none}
use Rattle.swc_ecma_codegen_tokens.proofs.LiteralTokens.NumeralTexts.{ascii_by_chars}
use Rattle.swc_ecma_codegen_tokens.proofs.Emission.Levels.{levels, levels_append, rise}
use Rattle.swc_ecma_codegen_tokens.proofs.LiteralTokens.LiteralParts.{alike_fuses, still_settled, more_adds}
use Rattle.swc_ecma_codegen_tokens.proofs.Reading.Printed.{takes_none, takes_append, from_silently, Writes, chain, chain_append, remakes_append}
use Rattle.swc_ecma_codegen_tokens.proofs.Gaps.Starting.{plain_class}
use Rattle.swc_ecma_codegen_tokens.proofs.Reading.Texts.{Adds, adds_written, adds_literal, adds_more, owns, SpelledAs, spelled_one, lays_texts, lost_texts}
use Rattle.swc_ecma_codegen_tokens.proofs.Reading.Laid.{Lays, lays_then}
use Rattle.swc_ecma_codegen_tokens.proofs.Gaps.Written.{lays_settled, settle, settle_rest}
use Rattle.swc_ecma_codegen_tokens.proofs.Reading.TokenLays.{Spelled, after_guard, lays_guard}

-- a part ends by itself
pub after_part : (first : Bool) (part : TemplatePart) (t : List ℕ) (k : PreviousToken) → after_tokens ((part_kind first part, t) ∷ []) k ≡ Whole
unfolding after_tokens after_token last_after part_kind
after_part true part t k = refl
after_part false part t k = refl

-- ---- pieces of a token

-- Some steps add a text to one that was added to a sheet where no semicolon is held back; the last token stays.
pub record Inside (env : Env) (part : Part) (t : List ℕ) (tagged : Bool) : Type 0 where
  pub steps : List Step
  pub is_steps : (rest : Plan) → part rest env ≡ chain steps (rest env)
  pub adds : (u : List ℕ) (a : Sheet) (s : State) → holds_one a.semicolons ≡ false → fills_lines a.lines ≡ false → Adds u a s.sheet → Adds (u ++ t) a (run steps s).sheet
  pub last : (s : State) → (run steps s).last ≡ s.last
  pub remakes : makes_text steps ≡ false
  pub level : levels steps ≡ 0
  pub silent : takes_none steps ≡ true
  pub strings : has_string steps ≡ false
  pub ascii : is_ascii_text t ≡ true → are_ascii steps ≡ true
  pub others : tagged ≡ false → keeps_other steps ≡ false
  pub handed : (tagged ≡ true) ⊎ (is_ascii_text t ≡ true) → are_ascii_or_kept steps ≡ true

inside_then : {env : Env} {p q : Part} {t v : List ℕ} {b : Bool} → Inside env p t b → Inside env q v b → Inside env (λ rest. p (q rest)) (t ++ v) b
inside_then {env} {p} {q} {t} {v} {b} h k = record {
  steps = h.steps ++ k.steps;
  is_steps = λ rest. h.is_steps (q rest) ∙ ap (λ z. chain h.steps z) (k.is_steps rest) ∙ sym (chain_append h.steps k.steps (rest env));
  adds = λ u a s o n e.
      let P : State → Type 0 = λ z. Adds (u ++ (t ++ v)) a z.sheet in
      subst P (sym (run_append h.steps k.steps s)) (subst (λ z. Adds z a (run k.steps (run h.steps s)).sheet) (append_assoc u t v) (k.adds (u ++ t) a (run h.steps s) o n (h.adds u a s o n e)));
  last = λ s. ap (λ (z : State). z.last) (run_append h.steps k.steps s) ∙ k.last (run h.steps s) ∙ h.last s;
  remakes = remakes_append h.steps k.steps ∙ or_from (makes_text h.steps) (makes_text k.steps) h.remakes k.remakes;
  level = levels_append h.steps k.steps ∙ ap (λ n. n + levels k.steps) h.level ∙ ap (λ n. 0 + n) k.level;
  silent = takes_append h.steps k.steps ∙ and_from (takes_none h.steps) (takes_none k.steps) h.silent k.silent;
  strings = has_append h.steps k.steps ∙ or_from (has_string h.steps) (has_string k.steps) h.strings k.strings;
  ascii = λ e.
      let both = and_parts (is_ascii_text t) (is_ascii_text v) (sym (list_all-append _ t v) ∙ e) in
      ascii_append h.steps k.steps ∙ and_from (are_ascii h.steps) (are_ascii k.steps) (h.ascii both.0) (k.ascii both.1);
  others = λ e. keeps_append h.steps k.steps ∙ or_from (keeps_other h.steps) (keeps_other k.steps) (h.others e) (k.others e);
  handed = λ e.
      let both : ((b ≡ true) ⊎ (is_ascii_text t ≡ true)) × ((b ≡ true) ⊎ (is_ascii_text v ≡ true)) = elim e [
        | inl i ↦ (inl i, inl i)
        | inr a ↦ let p = and_parts (is_ascii_text t) (is_ascii_text v) (sym (list_all-append _ t v) ∙ a) in (inr p.0, inr p.1)
      ] in
      or_kept_append h.steps k.steps ∙ and_from (are_ascii_or_kept h.steps) (are_ascii_or_kept k.steps) (h.handed both.0) (k.handed both.1);
}

-- ---- a position

pointed_adds : (pos : BytePos) (t : List ℕ) (a b : Sheet) → Adds t a b → Adds t a (pointed pos b)
pointed_adds pos t a b h = record {
  text = pointed_keeps (λ z. z.text) (λ z x l. refl) (λ z x. refl) pos b ∙ h.text;
  semicolons = pointed_keeps (λ z. z.semicolons) (λ z x l. refl) (λ z x. refl) pos b ∙ h.semicolons;
  in_line = pointed_keeps (λ z. z.at_line_start) (λ z x l. refl) (λ z x. refl) pos b ∙ h.in_line;
  grows = grows_last (front a ++ t) a b (pointed pos b) h.grows (pointed_grows pos b);
  indent_text = pointed_keeps (λ z. z.indent_text) (λ z x l. refl) (λ z x. refl) pos b ∙ h.indent_text;
  line_end = pointed_keeps (λ z. z.line_end) (λ z x l. refl) (λ z x. refl) pos b ∙ h.line_end;
  fills = (pointed_stays pos b).fills ∙ h.fills;
}

recorded_inside : (env : Env) (pos : BytePos) (tagged : Bool) → Inside env (step (Plain (Position pos))) [] tagged
unfolding step chain run put effect text_of after_plain makes_text levels rise are_ascii are_ascii_or_kept has_string keeps_other is_other_piece is_kept_piece takes_none after_step
recorded_inside env pos tagged = record {
  steps = Plain (Position pos) ∷ [];
  is_steps = λ rest. refl;
  adds = λ u a s o n e. subst (λ z. Adds z a (pointed pos s.sheet)) (sym (append-nil u)) (pointed_adds pos u a s.sheet e);
  last = λ s. refl;
  remakes = refl;
  level = refl;
  silent = refl;
  strings = refl;
  ascii = λ e. refl;
  others = λ e. refl;
  handed = λ e. refl;
}

nothing_inside : (env : Env) (tagged : Bool) → Inside env (λ rest. rest) [] tagged
unfolding chain run makes_text levels are_ascii are_ascii_or_kept has_string keeps_other takes_none
nothing_inside env tagged = record {
  steps = [];
  is_steps = λ rest. refl;
  adds = λ u a s o n e. subst (λ z. Adds z a s.sheet) (sym (append-nil u)) e;
  last = λ s. refl;
  remakes = refl;
  level = refl;
  silent = refl;
  strings = refl;
  ascii = λ e. refl;
  others = λ e. refl;
  handed = λ e. refl;
}

inside_if : {env : Env} (b : Bool) {p q : Part} {t : List ℕ} {tagged : Bool} → Inside env p t tagged → Inside env q t tagged → Inside env (λ rest. cond b (p rest) (q rest)) t tagged
inside_if true h k = h
inside_if false h k = k

pub position_inside : (env : Env) (pos : BytePos) (tagged : Bool) → Inside env (position pos) [] tagged
unfolding position
position_inside env pos tagged = inside_if (pos.0 == 0) (nothing_inside env tagged) (recorded_inside env pos tagged)

-- ---- the text

literal_more : (t u : List ℕ) (a b : Sheet) → holds_one a.semicolons ≡ false → fills_lines a.lines ≡ false → Adds u a b → Adds (u ++ t) a (literal_written dummy_span t (settled b))
unfolding literal_written
literal_more [] u a b o n h = subst (λ z. Adds z a (settled b)) (sym (append-nil u)) (subst (λ z. Adds u a z) (sym (still_settled u a b o h)) h)
literal_more (c ∷ cs) u a b o n h = subst (λ z. Adds (u ++ (c ∷ cs)) a (literal_written dummy_span (c ∷ cs) z)) (sym (still_settled u a b o h)) (adds_more u (c ∷ cs) a b _ h (adds_literal dummy_span c cs b (h.fills ∙ n)))

text_ascii : (t : List ℕ) → is_ascii_text t ≡ true → (is_ascii_text t && true) ≡ true
text_ascii t a = and_from (is_ascii_text t) true a refl

-- what stands as it is
stands_kept : (b : Bool) → ((b || true) && true) ≡ true
stands_kept true = refl
stands_kept false = refl

-- and what is ASCII, as one with a tag alone may not be
ascii_kept : (kept b : Bool) → b ≡ true → ((b || kept) && true) ≡ true
ascii_kept kept b a = and_from (b || kept) true (or_left b kept a) refl

text_inside : (env : Env) (tagged : Bool) (t : List ℕ) → Inside env (words.inside tagged t) t tagged
unfolding words.inside step chain run put effect text_of after_plain after_tokens makes_text levels rise are_ascii are_ascii_or_kept has_string keeps_other is_other_piece is_kept_piece is_other_end is_kept_end takes_none after_step
text_inside env true t = record {
  steps = Ends [] (StrLit dummy_span t) ∷ [];
  is_steps = λ rest. refl;
  adds = λ u a s o n e. literal_more t u a s.sheet o n e;
  last = λ s. refl;
  remakes = refl;
  level = refl;
  silent = refl;
  strings = refl;
  ascii = λ e. text_ascii t e;
  others = λ e. absurd (true≢false e);
  handed = λ e. stands_kept (is_ascii_text t);
}
text_inside env false t = record {
  steps = Plain (StrLit dummy_span t) ∷ [];
  is_steps = λ rest. refl;
  adds = λ u a s o n e. literal_more t u a s.sheet o n e;
  last = λ s. refl;
  remakes = refl;
  level = refl;
  silent = refl;
  strings = refl;
  ascii = λ e. text_ascii t e;
  others = λ e. refl;
  handed = λ e. elim e [ inl i ↦ absurd (true≢false (sym i)) | inr a ↦ ascii_kept false (is_ascii_text t) a ];
}

-- a text between two positions
placed_inside : (env : Env) (tagged : Bool) (span : Span) (t : List ℕ) → Inside env (words.placed_inside tagged span t) t tagged
unfolding words.placed_inside
placed_inside env tagged span t =
    subst (λ z. Inside env (words.placed_inside tagged span t) z tagged) (append-nil t)
    (inside_then (position_inside env span.lo tagged) (inside_then (text_inside env tagged t) (position_inside env span.hi tagged)))

-- ---- the mark with which a part begins

begin_steps : Bool → List Step
begin_steps first = Plain (Punct None (part_begin first)) ∷ []

begin_is : (env : Env) (first : Bool) (rest : Plan) → words.opened first rest env ≡ chain (begin_steps first) (rest env)
unfolding words.opened begin_steps step chain after_step
begin_is env first rest = refl

-- where it is written: behind a semicolon that was held back, or in its place
abbrev begun_on : Bool → Sheet → Sheet
begun_on first s = before_punct (part_begin first) s

lost_none : (x : Semicolons) → holds_one (dropped x) ≡ false
unfolding holds_one dropped
lost_none AtOnce = refl
lost_none HoldsNone = refl
lost_none (HoldsOne span allowed) = refl

begun_none : (first : Bool) (s : Sheet) → holds_one (begun_on first s).semicolons ≡ false
unfolding part_begin before_punct is_ending
begun_none true s = settled_none s
begun_none false s = lost_none s.semicolons

begin_adds : (first : Bool) (s : State) → fills_lines (begun_on first s.sheet).lines ≡ false → Adds (part_begin first) (begun_on first s.sheet) (run (begin_steps first) s).sheet
unfolding begin_steps part_begin run put effect
begin_adds true s n = adds_written None 96 [] (begun_on true s.sheet) n
begin_adds false s n = adds_written None 125 [] (begun_on false s.sheet) n

begin_plain : (first : Bool) → (makes_text (begin_steps first) ≡ false) × (levels (begin_steps first) ≡ 0) × (has_string (begin_steps first) ≡ false) × (are_ascii (begin_steps first) ≡ true) × (keeps_other (begin_steps first) ≡ false)
unfolding begin_steps part_begin makes_text levels rise has_string are_ascii text_of keeps_other is_other_piece is_kept_piece
begin_plain true = (refl, refl, refl, refl, refl)
begin_plain false = (refl, refl, refl, refl, refl)

-- ---- the mark with which it ends

end_adds : (part : TemplatePart) (u : List ℕ) (a b : Sheet) → holds_one a.semicolons ≡ false → fills_lines a.lines ≡ false → Adds u a b → Adds (u ++ part_end part) a (written None (part_end part) (before_punct (part_end part) b))
unfolding part_end before_punct is_ending
end_adds part u a b o n h = elim part.opens as (λ z. Adds (u ++ (cond z (codes "${") (codes "`"))) a (written None (cond z (codes "${") (codes "`")) (cond (is_ending (cond z (codes "${") (codes "`"))) (record b { semicolons = dropped b.semicolons }) (settled b))))
    [ true ↦ more_adds u (codes "${") a b o n h | false ↦ more_adds u (codes "`") a b o n h ]

end_ascii : (part : TemplatePart) → is_ascii_text (part_end part) ≡ true
unfolding part_end
end_ascii part = elim part.opens as (λ z. is_ascii_text (cond z (codes "${") (codes "`")) ≡ true) [ true ↦ refl | false ↦ refl ]

end_other : (kind : Kind) (u : List ℕ) (t : List ℕ) → is_other_end ((kind, u) ∷ []) (Punct None t) ≡ false
unfolding is_other_end is_kept_end is_kept_piece
end_other kind u t = refl

last_adds : (kind : Kind) (text : List ℕ) (part : TemplatePart) (s : State) (u : List ℕ) (a : Sheet) → Adds u a (written None (part_end part) (before_punct (part_end part) s.sheet)) → Adds u a (run (Ends ((kind, text) ∷ []) (Punct None (part_end part)) ∷ []) s).sheet
unfolding run put effect
last_adds kind text part s u a h = h

last_last : (kind : Kind) (text : List ℕ) (part : TemplatePart) (s : State) → (run (Ends ((kind, text) ∷ []) (Punct None (part_end part)) ∷ []) s).last ≡ after_tokens ((kind, text) ∷ []) s.last
unfolding run put
last_last kind text part s = refl

-- ---- a part

abbrev all_steps : Bool → TemplatePart → List Step → List ℕ → List Step
all_steps first part inner text = Guard (part_begin first) ∷ (begin_steps first ++ (inner ++ (Ends ((part_kind first part, text) ∷ []) (Punct None (part_end part)) ∷ [])))

begin_utf8 : (first : Bool) → IsUtf8 (part_begin first)
unfolding part_begin chars is_utf8 lib.Utf8.encode
begin_utf8 true = IsUtf8-from_is_utf8 (codes "`") refl
begin_utf8 false = IsUtf8-from_is_utf8 (codes "}") refl

begin_chars : (first : Bool) → chars (part_begin first) ≡ part_begin first
unfolding part_begin chars lib.Utf8.encode
begin_chars true = refl
begin_chars false = refl

-- what follows the mark doesn't matter
begin_class : (first : Bool) (t : List ℕ) → start_class (part_begin first ++ t) ≡ start_class (part_begin first)
unfolding part_begin
begin_class true t = plain_class 96 t (λ e. omega (arith, e)) (λ e. omega (arith, e)) ∙ sym (plain_class 96 [] (λ e. omega (arith, e)) (λ e. omega (arith, e)))
begin_class false t = plain_class 125 t (λ e. omega (arith, e)) (λ e. omega (arith, e)) ∙ sym (plain_class 125 [] (λ e. omega (arith, e)) (λ e. omega (arith, e)))

part_class : (first : Bool) (t : List ℕ) → start_class (chars (part_begin first ++ t)) ≡ start_class (chars (part_begin first))
part_class first t =
    ap start_class (chars-append (part_begin first) t (begin_utf8 first)) ∙ ap (λ z. start_class (z ++ chars t)) (begin_chars first)
    ∙ begin_class first (chars t) ∙ sym (ap start_class (begin_chars first))

pub part_spelled : (first : Bool) (part : TemplatePart) (t : List ℕ) → IsUtf8 t → has_shape (part_kind first part) (chars t) ≡ true → (t ≡ [] → ⊥) → Spelled (part_kind first part) t
unfolding part_kind spelling is_child is_hashbang_kind last_after allows
part_spelled true part t u h some = record { utf8 = u; same = refl; shape = h; no_child = λ e. true≢false (sym e); no_hashbang = λ e. true≢false (sym e); allowed = λ k v. refl; some = some }
part_spelled false part t u h some = record { utf8 = u; same = refl; shape = h; no_child = λ e. true≢false (sym e); no_hashbang = λ e. true≢false (sym e); allowed = λ k v. refl; some = some }

part_adds : {env : Env} (first : Bool) (part : TemplatePart) (span : Span) (t : List ℕ) (h : Inside env (words.placed_inside part.tagged span t) t part.tagged) (text : List ℕ) (s : State) → fills_lines s.sheet.lines ≡ false → Adds (part_text first part t) (begun_on first s.sheet) (run (begin_steps first ++ (h.steps ++ (Ends ((part_kind first part, text) ∷ []) (Punct None (part_end part)) ∷ []))) s).sheet
unfolding part_text
part_adds first part span t h text s n =
    let a : Sheet = begun_on first s.sheet in
    let o = begun_none first s.sheet in
    let m = (before_punct_stays (part_begin first) s.sheet).fills ∙ n in
    let begun : State = run (begin_steps first) s in
    let last : Step = Ends ((part_kind first part, text) ∷ []) (Punct None (part_end part)) in
    let P : State → Type 0 = λ z. Adds (part_begin first ++ (t ++ part_end part)) a z.sheet in
    let whole = end_adds part (part_begin first ++ t) a (run h.steps begun).sheet o m (h.adds (part_begin first) a begun o m (begin_adds first s m)) in
    subst P (sym (run_append (begin_steps first) (h.steps ++ (last ∷ [])) s))
    (subst P (sym (run_append h.steps (last ∷ []) begun))
    (last_adds (part_kind first part) text part (run h.steps begun) _ a (subst (λ z. Adds z a (written None (part_end part) (before_punct (part_end part) (run h.steps begun).sheet))) (append_assoc (part_begin first) t (part_end part)) whole)))

part_last : {env : Env} (first : Bool) (part : TemplatePart) (span : Span) (t : List ℕ) (h : Inside env (words.placed_inside part.tagged span t) t part.tagged) (text : List ℕ) (s : State) → (run (begin_steps first ++ (h.steps ++ (Ends ((part_kind first part, text) ∷ []) (Punct None (part_end part)) ∷ []))) s).last ≡ after_tokens ((part_kind first part, text) ∷ []) s.last
part_last first part span t h text s =
    let begun : State = run (begin_steps first) s in
    let last : Step = Ends ((part_kind first part, text) ∷ []) (Punct None (part_end part)) in
    ap (λ (z : State). z.last) (run_append (begin_steps first) (h.steps ++ (last ∷ [])) s ∙ run_append h.steps (last ∷ []) begun)
    ∙ last_last (part_kind first part) text part (run h.steps begun) ∙ after_part first part text (run h.steps begun).last ∙ sym (after_part first part text s.last)

part_is : {env : Env} (first : Bool) (part : TemplatePart) (span : Span) (t : List ℕ) (h : Inside env (words.placed_inside part.tagged span t) t part.tagged) (rest : Plan) → words.part_by first part span t rest env ≡ chain (all_steps first part h.steps (part_text first part t)) (rest env)
unfolding words.part_by words.closed step chain after_step
part_is {env} first part span t h rest =
    let last : Step = Ends ((part_kind first part, part_text first part t) ∷ []) (Punct None (part_end part)) in
    let closed : Plan = words.closed first part t rest in
    ap (chain (Guard (part_begin first) ∷ []))
    (begin_is env first (words.placed_inside part.tagged span t closed) ∙ ap (chain (begin_steps first)) (h.is_steps closed)
    ∙ sym (ap (chain (begin_steps first)) (chain_append h.steps (last ∷ []) (rest env))) ∙ sym (chain_append (begin_steps first) (h.steps ++ (last ∷ [])) (rest env)))

-- ---- what it hands over

no_text : {b : Bool} → false ≡ true → b ≡ true
no_text h = absurd (true≢false (sym h))

-- the text inside, by the whole
inside_ascii : (first : Bool) (part : TemplatePart) (t : List ℕ) → is_ascii_text (part_text first part t) ≡ true → is_ascii_text t ≡ true
unfolding part_text
inside_ascii first part t h =
    let behind = and_parts (is_ascii_text (part_begin first)) (is_ascii_text (t ++ part_end part)) (sym (list_all-append _ (part_begin first) (t ++ part_end part)) ∙ h) in
    (and_parts (is_ascii_text t) (is_ascii_text (part_end part)) (sym (list_all-append _ t (part_end part)) ∙ behind.1)).0

last_ascii : (part : TemplatePart) (kind : Kind) (text : List ℕ) → are_ascii (Ends ((kind, text) ∷ []) (Punct None (part_end part)) ∷ []) ≡ true
unfolding are_ascii text_of
last_ascii part kind text = and_from (is_ascii_text (part_end part)) true (end_ascii part) refl

last_other : (part : TemplatePart) (kind : Kind) (text : List ℕ) → keeps_other (Ends ((kind, text) ∷ []) (Punct None (part_end part)) ∷ []) ≡ false
unfolding keeps_other
last_other part kind text = or_from (is_other_end ((kind, text) ∷ []) (Punct None (part_end part))) false (end_other kind text (part_end part)) refl

or_none : (b : Bool) → (b || false) ≡ b
or_none true = refl
or_none false = refl

-- a part of a template with a tag stands as it is
part_other : (first : Bool) (part : TemplatePart) (text : List ℕ) → part.tagged ≡ true → is_ascii_text text ≡ false → is_other_value (part_kind first part) (value_of (part_kind first part) text) ≡ true
unfolding part_kind value_of part_value is_other_value
part_other true part text e n = ap (λ b. is_other_value (part_kind true part) (cond b (Characters text) (Units (part_units part text)))) e ∙ ap not n
part_other false part text e n = ap (λ b. is_other_value (part_kind false part) (cond b (Characters text) (Units (part_units part text)))) e ∙ ap not n

all_other : (first : Bool) (part : TemplatePart) (inner : List Step) (text : List ℕ) → keeps_other (all_steps first part inner text) ≡ keeps_other inner
unfolding keeps_other
all_other first part inner text =
    let last : List Step = Ends ((part_kind first part, text) ∷ []) (Punct None (part_end part)) ∷ [] in
    keeps_append (begin_steps first) (inner ++ last) ∙ ap (λ b. b || keeps_other (inner ++ last)) (begin_plain first).4
    ∙ keeps_append inner last ∙ ap (λ b. keeps_other inner || b) (last_other part (part_kind first part) text) ∙ or_none (keeps_other inner)

all_handed : (first : Bool) (part : TemplatePart) (inner : List Step) (text : List ℕ) → are_ascii_or_kept inner ≡ true → are_ascii_or_kept (all_steps first part inner text) ≡ true
unfolding begin_steps are_ascii_or_kept
all_handed first part inner text h =
    let last : List Step = Ends ((part_kind first part, text) ∷ []) (Punct None (part_end part)) ∷ [] in
    or_kept_append (begin_steps first) (inner ++ last) ∙ and_from (are_ascii_or_kept (begin_steps first)) (are_ascii_or_kept (inner ++ last)) (kept_of_ascii (begin_steps first) (begin_plain first).3)
    (or_kept_append inner last ∙ and_from (are_ascii_or_kept inner) (are_ascii_or_kept last) h (kept_of_ascii last (last_ascii part (part_kind first part) text)))

by_tag : (tagged : Bool) (A : Type 0) → (tagged ≡ true → A) → (tagged ≡ false → A) → A
by_tag true A h k = h refl
by_tag false A h k = k refl

part_hands : (env : Env) (first : Bool) (part : TemplatePart) (span : Span) (t : List ℕ) (h : Inside env (words.placed_inside part.tagged span t) t part.tagged) → Spelled (part_kind first part) (part_text first part t) → (env.config.ascii_only ≡ true → part.tagged ≡ false → is_ascii_text t ≡ true) → HandsOverAscii env (all_steps first part h.steps (part_text first part t)) (token_of (part_kind first part) (chars (part_text first part t)) ∷ [])
unfolding keeps_tokens token_of has_string
part_hands env first part span t h p a =
    let text : List ℕ = part_text first part t in
    let kind : Kind = part_kind first part in
    let last : List Step = Ends ((kind, text) ∷ []) (Punct None (part_end part)) ∷ [] in
    record {
      ascii = λ e. all_handed first part h.steps text (h.handed (by_tag part.tagged ((part.tagged ≡ true) ⊎ (is_ascii_text t ≡ true)) (λ y. inl y) (λ y. inr (a e y))));
      keeps = λ n.
          let kept = sym (all_other first part h.steps text) ∙ n in
          let tagged : part.tagged ≡ true = by_tag part.tagged (part.tagged ≡ true) (λ y. y) (λ y. absurd (true≢false (sym kept ∙ h.others y))) in
          let other : is_ascii_text (chars text) ≡ false = false_from_ne_true (is_ascii_text (chars text)) (λ y. true≢false (sym kept ∙ ascii_keeps h.steps (h.ascii (inside_ascii first part t (ascii_by_chars text p.utf8 y))))) in
          or_left (is_other_value kind (value_of kind (chars text))) false (part_other first part (chars text) tagged other);
      strings = λ n. no_text (sym (has_append (begin_steps first) (h.steps ++ last) ∙ or_from (has_string (begin_steps first)) (has_string (h.steps ++ last)) (begin_plain first).2 (has_append h.steps last ∙ or_from (has_string h.steps) false h.strings refl)) ∙ n);
    }

-- what a part begins with, a semicolon that was held back isn't needed before it
part_ends : (part : TemplatePart) (t : List ℕ) (more : List parts.Part) → IsEnding (owns ((part_kind false part, part_text false part t) ∷ []) ++ more)
unfolding IsEnding owns spelling part_kind part_text part_begin begins
part_ends part t more = ap (λ z. begins (codes "}") z || begins (codes ";") z) (chars-append (part_begin false) (t ++ part_end part) (begin_utf8 false) ∙ ap (λ z. z ++ chars (t ++ part_end part)) (begin_chars false))

later_lays : (x : Semicolons) (part : TemplatePart) (t : List ℕ) (s b : State) → x ≡ s.sheet.semicolons → SpelledAs ((part_kind false part, part_text false part t) ∷ []) (part_text false part t) → fuses s.last (chars (part_text false part t)) ≡ false → AtRest s → Adds (part_text false part t) (record s.sheet { semicolons = dropped x }) b.sheet → b.last ≡ after_tokens ((part_kind false part, part_text false part t) ∷ []) s.last → Lays (tokens_of (owns ((part_kind false part, part_text false part t) ∷ []))) s b
unfolding dropped
later_lays AtOnce part t s b e p f r h last = lays_texts _ _ s b p f (unfold holds_one in ap holds_one (sym e)) r (subst (λ z. Adds (part_text false part t) (record s.sheet { semicolons = z }) b.sheet) e h) last
later_lays HoldsNone part t s b e p f r h last = lays_texts _ _ s b p f (unfold holds_one in ap holds_one (sym e)) r (subst (λ z. Adds (part_text false part t) (record s.sheet { semicolons = z }) b.sheet) e h) last
later_lays (HoldsOne span allowed) part t s b e p f r h last = lost_texts _ _ s b e (part_ends part t) p f r h last

-- a part that begins behind a semicolon that was held back, or in its place
begun_lays : (first : Bool) (part : TemplatePart) (t : List ℕ) (s b : State) → SpelledAs ((part_kind first part, part_text first part t) ∷ []) (part_text first part t) → fuses s.last (chars (part_text first part t)) ≡ false → AtRest s → Adds (part_text first part t) (begun_on first s.sheet) b.sheet → b.last ≡ after_tokens ((part_kind first part, part_text first part t) ∷ []) s.last → Lays (tokens_of (owns ((part_kind first part, part_text first part t) ∷ []))) s b
unfolding part_begin before_punct is_ending
begun_lays true part t s b p f r h last = lays_settled s b _ r (lays_texts _ _ (settle s) b p f (settled_none s.sheet) (settle_rest s r) h last)
begun_lays false part t s b p f r h last = later_lays s.sheet.semicolons part t s b refl p f r h last

part_lays : (env : Env) (first : Bool) (part : TemplatePart) (span : Span) (t : List ℕ) (h : Inside env (words.placed_inside part.tagged span t) t part.tagged) → Spelled (part_kind first part) (part_text first part t) → (s : State) → AtRest s → Lays (token_of (part_kind first part) (spelling (part_kind first part) (part_text first part t)) ∷ []) s (run (all_steps first part h.steps (part_text first part t)) s)
unfolding owns tokens_of run part_text
part_lays env first part span t h p s r =
    let text : List ℕ = part_text first part t in
    let kind : Kind = part_kind first part in
    let there : State = put (Guard (part_begin first)) s in
    let b : State = run (begin_steps first ++ (h.steps ++ (Ends ((kind, text) ∷ []) (Punct None (part_end part)) ∷ []))) there in
    let before = lays_guard (part_begin first) s r in
    let f = alike_fuses there.last (chars text) (chars (part_begin first)) (part_class first (t ++ part_end part)) (after_guard (part_begin first) s) in
    lays_then [] (token_of kind (spelling kind text) ∷ []) s there b before
    (begun_lays first part t there b (spelled_one kind text p) f before.rest (part_adds first part span t h text there before.rest.flowing) (part_last first part span t h text there))

begin_silent : (first : Bool) → takes_none (begin_steps first) ≡ true
unfolding begin_steps takes_none
begin_silent true = refl
begin_silent false = refl

all_silent : (first : Bool) (part : TemplatePart) (inner : List Step) (text : List ℕ) → takes_none inner ≡ true → takes_none (all_steps first part inner text) ≡ true
unfolding takes_none
all_silent first part inner text h =
    let last : List Step = Ends ((part_kind first part, text) ∷ []) (Punct None (part_end part)) ∷ [] in
    takes_append (begin_steps first) (inner ++ last) ∙ and_from (takes_none (begin_steps first)) (takes_none (inner ++ last)) (begin_silent first)
    (takes_append inner last ∙ and_from (takes_none inner) (takes_none last) h refl)

-- a part by its text
pub writes_part : (env : Env) (first : Bool) (part : TemplatePart) (span : Span) (t : List ℕ) → Spelled (part_kind first part) (part_text first part t) → spelling (part_kind first part) (part_text first part t) ≡ chars (part_text first part t) → (env.config.ascii_only ≡ true → part.tagged ≡ false → is_ascii_text t ≡ true) → Writes env (words.part_by first part span t) (token_of (part_kind first part) (chars (part_text first part t)) ∷ [])
unfolding run put makes_text levels rise
writes_part env first part span t p same a =
    record {
      from = λ maps.
          let v : Env = at_maps maps env in
          let h = placed_inside v part.tagged span t in
          let text : List ℕ = part_text first part t in
          let kind : Kind = part_kind first part in
          let last : List Step = Ends ((kind, text) ∷ []) (Punct None (part_end part)) ∷ [] in
          from_silently v (words.part_by first part span t) (all_steps first part h.steps text) _ (all_silent first part h.steps text h.silent)
          (λ rest. part_is first part span t h rest)
          (λ s r. subst (λ z. Lays (token_of kind z ∷ []) s (run (all_steps first part h.steps text) s)) same (part_lays v first part span t h p s r))
          (λ e. sym (remakes_append (begin_steps first) (h.steps ++ last) ∙ or_from (makes_text (begin_steps first)) (makes_text (h.steps ++ last)) (begin_plain first).0 (remakes_append h.steps last ∙ or_from (makes_text h.steps) false h.remakes refl)) ∙ e)
          (let none = levels_append (begin_steps first) (h.steps ++ last) ∙ ap (λ n. n + levels (h.steps ++ last)) (begin_plain first).1 ∙ ap (λ n. 0 + n) (levels_append h.steps last ∙ ap (λ n. n + levels last) h.level) in omega (arith, none))
          (part_hands v first part span t h p a);
    }

pub part_spelling : (first : Bool) (part : TemplatePart) (t : List ℕ) → spelling (part_kind first part) t ≡ chars t
unfolding part_kind spelling
part_spelling true part t = refl
part_spelling false part t = refl
