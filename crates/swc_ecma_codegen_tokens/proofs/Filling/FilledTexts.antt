-- What an emission with a greatest line length writes: ASCII, strings that are safe inside a script, and the comments that it took. What holds
-- without lines holds of the filled text, since line ends are put between segments, and each text that a call hands over goes whole into one.
use Rattle.std.proofs.Common.{◌≡◌, ℕ, true, false, List, [], ◌∷◌, ◌++◌, refl, sym, ap, ◌∙◌, subst, append-nil, Result, Ok, Err, OnOk}
use Rattle.std.proofs.lemmas.Bool.{and_from}
use Rattle.swc_ecma_codegen_common.specs.declared.errors.Refusal.{Refusal}
use Rattle.swc_ecma_codegen_grammar.specs.CommentMaps.{Maps}
use Rattle.swc_ecma_codegen_grammar.specs.Comments.{remarks_of, texts_of}
use Rattle.swc_ecma_codegen_grammar.specs.Phrases.{Phrase, is_possible}
use Rattle.swc_ecma_codegen_text_writer.specs.Sheet.{Sheet, BeginLines, EndLines, Flow, Flowing, Filling, Cutting, fills_lines, closed_by, effect}
use Rattle.swc_ecma_codegen_tokens.specs.Ascii.{is_other, is_other_piece, is_other_end, is_kept_piece, are_ascii_or_kept, text_if, other_texts, may_keep_other, WantsAscii, AddsAscii}
use Rattle.swc_ecma_codegen_tokens.specs.Run.{Env, Part, State, Step, Guard, Token, Plain, Ends, Remake, Take, CommentText, taken_in, taken_by, after_step, spoken, put, run, steps_of, nothing, text_of, Follows}
use Rattle.swc_ecma_codegen_tokens.specs.Scripts.{strings_after, value_strings, AreSafe, AddsSafe}
use Rattle.swc_ecma_codegen_tokens.specs.Targets.{is_out}
use Rattle.swc_ecma_codegen_tokens.specs.Words.{in_lines}
use Rattle.swc_ecma_codegen_tokens.specs.Written.{Spot, taken_remarks}
use Rattle.swc_ecma_codegen_tokens.proofs.Emission.AsciiTexts.{none_other, part_ascii, printed_keeps, steps_ascii}
use Rattle.swc_ecma_codegen_tokens.proofs.Filling.Filled.{filled}
pub use Rattle.swc_ecma_codegen_tokens.proofs.Filling.Filled.{lined_steps, lined_not_out}
use Rattle.swc_ecma_codegen_tokens.proofs.Emission.Fronts.{run_append}
use Rattle.swc_ecma_codegen_tokens.proofs.Emission.PartSteps.{IsSafe}
use Rattle.swc_ecma_codegen_tokens.proofs.Reading.Phrased.{PrintsOn, printed_tells}
use Rattle.swc_ecma_codegen_tokens.proofs.LiteralTokens.ScriptTexts.{steps_strings}
use Rattle.swc_ecma_codegen_tokens.proofs.Filling.Shapes.{Shape}
use Rattle.swc_ecma_codegen_tokens.proofs.Emission.StepAscii.{or_kept_append}
use Rattle.swc_ecma_codegen_tokens.proofs.LiteralTokens.ValueStrings.{strings_append}

-- ---- steps between the begin and the end of lines

-- the same steps, and the end of lines
abbrev closed : List Step → List Step
closed xs = xs ++ (Plain EndLines ∷ [])

pub filled_taken : (max : ℕ) (xs : List Step) (maps : Maps) → taken_in (filled max xs) maps ≡ taken_in xs maps
unfolding taken_in taken_by after_step
filled_taken max [] maps = refl
filled_taken max (x ∷ xs) maps = ap (λ z. taken_by x maps ++ z) (filled_taken max xs (after_step x maps))

closed_spoken : (xs : List Step) → spoken (closed xs) ≡ spoken xs
unfolding spoken
closed_spoken [] = refl
closed_spoken (Guard t ∷ xs) = closed_spoken xs
closed_spoken (Token kind x ∷ xs) = closed_spoken xs
closed_spoken (Plain x ∷ xs) = closed_spoken xs
closed_spoken (Ends tokens x ∷ xs) = closed_spoken xs
closed_spoken (Remake due ∷ xs) = closed_spoken xs
closed_spoken (Take side at ∷ xs) = closed_spoken xs
closed_spoken (CommentText t ∷ xs) = ap (λ z. t ∷ z) (closed_spoken xs)

pub filled_spoken : (max : ℕ) (xs : List Step) → spoken (filled max xs) ≡ spoken xs
unfolding spoken
filled_spoken max xs = closed_spoken xs

-- what is taken is told, where it is without lines
pub filled_told : (max : ℕ) (xs : List Step) (maps : Maps) → spoken xs ≡ texts_of (taken_in xs maps) → spoken (filled max xs) ≡ texts_of (taken_in (filled max xs) maps)
filled_told max xs maps h = filled_spoken max xs ∙ h ∙ ap texts_of (sym (filled_taken max xs maps))

closed_others : (xs : List Step) → other_texts (closed xs) ≡ other_texts xs
unfolding other_texts is_other_piece is_kept_piece
closed_others [] = refl
closed_others (Guard t ∷ xs) = closed_others xs
closed_others (Token kind x ∷ xs) = ap (λ z. text_if (is_other kind x) (text_of x) ++ z) (closed_others xs)
closed_others (Plain x ∷ xs) = ap (λ z. text_if (is_other_piece x) (text_of x) ++ z) (closed_others xs)
closed_others (Ends tokens x ∷ xs) = ap (λ z. text_if (is_other_end tokens x) (text_of x) ++ z) (closed_others xs)
closed_others (Remake due ∷ xs) = closed_others xs
closed_others (Take side at ∷ xs) = closed_others xs
closed_others (CommentText t ∷ xs) = ap (λ z. t ∷ z) (closed_others xs)

pub filled_others : (max : ℕ) (xs : List Step) → other_texts (filled max xs) ≡ other_texts xs
unfolding other_texts is_other_piece is_kept_piece
filled_others max xs = closed_others xs

pub filled_or_kept : (max : ℕ) (xs : List Step) → are_ascii_or_kept xs ≡ true → are_ascii_or_kept (filled max xs) ≡ true
unfolding are_ascii_or_kept text_of
filled_or_kept max xs h = or_kept_append xs (Plain EndLines ∷ []) ∙ and_from (are_ascii_or_kept xs) true h refl

pub filled_strings : (max : ℕ) (xs : List Step) → value_strings (filled max xs) ≡ value_strings xs
unfolding strings_after
filled_strings max xs = strings_append false xs (Plain EndLines ∷ []) ∙ append-nil (value_strings xs)

-- ---- the sheet after them

closes : (l : Flow) (s : Sheet) → s.lines ≡ l → fills_lines (closed_by l s).lines ≡ false
unfolding closed_by
closes Flowing s e = ap fills_lines e
closes (Filling max first held) s e = refl
closes (Cutting done begun) s e = ap fills_lines e

closed_run : (xs : List Step) (a : State) → (run (closed xs) a).sheet ≡ effect EndLines (run xs a).sheet
unfolding run put
closed_run xs a = ap (λ (s : State). s.sheet) (run_append xs (Plain EndLines ∷ []) a)

-- no lines are filled any more
pub filled_closes : (max : ℕ) (xs : List Step) (a : State) → fills_lines (run (filled max xs) a).sheet.lines ≡ false
unfolding run effect
filled_closes max xs a =
    let b : State = put (Plain (BeginLines max)) a in
    ap (λ (s : Sheet). fills_lines s.lines) (closed_run xs b) ∙ closes (run xs b).sheet.lines (run xs b).sheet refl

-- ---- what an emission adds

-- under ASCII only what is added is ASCII, save what stands as it is, and the texts of comments
pub filled_ascii : {v w : Spot} {i : Shape} (max : ℕ) (p : Part) (f : Phrase) (a : State) → WantsAscii a → PrintsOn v w i a.env p f → is_possible f ≡ true → is_out a.env.config f ≡ false →
    AddsAscii (other_texts (filled max (steps_of (p nothing a.env)))) a.sheet.text (run (filled max (steps_of (p nothing a.env))) a).sheet.text
filled_ascii max p f a s prints w o =
    let steps : List Step = steps_of (p nothing a.env) in
    steps_ascii (filled max steps) a s (filled_or_kept max steps (part_ascii prints w o s.by_settings)) (filled_closes max steps a)

-- under `inline_script` each string that is printed by its value is safe
pub filled_safe : {v w : Spot} {i : Shape} (max : ℕ) (p : Part) (f : Phrase) (a : State) → PrintsOn v w i a.env p f → is_possible f ≡ true → is_out a.env.config f ≡ false → a.env.config.inline_script ≡ true → fills_lines a.sheet.lines ≡ false →
    AddsSafe (value_strings (filled max (steps_of (p nothing a.env)))) a.sheet.text (run (filled max (steps_of (p nothing a.env))) a).sheet.text
unfolding IsSafe
filled_safe max p f a prints w o e n =
    let steps : List Step = steps_of (p nothing a.env) in
    let h = steps_strings (filled max steps) a n (filled_closes max steps a) in
    let safe : AreSafe (value_strings steps) = (prints.where_possible w o a.env.maps).safe e false in
    record { added = h.added; is_added = h.is_added; stand = h.stand; safe = subst AreSafe (sym (filled_strings max steps)) safe }

-- ---- an emission that goes by these steps

pub lined_ascii : {v w : Spot} {i : Shape} (max : ℕ) (p : Part) (f : Phrase) (a b : State) (r : Result (Unit {0}) Refusal) → PrintsOn v w i a.env p f → is_possible f ≡ true → WantsAscii a →
    Follows (in_lines max p nothing) a b r → OnOk r (AddsAscii (other_texts (steps_of (in_lines max p nothing a.env))) a.sheet.text b.sheet.text)
unfolding Follows
lined_ascii max p f a b (Ok u) prints w s k =
    let o = lined_not_out max p f a.env prints w k.0 in
    let P : List Step → Type 0 = λ z. AddsAscii (other_texts z) a.sheet.text (run z a).sheet.text in
    let Q : State → Type 0 = λ z. AddsAscii (other_texts (steps_of (in_lines max p nothing a.env))) a.sheet.text z.sheet.text in
    subst Q (sym k.1) (subst P (sym (lined_steps max p f a.env prints w o)) (filled_ascii max p f a s prints w o))
lined_ascii max p f a b (Err e) prints w s k = tt

pub lined_safe : {v w : Spot} {i : Shape} (max : ℕ) (p : Part) (f : Phrase) (a b : State) (r : Result (Unit {0}) Refusal) → PrintsOn v w i a.env p f → is_possible f ≡ true → a.env.config.inline_script ≡ true → fills_lines a.sheet.lines ≡ false →
    Follows (in_lines max p nothing) a b r → OnOk r (AddsSafe (value_strings (steps_of (in_lines max p nothing a.env))) a.sheet.text b.sheet.text)
unfolding Follows
lined_safe max p f a b (Ok u) prints w e n k =
    let o = lined_not_out max p f a.env prints w k.0 in
    let P : List Step → Type 0 = λ z. AddsSafe (value_strings z) a.sheet.text (run z a).sheet.text in
    let Q : State → Type 0 = λ z. AddsSafe (value_strings (steps_of (in_lines max p nothing a.env))) a.sheet.text z.sheet.text in
    subst Q (sym k.1) (subst P (sym (lined_steps max p f a.env prints w o)) (filled_safe max p f a prints w o e n))
lined_safe max p f a b (Err x) prints w e n k = tt

-- the comments that are taken are written, each once and in order of taking
pub lined_tells : {v w : Spot} {i : Shape} (max : ℕ) (p : Part) (f : Phrase) (env : Env) → PrintsOn v w i env p f → is_possible f ≡ true → is_out env.config f ≡ false → spoken (steps_of (in_lines max p nothing env)) ≡ texts_of (taken_in (steps_of (in_lines max p nothing env)) env.maps)
lined_tells max p f env prints w o =
    subst (λ z. spoken z ≡ texts_of (taken_in z env.maps)) (sym (lined_steps max p f env prints w o)) (filled_told max (steps_of (p nothing env)) env.maps (printed_tells p f env prints w o))

-- those that are taken are those that are without lines
pub lined_remarks : {v w : Spot} {i : Shape} (max : ℕ) (p : Part) (f : Phrase) (env : Env) → PrintsOn v w i env p f → is_possible f ≡ true → is_out env.config f ≡ false → taken_remarks (in_lines max p) env ≡ taken_remarks p env
lined_remarks max p f env prints w o = ap (λ z. remarks_of (taken_in z env.maps)) (lined_steps max p f env prints w o) ∙ ap remarks_of (filled_taken max (steps_of (p nothing env)) env.maps)

-- where no text is among the steps that stands as it is and isn't ASCII, the others are the texts of comments
pub lined_others : {v w : Spot} {i : Shape} (max : ℕ) (p : Part) (f : Phrase) (env : Env) → PrintsOn v w i env p f → is_possible f ≡ true → is_out env.config f ≡ false → may_keep_other f ≡ false → other_texts (steps_of (in_lines max p nothing env)) ≡ spoken (steps_of (in_lines max p nothing env))
lined_others max p f env prints w o none =
    let steps : List Step = steps_of (p nothing env) in
    let same : other_texts (filled max steps) ≡ spoken (filled max steps) = filled_others max steps ∙ none_other steps (printed_keeps p f env prints w o none) ∙ sym (filled_spoken max steps) in
    subst (λ z. other_texts z ≡ spoken z) (sym (lined_steps max p f env prints w o)) same
