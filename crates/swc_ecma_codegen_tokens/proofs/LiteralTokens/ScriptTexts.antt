-- Where the strings that an emission prints by their value stand in a text, and that they are safe inside a script.
use Rattle.std.proofs.Common.{◌≡◌, ℕ, Bool, true, false, cond, ◌&&◌, List, [], ◌∷◌, ◌++◌, sym, ap, ◌∙◌, subst, append_assoc, append-nil, inl, inr, Result, Ok, Err, OnOk}
use Rattle.std.proofs.lemmas.Bool.{and_parts, cases_Bool, true≢false}
use Rattle.swc_ecma_codegen_common.specs.declared.errors.Refusal.{Refusal}
use Rattle.swc_ecma_codegen_grammar.specs.declared.kinds.Kind.{Kind}
use Rattle.swc_ecma_codegen_grammar.specs.Phrases.{Phrase, is_possible}
use Rattle.swc_ecma_codegen_tokens.proofs.Emission.AsciiTexts.{part_fills}
use Rattle.swc_ecma_codegen_tokens.proofs.Filling.HeldTexts.{Stands, AddsTexts, Goes, call_goes, call_still, guard_goes, goes_first, goes_last}
use Rattle.swc_ecma_codegen_text_writer.specs.Sheet.{Item, Comment, Sheet, effect, fills_lines}
use Rattle.swc_ecma_codegen_tokens.specs.Run.{Part, State, Step, Guard, Token, Plain, Ends, Remake, Take, CommentText, put, run, steps_of, nothing, text_of, Follows}
use Rattle.swc_ecma_codegen_tokens.specs.Scripts.{is_string_call, string_by_value, strings_after, value_strings, AreSafe, StandIn, AddsSafe}
use Rattle.swc_ecma_codegen_tokens.specs.Targets.{is_out}
use Rattle.swc_ecma_codegen_tokens.specs.Written.{Spot}
use Rattle.swc_ecma_codegen_tokens.proofs.Emission.PartSteps.{IsSafe}
use Rattle.swc_ecma_codegen_tokens.proofs.Reading.Phrased.{made_not_out, PrintsOn}
use Rattle.swc_ecma_codegen_tokens.proofs.Filling.Shapes.{Shape}

-- ---- strings that stand in a text

abbrev HasTexts : List (List ℕ) → List ℕ → Type 0
HasTexts ts t = StandIn t ts

texts_later : (us : List (List ℕ)) (t u : List ℕ) → StandIn u us → StandIn (t ++ u) us
unfolding StandIn
texts_later [] t u h = tt
texts_later (c ∷ cs) t u h = (t ++ h.0, h.1, ap (λ z. t ++ z) h.2 ∙ sym (append_assoc t h.0 (c ++ h.1)), h.3)

texts_both : (ts us : List (List ℕ)) (t u : List ℕ) → StandIn t ts → StandIn u us → StandIn (t ++ u) (ts ++ us)
unfolding StandIn
texts_both [] us t u h k = texts_later us t u k
texts_both (c ∷ cs) us t u h k = (h.0, h.1 ++ u, ap (λ z. z ++ u) h.2 ∙ append_assoc h.0 (c ++ h.1) u ∙ ap (λ z. h.0 ++ z) (append_assoc c h.1 u), texts_both cs us h.1 u h.3 k)

text_itself : (t : List ℕ) → StandIn t (t ∷ [])
unfolding StandIn
text_itself t = ([], [], sym (append-nil t), tt)

texts_stand : Stands HasTexts
unfolding StandIn
texts_stand = record { nothing = tt; both = texts_both; blank = tt; semicolon = tt }

string_call : {ts : List (List ℕ)} {old : List ℕ} (anew : Bool) (kind : Kind) (x : Item) (s : Sheet) → Goes HasTexts ts old s → Goes HasTexts (ts ++ string_by_value anew kind x) old (effect x s)
unfolding string_by_value is_string_call StandIn
string_call {ts} {old} anew kind x s g =
    let P : Bool → Type 0 = λ z. Goes HasTexts (ts ++ cond z (text_of x ∷ []) []) old (effect x s) in
    elim (cases_Bool (anew && is_string_call kind x)) [
      | inl h ↦ subst P (sym h) (call_goes texts_stand x s (text_itself (text_of x)) (λ span q. absurd (true≢false (sym (and_parts anew (is_string_call kind x) h).1 ∙ ap (is_string_call kind) q))) g)
      | inr h ↦ subst P (sym h) (call_goes texts_stand x s tt (λ span q. tt) g)
    ]

run_strings : {ts : List (List ℕ)} {old : List ℕ} (anew : Bool) (xs : List Step) (a : State) → Goes HasTexts ts old a.sheet → Goes HasTexts (ts ++ strings_after anew xs) old (run xs a).sheet
unfolding run put strings_after StandIn
run_strings {ts} {old} anew [] a g = subst (λ z. Goes HasTexts z old a.sheet) (sym (append-nil ts)) g
run_strings anew (Guard t ∷ xs) a g = run_strings anew xs (put (Guard t) a) (guard_goes texts_stand t a g)
run_strings {ts} {old} anew (Token kind x ∷ xs) a g =
    let here : List (List ℕ) = string_by_value anew kind x in
    let k : Goes HasTexts ((ts ++ here) ++ strings_after anew xs) old (run xs (put (Token kind x) a)).sheet = run_strings {ts = ts ++ here} anew xs (put (Token kind x) a) (string_call anew kind x a.sheet g) in
    subst (λ z. Goes HasTexts z old (run xs (put (Token kind x) a)).sheet) (append_assoc ts here (strings_after anew xs)) k
run_strings anew (Plain x ∷ xs) a g = run_strings anew xs (put (Plain x) a) (call_still texts_stand x a.sheet tt g)
run_strings anew (Ends tokens x ∷ xs) a g = run_strings anew xs (put (Ends tokens x) a) (call_still texts_stand x a.sheet tt g)
run_strings anew (Remake due ∷ xs) a g = run_strings due xs (put (Remake due) a) g
run_strings anew (Take side at ∷ xs) a g = run_strings anew xs (put (Take side at) a) g
run_strings anew (CommentText t ∷ xs) a g = run_strings anew xs (put (CommentText t) a) (call_still texts_stand (Comment t) a.sheet tt g)

-- The strings that steps print by their value stand in what they add, also where lines begin and end among them.
pub steps_strings : (xs : List Step) (a : State) → fills_lines a.sheet.lines ≡ false → fills_lines (run xs a).sheet.lines ≡ false → AddsTexts HasTexts (value_strings xs) a.sheet.text (run xs a).sheet.text
unfolding StandIn
steps_strings xs a n m = goes_last texts_stand (run xs a).sheet m (run_strings false xs a (goes_first texts_stand a.sheet tt tt n))

-- ---- what an emission adds

part_safe : {v w : Spot} {i : Shape} {p : Part} {f : Phrase} (a : State) → PrintsOn v w i a.env p f → is_possible f ≡ true → is_out a.env.config f ≡ false → a.env.config.inline_script ≡ true → AreSafe (value_strings (steps_of (p nothing a.env)))
unfolding IsSafe
part_safe a prints w o e = (prints.where_possible w o a.env.maps).safe e false

-- under `inline_script` each string that is printed by its value is safe
pub printed_safe : {v w : Spot} {i : Shape} (p : Part) (f : Phrase) (a b : State) (r : Result (Unit {0}) Refusal) → PrintsOn v w i a.env p f → is_possible f ≡ true → a.env.config.inline_script ≡ true → fills_lines a.sheet.lines ≡ false → Follows (p nothing) a b r → OnOk r (AddsSafe (value_strings (steps_of (p nothing a.env))) a.sheet.text b.sheet.text)
unfolding Follows
printed_safe p f a b (Ok u) prints w e n k =
    let xs : List Step = steps_of (p nothing a.env) in
    let o = made_not_out p f a.env prints w k.0 in
    let h = steps_strings xs a n (part_fills a prints w o ∙ n) in
    let P : State → Type 0 = λ z. AddsSafe (value_strings xs) a.sheet.text z.sheet.text in
    subst P (sym k.1) (record { added = h.added; is_added = h.is_added; stand = h.stand; safe = part_safe a prints w o e })
printed_safe p f a b (Err x) prints w e n k = tt
