use Rattle.std.proofs.Common.{◌≡◌, ◌≢◌, ◌∙◌, ◌^◌, ◌<◌, ap, ℕ, List, [], ◌∷◌, Bool, true, false, cond, ◌&&◌, length, refl, Result, Ok, Err, Option, Some, None, OkIff, arith}
use Rattle.std.proofs.lemmas.Bool.{ltb-true, lt-ltb}
use Rattle.std.specs.List.{slice_index}
use Rattle.std.specs.Result.{result_ok}
use Rattle.std.specs.Str.{all_ascii_digits}
use Rattle.std.specs.Str.Parse.{digits_value}
use Rattle.std.proofs.lemmas.Str.Parse.{IsNumeralModel, numerals_by_value, tells_all_ascii_digits, parse_plain}
use Rattle.swc_ecma_codegen_runs.specs.Words.{length_named}
use Rattle.swc_ecma_codegen_runs.proofs.words.length_named.Goals as goal

own : IsNumeralModel (λ ds. all_ascii_digits ds ≡ true) (digits_value 10)
own = numerals_by_value _ tells_all_ascii_digits

-- a text that doesn't begin with a plus has none at 0
no_plus : (bs : List ℕ) → ((rest : List ℕ) → bs ≡ 43 ∷ rest → ⊥) → slice_index bs 0 ≢ 43
no_plus [] h = λ e. omega (arith, e)
no_plus (c ∷ cs) h = λ e. h cs (ap (λ d. d ∷ cs) e)

none : (a b c : Bool) (n : ℕ) → (a ≡ true → b ≡ true → c ≡ true → ⊥) → ◌≡◌ {A = Option ℕ} None (cond (a && (b && c)) (Some n) None)
none true true true n h = absurd (h refl refl refl)
none true true false n h = refl
none true false c n h = refl
none false b c n h = refl

some : (a b c : Bool) (n : ℕ) → a ≡ true → b ≡ true → c ≡ true → ◌≡◌ {A = Option ℕ} (Some n) (cond (a && (b && c)) (Some n) None)
some a b c n d e f = rw (d, e, f) refl

-- `parse` answers a number where the text is digits, and none else
named : {E : Type 0} (bs : List ℕ) (r : Result ℕ E) → OkIff r ((all_ascii_digits bs ≡ true) × (0 < length bs) × (digits_value 10 bs < 2 ^ 32)) (digits_value 10 bs) → result_ok r ≡ length_named bs
named bs (Ok n) h = ap Some h.1 ∙ some _ _ _ _ (lt-ltb _ _ h.0.1) h.0.0 (lt-ltb _ _ h.0.2)
named bs (Err e) h = none _ _ _ _ (λ a b c. h (b, ltb-true _ _ a, ltb-true _ _ c))

pub returns : goal.returns
unfolding lib.Utf8.encode
returns c = c.ok.ensures.value ∙ named c.args.word.now c.parse.result (parse_plain own 32 c.args.word.now _ c.parse.ensures.value.0 (no_plus c.args.word.now c.if-starts_with.ensures.cases))
