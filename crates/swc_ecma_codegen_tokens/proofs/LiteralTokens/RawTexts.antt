-- Tests of raws.
use Rattle.std.proofs.Common.{◌≡◌, ℕ, ◌<◌, Bool, true, false, List, sym, ap, ◌∙◌, arith, slice_index, MatchBool}
use Rattle.std.specs.Str.{IsAscii, IsNotAscii}
use Rattle.std.proofs.lemmas.Bool.{false_from_ne_true}
use Rattle.swc_ecma_codegen_literals.specs.AsciiNames.{is_ascii_text}
use Rattle.swc_ecma_codegen_literals.proofs.NameTexts.{ascii_chars}
use Rattle.swc_ecma_codegen_literals.proofs.SpelledTexts.{ascii_from_all}

-- a text is ASCII, by its bytes
pub ascii_is : (b : Bool) (t : List ℕ) → MatchBool b (IsAscii t) (IsNotAscii t) → b ≡ is_ascii_text t
ascii_is true t h = let p = ascii_chars t h in sym (ap is_ascii_text (sym p.0) ∙ p.1)
ascii_is false t n = sym (false_from_ne_true (is_ascii_text t) (λ a. let l : slice_index t n.0 < 128 = ascii_from_all t a n.0 in omega (arith, l, n.1)))
