-- How comments begin: as `/` does.
use Rattle.std.proofs.Common.{◌≡◌, ℕ, List, [], ◌∷◌, codes, sym, ◌∙◌, arith}
use Rattle.std.specs.Str.{chars}
use Rattle.swc_ecma_codegen_literals.specs.declared.punctuators.Punctuator.TheVariants as marks
use Rattle.swc_ecma_codegen_literals.specs.Punctuators.{spelling}
use Rattle.swc_ecma_codegen_tokens.specs.Starts.{start_class}
use Rattle.swc_ecma_codegen_tokens.proofs.Gaps.Starting.{plain_class}

slash : (t u : List ℕ) → start_class (47 ∷ t) ≡ start_class (47 ∷ u)
slash t u = plain_class 47 t (λ e. omega (arith, e)) (λ e. omega (arith, e)) ∙ sym (plain_class 47 u (λ e. omega (arith, e)) (λ e. omega (arith, e)))

pub line_start : start_class (chars (codes "//")) ≡ start_class (spelling marks.Slash)
unfolding chars lib.Utf8.encode
line_start = slash (47 ∷ []) []

pub block_start : start_class (chars (codes "/*")) ≡ start_class (spelling marks.Slash)
unfolding chars lib.Utf8.encode
block_start = slash (42 ∷ []) []
