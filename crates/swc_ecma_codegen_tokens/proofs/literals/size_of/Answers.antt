use Rattle.std.proofs.Common.{◌≡◌, ◌≢◌, ℕ, Bool, true, false, cond, ◌==◌, List, [], ◌∷◌, Some, None, refl, sym, ap, arith}
use Rattle.std.proofs.lemmas.Bool.{eqb-true}
use Rattle.std.proofs.lemmas.Str.Pattern.{strip_prefix_char}
use Rattle.swc_ecma_codegen_tokens.specs.Literals.{size_of}
use Rattle.swc_ecma_codegen_tokens.proofs.literals.size_of.Goals as goal

pub returns-in-Some : goal.returns-in-Some
unfolding size_of
returns-in-Some c = sym (ap size_of (strip_prefix_char 45 c.args.text.now (Some c.in-Some.size) c.in-Some.ensures.cases (omega arith)))

unsigned : (t : List ℕ) → ((rest : List ℕ) → t ≢ 45 ∷ rest) → size_of t ≡ t
unfolding size_of
unsigned [] h = refl
unsigned (c ∷ cs) h =
    let P : Bool → Type 0 = λ b. (c == 45) ≡ b → cond b cs (c ∷ cs) ≡ c ∷ cs in
    (elim (c == 45) as P [ true ↦ λ e. absurd (h cs (ap (λ z. z ∷ cs) (eqb-true c 45 e))) | false ↦ λ e. refl ]) refl

pub returns-in-None : goal.returns-in-None
returns-in-None c = sym (unsigned c.args.text.now (strip_prefix_char 45 c.args.text.now None c.in-None.ensures.cases (omega arith)))
