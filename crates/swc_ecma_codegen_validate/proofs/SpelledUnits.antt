-- The units of a string beside those of a value.
use Rattle.std.proofs.Common.{◌≡◌, ℕ, Bool, true, false, List, [], ◌∷◌, ◌++◌, Option, None, Some, refl, ap, ◌∙◌, eq-eqb, ◌&&◌}
use Rattle.swc_ecma_codegen_grammar.specs.declared.units.Place.{Place}
use Rattle.swc_ecma_codegen_grammar.specs.LitPhrases.{are_units}
use Rattle.swc_ecma_codegen_grammar.specs.StringValues.{before, string_rest}
use Rattle.swc_ecma_codegen_grammar.specs.Texts.{is_empty, is_same}

-- one more character
pub turned : (q : ℕ) (place : Place) (t : List ℕ) (c : ℕ) (rest us : List ℕ) (o : Option (List ℕ)) (goes : Bool) → goes ≡ are_units (string_rest q true place t) us → t ≡ c ∷ rest → string_rest q true place (c ∷ rest) ≡ o → goes ≡ are_units o us
turned q place t c rest us o goes g e h = g ∙ ap (λ x. are_units (string_rest q true place x) us) e ∙ ap (λ x. are_units x us) h

same_front : (us vs ws : List ℕ) → is_same (us ++ vs) (us ++ ws) ≡ is_same vs ws
unfolding is_same
same_front [] vs ws = refl
same_front (u ∷ us) vs ws = ap (λ b. b && is_same (us ++ vs) (us ++ ws)) (eq-eqb u u refl) ∙ same_front us vs ws

-- the same units first
pub units_given : (us vs ws : List ℕ) (o : Option (List ℕ)) → vs ≡ us ++ ws → are_units (before us o) vs ≡ are_units o ws
unfolding are_units before
units_given us vs ws None e = refl
units_given us vs ws (Some xs) e = rw e (same_front us xs ws)

-- others first
pub units_differ : (us vs : List ℕ) (o : Option (List ℕ)) → ((xs : List ℕ) → is_same (us ++ xs) vs ≡ false) → are_units (before us o) vs ≡ false
unfolding are_units before
units_differ us vs None h = refl
units_differ us vs (Some xs) h = h xs

pub units_end : (us : List ℕ) → are_units (Some []) us ≡ is_empty us
unfolding are_units is_same is_empty
units_end [] = refl
units_end (u ∷ us) = refl
