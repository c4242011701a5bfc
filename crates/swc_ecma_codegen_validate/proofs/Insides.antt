-- What stands inside of a part of a template.
use Rattle.std.proofs.Common.{◌≡◌, ℕ, ◌+◌, ◌-◌, Bool, true, false, cond, not, ◌&&◌, ◌||◌, ◌==◌, List, [], ◌∷◌, ◌++◌, length, take, codes, Option, Some, None, refl, ap, ◌∙◌, arith}
use Rattle.std.specs.Option.{is_some}
use Rattle.std.proofs.Math.Seq.{take-append_seam}
use Rattle.std.proofs.lemmas.List.{length-append}
use Rattle.swc_ecma_codegen_grammar.specs.StringValues.{before}
use Rattle.swc_ecma_codegen_grammar.specs.Templates.{ends_template, part_end, before_end, goes_on_as}
use Rattle.swc_ecma_codegen_grammar.specs.TemplateValues.{cooked_rest, cooked_value}
use Rattle.swc_ecma_codegen_grammar.specs.Texts.{begins, is_empty, is_same}
use Rattle.swc_ecma_codegen_grammar.specs.declared.kinds.TemplatePart.{TemplatePart}
use Rattle.swc_ecma_codegen_grammar.specs.declared.units.Place.{Place}
use Rattle.swc_ecma_codegen_validate.specs.TemplateStates.{inside}

-- ---- units

-- more units before a value leave it
pub some_before : (us : List ℕ) (o : Option (List ℕ)) → is_some (before us o) ≡ is_some o
unfolding before
some_before us None = refl
some_before us (Some vs) = refl

-- a character more
pub cooks_on : (rest more : List ℕ) (place : Place) (c : ℕ) (o : Option (List ℕ)) (b : Bool) → b ≡ is_some (cooked_rest place rest) → rest ≡ c ∷ more → cooked_rest place (c ∷ more) ≡ o → b ≡ is_some o
cooks_on rest more place c o b g e h = g ∙ ap (λ z. is_some (cooked_rest place z)) e ∙ ap is_some h

-- ---- the end of a part

abbrev end : Bool → List ℕ
end o = cond o (codes "${") (codes "`")

and_false : (b : Bool) → (b && false) ≡ false
and_false true = refl
and_false false = refl

none_empty : (o : Bool) (cs : List ℕ) → is_empty (cs ++ end o) ≡ false
unfolding is_empty
none_empty true [] = refl
none_empty false [] = refl
none_empty o (c ∷ cs) = refl

none_brace : (o : Bool) (cs : List ℕ) → is_same (cs ++ end o) (123 ∷ []) ≡ false
unfolding is_same
none_brace true [] = refl
none_brace false [] = refl
none_brace true (c ∷ []) = and_false (c == 123)
none_brace false (c ∷ []) = and_false (c == 123)
none_brace o (c ∷ d ∷ cs) = and_false (c == 123)

same_begin : (o : Bool) (cs : List ℕ) → begins (123 ∷ []) (cs ++ end o) ≡ begins (123 ∷ []) cs
unfolding begins
same_begin true [] = refl
same_begin false [] = refl
same_begin o (c ∷ cs) = refl

-- what is there ends where its part does
pub inside_is : (o escaped : Bool) (cs : List ℕ) → ends_template o escaped (cs ++ end o) ≡ inside escaped cs
unfolding ends_template inside begins is_empty is_same
inside_is true true [] = refl
inside_is false true [] = refl
inside_is true false [] = refl
inside_is false false [] = refl
inside_is o true (c ∷ cs) = inside_is o false cs
inside_is o false (c ∷ cs) =
    ap (λ b. cond (c == 96) (not o && b) (cond ((c == 36) && begins (123 ∷ []) (cs ++ end o)) (o && is_same (cs ++ end o) (123 ∷ [])) (ends_template o (c == 92) (cs ++ end o)))) (none_empty o cs)
    ∙ ap (λ b. cond (c == 96) b (cond ((c == 36) && begins (123 ∷ []) (cs ++ end o)) (o && is_same (cs ++ end o) (123 ∷ [])) (ends_template o (c == 92) (cs ++ end o)))) (and_false (not o))
    ∙ ap (λ b. cond (c == 96) false (cond ((c == 36) && b) (o && is_same (cs ++ end o) (123 ∷ [])) (ends_template o (c == 92) (cs ++ end o)))) (same_begin o cs)
    ∙ ap (λ b. cond (c == 96) false (cond ((c == 36) && begins (123 ∷ []) cs) (o && b) (ends_template o (c == 92) (cs ++ end o)))) (none_brace o cs)
    ∙ ap (λ b. cond (c == 96) false (cond ((c == 36) && begins (123 ∷ []) cs) b (ends_template o (c == 92) (cs ++ end o)))) (and_false o)
    ∙ ap (λ b. cond (c == 96) false (cond ((c == 36) && begins (123 ∷ []) cs) false b)) (inside_is o (c == 92) cs)

before_is : (part : TemplatePart) (cs : List ℕ) → before_end part (cs ++ part_end part) ≡ cs
unfolding before_end
before_is part cs =
    let l : length (cs ++ part_end part) ≡ length cs + length (part_end part) = length-append cs (part_end part) in
    let e : length (cs ++ part_end part) - length (part_end part) ≡ length cs = omega (arith, l) in
    ap (λ n. take n (cs ++ part_end part)) e ∙ take-append_seam cs (part_end part)

ends_is : (part : TemplatePart) (cs : List ℕ) → ends_template part.opens false (cs ++ part_end part) ≡ inside false cs
unfolding part_end
ends_is part cs = inside_is part.opens false cs

pub goes_is : (part : TemplatePart) (cs : List ℕ) → goes_on_as part (cs ++ part_end part) ≡ (inside false cs && (part.tagged || is_some (cooked_value cs)))
unfolding goes_on_as
goes_is part cs =
    ap (λ b. b && (part.tagged || is_some (cooked_value (before_end part (cs ++ part_end part))))) (ends_is part cs)
    ∙ ap (λ z. inside false cs && (part.tagged || is_some (cooked_value z))) (before_is part cs)
