use Rattle.std.proofs.Common.{◌≡◌, ◌∙◌, suc, ◌-◌, ◌≤◌, Bool, true, false, not, refl, sym, is_some, List, [], ◌∷◌, length, get_or, Option, Some, None, is_none, ap, arith}
use Rattle.swc_ecma_codegen_grammar.specs.ElementPhrases.{last_is_hole}
use Rattle.swc_ecma_codegen_emit.proofs.calls.ends_with_hole.Goals as goal

-- the last of a list is a hole
last_read : {A : Type 0} (xs : List (Option A)) (o : Option A) → 1 ≤ length xs → o ≡ get_or xs (length xs - 1) o → is_none o ≡ last_is_hole xs
unfolding last_is_hole
last_read [] o h e = absurd (omega arith)
last_read (None ∷ []) o h e = ap is_none e
last_read (Some x ∷ []) o h e = ap is_none e
last_read (None ∷ p ∷ xs) o h e =
    let next : length (None ∷ p ∷ xs) - 1 ≡ suc (length (p ∷ xs) - 1) = omega arith in
    last_read (p ∷ xs) o (omega arith) (e ∙ ap (λ i. get_or (None ∷ p ∷ xs) i o) next)
last_read (Some x ∷ p ∷ xs) o h e =
    let next : length (Some x ∷ p ∷ xs) - 1 ≡ suc (length (p ∷ xs) - 1) = omega arith in
    last_read (p ∷ xs) o (omega arith) (e ∙ ap (λ i. get_or (Some x ∷ p ∷ xs) i o) next)

none_there : {A : Type 0} (r : Bool) (o : Option A) → not r ≡ is_some o → r ≡ is_none o
none_there true None e = refl
none_there true (Some x) e = cc
none_there false None e = cc
none_there false (Some x) e = refl

pub returns-in-len1-up : goal.returns-in-len1-up
returns-in-len1-up g c = none_there c.is_none.result c.last-item.result (sym c.is_none.ensures) ∙ last_read c.args.elems.now c.last-item.result c.in-len1-up.len_at_least c.last-item.is
