-- What goes out of segments, one more at a time.
use Rattle.std.proofs.Common.{◌≡◌, ℕ, Bool, true, false, List, [], ◌∷◌, ◌++◌, refl, sym, ◌∙◌, ap, append_assoc, append-nil, cond}
use Rattle.swc_ecma_codegen_text_writer.specs.Places.{Place, after_text}
use Rattle.swc_ecma_codegen_text_writer.specs.Filling.{first_units, is_due, part_text, text_of, joined, filled}
use Rattle.swc_ecma_codegen_text_writer.proofs.Reaching.{after_both}

-- a line end is due before a segment, behind a text that begins at a place
last_text : ℕ → List ℕ → Place → List ℕ → List ℕ → List ℕ
last_text max e p t c = part_text e (is_due max (after_text t p).column (first_units c)) c

last_both : (max : ℕ) (e : List ℕ) (p : Place) (t u c : List ℕ) → last_text max e (after_text t p) u c ≡ last_text max e p (t ++ u) c
unfolding last_text
last_both max e p t u c = ap (λ (q : Place). part_text e (is_due max q.column (first_units c)) c) (sym (after_both t u p))

filled-more : (max : ℕ) (e : List ℕ) (xs : List (List ℕ)) (c : List ℕ) (p : Place) → text_of e (filled max e p (xs ++ (c ∷ []))) ≡ text_of e (filled max e p xs) ++ last_text max e p (text_of e (filled max e p xs)) c
unfolding text_of filled last_text after_text
filled-more max e [] c p = append-nil (part_text e (is_due max p.column (first_units c)) c)
filled-more max e (x ∷ xs) c p =
    let t : List ℕ = part_text e (is_due max p.column (first_units x)) x in
    let u : List ℕ = text_of e (filled max e (after_text t p) xs) in
    ap (λ z. t ++ z) (filled-more max e xs c (after_text t p)) ∙ (ap (λ z. t ++ (u ++ z)) (last_both max e p t u c) ∙ sym (append_assoc t u (last_text max e p (t ++ u) c)))

abbrev pub is_none_done : List (List ℕ) → Bool
is_none_done [] = true
is_none_done (c ∷ cs) = false

-- what goes out of segments, the first of which is the first of all
unfoldable pub laid : ℕ → List ℕ → Place → List (List ℕ) → List ℕ
laid max e p [] = []
laid max e p (c ∷ cs) = c ++ text_of e (filled max e (after_text c p) cs)

pub laid-more : (max : ℕ) (e : List ℕ) (p : Place) (d : List (List ℕ)) (c : List ℕ) → laid max e p (d ++ (c ∷ [])) ≡ laid max e p d ++ part_text e (cond (is_none_done d) false (is_due max (after_text (laid max e p d) p).column (first_units c))) c
unfolding laid part_text text_of filled last_text
laid-more max e p [] c = append-nil c
laid-more max e p (x ∷ xs) c =
    let q : Place = after_text x p in
    let u : List ℕ = text_of e (filled max e q xs) in
    ap (λ z. x ++ z) (filled-more max e xs c q) ∙ (ap (λ z. x ++ (u ++ z)) (last_both max e p x u c) ∙ sym (append_assoc x u (last_text max e p (x ++ u) c)))

pub some_done : (d : List (List ℕ)) (c : List ℕ) → false ≡ is_none_done (d ++ (c ∷ []))
some_done [] c = refl
some_done (x ∷ xs) c = refl

pub joined-more : (d : List (List ℕ)) (c : List ℕ) → joined (d ++ (c ∷ [])) ≡ joined d ++ c
unfolding joined
joined-more [] c = append-nil c
joined-more (x ∷ xs) c = ap (λ z. x ++ z) (joined-more xs c) ∙ sym (append_assoc x (joined xs) c)

pub some_first : (d : List (List ℕ)) (c : List ℕ) → (x : List ℕ) × (xs : List (List ℕ)) × (d ++ (c ∷ []) ≡ x ∷ xs)
some_first [] c = (c, [], refl)
some_first (x ∷ xs) c = (x, xs ++ (c ∷ []), refl)

pub laid-first : (max : ℕ) (e : List ℕ) (p : Place) (c : List ℕ) (cs : List (List ℕ)) → laid max e p (c ∷ cs) ≡ c ++ text_of e (filled max e (after_text c p) cs)
unfolding laid
laid-first max e p c cs = refl

pub joined-first : (c : List ℕ) (cs : List (List ℕ)) → joined (c ∷ cs) ≡ c ++ joined cs
unfolding joined
joined-first c cs = refl
