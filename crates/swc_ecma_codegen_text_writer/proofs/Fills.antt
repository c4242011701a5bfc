-- Lines that are filled.
use Rattle.std.proofs.Common.{◌≡◌, inl, inr, ℕ, ◌+◌, ◌<◌, ◌≤◌, Bool, true, false, List, [], ◌∷◌, ◌++◌, refl, sym, ◌∙◌, ap, subst, append_assoc, cond, arith, nat_lt, ◌&&◌}
use Rattle.std.proofs.lemmas.Bool.{and_parts, true≢false, false_from_ne_true, cond-false, ltb-true, lt-ltb, cases_lt}
use Rattle.swc_ecma_codegen_text_writer.specs.Places.{Place, after_text}
use Rattle.swc_ecma_codegen_text_writer.specs.Filling.{IsLineEnd, first_units, Part, segments_of, part_text, text_of, IsBounded, IsNeeded, is_due, filled, last_line}
use Rattle.swc_ecma_codegen_text_writer.proofs.Reaching.{after_both}
use Rattle.swc_ecma_codegen_text_writer.proofs.FirstLines.{has_end, first-line_end, first-ended, first-append, first-le, first-empty, column-append}
use Rattle.swc_ecma_codegen_text_writer.proofs.Ahead.{Ahead, IsSound, ahead_line, ahead_refl, text_ahead, text_sound, end_behind, next_after}

pub filled_segments : (max : ℕ) (e : List ℕ) (ss : List (List ℕ)) (p : Place) → segments_of (filled max e p ss) ≡ ss
unfolding segments_of filled
filled_segments max e [] p = refl
filled_segments max e (s ∷ ss) p = ap (λ z. s ∷ z) (filled_segments max e ss _)

-- ---- when a line end is due

pub due_is : (max column units : ℕ) → is_due max column units ≡ true → (0 < column) × ((0 < units) × (max < column + units))
unfolding is_due
due_is m c u h =
    let a = and_parts (nat_lt 0 c) (nat_lt 0 u && nat_lt m (c + u)) h in
    let b = and_parts (nat_lt 0 u) (nat_lt m (c + u)) a.1 in
    (ltb-true 0 c a.0, (ltb-true 0 u b.0, ltb-true m (c + u) b.1))

not_due : (max column units : ℕ) → is_due max column units ≡ false → 0 < column → 0 < units → column + units ≤ max
unfolding is_due
not_due m c u h a b =
    elim (cases_lt m (c + u)) [
      | inl k ↦ absurd (true≢false (sym (ap (λ z. z && (nat_lt 0 u && nat_lt m (c + u))) (lt-ltb 0 c a) ∙ ap (λ z. z && nat_lt m (c + u)) (lt-ltb 0 u b) ∙ lt-ltb m (c + u) k) ∙ h))
      | inr k ↦ k
    ]

-- ---- each line is bounded

abbrev rest_of : ℕ → List ℕ → Bool → List ℕ → List (List ℕ) → Place → List ℕ
rest_of max e b s ss p = text_of e (filled max e (after_text (part_text e b s) p) ss)

line_fits : (max : ℕ) (e : List ℕ) → IsLineEnd e → (ss : List (List ℕ)) (p : Place) → 0 < p.column → 0 < first_units (text_of e (filled max e p ss)) → p.column + first_units (text_of e (filled max e p ss)) ≤ max
unfolding text_of filled part_text
line_fits max e l [] p c = λ u. let k = first-empty in absurd (omega arith)
line_fits max e l (s ∷ ss) p c =
    (elim (is_due max p.column (first_units s)) as (λ b. is_due max p.column (first_units s) ≡ b → 0 < first_units (part_text e b s ++ rest_of max e b s ss p) → p.column + first_units (part_text e b s ++ rest_of max e b s ss p) ≤ max) [
      | true ↦ λ h u.
          let z : first_units ((e ++ s) ++ rest_of max e true s ss p) ≡ 0 = ap first_units (append_assoc e s (rest_of max e true s ss p)) ∙ first-line_end e (s ++ rest_of max e true s ss p) l in
          absurd (omega arith)
      | false ↦ λ h u.
          let rest : List ℕ = rest_of max e false s ss p in
          let n = not_due max p.column (first_units s) h c in
          (elim (has_end s) as (λ b. has_end s ≡ b → p.column + first_units (s ++ rest) ≤ max) [
            | true ↦ λ k. let f = first-ended s rest k in let v : 0 < first_units s = omega arith in let w = n v in omega arith
            | false ↦ λ k.
                let f = first-append s rest k in
                let g : (after_text s p).column ≡ p.column + first_units s = column-append s p k in
                elim (cases_lt 0 (first_units rest)) [
                  | inl v ↦ let w = line_fits max e l ss (after_text s p) (omega arith) v in omega arith
                  | inr v ↦ let x : 0 < first_units s = omega arith in let w = n x in omega arith
                ]
          ]) refl
    ]) refl

text-not_due : (max : ℕ) (e s : List ℕ) (ss : List (List ℕ)) (p : Place) → is_due max p.column (first_units s) ≡ false → text_of e (filled max e p (s ∷ ss)) ≡ s ++ rest_of max e (is_due max p.column (first_units s)) s ss p
unfolding text_of filled part_text
text-not_due max e s ss p h = ap (λ z. z ++ rest_of max e (is_due max p.column (first_units s)) s ss p) (cond-false (is_due max p.column (first_units s)) (e ++ s) s h)

pub filled_bounded : (max : ℕ) (e : List ℕ) → IsLineEnd e → (ss : List (List ℕ)) (p : Place) → IsBounded max e p (filled max e p ss)
unfolding IsBounded filled
filled_bounded max e l [] p = tt
filled_bounded max e l (s ∷ ss) p =
    let b : Bool = is_due max p.column (first_units s) in
    let rest : List ℕ = rest_of max e b s ss p in (
      λ h c u.
          let k : text_of e (filled max e p (s ∷ ss)) ≡ s ++ rest = text-not_due max e s ss p h in
          subst (λ (z : List ℕ). p.column + first_units z ≤ max) k (line_fits max e l (s ∷ ss) p c (subst (λ (z : List ℕ). 0 < first_units z) (sym k) u)),
      filled_bounded max e l ss _,
    )

pub filled_needed : (max : ℕ) (e : List ℕ) (ss : List (List ℕ)) (p : Place) → IsNeeded max e p (filled max e p ss)
unfolding IsNeeded filled
filled_needed max e [] p = tt
filled_needed max e (s ∷ ss) p = (due_is max p.column (first_units s), filled_needed max e ss _)

-- ---- no choice of breaks has fewer line ends

not_after_cr : (p : Place) → IsSound p → 0 < p.column → p.after_cr ≡ false
not_after_cr p s c = false_from_ne_true p.after_cr (λ h. let e = s h in omega arith)

step_ahead : (max : ℕ) (e s : List ℕ) (p q : Place) (b : Bool) → IsLineEnd e → IsSound p → Ahead p q → (b ≡ false → 0 < q.column → 0 < first_units s → q.column + first_units s ≤ max) → Ahead (after_text (part_text e (is_due max p.column (first_units s)) s) p) (after_text (part_text e b s) q)
unfolding part_text
step_ahead max e s p q b l d h f =
    (elim (is_due max p.column (first_units s)) as (λ a. is_due max p.column (first_units s) ≡ a → Ahead (after_text (cond a (e ++ s) s) p) (after_text (cond b (e ++ s) s) q)) [
      | true ↦ λ k. (elim b as (λ c. (c ≡ false → 0 < q.column → 0 < first_units s → q.column + first_units s ≤ max) → Ahead (after_text (e ++ s) p) (after_text (cond c (e ++ s) s) q)) [
        | true ↦ λ g. text_ahead (e ++ s) p q h
        | false ↦ λ g.
            let m = due_is max p.column (first_units s) k in
            subst (λ (x : Place). Ahead x (after_text s q)) (sym (after_both e s p))
            (elim h [
              | inl i ↦ next_after e s p q l (not_after_cr p d m.0) i m.1.0
              | inr i ↦ let v : p.column ≤ q.column = i.1 in let m0 = m.0 in let m1 = m.1.0 in let m2 = m.1.1 in let w = g refl (omega arith) m1 in absurd (omega arith)
            ])
      ]) f
      | false ↦ λ k. elim b as (λ c. Ahead (after_text s p) (after_text (cond c (e ++ s) s) q)) [
        | true ↦ subst (λ (x : Place). Ahead (after_text s p) x) (sym (after_both e s q)) (text_ahead s p (after_text e q) (end_behind e p q l h))
        | false ↦ text_ahead s p q h
      ]
    ]) refl

filled_ahead : (max : ℕ) (e : List ℕ) → IsLineEnd e → (xs : List Part) (p q : Place) → IsSound p → Ahead p q → IsBounded max e q xs → Ahead (after_text (text_of e (filled max e p (segments_of xs))) p) (after_text (text_of e xs) q)
unfolding IsBounded filled segments_of text_of
filled_ahead max e l [] p q d h b = text_ahead [] p q h
filled_ahead max e l (x ∷ xs) p q d h b =
    let s : List ℕ = x.segment in
    let a : Bool = is_due max p.column (first_units s) in
    let p1 : Place = after_text (part_text e a s) p in
    let q1 : Place = after_text (part_text e x.ended s) q in
    let le = first-le s (text_of e xs) in
    let k : Ahead p1 q1 = step_ahead max e s p q x.ended l d h (λ n c u. let w = b.0 n c (omega arith) in omega arith) in
    subst (λ (y : Place). Ahead y (after_text (part_text e x.ended s ++ text_of e xs) q)) (sym (after_both (part_text e a s) (text_of e (filled max e p1 (segments_of xs))) p))
    (subst (λ (y : Place). Ahead (after_text (text_of e (filled max e p1 (segments_of xs))) p1) y) (sym (after_both (part_text e x.ended s) (text_of e xs) q))
    (filled_ahead max e l xs p1 q1 (text_sound (part_text e a s) p d) k b.1))

pub filled_fewest : (max : ℕ) (e : List ℕ) → IsLineEnd e → (p : Place) → IsSound p → (xs : List Part) → IsBounded max e p xs → last_line (text_of e (filled max e p (segments_of xs))) p ≤ last_line (text_of e xs) p
filled_fewest max e l p d xs b = ahead_line _ _ (filled_ahead max e l xs p p d (ahead_refl p) b)
