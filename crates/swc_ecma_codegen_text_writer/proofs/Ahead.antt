-- A place that is no farther than another stays so.
use Rattle.std.proofs.Common.{◌≡◌, ◌⊎◌, inl, inr, ℕ, ◌+◌, ◌<◌, ◌≤◌, Bool, true, false, List, [], ◌∷◌, refl, sym, ◌∙◌, ap, subst, cond, arith, ◌==◌}
use Rattle.std.proofs.lemmas.Bool.{true≢false, cond-false, cases_lt}
use Rattle.swc_ecma_codegen_text_writer.specs.Places.{Place, after_text, after_byte, after_lf, next_line, units_of}
use Rattle.swc_ecma_codegen_text_writer.specs.Characters.{is_line_end}
use Rattle.swc_ecma_codegen_text_writer.specs.Filling.{IsLineEnd, first_units}
use Rattle.swc_ecma_codegen_text_writer.specs.Reach.{further}
use Rattle.swc_ecma_codegen_text_writer.proofs.FirstLines.{byte_further, first-end, first-empty}

-- an earlier line, or the same and no later column
abbrev pub Ahead : Place → Place → Type 0
Ahead p q = (p.line < q.line) ⊎ ((p.line ≡ q.line) × (p.column ≤ q.column) × (q.after_cr ≡ true → p.after_cr ≡ true))

-- right after CR a line has nothing
abbrev pub IsSound : Place → Type 0
IsSound p = p.after_cr ≡ true → p.column ≡ 0

pub ahead_line : (p q : Place) → Ahead p q → p.line ≤ q.line
ahead_line p q (inl h) = omega arith
ahead_line p q (inr h) = let e = h.0 in omega arith

pub ahead_refl : (p : Place) → Ahead p p
ahead_refl p = inr (refl, omega arith, λ e. e)

next_or_more : (m n : ℕ) → m < n → (m + 1 < n) ⊎ (m + 1 ≡ n)
next_or_more m n h = elim (cases_lt (m + 1) n) [ inl k ↦ inl k | inr k ↦ inr (omega arith) ]

-- where the next line begins
next_ahead : (p q : Place) → p.line < q.line → (q.after_cr ≡ true → ⊥) → Ahead (next_line false p) q
next_ahead p q h n = elim (next_or_more p.line q.line h) [ inl k ↦ inl k | inr k ↦ inr (k, omega arith, λ e. absurd (n e)) ]

lf_of : Bool → Place → Place
lf_of b p = cond b (record p { after_cr = false }) (next_line false p)

lf_ahead : (a b : Bool) (p q : Place) → (p.line < q.line) ⊎ ((p.line ≡ q.line) × (p.column ≤ q.column) × (b ≡ true → a ≡ true)) → Ahead (lf_of a p) (lf_of b q)
unfolding lf_of
lf_ahead true true p q (inl h) = inl h
lf_ahead true true p q (inr h) = inr (h.0, h.1, λ e. e)
lf_ahead true false p q (inl h) = inl (omega arith)
lf_ahead true false p q (inr h) = let e = h.0 in inl (omega arith)
lf_ahead false true p q (inl h) = next_ahead p (record q { after_cr = false }) h (λ e. true≢false (sym e))
lf_ahead false true p q (inr h) = absurd (true≢false (sym (h.2 refl)))
lf_ahead false false p q (inl h) = inl (omega arith)
lf_ahead false false p q (inr h) = let e = h.0 in inr (omega arith, omega arith, λ k. k)

cr_ahead : (p q : Place) → Ahead p q → Ahead (next_line true p) (next_line true q)
cr_ahead p q (inl h) = inl (omega arith)
cr_ahead p q (inr h) = let e = h.0 in inr (omega arith, omega arith, λ k. k)

further_ahead : (n : ℕ) (p q : Place) → Ahead p q → Ahead (further n p) (further n q)
further_ahead n p q (inl h) = inl h
further_ahead n p q (inr h) = let e = h.1 in inr (h.0, omega arith, λ k. k)

byte_ahead : (c : ℕ) (p q : Place) → Ahead p q → Ahead (after_byte c p) (after_byte c q)
unfolding after_byte after_lf lf_of
byte_ahead c p q h =
    elim (c == 10) as (λ b. Ahead (cond b (after_lf p) (cond (c == 13) (next_line true p) (further (units_of c) p))) (cond b (after_lf q) (cond (c == 13) (next_line true q) (further (units_of c) q)))) [
      | true ↦ lf_ahead p.after_cr q.after_cr p q h
      | false ↦ elim (c == 13) as (λ b. Ahead (cond b (next_line true p) (further (units_of c) p)) (cond b (next_line true q) (further (units_of c) q)))
          [ true ↦ cr_ahead p q h | false ↦ further_ahead (units_of c) p q h ]
    ]

pub text_ahead : (t : List ℕ) (p q : Place) → Ahead p q → Ahead (after_text t p) (after_text t q)
unfolding after_text
text_ahead [] p q h = h
text_ahead (c ∷ cs) p q h = text_ahead cs _ _ (byte_ahead c p q h)

-- behind a text whose first line isn't empty it doesn't matter what came before
pub level_ahead : (t : List ℕ) (p q : Place) → 0 < first_units t → p.line ≡ q.line → p.column ≤ q.column → Ahead (after_text t p) (after_text t q)
unfolding after_text
level_ahead [] p q n e h = let k = first-empty in absurd (omega arith)
level_ahead (c ∷ cs) p q n e h =
    (elim (is_line_end c) as (λ b. is_line_end c ≡ b → Ahead (after_text cs (after_byte c p)) (after_text cs (after_byte c q))) [
      | true ↦ λ k. let z = first-end c cs k in absurd (omega arith)
      | false ↦ λ k.
          let there : Ahead (further (units_of c) p) (further (units_of c) q) = inr (e, omega arith, λ u. u) in
          text_ahead cs _ _ (subst (λ (x : Place). Ahead x (after_byte c q)) (sym (byte_further c p k)) (subst (λ (x : Place). Ahead (further (units_of c) p) x) (sym (byte_further c q k)) there))
    ]) refl

-- ---- a line end

lf_sound : (b : Bool) (p : Place) → IsSound (lf_of b p)
unfolding lf_of
lf_sound true p = λ e. absurd (true≢false (sym e))
lf_sound false p = λ e. refl

byte_sound : (c : ℕ) (p : Place) → IsSound (after_byte c p)
unfolding after_byte after_lf lf_of
byte_sound c p =
    elim (c == 10) as (λ b. IsSound (cond b (after_lf p) (cond (c == 13) (next_line true p) (further (units_of c) p)))) [
      | true ↦ lf_sound p.after_cr p
      | false ↦ elim (c == 13) as (λ b. IsSound (cond b (next_line true p) (further (units_of c) p))) [ true ↦ λ e. refl | false ↦ λ e. absurd (true≢false (sym e)) ]
    ]

pub text_sound : (t : List ℕ) (p : Place) → IsSound p → IsSound (after_text t p)
unfolding after_text
text_sound [] p h = h
text_sound (c ∷ cs) p h = text_sound cs (after_byte c p) (byte_sound c p)

-- a line end leads no place back
lf_behind : (b : Bool) (p q : Place) → Ahead p q → b ≡ q.after_cr → Ahead p (lf_of b q)
unfolding lf_of
lf_behind true p q (inl h) e = inl h
lf_behind true p q (inr h) e = inr (h.0, h.1, λ u. absurd (true≢false (sym u)))
lf_behind false p q (inl h) e = inl (omega arith)
lf_behind false p q (inr h) e = let k = h.0 in inl (omega arith)

crlf_behind : (p q : Place) → Ahead p q → Ahead p (next_line false q)
crlf_behind p q (inl h) = inl (omega arith)
crlf_behind p q (inr h) = let k = h.0 in inl (omega arith)

pub end_behind : (e : List ℕ) (p q : Place) → IsLineEnd e → Ahead p q → Ahead p (after_text e q)
unfolding after_text after_byte after_lf lf_of
end_behind e p q (inl k) h = subst (λ (z : List ℕ). Ahead p (after_text z q)) (sym k) (lf_behind q.after_cr p q h refl)
end_behind e p q (inr k) h = subst (λ (z : List ℕ). Ahead p (after_text z q)) (sym k) (crlf_behind p q h)

-- where a line has text, a line end begins the next one
pub end_next : (e : List ℕ) (p : Place) → IsLineEnd e → p.after_cr ≡ false → after_text e p ≡ next_line false p
unfolding after_text after_byte after_lf
end_next e p (inl k) h = ap (λ z. after_text z p) k ∙ cond-false p.after_cr (record p { after_cr = false }) (next_line false p) h
end_next e p (inr k) h = ap (λ z. after_text z p) k

pub next_after : (e t : List ℕ) (p q : Place) → IsLineEnd e → p.after_cr ≡ false → p.line < q.line → 0 < first_units t → Ahead (after_text t (after_text e p)) (after_text t q)
next_after e t p q l c h n =
    subst (λ (x : Place). Ahead (after_text t x) (after_text t q)) (sym (end_next e p l c))
    (elim (next_or_more p.line q.line h) [ inl k ↦ text_ahead t (next_line false p) q (inl k) | inr k ↦ level_ahead t (next_line false p) q n k (omega arith) ])
