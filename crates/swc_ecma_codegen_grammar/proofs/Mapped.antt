-- What is there by cases, and lists that are mapped.
use Rattle.std.proofs.Common.{◌≡◌, refl, ◌∙◌, ap, List, [], ◌∷◌, map, codes, Option, Some, None}
use Rattle.swc_ecma_codegen_grammar.specs.Phrases.{Phrase, Closing, ◌>◌, mark}
use Rattle.swc_ecma_codegen_grammar.specs.ElementPhrases.{element, last_is_hole, closing_of}

pub list_mapped : {A B C : Type 0} (g : A → B) (e : B → C) (d : A → C) → ((x : A) → e (g x) ≡ d x) → (xs : List A) → map e (map g xs) ≡ map d xs
list_mapped g e d same [] = refl
list_mapped g e d same (x ∷ xs) = ap (λ y. y ∷ map e (map g xs)) (same x) ∙ ap (λ ys. d x ∷ ys) (list_mapped g e d same xs)

-- what holds of none and of each value holds of whatever is there
pub each_option : {A : Type 0} (P : Option A → Type 0) → P None → ((x : A) → P (Some x)) → (o : Option A) → P o
each_option P none some None = none
each_option P none some (Some x) = some x

pub element_mapped : {A B : Type 0} (g : Option A → Option B) (h : A → B) (e : B → Phrase) (d : A → Phrase) → g None ≡ None → ((x : A) → g (Some x) ≡ Some (h x)) → ((x : A) → e (h x) ≡ d x) → (o : Option A) → element e (g o) ≡ element d o
unfolding element
element_mapped g h e d none some same None = ap (element e) none
element_mapped g h e d none some same (Some x) = ap (element e) (some x) ∙ same x

pub hole_mapped : {A B : Type 0} (g : Option A → Option B) (h : A → B) → g None ≡ None → ((x : A) → g (Some x) ≡ Some (h x)) → (xs : List (Option A)) → last_is_hole (map g xs) ≡ last_is_hole xs
unfolding last_is_hole
hole_mapped g h none some [] = refl
hole_mapped g h none some (None ∷ []) = ap (λ z. last_is_hole (z ∷ [])) none
hole_mapped g h none some (Some x ∷ []) = ap (λ z. last_is_hole (z ∷ [])) (some x)
hole_mapped g h none some (None ∷ p ∷ xs) = ap (λ z. last_is_hole (z ∷ g p ∷ map g xs)) none ∙ hole_mapped g h none some (p ∷ xs)
hole_mapped g h none some (Some x ∷ p ∷ xs) = ap (λ z. last_is_hole (z ∷ g p ∷ map g xs)) (some x) ∙ hole_mapped g h none some (p ∷ xs)

pub closing_mapped : {A B : Type 0} (close : Closing) (g : A → B) (xs : List A) → closing_of close (map g xs) ≡ closing_of close xs
unfolding closing_of
closing_mapped close g [] = refl
closing_mapped close g (x ∷ xs) = refl

-- ---- options: a frame round parts, each of which is the same for whatever its option holds. The laws take the options last,
-- so that each part is shown by the two cases of its own option alone.

pub by_two : {A B : Type 0} {a c : A → Phrase} {b d : B → Phrase} (frame : Phrase → Phrase → Phrase) → ((x : A) → a x ≡ c x) → ((y : B) → b y ≡ d y) → (x : A) (y : B) → frame (a x) (b y) ≡ frame (c x) (d y)
by_two {c = c} {b = b} frame h k x y = ap (λ p. frame p (b y)) (h x) ∙ ap (frame (c x)) (k y)

pub by_three : {A B C : Type 0} {a c : A → Phrase} {b d : B → Phrase} {e u : C → Phrase} (frame : Phrase → Phrase → Phrase → Phrase) → ((x : A) → a x ≡ c x) → ((y : B) → b y ≡ d y) → ((z : C) → e z ≡ u z) → (x : A) (y : B) (z : C) → frame (a x) (b y) (e z) ≡ frame (c x) (d y) (u z)
by_three {c = c} {d = d} {e = e} frame h k l x y z = by_two (λ p q. frame p q (e z)) h k x y ∙ ap (frame (c x) (d y)) (l z)

pub by_four : {A B C D : Type 0} {a c : A → Phrase} {b d : B → Phrase} {e u : C → Phrase} {v w : D → Phrase} (frame : Phrase → Phrase → Phrase → Phrase → Phrase) → ((x : A) → a x ≡ c x) → ((y : B) → b y ≡ d y) → ((z : C) → e z ≡ u z) → ((t : D) → v t ≡ w t) → (x : A) (y : B) (z : C) (t : D) → frame (a x) (b y) (e z) (v t) ≡ frame (c x) (d y) (u z) (w t)
by_four {c = c} {d = d} {u = u} {v = v} frame h k l m x y z t = by_three (λ p q r. frame p q r (v t)) h k l x y z ∙ ap (frame (c x) (d y) (u z)) (m t)

-- the same beside a part that is equal
pub beside_two : {A B : Type 0} {a c : A → Phrase} {b d : B → Phrase} {p q : Phrase} (frame : Phrase → Phrase → Phrase → Phrase) → p ≡ q → ((x : A) → a x ≡ c x) → ((y : B) → b y ≡ d y) → (x : A) (y : B) → frame p (a x) (b y) ≡ frame q (c x) (d y)
beside_two {a = a} {b = b} {q = q} frame same h k x y = ap (λ t. frame t (a x) (b y)) same ∙ by_two (frame q) h k x y

-- `<A>(a): B { c; }`
pub signature_mapped : {A B C : Type 0} {a c : A → Phrase} {p q : Phrase} {r s : B → Phrase} {b d : C → Phrase} → ((x : A) → a x ≡ c x) → p ≡ q → ((y : B) → r y ≡ s y) → ((z : C) → b z ≡ d z) → (x : A) (y : B) (z : C) → (a x > mark (codes "(") > p > mark (codes ")") > r y > b z) ≡ (c x > mark (codes "(") > q > mark (codes ")") > s y > d z)
signature_mapped {a = a} {c = c} {p = p} {q = q} {r = r} {s = s} {b = b} {d = d} params items result body x y z =
    ap (λ t. t > mark (codes "(") > p > mark (codes ")") > r y > b z) (params x)
    ∙ ap (λ t. c x > mark (codes "(") > t > mark (codes ")") > r y > b z) items
    ∙ ap (λ t. c x > mark (codes "(") > q > mark (codes ")") > t > b z) (result y)
    ∙ ap (λ t. c x > mark (codes "(") > q > mark (codes ")") > s y > t) (body z)
