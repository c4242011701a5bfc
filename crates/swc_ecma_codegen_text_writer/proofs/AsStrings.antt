-- Calls that write a text, as what `write_str` does where no semicolon is held back.
use Rattle.std.proofs.Common.{◌≡◌, inl, inr, Bool, true, false, cond, List, ℕ, refl, sym, ◌∙◌, ap, subst, codes, Option, Some, None, Result, Ok, Err}
use Rattle.std.proofs.lemmas.Bool.{false≢true}
use Rattle.swc_ecma_codegen_common.specs.declared.errors.Refusal.{Refusal}
use Rattle.swc_ecma_codegen_common.specs.declared.errors.Refusal.TheVariants.{Writer, OutOfMemory, UnsupportedNode, BadShape, NameOutOfTarget, PositionTooLarge, Failed}
use Rattle.swc_ecma_codegen_common.specs.declared.positions.Span.{Span}
use Rattle.swc_ecma_codegen_text_writer.specs.Sheet.{Sheet, Item, Semi, Space, Keyword, Operator, Str, Symbol, Punct, Commit, Deeper, Semicolons, AtOnce, HoldsNone, HoldsOne, holds_semicolons, is_settled, settled, settled_by, dropped, is_ending, semicolon_by, before_punct, written, effect, Causes, Stopped, Refuses, earlier, stopped, Writes}
use Rattle.swc_ecma_codegen_text_writer.proofs.Steps.{written_nowhere}

causes_as : (t : List ℕ) (x : Item) (e : Refusal) (a b : Sheet) → Causes (Str t) e a b → Causes x e a b
unfolding Causes
causes_as t x Writer a b h = h
causes_as t x OutOfMemory a b h = h
causes_as t x UnsupportedNode a b h = h
causes_as t x BadShape a b h = h
causes_as t x NameOutOfTarget a b h = h
causes_as t x PositionTooLarge a b (inl h) = absurd (let z : Str t ≡ Deeper = h.0 in cc)
causes_as t x PositionTooLarge a b (inr h) = inr h
causes_as t x Failed a b h = h

-- a call that has the same effect
writes_as : (t : List ℕ) (x : Item) (a b : Sheet) (r : Result (Unit {0}) Refusal) → (a.refused ≡ false → effect (Str t) a ≡ effect x a) → Writes (Str t) a b r → Writes x a b r
unfolding Writes
writes_as t x a b (Ok u) e h = (h.0, h.1 ∙ e h.0)
writes_as t x a b (Err f) e (earlier i j k) = earlier i j k
writes_as t x a b (Err f) e (stopped i j k) = stopped i (causes_as t x f a b j) (subst (λ (z : Sheet). Stopped f z a b) (e i) k)

settled_as : (q : Semicolons) (s : Sheet) → is_settled q ≡ true → settled_by q s ≡ s
unfolding settled_by
settled_as AtOnce s h = refl
settled_as HoldsNone s h = refl
settled_as (HoldsOne span allowed) s h = absurd (false≢true h)

-- nothing comes of a call that writes a semicolon that is held back
pub commit_is : (s : Sheet) → is_settled s.semicolons ≡ true → s ≡ effect Commit s
unfolding effect
commit_is s h = sym (settled_as s.semicolons s h)

dropped_as : (q : Semicolons) → is_settled q ≡ true → dropped q ≡ q
unfolding dropped
dropped_as AtOnce h = refl
dropped_as HoldsNone h = refl
dropped_as (HoldsOne span allowed) h = absurd (false≢true h)

punct_case : (b : Bool) (s : Sheet) → is_settled s.semicolons ≡ true → settled s ≡ cond b (record s { semicolons = dropped s.semicolons }) (settled s)
punct_case true s h = settled_as s.semicolons s h ∙ ap (λ q. record s { semicolons = q }) (sym (dropped_as s.semicolons h))
punct_case false s h = refl

semi_case : (q : Semicolons) (s : Sheet) → holds_semicolons q ≡ false → written None (codes ";") (settled_by q s) ≡ semicolon_by q None s
unfolding settled_by semicolon_by
semi_case AtOnce s h = refl
semi_case HoldsNone s h = absurd (false≢true (sym h))
semi_case (HoldsOne span allowed) s h = absurd (false≢true (sym h))

pub space_as : (a b : Sheet) (r : Result (Unit {0}) Refusal) → Writes (Str (codes " ")) a b r → Writes Space a b r
unfolding effect
space_as a b r h = writes_as (codes " ") Space a b r (λ f. refl) h

pub keyword_as : (t : List ℕ) (a b : Sheet) (r : Result (Unit {0}) Refusal) → Writes (Str t) a b r → Writes (Keyword None t) a b r
unfolding effect
keyword_as t a b r h = writes_as t (Keyword None t) a b r (λ f. refl) h

pub operator_as : (t : List ℕ) (a b : Sheet) (r : Result (Unit {0}) Refusal) → Writes (Str t) a b r → Writes (Operator None t) a b r
unfolding effect
operator_as t a b r h = writes_as t (Operator None t) a b r (λ f. refl) h

-- a name whose span stands nowhere
pub symbol_as : (span : Span) (t : List ℕ) (a b : Sheet) (r : Result (Unit {0}) Refusal) → span.lo.0 ≡ 0 → span.hi.0 ≡ 0 → Writes (Str t) a b r → Writes (Symbol span t) a b r
unfolding effect
symbol_as span t a b r l m h = writes_as t (Symbol span t) a b r (λ f. sym (written_nowhere span t (settled a) l m)) h

pub punct_as : (t : List ℕ) (a b : Sheet) (r : Result (Unit {0}) Refusal) → (a.refused ≡ false → is_settled a.semicolons ≡ true) → Writes (Str t) a b r → Writes (Punct None t) a b r
unfolding effect before_punct
punct_as t a b r q h = writes_as t (Punct None t) a b r (λ f. ap (written None t) (punct_case (is_ending t) a (q f))) h

pub semi_as : (a b : Sheet) (r : Result (Unit {0}) Refusal) → holds_semicolons a.semicolons ≡ false → Writes (Str (codes ";")) a b r → Writes (Semi None) a b r
unfolding effect
semi_as a b r q h = writes_as (codes ";") (Semi None) a b r (λ f. semi_case a.semicolons a q) h
