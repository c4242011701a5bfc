-- Texts that are written as one, and where that is stopped. No positions are kept, and no semicolon is held back.
use Rattle.std.proofs.Common.{◌≡◌, ◌≤◌, inl, inr, ℕ, Bool, true, false, cond, ◌||◌, List, [], ◌∷◌, ◌++◌, length, length-append, Option, Some, None, refl, sym, ◌∙◌, ap, subst, append_assoc, append-nil, ◌==◌, not, ◌&&◌, arith}
use Rattle.std.specs.List.{repeat}
use Rattle.std.proofs.lemmas.Bool.{false≢true, true≢false, leb-true, leb-false, le-leb}
use Rattle.std.proofs.lemmas.List.{append_cancel_left}
use Rattle.swc_ecma_codegen_common.specs.declared.errors.Refusal.{Refusal}
use Rattle.swc_ecma_codegen_common.specs.declared.errors.Refusal.TheVariants.{Writer, OutOfMemory, UnsupportedNode, BadShape, NameOutOfTarget, PositionTooLarge, Failed}
use Rattle.swc_ecma_codegen_common.specs.declared.positions.BytePos.{BytePos}
use Rattle.swc_ecma_codegen_text_writer.specs.Contents.{IsPrefix, Rises}
use Rattle.swc_ecma_codegen_text_writer.specs.Places.{after_text}
use Rattle.swc_ecma_codegen_text_writer.specs.Sheet.{Sheet, Item, Pair, Str, Space, Operator, Punct, Deeper, Semicolons, AtOnce, HoldsNone, HoldsOne, is_settled, Flow, Flowing, Filling, Cutting, Segment, with_text, fills_lines, may_take_memory, released, appended, appended_by, indented, recorded, recorded_by, start_recorded, end_recorded, pending_recorded, started, written, settled, dropped, is_ending, before_punct, effect, Causes, for_text, Stopped, Refuses, earlier, stopped}
use Rattle.swc_ecma_codegen_text_writer.proofs.AsStrings.{commit_is}
use Rattle.swc_ecma_codegen_text_writer.proofs.Flows.{appended_leaves}
use Rattle.swc_ecma_codegen_text_writer.proofs.Reaching.{after_both}
use Rattle.swc_ecma_codegen_text_writer.proofs.Sheets.{written_alike, written_same}
use Rattle.swc_ecma_codegen_text_writer.proofs.Stays.{written_stays, written_indentation}
use Rattle.swc_ecma_codegen_tokens.specs.Between.{is_within}
use Rattle.swc_ecma_codegen_tokens.proofs.Emission.PendingSemi.{in_line, written_semicolons}

-- ---- one text after another

released_twice : (t u : List ℕ) (s : Sheet) → released u (released t s) ≡ released (t ++ u) s
unfolding released
released_twice t u s = λ i. record s { text = append_assoc s.text t u i; place = sym (after_both t u s.place) i }

text_twice : (t u : List ℕ) (g : Segment) → with_text u (with_text t g) ≡ with_text (t ++ u) g
text_twice t u g = ap (λ z. record { noted = g.noted; rest = z }) (append_assoc g.rest t u)

twice_by : (l : Flow) (t u : List ℕ) (s : Sheet) → l ≡ s.lines → appended u (appended_by l t s) ≡ appended_by l (t ++ u) s
unfolding appended appended_by released
twice_by Flowing t u s h = ap (λ l. appended_by l u (released t s)) (sym h) ∙ released_twice t u s
twice_by (Filling max first g) t u s h = ap (λ (z : Segment). record s { lines = Filling max first z }) (text_twice t u g)
twice_by (Cutting done begun) t u s h =
    ap (λ (z : Sheet). record z { lines = Cutting done (with_text u (with_text t begun)) }) (released_twice t u s)
    ∙ ap (λ (z : Segment). record (released (t ++ u) s) { lines = Cutting done z }) (text_twice t u begun)

appended_twice : (t u : List ℕ) (s : Sheet) → appended u (appended t s) ≡ appended (t ++ u) s
appended_twice t u s = unfold appended in twice_by s.lines t u s refl

started_in_line : (s : Sheet) → s.at_line_start ≡ false → started s ≡ s
unfolding started
started_in_line s e = ap (λ b. cond b (pending_recorded s.pending (record (indented s.indentation s) { at_line_start = false })) s) e

-- two texts are written as one
pub written_both : (x y : List ℕ) (s : Sheet) → written None (x ++ y) s ≡ written None y (written None x s)
unfolding written start_recorded end_recorded
written_both [] y s = refl
written_both (c ∷ cs) [] s = ap (λ z. written None z s) (append-nil (c ∷ cs))
written_both (c ∷ cs) (d ∷ ds) s =
    sym (appended_twice (c ∷ cs) (d ∷ ds) (started s))
    ∙ ap (appended (d ∷ ds)) (sym (started_in_line (appended (c ∷ cs) (started s)) (in_line None c cs s)))

-- ---- calls that write a text

-- a call writes a text where no semicolon is held back
abbrev pub WritesPlain : List ℕ → Item → Type 0
WritesPlain t x = (s : Sheet) → is_settled s.semicolons ≡ true → effect x s ≡ written None t s

as_it_is : (s : Sheet) → is_settled s.semicolons ≡ true → settled s ≡ s
unfolding effect
as_it_is s h = sym (commit_is s h)

dropped_same : (q : Semicolons) → is_settled q ≡ true → dropped q ≡ q
unfolding dropped
dropped_same AtOnce h = refl
dropped_same HoldsNone h = refl
dropped_same (HoldsOne span allowed) h = absurd (false≢true h)

pub space_plain : WritesPlain (32 ∷ []) Space
unfolding effect
space_plain s h = ap (written None (32 ∷ [])) (as_it_is s h)

pub str_plain : (t : List ℕ) → WritesPlain t (Str t)
unfolding effect
str_plain t s h = ap (written None t) (as_it_is s h)

pub operator_plain : (t : List ℕ) → WritesPlain t (Operator None t)
unfolding effect
operator_plain t s h = ap (written None t) (as_it_is s h)

before_plain : (b : Bool) (s : Sheet) → is_settled s.semicolons ≡ true → cond b (record s { semicolons = dropped s.semicolons }) (settled s) ≡ s
before_plain true s h = ap (λ q. record s { semicolons = q }) (dropped_same s.semicolons h)
before_plain false s h = as_it_is s h

pub punct_plain : (t : List ℕ) → WritesPlain t (Punct None t)
unfolding effect before_punct
punct_plain t s h = ap (written None t) (before_plain (is_ending t) s h)

pub still_settled : (t : List ℕ) (s : Sheet) → is_settled s.semicolons ≡ true → is_settled (written None t s).semicolons ≡ true
still_settled t s h = ap is_settled (written_semicolons None t s) ∙ h

-- ---- where no positions are kept

recorded_bare : (pos : BytePos) (s : Sheet) → s.keeps_positions ≡ false → recorded pos s ≡ s
unfolding recorded
recorded_bare pos s h = ap (λ b. cond (b && not (pos.0 == 0)) (recorded_by s.lines pos s) s) h

pending_bare : (p : Option BytePos) (s : Sheet) → s.keeps_positions ≡ false → (pending_recorded p s).pairs ≡ s.pairs
unfolding pending_recorded
pending_bare None s h = refl
pending_bare (Some pos) s h = ap (λ (z : Sheet). z.pairs) (recorded_bare pos (record s { pending = None }) h)

started_bare : (s : Sheet) → s.keeps_positions ≡ false → (started s).pairs ≡ s.pairs
unfolding started indented
started_bare s h =
    let there : Sheet = record (indented s.indentation s) { at_line_start = false } in
    let bare : there.keeps_positions ≡ false = appended_leaves (λ z. z.keeps_positions) (λ z t p l. refl) (repeat s.indentation s.indent_text) s ∙ h in
    elim s.at_line_start as (λ b. (cond b (pending_recorded s.pending (record (indented s.indentation s) { at_line_start = false })) s).pairs ≡ s.pairs) [
      | true ↦ pending_bare s.pending there bare ∙ appended_leaves (λ z. z.pairs) (λ z t p l. refl) (repeat s.indentation s.indent_text) s
      | false ↦ refl
    ]

written_bare : (t : List ℕ) (s : Sheet) → s.keeps_positions ≡ false → (written None t s).pairs ≡ s.pairs
unfolding written start_recorded end_recorded
written_bare [] s h = refl
written_bare (c ∷ cs) s h = appended_leaves (λ z. z.pairs) (λ z t p l. refl) (c ∷ cs) (started s) ∙ started_bare s h

pub still_bare : (t : List ℕ) (s : Sheet) → s.keeps_positions ≡ false → (written None t s).keeps_positions ≡ false
still_bare t s h = (written_same None t s).keeps_positions ∙ h

-- ---- stops

none_left : (xs ys : List Pair) → xs ++ ys ≡ [] → xs ≡ []
none_left [] ys e = refl
none_left (x ∷ xs) ys e = absurd (cc)

-- no pairs stand between two lists that are one
between_fronts : (xs ys zs : List Pair) → IsPrefix xs ys → IsPrefix ys zs → zs ≡ xs → ys ≡ xs
between_fronts xs ys zs h k e =
    let both : xs ++ (h.0 ++ k.0) ≡ xs ++ [] = sym (append_assoc xs h.0 k.0) ∙ (ap (λ z. z ++ k.0) (sym h.1) ∙ (sym k.1 ∙ (e ∙ sym (append-nil xs)))) in
    let none : h.0 ++ k.0 ≡ [] = append_cancel_left xs (h.0 ++ k.0) [] both in
    h.1 ∙ (ap (λ z. xs ++ z) (none_left h.0 k.0 none) ∙ append-nil xs)

-- where no positions are kept, none was recorded
no_pair : (e : Refusal) (t : List ℕ) (s new : Sheet) → s.keeps_positions ≡ false → Stopped e (written None t s) s new → new.pairs ≡ s.pairs
no_pair e t s new bare h = between_fronts s.pairs new.pairs (written None t s).pairs h.more_pairs h.front_pairs (written_bare t s bare)

-- it was stopped in the first of two texts
stopped_first : (e : Refusal) (x y : List ℕ) (s new : Sheet) → s.keeps_positions ≡ false → Stopped e (written None (x ++ y) s) s new → IsPrefix new.text (written None x s).text → Stopped e (written None x s) s new
stopped_first e x y s new bare h front = record {
  grows = h.grows;
  front = front;
  place = h.place;
  more_pairs = h.more_pairs;
  front_pairs = subst (λ (z : List Pair). IsPrefix new.pairs z) (written_bare (x ++ y) s bare ∙ sym (written_bare x s bare)) h.front_pairs;
  room = λ q. for_text (no_pair e (x ++ y) s new bare h);
  held = h.held;
  same = h.same;
}

-- what a stop changes
abbrev over : Sheet → Sheet → Sheet
over new s = record s { text = new.text; whole = new.whole; at_line_start = new.at_line_start; semicolons = new.semicolons; pairs = new.pairs; pending = new.pending; place = new.place; lines = new.lines; faults = new.faults; refused = true }

-- or in the second
stopped_later : (e : Refusal) (x y : List ℕ) (s new : Sheet) → s.keeps_positions ≡ false → is_settled s.semicolons ≡ true → Stopped e (written None (x ++ y) s) s new → IsPrefix (written None x s).text new.text → Stopped e (written None y (written None x s)) (written None x s) new
stopped_later f x y s new bare q h p =
    let m : Sheet = written None x s in
    let a = written_alike None x s in
    let whole : written None (x ++ y) s ≡ written None y m = written_both x y s in
    let cut : a.grows.0 ++ p.0 ≡ h.grows.0 = append_cancel_left s.text (a.grows.0 ++ p.0) h.grows.0 (sym (append_assoc s.text a.grows.0 p.0) ∙ ap (λ z. z ++ p.0) (sym a.grows.1) ∙ sym p.1 ∙ h.grows.1) in
    let semi : new.semicolons ≡ s.semicolons = elim h.held [ inl e ↦ e | inr e ↦ e.0 ∙ dropped_same s.semicolons q ] in
    record {
      grows = p;
      front = subst (λ (z : Sheet). IsPrefix new.text z.text) whole h.front;
      place = h.place ∙ ap (λ z. after_text z s.place) (sym cut) ∙ after_both a.grows.0 p.0 s.place ∙ ap (after_text p.0) (sym a.place);
      more_pairs = subst (λ (z : List Pair). IsPrefix z new.pairs) (sym (written_bare x s bare)) h.more_pairs;
      front_pairs = subst (λ (z : Sheet). IsPrefix new.pairs z.pairs) whole h.front_pairs;
      room = λ m. for_text (no_pair f (x ++ y) s new bare h ∙ sym (written_bare x s bare));
      held = inl (semi ∙ sym (written_semicolons None x s));
      same = h.same ∙ ap (λ n. over new (record s { indentation = n })) (sym (written_indentation None x s)) ∙ sym (ap (over new) a.same);
    }

memory_same : (t : List ℕ) (s : Sheet) → may_take_memory (written None t s) ≡ may_take_memory s
memory_same t s = ap (λ b. b || fills_lines (written None t s).lines) (written_same None t s).takes_memory ∙ ap (λ b. s.takes_memory || b) (written_stays None t s).fills

-- the cause is one of each call on the way
causes_here : (t : List ℕ) (y : Item) (e : Refusal) (s new : Sheet) → s.keeps_positions ≡ false → Causes (Str t) e s new → Causes y e s new
unfolding Causes
causes_here t y Writer s new b h = h
causes_here t y OutOfMemory s new b h = h
causes_here t y UnsupportedNode s new b h = h
causes_here t y BadShape s new b h = h
causes_here t y NameOutOfTarget s new b h = h
causes_here t y PositionTooLarge s new b (inl h) = absurd (let z : Str t ≡ Deeper = h.0 in cc)
causes_here t y PositionTooLarge s new b (inr h) = absurd (true≢false (sym h.0 ∙ b))
causes_here t y Failed s new b h = h

causes_later : (t x : List ℕ) (e : Refusal) (s new : Sheet) → s.keeps_positions ≡ false → Causes (Str t) e s new → Causes (Str t) e (written None x s) new
unfolding Causes
causes_later t x Writer s new b h = subst (λ (n : ℕ). Rises n new.faults) (sym (written_same None x s).faults) h
causes_later t x OutOfMemory s new b h = memory_same x s ∙ h
causes_later t x UnsupportedNode s new b h = h
causes_later t x BadShape s new b h = h
causes_later t x NameOutOfTarget s new b h = h
causes_later t x PositionTooLarge s new b (inl h) = absurd (let z : Str t ≡ Deeper = h.0 in cc)
causes_later t x PositionTooLarge s new b (inr h) = absurd (true≢false (sym h.0 ∙ b))
causes_later t x Failed s new b h = h

-- ---- fronts of one text

head_of : List ℕ → ℕ
head_of [] = 0
head_of (c ∷ cs) = c

tail_of : List ℕ → List ℕ
tail_of [] = []
tail_of (c ∷ cs) = cs

-- of two fronts of a text the shorter one is a front of the other
shorter : (x y g : List ℕ) → IsPrefix x g → IsPrefix y g → length x ≤ length y → IsPrefix x y
unfolding head_of tail_of
shorter [] y g p q n = (y, refl)
shorter (c ∷ x) [] g p q n = absurd (let z : ⊥ = omega (arith, n) in z)
shorter (c ∷ x) (d ∷ y) g p q n =
    let e : c ∷ (x ++ p.0) ≡ d ∷ (y ++ q.0) = sym p.1 ∙ q.1 in
    let same : d ≡ c = sym (ap head_of e) in
    let r = shorter x y (y ++ q.0) (p.0, sym (ap tail_of e)) (q.0, refl) (omega (arith, n)) in
    (r.0, λ i. same i ∷ r.1 i)

-- ---- a text that stands for two calls

still_within : (x : List ℕ) (s new : Sheet) → new ≡ s → is_within new (written None x s) ≡ true
still_within x s new k =
    let r = (written_alike None x s).grows in
    let same : length new.text ≡ length s.text = ap (λ (z : Sheet). length z.text) k in
    let longer : length (written None x s).text ≡ length (s.text ++ r.0) = ap length r.1 in
    let sum = length-append s.text r.0 in
    le-leb (length new.text) (length (written None x s).text) (omega (arith, same, longer, sum))

front_goes : (x y : List ℕ) (s : Sheet) → IsPrefix (written None x s).text (written None (x ++ y) s).text
front_goes x y s = subst (λ (z : Sheet). IsPrefix (written None x s).text z.text) (sym (written_both x y s)) (written_alike None y (written None x s)).grows

both_stopped : (e : Refusal) (x y : List ℕ) (s new : Sheet) → is_settled s.semicolons ≡ true → Stopped e (effect (Str (x ++ y)) s) s new → Stopped e (written None (x ++ y) s) s new
both_stopped e x y s new q h = subst (λ (z : Sheet). Stopped e z s new) (str_plain (x ++ y) s q) h

-- no more is out than the first of them writes: it was stopped there
pub stops_first : (x y : List ℕ) (call : Item) (e : Refusal) (s new : Sheet) → WritesPlain x call → is_settled s.semicolons ≡ true → s.keeps_positions ≡ false → is_within new (written None x s) ≡ true → Refuses (Str (x ++ y)) e s new → Refuses call e s new
stops_first x y call e s new plain q bare w (earlier i j k) = earlier i j k
stops_first x y call e s new plain q bare w (stopped i j k) =
    let h = both_stopped e x y s new q k in
    let front = shorter new.text (written None x s).text _ h.front (front_goes x y s) (leb-true _ _ w) in
    stopped i (causes_here (x ++ y) call e s new bare j) (subst (λ (z : Sheet). Stopped e z s new) (sym (plain s q)) (stopped_first e x y s new bare h front))

-- more is out: it was stopped in the second
pub stops_later : (x y : List ℕ) (call : Item) (e : Refusal) (s new : Sheet) → WritesPlain y call → is_settled s.semicolons ≡ true → s.keeps_positions ≡ false → is_within new (written None x s) ≡ false → Refuses (Str (x ++ y)) e s new → Refuses call e (written None x s) new
stops_later x y call e s new plain q bare w (earlier i j k) = absurd (true≢false (sym (still_within x s new k) ∙ w))
stops_later x y call e s new plain q bare w (stopped i j k) =
    let c : Sheet = written None x s in
    let h = both_stopped e x y s new q k in
    let more = leb-false (length new.text) (length c.text) w in
    let p = shorter c.text new.text _ (front_goes x y s) h.front (omega (arith, more)) in
    stopped ((written_same None x s).refused ∙ i) (causes_here (x ++ y) call e c new (still_bare x s bare) (causes_later (x ++ y) x e s new bare j))
    (subst (λ (z : Sheet). Stopped e z c new) (sym (plain c (still_settled x s q))) (stopped_later e x y s new bare q h p))
