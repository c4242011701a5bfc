-- Parts that are bounded have short lines.
use Rattle.std.proofs.Common.{◌≡◌, inl, inr, ℕ, ◌+◌, ◌<◌, ◌≤◌, Bool, true, false, List, [], ◌∷◌, ◌++◌, Some, None, refl, sym, ◌∙◌, ap, subst, append_assoc, cond, arith, length, ◌||◌, ◌==◌}
use Rattle.std.specs.List.{AllByRecursion}
use Rattle.std.proofs.lemmas.Bool.{true≢false, cases_lt}
use Rattle.swc_ecma_codegen_text_writer.specs.Places.{Place, after_text, after_byte, after_lf, next_line, units_of}
use Rattle.swc_ecma_codegen_text_writer.specs.Filling.{first_units, Part, part_text, text_of, IsBounded}
use Rattle.swc_ecma_codegen_text_writer.specs.Marks.{Mark, bytes_of, marks_of, marked, first_line, later_lines, lines_of, units, IsShort}
use Rattle.swc_ecma_codegen_text_writer.specs.Reach.{further}
use Rattle.swc_ecma_codegen_text_writer.proofs.Reaching.{after_both}

-- ---- bytes

bytes-append : (ms ns : List Mark) → bytes_of (ms ++ ns) ≡ bytes_of ms ++ bytes_of ns
unfolding bytes_of
bytes-append [] ns = refl
bytes-append (None ∷ ms) ns = bytes-append ms ns
bytes-append (Some c ∷ ms) ns = ap (λ z. c ∷ z) (bytes-append ms ns)

bytes-marks : (t : List ℕ) → bytes_of (marks_of t) ≡ t
unfolding bytes_of marks_of
bytes-marks [] = refl
bytes-marks (c ∷ cs) = ap (λ z. c ∷ z) (bytes-marks cs)

bytes-text : (t : List ℕ) (ms : List Mark) → bytes_of (marks_of t ++ ms) ≡ t ++ bytes_of ms
bytes-text t ms = bytes-append (marks_of t) ms ∙ ap (λ z. z ++ bytes_of ms) (bytes-marks t)

-- the text is the same
pub bytes-marked : (e : List ℕ) (xs : List Part) → bytes_of (marked e xs) ≡ text_of e xs
unfolding marked text_of part_text bytes_of
bytes-marked e [] = refl
bytes-marked e (x ∷ xs) =
    elim (x.ended) as (λ b. bytes_of (cond b (marks_of e) (None ∷ []) ++ (marks_of x.segment ++ marked e xs)) ≡ cond b (e ++ x.segment) x.segment ++ text_of e xs) [
      | true ↦ bytes-text e (marks_of x.segment ++ marked e xs) ∙ (ap (λ z. e ++ z) (bytes-text x.segment (marked e xs) ∙ ap (λ z. x.segment ++ z) (bytes-marked e xs)) ∙ sym (append_assoc e x.segment (text_of e xs)))
      | false ↦ bytes-text x.segment (marked e xs) ∙ ap (λ z. x.segment ++ z) (bytes-marked e xs)
    ]

pub bytes_marked_text : (e first : List ℕ) (xs : List Part) → bytes_of (marks_of first ++ marked e xs) ≡ first ++ text_of e xs
bytes_marked_text e first xs = bytes-text first (marked e xs) ∙ ap (λ z. first ++ z) (bytes-marked e xs)

-- ---- bounds by marks

-- the line at a place has at most so many units where a break in it isn't taken
unfoldable Bounds : ℕ → Place → List Mark → Type 0
Bounds max p [] = Unit {0}
Bounds max p (None ∷ ms) = (0 < p.column → 0 < first_units (bytes_of ms) → p.column + first_units (bytes_of ms) ≤ max) × Bounds max p ms
Bounds max p (Some c ∷ ms) = Bounds max (after_byte c p) ms

bounds_text : (max : ℕ) (t : List ℕ) (p : Place) (ms : List Mark) → Bounds max (after_text t p) ms → Bounds max p (marks_of t ++ ms)
unfolding Bounds marks_of after_text
bounds_text max [] p ms h = h
bounds_text max (c ∷ cs) p ms h = bounds_text max cs (after_byte c p) ms h

bounds_marked : (max : ℕ) (e : List ℕ) (xs : List Part) (p : Place) → IsBounded max e p xs → Bounds max p (marked e xs)
unfolding Bounds IsBounded marked part_text
bounds_marked max e [] p h = tt
bounds_marked max e (x ∷ xs) p h =
    let s : List ℕ = x.segment in
    let rest : List Mark = marks_of s ++ marked e xs in
    let text : bytes_of rest ≡ s ++ text_of e xs = bytes-text s (marked e xs) ∙ ap (λ z. s ++ z) (bytes-marked e xs) in
    (elim (x.ended) as (λ b. (b ≡ false → 0 < p.column → 0 < first_units (s ++ text_of e xs) → p.column + first_units (s ++ text_of e xs) ≤ max) → Bounds max (after_text (cond b (e ++ s) s) p) (marked e xs) → Bounds max p (cond b (marks_of e) (None ∷ []) ++ rest)) [
      | true ↦ λ f k. bounds_text max e p rest (bounds_text max s (after_text e p) (marked e xs) (subst (λ (q : Place). Bounds max q (marked e xs)) (after_both e s p) k))
      | false ↦ λ f k. (subst (λ z. 0 < p.column → 0 < first_units z → p.column + first_units z ≤ max) (sym text) (f refl), bounds_text max s p (marked e xs) k)
    ]) h.0 (bounds_marked max e xs _ h.1)

-- ---- lines

-- A line goes on after so many units: where a break in it isn't taken, and there is text before it and behind, all has at
-- most `max` units.
Goes : ℕ → ℕ → List Mark → Type 0
Goes max column line = (before after : List Mark) → line ≡ before ++ (None ∷ after) → 0 < column + units before → 0 < units after → column + units line ≤ max

goes_short : (max : ℕ) (line : List Mark) → Goes max 0 line → IsShort max line
unfolding Goes
goes_short max line h =
    elim (cases_lt max (units line)) [
      | inr k ↦ inl k
      | inl k ↦ inr (λ b. let p = b.3 in let w = h b.0 b.1 b.2 (omega arith) b.4 in omega arith)
    ]

no_split : (before after : List Mark) → [] ≡ before ++ (None ∷ after) → ⊥
no_split [] after e = cc
no_split (m ∷ ms) after e = cc

goes_nothing : (max column : ℕ) → Goes max column []
unfolding Goes
goes_nothing max column = λ before after e b a. absurd (no_split before after e)

byte_split : (max column c : ℕ) (line : List Mark) → Goes max (column + units_of c) line → (before after : List Mark) → Some c ∷ line ≡ before ++ (None ∷ after) → 0 < column + units before → 0 < units after → column + units (Some c ∷ line) ≤ max
unfolding Goes units
byte_split max column c line h [] after e b a = absurd (let k : Some c ≡ None = cc in cc)
byte_split max column c line h (m ∷ ms) after e b a =
    let head : Some c ≡ m = cc in
    let tail : line ≡ ms ++ (None ∷ after) = cc in
    let u : units (m ∷ ms) ≡ units_of c + units ms = ap (λ (z : Mark). units (z ∷ ms)) (sym head) in
    let w = h ms after tail (omega arith) a in
    omega arith

goes_byte : (max column c : ℕ) (line : List Mark) → Goes max (column + units_of c) line → Goes max column (Some c ∷ line)
unfolding Goes
goes_byte max column c line h = byte_split max column c line h

mark_split : (max column : ℕ) (line : List Mark) → Goes max column line → (0 < column → 0 < units line → column + units line ≤ max) → (before after : List Mark) → None ∷ line ≡ before ++ (None ∷ after) → 0 < column + units before → 0 < units after → column + units (None ∷ line) ≤ max
unfolding Goes units
mark_split max column line h f [] after e b a =
    let tail : line ≡ after = cc in
    f (omega arith) (subst (λ z. 0 < units z) (sym tail) a)
mark_split max column line h f (m ∷ ms) after e b a =
    let head : None ≡ m = cc in
    let tail : line ≡ ms ++ (None ∷ after) = cc in
    let u : units (m ∷ ms) ≡ units ms = ap (λ (z : Mark). units (z ∷ ms)) (sym head) in
    h ms after tail (omega arith) a

goes_mark : (max column : ℕ) (line : List Mark) → Goes max column line → (0 < column → 0 < units line → column + units line ≤ max) → Goes max column (None ∷ line)
unfolding Goes
goes_mark max column line h f = mark_split max column line h f

-- a first line has as many units as the text's
units-first : (ms : List Mark) → units (first_line false ms) ≡ first_units (bytes_of ms)
unfolding units first_line bytes_of first_units
units-first [] = refl
units-first (None ∷ ms) = units-first ms
units-first (Some c ∷ ms) =
    elim (c == 10) as (λ b. units (cond b [] (cond (c == 13) [] (Some c ∷ first_line false ms))) ≡ cond (b || (c == 13)) 0 (units_of c + first_units (bytes_of ms))) [
      | true ↦ refl
      | false ↦ elim (c == 13) as (λ b. units (cond b [] (Some c ∷ first_line false ms)) ≡ cond b 0 (units_of c + first_units (bytes_of ms)))
          [ true ↦ refl | false ↦ ap (λ z. units_of c + z) (units-first ms) ]
    ]

Short : ℕ → Place → List Mark → Type 0
Short max p ms = Goes max p.column (first_line p.after_cr ms) × AllByRecursion (IsShort max) (later_lines p.after_cr ms)

short_lf : (max : ℕ) (cr : Bool) (p : Place) (ms : List Mark) → ((q : Place) → (q.after_cr ≡ true → q.column ≡ 0) → Bounds max q ms → Short max q ms) → Bounds max (cond cr (record p { after_cr = false }) (next_line false p)) ms → Goes max p.column (cond cr (first_line false ms) []) × AllByRecursion (IsShort max) (cond cr (later_lines false ms) (first_line false ms ∷ later_lines false ms))
unfolding Short
short_lf max true p ms f h = f (record p { after_cr = false }) (λ e. absurd (true≢false (sym e))) h
short_lf max false p ms f h = let k = f (next_line false p) (λ e. refl) h in (goes_nothing max p.column, (goes_short max (first_line false ms) k.0, k.1))

short_lines : (max : ℕ) (ms : List Mark) (p : Place) → (p.after_cr ≡ true → p.column ≡ 0) → Bounds max p ms → Short max p ms
unfolding Short Bounds first_line later_lines after_byte after_lf
short_lines max [] p s = λ h. (goes_nothing max p.column, tt)
short_lines max (None ∷ ms) p s = λ h.
    let k = short_lines max ms p s h.1 in (
      goes_mark max p.column (first_line p.after_cr ms) k.0 (λ c u.
          let cr : p.after_cr ≡ false = elim p.after_cr as (λ b. p.after_cr ≡ b → b ≡ false) [ true ↦ λ e. let z = s e in absurd (omega arith) | false ↦ λ e. refl ] refl in
          let same : units (first_line p.after_cr ms) ≡ first_units (bytes_of ms) = ap (λ b. units (first_line b ms)) cr ∙ units-first ms in
          let w = h.0 c (omega arith) in omega arith),
      k.1,
    )
short_lines max (Some c ∷ ms) p s =
    elim (c == 10) as (λ b. Bounds max (cond b (after_lf p) (cond (c == 13) (next_line true p) (further (units_of c) p))) ms → Goes max p.column (cond b (cond p.after_cr (first_line false ms) []) (cond (c == 13) [] (Some c ∷ first_line false ms))) × AllByRecursion (IsShort max) (cond b (cond p.after_cr (later_lines false ms) (first_line false ms ∷ later_lines false ms)) (cond (c == 13) (first_line true ms ∷ later_lines true ms) (later_lines false ms)))) [
      | true ↦ λ h. short_lf max p.after_cr p ms (short_lines max ms) h
      | false ↦ elim (c == 13) as (λ b. Bounds max (cond b (next_line true p) (further (units_of c) p)) ms → Goes max p.column (cond b [] (Some c ∷ first_line false ms)) × AllByRecursion (IsShort max) (cond b (first_line true ms ∷ later_lines true ms) (later_lines false ms))) [
        | true ↦ λ h. let k = short_lines max ms (next_line true p) (λ e. refl) h in (goes_nothing max p.column, (goes_short max (first_line true ms) k.0, k.1))
        | false ↦ λ h. let k = short_lines max ms (further (units_of c) p) (λ e. absurd (true≢false (sym e))) h in (goes_byte max p.column c (first_line false ms) k.0, k.1)
      ]
    ]

-- the lines of a text whose first segment begins a line
pub all_short : (max : ℕ) (e first : List ℕ) (p : Place) (xs : List Part) → p.column ≡ 0 → IsBounded max e (after_text first p) xs → AllByRecursion (IsShort max) (lines_of p.after_cr (marks_of first ++ marked e xs))
unfolding Short
all_short max e first p xs z h =
    let ms : List Mark = marks_of first ++ marked e xs in
    let k = short_lines max ms p (λ u. z) (bounds_text max first p (marked e xs) (bounds_marked max e xs (after_text first p) h)) in
    (goes_short max (first_line p.after_cr ms) (subst (λ n. Goes max n (first_line p.after_cr ms)) z k.0), k.1)

-- ---- how many lines

count_lf : (cr : Bool) (p : Place) (ms : List Mark) → ((q : Place) → (after_text (bytes_of ms) q).line ≡ q.line + length (later_lines q.after_cr ms)) → (after_text (bytes_of ms) (cond cr (record p { after_cr = false }) (next_line false p))).line ≡ p.line + length (cond cr (later_lines false ms) (first_line false ms ∷ later_lines false ms))
count_lf true p ms f = f (record p { after_cr = false })
count_lf false p ms f = let k = f (next_line false p) in omega arith

pub lines_counted : (ms : List Mark) (p : Place) → (after_text (bytes_of ms) p).line ≡ p.line + length (later_lines p.after_cr ms)
unfolding later_lines bytes_of after_text after_byte after_lf
lines_counted [] p = omega arith
lines_counted (None ∷ ms) p = lines_counted ms p
lines_counted (Some c ∷ ms) p =
    elim (c == 10) as (λ b. (after_text (bytes_of ms) (cond b (after_lf p) (cond (c == 13) (next_line true p) (further (units_of c) p)))).line ≡ p.line + length (cond b (cond p.after_cr (later_lines false ms) (first_line false ms ∷ later_lines false ms)) (cond (c == 13) (first_line true ms ∷ later_lines true ms) (later_lines false ms)))) [
      | true ↦ count_lf p.after_cr p ms (lines_counted ms)
      | false ↦ elim (c == 13) as (λ b. (after_text (bytes_of ms) (cond b (next_line true p) (further (units_of c) p))).line ≡ p.line + length (cond b (first_line true ms ∷ later_lines true ms) (later_lines false ms))) [
        | true ↦ let k = lines_counted ms (next_line true p) in omega arith
        | false ↦ lines_counted ms (further (units_of c) p)
      ]
    ]
