-- How parts stand on lines: where each place of a line leads through them.
use Rattle.std.proofs.Common.{◌≡◌, ℕ, Bool, true, false, ◌&&◌, List, [], ◌∷◌, ◌++◌, refl, sym, ap, subst, ◌∙◌}
use Rattle.std.proofs.lemmas.Bool.{and_parts, true≢false}
use Rattle.swc_ecma_codegen_grammar.specs.declared.kinds.Kind.{Kind}
use Rattle.swc_ecma_codegen_grammar.specs.Chars.{is_one_line}
use Rattle.swc_ecma_codegen_grammar.specs.Trivia.{Piece, pieces_text}
use Rattle.swc_ecma_codegen_grammar.specs.Parts as parts
use Rattle.swc_ecma_codegen_grammar.specs.Parts.{Gap, Own, Joint, Break, OfLine, OnLine, PastLine, AtJoint, Broken, over_gap, over_own, over_joint, walk, is_broken}
use Rattle.swc_ecma_codegen_grammar.proofs.Reading.{broken_stays}
use Rattle.swc_ecma_codegen_tokens.specs.Written.{all_indent}
use Rattle.swc_ecma_codegen_tokens.proofs.Gaps.Indented.{blanks, indent_one_line}

-- ---- which place is as good as another

-- On the line of the last token all may follow that may elsewhere, and nothing is asked past what is broken.
pub data Le : OfLine → OfLine → Type 0 where
  same : (w : OfLine) → Le w w
  line_first : (w : OfLine) → Le OnLine w
  broken_last : (w : OfLine) → Le w Broken

pub not_broken : (v w : OfLine) → Le v w → is_broken w ≡ false → is_broken v ≡ false
unfolding is_broken
not_broken v w (same u) h = h
not_broken v w (line_first u) h = refl
not_broken v w (broken_last u) h = absurd (true≢false h)

gap_broken : (o : Bool) → over_gap o Broken ≡ Broken
unfolding over_gap
gap_broken true = refl
gap_broken false = refl

gap_first : (o : Bool) (w : OfLine) → Le (over_gap o OnLine) (over_gap o w)
unfolding over_gap
gap_first true w = line_first w
gap_first false OnLine = same PastLine
gap_first false PastLine = same PastLine
gap_first false AtJoint = broken_last PastLine
gap_first false Broken = broken_last PastLine

gap_le : (o : Bool) (v w : OfLine) → Le v w → Le (over_gap o v) (over_gap o w)
gap_le o v w (same u) = same (over_gap o u)
gap_le o v w (line_first u) = gap_first o u
gap_le o v w (broken_last u) = subst (λ z. Le (over_gap o u) z) (sym (gap_broken o)) (broken_last (over_gap o u))

own_first : (w : OfLine) → Le OnLine (over_own w)
own_first w = line_first (over_own w)

own_le : (v w : OfLine) → Le v w → Le (over_own v) (over_own w)
unfolding over_own
own_le v w (same u) = same (over_own u)
own_le v w (line_first u) = own_first u
own_le v w (broken_last u) = broken_last (over_own u)

joint_first : (w : OfLine) → Le AtJoint (over_joint w)
unfolding over_joint
joint_first OnLine = same AtJoint
joint_first PastLine = broken_last AtJoint
joint_first AtJoint = same AtJoint
joint_first Broken = broken_last AtJoint

joint_le : (v w : OfLine) → Le v w → Le (over_joint v) (over_joint w)
unfolding over_joint
joint_le v w (same u) = same (over_joint u)
joint_le v w (line_first u) = joint_first u
joint_le v w (broken_last u) = broken_last (over_joint u)

pub broken_from : (xs : List parts.Part) (w : OfLine) → is_broken w ≡ true → is_broken (walk w xs) ≡ true
unfolding is_broken
broken_from xs Broken e = broken_stays xs
broken_from xs w e = absurd (true≢false (sym e))

pub walk_le : (xs : List parts.Part) (v w : OfLine) → Le v w → Le (walk v xs) (walk w xs)
unfolding walk
walk_le [] v w h = h
walk_le (Gap ps ∷ xs) v w h = walk_le xs _ _ (gap_le (is_one_line (pieces_text ps)) v w h)
walk_le (Own x t ∷ xs) v w h = walk_le xs _ _ (own_le v w h)
walk_le (Joint ∷ xs) v w h = walk_le xs _ _ (joint_le v w h)
walk_le (Break ∷ xs) v w h = walk_le xs _ _ (gap_le false v w h)

pub walk_append : (xs ys : List parts.Part) (w : OfLine) → walk w (xs ++ ys) ≡ walk (walk w xs) ys
unfolding walk
walk_append [] ys w = refl
walk_append (Gap ps ∷ xs) ys w = walk_append xs ys _
walk_append (Own x t ∷ xs) ys w = walk_append xs ys _
walk_append (Joint ∷ xs) ys w = walk_append xs ys _
walk_append (Break ∷ xs) ys w = walk_append xs ys _

-- ---- where parts lead

-- What is known of a place: it is on the line of the last token; there, or past its end; there, or right after
-- `[no LineTerminator here]`; one of these; or nothing is known.
pub data Among : Type 0 where
  ToLine ToPast ToJoint ToEither ToAny : Among

abbrev pub meets : OfLine → Among → Bool
meets OnLine r = true
meets w ToAny = true
meets PastLine ToPast = true
meets PastLine ToEither = true
meets AtJoint ToJoint = true
meets AtJoint ToEither = true
meets w r = false

any_met : (w : OfLine) → meets w ToAny ≡ true
any_met OnLine = refl
any_met PastLine = refl
any_met AtJoint = refl
any_met Broken = refl

only_any : (r : Among) → meets Broken r ≡ true → r ≡ ToAny
only_any ToAny h = refl
only_any r h = absurd (true≢false (sym h))

met_before : (v w : OfLine) (r : Among) → Le v w → meets w r ≡ true → meets v r ≡ true
met_before v w r (same u) h = h
met_before v w r (line_first u) h = refl
met_before v w r (broken_last u) h = ap (meets u) (only_any r h) ∙ any_met u

pub met_unbroken : (w : OfLine) → meets w ToEither ≡ true → is_broken w ≡ false
unfolding is_broken
met_unbroken OnLine h = refl
met_unbroken PastLine h = refl
met_unbroken AtJoint h = refl
met_unbroken Broken h = absurd (true≢false (sym h))

abbrev pub implies : Bool → Bool → Bool
implies true b = b
implies false b = true

implied : (a b : Bool) → implies a b ≡ true → a ≡ true → b ≡ true
implied true b h e = h
implied false b h e = absurd (true≢false (sym e))

-- whether all that one may be the other may
abbrev pub is_part : Among → Among → Bool
is_part r s = implies (meets PastLine r) (meets PastLine s) && (implies (meets AtJoint r) (meets AtJoint s) && implies (meets Broken r) (meets Broken s))

met_wider : (w : OfLine) (r s : Among) → is_part r s ≡ true → meets w r ≡ true → meets w s ≡ true
met_wider OnLine r s h e = refl
met_wider PastLine r s h e = implied (meets PastLine r) (meets PastLine s) (and_parts (implies (meets PastLine r) (meets PastLine s)) _ h).0 e
met_wider AtJoint r s h e = implied (meets AtJoint r) (meets AtJoint s) (and_parts (implies (meets AtJoint r) (meets AtJoint s)) (implies (meets Broken r) (meets Broken s)) (and_parts (implies (meets PastLine r) (meets PastLine s)) _ h).1).0 e
met_wider Broken r s h e = implied (meets Broken r) (meets Broken s) (and_parts (implies (meets AtJoint r) (meets AtJoint s)) (implies (meets Broken r) (meets Broken s)) (and_parts (implies (meets PastLine r) (meets PastLine s)) _ h).1).1 e

-- one of two
abbrev pub either : Among → Among → Among
either ToLine s = s
either ToAny s = ToAny
either r ToLine = r
either r ToAny = ToAny
either ToPast ToPast = ToPast
either ToJoint ToJoint = ToJoint
either r s = ToEither

first_part : (r s : Among) → is_part r (either r s) ≡ true
first_part ToLine s = refl
first_part ToAny s = refl
first_part ToPast ToLine = refl
first_part ToPast ToPast = refl
first_part ToPast ToJoint = refl
first_part ToPast ToEither = refl
first_part ToPast ToAny = refl
first_part ToJoint ToLine = refl
first_part ToJoint ToPast = refl
first_part ToJoint ToJoint = refl
first_part ToJoint ToEither = refl
first_part ToJoint ToAny = refl
first_part ToEither ToLine = refl
first_part ToEither ToPast = refl
first_part ToEither ToJoint = refl
first_part ToEither ToEither = refl
first_part ToEither ToAny = refl

second_part : (r s : Among) → is_part s (either r s) ≡ true
second_part ToLine ToLine = refl
second_part ToLine ToPast = refl
second_part ToLine ToJoint = refl
second_part ToLine ToEither = refl
second_part ToLine ToAny = refl
second_part ToPast ToLine = refl
second_part ToPast ToPast = refl
second_part ToPast ToJoint = refl
second_part ToPast ToEither = refl
second_part ToPast ToAny = refl
second_part ToJoint ToLine = refl
second_part ToJoint ToPast = refl
second_part ToJoint ToJoint = refl
second_part ToJoint ToEither = refl
second_part ToJoint ToAny = refl
second_part ToEither ToLine = refl
second_part ToEither ToPast = refl
second_part ToEither ToJoint = refl
second_part ToEither ToEither = refl
second_part ToEither ToAny = refl
second_part ToAny ToLine = refl
second_part ToAny ToPast = refl
second_part ToAny ToJoint = refl
second_part ToAny ToEither = refl
second_part ToAny ToAny = refl

-- The places that parts lead to, from the line of the last token, from past its end, and from right after
-- `[no LineTerminator here]`; whether they may stand anywhere, and whether they may where nothing was written: what begins with a
-- hashbang may stand there alone.
pub record Shape : Type 0 where
  pub line : Among
  pub past : Among
  pub joint : Among
  pub anywhere : Bool
  pub first : Bool

-- what begins and ends with a token, as `a`
abbrev pub whole : Shape
whole = record { line = ToLine; past = ToLine; joint = ToLine; anywhere = true; first = true }

-- blanks, or nothing at all
abbrev pub open_ : Shape
open_ = record { line = ToLine; past = ToPast; joint = ToJoint; anywhere = true; first = true }

-- what begins with a token, and then a line may end
abbrev pub ended : Shape
ended = record { line = ToPast; past = ToPast; joint = ToPast; anywhere = true; first = true }

-- that, or nothing at all
abbrev pub ended_if_any : Shape
ended_if_any = record { line = ToPast; past = ToPast; joint = ToEither; anywhere = true; first = true }

-- where lines may end anywhere
abbrev pub loose : Shape
loose = record { line = ToPast; past = ToPast; joint = ToAny; anywhere = true; first = true }

-- what ends with a token, and a line may end before it
abbrev pub closed : Shape
closed = record { line = ToLine; past = ToLine; joint = ToAny; anywhere = true; first = true }

-- `[no LineTerminator here]`
abbrev pub joining : Shape
joining = record { line = ToJoint; past = ToAny; joint = ToJoint; anywhere = true; first = true }

-- a token behind that
abbrev pub joined : Shape
joined = record { line = ToLine; past = ToAny; joint = ToLine; anywhere = true; first = true }

-- a word and `[no LineTerminator here]`, or nothing at all
abbrev pub joining_if_any : Shape
joining_if_any = record { line = ToJoint; past = ToEither; joint = ToJoint; anywhere = true; first = true }

-- what keeps the lines of a text that begins with it: with a hashbang, or, anywhere, with another token
abbrev pub unbroken_at : Bool → Shape
unbroken_at anywhere = record { line = ToEither; past = ToAny; joint = ToAny; anywhere = anywhere; first = true }

abbrev pub unbroken : Shape
unbroken = unbroken_at true

-- a hashbang and the end of its line
abbrev pub first_line : Shape
first_line = record { line = ToPast; past = ToPast; joint = ToPast; anywhere = false; first = true }

-- where lines may end anywhere, behind a hashbang or without one
abbrev pub loose_at : Bool → Shape
loose_at anywhere = record { line = ToPast; past = ToPast; joint = ToAny; anywhere = anywhere; first = true }

abbrev pub leads : Shape → Among → Among
leads i ToLine = i.line
leads i ToPast = i.past
leads i ToJoint = i.joint
leads i ToEither = either i.past i.joint
leads i ToAny = ToAny

-- behind what ends with a token, and a line may end between
abbrev pub past_line : Shape → Shape
past_line j = record { line = j.past; past = j.past; joint = j.past; anywhere = j.anywhere; first = j.anywhere }

-- behind what ends with a token
abbrev pub on_line : Shape → Shape
on_line j = record { line = j.line; past = j.line; joint = j.line; anywhere = j.anywhere; first = j.anywhere }

-- behind a word and `[no LineTerminator here]`
abbrev pub at_joint : Shape → Shape
at_joint j = record { line = j.joint; past = j.joint; joint = j.joint; anywhere = j.anywhere; first = j.anywhere }

-- one after the other
abbrev pub join : Shape → Shape → Shape
join i j = record { line = leads j i.line; past = leads j i.past; joint = leads j i.joint; anywhere = i.anywhere && j.anywhere; first = i.first && j.anywhere }

-- wherever the second may stand the first may
abbrev pub stands_within : Shape → Shape → Bool
stands_within i j = implies j.anywhere i.anywhere && implies j.first i.first

abbrev pub is_within : Shape → Shape → Bool
is_within i j = is_part i.line j.line && (is_part i.past j.past && (is_part i.joint j.joint && stands_within i j))

pub record Fits (i : Shape) (xs : List parts.Part) : Type 0 where
  pub line : meets (walk OnLine xs) i.line ≡ true
  pub past : meets (walk PastLine xs) i.past ≡ true
  pub joint : meets (walk AtJoint xs) i.joint ≡ true

first_met : {i : Shape} {xs : List parts.Part} → Fits i xs → (v : OfLine) → meets (walk v xs) i.past ≡ true → meets (walk v xs) (either i.past i.joint) ≡ true
first_met {i} h v e = met_wider _ i.past (either i.past i.joint) (first_part i.past i.joint) e

-- from the line of the last token parts lead no farther than from elsewhere
line_met : (xs : List parts.Part) (w : OfLine) (r : Among) → meets (walk w xs) r ≡ true → meets (walk OnLine xs) r ≡ true
line_met xs w r h = met_before _ _ r (walk_le xs OnLine w (line_first w)) h

fits_at : {i : Shape} {xs : List parts.Part} → Fits i xs → (w : OfLine) (r : Among) → meets w r ≡ true → meets (walk w xs) (leads i r) ≡ true
fits_at h w ToAny e = any_met _
fits_at h OnLine ToLine e = h.line
fits_at {i} {xs} h OnLine ToPast e = line_met xs PastLine i.past h.past
fits_at {i} {xs} h OnLine ToJoint e = line_met xs AtJoint i.joint h.joint
fits_at {i} {xs} h OnLine ToEither e = first_met h OnLine (line_met xs PastLine i.past h.past)
fits_at h PastLine ToPast e = h.past
fits_at h PastLine ToEither e = first_met h PastLine h.past
fits_at h AtJoint ToJoint e = h.joint
fits_at {i} h AtJoint ToEither e = met_wider _ i.joint (either i.past i.joint) (second_part i.past i.joint) h.joint
fits_at h w r e = absurd (true≢false (sym e))

fits_step : {j : Shape} (xs ys : List parts.Part) (v : OfLine) (r : Among) → meets (walk v xs) r ≡ true → Fits j ys → meets (walk v (xs ++ ys)) (leads j r) ≡ true
fits_step {j} xs ys v r h k = subst (λ z. meets z (leads j r) ≡ true) (sym (walk_append xs ys v)) (fits_at k (walk v xs) r h)

pub fits_then : {i j : Shape} (xs ys : List parts.Part) → Fits i xs → Fits j ys → Fits (join i j) (xs ++ ys)
fits_then {i} xs ys h k = record { line = fits_step xs ys OnLine i.line h.line k; past = fits_step xs ys PastLine i.past h.past k; joint = fits_step xs ys AtJoint i.joint h.joint k }

pub fits_wider : {i : Shape} (j : Shape) {xs : List parts.Part} → is_within i j ≡ true → Fits i xs → Fits j xs
fits_wider {i} j e h =
    let p = and_parts (is_part i.line j.line) _ e in
    let q = and_parts (is_part i.past j.past) _ p.1 in
    let r = and_parts (is_part i.joint j.joint) (stands_within i j) q.1 in
    record { line = met_wider _ i.line j.line p.0 h.line; past = met_wider _ i.past j.past q.0 h.past; joint = met_wider _ i.joint j.joint r.0 h.joint }

-- what is within another stands where that may
pub within_stands : (i j : Shape) → is_within i j ≡ true → (j.anywhere ≡ true → i.anywhere ≡ true) × (j.first ≡ true → i.first ≡ true)
within_stands i j e =
    let p = and_parts (is_part i.line j.line) _ e in
    let q = and_parts (is_part i.past j.past) _ p.1 in
    let r = and_parts (is_part i.joint j.joint) (stands_within i j) q.1 in
    let s = and_parts (implies j.anywhere i.anywhere) (implies j.first i.first) r.1 in
    (implied j.anywhere i.anywhere s.0, implied j.first i.first s.1)

pub fits_nothing : Fits open_ []
unfolding walk
fits_nothing = record { line = refl; past = refl; joint = refl }

pub fits_joint : Fits joining (Joint ∷ [])
unfolding walk over_joint
fits_joint = record { line = refl; past = refl; joint = refl }

-- a gap that holds no line terminator, and any gap
pub fits_blank : {gap : List parts.Part} (u : List ℕ) → is_one_line u ≡ true → ((w : OfLine) → walk w gap ≡ over_gap (is_one_line u) w) → Fits open_ gap
unfolding over_gap
fits_blank u h e =
    let f : (w : OfLine) → walk w _ ≡ w = λ w. e w ∙ ap (λ o. over_gap o w) h in
    record { line = ap (λ z. meets z ToLine) (f OnLine); past = ap (λ z. meets z ToPast) (f PastLine); joint = ap (λ z. meets z ToJoint) (f AtJoint) }

gap_line : (o : Bool) → meets (over_gap o OnLine) ToPast ≡ true
unfolding over_gap
gap_line true = refl
gap_line false = refl

gap_past : (o : Bool) → meets (over_gap o PastLine) ToPast ≡ true
unfolding over_gap
gap_past true = refl
gap_past false = refl

pub fits_gap : {gap : List parts.Part} (o : Bool) → ((w : OfLine) → walk w gap ≡ over_gap o w) → Fits loose gap
fits_gap o e = record { line = ap (λ z. meets z ToPast) (e OnLine) ∙ gap_line o; past = ap (λ z. meets z ToPast) (e PastLine) ∙ gap_past o; joint = any_met _ }

-- a token
pub fits_own : (kind : Kind) (t : List ℕ) → Fits whole (Own kind t ∷ [])
unfolding walk over_own
fits_own kind t = record { line = refl; past = refl; joint = refl }

-- indentation, and a token behind it
pub fits_indent : (u : List ℕ) → all_indent u ≡ true → Fits open_ (Gap (blanks u) ∷ [])
unfolding walk
fits_indent u h = fits_blank (pieces_text (blanks u)) (indent_one_line u h) (λ w. refl)

pub fits_text : (u : List ℕ) (kind : Kind) (t : List ℕ) → all_indent u ≡ true → Fits whole (Gap (blanks u) ∷ Own kind t ∷ [])
fits_text u kind t h = fits_then (Gap (blanks u) ∷ []) (Own kind t ∷ []) (fits_indent u h) (fits_own kind t)

-- any gap
pub fits_end : (ps : List Piece) → Fits loose (Gap ps ∷ [])
unfolding walk
fits_end ps = fits_gap (is_one_line (pieces_text ps)) (λ w. refl)

-- a place where a line may be ended
pub fits_break : Fits loose (Break ∷ [])
unfolding walk
fits_break = fits_gap false (λ w. refl)
