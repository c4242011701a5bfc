-- What is written apart in a string for inline scripts, character by character.
use Rattle.std.proofs.Common.{◌≡◌, ℕ, suc, ◌+◌, ◌-◌, ◌<◌, ◌≤◌, Bool, true, false, ◌&&◌, ◌==◌, List, [], ◌∷◌, ◌++◌, length, take, drop, slice_index, nat_le, refl, sym, ap, ◌∙◌, subst, arith, inl, inr, codes, Option, Some, None, append_assoc, append-nil, add-one, length-drop}
use Rattle.std.specs.Str.{IsUtf8, IsCharBoundary}
use Rattle.std.proofs.lemmas.Str.{IsCharBoundary-after_ascii}
use Rattle.std.proofs.lemmas.List.{take_all, drop_all}
use Rattle.std.proofs.Math.Seq.{take-suc, drop-cons}
use Rattle.std.proofs.lemmas.Bool.{cases_Bool, and_parts, ne_eqb, eqb-true}
use Rattle.swc_ecma_codegen_grammar.specs.Numbers.{is_either}
use Rattle.swc_ecma_codegen_grammar.specs.CodeUnits.{begins_like}
use Rattle.swc_ecma_codegen_literals.specs.InlineScripts.{is_tag_end, comment_start, script_end, ends_apart, opens_apart, closes_apart, dashes_after, inline_text, mark_text, or_stands, marked}
use Rattle.swc_ecma_codegen_literals.proofs.Fronts.{too_short}
use Rattle.swc_ecma_codegen_literals.proofs.EscapeTexts.{chosen}

-- what a text begins with, place by place
and_true : (b : Bool) → (b && true) ≡ b
and_true true = refl
and_true false = refl

pub start_places : (t : List ℕ) → 3 ≤ length t → begins_like comment_start t ≡ ((slice_index t 0 == 33) && ((slice_index t 1 == 45) && (slice_index t 2 == 45)))
unfolding begins_like comment_start
start_places [] l = absurd (omega (arith, l))
start_places (a ∷ []) l = absurd (omega (arith, l))
start_places (a ∷ b ∷ []) l = absurd (omega (arith, l))
start_places (a ∷ b ∷ c ∷ t) l = rw (and_true (c == 45)) refl

pub start_none : (t : List ℕ) → length t < 3 → begins_like comment_start t ≡ false
unfolding comment_start
start_none t l = too_short comment_start t l

pub end_places : (t : List ℕ) → 8 ≤ length t → begins_like script_end t ≡ ((slice_index t 0 == 47) && (is_either 115 83 (slice_index t 1) && (is_either 99 67 (slice_index t 2) && (is_either 114 82 (slice_index t 3) && (is_either 105 73 (slice_index t 4) && (is_either 112 80 (slice_index t 5) && (is_either 116 84 (slice_index t 6) && is_tag_end (slice_index t 7))))))))
unfolding begins_like script_end
end_places [] l = absurd (omega (arith, l))
end_places (a ∷ []) l = absurd (omega (arith, l))
end_places (a ∷ b ∷ []) l = absurd (omega (arith, l))
end_places (a ∷ b ∷ c ∷ []) l = absurd (omega (arith, l))
end_places (a ∷ b ∷ c ∷ d ∷ []) l = absurd (omega (arith, l))
end_places (a ∷ b ∷ c ∷ d ∷ e ∷ []) l = absurd (omega (arith, l))
end_places (a ∷ b ∷ c ∷ d ∷ e ∷ f ∷ []) l = absurd (omega (arith, l))
end_places (a ∷ b ∷ c ∷ d ∷ e ∷ f ∷ g ∷ []) l = absurd (omega (arith, l))
end_places (a ∷ b ∷ c ∷ d ∷ e ∷ f ∷ g ∷ h ∷ t) l = rw (and_true (is_tag_end h)) refl

pub end_none : (t : List ℕ) → length t < 8 → begins_like script_end t ≡ false
unfolding script_end
end_none t l = too_short script_end t l

-- How a character is written: as it is, or in one of three ways.
pub data Mark (d c : ℕ) (cs : List ℕ) : Type 0 where
  Stands : mark_text d c cs ≡ None → marked d (c ∷ cs) ≡ c ∷ marked (dashes_after d c) cs → ((c == 60) && begins_like comment_start cs) ≡ false → ((c == 60) && begins_like script_end cs) ≡ false → ((c == 62) && nat_le 2 d) ≡ false → Mark d c cs
  Opens : c ≡ 60 → begins_like comment_start cs ≡ true → mark_text d c cs ≡ Some (codes "\\x3c") → marked d (c ∷ cs) ≡ 92 ∷ 120 ∷ 51 ∷ 99 ∷ marked 0 cs → Mark d c cs
  Ends : c ≡ 60 → begins_like script_end cs ≡ true → mark_text d c cs ≡ Some (codes "<\\") → marked d (c ∷ cs) ≡ 60 ∷ 92 ∷ marked 0 cs → Mark d c cs
  Closes : c ≡ 62 → nat_le 2 d ≡ true → mark_text d c cs ≡ Some (codes "\\x3e") → marked d (c ∷ cs) ≡ 92 ∷ 120 ∷ 51 ∷ 101 ∷ marked 0 cs → Mark d c cs

pub marked_as : (d c : ℕ) (cs : List ℕ) (text : Option (List ℕ)) → mark_text d c cs ≡ text → marked d (c ∷ cs) ≡ or_stands c text ++ marked (dashes_after d c) cs
unfolding marked
marked_as d c cs text h = rw h refl

no_dash : (d c a : ℕ) → c ≡ a → (a == 45) ≡ false → dashes_after d c ≡ 0
no_dash d c a e n = rw (e, n) refl

opens : (d c : ℕ) (cs : List ℕ) → (c == 60) ≡ true → begins_like comment_start cs ≡ true → Mark d c cs
unfolding mark_text
opens d c cs y h =
    let e : c ≡ 60 = eqb-true c 60 y in
    let m : mark_text d c cs ≡ Some (codes "\\x3c") = rw (y, h) refl in
    Opens e h m (marked_as d c cs (Some (codes "\\x3c")) m ∙ ap (λ n. 92 ∷ 120 ∷ 51 ∷ 99 ∷ marked n cs) (no_dash d c 60 e refl))

ends : (d c : ℕ) (cs : List ℕ) → (c == 60) ≡ true → begins_like comment_start cs ≡ false → begins_like script_end cs ≡ true → Mark d c cs
unfolding mark_text
ends d c cs y n h =
    let e : c ≡ 60 = eqb-true c 60 y in
    let m : mark_text d c cs ≡ Some (codes "<\\") = rw (y, n, h) refl in
    Ends e h m (marked_as d c cs (Some (codes "<\\")) m ∙ ap (λ n. 60 ∷ 92 ∷ marked n cs) (no_dash d c 60 e refl))

closes : (d c : ℕ) (cs : List ℕ) → (c == 60) ≡ false → (c == 62) ≡ true → nat_le 2 d ≡ true → Mark d c cs
unfolding mark_text
closes d c cs n y h =
    let e : c ≡ 62 = eqb-true c 62 y in
    let m : mark_text d c cs ≡ Some (codes "\\x3e") = rw (n, y, h) refl in
    Closes e h m (marked_as d c cs (Some (codes "\\x3e")) m ∙ ap (λ n. 92 ∷ 120 ∷ 51 ∷ 101 ∷ marked n cs) (no_dash d c 62 e refl))

stands_open : (d c : ℕ) (cs : List ℕ) → (c == 60) ≡ true → begins_like comment_start cs ≡ false → begins_like script_end cs ≡ false → Mark d c cs
unfolding mark_text
stands_open d c cs y n h =
    let m : mark_text d c cs ≡ None = rw (y, n, h) refl in
    let other : (c == 62) ≡ false = ne_eqb c 62 (λ e. let f = eqb-true c 60 y in omega arith) in
    Stands m (marked_as d c cs None m) (rw (y, n) refl) (rw (y, h) refl) (rw other refl)

stands_other : (d c : ℕ) (cs : List ℕ) → (c == 60) ≡ false → ((c == 62) && nat_le 2 d) ≡ false → Mark d c cs
unfolding mark_text
stands_other d c cs n h = let m : mark_text d c cs ≡ None = rw (n, h) refl in Stands m (marked_as d c cs None m) (rw n refl) (rw n refl) h

pub view : (d c : ℕ) (cs : List ℕ) → Mark d c cs
view d c cs = elim (cases_Bool (c == 60)) [
  | inl y ↦ elim (cases_Bool (begins_like comment_start cs)) [
    | inl h ↦ opens d c cs y h
    | inr n ↦ elim (cases_Bool (begins_like script_end cs)) [ inl h ↦ ends d c cs y n h | inr m ↦ stands_open d c cs y n m ]
  ]
  | inr n ↦ elim (cases_Bool ((c == 62) && nat_le 2 d)) [
    | inl h ↦ let p = and_parts (c == 62) (nat_le 2 d) h in closes d c cs n p.0 p.1
    | inr h ↦ stands_other d c cs n h
  ]
]

-- the three rules in turn do the same
abbrev NoOpen : List (ℕ → Bool) → Type 0
NoOpen [] = Unit {0}
NoOpen (p ∷ ps) = (p 60 ≡ false) × NoOpen ps

front_kept : (ps : List (ℕ → Bool)) → NoOpen ps → (cs : List ℕ) → begins_like ps (ends_apart cs) ≡ begins_like ps cs
unfolding begins_like ends_apart
front_kept [] h cs = refl
front_kept (p ∷ ps) h [] = refl
front_kept (p ∷ ps) h (c ∷ cs) = elim (cases_Bool ((c == 60) && begins_like script_end cs)) [
  | inl y ↦ let e : c ≡ 60 = eqb-true c 60 (and_parts (c == 60) (begins_like script_end cs) y).0 in rw y (rw (e, h.0) refl)
  | inr n ↦ rw n (ap (λ b. p c && b) (front_kept ps h.1 cs))
]

front_ends : (cs : List ℕ) → begins_like comment_start (ends_apart cs) ≡ begins_like comment_start cs
unfolding comment_start
front_ends cs = front_kept ((λ c. c == 33) ∷ (λ c. c == 45) ∷ (λ c. c == 45) ∷ []) (refl, (refl, (refl, tt))) cs

one_start : (cs : List ℕ) → begins_like comment_start cs ≡ true → begins_like script_end cs ≡ false
unfolding begins_like comment_start script_end
one_start [] h = refl
one_start (c ∷ cs) h = let e : c ≡ 33 = eqb-true c 33 (and_parts (c == 33) (begins_like ((λ c. c == 45) ∷ (λ c. c == 45) ∷ []) cs) h).0 in rw e refl

-- one character, by each rule
ends_stands : (c : ℕ) (cs : List ℕ) → ((c == 60) && begins_like script_end cs) ≡ false → ends_apart (c ∷ cs) ≡ c ∷ ends_apart cs
unfolding ends_apart
ends_stands c cs h = rw h refl

opens_stands : (c : ℕ) (cs : List ℕ) → ((c == 60) && begins_like comment_start cs) ≡ false → opens_apart (c ∷ cs) ≡ c ∷ opens_apart cs
unfolding opens_apart
opens_stands c cs h = rw h refl

opens_once : (cs : List ℕ) → begins_like comment_start cs ≡ true → opens_apart (60 ∷ cs) ≡ 92 ∷ 120 ∷ 51 ∷ 99 ∷ opens_apart cs
unfolding opens_apart
opens_once cs h = rw h refl

closes_stands : (d c : ℕ) (cs : List ℕ) → ((c == 62) && nat_le 2 d) ≡ false → closes_apart d (c ∷ cs) ≡ c ∷ closes_apart (dashes_after d c) cs
unfolding closes_apart
closes_stands d c cs h = rw h refl

closes_escape : (d : ℕ) (cs : List ℕ) → closes_apart d (92 ∷ 120 ∷ 51 ∷ 99 ∷ cs) ≡ 92 ∷ 120 ∷ 51 ∷ 99 ∷ closes_apart 0 cs
unfolding closes_apart
closes_escape d cs = refl

stands_apart : (d c : ℕ) (cs : List ℕ) → ((c == 60) && begins_like comment_start cs) ≡ false → ((c == 60) && begins_like script_end cs) ≡ false → ((c == 62) && nat_le 2 d) ≡ false →
    closes_apart d (opens_apart (ends_apart (c ∷ cs))) ≡ c ∷ closes_apart (dashes_after d c) (opens_apart (ends_apart cs))
stands_apart d c cs o e l =
    ap (λ t. closes_apart d (opens_apart t)) (ends_stands c cs e) ∙
    (ap (λ t. closes_apart d t) (opens_stands c (ends_apart cs) (ap (λ b. (c == 60) && b) (front_ends cs) ∙ o)) ∙
    closes_stands d c (opens_apart (ends_apart cs)) l)

open_apart : (d : ℕ) (cs : List ℕ) → begins_like comment_start cs ≡ true → closes_apart d (opens_apart (ends_apart (60 ∷ cs))) ≡ 92 ∷ 120 ∷ 51 ∷ 99 ∷ closes_apart 0 (opens_apart (ends_apart cs))
open_apart d cs h =
    ap (λ t. closes_apart d (opens_apart t)) (ends_stands 60 cs (one_start cs h)) ∙
    (ap (λ t. closes_apart d t) (opens_once (ends_apart cs) (front_ends cs ∙ h)) ∙
    closes_escape d (opens_apart (ends_apart cs)))

end_apart : (d : ℕ) (cs : List ℕ) → begins_like script_end cs ≡ true → closes_apart d (opens_apart (ends_apart (60 ∷ cs))) ≡ 60 ∷ 92 ∷ closes_apart 0 (opens_apart (ends_apart cs))
unfolding closes_apart opens_apart ends_apart begins_like comment_start
end_apart d cs h = rw h refl

close_apart : (d : ℕ) (cs : List ℕ) → nat_le 2 d ≡ true → closes_apart d (opens_apart (ends_apart (62 ∷ cs))) ≡ 92 ∷ 120 ∷ 51 ∷ 101 ∷ closes_apart 0 (opens_apart (ends_apart cs))
unfolding closes_apart opens_apart ends_apart
close_apart d cs h = rw h refl

pub marked_nil : (d : ℕ) → marked d [] ≡ []
unfolding marked
marked_nil d = refl

nothing_apart : (d : ℕ) → closes_apart d (opens_apart (ends_apart [])) ≡ []
unfolding closes_apart opens_apart ends_apart
nothing_apart d = refl

one_at_once : (d c : ℕ) (cs : List ℕ) → ((n : ℕ) → closes_apart n (opens_apart (ends_apart cs)) ≡ marked n cs) → closes_apart d (opens_apart (ends_apart (c ∷ cs))) ≡ marked d (c ∷ cs)
one_at_once d c cs r = by_view (view d c cs)
  where
    by_view : Mark d c cs → closes_apart d (opens_apart (ends_apart (c ∷ cs))) ≡ marked d (c ∷ cs)
    by_view (Stands m e o n l) = stands_apart d c cs o n l ∙ (ap (λ t. c ∷ t) (r (dashes_after d c)) ∙ sym e)
    by_view (Opens i h m e) = ap (λ x. closes_apart d (opens_apart (ends_apart (x ∷ cs)))) i ∙ (open_apart d cs h ∙ (ap (λ t. 92 ∷ 120 ∷ 51 ∷ 99 ∷ t) (r 0) ∙ sym e))
    by_view (Ends i h m e) = ap (λ x. closes_apart d (opens_apart (ends_apart (x ∷ cs)))) i ∙ (end_apart d cs h ∙ (ap (λ t. 60 ∷ 92 ∷ t) (r 0) ∙ sym e))
    by_view (Closes i h m e) = ap (λ x. closes_apart d (opens_apart (ends_apart (x ∷ cs)))) i ∙ (close_apart d cs h ∙ (ap (λ t. 92 ∷ 120 ∷ 51 ∷ 101 ∷ t) (r 0) ∙ sym e))

three_at_once : (d : ℕ) (cs : List ℕ) → closes_apart d (opens_apart (ends_apart cs)) ≡ marked d cs
three_at_once d [] = nothing_apart d ∙ sym (marked_nil d)
three_at_once d (c ∷ cs) = one_at_once d c cs (λ n. three_at_once n cs)

pub at_once : (cs : List ℕ) → inline_text cs ≡ marked 0 cs
unfolding inline_text
at_once cs = three_at_once 0 cs

-- the loop over a text, place by place
pub stands_step : (all : List ℕ) (at dashes : ℕ) → at < length all → marked 0 all ≡ take at all ++ marked dashes (drop at all) → mark_text dashes (slice_index all at) (drop (at + 1) all) ≡ None →
    marked 0 all ≡ take (at + 1) all ++ marked (dashes_after dashes (slice_index all at)) (drop (at + 1) all)
stands_step all at dashes l i n =
    let c = slice_index all at in
    let rest : drop at all ≡ c ∷ drop (at + 1) all = rw (add-one, drop-cons all at 0) refl in
    let front : take (at + 1) all ≡ take at all ++ c ∷ [] = rw (add-one, take-suc all at 0) refl in
    i ∙ (ap (λ t. take at all ++ marked dashes t) rest ∙ (ap (λ t. take at all ++ t) (marked_as dashes c (drop (at + 1) all) None n) ∙ sym (ap (λ t. t ++ marked (dashes_after dashes c) (drop (at + 1) all)) front ∙ append_assoc (take at all) (c ∷ []) (marked (dashes_after dashes c) (drop (at + 1) all)))))

clash : (text : List ℕ) → ◌≡◌ {A = Option (List ℕ)} None (Some text) → ⊥
clash text e = cc

pub none_or_some : (d c : ℕ) (cs text : List ℕ) → mark_text d c cs ≡ None → mark_text d c cs ≡ Some text → ⊥
none_or_some d c cs text m h = clash text (sym m ∙ h)

some_mark : (d c : ℕ) (cs text : List ℕ) → mark_text d c cs ≡ Some text → (c < 128) × (dashes_after d c ≡ 0)
some_mark d c cs text h = by_view (view d c cs)
  where
    by_view : Mark d c cs → (c < 128) × (dashes_after d c ≡ 0)
    by_view (Stands m e o n l) = absurd (none_or_some d c cs text m h)
    by_view (Opens i g m e) = (omega (arith, i), no_dash d c 60 i refl)
    by_view (Ends i g m e) = (omega (arith, i), no_dash d c 60 i refl)
    by_view (Closes i g m e) = (omega (arith, i), no_dash d c 62 i refl)

pub mark_ascii : (d c : ℕ) (cs text : List ℕ) → mark_text d c cs ≡ Some text → c < 128
mark_ascii d c cs text h = (some_mark d c cs text h).0

pub mark_step : (all text : List ℕ) (at dashes : ℕ) → at < length all → marked 0 all ≡ take at all ++ marked dashes (drop at all) → mark_text dashes (slice_index all at) (drop (at + 1) all) ≡ Some text →
    marked 0 all ≡ take at all ++ (text ++ marked 0 (drop (at + 1) all))
mark_step all text at dashes l i n =
    let c = slice_index all at in
    let rest : drop at all ≡ c ∷ drop (at + 1) all = rw (add-one, drop-cons all at 0) refl in
    i ∙ (ap (λ t. take at all ++ marked dashes t) rest ∙ (ap (λ t. take at all ++ t) (marked_as dashes c (drop (at + 1) all) (Some text) n) ∙ ap (λ n. take at all ++ (text ++ marked n (drop (at + 1) all))) (some_mark dashes c (drop (at + 1) all) text n).1))

-- what is left after a place
pub whole_rest : (all : List ℕ) (at : ℕ) → take (length all - (at + 1)) (drop (at + 1) all) ≡ drop (at + 1) all
whole_rest all at = take_all (length all - (at + 1)) (drop (at + 1) all) (rw length-drop (omega arith))

pub all_stand : (all : List ℕ) (at dashes : ℕ) → length all ≤ at → marked 0 all ≡ take at all ++ marked dashes (drop at all) → marked 0 all ≡ all
all_stand all at dashes l i =
    i ∙ (ap (λ t. take at all ++ marked dashes t) (drop_all at all l) ∙ (ap (λ t. take at all ++ t) (marked_nil dashes) ∙ (append-nil (take at all) ∙ take_all at all l)))

pub dashes_small : (d c : ℕ) → dashes_after d c ≤ suc d
dashes_small d c = chosen (λ n. n ≤ suc d) (c == 45) (suc d) 0 (λ _. omega arith) (λ _. omega arith)

-- the text may be cut after a mark
pub after_mark : (t s : List ℕ) (at : ℕ) → t ≡ s → IsUtf8 s → at < length t → slice_index t at < 128 → IsCharBoundary s (at + 1)
after_mark t s at e u l a = IsCharBoundary-after_ascii s at u (subst (λ x. at < length x) e l) (subst (λ x. slice_index x at < 128) e a)
