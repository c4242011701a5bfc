-- A string for inline scripts: its characters, its bytes, and what it doesn't hold.
use Rattle.std.proofs.Common.{◌≡◌, ℕ, suc, ◌<◌, ◌≤◌, Bool, true, false, ◌&&◌, ◌||◌, ◌==◌, List, [], ◌∷◌, ◌++◌, length, get_or, nat_le, refl, sym, ap, ◌∙◌, arith, inl, inr, codes, Some, None, append-nil}
use Rattle.std.specs.Char.{encode_utf8}
use Rattle.std.specs.List.{list_all}
use Rattle.std.proofs.lemmas.Bool.{cases_lt, cases_Bool, and_from, and_parts, or_from, eqb-true, ne_eqb, le-leb, leb-true, lt-ltb, false≢true, false_from_ne_true}
use Rattle.std.proofs.lemmas.Str.{encodes-append, encodes-IsAscii, encode_ascii, chars-encodes, length-encode, len_utf8_bounds, inside_one}
use lib.Utf8.{encodes, scalars, scalar, low_scalar}
use Rattle.swc_ecma_codegen_grammar.specs.Numbers.{is_either}
use Rattle.swc_ecma_codegen_grammar.specs.CodeUnits.{begins_like}
use Rattle.swc_ecma_codegen_literals.specs.InlineScripts.{is_tag_end, comment_start, script_end, comment_end, dashes_after, mark_text, marked, holds, IsInlineSafe}
use Rattle.swc_ecma_codegen_literals.proofs.EscapeTexts.{is_ascii_char}
use Rattle.swc_ecma_codegen_literals.proofs.SpelledTexts.{ascii_from_all}
use Rattle.swc_ecma_codegen_literals.proofs.Fronts.{like_bytes}
use Rattle.swc_ecma_codegen_literals.proofs.InlineMarks.{Mark, Stands, Opens, Ends, Closes, view, marked_nil, marked_as, none_or_some}

-- what holds of each character of a text, and of ASCII
all_one : (p : ℕ → Bool) → ((x : ℕ) → x < 128 → p x ≡ true) → (d c : ℕ) (cs : List ℕ) → p c ≡ true → ((n : ℕ) → list_all p (marked n cs) ≡ true) → list_all p (marked d (c ∷ cs)) ≡ true
all_one p low d c cs h r = by_view (view d c cs)
  where
    by_view : Mark d c cs → list_all p (marked d (c ∷ cs)) ≡ true
    by_view (Stands m e o n l) = ap (list_all p) e ∙ and_from (p c) _ h (r (dashes_after d c))
    by_view (Opens i g m e) = ap (list_all p) e ∙ rw (low 92 (omega arith), low 120 (omega arith), low 51 (omega arith), low 99 (omega arith)) (r 0)
    by_view (Ends i g m e) = ap (list_all p) e ∙ rw (low 60 (omega arith), low 92 (omega arith)) (r 0)
    by_view (Closes i g m e) = ap (list_all p) e ∙ rw (low 92 (omega arith), low 120 (omega arith), low 51 (omega arith), low 101 (omega arith)) (r 0)

marked_all : (p : ℕ → Bool) → ((x : ℕ) → x < 128 → p x ≡ true) → (d : ℕ) (cs : List ℕ) → list_all p cs ≡ true → list_all p (marked d cs) ≡ true
marked_all p low d [] h = ap (list_all p) (marked_nil d)
marked_all p low d (c ∷ cs) h = let s = and_parts (p c) (list_all p cs) h in all_one p low d c cs s.0 (λ n. marked_all p low n cs s.1)

pub marked_ascii : (d : ℕ) (cs : List ℕ) → list_all is_ascii_char cs ≡ true → list_all is_ascii_char (marked d cs) ≡ true
marked_ascii d cs h = marked_all is_ascii_char (λ x l. lt-ltb x 128 l) d cs h

scalars_each : (cs : List ℕ) → scalars cs ≡ list_all scalar cs
scalars_each [] = refl
scalars_each (c ∷ cs) = ap (λ b. scalar c && b) (scalars_each cs)

pub marked_scalars : (d : ℕ) (cs : List ℕ) → scalars cs ≡ true → scalars (marked d cs) ≡ true
marked_scalars d cs h = scalars_each (marked d cs) ∙ marked_all scalar (λ x l. low_scalar x (omega arith)) d cs (sym (scalars_each cs) ∙ h)

-- the bytes of a text with marks are its bytes with marks
same_ascii : (c a : ℕ) → a < 128 → (c == a) ≡ true → c < 128
same_ascii c a l h = let e = eqb-true c a h in omega arith

letter_ascii : (a b c : ℕ) → a < 128 → b < 128 → is_either a b c ≡ true → c < 128
unfolding is_either
letter_ascii a b c l m h = elim (cases_Bool (c == a)) [
  | inl y ↦ same_ascii c a l y
  | inr n ↦ same_ascii c b m (sym (ap (λ x. x || (c == b)) n) ∙ h)
]

tag_end_ascii : (c : ℕ) → is_tag_end c ≡ true → c < 128
unfolding is_tag_end
tag_end_ascii c h = elim (cases_lt c 128) [
  | inl l ↦ l
  | inr g ↦
      let n : (a : ℕ) → a < 128 → (c == a) ≡ false = λ a l. ne_eqb c a (λ e. omega (arith, e, l, g)) in
      absurd (false≢true (sym (rw (n 62 (omega arith), n 32 (omega arith), n 9 (omega arith), n 10 (omega arith), n 12 (omega arith), n 13 (omega arith)) refl) ∙ h))
]

start_bytes : (cs : List ℕ) → scalars cs ≡ true → begins_like comment_start (encodes cs) ≡ begins_like comment_start cs
unfolding comment_start
start_bytes cs s =
    sym (like_bytes ((λ c. c == 33) ∷ (λ c. c == 45) ∷ (λ c. c == 45) ∷ []) (encodes cs) (λ c h. same_ascii c 33 (omega arith) h, (λ c h. same_ascii c 45 (omega arith) h, (λ c h. same_ascii c 45 (omega arith) h, tt))) (cs, (s, refl))) ∙
    ap (begins_like comment_start) (chars-encodes cs s)

end_bytes : (cs : List ℕ) → scalars cs ≡ true → begins_like script_end (encodes cs) ≡ begins_like script_end cs
unfolding script_end
end_bytes cs s =
    sym (like_bytes ((λ c. c == 47) ∷ is_either 115 83 ∷ is_either 99 67 ∷ is_either 114 82 ∷ is_either 105 73 ∷ is_either 112 80 ∷ is_either 116 84 ∷ is_tag_end ∷ []) (encodes cs)
    (λ c h. same_ascii c 47 (omega arith) h, (λ c h. letter_ascii 115 83 c (omega arith) (omega arith) h, (λ c h. letter_ascii 99 67 c (omega arith) (omega arith) h, (λ c h. letter_ascii 114 82 c (omega arith) (omega arith) h, (λ c h. letter_ascii 105 73 c (omega arith) (omega arith) h, (λ c h. letter_ascii 112 80 c (omega arith) (omega arith) h, (λ c h. letter_ascii 116 84 c (omega arith) (omega arith) h, (tag_end_ascii, tt))))))))
    (cs, (s, refl))) ∙
    ap (begins_like script_end) (chars-encodes cs s)

same_mark : (d c : ℕ) (cs : List ℕ) → scalars cs ≡ true → mark_text d c (encodes cs) ≡ mark_text d c cs
unfolding mark_text
same_mark d c cs s = rw (start_bytes cs s, end_bytes cs s) refl

front_bytes : (f rest : List ℕ) → list_all is_ascii_char f ≡ true → encodes (f ++ rest) ≡ f ++ encodes rest
front_bytes f rest h = encodes-append f rest ∙ ap (λ x. x ++ encodes rest) (encodes-IsAscii f (ascii_from_all f h))

low_bytes : (d c : ℕ) (cs : List ℕ) → c < 128 → scalars cs ≡ true → ((n : ℕ) → encodes (marked n cs) ≡ marked n (encodes cs)) → encodes (marked d (c ∷ cs)) ≡ marked d (c ∷ encodes cs)
low_bytes d c cs l s r = by_view (view d c cs)
  where
    by_view : Mark d c cs → encodes (marked d (c ∷ cs)) ≡ marked d (c ∷ encodes cs)
    by_view (Stands m e o n k) =
        ap encodes e ∙ (front_bytes (c ∷ []) (marked (dashes_after d c) cs) (and_from (is_ascii_char c) true (lt-ltb c 128 l) refl) ∙
        (ap (λ t. c ∷ t) (r (dashes_after d c)) ∙ sym (marked_as d c (encodes cs) None (same_mark d c cs s ∙ m))))
    by_view (Opens i g m e) =
        ap encodes e ∙ (front_bytes (codes "\\x3c") (marked 0 cs) refl ∙ (ap (λ t. 92 ∷ 120 ∷ 51 ∷ 99 ∷ t) (r 0) ∙
        sym (marked_as d c (encodes cs) (Some (codes "\\x3c")) (same_mark d c cs s ∙ m) ∙ ap (λ n. 92 ∷ 120 ∷ 51 ∷ 99 ∷ marked n (encodes cs)) (ap (λ x. dashes_after d x) i))))
    by_view (Ends i g m e) =
        ap encodes e ∙ (front_bytes (codes "<\\") (marked 0 cs) refl ∙ (ap (λ t. 60 ∷ 92 ∷ t) (r 0) ∙
        sym (marked_as d c (encodes cs) (Some (codes "<\\")) (same_mark d c cs s ∙ m) ∙ ap (λ n. 60 ∷ 92 ∷ marked n (encodes cs)) (ap (λ x. dashes_after d x) i))))
    by_view (Closes i g m e) =
        ap encodes e ∙ (front_bytes (codes "\\x3e") (marked 0 cs) refl ∙ (ap (λ t. 92 ∷ 120 ∷ 51 ∷ 101 ∷ t) (r 0) ∙
        sym (marked_as d c (encodes cs) (Some (codes "\\x3e")) (same_mark d c cs s ∙ m) ∙ ap (λ n. 92 ∷ 120 ∷ 51 ∷ 101 ∷ marked n (encodes cs)) (ap (λ x. dashes_after d x) i))))

high_byte : (d b : ℕ) (bs : List ℕ) → nat_le 128 b ≡ true → marked d (b ∷ bs) ≡ b ∷ marked 0 bs
unfolding marked mark_text
high_byte d b bs h =
    let n : (a : ℕ) → a < 128 → (b == a) ≡ false = λ a l. ne_eqb b a (λ e. false≢true (sym (rw e (small a l)) ∙ h)) in
    rw (n 60 (omega arith), n 62 (omega arith), n 45 (omega arith)) refl
  where
    small : (a : ℕ) → a < 128 → nat_le 128 a ≡ false
    small a l = false_from_ne_true (nat_le 128 a) (λ t. let g = leb-true 128 a t in omega arith)

high_bytes : (d : ℕ) (bs rest : List ℕ) → list_all (nat_le 128) bs ≡ true → 0 < length bs → marked d (bs ++ rest) ≡ bs ++ marked 0 rest
high_bytes d [] rest h l = absurd (omega (arith, l))
high_bytes d (b ∷ []) rest h l = high_byte d b rest (and_parts (nat_le 128 b) true h).0
high_bytes d (b ∷ c ∷ bs) rest h l =
    let p = and_parts (nat_le 128 b) (list_all (nat_le 128) (c ∷ bs)) h in
    high_byte d b (c ∷ bs ++ rest) p.0 ∙ ap (λ t. b ∷ t) (high_bytes 0 (c ∷ bs) rest p.1 (omega arith))

each_high : (bs : List ℕ) → ((k : ℕ) → k < length bs → 128 ≤ get_or bs k 0) → list_all (nat_le 128) bs ≡ true
each_high [] h = refl
each_high (b ∷ bs) h = and_from (nat_le 128 b) (list_all (nat_le 128) bs) (le-leb 128 b (h 0 (omega arith))) (each_high bs (λ k l. h (suc k) (omega (arith, l))))

pub wide_char : (c : ℕ) → 128 ≤ c → list_all (nat_le 128) (encode_utf8 c) ≡ true
wide_char c g = each_high (encode_utf8 c) (λ k l. at k l)
  where
    at : (k : ℕ) → k < length (encode_utf8 c) → 128 ≤ get_or (encode_utf8 c) k 0
    at k l = elim (cases_lt (get_or (encode_utf8 c) k 0) 128) [
      | inl s ↦ let e = inside_one c [] (encode_utf8 c) k (sym (append-nil (encode_utf8 c))) l s in absurd (omega (arith, e, s, g))
      | inr n ↦ n
    ]

high_stands : (d c : ℕ) (cs : List ℕ) → 128 ≤ c → marked d (c ∷ cs) ≡ c ∷ marked 0 cs
high_stands d c cs g = high_byte d c cs (le-leb 128 c g)

one_bytes : (d c : ℕ) (cs : List ℕ) → scalars cs ≡ true → ((n : ℕ) → encodes (marked n cs) ≡ marked n (encodes cs)) → encodes (marked d (c ∷ cs)) ≡ marked d (encode_utf8 c ++ encodes cs)
one_bytes d c cs s r = elim (cases_lt c 128) [
  | inl l ↦ low_bytes d c cs l s r ∙ ap (λ x. marked d (x ++ encodes cs)) (sym (encode_ascii c l))
  | inr g ↦
      let some : 0 < length (encode_utf8 c) = (let m = (len_utf8_bounds c).0 in rw length-encode (omega (arith, m))) in
      ap encodes (high_stands d c cs g) ∙ (ap (λ x. encode_utf8 c ++ x) (r 0) ∙ sym (high_bytes d (encode_utf8 c) (encodes cs) (wide_char c g) some))
]

pub marked_bytes : (d : ℕ) (cs : List ℕ) → scalars cs ≡ true → encodes (marked d cs) ≡ marked d (encodes cs)
marked_bytes d [] s = ap encodes (marked_nil d) ∙ sym (marked_nil d)
marked_bytes d (c ∷ cs) s = let t = (and_parts (scalar c) (scalars cs) s).1 in one_bytes d c cs t (λ n. marked_bytes n cs t)

-- What isn't held. A text begins so only where it did before, since no test takes `<` or a backslash.
abbrev Plain : List (ℕ → Bool) → Type 0
Plain [] = Unit {0}
Plain (p ∷ ps) = ((p 60 ≡ false) × (p 92 ≡ false)) × Plain ps

no_front : (b : Bool) → b ≡ false → (more : Bool) → (b && more) ≡ true → ⊥
no_front b n more h = false≢true (sym n ∙ (and_parts b more h).0)

front_one : (p : ℕ → Bool) (ps : List (ℕ → Bool)) (d c : ℕ) (cs : List ℕ) → (p 60 ≡ false) × (p 92 ≡ false) → ((n : ℕ) → begins_like ps (marked n cs) ≡ true → begins_like ps cs ≡ true) →
    begins_like (p ∷ ps) (marked d (c ∷ cs)) ≡ true → begins_like (p ∷ ps) (c ∷ cs) ≡ true
unfolding begins_like
front_one p ps d c cs a r h = by_view (view d c cs)
  where
    by_view : Mark d c cs → (p c && begins_like ps cs) ≡ true
    by_view (Stands m e o n l) = let s = and_parts (p c) (begins_like ps (marked (dashes_after d c) cs)) (ap (begins_like (p ∷ ps)) (sym e) ∙ h) in and_from (p c) (begins_like ps cs) s.0 (r (dashes_after d c) s.1)
    by_view (Opens i g m e) = absurd (no_front (p 92) a.1 _ (ap (begins_like (p ∷ ps)) (sym e) ∙ h))
    by_view (Ends i g m e) = absurd (no_front (p 60) a.0 _ (ap (begins_like (p ∷ ps)) (sym e) ∙ h))
    by_view (Closes i g m e) = absurd (no_front (p 92) a.1 _ (ap (begins_like (p ∷ ps)) (sym e) ∙ h))

like_nothing : (cs : List ℕ) → begins_like [] cs ≡ true
unfolding begins_like
like_nothing cs = refl

front : (ps : List (ℕ → Bool)) → Plain ps → (d : ℕ) (cs : List ℕ) → begins_like ps (marked d cs) ≡ true → begins_like ps cs ≡ true
front [] a d cs h = like_nothing cs
front (p ∷ ps) a d [] h = ap (begins_like (p ∷ ps)) (sym (marked_nil d)) ∙ h
front (p ∷ ps) a d (c ∷ cs) h = front_one p ps d c cs a.0 (λ n g. front ps a.1 n cs g) h

-- neither `<!--` nor an end tag: what follows `<` where it stands
record Follows (ps : List (ℕ → Bool)) : Type 0 where
  plain : Plain ps
  backslash : (t : List ℕ) → begins_like ps (92 ∷ t) ≡ false
  nothing : begins_like ps [] ≡ false
  stands : (d c : ℕ) (cs : List ℕ) → mark_text d c cs ≡ None → ((c == 60) && begins_like ps cs) ≡ false

holds_one : (ps : List (ℕ → Bool)) (d c : ℕ) (cs : List ℕ) → Follows ps → ((n : ℕ) → holds ((λ x. x == 60) ∷ ps) (marked n cs) ≡ false) → holds ((λ x. x == 60) ∷ ps) (marked d (c ∷ cs)) ≡ false
unfolding holds begins_like
holds_one ps d c cs f r = by_view (view d c cs)
  where
    by_view : Mark d c cs → holds ((λ x. x == 60) ∷ ps) (marked d (c ∷ cs)) ≡ false
    by_view (Stands m e o n l) =
        ap (holds ((λ x. x == 60) ∷ ps)) e ∙
        or_from ((c == 60) && begins_like ps (marked (dashes_after d c) cs)) (holds ((λ x. x == 60) ∷ ps) (marked (dashes_after d c) cs))
        (false_from_ne_true ((c == 60) && begins_like ps (marked (dashes_after d c) cs)) (λ t. let s = and_parts (c == 60) (begins_like ps (marked (dashes_after d c) cs)) t in
        false≢true (sym (f.stands d c cs m) ∙ and_from (c == 60) (begins_like ps cs) s.0 (front ps f.plain (dashes_after d c) cs s.1))))
        (r (dashes_after d c))
    by_view (Opens i g m e) = ap (holds ((λ x. x == 60) ∷ ps)) e ∙ r 0
    by_view (Ends i g m e) = ap (holds ((λ x. x == 60) ∷ ps)) e ∙ or_from (begins_like ps (92 ∷ marked 0 cs)) (holds ((λ x. x == 60) ∷ ps) (marked 0 cs)) (f.backslash (marked 0 cs)) (r 0)
    by_view (Closes i g m e) = ap (holds ((λ x. x == 60) ∷ ps)) e ∙ r 0

holds_nothing : (ps : List (ℕ → Bool)) (d : ℕ) → holds ((λ x. x == 60) ∷ ps) (marked d []) ≡ false
unfolding holds begins_like marked
holds_nothing ps d = refl

holds_none : (ps : List (ℕ → Bool)) (d : ℕ) (cs : List ℕ) → Follows ps → holds ((λ x. x == 60) ∷ ps) (marked d cs) ≡ false
holds_none ps d [] f = holds_nothing ps d
holds_none ps d (c ∷ cs) f = holds_one ps d c cs f (λ n. holds_none ps n cs f)

start_stands : (d c : ℕ) (cs : List ℕ) → mark_text d c cs ≡ None → ((c == 60) && begins_like comment_start cs) ≡ false
start_stands d c cs h = by_view (view d c cs)
  where
    by_view : Mark d c cs → ((c == 60) && begins_like comment_start cs) ≡ false
    by_view (Stands m e o n l) = o
    by_view (Opens i g m e) = absurd (none_or_some d c cs (codes "\\x3c") h m)
    by_view (Ends i g m e) = absurd (none_or_some d c cs (codes "<\\") h m)
    by_view (Closes i g m e) = absurd (none_or_some d c cs (codes "\\x3e") h m)

end_stands : (d c : ℕ) (cs : List ℕ) → mark_text d c cs ≡ None → ((c == 60) && begins_like script_end cs) ≡ false
end_stands d c cs h = by_view (view d c cs)
  where
    by_view : Mark d c cs → ((c == 60) && begins_like script_end cs) ≡ false
    by_view (Stands m e o n l) = n
    by_view (Opens i g m e) = absurd (none_or_some d c cs (codes "\\x3c") h m)
    by_view (Ends i g m e) = absurd (none_or_some d c cs (codes "<\\") h m)
    by_view (Closes i g m e) = absurd (none_or_some d c cs (codes "\\x3e") h m)

start_follows : Follows comment_start
unfolding comment_start begins_like
start_follows = record { plain = ((refl, refl), ((refl, refl), ((refl, refl), tt))); backslash = λ t. refl; nothing = refl; stands = start_stands }

end_follows : Follows script_end
unfolding script_end begins_like is_either is_tag_end
end_follows = record { plain = ((refl, refl), ((refl, refl), ((refl, refl), ((refl, refl), ((refl, refl), ((refl, refl), ((refl, refl), ((refl, refl), tt)))))))); backslash = λ t. refl; nothing = refl; stands = end_stands }

-- `-->`: after two dashes no `>` stands
two_dashes : (d : ℕ) (cs : List ℕ) → begins_like ((λ x. x == 62) ∷ []) (marked (suc (suc d)) cs) ≡ false
unfolding begins_like
two_dashes d [] = ap (begins_like ((λ x. x == 62) ∷ [])) (marked_nil (suc (suc d)))
two_dashes d (c ∷ cs) = by_view (view (suc (suc d)) c cs)
  where
    by_view : Mark (suc (suc d)) c cs → begins_like ((λ x. x == 62) ∷ []) (marked (suc (suc d)) (c ∷ cs)) ≡ false
    by_view (Stands m e o n l) =
        ap (begins_like ((λ x. x == 62) ∷ [])) e ∙ ap (λ b. b && true) (false_from_ne_true (c == 62) (λ t. false≢true (sym l ∙ and_from (c == 62) (nat_le 2 (suc (suc d))) t (le-leb 2 (suc (suc d)) (omega arith)))))
    by_view (Opens i g m e) = ap (begins_like ((λ x. x == 62) ∷ [])) e
    by_view (Ends i g m e) = ap (begins_like ((λ x. x == 62) ∷ [])) e
    by_view (Closes i g m e) = ap (begins_like ((λ x. x == 62) ∷ [])) e

dash_then : (d c : ℕ) (ps : List (ℕ → Bool)) (cs : List ℕ) → begins_like ps (marked (suc d) cs) ≡ false → ((c == 45) && begins_like ps (marked (dashes_after d c) cs)) ≡ false
dash_then d c ps cs h = elim (cases_Bool (c == 45)) [ inl y ↦ rw y h | inr n ↦ rw n refl ]

one_dash : (d : ℕ) (cs : List ℕ) → begins_like ((λ x. x == 45) ∷ (λ x. x == 62) ∷ []) (marked (suc d) cs) ≡ false
unfolding begins_like
one_dash d [] = ap (begins_like ((λ x. x == 45) ∷ (λ x. x == 62) ∷ [])) (marked_nil (suc d))
one_dash d (c ∷ cs) = by_view (view (suc d) c cs)
  where
    by_view : Mark (suc d) c cs → begins_like ((λ x. x == 45) ∷ (λ x. x == 62) ∷ []) (marked (suc d) (c ∷ cs)) ≡ false
    by_view (Stands m e o n l) = ap (begins_like ((λ x. x == 45) ∷ (λ x. x == 62) ∷ [])) e ∙ dash_then (suc d) c ((λ x. x == 62) ∷ []) cs (two_dashes d cs)
    by_view (Opens i g m e) = ap (begins_like ((λ x. x == 45) ∷ (λ x. x == 62) ∷ [])) e
    by_view (Ends i g m e) = ap (begins_like ((λ x. x == 45) ∷ (λ x. x == 62) ∷ [])) e
    by_view (Closes i g m e) = ap (begins_like ((λ x. x == 45) ∷ (λ x. x == 62) ∷ [])) e

end_one : (d c : ℕ) (cs : List ℕ) → ((n : ℕ) → holds comment_end (marked n cs) ≡ false) → holds comment_end (marked d (c ∷ cs)) ≡ false
unfolding holds begins_like comment_end
end_one d c cs r = by_view (view d c cs)
  where
    by_view : Mark d c cs → holds comment_end (marked d (c ∷ cs)) ≡ false
    by_view (Stands m e o n l) =
        ap (holds comment_end) e ∙
        or_from ((c == 45) && begins_like ((λ x. x == 45) ∷ (λ x. x == 62) ∷ []) (marked (dashes_after d c) cs)) (holds comment_end (marked (dashes_after d c) cs))
        (dash_then d c ((λ x. x == 45) ∷ (λ x. x == 62) ∷ []) cs (one_dash d cs)) (r (dashes_after d c))
    by_view (Opens i g m e) = ap (holds comment_end) e ∙ r 0
    by_view (Ends i g m e) = ap (holds comment_end) e ∙ r 0
    by_view (Closes i g m e) = ap (holds comment_end) e ∙ r 0

end_nothing : (d : ℕ) → holds comment_end (marked d []) ≡ false
unfolding holds begins_like marked comment_end
end_nothing d = refl

no_end : (d : ℕ) (cs : List ℕ) → holds comment_end (marked d cs) ≡ false
no_end d [] = end_nothing d
no_end d (c ∷ cs) = end_one d c cs (λ n. no_end n cs)

pub marked_safe : (d : ℕ) (cs : List ℕ) → IsInlineSafe (marked d cs)
marked_safe d cs = record { no_script_end = holds_none script_end d cs end_follows; no_comment_start = holds_none comment_start d cs start_follows; no_comment_end = no_end d cs }
