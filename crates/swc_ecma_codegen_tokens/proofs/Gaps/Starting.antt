-- What a text begins with is all that the gap rules look at.
use Rattle.std.proofs.Common.{◌≡◌, ◌⊎◌, inl, inr, ℕ, Bool, true, false, not, ◌&&◌, ◌||◌, ◌==◌, cond, List, [], ◌∷◌, codes, refl, sym, ◌∙◌, ap, subst, get_or, nat_lt, nat_le, ◌≤◌, ◌-◌, arith}
use Rattle.std.specs.Str.{chars, chars_after}
use Rattle.std.proofs.lemmas.Bool.{and_parts, eqb-true, leb-true, lt-ltb, ne_eqb, or_cases, or_left, or_right, false_from_ne_true, true≢false}
use Rattle.swc_ecma_codegen_grammar.proofs.CharLaws.{digit_part, part_below}
use Rattle.swc_ecma_codegen_grammar.specs.Chars.{begins_digit, is_digit, is_part, is_letter}
use Rattle.swc_ecma_codegen_grammar.specs.Texts.{is_same, begins}
use Rattle.swc_ecma_codegen_grammar.specs.GapRules.{PreviousToken, fuses}
use Rattle.swc_ecma_codegen_tokens.specs.Starts as starts
use Rattle.swc_ecma_codegen_tokens.specs.Starts.{order, class_in, mark_start, char_start, start_class, begins_letter, begins_name, begins_quote}
use Rattle.swc_ecma_codegen_tokens.specs.declared.starts.StartClass.{StartClass}
use Rattle.swc_ecma_codegen_tokens.specs.declared.starts.StartClass.TheVariants as start
use Rattle.swc_ecma_codegen_tokens.proofs.Gaps.NoPunctuator.{is_in, all_pass, passes, marks, and_false, stranger_same, stranger_apart, dot_same, dash_same, other_same}

-- a text of each class
unfoldable pub samples : List (List ℕ)
samples = codes "a" ∷ codes "0" ∷ codes ".0" ∷ codes "." ∷ codes "--" ∷ codes "{" ∷ codes "}" ∷ codes "(" ∷ codes ")" ∷ codes "[" ∷ codes "]" ∷ codes ";" ∷ codes "," ∷ codes "<" ∷ codes ">" ∷ codes "=" ∷ codes "!" ∷ codes "+" ∷ codes "-" ∷ codes "*" ∷ codes "%" ∷ codes "&" ∷ codes "|" ∷ codes "^" ∷ codes "~" ∷ codes "?" ∷ codes ":" ∷ codes "/" ∷ codes "@" ∷ codes "" ∷ []

unfoldable pub sample : StartClass → List ℕ
sample s = get_or samples (order s) []

either : (b : Bool) → (b ≡ true) ⊎ (b ≡ false)
either true = inl refl
either false = inr refl

no_digit : (c : ℕ) → is_digit c ≡ true → is_in c marks ≡ false
unfolding all_pass marks is_digit
no_digit c h = false_from_ne_true (is_in c marks) (λ e. true≢false (sym (passes (λ d. not (is_digit d)) c marks refl e) ∙ ap not h))

no_name : (c : ℕ) → (is_part c || (c == 92)) ≡ true → is_in c marks ≡ false
unfolding all_pass marks is_digit is_part is_letter
no_name c h = false_from_ne_true (is_in c marks) (λ e. true≢false (sym (passes (λ d. not (is_part d || (d == 92))) c marks refl e) ∙ ap not h))

-- ---- the class of a punctuator's first character

same_text : (t p : List ℕ) → is_same t p ≡ true → t ≡ p
unfolding is_same
same_text [] [] h = refl
same_text [] (d ∷ p) h = absurd (true≢false (sym h))
same_text (c ∷ t) [] h = absurd (true≢false (sym h))
same_text (c ∷ t) (d ∷ p) h = let q = and_parts (c == d) (is_same t p) h in (λ i. eqb-true c d q.0 i ∷ same_text t p q.1 i)

marked : (c : ℕ) → is_in c marks ≡ true → sample (mark_start c) ≡ c ∷ []
unfolding all_pass marks mark_start starts.marks class_in sample samples order is_same
marked c h = same_text _ _ (passes (λ d. is_same (sample (mark_start d)) (d ∷ [])) c marks refl h)

unmarked_in : (c : ℕ) (ms : List (ℕ × StartClass)) → all_pass (λ m. is_in m.0 marks) ms ≡ true → is_in c marks ≡ false → class_in c ms ≡ start.Rest
unfolding class_in all_pass
unmarked_in c [] a h = refl
unmarked_in c (m ∷ ms) a h =
    let p = and_parts (is_in m.0 marks) (all_pass (λ x. is_in x.0 marks) ms) a in
    let other : (c == m.0) ≡ false = false_from_ne_true (c == m.0) (λ e. true≢false (sym (ap (λ x. is_in x marks) (eqb-true c m.0 e) ∙ p.0) ∙ h)) in
    ap (λ b. cond b m.1 (class_in c ms)) other ∙ unmarked_in c ms p.1 h

unmarked : (c : ℕ) → is_in c marks ≡ false → mark_start c ≡ start.Rest
unfolding mark_start starts.marks all_pass is_in marks
unmarked c h = unmarked_in c starts.marks refl h

-- ---- each class

abbrev chosen : Bool → Bool → Bool → Bool → StartClass → StartClass
chosen dot dash digit name mark = cond dot start.DotDigit (cond dash start.MinusMinus (cond digit start.Digit (cond name start.NameCharacter mark)))

Same : PreviousToken → ℕ → List ℕ → Type 0
Same l c n = fuses l (c ∷ n) ≡ fuses l (sample (start_class (c ∷ n)))

-- by the class, and a text of that class
by_class : (l : PreviousToken) (c : ℕ) (n : List ℕ) (s : StartClass) → start_class (c ∷ n) ≡ s → fuses l (c ∷ n) ≡ fuses l (sample s) → Same l c n
unfolding Same
by_class l c n s e h = h ∙ ap (λ x. fuses l (sample x)) (sym e)

at_dot : (l : PreviousToken) (c : ℕ) (n m : List ℕ) → (c == 46) ≡ true → begins_digit n ≡ begins_digit m → fuses l (c ∷ n) ≡ fuses l (46 ∷ m)
at_dot l c n m e h = ap (λ x. fuses l (x ∷ n)) (eqb-true c 46 e) ∙ dot_same l n m h

at_dash : (l : PreviousToken) (c : ℕ) (n m : List ℕ) → (c == 45) ≡ true → begins (codes "-") n ≡ begins (codes "-") m → fuses l (c ∷ n) ≡ fuses l (45 ∷ m)
at_dash l c n m e h = ap (λ x. fuses l (x ∷ n)) (eqb-true c 45 e) ∙ dash_same l n m h

and_rest : (a b : Bool) → (a && b) ≡ false → a ≡ true → b ≡ false
and_rest true b h e = h
and_rest false b h e = absurd (true≢false (sym e))

-- the first character of a punctuator
marked_same : (l : PreviousToken) (c : ℕ) (n : List ℕ) → ((c == 46) && begins_digit n) ≡ false → ((c == 45) && begins (codes "-") n) ≡ false → is_in c marks ≡ true → fuses l (c ∷ n) ≡ fuses l (sample (mark_start c))
unfolding begins_digit begins
marked_same l c n h k m =
    (elim (either (c == 46)) [
      | inl e ↦ at_dot l c n [] e (and_rest (c == 46) (begins_digit n) h e) ∙ ap (λ x. fuses l (x ∷ [])) (sym (eqb-true c 46 e))
      | inr e ↦ elim (either (c == 45)) [
        | inl f ↦ at_dash l c n [] f (and_rest (c == 45) (begins (codes "-") n) k f) ∙ ap (λ x. fuses l (x ∷ [])) (sym (eqb-true c 45 f))
        | inr f ↦ other_same l c n [] e f
      ]
    ])
    ∙ ap (fuses l) (sym (marked c m))

-- What a text begins with is all that the gap rules look at.
pub same_beginning : (l : PreviousToken) (text : List ℕ) → fuses l text ≡ fuses l (sample (start_class text))
unfolding Same start_class char_start fuses sample samples order begins_digit begins is_digit is_part is_letter is_in marks
same_beginning l [] = refl
same_beginning l (c ∷ n) =
    elim (either ((c == 46) && begins_digit n)) [
      | inl h ↦ let p = and_parts (c == 46) (begins_digit n) h in by_class l c n start.DotDigit (ap (λ b. chosen b ((c == 45) && begins (codes "-") n) (is_digit c) (is_part c || (c == 92)) (mark_start c)) h) (at_dot l c n (48 ∷ []) p.0 p.1)
      | inr h ↦ elim (either ((c == 45) && begins (codes "-") n)) [
        | inl k ↦ let p = and_parts (c == 45) (begins (codes "-") n) k in by_class l c n start.MinusMinus (λ i. chosen (h i) (k i) (is_digit c) (is_part c || (c == 92)) (mark_start c)) (at_dash l c n (45 ∷ []) p.0 p.1)
        | inr k ↦ elim (either (is_digit c)) [
          | inl d ↦ by_class l c n start.Digit (λ i. chosen (h i) (k i) (d i) (is_part c || (c == 92)) (mark_start c)) (stranger_same l c 48 n [] (no_digit c d) refl d (ap (λ b. b || (c == 92)) (digit_part c d)))
          | inr d ↦ elim (either (is_part c || (c == 92))) [
            | inl p ↦ by_class l c n start.NameCharacter (λ i. chosen (h i) (k i) (d i) (p i) (mark_start c)) (stranger_same l c 97 n [] (no_name c p) refl d p)
            | inr p ↦ elim (either (is_in c marks)) [
              | inl m ↦ by_class l c n (mark_start c) (λ i. chosen (h i) (k i) (d i) (p i) (mark_start c)) (marked_same l c n h k m)
              | inr m ↦ by_class l c n start.Rest ((λ i. chosen (h i) (k i) (d i) (p i) (mark_start c)) ∙ unmarked c m) (stranger_apart l c n m d p)
            ]
          ]
        ]
      ]
    ]

-- ---- small letters

first_letter : (c : ℕ) (cs : List ℕ) → nat_lt c 128 ≡ true → chars (c ∷ cs) ≡ c ∷ chars cs
unfolding chars
first_letter c [] h = ap (λ b. chars_after (cond b 0 (cond (nat_lt c 224) 1 (cond (nat_lt c 240) 2 3))) (cond b c (cond (nat_lt c 224) (c - 192) (cond (nat_lt c 240) (c - 224) (c - 240)))) []) h
first_letter c (d ∷ ds) h = ap (λ b. chars_after (cond b 0 (cond (nat_lt c 224) 1 (cond (nat_lt c 240) 2 3))) (cond b c (cond (nat_lt c 224) (c - 192) (cond (nat_lt c 240) (c - 224) (c - 240)))) (d ∷ ds)) h

letter_class : (c : ℕ) (n : List ℕ) → 65 ≤ c → c ≤ 122 → is_letter c ≡ true → start_class (c ∷ n) ≡ start.NameCharacter
unfolding start_class char_start is_digit
letter_class c n low high h =
    let no_dot : (c == 46) ≡ false = ne_eqb c 46 (λ e. absurd (omega (arith, e))) in
    let no_dash : (c == 45) ≡ false = ne_eqb c 45 (λ e. absurd (omega (arith, e))) in
    let no_digit : nat_le c 57 ≡ false = false_from_ne_true (nat_le c 57) (λ e. let f = leb-true c 57 e in absurd (omega arith)) in
    let digits : (nat_le 48 c && nat_le c 57) ≡ false = ap (λ b. nat_le 48 c && b) no_digit ∙ and_false (nat_le 48 c) in
    let part : is_part c ≡ true = part_below c (omega arith) (or_left _ _ (or_left _ _ (or_left _ _ h))) in
    λ i. chosen (no_dot i && begins_digit n) (no_dash i && begins (codes "-") n) (digits i) (part i || (c == 92)) (mark_start c)

-- so does a text that begins with a letter
letter_first : (c : ℕ) (cs : List ℕ) → 65 ≤ c → c ≤ 122 → is_letter c ≡ true → start_class (chars (c ∷ cs)) ≡ start.NameCharacter
letter_first c cs low high h =
    let ascii : nat_lt c 128 ≡ true = lt-ltb c 128 (omega arith) in
    ap start_class (first_letter c cs ascii) ∙ letter_class c (chars cs) low high h

-- a text that begins with a small letter begins as a name does
pub letter_start : (t : List ℕ) → begins_letter t ≡ true → start_class (chars t) ≡ start.NameCharacter
unfolding is_letter
letter_start [] h = absurd (true≢false (sym h))
letter_start (c ∷ cs) h =
    let p = and_parts (nat_le 97 c) (nat_le c 122) h in
    let low : 97 ≤ c = leb-true 97 c p.0 in
    let high : c ≤ 122 = leb-true c 122 p.1 in
    letter_first c cs (omega arith) high (or_right _ _ h)

-- and one that begins with any letter of ASCII, `$` or `_`
any_letter : (c : ℕ) (cs : List ℕ) → is_letter c ≡ true → start_class (chars (c ∷ cs)) ≡ start.NameCharacter
unfolding is_letter
any_letter c cs h = elim (or_cases (nat_le 65 c && nat_le c 90) (nat_le 97 c && nat_le c 122) h) [
  | inl capital ↦
      let p = and_parts (nat_le 65 c) (nat_le c 90) capital in
      let low : 65 ≤ c = leb-true 65 c p.0 in
      let high : c ≤ 90 = leb-true c 90 p.1 in
      letter_first c cs low (omega arith) h
  | inr small ↦ letter_start (c ∷ cs) small
]

dollar_first : (cs : List ℕ) → start_class (chars (36 ∷ cs)) ≡ start.NameCharacter
unfolding start_class char_start is_digit is_part is_letter
dollar_first cs = ap start_class (first_letter 36 cs refl)

underscore_first : (cs : List ℕ) → start_class (chars (95 ∷ cs)) ≡ start.NameCharacter
unfolding start_class char_start is_digit is_part is_letter
underscore_first cs = ap start_class (first_letter 95 cs refl)

pub name_start : (t : List ℕ) → begins_name t ≡ true → start_class (chars t) ≡ start.NameCharacter
name_start [] h = absurd (true≢false (sym h))
name_start (c ∷ cs) h = elim (or_cases (is_letter c || (c == 36)) (c == 95) h) [
  | inl other ↦ elim (or_cases (is_letter c) (c == 36) other) [
    | inl letter ↦ any_letter c cs letter
    | inr dollar ↦ subst (λ z. start_class (chars (z ∷ cs)) ≡ start.NameCharacter) (sym (eqb-true c 36 dollar)) (dollar_first cs)
  ]
  | inr underscore ↦ subst (λ z. start_class (chars (z ∷ cs)) ≡ start.NameCharacter) (sym (eqb-true c 95 underscore)) (underscore_first cs)
]

-- ---- the class of a text, by its first character

pub dot_class : (n : List ℕ) (b : Bool) → begins_digit n ≡ b → start_class (46 ∷ n) ≡ cond b start.DotDigit start.Dot
unfolding start_class char_start mark_start starts.marks class_in is_digit is_part is_letter
dot_class n b h = ap (λ x. cond x start.DotDigit start.Dot) h

pub dash_class : (n : List ℕ) (b : Bool) → begins (codes "-") n ≡ b → start_class (45 ∷ n) ≡ cond b start.MinusMinus start.Minus
unfolding start_class char_start mark_start starts.marks class_in is_digit is_part is_letter
dash_class n b h = ap (λ x. cond x start.MinusMinus start.Minus) h

pub plain_class : (c : ℕ) (n : List ℕ) → (c ≡ 46 → ⊥) → (c ≡ 45 → ⊥) → start_class (c ∷ n) ≡ char_start c
unfolding start_class
plain_class c n h k =
    ap (λ b. cond (b && begins_digit n) start.DotDigit (cond ((c == 45) && begins (codes "-") n) start.MinusMinus (char_start c))) (ne_eqb c 46 h)
    ∙ ap (λ b. cond (b && begins (codes "-") n) start.MinusMinus (char_start c)) (ne_eqb c 45 k)

-- ---- strings and numbers

-- a text that begins with a digit is of the class of digits
pub digit_class : (t : List ℕ) → begins_digit t ≡ true → start_class t ≡ start.Digit
unfolding begins_digit is_digit char_start
digit_class [] h = absurd (true≢false (sym h))
digit_class (c ∷ cs) h =
    plain_class c cs (λ e. true≢false (sym h ∙ ap is_digit e)) (λ e. true≢false (sym h ∙ ap is_digit e)) ∙ ap (λ b. cond b start.Digit (cond (is_part c || (c == 92)) start.NameCharacter (mark_start c))) h

-- the same of a text whose first byte is that of a digit
pub digit_start : (t : List ℕ) → begins_digit t ≡ true → start_class (chars t) ≡ start.Digit
unfolding begins_digit is_digit
digit_start [] h = absurd (true≢false (sym h))
digit_start (c ∷ cs) h =
    let high : c ≤ 57 = leb-true c 57 (and_parts (nat_le 48 c) (nat_le c 57) h).1 in
    let ascii : nat_lt c 128 ≡ true = lt-ltb c 128 (omega arith) in
    ap start_class (first_letter c cs ascii) ∙ digit_class (c ∷ chars cs) h

-- a text that begins with the byte of a quotation mark is of no class that a token may fuse with
pub quote_start : (t : List ℕ) → begins_quote t ≡ true → start_class (chars t) ≡ start.Rest
unfolding start_class char_start mark_start starts.marks class_in is_digit is_part is_letter
quote_start [] h = absurd (true≢false (sym h))
quote_start (c ∷ cs) h = elim (or_cases (c == 34) (c == 39) h) [
  | inl e ↦ ap (λ z. start_class (chars (z ∷ cs))) (eqb-true c 34 e) ∙ ap start_class (first_letter 34 cs refl)
  | inr e ↦ ap (λ z. start_class (chars (z ∷ cs))) (eqb-true c 39 e) ∙ ap start_class (first_letter 39 cs refl)
]
