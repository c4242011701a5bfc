-- What the plain reader takes as the next token is the one token of its kind, and where it takes none there is none.
use Rattle.std.proofs.Common.{Bool, List, [], ap, append_assoc, ap₂, arith, codes, drop, false, inl, inr, length, nat_lt, not, refl, subst, sym, take, true, ℕ, ◌&&◌, ◌++◌, ◌+◌, ◌-◌, ◌<◌, ◌||◌, ◌∙◌, ◌∷◌, ◌≡◌, ◌≤◌}
use Rattle.std.proofs.Math.Seq.{drop-append-add, drop-append_seam, take-append-add, take-append_seam, take-length}
use Rattle.std.proofs.lemmas.Bool.{and_from, and_parts, cases_lt, false_from_ne_true, lt-ltb, ltb-true, not-true, or_cases, or_from, or_left, or_parts, or_right, true≢false}
use Rattle.std.proofs.lemmas.List.{length-append, length-drop, length-take-le, take-append-drop}
use Rattle.swc_ecma_codegen_grammar.proofs.Conditions.{same_line_unspelled}
use Rattle.swc_ecma_codegen_grammar.proofs.Heads.{some_text}
use Rattle.swc_ecma_codegen_grammar.proofs.Marks.{ending_punctuator, opener_cases}
use Rattle.swc_ecma_codegen_grammar.proofs.Reading.{no_trivia}
use Rattle.swc_ecma_codegen_grammar.proofs.Skips.{skipped, solid_no_piece}
use Rattle.swc_ecma_codegen_grammar.proofs.Tables.{eq_of_same, same_refl}
use Rattle.swc_ecma_codegen_grammar.proofs.Unique.{block_opener, line_opener, not_child, solid}
use Rattle.swc_ecma_codegen_grammar.specs.Chars.{begins_digit, is_one_line}
use Rattle.swc_ecma_codegen_grammar.specs.LongestMatch.{IsLongest, Stands, goes_on, is_numeric_kind, openers}
use Rattle.swc_ecma_codegen_grammar.specs.Reading.{ReadsOne, Starts, fits, is_jsx_text_kind, opens_comment, some_part, some_shape, stands_at}
use Rattle.swc_ecma_codegen_grammar.specs.Reads.{is_close_by, is_hashbang_kind}
use Rattle.swc_ecma_codegen_grammar.specs.Skipping.{Skips}
use Rattle.swc_ecma_codegen_grammar.specs.Texts.{begins, is_among, is_same}
use Rattle.swc_ecma_codegen_grammar.specs.Tokens.{Attribute, Child, Closing, FirstLine, Goal, InTag, Ordinary, RegularExpression, TemplateTail, Token, goal, has_shape, token_of, NoToken}
use Rattle.swc_ecma_codegen_grammar.specs.Trivia.{pieces_text, remarks_of}
use Rattle.swc_ecma_codegen_grammar.specs.declared.kinds.Kind.{Kind}
use Rattle.swc_ecma_codegen_grammar.specs.declared.kinds.Kind.TheVariants.{BigInt, Close, Ending, Hashbang, JsxName, JsxOpen, JsxString, JsxText, Name, Number, PrivateName, Punctuator, Regex, Str, Template, TemplateRest, Word, SameLine}
use Rattle.swc_ecma_codegen_grammar.specs.declared.kinds.TemplatePart.{TemplatePart}

part_of : (holds : TemplatePart → Bool) (t o : Bool) → holds (record { tagged = t; opens = o }) ≡ true → some_part holds ≡ true
unfolding some_part
part_of holds false false h = or_left _ _ (or_left (holds (record { tagged = false; opens = false })) _ h)
part_of holds false true h = or_left _ _ (or_right (holds (record { tagged = false; opens = false })) _ h)
part_of holds true false h = or_right _ _ (or_left (holds (record { tagged = true; opens = false })) _ h)
part_of holds true true h = or_right _ _ (or_right (holds (record { tagged = true; opens = false })) _ h)

some_part_of : (holds : TemplatePart → Bool) (p : TemplatePart) → holds p ≡ true → some_part holds ≡ true
some_part_of holds p h = part_of holds p.tagged p.opens h

some_part_from : (holds : TemplatePart → Bool) → some_part holds ≡ true → (p : TemplatePart) × (holds p ≡ true)
unfolding some_part
some_part_from holds h =
    elim (or_cases (holds (record { tagged = false; opens = false }) || holds (record { tagged = false; opens = true })) (holds (record { tagged = true; opens = false }) || holds (record { tagged = true; opens = true })) h) [
      | inl a ↦ elim (or_cases (holds (record { tagged = false; opens = false })) (holds (record { tagged = false; opens = true })) a) [ inl x ↦ (record { tagged = false; opens = false }, x) | inr x ↦ (record { tagged = false; opens = true }, x) ]
      | inr a ↦ elim (or_cases (holds (record { tagged = true; opens = false })) (holds (record { tagged = true; opens = true })) a) [ inl x ↦ (record { tagged = true; opens = false }, x) | inr x ↦ (record { tagged = true; opens = true }, x) ]
    ]

ending_shape : (t : List ℕ) → has_shape Ending t ≡ true → some_shape Ordinary t ≡ true
unfolding some_shape has_shape
ending_shape t h = or_right (has_shape Word t) _ (or_right (has_shape Name t) _ (or_right (has_shape PrivateName t) _ (or_left (has_shape Punctuator t) _ (ending_punctuator t h))))

-- a token of a kind is one of its goal
pub some_shape_of : (k : Kind) (t : List ℕ) → has_shape k t ≡ true → some_shape (goal k) t ≡ true
unfolding goal some_shape
some_shape_of Word t h = or_left (has_shape Word t) _ h
some_shape_of Name t h = or_right (has_shape Word t) _ (or_left (has_shape Name t) _ h)
some_shape_of PrivateName t h = or_right (has_shape Word t) _ (or_right (has_shape Name t) _ (or_left (has_shape PrivateName t) _ h))
some_shape_of Punctuator t h = or_right (has_shape Word t) _ (or_right (has_shape Name t) _ (or_right (has_shape PrivateName t) _ (or_left (has_shape Punctuator t) _ h)))
some_shape_of Ending t h = ending_shape t h
some_shape_of Number t h = or_right (has_shape Word t) _ (or_right (has_shape Name t) _ (or_right (has_shape PrivateName t) _ (or_right (has_shape Punctuator t) _ (or_left (has_shape Number t) _ h))))
some_shape_of BigInt t h = or_right (has_shape Word t) _ (or_right (has_shape Name t) _ (or_right (has_shape PrivateName t) _ (or_right (has_shape Punctuator t) _ (or_right (has_shape Number t) _ (or_left (has_shape BigInt t) _ h)))))
some_shape_of Str t h = or_right (has_shape Word t) _ (or_right (has_shape Name t) _ (or_right (has_shape PrivateName t) _ (or_right (has_shape Punctuator t) _ (or_right (has_shape Number t) _ (or_right (has_shape BigInt t) _ (or_left (has_shape Str t) _ h))))))
some_shape_of JsxOpen t h = or_right (has_shape Word t) _ (or_right (has_shape Name t) _ (or_right (has_shape PrivateName t) _ (or_right (has_shape Punctuator t) _ (or_right (has_shape Number t) _ (or_right (has_shape BigInt t) _ (or_right (has_shape Str t) _ (or_left (has_shape JsxOpen t) _ h)))))))
some_shape_of (Template p) t h = or_right (has_shape Word t) _ (or_right (has_shape Name t) _ (or_right (has_shape PrivateName t) _ (or_right (has_shape Punctuator t) _ (or_right (has_shape Number t) _ (or_right (has_shape BigInt t) _ (or_right (has_shape Str t) _ (or_right (has_shape JsxOpen t) _ (some_part_of (λ part. has_shape (Template part) t) p h))))))))
some_shape_of Regex t h = h
some_shape_of (TemplateRest p) t h = some_part_of (λ part. has_shape (TemplateRest part) t) p h
some_shape_of Close t h = h
some_shape_of JsxName t h = h
some_shape_of JsxString t h = h
some_shape_of JsxText t h = h
some_shape_of Hashbang t h = h
some_shape_of SameLine t h = absurd (same_line_unspelled t h)

-- a token of a goal is one of some kind
pub data IsOfKind (g : Goal) (t : List ℕ) : Type 0 where
  of_kind : (k : Kind) → goal k ≡ g → has_shape k t ≡ true → IsOfKind g t

pub some_kind : (g : Goal) (t : List ℕ) → some_shape g t ≡ true → IsOfKind g t
unfolding some_shape goal
some_kind RegularExpression t h = of_kind Regex refl h
some_kind TemplateTail t h = let p = some_part_from (λ part. has_shape (TemplateRest part) t) h in of_kind (TemplateRest p.0) refl p.1
some_kind FirstLine t h = of_kind Hashbang refl h
some_kind Closing t h = of_kind Close refl h
some_kind InTag t h = of_kind JsxName refl h
some_kind Attribute t h = of_kind JsxString refl h
some_kind Child t h = of_kind JsxText refl h
some_kind NoToken t h = absurd (true≢false (sym h))
some_kind Ordinary t h =
    elim (or_cases (has_shape Word t) _ h) [
      | inl x ↦ of_kind Word refl x
      | inr h1 ↦ elim (or_cases (has_shape Name t) _ h1) [
        | inl x ↦ of_kind Name refl x
        | inr h2 ↦ elim (or_cases (has_shape PrivateName t) _ h2) [
          | inl x ↦ of_kind PrivateName refl x
          | inr h3 ↦ elim (or_cases (has_shape Punctuator t) _ h3) [
            | inl x ↦ of_kind Punctuator refl x
            | inr h4 ↦ elim (or_cases (has_shape Number t) _ h4) [
              | inl x ↦ of_kind Number refl x
              | inr h5 ↦ elim (or_cases (has_shape BigInt t) _ h5) [
                | inl x ↦ of_kind BigInt refl x
                | inr h6 ↦ elim (or_cases (has_shape Str t) _ h6) [
                  | inl x ↦ of_kind Str refl x
                  | inr h7 ↦ elim (or_cases (has_shape JsxOpen t) _ h7) [
                    | inl x ↦ of_kind JsxOpen refl x
                    | inr h8 ↦ let p = some_part_from (λ part. has_shape (Template part) t) h8 in of_kind (Template p.0) refl p.1
                  ]
                ]
              ]
            ]
          ]
        ]
      ]
    ]

-- where a token stands, and where none does
choice_apart : (front rest : List ℕ) → (front ≡ codes "?." → begins_digit rest ≡ false) → not (is_same front (codes "?.") && begins_digit rest) ≡ true
choice_apart front rest h =
    ap not (false_from_ne_true _ (λ e.
    let p = and_parts (is_same front (codes "?.")) (begins_digit rest) e in
    true≢false (sym p.1 ∙ h (eq_of_same front (codes "?.") p.0))))

choice_from : (front rest : List ℕ) → not (is_same front (codes "?.") && begins_digit rest) ≡ true → front ≡ codes "?." → begins_digit rest ≡ false
choice_from front rest h e =
    false_from_ne_true _ (λ d. true≢false (sym (and_from (is_same front (codes "?.")) (begins_digit rest) (subst (λ z. is_same z (codes "?.") ≡ true) (sym e) (same_refl (codes "?."))) d) ∙ not-true _ h))

pub stands_here : (kind : Kind) (text front rest : List ℕ) (other : Token) → text ≡ front ++ rest → goal other.kind ≡ goal kind → Stands other front rest → stands_at kind text (length front) ≡ true
unfolding stands_at
stands_here kind text front rest other e g s =
    let a : take (length front) text ≡ front = ap (take (length front)) e ∙ take-append_seam front rest in
    let b : drop (length front) text ≡ rest = ap (drop (length front)) e ∙ drop-append_seam front rest in
    and_from (some_shape (goal kind) (take (length front) text)) _
    (subst (λ z. some_shape (goal kind) z ≡ true) (sym a) (subst (λ z. some_shape z front ≡ true) g (some_shape_of other.kind front s.spells.shape)))
    (subst (λ z. not (is_same z (codes "?.") && begins_digit (drop (length front) text)) ≡ true) (sym a) (subst (λ z. not (is_same front (codes "?.") && begins_digit z) ≡ true) (sym b) (choice_apart front rest s.no_digit)))

-- the parts of the test
pub record Fitting (first : Bool) (kind : Kind) (text own rest : List ℕ) (n : ℕ) : Type 0 where
  pub some : 0 < n
  pub at_start : is_hashbang_kind kind ≡ true → first ≡ true
  pub shape : has_shape kind own ≡ true
  pub no_comment : is_jsx_text_kind kind ≡ false → opens_comment text ≡ false
  pub ends : is_numeric_kind kind ≡ true → goes_on rest ≡ false

or_start : (first hash : Bool) → (first || not hash) ≡ true → hash ≡ true → first ≡ true
or_start true hash h e = refl
or_start false true h e = absurd (true≢false (sym h))
or_start false false h e = absurd (true≢false (sym e))

or_comment : (is opens : Bool) → (is || not opens) ≡ true → is ≡ false → opens ≡ false
or_comment true opens h e = absurd (true≢false e)
or_comment false true h e = absurd (true≢false (sym h))
or_comment false false h e = refl

not_both : (a b : Bool) → not (a && b) ≡ true → a ≡ true → b ≡ false
not_both true true h e = absurd (true≢false (sym h))
not_both true false h e = refl
not_both false b h e = absurd (true≢false (sym e))

pub fitting : (first : Bool) (kind : Kind) (text : List ℕ) (n : ℕ) → fits first kind text n ≡ true → Fitting first kind text (take n text) (drop n text) n
unfolding fits
fitting first kind text n h =
    let a = and_parts (nat_lt 0 n && (first || not (is_hashbang_kind kind))) _ h in
    let b = and_parts (nat_lt 0 n) (first || not (is_hashbang_kind kind)) a.0 in
    let c = and_parts (has_shape kind (take n text)) _ a.1 in
    let d = and_parts (is_jsx_text_kind kind || not (opens_comment text)) (not (is_numeric_kind kind && goes_on (drop n text))) c.1 in
    record {
      some = ltb-true 0 n b.0;
      at_start = or_start first (is_hashbang_kind kind) b.1;
      shape = c.0;
      no_comment = or_comment (is_jsx_text_kind kind) (opens_comment text) d.0;
      ends = not_both (is_numeric_kind kind) (goes_on (drop n text)) d.1;
    }

start_from : (first hash : Bool) → (hash ≡ true → first ≡ true) → (first || not hash) ≡ true
start_from true hash h = refl
start_from false true h = absurd (true≢false (sym (h refl)))
start_from false false h = refl

comment_from : (is opens : Bool) → (is ≡ false → opens ≡ false) → (is || not opens) ≡ true
comment_from true opens h = refl
comment_from false true h = absurd (true≢false (h refl))
comment_from false false h = refl

both_from : (a b : Bool) → (a ≡ true → b ≡ false) → not (a && b) ≡ true
both_from true true h = absurd (true≢false (h refl))
both_from true false h = refl
both_from false b h = refl

pub fitting_fits : (first : Bool) (kind : Kind) (text : List ℕ) (n : ℕ) → Fitting first kind text (take n text) (drop n text) n → fits first kind text n ≡ true
unfolding fits
fitting_fits first kind text n f =
    and_from (nat_lt 0 n && (first || not (is_hashbang_kind kind))) _
    (and_from (nat_lt 0 n) (first || not (is_hashbang_kind kind)) (lt-ltb 0 n f.some) (start_from first (is_hashbang_kind kind) f.at_start))
    (and_from (has_shape kind (take n text)) _ f.shape
    (and_from (is_jsx_text_kind kind || not (opens_comment text)) _ (comment_from (is_jsx_text_kind kind) (opens_comment text) f.no_comment)
    (both_from (is_numeric_kind kind) (goes_on (drop n text)) f.ends)))

-- no opener stands here
opener_apart : (text : List ℕ) → opens_comment text ≡ false → (o : List ℕ) → is_among o openers ≡ true → begins o text ≡ false
unfolding opens_comment
opener_apart text h o k =
    let a = or_parts (begins (codes "//") text || begins (codes "/*") text) (begins (codes "<!--") text || begins (codes "-->") text) h in
    let b = or_parts (begins (codes "//") text) (begins (codes "/*") text) a.0 in
    let c = or_parts (begins (codes "<!--") text) (begins (codes "-->") text) a.1 in
    opener_cases (λ o. begins o text ≡ false) o k b.0 b.1 c.0 c.1

html_opener : is_among (codes "<!--") openers ≡ true
unfolding is_among is_same openers
html_opener = refl

html_closer : is_among (codes "-->") openers ≡ true
unfolding is_among is_same openers
html_closer = refl

none_opens : (text : List ℕ) → ((o : List ℕ) → is_among o openers ≡ true → begins o text ≡ false) → opens_comment text ≡ false
unfolding opens_comment
none_opens text h =
    or_from (begins (codes "//") text || begins (codes "/*") text) _
    (or_from (begins (codes "//") text) _ (h (codes "//") line_opener) (h (codes "/*") block_opener))
    (or_from (begins (codes "<!--") text) _ (h (codes "<!--") html_opener) (h (codes "-->") html_closer))

text_kind : (kind : Kind) → (goal kind ≡ Child → ⊥) → is_jsx_text_kind kind ≡ false
unfolding goal is_jsx_text_kind
text_kind JsxText g = absurd (g refl)
text_kind Word g = refl
text_kind Name g = refl
text_kind PrivateName g = refl
text_kind Punctuator g = refl
text_kind Ending g = refl
text_kind Number g = refl
text_kind BigInt g = refl
text_kind Str g = refl
text_kind Regex g = refl
text_kind (Template p) g = refl
text_kind (TemplateRest p) g = refl
text_kind Close g = refl
text_kind JsxName g = refl
text_kind JsxString g = refl
text_kind JsxOpen g = refl
text_kind Hashbang g = refl
text_kind SameLine g = refl

no_text_goal : (kind : Kind) → is_jsx_text_kind kind ≡ false → goal kind ≡ Child → ⊥
unfolding goal is_jsx_text_kind
no_text_goal JsxText n g = true≢false n
no_text_goal kind n g = cc

-- how many characters the longest token has
abbrev pub IsMost : Kind → List ℕ → ℕ → Type 0
IsMost kind start n = (m : ℕ) → n < m → m ≤ length start → stands_at kind start m ≡ false

some_more : (n : ℕ) (c : ℕ) (m : List ℕ) → n < n + length (c ∷ m)
some_more n c m = omega arith

longest_here : (kind : Kind) (start : List ℕ) (n : ℕ) → n ≤ length start → IsMost kind start n → (other : Token) (more left : List ℕ) → goal other.kind ≡ goal kind → drop n start ≡ more ++ left → Stands other (take n start ++ more) left → more ≡ []
longest_here kind start n w most other [] left g e s = refl
longest_here kind start n w most other (c ∷ m) left g e s =
    let front : List ℕ = take n start ++ c ∷ m in
    let whole : start ≡ front ++ left = sym (take-append-drop n start) ∙ ap (λ z. take n start ++ z) e ∙ sym (append_assoc (take n start) (c ∷ m) left) in
    let t = stands_here kind start front left other whole g s in
    let l : length front ≡ n + length (c ∷ m) = length-append (take n start) (c ∷ m) ∙ ap (λ z. z + length (c ∷ m)) (length-take-le n start w) in
    let above : n < length front = subst (λ z. n < z) (sym l) (some_more n c m) in
    let all : length start ≡ length front + length left = ap length whole ∙ length-append front left in
    let within : length front ≤ length start = omega (arith, all) in
    absurd (true≢false (sym t ∙ most (length front) above within))

-- the trivia before a start
pub gap_of : (text gap start : List ℕ) → text ≡ gap ++ start → take (length text - length start) text ≡ gap
gap_of text gap start e =
    let all : length text ≡ length gap + length start = ap length e ∙ length-append gap start in
    let n : length text - length start ≡ length gap = omega (arith, all) in
    ap₂ take n e ∙ take-append_seam gap start

pub read_one_sound : (first joined : Bool) (kind : Kind) (text start : List ℕ) (n : ℕ) → Starts kind text start → n ≤ length start → (0 < n → stands_at kind start n ≡ true) → IsMost kind start n → fits first kind start n ≡ true → (joined ≡ true → is_one_line (take (length text - length start) text) ≡ true) → ReadsOne first joined kind text (take n start) (drop n start)
unfolding stands_at token_of
read_one_sound first joined kind text start n s w here most f o =
    let t = fitting first kind start n f in
    let at = and_parts (some_shape (goal kind) (take n start)) _ (here t.some) in
    let whole = take-append-drop n start in
    record {
      gap = s.gap;
      before = s.before;
      is_text = s.is_text ∙ ap (λ z. s.gap ++ z) (sym whole);
      trivia = s.trivia;
      close_by = s.close_by;
      at_start = t.at_start;
      in_line = λ e. ap is_one_line (sym (gap_of text s.gap start s.is_text)) ∙ o e;
      is_longest = record {
        stands = record { spells = record { shape = t.shape; value = refl }; no_digit = choice_from (take n start) (drop n start) at.1 };
        longest = longest_here kind start n w most;
        no_comment = λ g o k. subst (λ z. begins o z ≡ false) (sym whole) (opener_apart start (t.no_comment (text_kind kind g)) o k);
        number_ends = t.ends;
      };
    }

-- a longer one of the goal, where there is one
longer_there : (kind : Kind) (start own rest : List ℕ) (n : ℕ) → start ≡ own ++ rest → length own < n → n ≤ length start → stands_at kind start n ≡ true → IsLongest (token_of kind own) own rest → ⊥
unfolding stands_at token_of
longer_there kind start own rest n e l w t h =
    let k : ℕ = n - length own in
    let sum : n ≡ length own + k = omega (arith, l) in
    let a : take n start ≡ own ++ take k rest = ap (take n) e ∙ ap (λ z. take z (own ++ rest)) sum ∙ take-append-add own rest k in
    let b : drop n start ≡ drop k rest = ap (drop n) e ∙ ap (λ z. drop z (own ++ rest)) sum ∙ drop-append-add own rest k in
    let at = and_parts (some_shape (goal kind) (take n start)) _ t in
    let found = some_kind (goal kind) (take n start) at.0 in
    none kind start own rest n k a b l at.1 e w h sum found
  where
    none : (kind : Kind) (start own rest : List ℕ) (n k : ℕ) → take n start ≡ own ++ take k rest → drop n start ≡ drop k rest → length own < n → not (is_same (take n start) (codes "?.") && begins_digit (drop n start)) ≡ true → start ≡ own ++ rest → n ≤ length start → IsLongest (token_of kind own) own rest → n ≡ length own + k → IsOfKind (goal kind) (take n start) → ⊥
    none kind start own rest n k a b l d e w h sum (of_kind x g s) =
        let stands : Stands (token_of x (own ++ take k rest)) (own ++ take k rest) (drop k rest) = record {
          spells = record { shape = subst (λ z. has_shape x z ≡ true) a s; value = refl };
          no_digit = λ f. subst (λ z. begins_digit z ≡ false) b (choice_from (take n start) (drop n start) d (a ∙ f));
        } in
        let m : take k rest ≡ [] = h.longest (token_of x (own ++ take k rest)) (take k rest) (drop k rest) g (sym (take-append-drop k rest)) stands in
        let all : length start ≡ length own + length rest = ap length e ∙ length-append own rest in
        let within : k ≤ length rest = omega (arith, all, sum, w) in
        let zero : k ≡ 0 = sym (length-take-le k rest within) ∙ ap length m in
        omega (arith, zero, sum, l)

text_of_child : (kind : Kind) → is_close_by kind ≡ false → goal kind ≡ Child → ⊥
text_of_child kind c g = not_child kind c g

pub read_one_complete : (first joined : Bool) (kind : Kind) (text start : List ℕ) (n : ℕ) → Starts kind text start → n ≤ length start → (0 < n → stands_at kind start n ≡ true) → IsMost kind start n → (own rest : List ℕ) → ReadsOne first joined kind text own rest → (own ≡ take n start) × (rest ≡ drop n start) × (fits first kind start n ≡ true) × (joined ≡ true → is_one_line (take (length text - length start) text) ≡ true)
unfolding token_of
read_one_complete first joined kind text start n s w here most own rest h =
    let e : start ≡ own ++ rest = s.only h.gap (own ++ rest) h.before h.trivia h.close_by (λ c. solid_no_piece (own ++ rest) (solid (token_of kind own) own rest (text_of_child kind c) h.is_longest)) h.is_text in
    let at : stands_at kind start (length own) ≡ true = stands_here kind start own rest (token_of kind own) e refl h.is_longest.stands in
    let all : length start ≡ length own + length rest = ap length e ∙ length-append own rest in
    let some : 0 < length own = some_own own h.is_longest.stands.spells.shape in
    let below : length own ≤ n = elim (cases_lt n (length own)) [ inl y ↦ absurd (true≢false (sym at ∙ most (length own) y (omega (arith, all)))) | inr y ↦ y ] in
    let above : n ≤ length own = elim (cases_lt (length own) n) [ inl y ↦ absurd (longer_there kind start own rest n e y w (here (omega (arith, y, some))) h.is_longest) | inr y ↦ y ] in
    let same : n ≡ length own = omega (arith, below, above) in
    let a : take n start ≡ own = ap₂ take same e ∙ take-append_seam own rest in
    let b : drop n start ≡ rest = ap₂ drop same e ∙ drop-append_seam own rest in (
      sym a,
      sym b,
      fitting_fits first kind start n (record {
        some = subst (λ z. 0 < z) (sym same) some;
        at_start = h.at_start;
        shape = subst (λ z. has_shape kind z ≡ true) (sym a) h.is_longest.stands.spells.shape;
        no_comment = λ g. none_opens start (λ o k. subst (λ z. begins o z ≡ false) (sym e) (h.is_longest.no_comment (no_text_goal kind g) o k));
        ends = λ k. subst (λ z. goes_on z ≡ false) (sym b) (h.is_longest.number_ends k);
      }),
      (λ o. ap is_one_line (gap_of text h.gap start (h.is_text ∙ ap (λ z. h.gap ++ z) (sym e))) ∙ h.in_line o),
    )
  where
    some_own : (t : List ℕ) → has_shape kind t ≡ true → 0 < length t
    some_own [] h = absurd (some_text kind h)
    some_own (c ∷ t) h = omega arith

-- where the trivia end
pub starts_close : (kind : Kind) (text : List ℕ) → is_close_by kind ≡ true → Starts kind text text
starts_close kind text c = record {
  gap = [];
  before = [];
  is_text = refl;
  trivia = no_trivia;
  close_by = λ e. refl;
  only = λ other u remarks t n s e. e ∙ ap (λ z. z ++ u) (n c);
}

pub starts_apart : (kind : Kind) (text start : List ℕ) → is_close_by kind ≡ false → Skips text start → Starts kind text start
starts_apart kind text start c s = record {
  gap = pieces_text s.pieces;
  before = remarks_of s.pieces;
  is_text = s.is_text;
  trivia = record { pieces = s.pieces; each = s.each; is_text = refl; are_remarks = refl };
  close_by = λ e. absurd (true≢false (sym e ∙ c));
  only = λ other u remarks t n p e. skipped text start other u remarks s t e (p c);
}

-- all that is left
pub rest_all : (n : ℕ) (t : List ℕ) → take (length t - n) (drop n t) ≡ drop n t
rest_all n t = ap (λ k. take k (drop n t)) (sym (length-drop n t)) ∙ take-length (drop n t)

pub starts_within : (kind : Kind) (text start : List ℕ) → Starts kind text start → length start ≤ length text
starts_within kind text start s = let all : length text ≡ length s.gap + length start = ap length s.is_text ∙ length-append s.gap start in omega (arith, all)

pub in_line_from : (joined : Bool) (gap : List ℕ) → (not joined || is_one_line gap) ≡ true → joined ≡ true → is_one_line gap ≡ true
in_line_from true gap h e = h
in_line_from false gap h e = absurd (true≢false (sym e))

pub in_line_to : (joined : Bool) (gap : List ℕ) → (joined ≡ true → is_one_line gap ≡ true) → (not joined || is_one_line gap) ≡ true
in_line_to true gap h = h refl
in_line_to false gap h = refl
