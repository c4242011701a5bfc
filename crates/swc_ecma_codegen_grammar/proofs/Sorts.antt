-- The sorts of ordinary tokens, told by their first characters.
use Rattle.std.proofs.Common.{Bool, List, [], ap, arith, cond, false, inl, inr, nat_le, refl, subst, sym, true, ℕ, ◌&&◌, ◌++◌, ◌==◌, ◌||◌, ◌∙◌, ◌∷◌, ◌≡◌, ◌≤◌}
use Rattle.std.proofs.lemmas.Bool.{agree_below, agree_below_at, and_from, and_parts, and_right, cond-false, cond-true, false_from_ne_true, leb-true, or_cases, or_from, true≢false}
use Rattle.swc_ecma_codegen_grammar.proofs.CharLaws.{digit_part}
use Rattle.swc_ecma_codegen_grammar.proofs.Conditions.{at_eq}
use Rattle.swc_ecma_codegen_grammar.proofs.JsxShapes.{jsx_open_punctuator}
use Rattle.swc_ecma_codegen_grammar.proofs.Marks.{NoName, ending_punctuator, mark_head, punctuator_among}
use Rattle.swc_ecma_codegen_grammar.proofs.NameShapes.{name_head, private_head, some_name, some_private, starts_name, word_name}
use Rattle.swc_ecma_codegen_grammar.proofs.NumberShapes.{big_numeric, number_head, number_numeric, some_number}
use Rattle.swc_ecma_codegen_grammar.proofs.StringShapes.{some_string, string_head}
use Rattle.swc_ecma_codegen_grammar.proofs.TemplateShapes.{some_template, template_head}
use Rattle.swc_ecma_codegen_grammar.specs.Chars.{begins_digit, is_digit, is_letter, is_quote, is_start}
use Rattle.swc_ecma_codegen_grammar.specs.Names.{is_name, is_private_name}
use Rattle.swc_ecma_codegen_grammar.specs.Numbers.{is_numeric}
use Rattle.swc_ecma_codegen_grammar.specs.Punctuators.{is_punctuator, punctuators}
use Rattle.swc_ecma_codegen_grammar.specs.Strings.{is_string}
use Rattle.swc_ecma_codegen_grammar.specs.Templates.{is_template}
use Rattle.swc_ecma_codegen_grammar.specs.Texts.{is_among, is_empty}
use Rattle.swc_ecma_codegen_grammar.specs.Tokens.{Ordinary, goal, has_shape}
use Rattle.swc_ecma_codegen_grammar.specs.declared.kinds.Kind.{Kind}
use Rattle.swc_ecma_codegen_grammar.specs.declared.kinds.Kind.TheVariants.{BigInt, Close, Ending, Hashbang, JsxName, JsxOpen, JsxString, JsxText, Name, Number, PrivateName, Punctuator, Regex, Str, Template, TemplateRest, Word, SameLine}
use Rattle.swc_ecma_codegen_grammar.specs.declared.kinds.TemplatePart.{TemplatePart}

pub data Sort : Type 0 where
  Lettered Numbered Quoted Ticked Hashed Marked : Sort

unfoldable pub sort_of : List ℕ → Sort
sort_of [] = Marked
sort_of (c ∷ n) = cond (starts_name c) Lettered (cond (is_digit c || ((c == 46) && begins_digit n)) Numbered (cond (is_quote c) Quoted (cond (c == 96) Ticked (cond (c == 35) Hashed Marked))))

unfoldable pub sort : Kind → Sort
sort Word = Lettered
sort Name = Lettered
sort Number = Numbered
sort BigInt = Numbered
sort Str = Quoted
sort PrivateName = Hashed
sort (Template o) = Ticked
sort x = Marked

-- no digit begins a name
none_both : ℕ → Bool
none_both c = is_digit c && starts_name c

none_below : agree_below none_both (λ c. false) 58 ≡ true
unfolding none_both is_digit starts_name is_start is_letter
none_below = refl

digit_starts_none : (c : ℕ) → is_digit c ≡ true → starts_name c ≡ false
unfolding is_digit none_both
digit_starts_none c h =
    let l : c ≤ 57 = leb-true c 57 (and_parts (nat_le 48 c) (nat_le c 57) h).1 in
    let e : (is_digit c && starts_name c) ≡ false = agree_below_at none_both (λ c. false) 58 c none_below (omega arith) in
    false_from_ne_true _ (λ s. true≢false (sym (and_from (is_digit c) (starts_name c) h s) ∙ e))

number_starts_none : (c : ℕ) (n : List ℕ) → (is_digit c || ((c == 46) && begins_digit n)) ≡ true → starts_name c ≡ false
unfolding starts_name is_start is_letter is_digit
number_starts_none c n h =
    elim (or_cases (is_digit c) ((c == 46) && begins_digit n) h) [
      | inl d ↦ digit_starts_none c d
      | inr d ↦ at_eq (λ z. starts_name z ≡ false) c 46 (and_parts (c == 46) (begins_digit n) d).0 refl
    ]

letters : (c : ℕ) (n : List ℕ) → starts_name c ≡ true → sort_of (c ∷ n) ≡ Lettered
unfolding sort_of
letters c n h = cond-true (starts_name c) _ _ h

digits : (c : ℕ) (n : List ℕ) → starts_name c ≡ false → (is_digit c || ((c == 46) && begins_digit n)) ≡ true → sort_of (c ∷ n) ≡ Numbered
unfolding sort_of
digits c n h k = cond-false (starts_name c) _ _ h ∙ cond-true (is_digit c || ((c == 46) && begins_digit n)) _ _ k

quotes : (c : ℕ) (n : List ℕ) → is_quote c ≡ true → sort_of (c ∷ n) ≡ Quoted
unfolding sort_of is_quote starts_name is_start is_letter is_digit
quotes c n h = elim (or_cases (c == 34) (c == 39) h) [ inl x ↦ at_eq (λ z. sort_of (z ∷ n) ≡ Quoted) c 34 x refl | inr x ↦ at_eq (λ z. sort_of (z ∷ n) ≡ Quoted) c 39 x refl ]

marks : (c : ℕ) (n : List ℕ) → NoName c → is_digit c ≡ false → begins_digit n ≡ false → sort_of (c ∷ n) ≡ Marked
unfolding sort_of
marks c n h d b =
    cond-false (starts_name c) _ _ h.start
    ∙ cond-false (is_digit c || ((c == 46) && begins_digit n)) _ _ (or_from (is_digit c) ((c == 46) && begins_digit n) d (and_right (c == 46) _ b))
    ∙ cond-false (is_quote c) Quoted _ h.quote
    ∙ cond-false (c == 96) Ticked _ h.tick
    ∙ cond-false (c == 35) Hashed Marked h.hash

ticks : (c : ℕ) (n : List ℕ) → (c == 96) ≡ true → sort_of (c ∷ n) ≡ Ticked
unfolding sort_of is_quote starts_name is_start is_letter is_digit
ticks c n h = at_eq (λ z. sort_of (z ∷ n) ≡ Ticked) c 96 h refl

hashes : (c : ℕ) (n : List ℕ) → (c == 35) ≡ true → sort_of (c ∷ n) ≡ Hashed
unfolding sort_of is_quote starts_name is_start is_letter is_digit
hashes c n h = at_eq (λ z. sort_of (z ∷ n) ≡ Hashed) c 35 h refl

digit_not_mark : (c : ℕ) → NoName c → is_digit c ≡ false
digit_not_mark c h = false_from_ne_true _ (λ d. true≢false (sym (digit_part c d) ∙ h.part))

name_sort : (t : List ℕ) → is_name t ≡ true → sort_of t ≡ Lettered
name_sort [] h = absurd (some_name h)
name_sort (c ∷ n) h = letters c n (name_head c n h)

number_sort : (t : List ℕ) → is_numeric t ≡ true → sort_of t ≡ Numbered
number_sort [] h = absurd (some_number h)
number_sort (c ∷ n) h = let d = number_head c n h in digits c n (number_starts_none c n d) d

string_sort : (t : List ℕ) → is_string t ≡ true → sort_of t ≡ Quoted
string_sort [] h = absurd (some_string h)
string_sort (c ∷ n) h = quotes c n (string_head c n h)

private_sort : (t : List ℕ) → is_private_name t ≡ true → sort_of t ≡ Hashed
private_sort [] h = absurd (some_private h)
private_sort (c ∷ n) h = hashes c n (private_head c n h).0

template_sort : (o : TemplatePart) (t : List ℕ) → is_template o t ≡ true → sort_of t ≡ Ticked
template_sort o [] h = absurd (some_template o h)
template_sort o (c ∷ n) h = ticks c n (template_head o c n h)

mark_sort : (t : List ℕ) → is_punctuator t ≡ true → sort_of t ≡ Marked
mark_sort t h = let m = mark_head t (punctuator_among t h) in subst (λ z. sort_of z ≡ Marked) (sym m.2) (marks m.0 m.1 m.3 (digit_not_mark m.0 m.3) m.4)

-- a text of the shape of an ordinary token is of its sort
pub shape_sort : (x : Kind) (t : List ℕ) → goal x ≡ Ordinary → has_shape x t ≡ true → sort_of t ≡ sort x
unfolding goal has_shape sort
shape_sort Word t g h = name_sort t (word_name t h)
shape_sort Name t g h = name_sort t h
shape_sort PrivateName t g h = private_sort t h
shape_sort Punctuator t g h = mark_sort t h
shape_sort Ending t g h = mark_sort t (ending_punctuator t h)
shape_sort Number t g h = number_sort t (number_numeric t h)
shape_sort BigInt t g h = number_sort t (big_numeric t h)
shape_sort Str t g h = string_sort t h
shape_sort (Template o) t g h = template_sort o t h
shape_sort JsxOpen t g h = mark_sort t (jsx_open_punctuator t h)
shape_sort Regex t g h = absurd (cc g)
shape_sort (TemplateRest o) t g h = absurd (cc g)
shape_sort Close t g h = absurd (cc g)
shape_sort JsxName t g h = absurd (cc g)
shape_sort JsxString t g h = absurd (cc g)
shape_sort JsxText t g h = absurd (cc g)
shape_sort Hashbang t g h = absurd (cc g)
shape_sort SameLine t g h = absurd (cc g)

-- one more character keeps the sort, but for a dot before a digit
pub sort_more : (d : ℕ) (n : List ℕ) (c : ℕ) (m : List ℕ) → ((d == 46) && (is_empty n && is_digit c)) ≡ false → sort_of (d ∷ (n ++ c ∷ m)) ≡ sort_of (d ∷ n)
unfolding sort_of begins_digit is_empty
sort_more d [] c m h = ap (λ b. cond (starts_name d) Lettered (cond (is_digit d || b) Numbered (cond (is_quote d) Quoted (cond (d == 96) Ticked (cond (d == 35) Hashed Marked))))) (h ∙ sym (and_right (d == 46) false refl))
sort_more d (e ∷ n) c m h = refl

-- what the sorts hold
pub of_letters : (y : Kind) (u : List ℕ) → goal y ≡ Ordinary → sort y ≡ Lettered → has_shape y u ≡ true → is_name u ≡ true
unfolding goal sort has_shape
of_letters Word u g s h = word_name u h
of_letters Name u g s h = h
of_letters y u g s h = absurd (cc)

pub of_digits : (y : Kind) (u : List ℕ) → goal y ≡ Ordinary → sort y ≡ Numbered → has_shape y u ≡ true → is_numeric u ≡ true
unfolding goal sort has_shape
of_digits Number u g s h = number_numeric u h
of_digits BigInt u g s h = big_numeric u h
of_digits y u g s h = absurd (cc)

pub of_quotes : (y : Kind) (u : List ℕ) → goal y ≡ Ordinary → sort y ≡ Quoted → has_shape y u ≡ true → is_string u ≡ true
unfolding goal sort has_shape
of_quotes Str u g s h = h
of_quotes y u g s h = absurd (cc)

pub of_hashes : (y : Kind) (u : List ℕ) → goal y ≡ Ordinary → sort y ≡ Hashed → has_shape y u ≡ true → is_private_name u ≡ true
unfolding goal sort has_shape
of_hashes PrivateName u g s h = h
of_hashes y u g s h = absurd (cc)

pub of_ticks : (y : Kind) (u : List ℕ) → goal y ≡ Ordinary → sort y ≡ Ticked → has_shape y u ≡ true → (o : TemplatePart) × (is_template o u ≡ true)
unfolding goal sort has_shape
of_ticks (Template o) u g s h = (o, h)
of_ticks y u g s h = absurd (cc)

pub of_marks : (y : Kind) (u : List ℕ) → goal y ≡ Ordinary → sort y ≡ Marked → has_shape y u ≡ true → is_among u punctuators ≡ true
unfolding goal sort has_shape
of_marks Punctuator u g s h = punctuator_among u h
of_marks Ending u g s h = punctuator_among u (ending_punctuator u h)
of_marks JsxOpen u g s h = punctuator_among u (jsx_open_punctuator u h)
of_marks y u g s h = absurd (cc)
