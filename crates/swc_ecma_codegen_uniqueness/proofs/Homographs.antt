-- Which tokens one text may be, at one place.
use Rattle.std.proofs.Common.{◌≡◌, ℕ, Bool, true, false, ◌&&◌, ◌||◌, ◌==◌, not, ◌⊎◌, inl, inr, List, [], ◌∷◌, ◌++◌, codes, refl, sym, ap, ap₂, ◌∙◌, subst, append-nil}
use Rattle.std.proofs.lemmas.Bool.{true≢false, and_parts, cond-false, false_from_ne_true, not-true, or_cases}
use Rattle.swc_ecma_codegen_grammar.specs.Chars.{is_digit, is_letter, is_part, is_quote, is_start}
use Rattle.swc_ecma_codegen_grammar.specs.Hashbangs.{is_hashbang}
use Rattle.swc_ecma_codegen_grammar.specs.Jsx.{is_jsx_open}
use Rattle.swc_ecma_codegen_grammar.specs.LongestMatch.{IsLongest, Stands}
use Rattle.swc_ecma_codegen_grammar.specs.Names.{all_part, is_private_name, is_word, name_characters, name_value}
use Rattle.swc_ecma_codegen_grammar.specs.Numbers.{has_suffix, is_big_integer, is_number, is_numeric}
use Rattle.swc_ecma_codegen_grammar.specs.Punctuators.{punctuators}
use Rattle.swc_ecma_codegen_grammar.specs.Reads.{is_same_line}
use Rattle.swc_ecma_codegen_grammar.specs.Templates.{ends_template, goes_on_as, is_template, is_template_rest}
use Rattle.swc_ecma_codegen_grammar.specs.Texts.{begins, is_among, is_same}
use Rattle.swc_ecma_codegen_grammar.specs.Tokens.{Token, Ordinary, Child, goal, has_shape}
use Rattle.swc_ecma_codegen_grammar.specs.declared.kinds.Kind.{Kind}
use Rattle.swc_ecma_codegen_grammar.specs.declared.kinds.Kind.TheVariants.{Word, Name, PrivateName, Punctuator, Ending, Number, BigInt, Str, Regex, Template, TemplateRest, Close, JsxName, JsxString, JsxText, JsxOpen, Hashbang}
use Rattle.swc_ecma_codegen_grammar.specs.declared.kinds.TemplatePart.{TemplatePart}
use Rattle.swc_ecma_codegen_grammar.specs.declared.names.Place.TheVariants.{Between, Escaped}
use Rattle.swc_ecma_codegen_grammar.proofs.Conditions.{at_eq, if_both}
use Rattle.swc_ecma_codegen_grammar.proofs.Heads.{some_text}
use Rattle.swc_ecma_codegen_grammar.proofs.HashbangShapes.{some_hashbang}
use Rattle.swc_ecma_codegen_grammar.proofs.Marks.{punctuator_among}
use Rattle.swc_ecma_codegen_grammar.proofs.NameShapes.{name_head, some_name, starts_name}
use Rattle.swc_ecma_codegen_grammar.proofs.RegexShapes.{regex_head}
use Rattle.swc_ecma_codegen_grammar.proofs.Sorts.{Marked, of_hashes, shape_sort, sort, sort_of}
use Rattle.swc_ecma_codegen_grammar.proofs.Tables.{each, each_at, eq_of_same}
use Rattle.swc_ecma_codegen_grammar.proofs.TemplateShapes.{some_template_rest, template_rest_head}
use Rattle.swc_ecma_codegen_grammar.proofs.Unique.{fronts}

-- a token of JSX
abbrev pub is_of_jsx : Kind → Bool
is_of_jsx Close = true
is_of_jsx JsxName = true
is_of_jsx JsxString = true
is_of_jsx JsxText = true
is_of_jsx JsxOpen = true
is_of_jsx k = false

-- a token of JSX, or no text
abbrev pub is_of_syntax : Kind → Bool
is_of_syntax kind = is_of_jsx kind || is_same_line kind

-- ---- a word has no escapes: as a name it has the same characters

part_is_bare : (c : ℕ) → is_part c ≡ true → (c == 92) ≡ false
unfolding is_part is_letter is_digit
part_is_bare c h = false_from_ne_true _ (λ e. true≢false (sym h ∙ at_eq (λ z. is_part z ≡ false) c 92 e refl))

start_is_bare : (c : ℕ) → is_start c ≡ true → (c == 92) ≡ false
unfolding is_start is_letter
start_is_bare c h = false_from_ne_true _ (λ e. true≢false (sym h ∙ at_eq (λ z. is_start z ≡ false) c 92 e refl))

part_value : (t : List ℕ) → all_part t ≡ true → name_characters Between t ≡ t
unfolding all_part name_characters
part_value [] h = refl
part_value (c ∷ cs) h =
    let p = and_parts (is_part c) (all_part cs) h in
    cond-false (c == 92) (name_characters Escaped cs) (c ∷ name_characters Between cs) (part_is_bare c p.0) ∙ ap (λ z. c ∷ z) (part_value cs p.1)

pub word_value : (t : List ℕ) → is_word t ≡ true → name_value t ≡ t
unfolding is_word name_value name_characters
word_value [] h = refl
word_value (c ∷ cs) h =
    let p = and_parts (is_start c) (all_part cs) h in
    cond-false (c == 92) (name_characters Escaped cs) (c ∷ name_characters Between cs) (start_is_bare c p.0) ∙ ap (λ z. c ∷ z) (part_value cs p.1)

-- ---- punctuators that begin as a regular expression does, or as the rest of a template

slash_marks : each (λ p. not (begins (codes "/") p) || (is_same p (codes "/") || is_same p (codes "/="))) punctuators ≡ true
unfolding each begins is_same punctuators
slash_marks = refl

brace_marks : each (λ p. not (begins (codes "}") p) || is_same p (codes "}")) punctuators ≡ true
unfolding each begins is_same punctuators
brace_marks = refl

slash_mark : (t : List ℕ) → is_among t punctuators ≡ true → begins (codes "/") t ≡ true → (t ≡ codes "/") ⊎ (t ≡ codes "/=")
slash_mark t h b =
    elim (or_cases _ _ (each_at (λ p. not (begins (codes "/") p) || (is_same p (codes "/") || is_same p (codes "/="))) t punctuators slash_marks h)) [
      | inl n ↦ absurd (true≢false (sym b ∙ not-true _ n))
      | inr r ↦ elim (or_cases _ _ r) [ inl e ↦ inl (eq_of_same t (codes "/") e) | inr e ↦ inr (eq_of_same t (codes "/=") e) ]
    ]

brace_mark : (t : List ℕ) → is_among t punctuators ≡ true → begins (codes "}") t ≡ true → t ≡ codes "}"
brace_mark t h b = elim (or_cases _ _ (each_at (λ p. not (begins (codes "}") p) || is_same p (codes "}")) t punctuators brace_marks h)) [
  | inl n ↦ absurd (true≢false (sym b ∙ not-true _ n))
  | inr e ↦ eq_of_same t (codes "}") e
]

-- an ordinary token that begins with `/` or `}` is a punctuator
pub lone_mark : (k : Kind) (t : List ℕ) → goal k ≡ Ordinary → sort k ≡ Marked → has_shape k t ≡ true → is_same t (codes ";") ≡ false → is_jsx_open t ≡ false → (k ≡ Punctuator) × (is_among t punctuators ≡ true)
unfolding goal sort has_shape
lone_mark Punctuator t g s h n m = (refl, punctuator_among t h)
lone_mark Ending t g s h n m = absurd (true≢false (sym h ∙ n))
lone_mark JsxOpen t g s h n m = absurd (true≢false (sym h ∙ m))
lone_mark k t g s h n m = absurd (cc)

slash_kind : (k : Kind) (t n : List ℕ) → goal k ≡ Ordinary → has_shape k t ≡ true → t ≡ 47 ∷ n → (k ≡ Punctuator) × ((t ≡ codes "/") ⊎ (t ≡ codes "/="))
unfolding sort_of starts_name is_start is_letter is_digit is_quote is_same is_jsx_open is_among begins
slash_kind k t n g h e =
    let m = lone_mark k t g (sym (shape_sort k t g h) ∙ ap sort_of e) h (ap (λ z. is_same z (codes ";")) e) (ap is_jsx_open e) in
    (m.0, slash_mark t m.1 (ap (begins (codes "/")) e))

brace_kind : (k : Kind) (t n : List ℕ) → goal k ≡ Ordinary → has_shape k t ≡ true → t ≡ 125 ∷ n → (k ≡ Punctuator) × (t ≡ codes "}")
unfolding sort_of starts_name is_start is_letter is_digit is_quote is_same is_jsx_open is_among begins
brace_kind k t n g h e =
    let m = lone_mark k t g (sym (shape_sort k t g h) ∙ ap sort_of e) h (ap (λ z. is_same z (codes ";")) e) (ap is_jsx_open e) in
    (m.0, brace_mark t m.1 (ap (begins (codes "}")) e))

-- ---- what begins as a hashbang does is none of the others

hashbang_begins : (t : List ℕ) → is_hashbang t ≡ true → (n : List ℕ) × (t ≡ 35 ∷ 33 ∷ n)
unfolding is_hashbang begins
hashbang_begins [] h = absurd (some_hashbang h)
hashbang_begins (c ∷ []) h = absurd (true≢false (sym (and_parts (c == 35) false h).1))
hashbang_begins (c ∷ d ∷ n) h =
    let p = and_parts (c == 35) _ h in
    let q = and_parts (33 == d) true (and_parts ((33 == d) && true) _ p.1).0 in
    (n, ap₂ (λ x y. x ∷ y ∷ n) (at_eq (λ z. z ≡ 35) c 35 p.0 refl) (sym (at_eq (λ z. z ≡ d) 33 d q.0 refl)))

after_hash : (n u m : List ℕ) → n ++ u ≡ 33 ∷ m → is_private_name (35 ∷ n) ≡ true → ⊥
unfolding is_private_name starts_name is_start is_letter
after_hash [] u m e h = some_name (and_parts (35 == 35) _ h).1
after_hash (d ∷ n) u m e h =
    let same : d ≡ 33 = cc e in
    true≢false (sym (name_head d n (and_parts (35 == 35) _ h).1) ∙ ap starts_name same)

no_hash : (k : Kind) (t n u m : List ℕ) → goal k ≡ Ordinary → has_shape k t ≡ true → t ≡ 35 ∷ n → t ++ u ≡ 35 ∷ 33 ∷ m → ⊥
unfolding sort_of starts_name is_start is_letter is_digit is_quote
no_hash k t n u m g h e f =
    let p = of_hashes k t g (sym (shape_sort k t g h) ∙ ap sort_of e) h in
    let q : 35 ∷ (n ++ u) ≡ 35 ∷ 33 ∷ m = sym (ap (λ z. z ++ u) e) ∙ f in
    after_hash n u m (cc q) (subst (λ z. is_private_name z ≡ true) e p)

-- ---- of two tokens of one text

-- a text that begins with a character does, however it is parted
pub begins_too : (c : ℕ) (n b u v : List ℕ) → (c ∷ n) ++ u ≡ b ++ v → (b ≡ [] → ⊥) → (m : List ℕ) × (b ≡ c ∷ m)
begins_too c n [] u v e s = absurd (s refl)
begins_too c n (d ∷ m) u v e s = let same : d ≡ c = cc e in (m, ap (λ z. z ∷ m) same)

pub spelled : (k : Kind) (t : List ℕ) → has_shape k t ≡ true → t ≡ [] → ⊥
spelled k t h e = some_text k (subst (λ z. has_shape k z ≡ true) e h)

number_apart : (t : List ℕ) → is_number t ≡ true → is_big_integer t ≡ true → ⊥
unfolding is_number is_big_integer
number_apart t h k = true≢false (sym (and_parts (is_numeric t) (has_suffix t) k).1 ∙ not-true _ (and_parts (is_numeric t) (not (has_suffix t)) h).1)

two_bools : (b c : Bool) → (b ≡ c) ⊎ (((b ≡ true) × (c ≡ false)) ⊎ ((b ≡ false) × (c ≡ true)))
two_bools true true = inl refl
two_bools false false = inl refl
two_bools true false = inr (inl (refl, refl))
two_bools false true = inr (inr (refl, refl))

-- what two tokens of one text are: of one kind, a word and the name of its letters, or two that the tokens before tell
pub data Met (k l : Kind) (a b : List ℕ) : Type 0 where
  alike : k ≡ l → Met k l a b
  letters : a ≡ b → k ≡ Word → l ≡ Name → Met k l a b
  letters_too : a ≡ b → k ≡ Name → l ≡ Word → Met k l a b
  finishes : k ≡ Ending → l ≡ Punctuator → b ≡ codes ";" → Met k l a b
  finishes_too : k ≡ Punctuator → l ≡ Ending → a ≡ codes ";" → Met k l a b
  divides : k ≡ Regex → l ≡ Punctuator → (b ≡ codes "/") ⊎ (b ≡ codes "/=") → Met k l a b
  divides_too : k ≡ Punctuator → l ≡ Regex → (a ≡ codes "/") ⊎ (a ≡ codes "/=") → Met k l a b
  closes : (part : TemplatePart) → k ≡ TemplateRest part → l ≡ Punctuator → b ≡ codes "}" → Met k l a b
  closes_too : (part : TemplatePart) → k ≡ Punctuator → l ≡ TemplateRest part → a ≡ codes "}" → Met k l a b
  tags : (p q : TemplatePart) → k ≡ Template p → l ≡ Template q → p.tagged ≡ true → q.tagged ≡ false → Met k l a b
  tags_too : (p q : TemplatePart) → k ≡ Template p → l ≡ Template q → p.tagged ≡ false → q.tagged ≡ true → Met k l a b
  later_tags : (p q : TemplatePart) → k ≡ TemplateRest p → l ≡ TemplateRest q → p.tagged ≡ true → q.tagged ≡ false → Met k l a b
  later_tags_too : (p q : TemplatePart) → k ≡ TemplateRest p → l ≡ TemplateRest q → p.tagged ≡ false → q.tagged ≡ true → Met k l a b

-- a part of a template ends in one way
ends_once : (a b escaped : Bool) (t : List ℕ) → ends_template a escaped t ≡ true → ends_template b escaped t ≡ true → a ≡ b
unfolding ends_template
ends_once a b escaped [] h k = absurd (true≢false (sym h))
ends_once a b true (c ∷ cs) h k = ends_once a b false cs h k
ends_once a b false (c ∷ cs) h k = elim (if_both (c == 96) _ _ _ _ h k) [
  | inl r ↦ not-true a (and_parts (not a) _ r.0).0 ∙ sym (not-true b (and_parts (not b) _ r.1).0)
  | inr r ↦ elim (if_both ((c == 36) && begins (123 ∷ []) cs) _ _ _ _ r.0 r.1) [
    | inl q ↦ (and_parts a _ q.0).0 ∙ sym (and_parts b _ q.1).0
    | inr q ↦ ends_once a b (c == 92) cs q.0 q.1
  ]
]

opens_once : (p q : TemplatePart) (t : List ℕ) → goes_on_as p t ≡ true → goes_on_as q t ≡ true → p.opens ≡ q.opens
unfolding goes_on_as
opens_once p q t h k = ends_once p.opens q.opens false t (and_parts (ends_template p.opens false t) _ h).0 (and_parts (ends_template q.opens false t) _ k).0

part_opens : (p q : TemplatePart) (t : List ℕ) → is_template p t ≡ true → is_template q t ≡ true → p.opens ≡ q.opens
unfolding is_template
part_opens p q [] h k = absurd (true≢false (sym h))
part_opens p q (c ∷ cs) h k = opens_once p q cs (and_parts (c == 96) _ h).1 (and_parts (c == 96) _ k).1

rest_opens : (p q : TemplatePart) (t : List ℕ) → is_template_rest p t ≡ true → is_template_rest q t ≡ true → p.opens ≡ q.opens
unfolding is_template_rest
rest_opens p q [] h k = absurd (true≢false (sym h))
rest_opens p q (c ∷ cs) h k = opens_once p q cs (and_parts (c == 125) _ h).1 (and_parts (c == 125) _ k).1

-- of two parts that end alike
same_parts : (p q : TemplatePart) → p.opens ≡ q.opens → (p ≡ q) ⊎ (((p.tagged ≡ true) × (q.tagged ≡ false)) ⊎ ((p.tagged ≡ false) × (q.tagged ≡ true)))
same_parts p q o = elim (two_bools p.tagged q.tagged) [ inl e ↦ inl (ap₂ (λ x y. let made : TemplatePart = record { tagged = x; opens = y } in made) e o) | inr d ↦ inr d ]

part_met : (p q : TemplatePart) (a : List ℕ) → p.opens ≡ q.opens → Met (Template p) (Template q) a a
part_met p q a o = elim (same_parts p q o) [
  | inl e ↦ alike (ap Template e)
  | inr d ↦ elim d [ inl x ↦ tags p q refl refl x.0 x.1 | inr x ↦ tags_too p q refl refl x.0 x.1 ]
]

rest_met : (p q : TemplatePart) (a b : List ℕ) → p.opens ≡ q.opens → Met (TemplateRest p) (TemplateRest q) a b
rest_met p q a b o = elim (same_parts p q o) [
  | inl e ↦ alike (ap TemplateRest e)
  | inr d ↦ elim d [ inl x ↦ later_tags p q refl refl x.0 x.1 | inr x ↦ later_tags_too p q refl refl x.0 x.1 ]
]

-- of ordinary tokens
by_sort : (k l : Kind) (a : List ℕ) → goal k ≡ Ordinary → goal l ≡ Ordinary → sort k ≡ sort l → is_of_syntax k ≡ false → is_of_syntax l ≡ false → has_shape k a ≡ true → has_shape l a ≡ true → Met k l a a
unfolding goal sort has_shape is_same_line
by_sort Word Word a g h s i j x y = alike refl
by_sort Word Name a g h s i j x y = letters refl refl refl
by_sort Name Word a g h s i j x y = letters_too refl refl refl
by_sort Name Name a g h s i j x y = alike refl
by_sort PrivateName PrivateName a g h s i j x y = alike refl
by_sort Punctuator Punctuator a g h s i j x y = alike refl
by_sort Punctuator Ending a g h s i j x y = finishes_too refl refl (eq_of_same a (codes ";") y)
by_sort Ending Punctuator a g h s i j x y = finishes refl refl (eq_of_same a (codes ";") x)
by_sort Ending Ending a g h s i j x y = alike refl
by_sort Number Number a g h s i j x y = alike refl
by_sort Number BigInt a g h s i j x y = absurd (number_apart a x y)
by_sort BigInt Number a g h s i j x y = absurd (number_apart a y x)
by_sort BigInt BigInt a g h s i j x y = alike refl
by_sort Str Str a g h s i j x y = alike refl
by_sort (Template p) (Template q) a g h s i j x y = part_met p q a (part_opens p q a x y)
by_sort k l a g h s i j x y = absurd (cc)

-- the goals of tokens that are no part of JSX
pub data Going : Kind → Type 0 where
  ordinary : {k : Kind} → goal k ≡ Ordinary → Going k
  regex : Going Regex
  rest : (part : TemplatePart) → Going (TemplateRest part)
  hashbang : Going Hashbang

pub going : (k : Kind) → is_of_syntax k ≡ false → Going k
unfolding goal is_same_line
going Word i = ordinary refl
going Name i = ordinary refl
going PrivateName i = ordinary refl
going Punctuator i = ordinary refl
going Ending i = ordinary refl
going Number i = ordinary refl
going BigInt i = ordinary refl
going Str i = ordinary refl
going Regex i = regex
going (Template part) i = ordinary refl
going (TemplateRest part) i = rest part
going Hashbang i = hashbang
going k i = absurd (true≢false i)

regex_begins : (t : List ℕ) → has_shape Regex t ≡ true → (n : List ℕ) × (t ≡ 47 ∷ n)
unfolding has_shape
regex_begins t h = let r = regex_head t h in (r.0 ∷ r.1, r.2)

rest_begins : (p : TemplatePart) (t : List ℕ) → has_shape (TemplateRest p) t ≡ true → (n : List ℕ) × (t ≡ 125 ∷ n)
unfolding has_shape
rest_begins p [] h = absurd (some_template_rest p h)
rest_begins p (c ∷ n) h = (n, at_eq (λ z. z ∷ n ≡ 125 ∷ n) c 125 (template_rest_head p c n h) refl)

bang_begins : (t : List ℕ) → has_shape Hashbang t ≡ true → (n : List ℕ) × (t ≡ 35 ∷ 33 ∷ n)
unfolding has_shape
bang_begins t h = hashbang_begins t h

-- the other begins with the same character
other_begins : (l : Kind) (c : ℕ) (a b n u v : List ℕ) → has_shape l b ≡ true → a ≡ c ∷ n → a ++ u ≡ b ++ v → (m : List ℕ) × (b ≡ c ∷ m)
other_begins l c a b n u v h e f = begins_too c n b u v (sym (ap (λ z. z ++ u) e) ∙ f) (spelled l b h)

two_heads : (c d : ℕ) (b m n : List ℕ) → b ≡ c ∷ m → b ≡ d ∷ n → c ≡ d
two_heads c d b m n e f = let same : c ∷ m ≡ d ∷ n = sym e ∙ f in cc same

slash_is_no_brace : ◌≡◌ {A = ℕ} 47 125 → ⊥
slash_is_no_brace e = true≢false (sym (ap (λ z. z == 125) e))

slash_is_no_hash : ◌≡◌ {A = ℕ} 47 35 → ⊥
slash_is_no_hash e = true≢false (sym (ap (λ z. z == 35) e))

brace_is_no_hash : ◌≡◌ {A = ℕ} 125 35 → ⊥
brace_is_no_hash e = true≢false (sym (ap (λ z. z == 35) e))

ordinary_met : (k l : Kind) (a b : List ℕ) → goal k ≡ Ordinary → goal l ≡ Ordinary → is_of_syntax k ≡ false → is_of_syntax l ≡ false → a ≡ b → has_shape k a ≡ true → has_shape l b ≡ true → Met k l a b
ordinary_met k l a b g h i j e x y =
    let z = subst (λ c. has_shape l c ≡ true) (sym e) y in
    subst (Met k l a) e (by_sort k l a g h (sym (shape_sort k a g x) ∙ shape_sort l a h z) i j x z)

rest_ends : (p q : TemplatePart) (a b : List ℕ) → a ≡ b → has_shape (TemplateRest p) a ≡ true → has_shape (TemplateRest q) b ≡ true → Met (TemplateRest p) (TemplateRest q) a b
unfolding has_shape
rest_ends p q a b e x y = rest_met p q a b (rest_opens p q a x (subst (λ z. is_template_rest q z ≡ true) (sym e) y))

met : (k l : Kind) (a b u v : List ℕ) → Going k → Going l → is_of_syntax k ≡ false → is_of_syntax l ≡ false → (goal k ≡ goal l → a ≡ b) → has_shape k a ≡ true → has_shape l b ≡ true → a ++ u ≡ b ++ v → Met k l a b
unfolding goal
met k l a b u v (ordinary g) (ordinary h) i j s x y e = ordinary_met k l a b g h i j (s (g ∙ sym h)) x y
met k l a b u v (ordinary g) regex i j s x y e =
    let r = regex_begins b y in
    let o = other_begins k 47 b a r.0 v u x r.1 (sym e) in
    let m = slash_kind k a o.0 g x o.1 in
    divides_too m.0 refl m.1
met k l a b u v (ordinary g) (rest p) i j s x y e =
    let r = rest_begins p b y in
    let o = other_begins k 125 b a r.0 v u x r.1 (sym e) in
    let m = brace_kind k a o.0 g x o.1 in
    closes_too p m.0 refl m.1
met k l a b u v (ordinary g) hashbang i j s x y e =
    let r = bang_begins b y in
    let o = other_begins k 35 b a (33 ∷ r.0) v u x r.1 (sym e) in
    absurd (no_hash k a o.0 u (r.0 ++ v) g x o.1 (e ∙ ap (λ z. z ++ v) r.1))
met k l a b u v regex (ordinary h) i j s x y e =
    let r = regex_begins a x in
    let o = other_begins l 47 a b r.0 u v y r.1 e in
    let m = slash_kind l b o.0 h y o.1 in
    divides refl m.0 m.1
met k l a b u v regex regex i j s x y e = alike refl
met k l a b u v regex (rest p) i j s x y e =
    let r = regex_begins a x in
    let o = other_begins (TemplateRest p) 47 a b r.0 u v y r.1 e in
    let q = rest_begins p b y in
    absurd (slash_is_no_brace (two_heads 47 125 b o.0 q.0 o.1 q.1))
met k l a b u v regex hashbang i j s x y e =
    let r = regex_begins a x in
    let o = other_begins Hashbang 47 a b r.0 u v y r.1 e in
    let q = bang_begins b y in
    absurd (slash_is_no_hash (two_heads 47 35 b o.0 (33 ∷ q.0) o.1 q.1))
met k l a b u v (rest p) (ordinary h) i j s x y e =
    let r = rest_begins p a x in
    let o = other_begins l 125 a b r.0 u v y r.1 e in
    let m = brace_kind l b o.0 h y o.1 in
    closes p refl m.0 m.1
met k l a b u v (rest p) regex i j s x y e =
    let r = regex_begins b y in
    let o = other_begins (TemplateRest p) 47 b a r.0 v u x r.1 (sym e) in
    let q = rest_begins p a x in
    absurd (slash_is_no_brace (two_heads 47 125 a o.0 q.0 o.1 q.1))
met k l a b u v (rest p) (rest q) i j s x y e = rest_ends p q a b (s refl) x y
met k l a b u v (rest p) hashbang i j s x y e =
    let r = rest_begins p a x in
    let o = other_begins Hashbang 125 a b r.0 u v y r.1 e in
    let q = bang_begins b y in
    absurd (brace_is_no_hash (two_heads 125 35 b o.0 (33 ∷ q.0) o.1 q.1))
met k l a b u v hashbang (ordinary h) i j s x y e =
    let r = bang_begins a x in
    let o = other_begins l 35 a b (33 ∷ r.0) u v y r.1 e in
    absurd (no_hash l b o.0 v (r.0 ++ u) h y o.1 (sym e ∙ ap (λ z. z ++ u) r.1))
met k l a b u v hashbang regex i j s x y e =
    let r = regex_begins b y in
    let o = other_begins Hashbang 47 b a r.0 v u x r.1 (sym e) in
    let q = bang_begins a x in
    absurd (slash_is_no_hash (two_heads 47 35 a o.0 (33 ∷ q.0) o.1 q.1))
met k l a b u v hashbang (rest p) i j s x y e =
    let r = rest_begins p b y in
    let o = other_begins Hashbang 125 b a r.0 v u x r.1 (sym e) in
    let q = bang_begins a x in
    absurd (brace_is_no_hash (two_heads 125 35 a o.0 (33 ∷ q.0) o.1 q.1))
met k l a b u v hashbang hashbang i j s x y e = alike refl

-- two longest tokens of one goal have one text
pub same_text : (x y : Token) (a b u v : List ℕ) → IsLongest x a u → IsLongest y b v → a ++ u ≡ b ++ v → goal x.kind ≡ goal y.kind → a ≡ b
same_text x y a b u v h k e g = elim (fronts a b u v e) [
  | inl r ↦
      let m : r.0 ≡ [] = h.longest y r.0 v (sym g) r.2 (subst (λ z. Stands y z v) r.1 k.stands) in
      sym (r.1 ∙ ap (λ z. a ++ z) m ∙ append-nil a)
  | inr r ↦
      let m : r.0 ≡ [] = k.longest x r.0 u g r.2 (subst (λ z. Stands x z u) r.1 h.stands) in
      r.1 ∙ ap (λ z. b ++ z) m ∙ append-nil b
]

pub meet : (x y : Token) (a b u v : List ℕ) → is_of_syntax x.kind ≡ false → is_of_syntax y.kind ≡ false → IsLongest x a u → IsLongest y b v → a ++ u ≡ b ++ v → Met x.kind y.kind a b
meet x y a b u v i j h k e =
    met x.kind y.kind a b u v (going x.kind i) (going y.kind j) i j (λ g. same_text x y a b u v h k e g) h.stands.spells.shape k.stands.spells.shape e

-- what is no part of JSX isn't text between tags
pub no_child : (k : Kind) → is_of_syntax k ≡ false → goal k ≡ Child → ⊥
unfolding goal is_same_line
no_child JsxText i e = true≢false i
no_child k i e = cc
