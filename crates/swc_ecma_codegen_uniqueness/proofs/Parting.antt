-- Two lists of tokens that one text reads as are the same, or part at a place.
use Rattle.std.proofs.Common.{◌≡◌, ℕ, Bool, true, false, ◌||◌, ◌&&◌, not, ◌⊎◌, inl, inr, List, [], ◌∷◌, ◌++◌, codes, refl, sym, ap, ap₂, ◌∙◌, subst, append-nil, cond}
use Rattle.std.specs.Prelude.{if◌then◌else◌, bytes_eq}
use Rattle.std.proofs.lemmas.Bool.{true≢false, cond-false, not-true, or_from, or_left, and_from, and_parts, or_cases}
use Rattle.swc_ecma_codegen_grammar.specs.Chars.{is_one_line}
use Rattle.swc_ecma_codegen_grammar.specs.LongestMatch.{IsLongest}
use Rattle.swc_ecma_codegen_grammar.specs.Names.{name_value}
use Rattle.swc_ecma_codegen_grammar.specs.Reads.{ReadsOn, is_close_by, is_hashbang_kind, is_same_line}
use Rattle.swc_ecma_codegen_grammar.specs.Reads as reading
use Rattle.swc_ecma_codegen_grammar.specs.Jsx.{is_jsx_open, is_jsx_text}
use Rattle.swc_ecma_codegen_grammar.specs.Tokens.{Token, Value, Characters, Child, Spells, goal, has_shape, name, same_line, value_of, word}
use Rattle.swc_ecma_codegen_grammar.specs.Trivia.{Remark, Trivia}
use Rattle.swc_ecma_codegen_grammar.specs.declared.kinds.Kind.{Kind}
use Rattle.swc_ecma_codegen_grammar.specs.declared.kinds.Kind.TheVariants as kinds
use Rattle.swc_ecma_codegen_grammar.specs.declared.kinds.TemplatePart.{TemplatePart}
use Rattle.swc_ecma_codegen_grammar.proofs.Conditions.{same_line_unspelled}
use Rattle.swc_ecma_codegen_grammar.proofs.Heads.{some_text}
use Rattle.swc_ecma_codegen_grammar.proofs.Unique.{nothing_solid, same_longest, same_trivia, solid, token_at}
use Rattle.swc_ecma_codegen_syntax.specs.NameForms.{is_one_of, is_reserved, statement_words, declaration_words, expression_words}
use Rattle.swc_ecma_codegen_uniqueness.specs.Parting.{are_homographs, are_one_text, begin_alike, behind_line, open_words, is_open_word, is_name}
use Rattle.swc_ecma_codegen_uniqueness.specs.Words.{contextual_words, named_by, as_name, as_names}
use Rattle.swc_ecma_codegen_uniqueness.proofs.Classes.{Class, RegexToken, First, Later, Line, Semi, Jsx, JsxPart, TagName, TagString, TagClose, TagText, ChildTagMark, ChildBraceMark, class, class_of, look, marks, words, child_marks, KeyToken, NameToken, is_reserved_word, Strange}
use Rattle.swc_ecma_codegen_uniqueness.proofs.Apart as apart
use Rattle.swc_ecma_codegen_uniqueness.proofs.Lines as lines
use Rattle.swc_ecma_codegen_uniqueness.proofs.PlaceLaws.{is_line}
use Rattle.swc_ecma_codegen_uniqueness.proofs.Words.{class_named}
use Rattle.swc_ecma_codegen_uniqueness.proofs.Homographs.{Met, alike, letters, letters_too, finishes, finishes_too, divides, divides_too, closes, closes_too, tags, tags_too, later_tags, later_tags_too, is_of_jsx, is_of_syntax, meet, word_value}
use Rattle.swc_ecma_codegen_uniqueness.proofs.JsxParts.{begins_like, is_child}
use Rattle.swc_ecma_codegen_uniqueness.proofs.JsxTexts.{jsx_meets, no_open, open_sort, text_rivals}
use Rattle.swc_ecma_codegen_uniqueness.proofs.Looks.{looked, of_neither, name_class}
use Rattle.std.proofs.lemmas.Slice.Eq.{bytes_eq-Decides}

-- ---- where they part: as the tokens before don't tell, or as these do

pub data Fork : List Token → List Token → Type 0 where
  parts : {us vs : List Token} → begin_alike (behind_line us) (behind_line vs) ≡ true → Fork us vs
  told : {x y : Token} {us vs : List Token} → apart.Rivals (class x) (class y) → Fork (x ∷ us) (y ∷ vs)
  told_too : {x y : Token} {us vs : List Token} → apart.Rivals (class y) (class x) → Fork (x ∷ us) (y ∷ vs)
  line_told : {line x y : Token} {us vs : List Token} → class line ≡ Line → is_line (class y) ≡ false → lines.Kin (class x) (class y) → Fork (line ∷ x ∷ us) (y ∷ vs)
  line_told_too : {line x y : Token} {us vs : List Token} → class line ≡ Line → is_line (class y) ≡ false → lines.Kin (class x) (class y) → Fork (y ∷ vs) (line ∷ x ∷ us)
  lined : {line x : Token} {us vs : List Token} → class line ≡ Line → lines.is_never_lined (class x) ≡ true → Fork (line ∷ x ∷ us) vs
  lined_too : {line x : Token} {us vs : List Token} → class line ≡ Line → lines.is_never_lined (class x) ≡ true → Fork vs (line ∷ x ∷ us)
  last : {line : Token} → class line ≡ Line → Fork (line ∷ []) []
  last_too : {line : Token} → class line ≡ Line → Fork [] (line ∷ [])
  ended : {y : Token} {vs : List Token} → class y ≡ Jsx TagText → Fork [] (y ∷ vs)
  ended_too : {y : Token} {vs : List Token} → class y ≡ Jsx TagText → Fork (y ∷ vs) []

pub record Split (xs ys : List Token) : Type 0 where
  pub before : List Token
  pub first : List Token
  pub second : List Token
  pub is_first : xs ≡ before ++ first
  pub is_second : ys ≡ before ++ second
  pub fork : Fork first second

here : {us vs : List Token} → Fork us vs → Split us vs
here {us = us} {vs = vs} f = record { before = []; first = us; second = vs; is_first = refl; is_second = refl; fork = f }

further : (x y : Token) {xs ys : List Token} → x ≡ y → (xs ≡ ys) ⊎ Split xs ys → (x ∷ xs ≡ y ∷ ys) ⊎ Split (x ∷ xs) (y ∷ ys)
further x y e (inl f) = inl (ap₂ (λ z zs. z ∷ zs) e f)
further x y e (inr s) =
    inr (record { before = x ∷ s.before; first = s.first; second = s.second; is_first = ap (λ zs. x ∷ zs) s.is_first; is_second = ap₂ (λ z zs. z ∷ zs) (sym e) s.is_second; fork = s.fork })

-- ---- tokens as names

-- a token that is spelled stands in its list
name_or_word : (b : Bool) (text : List ℕ) → is_same_line (if b then name text else word text).kind ≡ false
unfolding is_same_line name word
name_or_word true text = refl
name_or_word false text = refl

named_line : (k : Kind) (v : Value) → is_same_line k ≡ false → is_same_line (named_by k v).kind ≡ false
unfolding named_by is_same_line
named_line kinds.Word (Characters text) h = name_or_word (is_one_of contextual_words text) text
named_line kinds.Word v h = refl
named_line k v h = h

stays_there : (x : Token) (us : List Token) → is_same_line x.kind ≡ false → behind_line (as_name x ∷ us) ≡ as_name x ∷ us
unfolding behind_line
stays_there x us h = cond-false (is_same_line (as_name x).kind) us (as_name x ∷ us) (named_line x.kind x.value h)

both_there : (x y : Token) (us vs : List Token) (b : Bool) → is_same_line x.kind ≡ false → is_same_line y.kind ≡ false → begin_alike (as_name x ∷ us) (as_name y ∷ vs) ≡ b → begin_alike (behind_line (as_name x ∷ us)) (behind_line (as_name y ∷ vs)) ≡ b
both_there x y us vs b i j h = ap₂ begin_alike (stays_there x us i) (stays_there y vs j) ∙ h

is_word_token : (x : Token) (a : List ℕ) → x.kind ≡ kinds.Word → Spells x a → x ≡ word a
unfolding word value_of
is_word_token x a e h = token_at x (word a) e (sym h.value ∙ ap (λ z. value_of z a) e)

is_name_token : (x : Token) (a : List ℕ) → x.kind ≡ kinds.Name → Spells x a → name_value a ≡ a → x ≡ name a
unfolding name value_of
is_name_token x a e h v = token_at x (name a) e (sym h.value ∙ ap (λ z. value_of z a) e ∙ ap Characters v)

word_named : (a : List ℕ) (b : Bool) → is_one_of contextual_words a ≡ b → as_name (word a) ≡ (if b then name a else word a)
unfolding named_by word
word_named a b e = ap (λ c. if c then name a else word a) e

name_named : (a : List ℕ) → as_name (name a) ≡ name a
unfolding named_by name
name_named a = refl

-- ---- tokens by their classes

mark_class : (y : Token) (b : List ℕ) → y.kind ≡ kinds.Punctuator → Spells y b → class y ≡ look marks b
unfolding value_of
mark_class y b e h = ap₂ class_of e (sym h.value ∙ ap (λ z. value_of z b) e)

regex_class : (x : Token) → x.kind ≡ kinds.Regex → class x ≡ RegexToken
regex_class x k = ap (λ z. class_of z x.value) k

rest_class : (x : Token) (part : TemplatePart) → x.kind ≡ kinds.TemplateRest part → class x ≡ Later part.tagged part.opens
rest_class x part k = ap (λ z. class_of z x.value) k

first_class : (x : Token) (part : TemplatePart) → x.kind ≡ kinds.Template part → class x ≡ First part.tagged part.opens
first_class x part k = ap (λ z. class_of z x.value) k

rivals_of : (x y : Token) {l r : Class} → class x ≡ l → class y ≡ r → apart.Rivals l r → apart.Rivals (class (as_name x)) (class (as_name y))
rivals_of x y {l = l} e d i = subst (λ z. apart.Rivals z (class (as_name y))) (sym (class_named x ∙ e)) (subst (λ z. apart.Rivals l z) (sym (class_named y ∙ d)) i)

slash_rivals : (x y : Token) (b : List ℕ) → class x ≡ RegexToken → class y ≡ look marks b → (b ≡ codes "/") ⊎ (b ≡ codes "/=") → apart.Rivals (class (as_name y)) (class (as_name x))
slash_rivals x y b e d (inl i) = rivals_of y x (d ∙ ap (look marks) i) e apart.divides
slash_rivals x y b e d (inr i) = rivals_of y x (d ∙ ap (look marks) i) e apart.divides_in_place

brace_rivals : (x y : Token) (part : TemplatePart) (b : List ℕ) → class x ≡ Later part.tagged part.opens → class y ≡ look marks b → b ≡ codes "}" → apart.Rivals (class (as_name y)) (class (as_name x))
brace_rivals x y part b e d i = rivals_of y x (d ∙ ap (look marks) i) e apart.closes

ending_class : (x : Token) → x.kind ≡ kinds.Ending → class x ≡ Semi
ending_class x k = ap (λ z. class_of z x.value) k

semi_rivals : (x y : Token) (b : List ℕ) → class x ≡ Semi → class y ≡ look marks b → b ≡ codes ";" → apart.Rivals (class (as_name x)) (class (as_name y))
semi_rivals x y b e d i = rivals_of x y e (d ∙ ap (look marks) i) apart.finishes

tag_rivals : (x y : Token) (p q : TemplatePart) → x.kind ≡ kinds.Template p → y.kind ≡ kinds.Template q → p.tagged ≡ true → q.tagged ≡ false → apart.Rivals (class (as_name x)) (class (as_name y))
tag_rivals x y p q e d i j = rivals_of x y (first_class x p e ∙ ap (λ b. First b p.opens) i) (first_class y q d ∙ ap (λ b. First b q.opens) j) apart.tags

later_rivals : (x y : Token) (p q : TemplatePart) → x.kind ≡ kinds.TemplateRest p → y.kind ≡ kinds.TemplateRest q → p.tagged ≡ true → q.tagged ≡ false → apart.Rivals (class (as_name x)) (class (as_name y))
later_rivals x y p q e d i j = rivals_of x y (rest_class x p e ∙ ap (λ b. Later b p.opens) i) (rest_class y q d ∙ ap (λ b. Later b q.opens) j) apart.goes_on_with_tag

-- ---- one token each

rest_of : (a u v : List ℕ) → a ++ u ≡ a ++ v → u ≡ v
rest_of [] u v e = e
rest_of (c ∷ a) u v e = rest_of a u v (cc e)

rests : (a b u v : List ℕ) → a ++ u ≡ b ++ v → a ≡ b → u ≡ v
rests a b u v e s = rest_of a u v (e ∙ ap (λ z. z ++ v) (sym s))

-- what tells two tokens
pub data Told (x y : Token) (us vs : List Token) : Type 0 where
  none_tells : begin_alike (x ∷ us) (y ∷ vs) ≡ true → Told x y us vs
  tells : apart.Rivals (class x) (class y) → Told x y us vs
  tells_too : apart.Rivals (class y) (class x) → Told x y us vs

-- the tokens are one, as names, and what is left of the text is; or they are told
abbrev Step : Token → Token → List Token → List Token → List ℕ → List ℕ → Type 0
Step x y us vs u v = ((as_name x ≡ as_name y) × (u ≡ v)) ⊎ Told (as_name x) (as_name y) us vs

-- a reserved word has its class
abbrev all_words : List (List ℕ) → Bool
all_words [] = true
all_words (key ∷ keys) = is_reserved_word (look words key) && all_words keys

each_reserved : (keys : List (List ℕ)) (text : List ℕ) → all_words keys ≡ true → is_one_of keys text ≡ true → is_reserved_word (look words text) ≡ true
unfolding is_one_of
each_reserved [] text a h = absurd (true≢false (sym h))
each_reserved (key ∷ keys) text a h =
    let p = and_parts (is_reserved_word (look words key)) (all_words keys) a in
    elim (or_cases (bytes_eq text key) (is_one_of keys text) h) [
      | inl e ↦ ap (λ t. is_reserved_word (look words t)) ((bytes_eq-Decides text key).0 e) ∙ p.0
      | inr i ↦ each_reserved keys text p.1 i
    ]

reserved_class : (text : List ℕ) → is_reserved text ≡ true → is_reserved_word (look words text) ≡ true
unfolding is_reserved
reserved_class text h = elim (or_cases (is_one_of statement_words text) _ h) [
  | inl e ↦ each_reserved statement_words text refl e
  | inr r ↦ elim (or_cases (is_one_of declaration_words text) _ r) [ inl e ↦ each_reserved declaration_words text refl e | inr e ↦ each_reserved expression_words text refl e ]
]

word_rivals : (x y : Token) (a : List ℕ) → is_reserved a ≡ true → x ≡ word a → y ≡ name a → apart.Rivals (class (as_name x)) (class (as_name y))
unfolding word name
word_rivals x y a r e f = rivals_of x y (ap class e) (ap class f ∙ ap (λ b. cond b KeyToken NameToken) r) (apart.spells (reserved_class a r))

-- what is among the words of the grammar is contextual, reserved, or open
abbrev keys_of : List (List ℕ × Class) → List (List ℕ)
keys_of [] = []
keys_of (e ∷ es) = e.0 ∷ keys_of es

abbrev is_known : List ℕ → Bool
is_known text = is_one_of contextual_words text || (is_reserved text || is_one_of open_words text)

all_known : List (List ℕ × Class) → Bool
all_known [] = true
all_known (e ∷ es) = is_known e.0 && all_known es

words_known : all_known words ≡ true
unfolding all_known is_reserved is_one_of
words_known = refl

look_by : (b : Bool) (e : List ℕ × Class) (text : List ℕ) (m : Class) → bytes_eq text e.0 ≡ b → is_known e.0 ≡ true → is_known text ≡ false → m ≡ Strange → cond b e.1 m ≡ Strange
look_by true e text m q k u h = absurd (true≢false (sym k ∙ ap is_known (sym ((bytes_eq-Decides text e.0).0 q)) ∙ u))
look_by false e text m q k u h = h

look_strange : (es : List (List ℕ × Class)) (text : List ℕ) → all_known es ≡ true → is_known text ≡ false → look es text ≡ Strange
unfolding all_known
look_strange [] text a u = refl
look_strange (e ∷ es) text a u =
    let p = and_parts (is_known e.0) (all_known es) a in
    look_by (bytes_eq text e.0) e text (look es text) refl p.0 u (look_strange es text p.1 u)

unknown_rivals : (x y : Token) (a : List ℕ) → is_one_of contextual_words a ≡ false → is_reserved a ≡ false → is_one_of open_words a ≡ false → x ≡ word a → y ≡ name a → apart.Rivals (class (as_name x)) (class (as_name y))
unfolding word
unknown_rivals x y a c r o e f =
    rivals_of x y (ap class e ∙ look_strange words a words_known (ap₂ (λ p q. p || q) c (ap₂ (λ p q. p || q) r o))) (ap class f ∙ name_class a r) apart.unknown

open_part : (us vs : List Token) (a : List ℕ) → is_one_of open_words a ≡ true → (begin_alike (word a ∷ us) (name a ∷ vs) ≡ true) × (begin_alike (name a ∷ vs) (word a ∷ us) ≡ true)
unfolding begin_alike are_homographs is_open_word is_name are_one_text word name
open_part us vs a h =
    let b = is_one_of open_words a in
    let both = and_from b (bytes_eq a a) h ((bytes_eq-Decides a a).1 refl) in
    (or_left (b && bytes_eq a a) false both, both)

-- a word and the name of its letters: they are one as names, or the tokens before tell, or nothing does
abbrev LettersTold : Token → Token → List Token → List Token → Type 0
LettersTold x y us vs = (as_name x ≡ as_name y) ⊎ (Told (as_name x) (as_name y) us vs × Told (as_name y) (as_name x) vs us)

one_or_part : (x y : Token) (us vs : List Token) (a : List ℕ) (b r o : Bool) → is_one_of contextual_words a ≡ b → is_reserved a ≡ r → is_one_of open_words a ≡ o → x ≡ word a → y ≡ name a → LettersTold x y us vs
one_or_part x y us vs a true r o i j l e f = inl (ap as_name e ∙ word_named a true i ∙ sym (name_named a) ∙ sym (ap as_name f))
one_or_part x y us vs a false true o i j l e f = let k = word_rivals x y a j e f in inr (tells k, tells_too k)
one_or_part x y us vs a false false false i j l e f = let k = unknown_rivals x y a i j l e f in inr (tells k, tells_too k)
one_or_part x y us vs a false false true i j l e f =
    let p = ap as_name e ∙ word_named a false i in
    let q = ap as_name f ∙ name_named a in
    let k = open_part us vs a l in
    inr (none_tells (ap₂ (λ z w. begin_alike (z ∷ us) (w ∷ vs)) p q ∙ k.0), none_tells (ap₂ (λ z w. begin_alike (w ∷ vs) (z ∷ us)) p q ∙ k.1))

by_letters : (x y : Token) (us vs : List Token) (a b u v : List ℕ) → Spells x a → Spells y b → a ++ u ≡ b ++ v → a ≡ b → x.kind ≡ kinds.Word → y.kind ≡ kinds.Name → Step x y us vs u v × Step y x vs us v u
unfolding has_shape
by_letters x y us vs a b u v h k e s p q =
    let w : name_value a ≡ a = word_value a (subst (λ z. has_shape z a ≡ true) p h.shape) in
    let f = is_word_token x a p h in
    let g = is_name_token y a q (subst (λ z. Spells y z) (sym s) k) w in
    let r = rests a b u v e s in
    elim (one_or_part x y us vs a (is_one_of contextual_words a) (is_reserved a) (is_one_of open_words a) refl refl refl f g) [ inl i ↦ (inl (i, r), inl (sym i, sym r)) | inr i ↦ (inr i.0, inr i.1) ]

by_met : (x y : Token) (us vs : List Token) (a b u v : List ℕ) → IsLongest x a u → IsLongest y b v → a ++ u ≡ b ++ v → Met x.kind y.kind a b → Step x y us vs u v
by_met x y us vs a b u v h k e (alike s) = let one = same_longest x y a b u v h k e s in inl (ap as_name one.0, one.2)
by_met x y us vs a b u v h k e (letters s p q) = (by_letters x y us vs a b u v h.stands.spells k.stands.spells e s p q).0
by_met x y us vs a b u v h k e (letters_too s p q) = (by_letters y x vs us b a v u k.stands.spells h.stands.spells (sym e) (sym s) q p).1
by_met x y us vs a b u v h k e (finishes p q i) = inr (tells (semi_rivals x y b (ending_class x p) (mark_class y b q k.stands.spells) i))
by_met x y us vs a b u v h k e (finishes_too p q i) = inr (tells_too (semi_rivals y x a (ending_class y q) (mark_class x a p h.stands.spells) i))
by_met x y us vs a b u v h k e (divides p q i) = inr (tells_too (slash_rivals x y b (regex_class x p) (mark_class y b q k.stands.spells) i))
by_met x y us vs a b u v h k e (divides_too p q i) = inr (tells (slash_rivals y x a (regex_class y q) (mark_class x a p h.stands.spells) i))
by_met x y us vs a b u v h k e (closes part p q i) = inr (tells_too (brace_rivals x y part b (rest_class x part p) (mark_class y b q k.stands.spells) i))
by_met x y us vs a b u v h k e (tags p q c d i j) = inr (tells (tag_rivals x y p q c d i j))
by_met x y us vs a b u v h k e (tags_too p q c d i j) = inr (tells_too (tag_rivals y x q p d c j i))
by_met x y us vs a b u v h k e (later_tags p q c d i j) = inr (tells (later_rivals x y p q c d i j))
by_met x y us vs a b u v h k e (later_tags_too p q c d i j) = inr (tells_too (later_rivals y x q p d c j i))
by_met x y us vs a b u v h k e (closes_too part p q i) = inr (tells (brace_rivals y x part a (rest_class y part q) (mark_class x a p h.stands.spells) i))

-- ---- whole lists

-- a token that is spelled is no `[no LineTerminator here]`
line_case : (k : Kind) (t : List ℕ) → has_shape k t ≡ true → is_same_line k ≡ false
unfolding is_same_line
line_case kinds.SameLine t h = absurd (same_line_unspelled t h)
line_case k t h = refl

line_kind : (x : Token) → x ≡ same_line → as_name x ≡ same_line
unfolding named_by same_line
line_kind x e = ap as_name e

line_class : (x : Token) → x ≡ same_line → class (as_name x) ≡ Line
unfolding same_line
line_class x e = class_named x ∙ ap class e

not_line : (k : Kind) (v : Value) → is_same_line k ≡ false → is_line (class_of k v) ≡ false
unfolding is_same_line
not_line kinds.SameLine v h = absurd (true≢false h)
not_line kinds.Word (Characters text) h = not-true _ (looked (λ z. not (is_line z)) words text refl refl)
not_line kinds.Punctuator (Characters text) h = not-true _ (looked (λ z. not (is_line z)) marks text refl refl)
not_line kinds.Name (Characters text) h = of_neither is_line (is_reserved text) KeyToken NameToken refl refl
not_line kinds.JsxOpen (Characters text) h = not-true _ (looked (λ z. not (is_line z)) child_marks text refl refl)
not_line k v h = refl

no_line : (y : Token) → is_same_line y.kind ≡ false → is_line (class (as_name y)) ≡ false
no_line y h = ap is_line (class_named y) ∙ not_line y.kind y.value h

behind_the_line : (x : Token) (us : List Token) → x ≡ same_line → behind_line (as_name x ∷ us) ≡ us
unfolding behind_line is_same_line same_line
behind_the_line x us e = ap (λ z. behind_line (z ∷ us)) (line_kind x e)

-- a token as a text has it at a place
pub record Standing (y : Token) (text rest : List ℕ) : Type 0 where
  gap : List ℕ
  own : List ℕ
  before : List Remark
  is_text : text ≡ gap ++ (own ++ rest)
  trivia : Trivia gap before
  close : is_close_by y.kind ≡ true → gap ≡ []
  longest : IsLongest y own rest

no_joint : {y : Token} {text rest : List ℕ} → Standing y text rest → is_same_line y.kind ≡ false
no_joint {y = y} k = line_case y.kind k.own k.longest.stands.spells.shape

abbrev is_between : Kind → Bool
is_between kinds.JsxText = true
is_between k = false

no_text : (k : Kind) → is_between k ≡ false → k ≡ kinds.JsxText → ⊥
no_text k i e = true≢false (sym (ap is_between e) ∙ i)

text_is : (k : Kind) → is_between k ≡ true → k ≡ kinds.JsxText
text_is kinds.JsxText i = refl
text_is k i = absurd (true≢false (sym i))

no_child_goal : (k : Kind) → is_between k ≡ false → goal k ≡ Child → ⊥
unfolding goal
no_child_goal kinds.JsxText i e = true≢false i
no_child_goal k i e = cc

-- ---- text between tags

close_text : (k : Kind) → is_between k ≡ true → is_close_by k ≡ true
unfolding is_close_by reading.is_child is_hashbang_kind
close_text kinds.JsxText i = refl
close_text k i = absurd (true≢false (sym i))

close_open : (k : Kind) → is_between k ≡ false → reading.is_child k ≡ true → (k ≡ kinds.JsxOpen) × (is_close_by k ≡ true)
unfolding is_close_by reading.is_child is_hashbang_kind
close_open kinds.JsxOpen i h = (refl, refl)
close_open kinds.JsxText i h = absurd (true≢false i)
close_open k i h = absurd (true≢false (sym h))

at_once : {y : Token} {text rest : List ℕ} → (k : Standing y text rest) → is_close_by y.kind ≡ true → text ≡ k.own ++ rest
at_once {rest = rest} k c = k.is_text ∙ ap (λ z. z ++ (k.own ++ rest)) (k.close c)

shaped : (k : Kind) (t : List ℕ) → k ≡ kinds.JsxText → has_shape k t ≡ true → is_jsx_text t ≡ true
unfolding has_shape
shaped k t e h = subst (λ z. has_shape z t ≡ true) e h

opened : (k : Kind) (t : List ℕ) → k ≡ kinds.JsxOpen → has_shape k t ≡ true → is_jsx_open t ≡ true
unfolding has_shape
opened k t e h = subst (λ z. has_shape z t ≡ true) e h

-- text, and another token
by_text : (x y : Token) {text u v : List ℕ} (b : Bool) → reading.is_child y.kind ≡ b → is_between x.kind ≡ true → is_between y.kind ≡ false → Standing x text u → Standing y text v → apart.Rivals (class (as_name x)) (class (as_name y))
by_text x y false c i j h k = subst (λ z. apart.Rivals z (class (as_name y))) (sym (class_named x)) (subst (λ z. apart.Rivals (class x) z) (sym (class_named y)) (text_rivals x y (text_is x.kind i) c))
by_text x y {u = u} {v = v} true c i j h k =
    let o = close_open y.kind j c in
    absurd (no_open h.own k.own u v (shaped x.kind h.own (text_is x.kind i) h.longest.stands.spells.shape) (opened y.kind k.own o.0 k.longest.stands.spells.shape) (sym (at_once h (close_text x.kind i)) ∙ at_once k o.1))

-- ---- what stands at one place

same_place : {x y : Token} {text u v : List ℕ} → is_between x.kind ≡ false → is_between y.kind ≡ false → (h : Standing x text u) → (k : Standing y text v) → h.own ++ u ≡ k.own ++ v
same_place {x = x} {y = y} {u = u} {v = v} i j h k =
    (same_trivia h.gap k.gap (h.own ++ u) (k.own ++ v) h.before k.before h.trivia k.trivia (sym h.is_text ∙ k.is_text)
    (solid x h.own u (no_child_goal x.kind i) h.longest) (solid y k.own v (no_child_goal y.kind j) k.longest)).1

both_named : (x y : Token) → apart.Rivals (class x) (class y) → apart.Rivals (class (as_name x)) (class (as_name y))
both_named x y r = subst (λ z. apart.Rivals z (class (as_name y))) (sym (class_named x)) (subst (λ z. apart.Rivals (class x) z) (sym (class_named y)) r)

of_one_kind : (x y : Token) (us vs : List Token) (a b u v : List ℕ) → x.kind ≡ y.kind → IsLongest x a u → IsLongest y b v → a ++ u ≡ b ++ v → Step x y us vs u v
of_one_kind x y us vs a b u v s h k e = let one = same_longest x y a b u v h k e s in inl (ap as_name one.0, one.2)

syntax_case : (k : Kind) → is_same_line k ≡ false → is_of_jsx k ≡ false → is_of_syntax k ≡ false
syntax_case k i h = or_from (is_of_jsx k) (is_same_line k) h i

-- neither is text between tags
step_by : (x y : Token) (us vs : List Token) {text u v : List ℕ} (b c : Bool) → is_of_jsx x.kind ≡ b → is_of_jsx y.kind ≡ c → is_between x.kind ≡ false → is_between y.kind ≡ false → Standing x text u → Standing y text v → Step x y us vs u v
step_by x y us vs {u = u} {v = v} true c i j m n h k =
    let e = same_place m n h k in
    elim (jsx_meets x y h.own k.own u v i (no_text x.kind m) (no_text y.kind n) h.longest k.longest e) [ inl s ↦ of_one_kind x y us vs h.own k.own u v s h.longest k.longest e | inr r ↦ inr (tells (both_named x y r)) ]
step_by x y us vs {u = u} {v = v} false true i j m n h k =
    let e = same_place m n h k in
    elim (jsx_meets y x k.own h.own v u j (no_text y.kind n) (no_text x.kind m) k.longest h.longest (sym e)) [
      | inl s ↦ of_one_kind x y us vs h.own k.own u v (sym s) h.longest k.longest e
      | inr r ↦ inr (tells_too (both_named y x r))
    ]
step_by x y us vs {u = u} {v = v} false false i j m n h k =
    let e = same_place m n h k in
    by_met x y us vs h.own k.own u v h.longest k.longest e (meet x y h.own k.own u v (syntax_case x.kind (no_joint h) i) (syntax_case y.kind (no_joint k) j) h.longest k.longest e)

step_of : (x y : Token) (us vs : List Token) {text u v : List ℕ} (b c : Bool) → is_between x.kind ≡ b → is_between y.kind ≡ c → Standing x text u → Standing y text v → Step x y us vs u v
step_of x y us vs {u = u} {v = v} true true m n h k =
    of_one_kind x y us vs h.own k.own u v (text_is x.kind m ∙ sym (text_is y.kind n)) h.longest k.longest (sym (at_once h (close_text x.kind m)) ∙ at_once k (close_text y.kind n))
step_of x y us vs true false m n h k = inr (tells (by_text x y (reading.is_child y.kind) refl m n h k))
step_of x y us vs false true m n h k = inr (tells_too (by_text y x (reading.is_child x.kind) refl n m k h))
step_of x y us vs false false m n h k = step_by x y us vs (is_of_jsx x.kind) (is_of_jsx y.kind) refl refl m n h k

step_at : (x y : Token) (us vs : List Token) {text u v : List ℕ} → Standing x text u → Standing y text v → Step x y us vs u v
step_at x y us vs h k = step_of x y us vs (is_between x.kind) (is_between y.kind) refl refl h k

-- ---- where one list ends

nothing : (y : Token) (own rest : List ℕ) → own ++ rest ≡ [] → IsLongest y own rest → ⊥
nothing y [] rest e l = some_text y.kind l.stands.spells.shape
nothing y (c ∷ own) rest e l = absurd (cc)

-- no token is trivia but text between tags
none_left : {y : Token} {text rest : List ℕ} {cs : List Remark} → is_between y.kind ≡ false → Trivia text cs → Standing y text rest → ⊥
none_left {y = y} {text = text} {rest = rest} {cs = cs} i h k =
    let s = same_trivia text k.gap [] (k.own ++ rest) cs k.before h k.trivia (append-nil text ∙ k.is_text) nothing_solid (solid y k.own rest (no_child_goal y.kind i) k.longest) in
    nothing y k.own rest (sym s.1) k.longest

only_text : {y : Token} {text rest : List ℕ} {cs : List Remark} (b : Bool) → is_between y.kind ≡ b → Trivia text cs → Standing y text rest → is_between y.kind ≡ true
only_text true i h k = i
only_text false i h k = absurd (none_left i h k)

text_part : {y : Token} {text rest : List ℕ} {cs : List Remark} → Trivia text cs → Standing y text rest → class (as_name y) ≡ Jsx TagText
text_part {y = y} h k = class_named y ∙ ap (λ z. class_of z y.value) (text_is y.kind (only_text (is_between y.kind) refl h k))

text_told : {y : Token} {text rest : List ℕ} {cs : List Remark} (l : Class) → not (is_child l) ≡ true → Trivia text cs → Standing y text rest → apart.Rivals (class (as_name y)) l
text_told l i h k = subst (λ z. apart.Rivals z l) (sym (text_part h k)) (apart.by_jsx i)

-- ---- `[no LineTerminator here]` in one of them

-- a token of JSX by its class
jsx_class : (k : Kind) (v : Value) (t : List ℕ) → is_of_jsx k ≡ true → has_shape k t ≡ true → v ≡ value_of k t → (part : JsxPart) × (class_of k v ≡ Jsx part)
unfolding has_shape value_of
jsx_class kinds.Close v t j h e = (TagClose, refl)
jsx_class kinds.JsxName v t j h e = (TagName, refl)
jsx_class kinds.JsxString v t j h e = (TagString, refl)
jsx_class kinds.JsxText v t j h e = (TagText, refl)
jsx_class kinds.JsxOpen v t j h e = elim (open_sort t h) [
  | inl i ↦ (ChildBraceMark, ap (class_of kinds.JsxOpen) (e ∙ ap Characters i))
  | inr i ↦ (ChildTagMark, ap (class_of kinds.JsxOpen) (e ∙ ap Characters i))
]
jsx_class k v t j h e = absurd (true≢false (sym j))

jsx_named : {y : Token} {text rest : List ℕ} → is_of_jsx y.kind ≡ true → Standing y text rest → (part : JsxPart) × (class (as_name y) ≡ Jsx part)
jsx_named {y = y} j k = let p = jsx_class y.kind y.value k.own j k.longest.stands.spells.shape (sym k.longest.stands.spells.value) in (p.0, class_named y ∙ p.1)

never_line : (part : JsxPart) → begins_like part Line ≡ true
never_line TagName = refl
never_line TagString = refl
never_line TagClose = refl
never_line TagText = refl
never_line ChildTagMark = refl
never_line ChildBraceMark = refl

line_rivals : {line y : Token} {text rest : List ℕ} → line ≡ same_line → is_of_jsx y.kind ≡ true → Standing y text rest → apart.Rivals (class (as_name y)) (class (as_name line))
line_rivals {line = line} l j k =
    let p = jsx_named j k in
    subst (λ z. apart.Rivals z (class (as_name line))) (sym p.1) (subst (λ z. apart.Rivals (Jsx p.0) z) (sym (line_class line l)) (apart.by_jsx (never_line p.0)))

line_lined : (x : Token) → x ≡ same_line → lines.is_never_lined (class (as_name x)) ≡ true
line_lined x e = ap lines.is_never_lined (line_class x e)

jsx_lined : {x : Token} {text rest : List ℕ} → is_of_jsx x.kind ≡ true → Standing x text rest → lines.is_never_lined (class (as_name x)) ≡ true
jsx_lined j k = ap lines.is_never_lined (jsx_named j k).1

plain_lined : (k : Kind) (v : Value) → is_same_line k ≡ false → is_of_jsx k ≡ false → lines.is_never_lined (class_of k v) ≡ false
unfolding is_same_line
plain_lined kinds.SameLine v i j = absurd (true≢false i)
plain_lined kinds.Word (Characters text) i j = not-true _ (looked (λ z. not (lines.is_never_lined z)) words text refl refl)
plain_lined kinds.Word v i j = refl
plain_lined kinds.Punctuator (Characters text) i j = not-true _ (looked (λ z. not (lines.is_never_lined z)) marks text refl refl)
plain_lined kinds.Punctuator v i j = refl
plain_lined kinds.Name (Characters text) i j = of_neither lines.is_never_lined (is_reserved text) KeyToken NameToken refl refl
plain_lined kinds.Close v i j = absurd (true≢false j)
plain_lined kinds.JsxName v i j = absurd (true≢false j)
plain_lined kinds.JsxString v i j = absurd (true≢false j)
plain_lined kinds.JsxText v i j = absurd (true≢false j)
plain_lined kinds.JsxOpen v i j = absurd (true≢false j)
plain_lined k v i j = refl

plain_named : {x : Token} {text rest : List ℕ} → is_of_jsx x.kind ≡ false → Standing x text rest → lines.is_never_lined (class (as_name x)) ≡ false
plain_named {x = x} j k = ap lines.is_never_lined (class_named x) ∙ plain_lined x.kind x.value (no_joint k) j

line_fork : (line x y : Token) (us vs : List Token) → line ≡ same_line → is_same_line y.kind ≡ false → lines.is_never_lined (class (as_name x)) ≡ false → lines.is_never_lined (class (as_name y)) ≡ false → Told (as_name x) (as_name y) us vs →
    (begin_alike (behind_line (as_name line ∷ as_name x ∷ us)) (behind_line (as_name y ∷ vs)) ≡ true) ⊎ lines.Kin (class (as_name x)) (class (as_name y))
line_fork line x y us vs l n i j (none_tells m) = inl (ap₂ begin_alike (behind_the_line line (as_name x ∷ us) l) (stays_there y vs n) ∙ m)
line_fork line x y us vs l n i j (tells r) = inr (lines.rival_kin r i)
line_fork line x y us vs l n i j (tells_too r) = inr (lines.rival_kin_too r j)

-- the first has it, and neither goes on with a token of JSX
line_step : (line x y : Token) (us vs : List Token) {text u v : List ℕ} → line ≡ same_line → is_of_jsx x.kind ≡ false → is_of_jsx y.kind ≡ false → Standing x text u → Standing y text v →
    (begin_alike (behind_line (as_name line ∷ as_name x ∷ us)) (behind_line (as_name y ∷ vs)) ≡ true) ⊎ lines.Kin (class (as_name x)) (class (as_name y))
line_step line x y us vs l i j h k = elim (step_at x y us vs h k) [
  | inl e ↦ inr (lines.same_kin (sym (ap class e.0)))
  | inr f ↦ line_fork line x y us vs l (no_joint k) (plain_named i h) (plain_named j k) f
]

swapped : (a b : Bool) → (a || b) ≡ true → (b || a) ≡ true
swapped true true h = refl
swapped true false h = refl
swapped false true h = refl
swapped false false h = absurd (true≢false (sym h))

turned_about : (us vs : List Token) → begin_alike us vs ≡ true → begin_alike vs us ≡ true
unfolding begin_alike
turned_about [] vs h = absurd (true≢false (sym h))
turned_about (x ∷ us) [] h = absurd (true≢false (sym h))
turned_about (x ∷ us) (y ∷ vs) h = swapped (are_homographs x y) (are_homographs y x) h

line_before : (line x y : Token) (us vs : List Token) {text u v : List ℕ} (b c : Bool) → is_of_jsx x.kind ≡ b → is_of_jsx y.kind ≡ c → line ≡ same_line → Standing x text u → Standing y text v → Fork (as_name line ∷ as_name x ∷ us) (as_name y ∷ vs)
line_before line x y us vs true c i j l h k = lined (line_class line l) (jsx_lined i h)
line_before line x y us vs false true i j l h k = told_too (line_rivals l j k)
line_before line x y us vs false false i j l h k = elim (line_step line x y us vs l i j h k) [ inl m ↦ parts m | inr r ↦ line_told (line_class line l) (no_line y (no_joint k)) r ]

line_before_too : (line x y : Token) (us vs : List Token) {text u v : List ℕ} (b c : Bool) → is_of_jsx x.kind ≡ b → is_of_jsx y.kind ≡ c → line ≡ same_line → Standing x text u → Standing y text v → Fork (as_name y ∷ vs) (as_name line ∷ as_name x ∷ us)
line_before_too line x y us vs true c i j l h k = lined_too (line_class line l) (jsx_lined i h)
line_before_too line x y us vs false true i j l h k = told (line_rivals l j k)
line_before_too line x y us vs false false i j l h k = elim (line_step line x y us vs l i j h k) [
  | inl m ↦ parts (turned_about (behind_line (as_name line ∷ as_name x ∷ us)) (behind_line (as_name y ∷ vs)) m)
  | inr r ↦ line_told_too (line_class line l) (no_line y (no_joint k)) r
]

-- ---- both go on with tokens

fork_by : (x y : Token) (us vs : List Token) → is_same_line x.kind ≡ false → is_same_line y.kind ≡ false → Told (as_name x) (as_name y) us vs → Fork (as_name x ∷ us) (as_name y ∷ vs)
fork_by x y us vs i j (none_tells m) = parts (both_there x y us vs true i j m)
fork_by x y us vs i j (tells r) = told r
fork_by x y us vs i j (tells_too r) = told_too r

both_go : (x y : Token) (us vs : List Token) {text u v : List ℕ} → Standing x text u → Standing y text v → (u ≡ v → (us ≡ vs) ⊎ Split us vs) → (as_name x ∷ us ≡ as_name y ∷ vs) ⊎ Split (as_name x ∷ us) (as_name y ∷ vs)
both_go x y us vs h k later = elim (step_at x y us vs h k) [
  | inl e ↦ further (as_name x) (as_name y) e.0 (later e.1)
  | inr f ↦ inr (here (fork_by x y us vs (no_joint h) (no_joint k) f))
]

-- ---- so two lists of one text are one, or they part

-- what `ReadsOn` says of a token that is a text
abbrev Placed : Bool → Bool → List ℕ → Token → List Token → List Remark → Type 0
Placed first joined text x xs remarks =
    (gap own rest : List ℕ) × (before later : List Remark)
    × (text ≡ gap ++ (own ++ rest))
    × Trivia gap before
    × (is_close_by x.kind ≡ true → gap ≡ [])
    × (is_hashbang_kind x.kind ≡ true → first ≡ true)
    × (joined ≡ true → is_one_line gap ≡ true)
    × IsLongest x own rest
    × ReadsOn false false rest xs later
    × (remarks ≡ before ++ later)

standing : (first joined : Bool) (text : List ℕ) (x : Token) (xs : List Token) (remarks : List Remark) → (k : Placed first joined text x xs remarks) → Standing x text k.2
standing first joined text x xs remarks k = record { gap = k.0; own = k.1; before = k.3; is_text = k.5; trivia = k.6; close = k.7; longest = k.10 }

pub split : (xs ys : List Token) (first joined other : Bool) (text : List ℕ) (cs ds : List Remark) → ReadsOn first joined text xs cs → ReadsOn first other text ys ds → (as_names xs ≡ as_names ys) ⊎ Split (as_names xs) (as_names ys)
unfolding ReadsOn as_names
split [] [] first joined other text cs ds h k = inl refl
split [] (y ∷ []) first joined other text cs ds h (inl k) = inr (here (last_too (line_class y k.0)))
split [] (y ∷ z ∷ ys) first joined other text cs ds h (inl (l, inl k)) = inr (here (lined_too (line_class y l) (line_lined z k.0)))
split [] (y ∷ z ∷ ys) first joined other text cs ds h (inl (l, inr k)) = inr (here (lined_too (line_class y l) (ap lines.is_never_lined (text_part h (standing first true text z ys ds k)))))
split [] (y ∷ ys) first joined other text cs ds h (inr k) = inr (here (ended (text_part h (standing first other text y ys ds k))))
split (x ∷ []) [] first joined other text cs ds (inl h) k = inr (here (last (line_class x h.0)))
split (x ∷ z ∷ xs) [] first joined other text cs ds (inl (l, inl h)) k = inr (here (lined (line_class x l) (line_lined z h.0)))
split (x ∷ z ∷ xs) [] first joined other text cs ds (inl (l, inr h)) k = inr (here (lined (line_class x l) (ap lines.is_never_lined (text_part k (standing first true text z xs cs h)))))
split (x ∷ xs) [] first joined other text cs ds (inr h) k = inr (here (ended_too (text_part k (standing first joined text x xs cs h))))
split (x ∷ xs) (y ∷ ys) first joined other text cs ds (inl h) (inl k) = further (as_name x) (as_name y) (ap as_name (h.0 ∙ sym k.0)) (split xs ys first true true text cs ds h.1 k.1)
split (x ∷ []) (y ∷ ys) first joined other text cs ds (inl h) (inr k) =
    inr (here (told_too {x = as_name x} {y = as_name y} (text_told {y = y} (class (as_name x)) (ap (λ z. not (is_child z)) (line_class x h.0)) h.1 (standing first other text y ys ds k))))
split (x ∷ z ∷ xs) (y ∷ ys) first joined other text cs ds (inl (l, inl h)) (inr k) = inr (here (lined (line_class x l) (line_lined z h.0)))
split (x ∷ z ∷ xs) (y ∷ ys) first joined other text cs ds (inl (l, inr h)) (inr k) =
    inr (here (line_before x z y (as_names xs) (as_names ys) (is_of_jsx z.kind) (is_of_jsx y.kind) refl refl l (standing first true text z xs cs h) (standing first other text y ys ds k)))
split (x ∷ xs) (y ∷ []) first joined other text cs ds (inr h) (inl k) =
    inr (here (told {x = as_name x} {y = as_name y} (text_told {y = x} (class (as_name y)) (ap (λ z. not (is_child z)) (line_class y k.0)) k.1 (standing first joined text x xs cs h))))
split (x ∷ xs) (y ∷ z ∷ ys) first joined other text cs ds (inr h) (inl (l, inl k)) = inr (here (lined_too (line_class y l) (line_lined z k.0)))
split (x ∷ xs) (y ∷ z ∷ ys) first joined other text cs ds (inr h) (inl (l, inr k)) =
    inr (here (line_before_too y z x (as_names ys) (as_names xs) (is_of_jsx z.kind) (is_of_jsx x.kind) refl refl l (standing first true text z ys ds k) (standing first joined text x xs cs h)))
split (x ∷ xs) (y ∷ ys) first joined other text cs ds (inr h) (inr k) =
    both_go x y (as_names xs) (as_names ys) (standing first joined text x xs cs h) (standing first other text y ys ds k)
    (λ r. split xs ys false false false h.2 h.4 k.4 h.11 (subst (λ z. ReadsOn false false z ys k.4) (sym r) k.11))
