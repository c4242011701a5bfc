-- What begins in a text as a token of JSX does.
use Rattle.std.proofs.Common.{◌≡◌, ℕ, true, false, ◌||◌, ◌==◌, not, ◌⊎◌, inl, inr, List, [], ◌∷◌, ◌++◌, codes, refl, sym, ap, ap₂, ◌∙◌, subst}
use Rattle.std.proofs.lemmas.Bool.{true≢false, and_parts, cond-true, not-true, or_cases, or_left}
use Rattle.swc_ecma_codegen_grammar.specs.Chars.{is_digit, is_letter, is_quote, is_start}
use Rattle.swc_ecma_codegen_grammar.specs.Jsx.{all_bare, is_bare, is_jsx_name, is_jsx_open, is_jsx_string, is_jsx_text}
use Rattle.swc_ecma_codegen_grammar.specs.LongestMatch.{IsLongest}
use Rattle.swc_ecma_codegen_grammar.specs.Punctuators.{punctuators}
use Rattle.swc_ecma_codegen_grammar.specs.Texts.{begins, is_among, is_empty, is_same}
use Rattle.swc_ecma_codegen_grammar.specs.Tokens.{Token, Value, Characters, Ordinary, goal, has_shape, value_of}
use Rattle.swc_ecma_codegen_grammar.specs.declared.kinds.Kind.{Kind}
use Rattle.swc_ecma_codegen_grammar.specs.declared.kinds.Kind.TheVariants.{Word, Name, Punctuator, Ending, Str, Regex, TemplateRest, Close, JsxName, JsxString, JsxText, JsxOpen, Hashbang, SameLine}
use Rattle.swc_ecma_codegen_grammar.proofs.Conditions.{at_eq, same_line_unspelled}
use Rattle.swc_ecma_codegen_grammar.proofs.HashbangShapes.{hashbang_head}
use Rattle.swc_ecma_codegen_grammar.proofs.JsxShapes.{jsx_name_head, jsx_string_head, some_jsx_name, some_jsx_string}
use Rattle.swc_ecma_codegen_grammar.proofs.NameShapes.{starts_name}
use Rattle.swc_ecma_codegen_grammar.proofs.RegexShapes.{regex_head}
use Rattle.swc_ecma_codegen_grammar.proofs.Sorts.{Lettered, Quoted, Marked, shape_sort, sort, sort_of}
use Rattle.swc_ecma_codegen_grammar.proofs.Tables.{each, each_at, eq_of_same}
use Rattle.swc_ecma_codegen_grammar.proofs.TemplateShapes.{template_rest_head}
use Rattle.swc_ecma_codegen_uniqueness.proofs.Classes.{Jsx, JsxPart, TagName, TagString, TagClose, TagText, ChildTagMark, ChildBraceMark, class, class_of, look, words, marks, KeyToken, NameToken}
use Rattle.swc_ecma_codegen_uniqueness.proofs.JsxParts.{begins_like, is_in_tag, is_child, is_angled, is_quoted, is_less, is_brace}
use Rattle.swc_ecma_codegen_uniqueness.proofs.Looks.{looked, of_two}
use Rattle.swc_ecma_codegen_grammar.specs.Reads as reading
use Rattle.swc_ecma_codegen_uniqueness.proofs.Apart.{Rivals, by_jsx}
use Rattle.swc_ecma_codegen_uniqueness.proofs.Homographs.{begins_too, is_of_jsx, lone_mark, same_text, spelled}
use Rattle.swc_ecma_codegen_syntax.specs.NameForms.{is_reserved}

-- ---- the first character of a token, by its kind

-- `/` of a regular expression, `}` of the rest of a template, `>` of a tag, `#` of a hashbang
abbrev own_mark : Kind → ℕ
own_mark Regex = 47
own_mark (TemplateRest part) = 125
own_mark Close = 62
own_mark Hashbang = 35
own_mark k = 0

head_is : (c d : ℕ) (m n : List ℕ) → c ∷ m ≡ d ∷ n → c ≡ d
head_is c d m n e = cc e

marked_head : (k : Kind) (c : ℕ) (m : List ℕ) → (own_mark k == 0) ≡ false → has_shape k (c ∷ m) ≡ true → c ≡ own_mark k
unfolding has_shape is_same
marked_head Regex c m o h = let r = regex_head (c ∷ m) h in head_is c 47 m (r.0 ∷ r.1) r.2
marked_head (TemplateRest part) c m o h = at_eq (λ z. z ≡ 125) c 125 (template_rest_head part c m h) refl
marked_head Close c m o h = at_eq (λ z. z ≡ 62) c 62 (and_parts (c == 62) _ h).0 refl
marked_head Hashbang c m o h = at_eq (λ z. z ≡ 35) c 35 (hashbang_head c m h) refl
marked_head k c m o h = absurd (true≢false o)

-- the kinds of a first character: ordinary ones of a sort, those with a mark of their own, and a name or a string in a tag, and text between tags
data Headed (c : ℕ) (m : List ℕ) : Kind → Type 0 where
  of_sort : {k : Kind} → goal k ≡ Ordinary → sort k ≡ sort_of (c ∷ m) → Headed c m k
  of_mark : {k : Kind} → (own_mark k == 0) ≡ false → c ≡ own_mark k → Headed c m k
  of_name : is_start c ≡ true → Headed c m JsxName
  of_string : is_quote c ≡ true → Headed c m JsxString
  of_text : Headed c m JsxText

headed : (k : Kind) (c : ℕ) (m : List ℕ) → has_shape k (c ∷ m) ≡ true → Headed c m k
unfolding goal has_shape
headed Regex c m h = of_mark refl (marked_head Regex c m refl h)
headed (TemplateRest part) c m h = of_mark refl (marked_head (TemplateRest part) c m refl h)
headed Close c m h = of_mark refl (marked_head Close c m refl h)
headed Hashbang c m h = of_mark refl (marked_head Hashbang c m refl h)
headed JsxName c m h = of_name (jsx_name_head c m h)
headed JsxString c m h = of_string (jsx_string_head c m h)
headed JsxText c m h = of_text
headed SameLine c m h = absurd (same_line_unspelled (c ∷ m) h)
headed k c m h = of_sort refl (sym (shape_sort k (c ∷ m) refl h))

-- ---- a name in a tag, and a word or a name

mark_starts_none : (k : Kind) → (own_mark k == 0) ≡ false → is_start (own_mark k) ≡ false
unfolding is_start is_letter
mark_starts_none Regex o = refl
mark_starts_none (TemplateRest part) o = refl
mark_starts_none Close o = refl
mark_starts_none Hashbang o = refl
mark_starts_none k o = absurd (true≢false o)

mark_quotes_none : (k : Kind) → (own_mark k == 0) ≡ false → is_quote (own_mark k) ≡ false
unfolding is_quote
mark_quotes_none Regex o = refl
mark_quotes_none (TemplateRest part) o = refl
mark_quotes_none Close o = refl
mark_quotes_none Hashbang o = refl
mark_quotes_none k o = absurd (true≢false o)

no_quote : (c : ℕ) → is_quote c ≡ true → is_start c ≡ false
unfolding is_quote is_start is_letter
no_quote c h = elim (or_cases (c == 34) (c == 39) h) [ inl e ↦ at_eq (λ z. is_start z ≡ false) c 34 e refl | inr e ↦ at_eq (λ z. is_start z ≡ false) c 39 e refl ]

lettered : (c : ℕ) (m : List ℕ) → is_start c ≡ true → sort_of (c ∷ m) ≡ Lettered
unfolding sort_of starts_name
lettered c m h = cond-true (starts_name c) _ _ (or_left (is_start c) (c == 92) h)

quoted : (c : ℕ) (m : List ℕ) → is_quote c ≡ true → sort_of (c ∷ m) ≡ Quoted
unfolding sort_of is_quote starts_name is_start is_letter is_digit
quoted c m h = elim (or_cases (c == 34) (c == 39) h) [ inl e ↦ at_eq (λ z. sort_of (z ∷ m) ≡ Quoted) c 34 e refl | inr e ↦ at_eq (λ z. sort_of (z ∷ m) ≡ Quoted) c 39 e refl ]

lettered_class : (k : Kind) (v : Value) → goal k ≡ Ordinary → sort k ≡ Lettered → not (is_in_tag (class_of k v)) ≡ true
unfolding goal sort
lettered_class Word (Characters text) g s = looked (λ z. not (is_in_tag z)) words text refl refl
lettered_class Word v g s = refl
lettered_class Name (Characters text) g s = of_two (λ z. not (is_in_tag z)) (is_reserved text) KeyToken NameToken refl refl
lettered_class Name v g s = refl
lettered_class k v g s = absurd (cc)

quoted_class : (k : Kind) (v : Value) → goal k ≡ Ordinary → sort k ≡ Quoted → is_quoted (class_of k v) ≡ true
unfolding goal sort
quoted_class Str v g s = refl
quoted_class k v g s = absurd (cc)

-- what stands at a token of JSX: one of its kind, or one that no state takes there
abbrev JsxMet : Kind → JsxPart → Kind → Value → Type 0
JsxMet k part l v = (k ≡ l) ⊎ (begins_like part (class_of l v) ≡ true)

name_met : (l : Kind) (v : Value) (c : ℕ) (m : List ℕ) → is_start c ≡ true → Headed c m l → (l ≡ JsxText → ⊥) → JsxMet JsxName TagName l v
name_met l v c m h (of_sort g s) n = inr (lettered_class l v g (s ∙ lettered c m h))
name_met l v c m h (of_mark o e) n = absurd (true≢false (sym h ∙ ap is_start e ∙ mark_starts_none l o))
name_met l v c m h (of_name i) n = inl refl
name_met l v c m h (of_string q) n = absurd (true≢false (sym h ∙ no_quote c q))
name_met l v c m h of_text n = absurd (n refl)

-- ---- the string of an attribute

string_met : (l : Kind) (v : Value) (c : ℕ) (m : List ℕ) → is_quote c ≡ true → Headed c m l → (l ≡ JsxText → ⊥) → JsxMet JsxString TagString l v
string_met l v c m h (of_sort g s) n = inr (quoted_class l v g (s ∙ quoted c m h))
string_met l v c m h (of_mark o e) n = absurd (true≢false (sym h ∙ ap is_quote e ∙ mark_quotes_none l o))
string_met l v c m h (of_name i) n = absurd (true≢false (sym i ∙ no_quote c h))
string_met l v c m h (of_string q) n = inl refl
string_met l v c m h of_text n = absurd (n refl)

-- ---- the `>` of a tag, and a punctuator that begins with it

angle_marks : each (λ p. not (begins (codes ">") p) || is_angled (look marks p)) punctuators ≡ true
unfolding each begins punctuators
angle_marks = refl

angled : (t : List ℕ) → is_among t punctuators ≡ true → begins (codes ">") t ≡ true → is_angled (look marks t) ≡ true
angled t h b = elim (or_cases _ _ (each_at (λ p. not (begins (codes ">") p) || is_angled (look marks p)) t punctuators angle_marks h)) [
  | inl n ↦ absurd (true≢false (sym b ∙ not-true _ n))
  | inr a ↦ a
]

mark_of : (k : Kind) (v : Value) (t : List ℕ) → k ≡ Punctuator → v ≡ Characters t → class_of k v ≡ look marks t
mark_of k v t e f = ap₂ class_of e f

marked_value : (k : Kind) (t : List ℕ) → k ≡ Punctuator → value_of k t ≡ Characters t
unfolding value_of
marked_value k t e = ap (λ z. value_of z t) e

close_met : (l : Kind) (v : Value) (m : List ℕ) → v ≡ value_of l (62 ∷ m) → has_shape l (62 ∷ m) ≡ true → Headed 62 m l → (l ≡ JsxText → ⊥) → JsxMet Close TagClose l v
unfolding sort_of starts_name is_start is_letter is_digit is_quote is_same is_jsx_open is_among begins
close_met l v m f h (of_sort g s) n =
    let p = lone_mark l (62 ∷ m) g s h refl refl in
    inr (ap is_angled (mark_of l v (62 ∷ m) p.0 (f ∙ marked_value l (62 ∷ m) p.0)) ∙ angled (62 ∷ m) p.1 refl)
close_met Close v m f h (of_mark o e) n = inl refl
close_met Regex v m f h (of_mark o e) n = absurd (true≢false (ap (λ z. z == 62) e))
close_met (TemplateRest part) v m f h (of_mark o e) n = absurd (true≢false (ap (λ z. z == 62) e))
close_met Hashbang v m f h (of_mark o e) n = absurd (true≢false (ap (λ z. z == 62) e))
close_met l v m f h (of_mark o e) n = absurd (true≢false o)
close_met l v m f h (of_name i) n = absurd (true≢false (sym i))
close_met l v m f h (of_string q) n = absurd (true≢false (sym q))
close_met l v m f h of_text n = absurd (n refl)

-- ---- what begins a child, and `<` and `{`

open_kind : (k : Kind) (t : List ℕ) → goal k ≡ Ordinary → sort k ≡ Marked → has_shape k t ≡ true → is_jsx_open t ≡ true → (k ≡ JsxOpen) ⊎ (k ≡ Punctuator)
unfolding goal sort has_shape is_jsx_open is_among is_same
open_kind Punctuator t g s h i = inr refl
open_kind JsxOpen t g s h i = inl refl
open_kind Ending t g s h i = absurd (true≢false (sym i ∙ ap (λ z. is_jsx_open z) (eq_of_same t (codes ";") h)))
open_kind k t g s h i = absurd (cc)

pub open_sort : (t : List ℕ) → is_jsx_open t ≡ true → (t ≡ codes "{") ⊎ (t ≡ codes "<")
unfolding is_jsx_open is_among
open_sort t h = elim (or_cases (is_same t (codes "{")) _ h) [ inl e ↦ inl (eq_of_same t (codes "{") e) | inr r ↦ elim (or_cases (is_same t (codes "<")) false r) [ inl e ↦ inr (eq_of_same t (codes "<") e) | inr n ↦ absurd (true≢false (sym n)) ] ]

brace_ordinary : (l : Kind) (v : Value) (t : List ℕ) → goal l ≡ Ordinary → has_shape l t ≡ true → v ≡ value_of l t → t ≡ codes "{" → JsxMet JsxOpen ChildBraceMark l v
unfolding sort_of starts_name is_start is_letter is_digit is_quote is_jsx_open is_among is_same
brace_ordinary l v t g h f e = elim (open_kind l t g (sym (shape_sort l t g h) ∙ ap sort_of e) h (ap (λ z. is_jsx_open z) e)) [
  | inl k ↦ inl (sym k)
  | inr k ↦ inr (ap is_brace (mark_of l v t k (f ∙ marked_value l t k) ∙ ap (look marks) e))
]

less_ordinary : (l : Kind) (v : Value) (t : List ℕ) → goal l ≡ Ordinary → has_shape l t ≡ true → v ≡ value_of l t → t ≡ codes "<" → JsxMet JsxOpen ChildTagMark l v
unfolding sort_of starts_name is_start is_letter is_digit is_quote is_jsx_open is_among is_same
less_ordinary l v t g h f e = elim (open_kind l t g (sym (shape_sort l t g h) ∙ ap sort_of e) h (ap (λ z. is_jsx_open z) e)) [
  | inl k ↦ inl (sym k)
  | inr k ↦ inr (ap is_less (mark_of l v t k (f ∙ marked_value l t k) ∙ ap (look marks) e))
]

-- no other token begins so
mark_opens_none : (k : Kind) → (own_mark k == 0) ≡ false → ((own_mark k == 123) || (own_mark k == 60)) ≡ false
mark_opens_none Regex o = refl
mark_opens_none (TemplateRest part) o = refl
mark_opens_none Close o = refl
mark_opens_none Hashbang o = refl
mark_opens_none k o = absurd (true≢false o)

opens_alone : (l : Kind) (c : ℕ) (m : List ℕ) → ((c == 123) || (c == 60)) ≡ true → is_start c ≡ false → is_quote c ≡ false → Headed c m l → (l ≡ JsxText → ⊥) → goal l ≡ Ordinary
opens_alone l c m h i j (of_sort g s) n = g
opens_alone l c m h i j (of_mark o e) n = absurd (true≢false (sym h ∙ ap (λ z. (z == 123) || (z == 60)) e ∙ mark_opens_none l o))
opens_alone l c m h i j (of_name k) n = absurd (true≢false (sym k ∙ i))
opens_alone l c m h i j (of_string k) n = absurd (true≢false (sym k ∙ j))
opens_alone l c m h i j of_text n = absurd (n refl)

-- ---- of two tokens at one place

abbrev Either : Kind → Value → Kind → Value → Type 0
Either k w l v = (k ≡ l) ⊎ Rivals (class_of k w) (class_of l v)

as_rivals : (k l : Kind) (part : JsxPart) (w v : Value) → class_of k w ≡ Jsx part → JsxMet k part l v → Either k w l v
as_rivals k l part w v e (inl s) = inl s
as_rivals k l part w v e (inr h) = inr (subst (λ z. Rivals z (class_of l v)) (sym e) (by_jsx h))

name_by : (l : Kind) (w v : Value) (a b u r : List ℕ) → (l ≡ JsxText → ⊥) → is_jsx_name a ≡ true → has_shape l b ≡ true → a ++ u ≡ b ++ r → Either JsxName w l v
name_by l w v [] b u r n h k e = absurd (some_jsx_name h)
name_by l w v (c ∷ a) b u r n h k e =
    let o = begins_too c a b u r e (spelled l b k) in
    as_rivals JsxName l TagName w v refl (name_met l v c o.0 (jsx_name_head c a h) (headed l c o.0 (subst (λ z. has_shape l z ≡ true) o.1 k)) n)

string_by : (l : Kind) (w v : Value) (a b u r : List ℕ) → (l ≡ JsxText → ⊥) → is_jsx_string a ≡ true → has_shape l b ≡ true → a ++ u ≡ b ++ r → Either JsxString w l v
string_by l w v [] b u r n h k e = absurd (some_jsx_string h)
string_by l w v (c ∷ a) b u r n h k e =
    let o = begins_too c a b u r e (spelled l b k) in
    as_rivals JsxString l TagString w v refl (string_met l v c o.0 (jsx_string_head c a h) (headed l c o.0 (subst (λ z. has_shape l z ≡ true) o.1 k)) n)

close_by : (l : Kind) (w v : Value) (a b u r : List ℕ) → (l ≡ JsxText → ⊥) → a ≡ 62 ∷ [] → v ≡ value_of l b → has_shape l b ≡ true → a ++ u ≡ b ++ r → Either Close w l v
close_by l w v a b u r n h f k e =
    let o = begins_too 62 [] b u r (sym (ap (λ z. z ++ u) h) ∙ e) (spelled l b k) in
    let x = subst (λ z. has_shape l z ≡ true) o.1 k in
    as_rivals Close l TagClose w v refl (close_met l v o.0 (f ∙ ap (value_of l) o.1) x (headed l 62 o.0 x) n)

open_by : (l : Kind) (w v : Value) (a b u r : List ℕ) → (l ≡ JsxText → ⊥) → is_jsx_open a ≡ true → w ≡ Characters a → v ≡ value_of l b → has_shape l b ≡ true → (Ordinary ≡ goal l → a ≡ b) → a ++ u ≡ b ++ r → Either JsxOpen w l v
unfolding is_start is_letter is_quote
open_by l w v a b u r n h q f k s e = elim (open_sort a h) [
  | inl i ↦
      let o = begins_too 123 [] b u r (sym (ap (λ z. z ++ u) i) ∙ e) (spelled l b k) in
      let g = opens_alone l 123 o.0 refl refl refl (headed l 123 o.0 (subst (λ z. has_shape l z ≡ true) o.1 k)) n in
      as_rivals JsxOpen l ChildBraceMark w v (ap (class_of JsxOpen) (q ∙ ap Characters i)) (brace_ordinary l v b g k f (sym (s (sym g)) ∙ i))
  | inr i ↦
      let o = begins_too 60 [] b u r (sym (ap (λ z. z ++ u) i) ∙ e) (spelled l b k) in
      let g = opens_alone l 60 o.0 refl refl refl (headed l 60 o.0 (subst (λ z. has_shape l z ≡ true) o.1 k)) n in
      as_rivals JsxOpen l ChildTagMark w v (ap (class_of JsxOpen) (q ∙ ap Characters i)) (less_ordinary l v b g k f (sym (s (sym g)) ∙ i))
]

by_kind : (k l : Kind) (w v : Value) (a b u r : List ℕ) → is_of_jsx k ≡ true → (k ≡ JsxText → ⊥) → (l ≡ JsxText → ⊥) → has_shape k a ≡ true → w ≡ value_of k a → has_shape l b ≡ true → v ≡ value_of l b → (goal k ≡ goal l → a ≡ b) → a ++ u ≡ b ++ r → Either k w l v
unfolding has_shape value_of goal
by_kind JsxName l w v a b u r j m n h q k f s e = name_by l w v a b u r n h k e
by_kind JsxString l w v a b u r j m n h q k f s e = string_by l w v a b u r n h k e
by_kind Close l w v a b u r j m n h q k f s e = close_by l w v a b u r n (eq_of_same a (codes ">") h) f k e
by_kind JsxOpen l w v a b u r j m n h q k f s e = open_by l w v a b u r n h q f k s e
by_kind JsxText l w v a b u r j m n h q k f s e = absurd (m refl)
by_kind k l w v a b u r j m n h q x f s e = absurd (true≢false (sym j))

-- neither is text between tags
pub jsx_meets : (x y : Token) (a b u v : List ℕ) → is_of_jsx x.kind ≡ true → (x.kind ≡ JsxText → ⊥) → (y.kind ≡ JsxText → ⊥) → IsLongest x a u → IsLongest y b v → a ++ u ≡ b ++ v → (x.kind ≡ y.kind) ⊎ Rivals (class x) (class y)
jsx_meets x y a b u v j m n h k e =
    by_kind x.kind y.kind x.value y.value a b u v j m n h.stands.spells.shape (sym h.stands.spells.value) k.stands.spells.shape (sym k.stands.spells.value) (λ g. same_text x y a b u v h k e g) e

-- ---- text between tags

text_class : (k : Kind) (v : Value) → reading.is_child k ≡ false → not (is_child (class_of k v)) ≡ true
unfolding reading.is_child
text_class Word (Characters text) h = looked (λ z. not (is_child z)) words text refl refl
text_class Word v h = refl
text_class Punctuator (Characters text) h = looked (λ z. not (is_child z)) marks text refl refl
text_class Punctuator v h = refl
text_class Name (Characters text) h = of_two (λ z. not (is_child z)) (is_reserved text) KeyToken NameToken refl refl
text_class JsxText v h = absurd (true≢false h)
text_class JsxOpen v h = absurd (true≢false h)
text_class k v h = refl

text_is : (k : Kind) (w : Value) → k ≡ JsxText → class_of k w ≡ Jsx TagText
text_is k w e = ap (λ z. class_of z w) e

-- any other token is told from it, but for what begins a child
pub text_rivals : (x y : Token) → x.kind ≡ JsxText → reading.is_child y.kind ≡ false → Rivals (class x) (class y)
text_rivals x y e h = subst (λ z. Rivals z (class y)) (sym (text_is x.kind x.value e)) (by_jsx (text_class y.kind y.value h))

-- and that isn't text
pub no_open : (a b u v : List ℕ) → is_jsx_text a ≡ true → is_jsx_open b ≡ true → a ++ u ≡ b ++ v → ⊥
unfolding is_jsx_text is_empty all_bare is_bare
no_open [] b u v h k e = true≢false (sym h)
no_open (c ∷ a) b u v h k e =
    let bare : is_bare c ≡ true = (and_parts (is_bare c) (all_bare a) h).0 in
    elim (open_sort b k) [
      | inl i ↦ let f : (c ∷ a) ++ u ≡ 123 ∷ v = e ∙ ap (λ z. z ++ v) i in let g : c ≡ 123 = cc f in true≢false (sym bare ∙ ap is_bare g)
      | inr i ↦ let f : (c ∷ a) ++ u ≡ 60 ∷ v = e ∙ ap (λ z. z ++ v) i in let g : c ≡ 60 = cc f in true≢false (sym bare ∙ ap is_bare g)
    ]
