-- One token is the longest, where what follows doesn't become one with it.
use Rattle.std.proofs.Common.{Bool, List, [], codes, cond, false, inl, inr, refl, subst, sym, true, ℕ, ◌&&◌, ◌++◌, ◌==◌, ◌||◌, ◌∙◌, ◌∷◌, ◌≡◌, ◌⊎◌}
use Rattle.std.proofs.lemmas.Bool.{and_from, and_left, and_parts, and_right, eqb-true, false_from_ne_true, not-true, or_cases, or_from, or_parts, true≢false}
use Rattle.swc_ecma_codegen_grammar.proofs.Conditions.{at_eq, same_line_unspelled}
use Rattle.swc_ecma_codegen_grammar.proofs.HashbangShapes.{hashbang_more}
use Rattle.swc_ecma_codegen_grammar.proofs.Heads.{HasHead, has_head, hashbang_plain, is_plain, jsx_name_plain, jsx_string_plain, name_plain, number_plain, plain_ne, private_plain, rest_plain, some_text, string_plain, template_plain}
use Rattle.swc_ecma_codegen_grammar.proofs.JsxShapes.{jsx_name_more, jsx_string_once, jsx_text_more}
use Rattle.swc_ecma_codegen_grammar.proofs.MarkMatch.{mark_comment, mark_ready, no_digit, no_longer}
use Rattle.swc_ecma_codegen_grammar.proofs.Marks.{opener_cases}
use Rattle.swc_ecma_codegen_grammar.proofs.NameShapes.{goes_on_name, name_head, name_more, private_head, private_more, starts_name}
use Rattle.swc_ecma_codegen_grammar.proofs.NumberShapes.{dot_number, number_more}
use Rattle.swc_ecma_codegen_grammar.proofs.RegexShapes.{regex_flags, regex_head}
use Rattle.swc_ecma_codegen_grammar.proofs.Sorts.{Hashed, Lettered, Marked, Numbered, Quoted, Ticked, of_digits, of_hashes, of_letters, of_marks, of_quotes, of_ticks, shape_sort, sort, sort_more}
use Rattle.swc_ecma_codegen_grammar.proofs.StringShapes.{string_head, string_once}
use Rattle.swc_ecma_codegen_grammar.proofs.Tables.{eq_of_same}
use Rattle.swc_ecma_codegen_grammar.proofs.TemplateShapes.{first_template_once, later_template_once, template_head}
use Rattle.swc_ecma_codegen_grammar.specs.Chars.{begins_digit, is_digit, is_letter, is_line_end, is_part, is_quote, is_start}
use Rattle.swc_ecma_codegen_grammar.specs.GapRules.{IntegerEnd, PreviousToken, LineEnd, Mark, Ready, TagNameEnd, WordEnd, allows, ends_line, ends_text, fuses, last_after, mark_fuses}
use Rattle.swc_ecma_codegen_grammar.specs.Hashbangs.{is_hashbang}
use Rattle.swc_ecma_codegen_grammar.specs.Jsx.{is_bare, is_jsx_name, is_jsx_string, is_jsx_text}
use Rattle.swc_ecma_codegen_grammar.specs.LongestMatch.{IsLongest, Stands, goes_on, is_numeric_kind, openers}
use Rattle.swc_ecma_codegen_grammar.specs.Numbers.{takes_dot}
use Rattle.swc_ecma_codegen_grammar.specs.RegularExpressions.{is_regex}
use Rattle.swc_ecma_codegen_grammar.specs.Templates.{is_template_rest}
use Rattle.swc_ecma_codegen_grammar.specs.Texts.{begins, is_among, is_empty, is_same}
use Rattle.swc_ecma_codegen_grammar.specs.Tokens.{Attribute, Child, Closing, FirstLine, InTag, Ordinary, RegularExpression, TemplateTail, Token, goal, has_shape, token_of}
use Rattle.swc_ecma_codegen_grammar.specs.declared.kinds.Kind.{Kind}
use Rattle.swc_ecma_codegen_grammar.specs.declared.kinds.Kind.TheVariants.{BigInt, Close, Ending, Hashbang, JsxName, JsxOpen, JsxString, JsxText, Name, Number, PrivateName, Punctuator, Regex, Str, Template, TemplateRest, Word, SameLine}
use Rattle.swc_ecma_codegen_grammar.specs.declared.kinds.TemplatePart.{TemplatePart}

-- ordinary tokens of one beginning are of one sort
same_sort : (x y : Kind) (d : ℕ) (n : List ℕ) (c : ℕ) (m : List ℕ) → goal x ≡ Ordinary → goal y ≡ Ordinary → has_shape x (d ∷ n) ≡ true → has_shape y (d ∷ (n ++ c ∷ m)) ≡ true → ((d == 46) && (is_empty n && is_digit c)) ≡ false → sort y ≡ sort x
same_sort x y d n c m gx gy hx hy e = sym (shape_sort y (d ∷ (n ++ c ∷ m)) gy hy) ∙ sort_more d n c m e ∙ shape_sort x (d ∷ n) gx hx

start_no_dot : (d : ℕ) → starts_name d ≡ true → (d == 46) ≡ false
unfolding starts_name is_start is_letter
start_no_dot d h = false_from_ne_true _ (λ e. true≢false (sym h ∙ subst (λ z. starts_name z ≡ false) (sym (eqb-true d 46 e)) refl))

quote_no_dot : (d : ℕ) → is_quote d ≡ true → (d == 46) ≡ false
unfolding is_quote
quote_no_dot d h = false_from_ne_true _ (λ e. true≢false (sym h ∙ subst (λ z. is_quote z ≡ false) (sym (eqb-true d 46 e)) refl))

hash_no_dot : (d : ℕ) → (d == 35) ≡ true → (d == 46) ≡ false
hash_no_dot d h = at_eq (λ z. (z == 46) ≡ false) d 35 h refl

tick_no_dot : (d : ℕ) → (d == 96) ≡ true → (d == 46) ≡ false
tick_no_dot d h = at_eq (λ z. (z == 46) ≡ false) d 96 h refl

no_longer_name : (x y : Kind) (t : List ℕ) (c : ℕ) (m : List ℕ) → goal x ≡ Ordinary → goal y ≡ Ordinary → sort x ≡ Lettered → has_shape x t ≡ true → has_shape y (t ++ c ∷ m) ≡ true → goes_on_name c ≡ true
no_longer_name x y [] c m gx gy sx hx hy = absurd (some_text x hx)
no_longer_name x y (d ∷ n) c m gx gy sx hx hy =
    let own = of_letters x (d ∷ n) gx sx hx in
    let e : ((d == 46) && (is_empty n && is_digit c)) ≡ false = and_left (d == 46) _ (start_no_dot d (name_head d n own)) in
    name_more (d ∷ n) c m own (of_letters y (d ∷ (n ++ c ∷ m)) gy (same_sort x y d n c m gx gy hx hy e ∙ sx) hy)

no_longer_string : (x y : Kind) (t : List ℕ) (c : ℕ) (m : List ℕ) → goal x ≡ Ordinary → goal y ≡ Ordinary → sort x ≡ Quoted → has_shape x t ≡ true → has_shape y (t ++ c ∷ m) ≡ true → ⊥
no_longer_string x y [] c m gx gy sx hx hy = some_text x hx
no_longer_string x y (d ∷ n) c m gx gy sx hx hy =
    let own = of_quotes x (d ∷ n) gx sx hx in
    let e : ((d == 46) && (is_empty n && is_digit c)) ≡ false = and_left (d == 46) _ (quote_no_dot d (string_head d n own)) in
    string_once (d ∷ n) c m own (of_quotes y (d ∷ (n ++ c ∷ m)) gy (same_sort x y d n c m gx gy hx hy e ∙ sx) hy)

no_longer_number : (x y : Kind) (t : List ℕ) (c : ℕ) (m : List ℕ) → goal x ≡ Ordinary → goal y ≡ Ordinary → sort x ≡ Numbered → has_shape x t ≡ true → has_shape y (t ++ c ∷ m) ≡ true → (is_part c ≡ true) ⊎ ((c ≡ 46) × (takes_dot t ≡ true))
no_longer_number x y [] c m gx gy sx hx hy = absurd (some_text x hx)
no_longer_number x y (d ∷ n) c m gx gy sx hx hy =
    let own = of_digits x (d ∷ n) gx sx hx in
    number_more (d ∷ n) c m own (of_digits y (d ∷ (n ++ c ∷ m)) gy (same_sort x y d n c m gx gy hx hy (dot_number d n c own) ∙ sx) hy)

no_longer_private : (x y : Kind) (t : List ℕ) (c : ℕ) (m : List ℕ) → goal x ≡ Ordinary → goal y ≡ Ordinary → sort x ≡ Hashed → has_shape x t ≡ true → has_shape y (t ++ c ∷ m) ≡ true → goes_on_name c ≡ true
no_longer_private x y [] c m gx gy sx hx hy = absurd (some_text x hx)
no_longer_private x y (d ∷ n) c m gx gy sx hx hy =
    let own = of_hashes x (d ∷ n) gx sx hx in
    let e : ((d == 46) && (is_empty n && is_digit c)) ≡ false = and_left (d == 46) _ (hash_no_dot d (private_head d n own).0) in
    private_more (d ∷ n) c m own (of_hashes y (d ∷ (n ++ c ∷ m)) gy (same_sort x y d n c m gx gy hx hy e ∙ sx) hy)

no_longer_template : (x y : Kind) (t : List ℕ) (c : ℕ) (m : List ℕ) → goal x ≡ Ordinary → goal y ≡ Ordinary → sort x ≡ Ticked → has_shape x t ≡ true → has_shape y (t ++ c ∷ m) ≡ true → ⊥
no_longer_template x y [] c m gx gy sx hx hy = some_text x hx
no_longer_template x y (d ∷ n) c m gx gy sx hx hy =
    let own = of_ticks x (d ∷ n) gx sx hx in
    let e : ((d == 46) && (is_empty n && is_digit c)) ≡ false = and_left (d == 46) _ (tick_no_dot d (template_head own.0 d n own.1)) in
    let q = of_ticks y (d ∷ (n ++ c ∷ m)) gy (same_sort x y d n c m gx gy hx hy e ∙ sx) hy in
    first_template_once own.0 q.0 (d ∷ n) c m own.1 q.1

-- a dot before a digit becomes a number
dot_fuses : (d : ℕ) (n : List ℕ) (c : ℕ) (r : List ℕ) → fuses (Mark (d ∷ n)) (c ∷ r) ≡ false → ((d == 46) && (is_empty n && is_digit c)) ≡ false
unfolding fuses mark_fuses is_same is_empty
dot_fuses d [] c r f = false_from_ne_true _ (λ e.
    let p = and_parts (d == 46) (is_digit c) e in
    let g : fuses (Mark (46 ∷ [])) (c ∷ r) ≡ false = subst (λ z. fuses (Mark (z ∷ [])) (c ∷ r) ≡ false) (eqb-true d 46 p.0) f in
    let q = or_parts (is_digit c) _ (or_parts _ _ g).1 in
    true≢false (sym p.1 ∙ q.0))
dot_fuses d (x ∷ n) c r f = and_right (d == 46) _ refl

mark_of : (t : List ℕ) (c : ℕ) (n : List ℕ) → fuses (Mark t) (c ∷ n) ≡ false → mark_fuses t c n ≡ false
unfolding fuses
mark_of t c n f = f

no_longer_mark : (x : Kind) (y : Token) (t : List ℕ) (c : ℕ) (m left : List ℕ) → goal x ≡ Ordinary → goal y.kind ≡ Ordinary → sort x ≡ Marked → has_shape x t ≡ true → Stands y (t ++ c ∷ m) left → fuses (Mark t) (c ∷ (m ++ left)) ≡ false → ⊥
no_longer_mark x y [] c m left gx gy sx hx hy f = some_text x hx
no_longer_mark x y (d ∷ n) c m left gx gy sx hx hy f =
    let e = dot_fuses d n c (m ++ left) f in
    no_longer (d ∷ n) m left c (mark_of (d ∷ n) c (m ++ left) f) (of_marks y.kind (d ∷ (n ++ c ∷ m)) gy (same_sort x y.kind d n c m gx gy hx hy.spells.shape e ∙ sx) hy.spells.shape) hy.no_digit

-- what the fields of the longest match come from
build : (x : Kind) (t rest : List ℕ) → has_shape x t ≡ true
    → (t ≡ codes "?." → begins_digit rest ≡ false)
    → ((y : Token) (c : ℕ) (m left : List ℕ) → goal y.kind ≡ goal x → Stands y (t ++ c ∷ m) left → rest ≡ c ∷ (m ++ left) → ⊥)
    → ((goal x ≡ Child → ⊥) → (o : List ℕ) → is_among o openers ≡ true → begins o (t ++ rest) ≡ false)
    → (is_numeric_kind x ≡ true → goes_on rest ≡ false)
    → IsLongest (token_of x t) t rest
unfolding token_of
build x t rest s d none comment ends = record { stands = record { spells = record { shape = s; value = refl }; no_digit = d }; longest = longest; no_comment = comment; number_ends = ends }
  where
    longest : (y : Token) (more left : List ℕ) → goal y.kind ≡ goal x → rest ≡ more ++ left → Stands y (t ++ more) left → more ≡ []
    longest y [] left g e k = refl
    longest y (c ∷ m) left g e k = absurd (none y c m left g k e)

-- no comment opens at a name, a number or a string
plain_comment : (t rest o : List ℕ) → HasHead t → is_among o openers ≡ true → begins o (t ++ rest) ≡ false
unfolding begins is_plain starts_name is_start is_letter is_digit is_quote
plain_comment t rest o (has_head c n e h) k =
    subst (λ z. begins o (z ++ rest) ≡ false) (sym e)
    (opener_cases (λ o. begins o (c ∷ (n ++ rest)) ≡ false) o k
    (and_left (47 == c) _ (plain_ne 47 c refl h)) (and_left (47 == c) _ (plain_ne 47 c refl h)) (and_left (60 == c) _ (plain_ne 60 c refl h)) (and_left (45 == c) _ (plain_ne 45 c refl h)))

plain_choice : (t : List ℕ) → HasHead t → t ≡ codes "?." → ⊥
unfolding is_plain starts_name is_start is_letter is_digit is_quote
plain_choice t (has_head c n e h) f = let x : c ≡ 63 = cc (e, f) in true≢false (sym h ∙ subst (λ z. is_plain z ≡ false) (sym x) refl)

no_part : (c : ℕ) (n : List ℕ) → fuses WordEnd (c ∷ n) ≡ false → is_part c ≡ false
unfolding fuses
no_part c n f = (or_parts (is_part c) (c == 92) f).0

no_more : (c : ℕ) (n : List ℕ) → fuses WordEnd (c ∷ n) ≡ false → goes_on_name c ≡ false
unfolding fuses goes_on_name
no_more c n f = f

none_goes_on : (rest : List ℕ) → fuses WordEnd rest ≡ false → goes_on rest ≡ false
unfolding fuses goes_on
none_goes_on [] f = refl
none_goes_on (c ∷ n) f = f

-- a word or a name
longest_name : (x : Kind) (t rest : List ℕ) → goal x ≡ Ordinary → sort x ≡ Lettered → has_shape x t ≡ true → fuses WordEnd rest ≡ false → IsLongest (token_of x t) t rest
longest_name x t rest g o s f =
    let head = name_plain t (of_letters x t g o s) in
    build x t rest s
    (λ e. absurd (plain_choice t head e))
    (λ y c m left gy k e. true≢false (sym (no_longer_name x y.kind t c m g (gy ∙ g) o s k.spells.shape) ∙ no_more c (m ++ left) (subst (λ z. fuses WordEnd z ≡ false) e f)))
    (λ n p h. plain_comment t rest p head h)
    (λ n. none_goes_on rest f)

-- a string
longest_string : (x : Kind) (t rest : List ℕ) → goal x ≡ Ordinary → sort x ≡ Quoted → has_shape x t ≡ true → (is_numeric_kind x ≡ true → ⊥) → IsLongest (token_of x t) t rest
longest_string x t rest g o s f =
    let head = string_plain t (of_quotes x t g o s) in
    build x t rest s
    (λ e. absurd (plain_choice t head e))
    (λ y c m left gy k e. no_longer_string x y.kind t c m g (gy ∙ g) o s k.spells.shape)
    (λ n p h. plain_comment t rest p head h)
    (λ n. absurd (f n))

-- a number
integer_parts : (c : ℕ) (n : List ℕ) → fuses IntegerEnd (c ∷ n) ≡ false → (is_part c ≡ false) × ((c == 46) ≡ false)
unfolding fuses
integer_parts c n f = let p = or_parts (is_part c || (c == 92)) (c == 46) f in ((or_parts (is_part c) (c == 92) p.0).0, p.1)

integer_word : (rest : List ℕ) → fuses IntegerEnd rest ≡ false → fuses WordEnd rest ≡ false
unfolding fuses
integer_word [] f = refl
integer_word (c ∷ n) f = (or_parts (is_part c || (c == 92)) (c == 46) f).0

number_case : (b : Bool) (rest : List ℕ) → fuses (cond b IntegerEnd WordEnd) rest ≡ false → fuses WordEnd rest ≡ false
number_case true rest f = integer_word rest f
number_case false rest f = f

number_dot : (b : Bool) (n : List ℕ) → b ≡ true → fuses (cond b IntegerEnd WordEnd) (46 ∷ n) ≡ false → ⊥
number_dot true n e f = true≢false (integer_parts 46 n f).1
number_dot false n e f = true≢false (sym e)

longest_number : (x : Kind) (t rest : List ℕ) → goal x ≡ Ordinary → sort x ≡ Numbered → has_shape x t ≡ true → fuses (cond (takes_dot t) IntegerEnd WordEnd) rest ≡ false → IsLongest (token_of x t) t rest
longest_number x t rest g o s f =
    let head = number_plain t (of_digits x t g o s) in
    let w = number_case (takes_dot t) rest f in
    build x t rest s
    (λ e. absurd (plain_choice t head e))
    (λ y c m left gy k e.
    elim (no_longer_number x y.kind t c m g (gy ∙ g) o s k.spells.shape) [
      | inl p ↦ true≢false (sym p ∙ no_part c (m ++ left) (subst (λ z. fuses WordEnd z ≡ false) e w))
      | inr p ↦ number_dot (takes_dot t) (m ++ left) p.1 (subst (λ z. fuses (cond (takes_dot t) IntegerEnd WordEnd) (z ∷ (m ++ left)) ≡ false) p.0 (subst (λ z. fuses (cond (takes_dot t) IntegerEnd WordEnd) z ≡ false) e f))
    ])
    (λ n p h. plain_comment t rest p head h)
    (λ n. none_goes_on rest w)

-- a punctuator
longest_mark : (x : Kind) (t rest : List ℕ) → goal x ≡ Ordinary → sort x ≡ Marked → has_shape x t ≡ true → (is_numeric_kind x ≡ true → ⊥) → Ready (Mark t) rest → IsLongest (token_of x t) t rest
longest_mark x t rest g o s f r =
    let p = of_marks x t g o s in
    build x t rest s
    (λ e. no_digit rest (subst (λ z. fuses (Mark z) rest ≡ false) e r.apart))
    (λ y c m left gy k e. no_longer_mark x y t c m left g (gy ∙ g) o s k (subst (λ z. fuses (Mark t) z ≡ false) e r.apart))
    (λ n q h. mark_comment t rest q p r h)
    (λ n. absurd (f n))

-- the closing `>`
closing_only : (y : Kind) (u : List ℕ) → goal y ≡ Closing → has_shape y u ≡ true → u ≡ codes ">"
unfolding goal has_shape
closing_only Close u g h = eq_of_same u (codes ">") h
closing_only y u g h = absurd (cc)

close_comment : (t rest o : List ℕ) → t ≡ codes ">" → is_among o openers ≡ true → begins o (t ++ rest) ≡ false
unfolding begins
close_comment t rest o e h = subst (λ z. begins o (z ++ rest) ≡ false) (sym e) (opener_cases (λ o. begins o (codes ">" ++ rest) ≡ false) o h refl refl refl refl)

longest_close : (t rest : List ℕ) → has_shape Close t ≡ true → IsLongest (token_of Close t) t rest
unfolding goal is_numeric_kind
longest_close t rest s =
    let e : t ≡ codes ">" = closing_only Close t refl s in
    build Close t rest s
    (λ f. absurd (let x : codes ">" ≡ codes "?." = sym e ∙ f in cc))
    (λ y c m left gy k f. let x : codes ">" ++ c ∷ m ≡ codes ">" = subst (λ z. z ++ c ∷ m ≡ codes ">") e (closing_only y.kind (t ++ c ∷ m) gy k.spells.shape) in absurd (cc))
    (λ n o h. close_comment t rest o e h)
    (λ n. absurd (true≢false (sym n)))

-- a regular expression
regex_only : (y : Kind) (u : List ℕ) → goal y ≡ RegularExpression → has_shape y u ≡ true → is_regex u ≡ true
unfolding goal has_shape
regex_only Regex u g h = h
regex_only y u g h = absurd (cc)

regex_comment : (t rest o : List ℕ) → is_regex t ≡ true → is_among o openers ≡ true → begins o (t ++ rest) ≡ false
unfolding begins
regex_comment t rest o h k =
    let r = regex_head t h in
    subst (λ z. begins o (z ++ rest) ≡ false) (sym r.2)
    (opener_cases (λ o. begins o (47 ∷ r.0 ∷ (r.1 ++ rest)) ≡ false) o k
    (and_left (47 == r.0) true (false_from_ne_true _ (λ f. true≢false (subst (λ z. (z == 47) ≡ false) (sym (eqb-true 47 r.0 f)) r.4))))
    (and_left (42 == r.0) true (false_from_ne_true _ (λ f. true≢false (subst (λ z. (z == 42) ≡ false) (sym (eqb-true 42 r.0 f)) r.3))))
    refl refl)

slash_is_no_choice : (b : ℕ) (n : List ℕ) → 47 ∷ b ∷ n ≡ codes "?." → ⊥
slash_is_no_choice b n e = cc

longest_regex : (x : Kind) (t rest : List ℕ) → goal x ≡ RegularExpression → has_shape x t ≡ true → (is_numeric_kind x ≡ true → ⊥) → fuses WordEnd rest ≡ false → IsLongest (token_of x t) t rest
longest_regex x t rest g s n f =
    let r = regex_only x t g s in
    build x t rest s
    (λ e. absurd (slash_is_no_choice (regex_head t r).0 (regex_head t r).1 (sym (regex_head t r).2 ∙ e)))
    (λ y c m left gy k e. true≢false (sym (regex_flags t c m r (regex_only y.kind (t ++ c ∷ m) (gy ∙ g) k.spells.shape)) ∙ no_part c (m ++ left) (subst (λ z. fuses WordEnd z ≡ false) e f)))
    (λ n o h. regex_comment t rest o r h)
    (λ k. absurd (n k))

-- text between tags
text_only : (y : Kind) (u : List ℕ) → goal y ≡ Child → has_shape y u ≡ true → is_jsx_text u ≡ true
unfolding goal has_shape
text_only JsxText u g h = h
text_only y u g h = absurd (cc)

end_is_not_bare : (c : ℕ) (n : List ℕ) → ends_text (c ∷ n) ≡ true → is_bare c ≡ false
unfolding ends_text is_bare
end_is_not_bare c n h = elim (or_cases (c == 123) (c == 60) h) [ inl x ↦ at_eq (λ z. is_bare z ≡ false) c 123 x refl | inr x ↦ at_eq (λ z. is_bare z ≡ false) c 60 x refl ]

end_is_no_digit : (rest : List ℕ) → ends_text rest ≡ true → begins_digit rest ≡ false
unfolding ends_text begins_digit is_digit
end_is_no_digit [] h = refl
end_is_no_digit (c ∷ n) h = elim (or_cases (c == 123) (c == 60) h) [ inl x ↦ at_eq (λ z. is_digit z ≡ false) c 123 x refl | inr x ↦ at_eq (λ z. is_digit z ≡ false) c 60 x refl ]

longest_text : (x : Kind) (t rest : List ℕ) → goal x ≡ Child → has_shape x t ≡ true → (is_numeric_kind x ≡ true → ⊥) → ends_text rest ≡ true → IsLongest (token_of x t) t rest
longest_text x t rest g s n f =
    build x t rest s
    (λ e. end_is_no_digit rest f)
    (λ y c m left gy k e. true≢false (sym (jsx_text_more t c m (text_only y.kind (t ++ c ∷ m) (gy ∙ g) k.spells.shape)) ∙ end_is_not_bare c (m ++ left) (subst (λ z. ends_text z ≡ true) e f)))
    (λ n o h. absurd (n g))
    (λ k. absurd (n k))

-- a private name
longest_private : (x : Kind) (t rest : List ℕ) → goal x ≡ Ordinary → sort x ≡ Hashed → has_shape x t ≡ true → (is_numeric_kind x ≡ true → ⊥) → fuses WordEnd rest ≡ false → IsLongest (token_of x t) t rest
longest_private x t rest g o s n f =
    let head = private_plain t (of_hashes x t g o s) in
    build x t rest s
    (λ e. absurd (plain_choice t head e))
    (λ y c m left gy k e. true≢false (sym (no_longer_private x y.kind t c m g (gy ∙ g) o s k.spells.shape) ∙ no_more c (m ++ left) (subst (λ z. fuses WordEnd z ≡ false) e f)))
    (λ n p h. plain_comment t rest p head h)
    (λ k. absurd (n k))

-- parts of templates
longest_template : (x : Kind) (t rest : List ℕ) → goal x ≡ Ordinary → sort x ≡ Ticked → has_shape x t ≡ true → (is_numeric_kind x ≡ true → ⊥) → IsLongest (token_of x t) t rest
longest_template x t rest g o s n =
    let p = of_ticks x t g o s in
    let head = template_plain p.0 t p.1 in
    build x t rest s
    (λ e. absurd (plain_choice t head e))
    (λ y c m left gy k e. no_longer_template x y.kind t c m g (gy ∙ g) o s k.spells.shape)
    (λ n q h. plain_comment t rest q head h)
    (λ k. absurd (n k))

rest_only : (y : Kind) (u : List ℕ) → goal y ≡ TemplateTail → has_shape y u ≡ true → (o : TemplatePart) × (is_template_rest o u ≡ true)
unfolding goal has_shape
rest_only (TemplateRest o) u g h = (o, h)
rest_only y u g h = absurd (cc)

longest_rest : (x : Kind) (t rest : List ℕ) → goal x ≡ TemplateTail → has_shape x t ≡ true → (is_numeric_kind x ≡ true → ⊥) → IsLongest (token_of x t) t rest
longest_rest x t rest g s n =
    let p = rest_only x t g s in
    let head = rest_plain p.0 t p.1 in
    build x t rest s
    (λ e. absurd (plain_choice t head e))
    (λ y c m left gy k e. let q = rest_only y.kind (t ++ c ∷ m) (gy ∙ g) k.spells.shape in later_template_once p.0 q.0 t c m p.1 q.1)
    (λ n o h. plain_comment t rest o head h)
    (λ k. absurd (n k))

-- the string of an attribute
jsx_string_only : (y : Kind) (u : List ℕ) → goal y ≡ Attribute → has_shape y u ≡ true → is_jsx_string u ≡ true
unfolding goal has_shape
jsx_string_only JsxString u g h = h
jsx_string_only y u g h = absurd (cc)

longest_jsx_string : (x : Kind) (t rest : List ℕ) → goal x ≡ Attribute → has_shape x t ≡ true → (is_numeric_kind x ≡ true → ⊥) → IsLongest (token_of x t) t rest
longest_jsx_string x t rest g s n =
    let p = jsx_string_only x t g s in
    let head = jsx_string_plain t p in
    build x t rest s
    (λ e. absurd (plain_choice t head e))
    (λ y c m left gy k e. jsx_string_once t c m p (jsx_string_only y.kind (t ++ c ∷ m) (gy ∙ g) k.spells.shape))
    (λ n o h. plain_comment t rest o head h)
    (λ k. absurd (n k))

-- a name in a tag
jsx_name_only : (y : Kind) (u : List ℕ) → goal y ≡ InTag → has_shape y u ≡ true → is_jsx_name u ≡ true
unfolding goal has_shape
jsx_name_only JsxName u g h = h
jsx_name_only y u g h = absurd (cc)

no_tag : (c : ℕ) (n : List ℕ) → fuses TagNameEnd (c ∷ n) ≡ false → allows TagNameEnd (c ∷ n) ≡ true → (is_part c || (45 == c)) ≡ false
unfolding fuses allows begins
no_tag c n f a =
    let d = not-true ((45 == c) && true) a in
    or_from (is_part c) (45 == c) (or_parts (is_part c) (c == 92) f).0 (false_from_ne_true (45 == c) (λ e. true≢false (sym (and_from (45 == c) true e refl) ∙ d)))

longest_jsx_name : (x : Kind) (t rest : List ℕ) → goal x ≡ InTag → has_shape x t ≡ true → (is_numeric_kind x ≡ true → ⊥) → fuses TagNameEnd rest ≡ false → allows TagNameEnd rest ≡ true → IsLongest (token_of x t) t rest
longest_jsx_name x t rest g s n f a =
    let p = jsx_name_only x t g s in
    let head = jsx_name_plain t p in
    build x t rest s
    (λ e. absurd (plain_choice t head e))
    (λ y c m left gy k e. true≢false (sym (jsx_name_more t c m p (jsx_name_only y.kind (t ++ c ∷ m) (gy ∙ g) k.spells.shape)) ∙ no_tag c (m ++ left) (subst (λ z. fuses TagNameEnd z ≡ false) e f) (subst (λ z. allows TagNameEnd z ≡ true) e a)))
    (λ n o h. plain_comment t rest o head h)
    (λ k. absurd (n k))

-- a hashbang
hashbang_only : (y : Kind) (u : List ℕ) → goal y ≡ FirstLine → has_shape y u ≡ true → is_hashbang u ≡ true
unfolding goal has_shape
hashbang_only Hashbang u g h = h
hashbang_only y u g h = absurd (cc)

line_ends : (c : ℕ) (n : List ℕ) → allows LineEnd (c ∷ n) ≡ true → is_line_end c ≡ true
unfolding allows ends_line
line_ends c n h = h

longest_hashbang : (x : Kind) (t rest : List ℕ) → goal x ≡ FirstLine → has_shape x t ≡ true → (is_numeric_kind x ≡ true → ⊥) → allows LineEnd rest ≡ true → IsLongest (token_of x t) t rest
longest_hashbang x t rest g s n a =
    let p = hashbang_only x t g s in
    let head = hashbang_plain t p in
    build x t rest s
    (λ e. absurd (plain_choice t head e))
    (λ y c m left gy k e. true≢false (sym (line_ends c (m ++ left) (subst (λ z. allows LineEnd z ≡ true) e a)) ∙ hashbang_more t c m p (hashbang_only y.kind (t ++ c ∷ m) (gy ∙ g) k.spells.shape)))
    (λ n o h. plain_comment t rest o head h)
    (λ k. absurd (n k))

-- the longest match of each kind of token
pub longest : (k : PreviousToken) (x : Kind) (t rest : List ℕ) → has_shape x t ≡ true → Ready (last_after k x t) rest → IsLongest (token_of x t) t rest
unfolding last_after goal sort is_numeric_kind allows
longest k Word t rest s r = longest_name Word t rest refl refl s r.apart
longest k Name t rest s r = longest_name Name t rest refl refl s r.apart
longest k PrivateName t rest s r = longest_private PrivateName t rest refl refl s (λ n. true≢false (sym n)) r.apart
longest k Punctuator t rest s r = longest_mark Punctuator t rest refl refl s (λ n. true≢false (sym n)) (mark_ready k t rest r)
longest k Ending t rest s r = longest_mark Ending t rest refl refl s (λ n. true≢false (sym n)) (mark_ready k t rest r)
longest k JsxOpen t rest s r = longest_mark JsxOpen t rest refl refl s (λ n. true≢false (sym n)) (mark_ready k t rest r)
longest k Number t rest s r = longest_number Number t rest refl refl s r.apart
longest k BigInt t rest s r = longest_number BigInt t rest refl refl s r.apart
longest k Str t rest s r = longest_string Str t rest refl refl s (λ n. true≢false (sym n))
longest k Close t rest s r = longest_close t rest s
longest k Regex t rest s r = longest_regex Regex t rest refl s (λ n. true≢false (sym n)) r.apart
longest k JsxText t rest s r = longest_text JsxText t rest refl s (λ n. true≢false (sym n)) r.allowed
longest k (Template o) t rest s r = longest_template (Template o) t rest refl refl s (λ n. true≢false (sym n))
longest k (TemplateRest o) t rest s r = longest_rest (TemplateRest o) t rest refl s (λ n. true≢false (sym n))
longest k JsxString t rest s r = longest_jsx_string JsxString t rest refl s (λ n. true≢false (sym n))
longest k JsxName t rest s r = longest_jsx_name JsxName t rest refl s (λ n. true≢false (sym n)) r.apart r.allowed
longest k Hashbang t rest s r = longest_hashbang Hashbang t rest refl s (λ n. true≢false (sym n)) r.allowed
longest k SameLine t rest s r = absurd (same_line_unspelled t s)
