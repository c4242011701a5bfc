-- Texts of literals, as tokens.
use Rattle.std.proofs.Common.{◌≡◌, ℕ, Bool, true, false, cond, ◌==◌, ◌&&◌, List, [], ◌∷◌, ◌++◌, codes, inl, inr, refl, sym, ap, ◌∙◌, subst, append_assoc}
use Rattle.std.specs.Str.{chars, is_utf8, IsUtf8}
use Rattle.std.proofs.lemmas.Bool.{and_from, and_parts, cases_Bool, eqb-true, false_from_ne_true, or_cases, or_left, true≢false}
use Rattle.std.proofs.lemmas.Str.{chars-append, chars-nil, chars_past_char, IsUtf8-append, IsUtf8-from_is_utf8, scalars-chars}
use lib.Utf8.{scalar, scalars}
use Rattle.swc_ecma_codegen_common.specs.declared.versions.EsVersion.{EsVersion}
use Rattle.swc_ecma_codegen_grammar.specs.declared.kinds.Kind.{Kind}
use Rattle.swc_ecma_codegen_grammar.specs.declared.kinds.Kind.TheVariants.{Punctuator, Number, BigInt, Str, Regex}
use Rattle.swc_ecma_codegen_grammar.specs.Chars.{begins_digit, is_digit}
use Rattle.swc_ecma_codegen_grammar.specs.GapRules.{IntegerEnd, WordEnd, Mark, allows, fuses, grows, is_choice, last_after, mark_fuses}
use Rattle.swc_ecma_codegen_grammar.specs.Numbers.{is_big_integer, is_number, takes_dot}
use Rattle.swc_ecma_codegen_grammar.specs.NumberValues.{exact_value, numeric_value}
use Rattle.swc_ecma_codegen_grammar.specs.Parts.{tokens_of}
use Rattle.swc_ecma_codegen_grammar.specs.Punctuators.{punctuators}
use Rattle.swc_ecma_codegen_grammar.specs.Reads.{is_child, is_hashbang_kind}
use Rattle.swc_ecma_codegen_grammar.specs.RegularExpressions.{is_regex}
use Rattle.swc_ecma_codegen_grammar.specs.Strings.{is_string}
use Rattle.swc_ecma_codegen_grammar.specs.Texts.{begins, is_same, some_begins}
use Rattle.swc_ecma_codegen_grammar.specs.Tokens as lexical
use Rattle.swc_ecma_codegen_grammar.specs.Tokens.{Exactly, Spells, Value, has_shape, token_of, value_of}
use Rattle.swc_ecma_codegen_grammar.proofs.NumberShapes.{big_numeric, number_numeric, some_number}
use Rattle.swc_ecma_codegen_grammar.proofs.RegexShapes.{some_regex}
use Rattle.swc_ecma_codegen_grammar.proofs.StringShapes.{some_string}
use Rattle.swc_ecma_codegen_literals.specs.Beginnings.{begins_numeric}
use Rattle.swc_ecma_codegen_literals.specs.NumberTexts.{sign_text}
use Rattle.swc_ecma_codegen_literals.specs.Separators.{without_underscores}
use Rattle.swc_ecma_codegen_literals.proofs.BeginningLaws.{big_integer_begins, number_begins, numeric_unsigned}
use Rattle.swc_ecma_codegen_literals.proofs.SeparatedNumbers.{dropped, kept}
use Rattle.swc_ecma_codegen_literals.proofs.SeparatedTexts.{chars_without, collected_bytes}
use Rattle.swc_ecma_codegen_tokens.specs.declared.starts.StartClass.TheVariants as start
use Rattle.swc_ecma_codegen_tokens.specs.Run.{spelling}
use Rattle.swc_ecma_codegen_tokens.specs.Lits.{joined, may_join}
use Rattle.swc_ecma_codegen_tokens.specs.Literals.{signed, size_of}
use Rattle.swc_ecma_codegen_tokens.specs.Starts.{start_class, order}
use Rattle.swc_ecma_codegen_tokens.proofs.LiteralTokens.OwnDots.{dotted_is_number, dotted_same}
use Rattle.swc_ecma_codegen_tokens.proofs.Gaps.Starting.{dash_class, digit_class, dot_class, same_beginning, sample, samples}
use Rattle.swc_ecma_codegen_tokens.proofs.Reading.Texts.{SpelledAs, minus_chars, minus_is_mark, owns, spelled_one, spelled_signed}
use Rattle.swc_ecma_codegen_tokens.proofs.Reading.TokenLays.{Spelled}

-- ---- a text that is one literal

-- what has a shape that no empty text has is some text
some_text : (test : List ℕ → Bool) (t : List ℕ) → (test [] ≡ true → ⊥) → test (chars t) ≡ true → t ≡ [] → ⊥
some_text test t none h e = none (sym (ap test chars-nil) ∙ (sym (ap (λ z. test (chars z)) e) ∙ h))

number_allows : (b : Bool) (u : List ℕ) → allows (cond b IntegerEnd WordEnd) u ≡ true
unfolding allows
number_allows true u = refl
number_allows false u = refl

pub spelled_string : (t : List ℕ) → IsUtf8 t → is_string (chars t) ≡ true → Spelled Str t
unfolding spelling has_shape is_child is_hashbang_kind last_after allows
spelled_string t u h = record {
  utf8 = u;
  same = refl;
  shape = h;
  no_child = λ e. true≢false (sym e);
  no_hashbang = λ e. true≢false (sym e);
  allowed = λ k v. refl;
  some = some_text is_string t some_string h;
}

pub spelled_regex : (t : List ℕ) → IsUtf8 t → is_regex (chars t) ≡ true → Spelled Regex t
unfolding spelling has_shape is_child is_hashbang_kind last_after allows
spelled_regex t u h = record {
  utf8 = u;
  same = refl;
  shape = h;
  no_child = λ e. true≢false (sym e);
  no_hashbang = λ e. true≢false (sym e);
  allowed = λ k v. refl;
  some = some_text is_regex t some_regex h;
}

pub spelled_number : (t : List ℕ) → IsUtf8 t → is_number (chars t) ≡ true → Spelled Number t
unfolding spelling has_shape is_child is_hashbang_kind last_after
spelled_number t u h = record {
  utf8 = u;
  same = refl;
  shape = h;
  no_child = λ e. true≢false (sym e);
  no_hashbang = λ e. true≢false (sym e);
  allowed = λ k v. number_allows (takes_dot (chars t)) v;
  some = some_text is_number t (λ e. some_number (number_numeric [] e)) h;
}

pub spelled_big_integer : (t : List ℕ) → IsUtf8 t → is_big_integer (chars t) ≡ true → Spelled BigInt t
unfolding spelling has_shape is_child is_hashbang_kind last_after
spelled_big_integer t u h = record {
  utf8 = u;
  same = refl;
  shape = h;
  no_child = λ e. true≢false (sym e);
  no_hashbang = λ e. true≢false (sym e);
  allowed = λ k v. number_allows (takes_dot (chars t)) v;
  some = some_text is_big_integer t (λ e. some_number (big_numeric [] e)) h;
}

-- ---- how numbers begin

-- a minus sign and a number don't fuse
digit_apart : (t : List ℕ) → start_class t ≡ start.Digit → fuses (Mark (codes "-")) t ≡ false
unfolding fuses mark_fuses grows is_choice some_begins is_same begins punctuators begins_digit is_digit sample samples order
digit_apart t e = same_beginning (Mark (codes "-")) t ∙ ap (λ z. fuses (Mark (codes "-")) (sample z)) e

dot_apart : (t : List ℕ) → start_class t ≡ start.DotDigit → fuses (Mark (codes "-")) t ≡ false
unfolding fuses mark_fuses grows is_choice some_begins is_same begins punctuators begins_digit is_digit sample samples order
dot_apart t e = same_beginning (Mark (codes "-")) t ∙ ap (λ z. fuses (Mark (codes "-")) (sample z)) e

dot_digit_class : (c : ℕ) (cs : List ℕ) → (c == 46) ≡ true → begins_digit cs ≡ true → start_class (c ∷ cs) ≡ start.DotDigit
dot_digit_class c cs e h = ap (λ z. start_class (z ∷ cs)) (eqb-true c 46 e) ∙ dot_class cs true h

numeric_apart : (t : List ℕ) → begins_numeric t ≡ true → fuses (Mark (codes "-")) t ≡ false
unfolding begins_numeric begins_digit
numeric_apart [] h = absurd (true≢false (sym h))
numeric_apart (c ∷ cs) h = elim (or_cases (is_digit c) ((c == 46) && begins_digit cs) h) [
  | inl e ↦ digit_apart (c ∷ cs) (digit_class (c ∷ cs) e)
  | inr e ↦ let p = and_parts (c == 46) (begins_digit cs) e in dot_apart (c ∷ cs) (dot_digit_class c cs p.0 p.1)
]

digit_numeric : (t : List ℕ) → begins_digit t ≡ true → begins_numeric t ≡ true
unfolding begins_digit begins_numeric
digit_numeric [] h = h
digit_numeric (c ∷ cs) h = or_left (is_digit c) ((c == 46) && begins_digit cs) h

digit_more : (t u : List ℕ) → begins_digit t ≡ true → begins_digit (t ++ u) ≡ true
unfolding begins_digit
digit_more [] u h = absurd (true≢false (sym h))
digit_more (c ∷ cs) u h = h

-- a text with its sign, by its characters
minus_first : (t : List ℕ) → chars (codes "-" ++ t) ≡ 45 ∷ chars t
minus_first t = chars-append (codes "-") t minus_is_mark.utf8 ∙ ap (λ z. z ++ chars t) minus_chars

-- how it begins, where a digit stands after the sign
sign_class : (negative : Bool) (t : List ℕ) → begins_digit (chars t) ≡ true → start_class (chars (sign_text negative ++ t)) ≡ cond negative start.Minus start.Digit
unfolding sign_text
sign_class true t h = ap start_class (minus_first t) ∙ dash_class (chars t) false (numeric_unsigned (chars t) (digit_numeric (chars t) h))
sign_class false t h = digit_class (chars t) h

-- more behind it leaves that
pub more_class : (negative : Bool) (t u : List ℕ) → IsUtf8 t → begins_digit (chars t) ≡ true → start_class (chars ((sign_text negative ++ t) ++ u)) ≡ start_class (chars (sign_text negative ++ t))
more_class negative t u i h =
    ap (λ z. start_class (chars z)) (append_assoc (sign_text negative) t u)
    ∙ sign_class negative (t ++ u) (ap begins_digit (chars-append t u i) ∙ digit_more (chars t) (chars u) h)
    ∙ sym (sign_class negative t h)

-- ---- a text that is `-` and a token, or the token alone

pub record SignedToken (kind : Kind) (value : Value) (negative : Bool) (t : List ℕ) : Type 0 where
  pub size : List ℕ
  pub parts : t ≡ sign_text negative ++ size
  pub spelled : Spelled kind size
  pub front : begins_numeric (chars size) ≡ true
  pub same : value_of kind (spelling kind size) ≡ value

pub number_signed : (value : Value) (negative : Bool) (size : List ℕ) → IsUtf8 size → Spells (record { kind = Number; value = value }) (chars size) → SignedToken Number value negative (sign_text negative ++ size)
unfolding has_shape spelling
number_signed value negative size u s = record {
  size = size;
  parts = refl;
  spelled = spelled_number size u s.shape;
  front = number_begins (chars size) s.shape;
  same = s.value;
}

pub big_integer_signed : (value : Value) (negative : Bool) (size : List ℕ) → IsUtf8 size → Spells (record { kind = BigInt; value = value }) (chars size) → SignedToken BigInt value negative (sign_text negative ++ size)
unfolding has_shape spelling
big_integer_signed value negative size u s = record {
  size = size;
  parts = refl;
  spelled = spelled_big_integer size u s.shape;
  front = big_integer_begins (chars size) s.shape;
  same = s.value;
}

pub some_after_sign : (negative : Bool) (size : List ℕ) → (size ≡ [] → ⊥) → sign_text negative ++ size ≡ [] → ⊥
unfolding sign_text
some_after_sign true size some e = absurd (cc)
some_after_sign false size some e = some e

pub some_signed : {kind : Kind} {value : Value} {negative : Bool} {t : List ℕ} → SignedToken kind value negative t → t ≡ [] → ⊥
some_signed {kind} {value} {negative} h e = some_after_sign negative h.size h.spelled.some (sym h.parts ∙ e)

-- ---- its tokens

abbrev sized : Kind → Bool → List ℕ → List (Kind × List ℕ)
sized kind negative size = cond negative ((Punctuator, codes "-") ∷ (kind, size) ∷ []) ((kind, size) ∷ [])

no_dash : (c : ℕ) (cs : List ℕ) → IsUtf8 (c ∷ cs) → begins (codes "-") (chars (c ∷ cs)) ≡ false → (c == 45) ≡ false
unfolding begins lib.Utf8.encode
no_dash c cs u h = false_from_ne_true (c == 45) (λ e. true≢false (sym (ap (begins (codes "-")) (chars_past_char (c ∷ cs) cs 45 u (ap (λ z. z ∷ cs) (eqb-true c 45 e)))) ∙ h))

signed_split : (kind : Kind) (negative : Bool) (size : List ℕ) → IsUtf8 size → begins (codes "-") (chars size) ≡ false → signed kind (sign_text negative ++ size) ≡ sized kind negative size
unfolding signed sign_text
signed_split kind true size u h = refl
signed_split kind false [] u h = refl
signed_split kind false (c ∷ cs) u h =
    let f : Bool → List (Kind × List ℕ) = λ b. cond b ((Punctuator, codes "-") ∷ (kind, cs) ∷ []) ((kind, c ∷ cs) ∷ []) in
    ap f (no_dash c cs u h)

size_split : (negative : Bool) (size : List ℕ) → IsUtf8 size → begins (codes "-") (chars size) ≡ false → size_of (sign_text negative ++ size) ≡ size
unfolding size_of sign_text
size_split true size u h = refl
size_split false [] u h = refl
size_split false (c ∷ cs) u h = ap (λ b. cond b cs (c ∷ cs)) (no_dash c cs u h)

sized_spelled : (kind : Kind) (negative : Bool) (size : List ℕ) → Spelled kind size → begins_numeric (chars size) ≡ true → SpelledAs (sized kind negative size) (sign_text negative ++ size)
unfolding sign_text
sized_spelled kind true size p f = spelled_signed kind size p (numeric_apart (chars size) f) (numeric_unsigned (chars size) f)
sized_spelled kind false size p f = spelled_one kind size p

-- the tokens that are to be written
abbrev pub signed_tokens : Kind → Value → Bool → List lexical.Token
signed_tokens kind value negative = cond negative (lexical.punctuator (codes "-") ∷ record { kind = kind; value = value } ∷ []) (record { kind = kind; value = value } ∷ [])

sized_tokens : (kind : Kind) (value : Value) (negative : Bool) (size : List ℕ) → value_of kind (spelling kind size) ≡ value → tokens_of (owns (sized kind negative size)) ≡ signed_tokens kind value negative
unfolding tokens_of owns token_of value_of spelling lexical.punctuator
sized_tokens kind value true size e = let f : Value → List lexical.Token = λ z. lexical.punctuator (codes "-") ∷ record { kind = kind; value = z } ∷ [] in ap f e
sized_tokens kind value false size e = let f : Value → List lexical.Token = λ z. record { kind = kind; value = z } ∷ [] in ap f e

module _ {kind : Kind} {value : Value} {negative : Bool} {t : List ℕ} (h : SignedToken kind value negative t) where
  unsigned : begins (codes "-") (chars h.size) ≡ false
  unsigned = numeric_unsigned (chars h.size) h.front

  split : signed kind t ≡ sized kind negative h.size
  split = ap (signed kind) h.parts ∙ signed_split kind negative h.size h.spelled.utf8 unsigned

  pub signed_size : size_of t ≡ h.size
  signed_size = ap size_of h.parts ∙ size_split negative h.size h.spelled.utf8 unsigned

  pub signed_spelled : SpelledAs (signed kind t) t
  signed_spelled =
      subst (λ z. SpelledAs z t) (sym split)
      (subst (λ z. SpelledAs (sized kind negative h.size) z) (sym h.parts) (sized_spelled kind negative h.size h.spelled h.front))

  pub signed_written : tokens_of (owns (signed kind t)) ≡ signed_tokens kind value negative
  signed_written = ap (λ z. tokens_of (owns z)) split ∙ sized_tokens kind value negative h.size h.same

  -- more behind it leaves how it begins
  pub signed_class : (u : List ℕ) → begins_digit (chars h.size) ≡ true → start_class (chars (t ++ u)) ≡ start_class (chars t)
  signed_class u e = ap (λ z. start_class (chars (z ++ u))) h.parts ∙ more_class negative h.size u h.spelled.utf8 e ∙ sym (ap (λ z. start_class (chars z)) h.parts)

-- ---- a number with a dot of its own

dot_utf8 : IsUtf8 (codes ".")
unfolding chars is_utf8 lib.Utf8.encode
dot_utf8 = IsUtf8-from_is_utf8 (codes ".") refl

dot_chars : chars (codes ".") ≡ codes "."
unfolding chars lib.Utf8.encode
dot_chars = refl

dotted_chars : (t : List ℕ) → IsUtf8 t → chars (t ++ codes ".") ≡ chars t ++ codes "."
dotted_chars t u = chars-append t (codes ".") u ∙ ap (λ z. chars t ++ z) dot_chars

dotted_shape : (t : List ℕ) → IsUtf8 t → takes_dot (chars t) ≡ true → is_number (chars (t ++ codes ".")) ≡ true
dotted_shape t u h = ap is_number (dotted_chars t u) ∙ dotted_is_number (chars t) h

pub with_dot : (value : Value) (negative : Bool) (t : List ℕ) (h : SignedToken Number value negative t) → takes_dot (chars h.size) ≡ true → SignedToken Number value negative (t ++ codes ".")
unfolding value_of spelling
with_dot value negative t h e =
    let u = h.spelled.utf8 in
    let shape = dotted_shape h.size u e in
    record {
      size = h.size ++ codes ".";
      parts = ap (λ z. z ++ codes ".") h.parts ∙ append_assoc (sign_text negative) h.size (codes ".");
      spelled = spelled_number (h.size ++ codes ".") (IsUtf8-append h.size (codes ".") u dot_utf8) shape;
      front = number_begins (chars (h.size ++ codes ".")) shape;
      same = ap (λ z. Exactly (exact_value (numeric_value z))) (dotted_chars h.size u) ∙ ap (λ z. Exactly (exact_value z)) (dotted_same (chars h.size) e) ∙ h.same;
    }

-- ---- raws, and the same without `_`

scalars_without : (cs : List ℕ) → scalars cs ≡ true → scalars (without_underscores cs) ≡ true
scalars_without [] h = refl
scalars_without (c ∷ cs) h =
    let p = and_parts (scalar c) (scalars cs) h in
    elim (cases_Bool (c == 95)) [
      | inl y ↦ ap scalars (dropped c cs y) ∙ scalars_without cs p.1
      | inr n ↦ ap scalars (kept c cs n) ∙ and_from (scalar c) (scalars (without_underscores cs)) p.0 (scalars_without cs p.1)
    ]

utf8_without : (bs : List ℕ) → IsUtf8 bs → IsUtf8 (without_underscores bs)
utf8_without bs u = (without_underscores (chars bs), (scalars_without (chars bs) (scalars-chars bs u), collected_bytes bs u))

-- a raw that spells a token
pub record IsRawOf (x : lexical.Token) (raw : List ℕ) : Type 0 where
  pub utf8 : IsUtf8 raw
  pub spells : Spells x (chars raw)

chosen_raw : (b : Bool) (x : lexical.Token) (raw : List ℕ) → ((text : List ℕ) → Spells x text → Spells x (without_underscores text)) → IsRawOf x raw → IsRawOf x (cond b (without_underscores raw) raw)
chosen_raw true x raw stays h = record {
  utf8 = utf8_without raw h.utf8;
  spells = subst (λ z. Spells x z) (sym (chars_without raw h.utf8)) (stays (chars raw) h.spells);
}
chosen_raw false x raw stays h = h

pub joined_raw : (x : lexical.Token) (v : EsVersion) (raw : List ℕ) → ((text : List ℕ) → Spells x text → Spells x (without_underscores text)) → IsRawOf x raw → IsRawOf x (joined v raw)
unfolding joined
joined_raw x v raw stays h = chosen_raw (may_join v raw) x raw stays h
