-- What is written of a big integer is what it reads as, under any settings.
use Rattle.std.proofs.Common.{◌≡◌, ℕ, Bool, true, false, not, cond, ◌==◌, ◌&&◌, ◌||◌, List, [], ◌∷◌, ◌++◌, codes, nat_lt, Option, Some, None, is_none, refl, sym, ap, ◌∙◌, subst, append_assoc}
use Rattle.std.specs.Str.{chars, is_utf8, IsUtf8}
use Rattle.std.specs.declared.string.String.{String}
use Rattle.std.proofs.lemmas.Bool.{and_from, and_parts, eqb-true, not-true, true≢false}
use Rattle.std.proofs.lemmas.Str.{chars-append, chars-nil, IsUtf8-append, IsUtf8-from_ascii, IsUtf8-from_is_utf8, IsUtf8-string_bytes}
use Rattle.swc_ecma_codegen_common.specs.declared.positions.Span.{Span}
use Rattle.swc_ecma_codegen_tree.specs.declared.lits.BigInt as trees
use Rattle.swc_ecma_codegen_tree.specs.declared.lits.Radix.{Radix}
use Rattle.swc_ecma_codegen_grammar.specs.declared.kinds.Kind.TheVariants.{BigInt}
use Rattle.swc_ecma_codegen_grammar.specs.Chars.{begins_digit}
use Rattle.swc_ecma_codegen_grammar.specs.LitPhrases as phrases
use Rattle.swc_ecma_codegen_grammar.specs.LitPhrases.{are_digits, big_int_token, characters, is_big_int, radix_number, raw_passes, spells_digits}
use Rattle.swc_ecma_codegen_grammar.specs.Numbers.{big_digits, is_big_integer, radix_of}
use Rattle.swc_ecma_codegen_grammar.specs.Texts.{is_same}
use Rattle.swc_ecma_codegen_grammar.specs.Tokens as lexical
use Rattle.swc_ecma_codegen_grammar.specs.Tokens.{Digits, Spells, Value, has_shape, token_of, value_of}
use Rattle.swc_ecma_codegen_grammar.proofs.Tables.{eq_of_same}
use Rattle.swc_ecma_codegen_literals.specs.AsciiNames.{is_ascii_text}
use Rattle.swc_ecma_codegen_literals.specs.BigIntegers.{IsSignedInteger, big_part, big_text}
use Rattle.swc_ecma_codegen_literals.specs.NumberTexts.{sign_text}
use Rattle.swc_ecma_codegen_literals.proofs.BeginningLaws.{big_integer_begins}
use Rattle.swc_ecma_codegen_literals.proofs.BigTokens.{big_signed}
use Rattle.swc_ecma_codegen_literals.proofs.SpelledTokens.{integer_spells, integer_spells_without}
use Rattle.swc_ecma_codegen_tokens.specs.Escapes.{is_spelled_anew}
use Rattle.swc_ecma_codegen_tokens.specs.Lits.{begun_in, big_int_at, big_int_by, big_int_lit, big_int_parts, big_int_text, joined, makes_big_int, prints_big_raw, raw_text}
use Rattle.swc_ecma_codegen_tokens.specs.Literals as words
use Rattle.swc_ecma_codegen_tokens.specs.Literals.{size_of}
use Rattle.swc_ecma_codegen_tokens.specs.Run.{Env, Remake, spelling, step}
use Rattle.swc_ecma_codegen_tokens.specs.Scripts.{is_str}
use Rattle.swc_ecma_codegen_tokens.specs.Starts.{start_class}
use Rattle.swc_ecma_codegen_tokens.specs.Words.{leading_comments}
use Rattle.swc_ecma_codegen_tokens.proofs.LiteralTokens.LitTexts.{IsRawOf, SignedToken, big_integer_signed, joined_raw, more_class, signed_spelled, signed_tokens, signed_written, some_after_sign, spelled_big_integer}
use Rattle.swc_ecma_codegen_tokens.proofs.LiteralTokens.LiteralParts.{big_ascii, writes_big_digits, writes_big_integer}
use Rattle.swc_ecma_codegen_tokens.proofs.LiteralTokens.NumberEnds.{size_utf8}
use Rattle.swc_ecma_codegen_tokens.proofs.LiteralTokens.NumberPrints.{sign_text_ascii}
use Rattle.swc_ecma_codegen_tokens.proofs.Reading.Phrased.{Prints, prints_same, prints_where}
use Rattle.swc_ecma_codegen_tokens.proofs.Reading.Printed.{Writes, writes_then}
use Rattle.swc_ecma_codegen_tokens.proofs.Commenting.CommentPrints.{writes_leading}
use Rattle.swc_ecma_codegen_tokens.proofs.LiteralTokens.RawTexts.{ascii_is}
use Rattle.swc_ecma_codegen_tokens.proofs.Emission.Remade.{makes_remade, prints_signed, writes_begun_in}

abbrev value_of_big : trees.BigInt → Value
value_of_big n = Digits (radix_number n.radix) (characters n.digits)

-- ---- by its raw

digits_spelled : (radix : Radix) (digits text : List ℕ) → spells_digits radix digits text ≡ true → Spells (record { kind = BigInt; value = Digits (radix_number radix) digits }) text
unfolding spells_digits has_shape value_of
digits_spelled radix digits text h =
    let p = and_parts (is_big_integer text) ((radix_of text == radix_number radix) && is_same (big_digits text) digits) h in
    let q = and_parts (radix_of text == radix_number radix) (is_same (big_digits text) digits) p.1 in
    record { shape = p.0; value = λ i. Digits (eqb-true (radix_of text) (radix_number radix) q.0 i) (eq_of_same (big_digits text) digits q.1 i) }

-- a raw has no sign, and spells the digits
record IsRawDigits (value : Value) (negative : Bool) (raw : List ℕ) : Type 0 where
  pub unsigned : negative ≡ false
  pub spelled : IsRawOf (record { kind = BigInt; value = value }) raw

raw_digits : {Z : Type 0} (radix : Radix) (digits : List ℕ) (negative : Bool) (raw : Option (String Z)) → not (is_none raw) ≡ true → raw_passes (spells_digits radix digits) raw ≡ true → (is_none raw || not negative) ≡ true → IsRawDigits (Digits (radix_number radix) digits) negative (raw_text raw)
unfolding raw_passes raw_text
raw_digits radix digits negative None given h s = absurd (true≢false (sym given))
raw_digits radix digits negative (Some raw) given h s = record {
  unsigned = not-true negative s;
  spelled = record { utf8 = IsUtf8-string_bytes raw; spells = digits_spelled radix digits (characters raw) h };
}

big_token : (value : Value) (t : List ℕ) → value_of BigInt (chars t) ≡ value → token_of BigInt (spelling BigInt t) ≡ record { kind = BigInt; value = value }
unfolding token_of spelling
big_token value t e = let f : Value → lexical.Token = λ z. record { kind = BigInt; value = z } in ap f e

writes_raw : (env : Env) (span : Span) (value : Value) (t : List ℕ) → IsRawOf (record { kind = BigInt; value = value }) t → Writes env (words.big_integer span t) (signed_tokens BigInt value false)
unfolding has_shape
writes_raw env span value t h =
    subst (λ z. Writes env (words.big_integer span t) (z ∷ [])) (big_token value t h.spells.value) (writes_big_integer env span t (spelled_big_integer t h.utf8 h.spells.shape))

-- ---- by its digits, and `n`

suffix_utf8 : IsUtf8 (codes "n")
unfolding chars is_utf8 lib.Utf8.encode
suffix_utf8 = IsUtf8-from_is_utf8 (codes "n") refl

suffix_chars : chars (codes "n") ≡ codes "n"
unfolding chars lib.Utf8.encode
suffix_chars = refl

part_utf8 : (negative : Bool) (part : List ℕ) → IsUtf8 (sign_text negative ++ part) → IsUtf8 part
unfolding sign_text size_of
part_utf8 true part u = size_utf8 (45 ∷ part) u
part_utf8 false part u = u

some_part : (part : List ℕ) → begins_digit (chars part) ≡ true → part ≡ [] → ⊥
unfolding begins_digit
some_part part h e = true≢false (sym h ∙ ap (λ z. begins_digit (chars z)) e ∙ ap begins_digit chars-nil)

module _ (n : trees.BigInt) (s : IsSignedInteger n (big_text n) (big_part n)) where
  utf8_part : IsUtf8 (big_part n)
  utf8_part = part_utf8 n.negative (big_part n) (subst (λ z. IsUtf8 z) s.parts (IsUtf8-from_ascii (big_text n) s.ascii))

  whole_chars : chars (big_part n ++ codes "n") ≡ chars (big_part n) ++ codes "n"
  whole_chars = chars-append (big_part n) (codes "n") utf8_part ∙ ap (λ z. chars (big_part n) ++ z) suffix_chars

  digits_signed : SignedToken BigInt (value_of_big n) n.negative (big_text n ++ codes "n")
  unfolding big_int_token
  digits_signed =
      subst (λ z. SignedToken BigInt (value_of_big n) n.negative z) (sym (ap (λ z. z ++ codes "n") s.parts ∙ append_assoc (sign_text n.negative) (big_part n) (codes "n")))
      (big_integer_signed (value_of_big n) n.negative (big_part n ++ codes "n") (IsUtf8-append (big_part n) (codes "n") utf8_part suffix_utf8)
      (subst (λ z. Spells (big_int_token n.radix (characters n.digits)) z) (sym whole_chars) (integer_spells n.radix (characters n.digits) (chars (big_part n) ++ codes "n") s.token)))

  suffix_class : start_class (chars (big_text n ++ codes "n")) ≡ start_class (chars (big_text n))
  suffix_class = ap (λ z. start_class (chars (z ++ codes "n"))) s.parts ∙ more_class n.negative (big_part n) (codes "n") utf8_part s.front ∙ sym (ap (λ z. start_class (chars z)) s.parts)

  some_digits : big_text n ≡ [] → ⊥
  some_digits e = some_after_sign n.negative (big_part n) (some_part (big_part n) s.front) (sym s.parts ∙ e)

  writes_digits : (env : Env) → Writes env (words.big_digits n.span (big_text n)) (signed_tokens BigInt (value_of_big n) n.negative)
  writes_digits env = subst (λ z. Writes env (words.big_digits n.span (big_text n)) z) (signed_written digits_signed) (writes_big_digits env n.span (big_text n) (signed_spelled digits_signed) suffix_class some_digits (sym (ascii_is true (big_text n) s.ascii)))

-- ---- any digits, which may have a sign

with_suffix : (negative : Bool) (size t : List ℕ) → t ≡ sign_text negative ++ size → IsUtf8 size → is_big_integer (chars size ++ codes "n") ≡ true → SignedToken BigInt (value_of BigInt (chars size ++ codes "n")) negative (t ++ codes "n")
unfolding spelling
with_suffix negative size t p u s =
    let whole : chars (size ++ codes "n") ≡ chars size ++ codes "n" = chars-append size (codes "n") u ∙ ap (λ z. chars size ++ z) suffix_chars in
    let shape : is_big_integer (chars (size ++ codes "n")) ≡ true = ap is_big_integer whole ∙ s in
    record {
      size = size ++ codes "n";
      parts = ap (λ z. z ++ codes "n") p ∙ append_assoc (sign_text negative) size (codes "n");
      spelled = spelled_big_integer (size ++ codes "n") (IsUtf8-append size (codes "n") u suffix_utf8) shape;
      front = big_integer_begins (chars (size ++ codes "n")) shape;
      same = ap (value_of BigInt) whole;
    }

ascii_front : (t u : List ℕ) → is_ascii_text (t ++ u) ≡ true → is_ascii_text t ≡ true
ascii_front [] u h = refl
ascii_front (c ∷ cs) u h = let p = and_parts (nat_lt c 128) (is_ascii_text (cs ++ u)) h in and_from (nat_lt c 128) (is_ascii_text cs) p.0 (ascii_front cs u p.1)

big_signed_ascii : {value : Value} {negative : Bool} {t : List ℕ} → SignedToken BigInt value negative t → is_ascii_text t ≡ true
big_signed_ascii {value} {negative} h = subst (λ z. is_ascii_text z ≡ true) (sym h.parts) (sign_text_ascii negative h.size (big_ascii h.size h.spelled))

pub writes_digits_text : (env : Env) (span : Span) (negative : Bool) (size t : List ℕ) → t ≡ sign_text negative ++ size → IsUtf8 size → begins_digit (chars size) ≡ true → is_big_integer (chars size ++ codes "n") ≡ true → Writes env (words.big_digits span t) (signed_tokens BigInt (value_of BigInt (chars size ++ codes "n")) negative)
writes_digits_text env span negative size t p u f s =
    let h = with_suffix negative size t p u s in
    let same : start_class (chars (t ++ codes "n")) ≡ start_class (chars t) =
    ap (λ z. start_class (chars (z ++ codes "n"))) p ∙ more_class negative size (codes "n") u f ∙ sym (ap (λ z. start_class (chars z)) p) in
    let some : t ≡ [] → ⊥ = λ e. some_after_sign negative size (some_part size f) (sym p ∙ e) in
    subst (λ z. Writes env (words.big_digits span t) z) (signed_written h) (writes_big_digits env span t (signed_spelled h) same some (ascii_front t (codes "n") (big_signed_ascii h)))

-- ---- a big integer

own_case : (b : Bool) (env : Env) (n : trees.BigInt) → prints_big_raw env.config n ≡ b → is_big_int n ≡ true → let t : List ℕ = cond b (joined env.config.target (raw_text n.raw)) (big_text n) in Writes env (big_int_parts b n.span t) (signed_tokens BigInt (value_of_big n) n.negative)
unfolding prints_big_raw is_big_int big_int_parts
own_case true env n e w =
    let digits : List ℕ = characters n.digits in
    let value : Value = value_of_big n in
    let t : List ℕ = joined env.config.target (raw_text n.raw) in
    let p = and_parts (are_digits n.radix digits) (raw_passes (spells_digits n.radix digits) n.raw && (is_none n.raw || not n.negative)) w in
    let q = and_parts (raw_passes (spells_digits n.radix digits) n.raw) (is_none n.raw || not n.negative) p.1 in
    let r = raw_digits n.radix digits n.negative n.raw (and_parts (not env.config.minify) (not (is_none n.raw)) e).1 q.0 q.1 in
    subst (λ z. Writes env (words.big_integer n.span t) (signed_tokens BigInt value z)) (sym r.unsigned)
    (writes_raw env n.span value t (joined_raw (record { kind = BigInt; value = value }) env.config.target (raw_text n.raw) (integer_spells_without value) r.spelled))
own_case false env n e w =
    let digits : List ℕ = characters n.digits in
    let p = and_parts (are_digits n.radix digits) (raw_passes (spells_digits n.radix digits) n.raw && (is_none n.raw || not n.negative)) w in
    writes_digits n (big_signed n p.0) env

writes_big_int_by : (env : Env) (in_lit : Bool) (n : trees.BigInt) → is_big_int n ≡ true → Writes env (big_int_by in_lit (prints_big_raw env.config n) n.span (big_int_text env.config n)) (signed_tokens BigInt (value_of_big n) n.negative)
unfolding big_int_by big_int_text
writes_big_int_by env in_lit n w =
    let t : List ℕ = big_int_text env.config n in
    let ts : List lexical.Token = signed_tokens BigInt (value_of_big n) n.negative in
    writes_then env (begun_in in_lit n.span t) _ [] ts (writes_begun_in env in_lit n.span t)
    (writes_then env (leading_comments n.span.lo) _ [] ts (writes_leading env n.span.lo) (own_case (prints_big_raw env.config n) env n refl w))

pub prints_big_int_at : (env : Env) (in_lit : Bool) (n : trees.BigInt) → Prints env (big_int_at in_lit n) (phrases.big_int n)
unfolding big_int_at phrases.big_int big_int_token is_spelled_anew is_str
prints_big_int_at env in_lit n =
    prints_where (is_big_int n) (λ w.
    prints_same (big_int_at in_lit n) (λ rest. step (Remake (makes_big_int env.config n)) (big_int_by in_lit (prints_big_raw env.config n) n.span (big_int_text env.config n) rest)) (λ maps rest. refl)
    (prints_signed BigInt (value_of_big n) n.negative refl refl (makes_remade (makes_big_int env.config n) (writes_big_int_by env in_lit n w))))

-- a big integer literal
pub prints_big_int : (env : Env) (n : trees.BigInt) → Prints env (big_int_lit n) (phrases.big_int n)
prints_big_int env n = prints_big_int_at env false n
