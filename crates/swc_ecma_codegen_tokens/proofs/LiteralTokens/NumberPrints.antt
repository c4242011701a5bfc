-- What is written of a number is what it reads as, under any settings.
use Rattle.std.proofs.Common.{◌≡◌, ℕ, Bool, true, false, not, cond, ◌==◌, ◌&&◌, List, [], ◌∷◌, ◌++◌, codes, nat_lt, ◌-◌, Option, Some, None, is_none, inl, inr, refl, sym, ap, ◌∙◌, subst, append-nil, string_bytes}
use Rattle.std.specs.Str.{chars, is_utf8}
use Rattle.std.specs.declared.string.String.{String}
use Rattle.std.proofs.lemmas.Bool.{and_parts, cases_Bool, eqb-true, not-true, true≢false}
use Rattle.std.proofs.lemmas.Str.{IsUtf8-from_ascii, IsUtf8-string_bytes}
use Rattle.swc_ecma_codegen_common.specs.declared.decimals.Decimal.{Decimal}
use Rattle.swc_ecma_codegen_common.specs.declared.positions.BytePos.{BytePos}
use Rattle.swc_ecma_codegen_common.specs.declared.positions.Span.{Span}
use Rattle.swc_ecma_codegen_common.specs.declared.versions.EsVersion.{EsVersion}
use Rattle.swc_ecma_codegen_tree.specs.declared.lits.Number as trees
use Rattle.swc_ecma_codegen_tree.specs.declared.lits.NumberValue.{NumberValue}
use Rattle.swc_ecma_codegen_tree.specs.declared.lits.NumberValue.TheVariants.{Finite, Infinity, NegInfinity, NaN}
use Rattle.swc_ecma_codegen_spans.specs.Spans.{dummy_span}
use Rattle.swc_ecma_codegen_settings.specs.declared.config.Config.{Config}
use Rattle.swc_ecma_codegen_grammar.specs.declared.kinds.Kind.TheVariants.{Name, Number, Punctuator}
use Rattle.swc_ecma_codegen_grammar.specs.Chars.{is_start, is_part, is_letter, is_digit}
use Rattle.swc_ecma_codegen_grammar.specs.DecimalValues.{exact_size}
use Rattle.swc_ecma_codegen_grammar.specs.LitPhrases as phrases
use Rattle.swc_ecma_codegen_grammar.specs.LitPhrases.{after_sign, characters, finite, is_compared, is_same_number, number_of, number_token, spells_size, without_raw}
use Rattle.swc_ecma_codegen_grammar.specs.Names.{is_name, name_rest, fits, name_value, name_characters}
use Rattle.swc_ecma_codegen_grammar.specs.Numbers.{is_number, is_numeric, has_suffix, takes_dot}
use Rattle.swc_ecma_codegen_grammar.specs.NumberValues.{DecimalFraction, exact_value, numeric_value}
use Rattle.swc_ecma_codegen_grammar.specs.Phrases.{One, mark}
use Rattle.swc_ecma_codegen_grammar.specs.Tokens as lexical
use Rattle.swc_ecma_codegen_grammar.specs.Tokens.{Characters, Exactly, Value, has_shape, token_of, value_of}
use Rattle.swc_ecma_codegen_text_writer.specs.Sheet.{StrLit}
use Rattle.swc_ecma_codegen_literals.specs.AsciiNames.{is_ascii_text}
use Rattle.swc_ecma_codegen_literals.specs.NumberTexts.{IsSignedSize, plain_part, plain_text, minified_part, minified_text, sign_text}
use Rattle.swc_ecma_codegen_literals.proofs.NumberTokens.{plain_signed, minified_signed}
use Rattle.swc_ecma_codegen_literals.proofs.SpelledTokens.{number_spells_without, size_spells}
use Rattle.swc_ecma_codegen_tokens.specs.Escapes.{is_spelled_anew}
use Rattle.swc_ecma_codegen_tokens.specs.Lits.{begun_in, between_dots, before_property, by_value, decimal_text, infinity, infinity_text, is_finite, is_named, joined, makes_number, named_number, not_a_number, number_at, number_by, number_lit, number_object, number_text, object_by, prints_number_raw, raw_is, raw_text, spelled_number, spelled_object, suits}
use Rattle.swc_ecma_codegen_tokens.specs.Literals as words
use Rattle.swc_ecma_codegen_tokens.specs.Literals.{size_of}
use Rattle.swc_ecma_codegen_tokens.specs.Run.{at_maps, Env, Guard, Part, Remake, Token, spelling, step}
use Rattle.swc_ecma_codegen_tokens.specs.Scripts.{is_str}
use Rattle.swc_ecma_codegen_tokens.specs.Words.{leading_comments}
use Rattle.swc_ecma_codegen_tokens.proofs.LiteralTokens.LitTexts.{IsRawOf, SignedToken, joined_raw, number_signed, signed_class, signed_size, signed_spelled, signed_tokens, signed_written, some_signed, with_dot}
use Rattle.swc_ecma_codegen_tokens.proofs.LiteralTokens.LiteralParts.{literal_token, writes_dotted, writes_number, writes_number_name, writes_settled_begun}
use Rattle.swc_ecma_codegen_tokens.proofs.LiteralTokens.NumeralTexts.{numeric_ascii, ascii_by_chars}
use Rattle.swc_ecma_codegen_tokens.proofs.LiteralTokens.OwnDots.{dotted_begins}
use Rattle.swc_ecma_codegen_tokens.proofs.Reading.Phrased.{Prints, after, prints_mark, prints_never, prints_one, prints_same, prints_where, then}
use Rattle.swc_ecma_codegen_tokens.proofs.Reading.Printed.{Writes, writes_commit, writes_if, writes_nothing, writes_then, Fills}
use Rattle.swc_ecma_codegen_tokens.proofs.Commenting.CommentPrints.{writes_leading}
use Rattle.swc_ecma_codegen_tokens.proofs.Emission.Remade.{makes_remade, prints_signed, writes_begun_in}
use Rattle.swc_ecma_codegen_tokens.proofs.Reading.Texts.{minus_is_mark}
use Rattle.swc_ecma_codegen_tokens.proofs.Reading.TokenLays.{Spelled, spelled_name}

-- ---- texts of numbers

size_signed : (d : Decimal) (t size : List ℕ) → IsSignedSize d t size → SignedToken Number (Exactly (exact_size d)) d.negative t
unfolding number_token
size_signed d t size s =
    subst (λ z. SignedToken Number (Exactly (exact_size d)) d.negative z) (sym s.parts)
    (number_signed (Exactly (exact_size d)) d.negative size (IsUtf8-from_ascii size s.token.ascii) (size_spells d size s.token))

raw_signed : (value : Value) (raw : List ℕ) → IsRawOf (record { kind = Number; value = value }) raw → SignedToken Number value false raw
unfolding sign_text
raw_signed value raw h = number_signed value false raw h.utf8 h.spells

joined_signed : (value : Value) (v : EsVersion) (raw : List ℕ) → IsRawOf (record { kind = Number; value = value }) raw → SignedToken Number value false (joined v raw)
joined_signed value v raw h = raw_signed value (joined v raw) (joined_raw (record { kind = Number; value = value }) v raw (number_spells_without value) h)

chosen_signed : {value : Value} {negative : Bool} (b : Bool) (t u : List ℕ) → SignedToken Number value negative t → SignedToken Number value negative u → SignedToken Number value negative (cond b t u)
chosen_signed true t u h k = h
chosen_signed false t u h k = k

-- a finite number by its value
value_signed : (minify : Bool) (d : Decimal) → SignedToken Number (Exactly (exact_size d)) d.negative (decimal_text minify d)
unfolding decimal_text
value_signed minify d =
    chosen_signed minify (minified_text d) (plain_text d) (size_signed d (minified_text d) (minified_part d) (minified_signed d)) (size_signed d (plain_text d) (plain_part d) (plain_signed d))

-- and where there is no raw
unraw_signed : (minify : Bool) (v : EsVersion) (d : Decimal) → SignedToken Number (Exactly (exact_size d)) d.negative (cond (not minify && false) (joined v []) (decimal_text minify d))
unraw_signed true v d = value_signed true d
unraw_signed false v d = value_signed false d

sizes_same : (a b : DecimalFraction) → is_same_number a b ≡ true → a ≡ b
unfolding is_same_number
sizes_same a b h =
    let p = and_parts (a.digits == b.digits) (a.places == b.places) h in
    λ i. record { digits = eqb-true a.digits b.digits p.0 i; places = eqb-true a.places b.places p.1 i }

-- a raw of this size
size_raw : {Z : Type 0} (size : DecimalFraction) (raw : String Z) → spells_size size (characters raw) ≡ true → IsRawOf (record { kind = Number; value = Exactly size }) (string_bytes raw)
unfolding spells_size has_shape value_of
size_raw size raw h =
    let text : List ℕ = characters raw in
    let p = and_parts (is_number text) (is_compared text && is_same_number (exact_value (numeric_value text)) size) h in
    let q = and_parts (is_compared text) (is_same_number (exact_value (numeric_value text)) size) p.1 in
    record { utf8 = IsUtf8-string_bytes raw; spells = record { shape = p.0; value = ap Exactly (sizes_same (exact_value (numeric_value text)) size q.1) } }

-- it is ASCII
pub sign_text_ascii : (negative : Bool) (size : List ℕ) → is_ascii_text size ≡ true → is_ascii_text (sign_text negative ++ size) ≡ true
unfolding sign_text
sign_text_ascii true size a = a
sign_text_ascii false size a = a

signed_ascii : {value : Value} {negative : Bool} {t : List ℕ} → SignedToken Number value negative t → is_ascii_text t ≡ true
unfolding has_shape spelling is_number
signed_ascii {value} {negative} h =
    let s = h.spelled in
    subst (λ z. is_ascii_text z ≡ true) (sym h.parts)
    (sign_text_ascii negative h.size (ascii_by_chars h.size s.utf8 (numeric_ascii (chars h.size) (and_parts (is_numeric (chars h.size)) (not (has_suffix (chars h.size))) s.shape).0)))

-- ---- numbers that a literal spells

-- the text of a number by its value and its raw
written_text : {Z : Type 0} → Config → NumberValue → Option (String Z) → List ℕ
written_text config v r = cond (not config.minify && raw_is (suits config.target) r) (joined config.target (raw_text r)) (by_value config.minify v (raw_text r))

-- a part prints each text of such tokens
abbrev EachSigned : Env → (List ℕ → Part) → Type 0
EachSigned env p = (value : Value) (negative : Bool) (t : List ℕ) → SignedToken Number value negative t → Prints env (p t) (after_sign negative (One (record { kind = Number; value = value })))

finite_case : {Z : Type 0} (env : Env) (p : List ℕ → Part) → EachSigned env p → (d : Decimal) (raw : String Z) → Prints env (p (written_text env.config (Finite d) (Some raw))) (finite d (Some raw))
unfolding written_text raw_is raw_text by_value finite after_sign number_token
finite_case env p each d raw =
    let size : DecimalFraction = exact_size d in
    let config : Config = env.config in
    let kept : Bool = not config.minify && suits config.target (string_bytes raw) in
    prints_where (not d.negative && spells_size size (characters raw)) (λ w.
    let q = and_parts (not d.negative) (spells_size size (characters raw)) w in
    let by_number : SignedToken Number (Exactly size) false (decimal_text config.minify d) =
    subst (λ z. SignedToken Number (Exactly size) z (decimal_text config.minify d)) (not-true d.negative q.0) (value_signed config.minify d) in
    each (Exactly size) false _ (chosen_signed kept (joined config.target (string_bytes raw)) _ (joined_signed (Exactly size) config.target (string_bytes raw) (size_raw size raw q.1)) by_number))

infinite_raw : {Z : Type 0} (raw : String Z) → is_number (characters raw) ≡ true → IsRawOf (record { kind = Number; value = value_of Number (characters raw) }) (string_bytes raw)
unfolding has_shape
infinite_raw raw h = record { utf8 = IsUtf8-string_bytes raw; spells = record { shape = h; value = refl } }

infinite_case : {Z : Type 0} (env : Env) (p : List ℕ → Part) → EachSigned env p → (raw : String Z) → Prints env (p (written_text env.config Infinity (Some raw))) (phrases.infinity (Some raw))
unfolding written_text raw_is raw_text by_value phrases.infinity after_sign token_of
infinite_case env p each raw =
    let bytes : List ℕ = string_bytes raw in
    let value : Value = value_of Number (characters raw) in
    prints_where (is_number (characters raw)) (λ w.
    let h = infinite_raw raw w in
    each value false _ (chosen_signed (not env.config.minify && suits env.config.target bytes) (joined env.config.target bytes) bytes (joined_signed value env.config.target bytes h) (raw_signed value bytes h)))

spelled_case : {Z : Type 0} (env : Env) (p : List ℕ → Part) → EachSigned env p → (v : NumberValue) (r : Option (String Z)) → (is_none r && not (is_finite v)) ≡ false → Prints env (p (written_text env.config v r)) (number_of v r)
unfolding written_text raw_is raw_text by_value is_finite number_of finite phrases.infinity without_raw number_token
spelled_case env p each (Finite d) None e = each (Exactly (exact_size d)) d.negative _ (unraw_signed env.config.minify env.config.target d)
spelled_case env p each (Finite d) (Some raw) e = finite_case env p each d raw
spelled_case env p each Infinity None e = absurd (true≢false e)
spelled_case env p each Infinity (Some raw) e = infinite_case env p each raw
spelled_case env p each NegInfinity None e = absurd (true≢false e)
spelled_case env p each NegInfinity (Some raw) e = prints_never
spelled_case env p each NaN None e = absurd (true≢false e)
spelled_case env p each NaN (Some raw) e = prints_never

pub writes_number_text : (env : Env) (value : Value) (negative : Bool) (t : List ℕ) → SignedToken Number value negative t → Writes env (words.number t) (signed_tokens Number value negative)
writes_number_text env value negative t h = subst (λ z. Writes env (words.number t) z) (signed_written h) (writes_number env t (signed_spelled h) (some_signed h) (signed_ascii h))

writes_number_by : (env : Env) (in_lit : Bool) (span : Span) (value : Value) (negative : Bool) (t : List ℕ) → SignedToken Number value negative t → Writes env (number_by in_lit span t) (signed_tokens Number value negative)
unfolding number_by
writes_number_by env in_lit span value negative t h =
    writes_then env (begun_in in_lit span t) _ [] (signed_tokens Number value negative) (writes_begun_in env in_lit span t)
    (writes_then env (words.settled_begun span t) (words.number t) [] (signed_tokens Number value negative) (writes_settled_begun env span t) (writes_number_text env value negative t h))

prints_spelled : (env : Env) (in_lit : Bool) (n : trees.Number) → (is_none n.raw && not (is_finite n.value)) ≡ false → Prints env (spelled_number in_lit n) (phrases.number n)
unfolding spelled_number number_text prints_number_raw written_text phrases.number is_spelled_anew is_str
prints_spelled env in_lit n e =
    let due : Bool = makes_number env.config n in
    let p : List ℕ → Part = λ t rest. step (Remake due) (number_by in_lit n.span t rest) in
    prints_same (spelled_number in_lit n) (p (number_text env.config n)) (λ maps rest. refl)
    (spelled_case env p (λ value negative t h. prints_signed Number value negative refl refl (makes_remade due (writes_number_by env in_lit n.span value negative t h))) n.value n.raw e)

-- ---- numbers that are names

prints_number_name : (env : Env) (span : Span) (t : List ℕ) → Spelled Name t → is_ascii_text t ≡ true → name_value (chars t) ≡ t → Prints env (words.number_name span t) (One (lexical.name t))
unfolding lexical.name token_of value_of spelling is_str
prints_number_name env span t p a e =
    let f : List ℕ → lexical.Token = λ z. record { kind = Name; value = Characters z } in
    prints_one env (words.number_name span t) (lexical.name t) (subst (λ z. Writes env (words.number_name span t) (z ∷ [])) (ap f e) (writes_number_name env span t p a)) refl

infinity_spelled : Spelled Name (codes "Infinity")
unfolding is_name name_rest fits is_start is_part is_letter is_digit chars is_utf8 lib.Utf8.encode
infinity_spelled = spelled_name (codes "Infinity") refl refl

infinity_name : name_value (chars (codes "Infinity")) ≡ codes "Infinity"
unfolding name_value name_characters chars lib.Utf8.encode
infinity_name = refl

nan_spelled : Spelled Name (codes "NaN")
unfolding is_name name_rest fits is_start is_part is_letter is_digit chars is_utf8 lib.Utf8.encode
nan_spelled = spelled_name (codes "NaN") refl refl

nan_name : name_value (chars (codes "NaN")) ≡ codes "NaN"
unfolding name_value name_characters chars lib.Utf8.encode
nan_name = refl

prints_minus : (env : Env) (span : Span) → Prints env (λ rest. step (Guard (codes "-")) (step (Token Punctuator (StrLit span (codes "-"))) rest)) (mark (codes "-"))
prints_minus env span = prints_mark env _ (codes "-") (literal_token env Punctuator span (codes "-") minus_is_mark refl)

prints_signed_name : (env : Env) (negative : Bool) (span : Span) → Prints env (λ rest. words.sign negative span (words.number_name span (codes "Infinity") rest)) (after_sign negative (One (lexical.name (codes "Infinity"))))
unfolding words.sign after_sign
prints_signed_name env true span = then (prints_minus env span) (prints_number_name env span (codes "Infinity") infinity_spelled refl infinity_name)
prints_signed_name env false span = prints_number_name env span (codes "Infinity") infinity_spelled refl infinity_name

prints_infinity : (env : Env) (in_lit negative : Bool) (span : Span) → Prints env (infinity in_lit negative span) (after_sign negative (One (lexical.name (codes "Infinity"))))
unfolding infinity
prints_infinity env in_lit negative span =
    after (writes_begun_in env in_lit span (infinity_text negative)) (after (writes_commit env) (after (writes_leading env span.lo) (prints_signed_name env negative span)))

prints_nan : (env : Env) (in_lit : Bool) (span : Span) → Prints env (not_a_number in_lit span) (One (lexical.name (codes "NaN")))
unfolding not_a_number
prints_nan env in_lit span =
    after (writes_begun_in env in_lit span (codes "NaN")) (after (writes_settled_begun env span (codes "NaN")) (prints_number_name env dummy_span (codes "NaN") nan_spelled refl nan_name))

prints_named : {Z : Type 0} (env : Env) (in_lit : Bool) (span : Span) (v : NumberValue) (r : Option (String Z)) → (is_none r && not (is_finite v)) ≡ true → Prints env (named_number in_lit span v) (number_of v r)
unfolding named_number is_finite number_of phrases.infinity without_raw after_sign
prints_named env in_lit span (Finite d) None e = absurd (true≢false (sym e))
prints_named env in_lit span v (Some raw) e = absurd (true≢false (sym e))
prints_named env in_lit span Infinity None e = prints_infinity env in_lit false span
prints_named env in_lit span NegInfinity None e = prints_infinity env in_lit true span
prints_named env in_lit span NaN None e = prints_nan env in_lit span

-- ---- a number

pub prints_number_at : (env : Env) (in_lit : Bool) (n : trees.Number) → Prints env (number_at in_lit n) (phrases.number n)
unfolding number_at is_named phrases.number
prints_number_at env in_lit n = elim (cases_Bool (is_none n.raw && not (is_finite n.value))) [
  | inl e ↦ prints_same (number_at in_lit n) (named_number in_lit n.span n.value) (λ maps rest. ap (λ b. cond b (named_number in_lit n.span n.value rest) (spelled_number in_lit n rest) (at_maps maps env)) e) (prints_named env in_lit n.span n.value n.raw e)
  | inr e ↦ prints_same (number_at in_lit n) (spelled_number in_lit n) (λ maps rest. ap (λ b. cond b (named_number in_lit n.span n.value rest) (spelled_number in_lit n rest) (at_maps maps env)) e) (prints_spelled env in_lit n e)
]

-- a numeric literal
pub prints_number : (env : Env) (n : trees.Number) → Prints env (number_lit n) (phrases.number n)
prints_number env n = prints_number_at env false n

-- ---- a number before the dot of a property

writes_between_dots : (env : Env) (pos : BytePos) → Fills env (between_dots pos)
unfolding between_dots
writes_between_dots env pos = writes_if env (nat_lt pos.0 2) (λ rest. rest) (leading_comments (record { 0 = pos.0 - 2 })) [] (writes_nothing env) (writes_leading env (record { 0 = pos.0 - 2 }))

-- with a dot of its own it is the same number
pub writes_dotted_text : (env : Env) (value : Value) (negative : Bool) (t : List ℕ) → SignedToken Number value negative t → takes_dot (chars (size_of t)) ≡ true → Writes env (words.dotted_number t) (signed_tokens Number value negative)
writes_dotted_text env value negative t h e =
    let takes : takes_dot (chars h.size) ≡ true = sym (ap (λ z. takes_dot (chars z)) (signed_size h)) ∙ e in
    let k = with_dot value negative t h takes in
    subst (λ z. Writes env (words.dotted_number t) z) (signed_written k) (writes_dotted env t (signed_spelled k) (signed_class h (codes ".") (dotted_begins (chars h.size) takes)) (some_signed h) (signed_ascii h))

property_case : (b : Bool) (env : Env) (pos : BytePos) (value : Value) (negative : Bool) (t : List ℕ) → SignedToken Number value negative t → takes_dot (chars (size_of t)) ≡ b → Writes env (λ rest. cond b (words.dotted_number t (between_dots pos rest)) (words.number t rest)) (signed_tokens Number value negative)
property_case true env pos value negative t h e =
    let ts : List lexical.Token = signed_tokens Number value negative in
    subst (λ z. Writes env (λ rest. words.dotted_number t (between_dots pos rest)) z) (append-nil ts) (writes_then env (words.dotted_number t) (between_dots pos) ts [] (writes_dotted_text env value negative t h e) (writes_between_dots env pos))
property_case false env pos value negative t h e = writes_number_text env value negative t h

writes_object_by : (env : Env) (span : Span) (pos : BytePos) (value : Value) (negative : Bool) (t : List ℕ) → SignedToken Number value negative t → Writes env (object_by span pos t) (signed_tokens Number value negative)
unfolding object_by before_property
writes_object_by env span pos value negative t h =
    writes_then env (words.settled_begun span t) (before_property t pos) [] (signed_tokens Number value negative) (writes_settled_begun env span t)
    (property_case (takes_dot (chars (size_of t))) env pos value negative t h refl)

prints_spelled_object : (env : Env) (n : trees.Number) (pos : BytePos) → (is_none n.raw && not (is_finite n.value)) ≡ false → Prints env (spelled_object n pos) (phrases.number n)
unfolding spelled_object number_text prints_number_raw written_text phrases.number is_spelled_anew is_str
prints_spelled_object env n pos e =
    let due : Bool = makes_number env.config n in
    let p : List ℕ → Part = λ t rest. step (Remake due) (object_by n.span pos t rest) in
    prints_same (spelled_object n pos) (p (number_text env.config n)) (λ maps rest. refl)
    (spelled_case env p (λ value negative t h. prints_signed Number value negative refl refl (makes_remade due (writes_object_by env n.span pos value negative t h))) n.value n.raw e)

-- with its own dot where the next one would be read into it, it is the same number
pub prints_number_object : (env : Env) (n : trees.Number) (pos : BytePos) → Prints env (number_object n pos) (phrases.number n)
unfolding number_object is_named phrases.number
prints_number_object env n pos = elim (cases_Bool (is_none n.raw && not (is_finite n.value))) [
  | inl e ↦ prints_same (number_object n pos) (named_number false n.span n.value) (λ maps rest. ap (λ b. cond b (named_number false n.span n.value rest) (spelled_object n pos rest) (at_maps maps env)) e) (prints_named env false n.span n.value n.raw e)
  | inr e ↦ prints_same (number_object n pos) (spelled_object n pos) (λ maps rest. ap (λ b. cond b (named_number false n.span n.value rest) (spelled_object n pos rest) (at_maps maps env)) e) (prints_spelled_object env n pos e)
]
