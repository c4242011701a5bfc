-- What tokens of several calls, and nodes, add to the tokens so far.
use Rattle.std.proofs.Common.{◌≡◌, ℕ, Bool, true, false, not, ◌&&◌, ◌==◌, cond, List, [], ◌∷◌, ◌++◌, codes, refl, sym, ap, ◌∙◌, subst, inl, inr, Option, Some, None, Result, Ok, Err, OnOk}
use Rattle.std.specs.Str.{chars, is_utf8}
use Rattle.std.specs.declared.string.String.{String}
use Rattle.std.proofs.lemmas.Bool.{and_parts, cases_Bool, eqb-true, not-true, or_from, or_parts, true≢false}
use Rattle.std.proofs.lemmas.Str.{chars-nil, IsUtf8-from_is_utf8}
use Rattle.swc_ecma_codegen_common.specs.declared.errors.Refusal.{Refusal}
use Rattle.swc_ecma_codegen_common.specs.declared.positions.Span.{Span}
use Rattle.swc_ecma_codegen_tree.specs.declared.exprs.TplElement.{TplElement}
use Rattle.swc_ecma_codegen_tree.specs.declared.lits.BigInt.{BigInt}
use Rattle.swc_ecma_codegen_tree.specs.declared.lits.Bool as tree_bool
use Rattle.swc_ecma_codegen_tree.specs.declared.lits.Lit.{Lit}
use Rattle.swc_ecma_codegen_tree.specs.declared.lits.Lit.TheVariants as lits
use Rattle.swc_ecma_codegen_tree.specs.declared.lits.Null.{Null}
use Rattle.swc_ecma_codegen_tree.specs.declared.lits.Number.{Number as NumberLit}
use Rattle.swc_ecma_codegen_tree.specs.declared.lits.NumberValue.{NumberValue}
use Rattle.swc_ecma_codegen_tree.specs.declared.lits.NumberValue.TheVariants.{Finite, Infinity, NegInfinity, NaN}
use Rattle.swc_ecma_codegen_tree.specs.declared.lits.Regex.{Regex as RegexLit}
use Rattle.swc_ecma_codegen_tree.specs.declared.lits.Str as strs
use Rattle.swc_ecma_codegen_spans.specs.Spans.{dummy_span}
use Rattle.swc_ecma_codegen_grammar.specs.declared.kinds.Kind.{Kind}
use Rattle.swc_ecma_codegen_grammar.specs.declared.kinds.Kind.TheVariants.{Name, Number, BigInt as BigIntToken, Punctuator, Str, Regex, Hashbang}
use Rattle.swc_ecma_codegen_grammar.specs.declared.kinds.TemplatePart.{TemplatePart}
use Rattle.swc_ecma_codegen_grammar.specs.CommentMaps.{Maps}
use Rattle.swc_ecma_codegen_grammar.specs.Comments.{AreClosed, no_maps, remarks_of}
use Rattle.swc_ecma_codegen_grammar.specs.Keys.{key_token, is_quoted}
use Rattle.swc_ecma_codegen_grammar.specs.JsxPhrases.{jsx_string}
use Rattle.swc_ecma_codegen_grammar.specs.LitPhrases as phrases
use Rattle.swc_ecma_codegen_grammar.specs.CodeUnits.{all_utf16}
use Rattle.swc_ecma_codegen_grammar.specs.Names.{is_name, name_value}
use Rattle.swc_ecma_codegen_grammar.specs.Numbers.{is_big_integer, is_number, takes_dot}
use Rattle.swc_ecma_codegen_grammar.specs.Phrases.{Phrase, Never, Nothing, One, NameOf, KeyOf, PrivateOf, TagNameOf, Then, Generates, is_possible, where_}
use Rattle.swc_ecma_codegen_grammar.specs.Reads.{is_same_line}
use Rattle.swc_ecma_codegen_grammar.specs.Settings.{Settings}
use Rattle.swc_ecma_codegen_grammar.specs.SourceLines.{no_lines}
use Rattle.swc_ecma_codegen_grammar.specs.SpelledNames.{spelled_name}
use Rattle.swc_ecma_codegen_grammar.specs.RegularExpressions.{is_regex}
use Rattle.swc_ecma_codegen_grammar.specs.Strings.{is_string}
use Rattle.swc_ecma_codegen_grammar.specs.Chars.{begins_digit, is_one_line}
use Rattle.swc_ecma_codegen_grammar.specs.TemplatePhrases as templates
use Rattle.swc_ecma_codegen_grammar.specs.Tokens as lexical
use Rattle.swc_ecma_codegen_grammar.specs.Tokens.{token_of, value_of}
use Rattle.swc_ecma_codegen_grammar.specs.Trivia.{Remark}
use Rattle.swc_ecma_codegen_grammar.proofs.NumberShapes.{number_numeric, some_number}
use Rattle.swc_ecma_codegen_literals.specs.NumberTexts.{sign_text}
use Rattle.swc_ecma_codegen_literals.proofs.BeginningLaws.{number_begins}
use Rattle.swc_ecma_codegen_text_writer.specs.Sheet.{StrLit}
use Rattle.swc_ecma_codegen_tokens.specs.Adds.{sign_tokens, tokens_of_digits, tokens_of_number}
use Rattle.swc_ecma_codegen_tokens.specs.Literals.{string, number, dotted_number, sign, number_name, big_digits, big_integer, regex, hashbang, size_of}
use Rattle.swc_ecma_codegen_tokens.specs.Run.{Part, State, Guard, Token, step, after_step, taken_in, taken_by, steps_of, run, nothing, spelling, at_source, with_source, Emits, Does, DoesTaking}
use Rattle.swc_ecma_codegen_tokens.specs.Settings.{settings_of}
use Rattle.swc_ecma_codegen_tokens.specs.Words.{line_end}
use Rattle.swc_ecma_codegen_tokens.specs.Written.{IsNew, IsAtMargin, Spot, ReadsSoFar, ReadsSoFarAt, taken_remarks}
use Rattle.swc_ecma_codegen_tokens.proofs.LiteralTokens.BigPrints.{writes_digits_text}
use Rattle.swc_ecma_codegen_tokens.proofs.Commenting.HashbangPrints.{hashbang_steps, calls_lay}
use Rattle.swc_ecma_codegen_tokens.proofs.Filling.Jointless.{holds_joint}
use Rattle.swc_ecma_codegen_tokens.proofs.LiteralTokens.LiteralParts.{literal_lays}
use Rattle.swc_ecma_codegen_tokens.proofs.LiteralTokens.LitPrints.{writes_regex_text}
use Rattle.swc_ecma_codegen_tokens.proofs.LiteralTokens.LitTexts.{SignedToken, signed_tokens, spelled_string, spelled_number, spelled_big_integer}
use Rattle.swc_ecma_codegen_tokens.proofs.LiteralTokens.NumberPrints.{writes_dotted_text, writes_number_text}
use Rattle.swc_ecma_codegen_tokens.proofs.Commenting.NoneTaken.{no_maps_bare, no_maps_closed, same_remarks}
use Rattle.swc_ecma_codegen_tokens.proofs.Reading.Phrased.{Prints, PrintsOn, enters_new}
use Rattle.swc_ecma_codegen_tokens.proofs.Filling.Shapes.{whole}
use Rattle.swc_ecma_codegen_tokens.proofs.Reading.SoFar.{laid_so_far, made_so_far, new_so_far, phrase_so_far, so_far_at, so_far_from}
use Rattle.swc_ecma_codegen_tokens.proofs.Reading.Texts.{minus_is_mark}
use Rattle.swc_ecma_codegen_tokens.proofs.Reading.TokenLays.{Spelled, spelled_name as name_spelled}

-- ---- phrases without `[no LineTerminator here]`

-- one that has none of it, and leaves nothing open
unfoldable pub is_jointless : Phrase → Bool
is_jointless Never = true
is_jointless Nothing = true
is_jointless (One x) = not (is_same_line x.kind)
is_jointless (NameOf at bytes) = true
is_jointless (KeyOf at bytes) = true
is_jointless (PrivateOf bytes) = true
is_jointless (TagNameOf at bytes) = true
is_jointless (Then a b) = is_jointless a && is_jointless b
is_jointless f = false

joint_append : (xs ys : List lexical.Token) → holds_joint xs ≡ false → holds_joint ys ≡ false → holds_joint (xs ++ ys) ≡ false
unfolding holds_joint
joint_append [] ys h k = k
joint_append (x ∷ xs) ys h k = let p = or_parts (is_same_line x.kind) (holds_joint xs) h in or_from (is_same_line x.kind) (holds_joint (xs ++ ys)) p.0 (joint_append xs ys p.1 k)

one_free : (x : lexical.Token) → not (is_same_line x.kind) ≡ true → holds_joint (x ∷ []) ≡ false
unfolding holds_joint
one_free x n = or_from (is_same_line x.kind) false (not-true (is_same_line x.kind) n) refl

key_free : (s : Settings) (bytes : List ℕ) → holds_joint (key_token s bytes ∷ []) ≡ false
unfolding holds_joint key_token is_same_line lexical.name
key_free s bytes = elim (is_quoted s (spelled_name bytes)) as (λ b. holds_joint (cond b (record { kind = Str; value = lexical.Units (Some (all_utf16 (name_value (spelled_name bytes)))) }) (lexical.name (name_value (spelled_name bytes))) ∷ []) ≡ false) [ true ↦ refl | false ↦ refl ]

nothing_free : holds_joint [] ≡ false
unfolding holds_joint
nothing_free = refl

pub joint_free : (s : Settings) (f : Phrase) (ts : List lexical.Token) → is_jointless f ≡ true → Generates s f ts → holds_joint ts ≡ false
unfolding is_jointless Generates
joint_free s Never ts n g = absurd g
joint_free s Nothing ts n g = ap holds_joint g ∙ nothing_free
joint_free s (One x) ts n g = ap holds_joint g ∙ one_free x n
joint_free s (NameOf at bytes) ts n g = ap holds_joint g ∙ one_free _ (unfold lexical.name is_same_line in refl)
joint_free s (KeyOf at bytes) ts n g = ap holds_joint g ∙ key_free s bytes
joint_free s (PrivateOf bytes) ts n g = ap holds_joint g ∙ one_free _ (unfold lexical.private_name is_same_line in refl)
joint_free s (TagNameOf at bytes) ts n g = ap holds_joint g ∙ one_free _ (unfold lexical.tag_name is_same_line in refl)
joint_free s (Then a b) ts n g = let p = and_parts (is_jointless a) (is_jointless b) n in ap holds_joint g.4 ∙ joint_append g.0 g.1 (joint_free s a g.0 p.0 g.2) (joint_free s b g.1 p.1 g.3)
joint_free s f ts n g = absurd (true≢false (sym n))

where_jointless : (b : Bool) (f : Phrase) → is_jointless f ≡ true → is_jointless (where_ b f) ≡ true
unfolding is_jointless where_
where_jointless true f h = h
where_jointless false f h = refl

sign_jointless : (b : Bool) (f : Phrase) → is_jointless f ≡ true → is_jointless (phrases.after_sign b f) ≡ true
unfolding is_jointless phrases.after_sign is_same_line lexical.punctuator
sign_jointless true f h = h
sign_jointless false f h = h

-- ---- of each literal

pub str_jointless : (n : strs.Str) → is_jointless (phrases.str_lit n) ≡ true
unfolding phrases.str_lit phrases.string_token is_jointless is_same_line
str_jointless n = where_jointless _ _ refl

pub jsx_string_jointless : (n : strs.Str) → is_jointless (jsx_string n) ≡ true
unfolding jsx_string lexical.jsx_string is_jointless is_same_line token_of
jsx_string_jointless n = where_jointless _ _ refl

raw_jointless : {Z : Type 0} (raw : Option (String Z)) (f : Phrase) → is_jointless f ≡ true → is_jointless (phrases.without_raw raw f) ≡ true
unfolding phrases.without_raw is_jointless
raw_jointless None f h = h
raw_jointless (Some raw) f h = refl

number_of_jointless : {Z : Type 0} (v : NumberValue) (raw : Option (String Z)) → is_jointless (phrases.number_of v raw) ≡ true
unfolding phrases.number_of phrases.finite phrases.infinity phrases.number_token is_jointless is_same_line token_of lexical.name
number_of_jointless (Finite d) None = sign_jointless d.negative _ refl
number_of_jointless (Finite d) (Some raw) = where_jointless _ _ refl
number_of_jointless Infinity None = refl
number_of_jointless Infinity (Some raw) = where_jointless _ _ refl
number_of_jointless NegInfinity raw = raw_jointless raw _ (sign_jointless true _ refl)
number_of_jointless NaN raw = raw_jointless raw _ refl

pub number_jointless : (n : NumberLit) → is_jointless (phrases.number n) ≡ true
unfolding phrases.number
number_jointless n = number_of_jointless n.value n.raw

pub big_int_jointless : (n : BigInt) → is_jointless (phrases.big_int n) ≡ true
unfolding phrases.big_int phrases.big_int_token is_jointless is_same_line
big_int_jointless n = where_jointless _ _ (sign_jointless n.negative _ refl)

pub regex_jointless : (n : RegexLit) → is_jointless (phrases.regex n) ≡ true
unfolding phrases.regex is_jointless is_same_line token_of
regex_jointless n = where_jointless _ _ refl

pub bool_jointless : (n : tree_bool.Bool) → is_jointless (phrases.bool_lit n) ≡ true
unfolding phrases.bool_lit is_jointless is_same_line lexical.word
bool_jointless n = refl

pub null_jointless : (n : Null) → is_jointless (phrases.null_lit n) ≡ true
unfolding phrases.null_lit is_jointless is_same_line lexical.word
null_jointless n = refl

pub lit_jointless : (n : Lit) → is_jointless (phrases.lit n) ≡ true
unfolding phrases.lit phrases.bool_lit phrases.null_lit is_jointless is_same_line lexical.word
lit_jointless (lits.Str n) = str_jointless n
lit_jointless (lits.Bool n) = refl
lit_jointless (lits.Null n) = refl
lit_jointless (lits.Num n) = number_jointless n.value
lit_jointless (lits.BigInt n) = big_int_jointless n.value
lit_jointless (lits.Regex n) = regex_jointless n
lit_jointless (lits.JSXText n) = refl

part_free : (first : Bool) (part : TemplatePart) (t : List ℕ) → is_jointless (One (token_of (templates.part_kind first part) t)) ≡ true
unfolding is_jointless templates.part_kind is_same_line token_of
part_free true part t = refl
part_free false part t = refl

pub tpl_jointless : (first : Bool) (part : TemplatePart) (n : TplElement) → is_jointless (templates.tpl_element first part n) ≡ true
unfolding templates.tpl_element templates.part_phrase
tpl_jointless first part n = where_jointless _ _ (part_free first part _)

-- ---- what a part adds that writes a list of a phrase

-- without comments
pub adds_list : (phrase : Phrase) (part : Part) (a b : State) (r : Result (Unit {0}) Refusal) → Prints (at_source no_lines no_maps a).env part phrase → is_jointless phrase ≡ true → Does part a b r → (old : List ℕ) (tokens : List lexical.Token) (rs : List Remark) → is_possible phrase ≡ true → ReadsSoFar old tokens rs a → OnOk r ((ts : List lexical.Token) × Generates (settings_of a.env.config) phrase ts × ReadsSoFar old (tokens ++ ts) rs b)
unfolding with_source
adds_list phrase part a b (Ok u) p n d old tokens rs w h =
    let x = phrase_so_far part phrase old tokens rs (at_source no_lines no_maps a) (at_source no_lines no_maps b) p w (λ ts g. joint_free (settings_of a.env.config) phrase ts n g) no_maps_closed (d no_lines no_maps) (so_far_at no_lines no_maps old tokens rs a h) in
    let same = subst (λ z. ReadsSoFar old (tokens ++ x.0) z (at_source no_lines no_maps b)) (same_remarks rs part (at_source no_lines no_maps a).env no_maps_bare) x.2 in
    (x.0, x.1, so_far_from no_lines no_maps old (tokens ++ x.0) rs b same)
adds_list phrase part a b (Err e) p n d old tokens rs w h = tt

-- with the comments that are taken
pub adds_taking : {v w : Spot} (phrase : Phrase) (part : Part) (before left : Maps) (a b : State) (r : Result (Unit {0}) Refusal) → PrintsOn v w whole (at_source no_lines before a).env part phrase → is_jointless phrase ≡ true → DoesTaking part before left a b r → (old : List ℕ) (tokens : List lexical.Token) (rs : List Remark) → AreClosed before → is_possible phrase ≡ true → ReadsSoFarAt v old tokens rs a → OnOk r ((ts : List lexical.Token) × Generates (settings_of a.env.config) phrase ts × ReadsSoFarAt w old (tokens ++ ts) (rs ++ taken_remarks part (at_source no_lines before a).env) b)
unfolding with_source
adds_taking phrase part before left a b (Ok u) p n d old tokens rs c possible h =
    let x = phrase_so_far part phrase old tokens rs (at_source no_lines before a) (at_source no_lines left b) p possible (λ ts g. joint_free (settings_of a.env.config) phrase ts n g) c (d no_lines) (so_far_at no_lines before old tokens rs a h) in
    (x.0, x.1, so_far_from no_lines left old (tokens ++ x.0) _ b x.2)
adds_taking phrase part before left a b (Err e) p n d old tokens rs c possible h = tt

-- ---- a token by one call of a literal, as it is spelled

pub literal_so_far : (kind : Kind) (span : Span) (t old : List ℕ) (tokens : List lexical.Token) (rs : List Remark) (a b : State) → is_same_line kind ≡ false → Spelled kind t → Emits (λ rest. step (Guard t) (step (Token kind (StrLit span t)) rest)) a b (Ok tt) → ReadsSoFar old tokens rs a → ReadsSoFar old (tokens ++ token_of kind (spelling kind t) ∷ []) rs b
unfolding step steps_of nothing run after_step holds_joint token_of
literal_so_far kind span t old tokens rs a b n p e h =
    laid_so_far (λ rest. step (Guard t) (step (Token kind (StrLit span t)) rest)) old tokens (token_of kind (spelling kind t) ∷ []) rs a b (or_from (is_same_line kind) false n refl)
    (inl refl) (λ r. literal_lays kind span t a p r) e h

pub string_so_far : (t old : List ℕ) (tokens : List lexical.Token) (rs : List Remark) (a b : State) → is_utf8 t ≡ true → is_string (chars t) ≡ true → Emits (string t) a b (Ok tt) → ReadsSoFar old tokens rs a → ReadsSoFar old (tokens ++ token_of Str (chars t) ∷ []) rs b
unfolding string spelling is_same_line
string_so_far t old tokens rs a b u s e h = literal_so_far Str dummy_span t old tokens rs a b refl (spelled_string t (IsUtf8-from_is_utf8 t u) s) e h

pub number_name_so_far : (span : Span) (t old : List ℕ) (tokens : List lexical.Token) (rs : List Remark) (a b : State) → is_utf8 t ≡ true → is_name (chars t) ≡ true → Emits (number_name span t) a b (Ok tt) → ReadsSoFar old tokens rs a → ReadsSoFar old (tokens ++ token_of Name (chars t) ∷ []) rs b
unfolding number_name spelling is_same_line
number_name_so_far span t old tokens rs a b u s e h = literal_so_far Name span t old tokens rs a b refl (name_spelled t u s) e h

pub big_integer_so_far : (span : Span) (t old : List ℕ) (tokens : List lexical.Token) (rs : List Remark) (a b : State) → is_utf8 t ≡ true → is_big_integer (chars t) ≡ true → Emits (big_integer span t) a b (Ok tt) → ReadsSoFar old tokens rs a → ReadsSoFar old (tokens ++ token_of BigIntToken (chars t) ∷ []) rs b
unfolding big_integer spelling is_same_line
big_integer_so_far span t old tokens rs a b u s e h = literal_so_far BigIntToken span t old tokens rs a b refl (spelled_big_integer t (IsUtf8-from_is_utf8 t u) s) e h

-- ---- tokens by several calls

pub regex_so_far : (exp flags old : List ℕ) (tokens : List lexical.Token) (rs : List Remark) (a b : State) → is_utf8 exp ≡ true → is_utf8 flags ≡ true → is_regex (phrases.regex_text (chars exp) (chars flags)) ≡ true → Emits (regex exp flags) a b (Ok tt) → ReadsSoFar old tokens rs a → ReadsSoFar old (tokens ++ token_of Regex (phrases.regex_text (chars exp) (chars flags)) ∷ []) rs b
unfolding regex step steps_of nothing after_step taken_in taken_by remarks_of holds_joint token_of is_same_line
regex_so_far exp flags old tokens rs a b u v s e h = made_so_far (regex exp flags) old tokens (token_of Regex (phrases.regex_text (chars exp) (chars flags)) ∷ []) rs a b (writes_regex_text a.env exp flags (IsUtf8-from_is_utf8 exp u) (IsUtf8-from_is_utf8 flags v) s) refl refl e h

-- a hashbang, which stands first of all in a text
pub hashbang_so_far : (t : List ℕ) (a b : State) → IsNew a → IsAtMargin a → is_utf8 t ≡ true → is_one_line (chars t) ≡ true → Emits (hashbang t) a b (Ok tt) → ReadsSoFar a.sheet.text (token_of Hashbang (codes "#!" ++ chars t) ∷ []) [] b
unfolding hashbang hashbang_steps line_end step steps_of nothing after_step holds_joint token_of is_same_line
hashbang_so_far t a b n m u o e = laid_so_far (hashbang t) a.sheet.text [] (token_of Hashbang (codes "#!" ++ chars t) ∷ []) [] a b refl (enters_new false a n (λ k. m)) (λ r. calls_lay t a (IsUtf8-from_is_utf8 t u) o r) e (new_so_far a n)

-- ---- numbers, which may have a sign

signed_case : (minus : Bool) (c : ℕ) (cs : List ℕ) → (c == 45) ≡ minus → is_utf8 (cond minus cs (c ∷ cs)) ≡ true → is_number (chars (cond minus cs (c ∷ cs))) ≡ true → SignedToken Number (value_of Number (chars (cond minus cs (c ∷ cs)))) minus (c ∷ cs)
unfolding sign_text spelling
signed_case true c cs e u s = record { size = cs; parts = ap (λ z. z ∷ cs) (eqb-true c 45 e); spelled = spelled_number cs (IsUtf8-from_is_utf8 cs u) s; front = number_begins (chars cs) s; same = refl }
signed_case false c cs e u s = record { size = c ∷ cs; parts = refl; spelled = spelled_number (c ∷ cs) (IsUtf8-from_is_utf8 (c ∷ cs) u) s; front = number_begins (chars (c ∷ cs)) s; same = refl }

sized_free : (minus : Bool) (x : lexical.Token) → is_same_line x.kind ≡ false → holds_joint (cond minus (lexical.punctuator (codes "-") ∷ x ∷ []) (x ∷ [])) ≡ false
unfolding holds_joint lexical.punctuator is_same_line
sized_free true x n = or_from (is_same_line x.kind) false n refl
sized_free false x n = or_from (is_same_line x.kind) false n refl

-- what stands where the sign may be
number_case : (minus : Bool) (c : ℕ) (cs old : List ℕ) (tokens : List lexical.Token) (rs : List Remark) (a b : State) → (c == 45) ≡ minus → is_utf8 (cond minus cs (c ∷ cs)) ≡ true → is_number (chars (cond minus cs (c ∷ cs))) ≡ true → Emits (number (c ∷ cs)) a b (Ok tt) → ReadsSoFar old tokens rs a → ReadsSoFar old (tokens ++ signed_tokens Number (value_of Number (chars (cond minus cs (c ∷ cs)))) minus) rs b
unfolding number step steps_of nothing after_step taken_in taken_by remarks_of is_same_line
number_case minus c cs old tokens rs a b e u s w h =
    made_so_far (number (c ∷ cs)) old tokens (signed_tokens Number (value_of Number (chars (cond minus cs (c ∷ cs)))) minus) rs a b
    (writes_number_text a.env _ minus (c ∷ cs) (signed_case minus c cs e u s)) (sized_free minus _ refl) refl w h

pub number_so_far : (t old : List ℕ) (tokens : List lexical.Token) (rs : List Remark) (a b : State) → is_utf8 (size_of t) ≡ true → is_number (chars (size_of t)) ≡ true → Emits (number t) a b (Ok tt) → ReadsSoFar old tokens rs a → ReadsSoFar old (tokens ++ tokens_of_number t) rs b
unfolding size_of tokens_of_number token_of
number_so_far [] old tokens rs a b u s w h = absurd (some_number (number_numeric [] (sym (ap is_number chars-nil) ∙ s)))
number_so_far (c ∷ cs) old tokens rs a b u s w h =
    let P : Bool → Type 0 = λ m. is_utf8 (cond m cs (c ∷ cs)) ≡ true → is_number (chars (cond m cs (c ∷ cs))) ≡ true → ReadsSoFar old (tokens ++ cond m (lexical.punctuator (codes "-") ∷ token_of Number (chars cs) ∷ []) (token_of Number (chars (c ∷ cs)) ∷ [])) rs b in
    elim (cases_Bool (c == 45)) [
      | inl e ↦ subst P (sym e) (λ v t. number_case true c cs old tokens rs a b e v t w h) u s
      | inr e ↦ subst P (sym e) (λ v t. number_case false c cs old tokens rs a b e v t w h) u s
    ]

-- ---- a number with a dot of its own

dotted_case : (minus : Bool) (c : ℕ) (cs old : List ℕ) (tokens : List lexical.Token) (rs : List Remark) (a b : State) → (c == 45) ≡ minus → takes_dot (chars (size_of (c ∷ cs))) ≡ true → is_utf8 (cond minus cs (c ∷ cs)) ≡ true → is_number (chars (cond minus cs (c ∷ cs))) ≡ true → Emits (dotted_number (c ∷ cs)) a b (Ok tt) → ReadsSoFar old tokens rs a → ReadsSoFar old (tokens ++ signed_tokens Number (value_of Number (chars (cond minus cs (c ∷ cs)))) minus) rs b
unfolding dotted_number step steps_of nothing after_step taken_in taken_by remarks_of is_same_line
dotted_case minus c cs old tokens rs a b e t u s w h =
    made_so_far (dotted_number (c ∷ cs)) old tokens (signed_tokens Number (value_of Number (chars (cond minus cs (c ∷ cs)))) minus) rs a b
    (writes_dotted_text a.env _ minus (c ∷ cs) (signed_case minus c cs e u s) t) (sized_free minus _ refl) refl w h

pub dotted_so_far : (t old : List ℕ) (tokens : List lexical.Token) (rs : List Remark) (a b : State) → takes_dot (chars (size_of t)) ≡ true → is_utf8 (size_of t) ≡ true → is_number (chars (size_of t)) ≡ true → Emits (dotted_number t) a b (Ok tt) → ReadsSoFar old tokens rs a → ReadsSoFar old (tokens ++ tokens_of_number t) rs b
unfolding size_of tokens_of_number token_of
dotted_so_far [] old tokens rs a b t u s w h = absurd (some_number (number_numeric [] (sym (ap is_number chars-nil) ∙ s)))
dotted_so_far (c ∷ cs) old tokens rs a b t u s w h =
    let P : Bool → Type 0 = λ m. is_utf8 (cond m cs (c ∷ cs)) ≡ true → is_number (chars (cond m cs (c ∷ cs))) ≡ true → ReadsSoFar old (tokens ++ cond m (lexical.punctuator (codes "-") ∷ token_of Number (chars cs) ∷ []) (token_of Number (chars (c ∷ cs)) ∷ [])) rs b in
    elim (cases_Bool (c == 45)) [
      | inl e ↦ subst P (sym e) (λ v n. dotted_case true c cs old tokens rs a b e t v n w h) u s
      | inr e ↦ subst P (sym e) (λ v n. dotted_case false c cs old tokens rs a b e t v n w h) u s
    ]

-- ---- a big integer by its digits, which may have a sign

sign_parts : (minus : Bool) (c : ℕ) (cs : List ℕ) → (c == 45) ≡ minus → c ∷ cs ≡ sign_text minus ++ cond minus cs (c ∷ cs)
unfolding sign_text
sign_parts true c cs e = ap (λ z. z ∷ cs) (eqb-true c 45 e)
sign_parts false c cs e = refl

digits_case : (minus : Bool) (span : Span) (c : ℕ) (cs old : List ℕ) (tokens : List lexical.Token) (rs : List Remark) (a b : State) → (c == 45) ≡ minus → is_utf8 (cond minus cs (c ∷ cs)) ≡ true → begins_digit (chars (cond minus cs (c ∷ cs))) ≡ true → is_big_integer (chars (cond minus cs (c ∷ cs)) ++ codes "n") ≡ true → Emits (big_digits span (c ∷ cs)) a b (Ok tt) → ReadsSoFar old tokens rs a → ReadsSoFar old (tokens ++ signed_tokens BigIntToken (value_of BigIntToken (chars (cond minus cs (c ∷ cs)) ++ codes "n")) minus) rs b
unfolding big_digits step steps_of nothing after_step taken_in taken_by remarks_of is_same_line
digits_case minus span c cs old tokens rs a b e u f s w h =
    made_so_far (big_digits span (c ∷ cs)) old tokens (signed_tokens BigIntToken (value_of BigIntToken (chars (cond minus cs (c ∷ cs)) ++ codes "n")) minus) rs a b
    (writes_digits_text a.env span minus (cond minus cs (c ∷ cs)) (c ∷ cs) (sign_parts minus c cs e) (IsUtf8-from_is_utf8 _ u) f s) (sized_free minus _ refl) refl w h

pub digits_so_far : (span : Span) (t old : List ℕ) (tokens : List lexical.Token) (rs : List Remark) (a b : State) → is_utf8 (size_of t) ≡ true → begins_digit (chars (size_of t)) ≡ true → is_big_integer (chars (size_of t) ++ codes "n") ≡ true → Emits (big_digits span t) a b (Ok tt) → ReadsSoFar old tokens rs a → ReadsSoFar old (tokens ++ tokens_of_digits t) rs b
unfolding size_of tokens_of_digits token_of begins_digit
digits_so_far span [] old tokens rs a b u f s w h = absurd (true≢false (sym (sym (ap begins_digit chars-nil) ∙ f)))
digits_so_far span (c ∷ cs) old tokens rs a b u f s w h =
    let P : Bool → Type 0 = λ m. is_utf8 (cond m cs (c ∷ cs)) ≡ true → begins_digit (chars (cond m cs (c ∷ cs))) ≡ true → is_big_integer (chars (cond m cs (c ∷ cs)) ++ codes "n") ≡ true → ReadsSoFar old (tokens ++ cond m (lexical.punctuator (codes "-") ∷ token_of BigIntToken (chars cs ++ codes "n") ∷ []) (token_of BigIntToken (chars (c ∷ cs) ++ codes "n") ∷ [])) rs b in
    elim (cases_Bool (c == 45)) [
      | inl e ↦ subst P (sym e) (λ v d n. digits_case true span c cs old tokens rs a b e v d n w h) u f s
      | inr e ↦ subst P (sym e) (λ v d n. digits_case false span c cs old tokens rs a b e v d n w h) u f s
    ]

-- ---- the sign of a number that is a name

minus_token : token_of Punctuator (spelling Punctuator (codes "-")) ≡ lexical.punctuator (codes "-")
unfolding token_of value_of spelling lexical.punctuator
minus_token = refl

pub minus_so_far : (span : Span) (old : List ℕ) (tokens : List lexical.Token) (rs : List Remark) (a b : State) → Emits (sign true span) a b (Ok tt) → ReadsSoFar old tokens rs a → ReadsSoFar old (tokens ++ sign_tokens true) rs b
unfolding sign sign_tokens is_same_line
minus_so_far span old tokens rs a b e h = subst (λ z. ReadsSoFar old (tokens ++ z ∷ []) rs b) minus_token (literal_so_far Punctuator span (codes "-") old tokens rs a b refl minus_is_mark e h)
