-- What is written of `true`, `null` and a regular expression is what it reads as.
use Rattle.std.proofs.Common.{◌≡◌, ℕ, Bool, true, false, List, [], ◌∷◌, ◌++◌, codes, Some, None, refl, sym, ap, ◌∙◌, subst, arith, string_bytes}
use Rattle.std.specs.Str.{chars, is_utf8, IsUtf8}
use Rattle.std.proofs.lemmas.Bool.{and_parts}
use Rattle.std.proofs.lemmas.Str.{chars-append, IsUtf8-append, IsUtf8-from_is_utf8, IsUtf8-string_bytes}
use Rattle.swc_ecma_codegen_tree.specs.declared.lits.Bool as tree_bool
use Rattle.swc_ecma_codegen_tree.specs.declared.lits.Null.{Null}
use Rattle.swc_ecma_codegen_tree.specs.declared.lits.Regex.{Regex}
use Rattle.swc_ecma_codegen_grammar.specs.declared.kinds.Kind.TheVariants as kinds
use Rattle.swc_ecma_codegen_grammar.specs.Chars.{is_start, is_part, is_letter, is_digit}
use Rattle.swc_ecma_codegen_grammar.specs.LitPhrases as phrases
use Rattle.swc_ecma_codegen_grammar.specs.LitPhrases.{is_regex_of, characters}
use Rattle.swc_ecma_codegen_grammar.specs.Names.{is_word, all_part}
use Rattle.swc_ecma_codegen_grammar.specs.RegularExpressions.{is_regex}
use Rattle.swc_ecma_codegen_grammar.specs.Tokens.{token_of}
use Rattle.swc_ecma_codegen_tokens.specs.Lits.{bool_text, bool_lit, bool_node, null_lit, regex_lit}
use Rattle.swc_ecma_codegen_tokens.specs.Literals as words
use Rattle.swc_ecma_codegen_tokens.specs.Run.{Env, spelling}
use Rattle.swc_ecma_codegen_tokens.specs.Scripts.{is_str}
use Rattle.swc_ecma_codegen_tokens.specs.Starts.{start_class}
use Rattle.swc_ecma_codegen_tokens.specs.Written.{IsWord}
use Rattle.swc_ecma_codegen_tokens.proofs.LiteralTokens.LitTexts.{spelled_regex}
use Rattle.swc_ecma_codegen_tokens.proofs.LiteralTokens.LiteralParts.{writes_regex}
use Rattle.swc_ecma_codegen_tokens.proofs.Reading.Phrased.{Prints, after, prints_keyword, prints_one, prints_where}
use Rattle.swc_ecma_codegen_tokens.proofs.Reading.Printed.{Writes}
use Rattle.swc_ecma_codegen_tokens.proofs.Commenting.CommentPrints.{writes_leading}
use Rattle.swc_ecma_codegen_tokens.proofs.Gaps.Starting.{plain_class}

-- ---- `true`, `false` and `null`

true_is_word : IsWord (codes "true")
unfolding is_word is_start is_part is_letter is_digit all_part chars is_utf8 lib.Utf8.encode
true_is_word = record { utf8 = refl; ascii = refl; shape = refl }

false_is_word : IsWord (codes "false")
unfolding is_word is_start is_part is_letter is_digit all_part chars is_utf8 lib.Utf8.encode
false_is_word = record { utf8 = refl; ascii = refl; shape = refl }

null_is_word : IsWord (codes "null")
unfolding is_word is_start is_part is_letter is_digit all_part chars is_utf8 lib.Utf8.encode
null_is_word = record { utf8 = refl; ascii = refl; shape = refl }

pub bool_is_word : (b : Bool) → IsWord (bool_text b)
unfolding bool_text
bool_is_word true = true_is_word
bool_is_word false = false_is_word

pub prints_bool : (env : Env) (n : tree_bool.Bool) → Prints env (bool_lit n) (phrases.bool_lit n)
unfolding bool_lit bool_text phrases.bool_lit
prints_bool env n = prints_keyword env None (bool_text n.value) (bool_is_word n.value)

-- with the comments before it
pub prints_bool_node : (env : Env) (n : tree_bool.Bool) → Prints env (bool_node n) (phrases.bool_lit n)
unfolding bool_node bool_text phrases.bool_lit
prints_bool_node env n = after (writes_leading env n.span.lo) (prints_keyword env (Some n.span) (bool_text n.value) (bool_is_word n.value))

pub prints_null : (env : Env) (n : Null) → Prints env (null_lit n) (phrases.null_lit n)
unfolding null_lit phrases.null_lit
prints_null env n = prints_keyword env None (codes "null") null_is_word

-- ---- regular expressions

slash_utf8 : IsUtf8 (codes "/")
unfolding chars is_utf8 lib.Utf8.encode
slash_utf8 = IsUtf8-from_is_utf8 (codes "/") refl

slash_chars : chars (codes "/") ≡ codes "/"
unfolding chars lib.Utf8.encode
slash_chars = refl

after_slash : (t : List ℕ) → chars (codes "/" ++ t) ≡ codes "/" ++ chars t
after_slash t = chars-append (codes "/") t slash_utf8 ∙ ap (λ z. z ++ chars t) slash_chars

regex_chars : (exp flags : List ℕ) → IsUtf8 exp → chars (words.regex_text exp flags) ≡ phrases.regex_text (chars exp) (chars flags)
unfolding phrases.regex_text
regex_chars exp flags u =
    after_slash (exp ++ (codes "/" ++ flags))
    ∙ ap (λ z. codes "/" ++ z) (chars-append exp (codes "/" ++ flags) u ∙ ap (λ z. chars exp ++ z) (after_slash flags))

regex_utf8 : (exp flags : List ℕ) → IsUtf8 exp → IsUtf8 flags → IsUtf8 (words.regex_text exp flags)
regex_utf8 exp flags u v = IsUtf8-append (codes "/") _ slash_utf8 (IsUtf8-append exp _ u (IsUtf8-append (codes "/") flags slash_utf8 v))

-- it begins with a slash, and what follows doesn't matter
slash_class : (t : List ℕ) → start_class (chars (codes "/" ++ t)) ≡ start_class (chars (codes "/"))
slash_class t = ap start_class (after_slash t) ∙ plain_class 47 (chars t) (λ e. omega (arith, e)) (λ e. omega (arith, e)) ∙ sym (plain_class 47 [] (λ e. omega (arith, e)) (λ e. omega (arith, e))) ∙ sym (ap start_class slash_chars)

pub writes_regex_text : (env : Env) (exp flags : List ℕ) → IsUtf8 exp → IsUtf8 flags → is_regex (phrases.regex_text (chars exp) (chars flags)) ≡ true → Writes env (words.regex exp flags) (token_of kinds.Regex (phrases.regex_text (chars exp) (chars flags)) ∷ [])
unfolding spelling
writes_regex_text env exp flags u v h =
    let same = regex_chars exp flags u in
    subst (λ z. Writes env (words.regex exp flags) (token_of kinds.Regex z ∷ [])) same
    (writes_regex env exp flags (spelled_regex (words.regex_text exp flags) (regex_utf8 exp flags u v) (ap is_regex same ∙ h)) (slash_class (exp ++ (codes "/" ++ flags))))

pub prints_regex : (env : Env) (n : Regex) → Prints env (regex_lit n) (phrases.regex n)
unfolding regex_lit phrases.regex is_regex_of token_of is_str
prints_regex env n =
    prints_where (is_regex_of (characters n.exp) (characters n.flags)) (λ w.
    let p = and_parts (is_regex (phrases.regex_text (characters n.exp) [])) (is_regex (phrases.regex_text (characters n.exp) (characters n.flags))) w in
    prints_one env (regex_lit n) (token_of kinds.Regex (phrases.regex_text (characters n.exp) (characters n.flags)))
    (writes_regex_text env (string_bytes n.exp) (string_bytes n.flags) (IsUtf8-string_bytes n.exp) (IsUtf8-string_bytes n.flags) p.1) refl)
