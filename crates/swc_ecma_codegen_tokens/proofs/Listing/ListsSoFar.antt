-- What the pieces of lists add to the tokens so far: a delimiter and a trailing comma, and nothing by blanks and line ends.
use Rattle.std.proofs.Common.{◌≡◌, ◌==◌, ◌&&◌, ◌||◌, ℕ, Bool, true, false, cond, not, List, [], ◌∷◌, ◌++◌, codes, sym, ap, ◌∙◌, subst, append-nil, Result, Ok, OnOk}
use Rattle.swc_ecma_codegen_common.specs.declared.errors.Refusal.{Refusal}
use Rattle.swc_ecma_codegen_common.specs.declared.positions.Span.{Span}
use Rattle.swc_ecma_codegen_settings.specs.declared.config.Config.{Config}
use Rattle.swc_ecma_codegen_grammar.specs.ListFormats.{allows_trailing_comma, ampersand_delimited, bar_delimited, comma_delimited, forces_trailing_comma}
use Rattle.swc_ecma_codegen_grammar.specs.SourceLines.{Lines}
use Rattle.swc_ecma_codegen_grammar.specs.Tokens as lexical
use Rattle.swc_ecma_codegen_grammar.specs.Trivia.{Remark}
use Rattle.swc_ecma_codegen_tokens.specs.Adds.{sign_tokens, comma_tokens, tokens_between, stands_with_comma, wants_comma, ends_with_comma}
use Rattle.swc_ecma_codegen_tokens.specs.Lists.{line_or_blank, blank_if, may_have_comma, source_has_comma}
use Rattle.swc_ecma_codegen_tokens.specs.Run.{State, Emits, Follows, nothing, steps_of, run}
use Rattle.swc_ecma_codegen_tokens.specs.Written.{ReadsSoFar}
use Rattle.swc_ecma_codegen_tokens.proofs.Emission.Emitting.{emits_nothing}
use Rattle.swc_ecma_codegen_tokens.proofs.Reading.SoFar.{formatting_space_so_far, formatting_line_so_far}

-- ---- between children

-- what a test picks
picked : (b : Bool) (xs ys : List lexical.Token) → b ≡ true → cond b xs ys ≡ xs
picked b xs ys h = ap (λ z. cond z xs ys) h

passed_over : (b : Bool) (xs ys : List lexical.Token) → b ≡ false → cond b xs ys ≡ ys
passed_over b xs ys h = ap (λ z. cond z xs ys) h

pub line_or_blank_so_far : (line wanted : Bool) (old : List ℕ) (tokens : List lexical.Token) (rs : List Remark) (a b : State) → Emits (line_or_blank line wanted) a b (Ok tt) → ReadsSoFar old tokens rs a → ReadsSoFar old tokens rs b
unfolding line_or_blank blank_if Follows nothing steps_of run
line_or_blank_so_far true wanted old tokens rs a b e h = formatting_line_so_far old tokens rs a b e h
line_or_blank_so_far false true old tokens rs a b e h = formatting_space_so_far old tokens rs a b e h
line_or_blank_so_far false false old tokens rs a b e h = subst (λ z. ReadsSoFar old tokens rs z) (sym (e nothing b (Ok tt) (emits_nothing b)).1) h

-- these tokens by another name
pub other_tokens : (old : List ℕ) (ts us tokens : List lexical.Token) (rs : List Remark) (s : State) → ts ≡ us → ReadsSoFar old (tokens ++ ts) rs s → ReadsSoFar old (tokens ++ us) rs s
other_tokens old ts us tokens rs s e h = subst (λ z. ReadsSoFar old (tokens ++ z) rs s) e h

pub comma_between : (format : ℕ) → comma_delimited format ≡ true → lexical.punctuator (codes ",") ∷ [] ≡ tokens_between format
unfolding tokens_between
comma_between format c = sym (picked (comma_delimited format) _ _ c)

pub bar_between : (format : ℕ) → comma_delimited format ≡ false → bar_delimited format ≡ true → lexical.punctuator (codes "|") ∷ [] ≡ tokens_between format
unfolding tokens_between
bar_between format c b = sym (passed_over (comma_delimited format) _ _ c ∙ picked (bar_delimited format) _ _ b)

pub ampersand_between : (format : ℕ) → comma_delimited format ≡ false → bar_delimited format ≡ false → ampersand_delimited format ≡ true → lexical.punctuator (codes "&") ∷ [] ≡ tokens_between format
unfolding tokens_between
ampersand_between format c b a = sym (passed_over (comma_delimited format) _ _ c ∙ passed_over (bar_delimited format) _ _ b ∙ picked (ampersand_delimited format) _ _ a)

pub none_between : (format : ℕ) → comma_delimited format ≡ false → bar_delimited format ≡ false → ampersand_delimited format ≡ false → tokens_between format ≡ []
unfolding tokens_between
none_between format c b a = passed_over (comma_delimited format) _ _ c ∙ passed_over (bar_delimited format) _ _ b ∙ passed_over (ampersand_delimited format) _ _ a

-- none
pub no_tokens : (old : List ℕ) (us tokens : List lexical.Token) (rs : List Remark) (s : State) → us ≡ [] → ReadsSoFar old tokens rs s → ReadsSoFar old (tokens ++ us) rs s
no_tokens old us tokens rs s e h = subst (λ z. ReadsSoFar old z rs s) (sym (append-nil tokens) ∙ ap (λ z. tokens ++ z) (sym e)) h

-- ---- the trailing comma

-- it is there, or not, by another test
pub adds_by : (v w : Bool) (a b : State) (r : Result (Unit {0}) Refusal) → v ≡ w → ((old : List ℕ) (tokens : List lexical.Token) (rs : List Remark) → ReadsSoFar old tokens rs a → OnOk r (ReadsSoFar old (tokens ++ comma_tokens v) rs b)) → (old : List ℕ) (tokens : List lexical.Token) (rs : List Remark) → ReadsSoFar old tokens rs a → OnOk r (ReadsSoFar old (tokens ++ comma_tokens w) rs b)
adds_by v w a b r same h = subst (λ z. (old : List ℕ) (tokens : List lexical.Token) (rs : List Remark) → ReadsSoFar old tokens rs a → OnOk r (ReadsSoFar old (tokens ++ comma_tokens z) rs b)) same h

pub comma_there : (w : Bool) → w ≡ true → lexical.punctuator (codes ",") ∷ [] ≡ comma_tokens w
unfolding comma_tokens
comma_there w e = sym (ap comma_tokens e)

pub comma_nowhere : (w : Bool) → w ≡ false → comma_tokens w ≡ []
unfolding comma_tokens
comma_nowhere w e = ap comma_tokens e

-- ---- a sign

pub sign_there : (negative : Bool) → negative ≡ true → sign_tokens true ≡ sign_tokens negative
sign_there negative e = sym (ap sign_tokens e)

pub no_sign : (negative : Bool) → negative ≡ false → sign_tokens negative ≡ []
unfolding sign_tokens
no_sign negative e = ap sign_tokens e

-- ---- whether a list has one

-- a list that stands nowhere has none
pub nowhere_none : (lines : Lines) (parent : Span) → parent.lo.0 ≡ 0 → comma_tokens (stands_with_comma lines parent) ≡ []
unfolding comma_tokens
nowhere_none lines parent e = ap (λ z. comma_tokens (not (z == 0) && source_has_comma (lines.snippet parent))) e

pub somewhere_same : (lines : Lines) (parent : Span) (w : Bool) → (parent.lo.0 == 0) ≡ false → w ≡ source_has_comma (lines.snippet parent) → w ≡ stands_with_comma lines parent
somewhere_same lines parent w h e = e ∙ sym (ap (λ z. not z && source_has_comma (lines.snippet parent)) h)

-- by the format
pub forced_wants : (lines : Lines) (format : ℕ) (parent : Span) → forces_trailing_comma format ≡ true → true ≡ wants_comma lines format parent
forced_wants lines format parent f = sym (ap (λ z. z || (allows_trailing_comma format && stands_with_comma lines parent)) f)

pub allowed_wants : (lines : Lines) (format : ℕ) (parent : Span) → forces_trailing_comma format ≡ false → allows_trailing_comma format ≡ true → stands_with_comma lines parent ≡ wants_comma lines format parent
allowed_wants lines format parent f a = sym (ap (λ z. z || (allows_trailing_comma format && stands_with_comma lines parent)) f ∙ ap (λ z. z && stands_with_comma lines parent) a)

pub none_wanted : (lines : Lines) (format : ℕ) (parent : Span) → forces_trailing_comma format ≡ false → allows_trailing_comma format ≡ false → comma_tokens (wants_comma lines format parent) ≡ []
unfolding comma_tokens
none_wanted lines format parent f a = ap (λ z. comma_tokens (z || (allows_trailing_comma format && stands_with_comma lines parent))) f ∙ ap (λ z. comma_tokens (z && stands_with_comma lines parent)) a

pub may_end : (lines : Lines) (config : Config) (format : ℕ) (parent : Span) → may_have_comma format config ≡ true → wants_comma lines format parent ≡ ends_with_comma lines config format parent
may_end lines config format parent m = sym (ap (λ z. z && wants_comma lines format parent) m)

pub none_ends : (lines : Lines) (config : Config) (format : ℕ) (parent : Span) → may_have_comma format config ≡ false → comma_tokens (ends_with_comma lines config format parent) ≡ []
unfolding comma_tokens
none_ends lines config format parent m = ap (λ z. comma_tokens (z && wants_comma lines format parent)) m
