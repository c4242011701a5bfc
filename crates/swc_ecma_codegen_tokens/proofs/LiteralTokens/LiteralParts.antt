-- What the parts of literals write.
use Rattle.std.proofs.Common.{◌≡◌, ℕ, Bool, true, false, not, ◌&&◌, ◌||◌, nat_lt, List, [], ◌∷◌, ◌++◌, codes, refl, sym, ap, ◌∙◌, subst, append_assoc, append-nil, arith, None}
use Rattle.std.specs.Str.{chars}
use Rattle.std.proofs.lemmas.Bool.{and_from, and_parts, or_left, not_from_false, false_from_ne_true, true≢false}
use Rattle.std.proofs.lemmas.List.Folds.{list_all-append}
use Rattle.swc_ecma_codegen_common.specs.declared.positions.Span.{Span}
use Rattle.swc_ecma_codegen_spans.specs.Spans.{dummy_span}
use Rattle.swc_ecma_codegen_grammar.specs.declared.kinds.Kind.{Kind}
use Rattle.swc_ecma_codegen_grammar.specs.declared.kinds.Kind.TheVariants.{Name, Number, BigInt, Str, Regex}
use Rattle.swc_ecma_codegen_grammar.specs.Tokens as lexical
use Rattle.swc_ecma_codegen_grammar.specs.Tokens.{token_of, value_of, has_shape}
use Rattle.swc_ecma_codegen_grammar.specs.Numbers.{is_numeric, is_big_integer, has_suffix}
use Rattle.swc_ecma_codegen_grammar.specs.StringValues.{string_value}
use Rattle.swc_ecma_codegen_grammar.specs.GapRules.{PreviousToken, fuses}
use Rattle.swc_ecma_codegen_grammar.specs.Parts.{tokens_of}
use Rattle.swc_ecma_codegen_text_writer.proofs.Stays.{settled_stays}
use Rattle.swc_ecma_codegen_text_writer.specs.Sheet as calls
use Rattle.swc_ecma_codegen_text_writer.specs.Sheet.{Sheet, Lit, StrLit, Punct, effect, written, literal_written, settled, before_punct, is_ending, fills_lines}
use Rattle.swc_ecma_codegen_literals.specs.AsciiNames.{is_ascii_text}
use Rattle.swc_ecma_codegen_literals.specs.ValidNames.{has_byte}
use Rattle.swc_ecma_codegen_tokens.specs.Ascii.{is_strict, is_kept_directive, is_tag_kind, is_kept_call, is_kept, is_other, is_kept_piece, is_other_piece, is_kept_end, is_other_end, is_other_value, keeps_other, are_ascii, are_ascii_or_kept, keeps_tokens}
use Rattle.swc_ecma_codegen_tokens.specs.Run.{maps_after, after_step, Env, State, Step, Guard, Token, Plain, Ends, put, run, step, spelling, text_of, after_tokens, after_plain, makes_text}
use Rattle.swc_ecma_codegen_tokens.specs.Scripts.{is_string_call}
use Rattle.swc_ecma_codegen_tokens.specs.Starts.{start_class}
use Rattle.swc_ecma_codegen_tokens.specs.Words.{start_of, leading_comments, commit_pending_semi}
use Rattle.swc_ecma_codegen_tokens.specs.Literals as words
use Rattle.swc_ecma_codegen_tokens.specs.Written.{AtRest, holds_one}
use Rattle.swc_ecma_codegen_tokens.proofs.Emission.PendingSemi.{settled_none, unheld_settled}
use Rattle.swc_ecma_codegen_tokens.proofs.Emission.StepAscii.{HandsOverAscii, has_string, holds_string, hands_ascii}
use Rattle.swc_ecma_codegen_tokens.proofs.Emission.Levels.{levels, rise}
use Rattle.swc_ecma_codegen_tokens.proofs.LiteralTokens.NumeralTexts.{numeric_ascii, ascii_by_chars}
use Rattle.swc_ecma_codegen_tokens.proofs.Gaps.Starting.{same_beginning, sample}
use Rattle.swc_ecma_codegen_tokens.proofs.Reading.Laid.{Lays, lays_then}
use Rattle.swc_ecma_codegen_tokens.proofs.Gaps.Written.{lays_settled, settle, settle_rest}
use Rattle.swc_ecma_codegen_tokens.proofs.Reading.TokenLays.{lays_guard, after_guard, Spelled}
use Rattle.swc_ecma_codegen_tokens.proofs.Reading.Texts.{Adds, adds_written, adds_literal, adds_more, owns, SpelledAs, spelled_one, lays_texts}
use Rattle.swc_ecma_codegen_tokens.proofs.Reading.Printed.{takes_none, makes_silently, chain, no_text, Makes, Writes, writes_then, writes_step, writes_two, writes_position, writes_commit, Fills}
use Rattle.swc_ecma_codegen_tokens.proofs.Commenting.CommentPrints.{writes_leading}

-- ---- what stands before a literal

pub writes_guard : (env : Env) (t : List ℕ) → Fills env (step (Guard t))
unfolding makes_text levels are_ascii has_string is_string_call takes_none
writes_guard env t = writes_step env (Guard t) [] refl (λ s r. lays_guard t s r) (omega arith) (hands_ascii env _ [] refl no_text)

pub writes_begun : (env : Env) (span : Span) (t : List ℕ) → Fills env (words.begun span t)
unfolding words.begun
writes_begun env span t = writes_then env (leading_comments span.lo) _ [] [] (writes_leading env span.lo) (writes_then env (step (Guard t)) (start_of span) [] [] (writes_guard env t) (writes_position env span.lo))

pub writes_settled_begun : (env : Env) (span : Span) (t : List ℕ) → Fills env (words.settled_begun span t)
unfolding words.settled_begun
writes_settled_begun env span t = writes_then env commit_pending_semi (words.begun span t) [] [] (writes_commit env) (writes_begun env span t)

-- ---- a text of tokens, by calls behind a guard

-- what begins alike fuses alike
pub alike_fuses : (k : PreviousToken) (t u : List ℕ) → start_class t ≡ start_class u → fuses k u ≡ false → fuses k t ≡ false
alike_fuses k t u e f = same_beginning k t ∙ ap (λ z. fuses k (sample z)) e ∙ sym (same_beginning k u) ∙ f

pub lays_guarded : (xs : List (Kind × List ℕ)) (t g : List ℕ) (s b : State) → SpelledAs xs t → start_class (chars t) ≡ start_class (chars g) → AtRest s → (fills_lines (settled (put (Guard g) s).sheet).lines ≡ false → Adds t (settled (put (Guard g) s).sheet) b.sheet) → b.last ≡ after_tokens xs (put (Guard g) s).last → Lays (tokens_of (owns xs)) s b
lays_guarded xs t g s b p e r h last =
    let there : State = put (Guard g) s in
    let before = lays_guard g s r in
    lays_then [] (tokens_of (owns xs)) s there b before
    (lays_settled there b _ before.rest (lays_texts xs t (settle there) b p (alike_fuses there.last (chars t) (chars g) e (after_guard g s)) (settled_none there.sheet) (settle_rest there before.rest) (h ((settled_stays there.sheet).fills ∙ before.rest.flowing)) last))

literal_adds : (span : Span) (t : List ℕ) (s : Sheet) → (t ≡ [] → ⊥) → fills_lines s.lines ≡ false → Adds t s (literal_written span t s)
literal_adds span [] s some n = absurd (some refl)
literal_adds span (c ∷ cs) s some n = adds_literal span c cs s n

-- ---- one token by one call

either_none : (b : Bool) → (b || false) ≡ true → b ≡ true
either_none true h = refl
either_none false h = h

pub literal_lays : (kind : Kind) (span : Span) (t : List ℕ) (s : State) → Spelled kind t → AtRest s → Lays (token_of kind (spelling kind t) ∷ []) s (put (Token kind (StrLit span t)) (put (Guard t) s))
unfolding put effect text_of owns tokens_of after_tokens
literal_lays kind span t s p r = lays_guarded ((kind, t) ∷ []) t t s _ (spelled_one kind t p) refl r (λ n. literal_adds span t (settled (put (Guard t) s).sheet) p.some n) refl

pub literal_handed : (env : Env) (kind : Kind) (span : Span) (t : List ℕ) → Spelled kind t → HandsOverAscii env (Guard t ∷ Token kind (StrLit span t) ∷ []) (token_of kind (spelling kind t) ∷ []) → Writes env (λ rest. step (Guard t) (step (Token kind (StrLit span t)) rest)) (token_of kind (spelling kind t) ∷ [])
unfolding makes_text levels rise takes_none
literal_handed env kind span t p a = writes_two env (Guard t) (Token kind (StrLit span t)) _ refl (λ s r. literal_lays kind span t s p r) (omega arith) a

-- in ASCII
pub literal_token : (env : Env) (kind : Kind) (span : Span) (t : List ℕ) → Spelled kind t → is_ascii_text t ≡ true → Writes env (λ rest. step (Guard t) (step (Token kind (StrLit span t)) rest)) (token_of kind (spelling kind t) ∷ [])
unfolding are_ascii has_string is_string_call holds_string text_of token_of
literal_token env kind span t p a = literal_handed env kind span t p (hands_ascii env _ _ (and_from (is_ascii_text t) true a refl) (λ s. s))

-- a string, which is in ASCII where the settings ask for that, save a directive that stands as it is
string_handed : (env : Env) (t : List ℕ) → (env.config.ascii_only ≡ true → (is_ascii_text t || is_kept_directive t) ≡ true) → HandsOverAscii env (Guard t ∷ Token Str (StrLit dummy_span t) ∷ []) (token_of Str (spelling Str t) ∷ [])
unfolding are_ascii_or_kept has_string is_string_call holds_string keeps_other is_other is_kept is_tag_kind is_kept_call is_kept_directive text_of keeps_tokens is_other_value token_of value_of spelling
string_handed env t k = record {
  ascii = λ e. and_from (is_ascii_text t || is_kept_directive t) true (k e) refl;
  keeps = λ n.
      let d = (and_parts (is_kept_directive t) (not (is_ascii_text t)) (either_none (is_kept_directive t && not (is_ascii_text t)) n)).0 in
      or_left (is_strict (string_value true (chars t))) false (and_parts (has_byte 92 t) (is_strict (string_value true (chars t))) d).1;
  strings = λ s. s;
}

pub writes_string : (env : Env) (t : List ℕ) → Spelled Str t → (env.config.ascii_only ≡ true → (is_ascii_text t || is_kept_directive t) ≡ true) → Writes env (words.string t) (token_of Str (spelling Str t) ∷ [])
unfolding words.string
writes_string env t p k = literal_handed env Str dummy_span t p (string_handed env t k)

pub writes_number_name : (env : Env) (span : Span) (t : List ℕ) → Spelled Name t → is_ascii_text t ≡ true → Writes env (words.number_name span t) (token_of Name (spelling Name t) ∷ [])
unfolding words.number_name
writes_number_name env span t p a = literal_token env Name span t p a

pub big_ascii : (t : List ℕ) → Spelled BigInt t → is_ascii_text t ≡ true
unfolding has_shape spelling is_big_integer
big_ascii t p = ascii_by_chars t p.utf8 (numeric_ascii (chars t) (and_parts (is_numeric (chars t)) (has_suffix (chars t)) p.shape).0)

pub writes_big_integer : (env : Env) (span : Span) (t : List ℕ) → Spelled BigInt t → Writes env (words.big_integer span t) (token_of BigInt (spelling BigInt t) ∷ [])
unfolding words.big_integer
writes_big_integer env span t p = literal_token env BigInt span t p (big_ascii t p)

-- ---- several tokens by one call

number_lays : (xs : List (Kind × List ℕ)) (t : List ℕ) (s : State) → SpelledAs xs t → (t ≡ [] → ⊥) → AtRest s → Lays (tokens_of (owns xs)) s (put (Ends xs (StrLit dummy_span t)) (put (Guard t) s))
unfolding put effect
number_lays xs t s p some r = lays_guarded xs t t s _ p refl r (λ n. literal_adds dummy_span t (settled (put (Guard t) s).sheet) some n) refl

pub writes_number : (env : Env) (t : List ℕ) → SpelledAs (words.signed Number t) t → (t ≡ [] → ⊥) → is_ascii_text t ≡ true → Writes env (words.number t) (tokens_of (owns (words.signed Number t)))
unfolding words.number makes_text levels rise are_ascii has_string is_string_call text_of takes_none
writes_number env t p some a = writes_two env (Guard t) (Ends (words.signed Number t) (StrLit dummy_span t)) _ refl (λ s r. number_lays (words.signed Number t) t s p some r) (omega arith) (hands_ascii env _ _ (and_from (is_ascii_text t) true a refl) no_text)

-- ---- one text by two calls

-- nothing is held back after a text
pub still_settled : (t : List ℕ) (a b : Sheet) → holds_one a.semicolons ≡ false → Adds t a b → settled b ≡ b
still_settled t a b o h = unheld_settled b (ap holds_one h.semicolons ∙ o)

-- a number and its dot
dotted_lays : (xs : List (Kind × List ℕ)) (t : List ℕ) (s : State) → SpelledAs xs (t ++ codes ".") → start_class (chars (t ++ codes ".")) ≡ start_class (chars t) → (t ≡ [] → ⊥) → AtRest s → Lays (tokens_of (owns xs)) s (put (Ends xs (Punct None (codes "."))) (put (Plain (StrLit dummy_span t)) (put (Guard t) s)))
unfolding put effect before_punct is_ending after_plain
dotted_lays xs t s p e some r =
    let there : State = put (Guard t) s in
    let o = settled_none there.sheet in
    let mid : Sheet = literal_written dummy_span t (settled there.sheet) in
    let h : (fills_lines (settled there.sheet).lines ≡ false) → Adds t (settled there.sheet) mid = λ n. literal_adds dummy_span t (settled there.sheet) some n in
    let k : (fills_lines (settled there.sheet).lines ≡ false) → Adds (codes ".") mid (written None (codes ".") (settled mid)) = λ n. subst (λ z. Adds (codes ".") mid (written None (codes ".") z)) (sym (still_settled t (settled there.sheet) mid o (h n))) (adds_written None 46 [] mid ((h n).fills ∙ n)) in
    lays_guarded xs (t ++ codes ".") t s _ p e r (λ n. adds_more t (codes ".") (settled there.sheet) mid _ (h n) (k n)) refl

-- the digits of a big integer, and `n`
big_lays : (xs : List (Kind × List ℕ)) (span : Span) (t : List ℕ) (s : State) → SpelledAs xs (t ++ codes "n") → start_class (chars (t ++ codes "n")) ≡ start_class (chars t) → (t ≡ [] → ⊥) → AtRest s → Lays (tokens_of (owns xs)) s (put (Ends xs (Lit span (codes "n"))) (put (Plain (Lit span t)) (put (Guard t) s)))
unfolding put effect after_plain
big_lays xs span t s p e some r =
    let there : State = put (Guard t) s in
    let o = settled_none there.sheet in
    let mid : Sheet = literal_written span t (settled there.sheet) in
    let h : (fills_lines (settled there.sheet).lines ≡ false) → Adds t (settled there.sheet) mid = λ n. literal_adds span t (settled there.sheet) some n in
    let k : (fills_lines (settled there.sheet).lines ≡ false) → Adds (codes "n") mid (literal_written span (codes "n") (settled mid)) = λ n. subst (λ z. Adds (codes "n") mid (literal_written span (codes "n") z)) (sym (still_settled t (settled there.sheet) mid o (h n))) (adds_literal span 110 [] mid ((h n).fills ∙ n)) in
    lays_guarded xs (t ++ codes "n") t s _ p e r (λ n. adds_more t (codes "n") (settled there.sheet) mid _ (h n) (k n)) refl

-- three steps
writes_three : (env : Env) (x y z : Step) (ts : List lexical.Token) → takes_none (x ∷ y ∷ z ∷ []) ≡ true → ((s : State) → AtRest s → Lays ts s (put z (put y (put x s)))) → levels (x ∷ y ∷ z ∷ []) ≡ 0 → HandsOverAscii env (x ∷ y ∷ z ∷ []) ts → Makes env (λ rest. step x (step y (step z rest))) ts (makes_text (x ∷ y ∷ z ∷ []))
unfolding step chain run maps_after
writes_three env x y z ts n h k a = makes_silently env (λ rest. step x (step y (step z rest))) (x ∷ y ∷ z ∷ []) ts n (λ maps rest. refl) h (λ e. e) (omega (arith, k)) a

pub writes_dotted : (env : Env) (t : List ℕ) → SpelledAs (words.signed Number (t ++ codes ".")) (t ++ codes ".") → start_class (chars (t ++ codes ".")) ≡ start_class (chars t) → (t ≡ [] → ⊥) → is_ascii_text t ≡ true → Writes env (words.dotted_number t) (tokens_of (owns (words.signed Number (t ++ codes "."))))
unfolding words.dotted_number makes_text levels rise are_ascii has_string is_string_call text_of takes_none
writes_dotted env t p e some a = writes_three env (Guard t) (Plain (StrLit dummy_span t)) (Ends (words.signed Number (t ++ codes ".")) (Punct None (codes "."))) _ refl (λ s r. dotted_lays (words.signed Number (t ++ codes ".")) t s p e some r) refl (hands_ascii env _ _ (and_from (is_ascii_text t) true a refl) no_text)

pub writes_big_digits : (env : Env) (span : Span) (t : List ℕ) → SpelledAs (words.signed BigInt (t ++ codes "n")) (t ++ codes "n") → start_class (chars (t ++ codes "n")) ≡ start_class (chars t) → (t ≡ [] → ⊥) → is_ascii_text t ≡ true → Writes env (words.big_digits span t) (tokens_of (owns (words.signed BigInt (t ++ codes "n"))))
unfolding words.big_digits makes_text levels rise are_ascii has_string is_string_call text_of takes_none
writes_big_digits env span t p e some a = writes_three env (Guard t) (Plain (Lit span t)) (Ends (words.signed BigInt (t ++ codes "n")) (Lit span (codes "n"))) _ refl (λ s r. big_lays (words.signed BigInt (t ++ codes "n")) span t s p e some r) refl (hands_ascii env _ _ (and_from (is_ascii_text t) true a refl) no_text)

-- ---- a regular expression

-- a text more, or none
after_adds : (t u : List ℕ) (a b : Sheet) → fills_lines a.lines ≡ false → Adds t a b → Adds (t ++ u) a (written None u b)
unfolding written
after_adds t [] a b n h = subst (λ z. Adds z a b) (sym (append-nil t)) h
after_adds t (c ∷ cs) a b n h = adds_more t (c ∷ cs) a b _ h (adds_written None c cs b (h.fills ∙ n))

pub more_adds : (t u : List ℕ) (a b : Sheet) → holds_one a.semicolons ≡ false → fills_lines a.lines ≡ false → Adds t a b → Adds (t ++ u) a (written None u (settled b))
more_adds t u a b o n h = subst (λ z. Adds (t ++ u) a (written None u z)) (sym (still_settled t a b o h)) (after_adds t u a b n h)

slash : List ℕ
slash = codes "/"

joined : (exp flags : List ℕ) → ((slash ++ exp) ++ slash) ++ flags ≡ words.regex_text exp flags
unfolding slash
joined exp flags = append_assoc (slash ++ exp) slash flags ∙ append_assoc slash exp (slash ++ flags)

regex_calls : List ℕ → List ℕ → State → State
regex_calls exp flags s =
    put (Ends ((Regex, words.regex_text exp flags) ∷ []) (calls.Str flags)) (put (Plain (Punct None (codes "/"))) (put (Plain (calls.Str exp)) (put (Plain (Punct None (codes "/"))) s)))

regex_adds : (exp flags : List ℕ) (s : State) → fills_lines (settled s.sheet).lines ≡ false → Adds (words.regex_text exp flags) (settled s.sheet) (regex_calls exp flags s).sheet
unfolding regex_calls slash put effect before_punct is_ending
regex_adds exp flags s n =
    let a : Sheet = settled s.sheet in
    let o = settled_none s.sheet in
    let first : Adds slash a (written None slash a) = adds_written None 47 [] a n in
    let second = more_adds slash exp a (written None slash a) o n first in
    let third = more_adds (slash ++ exp) slash a _ o n second in
    subst (λ z. Adds z a (regex_calls exp flags s).sheet) (joined exp flags) (more_adds ((slash ++ exp) ++ slash) flags a _ o n third)

regex_lays : (exp flags : List ℕ) (s : State) → Spelled Regex (words.regex_text exp flags) → start_class (chars (words.regex_text exp flags)) ≡ start_class (chars (codes "/")) → AtRest s → Lays (token_of Regex (spelling Regex (words.regex_text exp flags)) ∷ []) s (regex_calls exp flags (put (Guard (codes "/")) s))
unfolding regex_calls put after_plain owns tokens_of
regex_lays exp flags s p e r = lays_guarded ((Regex, words.regex_text exp flags) ∷ []) (words.regex_text exp flags) (codes "/") s _ (spelled_one Regex _ p) e r (λ n. regex_adds exp flags (put (Guard (codes "/")) s) n) refl

-- what stands between the slashes, and the flags, stand as they are
regex_steps : List ℕ → List ℕ → List Step
regex_steps exp flags = Guard (codes "/") ∷ Plain (Punct None (codes "/")) ∷ Plain (calls.Str exp) ∷ Plain (Punct None (codes "/")) ∷ Ends ((Regex, words.regex_text exp flags) ∷ []) (calls.Str flags) ∷ []

both_kept : (a b : Bool) → ((a || true) && ((b || true) && true)) ≡ true
both_kept true true = refl
both_kept true false = refl
both_kept false true = refl
both_kept false false = refl

parts_ascii : (exp flags : List ℕ) → is_ascii_text (words.regex_text exp flags) ≡ true → (is_ascii_text exp ≡ true) × (is_ascii_text flags ≡ true)
parts_ascii exp flags a =
    let low : ℕ → Bool = λ c. nat_lt c 128 in
    let p = and_parts (is_ascii_text exp) (is_ascii_text (codes "/" ++ flags)) (sym (list_all-append low exp (codes "/" ++ flags)) ∙ a) in
    (p.0, p.1)

either_other : (a b : Bool) → (not a || (not b || false)) ≡ true → a ≡ true → b ≡ true → ⊥
either_other true true h e f = true≢false (sym h)
either_other true false h e f = true≢false (sym f)
either_other false b h e f = true≢false (sym e)

regex_handed : (env : Env) (exp flags : List ℕ) → Spelled Regex (words.regex_text exp flags) → HandsOverAscii env (regex_steps exp flags) (token_of Regex (spelling Regex (words.regex_text exp flags)) ∷ [])
unfolding regex_steps are_ascii_or_kept has_string is_string_call keeps_other is_other_piece is_kept_piece is_other_end is_kept_end text_of keeps_tokens is_other_value token_of value_of spelling
regex_handed env exp flags p = record {
  ascii = λ e. both_kept (is_ascii_text exp) (is_ascii_text flags);
  keeps = λ n.
      let text : List ℕ = words.regex_text exp flags in
      or_left (not (is_ascii_text (chars text))) false (not_from_false (is_ascii_text (chars text)) (false_from_ne_true (is_ascii_text (chars text)) (λ a.
      let q = parts_ascii exp flags (ascii_by_chars text p.utf8 a) in either_other (is_ascii_text exp) (is_ascii_text flags) n q.0 q.1)));
  strings = no_text;
}

pub writes_regex : (env : Env) (exp flags : List ℕ) → Spelled Regex (words.regex_text exp flags) → start_class (chars (words.regex_text exp flags)) ≡ start_class (chars (codes "/")) → Writes env (words.regex exp flags) (token_of Regex (spelling Regex (words.regex_text exp flags)) ∷ [])
unfolding words.regex regex_calls regex_steps step chain run makes_text levels rise takes_none maps_after after_step
writes_regex env exp flags p e = makes_silently env (words.regex exp flags) (regex_steps exp flags) _ refl (λ maps rest. refl) (λ s r. regex_lays exp flags s p e r) (λ h. h) (omega (arith)) (regex_handed env exp flags p)
