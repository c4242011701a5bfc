-- Tokens with an allowed break right behind them: what is written of them, and what they read as.
use Rattle.std.proofs.Common.{◌≡◌, ℕ, Bool, true, false, List, [], ◌∷◌, ◌&&◌, Ok, None, arith, codes, refl, subst, append-nil, inl}
use Rattle.std.proofs.lemmas.Bool.{and_from}
use Rattle.swc_ecma_codegen_grammar.specs.declared.kinds.Kind.TheVariants.{Word, Punctuator}
use Rattle.swc_ecma_codegen_grammar.specs.LineEnds.{may_end}
use Rattle.swc_ecma_codegen_grammar.specs.Phrases as phrases
use Rattle.swc_ecma_codegen_grammar.specs.Phrases.{mark}
use Rattle.swc_ecma_codegen_grammar.specs.Texts.{is_same}
use Rattle.swc_ecma_codegen_grammar.specs.Tokens as lexical
use Rattle.swc_ecma_codegen_grammar.specs.Tokens.{token_of}
use Rattle.swc_ecma_codegen_grammar.specs.Trivia.{Remark}
use Rattle.swc_ecma_codegen_text_writer.specs.Sheet.{Operator, AllowBreak, effect}
use Rattle.swc_ecma_codegen_literals.specs.AsciiNames.{is_ascii_text}
use Rattle.swc_ecma_codegen_tokens.specs.Ascii.{are_ascii}
use Rattle.swc_ecma_codegen_tokens.specs.Run.{Env, is_bounded, State, Guard, Token, Plain, Emits, put, run, step, steps_of, nothing, spelling, text_of, after_token, after_plain, makes_text, maps_after, after_step}
use Rattle.swc_ecma_codegen_tokens.specs.Scripts.{is_string_call}
use Rattle.swc_ecma_codegen_tokens.specs.Words.{operator, word_operator, allow_break, break_where}
use Rattle.swc_ecma_codegen_tokens.specs.Written.{AtRest, Anything, ReadsSoFar, IsWord, IsMark}
use Rattle.swc_ecma_codegen_tokens.proofs.Filling.Breaks.{lays_break, lays_word_break, lays_operator_break}
use Rattle.swc_ecma_codegen_tokens.proofs.Filling.Jointless.{holds_joint}
use Rattle.swc_ecma_codegen_tokens.proofs.Reading.Laid.{LaysTo, lays_nothing, lays_wider}
use Rattle.swc_ecma_codegen_tokens.proofs.Emission.Levels.{levels, rise}
use Rattle.swc_ecma_codegen_tokens.proofs.Reading.Phrased.{PrintsAt, prints_word, prints_mark, word_spelled, mark_spelled}
use Rattle.swc_ecma_codegen_tokens.proofs.Reading.Printed.{MakesAt, chain, makes_silently, makes_wider, no_text, takes_none, writes_operator, writes_same, writes_word_operator}
use Rattle.swc_ecma_codegen_tokens.proofs.Filling.Shapes.{loose, ended}
use Rattle.swc_ecma_codegen_tokens.proofs.Reading.SoFar.{laid_so_far}
use Rattle.swc_ecma_codegen_tokens.proofs.Emission.StepAscii.{hands_ascii, has_string}
use Rattle.swc_ecma_codegen_tokens.proofs.Reading.TokenLays.{Spelled, own_put}

-- ---- what is written

guarded_ascii : (t : List ℕ) → is_ascii_text t ≡ true → (is_ascii_text t && true) ≡ true
guarded_ascii t a = and_from (is_ascii_text t) true a refl

operator_broken : (env : Env) (bounded : Bool) (t : List ℕ) → is_same (spelling Punctuator t) (codes "}") ≡ false → Spelled Punctuator t → is_ascii_text t ≡ true → MakesAt ended env (λ rest. operator t (break_where bounded rest)) (token_of Punctuator (spelling Punctuator t) ∷ []) false
unfolding operator break_where step chain run put effect text_of after_token after_plain own_put makes_text levels rise are_ascii has_string is_string_call takes_none maps_after after_step
operator_broken env true t e p a =
    makes_silently env _ (Guard t ∷ Token Punctuator (Operator None t) ∷ Plain AllowBreak ∷ []) _ refl (λ maps rest. refl) (λ s r. lays_operator_break None t s e p r) (λ h. h) (omega arith) (hands_ascii env _ _ (guarded_ascii t a) no_text)
operator_broken env false t e p a = makes_wider ended refl (writes_operator env t p a)

word_broken : (env : Env) (bounded : Bool) (t : List ℕ) → Spelled Word t → is_ascii_text t ≡ true → MakesAt ended env (λ rest. word_operator t (break_where bounded rest)) (token_of Word (spelling Word t) ∷ []) false
unfolding word_operator break_where step chain run put effect text_of after_token after_plain own_put makes_text levels rise are_ascii has_string is_string_call takes_none maps_after after_step
word_broken env true t p a =
    makes_silently env _ (Guard t ∷ Token Word (Operator None t) ∷ Plain AllowBreak ∷ []) _ refl (λ maps rest. refl) (λ s r. lays_word_break None t s p r) (λ h. h) (omega arith) (hands_ascii env _ _ (guarded_ascii t a) no_text)
word_broken env false t p a = makes_wider ended refl (writes_word_operator env t p a)

-- where lines are bounded
writes_operator_break : (env : Env) (t : List ℕ) → is_same (spelling Punctuator t) (codes "}") ≡ false → Spelled Punctuator t → is_ascii_text t ≡ true → MakesAt ended env (λ rest. operator t (allow_break rest)) (token_of Punctuator (spelling Punctuator t) ∷ []) false
unfolding operator allow_break step
writes_operator_break env t e p a = writes_same env _ (λ rest. operator t (break_where (is_bounded env) rest)) _ (λ maps rest. refl) (operator_broken env (is_bounded env) t e p a)

writes_word_break : (env : Env) (t : List ℕ) → Spelled Word t → is_ascii_text t ≡ true → MakesAt ended env (λ rest. word_operator t (allow_break rest)) (token_of Word (spelling Word t) ∷ []) false
unfolding word_operator allow_break step
writes_word_break env t p a = writes_same env _ (λ rest. word_operator t (break_where (is_bounded env) rest)) _ (λ maps rest. refl) (word_broken env (is_bounded env) t p a)

-- ---- what it reads as

-- `+` of `a+b`
pub prints_operator_break : (env : Env) (t : List ℕ) → is_same (spelling Punctuator t) (codes "}") ≡ false → IsMark t → PrintsAt ended env (λ rest. operator t (allow_break rest)) (mark t)
prints_operator_break env t e w = prints_mark env (λ rest. operator t (allow_break rest)) t (writes_operator_break env t e (mark_spelled t w) w.ascii)

-- `in` of `a in b`
pub prints_word_break : (env : Env) (t : List ℕ) → IsWord t → PrintsAt ended env (λ rest. word_operator t (allow_break rest)) (phrases.word t)
prints_word_break env t w = prints_word env (λ rest. word_operator t (allow_break rest)) t w (writes_word_break env t (word_spelled t w) w.ascii)

-- ---- the text so far

break_lays : (bounded : Bool) (a : State) → may_end a.last ≡ true → AtRest a → LaysTo Anything loose [] [] a (run (steps_of (break_where bounded nothing a.env)) a)
unfolding break_where step steps_of nothing run
break_lays true a m r = lays_break a r m
break_lays false a m r = lays_wider loose refl (lays_nothing a r)

-- an allowed break leaves the tokens so far
pub break_so_far : (old : List ℕ) (tokens : List lexical.Token) (rs : List Remark) (a b : State) → may_end a.last ≡ true → Emits allow_break a b (Ok tt) → ReadsSoFar old tokens rs a → ReadsSoFar old tokens rs b
unfolding holds_joint allow_break
break_so_far old tokens rs a b m e h = subst (λ z. ReadsSoFar old z rs b) (append-nil tokens) (laid_so_far allow_break old tokens [] rs a b refl (inl refl) (λ r. break_lays (is_bounded a.env) a m r) e h)
