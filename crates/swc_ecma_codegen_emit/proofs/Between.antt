-- What stands between two blanks, by whether the settings are to minify.
use Rattle.std.proofs.Common.{◌≡◌, ◌∙◌, ℕ, Bool, true, false, cond, List, None, refl, ap, ◌&&◌, is_some}
use Rattle.swc_ecma_codegen_common.specs.declared.operators.BinaryOp.{BinaryOp}
use Rattle.swc_ecma_codegen_common.specs.Operators.{binary_text}
use Rattle.swc_ecma_codegen_grammar.specs.declared.kinds.Kind.TheVariants.{Word, Punctuator}
use Rattle.swc_ecma_codegen_text_writer.specs.Sheet.{Space, Operator, Punct, AllowBreak}
use Rattle.swc_ecma_codegen_tokens.specs.Run.{Env, Plan, Steps, next, Guard, Token, Plain, step, after_step, no_part, is_bounded}
use Rattle.swc_ecma_codegen_tokens.specs.Words.{operator, word_operator, punct, space, formatting_space, operator_between, punct_between, allow_break, allows_break, bare_punct, break_where}
use Rattle.swc_ecma_codegen_tokens.proofs.Emission.Emitting.{minified_same, pretty_same}
use Rattle.swc_ecma_codegen_emit.specs.Exprs.{blank, space_if, binary_op, spaced_operator, spaced_punct, formatted_operator}
use Rattle.swc_ecma_codegen_emit.specs.Operands.{is_word_op}
use Rattle.swc_ecma_codegen_emit.specs.Standing.{Standing, Makes}
use Rattle.swc_ecma_codegen_emit.proofs.Standings.{makes_same}

-- ---- blanks that only formatting wants

no_blank : (rest : Plan) (env : Env) → env.config.minify ≡ true → formatting_space rest env ≡ rest env
unfolding formatting_space no_part
no_blank rest env h = minified_same no_part space rest env h

one_blank : (rest : Plan) (env : Env) → env.config.minify ≡ false → formatting_space rest env ≡ space rest env
unfolding formatting_space
one_blank rest env h = pretty_same no_part space rest env h

-- ---- an operator, and a punctuator

operator_in : (t : List ℕ) (p q : Plan) (env : Env) → p env ≡ q env → operator t p env ≡ operator t q env
unfolding operator step after_step
operator_in t p q env h = ap (λ (x : Steps). next (Guard t) (next (Token Punctuator (Operator None t)) x)) h

break_in : (b : Bool) (p q : Plan) (env : Env) → p env ≡ q env → break_where b p env ≡ break_where b q env
unfolding break_where step after_step
break_in true p q env h = ap (λ (x : Steps). next (Plain AllowBreak) x) h
break_in false p q env h = h

allowed_in : (p q : Plan) (env : Env) → p env ≡ q env → allow_break p env ≡ allow_break q env
unfolding allow_break
allowed_in p q env h = break_in (is_bounded env) p q env h

behind_in : (b : Bool) (p q : Plan) (env : Env) → p env ≡ q env → cond b (allow_break p) p env ≡ cond b (allow_break q) q env
behind_in true p q env h = allowed_in p q env h
behind_in false p q env h = h

-- what is the same is the same behind a punctuator
pub punct_in : (t : List ℕ) (p q : Plan) (env : Env) → p env ≡ q env → punct t p env ≡ punct t q env
unfolding punct bare_punct step after_step
punct_in t p q env h = ap (λ (x : Steps). next (Guard t) (next (Token Punctuator (Punct None t)) x)) (behind_in (allows_break t) p q env h)

and_none : (b : Bool) → (b && false) ≡ false
and_none true = refl
and_none false = refl

-- in a text that isn't minified no line may be ended
no_break : (rest : Plan) (env : Env) → env.config.minify ≡ false → allow_break rest env ≡ rest env
unfolding allow_break break_where
no_break rest env h = ap (λ b. cond b (step (Plain AllowBreak) rest) rest env) (ap (λ m. is_some env.max_line && m) h ∙ and_none (is_some env.max_line))

space_in : (p q : Plan) (env : Env) → p env ≡ q env → space p env ≡ space q env
unfolding space step after_step
space_in p q env h = ap (λ (x : Steps). next (Plain Space) x) h

-- minified there is no blank
pub formatted_tight : (t : List ℕ) (a b : Standing) → a.state.env.config.minify ≡ true → Makes (operator t) a b → Makes (formatted_operator t) a b
unfolding formatted_operator
formatted_tight t a b h k =
    let env = a.state.env in
    makes_same (formatted_operator t) (operator t) a b (λ rest. no_blank (operator t (formatting_space rest)) env h ∙ operator_in t (formatting_space rest) rest env (no_blank rest env h)) k

-- else there are two
pub formatted_between : (t : List ℕ) (a b : Standing) → a.state.env.config.minify ≡ false → Makes (operator_between t) a b → Makes (formatted_operator t) a b
unfolding formatted_operator operator_between
formatted_between t a b h k =
    let env = a.state.env in
    makes_same (formatted_operator t) (operator_between t) a b (λ rest. one_blank (operator t (formatting_space rest)) env h ∙ space_in (operator t (formatting_space rest)) (operator t (space rest)) env (operator_in t (formatting_space rest) (space rest) env (one_blank rest env h))) k

pub spaced_tight : (t : List ℕ) (a b : Standing) → a.state.env.config.minify ≡ true → Makes (punct t) a b → Makes (spaced_punct t) a b
unfolding spaced_punct
spaced_tight t a b h k =
    let env = a.state.env in
    makes_same (spaced_punct t) (punct t) a b (λ rest. no_blank (punct t (formatting_space rest)) env h ∙ punct_in t (formatting_space rest) rest env (no_blank rest env h)) k

pub spaced_between : (t : List ℕ) (a b : Standing) → a.state.env.config.minify ≡ false → Makes (punct_between t) a b → Makes (spaced_punct t) a b
unfolding spaced_punct punct_between
spaced_between t a b h k =
    let env = a.state.env in
    makes_same (spaced_punct t) (punct_between t) a b (λ rest. one_blank (punct t (formatting_space rest)) env h ∙ space_in (punct t (formatting_space rest)) (punct t (space rest)) env (punct_in t (formatting_space rest) (space rest) env (one_blank rest env h))) k

-- ---- a binary operator

binary_in : (op : BinaryOp) (p q : Plan) (env : Env) → p env ≡ q env → binary_op op p env ≡ binary_op op q env
unfolding binary_op word_operator step after_step
binary_in op p q env h =
    elim (is_word_op op) as (λ w. cond w (word_operator (binary_text op) p) (operator (binary_text op) p) env ≡ cond w (word_operator (binary_text op) q) (operator (binary_text op) q) env)
    [ true ↦ ap (λ (x : Steps). next (Guard (binary_text op)) (next (Token Word (Operator None (binary_text op))) x)) h | false ↦ operator_in (binary_text op) p q env h ]

blank_tight : (needed : Bool) (rest : Plan) (env : Env) → env.config.minify ≡ true → blank needed rest env ≡ space_if needed rest env
unfolding blank space_if
blank_tight true rest env h = refl
blank_tight false rest env h = no_blank rest env h

blank_one : (needed : Bool) (rest : Plan) (env : Env) → env.config.minify ≡ false → blank needed rest env ≡ space rest env
unfolding blank
blank_one true rest env h = refl
blank_one false rest env h = one_blank rest env h

space_if_in : (needed : Bool) (p q : Plan) (env : Env) → p env ≡ q env → space_if needed p env ≡ space_if needed q env
unfolding space_if
space_if_in true p q env h = space_in p q env h
space_if_in false p q env h = h

-- minified there are the blanks that are needed
pub binary_tight : (op : BinaryOp) (before after : Bool) (a b : Standing) → a.state.env.config.minify ≡ true → Makes (λ rest. space_if before (binary_op op (allow_break (space_if after rest)))) a b → Makes (λ rest. blank before (binary_op op (allow_break (blank after rest)))) a b
binary_tight op before after a b h k =
    let env = a.state.env in
    let wide : Plan → Plan = λ rest. binary_op op (allow_break (blank after rest)) in
    let tight : Plan → Plan = λ rest. binary_op op (allow_break (space_if after rest)) in
    makes_same (λ rest. blank before (wide rest)) (λ rest. space_if before (tight rest)) a b
    (λ rest. blank_tight before (wide rest) env h ∙ space_if_in before (wide rest) (tight rest) env (binary_in op (allow_break (blank after rest)) (allow_break (space_if after rest)) env (allowed_in (blank after rest) (space_if after rest) env (blank_tight after rest env h)))) k

-- else there are two, needed or not
pub binary_between : (op : BinaryOp) (before after : Bool) (a b : Standing) → a.state.env.config.minify ≡ false → Makes (spaced_operator op) a b → Makes (λ rest. blank before (binary_op op (allow_break (blank after rest)))) a b
unfolding spaced_operator
binary_between op before after a b h k =
    let env = a.state.env in
    let wide : Plan → Plan = λ rest. binary_op op (allow_break (blank after rest)) in
    makes_same (λ rest. blank before (wide rest)) (spaced_operator op) a b
    (λ rest. blank_one before (wide rest) env h ∙ space_in (wide rest) (binary_op op (space rest)) env (binary_in op (allow_break (blank after rest)) (space rest) env (no_break (blank after rest) env h ∙ blank_one after rest env h))) k
