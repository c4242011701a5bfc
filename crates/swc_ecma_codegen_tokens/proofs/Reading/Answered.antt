-- A call that makes a part of a plan adds the tokens of that part, where its answer is made of a bit and a reason.
use Rattle.std.proofs.Common.{◌≡◌, ℕ, Bool, true, false, List, [], ◌∷◌, ◌++◌, sym, subst, Option, Result, Ok, Err, OnOk}
use Rattle.swc_ecma_codegen_common.specs.declared.errors.Refusal.{Refusal}
use Rattle.swc_ecma_codegen_common.specs.declared.positions.Span.{Span}
use Rattle.swc_ecma_codegen_settings.specs.declared.config.Config.{Config}
use Rattle.swc_ecma_codegen_grammar.specs.CommentMaps.{Maps}
use Rattle.swc_ecma_codegen_grammar.specs.Comments.{AreClosed, no_maps}
use Rattle.swc_ecma_codegen_grammar.specs.SourceLines.{no_lines}
use Rattle.swc_ecma_codegen_grammar.specs.SpelledNames.{is_well_formed_name}
use Rattle.swc_ecma_codegen_grammar.specs.Tokens as lexical
use Rattle.swc_ecma_codegen_grammar.specs.Tokens.{Token}
use Rattle.swc_ecma_codegen_grammar.specs.Trivia.{Remark}
use Rattle.swc_ecma_codegen_text_writer.specs.Sheet.{Sheet}
use Rattle.swc_ecma_codegen_tokens.specs.declared.LowerEmitter.{LowerEmitter}
use Rattle.swc_ecma_codegen_tokens.specs.Adds.{Adds, AddsName}
use Rattle.swc_ecma_codegen_tokens.specs.Run.{Part, Emits, Does, DoesTaking, with_source}
use Rattle.swc_ecma_codegen_tokens.specs.View.{env_of, state_of}
use Rattle.swc_ecma_codegen_tokens.specs.Words.{keyword, name, operator, operator_between, punct, punct_between, semi}
use Rattle.swc_ecma_codegen_tokens.specs.Written.{IsWord, ReadsSoFar, name_tokens, taken_remarks}
use Rattle.swc_ecma_codegen_literals.specs.declared.punctuators.Punctuator.{Punctuator}
use Rattle.swc_ecma_codegen_literals.specs.Punctuators.{spelling}
use Rattle.swc_ecma_codegen_tokens.proofs.Gaps.Marks.{is_mark}
use Rattle.swc_ecma_codegen_tokens.proofs.Reading.SoFar.{keyword_so_far, name_so_far, operator_so_far, operator_between_so_far, punct_so_far, punct_between_so_far, semi_so_far, so_far_at, so_far_from}

-- whatever it answers
pub adds_made : (part : Part) (ts : List Token) (config : Config) (a : Sheet) (e : LowerEmitter) (b : Sheet) (f : LowerEmitter) (r : Result (Unit {0}) Refusal) → ((old : List ℕ) (tokens : List Token) (rs : List Remark) → Emits part (state_of config a e) (state_of config b f) (Ok tt) → ReadsSoFar old tokens rs (state_of config a e) → ReadsSoFar old (tokens ++ ts) rs (state_of config b f)) → Does part (state_of config a e) (state_of config b f) r → Adds ts config a e b f r
unfolding with_source
adds_made part ts config a e b f (Ok u) so_far d = λ old tokens rs h. so_far old tokens rs (d no_lines no_maps) h
adds_made part ts config a e b f (Err x) so_far d = λ old tokens rs h. tt

pub adds_answered : (part : Part) (ts : List Token) (config : Config) (a : Sheet) (e : LowerEmitter) (b : Sheet) (f : LowerEmitter) (r s : Result (Unit {0}) Refusal) → r ≡ s → ((old : List ℕ) (tokens : List Token) (rs : List Remark) → Emits part (state_of config a e) (state_of config b f) (Ok tt) → ReadsSoFar old tokens rs (state_of config a e) → ReadsSoFar old (tokens ++ ts) rs (state_of config b f)) → Does part (state_of config a e) (state_of config b f) s → Adds ts config a e b f r
adds_answered part ts config a e b f r s same so_far d = subst (λ z. Adds ts config a e b f z) (sym same) (adds_made part ts config a e b f s so_far d)

-- the same of a name, which takes the comments before it
pub name_made : (span : Span) (bytes : List ℕ) (optional : Bool) (config : Config) (before left : Maps) (a : Sheet) (e : LowerEmitter) (b : Sheet) (f : LowerEmitter) (r : Result (Unit {0}) Refusal) (old : List ℕ) (tokens : List Token) (rs : List Remark) → AreClosed before → is_well_formed_name bytes ≡ true → a.keeps_invalid ≡ false → ReadsSoFar old tokens rs (state_of config a e) → DoesTaking (name span bytes optional) before left (state_of config a e) (state_of config b f) r → OnOk r (ReadsSoFar old (tokens ++ name_tokens bytes optional) (rs ++ taken_remarks (name span bytes optional) (env_of no_lines before config a)) (state_of config b f))
unfolding with_source
name_made span bytes optional config before left a e b f (Ok u) old tokens rs closed w v h d =
    so_far_from no_lines left _ _ _ _ (name_so_far span bytes optional old tokens rs _ _ v w closed (d no_lines) (so_far_at no_lines before old tokens rs _ h))
name_made span bytes optional config before left a e b f (Err x) old tokens rs closed w v h d = tt

-- ---- each token, by what it does

pub punct_adds : (p : Punctuator) (config : Config) (a : Sheet) (e : LowerEmitter) (b : Sheet) (f : LowerEmitter) (r : Result (Unit {0}) Refusal) → Does (punct (spelling p)) (state_of config a e) (state_of config b f) r → Adds (lexical.punctuator (spelling p) ∷ []) config a e b f r
punct_adds p config a e b f r d = adds_made (punct (spelling p)) (lexical.punctuator (spelling p) ∷ []) config a e b f r (λ old tokens rs. punct_so_far (spelling p) old tokens rs _ _ (is_mark p)) d

pub operator_adds : (p : Punctuator) (config : Config) (a : Sheet) (e : LowerEmitter) (b : Sheet) (f : LowerEmitter) (r : Result (Unit {0}) Refusal) → Does (operator (spelling p)) (state_of config a e) (state_of config b f) r → Adds (lexical.punctuator (spelling p) ∷ []) config a e b f r
operator_adds p config a e b f r d = adds_made (operator (spelling p)) (lexical.punctuator (spelling p) ∷ []) config a e b f r (λ old tokens rs. operator_so_far (spelling p) old tokens rs _ _ (is_mark p)) d

pub semi_adds : (config : Config) (a : Sheet) (e : LowerEmitter) (b : Sheet) (f : LowerEmitter) (r : Result (Unit {0}) Refusal) → Does semi (state_of config a e) (state_of config b f) r → Adds (lexical.ending ∷ []) config a e b f r
semi_adds config a e b f r d = adds_made semi (lexical.ending ∷ []) config a e b f r (λ old tokens rs. semi_so_far old tokens rs _ _) d

pub keyword_adds : (span : Option Span) (t : List ℕ) (config : Config) (a : Sheet) (e : LowerEmitter) (b : Sheet) (f : LowerEmitter) (r : Result (Unit {0}) Refusal) → IsWord t → Does (keyword span t) (state_of config a e) (state_of config b f) r → Adds (lexical.word t ∷ []) config a e b f r
keyword_adds span t config a e b f r w d = adds_made (keyword span t) (lexical.word t ∷ []) config a e b f r (λ old tokens rs. keyword_so_far span t old tokens rs _ _ w) d

-- with the blanks round it
pub operator_between_adds : (p : Punctuator) (config : Config) (a : Sheet) (e : LowerEmitter) (b : Sheet) (f : LowerEmitter) (r : Result (Unit {0}) Refusal) → Does (operator_between (spelling p)) (state_of config a e) (state_of config b f) r → Adds (lexical.punctuator (spelling p) ∷ []) config a e b f r
operator_between_adds p config a e b f r d = adds_made (operator_between (spelling p)) (lexical.punctuator (spelling p) ∷ []) config a e b f r (λ old tokens rs. operator_between_so_far (spelling p) old tokens rs _ _ (is_mark p)) d

pub punct_between_adds : (p : Punctuator) (config : Config) (a : Sheet) (e : LowerEmitter) (b : Sheet) (f : LowerEmitter) (r : Result (Unit {0}) Refusal) → Does (punct_between (spelling p)) (state_of config a e) (state_of config b f) r → Adds (lexical.punctuator (spelling p) ∷ []) config a e b f r
punct_between_adds p config a e b f r d = adds_made (punct_between (spelling p)) (lexical.punctuator (spelling p) ∷ []) config a e b f r (λ old tokens rs. punct_between_so_far (spelling p) old tokens rs _ _ (is_mark p)) d

pub name_adds : (span : Span) (bytes : List ℕ) (optional : Bool) (config : Config) (before left : Maps) (a : Sheet) (e : LowerEmitter) (b : Sheet) (f : LowerEmitter) (r : Result (Unit {0}) Refusal) → DoesTaking (name span bytes optional) before left (state_of config a e) (state_of config b f) r → AddsName span bytes optional before config a e b f r
name_adds span bytes optional config before left a e b f r d = λ old tokens rs closed w v h. name_made span bytes optional config before left a e b f r old tokens rs closed w v h d
