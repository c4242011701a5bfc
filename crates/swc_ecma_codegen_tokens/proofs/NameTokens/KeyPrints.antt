-- What is written of a key is its token, and its position stands where it begins.
use Rattle.std.proofs.Common.{◌≡◌, ℕ, Bool, true, false, cond, ◌||◌, ◌==◌, List, [], ◌∷◌, ◌++◌, refl, sym, ap, ◌∙◌, subst, inl, inr}
use Rattle.std.specs.List.{list_any}
use Rattle.std.specs.Str.{chars}
use Rattle.std.proofs.lemmas.Bool.{cases_Bool, true≢false}
use Rattle.swc_ecma_codegen_common.specs.declared.positions.BytePos.{BytePos}
use Rattle.swc_ecma_codegen_common.specs.declared.positions.Span.{Span}
use Rattle.swc_ecma_codegen_spans.specs.Spans.{dummy_span}
use Rattle.swc_ecma_codegen_grammar.specs.declared.kinds.Kind.{Kind}
use Rattle.swc_ecma_codegen_grammar.specs.declared.kinds.Kind.TheVariants.{Name, Str}
use Rattle.swc_ecma_codegen_grammar.specs.Keys.{key_token}
use Rattle.swc_ecma_codegen_grammar.specs.Phrases.{KeyOf, Key, PlacedName, Generates, is_possible, names_in}
use Rattle.swc_ecma_codegen_grammar.specs.PlainPhrases.{plain_phrase}
use Rattle.swc_ecma_codegen_grammar.specs.SpelledNames.{is_well_formed_name}
use Rattle.swc_ecma_codegen_grammar.specs.Tokens.{token_of}
use Rattle.swc_ecma_codegen_grammar.specs.ValidNames.{turned}
use Rattle.swc_ecma_codegen_text_writer.specs.Sheet.{Sheet, Symbol, Position, Commit, fills_lines}
use Rattle.swc_ecma_codegen_settings.specs.declared.config.Config.{Config}
use Rattle.swc_ecma_codegen_literals.specs.AsciiNames.{ascii_name, wants_quotes}
use Rattle.swc_ecma_codegen_tokens.specs.Escapes.{may_make_text}
use Rattle.swc_ecma_codegen_tokens.specs.Keys.{quoted_key, ascii_key, bare_key, plain_key, valid_key, key_text, key}
use Rattle.swc_ecma_codegen_grammar.specs.CommentMaps.{Maps}
use Rattle.swc_ecma_codegen_tokens.specs.Run.{at_maps, maps_after, after_step, Env, Plan, Part, State, Step, next, Guard, Token, Plain, Remake, step, steps_of, nothing, put, run, spelling, has_backslash}
use Rattle.swc_ecma_codegen_tokens.specs.Scripts.{is_string_call, string_by_value, strings_after, AreSafe}
use Rattle.swc_ecma_codegen_tokens.specs.Settings.{settings_of}
use Rattle.swc_ecma_codegen_tokens.specs.Targets.{wants_escapes, written_key, written_as, written_by, is_out}
use Rattle.swc_ecma_codegen_tokens.specs.Words.{commit_pending_semi, leading_comments, position, symbol}
use Rattle.swc_ecma_codegen_tokens.proofs.Emission.StepAscii.{holds_string}
use Rattle.swc_ecma_codegen_tokens.proofs.NameTokens.KeySteps.{escaped_same, plain_same, symbol_same, bare_same, valid_same}
use Rattle.swc_ecma_codegen_tokens.proofs.NameTokens.KeyTexts.{SpellsKey, made_key, kept_key}
use Rattle.swc_ecma_codegen_tokens.proofs.LiteralTokens.LiteralParts.{writes_guard}
use Rattle.swc_ecma_codegen_tokens.proofs.Emission.PartSteps.{IsSafe, NamedBy, PlacedBy, placed_after, names_then, no_names, no_strings, safe_then}
use Rattle.swc_ecma_codegen_tokens.proofs.Reading.Phrased.{Prints, after, prints_same}
use Rattle.swc_ecma_codegen_tokens.proofs.Emission.Positions.{Named, name_named, name_call, name_steps}
use Rattle.swc_ecma_codegen_tokens.proofs.Filling.Shapes as shapes
use Rattle.swc_ecma_codegen_tokens.proofs.Filling.Shapes.{Shape, open_}
use Rattle.swc_ecma_codegen_tokens.proofs.Reading.Standing.{name_stands}
use Rattle.swc_ecma_codegen_tokens.proofs.Reading.TokenLays.{Spelled}
use Rattle.swc_ecma_codegen_tokens.specs.Named.{EachName}
use Rattle.swc_ecma_codegen_grammar.specs.Tokens as lexical
use Rattle.swc_ecma_codegen_tokens.proofs.Reading.Printed.{MakesAt, Makes, Writes, or_false, writes_then, writes_remake, writes_commit, writes_position, writes_placed}
use Rattle.swc_ecma_codegen_tokens.proofs.Commenting.CommentPrints.{writes_leading}
use Rattle.swc_ecma_codegen_tokens.proofs.Filling.CutStanding.{StandsHere}

-- ---- the text of a key, by the settings

-- a semicolon that is held back is written, and then the text of a key
settled_key : Span → List ℕ → Part
settled_key span bytes rest = commit_pending_semi (key_text span bytes rest)

-- a token by the call of a name, with its position
abbrev placed : Kind → Span → List ℕ → Part
placed kind span t rest = step (Guard t) (position span.lo (step (Token kind (Symbol dummy_span t)) rest))

by_quotes : (q : Bool) (span : Span) (t : List ℕ) (rest : Plan) → ascii_key q span t rest ≡ placed (cond q Str Name) span t rest
unfolding ascii_key quoted_key symbol
by_quotes true span t rest = refl
by_quotes false span t rest = refl

placed_same : (span : Span) (t : List ℕ) (rest : Plan) (env : Env) → env.config.ascii_only ≡ true → plain_key span t rest env ≡ placed Name span t rest env
unfolding symbol
placed_same span t rest env e = symbol_same span t rest env e

-- in ASCII: two texts may be made anew
made_part : Bool → Bool → Kind → Span → List ℕ → Part
made_part first second kind span t rest = commit_pending_semi (step (Remake first) (step (Remake second) (placed kind span t rest)))

made_same : (env : Env) (span : Span) (bytes : List ℕ) (rest : Plan) → env.keeps_invalid ≡ false → wants_escapes env.config (turned bytes) ≡ true → settled_key span bytes rest env ≡ made_part (has_backslash bytes) true (cond (list_any (wants_quotes env.config.target) (chars (turned bytes))) Str Name) span (ascii_name true env.config.target (chars (turned bytes))) rest env
unfolding settled_key made_part commit_pending_semi valid_key step after_step
made_same env span bytes rest e w =
    let t : List ℕ = turned bytes in
    ap (λ z. next (Plain Commit) z) (valid_same span bytes rest env e)
    ∙ ap (λ z. next (Plain Commit) (next (Remake (has_backslash bytes)) z)) (escaped_same span t rest env w)
    ∙ ap (λ (z : Plan). next (Plain Commit) (next (Remake (has_backslash bytes)) (next (Remake true) (z env)))) (by_quotes (list_any (wants_quotes env.config.target) (chars t)) span (ascii_name true env.config.target (chars t)) rest)

-- the same without the second
kept_part : Bool → Span → List ℕ → Part
kept_part first span t rest = commit_pending_semi (step (Remake first) (placed Name span t rest))

kept_same : (env : Env) (span : Span) (bytes : List ℕ) (rest : Plan) → env.keeps_invalid ≡ false → wants_escapes env.config (turned bytes) ≡ false → env.config.ascii_only ≡ true → settled_key span bytes rest env ≡ kept_part (has_backslash bytes) span (turned bytes) rest env
unfolding settled_key kept_part commit_pending_semi valid_key step after_step
kept_same env span bytes rest e k a =
    ap (λ z. next (Plain Commit) z) (valid_same span bytes rest env e)
    ∙ ap (λ z. next (Plain Commit) (next (Remake (has_backslash bytes)) z)) (plain_same span (turned bytes) rest env k ∙ placed_same span (turned bytes) rest env a)

-- as it is: what begins it, and then a name
begin_part : Bool → Span → List ℕ → Part
begin_part first span t rest = commit_pending_semi (step (Remake first) (step (Guard t) (position span.lo (leading_comments span.lo rest))))

name_part : Span → List ℕ → Part
name_part span t rest = commit_pending_semi (placed Name span t rest)

bare_part_same : (env : Env) (span : Span) (bytes : List ℕ) (rest : Plan) → env.keeps_invalid ≡ false → wants_escapes env.config (turned bytes) ≡ false → env.config.ascii_only ≡ false → settled_key span bytes rest env ≡ begin_part (has_backslash bytes) span (turned bytes) (name_part span (turned bytes) rest) env
unfolding settled_key begin_part name_part commit_pending_semi valid_key bare_key symbol step after_step
bare_part_same env span bytes rest e k a =
    ap (λ z. next (Plain Commit) z) (valid_same span bytes rest env e)
    ∙ ap (λ z. next (Plain Commit) (next (Remake (has_backslash bytes)) z)) (plain_same span (turned bytes) rest env k ∙ bare_same span (turned bytes) rest env a)

-- ---- the position of a key

abbrev key_at : BytePos → List ℕ → PlacedName
key_at at bytes = record { at = at; bytes = bytes; sort = Key }

written_made : (config : Config) (at : BytePos) (bytes : List ℕ) → wants_escapes config (turned bytes) ≡ true → written_as config (key_at at bytes) ≡ ascii_name true config.target (chars (turned bytes))
unfolding written_as written_by written_key
written_made config at bytes w = ap (λ b. cond b (ascii_name true config.target (chars (turned bytes))) (turned bytes)) w

written_kept : (config : Config) (at : BytePos) (bytes : List ℕ) → wants_escapes config (turned bytes) ≡ false → written_as config (key_at at bytes) ≡ turned bytes
unfolding written_as written_by written_key
written_kept config at bytes k = ap (λ b. cond b (ascii_name true config.target (chars (turned bytes))) (turned bytes)) k

call_steps : (env : Env) (kind : Kind) (pos : BytePos) (b : Bool) (t : List ℕ) → steps_of ((cond b (step (Token kind (Symbol dummy_span t)) nothing) (step (Plain (Position pos)) (step (Token kind (Symbol dummy_span t)) nothing))) env) ≡ name_call kind b pos t
unfolding step steps_of nothing name_call after_step
call_steps env kind pos true t = refl
call_steps env kind pos false t = refl

made_steps : (env : Env) (first second : Bool) (kind : Kind) (span : Span) (t : List ℕ) → steps_of (made_part first second kind span t nothing env) ≡ name_steps first second kind (span.lo.0 == 0) span.lo t
unfolding made_part commit_pending_semi position name_steps step steps_of after_step
made_steps env first second kind span t = ap (λ z. Plain Commit ∷ Remake first ∷ Remake second ∷ Guard t ∷ z) (call_steps env kind span.lo (span.lo.0 == 0) t)

-- a key that is so written
keyed : (env : Env) (first second : Bool) (kind : Kind) (span : Span) (bytes t : List ℕ) (s : State) → written_as env.config (key_at span.lo bytes) ≡ t → (t ≡ [] → ⊥) → s.sheet.keeps_positions ≡ true → fills_lines s.sheet.lines ≡ false → Named env.config (key_at span.lo bytes ∷ []) s.sheet (run (name_steps first second kind (span.lo.0 == 0) span.lo t) s).sheet
keyed env first second kind span bytes t s e some k flows =
    let x : PlacedName = key_at span.lo bytes in
    let P : List ℕ → Type 0 = λ z. Named env.config (x ∷ []) s.sheet (run (name_steps first second kind (span.lo.0 == 0) span.lo z) s).sheet in
    subst P e (name_named env.config first second kind (span.lo.0 == 0) x s refl (λ n. some (sym e ∙ n)) k flows)

made_named : (env : Env) (first second : Bool) (kind : Kind) (span : Span) (bytes t : List ℕ) → written_as env.config (key_at span.lo bytes) ≡ t → (t ≡ [] → ⊥) → NamedBy env (made_part first second kind span t) (key_at span.lo bytes ∷ [])
unfolding NamedBy
made_named env first second kind span bytes t e some s k flows =
    let P : List Step → Type 0 = λ z. Named env.config (key_at span.lo bytes ∷ []) s.sheet (run z s).sheet in
    subst P (sym (made_steps env first second kind span t)) (keyed env first second kind span bytes t s e some k flows)

kept_steps : (env : Env) (first : Bool) (span : Span) (t : List ℕ) → steps_of (kept_part first span t nothing env) ≡ Plain Commit ∷ Remake first ∷ Guard t ∷ name_call Name (span.lo.0 == 0) span.lo t
unfolding kept_part commit_pending_semi position step steps_of after_step
kept_steps env first span t = ap (λ z. Plain Commit ∷ Remake first ∷ Guard t ∷ z) (call_steps env Name span.lo (span.lo.0 == 0) t)

kept_named : (env : Env) (first : Bool) (span : Span) (bytes t : List ℕ) → written_as env.config (key_at span.lo bytes) ≡ t → (t ≡ [] → ⊥) → NamedBy env (kept_part first span t) (key_at span.lo bytes ∷ [])
unfolding NamedBy name_steps run put
kept_named env first span bytes t e some s k flows =
    let P : List Step → Type 0 = λ z. Named env.config (key_at span.lo bytes ∷ []) s.sheet (run z s).sheet in
    subst P (sym (kept_steps env first span t)) (keyed env first false Name span bytes t s e some k flows)

own_steps : (env : Env) (span : Span) (t : List ℕ) → steps_of (name_part span t nothing env) ≡ Plain Commit ∷ Guard t ∷ name_call Name (span.lo.0 == 0) span.lo t
unfolding name_part commit_pending_semi position step steps_of after_step
own_steps env span t = ap (λ z. Plain Commit ∷ Guard t ∷ z) (call_steps env Name span.lo (span.lo.0 == 0) t)

own_named : (env : Env) (span : Span) (bytes t : List ℕ) → written_as env.config (key_at span.lo bytes) ≡ t → (t ≡ [] → ⊥) → NamedBy env (name_part span t) (key_at span.lo bytes ∷ [])
unfolding NamedBy name_steps run put
own_named env span bytes t e some s k flows =
    let P : List Step → Type 0 = λ z. Named env.config (key_at span.lo bytes ∷ []) s.sheet (run z s).sheet in
    subst P (sym (own_steps env span t)) (keyed env false false Name span bytes t s e some k flows)

-- ---- no string of the tree is among its steps

call_strings : (anew : Bool) (kind : Kind) (t : List ℕ) → string_by_value anew kind (Symbol dummy_span t) ≡ []
unfolding string_by_value is_string_call
call_strings true kind t = refl
call_strings false kind t = refl

placed_strings : (anew : Bool) (kind : Kind) (pos : BytePos) (b : Bool) (t : List ℕ) → strings_after anew (name_call kind b pos t) ≡ []
unfolding name_call strings_after
placed_strings anew kind pos true t = ap (λ z. z ++ []) (call_strings anew kind t)
placed_strings anew kind pos false t = ap (λ z. z ++ []) (call_strings anew kind t)

made_safe : (env : Env) (first second : Bool) (kind : Kind) (span : Span) (t : List ℕ) → IsSafe env (made_part first second kind span t)
unfolding IsSafe AreSafe name_steps strings_after
made_safe env first second kind span t e anew =
    subst AreSafe (sym (ap (strings_after anew) (made_steps env first second kind span t) ∙ placed_strings second kind span.lo (span.lo.0 == 0) t)) tt

kept_safe : (env : Env) (first : Bool) (span : Span) (t : List ℕ) → IsSafe env (kept_part first span t)
unfolding IsSafe AreSafe strings_after
kept_safe env first span t e anew =
    subst AreSafe (sym (ap (strings_after anew) (kept_steps env first span t) ∙ placed_strings first Name span.lo (span.lo.0 == 0) t)) tt

own_safe : (env : Env) (span : Span) (t : List ℕ) → IsSafe env (name_part span t)
unfolding IsSafe AreSafe strings_after
own_safe env span t e anew =
    subst AreSafe (sym (ap (strings_after anew) (own_steps env span t) ∙ placed_strings anew Name span.lo (span.lo.0 == 0) t)) tt

-- ---- its token

token_same : {env : Env} {p : Part} {kind : Kind} {bytes t : List ℕ} {made : Bool} → SpellsKey env.config kind bytes t → Makes env p (token_of kind (spelling kind t) ∷ []) made → Makes env p (key_token (settings_of env.config) bytes ∷ []) made
token_same {env} {p} {made = made} h m = subst (λ x. Makes env p (x ∷ []) made) h.token m

writes_key : (env : Env) (kind : Kind) (span : Span) (bytes t : List ℕ) → SpellsKey env.config kind bytes t → Writes env (placed kind span t) (key_token (settings_of env.config) bytes ∷ [])
writes_key env kind span bytes t h = token_same h (writes_placed env kind span t h.own h.spelled h.ascii)

makes_made : (env : Env) (first second : Bool) (kind : Kind) (span : Span) (bytes t : List ℕ) → SpellsKey env.config kind bytes t → Makes env (made_part first second kind span t) (key_token (settings_of env.config) bytes ∷ []) (first || second)
unfolding made_part
makes_made env first second kind span bytes t h =
    let x = key_token (settings_of env.config) bytes in
    subst (λ b. Makes env (made_part first second kind span t) (x ∷ []) (first || b)) (or_false second)
    (writes_then env commit_pending_semi _ [] (x ∷ []) (writes_commit env)
    (writes_then env (step (Remake first)) _ [] (x ∷ []) (writes_remake env first)
    (writes_then env (step (Remake second)) (placed kind span t) [] (x ∷ []) (writes_remake env second) (writes_key env kind span bytes t h))))

makes_kept : (env : Env) (first : Bool) (span : Span) (bytes t : List ℕ) → SpellsKey env.config Name bytes t → Makes env (kept_part first span t) (key_token (settings_of env.config) bytes ∷ []) (first || false)
unfolding kept_part
makes_kept env first span bytes t h =
    let x = key_token (settings_of env.config) bytes in
    writes_then env commit_pending_semi _ [] (x ∷ []) (writes_commit env)
    (writes_then env (step (Remake first)) (placed Name span t) [] (x ∷ []) (writes_remake env first) (writes_key env Name span bytes t h))

makes_begin : (env : Env) (first : Bool) (span : Span) (t : List ℕ) → MakesAt open_ env (begin_part first span t) [] (first || false)
unfolding begin_part
makes_begin env first span t =
    writes_then env commit_pending_semi _ [] [] (writes_commit env)
    (writes_then env (step (Remake first)) _ [] [] (writes_remake env first)
    (writes_then env (step (Guard t)) _ [] [] (writes_guard env t) (writes_then env (position span.lo) (leading_comments span.lo) [] [] (writes_position env span.lo) (writes_leading env span.lo))))

makes_own : (env : Env) (span : Span) (bytes t : List ℕ) → SpellsKey env.config Name bytes t → Writes env (name_part span t) (key_token (settings_of env.config) bytes ∷ [])
unfolding name_part
makes_own env span bytes t h = writes_then env commit_pending_semi (placed Name span t) [] (key_token (settings_of env.config) bytes ∷ []) (writes_commit env) (writes_key env Name span bytes t h)

-- ---- a key

-- by a part that it is written as
key_by : (env : Env) (span : Span) (bytes : List ℕ) (p : Part) → ((maps : Maps) (rest : Plan) → settled_key span bytes rest (at_maps maps env) ≡ p rest (at_maps maps env)) → Makes env p (key_token (settings_of env.config) bytes ∷ []) (has_backslash bytes || wants_escapes env.config (turned bytes)) → ((maps : Maps) → NamedBy (at_maps maps env) p (key_at span.lo bytes ∷ [])) → ((maps : Maps) → PlacedBy shapes.whole (at_maps maps env) p (KeyOf span.lo bytes) (key_token (settings_of env.config) bytes ∷ [])) → ((maps : Maps) → IsSafe (at_maps maps env) p) → Prints env (settled_key span bytes) (KeyOf span.lo bytes)
unfolding plain_phrase Generates is_out may_make_text names_in
key_by env span bytes p same m n d s =
    prints_same (settled_key span bytes) p same
    (record { where_possible = λ w o maps. record { tokens = key_token (settings_of env.config) bytes ∷ []; generated = refl; plain = λ e. refl; writes = m.from maps; named = n maps; placed = d maps; safe = s maps }; where_out = λ w o. absurd (true≢false (sym o)) })

-- ---- it stands as its own token

key_here : {i : Shape} (env : Env) (first second : Bool) (kind : Kind) (span : Span) (bytes t : List ℕ) (p : Part) → SpellsKey env.config kind bytes t → written_as env.config (key_at span.lo bytes) ≡ t → ((s : State) → (run (steps_of (p nothing env)) s).sheet ≡ (run (name_steps first second kind (span.lo.0 == 0) span.lo t) s).sheet) → PlacedBy i env p (KeyOf span.lo bytes) (key_token (settings_of env.config) bytes ∷ [])
unfolding EachName
key_here env first second kind span bytes t p h e steps = record {
  stands = λ a s us r k c.
      let x : PlacedName = key_at span.lo bytes in
      let u : List ℕ = written_as env.config x in
      let there = name_stands env.config first second kind (span.lo.0 == 0) x us a s refl (subst (λ z. Spelled kind z) (sym e) h.spelled) k r in
      let P : List ℕ → Type 0 = λ z. StandsHere env.config a.sheet (run (name_steps first second kind (span.lo.0 == 0) span.lo z) s).sheet us (token_of kind (spelling kind z)) x in
      let Q : lexical.Token → Type 0 = λ z. StandsHere env.config a.sheet (run (name_steps first second kind (span.lo.0 == 0) span.lo t) s).sheet us z x in
      (refl, subst (λ (z : Sheet). StandsHere env.config a.sheet z us (key_token (settings_of env.config) bytes) x) (sym (steps s)) (subst Q h.token (subst P e there)));
}

made_here : {i : Shape} (env : Env) (first second : Bool) (kind : Kind) (span : Span) (bytes t : List ℕ) → SpellsKey env.config kind bytes t → written_as env.config (key_at span.lo bytes) ≡ t → PlacedBy i env (made_part first second kind span t) (KeyOf span.lo bytes) (key_token (settings_of env.config) bytes ∷ [])
made_here env first second kind span bytes t h e = key_here env first second kind span bytes t (made_part first second kind span t) h e (λ s. ap (λ z. (run z s).sheet) (made_steps env first second kind span t))

kept_here : {i : Shape} (env : Env) (first : Bool) (span : Span) (bytes t : List ℕ) → SpellsKey env.config Name bytes t → written_as env.config (key_at span.lo bytes) ≡ t → PlacedBy i env (kept_part first span t) (KeyOf span.lo bytes) (key_token (settings_of env.config) bytes ∷ [])
unfolding name_steps run put
kept_here env first span bytes t h e = key_here env first false Name span bytes t (kept_part first span t) h e (λ s. ap (λ z. (run z s).sheet) (kept_steps env first span t))

own_placed : {i : Shape} (env : Env) (span : Span) (bytes t : List ℕ) → SpellsKey env.config Name bytes t → written_as env.config (key_at span.lo bytes) ≡ t → PlacedBy i env (name_part span t) (KeyOf span.lo bytes) (key_token (settings_of env.config) bytes ∷ [])
unfolding name_steps run put
own_placed env span bytes t h e = key_here env false false Name span bytes t (name_part span t) h e (λ s. ap (λ z. (run z s).sheet) (own_steps env span t))

made_prints : (env : Env) (span : Span) (bytes : List ℕ) → env.keeps_invalid ≡ false → is_well_formed_name bytes ≡ true → wants_escapes env.config (turned bytes) ≡ true → Prints env (settled_key span bytes) (KeyOf span.lo bytes)
made_prints env span bytes e w d =
    let first : Bool = has_backslash bytes in
    let kind : Kind = cond (list_any (wants_quotes env.config.target) (chars (turned bytes))) Str Name in
    let t : List ℕ = ascii_name true env.config.target (chars (turned bytes)) in
    let h : SpellsKey env.config kind bytes t = made_key env.config bytes w d in
    let x = key_token (settings_of env.config) bytes in
    key_by env span bytes (made_part first true kind span t) (λ maps rest. made_same (at_maps maps env) span bytes rest e d)
    (subst (λ b. Makes env (made_part first true kind span t) (x ∷ []) (first || b)) (sym d) (makes_made env first true kind span bytes t h))
    (λ maps. made_named (at_maps maps env) first true kind span bytes t (written_made env.config span.lo bytes d) h.spelled.some)
    (λ maps. made_here (at_maps maps env) first true kind span bytes t h (written_made env.config span.lo bytes d))
    (λ maps. made_safe (at_maps maps env) first true kind span t)

kept_prints : (env : Env) (span : Span) (bytes : List ℕ) → env.keeps_invalid ≡ false → is_well_formed_name bytes ≡ true → wants_escapes env.config (turned bytes) ≡ false → env.config.ascii_only ≡ true → Prints env (settled_key span bytes) (KeyOf span.lo bytes)
kept_prints env span bytes e w k a =
    let first : Bool = has_backslash bytes in
    let t : List ℕ = turned bytes in
    let h : SpellsKey env.config Name bytes t = kept_key env.config bytes w k in
    let x = key_token (settings_of env.config) bytes in
    key_by env span bytes (kept_part first span t) (λ maps rest. kept_same (at_maps maps env) span bytes rest e k a)
    (subst (λ b. Makes env (kept_part first span t) (x ∷ []) (first || b)) (sym k) (makes_kept env first span bytes t h))
    (λ maps. kept_named (at_maps maps env) first span bytes t (written_kept env.config span.lo bytes k) h.spelled.some)
    (λ maps. kept_here (at_maps maps env) first span bytes t h (written_kept env.config span.lo bytes k))
    (λ maps. kept_safe (at_maps maps env) first span t)

bare_prints : (env : Env) (span : Span) (bytes : List ℕ) → env.keeps_invalid ≡ false → is_well_formed_name bytes ≡ true → wants_escapes env.config (turned bytes) ≡ false → env.config.ascii_only ≡ false → Prints env (settled_key span bytes) (KeyOf span.lo bytes)
unfolding holds_string
bare_prints env span bytes e w k a =
    let first : Bool = has_backslash bytes in
    let t : List ℕ = turned bytes in
    let h : SpellsKey env.config Name bytes t = kept_key env.config bytes w k in
    let x = key_token (settings_of env.config) bytes in
    let begin : Part = begin_part first span t in
    let whole : Part = λ rest. begin (name_part span t rest) in
    let m = makes_begin env first span t in
    key_by env span bytes whole (λ maps rest. bare_part_same (at_maps maps env) span bytes rest e k a)
    (subst (λ b. Makes env whole (x ∷ []) (first || b)) (sym k) (subst (λ b. Makes env whole (x ∷ []) b) (or_false (first || false)) (writes_then env begin (name_part span t) [] (x ∷ []) m (makes_own env span bytes t h))))
    (λ maps. let x = m.from maps in names_then (name_part span t) [] (key_at span.lo bytes ∷ []) x (no_names (at_maps maps env) begin) (own_named (at_maps (maps_after x.steps maps) env) span bytes t (written_kept env.config span.lo bytes k) h.spelled.some))
    (λ maps. placed_after (name_part span t) (KeyOf span.lo bytes) (x ∷ []) (m.from maps) (own_placed {i = shapes.whole} (at_maps (maps_after (m.from maps).steps maps) env) span bytes t h (written_kept env.config span.lo bytes k)))
    (λ maps. let x = m.from maps in safe_then (name_part span t) x (no_strings x refl) (own_safe (at_maps (maps_after x.steps maps) env) span t))

prints_settled_key : (env : Env) (span : Span) (bytes : List ℕ) → env.keeps_invalid ≡ false → is_well_formed_name bytes ≡ true → Prints env (settled_key span bytes) (KeyOf span.lo bytes)
prints_settled_key env span bytes e w = elim (cases_Bool (wants_escapes env.config (turned bytes))) [
  | inl d ↦ made_prints env span bytes e w d
  | inr k ↦ elim (cases_Bool env.config.ascii_only) [
    | inl a ↦ kept_prints env span bytes e w k a
    | inr a ↦ bare_prints env span bytes e w k a
  ]
]

key_prints : (env : Env) (span : Span) (bytes : List ℕ) → env.keeps_invalid ≡ false → Prints env (settled_key span bytes) (KeyOf span.lo bytes)
unfolding is_possible is_out
key_prints env span bytes e = record {
  where_possible = λ w o maps. (prints_settled_key env span bytes e w).where_possible w o maps;
  where_out = λ w o. absurd (true≢false (sym o));
}

-- a name as a key of a property
pub prints_key : (env : Env) (span : Span) (bytes : List ℕ) → env.keeps_invalid ≡ false → Prints env (key span bytes) (KeyOf span.lo bytes)
unfolding key settled_key
prints_key env span bytes e = after (writes_leading env span.lo) (key_prints env span bytes e)
