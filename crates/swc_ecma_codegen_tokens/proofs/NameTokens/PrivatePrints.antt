-- What is written of a private name is what it reads as.
use Rattle.std.proofs.Common.{◌≡◌, ℕ, ◌==◌, Bool, true, false, ◌||◌, List, [], ◌∷◌, ◌++◌, codes, Some, None, refl, sym, ap, ◌∙◌, subst, arith}
use Rattle.std.specs.Str.{chars, is_utf8, IsUtf8}
use Rattle.std.proofs.lemmas.Bool.{and_from, or_from, true≢false}
use Rattle.std.proofs.lemmas.Str.{chars-append, IsUtf8-append, IsUtf8-from_is_utf8}
use Rattle.swc_ecma_codegen_common.specs.declared.positions.Span.{Span}
use Rattle.swc_ecma_codegen_spans.specs.Spans.{dummy_span}
use Rattle.swc_ecma_codegen_grammar.specs.declared.kinds.Kind.TheVariants.{PrivateName}
use Rattle.swc_ecma_codegen_grammar.specs.GapRules.{allows, last_after}
use Rattle.swc_ecma_codegen_grammar.specs.Names.{is_name, name_rest, name_value, is_private_name, private_name_value}
use Rattle.swc_ecma_codegen_grammar.specs.Parts.{tokens_of}
use Rattle.swc_ecma_codegen_grammar.specs.Phrases.{PrivateOf, Generates, is_possible, names_in}
use Rattle.swc_ecma_codegen_grammar.specs.PlainPhrases.{plain_phrase}
use Rattle.swc_ecma_codegen_grammar.specs.Reads.{is_child, is_hashbang_kind}
use Rattle.swc_ecma_codegen_grammar.specs.SpelledNames.{spelled_name}
use Rattle.swc_ecma_codegen_grammar.specs.Tokens as lexical
use Rattle.swc_ecma_codegen_grammar.specs.Tokens.{has_shape, token_of, value_of}
use Rattle.swc_ecma_codegen_grammar.specs.ValidNames.{turned}
use Rattle.swc_ecma_codegen_text_writer.specs.Sheet.{Sheet, Punct, Symbol, effect, written, settled, before_punct, is_ending, fills_lines}
use Rattle.swc_ecma_codegen_literals.specs.AsciiNames.{is_ascii_text}
use Rattle.swc_ecma_codegen_tokens.specs.Ascii.{is_other_piece, is_kept_piece, is_other_end, is_kept_end, keeps_other, are_ascii}
use Rattle.swc_ecma_codegen_tokens.specs.declared.refusals.Unprintable.TheVariants.{NameOutOfTarget}
use Rattle.swc_ecma_codegen_tokens.specs.Escapes.{may_make_text}
use Rattle.swc_ecma_codegen_tokens.specs.PrivateNames as words
use Rattle.swc_ecma_codegen_tokens.specs.PrivateNames.{private_spelling}
use Rattle.swc_ecma_codegen_tokens.specs.Run.{at_maps, after_step, Env, Plan, State, Step, Guard, Plain, Ends, Remake, put, run, step, refuse, spelling, text_of, after_token, after_tokens, makes_text, has_backslash, unprintable_in}
use Rattle.swc_ecma_codegen_tokens.specs.Scripts.{is_str}
use Rattle.swc_ecma_codegen_tokens.specs.Starts.{start_class}
use Rattle.swc_ecma_codegen_tokens.specs.Targets.{is_out, is_out_name, in_ascii, wants_escapes, written_name}
use Rattle.swc_ecma_codegen_tokens.specs.Words.{position}
use Rattle.swc_ecma_codegen_tokens.specs.Written.{AtRest, holds_one}
use Rattle.swc_ecma_codegen_tokens.proofs.Emission.Fronts.{run_append}
use Rattle.swc_ecma_codegen_tokens.proofs.Emission.StepAscii.{has_string, has_append, keeps_append, ascii_append, hands_by_settings}
use Rattle.swc_ecma_codegen_tokens.proofs.Emission.PendingSemi.{settled_none}
use Rattle.swc_ecma_codegen_tokens.proofs.Emission.Levels.{levels, levels_append, rise}
use Rattle.swc_ecma_codegen_tokens.proofs.LiteralTokens.LiteralParts.{lays_guarded, still_settled, writes_guard}
use Rattle.swc_ecma_codegen_tokens.proofs.Emission.PartSteps.{no_names, placed_none}
use Rattle.swc_ecma_codegen_tokens.proofs.Reading.Phrased.{Prints, after, before, name_written, no_string}
use Rattle.swc_ecma_codegen_tokens.proofs.Reading.Printed.{takes_none, takes_append, from_silently, Makes, Writes, chain, chain_append, or_false, remakes_append, writes_same, writes_then, writes_remake, writes_position}
use Rattle.swc_ecma_codegen_tokens.proofs.Commenting.CommentPrints.{writes_leading}
use Rattle.swc_ecma_codegen_tokens.proofs.NameTokens.PrivateSteps.{private_same, private_out, valid_same}
use Rattle.swc_ecma_codegen_tokens.proofs.Gaps.Starting.{plain_class}
use Rattle.swc_ecma_codegen_tokens.proofs.LiteralTokens.TemplateLaws.{Inside, position_inside}
use Rattle.swc_ecma_codegen_tokens.proofs.Reading.Texts.{Adds, adds_written, adds_more, owns, spelled_one}
use Rattle.swc_ecma_codegen_tokens.proofs.Reading.Laid.{Lays}
use Rattle.swc_ecma_codegen_tokens.proofs.Reading.TokenLays.{Spelled}

-- ---- its spelling

hash_utf8 : IsUtf8 (codes "#")
unfolding chars is_utf8 lib.Utf8.encode
hash_utf8 = IsUtf8-from_is_utf8 (codes "#") refl

hash_chars : chars (codes "#") ≡ codes "#"
unfolding chars lib.Utf8.encode
hash_chars = refl

spelling_chars : (t : List ℕ) → chars (private_spelling t) ≡ codes "#" ++ chars t
spelling_chars t = chars-append (codes "#") t hash_utf8 ∙ ap (λ z. z ++ chars t) hash_chars

hashed_shape : (u : List ℕ) → is_name u ≡ true → is_private_name (codes "#" ++ u) ≡ true
unfolding is_private_name
hashed_shape u h = and_from (35 == 35) (is_name u) refl h

private_spelled : (t : List ℕ) → is_utf8 t ≡ true → is_name (chars t) ≡ true → Spelled PrivateName (private_spelling t)
unfolding spelling has_shape is_child is_hashbang_kind last_after allows
private_spelled t u h = record {
  utf8 = IsUtf8-append (codes "#") t hash_utf8 (IsUtf8-from_is_utf8 t u);
  same = refl;
  shape = ap is_private_name (spelling_chars t) ∙ hashed_shape (chars t) h;
  no_child = λ e. true≢false (sym e);
  no_hashbang = λ e. true≢false (sym e);
  allowed = λ k v. refl;
  some = λ e. cc;
}

private_value : (t : List ℕ) → token_of PrivateName (spelling PrivateName (private_spelling t)) ≡ lexical.private_name (name_value (chars t))
unfolding token_of value_of spelling lexical.private_name private_name_value
private_value t = ap (λ z. token_of PrivateName z) (spelling_chars t)

-- what follows the mark doesn't matter
private_class : (t : List ℕ) → start_class (chars (private_spelling t)) ≡ start_class (chars (codes "#"))
private_class t =
    ap start_class (spelling_chars t) ∙ plain_class 35 (chars t) (λ e. omega (arith, e)) (λ e. omega (arith, e))
    ∙ sym (ap start_class hash_chars ∙ plain_class 35 [] (λ e. omega (arith, e)) (λ e. omega (arith, e)))

-- ---- its calls

last_step : List ℕ → Step
last_step t = Ends ((PrivateName, private_spelling t) ∷ []) (Symbol dummy_span t)

abbrev all_steps : List Step → List ℕ → List Step
all_steps inner t = Guard (codes "#") ∷ Plain (Punct None (codes "#")) ∷ (inner ++ (last_step t ∷ []))

name_adds : (t : List ℕ) (a b : Sheet) → holds_one a.semicolons ≡ false → fills_lines a.lines ≡ false → (t ≡ [] → ⊥) → Adds (codes "#") a b → Adds (private_spelling t) a (written (Some dummy_span) t (settled b))
name_adds [] a b o n some h = absurd (some refl)
name_adds (c ∷ cs) a b o n some h = subst (λ z. Adds (private_spelling (c ∷ cs)) a (written (Some dummy_span) (c ∷ cs) z)) (sym (still_settled (codes "#") a b o h)) (adds_more (codes "#") (c ∷ cs) a b _ h (adds_written (Some dummy_span) c cs b (h.fills ∙ n)))

hash_put : State → State
hash_put s = put (Plain (Punct None (codes "#"))) s

hash_adds : (s : State) → fills_lines (settled s.sheet).lines ≡ false → Adds (codes "#") (settled s.sheet) (hash_put s).sheet
unfolding hash_put put effect before_punct is_ending
hash_adds s n = adds_written None 35 [] (settled s.sheet) n

last_adds : (t : List ℕ) (a : Sheet) (s : State) → Adds (private_spelling t) a (written (Some dummy_span) t (settled s.sheet)) → Adds (private_spelling t) a (run (last_step t ∷ []) s).sheet
unfolding last_step run put effect
last_adds t a s h = h

last_last : (t : List ℕ) (s : State) (k : State) → (run (last_step t ∷ []) s).last ≡ after_tokens ((PrivateName, private_spelling t) ∷ []) k.last
unfolding last_step run put after_tokens after_token last_after
last_last t s k = refl

steps_run : (inner : List Step) (t : List ℕ) (s : State) → run (Plain (Punct None (codes "#")) ∷ (inner ++ (last_step t ∷ []))) s ≡ run (last_step t ∷ []) (run inner (hash_put s))
unfolding hash_put run
steps_run inner t s = run_append inner (last_step t ∷ []) (put (Plain (Punct None (codes "#"))) s)

steps_add : {env : Env} (span : Span) (h : Inside env (position span.lo) [] false) (t : List ℕ) (s : State) → (t ≡ [] → ⊥) → fills_lines (settled s.sheet).lines ≡ false → Adds (private_spelling t) (settled s.sheet) (run (last_step t ∷ []) (run h.steps (hash_put s))).sheet
steps_add span h t s some n =
    let a : Sheet = settled s.sheet in
    let o = settled_none s.sheet in
    last_adds t a (run h.steps (hash_put s)) (name_adds t a (run h.steps (hash_put s)).sheet o n some (h.adds (codes "#") a (hash_put s) o n (hash_adds s n)))

token_lays : {env : Env} (span : Span) (h : Inside env (position span.lo) [] false) (t : List ℕ) → Spelled PrivateName (private_spelling t) → (t ≡ [] → ⊥) → (s : State) → AtRest s → Lays (token_of PrivateName (spelling PrivateName (private_spelling t)) ∷ []) s (run (all_steps h.steps t) s)
unfolding owns tokens_of run
token_lays span h t p some s r =
    let there : State = put (Guard (codes "#")) s in
    let all : State = run (Plain (Punct None (codes "#")) ∷ (h.steps ++ (last_step t ∷ []))) there in
    let same = steps_run h.steps t there in
    let P : State → Type 0 = λ z. Adds (private_spelling t) (settled there.sheet) z.sheet in
    lays_guarded ((PrivateName, private_spelling t) ∷ []) (private_spelling t) (codes "#") s all (spelled_one PrivateName (private_spelling t) p) (private_class t) r
    (λ n. subst P (sym same) (steps_add span h t there some n)) (ap (λ (z : State). z.last) same ∙ last_last t (run h.steps (hash_put there)) there)

token_is : {env : Env} (span : Span) (h : Inside env (position span.lo) [] false) (t : List ℕ) (rest : Plan) → words.private_token span t rest env ≡ chain (all_steps h.steps t) (rest env)
unfolding words.private_token words.hashed last_step step chain after_step
token_is {env} span h t rest =
    ap (chain (Guard (codes "#") ∷ Plain (Punct None (codes "#")) ∷ [])) (h.is_steps (words.hashed t rest) ∙ sym (chain_append h.steps (last_step t ∷ []) (rest env)))

-- ---- what it hands over

steps_ascii : (inner : List Step) (t : List ℕ) → are_ascii inner ≡ true → is_ascii_text t ≡ true → are_ascii (all_steps inner t) ≡ true
unfolding last_step are_ascii text_of
steps_ascii inner t h a = ascii_append inner (last_step t ∷ []) ∙ and_from (are_ascii inner) (are_ascii (last_step t ∷ [])) h (and_from (is_ascii_text t) true a refl)

steps_keep : (inner : List Step) (t : List ℕ) → keeps_other inner ≡ false → keeps_other (all_steps inner t) ≡ false
unfolding last_step keeps_other is_other_piece is_kept_piece is_other_end is_kept_end
steps_keep inner t h = keeps_append inner (last_step t ∷ []) ∙ or_from (keeps_other inner) false h refl

no_strings_in : (inner : List Step) (t : List ℕ) → has_string inner ≡ false → has_string (all_steps inner t) ≡ false
unfolding last_step has_string
no_strings_in inner t h = has_append inner (last_step t ∷ []) ∙ or_from (has_string inner) false h refl

no_text_in : (inner : List Step) (t : List ℕ) → makes_text inner ≡ false → makes_text (all_steps inner t) ≡ false
unfolding last_step makes_text
no_text_in inner t h = remakes_append inner (last_step t ∷ []) ∙ or_from (makes_text inner) false h refl

no_levels : (inner : List Step) (t : List ℕ) → levels inner ≡ 0 → levels (all_steps inner t) ≡ 0
unfolding last_step levels rise
no_levels inner t h = let e = levels_append inner (last_step t ∷ []) in omega (arith, e, h)

all_silent : (inner : List Step) (t : List ℕ) → takes_none inner ≡ true → takes_none (all_steps inner t) ≡ true
unfolding last_step takes_none
all_silent inner t h = takes_append inner (last_step t ∷ []) ∙ and_from (takes_none inner) true h refl

writes_token : (env : Env) (span : Span) (t : List ℕ) → Spelled PrivateName (private_spelling t) → (t ≡ [] → ⊥) → (env.config.ascii_only ≡ true → is_ascii_text t ≡ true) → Writes env (words.private_token span t) (token_of PrivateName (spelling PrivateName (private_spelling t)) ∷ [])
writes_token env span t p some a =
    record {
      from = λ maps.
          let v : Env = at_maps maps env in
          let h = position_inside v span.lo false in
          from_silently v (words.private_token span t) (all_steps h.steps t) _ (all_silent h.steps t h.silent) (λ rest. token_is span h t rest)
          (λ s r. token_lays span h t p some s r)
          (λ e. sym (no_text_in h.steps t h.remakes) ∙ e)
          (let none = no_levels h.steps t h.level in omega (arith, none))
          (hands_by_settings v (all_steps h.steps t) _ (λ e. steps_ascii h.steps t (h.ascii refl) (a e)) (steps_keep h.steps t (h.others refl)) (λ e. absurd (true≢false (sym e ∙ no_strings_in h.steps t h.strings))));
    }

writes_symbol : (env : Env) (span : Span) (t : List ℕ) → Spelled PrivateName (private_spelling t) → (t ≡ [] → ⊥) → (env.config.ascii_only ≡ true → is_ascii_text t ≡ true) → Writes env (words.private_symbol span t) (token_of PrivateName (spelling PrivateName (private_spelling t)) ∷ [])
unfolding words.private_symbol
writes_symbol env span t p some a =
    writes_then env (step (Guard (codes "#"))) _ [] _ (writes_guard env (codes "#")) (writes_then env (position span.lo) (words.private_token span t) [] _ (writes_position env span.lo) (writes_token env span t p some a))

-- ---- by its bytes in the tree

writes_spelled : (env : Env) (span : Span) (t : List ℕ) → is_out_name env.config t ≡ false → Spelled PrivateName (private_spelling (in_ascii env.config t)) → (in_ascii env.config t ≡ [] → ⊥) → (env.config.ascii_only ≡ true → is_ascii_text (in_ascii env.config t) ≡ true) → Makes env (words.spelled_private span t) (token_of PrivateName (spelling PrivateName (private_spelling (in_ascii env.config t))) ∷ []) (wants_escapes env.config t)
writes_spelled env span t o p some a =
    let u : List ℕ = in_ascii env.config t in
    let due : Bool = wants_escapes env.config t in
    writes_same env (words.spelled_private span t) (λ rest. step (Remake due) (words.private_symbol span u rest)) _ (λ maps rest. private_same span t rest (at_maps maps env) o)
    (subst (λ z. Makes env (λ rest. step (Remake due) (words.private_symbol span u rest)) (token_of PrivateName (spelling PrivateName (private_spelling u)) ∷ []) z) (or_false due)
    (writes_then env (step (Remake due)) (words.private_symbol span u) [] _ (writes_remake env due) (writes_symbol env span u p some a)))

writes_text : (env : Env) (span : Span) (bytes : List ℕ) → env.keeps_invalid ≡ false → is_out_name env.config (turned bytes) ≡ false → Spelled PrivateName (private_spelling (written_name env.config bytes)) → (written_name env.config bytes ≡ [] → ⊥) → (env.config.ascii_only ≡ true → is_ascii_text (written_name env.config bytes) ≡ true) → Makes env (words.private_text span bytes) (token_of PrivateName (spelling PrivateName (private_spelling (written_name env.config bytes))) ∷ []) (has_backslash bytes || wants_escapes env.config (turned bytes))
unfolding words.valid_private written_name
writes_text env span bytes e o p some a =
    writes_same env (words.private_text span bytes) (words.valid_private span bytes) _ (λ maps rest. valid_same span bytes rest (at_maps maps env) e)
    (writes_then env (step (Remake (has_backslash bytes))) (words.spelled_private span (turned bytes)) [] _ (writes_remake env (has_backslash bytes)) (writes_spelled env span (turned bytes) o p some a))

name_out : (env : Env) (span : Span) (bytes : List ℕ) (rest : Plan) → env.keeps_invalid ≡ false → is_out_name env.config (turned bytes) ≡ true → unprintable_in (words.private_text span bytes rest env) ≡ Some NameOutOfTarget
unfolding words.valid_private step refuse unprintable_in after_step
name_out env span bytes rest e o = ap unprintable_in (valid_same span bytes rest env e) ∙ ap unprintable_in (private_out span (turned bytes) rest env o)

some_name : (t : List ℕ) → is_name (chars t) ≡ true → t ≡ [] → ⊥
unfolding is_name name_rest chars lib.Utf8.encode
some_name [] h e = true≢false (sym h)
some_name (c ∷ cs) h e = cc

prints_text : (env : Env) (span : Span) (bytes : List ℕ) → env.keeps_invalid ≡ false → Prints env (words.private_text span bytes) (PrivateOf bytes)
unfolding plain_phrase Generates is_possible is_out may_make_text names_in is_str spelled_name token_of
prints_text env span bytes e = record {
  where_possible = λ w o maps.
      let h = name_written env.config bytes w o in
      let t : List ℕ = written_name env.config bytes in
      let m = writes_text env span bytes e o (private_spelled t h.utf8 h.shape) (some_name t h.shape) h.ascii in
      record {
        tokens = _;
        generated = ap (λ z. z ∷ []) (private_value t) ∙ ap (λ z. lexical.private_name z ∷ []) h.value;
        plain = λ e. ap (λ z. z ∷ []) (private_value t) ∙ ap (λ z. lexical.private_name z ∷ []) h.value;
        writes = m.from maps;
        named = no_names (at_maps maps env) (words.private_text span bytes);
        placed = placed_none (at_maps maps env) (words.private_text span bytes) (PrivateOf bytes) _ refl (ap (λ z. z ∷ []) (private_value t) ∙ ap (λ z. lexical.private_name z ∷ []) h.value);
        safe = no_string m refl maps;
      };
  where_out = λ w o maps rest. name_out (at_maps maps env) span bytes rest e o;
}

pub prints_private : (env : Env) (span : Span) (bytes : List ℕ) → env.keeps_invalid ≡ false → Prints env (words.private_name span bytes) (PrivateOf bytes)
unfolding words.private_name
prints_private env span bytes e = after (writes_leading env span.lo) (before (prints_text env span bytes e) (writes_position env span.hi))
