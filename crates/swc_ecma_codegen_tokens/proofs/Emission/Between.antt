-- A punctuator between two blanks, by one call.
use Rattle.std.proofs.Common.{◌≡◌, inl, inr, ℕ, Bool, true, false, cond, List, ◌++◌, codes, None, Result, Ok, Err, OnOk, OnErr, refl, sym, ◌∙◌, ap, subst}
use Rattle.std.specs.Str.{chars}
use Rattle.std.proofs.lemmas.Bool.{cases_Bool}
use Rattle.swc_ecma_codegen_common.specs.declared.errors.Refusal.{Refusal}
use Rattle.swc_ecma_codegen_settings.specs.declared.config.Config.{Config}
use Rattle.swc_ecma_codegen_grammar.specs.declared.kinds.Kind.TheVariants.{Punctuator}
use Rattle.swc_ecma_codegen_grammar.specs.GapRules as rules
use Rattle.swc_ecma_codegen_grammar.specs.GapRules.{last_after}
use Rattle.swc_ecma_codegen_grammar.specs.SourceLines.{no_lines}
use Rattle.swc_ecma_codegen_grammar.specs.Comments.{no_maps}
use Rattle.swc_ecma_codegen_literals.specs.Punctuators.{spelling as spelled}
use Rattle.swc_ecma_codegen_literals.specs.declared.punctuators.Punctuator.{Punctuator as Mark}
use Rattle.swc_ecma_codegen_text_writer.specs.Sheet.{Sheet, Item, Str, Space, Operator, Punct, is_settled, written, effect, Writes, Refuses, earlier, stopped}
use Rattle.swc_ecma_codegen_tokens.specs.declared.LowerEmitter.{LowerEmitter}
use Rattle.swc_ecma_codegen_tokens.specs.declared.previous.PreviousToken.{PreviousToken}
use Rattle.swc_ecma_codegen_tokens.specs.declared.previous.PreviousToken.TheVariants as last
use Rattle.swc_ecma_codegen_tokens.specs.PreviousToken.{last_at, class_of, after_mark}
use Rattle.swc_ecma_codegen_tokens.specs.Between.{in_blanks, is_within, last_between}
use Rattle.swc_ecma_codegen_tokens.specs.View.{state_of}
use Rattle.swc_ecma_codegen_tokens.specs.Words.{space, operator, operator_between, bare_punct, punct, punct_between, break_behind}
use Rattle.swc_ecma_codegen_tokens.specs.Run.{unlined, is_bounded, Plan, Part, State, Step, Guard, Token, Plain, step, put, text_of, spelling as characters, after_token, after_plain, IsRefused, Follows, Does, with_source}
use Rattle.swc_ecma_codegen_tokens.proofs.Emission.Emitting.{does_step, emits_refused, refused_lines}
use Rattle.swc_ecma_codegen_tokens.proofs.Emission.Calls.{passed, effect_keeps, unbounded_behind}
use Rattle.swc_ecma_codegen_tokens.proofs.Emission.OneText.{WritesPlain, written_both, space_plain, str_plain, operator_plain, punct_plain, still_settled, still_bare, stops_first, stops_later}
use Rattle.swc_ecma_codegen_tokens.proofs.Gaps.AfterBlanks.{apart_alone}
use Rattle.swc_ecma_codegen_tokens.proofs.Gaps.AfterPunctuators.{after_is}

-- a blank, a token by its call, what does nothing, and a blank
abbrev pub in_steps : List ℕ → Item → Part → Part
in_steps t x mid rest = step (Plain Space) (step (Guard t) (step (Token Punctuator x) (mid (step (Plain Space) rest))))

-- ---- the sheets on the way

abbrev blank : List ℕ
blank = codes " "

abbrev first : Sheet → Sheet
first s = written None blank s

abbrev second : List ℕ → Sheet → Sheet
second t s = written None t (first s)

abbrev third : List ℕ → Sheet → Sheet
third t s = written None blank (second t s)

-- one text is these three
as_three : (t : List ℕ) (s : Sheet) → written None (in_blanks t) s ≡ third t s
as_three t s = written_both blank (t ++ blank) s ∙ written_both t blank (first s)

by_calls : (t : List ℕ) (x : Item) (s : Sheet) → WritesPlain t x → is_settled s.semicolons ≡ true → effect x (effect Space s) ≡ second t s
by_calls t x s plain q = ap (effect x) (space_plain s q) ∙ plain (first s) (still_settled blank s q)

by_three : (t : List ℕ) (x : Item) (s : Sheet) → WritesPlain t x → is_settled s.semicolons ≡ true → effect Space (effect x (effect Space s)) ≡ third t s
by_three t x s plain q = ap (effect Space) (by_calls t x s plain q) ∙ space_plain (second t s) (still_settled t (first s) (still_settled blank s q))

-- ---- where it was stopped

-- no more is out than the first blank
stops_blank : (t : List ℕ) (e : Refusal) (s new : Sheet) → is_settled s.semicolons ≡ true → s.keeps_positions ≡ false → is_within new (first s) ≡ true → Refuses (Str (in_blanks t)) e s new → Refuses Space e s new
stops_blank t e s new q bare w h = stops_first blank (t ++ blank) Space e s new space_plain q bare w h

-- the first blank is out, and no more than the token
stops_token : (t : List ℕ) (x : Item) (e : Refusal) (s new : Sheet) → WritesPlain t x → is_settled s.semicolons ≡ true → s.keeps_positions ≡ false → is_within new (first s) ≡ false → is_within new (second t s) ≡ true → Refuses (Str (in_blanks t)) e s new → Refuses x e (first s) new
stops_token t x e s new plain q bare w v h =
    stops_first t blank x e (first s) new plain (still_settled blank s q) (still_bare blank s bare) v (stops_later blank (t ++ blank) (Str (t ++ blank)) e s new (str_plain (t ++ blank)) q bare w h)

-- the token is out
stops_last : (t : List ℕ) (e : Refusal) (s new : Sheet) → is_settled s.semicolons ≡ true → s.keeps_positions ≡ false → is_within new (first s) ≡ false → is_within new (second t s) ≡ false → Refuses (Str (in_blanks t)) e s new → Refuses Space e (second t s) new
stops_last t e s new q bare w v h =
    stops_later t blank Space e (first s) new space_plain (still_settled blank s q) (still_bare blank s bare) v (stops_later blank (t ++ blank) (Str (t ++ blank)) e s new (str_plain (t ++ blank)) q bare w h)

-- ---- as steps

after_blank : (mark : Mark) → last_at (last.Mark mark) ≡ after_token Punctuator (spelled mark) rules.Separated
unfolding last_at class_of after_mark after_token last_after characters
after_blank mark = after_is last.Separated mark

does_refused : (y : Step) (e : Refusal) (a b : State) → a.failed ≡ false → b ≡ record a { sheet = b.sheet; failed = true } → IsRefused y e a b.sheet → Does (step y) a b (Err e)
unfolding with_source
does_refused y e a b f eq h = λ lines maps. emits_refused y e (with_source lines maps a) (with_source lines maps b) f (ap (with_source lines maps) eq) (refused_lines y e a b.sheet lines maps h)

refuses_keeps : {x : Item} {e : Refusal} (old new : Sheet) → Refuses x e old new → new.keeps_invalid ≡ old.keeps_invalid
refuses_keeps old new (earlier h k eq) = ap (λ (s : Sheet). s.keeps_invalid) eq
refuses_keeps old new (stopped h k s) = ap (λ (z : Sheet). z.keeps_invalid) s.same

module _ (mark : Mark) (x : Item) (mid : Part) (config : Config) (e f : LowerEmitter) (old new : Sheet) where
  abbrev t : List ℕ
  t = spelled mark

  abbrev a : State
  a = state_of config old e

  abbrev b : State
  b = state_of config new f

  abbrev a₁ : State
  a₁ = put (Plain Space) a

  abbrev a₂ : State
  a₂ = put (Token Punctuator x) a₁

  abbrev a₃ : State
  a₃ = put (Plain Space) a₂

  abbrev Idle : Type 0
  Idle = (s : State) → s.env ≡ a.env → Does mid s s (Ok tt)

  blank_done : e.failed ≡ false → Does (step (Plain Space)) a a₁ (Ok tt)
  blank_done fresh = does_step (Plain Space) a a₁ refl fresh refl

  none_due : e.failed ≡ false → Does (step (Guard t)) a₁ a₁ (Ok tt)
  unfolding put after_plain
  none_due fresh = passed t a₁ fresh (apart_alone (chars t))

  token_done : e.failed ≡ false → Does (step (Token Punctuator x)) a₁ a₂ (Ok tt)
  unfolding put
  token_done fresh = does_step (Token Punctuator x) a₁ a₂ refl fresh refl

  last_done : e.failed ≡ false → Does (step (Plain Space)) a₂ a₃ (Ok tt)
  unfolding put
  last_done fresh = does_step (Plain Space) a₂ a₃ refl fresh refl

  idle_done : Idle → Does mid a₂ a₂ (Ok tt)
  unfolding put
  idle_done idle = idle a₂ refl

  made : WritesPlain t x → is_settled old.semicolons ≡ true → new ≡ effect (Str (in_blanks t)) old → f.token.value ≡ last.Separated → f.failed ≡ e.failed → b ≡ a₃
  unfolding put after_plain last_at
  made plain q w l n =
      let sheet : new ≡ effect Space (effect x (effect Space old)) = w ∙ str_plain (in_blanks t) old q ∙ as_three t old ∙ sym (by_three t x old plain q) in
      λ i. record { env = record { config = unlined config; max_line = config.max_line; keeps_invalid = (ap (λ (s : Sheet). s.keeps_invalid) w ∙ effect_keeps (Str (in_blanks t)) old) i; lines = no_lines; maps = no_maps }; sheet = sheet i; last = last_at (l i); failed = n i }

  all_done : WritesPlain t x → Idle → e.failed ≡ false → is_settled old.semicolons ≡ true → new ≡ effect (Str (in_blanks t)) old → f.token.value ≡ last.Separated → f.failed ≡ e.failed → Does (in_steps t x mid) a b (Ok tt)
  all_done plain idle fresh q w l n lines maps rest c r h =
      let p₃ : Plan = step (Plain Space) rest in
      let p₂ : Plan = step (Token Punctuator x) (mid p₃) in
      let there : Follows rest (with_source lines maps a₃) c r = subst (λ (s : State). Follows rest (with_source lines maps s) c r) (made plain q w l n) h in
      blank_done fresh lines maps (step (Guard t) p₂) c r (none_due fresh lines maps p₂ c r (token_done fresh lines maps (mid p₃) c r (idle_done idle lines maps p₃ c r (last_done fresh lines maps rest c r there))))

  refused_first : (er : Refusal) → e.failed ≡ false → f.token.value ≡ e.token.value → f.failed ≡ true → Refuses Space er old new → Does (in_steps t x mid) a b (Err er)
  unfolding IsRefused
  refused_first er fresh l n w =
      let eq : b ≡ record a { sheet = new; failed = true } =
      (λ i. record { env = record { config = unlined config; max_line = config.max_line; keeps_invalid = refuses_keeps old new w i; lines = no_lines; maps = no_maps }; sheet = new; last = last_at (l i); failed = n i }) in
      λ lines maps rest. does_refused (Plain Space) er a b fresh eq w lines maps (step (Guard t) (step (Token Punctuator x) (mid (step (Plain Space) rest))))

  refused_second : (er : Refusal) → e.failed ≡ false → new.keeps_invalid ≡ old.keeps_invalid → is_settled old.semicolons ≡ true → f.token.value ≡ last.Separated → f.failed ≡ true → Refuses x er (first old) new → Does (in_steps t x mid) a b (Err er)
  unfolding IsRefused put after_plain last_at
  refused_second er fresh keeps q l n w =
      let eq : b ≡ record a₁ { sheet = new; failed = true } =
      (λ i. record { env = record { config = unlined config; max_line = config.max_line; keeps_invalid = keeps i; lines = no_lines; maps = no_maps }; sheet = new; last = last_at (l i); failed = n i }) in
      let there : Refuses x er (effect Space old) new = subst (λ (z : Sheet). Refuses x er z new) (sym (space_plain old q)) w in
      let p₂ : Plan → Plan = λ rest. step (Token Punctuator x) (mid (step (Plain Space) rest)) in
      λ lines maps rest. blank_done fresh lines maps (step (Guard t) (p₂ rest)) _ _ (none_due fresh lines maps (p₂ rest) _ _ (does_refused (Token Punctuator x) er a₁ b fresh eq there lines maps (mid (step (Plain Space) rest))))

  refused_third : (er : Refusal) → WritesPlain t x → Idle → text_of x ≡ t → e.failed ≡ false → new.keeps_invalid ≡ old.keeps_invalid → is_settled old.semicolons ≡ true → f.token.value ≡ last.Mark mark → f.failed ≡ true → Refuses Space er (second t old) new → Does (in_steps t x mid) a b (Err er)
  unfolding IsRefused put after_plain
  refused_third er plain idle text fresh keeps q l n w =
      let token : last_at f.token.value ≡ after_token Punctuator (text_of x) rules.Separated = ap last_at l ∙ after_blank mark ∙ ap (λ z. after_token Punctuator z rules.Separated) (sym text) in
      let eq : b ≡ record a₂ { sheet = new; failed = true } =
      (λ i. record { env = record { config = unlined config; max_line = config.max_line; keeps_invalid = keeps i; lines = no_lines; maps = no_maps }; sheet = new; last = token i; failed = n i }) in
      let there : Refuses Space er (effect x (effect Space old)) new = subst (λ (z : Sheet). Refuses Space er z new) (sym (by_calls t x old plain q)) w in
      let p₂ : Plan → Plan = λ rest. step (Token Punctuator x) (mid (step (Plain Space) rest)) in
      λ lines maps rest. blank_done fresh lines maps (step (Guard t) (p₂ rest)) _ _ (none_due fresh lines maps (p₂ rest) _ _ (token_done fresh lines maps (mid (step (Plain Space) rest)) _ _ (idle_done idle lines maps (step (Plain Space) rest) _ _ (does_refused (Plain Space) er a₂ b fresh eq there lines maps rest))))

  refused : (er : Refusal) → WritesPlain t x → Idle → text_of x ≡ t → e.failed ≡ false → is_settled old.semicolons ≡ true → old.keeps_positions ≡ false → Refuses (Str (in_blanks t)) er old new → f.token.value ≡ last_between mark e.token.value old new → f.failed ≡ true → Does (in_steps t x mid) a b (Err er)
  unfolding last_between
  refused er plain idle text fresh q bare w l n =
      let keeps = refuses_keeps old new w in
      let rest : Bool → PreviousToken = λ z. cond z last.Separated (last.Mark mark) in
      elim (cases_Bool (is_within new (first old))) [
        | inl h ↦ refused_first er fresh (l ∙ ap (λ z. cond z e.token.value (rest (is_within new (second t old)))) h) n (stops_blank t er old new q bare h w)
        | inr h ↦ elim (cases_Bool (is_within new (second t old))) [
          | inl k ↦ refused_second er fresh keeps q (l ∙ ap (λ z. cond z e.token.value (rest (is_within new (second t old)))) h ∙ ap rest k) n (stops_token t x er old new plain q bare h k w)
          | inr k ↦ refused_third er plain idle text fresh keeps q (l ∙ ap (λ z. cond z e.token.value (rest (is_within new (second t old)))) h ∙ ap rest k) n (stops_last t er old new q bare h k w)
        ]
      ]

  does_between : (r : Result (Unit {0}) Refusal) → WritesPlain t x → Idle → text_of x ≡ t → e.failed ≡ false → is_settled old.semicolons ≡ true → old.keeps_positions ≡ false
      → Writes (Str (in_blanks t)) old new r
      → OnOk r ((f.token.value ≡ last.Separated) × (f.failed ≡ e.failed))
      → OnErr r ((f.token.value ≡ last_between mark e.token.value old new) × (f.failed ≡ true))
      → Does (in_steps t x mid) a b r
  unfolding Writes
  does_between (Ok u) plain idle text fresh q bare w ok err = all_done plain idle fresh q w.1 ok.0 ok.1
  does_between (Err er) plain idle text fresh q bare w ok err = refused er plain idle text fresh q bare w err.0 err.1

pub operator_is_between : (mark : Mark) (config : Config) (e f : LowerEmitter) (old new : Sheet) (r : Result (Unit {0}) Refusal)
    → e.failed ≡ false → is_settled old.semicolons ≡ true → old.keeps_positions ≡ false
    → Writes (Str (in_blanks (spelled mark))) old new r
    → OnOk r ((f.token.value ≡ last.Separated) × (f.failed ≡ e.failed))
    → OnErr r ((f.token.value ≡ last_between mark e.token.value old new) × (f.failed ≡ true))
    → Does (operator_between (spelled mark)) (state_of config old e) (state_of config new f) r
unfolding operator_between operator space text_of
operator_is_between mark config e f old new r fresh q bare w ok err =
    does_between mark (Operator None (spelled mark)) (λ rest. rest) config e f old new r (operator_plain (spelled mark)) (λ s same lines maps rest c z h. h) refl fresh q bare w ok err

-- a punctuator, where lines aren't bounded
pub punct_is_between : (mark : Mark) (config : Config) (e f : LowerEmitter) (old new : Sheet) (r : Result (Unit {0}) Refusal)
    → is_bounded (state_of config old e).env ≡ false → e.failed ≡ false → is_settled old.semicolons ≡ true → old.keeps_positions ≡ false
    → Writes (Str (in_blanks (spelled mark))) old new r
    → OnOk r ((f.token.value ≡ last.Separated) × (f.failed ≡ e.failed))
    → OnErr r ((f.token.value ≡ last_between mark e.token.value old new) × (f.failed ≡ true))
    → Does (punct_between (spelled mark)) (state_of config old e) (state_of config new f) r
unfolding punct_between punct bare_punct space text_of
punct_is_between mark config e f old new r bounds fresh q bare w ok err =
    does_between mark (Punct None (spelled mark)) (break_behind (spelled mark)) config e f old new r (punct_plain (spelled mark))
    (λ s same. unbounded_behind (spelled mark) s (ap is_bounded same ∙ bounds)) refl fresh q bare w ok err
