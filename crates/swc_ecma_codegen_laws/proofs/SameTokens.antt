-- Two emissions of one tree under the same settings.
use Rattle.std.proofs.Common.{◌≡◌, ℕ, Bool, true, false, not, refl, sym, ap, ◌∙◌, subst, List, [], ◌∷◌, ◌++◌, inl, inr, Ok}
use Rattle.std.proofs.lemmas.Bool.{not-false}
use Rattle.swc_ecma_codegen_grammar.specs.Layouts.{AreAlike, Alongside, leaves_open}
use Rattle.swc_ecma_codegen_grammar.specs.Phrases.{Phrase, Nothing, One, ◌>◌, Generates}
use Rattle.swc_ecma_codegen_grammar.specs.Settings.{Settings}
use Rattle.swc_ecma_codegen_grammar.specs.Comments.{AreClosed}
use Rattle.swc_ecma_codegen_grammar.specs.Tokens.{Token}
use Rattle.swc_ecma_codegen_grammar.specs.Trivia.{Remark}
use Rattle.swc_ecma_codegen_grammar.proofs.LayoutLaws.{alongside, one_list}
use Rattle.swc_ecma_codegen_text_writer.specs.Filling.{text_of}
use Rattle.swc_ecma_codegen_text_writer.specs.Runs.{cut_from_here}
use Rattle.swc_ecma_codegen_text_writer.specs.Sheet.{Sheet}
use Rattle.swc_ecma_codegen_settings.specs.declared.config.Config.{Config}
use Rattle.swc_ecma_codegen_tokens.specs.Run.{Env, State, Step, Follows, nothing, run, steps_of}
use Rattle.swc_ecma_codegen_tokens.specs.Settings.{settings_of}
use Rattle.swc_ecma_codegen_tokens.specs.Written.{ReadsAs, IsNew, IsAtMargin, AddsReading, AddsText, taken_remarks}
use Rattle.swc_ecma_codegen_emit.specs.Roots.{Root, is_program, root_items, root_phrase, is_well_formed_root, MayBegin}
use Rattle.swc_ecma_codegen_tokens.specs.Targets.{is_out}
use Rattle.swc_ecma_codegen_tokens.proofs.Filling.CutReads.{cut_reads}
use Rattle.swc_ecma_codegen_tokens.proofs.Filling.Filled.{filled, run_calls, steps_fill}
use Rattle.swc_ecma_codegen_tokens.proofs.Filling.FilledTexts.{lined_steps, lined_remarks}
use Rattle.swc_ecma_codegen_tokens.proofs.Reading.Printed.{remarks_by}
use Rattle.swc_ecma_codegen_tokens.proofs.Reading.Phrased.{laid_reads, new_at_rest, taken_closed, PrintsAt}
use Rattle.swc_ecma_codegen_tokens.proofs.Emission.PartSteps.{steps_alone}
use Rattle.swc_ecma_codegen_emit.specs.Roots.{root_hashbang}
use Rattle.swc_ecma_codegen_emit.proofs.ByItself.{root_shape, root_stands}
use Rattle.swc_ecma_codegen_emit.proofs.InLines.{InLines}
use Rattle.swc_ecma_codegen_emit.proofs.TreeReads.{root_in_target, root_reads}
use Rattle.swc_ecma_codegen_laws.specs.SameTokens.{AddTokensAlike, AddOneList}

like_itself : (s : Settings) → AreAlike s s
like_itself s = record { target = refl; ascii_only = refl; assert_for_attributes = refl }

pub texts_alike : (config : Config) (holds : Bool) (phrase : Phrase) (first second : List Remark) (us vs : List ℕ) → (x : ReadsAs config holds phrase first us) → (y : ReadsAs config holds phrase second vs) → Alongside (settings_of config) (settings_of config) phrase x.tokens y.tokens
texts_alike config holds phrase first second us vs x y = alongside (settings_of config) (settings_of config) phrase x.tokens y.tokens (like_itself (settings_of config)) x.is_list y.is_list

pub texts_same : (config : Config) (phrase : Phrase) (first second : List Remark) (us vs : List ℕ) → leaves_open phrase ≡ false → (x : ReadsAs config false phrase first us) → (y : ReadsAs config false phrase second vs) → x.written ≡ y.written
texts_same config phrase first second us vs e x y = x.whole refl ∙ one_list (settings_of config) phrase x.tokens y.tokens e x.is_list y.is_list ∙ sym (y.whole refl)

pub emissions_alike : (root : Root) (a b c d : State) → is_well_formed_root root ≡ true → MayBegin root a → MayBegin root c → AreClosed a.env.maps → AreClosed c.env.maps → a.env.config ≡ c.env.config
    → Follows (root_items root nothing) a b (Ok tt) → Follows (root_items root nothing) c d (Ok tt)
    → AddTokensAlike c.env.config (root_phrase root) (taken_remarks (root_items root) a.env) (taken_remarks (root_items root) c.env) a.sheet b.sheet c.sheet d.sheet
emissions_alike root a b c d w s t k m e f g =
    let x = root_reads root a b (Ok tt) f w s k in
    let one = subst (λ z. AddsReading z (root_phrase root) (taken_remarks (root_items root) a.env) a.sheet b.sheet) e x in
    let other = root_reads root c d (Ok tt) g w t m in
    record {
      one = one;
      other = other;
      alike = alongside (settings_of c.env.config) (settings_of c.env.config) (root_phrase root) one.reading.tokens other.reading.tokens (like_itself (settings_of c.env.config)) one.reading.is_list other.reading.is_list;
    }

-- ---- where the environment is the same

-- the phrase of one list
exactly : List Token → Phrase
exactly [] = Nothing
exactly (x ∷ xs) = One x > exactly xs

has_list : (s : Settings) (ts : List Token) → Generates s (exactly ts) ts
unfolding Generates exactly
has_list s [] = refl
has_list s (x ∷ xs) = (x ∷ [], xs, refl, has_list s xs, refl)

has_no_other : (s : Settings) (ts us : List Token) → Generates s (exactly ts) us → us ≡ ts
unfolding Generates exactly
has_no_other s [] us g = g
has_no_other s (x ∷ xs) us g = g.4 ∙ ap (λ z. z ++ g.1) g.2 ∙ ap (λ z. x ∷ z) (has_no_other s xs g.1 g.3)

-- what reads as one list of a phrase reads as the phrase
as_phrase : (config : Config) (holds : Bool) (f : Phrase) (ts : List Token) (remarks : List Remark) (old new : List ℕ) → Generates (settings_of config) f ts → AddsText config holds (exactly ts) remarks old new → AddsText config holds f remarks old new
as_phrase config holds f ts remarks old new g x = record {
  added = x.added;
  is_added = x.is_added;
  reading = record {
    utf8 = x.reading.utf8;
    tokens = x.reading.tokens;
    is_list = subst (λ z. Generates (settings_of config) f z) (sym (has_no_other (settings_of config) ts x.reading.tokens x.reading.is_list)) g;
    written = x.reading.written;
    reduced = x.reading.reduced;
    whole = x.reading.whole;
    reads = x.reading.reads;
    keeps_lines = x.reading.keeps_lines;
  };
}

-- what is added reads as a list of the phrase, and as this one
record AddsThese (config : Config) (f : Phrase) (remarks : List Remark) (ts : List Token) (old new : Sheet) : Type 0 where
  adds : AddsReading config f remarks old new
  tokens : adds.reading.tokens ≡ ts

-- The steps of a root add one list, wherever its emission begins.
record AddsOne (root : Root) (env : Env) (steps : List Step) : Type 0 where
  tokens : List Token
  each : (s : State) → MayBegin root s → AddsThese env.config (root_phrase root) (remarks_by steps env) tokens s.sheet (run steps s).sheet

margin : (root : Root) (s : State) → MayBegin root s → not (root_hashbang root) ≡ false → IsAtMargin s
margin root s t e = t.at_margin (not-false (root_hashbang root) e)

-- without lines
plain_adds : (root : Root) (env : Env) → is_well_formed_root root ≡ true → is_out env.config (root_phrase root) ≡ false → AreClosed env.maps → PrintsAt (root_shape root) env (root_items root) (root_phrase root) → AddsOne root env (steps_of (root_items root nothing env))
unfolding as_phrase
plain_adds root env w o k prints =
    let config : Config = env.config in
    let h = prints.where_possible w o env.maps in
    let ts : List Token = h.tokens in
    let rs : List Remark = remarks_by h.writes.steps env in
    let P : List Step → Type 0 = λ z. AddsOne root env z in
    subst P (sym (steps_alone h.writes)) (record {
      tokens = ts;
      each = λ s t.
          let x : AddsReading config (exactly ts) rs s.sheet (run h.writes.steps s).sheet = laid_reads (not (root_hashbang root)) config (exactly ts) ts s (run h.writes.steps s) (has_list (settings_of config) ts) t.is_new (margin root s t) (h.writes.lays s (new_at_rest s t.is_new) (taken_closed h.writes.steps env.maps k)) in
          record { adds = as_phrase config _ (root_phrase root) ts rs _ _ h.generated x; tokens = has_no_other (settings_of config) ts x.reading.tokens x.reading.is_list };
    })

-- the same state, whose sheet is cut from here
abbrev cut_state : State → State
cut_state s = record s { sheet = cut_from_here s.sheet }

cut_new : (s : State) → IsNew s → IsNew (cut_state s)
cut_new s n = record { nothing_written = n.nothing_written; nothing_held = n.nothing_held; indent_text = n.indent_text; line_end = n.line_end; flowing = refl; leaves_out = n.leaves_out }

-- in lines: the text is cut where lines may be ended, and reads as without
lined_adds : (root : Root) (env : Env) → is_program root ≡ true → is_well_formed_root root ≡ true → is_out env.config (root_phrase root) ≡ false → AreClosed env.maps → InLines (root_shape root) env (root_items root) (root_phrase root) → AddsOne root env (steps_of (root_items root nothing env))
lined_adds root env program w o k lines =
    let config : Config = env.config in
    let f : Phrase = root_phrase root in
    let h = lines.prints.where_possible w o env.maps in
    let steps : List Step = h.writes.steps in
    let inner : steps_of (lines.inner nothing env) ≡ steps = steps_alone h.writes in
    let whole : List Step = steps_of (root_items root nothing env) in
    let same : whole ≡ filled lines.max steps = ap steps_of lines.same ∙ lined_steps lines.max lines.inner f env lines.prints w o ∙ ap (filled lines.max) inner in
    let taken : remarks_by whole env ≡ remarks_by steps env = ap (λ z. remarks_by (steps_of z) env) lines.same ∙ lined_remarks lines.max lines.inner f env lines.prints w o ∙ ap (λ z. remarks_by z env) inner in
    record {
      tokens = h.tokens;
      each = λ s t.
          let c : State = cut_state s in
          let new = cut_new s t.is_new in
          let fills = steps_fill lines.max steps s h.writes.inner t.is_new (t.flows program) in
          let cut = ap (λ (z : Sheet). z.lines) (run_calls steps c) ∙ fills.cut in
          let x = cut_reads (not (root_hashbang root)) config f h.tokens c (run steps c) h.generated new (margin root s t) (h.writes.lays c (new_at_rest c new) (taken_closed steps env.maps k)) fills.done fills.begun refl cut fills.first fills.parts fills.segments in
          let there : AddsThese config f (remarks_by steps env) h.tokens s.sheet (run (filled lines.max steps) s).sheet =
          record { adds = record { added = fills.first ++ text_of s.sheet.line_end fills.parts; is_added = fills.text; reading = x.reading }; tokens = x.tokens } in
          subst (λ z. AddsThese config f z h.tokens s.sheet (run whole s).sheet) (sym taken) (subst (λ z. AddsThese config f (remarks_by steps env) h.tokens s.sheet (run z s).sheet) (sym same) there);
    }

root_adds : (root : Root) (env : Env) → env.keeps_invalid ≡ false → is_well_formed_root root ≡ true → is_out env.config (root_phrase root) ≡ false → AreClosed env.maps → AddsOne root env (steps_of (root_items root nothing env))
root_adds root env e w o k = elim (root_stands env e root) [
  | inl prints ↦ plain_adds root env w o k prints
  | inr lines ↦ lined_adds root env lines.0 w o k lines.1
]

pub emissions_same : (root : Root) (a b c d : State) → is_well_formed_root root ≡ true → MayBegin root a → MayBegin root c → AreClosed a.env.maps → a.env ≡ c.env
    → Follows (root_items root nothing) a b (Ok tt) → Follows (root_items root nothing) c d (Ok tt)
    → AddOneList a.env.config (root_phrase root) (taken_remarks (root_items root) a.env) a.sheet b.sheet c.sheet d.sheet
unfolding Follows
emissions_same root a b c d w s t k e f g =
    let steps : List Step = steps_of (root_items root nothing a.env) in
    let o : is_out a.env.config (root_phrase root) ≡ false = root_in_target root a b w s.is_new.leaves_out f in
    let adds = root_adds root a.env s.is_new.leaves_out w o k in
    let one = adds.each a s in
    let other = adds.each c t in
    let there : d ≡ run steps c = subst (λ v. d ≡ run (steps_of (root_items root nothing v)) c) (sym e) g.1 in
    let P : State → Type 0 = λ z. AddOneList a.env.config (root_phrase root) (taken_remarks (root_items root) a.env) a.sheet z.sheet c.sheet (run steps c).sheet in
    let Q : State → Type 0 = λ z. AddOneList a.env.config (root_phrase root) (taken_remarks (root_items root) a.env) a.sheet b.sheet c.sheet z.sheet in
    subst Q (sym there) (subst P (sym f.1) (record { one = one.adds; other = other.adds; same = one.tokens ∙ sym other.tokens }))
