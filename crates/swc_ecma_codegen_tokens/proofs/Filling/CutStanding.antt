-- Where names stand in the segments of a sheet that is cut.
use Rattle.std.proofs.Common.{◌≡◌, ◌⊎◌, ℕ, true, false, List, [], ◌∷◌, ◌++◌, ◌==◌, refl, subst, inl, inr}
use Rattle.swc_ecma_codegen_common.specs.declared.positions.BytePos.{BytePos}
use Rattle.swc_ecma_codegen_grammar.specs.GapRules.{Start}
use Rattle.swc_ecma_codegen_grammar.specs.LineEnds.{segments}
use Rattle.swc_ecma_codegen_grammar.specs.Parts as parts
use Rattle.swc_ecma_codegen_grammar.specs.Parts.{NoneFuse, tokens_of, remarks_in}
use Rattle.swc_ecma_codegen_grammar.specs.Phrases.{Phrase, PlacedName, Never, Nothing, One, NameOf, KeyOf, PrivateOf, TagNameOf, Then, CommaBefore, OptionalParentheses, Chosen}
use Rattle.swc_ecma_codegen_grammar.specs.Tokens.{Token}
use Rattle.swc_ecma_codegen_grammar.specs.Trivia.{Remark}
use Rattle.swc_ecma_codegen_text_writer.specs.Recorded.{RecordsTruly}
use Rattle.swc_ecma_codegen_text_writer.specs.Sheet.{Sheet, Segment, no_segment, with_text, text_in, Flow, Cutting, pointed, started}
use Rattle.swc_ecma_codegen_text_writer.proofs.Cuts.{Grows, NoteAt, GoOn, LinesGoOn, grows_as, grows_first, started_grows, pointed_grows, on_case}
use Rattle.swc_ecma_codegen_settings.specs.declared.config.Config.{Config}
use Rattle.swc_ecma_codegen_tokens.specs.Named.{EachName, StandsAfter}
use Rattle.swc_ecma_codegen_tokens.specs.Run.{State, Step, run}
use Rattle.swc_ecma_codegen_grammar.specs.Settings.{Settings}
use Rattle.swc_ecma_codegen_tokens.specs.Settings.{settings_of}
use Rattle.swc_ecma_codegen_tokens.specs.Targets.{written_as}
use Rattle.swc_ecma_codegen_tokens.proofs.Filling.Cuts.{AreUtf8, decoded}
use Rattle.swc_ecma_codegen_tokens.proofs.Emission.PendingSemi.{front, pointed_keeps}
use Rattle.swc_ecma_codegen_tokens.proofs.Filling.NamesCut.{run_on}
use Rattle.swc_ecma_codegen_tokens.proofs.Emission.Positions.{run_records, noted_cut}

-- ---- what steps leave of what was written

-- what was recorded stays, and so do segments
pub record Later (a b : Sheet) : Type 0 where
  pub records : RecordsTruly a b
  pub lines : LinesGoOn a b

pub run_later : (xs : List Step) (a : State) → Later a.sheet (run xs a).sheet
run_later xs a = record { records = run_records xs a; lines = run_on xs a }

-- ---- a name in the segments

-- Where a sheet was cut, a name stands in one of the segments: those before it, and its segment up to the name, are those of what was laid
-- before it; with the name they are those of what was laid with it. Its position is noted right before it.
pub record CutHere (x : PlacedName) (name : List ℕ) (written : List Token) (token : Token) (remarks : List Remark) (new : Sheet) : Type 0 where
  pub done : List Segment
  pub held : Segment
  pub laid : List parts.Part
  pub apart : NoneFuse Start laid
  pub tokens : tokens_of laid ≡ written
  pub said : remarks_in laid ≡ remarks
  pub utf8 : AreUtf8 (done ++ (held ∷ []))
  pub same : segments laid [] ≡ decoded (done ++ (held ∷ []))
  pub laid_with : List parts.Part
  pub apart_with : NoneFuse Start laid_with
  pub tokens_with : tokens_of laid_with ≡ written ++ (token ∷ [])
  pub said_with : remarks_in laid_with ≡ remarks
  pub utf8_with : AreUtf8 (done ++ (with_text name held ∷ []))
  pub same_with : segments laid_with [] ≡ decoded (done ++ (with_text name held ∷ []))
  pub goes_on : GoOn done (with_text name held) new.lines
  pub noted : (x.at.0 ≡ 0) ⊎ NoteAt x.at held (text_in held)

-- a name stands in a text, and in the segments where that is cut
pub record StandsHere (config : Config) (old new : Sheet) (behind : List Token) (token : Token) (x : PlacedName) : Type 0 where
  pub stands : StandsAfter config old new behind token x
  pub cut : old.lines ≡ Cutting [] no_segment → CutHere x (written_as config x) stands.written token stands.remarks new

abbrev pub AllHere : Config → Sheet → Sheet → List Token → Phrase → List Token → Type 0
AllHere config old new behind phrase ts = EachName (λ us t x. StandsHere config old new us t x) (settings_of config) behind phrase ts

-- what holds of each name of a list, where it follows from what does
pub each_holds : {H K : List Token → Token → PlacedName → Type 0} → ((us : List Token) (t : Token) (x : PlacedName) → H us t x → K us t x) → (s : Settings) (us : List Token) (f : Phrase) (ts : List Token) → EachName H s us f ts → EachName K s us f ts
unfolding EachName
each_holds g s us Never ts h = h
each_holds g s us Nothing ts h = h
each_holds g s us (One x) ts h = h
each_holds g s us (NameOf at bytes) ts h = (h.0, g us _ _ h.1)
each_holds g s us (KeyOf at bytes) ts h = (h.0, g us _ _ h.1)
each_holds g s us (PrivateOf bytes) ts h = h
each_holds g s us (TagNameOf at bytes) ts h = (h.0, g us _ _ h.1)
each_holds g s us (Then a b) ts h = (h.0, h.1, each_holds g s us a h.0 h.2, each_holds g s (us ++ h.0) b h.1 h.3, h.4)
each_holds g s us (CommaBefore close) ts h = h
each_holds g s us (OptionalParentheses round a) ts (inl h) = inl (each_holds g s us a ts h)
each_holds g s us (OptionalParentheses round a) ts (inr h) = inr (h.0, each_holds g s _ a h.0 h.1, h.2)
each_holds g s us (Chosen choice) ts h = h

pub cut_more : (x : PlacedName) (name : List ℕ) (written : List Token) (token : Token) (remarks : List Remark) (b c : Sheet) → LinesGoOn b c → CutHere x name written token remarks b → CutHere x name written token remarks c
cut_more x name written token remarks b c f h = record {
  done = h.done;
  held = h.held;
  laid = h.laid;
  apart = h.apart;
  tokens = h.tokens;
  said = h.said;
  utf8 = h.utf8;
  same = h.same;
  laid_with = h.laid_with;
  apart_with = h.apart_with;
  tokens_with = h.tokens_with;
  said_with = h.said_with;
  utf8_with = h.utf8_with;
  same_with = h.same_with;
  goes_on = on_case h.done (with_text name h.held) b c h.goes_on f;
  noted = h.noted;
}

-- ---- where a name begins

-- From one sheet to another a text went into the last segment, and a position is noted behind it, unless it is none.
pub record StartsIn (pos : BytePos) (u : List ℕ) (done : List Segment) (begun : Segment) (new : Flow) : Type 0 where
  pub grows : Grows u done begun new
  pub noted : (pos.0 ≡ 0) ⊎ NoteAt pos grows.held (text_in grows.held)

abbrev pub StartsAt : BytePos → List ℕ → Sheet → Sheet → Type 0
StartsAt pos u s w = (done : List Segment) (begun : Segment) → s.lines ≡ Cutting done begun → StartsIn pos u done begun w.lines

-- a name without a position
pub starts_none : (pos : BytePos) (s : Sheet) → pos.0 ≡ 0 → StartsAt pos (front s) s (started s)
starts_none pos s h = λ done begun e. record { grows = started_grows s done begun e; noted = inl h }

same_held : (done : List Segment) (g h : Segment) (new : Flow) → new ≡ Cutting done g → new ≡ Cutting done h → h ≡ g
same_held done g h new e f = cc (e, f)

pub starts_noted : (pos : BytePos) (s : Sheet) → s.keeps_positions ≡ true → (pos.0 == 0) ≡ false → StartsAt pos (front s) s (started (pointed pos s))
starts_noted pos s k n = λ done begun e.
    let w : Sheet = pointed pos s in
    let f : front w ≡ front s = pointed_keeps (λ z. front z) (λ z x l. refl) (λ z x. refl) pos s in
    let g = grows_first (front s) s w (started w) (pointed_grows pos s) (grows_as (front w) (front s) w (started w) f (started_grows w)) done begun e in
    let q = noted_cut pos s k n done begun e in
    record { grows = g; noted = inr (subst (λ z. NoteAt pos z (text_in z)) (same_held done g.held q.held (started w).lines g.lines q.lines) q.note) }
