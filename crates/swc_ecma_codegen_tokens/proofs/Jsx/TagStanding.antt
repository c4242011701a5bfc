-- A name in a tag stands as its own token, with its position where it begins.
use Rattle.std.proofs.Common.{◌≡◌, ℕ, Bool, true, false, ◌==◌, List, [], ◌∷◌, refl, sym, ◌∙◌, subst, append-nil, inl}
use Rattle.std.specs.Str.{chars}
use Rattle.std.proofs.lemmas.Bool.{true≢false}
use Rattle.swc_ecma_codegen_grammar.specs.declared.kinds.Kind.TheVariants.{JsxName}
use Rattle.swc_ecma_codegen_grammar.specs.GapRules.{PreviousToken, fuses, last_after, allows}
use Rattle.swc_ecma_codegen_grammar.specs.Parts.{Gap, Own, NoneFuse}
use Rattle.swc_ecma_codegen_grammar.specs.Phrases.{PlacedName}
use Rattle.swc_ecma_codegen_grammar.specs.Reads.{is_child}
use Rattle.swc_ecma_codegen_grammar.specs.Texts.{begins}
use Rattle.swc_ecma_codegen_grammar.specs.Tokens.{Token, token_of}
use Rattle.swc_ecma_codegen_grammar.specs.Trivia.{Piece}
use Rattle.swc_ecma_codegen_text_writer.specs.Sheet.{Sheet, pointed, started, appended, effect, fills_lines}
use Rattle.swc_ecma_codegen_text_writer.proofs.Sheets.{effect_keeps_positions}
use Rattle.swc_ecma_codegen_text_writer.proofs.Stays.{pointed_stays}
use Rattle.swc_ecma_codegen_settings.specs.declared.config.Config.{Config}
use Rattle.swc_ecma_codegen_tokens.specs.Named.{IsRecorded}
use Rattle.swc_ecma_codegen_tokens.specs.Run.{State, put, run, spelling, after_plain}
use Rattle.swc_ecma_codegen_tokens.specs.Targets.{written_as}
use Rattle.swc_ecma_codegen_tokens.specs.Written.{InName, holds_one}
use Rattle.swc_ecma_codegen_tokens.proofs.Emission.Fronts.{run_sheet}
use Rattle.swc_ecma_codegen_tokens.proofs.Emission.PendingSemi.{front, pointed_keeps}
use Rattle.swc_ecma_codegen_tokens.proofs.Gaps.Indented.{blanks}
use Rattle.swc_ecma_codegen_tokens.proofs.Filling.CutStanding.{StandsHere, StartsAt, starts_none, starts_noted}
use Rattle.swc_ecma_codegen_tokens.proofs.Reading.Laid.{lays_then}
use Rattle.swc_ecma_codegen_tokens.proofs.Emission.Positions.{noted_has, is_none, symbol_sheet, before_name, before_unheld, name_steps, name_call, run_records}
use Rattle.swc_ecma_codegen_tokens.proofs.Filling.Shapes.{Shape, open_, join}
use Rattle.swc_ecma_codegen_tokens.proofs.Reading.Standing.{ReachedAt, reached_as, reached_same, reached_then, stands_behind, gap_alone}
use Rattle.swc_ecma_codegen_tokens.proofs.Jsx.TagLays.{IsToken, token_apart, named_guard, nothing_dashless, name_dashless}
use Rattle.swc_ecma_codegen_tokens.proofs.Gaps.Written.{settle, lays_named_commit}
use Rattle.swc_ecma_codegen_tokens.proofs.Reading.TokenLays.{after_guard}

tag_none : (k : PreviousToken) (t : List ℕ) → NoneFuse (last_after k JsxName t) []
unfolding NoneFuse last_after allows begins
tag_none k t = refl

-- a name that is written behind the indentation, if any, of its line
tag_behind : {i : Shape} (config : Config) (x : PlacedName) (us : List Token) (a s : State) (w : Sheet) → ReachedAt InName i us a s → holds_one s.sheet.semicolons ≡ false → fuses s.last (chars (written_as config x)) ≡ false → IsToken JsxName (written_as config x) → w.text ≡ s.sheet.text → front w ≡ front s.sheet → w.place ≡ s.sheet.place → fills_lines w.lines ≡ false → IsRecorded x.at (started w).place (started w).pairs → StartsAt x.at (front s.sheet) s.sheet (started w) → StandsHere config a.sheet (appended (written_as config x) (started w)) us (token_of JsxName (spelling JsxName (written_as config x))) x
unfolding is_child
tag_behind config x us a s w r o f p text same place flows recorded starts =
    let t : List ℕ = written_as config x in
    let ps : List Piece = blanks (front s.sheet) in
    let n : NoneFuse s.last (Gap ps ∷ Own JsxName (spelling JsxName t) ∷ []) = token_apart s.sheet.at_line_start JsxName t s [] (r.rest.free o) r.rest.indent_text p (λ e. true≢false (sym e)) f (r.rest.allowed [] nothing_dashless) (r.rest.allowed (spelling JsxName t) (name_dashless t p)) (tag_none s.last (spelling JsxName t)) in
    stands_behind config JsxName x us a s w r o p.utf8 p.same n (gap_alone s.last ps (Own JsxName (spelling JsxName t) ∷ []) (r.rest.allowed [] nothing_dashless) n) text same place flows recorded starts

tag_begun : {i : Shape} (t : List ℕ) (us : List Token) (a s : State) → ReachedAt InName i us a s → ReachedAt InName open_ us a (run (before_name false false t) s)
unfolding before_name run put effect after_plain
tag_begun t us a s r =
    let there : State = run (before_name false false t) s in
    let c = lays_named_commit s r.rest in
    reached_same (append-nil us)
    (reached_then (join open_ open_) open_ us [] a s there (reached_as _ (inl refl) r) (lays_then [] [] s (settle s) there c (named_guard t (settle s) c.rest)) (run_records (before_name false false t) s))

tag_apart : (t : List ℕ) (s : State) → fuses (run (before_name false false t) s).last (chars t) ≡ false
unfolding before_name run put effect after_plain
tag_apart t s = after_guard t (settle s)

pub tag_stands : {i : Shape} (config : Config) (b : Bool) (x : PlacedName) (us : List Token) (a s : State) → b ≡ (x.at.0 == 0) → IsToken JsxName (written_as config x) → s.sheet.keeps_positions ≡ true → ReachedAt InName i us a s → StandsHere config a.sheet (run (name_steps false false JsxName b x.at (written_as config x)) s).sheet us (token_of JsxName (spelling JsxName (written_as config x))) x
unfolding name_steps name_call before_name run put effect
tag_stands config true x us a s e p k r =
    let t : List ℕ = written_as config x in
    let there : State = run (before_name false false t) s in
    let o = before_unheld false false t s in
    subst (λ (z : Sheet). StandsHere config a.sheet z us (token_of JsxName (spelling JsxName t)) x) (sym (symbol_sheet t there.sheet p.some o))
    (tag_behind config x us a there there.sheet (tag_begun t us a s r) o (tag_apart t s) p refl refl refl (tag_begun t us a s r).rest.flowing (inl (is_none x.at (sym e))) (starts_none x.at there.sheet (is_none x.at (sym e))))
tag_stands config false x us a s e p k r =
    let t : List ℕ = written_as config x in
    let there : State = run (before_name false false t) s in
    let o = before_unheld false false t s in
    let w : Sheet = pointed x.at there.sheet in
    let keeps : there.sheet.keeps_positions ≡ true = run_sheet (λ z. z.keeps_positions) effect_keeps_positions (before_name false false t) s ∙ k in
    subst (λ (z : Sheet). StandsHere config a.sheet z us (token_of JsxName (spelling JsxName t)) x) (sym (symbol_sheet t w p.some (pointed_keeps (λ z. holds_one z.semicolons) (λ z y l. refl) (λ z y. refl) x.at there.sheet ∙ o)))
    (tag_behind config x us a there w (tag_begun t us a s r) o (tag_apart t s) p (pointed_keeps (λ z. z.text) (λ z y l. refl) (λ z y. refl) x.at there.sheet) (pointed_keeps (λ z. front z) (λ z y l. refl) (λ z y. refl) x.at there.sheet) (pointed_keeps (λ z. z.place) (λ z y l. refl) (λ z y. refl) x.at there.sheet) ((pointed_stays x.at there.sheet).fills ∙ (tag_begun t us a s r).rest.flowing) (noted_has x.at there.sheet keeps (tag_begun t us a s r).rest.flowing) (starts_noted x.at there.sheet keeps (sym e)))
