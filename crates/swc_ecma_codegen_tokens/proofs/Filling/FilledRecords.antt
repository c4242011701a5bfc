-- An emission with a greatest line length records the names of a tree one after another, as one without.
use Rattle.std.proofs.Common.{◌≡◌, ℕ, true, false, List, [], refl, ap, ◌∙◌, subst}
use Rattle.swc_ecma_codegen_grammar.specs.Phrases.{Phrase, is_possible, names_in}
use Rattle.swc_ecma_codegen_text_writer.specs.Runs.{cut_from_here}
use Rattle.swc_ecma_codegen_text_writer.specs.Sheet.{Sheet, no_segment, Cutting, Flowing}
use Rattle.swc_ecma_codegen_tokens.specs.Named.{RecordsNames}
use Rattle.swc_ecma_codegen_tokens.specs.Run.{Part, State, Step, run, steps_of, nothing}
use Rattle.swc_ecma_codegen_tokens.specs.Targets.{is_out}
use Rattle.swc_ecma_codegen_tokens.specs.Written.{Spot, IsLineEnd}
use Rattle.swc_ecma_codegen_tokens.proofs.Filling.Filled.{filled, run_calls, steps_filled}
use Rattle.swc_ecma_codegen_tokens.proofs.Emission.Fronts.{are_inner_steps}
use Rattle.swc_ecma_codegen_tokens.proofs.Filling.NamesCut.{NamesCut}
use Rattle.swc_ecma_codegen_tokens.proofs.Filling.NamesReleased.{released_names}
use Rattle.swc_ecma_codegen_tokens.proofs.Emission.PartSteps.{NamedBy, steps_alone}
use Rattle.swc_ecma_codegen_tokens.proofs.Reading.Phrased.{PrintsOn}
use Rattle.swc_ecma_codegen_tokens.proofs.Filling.Shapes.{Shape}

-- where positions are kept, each name has its own where it begins
pub filled_names : {v w : Spot} {i : Shape} (max : ℕ) (p : Part) (f : Phrase) (a : State) → IsLineEnd a.sheet.line_end → a.sheet.lines ≡ Flowing → PrintsOn v w i a.env p f → is_possible f ≡ true → is_out a.env.config f ≡ false → a.sheet.keeps_positions ≡ true →
    RecordsNames a.env.config (names_in f) a.sheet (run (filled max (steps_of (p nothing a.env))) a).sheet
unfolding NamedBy
filled_names max p f a n flows prints w o k =
    let h = prints.where_possible w o a.env.maps in
    let steps : List Step = steps_of (p nothing a.env) in
    let fills = steps_filled max steps a (ap are_inner_steps (steps_alone h.writes) ∙ h.writes.inner) n flows in
    let c : State = record a { sheet = cut_from_here a.sheet } in
    let cut : (run steps c).sheet.lines ≡ Cutting fills.done fills.begun = ap (λ (z : Sheet). z.lines) (run_calls steps c) ∙ fills.cut in
    let named = h.named c k refl in
    let names : NamesCut a.env.config [] no_segment (Cutting fills.done fills.begun) (names_in f) = subst (λ z. NamesCut a.env.config [] no_segment z (names_in f)) cut (named.cut [] no_segment refl) in
    released_names max a.env.config a.sheet (run (filled max steps) a).sheet fills.done fills.begun (names_in f) fills.released fills.pairs names
