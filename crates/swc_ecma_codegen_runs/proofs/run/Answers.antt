use Rattle.std.proofs.Common.{◌≡◌, ◌⊎◌, Bool, true, false, Result, Ok, Err, ap, refl, subst}
use Rattle.swc_ecma_codegen_runs.specs.Faults.{line_of}
use Rattle.swc_ecma_codegen_runs.specs.Prints.{AddsFront, AddsText, AddsFrontOfText}
use Rattle.swc_ecma_codegen_runs.specs.Words.{are_options, options_of}
use Rattle.swc_ecma_codegen_runs.specs.declared.faults.Fault.{Fault}
use Rattle.swc_ecma_codegen_runs.specs.declared.faults.Fault.TheVariants.{Usage}
use Rattle.swc_ecma_codegen_runs.specs.declared.words.Options.{Options}
use Rattle.swc_ecma_codegen_runs.proofs.run.Goals as goal

-- what was made of words that are options is what they ask for
is_asked : {F : Type 0} {f : F} (all : Bool) (made asked : Options) → (all ≡ true → ◌≡◌ {A = Result Options F} (Ok made) (Ok asked)) → (all ≡ false → ◌≡◌ {A = Result Options F} (Ok made) (Err f)) → made ≡ asked
is_asked true made asked taken wrong = let same = taken refl in cc
is_asked false made asked taken wrong = let same = wrong refl in absurd (cc)

pub returns-after-options-clause-printed : goal.returns-after-options-clause-printed
returns-after-options-clause-printed g c = λ _.
    let same : c.in-Ok.options ≡ options_of c.args.words.now = is_asked (are_options g.T.Words.is_own c.args.words.now) _ _ c.in-Ok.ensures.taken c.in-Ok.ensures.wrong in
    let Printed : Options → Type 0 = λ o. AddsText g.T.Tool.prepared o (g.O.Write.contents c.args.out.now) (g.O.Write.contents c.print.new.out) in
    subst Printed same c.in-Ok-print.ensures.printed

pub returns-in-Err-print-clause-begun : goal.returns-in-Err-print-clause-begun
returns-in-Err-print-clause-begun g c = λ _.
    let same : c.in-Ok.options ≡ options_of c.args.words.now = is_asked (are_options g.T.Words.is_own c.args.words.now) _ _ c.in-Ok.ensures.taken c.in-Ok.ensures.wrong in
    let Begun : Options → Type 0 = λ o. (c.print.new.out ≡ c.args.out.now) ⊎ AddsFrontOfText g.T.Tool.prepared o (g.O.Write.contents c.args.out.now) (g.O.Write.contents c.print.new.out) in
    subst Begun same c.in-Err-print.ensures.begun

-- what is told of words that are no options is that they are wrong
is_usage : {T : Type 0} {x : T} (all : Bool) (fault : Fault) → (all ≡ true → ◌≡◌ {A = Result T Fault} (Err fault) (Ok x)) → (all ≡ false → ◌≡◌ {A = Result T Fault} (Err fault) (Err Usage)) → fault ≡ Usage
is_usage true fault taken wrong = let same = taken refl in absurd (cc)
is_usage false fault taken wrong = let same = wrong refl in cc

pub returns-in-Err-clause-told_usage : goal.returns-in-Err-clause-told_usage
returns-in-Err-clause-told_usage g c = λ _.
    let same : c.in-Err.fault ≡ Usage = is_usage (are_options g.T.Words.is_own c.args.words.now) _ c.in-Err.ensures.taken c.in-Err.ensures.wrong in
    let Told : Fault → Type 0 = λ f. AddsFront (line_of g.T.Words.usage_line f) (g.E.Write.contents c.args.err.now) (g.E.Write.contents c.tell.new.err) in
    subst Told same c.tell.ensures.told

pub returns-in-Err-print-clause-told : goal.returns-in-Err-print-clause-told
returns-in-Err-print-clause-told g c = λ _.
    (c.in-Err-print.fault, (λ same. c.in-Err-print.ensures.no_usage (ap Err same)), c.tell-in-Err-print.ensures.told)
