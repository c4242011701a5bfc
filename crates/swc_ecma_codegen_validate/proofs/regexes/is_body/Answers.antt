use Rattle.std.proofs.Common.{◌≡◌, ◌==◌, false, sym, ◌∙◌, arith}
use Rattle.std.proofs.lemmas.Bool.Decides.{nat_tests}
use Rattle.std.specs.Str.{chars}
use Rattle.swc_ecma_codegen_validate.specs.RegexStates.{goes_on}
use Rattle.swc_ecma_codegen_validate.proofs.Slashes.{starts}
use Rattle.swc_ecma_codegen_validate.proofs.regexes.is_body.Goals as goal

pub returns-then-c-ne42 : goal.returns-then-c-ne42
unfolding goes_on
returns-then-c-ne42 c =
    let star : (c.in-Some.c == 42) ≡ false = grind (arith, nat_tests) in
    let closed = rw c.in-Some.ensures.some at c.is_closed.ensures in
    let begun = rw star at (starts c.in-Some.c (chars c.in-Some.field-0-1.now)) in
    rw c.in-Some.ensures.some (closed ∙ sym begun)
