-- Errors in short, and what is left out of them.
use Rattle.std.specs.Prelude.{Option, Some, None, Result, Ok, Err}
use Rattle.std.specs.declared.io.Error.{Error as IoError}
use Rattle.swc_ecma_codegen_common.specs.declared.errors.Error.{Error}
use Rattle.swc_ecma_codegen_common.specs.declared.errors.Error.TheVariants.{Writer, OutOfMemory, UnsupportedNode, BadShape, NameOutOfTarget, PositionTooLarge, Failed}
use Rattle.swc_ecma_codegen_common.specs.declared.errors.Refusal.{Refusal}
use Rattle.swc_ecma_codegen_common.specs.declared.errors.Refusal.TheVariants as refusals

-- why a call was refused, without the writer's own error
abbrev pub reason_of : Error → Refusal
reason_of (Writer e) = refusals.Writer
reason_of OutOfMemory = refusals.OutOfMemory
reason_of UnsupportedNode = refusals.UnsupportedNode
reason_of BadShape = refusals.BadShape
reason_of NameOutOfTarget = refusals.NameOutOfTarget
reason_of PositionTooLarge = refusals.PositionTooLarge
reason_of Failed = refusals.Failed

-- the writer's own error
abbrev pub fault_of : Error → Option IoError
fault_of (Writer e) = Some e
fault_of error = None

-- an answer, without the writer's own error
abbrev pub in_short : Result (Unit {0}) Error → Result (Unit {0}) Refusal
in_short (Ok u) = Ok u
in_short (Err e) = Err (reason_of e)
