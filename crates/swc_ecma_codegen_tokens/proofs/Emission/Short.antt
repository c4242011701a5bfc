-- Answers, and the same in short.
use Rattle.std.proofs.Common.{Result, Ok, Err, OnOk, OnErr, IfErr, IsOk, refl}
use Rattle.swc_ecma_codegen_common.specs.declared.errors.Error.{Error}
use Rattle.swc_ecma_codegen_common.specs.declared.errors.Refusal.{Refusal}
use Rattle.swc_ecma_codegen_common.specs.Refusals.{in_short, reason_of}

pub on_ok_in_short : (P : Type 0) (r : Result (Unit {0}) Error) → OnOk (in_short r) P → OnOk r P
on_ok_in_short P (Ok u) h = h
on_ok_in_short P (Err e) h = tt

pub on_err_in_short : (P : Type 0) (r : Result (Unit {0}) Error) → OnErr (in_short r) P → OnErr r P
on_err_in_short P (Ok u) h = tt
on_err_in_short P (Err e) h = h

pub if_err_in_short : (P : Refusal → Type 0) (r : Result (Unit {0}) Error) → IfErr (in_short r) P → IfErr r (λ e. P (reason_of e))
if_err_in_short P (Ok u) h = tt
if_err_in_short P (Err e) h = h

pub is_ok_in_short : (r : Result (Unit {0}) Error) → IsOk (in_short r) → IsOk r
is_ok_in_short (Ok u) h = refl
is_ok_in_short (Err e) h = h
