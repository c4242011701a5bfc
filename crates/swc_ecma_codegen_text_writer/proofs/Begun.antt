-- A line is begun, and then a text is sent: so a text is written at a line's start.
use Rattle.std.proofs.Common.{◌≡◌, ℕ, ◌<◌, Bool, true, false, List, length, ap, subst, ◌∙◌, None, Result, Ok, Err}
use Rattle.swc_ecma_codegen_common.specs.declared.errors.Refusal.{Refusal}
use Rattle.swc_ecma_codegen_text_writer.specs.Sheet.{Sheet, answered, appended, started, written, start_recorded, end_recorded}
use Rattle.swc_ecma_codegen_text_writer.specs.View.{Reaches}
use Rattle.swc_ecma_codegen_text_writer.proofs.Sheets.{started_alike, started_same}
use Rattle.swc_ecma_codegen_text_writer.proofs.Stays.{started_stays}
use Rattle.swc_ecma_codegen_text_writer.proofs.Steps.{first_halted, reached, reaches_to, reaches_then, written_some, started_written}

-- where the line isn't begun
pub begun_halted : (t : List ℕ) (a b : Sheet) (r : Bool) (e : Refusal) → 0 < length t → r ≡ false → Reaches (started a) a b (answered r e) → Reaches (written None t a) a b (Err e)
unfolding Reaches
begun_halted t a b r e some n h = first_halted _ _ _ _ _ (started_written None t a some) (subst (λ z. Reaches (started a) a b (answered z e)) n h)

-- where it is
pub begun : (a b : Sheet) (r : Bool) (e : Refusal) → r ≡ true → Reaches (started a) a b (answered r e) → b ≡ started a
begun a b r e y h = reached (started a) a b tt (subst (λ z. Reaches (started a) a b (answered z e)) y h)

pub begun_fresh : (a b : Sheet) (r : Bool) (e : Refusal) → r ≡ true → Reaches (started a) a b (answered r e) → a.refused ≡ false → b.refused ≡ false
begun_fresh a b r e y h fresh = ap (λ (s : Sheet). s.refused) (begun a b r e y h) ∙ (started_same a).refused ∙ fresh

pub begun_written : (t : List ℕ) (a b c : Sheet) (r : Bool) (e : Refusal) (q : Result (Unit {0}) Refusal) → 0 < length t → r ≡ true → Reaches (started a) a b (answered r e) → Reaches (appended t b) b c q → Reaches (written None t a) a c q
unfolding start_recorded end_recorded
begun_written t a b c r e q some y h k =
    reaches_then _ _ _ _ _ _ (begun a b r e y h) (started_alike _) (started_stays _)
    (λ s. reaches_to _ _ _ _ _ (ap (λ (z : Sheet). appended t z) s ∙ written_some None t _ some) k)
