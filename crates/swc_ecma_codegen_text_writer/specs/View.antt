-- The sheet of a `JsWriter`, and the ways to it.
use Rattle.std.specs.Prelude.{◌≡◌, ◌⊎◌, ℕ, true, false, List, [], codes, Option, None, Result, Ok, Err, IsSome}
use Rattle.std.specs.Str.{is_utf8}
use Rattle.std.specs.declared.io.traits.Write as io
use Rattle.swc_ecma_codegen_text_writer.specs.declared.kept.KeepsPositions as kept
use Rattle.swc_ecma_codegen_common.specs.declared.errors.Refusal.{Refusal}
use Rattle.swc_ecma_codegen_common.specs.declared.errors.Refusal.TheVariants.{Writer, OutOfMemory, UnsupportedNode, BadShape, NameOutOfTarget, PositionTooLarge, Failed}
use Rattle.swc_ecma_codegen_text_writer.specs.Contents.{Rises, IsPrefix}
use Rattle.swc_ecma_codegen_text_writer.specs.Outlets.{bytes_so_far}
use Rattle.swc_ecma_codegen_common.specs.declared.positions.BytePos.{BytePos}
use Rattle.swc_ecma_codegen_common.specs.declared.positions.Span.{Span}
use Rattle.swc_ecma_codegen_text_writer.specs.Places.{origin, after_text}
use Rattle.swc_ecma_codegen_text_writer.specs.Sheet.{Sheet, Pair, Item, AtOnce, Flowing, fills_lines, may_take_memory, IsFar, LeavesOut, Writes, appended, effect, written, literal_written, ended, pointed}
use Rattle.swc_ecma_codegen_text_writer.specs.Held.{flow_of}
use Rattle.swc_ecma_codegen_text_writer.specs.declared.basic_impl.Lines.{Lines}

-- The sheet of a new `JsWriter` without positions, over a writer that tells some bytes.
abbrev pub new_sheet : List ℕ → List ℕ → Sheet
new_sheet bytes line_end =
    record {
      text = bytes;
      whole = is_utf8 bytes;
      at_line_start = true;
      indentation = 0;
      line_end = line_end;
      indent_text = codes "    ";
      semicolons = AtOnce;
      keeps_positions = false;
      pairs = [];
      pending = None;
      place = origin;
      lines = Flowing;
      faults = 0;
      refused = false;
      takes_memory = false;
      keeps_invalid = false;
    }

-- the same sheet, of a writer that keeps positions after those that were handed in
abbrev pub keeping : List Pair → Sheet → Sheet
keeping pairs s = record s { keeps_positions = true; pairs = pairs; takes_memory = true }

-- The sheet of a `JsWriter`: the text is bytes, as a `&str` is in a clause.
unfoldable pub sheet_of : {W : Type 0} {g : io.Ghosts W} {K : Type 0} {k : kept.Ghosts K} → Lines W K g k → Sheet
sheet_of {k = k} w =
    record {
      text = bytes_so_far w.outlet;
      whole = is_utf8 (bytes_so_far w.outlet);
      at_line_start = w.line_start;
      indentation = w.indent;
      line_end = w.new_line.now;
      indent_text = w.indent_str.now;
      semicolons = AtOnce;
      keeps_positions = k.keeps w.kept;
      pairs = k.pairs w.kept;
      pending = k.pending w.kept;
      place = after_text w.outlet.log.bytes origin;
      lines = flow_of w.held;
      faults = w.outlet.faults;
      refused = w.failed;
      takes_memory = k.keeps w.kept;
      keeps_invalid = false;
    }

-- The writer under it told its bytes when it was handed in. A `Vec` always does, a file never.
abbrev pub Tells : {W : Type 0} {g : io.Ghosts W} {K : Type 0} {k : kept.Ghosts K} → Lines W K g k → Type 0
Tells {g = g} w = IsSome (g.contents w.outlet.before.value)

-- the cause of an error on the way: a fault of the writer under it that was counted, or of the list of positions, or memory for what is held
unfoldable pub HasReason : Refusal → Sheet → Sheet → Type 0
HasReason Writer old new = Rises old.faults new.faults
HasReason OutOfMemory old new = may_take_memory old ≡ true
HasReason UnsupportedNode old new = ⊥
HasReason BadShape old new = ⊥
HasReason NameOutOfTarget old new = ⊥
HasReason PositionTooLarge old new = (old.keeps_positions ≡ true) × IsFar new.place
HasReason Failed old new = ⊥

-- On the way to a sheet something was refused: a beginning of its text is out, with the place behind it, and of its pairs recorded. Where memory
-- was wanting, it was for the next pair, or to hold what is written. What is then held of a segment isn't told.
pub record Halted (e : Refusal) (goal old new : Sheet) : Type 0 where
  pub reason : HasReason e old new
  pub grows : IsPrefix old.text new.text
  pub front : IsPrefix new.text goal.text
  pub place : new.place ≡ after_text grows.0 old.place
  pub more_pairs : IsPrefix old.pairs new.pairs
  pub front_pairs : IsPrefix new.pairs goal.pairs
  pub room : e ≡ OutOfMemory → ((fills_lines old.lines ≡ true) × (fills_lines new.lines ≡ true)) ⊎ LeavesOut goal new
  pub same : new ≡ record old { text = new.text; whole = new.whole; at_line_start = new.at_line_start; semicolons = new.semicolons; pairs = new.pairs; pending = new.pending; place = new.place; lines = new.lines; faults = new.faults; refused = true }

-- a way to a sheet, which ends there or where something was refused
unfoldable pub Reaches : Sheet → Sheet → Sheet → Result (Unit {0}) Refusal → Type 0
Reaches goal old new (Ok _) = new ≡ goal
Reaches goal old new (Err e) = Halted e goal old new

-- what each call of a writer that writes semicolons at once does that writes this text
abbrev pub WritesText : Option Span → List ℕ → Sheet → Sheet → Result (Unit {0}) Refusal → Type 0
WritesText span t old new r = (x : Item) → (old.semicolons ≡ AtOnce → effect x old ≡ written span t old) → Writes x old new r

-- what each call does that writes this literal
abbrev pub WritesLiteral : Span → List ℕ → Sheet → Sheet → Result (Unit {0}) Refusal → Type 0
WritesLiteral span t old new r = (x : Item) → (old.semicolons ≡ AtOnce → effect x old ≡ literal_written span t old) → Writes x old new r

-- what each call does that ends the line
abbrev pub WritesLine : Sheet → Sheet → Result (Unit {0}) Refusal → Type 0
WritesLine old new r = (x : Item) → (old.semicolons ≡ AtOnce → effect x old ≡ ended old) → Writes x old new r

-- what each call does that records this position
abbrev pub WritesPosition : BytePos → Sheet → Sheet → Result (Unit {0}) Refusal → Type 0
WritesPosition pos old new r = (x : Item) → (old.semicolons ≡ AtOnce → effect x old ≡ pointed pos old) → Writes x old new r

-- what each call does that changes nothing
abbrev pub WritesNothing : Sheet → Sheet → Result (Unit {0}) Refusal → Type 0
WritesNothing old new r = (x : Item) → (old.semicolons ≡ AtOnce → effect x old ≡ old) → Writes x old new r

-- What `preamble` does: its text goes out as it is; or it is refused, since an earlier call was or on its way.
unfoldable pub Prefaces : List ℕ → Sheet → Sheet → Result (Unit {0}) Refusal → Type 0
Prefaces t old new (Ok _) = (old.refused ≡ false) × (new ≡ appended t old)
Prefaces t old new (Err e) = ((old.refused ≡ true) × ((e ≡ Failed) × (new ≡ old))) ⊎ ((old.refused ≡ false) × Halted e (appended t old) old new)
