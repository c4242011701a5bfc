-- What a writer has written, and what each call does to that.
use Rattle.std.specs.Prelude.{◌≡◌, ◌⊎◌, ℕ, ◌+◌, ◌-◌, ◌^◌, ◌≤◌, Bool, true, false, ◌==◌, ◌&&◌, ◌||◌, not, List, [], ◌∷◌, ◌++◌, codes, if◌then◌else◌, Option, Some, None, Result, Ok, Err}
use Rattle.std.specs.List.{repeat}
use Rattle.swc_ecma_codegen_common.specs.declared.errors.Refusal.{Refusal}
use Rattle.swc_ecma_codegen_common.specs.declared.errors.Refusal.TheVariants.{Writer, OutOfMemory, UnsupportedNode, BadShape, NameOutOfTarget, PositionTooLarge, Failed}
use Rattle.swc_ecma_codegen_common.specs.declared.positions.BytePos.{BytePos}
use Rattle.swc_ecma_codegen_common.specs.declared.positions.LineCol.{LineCol}
use Rattle.swc_ecma_codegen_common.specs.declared.positions.Span.{Span}
use Rattle.swc_ecma_codegen_text_writer.specs.Places.{Place, after_text}
use Rattle.swc_ecma_codegen_text_writer.specs.Filling.{first_units, is_due}
use Rattle.swc_ecma_codegen_text_writer.specs.Contents.{Rises, IsPrefix}

-- a call of a writer; texts are UTF-8 bytes
pub data Item : Type 0 where
  Semi : (span : Option Span) → Item
  Space : Item
  Keyword : (span : Option Span) → (text : List ℕ) → Item
  Operator : (span : Option Span) → (text : List ℕ) → Item
  Param : (text : List ℕ) → Item
  Property : (text : List ℕ) → Item
  Line : Item
  Lit : (span : Span) → (text : List ℕ) → Item
  Comment : (text : List ℕ) → Item
  StrLit : (span : Span) → (text : List ℕ) → Item
  Str : (text : List ℕ) → Item
  Symbol : (span : Span) → (text : List ℕ) → Item
  Punct : (span : Option Span) → (text : List ℕ) → Item
  Position : (pos : BytePos) → Item
  Commit : Item
  Deeper : Item
  Shallower : Item
  BeginLines : (max : ℕ) → Item
  AllowBreak : Item
  EndLines : Item

-- a position in the source, and where what stands there was written
abbrev pub Pair : Type 0
Pair = BytePos × LineCol

-- what a writer does with semicolons: it writes each at once, or holds it back until it knows what follows; then it holds
-- none now, or one
pub data Semicolons : Type 0 where
  AtOnce : Semicolons
  HoldsNone : Semicolons
  -- `allowed`: a break was allowed since, and is kept with it
  HoldsOne : (span : Option Span) → (allowed : Bool) → Semicolons

-- it holds them back
abbrev pub holds_semicolons : Semicolons → Bool
holds_semicolons AtOnce = false
holds_semicolons HoldsNone = true
holds_semicolons (HoldsOne span allowed) = true

-- no semicolon is held back now
abbrev pub is_settled : Semicolons → Bool
is_settled AtOnce = true
is_settled HoldsNone = true
is_settled (HoldsOne span allowed) = false

-- What is held of a text: texts, each with a position that is to be recorded behind it, and the text behind the last of these. Of
-- `a+b` with the position 3 before `b` these are `a+` with 3, and `b`.
pub record Segment : Type 0 where
  pub noted : List (List ℕ × BytePos)
  pub rest : List ℕ

abbrev pub no_segment : Segment
no_segment = record { noted = []; rest = [] }

-- a text more in a segment, and a position
abbrev pub with_text : List ℕ → Segment → Segment
with_text t g = record { noted = g.noted; rest = g.rest ++ t }

abbrev pub with_note : BytePos → Segment → Segment
with_note pos g = record { noted = g.noted ++ ((g.rest, pos) ∷ []); rest = [] }

-- What is written goes out at once; or lines of at most `max` units are filled, and a segment is held until a break is allowed. The third is
-- the first, and tells besides where breaks were allowed: no writer's sheet is like that, and it serves to speak of what
-- would be written without a greatest length.
pub data Flow : Type 0 where
  Flowing : Flow
  -- `first`: nothing went out since lines began
  Filling : (max : ℕ) → (first : Bool) → (held : Segment) → Flow
  -- the segments so far, and what was written since the last of them
  Cutting : (done : List Segment) → (begun : Segment) → Flow

-- lines are filled
abbrev pub fills_lines : Flow → Bool
fills_lines Flowing = false
fills_lines (Filling max first held) = true
fills_lines (Cutting done begun) = false

-- What a writer has sent out, as bytes, and the state that it is in.
pub record Sheet : Type 0 where
  pub text : List ℕ
  -- the bytes are UTF-8
  pub whole : Bool
  pub at_line_start : Bool
  pub indentation : ℕ
  pub line_end : List ℕ
  pub indent_text : List ℕ
  pub semicolons : Semicolons
  -- it keeps positions
  pub keeps_positions : Bool
  -- those that were recorded, after those that were handed in
  pub pairs : List Pair
  -- one that is recorded once the line has begun
  pub pending : Option BytePos
  -- where all that this writer sent out ends
  pub place : Place
  -- what lines are made
  pub lines : Flow
  pub faults : ℕ
  pub refused : Bool
  -- its calls may ask for memory, also where no lines are filled
  pub takes_memory : Bool
  -- names keep U+0000 after a backslash
  pub keeps_invalid : Bool

-- ---- texts and lines

-- a text more goes out
unfoldable pub released : List ℕ → Sheet → Sheet
released t s = record s { text = s.text ++ t; place = after_text t s.place }

-- a text more: it goes out, or is held
unfoldable pub appended_by : Flow → List ℕ → Sheet → Sheet
appended_by Flowing t s = released t s
appended_by (Filling max first held) t s = record s { lines = Filling max first (with_text t held) }
appended_by (Cutting done begun) t s = record (released t s) { lines = Cutting done (with_text t begun) }

unfoldable pub appended : List ℕ → Sheet → Sheet
appended t s = appended_by s.lines t s

-- so many levels of indentation more
unfoldable pub indented : ℕ → Sheet → Sheet
indented n s = appended (repeat n s.indent_text) s

-- ---- positions

unfoldable pub is_same_pair : Pair → Pair → Bool
is_same_pair a b = (a.0.0 == b.0.0) && ((a.1.line == b.1.line) && (a.1.col == b.1.col))

-- a pair is among others
unfoldable pub has_pair : Pair → List Pair → Bool
has_pair x [] = false
has_pair x (y ∷ ys) = is_same_pair x y || has_pair x ys

-- a position with the place that was reached
abbrev pub pair_at : BytePos → Place → Pair
pair_at pos p = (pos, record { line = p.line; col = p.column })

-- a pair more, unless the position is none or the pair stands there
unfoldable pub with_pair : BytePos → Place → List Pair → List Pair
with_pair pos p pairs = if (pos.0 == 0) || has_pair (pair_at pos p) pairs then pairs else pairs ++ (pair_at pos p ∷ [])

-- a position is recorded where the text ends that is out
unfoldable pub noted : BytePos → Sheet → Sheet
noted pos s = record s { pairs = with_pair pos s.place s.pairs }

-- a position is recorded, or held behind the text before it
unfoldable pub recorded_by : Flow → BytePos → Sheet → Sheet
recorded_by Flowing pos s = noted pos s
recorded_by (Filling max first held) pos s = record s { lines = Filling max first (with_note pos held) }
recorded_by (Cutting done begun) pos s = record (noted pos s) { lines = Cutting done (with_note pos begun) }

-- a position is recorded where positions are kept, unless it is 0, which is none
abbrev pub is_recorded : BytePos → Sheet → Bool
is_recorded pos s = s.keeps_positions && not (pos.0 == 0)

unfoldable pub recorded : BytePos → Sheet → Sheet
recorded pos s = if is_recorded pos s then recorded_by s.lines pos s else s

-- the start and the end of a span are
unfoldable pub start_recorded : Option Span → Sheet → Sheet
start_recorded None s = s
start_recorded (Some span) s = recorded span.lo s

unfoldable pub end_recorded : Option Span → Sheet → Sheet
end_recorded None s = s
end_recorded (Some span) s = recorded span.hi s

-- the pending position is recorded
unfoldable pub pending_recorded : Option BytePos → Sheet → Sheet
pending_recorded None s = s
pending_recorded (Some pos) s = recorded pos (record s { pending = None })

-- ---- what a call writes

-- the line has begun: its indentation is out, and the pending position is recorded
unfoldable pub started : Sheet → Sheet
started s = if s.at_line_start then pending_recorded s.pending (record (indented s.indentation s) { at_line_start = false }) else s

-- the sheet after a text: nothing comes of an empty one
unfoldable pub written : Option Span → List ℕ → Sheet → Sheet
written span [] s = s
written span (c ∷ cs) s = end_recorded span (appended (c ∷ cs) (start_recorded span (started s)))

-- the sheet after a literal, whose start is recorded before the line begins
unfoldable pub literal_written : Span → List ℕ → Sheet → Sheet
literal_written span [] s = s
literal_written span (c ∷ cs) s = recorded span.hi (written None (c ∷ cs) (recorded span.lo s))

-- the sheet after a line's end: nothing comes of one at a line's start, but that a pending position is dropped
unfoldable pub ended : Sheet → Sheet
ended s = if s.at_line_start then record s { pending = None } else record (appended s.line_end s) { at_line_start = true }

-- a position for what comes next: at a line's start it is recorded once the line has begun
unfoldable pub pointed : BytePos → Sheet → Sheet
pointed pos s = if s.keeps_positions && s.at_line_start then record s { pending = Some pos } else recorded pos s

-- ---- lines that are filled

-- texts go out, and behind each its position is recorded
unfoldable pub notes_released : List (List ℕ × BytePos) → Sheet → Sheet
notes_released [] s = s
notes_released (x ∷ xs) s = notes_released xs (noted x.1 (released x.0 s))

unfoldable pub notes_text : List (List ℕ × BytePos) → List ℕ
notes_text [] = []
notes_text (x ∷ xs) = x.0 ++ notes_text xs

-- the text of a segment
unfoldable pub text_in : Segment → List ℕ
text_in g = notes_text g.noted ++ g.rest

-- A line end goes out before a segment where the line and the segment's first line have together more than `max` units, unless one
-- of both is empty; and never before the first segment.
unfoldable pub ends_before : ℕ → Bool → Segment → Sheet → Bool
ends_before max first g s = if first then false else is_due max s.place.column (first_units (text_in g))

unfoldable pub line_ended : Bool → Sheet → Sheet
line_ended ends s = if ends then released s.line_end s else s

-- a segment goes out, and a line end before it where it is due
unfoldable pub segment_released : ℕ → Bool → Segment → Sheet → Sheet
segment_released max first g s = released g.rest (notes_released g.noted (line_ended (ends_before max first g s) s))

-- lines are filled from here on
unfoldable pub begun_by : Flow → ℕ → Sheet → Sheet
begun_by Flowing max s = record s { lines = Filling max true no_segment }
begun_by (Filling old first held) max s = record s { lines = Filling max first held }
begun_by (Cutting done begun) max s = s

-- here a line may end
unfoldable pub allowed_by : Flow → Sheet → Sheet
allowed_by Flowing s = s
allowed_by (Filling max first held) s = record (segment_released max first held s) { lines = Filling max false no_segment }
allowed_by (Cutting done begun) s = record s { lines = Cutting (done ++ (begun ∷ [])) no_segment }

unfoldable pub allowed : Sheet → Sheet
allowed s = allowed_by s.lines s

-- lines are filled no more
unfoldable pub closed_by : Flow → Sheet → Sheet
closed_by Flowing s = s
closed_by (Filling max first held) s = record (segment_released max first held s) { lines = Flowing }
closed_by (Cutting done begun) s = s

-- ---- semicolons

-- a break that was allowed while a semicolon was held
unfoldable pub passed_on : Bool → Sheet → Sheet
passed_on allows s = if allows then allowed s else s

-- a semicolon that is held back is written, and right after it the break that was kept with it
unfoldable pub settled_by : Semicolons → Sheet → Sheet
settled_by AtOnce s = s
settled_by HoldsNone s = s
settled_by (HoldsOne span allowed) s = passed_on allowed (written span (codes ";") (record s { semicolons = HoldsNone }))

abbrev pub settled : Sheet → Sheet
settled s = settled_by s.semicolons s

-- a semicolon: it is written, or held back, and then one that was held is lost, with its break
unfoldable pub semicolon_by : Semicolons → Option Span → Sheet → Sheet
semicolon_by AtOnce span s = written span (codes ";") s
semicolon_by HoldsNone span s = record s { semicolons = HoldsOne span false }
semicolon_by (HoldsOne held allowed) span s = record s { semicolons = HoldsOne span false }

-- a semicolon that is held back is lost
unfoldable pub dropped : Semicolons → Semicolons
dropped AtOnce = AtOnce
dropped HoldsNone = HoldsNone
dropped (HoldsOne span allowed) = HoldsNone

-- a punctuator before which a semicolon that is held back isn't needed
unfoldable pub is_ending : List ℕ → Bool
is_ending [] = false
is_ending (c ∷ []) = (c == 125) || (c == 59)
is_ending (c ∷ d ∷ cs) = false

-- what is written before a punctuator: a held semicolon, but before `}` and `;` it is lost
unfoldable pub before_punct : List ℕ → Sheet → Sheet
before_punct t s = if is_ending t then record s { semicolons = dropped s.semicolons } else settled s

-- a line may end here, or behind the semicolon that is held
unfoldable pub allowed_at : Semicolons → Sheet → Sheet
allowed_at AtOnce s = allowed s
allowed_at HoldsNone s = allowed s
allowed_at (HoldsOne span kept) s = record s { semicolons = HoldsOne span true }

-- ---- the calls

-- the sheet after a call
unfoldable pub effect : Item → Sheet → Sheet
effect (Semi span) s = semicolon_by s.semicolons span s
effect Space s = written None (codes " ") (settled s)
effect (Keyword span t) s = written span t (settled s)
effect (Operator span t) s = written span t (settled s)
effect (Param t) s = written None t (settled s)
effect (Property t) s = written None t (settled s)
effect Line s = ended (settled s)
effect (Lit span t) s = literal_written span t (settled s)
effect (Comment t) s = written None t (settled s)
effect (StrLit span t) s = literal_written span t (settled s)
effect (Str t) s = written None t (settled s)
effect (Symbol span t) s = written (Some span) t (settled s)
effect (Punct span t) s = written span t (before_punct t s)
effect (Position pos) s = pointed pos s
effect Commit s = settled s
effect Deeper s = record (settled s) { indentation = s.indentation + 1 }
effect Shallower s = record (settled s) { indentation = s.indentation - 1 }
effect (BeginLines max) s = begun_by s.lines max s
effect AllowBreak s = allowed_at s.semicolons s
effect EndLines s = closed_by s.lines s

-- a place that no pair can tell: its line or its column is above the greatest number of 32 bits
unfoldable pub IsFar : Place → Type 0
IsFar p = (2 ^ 32 ≤ p.line) ⊎ (2 ^ 32 ≤ p.column)

-- a call may ask for memory: for positions, or to hold a text while lines are filled
abbrev pub may_take_memory : Sheet → Bool
may_take_memory s = s.takes_memory || fills_lines s.lines

-- A call is refused only for the cause that its error names: where positions are kept, one may stand too far.
unfoldable pub Causes : Item → Refusal → Sheet → Sheet → Type 0
Causes x Writer old new = Rises old.faults new.faults
Causes x OutOfMemory old new = may_take_memory old ≡ true
Causes x UnsupportedNode old new = ⊥
Causes x BadShape old new = ⊥
Causes x NameOutOfTarget old new = ⊥
Causes x PositionTooLarge old new = ((x ≡ Deeper) × (old.indentation ≡ 2 ^ 32 - 1)) ⊎ ((old.keeps_positions ≡ true) × IsFar new.place)
Causes x Failed old new = ⊥

-- The pairs that are recorded end before this one, which is the next on the way to a sheet: it would hold the place that was reached.
abbrev pub LeavesOut : Sheet → Sheet → Type 0
LeavesOut goal new = (pos : BytePos) × (more : List Pair) × (goal.pairs ≡ new.pairs ++ (pair_at pos new.place ∷ more))

-- What memory was wanting for, on the way to a sheet.
pub data LacksRoom (goal old new : Sheet) : Type 0 where
  -- a pair, which isn't recorded
  for_pair : LeavesOut goal new → LacksRoom goal old new
  -- a text, and no pair was recorded before it,
  for_text : new.pairs ≡ old.pairs → LacksRoom goal old new
  -- or none but those of the semicolon that was held
  behind_semicolon : new.pairs ≡ (settled old).pairs → LacksRoom goal old new
  -- what is held while lines are filled
  to_hold : fills_lines old.lines ≡ true → fills_lines new.lines ≡ true → LacksRoom goal old new

-- A call was stopped on its way: a beginning of its text is out, and the place is that behind it; a beginning of its pairs is
-- recorded, and a pair that had no room isn't; a semicolon that was held back still is, or is out and no longer held; and nothing
-- else changed but the count of faults and what is held of a segment. (A pair that stands too far is none: no pair can tell its place.)
pub record Stopped (e : Refusal) (goal old new : Sheet) : Type 0 where
  pub grows : IsPrefix old.text new.text
  pub front : IsPrefix new.text goal.text
  pub place : new.place ≡ after_text grows.0 old.place
  pub more_pairs : IsPrefix old.pairs new.pairs
  pub front_pairs : IsPrefix new.pairs goal.pairs
  pub room : e ≡ OutOfMemory → LacksRoom goal old new
  pub held : (new.semicolons ≡ old.semicolons) ⊎ ((new.semicolons ≡ dropped old.semicolons) × IsPrefix (settled old).text new.text)
  pub same : new ≡ record old { text = new.text; whole = new.whole; at_line_start = new.at_line_start; semicolons = new.semicolons; pairs = new.pairs; pending = new.pending; place = new.place; lines = new.lines; faults = new.faults; refused = true }

-- A call is refused since an earlier one was, and does nothing; or it is stopped, for the cause that its error names.
pub data Refuses (x : Item) (e : Refusal) (old new : Sheet) : Type 0 where
  earlier : old.refused ≡ true → e ≡ Failed → new ≡ old → Refuses x e old new
  stopped : old.refused ≡ false → Causes x e old new → Stopped e (effect x old) old new → Refuses x e old new

-- What a call does: its effect where it answers `Ok`, else it was refused.
unfoldable pub Writes : Item → Sheet → Sheet → Result (Unit {0}) Refusal → Type 0
Writes x old new (Ok _) = (old.refused ≡ false) × (new ≡ effect x old)
Writes x old new (Err e) = Refuses x e old new

-- what a call answers that only says whether it was refused, by the reason that its writer keeps
abbrev pub answered : Bool → Refusal → Result (Unit {0}) Refusal
answered true e = Ok tt
answered false e = Err e

-- lines begin with a call
abbrev pub begins_lines : Item → Bool
begins_lines (BeginLines max) = true
begins_lines x = false

-- the sheet after some calls
unfoldable pub effects : List Item → Sheet → Sheet
effects [] s = s
effects (x ∷ xs) s = effects xs (effect x s)
