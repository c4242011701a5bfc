-- What an emission does, a word for each clause: of the root that is printed, or of the part that is written. It goes from one state to another,
-- and gives an answer.
use Rattle.std.specs.Prelude.{◌≡◌, ◌≢◌, ℕ, true, false, Some, Result, Err, OnOk, OnErr, IfErr, IsOk, ⊤}
use Rattle.swc_ecma_codegen_common.specs.declared.errors.Error.{Error}
use Rattle.swc_ecma_codegen_common.specs.declared.errors.Error.TheVariants.{OutOfMemory, Failed}
use Rattle.swc_ecma_codegen_common.specs.Refusals.{in_short, reason_of}
use Rattle.swc_ecma_codegen_grammar.specs.CommentMaps.{Maps}
use Rattle.swc_ecma_codegen_grammar.specs.Comments.{AreClosed, texts_of}
use Rattle.swc_ecma_codegen_grammar.specs.Phrases.{names_in}
use Rattle.swc_ecma_codegen_text_writer.specs.Sheet.{fills_lines, may_take_memory}
use Rattle.swc_ecma_codegen_text_writer.specs.Contents.{IsPrefix}
use Rattle.swc_ecma_codegen_text_writer.specs.Recorded.{RecordsTruly}
use Rattle.swc_ecma_codegen_tokens.specs.Ascii.{other_texts, AddsAscii, WantsAscii}
use Rattle.swc_ecma_codegen_tokens.specs.Named.{RecordsNames, PlacesNames}
use Rattle.swc_ecma_codegen_tokens.specs.Ready.{IsPlainTree, IsReady}
use Rattle.swc_ecma_codegen_tokens.specs.Run.{Part, State, Follows, HasCause, IsUnhindered, is_bounded, makes_text, maps_after, nothing, printed, spoken, steps_in, steps_of, taken_in}
use Rattle.swc_ecma_codegen_tokens.specs.Scripts.{value_strings, AddsSafe}
use Rattle.swc_ecma_codegen_tokens.specs.Written.{AddsReading, taken_remarks}
use Rattle.swc_ecma_codegen_emit.specs.Left.{NoneBeforeItems, NoneBeforeBody}
use Rattle.swc_ecma_codegen_emit.specs.Lined.{CanFill, FillsLinesOf}
use Rattle.swc_ecma_codegen_emit.specs.Roots.{Root, OfModule, OfProgram, is_program, root_at, root_items, root_phrase, is_well_formed_root, MayBegin}

abbrev pub Outcome : Type 0
Outcome = Result (Unit {0}) Error

-- ---- of a well-formed root

-- What a new emitter adds to the text reads as one of the root's token lists, with the comments that it took between; a root with a hashbang,
-- where no indentation is due before it.
abbrev pub ReadsAsRoot : Root → State → State → Outcome → Type 0
ReadsAsRoot n a b r =
    is_well_formed_root n ≡ true → MayBegin n a → AreClosed a.env.maps →
    OnOk r (AddsReading a.env.config (root_phrase n) (taken_remarks (root_items n) a.env) a.sheet b.sheet)

-- Each comment that it took is written, once, in order of taking.
abbrev pub WritesTaken : Root → State → Outcome → Type 0
WritesTaken n a r =
    is_well_formed_root n ≡ true → a.env.keeps_invalid ≡ false →
    OnOk r (spoken (steps_of (steps_in (root_items n) a)) ≡ texts_of (taken_in (steps_of (steps_in (root_items n) a)) a.env.maps))

-- no comment is left before an item of a module
abbrev pub NoneBeforeRoot : Root → Maps → Type 0
NoneBeforeRoot (OfModule n) maps = NoneBeforeItems n maps
NoneBeforeRoot (OfProgram n) maps = NoneBeforeBody n maps
NoneBeforeRoot n maps = ⊤

abbrev pub LeavesNone : Root → State → State → Outcome → Type 0
LeavesNone n a b r = is_well_formed_root n ≡ true → a.env.keeps_invalid ≡ false → OnOk r (NoneBeforeRoot n b.env.maps)

-- Where positions are kept, each name has its own where it begins, unless that is 0.
abbrev pub RecordsEachName : Root → State → State → Outcome → Type 0
RecordsEachName n a b r =
    is_well_formed_root n ≡ true → a.sheet.keeps_positions ≡ true → a.env.keeps_invalid ≡ false → fills_lines a.sheet.lines ≡ false →
    (is_program n ≡ true → is_bounded a.env ≡ true → CanFill a) →
    OnOk r (RecordsNames a.env.config (names_in (root_phrase n)) a.sheet b.sheet)

-- Where positions are kept, each of these names stands as its own token behind those before it: what is before it reads as them.
abbrev pub PlacesEachName : Root → State → State → Outcome → Type 0
PlacesEachName n a b r =
    is_well_formed_root n ≡ true → MayBegin n a → AreClosed a.env.maps → a.sheet.keeps_positions ≡ true →
    OnOk r (PlacesNames a.env.config (root_phrase n) (taken_remarks (root_items n) a.env) a.sheet b.sheet)

-- Where the settings ask for ASCII, what is added is, but for the texts that stand as they are in the tree and aren't (a regular expression,
-- a template with a tag, a hashbang, a directive with a backslash, names, strings and text of JSX), and those of comments.
abbrev pub AddsOnlyAscii : Root → State → State → Outcome → Type 0
AddsOnlyAscii n a b r =
    is_well_formed_root n ≡ true → WantsAscii a → OnOk r (AddsAscii (other_texts (steps_of (steps_in (root_items n) a))) a.sheet.text b.sheet.text)

-- Under `inline_script` no string that is printed by its value ends a script of an HTML page, or opens or closes a comment there: it holds no
-- `<!--`, no `-->`, and no `</script` before `>` or ASCII whitespace.
abbrev pub AddsSafeStrings : Root → State → State → Outcome → Type 0
AddsSafeStrings n a b r =
    is_well_formed_root n ≡ true → a.env.config.inline_script ≡ true → a.env.keeps_invalid ≡ false → fills_lines a.sheet.lines ≡ false →
    OnOk r (AddsSafe (value_strings (steps_of (steps_in (root_items n) a))) a.sheet.text b.sheet.text)

-- Where lines are bounded, those of a module or script are filled: each has at most `max` units, or holds no place where it may be ended, and
-- no other choice of these places has fewer lines.
abbrev pub FillsItsLines : Root → State → State → Outcome → Type 0
FillsItsLines n a b r =
    (max : ℕ) → is_program n ≡ true → is_well_formed_root n ≡ true → a.env.config.minify ≡ true → a.env.max_line ≡ Some max → a.env.keeps_invalid ≡ false →
    CanFill a → OnOk r (FillsLinesOf max (root_at n) a b.sheet)

-- Where the emitter is ready, and the writer counts no fault, a plain tree is printed.
abbrev pub MakesPlainTrees : Root → State → State → Outcome → Type 0
MakesPlainTrees n a b r =
    IsPlainTree a.env.config (root_phrase n) a.sheet.indentation → IsReady a → b.sheet.faults ≡ a.sheet.faults → IsOk r

-- ---- of any part

-- What is gone from the comments is what was taken.
abbrev pub TakesComments : Part → State → State → Outcome → Type 0
TakesComments p a b r = OnOk r (b.env.maps ≡ maps_after (steps_of (steps_in p a)) a.env.maps)

-- What is out is a beginning of the text of its steps.
abbrev pub SendsFront : Part → State → State → Type 0
SendsFront p a b = IsPrefix b.sheet.text (printed p a).sheet.text

-- It is refused only for the cause that the error names.
abbrev pub IsRefusedForCause : Part → State → State → Outcome → Type 0
IsRefusedForCause p a b r = IfErr r (λ error. HasCause (steps_in p a) (reason_of error) a b)

-- Where no text is made anew, and no call of the writer takes memory, none is wanting.
abbrev pub WantsNoMemory : Part → State → Outcome → Type 0
WantsNoMemory p a r = makes_text (steps_of (steps_in p a)) ≡ false → may_take_memory a.sheet ≡ false → r ≢ Err OutOfMemory

-- Where nothing stands in its way, it is made.
abbrev pub IsMadeUnhindered : Part → State → State → Outcome → Type 0
IsMadeUnhindered p a b r = IsUnhindered (steps_in p a) a b → IsOk r

-- The emitter is ready again for the next, where no lines are filled then.
abbrev pub StaysReady : State → State → Outcome → Type 0
StaysReady a b r = OnOk r (fills_lines b.sheet.lines ≡ false → IsReady a → IsReady b)

-- ---- the clauses of the emit calls

-- What the emission of a part does. Of a part that is what is written of a root, more is said.
pub record Emission (p : Part) (a b : State) (r : Outcome) : Type 0 where
  -- The steps of the tree are made, and it comes to no node that can't be printed; or it halts.
  pub items : Follows (p nothing) a b (in_short r)
  -- What a new emitter adds to the text, of a well-formed tree, reads as one of the tree's token lists; with a hashbang, where
  -- no indentation is due before it.
  pub reads : (root : Root) → p ≡ root_items root → ReadsAsRoot root a b r
  -- Each position that is recorded holds the place that the text had reached, and none is recorded twice.
  pub recorded : OnOk r (RecordsTruly a.sheet b.sheet)
  -- What is gone from the comments is what was taken.
  pub taken : TakesComments p a b r
  -- Of a well-formed tree each of these is written, once, in order of taking.
  pub told : (root : Root) → p ≡ root_items root → WritesTaken root a r
  -- Of a well-formed module no comment is left before an item.
  pub left : (root : Root) → p ≡ root_items root → LeavesNone root a b r
  -- Where positions are kept, each name of a well-formed tree has its own where it begins, unless that is 0.
  pub names : (root : Root) → p ≡ root_items root → RecordsEachName root a b r
  -- Where positions are kept, each of these names stands as its own token behind those before it: what is before it reads as them.
  pub places : (root : Root) → p ≡ root_items root → PlacesEachName root a b r
  -- Where the settings ask for ASCII, what is added to the text is, but for texts that stand as they are in the tree.
  pub ascii : (root : Root) → p ≡ root_items root → AddsOnlyAscii root a b r
  -- Under `inline_script` no string of a well-formed tree that is printed by its value ends a script of an HTML page.
  pub inline : (root : Root) → p ≡ root_items root → AddsSafeStrings root a b r
  -- Where lines are bounded, those of a module or script are filled.
  pub fills : (root : Root) → p ≡ root_items root → FillsItsLines root a b r
  -- What is out is a beginning of the text of these steps.
  pub front : SendsFront p a b
  -- It is refused only for the cause that the error names.
  pub cause : IsRefusedForCause p a b r
  -- Where no text is made anew, and no call of the writer takes memory, none is wanting.
  pub no_memory : WantsNoMemory p a r
  -- Where nothing stands in its way, it is made.
  pub succeeds : IsMadeUnhindered p a b r
  -- Where it is ready, and the writer counts no fault, a plain tree is printed.
  pub made : (root : Root) → p ≡ root_items root → MakesPlainTrees root a b r
  -- It is ready again for the next, where no lines are filled then.
  pub ready : StaysReady a b r
  -- Once it was refused, the emitter is marked as failed, and a failed one prints nothing.
  pub marked : OnErr r (b.failed ≡ true)
  pub failed : a.failed ≡ true → r ≡ Err Failed
  -- The indentation is what it was.
  pub level : OnOk r (b.sheet.indentation ≡ a.sheet.indentation)
