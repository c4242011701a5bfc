-- What an emission does: its steps, where each leads, and how it stops.
use Rattle.std.specs.Prelude.{◌≡◌, ◌⊎◌, ℕ, ◌<◌, ◌-◌, ◌^◌, Bool, true, false, ◌||◌, ◌&&◌, is_some, if◌then◌else◌, List, [], ◌∷◌, ◌++◌, codes, Option, Some, None, Result, Ok, Err, OnOk}
use Rattle.std.specs.Str.{chars}
use Rattle.swc_ecma_codegen_common.specs.declared.errors.Refusal.{Refusal}
use Rattle.swc_ecma_codegen_common.specs.declared.errors.Refusal.TheVariants.{Writer, OutOfMemory, UnsupportedNode, BadShape, NameOutOfTarget, PositionTooLarge, Failed}
use Rattle.swc_ecma_codegen_settings.specs.declared.config.Config.{Config}
use Rattle.swc_ecma_codegen_grammar.specs.declared.kinds.Kind.{Kind}
use Rattle.swc_ecma_codegen_grammar.specs.declared.kinds.Kind.TheVariants.{Punctuator, Ending}
use Rattle.swc_ecma_codegen_grammar.specs.SourceLines.{Lines}
use Rattle.swc_ecma_codegen_grammar.specs.GapRules.{PreviousToken, Start, Separated, fuses, last_after}
use Rattle.swc_ecma_codegen_text_writer.specs.Sheet.{Item, Semi, Space, Keyword, Operator, Param, Property, Line, Lit, Comment, StrLit, Str, Symbol, Punct, Position, Commit, Deeper, Shallower, Sheet, effect, IsFar, Refuses, BeginLines, AllowBreak, EndLines, begins_lines, may_take_memory}
use Rattle.swc_ecma_codegen_text_writer.specs.Contents.{Rises}
use Rattle.swc_ecma_codegen_literals.specs.ValidNames.{has_byte}
use Rattle.swc_ecma_codegen_grammar.specs.CommentMaps.{Maps}
use Rattle.swc_ecma_codegen_grammar.specs.declared.comments.Comment.{Comment as SourceComment}
use Rattle.swc_ecma_codegen_grammar.specs.Comments.{Side, comments_at, taken_out}
use Rattle.swc_ecma_codegen_tokens.specs.declared.refusals.Unprintable.{Unprintable}
use Rattle.swc_ecma_codegen_tokens.specs.declared.refusals.Unprintable.TheVariants as unprintable

-- a step of an emission
pub data Step : Type 0 where
  -- here a blank goes where the last token and this text would fuse
  Guard : (text : List ℕ) → Step
  -- a call that writes a token of a kind
  Token : (kind : Kind) → (item : Item) → Step
  -- a call that writes no token
  Plain : (item : Item) → Step
  -- a call with which these tokens end, each as it is spelled: those that it wrote, or the plain calls before it. So `/a/g` is
  -- one token of four calls, and `-5` two of one.
  Ends : (tokens : List (Kind × List ℕ)) → (item : Item) → Step
  -- a text is made anew in memory, where that is due
  Remake : (due : Bool) → Step
  -- the comments of a position are taken out of the maps
  Take : (side : Side) → (at : ℕ) → Step
  -- a call that writes the text of a comment, between what opens it and what closes it
  CommentText : (text : List ℕ) → Step

-- the text that a call hands over
unfoldable pub text_of : Item → List ℕ
text_of (Semi span) = codes ";"
text_of Space = codes " "
text_of (Keyword span t) = t
text_of (Operator span t) = t
text_of (Param t) = t
text_of (Property t) = t
text_of Line = []
text_of (Lit span t) = t
text_of (Comment t) = t
text_of (StrLit span t) = t
text_of (Str t) = t
text_of (Symbol span t) = t
text_of (Punct span t) = t
text_of (Position pos) = []
text_of Commit = []
text_of Deeper = []
text_of Shallower = []
text_of (BeginLines max) = []
text_of AllowBreak = []
text_of EndLines = []

-- the characters of a token's text; a punctuator is ASCII, so its bytes are its characters
unfoldable pub spelling : Kind → List ℕ → List ℕ
spelling Punctuator t = t
spelling Ending t = t
spelling kind t = chars t

-- the last token after one of a kind, spelled so
unfoldable pub after_token : Kind → List ℕ → PreviousToken → PreviousToken
after_token kind t last = last_after last kind (spelling kind t)

-- the last token after some
unfoldable pub after_tokens : List (Kind × List ℕ) → PreviousToken → PreviousToken
after_tokens [] last = last
after_tokens (x ∷ xs) last = after_tokens xs (after_token x.0 x.1 last)

-- a blank, a line end and a piece of a comment part the last token from the next one
unfoldable pub after_plain : Item → PreviousToken → PreviousToken
after_plain Space last = Separated
after_plain Line last = Separated
after_plain (Comment t) last = Separated
after_plain x last = last

-- what an emission goes by, whatever it has written
pub record Env : Type 0 where
  -- the settings, without the greatest length of lines
  pub config : Config
  -- the greatest length of lines, where lines are to be bounded
  pub max_line : Option ℕ
  -- the writer keeps U+0000 after a backslash in a name
  pub keeps_invalid : Bool
  -- what the map of the source text answers
  pub lines : Lines
  -- the comments that are still to be taken
  pub maps : Maps

-- the settings that tokens go by: a greatest length of lines changes none
abbrev pub unlined : Config → Config
unlined config = record config { max_line = None }

-- lines are bounded here: there is a greatest length, and the settings are to minify
abbrev pub is_bounded : Env → Bool
is_bounded env = is_some env.max_line && env.config.minify

-- the same with other comments to be taken
abbrev pub at_maps : Maps → Env → Env
at_maps maps env = record env { maps = maps }

-- the comments that are left after a step
unfoldable pub after_step : Step → Maps → Maps
after_step (Take side at) maps = taken_out side at maps
after_step x maps = maps

-- and after some
unfoldable pub maps_after : List Step → Maps → Maps
maps_after [] maps = maps
maps_after (x ∷ xs) maps = maps_after xs (after_step x maps)

-- the comments that a step takes, and that some take, in order
unfoldable pub taken_by : Step → Maps → List SourceComment
taken_by (Take side at) maps = comments_at side at maps
taken_by x maps = []

unfoldable pub taken_in : List Step → Maps → List SourceComment
taken_in [] maps = []
taken_in (x ∷ xs) maps = taken_by x maps ++ taken_in xs (after_step x maps)

-- the texts of comments that steps write, in order
unfoldable pub spoken : List Step → List (List ℕ)
spoken [] = []
spoken (Guard t ∷ xs) = spoken xs
spoken (Token kind x ∷ xs) = spoken xs
spoken (Plain x ∷ xs) = spoken xs
spoken (Ends tokens x ∷ xs) = spoken xs
spoken (Remake due ∷ xs) = spoken xs
spoken (Take side at ∷ xs) = spoken xs
spoken (CommentText t ∷ xs) = t ∷ spoken xs

-- where an emission stands
pub record State : Type 0 where
  pub env : Env
  pub sheet : Sheet
  pub last : PreviousToken
  pub failed : Bool

-- a step that is made
unfoldable pub put : Step → State → State
put (Guard t) s = if fuses s.last (chars t) then record s { sheet = effect Space s.sheet; last = Separated } else s
put (Token kind x) s = record s { sheet = effect x s.sheet; last = after_token kind (text_of x) s.last }
put (Plain x) s = record s { sheet = effect x s.sheet; last = after_plain x s.last }
put (Ends tokens x) s = record s { sheet = effect x s.sheet; last = after_tokens tokens s.last }
put (Remake due) s = s
put (Take side at) s = record s { env = at_maps (taken_out side at s.env.maps) s.env }
put (CommentText t) s = record s { sheet = effect (Comment t) s.sheet; last = Separated }

-- steps that are made, in order
unfoldable pub run : List Step → State → State
run [] s = s
run (x ∷ xs) s = run xs (put x s)

-- a name with a backslash
abbrev pub has_backslash : List ℕ → Bool
has_backslash name = has_byte 92 name

-- a step is refused: its call of the writer is, or memory where it is due
unfoldable pub IsRefused : Step → Refusal → State → Sheet → Type 0
IsRefused (Guard t) e a new = (fuses a.last (chars t) ≡ true) × Refuses Space e a.sheet new
IsRefused (Token kind x) e a new = Refuses x e a.sheet new
IsRefused (Plain x) e a new = Refuses x e a.sheet new
IsRefused (Ends tokens x) e a new = Refuses x e a.sheet new
IsRefused (Remake due) e a new = (e ≡ OutOfMemory) × (due ≡ true) × (new ≡ a.sheet)
IsRefused (Take side at) e a new = ⊥
IsRefused (CommentText t) e a new = Refuses (Comment t) e a.sheet new

-- the error that a node that can't be printed is refused with
unfoldable pub refusal_of : Unprintable → Refusal
refusal_of unprintable.UnsupportedNode = UnsupportedNode
refusal_of unprintable.BadShape = BadShape
refusal_of unprintable.NameOutOfTarget = NameOutOfTarget

-- The steps that a tree asks for: they come to an end, or to a node that can't be printed.
pub data Steps : Type 0 where
  done : Steps
  refused : Unprintable → Steps
  next : Step → Steps → Steps

-- the steps, up to the end or to the node that can't be printed
unfoldable pub steps_of : Steps → List Step
steps_of done = []
steps_of (refused e) = []
steps_of (next x xs) = x ∷ steps_of xs

-- why they go no further than that, if for a reason
unfoldable pub unprintable_in : Steps → Option Unprintable
unprintable_in done = None
unprintable_in (refused e) = Some e
unprintable_in (next x xs) = unprintable_in xs

-- one of these steps is refused, and those before it are made
pub record Stops (xs : List Step) (e : Refusal) (a b : State) : Type 0 where
  pub front : List Step
  pub step : Step
  pub rest : List Step
  pub split : xs ≡ front ++ (step ∷ rest)
  pub fresh : a.failed ≡ false
  pub marked : b ≡ record (run front a) { sheet = b.sheet; failed = true }
  pub refuses : IsRefused step e (run front a) b.sheet

-- Nothing is done, since an earlier call was refused; or one of the steps is refused, and those before it are made;
-- or all steps before a node that can't be printed are made, and no other.
pub data Halts (xs : Steps) (e : Refusal) (a b : State) : Type 0 where
  earlier : a.failed ≡ true → e ≡ Failed → b ≡ a → Halts xs e a b
  stopped : Stops (steps_of xs) e a b → Halts xs e a b
  reached : (r : Unprintable) → a.failed ≡ false → unprintable_in xs ≡ Some r → e ≡ refusal_of r → b ≡ record (run (steps_of xs) a) { failed = true } → Halts xs e a b

-- What is to be done.
abbrev pub Plan : Type 0
Plan = Env → Steps

-- A part of a plan, before what comes next.
abbrev pub Part : Type 0
Part = Plan → Plan

unfoldable pub nothing : Plan
nothing env = done

-- All steps of a plan are made, and it comes to no node that can't be printed; or it halts.
unfoldable pub Follows : Plan → State → State → Result (Unit {0}) Refusal → Type 0
Follows p a b (Ok _) = (unprintable_in (p a.env) ≡ None) × (b ≡ run (steps_of (p a.env)) a)
Follows p a b (Err e) = Halts (p a.env) e a b

-- A part of a plan is done: what goes on after it goes on from b. Where it is refused, all that goes on so is.
abbrev pub Emits : Part → State → State → Result (Unit {0}) Refusal → Type 0
Emits part a b (Ok _) = (rest : Plan) (c : State) (r : Result (Unit {0}) Refusal) → Follows rest b c r → Follows (part rest) a c r
Emits part a b (Err e) = (rest : Plan) → Follows (part rest) a b (Err e)

-- and with other comments to be taken
abbrev pub at_source : Lines → Maps → State → State
at_source lines maps s = record s { env = record s.env { lines = lines; maps = maps } }

-- the same, not to be looked into
unfoldable pub with_source : Lines → Maps → State → State
with_source lines maps s = at_source lines maps s

-- A part of a plan is done, wherever lines end in the source text and whatever comments there are: it takes none.
abbrev pub Does : Part → State → State → Result (Unit {0}) Refusal → Type 0
Does part a b (Ok u) = (lines : Lines) (maps : Maps) → Emits part (with_source lines maps a) (with_source lines maps b) (Ok u)
Does part a b (Err e) = (lines : Lines) (maps : Maps) → Emits part (with_source lines maps a) (with_source lines maps b) (Err e)

-- A part of a plan is done that takes comments: these were there before, and those are left.
abbrev pub DoesTaking : Part → Maps → Maps → State → State → Result (Unit {0}) Refusal → Type 0
DoesTaking part before left a b (Ok u) = (lines : Lines) → Emits part (with_source lines before a) (with_source lines left b) (Ok u)
DoesTaking part before left a b (Err e) = (lines : Lines) → Emits part (with_source lines before a) (with_source lines left b) (Err e)

-- The level of indentation stays, unless the call is refused.
abbrev pub Stays : Sheet → Sheet → Result (Unit {0}) Refusal → Type 0
Stays before after result = OnOk result (after.indentation ≡ before.indentation)

-- one step; what comes after it has the comments that are left
unfoldable pub step : Step → Part
step x rest env = next x (rest (at_maps (after_step x env.maps) env))

-- a node that can't be printed, whatever comes after it
unfoldable pub refuse : Unprintable → Part
refuse r rest env = refused r

-- a part with another greatest length of lines, or with none
unfoldable pub with_max_line : Option ℕ → Part → Part
with_max_line max part rest env = part (λ inner. rest (record inner { max_line = env.max_line })) (record env { max_line = max })

-- a part in which no line may be ended: a template, an element
abbrev pub unbounded : Part → Part
unbounded part = with_max_line None part

-- one part, where the settings are to minify, else another
unfoldable pub when_minified : Part → Part → Part
when_minified part other rest env = if env.config.minify then part rest env else other rest env

-- nothing
unfoldable pub no_part : Part
no_part rest = rest

-- a text of these steps is made anew, in memory, or lines begin with one of them, and what is written then is held there
unfoldable pub makes_text : List Step → Bool
makes_text [] = false
makes_text (Remake due ∷ xs) = due || makes_text xs
makes_text (Guard t ∷ xs) = makes_text xs
makes_text (Token kind x ∷ xs) = begins_lines x || makes_text xs
makes_text (Plain x ∷ xs) = begins_lines x || makes_text xs
makes_text (Ends tokens x ∷ xs) = begins_lines x || makes_text xs
makes_text (Take side at ∷ xs) = makes_text xs
makes_text (CommentText t ∷ xs) = makes_text xs

-- a step that makes the indentation deeper
unfoldable pub deepens : Step → Type 0
deepens (Token kind x) = x ≡ Deeper
deepens (Plain x) = x ≡ Deeper
deepens (Guard t) = ⊥
deepens (Ends tokens x) = x ≡ Deeper
deepens (Remake due) = ⊥
deepens (Take side at) = ⊥
deepens (CommentText t) = ⊥

-- The indentation would pass its limit at one of the steps.
pub record PassesLimit (xs : List Step) (a : State) : Type 0 where
  pub front : List Step
  pub step : Step
  pub rest : List Step
  pub split : xs ≡ front ++ (step ∷ rest)
  pub is_deeper : deepens step
  pub at_limit : (run front a).sheet.indentation ≡ 2 ^ 32 - 1

-- A position was to be recorded at a place that no pair can tell.
abbrev pub IsTooFar : State → State → Type 0
IsTooFar a b = (a.sheet.keeps_positions ≡ true) × IsFar b.sheet.place

-- The steps come to a node that can't be printed, and all before it are made.
pub record IsReached (xs : Steps) (r : Unprintable) (a b : State) : Type 0 where
  pub refusal : unprintable_in xs ≡ Some r
  pub made : b ≡ record (run (steps_of xs) a) { failed = true }

-- An emission is refused only for the cause that its error names.
unfoldable pub HasCause : Steps → Refusal → State → State → Type 0
HasCause xs Writer a b = Rises a.sheet.faults b.sheet.faults
HasCause xs OutOfMemory a b = (may_take_memory a.sheet || makes_text (steps_of xs)) ≡ true
HasCause xs PositionTooLarge a b = PassesLimit (steps_of xs) a ⊎ IsTooFar a b
HasCause xs Failed a b = (a.failed || a.sheet.refused) ≡ true
HasCause xs UnsupportedNode a b = IsReached xs unprintable.UnsupportedNode a b
HasCause xs BadShape a b = IsReached xs unprintable.BadShape a b
HasCause xs NameOutOfTarget a b = IsReached xs unprintable.NameOutOfTarget a b

-- Nothing stands in the way of an emission: nothing was refused before, the writer counts no fault and its count isn't
-- at its last value, neither it nor a text asks for memory, the indentation stays in its limit, no position stands too far,
-- and each node can be printed.
pub record IsUnhindered (xs : Steps) (a b : State) : Type 0 where
  pub fresh : (a.failed || a.sheet.refused) ≡ false
  pub no_fault : b.sheet.faults ≡ a.sheet.faults
  pub can_count : a.sheet.faults < 2 ^ 64 - 1
  pub no_memory : (may_take_memory a.sheet || makes_text (steps_of xs)) ≡ false
  pub within : PassesLimit (steps_of xs) a → ⊥
  pub near : IsTooFar a b → ⊥
  pub printable : unprintable_in xs ≡ None

-- the steps of a part that nothing comes after
abbrev pub steps_in : Part → State → Steps
steps_in part a = part nothing a.env

-- where these steps lead, up to the end or to the node that can't be printed
abbrev pub printed : Part → State → State
printed part a = run (steps_of (steps_in part a)) a

-- where an emission over a sheet begins
abbrev pub start : Lines → Maps → Config → Sheet → State
start lines maps config sheet = record { env = record { config = unlined config; max_line = config.max_line; keeps_invalid = sheet.keeps_invalid; lines = lines; maps = maps }; sheet = sheet; last = Start; failed = false }
