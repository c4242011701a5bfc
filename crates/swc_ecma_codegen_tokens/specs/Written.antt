-- What a sheet is like, whose text can be read back.
use Rattle.std.specs.Prelude.{◌≡◌, ◌⊎◌, ℕ, Bool, true, false, if◌then◌else◌, List, [], ◌∷◌, ◌++◌, ◌==◌, ◌||◌, ◌&&◌, codes}
use Rattle.std.specs.List.{repeat}
use Rattle.std.specs.Str.{chars, is_utf8, IsUtf8}
use Rattle.swc_ecma_codegen_grammar.specs.declared.kinds.Kind.TheVariants.{Ending}
use Rattle.swc_ecma_codegen_grammar.specs.Tokens.{Token, punctuator, name}
use Rattle.swc_ecma_codegen_grammar.specs.Names.{is_word, name_value}
use Rattle.swc_ecma_codegen_grammar.specs.SpelledNames.{spelled_name}
use Rattle.swc_ecma_codegen_grammar.specs.Punctuators.{is_punctuator}
use Rattle.swc_ecma_codegen_grammar.specs.Texts.{begins}
use Rattle.swc_ecma_codegen_grammar.specs.Reads.{Reads, is_same_line}
use Rattle.swc_ecma_codegen_grammar.specs.Trivia.{Remark, Piece, Blank}
use Rattle.swc_ecma_codegen_grammar.specs.Comments.{all_tame, remarks_of}
use Rattle.swc_ecma_codegen_grammar.specs.Endings.{IsReduced}
use Rattle.swc_ecma_codegen_grammar.specs.Phrases.{Phrase, Generates}
use Rattle.swc_ecma_codegen_grammar.specs.GapRules.{PreviousToken, Start, Separated, allows, ends_text, holds_child}
use Rattle.swc_ecma_codegen_grammar.specs.Parts.{Part, Gap, Own, Break, PastLine, walk, is_broken, text_of, tokens_of, remarks_in, NoneFuse, Reduced}
use Rattle.swc_ecma_codegen_text_writer.specs.Sheet.{Sheet, Semicolons, AtOnce, HoldsNone, HoldsOne, holds_semicolons, fills_lines}
use Rattle.swc_ecma_codegen_literals.specs.AsciiNames.{is_ascii_text}
use Rattle.swc_ecma_codegen_settings.specs.declared.config.Config.{Config}
use Rattle.swc_ecma_codegen_tokens.specs.Run as run
use Rattle.swc_ecma_codegen_tokens.specs.Run.{Env, State, steps_of, nothing, taken_in}
use Rattle.swc_ecma_codegen_tokens.specs.Settings.{settings_of}

-- LF, or CR and LF
abbrev pub IsLineEnd : List ℕ → Type 0
IsLineEnd t = (t ≡ 10 ∷ []) ⊎ (t ≡ 13 ∷ 10 ∷ [])

-- a text of blanks and tabs
unfoldable pub is_indent : ℕ → Bool
is_indent c = (c == 32) || (c == 9)

unfoldable pub all_indent : List ℕ → Bool
all_indent [] = true
all_indent (c ∷ cs) = is_indent c && all_indent cs

-- no token stands before: nothing does, or a blank or a line end
unfoldable pub is_free : PreviousToken → Bool
is_free Start = true
is_free Separated = true
is_free last = false

-- a semicolon is held back
unfoldable pub holds_one : Semicolons → Bool
holds_one AtOnce = false
holds_one HoldsNone = false
holds_one (HoldsOne span allowed) = true

-- a break was allowed since, and is kept with it
unfoldable pub keeps_break : Semicolons → Bool
keeps_break AtOnce = false
keeps_break HoldsNone = false
keeps_break (HoldsOne span allowed) = allowed

-- What may come next: any token but a child of JSX; a child too, behind the end of a tag or of a container; what begins a child and
-- nothing else, behind text or a child; what begins with no dash, behind a name in a tag.
pub data Spot : Type 0 where
  Anything Between InText InName : Spot

-- A child of JSX may stand right here: no line begins, and no semicolon is held back.
pub record TakesChild (s : State) : Type 0 where
  pub child : holds_child s.last ≡ true
  pub nothing_held : holds_one s.sheet.semicolons ≡ false
  pub in_line : s.sheet.at_line_start ≡ false

abbrev pub Takes : Spot → State → Type 0
Takes Anything s = (t : List ℕ) → allows s.last t ≡ true
Takes Between s = TakesChild s × ((t : List ℕ) → allows s.last t ≡ true)
Takes InText s = TakesChild s × ((t : List ℕ) → ends_text t ≡ true → allows s.last t ≡ true)
Takes InName s = (t : List ℕ) → begins (codes "-") t ≡ false → allows s.last t ≡ true

-- Between two steps of a text that can be read back: lines are indented by blanks or tabs, and not filled, and this may come next.
pub record RestsAt (spot : Spot) (s : State) : Type 0 where
  pub indent_text : all_indent s.sheet.indent_text ≡ true
  pub line_end : IsLineEnd s.sheet.line_end
  pub flowing : fills_lines s.sheet.lines ≡ false
  pub free : holds_one s.sheet.semicolons ≡ false → s.sheet.at_line_start ≡ true → is_free s.last ≡ true
  pub allowed : Takes spot s

-- any token may come next
abbrev pub AtRest : State → Type 0
AtRest s = RestsAt Anything s

-- An emission begins: no token was written, no semicolon is held back, lines are indented by blanks or tabs, and not filled, and
-- U+0000 after a backslash is left out of names.
pub record IsNew (s : State) : Type 0 where
  pub nothing_written : s.last ≡ Start
  pub nothing_held : holds_one s.sheet.semicolons ≡ false
  pub indent_text : all_indent s.sheet.indent_text ≡ true
  pub line_end : IsLineEnd s.sheet.line_end
  pub flowing : fills_lines s.sheet.lines ≡ false
  pub leaves_out : s.env.keeps_invalid ≡ false

-- No indentation is due, so that what is written next may be a hashbang, which stands first of all in a text.
abbrev pub IsAtMargin : State → Type 0
IsAtMargin s = s.sheet.at_line_start ≡ true → s.sheet.indentation ≡ 0

-- tokens without `[no LineTerminator here]` between them
unfoldable pub without_joints : List Token → List Token
without_joints [] = []
without_joints (x ∷ xs) = if is_same_line x.kind then without_joints xs else x ∷ without_joints xs

-- A text is UTF-8, and reads as one of the token lists that a phrase has under some settings, with these comments between, each once and in
-- order. Where the writer holds semicolons back, some of those that end a statement are left out, none of which is needed. Where no line
-- ends in or after a comment, none does where the syntax has `[no LineTerminator here]`.
pub record ReadsAs (config : Config) (holds : Bool) (phrase : Phrase) (remarks : List Remark) (text : List ℕ) : Type 0 where
  pub utf8 : IsUtf8 text
  pub tokens : List Token
  pub is_list : Generates (settings_of config) phrase tokens
  pub written : List Token
  pub reduced : IsReduced tokens written
  pub whole : holds ≡ false → written ≡ tokens
  pub reads : Reads (chars text) (without_joints written) remarks
  pub keeps_lines : all_tame remarks ≡ true → Reads (chars text) written remarks

-- What a text is longer by reads so.
pub record AddsText (config : Config) (holds : Bool) (phrase : Phrase) (remarks : List Remark) (old new : List ℕ) : Type 0 where
  pub added : List ℕ
  pub is_added : new ≡ old ++ added
  pub reading : ReadsAs config holds phrase remarks added

-- What the text of a sheet is longer by reads so.
abbrev pub AddsReading : Config → Phrase → List Remark → Sheet → Sheet → Type 0
AddsReading config phrase remarks old new = AddsText config (holds_semicolons old.semicolons) phrase remarks old.text new.text

-- what the comments that a part takes read as, in order of taking
abbrev pub taken_remarks : run.Part → Env → List Remark
taken_remarks part env = remarks_of (taken_in (steps_of (part nothing env)) env.maps)

-- a text is a word of the grammar, or a punctuator: in ASCII
pub record IsWord (t : List ℕ) : Type 0 where
  pub utf8 : is_utf8 t ≡ true
  pub ascii : is_ascii_text t ≡ true
  pub shape : is_word t ≡ true

pub record IsMark (t : List ℕ) : Type 0 where
  pub utf8 : is_utf8 t ≡ true
  pub ascii : is_ascii_text t ≡ true
  pub shape : is_punctuator t ≡ true

-- blanks between tokens
unfoldable pub blanks : List ℕ → List Piece
blanks [] = []
blanks (c ∷ cs) = Blank c ∷ blanks cs

-- the indentation that is due before what is written next
abbrev pub indentation_due : Sheet → List ℕ
indentation_due s = if s.at_line_start then repeat s.indentation s.indent_text else []

-- a semicolon that is held back, where it would stand, and the break that is kept with it
abbrev pub pending : Sheet → List Part
pending s =
    if holds_one s.semicolons then Gap (blanks (indentation_due s)) ∷ Own Ending (codes ";") ∷ (if keeps_break s.semicolons then Break ∷ [] else [])
    else []

-- Of these parts those are written: some semicolons that aren't needed are left out, and a gap at the end may be.
abbrev pub IsLeft : List Part → List Part → Type 0
IsLeft parts left = Reduced parts left ⊎ ((pieces : List Piece) × Reduced parts (left ++ Gap pieces ∷ []))

-- These parts may come next: none fuses, and they don't begin with `[no LineTerminator here]`. Of a semicolon that is held back, and of
-- them, those are written. So `;` goes out before `b` of `a;b`, and is left out before `}` of `{a;}`.
pub record GoesOn (last : PreviousToken) (sheet : Sheet) (next left : List Part) : Type 0 where
  pub apart : NoneFuse last next
  pub keeps_lines : is_broken (walk PastLine next) ≡ false
  pub is_left : IsLeft (pending sheet ++ next) left

-- What was added to an old text reads as these tokens with these comments between, whatever goes on after it: `a<` goes on with ` !` and `--b`,
-- and not with `!--b`. Where the writer holds semicolons back, some of those that end a statement are left out, none of which is needed.
pub record ReadsSoFarAt (spot : Spot) (old : List ℕ) (tokens : List Token) (remarks : List Remark) (s : State) : Type 0 where
  pub added : List ℕ
  pub is_added : s.sheet.text ≡ old ++ added
  pub utf8 : IsUtf8 added
  -- the tokens that are written by now
  pub written : List Token
  pub whole : holds_semicolons s.sheet.semicolons ≡ false → written ≡ tokens
  pub reduced : (next left : List Part) → GoesOn s.last s.sheet next left → IsReduced (tokens ++ tokens_of next) (written ++ tokens_of left)
  pub reads : (next left : List Part) → GoesOn s.last s.sheet next left → Reads (chars added ++ text_of left) (written ++ tokens_of left) (remarks ++ remarks_in left)
  pub rest : RestsAt spot s

-- where any token may come next
abbrev pub ReadsSoFar : List ℕ → List Token → List Remark → State → Type 0
ReadsSoFar old tokens remarks s = ReadsSoFarAt Anything old tokens remarks s

-- the tokens of a name, with `?` after an optional one
abbrev pub name_tokens : List ℕ → Bool → List Token
name_tokens bytes optional = name (name_value (spelled_name bytes)) ∷ (if optional then punctuator (codes "?") ∷ [] else [])
