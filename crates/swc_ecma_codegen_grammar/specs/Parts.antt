-- A text in parts, tokens and gaps, and the second pass over it.
use Rattle.std.specs.Prelude.{◌⊎◌, ◌≡◌, ℕ, Bool, true, false, not, List, [], ◌∷◌, ◌++◌, ◌||◌, if◌then◌else◌, codes}
use Rattle.swc_ecma_codegen_grammar.specs.declared.kinds.Kind.{Kind}
use Rattle.swc_ecma_codegen_grammar.specs.declared.kinds.Kind.TheVariants.{Punctuator, Ending, Close, JsxName, JsxText, Hashbang}
use Rattle.swc_ecma_codegen_grammar.specs.Chars.{is_one_line}
use Rattle.swc_ecma_codegen_grammar.specs.Texts.{is_same, begins}
use Rattle.swc_ecma_codegen_grammar.specs.Tokens.{Token, token_of, has_shape, same_line}
use Rattle.swc_ecma_codegen_grammar.specs.Trivia.{Remark, Piece, Blank, all_pieces, pieces_text, remarks_of}
use Rattle.swc_ecma_codegen_grammar.specs.Reads.{is_child, is_hashbang_kind}
use Rattle.swc_ecma_codegen_grammar.specs.GapRules.{PreviousToken, Separated, fuses, allows, ends_text, ends_line, last_after, last_after_gap, MayBegin}

-- a token of a kind as it is spelled, what stands between, or what is no text: `[no LineTerminator here]`, and a place where a line may be
-- ended, as behind the comma of `a,b`
pub data Part : Type 0 where
  Gap : (pieces : List Piece) → Part
  Own : (kind : Kind) → (text : List ℕ) → Part
  Joint : Part
  Break : Part

unfoldable pub text_of : List Part → List ℕ
text_of [] = []
text_of (Gap ps ∷ xs) = pieces_text ps ++ text_of xs
text_of (Own x t ∷ xs) = t ++ text_of xs
text_of (Joint ∷ xs) = text_of xs
text_of (Break ∷ xs) = text_of xs

unfoldable pub tokens_of : List Part → List Token
tokens_of [] = []
tokens_of (Gap ps ∷ xs) = tokens_of xs
tokens_of (Own x t ∷ xs) = token_of x t ∷ tokens_of xs
tokens_of (Joint ∷ xs) = same_line ∷ tokens_of xs
tokens_of (Break ∷ xs) = tokens_of xs

unfoldable pub remarks_in : List Part → List Remark
remarks_in [] = []
remarks_in (Gap ps ∷ xs) = remarks_of ps ++ remarks_in xs
remarks_in (Own x t ∷ xs) = remarks_in xs
remarks_in (Joint ∷ xs) = remarks_in xs
remarks_in (Break ∷ xs) = remarks_in xs

-- Each token has its shape, closed comments and blanks stand between, and no two become one. Where a line may be ended, it may go on or end.
unfoldable pub NoneFuse : PreviousToken → List Part → Type 0
NoneFuse k [] = allows k [] ≡ true
NoneFuse k (Gap ps ∷ xs) = (all_pieces ps ≡ true) × (fuses k (pieces_text ps) ≡ false) × (allows k (pieces_text ps) ≡ true) × NoneFuse (last_after_gap k ps) xs
NoneFuse k (Own x t ∷ xs) = (has_shape x t ≡ true) × (fuses k t ≡ false) × MayBegin k x × (allows k t ≡ true) × NoneFuse (last_after k x t) xs
NoneFuse k (Joint ∷ xs) = NoneFuse k xs
NoneFuse k (Break ∷ xs) = (allows k (10 ∷ []) ≡ true) × NoneFuse k xs × NoneFuse Separated xs

-- where a place is: on the line of the last token, past the end of that line, right after `[no LineTerminator here]`, or past the
-- end of a line there
pub data OfLine : Type 0 where
  OnLine PastLine AtJoint Broken : OfLine

unfoldable pub over_gap : Bool → OfLine → OfLine
over_gap true w = w
over_gap false OnLine = PastLine
over_gap false PastLine = PastLine
over_gap false AtJoint = Broken
over_gap false Broken = Broken

unfoldable pub over_own : OfLine → OfLine
over_own Broken = Broken
over_own w = OnLine

unfoldable pub over_joint : OfLine → OfLine
over_joint OnLine = AtJoint
over_joint AtJoint = AtJoint
over_joint PastLine = Broken
over_joint Broken = Broken

-- where the place after some parts is, if a line ends wherever one may be ended
unfoldable pub walk : OfLine → List Part → OfLine
walk w [] = w
walk w (Gap ps ∷ xs) = walk (over_gap (is_one_line (pieces_text ps)) w) xs
walk w (Own x t ∷ xs) = walk (over_own w) xs
walk w (Joint ∷ xs) = walk (over_joint w) xs
walk w (Break ∷ xs) = walk (over_gap false w) xs

unfoldable pub is_broken : OfLine → Bool
is_broken Broken = true
is_broken w = false

-- No line ends between two tokens with `[no LineTerminator here]` between, nor may one be ended there: `a` LF `++` has none of its own.
abbrev pub KeepsLines : List Part → Type 0
KeepsLines xs = is_broken (walk OnLine xs) ≡ false

-- what stands before a place: nothing, the end of a tag or of a container, text between tags, a name in a tag, a hashbang
pub data Before : Type 0 where
  AtStart TagEnd InText InTagName InLine Elsewhere : Before

unfoldable pub before : Kind → List ℕ → Before
before Close t = TagEnd
before Punctuator t = if is_same t (codes "}") then TagEnd else Elsewhere
before JsxText t = InText
before JsxName t = InTagName
before Hashbang t = InLine
before kind t = Elsewhere

unfoldable pub before_gap : Before → List Piece → Before
before_gap b [] = b
before_gap b (p ∷ ps) = Elsewhere

-- where a child of JSX may begin
unfoldable pub is_between_tags : Before → Bool
is_between_tags TagEnd = true
is_between_tags InText = true
is_between_tags b = false

-- what must follow there
unfoldable pub wants : Before → List ℕ → Bool
wants InText t = ends_text t
wants InTagName t = not (begins (codes "-") t)
wants InLine t = ends_line t
wants b t = true

-- Each token has its shape, and closed comments and blanks stand between. A child of JSX stands right after the end of a
-- tag or a container or after text, a hashbang first of all, and what must follow a token does. No place is marked where a line may be ended.
unfoldable pub AllSpelled : Before → List Part → Type 0
AllSpelled b [] = wants b [] ≡ true
AllSpelled b (Gap ps ∷ xs) = (all_pieces ps ≡ true) × (wants b (pieces_text ps) ≡ true) × AllSpelled (before_gap b ps) xs
AllSpelled b (Own x t ∷ xs) =
    (has_shape x t ≡ true)
    × (is_child x ≡ true → is_between_tags b ≡ true)
    × (is_hashbang_kind x ≡ true → b ≡ AtStart)
    × (wants b t ≡ true)
    × AllSpelled (before x t) xs
AllSpelled b (Joint ∷ xs) = AllSpelled b xs
AllSpelled b (Break ∷ xs) = ⊥

-- The second pass: one blank exactly where a token or a comment would become one with what stands before it.
unfoldable pub spaced : PreviousToken → List Part → List Part
spaced k [] = []
spaced k (Gap ps ∷ xs) = if fuses k (pieces_text ps) then Gap (Blank 32 ∷ []) ∷ Gap ps ∷ spaced (last_after_gap Separated ps) xs else (Gap ps ∷ spaced (last_after_gap k ps) xs)
spaced k (Own x t ∷ xs) = if fuses k t then Gap (Blank 32 ∷ []) ∷ Own x t ∷ spaced (last_after Separated x t) xs else (Own x t ∷ spaced (last_after k x t) xs)
spaced k (Joint ∷ xs) = Joint ∷ spaced k xs
spaced k (Break ∷ xs) = Break ∷ spaced k xs

-- what a dropped semicolon may stand before: nothing more, or `;`, or a token that begins with `}`
unfoldable pub IsEnding : List Part → Type 0
IsEnding [] = Unit {0}
IsEnding (Gap ps ∷ xs) = ⊥
IsEnding (Joint ∷ xs) = ⊥
IsEnding (Break ∷ xs) = IsEnding xs
IsEnding (Own x t ∷ xs) = (begins (codes "}") t || begins (codes ";") t) ≡ true

-- a line may be ended before these parts
unfoldable pub begins_break : List Part → Bool
begins_break [] = false
begins_break (Gap ps ∷ xs) = false
begins_break (Own x t ∷ xs) = false
begins_break (Joint ∷ xs) = false
begins_break (Break ∷ xs) = true

-- The same parts without some ending semicolons, each of which stood right before one of these, and without some places where a line
-- may be ended. One behind a semicolon that is dropped goes with it.
unfoldable pub Reduced : List Part → List Part → Type 0
Reduced [] ys = ys ≡ []
Reduced (x ∷ xs) ys =
    ((zs : List Part) × (ys ≡ x ∷ zs) × Reduced xs zs)
    ⊎ (((x ≡ Own Ending (codes ";")) × IsEnding xs × (begins_break ys ≡ false) × Reduced xs ys) ⊎ ((x ≡ Break) × Reduced xs ys))
