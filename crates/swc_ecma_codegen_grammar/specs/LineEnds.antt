-- Line ends that are put where a line may be ended: `a,b` becomes `a,` LF `b`.
use Rattle.std.specs.Prelude.{◌≡◌, ◌⊎◌, ℕ, Bool, true, false, not, List, [], ◌∷◌, ◌++◌, codes, if◌then◌else◌}
use Rattle.swc_ecma_codegen_grammar.specs.GapRules.{PreviousToken, WordEnd, Mark, LessBang}
use Rattle.swc_ecma_codegen_grammar.specs.Texts.{is_same}
use Rattle.swc_ecma_codegen_grammar.specs.Trivia.{Piece, Blank, pieces_text}
use Rattle.swc_ecma_codegen_grammar.specs.Parts.{Part, Gap, Own, Joint, Break}

-- LF, or CR and LF
abbrev pub IsNewLine : List Piece → Type 0
IsNewLine line = (line ≡ Blank 10 ∷ []) ⊎ (line ≡ Blank 13 ∷ Blank 10 ∷ [])

-- Behind this a line may be ended, whatever token comes next: a word, a name or a punctuator but `}`, behind which a child of JSX may stand. So
-- `,` `(` and `in` are, and of `<a>{b}c</a>` neither the `}` nor the last `>`, which is a kind of its own.
unfoldable pub may_end : PreviousToken → Bool
may_end WordEnd = true
may_end (Mark t) = not (is_same t (codes "}"))
may_end LessBang = true
may_end last = false

-- the same parts, with line ends at some of the places where one may be: of `(a,b)` with such places behind `(` and `,` they are
-- those of `(a,b)`, of `(` LF `a,b)`, of `(a,` LF `b)`, or of both
unfoldable pub LineEnded : List Piece → List Part → List Part → Type 0
LineEnded line [] ys = ys ≡ []
LineEnded line (Gap ps ∷ xs) ys = (zs : List Part) × (ys ≡ Gap ps ∷ zs) × LineEnded line xs zs
LineEnded line (Own x t ∷ xs) ys = (zs : List Part) × (ys ≡ Own x t ∷ zs) × LineEnded line xs zs
LineEnded line (Joint ∷ xs) ys = (zs : List Part) × (ys ≡ Joint ∷ zs) × LineEnded line xs zs
LineEnded line (Break ∷ xs) ys = LineEnded line xs ys ⊎ ((zs : List Part) × (ys ≡ Gap line ∷ zs) × LineEnded line xs zs)

-- the text of parts, cut where a line may be ended: of `(a,b)` these are `(` and `a,` and `b)`; `begun` stands before the parts in the first
unfoldable pub segments : List Part → List ℕ → List (List ℕ)
segments [] begun = begun ∷ []
segments (Gap ps ∷ xs) begun = segments xs (begun ++ pieces_text ps)
segments (Own x t ∷ xs) begun = segments xs (begun ++ t)
segments (Joint ∷ xs) begun = segments xs begun
segments (Break ∷ xs) begun = begun ∷ segments xs []

-- segments, with a line end before some of them: of `(a,` and `b)`, where the second has one, `(a,` LF `b)`
unfoldable pub ended_text : List ℕ → List (Bool × List ℕ) → List ℕ
ended_text line_end [] = []
ended_text line_end (x ∷ xs) = (if x.0 then line_end else []) ++ (x.1 ++ ended_text line_end xs)

-- the segments alone
unfoldable pub segments_in : List (Bool × List ℕ) → List (List ℕ)
segments_in [] = []
segments_in (x ∷ xs) = x.1 ∷ segments_in xs
