-- When a blank is due between two tokens.
use Rattle.std.specs.Prelude.{◌≡◌, ℕ, Bool, true, false, not, List, [], ◌∷◌, ◌++◌, ◌&&◌, ◌||◌, ◌==◌, if◌then◌else◌, codes}
use Rattle.swc_ecma_codegen_grammar.specs.declared.kinds.Kind.{Kind}
use Rattle.swc_ecma_codegen_grammar.specs.declared.kinds.Kind.TheVariants.{Word, Name, PrivateName, Punctuator, Ending, Number, BigInt, Str, Regex, Template, TemplateRest, Close, JsxName, JsxString, JsxText, JsxOpen, Hashbang, SameLine}
use Rattle.swc_ecma_codegen_grammar.specs.Chars.{is_part, is_digit, is_line_end, begins_digit}
use Rattle.swc_ecma_codegen_grammar.specs.Texts.{is_same, begins, some_begins}
use Rattle.swc_ecma_codegen_grammar.specs.Numbers.{takes_dot}
use Rattle.swc_ecma_codegen_grammar.specs.Punctuators.{punctuators}
use Rattle.swc_ecma_codegen_grammar.specs.Trivia.{Piece}
use Rattle.swc_ecma_codegen_grammar.specs.Reads.{is_child, is_hashbang_kind}

-- what was written last
pub data PreviousToken : Type 0 where
  -- nothing yet
  Start : PreviousToken
  -- a blank, a line end or a comment
  Separated : PreviousToken
  -- a word, a name, a number or a regular expression
  WordEnd : PreviousToken
  -- a number that a dot would belong to
  IntegerEnd : PreviousToken
  -- a punctuator
  Mark : (spelling : List ℕ) → PreviousToken
  -- `!` right after `<`
  LessBang : PreviousToken
  -- a token that ends by itself
  Whole : PreviousToken
  -- text between tags
  TextEnd : PreviousToken
  -- a name in a tag
  TagNameEnd : PreviousToken
  -- a hashbang
  LineEnd : PreviousToken

-- a longer punctuator begins with t and c
unfoldable pub grows : List ℕ → ℕ → Bool
grows t c = some_begins (t ++ c ∷ []) punctuators

-- `?` before a number that begins with its dot
unfoldable pub is_choice : List ℕ → ℕ → List ℕ → Bool
is_choice t c n = is_same t (codes "?") && ((c == 46) && begins_digit n)

-- The punctuator t and a text that begins with c and goes on with n become another token, or a comment: a longer
-- punctuator, a number after its dot, `-->`, `//` or `/*`.
unfoldable pub mark_fuses : List ℕ → ℕ → List ℕ → Bool
mark_fuses t c n =
    (grows t c && not (is_choice t c n))
    || (((is_same t (codes ".") || is_same t (codes "?.")) && is_digit c)
    || ((is_same t (codes "--") && (c == 62))
    || (is_same t (codes "/") && ((c == 47) || (c == 42)))))

-- The last token and the next text become another token, or a comment.
unfoldable pub fuses : PreviousToken → List ℕ → Bool
fuses last [] = false
fuses Start (c ∷ n) = false
fuses Separated (c ∷ n) = false
fuses WordEnd (c ∷ n) = is_part c || (c == 92)
fuses IntegerEnd (c ∷ n) = (is_part c || (c == 92)) || (c == 46)
fuses (Mark t) (c ∷ n) = mark_fuses t c n
fuses LessBang (c ∷ n) = mark_fuses (codes "!") c n || begins (codes "--") (c ∷ n)
fuses Whole (c ∷ n) = false
fuses TextEnd (c ∷ n) = false
fuses TagNameEnd (c ∷ n) = is_part c || (c == 92)
fuses LineEnd (c ∷ n) = false

-- text between tags is followed by `{` or `<`
unfoldable pub ends_text : List ℕ → Bool
ends_text [] = false
ends_text (c ∷ n) = (c == 123) || (c == 60)

-- a line ends, or the text
unfoldable pub ends_line : List ℕ → Bool
ends_line [] = true
ends_line (c ∷ n) = is_line_end c

-- What must follow, and no blank may help: text between tags is followed by `{` or `<`, a name in a tag by no dash, a
-- hashbang by a line end.
unfoldable pub allows : PreviousToken → List ℕ → Bool
allows TextEnd t = ends_text t
allows TagNameEnd t = not (begins (codes "-") t)
allows LineEnd t = ends_line t
allows last t = true

-- the last token after a punctuator
unfoldable pub mark_after : PreviousToken → List ℕ → PreviousToken
mark_after (Mark t) p = if is_same t (codes "<") && is_same p (codes "!") then LessBang else Mark p
mark_after last p = Mark p

-- the last token after one that nothing parts from the one before
unfoldable pub last_after : PreviousToken → Kind → List ℕ → PreviousToken
last_after last Word t = WordEnd
last_after last Name t = WordEnd
last_after last PrivateName t = WordEnd
last_after last Punctuator t = mark_after last t
last_after last Ending t = mark_after last t
last_after last Number t = if takes_dot t then IntegerEnd else WordEnd
last_after last BigInt t = if takes_dot t then IntegerEnd else WordEnd
last_after last Str t = Whole
last_after last Regex t = WordEnd
last_after last (Template part) t = Whole
last_after last (TemplateRest part) t = Whole
last_after last Close t = Whole
last_after last JsxName t = TagNameEnd
last_after last JsxString t = Whole
last_after last JsxText t = TextEnd
last_after last JsxOpen t = mark_after last t
last_after last Hashbang t = LineEnd
last_after last SameLine t = Separated

unfoldable pub last_after_gap : PreviousToken → List Piece → PreviousToken
last_after_gap last [] = last
last_after_gap last (p ∷ ps) = Separated

-- a child of JSX stands right after the end of a tag or of a container, or after text
unfoldable pub holds_child : PreviousToken → Bool
holds_child Whole = true
holds_child TextEnd = true
holds_child (Mark t) = is_same t (codes "}")
holds_child last = false

-- where a token of a kind may begin: a child of JSX as said, a hashbang first of all
pub record MayBegin (last : PreviousToken) (kind : Kind) : Type 0 where
  pub child : is_child kind ≡ true → holds_child last ≡ true
  pub first : is_hashbang_kind kind ≡ true → last ≡ Start

-- What follows doesn't become one with the last token, an HTML-like comment doesn't begin with `<`, and what must follow
-- does.
pub record Ready (last : PreviousToken) (rest : List ℕ) : Type 0 where
  pub apart : fuses last rest ≡ false
  pub no_html : last ≡ Mark (codes "<") → begins (codes "!--") rest ≡ false
  pub allowed : allows last rest ≡ true
