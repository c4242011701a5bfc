-- Lists of tokens that differ in what a layout may leave out.
use Rattle.std.specs.Prelude.{◌≡◌, ◌⊎◌, ◌||◌, Bool, true, false, List, [], ◌∷◌, ◌++◌}
use Rattle.std.specs.Str.{chars}
use Rattle.swc_ecma_codegen_grammar.specs.Endings.{IsReduced}
use Rattle.swc_ecma_codegen_grammar.specs.Keys.{key_token}
use Rattle.swc_ecma_codegen_grammar.specs.Names.{name_value}
use Rattle.swc_ecma_codegen_grammar.specs.Phrases.{Phrase, Never, Nothing, One, NameOf, KeyOf, PrivateOf, TagNameOf, Then, CommaBefore, OptionalParentheses, Chosen, Closing, EmptyArguments, Generates, chosen, closing_token, comma, open_parenthesis, close_parenthesis, in_parentheses}
use Rattle.swc_ecma_codegen_grammar.specs.Settings.{Settings}
use Rattle.swc_ecma_codegen_grammar.specs.SpelledNames.{spelled_name}
use Rattle.swc_ecma_codegen_grammar.specs.Tokens.{Token, ending}
use Rattle.swc_ecma_codegen_grammar.specs.Tokens as tokens

-- Settings are the same but for whether they minify.
pub record AreAlike (s t : Settings) : Type 0 where
  pub target : s.target ≡ t.target
  pub ascii_only : s.ascii_only ≡ t.ascii_only
  pub assert_for_attributes : s.assert_for_attributes ≡ t.assert_for_attributes

-- ---- by what syntax leaves open

-- both are these tokens
abbrev pub AreBoth : List Token → List Token → List Token → Type 0
AreBoth ts xs ys = (xs ≡ ts) × (ys ≡ ts)

-- a closing mark, or a comma and that mark: `]` or `,]`
abbrev pub IsClosing : Closing → List Token → Type 0
IsClosing close ts = (ts ≡ closing_token close ∷ []) ⊎ (ts ≡ comma ∷ closing_token close ∷ [])

-- a list, bare or in parentheses: `a` or `(a)`
abbrev pub IsBareOrIn : List Token → List Token → Type 0
IsBareOrIn us ts = (ts ≡ us) ⊎ (ts ≡ in_parentheses us)

-- Two lists are lists of one phrase, the second under settings that are like those of the first, part for part: each token, each name and each key of
-- the phrase stands in both, and so does what settings choose that don't minify. They may differ in a comma before a mark that closes a list,
-- in parentheses that syntax leaves open, each pair round what is alongside, and in the empty arguments of `new`. So of `f(a, b)` the lists
-- `f(a,b)` and `f(a b)` aren't.
unfoldable pub Alongside : Settings → Settings → Phrase → List Token → List Token → Type 0
Alongside s t Never xs ys = ⊥
Alongside s t Nothing xs ys = AreBoth [] xs ys
Alongside s t (One x) xs ys = AreBoth (x ∷ []) xs ys
Alongside s t (NameOf at bytes) xs ys = AreBoth (tokens.name (name_value (spelled_name bytes)) ∷ []) xs ys
Alongside s t (KeyOf at bytes) xs ys = AreBoth (key_token s bytes ∷ []) xs ys
Alongside s t (PrivateOf bytes) xs ys = AreBoth (tokens.private_name (name_value (spelled_name bytes)) ∷ []) xs ys
Alongside s t (TagNameOf at bytes) xs ys = AreBoth (tokens.tag_name (chars bytes) ∷ []) xs ys
Alongside s t (Then a b) xs ys =
    (us vs ks ns : List Token) × Alongside s t a us ks × Alongside s t b vs ns × (xs ≡ us ++ vs) × (ys ≡ ks ++ ns)
Alongside s t (CommaBefore close) xs ys = IsClosing close xs × IsClosing close ys
Alongside s t (OptionalParentheses round a) xs ys = (us ks : List Token) × Alongside s t a us ks × IsBareOrIn us xs × IsBareOrIn ks ys
Alongside s t (Chosen EmptyArguments) xs ys = (xs ≡ chosen s EmptyArguments) × (ys ≡ chosen t EmptyArguments)
Alongside s t (Chosen choice) xs ys = AreBoth (chosen s choice) xs ys

-- Syntax leaves a comma or parentheses open.
unfoldable pub leaves_open : Phrase → Bool
leaves_open Never = false
leaves_open Nothing = false
leaves_open (One x) = false
leaves_open (NameOf at bytes) = false
leaves_open (KeyOf at bytes) = false
leaves_open (PrivateOf bytes) = false
leaves_open (TagNameOf at bytes) = false
leaves_open (Then a b) = leaves_open a || leaves_open b
leaves_open (CommaBefore close) = true
leaves_open (OptionalParentheses round a) = true
leaves_open (Chosen choice) = false

-- ---- by the tokens alone

-- The second list is the first with some of these put in: semicolons that end a statement, commas, each before `]` or `}`, and parentheses,
-- each pair round what stands between the two. So `(a) => new B();` is `a => new B` with such, and `[a,]` is `[a]`.
pub data PutsIn : List Token → List Token → Type 0 where
  no_more : PutsIn [] []
  token : (x : Token) → (xs ys : List Token) → PutsIn xs ys → PutsIn (x ∷ xs) (x ∷ ys)
  with_semicolon : (xs ys : List Token) → PutsIn xs ys → PutsIn xs (ending ∷ ys)
  with_comma : (close : Closing) → (xs ys : List Token) → PutsIn xs ys → PutsIn (closing_token close ∷ xs) (comma ∷ closing_token close ∷ ys)
  with_parentheses : (xs ys us vs : List Token) → PutsIn xs us → PutsIn ys vs → PutsIn (xs ++ ys) (open_parenthesis ∷ (us ++ (close_parenthesis ∷ vs)))

-- Two lists are the same but for such semicolons, commas and parentheses.
pub record AreSameBut (xs ys : List Token) : Type 0 where
  pub both : List Token
  pub first : PutsIn both xs
  pub second : PutsIn both ys

-- ---- what is written

-- What is written of a tree under some settings: one of its lists, of which some semicolons that aren't needed are left out.
pub record IsWritten (s : Settings) (phrase : Phrase) (written : List Token) : Type 0 where
  pub tokens : List Token
  pub is_list : Generates s phrase tokens
  pub reduced : IsReduced tokens written
