-- Sets of token lists, as plain data: what a tree reads as, and on what condition.
use Rattle.std.specs.Prelude.{◌≡◌, ◌⊎◌, ℕ, Bool, true, false, ◌&&◌, List, [], ◌∷◌, ◌++◌, Option, Some, None, codes, if◌then◌else◌}
use Rattle.std.specs.Str.{chars}
use Rattle.swc_ecma_codegen_common.specs.declared.positions.BytePos.{BytePos}
use Rattle.swc_ecma_codegen_grammar.specs.Keys.{key_token}
use Rattle.swc_ecma_codegen_grammar.specs.Names.{name_value}
use Rattle.swc_ecma_codegen_grammar.specs.Settings.{Settings, is_up_to_es5}
use Rattle.swc_ecma_codegen_grammar.specs.SpelledNames.{spelled_name, is_well_formed_name, is_well_formed_tag_name}
use Rattle.swc_ecma_codegen_grammar.specs.Tokens.{Token}
use Rattle.swc_ecma_codegen_grammar.specs.Tokens as tokens

-- What is chosen by the settings: `()` after `new A`, which isn't there where they are to minify; the semicolon that ends
-- `do a; while (b);`, which is there for a version before 2015; the word before import attributes, `with` or, as a proposal had it, `assert`.
pub data Choice : Type 0 where
  EmptyArguments : Choice
  LoopEnding : Choice
  AttributesWord : Choice

-- what parentheses may stand round that syntax leaves open: what is returned, thrown or yielded; the only parameter of an arrow function
pub data Round : Type 0 where
  Argument : Round
  Parameter : Round

-- the marks before which a trailing comma may stand: `[a,]` and `{ a, }`
pub data Closing : Type 0 where
  RightBracket : Closing
  RightBrace : Closing

unfoldable pub closing_mark : Closing → List ℕ
closing_mark RightBracket = codes "]"
closing_mark RightBrace = codes "}"

-- No list at all, no token, one token, a name by its bytes in the tree and where it stands in its source, the same of a key of
-- a property, a private name by its bytes in the tree, without `#`, a name in a tag, or one list and then another. What syntax leaves open: a closing mark, with a comma before
-- it or without, `[a,] = b` or `[a] = b`; a list, bare or in parentheses, `a => b` or `(a) => b`; what is chosen by the settings.
pub data Phrase : Type 0 where
  Never : Phrase
  Nothing : Phrase
  One : (token : Token) → Phrase
  NameOf : (at : BytePos) → (bytes : List ℕ) → Phrase
  KeyOf : (at : BytePos) → (bytes : List ℕ) → Phrase
  PrivateOf : (bytes : List ℕ) → Phrase
  TagNameOf : (at : BytePos) → (bytes : List ℕ) → Phrase
  Then : (first second : Phrase) → Phrase
  CommaBefore : (close : Closing) → Phrase
  OptionalParentheses : (round : Round) → (inside : Phrase) → Phrase
  Chosen : (choice : Choice) → Phrase

infixr 20 ◌>◌
abbrev pub ◌>◌ : Phrase → Phrase → Phrase
a > b = Then a b

abbrev pub comma : Token
comma = tokens.punctuator (codes ",")

abbrev pub open_parenthesis : Token
open_parenthesis = tokens.punctuator (codes "(")

abbrev pub close_parenthesis : Token
close_parenthesis = tokens.punctuator (codes ")")

abbrev pub in_parentheses : List Token → List Token
in_parentheses ts = open_parenthesis ∷ (ts ++ (close_parenthesis ∷ []))

-- the token of a closing mark
abbrev pub closing_token : Closing → Token
closing_token close = tokens.punctuator (closing_mark close)

-- the tokens of a choice
unfoldable pub chosen : Settings → Choice → List Token
chosen s EmptyArguments = if s.minify then [] else in_parentheses []
chosen s LoopEnding = if is_up_to_es5 s.target then tokens.ending ∷ [] else []
chosen s AttributesWord = tokens.word (if s.assert_for_attributes then codes "assert" else codes "with") ∷ []

-- A list is one of the set, under these settings.
unfoldable pub Generates : Settings → Phrase → List Token → Type 0
Generates s Never ts = ⊥
Generates s Nothing ts = ts ≡ []
Generates s (One x) ts = ts ≡ x ∷ []
Generates s (NameOf at bytes) ts = ts ≡ tokens.name (name_value (spelled_name bytes)) ∷ []
Generates s (KeyOf at bytes) ts = ts ≡ key_token s bytes ∷ []
Generates s (PrivateOf bytes) ts = ts ≡ tokens.private_name (name_value (spelled_name bytes)) ∷ []
Generates s (TagNameOf at bytes) ts = ts ≡ tokens.tag_name (chars bytes) ∷ []
Generates s (Then a b) ts = (us vs : List Token) × Generates s a us × Generates s b vs × (ts ≡ us ++ vs)
Generates s (CommaBefore close) ts = (ts ≡ closing_token close ∷ []) ⊎ (ts ≡ comma ∷ closing_token close ∷ [])
Generates s (OptionalParentheses round a) ts = Generates s a ts ⊎ ((us : List Token) × Generates s a us × (ts ≡ in_parentheses us))
Generates s (Chosen choice) ts = ts ≡ chosen s choice

-- The tree is well-formed: no part of it is refused, and its names are names.
unfoldable pub is_possible : Phrase → Bool
is_possible Never = false
is_possible Nothing = true
is_possible (One x) = true
is_possible (NameOf at bytes) = is_well_formed_name bytes
is_possible (KeyOf at bytes) = is_well_formed_name bytes
is_possible (PrivateOf bytes) = is_well_formed_name bytes
is_possible (TagNameOf at bytes) = is_well_formed_tag_name bytes
is_possible (Then a b) = is_possible a && is_possible b
is_possible (CommaBefore close) = true
is_possible (OptionalParentheses round a) = is_possible a
is_possible (Chosen choice) = true

-- how a name is printed: as the settings ask; so too as a key, which may be put in quotes; in a tag as it is
pub data NameSort : Type 0 where
  Plain : NameSort
  Key : NameSort
  Tag : NameSort

-- a name that is printed: where it stands in its source, its bytes, and its sort
pub record PlacedName : Type 0 where
  pub at : BytePos
  pub bytes : List ℕ
  pub sort : NameSort

-- the names in order, save private ones
unfoldable pub names_in : Phrase → List PlacedName
names_in Never = []
names_in Nothing = []
names_in (One x) = []
names_in (NameOf at bytes) = record { at = at; bytes = bytes; sort = Plain } ∷ []
names_in (KeyOf at bytes) = record { at = at; bytes = bytes; sort = Key } ∷ []
names_in (PrivateOf bytes) = []
names_in (TagNameOf at bytes) = record { at = at; bytes = bytes; sort = Tag } ∷ []
names_in (Then a b) = names_in a ++ names_in b
names_in (CommaBefore close) = []
names_in (OptionalParentheses round a) = names_in a
names_in (Chosen choice) = []

-- on a condition
unfoldable pub where_ : Bool → Phrase → Phrase
where_ true phrase = phrase
where_ false phrase = Never

abbrev pub word : List ℕ → Phrase
word spelling = One (tokens.word spelling)

abbrev pub mark : List ℕ → Phrase
mark spelling = One (tokens.punctuator spelling)

-- the semicolon that ends a statement
abbrev pub ending : Phrase
ending = One tokens.ending

-- `[no LineTerminator here]`
abbrev pub same_line : Phrase
same_line = One tokens.same_line

-- one after another
unfoldable pub in_order : List Phrase → Phrase
in_order [] = Nothing
in_order (x ∷ xs) = x > in_order xs

-- each with a mark before it
unfoldable pub each_after : List ℕ → List Phrase → Phrase
each_after between [] = Nothing
each_after between (x ∷ xs) = mark between > x > each_after between xs

-- one after another, with a mark between
unfoldable pub listed : List ℕ → List Phrase → Phrase
listed between [] = Nothing
listed between (x ∷ xs) = x > each_after between xs

-- the same, of one at least
unfoldable pub some_listed : List ℕ → List Phrase → Phrase
some_listed between [] = Never
some_listed between (x ∷ xs) = x > each_after between xs
