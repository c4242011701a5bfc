-- Tokens: a kind and a value, the goal under which a kind is read, and how each is spelled.
use Rattle.std.specs.Prelude.{◌≡◌, ℕ, Bool, true, false, List, [], Option, if◌then◌else◌}
use Rattle.swc_ecma_codegen_grammar.specs.declared.kinds.Kind.{Kind}
use Rattle.swc_ecma_codegen_grammar.specs.declared.kinds.Kind.TheVariants.{Word, Name, PrivateName, Punctuator, Ending, Number, BigInt, Str, Regex, Template, TemplateRest, Close, JsxName, JsxString, JsxText, JsxOpen, Hashbang, SameLine}
use Rattle.swc_ecma_codegen_grammar.specs.Names.{is_word, is_name, name_value, is_private_name, private_name_value}
use Rattle.swc_ecma_codegen_grammar.specs.Punctuators.{is_punctuator}
use Rattle.swc_ecma_codegen_grammar.specs.Numbers.{is_number, is_big_integer, radix_of, big_digits}
use Rattle.swc_ecma_codegen_grammar.specs.NumberValues.{DecimalFraction, numeric_value, exact_value}
use Rattle.swc_ecma_codegen_grammar.specs.Strings.{is_string}
use Rattle.swc_ecma_codegen_grammar.specs.StringValues.{string_value}
use Rattle.swc_ecma_codegen_grammar.specs.RegularExpressions.{is_regex}
use Rattle.swc_ecma_codegen_grammar.specs.Templates.{is_template, is_template_rest, part_units}
use Rattle.swc_ecma_codegen_grammar.specs.declared.kinds.TemplatePart.{TemplatePart}
use Rattle.swc_ecma_codegen_grammar.specs.Jsx.{is_jsx_name, is_jsx_string, is_jsx_text, is_jsx_open}
use Rattle.swc_ecma_codegen_grammar.specs.Hashbangs.{is_hashbang}
use Rattle.swc_ecma_codegen_grammar.specs.Texts.{is_same}
use Rattle.std.specs.Prelude.{codes}

-- Goal symbols of the lexical grammar: which tokens may be read at a place. ECMA-262, section 12.
pub data Goal : Type 0 where
  -- InputElementDiv
  Ordinary : Goal
  -- InputElementRegExp, where a regular expression stands
  RegularExpression : Goal
  -- InputElementTemplateTail
  TemplateTail : Goal
  -- InputElementHashbangOrRegExp, where a hashbang stands
  FirstLine : Goal
  -- the `>` that closes a list of types, a type assertion or a tag
  Closing : Goal
  -- a name in a tag, the string of an attribute, and the text between tags
  InTag : Goal
  Attribute : Goal
  Child : Goal
  -- what no text is
  NoToken : Goal

-- the goal under which a kind of token is read
unfoldable pub goal : Kind → Goal
goal Word = Ordinary
goal Name = Ordinary
goal PrivateName = Ordinary
goal Punctuator = Ordinary
goal Ending = Ordinary
goal Number = Ordinary
goal BigInt = Ordinary
goal Str = Ordinary
goal Regex = RegularExpression
goal (Template part) = Ordinary
goal (TemplateRest part) = TemplateTail
goal Close = Closing
goal JsxName = InTag
goal JsxString = Attribute
goal JsxText = Child
goal JsxOpen = Ordinary
goal Hashbang = FirstLine
goal SameLine = NoToken

-- a text has the shape of the tokens of a kind
unfoldable pub has_shape : Kind → List ℕ → Bool
has_shape Word text = is_word text
has_shape Name text = is_name text
has_shape PrivateName text = is_private_name text
has_shape Punctuator text = is_punctuator text
has_shape Ending text = is_same text (codes ";")
has_shape Number text = is_number text
has_shape BigInt text = is_big_integer text
has_shape Str text = is_string text
has_shape Regex text = is_regex text
has_shape (Template part) text = is_template part text
has_shape (TemplateRest part) text = is_template_rest part text
has_shape Close text = is_same text (codes ">")
has_shape JsxName text = is_jsx_name text
has_shape JsxString text = is_jsx_string text
has_shape JsxText text = is_jsx_text text
has_shape JsxOpen text = is_jsx_open text
has_shape Hashbang text = is_hashbang text
has_shape SameLine text = false

-- What a token stands for: characters, the code units of a string or of a template's text (none where an escape is
-- malformed), a number in its one form, or the radix and the digits of a big integer.
pub data Value : Type 0 where
  Characters : (text : List ℕ) → Value
  Units : (units : Option (List ℕ)) → Value
  Exactly : (number : DecimalFraction) → Value
  Digits : (radix : ℕ) → (digits : List ℕ) → Value

-- A part of a template with a tag stands for its spelling, since the tag sees it raw.
unfoldable pub part_value : TemplatePart → List ℕ → Value
part_value part text = if part.tagged then Characters text else Units (part_units part text)

-- what a text of that shape stands for
unfoldable pub value_of : Kind → List ℕ → Value
value_of Word text = Characters text
value_of Name text = Characters (name_value text)
value_of PrivateName text = Characters (private_name_value text)
value_of Punctuator text = Characters text
value_of Ending text = Characters text
value_of Number text = Exactly (exact_value (numeric_value text))
value_of BigInt text = Digits (radix_of text) (big_digits text)
value_of Str text = Units (string_value true text)
value_of Regex text = Characters text
value_of (Template part) text = part_value part text
value_of (TemplateRest part) text = part_value part text
value_of Close text = Characters text
value_of JsxName text = Characters text
value_of JsxString text = Characters text
value_of JsxText text = Characters text
value_of JsxOpen text = Characters text
value_of Hashbang text = Characters text
value_of SameLine text = Characters text

-- a kind and a value
pub record Token : Type 0 where
  pub kind : Kind
  pub value : Value

-- a word by its spelling, a name by its characters, a punctuator by its spelling
unfoldable pub word : List ℕ → Token
word spelling = record { kind = Word; value = Characters spelling }

unfoldable pub name : List ℕ → Token
name characters = record { kind = Name; value = Characters characters }

-- `#a`, by the characters after `#`
unfoldable pub private_name : List ℕ → Token
private_name characters = record { kind = PrivateName; value = Characters characters }

unfoldable pub punctuator : List ℕ → Token
punctuator spelling = record { kind = Punctuator; value = Characters spelling }

-- a name in a tag, the string of an attribute and the text between tags, each by its spelling
unfoldable pub tag_name : List ℕ → Token
tag_name spelling = record { kind = JsxName; value = Characters spelling }

unfoldable pub jsx_string : List ℕ → Token
jsx_string spelling = record { kind = JsxString; value = Characters spelling }

unfoldable pub jsx_text : List ℕ → Token
jsx_text spelling = record { kind = JsxText; value = Characters spelling }

-- the `<` or `{` that begins a child, and the `<` of a closing tag
unfoldable pub child_open : List ℕ → Token
child_open spelling = record { kind = JsxOpen; value = Characters spelling }

-- the `>` that closes a tag, or a list of types
unfoldable pub tag_close : Token
tag_close = record { kind = Close; value = Characters (codes ">") }

-- the semicolon that ends a statement
unfoldable pub ending : Token
ending = record { kind = Ending; value = Characters (codes ";") }

-- `[no LineTerminator here]`, which the productions of ECMA-262 write among tokens: `return [no LineTerminator here] Expression ;`
unfoldable pub same_line : Token
same_line = record { kind = SameLine; value = Characters [] }

-- the token of a kind that a text stands for
unfoldable pub token_of : Kind → List ℕ → Token
token_of kind text = record { kind = kind; value = value_of kind text }

-- a text spells a token
pub record Spells (token : Token) (text : List ℕ) : Type 0 where
  pub shape : has_shape token.kind text ≡ true
  pub value : value_of token.kind text ≡ token.value
