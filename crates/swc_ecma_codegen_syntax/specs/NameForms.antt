-- Names and literals: one production a node, with its conditions.
use Rattle.std.specs.Prelude.{ℕ, Bool, true, false, ◌&&◌, ◌||◌, not, List, [], ◌∷◌, is_some, codes, string_bytes, bytes_eq, ◌==◌}
use Rattle.swc_ecma_codegen_tree.specs.declared.idents.Ident.{Ident}
use Rattle.swc_ecma_codegen_tree.specs.declared.lits.Lit.{Lit}
use Rattle.swc_ecma_codegen_tree.specs.declared.lits.Lit.TheVariants as lits
use Rattle.swc_ecma_codegen_tree.specs.declared.lits.Number.{Number}
use Rattle.swc_ecma_codegen_tree.specs.declared.lits.NumberValue.{NumberValue}
use Rattle.swc_ecma_codegen_tree.specs.declared.lits.NumberValue.TheVariants.{Finite, Infinity, NegInfinity, NaN}
use Rattle.swc_ecma_codegen_grammar.specs.LitPhrases.{lit}
use Rattle.swc_ecma_codegen_grammar.specs.NamePhrases.{ident}
use Rattle.swc_ecma_codegen_syntax.specs.declared.parameters.Parameters.{Parameters}
use Rattle.swc_ecma_codegen_syntax.specs.Forms.{Form, Fixed, Provided, ByRule, ByScope}

-- one of these words
unfoldable pub is_one_of : List (List ℕ) → List ℕ → Bool
is_one_of [] text = false
is_one_of (word ∷ words) text = bytes_eq text word || is_one_of words text

-- ReservedWord, section 12.7.2, but for `await` and `yield`: words of statements, of declarations and of expressions
abbrev pub statement_words : List (List ℕ)
statement_words =
    codes "break" ∷ codes "case" ∷ codes "catch" ∷ codes "continue" ∷ codes "debugger" ∷ codes "default" ∷ codes "do" ∷ codes "else"
    ∷ codes "finally" ∷ codes "for" ∷ codes "if" ∷ codes "return" ∷ codes "switch" ∷ codes "throw" ∷ codes "try" ∷ codes "while"
    ∷ codes "with" ∷ []

abbrev pub declaration_words : List (List ℕ)
declaration_words =
    codes "class" ∷ codes "const" ∷ codes "enum" ∷ codes "export" ∷ codes "extends" ∷ codes "function" ∷ codes "import" ∷ codes "var" ∷ []

abbrev pub expression_words : List (List ℕ)
expression_words =
    codes "delete" ∷ codes "false" ∷ codes "in" ∷ codes "instanceof" ∷ codes "new" ∷ codes "null" ∷ codes "super" ∷ codes "this"
    ∷ codes "true" ∷ codes "typeof" ∷ codes "void" ∷ []

unfoldable pub is_reserved : List ℕ → Bool
is_reserved text = is_one_of statement_words text || (is_one_of declaration_words text || is_one_of expression_words text)

-- no names in strict code, section 13.1.1
abbrev pub strict_words : List (List ℕ)
strict_words =
    codes "implements" ∷ codes "interface" ∷ codes "let" ∷ codes "package" ∷ codes "private" ∷ codes "protected" ∷ codes "public" ∷ codes "static"
    ∷ codes "yield" ∷ []

-- An IdentifierReference, a BindingIdentifier or a LabelIdentifier: section 13.1. `yield` and `await` are names where they are no operators.
unfoldable pub is_free : Parameters → List ℕ → Bool
is_free c text =
    not (is_reserved text)
    && (not (c.is_strict && is_one_of strict_words text)
    && (not (c.has_yield && bytes_eq text (codes "yield")) && not ((c.has_await || c.reserves_await) && bytes_eq text (codes "await"))))

-- Section 13.1.3: `eval` and `arguments` are no targets in strict code, and no names that are bound there: 13.1.1.
unfoldable pub is_assignable : Bool → List ℕ → Bool
is_assignable strict text = not (strict && (bytes_eq text (codes "eval") || bytes_eq text (codes "arguments")))

-- Whether a name is spelled without escapes: of one with an escape it isn't asked here what it stands for.
unfoldable pub has_no_escape : List ℕ → Bool
has_no_escape [] = true
has_no_escape (c ∷ cs) = not (c == 92) && has_no_escape cs

-- `?` behind a name is of TypeScript
unfoldable pub name_form : {X : Type 0} → Parameters → Ident → Form X
name_form c n =
    Provided ByRule (is_free c (string_bytes n.sym)) (Provided ByScope (has_no_escape (string_bytes n.sym) && not n.optional) (Fixed (ident n)))

-- `-1` is no literal, and `Infinity` is a name
unfoldable pub is_literal_value : Bool → NumberValue → Bool
is_literal_value spelled (Finite d) = not d.negative
is_literal_value spelled Infinity = spelled
is_literal_value spelled NegInfinity = false
is_literal_value spelled NaN = false

abbrev pub is_literal_number : Number → Bool
is_literal_number n = is_literal_value (is_some n.raw) n.value

unfoldable pub is_literal : Lit → Bool
is_literal (lits.Num n) = is_literal_number n.value
is_literal (lits.BigInt n) = not n.value.negative
is_literal n = true

-- section 13.2.3
unfoldable pub lit_form : {X : Type 0} → Lit → Form X
lit_form n = Provided ByRule (is_literal n) (Fixed (lit n))
