-- Lookahead restrictions: what the tokens of a part may not begin with. ECMA-262, section 5.1.5.
use Rattle.std.specs.Prelude.{ℕ, Bool, true, false, List, [], ◌∷◌, map, codes, bytes_eq, if◌then◌else◌}
use Rattle.swc_ecma_codegen_grammar.specs.Tokens.{Token, Value, Characters}
use Rattle.swc_ecma_codegen_grammar.specs.declared.kinds.Kind.{Kind}
use Rattle.swc_ecma_codegen_grammar.specs.declared.kinds.Kind.TheVariants.{Word, Name, Punctuator, SameLine}
use Rattle.swc_ecma_codegen_syntax.specs.declared.lookahead.Beginning.{Beginning}
use Rattle.swc_ecma_codegen_syntax.specs.declared.lookahead.Beginning.TheVariants as begins
use Rattle.swc_ecma_codegen_syntax.specs.declared.lookahead.Lookahead.{Lookahead}
use Rattle.swc_ecma_codegen_syntax.specs.declared.lookahead.Lookahead.TheVariants as lookaheads

-- a token, as far as a restriction tells it from others
pub data Sign : Type 0 where
  OpenBrace : Sign
  OpenBracket : Sign
  AtSign : Sign
  FunctionWord : Sign
  ClassWord : Sign
  LetWord : Sign
  AsyncWord : Sign
  NoLineEnd : Sign
  AnyToken : Sign

-- `let` and `async` are words of the grammar, or names
unfoldable pub word_sign : List ℕ → Sign
word_sign text =
    if bytes_eq text (codes "let") then LetWord
    else (if bytes_eq text (codes "async") then AsyncWord
    else (if bytes_eq text (codes "function") then FunctionWord else (if bytes_eq text (codes "class") then ClassWord else AnyToken)))

unfoldable pub mark_sign : List ℕ → Sign
mark_sign text =
    if bytes_eq text (codes "{") then OpenBrace else (if bytes_eq text (codes "[") then OpenBracket else (if bytes_eq text (codes "@") then AtSign else AnyToken))

unfoldable pub sign_of : Kind → Value → Sign
sign_of Word (Characters text) = word_sign text
sign_of Name (Characters text) = word_sign text
sign_of Punctuator (Characters text) = mark_sign text
sign_of SameLine value = NoLineEnd
sign_of kind value = AnyToken

unfoldable pub sign : Token → Sign
sign t = sign_of t.kind t.value

-- What a list begins with. The head of a `for` holds no `let` with [no LineTerminator here] behind it, as `let => a` has it, so that one is like another name.
unfoldable pub begun : List Sign → Beginning
begun [] = begins.Nothing
begun (OpenBrace ∷ ts) = begins.Brace
begun (AtSign ∷ ts) = begins.At
begun (FunctionWord ∷ ts) = begins.Function
begun (ClassWord ∷ ts) = begins.Class
begun (LetWord ∷ []) = begins.LetAlone
begun (LetWord ∷ OpenBracket ∷ ts) = begins.LetBracket
begun (LetWord ∷ NoLineEnd ∷ ts) = begins.Other
begun (LetWord ∷ t ∷ ts) = begins.LetOther
begun (AsyncWord ∷ []) = begins.AsyncAlone
begun (AsyncWord ∷ NoLineEnd ∷ []) = begins.Nothing
begun (AsyncWord ∷ NoLineEnd ∷ FunctionWord ∷ ts) = begins.AsyncFunction
begun (t ∷ ts) = begins.Other

unfoldable pub beginning : List Token → Beginning
beginning ts = begun (map sign ts)

-- ---- the restrictions

-- 14.5, ExpressionStatement: [lookahead ∉ { `{`, function, async [no LineTerminator here] function, class, let [ }]; and no decorator, since a class may begin with it
unfoldable pub is_statement_start : Beginning → Bool
is_statement_start begins.Brace = true
is_statement_start begins.Function = true
is_statement_start begins.AsyncFunction = true
is_statement_start begins.Class = true
is_statement_start begins.At = true
is_statement_start begins.LetBracket = true
is_statement_start b = false

-- 16.2.3, `export default`: [lookahead ∉ { function, async [no LineTerminator here] function, class }], and no decorator
unfoldable pub is_default_start : Beginning → Bool
is_default_start begins.Function = true
is_default_start begins.AsyncFunction = true
is_default_start begins.Class = true
is_default_start begins.At = true
is_default_start b = false

-- 15.3, ConciseBody: [lookahead ≠ `{`]
unfoldable pub is_brace : Beginning → Bool
is_brace begins.Brace = true
is_brace b = false

-- 14.7.4 and 14.7.5, `for (a;;)` and `for (a in b)`: [lookahead ≠ let [ ]
unfoldable pub is_let_bracket : Beginning → Bool
is_let_bracket begins.LetBracket = true
is_let_bracket b = false

-- 14.7.5, `for await (a of b)`: [lookahead ≠ let]
unfoldable pub is_let : Beginning → Bool
is_let begins.LetAlone = true
is_let begins.LetBracket = true
is_let begins.LetOther = true
is_let b = false

-- 14.7.5, `for (a of b)`: [lookahead ∉ { let, async of }]; `of` stands right behind the part
unfoldable pub is_of_start : Beginning → Bool
is_of_start begins.AsyncAlone = true
is_of_start b = is_let b

unfoldable pub excludes : Lookahead → Beginning → Bool
excludes lookaheads.StatementStart = is_statement_start
excludes lookaheads.DefaultStart = is_default_start
excludes lookaheads.BodyStart = is_brace
excludes lookaheads.ForStart = is_let_bracket
excludes lookaheads.AwaitOfStart = is_let
excludes lookaheads.OfStart = is_of_start
