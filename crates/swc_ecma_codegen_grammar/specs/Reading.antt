-- One step of reading.
use Rattle.std.specs.Prelude.{◌≡◌, ◌⊎◌, ℕ, Bool, true, false, not, List, [], ◌∷◌, ◌++◌, ◌&&◌, ◌||◌, codes, take, drop, nat_lt, length}
use Rattle.swc_ecma_codegen_grammar.specs.declared.kinds.Kind.{Kind}
use Rattle.swc_ecma_codegen_grammar.specs.declared.kinds.TemplatePart.{TemplatePart}
use Rattle.swc_ecma_codegen_grammar.specs.Chars.{begins_digit, is_one_line}
use Rattle.swc_ecma_codegen_grammar.specs.Texts.{is_same, begins}
use Rattle.swc_ecma_codegen_grammar.specs.Tokens.{Token, Goal, Ordinary, RegularExpression, TemplateTail, FirstLine, Closing, InTag, Attribute, Child, NoToken, has_shape, token_of, goal}
use Rattle.swc_ecma_codegen_grammar.specs.declared.kinds.Kind.TheVariants.{Word, Name, PrivateName, Punctuator, Number, BigInt, Str, Regex, Template, TemplateRest, Close, JsxName, JsxString, JsxText, JsxOpen, Hashbang}
use Rattle.swc_ecma_codegen_grammar.specs.LongestMatch.{IsLongest, is_numeric_kind, goes_on}
use Rattle.swc_ecma_codegen_grammar.specs.Trivia.{Remark, Trivia}
use Rattle.swc_ecma_codegen_grammar.specs.Reads.{Reads, kinds_of, is_close_by, is_hashbang_kind, is_same_line}
use Rattle.swc_ecma_codegen_grammar.specs.Skipping.{NoPiece}

unfoldable pub some_part : (TemplatePart → Bool) → Bool
some_part holds =
    (holds (record { tagged = false; opens = false }) || holds (record { tagged = false; opens = true }))
    || (holds (record { tagged = true; opens = false }) || holds (record { tagged = true; opens = true }))

-- a text is a token of a goal
unfoldable pub some_shape : Goal → List ℕ → Bool
some_shape Ordinary text =
    has_shape Word text || (has_shape Name text || (has_shape PrivateName text || (has_shape Punctuator text || (has_shape Number text
    || (has_shape BigInt text || (has_shape Str text || (has_shape JsxOpen text || some_part (λ part. has_shape (Template part) text))))))))
some_shape RegularExpression text = has_shape Regex text
some_shape TemplateTail text = some_part (λ part. has_shape (TemplateRest part) text)
some_shape FirstLine text = has_shape Hashbang text
some_shape Closing text = has_shape Close text
some_shape InTag text = has_shape JsxName text
some_shape Attribute text = has_shape JsxString text
some_shape Child text = has_shape JsxText text
some_shape NoToken text = false

-- the first n characters are a token of a goal, where the others follow
unfoldable pub stands_at : Kind → List ℕ → ℕ → Bool
stands_at kind text n = some_shape (goal kind) (take n text) && not (is_same (take n text) (codes "?.") && begins_digit (drop n text))

-- A text is trivia, a longest token of a kind, and what is left. `joined`: the trivia hold no line terminator.
pub record ReadsOne (first joined : Bool) (kind : Kind) (text own rest : List ℕ) : Type 0 where
  pub gap : List ℕ
  pub before : List Remark
  pub is_text : text ≡ gap ++ (own ++ rest)
  pub trivia : Trivia gap before
  pub close_by : is_close_by kind ≡ true → gap ≡ []
  pub at_start : is_hashbang_kind kind ≡ true → first ≡ true
  pub in_line : joined ≡ true → is_one_line gap ≡ true
  pub is_longest : IsLongest (token_of kind own) own rest

-- The same of `[no LineTerminator here]`, which is no text.
unfoldable pub ReadsNext : Bool → Bool → Kind → List ℕ → List ℕ → List ℕ → Type 0
ReadsNext first joined kind text own rest =
    ((is_same_line kind ≡ true) × (own ≡ []) × (rest ≡ text))
    ⊎ ((is_same_line kind ≡ false) × ReadsOne first joined kind text own rest)

-- a text goes on with no token of a kind
unfoldable pub ReadsNone : Bool → Bool → Kind → List ℕ → Type 0
ReadsNone first joined kind text = (is_same_line kind ≡ false) × ((own rest : List ℕ) → ReadsOne first joined kind text own rest → ⊥)

-- tokens of given kinds, as they are spelled
unfoldable pub tokens_as : List Kind → List (List ℕ) → List Token
tokens_as [] texts = []
tokens_as (kind ∷ kinds) [] = []
tokens_as (kind ∷ kinds) (text ∷ texts) = token_of kind text ∷ tokens_as kinds texts

-- a comment opens here
unfoldable pub opens_comment : List ℕ → Bool
opens_comment text = (begins (codes "//") text || begins (codes "/*") text) || (begins (codes "<!--") text || begins (codes "-->") text)

unfoldable pub is_jsx_text_kind : Kind → Bool
is_jsx_text_kind JsxText = true
is_jsx_text_kind kind = false

-- The first n characters, which are as many as any token of the goal has, are a longest token of a kind.
unfoldable pub fits : Bool → Kind → List ℕ → ℕ → Bool
fits first kind text n =
    (nat_lt 0 n && (first || not (is_hashbang_kind kind)))
    && (has_shape kind (take n text)
    && ((is_jsx_text_kind kind || not (opens_comment text))
    && not (is_numeric_kind kind && goes_on (drop n text))))

-- The trivia before a token of a kind end where `start` begins, and nowhere else.
pub record Starts (kind : Kind) (text start : List ℕ) : Type 0 where
  pub gap : List ℕ
  pub before : List Remark
  pub is_text : text ≡ gap ++ start
  pub trivia : Trivia gap before
  pub close_by : is_close_by kind ≡ true → gap ≡ []
  pub only : (other u : List ℕ) (remarks : List Remark) → Trivia other remarks → (is_close_by kind ≡ true → other ≡ []) → (is_close_by kind ≡ false → NoPiece u) → text ≡ other ++ u → start ≡ u

-- A text reads as one token of each of these kinds, spelled so, with comments between.
abbrev pub ReadsAs : List Kind → List (List ℕ) → List ℕ → Type 0
ReadsAs kinds texts text = (length texts ≡ length kinds) × (remarks : List Remark) × Reads text (tokens_as kinds texts) remarks

-- A text reads as no list of tokens of these kinds.
abbrev pub ReadsAsNone : List Kind → List ℕ → Type 0
ReadsAsNone kinds text = (tokens : List Token) (remarks : List Remark) → kinds_of tokens ≡ kinds → Reads text tokens remarks → ⊥
