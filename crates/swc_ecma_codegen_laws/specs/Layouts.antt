-- How two emissions of one tree may differ in the tokens that they write, where there are no comments.
use Rattle.std.specs.Prelude.{◌≡◌, ℕ, Bool, true, false, ◌&&◌, ◌||◌, if◌then◌else◌, List, [], ◌∷◌, ◌++◌, codes, Option, Some, None, string_bytes}
use Rattle.std.specs.Str.{chars}
use Rattle.swc_ecma_codegen_grammar.specs.Comments.{no_maps}
use Rattle.swc_ecma_codegen_grammar.specs.Numbers.{takes_dot}
use Rattle.swc_ecma_codegen_grammar.specs.Phrases.{Closing, RightBrace, RightBracket, closing_mark}
use Rattle.swc_ecma_codegen_grammar.specs.SourceLines.{Lines}
use Rattle.swc_ecma_codegen_grammar.specs.TemplatePhrases.{part_kind, part_text}
use Rattle.swc_ecma_codegen_grammar.specs.Texts.{is_same}
use Rattle.swc_ecma_codegen_grammar.specs.declared.kinds.Kind.{Kind}
use Rattle.swc_ecma_codegen_grammar.specs.declared.kinds.Kind.TheVariants as kinds
use Rattle.swc_ecma_codegen_grammar.specs.declared.kinds.TemplatePart.{TemplatePart}
use Rattle.swc_ecma_codegen_tree.specs.declared.exprs.TplElement.{TplElement}
use Rattle.swc_ecma_codegen_tree.specs.declared.links.AnyNode.{AnyNode}
use Rattle.swc_ecma_codegen_tree.specs.declared.lits.BigInt.{BigInt}
use Rattle.swc_ecma_codegen_tree.specs.declared.lits.Number.{Number}
use Rattle.swc_ecma_codegen_tree.specs.declared.lits.Str.{Str}
use Rattle.swc_ecma_codegen_settings.specs.declared.config.Config.{Config}
use Rattle.swc_ecma_codegen_tokens.specs.declared.refusals.Unprintable.{Unprintable}
use Rattle.swc_ecma_codegen_tokens.specs.Literals.{signed, size_of}
use Rattle.swc_ecma_codegen_tokens.specs.Lits.{string_text, number_text, prints_big_raw, big_int_text}
use Rattle.swc_ecma_codegen_tokens.specs.Run.{Env, Part, Step, Token, Ends, nothing, steps_of, text_of, unprintable_in}
use Rattle.swc_ecma_codegen_tokens.specs.Templates.{cooked_text}
use Rattle.swc_ecma_codegen_emit.specs.declared.nodes.Context.TheVariants as contexts
use Rattle.swc_ecma_codegen_emit.specs.Answers.{any_answers}
use Rattle.swc_ecma_codegen_emit.specs.Calls.{new_gap}
use Rattle.swc_ecma_codegen_emit.specs.Places.{Whole}
use Rattle.swc_ecma_codegen_emit.specs.Roots.{Root, root_items}
use Rattle.swc_ecma_codegen_emit.specs.Tree.{any_items}

-- tokens that are written, each by its kind and its text
abbrev pub Tokens : Type 0
Tokens = List (Kind × List ℕ)

-- those of one step, and of some
unfoldable pub tokens_by : Step → Tokens
tokens_by (Token kind x) = (kind, text_of x) ∷ []
tokens_by (Ends tokens x) = tokens
tokens_by x = []

unfoldable pub tokens_in : List Step → Tokens
tokens_in [] = []
tokens_in (x ∷ xs) = tokens_by x ++ tokens_in xs

-- ---- literals, which settings may spell in two ways

-- a number, as it stands before the dot of a property: `1.` of `1..a`, `1.5` of `1.5.a`
abbrev pub dotted : List ℕ → List ℕ
dotted t = if takes_dot (chars (size_of t)) then t ++ codes "." else t

-- a big integer, by its raw or by its value
abbrev pub big_integer : Config → BigInt → Tokens
big_integer config n = if prints_big_raw config n then (kinds.BigInt, big_int_text config n) ∷ [] else signed kinds.BigInt (big_int_text config n ++ codes "n")

-- one literal of the tree as each settings spell it: `'a'` and `"a"`, `1.0` and `1`, `0x1n` and `1n`, and a part of a template
pub data IsOneLiteral (s t : Config) : Tokens → Tokens → Type 0 where
  string : (n : Str) → IsOneLiteral s t ((kinds.Str, string_text s n) ∷ []) ((kinds.Str, string_text t n) ∷ [])
  number : (n : Number) → IsOneLiteral s t (signed kinds.Number (number_text s n)) (signed kinds.Number (number_text t n))
  number_before_dot : (n : Number) → IsOneLiteral s t (signed kinds.Number (dotted (number_text s n))) (signed kinds.Number (dotted (number_text t n)))
  big_int : (n : BigInt) → IsOneLiteral s t (big_integer s n) (big_integer t n)
  template_part : (first : Bool) (part : TemplatePart) (n : TplElement) → IsOneLiteral s t ((part_kind first part, part_text first part (cooked_text s (string_bytes n.raw))) ∷ []) ((part_kind first part, part_text first part (cooked_text t (string_bytes n.raw))) ∷ [])

-- ---- lists of tokens

abbrev pub mark : List ℕ → Kind × List ℕ
mark t = (kinds.Punctuator, t)

-- the `]` or `}` that closes a list
abbrev pub closing : Closing → Kind × List ℕ
closing close = mark (closing_mark close)

abbrev pub is_brace : Closing → Bool
is_brace RightBracket = false
is_brace RightBrace = true

abbrev pub new_word : Kind × List ℕ
new_word = (kinds.Word, codes "new")

-- ---- what one `new` calls

-- its types, if it has some: `<C>` of `new A.b<C>()`
abbrev pub types_called : Option AnyNode → Part
types_called None rest = rest
types_called (Some types) rest = any_items types (Whole contexts.Plain) rest

-- what is written of the node that it calls, and of its types: `A.b<C>` of `new A.b<C>()`
abbrev pub called : AnyNode → Option AnyNode → Part
called callee types rest = new_gap (any_answers callee).starts (any_items callee (Whole contexts.Plain) (types_called types rest))

-- These are the tokens of it, all that there are, as an emission under these settings writes them where there are no comments.
pub record IsCalled (config : Config) (callee : AnyNode) (types : Option AnyNode) (ts : Tokens) : Type 0 where
  pub env : Env
  pub settings : env.config ≡ config
  pub bare : env.maps ≡ no_maps
  pub whole : unprintable_in (called callee types nothing env) ≡ None
  pub tokens : tokens_in (steps_of (called callee types nothing env)) ≡ ts

-- What two lists may differ in: in commas, where the source texts differ; in layout, where the first is minified and the second isn't. And the settings of each.
pub record Allowed : Type 0 where
  pub commas : Bool
  pub layout : Bool
  pub first : Config
  pub second : Config

-- Two lists are the same token for token, but for what is allowed. By layout a literal may be spelled in two ways, and the second list may have more: a comma before
-- a `}`, parentheses round a name before `=>`, and `()` right behind the node that one `new` calls, and its types: `a=>new B` and `(a)=>new B()`. By source text
-- either may have a comma before a `]` or `}`. So neither `return a` and `return(a)` are the same, nor `f` and `f()`.
pub data Differ (allowed : Allowed) : Tokens → Tokens → Type 0 where
  no_more : Differ allowed [] []
  token : (x : Kind × List ℕ) (xs ys : Tokens) → Differ allowed xs ys → Differ allowed (x ∷ xs) (x ∷ ys)
  literal : (us vs xs ys : Tokens) → allowed.layout ≡ true → IsOneLiteral allowed.first allowed.second us vs → Differ allowed xs ys → Differ allowed (us ++ xs) (vs ++ ys)
  first_comma : (close : Closing) (xs ys : Tokens) → allowed.commas ≡ true → Differ allowed xs ys → Differ allowed (mark (codes ",") ∷ closing close ∷ xs) (closing close ∷ ys)
  second_comma : (close : Closing) (xs ys : Tokens) → (allowed.commas || (allowed.layout && is_brace close)) ≡ true → Differ allowed xs ys → Differ allowed (closing close ∷ xs) (mark (codes ",") ∷ closing close ∷ ys)
  parameter : (name : List ℕ) (xs ys : Tokens) → allowed.layout ≡ true → Differ allowed xs ys → Differ allowed ((kinds.Name, name) ∷ mark (codes "=>") ∷ xs) (mark (codes "(") ∷ (kinds.Name, name) ∷ mark (codes ")") ∷ mark (codes "=>") ∷ ys)
  arguments : (callee : AnyNode) (types : Option AnyNode) (us vs xs ys : Tokens) → allowed.layout ≡ true → IsCalled allowed.first callee types us → IsCalled allowed.second callee types vs → Differ allowed us vs → Differ allowed xs ys → Differ allowed (new_word ∷ (us ++ xs)) (new_word ∷ (vs ++ (mark (codes "(") ∷ mark (codes ")") ∷ ys)))

-- by layout alone, the first minified; and by source text alone
abbrev pub DifferByLayout : Config → Config → Tokens → Tokens → Type 0
DifferByLayout first second xs ys = Differ (record { commas = false; layout = true; first = first; second = second }) xs ys

abbrev pub DifferInCommas : Config → Tokens → Tokens → Type 0
DifferInCommas config xs ys = Differ (record { commas = true; layout = false; first = config; second = config }) xs ys

-- ---- what such lists have in common

unfoldable pub is_punctuator : Kind → Bool
is_punctuator kinds.Punctuator = true
is_punctuator kind = false

unfoldable pub is_word : Kind → Bool
is_word kinds.Word = true
is_word kind = false

abbrev pub is_new : Kind × List ℕ → Bool
is_new x = is_word x.0 && is_same x.1 (codes "new")

-- this punctuator
abbrev pub is_mark : List ℕ → Kind × List ℕ → Bool
is_mark t x = is_punctuator x.0 && is_same x.1 t

-- a list begins with `(`; and with one token before `=>`, as a parameter without parentheses
unfoldable pub opens : Tokens → Bool
opens [] = false
opens (x ∷ xs) = is_mark (codes "(") x

unfoldable pub begins_arrow : Tokens → Bool
begins_arrow (x ∷ y ∷ xs) = is_mark (codes "=>") y
begins_arrow xs = false

-- its parentheses, in order
abbrev pub is_parenthesis : Kind × List ℕ → Bool
is_parenthesis x = is_mark (codes "(") x || is_mark (codes ")") x

unfoldable pub parentheses : Tokens → Tokens
parentheses [] = []
parentheses (x ∷ xs) = if is_parenthesis x then x ∷ parentheses xs else parentheses xs

-- it holds a `new` or a `=>`
unfoldable pub holds_new_or_arrow : Tokens → Bool
holds_new_or_arrow [] = false
holds_new_or_arrow (x ∷ xs) = is_new x || (is_mark (codes "=>") x || holds_new_or_arrow xs)

-- Behind a `new` of both, the second list alone has `()`, right behind what that `new` calls: `B` and `B()`.
pub record LeavesArguments (s t : Config) (xs ys : Tokens) : Type 0 where
  pub callee : AnyNode
  pub types : Option AnyNode
  pub first : Tokens
  pub second : Tokens
  pub first_rest : Tokens
  pub second_rest : Tokens
  pub first_called : IsCalled s callee types first
  pub second_called : IsCalled t callee types second
  pub first_is : xs ≡ first ++ first_rest
  pub second_is : ys ≡ second ++ (mark (codes "(") ∷ mark (codes ")") ∷ second_rest)
  pub alike : DifferByLayout s t first second
  pub rest : DifferByLayout s t first_rest second_rest

unfoldable pub without_commas : Tokens → Tokens
without_commas [] = []
without_commas (x ∷ xs) = if is_mark (codes ",") x then without_commas xs else x ∷ without_commas xs

-- ---- what is written of a tree

-- the tokens of a tree, as an emission writes them that goes by this
abbrev pub tokens_of : Root → Env → Tokens
tokens_of root env = tokens_in (steps_of (root_items root nothing env))

-- why it goes no further, where it comes to a node that can't be printed; else it writes the whole tree
abbrev pub stop_of : Root → Env → Option Unprintable
stop_of root env = unprintable_in (root_items root nothing env)

abbrev pub IsWhole : Root → Env → Type 0
IsWhole root env = stop_of root env ≡ None

-- the same, minified or not, and over another source text
abbrev pub laid_out : Bool → Env → Env
laid_out minify env = record env { config = record env.config { minify = minify } }

abbrev pub over : Lines → Env → Env
over lines env = record env { lines = lines }
