-- Where lines may be ended, said of the steps that are written: right behind the marks and operators, and nowhere else.
use Rattle.std.specs.Prelude.{◌≡◌, ◌==◌, ℕ, Bool, true, false, ◌||◌, if◌then◌else◌, List, [], ◌∷◌, ◌++◌, codes, None}
use Rattle.swc_ecma_codegen_grammar.specs.declared.kinds.Kind.TheVariants.{Word, Punctuator, Ending, JsxOpen}
use Rattle.swc_ecma_codegen_grammar.specs.Texts.{is_among}
use Rattle.swc_ecma_codegen_tree.specs.declared.exprs.TplElement.{TplElement}
use Rattle.swc_ecma_codegen_tree.specs.declared.links.AnyNode.{AnyNode}
use Rattle.swc_ecma_codegen_text_writer.specs.Sheet.{AllowBreak, Keyword, Operator, Punct, Semi}
use Rattle.swc_ecma_codegen_tokens.specs.Run.{Env, Part, Plan, Step, Guard, Token, Plain, at_maps, maps_after, steps_of}
use Rattle.swc_ecma_codegen_emit.specs.declared.nodes.Context.TheVariants as contexts
use Rattle.swc_ecma_codegen_emit.specs.Places.{Place, Whole}
use Rattle.swc_ecma_codegen_emit.specs.Templates.{tpl_parts}
use Rattle.swc_ecma_codegen_emit.specs.Tree.{any_items}
use Rattle.swc_ecma_codegen_laws.specs.Enclosing.{is_element, is_function}

-- the marks behind which a line may be ended
abbrev pub marks : List (List ℕ)
marks = codes "(" ∷ codes "," ∷ codes ";" ∷ codes "[" ∷ codes "{" ∷ []

-- the operators of two operands that are no words
abbrev pub operators : List (List ℕ)
operators =
    codes "==" ∷ codes "!=" ∷ codes "===" ∷ codes "!==" ∷ codes "<" ∷ codes "<=" ∷ codes ">" ∷ codes ">=" ∷ codes "<<" ∷ codes ">>" ∷ codes ">>>"
    ∷ codes "+" ∷ codes "-" ∷ codes "*" ∷ codes "/" ∷ codes "%" ∷ codes "**" ∷ codes "|" ∷ codes "^" ∷ codes "&" ∷ codes "||" ∷ codes "&&" ∷ codes "??" ∷ []

-- A step writes a mark behind which a line may be ended: `(` `,` `;` `[` `{`, or an operator of two operands, `+` or `in`.
unfoldable pub is_mark : Step → Bool
is_mark (Token Punctuator (Punct span t)) = is_among t marks
is_mark (Token Ending x) = true
is_mark (Token Punctuator (Operator span t)) = is_among t operators
is_mark (Token Word (Operator span t)) = true
is_mark x = false

-- It says that a line may be ended there.
unfoldable pub is_break : Step → Bool
is_break (Plain AllowBreak) = true
is_break x = false

-- the back quote that begins a template, and the `}` behind each expression of it
abbrev pub begins_part : List ℕ → Bool
begins_part (c ∷ []) = (c == 96) || (c == 125)
begins_part t = false

-- A template or an element alone writes it: what begins a part of a template, or the `<` or `{` of a child of an element or of a closing tag.
abbrev pub is_enclosed : Step → Bool
is_enclosed (Plain (Punct span t)) = begins_part t
is_enclosed (Token JsxOpen x) = true
is_enclosed x = false

-- one of these does
unfoldable pub holds_break : List Step → Bool
holds_break [] = false
holds_break (x ∷ xs) = is_break x || holds_break xs

-- A part writes these steps, whatever comes after it; that is as far as it goes where it comes to a node that can't be printed.
pub record IsWritten (part : Part) (xs : List Step) : Type 0 where
  pub env : Env
  pub goes_on : Bool
  pub is_steps : (rest : Plan) → steps_of (part rest env) ≡ xs ++ (if goes_on then steps_of (rest (at_maps (maps_after xs env.maps) env)) else [])

-- what is written of a whole node, where nothing is asked of it
abbrev pub whole_node : AnyNode → Part
whole_node node = any_items node (Whole contexts.Plain)

-- the semicolon that stands for the body of a function
abbrev pub semicolon : List Step
semicolon = Guard (codes ";") ∷ Token Ending (Semi None) ∷ []

-- Lines may be ended right behind each mark, and nowhere else: not in an element, a fragment or a template, nor behind the semicolon that
-- stands for the body of a function, behind which an operator may stand. A template is its parts and the whole nodes between them, so what
-- stands between two templates is in none. The `*` of `yield*` is no operator of two operands.
pub data EndsBehindMarks : List Step → Type 0 where
  no_more : EndsBehindMarks []
  mark : (x : Step) (xs : List Step) → is_mark x ≡ true → EndsBehindMarks xs → EndsBehindMarks (x ∷ Plain AllowBreak ∷ xs)
  other : (x : Step) (xs : List Step) → (is_mark x || is_break x) ≡ false → is_enclosed x ≡ false → EndsBehindMarks xs → EndsBehindMarks (x ∷ xs)
  yield_star : (xs : List Step) → EndsBehindMarks xs → EndsBehindMarks (Token Word (Keyword None (codes "yield")) ∷ Guard (codes "*") ∷ Token Punctuator (Operator None (codes "*")) ∷ xs)
  element : (node : AnyNode) (place : Place) (xs ys : List Step) → is_element node ≡ true → IsWritten (any_items node place) xs → holds_break xs ≡ false → EndsBehindMarks ys → EndsBehindMarks (xs ++ ys)
  template : (tagged : Bool) (nodes : List AnyNode) (parts : List TplElement) (xs ys : List Step) → IsWritten (tpl_parts whole_node tagged nodes parts) xs → holds_break xs ≡ false → EndsBehindMarks ys → EndsBehindMarks (xs ++ ys)
  without_body : (node : AnyNode) (place : Place) (xs ys : List Step) → is_function node ≡ true → IsWritten (any_items node place) (xs ++ semicolon) → EndsBehindMarks xs → EndsBehindMarks ys → EndsBehindMarks (xs ++ (semicolon ++ ys))
