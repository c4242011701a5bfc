-- What holds of the words of the lower emitter holds of all that is written of a tree: the one induction of the laws of what is written.
use Rattle.std.proofs.Common.{◌≡◌, ℕ, Bool, true, false, not, ◌||◌, if◌then◌else◌, List, [], ◌∷◌, map, codes, Option, None, refl, ap, subst}
use Rattle.swc_ecma_codegen_common.specs.declared.operators.AssignOp.{AssignOp}
use Rattle.swc_ecma_codegen_common.specs.declared.operators.BinaryOp.{BinaryOp}
use Rattle.swc_ecma_codegen_common.specs.declared.operators.UpdateOp.{UpdateOp}
use Rattle.swc_ecma_codegen_common.specs.declared.positions.BytePos.{BytePos}
use Rattle.swc_ecma_codegen_common.specs.declared.positions.Span.{Span}
use Rattle.swc_ecma_codegen_common.specs.Operators.{assign_text, update_text}
use Rattle.swc_ecma_codegen_grammar.specs.CommentMaps.{Maps}
use Rattle.swc_ecma_codegen_grammar.specs.ListFormats.{allows_trailing_comma, can_skip_trailing_comma, forces_trailing_comma}
use Rattle.swc_ecma_codegen_grammar.specs.Phrases.{Closing, closing_mark}
use Rattle.swc_ecma_codegen_grammar.specs.SourceLines.{Lines}
use Rattle.swc_ecma_codegen_grammar.specs.TemplatePhrases.{part_before}
use Rattle.swc_ecma_codegen_tree.specs.declared.exprs.TplElement.{TplElement}
use Rattle.swc_ecma_codegen_tree.specs.declared.links.AnyNode.{AnyNode}
use Rattle.swc_ecma_codegen_tree.specs.declared.lits.BigInt.{BigInt}
use Rattle.swc_ecma_codegen_tree.specs.declared.lits.Bool as tree_bool
use Rattle.swc_ecma_codegen_tree.specs.declared.lits.JSXText.{JSXText}
use Rattle.swc_ecma_codegen_tree.specs.declared.lits.Lit.{Lit}
use Rattle.swc_ecma_codegen_tree.specs.declared.lits.Number.{Number}
use Rattle.swc_ecma_codegen_tree.specs.declared.lits.Str.{Str}
use Rattle.swc_ecma_codegen_tokens.specs.declared.refusals.Unprintable.{Unprintable}
use Rattle.swc_ecma_codegen_tokens.specs.Attributes as attributes
use Rattle.swc_ecma_codegen_tokens.specs.Choices as choices
use Rattle.swc_ecma_codegen_tokens.specs.Keys as keys
use Rattle.swc_ecma_codegen_tokens.specs.Lists as lists
use Rattle.swc_ecma_codegen_tokens.specs.Lists.{ListChild}
use Rattle.swc_ecma_codegen_tokens.specs.Literals as literals
use Rattle.swc_ecma_codegen_tokens.specs.Lits as lits
use Rattle.swc_ecma_codegen_tokens.specs.PrivateNames as private_names
use Rattle.swc_ecma_codegen_tokens.specs.Run as run
use Rattle.swc_ecma_codegen_tokens.specs.Run.{Plan, Part}
use Rattle.swc_ecma_codegen_tokens.specs.Tags as tags
use Rattle.swc_ecma_codegen_tokens.specs.Templates.{tpl_element}
use Rattle.swc_ecma_codegen_tokens.specs.Words as calls
use Rattle.swc_ecma_codegen_emit.specs.Places.{Place}
use Rattle.swc_ecma_codegen_emit.specs.Answers.{Answers, any_answers}
use Rattle.swc_ecma_codegen_emit.specs.Blocks as blocks
use Rattle.swc_ecma_codegen_emit.specs.Exprs as exprs
use Rattle.swc_ecma_codegen_emit.specs.FunctionExprs as arrows
use Rattle.swc_ecma_codegen_emit.specs.Programs as programs
use Rattle.swc_ecma_codegen_emit.specs.Props as props
use Rattle.swc_ecma_codegen_emit.specs.Stmts as stmts
use Rattle.swc_ecma_codegen_emit.specs.Templates as templates
use Rattle.swc_ecma_codegen_emit.specs.Tree.{any_items}
use Rattle.swc_ecma_codegen_laws.specs.Enclosing.{is_element, is_function}
use Rattle.swc_ecma_codegen_laws.specs.Breaks.{whole_node}
use Rattle.swc_ecma_codegen_laws.specs.Layouts.{called, is_brace}
use Rattle.swc_ecma_codegen_laws.proofs.Children.{ChildrenHold, NodesHold, nodes_hold}
use Rattle.swc_ecma_codegen_laws.proofs.OneName.{HoldsOneName}

-- The comma behind the last child of a list hangs on nothing: there is none, or always one.
abbrev pub keeps_comma : ℕ → Bool
keeps_comma format = if forces_trailing_comma format then not (can_skip_trailing_comma format) else not (allows_trailing_comma format)

-- It is left out where an emission minifies before `}` alone.
abbrev pub may_skip : ℕ → Closing → Bool
may_skip format close = not (can_skip_trailing_comma format) || is_brace close

-- It holds of nothing, of one part after another, and of each word that the definitions of _emit are made of.
pub record OfWords (holds : Bool → Part → Type 0) : Type 0 where
  pub none : (bounded : Bool) → holds bounded (λ rest. rest)
  pub and_then : (bounded : Bool) {p q : Part} → holds bounded p → holds bounded q → holds bounded (λ rest. p (q rest))
  pub refuse : (bounded : Bool) (r : Unprintable) → holds bounded (run.refuse r)
  pub by_maps : (bounded : Bool) (ask : Maps → Part) → ((maps : Maps) → holds bounded (ask maps)) → holds bounded (calls.by_maps ask)
  -- blanks, lines, positions and comments
  pub space : (bounded : Bool) → holds bounded calls.space
  pub formatting_space : (bounded : Bool) → holds bounded calls.formatting_space
  pub formatting_line : (bounded : Bool) → holds bounded calls.formatting_line
  pub line_end : (bounded : Bool) → holds bounded calls.line_end
  pub deeper : (bounded : Bool) → holds bounded lists.deeper
  pub shallower : (bounded : Bool) → holds bounded lists.shallower
  pub commit_pending_semi : (bounded : Bool) → holds bounded calls.commit_pending_semi
  pub last_semi : (bounded : Bool) → holds bounded programs.last_semi
  pub position : (bounded : Bool) (pos : BytePos) → holds bounded (calls.position pos)
  pub last_of : (bounded : Bool) (span : Span) → holds bounded (calls.last_of span)
  pub leading_comments : (bounded : Bool) (pos : BytePos) → holds bounded (calls.leading_comments pos)
  pub trailing_comments : (bounded prefix_space : Bool) (pos : BytePos) → holds bounded (calls.trailing_comments prefix_space pos)
  pub comments_before_end : (bounded : Bool) (pos : BytePos) → holds bounded (calls.comments_before_end pos)
  -- words and marks
  pub keyword : (bounded : Bool) (span : Option Span) (t : List ℕ) → holds bounded (calls.keyword span t)
  pub punct : (bounded : Bool) (t : List ℕ) → holds bounded (calls.punct t)
  pub punct_between : (bounded : Bool) (t : List ℕ) → holds bounded (calls.punct_between t)
  pub question : (bounded optional : Bool) → holds bounded (calls.question optional)
  pub bare_punct : (t : List ℕ) → holds false (calls.bare_punct t)
  pub ellipsis : (bounded : Bool) (span : Span) → holds bounded (calls.placed_punct span (codes "..."))
  pub semi : (bounded : Bool) → holds bounded calls.semi
  pub loop_ending : (bounded : Bool) → holds bounded choices.loop_ending
  pub binary : (bounded : Bool) (op : BinaryOp) → holds bounded (λ rest. exprs.binary_op op (calls.allow_break rest))
  pub update_operator : (bounded : Bool) (op : UpdateOp) → holds bounded (calls.operator (update_text op))
  pub assign_operator : (bounded : Bool) (op : AssignOp) → holds bounded (calls.operator (assign_text op))
  pub yield_word : (bounded delegate : Bool) → holds bounded (λ rest. calls.keyword None (codes "yield") (exprs.yield_star delegate rest))
  pub attributes_word : (bounded : Bool) → holds bounded choices.attributes_word
  -- `new` and what is called, where no arguments are
  pub bare_new : (bounded : Bool) (callee : AnyNode) (types : Option AnyNode) → holds bounded (called callee types) → holds bounded (λ rest. calls.keyword None (codes "new") (called callee types (choices.empty_arguments rest)))
  pub hashbang : (bounded : Bool) (t : List ℕ) → holds bounded (literals.hashbang t)
  -- names and literals
  pub name : (bounded : Bool) (span : Span) (sym : List ℕ) (optional : Bool) → holds bounded (calls.name span sym optional)
  pub private_name : (bounded : Bool) (span : Span) (sym : List ℕ) → holds bounded (private_names.private_name span sym)
  pub key : (bounded : Bool) (span : Span) (sym : List ℕ) → holds bounded (keys.key span sym)
  pub str_lit : (bounded : Bool) (n : Str) → holds bounded (lits.str_lit n)
  pub bool_node : (bounded : Bool) (n : tree_bool.Bool) → holds bounded (lits.bool_node n)
  pub number_lit : (bounded : Bool) (n : Number) → holds bounded (lits.number_lit n)
  pub number_object : (bounded : Bool) (n : Number) (pos : BytePos) → holds bounded (lits.number_object n pos)
  pub big_int_lit : (bounded : Bool) (n : BigInt) → holds bounded (lits.big_int_lit n)
  pub lit : (bounded : Bool) (n : Lit) → holds bounded (lits.lit n)
  -- JSX
  pub attribute_string : (bounded : Bool) (n : Str) → holds bounded (attributes.attribute_string n)
  pub jsx_text_node : (bounded : Bool) (n : JSXText) → holds bounded (attributes.jsx_text_node n)
  pub jsx_text_lit : (bounded : Bool) (n : JSXText) → holds bounded (attributes.jsx_text_lit n)
  pub tag_name : (bounded : Bool) (span : Span) (t : List ℕ) → holds bounded (tags.tag_name span t)
  pub child_open : (t : List ℕ) → holds false (tags.child_open t)
  pub close : (bounded : Bool) → holds bounded tags.close
  -- lists
  pub list : (bounded : Bool) (format : ℕ) → keeps_comma format ≡ true → (parent : Span) (cs : List ListChild) → ChildrenHold holds bounded cs → holds bounded (lists.list format parent cs)
  -- one that may have a comma behind its last child, and the mark that closes it
  pub closed_list : (bounded : Bool) (format : ℕ) (parent : Span) (cs : List ListChild) (close : Closing) → may_skip format close ≡ true → ChildrenHold holds bounded cs → holds bounded (λ rest. lists.list format parent cs (calls.punct (closing_mark close) rest))
  pub block_list : (bounded some : Bool) (span : Span) (cs : List ListChild) → ChildrenHold holds bounded cs → holds bounded (blocks.block_list some span cs)
  pub object_list : (bounded some : Bool) (span : Span) (cs : List ListChild) → ChildrenHold holds bounded cs → holds bounded (props.object_list some span cs)
  pub case_list : (bounded : Bool) (single : Lines → Bool) (span : Span) (cs : List ListChild) → ChildrenHold holds bounded cs → holds bounded (lists.by_lines (λ lines. stmts.case_list (single lines) span cs))
  -- the parameters of an arrow function, what stands behind them, and `=>`: one that needs no parentheses is a name, and nothing stands behind it
  pub arrow : (bounded : Bool) (plain : Maps → Bool) (span : Span) (cs : List ListChild) (result : Part) → ChildrenHold holds bounded cs → holds bounded result → ((maps : Maps) → plain maps ≡ true → (rest : Plan) → result rest ≡ rest) → ((maps : Maps) → plain maps ≡ true → HoldsOneName cs) → holds bounded (λ rest. calls.by_maps (λ maps. arrows.arrow_within (plain maps) span cs) (result (calls.punct (codes "=>") rest)))
  -- templates, elements and fragments, in which no line may be ended, and functions without a body
  pub template : (bounded tagged : Bool) (nodes : List AnyNode) (quasis : List TplElement) → NodesHold holds nodes → holds bounded (templates.tpl_parts whole_node tagged nodes quasis)
  pub element : (bounded : Bool) (node : AnyNode) (place : Place) (inside : Part) → is_element node ≡ true → any_items node place ≡ run.unbounded inside → holds false inside → holds bounded (any_items node place)
  pub without_body : (bounded : Bool) (node : AnyNode) (place : Place) (head : Part) → is_function node ≡ true → any_items node place ≡ (λ rest. head (calls.bare_semi rest)) → holds bounded head → holds bounded (any_items node place)

-- nodes that links hold, of which it holds
pub record Known (holds : Bool → Part → Type 0) (X : Type 0) : Type 0 where
  pub words : OfWords holds
  pub node : X → AnyNode
  pub law : (bounded : Bool) (x : X) (place : Place) → holds bounded (any_items (node x) place)

-- what they answer, and what is written of them
abbrev pub asks_in : {holds : Bool → Part → Type 0} {X : Type 0} → Known holds X → X → Answers
asks_in known x = any_answers (known.node x)

abbrev pub items_in : {holds : Bool → Part → Type 0} {X : Type 0} → Known holds X → X → Place → Part
items_in known x place = any_items (known.node x) place

-- one of two parts
pub either : {holds : Bool → Part → Type 0} (words : OfWords holds) (bounded b : Bool) {p q : Part} → holds bounded p → holds bounded q → holds bounded (λ rest. if b then p rest else q rest)
either words bounded true h k = h
either words bounded false h k = k

pub blank_if_holds : {holds : Bool → Part → Type 0} (words : OfWords holds) (bounded wanted : Bool) → holds bounded (lists.blank_if wanted)
unfolding lists.blank_if
blank_if_holds words bounded wanted = either words bounded wanted (words.formatting_space bounded) (words.none bounded)

pub optional_parentheses_hold : {holds : Bool → Part → Type 0} (words : OfWords holds) (bounded there : Bool) (part : Part) → holds bounded part → holds bounded (choices.optional_parentheses there part)
unfolding choices.optional_parentheses
optional_parentheses_hold words bounded there part h = either words bounded there (words.and_then bounded (words.punct bounded (codes "(")) (words.and_then bounded h (words.punct bounded (codes ")")))) h

-- ---- templates

rest_of_nodes : {A : Type 0} (node : A → AnyNode) (tagged : Bool) (xs : List A) (qs : List TplElement) (rest : Plan) → templates.tpl_rest whole_node tagged (map node xs) qs rest ≡ templates.tpl_rest (λ x. whole_node (node x)) tagged xs qs rest
unfolding templates.tpl_rest
rest_of_nodes node tagged [] qs rest = refl
rest_of_nodes node tagged (x ∷ xs) [] rest = refl
rest_of_nodes node tagged (x ∷ xs) (q ∷ qs) rest = ap (λ z. whole_node (node x) (tpl_element false (part_before tagged qs) q z)) (rest_of_nodes node tagged xs qs rest)

all_of_nodes : {A : Type 0} (node : A → AnyNode) (tagged : Bool) (xs : List A) (qs : List TplElement) (rest : Plan) → templates.tpl_all whole_node tagged (map node xs) qs rest ≡ templates.tpl_all (λ x. whole_node (node x)) tagged xs qs rest
unfolding templates.tpl_all
all_of_nodes node tagged xs [] rest = refl
all_of_nodes node tagged xs (q ∷ qs) rest = ap (λ z. tpl_element true (part_before tagged qs) q z) (rest_of_nodes node tagged xs qs rest)

of_nodes : {A : Type 0} (node : A → AnyNode) (tagged : Bool) (xs : List A) (qs : List TplElement) → templates.tpl_parts whole_node tagged (map node xs) qs ≡ templates.tpl_parts (λ x. whole_node (node x)) tagged xs qs
unfolding templates.tpl_parts run.with_max_line
of_nodes node tagged xs qs = λ i. λ rest. λ env. (ap (λ z. z (record env { max_line = None })) (all_of_nodes node tagged xs qs (λ inner. rest (record inner { max_line = env.max_line })))) i

pub tpl_parts_hold : {holds : Bool → Part → Type 0} (words : OfWords holds) (bounded : Bool) {A : Type 0} (node : A → AnyNode) → ((x : A) → holds false (whole_node (node x))) → (tagged : Bool) (xs : List A) (qs : List TplElement) → holds bounded (templates.tpl_parts (λ x. whole_node (node x)) tagged xs qs)
tpl_parts_hold {holds} words bounded node h tagged xs qs = subst (λ z. holds bounded z) (of_nodes node tagged xs qs) (words.template bounded tagged (map node xs) qs (nodes_hold holds node h xs))
