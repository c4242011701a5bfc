-- What is known of the parts of a derivation.
use Rattle.std.proofs.Common.{◌≡◌, Bool, true, false, ◌||◌, List, refl, sym, subst}
use Rattle.std.specs.Prelude.{codes}
use Rattle.std.proofs.lemmas.Bool.{true≢false}
use Rattle.swc_ecma_codegen_tree.specs.declared.links.AnyNode.{AnyNode, out-AnyNode}
use Rattle.swc_ecma_codegen_grammar.specs.Settings.{Settings}
use Rattle.swc_ecma_codegen_grammar.specs.Tokens.{Token, punctuator}
use Rattle.swc_ecma_codegen_grammar.specs.Tokens as tokens
use Rattle.swc_ecma_codegen_grammar.specs.declared.roles.Role.{Role}
use Rattle.swc_ecma_codegen_grammar.specs.declared.roles.Role.TheVariants.{Expression, Callee, AssignmentTarget, Pattern, FieldValue, Statement, Block, Member, Child, Element, TagObject}
use Rattle.swc_ecma_codegen_syntax.specs.declared.nonterminals.Nonterminal.{Nonterminal}
use Rattle.swc_ecma_codegen_syntax.specs.declared.nonterminals.Nonterminal.TheVariants as nt
use Rattle.swc_ecma_codegen_syntax.specs.declared.parameters.Parameters.{Parameters}
use Rattle.swc_ecma_codegen_syntax.specs.Nonterminals.{takes, is_optional}
use Rattle.swc_ecma_codegen_syntax.specs.Forms.{Form, Provided, Cure, ByPlace, ByRule, ByScope, ByCore, stands as stands_there, is_met}
use Rattle.swc_ecma_codegen_syntax.specs.NodeForms.{node_nonterminal}
use Rattle.swc_ecma_codegen_syntax.specs.Derives.{Derives, fixed, part, simple, shaped, restricted, lone, lone_in_parentheses, both, provided, closed, comma_closed, followed, bare}
use Rattle.swc_ecma_codegen_syntax.specs.Verdicts.{core}
use Rattle.swc_ecma_codegen_uniqueness.specs.ParseTrees.{Variant, ParseTree, End, Read, JSXElement, node_variant}
use Rattle.swc_ecma_codegen_uniqueness.specs.Parses.{is_inlined}
use Rattle.swc_ecma_codegen_uniqueness.proofs.Controls.{Control, OpenTag, InTag, ChildTag, ClosingTag, ClosingName, Statement as AtStatement, Where}
use Rattle.swc_ecma_codegen_uniqueness.proofs.Moves.{closing}
use Rattle.swc_ecma_codegen_uniqueness.proofs.PlaceLaws.{is_list}
use Rattle.swc_ecma_codegen_uniqueness.proofs.TableLaws.{is_place, is_sequence, cover, cover_taken}
use Rattle.swc_ecma_codegen_uniqueness.proofs.Machine.{Whole, Rest, Good, spine_free}
use Rattle.swc_ecma_codegen_uniqueness.proofs.Shapes.{is_chain, is_several, Operand}
use Rattle.swc_ecma_codegen_uniqueness.proofs.Reading.{derived_parse}
use Rattle.swc_ecma_codegen_uniqueness.proofs.StatementShapes.{Follower, follower, item_of}

-- a node is read as it is, in the place of the nonterminal that covers it; under [~In] no `in` takes what it begins with
pub record Fit (c : Parameters) (variant : Variant) (n : Nonterminal) (inside : ParseTree) : Type 0 where
  pub own : is_place n ≡ false
  pub chain : is_chain variant ≡ is_optional n
  pub several : is_several variant ≡ is_sequence n
  pub good : Good (Whole variant n) inside
  pub free : c.has_in ≡ false → spine_free inside ≡ true

or_same : (b : Bool) → (b || false) ≡ true → b ≡ true
or_same true h = refl
or_same false h = h

pub taken_at : (place n : Nonterminal) → stands_there true place n ≡ true → takes place n ≡ true
unfolding stands_there
taken_at place n h = or_same (takes place n) h

pub in_place : {c : Parameters} {place n : Nonterminal} {variant : Variant} {inside : ParseTree} → takes place n ≡ true → Fit c variant n inside → Operand place variant inside
in_place {n = n} h fit = record { of = n; taken = h; own = fit.own; chain = fit.chain; several = fit.several; good = fit.good }

pub at_place : {c : Parameters} (place n : Nonterminal) {variant : Variant} {inside : ParseTree} → stands_there true place n ≡ true → Fit c variant (cover n) inside → Operand (cover place) variant inside
at_place place n h fit = in_place (cover_taken place n (taken_at place n h)) fit

unfoldable pub PlacedGood : Bool → Type 0 → Type 0 → Type 0
PlacedGood true fit inside = inside
PlacedGood false fit inside = fit

-- the same of a statement, by what may stand right behind it
pub record FitItem (b : Follower) (variant : Variant) (inside : ParseTree) : Type 0 where
  pub good : Good (Whole variant (item_of b)) inside

-- and of a member of a class, or an element between tags
pub record FitMember (n : Nonterminal) (variant : Variant) (inside : ParseTree) : Type 0 where
  pub good : Good (Whole variant n) inside

-- The value of a field is no sequence: `a = b, c;` is no field, and `a = (b, c);` has a Paren.
abbrev pub NodeFit : Role → Parameters → Variant → Nonterminal → ParseTree → Type 0
NodeFit Expression c variant n inside = Fit c variant (cover n) inside
NodeFit Callee c variant n inside = Fit c variant (cover n) inside
NodeFit AssignmentTarget c variant n inside = Fit c variant (cover n) inside
NodeFit Pattern c variant n inside = Fit c variant (cover n) inside
NodeFit FieldValue c variant n inside = is_sequence n ≡ false → Fit c variant (cover n) inside
NodeFit Statement c variant n inside = FitItem (follower c) variant inside
NodeFit Member c variant n inside = FitMember nt.ClassElement variant inside
NodeFit Child c variant n inside = FitMember nt.JSXElement variant inside
NodeFit role c variant n inside = Unit {0}

-- a block, which has no node of its own
pub record BlockFit (f : ParseTree → ParseTree) : Type 0 where
  pub inner : ParseTree → ParseTree
  pub is : (rest : ParseTree) → f rest ≡ Read (punctuator (codes "{")) (inner rest)
  pub good : (place : Where) → is_list place ≡ true → (variant : Variant) (n : Nonterminal) (rest : ParseTree) → Good (Rest (closing place) variant n) rest → Good (Rest (AtStatement place) variant n) (inner rest)

-- an element of JSX, as an expression or between tags: what is read behind its `<`
abbrev pub opening : Bool → Token
opening true = tokens.child_open (codes "<")
opening false = punctuator (codes "<")

abbrev pub tag_at : Bool → Control
tag_at true = ChildTag
tag_at false = OpenTag

pub record ElementFit (b : Bool) (f : ParseTree → ParseTree) : Type 0 where
  pub inner : ParseTree → ParseTree
  pub is : (rest : ParseTree) → f rest ≡ Read (opening b) (inner rest)
  pub good : (n : Nonterminal) → Good (Rest (tag_at b) JSXElement n) (inner End)

-- where a name stands in a tag, and what stands behind its first part
pub data NamePlace : Control → Control → Type 0 where
  of_element : NamePlace OpenTag InTag
  of_child : NamePlace ChildTag InTag
  of_attribute : NamePlace InTag InTag
  of_closing : NamePlace ClosingTag ClosingName
  in_closing : NamePlace ClosingName ClosingName

-- a part of a name has no node either
pub record ObjectFit (f : ParseTree → ParseTree) : Type 0 where
  pub good : (a b : Control) → NamePlace a b → (n : Nonterminal) (m : ParseTree) → Good (Rest b JSXElement n) m → Good (Rest a JSXElement n) (f m)

abbrev pub InlinedGood : Role → Type 0 → Type 0 → Type 0 → Type 0 → Type 0
InlinedGood Block block element object inside = block
InlinedGood Element block element object inside = element
InlinedGood TagObject block element object inside = object
InlinedGood role block element object inside = inside

-- Each node right below is read as it is, where the settings minify as its parameters say.
unfoldable pub AllGood : {s : Settings} {a : Form AnyNode} {ts : List Token} → Derives core s a ts → Type 0
AllGood (fixed g) = Unit {0}
AllGood {s = s} (part {c = c} {role = role} {n = n} called st d) =
    PlacedGood (is_inlined role (out-AnyNode n)) (s.minify ≡ c.minify → NodeFit role c (node_variant (out-AnyNode n) role) (node_nonterminal called c (out-AnyNode n) role) (derived_parse d End))
    (InlinedGood role (s.minify ≡ c.minify → BlockFit (derived_parse d)) (s.minify ≡ c.minify → ElementFit false (derived_parse d)) (ObjectFit (derived_parse d)) (AllGood d))
AllGood (simple h d) = AllGood d
AllGood (shaped h d) = AllGood d
AllGood (restricted h d) = AllGood d
AllGood (lone h d) = AllGood d
AllGood (lone_in_parentheses d) = AllGood d
AllGood (both d e) = AllGood d × AllGood e
AllGood (provided h d) = AllGood d
AllGood closed = Unit {0}
AllGood comma_closed = Unit {0}
AllGood (followed d) = AllGood d
AllGood (bare d) = AllGood d

pub moved : {a b : Nonterminal} {variant : Variant} {p : ParseTree} → a ≡ b → Operand a variant p → Operand b variant p
moved {variant = variant} {p = p} e o = subst (λ z. Operand z variant p) e o

-- what stands on a condition that fails derives nothing in the core
pub no_form : {s : Settings} {cure : Cure} {a : Form AnyNode} {ts : List Token} → Derives core s (Provided cure false a) ts → ⊥
unfolding is_met
no_form {cure = ByPlace} (provided h d) = true≢false (sym h)
no_form {cure = ByRule} (provided h d) = true≢false (sym h)
no_form {cure = ByScope} (provided h d) = true≢false (sym h)
no_form {cure = ByCore} (provided h d) = true≢false (sym h)
