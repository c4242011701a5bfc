-- What a derivation makes of a list is what its tree says, with what syntax leaves open.
use Rattle.std.proofs.Common.{◌≡◌, Bool, true, false, not, List, [], ◌∷◌, ◌++◌, Option, Some, None, Box, Global, inl, inr, refl, sym, ap, ap₂, ◌∙◌}
use Rattle.std.specs.Prelude.{codes}
use Rattle.swc_ecma_codegen_tree.specs.Links.{PatBox}
use Rattle.swc_ecma_codegen_tree.specs.declared.links.AnyNode.{AnyNode, AnyNode-F, map-AnyNode, roll-AnyNode, out-AnyNode, fold-AnyNode}
use Rattle.swc_ecma_codegen_tree.specs.declared.links.AnyNode.TheOpen as nodes
use Rattle.swc_ecma_codegen_tree.specs.declared.links.AnyNode.TheVariants as whole
use Rattle.swc_ecma_codegen_tree.specs.declared.links.AnyNode.TheViews.{roll-out-AnyNode}
use Rattle.swc_ecma_codegen_tree.specs.declared.links.AnyNode.TheFolds.{fold-roll-AnyNode}
use Rattle.swc_ecma_codegen_tree.specs.declared.classes.ClassMember as class_members
use Rattle.swc_ecma_codegen_tree.specs.declared.classes.ClassMember.TheVariants as members
use Rattle.swc_ecma_codegen_tree.specs.declared.exprs.Expr.{Expr}
use Rattle.swc_ecma_codegen_tree.specs.declared.exprs.Expr.TheVariants as exprs
use Rattle.swc_ecma_codegen_tree.specs.declared.parts.ExprPart.{ExprPart}
use Rattle.swc_ecma_codegen_tree.specs.declared.parts.ExprPart.TheVariants as expr_parts
use Rattle.swc_ecma_codegen_tree.specs.declared.pats.ArrayPat.{ArrayPat}
use Rattle.swc_ecma_codegen_tree.specs.declared.pats.ObjectPat.{ObjectPat}
use Rattle.swc_ecma_codegen_tree.specs.declared.pats.ObjectPatProp.{ObjectPatProp}
use Rattle.swc_ecma_codegen_tree.specs.declared.pats.ObjectPatProp.TheVariants as pat_props
use Rattle.swc_ecma_codegen_tree.specs.declared.pats.Pat.{Pat}
use Rattle.swc_ecma_codegen_tree.specs.declared.pats.Pat.TheVariants as pats
use Rattle.swc_ecma_codegen_tree.specs.declared.pats.AssignTarget.{AssignTarget}
use Rattle.swc_ecma_codegen_tree.specs.declared.pats.AssignTarget.TheVariants as targets
use Rattle.swc_ecma_codegen_tree.specs.declared.pats.AssignTargetPat.TheVariants as target_pats
use Rattle.swc_ecma_codegen_tree.specs.declared.pats.SimpleAssignTarget.TheVariants as simple_targets
use Rattle.swc_ecma_codegen_tree.specs.declared.decls.Decl.TheVariants as decls
use Rattle.swc_ecma_codegen_tree.specs.declared.parts.JSXPart.{JSXPart}
use Rattle.swc_ecma_codegen_tree.specs.declared.parts.JSXPart.TheVariants as jsx_parts
use Rattle.swc_ecma_codegen_tree.specs.declared.parts.StmtPart.{StmtPart}
use Rattle.swc_ecma_codegen_tree.specs.declared.parts.StmtPart.TheVariants as stmt_parts
use Rattle.swc_ecma_codegen_tree.specs.declared.stmts.Stmt.TheVariants as stmts
use Rattle.swc_ecma_codegen_tree.specs.declared.stmts.Stmt.{Stmt}
use Rattle.swc_ecma_codegen_grammar.specs.ElementPhrases.{last_is_hole}
use Rattle.swc_ecma_codegen_grammar.specs.Phrases.{Phrase, Never, Nothing, One, NameOf, KeyOf, PrivateOf, TagNameOf, Then, CommaBefore, OptionalParentheses, Chosen, Closing, RightBracket, RightBrace, Generates, chosen, close_parenthesis, mark}
use Rattle.swc_ecma_codegen_grammar.specs.Settings.{Settings}
use Rattle.swc_ecma_codegen_grammar.specs.Tokens.{Token}
use Rattle.swc_ecma_codegen_grammar.specs.declared.roles.Role.{Role}
use Rattle.swc_ecma_codegen_grammar.specs.declared.roles.Role.TheVariants.{Expression, Callee, FieldValue, Statement, Pattern, AssignmentTarget, Member as MemberOfClass, Child}
use Rattle.swc_ecma_codegen_syntax.specs.declared.nonterminals.Nonterminal.TheVariants as nt
use Rattle.swc_ecma_codegen_syntax.specs.declared.parameters.Parameters.{Parameters}
use Rattle.swc_ecma_codegen_syntax.specs.Parameters.{before, of_targets}
use Rattle.swc_ecma_codegen_syntax.specs.Forms.{Form, Fixed, Part, Simple, Shaped, Restricted, Lone, Both, Provided, Closed, Bare, Followed, map_form}
use Rattle.swc_ecma_codegen_syntax.specs.MemberForms.{member_form, tagged_form}
use Rattle.swc_ecma_codegen_syntax.specs.PatForms.{pat_element_form, pat_elements_after, pat_elements_form, closing_form, elements_end_form, array_pat_form, pat_prop_form, pat_props_after, pat_props_form, object_pat_form, pat_form}
use Rattle.swc_ecma_codegen_syntax.specs.ClassForms.{field_expr_form}
use Rattle.swc_ecma_codegen_syntax.specs.ExprForms.{expr_form}
use Rattle.swc_ecma_codegen_syntax.specs.StmtForms.{is_empty, is_empty_node}
use Rattle.swc_ecma_codegen_syntax.specs.TargetForms.{target_pat_form, target_form}
use Rattle.swc_ecma_codegen_syntax.specs.NodeForms.{node_form, part_form}
use Rattle.swc_ecma_codegen_syntax.specs.Derives.{Derives, fixed, part, simple, shaped, restricted, lone, lone_in_parentheses, both, provided, closed, comma_closed, followed, bare}
use Rattle.swc_ecma_codegen_syntax.specs.Verdicts.{core}
use Rattle.swc_ecma_codegen_syntax.proofs.TreeFacts.{node_mapped}
use Rattle.swc_ecma_codegen_uniqueness.specs.ParseTrees.{Variant, ParseTree, End, Read, Optional, Node, settled, expr_variant, simple_target_variant, target_pat_variant, target_variant, pat_variant, decl_variant, stmt_variant, part_variant, member_variant, element_variant, child_variant, node_variant}
use Rattle.swc_ecma_codegen_uniqueness.specs.Parses.{phrase_tokens, read_all, is_inlined_pat, is_inlined_pattern, is_inlined, placed, is_empty_variant, is_empty_parse, form_parse, node_parse, parse, expr_before}
use Rattle.swc_ecma_codegen_uniqueness.proofs.Reading.{read_phrase, derived_parse}

-- ---- what a node says, by what its links hold

form_parse_mapped : {X Y : Type 0} (g : X → Y) (f : Y → Role → Parameters → ParseTree → ParseTree) (s : Settings) (a : Form X) (rest : ParseTree) → form_parse f s (map_form g a) rest ≡ form_parse (λ x. f (g x)) s a rest
unfolding form_parse map_form
form_parse_mapped g f s (Fixed p) rest = refl
form_parse_mapped g f s (Part place c role n) rest = refl
form_parse_mapped g f s (Simple named place c n) rest = refl
form_parse_mapped g f s (Shaped shape place c role n) rest = refl
form_parse_mapped g f s (Restricted lookahead place c as_pattern n) rest = refl
form_parse_mapped g f s (Lone place c n) rest = refl
form_parse_mapped g f s (Both a b) rest = ap (form_parse f s (map_form g a)) (form_parse_mapped g f s b rest) ∙ form_parse_mapped g f s a (form_parse (λ x. f (g x)) s b rest)
form_parse_mapped g f s (Provided cure condition a) rest = form_parse_mapped g f s a rest
form_parse_mapped g f s (Closed comma close) rest = refl
form_parse_mapped g f s (Bare a) rest = form_parse_mapped g f s a rest
form_parse_mapped g f s (Followed place c n next) rest = refl

expr_variant_mapped : {X Y : Type 0} (g : X → Y) (n : Expr X) → node_variant (map-AnyNode X Y g (nodes.Expr n)) Expression ≡ expr_variant n
unfolding node_variant expr_variant
expr_variant_mapped g (exprs.This n) = refl
expr_variant_mapped g n = refl

target_variant_mapped : {X Y : Type 0} (g : X → Y) (n : AssignTarget X) → node_variant (map-AnyNode X Y g (nodes.ExprPart (expr_parts.AssignTarget n))) AssignmentTarget ≡ target_variant n
unfolding node_variant part_variant target_variant simple_target_variant target_pat_variant
target_variant_mapped g (targets.Simple (simple_targets.Ident n)) = refl
target_variant_mapped g (targets.Simple n) = refl
target_variant_mapped g (targets.Pat (target_pats.Array n)) = refl
target_variant_mapped g (targets.Pat n) = refl

pat_variant_mapped : {X Y : Type 0} (g : X → Y) (n : Pat X) → node_variant (map-AnyNode X Y g (nodes.ExprPart (expr_parts.Pat n))) Pattern ≡ pat_variant n
unfolding node_variant part_variant pat_variant
pat_variant_mapped g (pats.Ident n) = refl
pat_variant_mapped g n = refl

stmt_variant_mapped : {X Y : Type 0} (g : X → Y) (n : Stmt X) → node_variant (map-AnyNode X Y g (nodes.Stmt n)) Statement ≡ stmt_variant n
unfolding node_variant stmt_variant decl_variant
stmt_variant_mapped g (stmts.Decl (decls.Var n)) = refl
stmt_variant_mapped g (stmts.Decl n) = refl
stmt_variant_mapped g (stmts.Empty n) = refl
stmt_variant_mapped g n = refl

member_variant_by : {X Y : Type 0} (g : X → Y) (b : Box (class_members.ClassMember X) Global) (n : class_members.ClassMember X) → node_variant (map-AnyNode X Y g (nodes.StmtPart (stmt_parts.ClassMember (record b { value = n })))) MemberOfClass ≡ member_variant n
unfolding node_variant element_variant member_variant
member_variant_by g b (members.Empty n) = refl
member_variant_by g b n = refl

element_variant_mapped : {X Y : Type 0} (g : X → Y) (n : StmtPart X) → node_variant (map-AnyNode X Y g (nodes.StmtPart n)) MemberOfClass ≡ element_variant n
unfolding node_variant element_variant
element_variant_mapped g (stmt_parts.ClassMember n) = member_variant_by g n n.value
element_variant_mapped g n = refl

child_variant_mapped : {X Y : Type 0} (g : X → Y) (n : JSXPart X) → node_variant (map-AnyNode X Y g (nodes.JSXPart n)) Child ≡ child_variant n
unfolding node_variant child_variant
child_variant_mapped g (jsx_parts.JSXElement n) = refl
child_variant_mapped g n = refl

variant_mapped : {X Y : Type 0} (g : X → Y) (y : AnyNode-F X) (role : Role) → node_variant (map-AnyNode X Y g y) role ≡ node_variant y role
unfolding node_variant part_variant
variant_mapped g (nodes.Expr n) Expression = expr_variant_mapped g n
variant_mapped g (nodes.Expr n) Callee = expr_variant_mapped g n
variant_mapped g (nodes.Expr n) FieldValue = expr_variant_mapped g n
variant_mapped g (nodes.Stmt n) Statement = stmt_variant_mapped g n
variant_mapped g (nodes.StmtPart n) MemberOfClass = element_variant_mapped g n
variant_mapped g (nodes.JSXPart n) Child = child_variant_mapped g n
variant_mapped g (nodes.ExprPart (expr_parts.AssignTarget n)) AssignmentTarget = target_variant_mapped g n
variant_mapped g (nodes.ExprPart (expr_parts.Pat n)) Pattern = pat_variant_mapped g n
variant_mapped g y role = refl

inlined_pat_mapped : {X Y : Type 0} (g : X → Y) (n : Pat X) → is_inlined_pattern (map-AnyNode X Y g (nodes.ExprPart (expr_parts.Pat n))) ≡ is_inlined_pat n
unfolding is_inlined_pattern is_inlined_pat
inlined_pat_mapped g (pats.Ident n) = refl
inlined_pat_mapped g n = refl

inlined_pattern_mapped : {X Y : Type 0} (g : X → Y) (y : AnyNode-F X) → is_inlined_pattern (map-AnyNode X Y g y) ≡ is_inlined_pattern y
unfolding is_inlined_pattern
inlined_pattern_mapped g (nodes.ExprPart (expr_parts.Pat n)) = inlined_pat_mapped g n
inlined_pattern_mapped g y = refl

inlined_mapped : {X Y : Type 0} (g : X → Y) (role : Role) (y : AnyNode-F X) → is_inlined role (map-AnyNode X Y g y) ≡ is_inlined role y
unfolding is_inlined
inlined_mapped g Pattern y = inlined_pattern_mapped g y
inlined_mapped g role y = refl

placed_alike : (b k : Bool) (variant z : Variant) (f g : ParseTree → ParseTree) → b ≡ k → variant ≡ z → ((rest : ParseTree) → f rest ≡ g rest) → (rest : ParseTree) → placed b variant f rest ≡ placed k z g rest
unfolding placed
placed_alike b true variant z f g e i h rest = ap (λ w. placed w variant f rest) e ∙ h rest
placed_alike b false variant z f g e i h rest = ap (λ w. placed w variant f rest) e ∙ ap₂ (λ v w. Node v w rest) i (h End)

node_parse_mapped : {X Y : Type 0} (g : X → Y) (f : Y → Role → Parameters → ParseTree → ParseTree) (s : Settings) (y : AnyNode-F X) (role : Role) (c : Parameters) (rest : ParseTree) →
    node_parse f s (map-AnyNode X Y g y) role c rest ≡ node_parse (λ x. f (g x)) s y role c rest
unfolding node_parse
node_parse_mapped {X} {Y} g f s y role c rest =
    placed_alike (is_inlined role (map-AnyNode X Y g y)) (is_inlined role y) _ _ (form_parse f s (node_form false c (map-AnyNode X Y g y) role)) (form_parse (λ x. f (g x)) s (node_form false c y role)) (inlined_mapped g role y) (variant_mapped g y role)
    (λ r. ap (λ a. form_parse f s a r) (node_mapped g false c y role) ∙ form_parse_mapped g f s (node_form false c y role) r) rest

parse_rolled : (s : Settings) (y : AnyNode-F AnyNode) (role : Role) (c : Parameters) (rest : ParseTree) → parse s (roll-AnyNode y) role c rest ≡ node_parse (parse s) s y role c rest
unfolding parse
parse_rolled s y role c rest =
    ap (λ f. f role c rest) (fold-roll-AnyNode (Role → Parameters → ParseTree → ParseTree) (node_parse (λ known. known) s) y)
    ∙ node_parse_mapped (fold-AnyNode (Role → Parameters → ParseTree → ParseTree) (node_parse (λ known. known) s)) (λ known. known) s y role c rest

parse_at : (s : Settings) (n : AnyNode) (role : Role) (c : Parameters) (rest : ParseTree) → parse s n role c rest ≡ node_parse (parse s) s (out-AnyNode n) role c rest
parse_at s n role c rest = ap (λ z. parse s z role c rest) (sym (roll-out-AnyNode n)) ∙ parse_rolled s (out-AnyNode n) role c rest

pub expr_parse_at : (s : Settings) (c : Parameters) (a : Expr AnyNode) (rest : ParseTree) → expr_before s c a rest ≡ Node (expr_variant a) (form_parse (parse s) s (expr_form false false c a) End) rest
unfolding node_parse placed is_inlined node_variant node_form
expr_parse_at s c a rest = ap (λ x. parse s x Expression c rest) (sym (whole.rolls-Expr a)) ∙ parse_rolled s (nodes.Expr a) Expression c rest

-- ---- the two productions of a node say the same

abbrev ParsesSame : {X : Type 0} → (X → Role → Parameters → ParseTree → ParseTree) → Settings → Form X → Form X → Type 0
ParsesSame f s a b = (rest : ParseTree) → form_parse f s a rest ≡ form_parse f s b rest

expr_same : {X : Type 0} (f : X → Role → Parameters → ParseTree → ParseTree) (s : Settings) (keeps called : Bool) (c : Parameters) (n : Expr X) → ParsesSame f s (expr_form keeps called c n) (expr_form keeps false c n)
unfolding expr_form member_form tagged_form form_parse
expr_same f s keeps called c (exprs.Member n) rest = refl
expr_same f s keeps called c n rest = refl

field_same : {X : Type 0} (f : X → Role → Parameters → ParseTree → ParseTree) (s : Settings) (called : Bool) (c : Parameters) (n : Expr X) →
    ParsesSame f s (field_expr_form (expr_form false called c n) n) (field_expr_form (expr_form false false c n) n)
unfolding field_expr_form expr_form member_form tagged_form form_parse
field_same f s called c (exprs.Seq n) rest = refl
field_same f s called c (exprs.Member n) rest = refl
field_same f s called c n rest = refl

last_same : {X : Type 0} (f : X → Role → Parameters → ParseTree → ParseTree) (s : Settings) (comma : Bool) (c : Parameters) (o : Option (PatBox X)) →
    ParsesSame f s (pat_elements_form comma c (o ∷ [])) (pat_elements_form false c (o ∷ []))
unfolding pat_elements_form pat_element_form form_parse
last_same f s comma c None rest = refl
last_same f s comma c (Some n) rest = refl

after_last_same : {X : Type 0} (f : X → Role → Parameters → ParseTree → ParseTree) (s : Settings) (comma : Bool) (c : Parameters) (o : Option (PatBox X)) →
    ParsesSame f s (pat_elements_after comma c (o ∷ [])) (pat_elements_after false c (o ∷ []))
unfolding pat_elements_after pat_element_form form_parse
after_last_same f s comma c None rest = refl
after_last_same f s comma c (Some n) rest = refl

elements_after_same : {X : Type 0} (f : X → Role → Parameters → ParseTree → ParseTree) (s : Settings) (comma : Bool) (c : Parameters) (xs : List (Option (PatBox X))) →
    ParsesSame f s (pat_elements_after comma c xs) (pat_elements_after false c xs)
unfolding pat_elements_after form_parse
elements_after_same f s comma c [] rest = refl
elements_after_same f s comma c (x ∷ []) rest = after_last_same f s comma c x rest
elements_after_same f s comma c (x ∷ y ∷ xs) rest = ap (λ z. read_all (phrase_tokens s (mark (codes ","))) (form_parse f s (pat_element_form nt.PatternElement c x) z)) (elements_after_same f s comma c (y ∷ xs) rest)

elements_same : {X : Type 0} (f : X → Role → Parameters → ParseTree → ParseTree) (s : Settings) (comma : Bool) (c : Parameters) (xs : List (Option (PatBox X))) →
    ParsesSame f s (pat_elements_form comma c xs) (pat_elements_form false c xs)
unfolding pat_elements_form form_parse
elements_same f s comma c [] rest = refl
elements_same f s comma c (x ∷ []) rest = last_same f s comma c x rest
elements_same f s comma c (x ∷ y ∷ xs) rest = ap (form_parse f s (pat_element_form nt.PatternElement c x)) (elements_after_same f s comma c (y ∷ xs) rest)

closing_same : {X A : Type 0} (f : X → Role → Parameters → ParseTree → ParseTree) (s : Settings) (comma : Bool) (close : Closing) (xs : List A) → ParsesSame f s (closing_form comma close xs) (closing_form false close xs)
unfolding closing_form form_parse
closing_same f s comma close [] rest = refl
closing_same f s comma close (x ∷ xs) rest = refl

end_same : {X A : Type 0} (f : X → Role → Parameters → ParseTree → ParseTree) (s : Settings) (comma hole : Bool) (xs : List A) → ParsesSame f s (elements_end_form comma hole xs) (elements_end_form false hole xs)
unfolding elements_end_form form_parse
end_same f s comma true xs rest = refl
end_same f s comma false xs rest = closing_same f s comma RightBracket xs rest

array_same : {X : Type 0} (f : X → Role → Parameters → ParseTree → ParseTree) (s : Settings) (comma : Bool) (c : Parameters) (n : ArrayPat X) → ParsesSame f s (array_pat_form comma c n) (array_pat_form false c n)
unfolding array_pat_form form_parse
array_same f s comma c n rest =
    ap (read_all (phrase_tokens s (mark (codes "["))))
    (elements_same f s comma c n.elems.items _
    ∙ ap (form_parse f s (pat_elements_form false c n.elems.items)) (end_same f s comma (last_is_hole n.elems.items) n.elems.items _))

prop_same : {X : Type 0} (f : X → Role → Parameters → ParseTree → ParseTree) (s : Settings) (b k : Bool) (c : Parameters) (n : ObjectPatProp X) → ParsesSame f s (pat_prop_form b c n) (pat_prop_form k c n)
unfolding pat_prop_form form_parse
prop_same f s b k c (pat_props.KeyValue n) rest = refl
prop_same f s b k c (pat_props.Assign n) rest = refl
prop_same f s b k c (pat_props.Rest n) rest = refl

props_after_same : {X : Type 0} (f : X → Role → Parameters → ParseTree → ParseTree) (s : Settings) (comma : Bool) (c : Parameters) (xs : List (ObjectPatProp X)) →
    ParsesSame f s (pat_props_after comma c xs) (pat_props_after false c xs)
unfolding pat_props_after form_parse read_all phrase_tokens
props_after_same f s comma c [] rest = refl
props_after_same f s comma c (x ∷ []) rest = ap (read_all (phrase_tokens s (mark (codes ",")))) (prop_same f s (not comma) true c x rest)
props_after_same f s comma c (x ∷ y ∷ xs) rest = ap (λ z. read_all (phrase_tokens s (mark (codes ","))) (form_parse f s (pat_prop_form false c x) z)) (props_after_same f s comma c (y ∷ xs) rest)

props_same : {X : Type 0} (f : X → Role → Parameters → ParseTree → ParseTree) (s : Settings) (comma : Bool) (c : Parameters) (xs : List (ObjectPatProp X)) → ParsesSame f s (pat_props_form comma c xs) (pat_props_form false c xs)
unfolding pat_props_form form_parse read_all phrase_tokens
props_same f s comma c [] rest = refl
props_same f s comma c (x ∷ []) rest = prop_same f s (not comma) true c x rest
props_same f s comma c (x ∷ y ∷ xs) rest = ap (form_parse f s (pat_prop_form false c x)) (props_after_same f s comma c (y ∷ xs) rest)

object_same : {X : Type 0} (f : X → Role → Parameters → ParseTree → ParseTree) (s : Settings) (comma : Bool) (c : Parameters) (n : ObjectPat X) → ParsesSame f s (object_pat_form comma c n) (object_pat_form false c n)
unfolding object_pat_form form_parse
object_same f s comma c n rest =
    ap (read_all (phrase_tokens s (mark (codes "{"))))
    (props_same f s comma c n.props.items _ ∙ ap (form_parse f s (pat_props_form false c n.props.items)) (closing_same f s comma RightBrace n.props.items _))

pat_same : {X : Type 0} (f : X → Role → Parameters → ParseTree → ParseTree) (s : Settings) (comma : Bool) (c : Parameters) (n : Pat X) → ParsesSame f s (pat_form comma c n) (pat_form false c n)
unfolding pat_form
pat_same f s comma c (pats.Array n) rest = array_same f s comma c n rest
pat_same f s comma c (pats.Object n) rest = object_same f s comma c n rest
pat_same f s comma c n rest = refl

target_same : {X : Type 0} (f : X → Role → Parameters → ParseTree → ParseTree) (s : Settings) (comma : Bool) (c : Parameters) (n : AssignTarget X) → ParsesSame f s (target_form comma c n) (target_form false c n)
unfolding target_form target_pat_form
target_same f s comma c (targets.Simple n) rest = refl
target_same f s comma c (targets.Pat (target_pats.Array n)) rest = array_same f s comma (of_targets c) n rest
target_same f s comma c (targets.Pat (target_pats.Object n)) rest = object_same f s comma (of_targets c) n rest
target_same f s comma c (targets.Pat (target_pats.Invalid n)) rest = refl

part_same : {X : Type 0} (f : X → Role → Parameters → ParseTree → ParseTree) (s : Settings) (comma : Bool) (c : Parameters) (n : ExprPart X) (role : Role) → ParsesSame f s (part_form comma c n role) (part_form false c n role)
unfolding part_form
part_same f s comma c (expr_parts.Pat n) Pattern rest = pat_same f s comma c n rest
part_same f s comma c (expr_parts.AssignTarget n) AssignmentTarget rest = target_same f s comma c n rest
part_same f s comma c n role rest = refl

forms_same : {X : Type 0} (f : X → Role → Parameters → ParseTree → ParseTree) (s : Settings) (called : Bool) (c : Parameters) (y : AnyNode-F X) (role : Role) → ParsesSame f s (node_form called c y role) (node_form false c y role)
unfolding node_form
forms_same f s called c (nodes.Expr n) Expression rest = expr_same f s false called c n rest
forms_same f s called c (nodes.Expr n) Callee rest = expr_same f s true called c n rest
forms_same f s called c (nodes.Expr n) FieldValue rest = field_same f s called c n rest
forms_same f s called c (nodes.ExprPart n) role rest = part_same f s called c n role rest
forms_same f s called c y role rest = refl

-- ---- an empty statement says that it is one

empty_variant : {X : Type 0} (y : AnyNode-F X) → is_empty_variant (node_variant y Statement) ≡ is_empty_node y
unfolding is_empty_variant node_variant part_variant stmt_variant decl_variant is_empty_node is_empty
empty_variant (nodes.Stmt (stmts.Decl (decls.Var n))) = refl
empty_variant (nodes.Stmt (stmts.Decl n)) = refl
empty_variant (nodes.Stmt (stmts.Empty n)) = refl
empty_variant (nodes.Stmt n) = refl
empty_variant (nodes.ExprPart (expr_parts.Pat n)) = refl
empty_variant (nodes.ExprPart n) = refl
empty_variant y = refl

empty_parsed : (s : Settings) (n : AnyNode) (c : Parameters) → is_empty_parse (parse s n Statement c End) ≡ is_empty_node (out-AnyNode n)
unfolding is_empty_parse node_parse placed is_inlined
empty_parsed s n c = ap is_empty_parse (parse_at s n Statement c End) ∙ empty_variant (out-AnyNode n)

-- ---- derivations

read_on : (us vs : List Token) (rest : ParseTree) → read_all (us ++ vs) rest ≡ read_all us (read_all vs rest)
unfolding read_all
read_on [] vs rest = refl
read_on (u ∷ us) vs rest = ap (Read u) (read_on us vs rest)

all_settled : (ts : List Token) (rest : ParseTree) → settled (read_all ts rest) ≡ read_all ts (settled rest)
unfolding read_all settled
all_settled [] rest = refl
all_settled (t ∷ ts) rest = ap (Read t) (all_settled ts rest)

phrase_settled : (s : Settings) (p : Phrase) (ts : List Token) (g : Generates s p ts) (rest : ParseTree) → settled (read_phrase s p ts g rest) ≡ read_all (phrase_tokens s p) (settled rest)
unfolding Generates read_phrase read_all phrase_tokens settled
phrase_settled s Never ts g rest = absurd g
phrase_settled s Nothing ts g rest = refl
phrase_settled s (One x) ts g rest = refl
phrase_settled s (NameOf at bytes) ts g rest = refl
phrase_settled s (KeyOf at bytes) ts g rest = refl
phrase_settled s (PrivateOf bytes) ts g rest = refl
phrase_settled s (TagNameOf at bytes) ts g rest = refl
phrase_settled s (Then a b) ts (us, vs, x, y, e) rest =
    phrase_settled s a us x (read_phrase s b vs y rest) ∙ ap (read_all (phrase_tokens s a)) (phrase_settled s b vs y rest) ∙ sym (read_on (phrase_tokens s a) (phrase_tokens s b) (settled rest))
phrase_settled s (CommaBefore close) ts (inl e) rest = refl
phrase_settled s (CommaBefore close) ts (inr e) rest = refl
phrase_settled s (OptionalParentheses round a) ts (inl x) rest = phrase_settled s a ts x rest
phrase_settled s (OptionalParentheses round a) ts (inr (us, x, e)) rest = phrase_settled s a us x (Optional close_parenthesis rest)
phrase_settled s (Chosen choice) ts g rest = all_settled (chosen s choice) rest

placed_settled : (b : Bool) (variant : Variant) (f g : ParseTree → ParseTree) → ((rest : ParseTree) → settled (f rest) ≡ g (settled rest)) → (rest : ParseTree) → settled (placed b variant f rest) ≡ placed b variant g (settled rest)
unfolding placed settled
placed_settled true variant f g h rest = h rest
placed_settled false variant f g h rest = ap (λ z. Node variant z (settled rest)) (h End)

pub derived_settled : {s : Settings} {a : Form AnyNode} {ts : List Token} (d : Derives core s a ts) (rest : ParseTree) → settled (derived_parse d rest) ≡ form_parse (parse s) s a (settled rest)
unfolding derived_parse form_parse node_parse settled
derived_settled {s = s} (fixed {p = p} {ts = ts} g) rest = phrase_settled s p ts g rest
derived_settled {s = s} (part {c = c} {role = role} {n = n} called st d) rest =
    placed_settled (is_inlined role (out-AnyNode n)) (node_variant (out-AnyNode n) role) (derived_parse d) (form_parse (parse s) s (node_form false c (out-AnyNode n) role))
    (λ r. derived_settled d r ∙ forms_same (parse s) s called c (out-AnyNode n) role (settled r)) rest
    ∙ sym (parse_at s n role c (settled rest))
derived_settled (simple x d) rest = derived_settled d rest
derived_settled (shaped x d) rest = derived_settled d rest
derived_settled (restricted x d) rest = derived_settled d rest
derived_settled (lone x d) rest = derived_settled d rest
derived_settled (lone_in_parentheses d) rest = derived_settled d (Optional close_parenthesis rest)
derived_settled {s = s} (both {a = a} d e) rest = derived_settled d (derived_parse e rest) ∙ ap (form_parse (parse s) s a) (derived_settled e rest)
derived_settled (provided x d) rest = derived_settled d rest
derived_settled closed rest = refl
derived_settled comma_closed rest = refl
derived_settled {s = s} (followed {c = c} {n = n} {next = next} d) rest =
    derived_settled d rest ∙ ap (λ b. parse s n Statement (before b c) (settled rest)) (sym (empty_parsed s next c))
derived_settled (bare d) rest = derived_settled d rest
