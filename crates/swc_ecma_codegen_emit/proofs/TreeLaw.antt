-- What is written of a whole tree is what it reads as.
use Rattle.std.proofs.Common.{◌≡◌, ℕ, false, true, refl, sym, subst, Option, None}
use denote.Hole.Holds.{Such}
use Rattle.swc_ecma_codegen_tree.specs.declared.links.AnyNode.{AnyNode, AnyNode-F, ind-AnyNode, map-AnyNode, roll-AnyNode}
use Rattle.swc_ecma_codegen_tree.specs.declared.links.AnyNode.TheOpen as nodes
use Rattle.swc_ecma_codegen_tree.specs.declared.links.AnyNode.TheBlock.{the_family, member-AnyNode}
use Rattle.swc_ecma_codegen_tree.specs.declared.links.AnyNode.TheFolds.{claims}
use Rattle.swc_ecma_codegen_grammar.specs.Phrases.{Phrase}
use Rattle.swc_ecma_codegen_grammar.specs.declared.roles.Role.{Role}
use Rattle.swc_ecma_codegen_grammar.specs.declared.roles.Role.TheVariants.{Expression, Callee as IsCallee, FieldValue as ValueOfField, Statement, MemberExpression, ChainMember}
use Rattle.swc_ecma_codegen_grammar.specs.TreePhrases.{node_phrase, phrase}
use Rattle.swc_ecma_codegen_grammar.proofs.TreeLaws.{phrase_of}
use Rattle.swc_ecma_codegen_tokens.specs.Run.{Env, Part}
use Rattle.swc_ecma_codegen_tokens.proofs.Filling.Lengths.{at_length}
use Rattle.swc_ecma_codegen_tokens.proofs.Jsx.TagPrints.{prints_never_on}
use Rattle.swc_ecma_codegen_emit.specs.declared.nodes.Context.{Context}
use Rattle.swc_ecma_codegen_emit.specs.declared.nodes.Context.TheVariants.{Object, DottedObject, Callee, FieldValue}
use Rattle.swc_ecma_codegen_emit.specs.Answers.{any_answers}
use Rattle.swc_ecma_codegen_emit.proofs.Unbroken.{unbroken}
use Rattle.swc_ecma_codegen_grammar.specs.CommentMaps.{Maps}
use Rattle.swc_ecma_codegen_grammar.specs.Comments.{maps_in, no_maps}
use Rattle.swc_ecma_codegen_emit.specs.Exprs.{member_at}
use Rattle.swc_ecma_codegen_emit.specs.AnyExpr.{is_field_value}
use Rattle.swc_ecma_codegen_emit.specs.Calls.{keeps_arguments}
use Rattle.swc_ecma_codegen_emit.specs.Places.{Place, placed, outside, inside, context_of}
use Rattle.swc_ecma_codegen_emit.specs.Tree.{node_items, any_items}
use Rattle.swc_ecma_codegen_emit.proofs.MappedNodes.{items_of}
use Rattle.swc_ecma_codegen_emit.proofs.Linked.{Linked, PrintsIn}
use Rattle.swc_ecma_codegen_emit.proofs.ExprParts.{member_prints, chain_member_prints}
use Rattle.swc_ecma_codegen_emit.proofs.AnyExprParts.{plain_expr_prints, callee_expr_prints, unwrapped_prints, field_value_prints}
use Rattle.swc_ecma_codegen_emit.proofs.JsxParts.{jsx_part_prints}
use Rattle.swc_ecma_codegen_emit.proofs.PartLaws.{part_prints, stmt_part_prints, ts_part_prints}
use Rattle.swc_ecma_codegen_emit.proofs.PatternLaws.{plain_reads}
use Rattle.swc_ecma_codegen_emit.proofs.StmtParts.{stmt_prints}

-- `new A()` keeps its parentheses inside of a callee alone
outside_leaves : (context : Context) → keeps_arguments (outside context) ≡ false
outside_leaves Object = refl
outside_leaves (DottedObject prop) = refl
outside_leaves Callee = refl
outside_leaves FieldValue = refl
outside_leaves context = refl

inside_keeps : (context : Context) → keeps_arguments (inside context) ≡ true
inside_keeps Object = refl
inside_keeps (DottedObject prop) = refl
inside_keeps context = refl

-- neither of the two is the place of a field's value
outside_elsewhere : (context : Context) → is_field_value (outside context) ≡ false
unfolding is_field_value
outside_elsewhere Object = refl
outside_elsewhere (DottedObject prop) = refl
outside_elsewhere Callee = refl
outside_elsewhere FieldValue = refl
outside_elsewhere context = refl

inside_elsewhere : (context : Context) → is_field_value (inside context) ≡ false
unfolding is_field_value
inside_elsewhere Object = refl
inside_elsewhere (DottedObject prop) = refl
inside_elsewhere context = refl

-- one node, in its role: in any other it is Never
node_prints : {X : Type 0} (l : Linked X) (n : AnyNode-F X) (place : Place) (role : Role) → PrintsIn role place l.env (node_items l.asks l.items n (placed role place)) (node_phrase l.reads n role)
unfolding node_items node_phrase member_at
node_prints l (nodes.Expr n) place Expression = unwrapped_prints l n (outside (context_of place)) (outside_elsewhere (context_of place)) (plain_expr_prints l n (outside (context_of place)) (outside_leaves (context_of place)))
node_prints l (nodes.Expr n) place IsCallee = unwrapped_prints l n (inside (context_of place)) (inside_elsewhere (context_of place)) (callee_expr_prints l n (inside (context_of place)) (inside_keeps (context_of place)))
node_prints l (nodes.Expr n) place ValueOfField = field_value_prints l n
node_prints l (nodes.Stmt n) place Statement = stmt_prints l n
node_prints l (nodes.MemberExpr n) place MemberExpression = member_prints l n
node_prints l (nodes.MemberExpr n) place (ChainMember true) = chain_member_prints l true n
node_prints l (nodes.MemberExpr n) place (ChainMember false) = chain_member_prints l false n
node_prints l (nodes.ExprPart n) place role = part_prints l n place role
node_prints l (nodes.StmtPart n) place role = stmt_part_prints l n place role
node_prints l (nodes.JSXPart n) place role = jsx_part_prints l n place role
node_prints l (nodes.TsPart n) place role = ts_part_prints l n place role
node_prints l n place role = prints_never_on

-- whatever the greatest length of lines, or where there is none
abbrev Law : Env → AnyNode → Type 0
Law env n = (max : Option ℕ) (place : Place) (role : Role) → PrintsIn role place (at_length max env) (any_items n (placed role place)) (phrase n role)

-- where there are no comments no line ends after one
pub never_breaks : (n : AnyNode) → (any_answers n).breaks no_maps ≡ false
unfolding any_answers maps_in
never_breaks n = sym (unbroken {C = Maps} (λ m. m) None n refl)

-- nodes that a link of the tree holds, with the law of each
abbrev children : (max : Option ℕ) (env : Env) → env.keeps_invalid ≡ false → Linked (Such the_family (claims (Law env)) member-AnyNode)
children max env e = record { env = at_length max env; leaves_out = e; asks = λ y. any_answers y.0; items = λ y. any_items y.0; reads = λ y. phrase y.0; plain = λ y. plain_reads y.0; quiet = λ y. never_breaks y.0; law = λ y. y.1 max; inside = λ y. y.1 None }

prints_at : (env : Env) → env.keeps_invalid ≡ false → (n : AnyNode) → Law env n
prints_at env e = ind-AnyNode (Law env) (λ x y q. subst (λ z. Law env (roll-AnyNode z)) q (λ max place role.
    let here = node_prints (children max env e) y place role in
    let P : Phrase → Type 0 = λ f. PrintsIn role place (at_length max env) (node_items (λ z. any_answers z.0) (λ z. any_items z.0) y (placed role place)) f in
    let Q : Part → Type 0 = λ p. PrintsIn role place (at_length max env) p (phrase (roll-AnyNode (map-AnyNode _ _ (λ z. z.0) y)) role) in
    subst Q (sym (items_of (λ z. z.0) y (placed role place))) (subst P (sym (phrase_of (λ z. z.0) y role)) here)))

pub prints : (env : Env) → env.keeps_invalid ≡ false → (n : AnyNode) (place : Place) (role : Role) → PrintsIn role place env (any_items n (placed role place)) (phrase n role)
prints env e n = prints_at env e n env.max_line

-- the nodes of a whole tree
abbrev pub known : (env : Env) → env.keeps_invalid ≡ false → Linked AnyNode
known env e = record { env = env; leaves_out = e; asks = any_answers; items = any_items; reads = phrase; plain = plain_reads; quiet = never_breaks; law = prints env e; inside = prints (at_length None env) e }
