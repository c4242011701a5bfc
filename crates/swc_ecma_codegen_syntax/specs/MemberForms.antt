-- Members and their properties, templates and tags: one production a node, with nonterminals. ECMA-262, section 13.3.
use Rattle.std.specs.Prelude.{Bool, false, codes, Option, Some, None, if◌then◌else◌}
use Rattle.swc_ecma_codegen_tree.specs.Links.{ExprBox, TsTypeAnnBox, TsTypeParamInstantiationBox}
use Rattle.swc_ecma_codegen_tree.specs.declared.exprs.MemberExpr.{MemberExpr}
use Rattle.swc_ecma_codegen_tree.specs.declared.exprs.MemberProp.{MemberProp}
use Rattle.swc_ecma_codegen_tree.specs.declared.exprs.MemberProp.TheVariants as member_props
use Rattle.swc_ecma_codegen_tree.specs.declared.exprs.SuperPropExpr.{SuperPropExpr}
use Rattle.swc_ecma_codegen_tree.specs.declared.exprs.SuperProp.{SuperProp}
use Rattle.swc_ecma_codegen_tree.specs.declared.exprs.SuperProp.TheVariants as super_props
use Rattle.swc_ecma_codegen_tree.specs.declared.exprs.OptChainExpr.{OptChainExpr}
use Rattle.swc_ecma_codegen_tree.specs.declared.exprs.OptChainBase.{OptChainBase}
use Rattle.swc_ecma_codegen_tree.specs.declared.exprs.OptChainBase.TheVariants as chain_bases
use Rattle.swc_ecma_codegen_tree.specs.declared.exprs.ComputedPropName.{ComputedPropName}
use Rattle.swc_ecma_codegen_tree.specs.declared.exprs.TaggedTpl.{TaggedTpl}
use Rattle.swc_ecma_codegen_grammar.specs.Phrases.{Nothing, ◌>◌, word, mark}
use Rattle.swc_ecma_codegen_grammar.specs.ExprPhrases.{chain_mark}
use Rattle.swc_ecma_codegen_grammar.specs.NamePhrases.{ident_name, private_name}
use Rattle.swc_ecma_codegen_grammar.specs.declared.roles.Role.TheVariants.{Expression, Callee, TaggedTemplate, ChainMember, ChainCall, Annotation, TypeArguments}
use Rattle.swc_ecma_codegen_syntax.specs.declared.nonterminals.Nonterminal.{Nonterminal}
use Rattle.swc_ecma_codegen_syntax.specs.declared.nonterminals.Nonterminal.TheVariants as nt
use Rattle.swc_ecma_codegen_syntax.specs.declared.parameters.Parameters.{Parameters}
use Rattle.swc_ecma_codegen_syntax.specs.Parameters.{with_in}
use Rattle.swc_ecma_codegen_syntax.specs.Forms.{Form, Fixed, Part, Provided, ByScope, ◌⇢◌}

abbrev pub expr_part : {X : Type 0} → Nonterminal → Parameters → ExprBox X → Form X
expr_part place c n = Part place c Expression n.node.value

abbrev pub callee_part : {X : Type 0} → Nonterminal → Parameters → ExprBox X → Form X
callee_part place c n = Part place c Callee n.node.value

-- types have no production here
unfoldable pub annotation_form : {X : Type 0} → Parameters → Option (TsTypeAnnBox X) → Form X
annotation_form c None = Fixed Nothing
annotation_form c (Some n) = Provided ByScope false (Fixed (mark (codes ":")) ⇢ Part nt.Uncovered c Annotation n.node.value)

unfoldable pub type_args_form : {X : Type 0} → Parameters → Option (TsTypeParamInstantiationBox X) → Form X
type_args_form c None = Fixed Nothing
type_args_form c (Some n) = Provided ByScope false (Part nt.Uncovered c TypeArguments n.node.value)

-- `[ Expression ]`
unfoldable pub computed_form : {X : Type 0} → Nonterminal → Parameters → ComputedPropName X → Form X
computed_form place c n = Fixed (mark (codes "[")) ⇢ expr_part place (with_in c) n.expr ⇢ Fixed (mark (codes "]"))

-- 13.3.2: `. IdentifierName`, `. PrivateIdentifier`, `[ Expression ]`
unfoldable pub prop_form : {X : Type 0} → Parameters → MemberProp X → Form X
prop_form c (member_props.Ident n) = Fixed (mark (codes ".") > ident_name n)
prop_form c (member_props.PrivateName n) = Fixed (mark (codes ".") > private_name n)
prop_form c (member_props.Computed n) = computed_form nt.Expression c n

-- MemberExpression : MemberExpression . a; CallExpression : CallExpression . a
unfoldable pub member_form : {X : Type 0} → Nonterminal → Parameters → MemberExpr X → Form X
member_form place c n = callee_part place (with_in c) n.obj ⇢ prop_form c n.prop

-- 13.3.7: SuperProperty, a MemberExpression
unfoldable pub super_form : {X : Type 0} → Parameters → SuperProp X → Form X
super_form c (super_props.Ident n) = Fixed (mark (codes ".") > ident_name n)
super_form c (super_props.Computed n) = computed_form nt.Expression c n

unfoldable pub super_prop_form : {X : Type 0} → Parameters → SuperPropExpr X → Form X
super_prop_form c n = Fixed (word (codes "super")) ⇢ super_form c n.prop

-- 13.3.11: MemberExpression TemplateLiteral, CallExpression TemplateLiteral
unfoldable pub tagged_form : {X : Type 0} → Nonterminal → Parameters → TaggedTpl X → Form X
tagged_form place c n =
    callee_part place (with_in c) n.tag ⇢ type_args_form c n.type_params ⇢ Part nt.TemplateLiteral (with_in c) TaggedTemplate n.tpl.node.value

-- 13.3.9: OptionalChain. Its first link stands behind a MemberExpression, a CallExpression or an OptionalExpression, with `?.`; a later one
-- behind the link before it, `OptionalChain . a`, which the tree has as an OptChain of its own.
abbrev pub chained : Bool → Nonterminal
chained optional = if optional then nt.ChainBase else nt.OptionalExpression

unfoldable pub chain_prop_form : {X : Type 0} → Parameters → MemberProp X → Form X
chain_prop_form c (member_props.Ident n) = Fixed (ident_name n)
chain_prop_form c (member_props.PrivateName n) = Fixed (private_name n)
chain_prop_form c (member_props.Computed n) = computed_form nt.Expression c n

unfoldable pub chain_member_form : {X : Type 0} → Parameters → Bool → MemberExpr X → Form X
chain_member_form c optional n = callee_part (chained optional) (with_in c) n.obj ⇢ Fixed (chain_mark optional n.prop) ⇢ chain_prop_form c n.prop

unfoldable pub chain_base_form : {X : Type 0} → Parameters → Bool → OptChainBase X → Form X
chain_base_form c optional (chain_bases.Member n) = Part nt.OptionalChain c (ChainMember optional) n.node.value
chain_base_form c optional (chain_bases.Call n) = Part nt.OptionalChain c (ChainCall optional) n.node.value

unfoldable pub opt_chain_form : {X : Type 0} → Parameters → OptChainExpr X → Form X
opt_chain_form c n = chain_base_form c n.optional n.base
