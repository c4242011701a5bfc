-- What a node looks like, where a place asks for more than a nonterminal: a fold over the tree.
use Rattle.std.specs.Prelude.{Bool, true, false, ◌&&◌, List, [], ◌∷◌, if◌then◌else◌}
use Rattle.swc_ecma_codegen_tree.specs.declared.links.AnyNode.{AnyNode, AnyNode-F, fold-AnyNode}
use Rattle.swc_ecma_codegen_tree.specs.declared.links.AnyNode.TheOpen as nodes
use Rattle.swc_ecma_codegen_tree.specs.declared.exprs.Expr.{Expr}
use Rattle.swc_ecma_codegen_tree.specs.declared.exprs.Expr.TheVariants as exprs
use Rattle.swc_ecma_codegen_tree.specs.declared.exprs.Callee.{Callee}
use Rattle.swc_ecma_codegen_tree.specs.declared.exprs.Callee.TheVariants as callees
use Rattle.swc_ecma_codegen_tree.specs.declared.exprs.MemberProp.{MemberProp}
use Rattle.swc_ecma_codegen_tree.specs.declared.exprs.MemberProp.TheVariants as member_props
use Rattle.swc_ecma_codegen_tree.specs.declared.exprs.ObjectLit.{ObjectLit}
use Rattle.swc_ecma_codegen_tree.specs.declared.exprs.Prop.{Prop}
use Rattle.swc_ecma_codegen_tree.specs.declared.exprs.Prop.TheVariants as props
use Rattle.swc_ecma_codegen_tree.specs.declared.exprs.PropName.{PropName}
use Rattle.swc_ecma_codegen_tree.specs.declared.exprs.PropName.TheVariants as prop_names
use Rattle.swc_ecma_codegen_tree.specs.declared.exprs.PropOrSpread.{PropOrSpread}
use Rattle.swc_ecma_codegen_tree.specs.declared.exprs.PropOrSpread.TheVariants as prop_or_spreads
use Rattle.swc_ecma_codegen_tree.specs.declared.lits.Lit.{Lit}
use Rattle.swc_ecma_codegen_tree.specs.declared.lits.Lit.TheVariants as lits
use Rattle.swc_ecma_codegen_tree.specs.declared.parts.ExprPart.{ExprPart}
use Rattle.swc_ecma_codegen_tree.specs.declared.parts.ExprPart.TheVariants as expr_parts
use Rattle.swc_ecma_codegen_syntax.specs.declared.verdicts.Shape.{Shape}
use Rattle.swc_ecma_codegen_syntax.specs.declared.verdicts.Shape.TheVariants as shapes

unfoldable pub is_attribute : Shape → Bool
is_attribute shapes.Attribute = true
is_attribute shape = false

-- names with dots between are what a decorator may be too
unfoldable pub is_path : Shape → Bool
is_path shapes.Path = true
is_path shape = false

unfoldable pub is_decorator : Shape → Bool
is_decorator shapes.Decorator = true
is_decorator shape = is_path shape

-- a node of the second shape stands where the first is asked for
unfoldable pub fits : Shape → Shape → Bool
fits shapes.Attribute = is_attribute
fits shapes.Path = is_path
fits shapes.Decorator = is_decorator
fits shapes.Other = λ shape. true

unfoldable pub attribute_if : Bool → Shape
attribute_if true = shapes.Attribute
attribute_if false = shapes.Other

unfoldable pub lit_shape : Lit → Shape
lit_shape (lits.Str n) = shapes.Attribute
lit_shape n = shapes.Other

-- a name, or a member of one, with a dot
unfoldable pub path_if : Bool → Shape
path_if true = shapes.Path
path_if false = shapes.Other

unfoldable pub member_shape : {X : Type 0} → Shape → MemberProp X → Shape
member_shape object (member_props.Computed n) = shapes.Other
member_shape object n = path_if (is_path object)

-- a call of these
unfoldable pub decorator_if : Bool → Shape
decorator_if true = shapes.Decorator
decorator_if false = shapes.Other

unfoldable pub callee_shape : {X : Type 0} → (X → Shape) → Callee X → Shape
callee_shape f (callees.Expr n) = decorator_if (is_path (f n.node.value))
callee_shape f n = shapes.Other

-- Decorator : @ DecoratorMemberExpression, @ DecoratorParenthesizedExpression, @ DecoratorCallExpression: a proposal, decorators
unfoldable pub expr_shape : {X : Type 0} → (X → Shape) → Expr X → Shape
expr_shape f (exprs.Ident n) = shapes.Path
expr_shape f (exprs.Member n) = member_shape (f n.obj.node.value) n.prop
expr_shape f (exprs.Call n) = callee_shape f n.callee
expr_shape f (exprs.Paren n) = shapes.Decorator
expr_shape f (exprs.Lit n) = lit_shape n
expr_shape f n = shapes.Other

-- AttributeKey : IdentifierName, StringLiteral: ECMA-262, 2025, section 16.2.2
unfoldable pub is_attribute_key : {X : Type 0} → PropName X → Bool
is_attribute_key (prop_names.Ident n) = true
is_attribute_key (prop_names.Str n) = true
is_attribute_key n = false

-- WithEntries : AttributeKey `:` StringLiteral
unfoldable pub is_attribute_prop : {X : Type 0} → (X → Shape) → Prop X → Bool
is_attribute_prop f (props.KeyValue n) = is_attribute_key n.key && is_attribute (f n.value.node.value)
is_attribute_prop f n = false

unfoldable pub is_attribute_entry : {X : Type 0} → (X → Shape) → PropOrSpread X → Bool
is_attribute_entry f (prop_or_spreads.Prop n) = is_attribute_prop f n
is_attribute_entry f (prop_or_spreads.Spread n) = false

unfoldable pub are_attributes : {X : Type 0} → (X → Shape) → List (PropOrSpread X) → Bool
are_attributes f [] = true
are_attributes f (x ∷ xs) = is_attribute_entry f x && are_attributes f xs

unfoldable pub part_shape : {X : Type 0} → (X → Shape) → ExprPart X → Shape
part_shape f (expr_parts.ObjectLit n) = attribute_if (are_attributes f n.props.items)
part_shape f n = shapes.Other

-- where `f` says it of what links hold
unfoldable pub node_shape : {X : Type 0} → (X → Shape) → AnyNode-F X → Shape
node_shape f (nodes.Expr n) = expr_shape f n
node_shape f (nodes.ExprPart n) = part_shape f n
node_shape f n = shapes.Other

unfoldable pub shape_of : AnyNode → Shape
shape_of = fold-AnyNode Shape (node_shape (λ known. known))
