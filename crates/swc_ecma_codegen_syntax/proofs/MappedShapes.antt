-- What a node looks like, over what links hold as something else.
use Rattle.std.proofs.Common.{◌≡◌, Bool, true, false, ◌&&◌, refl, ◌∙◌, ap, ap₂, List, [], ◌∷◌, map}
use Rattle.swc_ecma_codegen_tree.specs.declared.links.AnyNode.{AnyNode-F, map-AnyNode}
use Rattle.swc_ecma_codegen_tree.specs.declared.links.AnyNode.TheOpen as nodes
use Rattle.swc_ecma_codegen_tree.specs.declared.exprs.CallExpr.{CallExpr}
use Rattle.swc_ecma_codegen_tree.specs.declared.exprs.Callee.{Callee}
use Rattle.swc_ecma_codegen_tree.specs.declared.exprs.Callee.TheVariants as callees
use Rattle.swc_ecma_codegen_tree.specs.declared.exprs.Expr.{Expr}
use Rattle.swc_ecma_codegen_tree.specs.declared.exprs.Expr.TheVariants as exprs
use Rattle.swc_ecma_codegen_tree.specs.declared.exprs.MemberExpr.{MemberExpr}
use Rattle.swc_ecma_codegen_tree.specs.declared.exprs.MemberProp.{MemberProp}
use Rattle.swc_ecma_codegen_tree.specs.declared.exprs.MemberProp.TheVariants as member_props
use Rattle.swc_ecma_codegen_tree.specs.declared.exprs.Prop.{Prop}
use Rattle.swc_ecma_codegen_tree.specs.declared.exprs.Prop.TheVariants as props
use Rattle.swc_ecma_codegen_tree.specs.declared.exprs.PropName.{PropName}
use Rattle.swc_ecma_codegen_tree.specs.declared.exprs.PropName.TheVariants as prop_names
use Rattle.swc_ecma_codegen_tree.specs.declared.exprs.PropOrSpread.{PropOrSpread}
use Rattle.swc_ecma_codegen_tree.specs.declared.exprs.PropOrSpread.TheVariants as prop_or_spreads
use Rattle.swc_ecma_codegen_tree.specs.declared.parts.ExprPart.{ExprPart}
use Rattle.swc_ecma_codegen_tree.specs.declared.parts.ExprPart.TheVariants as expr_parts
use Rattle.swc_ecma_codegen_grammar.proofs.MappedProps.{each_prop, by_prop}
use Rattle.swc_ecma_codegen_syntax.specs.declared.verdicts.Shape.{Shape}
use Rattle.swc_ecma_codegen_syntax.specs.Shapes.{is_attribute, attribute_if, lit_shape, is_path, path_if, member_shape, decorator_if, callee_shape, expr_shape, is_attribute_key, is_attribute_prop, is_attribute_entry, are_attributes, part_shape, node_shape}

-- ---- expressions

member_by : {X Y : Type 0} (g : X → Y) (f : Y → Shape) (n : MemberExpr X) (prop : MemberProp X) →
    node_shape f (map-AnyNode X Y g (nodes.Expr (exprs.Member (record n { prop = prop })))) ≡ member_shape (f (g n.obj.node.value)) prop
unfolding node_shape expr_shape member_shape
member_by g f n (member_props.Ident p) = refl
member_by g f n (member_props.PrivateName p) = refl
member_by g f n (member_props.Computed p) = refl

call_by : {X Y : Type 0} (g : X → Y) (f : Y → Shape) (n : CallExpr X) (callee : Callee X) →
    node_shape f (map-AnyNode X Y g (nodes.Expr (exprs.Call (record n { callee = callee })))) ≡ callee_shape (λ x. f (g x)) callee
unfolding node_shape expr_shape callee_shape
call_by g f n (callees.Super p) = refl
call_by g f n (callees.Import p) = refl
call_by g f n (callees.Expr p) = refl

expr_mapped : {X Y : Type 0} (g : X → Y) (f : Y → Shape) (n : Expr X) → node_shape f (map-AnyNode X Y g (nodes.Expr n)) ≡ expr_shape (λ x. f (g x)) n
unfolding node_shape expr_shape
expr_mapped g f (exprs.Member n) = member_by g f n n.prop
expr_mapped g f (exprs.Call n) = call_by g f n n.callee
expr_mapped g f n = refl

-- ---- import attributes

attributes_mapped : {X Y : Type 0} (f : X → Shape) (e : Y → Shape) (h : PropOrSpread X → PropOrSpread Y) → ((n : PropOrSpread X) → is_attribute_entry e (h n) ≡ is_attribute_entry f n) → (xs : List (PropOrSpread X)) →
    are_attributes e (map h xs) ≡ are_attributes f xs
unfolding are_attributes
attributes_mapped f e h same [] = refl
attributes_mapped f e h same (x ∷ xs) = ap₂ (λ a b. a && b) (same x) (attributes_mapped f e h same xs)

abbrev key_in : {X : Type 0} → AnyNode-F X → Bool
key_in (nodes.ExprPart (expr_parts.PropName n)) = is_attribute_key n
key_in n = false

key_mapped : {X Y : Type 0} (g : X → Y) (n : PropName X) → key_in (map-AnyNode X Y g (nodes.ExprPart (expr_parts.PropName n))) ≡ is_attribute_key n
unfolding is_attribute_key
key_mapped g (prop_names.Ident n) = refl
key_mapped g (prop_names.Str n) = refl
key_mapped g (prop_names.Num n) = refl
key_mapped g (prop_names.BigInt n) = refl
key_mapped g (prop_names.Computed n) = refl

part_mapped : {X Y : Type 0} (g : X → Y) (f : Y → Shape) (n : ExprPart X) → node_shape f (map-AnyNode X Y g (nodes.ExprPart n)) ≡ part_shape (λ x. f (g x)) n
unfolding node_shape part_shape is_attribute_entry is_attribute_prop
part_mapped {X} {Y} g f (expr_parts.ObjectLit n) = ap attribute_if (attributes_mapped {X = X} {Y = Y} (λ x. f (g x)) f _ (each_prop {X = X} _ (λ m. refl) (by_prop {X = X} _
    (λ m. refl) (λ m. ap (λ a. a && is_attribute (f (g m.value.node.value))) (key_mapped g m.key)) (λ m. refl)
    (λ m. refl) (λ m body. refl) (λ m t. refl) (λ m t body. refl) (λ m. refl) (λ m body. refl) (λ m this. refl) (λ m this body. refl)
    (λ m. refl))) n.props.items)
part_mapped g f n = refl

pub shape_mapped : {X Y : Type 0} (g : X → Y) (f : Y → Shape) (n : AnyNode-F X) → node_shape f (map-AnyNode X Y g n) ≡ node_shape (λ x. f (g x)) n
unfolding node_shape
shape_mapped g f (nodes.Expr n) = expr_mapped g f n
shape_mapped g f (nodes.ExprPart n) = part_mapped g f n
shape_mapped g f n = refl

-- ---- by what links hold

callee_same : {X : Type 0} (d e : X → Shape) → ((x : X) → d x ≡ e x) → (n : Callee X) → callee_shape d n ≡ callee_shape e n
unfolding callee_shape
callee_same d e same (callees.Expr n) = ap (λ s. decorator_if (is_path s)) (same n.node.value)
callee_same d e same n = refl

expr_same : {X : Type 0} (d e : X → Shape) → ((x : X) → d x ≡ e x) → (n : Expr X) → expr_shape d n ≡ expr_shape e n
unfolding expr_shape
expr_same d e same (exprs.Member n) = ap (λ s. member_shape s n.prop) (same n.obj.node.value)
expr_same d e same (exprs.Call n) = callee_same d e same n.callee
expr_same d e same n = refl

prop_same : {X : Type 0} (d e : X → Shape) → ((x : X) → d x ≡ e x) → (n : Prop X) → is_attribute_prop d n ≡ is_attribute_prop e n
unfolding is_attribute_prop
prop_same d e same (props.KeyValue n) = ap (λ s. is_attribute_key n.key && is_attribute s) (same n.value.node.value)
prop_same d e same n = refl

entry_same : {X : Type 0} (d e : X → Shape) → ((x : X) → d x ≡ e x) → (n : PropOrSpread X) → is_attribute_entry d n ≡ is_attribute_entry e n
unfolding is_attribute_entry
entry_same d e same (prop_or_spreads.Prop n) = prop_same d e same n
entry_same d e same (prop_or_spreads.Spread n) = refl

entries_same : {X : Type 0} (d e : X → Shape) → ((x : X) → d x ≡ e x) → (xs : List (PropOrSpread X)) → are_attributes d xs ≡ are_attributes e xs
unfolding are_attributes
entries_same d e same [] = refl
entries_same d e same (x ∷ xs) = ap₂ (λ a b. a && b) (entry_same d e same x) (entries_same d e same xs)

part_same : {X : Type 0} (d e : X → Shape) → ((x : X) → d x ≡ e x) → (n : ExprPart X) → part_shape d n ≡ part_shape e n
unfolding part_shape
part_same d e same (expr_parts.ObjectLit n) = ap attribute_if (entries_same d e same n.props.items)
part_same d e same n = refl

pub shape_same : {X : Type 0} (d e : X → Shape) → ((x : X) → d x ≡ e x) → (n : AnyNode-F X) → node_shape d n ≡ node_shape e n
unfolding node_shape
shape_same d e same (nodes.Expr n) = expr_same d e same n
shape_same d e same (nodes.ExprPart n) = part_same d e same n
shape_same d e same n = refl
