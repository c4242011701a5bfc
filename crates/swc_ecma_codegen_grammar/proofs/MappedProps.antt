-- The productions of objects and their properties see what links hold through f alone.
use Rattle.std.proofs.Common.{◌≡◌, refl, ap, codes, Option, Some, None}
use Rattle.swc_ecma_codegen_tree.specs.declared.links.AnyNode.{map-AnyNode}
use Rattle.swc_ecma_codegen_tree.specs.declared.links.AnyNode.TheOpen as nodes
use Rattle.swc_ecma_codegen_tree.specs.Links.{BlockStmtBox, PatBox, TsTypeAnnBox}
use Rattle.swc_ecma_codegen_tree.specs.declared.idents.Ident.{Ident}
use Rattle.swc_ecma_codegen_tree.specs.declared.parts.ExprPart.TheVariants as expr_parts
use Rattle.swc_ecma_codegen_tree.specs.declared.exprs.ObjectLit.{ObjectLit}
use Rattle.swc_ecma_codegen_tree.specs.declared.exprs.PropOrSpread.{PropOrSpread}
use Rattle.swc_ecma_codegen_tree.specs.declared.exprs.PropOrSpread.TheVariants as prop_or_spreads
use Rattle.swc_ecma_codegen_tree.specs.declared.exprs.SpreadElement.{SpreadElement}
use Rattle.swc_ecma_codegen_tree.specs.declared.exprs.Prop.{Prop}
use Rattle.swc_ecma_codegen_tree.specs.declared.exprs.Prop.TheVariants as props
use Rattle.swc_ecma_codegen_tree.specs.declared.exprs.KeyValueProp.{KeyValueProp}
use Rattle.swc_ecma_codegen_tree.specs.declared.exprs.AssignProp.{AssignProp}
use Rattle.swc_ecma_codegen_tree.specs.declared.exprs.MethodProp.{MethodProp}
use Rattle.swc_ecma_codegen_tree.specs.declared.exprs.GetterProp.{GetterProp}
use Rattle.swc_ecma_codegen_tree.specs.declared.exprs.SetterProp.{SetterProp}
use Rattle.swc_ecma_codegen_grammar.specs.Phrases.{Phrase, ◌>◌, mark, listed}
use Rattle.swc_ecma_codegen_grammar.specs.declared.roles.Role.{Role}
use Rattle.swc_ecma_codegen_grammar.specs.declared.roles.Role.TheVariants.{ObjectLiteral, MethodHead}
use Rattle.swc_ecma_codegen_grammar.specs.FunctionPhrases.{function_at}
use Rattle.swc_ecma_codegen_grammar.specs.PatPhrases.{value_at}
use Rattle.swc_ecma_codegen_grammar.specs.PropPhrases.{key_value_prop, assign_prop, optional_body, getter_prop, this_param, setter_prop, method_prop, prop, spread_element, prop_or_spread, object_lit}
use Rattle.swc_ecma_codegen_grammar.specs.AnnotationPhrases.{annotation}
use Rattle.swc_ecma_codegen_grammar.specs.PartPhrases.{expr_part}
use Rattle.swc_ecma_codegen_grammar.specs.TreePhrases.{node_phrase}
use Rattle.swc_ecma_codegen_grammar.proofs.Mapped.{list_mapped}
use Rattle.swc_ecma_codegen_grammar.proofs.MappedKeys.{prop_name_mapped}

-- what holds of each getter and setter, by what is there, holds of all
getter_by : {X : Type 0} (P : GetterProp X → Type 0)
    → ((n : GetterProp X) → P (record n { type_ann = None; body = None }))
    → ((n : GetterProp X) (body : BlockStmtBox X) → P (record n { type_ann = None; body = Some body }))
    → ((n : GetterProp X) (t : TsTypeAnnBox X) → P (record n { type_ann = Some t; body = None }))
    → ((n : GetterProp X) (t : TsTypeAnnBox X) (body : BlockStmtBox X) → P (record n { type_ann = Some t; body = Some body }))
    → (n : GetterProp X) (type_ann : Option (TsTypeAnnBox X)) (body : Option (BlockStmtBox X)) → P (record n { type_ann = type_ann; body = body })
getter_by P plain bodied typed whole n None None = plain n
getter_by P plain bodied typed whole n None (Some body) = bodied n body
getter_by P plain bodied typed whole n (Some t) None = typed n t
getter_by P plain bodied typed whole n (Some t) (Some body) = whole n t body

setter_by : {X : Type 0} (P : SetterProp X → Type 0)
    → ((n : SetterProp X) → P (record n { this_param = None; body = None }))
    → ((n : SetterProp X) (body : BlockStmtBox X) → P (record n { this_param = None; body = Some body }))
    → ((n : SetterProp X) (this : PatBox X) → P (record n { this_param = Some this; body = None }))
    → ((n : SetterProp X) (this : PatBox X) (body : BlockStmtBox X) → P (record n { this_param = Some this; body = Some body }))
    → (n : SetterProp X) (this_param : Option (PatBox X)) (body : Option (BlockStmtBox X)) → P (record n { this_param = this_param; body = body })
setter_by P plain bodied typed whole n None None = plain n
setter_by P plain bodied typed whole n None (Some body) = bodied n body
setter_by P plain bodied typed whole n (Some this) None = typed n this
setter_by P plain bodied typed whole n (Some this) (Some body) = whole n this body

-- what holds of each property, by what is there, holds of all
pub by_prop : {X : Type 0} (P : Prop X → Type 0)
    → ((n : Ident) → P (props.Shorthand n))
    → ((n : KeyValueProp X) → P (props.KeyValue n))
    → ((n : AssignProp X) → P (props.Assign n))
    → ((n : GetterProp X) → P (props.Getter (record n { type_ann = None; body = None })))
    → ((n : GetterProp X) (body : BlockStmtBox X) → P (props.Getter (record n { type_ann = None; body = Some body })))
    → ((n : GetterProp X) (t : TsTypeAnnBox X) → P (props.Getter (record n { type_ann = Some t; body = None })))
    → ((n : GetterProp X) (t : TsTypeAnnBox X) (body : BlockStmtBox X) → P (props.Getter (record n { type_ann = Some t; body = Some body })))
    → ((n : SetterProp X) → P (props.Setter (record n { this_param = None; body = None })))
    → ((n : SetterProp X) (body : BlockStmtBox X) → P (props.Setter (record n { this_param = None; body = Some body })))
    → ((n : SetterProp X) (this : PatBox X) → P (props.Setter (record n { this_param = Some this; body = None })))
    → ((n : SetterProp X) (this : PatBox X) (body : BlockStmtBox X) → P (props.Setter (record n { this_param = Some this; body = Some body })))
    → ((n : MethodProp X) → P (props.Method n))
    → (n : Prop X) → P n
by_prop P short key_value assign getter bodied_getter typed_getter whole_getter setter bodied_setter typed_setter whole_setter method (props.Shorthand n) = short n
by_prop P short key_value assign getter bodied_getter typed_getter whole_getter setter bodied_setter typed_setter whole_setter method (props.KeyValue n) = key_value n
by_prop P short key_value assign getter bodied_getter typed_getter whole_getter setter bodied_setter typed_setter whole_setter method (props.Assign n) = assign n
by_prop P short key_value assign getter bodied_getter typed_getter whole_getter setter bodied_setter typed_setter whole_setter method (props.Getter n) = getter_by (λ m. P (props.Getter m)) getter bodied_getter typed_getter whole_getter n n.type_ann n.body
by_prop P short key_value assign getter bodied_getter typed_getter whole_getter setter bodied_setter typed_setter whole_setter method (props.Setter n) = setter_by (λ m. P (props.Setter m)) setter bodied_setter typed_setter whole_setter n n.this_param n.body
by_prop P short key_value assign getter bodied_getter typed_getter whole_getter setter bodied_setter typed_setter whole_setter method (props.Method n) = method n

-- what holds of each property and spread
pub each_prop : {X : Type 0} (P : PropOrSpread X → Type 0) → ((n : SpreadElement X) → P (prop_or_spreads.Spread n)) → ((n : Prop X) → P (prop_or_spreads.Prop n)) → (n : PropOrSpread X) → P n
each_prop P spread prop (prop_or_spreads.Spread n) = spread n
each_prop P spread prop (prop_or_spreads.Prop n) = prop n

pub object_lit_mapped : {X Y : Type 0} (g : X → Y) (f : Y → Role → Phrase) (n : ObjectLit X) → node_phrase f (map-AnyNode X Y g (nodes.ExprPart (expr_parts.ObjectLit n))) ObjectLiteral ≡ object_lit (λ x. f (g x)) n
unfolding node_phrase expr_part object_lit prop_or_spread spread_element prop key_value_prop assign_prop getter_prop annotation this_param setter_prop method_prop optional_body
object_lit_mapped {X} g f n = ap (λ ps. mark (codes "{") > listed (codes ",") ps > mark (codes "}")) (list_mapped {A = PropOrSpread X} _ (prop_or_spread f) (prop_or_spread (λ x. f (g x))) (each_prop {X = X} _ (λ m. refl) (by_prop {X = X} _
    (λ m. refl) (λ m. ap (λ p. p > mark (codes ":") > value_at (λ x. f (g x)) m.value) (prop_name_mapped g f m.key)) (λ m. refl) (λ m. refl) (λ m body. refl) (λ m t. refl) (λ m t body. refl) (λ m. refl) (λ m body. refl) (λ m this. refl) (λ m this body. refl)
    (λ m. ap (λ p. f (g m.function.node.value) MethodHead > p > function_at (λ x. f (g x)) m.function) (prop_name_mapped g f m.key)))) n.props.items)
