-- Objects and the names of properties that are the same but for what their links hold: that stands in the relation `m`.
use Rattle.std.specs.Prelude.{◌≡◌}
use Rattle.swc_ecma_codegen_tree.specs.declared.exprs.AssignProp.{AssignProp}
use Rattle.swc_ecma_codegen_tree.specs.declared.exprs.ComputedPropName.{ComputedPropName}
use Rattle.swc_ecma_codegen_tree.specs.declared.exprs.GetterProp.{GetterProp}
use Rattle.swc_ecma_codegen_tree.specs.declared.exprs.KeyValueProp.{KeyValueProp}
use Rattle.swc_ecma_codegen_tree.specs.declared.exprs.MethodProp.{MethodProp}
use Rattle.swc_ecma_codegen_tree.specs.declared.exprs.ObjectLit.{ObjectLit}
use Rattle.swc_ecma_codegen_tree.specs.declared.exprs.Prop.{Prop}
use Rattle.swc_ecma_codegen_tree.specs.declared.exprs.Prop.TheVariants as props
use Rattle.swc_ecma_codegen_tree.specs.declared.exprs.PropName.{PropName}
use Rattle.swc_ecma_codegen_tree.specs.declared.exprs.PropName.TheVariants as prop_names
use Rattle.swc_ecma_codegen_tree.specs.declared.exprs.PropOrSpread.{PropOrSpread}
use Rattle.swc_ecma_codegen_tree.specs.declared.exprs.PropOrSpread.TheVariants as prop_or_spreads
use Rattle.swc_ecma_codegen_tree.specs.declared.exprs.SetterProp.{SetterProp}
use Rattle.swc_ecma_codegen_tree.specs.declared.exprs.SpreadElement.{SpreadElement}
use Rattle.swc_ecma_codegen_parentheses.specs.declared.mends.Usage.{Usage}
use Rattle.swc_ecma_codegen_syntax.specs.declared.nonterminals.Nonterminal.{Nonterminal}
use Rattle.swc_ecma_codegen_syntax.specs.declared.nonterminals.Nonterminal.TheVariants as nt
use Rattle.swc_ecma_codegen_parentheses.specs.Lists.{Pairwise, bracketed, linked, optionally}

unfoldable pub same_spread_element : {X : Type 0} → (Usage → X → X → Type 0) → SpreadElement X → SpreadElement X → Type 0
same_spread_element m n r = (r ≡ record n { expr = r.expr }) × bracketed nt.AssignmentExpression m n.expr r.expr

-- where this nonterminal stands in the brackets
unfoldable pub same_computed_prop_name : {X : Type 0} → Nonterminal → (Usage → X → X → Type 0) → ComputedPropName X → ComputedPropName X → Type 0
same_computed_prop_name place m n r = (r ≡ record n { expr = r.expr }) × bracketed place m n.expr r.expr

unfoldable pub same_prop_name : {X : Type 0} → (Usage → X → X → Type 0) → PropName X → PropName X → Type 0
same_prop_name m (prop_names.Computed n) (prop_names.Computed r) = same_computed_prop_name nt.AssignmentExpression m n r
same_prop_name m n r = n ≡ r

unfoldable pub same_key_value_prop : {X : Type 0} → (Usage → X → X → Type 0) → KeyValueProp X → KeyValueProp X → Type 0
same_key_value_prop m n r = same_prop_name m n.key r.key × bracketed nt.AssignmentExpression m n.value r.value

unfoldable pub same_assign_prop : {X : Type 0} → (Usage → X → X → Type 0) → AssignProp X → AssignProp X → Type 0
same_assign_prop m n r = (r ≡ record n { value = r.value }) × bracketed nt.AssignmentExpression m n.value r.value

unfoldable pub same_getter_prop : {X : Type 0} → (Usage → X → X → Type 0) → GetterProp X → GetterProp X → Type 0
same_getter_prop m n r = (r ≡ record n { key = r.key; body = r.body }) × (linked m n.key r.key × optionally (linked m) n.body r.body)

unfoldable pub same_setter_prop : {X : Type 0} → (Usage → X → X → Type 0) → SetterProp X → SetterProp X → Type 0
same_setter_prop m n r =
    (r ≡ record n { key = r.key; this_param = r.this_param; param = r.param; body = r.body }) × (linked m n.key r.key × (
    optionally (linked m) n.this_param r.this_param × (linked m n.param r.param × optionally (linked m) n.body r.body)))

unfoldable pub same_method_prop : {X : Type 0} → (Usage → X → X → Type 0) → MethodProp X → MethodProp X → Type 0
same_method_prop m n r = same_prop_name m n.key r.key × linked m n.function r.function

unfoldable pub same_prop : {X : Type 0} → (Usage → X → X → Type 0) → Prop X → Prop X → Type 0
same_prop m (props.KeyValue n) (props.KeyValue r) = same_key_value_prop m n r
same_prop m (props.Assign n) (props.Assign r) = same_assign_prop m n r
same_prop m (props.Getter n) (props.Getter r) = same_getter_prop m n r
same_prop m (props.Setter n) (props.Setter r) = same_setter_prop m n r
same_prop m (props.Method n) (props.Method r) = same_method_prop m n r
same_prop m n r = n ≡ r

unfoldable pub same_prop_or_spread : {X : Type 0} → (Usage → X → X → Type 0) → PropOrSpread X → PropOrSpread X → Type 0
same_prop_or_spread m (prop_or_spreads.Spread n) (prop_or_spreads.Spread r) = same_spread_element m n r
same_prop_or_spread m (prop_or_spreads.Prop n) (prop_or_spreads.Prop r) = same_prop m n r
same_prop_or_spread m n r = ⊥

unfoldable pub same_object_lit : {X : Type 0} → (Usage → X → X → Type 0) → ObjectLit X → ObjectLit X → Type 0
same_object_lit m n r = (r ≡ record n { props = r.props }) × Pairwise (same_prop_or_spread m) n.props.items r.props.items
