-- Objects and the names of properties: one production a node, with nonterminals. ECMA-262, section 13.2.5.
use Rattle.std.specs.Prelude.{false, not, codes, string_bytes, Option, Some, None}
use Rattle.swc_ecma_codegen_tree.specs.declared.exprs.ObjectLit.{ObjectLit}
use Rattle.swc_ecma_codegen_tree.specs.declared.exprs.SpreadElement.{SpreadElement}
use Rattle.swc_ecma_codegen_tree.specs.declared.exprs.PropOrSpread.{PropOrSpread}
use Rattle.swc_ecma_codegen_tree.specs.declared.exprs.PropOrSpread.TheVariants as prop_or_spreads
use Rattle.swc_ecma_codegen_tree.specs.declared.exprs.Prop.{Prop}
use Rattle.swc_ecma_codegen_tree.specs.declared.exprs.Prop.TheVariants as props
use Rattle.swc_ecma_codegen_tree.specs.declared.exprs.PropName.{PropName}
use Rattle.swc_ecma_codegen_tree.specs.declared.exprs.PropName.TheVariants as prop_names
use Rattle.swc_ecma_codegen_tree.specs.declared.exprs.KeyValueProp.{KeyValueProp}
use Rattle.swc_ecma_codegen_tree.specs.declared.exprs.AssignProp.{AssignProp}
use Rattle.swc_ecma_codegen_tree.specs.declared.exprs.GetterProp.{GetterProp}
use Rattle.swc_ecma_codegen_tree.specs.declared.exprs.SetterProp.{SetterProp}
use Rattle.swc_ecma_codegen_tree.specs.declared.exprs.MethodProp.{MethodProp}
use Rattle.swc_ecma_codegen_tree.specs.Links.{BlockStmtBox, PatBox, PropNameBox}
use Rattle.swc_ecma_codegen_grammar.specs.Phrases.{Nothing, KeyOf, word, mark}
use Rattle.swc_ecma_codegen_grammar.specs.declared.roles.Role.TheVariants.{Block, Function, MethodHead, Pattern, PropertyName}
use Rattle.swc_ecma_codegen_grammar.specs.LitPhrases.{str_lit, number, big_int}
use Rattle.swc_ecma_codegen_syntax.specs.declared.nonterminals.Nonterminal.TheVariants as nt
use Rattle.swc_ecma_codegen_syntax.specs.declared.parameters.Parameters.{Parameters}
use Rattle.swc_ecma_codegen_syntax.specs.Parameters.{with_in, of_parameters, of_function}
use Rattle.swc_ecma_codegen_syntax.specs.Forms.{Form, Fixed, Part, Provided, ByRule, ByScope, ◌⇢◌, listed}
use Rattle.swc_ecma_codegen_syntax.specs.NameForms.{name_form, is_literal_number}
use Rattle.swc_ecma_codegen_syntax.specs.MemberForms.{expr_part, computed_form, annotation_form}

-- PropertyName: any IdentifierName, a literal, or `[ AssignmentExpression ]`
unfoldable pub prop_name_form : {X : Type 0} → Parameters → PropName X → Form X
prop_name_form c (prop_names.Ident n) = Fixed (KeyOf n.span.lo (string_bytes n.sym))
prop_name_form c (prop_names.Str n) = Fixed (str_lit n.value)
prop_name_form c (prop_names.Num n) = Provided ByRule (is_literal_number n.value) (Fixed (number n.value))
prop_name_form c (prop_names.BigInt n) = Provided ByRule (not n.value.negative) (Fixed (big_int n.value))
prop_name_form c (prop_names.Computed n) = computed_form nt.AssignmentExpression c n

-- PropertyName : AssignmentExpression
unfoldable pub key_value_form : {X : Type 0} → Parameters → KeyValueProp X → Form X
key_value_form c n = prop_name_form c n.key ⇢ Fixed (mark (codes ":")) ⇢ expr_part nt.AssignmentExpression (with_in c) n.value

-- CoverInitializedName, `a = b`, is no production of an object: it stands for a pattern's
unfoldable pub assign_prop_form : {X : Type 0} → Parameters → AssignProp X → Form X
assign_prop_form c n =
    Provided ByRule false (name_form c n.key ⇢ Fixed (mark (codes "=")) ⇢ expr_part nt.AssignmentExpression (with_in c) n.value)

-- 15.4: MethodDefinition. A type, and a getter or a setter without a body, are of TypeScript.
abbrev pub own_key : {X : Type 0} → Parameters → PropNameBox X → Form X
own_key c n = Part nt.AnyPropertyName c PropertyName n.node.value

unfoldable pub accessor_body_form : {X : Type 0} → Parameters → Option (BlockStmtBox X) → Form X
accessor_body_form c None = Provided ByScope false (Fixed Nothing)
accessor_body_form c (Some n) = Part nt.Block (of_function false false c) Block n.node.value

-- `get a() { b; }`
unfoldable pub getter_form : {X : Type 0} → Parameters → GetterProp X → Form X
getter_form c n =
    Fixed (word (codes "get")) ⇢ own_key c n.key ⇢ Fixed (mark (codes "(")) ⇢ Fixed (mark (codes ")")) ⇢ annotation_form c n.type_ann
    ⇢ accessor_body_form c n.body

-- `set a(b) { c; }`, whose parameter is no rest
unfoldable pub this_param_form : {X : Type 0} → Parameters → Option (PatBox X) → Form X
this_param_form c None = Fixed Nothing
this_param_form c (Some n) = Provided ByScope false (Part nt.Uncovered c Pattern n.node.value ⇢ Fixed (mark (codes ",")))

unfoldable pub setter_form : {X : Type 0} → Parameters → SetterProp X → Form X
setter_form c n =
    Fixed (word (codes "set")) ⇢ own_key c n.key ⇢ Fixed (mark (codes "(")) ⇢ this_param_form c n.this_param
    ⇢ Part nt.PatternElement (of_parameters false false c) Pattern n.param.node.value ⇢ Fixed (mark (codes ")")) ⇢ accessor_body_form c n.body

-- `async *a() { b; }`
unfoldable pub method_prop_form : {X : Type 0} → Parameters → MethodProp X → Form X
method_prop_form c n =
    Part nt.MethodHead c MethodHead n.function.node.value ⇢ prop_name_form c n.key ⇢ Part nt.FunctionTail c Function n.function.node.value

unfoldable pub property_form : {X : Type 0} → Parameters → Prop X → Form X
property_form c (props.Shorthand n) = name_form c n
property_form c (props.KeyValue n) = key_value_form c n
property_form c (props.Assign n) = assign_prop_form c n
property_form c (props.Getter n) = getter_form c n
property_form c (props.Setter n) = setter_form c n
property_form c (props.Method n) = method_prop_form c n

-- `... AssignmentExpression`
unfoldable pub spread_form : {X : Type 0} → Parameters → SpreadElement X → Form X
spread_form c n = Fixed (mark (codes "...")) ⇢ expr_part nt.AssignmentExpression (with_in c) n.expr

unfoldable pub prop_or_spread_form : {X : Type 0} → Parameters → PropOrSpread X → Form X
prop_or_spread_form c (prop_or_spreads.Spread n) = spread_form c n
prop_or_spread_form c (prop_or_spreads.Prop n) = property_form c n

unfoldable pub object_form : {X : Type 0} → Parameters → ObjectLit X → Form X
object_form c n = Fixed (mark (codes "{")) ⇢ listed (codes ",") (prop_or_spread_form c) n.props.items ⇢ Fixed (mark (codes "}"))
