-- What is written of objects and their properties.
use Rattle.std.specs.Prelude.{ℕ, ◌==◌, Bool, ◌||◌, if◌then◌else◌, List, map, codes, Option, Some, None}
use Rattle.swc_ecma_codegen_common.specs.declared.positions.Span.{Span}
use Rattle.swc_ecma_codegen_tree.specs.Links.{BlockStmtBox, PatBox, TsTypeAnnBox}
use Rattle.swc_ecma_codegen_tree.specs.declared.exprs.ObjectLit.{ObjectLit}
use Rattle.swc_ecma_codegen_tree.specs.declared.exprs.PropOrSpread.{PropOrSpread}
use Rattle.swc_ecma_codegen_tree.specs.declared.exprs.PropOrSpread.TheVariants as prop_or_spreads
use Rattle.swc_ecma_codegen_tree.specs.declared.exprs.Prop.{Prop}
use Rattle.swc_ecma_codegen_tree.specs.declared.exprs.Prop.TheVariants as props
use Rattle.swc_ecma_codegen_tree.specs.declared.exprs.KeyValueProp.{KeyValueProp}
use Rattle.swc_ecma_codegen_tree.specs.declared.exprs.AssignProp.{AssignProp}
use Rattle.swc_ecma_codegen_tree.specs.declared.exprs.GetterProp.{GetterProp}
use Rattle.swc_ecma_codegen_tree.specs.declared.exprs.SetterProp.{SetterProp}
use Rattle.swc_ecma_codegen_tree.specs.declared.exprs.MethodProp.{MethodProp}
use Rattle.swc_ecma_codegen_spans.specs.Spans.{prop_name_span, prop_or_spread_span}
use Rattle.swc_ecma_codegen_grammar.specs.FunctionPhrases.{is_some_listed}
use Rattle.swc_ecma_codegen_tokens.specs.Lists.{ListChild, list}
use Rattle.swc_ecma_codegen_tokens.specs.Run.{Part, when_minified}
use Rattle.swc_ecma_codegen_emit.specs.Commented.{has_comment_inside}
use Rattle.swc_ecma_codegen_tokens.specs.Words.{by_maps, keyword, punct, formatting_space, line_end, position, last_of}
use Rattle.swc_ecma_codegen_emit.specs.declared.nodes.Context.TheVariants.{Plain}
use Rattle.swc_ecma_codegen_emit.specs.declared.nodes.Piece.TheVariants.{MethodHead, DeclarationTail}
use Rattle.swc_ecma_codegen_emit.specs.Places.{Place, Whole, Only}
use Rattle.swc_ecma_codegen_emit.specs.Answers.{Answers, place_of}
use Rattle.swc_ecma_codegen_emit.specs.Exprs.{blank, opened, ident, spread_element}
use Rattle.swc_ecma_codegen_emit.specs.Lists.{child_of}
use Rattle.swc_ecma_codegen_emit.specs.Names.{prop_name}

-- The end of a name is recorded where the value stands nowhere, and the start of the value where the name does.
unfoldable pub key_end : Span → Span → Part
key_end key value rest = if key.lo.0 == 0 then rest else (if value.lo.0 == 0 then position key.hi rest else rest)

unfoldable pub value_start : Span → Span → Part
value_start key value rest = if key.lo.0 == 0 then position value.lo rest else rest

-- `a: b`
unfoldable pub key_value_prop : {X : Type 0} → (X → Answers) → (X → Place → Part) → KeyValueProp X → Part
key_value_prop asks items n rest =
    let name = prop_name_span n.key in
    let value = (asks n.value.node.value).place in
    opened name (prop_name items n.key (key_end name value (punct (codes ":") (formatting_space (value_start name value (items n.value.node.value (Whole Plain) rest))))))

-- `a=b`
unfoldable pub assign_prop : {X : Type 0} → (X → Place → Part) → AssignProp X → Part
assign_prop items n rest = opened n.key.span (ident n.key (punct (codes "=") (items n.value.node.value (Whole Plain) rest)))

-- `get ` before a name, and its name
unfoldable pub accessor : {X : Type 0} → (X → Answers) → (X → Place → Part) → List ℕ → X → Part
accessor asks items word name rest = keyword None word (blank (asks name).starts (items name (Whole Plain) (formatting_space rest)))

-- a body, where there is one
unfoldable pub optional_body : {X : Type 0} → (X → Place → Part) → Option (BlockStmtBox X) → Part
optional_body items None rest = rest
optional_body items (Some n) rest = items n.node.value (Whole Plain) rest

-- `:T` of `get a():T { b; }`, without a blank
unfoldable pub tight_annotation : {X : Type 0} → (X → Place → Part) → Option (TsTypeAnnBox X) → Part
tight_annotation items None rest = rest
tight_annotation items (Some n) rest = punct (codes ":") (items n.node.value (Whole Plain) rest)

-- `get a () { b; }`
unfoldable pub getter_prop : {X : Type 0} → (X → Answers) → (X → Place → Part) → GetterProp X → Part
getter_prop asks items n rest =
    opened n.span
    (accessor asks items (codes "get") n.key.node.value
    (punct (codes "(") (punct (codes ")") (tight_annotation items n.type_ann (formatting_space (optional_body items n.body rest))))))

-- `this: T, ` of `set a (this: T, b){ c; }`
unfoldable pub this_param : {X : Type 0} → (X → Place → Part) → Option (PatBox X) → Part
this_param items None rest = rest
this_param items (Some n) rest = items n.node.value (Whole Plain) (punct (codes ",") (formatting_space rest))

-- `set a (b){ c; }`
unfoldable pub setter_prop : {X : Type 0} → (X → Answers) → (X → Place → Part) → SetterProp X → Part
setter_prop asks items n rest =
    opened n.span
    (accessor asks items (codes "set") n.key.node.value
    (punct (codes "(") (this_param items n.this_param (items n.param.node.value (Whole Plain) (punct (codes ")") (optional_body items n.body rest))))))

-- `async *a() { b; }`
unfoldable pub method_prop : {X : Type 0} → (X → Answers) → (X → Place → Part) → MethodProp X → Part
method_prop asks items n rest =
    let function = n.function.node.value in
    opened (prop_name_span n.key)
    (items function (Only MethodHead) (prop_name items n.key (formatting_space (items function (Only DeclarationTail) rest))))

unfoldable pub prop : {X : Type 0} → (X → Answers) → (X → Place → Part) → Prop X → Part
prop asks items (props.Shorthand n) rest = ident n rest
prop asks items (props.KeyValue n) rest = key_value_prop asks items n rest
prop asks items (props.Assign n) rest = assign_prop items n rest
prop asks items (props.Getter n) rest = getter_prop asks items n rest
prop asks items (props.Setter n) rest = setter_prop asks items n rest
prop asks items (props.Method n) rest = method_prop asks items n rest

unfoldable pub prop_or_spread : {X : Type 0} → (X → Answers) → (X → Place → Part) → PropOrSpread X → Part
prop_or_spread asks items (prop_or_spreads.Spread n) rest = spread_element asks items n rest
prop_or_spread asks items (prop_or_spreads.Prop n) rest = prop asks items n rest

-- `ObjectLiteralExpressionProperties` and `CanSkipTrailingComma`, and the same without `MultiLine` and `Indented`
abbrev pub object_format : ℕ
object_format = 41425

abbrev pub flat_object_format : ℕ
flat_object_format = 41360

-- the properties, as children of a list
unfoldable pub object_children : {X : Type 0} → (X → Answers) → (X → Place → Part) → ObjectLit X → List ListChild
object_children asks items n = map (child_of (prop_or_spread_span (place_of asks)) (λ p place. prop_or_spread asks items p)) n.props.items

-- the properties, each on a line of its own
unfoldable pub lined_object_list : Span → List ListChild → Part
lined_object_list span cs rest = line_end (list object_format span cs (line_end rest))

-- so where there are some
unfoldable pub object_lines : Bool → Span → List ListChild → Part
object_lines some span cs rest = if some then lined_object_list span cs rest else list flat_object_format span cs rest

unfoldable pub object_list : Bool → Span → List ListChild → Part
object_list some span cs = when_minified (list flat_object_format span cs) (object_lines some span cs)

-- each on a line of its own too where there is a comment before `}`
unfoldable pub object_by_maps : Bool → Span → List ListChild → Part
object_by_maps some span cs = by_maps (λ maps. object_list (some || has_comment_inside span maps) span cs)

-- `{ a, b: c }`
unfoldable pub object_lit : {X : Type 0} → (X → Answers) → (X → Place → Part) → ObjectLit X → Part
object_lit asks items n rest =
    opened n.span
    (punct (codes "{")
    (object_by_maps (is_some_listed n.props.items) n.span (object_children asks items n)
    (last_of n.span (punct (codes "}") rest))))
