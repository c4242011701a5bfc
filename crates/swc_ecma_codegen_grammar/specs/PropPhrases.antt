-- Objects and their properties: one production a node. `f` says what is read of what a link holds, in its role.
use Rattle.std.specs.Prelude.{map, codes, Option, Some, None}
use Rattle.swc_ecma_codegen_tree.specs.declared.exprs.ObjectLit.{ObjectLit}
use Rattle.swc_ecma_codegen_tree.specs.declared.exprs.SpreadElement.{SpreadElement}
use Rattle.swc_ecma_codegen_tree.specs.declared.exprs.PropOrSpread.{PropOrSpread}
use Rattle.swc_ecma_codegen_tree.specs.declared.exprs.PropOrSpread.TheVariants as prop_or_spreads
use Rattle.swc_ecma_codegen_tree.specs.declared.exprs.Prop.{Prop}
use Rattle.swc_ecma_codegen_tree.specs.declared.exprs.Prop.TheVariants as props
use Rattle.swc_ecma_codegen_tree.specs.declared.exprs.KeyValueProp.{KeyValueProp}
use Rattle.swc_ecma_codegen_tree.specs.declared.exprs.AssignProp.{AssignProp}
use Rattle.swc_ecma_codegen_tree.specs.declared.exprs.GetterProp.{GetterProp}
use Rattle.swc_ecma_codegen_tree.specs.declared.exprs.SetterProp.{SetterProp}
use Rattle.swc_ecma_codegen_tree.specs.declared.exprs.MethodProp.{MethodProp}
use Rattle.swc_ecma_codegen_tree.specs.Links.{BlockStmtBox, PatBox}
use Rattle.swc_ecma_codegen_grammar.specs.Phrases.{Phrase, Nothing, ◌>◌, word, mark, listed}
use Rattle.swc_ecma_codegen_grammar.specs.AnnotationPhrases.{annotation}
use Rattle.swc_ecma_codegen_grammar.specs.NamePhrases.{ident}
use Rattle.swc_ecma_codegen_grammar.specs.KeyPhrases.{prop_name}
use Rattle.swc_ecma_codegen_grammar.specs.PatPhrases.{value_at, pat_at, prop_name_at}
use Rattle.swc_ecma_codegen_grammar.specs.FunctionPhrases.{block_at, function_at}
use Rattle.swc_ecma_codegen_grammar.specs.declared.roles.Role.{Role}
use Rattle.swc_ecma_codegen_grammar.specs.declared.roles.Role.TheVariants.{MethodHead}

-- ECMA-262, section 13.2.5: `a: b`
unfoldable pub key_value_prop : {X : Type 0} → (X → Role → Phrase) → KeyValueProp X → Phrase
key_value_prop f n = prop_name f n.key > mark (codes ":") > value_at f n.value

-- `a = b`, which only a pattern may follow from
unfoldable pub assign_prop : {X : Type 0} → (X → Role → Phrase) → AssignProp X → Phrase
assign_prop f n = ident n.key > mark (codes "=") > value_at f n.value

-- a body, where there is one
unfoldable pub optional_body : {X : Type 0} → (X → Role → Phrase) → Option (BlockStmtBox X) → Phrase
optional_body f None = Nothing
optional_body f (Some n) = block_at f n

-- section 15.4: `get a(): T { b; }`
unfoldable pub getter_prop : {X : Type 0} → (X → Role → Phrase) → GetterProp X → Phrase
getter_prop f n = word (codes "get") > prop_name_at f n.key > mark (codes "(") > mark (codes ")") > annotation f n.type_ann > optional_body f n.body

-- `this: T,` of `set a(this: T, b) {}`
unfoldable pub this_param : {X : Type 0} → (X → Role → Phrase) → Option (PatBox X) → Phrase
this_param f None = Nothing
this_param f (Some n) = pat_at f n > mark (codes ",")

-- `set a(this: T, b) { c; }`
unfoldable pub setter_prop : {X : Type 0} → (X → Role → Phrase) → SetterProp X → Phrase
setter_prop f n =
    word (codes "set") > prop_name_at f n.key > mark (codes "(") > this_param f n.this_param > pat_at f n.param > mark (codes ")") > optional_body f n.body

-- `async *a() { b; }`
unfoldable pub method_prop : {X : Type 0} → (X → Role → Phrase) → MethodProp X → Phrase
method_prop f n = f n.function.node.value MethodHead > prop_name f n.key > function_at f n.function

-- section 13.2.5
unfoldable pub prop : {X : Type 0} → (X → Role → Phrase) → Prop X → Phrase
prop f (props.Shorthand n) = ident n
prop f (props.KeyValue n) = key_value_prop f n
prop f (props.Assign n) = assign_prop f n
prop f (props.Getter n) = getter_prop f n
prop f (props.Setter n) = setter_prop f n
prop f (props.Method n) = method_prop f n

-- `...a`
unfoldable pub spread_element : {X : Type 0} → (X → Role → Phrase) → SpreadElement X → Phrase
spread_element f n = mark (codes "...") > value_at f n.expr

unfoldable pub prop_or_spread : {X : Type 0} → (X → Role → Phrase) → PropOrSpread X → Phrase
prop_or_spread f (prop_or_spreads.Spread n) = spread_element f n
prop_or_spread f (prop_or_spreads.Prop n) = prop f n

-- `{ a, b: c }`
unfoldable pub object_lit : {X : Type 0} → (X → Role → Phrase) → ObjectLit X → Phrase
object_lit f n = mark (codes "{") > listed (codes ",") (map (prop_or_spread f) n.props.items) > mark (codes "}")
