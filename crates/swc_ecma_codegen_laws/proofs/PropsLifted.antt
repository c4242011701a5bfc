-- Props: a law of the words holds of the plan.
use Rattle.swc_ecma_codegen_laws.proofs.Children.{children_hold}
use Rattle.swc_ecma_codegen_laws.proofs.Children.{ChildrenHold}
use Rattle.std.specs.Prelude.{ℕ, ◌==◌, Bool, ◌||◌, List, codes, Option, Some, None}
use Rattle.swc_ecma_codegen_common.specs.declared.positions.Span.{Span}
use Rattle.swc_ecma_codegen_tree.specs.Links.{BlockStmtBox, PatBox, TsTypeAnnBox}
use Rattle.swc_ecma_codegen_tree.specs.declared.exprs.ObjectLit.{ObjectLit}
use Rattle.swc_ecma_codegen_tree.specs.declared.exprs.PropOrSpread.{PropOrSpread}
use Rattle.swc_ecma_codegen_tree.specs.declared.exprs.PropOrSpread.TheVariants as prop_or_spreads
use Rattle.swc_ecma_codegen_tree.specs.declared.exprs.Prop.{Prop}
use Rattle.swc_ecma_codegen_tree.specs.declared.exprs.Prop.TheVariants as props
use Rattle.swc_ecma_codegen_tree.specs.declared.exprs.KeyValueProp.{KeyValueProp}
use Rattle.swc_ecma_codegen_tree.specs.declared.exprs.AssignProp.{AssignProp}
use Rattle.swc_ecma_codegen_tree.specs.declared.exprs.GetterProp.{GetterProp}
use Rattle.swc_ecma_codegen_tree.specs.declared.exprs.SetterProp.{SetterProp}
use Rattle.swc_ecma_codegen_tree.specs.declared.exprs.MethodProp.{MethodProp}
use Rattle.swc_ecma_codegen_spans.specs.Spans.{prop_name_span, prop_or_spread_span}
use Rattle.swc_ecma_codegen_grammar.specs.FunctionPhrases.{is_some_listed}
use Rattle.swc_ecma_codegen_tokens.specs.Lists.{ListChild}
use Rattle.swc_ecma_codegen_tokens.specs.Run.{Part}
use Rattle.swc_ecma_codegen_emit.specs.Commented.{has_comment_inside}
use Rattle.swc_ecma_codegen_emit.specs.declared.nodes.Context.TheVariants.{Plain}
use Rattle.swc_ecma_codegen_emit.specs.declared.nodes.Piece.TheVariants.{MethodHead, DeclarationTail}
use Rattle.swc_ecma_codegen_emit.specs.Places.{Whole, Only}
use Rattle.swc_ecma_codegen_emit.specs.Answers.{place_of}
use Rattle.swc_ecma_codegen_laws.proofs.OfWords.{OfWords, Known, asks_in, items_in, either}
use Rattle.swc_ecma_codegen_emit.specs.Props.{key_end, value_start, key_value_prop, assign_prop, accessor, optional_body, tight_annotation, getter_prop, this_param, setter_prop, method_prop, prop, prop_or_spread, object_children, object_list, object_by_maps, object_lit}
use Rattle.swc_ecma_codegen_laws.proofs.ExprsLifted.{blank_holds, ident_holds, opened_holds, spread_element_holds}
use Rattle.swc_ecma_codegen_laws.proofs.NamesLifted.{prop_name_holds}

pub key_end_holds : {holds : Bool → Part → Type 0} (words : OfWords holds) (bounded : Bool) (key : Span) (value : Span) → holds bounded (key_end key value)
unfolding key_end
key_end_holds words bounded key value = either words bounded (key.lo.0 == 0) (words.none bounded) (either words bounded (value.lo.0 == 0) (words.position bounded key.hi) (words.none bounded))

pub value_start_holds : {holds : Bool → Part → Type 0} (words : OfWords holds) (bounded : Bool) (key : Span) (value : Span) → holds bounded (value_start key value)
unfolding value_start
value_start_holds words bounded key value = either words bounded (key.lo.0 == 0) (words.position bounded value.lo) (words.none bounded)

pub key_value_prop_holds : {X : Type 0} {holds : Bool → Part → Type 0} (known : Known holds X) (bounded : Bool) (n : KeyValueProp X) → holds bounded (key_value_prop (asks_in known) (items_in known) n)
unfolding key_value_prop
key_value_prop_holds known bounded n = known.words.and_then bounded (opened_holds known.words bounded (prop_name_span n.key)) (known.words.and_then bounded (prop_name_holds known bounded n.key) (known.words.and_then bounded (key_end_holds known.words bounded (prop_name_span n.key) (((asks_in known) n.value.node.value).place)) (known.words.and_then bounded (known.words.punct bounded (codes ":")) (known.words.and_then bounded (known.words.formatting_space bounded) (known.words.and_then bounded (value_start_holds known.words bounded (prop_name_span n.key) (((asks_in known) n.value.node.value).place)) (known.law bounded n.value.node.value (Whole Plain)))))))

pub assign_prop_holds : {X : Type 0} {holds : Bool → Part → Type 0} (known : Known holds X) (bounded : Bool) (n : AssignProp X) → holds bounded (assign_prop (items_in known) n)
unfolding assign_prop
assign_prop_holds known bounded n = known.words.and_then bounded (opened_holds known.words bounded n.key.span) (known.words.and_then bounded (ident_holds known.words bounded n.key) (known.words.and_then bounded (known.words.punct bounded (codes "=")) (known.law bounded n.value.node.value (Whole Plain))))

pub accessor_holds : {X : Type 0} {holds : Bool → Part → Type 0} (known : Known holds X) (bounded : Bool) (word : List ℕ) (name : X) → holds bounded (accessor (asks_in known) (items_in known) word name)
unfolding accessor
accessor_holds known bounded word name = known.words.and_then bounded (known.words.keyword bounded None word) (known.words.and_then bounded (blank_holds known.words bounded ((asks_in known) name).starts) (known.words.and_then bounded (known.law bounded name (Whole Plain)) (known.words.formatting_space bounded)))

pub optional_body_holds : {X : Type 0} {holds : Bool → Part → Type 0} (known : Known holds X) (bounded : Bool) (x1 : Option (BlockStmtBox X)) → holds bounded (optional_body (items_in known) x1)
unfolding optional_body
optional_body_holds known bounded None = known.words.none bounded
optional_body_holds known bounded (Some n) = known.law bounded n.node.value (Whole Plain)

pub tight_annotation_holds : {X : Type 0} {holds : Bool → Part → Type 0} (known : Known holds X) (bounded : Bool) (x1 : Option (TsTypeAnnBox X)) → holds bounded (tight_annotation (items_in known) x1)
unfolding tight_annotation
tight_annotation_holds known bounded None = known.words.none bounded
tight_annotation_holds known bounded (Some n) = known.words.and_then bounded (known.words.punct bounded (codes ":")) (known.law bounded n.node.value (Whole Plain))

pub getter_prop_holds : {X : Type 0} {holds : Bool → Part → Type 0} (known : Known holds X) (bounded : Bool) (n : GetterProp X) → holds bounded (getter_prop (asks_in known) (items_in known) n)
unfolding getter_prop
getter_prop_holds known bounded n = known.words.and_then bounded (opened_holds known.words bounded n.span) (known.words.and_then bounded (accessor_holds known bounded (codes "get") n.key.node.value) (known.words.and_then bounded (known.words.punct bounded (codes "(")) (known.words.and_then bounded (known.words.punct bounded (codes ")")) (known.words.and_then bounded (tight_annotation_holds known bounded n.type_ann) (known.words.and_then bounded (known.words.formatting_space bounded) (optional_body_holds known bounded n.body))))))

pub this_param_holds : {X : Type 0} {holds : Bool → Part → Type 0} (known : Known holds X) (bounded : Bool) (x1 : Option (PatBox X)) → holds bounded (this_param (items_in known) x1)
unfolding this_param
this_param_holds known bounded None = known.words.none bounded
this_param_holds known bounded (Some n) = known.words.and_then bounded (known.law bounded n.node.value (Whole Plain)) (known.words.and_then bounded (known.words.punct bounded (codes ",")) (known.words.formatting_space bounded))

pub setter_prop_holds : {X : Type 0} {holds : Bool → Part → Type 0} (known : Known holds X) (bounded : Bool) (n : SetterProp X) → holds bounded (setter_prop (asks_in known) (items_in known) n)
unfolding setter_prop
setter_prop_holds known bounded n = known.words.and_then bounded (opened_holds known.words bounded n.span) (known.words.and_then bounded (accessor_holds known bounded (codes "set") n.key.node.value) (known.words.and_then bounded (known.words.punct bounded (codes "(")) (known.words.and_then bounded (this_param_holds known bounded n.this_param) (known.words.and_then bounded (known.law bounded n.param.node.value (Whole Plain)) (known.words.and_then bounded (known.words.punct bounded (codes ")")) (optional_body_holds known bounded n.body))))))

pub method_prop_holds : {X : Type 0} {holds : Bool → Part → Type 0} (known : Known holds X) (bounded : Bool) (n : MethodProp X) → holds bounded (method_prop (asks_in known) (items_in known) n)
unfolding method_prop
method_prop_holds known bounded n = known.words.and_then bounded (opened_holds known.words bounded (prop_name_span n.key)) (known.words.and_then bounded (known.law bounded n.function.node.value (Only MethodHead)) (known.words.and_then bounded (prop_name_holds known bounded n.key) (known.words.and_then bounded (known.words.formatting_space bounded) (known.law bounded n.function.node.value (Only DeclarationTail)))))

pub prop_holds : {X : Type 0} {holds : Bool → Part → Type 0} (known : Known holds X) (bounded : Bool) (x2 : Prop X) → holds bounded (prop (asks_in known) (items_in known) x2)
unfolding prop
prop_holds known bounded (props.Shorthand n) = ident_holds known.words bounded n
prop_holds known bounded (props.KeyValue n) = key_value_prop_holds known bounded n
prop_holds known bounded (props.Assign n) = assign_prop_holds known bounded n
prop_holds known bounded (props.Getter n) = getter_prop_holds known bounded n
prop_holds known bounded (props.Setter n) = setter_prop_holds known bounded n
prop_holds known bounded (props.Method n) = method_prop_holds known bounded n

pub prop_or_spread_holds : {X : Type 0} {holds : Bool → Part → Type 0} (known : Known holds X) (bounded : Bool) (x2 : PropOrSpread X) → holds bounded (prop_or_spread (asks_in known) (items_in known) x2)
unfolding prop_or_spread
prop_or_spread_holds known bounded (prop_or_spreads.Spread n) = spread_element_holds known bounded n
prop_or_spread_holds known bounded (prop_or_spreads.Prop n) = prop_holds known bounded n

pub object_children_holds : {X : Type 0} {holds : Bool → Part → Type 0} (known : Known holds X) (bounded : Bool) (n : ObjectLit X) → ChildrenHold holds bounded (object_children (asks_in known) (items_in known) n)
unfolding object_children
object_children_holds known bounded n = children_hold _ _ (prop_or_spread_span (place_of (asks_in known))) (λ p place. prop_or_spread (asks_in known) (items_in known) p) (λ p. (prop_or_spread_holds known bounded p)) n.props.items

pub object_by_maps_holds : {holds : Bool → Part → Type 0} (words : OfWords holds) (bounded : Bool) (some : Bool) (span : Span) (cs : List ListChild) → ChildrenHold holds bounded cs → holds bounded (object_by_maps some span cs)
unfolding object_by_maps
object_by_maps_holds words bounded some span cs h_cs = words.by_maps bounded (λ maps. object_list (some || has_comment_inside span maps) span cs) (λ maps. (words.object_list bounded (some || has_comment_inside span maps) span cs h_cs))

pub object_lit_holds : {X : Type 0} {holds : Bool → Part → Type 0} (known : Known holds X) (bounded : Bool) (n : ObjectLit X) → holds bounded (object_lit (asks_in known) (items_in known) n)
unfolding object_lit
object_lit_holds known bounded n = known.words.and_then bounded (opened_holds known.words bounded n.span) (known.words.and_then bounded (known.words.punct bounded (codes "{")) (known.words.and_then bounded (object_by_maps_holds known.words bounded (is_some_listed n.props.items) n.span (object_children (asks_in known) (items_in known) n) (object_children_holds known bounded n)) (known.words.and_then bounded (known.words.last_of bounded n.span) (known.words.punct bounded (codes "}")))))
