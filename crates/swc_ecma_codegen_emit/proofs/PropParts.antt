-- What is written of objects and their properties is what it reads as.
use Rattle.std.proofs.Common.{refl, ℕ, Bool, ◌||◌, true, false, cond, ◌==◌, List, [], map, codes, Option, Some, None, inl, inr}
use Rattle.std.proofs.lemmas.Bool.{cases_Bool}
use Rattle.swc_ecma_codegen_common.specs.declared.positions.Span.{Span}
use Rattle.swc_ecma_codegen_tree.specs.Links.{BlockStmtBox, PatBox, TsTypeAnnBox}
use Rattle.swc_ecma_codegen_tree.specs.declared.exprs.ObjectLit.{ObjectLit}
use Rattle.swc_ecma_codegen_tree.specs.declared.exprs.PropOrSpread.{PropOrSpread}
use Rattle.swc_ecma_codegen_tree.specs.declared.exprs.PropOrSpread.TheVariants as prop_or_spreads
use Rattle.swc_ecma_codegen_tree.specs.declared.exprs.Prop.{Prop}
use Rattle.swc_ecma_codegen_tree.specs.declared.exprs.Prop.TheVariants as props
use Rattle.swc_ecma_codegen_tree.specs.declared.exprs.KeyValueProp.{KeyValueProp}
use Rattle.swc_ecma_codegen_tree.specs.declared.exprs.AssignProp.{AssignProp}
use Rattle.swc_ecma_codegen_tree.specs.declared.exprs.GetterProp.{GetterProp}
use Rattle.swc_ecma_codegen_tree.specs.declared.exprs.SetterProp.{SetterProp}
use Rattle.swc_ecma_codegen_tree.specs.declared.exprs.MethodProp.{MethodProp}
use Rattle.swc_ecma_codegen_spans.specs.Spans.{prop_name_span, prop_or_spread_span}
use Rattle.swc_ecma_codegen_grammar.specs.FunctionPhrases.{is_some_listed}
use Rattle.swc_ecma_codegen_grammar.specs.Phrases.{Phrase, ◌>◌, mark}
use Rattle.swc_ecma_codegen_grammar.specs.Phrases as phrases
use Rattle.swc_ecma_codegen_grammar.specs.AnnotationPhrases.{annotation}
use Rattle.swc_ecma_codegen_grammar.specs.PropPhrases as lists
use Rattle.swc_ecma_codegen_grammar.specs.declared.roles.Role.TheVariants.{Annotation, Function, MethodHead}
use Rattle.swc_ecma_codegen_grammar.specs.CommentMaps.{Maps}
use Rattle.swc_ecma_codegen_emit.specs.Commented.{has_comment_inside}
use Rattle.swc_ecma_codegen_tokens.specs.Run.{Env, Part, at_maps, when_minified}
use Rattle.swc_ecma_codegen_tokens.specs.Lists.{list, ListChild}
use Rattle.swc_ecma_codegen_tokens.specs.Words.{by_maps, punct, line_end, position, position_before}
use Rattle.swc_ecma_codegen_tokens.proofs.Emission.Emitting.{minified_same, pretty_same}
use Rattle.swc_ecma_codegen_tokens.proofs.Listing.ListLaws.{children_of, prints_list, prints_bracketed}
use Rattle.swc_ecma_codegen_tokens.proofs.Reading.Phrased.{Prints, then, after, before, prints_nothing, prints_same, prints_by_maps, prints_keyword, prints_punct, PrintsAt, prints_wider}
use Rattle.swc_ecma_codegen_tokens.proofs.Reading.Printed.{writes_if, writes_nothing, writes_formatting_space, writes_line, writes_position, writes_position_before, Fills}
use Rattle.swc_ecma_codegen_emit.specs.declared.nodes.Context.TheVariants.{Plain}
use Rattle.swc_ecma_codegen_emit.specs.declared.nodes.Piece.TheVariants.{DeclarationTail}
use Rattle.swc_ecma_codegen_emit.specs.Places.{Whole, Only}
use Rattle.swc_ecma_codegen_emit.specs.Answers.{place_of}
use Rattle.swc_ecma_codegen_emit.specs.Props as words
use Rattle.swc_ecma_codegen_emit.specs.Props.{object_format, flat_object_format}
use Rattle.swc_ecma_codegen_emit.proofs.BlockParts.{behind_bracket}
use Rattle.swc_ecma_codegen_emit.proofs.ExprParts.{ident_prints, spread_element_prints, writes_blank, writes_opened}
use Rattle.swc_ecma_codegen_emit.proofs.Linked.{Linked, expr_at, pat_at, prop_name_at, block_at}
use Rattle.swc_ecma_codegen_emit.proofs.MarkWords as marks
use Rattle.swc_ecma_codegen_emit.proofs.NameParts.{prop_name_prints}
use Rattle.swc_ecma_codegen_tokens.proofs.Filling.Shapes.{open_, loose, ended, ended_if_any}
use Rattle.swc_ecma_codegen_emit.proofs.Between.{punct_in}

-- ---- properties

writes_key_end : (env : Env) (key value : Span) → Fills env (words.key_end key value)
unfolding words.key_end
writes_key_end env key value = writes_if env (key.lo.0 == 0) (λ rest. rest) (λ rest. cond (value.lo.0 == 0) (position key.hi rest) rest) [] (writes_nothing env) (writes_if env (value.lo.0 == 0) (position key.hi) (λ rest. rest) [] (writes_position env key.hi) (writes_nothing env))

writes_value_start : (env : Env) (key value : Span) → Fills env (words.value_start key value)
unfolding words.value_start
writes_value_start env key value = writes_if env (key.lo.0 == 0) (position value.lo) (λ rest. rest) [] (writes_position env value.lo) (writes_nothing env)

key_value_prints : {X : Type 0} (l : Linked X) (n : KeyValueProp X) → Prints l.env (words.key_value_prop l.asks l.items n) (lists.key_value_prop l.reads n)
unfolding words.key_value_prop lists.key_value_prop
key_value_prints l n =
    let name : Span = prop_name_span n.key in
    let value : Span = (l.asks n.value.node.value).place in
    after (writes_opened l.env name)
    (then (prop_name_prints l n.key)
    (after (writes_key_end l.env name value)
    (then (before (prints_punct l.env (codes ":") marks.colon) (writes_formatting_space l.env))
    (after (writes_value_start l.env name value) (expr_at l n.value Plain)))))

assign_prints : {X : Type 0} (l : Linked X) (n : AssignProp X) → Prints l.env (words.assign_prop l.items n) (lists.assign_prop l.reads n)
unfolding words.assign_prop lists.assign_prop
assign_prints l n = after (writes_opened l.env n.key.span) (then (ident_prints l n.key) (then (prints_punct l.env (codes "=") marks.equal) (expr_at l n.value Plain)))

body_prints : {X : Type 0} (l : Linked X) (n : Option (BlockStmtBox X)) → PrintsAt open_ l.env (words.optional_body l.items n) (lists.optional_body l.reads n)
unfolding words.optional_body lists.optional_body
body_prints l None = prints_nothing
body_prints l (Some n) = prints_wider open_ refl (block_at l n Plain)

tight_annotation_prints : {X : Type 0} (l : Linked X) (n : Option (TsTypeAnnBox X)) → PrintsAt open_ l.env (words.tight_annotation l.items n) (annotation l.reads n)
unfolding words.tight_annotation annotation
tight_annotation_prints l None = prints_nothing
tight_annotation_prints l (Some n) = prints_wider open_ refl (then (prints_punct l.env (codes ":") marks.colon) (l.law n.node.value (Whole Plain) Annotation))

getter_prints : {X : Type 0} (l : Linked X) (n : GetterProp X) → Prints l.env (words.getter_prop l.asks l.items n) (lists.getter_prop l.reads n)
unfolding words.getter_prop words.accessor lists.getter_prop
getter_prints l n =
    after (writes_opened l.env n.span)
    (then (before (prints_keyword l.env None (codes "get") marks.get_word) (writes_blank l.env (l.asks n.key.node.value).starts))
    (then (before (prop_name_at l n.key) (writes_formatting_space l.env))
    (then (prints_punct l.env (codes "(") marks.left_parenthesis)
    (then (prints_punct l.env (codes ")") marks.right_parenthesis)
    (then (before (tight_annotation_prints l n.type_ann) (writes_formatting_space l.env)) (body_prints l n.body))))))

this_prints : {X : Type 0} (l : Linked X) (n : Option (PatBox X)) → PrintsAt ended_if_any l.env (words.this_param l.items n) (lists.this_param l.reads n)
unfolding words.this_param lists.this_param
this_prints l None = prints_wider ended_if_any refl prints_nothing
this_prints l (Some n) = prints_wider ended_if_any refl (then (pat_at l n) (before (prints_punct l.env (codes ",") marks.comma) (writes_formatting_space l.env)))

setter_prints : {X : Type 0} (l : Linked X) (n : SetterProp X) → Prints l.env (words.setter_prop l.asks l.items n) (lists.setter_prop l.reads n)
unfolding words.setter_prop words.accessor lists.setter_prop
setter_prints l n =
    after (writes_opened l.env n.span)
    (then (before (prints_keyword l.env None (codes "set") marks.set_word) (writes_blank l.env (l.asks n.key.node.value).starts))
    (then (before (prop_name_at l n.key) (writes_formatting_space l.env))
    (then (prints_punct l.env (codes "(") marks.left_parenthesis)
    (then (this_prints l n.this_param)
    (then (pat_at l n.param) (then (prints_punct l.env (codes ")") marks.right_parenthesis) (body_prints l n.body)))))))

method_prints : {X : Type 0} (l : Linked X) (n : MethodProp X) → PrintsAt ended l.env (words.method_prop l.asks l.items n) (lists.method_prop l.reads n)
unfolding words.method_prop lists.method_prop
method_prints l n =
    after (writes_opened l.env (prop_name_span n.key))
    (then (l.law n.function.node.value (Whole Plain) MethodHead)
    (then (before (prop_name_prints l n.key) (writes_formatting_space l.env)) (l.law n.function.node.value (Only DeclarationTail) Function)))

prop_prints : {X : Type 0} (l : Linked X) (n : Prop X) → PrintsAt ended l.env (words.prop l.asks l.items n) (lists.prop l.reads n)
unfolding words.prop lists.prop
prop_prints l (props.Shorthand n) = prints_wider ended refl (ident_prints l n)
prop_prints l (props.KeyValue n) = prints_wider ended refl (key_value_prints l n)
prop_prints l (props.Assign n) = prints_wider ended refl (assign_prints l n)
prop_prints l (props.Getter n) = prints_wider ended refl (getter_prints l n)
prop_prints l (props.Setter n) = prints_wider ended refl (setter_prints l n)
prop_prints l (props.Method n) = method_prints l n

prop_or_spread_prints : {X : Type 0} (l : Linked X) (n : PropOrSpread X) → PrintsAt ended l.env (words.prop_or_spread l.asks l.items n) (lists.prop_or_spread l.reads n)
unfolding words.prop_or_spread lists.prop_or_spread
prop_or_spread_prints l (prop_or_spreads.Spread n) = prints_wider ended refl (spread_element_prints l n)
prop_or_spread_prints l (prop_or_spreads.Prop n) = prop_prints l n

-- ---- objects

abbrev props_by : {X : Type 0} → Linked X → ℕ → ObjectLit X → Part
props_by l format n = list format n.span (children_of (prop_or_spread_span (place_of l.asks)) (words.prop_or_spread l.asks l.items) n.props.items)

abbrev closing : {X : Type 0} → ObjectLit X → Part
closing n rest = position_before n.span.hi (punct (codes "}") rest)

abbrev whole : {X : Type 0} → Linked X → ObjectLit X → Phrase
whole l n = mark (codes "{") > phrases.listed (codes ",") (map (lists.prop_or_spread l.reads) n.props.items) > mark (codes "}")

closing_prints : {X : Type 0} (env : Env) (n : ObjectLit X) → Prints env (closing n) (mark (codes "}"))
closing_prints env n = after (writes_position_before env n.span.hi) (prints_punct env (codes "}") marks.right_brace)

-- on one line
flat_prints : {X : Type 0} (l : Linked X) (n : ObjectLit X) → Prints l.env (λ rest. punct (codes "{") (props_by l flat_object_format n (closing n rest))) (whole l n)
flat_prints l n =
    then (prints_punct l.env (codes "{") marks.left_brace)
    (then (prints_list l.env flat_object_format n.span (prop_or_spread_span (place_of l.asks)) (words.prop_or_spread l.asks l.items) (lists.prop_or_spread l.reads) (λ n. prints_wider loose refl (prop_or_spread_prints l n)) refl refl refl refl n.props.items) (closing_prints l.env n))

-- over several lines
lines_prints : {X : Type 0} (l : Linked X) (n : ObjectLit X) → Prints l.env (λ rest. punct (codes "{") (line_end (props_by l object_format n (line_end (closing n rest))))) (whole l n)
lines_prints l n =
    prints_bracketed l.env (codes "{") marks.left_brace line_end (writes_line l.env) object_format n.span (prop_or_spread_span (place_of l.asks)) (words.prop_or_spread l.asks l.items) (lists.prop_or_spread l.reads) (mark (codes "}")) (λ rest. line_end (closing n rest))
    (λ n. prints_wider loose refl (prop_or_spread_prints l n)) refl refl refl (after (writes_line l.env) (closing_prints l.env n)) n.props.items

either_prints : {X : Type 0} (l : Linked X) (n : ObjectLit X) (some : Bool) → Prints l.env (λ rest. punct (codes "{") (words.object_lines some n.span (children_of (prop_or_spread_span (place_of l.asks)) (words.prop_or_spread l.asks l.items) n.props.items) (closing n rest))) (whole l n)
unfolding words.object_lines words.lined_object_list
either_prints l n true = lines_prints l n
either_prints l n false = flat_prints l n

props_print : {X : Type 0} (l : Linked X) (n : ObjectLit X) (some : Bool) → Prints l.env (λ rest. punct (codes "{") (words.object_list some n.span (children_of (prop_or_spread_span (place_of l.asks)) (words.prop_or_spread l.asks l.items) n.props.items) (closing n rest))) (whole l n)
unfolding words.object_list
props_print l n some =
    let flat : Part = props_by l flat_object_format n in
    let lines : Part = words.object_lines some n.span (children_of (prop_or_spread_span (place_of l.asks)) (words.prop_or_spread l.asks l.items) n.props.items) in
    elim (cases_Bool l.env.config.minify) [
      | inl small ↦ prints_same _ (λ rest. punct (codes "{") (flat (closing n rest))) (behind_bracket l.env (codes "{") (λ rest. when_minified flat lines (closing n rest)) (λ rest. flat (closing n rest)) (λ maps rest. minified_same flat lines (closing n rest) (at_maps maps l.env) small)) (flat_prints l n)
      | inr wide ↦ prints_same _ (λ rest. punct (codes "{") (lines (closing n rest))) (behind_bracket l.env (codes "{") (λ rest. when_minified flat lines (closing n rest)) (λ rest. lines (closing n rest)) (λ maps rest. pretty_same flat lines (closing n rest) (at_maps maps l.env) wide)) (either_prints l n some)
    ]

props_by_maps_print : {X : Type 0} (l : Linked X) (n : ObjectLit X) → Prints l.env (λ rest. punct (codes "{") (words.object_by_maps (is_some_listed n.props.items) n.span (children_of (prop_or_spread_span (place_of l.asks)) (words.prop_or_spread l.asks l.items) n.props.items) (closing n rest))) (whole l n)
unfolding words.object_by_maps by_maps
props_by_maps_print l n =
    let some : Bool = is_some_listed n.props.items in
    let children : List ListChild = children_of (prop_or_spread_span (place_of l.asks)) (words.prop_or_spread l.asks l.items) n.props.items in
    let lines : Maps → Part = λ maps rest. words.object_list (some || has_comment_inside n.span maps) n.span children (closing n rest) in
    let ask : Maps → Part = λ maps rest. punct (codes "{") (lines maps rest) in
    prints_same _ (by_maps ask) (λ maps rest. punct_in (codes "{") (words.object_by_maps some n.span children (closing n rest)) (lines maps rest) (at_maps maps l.env) refl) (prints_by_maps ask (λ maps. props_print l n (is_some_listed n.props.items || has_comment_inside n.span maps)))

pub object_lit_prints : {X : Type 0} (l : Linked X) (n : ObjectLit X) → Prints l.env (words.object_lit l.asks l.items n) (lists.object_lit l.reads n)
unfolding words.object_lit words.object_children lists.object_lit
object_lit_prints l n = after (writes_opened l.env n.span) (props_by_maps_print l n)
