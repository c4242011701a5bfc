-- Each word is written alike by any layout, but for what may differ: the laws of layouts are one instance of the induction over words.
use Rattle.std.proofs.Common.{◌≡◌, ℕ, Bool, true, false, if◌then◌else◌, List, [], ◌∷◌, codes, Option, refl, sym, subst}
use Rattle.swc_ecma_codegen_common.specs.Operators.{assign_text, update_text}
use Rattle.swc_ecma_codegen_common.specs.declared.positions.Span.{Span}
use Rattle.swc_ecma_codegen_grammar.specs.CommentMaps.{Maps}
use Rattle.swc_ecma_codegen_grammar.specs.Comments.{no_maps}
use Rattle.swc_ecma_codegen_grammar.specs.JsxPhrases.{text_spelling}
use Rattle.swc_ecma_codegen_grammar.specs.SourceLines.{Lines}
use Rattle.swc_ecma_codegen_grammar.specs.TemplatePhrases.{part_before}
use Rattle.swc_ecma_codegen_tree.specs.declared.exprs.TplElement.{TplElement}
use Rattle.swc_ecma_codegen_tree.specs.declared.links.AnyNode.{AnyNode}
use Rattle.swc_ecma_codegen_tokens.specs.Lists.{ListChild, by_lines, list}
use Rattle.swc_ecma_codegen_tokens.specs.Run.{Part, unbounded}
use Rattle.swc_ecma_codegen_tokens.specs.Words.{bare_semi, by_maps}
use Rattle.swc_ecma_codegen_emit.specs.Blocks.{block_format, block_list, flat_block_format}
use Rattle.swc_ecma_codegen_emit.specs.Exprs.{space_if}
use Rattle.swc_ecma_codegen_emit.specs.Props.{flat_object_format, lined_object_list, object_format, object_lines, object_list}
use Rattle.swc_ecma_codegen_emit.specs.Stmts.{case_body, case_format, case_list}
use Rattle.swc_ecma_codegen_emit.specs.Templates.{tpl_all, tpl_parts, tpl_rest}
use Rattle.swc_ecma_codegen_emit.specs.Tree.{any_items}
use Rattle.swc_ecma_codegen_emit.specs.Places.{Place}
use Rattle.swc_ecma_codegen_laws.specs.Breaks.{whole_node}
use Rattle.swc_ecma_codegen_laws.specs.Enclosing.{is_element, is_function}
use Rattle.swc_ecma_codegen_laws.proofs.Children.{ChildrenHold, NodesHold}
use Rattle.swc_ecma_codegen_laws.proofs.TwoLayouts.Arrows.{alike_arrow, alike_new}
use Rattle.swc_ecma_codegen_laws.proofs.TwoLayouts.Lists.{alike_closed, alike_list, both_formats}
use Rattle.swc_ecma_codegen_laws.proofs.TwoLayouts.Literals.{alike_attribute, alike_big_int, alike_element, alike_lit, alike_number, alike_number_object, alike_string, always_bool_node, always_text_lit}
use Rattle.swc_ecma_codegen_laws.proofs.TwoLayouts.Names.{alike_key, alike_name, alike_private_name}
use Rattle.swc_ecma_codegen_laws.proofs.TwoLayouts.Words.{alike_attributes_word, alike_loop_ending, always_bare_punct, always_bare_semi, always_before_end, always_binary, always_child_open, always_close, always_commit, always_deeper, always_ellipsis, always_formatting_line, always_formatting_space, always_hashbang, always_jsx_text, always_keyword, always_last_of, always_last_semi, always_leading, always_line_end, always_operator, always_position, always_punct, always_punct_between, always_question, always_semi, always_shallower, always_space, always_tag_name, always_trailing, always_yield}
use Rattle.swc_ecma_codegen_laws.proofs.OfWords.{OfWords}
use Rattle.swc_ecma_codegen_laws.proofs.TwoLayouts.Emissions.{TwoLayouts, Both, IsAlike, Always, always_if, always_none, alike_always, alike_refuse, alike_then, alike_within, both_always, both_as, both_minified, both_then}

alike_by_maps : {two : TwoLayouts} (bounded : Bool) (ask : Maps → Part) → ((maps : Maps) → IsAlike two bounded (ask maps)) → IsAlike two bounded (by_maps ask)
unfolding by_maps
alike_by_maps bounded ask h = record { at = λ x y. both_as (by_maps ask) (by_maps ask) (ask no_maps) (ask no_maps) (λ rest. refl) (λ rest. refl) ((h no_maps).at x y) }

-- ---- lists whose lines hang on the layout

both_flat : {two : TwoLayouts} (bounded : Bool) (x y : Option ℕ) (span : Span) (cs : List ListChild) → ChildrenHold (IsAlike two) bounded cs → Both two x y (list flat_object_format span cs) (list flat_object_format span cs)
both_flat bounded x y span cs h = both_formats bounded x y flat_object_format flat_object_format refl refl refl span cs h

-- with its lines, and without them
both_lined : {two : TwoLayouts} (bounded some : Bool) (x y : Option ℕ) (span : Span) (cs : List ListChild) → ChildrenHold (IsAlike two) bounded cs → Both two x y (object_lines some span cs) (object_lines some span cs)
unfolding object_lines lined_object_list
both_lined bounded true x y span cs h = both_then (both_always always_line_end always_line_end) (both_then (both_formats bounded x y object_format object_format refl refl refl span cs h) (both_always always_line_end always_line_end))
both_lined bounded false x y span cs h = both_flat bounded x y span cs h

both_flat_lined : {two : TwoLayouts} (bounded some : Bool) (x y : Option ℕ) (span : Span) (cs : List ListChild) → ChildrenHold (IsAlike two) bounded cs → Both two x y (list flat_object_format span cs) (object_lines some span cs)
unfolding object_lines lined_object_list
both_flat_lined bounded true x y span cs h = both_then (both_always always_none always_line_end) (both_then (both_formats bounded x y flat_object_format object_format refl refl refl span cs h) (both_always always_none always_line_end))
both_flat_lined bounded false x y span cs h = both_flat bounded x y span cs h

alike_object : {two : TwoLayouts} (bounded some : Bool) (span : Span) (cs : List ListChild) → ChildrenHold (IsAlike two) bounded cs → IsAlike two bounded (object_list some span cs)
unfolding object_list
alike_object bounded some span cs h = record {
  at = λ x y. both_minified (list flat_object_format span cs) (object_lines some span cs) (list flat_object_format span cs) (object_lines some span cs) (both_flat bounded x y span cs h) (λ e. both_flat_lined bounded some x y span cs h) (both_lined bounded some x y span cs h);
}

abbrev block_of : Bool → ℕ
block_of some = if some then block_format else flat_block_format

both_blocks : {two : TwoLayouts} (bounded some other : Bool) (x y : Option ℕ) (span : Span) (cs : List ListChild) → ChildrenHold (IsAlike two) bounded cs → Both two x y (list (block_of some) span cs) (list (block_of other) span cs)
both_blocks bounded true true x y span cs h = both_formats bounded x y block_format block_format refl refl refl span cs h
both_blocks bounded true false x y span cs h = both_formats bounded x y block_format flat_block_format refl refl refl span cs h
both_blocks bounded false true x y span cs h = both_formats bounded x y flat_block_format block_format refl refl refl span cs h
both_blocks bounded false false x y span cs h = both_formats bounded x y flat_block_format flat_block_format refl refl refl span cs h

alike_block : {two : TwoLayouts} (bounded some : Bool) (span : Span) (cs : List ListChild) → ChildrenHold (IsAlike two) bounded cs → IsAlike two bounded (block_list some span cs)
unfolding block_list
alike_block bounded some span cs h = record {
  at = λ x y. both_minified (list flat_block_format span cs) (list (block_of some) span cs) (list flat_block_format span cs) (list (block_of some) span cs) (both_blocks bounded false false x y span cs h) (λ e. both_blocks bounded false some x y span cs h) (both_blocks bounded some some x y span cs h);
}

both_cases : {two : TwoLayouts} (bounded single other : Bool) (x y : Option ℕ) (span : Span) (cs : List ListChild) → ChildrenHold (IsAlike two) bounded cs → Both two x y (list (case_format single) span cs) (list (case_format other) span cs)
both_cases bounded true true x y span cs h = both_formats bounded x y (case_format true) (case_format true) refl refl refl span cs h
both_cases bounded true false x y span cs h = both_formats bounded x y (case_format true) (case_format false) refl refl refl span cs h
both_cases bounded false true x y span cs h = both_formats bounded x y (case_format false) (case_format true) refl refl refl span cs h
both_cases bounded false false x y span cs h = both_formats bounded x y (case_format false) (case_format false) refl refl refl span cs h

always_space_if : (b : Bool) → Always (space_if b) []
unfolding space_if
always_space_if b = always_if b always_space always_none

alike_cases : {two : TwoLayouts} (bounded : Bool) (single : Lines → Bool) (span : Span) (cs : List ListChild) → ChildrenHold (IsAlike two) bounded cs → IsAlike two bounded (by_lines (λ lines. case_list (single lines) span cs))
unfolding by_lines case_list case_body
alike_cases {two} bounded single span cs h =
    let whole : Part = by_lines (λ lines. case_list (single lines) span cs) in
    let a : Bool = single two.first_lines in
    let b : Bool = single two.second_lines in
    record {
      at = λ x y.
          both_as whole whole (case_list a span cs) (case_list b span cs) (λ rest. refl) (λ rest. refl)
          (both_then (both_always (always_punct (codes ":")) (always_punct (codes ":"))) (both_then (both_always (always_space_if a) (always_space_if b)) (both_cases bounded a b x y span cs h)));
    }

-- ---- templates, elements, and functions without a body

alike_rest : {two : TwoLayouts} (tagged : Bool) (nodes : List AnyNode) (qs : List TplElement) → NodesHold (IsAlike two) nodes → IsAlike two false (tpl_rest whole_node tagged nodes qs)
unfolding tpl_rest NodesHold
alike_rest tagged [] qs h = alike_always false always_none
alike_rest tagged (p ∷ ps) [] h = alike_always false always_none
alike_rest tagged (p ∷ ps) (q ∷ qs) h = alike_then false h.0 (alike_then false (alike_element false false (part_before tagged qs) q) (alike_rest tagged ps qs h.1))

alike_all : {two : TwoLayouts} (tagged : Bool) (nodes : List AnyNode) (qs : List TplElement) → NodesHold (IsAlike two) nodes → IsAlike two false (tpl_all whole_node tagged nodes qs)
unfolding tpl_all
alike_all tagged nodes [] h = alike_always false always_none
alike_all tagged nodes (q ∷ qs) h = alike_then false (alike_element false true (part_before tagged qs) q) (alike_rest tagged nodes qs h)

alike_template : {two : TwoLayouts} (bounded tagged : Bool) (nodes : List AnyNode) (quasis : List TplElement) → NodesHold (IsAlike two) nodes → IsAlike two bounded (tpl_parts whole_node tagged nodes quasis)
unfolding tpl_parts
alike_template bounded tagged nodes quasis h = alike_within bounded (tpl_all whole_node tagged nodes quasis) (alike_all tagged nodes quasis h)

alike_in_element : {two : TwoLayouts} (bounded : Bool) (node : AnyNode) (place : Place) (inside : Part) → is_element node ≡ true → any_items node place ≡ unbounded inside → IsAlike two false inside → IsAlike two bounded (any_items node place)
alike_in_element {two} bounded node place inside f q h = subst (λ (z : Part). IsAlike two bounded z) (sym q) (alike_within bounded inside h)

alike_bodiless : {two : TwoLayouts} (bounded : Bool) (node : AnyNode) (place : Place) (head : Part) → is_function node ≡ true → any_items node place ≡ (λ rest. head (bare_semi rest)) → IsAlike two bounded head → IsAlike two bounded (any_items node place)
alike_bodiless {two} bounded node place head f q h = subst (λ (z : Part). IsAlike two bounded z) (sym q) (alike_then bounded h (alike_always bounded always_bare_semi))

pub layout_words : (two : TwoLayouts) → OfWords (IsAlike two)
layout_words two = record {
  none = λ bounded. alike_always bounded always_none;
  and_then = alike_then;
  refuse = alike_refuse;
  by_maps = alike_by_maps;
  space = λ bounded. alike_always bounded always_space;
  formatting_space = λ bounded. alike_always bounded always_formatting_space;
  formatting_line = λ bounded. alike_always bounded always_formatting_line;
  line_end = λ bounded. alike_always bounded always_line_end;
  deeper = λ bounded. alike_always bounded always_deeper;
  shallower = λ bounded. alike_always bounded always_shallower;
  commit_pending_semi = λ bounded. alike_always bounded always_commit;
  last_semi = λ bounded. alike_always bounded always_last_semi;
  position = λ bounded pos. alike_always bounded (always_position pos);
  last_of = λ bounded span. alike_always bounded (always_last_of span);
  leading_comments = λ bounded pos. alike_always bounded (always_leading pos);
  trailing_comments = λ bounded prefix_space pos. alike_always bounded (always_trailing prefix_space pos);
  comments_before_end = λ bounded pos. alike_always bounded (always_before_end pos);
  keyword = λ bounded span t. alike_always bounded (always_keyword span t);
  punct = λ bounded t. alike_always bounded (always_punct t);
  punct_between = λ bounded t. alike_always bounded (always_punct_between t);
  question = λ bounded optional. alike_always bounded (always_question optional);
  bare_punct = λ t. alike_always false (always_bare_punct t);
  ellipsis = λ bounded span. alike_always bounded (always_ellipsis span);
  semi = λ bounded. alike_always bounded always_semi;
  loop_ending = alike_loop_ending;
  binary = λ bounded op. alike_always bounded (always_binary op);
  update_operator = λ bounded op. alike_always bounded (always_operator (update_text op));
  assign_operator = λ bounded op. alike_always bounded (always_operator (assign_text op));
  yield_word = λ bounded delegate. alike_always bounded (always_yield delegate);
  attributes_word = alike_attributes_word;
  bare_new = alike_new;
  hashbang = λ bounded t. alike_always bounded (always_hashbang t);
  name = alike_name;
  private_name = alike_private_name;
  key = alike_key;
  str_lit = λ bounded n. alike_string bounded false n;
  bool_node = λ bounded n. alike_always bounded (always_bool_node n);
  number_lit = λ bounded n. alike_number bounded false n;
  number_object = alike_number_object;
  big_int_lit = λ bounded n. alike_big_int bounded false n;
  lit = alike_lit;
  attribute_string = alike_attribute;
  jsx_text_node = λ bounded n. alike_always bounded (always_jsx_text n.span (text_spelling n));
  jsx_text_lit = λ bounded n. alike_always bounded (always_text_lit n);
  tag_name = λ bounded span t. alike_always bounded (always_tag_name span t);
  child_open = λ t. alike_always false (always_child_open t);
  close = λ bounded. alike_always bounded always_close;
  list = alike_list;
  closed_list = alike_closed;
  block_list = alike_block;
  object_list = alike_object;
  case_list = alike_cases;
  arrow = alike_arrow;
  template = alike_template;
  element = alike_in_element;
  without_body = alike_bodiless;
}
