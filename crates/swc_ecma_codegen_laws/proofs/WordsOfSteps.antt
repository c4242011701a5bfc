-- What holds of steps and of marks holds of all words.
use Rattle.std.proofs.Common.{◌≡◌, ℕ, Bool, true, false, if◌then◌else◌, List, codes, None}
use Rattle.swc_ecma_codegen_common.specs.declared.operators.AssignOp.{AssignOp}
use Rattle.swc_ecma_codegen_common.specs.declared.operators.BinaryOp.{BinaryOp}
use Rattle.swc_ecma_codegen_common.specs.declared.operators.UpdateOp.{UpdateOp}
use Rattle.swc_ecma_codegen_common.specs.Operators.{assign_text, update_text}
use Rattle.swc_ecma_codegen_common.specs.declared.positions.Span.{Span}
use Rattle.swc_ecma_codegen_tree.specs.declared.exprs.TplElement.{TplElement}
use Rattle.swc_ecma_codegen_tree.specs.declared.links.AnyNode.{AnyNode}
use Rattle.swc_ecma_codegen_grammar.specs.CommentMaps.{Maps}
use Rattle.swc_ecma_codegen_grammar.specs.Phrases.{closing_mark}
use Rattle.swc_ecma_codegen_grammar.specs.SourceLines.{Lines}
use Rattle.swc_ecma_codegen_tokens.specs.Lists.{ListChild, by_lines, list}
use Rattle.swc_ecma_codegen_tokens.specs.Run.{Part, Plan, no_part}
use Rattle.swc_ecma_codegen_tokens.specs.Run as run
use Rattle.swc_ecma_codegen_tokens.specs.Words as calls
use Rattle.swc_ecma_codegen_tokens.specs.Words.{by_maps, commit_pending_semi, placed_punct, punct}
use Rattle.swc_ecma_codegen_emit.specs.Blocks.{block_format, flat_block_format, block_list}
use Rattle.swc_ecma_codegen_emit.specs.Places.{Place}
use Rattle.swc_ecma_codegen_emit.specs.Exprs.{binary_op, space_if, yield_star}
use Rattle.swc_ecma_codegen_emit.specs.Templates.{tpl_parts}
use Rattle.swc_ecma_codegen_emit.specs.Tree.{any_items}
use Rattle.swc_ecma_codegen_emit.specs.FunctionExprs.{arrow_within, comma_list_format, parenthesis}
use Rattle.swc_ecma_codegen_emit.specs.Programs.{last_semi}
use Rattle.swc_ecma_codegen_emit.specs.Props.{flat_object_format, object_format, object_lines, object_list, lined_object_list}
use Rattle.swc_ecma_codegen_emit.specs.Stmts.{case_body, case_format, case_list}
use Rattle.swc_ecma_codegen_laws.specs.Breaks.{whole_node}
use Rattle.swc_ecma_codegen_laws.specs.Enclosing.{is_element, is_function}
use Rattle.swc_ecma_codegen_laws.proofs.Children.{ChildrenHold, NodesHold}
use Rattle.swc_ecma_codegen_laws.proofs.OfSteps.{OfSteps, either, either_at, when_minified_holds, by_lines_holds, by_maps_holds}
use Rattle.swc_ecma_codegen_laws.proofs.OfWords.{OfWords}
use Rattle.swc_ecma_codegen_laws.proofs.OneName.{HoldsOneName}
use Rattle.swc_ecma_codegen_laws.proofs.StepsOfAttributes.{attribute_string_holds, jsx_text_node_holds, jsx_text_lit_holds}
use Rattle.swc_ecma_codegen_laws.proofs.StepsOfChoices.{attributes_word_holds, empty_arguments_holds, loop_ending_holds}
use Rattle.swc_ecma_codegen_laws.proofs.StepsOfKeys.{key_holds}
use Rattle.swc_ecma_codegen_laws.proofs.StepsOfLists.{deeper_holds, shallower_holds, list_holds}
use Rattle.swc_ecma_codegen_laws.proofs.StepsOfLiterals.{hashbang_holds}
use Rattle.swc_ecma_codegen_laws.proofs.StepsOfLits.{str_lit_holds, bool_node_holds, number_lit_holds, number_object_holds, big_int_lit_holds, lit_holds}
use Rattle.swc_ecma_codegen_laws.proofs.StepsOfPrivateNames.{private_name_holds}
use Rattle.swc_ecma_codegen_laws.proofs.StepsOfTags.{child_open_holds, close_holds, tag_name_holds}
use Rattle.swc_ecma_codegen_laws.proofs.StepsOfWords.{keyword_holds, space_holds, formatting_space_holds, formatting_line_holds, line_end_holds, commit_pending_semi_holds, position_holds, last_of_holds, leading_comments_holds, trailing_comments_holds, comments_before_end_holds, name_holds, punct_between_holds, question_holds}

last_semi_holds : {holds : Bool → Part → Type 0} (steps : OfSteps holds) (bounded : Bool) → holds bounded last_semi
unfolding last_semi
last_semi_holds steps bounded = steps.by_env bounded (λ now rest env. if now.config.omit_last_semi then rest env else commit_pending_semi rest env) (λ now. either_at steps bounded now.config.omit_last_semi (steps.none bounded) (commit_pending_semi_holds steps bounded))

block_holds : {holds : Bool → Part → Type 0} (steps : OfSteps holds) (bounded some : Bool) (span : Span) (cs : List ListChild) → ChildrenHold holds bounded cs → holds bounded (block_list some span cs)
unfolding block_list
block_holds steps bounded some span cs h = when_minified_holds steps bounded (list flat_block_format span cs) (list_holds steps bounded flat_block_format span cs h) (list (if some then block_format else flat_block_format) span cs) (list_holds steps bounded (if some then block_format else flat_block_format) span cs h)

object_lines_hold : {holds : Bool → Part → Type 0} (steps : OfSteps holds) (bounded some : Bool) (span : Span) (cs : List ListChild) → ChildrenHold holds bounded cs → holds bounded (object_lines some span cs)
unfolding object_lines lined_object_list
object_lines_hold steps bounded some span cs h =
    either steps bounded some
    (steps.and_then bounded (line_end_holds steps bounded) (steps.and_then bounded (list_holds steps bounded object_format span cs h) (line_end_holds steps bounded)))
    (list_holds steps bounded flat_object_format span cs h)

object_holds : {holds : Bool → Part → Type 0} (steps : OfSteps holds) (bounded some : Bool) (span : Span) (cs : List ListChild) → ChildrenHold holds bounded cs → holds bounded (object_list some span cs)
unfolding object_list
object_holds steps bounded some span cs h = when_minified_holds steps bounded (list flat_object_format span cs) (list_holds steps bounded flat_object_format span cs h) (object_lines some span cs) (object_lines_hold steps bounded some span cs h)

case_holds : {holds : Bool → Part → Type 0} (steps : OfSteps holds) (bounded single : Bool) (span : Span) (cs : List ListChild) → ChildrenHold holds bounded cs → holds bounded (case_list single span cs)
unfolding case_list case_body space_if
case_holds steps bounded single span cs h =
    steps.and_then bounded (steps.punct bounded (codes ":"))
    (steps.and_then bounded (either steps bounded single (space_holds steps bounded) (steps.none bounded)) (list_holds steps bounded (case_format single) span cs h))

cases_hold : {holds : Bool → Part → Type 0} (steps : OfSteps holds) (bounded : Bool) (single : Lines → Bool) (span : Span) (cs : List ListChild) → ChildrenHold holds bounded cs → holds bounded (by_lines (λ lines. case_list (single lines) span cs))
cases_hold steps bounded single span cs h = by_lines_holds steps bounded (λ lines. case_list (single lines) span cs) (λ lines. case_holds steps bounded (single lines) span cs h)

parenthesis_holds : {holds : Bool → Part → Type 0} (steps : OfSteps holds) (bounded plain : Bool) (t : List ℕ) → holds bounded (parenthesis plain t)
unfolding parenthesis no_part
parenthesis_holds steps bounded plain t = either steps bounded plain (when_minified_holds steps bounded no_part (steps.none bounded) (punct t) (steps.punct bounded t)) (steps.punct bounded t)

parameters_hold : {holds : Bool → Part → Type 0} (steps : OfSteps holds) (bounded plain : Bool) (span : Span) (cs : List ListChild) → ChildrenHold holds bounded cs → holds bounded (arrow_within plain span cs)
unfolding arrow_within
parameters_hold steps bounded plain span cs h =
    steps.and_then bounded (parenthesis_holds steps bounded plain (codes "(")) (steps.and_then bounded (list_holds steps bounded comma_list_format span cs h) (parenthesis_holds steps bounded plain (codes ")")))

arrow_holds : {holds : Bool → Part → Type 0} (steps : OfSteps holds) (bounded : Bool) (plain : Maps → Bool) (span : Span) (cs : List ListChild) (result : Part) → ChildrenHold holds bounded cs → holds bounded result → ((maps : Maps) → plain maps ≡ true → (rest : Plan) → result rest ≡ rest) → ((maps : Maps) → plain maps ≡ true → HoldsOneName cs) → holds bounded (λ rest. by_maps (λ maps. arrow_within (plain maps) span cs) (result (punct (codes "=>") rest)))
arrow_holds steps bounded plain span cs result h k bare one =
    steps.and_then bounded (by_maps_holds steps bounded (λ maps. arrow_within (plain maps) span cs) (λ maps. parameters_hold steps bounded (plain maps) span cs h)) (steps.and_then bounded k (steps.punct bounded (codes "=>")))

-- It holds of punctuators without a place behind them where a line may be ended, of the dots before what is spread, of operators, and of
-- templates, elements, and functions without a body.
pub record OfMarks (holds : Bool → Part → Type 0) : Type 0 where
  pub bare_punct : (t : List ℕ) → holds false (calls.bare_punct t)
  pub ellipsis : (bounded : Bool) (span : Span) → holds bounded (placed_punct span (codes "..."))
  pub binary : (bounded : Bool) (op : BinaryOp) → holds bounded (λ rest. binary_op op (calls.allow_break rest))
  pub update_operator : (bounded : Bool) (op : UpdateOp) → holds bounded (calls.operator (update_text op))
  pub assign_operator : (bounded : Bool) (op : AssignOp) → holds bounded (calls.operator (assign_text op))
  pub yield_word : (bounded delegate : Bool) → holds bounded (λ rest. calls.keyword None (codes "yield") (yield_star delegate rest))
  pub template : (bounded tagged : Bool) (nodes : List AnyNode) (quasis : List TplElement) → NodesHold holds nodes → holds bounded (tpl_parts whole_node tagged nodes quasis)
  pub element : (bounded : Bool) (node : AnyNode) (place : Place) (inside : Part) → is_element node ≡ true → any_items node place ≡ run.unbounded inside → holds false inside → holds bounded (any_items node place)
  pub without_body : (bounded : Bool) (node : AnyNode) (place : Place) (head : Part) → is_function node ≡ true → any_items node place ≡ (λ rest. head (calls.bare_semi rest)) → holds bounded head → holds bounded (any_items node place)

pub words_of : {holds : Bool → Part → Type 0} → OfSteps holds → OfMarks holds → OfWords holds
words_of steps marks = record {
  none = steps.none;
  and_then = steps.and_then;
  refuse = steps.refuse;
  by_maps = by_maps_holds steps;
  space = space_holds steps;
  formatting_space = formatting_space_holds steps;
  formatting_line = formatting_line_holds steps;
  line_end = line_end_holds steps;
  deeper = deeper_holds steps;
  shallower = shallower_holds steps;
  commit_pending_semi = commit_pending_semi_holds steps;
  last_semi = last_semi_holds steps;
  position = position_holds steps;
  last_of = last_of_holds steps;
  leading_comments = leading_comments_holds steps;
  trailing_comments = trailing_comments_holds steps;
  comments_before_end = comments_before_end_holds steps;
  keyword = keyword_holds steps;
  punct = steps.punct;
  punct_between = punct_between_holds steps;
  question = question_holds steps;
  bare_punct = marks.bare_punct;
  ellipsis = marks.ellipsis;
  semi = steps.semi;
  loop_ending = loop_ending_holds steps;
  binary = marks.binary;
  update_operator = marks.update_operator;
  assign_operator = marks.assign_operator;
  yield_word = marks.yield_word;
  attributes_word = attributes_word_holds steps;
  bare_new = λ bounded callee types h. steps.and_then bounded (keyword_holds steps bounded None (codes "new")) (steps.and_then bounded h (empty_arguments_holds steps bounded));
  hashbang = hashbang_holds steps;
  name = name_holds steps;
  private_name = private_name_holds steps;
  key = key_holds steps;
  str_lit = str_lit_holds steps;
  bool_node = bool_node_holds steps;
  number_lit = number_lit_holds steps;
  number_object = number_object_holds steps;
  big_int_lit = big_int_lit_holds steps;
  lit = lit_holds steps;
  attribute_string = attribute_string_holds steps;
  jsx_text_node = jsx_text_node_holds steps;
  jsx_text_lit = jsx_text_lit_holds steps;
  tag_name = tag_name_holds steps;
  child_open = child_open_holds steps;
  close = close_holds steps;
  list = λ bounded format keeps. list_holds steps bounded format;
  closed_list = λ bounded format parent cs close may h. steps.and_then bounded (list_holds steps bounded format parent cs h) (steps.punct bounded (closing_mark close));
  block_list = block_holds steps;
  object_list = object_holds steps;
  case_list = cases_hold steps;
  arrow = arrow_holds steps;
  template = marks.template;
  element = marks.element;
  without_body = marks.without_body;
}
