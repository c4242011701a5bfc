-- No state of the machine takes two tokens that begin alike, as `/` and a regular expression.
use Rattle.std.proofs.Common.{◌≡◌, Bool, true, false, ◌||◌, ◌&&◌, not, ◌⊎◌, inl, inr, List, [], ◌∷◌, None, Some, refl, sym, ap, ◌∙◌}
use Rattle.std.proofs.lemmas.Bool.{true≢false, or_cases, and_parts, or_right, not-true, and_from}
use Rattle.swc_ecma_codegen_grammar.specs.Tokens.{Token}
use Rattle.swc_ecma_codegen_syntax.specs.Nonterminals.{is_member, is_new, is_call, is_callee, is_chained, is_left_hand_side, is_update, is_unary, is_exponentiation, is_multiplicative, is_additive, is_shift, is_relational, is_in_left, is_equality, is_bitwise_and, is_bitwise_xor, is_bitwise_or, is_logical_and, is_logical_or, is_coalesce_head, is_short_circuit, is_conditional, is_assignment, is_expression, is_assignment_target, is_pattern_target, is_pattern_element, is_last_element, is_coalesce, is_private, is_optional, is_primary, is_template, is_property_name, is_chain_link, is_assignment_pattern, is_pattern_name, is_rest, is_statement, is_hoistable_declaration, is_block, is_variable_declarations, is_declaration, is_statement_list_item, is_labelled_item, is_module_declaration, is_exported_head, is_function_head, is_generator_head, is_async_function_head, is_async_generator_head, is_function_tail, is_getter_tail, is_setter_tail, is_method_head, is_decorator_list, is_class_head, is_class_tail, is_class_element, is_constructor_name, is_any_function_head, is_head_without_yield, is_head_without_await, is_any_property_name, is_jsx_element, is_jsx_object, is_uncovered, takes}
use Rattle.swc_ecma_codegen_uniqueness.specs.ParseTrees.{End, Node, TaggedTpl}
use Rattle.swc_ecma_codegen_uniqueness.proofs.Classes.{Power, Over, Class, Infix, Assigns, RegexToken, CloseBrace, Later, class, First, Line, Twice, FatArrow, Semi, Semicolon, Slashed, Jsx, JsxPart, TagName, TagString, TagClose, TagText, ChildTagMark, ChildBraceMark, Plus, KeyToken, is_reserved_word, Strange, NameToken}
use Rattle.swc_ecma_codegen_uniqueness.proofs.Controls.{OfInfix, Control, Open, InList, Statement, Substitution, entered, as_expression, variant_of, OpenTag, InTag, AttributeValue, AttributeElement, SelfClosing, ChildTag, Children, ClosingTag, ClosingName, Tail, AfterYield, AfterNew, YieldLine, Listed}
use Rattle.swc_ecma_codegen_uniqueness.proofs.Tables.{Action, Reduce, Take, Keep, EnterBelow, Merge, Reject, without, with_operand, decide, Shift, Begin, Splice}
use Rattle.swc_ecma_codegen_uniqueness.proofs.TableLaws.{if_so, told}
use Rattle.swc_ecma_codegen_uniqueness.proofs.Machine.{Hand, Empty, Full, held, sign, Frame, State, At, Fail, within, acted_once, acted, step, next, spliced}
use Rattle.swc_ecma_codegen_uniqueness.proofs.JsxParts.{begins_like, open_tag_named, in_tag_named, child_tag_named, closing_tag_named, closing_name_named, attribute_named, angled_rejected, attribute_angled, value_quoted, children_refuse, children_less, children_brace}

-- ---- what is asked of the tables

-- what leads to no state, where an item was just taken, or where what was begun is of an expression
abbrev is_refused : Action → Bool
is_refused Take = true
is_refused Keep = true
is_refused EnterBelow = true
is_refused Merge = true
is_refused Reject = true
is_refused a = false

abbrev either : Action → Action → Bool
either a b = is_refused a || is_refused b

-- One of the two tokens is refused, or both do the same, and the state that is left is asked again.
abbrev apart : Action → Action → Bool
apart Reject b = true
apart Reduce Reduce = true
apart Take Take = true
apart Keep Keep = true
apart EnterBelow EnterBelow = true
apart a Reject = true
apart a b = false

abbrev keeps : Action → Bool
keeps Take = true
keeps Keep = true
keeps a = false

abbrev lowers : Action → Bool
lowers EnterBelow = true
lowers a = false

-- two tokens that begin alike, and which goals of the lexical grammar tell: `/` and a regular expression, `}` and the rest of a template; and parts of a template
-- with a tag and without. Nor does a state take `++` or `=>`, and `[no LineTerminator here]` before it; nor the `;` that ends a statement, and that of an empty one;
-- nor a reserved word, and the name of its letters; nor what is no word of the grammar, and a name; nor a token of JSX and one that begins like it.
pub data Rivals : Class → Class → Type 0 where
  divides : Rivals (Infix Over) RegexToken
  divides_in_place : Rivals (Assigns Slashed) RegexToken
  closes : {tagged opens : Bool} → Rivals CloseBrace (Later tagged opens)
  tags : {opens other : Bool} → Rivals (First true opens) (First false other)
  goes_on_with_tag : {opens other : Bool} → Rivals (Later true opens) (Later false other)
  stays : Rivals Line Twice
  stays_too : Rivals Line FatArrow
  finishes : Rivals Semi Semicolon
  spells : {l : Class} → is_reserved_word l ≡ true → Rivals l KeyToken
  unknown : Rivals Strange NameToken
  by_jsx : {part : JsxPart} {l : Class} → begins_like part l ≡ true → Rivals (Jsx part) l

abbrev none_apart : Control → Class → Class → Bool
none_apart c l r = apart (without c l) (without c r)

none_over : (c : Control) → none_apart c (Infix Over) RegexToken ≡ true
unfolding is_member is_new is_call is_callee is_chained is_left_hand_side is_update is_unary is_exponentiation is_multiplicative is_additive is_shift is_relational is_in_left is_equality is_bitwise_and is_bitwise_xor is_bitwise_or is_logical_and is_logical_or is_coalesce_head is_short_circuit is_conditional is_assignment is_expression is_assignment_target is_pattern_target is_pattern_element is_last_element is_coalesce is_private is_optional is_primary is_template is_property_name is_chain_link is_assignment_pattern is_pattern_name is_rest is_statement is_hoistable_declaration is_block is_variable_declarations is_declaration is_statement_list_item is_labelled_item is_module_declaration is_exported_head is_function_head is_generator_head is_async_function_head is_async_generator_head is_function_tail is_getter_tail is_setter_tail is_method_head is_decorator_list is_class_head is_class_tail is_class_element is_constructor_name is_any_function_head is_head_without_yield is_head_without_await is_any_property_name is_jsx_element is_jsx_object is_uncovered takes
none_over (Statement (InList ends)) = refl
none_over c = refl

none_assigns : (c : Control) → none_apart c (Assigns Slashed) RegexToken ≡ true
unfolding is_member is_new is_call is_callee is_chained is_left_hand_side is_update is_unary is_exponentiation is_multiplicative is_additive is_shift is_relational is_in_left is_equality is_bitwise_and is_bitwise_xor is_bitwise_or is_logical_and is_logical_or is_coalesce_head is_short_circuit is_conditional is_assignment is_expression is_assignment_target is_pattern_target is_pattern_element is_last_element is_coalesce is_private is_optional is_primary is_template is_property_name is_chain_link is_assignment_pattern is_pattern_name is_rest is_statement is_hoistable_declaration is_block is_variable_declarations is_declaration is_statement_list_item is_labelled_item is_module_declaration is_exported_head is_function_head is_generator_head is_async_function_head is_async_generator_head is_function_tail is_getter_tail is_setter_tail is_method_head is_decorator_list is_class_head is_class_tail is_class_element is_constructor_name is_any_function_head is_head_without_yield is_head_without_await is_any_property_name is_jsx_element is_jsx_object is_uncovered takes
none_assigns (Statement (InList ends)) = refl
none_assigns c = refl

none_brace : (c : Control) (tagged opens : Bool) → none_apart c CloseBrace (Later tagged opens) ≡ true
unfolding is_member is_new is_call is_callee is_chained is_left_hand_side is_update is_unary is_exponentiation is_multiplicative is_additive is_shift is_relational is_in_left is_equality is_bitwise_and is_bitwise_xor is_bitwise_or is_logical_and is_logical_or is_coalesce_head is_short_circuit is_conditional is_assignment is_expression is_assignment_target is_pattern_target is_pattern_element is_last_element is_coalesce is_private is_optional is_primary is_template is_property_name is_chain_link is_assignment_pattern is_pattern_name is_rest is_statement is_hoistable_declaration is_block is_variable_declarations is_declaration is_statement_list_item is_labelled_item is_module_declaration is_exported_head is_function_head is_generator_head is_async_function_head is_async_generator_head is_function_tail is_getter_tail is_setter_tail is_method_head is_decorator_list is_class_head is_class_tail is_class_element is_constructor_name is_any_function_head is_head_without_yield is_head_without_await is_any_property_name is_jsx_element is_jsx_object is_uncovered takes
none_brace (Statement (InList ends)) tagged opens = refl
none_brace c tagged opens = refl

none_tags : (c : Control) (opens other : Bool) → none_apart c (First true opens) (First false other) ≡ true
unfolding is_member is_new is_call is_callee is_chained is_left_hand_side is_update is_unary is_exponentiation is_multiplicative is_additive is_shift is_relational is_in_left is_equality is_bitwise_and is_bitwise_xor is_bitwise_or is_logical_and is_logical_or is_coalesce_head is_short_circuit is_conditional is_assignment is_expression is_assignment_target is_pattern_target is_pattern_element is_last_element is_coalesce is_private is_optional is_primary is_template is_property_name is_chain_link is_assignment_pattern is_pattern_name is_rest is_statement is_hoistable_declaration is_block is_variable_declarations is_declaration is_statement_list_item is_labelled_item is_module_declaration is_exported_head is_function_head is_generator_head is_async_function_head is_async_generator_head is_function_tail is_getter_tail is_setter_tail is_method_head is_decorator_list is_class_head is_class_tail is_class_element is_constructor_name is_any_function_head is_head_without_yield is_head_without_await is_any_property_name is_jsx_element is_jsx_object is_uncovered takes
none_tags (Statement (InList ends)) opens other = refl
none_tags c opens other = refl

none_later : (c : Control) (opens other : Bool) → none_apart c (Later true opens) (Later false other) ≡ true
unfolding is_member is_new is_call is_callee is_chained is_left_hand_side is_update is_unary is_exponentiation is_multiplicative is_additive is_shift is_relational is_in_left is_equality is_bitwise_and is_bitwise_xor is_bitwise_or is_logical_and is_logical_or is_coalesce_head is_short_circuit is_conditional is_assignment is_expression is_assignment_target is_pattern_target is_pattern_element is_last_element is_coalesce is_private is_optional is_primary is_template is_property_name is_chain_link is_assignment_pattern is_pattern_name is_rest is_statement is_hoistable_declaration is_block is_variable_declarations is_declaration is_statement_list_item is_labelled_item is_module_declaration is_exported_head is_function_head is_generator_head is_async_function_head is_async_generator_head is_function_tail is_getter_tail is_setter_tail is_method_head is_decorator_list is_class_head is_class_tail is_class_element is_constructor_name is_any_function_head is_head_without_yield is_head_without_await is_any_property_name is_jsx_element is_jsx_object is_uncovered takes
none_later (Statement (InList ends)) opens other = refl
none_later c opens other = refl

none_twice : (c : Control) → none_apart c Line Twice ≡ true
unfolding is_member is_new is_call is_callee is_chained is_left_hand_side is_update is_unary is_exponentiation is_multiplicative is_additive is_shift is_relational is_in_left is_equality is_bitwise_and is_bitwise_xor is_bitwise_or is_logical_and is_logical_or is_coalesce_head is_short_circuit is_conditional is_assignment is_expression is_assignment_target is_pattern_target is_pattern_element is_last_element is_coalesce is_private is_optional is_primary is_template is_property_name is_chain_link is_assignment_pattern is_pattern_name is_rest is_statement is_hoistable_declaration is_block is_variable_declarations is_declaration is_statement_list_item is_labelled_item is_module_declaration is_exported_head is_function_head is_generator_head is_async_function_head is_async_generator_head is_function_tail is_getter_tail is_setter_tail is_method_head is_decorator_list is_class_head is_class_tail is_class_element is_constructor_name is_any_function_head is_head_without_yield is_head_without_await is_any_property_name is_jsx_element is_jsx_object is_uncovered takes
none_twice (Statement (InList ends)) = refl
none_twice c = refl

none_arrow : (c : Control) → none_apart c Line FatArrow ≡ true
unfolding is_member is_new is_call is_callee is_chained is_left_hand_side is_update is_unary is_exponentiation is_multiplicative is_additive is_shift is_relational is_in_left is_equality is_bitwise_and is_bitwise_xor is_bitwise_or is_logical_and is_logical_or is_coalesce_head is_short_circuit is_conditional is_assignment is_expression is_assignment_target is_pattern_target is_pattern_element is_last_element is_coalesce is_private is_optional is_primary is_template is_property_name is_chain_link is_assignment_pattern is_pattern_name is_rest is_statement is_hoistable_declaration is_block is_variable_declarations is_declaration is_statement_list_item is_labelled_item is_module_declaration is_exported_head is_function_head is_generator_head is_async_function_head is_async_generator_head is_function_tail is_getter_tail is_setter_tail is_method_head is_decorator_list is_class_head is_class_tail is_class_element is_constructor_name is_any_function_head is_head_without_yield is_head_without_await is_any_property_name is_jsx_element is_jsx_object is_uncovered takes
none_arrow (Statement (InList ends)) = refl
none_arrow c = refl

none_semi : (c : Control) → none_apart c Semi Semicolon ≡ true
unfolding is_member is_new is_call is_callee is_chained is_left_hand_side is_update is_unary is_exponentiation is_multiplicative is_additive is_shift is_relational is_in_left is_equality is_bitwise_and is_bitwise_xor is_bitwise_or is_logical_and is_logical_or is_coalesce_head is_short_circuit is_conditional is_assignment is_expression is_assignment_target is_pattern_target is_pattern_element is_last_element is_coalesce is_private is_optional is_primary is_template is_property_name is_chain_link is_assignment_pattern is_pattern_name is_rest is_statement is_hoistable_declaration is_block is_variable_declarations is_declaration is_statement_list_item is_labelled_item is_module_declaration is_exported_head is_function_head is_generator_head is_async_function_head is_async_generator_head is_function_tail is_getter_tail is_setter_tail is_method_head is_decorator_list is_class_head is_class_tail is_class_element is_constructor_name is_any_function_head is_head_without_yield is_head_without_await is_any_property_name is_jsx_element is_jsx_object is_uncovered takes
none_semi (Statement (InList ends)) = refl
none_semi c = refl

none_unknown : (c : Control) → none_apart c Strange NameToken ≡ true
unfolding is_member is_new is_call is_callee is_chained is_left_hand_side is_update is_unary is_exponentiation is_multiplicative is_additive is_shift is_relational is_in_left is_equality is_bitwise_and is_bitwise_xor is_bitwise_or is_logical_and is_logical_or is_coalesce_head is_short_circuit is_conditional is_assignment is_expression is_assignment_target is_pattern_target is_pattern_element is_last_element is_coalesce is_private is_optional is_primary is_template is_property_name is_chain_link is_assignment_pattern is_pattern_name is_rest is_statement is_hoistable_declaration is_block is_variable_declarations is_declaration is_statement_list_item is_labelled_item is_module_declaration is_exported_head is_function_head is_generator_head is_async_function_head is_async_generator_head is_function_tail is_getter_tail is_setter_tail is_method_head is_decorator_list is_class_head is_class_tail is_class_element is_constructor_name is_any_function_head is_head_without_yield is_head_without_await is_any_property_name is_jsx_element is_jsx_object is_uncovered takes
none_unknown (Statement (InList ends)) = refl
none_unknown c = refl

right_rejects : (a : Action) → apart a Reject ≡ true
right_rejects Reject = refl
right_rejects a = refl

right_refused : (a : Action) {b : Action} → b ≡ Reject → apart a b ≡ true
right_refused a e = ap (apart a) e ∙ right_rejects a

rejects_none : (c : Control) (part : JsxPart) (l : Class) → without c (Jsx part) ≡ Reject → none_apart c (Jsx part) l ≡ true
rejects_none c part l e = ap (λ a. apart a (without c l)) e

yield_rejects : (part : JsxPart) → without AfterYield (Jsx part) ≡ Reject
unfolding is_member is_new is_call is_callee is_chained is_left_hand_side is_update is_unary is_exponentiation is_multiplicative is_additive is_shift is_relational is_in_left is_equality is_bitwise_and is_bitwise_xor is_bitwise_or is_logical_and is_logical_or is_coalesce_head is_short_circuit is_conditional is_assignment is_expression is_assignment_target is_pattern_target is_pattern_element is_last_element is_coalesce is_private is_optional is_primary is_template is_property_name is_chain_link is_assignment_pattern is_pattern_name is_rest is_statement is_hoistable_declaration is_block is_variable_declarations is_declaration is_statement_list_item is_labelled_item is_module_declaration is_exported_head is_function_head is_generator_head is_async_function_head is_async_generator_head is_function_tail is_getter_tail is_setter_tail is_method_head is_decorator_list is_class_head is_class_tail is_class_element is_constructor_name is_any_function_head is_head_without_yield is_head_without_await is_any_property_name is_jsx_element is_jsx_object is_uncovered takes
yield_rejects TagName = refl
yield_rejects part = refl

none_jsx : (c : Control) (part : JsxPart) (l : Class) → begins_like part l ≡ true → none_apart c (Jsx part) l ≡ true
unfolding is_member is_new is_call is_callee is_chained is_left_hand_side is_update is_unary is_exponentiation is_multiplicative is_additive is_shift is_relational is_in_left is_equality is_bitwise_and is_bitwise_xor is_bitwise_or is_logical_and is_logical_or is_coalesce_head is_short_circuit is_conditional is_assignment is_expression is_assignment_target is_pattern_target is_pattern_element is_last_element is_coalesce is_private is_optional is_primary is_template is_property_name is_chain_link is_assignment_pattern is_pattern_name is_rest is_statement is_hoistable_declaration is_block is_variable_declarations is_declaration is_statement_list_item is_labelled_item is_module_declaration is_exported_head is_function_head is_generator_head is_async_function_head is_async_generator_head is_function_tail is_getter_tail is_setter_tail is_method_head is_decorator_list is_class_head is_class_tail is_class_element is_constructor_name is_any_function_head is_head_without_yield is_head_without_await is_any_property_name is_jsx_element is_jsx_object is_uncovered takes
none_jsx OpenTag TagName l h = right_refused Shift (open_tag_named l h)
none_jsx OpenTag TagClose l h = right_refused Shift (angled_rejected OpenTag l refl h)
none_jsx InTag TagName l h = right_refused Shift (in_tag_named l h)
none_jsx InTag TagClose l h = right_refused Shift (angled_rejected InTag l refl h)
none_jsx AttributeValue TagString l h = right_refused Shift (value_quoted l h)
none_jsx SelfClosing TagClose l h = right_refused Shift (angled_rejected SelfClosing l refl h)
none_jsx ChildTag TagName l h = right_refused Shift (child_tag_named l h)
none_jsx ChildTag TagClose l h = right_refused Shift (angled_rejected ChildTag l refl h)
none_jsx Children TagText l h = right_refused Shift (children_refuse l h)
none_jsx Children ChildTagMark l h = right_refused Begin (children_less l h)
none_jsx Children ChildBraceMark l h = right_refused Shift (children_brace l h)
none_jsx ClosingTag TagName l h = right_refused Shift (closing_tag_named l h)
none_jsx ClosingTag TagClose l h = right_refused Shift (angled_rejected ClosingTag l refl h)
none_jsx ClosingName TagName l h = right_refused Shift (closing_name_named l h)
none_jsx ClosingName TagClose l h = right_refused Shift (angled_rejected ClosingName l refl h)
none_jsx AfterYield part l h = rejects_none AfterYield part l (yield_rejects part)
none_jsx (Statement (InList ends)) part l h = refl
none_jsx c part l h = refl

none_word_test : (c : Control) (l : Class) → if_so (is_reserved_word l) (none_apart c l KeyToken) ≡ true
unfolding is_member is_new is_call is_callee is_chained is_left_hand_side is_update is_unary is_exponentiation is_multiplicative is_additive is_shift is_relational is_in_left is_equality is_bitwise_and is_bitwise_xor is_bitwise_or is_logical_and is_logical_or is_coalesce_head is_short_circuit is_conditional is_assignment is_expression is_assignment_target is_pattern_target is_pattern_element is_last_element is_coalesce is_private is_optional is_primary is_template is_property_name is_chain_link is_assignment_pattern is_pattern_name is_rest is_statement is_hoistable_declaration is_block is_variable_declarations is_declaration is_statement_list_item is_labelled_item is_module_declaration is_exported_head is_function_head is_generator_head is_async_function_head is_async_generator_head is_function_tail is_getter_tail is_setter_tail is_method_head is_decorator_list is_class_head is_class_tail is_class_element is_constructor_name is_any_function_head is_head_without_yield is_head_without_await is_any_property_name is_jsx_element is_jsx_object is_uncovered takes
none_word_test (Statement (InList ends)) (Infix Plus) = refl
none_word_test c (Infix Plus) = refl
none_word_test (Statement (InList ends)) (First true opens) = refl
none_word_test c (First true opens) = refl
none_word_test (Statement (InList ends)) l = refl
none_word_test c l = refl

none_word : (c : Control) (l : Class) → is_reserved_word l ≡ true → none_apart c l KeyToken ≡ true
none_word c l h = told _ _ (none_word_test c l) h

none_test : (c : Control) {l r : Class} → Rivals l r → none_apart c l r ≡ true
none_test c divides = none_over c
none_test c divides_in_place = none_assigns c
none_test c (closes {tagged = tagged} {opens = opens}) = none_brace c tagged opens
none_test c (tags {opens = opens} {other = other}) = none_tags c opens other
none_test c (goes_on_with_tag {opens = opens} {other = other}) = none_later c opens other
none_test c stays = none_twice c
none_test c stays_too = none_arrow c
none_test c finishes = none_semi c
none_test c unknown = none_unknown c
none_test c (spells {l = l} h) = none_word c l h
none_test c (by_jsx {part = part} {l = l} h) = none_jsx c part l h

-- with a node at hand; behind an item the list goes on as if it held nothing
abbrev held_apart : Control → Class → Class → Bool
held_apart c l r = apart (with_operand c l) (with_operand c r) && (if_so (keeps (with_operand c l)) (either (without c l) (without c r)) && not (lowers (with_operand c l)))

held_over : (c : Control) → held_apart c (Infix Over) RegexToken ≡ true
unfolding is_member is_new is_call is_callee is_chained is_left_hand_side is_update is_unary is_exponentiation is_multiplicative is_additive is_shift is_relational is_in_left is_equality is_bitwise_and is_bitwise_xor is_bitwise_or is_logical_and is_logical_or is_coalesce_head is_short_circuit is_conditional is_assignment is_expression is_assignment_target is_pattern_target is_pattern_element is_last_element is_coalesce is_private is_optional is_primary is_template is_property_name is_chain_link is_assignment_pattern is_pattern_name is_rest is_statement is_hoistable_declaration is_block is_variable_declarations is_declaration is_statement_list_item is_labelled_item is_module_declaration is_exported_head is_function_head is_generator_head is_async_function_head is_async_generator_head is_function_tail is_getter_tail is_setter_tail is_method_head is_decorator_list is_class_head is_class_tail is_class_element is_constructor_name is_any_function_head is_head_without_yield is_head_without_await is_any_property_name is_jsx_element is_jsx_object is_uncovered takes
held_over (Open (OfInfix Power)) = refl
held_over (Statement (InList ends)) = refl
held_over c = refl

held_assigns : (c : Control) → held_apart c (Assigns Slashed) RegexToken ≡ true
unfolding is_member is_new is_call is_callee is_chained is_left_hand_side is_update is_unary is_exponentiation is_multiplicative is_additive is_shift is_relational is_in_left is_equality is_bitwise_and is_bitwise_xor is_bitwise_or is_logical_and is_logical_or is_coalesce_head is_short_circuit is_conditional is_assignment is_expression is_assignment_target is_pattern_target is_pattern_element is_last_element is_coalesce is_private is_optional is_primary is_template is_property_name is_chain_link is_assignment_pattern is_pattern_name is_rest is_statement is_hoistable_declaration is_block is_variable_declarations is_declaration is_statement_list_item is_labelled_item is_module_declaration is_exported_head is_function_head is_generator_head is_async_function_head is_async_generator_head is_function_tail is_getter_tail is_setter_tail is_method_head is_decorator_list is_class_head is_class_tail is_class_element is_constructor_name is_any_function_head is_head_without_yield is_head_without_await is_any_property_name is_jsx_element is_jsx_object is_uncovered takes
held_assigns (Open (OfInfix Power)) = refl
held_assigns (Statement (InList ends)) = refl
held_assigns c = refl

held_brace : (c : Control) (tagged opens : Bool) → held_apart c CloseBrace (Later tagged opens) ≡ true
unfolding is_member is_new is_call is_callee is_chained is_left_hand_side is_update is_unary is_exponentiation is_multiplicative is_additive is_shift is_relational is_in_left is_equality is_bitwise_and is_bitwise_xor is_bitwise_or is_logical_and is_logical_or is_coalesce_head is_short_circuit is_conditional is_assignment is_expression is_assignment_target is_pattern_target is_pattern_element is_last_element is_coalesce is_private is_optional is_primary is_template is_property_name is_chain_link is_assignment_pattern is_pattern_name is_rest is_statement is_hoistable_declaration is_block is_variable_declarations is_declaration is_statement_list_item is_labelled_item is_module_declaration is_exported_head is_function_head is_generator_head is_async_function_head is_async_generator_head is_function_tail is_getter_tail is_setter_tail is_method_head is_decorator_list is_class_head is_class_tail is_class_element is_constructor_name is_any_function_head is_head_without_yield is_head_without_await is_any_property_name is_jsx_element is_jsx_object is_uncovered takes
held_brace (Open (OfInfix Power)) tagged opens = refl
held_brace (Statement (InList ends)) tagged opens = refl
held_brace c tagged opens = refl

held_tags : (c : Control) (opens other : Bool) → held_apart c (First true opens) (First false other) ≡ true
unfolding is_member is_new is_call is_callee is_chained is_left_hand_side is_update is_unary is_exponentiation is_multiplicative is_additive is_shift is_relational is_in_left is_equality is_bitwise_and is_bitwise_xor is_bitwise_or is_logical_and is_logical_or is_coalesce_head is_short_circuit is_conditional is_assignment is_expression is_assignment_target is_pattern_target is_pattern_element is_last_element is_coalesce is_private is_optional is_primary is_template is_property_name is_chain_link is_assignment_pattern is_pattern_name is_rest is_statement is_hoistable_declaration is_block is_variable_declarations is_declaration is_statement_list_item is_labelled_item is_module_declaration is_exported_head is_function_head is_generator_head is_async_function_head is_async_generator_head is_function_tail is_getter_tail is_setter_tail is_method_head is_decorator_list is_class_head is_class_tail is_class_element is_constructor_name is_any_function_head is_head_without_yield is_head_without_await is_any_property_name is_jsx_element is_jsx_object is_uncovered takes
held_tags (Open (OfInfix Power)) opens other = refl
held_tags (Statement (InList ends)) opens other = refl
held_tags c opens other = refl

held_later : (c : Control) (opens other : Bool) → held_apart c (Later true opens) (Later false other) ≡ true
unfolding is_member is_new is_call is_callee is_chained is_left_hand_side is_update is_unary is_exponentiation is_multiplicative is_additive is_shift is_relational is_in_left is_equality is_bitwise_and is_bitwise_xor is_bitwise_or is_logical_and is_logical_or is_coalesce_head is_short_circuit is_conditional is_assignment is_expression is_assignment_target is_pattern_target is_pattern_element is_last_element is_coalesce is_private is_optional is_primary is_template is_property_name is_chain_link is_assignment_pattern is_pattern_name is_rest is_statement is_hoistable_declaration is_block is_variable_declarations is_declaration is_statement_list_item is_labelled_item is_module_declaration is_exported_head is_function_head is_generator_head is_async_function_head is_async_generator_head is_function_tail is_getter_tail is_setter_tail is_method_head is_decorator_list is_class_head is_class_tail is_class_element is_constructor_name is_any_function_head is_head_without_yield is_head_without_await is_any_property_name is_jsx_element is_jsx_object is_uncovered takes
held_later (Open (OfInfix Power)) opens other = refl
held_later (Statement (InList ends)) opens other = refl
held_later (Substitution TaggedTpl) opens other = refl
held_later (Substitution variant) opens other = refl
held_later c opens other = refl

held_twice : (c : Control) → held_apart c Line Twice ≡ true
unfolding is_member is_new is_call is_callee is_chained is_left_hand_side is_update is_unary is_exponentiation is_multiplicative is_additive is_shift is_relational is_in_left is_equality is_bitwise_and is_bitwise_xor is_bitwise_or is_logical_and is_logical_or is_coalesce_head is_short_circuit is_conditional is_assignment is_expression is_assignment_target is_pattern_target is_pattern_element is_last_element is_coalesce is_private is_optional is_primary is_template is_property_name is_chain_link is_assignment_pattern is_pattern_name is_rest is_statement is_hoistable_declaration is_block is_variable_declarations is_declaration is_statement_list_item is_labelled_item is_module_declaration is_exported_head is_function_head is_generator_head is_async_function_head is_async_generator_head is_function_tail is_getter_tail is_setter_tail is_method_head is_decorator_list is_class_head is_class_tail is_class_element is_constructor_name is_any_function_head is_head_without_yield is_head_without_await is_any_property_name is_jsx_element is_jsx_object is_uncovered takes
held_twice (Open (OfInfix Power)) = refl
held_twice (Statement (InList ends)) = refl
held_twice c = refl

held_arrow : (c : Control) → held_apart c Line FatArrow ≡ true
unfolding is_member is_new is_call is_callee is_chained is_left_hand_side is_update is_unary is_exponentiation is_multiplicative is_additive is_shift is_relational is_in_left is_equality is_bitwise_and is_bitwise_xor is_bitwise_or is_logical_and is_logical_or is_coalesce_head is_short_circuit is_conditional is_assignment is_expression is_assignment_target is_pattern_target is_pattern_element is_last_element is_coalesce is_private is_optional is_primary is_template is_property_name is_chain_link is_assignment_pattern is_pattern_name is_rest is_statement is_hoistable_declaration is_block is_variable_declarations is_declaration is_statement_list_item is_labelled_item is_module_declaration is_exported_head is_function_head is_generator_head is_async_function_head is_async_generator_head is_function_tail is_getter_tail is_setter_tail is_method_head is_decorator_list is_class_head is_class_tail is_class_element is_constructor_name is_any_function_head is_head_without_yield is_head_without_await is_any_property_name is_jsx_element is_jsx_object is_uncovered takes
held_arrow (Open (OfInfix Power)) = refl
held_arrow (Statement (InList ends)) = refl
held_arrow c = refl

held_semi : (c : Control) → held_apart c Semi Semicolon ≡ true
unfolding is_member is_new is_call is_callee is_chained is_left_hand_side is_update is_unary is_exponentiation is_multiplicative is_additive is_shift is_relational is_in_left is_equality is_bitwise_and is_bitwise_xor is_bitwise_or is_logical_and is_logical_or is_coalesce_head is_short_circuit is_conditional is_assignment is_expression is_assignment_target is_pattern_target is_pattern_element is_last_element is_coalesce is_private is_optional is_primary is_template is_property_name is_chain_link is_assignment_pattern is_pattern_name is_rest is_statement is_hoistable_declaration is_block is_variable_declarations is_declaration is_statement_list_item is_labelled_item is_module_declaration is_exported_head is_function_head is_generator_head is_async_function_head is_async_generator_head is_function_tail is_getter_tail is_setter_tail is_method_head is_decorator_list is_class_head is_class_tail is_class_element is_constructor_name is_any_function_head is_head_without_yield is_head_without_await is_any_property_name is_jsx_element is_jsx_object is_uncovered takes
held_semi (Open (OfInfix Power)) = refl
held_semi (Statement (InList ends)) = refl
held_semi c = refl

held_unknown : (c : Control) → held_apart c Strange NameToken ≡ true
unfolding is_member is_new is_call is_callee is_chained is_left_hand_side is_update is_unary is_exponentiation is_multiplicative is_additive is_shift is_relational is_in_left is_equality is_bitwise_and is_bitwise_xor is_bitwise_or is_logical_and is_logical_or is_coalesce_head is_short_circuit is_conditional is_assignment is_expression is_assignment_target is_pattern_target is_pattern_element is_last_element is_coalesce is_private is_optional is_primary is_template is_property_name is_chain_link is_assignment_pattern is_pattern_name is_rest is_statement is_hoistable_declaration is_block is_variable_declarations is_declaration is_statement_list_item is_labelled_item is_module_declaration is_exported_head is_function_head is_generator_head is_async_function_head is_async_generator_head is_function_tail is_getter_tail is_setter_tail is_method_head is_decorator_list is_class_head is_class_tail is_class_element is_constructor_name is_any_function_head is_head_without_yield is_head_without_await is_any_property_name is_jsx_element is_jsx_object is_uncovered takes
held_unknown (Open (OfInfix Power)) = refl
held_unknown (Statement (InList ends)) = refl
held_unknown c = refl

-- behind an attribute's element, and behind a child

either_refused : (a : Action) {b : Action} → b ≡ Reject → either a b ≡ true
either_refused a e = ap (either a) e ∙ or_right (is_refused a) true refl

rejects_held : (c : Control) (part : JsxPart) (l : Class) → with_operand c (Jsx part) ≡ Reject → held_apart c (Jsx part) l ≡ true
rejects_held c part l e = ap (λ a. apart a (with_operand c l) && (if_so (keeps a) (either (without c (Jsx part)) (without c l)) && not (lowers a))) e

tail_rejects : (part : JsxPart) (tail : Tail) → with_operand (Open tail) (Jsx part) ≡ Reject
unfolding is_member is_new is_call is_callee is_chained is_left_hand_side is_update is_unary is_exponentiation is_multiplicative is_additive is_shift is_relational is_in_left is_equality is_bitwise_and is_bitwise_xor is_bitwise_or is_logical_and is_logical_or is_coalesce_head is_short_circuit is_conditional is_assignment is_expression is_assignment_target is_pattern_target is_pattern_element is_last_element is_coalesce is_private is_optional is_primary is_template is_property_name is_chain_link is_assignment_pattern is_pattern_name is_rest is_statement is_hoistable_declaration is_block is_variable_declarations is_declaration is_statement_list_item is_labelled_item is_module_declaration is_exported_head is_function_head is_generator_head is_async_function_head is_async_generator_head is_function_tail is_getter_tail is_setter_tail is_method_head is_decorator_list is_class_head is_class_tail is_class_element is_constructor_name is_any_function_head is_head_without_yield is_head_without_await is_any_property_name is_jsx_element is_jsx_object is_uncovered takes
tail_rejects TagName (OfInfix Power) = refl
tail_rejects TagName tail = refl
tail_rejects TagString (OfInfix Power) = refl
tail_rejects TagString tail = refl
tail_rejects TagClose (OfInfix Power) = refl
tail_rejects TagClose tail = refl
tail_rejects TagText (OfInfix Power) = refl
tail_rejects TagText tail = refl
tail_rejects ChildTagMark (OfInfix Power) = refl
tail_rejects ChildTagMark tail = refl
tail_rejects ChildBraceMark (OfInfix Power) = refl
tail_rejects ChildBraceMark tail = refl

new_rejects : (part : JsxPart) → with_operand AfterNew (Jsx part) ≡ Reject
unfolding is_member is_new is_call is_callee is_chained is_left_hand_side is_update is_unary is_exponentiation is_multiplicative is_additive is_shift is_relational is_in_left is_equality is_bitwise_and is_bitwise_xor is_bitwise_or is_logical_and is_logical_or is_coalesce_head is_short_circuit is_conditional is_assignment is_expression is_assignment_target is_pattern_target is_pattern_element is_last_element is_coalesce is_private is_optional is_primary is_template is_property_name is_chain_link is_assignment_pattern is_pattern_name is_rest is_statement is_hoistable_declaration is_block is_variable_declarations is_declaration is_statement_list_item is_labelled_item is_module_declaration is_exported_head is_function_head is_generator_head is_async_function_head is_async_generator_head is_function_tail is_getter_tail is_setter_tail is_method_head is_decorator_list is_class_head is_class_tail is_class_element is_constructor_name is_any_function_head is_head_without_yield is_head_without_await is_any_property_name is_jsx_element is_jsx_object is_uncovered takes
new_rejects TagName = refl
new_rejects part = refl

line_rejects : (part : JsxPart) → with_operand YieldLine (Jsx part) ≡ Reject
unfolding is_member is_new is_call is_callee is_chained is_left_hand_side is_update is_unary is_exponentiation is_multiplicative is_additive is_shift is_relational is_in_left is_equality is_bitwise_and is_bitwise_xor is_bitwise_or is_logical_and is_logical_or is_coalesce_head is_short_circuit is_conditional is_assignment is_expression is_assignment_target is_pattern_target is_pattern_element is_last_element is_coalesce is_private is_optional is_primary is_template is_property_name is_chain_link is_assignment_pattern is_pattern_name is_rest is_statement is_hoistable_declaration is_block is_variable_declarations is_declaration is_statement_list_item is_labelled_item is_module_declaration is_exported_head is_function_head is_generator_head is_async_function_head is_async_generator_head is_function_tail is_getter_tail is_setter_tail is_method_head is_decorator_list is_class_head is_class_tail is_class_element is_constructor_name is_any_function_head is_head_without_yield is_head_without_await is_any_property_name is_jsx_element is_jsx_object is_uncovered takes
line_rejects TagName = refl
line_rejects part = refl

listed_rejects : (part : JsxPart) → with_operand Listed (Jsx part) ≡ Reject
unfolding is_member is_new is_call is_callee is_chained is_left_hand_side is_update is_unary is_exponentiation is_multiplicative is_additive is_shift is_relational is_in_left is_equality is_bitwise_and is_bitwise_xor is_bitwise_or is_logical_and is_logical_or is_coalesce_head is_short_circuit is_conditional is_assignment is_expression is_assignment_target is_pattern_target is_pattern_element is_last_element is_coalesce is_private is_optional is_primary is_template is_property_name is_chain_link is_assignment_pattern is_pattern_name is_rest is_statement is_hoistable_declaration is_block is_variable_declarations is_declaration is_statement_list_item is_labelled_item is_module_declaration is_exported_head is_function_head is_generator_head is_async_function_head is_async_generator_head is_function_tail is_getter_tail is_setter_tail is_method_head is_decorator_list is_class_head is_class_tail is_class_element is_constructor_name is_any_function_head is_head_without_yield is_head_without_await is_any_property_name is_jsx_element is_jsx_object is_uncovered takes
listed_rejects TagName = refl
listed_rejects part = refl

held_jsx : (c : Control) (part : JsxPart) (l : Class) → begins_like part l ≡ true → held_apart c (Jsx part) l ≡ true
unfolding is_member is_new is_call is_callee is_chained is_left_hand_side is_update is_unary is_exponentiation is_multiplicative is_additive is_shift is_relational is_in_left is_equality is_bitwise_and is_bitwise_xor is_bitwise_or is_logical_and is_logical_or is_coalesce_head is_short_circuit is_conditional is_assignment is_expression is_assignment_target is_pattern_target is_pattern_element is_last_element is_coalesce is_private is_optional is_primary is_template is_property_name is_chain_link is_assignment_pattern is_pattern_name is_rest is_statement is_hoistable_declaration is_block is_variable_declarations is_declaration is_statement_list_item is_labelled_item is_module_declaration is_exported_head is_function_head is_generator_head is_async_function_head is_async_generator_head is_function_tail is_getter_tail is_setter_tail is_method_head is_decorator_list is_class_head is_class_tail is_class_element is_constructor_name is_any_function_head is_head_without_yield is_head_without_await is_any_property_name is_jsx_element is_jsx_object is_uncovered takes
held_jsx AttributeElement TagName l h = and_from _ _ (right_refused Splice (attribute_named l h)) refl
held_jsx AttributeElement TagClose l h = and_from _ _ (right_refused Splice (attribute_angled l h)) refl
held_jsx Children TagName l h = refl
held_jsx Children TagString l h = refl
held_jsx Children TagClose l h = refl
held_jsx Children TagText l h = and_from _ _ (either_refused Shift (children_refuse l h)) refl
held_jsx Children ChildTagMark l h = and_from _ _ (either_refused Begin (children_less l h)) refl
held_jsx Children ChildBraceMark l h = and_from _ _ (either_refused Shift (children_brace l h)) refl
held_jsx (Open tail) part l h = rejects_held (Open tail) part l (tail_rejects part tail)
held_jsx AfterNew part l h = rejects_held AfterNew part l (new_rejects part)
held_jsx YieldLine part l h = rejects_held YieldLine part l (line_rejects part)
held_jsx Listed part l h = rejects_held Listed part l (listed_rejects part)
held_jsx (Statement (InList ends)) part l h = refl
held_jsx c part l h = refl

held_word_test : (c : Control) (l : Class) → if_so (is_reserved_word l) (held_apart c l KeyToken) ≡ true
unfolding is_member is_new is_call is_callee is_chained is_left_hand_side is_update is_unary is_exponentiation is_multiplicative is_additive is_shift is_relational is_in_left is_equality is_bitwise_and is_bitwise_xor is_bitwise_or is_logical_and is_logical_or is_coalesce_head is_short_circuit is_conditional is_assignment is_expression is_assignment_target is_pattern_target is_pattern_element is_last_element is_coalesce is_private is_optional is_primary is_template is_property_name is_chain_link is_assignment_pattern is_pattern_name is_rest is_statement is_hoistable_declaration is_block is_variable_declarations is_declaration is_statement_list_item is_labelled_item is_module_declaration is_exported_head is_function_head is_generator_head is_async_function_head is_async_generator_head is_function_tail is_getter_tail is_setter_tail is_method_head is_decorator_list is_class_head is_class_tail is_class_element is_constructor_name is_any_function_head is_head_without_yield is_head_without_await is_any_property_name is_jsx_element is_jsx_object is_uncovered takes
held_word_test (Open (OfInfix Power)) (Infix Plus) = refl
held_word_test (Statement (InList ends)) (Infix Plus) = refl
held_word_test c (Infix Plus) = refl
held_word_test (Open (OfInfix Power)) (First true opens) = refl
held_word_test (Statement (InList ends)) (First true opens) = refl
held_word_test c (First true opens) = refl
held_word_test (Open (OfInfix Power)) l = refl
held_word_test (Statement (InList ends)) l = refl
held_word_test c l = refl

held_word : (c : Control) (l : Class) → is_reserved_word l ≡ true → held_apart c l KeyToken ≡ true
held_word c l h = told _ _ (held_word_test c l) h

held_test : (c : Control) {l r : Class} → Rivals l r → held_apart c l r ≡ true
held_test c divides = held_over c
held_test c divides_in_place = held_assigns c
held_test c (closes {tagged = tagged} {opens = opens}) = held_brace c tagged opens
held_test c (tags {opens = opens} {other = other}) = held_tags c opens other
held_test c (goes_on_with_tag {opens = opens} {other = other}) = held_later c opens other
held_test c stays = held_twice c
held_test c stays_too = held_arrow c
held_test c finishes = held_semi c
held_test c unknown = held_unknown c
held_test c (spells {l = l} h) = held_word c l h
held_test c (by_jsx {part = part} {l = l} h) = held_jsx c part l h

-- in the place below
abbrev below_apart : Control → Class → Class → Bool
below_apart c l r = if_so (lowers (without c l)) (either (without (as_expression c) l) (without (as_expression c) r))

below_over : (c : Control) → below_apart c (Infix Over) RegexToken ≡ true
unfolding is_member is_new is_call is_callee is_chained is_left_hand_side is_update is_unary is_exponentiation is_multiplicative is_additive is_shift is_relational is_in_left is_equality is_bitwise_and is_bitwise_xor is_bitwise_or is_logical_and is_logical_or is_coalesce_head is_short_circuit is_conditional is_assignment is_expression is_assignment_target is_pattern_target is_pattern_element is_last_element is_coalesce is_private is_optional is_primary is_template is_property_name is_chain_link is_assignment_pattern is_pattern_name is_rest is_statement is_hoistable_declaration is_block is_variable_declarations is_declaration is_statement_list_item is_labelled_item is_module_declaration is_exported_head is_function_head is_generator_head is_async_function_head is_async_generator_head is_function_tail is_getter_tail is_setter_tail is_method_head is_decorator_list is_class_head is_class_tail is_class_element is_constructor_name is_any_function_head is_head_without_yield is_head_without_await is_any_property_name is_jsx_element is_jsx_object is_uncovered takes
below_over (Statement (InList ends)) = refl
below_over c = refl

below_assigns : (c : Control) → below_apart c (Assigns Slashed) RegexToken ≡ true
unfolding is_member is_new is_call is_callee is_chained is_left_hand_side is_update is_unary is_exponentiation is_multiplicative is_additive is_shift is_relational is_in_left is_equality is_bitwise_and is_bitwise_xor is_bitwise_or is_logical_and is_logical_or is_coalesce_head is_short_circuit is_conditional is_assignment is_expression is_assignment_target is_pattern_target is_pattern_element is_last_element is_coalesce is_private is_optional is_primary is_template is_property_name is_chain_link is_assignment_pattern is_pattern_name is_rest is_statement is_hoistable_declaration is_block is_variable_declarations is_declaration is_statement_list_item is_labelled_item is_module_declaration is_exported_head is_function_head is_generator_head is_async_function_head is_async_generator_head is_function_tail is_getter_tail is_setter_tail is_method_head is_decorator_list is_class_head is_class_tail is_class_element is_constructor_name is_any_function_head is_head_without_yield is_head_without_await is_any_property_name is_jsx_element is_jsx_object is_uncovered takes
below_assigns (Statement (InList ends)) = refl
below_assigns c = refl

below_brace : (c : Control) (tagged opens : Bool) → below_apart c CloseBrace (Later tagged opens) ≡ true
unfolding is_member is_new is_call is_callee is_chained is_left_hand_side is_update is_unary is_exponentiation is_multiplicative is_additive is_shift is_relational is_in_left is_equality is_bitwise_and is_bitwise_xor is_bitwise_or is_logical_and is_logical_or is_coalesce_head is_short_circuit is_conditional is_assignment is_expression is_assignment_target is_pattern_target is_pattern_element is_last_element is_coalesce is_private is_optional is_primary is_template is_property_name is_chain_link is_assignment_pattern is_pattern_name is_rest is_statement is_hoistable_declaration is_block is_variable_declarations is_declaration is_statement_list_item is_labelled_item is_module_declaration is_exported_head is_function_head is_generator_head is_async_function_head is_async_generator_head is_function_tail is_getter_tail is_setter_tail is_method_head is_decorator_list is_class_head is_class_tail is_class_element is_constructor_name is_any_function_head is_head_without_yield is_head_without_await is_any_property_name is_jsx_element is_jsx_object is_uncovered takes
below_brace (Statement (InList ends)) tagged opens = refl
below_brace c tagged opens = refl

below_tags : (c : Control) (opens other : Bool) → below_apart c (First true opens) (First false other) ≡ true
unfolding is_member is_new is_call is_callee is_chained is_left_hand_side is_update is_unary is_exponentiation is_multiplicative is_additive is_shift is_relational is_in_left is_equality is_bitwise_and is_bitwise_xor is_bitwise_or is_logical_and is_logical_or is_coalesce_head is_short_circuit is_conditional is_assignment is_expression is_assignment_target is_pattern_target is_pattern_element is_last_element is_coalesce is_private is_optional is_primary is_template is_property_name is_chain_link is_assignment_pattern is_pattern_name is_rest is_statement is_hoistable_declaration is_block is_variable_declarations is_declaration is_statement_list_item is_labelled_item is_module_declaration is_exported_head is_function_head is_generator_head is_async_function_head is_async_generator_head is_function_tail is_getter_tail is_setter_tail is_method_head is_decorator_list is_class_head is_class_tail is_class_element is_constructor_name is_any_function_head is_head_without_yield is_head_without_await is_any_property_name is_jsx_element is_jsx_object is_uncovered takes
below_tags (Statement (InList ends)) opens other = refl
below_tags c opens other = refl

below_later : (c : Control) (opens other : Bool) → below_apart c (Later true opens) (Later false other) ≡ true
unfolding is_member is_new is_call is_callee is_chained is_left_hand_side is_update is_unary is_exponentiation is_multiplicative is_additive is_shift is_relational is_in_left is_equality is_bitwise_and is_bitwise_xor is_bitwise_or is_logical_and is_logical_or is_coalesce_head is_short_circuit is_conditional is_assignment is_expression is_assignment_target is_pattern_target is_pattern_element is_last_element is_coalesce is_private is_optional is_primary is_template is_property_name is_chain_link is_assignment_pattern is_pattern_name is_rest is_statement is_hoistable_declaration is_block is_variable_declarations is_declaration is_statement_list_item is_labelled_item is_module_declaration is_exported_head is_function_head is_generator_head is_async_function_head is_async_generator_head is_function_tail is_getter_tail is_setter_tail is_method_head is_decorator_list is_class_head is_class_tail is_class_element is_constructor_name is_any_function_head is_head_without_yield is_head_without_await is_any_property_name is_jsx_element is_jsx_object is_uncovered takes
below_later (Statement (InList ends)) opens other = refl
below_later c opens other = refl

below_twice : (c : Control) → below_apart c Line Twice ≡ true
unfolding is_member is_new is_call is_callee is_chained is_left_hand_side is_update is_unary is_exponentiation is_multiplicative is_additive is_shift is_relational is_in_left is_equality is_bitwise_and is_bitwise_xor is_bitwise_or is_logical_and is_logical_or is_coalesce_head is_short_circuit is_conditional is_assignment is_expression is_assignment_target is_pattern_target is_pattern_element is_last_element is_coalesce is_private is_optional is_primary is_template is_property_name is_chain_link is_assignment_pattern is_pattern_name is_rest is_statement is_hoistable_declaration is_block is_variable_declarations is_declaration is_statement_list_item is_labelled_item is_module_declaration is_exported_head is_function_head is_generator_head is_async_function_head is_async_generator_head is_function_tail is_getter_tail is_setter_tail is_method_head is_decorator_list is_class_head is_class_tail is_class_element is_constructor_name is_any_function_head is_head_without_yield is_head_without_await is_any_property_name is_jsx_element is_jsx_object is_uncovered takes
below_twice (Statement (InList ends)) = refl
below_twice c = refl

below_arrow : (c : Control) → below_apart c Line FatArrow ≡ true
unfolding is_member is_new is_call is_callee is_chained is_left_hand_side is_update is_unary is_exponentiation is_multiplicative is_additive is_shift is_relational is_in_left is_equality is_bitwise_and is_bitwise_xor is_bitwise_or is_logical_and is_logical_or is_coalesce_head is_short_circuit is_conditional is_assignment is_expression is_assignment_target is_pattern_target is_pattern_element is_last_element is_coalesce is_private is_optional is_primary is_template is_property_name is_chain_link is_assignment_pattern is_pattern_name is_rest is_statement is_hoistable_declaration is_block is_variable_declarations is_declaration is_statement_list_item is_labelled_item is_module_declaration is_exported_head is_function_head is_generator_head is_async_function_head is_async_generator_head is_function_tail is_getter_tail is_setter_tail is_method_head is_decorator_list is_class_head is_class_tail is_class_element is_constructor_name is_any_function_head is_head_without_yield is_head_without_await is_any_property_name is_jsx_element is_jsx_object is_uncovered takes
below_arrow (Statement (InList ends)) = refl
below_arrow c = refl

below_semi : (c : Control) → below_apart c Semi Semicolon ≡ true
unfolding is_member is_new is_call is_callee is_chained is_left_hand_side is_update is_unary is_exponentiation is_multiplicative is_additive is_shift is_relational is_in_left is_equality is_bitwise_and is_bitwise_xor is_bitwise_or is_logical_and is_logical_or is_coalesce_head is_short_circuit is_conditional is_assignment is_expression is_assignment_target is_pattern_target is_pattern_element is_last_element is_coalesce is_private is_optional is_primary is_template is_property_name is_chain_link is_assignment_pattern is_pattern_name is_rest is_statement is_hoistable_declaration is_block is_variable_declarations is_declaration is_statement_list_item is_labelled_item is_module_declaration is_exported_head is_function_head is_generator_head is_async_function_head is_async_generator_head is_function_tail is_getter_tail is_setter_tail is_method_head is_decorator_list is_class_head is_class_tail is_class_element is_constructor_name is_any_function_head is_head_without_yield is_head_without_await is_any_property_name is_jsx_element is_jsx_object is_uncovered takes
below_semi (Statement (InList ends)) = refl
below_semi c = refl

below_unknown : (c : Control) → below_apart c Strange NameToken ≡ true
unfolding is_member is_new is_call is_callee is_chained is_left_hand_side is_update is_unary is_exponentiation is_multiplicative is_additive is_shift is_relational is_in_left is_equality is_bitwise_and is_bitwise_xor is_bitwise_or is_logical_and is_logical_or is_coalesce_head is_short_circuit is_conditional is_assignment is_expression is_assignment_target is_pattern_target is_pattern_element is_last_element is_coalesce is_private is_optional is_primary is_template is_property_name is_chain_link is_assignment_pattern is_pattern_name is_rest is_statement is_hoistable_declaration is_block is_variable_declarations is_declaration is_statement_list_item is_labelled_item is_module_declaration is_exported_head is_function_head is_generator_head is_async_function_head is_async_generator_head is_function_tail is_getter_tail is_setter_tail is_method_head is_decorator_list is_class_head is_class_tail is_class_element is_constructor_name is_any_function_head is_head_without_yield is_head_without_await is_any_property_name is_jsx_element is_jsx_object is_uncovered takes
below_unknown (Statement (InList ends)) = refl
below_unknown c = refl

below_jsx : (c : Control) (part : JsxPart) (l : Class) → below_apart c (Jsx part) l ≡ true
unfolding is_member is_new is_call is_callee is_chained is_left_hand_side is_update is_unary is_exponentiation is_multiplicative is_additive is_shift is_relational is_in_left is_equality is_bitwise_and is_bitwise_xor is_bitwise_or is_logical_and is_logical_or is_coalesce_head is_short_circuit is_conditional is_assignment is_expression is_assignment_target is_pattern_target is_pattern_element is_last_element is_coalesce is_private is_optional is_primary is_template is_property_name is_chain_link is_assignment_pattern is_pattern_name is_rest is_statement is_hoistable_declaration is_block is_variable_declarations is_declaration is_statement_list_item is_labelled_item is_module_declaration is_exported_head is_function_head is_generator_head is_async_function_head is_async_generator_head is_function_tail is_getter_tail is_setter_tail is_method_head is_decorator_list is_class_head is_class_tail is_class_element is_constructor_name is_any_function_head is_head_without_yield is_head_without_await is_any_property_name is_jsx_element is_jsx_object is_uncovered takes
below_jsx AfterYield TagName l = refl
below_jsx OpenTag TagName l = refl
below_jsx InTag TagName l = refl
below_jsx AttributeValue TagName l = refl
below_jsx SelfClosing TagName l = refl
below_jsx ChildTag TagName l = refl
below_jsx Children TagName l = refl
below_jsx ClosingTag TagName l = refl
below_jsx ClosingName TagName l = refl
below_jsx (Statement (InList ends)) part l = refl
below_jsx c part l = refl

below_word_test : (c : Control) (l : Class) → if_so (is_reserved_word l) (below_apart c l KeyToken) ≡ true
unfolding is_member is_new is_call is_callee is_chained is_left_hand_side is_update is_unary is_exponentiation is_multiplicative is_additive is_shift is_relational is_in_left is_equality is_bitwise_and is_bitwise_xor is_bitwise_or is_logical_and is_logical_or is_coalesce_head is_short_circuit is_conditional is_assignment is_expression is_assignment_target is_pattern_target is_pattern_element is_last_element is_coalesce is_private is_optional is_primary is_template is_property_name is_chain_link is_assignment_pattern is_pattern_name is_rest is_statement is_hoistable_declaration is_block is_variable_declarations is_declaration is_statement_list_item is_labelled_item is_module_declaration is_exported_head is_function_head is_generator_head is_async_function_head is_async_generator_head is_function_tail is_getter_tail is_setter_tail is_method_head is_decorator_list is_class_head is_class_tail is_class_element is_constructor_name is_any_function_head is_head_without_yield is_head_without_await is_any_property_name is_jsx_element is_jsx_object is_uncovered takes
below_word_test (Statement (InList ends)) (Infix Plus) = refl
below_word_test c (Infix Plus) = refl
below_word_test (Statement (InList ends)) (First true opens) = refl
below_word_test c (First true opens) = refl
below_word_test (Statement (InList ends)) l = refl
below_word_test c l = refl

below_word : (c : Control) (l : Class) → is_reserved_word l ≡ true → below_apart c l KeyToken ≡ true
below_word c l h = told _ _ (below_word_test c l) h

below_test : (c : Control) {l r : Class} → Rivals l r → below_apart c l r ≡ true
below_test c divides = below_over c
below_test c divides_in_place = below_assigns c
below_test c (closes {tagged = tagged} {opens = opens}) = below_brace c tagged opens
below_test c (tags {opens = opens} {other = other}) = below_tags c opens other
below_test c (goes_on_with_tag {opens = opens} {other = other}) = below_later c opens other
below_test c stays = below_twice c
below_test c stays_too = below_arrow c
below_test c finishes = below_semi c
below_test c unknown = below_unknown c
below_test c (spells {l = l} h) = below_word c l h
below_test c (by_jsx {part = part} {l = l} h) = below_jsx c part l

kept_refused : (a b : Action) → keeps a ≡ true → either a b ≡ true
kept_refused Take b h = refl
kept_refused Keep b h = refl
kept_refused a b h = absurd (true≢false (sym h))

-- ---- so no state takes both

once_refused : (a : Action) (t : Token) (f : Frame) (s : List Frame) (h : Hand) (q : State) → is_refused a ≡ true → acted_once a t f s h q ≡ Fail
once_refused Take t f s h q r = refl
once_refused Keep t f s h q r = refl
once_refused EnterBelow t f s h q r = refl
once_refused Merge t f s h q r = refl
once_refused Reject t f s h q r = refl
once_refused a t f s h q r = absurd (true≢false (sym r))

either_fails : (a b : Action) (t u : Token) (f g : Frame) (s : List Frame) (h : Hand) → either a b ≡ true → (acted_once a t f s h Fail ≡ Fail) ⊎ (acted_once b u g s h Fail ≡ Fail)
either_fails a b t u f g s h e = elim (or_cases (is_refused a) (is_refused b) e) [ inl r ↦ inl (once_refused a t f s h Fail r) | inr r ↦ inr (once_refused b u g s h Fail r) ]

acted_fails : (a b : Action) (t u : Token) (f : Frame) (s : List Frame) (h : Hand) (p q : State) → apart a b ≡ true → (p ≡ Fail) ⊎ (q ≡ Fail) → (keeps a ≡ true → either (decide f.control None t) (decide f.control None u) ≡ true) →
    (lowers a ≡ true → either (decide (as_expression f.control) (sign h) t) (decide (as_expression f.control) (sign h) u) ≡ true) → (acted a t f s h p ≡ Fail) ⊎ (acted b u f s h q ≡ Fail)
acted_fails Reject b t u f s h p q x y k l = inl refl
acted_fails Reduce Reduce t u f s h p q x y k l = y
acted_fails Take Take t u f s h p q x y k l =
    let g : Frame = record { control = f.control; so_far = λ rest. f.so_far (spliced h rest); other = λ rest. f.so_far (spliced h rest) } in
    either_fails (decide f.control None t) (decide f.control None u) t u g g s Empty (k refl)
acted_fails Keep Keep t u f s h p q x y k l =
    let g : Frame = record { control = f.control; so_far = λ rest. f.so_far (held h rest); other = λ rest. f.so_far (held h rest) } in
    either_fails (decide f.control None t) (decide f.control None u) t u g g s Empty (k refl)
acted_fails EnterBelow EnterBelow t u f [] h p q x y k l = inl refl
acted_fails EnterBelow EnterBelow t u f (g ∷ s) h p q x y k l =
    either_fails (decide (as_expression f.control) (sign h) t) (decide (as_expression f.control) (sign h) u) t u (within (as_expression f.control) f) (within (as_expression f.control) f) (within (entered g.control) g ∷ s) h (l refl)
acted_fails a Reject t u f s h p q x y k l = inr refl
acted_fails a b t u f s h p q x y k l = absurd (true≢false (sym x))

state_fails : (s : List Frame) (h : Hand) (t u : Token) → Rivals (class t) (class u) → (step t s h ≡ Fail) ⊎ (step u s h ≡ Fail)
state_fails [] h t u i = inl refl
state_fails (f ∷ s) Empty t u i =
    acted_fails (decide f.control None t) (decide f.control None u) t u f s Empty _ _ (none_test f.control i) (state_fails s (Full (variant_of f.control) (f.so_far End)) t u i)
    (kept_refused (decide f.control None t) (decide f.control None u)) (told _ _ (below_test f.control i))
state_fails (f ∷ s) (Full v p) t u i =
    let x = and_parts _ _ (held_test f.control i) in
    let y = and_parts _ _ x.1 in
    acted_fails (decide f.control (Some v) t) (decide f.control (Some v) u) t u f s (Full v p) _ _ x.0 (state_fails s (Full (variant_of f.control) (f.so_far (Node v p End))) t u i) (told _ _ y.0)
    (λ k. absurd (true≢false (sym k ∙ not-true (lowers (with_operand f.control (class t))) y.1)))

pub next_fails : (q : State) (t u : Token) → Rivals (class t) (class u) → (next t q ≡ Fail) ⊎ (next u q ≡ Fail)
next_fails Fail t u i = inl refl
next_fails (At s h) t u i = state_fails s h t u i
