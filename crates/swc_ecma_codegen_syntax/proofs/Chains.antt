-- What a nonterminal takes it derives by unit productions.
use Rattle.std.proofs.Common.{◌≡◌, true, sym}
use Rattle.std.proofs.lemmas.Bool.{true≢false}
use Rattle.swc_ecma_codegen_syntax.specs.declared.nonterminals.Nonterminal.{Nonterminal}
use Rattle.swc_ecma_codegen_syntax.specs.declared.nonterminals.Nonterminal.TheVariants as nt
use Rattle.swc_ecma_codegen_syntax.specs.Nonterminals.{takes, is_additive, is_assignment, is_assignment_pattern, is_assignment_target, is_bitwise_and, is_bitwise_or, is_bitwise_xor, is_call, is_callee, is_chain_link, is_chained, is_coalesce, is_coalesce_head, is_conditional, is_equality, is_exponentiation, is_expression, is_in_left, is_last_element, is_left_hand_side, is_logical_and, is_logical_or, is_member, is_multiplicative, is_new, is_optional, is_pattern_element, is_pattern_name, is_pattern_target, is_primary, is_private, is_property_name, is_relational, is_rest, is_shift, is_short_circuit, is_template, is_unary, is_statement, is_hoistable_declaration, is_declaration, is_block, is_statement_list_item, is_variable_declarations, is_labelled_item, is_module_declaration, is_exported_head, is_function_head, is_generator_head, is_async_function_head, is_async_generator_head, is_function_tail, is_getter_tail, is_setter_tail, is_method_head, is_decorator_list, is_class_head, is_class_tail, is_class_element, is_constructor_name, is_any_function_head, is_head_without_yield, is_head_without_await, is_any_property_name, is_jsx_element, is_jsx_object, is_uncovered, is_update}
use Rattle.swc_ecma_codegen_syntax.specs.UnitProductions.{Chain, here, step, member_expression_is_primary_expression, new_expression_is_member_expression, call_or_member_is_member_expression, call_or_member_is_call_expression, chain_base_is_member_expression, chain_base_is_optional_expression, chain_base_is_call_expression, left_hand_side_expression_is_new_expression, left_hand_side_expression_is_call_expression, left_hand_side_expression_is_optional_expression, update_expression_is_left_hand_side_expression, unary_expression_is_update_expression, exponentiation_expression_is_unary_expression, multiplicative_expression_is_exponentiation_expression, additive_expression_is_multiplicative_expression, shift_expression_is_additive_expression, relational_expression_is_shift_expression, in_left_is_relational_expression, in_left_is_private_identifier, equality_expression_is_relational_expression, bitwise_and_expression_is_equality_expression, bitwise_xor_expression_is_bitwise_and_expression, bitwise_or_expression_is_bitwise_xor_expression, logical_and_expression_is_bitwise_or_expression, logical_or_expression_is_logical_and_expression, coalesce_expression_head_is_bitwise_or_expression, coalesce_expression_head_is_coalesce_expression, short_circuit_expression_is_logical_or_expression, short_circuit_expression_is_coalesce_expression, conditional_expression_is_short_circuit_expression, assignment_expression_is_conditional_expression, expression_is_assignment_expression, assignment_target_is_left_hand_side_expression, assignment_target_is_assignment_pattern, pattern_target_is_pattern_name, pattern_element_is_pattern_target, last_element_is_pattern_element, last_element_is_rest_element, declaration_is_hoistable_declaration, statement_list_item_is_statement, statement_list_item_is_declaration, labelled_item_is_statement, labelled_item_is_hoistable_declaration, any_function_head_is_function_head, any_function_head_is_generator_head, any_function_head_is_async_function_head, any_function_head_is_async_generator_head, head_without_yield_is_function_head, head_without_yield_is_async_function_head, head_without_await_is_function_head, head_without_await_is_generator_head, any_property_name_is_property_name, any_property_name_is_constructor_name}

from_is_member : (c : Nonterminal) → is_member c ≡ true → Chain nt.MemberExpression c
unfolding is_member
from_is_member nt.MemberExpression h = here
from_is_member nt.PrimaryExpression h = step member_expression_is_primary_expression here
from_is_member c h = absurd (true≢false (sym h))

from_is_new : (c : Nonterminal) → is_new c ≡ true → Chain nt.NewExpression c
unfolding is_new
from_is_new nt.NewExpression h = here
from_is_new c h = step new_expression_is_member_expression (from_is_member c h)

from_is_call : (c : Nonterminal) → is_call c ≡ true → Chain nt.CallExpression c
unfolding is_call
from_is_call nt.CallExpression h = here
from_is_call c h = absurd (true≢false (sym h))

from_is_callee : (c : Nonterminal) → is_callee c ≡ true → Chain nt.CallOrMember c
unfolding is_callee
from_is_callee nt.CallOrMember h = here
from_is_callee nt.CallExpression h = step call_or_member_is_call_expression here
from_is_callee c h = step call_or_member_is_member_expression (from_is_member c h)

from_is_chained : (c : Nonterminal) → is_chained c ≡ true → Chain nt.ChainBase c
unfolding is_chained
from_is_chained nt.ChainBase h = here
from_is_chained nt.OptionalExpression h = step chain_base_is_optional_expression here
from_is_chained nt.CallExpression h = step chain_base_is_call_expression here
from_is_chained c h = step chain_base_is_member_expression (from_is_member c h)

from_is_left_hand_side : (c : Nonterminal) → is_left_hand_side c ≡ true → Chain nt.LeftHandSideExpression c
unfolding is_left_hand_side
from_is_left_hand_side nt.LeftHandSideExpression h = here
from_is_left_hand_side nt.CallExpression h = step left_hand_side_expression_is_call_expression here
from_is_left_hand_side nt.OptionalExpression h = step left_hand_side_expression_is_optional_expression here
from_is_left_hand_side c h = step left_hand_side_expression_is_new_expression (from_is_new c h)

from_is_update : (c : Nonterminal) → is_update c ≡ true → Chain nt.UpdateExpression c
unfolding is_update
from_is_update nt.UpdateExpression h = here
from_is_update c h = step update_expression_is_left_hand_side_expression (from_is_left_hand_side c h)

from_is_unary : (c : Nonterminal) → is_unary c ≡ true → Chain nt.UnaryExpression c
unfolding is_unary
from_is_unary nt.UnaryExpression h = here
from_is_unary c h = step unary_expression_is_update_expression (from_is_update c h)

from_is_exponentiation : (c : Nonterminal) → is_exponentiation c ≡ true → Chain nt.ExponentiationExpression c
unfolding is_exponentiation
from_is_exponentiation nt.ExponentiationExpression h = here
from_is_exponentiation c h = step exponentiation_expression_is_unary_expression (from_is_unary c h)

from_is_multiplicative : (c : Nonterminal) → is_multiplicative c ≡ true → Chain nt.MultiplicativeExpression c
unfolding is_multiplicative
from_is_multiplicative nt.MultiplicativeExpression h = here
from_is_multiplicative c h = step multiplicative_expression_is_exponentiation_expression (from_is_exponentiation c h)

from_is_additive : (c : Nonterminal) → is_additive c ≡ true → Chain nt.AdditiveExpression c
unfolding is_additive
from_is_additive nt.AdditiveExpression h = here
from_is_additive c h = step additive_expression_is_multiplicative_expression (from_is_multiplicative c h)

from_is_shift : (c : Nonterminal) → is_shift c ≡ true → Chain nt.ShiftExpression c
unfolding is_shift
from_is_shift nt.ShiftExpression h = here
from_is_shift c h = step shift_expression_is_additive_expression (from_is_additive c h)

from_is_relational : (c : Nonterminal) → is_relational c ≡ true → Chain nt.RelationalExpression c
unfolding is_relational
from_is_relational nt.RelationalExpression h = here
from_is_relational c h = step relational_expression_is_shift_expression (from_is_shift c h)

from_is_in_left : (c : Nonterminal) → is_in_left c ≡ true → Chain nt.InLeft c
unfolding is_in_left
from_is_in_left nt.InLeft h = here
from_is_in_left nt.PrivateIdentifier h = step in_left_is_private_identifier here
from_is_in_left c h = step in_left_is_relational_expression (from_is_relational c h)

from_is_equality : (c : Nonterminal) → is_equality c ≡ true → Chain nt.EqualityExpression c
unfolding is_equality
from_is_equality nt.EqualityExpression h = here
from_is_equality c h = step equality_expression_is_relational_expression (from_is_relational c h)

from_is_bitwise_and : (c : Nonterminal) → is_bitwise_and c ≡ true → Chain nt.BitwiseAndExpression c
unfolding is_bitwise_and
from_is_bitwise_and nt.BitwiseAndExpression h = here
from_is_bitwise_and c h = step bitwise_and_expression_is_equality_expression (from_is_equality c h)

from_is_bitwise_xor : (c : Nonterminal) → is_bitwise_xor c ≡ true → Chain nt.BitwiseXorExpression c
unfolding is_bitwise_xor
from_is_bitwise_xor nt.BitwiseXorExpression h = here
from_is_bitwise_xor c h = step bitwise_xor_expression_is_bitwise_and_expression (from_is_bitwise_and c h)

from_is_bitwise_or : (c : Nonterminal) → is_bitwise_or c ≡ true → Chain nt.BitwiseOrExpression c
unfolding is_bitwise_or
from_is_bitwise_or nt.BitwiseOrExpression h = here
from_is_bitwise_or c h = step bitwise_or_expression_is_bitwise_xor_expression (from_is_bitwise_xor c h)

from_is_logical_and : (c : Nonterminal) → is_logical_and c ≡ true → Chain nt.LogicalAndExpression c
unfolding is_logical_and
from_is_logical_and nt.LogicalAndExpression h = here
from_is_logical_and c h = step logical_and_expression_is_bitwise_or_expression (from_is_bitwise_or c h)

from_is_logical_or : (c : Nonterminal) → is_logical_or c ≡ true → Chain nt.LogicalOrExpression c
unfolding is_logical_or
from_is_logical_or nt.LogicalOrExpression h = here
from_is_logical_or c h = step logical_or_expression_is_logical_and_expression (from_is_logical_and c h)

from_is_coalesce_head : (c : Nonterminal) → is_coalesce_head c ≡ true → Chain nt.CoalesceExpressionHead c
unfolding is_coalesce_head
from_is_coalesce_head nt.CoalesceExpressionHead h = here
from_is_coalesce_head nt.CoalesceExpression h = step coalesce_expression_head_is_coalesce_expression here
from_is_coalesce_head c h = step coalesce_expression_head_is_bitwise_or_expression (from_is_bitwise_or c h)

from_is_short_circuit : (c : Nonterminal) → is_short_circuit c ≡ true → Chain nt.ShortCircuitExpression c
unfolding is_short_circuit
from_is_short_circuit nt.ShortCircuitExpression h = here
from_is_short_circuit nt.CoalesceExpression h = step short_circuit_expression_is_coalesce_expression here
from_is_short_circuit c h = step short_circuit_expression_is_logical_or_expression (from_is_logical_or c h)

from_is_conditional : (c : Nonterminal) → is_conditional c ≡ true → Chain nt.ConditionalExpression c
unfolding is_conditional
from_is_conditional nt.ConditionalExpression h = here
from_is_conditional c h = step conditional_expression_is_short_circuit_expression (from_is_short_circuit c h)

from_is_assignment : (c : Nonterminal) → is_assignment c ≡ true → Chain nt.AssignmentExpression c
unfolding is_assignment
from_is_assignment nt.AssignmentExpression h = here
from_is_assignment c h = step assignment_expression_is_conditional_expression (from_is_conditional c h)

from_is_expression : (c : Nonterminal) → is_expression c ≡ true → Chain nt.Expression c
unfolding is_expression
from_is_expression nt.Expression h = here
from_is_expression c h = step expression_is_assignment_expression (from_is_assignment c h)

from_is_assignment_target : (c : Nonterminal) → is_assignment_target c ≡ true → Chain nt.AssignmentTarget c
unfolding is_assignment_target
from_is_assignment_target nt.AssignmentTarget h = here
from_is_assignment_target nt.AssignmentPattern h = step assignment_target_is_assignment_pattern here
from_is_assignment_target c h = step assignment_target_is_left_hand_side_expression (from_is_left_hand_side c h)

from_is_pattern_target : (c : Nonterminal) → is_pattern_target c ≡ true → Chain nt.PatternTarget c
unfolding is_pattern_target
from_is_pattern_target nt.PatternTarget h = here
from_is_pattern_target nt.PatternName h = step pattern_target_is_pattern_name here
from_is_pattern_target c h = absurd (true≢false (sym h))

from_is_pattern_element : (c : Nonterminal) → is_pattern_element c ≡ true → Chain nt.PatternElement c
unfolding is_pattern_element
from_is_pattern_element nt.PatternElement h = here
from_is_pattern_element c h = step pattern_element_is_pattern_target (from_is_pattern_target c h)

from_is_last_element : (c : Nonterminal) → is_last_element c ≡ true → Chain nt.LastElement c
unfolding is_last_element
from_is_last_element nt.LastElement h = here
from_is_last_element nt.RestElement h = step last_element_is_rest_element here
from_is_last_element c h = step last_element_is_pattern_element (from_is_pattern_element c h)

from_is_coalesce : (c : Nonterminal) → is_coalesce c ≡ true → Chain nt.CoalesceExpression c
unfolding is_coalesce
from_is_coalesce nt.CoalesceExpression h = here
from_is_coalesce c h = absurd (true≢false (sym h))

from_is_private : (c : Nonterminal) → is_private c ≡ true → Chain nt.PrivateIdentifier c
unfolding is_private
from_is_private nt.PrivateIdentifier h = here
from_is_private c h = absurd (true≢false (sym h))

from_is_optional : (c : Nonterminal) → is_optional c ≡ true → Chain nt.OptionalExpression c
unfolding is_optional
from_is_optional nt.OptionalExpression h = here
from_is_optional c h = absurd (true≢false (sym h))

from_is_primary : (c : Nonterminal) → is_primary c ≡ true → Chain nt.PrimaryExpression c
unfolding is_primary
from_is_primary nt.PrimaryExpression h = here
from_is_primary c h = absurd (true≢false (sym h))

from_is_template : (c : Nonterminal) → is_template c ≡ true → Chain nt.TemplateLiteral c
unfolding is_template
from_is_template nt.TemplateLiteral h = here
from_is_template c h = absurd (true≢false (sym h))

from_is_property_name : (c : Nonterminal) → is_property_name c ≡ true → Chain nt.PropertyName c
unfolding is_property_name
from_is_property_name nt.PropertyName h = here
from_is_property_name c h = absurd (true≢false (sym h))

from_is_chain_link : (c : Nonterminal) → is_chain_link c ≡ true → Chain nt.OptionalChain c
unfolding is_chain_link
from_is_chain_link nt.OptionalChain h = here
from_is_chain_link c h = absurd (true≢false (sym h))

from_is_assignment_pattern : (c : Nonterminal) → is_assignment_pattern c ≡ true → Chain nt.AssignmentPattern c
unfolding is_assignment_pattern
from_is_assignment_pattern nt.AssignmentPattern h = here
from_is_assignment_pattern c h = absurd (true≢false (sym h))

from_is_pattern_name : (c : Nonterminal) → is_pattern_name c ≡ true → Chain nt.PatternName c
unfolding is_pattern_name
from_is_pattern_name nt.PatternName h = here
from_is_pattern_name c h = absurd (true≢false (sym h))

from_is_rest : (c : Nonterminal) → is_rest c ≡ true → Chain nt.RestElement c
unfolding is_rest
from_is_rest nt.RestElement h = here
from_is_rest c h = absurd (true≢false (sym h))

from_is_statement : (c : Nonterminal) → is_statement c ≡ true → Chain nt.Statement c
unfolding is_statement
from_is_statement nt.Statement h = here
from_is_statement c h = absurd (true≢false (sym h))

from_is_hoistable_declaration : (c : Nonterminal) → is_hoistable_declaration c ≡ true → Chain nt.HoistableDeclaration c
unfolding is_hoistable_declaration
from_is_hoistable_declaration nt.HoistableDeclaration h = here
from_is_hoistable_declaration c h = absurd (true≢false (sym h))

from_is_declaration : (c : Nonterminal) → is_declaration c ≡ true → Chain nt.Declaration c
unfolding is_declaration
from_is_declaration nt.Declaration h = here
from_is_declaration c h = step declaration_is_hoistable_declaration (from_is_hoistable_declaration c h)

from_is_block : (c : Nonterminal) → is_block c ≡ true → Chain nt.Block c
unfolding is_block
from_is_block nt.Block h = here
from_is_block c h = absurd (true≢false (sym h))

from_is_statement_list_item : (c : Nonterminal) → is_statement_list_item c ≡ true → Chain nt.StatementListItem c
unfolding is_statement_list_item
from_is_statement_list_item nt.StatementListItem h = here
from_is_statement_list_item nt.Statement h = step statement_list_item_is_statement here
from_is_statement_list_item c h = step statement_list_item_is_declaration (from_is_declaration c h)

from_is_variable_declarations : (c : Nonterminal) → is_variable_declarations c ≡ true → Chain nt.VariableDeclarations c
unfolding is_variable_declarations
from_is_variable_declarations nt.VariableDeclarations h = here
from_is_variable_declarations c h = absurd (true≢false (sym h))

from_is_labelled_item : (c : Nonterminal) → is_labelled_item c ≡ true → Chain nt.LabelledItem c
unfolding is_labelled_item
from_is_labelled_item nt.LabelledItem h = here
from_is_labelled_item nt.Statement h = step labelled_item_is_statement here
from_is_labelled_item c h = step labelled_item_is_hoistable_declaration (from_is_hoistable_declaration c h)

from_is_module_declaration : (c : Nonterminal) → is_module_declaration c ≡ true → Chain nt.ModuleDeclaration c
unfolding is_module_declaration
from_is_module_declaration nt.ModuleDeclaration h = here
from_is_module_declaration c h = absurd (true≢false (sym h))

from_is_exported_head : (c : Nonterminal) → is_exported_head c ≡ true → Chain nt.ExportedHead c
unfolding is_exported_head
from_is_exported_head nt.ExportedHead h = here
from_is_exported_head c h = absurd (true≢false (sym h))

from_is_function_head : (c : Nonterminal) → is_function_head c ≡ true → Chain nt.FunctionHead c
unfolding is_function_head
from_is_function_head nt.FunctionHead h = here
from_is_function_head c h = absurd (true≢false (sym h))

from_is_generator_head : (c : Nonterminal) → is_generator_head c ≡ true → Chain nt.GeneratorHead c
unfolding is_generator_head
from_is_generator_head nt.GeneratorHead h = here
from_is_generator_head c h = absurd (true≢false (sym h))

from_is_async_function_head : (c : Nonterminal) → is_async_function_head c ≡ true → Chain nt.AsyncFunctionHead c
unfolding is_async_function_head
from_is_async_function_head nt.AsyncFunctionHead h = here
from_is_async_function_head c h = absurd (true≢false (sym h))

from_is_async_generator_head : (c : Nonterminal) → is_async_generator_head c ≡ true → Chain nt.AsyncGeneratorHead c
unfolding is_async_generator_head
from_is_async_generator_head nt.AsyncGeneratorHead h = here
from_is_async_generator_head c h = absurd (true≢false (sym h))

from_is_function_tail : (c : Nonterminal) → is_function_tail c ≡ true → Chain nt.FunctionTail c
unfolding is_function_tail
from_is_function_tail nt.FunctionTail h = here
from_is_function_tail c h = absurd (true≢false (sym h))

from_is_getter_tail : (c : Nonterminal) → is_getter_tail c ≡ true → Chain nt.GetterTail c
unfolding is_getter_tail
from_is_getter_tail nt.GetterTail h = here
from_is_getter_tail c h = absurd (true≢false (sym h))

from_is_setter_tail : (c : Nonterminal) → is_setter_tail c ≡ true → Chain nt.SetterTail c
unfolding is_setter_tail
from_is_setter_tail nt.SetterTail h = here
from_is_setter_tail c h = absurd (true≢false (sym h))

from_is_method_head : (c : Nonterminal) → is_method_head c ≡ true → Chain nt.MethodHead c
unfolding is_method_head
from_is_method_head nt.MethodHead h = here
from_is_method_head c h = absurd (true≢false (sym h))

from_is_decorator_list : (c : Nonterminal) → is_decorator_list c ≡ true → Chain nt.DecoratorList c
unfolding is_decorator_list
from_is_decorator_list nt.DecoratorList h = here
from_is_decorator_list c h = absurd (true≢false (sym h))

from_is_class_head : (c : Nonterminal) → is_class_head c ≡ true → Chain nt.ClassHead c
unfolding is_class_head
from_is_class_head nt.ClassHead h = here
from_is_class_head c h = absurd (true≢false (sym h))

from_is_class_tail : (c : Nonterminal) → is_class_tail c ≡ true → Chain nt.ClassTail c
unfolding is_class_tail
from_is_class_tail nt.ClassTail h = here
from_is_class_tail c h = absurd (true≢false (sym h))

from_is_class_element : (c : Nonterminal) → is_class_element c ≡ true → Chain nt.ClassElement c
unfolding is_class_element
from_is_class_element nt.ClassElement h = here
from_is_class_element c h = absurd (true≢false (sym h))

from_is_constructor_name : (c : Nonterminal) → is_constructor_name c ≡ true → Chain nt.ConstructorName c
unfolding is_constructor_name
from_is_constructor_name nt.ConstructorName h = here
from_is_constructor_name c h = absurd (true≢false (sym h))

from_is_any_function_head : (c : Nonterminal) → is_any_function_head c ≡ true → Chain nt.AnyFunctionHead c
unfolding is_any_function_head
from_is_any_function_head nt.AnyFunctionHead h = here
from_is_any_function_head nt.FunctionHead h = step any_function_head_is_function_head here
from_is_any_function_head nt.GeneratorHead h = step any_function_head_is_generator_head here
from_is_any_function_head nt.AsyncFunctionHead h = step any_function_head_is_async_function_head here
from_is_any_function_head nt.AsyncGeneratorHead h = step any_function_head_is_async_generator_head here
from_is_any_function_head c h = absurd (true≢false (sym h))

from_is_head_without_yield : (c : Nonterminal) → is_head_without_yield c ≡ true → Chain nt.HeadWithoutYield c
unfolding is_head_without_yield
from_is_head_without_yield nt.HeadWithoutYield h = here
from_is_head_without_yield nt.FunctionHead h = step head_without_yield_is_function_head here
from_is_head_without_yield nt.AsyncFunctionHead h = step head_without_yield_is_async_function_head here
from_is_head_without_yield c h = absurd (true≢false (sym h))

from_is_head_without_await : (c : Nonterminal) → is_head_without_await c ≡ true → Chain nt.HeadWithoutAwait c
unfolding is_head_without_await
from_is_head_without_await nt.HeadWithoutAwait h = here
from_is_head_without_await nt.FunctionHead h = step head_without_await_is_function_head here
from_is_head_without_await nt.GeneratorHead h = step head_without_await_is_generator_head here
from_is_head_without_await c h = absurd (true≢false (sym h))

from_is_any_property_name : (c : Nonterminal) → is_any_property_name c ≡ true → Chain nt.AnyPropertyName c
unfolding is_any_property_name
from_is_any_property_name nt.AnyPropertyName h = here
from_is_any_property_name nt.PropertyName h = step any_property_name_is_property_name here
from_is_any_property_name nt.ConstructorName h = step any_property_name_is_constructor_name here
from_is_any_property_name c h = absurd (true≢false (sym h))

from_is_jsx_element : (c : Nonterminal) → is_jsx_element c ≡ true → Chain nt.JSXElement c
unfolding is_jsx_element
from_is_jsx_element nt.JSXElement h = here
from_is_jsx_element c h = absurd (true≢false (sym h))

from_is_jsx_object : (c : Nonterminal) → is_jsx_object c ≡ true → Chain nt.JSXObject c
unfolding is_jsx_object
from_is_jsx_object nt.JSXObject h = here
from_is_jsx_object c h = absurd (true≢false (sym h))

from_is_uncovered : (c : Nonterminal) → is_uncovered c ≡ true → Chain nt.Uncovered c
unfolding is_uncovered
from_is_uncovered nt.Uncovered h = here
from_is_uncovered c h = absurd (true≢false (sym h))

pub takes_chain : (a c : Nonterminal) → takes a c ≡ true → Chain a c
unfolding takes
takes_chain nt.Expression c h = from_is_expression c h
takes_chain nt.AssignmentExpression c h = from_is_assignment c h
takes_chain nt.ConditionalExpression c h = from_is_conditional c h
takes_chain nt.ShortCircuitExpression c h = from_is_short_circuit c h
takes_chain nt.CoalesceExpression c h = from_is_coalesce c h
takes_chain nt.CoalesceExpressionHead c h = from_is_coalesce_head c h
takes_chain nt.LogicalOrExpression c h = from_is_logical_or c h
takes_chain nt.LogicalAndExpression c h = from_is_logical_and c h
takes_chain nt.BitwiseOrExpression c h = from_is_bitwise_or c h
takes_chain nt.BitwiseXorExpression c h = from_is_bitwise_xor c h
takes_chain nt.BitwiseAndExpression c h = from_is_bitwise_and c h
takes_chain nt.EqualityExpression c h = from_is_equality c h
takes_chain nt.RelationalExpression c h = from_is_relational c h
takes_chain nt.InLeft c h = from_is_in_left c h
takes_chain nt.PrivateIdentifier c h = from_is_private c h
takes_chain nt.ShiftExpression c h = from_is_shift c h
takes_chain nt.AdditiveExpression c h = from_is_additive c h
takes_chain nt.MultiplicativeExpression c h = from_is_multiplicative c h
takes_chain nt.ExponentiationExpression c h = from_is_exponentiation c h
takes_chain nt.UnaryExpression c h = from_is_unary c h
takes_chain nt.UpdateExpression c h = from_is_update c h
takes_chain nt.LeftHandSideExpression c h = from_is_left_hand_side c h
takes_chain nt.NewExpression c h = from_is_new c h
takes_chain nt.CallExpression c h = from_is_call c h
takes_chain nt.OptionalExpression c h = from_is_optional c h
takes_chain nt.MemberExpression c h = from_is_member c h
takes_chain nt.CallOrMember c h = from_is_callee c h
takes_chain nt.ChainBase c h = from_is_chained c h
takes_chain nt.PrimaryExpression c h = from_is_primary c h
takes_chain nt.TemplateLiteral c h = from_is_template c h
takes_chain nt.PropertyName c h = from_is_property_name c h
takes_chain nt.OptionalChain c h = from_is_chain_link c h
takes_chain nt.AssignmentTarget c h = from_is_assignment_target c h
takes_chain nt.AssignmentPattern c h = from_is_assignment_pattern c h
takes_chain nt.PatternName c h = from_is_pattern_name c h
takes_chain nt.PatternTarget c h = from_is_pattern_target c h
takes_chain nt.PatternElement c h = from_is_pattern_element c h
takes_chain nt.RestElement c h = from_is_rest c h
takes_chain nt.LastElement c h = from_is_last_element c h
takes_chain nt.Statement c h = from_is_statement c h
takes_chain nt.HoistableDeclaration c h = from_is_hoistable_declaration c h
takes_chain nt.Declaration c h = from_is_declaration c h
takes_chain nt.Block c h = from_is_block c h
takes_chain nt.StatementListItem c h = from_is_statement_list_item c h
takes_chain nt.VariableDeclarations c h = from_is_variable_declarations c h
takes_chain nt.LabelledItem c h = from_is_labelled_item c h
takes_chain nt.ModuleDeclaration c h = from_is_module_declaration c h
takes_chain nt.ExportedHead c h = from_is_exported_head c h
takes_chain nt.FunctionHead c h = from_is_function_head c h
takes_chain nt.GeneratorHead c h = from_is_generator_head c h
takes_chain nt.AsyncFunctionHead c h = from_is_async_function_head c h
takes_chain nt.AsyncGeneratorHead c h = from_is_async_generator_head c h
takes_chain nt.FunctionTail c h = from_is_function_tail c h
takes_chain nt.GetterTail c h = from_is_getter_tail c h
takes_chain nt.SetterTail c h = from_is_setter_tail c h
takes_chain nt.MethodHead c h = from_is_method_head c h
takes_chain nt.DecoratorList c h = from_is_decorator_list c h
takes_chain nt.ClassHead c h = from_is_class_head c h
takes_chain nt.ClassTail c h = from_is_class_tail c h
takes_chain nt.ClassElement c h = from_is_class_element c h
takes_chain nt.ConstructorName c h = from_is_constructor_name c h
takes_chain nt.AnyFunctionHead c h = from_is_any_function_head c h
takes_chain nt.HeadWithoutYield c h = from_is_head_without_yield c h
takes_chain nt.HeadWithoutAwait c h = from_is_head_without_await c h
takes_chain nt.AnyPropertyName c h = from_is_any_property_name c h
takes_chain nt.JSXElement c h = from_is_jsx_element c h
takes_chain nt.JSXObject c h = from_is_jsx_object c h
takes_chain nt.Uncovered c h = from_is_uncovered c h
