-- Productions of one nonterminal alone, as ECMA-262 has them, and chains of them.
use Rattle.swc_ecma_codegen_syntax.specs.declared.nonterminals.Nonterminal.{Nonterminal}
use Rattle.swc_ecma_codegen_syntax.specs.declared.nonterminals.Nonterminal.TheVariants as nt

-- The left one derives the right one. Where the standard writes several nonterminals at one place, as MemberExpression or CallExpression before a
-- template, the place has a name here, and derives each of them.
pub data UnitProduction : Nonterminal → Nonterminal → Type 0 where
  -- 13.3: MemberExpression : PrimaryExpression
  member_expression_is_primary_expression : UnitProduction nt.MemberExpression nt.PrimaryExpression
  -- NewExpression : MemberExpression
  new_expression_is_member_expression : UnitProduction nt.NewExpression nt.MemberExpression
  -- MemberExpression or CallExpression
  call_or_member_is_member_expression : UnitProduction nt.CallOrMember nt.MemberExpression
  call_or_member_is_call_expression : UnitProduction nt.CallOrMember nt.CallExpression
  -- what stands before `?.`: MemberExpression, CallExpression or OptionalExpression
  chain_base_is_member_expression : UnitProduction nt.ChainBase nt.MemberExpression
  chain_base_is_optional_expression : UnitProduction nt.ChainBase nt.OptionalExpression
  chain_base_is_call_expression : UnitProduction nt.ChainBase nt.CallExpression
  -- LeftHandSideExpression : NewExpression, CallExpression, OptionalExpression
  left_hand_side_expression_is_new_expression : UnitProduction nt.LeftHandSideExpression nt.NewExpression
  left_hand_side_expression_is_call_expression : UnitProduction nt.LeftHandSideExpression nt.CallExpression
  left_hand_side_expression_is_optional_expression : UnitProduction nt.LeftHandSideExpression nt.OptionalExpression
  -- 13.4: UpdateExpression : LeftHandSideExpression
  update_expression_is_left_hand_side_expression : UnitProduction nt.UpdateExpression nt.LeftHandSideExpression
  -- 13.5: UnaryExpression : UpdateExpression
  unary_expression_is_update_expression : UnitProduction nt.UnaryExpression nt.UpdateExpression
  -- 13.6: ExponentiationExpression : UnaryExpression
  exponentiation_expression_is_unary_expression : UnitProduction nt.ExponentiationExpression nt.UnaryExpression
  -- 13.7: MultiplicativeExpression : ExponentiationExpression
  multiplicative_expression_is_exponentiation_expression : UnitProduction nt.MultiplicativeExpression nt.ExponentiationExpression
  -- 13.8: AdditiveExpression : MultiplicativeExpression
  additive_expression_is_multiplicative_expression : UnitProduction nt.AdditiveExpression nt.MultiplicativeExpression
  -- 13.9: ShiftExpression : AdditiveExpression
  shift_expression_is_additive_expression : UnitProduction nt.ShiftExpression nt.AdditiveExpression
  -- 13.10: RelationalExpression : ShiftExpression
  relational_expression_is_shift_expression : UnitProduction nt.RelationalExpression nt.ShiftExpression
  -- what stands before `in`: RelationalExpression or PrivateIdentifier
  in_left_is_relational_expression : UnitProduction nt.InLeft nt.RelationalExpression
  in_left_is_private_identifier : UnitProduction nt.InLeft nt.PrivateIdentifier
  -- 13.11: EqualityExpression : RelationalExpression
  equality_expression_is_relational_expression : UnitProduction nt.EqualityExpression nt.RelationalExpression
  -- 13.12: BitwiseANDExpression : EqualityExpression
  bitwise_and_expression_is_equality_expression : UnitProduction nt.BitwiseAndExpression nt.EqualityExpression
  -- BitwiseXORExpression : BitwiseANDExpression
  bitwise_xor_expression_is_bitwise_and_expression : UnitProduction nt.BitwiseXorExpression nt.BitwiseAndExpression
  -- BitwiseORExpression : BitwiseXORExpression
  bitwise_or_expression_is_bitwise_xor_expression : UnitProduction nt.BitwiseOrExpression nt.BitwiseXorExpression
  -- 13.13: LogicalANDExpression : BitwiseORExpression
  logical_and_expression_is_bitwise_or_expression : UnitProduction nt.LogicalAndExpression nt.BitwiseOrExpression
  -- LogicalORExpression : LogicalANDExpression
  logical_or_expression_is_logical_and_expression : UnitProduction nt.LogicalOrExpression nt.LogicalAndExpression
  -- CoalesceExpressionHead : CoalesceExpression, BitwiseORExpression
  coalesce_expression_head_is_bitwise_or_expression : UnitProduction nt.CoalesceExpressionHead nt.BitwiseOrExpression
  coalesce_expression_head_is_coalesce_expression : UnitProduction nt.CoalesceExpressionHead nt.CoalesceExpression
  -- ShortCircuitExpression : LogicalORExpression, CoalesceExpression
  short_circuit_expression_is_logical_or_expression : UnitProduction nt.ShortCircuitExpression nt.LogicalOrExpression
  short_circuit_expression_is_coalesce_expression : UnitProduction nt.ShortCircuitExpression nt.CoalesceExpression
  -- 13.14: ConditionalExpression : ShortCircuitExpression
  conditional_expression_is_short_circuit_expression : UnitProduction nt.ConditionalExpression nt.ShortCircuitExpression
  -- 13.15: AssignmentExpression : ConditionalExpression
  assignment_expression_is_conditional_expression : UnitProduction nt.AssignmentExpression nt.ConditionalExpression
  -- 13.16: Expression : AssignmentExpression
  expression_is_assignment_expression : UnitProduction nt.Expression nt.AssignmentExpression
  -- what stands before `=`: LeftHandSideExpression or AssignmentPattern
  assignment_target_is_left_hand_side_expression : UnitProduction nt.AssignmentTarget nt.LeftHandSideExpression
  assignment_target_is_assignment_pattern : UnitProduction nt.AssignmentTarget nt.AssignmentPattern
  -- a name is what a pattern binds or assigns to
  pattern_target_is_pattern_name : UnitProduction nt.PatternTarget nt.PatternName
  -- an element without a value
  pattern_element_is_pattern_target : UnitProduction nt.PatternElement nt.PatternTarget
  -- what stands last among elements: one of them, or a rest
  last_element_is_pattern_element : UnitProduction nt.LastElement nt.PatternElement
  last_element_is_rest_element : UnitProduction nt.LastElement nt.RestElement
  -- 14: Declaration : HoistableDeclaration
  declaration_is_hoistable_declaration : UnitProduction nt.Declaration nt.HoistableDeclaration
  -- 14.2: StatementListItem : Statement, Declaration
  statement_list_item_is_statement : UnitProduction nt.StatementListItem nt.Statement
  statement_list_item_is_declaration : UnitProduction nt.StatementListItem nt.Declaration
  -- 14.13: LabelledItem : Statement, FunctionDeclaration
  labelled_item_is_statement : UnitProduction nt.LabelledItem nt.Statement
  labelled_item_is_hoistable_declaration : UnitProduction nt.LabelledItem nt.HoistableDeclaration
  -- the words before any function
  any_function_head_is_function_head : UnitProduction nt.AnyFunctionHead nt.FunctionHead
  any_function_head_is_generator_head : UnitProduction nt.AnyFunctionHead nt.GeneratorHead
  any_function_head_is_async_function_head : UnitProduction nt.AnyFunctionHead nt.AsyncFunctionHead
  any_function_head_is_async_generator_head : UnitProduction nt.AnyFunctionHead nt.AsyncGeneratorHead
  -- those before a function that is no generator: its name may be `yield`
  head_without_yield_is_function_head : UnitProduction nt.HeadWithoutYield nt.FunctionHead
  head_without_yield_is_async_function_head : UnitProduction nt.HeadWithoutYield nt.AsyncFunctionHead
  -- those before a function that isn't async: its name may be `await`
  head_without_await_is_function_head : UnitProduction nt.HeadWithoutAwait nt.FunctionHead
  head_without_await_is_generator_head : UnitProduction nt.HeadWithoutAwait nt.GeneratorHead
  -- propertyName, whichever it is: section 13.2.5
  any_property_name_is_property_name : UnitProduction nt.AnyPropertyName nt.PropertyName
  any_property_name_is_constructor_name : UnitProduction nt.AnyPropertyName nt.ConstructorName

-- none of them, or one and more
pub data Chain : Nonterminal → Nonterminal → Type 0 where
  here : {a : Nonterminal} → Chain a a
  step : {a b c : Nonterminal} → UnitProduction a b → Chain b c → Chain a c
