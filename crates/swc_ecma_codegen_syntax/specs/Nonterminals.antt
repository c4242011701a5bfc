-- Which nonterminals derive others by unit productions, each as its section of ECMA-262 has them.
use Rattle.std.specs.Prelude.{Bool, true, false}
use Rattle.swc_ecma_codegen_syntax.specs.declared.nonterminals.Nonterminal.{Nonterminal}
use Rattle.swc_ecma_codegen_syntax.specs.declared.nonterminals.Nonterminal.TheVariants as nt

-- 13.3: MemberExpression : PrimaryExpression
unfoldable pub is_member : Nonterminal → Bool
is_member nt.MemberExpression = true
is_member nt.PrimaryExpression = true
is_member n = false

-- NewExpression : MemberExpression
unfoldable pub is_new : Nonterminal → Bool
is_new nt.NewExpression = true
is_new n = is_member n

-- CallExpression has no such production
unfoldable pub is_call : Nonterminal → Bool
is_call nt.CallExpression = true
is_call n = false

-- MemberExpression or CallExpression
unfoldable pub is_callee : Nonterminal → Bool
is_callee nt.CallOrMember = true
is_callee nt.CallExpression = true
is_callee n = is_member n

-- what stands before `?.`: MemberExpression, CallExpression or OptionalExpression
unfoldable pub is_chained : Nonterminal → Bool
is_chained nt.ChainBase = true
is_chained nt.OptionalExpression = true
is_chained nt.CallExpression = true
is_chained n = is_member n

-- LeftHandSideExpression : NewExpression, CallExpression, OptionalExpression
unfoldable pub is_left_hand_side : Nonterminal → Bool
is_left_hand_side nt.LeftHandSideExpression = true
is_left_hand_side nt.CallExpression = true
is_left_hand_side nt.OptionalExpression = true
is_left_hand_side n = is_new n

-- 13.4: UpdateExpression : LeftHandSideExpression
unfoldable pub is_update : Nonterminal → Bool
is_update nt.UpdateExpression = true
is_update n = is_left_hand_side n

-- 13.5: UnaryExpression : UpdateExpression
unfoldable pub is_unary : Nonterminal → Bool
is_unary nt.UnaryExpression = true
is_unary n = is_update n

-- 13.6: ExponentiationExpression : UnaryExpression
unfoldable pub is_exponentiation : Nonterminal → Bool
is_exponentiation nt.ExponentiationExpression = true
is_exponentiation n = is_unary n

-- 13.7: MultiplicativeExpression : ExponentiationExpression
unfoldable pub is_multiplicative : Nonterminal → Bool
is_multiplicative nt.MultiplicativeExpression = true
is_multiplicative n = is_exponentiation n

-- 13.8: AdditiveExpression : MultiplicativeExpression
unfoldable pub is_additive : Nonterminal → Bool
is_additive nt.AdditiveExpression = true
is_additive n = is_multiplicative n

-- 13.9: ShiftExpression : AdditiveExpression
unfoldable pub is_shift : Nonterminal → Bool
is_shift nt.ShiftExpression = true
is_shift n = is_additive n

-- 13.10: RelationalExpression : ShiftExpression
unfoldable pub is_relational : Nonterminal → Bool
is_relational nt.RelationalExpression = true
is_relational n = is_shift n

-- what stands before `in`: RelationalExpression or PrivateIdentifier
unfoldable pub is_in_left : Nonterminal → Bool
is_in_left nt.InLeft = true
is_in_left nt.PrivateIdentifier = true
is_in_left n = is_relational n

-- 13.11: EqualityExpression : RelationalExpression
unfoldable pub is_equality : Nonterminal → Bool
is_equality nt.EqualityExpression = true
is_equality n = is_relational n

-- 13.12: BitwiseANDExpression : EqualityExpression
unfoldable pub is_bitwise_and : Nonterminal → Bool
is_bitwise_and nt.BitwiseAndExpression = true
is_bitwise_and n = is_equality n

-- BitwiseXORExpression : BitwiseANDExpression
unfoldable pub is_bitwise_xor : Nonterminal → Bool
is_bitwise_xor nt.BitwiseXorExpression = true
is_bitwise_xor n = is_bitwise_and n

-- BitwiseORExpression : BitwiseXORExpression
unfoldable pub is_bitwise_or : Nonterminal → Bool
is_bitwise_or nt.BitwiseOrExpression = true
is_bitwise_or n = is_bitwise_xor n

-- 13.13: LogicalANDExpression : BitwiseORExpression
unfoldable pub is_logical_and : Nonterminal → Bool
is_logical_and nt.LogicalAndExpression = true
is_logical_and n = is_bitwise_or n

-- LogicalORExpression : LogicalANDExpression
unfoldable pub is_logical_or : Nonterminal → Bool
is_logical_or nt.LogicalOrExpression = true
is_logical_or n = is_logical_and n

-- CoalesceExpressionHead : CoalesceExpression, BitwiseORExpression
unfoldable pub is_coalesce_head : Nonterminal → Bool
is_coalesce_head nt.CoalesceExpressionHead = true
is_coalesce_head nt.CoalesceExpression = true
is_coalesce_head n = is_bitwise_or n

-- ShortCircuitExpression : LogicalORExpression, CoalesceExpression
unfoldable pub is_short_circuit : Nonterminal → Bool
is_short_circuit nt.ShortCircuitExpression = true
is_short_circuit nt.CoalesceExpression = true
is_short_circuit n = is_logical_or n

-- 13.14: ConditionalExpression : ShortCircuitExpression
unfoldable pub is_conditional : Nonterminal → Bool
is_conditional nt.ConditionalExpression = true
is_conditional n = is_short_circuit n

-- 13.15: AssignmentExpression : ConditionalExpression
unfoldable pub is_assignment : Nonterminal → Bool
is_assignment nt.AssignmentExpression = true
is_assignment n = is_conditional n

-- 13.16: Expression : AssignmentExpression
unfoldable pub is_expression : Nonterminal → Bool
is_expression nt.Expression = true
is_expression n = is_assignment n

-- what stands before `=`: LeftHandSideExpression or AssignmentPattern
unfoldable pub is_assignment_target : Nonterminal → Bool
is_assignment_target nt.AssignmentTarget = true
is_assignment_target nt.AssignmentPattern = true
is_assignment_target n = is_left_hand_side n

-- a name is what a pattern binds or assigns to
unfoldable pub is_pattern_target : Nonterminal → Bool
is_pattern_target nt.PatternTarget = true
is_pattern_target nt.PatternName = true
is_pattern_target n = false

-- an element without a value
unfoldable pub is_pattern_element : Nonterminal → Bool
is_pattern_element nt.PatternElement = true
is_pattern_element n = is_pattern_target n

-- what stands last among elements: one of them, or a rest
unfoldable pub is_last_element : Nonterminal → Bool
is_last_element nt.LastElement = true
is_last_element nt.RestElement = true
is_last_element n = is_pattern_element n

-- those that derive no other nonterminal alone
unfoldable pub is_coalesce : Nonterminal → Bool
is_coalesce nt.CoalesceExpression = true
is_coalesce n = false

unfoldable pub is_private : Nonterminal → Bool
is_private nt.PrivateIdentifier = true
is_private n = false

unfoldable pub is_optional : Nonterminal → Bool
is_optional nt.OptionalExpression = true
is_optional n = false

unfoldable pub is_primary : Nonterminal → Bool
is_primary nt.PrimaryExpression = true
is_primary n = false

unfoldable pub is_template : Nonterminal → Bool
is_template nt.TemplateLiteral = true
is_template n = false

unfoldable pub is_property_name : Nonterminal → Bool
is_property_name nt.PropertyName = true
is_property_name n = false

unfoldable pub is_chain_link : Nonterminal → Bool
is_chain_link nt.OptionalChain = true
is_chain_link n = false

unfoldable pub is_assignment_pattern : Nonterminal → Bool
is_assignment_pattern nt.AssignmentPattern = true
is_assignment_pattern n = false

unfoldable pub is_pattern_name : Nonterminal → Bool
is_pattern_name nt.PatternName = true
is_pattern_name n = false

unfoldable pub is_rest : Nonterminal → Bool
is_rest nt.RestElement = true
is_rest n = false

unfoldable pub is_statement : Nonterminal → Bool
is_statement nt.Statement = true
is_statement n = false

unfoldable pub is_hoistable_declaration : Nonterminal → Bool
is_hoistable_declaration nt.HoistableDeclaration = true
is_hoistable_declaration n = false

unfoldable pub is_block : Nonterminal → Bool
is_block nt.Block = true
is_block n = false

unfoldable pub is_variable_declarations : Nonterminal → Bool
is_variable_declarations nt.VariableDeclarations = true
is_variable_declarations n = false

-- 14: Declaration : HoistableDeclaration
unfoldable pub is_declaration : Nonterminal → Bool
is_declaration nt.Declaration = true
is_declaration n = is_hoistable_declaration n

-- 14.2: StatementListItem : Statement, Declaration
unfoldable pub is_statement_list_item : Nonterminal → Bool
is_statement_list_item nt.StatementListItem = true
is_statement_list_item nt.Statement = true
is_statement_list_item n = is_declaration n

-- 14.13: LabelledItem : Statement, FunctionDeclaration
unfoldable pub is_labelled_item : Nonterminal → Bool
is_labelled_item nt.LabelledItem = true
is_labelled_item nt.Statement = true
is_labelled_item n = is_hoistable_declaration n

unfoldable pub is_module_declaration : Nonterminal → Bool
is_module_declaration nt.ModuleDeclaration = true
is_module_declaration n = false

unfoldable pub is_exported_head : Nonterminal → Bool
is_exported_head nt.ExportedHead = true
is_exported_head n = false

-- functions and classes
unfoldable pub is_function_head : Nonterminal → Bool
is_function_head nt.FunctionHead = true
is_function_head n = false

unfoldable pub is_generator_head : Nonterminal → Bool
is_generator_head nt.GeneratorHead = true
is_generator_head n = false

unfoldable pub is_async_function_head : Nonterminal → Bool
is_async_function_head nt.AsyncFunctionHead = true
is_async_function_head n = false

unfoldable pub is_async_generator_head : Nonterminal → Bool
is_async_generator_head nt.AsyncGeneratorHead = true
is_async_generator_head n = false

unfoldable pub is_function_tail : Nonterminal → Bool
is_function_tail nt.FunctionTail = true
is_function_tail n = false

unfoldable pub is_getter_tail : Nonterminal → Bool
is_getter_tail nt.GetterTail = true
is_getter_tail n = false

unfoldable pub is_setter_tail : Nonterminal → Bool
is_setter_tail nt.SetterTail = true
is_setter_tail n = false

unfoldable pub is_method_head : Nonterminal → Bool
is_method_head nt.MethodHead = true
is_method_head n = false

unfoldable pub is_decorator_list : Nonterminal → Bool
is_decorator_list nt.DecoratorList = true
is_decorator_list n = false

unfoldable pub is_class_head : Nonterminal → Bool
is_class_head nt.ClassHead = true
is_class_head n = false

unfoldable pub is_class_tail : Nonterminal → Bool
is_class_tail nt.ClassTail = true
is_class_tail n = false

unfoldable pub is_class_element : Nonterminal → Bool
is_class_element nt.ClassElement = true
is_class_element n = false

unfoldable pub is_constructor_name : Nonterminal → Bool
is_constructor_name nt.ConstructorName = true
is_constructor_name n = false

-- the words before any function
unfoldable pub is_any_function_head : Nonterminal → Bool
is_any_function_head nt.AnyFunctionHead = true
is_any_function_head nt.FunctionHead = true
is_any_function_head nt.GeneratorHead = true
is_any_function_head nt.AsyncFunctionHead = true
is_any_function_head nt.AsyncGeneratorHead = true
is_any_function_head n = false

-- those before a function that is no generator: its name may be `yield`
unfoldable pub is_head_without_yield : Nonterminal → Bool
is_head_without_yield nt.HeadWithoutYield = true
is_head_without_yield nt.FunctionHead = true
is_head_without_yield nt.AsyncFunctionHead = true
is_head_without_yield n = false

-- those before a function that isn't async: its name may be `await`
unfoldable pub is_head_without_await : Nonterminal → Bool
is_head_without_await nt.HeadWithoutAwait = true
is_head_without_await nt.FunctionHead = true
is_head_without_await nt.GeneratorHead = true
is_head_without_await n = false

-- propertyName, whichever it is: section 13.2.5
unfoldable pub is_any_property_name : Nonterminal → Bool
is_any_property_name nt.AnyPropertyName = true
is_any_property_name nt.PropertyName = true
is_any_property_name nt.ConstructorName = true
is_any_property_name n = false

unfoldable pub is_jsx_element : Nonterminal → Bool
is_jsx_element nt.JSXElement = true
is_jsx_element n = false

unfoldable pub is_jsx_object : Nonterminal → Bool
is_jsx_object nt.JSXObject = true
is_jsx_object n = false

unfoldable pub is_uncovered : Nonterminal → Bool
is_uncovered nt.Uncovered = true
is_uncovered n = false

-- the first derives the second by unit productions, or is the second
unfoldable pub takes : Nonterminal → Nonterminal → Bool
takes nt.Expression = is_expression
takes nt.AssignmentExpression = is_assignment
takes nt.ConditionalExpression = is_conditional
takes nt.ShortCircuitExpression = is_short_circuit
takes nt.CoalesceExpression = is_coalesce
takes nt.CoalesceExpressionHead = is_coalesce_head
takes nt.LogicalOrExpression = is_logical_or
takes nt.LogicalAndExpression = is_logical_and
takes nt.BitwiseOrExpression = is_bitwise_or
takes nt.BitwiseXorExpression = is_bitwise_xor
takes nt.BitwiseAndExpression = is_bitwise_and
takes nt.EqualityExpression = is_equality
takes nt.RelationalExpression = is_relational
takes nt.InLeft = is_in_left
takes nt.PrivateIdentifier = is_private
takes nt.ShiftExpression = is_shift
takes nt.AdditiveExpression = is_additive
takes nt.MultiplicativeExpression = is_multiplicative
takes nt.ExponentiationExpression = is_exponentiation
takes nt.UnaryExpression = is_unary
takes nt.UpdateExpression = is_update
takes nt.LeftHandSideExpression = is_left_hand_side
takes nt.NewExpression = is_new
takes nt.CallExpression = is_call
takes nt.OptionalExpression = is_optional
takes nt.MemberExpression = is_member
takes nt.CallOrMember = is_callee
takes nt.ChainBase = is_chained
takes nt.PrimaryExpression = is_primary
takes nt.TemplateLiteral = is_template
takes nt.PropertyName = is_property_name
takes nt.OptionalChain = is_chain_link
takes nt.AssignmentTarget = is_assignment_target
takes nt.AssignmentPattern = is_assignment_pattern
takes nt.PatternName = is_pattern_name
takes nt.PatternTarget = is_pattern_target
takes nt.PatternElement = is_pattern_element
takes nt.RestElement = is_rest
takes nt.LastElement = is_last_element
takes nt.Statement = is_statement
takes nt.HoistableDeclaration = is_hoistable_declaration
takes nt.Declaration = is_declaration
takes nt.Block = is_block
takes nt.StatementListItem = is_statement_list_item
takes nt.VariableDeclarations = is_variable_declarations
takes nt.LabelledItem = is_labelled_item
takes nt.ModuleDeclaration = is_module_declaration
takes nt.ExportedHead = is_exported_head
takes nt.FunctionHead = is_function_head
takes nt.GeneratorHead = is_generator_head
takes nt.AsyncFunctionHead = is_async_function_head
takes nt.AsyncGeneratorHead = is_async_generator_head
takes nt.FunctionTail = is_function_tail
takes nt.GetterTail = is_getter_tail
takes nt.SetterTail = is_setter_tail
takes nt.MethodHead = is_method_head
takes nt.DecoratorList = is_decorator_list
takes nt.ClassHead = is_class_head
takes nt.ClassTail = is_class_tail
takes nt.ClassElement = is_class_element
takes nt.ConstructorName = is_constructor_name
takes nt.AnyFunctionHead = is_any_function_head
takes nt.HeadWithoutYield = is_head_without_yield
takes nt.HeadWithoutAwait = is_head_without_await
takes nt.AnyPropertyName = is_any_property_name
takes nt.JSXElement = is_jsx_element
takes nt.JSXObject = is_jsx_object
takes nt.Uncovered = is_uncovered
