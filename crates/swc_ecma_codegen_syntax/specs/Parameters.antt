-- The parameters of nonterminals. ECMA-262, section 5.1.5.
use Rattle.std.specs.Prelude.{Bool, true, false, ◌||◌, ◌&&◌, not}
use Rattle.swc_ecma_codegen_syntax.specs.declared.parameters.Parameters.{Parameters}
use Rattle.swc_ecma_codegen_syntax.specs.declared.parameters.Position.{Position}
use Rattle.swc_ecma_codegen_syntax.specs.declared.parameters.Position.TheVariants.{Item, Labelled, Inner, Branch}

-- a script, and a module, outside functions: sections 16.1 and 16.2
abbrev pub of_script : Parameters
of_script = record {
  has_in = true;
  has_yield = false;
  has_await = false;
  has_return = false;
  is_strict = false;
  reserves_await = false;
  bars_operators = false;
  bars_using = true;
  is_binding = false;
  is_loop_head = false;
  initializes = false;
  position = Item;
  before_else = false;
  before_empty = false;
  before_less = false;
  minify = false;
}

abbrev pub of_module : Parameters
of_module = record of_script { has_await = true; is_strict = true; reserves_await = true; bars_using = false }

-- [+In], as between brackets
abbrev pub with_in : Parameters → Parameters
with_in c = record c { has_in = true; before_less = false }

-- [+In], for what ends the expression, as `b` of `a + -b`
abbrev pub to_end : Parameters → Parameters
to_end c = record c { has_in = true }

-- what stands before an operator: `<`, or another
abbrev pub before_operator : Bool → Parameters → Parameters
before_operator less c = record c { before_less = less }

-- what is assigned to binds nothing
abbrev pub of_targets : Parameters → Parameters
of_targets c = record c { has_in = true; before_less = false; is_binding = false }

-- BindingIdentifier, BindingPattern
abbrev pub of_bindings : Parameters → Parameters
of_bindings c = record c { is_binding = true }

-- what is declared by a statement, in the head of `for (a; b; c) {}`, and in that of `for (a of b) {}`
abbrev pub of_declarations : Parameters → Parameters
of_declarations c = record c { has_in = true; is_loop_head = false }

abbrev pub of_for : Parameters → Parameters
of_for c = record c { has_in = false; is_loop_head = false }

-- whether a `var` may have a value there: B.3.5, `for (var a = b in c)`
abbrev pub of_loop : Bool → Parameters → Parameters
of_loop initializes c = record c { has_in = false; is_loop_head = true; initializes = initializes }

-- an item of a StatementList, and whether an empty statement stands right behind it
abbrev pub in_list : Bool → Parameters → Parameters
in_list empty c = record c { position = Item; before_else = false; before_empty = empty; before_less = false }

-- a StatementList in braces
abbrev pub in_block : Parameters → Parameters
in_block c = record c { bars_using = false }

-- whether an empty statement stands right behind
abbrev pub before : Bool → Parameters → Parameters
before empty c = record c { before_empty = empty }

-- the statement of another that ends with it, as `b;` of `while (a) b;`; `b;` of `do b; while (a)`; that of an `if`, as `b;` of `if (a) b;`; `b;` of
-- `if (a) b; else c;`

abbrev pub in_statement : Parameters → Parameters
in_statement c = record c { position = Inner }

abbrev pub in_do_while : Parameters → Parameters
in_do_while c = record c { position = Inner; before_else = false; before_empty = false }

abbrev pub in_branch : Parameters → Parameters
in_branch c = record c { position = Branch }

abbrev pub in_if_else : Parameters → Parameters
in_if_else c = record c { position = Branch; before_else = true; before_empty = false }

-- the statement behind a label
unfoldable pub labelled : Position → Position
labelled Inner = Inner
labelled Branch = Inner
labelled position = Labelled

abbrev pub behind_label : Parameters → Parameters
behind_label c = record c { position = labelled c.position }

-- ---- functions and classes: what each part has of [Yield], [Await] and [Return], and whether the operators are barred. What isn't named here has what
-- stands round it: the name of a declaration, a label, a computed key, a heritage, a template.

-- FunctionBody : StatementList[?Yield, ?Await, +Return] of a function, a method, a getter or a setter, with [Yield] in a generator and [Await] in an async
-- one: sections 15.2 to 15.6 and 15.8
abbrev pub of_function : Bool → Bool → Parameters → Parameters
of_function generator is_async c =
    record c { has_in = true; has_yield = generator; has_await = is_async; has_return = true; bars_operators = false; is_binding = true }

-- FormalParameters[?Yield, ?Await], with the same. That none of them has an operator, even so, are early errors of sections 15.5.1, 15.6.1 and 15.8.1:
-- `function* g(a = yield) {}`.
abbrev pub of_parameters : Bool → Bool → Parameters → Parameters
of_parameters generator is_async c = record (of_function generator is_async c) { has_return = c.has_return; bars_operators = true }

-- BindingIdentifier of a function expression, which the words before it restrict too: `function await() {}` stands anywhere in a script
abbrev pub of_function_name : Parameters → Parameters
of_function_name c = record c { has_yield = false; has_await = false }

-- ArrowParameters[?Yield, ?Await], section 15.3; ArrowFormalParameters[~Yield, +Await], which CoverCallExpressionAndAsyncArrowHead[?Yield, ?Await] covers,
-- section 15.9: no name among them is a word in either. No operator stands there: sections 15.3.1 and 15.9.1.
abbrev pub of_arrow_parameters : Bool → Parameters → Parameters
of_arrow_parameters is_async c = record c { has_in = true; has_await = is_async || c.has_await; bars_operators = true; is_binding = true }

-- ExpressionBody[?In, ~Await], or [?In, +Await] : AssignmentExpression[?In, ~Yield, ?Await]
abbrev pub of_arrow_value : Bool → Parameters → Parameters
of_arrow_value is_async c = record c { has_yield = false; has_await = is_async; bars_operators = false }

-- FunctionBody[~Yield, ~Await], or [~Yield, +Await]
abbrev pub of_arrow_block : Bool → Parameters → Parameters
of_arrow_block is_async c = record c { has_in = true; has_yield = false; has_await = is_async; has_return = true; bars_operators = false }

-- ClassTail: all of a class is strict code, section 11.2.2
abbrev pub of_class : Parameters → Parameters
of_class c = record c { has_in = true; before_less = false; is_strict = true }

-- Initializer[+In, ~Yield, ~Await] of a field
abbrev pub of_field : Parameters → Parameters
of_field c = record c { has_in = true; has_yield = false; has_await = false; bars_operators = false }

-- ClassStaticBlockStatementList : StatementList[~Yield, +Await, ~Return], which has no `await` in it: section 15.7.1
abbrev pub of_static_block : Parameters → Parameters
of_static_block c = record c { has_in = true; has_yield = false; has_await = true; has_return = false; bars_operators = true }

-- ---- the operators `yield` and `await`

abbrev pub may_yield : Parameters → Bool
may_yield c = c.has_yield && not c.bars_operators

abbrev pub may_await : Parameters → Bool
may_await c = c.has_await && not c.bars_operators
