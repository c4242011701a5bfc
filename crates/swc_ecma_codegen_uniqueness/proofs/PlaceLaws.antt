-- What is asked of the tables, by evaluation, of statements, members of classes and lists.
use Rattle.std.proofs.Common.{◌≡◌, Bool, true, false, ◌&&◌, ◌||◌, not, ◌⊎◌, inl, inr, None, refl, sym, ap, ◌∙◌}
use Rattle.std.specs.Prelude.{if◌then◌else◌}
use Rattle.std.proofs.lemmas.Bool.{true≢false, and_parts, and_from}
use Rattle.swc_ecma_codegen_grammar.specs.Tokens.{Token}
use Rattle.swc_ecma_codegen_syntax.specs.declared.nonterminals.Nonterminal.{Nonterminal}
use Rattle.swc_ecma_codegen_syntax.specs.declared.nonterminals.Nonterminal.TheVariants as nt
use Rattle.swc_ecma_codegen_syntax.specs.Nonterminals.{is_member, is_new, is_call, is_callee, is_chained, is_left_hand_side, is_update, is_unary, is_exponentiation, is_multiplicative, is_additive, is_shift, is_relational, is_in_left, is_equality, is_bitwise_and, is_bitwise_xor, is_bitwise_or, is_logical_and, is_logical_or, is_coalesce_head, is_short_circuit, is_conditional, is_assignment, is_expression, is_assignment_target, is_pattern_target, is_pattern_element, is_last_element, is_coalesce, is_private, is_optional, is_primary, is_template, is_property_name, is_chain_link, is_assignment_pattern, is_pattern_name, is_rest, is_statement, is_hoistable_declaration, is_block, is_variable_declarations, is_declaration, is_statement_list_item, is_labelled_item, is_module_declaration, is_exported_head, is_function_head, is_generator_head, is_async_function_head, is_async_generator_head, is_function_tail, is_getter_tail, is_setter_tail, is_method_head, is_decorator_list, is_class_head, is_class_tail, is_class_element, is_constructor_name, is_any_function_head, is_head_without_yield, is_head_without_await, is_any_property_name, is_jsx_element, is_jsx_object, is_uncovered, takes}
use Rattle.swc_ecma_codegen_uniqueness.proofs.Classes.{Power, Plus, Class, Infix, Dot, OpenParen, OpenBrace, Line, class, FunctionWord, ReturnWord, ThrowWord, BreakWord, ContinueWord, DebuggerWord, IfWord, WhileWord, WithWord, VarWord, Semicolon, DoWord, TryWord, SwitchWord, ElseWord, CloseBrace, ClassWord, ExportWord, ImportWord, AsyncWord, ForWord, Over, Assigns, RegexToken, Semi, Colon, TagName, TagClose, ChildTagMark, Later, First, Jsx, Slashed, KeyToken, is_reserved_word, Strange}
use Rattle.swc_ecma_codegen_uniqueness.proofs.Controls.{left, OfInfix, Control, Open, waits, stands, starts, is_item, Members, AtMember, AttributeElement, Children, ChildTag, ImportItem, AfterImport, AsyncItem, AsyncItemLine, AsyncDefault, AsyncDefaultLine, AfterAsync, AsyncLine, at_item, Where, InList, OfElse, MemberKey, Statement, Entered, entered, InTry, InCatch, InMethod, OfIf, OfDo, InTag, is_behind_any, OfLabel, OfLoop}
use Rattle.swc_ecma_codegen_uniqueness.specs.ParseTrees.{ClassMethod}
use Rattle.swc_ecma_codegen_uniqueness.proofs.Moves.{begin, begun_at, shifted_to}
use Rattle.swc_ecma_codegen_uniqueness.proofs.Tables.{decide, Action, Push, Wrap, Reduce, Shift, Turn, Begin, Enter, Leave, Splice, Take, EnterBelow, Merge, Reject, without, with_operand, Keep}
use Rattle.swc_ecma_codegen_uniqueness.proofs.TableLaws.{if_so, is_push, is_wrap, push_is, told}

-- ---- statements: where one stands, its first token begins it, and no operand does

abbrev pub is_keyword : Class → Bool
is_keyword FunctionWord = true
is_keyword ClassWord = true
is_keyword ExportWord = true
is_keyword ForWord = true
is_keyword ReturnWord = true
is_keyword ThrowWord = true
is_keyword BreakWord = true
is_keyword ContinueWord = true
is_keyword DebuggerWord = true
is_keyword IfWord = true
is_keyword WhileWord = true
is_keyword WithWord = true
is_keyword DoWord = true
is_keyword TryWord = true
is_keyword SwitchWord = true
is_keyword VarWord = true
is_keyword Semicolon = true
is_keyword l = false

waits_test : (c : Control) (n : Nonterminal) → if_so (is_item n) (not (takes (waits c) n) && not (is_private n)) ≡ true
unfolding is_member is_new is_call is_callee is_chained is_left_hand_side is_update is_unary is_exponentiation is_multiplicative is_additive is_shift is_relational is_in_left is_equality is_bitwise_and is_bitwise_xor is_bitwise_or is_logical_and is_logical_or is_coalesce_head is_short_circuit is_conditional is_assignment is_expression is_assignment_target is_pattern_target is_pattern_element is_last_element is_coalesce is_private is_optional is_primary is_template is_property_name is_chain_link is_assignment_pattern is_pattern_name is_rest is_statement is_hoistable_declaration is_block is_variable_declarations is_declaration is_statement_list_item is_labelled_item is_module_declaration is_exported_head is_function_head is_generator_head is_async_function_head is_async_generator_head is_function_tail is_getter_tail is_setter_tail is_method_head is_decorator_list is_class_head is_class_tail is_class_element is_constructor_name is_any_function_head is_head_without_yield is_head_without_await is_any_property_name is_jsx_element is_jsx_object is_uncovered takes
waits_test (Open (OfInfix Power)) nt.Statement = refl
waits_test c nt.Statement = refl
waits_test (Open (OfInfix Power)) nt.Block = refl
waits_test c nt.Block = refl
waits_test (Open (OfInfix Power)) nt.StatementListItem = refl
waits_test c nt.StatementListItem = refl
waits_test c n = refl

item_cases : (a b c d : Bool) → (not a && not b) ≡ true → (a || ((b && c) || d)) ≡ true → d ≡ true
item_cases false false c d h s = s
item_cases true b c d h s = absurd (true≢false (sym h))
item_cases false true c d h s = absurd (true≢false (sym h))

pub item_there : (n : Nonterminal) → is_item n ≡ true → (c : Control) → stands c n ≡ true → at_item c ≡ true
item_there n i c s = (and_parts _ _ (item_cases (takes (waits c) n) (is_private n) (takes (waits c) nt.RelationalExpression) (is_item n && at_item c) (told _ _ (waits_test c n) i) s)).1

keyword_test : (c : Control) (l : Class) → if_so (at_item c && is_keyword l) (is_push (without c l)) ≡ true
keyword_test (Statement place) FunctionWord = refl
keyword_test c FunctionWord = refl
keyword_test c l = refl

pub keyword_pushes : (t : Token) (n : Nonterminal) → is_keyword (class t) ≡ true → is_item n ≡ true → (c : Control) → stands c n ≡ true → decide c None t ≡ Push
keyword_pushes t n k i c s = push_is _ (told _ _ (keyword_test c (class t)) (and_from _ _ (item_there n i c s) k))

abbrev is_enter : Action → Bool
is_enter Enter = true
is_enter a = false

enter_is : (a : Action) → is_enter a ≡ true → a ≡ Enter
enter_is Enter h = refl
enter_is Shift h = absurd (true≢false (sym h))
enter_is Push h = absurd (true≢false (sym h))
enter_is Wrap h = absurd (true≢false (sym h))
enter_is Reduce h = absurd (true≢false (sym h))
enter_is Turn h = absurd (true≢false (sym h))
enter_is Begin h = absurd (true≢false (sym h))
enter_is Leave h = absurd (true≢false (sym h))
enter_is Splice h = absurd (true≢false (sym h))
enter_is Take h = absurd (true≢false (sym h))
enter_is Keep h = absurd (true≢false (sym h))
enter_is EnterBelow h = absurd (true≢false (sym h))
enter_is Merge h = absurd (true≢false (sym h))
enter_is Reject h = absurd (true≢false (sym h))

-- what begins no expression in the place of a statement
abbrev pub is_barred : Class → Bool
is_barred OpenBrace = true
is_barred FunctionWord = true
is_barred ClassWord = true
is_barred l = false

-- what begins one there or an item, as a later token tells
abbrev pub is_delayed : Class → Bool
is_delayed ImportWord = true
is_delayed AsyncWord = true
is_delayed l = false

enter_test : (place : Where) (l : Class) → if_so (starts l && (not (is_barred l) && not (is_delayed l))) (is_enter (without (Statement place) l)) ≡ true
enter_test (InList ends) (Infix Plus) = refl
enter_test place (Infix Plus) = refl
enter_test (InList ends) (First true opens) = refl
enter_test place (First true opens) = refl
enter_test (InList ends) l = refl
enter_test place l = refl

entered_test : (place : Where) (l : Class) → if_so (starts l) (is_push (without (Entered place) l)) ≡ true
entered_test place (Infix Plus) = refl
entered_test place (First true opens) = refl
entered_test place l = refl

-- a statement's place
pub data ItemPlace : Control → Type 0 where
  item_place : (place : Where) → ItemPlace (Statement place)

pub place_of : (c : Control) → at_item c ≡ true → ItemPlace c
place_of (Statement place) h = item_place place
place_of c h = absurd (true≢false (sym h))

pub enters : (t : Token) → starts (class t) ≡ true → is_barred (class t) ≡ false → is_delayed (class t) ≡ false → (c : Control) → ItemPlace c → (decide c None t ≡ Enter) × (decide (entered c) None t ≡ Push)
enters t h b k c (item_place place) =
    (enter_is _ (told _ _ (enter_test place (class t)) (and_from _ _ h (and_from _ _ (ap not b) (ap not k)))), push_is _ (told _ _ (entered_test place (class t)) h))

-- `import` is either, and `(` or `.` behind it tells which
abbrev pub is_import_call : Class → Bool
is_import_call OpenParen = true
is_import_call Dot = true
is_import_call l = false

pub import_begins : (c : Control) → ItemPlace c → (without c ImportWord ≡ Begin) × (begun_at c ImportWord ≡ ImportItem) × (without (entered c) ImportWord ≡ Push)
import_begins c (item_place place) = (refl, refl, refl)

pub import_called : (l : Class) → is_import_call l ≡ true → (without ImportItem l ≡ EnterBelow) × (without AfterImport l ≡ Shift)
import_called OpenParen h = (refl, refl)
import_called Dot h = (refl, refl)
import_called l h = absurd (true≢false (sym h))

pub import_rejects : (l : Class) → is_import_call l ≡ false → without AfterImport l ≡ Reject
import_rejects OpenParen h = absurd (true≢false h)
import_rejects Dot h = absurd (true≢false h)
import_rejects l h = refl

-- so is `async`, and `function` on its line tells
abbrev pub is_line : Class → Bool
is_line Line = true
is_line l = false

abbrev pub is_function : Class → Bool
is_function FunctionWord = true
is_function l = false

pub async_begins : (c : Control) → ItemPlace c → (without c AsyncWord ≡ Begin) × (begun_at c AsyncWord ≡ AsyncItem) × (without (entered c) AsyncWord ≡ Push)
async_begins c (item_place place) = (refl, refl, refl)

-- behind the word, and behind what stays on its line; the same behind `export default`
pub async_line : (l : Class) → is_line l ≡ true → (without AsyncItem l ≡ Shift) × (shifted_to AsyncItem l ≡ AsyncItemLine) × (without AsyncDefault l ≡ Shift) × (shifted_to AsyncDefault l ≡ AsyncDefaultLine)
    × (without AfterAsync l ≡ Shift) × (shifted_to AfterAsync l ≡ AsyncLine)
async_line Line h = (refl, refl, refl, refl, refl, refl)
async_line l h = absurd (true≢false (sym h))

pub async_ends : (l : Class) → is_line l ≡ false → without AfterAsync l ≡ Reject
async_ends Line h = absurd (true≢false h)
async_ends l h = refl

-- what stands behind that is `function`, or begins an operand
abbrev pub is_slash : Class → Bool
is_slash (Infix Over) = true
is_slash (Assigns Slashed) = true
is_slash l = false

-- nor does a template with a tag begin one, nor the rest of a template, nor what stays on a line, nor `;`, nor a reserved word as a name, nor a token of JSX
abbrev pub is_no_start : Class → Bool
is_no_start (First tagged opens) = tagged
is_no_start (Later tagged opens) = true
is_no_start Line = true
is_no_start Semi = true
is_no_start Semicolon = true
is_no_start KeyToken = true
is_no_start Strange = true
is_no_start (Jsx part) = true
is_no_start l = is_slash l

abbrev pub begins_none : Class → Bool
begins_none FunctionWord = true
begins_none l = is_no_start l

pub none_begins : (l : Class) → is_function l ≡ false → is_no_start l ≡ false → begins_none l ≡ false
none_begins FunctionWord h k = absurd (true≢false h)
none_begins l h k = k

pub async_rejects : (l : Class) → is_no_start l ≡ true → without AsyncLine l ≡ Reject
async_rejects (First true opens) h = refl
async_rejects (Later tagged opens) h = refl
async_rejects Line h = refl
async_rejects Semi h = refl
async_rejects Semicolon h = refl
async_rejects KeyToken h = refl
async_rejects Strange h = refl
async_rejects (Jsx part) h = refl
async_rejects (Infix Over) h = refl
async_rejects (Assigns Slashed) h = refl
async_rejects l h = absurd (true≢false (sym h))

pub async_enters : (l : Class) → begins_none l ≡ false → (without AsyncItemLine l ≡ EnterBelow) × (without AsyncDefaultLine l ≡ EnterBelow) × (without AsyncLine l ≡ Enter)
async_enters FunctionWord h = absurd (true≢false h)
async_enters (Infix Over) h = absurd (true≢false h)
async_enters (Assigns Slashed) h = absurd (true≢false h)
async_enters (First true opens) h = absurd (true≢false h)
async_enters (Later tagged opens) h = absurd (true≢false h)
async_enters Line h = absurd (true≢false h)
async_enters Semi h = absurd (true≢false h)
async_enters Semicolon h = absurd (true≢false h)
async_enters KeyToken h = absurd (true≢false h)
async_enters Strange h = absurd (true≢false h)
async_enters (Jsx part) h = absurd (true≢false h)
async_enters l h = (refl, refl, refl)

-- what ends an expression statement, or stands behind a label, is neither a line nor `function`
pub leaves_alone : (l : Class) → with_operand (Entered OfElse) l ≡ Leave → (is_line l ≡ false) × (is_function l ≡ false)
leaves_alone Line h = absurd (true≢false (ap is_wrap h))
leaves_alone Semi h = (refl, refl)
leaves_alone Colon h = (refl, refl)
leaves_alone FunctionWord h = absurd (true≢false (ap is_wrap h))
leaves_alone l h = (refl, refl)

pub delayed_by : (l : Class) → (is_delayed l ≡ false) ⊎ ((l ≡ ImportWord) ⊎ (l ≡ AsyncWord))
delayed_by ImportWord = inr (inl refl)
delayed_by AsyncWord = inr (inr refl)
delayed_by l = inl refl

-- with which token an operand begins, by what the machine does at it in the place of a statement
begins_test : (l : Class) → if_so (is_push (without (Entered OfElse) l)) (starts l) ≡ true
begins_test (Infix Plus) = refl
begins_test (Assigns Slashed) = refl
begins_test (First true opens) = refl
begins_test l = refl

pub begins_operand : (t : Token) → decide (Entered OfElse) None t ≡ Push → starts (class t) ≡ true
begins_operand t e = told _ _ (begins_test (class t)) (ap is_push e)

-- ---- members of a class

-- the place of one
pub data ElementPlace : Control → Type 0 where
  element_place : ElementPlace Members

pub element_there : (c : Control) → stands c nt.ClassElement ≡ true → ElementPlace c
unfolding is_member is_new is_call is_callee is_chained is_left_hand_side is_update is_unary is_exponentiation is_multiplicative is_additive is_shift is_relational is_in_left is_equality is_bitwise_and is_bitwise_xor is_bitwise_or is_logical_and is_logical_or is_coalesce_head is_short_circuit is_conditional is_assignment is_expression is_assignment_target is_pattern_target is_pattern_element is_last_element is_coalesce is_private is_optional is_primary is_template is_property_name is_chain_link is_assignment_pattern is_pattern_name is_rest is_statement is_hoistable_declaration is_block is_variable_declarations is_declaration is_statement_list_item is_labelled_item is_module_declaration is_exported_head is_function_head is_generator_head is_async_function_head is_async_generator_head is_function_tail is_getter_tail is_setter_tail is_method_head is_decorator_list is_class_head is_class_tail is_class_element is_constructor_name is_any_function_head is_head_without_yield is_head_without_await is_any_property_name is_jsx_element is_jsx_object is_uncovered takes
element_there Members s = element_place
element_there (Open (OfInfix Power)) s = absurd (true≢false (sym s))
element_there c s = absurd (true≢false (sym s))

-- what begins no member: `}`, and what is no token there
abbrev pub is_no_member : Class → Bool
is_no_member CloseBrace = true
is_no_member RegexToken = true
is_no_member (First tagged opens) = not tagged
is_no_member (Later tagged opens) = true
is_no_member Line = true
is_no_member Semi = true
is_no_member (Jsx part) = true
is_no_member l = is_reserved_word l

-- nor is `;` a key, or stands before one
abbrev pub is_no_key : Class → Bool
is_no_key Semicolon = true
is_no_key l = is_no_member l

pub key_member : (l : Class) → is_no_key l ≡ false → is_no_member l ≡ false
key_member Semicolon h = absurd (true≢false h)
key_member l h = h

abbrev is_begin : Action → Bool
is_begin Begin = true
is_begin a = false

begin_is : (a : Action) → is_begin a ≡ true → a ≡ Begin
begin_is Begin h = refl
begin_is Shift h = absurd (true≢false (sym h))
begin_is Push h = absurd (true≢false (sym h))
begin_is Wrap h = absurd (true≢false (sym h))
begin_is Reduce h = absurd (true≢false (sym h))
begin_is Turn h = absurd (true≢false (sym h))
begin_is Enter h = absurd (true≢false (sym h))
begin_is Leave h = absurd (true≢false (sym h))
begin_is Splice h = absurd (true≢false (sym h))
begin_is Take h = absurd (true≢false (sym h))
begin_is Keep h = absurd (true≢false (sym h))
begin_is EnterBelow h = absurd (true≢false (sym h))
begin_is Merge h = absurd (true≢false (sym h))
begin_is Reject h = absurd (true≢false (sym h))

abbrev takes_it : Action → Bool
takes_it Shift = true
takes_it a = false

shift_is : (a : Action) → takes_it a ≡ true → a ≡ Shift
shift_is Shift h = refl
shift_is Push h = absurd (true≢false (sym h))
shift_is Wrap h = absurd (true≢false (sym h))
shift_is Reduce h = absurd (true≢false (sym h))
shift_is Turn h = absurd (true≢false (sym h))
shift_is Begin h = absurd (true≢false (sym h))
shift_is Enter h = absurd (true≢false (sym h))
shift_is Leave h = absurd (true≢false (sym h))
shift_is Splice h = absurd (true≢false (sym h))
shift_is Take h = absurd (true≢false (sym h))
shift_is Keep h = absurd (true≢false (sym h))
shift_is EnterBelow h = absurd (true≢false (sym h))
shift_is Merge h = absurd (true≢false (sym h))
shift_is Reject h = absurd (true≢false (sym h))

begun_test : (l : Class) → if_so (not (is_no_member l)) (is_begin (without Members l)) ≡ true
begun_test (Infix Plus) = refl
begun_test (First true opens) = refl
begun_test l = refl

begun_in : (c : Control) (l : Class) → ElementPlace c → is_no_member l ≡ false → (without c l ≡ Begin) × (begun_at c l ≡ shifted_to AtMember l)
begun_in c l element_place h = (begin_is _ (told _ _ (begun_test l) (ap not h)), refl)

shift_test : (l : Class) → if_so (not (is_no_key l)) (takes_it (without AtMember l) && takes_it (without (MemberKey ClassMethod) l)) ≡ true
shift_test (Infix Plus) = refl
shift_test (First true opens) = refl
shift_test l = refl

pub member_shifts : (l : Class) → is_no_key l ≡ false → (without AtMember l ≡ Shift) × (without (MemberKey ClassMethod) l ≡ Shift)
member_shifts l h = let p = and_parts _ _ (told _ _ (shift_test l) (ap not h)) in (shift_is _ p.0, shift_is _ p.1)

pub element_begins : (t : Token) → is_no_member (class t) ≡ false → (c : Control) → stands c nt.ClassElement ≡ true → (decide c None t ≡ Begin) × (begin c t ≡ shifted_to AtMember (class t))
element_begins t h c s = begun_in c (class t) (element_there c s) h

-- ---- elements between tags

pub data ChildPlace : Control → Type 0 where
  child_place : ChildPlace Children

child_there : (c : Control) → stands c nt.JSXElement ≡ true → ChildPlace c
unfolding is_member is_new is_call is_callee is_chained is_left_hand_side is_update is_unary is_exponentiation is_multiplicative is_additive is_shift is_relational is_in_left is_equality is_bitwise_and is_bitwise_xor is_bitwise_or is_logical_and is_logical_or is_coalesce_head is_short_circuit is_conditional is_assignment is_expression is_assignment_target is_pattern_target is_pattern_element is_last_element is_coalesce is_private is_optional is_primary is_template is_property_name is_chain_link is_assignment_pattern is_pattern_name is_rest is_statement is_hoistable_declaration is_block is_variable_declarations is_declaration is_statement_list_item is_labelled_item is_module_declaration is_exported_head is_function_head is_generator_head is_async_function_head is_async_generator_head is_function_tail is_getter_tail is_setter_tail is_method_head is_decorator_list is_class_head is_class_tail is_class_element is_constructor_name is_any_function_head is_head_without_yield is_head_without_await is_any_property_name is_jsx_element is_jsx_object is_uncovered takes
child_there Children s = child_place
child_there (Open (OfInfix Power)) s = absurd (true≢false (sym s))
child_there c s = absurd (true≢false (sym s))

begun_child : (c : Control) → ChildPlace c → (without c (Jsx ChildTagMark) ≡ Begin) × (begun_at c (Jsx ChildTagMark) ≡ ChildTag)
begun_child c child_place = (refl, refl)

pub child_begins : (t : Token) → class t ≡ Jsx ChildTagMark → (c : Control) → stands c nt.JSXElement ≡ true → (decide c None t ≡ Begin) × (begin c t ≡ ChildTag)
child_begins t e c s = let x = begun_child c (child_there c s) in (ap (without c) e ∙ x.0, ap (begun_at c) e ∙ x.1)

-- what stands behind an attribute: another one, `/`, or `>`
abbrev pub follows_attribute : Class → Bool
follows_attribute (Jsx TagName) = true
follows_attribute OpenBrace = true
follows_attribute (Infix Over) = true
follows_attribute (Jsx TagClose) = true
follows_attribute l = false

pub attribute_taken : (l : Class) → follows_attribute l ≡ true → without InTag l ≡ Shift
attribute_taken (Jsx TagName) h = refl
attribute_taken OpenBrace h = refl
attribute_taken (Infix Over) h = refl
attribute_taken (Jsx TagClose) h = refl
attribute_taken l h = absurd (true≢false (sym h))

pub attribute_ends : (l : Class) → follows_attribute l ≡ true → (with_operand AttributeElement l ≡ Splice) × (takes (left l) nt.PrimaryExpression ≡ true)
unfolding is_member is_new is_call is_callee is_chained is_left_hand_side is_update is_unary is_exponentiation is_multiplicative is_additive is_shift is_relational is_in_left is_equality is_bitwise_and is_bitwise_xor is_bitwise_or is_logical_and is_logical_or is_coalesce_head is_short_circuit is_conditional is_assignment is_expression is_assignment_target is_pattern_target is_pattern_element is_last_element is_coalesce is_private is_optional is_primary is_template is_property_name is_chain_link is_assignment_pattern is_pattern_name is_rest is_statement is_hoistable_declaration is_block is_variable_declarations is_declaration is_statement_list_item is_labelled_item is_module_declaration is_exported_head is_function_head is_generator_head is_async_function_head is_async_generator_head is_function_tail is_getter_tail is_setter_tail is_method_head is_decorator_list is_class_head is_class_tail is_class_element is_constructor_name is_any_function_head is_head_without_yield is_head_without_await is_any_property_name is_jsx_element is_jsx_object is_uncovered takes
attribute_ends (Jsx TagName) h = (refl, refl)
attribute_ends OpenBrace h = (refl, refl)
attribute_ends (Infix Over) h = (refl, refl)
attribute_ends (Jsx TagClose) h = (refl, refl)
attribute_ends l h = absurd (true≢false (sym h))

-- ---- lists

-- a list whose items have no nodes of their own
abbrev pub is_list : Where → Bool
is_list (InList ends) = true
is_list InTry = true
is_list InCatch = true
is_list InMethod = true
is_list place = false

abbrev is_take : Action → Bool
is_take Take = true
is_take a = false

take_is : (a : Action) → is_take a ≡ true → a ≡ Take
take_is Take h = refl
take_is Shift h = absurd (true≢false (sym h))
take_is Push h = absurd (true≢false (sym h))
take_is Wrap h = absurd (true≢false (sym h))
take_is Reduce h = absurd (true≢false (sym h))
take_is Turn h = absurd (true≢false (sym h))
take_is Begin h = absurd (true≢false (sym h))
take_is Enter h = absurd (true≢false (sym h))
take_is Leave h = absurd (true≢false (sym h))
take_is Splice h = absurd (true≢false (sym h))
take_is Keep h = absurd (true≢false (sym h))
take_is EnterBelow h = absurd (true≢false (sym h))
take_is Merge h = absurd (true≢false (sym h))
take_is Reject h = absurd (true≢false (sym h))

take_test : (place : Where) (l : Class) → if_so (is_list place) (is_take (with_operand (Statement place) l)) ≡ true
take_test (InList ends) l = refl
take_test place l = refl

pub list_takes : (place : Where) (l : Class) → is_list place ≡ true → with_operand (Statement place) l ≡ Take
list_takes place l h = take_is _ (told _ _ (take_test place l) h)

-- an item is no operand
never_wraps : (b : Bool) → is_wrap (if b then Reduce else Reject) ≡ false
never_wraps true = refl
never_wraps false = refl

no_wrap_test : (place : Where) (l : Class) → is_wrap (with_operand (Statement place) l) ≡ false
no_wrap_test OfIf ElseWord = refl
no_wrap_test OfDo WhileWord = refl
no_wrap_test OfIf l = never_wraps (is_behind_any l)
no_wrap_test OfElse l = never_wraps (is_behind_any l)
no_wrap_test OfDo l = never_wraps (is_behind_any l)
no_wrap_test OfLabel l = never_wraps (is_behind_any l)
no_wrap_test (OfLoop variant) l = never_wraps (is_behind_any l)
no_wrap_test place l = refl

pub no_item_wraps : (place : Where) (l : Class) → with_operand (Statement place) l ≡ Wrap → ⊥
no_item_wraps place l h = true≢false (sym (ap is_wrap h) ∙ no_wrap_test place l)
