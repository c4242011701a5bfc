-- Where `[no LineTerminator here]` stands before a token, no state takes the token without it.
use Rattle.std.proofs.Common.{◌≡◌, Bool, true, false, ◌||◌, ◌&&◌, ◌⊎◌, inl, inr, List, [], ◌∷◌, None, Some, cond, refl, sym, ap, ◌∙◌, subst}
use Rattle.std.proofs.lemmas.Bool.{true≢false, or_parts}
use Rattle.swc_ecma_codegen_grammar.specs.Tokens.{Token}
use Rattle.swc_ecma_codegen_syntax.specs.declared.nonterminals.Nonterminal.TheVariants as nt
use Rattle.swc_ecma_codegen_syntax.specs.Nonterminals.{is_member, is_new, is_call, is_callee, is_chained, is_left_hand_side, is_update, is_unary, is_exponentiation, is_multiplicative, is_additive, is_shift, is_relational, is_in_left, is_equality, is_bitwise_and, is_bitwise_xor, is_bitwise_or, is_logical_and, is_logical_or, is_coalesce_head, is_short_circuit, is_conditional, is_assignment, is_expression, is_assignment_target, is_pattern_target, is_pattern_element, is_last_element, is_coalesce, is_private, is_optional, is_primary, is_template, is_property_name, is_chain_link, is_assignment_pattern, is_pattern_name, is_rest, is_statement, is_hoistable_declaration, is_block, is_variable_declarations, is_declaration, is_statement_list_item, is_labelled_item, is_module_declaration, is_exported_head, is_function_head, is_generator_head, is_async_function_head, is_async_generator_head, is_function_tail, is_getter_tail, is_setter_tail, is_method_head, is_decorator_list, is_class_head, is_class_tail, is_class_element, is_constructor_name, is_any_function_head, is_head_without_yield, is_head_without_await, is_any_property_name, is_jsx_element, is_jsx_object, is_uncovered, takes}
use Rattle.swc_ecma_codegen_uniqueness.specs.ParseTrees.{Variant, ParseTree, End, Node, Read, ReturnStmt, ThrowStmt}
use Rattle.swc_ecma_codegen_uniqueness.proofs.Classes.{Power, Times, Class, Infix, First, Line, Twice, FatArrow, Semi, NameToken, Jsx, class, is_reserved_word}
use Rattle.swc_ecma_codegen_uniqueness.proofs.Controls.{OfInfix, Control, Open, InList, Statement, Postfix, AsyncParameters, AsyncOperand, AfterYield, AfterAsync, AsyncItem, AsyncDefault, AsyncKey, AsyncMember, AfterWord, Valued, Jump, left, starts, variant_of}
use Rattle.swc_ecma_codegen_uniqueness.proofs.Moves.{shift, shifted_to, passed_to, wrapped_to}
use Rattle.swc_ecma_codegen_uniqueness.proofs.Tables.{Action, Shift, Push, Wrap, Reduce, Take, Keep, Reject, without, with_operand, decide}
use Rattle.swc_ecma_codegen_uniqueness.proofs.PlaceLaws.{is_line}
use Rattle.swc_ecma_codegen_uniqueness.proofs.Machine.{Empty, Full, Frame, State, At, Fail, acted_once, acted, step, next, held, turned_hand, spliced, went}
use Rattle.swc_ecma_codegen_uniqueness.proofs.Apart.{Rivals, divides, divides_in_place, closes, tags, goes_on_with_tag, stays, stays_too, finishes, spells, unknown, by_jsx, next_fails}

-- ---- where it leads: behind an operand, or behind a word

abbrev is_line_operand : Control → Bool
is_line_operand Postfix = true
is_line_operand AsyncParameters = true
is_line_operand c = false

abbrev is_line_word : Control → Bool
is_line_word AfterYield = true
is_line_word AfterAsync = true
is_line_word AsyncItem = true
is_line_word AsyncDefault = true
is_line_word AsyncKey = true
is_line_word AsyncMember = true
is_line_word (AfterWord variant) = true
is_line_word c = false

abbrev leads : State → Bool
leads (At (f ∷ s) Empty) = is_line_operand f.control
leads (At s h) = false
leads Fail = true

abbrev is_async_operand : Control → Bool
is_async_operand AsyncOperand = true
is_async_operand c = false

-- what is done with an operand at hand, and without it
abbrev may_lead : Action → Action → Bool → Bool
may_lead Wrap b k = true
may_lead Reduce b k = true
may_lead Reject b k = true
may_lead Shift b k = k
may_lead Take Reject k = true
may_lead Keep Reject k = true
may_lead a b k = false

lead_test : (c : Control) → may_lead (with_operand c Line) (without c Line) (is_async_operand c) ≡ true
unfolding is_member is_new is_call is_callee is_chained is_left_hand_side is_update is_unary is_exponentiation is_multiplicative is_additive is_shift is_relational is_in_left is_equality is_bitwise_and is_bitwise_xor is_bitwise_or is_logical_and is_logical_or is_coalesce_head is_short_circuit is_conditional is_assignment is_expression is_assignment_target is_pattern_target is_pattern_element is_last_element is_coalesce is_private is_optional is_primary is_template is_property_name is_chain_link is_assignment_pattern is_pattern_name is_rest is_statement is_hoistable_declaration is_block is_variable_declarations is_declaration is_statement_list_item is_labelled_item is_module_declaration is_exported_head is_function_head is_generator_head is_async_function_head is_async_generator_head is_function_tail is_getter_tail is_setter_tail is_method_head is_decorator_list is_class_head is_class_tail is_class_element is_constructor_name is_any_function_head is_head_without_yield is_head_without_await is_any_property_name is_jsx_element is_jsx_object is_uncovered takes
lead_test (Open (OfInfix Power)) = refl
lead_test (Statement (InList ends)) = refl
lead_test c = refl

async_passes : (c : Control) (l : Class) → is_async_operand c ≡ true → is_line_operand (passed_to c l) ≡ true
async_passes AsyncOperand l h = refl
async_passes c l h = absurd (true≢false (sym h))

acted_leads : (a b : Action) (k : Bool) → may_lead a b k ≡ true → (t : Token) (f : Frame) (s : List Frame) (v : Variant) (p : ParseTree) (q : State) → is_async_operand f.control ≡ k → class t ≡ Line → decide f.control None t ≡ b → leads q ≡ true →
    leads (acted a t f s (Full v p) q) ≡ true
acted_leads Wrap b k h t f s v p q e l n x = ap (λ m. is_line_operand (wrapped_to v m)) l
acted_leads Reduce b k h t f s v p q e l n x = x
acted_leads Reject b k h t f s v p q e l n x = refl
acted_leads Shift b k h t f s v p q e l n x = async_passes f.control (class t) (e ∙ h)
acted_leads Take Reject k h t f s v p q e l n x =
    ap (λ a. leads (acted_once a t (record { control = f.control; so_far = λ rest. f.so_far (spliced (Full v p) rest); other = λ rest. f.so_far (spliced (Full v p) rest) }) s Empty Fail)) n
acted_leads Keep Reject k h t f s v p q e l n x =
    ap (λ a. leads (acted_once a t (record { control = f.control; so_far = λ rest. f.so_far (held (Full v p) rest); other = λ rest. f.so_far (held (Full v p) rest) }) s Empty Fail)) n
acted_leads a b k h t f s v p q e l n x = absurd (true≢false (sym h))

operand_leads : (s : List Frame) (v : Variant) (p : ParseTree) (t : Token) → class t ≡ Line → leads (step t s (Full v p)) ≡ true
operand_leads [] v p t l = refl
operand_leads (f ∷ s) v p t l =
    acted_leads (decide f.control (Some v) t) (decide f.control None t) (is_async_operand f.control)
    (ap (λ m. may_lead (with_operand f.control m) (without f.control m) (is_async_operand f.control)) l ∙ lead_test f.control) t f s v p
    (step t s (Full (variant_of f.control) (f.so_far (Node v p End)))) refl l refl (operand_leads s (variant_of f.control) (f.so_far (Node v p End)) t l)

abbrev ends_or_rejects : Action → Bool
ends_or_rejects Reduce = true
ends_or_rejects Reject = true
ends_or_rejects a = false

word_test : (c : Control) → (is_line_word c || ends_or_rejects (without c Line)) ≡ true
unfolding is_member is_new is_call is_callee is_chained is_left_hand_side is_update is_unary is_exponentiation is_multiplicative is_additive is_shift is_relational is_in_left is_equality is_bitwise_and is_bitwise_xor is_bitwise_or is_logical_and is_logical_or is_coalesce_head is_short_circuit is_conditional is_assignment is_expression is_assignment_target is_pattern_target is_pattern_element is_last_element is_coalesce is_private is_optional is_primary is_template is_property_name is_chain_link is_assignment_pattern is_pattern_name is_rest is_statement is_hoistable_declaration is_block is_variable_declarations is_declaration is_statement_list_item is_labelled_item is_module_declaration is_exported_head is_function_head is_generator_head is_async_function_head is_async_generator_head is_function_tail is_getter_tail is_setter_tail is_method_head is_decorator_list is_class_head is_class_tail is_class_element is_constructor_name is_any_function_head is_head_without_yield is_head_without_await is_any_property_name is_jsx_element is_jsx_object is_uncovered takes
word_test (Statement (InList ends)) = refl
word_test c = refl

ended_leads : (a : Action) → ends_or_rejects a ≡ true → (t : Token) (f : Frame) (s : List Frame) (q : State) → leads q ≡ true → leads (acted a t f s Empty q) ≡ true
ended_leads Reduce h t f s q x = x
ended_leads Reject h t f s q x = refl
ended_leads a h t f s q x = absurd (true≢false (sym h))

not_first : (a b : Bool) → a ≡ false → (a || b) ≡ true → b ≡ true
not_first false b e h = h
not_first true b e h = absurd (true≢false e)

empty_leads : (f : Frame) (s : List Frame) (t : Token) → class t ≡ Line → is_line_word f.control ≡ false → leads (step t (f ∷ s) Empty) ≡ true
empty_leads f s t l w =
    ended_leads (decide f.control None t) (ap (λ m. ends_or_rejects (without f.control m)) l ∙ not_first _ _ w (word_test f.control)) t f s (step t s (Full (variant_of f.control) (f.so_far End)))
    (operand_leads s (variant_of f.control) (f.so_far End) t l)

-- ---- behind an operand `++` and `=>` stand there alone

abbrev is_behind_line : Class → Bool
is_behind_line Twice = true
is_behind_line FatArrow = true
is_behind_line l = false

operand_rejects : (c : Control) (l : Class) → is_line_operand c ≡ true → is_behind_line l ≡ false → without c l ≡ Reject
operand_rejects Postfix Twice h k = absurd (true≢false k)
operand_rejects Postfix FatArrow h k = absurd (true≢false k)
operand_rejects Postfix l h k = refl
operand_rejects AsyncParameters FatArrow h k = absurd (true≢false k)
operand_rejects AsyncParameters l h k = refl
operand_rejects c l h k = absurd (true≢false (sym h))

behind_operand : (q : State) (t : Token) → leads q ≡ true → is_behind_line (class t) ≡ false → next t q ≡ Fail
behind_operand Fail t h k = refl
behind_operand (At (f ∷ s) Empty) t h k = went Reject t f s Empty (operand_rejects f.control (class t) h k)
behind_operand (At (f ∷ s) (Full v p)) t h k = absurd (true≢false (sym h))
behind_operand (At [] a) t h k = absurd (true≢false (sym h))

behind_rivals : (l : Class) → is_behind_line l ≡ true → Rivals Line l
behind_rivals Twice h = stays
behind_rivals FatArrow h = stays_too
behind_rivals l h = absurd (true≢false (sym h))

-- ---- behind a word stands an operand, a name or `*`; without the line, what ends an operand does

abbrev is_times : Class → Bool
is_times (Infix Times) = true
is_times l = false

abbrev starts_line : Class → Bool
starts_line l = is_times l || starts l

abbrev ends_word : Class → Bool
ends_word l = takes (left l) nt.AssignmentExpression

word_shifts : (c : Control) → is_line_word c ≡ true → without c Line ≡ Shift
word_shifts AfterYield h = refl
word_shifts AfterAsync h = refl
word_shifts AsyncItem h = refl
word_shifts AsyncDefault h = refl
word_shifts AsyncKey h = refl
word_shifts AsyncMember h = refl
word_shifts (AfterWord variant) h = refl
word_shifts c h = absurd (true≢false (sym h))

yield_ends : (l : Class) → is_line l ≡ false → ends_word l ≡ false → without AfterYield l ≡ Reject
unfolding is_member is_new is_call is_callee is_chained is_left_hand_side is_update is_unary is_exponentiation is_multiplicative is_additive is_shift is_relational is_in_left is_equality is_bitwise_and is_bitwise_xor is_bitwise_or is_logical_and is_logical_or is_coalesce_head is_short_circuit is_conditional is_assignment is_expression is_assignment_target is_pattern_target is_pattern_element is_last_element is_coalesce is_private is_optional is_primary is_template is_property_name is_chain_link is_assignment_pattern is_pattern_name is_rest is_statement is_hoistable_declaration is_block is_variable_declarations is_declaration is_statement_list_item is_labelled_item is_module_declaration is_exported_head is_function_head is_generator_head is_async_function_head is_async_generator_head is_function_tail is_getter_tail is_setter_tail is_method_head is_decorator_list is_class_head is_class_tail is_class_element is_constructor_name is_any_function_head is_head_without_yield is_head_without_await is_any_property_name is_jsx_element is_jsx_object is_uncovered takes
yield_ends Line h k = absurd (true≢false h)
yield_ends l h k = ap (λ b. cond b Reduce Reject) k

-- behind `async` nothing else stands
abbrev is_alone : Control → Bool
is_alone AfterAsync = true
is_alone AsyncItem = true
is_alone AsyncDefault = true
is_alone AsyncKey = true
is_alone AsyncMember = true
is_alone c = false

only_line : (c : Control) (l : Class) → is_alone c ≡ true → is_line l ≡ false → without c l ≡ Reject
only_line AfterAsync Line w h = absurd (true≢false h)
only_line AfterAsync l w h = refl
only_line AsyncItem Line w h = absurd (true≢false h)
only_line AsyncItem l w h = refl
only_line AsyncDefault Line w h = absurd (true≢false h)
only_line AsyncDefault l w h = refl
only_line AsyncKey Line w h = absurd (true≢false h)
only_line AsyncKey l w h = refl
only_line AsyncMember Line w h = absurd (true≢false h)
only_line AsyncMember l w h = refl
only_line c l w h = absurd (true≢false (sym w))

jump_ends : (v : Variant) (l : Class) → is_line l ≡ false → ends_word l ≡ false → without (AfterWord v) l ≡ Reject
unfolding is_member is_new is_call is_callee is_chained is_left_hand_side is_update is_unary is_exponentiation is_multiplicative is_additive is_shift is_relational is_in_left is_equality is_bitwise_and is_bitwise_xor is_bitwise_or is_logical_and is_logical_or is_coalesce_head is_short_circuit is_conditional is_assignment is_expression is_assignment_target is_pattern_target is_pattern_element is_last_element is_coalesce is_private is_optional is_primary is_template is_property_name is_chain_link is_assignment_pattern is_pattern_name is_rest is_statement is_hoistable_declaration is_block is_variable_declarations is_declaration is_statement_list_item is_labelled_item is_module_declaration is_exported_head is_function_head is_generator_head is_async_function_head is_async_generator_head is_function_tail is_getter_tail is_setter_tail is_method_head is_decorator_list is_class_head is_class_tail is_class_element is_constructor_name is_any_function_head is_head_without_yield is_head_without_await is_any_property_name is_jsx_element is_jsx_object is_uncovered takes
jump_ends v Line h k = absurd (true≢false h)
jump_ends v Semi h k = absurd (true≢false k)
jump_ends v l h k = refl

word_ends : (c : Control) (l : Class) → is_line_word c ≡ true → is_line l ≡ false → ends_word l ≡ false → without c l ≡ Reject
word_ends AfterYield l w h k = yield_ends l h k
word_ends AfterAsync l w h k = only_line AfterAsync l refl h
word_ends AsyncItem l w h k = only_line AsyncItem l refl h
word_ends AsyncDefault l w h k = only_line AsyncDefault l refl h
word_ends AsyncKey l w h k = only_line AsyncKey l refl h
word_ends AsyncMember l w h k = only_line AsyncMember l refl h
word_ends (AfterWord v) l w h k = jump_ends v l h k
word_ends c l w h k = absurd (true≢false (sym w))

yield_begins : (l : Class) → starts_line l ≡ false → without (shifted_to AfterYield Line) l ≡ Reject
yield_begins (Infix Times) h = absurd (true≢false h)
yield_begins l h = ap (λ b. cond b Push Reject) ((or_parts (is_times l) (starts l) h).1)

jump_begins : (v : Variant) (l : Class) → starts_line l ≡ false → without (Jump v) l ≡ Reject
jump_begins v NameToken h = absurd (true≢false h)
jump_begins v l h = refl

behind_word : (v : Variant) → (shifted_to (AfterWord v) Line ≡ Valued v) ⊎ (shifted_to (AfterWord v) Line ≡ Jump v)
behind_word ReturnStmt = inl refl
behind_word ThrowStmt = inl refl
behind_word v = inr refl

word_begins : (v : Variant) (l : Class) → starts_line l ≡ false → without (shifted_to (AfterWord v) Line) l ≡ Reject
word_begins v l h = elim (behind_word v) [
  | inl e ↦ ap (λ c. without c l) e ∙ ap (λ b. cond b Push Reject) ((or_parts (is_times l) (starts l) h).1)
  | inr e ↦ ap (λ c. without c l) e ∙ jump_begins v l h
]

-- behind the line the one is refused, or without it the other
line_word : (c : Control) (l m : Class) → is_line_word c ≡ true → is_line m ≡ false → starts_line l ≡ false → (without (shifted_to c Line) l ≡ Reject) ⊎ (without c m ≡ Reject)
line_word AfterYield l m w h k = inl (yield_begins l k)
line_word (AfterWord v) l m w h k = inl (word_begins v l k)
line_word AfterAsync l m w h k = inr (only_line AfterAsync m refl h)
line_word AsyncItem l m w h k = inr (only_line AsyncItem m refl h)
line_word AsyncDefault l m w h k = inr (only_line AsyncDefault m refl h)
line_word AsyncKey l m w h k = inr (only_line AsyncKey m refl h)
line_word AsyncMember l m w h k = inr (only_line AsyncMember m refl h)
line_word c l m w h k = absurd (true≢false (sym w))

both_false : (a b : Bool) → (a && b) ≡ false → b ≡ true → a ≡ false
both_false true true h k = absurd (true≢false h)
both_false false b h k = refl
both_false true false h k = absurd (true≢false (sym k))

either_word : (c : Control) (l m : Class) (b : Bool) → ends_word m ≡ b → is_line_word c ≡ true → is_line m ≡ false → (starts_line l && ends_word m) ≡ false → (without (shifted_to c Line) l ≡ Reject) ⊎ (without c m ≡ Reject)
either_word c l m false e w h k = inr (word_ends c m w h e)
either_word c l m true e w h k = line_word c l m w h (both_false (starts_line l) (ends_word m) k e)

-- what never stands behind it
abbrev pub is_never_lined : Class → Bool
is_never_lined Line = true
is_never_lined (Jsx part) = true
is_never_lined l = false

-- ---- tokens that one text may be

-- not both an operand's first and what ends one; `++` and `=>` are the same
pub record Kin (l m : Class) : Type 0 where
  pub apart : (starts_line l && ends_word m) ≡ false
  pub same : is_behind_line l ≡ true → m ≡ l

same_test : (l : Class) → (starts_line l && ends_word l) ≡ false
unfolding is_member is_new is_call is_callee is_chained is_left_hand_side is_update is_unary is_exponentiation is_multiplicative is_additive is_shift is_relational is_in_left is_equality is_bitwise_and is_bitwise_xor is_bitwise_or is_logical_and is_logical_or is_coalesce_head is_short_circuit is_conditional is_assignment is_expression is_assignment_target is_pattern_target is_pattern_element is_last_element is_coalesce is_private is_optional is_primary is_template is_property_name is_chain_link is_assignment_pattern is_pattern_name is_rest is_statement is_hoistable_declaration is_block is_variable_declarations is_declaration is_statement_list_item is_labelled_item is_module_declaration is_exported_head is_function_head is_generator_head is_async_function_head is_async_generator_head is_function_tail is_getter_tail is_setter_tail is_method_head is_decorator_list is_class_head is_class_tail is_class_element is_constructor_name is_any_function_head is_head_without_yield is_head_without_await is_any_property_name is_jsx_element is_jsx_object is_uncovered takes
same_test (Infix Power) = refl
same_test (Infix Times) = refl
same_test (First true opens) = refl
same_test l = refl

pub same_kin : {l m : Class} → m ≡ l → Kin l m
same_kin {l = l} e = record { apart = ap (λ z. starts_line l && ends_word z) e ∙ same_test l; same = λ h. e }

-- a reserved word begins an operand, or ends one; no name of its letters does
and_none : (b : Bool) → (b && false) ≡ false
and_none true = refl
and_none false = refl

word_stays : (l : Class) → is_reserved_word l ≡ true → is_behind_line l ≡ true → ⊥
word_stays Twice h k = true≢false (sym h)
word_stays FatArrow h k = true≢false (sym h)
word_stays l h k = true≢false (sym k)

pub rival_kin : {l m : Class} → Rivals l m → is_never_lined l ≡ false → Kin l m
unfolding is_member is_new is_call is_callee is_chained is_left_hand_side is_update is_unary is_exponentiation is_multiplicative is_additive is_shift is_relational is_in_left is_equality is_bitwise_and is_bitwise_xor is_bitwise_or is_logical_and is_logical_or is_coalesce_head is_short_circuit is_conditional is_assignment is_expression is_assignment_target is_pattern_target is_pattern_element is_last_element is_coalesce is_private is_optional is_primary is_template is_property_name is_chain_link is_assignment_pattern is_pattern_name is_rest is_statement is_hoistable_declaration is_block is_variable_declarations is_declaration is_statement_list_item is_labelled_item is_module_declaration is_exported_head is_function_head is_generator_head is_async_function_head is_async_generator_head is_function_tail is_getter_tail is_setter_tail is_method_head is_decorator_list is_class_head is_class_tail is_class_element is_constructor_name is_any_function_head is_head_without_yield is_head_without_await is_any_property_name is_jsx_element is_jsx_object is_uncovered takes
rival_kin divides h = record { apart = refl; same = λ k. absurd (true≢false (sym k)) }
rival_kin divides_in_place h = record { apart = refl; same = λ k. absurd (true≢false (sym k)) }
rival_kin closes h = record { apart = refl; same = λ k. absurd (true≢false (sym k)) }
rival_kin tags h = record { apart = refl; same = λ k. absurd (true≢false (sym k)) }
rival_kin goes_on_with_tag h = record { apart = refl; same = λ k. absurd (true≢false (sym k)) }
rival_kin finishes h = record { apart = refl; same = λ k. absurd (true≢false (sym k)) }
rival_kin unknown h = record { apart = refl; same = λ k. absurd (true≢false (sym k)) }
rival_kin (spells {l = l} e) h = record { apart = and_none (starts_line l); same = λ k. absurd (word_stays l e k) }
rival_kin stays h = absurd (true≢false h)
rival_kin stays_too h = absurd (true≢false h)
rival_kin (by_jsx e) h = absurd (true≢false h)

pub rival_kin_too : {l m : Class} → Rivals m l → is_never_lined m ≡ false → Kin l m
unfolding is_member is_new is_call is_callee is_chained is_left_hand_side is_update is_unary is_exponentiation is_multiplicative is_additive is_shift is_relational is_in_left is_equality is_bitwise_and is_bitwise_xor is_bitwise_or is_logical_and is_logical_or is_coalesce_head is_short_circuit is_conditional is_assignment is_expression is_assignment_target is_pattern_target is_pattern_element is_last_element is_coalesce is_private is_optional is_primary is_template is_property_name is_chain_link is_assignment_pattern is_pattern_name is_rest is_statement is_hoistable_declaration is_block is_variable_declarations is_declaration is_statement_list_item is_labelled_item is_module_declaration is_exported_head is_function_head is_generator_head is_async_function_head is_async_generator_head is_function_tail is_getter_tail is_setter_tail is_method_head is_decorator_list is_class_head is_class_tail is_class_element is_constructor_name is_any_function_head is_head_without_yield is_head_without_await is_any_property_name is_jsx_element is_jsx_object is_uncovered takes
rival_kin_too divides h = record { apart = refl; same = λ k. absurd (true≢false (sym k)) }
rival_kin_too divides_in_place h = record { apart = refl; same = λ k. absurd (true≢false (sym k)) }
rival_kin_too closes h = record { apart = refl; same = λ k. absurd (true≢false (sym k)) }
rival_kin_too tags h = record { apart = refl; same = λ k. absurd (true≢false (sym k)) }
rival_kin_too goes_on_with_tag h = record { apart = refl; same = λ k. absurd (true≢false (sym k)) }
rival_kin_too finishes h = record { apart = refl; same = λ k. absurd (true≢false (sym k)) }
rival_kin_too unknown h = record { apart = refl; same = λ k. absurd (true≢false (sym k)) }
rival_kin_too (spells e) h = record { apart = refl; same = λ k. absurd (true≢false (sym k)) }
rival_kin_too stays h = absurd (true≢false h)
rival_kin_too stays_too h = absurd (true≢false h)
rival_kin_too (by_jsx e) h = absurd (true≢false h)

-- ---- so no state takes both

by_operand : (q : State) (line t u : Token) (b : Bool) → is_behind_line (class t) ≡ b → class line ≡ Line → leads (next line q) ≡ true → Kin (class t) (class u) → (next t (next line q) ≡ Fail) ⊎ (next u q ≡ Fail)
by_operand q line t u false i l h k = inl (behind_operand (next line q) t h i)
by_operand q line t u true i l h k =
    elim (next_fails q line u (subst (λ z. Rivals z (class u)) (sym l) (subst (λ z. Rivals Line z) (sym (k.same i)) (behind_rivals (class t) i)))) [ inl f ↦ inl (ap (next t) f) | inr f ↦ inr f ]

by_word : (f : Frame) (s : List Frame) (line t u : Token) → class line ≡ Line → is_line_word f.control ≡ true → is_line (class u) ≡ false → Kin (class t) (class u) → (next t (next line (At (f ∷ s) Empty)) ≡ Fail) ⊎ (next u (At (f ∷ s) Empty) ≡ Fail)
by_word f s line t u l w i k =
    let g : Frame = record { control = shift f.control None line; so_far = λ rest. f.so_far (held Empty (Read line rest)); other = λ rest. f.so_far (turned_hand Empty line rest) } in
    elim (either_word f.control (class t) (class u) (ends_word (class u)) refl w i k.apart) [
      | inl r ↦ inl (ap (next t) (went Shift line f s Empty (ap (without f.control) l ∙ word_shifts f.control w)) ∙ went Reject t g s Empty (ap (λ z. without (shifted_to f.control z) (class t)) l ∙ r))
      | inr r ↦ inr (went Reject u f s Empty r)
    ]

by_empty : (f : Frame) (s : List Frame) (line t u : Token) (b : Bool) → is_line_word f.control ≡ b → class line ≡ Line → is_line (class u) ≡ false → Kin (class t) (class u) →
    (next t (next line (At (f ∷ s) Empty)) ≡ Fail) ⊎ (next u (At (f ∷ s) Empty) ≡ Fail)
by_empty f s line t u true w l i k = by_word f s line t u l w i k
by_empty f s line t u false w l i k = by_operand (At (f ∷ s) Empty) line t u (is_behind_line (class t)) refl l (empty_leads f s line l w) k

pub line_fails : (q : State) (line t u : Token) → class line ≡ Line → is_line (class u) ≡ false → Kin (class t) (class u) → (next t (next line q) ≡ Fail) ⊎ (next u q ≡ Fail)
line_fails Fail line t u l i k = inl refl
line_fails (At [] h) line t u l i k = inl refl
line_fails (At (f ∷ s) Empty) line t u l i k = by_empty f s line t u (is_line_word f.control) refl l i k
line_fails (At (f ∷ s) (Full v p)) line t u l i k = by_operand (At (f ∷ s) (Full v p)) line t u (is_behind_line (class t)) refl l (operand_leads (f ∷ s) v p line l) k

-- neither it nor a token of JSX stands behind it
never_starts : (l : Class) → is_never_lined l ≡ true → starts_line l ≡ false
never_starts Line h = refl
never_starts (Jsx part) h = refl
never_starts l h = absurd (true≢false (sym h))

behind_async : (l : Class) → is_never_lined l ≡ true → without (shifted_to AfterAsync Line) l ≡ Reject
behind_async Line h = refl
behind_async (Jsx part) h = refl
behind_async l h = absurd (true≢false (sym h))

behind_async_item : (l : Class) → is_never_lined l ≡ true → without (shifted_to AsyncItem Line) l ≡ Reject
behind_async_item Line h = refl
behind_async_item (Jsx part) h = refl
behind_async_item l h = absurd (true≢false (sym h))

behind_async_default : (l : Class) → is_never_lined l ≡ true → without (shifted_to AsyncDefault Line) l ≡ Reject
behind_async_default Line h = refl
behind_async_default (Jsx part) h = refl
behind_async_default l h = absurd (true≢false (sym h))

behind_async_key : (l : Class) → is_never_lined l ≡ true → without (shifted_to AsyncKey Line) l ≡ Reject
behind_async_key Line h = refl
behind_async_key (Jsx part) h = refl
behind_async_key l h = absurd (true≢false (sym h))

behind_async_member : (l : Class) → is_never_lined l ≡ true → without (shifted_to AsyncMember Line) l ≡ Reject
behind_async_member Line h = refl
behind_async_member (Jsx part) h = refl
behind_async_member l h = absurd (true≢false (sym h))

never_test : (c : Control) (l : Class) → is_line_word c ≡ true → is_never_lined l ≡ true → without (shifted_to c Line) l ≡ Reject
never_test AfterYield l h k = yield_begins l (never_starts l k)
never_test (AfterWord v) l h k = word_begins v l (never_starts l k)
never_test AfterAsync l h k = behind_async l k
never_test AsyncItem l h k = behind_async_item l k
never_test AsyncDefault l h k = behind_async_default l k
never_test AsyncKey l h k = behind_async_key l k
never_test AsyncMember l h k = behind_async_member l k
never_test c l h k = absurd (true≢false (sym h))

is_no_such : (l : Class) → is_never_lined l ≡ true → is_behind_line l ≡ false
is_no_such Line h = refl
is_no_such (Jsx part) h = refl
is_no_such l h = absurd (true≢false (sym h))

empty_never : (f : Frame) (s : List Frame) (line t : Token) (b : Bool) → is_line_word f.control ≡ b → class line ≡ Line → is_never_lined (class t) ≡ true → next t (next line (At (f ∷ s) Empty)) ≡ Fail
empty_never f s line t false w l m = behind_operand (next line (At (f ∷ s) Empty)) t (empty_leads f s line l w) (is_no_such (class t) m)
empty_never f s line t true w l m =
    let g : Frame = record { control = shift f.control None line; so_far = λ rest. f.so_far (held Empty (Read line rest)); other = λ rest. f.so_far (turned_hand Empty line rest) } in
    ap (next t) (went Shift line f s Empty (ap (without f.control) l ∙ word_shifts f.control w))
    ∙ went Reject t g s Empty (ap (λ z. without (shifted_to f.control z) (class t)) l ∙ never_test f.control (class t) w m)

pub never_lined : (q : State) (line t : Token) → class line ≡ Line → is_never_lined (class t) ≡ true → next t (next line q) ≡ Fail
never_lined Fail line t l m = refl
never_lined (At [] h) line t l m = refl
never_lined (At (f ∷ s) Empty) line t l m = empty_never f s line t (is_line_word f.control) refl l m
never_lined (At (f ∷ s) (Full v p)) line t l m = behind_operand (next line (At (f ∷ s) (Full v p))) t (operand_leads (f ∷ s) v p line l) (is_no_such (class t) m)
