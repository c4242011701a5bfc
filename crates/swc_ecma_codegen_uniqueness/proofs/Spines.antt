-- Under [~In] no `in` takes what an expression begins with.
use Rattle.std.proofs.Common.{◌≡◌, Bool, true, false, ◌||◌, not, List, [], ◌∷◌, refl, sym, ap, ◌∙◌}
use Rattle.std.specs.Prelude.{codes, if◌then◌else◌}
use Rattle.std.proofs.lemmas.Bool.{true≢false}
use Rattle.swc_ecma_codegen_common.specs.declared.operators.BinaryOp.{BinaryOp}
use Rattle.swc_ecma_codegen_common.specs.declared.operators.BinaryOp.TheVariants as binaries
use Rattle.swc_ecma_codegen_tree.specs.Links.{ExprBox}
use Rattle.swc_ecma_codegen_tree.specs.declared.links.AnyNode.{AnyNode}
use Rattle.swc_ecma_codegen_tree.specs.declared.exprs.Expr.{Expr}
use Rattle.swc_ecma_codegen_tree.specs.declared.exprs.Expr.TheVariants as exprs
use Rattle.swc_ecma_codegen_tree.specs.declared.pats.Pat.{Pat}
use Rattle.swc_ecma_codegen_tree.specs.declared.pats.Pat.TheVariants as pats
use Rattle.swc_ecma_codegen_common.specs.Operators.{binary_text}
use Rattle.swc_ecma_codegen_grammar.specs.ExprPhrases.{binary_op}
use Rattle.swc_ecma_codegen_grammar.specs.NamePhrases.{private_name}
use Rattle.swc_ecma_codegen_grammar.specs.Settings.{Settings}
use Rattle.swc_ecma_codegen_grammar.specs.Tokens.{Token, punctuator, word}
use Rattle.swc_ecma_codegen_syntax.specs.declared.nonterminals.Nonterminal.TheVariants as nt
use Rattle.swc_ecma_codegen_syntax.specs.declared.parameters.Parameters.{Parameters}
use Rattle.swc_ecma_codegen_syntax.specs.CallForms.{new_nonterminal, has_arguments}
use Rattle.swc_ecma_codegen_syntax.specs.ExprForms.{is_in, bin_form, cond_form, assign_form, yield_form, seq_form, call_or_member, expr_form, expr_nonterminal}
use Rattle.swc_ecma_codegen_syntax.specs.Forms.{some_listed, each_after, is_met}
use Rattle.swc_ecma_codegen_syntax.specs.MemberForms.{expr_part}
use Rattle.swc_ecma_codegen_syntax.specs.Nonterminals.{is_member, is_new, is_call, is_callee, is_chained, is_left_hand_side, is_update, is_unary, is_exponentiation, is_multiplicative, is_additive, is_shift, is_relational, is_in_left, is_equality, is_bitwise_and, is_bitwise_xor, is_bitwise_or, is_logical_and, is_logical_or, is_coalesce_head, is_short_circuit, is_conditional, is_assignment, is_expression, is_assignment_target, is_pattern_target, is_pattern_element, is_last_element, is_coalesce, is_private, is_optional, is_primary, is_template, is_property_name, is_chain_link, is_assignment_pattern, is_pattern_name, is_rest, is_statement, is_hoistable_declaration, is_block, is_variable_declarations, is_declaration, is_statement_list_item, is_labelled_item, is_module_declaration, is_exported_head, is_function_head, is_generator_head, is_async_function_head, is_async_generator_head, is_function_tail, is_getter_tail, is_setter_tail, is_method_head, is_decorator_list, is_class_head, is_class_tail, is_class_element, is_constructor_name, is_any_function_head, is_head_without_yield, is_head_without_await, is_any_property_name, is_jsx_element, is_jsx_object, is_uncovered, takes}
use Rattle.swc_ecma_codegen_syntax.specs.PatForms.{assign_pat_form, pat_form, pat_nonterminal}
use Rattle.swc_ecma_codegen_syntax.specs.Derives.{Derives, fixed, part, both, provided}
use Rattle.swc_ecma_codegen_syntax.specs.Verdicts.{core}
use Rattle.swc_ecma_codegen_uniqueness.specs.ParseTrees.{Variant, ParseTree, End}
use Rattle.swc_ecma_codegen_uniqueness.specs.Parses.{placed, is_inlined, is_inlined_pat}
use Rattle.swc_ecma_codegen_uniqueness.proofs.Classes.{Comparing, class}
use Rattle.swc_ecma_codegen_uniqueness.proofs.Controls.{Open, OfInfix, stands, is_within}
use Rattle.swc_ecma_codegen_uniqueness.proofs.TableLaws.{cover}
use Rattle.swc_ecma_codegen_uniqueness.proofs.Machine.{Whole, Good, spine_free, low_free, not_within}
use Rattle.swc_ecma_codegen_uniqueness.proofs.Shapes.{operand_free}
use Rattle.swc_ecma_codegen_uniqueness.proofs.Reading.{read_phrase, derived_parse}
use Rattle.swc_ecma_codegen_uniqueness.proofs.Fits.{at_place, PlacedGood, AllGood, moved}
use Rattle.swc_ecma_codegen_uniqueness.proofs.Operators.{assign_class, target_covered}
use Rattle.swc_ecma_codegen_uniqueness.proofs.Patterns.{covered_at, no_rest_target}
use Rattle.swc_ecma_codegen_uniqueness.proofs.Arrows.{arrow_free}

-- an operator that isn't `in`
op_free : (op : BinaryOp) (b : Bool) → (not (is_in op) || b) ≡ true → b ≡ false → is_within (class (binary_op op)) ≡ false
unfolding is_in binary_op binary_text word punctuator
op_free binaries.In true h f = absurd (true≢false f)
op_free binaries.In false h f = absurd (true≢false (sym h))
op_free op b h f = refl

seq_free : {s : Settings} (c : Parameters) (xs : List (ExprBox AnyNode)) {ts : List Token} (d : Derives core s (some_listed (codes ",") (expr_part nt.AssignmentExpression c) xs) ts) → AllGood d → s.minify ≡ c.minify → c.has_in ≡ false →
    spine_free (derived_parse d End) ≡ true
unfolding some_listed each_after is_met AllGood PlacedGood derived_parse read_phrase placed is_inlined punctuator
seq_free c [] (provided h d) o m f = absurd (true≢false (sym h))
seq_free c (x ∷ []) (provided h d) o m f = absurd (true≢false (sym h))
seq_free c (x ∷ y ∷ xs) (both (part a sa d) (both (fixed g) e)) (o, q) m f = (o m).free f

-- what is of these nonterminals ends before `in`
called_low : (called : Bool) → stands (Open (OfInfix Comparing)) (call_or_member called) ≡ true
unfolding is_member is_new is_call is_callee is_chained is_left_hand_side is_update is_unary is_exponentiation is_multiplicative is_additive is_shift is_relational is_in_left is_equality is_bitwise_and is_bitwise_xor is_bitwise_or is_logical_and is_logical_or is_coalesce_head is_short_circuit is_conditional is_assignment is_expression is_assignment_target is_pattern_target is_pattern_element is_last_element is_coalesce is_private is_optional is_primary is_template is_property_name is_chain_link is_assignment_pattern is_pattern_name is_rest is_statement is_hoistable_declaration is_block is_variable_declarations is_declaration is_statement_list_item is_labelled_item is_module_declaration is_exported_head is_function_head is_generator_head is_async_function_head is_async_generator_head is_function_tail is_getter_tail is_setter_tail is_method_head is_decorator_list is_class_head is_class_tail is_class_element is_constructor_name is_any_function_head is_head_without_yield is_head_without_await is_any_property_name is_jsx_element is_jsx_object is_uncovered takes
called_low true = refl
called_low false = refl

new_low : (b : Bool) → stands (Open (OfInfix Comparing)) (if b then nt.MemberExpression else nt.NewExpression) ≡ true
unfolding is_member is_new is_call is_callee is_chained is_left_hand_side is_update is_unary is_exponentiation is_multiplicative is_additive is_shift is_relational is_in_left is_equality is_bitwise_and is_bitwise_xor is_bitwise_or is_logical_and is_logical_or is_coalesce_head is_short_circuit is_conditional is_assignment is_expression is_assignment_target is_pattern_target is_pattern_element is_last_element is_coalesce is_private is_optional is_primary is_template is_property_name is_chain_link is_assignment_pattern is_pattern_name is_rest is_statement is_hoistable_declaration is_block is_variable_declarations is_declaration is_statement_list_item is_labelled_item is_module_declaration is_exported_head is_function_head is_generator_head is_async_function_head is_async_generator_head is_function_tail is_getter_tail is_setter_tail is_method_head is_decorator_list is_class_head is_class_tail is_class_element is_constructor_name is_any_function_head is_head_without_yield is_head_without_await is_any_property_name is_jsx_element is_jsx_object is_uncovered takes
new_low true = refl
new_low false = refl

pub expr_free : {s : Settings} (keeps called : Bool) (c : Parameters) (n : Expr AnyNode) {ts : List Token} (d : Derives core s (expr_form keeps called c n) ts) → AllGood d → s.minify ≡ c.minify → c.has_in ≡ false → {v : Variant} →
    Good (Whole v (expr_nonterminal keeps called c n)) (derived_parse d End) → spine_free (derived_parse d End) ≡ true
unfolding is_member is_new is_call is_callee is_chained is_left_hand_side is_update is_unary is_exponentiation is_multiplicative is_additive is_shift is_relational is_in_left is_equality is_bitwise_and is_bitwise_xor is_bitwise_or is_logical_and is_logical_or is_coalesce_head is_short_circuit is_conditional is_assignment is_expression is_assignment_target is_pattern_target is_pattern_element is_last_element is_coalesce is_private is_optional is_primary is_template is_property_name is_chain_link is_assignment_pattern is_pattern_name is_rest is_statement is_hoistable_declaration is_block is_variable_declarations is_declaration is_statement_list_item is_labelled_item is_module_declaration is_exported_head is_function_head is_generator_head is_async_function_head is_async_generator_head is_function_tail is_getter_tail is_setter_tail is_method_head is_decorator_list is_class_head is_class_tail is_class_element is_constructor_name is_any_function_head is_head_without_yield is_head_without_await is_any_property_name is_jsx_element is_jsx_object is_uncovered takes expr_form expr_nonterminal new_nonterminal bin_form cond_form assign_form yield_form seq_form private_name is_met AllGood PlacedGood derived_parse read_phrase placed is_inlined punctuator word
expr_free keeps called c (exprs.Bin n) (provided h (both (part a sa d) (both (fixed g) e))) (o, q) m f r = not_within _ _ (op_free n.op c.has_in h f) ((o m).free f)
expr_free keeps called c (exprs.Cond n) (both (part a sa d) (both (fixed g) e)) (o, q) m f r = (o m).free f
expr_free keeps called c (exprs.Assign n) (both (part a sa d) (both (fixed g) e)) (o, q) m f r = not_within _ _ (ap is_within (assign_class n.op)) (operand_free (moved (target_covered n.op) (at_place _ _ sa (o m))))
expr_free keeps called c (exprs.Seq n) d o m f r = seq_free c n.exprs.items d o m f
expr_free keeps called c (exprs.Arrow n) d o m f r = arrow_free c n.value d o m
expr_free keeps called c (exprs.Yield n) (provided h (both (fixed g) d)) o m f r = refl
expr_free keeps called c (exprs.PrivateName n) (fixed g) o m f r = refl
expr_free keeps called c (exprs.Member n) d o m f r = low_free r (called_low called)
expr_free keeps called c (exprs.TaggedTpl n) d o m f r = low_free r (called_low called)
expr_free keeps called c (exprs.New n) d o m f r = low_free r (new_low (has_arguments c keeps n.args))
expr_free keeps called c n d o m f r = low_free r refl

left_low : stands (Open (OfInfix Comparing)) nt.LeftHandSideExpression ≡ true
unfolding is_member is_new is_call is_callee is_chained is_left_hand_side is_update is_unary is_exponentiation is_multiplicative is_additive is_shift is_relational is_in_left is_equality is_bitwise_and is_bitwise_xor is_bitwise_or is_logical_and is_logical_or is_coalesce_head is_short_circuit is_conditional is_assignment is_expression is_assignment_target is_pattern_target is_pattern_element is_last_element is_coalesce is_private is_optional is_primary is_template is_property_name is_chain_link is_assignment_pattern is_pattern_name is_rest is_statement is_hoistable_declaration is_block is_variable_declarations is_declaration is_statement_list_item is_labelled_item is_module_declaration is_exported_head is_function_head is_generator_head is_async_function_head is_async_generator_head is_function_tail is_getter_tail is_setter_tail is_method_head is_decorator_list is_class_head is_class_tail is_class_element is_constructor_name is_any_function_head is_head_without_yield is_head_without_await is_any_property_name is_jsx_element is_jsx_object is_uncovered takes
left_low = refl

pub target_free : {v : Variant} {p : ParseTree} → Good (Whole v nt.LeftHandSideExpression) p → spine_free p ≡ true
target_free g = low_free g left_low

pub pat_free : {s : Settings} (comma : Bool) (c : Parameters) (n : Pat AnyNode) {ts : List Token} (d : Derives core s (pat_form comma c n) ts) → AllGood d → s.minify ≡ c.minify → is_inlined_pat n ≡ false → {v : Variant} → Good (Whole v (cover (pat_nonterminal n))) (derived_parse d End) →
    spine_free (derived_parse d End) ≡ true
unfolding pat_form assign_pat_form pat_nonterminal is_inlined_pat AllGood PlacedGood derived_parse read_phrase placed is_inlined punctuator
pat_free comma c (pats.Assign n) (both d (both (fixed g) e)) (o, q) m i r = let v = covered_at nt.PatternTarget no_rest_target c n.left.node.value d o m in ap spine_free (v.is _) ∙ operand_free v.operand
pat_free comma c (pats.Rest n) d o m i r = absurd (true≢false i)
pat_free comma c n d o m i r = target_free r
