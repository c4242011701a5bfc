-- The map by cases is the map that the kit derives for the one recursive type. Made by scripts/dev/make-visit-files.
use Rattle.std.proofs.Common.{◌≡◌, refl}
use Rattle.swc_ecma_codegen_tree.specs.declared.links.AnyNode.{AnyNode-F, map-AnyNode}
use Rattle.swc_ecma_codegen_tree.specs.declared.links.AnyNode.TheOpen as nodes
use Rattle.swc_ecma_codegen_tree.specs.declared.exprs.Expr.{Expr}
use Rattle.swc_ecma_codegen_tree.specs.declared.parts.ExprPart.{ExprPart}
use Rattle.swc_ecma_codegen_tree.specs.declared.parts.JSXPart.{JSXPart}
use Rattle.swc_ecma_codegen_tree.specs.declared.exprs.MemberExpr.{MemberExpr}
use Rattle.swc_ecma_codegen_tree.specs.declared.stmts.Stmt.{Stmt}
use Rattle.swc_ecma_codegen_tree.specs.declared.parts.StmtPart.{StmtPart}
use Rattle.swc_ecma_codegen_tree.specs.declared.parts.TsPart.{TsPart}
use Rattle.swc_ecma_codegen_visit.specs.MappedExprs.{map_expr, map_member_expr}
use Rattle.swc_ecma_codegen_visit.specs.MappedStmts.{map_stmt}
use Rattle.swc_ecma_codegen_visit.specs.MappedParts.{map_expr_part, map_jsx_part, map_stmt_part, map_ts_part}
use Rattle.swc_ecma_codegen_visit.specs.Mapped.{map_layer}
use Rattle.swc_ecma_codegen_visit.proofs.Rules.{in_box, in_option, in_vec, option_kept, under, vec_kept}
use Rattle.swc_ecma_codegen_visit.proofs.RulesIdents.{in_binding_ident}
use Rattle.swc_ecma_codegen_visit.proofs.RulesExprs.{in_array_lit, in_arrow_expr, in_block_stmt_or_expr, in_call_expr, in_callee}
use Rattle.swc_ecma_codegen_visit.proofs.RulesExprs.{in_class_expr, in_expr, in_fn_expr, in_getter_prop, in_key_value_prop, in_member_expr}
use Rattle.swc_ecma_codegen_visit.proofs.RulesExprs.{in_member_prop, in_method_prop, in_new_expr, in_object_lit, in_opt_call}
use Rattle.swc_ecma_codegen_visit.proofs.RulesExprs.{in_opt_chain_base, in_opt_chain_expr, in_prop, in_prop_name, in_prop_or_spread}
use Rattle.swc_ecma_codegen_visit.proofs.RulesExprs.{in_setter_prop, in_super_prop, in_super_prop_expr, in_tagged_tpl, in_yield_expr}
use Rattle.swc_ecma_codegen_visit.proofs.RulesJsx.{in_jsx_attr, in_jsx_attr_or_spread, in_jsx_attr_value, in_jsx_closing_element}
use Rattle.swc_ecma_codegen_visit.proofs.RulesJsx.{in_jsx_element, in_jsx_element_child, in_jsx_element_name, in_jsx_expr}
use Rattle.swc_ecma_codegen_visit.proofs.RulesJsx.{in_jsx_expr_container, in_jsx_fragment, in_jsx_object, in_jsx_opening_element}
use Rattle.swc_ecma_codegen_visit.proofs.RulesPats.{in_array_pat, in_assign_pat_prop, in_assign_target, in_assign_target_pat}
use Rattle.swc_ecma_codegen_visit.proofs.RulesPats.{in_key_value_pat_prop, in_object_pat, in_object_pat_prop, in_pat, in_rest_pat}
use Rattle.swc_ecma_codegen_visit.proofs.RulesPats.{in_simple_assign_target}
use Rattle.swc_ecma_codegen_visit.proofs.RulesTsTypes.{in_ts_call_signature_decl, in_ts_construct_signature_decl, in_ts_constructor_type}
use Rattle.swc_ecma_codegen_visit.proofs.RulesTsTypes.{in_ts_entity_name, in_ts_fn_or_constructor_type, in_ts_fn_param, in_ts_fn_type}
use Rattle.swc_ecma_codegen_visit.proofs.RulesTsTypes.{in_ts_getter_signature, in_ts_import_type, in_ts_index_signature, in_ts_infer_type}
use Rattle.swc_ecma_codegen_visit.proofs.RulesTsTypes.{in_ts_interface_body, in_ts_lit, in_ts_lit_type, in_ts_mapped_type}
use Rattle.swc_ecma_codegen_visit.proofs.RulesTsTypes.{in_ts_method_signature, in_ts_property_signature, in_ts_tuple_element}
use Rattle.swc_ecma_codegen_visit.proofs.RulesTsTypes.{in_ts_tuple_type, in_ts_type, in_ts_type_ann, in_ts_type_element, in_ts_type_lit}
use Rattle.swc_ecma_codegen_visit.proofs.RulesTsTypes.{in_ts_type_param, in_ts_type_param_decl, in_ts_type_predicate, in_ts_type_query}
use Rattle.swc_ecma_codegen_visit.proofs.RulesTsTypes.{in_ts_type_query_expr, in_ts_type_ref, in_ts_union_or_intersection_type}
use Rattle.swc_ecma_codegen_visit.proofs.RulesTsTypes.{kept_ts_this_type_or_ident}
use Rattle.swc_ecma_codegen_visit.proofs.RulesTsDecls.{in_ts_enum_decl, in_ts_enum_member, in_ts_expr_with_type_args}
use Rattle.swc_ecma_codegen_visit.proofs.RulesTsDecls.{in_ts_import_equals_decl, in_ts_interface_decl, in_ts_module_decl, in_ts_module_ref}
use Rattle.swc_ecma_codegen_visit.proofs.RulesTsDecls.{in_ts_type_alias_decl, kept_ts_enum_member_id, kept_ts_module_name}
use Rattle.swc_ecma_codegen_visit.proofs.RulesDecls.{in_decl, in_function, in_param, in_using_decl, in_var_decl, in_var_declarator}
use Rattle.swc_ecma_codegen_visit.proofs.RulesClasses.{in_auto_accessor, in_class, in_class_member, in_class_prop, in_constructor, in_key}
use Rattle.swc_ecma_codegen_visit.proofs.RulesClasses.{in_param_or_ts_param_prop, in_private_prop, in_ts_param_prop, in_ts_param_prop_param}
use Rattle.swc_ecma_codegen_visit.proofs.RulesStmts.{in_block_stmt, in_catch_clause, in_for_head, in_for_in_stmt, in_for_of_stmt}
use Rattle.swc_ecma_codegen_visit.proofs.RulesStmts.{in_for_stmt, in_if_stmt, in_return_stmt, in_stmt, in_switch_case, in_switch_stmt}
use Rattle.swc_ecma_codegen_visit.proofs.RulesStmts.{in_try_stmt, in_var_decl_or_expr, kept_break_stmt, kept_continue_stmt}
use Rattle.swc_ecma_codegen_visit.proofs.RulesModules.{in_default_decl, in_export_all, in_export_default_decl, in_import_decl}
use Rattle.swc_ecma_codegen_visit.proofs.RulesModules.{in_module_decl, in_module_item, in_named_export, in_ts_module_block}
use Rattle.swc_ecma_codegen_visit.proofs.RulesModules.{in_ts_namespace_body, kept_export_specifier, kept_import_specifier}
use Rattle.swc_ecma_codegen_visit.proofs.RulesParts.{in_expr_part, in_jsx_part, in_stmt_part, in_ts_part}

expr_same : {X : Type 0} (f : X → X) (n : Expr X) → nodes.Expr (map_expr (λ x. x) f n) ≡ map-AnyNode X X f (nodes.Expr n)
expr_same f = under nodes.Expr (in_expr f _ (λ n. refl) (λ n. refl) (in_array_lit f _ (λ n a. refl) (in_vec (in_option _ refl (λ x. refl) (λ
    x. refl)))) (λ n. refl) (in_object_lit f _ (λ n a. refl) (in_vec (in_prop_or_spread f _ (λ n. refl) (λ n. refl) (in_prop f _ (λ n. refl)
    (λ n. refl) (in_key_value_prop f _ (λ n a. refl) (in_prop_name f _ (λ n. refl) (λ n. refl) (λ n. refl) (λ n. refl) (λ n. refl))) (λ n.
    refl) (λ n. refl) (in_getter_prop f _ (λ n a b. refl) (in_option _ refl (λ x. refl) (λ x. refl)) (in_option _ refl (λ x. refl) (λ x.
    refl))) (λ n. refl) (in_setter_prop f _ (λ n a b. refl) (in_option _ refl (λ x. refl) (λ x. refl)) (in_option _ refl (λ x. refl) (λ x.
    refl))) (λ n. refl) (in_method_prop f _ (λ n a. refl) (in_prop_name f _ (λ n. refl) (λ n. refl) (λ n. refl) (λ n. refl) (λ n.
    refl))))))) (λ n. refl) (in_fn_expr f _ (λ n a. refl) (option_kept (λ x. refl))) (λ n. refl) (λ n. refl) (λ n. refl) (λ n. refl) (λ n.
    refl) (in_member_expr f _ (λ n a. refl) (in_member_prop f _ (λ n. refl) (λ n. refl) (λ n. refl))) (λ n. refl) (in_super_prop_expr f _ (λ
    n a. refl) (in_super_prop f _ (λ n. refl) (λ n. refl))) (λ n. refl) (λ n. refl) (in_call_expr f _ (λ n a b. refl) (in_callee f _ (λ n.
    refl) (λ n. refl) (λ n. refl)) (in_option _ refl (λ x. refl) (λ x. refl))) (λ n. refl) (in_new_expr f _ (λ n a b. refl) (in_option _
    refl (λ x. refl) (λ x. refl)) (in_option _ refl (λ x. refl) (λ x. refl))) (λ n. refl) (λ n. refl) (λ n. refl) (λ n. refl) (λ n. refl)
    (in_tagged_tpl f _ (λ n a. refl) (in_option _ refl (λ x. refl) (λ x. refl))) (λ n. refl) (in_box _ (λ b x. refl) (in_arrow_expr f _ (λ n
    a b c. refl) (in_block_stmt_or_expr f _ (λ n. refl) (λ n. refl)) (in_option _ refl (λ x. refl) (λ x. refl)) (in_option _ refl (λ x.
    refl) (λ x. refl)))) (λ n. refl) (in_class_expr f _ (λ n a. refl) (option_kept (λ x. refl))) (λ n. refl) (in_yield_expr f _ (λ n a.
    refl) (in_option _ refl (λ x. refl) (λ x. refl))) (λ n. refl) (λ n. refl) (λ n. refl) (λ n. refl) (λ n. refl) (λ n. refl) (λ n. refl) (λ
    n. refl) (λ n. refl) (λ n. refl) (λ n. refl) (λ n. refl) (λ n. refl) (λ n. refl) (λ n. refl) (λ n. refl) (in_opt_chain_expr f _ (λ n a.
    refl) (in_opt_chain_base f _ (λ n. refl) (λ n. refl))) (λ n. refl))

stmt_same : {X : Type 0} (f : X → X) (n : Stmt X) → nodes.Stmt (map_stmt (λ x. x) f n) ≡ map-AnyNode X X f (nodes.Stmt n)
stmt_same f = under nodes.Stmt (in_stmt f _ (λ n. refl) (λ n. refl) (λ n. refl) (λ n. refl) (λ n. refl) (in_return_stmt f _ (λ n a. refl)
    (in_option _ refl (λ x. refl) (λ x. refl))) (λ n. refl) (λ n. refl) kept_break_stmt (λ n. refl) kept_continue_stmt (λ n. refl)
    (in_if_stmt f _ (λ n a. refl) (in_option _ refl (λ x. refl) (λ x. refl))) (λ n. refl) (in_switch_stmt f _ (λ n a. refl) (in_vec
    (in_switch_case f _ (λ n a. refl) (in_option _ refl (λ x. refl) (λ x. refl))))) (λ n. refl) (λ n. refl) (in_try_stmt f _ (λ n a b. refl)
    (in_option _ refl (λ x. refl) (in_catch_clause f _ (λ n a. refl) (in_option _ refl (λ x. refl) (λ x. refl)))) (in_option _ refl (λ x.
    refl) (λ x. refl))) (λ n. refl) (λ n. refl) (λ n. refl) (in_for_stmt f _ (λ n a b c. refl) (in_option _ refl (λ x. refl)
    (in_var_decl_or_expr f _ (λ n. refl) (λ n. refl))) (in_option _ refl (λ x. refl) (λ x. refl)) (in_option _ refl (λ x. refl) (λ x.
    refl))) (λ n. refl) (in_for_in_stmt f _ (λ n a. refl) (in_for_head f _ (λ n. refl) (λ n. refl) (in_box _ (λ b x. refl) (in_using_decl f
    _ (λ n a. refl) (in_vec (in_var_declarator f _ (λ n a b. refl) (in_pat f _ (λ n. refl) (in_binding_ident f _ (λ n a. refl) (in_option _
    refl (λ x. refl) (λ x. refl))) (λ n. refl) (in_array_pat f _ (λ n a b. refl) (in_vec (in_option _ refl (λ x. refl) (λ x. refl)))
    (in_option _ refl (λ x. refl) (λ x. refl))) (λ n. refl) (in_rest_pat f _ (λ n a. refl) (in_option _ refl (λ x. refl) (λ x. refl))) (λ n.
    refl) (in_object_pat f _ (λ n a b. refl) (in_vec (in_object_pat_prop f _ (λ n. refl) (in_key_value_pat_prop f _ (λ n a. refl)
    (in_prop_name f _ (λ n. refl) (λ n. refl) (λ n. refl) (λ n. refl) (λ n. refl))) (λ n. refl) (in_assign_pat_prop f _ (λ n a b. refl)
    (in_binding_ident f _ (λ n a. refl) (in_option _ refl (λ x. refl) (λ x. refl))) (in_option _ refl (λ x. refl) (λ x. refl))) (λ n. refl)
    (in_rest_pat f _ (λ n a. refl) (in_option _ refl (λ x. refl) (λ x. refl))))) (in_option _ refl (λ x. refl) (λ x. refl))) (λ n. refl) (λ
    n. refl) (λ n. refl)) (in_option _ refl (λ x. refl) (λ x. refl)))))) (λ n. refl))) (λ n. refl) (in_for_of_stmt f _ (λ n a. refl)
    (in_for_head f _ (λ n. refl) (λ n. refl) (in_box _ (λ b x. refl) (in_using_decl f _ (λ n a. refl) (in_vec (in_var_declarator f _ (λ n a
    b. refl) (in_pat f _ (λ n. refl) (in_binding_ident f _ (λ n a. refl) (in_option _ refl (λ x. refl) (λ x. refl))) (λ n. refl)
    (in_array_pat f _ (λ n a b. refl) (in_vec (in_option _ refl (λ x. refl) (λ x. refl))) (in_option _ refl (λ x. refl) (λ x. refl))) (λ n.
    refl) (in_rest_pat f _ (λ n a. refl) (in_option _ refl (λ x. refl) (λ x. refl))) (λ n. refl) (in_object_pat f _ (λ n a b. refl) (in_vec
    (in_object_pat_prop f _ (λ n. refl) (in_key_value_pat_prop f _ (λ n a. refl) (in_prop_name f _ (λ n. refl) (λ n. refl) (λ n. refl) (λ n.
    refl) (λ n. refl))) (λ n. refl) (in_assign_pat_prop f _ (λ n a b. refl) (in_binding_ident f _ (λ n a. refl) (in_option _ refl (λ x.
    refl) (λ x. refl))) (in_option _ refl (λ x. refl) (λ x. refl))) (λ n. refl) (in_rest_pat f _ (λ n a. refl) (in_option _ refl (λ x. refl)
    (λ x. refl))))) (in_option _ refl (λ x. refl) (λ x. refl))) (λ n. refl) (λ n. refl) (λ n. refl)) (in_option _ refl (λ x. refl) (λ x.
    refl)))))) (λ n. refl))) (λ n. refl) (in_decl f _ (λ n. refl) (λ n. refl) (λ n. refl) (in_var_decl f _ (λ n a. refl) (in_vec
    (in_var_declarator f _ (λ n a b. refl) (in_pat f _ (λ n. refl) (in_binding_ident f _ (λ n a. refl) (in_option _ refl (λ x. refl) (λ x.
    refl))) (λ n. refl) (in_array_pat f _ (λ n a b. refl) (in_vec (in_option _ refl (λ x. refl) (λ x. refl))) (in_option _ refl (λ x. refl)
    (λ x. refl))) (λ n. refl) (in_rest_pat f _ (λ n a. refl) (in_option _ refl (λ x. refl) (λ x. refl))) (λ n. refl) (in_object_pat f _ (λ n
    a b. refl) (in_vec (in_object_pat_prop f _ (λ n. refl) (in_key_value_pat_prop f _ (λ n a. refl) (in_prop_name f _ (λ n. refl) (λ n.
    refl) (λ n. refl) (λ n. refl) (λ n. refl))) (λ n. refl) (in_assign_pat_prop f _ (λ n a b. refl) (in_binding_ident f _ (λ n a. refl)
    (in_option _ refl (λ x. refl) (λ x. refl))) (in_option _ refl (λ x. refl) (λ x. refl))) (λ n. refl) (in_rest_pat f _ (λ n a. refl)
    (in_option _ refl (λ x. refl) (λ x. refl))))) (in_option _ refl (λ x. refl) (λ x. refl))) (λ n. refl) (λ n. refl) (λ n. refl))
    (in_option _ refl (λ x. refl) (λ x. refl))))) (λ n. refl) (in_using_decl f _ (λ n a. refl) (in_vec (in_var_declarator f _ (λ n a b.
    refl) (in_pat f _ (λ n. refl) (in_binding_ident f _ (λ n a. refl) (in_option _ refl (λ x. refl) (λ x. refl))) (λ n. refl) (in_array_pat
    f _ (λ n a b. refl) (in_vec (in_option _ refl (λ x. refl) (λ x. refl))) (in_option _ refl (λ x. refl) (λ x. refl))) (λ n. refl)
    (in_rest_pat f _ (λ n a. refl) (in_option _ refl (λ x. refl) (λ x. refl))) (λ n. refl) (in_object_pat f _ (λ n a b. refl) (in_vec
    (in_object_pat_prop f _ (λ n. refl) (in_key_value_pat_prop f _ (λ n a. refl) (in_prop_name f _ (λ n. refl) (λ n. refl) (λ n. refl) (λ n.
    refl) (λ n. refl))) (λ n. refl) (in_assign_pat_prop f _ (λ n a b. refl) (in_binding_ident f _ (λ n a. refl) (in_option _ refl (λ x.
    refl) (λ x. refl))) (in_option _ refl (λ x. refl) (λ x. refl))) (λ n. refl) (in_rest_pat f _ (λ n a. refl) (in_option _ refl (λ x. refl)
    (λ x. refl))))) (in_option _ refl (λ x. refl) (λ x. refl))) (λ n. refl) (λ n. refl) (λ n. refl)) (in_option _ refl (λ x. refl) (λ x.
    refl))))) (λ n. refl) (in_box _ (λ b x. refl) (in_ts_interface_decl f _ (λ n a b. refl) (in_option _ refl (λ x. refl) (λ x. refl))
    (in_vec (in_ts_expr_with_type_args f _ (λ n a. refl) (in_option _ refl (λ x. refl) (λ x. refl)))))) (λ n. refl) (in_box _ (λ b x. refl)
    (in_ts_type_alias_decl f _ (λ n a. refl) (in_option _ refl (λ x. refl) (λ x. refl)))) (λ n. refl) (in_box _ (λ b x. refl)
    (in_ts_enum_decl f _ (λ n a. refl) (in_vec (in_ts_enum_member f _ (λ n a b. refl) kept_ts_enum_member_id (in_option _ refl (λ x. refl)
    (λ x. refl)))))) (λ n. refl) (in_box _ (λ b x. refl) (in_ts_module_decl f _ (λ n a b. refl) kept_ts_module_name (in_option _ refl (λ x.
    refl) (λ x. refl))))) (λ n. refl))

member_expr_same : {X : Type 0} (f : X → X) (n : MemberExpr X) → nodes.MemberExpr (map_member_expr (λ x. x) f n) ≡ map-AnyNode X X f
    (nodes.MemberExpr n)
member_expr_same f = under nodes.MemberExpr (in_member_expr f _ (λ n a. refl) (in_member_prop f _ (λ n. refl) (λ n. refl) (λ n. refl)))

expr_part_same : {X : Type 0} (f : X → X) (n : ExprPart X) → nodes.ExprPart (map_expr_part (λ x. x) f n) ≡ map-AnyNode X X f (nodes.ExprPart
    n)
expr_part_same f = under nodes.ExprPart (in_expr_part f _ (λ n. refl) (in_pat f _ (λ n. refl) (in_binding_ident f _ (λ n a. refl) (in_option
    _ refl (λ x. refl) (λ x. refl))) (λ n. refl) (in_array_pat f _ (λ n a b. refl) (in_vec (in_option _ refl (λ x. refl) (λ x. refl)))
    (in_option _ refl (λ x. refl) (λ x. refl))) (λ n. refl) (in_rest_pat f _ (λ n a. refl) (in_option _ refl (λ x. refl) (λ x. refl))) (λ n.
    refl) (in_object_pat f _ (λ n a b. refl) (in_vec (in_object_pat_prop f _ (λ n. refl) (in_key_value_pat_prop f _ (λ n a. refl)
    (in_prop_name f _ (λ n. refl) (λ n. refl) (λ n. refl) (λ n. refl) (λ n. refl))) (λ n. refl) (in_assign_pat_prop f _ (λ n a b. refl)
    (in_binding_ident f _ (λ n a. refl) (in_option _ refl (λ x. refl) (λ x. refl))) (in_option _ refl (λ x. refl) (λ x. refl))) (λ n. refl)
    (in_rest_pat f _ (λ n a. refl) (in_option _ refl (λ x. refl) (λ x. refl))))) (in_option _ refl (λ x. refl) (λ x. refl))) (λ n. refl) (λ
    n. refl) (λ n. refl)) (λ n. refl) (λ n. refl) (in_object_lit f _ (λ n a. refl) (in_vec (in_prop_or_spread f _ (λ n. refl) (λ n. refl)
    (in_prop f _ (λ n. refl) (λ n. refl) (in_key_value_prop f _ (λ n a. refl) (in_prop_name f _ (λ n. refl) (λ n. refl) (λ n. refl) (λ n.
    refl) (λ n. refl))) (λ n. refl) (λ n. refl) (in_getter_prop f _ (λ n a b. refl) (in_option _ refl (λ x. refl) (λ x. refl)) (in_option _
    refl (λ x. refl) (λ x. refl))) (λ n. refl) (in_setter_prop f _ (λ n a b. refl) (in_option _ refl (λ x. refl) (λ x. refl)) (in_option _
    refl (λ x. refl) (λ x. refl))) (λ n. refl) (in_method_prop f _ (λ n a. refl) (in_prop_name f _ (λ n. refl) (λ n. refl) (λ n. refl) (λ n.
    refl) (λ n. refl))))))) (λ n. refl) (in_prop_name f _ (λ n. refl) (λ n. refl) (λ n. refl) (λ n. refl) (λ n. refl)) (λ n. refl)
    (in_opt_call f _ (λ n a. refl) (in_option _ refl (λ x. refl) (λ x. refl))) (λ n. refl) (in_assign_target f _ (λ n. refl)
    (in_simple_assign_target f _ (λ n. refl) (in_binding_ident f _ (λ n a. refl) (in_option _ refl (λ x. refl) (λ x. refl))) (λ n. refl)
    (in_member_expr f _ (λ n a. refl) (in_member_prop f _ (λ n. refl) (λ n. refl) (λ n. refl))) (λ n. refl) (in_super_prop_expr f _ (λ n a.
    refl) (in_super_prop f _ (λ n. refl) (λ n. refl))) (λ n. refl) (λ n. refl) (in_opt_chain_expr f _ (λ n a. refl) (in_opt_chain_base f _
    (λ n. refl) (λ n. refl))) (λ n. refl) (λ n. refl) (λ n. refl) (λ n. refl) (λ n. refl) (λ n. refl)) (λ n. refl) (in_assign_target_pat f _
    (λ n. refl) (in_array_pat f _ (λ n a b. refl) (in_vec (in_option _ refl (λ x. refl) (λ x. refl))) (in_option _ refl (λ x. refl) (λ x.
    refl))) (λ n. refl) (in_object_pat f _ (λ n a b. refl) (in_vec (in_object_pat_prop f _ (λ n. refl) (in_key_value_pat_prop f _ (λ n a.
    refl) (in_prop_name f _ (λ n. refl) (λ n. refl) (λ n. refl) (λ n. refl) (λ n. refl))) (λ n. refl) (in_assign_pat_prop f _ (λ n a b.
    refl) (in_binding_ident f _ (λ n a. refl) (in_option _ refl (λ x. refl) (λ x. refl))) (in_option _ refl (λ x. refl) (λ x. refl))) (λ n.
    refl) (in_rest_pat f _ (λ n a. refl) (in_option _ refl (λ x. refl) (λ x. refl))))) (in_option _ refl (λ x. refl) (λ x. refl))) (λ n.
    refl))))

stmt_part_same : {X : Type 0} (f : X → X) (n : StmtPart X) → nodes.StmtPart (map_stmt_part (λ x. x) f n) ≡ map-AnyNode X X f (nodes.StmtPart
    n)
stmt_part_same f = under nodes.StmtPart (in_stmt_part f _ (λ n. refl) (in_box _ (λ b x. refl) (in_function f _ (λ n a b c d. refl) (in_vec
    (in_param f _ (λ n a. refl) (in_pat f _ (λ n. refl) (in_binding_ident f _ (λ n a. refl) (in_option _ refl (λ x. refl) (λ x. refl))) (λ
    n. refl) (in_array_pat f _ (λ n a b. refl) (in_vec (in_option _ refl (λ x. refl) (λ x. refl))) (in_option _ refl (λ x. refl) (λ x.
    refl))) (λ n. refl) (in_rest_pat f _ (λ n a. refl) (in_option _ refl (λ x. refl) (λ x. refl))) (λ n. refl) (in_object_pat f _ (λ n a b.
    refl) (in_vec (in_object_pat_prop f _ (λ n. refl) (in_key_value_pat_prop f _ (λ n a. refl) (in_prop_name f _ (λ n. refl) (λ n. refl) (λ
    n. refl) (λ n. refl) (λ n. refl))) (λ n. refl) (in_assign_pat_prop f _ (λ n a b. refl) (in_binding_ident f _ (λ n a. refl) (in_option _
    refl (λ x. refl) (λ x. refl))) (in_option _ refl (λ x. refl) (λ x. refl))) (λ n. refl) (in_rest_pat f _ (λ n a. refl) (in_option _ refl
    (λ x. refl) (λ x. refl))))) (in_option _ refl (λ x. refl) (λ x. refl))) (λ n. refl) (λ n. refl) (λ n. refl)))) (in_option _ refl (λ x.
    refl) (λ x. refl)) (in_option _ refl (λ x. refl) (λ x. refl)) (in_option _ refl (λ x. refl) (λ x. refl)))) (λ n. refl) (in_box _ (λ b x.
    refl) (in_class f _ (λ n a b c d. refl) (in_option _ refl (λ x. refl) (λ x. refl)) (in_option _ refl (λ x. refl) (λ x. refl)) (in_option
    _ refl (λ x. refl) (λ x. refl)) (in_vec (in_ts_expr_with_type_args f _ (λ n a. refl) (in_option _ refl (λ x. refl) (λ x. refl)))))) (λ
    n. refl) (in_block_stmt f _ (λ n a. refl) (in_vec (in_stmt f _ (λ n. refl) (λ n. refl) (λ n. refl) (λ n. refl) (λ n. refl)
    (in_return_stmt f _ (λ n a. refl) (in_option _ refl (λ x. refl) (λ x. refl))) (λ n. refl) (λ n. refl) kept_break_stmt (λ n. refl)
    kept_continue_stmt (λ n. refl) (in_if_stmt f _ (λ n a. refl) (in_option _ refl (λ x. refl) (λ x. refl))) (λ n. refl) (in_switch_stmt f _
    (λ n a. refl) (in_vec (in_switch_case f _ (λ n a. refl) (in_option _ refl (λ x. refl) (λ x. refl))))) (λ n. refl) (λ n. refl)
    (in_try_stmt f _ (λ n a b. refl) (in_option _ refl (λ x. refl) (in_catch_clause f _ (λ n a. refl) (in_option _ refl (λ x. refl) (λ x.
    refl)))) (in_option _ refl (λ x. refl) (λ x. refl))) (λ n. refl) (λ n. refl) (λ n. refl) (in_for_stmt f _ (λ n a b c. refl) (in_option _
    refl (λ x. refl) (in_var_decl_or_expr f _ (λ n. refl) (λ n. refl))) (in_option _ refl (λ x. refl) (λ x. refl)) (in_option _ refl (λ x.
    refl) (λ x. refl))) (λ n. refl) (in_for_in_stmt f _ (λ n a. refl) (in_for_head f _ (λ n. refl) (λ n. refl) (in_box _ (λ b x. refl)
    (in_using_decl f _ (λ n a. refl) (in_vec (in_var_declarator f _ (λ n a b. refl) (in_pat f _ (λ n. refl) (in_binding_ident f _ (λ n a.
    refl) (in_option _ refl (λ x. refl) (λ x. refl))) (λ n. refl) (in_array_pat f _ (λ n a b. refl) (in_vec (in_option _ refl (λ x. refl) (λ
    x. refl))) (in_option _ refl (λ x. refl) (λ x. refl))) (λ n. refl) (in_rest_pat f _ (λ n a. refl) (in_option _ refl (λ x. refl) (λ x.
    refl))) (λ n. refl) (in_object_pat f _ (λ n a b. refl) (in_vec (in_object_pat_prop f _ (λ n. refl) (in_key_value_pat_prop f _ (λ n a.
    refl) (in_prop_name f _ (λ n. refl) (λ n. refl) (λ n. refl) (λ n. refl) (λ n. refl))) (λ n. refl) (in_assign_pat_prop f _ (λ n a b.
    refl) (in_binding_ident f _ (λ n a. refl) (in_option _ refl (λ x. refl) (λ x. refl))) (in_option _ refl (λ x. refl) (λ x. refl))) (λ n.
    refl) (in_rest_pat f _ (λ n a. refl) (in_option _ refl (λ x. refl) (λ x. refl))))) (in_option _ refl (λ x. refl) (λ x. refl))) (λ n.
    refl) (λ n. refl) (λ n. refl)) (in_option _ refl (λ x. refl) (λ x. refl)))))) (λ n. refl))) (λ n. refl) (in_for_of_stmt f _ (λ n a.
    refl) (in_for_head f _ (λ n. refl) (λ n. refl) (in_box _ (λ b x. refl) (in_using_decl f _ (λ n a. refl) (in_vec (in_var_declarator f _
    (λ n a b. refl) (in_pat f _ (λ n. refl) (in_binding_ident f _ (λ n a. refl) (in_option _ refl (λ x. refl) (λ x. refl))) (λ n. refl)
    (in_array_pat f _ (λ n a b. refl) (in_vec (in_option _ refl (λ x. refl) (λ x. refl))) (in_option _ refl (λ x. refl) (λ x. refl))) (λ n.
    refl) (in_rest_pat f _ (λ n a. refl) (in_option _ refl (λ x. refl) (λ x. refl))) (λ n. refl) (in_object_pat f _ (λ n a b. refl) (in_vec
    (in_object_pat_prop f _ (λ n. refl) (in_key_value_pat_prop f _ (λ n a. refl) (in_prop_name f _ (λ n. refl) (λ n. refl) (λ n. refl) (λ n.
    refl) (λ n. refl))) (λ n. refl) (in_assign_pat_prop f _ (λ n a b. refl) (in_binding_ident f _ (λ n a. refl) (in_option _ refl (λ x.
    refl) (λ x. refl))) (in_option _ refl (λ x. refl) (λ x. refl))) (λ n. refl) (in_rest_pat f _ (λ n a. refl) (in_option _ refl (λ x. refl)
    (λ x. refl))))) (in_option _ refl (λ x. refl) (λ x. refl))) (λ n. refl) (λ n. refl) (λ n. refl)) (in_option _ refl (λ x. refl) (λ x.
    refl)))))) (λ n. refl))) (λ n. refl) (in_decl f _ (λ n. refl) (λ n. refl) (λ n. refl) (in_var_decl f _ (λ n a. refl) (in_vec
    (in_var_declarator f _ (λ n a b. refl) (in_pat f _ (λ n. refl) (in_binding_ident f _ (λ n a. refl) (in_option _ refl (λ x. refl) (λ x.
    refl))) (λ n. refl) (in_array_pat f _ (λ n a b. refl) (in_vec (in_option _ refl (λ x. refl) (λ x. refl))) (in_option _ refl (λ x. refl)
    (λ x. refl))) (λ n. refl) (in_rest_pat f _ (λ n a. refl) (in_option _ refl (λ x. refl) (λ x. refl))) (λ n. refl) (in_object_pat f _ (λ n
    a b. refl) (in_vec (in_object_pat_prop f _ (λ n. refl) (in_key_value_pat_prop f _ (λ n a. refl) (in_prop_name f _ (λ n. refl) (λ n.
    refl) (λ n. refl) (λ n. refl) (λ n. refl))) (λ n. refl) (in_assign_pat_prop f _ (λ n a b. refl) (in_binding_ident f _ (λ n a. refl)
    (in_option _ refl (λ x. refl) (λ x. refl))) (in_option _ refl (λ x. refl) (λ x. refl))) (λ n. refl) (in_rest_pat f _ (λ n a. refl)
    (in_option _ refl (λ x. refl) (λ x. refl))))) (in_option _ refl (λ x. refl) (λ x. refl))) (λ n. refl) (λ n. refl) (λ n. refl))
    (in_option _ refl (λ x. refl) (λ x. refl))))) (λ n. refl) (in_using_decl f _ (λ n a. refl) (in_vec (in_var_declarator f _ (λ n a b.
    refl) (in_pat f _ (λ n. refl) (in_binding_ident f _ (λ n a. refl) (in_option _ refl (λ x. refl) (λ x. refl))) (λ n. refl) (in_array_pat
    f _ (λ n a b. refl) (in_vec (in_option _ refl (λ x. refl) (λ x. refl))) (in_option _ refl (λ x. refl) (λ x. refl))) (λ n. refl)
    (in_rest_pat f _ (λ n a. refl) (in_option _ refl (λ x. refl) (λ x. refl))) (λ n. refl) (in_object_pat f _ (λ n a b. refl) (in_vec
    (in_object_pat_prop f _ (λ n. refl) (in_key_value_pat_prop f _ (λ n a. refl) (in_prop_name f _ (λ n. refl) (λ n. refl) (λ n. refl) (λ n.
    refl) (λ n. refl))) (λ n. refl) (in_assign_pat_prop f _ (λ n a b. refl) (in_binding_ident f _ (λ n a. refl) (in_option _ refl (λ x.
    refl) (λ x. refl))) (in_option _ refl (λ x. refl) (λ x. refl))) (λ n. refl) (in_rest_pat f _ (λ n a. refl) (in_option _ refl (λ x. refl)
    (λ x. refl))))) (in_option _ refl (λ x. refl) (λ x. refl))) (λ n. refl) (λ n. refl) (λ n. refl)) (in_option _ refl (λ x. refl) (λ x.
    refl))))) (λ n. refl) (in_box _ (λ b x. refl) (in_ts_interface_decl f _ (λ n a b. refl) (in_option _ refl (λ x. refl) (λ x. refl))
    (in_vec (in_ts_expr_with_type_args f _ (λ n a. refl) (in_option _ refl (λ x. refl) (λ x. refl)))))) (λ n. refl) (in_box _ (λ b x. refl)
    (in_ts_type_alias_decl f _ (λ n a. refl) (in_option _ refl (λ x. refl) (λ x. refl)))) (λ n. refl) (in_box _ (λ b x. refl)
    (in_ts_enum_decl f _ (λ n a. refl) (in_vec (in_ts_enum_member f _ (λ n a b. refl) kept_ts_enum_member_id (in_option _ refl (λ x. refl)
    (λ x. refl)))))) (λ n. refl) (in_box _ (λ b x. refl) (in_ts_module_decl f _ (λ n a b. refl) kept_ts_module_name (in_option _ refl (λ x.
    refl) (λ x. refl))))) (λ n. refl)))) (λ n. refl) (in_decl f _ (λ n. refl) (λ n. refl) (λ n. refl) (in_var_decl f _ (λ n a. refl) (in_vec
    (in_var_declarator f _ (λ n a b. refl) (in_pat f _ (λ n. refl) (in_binding_ident f _ (λ n a. refl) (in_option _ refl (λ x. refl) (λ x.
    refl))) (λ n. refl) (in_array_pat f _ (λ n a b. refl) (in_vec (in_option _ refl (λ x. refl) (λ x. refl))) (in_option _ refl (λ x. refl)
    (λ x. refl))) (λ n. refl) (in_rest_pat f _ (λ n a. refl) (in_option _ refl (λ x. refl) (λ x. refl))) (λ n. refl) (in_object_pat f _ (λ n
    a b. refl) (in_vec (in_object_pat_prop f _ (λ n. refl) (in_key_value_pat_prop f _ (λ n a. refl) (in_prop_name f _ (λ n. refl) (λ n.
    refl) (λ n. refl) (λ n. refl) (λ n. refl))) (λ n. refl) (in_assign_pat_prop f _ (λ n a b. refl) (in_binding_ident f _ (λ n a. refl)
    (in_option _ refl (λ x. refl) (λ x. refl))) (in_option _ refl (λ x. refl) (λ x. refl))) (λ n. refl) (in_rest_pat f _ (λ n a. refl)
    (in_option _ refl (λ x. refl) (λ x. refl))))) (in_option _ refl (λ x. refl) (λ x. refl))) (λ n. refl) (λ n. refl) (λ n. refl))
    (in_option _ refl (λ x. refl) (λ x. refl))))) (λ n. refl) (in_using_decl f _ (λ n a. refl) (in_vec (in_var_declarator f _ (λ n a b.
    refl) (in_pat f _ (λ n. refl) (in_binding_ident f _ (λ n a. refl) (in_option _ refl (λ x. refl) (λ x. refl))) (λ n. refl) (in_array_pat
    f _ (λ n a b. refl) (in_vec (in_option _ refl (λ x. refl) (λ x. refl))) (in_option _ refl (λ x. refl) (λ x. refl))) (λ n. refl)
    (in_rest_pat f _ (λ n a. refl) (in_option _ refl (λ x. refl) (λ x. refl))) (λ n. refl) (in_object_pat f _ (λ n a b. refl) (in_vec
    (in_object_pat_prop f _ (λ n. refl) (in_key_value_pat_prop f _ (λ n a. refl) (in_prop_name f _ (λ n. refl) (λ n. refl) (λ n. refl) (λ n.
    refl) (λ n. refl))) (λ n. refl) (in_assign_pat_prop f _ (λ n a b. refl) (in_binding_ident f _ (λ n a. refl) (in_option _ refl (λ x.
    refl) (λ x. refl))) (in_option _ refl (λ x. refl) (λ x. refl))) (λ n. refl) (in_rest_pat f _ (λ n a. refl) (in_option _ refl (λ x. refl)
    (λ x. refl))))) (in_option _ refl (λ x. refl) (λ x. refl))) (λ n. refl) (λ n. refl) (λ n. refl)) (in_option _ refl (λ x. refl) (λ x.
    refl))))) (λ n. refl) (in_box _ (λ b x. refl) (in_ts_interface_decl f _ (λ n a b. refl) (in_option _ refl (λ x. refl) (λ x. refl))
    (in_vec (in_ts_expr_with_type_args f _ (λ n a. refl) (in_option _ refl (λ x. refl) (λ x. refl)))))) (λ n. refl) (in_box _ (λ b x. refl)
    (in_ts_type_alias_decl f _ (λ n a. refl) (in_option _ refl (λ x. refl) (λ x. refl)))) (λ n. refl) (in_box _ (λ b x. refl)
    (in_ts_enum_decl f _ (λ n a. refl) (in_vec (in_ts_enum_member f _ (λ n a b. refl) kept_ts_enum_member_id (in_option _ refl (λ x. refl)
    (λ x. refl)))))) (λ n. refl) (in_box _ (λ b x. refl) (in_ts_module_decl f _ (λ n a b. refl) kept_ts_module_name (in_option _ refl (λ x.
    refl) (λ x. refl))))) (λ n. refl) (in_box _ (λ b x. refl) (in_module_decl f _ (λ n. refl) (in_import_decl f _ (λ n a b. refl) (vec_kept
    kept_import_specifier) (in_option _ refl (λ x. refl) (λ x. refl))) (λ n. refl) (λ n. refl) (in_named_export f _ (λ n a b. refl)
    (vec_kept kept_export_specifier) (in_option _ refl (λ x. refl) (λ x. refl))) (λ n. refl) (in_export_default_decl f _ (λ n a. refl)
    (in_default_decl f _ (λ n. refl) (in_class_expr f _ (λ n a. refl) (option_kept (λ x. refl))) (λ n. refl) (in_fn_expr f _ (λ n a. refl)
    (option_kept (λ x. refl))) (λ n. refl) (in_ts_interface_decl f _ (λ n a b. refl) (in_option _ refl (λ x. refl) (λ x. refl)) (in_vec
    (in_ts_expr_with_type_args f _ (λ n a. refl) (in_option _ refl (λ x. refl) (λ x. refl))))))) (λ n. refl) (λ n. refl) (in_export_all f _
    (λ n a. refl) (in_option _ refl (λ x. refl) (λ x. refl))) (λ n. refl) (in_ts_import_equals_decl f _ (λ n a. refl) (in_ts_module_ref f _
    (λ n. refl) (λ n. refl))) (λ n. refl) (λ n. refl))) (λ n. refl) (in_var_decl f _ (λ n a. refl) (in_vec (in_var_declarator f _ (λ n a b.
    refl) (in_pat f _ (λ n. refl) (in_binding_ident f _ (λ n a. refl) (in_option _ refl (λ x. refl) (λ x. refl))) (λ n. refl) (in_array_pat
    f _ (λ n a b. refl) (in_vec (in_option _ refl (λ x. refl) (λ x. refl))) (in_option _ refl (λ x. refl) (λ x. refl))) (λ n. refl)
    (in_rest_pat f _ (λ n a. refl) (in_option _ refl (λ x. refl) (λ x. refl))) (λ n. refl) (in_object_pat f _ (λ n a b. refl) (in_vec
    (in_object_pat_prop f _ (λ n. refl) (in_key_value_pat_prop f _ (λ n a. refl) (in_prop_name f _ (λ n. refl) (λ n. refl) (λ n. refl) (λ n.
    refl) (λ n. refl))) (λ n. refl) (in_assign_pat_prop f _ (λ n a b. refl) (in_binding_ident f _ (λ n a. refl) (in_option _ refl (λ x.
    refl) (λ x. refl))) (in_option _ refl (λ x. refl) (λ x. refl))) (λ n. refl) (in_rest_pat f _ (λ n a. refl) (in_option _ refl (λ x. refl)
    (λ x. refl))))) (in_option _ refl (λ x. refl) (λ x. refl))) (λ n. refl) (λ n. refl) (λ n. refl)) (in_option _ refl (λ x. refl) (λ x.
    refl))))) (λ n. refl) (in_box _ (λ b x. refl) (in_class_member f _ (λ n. refl) (in_constructor f _ (λ n a b. refl) (in_vec
    (in_param_or_ts_param_prop f _ (λ n. refl) (in_ts_param_prop f _ (λ n a. refl) (in_ts_param_prop_param f _ (λ n. refl) (in_binding_ident
    f _ (λ n a. refl) (in_option _ refl (λ x. refl) (λ x. refl))) (λ n. refl))) (λ n. refl) (in_param f _ (λ n a. refl) (in_pat f _ (λ n.
    refl) (in_binding_ident f _ (λ n a. refl) (in_option _ refl (λ x. refl) (λ x. refl))) (λ n. refl) (in_array_pat f _ (λ n a b. refl)
    (in_vec (in_option _ refl (λ x. refl) (λ x. refl))) (in_option _ refl (λ x. refl) (λ x. refl))) (λ n. refl) (in_rest_pat f _ (λ n a.
    refl) (in_option _ refl (λ x. refl) (λ x. refl))) (λ n. refl) (in_object_pat f _ (λ n a b. refl) (in_vec (in_object_pat_prop f _ (λ n.
    refl) (in_key_value_pat_prop f _ (λ n a. refl) (in_prop_name f _ (λ n. refl) (λ n. refl) (λ n. refl) (λ n. refl) (λ n. refl))) (λ n.
    refl) (in_assign_pat_prop f _ (λ n a b. refl) (in_binding_ident f _ (λ n a. refl) (in_option _ refl (λ x. refl) (λ x. refl))) (in_option
    _ refl (λ x. refl) (λ x. refl))) (λ n. refl) (in_rest_pat f _ (λ n a. refl) (in_option _ refl (λ x. refl) (λ x. refl))))) (in_option _
    refl (λ x. refl) (λ x. refl))) (λ n. refl) (λ n. refl) (λ n. refl))))) (in_option _ refl (λ x. refl) (λ x. refl))) (λ n. refl) (λ n.
    refl) (λ n. refl) (in_class_prop f _ (λ n a b. refl) (in_option _ refl (λ x. refl) (λ x. refl)) (in_option _ refl (λ x. refl) (λ x.
    refl))) (λ n. refl) (in_private_prop f _ (λ n a b. refl) (in_option _ refl (λ x. refl) (λ x. refl)) (in_option _ refl (λ x. refl) (λ x.
    refl))) (λ n. refl) (in_ts_index_signature f _ (λ n a. refl) (in_option _ refl (λ x. refl) (λ x. refl))) (λ n. refl) (λ n. refl) (λ n.
    refl) (in_auto_accessor f _ (λ n a b c. refl) (in_key f _ (λ n. refl) (λ n. refl)) (in_option _ refl (λ x. refl) (λ x. refl)) (in_option
    _ refl (λ x. refl) (λ x. refl))))))

jsx_part_same : {X : Type 0} (f : X → X) (n : JSXPart X) → nodes.JSXPart (map_jsx_part (λ x. x) f n) ≡ map-AnyNode X X f (nodes.JSXPart n)
jsx_part_same f = under nodes.JSXPart (in_jsx_part f _ (λ n. refl) (in_box _ (λ b x. refl) (in_jsx_element f _ (λ n a b c. refl)
    (in_jsx_opening_element f _ (λ n a b c. refl) (in_jsx_element_name f _ (λ n. refl) (λ n. refl) (λ n. refl)) (in_vec
    (in_jsx_attr_or_spread f _ (λ n. refl) (in_jsx_attr f _ (λ n a. refl) (in_option _ refl (λ x. refl) (in_jsx_attr_value f _ (λ n. refl)
    (λ n. refl) (in_jsx_expr_container f _ (λ n a. refl) (in_jsx_expr f _ (λ n. refl) (λ n. refl))) (λ n. refl) (λ n. refl)))) (λ n. refl)))
    (in_option _ refl (λ x. refl) (λ x. refl))) (in_vec (in_jsx_element_child f _ (λ n. refl) (λ n. refl) (in_jsx_expr_container f _ (λ n a.
    refl) (in_jsx_expr f _ (λ n. refl) (λ n. refl))) (λ n. refl) (λ n. refl) (λ n. refl))) (in_option _ refl (λ x. refl)
    (in_jsx_closing_element f _ (λ n a. refl) (in_jsx_element_name f _ (λ n. refl) (λ n. refl) (λ n. refl)))))) (λ n. refl) (in_jsx_fragment
    f _ (λ n a. refl) (in_vec (in_jsx_element_child f _ (λ n. refl) (λ n. refl) (in_jsx_expr_container f _ (λ n a. refl) (in_jsx_expr f _ (λ
    n. refl) (λ n. refl))) (λ n. refl) (λ n. refl) (λ n. refl)))) (λ n. refl) (in_jsx_object f _ (λ n. refl) (λ n. refl)))

ts_part_same : {X : Type 0} (f : X → X) (n : TsPart X) → nodes.TsPart (map_ts_part (λ x. x) f n) ≡ map-AnyNode X X f (nodes.TsPart n)
ts_part_same f = under nodes.TsPart (in_ts_part f _ (λ n. refl) (in_ts_type f _ (λ n. refl) (λ n. refl) (λ n. refl) (in_box _ (λ b x. refl)
    (in_ts_fn_or_constructor_type f _ (λ n. refl) (in_ts_fn_type f _ (λ n a. refl) (in_option _ refl (λ x. refl) (λ x. refl))) (λ n. refl)
    (in_ts_constructor_type f _ (λ n a. refl) (in_option _ refl (λ x. refl) (λ x. refl))))) (λ n. refl) (in_ts_type_ref f _ (λ n a. refl)
    (in_option _ refl (λ x. refl) (λ x. refl))) (λ n. refl) (in_box _ (λ b x. refl) (in_ts_type_query f _ (λ n a b. refl)
    (in_ts_type_query_expr f _ (λ n. refl) (λ n. refl) (in_ts_import_type f _ (λ n a b. refl) (in_option _ refl (λ x. refl) (λ x. refl))
    (in_option _ refl (λ x. refl) (λ x. refl)))) (in_option _ refl (λ x. refl) (λ x. refl)))) (λ n. refl) (in_ts_type_lit f _ (λ n a. refl)
    (in_vec (in_ts_type_element f _ (λ n. refl) (in_ts_call_signature_decl f _ (λ n a b. refl) (in_option _ refl (λ x. refl) (λ x. refl))
    (in_option _ refl (λ x. refl) (λ x. refl))) (λ n. refl) (in_ts_construct_signature_decl f _ (λ n a b. refl) (in_option _ refl (λ x.
    refl) (λ x. refl)) (in_option _ refl (λ x. refl) (λ x. refl))) (λ n. refl) (in_ts_property_signature f _ (λ n a. refl) (in_option _ refl
    (λ x. refl) (λ x. refl))) (λ n. refl) (in_ts_getter_signature f _ (λ n a. refl) (in_option _ refl (λ x. refl) (λ x. refl))) (λ n. refl)
    (λ n. refl) (in_ts_method_signature f _ (λ n a b. refl) (in_option _ refl (λ x. refl) (λ x. refl)) (in_option _ refl (λ x. refl) (λ x.
    refl))) (λ n. refl) (in_ts_index_signature f _ (λ n a. refl) (in_option _ refl (λ x. refl) (λ x. refl)))))) (λ n. refl) (λ n. refl)
    (in_ts_tuple_type f _ (λ n a. refl) (in_vec (in_ts_tuple_element f _ (λ n a. refl) (in_option _ refl (λ x. refl) (λ x. refl))))) (λ n.
    refl) (λ n. refl) (λ n. refl) (in_ts_union_or_intersection_type f _ (λ n. refl) (λ n. refl)) (λ n. refl) (λ n. refl) (in_box _ (λ b x.
    refl) (in_ts_infer_type f _ (λ n a. refl) (in_ts_type_param f _ (λ n a b. refl) (in_option _ refl (λ x. refl) (λ x. refl)) (in_option _
    refl (λ x. refl) (λ x. refl))))) (λ n. refl) (λ n. refl) (λ n. refl) (λ n. refl) (in_box _ (λ b x. refl) (in_ts_mapped_type f _ (λ n a b
    c. refl) (in_ts_type_param f _ (λ n a b. refl) (in_option _ refl (λ x. refl) (λ x. refl)) (in_option _ refl (λ x. refl) (λ x. refl)))
    (in_option _ refl (λ x. refl) (λ x. refl)) (in_option _ refl (λ x. refl) (λ x. refl)))) (λ n. refl) (in_box _ (λ b x. refl)
    (in_ts_lit_type f _ (λ n a. refl) (in_ts_lit f _ (λ n. refl) (λ n. refl) (λ n. refl) (λ n. refl) (λ n. refl)))) (λ n. refl) (in_box _ (λ
    b x. refl) (in_ts_type_predicate f _ (λ n a b. refl) kept_ts_this_type_or_ident (in_option _ refl (λ x. refl) (λ x. refl)))) (λ n. refl)
    (in_box _ (λ b x. refl) (in_ts_import_type f _ (λ n a b. refl) (in_option _ refl (λ x. refl) (λ x. refl)) (in_option _ refl (λ x. refl)
    (λ x. refl))))) (λ n. refl) (in_ts_namespace_body f _ (λ n. refl) (in_ts_module_block f _ (λ n a. refl) (in_vec (in_module_item f _ (λ
    n. refl) (λ n. refl) (in_stmt f _ (λ n. refl) (λ n. refl) (λ n. refl) (λ n. refl) (λ n. refl) (in_return_stmt f _ (λ n a. refl)
    (in_option _ refl (λ x. refl) (λ x. refl))) (λ n. refl) (λ n. refl) kept_break_stmt (λ n. refl) kept_continue_stmt (λ n. refl)
    (in_if_stmt f _ (λ n a. refl) (in_option _ refl (λ x. refl) (λ x. refl))) (λ n. refl) (in_switch_stmt f _ (λ n a. refl) (in_vec
    (in_switch_case f _ (λ n a. refl) (in_option _ refl (λ x. refl) (λ x. refl))))) (λ n. refl) (λ n. refl) (in_try_stmt f _ (λ n a b. refl)
    (in_option _ refl (λ x. refl) (in_catch_clause f _ (λ n a. refl) (in_option _ refl (λ x. refl) (λ x. refl)))) (in_option _ refl (λ x.
    refl) (λ x. refl))) (λ n. refl) (λ n. refl) (λ n. refl) (in_for_stmt f _ (λ n a b c. refl) (in_option _ refl (λ x. refl)
    (in_var_decl_or_expr f _ (λ n. refl) (λ n. refl))) (in_option _ refl (λ x. refl) (λ x. refl)) (in_option _ refl (λ x. refl) (λ x.
    refl))) (λ n. refl) (in_for_in_stmt f _ (λ n a. refl) (in_for_head f _ (λ n. refl) (λ n. refl) (in_box _ (λ b x. refl) (in_using_decl f
    _ (λ n a. refl) (in_vec (in_var_declarator f _ (λ n a b. refl) (in_pat f _ (λ n. refl) (in_binding_ident f _ (λ n a. refl) (in_option _
    refl (λ x. refl) (λ x. refl))) (λ n. refl) (in_array_pat f _ (λ n a b. refl) (in_vec (in_option _ refl (λ x. refl) (λ x. refl)))
    (in_option _ refl (λ x. refl) (λ x. refl))) (λ n. refl) (in_rest_pat f _ (λ n a. refl) (in_option _ refl (λ x. refl) (λ x. refl))) (λ n.
    refl) (in_object_pat f _ (λ n a b. refl) (in_vec (in_object_pat_prop f _ (λ n. refl) (in_key_value_pat_prop f _ (λ n a. refl)
    (in_prop_name f _ (λ n. refl) (λ n. refl) (λ n. refl) (λ n. refl) (λ n. refl))) (λ n. refl) (in_assign_pat_prop f _ (λ n a b. refl)
    (in_binding_ident f _ (λ n a. refl) (in_option _ refl (λ x. refl) (λ x. refl))) (in_option _ refl (λ x. refl) (λ x. refl))) (λ n. refl)
    (in_rest_pat f _ (λ n a. refl) (in_option _ refl (λ x. refl) (λ x. refl))))) (in_option _ refl (λ x. refl) (λ x. refl))) (λ n. refl) (λ
    n. refl) (λ n. refl)) (in_option _ refl (λ x. refl) (λ x. refl)))))) (λ n. refl))) (λ n. refl) (in_for_of_stmt f _ (λ n a. refl)
    (in_for_head f _ (λ n. refl) (λ n. refl) (in_box _ (λ b x. refl) (in_using_decl f _ (λ n a. refl) (in_vec (in_var_declarator f _ (λ n a
    b. refl) (in_pat f _ (λ n. refl) (in_binding_ident f _ (λ n a. refl) (in_option _ refl (λ x. refl) (λ x. refl))) (λ n. refl)
    (in_array_pat f _ (λ n a b. refl) (in_vec (in_option _ refl (λ x. refl) (λ x. refl))) (in_option _ refl (λ x. refl) (λ x. refl))) (λ n.
    refl) (in_rest_pat f _ (λ n a. refl) (in_option _ refl (λ x. refl) (λ x. refl))) (λ n. refl) (in_object_pat f _ (λ n a b. refl) (in_vec
    (in_object_pat_prop f _ (λ n. refl) (in_key_value_pat_prop f _ (λ n a. refl) (in_prop_name f _ (λ n. refl) (λ n. refl) (λ n. refl) (λ n.
    refl) (λ n. refl))) (λ n. refl) (in_assign_pat_prop f _ (λ n a b. refl) (in_binding_ident f _ (λ n a. refl) (in_option _ refl (λ x.
    refl) (λ x. refl))) (in_option _ refl (λ x. refl) (λ x. refl))) (λ n. refl) (in_rest_pat f _ (λ n a. refl) (in_option _ refl (λ x. refl)
    (λ x. refl))))) (in_option _ refl (λ x. refl) (λ x. refl))) (λ n. refl) (λ n. refl) (λ n. refl)) (in_option _ refl (λ x. refl) (λ x.
    refl)))))) (λ n. refl))) (λ n. refl) (in_decl f _ (λ n. refl) (λ n. refl) (λ n. refl) (in_var_decl f _ (λ n a. refl) (in_vec
    (in_var_declarator f _ (λ n a b. refl) (in_pat f _ (λ n. refl) (in_binding_ident f _ (λ n a. refl) (in_option _ refl (λ x. refl) (λ x.
    refl))) (λ n. refl) (in_array_pat f _ (λ n a b. refl) (in_vec (in_option _ refl (λ x. refl) (λ x. refl))) (in_option _ refl (λ x. refl)
    (λ x. refl))) (λ n. refl) (in_rest_pat f _ (λ n a. refl) (in_option _ refl (λ x. refl) (λ x. refl))) (λ n. refl) (in_object_pat f _ (λ n
    a b. refl) (in_vec (in_object_pat_prop f _ (λ n. refl) (in_key_value_pat_prop f _ (λ n a. refl) (in_prop_name f _ (λ n. refl) (λ n.
    refl) (λ n. refl) (λ n. refl) (λ n. refl))) (λ n. refl) (in_assign_pat_prop f _ (λ n a b. refl) (in_binding_ident f _ (λ n a. refl)
    (in_option _ refl (λ x. refl) (λ x. refl))) (in_option _ refl (λ x. refl) (λ x. refl))) (λ n. refl) (in_rest_pat f _ (λ n a. refl)
    (in_option _ refl (λ x. refl) (λ x. refl))))) (in_option _ refl (λ x. refl) (λ x. refl))) (λ n. refl) (λ n. refl) (λ n. refl))
    (in_option _ refl (λ x. refl) (λ x. refl))))) (λ n. refl) (in_using_decl f _ (λ n a. refl) (in_vec (in_var_declarator f _ (λ n a b.
    refl) (in_pat f _ (λ n. refl) (in_binding_ident f _ (λ n a. refl) (in_option _ refl (λ x. refl) (λ x. refl))) (λ n. refl) (in_array_pat
    f _ (λ n a b. refl) (in_vec (in_option _ refl (λ x. refl) (λ x. refl))) (in_option _ refl (λ x. refl) (λ x. refl))) (λ n. refl)
    (in_rest_pat f _ (λ n a. refl) (in_option _ refl (λ x. refl) (λ x. refl))) (λ n. refl) (in_object_pat f _ (λ n a b. refl) (in_vec
    (in_object_pat_prop f _ (λ n. refl) (in_key_value_pat_prop f _ (λ n a. refl) (in_prop_name f _ (λ n. refl) (λ n. refl) (λ n. refl) (λ n.
    refl) (λ n. refl))) (λ n. refl) (in_assign_pat_prop f _ (λ n a b. refl) (in_binding_ident f _ (λ n a. refl) (in_option _ refl (λ x.
    refl) (λ x. refl))) (in_option _ refl (λ x. refl) (λ x. refl))) (λ n. refl) (in_rest_pat f _ (λ n a. refl) (in_option _ refl (λ x. refl)
    (λ x. refl))))) (in_option _ refl (λ x. refl) (λ x. refl))) (λ n. refl) (λ n. refl) (λ n. refl)) (in_option _ refl (λ x. refl) (λ x.
    refl))))) (λ n. refl) (in_box _ (λ b x. refl) (in_ts_interface_decl f _ (λ n a b. refl) (in_option _ refl (λ x. refl) (λ x. refl))
    (in_vec (in_ts_expr_with_type_args f _ (λ n a. refl) (in_option _ refl (λ x. refl) (λ x. refl)))))) (λ n. refl) (in_box _ (λ b x. refl)
    (in_ts_type_alias_decl f _ (λ n a. refl) (in_option _ refl (λ x. refl) (λ x. refl)))) (λ n. refl) (in_box _ (λ b x. refl)
    (in_ts_enum_decl f _ (λ n a. refl) (in_vec (in_ts_enum_member f _ (λ n a b. refl) kept_ts_enum_member_id (in_option _ refl (λ x. refl)
    (λ x. refl)))))) (λ n. refl) (in_box _ (λ b x. refl) (in_ts_module_decl f _ (λ n a b. refl) kept_ts_module_name (in_option _ refl (λ x.
    refl) (λ x. refl))))) (λ n. refl))))) (λ n. refl)) (λ n. refl) (in_ts_type_ann f _ (λ n a. refl) (in_ts_type f _ (λ n. refl) (λ n. refl)
    (λ n. refl) (in_box _ (λ b x. refl) (in_ts_fn_or_constructor_type f _ (λ n. refl) (in_ts_fn_type f _ (λ n a. refl) (in_option _ refl (λ
    x. refl) (λ x. refl))) (λ n. refl) (in_ts_constructor_type f _ (λ n a. refl) (in_option _ refl (λ x. refl) (λ x. refl))))) (λ n. refl)
    (in_ts_type_ref f _ (λ n a. refl) (in_option _ refl (λ x. refl) (λ x. refl))) (λ n. refl) (in_box _ (λ b x. refl) (in_ts_type_query f _
    (λ n a b. refl) (in_ts_type_query_expr f _ (λ n. refl) (λ n. refl) (in_ts_import_type f _ (λ n a b. refl) (in_option _ refl (λ x. refl)
    (λ x. refl)) (in_option _ refl (λ x. refl) (λ x. refl)))) (in_option _ refl (λ x. refl) (λ x. refl)))) (λ n. refl) (in_ts_type_lit f _
    (λ n a. refl) (in_vec (in_ts_type_element f _ (λ n. refl) (in_ts_call_signature_decl f _ (λ n a b. refl) (in_option _ refl (λ x. refl)
    (λ x. refl)) (in_option _ refl (λ x. refl) (λ x. refl))) (λ n. refl) (in_ts_construct_signature_decl f _ (λ n a b. refl) (in_option _
    refl (λ x. refl) (λ x. refl)) (in_option _ refl (λ x. refl) (λ x. refl))) (λ n. refl) (in_ts_property_signature f _ (λ n a. refl)
    (in_option _ refl (λ x. refl) (λ x. refl))) (λ n. refl) (in_ts_getter_signature f _ (λ n a. refl) (in_option _ refl (λ x. refl) (λ x.
    refl))) (λ n. refl) (λ n. refl) (in_ts_method_signature f _ (λ n a b. refl) (in_option _ refl (λ x. refl) (λ x. refl)) (in_option _ refl
    (λ x. refl) (λ x. refl))) (λ n. refl) (in_ts_index_signature f _ (λ n a. refl) (in_option _ refl (λ x. refl) (λ x. refl)))))) (λ n.
    refl) (λ n. refl) (in_ts_tuple_type f _ (λ n a. refl) (in_vec (in_ts_tuple_element f _ (λ n a. refl) (in_option _ refl (λ x. refl) (λ x.
    refl))))) (λ n. refl) (λ n. refl) (λ n. refl) (in_ts_union_or_intersection_type f _ (λ n. refl) (λ n. refl)) (λ n. refl) (λ n. refl)
    (in_box _ (λ b x. refl) (in_ts_infer_type f _ (λ n a. refl) (in_ts_type_param f _ (λ n a b. refl) (in_option _ refl (λ x. refl) (λ x.
    refl)) (in_option _ refl (λ x. refl) (λ x. refl))))) (λ n. refl) (λ n. refl) (λ n. refl) (λ n. refl) (in_box _ (λ b x. refl)
    (in_ts_mapped_type f _ (λ n a b c. refl) (in_ts_type_param f _ (λ n a b. refl) (in_option _ refl (λ x. refl) (λ x. refl)) (in_option _
    refl (λ x. refl) (λ x. refl))) (in_option _ refl (λ x. refl) (λ x. refl)) (in_option _ refl (λ x. refl) (λ x. refl)))) (λ n. refl)
    (in_box _ (λ b x. refl) (in_ts_lit_type f _ (λ n a. refl) (in_ts_lit f _ (λ n. refl) (λ n. refl) (λ n. refl) (λ n. refl) (λ n. refl))))
    (λ n. refl) (in_box _ (λ b x. refl) (in_ts_type_predicate f _ (λ n a b. refl) kept_ts_this_type_or_ident (in_option _ refl (λ x. refl)
    (λ x. refl)))) (λ n. refl) (in_box _ (λ b x. refl) (in_ts_import_type f _ (λ n a b. refl) (in_option _ refl (λ x. refl) (λ x. refl))
    (in_option _ refl (λ x. refl) (λ x. refl)))))) (λ n. refl) (in_ts_type_param_decl f _ (λ n a. refl) (in_vec (in_ts_type_param f _ (λ n a
    b. refl) (in_option _ refl (λ x. refl) (λ x. refl)) (in_option _ refl (λ x. refl) (λ x. refl))))) (λ n. refl) (λ n. refl)
    (in_ts_fn_param f _ (λ n. refl) (in_binding_ident f _ (λ n a. refl) (in_option _ refl (λ x. refl) (λ x. refl))) (λ n. refl)
    (in_array_pat f _ (λ n a b. refl) (in_vec (in_option _ refl (λ x. refl) (λ x. refl))) (in_option _ refl (λ x. refl) (λ x. refl))) (λ n.
    refl) (in_rest_pat f _ (λ n a. refl) (in_option _ refl (λ x. refl) (λ x. refl))) (λ n. refl) (in_object_pat f _ (λ n a b. refl) (in_vec
    (in_object_pat_prop f _ (λ n. refl) (in_key_value_pat_prop f _ (λ n a. refl) (in_prop_name f _ (λ n. refl) (λ n. refl) (λ n. refl) (λ n.
    refl) (λ n. refl))) (λ n. refl) (in_assign_pat_prop f _ (λ n a b. refl) (in_binding_ident f _ (λ n a. refl) (in_option _ refl (λ x.
    refl) (λ x. refl))) (in_option _ refl (λ x. refl) (λ x. refl))) (λ n. refl) (in_rest_pat f _ (λ n a. refl) (in_option _ refl (λ x. refl)
    (λ x. refl))))) (in_option _ refl (λ x. refl) (λ x. refl)))) (λ n. refl) (in_ts_interface_body f _ (λ n a. refl) (in_vec
    (in_ts_type_element f _ (λ n. refl) (in_ts_call_signature_decl f _ (λ n a b. refl) (in_option _ refl (λ x. refl) (λ x. refl)) (in_option
    _ refl (λ x. refl) (λ x. refl))) (λ n. refl) (in_ts_construct_signature_decl f _ (λ n a b. refl) (in_option _ refl (λ x. refl) (λ x.
    refl)) (in_option _ refl (λ x. refl) (λ x. refl))) (λ n. refl) (in_ts_property_signature f _ (λ n a. refl) (in_option _ refl (λ x. refl)
    (λ x. refl))) (λ n. refl) (in_ts_getter_signature f _ (λ n a. refl) (in_option _ refl (λ x. refl) (λ x. refl))) (λ n. refl) (λ n. refl)
    (in_ts_method_signature f _ (λ n a b. refl) (in_option _ refl (λ x. refl) (λ x. refl)) (in_option _ refl (λ x. refl) (λ x. refl))) (λ n.
    refl) (in_ts_index_signature f _ (λ n a. refl) (in_option _ refl (λ x. refl) (λ x. refl)))))) (λ n. refl) (in_ts_entity_name f _ (λ n.
    refl) (λ n. refl)))

-- The map by cases, with names as they are, is the one that the kit derives.
pub layer_same : {X : Type 0} (f : X → X) (n : AnyNode-F X) → map_layer (λ x. x) f n ≡ map-AnyNode X X f n
layer_same f (nodes.Expr n) = expr_same f n
layer_same f (nodes.Stmt n) = stmt_same f n
layer_same f (nodes.MemberExpr n) = member_expr_same f n
layer_same f (nodes.ExprPart n) = expr_part_same f n
layer_same f (nodes.StmtPart n) = stmt_part_same f n
layer_same f (nodes.JSXPart n) = jsx_part_same f n
layer_same f (nodes.TsPart n) = ts_part_same f n
