-- A program of which no rule is broken is well-formed.
use Rattle.std.proofs.Common.{◌≡◌, ◌∙◌, ℕ, suc, zero, true, false, sym, ap}
use Rattle.std.proofs.lemmas.Bool.{true≢false}
use Rattle.swc_ecma_codegen_tree.specs.declared.exprs.Expr.{Expr}
use Rattle.swc_ecma_codegen_tree.specs.declared.links.AnyNode.{AnyNode}
use Rattle.swc_ecma_codegen_tree.specs.declared.parts.ExprPart.{ExprPart}
use Rattle.swc_ecma_codegen_tree.specs.declared.parts.JSXPart.{JSXPart}
use Rattle.swc_ecma_codegen_tree.specs.declared.parts.StmtPart.{StmtPart}
use Rattle.swc_ecma_codegen_tree.specs.declared.parts.TsPart.{TsPart}
use Rattle.swc_ecma_codegen_tree.specs.declared.ts_decls.TsModuleBlock.{TsModuleBlock}
use Rattle.swc_ecma_codegen_tree.specs.declared.ts_decls.TsNamespaceBody.{TsNamespaceBody}
use Rattle.swc_ecma_codegen_tree.specs.declared.ts_decls.TsNamespaceBody.TheVariants as ts_namespace_bodys
use Rattle.swc_ecma_codegen_tree.specs.declared.exprs.Expr.TheVariants as exprs
use Rattle.swc_ecma_codegen_tree.specs.declared.parts.ExprPart.TheVariants as expr_parts
use Rattle.swc_ecma_codegen_tree.specs.declared.parts.StmtPart.TheVariants as stmt_parts
use Rattle.swc_ecma_codegen_tree.specs.declared.parts.JSXPart.TheVariants as jsx_parts
use Rattle.swc_ecma_codegen_tree.specs.declared.parts.TsPart.TheVariants as ts_parts
use Rattle.swc_ecma_codegen_tree.specs.declared.links.AnyNode.TheOpen as nodes
use Rattle.swc_ecma_codegen_tree.specs.declared.programs.Program.{Program}
use Rattle.swc_ecma_codegen_tree.specs.declared.links.AnyNode.{AnyNode-F, out-AnyNode}
use Rattle.swc_ecma_codegen_grammar.proofs.TreeLaws.{phrase_at}
use Rattle.swc_ecma_codegen_grammar.specs.declared.roles.Role.{Role}
use Rattle.swc_ecma_codegen_grammar.specs.declared.roles.Role.TheVariants.{AccessorTail, Annotation, AnyType, AssignmentTarget, Block, Callee, ChainCall, ChainMember, Child, ClassHead, ClassTail, ClassWord, Declaration, DottedBody, Element, EntityName, ExportedHead, ExportedTail, Expression, FieldValue, Function, FunctionHead, InterfaceBody, Member, MemberExpression, MethodDecorators, MethodHead, MethodTail, ModuleDeclaration, NamespaceBody, ObjectLiteral, Pattern, PropertyName, SignatureParameter, Statement, TagObject, TaggedTemplate, Template, TypeArguments, TypeParameters, VariableDeclaration}
use Rattle.swc_ecma_codegen_grammar.specs.ExprPhrases.{expr}
use Rattle.swc_ecma_codegen_grammar.specs.JsxPhrases.{jsx_part}
use Rattle.swc_ecma_codegen_grammar.specs.NamespacePhrases.{dotted_body, ts_module_block, ts_namespace_body}
use Rattle.swc_ecma_codegen_grammar.specs.PartPhrases.{expr_part, stmt_part, ts_part}
use Rattle.swc_ecma_codegen_grammar.specs.Phrases.{Phrase, is_possible}
use Rattle.swc_ecma_codegen_grammar.specs.StmtPhrases.{module_item}
use Rattle.swc_ecma_codegen_grammar.specs.TreePhrases.{is_well_formed, node_phrase, phrase}
use Rattle.swc_ecma_codegen_validate.specs.TreeRules as rules
use Rattle.swc_ecma_codegen_validate.specs.Rules.{Findings, findings}
use Rattle.swc_ecma_codegen_validate.proofs.Fitting.{Held, each_fits}
use Rattle.swc_ecma_codegen_validate.proofs.FitsNames.{ident_fits, lit_fits, private_name_fits}
use Rattle.swc_ecma_codegen_validate.proofs.FitsPats.{assign_target_fits, pat_fits}
use Rattle.swc_ecma_codegen_validate.proofs.FitsExprs.{array_lit_fits, assign_expr_fits, await_expr_fits, bin_expr_fits, call_expr_fits, cond_expr_fits, member_expr_fits, meta_prop_expr_fits, new_expr_fits, object_lit_fits, opt_call_fits, opt_chain_expr_fits, paren_expr_fits, prop_name_fits, seq_expr_fits, super_prop_expr_fits, tagged_tpl_fits, this_expr_fits, tpl_fits, unary_expr_fits, update_expr_fits, yield_expr_fits}
use Rattle.swc_ecma_codegen_validate.proofs.FitsTs.{ts_as_expr_fits, ts_const_assertion_fits, ts_instantiation_fits, ts_interface_body_fits, ts_non_null_expr_fits, ts_satisfies_expr_fits, ts_type_assertion_fits}
use Rattle.swc_ecma_codegen_validate.proofs.FitsTypes.{ts_entity_name_fits, ts_fn_param_fits, ts_type_ann_fits, ts_type_fits, ts_type_param_decl_fits, ts_type_param_instantiation_fits}
use Rattle.swc_ecma_codegen_validate.proofs.FitsDecls.{accessor_tail_fits, arrow_expr_fits, class_expr_fits, class_fits, class_head_fits, class_member_fits, decl_fits, exported_head_fits, exported_tail_fits, fn_expr_fits, function_fits, method_decorators_fits, method_tail_fits, var_decl_fits}
use Rattle.swc_ecma_codegen_validate.proofs.FitsJsx.{jsx_element_fits, jsx_fragment_fits, jsx_object_fits}
use Rattle.swc_ecma_codegen_validate.proofs.FitsStmts.{block_stmt_fits, module_decl_fits, module_item_fits, program_fits, stmt_fits}
use Rattle.swc_ecma_codegen_validate.proofs.CallsPossible.{callee_possible}
use Rattle.swc_ecma_codegen_validate.proofs.ClassesPossible.{class_word_possible, field_value_possible}
use Rattle.swc_ecma_codegen_validate.proofs.FunctionsPossible.{function_head_possible, method_head_possible}
use Rattle.swc_ecma_codegen_validate.proofs.JsxPossible.{child_element_possible, child_fragment_possible}
use Rattle.swc_ecma_codegen_validate.proofs.Possible.{chain_member_possible}
use Rattle.swc_ecma_codegen_validate.proofs.TsDeclsPossible.{dotted_namespace_possible, module_block_possible}

module _ {X : Type 0} (f : X → Role → Findings) (g : X → Role → Phrase) (held : Held f g) where
  pub expr_fits : (n : Expr X) → (findings f (rules.expr n)).none → is_possible (expr g n) ≡ true
  unfolding findings rules.expr expr is_possible
  expr_fits (exprs.This n) h = simp (this_expr_fits n h)
  expr_fits (exprs.Array n) h = simp (array_lit_fits f g held n h)
  expr_fits (exprs.Object n) h = simp (object_lit_fits f g held n h)
  expr_fits (exprs.Fn n) h = simp (fn_expr_fits f g held n h)
  expr_fits (exprs.Unary n) h = simp (unary_expr_fits f g held n h)
  expr_fits (exprs.Update n) h = simp (update_expr_fits f g held n h)
  expr_fits (exprs.Bin n) h = simp (bin_expr_fits f g held n h)
  expr_fits (exprs.Assign n) h = simp (assign_expr_fits f g held n h)
  expr_fits (exprs.Member n) h = simp (member_expr_fits f g held n h)
  expr_fits (exprs.SuperProp n) h = simp (super_prop_expr_fits f g held n h)
  expr_fits (exprs.Cond n) h = simp (cond_expr_fits f g held n h)
  expr_fits (exprs.Call n) h = simp (call_expr_fits f g held n h)
  expr_fits (exprs.New n) h = simp (new_expr_fits f g held n h)
  expr_fits (exprs.Seq n) h = simp (seq_expr_fits f g held n h)
  expr_fits (exprs.Ident n) h = simp (ident_fits n h)
  expr_fits (exprs.Lit n) h = simp (lit_fits n h)
  expr_fits (exprs.Tpl n) h = simp (held.node n.node.value Template h)
  expr_fits (exprs.TaggedTpl n) h = simp (tagged_tpl_fits f g held n h)
  expr_fits (exprs.Arrow n) h = simp (arrow_expr_fits f g held n.value h)
  expr_fits (exprs.Class n) h = simp (class_expr_fits f g held n h)
  expr_fits (exprs.Yield n) h = simp (yield_expr_fits f g held n h)
  expr_fits (exprs.MetaProp n) h = simp (meta_prop_expr_fits n h)
  expr_fits (exprs.Await n) h = simp (await_expr_fits f g held n h)
  expr_fits (exprs.Paren n) h = simp (paren_expr_fits f g held n h)
  expr_fits (exprs.JSXMember n) h = absurd (true≢false (sym h))
  expr_fits (exprs.JSXNamespacedName n) h = absurd (true≢false (sym h))
  expr_fits (exprs.JSXEmpty n) h = absurd (true≢false (sym h))
  expr_fits (exprs.JSXElement n) h = simp (held.node n.node.value Element h)
  expr_fits (exprs.JSXFragment n) h = simp (held.node n.node.value Element h)
  expr_fits (exprs.TsTypeAssertion n) h = simp (ts_type_assertion_fits f g held n h)
  expr_fits (exprs.TsConstAssertion n) h = simp (ts_const_assertion_fits f g held n h)
  expr_fits (exprs.TsNonNull n) h = simp (ts_non_null_expr_fits f g held n h)
  expr_fits (exprs.TsAs n) h = simp (ts_as_expr_fits f g held n h)
  expr_fits (exprs.TsInstantiation n) h = simp (ts_instantiation_fits f g held n h)
  expr_fits (exprs.TsSatisfies n) h = simp (ts_satisfies_expr_fits f g held n h)
  expr_fits (exprs.PrivateName n) h = simp (private_name_fits n h)
  expr_fits (exprs.OptChain n) h = simp (opt_chain_expr_fits f g held n h)
  expr_fits (exprs.Invalid n) h = absurd (true≢false (sym h))

  pub ts_module_block_fits : (n : TsModuleBlock X) → (findings f (rules.ts_module_block n)).none → is_possible (ts_module_block g n) ≡ true
  unfolding findings rules.ts_module_block
  ts_module_block_fits n h = simp (module_block_possible, each_fits _ (module_item g) _ n.body.items h (module_item_fits f g held))

  pub ts_namespace_body_fits : (n : TsNamespaceBody X) → (findings f (rules.ts_namespace_body n)).none → is_possible (ts_namespace_body g n) ≡ true
  unfolding findings rules.ts_namespace_body ts_namespace_body is_possible
  ts_namespace_body_fits (ts_namespace_bodys.TsModuleBlock n) h = simp (ts_module_block_fits n h)
  ts_namespace_body_fits (ts_namespace_bodys.TsNamespaceDecl n) h = absurd (true≢false (sym h))

  pub dotted_body_fits : (n : TsNamespaceBody X) → (findings f (rules.dotted_body n)).none → is_possible (dotted_body g n) ≡ true
  unfolding findings rules.dotted_body dotted_body
  dotted_body_fits (ts_namespace_bodys.TsModuleBlock n) h = ts_module_block_fits n h
  dotted_body_fits (ts_namespace_bodys.TsNamespaceDecl n) h = simp (dotted_namespace_possible g n, h.0, ident_fits n.id h.1.0, held.node n.body.node.value DottedBody h.1.1)

  pub expr_part_fits : (n : ExprPart X) (role : Role) → (findings f (rules.expr_part n role)).none → is_possible (expr_part g n role) ≡ true
  unfolding findings rules.expr_part expr_part
  expr_part_fits (expr_parts.Pat n) Pattern h = pat_fits f g held n h
  expr_part_fits (expr_parts.Tpl n) Template h = tpl_fits f g held false n h
  expr_part_fits (expr_parts.Tpl n) TaggedTemplate h = tpl_fits f g held true n h
  expr_part_fits (expr_parts.ObjectLit n) ObjectLiteral h = object_lit_fits f g held n h
  expr_part_fits (expr_parts.PropName n) PropertyName h = prop_name_fits f g held n h
  expr_part_fits (expr_parts.OptCall n) (ChainCall optional) h = opt_call_fits f g held optional n h
  expr_part_fits (expr_parts.AssignTarget n) AssignmentTarget h = assign_target_fits f g held n h
  expr_part_fits n role h = absurd (true≢false (sym h))

  pub stmt_part_fits : (n : StmtPart X) (role : Role) → (findings f (rules.stmt_part n role)).none → is_possible (stmt_part g n role) ≡ true
  unfolding findings rules.stmt_part stmt_part
  stmt_part_fits (stmt_parts.Function n) Function h = function_fits f g held n.value h
  stmt_part_fits (stmt_parts.Function n) FunctionHead h = function_head_possible n.value
  stmt_part_fits (stmt_parts.Function n) MethodHead h = method_head_possible n.value
  stmt_part_fits (stmt_parts.Function n) MethodDecorators h = method_decorators_fits f g held n.value h
  stmt_part_fits (stmt_parts.Function n) MethodTail h = method_tail_fits f g held n.value h
  stmt_part_fits (stmt_parts.Function n) AccessorTail h = accessor_tail_fits f g held n.value h
  stmt_part_fits (stmt_parts.Class n) ClassHead h = class_head_fits f g held n.value h
  stmt_part_fits (stmt_parts.Class n) ClassWord h = class_word_possible n.value
  stmt_part_fits (stmt_parts.Class n) ClassTail h = class_fits f g held n.value h
  stmt_part_fits (stmt_parts.ClassMember n) Member h = class_member_fits f g held n.value h
  stmt_part_fits (stmt_parts.BlockStmt n) Block h = block_stmt_fits f g held n h
  stmt_part_fits (stmt_parts.Decl n) Declaration h = decl_fits f g held n h
  stmt_part_fits (stmt_parts.Decl n) ExportedHead h = exported_head_fits f g held n h
  stmt_part_fits (stmt_parts.Decl n) ExportedTail h = exported_tail_fits f g held n h
  stmt_part_fits (stmt_parts.ModuleDecl n) ModuleDeclaration h = module_decl_fits f g held n.value h
  stmt_part_fits (stmt_parts.VarDecl n) VariableDeclaration h = var_decl_fits f g held n h
  stmt_part_fits n role h = absurd (true≢false (sym h))

  pub jsx_part_fits : (n : JSXPart X) (role : Role) → (findings f (rules.jsx_part n role)).none → is_possible (jsx_part g n role) ≡ true
  unfolding findings rules.jsx_part jsx_part
  jsx_part_fits (jsx_parts.JSXElement n) Element h = jsx_element_fits f g held n.value h
  jsx_part_fits (jsx_parts.JSXElement n) Child h = child_element_possible g true n.value ∙ jsx_element_fits f g held n.value h
  jsx_part_fits (jsx_parts.JSXFragment n) Element h = jsx_fragment_fits f g held n h
  jsx_part_fits (jsx_parts.JSXFragment n) Child h = child_fragment_possible g true n ∙ jsx_fragment_fits f g held n h
  jsx_part_fits (jsx_parts.JSXObject n) TagObject h = jsx_object_fits f g held n h
  jsx_part_fits n role h = absurd (true≢false (sym h))

  pub ts_part_fits : (n : TsPart X) (role : Role) → (findings f (rules.ts_part n role)).none → is_possible (ts_part g n role) ≡ true
  unfolding findings rules.ts_part ts_part
  ts_part_fits (ts_parts.TsType n) AnyType h = ts_type_fits f g held n h
  ts_part_fits (ts_parts.TsTypeAnn n) Annotation h = ts_type_ann_fits f g held n h
  ts_part_fits (ts_parts.TsTypeParamDecl n) TypeParameters h = ts_type_param_decl_fits f g held n h
  ts_part_fits (ts_parts.TsTypeParamInstantiation n) TypeArguments h = ts_type_param_instantiation_fits f g held n h
  ts_part_fits (ts_parts.TsFnParam n) SignatureParameter h = ts_fn_param_fits f g held n h
  ts_part_fits (ts_parts.TsInterfaceBody n) InterfaceBody h = ts_interface_body_fits f g held n h
  ts_part_fits (ts_parts.TsEntityName n) EntityName h = ts_entity_name_fits f g held n h
  ts_part_fits (ts_parts.TsNamespaceBody n) NamespaceBody h = ts_namespace_body_fits n h
  ts_part_fits (ts_parts.TsNamespaceBody n) DottedBody h = dotted_body_fits n h
  ts_part_fits n role h = absurd (true≢false (sym h))

  pub node_fits : (n : AnyNode-F X) (role : Role) → (findings f (rules.node n role)).none → is_possible (node_phrase g n role) ≡ true
  unfolding findings rules.node rules.expr_in_role rules.stmt_in_role rules.member_in_role node_phrase
  node_fits (nodes.Expr n) Expression h = expr_fits n h
  node_fits (nodes.Expr n) Callee h = callee_possible g n ∙ expr_fits n h
  node_fits (nodes.Expr n) FieldValue h = field_value_possible g n ∙ expr_fits n h
  node_fits (nodes.Stmt n) Statement h = stmt_fits f g held n h
  node_fits (nodes.MemberExpr n) MemberExpression h = member_expr_fits f g held n h
  node_fits (nodes.MemberExpr n) (ChainMember optional) h = chain_member_possible g optional n ∙ member_expr_fits f g held n h
  node_fits (nodes.ExprPart n) role h = expr_part_fits n role h
  node_fits (nodes.StmtPart n) role h = stmt_part_fits n role h
  node_fits (nodes.JSXPart n) role h = jsx_part_fits n role h
  node_fits (nodes.TsPart n) role h = ts_part_fits n role h
  node_fits n role h = absurd (true≢false (sym h))

-- ---- the other roles of what a link holds: a function, a class and an expression, and nothing else, stand in these

-- what stands in none of them
record NoneOf (reads : Role → Phrase) : Type 0 where
  pub function : is_possible (reads Function) ≡ true → ⊥
  pub decorators : is_possible (reads MethodDecorators) ≡ true → ⊥
  pub tail : is_possible (reads ClassTail) ≡ true → ⊥
  pub expression : is_possible (reads Expression) ≡ true → ⊥

no : false ≡ true → ⊥
no h = true≢false (sym h)

module _ {X : Type 0} (g : X → Role → Phrase) where
  no_expr_part : (n : ExprPart X) → NoneOf (expr_part g n)
  unfolding expr_part is_possible
  no_expr_part (expr_parts.Pat n) = record { function = no; decorators = no; tail = no; expression = no }
  no_expr_part (expr_parts.Tpl n) = record { function = no; decorators = no; tail = no; expression = no }
  no_expr_part (expr_parts.ObjectLit n) = record { function = no; decorators = no; tail = no; expression = no }
  no_expr_part (expr_parts.PropName n) = record { function = no; decorators = no; tail = no; expression = no }
  no_expr_part (expr_parts.OptCall n) = record { function = no; decorators = no; tail = no; expression = no }
  no_expr_part (expr_parts.AssignTarget n) = record { function = no; decorators = no; tail = no; expression = no }

  no_jsx_part : (n : JSXPart X) → NoneOf (jsx_part g n)
  unfolding jsx_part is_possible
  no_jsx_part (jsx_parts.JSXElement n) = record { function = no; decorators = no; tail = no; expression = no }
  no_jsx_part (jsx_parts.JSXFragment n) = record { function = no; decorators = no; tail = no; expression = no }
  no_jsx_part (jsx_parts.JSXObject n) = record { function = no; decorators = no; tail = no; expression = no }

  no_ts_part : (n : TsPart X) → NoneOf (ts_part g n)
  unfolding ts_part is_possible
  no_ts_part (ts_parts.TsType n) = record { function = no; decorators = no; tail = no; expression = no }
  no_ts_part (ts_parts.TsNamespaceBody n) = record { function = no; decorators = no; tail = no; expression = no }
  no_ts_part (ts_parts.TsTypeAnn n) = record { function = no; decorators = no; tail = no; expression = no }
  no_ts_part (ts_parts.TsTypeParamDecl n) = record { function = no; decorators = no; tail = no; expression = no }
  no_ts_part (ts_parts.TsTypeParamInstantiation n) = record { function = no; decorators = no; tail = no; expression = no }
  no_ts_part (ts_parts.TsFnParam n) = record { function = no; decorators = no; tail = no; expression = no }
  no_ts_part (ts_parts.TsInterfaceBody n) = record { function = no; decorators = no; tail = no; expression = no }
  no_ts_part (ts_parts.TsEntityName n) = record { function = no; decorators = no; tail = no; expression = no }

  function_head : (n : AnyNode-F X) → is_possible (node_phrase g n Function) ≡ true → is_possible (node_phrase g n FunctionHead) ≡ true
  unfolding node_phrase is_possible stmt_part
  function_head (nodes.StmtPart (stmt_parts.Function n)) h = function_head_possible n.value
  function_head (nodes.ExprPart n) h = absurd ((no_expr_part n).function h)
  function_head (nodes.JSXPart n) h = absurd ((no_jsx_part n).function h)
  function_head (nodes.TsPart n) h = absurd ((no_ts_part n).function h)
  function_head n h = absurd (no h)

  method_head : (n : AnyNode-F X) → is_possible (node_phrase g n Function) ≡ true → is_possible (node_phrase g n MethodHead) ≡ true
  unfolding node_phrase is_possible stmt_part
  method_head (nodes.StmtPart (stmt_parts.Function n)) h = method_head_possible n.value
  method_head (nodes.ExprPart n) h = absurd ((no_expr_part n).function h)
  method_head (nodes.JSXPart n) h = absurd ((no_jsx_part n).function h)
  method_head (nodes.TsPart n) h = absurd ((no_ts_part n).function h)
  method_head n h = absurd (no h)

  member_head : (n : AnyNode-F X) → is_possible (node_phrase g n MethodDecorators) ≡ true → is_possible (node_phrase g n MethodHead) ≡ true
  unfolding node_phrase is_possible stmt_part
  member_head (nodes.StmtPart (stmt_parts.Function n)) h = method_head_possible n.value
  member_head (nodes.ExprPart n) h = absurd ((no_expr_part n).decorators h)
  member_head (nodes.JSXPart n) h = absurd ((no_jsx_part n).decorators h)
  member_head (nodes.TsPart n) h = absurd ((no_ts_part n).decorators h)
  member_head n h = absurd (no h)

  class_word : (n : AnyNode-F X) → is_possible (node_phrase g n ClassTail) ≡ true → is_possible (node_phrase g n ClassWord) ≡ true
  unfolding node_phrase is_possible stmt_part
  class_word (nodes.StmtPart (stmt_parts.Class n)) h = class_word_possible n.value
  class_word (nodes.ExprPart n) h = absurd ((no_expr_part n).tail h)
  class_word (nodes.JSXPart n) h = absurd ((no_jsx_part n).tail h)
  class_word (nodes.TsPart n) h = absurd ((no_ts_part n).tail h)
  class_word n h = absurd (no h)

  field_value : (n : AnyNode-F X) → is_possible (node_phrase g n Expression) ≡ true → is_possible (node_phrase g n FieldValue) ≡ true
  unfolding node_phrase is_possible stmt_part
  field_value (nodes.Expr n) h = field_value_possible g n ∙ h
  field_value (nodes.ExprPart n) h = absurd ((no_expr_part n).expression h)
  field_value (nodes.JSXPart n) h = absurd ((no_jsx_part n).expression h)
  field_value (nodes.TsPart n) h = absurd ((no_ts_part n).expression h)
  field_value (nodes.StmtPart (stmt_parts.Function n)) h = absurd (no h)
  field_value (nodes.StmtPart (stmt_parts.Class n)) h = absurd (no h)
  field_value (nodes.StmtPart (stmt_parts.BlockStmt n)) h = absurd (no h)
  field_value (nodes.StmtPart (stmt_parts.Decl n)) h = absurd (no h)
  field_value (nodes.StmtPart (stmt_parts.ModuleDecl n)) h = absurd (no h)
  field_value (nodes.StmtPart (stmt_parts.VarDecl n)) h = absurd (no h)
  field_value (nodes.StmtPart (stmt_parts.ClassMember n)) h = absurd (no h)
  field_value n h = absurd (no h)

-- ---- whole trees

-- a fact of what a node is read as in one role, from another
from : (to other : Role) → ((n : AnyNode-F AnyNode) → is_possible (node_phrase phrase n to) ≡ true → is_possible (node_phrase phrase n other) ≡ true) → (n : AnyNode) → is_possible (phrase n to) ≡ true → is_possible (phrase n other) ≡ true
from to other fact n h = ap is_possible (phrase_at n other) ∙ fact (out-AnyNode n) (sym (ap is_possible (phrase_at n to)) ∙ h)

held_by : (find : AnyNode → Role → Findings) → ((n : AnyNode) (role : Role) → (find n role).none → is_possible (phrase n role) ≡ true) → Held find phrase
held_by find node = record {
  node = node;
  function_head = λ n h. from Function FunctionHead (function_head phrase) n (node n Function h);
  method_head = λ n h. from Function MethodHead (method_head phrase) n (node n Function h);
  member_head = λ n h. from MethodDecorators MethodHead (member_head phrase) n (node n MethodDecorators h);
  class_word = λ n h. from ClassTail ClassWord (class_word phrase) n (node n ClassTail h);
  field_value = λ n h. from Expression FieldValue (field_value phrase) n (node n Expression h);
}

within_fits : (k : ℕ) (n : AnyNode) (role : Role) → (rules.found_within k n role).none → is_possible (phrase n role) ≡ true
unfolding rules.found_within
within_fits zero n role h = absurd h
within_fits (suc k) n role h = ap is_possible (phrase_at n role) ∙ node_fits (rules.found_within k) phrase (held_by (rules.found_within k) (within_fits k)) (out-AnyNode n) role h

tree_fits : (n : AnyNode) (role : Role) → (rules.found_in n role).none → is_possible (phrase n role) ≡ true
unfolding rules.found_in
tree_fits n role h = within_fits h.0 n role h.1

-- A program in which no rule is broken is well-formed.
pub program_is_well_formed : (p : Program AnyNode) → (rules.found_in_program p).none → is_well_formed p ≡ true
unfolding rules.found_in_program
program_is_well_formed p h = program_fits rules.found_in phrase (held_by rules.found_in tree_fits) p h
