-- The same of declarations, functions and classes.
use Rattle.std.proofs.Common.{◌≡◌, ◌||◌, ◌∙◌, Bool, true, false, not, Option, Some, None, refl, sym}
use Rattle.std.proofs.lemmas.Bool.{and_parts, true≢false}
use Rattle.std.specs.Option.{is_some, is_none}
use Rattle.swc_ecma_codegen_tree.specs.declared.classes.AutoAccessor.{AutoAccessor}
use Rattle.swc_ecma_codegen_tree.specs.declared.classes.Class.{Class}
use Rattle.swc_ecma_codegen_tree.specs.declared.classes.ClassMember.{ClassMember}
use Rattle.swc_ecma_codegen_tree.specs.declared.classes.ClassMethod.{ClassMethod}
use Rattle.swc_ecma_codegen_tree.specs.declared.classes.ClassProp.{ClassProp}
use Rattle.swc_ecma_codegen_tree.specs.declared.classes.Constructor.{Constructor}
use Rattle.swc_ecma_codegen_tree.specs.declared.classes.Key.{Key}
use Rattle.swc_ecma_codegen_tree.specs.declared.classes.MethodKind.{MethodKind}
use Rattle.swc_ecma_codegen_tree.specs.declared.classes.ParamOrTsParamProp.{ParamOrTsParamProp}
use Rattle.swc_ecma_codegen_tree.specs.declared.classes.PrivateMethod.{PrivateMethod}
use Rattle.swc_ecma_codegen_tree.specs.declared.classes.PrivateProp.{PrivateProp}
use Rattle.swc_ecma_codegen_tree.specs.declared.classes.StaticBlock.{StaticBlock}
use Rattle.swc_ecma_codegen_tree.specs.declared.classes.TsParamProp.{TsParamProp}
use Rattle.swc_ecma_codegen_tree.specs.declared.classes.TsParamPropParam.{TsParamPropParam}
use Rattle.swc_ecma_codegen_tree.specs.declared.decls.ClassDecl.{ClassDecl}
use Rattle.swc_ecma_codegen_tree.specs.declared.decls.Decl.{Decl}
use Rattle.swc_ecma_codegen_tree.specs.declared.decls.Decorator.{Decorator}
use Rattle.swc_ecma_codegen_tree.specs.declared.decls.FnDecl.{FnDecl}
use Rattle.swc_ecma_codegen_tree.specs.declared.decls.Function.{Function}
use Rattle.swc_ecma_codegen_tree.specs.declared.decls.Param.{Param}
use Rattle.swc_ecma_codegen_tree.specs.declared.decls.UsingDecl.{UsingDecl}
use Rattle.swc_ecma_codegen_tree.specs.declared.decls.VarDecl.{VarDecl}
use Rattle.swc_ecma_codegen_tree.specs.declared.decls.VarDeclarator.{VarDeclarator}
use Rattle.swc_ecma_codegen_tree.specs.declared.exprs.ArrowExpr.{ArrowExpr}
use Rattle.swc_ecma_codegen_tree.specs.declared.exprs.BlockStmtOrExpr.{BlockStmtOrExpr}
use Rattle.swc_ecma_codegen_tree.specs.declared.exprs.ClassExpr.{ClassExpr}
use Rattle.swc_ecma_codegen_tree.specs.declared.exprs.FnExpr.{FnExpr}
use Rattle.swc_ecma_codegen_tree.specs.declared.pats.Pat.{Pat}
use Rattle.swc_ecma_codegen_tree.specs.declared.decls.Decl.TheVariants as decls
use Rattle.swc_ecma_codegen_tree.specs.declared.exprs.BlockStmtOrExpr.TheVariants as block_stmt_or_exprs
use Rattle.swc_ecma_codegen_tree.specs.declared.pats.Pat.TheVariants as pats
use Rattle.swc_ecma_codegen_tree.specs.declared.classes.ClassMember.TheVariants as class_members
use Rattle.swc_ecma_codegen_tree.specs.declared.classes.ParamOrTsParamProp.TheVariants as param_or_ts_param_props
use Rattle.swc_ecma_codegen_tree.specs.declared.classes.TsParamPropParam.TheVariants as ts_param_prop_params
use Rattle.swc_ecma_codegen_tree.specs.declared.classes.MethodKind.TheVariants as method_kinds
use Rattle.swc_ecma_codegen_tree.specs.declared.classes.Key.TheVariants as keys
use Rattle.swc_ecma_codegen_tree.specs.Links.{ExprBox, FunctionBox, TsTypeAnnBox, TsTypeParamInstantiationBox}
use Rattle.swc_ecma_codegen_grammar.specs.declared.roles.Role.{Role}
use Rattle.swc_ecma_codegen_grammar.specs.declared.roles.Role.TheVariants.{AccessorTail, Annotation, Block, ClassHead, ClassTail, Expression, Member, MethodDecorators, MethodTail, Pattern, PropertyName, TypeArguments, TypeParameters}
use Rattle.swc_ecma_codegen_grammar.specs.declared.roles.Role.TheVariants as roles
use Rattle.swc_ecma_codegen_grammar.specs.AnnotationPhrases.{field_annotation}
use Rattle.swc_ecma_codegen_grammar.specs.ClassPhrases.{accessor_key, accessor_tail, auto_accessor, class_constructor, class_decl, class_expr, class_head, class_member, class_method, class_prop, class_tail, constructor_param, heritage, kind_head, method_decorators, method_tail, private_method, private_prop, static_block, tail_role, ts_param_prop, ts_param_prop_param}
use Rattle.swc_ecma_codegen_grammar.specs.DeclPhrases.{decl, declared_pat, fn_decl, using_decl, var_decl, var_declarator}
use Rattle.swc_ecma_codegen_grammar.specs.FunctionPhrases.{arrow_body, arrow_expr, decorator, fn_expr, function, param}
use Rattle.swc_ecma_codegen_grammar.specs.ModulePhrases.{exported_head, exported_tail}
use Rattle.swc_ecma_codegen_grammar.specs.PatPhrases.{pat}
use Rattle.swc_ecma_codegen_grammar.specs.Phrases.{Phrase, is_possible}
use Rattle.swc_ecma_codegen_grammar.specs.TsDeclPhrases.{ts_expr_with_type_args}
use Rattle.swc_ecma_codegen_validate.specs.DeclRules as rules
use Rattle.swc_ecma_codegen_validate.specs.Rules.{Findings, findings, in_some}
use Rattle.swc_ecma_codegen_validate.proofs.Fitting.{Held, each_fits, some_fits, initializer_fits, function_body_fits, prop_value_fits}
use Rattle.swc_ecma_codegen_validate.proofs.FitsNames.{binding_ident_fits, ident_fits, optional_name_fits, private_name_fits}
use Rattle.swc_ecma_codegen_validate.proofs.FitsPats.{assign_pat_fits, pat_fits}
use Rattle.swc_ecma_codegen_validate.proofs.FitsTs.{ts_enum_decl_fits, ts_expr_with_type_args_fits, ts_index_signature_fits, ts_interface_decl_fits, ts_module_decl_fits, ts_type_alias_decl_fits}
use Rattle.swc_ecma_codegen_validate.proofs.Annotations.{field_none_possible, field_some_possible}
use Rattle.swc_ecma_codegen_validate.proofs.ClassesPossible.{accessor_possible, accessor_tail_possible, class_decl_possible, class_head_possible, class_tail_possible, constructor_possible, method_decorators_possible, method_possible, method_tail_possible, none_extended, one_extended, param_prop_possible, private_method_possible, private_prop_possible, prop_possible}
use Rattle.swc_ecma_codegen_validate.proofs.DeclsPossible.{declarators_possible, definite_ident_possible, fn_decl_possible, using_decl_possible, var_decl_possible}
use Rattle.swc_ecma_codegen_validate.proofs.FunctionsPossible.{arrow_possible, function_possible}
use Rattle.swc_ecma_codegen_validate.proofs.Lists.{in_order_possible}
use Rattle.swc_ecma_codegen_validate.proofs.ModulesPossible.{exported_class_possible}

module _ {X : Type 0} (f : X → Role → Findings) (g : X → Role → Phrase) (held : Held f g) where
  pub decorator_fits : (n : Decorator X) → (findings f (rules.decorator n)).none → is_possible (decorator g n) ≡ true
  unfolding findings rules.decorator decorator is_possible
  decorator_fits n h = simp (held.node n.expr.node.value Expression h)

  pub param_fits : (n : Param X) → (findings f (rules.param n)).none → is_possible (param g n) ≡ true
  unfolding findings rules.param param is_possible
  param_fits n h = simp (in_order_possible, each_fits _ (decorator g) _ n.decorators.items h.0 decorator_fits, pat_fits f g held n.pat h.1)

  pub function_fits : (n : Function X) → (findings f (rules.function n)).none → is_possible (function g n) ≡ true
  unfolding findings rules.function
  function_fits n h = simp (function_possible, h.0, some_fits _ _ n.type_params h.1.0 (λ x. held.node x.node.value TypeParameters), each_fits _ (param g) _ n.params.items h.1.1.0 param_fits, some_fits _ _ n.return_type h.1.1.1.0 (λ x. held.node x.node.value Annotation), function_body_fits f g held n.body h.1.1.1.1)

  pub fn_expr_fits : (n : FnExpr X) → (findings f (rules.fn_expr n)).none → is_possible (fn_expr g n) ≡ true
  unfolding findings rules.fn_expr fn_expr is_possible
  fn_expr_fits n h = simp (held.function_head n.function.node.value h.1, optional_name_fits n.ident h.0, held.node n.function.node.value roles.Function h.1)

  pub block_stmt_or_expr_fits : (n : BlockStmtOrExpr X) → (findings f (rules.block_stmt_or_expr n)).none → is_possible (arrow_body g n) ≡ true
  unfolding findings rules.block_stmt_or_expr arrow_body
  block_stmt_or_expr_fits (block_stmt_or_exprs.BlockStmt n) h = simp (held.node n.node.value Block h)
  block_stmt_or_expr_fits (block_stmt_or_exprs.Expr n) h = simp (held.node n.node.value Expression h)

  pub arrow_expr_fits : (n : ArrowExpr X) → (findings f (rules.arrow_expr n)).none → is_possible (arrow_expr g n) ≡ true
  unfolding findings rules.arrow_expr
  arrow_expr_fits n h = simp (arrow_possible, some_fits _ _ n.type_params h.0 (λ x. held.node x.node.value TypeParameters), each_fits _ _ _ n.params.items h.1.0 (λ x. held.node x.node.value Pattern), some_fits _ _ n.return_type h.1.1.0 (λ x. held.node x.node.value Annotation), block_stmt_or_expr_fits n.body h.1.1.1)

  pub fn_decl_fits : (n : FnDecl X) → (findings f (rules.fn_decl n)).none → is_possible (fn_decl g n) ≡ true
  unfolding findings rules.fn_decl
  fn_decl_fits n h = simp (fn_decl_possible, held.function_head n.function.node.value h.1, ident_fits n.ident h.0, held.node n.function.node.value roles.Function h.1)

  declared_fits : (definite : Bool) (n : Pat X) → (not definite || rules.is_name_alone n) ≡ true → is_possible (pat g n) ≡ true → is_possible (declared_pat g definite n) ≡ true
  unfolding declared_pat pat rules.is_name_alone
  declared_fits false n h q = q
  declared_fits true (pats.Ident n) h q = definite_ident_possible g n ∙ q
  declared_fits true n h q = absurd (true≢false (sym h))

  pub var_declarator_fits : (n : VarDeclarator X) → (findings f (rules.var_declarator n)).none → is_possible (var_declarator g n) ≡ true
  unfolding findings rules.var_declarator var_declarator is_possible
  var_declarator_fits n h = simp (declared_fits n.definite n.name h.0 (pat_fits f g held n.name h.1.0), initializer_fits f g held n.init h.1.1)

  pub var_decl_fits : (n : VarDecl X) → (findings f (rules.var_decl n)).none → is_possible (var_decl g n) ≡ true
  unfolding findings rules.var_decl
  var_decl_fits n h = simp (var_decl_possible, declarators_possible, h.0, each_fits _ (var_declarator g) _ n.decls.items h.1 var_declarator_fits)

  pub using_decl_fits : (n : UsingDecl X) → (findings f (rules.using_decl n)).none → is_possible (using_decl g n) ≡ true
  unfolding findings rules.using_decl
  using_decl_fits n h = simp (using_decl_possible, declarators_possible, h.0, each_fits _ (var_declarator g) _ n.decls.items h.1 var_declarator_fits)

  pub class_decl_fits : (n : ClassDecl X) → (findings f (rules.class_decl n)).none → is_possible (class_decl g n) ≡ true
  unfolding findings rules.class_decl
  class_decl_fits n h = simp (class_decl_possible, held.node n.class.node.value ClassHead h.0, held.class_word n.class.node.value h.1.1, ident_fits n.ident h.1.0, held.node n.class.node.value ClassTail h.1.1)

  pub decl_fits : (n : Decl X) → (findings f (rules.decl n)).none → is_possible (decl g n) ≡ true
  unfolding findings rules.decl decl is_possible
  decl_fits (decls.Class n) h = simp (class_decl_fits n h)
  decl_fits (decls.Fn n) h = simp (fn_decl_fits n h)
  decl_fits (decls.Var n) h = simp (var_decl_fits n h)
  decl_fits (decls.Using n) h = simp (using_decl_fits n h)
  decl_fits (decls.TsInterface n) h = simp (ts_interface_decl_fits f g held n.value h)
  decl_fits (decls.TsTypeAlias n) h = simp (ts_type_alias_decl_fits f g held n.value h)
  decl_fits (decls.TsEnum n) h = simp (ts_enum_decl_fits f g held n.value h)
  decl_fits (decls.TsModule n) h = simp (ts_module_decl_fits f g held n.value h)

  heritage_fits : (o : Option (ExprBox X)) (args : Option (TsTypeParamInstantiationBox X)) → (is_some o || is_none args) ≡ true → (in_some {A = ExprBox X} (λ x. f x.node.value Expression) o).none → (in_some {A = TsTypeParamInstantiationBox X} (λ x. f x.node.value TypeArguments) args).none → is_possible (heritage g o args) ≡ true
  unfolding in_some
  heritage_fits None args e p q = none_extended g args ∙ e
  heritage_fits (Some n) args e p q = simp (one_extended g n args, held.node n.node.value Expression p, some_fits _ _ args q (λ x. held.node x.node.value TypeArguments))

  pub class_fits : (n : Class X) → (findings f (rules.class n)).none → is_possible (class_tail g n) ≡ true
  unfolding findings rules.class
  class_fits n h = simp (class_tail_possible, some_fits _ _ n.type_params h.1.0 (λ x. held.node x.node.value TypeParameters), heritage_fits n.super_class n.super_type_params h.0 h.1.1.0 h.1.1.1.0, each_fits _ (ts_expr_with_type_args g) _ n.implements.items h.1.1.1.1.0 (ts_expr_with_type_args_fits f g held), each_fits _ _ _ n.body.items h.1.1.1.1.1 (λ x. held.node x.node.value Member))

  pub class_expr_fits : (n : ClassExpr X) → (findings f (rules.class_expr n)).none → is_possible (class_expr g n) ≡ true
  unfolding findings rules.class_expr class_expr is_possible
  class_expr_fits n h = simp (held.node n.class.node.value ClassHead h.0, held.class_word n.class.node.value h.1.1, optional_name_fits n.ident h.1.0, held.node n.class.node.value ClassTail h.1.1)

  pub ts_param_prop_param_fits : (n : TsParamPropParam X) → (findings f (rules.ts_param_prop_param n)).none → is_possible (ts_param_prop_param g n) ≡ true
  unfolding findings rules.ts_param_prop_param ts_param_prop_param
  ts_param_prop_param_fits (ts_param_prop_params.Ident n) h = simp (binding_ident_fits f g held n h)
  ts_param_prop_param_fits (ts_param_prop_params.Assign n) h = simp (assign_pat_fits f g held n h)

  pub ts_param_prop_fits : (n : TsParamProp X) → (findings f (rules.ts_param_prop n)).none → is_possible (ts_param_prop g n) ≡ true
  unfolding findings rules.ts_param_prop
  ts_param_prop_fits n h = simp (param_prop_possible, each_fits _ (decorator g) _ n.decorators.items h.0 decorator_fits, ts_param_prop_param_fits n.param h.1)

  pub param_or_ts_param_prop_fits : (n : ParamOrTsParamProp X) → (findings f (rules.param_or_ts_param_prop n)).none → is_possible (constructor_param g n) ≡ true
  unfolding findings rules.param_or_ts_param_prop constructor_param is_possible
  param_or_ts_param_prop_fits (param_or_ts_param_props.TsParamProp n) h = simp (ts_param_prop_fits n h)
  param_or_ts_param_prop_fits (param_or_ts_param_props.Param n) h = simp (param_fits n h)

  pub constructor_fits : (n : Constructor X) → (findings f (rules.constructor n)).none → is_possible (class_constructor g n) ≡ true
  unfolding findings rules.constructor
  constructor_fits n h = simp (constructor_possible, each_fits _ (constructor_param g) _ n.params.items h.0 param_or_ts_param_prop_fits, function_body_fits f g held n.body h.1)

  tail_fits : (kind : MethodKind) (x : X) → (f x (rules.tail_role kind)).none → is_possible (g x (tail_role kind)) ≡ true
  unfolding rules.tail_role tail_role
  tail_fits method_kinds.Method x h = held.node x MethodTail h
  tail_fits method_kinds.Getter x h = held.node x AccessorTail h
  tail_fits method_kinds.Setter x h = held.node x AccessorTail h

  kind_head_fits : (kind : MethodKind) (n : FunctionBox X) → (f n.node.value MethodDecorators).none → is_possible (kind_head g kind n) ≡ true
  unfolding kind_head is_possible
  kind_head_fits method_kinds.Method n h = held.member_head n.node.value h
  kind_head_fits method_kinds.Getter n h = refl
  kind_head_fits method_kinds.Setter n h = refl

  pub class_method_fits : (n : ClassMethod X) → (findings f (rules.class_method n)).none → is_possible (class_method g n) ≡ true
  unfolding findings rules.class_method
  class_method_fits n h = simp (method_possible, held.node n.function.node.value MethodDecorators h.0, kind_head_fits n.kind n.function h.0, held.node n.key.node.value PropertyName h.1.0, tail_fits n.kind n.function.node.value h.1.1)

  pub private_method_fits : (n : PrivateMethod X) → (findings f (rules.private_method n)).none → is_possible (private_method g n) ≡ true
  unfolding findings rules.private_method
  private_method_fits n h = simp (private_method_possible, held.node n.function.node.value MethodDecorators h.0, kind_head_fits n.kind n.function h.0, private_name_fits n.key h.1.0, tail_fits n.kind n.function.node.value h.1.1)

  field_fits : (definite : Bool) (o : Option (TsTypeAnnBox X)) → (not definite || is_some o) ≡ true → (in_some {A = TsTypeAnnBox X} (λ x. f x.node.value Annotation) o).none → is_possible (field_annotation g definite o) ≡ true
  unfolding in_some
  field_fits true None e h = absurd (true≢false (sym e))
  field_fits false None e h = field_none_possible g false
  field_fits definite (Some n) e h = field_some_possible g definite n ∙ held.node n.node.value Annotation h

  pub class_prop_fits : (n : ClassProp X) → (findings f (rules.class_prop n)).none → is_possible (class_prop g n) ≡ true
  unfolding findings rules.class_prop
  class_prop_fits n h = simp (prop_possible, each_fits _ (decorator g) _ n.decorators.items h.1.0 decorator_fits, held.node n.key.node.value PropertyName h.1.1.0, field_fits n.definite n.type_ann h.0 h.1.1.1.0, prop_value_fits f g held n.value h.1.1.1.1)

  pub private_prop_fits : (n : PrivateProp X) → (findings f (rules.private_prop n)).none → is_possible (private_prop g n) ≡ true
  unfolding findings rules.private_prop
  private_prop_fits n h = simp (private_prop_possible, each_fits _ (decorator g) _ n.decorators.items h.1.0 decorator_fits, private_name_fits n.key h.1.1.0, field_fits n.definite n.type_ann h.0 h.1.1.1.0, prop_value_fits f g held n.value h.1.1.1.1)

  pub key_fits : (n : Key X) → (findings f (rules.key n)).none → is_possible (accessor_key g n) ≡ true
  unfolding findings rules.key accessor_key is_possible
  key_fits (keys.Private n) h = simp (private_name_fits n h)
  key_fits (keys.Public n) h = simp (held.node n.node.value PropertyName h)

  pub auto_accessor_fits : (n : AutoAccessor X) → (findings f (rules.auto_accessor n)).none → is_possible (auto_accessor g n) ≡ true
  unfolding findings rules.auto_accessor
  auto_accessor_fits n h = simp (accessor_possible, each_fits _ (decorator g) _ n.decorators.items h.1.0 decorator_fits, key_fits n.key h.1.1.0, field_fits n.definite n.type_ann h.0 h.1.1.1.0, initializer_fits f g held n.value h.1.1.1.1)

  pub static_block_fits : (n : StaticBlock X) → (findings f (rules.static_block n)).none → is_possible (static_block g n) ≡ true
  unfolding findings rules.static_block static_block is_possible
  static_block_fits n h = simp (held.node n.body.node.value Block h)

  pub class_member_fits : (n : ClassMember X) → (findings f (rules.class_member n)).none → is_possible (class_member g n) ≡ true
  unfolding findings rules.class_member class_member is_possible
  class_member_fits (class_members.Constructor n) h = simp (constructor_fits n h)
  class_member_fits (class_members.Method n) h = simp (class_method_fits n h)
  class_member_fits (class_members.PrivateMethod n) h = simp (private_method_fits n h)
  class_member_fits (class_members.ClassProp n) h = simp (class_prop_fits n h)
  class_member_fits (class_members.PrivateProp n) h = simp (private_prop_fits n h)
  class_member_fits (class_members.TsIndexSignature n) h = simp (ts_index_signature_fits f g held n h)
  class_member_fits (class_members.Empty n) h = refl
  class_member_fits (class_members.StaticBlock n) h = simp (static_block_fits n h)
  class_member_fits (class_members.AutoAccessor n) h = simp (auto_accessor_fits n h)

  pub method_tail_fits : (n : Function X) → (findings f (rules.method_tail n)).none → is_possible (method_tail g n) ≡ true
  unfolding findings rules.method_tail
  method_tail_fits n h = simp (method_tail_possible, some_fits _ _ n.type_params h.0 (λ x. held.node x.node.value TypeParameters), each_fits _ (param g) _ n.params.items h.1.0 param_fits, some_fits _ _ n.return_type h.1.1.0 (λ x. held.node x.node.value Annotation), function_body_fits f g held n.body h.1.1.1)

  pub accessor_tail_fits : (n : Function X) → (findings f (rules.accessor_tail n)).none → is_possible (accessor_tail g n) ≡ true
  unfolding findings rules.accessor_tail
  accessor_tail_fits n h =
      let p = and_parts (not n.is_async) (not n.is_generator) h.0 in
      simp (accessor_tail_possible, p.0, p.1, method_tail_fits n h.1)

  pub method_decorators_fits : (n : Function X) → (findings f (rules.method_decorators n)).none → is_possible (method_decorators g n) ≡ true
  unfolding findings rules.method_decorators
  method_decorators_fits n h = simp (method_decorators_possible, each_fits _ (decorator g) _ n.decorators.items h decorator_fits)

  pub class_head_fits : (n : Class X) → (findings f (rules.class_head n)).none → is_possible (class_head g n) ≡ true
  unfolding findings rules.class_head
  class_head_fits n h = simp (class_head_possible, each_fits _ (decorator g) _ n.decorators.items h decorator_fits)

  pub exported_head_fits : (n : Decl X) → (findings f (rules.exported_head n)).none → is_possible (exported_head g n) ≡ true
  unfolding findings rules.exported_head exported_head is_possible
  exported_head_fits (decls.Class n) h = simp (held.node n.class.node.value ClassHead h)
  exported_head_fits n h = refl

  pub exported_tail_fits : (n : Decl X) → (findings f (rules.exported_tail n)).none → is_possible (exported_tail g n) ≡ true
  unfolding findings rules.exported_tail exported_tail
  exported_tail_fits (decls.Class n) h = simp (exported_class_possible g n, held.class_word n.class.node.value h.1, ident_fits n.ident h.0, held.node n.class.node.value ClassTail h.1)
  exported_tail_fits n h = decl_fits n h
