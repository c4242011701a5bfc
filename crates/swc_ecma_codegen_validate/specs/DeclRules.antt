-- The rules of declarations, functions and classes.
use Rattle.std.specs.Prelude.{Bool, true, false, ◌&&◌, ◌||◌, not, ◌==◌, length, codes}
use Rattle.std.specs.Option.{is_some, is_none}
use Rattle.swc_ecma_codegen_tree.specs.declared.classes.AutoAccessor.{AutoAccessor}
use Rattle.swc_ecma_codegen_tree.specs.declared.classes.Class.{Class}
use Rattle.swc_ecma_codegen_tree.specs.declared.classes.ClassMember.{ClassMember}
use Rattle.swc_ecma_codegen_tree.specs.declared.classes.ClassMethod.{ClassMethod}
use Rattle.swc_ecma_codegen_tree.specs.declared.classes.ClassProp.{ClassProp}
use Rattle.swc_ecma_codegen_tree.specs.declared.classes.Constructor.{Constructor}
use Rattle.swc_ecma_codegen_tree.specs.declared.classes.Key.{Key}
use Rattle.swc_ecma_codegen_tree.specs.declared.classes.MethodKind.{MethodKind}
use Rattle.swc_ecma_codegen_tree.specs.declared.classes.ParamOrTsParamProp.{ParamOrTsParamProp}
use Rattle.swc_ecma_codegen_tree.specs.declared.classes.PrivateMethod.{PrivateMethod}
use Rattle.swc_ecma_codegen_tree.specs.declared.classes.PrivateProp.{PrivateProp}
use Rattle.swc_ecma_codegen_tree.specs.declared.classes.StaticBlock.{StaticBlock}
use Rattle.swc_ecma_codegen_tree.specs.declared.classes.TsParamProp.{TsParamProp}
use Rattle.swc_ecma_codegen_tree.specs.declared.classes.TsParamPropParam.{TsParamPropParam}
use Rattle.swc_ecma_codegen_tree.specs.declared.decls.ClassDecl.{ClassDecl}
use Rattle.swc_ecma_codegen_tree.specs.declared.decls.Decl.{Decl}
use Rattle.swc_ecma_codegen_tree.specs.declared.decls.Decorator.{Decorator}
use Rattle.swc_ecma_codegen_tree.specs.declared.decls.FnDecl.{FnDecl}
use Rattle.swc_ecma_codegen_tree.specs.declared.decls.Function.{Function}
use Rattle.swc_ecma_codegen_tree.specs.declared.decls.Param.{Param}
use Rattle.swc_ecma_codegen_tree.specs.declared.decls.UsingDecl.{UsingDecl}
use Rattle.swc_ecma_codegen_tree.specs.declared.decls.VarDecl.{VarDecl}
use Rattle.swc_ecma_codegen_tree.specs.declared.decls.VarDeclarator.{VarDeclarator}
use Rattle.swc_ecma_codegen_tree.specs.declared.exprs.ArrowExpr.{ArrowExpr}
use Rattle.swc_ecma_codegen_tree.specs.declared.exprs.BlockStmtOrExpr.{BlockStmtOrExpr}
use Rattle.swc_ecma_codegen_tree.specs.declared.exprs.ClassExpr.{ClassExpr}
use Rattle.swc_ecma_codegen_tree.specs.declared.exprs.FnExpr.{FnExpr}
use Rattle.swc_ecma_codegen_tree.specs.declared.pats.Pat.{Pat}
use Rattle.swc_ecma_codegen_tree.specs.declared.decls.Decl.TheVariants as decls
use Rattle.swc_ecma_codegen_tree.specs.declared.exprs.BlockStmtOrExpr.TheVariants as block_stmt_or_exprs
use Rattle.swc_ecma_codegen_tree.specs.declared.pats.Pat.TheVariants as pats
use Rattle.swc_ecma_codegen_tree.specs.declared.classes.ClassMember.TheVariants as class_members
use Rattle.swc_ecma_codegen_tree.specs.declared.classes.ParamOrTsParamProp.TheVariants as param_or_ts_param_props
use Rattle.swc_ecma_codegen_tree.specs.declared.classes.TsParamPropParam.TheVariants as ts_param_prop_params
use Rattle.swc_ecma_codegen_tree.specs.declared.classes.MethodKind.TheVariants as method_kinds
use Rattle.swc_ecma_codegen_tree.specs.declared.classes.Key.TheVariants as keys
use Rattle.swc_ecma_codegen_grammar.specs.declared.roles.Role.TheVariants as roles
use Rattle.swc_ecma_codegen_grammar.specs.declared.roles.Role.{Role}
use Rattle.swc_ecma_codegen_grammar.specs.declared.roles.Role.TheVariants.{AccessorTail, Annotation, Block, ClassHead, ClassTail, Expression, Member, MethodDecorators, MethodTail, Pattern, PropertyName, TypeArguments, TypeParameters}
use Rattle.swc_ecma_codegen_validate.specs.Rules.{Rules, Free, Each, Optional, ◌&◌, rule, at, link, leaf}
use Rattle.swc_ecma_codegen_validate.specs.NameRules.{ident, binding_ident, private_name}
use Rattle.swc_ecma_codegen_validate.specs.TsRules.{ts_expr_with_type_args, ts_interface_decl, ts_type_alias_decl, ts_enum_decl, ts_module_decl, ts_index_signature}
use Rattle.swc_ecma_codegen_validate.specs.PatRules.{assign_pat, pat}

-- a name alone
unfoldable pub is_name_alone : {X : Type 0} → Pat X → Bool
is_name_alone (pats.Ident n) = true
is_name_alone n = false

-- what the function of a class's member is
unfoldable pub tail_role : MethodKind → Role
tail_role method_kinds.Method = MethodTail
tail_role method_kinds.Getter = AccessorTail
tail_role method_kinds.Setter = AccessorTail

unfoldable pub decorator : {X : Type 0} → Decorator X → Rules X
decorator n = at (codes "expr") (link n.expr Expression)

unfoldable pub param : {X : Type 0} → Param X → Rules X
param n = at (codes "decorators") (Each n.decorators.items decorator) & at (codes "pat") (pat n.pat)

unfoldable pub function : {X : Type 0} → Function X → Rules X
function n = rule (length n.decorators.items == 0) (codes "a function that is no method has decorators") & at (codes "type_params") (Optional n.type_params (λ x. link x TypeParameters)) & at (codes "params") (Each n.params.items param) & at (codes "return_type") (Optional n.return_type (λ x. link x Annotation)) & at (codes "body") (Optional n.body (λ x. link x Block))

unfoldable pub fn_expr : {X : Type 0} → FnExpr X → Rules X
fn_expr n = at (codes "ident") (Optional n.ident (λ x. leaf (ident x))) & at (codes "function") (link n.function roles.Function)

unfoldable pub block_stmt_or_expr : {X : Type 0} → BlockStmtOrExpr X → Rules X
block_stmt_or_expr (block_stmt_or_exprs.BlockStmt n) = link n Block
block_stmt_or_expr (block_stmt_or_exprs.Expr n) = link n Expression

unfoldable pub arrow_expr : {X : Type 0} → ArrowExpr X → Rules X
arrow_expr n = at (codes "type_params") (Optional n.type_params (λ x. link x TypeParameters)) & at (codes "params") (Each n.params.items (λ x. link x Pattern)) & at (codes "return_type") (Optional n.return_type (λ x. link x Annotation)) & at (codes "body") (block_stmt_or_expr n.body)

unfoldable pub fn_decl : {X : Type 0} → FnDecl X → Rules X
fn_decl n = at (codes "ident") (leaf (ident n.ident)) & at (codes "function") (link n.function roles.Function)

unfoldable pub var_declarator : {X : Type 0} → VarDeclarator X → Rules X
var_declarator n = rule (not n.definite || is_name_alone n.name) (codes "a pattern is said to have a value") & at (codes "name") (pat n.name) & at (codes "init") (Optional n.init (λ x. link x Expression))

unfoldable pub var_decl : {X : Type 0} → VarDecl X → Rules X
var_decl n = rule (not (length n.decls.items == 0)) (codes "a declaration declares nothing") & at (codes "decls") (Each n.decls.items var_declarator)

unfoldable pub using_decl : {X : Type 0} → UsingDecl X → Rules X
using_decl n = rule (not (length n.decls.items == 0)) (codes "a declaration declares nothing") & at (codes "decls") (Each n.decls.items var_declarator)

unfoldable pub class_decl : {X : Type 0} → ClassDecl X → Rules X
class_decl n = at (codes "class") (link n.class ClassHead) & at (codes "ident") (leaf (ident n.ident)) & at (codes "class") (link n.class ClassTail)

unfoldable pub decl : {X : Type 0} → Decl X → Rules X
decl (decls.Class n) = class_decl n
decl (decls.Fn n) = fn_decl n
decl (decls.Var n) = var_decl n
decl (decls.Using n) = using_decl n
decl (decls.TsInterface n) = ts_interface_decl n.value
decl (decls.TsTypeAlias n) = ts_type_alias_decl n.value
decl (decls.TsEnum n) = ts_enum_decl n.value
decl (decls.TsModule n) = ts_module_decl n.value

unfoldable pub class : {X : Type 0} → Class X → Rules X
class n = rule (is_some n.super_class || is_none n.super_type_params) (codes "a class that extends none has arguments of types for it") & at (codes "type_params") (Optional n.type_params (λ x. link x TypeParameters)) & at (codes "super_class") (Optional n.super_class (λ x. link x Expression)) & at (codes "super_type_params") (Optional n.super_type_params (λ x. link x TypeArguments)) & at (codes "implements") (Each n.implements.items ts_expr_with_type_args) & at (codes "body") (Each n.body.items (λ x. link x Member))

unfoldable pub class_expr : {X : Type 0} → ClassExpr X → Rules X
class_expr n = at (codes "class") (link n.class ClassHead) & at (codes "ident") (Optional n.ident (λ x. leaf (ident x))) & at (codes "class") (link n.class ClassTail)

unfoldable pub ts_param_prop_param : {X : Type 0} → TsParamPropParam X → Rules X
ts_param_prop_param (ts_param_prop_params.Ident n) = binding_ident n
ts_param_prop_param (ts_param_prop_params.Assign n) = assign_pat n

unfoldable pub ts_param_prop : {X : Type 0} → TsParamProp X → Rules X
ts_param_prop n = at (codes "decorators") (Each n.decorators.items decorator) & at (codes "param") (ts_param_prop_param n.param)

unfoldable pub param_or_ts_param_prop : {X : Type 0} → ParamOrTsParamProp X → Rules X
param_or_ts_param_prop (param_or_ts_param_props.TsParamProp n) = ts_param_prop n
param_or_ts_param_prop (param_or_ts_param_props.Param n) = param n

unfoldable pub constructor : {X : Type 0} → Constructor X → Rules X
constructor n = at (codes "params") (Each n.params.items param_or_ts_param_prop) & at (codes "body") (Optional n.body (λ x. link x Block))

unfoldable pub class_method : {X : Type 0} → ClassMethod X → Rules X
class_method n = at (codes "function") (link n.function MethodDecorators) & at (codes "key") (link n.key PropertyName) & at (codes "function") (link n.function (tail_role n.kind))

unfoldable pub private_method : {X : Type 0} → PrivateMethod X → Rules X
private_method n = at (codes "function") (link n.function MethodDecorators) & at (codes "key") (leaf (private_name n.key)) & at (codes "function") (link n.function (tail_role n.kind))

unfoldable pub class_prop : {X : Type 0} → ClassProp X → Rules X
class_prop n = rule (not n.definite || is_some n.type_ann) (codes "a field without a type is said to have a value") & at (codes "decorators") (Each n.decorators.items decorator) & at (codes "key") (link n.key PropertyName) & at (codes "type_ann") (Optional n.type_ann (λ x. link x Annotation)) & at (codes "value") (Optional n.value (λ x. link x Expression))

unfoldable pub private_prop : {X : Type 0} → PrivateProp X → Rules X
private_prop n = rule (not n.definite || is_some n.type_ann) (codes "a field without a type is said to have a value") & at (codes "decorators") (Each n.decorators.items decorator) & at (codes "key") (leaf (private_name n.key)) & at (codes "type_ann") (Optional n.type_ann (λ x. link x Annotation)) & at (codes "value") (Optional n.value (λ x. link x Expression))

unfoldable pub key : {X : Type 0} → Key X → Rules X
key (keys.Private n) = leaf (private_name n)
key (keys.Public n) = link n PropertyName

unfoldable pub auto_accessor : {X : Type 0} → AutoAccessor X → Rules X
auto_accessor n = rule (not n.definite || is_some n.type_ann) (codes "a field without a type is said to have a value") & at (codes "decorators") (Each n.decorators.items decorator) & at (codes "key") (key n.key) & at (codes "type_ann") (Optional n.type_ann (λ x. link x Annotation)) & at (codes "value") (Optional n.value (λ x. link x Expression))

unfoldable pub static_block : {X : Type 0} → StaticBlock X → Rules X
static_block n = at (codes "body") (link n.body Block)

unfoldable pub class_member : {X : Type 0} → ClassMember X → Rules X
class_member (class_members.Constructor n) = constructor n
class_member (class_members.Method n) = class_method n
class_member (class_members.PrivateMethod n) = private_method n
class_member (class_members.ClassProp n) = class_prop n
class_member (class_members.PrivateProp n) = private_prop n
class_member (class_members.TsIndexSignature n) = ts_index_signature n
class_member (class_members.Empty n) = Free
class_member (class_members.StaticBlock n) = static_block n
class_member (class_members.AutoAccessor n) = auto_accessor n

-- the function of a method, whose decorators stand elsewhere
unfoldable pub method_tail : {X : Type 0} → Function X → Rules X
method_tail n = at (codes "type_params") (Optional n.type_params (λ x. link x TypeParameters)) & at (codes "params") (Each n.params.items param) & at (codes "return_type") (Optional n.return_type (λ x. link x Annotation)) & at (codes "body") (Optional n.body (λ x. link x Block))

-- the same of a getter or a setter
unfoldable pub accessor_tail : {X : Type 0} → Function X → Rules X
accessor_tail n = rule (not n.is_async && not n.is_generator) (codes "a getter or a setter is async, or a generator") & method_tail n

unfoldable pub method_decorators : {X : Type 0} → Function X → Rules X
method_decorators n = at (codes "decorators") (Each n.decorators.items decorator)

unfoldable pub class_head : {X : Type 0} → Class X → Rules X
class_head n = at (codes "decorators") (Each n.decorators.items decorator)

-- what of a declaration stands before `export`
unfoldable pub exported_head : {X : Type 0} → Decl X → Rules X
exported_head (decls.Class n) = at (codes "class") (link n.class ClassHead)
exported_head n = Free

-- what stands after it
unfoldable pub exported_tail : {X : Type 0} → Decl X → Rules X
exported_tail (decls.Class n) = at (codes "ident") (leaf (ident n.ident)) & at (codes "class") (link n.class ClassTail)
exported_tail n = decl n
