-- The links, each to a node of a sort.
use Rattle.swc_ecma_codegen_tree.specs.declared.links.Link.{Link}
use Rattle.swc_ecma_codegen_tree.specs.declared.sorts.ToExpr.{ToExpr}
use Rattle.swc_ecma_codegen_tree.specs.declared.sorts.ToPat.{ToPat}
use Rattle.swc_ecma_codegen_tree.specs.declared.sorts.ToTpl.{ToTpl}
use Rattle.swc_ecma_codegen_tree.specs.declared.sorts.ToObjectLit.{ToObjectLit}
use Rattle.swc_ecma_codegen_tree.specs.declared.sorts.ToPropName.{ToPropName}
use Rattle.swc_ecma_codegen_tree.specs.declared.sorts.ToMemberExpr.{ToMemberExpr}
use Rattle.swc_ecma_codegen_tree.specs.declared.sorts.ToOptCall.{ToOptCall}
use Rattle.swc_ecma_codegen_tree.specs.declared.sorts.ToAssignTarget.{ToAssignTarget}
use Rattle.swc_ecma_codegen_tree.specs.declared.sorts.ToStmt.{ToStmt}
use Rattle.swc_ecma_codegen_tree.specs.declared.sorts.ToFunction.{ToFunction}
use Rattle.swc_ecma_codegen_tree.specs.declared.sorts.ToClass.{ToClass}
use Rattle.swc_ecma_codegen_tree.specs.declared.sorts.ToBlockStmt.{ToBlockStmt}
use Rattle.swc_ecma_codegen_tree.specs.declared.sorts.ToDecl.{ToDecl}
use Rattle.swc_ecma_codegen_tree.specs.declared.sorts.ToModuleDecl.{ToModuleDecl}
use Rattle.swc_ecma_codegen_tree.specs.declared.sorts.ToVarDecl.{ToVarDecl}
use Rattle.swc_ecma_codegen_tree.specs.declared.sorts.ToClassMember.{ToClassMember}
use Rattle.swc_ecma_codegen_tree.specs.declared.sorts.ToJSXElement.{ToJSXElement}
use Rattle.swc_ecma_codegen_tree.specs.declared.sorts.ToJSXFragment.{ToJSXFragment}
use Rattle.swc_ecma_codegen_tree.specs.declared.sorts.ToJSXObject.{ToJSXObject}
use Rattle.swc_ecma_codegen_tree.specs.declared.sorts.ToTsType.{ToTsType}
use Rattle.swc_ecma_codegen_tree.specs.declared.sorts.ToTsNamespaceBody.{ToTsNamespaceBody}
use Rattle.swc_ecma_codegen_tree.specs.declared.sorts.ToTsTypeAnn.{ToTsTypeAnn}
use Rattle.swc_ecma_codegen_tree.specs.declared.sorts.ToTsTypeParamDecl.{ToTsTypeParamDecl}
use Rattle.swc_ecma_codegen_tree.specs.declared.sorts.ToTsTypeParamInstantiation.{ToTsTypeParamInstantiation}
use Rattle.swc_ecma_codegen_tree.specs.declared.sorts.ToTsFnParam.{ToTsFnParam}
use Rattle.swc_ecma_codegen_tree.specs.declared.sorts.ToTsInterfaceBody.{ToTsInterfaceBody}
use Rattle.swc_ecma_codegen_tree.specs.declared.sorts.ToTsEntityName.{ToTsEntityName}

abbrev pub ExprBox : Type 0 → Type 0
ExprBox N = Link ToExpr N

abbrev pub PatBox : Type 0 → Type 0
PatBox N = Link ToPat N

abbrev pub TplBox : Type 0 → Type 0
TplBox N = Link ToTpl N

abbrev pub ObjectLitBox : Type 0 → Type 0
ObjectLitBox N = Link ToObjectLit N

abbrev pub PropNameBox : Type 0 → Type 0
PropNameBox N = Link ToPropName N

abbrev pub MemberExprBox : Type 0 → Type 0
MemberExprBox N = Link ToMemberExpr N

abbrev pub OptCallBox : Type 0 → Type 0
OptCallBox N = Link ToOptCall N

abbrev pub AssignTargetBox : Type 0 → Type 0
AssignTargetBox N = Link ToAssignTarget N

abbrev pub StmtBox : Type 0 → Type 0
StmtBox N = Link ToStmt N

abbrev pub FunctionBox : Type 0 → Type 0
FunctionBox N = Link ToFunction N

abbrev pub ClassBox : Type 0 → Type 0
ClassBox N = Link ToClass N

abbrev pub BlockStmtBox : Type 0 → Type 0
BlockStmtBox N = Link ToBlockStmt N

abbrev pub DeclBox : Type 0 → Type 0
DeclBox N = Link ToDecl N

abbrev pub ModuleDeclBox : Type 0 → Type 0
ModuleDeclBox N = Link ToModuleDecl N

abbrev pub VarDeclBox : Type 0 → Type 0
VarDeclBox N = Link ToVarDecl N

abbrev pub ClassMemberBox : Type 0 → Type 0
ClassMemberBox N = Link ToClassMember N

abbrev pub JSXElementBox : Type 0 → Type 0
JSXElementBox N = Link ToJSXElement N

abbrev pub JSXFragmentBox : Type 0 → Type 0
JSXFragmentBox N = Link ToJSXFragment N

abbrev pub JSXObjectBox : Type 0 → Type 0
JSXObjectBox N = Link ToJSXObject N

abbrev pub TsTypeBox : Type 0 → Type 0
TsTypeBox N = Link ToTsType N

abbrev pub TsNamespaceBodyBox : Type 0 → Type 0
TsNamespaceBodyBox N = Link ToTsNamespaceBody N

abbrev pub TsTypeAnnBox : Type 0 → Type 0
TsTypeAnnBox N = Link ToTsTypeAnn N

abbrev pub TsTypeParamDeclBox : Type 0 → Type 0
TsTypeParamDeclBox N = Link ToTsTypeParamDecl N

abbrev pub TsTypeParamInstantiationBox : Type 0 → Type 0
TsTypeParamInstantiationBox N = Link ToTsTypeParamInstantiation N

abbrev pub TsFnParamBox : Type 0 → Type 0
TsFnParamBox N = Link ToTsFnParam N

abbrev pub TsInterfaceBodyBox : Type 0 → Type 0
TsInterfaceBodyBox N = Link ToTsInterfaceBody N

abbrev pub TsEntityNameBox : Type 0 → Type 0
TsEntityNameBox N = Link ToTsEntityName N
