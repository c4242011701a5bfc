-- What is written of a part of an expression, of a statement or of TypeScript that a link holds is what it reads as, by its sort.
use Rattle.std.proofs.Common.{true, false}
use Rattle.swc_ecma_codegen_tree.specs.declared.parts.ExprPart.{ExprPart}
use Rattle.swc_ecma_codegen_tree.specs.declared.parts.ExprPart.TheVariants as expr_parts
use Rattle.swc_ecma_codegen_tree.specs.declared.parts.StmtPart.{StmtPart}
use Rattle.swc_ecma_codegen_tree.specs.declared.parts.StmtPart.TheVariants as stmt_parts
use Rattle.swc_ecma_codegen_grammar.specs.declared.roles.Role.{Role}
use Rattle.swc_ecma_codegen_grammar.specs.declared.roles.Role.TheVariants.{AssignmentTarget, Pattern, PlainParameter, PropertyName, ObjectLiteral, Function, FunctionHead, MethodHead, Block, Declaration, VariableDeclaration, ChainCall, Template, TaggedTemplate, ClassHead, ClassWord, ClassTail, Member, MethodDecorators, MethodTail, AccessorTail, ModuleDeclaration, ExportedHead, ExportedTail, AnyType, Annotation, TypeArguments, TypeParameters, EntityName, SignatureParameter, InterfaceBody, NamespaceBody, DottedBody}
use Rattle.swc_ecma_codegen_grammar.specs.PartPhrases as lists
use Rattle.swc_ecma_codegen_tokens.proofs.Jsx.TagPrints.{prints_never_on}
use Rattle.swc_ecma_codegen_emit.specs.Namespaces.{ts_namespace_body}
use Rattle.swc_ecma_codegen_emit.specs.Parts as words
use Rattle.swc_ecma_codegen_emit.specs.Places.{Place, placed, context_of}
use Rattle.swc_ecma_codegen_emit.specs.Classes.{class}
use Rattle.swc_ecma_codegen_emit.specs.Functions.{function}
use Rattle.swc_ecma_codegen_emit.proofs.BlockParts.{block_stmt_prints}
use Rattle.swc_ecma_codegen_emit.proofs.DeclParts.{decl_prints, exported_head_prints, exported_tail_prints, var_decl_prints}
use Rattle.swc_ecma_codegen_emit.proofs.ClassParts.{class_head_prints, class_word_prints, class_tail_prints, class_member_prints}
use Rattle.swc_ecma_codegen_emit.proofs.FunctionParts.{fn_tail_prints, head_prints, before_method_prints, method_decorators_print, method_tail_prints, accessor_tail_prints}
use Rattle.swc_ecma_codegen_emit.proofs.Linked.{Linked, PrintsIn}
use Rattle.swc_ecma_codegen_emit.proofs.ModuleParts.{module_decl_prints}
use Rattle.swc_ecma_codegen_emit.proofs.PatParts.{pat_prints, plain_prints}
use Rattle.swc_ecma_codegen_emit.proofs.NameParts.{prop_name_prints}
use Rattle.swc_ecma_codegen_emit.proofs.PropParts.{object_lit_prints}
use Rattle.swc_ecma_codegen_emit.proofs.CallParts.{chain_call_prints}
use Rattle.swc_ecma_codegen_emit.proofs.TemplateParts.{tpl_prints}
use Rattle.swc_ecma_codegen_emit.proofs.TargetParts.{assign_target_prints}
use Rattle.swc_ecma_codegen_tree.specs.declared.parts.TsPart.{TsPart}
use Rattle.swc_ecma_codegen_tree.specs.declared.parts.TsPart.TheVariants as ts_parts
use Rattle.swc_ecma_codegen_emit.proofs.NamespaceParts.{dotted_body_prints, namespace_body_prints}
use Rattle.swc_ecma_codegen_emit.proofs.TsMemberParts.{interface_body_prints}
use Rattle.swc_ecma_codegen_emit.proofs.TypeParts.{type_prints, ann_prints, params_print, arguments_print, fn_param_prints, entity_prints}

pub part_prints : {X : Type 0} (l : Linked X) (n : ExprPart X) (place : Place) (role : Role) → PrintsIn role place l.env (words.expr_part l.asks l.items n (placed role place)) (lists.expr_part l.reads n role)
unfolding words.expr_part lists.expr_part
part_prints l (expr_parts.Pat n) place Pattern = pat_prints l n
part_prints l (expr_parts.Pat n) place PlainParameter = plain_prints l n
part_prints l (expr_parts.ObjectLit n) place ObjectLiteral = object_lit_prints l n
part_prints l (expr_parts.PropName n) place PropertyName = prop_name_prints l n
part_prints l (expr_parts.OptCall n) place (ChainCall true) = chain_call_prints l true n
part_prints l (expr_parts.OptCall n) place (ChainCall false) = chain_call_prints l false n
part_prints l (expr_parts.AssignTarget n) place AssignmentTarget = assign_target_prints l n
part_prints l (expr_parts.Tpl n) place Template = tpl_prints l false n
part_prints l (expr_parts.Tpl n) place TaggedTemplate = tpl_prints l true n
part_prints l n place role = prints_never_on

pub stmt_part_prints : {X : Type 0} (l : Linked X) (n : StmtPart X) (place : Place) (role : Role) → PrintsIn role place l.env (words.stmt_part l.asks l.items n (placed role place)) (lists.stmt_part l.reads n role)
unfolding words.stmt_part lists.stmt_part function class
stmt_part_prints l (stmt_parts.Function n) place Function = fn_tail_prints l n.value place
stmt_part_prints l (stmt_parts.Function n) place FunctionHead = head_prints l n.value place
stmt_part_prints l (stmt_parts.Function n) place MethodHead = before_method_prints l n.value place
stmt_part_prints l (stmt_parts.Function n) place MethodDecorators = method_decorators_print l n.value
stmt_part_prints l (stmt_parts.Function n) place MethodTail = method_tail_prints l n.value place
stmt_part_prints l (stmt_parts.Function n) place AccessorTail = accessor_tail_prints l n.value place
stmt_part_prints l (stmt_parts.Class n) place ClassHead = class_head_prints l n.value
stmt_part_prints l (stmt_parts.Class n) place ClassWord = class_word_prints l n.value
stmt_part_prints l (stmt_parts.Class n) place ClassTail = class_tail_prints l n.value
stmt_part_prints l (stmt_parts.ClassMember n) place Member = class_member_prints l n.value
stmt_part_prints l (stmt_parts.BlockStmt n) place Block = block_stmt_prints l n (context_of place)
stmt_part_prints l (stmt_parts.Decl n) place Declaration = decl_prints l n (context_of place)
stmt_part_prints l (stmt_parts.Decl n) place ExportedHead = exported_head_prints l n
stmt_part_prints l (stmt_parts.Decl n) place ExportedTail = exported_tail_prints l n
stmt_part_prints l (stmt_parts.ModuleDecl n) place ModuleDeclaration = module_decl_prints l n.value
stmt_part_prints l (stmt_parts.VarDecl n) place VariableDeclaration = var_decl_prints l n
stmt_part_prints l n place role = prints_never_on

pub ts_part_prints : {X : Type 0} (l : Linked X) (n : TsPart X) (place : Place) (role : Role) → PrintsIn role place l.env (words.ts_part l.asks l.items n (placed role place)) (lists.ts_part l.reads n role)
unfolding words.ts_part lists.ts_part ts_namespace_body
ts_part_prints l (ts_parts.TsType n) place AnyType = type_prints l n
ts_part_prints l (ts_parts.TsTypeAnn n) place Annotation = ann_prints l n (context_of place)
ts_part_prints l (ts_parts.TsTypeParamDecl n) place TypeParameters = params_print l n
ts_part_prints l (ts_parts.TsTypeParamInstantiation n) place TypeArguments = arguments_print l n (context_of place)
ts_part_prints l (ts_parts.TsFnParam n) place SignatureParameter = fn_param_prints l n
ts_part_prints l (ts_parts.TsInterfaceBody n) place InterfaceBody = interface_body_prints l n
ts_part_prints l (ts_parts.TsEntityName n) place EntityName = entity_prints l n
ts_part_prints l (ts_parts.TsNamespaceBody n) place NamespaceBody = namespace_body_prints l n
ts_part_prints l (ts_parts.TsNamespaceBody n) place DottedBody = dotted_body_prints l n
ts_part_prints l n place role = prints_never_on
