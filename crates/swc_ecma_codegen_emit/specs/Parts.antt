-- What is written of the parts of expressions, of statements and of TypeScript that links hold, by their sorts.
use Rattle.swc_ecma_codegen_tree.specs.declared.parts.ExprPart.{ExprPart}
use Rattle.swc_ecma_codegen_tree.specs.declared.parts.ExprPart.TheVariants as expr_parts
use Rattle.swc_ecma_codegen_tree.specs.declared.parts.StmtPart.{StmtPart}
use Rattle.swc_ecma_codegen_tree.specs.declared.parts.StmtPart.TheVariants as stmt_parts
use Rattle.swc_ecma_codegen_tree.specs.declared.parts.TsPart.{TsPart}
use Rattle.swc_ecma_codegen_tree.specs.declared.parts.TsPart.TheVariants as ts_parts
use Rattle.swc_ecma_codegen_tokens.specs.Run.{Part}
use Rattle.swc_ecma_codegen_emit.specs.Places.{Place, context_of}
use Rattle.swc_ecma_codegen_emit.specs.Answers.{Answers}
use Rattle.swc_ecma_codegen_emit.specs.Blocks.{block_stmt}
use Rattle.swc_ecma_codegen_emit.specs.Classes.{class, class_member}
use Rattle.swc_ecma_codegen_emit.specs.Decls.{decl, var_decl}
use Rattle.swc_ecma_codegen_emit.specs.Functions.{function}
use Rattle.swc_ecma_codegen_emit.specs.Calls.{chain_call, is_optional}
use Rattle.swc_ecma_codegen_emit.specs.Modules.{module_decl}
use Rattle.swc_ecma_codegen_emit.specs.Namespaces.{ts_namespace_body}
use Rattle.swc_ecma_codegen_emit.specs.Pats.{pat}
use Rattle.swc_ecma_codegen_emit.specs.Names.{prop_name}
use Rattle.swc_ecma_codegen_emit.specs.Props.{object_lit}
use Rattle.swc_ecma_codegen_emit.specs.Targets.{assign_target}
use Rattle.swc_ecma_codegen_emit.specs.Templates.{tpl, is_tagged}
use Rattle.swc_ecma_codegen_emit.specs.TsMembers.{ts_interface_body}
use Rattle.swc_ecma_codegen_emit.specs.Types.{ts_type, ts_type_ann, ts_type_param_decl, ts_type_param_instantiation, ts_fn_param, ts_entity_name}

unfoldable pub expr_part : {X : Type 0} → (X → Answers) → (X → Place → Part) → ExprPart X → Place → Part
expr_part asks items (expr_parts.Pat n) place rest = pat asks items n rest
expr_part asks items (expr_parts.ObjectLit n) place rest = object_lit asks items n rest
expr_part asks items (expr_parts.PropName n) place rest = prop_name items n rest
expr_part asks items (expr_parts.AssignTarget n) place rest = assign_target asks items n rest
expr_part asks items (expr_parts.Tpl n) place rest = tpl items (is_tagged (context_of place)) n rest
expr_part asks items (expr_parts.OptCall n) place rest = chain_call asks items (is_optional (context_of place)) n rest

unfoldable pub stmt_part : {X : Type 0} → (X → Answers) → (X → Place → Part) → StmtPart X → Place → Part
stmt_part asks items (stmt_parts.Function n) place rest = function asks items n.value place rest
stmt_part asks items (stmt_parts.Class n) place rest = class asks items n.value place rest
stmt_part asks items (stmt_parts.ClassMember n) place rest = class_member asks items n.value rest
stmt_part asks items (stmt_parts.BlockStmt n) place rest = block_stmt asks items n (context_of place) rest
stmt_part asks items (stmt_parts.Decl n) place rest = decl asks items n place rest
stmt_part asks items (stmt_parts.ModuleDecl n) place rest = module_decl asks items n.value rest
stmt_part asks items (stmt_parts.VarDecl n) place rest = var_decl asks items n rest

unfoldable pub ts_part : {X : Type 0} → (X → Answers) → (X → Place → Part) → TsPart X → Place → Part
ts_part asks items (ts_parts.TsType n) place rest = ts_type asks items n rest
ts_part asks items (ts_parts.TsTypeAnn n) place rest = ts_type_ann asks items n (context_of place) rest
ts_part asks items (ts_parts.TsTypeParamDecl n) place rest = ts_type_param_decl items n rest
ts_part asks items (ts_parts.TsTypeParamInstantiation n) place rest = ts_type_param_instantiation asks items n (context_of place) rest
ts_part asks items (ts_parts.TsFnParam n) place rest = ts_fn_param asks items n rest
ts_part asks items (ts_parts.TsInterfaceBody n) place rest = ts_interface_body asks items n rest
ts_part asks items (ts_parts.TsEntityName n) place rest = ts_entity_name items n rest
ts_part asks items (ts_parts.TsNamespaceBody n) place rest = ts_namespace_body asks items n (context_of place) rest
