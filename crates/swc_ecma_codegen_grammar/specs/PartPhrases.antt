-- Parts of expressions, of statements and of TypeScript that links hold: a production for each sort, in its role.
use Rattle.std.specs.Prelude.{true, false}
use Rattle.swc_ecma_codegen_tree.specs.declared.parts.ExprPart.{ExprPart}
use Rattle.swc_ecma_codegen_tree.specs.declared.parts.ExprPart.TheVariants as expr_parts
use Rattle.swc_ecma_codegen_tree.specs.declared.parts.StmtPart.{StmtPart}
use Rattle.swc_ecma_codegen_tree.specs.declared.parts.StmtPart.TheVariants as stmt_parts
use Rattle.swc_ecma_codegen_tree.specs.declared.parts.TsPart.{TsPart}
use Rattle.swc_ecma_codegen_tree.specs.declared.parts.TsPart.TheVariants as ts_parts
use Rattle.swc_ecma_codegen_grammar.specs.Phrases.{Phrase, Never}
use Rattle.swc_ecma_codegen_grammar.specs.MemberPhrases.{ts_interface_body}
use Rattle.swc_ecma_codegen_grammar.specs.declared.roles.Role.{Role}
use Rattle.swc_ecma_codegen_grammar.specs.declared.roles.Role.TheVariants.{AssignmentTarget, Pattern, PlainParameter, PropertyName, ObjectLiteral, Function, FunctionHead, MethodHead, Block, Declaration, VariableDeclaration, ChainCall, Template, TaggedTemplate, ClassHead, ClassWord, ClassTail, Member, MethodDecorators, MethodTail, AccessorTail, ModuleDeclaration, ExportedHead, ExportedTail, AnyType, Annotation, TypeArguments, TypeParameters, EntityName, SignatureParameter, InterfaceBody, NamespaceBody, DottedBody}
use Rattle.swc_ecma_codegen_grammar.specs.AssignPhrases.{assign_target}
use Rattle.swc_ecma_codegen_grammar.specs.CallPhrases.{chain_call}
use Rattle.swc_ecma_codegen_grammar.specs.KeyPhrases.{prop_name}
use Rattle.swc_ecma_codegen_grammar.specs.ModulePhrases.{exported_head, exported_tail, module_decl}
use Rattle.swc_ecma_codegen_grammar.specs.NamespacePhrases.{dotted_body, ts_namespace_body}
use Rattle.swc_ecma_codegen_grammar.specs.PatPhrases.{pat, plain_parameter}
use Rattle.swc_ecma_codegen_grammar.specs.PropPhrases.{object_lit}
use Rattle.swc_ecma_codegen_grammar.specs.FunctionPhrases.{function, function_head, method_head}
use Rattle.swc_ecma_codegen_grammar.specs.TemplatePhrases.{tpl}
use Rattle.swc_ecma_codegen_grammar.specs.ClassPhrases.{class_head, class_word, class_tail, class_member, method_decorators, method_tail, accessor_tail}
use Rattle.swc_ecma_codegen_grammar.specs.DeclPhrases.{decl, var_decl}
use Rattle.swc_ecma_codegen_grammar.specs.StmtPhrases.{block_stmt}
use Rattle.swc_ecma_codegen_grammar.specs.TypePhrases.{ts_type, ts_type_ann, ts_type_param_decl, ts_type_param_instantiation, ts_fn_param, ts_entity_name}

unfoldable pub expr_part : {X : Type 0} → (X → Role → Phrase) → ExprPart X → Role → Phrase
expr_part f (expr_parts.Pat n) Pattern = pat f n
expr_part f (expr_parts.Pat n) PlainParameter = plain_parameter f n
expr_part f (expr_parts.ObjectLit n) ObjectLiteral = object_lit f n
expr_part f (expr_parts.PropName n) PropertyName = prop_name f n
expr_part f (expr_parts.OptCall n) (ChainCall optional) = chain_call f optional n
expr_part f (expr_parts.AssignTarget n) AssignmentTarget = assign_target f n
expr_part f (expr_parts.Tpl n) Template = tpl f false n
expr_part f (expr_parts.Tpl n) TaggedTemplate = tpl f true n
expr_part f n role = Never

unfoldable pub stmt_part : {X : Type 0} → (X → Role → Phrase) → StmtPart X → Role → Phrase
stmt_part f (stmt_parts.Function n) Function = function f n.value
stmt_part f (stmt_parts.Function n) FunctionHead = function_head n.value
stmt_part f (stmt_parts.Function n) MethodHead = method_head n.value
stmt_part f (stmt_parts.Function n) MethodDecorators = method_decorators f n.value
stmt_part f (stmt_parts.Function n) MethodTail = method_tail f n.value
stmt_part f (stmt_parts.Function n) AccessorTail = accessor_tail f n.value
stmt_part f (stmt_parts.Class n) ClassHead = class_head f n.value
stmt_part f (stmt_parts.Class n) ClassWord = class_word n.value
stmt_part f (stmt_parts.Class n) ClassTail = class_tail f n.value
stmt_part f (stmt_parts.ClassMember n) Member = class_member f n.value
stmt_part f (stmt_parts.BlockStmt n) Block = block_stmt f n
stmt_part f (stmt_parts.Decl n) Declaration = decl f n
stmt_part f (stmt_parts.Decl n) ExportedHead = exported_head f n
stmt_part f (stmt_parts.Decl n) ExportedTail = exported_tail f n
stmt_part f (stmt_parts.ModuleDecl n) ModuleDeclaration = module_decl f n.value
stmt_part f (stmt_parts.VarDecl n) VariableDeclaration = var_decl f n
stmt_part f n role = Never

unfoldable pub ts_part : {X : Type 0} → (X → Role → Phrase) → TsPart X → Role → Phrase
ts_part f (ts_parts.TsType n) AnyType = ts_type f n
ts_part f (ts_parts.TsTypeAnn n) Annotation = ts_type_ann f n
ts_part f (ts_parts.TsTypeParamDecl n) TypeParameters = ts_type_param_decl f n
ts_part f (ts_parts.TsTypeParamInstantiation n) TypeArguments = ts_type_param_instantiation f n
ts_part f (ts_parts.TsFnParam n) SignatureParameter = ts_fn_param f n
ts_part f (ts_parts.TsInterfaceBody n) InterfaceBody = ts_interface_body f n
ts_part f (ts_parts.TsEntityName n) EntityName = ts_entity_name f n
ts_part f (ts_parts.TsNamespaceBody n) NamespaceBody = ts_namespace_body f n
ts_part f (ts_parts.TsNamespaceBody n) DottedBody = dotted_body f n
ts_part f n role = Never
