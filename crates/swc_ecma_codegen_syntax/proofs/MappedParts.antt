-- The forms of parts of statements over what links hold as something else.
use Rattle.std.proofs.Common.{◌≡◌, Bool, refl}
use Rattle.swc_ecma_codegen_tree.specs.declared.links.AnyNode.{map-AnyNode}
use Rattle.swc_ecma_codegen_tree.specs.declared.links.AnyNode.TheOpen as nodes
use Rattle.swc_ecma_codegen_tree.specs.declared.decls.Decl.{Decl}
use Rattle.swc_ecma_codegen_tree.specs.declared.decls.Decl.TheVariants as decls
use Rattle.swc_ecma_codegen_tree.specs.declared.parts.StmtPart.{StmtPart}
use Rattle.swc_ecma_codegen_tree.specs.declared.parts.StmtPart.TheVariants as stmt_parts
use Rattle.swc_ecma_codegen_grammar.specs.declared.roles.Role.{Role}
use Rattle.swc_ecma_codegen_grammar.specs.declared.roles.Role.TheVariants.{Block, VariableDeclaration, ModuleDeclaration, ExportedHead, ExportedTail, Function, FunctionHead, MethodHead, MethodTail, MethodDecorators, AccessorTail, ClassHead, ClassWord, ClassTail, Member}
use Rattle.swc_ecma_codegen_syntax.specs.declared.parameters.Parameters.{Parameters}
use Rattle.swc_ecma_codegen_syntax.specs.Forms.{map_form}
use Rattle.swc_ecma_codegen_syntax.specs.DeclForms.{decl_nonterminal}
use Rattle.swc_ecma_codegen_syntax.specs.NodeForms.{stmt_part_form, stmt_part_nonterminal, node_form, node_nonterminal}
use Rattle.swc_ecma_codegen_grammar.specs.FunctionPhrases.{function_head, method_head}
use Rattle.swc_ecma_codegen_syntax.proofs.MappedFunctions.{function_mapped, rest_mapped}
use Rattle.swc_ecma_codegen_syntax.proofs.MappedStmts.{var_decl_mapped, block_mapped}
use Rattle.swc_ecma_codegen_syntax.proofs.MappedModules.{module_decl_mapped, exported_head_mapped, exported_tail_mapped}
use Rattle.swc_ecma_codegen_grammar.specs.ClassPhrases.{class_word}
use Rattle.swc_ecma_codegen_syntax.specs.ClassForms.{class_word_form}
use Rattle.swc_ecma_codegen_syntax.proofs.MappedClasses.{method_decorators_mapped, accessor_mapped, accessor_sort_mapped, class_head_mapped, class_tail_mapped, class_member_mapped}

pub stmt_part_mapped : {X Y : Type 0} (g : X → Y) (called : Bool) (c : Parameters) (n : StmtPart X) (role : Role) → node_form called c (map-AnyNode X Y g (nodes.StmtPart n)) role ≡ map_form g (stmt_part_form c n role)
unfolding node_form stmt_part_form function_head method_head class_word_form class_word map_form
stmt_part_mapped g called c (stmt_parts.BlockStmt n) Block = block_mapped g called c n
stmt_part_mapped g called c (stmt_parts.VarDecl n) VariableDeclaration = var_decl_mapped g called c n
stmt_part_mapped g called c (stmt_parts.Decl n) ExportedHead = exported_head_mapped g called c n
stmt_part_mapped g called c (stmt_parts.Decl n) ExportedTail = exported_tail_mapped g called c n
stmt_part_mapped g called c (stmt_parts.ModuleDecl n) ModuleDeclaration = module_decl_mapped g called c n
stmt_part_mapped g called c (stmt_parts.Function n) Function = function_mapped g called c n
stmt_part_mapped g called c (stmt_parts.Function n) FunctionHead = refl
stmt_part_mapped g called c (stmt_parts.Function n) MethodHead = refl
stmt_part_mapped g called c (stmt_parts.Function n) MethodTail = rest_mapped g called c n
stmt_part_mapped g called c (stmt_parts.Function n) MethodDecorators = method_decorators_mapped g called c n
stmt_part_mapped g called c (stmt_parts.Function n) AccessorTail = accessor_mapped g called c n
stmt_part_mapped g called c (stmt_parts.Class n) ClassHead = class_head_mapped g called c n
stmt_part_mapped g called c (stmt_parts.Class n) ClassWord = refl
stmt_part_mapped g called c (stmt_parts.Class n) ClassTail = class_tail_mapped g called c n
stmt_part_mapped g called c (stmt_parts.ClassMember n) Member = class_member_mapped g called c n
stmt_part_mapped g called c n role = refl

tail_sort_mapped : {X Y : Type 0} (g : X → Y) (called : Bool) (c : Parameters) (n : Decl X) → node_nonterminal called c (map-AnyNode X Y g (nodes.StmtPart (stmt_parts.Decl n))) ExportedTail ≡ decl_nonterminal n
unfolding node_nonterminal stmt_part_nonterminal decl_nonterminal
tail_sort_mapped g called c (decls.Var n) = refl
tail_sort_mapped g called c (decls.Fn n) = refl
tail_sort_mapped g called c n = refl

pub stmt_part_sort_mapped : {X Y : Type 0} (g : X → Y) (called : Bool) (c : Parameters) (n : StmtPart X) (role : Role) → node_nonterminal called c (map-AnyNode X Y g (nodes.StmtPart n)) role ≡ stmt_part_nonterminal n role
unfolding node_nonterminal stmt_part_nonterminal
stmt_part_sort_mapped g called c (stmt_parts.Decl n) ExportedTail = tail_sort_mapped g called c n
stmt_part_sort_mapped g called c (stmt_parts.Function n) FunctionHead = refl
stmt_part_sort_mapped g called c (stmt_parts.Function n) AccessorTail = accessor_sort_mapped g called c n
stmt_part_sort_mapped g called c n role = refl
