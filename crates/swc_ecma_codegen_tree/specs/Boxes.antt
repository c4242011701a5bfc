-- The box of each sort that is in one, among the parts that links hold.
use Rattle.std.specs.Prelude.{◌≡◌, refl, Box, Option, Some, None}
use Rattle.std.specs.Option.{option_map}
use Rattle.std.specs.declared.alloc.Global.{Global}
use Rattle.swc_ecma_codegen_tree.specs.declared.parts.StmtPart.{StmtPart}
use Rattle.swc_ecma_codegen_tree.specs.declared.parts.StmtPart.TheVariants as stmt_parts
use Rattle.swc_ecma_codegen_tree.specs.declared.parts.JSXPart.{JSXPart}
use Rattle.swc_ecma_codegen_tree.specs.declared.parts.JSXPart.TheVariants as jsx_parts
use Rattle.swc_ecma_codegen_tree.specs.declared.decls.Function.{Function}
use Rattle.swc_ecma_codegen_tree.specs.declared.classes.Class.{Class}
use Rattle.swc_ecma_codegen_tree.specs.declared.programs.ModuleDecl.{ModuleDecl}
use Rattle.swc_ecma_codegen_tree.specs.declared.classes.ClassMember.{ClassMember}
use Rattle.swc_ecma_codegen_tree.specs.declared.jsx.JSXElement.{JSXElement}
use Rattle.swc_ecma_codegen_tree.specs.LinkTargets.{function_in, class_in, module_decl_in, class_member_in, jsx_element_in}

abbrev pub function_box_in : {N : Type 0} → StmtPart N → Option (Box (Function N) Global)
function_box_in (stmt_parts.Function n) = Some n
function_box_in _ = None

pub function_is_boxed : {N : Type 0} (n : StmtPart N) → function_in n ≡ option_map (λ b. b.value) (function_box_in n)
function_is_boxed (stmt_parts.Function _) = refl
function_is_boxed (stmt_parts.Class _) = refl
function_is_boxed (stmt_parts.BlockStmt _) = refl
function_is_boxed (stmt_parts.Decl _) = refl
function_is_boxed (stmt_parts.ModuleDecl _) = refl
function_is_boxed (stmt_parts.VarDecl _) = refl
function_is_boxed (stmt_parts.ClassMember _) = refl

abbrev pub class_box_in : {N : Type 0} → StmtPart N → Option (Box (Class N) Global)
class_box_in (stmt_parts.Class n) = Some n
class_box_in _ = None

pub class_is_boxed : {N : Type 0} (n : StmtPart N) → class_in n ≡ option_map (λ b. b.value) (class_box_in n)
class_is_boxed (stmt_parts.Function _) = refl
class_is_boxed (stmt_parts.Class _) = refl
class_is_boxed (stmt_parts.BlockStmt _) = refl
class_is_boxed (stmt_parts.Decl _) = refl
class_is_boxed (stmt_parts.ModuleDecl _) = refl
class_is_boxed (stmt_parts.VarDecl _) = refl
class_is_boxed (stmt_parts.ClassMember _) = refl

abbrev pub module_decl_box_in : {N : Type 0} → StmtPart N → Option (Box (ModuleDecl N) Global)
module_decl_box_in (stmt_parts.ModuleDecl n) = Some n
module_decl_box_in _ = None

pub module_decl_is_boxed : {N : Type 0} (n : StmtPart N) → module_decl_in n ≡ option_map (λ b. b.value) (module_decl_box_in n)
module_decl_is_boxed (stmt_parts.Function _) = refl
module_decl_is_boxed (stmt_parts.Class _) = refl
module_decl_is_boxed (stmt_parts.BlockStmt _) = refl
module_decl_is_boxed (stmt_parts.Decl _) = refl
module_decl_is_boxed (stmt_parts.ModuleDecl _) = refl
module_decl_is_boxed (stmt_parts.VarDecl _) = refl
module_decl_is_boxed (stmt_parts.ClassMember _) = refl

abbrev pub class_member_box_in : {N : Type 0} → StmtPart N → Option (Box (ClassMember N) Global)
class_member_box_in (stmt_parts.ClassMember n) = Some n
class_member_box_in _ = None

pub class_member_is_boxed : {N : Type 0} (n : StmtPart N) → class_member_in n ≡ option_map (λ b. b.value) (class_member_box_in n)
class_member_is_boxed (stmt_parts.Function _) = refl
class_member_is_boxed (stmt_parts.Class _) = refl
class_member_is_boxed (stmt_parts.BlockStmt _) = refl
class_member_is_boxed (stmt_parts.Decl _) = refl
class_member_is_boxed (stmt_parts.ModuleDecl _) = refl
class_member_is_boxed (stmt_parts.VarDecl _) = refl
class_member_is_boxed (stmt_parts.ClassMember _) = refl

abbrev pub jsx_element_box_in : {N : Type 0} → JSXPart N → Option (Box (JSXElement N) Global)
jsx_element_box_in (jsx_parts.JSXElement n) = Some n
jsx_element_box_in _ = None

pub jsx_element_is_boxed : {N : Type 0} (n : JSXPart N) → jsx_element_in n ≡ option_map (λ b. b.value) (jsx_element_box_in n)
jsx_element_is_boxed (jsx_parts.JSXElement _) = refl
jsx_element_is_boxed (jsx_parts.JSXFragment _) = refl
jsx_element_is_boxed (jsx_parts.JSXObject _) = refl
