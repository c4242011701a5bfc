-- The forms of imports and exports over what links hold as something else.
use Rattle.std.proofs.Common.{◌≡◌, refl, Bool, Option, Some, None, Box, Global, ap, codes}
use Rattle.swc_ecma_codegen_tree.specs.declared.modules.DefaultDecl.{DefaultDecl}
use Rattle.swc_ecma_codegen_tree.specs.declared.modules.DefaultDecl.TheVariants as default_decls
use Rattle.swc_ecma_codegen_tree.specs.declared.modules.ExportDefaultDecl.{ExportDefaultDecl}
use Rattle.swc_ecma_codegen_tree.specs.Links.{ObjectLitBox}
use Rattle.swc_ecma_codegen_tree.specs.declared.links.AnyNode.{AnyNode-F, map-AnyNode}
use Rattle.swc_ecma_codegen_tree.specs.declared.links.AnyNode.TheOpen as nodes
use Rattle.swc_ecma_codegen_tree.specs.declared.parts.StmtPart.TheVariants as stmt_parts
use Rattle.swc_ecma_codegen_tree.specs.declared.decls.Decl.{Decl}
use Rattle.swc_ecma_codegen_tree.specs.declared.decls.Decl.TheVariants as decls
use Rattle.swc_ecma_codegen_tree.specs.declared.lits.Str.{Str}
use Rattle.swc_ecma_codegen_tree.specs.declared.modules.ExportAll.{ExportAll}
use Rattle.swc_ecma_codegen_tree.specs.declared.modules.ImportDecl.{ImportDecl}
use Rattle.swc_ecma_codegen_tree.specs.declared.modules.NamedExport.{NamedExport}
use Rattle.swc_ecma_codegen_tree.specs.declared.programs.ModuleDecl.{ModuleDecl}
use Rattle.swc_ecma_codegen_tree.specs.declared.programs.ModuleDecl.TheVariants as module_decls
use Rattle.swc_ecma_codegen_grammar.specs.declared.roles.Role.TheVariants.{ModuleDeclaration, ExportedHead, ExportedTail, ClassHead, ClassWord, ClassTail, FunctionHead, Function}
use Rattle.swc_ecma_codegen_syntax.specs.declared.parameters.Parameters.{Parameters}
use Rattle.swc_ecma_codegen_syntax.specs.Forms.{map_form, Fixed, Part, ◌⇢◌}
use Rattle.swc_ecma_codegen_syntax.specs.StmtForms.{stmt_form}
use Rattle.swc_ecma_codegen_syntax.specs.ModuleForms.{attributes_form, import_form, from_form, export_named_form, export_all_form, exported_head_form, exported_tail_form, export_decl_form, export_default_form, module_decl_form, default_form, default_decl_form}
use Rattle.swc_ecma_codegen_syntax.specs.NodeForms.{node_form, stmt_part_form}
use Rattle.swc_ecma_codegen_syntax.proofs.MappedStmts.{decl_mapped}
use Rattle.swc_ecma_codegen_syntax.specs.ClassForms.{class_rest_form, class_expr_form}
use Rattle.swc_ecma_codegen_syntax.specs.FunctionForms.{bound_name_form, fn_default_form}
use Rattle.swc_ecma_codegen_syntax.specs.NameForms.{name_form}
use Rattle.swc_ecma_codegen_syntax.specs.declared.nonterminals.Nonterminal.TheVariants as nt
use Rattle.swc_ecma_codegen_syntax.specs.Parameters.{of_class}
use Rattle.swc_ecma_codegen_syntax.proofs.MappedFunctions.{optional_name_mapped}
use Rattle.swc_ecma_codegen_grammar.specs.Phrases.{word}

abbrev as_decl : {X : Type 0} → Box (ModuleDecl X) Global → ModuleDecl X → AnyNode-F X
as_decl b n = nodes.StmtPart (stmt_parts.ModuleDecl (record b { value = n }))

import_by : {X Y : Type 0} (g : X → Y) (called : Bool) (c : Parameters) (b : Box (ModuleDecl X) Global) (n : ImportDecl X) (with_ : Option (ObjectLitBox X)) →
    node_form called c (map-AnyNode X Y g (as_decl b (module_decls.Import (record n { with = with_ })))) ModuleDeclaration ≡ map_form g (import_form c (record n { with = with_ }))
unfolding node_form stmt_part_form module_decl_form import_form attributes_form map_form
import_by g called c b n None = refl
import_by g called c b n (Some w) = refl

named_by : {X Y : Type 0} (g : X → Y) (called : Bool) (c : Parameters) (b : Box (ModuleDecl X) Global) (n : NamedExport X) (src : Option Str) (with_ : Option (ObjectLitBox X)) →
    node_form called c (map-AnyNode X Y g (as_decl b (module_decls.ExportNamed (record n { src = src; with = with_ })))) ModuleDeclaration ≡ map_form g (export_named_form c (record n { src = src; with = with_ }))
unfolding node_form stmt_part_form module_decl_form export_named_form from_form attributes_form map_form
named_by g called c b n None None = refl
named_by g called c b n None (Some w) = refl
named_by g called c b n (Some s) None = refl
named_by g called c b n (Some s) (Some w) = refl

all_by : {X Y : Type 0} (g : X → Y) (called : Bool) (c : Parameters) (b : Box (ModuleDecl X) Global) (n : ExportAll X) (with_ : Option (ObjectLitBox X)) →
    node_form called c (map-AnyNode X Y g (as_decl b (module_decls.ExportAll (record n { with = with_ })))) ModuleDeclaration ≡ map_form g (export_all_form c (record n { with = with_ }))
unfolding node_form stmt_part_form module_decl_form export_all_form attributes_form map_form
all_by g called c b n None = refl
all_by g called c b n (Some w) = refl

default_by : {X Y : Type 0} (g : X → Y) (called : Bool) (c : Parameters) (b : Box (ModuleDecl X) Global) (n : ExportDefaultDecl X) (decl : DefaultDecl X) →
    node_form called c (map-AnyNode X Y g (as_decl b (module_decls.ExportDefaultDecl (record n { decl = decl })))) ModuleDeclaration ≡ map_form g (default_decl_form c (record n { decl = decl }))
unfolding node_form stmt_part_form module_decl_form default_decl_form default_form class_expr_form fn_default_form map_form
default_by g called c b n (default_decls.Class e) =
    ap (λ a. Fixed (word (codes "export")) ⇢ Fixed (word (codes "default")) ⇢ Part nt.DecoratorList c ClassHead (g e.class.node.value) ⇢ Part nt.ClassHead c ClassWord (g e.class.node.value) ⇢ a ⇢ Part nt.ClassTail c ClassTail (g e.class.node.value))
    (optional_name_mapped g (of_class c) e.ident)
default_by g called c b n (default_decls.Fn e) =
    ap (λ a. Fixed (word (codes "export")) ⇢ Fixed (word (codes "default")) ⇢ Part nt.AnyFunctionHead c FunctionHead (g e.function.node.value) ⇢ a ⇢ Part nt.FunctionTail c Function (g e.function.node.value))
    (optional_name_mapped g c e.ident)
default_by g called c b n (default_decls.TsInterfaceDecl i) = refl

decl_by : {X Y : Type 0} (g : X → Y) (called : Bool) (c : Parameters) (b : Box (ModuleDecl X) Global) (n : ModuleDecl X) → node_form called c (map-AnyNode X Y g (as_decl b n)) ModuleDeclaration ≡ map_form g (module_decl_form c n)
unfolding node_form stmt_part_form module_decl_form export_decl_form export_default_form map_form
decl_by g called c b (module_decls.Import n) = import_by g called c b n n.with
decl_by g called c b (module_decls.ExportNamed n) = named_by g called c b n n.src n.with
decl_by g called c b (module_decls.ExportAll n) = all_by g called c b n n.with
decl_by g called c b (module_decls.ExportDefaultDecl n) = default_by g called c b n n.decl
decl_by g called c b n = refl

pub module_decl_mapped : {X Y : Type 0} (g : X → Y) (called : Bool) (c : Parameters) (b : Box (ModuleDecl X) Global) → node_form called c (map-AnyNode X Y g (nodes.StmtPart (stmt_parts.ModuleDecl b))) ModuleDeclaration ≡ map_form g (module_decl_form c b.value)
module_decl_mapped g called c b = decl_by g called c b b.value

pub exported_head_mapped : {X Y : Type 0} (g : X → Y) (called : Bool) (c : Parameters) (n : Decl X) → node_form called c (map-AnyNode X Y g (nodes.StmtPart (stmt_parts.Decl n))) ExportedHead ≡ map_form g (exported_head_form c n)
unfolding node_form stmt_part_form exported_head_form map_form
exported_head_mapped g called c (decls.Class n) = refl
exported_head_mapped g called c n = refl

pub exported_tail_mapped : {X Y : Type 0} (g : X → Y) (called : Bool) (c : Parameters) (n : Decl X) → node_form called c (map-AnyNode X Y g (nodes.StmtPart (stmt_parts.Decl n))) ExportedTail ≡ map_form g (exported_tail_form c n)
unfolding node_form stmt_part_form stmt_form exported_tail_form class_rest_form bound_name_form name_form map_form
exported_tail_mapped g called c (decls.Class n) = refl
exported_tail_mapped g called c (decls.Using n) = refl
exported_tail_mapped g called c n = decl_mapped g called c n
