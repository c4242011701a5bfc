-- Productions of modules see what links hold through f alone.
use Rattle.std.proofs.Common.{◌≡◌, refl, ap, codes, Option, Some, None, Box, Global}
use Rattle.swc_ecma_codegen_tree.specs.Links.{ObjectLitBox, TsTypeParamDeclBox}
use Rattle.swc_ecma_codegen_tree.specs.declared.links.AnyNode.{AnyNode-F, map-AnyNode}
use Rattle.swc_ecma_codegen_tree.specs.declared.links.AnyNode.TheOpen as nodes
use Rattle.swc_ecma_codegen_tree.specs.declared.parts.StmtPart.TheVariants as stmt_parts
use Rattle.swc_ecma_codegen_tree.specs.declared.decls.Decl.{Decl}
use Rattle.swc_ecma_codegen_tree.specs.declared.lits.Str.{Str}
use Rattle.swc_ecma_codegen_tree.specs.declared.decls.Decl.TheVariants as decls
use Rattle.swc_ecma_codegen_tree.specs.declared.modules.DefaultDecl.{DefaultDecl}
use Rattle.swc_ecma_codegen_tree.specs.declared.modules.DefaultDecl.TheVariants as default_decls
use Rattle.swc_ecma_codegen_tree.specs.declared.modules.ExportAll.{ExportAll}
use Rattle.swc_ecma_codegen_tree.specs.declared.modules.ExportDefaultDecl.{ExportDefaultDecl}
use Rattle.swc_ecma_codegen_tree.specs.declared.modules.ImportDecl.{ImportDecl}
use Rattle.swc_ecma_codegen_tree.specs.declared.modules.NamedExport.{NamedExport}
use Rattle.swc_ecma_codegen_tree.specs.declared.ts_decls.TsImportEqualsDecl.{TsImportEqualsDecl}
use Rattle.swc_ecma_codegen_tree.specs.declared.ts_decls.TsInterfaceDecl.{TsInterfaceDecl}
use Rattle.swc_ecma_codegen_tree.specs.declared.ts_decls.TsModuleRef.{TsModuleRef}
use Rattle.swc_ecma_codegen_tree.specs.declared.ts_decls.TsModuleRef.TheVariants as module_refs
use Rattle.swc_ecma_codegen_tree.specs.declared.programs.ModuleDecl.{ModuleDecl}
use Rattle.swc_ecma_codegen_tree.specs.declared.programs.ModuleDecl.TheVariants as module_decls
use Rattle.swc_ecma_codegen_grammar.specs.Phrases.{Phrase, Nothing, ◌>◌, word}
use Rattle.swc_ecma_codegen_grammar.specs.declared.roles.Role.{Role}
use Rattle.swc_ecma_codegen_grammar.specs.declared.roles.Role.TheVariants.{ModuleDeclaration, ExportedHead, ExportedTail}
use Rattle.swc_ecma_codegen_grammar.specs.ClassPhrases.{class_expr}
use Rattle.swc_ecma_codegen_grammar.specs.FunctionPhrases.{fn_expr}
use Rattle.swc_ecma_codegen_grammar.specs.ModulePhrases.{attributes, from_clause, import_decl, export_named, export_all, exported_head, exported_tail, export_decl, default_decl, export_default_decl, export_default_expr, module_decl}
use Rattle.swc_ecma_codegen_grammar.specs.AnnotationPhrases.{type_args, type_params}
use Rattle.swc_ecma_codegen_grammar.specs.MemberPhrases.{interface_body_at}
use Rattle.swc_ecma_codegen_grammar.specs.NamePhrases.{ident}
use Rattle.swc_ecma_codegen_grammar.specs.TypePhrases.{params_at}
use Rattle.swc_ecma_codegen_grammar.specs.PartPhrases.{stmt_part}
use Rattle.swc_ecma_codegen_grammar.specs.TsDeclPhrases.{declare_word, ts_expr_with_type_args, ts_interface_decl, ts_module_ref, ts_import_equals_decl, ts_export_assignment}
use Rattle.swc_ecma_codegen_grammar.specs.TreePhrases.{node_phrase}
use Rattle.swc_ecma_codegen_grammar.proofs.MappedStmts.{decl_mapped}
use Rattle.swc_ecma_codegen_grammar.proofs.MappedTsDecls.{extends_mapped, by_args}

abbrev as_decl : {X : Type 0} → Box (ModuleDecl X) Global → ModuleDecl X → AnyNode-F X
as_decl b n = nodes.StmtPart (stmt_parts.ModuleDecl (record b { value = n }))

import_by : {X Y : Type 0} (g : X → Y) (f : Y → Role → Phrase) (b : Box (ModuleDecl X) Global) (n : ImportDecl X) (with_ : Option (ObjectLitBox X)) → node_phrase f (map-AnyNode X Y g (as_decl b (module_decls.Import (record n { with = with_ })))) ModuleDeclaration ≡ import_decl (λ x. f (g x)) (record n { with = with_ })
unfolding node_phrase stmt_part module_decl import_decl attributes
import_by g f b n None = refl
import_by g f b n (Some w) = refl

named_by : {X Y : Type 0} (g : X → Y) (f : Y → Role → Phrase) (b : Box (ModuleDecl X) Global) (n : NamedExport X) (src : Option Str) (with_ : Option (ObjectLitBox X)) → node_phrase f (map-AnyNode X Y g (as_decl b (module_decls.ExportNamed (record n { src = src; with = with_ })))) ModuleDeclaration ≡ export_named (λ x. f (g x)) (record n { src = src; with = with_ })
unfolding node_phrase stmt_part module_decl export_named from_clause attributes
named_by g f b n None None = refl
named_by g f b n None (Some w) = refl
named_by g f b n (Some s) None = refl
named_by g f b n (Some s) (Some w) = refl

all_by : {X Y : Type 0} (g : X → Y) (f : Y → Role → Phrase) (b : Box (ModuleDecl X) Global) (n : ExportAll X) (with_ : Option (ObjectLitBox X)) → node_phrase f (map-AnyNode X Y g (as_decl b (module_decls.ExportAll (record n { with = with_ })))) ModuleDeclaration ≡ export_all (λ x. f (g x)) (record n { with = with_ })
unfolding node_phrase stmt_part module_decl export_all attributes
all_by g f b n None = refl
all_by g f b n (Some w) = refl

default_interface : {X Y : Type 0} (g : X → Y) (f : Y → Role → Phrase) (b : Box (ModuleDecl X) Global) (n : ExportDefaultDecl X) (i : TsInterfaceDecl X) (type_params : Option (TsTypeParamDeclBox X)) → node_phrase f (map-AnyNode X Y g (as_decl b (module_decls.ExportDefaultDecl (record n { decl = default_decls.TsInterfaceDecl (record i { type_params = type_params }) })))) ModuleDeclaration ≡ export_default_decl (λ x. f (g x)) (record n { decl = default_decls.TsInterfaceDecl (record i { type_params = type_params }) })
unfolding node_phrase stmt_part module_decl export_default_decl default_decl ts_interface_decl ts_expr_with_type_args type_params type_args
default_interface {X} {Y} g f b n i None = ap (λ z. word (codes "export") > word (codes "default") > declare_word i.declare > word (codes "interface") > ident i.id > Nothing > z > interface_body_at (λ x. f (g x)) i.body) (extends_mapped {X = X} {Y = Y} _ f (λ x. f (g x)) (by_args {X = X} _ (λ e. refl) (λ e t. refl)) i.extends.items)
default_interface {X} {Y} g f b n i (Some t) = ap (λ z. word (codes "export") > word (codes "default") > declare_word i.declare > word (codes "interface") > ident i.id > params_at (λ x. f (g x)) t > z > interface_body_at (λ x. f (g x)) i.body) (extends_mapped {X = X} {Y = Y} _ f (λ x. f (g x)) (by_args {X = X} _ (λ e. refl) (λ e t. refl)) i.extends.items)

default_by : {X Y : Type 0} (g : X → Y) (f : Y → Role → Phrase) (b : Box (ModuleDecl X) Global) (n : ExportDefaultDecl X) (decl : DefaultDecl X) → node_phrase f (map-AnyNode X Y g (as_decl b (module_decls.ExportDefaultDecl (record n { decl = decl })))) ModuleDeclaration ≡ export_default_decl (λ x. f (g x)) (record n { decl = decl })
unfolding node_phrase stmt_part module_decl export_default_decl default_decl class_expr fn_expr
default_by g f b n (default_decls.Class c) = refl
default_by g f b n (default_decls.Fn c) = refl
default_by g f b n (default_decls.TsInterfaceDecl i) = default_interface g f b n i i.type_params

equals_by : {X Y : Type 0} (g : X → Y) (f : Y → Role → Phrase) (b : Box (ModuleDecl X) Global) (n : TsImportEqualsDecl X) (ref : TsModuleRef X) → node_phrase f (map-AnyNode X Y g (as_decl b (module_decls.TsImportEquals (record n { module_ref = ref })))) ModuleDeclaration ≡ ts_import_equals_decl (λ x. f (g x)) (record n { module_ref = ref })
unfolding node_phrase stmt_part module_decl ts_import_equals_decl ts_module_ref
equals_by g f b n (module_refs.TsEntityName name) = refl
equals_by g f b n (module_refs.TsExternalModuleRef name) = refl

decl_by : {X Y : Type 0} (g : X → Y) (f : Y → Role → Phrase) (b : Box (ModuleDecl X) Global) (n : ModuleDecl X) → node_phrase f (map-AnyNode X Y g (as_decl b n)) ModuleDeclaration ≡ module_decl (λ x. f (g x)) n
unfolding node_phrase stmt_part module_decl export_decl export_default_expr ts_export_assignment
decl_by g f b (module_decls.Import n) = import_by g f b n n.with
decl_by g f b (module_decls.ExportNamed n) = named_by g f b n n.src n.with
decl_by g f b (module_decls.ExportAll n) = all_by g f b n n.with
decl_by g f b (module_decls.ExportDefaultDecl n) = default_by g f b n n.decl
decl_by g f b (module_decls.TsImportEquals n) = equals_by g f b n n.module_ref
decl_by g f b n = refl

pub module_decl_mapped : {X Y : Type 0} (g : X → Y) (f : Y → Role → Phrase) (b : Box (ModuleDecl X) Global) → node_phrase f (map-AnyNode X Y g (nodes.StmtPart (stmt_parts.ModuleDecl b))) ModuleDeclaration ≡ module_decl (λ x. f (g x)) b.value
module_decl_mapped g f b = decl_by g f b b.value

pub exported_head_mapped : {X Y : Type 0} (g : X → Y) (f : Y → Role → Phrase) (n : Decl X) → node_phrase f (map-AnyNode X Y g (nodes.StmtPart (stmt_parts.Decl n))) ExportedHead ≡ exported_head (λ x. f (g x)) n
unfolding node_phrase stmt_part exported_head
exported_head_mapped g f (decls.Class n) = refl
exported_head_mapped g f n = refl

pub exported_tail_mapped : {X Y : Type 0} (g : X → Y) (f : Y → Role → Phrase) (n : Decl X) → node_phrase f (map-AnyNode X Y g (nodes.StmtPart (stmt_parts.Decl n))) ExportedTail ≡ exported_tail (λ x. f (g x)) n
unfolding node_phrase stmt_part exported_tail
exported_tail_mapped g f (decls.Class n) = refl
exported_tail_mapped g f n = decl_mapped g f n
