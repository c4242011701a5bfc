-- What is written of modules sees what links hold through `asks` and `items` alone.
use Rattle.std.proofs.Common.{◌≡◌, refl, ap, true, codes, Option, Some, None, Box, Global}
use Rattle.swc_ecma_codegen_tree.specs.Links.{ObjectLitBox, TsTypeParamDeclBox}
use Rattle.swc_ecma_codegen_tree.specs.declared.lits.Str.{Str}
use Rattle.swc_ecma_codegen_tree.specs.declared.links.AnyNode.{AnyNode-F, map-AnyNode}
use Rattle.swc_ecma_codegen_tree.specs.declared.links.AnyNode.TheOpen as nodes
use Rattle.swc_ecma_codegen_tree.specs.declared.parts.StmtPart.TheVariants as stmt_parts
use Rattle.swc_ecma_codegen_tree.specs.declared.modules.DefaultDecl.{DefaultDecl}
use Rattle.swc_ecma_codegen_tree.specs.declared.modules.DefaultDecl.TheVariants as default_decls
use Rattle.swc_ecma_codegen_tree.specs.declared.modules.ExportAll.{ExportAll}
use Rattle.swc_ecma_codegen_tree.specs.declared.modules.ExportDefaultDecl.{ExportDefaultDecl}
use Rattle.swc_ecma_codegen_tree.specs.declared.modules.ImportDecl.{ImportDecl}
use Rattle.swc_ecma_codegen_tree.specs.declared.modules.NamedExport.{NamedExport}
use Rattle.swc_ecma_codegen_tree.specs.declared.ts_decls.TsImportEqualsDecl.{TsImportEqualsDecl}
use Rattle.swc_ecma_codegen_tree.specs.declared.ts_decls.TsInterfaceDecl.{TsInterfaceDecl}
use Rattle.swc_ecma_codegen_tree.specs.declared.ts_decls.TsModuleRef.{TsModuleRef}
use Rattle.swc_ecma_codegen_tree.specs.declared.ts_decls.TsModuleRef.TheVariants as module_refs
use Rattle.swc_ecma_codegen_tree.specs.declared.programs.ModuleDecl.{ModuleDecl}
use Rattle.swc_ecma_codegen_tree.specs.declared.programs.ModuleDecl.TheVariants as module_decls
use Rattle.swc_ecma_codegen_spans.specs.Spans.{module_decl_span}
use Rattle.swc_ecma_codegen_tokens.specs.Run.{Plan, Part}
use Rattle.swc_ecma_codegen_grammar.proofs.MappedTsDecls.{by_args}
use Rattle.swc_ecma_codegen_tokens.specs.Words.{keyword, space, formatting_line, start_of, leading_comments, trailing_comments, formatting_space, semi, end_of}
use Rattle.swc_ecma_codegen_emit.specs.declared.nodes.Context.TheVariants.{Plain}
use Rattle.swc_ecma_codegen_emit.specs.Places.{Place, Whole}
use Rattle.swc_ecma_codegen_emit.specs.Annotations.{type_args, type_params}
use Rattle.swc_ecma_codegen_emit.specs.Answers.{Answers}
use Rattle.swc_ecma_codegen_emit.specs.ClassExprs.{class_expr}
use Rattle.swc_ecma_codegen_emit.specs.FunctionExprs.{fn_expr, optional_name}
use Rattle.swc_ecma_codegen_emit.specs.Modules.{attributes, source_end, from_clause, import_tail, import_parts, import_decl, export_tail, export_named, all_tail, export_all, export_decl, export_default, default_decl, export_default_decl, export_default_expr, module_decl_by, module_decl, export_clause, ends_with_name, from_word, type_word}
use Rattle.swc_ecma_codegen_emit.specs.Parts.{stmt_part}
use Rattle.swc_ecma_codegen_emit.specs.Exprs.{ident, blank}
use Rattle.swc_ecma_codegen_emit.specs.Tree.{node_items}
use Rattle.swc_ecma_codegen_emit.specs.TsDecls.{declare_word, ts_expr_with_type_args, ts_interface_decl, ts_module_ref, ts_import_equals_decl, ts_export_assignment}
use Rattle.swc_ecma_codegen_emit.proofs.MappedTsDecls.{extends_mapped}
use Rattle.swc_ecma_codegen_tokens.specs.Lits.{str_lit}
use Rattle.swc_ecma_codegen_emit.proofs.MappedOptions.{by_one}

abbrev as_decl : {X : Type 0} → Box (ModuleDecl X) Global → ModuleDecl X → AnyNode-F X
as_decl b n = nodes.StmtPart (stmt_parts.ModuleDecl (record b { value = n }))

import_by : {X Y : Type 0} (g : X → Y) (asks : Y → Answers) (items : Y → Place → Part) (b : Box (ModuleDecl X) Global) (n : ImportDecl X) (with_ : Option (ObjectLitBox X)) (place : Place) (rest : Plan) → node_items asks items (map-AnyNode X Y g (as_decl b (module_decls.Import (record n { with = with_ })))) place rest ≡ module_decl (λ x. asks (g x)) (λ x. items (g x)) (module_decls.Import (record n { with = with_ })) rest
unfolding node_items stmt_part module_decl module_decl_by module_decl_span import_decl import_parts import_tail source_end attributes
import_by g asks items b n None place rest = refl
import_by g asks items b n (Some w) place rest = refl

named_by : {X Y : Type 0} (g : X → Y) (asks : Y → Answers) (items : Y → Place → Part) (b : Box (ModuleDecl X) Global) (n : NamedExport X) (src : Option Str) (place : Place) (with_ : Option (ObjectLitBox X)) (rest : Plan) → node_items asks items (map-AnyNode X Y g (as_decl b (module_decls.ExportNamed (record n { src = src; with = with_ })))) place rest ≡ module_decl (λ x. asks (g x)) (λ x. items (g x)) (module_decls.ExportNamed (record n { src = src; with = with_ })) rest
unfolding node_items stmt_part module_decl module_decl_by module_decl_span export_named export_tail from_clause attributes
named_by g asks items b n None place = λ w rest. refl
named_by g asks items b n (Some s) place = by_one _ (attributes items) (attributes (λ x. items (g x)))
    (λ w rest. leading_comments n.span.lo (leading_comments n.span.lo (start_of n.span (keyword None (codes "export") (type_word n.type_only (formatting_space (export_clause n.span n.specifiers.items
    (blank (ends_with_name n.specifiers.items) (from_word (str_lit s (w (semi (end_of n.span (trailing_comments true n.span.hi (formatting_line rest))))))))))))))) (elim [ None ↦ λ z. refl | Some t ↦ λ z. refl ])

all_by : {X Y : Type 0} (g : X → Y) (asks : Y → Answers) (items : Y → Place → Part) (b : Box (ModuleDecl X) Global) (n : ExportAll X) (with_ : Option (ObjectLitBox X)) (place : Place) (rest : Plan) → node_items asks items (map-AnyNode X Y g (as_decl b (module_decls.ExportAll (record n { with = with_ })))) place rest ≡ module_decl (λ x. asks (g x)) (λ x. items (g x)) (module_decls.ExportAll (record n { with = with_ })) rest
unfolding node_items stmt_part module_decl module_decl_by module_decl_span export_all all_tail source_end attributes
all_by g asks items b n None place rest = refl
all_by g asks items b n (Some w) place rest = refl

default_interface : {X Y : Type 0} (g : X → Y) (asks : Y → Answers) (items : Y → Place → Part) (b : Box (ModuleDecl X) Global) (n : ExportDefaultDecl X) (i : TsInterfaceDecl X) (type_params : Option (TsTypeParamDeclBox X)) (place : Place) (rest : Plan) → node_items asks items (map-AnyNode X Y g (as_decl b (module_decls.ExportDefaultDecl (record n { decl = default_decls.TsInterfaceDecl (record i { type_params = type_params }) })))) place rest ≡ module_decl (λ x. asks (g x)) (λ x. items (g x)) (module_decls.ExportDefaultDecl (record n { decl = default_decls.TsInterfaceDecl (record i { type_params = type_params }) })) rest
unfolding node_items stmt_part module_decl module_decl_by module_decl_span export_default_decl default_decl ts_interface_decl ts_expr_with_type_args type_params type_args
default_interface {X} {Y} g asks items b n i None place rest = ap (λ z. leading_comments n.span.lo (leading_comments n.span.lo (start_of n.span (export_default (space (leading_comments i.span.lo (declare_word i.declare (keyword None (codes "interface") (space (ident i.id z)))))))))) (extends_mapped {X = X} {Y = Y} _ items (λ x. items (g x)) (by_args {X = X} _ (λ e. refl) (λ e t. refl)) i.span i.extends.items (formatting_space (items (g i.body.node.value) (Whole Plain) (trailing_comments true n.span.hi (formatting_line rest)))))
default_interface {X} {Y} g asks items b n i (Some t) place rest = ap (λ z. leading_comments n.span.lo (leading_comments n.span.lo (start_of n.span (export_default (space (leading_comments i.span.lo (declare_word i.declare (keyword None (codes "interface") (space (ident i.id (items (g t.node.value) (Whole Plain) z))))))))))) (extends_mapped {X = X} {Y = Y} _ items (λ x. items (g x)) (by_args {X = X} _ (λ e. refl) (λ e t. refl)) i.span i.extends.items (formatting_space (items (g i.body.node.value) (Whole Plain) (trailing_comments true n.span.hi (formatting_line rest)))))

default_by : {X Y : Type 0} (g : X → Y) (asks : Y → Answers) (items : Y → Place → Part) (b : Box (ModuleDecl X) Global) (n : ExportDefaultDecl X) (decl : DefaultDecl X) (place : Place) (rest : Plan) → node_items asks items (map-AnyNode X Y g (as_decl b (module_decls.ExportDefaultDecl (record n { decl = decl })))) place rest ≡ module_decl (λ x. asks (g x)) (λ x. items (g x)) (module_decls.ExportDefaultDecl (record n { decl = decl })) rest
unfolding node_items stmt_part module_decl module_decl_by module_decl_span export_default_decl default_decl class_expr fn_expr optional_name
default_by g asks items b n (default_decls.Class c) place rest = refl
default_by g asks items b n (default_decls.Fn c) place rest = refl
default_by g asks items b n (default_decls.TsInterfaceDecl i) place rest = default_interface g asks items b n i i.type_params place rest

equals_by : {X Y : Type 0} (g : X → Y) (asks : Y → Answers) (items : Y → Place → Part) (b : Box (ModuleDecl X) Global) (n : TsImportEqualsDecl X) (ref : TsModuleRef X) (place : Place) (rest : Plan) → node_items asks items (map-AnyNode X Y g (as_decl b (module_decls.TsImportEquals (record n { module_ref = ref })))) place rest ≡ module_decl (λ x. asks (g x)) (λ x. items (g x)) (module_decls.TsImportEquals (record n { module_ref = ref })) rest
unfolding node_items stmt_part module_decl module_decl_by module_decl_span ts_import_equals_decl ts_module_ref
equals_by g asks items b n (module_refs.TsEntityName name) place rest = refl
equals_by g asks items b n (module_refs.TsExternalModuleRef name) place rest = refl

decl_by : {X Y : Type 0} (g : X → Y) (asks : Y → Answers) (items : Y → Place → Part) (b : Box (ModuleDecl X) Global) (n : ModuleDecl X) (place : Place) (rest : Plan) → node_items asks items (map-AnyNode X Y g (as_decl b n)) place rest ≡ module_decl (λ x. asks (g x)) (λ x. items (g x)) n rest
unfolding node_items stmt_part module_decl module_decl_by module_decl_span export_decl export_default_expr ts_export_assignment
decl_by g asks items b (module_decls.Import n) place rest = import_by g asks items b n n.with place rest
decl_by g asks items b (module_decls.ExportNamed n) place rest = named_by g asks items b n n.src place n.with rest
decl_by g asks items b (module_decls.ExportAll n) place rest = all_by g asks items b n n.with place rest
decl_by g asks items b (module_decls.ExportDefaultDecl n) place rest = default_by g asks items b n n.decl place rest
decl_by g asks items b (module_decls.TsImportEquals n) place rest = equals_by g asks items b n n.module_ref place rest
decl_by g asks items b n place rest = refl

pub module_decl_mapped : {X Y : Type 0} (g : X → Y) (asks : Y → Answers) (items : Y → Place → Part) (b : Box (ModuleDecl X) Global) (place : Place) (rest : Plan) → node_items asks items (map-AnyNode X Y g (nodes.StmtPart (stmt_parts.ModuleDecl b))) place rest ≡ module_decl (λ x. asks (g x)) (λ x. items (g x)) b.value rest
module_decl_mapped g asks items b place rest = decl_by g asks items b b.value place rest
