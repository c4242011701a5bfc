-- Maps of declarations and functions: of each type, over names and what links hold as something else. Made by scripts/dev/make-visit-files.
use Rattle.std.specs.formers.vec.Vec.{mapped as vec_mapped}
use Rattle.swc_ecma_codegen_tree.specs.declared.decls.ClassDecl.{ClassDecl}
use Rattle.swc_ecma_codegen_tree.specs.declared.decls.Decl.{Decl}
use Rattle.swc_ecma_codegen_tree.specs.declared.decls.Decorator.{Decorator}
use Rattle.swc_ecma_codegen_tree.specs.declared.decls.FnDecl.{FnDecl}
use Rattle.swc_ecma_codegen_tree.specs.declared.decls.Function.{Function}
use Rattle.swc_ecma_codegen_tree.specs.declared.idents.Ident.{Ident}
use Rattle.swc_ecma_codegen_tree.specs.declared.decls.Param.{Param}
use Rattle.swc_ecma_codegen_tree.specs.declared.decls.UsingDecl.{UsingDecl}
use Rattle.swc_ecma_codegen_tree.specs.declared.decls.VarDecl.{VarDecl}
use Rattle.swc_ecma_codegen_tree.specs.declared.decls.VarDeclarator.{VarDeclarator}
use Rattle.swc_ecma_codegen_tree.specs.declared.decls.Decl.TheVariants as decls
use Rattle.swc_ecma_codegen_visit.specs.Mapping.{map_box, map_link, map_option}
use Rattle.swc_ecma_codegen_visit.specs.MappedPats.{map_pat}
use Rattle.swc_ecma_codegen_visit.specs.MappedTsDecls.{map_ts_enum_decl, map_ts_interface_decl, map_ts_module_decl, map_ts_type_alias_decl}

abbrev pub map_decorator : {X : Type 0} → (Ident → Ident) → (X → X) → Decorator X → Decorator X
map_decorator g f n = record n { expr = map_link f n.expr }

abbrev pub map_param : {X : Type 0} → (Ident → Ident) → (X → X) → Param X → Param X
map_param g f n = record n { decorators = vec_mapped (map_decorator g f) n.decorators; pat = map_pat g f n.pat }

abbrev pub map_class_decl : {X : Type 0} → (Ident → Ident) → (X → X) → ClassDecl X → ClassDecl X
map_class_decl g f n = record n { ident = g n.ident; class = map_link f n.class }

abbrev pub map_fn_decl : {X : Type 0} → (Ident → Ident) → (X → X) → FnDecl X → FnDecl X
map_fn_decl g f n = record n { ident = g n.ident; function = map_link f n.function }

abbrev pub map_var_declarator : {X : Type 0} → (Ident → Ident) → (X → X) → VarDeclarator X → VarDeclarator X
map_var_declarator g f n = record n { name = map_pat g f n.name; init = map_option (map_link f) n.init }

abbrev pub map_var_decl : {X : Type 0} → (Ident → Ident) → (X → X) → VarDecl X → VarDecl X
map_var_decl g f n = record n { decls = vec_mapped (map_var_declarator g f) n.decls }

abbrev pub map_using_decl : {X : Type 0} → (Ident → Ident) → (X → X) → UsingDecl X → UsingDecl X
map_using_decl g f n = record n { decls = vec_mapped (map_var_declarator g f) n.decls }

abbrev pub map_decl : {X : Type 0} → (Ident → Ident) → (X → X) → Decl X → Decl X
map_decl g f (decls.Class n) = decls.Class (map_class_decl g f n)
map_decl g f (decls.Fn n) = decls.Fn (map_fn_decl g f n)
map_decl g f (decls.Var n) = decls.Var (map_var_decl g f n)
map_decl g f (decls.Using n) = decls.Using (map_using_decl g f n)
map_decl g f (decls.TsInterface n) = decls.TsInterface (map_box (map_ts_interface_decl g f) n)
map_decl g f (decls.TsTypeAlias n) = decls.TsTypeAlias (map_box (map_ts_type_alias_decl g f) n)
map_decl g f (decls.TsEnum n) = decls.TsEnum (map_box (map_ts_enum_decl g f) n)
map_decl g f (decls.TsModule n) = decls.TsModule (map_box (map_ts_module_decl g f) n)

abbrev pub map_function : {X : Type 0} → (Ident → Ident) → (X → X) → Function X → Function X
map_function g f n = record n {
  params = vec_mapped (map_param g f) n.params;
  decorators = vec_mapped (map_decorator g f) n.decorators;
  body = map_option (map_link f) n.body;
  type_params = map_option (map_link f) n.type_params;
  return_type = map_option (map_link f) n.return_type;
}
