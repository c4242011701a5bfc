-- One map of declarations and functions behind another is one map. Made by scripts/dev/make-visit-files.
use Rattle.std.proofs.Common.{◌≡◌, refl, ap}
use Rattle.swc_ecma_codegen_tree.specs.declared.decls.Decl.{Decl}
use Rattle.swc_ecma_codegen_tree.specs.declared.decls.Function.{Function}
use Rattle.swc_ecma_codegen_tree.specs.declared.idents.Ident.{Ident}
use Rattle.swc_ecma_codegen_tree.specs.declared.decls.Param.{Param}
use Rattle.swc_ecma_codegen_tree.specs.declared.decls.UsingDecl.{UsingDecl}
use Rattle.swc_ecma_codegen_tree.specs.declared.decls.VarDecl.{VarDecl}
use Rattle.swc_ecma_codegen_tree.specs.declared.decls.VarDeclarator.{VarDeclarator}
use Rattle.swc_ecma_codegen_tree.specs.declared.decls.Decl.TheVariants as decls
use Rattle.swc_ecma_codegen_visit.specs.Mapping.{map_link}
use Rattle.swc_ecma_codegen_visit.specs.MappedTsDecls.{map_ts_enum_decl, map_ts_interface_decl, map_ts_module_decl, map_ts_type_alias_decl}
use Rattle.swc_ecma_codegen_visit.specs.MappedDecls.{map_decl, map_decorator, map_function, map_param, map_using_decl, map_var_decl}
use Rattle.swc_ecma_codegen_visit.specs.MappedDecls.{map_var_declarator}
use Rattle.swc_ecma_codegen_visit.proofs.Fused.{box_fused, option_fused, vec_fused}
use Rattle.swc_ecma_codegen_visit.proofs.FusedPats.{fused_pat}
use Rattle.swc_ecma_codegen_visit.proofs.FusedTsDecls.{fused_ts_enum_decl, fused_ts_interface_decl, fused_ts_module_decl}
use Rattle.swc_ecma_codegen_visit.proofs.FusedTsDecls.{fused_ts_type_alias_decl}

pub fused_param : {X : Type 0} (g h : Ident → Ident) (f k : X → X) (n : Param X) → map_param g f (map_param h k n) ≡ map_param (λ x. g (h
    x)) (λ x. f (k x)) n
fused_param g h f k n = λ i. record n {
  decorators = (vec_fused (map_decorator g f) (map_decorator h k) (map_decorator (λ x. g (h x)) (λ x. f (k x))) (λ x. refl)) n.decorators i;
  pat = (fused_pat g h f k) n.pat i;
}

pub fused_var_declarator : {X : Type 0} (g h : Ident → Ident) (f k : X → X) (n : VarDeclarator X) → map_var_declarator g f
    (map_var_declarator h k n) ≡ map_var_declarator (λ x. g (h x)) (λ x. f (k x)) n
fused_var_declarator g h f k n = λ i. record n {
  name = (fused_pat g h f k) n.name i;
  init = (option_fused (map_link f) (map_link k) (map_link (λ x. f (k x))) (λ x. refl)) n.init i;
}

pub fused_var_decl : {X : Type 0} (g h : Ident → Ident) (f k : X → X) (n : VarDecl X) → map_var_decl g f (map_var_decl h k n) ≡ map_var_decl
    (λ x. g (h x)) (λ x. f (k x)) n
fused_var_decl g h f k n = λ i. record n {
  decls = (vec_fused (map_var_declarator g f) (map_var_declarator h k) (map_var_declarator (λ x. g (h x)) (λ x. f (k x))) (fused_var_declarator g h f k)) n.decls i;
}

pub fused_using_decl : {X : Type 0} (g h : Ident → Ident) (f k : X → X) (n : UsingDecl X) → map_using_decl g f (map_using_decl h k n) ≡
    map_using_decl (λ x. g (h x)) (λ x. f (k x)) n
fused_using_decl g h f k n = λ i. record n {
  decls = (vec_fused (map_var_declarator g f) (map_var_declarator h k) (map_var_declarator (λ x. g (h x)) (λ x. f (k x))) (fused_var_declarator g h f k)) n.decls i;
}

pub fused_decl : {X : Type 0} (g h : Ident → Ident) (f k : X → X) (n : Decl X) → map_decl g f (map_decl h k n) ≡ map_decl (λ x. g (h x)) (λ
    x. f (k x)) n
fused_decl g h f k (decls.Class n) = refl
fused_decl g h f k (decls.Fn n) = refl
fused_decl g h f k (decls.Var n) = ap decls.Var ((fused_var_decl g h f k) n)
fused_decl g h f k (decls.Using n) = ap decls.Using ((fused_using_decl g h f k) n)
fused_decl g h f k (decls.TsInterface n) = ap decls.TsInterface ((box_fused (map_ts_interface_decl g f) (map_ts_interface_decl h k)
    (map_ts_interface_decl (λ x. g (h x)) (λ x. f (k x))) (fused_ts_interface_decl g h f k)) n)
fused_decl g h f k (decls.TsTypeAlias n) = ap decls.TsTypeAlias ((box_fused (map_ts_type_alias_decl g f) (map_ts_type_alias_decl h k)
    (map_ts_type_alias_decl (λ x. g (h x)) (λ x. f (k x))) (fused_ts_type_alias_decl g h f k)) n)
fused_decl g h f k (decls.TsEnum n) = ap decls.TsEnum ((box_fused (map_ts_enum_decl g f) (map_ts_enum_decl h k) (map_ts_enum_decl (λ x. g (h
    x)) (λ x. f (k x))) (fused_ts_enum_decl g h f k)) n)
fused_decl g h f k (decls.TsModule n) = ap decls.TsModule ((box_fused (map_ts_module_decl g f) (map_ts_module_decl h k) (map_ts_module_decl
    (λ x. g (h x)) (λ x. f (k x))) (fused_ts_module_decl g h f k)) n)

pub fused_function : {X : Type 0} (g h : Ident → Ident) (f k : X → X) (n : Function X) → map_function g f (map_function h k n) ≡
    map_function (λ x. g (h x)) (λ x. f (k x)) n
fused_function g h f k n = λ i. record n {
  params = (vec_fused (map_param g f) (map_param h k) (map_param (λ x. g (h x)) (λ x. f (k x))) (fused_param g h f k)) n.params i;
  decorators = (vec_fused (map_decorator g f) (map_decorator h k) (map_decorator (λ x. g (h x)) (λ x. f (k x))) (λ x. refl)) n.decorators i;
  body = (option_fused (map_link f) (map_link k) (map_link (λ x. f (k x))) (λ x. refl)) n.body i;
  type_params = (option_fused (map_link f) (map_link k) (map_link (λ x. f (k x))) (λ x. refl)) n.type_params i;
  return_type = (option_fused (map_link f) (map_link k) (map_link (λ x. f (k x))) (λ x. refl)) n.return_type i;
}
