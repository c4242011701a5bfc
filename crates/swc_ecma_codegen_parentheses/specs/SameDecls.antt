-- Declarations and functions that are the same but for what their links hold: that stands in the relation `m`.
use Rattle.std.specs.Prelude.{◌≡◌, List}
use Rattle.swc_ecma_codegen_tree.specs.declared.decls.ClassDecl.{ClassDecl}
use Rattle.swc_ecma_codegen_tree.specs.declared.decls.Decl.{Decl}
use Rattle.swc_ecma_codegen_tree.specs.declared.decls.Decl.TheVariants as decls
use Rattle.swc_ecma_codegen_tree.specs.declared.decls.Decorator.{Decorator}
use Rattle.swc_ecma_codegen_tree.specs.declared.decls.FnDecl.{FnDecl}
use Rattle.swc_ecma_codegen_tree.specs.declared.decls.Function.{Function}
use Rattle.swc_ecma_codegen_tree.specs.declared.decls.Param.{Param}
use Rattle.swc_ecma_codegen_tree.specs.declared.decls.UsingDecl.{UsingDecl}
use Rattle.swc_ecma_codegen_tree.specs.declared.decls.VarDecl.{VarDecl}
use Rattle.swc_ecma_codegen_tree.specs.declared.decls.VarDeclarator.{VarDeclarator}
use Rattle.swc_ecma_codegen_parentheses.specs.declared.mends.Usage.{Usage}
use Rattle.swc_ecma_codegen_parentheses.specs.declared.mends.Usage.TheVariants as usages
use Rattle.swc_ecma_codegen_parentheses.specs.declared.operands.Operand.TheVariants.{Last}
use Rattle.swc_ecma_codegen_parentheses.specs.Lists.{Pairwise, linked, linked_as, optionally}
use Rattle.swc_ecma_codegen_parentheses.specs.Operands.{declared, within}
use Rattle.swc_ecma_codegen_parentheses.specs.SamePats.{same_pat}
use Rattle.swc_ecma_codegen_parentheses.specs.SameTsDecls.{same_ts_enum_decl}

unfoldable pub same_class_decl : {X : Type 0} → (Usage → X → X → Type 0) → ClassDecl X → ClassDecl X → Type 0
same_class_decl m n r = (r ≡ record n { class = r.class }) × linked m n.class r.class

unfoldable pub same_fn_decl : {X : Type 0} → (Usage → X → X → Type 0) → FnDecl X → FnDecl X → Type 0
same_fn_decl m n r = (r ≡ record n { function = r.function }) × linked m n.function r.function

unfoldable pub same_var_declarator : {X : Type 0} → (Usage → X → X → Type 0) → VarDeclarator X → VarDeclarator X → Type 0
same_var_declarator m n r = (r ≡ record n { name = r.name; init = r.init }) × (same_pat m n.name r.name × optionally (linked_as (usages.Operand Last) m) n.init r.init)

unfoldable pub same_var_decl : {X : Type 0} → (Usage → X → X → Type 0) → VarDecl X → VarDecl X → Type 0
same_var_decl m n r = (r ≡ record n { decls = r.decls }) × Pairwise (same_var_declarator m) n.decls.items r.decls.items

unfoldable pub same_using_decl : {X : Type 0} → (Usage → X → X → Type 0) → UsingDecl X → UsingDecl X → Type 0
same_using_decl m n r = (r ≡ record n { decls = r.decls }) × Pairwise (same_var_declarator m) n.decls.items r.decls.items

unfoldable pub same_decl : {X : Type 0} → (Usage → X → X → Type 0) → Decl X → Decl X → Type 0
same_decl m (decls.Class n) (decls.Class r) = same_class_decl m n r
same_decl m (decls.Fn n) (decls.Fn r) = same_fn_decl m n r
same_decl m (decls.Var n) (decls.Var r) = same_var_decl (λ u. m (within declared u)) n r
same_decl m (decls.Using n) (decls.Using r) = same_using_decl (λ u. m (within declared u)) n r
same_decl m (decls.TsEnum n) (decls.TsEnum r) = same_ts_enum_decl m n.value r.value
same_decl m n r = n ≡ r

-- `@a`
unfoldable pub same_decorator : {X : Type 0} → (Usage → X → X → Type 0) → Decorator X → Decorator X → Type 0
same_decorator m n r = (r ≡ record n { expr = r.expr }) × linked_as usages.Decorator m n.expr r.expr

abbrev pub same_decorators : {X : Type 0} → (Usage → X → X → Type 0) → List (Decorator X) → List (Decorator X) → Type 0
same_decorators m n r = Pairwise (same_decorator m) n r

unfoldable pub same_param : {X : Type 0} → (Usage → X → X → Type 0) → Param X → Param X → Type 0
same_param m n r = (r ≡ record n { decorators = r.decorators; pat = r.pat }) × (same_decorators m n.decorators.items r.decorators.items × same_pat m n.pat r.pat)

unfoldable pub same_function : {X : Type 0} → (Usage → X → X → Type 0) → Function X → Function X → Type 0
same_function m n r =
    (r ≡ record n { decorators = r.decorators; params = r.params; body = r.body }) × (same_decorators m n.decorators.items r.decorators.items ×
    (Pairwise (same_param m) n.params.items r.params.items × optionally (linked m) n.body r.body))
