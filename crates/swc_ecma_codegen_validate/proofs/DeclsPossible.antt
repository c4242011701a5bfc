-- When the phrase of a declaration is possible.
use Rattle.std.proofs.Common.{◌≡◌, ◌∙◌, refl, ap, ◌==◌, Bool, true, false, not, ◌&&◌, List, length, map, codes}
use Rattle.swc_ecma_codegen_tree.specs.declared.decls.FnDecl.{FnDecl}
use Rattle.swc_ecma_codegen_tree.specs.declared.decls.UsingDecl.{UsingDecl}
use Rattle.swc_ecma_codegen_tree.specs.declared.decls.VarDecl.{VarDecl}
use Rattle.swc_ecma_codegen_tree.specs.declared.decls.VarDeclKind.{VarDeclKind}
use Rattle.swc_ecma_codegen_tree.specs.declared.decls.VarDeclKind.TheVariants.{Var, Let, Const}
use Rattle.swc_ecma_codegen_tree.specs.declared.decls.VarDeclarator.{VarDeclarator}
use Rattle.swc_ecma_codegen_tree.specs.declared.idents.BindingIdent.{BindingIdent}
use Rattle.swc_ecma_codegen_tree.specs.declared.pats.Pat.TheVariants as pats
use Rattle.swc_ecma_codegen_grammar.specs.declared.roles.Role.{Role}
use Rattle.swc_ecma_codegen_grammar.specs.declared.roles.Role.TheVariants.{FunctionHead}
use Rattle.swc_ecma_codegen_grammar.specs.NamePhrases.{ident, binding_ident}
use Rattle.swc_ecma_codegen_grammar.specs.FunctionPhrases.{function_at}
use Rattle.swc_ecma_codegen_grammar.specs.DeclPhrases.{after_await, fn_decl, definite_pat, var_declarator, var_kind, var_decl, using_decl}
use Rattle.swc_ecma_codegen_grammar.specs.Phrases.{Phrase, some_listed, is_possible}
use Rattle.swc_ecma_codegen_validate.specs.Possible.{all_possible}
use Rattle.swc_ecma_codegen_validate.proofs.Lists.{some_or_never}
use Rattle.swc_ecma_codegen_validate.proofs.TsDeclsPossible.{past_declare}

pub fn_decl_possible : {X : Type 0} (f : X → Role → Phrase) (n : FnDecl X) → is_possible (fn_decl f n) ≡ (is_possible (f n.function.node.value FunctionHead) && (is_possible (ident n.ident) && is_possible (function_at f n.function)))
unfolding is_possible fn_decl
fn_decl_possible f n = past_declare n.declare _

pub definite_ident_possible : {X : Type 0} (f : X → Role → Phrase) (n : BindingIdent X) → is_possible (definite_pat f (pats.Ident n)) ≡ is_possible (binding_ident f n)
unfolding is_possible definite_pat binding_ident
definite_ident_possible f n = refl

kind_possible : (kind : VarDeclKind) → is_possible (var_kind kind) ≡ true
unfolding is_possible var_kind
kind_possible Var = refl
kind_possible Let = refl
kind_possible Const = refl

pub declarators_possible : {X : Type 0} (f : X → Role → Phrase) (ns : List (VarDeclarator X)) → is_possible (some_listed (codes ",") (map (var_declarator f) ns)) ≡ (not (length ns == 0) && all_possible (var_declarator f) ns)
declarators_possible f ns = some_or_never (codes ",") (var_declarator f) ns

pub var_decl_possible : {X : Type 0} (f : X → Role → Phrase) (n : VarDecl X) → is_possible (var_decl f n) ≡ is_possible (some_listed (codes ",") (map (var_declarator f) n.decls.items))
unfolding is_possible var_decl
var_decl_possible f n =
    past_declare n.declare _ ∙ ap (λ b. b && is_possible (some_listed (codes ",") (map (var_declarator f) n.decls.items))) (kind_possible n.kind)

after_await_possible : (b : Bool) (p : Phrase) → is_possible (after_await b p) ≡ is_possible p
unfolding is_possible after_await
after_await_possible true p = refl
after_await_possible false p = refl

pub using_decl_possible : {X : Type 0} (f : X → Role → Phrase) (n : UsingDecl X) → is_possible (using_decl f n) ≡ is_possible (some_listed (codes ",") (map (var_declarator f) n.decls.items))
unfolding is_possible using_decl
using_decl_possible f n = after_await_possible n.is_await _
