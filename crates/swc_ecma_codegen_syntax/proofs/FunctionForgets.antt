-- Without nonterminals the forms of functions are the productions that tell their tokens.
use Rattle.std.proofs.Common.{◌≡◌, Bool, true, false, cond, refl, ap, ap₂, List, [], ◌∷◌, map, codes, Option, Some, None}
use Rattle.swc_ecma_codegen_tree.specs.Links.{BlockStmtBox, PatBox, TsTypeParamDeclBox}
use Rattle.swc_ecma_codegen_tree.specs.declared.decls.Decorator.{Decorator}
use Rattle.swc_ecma_codegen_tree.specs.declared.decls.FnDecl.{FnDecl}
use Rattle.swc_ecma_codegen_tree.specs.declared.decls.Function as functions
use Rattle.swc_ecma_codegen_tree.specs.declared.decls.Param.{Param}
use Rattle.swc_ecma_codegen_tree.specs.declared.exprs.ArrowExpr.{ArrowExpr}
use Rattle.swc_ecma_codegen_tree.specs.declared.exprs.BlockStmtOrExpr.{BlockStmtOrExpr}
use Rattle.swc_ecma_codegen_tree.specs.declared.exprs.BlockStmtOrExpr.TheVariants as bodies
use Rattle.swc_ecma_codegen_tree.specs.declared.exprs.FnExpr.{FnExpr}
use Rattle.swc_ecma_codegen_tree.specs.declared.idents.Ident.{Ident}
use Rattle.swc_ecma_codegen_grammar.specs.Phrases.{Phrase, Never, Nothing, Then, ◌>◌, mark, word, same_line}
use Rattle.swc_ecma_codegen_grammar.specs.Phrases as phrases
use Rattle.swc_ecma_codegen_grammar.specs.AnnotationPhrases.{type_params}
use Rattle.swc_ecma_codegen_grammar.specs.NamePhrases.{ident}
use Rattle.swc_ecma_codegen_grammar.specs.PatPhrases.{pat_at}
use Rattle.swc_ecma_codegen_grammar.specs.FunctionPhrases.{is_some_listed, word_if, after_async, decorator, param, function_body, function, function_at, optional_name, fn_expr, only_parameter, is_typed_arrow, arrow_parameters, arrow_body, arrow_expr}
use Rattle.swc_ecma_codegen_grammar.specs.DeclPhrases.{fn_decl}
use Rattle.swc_ecma_codegen_grammar.specs.ClassPhrases.{method_tail}
use Rattle.swc_ecma_codegen_grammar.specs.declared.roles.Role.{Role}
use Rattle.swc_ecma_codegen_grammar.specs.declared.roles.Role.TheVariants.{FunctionHead}
use Rattle.swc_ecma_codegen_syntax.specs.declared.nonterminals.Nonterminal.{Nonterminal}
use Rattle.swc_ecma_codegen_syntax.specs.declared.nonterminals.Nonterminal.TheVariants as nt
use Rattle.swc_ecma_codegen_syntax.specs.declared.parameters.Parameters.{Parameters}
use Rattle.swc_ecma_codegen_syntax.specs.Forms.{Form, Fixed, Provided, ByRule, forget, ending_after, ending_listed, Cure, ByScope}
use Rattle.swc_ecma_codegen_syntax.specs.NameForms.{name_form}
use Rattle.swc_ecma_codegen_syntax.specs.PatForms.{pat_part}
use Rattle.swc_ecma_codegen_syntax.specs.Parameters.{of_arrow_parameters}
use Rattle.swc_ecma_codegen_syntax.specs.FunctionForms.{type_params_form, decorator_form, decorators_form, bound_name_form, optional_name_form, pat_in, param_form, own_of, parameters_of, body_form, rest_of_function, function_form, fn_expr_form, fn_decl_form, arrow_params_form, arrow_body_form, async_form, arrow_form, fn_default_form}
use Rattle.swc_ecma_codegen_syntax.proofs.Judged.{order_forgets}
use Rattle.swc_ecma_codegen_syntax.proofs.Forgets.{annotation_forgets}
use Rattle.swc_ecma_codegen_syntax.proofs.PatForgets.{pat_forgets}

-- ---- lists whose last element may be a rest

ending_after_forgets : {X A : Type 0} (p : X → Role → Phrase) (e : Nonterminal → A → Form X) (d : A → Phrase) → ((place : Nonterminal) (x : A) → forget p (e place x) ≡ d x) → (xs : List A) →
    forget p (ending_after e xs) ≡ phrases.each_after (codes ",") (map d xs)
unfolding forget ending_after phrases.each_after
ending_after_forgets p e d same [] = refl
ending_after_forgets p e d same (x ∷ []) = ap (λ q. mark (codes ",") > q > Nothing) (same nt.LastElement x)
ending_after_forgets p e d same (x ∷ y ∷ xs) = ap₂ (λ q r. mark (codes ",") > q > r) (same nt.PatternElement x) (ending_after_forgets p e d same (y ∷ xs))

pub ending_forgets : {X A : Type 0} (p : X → Role → Phrase) (e : Nonterminal → A → Form X) (d : A → Phrase) → ((place : Nonterminal) (x : A) → forget p (e place x) ≡ d x) → (xs : List A) →
    forget p (ending_listed e xs) ≡ phrases.listed (codes ",") (map d xs)
unfolding forget ending_listed phrases.listed phrases.each_after
ending_forgets p e d same [] = refl
ending_forgets p e d same (x ∷ []) = ap (λ q. q > Nothing) (same nt.LastElement x)
ending_forgets p e d same (x ∷ y ∷ xs) = ap₂ (λ q r. q > r) (same nt.PatternElement x) (ending_after_forgets p e d same (y ∷ xs))

-- ---- functions

pub type_params_forget : {X : Type 0} (p : X → Role → Phrase) (c : Parameters) (n : Option (TsTypeParamDeclBox X)) → forget p (type_params_form c n) ≡ type_params p n
unfolding forget type_params_form type_params
type_params_forget p c None = refl
type_params_forget p c (Some n) = refl

pub decorators_forget : {X : Type 0} (p : X → Role → Phrase) (cure : Cure) (c : Parameters) (ns : List (Decorator X)) → forget p (decorators_form cure c ns) ≡ phrases.in_order (map (decorator p) ns)
unfolding forget decorators_form decorator_form decorator
decorators_forget p cure c ns = order_forgets p (decorator_form c) ns

pub bound_name_forgets : {X : Type 0} (p : X → Role → Phrase) (c : Parameters) (n : Ident) → forget p (bound_name_form c n) ≡ ident n
unfolding forget bound_name_form name_form
bound_name_forgets p c n = refl

pub optional_name_forgets : {X : Type 0} (p : X → Role → Phrase) (c : Parameters) (n : Option Ident) → forget p (optional_name_form c n) ≡ optional_name n
unfolding forget optional_name_form optional_name
optional_name_forgets p c None = refl
optional_name_forgets p c (Some n) = bound_name_forgets p c n

pub param_forgets : {X : Type 0} (p : X → Role → Phrase) (c : Parameters) (place : Nonterminal) (n : Param X) → forget p (param_form c place n) ≡ param p n
unfolding forget param_form pat_in param
param_forgets p c place n = ap₂ Then (decorators_forget p ByScope c n.decorators.items) (pat_forgets p false c n.pat)

pub body_forgets : {X : Type 0} (p : X → Role → Phrase) (c : Parameters) (n : Option (BlockStmtBox X)) → forget p (body_form c n) ≡ function_body p n
unfolding forget body_form function_body
body_forgets p c None = refl
body_forgets p c (Some n) = refl

pub rest_forgets : {X : Type 0} (p : X → Role → Phrase) (c : Parameters) (n : functions.Function X) → forget p (rest_of_function c n) ≡ method_tail p n
unfolding forget rest_of_function method_tail
rest_forgets p c n =
    ap₂ (λ q r. q > mark (codes "(") > r) (type_params_forget p c n.type_params)
    (ap₂ (λ q r. q > mark (codes ")") > r) (ending_forgets p (param_form (parameters_of c n)) (param p) (param_forgets p (parameters_of c n)) n.params.items)
    (ap₂ (λ q r. q > r) (annotation_forgets p c n.return_type) (body_forgets p (own_of c n) n.body)))

pub never_or : {X : Type 0} (p : X → Role → Phrase) (b : Bool) (a : Form X) (q : Phrase) → forget p a ≡ q → forget p (cond b (Provided ByRule false (Fixed Never)) a) ≡ cond b Never q
unfolding forget
never_or p true a q same = refl
never_or p false a q same = same

pub function_forgets : {X : Type 0} (p : X → Role → Phrase) (c : Parameters) (n : functions.Function X) → forget p (function_form c n) ≡ function p n
unfolding function_form function method_tail
function_forgets p c n = never_or p (is_some_listed n.decorators.items) _ _ (rest_forgets p c n)

pub fn_expr_forgets : {X : Type 0} (p : X → Role → Phrase) (c : Parameters) (n : FnExpr X) → forget p (fn_expr_form c n) ≡ fn_expr p n
unfolding forget fn_expr_form fn_expr
fn_expr_forgets p c n = ap (λ q. p n.function.node.value FunctionHead > q > function_at p n.function) (optional_name_forgets p _ n.ident)

pub fn_default_forgets : {X : Type 0} (p : X → Role → Phrase) (c : Parameters) (n : FnExpr X) → forget p (fn_default_form c n) ≡ fn_expr p n
unfolding forget fn_default_form fn_expr
fn_default_forgets p c n = ap (λ q. p n.function.node.value FunctionHead > q > function_at p n.function) (optional_name_forgets p _ n.ident)

pub fn_decl_forgets : {X : Type 0} (p : X → Role → Phrase) (head : Nonterminal) (c : Parameters) (n : FnDecl X) → forget p (fn_decl_form head c n) ≡ fn_decl p n
unfolding forget fn_decl_form bound_name_form name_form fn_decl
fn_decl_forgets p head c n = refl

-- ---- arrow functions

arrow_params_forget : {X : Type 0} (p : X → Role → Phrase) (c : Parameters) (typed : Bool) (ns : List (PatBox X)) → forget p (arrow_params_form c typed ns) ≡ arrow_parameters p typed ns
unfolding forget arrow_params_form arrow_parameters only_parameter
arrow_params_forget p c false [] = ap (λ q. mark (codes "(") > q > mark (codes ")")) (ending_forgets p (λ place n. pat_part place c n) (pat_at p) (λ place n. refl) [])
arrow_params_forget p c true [] = ap (λ q. mark (codes "(") > q > mark (codes ")")) (ending_forgets p (λ place n. pat_part place c n) (pat_at p) (λ place n. refl) [])
arrow_params_forget p c false (n ∷ []) = refl
arrow_params_forget p c true (n ∷ []) = ap (λ q. mark (codes "(") > q > mark (codes ")")) (ending_forgets p (λ place n. pat_part place c n) (pat_at p) (λ place n. refl) (n ∷ []))
arrow_params_forget p c false (n ∷ m ∷ ns) = ap (λ q. mark (codes "(") > q > mark (codes ")")) (ending_forgets p (λ place n. pat_part place c n) (pat_at p) (λ place n. refl) (n ∷ m ∷ ns))
arrow_params_forget p c true (n ∷ m ∷ ns) = ap (λ q. mark (codes "(") > q > mark (codes ")")) (ending_forgets p (λ place n. pat_part place c n) (pat_at p) (λ place n. refl) (n ∷ m ∷ ns))

arrow_body_forgets : {X : Type 0} (p : X → Role → Phrase) (c : Parameters) (is_async : Bool) (n : BlockStmtOrExpr X) → forget p (arrow_body_form c is_async n) ≡ arrow_body p n
unfolding forget arrow_body_form arrow_body
arrow_body_forgets p c is_async (bodies.BlockStmt n) = refl
arrow_body_forgets p c is_async (bodies.Expr n) = refl

async_forgets : {X : Type 0} (p : X → Role → Phrase) (is_async : Bool) (a : Form X) (q : Phrase) → forget p a ≡ q → forget p (async_form is_async a) ≡ after_async is_async q
unfolding forget async_form after_async
async_forgets p true a q same = ap (λ r. word (codes "async") > same_line > r) same
async_forgets p false a q same = same

pub arrow_forgets : {X : Type 0} (p : X → Role → Phrase) (c : Parameters) (n : ArrowExpr X) → forget p (arrow_form c n) ≡ arrow_expr p n
unfolding forget arrow_form arrow_expr
arrow_forgets p c n =
    async_forgets p n.is_async _ _
    (ap₂ (λ q r. word_if n.is_generator (mark (codes "*")) > q > r) (type_params_forget p c n.type_params)
    (ap₂ (λ q r. q > r) (arrow_params_forget p (of_arrow_parameters n.is_async c) (is_typed_arrow n) n.params.items)
    (ap₂ (λ q r. q > same_line > mark (codes "=>") > r) (annotation_forgets p c n.return_type) (arrow_body_forgets p c n.is_async n.body))))
