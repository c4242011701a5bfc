-- Functions: a law of the words holds of the plan.
use Rattle.std.proofs.Common.{true}
use Rattle.swc_ecma_codegen_laws.proofs.Children.{children_hold}
use Rattle.std.specs.Prelude.{◌||◌, ◌&&◌, not, Bool, List, map, codes, Option, Some, None}
use Rattle.swc_ecma_codegen_tree.specs.Links.{BlockStmtBox}
use Rattle.swc_ecma_codegen_tree.specs.declared.decls.Decorator.{Decorator}
use Rattle.swc_ecma_codegen_tree.specs.declared.decls.Param.{Param}
use Rattle.swc_ecma_codegen_tree.specs.declared.decls.Function as functions
use Rattle.swc_ecma_codegen_tokens.specs.Run.{Part}
use Rattle.swc_ecma_codegen_tokens.specs.Words.{punct, semi}
use Rattle.swc_ecma_codegen_emit.specs.declared.nodes.Context.TheVariants.{Plain, Body}
use Rattle.swc_ecma_codegen_emit.specs.declared.nodes.Piece.TheVariants.{FunctionHead, MethodHead, DeclarationHead, DeclarationTail, StaticHead, MethodDecorators, MethodTail}
use Rattle.swc_ecma_codegen_emit.specs.Places.{Place, Whole, Only}
use Rattle.swc_ecma_codegen_emit.specs.Annotations.{annotation, type_params}
use Rattle.swc_ecma_codegen_emit.specs.FunctionExprs.{comma_list_format}
use Rattle.swc_ecma_codegen_emit.specs.Lists.{child_of}
use Rattle.std.proofs.Common.{refl}
use Rattle.std.proofs.Common.{◌≡◌, subst, sym, ap, ◌∙◌}
use Rattle.swc_ecma_codegen_emit.specs.Tree.{any_items}
use Rattle.swc_ecma_codegen_laws.specs.Enclosing.{is_function}
use Rattle.swc_ecma_codegen_tree.specs.declared.links.AnyNode.{AnyNode}
use Rattle.swc_ecma_codegen_laws.proofs.OfWords.{OfWords, Known, asks_in, items_in, either}
use Rattle.swc_ecma_codegen_emit.specs.Functions.{decorators_format, decorator, decorator_place, decorators, param, param_place, function_body, parameters, fn_trailing, break_without_body, declaration_tail, async_word, function_head, star_or_space, declaration_head, method_head, static_gap, static_head, decorator_lines, method_body, method_tail, function}
use Rattle.swc_ecma_codegen_laws.proofs.AnnotationsLifted.{annotation_holds, type_params_holds}
use Rattle.swc_ecma_codegen_laws.proofs.FunctionExprsLifted.{star_holds}
use Rattle.swc_ecma_codegen_laws.proofs.ListsLifted.{in_order_holds}
use Rattle.swc_ecma_codegen_laws.proofs.PatsLifted.{pat_holds}

pub decorator_holds : {X : Type 0} {holds : Bool → Part → Type 0} (known : Known holds X) (bounded : Bool) (n : Decorator X) → holds bounded (decorator (items_in known) n)
unfolding decorator
decorator_holds known bounded n = known.words.and_then bounded (known.words.leading_comments bounded n.span.lo) (known.words.and_then bounded (known.words.position bounded n.span.lo) (known.words.and_then bounded (known.words.punct bounded (codes "@")) (known.words.and_then bounded (known.law bounded n.expr.node.value (Whole Plain)) (known.words.and_then bounded (known.words.line_end bounded) (known.words.position bounded n.span.hi)))))

pub decorators_holds : {X : Type 0} {holds : Bool → Part → Type 0} (known : Known holds X) (bounded : Bool) (n : Param X) → holds bounded (decorators (items_in known) n)
decorators_holds known bounded n = known.words.list bounded decorators_format refl n.span (map (child_of decorator_place (λ d place. decorator (items_in known) d)) n.decorators.items) (children_hold _ _ decorator_place (λ d place. decorator (items_in known) d) (λ d. (decorator_holds known bounded d)) n.decorators.items)

pub param_holds : {X : Type 0} {holds : Bool → Part → Type 0} (known : Known holds X) (bounded : Bool) (n : Param X) → holds bounded (param (asks_in known) (items_in known) n)
unfolding param
param_holds known bounded n = known.words.and_then bounded (known.words.leading_comments bounded n.span.lo) (known.words.and_then bounded (known.words.position bounded n.span.lo) (known.words.and_then bounded (decorators_holds known bounded n) (known.words.and_then bounded (pat_holds known bounded n.pat) (known.words.position bounded n.span.hi))))

pub parameters_holds : {X : Type 0} {holds : Bool → Part → Type 0} (known : Known holds X) (bounded : Bool) (n : functions.Function X) → holds bounded (parameters (asks_in known) (items_in known) n)
parameters_holds known bounded n = known.words.list bounded comma_list_format refl n.span (map (child_of param_place (λ p place. param (asks_in known) (items_in known) p)) n.params.items) (children_hold _ _ param_place (λ p place. param (asks_in known) (items_in known) p) (λ p. (param_holds known bounded p)) n.params.items)

-- what stands before the body, or the semicolon in its place
fn_head_holds : {X : Type 0} {holds : Bool → Part → Type 0} (known : Known holds X) (bounded : Bool) (n : functions.Function X) → holds bounded (λ rest. type_params (items_in known) n.type_params (punct (codes "(") (parameters (asks_in known) (items_in known) n (punct (codes ")") (annotation (items_in known) n.return_type rest)))))
fn_head_holds known bounded n =
    known.words.and_then bounded (type_params_holds known bounded n.type_params)
    (known.words.and_then bounded (known.words.punct bounded (codes "("))
    (known.words.and_then bounded (parameters_holds known bounded n)
    (known.words.and_then bounded (known.words.punct bounded (codes ")")) (annotation_holds known bounded n.return_type))))

pub fn_trailing_holds : {X : Type 0} {holds : Bool → Part → Type 0} (known : Known holds X) (bounded : Bool) (node : AnyNode) (place : Place) (n : functions.Function X) (body : Option (BlockStmtBox X)) → n.body ≡ body → is_function node ≡ true → any_items node place ≡ fn_trailing (asks_in known) (items_in known) n → holds bounded (fn_trailing (asks_in known) (items_in known) n)
unfolding fn_trailing function_body
fn_trailing_holds {holds = holds} known bounded node place n (Some b) e f q =
    let with_body : Option (BlockStmtBox _) → Part = λ z. (λ rest. type_params (items_in known) n.type_params (punct (codes "(") (parameters (asks_in known) (items_in known) n (punct (codes ")") (annotation (items_in known) n.return_type (function_body (items_in known) z rest)))))) in
    subst (λ z. holds bounded (with_body z)) (sym e) (known.words.and_then bounded (fn_head_holds known bounded n) (known.words.and_then bounded (known.words.formatting_space bounded) (known.law bounded b.node.value (Whole Body))))
fn_trailing_holds {holds = holds} known bounded node place n None e f q =
    let with_body : Option (BlockStmtBox _) → Part = λ z. (λ rest. type_params (items_in known) n.type_params (punct (codes "(") (parameters (asks_in known) (items_in known) n (punct (codes ")") (annotation (items_in known) n.return_type (function_body (items_in known) z rest)))))) in
    let head : Part = (λ rest. type_params (items_in known) n.type_params (punct (codes "(") (parameters (asks_in known) (items_in known) n (punct (codes ")") (annotation (items_in known) n.return_type rest))))) in
    subst (λ z. holds bounded z) q (known.words.without_body bounded node place head f (q ∙ ap with_body e) (fn_head_holds known bounded n))

declaration_tail_by : {X : Type 0} {holds : Bool → Part → Type 0} (known : Known holds X) (bounded : Bool) (n : functions.Function X) (body : Option (BlockStmtBox X)) → holds bounded (λ rest. type_params (items_in known) n.type_params (punct (codes "(") (parameters (asks_in known) (items_in known) n (punct (codes ")") (annotation (items_in known) n.return_type (function_body (items_in known) body (break_without_body body rest)))))))
unfolding function_body break_without_body semi
declaration_tail_by known bounded n None = known.words.and_then bounded (fn_head_holds known bounded n) (known.words.semi bounded)
declaration_tail_by known bounded n (Some b) = known.words.and_then bounded (fn_head_holds known bounded n) (known.words.and_then bounded (known.words.formatting_space bounded) (known.law bounded b.node.value (Whole Body)))

pub declaration_tail_holds : {X : Type 0} {holds : Bool → Part → Type 0} (known : Known holds X) (bounded : Bool) (n : functions.Function X) → holds bounded (declaration_tail (asks_in known) (items_in known) n)
unfolding declaration_tail fn_trailing
declaration_tail_holds known bounded n = declaration_tail_by known bounded n n.body

pub async_word_holds : {holds : Bool → Part → Type 0} (words : OfWords holds) (bounded : Bool) (wanted : Bool) → holds bounded (async_word wanted)
unfolding async_word
async_word_holds words bounded wanted = either words bounded wanted (words.and_then bounded (words.keyword bounded None (codes "async")) (words.space bounded)) (words.none bounded)

pub function_head_holds : {X : Type 0} {holds : Bool → Part → Type 0} (known : Known holds X) (bounded : Bool) (n : functions.Function X) → holds bounded (function_head n)
unfolding function_head
function_head_holds known bounded n = known.words.and_then bounded (async_word_holds known.words bounded n.is_async) (known.words.and_then bounded (known.words.keyword bounded None (codes "function")) (star_holds known.words bounded n.is_generator))

pub star_or_space_holds : {holds : Bool → Part → Type 0} (words : OfWords holds) (bounded : Bool) (wanted : Bool) → holds bounded (star_or_space wanted)
unfolding star_or_space
star_or_space_holds words bounded wanted = either words bounded wanted (words.and_then bounded (words.punct bounded (codes "*")) (words.formatting_space bounded)) (words.space bounded)

pub declaration_head_holds : {X : Type 0} {holds : Bool → Part → Type 0} (known : Known holds X) (bounded : Bool) (n : functions.Function X) → holds bounded (declaration_head n)
unfolding declaration_head
declaration_head_holds known bounded n = known.words.and_then bounded (async_word_holds known.words bounded n.is_async) (known.words.and_then bounded (known.words.keyword bounded None (codes "function")) (star_or_space_holds known.words bounded n.is_generator))

pub method_head_holds : {X : Type 0} {holds : Bool → Part → Type 0} (known : Known holds X) (bounded : Bool) (n : functions.Function X) → holds bounded (method_head n)
unfolding method_head
method_head_holds known bounded n = known.words.and_then bounded (async_word_holds known.words bounded n.is_async) (star_holds known.words bounded n.is_generator)

pub static_gap_holds : {holds : Bool → Part → Type 0} (words : OfWords holds) (bounded : Bool) (needed : Bool) → holds bounded (static_gap needed)
unfolding static_gap
static_gap_holds words bounded needed = either words bounded needed (words.space bounded) (words.formatting_space bounded)

pub static_head_holds : {X : Type 0} {holds : Bool → Part → Type 0} (known : Known holds X) (bounded : Bool) (starts : Bool) (n : functions.Function X) → holds bounded (static_head starts n)
unfolding static_head
static_head_holds known bounded starts n = known.words.and_then bounded (static_gap_holds known.words bounded (n.is_async || (not n.is_generator && starts))) (method_head_holds known bounded n)

pub decorator_lines_holds : {X : Type 0} {holds : Bool → Part → Type 0} (known : Known holds X) (bounded : Bool) (ns : List (Decorator X)) → holds bounded (decorator_lines (items_in known) ns)
decorator_lines_holds known bounded ns = in_order_holds known.words bounded (decorator (items_in known)) (λ x. (decorator_holds known bounded x)) ns

pub method_body_holds : {X : Type 0} {holds : Bool → Part → Type 0} (known : Known holds X) (bounded : Bool) (x1 : Option (BlockStmtBox X)) → holds bounded (method_body (items_in known) x1)
unfolding method_body
method_body_holds known bounded None = known.words.semi bounded
method_body_holds known bounded (Some n) = known.words.and_then bounded (known.words.formatting_space bounded) (known.law bounded n.node.value (Whole Plain))

pub method_tail_holds : {X : Type 0} {holds : Bool → Part → Type 0} (known : Known holds X) (bounded : Bool) (n : functions.Function X) → holds bounded (method_tail (asks_in known) (items_in known) n)
unfolding method_tail
method_tail_holds known bounded n = known.words.and_then bounded (type_params_holds known bounded n.type_params) (known.words.and_then bounded (known.words.punct bounded (codes "(")) (known.words.and_then bounded (parameters_holds known bounded n) (known.words.and_then bounded (known.words.punct bounded (codes ")")) (known.words.and_then bounded (annotation_holds known bounded n.return_type) (method_body_holds known bounded n.body)))))

-- a function, or what of it stands before its name
pub function_holds : {X : Type 0} {holds : Bool → Part → Type 0} (known : Known holds X) (bounded : Bool) (node : AnyNode) (n : functions.Function X) (place : Place) → is_function node ≡ true → any_items node place ≡ function (asks_in known) (items_in known) n place → holds bounded (function (asks_in known) (items_in known) n place)
unfolding function
function_holds known bounded node n (Only FunctionHead) f q = function_head_holds known bounded n
function_holds known bounded node n (Only MethodHead) f q = method_head_holds known bounded n
function_holds known bounded node n (Only DeclarationHead) f q = declaration_head_holds known bounded n
function_holds known bounded node n (Only DeclarationTail) f q = declaration_tail_holds known bounded n
function_holds known bounded node n (Only (StaticHead starts)) f q = static_head_holds known bounded starts n
function_holds known bounded node n (Only MethodDecorators) f q = decorator_lines_holds known bounded n.decorators.items
function_holds known bounded node n (Only MethodTail) f q = method_tail_holds known bounded n
function_holds known bounded node n place f q = fn_trailing_holds known bounded node place n n.body refl f q
