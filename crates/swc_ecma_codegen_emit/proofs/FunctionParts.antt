-- What is written of functions and blocks is what it reads as.
use Rattle.std.proofs.Common.{refl, Bool, true, false, cond, ◌||◌, List, [], codes, Option, Some, None}
use Rattle.swc_ecma_codegen_tree.specs.Links.{BlockStmtBox}
use Rattle.swc_ecma_codegen_tree.specs.declared.decls.Decorator.{Decorator}
use Rattle.swc_ecma_codegen_tree.specs.declared.decls.Param.{Param}
use Rattle.swc_ecma_codegen_tree.specs.declared.decls.Function as functions
use Rattle.swc_ecma_codegen_grammar.specs.Phrases.{Phrase, Never, mark}
use Rattle.swc_ecma_codegen_grammar.specs.ClassPhrases as classes
use Rattle.swc_ecma_codegen_grammar.specs.FunctionPhrases as lists
use Rattle.swc_ecma_codegen_grammar.specs.FunctionPhrases.{is_some_listed}
use Rattle.swc_ecma_codegen_grammar.specs.declared.roles.Role.TheVariants.{Function}
use Rattle.swc_ecma_codegen_tokens.specs.Run.{Env, Part}
use Rattle.swc_ecma_codegen_tokens.specs.Words.{punct, semi, space, formatting_space, line_end, position}
use Rattle.swc_ecma_codegen_tokens.proofs.Listing.ListLaws.{IsUndelimited, prints_list, prints_in_order}
use Rattle.swc_ecma_codegen_tokens.proofs.Reading.Phrased.{prints_bare_semi, Prints, then, after, before, prints_nothing, prints_never, prints_keyword, prints_punct, prints_semi, PrintsAt, prints_wider, joined_then}
use Rattle.swc_ecma_codegen_tokens.proofs.Reading.Printed.{writes_then, writes_if, writes_space, writes_formatting_space, writes_line, writes_position, Fills}
use Rattle.swc_ecma_codegen_tokens.proofs.Commenting.CommentPrints.{writes_leading}
use Rattle.swc_ecma_codegen_emit.specs.declared.nodes.Context.TheVariants.{Plain, Body}
use Rattle.swc_ecma_codegen_emit.specs.declared.nodes.Piece.TheVariants.{DeclarationHead, DeclarationTail, StaticHead, MethodTail}
use Rattle.swc_ecma_codegen_emit.specs.Places.{Place, Only, before_name, before_method, behind_key, behind_name}
use Rattle.swc_ecma_codegen_emit.specs.Annotations.{annotation, type_params}
use Rattle.swc_ecma_codegen_emit.specs.Functions as words
use Rattle.swc_ecma_codegen_emit.specs.FunctionExprs.{comma_list_format}
use Rattle.swc_ecma_codegen_emit.specs.Functions.{decorators_format, decorator_place, param_place}
use Rattle.swc_ecma_codegen_emit.proofs.AnnotationParts.{annotation_prints, type_params_print}
use Rattle.swc_ecma_codegen_emit.proofs.FunctionExprParts.{star_prints}
use Rattle.swc_ecma_codegen_emit.proofs.Linked.{Linked, PrintsIn, expr_at, block_at}
use Rattle.swc_ecma_codegen_emit.proofs.ListParts.{in_order_prints}
use Rattle.swc_ecma_codegen_emit.proofs.MarkWords as marks
use Rattle.swc_ecma_codegen_emit.proofs.PatParts.{pat_prints}
use Rattle.swc_ecma_codegen_tokens.proofs.Filling.Shapes.{Shape, open_, loose, ended, ended_if_any, closed, joining_if_any}

-- ---- parameters

pub decorator_prints : {X : Type 0} (l : Linked X) (n : Decorator X) → PrintsAt ended l.env (words.decorator l.items n) (lists.decorator l.reads n)
unfolding words.decorator lists.decorator
decorator_prints l n =
    after (writes_leading l.env n.span.lo)
    (after (writes_position l.env n.span.lo)
    (then (prints_punct l.env (codes "@") marks.at)
    (before (expr_at l n.expr Plain) (writes_then l.env line_end (position n.span.hi) [] [] (writes_line l.env) (writes_position l.env n.span.hi)))))

-- the format of decorators
pub undelimited : IsUndelimited decorators_format
undelimited = record { no_comma = refl; no_bar = refl; no_ampersand = refl }

pub param_prints : {X : Type 0} (l : Linked X) (n : Param X) → PrintsAt closed l.env (words.param l.asks l.items n) (lists.param l.reads n)
unfolding words.param lists.param
param_prints l n =
    after (writes_leading l.env n.span.lo)
    (after (writes_position l.env n.span.lo)
    (then (prints_in_order l.env decorators_format n.span decorator_place (words.decorator l.items) (lists.decorator l.reads) (λ d. prints_wider loose refl (decorator_prints l d)) undelimited refl n.decorators.items)
    (before (pat_prints l n.pat) (writes_position l.env n.span.hi))))

-- ---- functions

pub body_prints : {X : Type 0} (l : Linked X) (body : Option (BlockStmtBox X)) → Prints l.env (words.function_body l.items body) (lists.function_body l.reads body)
unfolding words.function_body lists.function_body
body_prints l None = prints_bare_semi l.env
body_prints l (Some n) = after (writes_formatting_space l.env) (block_at l n Body)

-- behind the name of a function, and behind that of a private method
private_tail_prints : {X : Type 0} (l : Linked X) (n : functions.Function X) → Prints l.env (words.fn_trailing l.asks l.items n) (classes.method_tail l.reads n)
unfolding words.fn_trailing classes.method_tail
private_tail_prints l n =
    then (type_params_print l n.type_params)
    (then (prints_punct l.env (codes "(") marks.left_parenthesis)
    (then (prints_list l.env comma_list_format n.span param_place (words.param l.asks l.items) (lists.param l.reads) (λ p. prints_wider loose refl (param_prints l p)) refl refl refl refl n.params.items)
    (then (prints_punct l.env (codes ")") marks.right_parenthesis)
    (then (annotation_prints l n.return_type) (body_prints l n.body)))))

-- with a place where a line may be ended, behind the semicolon that stands for a body
declared_body_prints : {X : Type 0} (l : Linked X) (body : Option (BlockStmtBox X)) → PrintsAt ended l.env (λ rest. words.function_body l.items body (words.break_without_body body rest)) (lists.function_body l.reads body)
unfolding words.function_body words.break_without_body semi lists.function_body
declared_body_prints l None = prints_semi l.env
declared_body_prints l (Some n) = prints_wider ended refl (after (writes_formatting_space l.env) (block_at l n Body))

method_body_prints : {X : Type 0} (l : Linked X) (body : Option (BlockStmtBox X)) → PrintsAt ended l.env (words.method_body l.items body) (lists.function_body l.reads body)
unfolding words.method_body lists.function_body
method_body_prints l None = prints_semi l.env
method_body_prints l (Some n) = prints_wider ended refl (after (writes_formatting_space l.env) (block_at l n Plain))

-- the parameters, the result, and what is written of the body
tail_prints : {X : Type 0} (l : Linked X) (n : functions.Function X) (body : Part) → PrintsAt ended l.env body (lists.function_body l.reads n.body) → PrintsAt ended l.env (λ rest. type_params l.items n.type_params (punct (codes "(") (words.parameters l.asks l.items n (punct (codes ")") (annotation l.items n.return_type (body rest)))))) (classes.method_tail l.reads n)
unfolding classes.method_tail
tail_prints l n body h =
    then (type_params_print l n.type_params)
    (then (prints_punct l.env (codes "(") marks.left_parenthesis)
    (then (prints_list l.env comma_list_format n.span param_place (words.param l.asks l.items) (lists.param l.reads) (λ p. prints_wider loose refl (param_prints l p)) refl refl refl refl n.params.items)
    (then (prints_punct l.env (codes ")") marks.right_parenthesis) (then (annotation_prints l n.return_type) h))))

declared_tail_prints : {X : Type 0} (l : Linked X) (n : functions.Function X) → PrintsAt ended l.env (words.declaration_tail l.asks l.items n) (classes.method_tail l.reads n)
unfolding words.declaration_tail words.fn_trailing
declared_tail_prints l n = tail_prints l n (λ rest. words.function_body l.items n.body (words.break_without_body n.body rest)) (declared_body_prints l n.body)

plain_tail_prints : {X : Type 0} (l : Linked X) (n : functions.Function X) → PrintsAt ended l.env (words.method_tail l.asks l.items n) (classes.method_tail l.reads n)
unfolding words.method_tail
plain_tail_prints l n = tail_prints l n (words.method_body l.items n.body) (method_body_prints l n.body)

-- decorators are passed over, and no function that isn't a method's has any
unless_decorated : {i : Shape} {env : Env} {p : Part} {f : Phrase} (decorated : Bool) → PrintsAt i env p f → PrintsAt i env p (cond decorated Never f)
unless_decorated true h = prints_never
unless_decorated false h = h

-- a function, or one that is declared
pub fn_tail_prints : {X : Type 0} (l : Linked X) (n : functions.Function X) (place : Place) → PrintsIn Function place l.env (words.function l.asks l.items n (behind_name place)) (lists.function l.reads n)
unfolding words.function lists.function classes.method_tail
fn_tail_prints l n (Only DeclarationTail) = unless_decorated (is_some_listed n.decorators.items) (declared_tail_prints l n)
fn_tail_prints l n place = unless_decorated (is_some_listed n.decorators.items) (private_tail_prints l n)

-- behind `async`, where it is so
async_then : (env : Env) (wanted : Bool) {p : Part} {f : Phrase} → Prints env p f → Prints env (λ rest. words.async_word wanted (p rest)) (lists.after_async wanted f)
unfolding words.async_word lists.after_async
async_then env true h = joined_then env None (codes "async") marks.async_word (after (writes_space env) h)
async_then env false h = h

-- the same of what may be nothing
after_async_prints : (env : Env) (wanted : Bool) {p : Part} {f : Phrase} → PrintsAt open_ env p f → PrintsAt joining_if_any env (λ rest. words.async_word wanted (p rest)) (lists.after_async wanted f)
unfolding words.async_word lists.after_async
after_async_prints env true h = prints_wider joining_if_any refl (joined_then env None (codes "async") marks.async_word (after (writes_space env) h))
after_async_prints env false h = prints_wider joining_if_any refl h

function_head_prints : {X : Type 0} (env : Env) (n : functions.Function X) → Prints env (words.function_head n) (lists.function_head n)
unfolding words.function_head lists.function_head
function_head_prints env n = async_then env n.is_async (then (prints_keyword env None (codes "function") marks.function_word) (star_prints env n.is_generator))

writes_static_gap : (env : Env) (needed : Bool) → Fills env (words.static_gap needed)
unfolding words.static_gap
writes_static_gap env needed = writes_if env needed space formatting_space [] (writes_space env) (writes_formatting_space env)

space_prints : (env : Env) (wanted : Bool) → PrintsAt open_ env (words.star_or_space wanted) (lists.word_if wanted (mark (codes "*")))
unfolding words.star_or_space lists.word_if
space_prints env true = prints_wider open_ refl (before (prints_punct env (codes "*") marks.star) (writes_formatting_space env))
space_prints env false = before prints_nothing (writes_space env)

declaration_head_prints : {X : Type 0} (env : Env) (n : functions.Function X) → Prints env (words.declaration_head n) (lists.function_head n)
unfolding words.declaration_head lists.function_head
declaration_head_prints env n = async_then env n.is_async (then (prints_keyword env None (codes "function") marks.function_word) (space_prints env n.is_generator))

-- what stands before its name, with a blank where the function is declared
pub head_prints : {X : Type 0} (l : Linked X) (n : functions.Function X) (place : Place) → Prints l.env (words.function l.asks l.items n (Only (before_name place))) (lists.function_head n)
unfolding words.function
head_prints l n (Only DeclarationHead) = declaration_head_prints l.env n
head_prints l n place = function_head_prints l.env n

pub method_head_prints : {X : Type 0} (env : Env) (n : functions.Function X) → PrintsAt joining_if_any env (words.method_head n) (lists.method_head n)
unfolding words.method_head lists.method_head
method_head_prints env n = after_async_prints env n.is_async (star_prints env n.is_generator)

static_head_prints : {X : Type 0} (env : Env) (starts : Bool) (n : functions.Function X) → PrintsAt joining_if_any env (words.static_head starts n) (lists.method_head n)
unfolding words.static_head
static_head_prints env starts n = after (writes_static_gap env _) (method_head_prints env n)

-- of a static method, with the blank before it
pub before_method_prints : {X : Type 0} (l : Linked X) (n : functions.Function X) (place : Place) → PrintsAt joining_if_any l.env (words.function l.asks l.items n (Only (before_method place))) (lists.method_head n)
unfolding words.function
before_method_prints l n (Only (StaticHead starts)) = static_head_prints l.env starts n
before_method_prints l n place = method_head_prints l.env n

pub decorators_print : {X : Type 0} (l : Linked X) (ns : List (Decorator X)) → PrintsAt ended_if_any l.env (words.decorator_lines l.items ns) (classes.decorators l.reads ns)
unfolding classes.decorators
decorators_print l ns = in_order_prints l.env (words.decorator l.items) (lists.decorator l.reads) (decorator_prints l) ns

pub method_decorators_print : {X : Type 0} (l : Linked X) (n : functions.Function X) → PrintsAt ended_if_any l.env (words.decorator_lines l.items n.decorators.items) (classes.method_decorators l.reads n)
unfolding classes.method_decorators
method_decorators_print l n = decorators_print l n.decorators.items

-- what of a method stands behind its key, private or not
pub method_tail_prints : {X : Type 0} (l : Linked X) (n : functions.Function X) (place : Place) → PrintsAt ended l.env (words.function l.asks l.items n (behind_key place)) (classes.method_tail l.reads n)
unfolding words.function
method_tail_prints l n (Only MethodTail) = plain_tail_prints l n
method_tail_prints l n (Only DeclarationTail) = declared_tail_prints l n
method_tail_prints l n place = prints_wider ended refl (private_tail_prints l n)

never_or : {env : Env} {p : Part} {f : Phrase} (never : Bool) → PrintsAt ended env p f → PrintsAt ended env p (cond never Never f)
never_or true h = prints_never
never_or false h = h

-- a getter and a setter are written as a method
pub accessor_tail_prints : {X : Type 0} (l : Linked X) (n : functions.Function X) (place : Place) → PrintsAt ended l.env (words.function l.asks l.items n (behind_key place)) (classes.accessor_tail l.reads n)
unfolding classes.accessor_tail
accessor_tail_prints l n place = never_or (n.is_async || n.is_generator) (method_tail_prints l n place)
