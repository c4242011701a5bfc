-- What is written of functions.
use Rattle.std.specs.Prelude.{ℕ, ◌||◌, ◌&&◌, not, Bool, if◌then◌else◌, List, map, codes, Option, Some, None}
use Rattle.swc_ecma_codegen_common.specs.declared.positions.Span.{Span}
use Rattle.swc_ecma_codegen_tree.specs.Links.{BlockStmtBox}
use Rattle.swc_ecma_codegen_tree.specs.declared.decls.Decorator.{Decorator}
use Rattle.swc_ecma_codegen_tree.specs.declared.decls.Param.{Param}
use Rattle.swc_ecma_codegen_tree.specs.declared.decls.Function as functions
use Rattle.swc_ecma_codegen_tokens.specs.Run.{Part}
use Rattle.swc_ecma_codegen_tokens.specs.Lists.{list}
use Rattle.swc_ecma_codegen_tokens.specs.Words.{allow_break, keyword, punct, bare_semi, semi, space, formatting_space, line_end, start_of, end_of, leading_comments}
use Rattle.swc_ecma_codegen_emit.specs.declared.nodes.Context.TheVariants.{Plain, Body}
use Rattle.swc_ecma_codegen_emit.specs.declared.nodes.Piece.TheVariants.{FunctionHead, MethodHead, DeclarationHead, DeclarationTail, StaticHead, MethodDecorators, MethodTail}
use Rattle.swc_ecma_codegen_emit.specs.Places.{Place, Whole, Only}
use Rattle.swc_ecma_codegen_emit.specs.Annotations.{annotation, type_params}
use Rattle.swc_ecma_codegen_emit.specs.Answers.{Answers}
use Rattle.swc_ecma_codegen_emit.specs.FunctionExprs.{comma_list_format, star}
use Rattle.swc_ecma_codegen_emit.specs.Lists.{child_of, in_order}
use Rattle.swc_ecma_codegen_emit.specs.Pats.{pat}

-- `Decorators`
abbrev pub decorators_format : ℕ
decorators_format = 1025

-- `@a`, and the end of its line
unfoldable pub decorator : {X : Type 0} → (X → Place → Part) → Decorator X → Part
decorator items n rest = leading_comments n.span.lo (start_of n.span (punct (codes "@") (items n.expr.node.value (Whole Plain) (line_end (end_of n.span rest)))))

abbrev pub decorator_place : {X : Type 0} → Decorator X → Span
decorator_place n = n.span

-- the decorators of a parameter
abbrev pub decorators : {X : Type 0} → (X → Place → Part) → Param X → Part
decorators items n = list decorators_format n.span (map (child_of decorator_place (λ d place. decorator items d)) n.decorators.items)

-- `@a b`
unfoldable pub param : {X : Type 0} → (X → Answers) → (X → Place → Part) → Param X → Part
param asks items n rest =
    leading_comments n.span.lo
    (start_of n.span
    (decorators items n
    (pat asks items n.pat (end_of n.span rest))))

abbrev pub param_place : {X : Type 0} → Param X → Span
param_place n = n.span

-- `{ a; }`, or the semicolon in its place: a function without a body may be an expression, so no line is ended behind it
unfoldable pub function_body : {X : Type 0} → (X → Place → Part) → Option (BlockStmtBox X) → Part
function_body items None rest = bare_semi rest
function_body items (Some n) rest = formatting_space (items n.node.value (Whole Body) rest)

-- the parameters of a function, with commas between
abbrev pub parameters : {X : Type 0} → (X → Answers) → (X → Place → Part) → functions.Function X → Part
parameters asks items n = list comma_list_format n.span (map (child_of param_place (λ p place. param asks items p)) n.params.items)

-- `<A>(a): B { c; }`; decorators of a function that is no method's are passed over
unfoldable pub fn_trailing : {X : Type 0} → (X → Answers) → (X → Place → Part) → functions.Function X → Part
fn_trailing asks items n rest =
    type_params items n.type_params
    (punct (codes "(")
    (parameters asks items n
    (punct (codes ")") (annotation items n.return_type (function_body items n.body rest)))))

-- behind the semicolon that stands for a body a line may be ended, where no operator may follow
unfoldable pub break_without_body : {X : Type 0} → Option (BlockStmtBox X) → Part
break_without_body None rest = allow_break rest
break_without_body (Some n) rest = rest

-- `<A>(a): B { c; }` of a function that is declared or a private method: neither is an expression
unfoldable pub declaration_tail : {X : Type 0} → (X → Answers) → (X → Place → Part) → functions.Function X → Part
declaration_tail asks items n rest = fn_trailing asks items n (break_without_body n.body rest)

-- `async` and a blank, where it is so
unfoldable pub async_word : Bool → Part
async_word wanted rest = if wanted then keyword None (codes "async") (space rest) else rest

-- `async function*`
unfoldable pub function_head : {X : Type 0} → functions.Function X → Part
function_head n rest = async_word n.is_async (keyword None (codes "function") (star n.is_generator rest))

-- a blank before a name, or `*` and one that needn't be there
unfoldable pub star_or_space : Bool → Part
star_or_space wanted rest = if wanted then punct (codes "*") (formatting_space rest) else space rest

-- `async function*` and the blank before a name
unfoldable pub declaration_head : {X : Type 0} → functions.Function X → Part
declaration_head n rest = async_word n.is_async (keyword None (codes "function") (star_or_space n.is_generator rest))

-- `async *` of a method
unfoldable pub method_head : {X : Type 0} → functions.Function X → Part
method_head n rest = async_word n.is_async (star n.is_generator rest)

-- the blank after `static` of a method, by whether its key begins with a name: `static *a() {}`, minified `static*a(){}`
unfoldable pub static_gap : Bool → Part
static_gap needed rest = if needed then space rest else formatting_space rest

unfoldable pub static_head : {X : Type 0} → Bool → functions.Function X → Part
static_head starts n rest = static_gap (n.is_async || (not n.is_generator && starts)) (method_head n rest)

-- decorators, one after another
abbrev pub decorator_lines : {X : Type 0} → (X → Place → Part) → List (Decorator X) → Part
decorator_lines items ns = in_order (decorator items) ns

-- the body of a method, or the semicolon in its place
unfoldable pub method_body : {X : Type 0} → (X → Place → Part) → Option (BlockStmtBox X) → Part
method_body items None rest = semi rest
method_body items (Some n) rest = formatting_space (items n.node.value (Whole Plain) rest)

-- `<A>(a): B { c; }` of a method, whose decorators stand elsewhere
unfoldable pub method_tail : {X : Type 0} → (X → Answers) → (X → Place → Part) → functions.Function X → Part
method_tail asks items n rest =
    type_params items n.type_params
    (punct (codes "(")
    (parameters asks items n
    (punct (codes ")") (annotation items n.return_type (method_body items n.body rest)))))

-- a function, or what of it stands before its name
unfoldable pub function : {X : Type 0} → (X → Answers) → (X → Place → Part) → functions.Function X → Place → Part
function asks items n (Only FunctionHead) rest = function_head n rest
function asks items n (Only MethodHead) rest = method_head n rest
function asks items n (Only DeclarationHead) rest = declaration_head n rest
function asks items n (Only DeclarationTail) rest = declaration_tail asks items n rest
function asks items n (Only (StaticHead starts)) rest = static_head starts n rest
function asks items n (Only MethodDecorators) rest = decorator_lines items n.decorators.items rest
function asks items n (Only MethodTail) rest = method_tail asks items n rest
function asks items n place rest = fn_trailing asks items n rest
