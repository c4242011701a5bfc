-- What is written of arrays, calls and `new`.
use Rattle.std.specs.Prelude.{ℕ, Bool, true, false, if◌then◌else◌, List, [], map, codes, Option, Some, None}
use Rattle.std.specs.declared.vec.Vec.{Vec}
use Rattle.swc_ecma_codegen_common.specs.declared.positions.Span.{Span}
use Rattle.swc_ecma_codegen_tree.specs.declared.modules.ImportPhase.{ImportPhase}
use Rattle.swc_ecma_codegen_tree.specs.declared.modules.ImportPhase.TheVariants as phases
use Rattle.swc_ecma_codegen_tree.specs.declared.exprs.ArrayLit.{ArrayLit}
use Rattle.swc_ecma_codegen_tree.specs.declared.exprs.ExprOrSpread.{ExprOrSpread}
use Rattle.swc_ecma_codegen_tree.specs.declared.exprs.CallExpr.{CallExpr}
use Rattle.swc_ecma_codegen_tree.specs.declared.exprs.Callee as callee_exprs
use Rattle.swc_ecma_codegen_tree.specs.declared.exprs.Callee.TheVariants as callees
use Rattle.swc_ecma_codegen_tree.specs.declared.exprs.Import.{Import}
use Rattle.swc_ecma_codegen_tree.specs.declared.exprs.NewExpr.{NewExpr}
use Rattle.swc_ecma_codegen_tree.specs.declared.exprs.OptCall.{OptCall}
use Rattle.swc_ecma_codegen_tree.specs.declared.exprs.Super.{Super}
use Rattle.swc_ecma_codegen_spans.specs.Spans.{option_span, expr_or_spread_span}
use Rattle.swc_ecma_codegen_grammar.specs.ElementPhrases.{last_is_hole}
use Rattle.swc_ecma_codegen_tokens.specs.Run.{Part}
use Rattle.swc_ecma_codegen_tokens.specs.Choices.{empty_arguments}
use Rattle.swc_ecma_codegen_tokens.specs.Lists.{list}
use Rattle.swc_ecma_codegen_tokens.specs.Words.{keyword, punct, space, formatting_space, commit_pending_semi, start_of, end_of, leading_comments}
use Rattle.swc_ecma_codegen_emit.specs.declared.nodes.Context.{Context}
use Rattle.swc_ecma_codegen_emit.specs.declared.nodes.Context.TheVariants.{Plain, Object, DottedObject, Callee, OptionalChain}
use Rattle.swc_ecma_codegen_emit.specs.Places.{Place, Whole}
use Rattle.swc_ecma_codegen_emit.specs.Answers.{Answers, place_of}
use Rattle.swc_ecma_codegen_emit.specs.Annotations.{type_args}
use Rattle.swc_ecma_codegen_emit.specs.Lists.{child_of, if_some_at}

-- `...` of `...a`
unfoldable pub spread_mark : Option Span → Part
spread_mark None rest = rest
spread_mark (Some dots) rest = punct (codes "...") rest

-- `a` or `...a` of `f(a, ...a)`
unfoldable pub expr_or_spread : {X : Type 0} → (X → Answers) → (X → Place → Part) → ExprOrSpread X → Part
expr_or_spread asks items n rest = leading_comments (expr_or_spread_span (place_of asks) n).lo (spread_mark n.spread (items n.expr.node.value (Whole Plain) rest))

-- where it stands, and what is written of it wherever it is put
abbrev pub argument_place : {X : Type 0} → (X → Answers) → ExprOrSpread X → Span
argument_place asks = expr_or_spread_span (place_of asks)

abbrev pub argument_items : {X : Type 0} → (X → Answers) → (X → Place → Part) → ExprOrSpread X → Place → Part
argument_items asks items n place = expr_or_spread asks items n

-- ---- arrays

-- `ArrayLiteralExpressionElements`, with `ForceTrailingComma` where a hole is last
abbrev pub array_format : Bool → ℕ
array_format hole = if hole then 16722 else 338

-- the elements: `a, , b`
abbrev pub array_elements : {X : Type 0} → (X → Answers) → (X → Place → Part) → ArrayLit X → Part
array_elements asks items n = list (array_format (last_is_hole n.elems.items)) n.span (map (child_of (option_span (argument_place asks)) (if_some_at (argument_items asks items))) n.elems.items)

-- `[a,,b]` is printed `[a, , b]`, and `[a,,]` `[a, , ]`; minified as they stand here
unfoldable pub array_lit : {X : Type 0} → (X → Answers) → (X → Place → Part) → ArrayLit X → Part
array_lit asks items n rest =
    leading_comments n.span.lo
    (start_of n.span
    (punct (codes "[")
    (array_elements asks items n
    (punct (codes "]") (end_of n.span rest)))))

-- ---- calls

-- `CallExpressionArguments`, and `NewExpressionArguments`
abbrev pub call_format : ℕ
call_format = 272

abbrev pub new_format : ℕ
new_format = 784

-- `(a, ...b)`
unfoldable pub arguments : {X : Type 0} → (X → Answers) → (X → Place → Part) → ℕ → Span → List (ExprOrSpread X) → Part
arguments asks items format parent xs rest = punct (codes "(") (list format parent (map (child_of (argument_place asks) (argument_items asks items)) xs) (punct (codes ")") rest))

-- `.source` of `import.source(a)`
unfoldable pub import_phase : ImportPhase → Part
import_phase phases.Evaluation rest = rest
import_phase phases.Source rest = punct (codes ".") (keyword None (codes "source") rest)
import_phase phases.Defer rest = punct (codes ".") (keyword None (codes "defer") rest)

unfoldable pub import_callee : Import → Part
import_callee n rest = keyword (Some n.span) (codes "import") (import_phase n.phase rest)

-- `super` of `super(a)` and `super.a`
unfoldable pub super_keyword : Super → Part
super_keyword n rest = keyword (Some n.span) (codes "super") rest

unfoldable pub callee : {X : Type 0} → (X → Place → Part) → callee_exprs.Callee X → Part
callee items (callees.Super n) rest = super_keyword n rest
callee items (callees.Import n) rest = import_callee n rest
callee items (callees.Expr n) rest = items n.node.value (Whole Callee) rest

-- `f<A>(a, b)`
unfoldable pub call_expr : {X : Type 0} → (X → Answers) → (X → Place → Part) → CallExpr X → Part
call_expr asks items n rest =
    commit_pending_semi
    (leading_comments n.span.lo
    (start_of n.span (callee items n.callee (type_args items Plain n.type_args (arguments asks items call_format n.span n.args.items rest)))))

-- ---- `new`

-- where `new A()` keeps its parentheses: what is called, or has a property
abbrev pub keeps_arguments : Context → Bool
keeps_arguments Object = true
keeps_arguments (DottedObject prop) = true
keeps_arguments Callee = true
keeps_arguments context = false

unfoldable pub parentheses : Part
parentheses rest = punct (codes "(") (punct (codes ")") rest)

-- `()` may be left out
unfoldable pub listed_arguments : {X : Type 0} → (X → Answers) → (X → Place → Part) → Span → Bool → List (ExprOrSpread X) → Part
listed_arguments asks items parent false [] rest = empty_arguments rest
listed_arguments asks items parent keeps xs rest = arguments asks items new_format parent xs rest

unfoldable pub new_arguments : {X Z : Type 0} → (X → Answers) → (X → Place → Part) → Span → Bool → Option (Vec (ExprOrSpread X) Z) → Part
new_arguments asks items parent keeps None rest = rest
new_arguments asks items parent keeps (Some xs) rest = listed_arguments asks items parent keeps xs.items rest

-- the blank after `new`: `new A` has one, minified `new(A)` has none
unfoldable pub new_gap : Bool → Part
new_gap starts rest = if starts then space rest else formatting_space rest

-- `new A<B>(a)`
unfoldable pub new_expr : {X : Type 0} → (X → Answers) → (X → Place → Part) → Bool → NewExpr X → Part
new_expr asks items keeps n rest =
    commit_pending_semi
    (leading_comments n.span.lo
    (start_of n.span
    (keyword None (codes "new")
    (new_gap (asks n.callee.node.value).starts
    (items n.callee.node.value (Whole Plain) (type_args items Plain n.type_args (new_arguments asks items n.span keeps n.args rest)))))))

-- ---- calls in optional chains

-- `?.` of `a?.(b)`
unfoldable pub call_mark : Bool → Part
call_mark optional rest = if optional then punct (codes "?.") rest else rest

-- A call in an optional chain has neither comments nor positions of its own.
unfoldable pub chain_call : {X : Type 0} → (X → Answers) → (X → Place → Part) → Bool → OptCall X → Part
chain_call asks items optional n rest =
    items n.callee.node.value (Whole Callee)
    (call_mark optional (type_args items Plain n.type_args (arguments asks items call_format n.span n.args.items rest)))

-- its context says whether `?.` stands before its arguments
abbrev pub is_optional : Context → Bool
is_optional OptionalChain = true
is_optional context = false
