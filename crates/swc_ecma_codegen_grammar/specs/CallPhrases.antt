-- Arrays, calls and `new`: one production a node. `f` says what is read of what a link holds, in its role.
use Rattle.std.specs.Prelude.{Bool, true, false, List, [], map, codes, Option, Some, None}
use Rattle.std.specs.declared.vec.Vec.{Vec}
use Rattle.swc_ecma_codegen_common.specs.declared.positions.Span.{Span}
use Rattle.swc_ecma_codegen_tree.specs.declared.modules.ImportPhase.{ImportPhase}
use Rattle.swc_ecma_codegen_tree.specs.declared.modules.ImportPhase.TheVariants as phases
use Rattle.swc_ecma_codegen_tree.specs.Links.{ExprBox}
use Rattle.swc_ecma_codegen_tree.specs.declared.exprs.ArrayLit.{ArrayLit}
use Rattle.swc_ecma_codegen_tree.specs.declared.exprs.ExprOrSpread.{ExprOrSpread}
use Rattle.swc_ecma_codegen_tree.specs.declared.exprs.CallExpr.{CallExpr}
use Rattle.swc_ecma_codegen_tree.specs.declared.exprs.Callee as callee_exprs
use Rattle.swc_ecma_codegen_tree.specs.declared.exprs.Callee.TheVariants as callees
use Rattle.swc_ecma_codegen_tree.specs.declared.exprs.Import.{Import}
use Rattle.swc_ecma_codegen_tree.specs.declared.exprs.NewExpr.{NewExpr}
use Rattle.swc_ecma_codegen_tree.specs.declared.exprs.OptCall.{OptCall}
use Rattle.swc_ecma_codegen_grammar.specs.Phrases.{Phrase, Nothing, Chosen, EmptyArguments, ◌>◌, word, mark, listed}
use Rattle.swc_ecma_codegen_grammar.specs.AnnotationPhrases.{type_args}
use Rattle.swc_ecma_codegen_grammar.specs.ElementPhrases.{element, last_is_hole}
use Rattle.swc_ecma_codegen_grammar.specs.declared.roles.Role.{Role}
use Rattle.swc_ecma_codegen_grammar.specs.declared.roles.Role.TheVariants.{Expression, Callee}

-- an expression, and one that is called or has a property
abbrev pub value_at : {X : Type 0} → (X → Role → Phrase) → ExprBox X → Phrase
value_at f n = f n.node.value Expression

abbrev pub callee_at : {X : Type 0} → (X → Role → Phrase) → ExprBox X → Phrase
callee_at f n = f n.node.value Callee

-- ECMA-262, section 13.3.8: `...` of `...a`
unfoldable pub spread_mark : Option Span → Phrase
spread_mark None = Nothing
spread_mark (Some dots) = mark (codes "...")

unfoldable pub expr_or_spread : {X : Type 0} → (X → Role → Phrase) → ExprOrSpread X → Phrase
expr_or_spread f n = spread_mark n.spread > value_at f n.expr

-- section 13.2.4: `[a, , ...b]`, and `[a, , ]` where the last element is a hole
unfoldable pub array_elements : {X : Type 0} → (X → Role → Phrase) → Bool → List (Option (ExprOrSpread X)) → Phrase
array_elements f true xs = listed (codes ",") (map (element (expr_or_spread f)) xs) > mark (codes ",")
array_elements f false xs = listed (codes ",") (map (element (expr_or_spread f)) xs)

unfoldable pub array_lit : {X : Type 0} → (X → Role → Phrase) → ArrayLit X → Phrase
array_lit f n = mark (codes "[") > array_elements f (last_is_hole n.elems.items) n.elems.items > mark (codes "]")

-- section 13.3.8: `(a, ...b)`
unfoldable pub arguments : {X : Type 0} → (X → Role → Phrase) → List (ExprOrSpread X) → Phrase
arguments f xs = mark (codes "(") > listed (codes ",") (map (expr_or_spread f) xs) > mark (codes ")")

-- section 13.3.10, and a proposal: `import`, `import.source`, `import.defer`
unfoldable pub import_phase : ImportPhase → Phrase
import_phase phases.Evaluation = Nothing
import_phase phases.Source = mark (codes ".") > word (codes "source")
import_phase phases.Defer = mark (codes ".") > word (codes "defer")

unfoldable pub import_callee : Import → Phrase
import_callee n = word (codes "import") > import_phase n.phase

-- section 13.3.6
unfoldable pub callee : {X : Type 0} → (X → Role → Phrase) → callee_exprs.Callee X → Phrase
callee f (callees.Super n) = word (codes "super")
callee f (callees.Import n) = import_callee n
callee f (callees.Expr n) = callee_at f n

unfoldable pub call_expr : {X : Type 0} → (X → Role → Phrase) → CallExpr X → Phrase
call_expr f n = callee f n.callee > type_args f n.type_args > arguments f n.args.items

-- section 13.3.5: `new A(a)`. `()` is there by the settings, or always where `keeps` says so, as in `new A().b`.
unfoldable pub listed_arguments : {X : Type 0} → (X → Role → Phrase) → Bool → List (ExprOrSpread X) → Phrase
listed_arguments f false [] = Chosen EmptyArguments
listed_arguments f keeps xs = arguments f xs

unfoldable pub new_arguments : {X Z : Type 0} → (X → Role → Phrase) → Bool → Option (Vec (ExprOrSpread X) Z) → Phrase
new_arguments f keeps None = Nothing
new_arguments f keeps (Some xs) = listed_arguments f keeps xs.items

unfoldable pub new_expr : {X : Type 0} → (X → Role → Phrase) → Bool → NewExpr X → Phrase
new_expr f keeps n = word (codes "new") > value_at f n.callee > type_args f n.type_args > new_arguments f keeps n.args

-- section 13.3.9: `a?.(b)`, and `(c)` of `a?.b(c)`
unfoldable pub call_mark : Bool → Phrase
call_mark true = mark (codes "?.")
call_mark false = Nothing

unfoldable pub chain_call : {X : Type 0} → (X → Role → Phrase) → Bool → OptCall X → Phrase
chain_call f optional n = callee_at f n.callee > call_mark optional > type_args f n.type_args > arguments f n.args.items
