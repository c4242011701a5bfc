-- The productions of arrays, calls and `new` see what links hold through f alone.
use Rattle.std.proofs.Common.{◌≡◌, refl, ◌∙◌, ap, List, [], ◌∷◌, map, codes, Bool, true, false, Option, Some, None, Global}
use Rattle.std.specs.declared.vec.Vec.{Vec}
use Rattle.swc_ecma_codegen_tree.specs.declared.links.AnyNode.{AnyNode-F, map-AnyNode}
use Rattle.swc_ecma_codegen_tree.specs.declared.links.AnyNode.TheOpen as nodes
use Rattle.swc_ecma_codegen_tree.specs.Links.{TsTypeParamInstantiationBox}
use Rattle.swc_ecma_codegen_tree.specs.declared.exprs.Expr.TheVariants as exprs
use Rattle.swc_ecma_codegen_tree.specs.declared.exprs.ArrayLit.{ArrayLit}
use Rattle.swc_ecma_codegen_tree.specs.declared.exprs.ExprOrSpread.{ExprOrSpread}
use Rattle.swc_ecma_codegen_tree.specs.declared.exprs.CallExpr.{CallExpr}
use Rattle.swc_ecma_codegen_tree.specs.declared.exprs.Callee.{Callee}
use Rattle.swc_ecma_codegen_tree.specs.declared.exprs.Callee.TheVariants as callees
use Rattle.swc_ecma_codegen_tree.specs.declared.exprs.NewExpr.{NewExpr}
use Rattle.swc_ecma_codegen_tree.specs.declared.exprs.OptCall.{OptCall}
use Rattle.swc_ecma_codegen_tree.specs.declared.parts.ExprPart.TheVariants as expr_parts
use Rattle.swc_ecma_codegen_grammar.specs.AnnotationPhrases.{type_args}
use Rattle.swc_ecma_codegen_grammar.specs.Phrases.{Phrase, Never, ◌>◌, word, mark, listed}
use Rattle.swc_ecma_codegen_grammar.specs.declared.roles.Role.{Role}
use Rattle.swc_ecma_codegen_grammar.specs.declared.roles.Role.TheVariants.{Expression, ChainCall}
use Rattle.swc_ecma_codegen_grammar.specs.ElementPhrases.{element, last_is_hole}
use Rattle.swc_ecma_codegen_grammar.specs.CallPhrases.{value_at, callee_at, expr_or_spread, array_elements, array_lit, arguments, import_callee, callee, call_expr, listed_arguments, new_arguments, new_expr, call_mark, chain_call}
use Rattle.swc_ecma_codegen_grammar.specs.ExprPhrases.{expr, expr_in}
use Rattle.swc_ecma_codegen_grammar.specs.PartPhrases.{expr_part}
use Rattle.swc_ecma_codegen_grammar.specs.TreePhrases.{node_phrase}
use Rattle.swc_ecma_codegen_grammar.proofs.Mapped.{list_mapped, element_mapped, hole_mapped}

-- ---- elements and arguments

array_elements_mapped : {X Y : Type 0} (g : Option (ExprOrSpread X) → Option (ExprOrSpread Y)) (h : ExprOrSpread X → ExprOrSpread Y) (f : Y → Role → Phrase) (d : X → Role → Phrase) → g None ≡ None → ((x : ExprOrSpread X) → g (Some x) ≡ Some (h x)) → ((x : ExprOrSpread X) → expr_or_spread f (h x) ≡ expr_or_spread d x) → (hole : Bool) (xs : List (Option (ExprOrSpread X))) → array_elements f hole (map g xs) ≡ array_elements d hole xs
unfolding array_elements
array_elements_mapped g h f d none some same true xs = ap (λ ps. listed (codes ",") ps > mark (codes ",")) (list_mapped g (element (expr_or_spread f)) (element (expr_or_spread d)) (element_mapped g h (expr_or_spread f) (expr_or_spread d) none some same) xs)
array_elements_mapped g h f d none some same false xs = ap (listed (codes ",")) (list_mapped g (element (expr_or_spread f)) (element (expr_or_spread d)) (element_mapped g h (expr_or_spread f) (expr_or_spread d) none some same) xs)

bracketed_mapped : {X Y : Type 0} (g : Option (ExprOrSpread X) → Option (ExprOrSpread Y)) (h : ExprOrSpread X → ExprOrSpread Y) (f : Y → Role → Phrase) (d : X → Role → Phrase) → g None ≡ None → ((x : ExprOrSpread X) → g (Some x) ≡ Some (h x)) → ((x : ExprOrSpread X) → expr_or_spread f (h x) ≡ expr_or_spread d x) → (xs : List (Option (ExprOrSpread X))) → (mark (codes "[") > array_elements f (last_is_hole (map g xs)) (map g xs) > mark (codes "]")) ≡ (mark (codes "[") > array_elements d (last_is_hole xs) xs > mark (codes "]"))
bracketed_mapped g h f d none some same xs =
    ap (λ p. mark (codes "[") > p > mark (codes "]")) (ap (λ b. array_elements f b (map g xs)) (hole_mapped g h none some xs) ∙ array_elements_mapped g h f d none some same (last_is_hole xs) xs)

arguments_mapped : {X Y : Type 0} (g : ExprOrSpread X → ExprOrSpread Y) (f : Y → Role → Phrase) (d : X → Role → Phrase) → ((n : ExprOrSpread X) → expr_or_spread f (g n) ≡ expr_or_spread d n) → (xs : List (ExprOrSpread X)) → arguments f (map g xs) ≡ arguments d xs
unfolding arguments
arguments_mapped g f d same xs = ap (λ ps. mark (codes "(") > listed (codes ",") ps > mark (codes ")")) (list_mapped g (expr_or_spread f) (expr_or_spread d) same xs)

listed_arguments_mapped : {X Y : Type 0} (g : ExprOrSpread X → ExprOrSpread Y) (f : Y → Role → Phrase) (d : X → Role → Phrase) → ((n : ExprOrSpread X) → expr_or_spread f (g n) ≡ expr_or_spread d n) → (keeps : Bool) (xs : List (ExprOrSpread X)) → listed_arguments f keeps (map g xs) ≡ listed_arguments d keeps xs
unfolding listed_arguments
listed_arguments_mapped g f d same false [] = refl
listed_arguments_mapped g f d same false (x ∷ xs) = arguments_mapped g f d same (x ∷ xs)
listed_arguments_mapped g f d same true xs = arguments_mapped g f d same xs

-- ---- arrays, calls and `new`

pub array_lit_mapped : {X Y : Type 0} (g : X → Y) (f : Y → Role → Phrase) (n : ArrayLit X) → node_phrase f (map-AnyNode X Y g (nodes.Expr (exprs.Array n))) Expression ≡ array_lit (λ x. f (g x)) n
unfolding node_phrase expr array_lit expr_or_spread
array_lit_mapped g f n = bracketed_mapped _ _ f (λ x. f (g x)) refl (λ x. refl) (λ x. refl) n.elems.items

call_by : {X Y : Type 0} (g : X → Y) (f : Y → Role → Phrase) (n : CallExpr X) (c : Callee X) (type_args : Option (TsTypeParamInstantiationBox X)) → node_phrase f (map-AnyNode X Y g (nodes.Expr (exprs.Call (record n { callee = c; type_args = type_args })))) Expression ≡ call_expr (λ x. f (g x)) (record n { callee = c; type_args = type_args })
unfolding node_phrase expr call_expr callee expr_or_spread type_args
call_by g f n (callees.Super c) None = ap (λ p. word (codes "super") > type_args (λ x. f (g x)) None > p) (arguments_mapped _ f (λ x. f (g x)) (λ x. refl) n.args.items)
call_by g f n (callees.Super c) (Some t) = ap (λ p. word (codes "super") > type_args (λ x. f (g x)) (Some t) > p) (arguments_mapped _ f (λ x. f (g x)) (λ x. refl) n.args.items)
call_by g f n (callees.Import c) None = ap (λ p. import_callee c > type_args (λ x. f (g x)) None > p) (arguments_mapped _ f (λ x. f (g x)) (λ x. refl) n.args.items)
call_by g f n (callees.Import c) (Some t) = ap (λ p. import_callee c > type_args (λ x. f (g x)) (Some t) > p) (arguments_mapped _ f (λ x. f (g x)) (λ x. refl) n.args.items)
call_by g f n (callees.Expr c) None = ap (λ p. callee_at (λ x. f (g x)) c > type_args (λ x. f (g x)) None > p) (arguments_mapped _ f (λ x. f (g x)) (λ x. refl) n.args.items)
call_by g f n (callees.Expr c) (Some t) = ap (λ p. callee_at (λ x. f (g x)) c > type_args (λ x. f (g x)) (Some t) > p) (arguments_mapped _ f (λ x. f (g x)) (λ x. refl) n.args.items)

pub call_mapped : {X Y : Type 0} (g : X → Y) (f : Y → Role → Phrase) (n : CallExpr X) → node_phrase f (map-AnyNode X Y g (nodes.Expr (exprs.Call n))) Expression ≡ call_expr (λ x. f (g x)) n
call_mapped g f n = call_by g f n n.callee n.type_args

-- an expression that may be a callee
abbrev pub phrase_in : {X : Type 0} → (X → Role → Phrase) → Bool → AnyNode-F X → Phrase
phrase_in f keeps (nodes.Expr n) = expr_in f keeps n
phrase_in f keeps n = Never

new_by : {X Y : Type 0} (g : X → Y) (f : Y → Role → Phrase) (keeps : Bool) (n : NewExpr X) (args : Option (Vec (ExprOrSpread X) Global)) (type_args : Option (TsTypeParamInstantiationBox X)) → phrase_in f keeps (map-AnyNode X Y g (nodes.Expr (exprs.New (record n { args = args; type_args = type_args })))) ≡ new_expr (λ x. f (g x)) keeps (record n { args = args; type_args = type_args })
unfolding expr_in new_expr new_arguments expr_or_spread type_args
new_by g f keeps n None None = refl
new_by g f keeps n (Some args) None = ap (λ p. word (codes "new") > value_at (λ x. f (g x)) n.callee > type_args (λ x. f (g x)) None > p) (listed_arguments_mapped _ f (λ x. f (g x)) (λ x. refl) keeps args.items)
new_by g f keeps n None (Some t) = refl
new_by g f keeps n (Some args) (Some t) = ap (λ p. word (codes "new") > value_at (λ x. f (g x)) n.callee > type_args (λ x. f (g x)) (Some t) > p) (listed_arguments_mapped _ f (λ x. f (g x)) (λ x. refl) keeps args.items)

pub new_mapped : {X Y : Type 0} (g : X → Y) (f : Y → Role → Phrase) (keeps : Bool) (n : NewExpr X) → phrase_in f keeps (map-AnyNode X Y g (nodes.Expr (exprs.New n))) ≡ new_expr (λ x. f (g x)) keeps n
new_mapped g f keeps n = new_by g f keeps n n.args n.type_args

chain_call_by : {X Y : Type 0} (g : X → Y) (f : Y → Role → Phrase) (optional : Bool) (n : OptCall X) (type_args : Option (TsTypeParamInstantiationBox X)) → node_phrase f (map-AnyNode X Y g (nodes.ExprPart (expr_parts.OptCall (record n { type_args = type_args })))) (ChainCall optional) ≡ chain_call (λ x. f (g x)) optional (record n { type_args = type_args })
unfolding node_phrase expr_part chain_call expr_or_spread type_args
chain_call_by g f optional n None = ap (λ p. callee_at (λ x. f (g x)) n.callee > call_mark optional > type_args (λ x. f (g x)) None > p) (arguments_mapped _ f (λ x. f (g x)) (λ x. refl) n.args.items)
chain_call_by g f optional n (Some t) = ap (λ p. callee_at (λ x. f (g x)) n.callee > call_mark optional > type_args (λ x. f (g x)) (Some t) > p) (arguments_mapped _ f (λ x. f (g x)) (λ x. refl) n.args.items)

pub chain_call_mapped : {X Y : Type 0} (g : X → Y) (f : Y → Role → Phrase) (optional : Bool) (n : OptCall X) → node_phrase f (map-AnyNode X Y g (nodes.ExprPart (expr_parts.OptCall n))) (ChainCall optional) ≡ chain_call (λ x. f (g x)) optional n
chain_call_mapped g f optional n = chain_call_by g f optional n n.type_args
