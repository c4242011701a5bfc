-- The words of arrays, calls and `new` see what links hold through `asks` and `items` alone.
use Rattle.std.proofs.Common.{◌≡◌, refl, ◌∙◌, ap, ℕ, List, [], ◌∷◌, map, codes, Bool, true, false, Option, Some, None, Global}
use Rattle.std.specs.declared.vec.Vec.{Vec}
use Rattle.swc_ecma_codegen_common.specs.declared.positions.Span.{Span}
use Rattle.swc_ecma_codegen_tree.specs.declared.links.AnyNode.{map-AnyNode}
use Rattle.swc_ecma_codegen_tree.specs.declared.links.AnyNode.TheOpen as nodes
use Rattle.swc_ecma_codegen_tree.specs.Links.{TsTypeParamInstantiationBox}
use Rattle.swc_ecma_codegen_tree.specs.declared.exprs.Expr.TheVariants as exprs
use Rattle.swc_ecma_codegen_tree.specs.declared.exprs.ArrayLit.{ArrayLit}
use Rattle.swc_ecma_codegen_tree.specs.declared.exprs.ExprOrSpread.{ExprOrSpread}
use Rattle.swc_ecma_codegen_tree.specs.declared.exprs.CallExpr.{CallExpr}
use Rattle.swc_ecma_codegen_tree.specs.declared.exprs.Callee.{Callee}
use Rattle.swc_ecma_codegen_tree.specs.declared.exprs.Callee.TheVariants as callees
use Rattle.swc_ecma_codegen_tree.specs.declared.exprs.NewExpr.{NewExpr}
use Rattle.swc_ecma_codegen_tree.specs.declared.exprs.OptCall.{OptCall}
use Rattle.swc_ecma_codegen_tree.specs.declared.parts.ExprPart.TheVariants as expr_parts
use Rattle.swc_ecma_codegen_spans.specs.Spans.{expr_span, option_span, expr_or_spread_span}
use Rattle.swc_ecma_codegen_grammar.specs.ElementPhrases.{last_is_hole}
use Rattle.swc_ecma_codegen_grammar.proofs.Mapped.{list_mapped, hole_mapped}
use Rattle.swc_ecma_codegen_grammar.specs.TreePhrases.{is_sequence}
use Rattle.swc_ecma_codegen_tokens.specs.Lists.{ListChild, list}
use Rattle.swc_ecma_codegen_tokens.specs.Run.{Plan, Part}
use Rattle.swc_ecma_codegen_tokens.specs.Words.{keyword, punct, commit_pending_semi, start_of, end_of, leading_comments, trailing_comments}
use Rattle.swc_ecma_codegen_emit.specs.Places.{Place, Whole, context_of}
use Rattle.swc_ecma_codegen_emit.specs.declared.nodes.Context.TheVariants as contexts
use Rattle.swc_ecma_codegen_emit.specs.Answers.{Answers}
use Rattle.swc_ecma_codegen_emit.specs.Calls.{expr_or_spread, argument_place, argument_items, array_format, array_lit, call_format, new_format, arguments, super_keyword, import_callee, callee, call_expr, keeps_arguments, listed_arguments, new_arguments, new_gap, new_expr, call_mark, chain_call, is_optional}
use Rattle.swc_ecma_codegen_emit.specs.AnyExpr as words
use Rattle.swc_ecma_codegen_emit.specs.AnyExpr.{expr}
use Rattle.swc_ecma_codegen_emit.specs.Annotations.{type_args}
use Rattle.swc_ecma_codegen_emit.specs.Lists.{child_of, if_some_at}
use Rattle.swc_ecma_codegen_emit.specs.Parts.{expr_part}
use Rattle.swc_ecma_codegen_emit.specs.Tree.{node_items}
use Rattle.swc_ecma_codegen_emit.proofs.MappedOptions.{by_two}

-- ---- elements and arguments

-- an argument, as a list takes it
abbrev as_child : {X : Type 0} → (X → Answers) → (X → Place → Part) → ExprOrSpread X → ListChild
as_child asks items = child_of (argument_place asks) (argument_items asks items)

abbrev as_element : {X : Type 0} → (X → Answers) → (X → Place → Part) → Option (ExprOrSpread X) → ListChild
as_element asks items = child_of (option_span (argument_place asks)) (if_some_at (argument_items asks items))

arguments_mapped : {X Y : Type 0} (g : ExprOrSpread X → ExprOrSpread Y) (asks : Y → Answers) (items : Y → Place → Part) (asked : X → Answers) (put : X → Place → Part) → ((n : ExprOrSpread X) → as_child asks items (g n) ≡ as_child asked put n) → (format : ℕ) (parent : Span) (xs : List (ExprOrSpread X)) (rest : Plan) → arguments asks items format parent (map g xs) rest ≡ arguments asked put format parent xs rest
unfolding arguments
arguments_mapped g asks items asked put same format parent xs rest = ap (λ cs. punct (codes "(") (list format parent cs (punct (codes ")") rest))) (list_mapped g (as_child asks items) (as_child asked put) same xs)

element_mapped : {X Y : Type 0} (g : Option (ExprOrSpread X) → Option (ExprOrSpread Y)) (h : ExprOrSpread X → ExprOrSpread Y) (asks : Y → Answers) (items : Y → Place → Part) (asked : X → Answers) (put : X → Place → Part) → g None ≡ None → ((x : ExprOrSpread X) → g (Some x) ≡ Some (h x)) → ((x : ExprOrSpread X) → as_child asks items (h x) ≡ as_child asked put x) → (o : Option (ExprOrSpread X)) → as_element asks items (g o) ≡ as_element asked put o
unfolding option_span if_some_at
element_mapped g h asks items asked put none some same None = ap (as_element asks items) none
element_mapped g h asks items asked put none some same (Some x) = ap (as_element asks items) (some x) ∙ same x

elements_mapped : {X Y : Type 0} (g : Option (ExprOrSpread X) → Option (ExprOrSpread Y)) (h : ExprOrSpread X → ExprOrSpread Y) (asks : Y → Answers) (items : Y → Place → Part) (asked : X → Answers) (put : X → Place → Part) → g None ≡ None → ((x : ExprOrSpread X) → g (Some x) ≡ Some (h x)) → ((x : ExprOrSpread X) → as_child asks items (h x) ≡ as_child asked put x) → (parent : Span) (xs : List (Option (ExprOrSpread X))) (rest : Plan) → list (array_format (last_is_hole (map g xs))) parent (map (as_element asks items) (map g xs)) rest ≡ list (array_format (last_is_hole xs)) parent (map (as_element asked put) xs) rest
elements_mapped g h asks items asked put none some same parent xs rest =
    ap (λ b. list (array_format b) parent (map (as_element asks items) (map g xs)) rest) (hole_mapped g h none some xs)
    ∙ ap (λ cs. list (array_format (last_is_hole xs)) parent cs rest) (list_mapped g (as_element asks items) (as_element asked put) (element_mapped g h asks items asked put none some same) xs)

-- ---- arrays, calls and `new`

pub array_lit_mapped : {X Y : Type 0} (g : X → Y) (asks : Y → Answers) (items : Y → Place → Part) (n : ArrayLit X) (place : Place) (rest : Plan) → node_items asks items (map-AnyNode X Y g (nodes.Expr (exprs.Array n))) place rest ≡ expr (λ x. asks (g x)) (λ x. items (g x)) (exprs.Array n) (context_of place) rest
unfolding node_items expr words.expr_parts words.expr_closed expr_span words.leaves_comments words.placed_expr words.is_wrapped is_sequence array_lit expr_or_spread expr_or_spread_span
array_lit_mapped g asks items n place rest = ap (λ z. leading_comments n.span.lo (start_of n.span (punct (codes "[") z))) (elements_mapped _ _ asks items (λ x. asks (g x)) (λ x. items (g x)) refl (λ x. refl) (λ x. refl) n.span n.elems.items (punct (codes "]") (end_of n.span (trailing_comments true n.span.hi rest))))

call_by : {X Y : Type 0} (g : X → Y) (asks : Y → Answers) (items : Y → Place → Part) (n : CallExpr X) (c : Callee X) (type_args : Option (TsTypeParamInstantiationBox X)) (place : Place) (rest : Plan) → node_items asks items (map-AnyNode X Y g (nodes.Expr (exprs.Call (record n { callee = c; type_args = type_args })))) place rest ≡ expr (λ x. asks (g x)) (λ x. items (g x)) (exprs.Call (record n { callee = c; type_args = type_args })) (context_of place) rest
unfolding node_items expr words.expr_parts words.expr_closed expr_span words.leaves_comments words.placed_expr words.is_wrapped is_sequence call_expr callee expr_or_spread expr_or_spread_span type_args
call_by g asks items n (callees.Super c) None place rest = ap (λ z. commit_pending_semi (leading_comments n.span.lo (start_of n.span (super_keyword c (z))))) (arguments_mapped _ asks items (λ x. asks (g x)) (λ x. items (g x)) (λ x. refl) call_format n.span n.args.items (trailing_comments true n.span.hi rest))
call_by g asks items n (callees.Super c) (Some t) place rest = ap (λ z. commit_pending_semi (leading_comments n.span.lo (start_of n.span (super_keyword c (items (g t.node.value) (Whole contexts.Plain) (z)))))) (arguments_mapped _ asks items (λ x. asks (g x)) (λ x. items (g x)) (λ x. refl) call_format n.span n.args.items (trailing_comments true n.span.hi rest))
call_by g asks items n (callees.Import c) None place rest = ap (λ z. commit_pending_semi (leading_comments n.span.lo (start_of n.span (import_callee c (z))))) (arguments_mapped _ asks items (λ x. asks (g x)) (λ x. items (g x)) (λ x. refl) call_format n.span n.args.items (trailing_comments true n.span.hi rest))
call_by g asks items n (callees.Import c) (Some t) place rest = ap (λ z. commit_pending_semi (leading_comments n.span.lo (start_of n.span (import_callee c (items (g t.node.value) (Whole contexts.Plain) (z)))))) (arguments_mapped _ asks items (λ x. asks (g x)) (λ x. items (g x)) (λ x. refl) call_format n.span n.args.items (trailing_comments true n.span.hi rest))
call_by g asks items n (callees.Expr c) None place rest = ap (λ z. commit_pending_semi (leading_comments n.span.lo (start_of n.span (items (g c.node.value) (Whole contexts.Callee) (z))))) (arguments_mapped _ asks items (λ x. asks (g x)) (λ x. items (g x)) (λ x. refl) call_format n.span n.args.items (trailing_comments true n.span.hi rest))
call_by g asks items n (callees.Expr c) (Some t) place rest = ap (λ z. commit_pending_semi (leading_comments n.span.lo (start_of n.span (items (g c.node.value) (Whole contexts.Callee) (items (g t.node.value) (Whole contexts.Plain) (z)))))) (arguments_mapped _ asks items (λ x. asks (g x)) (λ x. items (g x)) (λ x. refl) call_format n.span n.args.items (trailing_comments true n.span.hi rest))

pub call_mapped : {X Y : Type 0} (g : X → Y) (asks : Y → Answers) (items : Y → Place → Part) (n : CallExpr X) (place : Place) (rest : Plan) → node_items asks items (map-AnyNode X Y g (nodes.Expr (exprs.Call n))) place rest ≡ expr (λ x. asks (g x)) (λ x. items (g x)) (exprs.Call n) (context_of place) rest
call_mapped g asks items n place rest = call_by g asks items n n.callee n.type_args place rest

listed_arguments_mapped : {X Y : Type 0} (g : ExprOrSpread X → ExprOrSpread Y) (asks : Y → Answers) (items : Y → Place → Part) (asked : X → Answers) (put : X → Place → Part) → ((n : ExprOrSpread X) → as_child asks items (g n) ≡ as_child asked put n) → (parent : Span) (keeps : Bool) (xs : List (ExprOrSpread X)) (rest : Plan) → listed_arguments asks items parent keeps (map g xs) rest ≡ listed_arguments asked put parent keeps xs rest
unfolding listed_arguments
listed_arguments_mapped g asks items asked put same parent false [] rest = refl
listed_arguments_mapped g asks items asked put same parent false (x ∷ xs) rest = arguments_mapped g asks items asked put same new_format parent (x ∷ xs) rest
listed_arguments_mapped g asks items asked put same parent true xs rest = arguments_mapped g asks items asked put same new_format parent xs rest

new_by : {X Y : Type 0} (g : X → Y) (asks : Y → Answers) (items : Y → Place → Part) (n : NewExpr X) (place : Place) (type_args : Option (TsTypeParamInstantiationBox X)) (args : Option (Vec (ExprOrSpread X) Global)) (rest : Plan) → node_items asks items (map-AnyNode X Y g (nodes.Expr (exprs.New (record n { args = args; type_args = type_args })))) place rest ≡ expr (λ x. asks (g x)) (λ x. items (g x)) (exprs.New (record n { args = args; type_args = type_args })) (context_of place) rest
unfolding node_items expr words.expr_parts words.expr_closed expr_span words.leaves_comments words.placed_expr words.is_wrapped is_sequence new_expr new_arguments expr_or_spread expr_or_spread_span type_args
new_by g asks items n place = by_two _ (type_args items contexts.Plain) (type_args (λ x. items (g x)) contexts.Plain)
    _ (new_arguments asks items n.span (keeps_arguments (context_of place))) (new_arguments (λ x. asks (g x)) (λ x. items (g x)) n.span (keeps_arguments (context_of place)))
    (λ t a rest. commit_pending_semi (leading_comments n.span.lo (start_of n.span (keyword None (codes "new") (new_gap (asks (g n.callee.node.value)).starts (items (g n.callee.node.value) (Whole contexts.Plain) (t (a (trailing_comments true n.span.hi rest)))))))))
    (elim [ None ↦ λ z. refl | Some t ↦ λ z. refl ]) (elim [ None ↦ λ z. refl | Some args ↦ listed_arguments_mapped _ asks items (λ x. asks (g x)) (λ x. items (g x)) (λ x. refl) n.span (keeps_arguments (context_of place)) args.items ])

pub new_mapped : {X Y : Type 0} (g : X → Y) (asks : Y → Answers) (items : Y → Place → Part) (n : NewExpr X) (place : Place) (rest : Plan) → node_items asks items (map-AnyNode X Y g (nodes.Expr (exprs.New n))) place rest ≡ expr (λ x. asks (g x)) (λ x. items (g x)) (exprs.New n) (context_of place) rest
new_mapped g asks items n place rest = new_by g asks items n place n.type_args n.args rest

chain_call_by : {X Y : Type 0} (g : X → Y) (asks : Y → Answers) (items : Y → Place → Part) (n : OptCall X) (type_args : Option (TsTypeParamInstantiationBox X)) (place : Place) (rest : Plan) → node_items asks items (map-AnyNode X Y g (nodes.ExprPart (expr_parts.OptCall (record n { type_args = type_args })))) place rest ≡ chain_call (λ x. asks (g x)) (λ x. items (g x)) (is_optional (context_of place)) (record n { type_args = type_args }) rest
unfolding node_items expr_part chain_call expr_or_spread expr_or_spread_span type_args
chain_call_by g asks items n None place rest = ap (λ z. items (g n.callee.node.value) (Whole contexts.Callee) (call_mark (is_optional (context_of place)) (z))) (arguments_mapped _ asks items (λ x. asks (g x)) (λ x. items (g x)) (λ x. refl) call_format n.span n.args.items rest)
chain_call_by g asks items n (Some t) place rest = ap (λ z. items (g n.callee.node.value) (Whole contexts.Callee) (call_mark (is_optional (context_of place)) (items (g t.node.value) (Whole contexts.Plain) (z)))) (arguments_mapped _ asks items (λ x. asks (g x)) (λ x. items (g x)) (λ x. refl) call_format n.span n.args.items rest)

pub chain_call_mapped : {X Y : Type 0} (g : X → Y) (asks : Y → Answers) (items : Y → Place → Part) (n : OptCall X) (place : Place) (rest : Plan) → node_items asks items (map-AnyNode X Y g (nodes.ExprPart (expr_parts.OptCall n))) place rest ≡ chain_call (λ x. asks (g x)) (λ x. items (g x)) (is_optional (context_of place)) n rest
chain_call_mapped g asks items n place rest = chain_call_by g asks items n n.type_args place rest
