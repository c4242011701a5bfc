-- The forms of arrays, calls and `new` over what links hold as something else.
use Rattle.std.proofs.Common.{◌≡◌, ◌==◌, ◌&&◌, ◌||◌, cond, Bool, true, false, not, is_some, refl, ◌∙◌, ap, ap₂, List, [], ◌∷◌, map, codes, Option, Some, None, Global}
use Rattle.std.specs.declared.vec.Vec.{Vec}
use Rattle.swc_ecma_codegen_tree.specs.declared.links.AnyNode.{AnyNode-F, map-AnyNode}
use Rattle.swc_ecma_codegen_tree.specs.declared.links.AnyNode.TheOpen as nodes
use Rattle.swc_ecma_codegen_tree.specs.Links.{TsTypeParamInstantiationBox}
use Rattle.swc_ecma_codegen_tree.specs.declared.exprs.Expr.TheVariants as exprs
use Rattle.swc_ecma_codegen_tree.specs.declared.exprs.ArrayLit.{ArrayLit}
use Rattle.swc_ecma_codegen_tree.specs.declared.exprs.ExprOrSpread.{ExprOrSpread}
use Rattle.swc_ecma_codegen_tree.specs.declared.exprs.CallExpr.{CallExpr}
use Rattle.swc_ecma_codegen_tree.specs.declared.exprs.Callee.{Callee}
use Rattle.swc_ecma_codegen_tree.specs.declared.exprs.Callee.TheVariants as callees
use Rattle.swc_ecma_codegen_tree.specs.declared.exprs.NewExpr.{NewExpr}
use Rattle.swc_ecma_codegen_tree.specs.declared.exprs.OptCall.{OptCall}
use Rattle.swc_ecma_codegen_tree.specs.declared.parts.ExprPart.TheVariants as expr_parts
use Rattle.swc_ecma_codegen_grammar.specs.Phrases.{mark, word}
use Rattle.swc_ecma_codegen_grammar.specs.CallPhrases.{import_callee, call_mark}
use Rattle.swc_ecma_codegen_grammar.specs.ElementPhrases.{last_is_hole}
use Rattle.swc_ecma_codegen_grammar.specs.declared.roles.Role.TheVariants.{ChainCall}
use Rattle.swc_ecma_codegen_grammar.proofs.Mapped.{hole_mapped}
use Rattle.swc_ecma_codegen_grammar.proofs.MappedTemplates.{length_mapped}
use Rattle.swc_ecma_codegen_syntax.specs.declared.nonterminals.Nonterminal.{Nonterminal}
use Rattle.swc_ecma_codegen_syntax.specs.declared.nonterminals.Nonterminal.TheVariants as nt
use Rattle.swc_ecma_codegen_syntax.specs.declared.parameters.Parameters.{Parameters}
use Rattle.swc_ecma_codegen_syntax.specs.Parameters.{with_in, to_end}
use Rattle.swc_ecma_codegen_syntax.specs.Forms.{Form, Fixed, Provided, ByRule, ByScope, ◌⇢◌, map_form, element}
use Rattle.swc_ecma_codegen_syntax.specs.MemberForms.{expr_part, callee_part, type_args_form, chained}
use Rattle.swc_ecma_codegen_syntax.specs.CallForms.{argument_form, elements_form, array_form, arguments_form, no_spread, is_evaluation, are_import_arguments, callee_form, call_form, drops_arguments, has_arguments, new_nonterminal, new_parameters, listed_form, new_arguments_form, new_form, chain_call_form}
use Rattle.swc_ecma_codegen_syntax.specs.ExprForms.{expr_form, expr_nonterminal}
use Rattle.swc_ecma_codegen_syntax.specs.NodeForms.{node_form, part_form, missing_form}
use Rattle.swc_ecma_codegen_syntax.proofs.Judged.{listed_mapped, element_mapped}

-- an expression, by whether it is called, and what it is
abbrev pub form_in : {X : Type 0} → Bool → Bool → Parameters → AnyNode-F X → Form X
form_in keeps called c (nodes.Expr n) = expr_form keeps called c n
form_in keeps called c n = missing_form

abbrev pub nonterminal_in : {X : Type 0} → Bool → Bool → Parameters → AnyNode-F X → Nonterminal
nonterminal_in keeps called c (nodes.Expr n) = expr_nonterminal keeps called c n
nonterminal_in keeps called c n = nt.Uncovered

-- ---- arrays

elements_mapped : {X Y : Type 0} (g : X → Y) (k : Option (ExprOrSpread X) → Option (ExprOrSpread Y)) (h : ExprOrSpread X → ExprOrSpread Y) (c : Parameters) → k None ≡ None → ((x : ExprOrSpread X) → k (Some x) ≡ Some (h x)) →
    ((x : ExprOrSpread X) → argument_form c (h x) ≡ map_form g (argument_form c x)) → (hole : Bool) (xs : List (Option (ExprOrSpread X))) → elements_form c hole (map k xs) ≡ map_form g (elements_form c hole xs)
unfolding elements_form map_form
elements_mapped g k h c none some same true xs = ap (λ a. a ⇢ Fixed (mark (codes ","))) (listed_mapped g k (codes ",") (element (argument_form c)) (element (argument_form c)) (element_mapped g k h (argument_form c) (argument_form c) none some same) xs)
elements_mapped g k h c none some same false xs = listed_mapped g k (codes ",") (element (argument_form c)) (element (argument_form c)) (element_mapped g k h (argument_form c) (argument_form c) none some same) xs

bracketed_mapped : {X Y : Type 0} (g : X → Y) (k : Option (ExprOrSpread X) → Option (ExprOrSpread Y)) (h : ExprOrSpread X → ExprOrSpread Y) (c : Parameters) → k None ≡ None → ((x : ExprOrSpread X) → k (Some x) ≡ Some (h x)) →
    ((x : ExprOrSpread X) → argument_form c (h x) ≡ map_form g (argument_form c x)) → (xs : List (Option (ExprOrSpread X))) →
    (Fixed (mark (codes "[")) ⇢ elements_form c (last_is_hole (map k xs)) (map k xs) ⇢ Fixed (mark (codes "]"))) ≡ map_form g (Fixed (mark (codes "[")) ⇢ elements_form c (last_is_hole xs) xs ⇢ Fixed (mark (codes "]")))
unfolding map_form
bracketed_mapped g k h c none some same xs =
    ap (λ a. Fixed (mark (codes "[")) ⇢ a ⇢ Fixed (mark (codes "]"))) (ap (λ b. elements_form c b (map k xs)) (hole_mapped k h none some xs) ∙ elements_mapped g k h c none some same (last_is_hole xs) xs)

pub array_mapped : {X Y : Type 0} (g : X → Y) (keeps called : Bool) (c : Parameters) (n : ArrayLit X) → form_in keeps called c (map-AnyNode X Y g (nodes.Expr (exprs.Array n))) ≡ map_form g (array_form c n)
unfolding expr_form array_form argument_form map_form
array_mapped g keeps called c n = bracketed_mapped g _ _ c refl (λ x. refl) (λ x. refl) n.elems.items

-- ---- calls

arguments_mapped : {X Y : Type 0} (g : X → Y) (h : ExprOrSpread X → ExprOrSpread Y) (c : Parameters) → ((x : ExprOrSpread X) → argument_form c (h x) ≡ map_form g (argument_form c x)) → (xs : List (ExprOrSpread X)) →
    arguments_form c (map h xs) ≡ map_form g (arguments_form c xs)
unfolding arguments_form map_form
arguments_mapped g h c same xs = ap (λ a. Fixed (mark (codes "(")) ⇢ a ⇢ Fixed (mark (codes ")"))) (listed_mapped g h (codes ",") (argument_form c) (argument_form c) same xs)

spread_mapped : {X Y : Type 0} (h : ExprOrSpread X → ExprOrSpread Y) → ((x : ExprOrSpread X) → is_some (h x).spread ≡ is_some x.spread) → (xs : List (ExprOrSpread X)) → no_spread (map h xs) ≡ no_spread xs
unfolding no_spread
spread_mapped h same [] = refl
spread_mapped h same (x ∷ xs) = ap₂ (λ a b. not a && b) (same x) (spread_mapped h same xs)

imported_mapped : {X Y : Type 0} (h : ExprOrSpread X → ExprOrSpread Y) → ((x : ExprOrSpread X) → is_some (h x).spread ≡ is_some x.spread) → (xs : List (ExprOrSpread X)) → are_import_arguments (map h xs) ≡ are_import_arguments xs
unfolding are_import_arguments
imported_mapped h same xs = ap₂ (λ n b. (n == 1 || n == 2) && b) (length_mapped h xs) (spread_mapped h same xs)

call_by : {X Y : Type 0} (g : X → Y) (keeps called : Bool) (c : Parameters) (n : CallExpr X) (callee : Callee X) (args : Option (TsTypeParamInstantiationBox X)) →
    form_in keeps called c (map-AnyNode X Y g (nodes.Expr (exprs.Call (record n { callee = callee; type_args = args })))) ≡ map_form g (call_form c (record n { callee = callee; type_args = args }))
unfolding expr_form call_form callee_form argument_form type_args_form map_form
call_by g keeps called c n (callees.Super s) None = ap (λ a. Fixed (word (codes "super")) ⇢ type_args_form c None ⇢ a) (arguments_mapped g _ c (λ x. refl) n.args.items)
call_by g keeps called c n (callees.Super s) (Some t) = ap (λ a. Fixed (word (codes "super")) ⇢ map_form g (type_args_form c (Some t)) ⇢ a) (arguments_mapped g _ c (λ x. refl) n.args.items)
call_by g keeps called c n (callees.Import s) None =
    ap₂ (λ b a. Provided ByRule b (Provided ByScope (is_evaluation s.phase) (Fixed (import_callee s))) ⇢ type_args_form c None ⇢ a) (imported_mapped _ (λ x. refl) n.args.items) (arguments_mapped g _ c (λ x. refl) n.args.items)
call_by g keeps called c n (callees.Import s) (Some t) =
    ap₂ (λ b a. Provided ByRule b (Provided ByScope (is_evaluation s.phase) (Fixed (import_callee s))) ⇢ map_form g (type_args_form c (Some t)) ⇢ a) (imported_mapped _ (λ x. refl) n.args.items) (arguments_mapped g _ c (λ x. refl) n.args.items)
call_by g keeps called c n (callees.Expr e) None = ap (λ a. map_form g (callee_part nt.CallOrMember (with_in c) e) ⇢ type_args_form c None ⇢ a) (arguments_mapped g _ c (λ x. refl) n.args.items)
call_by g keeps called c n (callees.Expr e) (Some t) = ap (λ a. map_form g (callee_part nt.CallOrMember (with_in c) e) ⇢ map_form g (type_args_form c (Some t)) ⇢ a) (arguments_mapped g _ c (λ x. refl) n.args.items)

pub call_mapped : {X Y : Type 0} (g : X → Y) (keeps called : Bool) (c : Parameters) (n : CallExpr X) → form_in keeps called c (map-AnyNode X Y g (nodes.Expr (exprs.Call n))) ≡ map_form g (call_form c n)
call_mapped g keeps called c n = call_by g keeps called c n n.callee n.type_args

-- ---- `new`

drops_mapped : {X Y : Type 0} (h : ExprOrSpread X → ExprOrSpread Y) (c : Parameters) (keeps : Bool) (xs : List (ExprOrSpread X)) → drops_arguments c keeps (map h xs) ≡ drops_arguments c keeps xs
unfolding drops_arguments
drops_mapped h c true xs = refl
drops_mapped h c false [] = refl
drops_mapped h c false (x ∷ xs) = refl

listed_arguments_mapped : {X Y : Type 0} (g : X → Y) (h : ExprOrSpread X → ExprOrSpread Y) (c : Parameters) → ((x : ExprOrSpread X) → argument_form c (h x) ≡ map_form g (argument_form c x)) → (keeps : Bool) (xs : List (ExprOrSpread X)) →
    listed_form c keeps (map h xs) ≡ map_form g (listed_form c keeps xs)
unfolding listed_form map_form
listed_arguments_mapped g h c same false [] = refl
listed_arguments_mapped g h c same false (x ∷ xs) = arguments_mapped g h c same (x ∷ xs)
listed_arguments_mapped g h c same true xs = arguments_mapped g h c same xs

new_nonterminal_by : {X Y : Type 0} (g : X → Y) (keeps called : Bool) (c : Parameters) (n : NewExpr X) (args : Option (Vec (ExprOrSpread X) Global)) →
    nonterminal_in keeps called c (map-AnyNode X Y g (nodes.Expr (exprs.New (record n { args = args })))) ≡ new_nonterminal c keeps (record n { args = args })
unfolding expr_nonterminal new_nonterminal has_arguments
new_nonterminal_by g keeps called c n None = refl
new_nonterminal_by g keeps called c n (Some args) = ap (λ b. cond (not b) nt.MemberExpression nt.NewExpression) (drops_mapped _ c keeps args.items)

pub new_nonterminal_mapped : {X Y : Type 0} (g : X → Y) (keeps called : Bool) (c : Parameters) (n : NewExpr X) →
    nonterminal_in keeps called c (map-AnyNode X Y g (nodes.Expr (exprs.New n))) ≡ new_nonterminal c keeps n
new_nonterminal_mapped g keeps called c n = new_nonterminal_by g keeps called c n n.args

new_by : {X Y : Type 0} (g : X → Y) (keeps called : Bool) (c : Parameters) (n : NewExpr X) (args : Option (Vec (ExprOrSpread X) Global)) (types : Option (TsTypeParamInstantiationBox X)) →
    form_in keeps called c (map-AnyNode X Y g (nodes.Expr (exprs.New (record n { args = args; type_args = types })))) ≡ map_form g (new_form c keeps (record n { args = args; type_args = types }))
unfolding expr_form new_form new_nonterminal new_parameters has_arguments new_arguments_form argument_form type_args_form map_form
new_by g keeps called c n None None = refl
new_by g keeps called c n None (Some t) = refl
new_by g keeps called c n (Some args) None =
    ap₂ (λ b a. Fixed (word (codes "new")) ⇢ map_form g (expr_part (cond (not b) nt.MemberExpression nt.NewExpression) (cond (not b) (with_in c) (to_end c)) n.callee) ⇢ type_args_form c None ⇢ a)
    (drops_mapped _ c keeps args.items) (listed_arguments_mapped g _ c (λ x. refl) keeps args.items)
new_by g keeps called c n (Some args) (Some t) =
    ap₂ (λ b a. Fixed (word (codes "new")) ⇢ map_form g (expr_part (cond (not b) nt.MemberExpression nt.NewExpression) (cond (not b) (with_in c) (to_end c)) n.callee) ⇢ map_form g (type_args_form c (Some t)) ⇢ a)
    (drops_mapped _ c keeps args.items) (listed_arguments_mapped g _ c (λ x. refl) keeps args.items)

pub new_mapped : {X Y : Type 0} (g : X → Y) (keeps called : Bool) (c : Parameters) (n : NewExpr X) → form_in keeps called c (map-AnyNode X Y g (nodes.Expr (exprs.New n))) ≡ map_form g (new_form c keeps n)
new_mapped g keeps called c n = new_by g keeps called c n n.args n.type_args

-- ---- calls in chains

chain_call_by : {X Y : Type 0} (g : X → Y) (called : Bool) (c : Parameters) (optional : Bool) (n : OptCall X) (types : Option (TsTypeParamInstantiationBox X)) →
    node_form called c (map-AnyNode X Y g (nodes.ExprPart (expr_parts.OptCall (record n { type_args = types })))) (ChainCall optional) ≡ map_form g (chain_call_form c optional (record n { type_args = types }))
unfolding node_form part_form chain_call_form argument_form type_args_form map_form
chain_call_by g called c optional n None = ap (λ a. map_form g (callee_part (chained optional) (with_in c) n.callee) ⇢ Fixed (call_mark optional) ⇢ type_args_form c None ⇢ a) (arguments_mapped g _ c (λ x. refl) n.args.items)
chain_call_by g called c optional n (Some t) = ap (λ a. map_form g (callee_part (chained optional) (with_in c) n.callee) ⇢ Fixed (call_mark optional) ⇢ map_form g (type_args_form c (Some t)) ⇢ a) (arguments_mapped g _ c (λ x. refl) n.args.items)

pub chain_call_mapped : {X Y : Type 0} (g : X → Y) (called : Bool) (c : Parameters) (optional : Bool) (n : OptCall X) →
    node_form called c (map-AnyNode X Y g (nodes.ExprPart (expr_parts.OptCall n))) (ChainCall optional) ≡ map_form g (chain_call_form c optional n)
chain_call_mapped g called c optional n = chain_call_by g called c optional n n.type_args
