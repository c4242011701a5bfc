-- Without nonterminals a form is the production that tells its tokens, where it keeps its structure.
use Rattle.std.proofs.Common.{◌≡◌, ℕ, Bool, true, false, cond, refl, ◌∙◌, ap, ap₂, List, [], ◌∷◌, map, codes, Option, Some, None}
use Rattle.std.specs.declared.vec.Vec.{Vec}
use Rattle.std.proofs.lemmas.Bool.{and_parts}
use Rattle.swc_ecma_codegen_tree.specs.Links.{BlockStmtBox, ExprBox, PatBox, TsTypeAnnBox, TsTypeParamInstantiationBox}
use Rattle.swc_ecma_codegen_tree.specs.declared.exprs.UpdateExpr.{UpdateExpr}
use Rattle.swc_ecma_codegen_tree.specs.declared.exprs.MemberExpr.{MemberExpr}
use Rattle.swc_ecma_codegen_tree.specs.declared.exprs.MemberProp.{MemberProp}
use Rattle.swc_ecma_codegen_tree.specs.declared.exprs.MemberProp.TheVariants as member_props
use Rattle.swc_ecma_codegen_tree.specs.declared.exprs.SuperPropExpr.{SuperPropExpr}
use Rattle.swc_ecma_codegen_tree.specs.declared.exprs.OptChainExpr.{OptChainExpr}
use Rattle.swc_ecma_codegen_tree.specs.declared.exprs.SuperProp.{SuperProp}
use Rattle.swc_ecma_codegen_tree.specs.declared.exprs.SuperProp.TheVariants as super_props
use Rattle.swc_ecma_codegen_tree.specs.declared.exprs.OptChainBase.{OptChainBase}
use Rattle.swc_ecma_codegen_tree.specs.declared.exprs.OptChainBase.TheVariants as chain_bases
use Rattle.swc_ecma_codegen_tree.specs.declared.exprs.TaggedTpl.{TaggedTpl}
use Rattle.swc_ecma_codegen_tree.specs.declared.exprs.Tpl.{Tpl}
use Rattle.swc_ecma_codegen_tree.specs.declared.exprs.TplElement.{TplElement}
use Rattle.swc_ecma_codegen_tree.specs.declared.exprs.ArrayLit.{ArrayLit}
use Rattle.swc_ecma_codegen_tree.specs.declared.exprs.ExprOrSpread.{ExprOrSpread}
use Rattle.swc_ecma_codegen_tree.specs.declared.exprs.CallExpr.{CallExpr}
use Rattle.swc_ecma_codegen_tree.specs.declared.exprs.Callee.{Callee}
use Rattle.swc_ecma_codegen_tree.specs.declared.exprs.Callee.TheVariants as callees
use Rattle.swc_ecma_codegen_tree.specs.declared.exprs.NewExpr.{NewExpr}
use Rattle.swc_ecma_codegen_tree.specs.declared.exprs.OptCall.{OptCall}
use Rattle.swc_ecma_codegen_tree.specs.declared.exprs.ObjectLit.{ObjectLit}
use Rattle.swc_ecma_codegen_tree.specs.declared.exprs.PropOrSpread.{PropOrSpread}
use Rattle.swc_ecma_codegen_tree.specs.declared.exprs.PropOrSpread.TheVariants as prop_or_spreads
use Rattle.swc_ecma_codegen_tree.specs.declared.exprs.Prop.{Prop}
use Rattle.swc_ecma_codegen_tree.specs.declared.exprs.Prop.TheVariants as props
use Rattle.swc_ecma_codegen_tree.specs.declared.exprs.PropName.{PropName}
use Rattle.swc_ecma_codegen_tree.specs.declared.exprs.PropName.TheVariants as prop_names
use Rattle.swc_ecma_codegen_tree.specs.declared.exprs.KeyValueProp.{KeyValueProp}
use Rattle.swc_ecma_codegen_tree.specs.declared.exprs.GetterProp.{GetterProp}
use Rattle.swc_ecma_codegen_tree.specs.declared.exprs.SetterProp.{SetterProp}
use Rattle.swc_ecma_codegen_tree.specs.declared.exprs.MethodProp.{MethodProp}
use Rattle.swc_ecma_codegen_grammar.specs.PatPhrases.{pat_at, prop_name_at}
use Rattle.swc_ecma_codegen_grammar.specs.FunctionPhrases.{function_at}
use Rattle.swc_ecma_codegen_grammar.specs.Phrases.{Phrase, Never, Then, ◌>◌, word, mark}
use Rattle.swc_ecma_codegen_grammar.specs.Phrases as phrases
use Rattle.swc_ecma_codegen_grammar.specs.AnnotationPhrases.{annotation, type_args}
use Rattle.swc_ecma_codegen_grammar.specs.ElementPhrases as elements
use Rattle.swc_ecma_codegen_grammar.specs.KeyPhrases.{computed_prop_name, prop_name}
use Rattle.swc_ecma_codegen_grammar.specs.CallPhrases.{callee_at, expr_or_spread, array_elements, array_lit, arguments, callee, call_expr, listed_arguments, new_arguments, new_expr, call_mark, chain_call}
use Rattle.swc_ecma_codegen_grammar.specs.TemplatePhrases.{tpl_element, part_before, is_counted, tpl_rest, tpl_parts, tpl, tagged_tpl}
use Rattle.swc_ecma_codegen_grammar.specs.PropPhrases.{key_value_prop, assign_prop, optional_body, getter_prop, this_param, setter_prop, method_prop, prop, spread_element, prop_or_spread, object_lit}
use Rattle.swc_ecma_codegen_grammar.specs.ExprPhrases.{expr_at, update_expr, member_prop, member_expr, super_prop, super_prop_expr, chain_mark, chain_prop, chain_member, chain_base, opt_chain_expr, yield_arg, yield_rest}
use Rattle.swc_ecma_codegen_grammar.specs.declared.roles.Role.{Role}
use Rattle.swc_ecma_codegen_grammar.specs.declared.roles.Role.TheVariants.{Expression, MethodHead, TaggedTemplate}
use Rattle.swc_ecma_codegen_syntax.specs.declared.nonterminals.Nonterminal.{Nonterminal}
use Rattle.swc_ecma_codegen_syntax.specs.declared.nonterminals.Nonterminal.TheVariants as nt
use Rattle.swc_ecma_codegen_syntax.specs.declared.parameters.Parameters.{Parameters}
use Rattle.swc_ecma_codegen_syntax.specs.Summary.{Summary}
use Rattle.swc_ecma_codegen_syntax.specs.Parameters.{with_in}
use Rattle.swc_ecma_codegen_syntax.specs.Forms.{Form, Fixed, Provided, ByRule, forget, keeps, is_met, each_after, listed, element}
use Rattle.swc_ecma_codegen_syntax.specs.NameForms.{name_form}
use Rattle.swc_ecma_codegen_syntax.specs.MemberForms.{expr_part, computed_form, prop_form, member_form, super_form, super_prop_form, annotation_form, type_args_form, tagged_form, chain_prop_form, chain_member_form, chain_base_form, opt_chain_form}
use Rattle.swc_ecma_codegen_syntax.specs.CallForms.{argument_form, elements_form, array_form, arguments_form, callee_form, call_form, listed_form, new_arguments_form, new_form, chain_call_form}
use Rattle.swc_ecma_codegen_syntax.specs.TemplateForms.{tpl_rest_form, tpl_parts_form, tpl_form}
use Rattle.swc_ecma_codegen_syntax.specs.ObjectForms.{prop_name_form, key_value_form, assign_prop_form, accessor_body_form, getter_form, this_param_form, setter_form, method_prop_form, property_form, spread_form, prop_or_spread_form, object_form}
use Rattle.swc_ecma_codegen_syntax.specs.ExprForms.{update_form, yield_arg_form, yield_rest_form}
use Rattle.swc_ecma_codegen_syntax.specs.Verdicts.{Grammar}
use Rattle.swc_ecma_codegen_syntax.proofs.Judged.{listed_forgets, map_same, element_forgets}

-- ---- types

pub annotation_forgets : {X : Type 0} (p : X → Role → Phrase) (c : Parameters) (n : Option (TsTypeAnnBox X)) → forget p (annotation_form c n) ≡ annotation p n
unfolding forget annotation_form annotation
annotation_forgets p c None = refl
annotation_forgets p c (Some n) = refl

pub args_forget : {X : Type 0} (p : X → Role → Phrase) (c : Parameters) (n : Option (TsTypeParamInstantiationBox X)) → forget p (type_args_form c n) ≡ type_args p n
unfolding forget type_args_form type_args
args_forget p c None = refl
args_forget p c (Some n) = refl

-- ---- members

prop_forgets : {X : Type 0} (p : X → Role → Phrase) (c : Parameters) (n : MemberProp X) → forget p (prop_form c n) ≡ member_prop p n
unfolding forget prop_form computed_form member_prop computed_prop_name
prop_forgets p c (member_props.Ident n) = refl
prop_forgets p c (member_props.PrivateName n) = refl
prop_forgets p c (member_props.Computed n) = refl

pub member_forgets : {X : Type 0} (p : X → Role → Phrase) (place : Nonterminal) (c : Parameters) (n : MemberExpr X) → forget p (member_form place c n) ≡ member_expr p n
unfolding forget member_form member_expr
member_forgets p place c n = ap (Then (callee_at p n.obj)) (prop_forgets p c n.prop)

super_forgets : {X : Type 0} (p : X → Role → Phrase) (c : Parameters) (n : SuperProp X) → forget p (super_form c n) ≡ super_prop p n
unfolding forget super_form computed_form super_prop computed_prop_name
super_forgets p c (super_props.Ident n) = refl
super_forgets p c (super_props.Computed n) = refl

pub super_prop_forgets : {X : Type 0} (p : X → Role → Phrase) (c : Parameters) (n : SuperPropExpr X) → forget p (super_prop_form c n) ≡ super_prop_expr p n
unfolding forget super_prop_form super_prop_expr
super_prop_forgets p c n = ap (Then (word (codes "super"))) (super_forgets p c n.prop)

chain_prop_forgets : {X : Type 0} (p : X → Role → Phrase) (c : Parameters) (n : MemberProp X) → forget p (chain_prop_form c n) ≡ chain_prop p n
unfolding forget chain_prop_form computed_form chain_prop computed_prop_name
chain_prop_forgets p c (member_props.Ident n) = refl
chain_prop_forgets p c (member_props.PrivateName n) = refl
chain_prop_forgets p c (member_props.Computed n) = refl

pub chain_member_forgets : {X : Type 0} (p : X → Role → Phrase) (c : Parameters) (optional : Bool) (n : MemberExpr X) → forget p (chain_member_form c optional n) ≡ chain_member p optional n
unfolding forget chain_member_form chain_member
chain_member_forgets p c optional n = ap (λ q. callee_at p n.obj > chain_mark optional n.prop > q) (chain_prop_forgets p c n.prop)

base_forgets : {X : Type 0} (p : X → Role → Phrase) (c : Parameters) (optional : Bool) (n : OptChainBase X) → forget p (chain_base_form c optional n) ≡ chain_base p optional n
unfolding forget chain_base_form chain_base
base_forgets p c optional (chain_bases.Member n) = refl
base_forgets p c optional (chain_bases.Call n) = refl

pub chain_forgets : {X : Type 0} (p : X → Role → Phrase) (c : Parameters) (n : OptChainExpr X) → forget p (opt_chain_form c n) ≡ opt_chain_expr p n
unfolding opt_chain_form opt_chain_expr
chain_forgets p c n = base_forgets p c n.optional n.base

pub tagged_forgets : {X : Type 0} (p : X → Role → Phrase) (place : Nonterminal) (c : Parameters) (n : TaggedTpl X) → forget p (tagged_form place c n) ≡ tagged_tpl p n
unfolding forget tagged_form tagged_tpl
tagged_forgets p place c n = ap (λ q. callee_at p n.tag > q > p n.tpl.node.value TaggedTemplate) (args_forget p c n.type_params)

-- ---- arrays, calls and `new`

elements_forget : {X : Type 0} (p : X → Role → Phrase) (c : Parameters) (hole : Bool) (xs : List (Option (ExprOrSpread X))) → forget p (elements_form c hole xs) ≡ array_elements p hole xs
unfolding forget elements_form array_elements argument_form expr_or_spread
elements_forget p c true xs = ap (λ q. q > mark (codes ",")) (listed_forgets p (codes ",") (element (argument_form c)) xs ∙ ap (phrases.listed (codes ",")) (map_same _ _ (element_forgets p (argument_form c) (expr_or_spread p) (λ x. refl)) xs))
elements_forget p c false xs = listed_forgets p (codes ",") (element (argument_form c)) xs ∙ ap (phrases.listed (codes ",")) (map_same _ _ (element_forgets p (argument_form c) (expr_or_spread p) (λ x. refl)) xs)

pub array_forgets : {X : Type 0} (p : X → Role → Phrase) (c : Parameters) (n : ArrayLit X) → forget p (array_form c n) ≡ array_lit p n
unfolding forget array_form array_lit
array_forgets p c n = ap (λ q. mark (codes "[") > q > mark (codes "]")) (elements_forget p c (elements.last_is_hole n.elems.items) n.elems.items)

arguments_forget : {X : Type 0} (p : X → Role → Phrase) (c : Parameters) (xs : List (ExprOrSpread X)) → forget p (arguments_form c xs) ≡ arguments p xs
unfolding forget arguments_form arguments argument_form expr_or_spread
arguments_forget p c xs = ap (λ q. mark (codes "(") > q > mark (codes ")")) (listed_forgets p (codes ",") (argument_form c) xs)

callee_forgets : {X : Type 0} (p : X → Role → Phrase) (c : Parameters) (n : Callee X) (xs : List (ExprOrSpread X)) → forget p (callee_form c n xs) ≡ callee p n
unfolding forget callee_form callee
callee_forgets p c (callees.Super n) xs = refl
callee_forgets p c (callees.Import n) xs = refl
callee_forgets p c (callees.Expr n) xs = refl

pub call_forgets : {X : Type 0} (p : X → Role → Phrase) (c : Parameters) (n : CallExpr X) → forget p (call_form c n) ≡ call_expr p n
unfolding forget call_form call_expr
call_forgets p c n = ap₂ Then (callee_forgets p c n.callee n.args.items) (ap₂ Then (args_forget p c n.type_args) (arguments_forget p c n.args.items))

listed_arguments_forget : {X : Type 0} (p : X → Role → Phrase) (c : Parameters) (stays : Bool) (xs : List (ExprOrSpread X)) → forget p (listed_form c stays xs) ≡ listed_arguments p stays xs
unfolding forget listed_form listed_arguments
listed_arguments_forget p c false [] = refl
listed_arguments_forget p c false (x ∷ xs) = arguments_forget p c (x ∷ xs)
listed_arguments_forget p c true xs = arguments_forget p c xs

new_arguments_forget : {X Z : Type 0} (p : X → Role → Phrase) (c : Parameters) (stays : Bool) (n : Option (Vec (ExprOrSpread X) Z)) → forget p (new_arguments_form c stays n) ≡ new_arguments p stays n
unfolding forget new_arguments_form new_arguments
new_arguments_forget p c stays None = refl
new_arguments_forget p c stays (Some xs) = listed_arguments_forget p c stays xs.items

pub new_forgets : {X : Type 0} (p : X → Role → Phrase) (c : Parameters) (stays : Bool) (n : NewExpr X) → forget p (new_form c stays n) ≡ new_expr p stays n
unfolding forget new_form new_expr
new_forgets p c stays n = ap₂ (λ a b. word (codes "new") > expr_at p n.callee > a > b) (args_forget p c n.type_args) (new_arguments_forget p c stays n.args)

pub chain_call_forgets : {X : Type 0} (p : X → Role → Phrase) (c : Parameters) (optional : Bool) (n : OptCall X) → forget p (chain_call_form c optional n) ≡ chain_call p optional n
unfolding forget chain_call_form chain_call
chain_call_forgets p c optional n = ap₂ (λ a b. callee_at p n.callee > call_mark optional > a > b) (args_forget p c n.type_args) (arguments_forget p c n.args.items)

-- ---- templates

rest_forgets : {X A : Type 0} (p : X → Role → Phrase) (e : A → Form X) (tagged : Bool) (es : List A) (qs : List TplElement) → forget p (tpl_rest_form e tagged es qs) ≡ tpl_rest (λ x. forget p (e x)) tagged es qs
unfolding forget tpl_rest_form tpl_rest
rest_forgets p e tagged [] qs = refl
rest_forgets p e tagged (x ∷ es) [] = refl
rest_forgets p e tagged (x ∷ es) (q ∷ qs) = ap (λ r. forget p (e x) > tpl_element false (part_before tagged qs) q > r) (rest_forgets p e tagged es qs)

parts_forget : {X A : Type 0} (p : X → Role → Phrase) (e : A → Form X) (tagged : Bool) (es : List A) (qs : List TplElement) → forget p (tpl_parts_form e tagged es qs) ≡ tpl_parts (λ x. forget p (e x)) tagged es qs
unfolding forget tpl_parts_form tpl_parts
parts_forget p e tagged es [] = refl
parts_forget p e tagged es (q ∷ qs) = ap (λ r. tpl_element true (part_before tagged qs) q > r) (rest_forgets p e tagged es qs)

counted_forgets : {X : Type 0} (p : X → Role → Phrase) (b : Bool) (a : Form X) (q : Phrase) → forget p a ≡ q → forget p (cond b a (Provided ByRule false (Fixed Never))) ≡ cond b q Never
unfolding forget
counted_forgets p true a q same = same
counted_forgets p false a q same = refl

pub tpl_forgets : {X : Type 0} (p : X → Role → Phrase) (c : Parameters) (tagged : Bool) (n : Tpl X) → forget p (tpl_form c tagged n) ≡ tpl p tagged n
unfolding forget tpl_form tpl
tpl_forgets p c tagged n = counted_forgets p (is_counted n.exprs.items n.quasis.items) _ _ (parts_forget p (expr_part nt.Expression (with_in c)) tagged n.exprs.items n.quasis.items)

-- ---- objects: those whose properties have productions here

pub prop_name_forgets : {X : Type 0} (p : X → Role → Phrase) (c : Parameters) (n : PropName X) → forget p (prop_name_form c n) ≡ prop_name p n
unfolding forget prop_name_form computed_form prop_name computed_prop_name
prop_name_forgets p c (prop_names.Ident n) = refl
prop_name_forgets p c (prop_names.Str n) = refl
prop_name_forgets p c (prop_names.Num n) = refl
prop_name_forgets p c (prop_names.BigInt n) = refl
prop_name_forgets p c (prop_names.Computed n) = refl

key_value_forgets : {X : Type 0} (p : X → Role → Phrase) (c : Parameters) (n : KeyValueProp X) → forget p (key_value_form c n) ≡ key_value_prop p n
unfolding forget key_value_form key_value_prop
key_value_forgets p c n = ap (λ q. q > mark (codes ":") > p n.value.node.value Expression) (prop_name_forgets p c n.key)

accessor_body_forgets : {X : Type 0} (p : X → Role → Phrase) (c : Parameters) (n : Option (BlockStmtBox X)) → forget p (accessor_body_form c n) ≡ optional_body p n
unfolding forget accessor_body_form optional_body
accessor_body_forgets p c None = refl
accessor_body_forgets p c (Some n) = refl

getter_forgets : {X : Type 0} (p : X → Role → Phrase) (c : Parameters) (n : GetterProp X) → forget p (getter_form c n) ≡ getter_prop p n
unfolding forget getter_form getter_prop
getter_forgets p c n =
    ap₂ (λ q r. word (codes "get") > prop_name_at p n.key > mark (codes "(") > mark (codes ")") > q > r) (annotation_forgets p c n.type_ann) (accessor_body_forgets p c n.body)

this_forgets : {X : Type 0} (p : X → Role → Phrase) (c : Parameters) (n : Option (PatBox X)) → forget p (this_param_form c n) ≡ this_param p n
unfolding forget this_param_form this_param
this_forgets p c None = refl
this_forgets p c (Some n) = refl

setter_forgets : {X : Type 0} (p : X → Role → Phrase) (c : Parameters) (n : SetterProp X) → forget p (setter_form c n) ≡ setter_prop p n
unfolding forget setter_form setter_prop
setter_forgets p c n =
    ap₂ (λ q r. word (codes "set") > prop_name_at p n.key > mark (codes "(") > q > pat_at p n.param > mark (codes ")") > r) (this_forgets p c n.this_param) (accessor_body_forgets p c n.body)

method_forgets : {X : Type 0} (p : X → Role → Phrase) (c : Parameters) (n : MethodProp X) → forget p (method_prop_form c n) ≡ method_prop p n
unfolding forget method_prop_form method_prop
method_forgets p c n = ap (λ q. p n.function.node.value MethodHead > q > function_at p n.function) (prop_name_forgets p c n.key)

property_forgets : {X : Type 0} (grammar : Grammar) (f : X → Role → Parameters → Summary) (p : X → Role → Phrase) (c : Parameters) (n : Prop X) → keeps grammar f (property_form c n) ≡ true → forget p (property_form c n) ≡ prop p n
unfolding forget keeps is_met property_form assign_prop_form name_form prop assign_prop
property_forgets grammar f p c (props.Shorthand n) k = refl
property_forgets grammar f p c (props.KeyValue n) k = key_value_forgets p c n
property_forgets grammar f p c (props.Assign n) k = refl
property_forgets grammar f p c (props.Getter n) k = getter_forgets p c n
property_forgets grammar f p c (props.Setter n) k = setter_forgets p c n
property_forgets grammar f p c (props.Method n) k = method_forgets p c n

spread_or_forgets : {X : Type 0} (grammar : Grammar) (f : X → Role → Parameters → Summary) (p : X → Role → Phrase) (c : Parameters) (n : PropOrSpread X) → keeps grammar f (prop_or_spread_form c n) ≡ true → forget p (prop_or_spread_form c n) ≡ prop_or_spread p n
unfolding forget prop_or_spread_form spread_form prop_or_spread spread_element
spread_or_forgets grammar f p c (prop_or_spreads.Spread n) k = refl
spread_or_forgets grammar f p c (prop_or_spreads.Prop n) k = property_forgets grammar f p c n k

-- lists of what keeps its structure
pub kept_after : {X A : Type 0} (grammar : Grammar) (f : X → Role → Parameters → Summary) (p : X → Role → Phrase) (t : List ℕ) (e : A → Form X) (d : A → Phrase) → ((x : A) → keeps grammar f (e x) ≡ true → forget p (e x) ≡ d x) →
    (xs : List A) → keeps grammar f (each_after t e xs) ≡ true → forget p (each_after t e xs) ≡ phrases.each_after t (map d xs)
unfolding forget keeps each_after phrases.each_after
kept_after grammar f p t e d same [] k = refl
kept_after grammar f p t e d same (x ∷ xs) k =
    let (h, l) = and_parts (keeps grammar f (e x)) (keeps grammar f (each_after t e xs)) k in
    ap₂ (λ a b. mark t > a > b) (same x h) (kept_after grammar f p t e d same xs l)

pub kept_listed : {X A : Type 0} (grammar : Grammar) (f : X → Role → Parameters → Summary) (p : X → Role → Phrase) (t : List ℕ) (e : A → Form X) (d : A → Phrase) → ((x : A) → keeps grammar f (e x) ≡ true → forget p (e x) ≡ d x) →
    (xs : List A) → keeps grammar f (listed t e xs) ≡ true → forget p (listed t e xs) ≡ phrases.listed t (map d xs)
unfolding forget keeps listed phrases.listed
kept_listed grammar f p t e d same [] k = refl
kept_listed grammar f p t e d same (x ∷ xs) k =
    let (h, l) = and_parts (keeps grammar f (e x)) (keeps grammar f (each_after t e xs)) k in
    ap₂ (λ a b. a > b) (same x h) (kept_after grammar f p t e d same xs l)

pub object_forgets : {X : Type 0} (grammar : Grammar) (f : X → Role → Parameters → Summary) (p : X → Role → Phrase) (c : Parameters) (n : ObjectLit X) → keeps grammar f (object_form c n) ≡ true → forget p (object_form c n) ≡ object_lit p n
unfolding forget keeps object_form object_lit
object_forgets grammar f p c n k =
    ap (λ q. mark (codes "{") > q > mark (codes "}")) (kept_listed grammar f p (codes ",") (prop_or_spread_form c) (prop_or_spread p) (spread_or_forgets grammar f p c) n.props.items
    (and_parts (keeps grammar f (listed (codes ",") (prop_or_spread_form c) n.props.items)) true k).0)

-- ---- operators

pub update_forgets : {X : Type 0} (p : X → Role → Phrase) (c : Parameters) (n : UpdateExpr X) (prefix : Bool) → forget p (update_form c (record n { prefix = prefix })) ≡ update_expr p (record n { prefix = prefix })
unfolding forget update_form update_expr
update_forgets p c n true = refl
update_forgets p c n false = refl

pub yield_forgets : {X : Type 0} (p : X → Role → Phrase) (c : Parameters) (delegate : Bool) (arg : Option (ExprBox X)) → forget p (yield_rest_form c delegate arg) ≡ yield_rest p delegate arg
unfolding forget yield_rest_form yield_arg_form yield_rest yield_arg
yield_forgets p c true None = refl
yield_forgets p c true (Some x) = refl
yield_forgets p c false None = refl
yield_forgets p c false (Some x) = refl
