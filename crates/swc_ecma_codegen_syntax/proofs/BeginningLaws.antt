-- The summary of a node says what each of its lists begins with.
use Rattle.std.proofs.Common.{◌≡◌, ℕ, Bool, true, false, ◌&&◌, not, cond, codes, string_bytes, ◌||◌, is_some, refl, sym, subst, ap, ap₂, ◌∙◌, List, [], ◌∷◌, map, Option, Some, None}
use Rattle.std.proofs.lemmas.Bool.{true≢false, and_parts}
use Rattle.std.proofs.lemmas.Str.{IsUtf8-string_bytes}
use Rattle.swc_ecma_codegen_tree.specs.Links.{ExprBox, PatBox, TsTypeAnnBox, TsTypeParamDeclBox, TsTypeParamInstantiationBox}
use Rattle.swc_ecma_codegen_tree.specs.declared.links.AnyNode.{AnyNode, AnyNode-F, map-AnyNode, roll-AnyNode, out-AnyNode, ind-AnyNode}
use Rattle.swc_ecma_codegen_tree.specs.declared.links.AnyNode.TheOpen as nodes
use Rattle.swc_ecma_codegen_tree.specs.declared.links.AnyNode.TheViews.{out-roll-AnyNode}
use Rattle.swc_ecma_codegen_tree.specs.declared.idents.Ident.{Ident}
use Rattle.swc_ecma_codegen_tree.specs.declared.idents.PrivateName.{PrivateName}
use Rattle.swc_ecma_codegen_tree.specs.declared.idents.BindingIdent.{BindingIdent}
use Rattle.swc_ecma_codegen_tree.specs.declared.exprs.Expr.{Expr}
use Rattle.swc_ecma_codegen_tree.specs.declared.exprs.Expr.TheVariants as exprs
use Rattle.swc_ecma_codegen_tree.specs.declared.exprs.Callee.{Callee}
use Rattle.swc_ecma_codegen_tree.specs.declared.exprs.Callee.TheVariants as callees
use Rattle.swc_ecma_codegen_tree.specs.declared.exprs.CallExpr.{CallExpr}
use Rattle.swc_ecma_codegen_tree.specs.declared.exprs.ExprOrSpread.{ExprOrSpread}
use Rattle.swc_ecma_codegen_tree.specs.declared.exprs.MemberExpr.{MemberExpr}
use Rattle.swc_ecma_codegen_tree.specs.declared.exprs.MemberProp.{MemberProp}
use Rattle.swc_ecma_codegen_tree.specs.declared.exprs.MemberProp.TheVariants as member_props
use Rattle.swc_ecma_codegen_tree.specs.declared.exprs.OptCall.{OptCall}
use Rattle.swc_ecma_codegen_tree.specs.declared.exprs.OptChainBase.{OptChainBase}
use Rattle.swc_ecma_codegen_tree.specs.declared.exprs.OptChainBase.TheVariants as chain_bases
use Rattle.swc_ecma_codegen_tree.specs.declared.exprs.TaggedTpl.{TaggedTpl}
use Rattle.swc_ecma_codegen_tree.specs.declared.exprs.UpdateExpr.{UpdateExpr}
use Rattle.swc_ecma_codegen_tree.specs.declared.parts.ExprPart.{ExprPart}
use Rattle.swc_ecma_codegen_tree.specs.declared.parts.ExprPart.TheVariants as expr_parts
use Rattle.swc_ecma_codegen_tree.specs.declared.parts.JSXPart.{JSXPart}
use Rattle.swc_ecma_codegen_tree.specs.declared.parts.JSXPart.TheVariants as jsx_parts
use Rattle.swc_ecma_codegen_tree.specs.declared.parts.StmtPart.{StmtPart}
use Rattle.swc_ecma_codegen_tree.specs.declared.parts.StmtPart.TheVariants as stmt_parts
use Rattle.swc_ecma_codegen_tree.specs.declared.exprs.ArrowExpr.{ArrowExpr}
use Rattle.swc_ecma_codegen_tree.specs.declared.pats.Pat.{Pat}
use Rattle.swc_ecma_codegen_tree.specs.declared.pats.Pat.TheVariants as pats
use Rattle.swc_ecma_codegen_tree.specs.declared.pats.AssignTarget.{AssignTarget}
use Rattle.swc_ecma_codegen_tree.specs.declared.pats.AssignTarget.TheVariants as targets
use Rattle.swc_ecma_codegen_tree.specs.declared.pats.AssignTargetPat.{AssignTargetPat}
use Rattle.swc_ecma_codegen_tree.specs.declared.pats.AssignTargetPat.TheVariants as target_pats
use Rattle.swc_ecma_codegen_tree.specs.declared.pats.SimpleAssignTarget.{SimpleAssignTarget}
use Rattle.swc_ecma_codegen_tree.specs.declared.pats.SimpleAssignTarget.TheVariants as simple_targets
use Rattle.swc_ecma_codegen_grammar.specs.Phrases.{Phrase, Nothing, NameOf, Then, mark, word, same_line, Generates}
use Rattle.swc_ecma_codegen_grammar.specs.Settings.{Settings}
use Rattle.swc_ecma_codegen_grammar.specs.Tokens.{Token}
use Rattle.swc_ecma_codegen_grammar.specs.Tokens as tokens
use Rattle.swc_ecma_codegen_grammar.specs.AnnotationPhrases.{annotation, type_args, type_params}
use Rattle.swc_ecma_codegen_grammar.specs.NamePhrases.{ident, binding_ident, private_name}
use Rattle.swc_ecma_codegen_grammar.specs.KeyPhrases.{computed_prop_name}
use Rattle.swc_ecma_codegen_grammar.specs.AssignPhrases.{simple_assign_target, assign_target}
use Rattle.swc_ecma_codegen_grammar.specs.CallPhrases.{array_lit, arguments, callee, import_callee, call_expr, new_expr, call_mark, chain_call}
use Rattle.swc_ecma_codegen_grammar.specs.PatPhrases.{array_pat, rest_pat, assign_pat, object_pat, pat, assign_target_pat}
use Rattle.swc_ecma_codegen_grammar.specs.PropPhrases.{object_lit}
use Rattle.swc_ecma_codegen_grammar.specs.JsxPhrases.{open_mark, jsx_opening_element, jsx_element, jsx_opening_fragment, jsx_fragment, jsx_part}
use Rattle.swc_ecma_codegen_grammar.specs.TemplatePhrases.{tpl, tagged_tpl}
use Rattle.swc_ecma_codegen_grammar.specs.ExprPhrases.{this_expr, unary_expr, update_expr, bin_expr, member_prop, member_expr, super_prop_expr, chain_mark, chain_prop, chain_member, chain_base, opt_chain_expr, meta_prop_expr, assign_expr, yield_expr, await_expr, cond_expr, seq_expr, paren_expr, expr, expr_in}
use Rattle.swc_ecma_codegen_grammar.specs.Phrases as phrases
use Rattle.swc_ecma_codegen_grammar.specs.FunctionPhrases.{decorator, word_if, fn_expr, function_head, is_typed_arrow, arrow_parameters, arrow_body, arrow_expr, is_some_listed}
use Rattle.swc_ecma_codegen_grammar.specs.PartPhrases.{expr_part, stmt_part}
use Rattle.swc_ecma_codegen_grammar.specs.TreePhrases.{node_phrase, phrase}
use Rattle.swc_ecma_codegen_grammar.specs.declared.roles.Role.{Role}
use Rattle.swc_ecma_codegen_grammar.specs.declared.roles.Role.TheVariants.{Expression, Callee as Called, ChainMember, ChainCall, Pattern, PropertyName, ObjectLiteral, AssignmentTarget, Template, TaggedTemplate, Statement, Block, VariableDeclaration, ModuleDeclaration, ExportedHead, ExportedTail, FunctionHead, Function, MethodHead, MethodTail, FieldValue, MethodDecorators, AccessorTail, ClassHead, ClassWord, ClassTail, Member, Element, Child, TagObject}
use Rattle.swc_ecma_codegen_grammar.proofs.TreeLaws.{phrase_of}
use Rattle.swc_ecma_codegen_syntax.specs.declared.nonterminals.Nonterminal.{Nonterminal}
use Rattle.swc_ecma_codegen_syntax.specs.declared.nonterminals.Nonterminal.TheVariants as nt
use Rattle.swc_ecma_codegen_syntax.specs.declared.lookahead.Beginning.{Beginning}
use Rattle.swc_ecma_codegen_syntax.specs.declared.lookahead.Beginning.TheVariants as begins
use Rattle.swc_ecma_codegen_syntax.specs.declared.parameters.Parameters.{Parameters}
use Rattle.swc_ecma_codegen_syntax.specs.Parameters.{with_in, before_operator, of_targets, of_arrow_parameters}
use Rattle.swc_ecma_codegen_syntax.specs.Summary.{Summary, begins_in}
use Rattle.swc_ecma_codegen_syntax.specs.Verdicts.{Grammar, holds_in}
use Rattle.swc_ecma_codegen_syntax.specs.Lookahead.{Sign, OpenBrace, OpenBracket, AtSign, AnyToken, sign, sign_of, word_sign, mark_sign, begun, beginning, ClassWord as ClassSign}
use Rattle.swc_ecma_codegen_syntax.specs.Beginnings.{name_begins, goes_on, prop_begins, chain_begins, base_begins, callee_begins, seq_begins, update_begins, expr_begins, simple_target_begins, target_pat_begins, target_begins, pat_begins, part_begins, decorators_begin, behind_decorators, stmt_part_begins, node_begins, jsx_part_begins}
use Rattle.swc_ecma_codegen_syntax.specs.Forms.{Form, Part, Simple, role_in, keeps, is_met, stands, is_target, some_listed, map_form}
use Rattle.swc_ecma_codegen_syntax.specs.NameForms.{is_free, has_no_escape, name_form}
use Rattle.swc_ecma_codegen_syntax.specs.MemberForms.{member_form, annotation_form, type_args_form, tagged_form, chain_member_form, chain_base_form, opt_chain_form}
use Rattle.swc_ecma_codegen_syntax.specs.CallForms.{callee_form, call_form, chain_call_form}
use Rattle.swc_ecma_codegen_syntax.specs.TemplateForms.{tpl_form}
use Rattle.swc_ecma_codegen_syntax.specs.PatForms.{binding_form, assign_pat_form, pat_form}
use Rattle.swc_ecma_codegen_syntax.specs.TargetForms.{simple_target_form, target_form}
use Rattle.swc_ecma_codegen_syntax.specs.ExprForms.{update_form, bin_form, cond_form, assign_form, seq_form, expr_form, is_less}
use Rattle.swc_ecma_codegen_syntax.specs.FunctionForms.{type_params_form, head_before, fn_expr_form, arrow_params_form, async_form, arrow_form, decorators_form}
use Rattle.swc_ecma_codegen_syntax.specs.NodeForms.{node_form, part_form, stmt_part_form, is_called_node, summary_of, facts, jsx_part_form}
use Rattle.swc_ecma_codegen_syntax.proofs.Judged.{keeps_mapped}
use Rattle.swc_ecma_codegen_syntax.proofs.TreeFacts.{node_mapped, begins_of}
use Rattle.swc_ecma_codegen_syntax.proofs.SummaryForms.{holds_at}
use Rattle.swc_ecma_codegen_syntax.proofs.NameSigns.{name_begun}
use Rattle.swc_ecma_codegen_syntax.proofs.Beginnings.{is_asked, Leads, First, Ends, first_one, first_then, first_nothing, Settled, leads_first, leads_other, leads_behind, leads_settled, leads_goes, leads_brackets, leads_line, leads_alone, ends_nothing, leads_never, leads_after}
use Rattle.swc_ecma_codegen_syntax.proofs.FunctionBeginnings.{IsPlain, plain_at, params_lead, async_leads, head_leads, head_settled}
use Rattle.swc_ecma_codegen_syntax.proofs.FirstTokens.{unary_any, update_any, binary_any, assign_any, meta_first, lit_first, parts_first, first_cond}
use Rattle.swc_ecma_codegen_grammar.specs.ClassPhrases.{class_expr, class_word, class_head, decorators}
use Rattle.swc_ecma_codegen_tree.specs.declared.decls.Decorator.{Decorator}
use Rattle.swc_ecma_codegen_syntax.specs.ClassForms.{class_expr_form, class_word_form}

-- ---- what is claimed of a part, in its role

-- decorators begin with `@`, or there are none
abbrev Headed : Settings → Phrase → Beginning → Type 0
Headed s q begins.At = Leads s q begins.At
Headed s q b = Ends s q

abbrev Shown : Settings → Role → Phrase → Beginning → Type 0
Shown s TaggedTemplate q b = First s q AnyToken
Shown s FunctionHead q b = Leads s q b × Settled b
Shown s ClassHead q b = Headed s q b
Shown s ClassWord q b = Leads s q b × Settled b
Shown s role q b = Leads s q b

abbrev Claim : {X : Type 0} → Settings → (X → Role → Phrase) → (X → Role → Parameters → Summary) → X → Role → Type 0
Claim s p t x role = Shown s role (p x role) (begins_in t x role)

abbrev is_claimed : Role → Bool
is_claimed Expression = true
is_claimed Called = true
is_claimed (ChainMember optional) = true
is_claimed (ChainCall optional) = true
is_claimed Pattern = true
is_claimed AssignmentTarget = true
is_claimed Template = true
is_claimed Element = true
is_claimed TaggedTemplate = true
is_claimed FunctionHead = true
is_claimed ClassHead = true
is_claimed ClassWord = true
is_claimed role = false

abbrev Known : {X : Type 0} → Grammar → Settings → (X → Role → Phrase) → (X → Role → Parameters → Summary) → Type 0
Known {X} grammar s p t = ((x : X) (role : Role) (c : Parameters) → is_claimed role ≡ true → holds_in grammar (t x role c).facts.verdict ≡ true → Claim s p t x role) × ((x : X) → IsPlain p (begins_in t) x)

part_known : {X : Type 0} (grammar : Grammar) (s : Settings) (p : X → Role → Phrase) (t : X → Role → Parameters → Summary) → Known grammar s p t → (place : Nonterminal) (c : Parameters) (role : Role) (x : X) →
    is_claimed role ≡ true → keeps grammar t (Part place c role x) ≡ true → Claim s p t x role
unfolding keeps
part_known grammar s p t known place c role x h k = known.0 x role c h (and_parts (stands grammar.places place (t x role c).facts.nonterminal) _ k).1

-- ---- names

name_asked : (a b : Bool) → is_asked (cond a begins.LetAlone (cond b begins.AsyncAlone begins.Other)) ≡ true
name_asked true b = refl
name_asked false true = refl
name_asked false false = refl

not_asked : (s : Settings) (b : Bool) → not b ≡ true → Ends s (cond b (mark (codes "?")) Nothing)
not_asked s true h = absurd (true≢false (sym h))
not_asked s false h = ends_nothing s

name_leads : {X : Type 0} (grammar : Grammar) (s : Settings) (t : X → Role → Parameters → Summary) (c : Parameters) (n : Ident) → keeps grammar t (name_form c n) ≡ true → Leads s (ident n) (name_begins (string_bytes n.sym))
unfolding keeps is_met name_form ident name_begins Generates beginning sign sign_of tokens.name
name_leads grammar s t c n k =
    let text = string_bytes n.sym in
    let (free, l) = and_parts (is_free c text) _ k in
    let (both, _) = and_parts (has_no_escape text && not n.optional) true l in
    let (none, plain) = and_parts (has_no_escape text) (not n.optional) both in
    let named : Leads s (NameOf n.span.lo text) (name_begins text) = λ ts e. (ap beginning e ∙ name_begun c text (IsUtf8-string_bytes n.sym) free none, name_asked _ _) in
    leads_alone s (NameOf n.span.lo text) (cond n.optional (mark (codes "?")) Nothing) (name_begins text) named (not_asked s n.optional plain)

annotation_ends : {X : Type 0} (grammar : Grammar) (s : Settings) (p : X → Role → Phrase) (t : X → Role → Parameters → Summary) (c : Parameters) (n : Option (TsTypeAnnBox X)) → keeps grammar t (annotation_form c n) ≡ true → Ends s (annotation p n)
unfolding keeps is_met annotation_form annotation
annotation_ends grammar s p t c None k = ends_nothing s
annotation_ends grammar s p t c (Some n) k = absurd (true≢false (sym k))

binding_leads : {X : Type 0} (grammar : Grammar) (s : Settings) (p : X → Role → Phrase) (t : X → Role → Parameters → Summary) (c : Parameters) (n : BindingIdent X) → keeps grammar t (binding_form c n) ≡ true →
    Leads s (binding_ident p n) (name_begins (string_bytes n.id.sym))
unfolding keeps is_met binding_form binding_ident
binding_leads grammar s p t c n k =
    let (_, l) = and_parts _ _ k in
    let (named, typed) = and_parts (keeps grammar t (name_form c n.id)) (keeps grammar t (annotation_form c n.type_ann)) l in
    leads_alone s (ident n.id) (annotation p n.type_ann) _ (name_leads grammar s t c n.id named) (annotation_ends grammar s p t c n.type_ann typed)

-- ---- members and calls

open_first : (s : Settings) (q : Phrase) → First s (Then (mark (codes "[")) q) OpenBracket
unfolding sign sign_of mark_sign tokens.punctuator
open_first s q = first_then s _ q OpenBracket (first_one s _ OpenBracket refl)

dot_first : (s : Settings) (q : Phrase) → First s (Then (mark (codes ".")) q) AnyToken
unfolding sign sign_of mark_sign tokens.punctuator
dot_first s q = first_then s _ q AnyToken (first_one s _ AnyToken refl)

prop_leads : {X : Type 0} (s : Settings) (p : X → Role → Phrase) (q : Phrase) (b : Beginning) (n : MemberProp X) → Leads s q b → Leads s (Then q (member_prop p n)) (prop_begins b n)
unfolding member_prop computed_prop_name prop_begins
prop_leads s p q b (member_props.Ident n) leads = leads_goes s q _ b AnyToken refl leads (dot_first s _)
prop_leads s p q b (member_props.PrivateName n) leads = leads_goes s q _ b AnyToken refl leads (dot_first s _)
prop_leads s p q b (member_props.Computed n) leads = leads_brackets s q _ b leads (open_first s _)

chain_leads : {X : Type 0} (s : Settings) (p : X → Role → Phrase) (q : Phrase) (b : Beginning) (optional : Bool) (n : MemberProp X) → Leads s q b →
    Leads s (Then q (Then (chain_mark optional n) (chain_prop p n))) (chain_begins optional b n)
unfolding chain_mark chain_prop computed_prop_name chain_begins prop_begins sign sign_of mark_sign tokens.punctuator
chain_leads s p q b true n leads = leads_goes s q _ b AnyToken refl leads (first_then s _ _ AnyToken (first_one s _ AnyToken refl))
chain_leads s p q b false (member_props.Ident n) leads = leads_goes s q _ b AnyToken refl leads (dot_first s _)
chain_leads s p q b false (member_props.PrivateName n) leads = leads_goes s q _ b AnyToken refl leads (dot_first s _)
chain_leads s p q b false (member_props.Computed n) leads = leads_brackets s q _ b leads (first_nothing s _ OpenBracket (open_first s _))

args_first : {X : Type 0} (grammar : Grammar) (s : Settings) (p : X → Role → Phrase) (t : X → Role → Parameters → Summary) (c : Parameters) (types : Option (TsTypeParamInstantiationBox X)) (q : Phrase) (z : Sign) →
    keeps grammar t (type_args_form c types) ≡ true → First s q z → First s (Then (type_args p types) q) z
unfolding keeps is_met type_args_form type_args
args_first grammar s p t c None q z k first = first_nothing s q z first
args_first grammar s p t c (Some n) q z k first = absurd (true≢false (sym k))

parenthesis_first : {X : Type 0} (s : Settings) (p : X → Role → Phrase) (xs : List (ExprOrSpread X)) → First s (arguments {X = X} p xs) AnyToken
unfolding arguments sign sign_of mark_sign tokens.punctuator
parenthesis_first s p xs = first_then s _ _ AnyToken (first_one s _ AnyToken refl)

callee_leads : {X : Type 0} (grammar : Grammar) (s : Settings) (p : X → Role → Phrase) (t : X → Role → Parameters → Summary) → Known grammar s p t → (c : Parameters) (n : Callee X) (xs : List (ExprOrSpread X)) (q : Phrase) →
    keeps grammar t (callee_form c n xs) ≡ true → First s q AnyToken → Leads s (Then (callee p n) q) (callee_begins (begins_in t) n)
unfolding callee_form callee callee_begins import_callee sign sign_of word_sign tokens.word
callee_leads grammar s p t known c (callees.Super n) xs q k first = leads_other s _ (first_then s _ q AnyToken (first_one s _ AnyToken refl))
callee_leads grammar s p t known c (callees.Import n) xs q k first = leads_other s _ (first_then s _ q AnyToken (first_then s _ _ AnyToken (first_one s _ AnyToken refl)))
callee_leads grammar s p t known c (callees.Expr n) xs q k first =
    leads_goes s _ q _ AnyToken refl (part_known grammar s p t known nt.CallOrMember (with_in c) Called n.node.value refl k) first

call_leads : {X : Type 0} (grammar : Grammar) (s : Settings) (p : X → Role → Phrase) (t : X → Role → Parameters → Summary) → Known grammar s p t → (c : Parameters) (n : CallExpr X) → keeps grammar t (call_form c n) ≡ true →
    Leads s (call_expr p n) (callee_begins (begins_in t) n.callee)
unfolding keeps call_form call_expr
call_leads grammar s p t known c n k =
    let (called, l) = and_parts (keeps grammar t (callee_form c n.callee n.args.items)) _ k in
    let (typed, _) = and_parts (keeps grammar t (type_args_form c n.type_args)) _ l in
    callee_leads grammar s p t known c n.callee n.args.items _ called (args_first grammar s p t c n.type_args _ AnyToken typed (parenthesis_first s p n.args.items))

mark_first : (s : Settings) (optional : Bool) (q : Phrase) → First s q AnyToken → First s (Then (call_mark optional) q) AnyToken
unfolding call_mark sign sign_of mark_sign tokens.punctuator
mark_first s true q first = first_then s _ q AnyToken (first_one s _ AnyToken refl)
mark_first s false q first = first_nothing s q AnyToken first

chain_call_leads : {X : Type 0} (grammar : Grammar) (s : Settings) (p : X → Role → Phrase) (t : X → Role → Parameters → Summary) → Known grammar s p t → (c : Parameters) (optional : Bool) (n : OptCall X) →
    keeps grammar t (chain_call_form c optional n) ≡ true → Leads s (chain_call p optional n) (goes_on (begins_in t n.callee.node.value Called))
unfolding keeps chain_call_form chain_call
chain_call_leads grammar s p t known c optional n k =
    let (called, l) = and_parts (keeps grammar t (Part (cond optional nt.ChainBase nt.OptionalExpression) (with_in c) Called n.callee.node.value)) _ k in
    let (typed, _) = and_parts (keeps grammar t (type_args_form c n.type_args)) _ l in
    let first = args_first grammar s p t c n.type_args _ AnyToken typed (parenthesis_first s p n.args.items) in
    leads_goes s _ _ _ AnyToken refl (part_known grammar s p t known _ (with_in c) Called n.callee.node.value refl called) (mark_first s optional _ first)

tagged_leads : {X : Type 0} (grammar : Grammar) (s : Settings) (p : X → Role → Phrase) (t : X → Role → Parameters → Summary) → Known grammar s p t → (place : Nonterminal) (c : Parameters) (n : TaggedTpl X) →
    keeps grammar t (tagged_form place c n) ≡ true → Leads s (tagged_tpl p n) (goes_on (begins_in t n.tag.node.value Called))
unfolding keeps tagged_form tagged_tpl
tagged_leads grammar s p t known place c n k =
    let (called, l) = and_parts (keeps grammar t (Part place (with_in c) Called n.tag.node.value)) _ k in
    let (typed, m) = and_parts (keeps grammar t (type_args_form c n.type_params)) _ l in
    leads_goes s _ _ _ AnyToken refl (part_known grammar s p t known place (with_in c) Called n.tag.node.value refl called)
    (args_first grammar s p t c n.type_params _ AnyToken typed (part_known grammar s p t known nt.TemplateLiteral (with_in c) TaggedTemplate n.tpl.node.value refl m))

-- ---- other expressions

update_leads : {X : Type 0} (grammar : Grammar) (s : Settings) (p : X → Role → Phrase) (t : X → Role → Parameters → Summary) → Known grammar s p t → (c : Parameters) (n : UpdateExpr X) (prefix : Bool) →
    keeps grammar t (update_form c (record n { prefix = prefix })) ≡ true → Leads s (update_expr p (record n { prefix = prefix })) (update_begins prefix (begins_in t n.arg.node.value Expression))
unfolding keeps update_form update_expr update_begins
update_leads grammar s p t known c n true k = leads_other s _ (first_then s _ _ AnyToken (first_one s _ AnyToken (update_any n.op)))
update_leads grammar s p t known c n false k =
    let (target, _) = and_parts (keeps grammar t (Simple true nt.LeftHandSideExpression (with_in c) n.arg.node.value)) _ k in
    let (_, l) = and_parts (is_target true (t n.arg.node.value Expression (with_in c)).facts) _ target in
    leads_line s _ _ _ (part_known grammar s p t known nt.LeftHandSideExpression (with_in c) Expression n.arg.node.value refl l) (first_one s _ AnyToken (update_any n.op))

comma_first : (s : Settings) (p : Phrase) (qs : List Phrase) → First s (phrases.each_after (codes ",") (p ∷ qs)) AnyToken
unfolding phrases.each_after sign sign_of mark_sign tokens.punctuator
comma_first s p qs = first_then s _ _ AnyToken (first_one s _ AnyToken refl)

seq_leads : {X : Type 0} (grammar : Grammar) (s : Settings) (p : X → Role → Phrase) (t : X → Role → Parameters → Summary) → Known grammar s p t → (c : Parameters) (xs : List (ExprBox X)) →
    keeps grammar t (some_listed (codes ",") (λ n. Part nt.AssignmentExpression c Expression n.node.value) xs) ≡ true → Leads s (phrases.some_listed (codes ",") (map (λ n. p n.node.value Expression) xs)) (seq_begins (begins_in t) xs)
unfolding keeps is_met some_listed phrases.some_listed seq_begins
seq_leads grammar s p t known c [] k = absurd (true≢false (sym k))
seq_leads grammar s p t known c (x ∷ []) k = absurd (true≢false (sym k))
seq_leads grammar s p t known c (x ∷ y ∷ xs) k =
    let (first, _) = and_parts (keeps grammar t (Part nt.AssignmentExpression c Expression x.node.value)) _ k in
    leads_goes s _ _ _ AnyToken refl (part_known grammar s p t known nt.AssignmentExpression c Expression x.node.value refl first) (comma_first s _ _)

base_leads : {X : Type 0} (grammar : Grammar) (s : Settings) (p : X → Role → Phrase) (t : X → Role → Parameters → Summary) → Known grammar s p t → (c : Parameters) (optional : Bool) (n : OptChainBase X) →
    keeps grammar t (chain_base_form c optional n) ≡ true → Leads s (chain_base p optional n) (base_begins (begins_in t) optional n)
unfolding chain_base_form chain_base base_begins
base_leads grammar s p t known c optional (chain_bases.Member n) k = part_known grammar s p t known nt.OptionalChain c (ChainMember optional) n.node.value refl k
base_leads grammar s p t known c optional (chain_bases.Call n) k = part_known grammar s p t known nt.OptionalChain c (ChainCall optional) n.node.value refl k

member_leads : {X : Type 0} (grammar : Grammar) (s : Settings) (p : X → Role → Phrase) (t : X → Role → Parameters → Summary) → Known grammar s p t → (place : Nonterminal) (c : Parameters) (n : MemberExpr X) →
    keeps grammar t (member_form place c n) ≡ true → Leads s (member_expr p n) (prop_begins (begins_in t n.obj.node.value Called) n.prop)
unfolding keeps member_form member_expr
member_leads grammar s p t known place c n k =
    let (called, _) = and_parts (keeps grammar t (Part place (with_in c) Called n.obj.node.value)) _ k in
    prop_leads s p _ _ n.prop (part_known grammar s p t known place (with_in c) Called n.obj.node.value refl called)

-- ---- functions

only_known : {X : Type 0} (grammar : Grammar) (s : Settings) (p : X → Role → Phrase) (t : X → Role → Parameters → Summary) → Known grammar s p t → (c : Parameters) (n : PatBox X) →
    keeps grammar t (arrow_params_form c false (n ∷ [])) ≡ true → Leads s (p n.node.value Pattern) (begins_in t n.node.value Pattern)
unfolding keeps arrow_params_form
only_known grammar s p t known c n k = known.0 n.node.value Pattern c refl (and_parts (stands grammar.places nt.LastElement (t n.node.value Pattern c).facts.nonterminal) _ k).1

async_kept : {X : Type 0} (grammar : Grammar) (t : X → Role → Parameters → Summary) (is_async : Bool) (a : Form X) → keeps grammar t (async_form is_async a) ≡ true → keeps grammar t a ≡ true
unfolding keeps async_form
async_kept grammar t true a k = k
async_kept grammar t false a k = k

-- types around an arrow function have no production
types_gone : {X : Type 0} (grammar : Grammar) (t : X → Role → Parameters → Summary) (c : Parameters) (n : Option (TsTypeParamDeclBox X)) → keeps grammar t (type_params_form c n) ≡ true → n ≡ None
unfolding keeps is_met type_params_form
types_gone grammar t c None k = refl
types_gone grammar t c (Some n) k = absurd (true≢false (sym k))

result_gone : {X : Type 0} (grammar : Grammar) (t : X → Role → Parameters → Summary) (c : Parameters) (n : Option (TsTypeAnnBox X)) → keeps grammar t (annotation_form c n) ≡ true → n ≡ None
unfolding keeps is_met annotation_form
result_gone grammar t c None k = refl
result_gone grammar t c (Some n) k = absurd (true≢false (sym k))

star_gone : (star : Bool) → not star ≡ true → star ≡ false
star_gone true h = absurd (true≢false (sym h))
star_gone false h = refl

arrow_first : (s : Settings) (q : Phrase) → First s (Then (mark (codes "=>")) q) AnyToken
unfolding sign sign_of mark_sign tokens.punctuator
arrow_first s q = first_then s _ q AnyToken (first_one s _ AnyToken refl)

-- the rest of an arrow function, by what is gone
abbrev rest_of_arrow : {X : Type 0} → (X → Role → Phrase) → Bool → Option (TsTypeParamDeclBox X) → Option (TsTypeAnnBox X) → List (PatBox X) → Phrase → Phrase
rest_of_arrow p star types result ns body =
    Then (word_if star (mark (codes "*"))) (Then (type_params p types) (Then (arrow_parameters p (is_some types || is_some result) ns) (Then (annotation p result) (Then same_line (Then (mark (codes "=>")) body)))))

plain_arrow : {X : Type 0} (grammar : Grammar) (s : Settings) (p : X → Role → Phrase) (t : X → Role → Parameters → Summary) → Known grammar s p t → (c : Parameters) (ns : List (PatBox X)) (body : Phrase) →
    keeps grammar t (arrow_params_form c false ns) ≡ true → Leads s (rest_of_arrow p false None None ns body) begins.Other
unfolding word_if type_params annotation
plain_arrow grammar s p t known c ns body k =
    leads_behind s _ _ (leads_behind s _ _ (params_lead s p (begins_in t) ns _ (λ n e. only_known grammar s p t known c n (ap (λ xs. keeps grammar t (arrow_params_form c false xs)) (sym e) ∙ k)) known.1 (arrow_first s body)))

arrow_leads : {X : Type 0} (grammar : Grammar) (s : Settings) (p : X → Role → Phrase) (t : X → Role → Parameters → Summary) → Known grammar s p t → (c : Parameters) (n : ArrowExpr X) → keeps grammar t (arrow_form c n) ≡ true →
    Leads s (arrow_expr p n) begins.Other
unfolding keeps is_met arrow_form arrow_expr
arrow_leads grammar s p t known c n k =
    let (star, l) = and_parts (not n.is_generator && true) _ (async_kept grammar t n.is_async _ k) in
    let (types, m) = and_parts (keeps grammar t (type_params_form c n.type_params)) _ l in
    let (params, o) = and_parts (keeps grammar t (arrow_params_form (of_arrow_parameters n.is_async c) (is_typed_arrow n) n.params.items)) _ m in
    let (result, _) = and_parts (keeps grammar t (annotation_form c n.return_type)) _ o in
    let g = star_gone n.is_generator (and_parts (not n.is_generator) true star).0 in
    let a = types_gone grammar t c n.type_params types in
    let b = result_gone grammar t c n.return_type result in
    let by = λ (v : Bool) (x : Option _) (y : Option _). rest_of_arrow p v x y n.params.items (arrow_body p n.body) in
    let plain = plain_arrow grammar s p t known (of_arrow_parameters n.is_async c) n.params.items (arrow_body p n.body)
    (ap (λ z. keeps grammar t (arrow_params_form (of_arrow_parameters n.is_async c) z n.params.items)) (sym (ap₂ (λ x y. is_some x || is_some y) a b)) ∙ params) in
    async_leads s n.is_async _ (subst (λ q. Leads s q begins.Other) (sym (ap (λ v. by v n.type_params n.return_type) g ∙ ap (λ x. by false x n.return_type) a ∙ ap (λ y. by false None y) b)) plain)

-- a class expression begins with its decorators, or with what stands behind them
class_headed : (s : Settings) (q r : Phrase) (b c : Beginning) → Headed s q b → Leads s r c → Leads s (Then q r) (behind_decorators b c)
unfolding behind_decorators
class_headed s q r begins.At c h l = leads_settled s q r begins.At (λ ts. refl) h
class_headed s q r b c h l = leads_after s q r c h l

-- what begins with a word of its own
word_leads : (s : Settings) (text : List ℕ) (q : Phrase) → word_sign text ≡ AnyToken → Leads s (Then (word text) q) begins.Other
unfolding sign sign_of tokens.word
word_leads s text q e = leads_other s _ (first_then s _ q AnyToken (first_one s _ AnyToken e))

brace_leads : (s : Settings) (q : Phrase) → Leads s (Then (mark (codes "{")) q) begins.Brace
unfolding sign sign_of mark_sign tokens.punctuator begun
brace_leads s q = leads_first s _ OpenBrace refl (first_then s _ q OpenBrace (first_one s _ OpenBrace refl))

bracket_leads : (s : Settings) (q : Phrase) → Leads s (Then (mark (codes "[")) q) begins.Other
unfolding begun
bracket_leads s q = leads_first s _ OpenBracket refl (open_first s q)

private_leads : (s : Settings) (n : PrivateName) → Leads s (private_name n) begins.Other
unfolding private_name Generates begun beginning sign sign_of tokens.private_name
private_leads s n ts e = (ap beginning e, refl)

expr_leads : {X : Type 0} (grammar : Grammar) (s : Settings) (p : X → Role → Phrase) (t : X → Role → Parameters → Summary) → Known grammar s p t → (stays called : Bool) (c : Parameters) (n : Expr X) →
    keeps grammar t (expr_form stays called c n) ≡ true → Leads s (expr_in p stays n) (expr_begins (begins_in t) n)
unfolding keeps is_met expr_form bin_form cond_form assign_form seq_form opt_chain_form fn_expr_form class_expr_form expr_in expr fn_expr class_expr this_expr array_lit object_lit unary_expr bin_expr cond_expr assign_expr super_prop_expr seq_expr new_expr yield_expr meta_prop_expr await_expr paren_expr opt_chain_expr expr_begins sign sign_of word_sign mark_sign tokens.word tokens.punctuator
expr_leads grammar s p t known stays called c (exprs.This n) k = leads_other s _ (first_one s _ AnyToken refl)
expr_leads grammar s p t known stays called c (exprs.Array n) k = bracket_leads s _
expr_leads grammar s p t known stays called c (exprs.Object n) k = brace_leads s _
expr_leads grammar s p t known stays called c (exprs.Unary n) k = leads_other s _ (first_then s _ _ AnyToken (first_one s _ AnyToken (unary_any n.op)))
expr_leads grammar s p t known stays called c (exprs.Update n) k = update_leads grammar s p t known c n n.prefix k
expr_leads grammar s p t known stays called c (exprs.Bin n) k =
    let (_, l) = and_parts _ _ k in
    let (left, _) = and_parts (keeps grammar t (Part _ (before_operator (is_less n.op) c) Expression n.left.node.value)) _ l in
    leads_goes s _ _ _ AnyToken refl (part_known grammar s p t known _ (before_operator (is_less n.op) c) Expression n.left.node.value refl left) (first_then s _ _ AnyToken (first_one s _ AnyToken (binary_any n.op)))
expr_leads grammar s p t known stays called c (exprs.Cond n) k =
    let (test, _) = and_parts (keeps grammar t (Part nt.ShortCircuitExpression c Expression n.test.node.value)) _ k in
    leads_goes s _ _ _ AnyToken refl (part_known grammar s p t known nt.ShortCircuitExpression c Expression n.test.node.value refl test) (first_then s _ _ AnyToken (first_one s _ AnyToken refl))
expr_leads grammar s p t known stays called c (exprs.Assign n) k =
    let (left, _) = and_parts (keeps grammar t (Part _ (with_in c) AssignmentTarget n.left.node.value)) _ k in
    leads_goes s _ _ _ AnyToken refl (part_known grammar s p t known _ (with_in c) AssignmentTarget n.left.node.value refl left) (first_then s _ _ AnyToken (first_one s _ AnyToken (assign_any n.op)))
expr_leads grammar s p t known stays called c (exprs.Member n) k = member_leads grammar s p t known _ c n k
expr_leads grammar s p t known stays called c (exprs.SuperProp n) k = word_leads s (codes "super") _ refl
expr_leads grammar s p t known stays called c (exprs.Call n) k = call_leads grammar s p t known c n k
expr_leads grammar s p t known stays called c (exprs.New n) k = word_leads s (codes "new") _ refl
expr_leads grammar s p t known stays called c (exprs.Seq n) k = seq_leads grammar s p t known c n.exprs.items k
expr_leads grammar s p t known stays called c (exprs.Ident n) k = name_leads grammar s t c n k
expr_leads grammar s p t known stays called c (exprs.Lit n) k = leads_other s _ (lit_first s n)
expr_leads grammar s p t known stays called c (exprs.Tpl n) k = part_known grammar s p t known nt.TemplateLiteral (with_in c) Template n.node.value refl k
expr_leads grammar s p t known stays called c (exprs.TaggedTpl n) k = tagged_leads grammar s p t known _ c n k
expr_leads grammar s p t known stays called c (exprs.Yield n) k = word_leads s (codes "yield") _ refl
expr_leads grammar s p t known stays called c (exprs.MetaProp n) k = leads_other s _ (meta_first s n.kind)
expr_leads grammar s p t known stays called c (exprs.Await n) k = word_leads s (codes "await") _ refl
expr_leads grammar s p t known stays called c (exprs.Paren n) k = leads_other s _ (first_then s _ _ AnyToken (first_one s _ AnyToken refl))
expr_leads grammar s p t known stays called c (exprs.PrivateName n) k = private_leads s n
expr_leads grammar s p t known stays called c (exprs.OptChain n) k = base_leads grammar s p t known c n.optional n.base k
expr_leads grammar s p t known stays called c (exprs.JSXElement n) k = part_known grammar s p t known nt.JSXElement (with_in c) Element n.node.value refl (and_parts _ _ k).1
expr_leads grammar s p t known stays called c (exprs.JSXFragment n) k = part_known grammar s p t known nt.JSXElement (with_in c) Element n.node.value refl (and_parts _ _ k).1
expr_leads grammar s p t known stays called c (exprs.Fn n) k =
    let (head, _) = and_parts (keeps grammar t (Part (head_before n.ident) c FunctionHead n.function.node.value)) _ k in
    let (leads, settled) = part_known grammar s p t known (head_before n.ident) c FunctionHead n.function.node.value refl head in
    leads_settled s _ _ _ settled leads
expr_leads grammar s p t known stays called c (exprs.Arrow n) k = arrow_leads grammar s p t known c n.value k
expr_leads grammar s p t known stays called c (exprs.Class n) k =
    let (head, l) = and_parts (keeps grammar t (Part nt.DecoratorList c ClassHead n.class.node.value)) _ k in
    let (word, _) = and_parts (keeps grammar t (Part nt.ClassHead c ClassWord n.class.node.value)) _ l in
    let (leads, settled) = part_known grammar s p t known nt.ClassHead c ClassWord n.class.node.value refl word in
    class_headed s _ _ _ _ (part_known grammar s p t known nt.DecoratorList c ClassHead n.class.node.value refl head) (leads_settled s _ _ _ settled leads)
expr_leads grammar s p t known stays called c n k = absurd (true≢false (sym k))

-- ---- targets and patterns

simple_leads : {X : Type 0} (grammar : Grammar) (s : Settings) (p : X → Role → Phrase) (t : X → Role → Parameters → Summary) → Known grammar s p t → (c : Parameters) (n : SimpleAssignTarget X) →
    keeps grammar t (simple_target_form c n) ≡ true → Leads s (simple_assign_target p n) (simple_target_begins (begins_in t) n)
unfolding keeps is_met simple_target_form simple_assign_target simple_target_begins super_prop_expr paren_expr sign sign_of word_sign mark_sign tokens.punctuator
simple_leads grammar s p t known c (simple_targets.Ident n) k = binding_leads grammar s p t c n k
simple_leads grammar s p t known c (simple_targets.Member n) k = member_leads grammar s p t known nt.CallOrMember c n k
simple_leads grammar s p t known c (simple_targets.SuperProp n) k = word_leads s (codes "super") _ refl
simple_leads grammar s p t known c (simple_targets.Paren n) k = leads_other s _ (first_then s _ _ AnyToken (first_one s _ AnyToken refl))
simple_leads grammar s p t known c n k = absurd (true≢false (sym k))

target_pat_leads : {X : Type 0} (s : Settings) (p : X → Role → Phrase) (n : AssignTargetPat X) → Leads s (assign_target_pat p n) (target_pat_begins n)
unfolding assign_target_pat target_pat_begins array_pat object_pat
target_pat_leads s p (target_pats.Array n) = bracket_leads s _
target_pat_leads s p (target_pats.Object n) = brace_leads s _
target_pat_leads s p (target_pats.Invalid n) = leads_never s begins.Other

target_leads : {X : Type 0} (grammar : Grammar) (s : Settings) (p : X → Role → Phrase) (t : X → Role → Parameters → Summary) → Known grammar s p t → (comma : Bool) (c : Parameters) (n : AssignTarget X) →
    keeps grammar t (target_form comma c n) ≡ true → Leads s (assign_target p n) (target_begins (begins_in t) n)
unfolding target_form assign_target target_begins
target_leads grammar s p t known comma c (targets.Simple n) k = simple_leads grammar s p t known (of_targets c) n k
target_leads grammar s p t known comma c (targets.Pat n) k = target_pat_leads s p n

pat_leads : {X : Type 0} (grammar : Grammar) (s : Settings) (p : X → Role → Phrase) (t : X → Role → Parameters → Summary) → Known grammar s p t → (comma : Bool) (c : Parameters) (n : Pat X) → keeps grammar t (pat_form comma c n) ≡ true →
    Leads s (pat p n) (pat_begins (begins_in t) n)
unfolding keeps pat_form pat pat_begins array_pat object_pat rest_pat assign_pat assign_pat_form sign sign_of mark_sign tokens.punctuator
pat_leads grammar s p t known comma c (pats.Ident n) k = binding_leads grammar s p t c n k
pat_leads grammar s p t known comma c (pats.Array n) k = bracket_leads s _
pat_leads grammar s p t known comma c (pats.Rest n) k = leads_other s _ (first_then s _ _ AnyToken (first_one s _ AnyToken refl))
pat_leads grammar s p t known comma c (pats.Object n) k = brace_leads s _
pat_leads grammar s p t known comma c (pats.Assign n) k =
    let (left, _) = and_parts (keeps grammar t (Part nt.PatternTarget c Pattern n.left.node.value)) _ k in
    leads_goes s _ _ _ AnyToken refl (part_known grammar s p t known nt.PatternTarget c Pattern n.left.node.value refl left) (first_then s _ _ AnyToken (first_one s _ AnyToken refl))
pat_leads grammar s p t known comma c (pats.Invalid n) k = leads_never s begins.Other
pat_leads grammar s p t known comma c (pats.Expr n) k =
    let (_, l) = and_parts _ _ k in
    let (_, m) = and_parts (is_target false (t n.node.value Expression (with_in c)).facts) _ l in
    part_known grammar s p t known nt.LeftHandSideExpression (with_in c) Expression n.node.value refl m

-- ---- whole nodes

part_claim : {X : Type 0} (grammar : Grammar) (s : Settings) (p : X → Role → Phrase) (t : X → Role → Parameters → Summary) → Known grammar s p t → (called : Bool) (c : Parameters) (n : ExprPart X) (role : Role) → is_claimed role ≡ true →
    keeps grammar t (part_form called c n role) ≡ true → Shown s role (expr_part p n role) (part_begins (begins_in t) n role)
unfolding keeps is_met part_form expr_part part_begins tpl_form tpl
part_claim grammar s p t known called c (expr_parts.Pat n) Pattern h k = pat_leads grammar s p t known called c n k
part_claim grammar s p t known called c (expr_parts.OptCall n) (ChainCall optional) h k = chain_call_leads grammar s p t known c optional n k
part_claim grammar s p t known called c (expr_parts.AssignTarget n) AssignmentTarget h k = target_leads grammar s p t known called c n k
part_claim grammar s p t known called c (expr_parts.Tpl n) Template h k = leads_other s _ (first_cond s _ _ AnyToken (parts_first s _ false n.exprs.items n.quasis.items))
part_claim grammar s p t known called c (expr_parts.Tpl n) TaggedTemplate h k = first_cond s _ _ AnyToken (parts_first s _ true n.exprs.items n.quasis.items)
part_claim grammar s p t known called c (expr_parts.ObjectLit n) ObjectLiteral h k = absurd (true≢false (sym h))
part_claim grammar s p t known called c (expr_parts.PropName n) PropertyName h k = absurd (true≢false (sym h))
part_claim grammar s p t known called c n role h k = absurd (true≢false (sym k))

decorators_headed : {X : Type 0} (s : Settings) (p : X → Role → Phrase) (ns : List (Decorator X)) → Headed s (decorators p ns) (decorators_begin ns)
unfolding decorators decorator decorators_begin phrases.in_order sign sign_of mark_sign tokens.punctuator begun
decorators_headed s p [] = ends_nothing s
decorators_headed s p (n ∷ ns) = leads_first s _ AtSign refl (first_then s _ _ AtSign (first_then s _ _ AtSign (first_one s _ AtSign refl)))

class_word_leads : (s : Settings) (is_abstract : Bool) → is_abstract ≡ false → Leads s (Then (word_if is_abstract (word (codes "abstract"))) (word (codes "class"))) begins.Class × Settled begins.Class
unfolding word_if begun sign sign_of word_sign tokens.word
class_word_leads s true h = absurd (true≢false h)
class_word_leads s false h = (leads_behind s (word (codes "class")) begins.Class (leads_first s (word (codes "class")) ClassSign refl (first_one s _ ClassSign refl)), λ ts. refl)

not_abstract : (b : Bool) → not b ≡ true → b ≡ false
not_abstract true h = absurd (true≢false (sym h))
not_abstract false h = refl

stmt_part_claim : {X : Type 0} (grammar : Grammar) (s : Settings) (p : X → Role → Phrase) (t : X → Role → Parameters → Summary) (c : Parameters) (n : StmtPart X) (role : Role) → is_claimed role ≡ true →
    keeps grammar t (stmt_part_form c n role) ≡ true → Shown s role (stmt_part p n role) (stmt_part_begins n role)
unfolding keeps is_met stmt_part_form stmt_part function_head class_word_form class_word class_head stmt_part_begins
stmt_part_claim grammar s p t c (stmt_parts.Function n) FunctionHead h k = (head_leads s n.value.is_async _, head_settled n.value.is_async)
stmt_part_claim grammar s p t c (stmt_parts.Function n) Function h k = absurd (true≢false (sym h))
stmt_part_claim grammar s p t c (stmt_parts.Function n) MethodHead h k = absurd (true≢false (sym h))
stmt_part_claim grammar s p t c (stmt_parts.Function n) MethodTail h k = absurd (true≢false (sym h))
stmt_part_claim grammar s p t c (stmt_parts.Function n) MethodDecorators h k = absurd (true≢false (sym h))
stmt_part_claim grammar s p t c (stmt_parts.Function n) AccessorTail h k = absurd (true≢false (sym h))
stmt_part_claim grammar s p t c (stmt_parts.Class n) ClassHead h k = decorators_headed s p n.value.decorators.items
stmt_part_claim grammar s p t c (stmt_parts.Class n) ClassWord h k = class_word_leads s n.value.is_abstract (not_abstract n.value.is_abstract (and_parts (not n.value.is_abstract) true k).0)
stmt_part_claim grammar s p t c (stmt_parts.Class n) ClassTail h k = absurd (true≢false (sym h))
stmt_part_claim grammar s p t c (stmt_parts.ClassMember n) Member h k = absurd (true≢false (sym h))
stmt_part_claim grammar s p t c (stmt_parts.BlockStmt n) Block h k = absurd (true≢false (sym h))
stmt_part_claim grammar s p t c (stmt_parts.VarDecl n) VariableDeclaration h k = absurd (true≢false (sym h))
stmt_part_claim grammar s p t c (stmt_parts.Decl n) ExportedHead h k = absurd (true≢false (sym h))
stmt_part_claim grammar s p t c (stmt_parts.Decl n) ExportedTail h k = absurd (true≢false (sym h))
stmt_part_claim grammar s p t c (stmt_parts.ModuleDecl n) ModuleDeclaration h k = absurd (true≢false (sym h))
stmt_part_claim grammar s p t c n role h k = absurd (true≢false (sym k))

in_expression : {X : Type 0} (p : X → Role → Phrase) (n : Expr X) → expr_in p false n ≡ expr p n
unfolding expr_in expr
in_expression p (exprs.New n) = refl
in_expression p n = refl

chain_member_leads : {X : Type 0} (grammar : Grammar) (s : Settings) (p : X → Role → Phrase) (t : X → Role → Parameters → Summary) → Known grammar s p t → (c : Parameters) (optional : Bool) (n : MemberExpr X) →
    keeps grammar t (chain_member_form c optional n) ≡ true → Leads s (chain_member p optional n) (chain_begins optional (begins_in t n.obj.node.value Called) n.prop)
unfolding keeps chain_member_form chain_member
chain_member_leads grammar s p t known c optional n k =
    let (called, _) = and_parts (keeps grammar t (Part (cond optional nt.ChainBase nt.OptionalExpression) (with_in c) Called n.obj.node.value)) _ k in
    chain_leads s p _ _ optional n.prop (part_known grammar s p t known _ (with_in c) Called n.obj.node.value refl called)

-- nothing is claimed of parts of statements
jsx_part_claim : {X : Type 0} (grammar : Grammar) (s : Settings) (p : X → Role → Phrase) (t : X → Role → Parameters → Summary) (c : Parameters) (n : JSXPart X) (role : Role) → is_claimed role ≡ true → keeps grammar t (jsx_part_form c n role) ≡ true →
    Shown s role (jsx_part p n role) (jsx_part_begins n role)
unfolding keeps is_met jsx_part_form jsx_part jsx_part_begins jsx_element jsx_opening_element jsx_fragment jsx_opening_fragment open_mark sign sign_of mark_sign tokens.punctuator
jsx_part_claim grammar s p t c (jsx_parts.JSXElement n) Element h k = leads_other s _ (first_then s _ _ AnyToken (first_then s _ _ AnyToken (first_one s _ AnyToken refl)))
jsx_part_claim grammar s p t c (jsx_parts.JSXFragment n) Element h k = leads_other s _ (first_then s _ _ AnyToken (first_then s _ _ AnyToken (first_one s _ AnyToken refl)))
jsx_part_claim grammar s p t c (jsx_parts.JSXElement n) Child h k = absurd (true≢false (sym h))
jsx_part_claim grammar s p t c (jsx_parts.JSXFragment n) Child h k = absurd (true≢false (sym h))
jsx_part_claim grammar s p t c (jsx_parts.JSXObject n) TagObject h k = absurd (true≢false (sym h))
jsx_part_claim grammar s p t c n role h k = absurd (true≢false (sym k))

node_claim : {X : Type 0} (grammar : Grammar) (s : Settings) (p : X → Role → Phrase) (t : X → Role → Parameters → Summary) → Known grammar s p t → (called : Bool) (c : Parameters) (n : AnyNode-F X) (role : Role) → is_claimed role ≡ true →
    keeps grammar t (node_form called c n role) ≡ true → Shown s role (node_phrase p n role) (node_begins (begins_in t) n role)
unfolding keeps is_met node_form node_phrase node_begins
node_claim grammar s p t known called c (nodes.Expr n) Expression h k = subst (λ q. Leads s q (expr_begins (begins_in t) n)) (in_expression p n) (expr_leads grammar s p t known false called c n k)
node_claim grammar s p t known called c (nodes.Expr n) Called h k = expr_leads grammar s p t known true called c n k
node_claim grammar s p t known called c (nodes.Expr n) FieldValue h k = absurd (true≢false (sym h))
node_claim grammar s p t known called c (nodes.MemberExpr n) (ChainMember optional) h k = chain_member_leads grammar s p t known c optional n k
node_claim grammar s p t known called c (nodes.ExprPart n) role h k = part_claim grammar s p t known called c n role h k
node_claim grammar s p t known called c (nodes.Stmt n) Statement h k = absurd (true≢false (sym h))
node_claim grammar s p t known called c (nodes.StmtPart n) role h k = stmt_part_claim grammar s p t c n role h k
node_claim grammar s p t known called c (nodes.JSXPart n) role h k = jsx_part_claim grammar s p t c n role h k
node_claim grammar s p t known called c n role h k = absurd (true≢false (sym k))

abbrev BeginningLaw : Grammar → Settings → AnyNode → Type 0
BeginningLaw grammar s n = (role : Role) (c : Parameters) → is_claimed role ≡ true → holds_in grammar (facts n role c).verdict ≡ true → Claim s phrase summary_of n role

layer_claim : {X : Type 0} (grammar : Grammar) (s : Settings) (g : X → AnyNode) → ((x : X) → BeginningLaw grammar s (g x)) → (y : AnyNode-F X) → BeginningLaw grammar s (roll-AnyNode (map-AnyNode X AnyNode g y))
layer_claim {X} grammar s g law y role c h k =
    let m : AnyNode-F AnyNode = map-AnyNode X AnyNode g y in
    let b : Bool = is_called_node summary_of c (out-AnyNode (roll-AnyNode m)) in
    let e : node_form b c (out-AnyNode (roll-AnyNode m)) role ≡ map_form g (node_form b c y role) = ap (λ z. node_form b c z role) (out-roll-AnyNode m) ∙ node_mapped g b c y role in
    let kept : keeps grammar (λ z. summary_of (g z)) (node_form b c y role) ≡ true =
    sym (keeps_mapped grammar g summary_of (node_form b c y role)) ∙ sym (ap (keeps grammar summary_of) e) ∙ sym (holds_at grammar (roll-AnyNode m) role c) ∙ k in
    let shown = node_claim grammar s (λ z. phrase (g z)) (λ z. summary_of (g z)) ((λ z. law z), (λ z. plain_at (g z))) b c y role h kept in
    subst (λ q. Shown s role q (begins_in summary_of (roll-AnyNode m) role)) (sym (phrase_of g y role))
    (subst (λ w. Shown s role (node_phrase (λ z. phrase (g z)) y role) w) (sym (begins_of g y role)) shown)

claim_at : (grammar : Grammar) (s : Settings) (n : AnyNode) → BeginningLaw grammar s n
claim_at grammar s = ind-AnyNode (BeginningLaw grammar s) (λ x y q. subst (λ z. BeginningLaw grammar s (roll-AnyNode z)) q (layer_claim grammar s (λ z. z.0) (λ z. z.1) y))

-- an expression or a pattern that keeps its structure: what its summary says it begins with, each of its lists begins with
pub begins_as_summed : (grammar : Grammar) (s : Settings) (n : AnyNode) (as_pattern : Bool) (c : Parameters) → holds_in grammar (facts n (role_in as_pattern) c).verdict ≡ true → (ts : List Token) → Generates s (phrase n (role_in as_pattern)) ts →
    beginning ts ≡ begins_in summary_of n (role_in as_pattern)
begins_as_summed grammar s n true c k ts x = (claim_at grammar s n Pattern c refl k ts x).0
begins_as_summed grammar s n false c k ts x = (claim_at grammar s n Expression c refl k ts x).0
