-- Members, tags, templates and optional chains are read as they are.
use Rattle.std.proofs.Common.{◌≡◌, ◌+◌, Bool, true, false, List, [], ◌∷◌, length, refl, sym, ap, ◌∙◌, subst, arith}
use Rattle.std.specs.Prelude.{codes, if◌then◌else◌}
use Rattle.std.proofs.lemmas.Bool.{true≢false, eqb-true}
use Rattle.swc_ecma_codegen_tree.specs.Links.{ExprBox}
use Rattle.swc_ecma_codegen_tree.specs.declared.links.AnyNode.{AnyNode, AnyNode-F, out-AnyNode}
use Rattle.swc_ecma_codegen_tree.specs.declared.links.AnyNode.TheOpen as nodes
use Rattle.swc_ecma_codegen_tree.specs.declared.parts.ExprPart.TheVariants as expr_parts
use Rattle.swc_ecma_codegen_tree.specs.declared.parts.JSXPart.TheVariants as jsx_parts
use Rattle.swc_ecma_codegen_tree.specs.declared.parts.StmtPart.TheVariants as stmt_parts
use Rattle.swc_ecma_codegen_tree.specs.declared.exprs.MemberExpr.{MemberExpr}
use Rattle.swc_ecma_codegen_tree.specs.declared.exprs.MemberProp.{MemberProp}
use Rattle.swc_ecma_codegen_tree.specs.declared.exprs.MemberProp.TheVariants as member_props
use Rattle.swc_ecma_codegen_tree.specs.declared.exprs.SuperPropExpr.{SuperPropExpr}
use Rattle.swc_ecma_codegen_tree.specs.declared.exprs.SuperProp.{SuperProp}
use Rattle.swc_ecma_codegen_tree.specs.declared.exprs.SuperProp.TheVariants as super_props
use Rattle.swc_ecma_codegen_tree.specs.declared.exprs.OptCall.{OptCall}
use Rattle.swc_ecma_codegen_tree.specs.declared.exprs.OptChainExpr.{OptChainExpr}
use Rattle.swc_ecma_codegen_tree.specs.declared.exprs.OptChainBase.{OptChainBase}
use Rattle.swc_ecma_codegen_tree.specs.declared.exprs.OptChainBase.TheVariants as chain_bases
use Rattle.swc_ecma_codegen_tree.specs.declared.exprs.TaggedTpl.{TaggedTpl}
use Rattle.swc_ecma_codegen_tree.specs.declared.exprs.Tpl.{Tpl}
use Rattle.swc_ecma_codegen_tree.specs.declared.exprs.TplElement.{TplElement}
use Rattle.swc_ecma_codegen_grammar.specs.Phrases.{Generates, One, where_}
use Rattle.swc_ecma_codegen_grammar.specs.Phrases as phrases
use Rattle.swc_ecma_codegen_grammar.specs.ExprPhrases.{chain_mark}
use Rattle.swc_ecma_codegen_grammar.specs.CallPhrases.{call_mark}
use Rattle.swc_ecma_codegen_grammar.specs.FunctionPhrases.{is_some_listed}
use Rattle.swc_ecma_codegen_grammar.specs.NamePhrases.{ident_name, private_name}
use Rattle.swc_ecma_codegen_grammar.specs.Settings.{Settings}
use Rattle.swc_ecma_codegen_grammar.specs.TemplatePhrases.{tpl_element, part_phrase, part_kind, is_counted}
use Rattle.swc_ecma_codegen_grammar.specs.Tokens.{Token, token_of, punctuator}
use Rattle.swc_ecma_codegen_grammar.specs.declared.roles.Role.TheVariants.{ChainMember, ChainCall, Template, TaggedTemplate}
use Rattle.swc_ecma_codegen_syntax.specs.declared.nonterminals.Nonterminal.{Nonterminal}
use Rattle.swc_ecma_codegen_syntax.specs.declared.nonterminals.Nonterminal.TheVariants as nt
use Rattle.swc_ecma_codegen_syntax.specs.declared.parameters.Parameters.{Parameters}
use Rattle.swc_ecma_codegen_syntax.specs.Parameters.{with_in}
use Rattle.swc_ecma_codegen_syntax.specs.Forms.{Fixed, Provided, ByRule, is_met}
use Rattle.swc_ecma_codegen_syntax.specs.MemberForms.{expr_part, computed_form, member_form, super_form, super_prop_form, tagged_form, chain_prop_form, chain_member_form, chain_base_form, opt_chain_form}
use Rattle.swc_ecma_codegen_syntax.specs.CallForms.{chain_call_form}
use Rattle.swc_ecma_codegen_syntax.specs.TemplateForms.{tpl_rest_form, tpl_parts_form, tpl_form}
use Rattle.swc_ecma_codegen_syntax.specs.ExprForms.{call_or_member}
use Rattle.swc_ecma_codegen_syntax.specs.NodeForms.{node_form, part_form, stmt_part_form, jsx_part_form}
use Rattle.swc_ecma_codegen_syntax.specs.Derives.{Derives, fixed, part, both, provided}
use Rattle.swc_ecma_codegen_syntax.specs.Verdicts.{core}
use Rattle.swc_ecma_codegen_uniqueness.specs.ParseTrees.{Variant, ParseTree, End, Read, Node, Member, Call, SuperProp as a_super, Tpl as a_template, TaggedTpl as a_tag, OptChain}
use Rattle.swc_ecma_codegen_uniqueness.specs.Parses.{placed, is_inlined}
use Rattle.swc_ecma_codegen_uniqueness.proofs.Classes.{First, class}
use Rattle.swc_ecma_codegen_uniqueness.proofs.Moves.{template}
use Rattle.swc_ecma_codegen_uniqueness.proofs.Tables.{is_tag}
use Rattle.swc_ecma_codegen_uniqueness.proofs.TableLaws.{is_place, Linked, a_member, of_call, a_target, a_chain, of_chain, calls_on}
use Rattle.swc_ecma_codegen_uniqueness.proofs.Machine.{Mode, Whole, Rest, Good}
use Rattle.swc_ecma_codegen_uniqueness.proofs.Shapes.{Operand, ended, member_named, member_indexed, chain_named, chain_indexed, chain_called, chained_not, chained_so, plain_member, plain_call, plain_callee, of_a_chain, super_named, super_indexed, template_next, untagged, tagged}
use Rattle.swc_ecma_codegen_uniqueness.proofs.Reading.{read_phrase, derived_parse}
use Rattle.swc_ecma_codegen_uniqueness.proofs.Fits.{at_place, PlacedGood, AllGood, no_form}
use Rattle.swc_ecma_codegen_uniqueness.proofs.Lists.{no_types, argued_as, argued_call, arguments_good, name_is_name, private_is_name, prop_good}

-- ---- members and what `super` has

pub member_good : {s : Settings} (called : Bool) (c : Parameters) (n : MemberExpr AnyNode) {ts : List Token} (d : Derives core s (member_form (call_or_member called) c n) ts) → AllGood d → s.minify ≡ c.minify →
    Good (Whole Member (call_or_member called)) (derived_parse d End)
unfolding member_form AllGood PlacedGood derived_parse placed is_inlined
member_good true c n (both (part a sa d) e) (o, q) m = let x = at_place _ _ sa (o m) in prop_good Member c n.prop e q m of_call (chained_not _ Member (plain_call x)) x
member_good false c n (both (part a sa d) e) (o, q) m = let x = at_place _ _ sa (o m) in prop_good Member c n.prop e q m a_member (chained_not _ Member (plain_member x)) x

-- the same of what is assigned to
pub target_member_good : {s : Settings} (c : Parameters) (n : MemberExpr AnyNode) {ts : List Token} (d : Derives core s (member_form nt.CallOrMember c n) ts) → AllGood d → s.minify ≡ c.minify →
    Good (Whole Member nt.LeftHandSideExpression) (derived_parse d End)
unfolding member_form AllGood PlacedGood derived_parse placed is_inlined
target_member_good c n (both (part a sa d) e) (o, q) m = let x = at_place _ _ sa (o m) in prop_good Member c n.prop e q m a_target (chained_not _ Member (plain_callee x)) x

super_by : {s : Settings} (n : Nonterminal) → is_place n ≡ false → (c : Parameters) (prop : SuperProp AnyNode) {ts us : List Token} (g : Derives core s (Fixed (phrases.word (codes "super"))) us) (d : Derives core s (super_form c prop) ts) → AllGood d →
    s.minify ≡ c.minify → Good (Whole a_super n) (derived_parse g (derived_parse d End))
unfolding super_form computed_form ident_name AllGood PlacedGood derived_parse read_phrase placed is_inlined
super_by n h c (super_props.Ident x) (fixed k) (fixed g) o m = super_named _ n h (name_is_name _)
super_by n h c (super_props.Computed x) (fixed k) (both (fixed g) (both (part a sa d) (fixed e))) (y, (o, z)) m = super_indexed n h (at_place _ _ sa (o m))

pub super_good : {s : Settings} (n : Nonterminal) → is_place n ≡ false → (c : Parameters) (x : SuperPropExpr AnyNode) {ts : List Token} (d : Derives core s (super_prop_form c x) ts) → AllGood d → s.minify ≡ c.minify →
    Good (Whole a_super n) (derived_parse d End)
unfolding super_prop_form AllGood derived_parse
super_good n h c x (both g d) (y, o) m = super_by n h c x.prop g d o m

-- ---- templates

pub where_read : (s : Settings) (b : Bool) (t : Token) (ts : List Token) (g : Generates s (where_ b (One t)) ts) (rest : ParseTree) → read_phrase s (where_ b (One t)) ts g rest ≡ Read t rest
unfolding where_ Generates read_phrase
where_read s true t ts g rest = refl
where_read s false t ts g rest = absurd g

pub part_rest : {mode : Mode} {place : Nonterminal} {z : Variant} {p r m : ParseTree} → Operand place z p → r ≡ m → Good mode (Node z p m) → Good mode (Node z p r)
part_rest {mode = mode} {z = z} {p = p} o e g = subst (λ w. Good mode (Node z p w)) (sym e) g

rest_good : {s : Settings} (variant : Variant) (n : Nonterminal) (c : Parameters) (with_tag : Bool) (es : List (ExprBox AnyNode)) (qs : List TplElement) {ts : List Token} → is_tag variant ≡ with_tag →
    length qs ≡ length es → (d : Derives core s (tpl_rest_form (expr_part nt.Expression (with_in c)) with_tag es qs) ts) → AllGood d → s.minify ≡ c.minify →
    Good (Rest (template variant (is_some_listed qs)) variant n) (derived_parse d End)
unfolding tpl_rest_form tpl_element part_phrase part_kind is_some_listed token_of AllGood PlacedGood derived_parse read_phrase placed is_inlined
rest_good variant n c with_tag [] [] y h (fixed g) o m = ended variant n
rest_good variant n c with_tag [] (q ∷ qs) y h d o m = absurd (omega (arith, h))
rest_good variant n c with_tag (e ∷ es) [] y h d o m = absurd (omega (arith, h))
rest_good variant n c with_tag (e ∷ es) (q ∷ qs) y h (both (part a sa d) (both (fixed g) f)) (o, (x, r)) m =
    part_rest (at_place _ _ sa (o m)) (where_read _ _ _ _ g (derived_parse f End)) (template_next variant n _ with_tag (is_some_listed qs) y refl (at_place _ _ sa (o m)) (rest_good variant n c with_tag es qs y (omega (arith, h)) f r m))

-- what begins with the first part of a template
pub record Templated (variant : Variant) (n : Nonterminal) (m : ParseTree) : Type 0 where
  pub first : Token
  pub opens : Bool
  pub rest : ParseTree
  pub is : m ≡ Read first rest
  pub begins : class first ≡ First (is_tag variant) opens
  pub good : Good (Rest (template variant opens) variant n) rest

parts_good : {s : Settings} (variant : Variant) (n : Nonterminal) (c : Parameters) (with_tag : Bool) (es : List (ExprBox AnyNode)) (qs : List TplElement) {ts : List Token} → is_tag variant ≡ with_tag →
    length qs ≡ length es + 1 → (d : Derives core s (tpl_parts_form (expr_part nt.Expression (with_in c)) with_tag es qs) ts) → AllGood d → s.minify ≡ c.minify → Templated variant n (derived_parse d End)
unfolding tpl_parts_form tpl_element part_phrase part_kind token_of Generates AllGood derived_parse read_phrase
parts_good variant n c with_tag es [] y h (fixed g) o m = absurd g
parts_good variant n c with_tag es (q ∷ qs) y h (both (fixed g) f) (x, r) m =
    record { first = _; opens = is_some_listed qs; rest = derived_parse f End; is = where_read _ _ _ _ g (derived_parse f End); begins = ap (λ b. First b (is_some_listed qs)) (sym y); good = rest_good variant n c with_tag es qs y (omega (arith, h)) f r m }

counted_good : {s : Settings} (variant : Variant) (n : Nonterminal) (c : Parameters) (with_tag b : Bool) (es : List (ExprBox AnyNode)) (qs : List TplElement) {ts : List Token} → is_tag variant ≡ with_tag → is_counted es qs ≡ b →
    (d : Derives core s (if b then tpl_parts_form (expr_part nt.Expression (with_in c)) with_tag es qs else Provided ByRule false (Fixed phrases.Never)) ts) → AllGood d → s.minify ≡ c.minify → Templated variant n (derived_parse d End)
unfolding is_met
counted_good variant n c with_tag true es qs y e d o m = parts_good variant n c with_tag es qs y (eqb-true (length qs) (length es + 1) e) d o m
counted_good variant n c with_tag false es qs y e (provided h d) o m = absurd (true≢false (sym h))

tpl_good : {s : Settings} (variant : Variant) (n : Nonterminal) (c : Parameters) (with_tag : Bool) (x : Tpl AnyNode) {ts : List Token} → is_tag variant ≡ with_tag → (d : Derives core s (tpl_form c with_tag x) ts) → AllGood d → s.minify ≡ c.minify →
    Templated variant n (derived_parse d End)
unfolding tpl_form
tpl_good variant n c with_tag x y d o m = counted_good variant n c with_tag (is_counted x.exprs.items x.quasis.items) x.exprs.items x.quasis.items y refl d o m

-- in the place of a template stands one
tagged_in : {s : Settings} (n : Nonterminal) (k : Bool) (c : Parameters) (y : AnyNode-F AnyNode) {ts : List Token} (d : Derives core s (node_form k c y TaggedTemplate) ts) → AllGood d → s.minify ≡ c.minify →
    Templated a_tag n (derived_parse d End)
unfolding node_form part_form stmt_part_form jsx_part_form is_met
tagged_in n k c (nodes.ExprPart (expr_parts.Tpl x)) d o m = tpl_good a_tag n c true x refl d o m
tagged_in n k c (nodes.StmtPart (stmt_parts.BlockStmt x)) d o m = absurd (no_form d)
tagged_in n k c (nodes.JSXPart (jsx_parts.JSXElement x)) d o m = absurd (no_form d)
tagged_in n k c y d o m = absurd (no_form d)

template_in : {s : Settings} (n : Nonterminal) (k : Bool) (c : Parameters) (y : AnyNode-F AnyNode) {ts : List Token} (d : Derives core s (node_form k c y Template) ts) → AllGood d → s.minify ≡ c.minify →
    Templated a_template n (derived_parse d End)
unfolding node_form part_form stmt_part_form jsx_part_form is_met
template_in n k c (nodes.ExprPart (expr_parts.Tpl x)) d o m = tpl_good a_template n c false x refl d o m
template_in n k c (nodes.StmtPart (stmt_parts.BlockStmt x)) d o m = absurd (no_form d)
template_in n k c (nodes.JSXPart (jsx_parts.JSXElement x)) d o m = absurd (no_form d)
template_in n k c y d o m = absurd (no_form d)

pub template_good : {s : Settings} (k : Bool) (c : Parameters) (x : AnyNode) {ts : List Token} (d : Derives core s (node_form k c (out-AnyNode x) Template) ts) → AllGood d → s.minify ≡ c.minify →
    Good (Whole a_template nt.PrimaryExpression) (derived_parse d End)
template_good k c x d o m =
    let t = template_in nt.PrimaryExpression k c (out-AnyNode x) d o m in
    subst (λ z. Good (Whole a_template nt.PrimaryExpression) z) (sym t.is) (untagged t.first t.opens t.begins t.good)

tag_of : {n place : Nonterminal} {z : Variant} {p m : ParseTree} → Linked n place → Operand place z p → Templated a_tag n m → Good (Whole a_tag n) (Node z p m)
tag_of {n = n} {z = z} {p = p} a o t = subst (λ r. Good (Whole a_tag n) (Node z p r)) (sym t.is) (tagged t.first t.opens a t.begins o t.good)

pub tag_good : {s : Settings} (called : Bool) (c : Parameters) (n : TaggedTpl AnyNode) {ts : List Token} (d : Derives core s (tagged_form (call_or_member called) c n) ts) → AllGood d → s.minify ≡ c.minify →
    Good (Whole a_tag (call_or_member called)) (derived_parse d End)
unfolding tagged_form AllGood PlacedGood derived_parse placed is_inlined
tag_good true c n (both (part a sa d) (both t (part b sb e))) (o, (x, q)) m =
    part_rest (at_place _ _ sa (o m)) (no_types c n.type_params t (derived_parse e End))
    (tag_of of_call (at_place _ _ sa (o m)) (tagged_in nt.CallExpression b (with_in c) (out-AnyNode n.tpl.node.value) e q m))
tag_good false c n (both (part a sa d) (both t (part b sb e))) (o, (x, q)) m =
    part_rest (at_place _ _ sa (o m)) (no_types c n.type_params t (derived_parse e End))
    (tag_of a_member (at_place _ _ sa (o m)) (tagged_in nt.MemberExpression b (with_in c) (out-AnyNode n.tpl.node.value) e q m))

-- ---- optional chains

on_chain : {s : Settings} {z : Variant} {p : ParseTree} (c : Parameters) (prop : MemberProp AnyNode) {ts us : List Token} (g : Derives core s (Fixed (chain_mark false prop)) us) (d : Derives core s (chain_prop_form c prop) ts) → AllGood d →
    s.minify ≡ c.minify → Operand nt.OptionalExpression z p → Good (Whole OptChain nt.OptionalExpression) (Node z p (derived_parse g (derived_parse d End)))
unfolding chain_mark chain_prop_form computed_form ident_name private_name AllGood PlacedGood derived_parse read_phrase placed is_inlined
on_chain {z = z} c (member_props.Ident n) (fixed k) (fixed g) o m x = member_named _ OptChain of_chain (name_is_name _) (chained_so z Member (of_a_chain x)) x
on_chain {z = z} c (member_props.PrivateName n) (fixed k) (fixed g) o m x = member_named _ OptChain of_chain (private_is_name _) (chained_so z Member (of_a_chain x)) x
on_chain {z = z} c (member_props.Computed n) (fixed k) (both (fixed g) (both (part a sa d) (fixed e))) (y, (o, v)) m x =
    member_indexed OptChain of_chain (chained_so z Member (of_a_chain x)) x (at_place _ _ sa (o m))

to_chain : {s : Settings} {z : Variant} {p : ParseTree} (c : Parameters) (prop : MemberProp AnyNode) {ts us : List Token} (g : Derives core s (Fixed (chain_mark true prop)) us) (d : Derives core s (chain_prop_form c prop) ts) → AllGood d →
    s.minify ≡ c.minify → Operand nt.ChainBase z p → Good (Whole OptChain nt.OptionalExpression) (Node z p (derived_parse g (derived_parse d End)))
unfolding chain_mark chain_prop_form computed_form ident_name private_name AllGood PlacedGood derived_parse read_phrase placed is_inlined
to_chain c (member_props.Ident n) (fixed k) (fixed g) o m x = chain_named _ a_chain (name_is_name _) x
to_chain c (member_props.PrivateName n) (fixed k) (fixed g) o m x = chain_named _ a_chain (private_is_name _) x
to_chain c (member_props.Computed n) (fixed k) (both (fixed g) (both (part a sa d) (fixed e))) (y, (o, v)) m x = chain_indexed a_chain x (at_place _ _ sa (o m))

chain_member_good : {s : Settings} (c : Parameters) (optional : Bool) (n : MemberExpr AnyNode) {ts : List Token} (d : Derives core s (chain_member_form c optional n) ts) → AllGood d → s.minify ≡ c.minify →
    Good (Whole OptChain nt.OptionalExpression) (derived_parse d End)
unfolding chain_member_form AllGood PlacedGood derived_parse placed is_inlined
chain_member_good c true n (both (part a sa d) (both g e)) (o, (x, q)) m = to_chain c n.prop g e q m (at_place _ _ sa (o m))
chain_member_good c false n (both (part a sa d) (both g e)) (o, (x, q)) m = on_chain c n.prop g e q m (at_place _ _ sa (o m))

chain_member_in : {s : Settings} (k : Bool) (c : Parameters) (optional : Bool) (y : AnyNode-F AnyNode) {ts : List Token} (d : Derives core s (node_form k c y (ChainMember optional)) ts) → AllGood d → s.minify ≡ c.minify →
    Good (Whole OptChain nt.OptionalExpression) (derived_parse d End)
unfolding node_form part_form stmt_part_form jsx_part_form is_met
chain_member_in k c optional (nodes.MemberExpr n) d o m = chain_member_good c optional n d o m
chain_member_in k c optional (nodes.ExprPart (expr_parts.Tpl n)) d o m = absurd (no_form d)
chain_member_in k c optional (nodes.StmtPart (stmt_parts.BlockStmt n)) d o m = absurd (no_form d)
chain_member_in k c optional (nodes.JSXPart (jsx_parts.JSXElement n)) d o m = absurd (no_form d)
chain_member_in k c optional y d o m = absurd (no_form d)

chain_call_good : {s : Settings} (c : Parameters) (optional : Bool) (n : OptCall AnyNode) {ts : List Token} (d : Derives core s (chain_call_form c optional n) ts) → AllGood d → s.minify ≡ c.minify →
    Good (Whole OptChain nt.OptionalExpression) (derived_parse d End)
unfolding chain_call_form call_mark AllGood PlacedGood derived_parse read_phrase placed is_inlined
chain_call_good c true n (both (part a sa d) (both (fixed g) (both t e))) (o, (x, (y, q))) m =
    let r = arguments_good OptChain nt.OptionalExpression c n.args.items e q m in
    part_rest (at_place _ _ sa (o m)) (ap (Read (punctuator (codes "?."))) (no_types c n.type_args t (derived_parse e End) ∙ r.is)) (chain_called a_chain (at_place _ _ sa (o m)) r.good)
chain_call_good c false n (both (part a sa d) (both (fixed g) (both t e))) (o, (x, (y, q))) m =
    let r = arguments_good OptChain nt.OptionalExpression c n.args.items e q m in
    let v = at_place _ _ sa (o m) in
    argued_call calls_on (chained_so _ Call (of_a_chain v)) v (argued_as (no_types c n.type_args t (derived_parse e End)) r)

chain_call_in : {s : Settings} (k : Bool) (c : Parameters) (optional : Bool) (y : AnyNode-F AnyNode) {ts : List Token} (d : Derives core s (node_form k c y (ChainCall optional)) ts) → AllGood d → s.minify ≡ c.minify →
    Good (Whole OptChain nt.OptionalExpression) (derived_parse d End)
unfolding node_form part_form stmt_part_form jsx_part_form is_met
chain_call_in k c optional (nodes.ExprPart (expr_parts.OptCall n)) d o m = chain_call_good c optional n d o m
chain_call_in k c optional (nodes.StmtPart (stmt_parts.BlockStmt n)) d o m = absurd (no_form d)
chain_call_in k c optional (nodes.JSXPart (jsx_parts.JSXElement n)) d o m = absurd (no_form d)
chain_call_in k c optional y d o m = absurd (no_form d)

chain_base_good : {s : Settings} (c : Parameters) (optional : Bool) (base : OptChainBase AnyNode) {ts : List Token} (d : Derives core s (chain_base_form c optional base) ts) → AllGood d → s.minify ≡ c.minify →
    Good (Whole OptChain nt.OptionalExpression) (derived_parse d End)
unfolding chain_base_form AllGood PlacedGood derived_parse placed is_inlined
chain_base_good c optional (chain_bases.Member n) (part a sa d) o m = chain_member_in a c optional (out-AnyNode n.node.value) d o m
chain_base_good c optional (chain_bases.Call n) (part a sa d) o m = chain_call_in a c optional (out-AnyNode n.node.value) d o m

pub chain_good : {s : Settings} (c : Parameters) (n : OptChainExpr AnyNode) {ts : List Token} (d : Derives core s (opt_chain_form c n) ts) → AllGood d → s.minify ≡ c.minify → Good (Whole OptChain nt.OptionalExpression) (derived_parse d End)
unfolding opt_chain_form
chain_good c n d o m = chain_base_good c n.optional n.base d o m
