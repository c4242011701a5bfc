-- Arrow functions are read as they are: what stands before `=>` are parameters.
use Rattle.std.proofs.Common.{◌≡◌, ℕ, Bool, true, false, ◌||◌, not, List, [], ◌∷◌, Option, Some, None, refl, sym, ap, ◌∙◌, subst}
use Rattle.std.specs.Prelude.{codes, is_some}
use Rattle.std.proofs.lemmas.Bool.{true≢false, or_left}
use Rattle.swc_ecma_codegen_tree.specs.Links.{PatBox, TsTypeAnnBox, TsTypeParamDeclBox}
use Rattle.swc_ecma_codegen_tree.specs.declared.links.AnyNode.{AnyNode, AnyNode-F, out-AnyNode}
use Rattle.swc_ecma_codegen_tree.specs.declared.links.AnyNode.TheOpen as nodes
use Rattle.swc_ecma_codegen_tree.specs.declared.exprs.ArrowExpr.{ArrowExpr}
use Rattle.swc_ecma_codegen_tree.specs.declared.exprs.BlockStmtOrExpr.{BlockStmtOrExpr}
use Rattle.swc_ecma_codegen_tree.specs.declared.exprs.BlockStmtOrExpr.TheVariants as bodies
use Rattle.swc_ecma_codegen_tree.specs.declared.parts.ExprPart.TheVariants as expr_parts
use Rattle.swc_ecma_codegen_tree.specs.declared.parts.JSXPart.TheVariants as jsx_parts
use Rattle.swc_ecma_codegen_tree.specs.declared.parts.StmtPart.TheVariants as stmt_parts
use Rattle.swc_ecma_codegen_tree.specs.declared.pats.Pat.TheVariants as pats
use Rattle.swc_ecma_codegen_grammar.specs.FunctionPhrases.{is_never, word_if, is_typed_arrow}
use Rattle.swc_ecma_codegen_grammar.specs.PartPhrases.{expr_part}
use Rattle.swc_ecma_codegen_grammar.specs.PatPhrases.{plain_parameter}
use Rattle.swc_ecma_codegen_grammar.specs.Phrases.{mark}
use Rattle.swc_ecma_codegen_grammar.specs.Phrases as phrases
use Rattle.swc_ecma_codegen_grammar.specs.Settings.{Settings}
use Rattle.swc_ecma_codegen_grammar.specs.Tokens.{Token, punctuator, same_line}
use Rattle.swc_ecma_codegen_grammar.specs.Tokens as tokens
use Rattle.swc_ecma_codegen_grammar.specs.TreePhrases.{phrase, node_phrase}
use Rattle.swc_ecma_codegen_grammar.proofs.TreeLaws.{phrase_at}
use Rattle.swc_ecma_codegen_grammar.specs.declared.roles.Role.TheVariants.{Pattern, PlainParameter}
use Rattle.swc_ecma_codegen_syntax.specs.declared.nonterminals.Nonterminal.TheVariants as nt
use Rattle.swc_ecma_codegen_syntax.specs.declared.parameters.Parameters.{Parameters}
use Rattle.swc_ecma_codegen_syntax.specs.Parameters.{of_arrow_parameters}
use Rattle.swc_ecma_codegen_syntax.specs.Forms.{Fixed, Provided, ByRule, ◌⇢◌, is_met, ending_after, ending_listed}
use Rattle.swc_ecma_codegen_syntax.specs.FunctionForms.{type_params_form, arrow_params_form, arrow_body_form, async_form, arrow_form}
use Rattle.swc_ecma_codegen_syntax.specs.MemberForms.{annotation_form}
use Rattle.swc_ecma_codegen_syntax.specs.PatForms.{pat_form, pat_part, pat_nonterminal}
use Rattle.swc_ecma_codegen_syntax.specs.NodeForms.{node_form, node_nonterminal, part_form, part_nonterminal, stmt_part_form, jsx_part_form}
use Rattle.swc_ecma_codegen_syntax.specs.Derives.{Derives, fixed, part, restricted, lone, lone_in_parentheses, both, provided}
use Rattle.swc_ecma_codegen_syntax.specs.Verdicts.{core}
use Rattle.swc_ecma_codegen_uniqueness.specs.ParseTrees.{Variant, ParseTree, End, Read, Optional, Node, Ident, Seq, Arrow, Paren, part_variant, pat_variant, node_variant, tokens_of}
use Rattle.swc_ecma_codegen_uniqueness.specs.Parses.{placed, is_inlined, is_inlined_pattern, is_inlined_pat}
use Rattle.swc_ecma_codegen_uniqueness.proofs.Classes.{class, NameToken}
use Rattle.swc_ecma_codegen_uniqueness.proofs.Controls.{Listed, ArrowBody, InList}
use Rattle.swc_ecma_codegen_uniqueness.proofs.PlaceLaws.{begins_none}
use Rattle.swc_ecma_codegen_uniqueness.proofs.TableLaws.{cover, takes_on}
use Rattle.swc_ecma_codegen_uniqueness.proofs.Machine.{Whole, Rest, Good, Heads, turned, spine_free, turned_low}
use Rattle.swc_ecma_codegen_uniqueness.proofs.Joined.{derived_joined}
use Rattle.swc_ecma_codegen_uniqueness.proofs.Parsed.{tokens_before}
use Rattle.swc_ecma_codegen_uniqueness.proofs.StatementShapes.{operand_heads, arrow_value, arrow_block}
use Rattle.swc_ecma_codegen_uniqueness.proofs.Heading.{may_be_value, not_excluded}
use Rattle.swc_ecma_codegen_uniqueness.proofs.Shapes.{Operand, shift_left, takes_self, assignment_taken, widened, left_taken, left_assigned, listed_first, listed_next, listed_last, listed_rest, no_parameters, several_parameters, one_parameter, rest_parameter, one_turned, arrow_mark, arrow, async_arrow, ended}
use Rattle.swc_ecma_codegen_uniqueness.proofs.Reading.{read_phrase, derived_parse}
use Rattle.swc_ecma_codegen_uniqueness.proofs.Fits.{Fit, in_place, at_place, PlacedGood, AllGood, no_form}
use Rattle.swc_ecma_codegen_uniqueness.proofs.Atoms.{no_annotation, binding_read, binding_free}
use Rattle.swc_ecma_codegen_uniqueness.proofs.Patterns.{covered_at, LastPart, an_element, a_rest, last_at, no_rest}

-- ---- several parameters are covered by a sequence

last_listed : {f : ParseTree → ParseTree} → LastPart f → Good (Rest Listed Seq nt.Expression) (f End)
last_listed (an_element v) = subst (λ z. Good (Rest Listed Seq nt.Expression) z) (sym (v.is End)) (listed_last v.operand)
last_listed (a_rest v) =
    subst (λ z. Good (Rest Listed Seq nt.Expression) z) (sym (v.is End ∙ ap (Read (punctuator (codes "..."))) (v.covered.is End))) (listed_rest (widened left_assigned v.covered.operand))

-- what goes on behind a comma
record Continued (m : ParseTree) : Type 0 where
  rest : ParseTree
  is : m ≡ Read (punctuator (codes ",")) rest
  good : Good (Rest Listed Seq nt.Expression) rest

params_on : {s : Settings} (c : Parameters) (x : PatBox AnyNode) (xs : List (PatBox AnyNode)) {ts : List Token} (d : Derives core s (ending_after (λ place n. pat_part place c n) (x ∷ xs)) ts) → AllGood d → s.minify ≡ c.minify → Continued (derived_parse d End)
unfolding ending_after AllGood derived_parse read_phrase
params_on c x [] (both (fixed g) (both d (fixed h))) (y, (o, z)) m = record { rest = derived_parse d End; is = refl; good = last_listed (last_at c x.node.value d o m) }
params_on c x (y ∷ ys) (both (fixed g) (both d e)) (z, (o, q)) m =
    let v = covered_at nt.PatternElement no_rest c x.node.value d o m in
    let k = params_on c y ys e q m in
    record {
      rest = derived_parse d (derived_parse e End);
      is = refl;
      good = subst (λ w. Good (Rest Listed Seq nt.Expression) w) (sym (v.is (derived_parse e End) ∙ ap (Node v.variant v.inside) k.is)) (listed_next v.operand k.good);
    }

params_seq : {s : Settings} (c : Parameters) (x y : PatBox AnyNode) (ys : List (PatBox AnyNode)) {ts : List Token} (d : Derives core s (ending_listed (λ place n. pat_part place c n) (x ∷ y ∷ ys)) ts) → AllGood d → s.minify ≡ c.minify →
    Good (Whole Seq nt.Expression) (derived_parse d End)
unfolding ending_listed AllGood derived_parse
params_seq c x y ys (both d e) (o, q) m =
    let v = covered_at nt.PatternElement no_rest c x.node.value d o m in
    let k = params_on c y ys e q m in
    subst (λ w. Good (Whole Seq nt.Expression) w) (sym (v.is (derived_parse e End) ∙ ap (Node v.variant v.inside) k.is)) (listed_first v.operand k.good)

-- ---- what is read in the place of parameters, and turns out to be them at `=>`

record Turned (f : ParseTree → ParseTree) : Type 0 where
  variant : Variant
  inside : ParseTree
  operand : Operand nt.LeftHandSideExpression variant inside
  is : (rest : ParseTree) → f (Read same_line rest) ≡ turned variant inside same_line rest
  heads : Heads (λ u. begins_none (class u) ≡ false) inside

-- what begins with `(`
parenthesis_heads : (p : ParseTree) → Heads (λ u. begins_none (class u) ≡ false) (Read (punctuator (codes "(")) p)
unfolding tokens_of punctuator
parenthesis_heads p = λ us. (_, tokens_of p us, refl, refl)

name_heads : (text : List ℕ) (p : ParseTree) → class (tokens.name text) ≡ NameToken → p ≡ Read (tokens.name text) End → Heads (λ u. begins_none (class u) ≡ false) p
unfolding tokens_of
name_heads text p k e = λ us. (tokens.name text, us, ap (λ z. tokens_of z us) e, ap begins_none k)

-- a name alone needs no parentheses
lone_in : {s : Settings} (called : Bool) (c : Parameters) (y : AnyNode-F AnyNode) {ts : List Token} (d : Derives core s (node_form called c y Pattern) ts) → is_never (node_phrase phrase y PlainParameter) ≡ false →
    PlacedGood (is_inlined Pattern y) (s.minify ≡ c.minify → Fit c (node_variant y Pattern) (cover (node_nonterminal called c y Pattern)) (derived_parse d End)) (AllGood d) → s.minify ≡ c.minify →
    Turned (placed (is_inlined Pattern y) (node_variant y Pattern) (derived_parse d))
unfolding node_phrase expr_part plain_parameter is_never node_form part_form pat_form node_nonterminal part_nonterminal pat_nonterminal node_variant part_variant pat_variant PlacedGood placed is_inlined is_inlined_pattern is_inlined_pat same_line stmt_part_form jsx_part_form
lone_in called c (nodes.ExprPart (expr_parts.Pat (pats.Ident n))) d h o m =
    record { variant = Ident; inside = derived_parse d End; operand = in_place (takes_self nt.LeftHandSideExpression) (o m); is = λ rest. refl; heads = name_heads _ _ (binding_free c n d) (binding_read c n d End) }
lone_in called c (nodes.ExprPart (expr_parts.Pat n)) d h o m = absurd (true≢false h)
lone_in called c (nodes.StmtPart (stmt_parts.Function n)) d h o m = absurd (no_form d)
lone_in called c (nodes.JSXPart (jsx_parts.JSXElement n)) d h o m = absurd (no_form d)
lone_in called c y d h o m = absurd (no_form d)

one_read : {f : ParseTree → ParseTree} → LastPart f → Turned (λ rest. Optional (punctuator (codes "(")) (f (Optional (punctuator (codes ")")) rest)))
unfolding same_line
one_read (an_element v) = record {
  variant = Paren;
  inside = Read (punctuator (codes "(")) (Node v.variant v.inside (Read (punctuator (codes ")")) End));
  operand = widened left_taken (one_parameter v.operand);
  is = λ rest. ap (Optional (punctuator (codes "("))) (v.is (Optional (punctuator (codes ")")) (Read same_line rest))) ∙ one_turned rest v.operand;
  heads = parenthesis_heads _;
}
one_read (a_rest v) = record {
  variant = Paren;
  inside = Read (punctuator (codes "(")) (Read (punctuator (codes "...")) (Node v.covered.variant v.covered.inside (Read (punctuator (codes ")")) End)));
  operand = widened left_taken (rest_parameter (widened left_assigned v.covered.operand));
  is = λ rest. ap (Optional (punctuator (codes "("))) (v.is _ ∙ ap (Read (punctuator (codes "..."))) (v.covered.is _));
  heads = parenthesis_heads _;
}

params_read : {s : Settings} (typed : Bool) (c : Parameters) (ns : List (PatBox AnyNode)) {ts : List Token} → typed ≡ false → (d : Derives core s (arrow_params_form c typed ns) ts) → AllGood d → s.minify ≡ c.minify → Turned (derived_parse d)
unfolding arrow_params_form ending_listed AllGood derived_parse read_phrase same_line
params_read true c ns t d o m = absurd (true≢false t)
params_read false c [] t (both (fixed g) (both (fixed h) (fixed k))) o m =
    record { variant = Paren; inside = Read (punctuator (codes "(")) (Read (punctuator (codes ")")) End); operand = widened left_taken no_parameters; is = λ rest. refl; heads = parenthesis_heads _ }
params_read false c (n ∷ []) t (lone h (part called st d)) o m =
    let v = lone_in called c (out-AnyNode n.node.value) d (ap is_never (sym (phrase_at n.node.value PlainParameter)) ∙ h) o m in
    record { variant = v.variant; inside = v.inside; operand = v.operand; is = v.is; heads = v.heads }
params_read false c (n ∷ []) t (lone_in_parentheses d) o m =
    let v = one_read (last_at c n.node.value d o m) in
    record { variant = v.variant; inside = v.inside; operand = v.operand; is = v.is; heads = v.heads }
params_read false c (x ∷ y ∷ ys) t (both (fixed g) (both d (fixed h))) (z, (o, w)) m = record {
  variant = Paren;
  inside = Read (punctuator (codes "(")) (Node Seq (derived_parse d End) (Read (punctuator (codes ")")) End));
  operand = widened left_taken (several_parameters (params_seq c x y ys d o m));
  is = λ rest. ap (Read (punctuator (codes "("))) (sym (derived_joined d End (Read (punctuator (codes ")")) (Read same_line rest))));
  heads = parenthesis_heads _;
}

-- ---- the rest of it

no_params_types : {s : Settings} (c : Parameters) (o : Option (TsTypeParamDeclBox AnyNode)) {ts : List Token} (d : Derives core s (type_params_form c o) ts) (rest : ParseTree) → derived_parse d rest ≡ rest
unfolding type_params_form is_met derived_parse read_phrase
no_params_types c None (fixed g) rest = refl
no_params_types c (Some n) (provided h d) rest = absurd (true≢false (sym h))

untyped : {s : Settings} (c : Parameters) (o : Option (TsTypeParamDeclBox AnyNode)) (p : Option (TsTypeAnnBox AnyNode)) {ts us : List Token} → Derives core s (type_params_form c o) ts → Derives core s (annotation_form c p) us →
    (is_some o || is_some p) ≡ false
unfolding type_params_form annotation_form is_met
untyped c None None d e = refl
untyped c None (Some n) d (provided h e) = absurd (true≢false (sym h))
untyped c (Some n) p (provided h d) e = absurd (true≢false (sym h))

no_star : {s : Settings} (b : Bool) {ts : List Token} (d : Derives core s (Provided ByRule (not b) (Fixed (word_if b (mark (codes "*"))))) ts) (rest : ParseTree) → derived_parse d rest ≡ rest
unfolding word_if is_met derived_parse read_phrase
no_star true (provided h d) rest = absurd (true≢false (sym h))
no_star false (provided h (fixed g)) rest = refl

-- a value, or a block
body_read : {s : Settings} (c : Parameters) (is_async : Bool) (n : BlockStmtOrExpr AnyNode) {ts : List Token} (d : Derives core s (arrow_body_form c is_async n) ts) → AllGood d → s.minify ≡ c.minify →
    Good (Rest ArrowBody Arrow nt.AssignmentExpression) (derived_parse d End)
unfolding arrow_body_form is_met AllGood PlacedGood derived_parse placed is_inlined tokens_of
body_read c is_async (bodies.Expr n) (restricted {ts = ts} h (part b sb d)) o m =
    let v = at_place _ _ sb (o m) in
    arrow_value v (may_be_value (derived_parse d End) ts (λ us. tokens_before d End us) (operand_heads v.good (or_left _ _ (takes_on nt.Expression nt.AssignmentExpression v.of assignment_taken v.taken))) (not_excluded _ h))
body_read c is_async (bodies.BlockStmt n) (part b sb d) o m =
    let v = o m in
    subst (λ z. Good (Rest ArrowBody Arrow nt.AssignmentExpression) z) (sym (v.is End)) (arrow_block (v.good (InList Arrow) refl Arrow nt.AssignmentExpression End (ended Arrow nt.AssignmentExpression)))

-- parameters, `=>` and a body, which an operand is turned to
record Shaped (m : ParseTree) : Type 0 where
  variant : Variant
  inside : ParseTree
  operand : Operand nt.LeftHandSideExpression variant inside
  heads : Heads (λ u. begins_none (class u) ≡ false) inside
  body : ParseTree
  good : Good (Rest ArrowBody Arrow nt.AssignmentExpression) body
  is : m ≡ turned variant inside same_line (Read arrow_mark body)

shaped : {s : Settings} (b : Bool) (c : Parameters) (n : ArrowExpr AnyNode) {ts us vs ws xs : List Token} (star : Derives core s (Provided ByRule (not n.is_generator) (Fixed (word_if n.is_generator (mark (codes "*"))))) ts)
    (types : Derives core s (type_params_form c n.type_params) us) (params : Derives core s (arrow_params_form (of_arrow_parameters b c) (is_typed_arrow n) n.params.items) vs)
    (annotation : Derives core s (annotation_form c n.return_type) ws) (body : Derives core s (arrow_body_form c b n.body) xs) → AllGood params → AllGood body → s.minify ≡ c.minify →
    Shaped (derived_parse star (derived_parse types (derived_parse params (derived_parse annotation (Read same_line (Read arrow_mark (derived_parse body End)))))))
shaped b c n star types params annotation body o q m =
    let p = params_read (is_typed_arrow n) (of_arrow_parameters b c) n.params.items (untyped c n.type_params n.return_type types annotation) params o m in
    let rest = Read same_line (Read arrow_mark (derived_parse body End)) in
    record {
      variant = p.variant;
      inside = p.inside;
      operand = p.operand;
      heads = p.heads;
      body = derived_parse body End;
      good = body_read c b n.body body q m;
      is =
          no_star n.is_generator star (derived_parse types (derived_parse params (derived_parse annotation rest)))
          ∙ no_params_types c n.type_params types (derived_parse params (derived_parse annotation rest))
          ∙ ap (derived_parse params) (no_annotation c n.return_type annotation rest)
          ∙ p.is (Read arrow_mark (derived_parse body End));
    }

arrow_by : {s : Settings} (b : Bool) (c : Parameters) (n : ArrowExpr AnyNode) {ts : List Token} →
    (d : Derives core s (async_form b (Provided ByRule (not n.is_generator) (Fixed (word_if n.is_generator (mark (codes "*")))) ⇢ type_params_form c n.type_params
    ⇢ arrow_params_form (of_arrow_parameters b c) (is_typed_arrow n) n.params.items ⇢ annotation_form c n.return_type ⇢ Fixed phrases.same_line ⇢ Fixed (mark (codes "=>")) ⇢ arrow_body_form c b n.body)) ts) →
    AllGood d → s.minify ≡ c.minify → Good (Whole Arrow nt.AssignmentExpression) (derived_parse d End)
unfolding async_form AllGood derived_parse read_phrase
arrow_by true c n (both (fixed a) (both (fixed l) (both star (both types (both params (both annotation (both (fixed g) (both (fixed h) body)))))))) (y, (z, (u, (v, (o, (w, (x, (k, q)))))))) m =
    let r = shaped true c n star types params annotation body o q m in
    async_arrow r.operand r.heads r.good r.is
arrow_by false c n (both star (both types (both params (both annotation (both (fixed g) (both (fixed h) body)))))) (u, (v, (o, (w, (x, (k, q)))))) m =
    let r = shaped false c n star types params annotation body o q m in
    arrow r.operand r.good r.is

pub arrow_good : {s : Settings} (c : Parameters) (n : ArrowExpr AnyNode) {ts : List Token} (d : Derives core s (arrow_form c n) ts) → AllGood d → s.minify ≡ c.minify → Good (Whole Arrow nt.AssignmentExpression) (derived_parse d End)
unfolding arrow_form
arrow_good c n d o m = arrow_by n.is_async c n d o m

-- no `in` takes what an arrow function begins with
arrow_free_by : {s : Settings} (b : Bool) (c : Parameters) (n : ArrowExpr AnyNode) {ts : List Token} →
    (d : Derives core s (async_form b (Provided ByRule (not n.is_generator) (Fixed (word_if n.is_generator (mark (codes "*")))) ⇢ type_params_form c n.type_params
    ⇢ arrow_params_form (of_arrow_parameters b c) (is_typed_arrow n) n.params.items ⇢ annotation_form c n.return_type ⇢ Fixed phrases.same_line ⇢ Fixed (mark (codes "=>")) ⇢ arrow_body_form c b n.body)) ts) →
    AllGood d → s.minify ≡ c.minify → spine_free (derived_parse d End) ≡ true
unfolding async_form AllGood derived_parse read_phrase same_line
arrow_free_by true c n (both (fixed a) d) o m = refl
arrow_free_by false c n (both star (both types (both params (both annotation (both (fixed g) (both (fixed h) body)))))) (u, (v, (o, (w, (x, (k, q)))))) m =
    let r = shaped false c n star types params annotation body o q m in
    ap spine_free r.is ∙ turned_low same_line (Read arrow_mark r.body) r.operand.good (or_left _ _ (takes_on nt.ShiftExpression nt.LeftHandSideExpression r.operand.of shift_left r.operand.taken)) refl

pub arrow_free : {s : Settings} (c : Parameters) (n : ArrowExpr AnyNode) {ts : List Token} (d : Derives core s (arrow_form c n) ts) → AllGood d → s.minify ≡ c.minify → spine_free (derived_parse d End) ≡ true
unfolding arrow_form
arrow_free c n d o m = arrow_free_by n.is_async c n d o m
