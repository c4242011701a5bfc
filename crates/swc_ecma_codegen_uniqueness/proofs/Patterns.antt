-- Patterns are read as the expressions that cover them.
use Rattle.std.proofs.Common.{◌≡◌, Bool, true, false, List, [], ◌∷◌, Option, Some, None, refl, sym, ap, ◌∙◌, subst}
use Rattle.std.specs.Prelude.{codes}
use Rattle.std.proofs.lemmas.Bool.{true≢false}
use Rattle.swc_ecma_codegen_tree.specs.Links.{ExprBox, PatBox}
use Rattle.swc_ecma_codegen_tree.specs.declared.links.AnyNode.{AnyNode, AnyNode-F, out-AnyNode}
use Rattle.swc_ecma_codegen_tree.specs.declared.links.AnyNode.TheOpen as nodes
use Rattle.swc_ecma_codegen_tree.specs.declared.parts.ExprPart.TheVariants as expr_parts
use Rattle.swc_ecma_codegen_tree.specs.declared.pats.Pat.{Pat}
use Rattle.swc_ecma_codegen_tree.specs.declared.pats.Pat.TheVariants as pats
use Rattle.swc_ecma_codegen_tree.specs.declared.pats.ArrayPat.{ArrayPat}
use Rattle.swc_ecma_codegen_tree.specs.declared.pats.ObjectPat.{ObjectPat}
use Rattle.swc_ecma_codegen_tree.specs.declared.pats.RestPat.{RestPat}
use Rattle.swc_ecma_codegen_tree.specs.declared.pats.ObjectPatProp.{ObjectPatProp}
use Rattle.swc_ecma_codegen_tree.specs.declared.pats.ObjectPatProp.TheVariants as pat_props
use Rattle.swc_ecma_codegen_tree.specs.declared.pats.AssignTarget.{AssignTarget}
use Rattle.swc_ecma_codegen_tree.specs.declared.pats.AssignTarget.TheVariants as targets
use Rattle.swc_ecma_codegen_tree.specs.declared.pats.AssignTargetPat.TheVariants as target_pats
use Rattle.swc_ecma_codegen_grammar.specs.AnnotationPhrases.{question}
use Rattle.swc_ecma_codegen_grammar.specs.ElementPhrases.{last_is_hole}
use Rattle.swc_ecma_codegen_grammar.specs.Phrases.{RightBracket, RightBrace, closing_mark}
use Rattle.swc_ecma_codegen_grammar.specs.Settings.{Settings}
use Rattle.swc_ecma_codegen_grammar.specs.Tokens.{Token, punctuator}
use Rattle.swc_ecma_codegen_grammar.specs.declared.roles.Role.TheVariants.{Pattern}
use Rattle.swc_ecma_codegen_syntax.specs.declared.nonterminals.Nonterminal.{Nonterminal}
use Rattle.swc_ecma_codegen_syntax.specs.declared.nonterminals.Nonterminal.TheVariants as nt
use Rattle.swc_ecma_codegen_syntax.specs.declared.parameters.Parameters.{Parameters}
use Rattle.swc_ecma_codegen_syntax.specs.Nonterminals.{takes, is_pattern_target, is_pattern_element, is_pattern_name}
use Rattle.swc_ecma_codegen_syntax.specs.Parameters.{of_targets}
use Rattle.swc_ecma_codegen_syntax.specs.Forms.{Part, is_met}
use Rattle.swc_ecma_codegen_syntax.specs.PatForms.{pat_part, initializer_form, question_form, last_place, pat_element_form, pat_elements_after, pat_elements_form, closing_form, elements_end_form, array_pat_form, rest_form, assign_pat_form, key_value_pat_form, assign_pat_prop_form, pat_prop_form, pat_props_after, pat_props_form, object_pat_form, pat_form, pat_nonterminal}
use Rattle.swc_ecma_codegen_syntax.specs.TargetForms.{target_pat_form, target_form}
use Rattle.swc_ecma_codegen_syntax.specs.NodeForms.{node_form, node_nonterminal, part_form, part_nonterminal}
use Rattle.swc_ecma_codegen_syntax.specs.Derives.{Derives, fixed, part, simple, both, provided, closed, comma_closed}
use Rattle.swc_ecma_codegen_syntax.specs.Verdicts.{core}
use Rattle.swc_ecma_codegen_uniqueness.specs.ParseTrees.{Variant, ParseTree, End, Read, Optional, Node, Array, Object, Assign, pat_variant, target_pat_variant, target_variant, node_variant}
use Rattle.swc_ecma_codegen_uniqueness.specs.Parses.{placed, is_inlined, is_inlined_pattern, is_inlined_pat}
use Rattle.swc_ecma_codegen_uniqueness.proofs.Controls.{AfterKey}
use Rattle.swc_ecma_codegen_uniqueness.proofs.TableLaws.{cover, cover_taken}
use Rattle.swc_ecma_codegen_uniqueness.proofs.Machine.{Whole, Good}
use Rattle.swc_ecma_codegen_uniqueness.proofs.Shapes.{Operand, object_key, widened, raised_to, left_taken, left_shared, left_assigned, assigned, InElements, BehindElement, BehindHole, element_then, spread_element, elements_comma_closed, no_elements, array, InObject, InProperties, property_place, OnProperty, properties_closed, properties_comma_closed, property_next, no_properties, object, value_then, initializer_then, spread_property}
use Rattle.swc_ecma_codegen_uniqueness.proofs.Reading.{read_phrase, derived_parse}
use Rattle.swc_ecma_codegen_uniqueness.proofs.Fits.{Fit, in_place, taken_at, at_place, PlacedGood, AllGood}
use Rattle.swc_ecma_codegen_uniqueness.proofs.Atoms.{no_annotation, binding_read, binding_good, simple_target_good}
use Rattle.swc_ecma_codegen_uniqueness.proofs.Lists.{BehindLast, BehindAll, behind_comma, hole_closed, element_closed}
use Rattle.swc_ecma_codegen_uniqueness.proofs.Keys.{key_good, named_then}
use Rattle.swc_ecma_codegen_uniqueness.proofs.Classes.{Plain}

-- ---- the expression that covers a pattern

pub record Covered (place : Nonterminal) (f : ParseTree → ParseTree) : Type 0 where
  pub variant : Variant
  pub inside : ParseTree
  pub is : (rest : ParseTree) → f rest ≡ Node variant inside rest
  pub operand : Operand (cover place) variant inside

-- one that is assigned to
pub covered_expr : {s : Settings} (place : Nonterminal) (comma : Bool) (c : Parameters) (n : ExprBox AnyNode) {ts : List Token} (d : Derives core s (pat_form comma c (pats.Expr n)) ts) → AllGood d → s.minify ≡ c.minify →
    takes place nt.PatternName ≡ true → Covered place (derived_parse d)
unfolding pat_form AllGood PlacedGood derived_parse placed is_inlined
covered_expr place comma c n (provided h (simple k (part b sb d))) o m t =
    record { variant = _; inside = derived_parse d End; is = λ rest. refl; operand = widened (cover_taken place nt.PatternName t) (at_place _ _ sb (o m)) }

covered_in : {s : Settings} (place : Nonterminal) → takes place nt.RestElement ≡ false → (called : Bool) (c : Parameters) (y : AnyNode-F AnyNode) {ts : List Token} (d : Derives core s (node_form called c y Pattern) ts) →
    PlacedGood (is_inlined Pattern y) (s.minify ≡ c.minify → Fit c (node_variant y Pattern) (cover (node_nonterminal called c y Pattern)) (derived_parse d End)) (AllGood d) → s.minify ≡ c.minify →
    takes place (node_nonterminal called c y Pattern) ≡ true → Covered place (placed (is_inlined Pattern y) (node_variant y Pattern) (derived_parse d))
unfolding node_form node_nonterminal part_form part_nonterminal pat_nonterminal PlacedGood placed is_inlined is_inlined_pattern is_inlined_pat
covered_in place r called c (nodes.ExprPart (expr_parts.Pat (pats.Expr n))) d o m t =
    let v = covered_expr place called c n d o m t in
    record { variant = v.variant; inside = v.inside; is = v.is; operand = v.operand }
covered_in place r called c (nodes.ExprPart (expr_parts.Pat (pats.Rest n))) d o m t = absurd (true≢false (sym t ∙ r))
covered_in place r called c (nodes.ExprPart (expr_parts.Pat n)) d o m t = record { variant = _; inside = derived_parse d End; is = λ rest. refl; operand = in_place (cover_taken place _ t) (o m) }
covered_in place r called c y d o m t = record { variant = _; inside = derived_parse d End; is = λ rest. refl; operand = in_place (cover_taken place _ t) (o m) }

pub covered_at : {s : Settings} (place : Nonterminal) → takes place nt.RestElement ≡ false → (c : Parameters) (x : AnyNode) {ts : List Token} (d : Derives core s (Part place c Pattern x) ts) → AllGood d → s.minify ≡ c.minify → Covered place (derived_parse d)
unfolding AllGood derived_parse
covered_at place r c x (part called st d) o m =
    let v = covered_in place r called c (out-AnyNode x) d o m (taken_at place _ st) in
    record { variant = v.variant; inside = v.inside; is = v.is; operand = v.operand }

-- a rest, behind `...`
pub record Spread (place : Nonterminal) (f : ParseTree → ParseTree) : Type 0 where
  pub behind : ParseTree → ParseTree
  pub covered : Covered place behind
  pub is : (rest : ParseTree) → f rest ≡ Read (punctuator (codes "...")) (behind rest)

pub rest_covered : {s : Settings} (place : Nonterminal) → takes place nt.RestElement ≡ false → (c : Parameters) (n : RestPat AnyNode) {ts : List Token} (d : Derives core s (rest_form place c n) ts) → AllGood d → s.minify ≡ c.minify →
    Spread place (derived_parse d)
unfolding rest_form AllGood derived_parse read_phrase
rest_covered place r c n (both (fixed g) (both d e)) (x, (o, y)) m = record {
  behind = derived_parse d;
  covered = covered_at place r c n.arg.node.value d o m;
  is = λ rest. ap (λ z. Read (punctuator (codes "...")) (derived_parse d z)) (no_annotation c n.type_ann e rest);
}

-- what stands last: an element or a rest
pub data LastPart (f : ParseTree → ParseTree) : Type 0 where
  an_element : Covered nt.LastElement f → LastPart f
  a_rest : Spread nt.PatternTarget f → LastPart f

last_in : {s : Settings} (called : Bool) (c : Parameters) (y : AnyNode-F AnyNode) {ts : List Token} (d : Derives core s (node_form called c y Pattern) ts) →
    PlacedGood (is_inlined Pattern y) (s.minify ≡ c.minify → Fit c (node_variant y Pattern) (cover (node_nonterminal called c y Pattern)) (derived_parse d End)) (AllGood d) → s.minify ≡ c.minify →
    takes nt.LastElement (node_nonterminal called c y Pattern) ≡ true → LastPart (placed (is_inlined Pattern y) (node_variant y Pattern) (derived_parse d))
unfolding node_form node_nonterminal part_form part_nonterminal pat_form pat_nonterminal PlacedGood placed is_inlined is_inlined_pattern is_inlined_pat takes is_pattern_target
last_in called c (nodes.ExprPart (expr_parts.Pat (pats.Expr n))) d o m t =
    let v = covered_expr nt.LastElement called c n d o m t in
    an_element (record { variant = v.variant; inside = v.inside; is = v.is; operand = v.operand })
last_in called c (nodes.ExprPart (expr_parts.Pat (pats.Rest n))) d o m t =
    let v = rest_covered nt.PatternTarget refl c n d o m in
    a_rest (record { behind = v.behind; covered = v.covered; is = v.is })
last_in called c (nodes.ExprPart (expr_parts.Pat n)) d o m t = an_element (record { variant = _; inside = derived_parse d End; is = λ rest. refl; operand = in_place (cover_taken nt.LastElement _ t) (o m) })
last_in called c y d o m t = an_element (record { variant = _; inside = derived_parse d End; is = λ rest. refl; operand = in_place (cover_taken nt.LastElement _ t) (o m) })

pub last_at : {s : Settings} (c : Parameters) (x : AnyNode) {ts : List Token} (d : Derives core s (Part nt.LastElement c Pattern x) ts) → AllGood d → s.minify ≡ c.minify → LastPart (derived_parse d)
unfolding AllGood derived_parse
last_at c x (part called st d) o m = last_in called c (out-AnyNode x) d o m (taken_at nt.LastElement _ st)

pub no_rest : takes nt.PatternElement nt.RestElement ≡ false
unfolding takes is_pattern_element is_pattern_target
no_rest = refl

-- ---- elements

element_good : {s : Settings} (b : Bool) (c : Parameters) (x : PatBox AnyNode) {ts : List Token} (d : Derives core s (pat_part nt.PatternElement c x) ts) → AllGood d → s.minify ≡ c.minify → (rest : ParseTree) → BehindElement rest → InElements b (derived_parse d rest)
element_good b c x d o m rest behind =
    let v = covered_at nt.PatternElement no_rest c x.node.value d o m in
    subst (λ z. InElements b z) (sym (v.is rest)) (element_then b v.operand behind)

last_read : (b : Bool) {f : ParseTree → ParseTree} → LastPart f → (rest : ParseTree) → BehindElement rest → InElements b (f rest)
last_read b (an_element v) rest behind = subst (λ z. InElements b z) (sym (v.is rest)) (element_then b v.operand behind)
last_read b (a_rest v) rest behind =
    subst (λ z. InElements b z) (sym (v.is rest ∙ ap (Read (punctuator (codes "..."))) (v.covered.is rest)))
    (spread_element b (λ k. element_then k (widened left_assigned v.covered.operand) behind))

last_good : {s : Settings} (comma b : Bool) (c : Parameters) (x : PatBox AnyNode) {ts : List Token} (d : Derives core s (pat_part (last_place comma) c x) ts) → AllGood d → s.minify ≡ c.minify → (rest : ParseTree) → BehindElement rest → InElements b (derived_parse d rest)
last_good true b c x d o m rest behind = element_good b c x d o m rest behind
last_good false b c x d o m rest behind = last_read b (last_at c x.node.value d o m) rest behind

after_good : {s : Settings} (comma : Bool) (c : Parameters) (y : Option (PatBox AnyNode)) (ys : List (Option (PatBox AnyNode))) {ts : List Token} (d : Derives core s (pat_elements_after comma c (y ∷ ys)) ts) → AllGood d → s.minify ≡ c.minify →
    (rest : ParseTree) → BehindLast (last_is_hole (y ∷ ys)) rest → BehindElement (derived_parse d rest) × BehindHole (derived_parse d rest)
unfolding pat_elements_after pat_element_form last_is_hole AllGood derived_parse read_phrase
after_good comma c None [] (both (fixed g) (both (fixed h) (fixed k))) o m rest behind = behind_comma behind
after_good comma c (Some x) [] (both (fixed g) (both d (fixed k))) (y, (o, z)) m rest behind = behind_comma (λ b. last_good comma b c x d o m rest behind)
after_good comma c None (z ∷ zs) (both (fixed g) (both (fixed h) e)) (y, (p, q)) m rest behind = behind_comma (after_good comma c z zs e q m rest behind).1
after_good comma c (Some x) (z ∷ zs) (both (fixed g) (both d e)) (y, (o, q)) m rest behind = behind_comma (λ b. element_good b c x d o m _ (after_good comma c z zs e q m rest behind).0)

elements_good : {s : Settings} (comma : Bool) (c : Parameters) (xs : List (Option (PatBox AnyNode))) {ts : List Token} (d : Derives core s (pat_elements_form comma c xs) ts) → AllGood d → s.minify ≡ c.minify → (rest : ParseTree) → BehindAll xs rest →
    InElements false (derived_parse d rest)
unfolding pat_elements_form pat_element_form last_is_hole AllGood derived_parse read_phrase
elements_good comma c [] (fixed g) o m rest behind = behind
elements_good comma c (None ∷ []) (both (fixed g) (fixed h)) o m rest behind = behind false
elements_good comma c (Some x ∷ []) (both d (fixed h)) (o, y) m rest behind = last_good comma false c x d o m rest behind
elements_good comma c (None ∷ y ∷ ys) (both (fixed g) e) (x, q) m rest behind = (after_good comma c y ys e q m rest behind).1 false
elements_good comma c (Some x ∷ y ∷ ys) (both d e) (o, q) m rest behind = element_good false c x d o m _ (after_good comma c y ys e q m rest behind).0

closing_good : {s : Settings} (comma : Bool) (xs : List (Option (PatBox AnyNode))) {ts : List Token} → last_is_hole xs ≡ false → (d : Derives core s (closing_form comma RightBracket xs) ts) → BehindAll xs (derived_parse d End)
unfolding closing_form closing_mark derived_parse read_phrase punctuator
closing_good comma [] h (fixed g) = no_elements
closing_good comma (x ∷ xs) h closed = element_closed (x ∷ xs) h
closing_good comma (x ∷ xs) h comma_closed = subst (λ z. BehindLast z (Optional (punctuator (codes ",")) (Read (punctuator (codes "]")) End))) (sym h) elements_comma_closed

end_good : {s : Settings} (comma hole : Bool) (xs : List (Option (PatBox AnyNode))) {ts : List Token} → last_is_hole xs ≡ hole → (d : Derives core s (elements_end_form comma hole xs) ts) → BehindAll xs (derived_parse d End)
unfolding elements_end_form derived_parse read_phrase
end_good comma true xs h (both (fixed g) (fixed k)) = hole_closed xs h
end_good comma false xs h d = closing_good comma xs h d

no_question : {s : Settings} (b : Bool) {ts : List Token} (d : Derives core s (question_form b) ts) (rest : ParseTree) → derived_parse d rest ≡ rest
unfolding question_form question is_met derived_parse read_phrase
no_question true (provided h d) rest = absurd (true≢false (sym h))
no_question false (provided h (fixed g)) rest = refl

pub array_pat_good : {s : Settings} (comma : Bool) (c : Parameters) (n : ArrayPat AnyNode) {ts : List Token} (d : Derives core s (array_pat_form comma c n) ts) → AllGood d → s.minify ≡ c.minify → Good (Whole Array nt.LeftHandSideExpression) (derived_parse d End)
unfolding array_pat_form AllGood derived_parse read_phrase
array_pat_good comma c n (both (fixed g) (both d (both e (both q t)))) (x, (o, y)) m =
    subst (λ z. Good (Whole Array nt.LeftHandSideExpression) (Read (punctuator (codes "[")) (derived_parse d (derived_parse e z)))) (sym (no_question n.optional q (derived_parse t End) ∙ no_annotation c n.type_ann t End))
    (raised_to nt.LeftHandSideExpression nt.PrimaryExpression left_taken left_shared refl (array (elements_good comma c n.elems.items d o m (derived_parse e End) (end_good comma (last_is_hole n.elems.items) n.elems.items refl e))))

-- ---- properties

initializer_good : {s : Settings} (c : Parameters) (o : Option (ExprBox AnyNode)) {ts : List Token} (d : Derives core s (initializer_form c o) ts) → AllGood d → s.minify ≡ c.minify → (rest : ParseTree) → OnProperty rest →
    InObject AfterKey (derived_parse d rest)
unfolding initializer_form AllGood PlacedGood derived_parse read_phrase placed is_inlined
initializer_good c None (fixed g) o m rest on = on.0
initializer_good c (Some n) (both (fixed g) (part a sa d)) (x, o) m rest on = initializer_then (at_place _ _ sa (o m)) on

no_rest_name : takes nt.PatternName nt.RestElement ≡ false
unfolding takes is_pattern_name
no_rest_name = refl

prop_good : {s : Settings} (last b : Bool) (c : Parameters) (n : ObjectPatProp AnyNode) {ts : List Token} (d : Derives core s (pat_prop_form last c n) ts) → AllGood d → s.minify ≡ c.minify → (rest : ParseTree) → OnProperty rest → InProperties b (derived_parse d rest)
unfolding pat_prop_form key_value_pat_form assign_pat_prop_form AllGood derived_parse read_phrase
prop_good last b c (pat_props.KeyValue n) (both d (both (fixed g) e)) (o, (x, q)) m rest on =
    let v = covered_at nt.PatternElement no_rest c n.value.node.value e q m in
    key_good (object_key (property_place b)) c n.key d o m _ (subst (λ z. InObject AfterKey (Read (punctuator (codes ":")) z)) (sym (v.is rest)) (value_then v.operand on))
prop_good last b c (pat_props.Assign n) (both d e) (o, q) m rest on =
    subst (λ z. InProperties b z) (sym (binding_read c n.key d (derived_parse e rest))) (named_then b _ (initializer_good c n.value e q m rest on))
prop_good last b c (pat_props.Rest n) (provided h d) o m rest on =
    let v = rest_covered nt.PatternName no_rest_name c n d o m in
    subst (λ z. InProperties b z) (sym (v.is rest ∙ ap (Read (punctuator (codes "..."))) (v.covered.is rest))) (spread_property b (widened left_assigned v.covered.operand) on)

props_after : {s : Settings} (comma : Bool) (c : Parameters) (xs : List (ObjectPatProp AnyNode)) {ts : List Token} (d : Derives core s (pat_props_after comma c xs) ts) → AllGood d → s.minify ≡ c.minify → (rest : ParseTree) → OnProperty rest →
    OnProperty (derived_parse d rest)
unfolding pat_props_after AllGood derived_parse read_phrase
props_after comma c [] (fixed g) o m rest on = on
props_after comma c (x ∷ []) (both (fixed g) (both d (fixed h))) (y, (o, z)) m rest on = property_next (prop_good _ true c x d o m rest on)
props_after comma c (x ∷ y ∷ xs) (both (fixed g) (both d e)) (z, (o, q)) m rest on = property_next (prop_good _ true c x d o m (derived_parse e rest) (props_after comma c (y ∷ xs) e q m rest on))

-- what comes behind all properties, of which there may be none
abbrev BehindProperties : {A : Type 0} → List A → ParseTree → Type 0
BehindProperties [] m = InProperties false m
BehindProperties (x ∷ xs) m = OnProperty m

props_good : {s : Settings} (comma : Bool) (c : Parameters) (xs : List (ObjectPatProp AnyNode)) {ts : List Token} (d : Derives core s (pat_props_form comma c xs) ts) → AllGood d → s.minify ≡ c.minify → (rest : ParseTree) → BehindProperties xs rest →
    InProperties false (derived_parse d rest)
unfolding pat_props_form AllGood derived_parse read_phrase
props_good comma c [] (fixed g) o m rest on = on
props_good comma c (x ∷ []) (both d (fixed h)) (o, y) m rest on = prop_good _ false c x d o m rest on
props_good comma c (x ∷ y ∷ xs) (both d e) (o, q) m rest on = prop_good _ false c x d o m (derived_parse e rest) (props_after comma c (y ∷ xs) e q m rest on)

brace_good : {s : Settings} (comma : Bool) (xs : List (ObjectPatProp AnyNode)) {ts : List Token} (d : Derives core s (closing_form comma RightBrace xs) ts) → BehindProperties xs (derived_parse d End)
unfolding closing_form closing_mark derived_parse read_phrase punctuator
brace_good comma [] (fixed g) = no_properties
brace_good comma (x ∷ xs) closed = properties_closed
brace_good comma (x ∷ xs) comma_closed = properties_comma_closed

pub object_pat_good : {s : Settings} (comma : Bool) (c : Parameters) (n : ObjectPat AnyNode) {ts : List Token} (d : Derives core s (object_pat_form comma c n) ts) → AllGood d → s.minify ≡ c.minify → Good (Whole Object nt.LeftHandSideExpression) (derived_parse d End)
unfolding object_pat_form AllGood derived_parse read_phrase
object_pat_good comma c n (both (fixed g) (both d (both e (both q t)))) (x, (o, y)) m =
    subst (λ z. Good (Whole Object nt.LeftHandSideExpression) (Read (punctuator (codes "{")) (derived_parse d (derived_parse e z)))) (sym (no_question n.optional q (derived_parse t End) ∙ no_annotation c n.type_ann t End))
    (raised_to nt.LeftHandSideExpression nt.PrimaryExpression left_taken left_shared refl (object (props_good comma c n.props.items d o m (derived_parse e End) (brace_good comma n.props.items e))))

-- ---- patterns, and what is assigned to

pub no_rest_target : takes nt.PatternTarget nt.RestElement ≡ false
unfolding takes is_pattern_target
no_rest_target = refl

pub pat_good : {s : Settings} (comma : Bool) (c : Parameters) (n : Pat AnyNode) {ts : List Token} (d : Derives core s (pat_form comma c n) ts) → AllGood d → s.minify ≡ c.minify → is_inlined_pat n ≡ false →
    Good (Whole (pat_variant n) (cover (pat_nonterminal n))) (derived_parse d End)
unfolding pat_form assign_pat_form pat_variant pat_nonterminal is_inlined_pat is_met AllGood PlacedGood derived_parse read_phrase placed is_inlined punctuator
pat_good comma c (pats.Ident n) d o m i = binding_good c n d
pat_good comma c (pats.Array n) d o m i = array_pat_good comma c n d o m
pat_good comma c (pats.Object n) d o m i = object_pat_good comma c n d o m
pat_good comma c (pats.Assign n) (both d (both (fixed g) (part a sa e))) (o, (x, q)) m i =
    let v = covered_at nt.PatternTarget no_rest_target c n.left.node.value d o m in
    subst (λ z. Good (Whole Assign nt.AssignmentExpression) z) (sym (v.is _)) (assigned (punctuator (codes "=")) Plain refl v.operand (at_place _ _ sa (q m)))
pat_good comma c (pats.Invalid n) (provided h d) o m i = absurd (true≢false (sym h))
pat_good comma c (pats.Rest n) d o m i = absurd (true≢false i)
pat_good comma c (pats.Expr n) d o m i = absurd (true≢false i)

pub target_good : {s : Settings} (comma : Bool) (c : Parameters) (n : AssignTarget AnyNode) {ts : List Token} (d : Derives core s (target_form comma c n) ts) → AllGood d → s.minify ≡ c.minify → Good (Whole (target_variant n) nt.LeftHandSideExpression) (derived_parse d End)
unfolding target_form target_pat_form target_variant target_pat_variant is_met
target_good comma c (targets.Simple n) d o m = simple_target_good (of_targets c) n d o m
target_good comma c (targets.Pat (target_pats.Array n)) d o m = array_pat_good comma (of_targets c) n d o m
target_good comma c (targets.Pat (target_pats.Object n)) d o m = object_pat_good comma (of_targets c) n d o m
target_good comma c (targets.Pat (target_pats.Invalid n)) (provided h d) o m = absurd (true≢false (sym h))
