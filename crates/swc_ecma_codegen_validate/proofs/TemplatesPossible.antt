-- When templates are well-formed.
use Rattle.std.proofs.Common.{◌≡◌, ℕ, ◌+◌, Bool, true, false, cond, ◌&&◌, List, [], ◌∷◌, ◌++◌, length, refl, ap, ◌∙◌, arith}
use Rattle.std.proofs.lemmas.Bool.{eqb-true}
use Rattle.swc_ecma_codegen_tree.specs.declared.exprs.Tpl.{Tpl}
use Rattle.swc_ecma_codegen_tree.specs.declared.exprs.TplElement.{TplElement}
use Rattle.swc_ecma_codegen_tree.specs.declared.exprs.TaggedTpl.{TaggedTpl}
use Rattle.swc_ecma_codegen_grammar.specs.ElementPhrases.{element}
use Rattle.swc_ecma_codegen_grammar.specs.TypePhrases.{args_at}
use Rattle.swc_ecma_codegen_grammar.specs.LitPhrases.{characters}
use Rattle.swc_ecma_codegen_grammar.specs.Phrases.{Phrase, Never, is_possible, where_}
use Rattle.swc_ecma_codegen_grammar.specs.CallPhrases.{value_at, callee_at}
use Rattle.swc_ecma_codegen_grammar.specs.Templates.{part_end, goes_on_as, is_template, is_template_rest}
use Rattle.swc_ecma_codegen_grammar.specs.TemplatePhrases.{part_kind, part_begin, part_text, part_phrase, part_before, tpl_element, tpl_rest, tpl_parts, is_counted, tpl, tagged_tpl}
use Rattle.swc_ecma_codegen_grammar.specs.Tokens.{has_shape}
use Rattle.swc_ecma_codegen_grammar.specs.declared.kinds.TemplatePart.{TemplatePart}
use Rattle.swc_ecma_codegen_grammar.specs.declared.roles.Role.{Role}
use Rattle.swc_ecma_codegen_grammar.specs.declared.roles.Role.TheVariants.{TaggedTemplate}
use Rattle.swc_ecma_codegen_validate.specs.Possible.{all_possible}
use Rattle.swc_ecma_codegen_validate.specs.TemplateStates.{is_element, all_elements}
use Rattle.swc_ecma_codegen_validate.proofs.Annotations.{args_possible}
use Rattle.swc_ecma_codegen_validate.proofs.Insides.{goes_is}

-- ---- a part

shape_is : (first : Bool) (part : TemplatePart) (cs : List ℕ) → has_shape (part_kind first part) (part_text first part cs) ≡ goes_on_as part (cs ++ part_end part)
unfolding has_shape part_kind part_text part_begin is_template is_template_rest
shape_is true part cs = refl
shape_is false part cs = refl

one_possible : (b : Bool) (p : Phrase) → is_possible p ≡ true → is_possible (where_ b p) ≡ b
unfolding is_possible where_
one_possible true p h = h
one_possible false p h = refl

element_possible : (first : Bool) (part : TemplatePart) (n : TplElement) → is_possible (tpl_element first part n) ≡ is_element part.tagged n
unfolding is_possible tpl_element part_phrase is_element
element_possible first part n = one_possible (has_shape (part_kind first part) (part_text first part (characters n.raw))) _ refl ∙ shape_is first part (characters n.raw) ∙ goes_is part (characters n.raw)

-- ---- the parts, of which there is one more than expressions

swap : (a b c d : Bool) → (a && (b && (c && d))) ≡ ((b && c) && (a && d))
swap true true c d = refl
swap true false c d = refl
swap false true true d = refl
swap false true false d = refl
swap false false c d = refl

rest_possible : {A : Type 0} (f : A → Phrase) (tagged : Bool) (es : List A) (qs : List TplElement) → length qs ≡ length es → is_possible (tpl_rest f tagged es qs) ≡ (all_elements tagged qs && all_possible f es)
unfolding is_possible tpl_rest all_elements all_possible
rest_possible f tagged [] [] h = refl
rest_possible f tagged [] (q ∷ qs) h = absurd (omega (arith, h))
rest_possible f tagged (e ∷ es) [] h = absurd (omega (arith, h))
rest_possible f tagged (e ∷ es) (q ∷ qs) h =
    let more = rest_possible f tagged es qs (omega (arith, h)) in
    ap (λ b. is_possible (f e) && (b && is_possible (tpl_rest f tagged es qs))) (element_possible false (part_before tagged qs) q)
    ∙ ap (λ b. is_possible (f e) && (is_element tagged q && b)) more
    ∙ swap (is_possible (f e)) (is_element tagged q) (all_elements tagged qs) (all_possible f es)

and_assoc : (a b c : Bool) → (a && (b && c)) ≡ ((a && b) && c)
and_assoc true b c = refl
and_assoc false b c = refl

pub parts_possible : {A : Type 0} (f : A → Phrase) (tagged : Bool) (es : List A) (qs : List TplElement) → length qs ≡ length es + 1 → is_possible (tpl_parts f tagged es qs) ≡ (all_elements tagged qs && all_possible f es)
unfolding is_possible tpl_parts all_elements
parts_possible f tagged es [] h = absurd (omega (arith, h))
parts_possible f tagged es (q ∷ qs) h =
    ap (λ b. b && is_possible (tpl_rest f tagged es qs)) (element_possible true (part_before tagged qs) q)
    ∙ ap (λ b. is_element tagged q && b) (rest_possible f tagged es qs (omega (arith, h)))
    ∙ and_assoc (is_element tagged q) (all_elements tagged qs) (all_possible f es)

pub counted : (b : Bool) (p : Phrase) (c : Bool) → (b ≡ true → is_possible p ≡ c) → is_possible (cond b p Never) ≡ (b && c)
unfolding is_possible
counted true p c h = h refl
counted false p c h = refl

pub tpl_possible : {X : Type 0} (f : X → Role → Phrase) (tagged : Bool) (n : Tpl X) → is_possible (tpl f tagged n) ≡ (is_counted n.exprs.items n.quasis.items && (all_elements tagged n.quasis.items && all_possible (value_at f) n.exprs.items))
unfolding tpl
tpl_possible f tagged n =
    counted (is_counted n.exprs.items n.quasis.items) (tpl_parts (value_at f) tagged n.exprs.items n.quasis.items) _ (λ h.
    parts_possible (value_at f) tagged n.exprs.items n.quasis.items (eqb-true (length n.quasis.items) (length n.exprs.items + 1) h))

pub tagged_possible : {X : Type 0} (f : X → Role → Phrase) (n : TaggedTpl X) → is_possible (tagged_tpl f n) ≡ (is_possible (callee_at f n.tag) && (is_possible (element (args_at f) n.type_params) && is_possible (f n.tpl.node.value TaggedTemplate)))
unfolding is_possible tagged_tpl
tagged_possible f n = ap (λ b. is_possible (callee_at f n.tag) && (b && is_possible (f n.tpl.node.value TaggedTemplate))) (args_possible f n.type_params)
