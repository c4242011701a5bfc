-- Templates: one production a node, with nonterminals. ECMA-262, section 13.2.8.
use Rattle.std.specs.Prelude.{Bool, true, false, List, [], ◌∷◌, if◌then◌else◌}
use Rattle.swc_ecma_codegen_tree.specs.declared.exprs.Tpl.{Tpl}
use Rattle.swc_ecma_codegen_tree.specs.declared.exprs.TplElement.{TplElement}
use Rattle.swc_ecma_codegen_grammar.specs.Phrases.{Never, Nothing}
use Rattle.swc_ecma_codegen_grammar.specs.TemplatePhrases.{tpl_element, part_before, is_counted}
use Rattle.swc_ecma_codegen_syntax.specs.declared.nonterminals.Nonterminal.TheVariants as nt
use Rattle.swc_ecma_codegen_syntax.specs.declared.parameters.Parameters.{Parameters}
use Rattle.swc_ecma_codegen_syntax.specs.Parameters.{with_in}
use Rattle.swc_ecma_codegen_syntax.specs.Forms.{Form, Fixed, Provided, ByRule, ◌⇢◌}
use Rattle.swc_ecma_codegen_syntax.specs.MemberForms.{expr_part}

-- a TemplateMiddle or TemplateTail behind each Expression
unfoldable pub tpl_rest_form : {X A : Type 0} → (A → Form X) → Bool → List A → List TplElement → Form X
tpl_rest_form each tagged (e ∷ es) (q ∷ qs) = each e ⇢ Fixed (tpl_element false (part_before tagged qs) q) ⇢ tpl_rest_form each tagged es qs
tpl_rest_form each tagged es qs = Fixed Nothing

unfoldable pub tpl_parts_form : {X A : Type 0} → (A → Form X) → Bool → List A → List TplElement → Form X
tpl_parts_form each tagged es [] = Fixed Never
tpl_parts_form each tagged es (q ∷ qs) = Fixed (tpl_element true (part_before tagged qs) q) ⇢ tpl_rest_form each tagged es qs

-- NoSubstitutionTemplate, or a TemplateHead with Expression[+In] between the parts
unfoldable pub tpl_form : {X : Type 0} → Parameters → Bool → Tpl X → Form X
tpl_form c tagged n =
    if is_counted n.exprs.items n.quasis.items then tpl_parts_form (expr_part nt.Expression (with_in c)) tagged n.exprs.items n.quasis.items
    else Provided ByRule false (Fixed Never)
