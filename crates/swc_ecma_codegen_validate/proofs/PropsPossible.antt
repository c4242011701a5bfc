-- When the phrase of an object or a property is possible.
use Rattle.std.proofs.Common.{◌≡◌, ◌∙◌, refl, ap, ◌&&◌, map, codes, Option, Some, None}
use Rattle.swc_ecma_codegen_tree.specs.Links.{PatBox}
use Rattle.swc_ecma_codegen_tree.specs.declared.exprs.GetterProp.{GetterProp}
use Rattle.swc_ecma_codegen_tree.specs.declared.exprs.SetterProp.{SetterProp}
use Rattle.swc_ecma_codegen_tree.specs.declared.exprs.ObjectLit.{ObjectLit}
use Rattle.swc_ecma_codegen_grammar.specs.declared.roles.Role.{Role}
use Rattle.swc_ecma_codegen_grammar.specs.ElementPhrases.{element}
use Rattle.swc_ecma_codegen_grammar.specs.PatPhrases.{pat_at, prop_name_at}
use Rattle.swc_ecma_codegen_grammar.specs.PropPhrases.{optional_body, getter_prop, this_param, setter_prop, prop_or_spread, object_lit}
use Rattle.swc_ecma_codegen_grammar.specs.Phrases.{Phrase, listed, is_possible}
use Rattle.swc_ecma_codegen_grammar.specs.TypePhrases.{ann_at}
use Rattle.swc_ecma_codegen_validate.specs.Possible.{all_possible}
use Rattle.swc_ecma_codegen_validate.proofs.Annotations.{annotation_possible}
use Rattle.swc_ecma_codegen_validate.proofs.Lists.{listed_possible, and_true}

pub getter_possible : {X : Type 0} (f : X → Role → Phrase) (n : GetterProp X) → is_possible (getter_prop f n) ≡ (is_possible (prop_name_at f n.key) && (is_possible (element (ann_at f) n.type_ann) && is_possible (optional_body f n.body)))
unfolding is_possible getter_prop
getter_possible f n = ap (λ b. is_possible (prop_name_at f n.key) && (b && is_possible (optional_body f n.body))) (annotation_possible f n.type_ann)

this_possible : {X : Type 0} (f : X → Role → Phrase) (o : Option (PatBox X)) → is_possible (this_param f o) ≡ is_possible (element (pat_at f) o)
unfolding is_possible this_param element
this_possible f None = refl
this_possible f (Some n) = and_true _

pub setter_possible : {X : Type 0} (f : X → Role → Phrase) (n : SetterProp X) → is_possible (setter_prop f n) ≡ (is_possible (prop_name_at f n.key) && (is_possible (element (pat_at f) n.this_param) && (is_possible (pat_at f n.param) && is_possible (optional_body f n.body))))
unfolding is_possible setter_prop
setter_possible f n = ap (λ b. is_possible (prop_name_at f n.key) && (b && (is_possible (pat_at f n.param) && is_possible (optional_body f n.body)))) (this_possible f n.this_param)

pub object_lit_possible : {X : Type 0} (f : X → Role → Phrase) (n : ObjectLit X) → is_possible (object_lit f n) ≡ all_possible (prop_or_spread f) n.props.items
unfolding is_possible object_lit
object_lit_possible f n = and_true (is_possible (listed (codes ",") (map (prop_or_spread f) n.props.items))) ∙ listed_possible (codes ",") (prop_or_spread f) n.props.items
