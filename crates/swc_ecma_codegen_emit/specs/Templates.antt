-- What is written of templates.
use Rattle.std.specs.Prelude.{Bool, true, false, if◌then◌else◌, List, [], ◌∷◌}
use Rattle.swc_ecma_codegen_tree.specs.declared.exprs.Tpl.{Tpl}
use Rattle.swc_ecma_codegen_tree.specs.declared.exprs.TplElement.{TplElement}
use Rattle.swc_ecma_codegen_tree.specs.declared.exprs.TaggedTpl.{TaggedTpl}
use Rattle.swc_ecma_codegen_grammar.specs.TemplatePhrases.{is_counted, part_before}
use Rattle.swc_ecma_codegen_tokens.specs.Run.{unbounded, Part, refuse}
use Rattle.swc_ecma_codegen_tokens.specs.Templates.{tpl_element}
use Rattle.swc_ecma_codegen_tokens.specs.Words.{start_of, end_of, leading_comments}
use Rattle.swc_ecma_codegen_tokens.specs.declared.refusals.Unprintable.TheVariants as unprintable
use Rattle.swc_ecma_codegen_emit.specs.declared.nodes.Context.{Context}
use Rattle.swc_ecma_codegen_emit.specs.declared.nodes.Context.TheVariants.{Plain, Callee, Tagged}
use Rattle.swc_ecma_codegen_emit.specs.Places.{Place, Whole}
use Rattle.swc_ecma_codegen_emit.specs.Annotations.{type_args}
use Rattle.swc_ecma_codegen_emit.specs.Exprs.{held}

-- the parts after the first, each behind an expression: `b}c${d}e`; or each behind a type
unfoldable pub tpl_rest : {A : Type 0} → (A → Part) → Bool → List A → List TplElement → Part
tpl_rest each tagged (e ∷ es) (q ∷ qs) rest = each e (tpl_element false (part_before tagged qs) q (tpl_rest each tagged es qs rest))
tpl_rest each tagged es qs rest = rest

-- all of them
unfoldable pub tpl_all : {A : Type 0} → (A → Part) → Bool → List A → List TplElement → Part
tpl_all each tagged es [] rest = rest
tpl_all each tagged es (q ∷ qs) rest = tpl_element true (part_before tagged qs) q (tpl_rest each tagged es qs rest)

-- no line may be ended in them
unfoldable pub tpl_parts : {A : Type 0} → (A → Part) → Bool → List A → List TplElement → Part
tpl_parts each tagged es qs = unbounded (tpl_all each tagged es qs)

unfoldable pub tpl_placed : {X : Type 0} → (X → Place → Part) → Bool → Tpl X → Part
tpl_placed items tagged n rest = leading_comments n.span.lo (start_of n.span (tpl_parts (held items) tagged n.exprs.items n.quasis.items (end_of n.span rest)))

-- a template has one part more than expressions, or no text
unfoldable pub bad_shape : Part
bad_shape rest = refuse unprintable.BadShape rest

unfoldable pub tpl : {X : Type 0} → (X → Place → Part) → Bool → Tpl X → Part
tpl items tagged n rest = if is_counted n.exprs.items n.quasis.items then tpl_placed items tagged n rest else bad_shape rest

-- its context says whether it has a tag
abbrev pub is_tagged : Context → Bool
is_tagged Tagged = true
is_tagged context = false

-- `` a<B>`c` ``
unfoldable pub tagged_tpl : {X : Type 0} → (X → Place → Part) → TaggedTpl X → Part
tagged_tpl items n rest =
    leading_comments n.span.lo
    (start_of n.span
    (items n.tag.node.value (Whole Callee) (type_args items Plain n.type_params (items n.tpl.node.value (Whole Tagged) (end_of n.span rest)))))
