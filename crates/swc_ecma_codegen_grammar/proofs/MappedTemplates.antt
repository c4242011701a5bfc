-- The productions of templates see what links hold through f alone.
use Rattle.std.proofs.Common.{◌≡◌, refl, ◌∙◌, ap, ◌+◌, ◌==◌, List, [], ◌∷◌, map, length, suc, Bool, true, false, cond, Option, Some, None}
use Rattle.swc_ecma_codegen_tree.specs.declared.links.AnyNode.{map-AnyNode}
use Rattle.swc_ecma_codegen_tree.specs.declared.links.AnyNode.TheOpen as nodes
use Rattle.swc_ecma_codegen_tree.specs.Links.{ExprBox, TsTypeParamInstantiationBox}
use Rattle.swc_ecma_codegen_tree.specs.declared.parts.ExprPart.TheVariants as expr_parts
use Rattle.swc_ecma_codegen_tree.specs.declared.exprs.Expr.TheVariants as exprs
use Rattle.swc_ecma_codegen_tree.specs.declared.exprs.Tpl.{Tpl}
use Rattle.swc_ecma_codegen_tree.specs.declared.exprs.TplElement.{TplElement}
use Rattle.swc_ecma_codegen_tree.specs.declared.exprs.TaggedTpl.{TaggedTpl}
use Rattle.swc_ecma_codegen_grammar.specs.AnnotationPhrases.{type_args}
use Rattle.swc_ecma_codegen_grammar.specs.Phrases.{Phrase, Never, ◌>◌}
use Rattle.swc_ecma_codegen_grammar.specs.declared.roles.Role.{Role}
use Rattle.swc_ecma_codegen_grammar.specs.declared.roles.Role.TheVariants.{Expression, Template, TaggedTemplate}
use Rattle.swc_ecma_codegen_grammar.specs.CallPhrases.{value_at}
use Rattle.swc_ecma_codegen_grammar.specs.TemplatePhrases.{part_before, tpl_element, tpl_rest, tpl_parts, is_counted, tpl, tagged_tpl}
use Rattle.swc_ecma_codegen_grammar.specs.ExprPhrases.{expr}
use Rattle.swc_ecma_codegen_grammar.specs.PartPhrases.{expr_part}
use Rattle.swc_ecma_codegen_grammar.specs.TreePhrases.{node_phrase}

pub length_mapped : {A B : Type 0} (g : A → B) (xs : List A) → length (map g xs) ≡ length xs
length_mapped g [] = refl
length_mapped g (x ∷ xs) = ap suc (length_mapped g xs)

rest_mapped : {A B : Type 0} (g : A → B) (f : B → Phrase) (d : A → Phrase) → ((n : A) → f (g n) ≡ d n) → (tagged : Bool) (es : List A) (qs : List TplElement) → tpl_rest f tagged (map g es) qs ≡ tpl_rest d tagged es qs
unfolding tpl_rest
rest_mapped g f d same tagged [] qs = refl
rest_mapped g f d same tagged (e ∷ es) [] = refl
rest_mapped g f d same tagged (e ∷ es) (q ∷ qs) =
    ap (λ p. p > tpl_element false (part_before tagged qs) q > tpl_rest f tagged (map g es) qs) (same e)
    ∙ ap (λ p. d e > tpl_element false (part_before tagged qs) q > p) (rest_mapped g f d same tagged es qs)

parts_mapped : {A B : Type 0} (g : A → B) (f : B → Phrase) (d : A → Phrase) → ((n : A) → f (g n) ≡ d n) → (tagged : Bool) (es : List A) (qs : List TplElement) → tpl_parts f tagged (map g es) qs ≡ tpl_parts d tagged es qs
unfolding tpl_parts
parts_mapped g f d same tagged es [] = refl
parts_mapped g f d same tagged es (q ∷ qs) = ap (λ p. tpl_element true (part_before tagged qs) q > p) (rest_mapped g f d same tagged es qs)

pub counted_mapped : {A B : Type 0} (g : A → B) (f : B → Phrase) (d : A → Phrase) → ((n : A) → f (g n) ≡ d n) → (tagged : Bool) (es : List A) (qs : List TplElement) → cond (is_counted (map g es) qs) (tpl_parts f tagged (map g es) qs) Never ≡ cond (is_counted es qs) (tpl_parts d tagged es qs) Never
counted_mapped g f d same tagged es qs =
    ap (λ n. cond (length qs == n + 1) (tpl_parts f tagged (map g es) qs) Never) (length_mapped g es)
    ∙ ap (λ p. cond (is_counted es qs) p Never) (parts_mapped g f d same tagged es qs)

pub tpl_mapped : {X Y : Type 0} (g : X → Y) (f : Y → Role → Phrase) (n : Tpl X) → node_phrase f (map-AnyNode X Y g (nodes.ExprPart (expr_parts.Tpl n))) Template ≡ tpl (λ x. f (g x)) false n
unfolding node_phrase expr_part tpl
tpl_mapped {X} {Y} g f n = counted_mapped {A = ExprBox X} {B = ExprBox Y} _ (value_at f) (value_at (λ x. f (g x))) (λ x. refl) false n.exprs.items n.quasis.items

pub tagged_mapped : {X Y : Type 0} (g : X → Y) (f : Y → Role → Phrase) (n : Tpl X) → node_phrase f (map-AnyNode X Y g (nodes.ExprPart (expr_parts.Tpl n))) TaggedTemplate ≡ tpl (λ x. f (g x)) true n
unfolding node_phrase expr_part tpl
tagged_mapped {X} {Y} g f n = counted_mapped {A = ExprBox X} {B = ExprBox Y} _ (value_at f) (value_at (λ x. f (g x))) (λ x. refl) true n.exprs.items n.quasis.items

tagged_by : {X Y : Type 0} (g : X → Y) (f : Y → Role → Phrase) (n : TaggedTpl X) (type_params : Option (TsTypeParamInstantiationBox X)) → node_phrase f (map-AnyNode X Y g (nodes.Expr (exprs.TaggedTpl (record n { type_params = type_params })))) Expression ≡ tagged_tpl (λ x. f (g x)) (record n { type_params = type_params })
unfolding node_phrase expr tagged_tpl type_args
tagged_by g f n None = refl
tagged_by g f n (Some t) = refl

pub tagged_tpl_mapped : {X Y : Type 0} (g : X → Y) (f : Y → Role → Phrase) (n : TaggedTpl X) → node_phrase f (map-AnyNode X Y g (nodes.Expr (exprs.TaggedTpl n))) Expression ≡ tagged_tpl (λ x. f (g x)) n
tagged_tpl_mapped g f n = tagged_by g f n n.type_params
