-- The words of templates see what links hold through `items` alone.
use Rattle.std.proofs.Common.{◌≡◌, refl, ◌∙◌, ap, ◌+◌, ◌==◌, List, [], ◌∷◌, map, length, Bool, true, false, cond, Option, Some, None}
use Rattle.swc_ecma_codegen_tree.specs.declared.links.AnyNode.{map-AnyNode}
use Rattle.swc_ecma_codegen_tree.specs.declared.links.AnyNode.TheOpen as nodes
use Rattle.swc_ecma_codegen_tree.specs.Links.{ExprBox, TsTypeParamInstantiationBox}
use Rattle.swc_ecma_codegen_tree.specs.declared.parts.ExprPart.TheVariants as expr_parts
use Rattle.swc_ecma_codegen_tree.specs.declared.exprs.Expr.TheVariants as exprs
use Rattle.swc_ecma_codegen_tree.specs.declared.exprs.Tpl.{Tpl}
use Rattle.swc_ecma_codegen_tree.specs.declared.exprs.TplElement.{TplElement}
use Rattle.swc_ecma_codegen_tree.specs.declared.exprs.TaggedTpl.{TaggedTpl}
use Rattle.swc_ecma_codegen_common.specs.declared.positions.Span.{Span}
use Rattle.swc_ecma_codegen_spans.specs.Spans.{expr_span}
use Rattle.swc_ecma_codegen_grammar.specs.TemplatePhrases.{is_counted, part_before}
use Rattle.swc_ecma_codegen_grammar.proofs.MappedTemplates.{length_mapped}
use Rattle.swc_ecma_codegen_grammar.specs.TreePhrases.{is_sequence}
use Rattle.swc_ecma_codegen_tokens.specs.Run.{unbounded, Plan, Part}
use Rattle.swc_ecma_codegen_tokens.specs.Templates.{tpl_element}
use Rattle.swc_ecma_codegen_tokens.specs.Words.{start_of, end_of, leading_comments}
use Rattle.swc_ecma_codegen_emit.specs.Exprs.{held}
use Rattle.swc_ecma_codegen_emit.specs.Places.{Place, context_of}
use Rattle.swc_ecma_codegen_emit.specs.Answers.{Answers}
use Rattle.swc_ecma_codegen_emit.specs.AnyExpr as words
use Rattle.swc_ecma_codegen_emit.specs.AnyExpr.{expr}
use Rattle.swc_ecma_codegen_emit.specs.Annotations.{type_args}
use Rattle.swc_ecma_codegen_emit.specs.Parts.{expr_part}
use Rattle.swc_ecma_codegen_emit.specs.Templates.{tpl_rest, tpl_all, tpl_parts, tpl_placed, bad_shape, tpl, is_tagged, tagged_tpl}
use Rattle.swc_ecma_codegen_emit.specs.Tree.{node_items}

-- what is the same is the same where no line may be ended
pub unbounded_alike : (p q : Part) → ((rest : Plan) → p rest ≡ q rest) → (rest : Plan) → unbounded p rest ≡ unbounded q rest
unbounded_alike p q same rest =
    let e : p ≡ q = λ i. λ after. same after i in
    ap (λ (part : Part). unbounded part rest) e

rest_mapped : {A B : Type 0} (g : A → B) (items : B → Part) (put : A → Part) → ((n : A) → items (g n) ≡ put n) → (tagged : Bool) (es : List A) (qs : List TplElement) (rest : Plan) → tpl_rest items tagged (map g es) qs rest ≡ tpl_rest put tagged es qs rest
unfolding tpl_rest
rest_mapped g items put same tagged [] qs rest = refl
rest_mapped g items put same tagged (e ∷ es) [] rest = refl
rest_mapped g items put same tagged (e ∷ es) (q ∷ qs) rest =
    ap (λ part. part (tpl_element false (part_before tagged qs) q (tpl_rest items tagged (map g es) qs rest))) (same e)
    ∙ ap (λ more. put e (tpl_element false (part_before tagged qs) q more)) (rest_mapped g items put same tagged es qs rest)

all_mapped : {A B : Type 0} (g : A → B) (items : B → Part) (put : A → Part) → ((n : A) → items (g n) ≡ put n) → (tagged : Bool) (es : List A) (qs : List TplElement) (rest : Plan) → tpl_all items tagged (map g es) qs rest ≡ tpl_all put tagged es qs rest
unfolding tpl_all
all_mapped g items put same tagged es [] rest = refl
all_mapped g items put same tagged es (q ∷ qs) rest = ap (tpl_element true (part_before tagged qs) q) (rest_mapped g items put same tagged es qs rest)

pub parts_mapped : {A B : Type 0} (g : A → B) (items : B → Part) (put : A → Part) → ((n : A) → items (g n) ≡ put n) → (tagged : Bool) (es : List A) (qs : List TplElement) (rest : Plan) → tpl_parts items tagged (map g es) qs rest ≡ tpl_parts put tagged es qs rest
unfolding tpl_parts
parts_mapped g items put same tagged es qs rest = unbounded_alike (tpl_all items tagged (map g es) qs) (tpl_all put tagged es qs) (all_mapped g items put same tagged es qs) rest

abbrev placed : {A : Type 0} → (A → Part) → Bool → Span → List A → List TplElement → Plan → Plan
placed items tagged span es qs rest = leading_comments span.lo (start_of span (tpl_parts items tagged es qs (end_of span rest)))

counted_mapped : {A B : Type 0} (g : A → B) (items : B → Part) (put : A → Part) → ((n : A) → items (g n) ≡ put n) → (tagged : Bool) (span : Span) (es : List A) (qs : List TplElement) (rest : Plan) → cond (is_counted (map g es) qs) (placed items tagged span (map g es) qs rest) (bad_shape rest) ≡ cond (is_counted es qs) (placed put tagged span es qs rest) (bad_shape rest)
counted_mapped g items put same tagged span es qs rest =
    ap (λ k. cond (length qs == k + 1) (placed items tagged span (map g es) qs rest) (bad_shape rest)) (length_mapped g es)
    ∙ ap (λ z. cond (is_counted es qs) (leading_comments span.lo (start_of span z)) (bad_shape rest)) (parts_mapped g items put same tagged es qs (end_of span rest))

pub tpl_mapped : {X Y : Type 0} (g : X → Y) (asks : Y → Answers) (items : Y → Place → Part) (n : Tpl X) (place : Place) (rest : Plan) → node_items asks items (map-AnyNode X Y g (nodes.ExprPart (expr_parts.Tpl n))) place rest ≡ tpl (λ x. items (g x)) (is_tagged (context_of place)) n rest
unfolding node_items expr_part tpl tpl_placed
tpl_mapped {X} {Y} g asks items n place rest = counted_mapped {A = ExprBox X} {B = ExprBox Y} _ (held items) (held (λ x. items (g x))) (λ x. refl) (is_tagged (context_of place)) n.span n.exprs.items n.quasis.items rest

tagged_by : {X Y : Type 0} (g : X → Y) (asks : Y → Answers) (items : Y → Place → Part) (n : TaggedTpl X) (type_params : Option (TsTypeParamInstantiationBox X)) (place : Place) (rest : Plan) → node_items asks items (map-AnyNode X Y g (nodes.Expr (exprs.TaggedTpl (record n { type_params = type_params })))) place rest ≡ expr (λ x. asks (g x)) (λ x. items (g x)) (exprs.TaggedTpl (record n { type_params = type_params })) (context_of place) rest
unfolding node_items expr words.expr_parts words.expr_closed expr_span words.leaves_comments words.placed_expr words.is_wrapped is_sequence tagged_tpl type_args
tagged_by g asks items n None place rest = refl
tagged_by g asks items n (Some t) place rest = refl

pub tagged_tpl_mapped : {X Y : Type 0} (g : X → Y) (asks : Y → Answers) (items : Y → Place → Part) (n : TaggedTpl X) (place : Place) (rest : Plan) → node_items asks items (map-AnyNode X Y g (nodes.Expr (exprs.TaggedTpl n))) place rest ≡ expr (λ x. asks (g x)) (λ x. items (g x)) (exprs.TaggedTpl n) (context_of place) rest
tagged_tpl_mapped g asks items n place rest = tagged_by g asks items n n.type_params place rest
