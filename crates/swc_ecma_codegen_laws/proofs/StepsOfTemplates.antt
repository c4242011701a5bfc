-- Templates: a law of the words holds of the plan.
use Rattle.swc_ecma_codegen_laws.specs.Breaks.{is_mark, is_break}
use Rattle.swc_ecma_codegen_laws.proofs.OfSteps.{is_other}
use Rattle.std.proofs.Common.{refl}
use Rattle.std.specs.Prelude.{ℕ, Bool, true, false, List, [], ◌∷◌, None, string_bytes}
use Rattle.swc_ecma_codegen_common.specs.declared.positions.Span.{Span}
use Rattle.swc_ecma_codegen_tree.specs.declared.exprs.TplElement.{TplElement}
use Rattle.swc_ecma_codegen_spans.specs.Spans.{dummy_span}
use Rattle.swc_ecma_codegen_grammar.specs.declared.kinds.TemplatePart.{TemplatePart}
use Rattle.swc_ecma_codegen_grammar.specs.Templates.{part_end}
use Rattle.swc_ecma_codegen_grammar.specs.TemplatePhrases.{part_kind, part_begin, part_text}
use Rattle.swc_ecma_codegen_text_writer.specs.Sheet.{StrLit, Punct}
use Rattle.swc_ecma_codegen_tokens.specs.Run.{Part, step, Guard, Plain, Ends, Remake}
use Rattle.swc_ecma_codegen_laws.proofs.OfSteps.{OfSteps, either}
use Rattle.swc_ecma_codegen_tokens.specs.Templates.{cooked_text, makes_cooked, inside, placed_inside, opened, closed, part_by, cooked_part, tpl_element}
use Rattle.swc_ecma_codegen_laws.proofs.StepsOfWords.{end_of_holds, start_of_holds}

pub inside_holds : {holds : Bool → Part → Type 0} (words : OfSteps holds) (tagged : Bool) (t : List ℕ) → holds false (inside tagged t)
unfolding inside is_other is_mark is_break
inside_holds words tagged t = either words false tagged (words.step false (Ends [] (StrLit dummy_span t)) refl) (words.step false (Plain (StrLit dummy_span t)) refl)

pub placed_inside_holds : {holds : Bool → Part → Type 0} (words : OfSteps holds) (tagged : Bool) (span : Span) (t : List ℕ) → holds false (placed_inside tagged span t)
unfolding placed_inside
placed_inside_holds words tagged span t = words.and_then false (start_of_holds words false span) (words.and_then false (inside_holds words tagged t) (end_of_holds words false span))

pub opened_holds : {holds : Bool → Part → Type 0} (words : OfSteps holds) (first : Bool) → holds false (opened first)
unfolding opened part_begin
opened_holds words true = words.enclosed (Plain (Punct None (part_begin true))) refl refl
opened_holds words false = words.enclosed (Plain (Punct None (part_begin false))) refl refl

pub closed_holds : {holds : Bool → Part → Type 0} (words : OfSteps holds) (first : Bool) (part : TemplatePart) (t : List ℕ) → holds false (closed first part t)
unfolding closed is_other is_mark is_break
closed_holds words first part t = words.step false (Ends ((part_kind first part, part_text first part t) ∷ []) (Punct None (part_end part))) refl

pub part_by_holds : {holds : Bool → Part → Type 0} (words : OfSteps holds) (first : Bool) (part : TemplatePart) (span : Span) (t : List ℕ) → holds false (part_by first part span t)
unfolding part_by is_other is_mark is_break
part_by_holds words first part span t = words.and_then false (words.step false (Guard (part_begin first)) refl) (words.and_then false (opened_holds words first) (words.and_then false (placed_inside_holds words part.tagged span t) (closed_holds words first part t)))

pub cooked_part_holds : {holds : Bool → Part → Type 0} (words : OfSteps holds) (first : Bool) (part : TemplatePart) (n : TplElement) → holds false (cooked_part first part n)
unfolding cooked_part is_other is_mark is_break
cooked_part_holds words first part n = words.by_env false (λ now rest. step (Remake (makes_cooked now.config (string_bytes n.raw))) (part_by first part n.span (cooked_text now.config (string_bytes n.raw)) rest)) (λ now. (words.and_then false (words.step false (Remake (makes_cooked now.config (string_bytes n.raw))) refl) (part_by_holds words first part n.span (cooked_text now.config (string_bytes n.raw)))))

pub tpl_element_holds : {holds : Bool → Part → Type 0} (words : OfSteps holds) (first : Bool) (part : TemplatePart) (n : TplElement) → holds false (tpl_element first part n)
unfolding tpl_element
tpl_element_holds words first part n = either words false part.tagged (part_by_holds words first part n.span (string_bytes n.raw)) (cooked_part_holds words first part n)
