-- What is written of templates is what they read as.
use Rattle.std.proofs.Common.{refl, Bool, true, false, cond, List, [], ◌∷◌, None}
use Rattle.swc_ecma_codegen_tree.specs.declared.exprs.Tpl.{Tpl}
use Rattle.swc_ecma_codegen_tree.specs.declared.exprs.TplElement.{TplElement}
use Rattle.swc_ecma_codegen_tree.specs.declared.exprs.TaggedTpl.{TaggedTpl}
use Rattle.swc_ecma_codegen_grammar.specs.Phrases.{Phrase, Never}
use Rattle.swc_ecma_codegen_grammar.specs.TemplatePhrases as lists
use Rattle.swc_ecma_codegen_grammar.specs.TemplatePhrases.{is_counted, part_before}
use Rattle.swc_ecma_codegen_grammar.specs.declared.roles.Role.TheVariants.{TaggedTemplate, Callee as IsCallee}
use Rattle.swc_ecma_codegen_tokens.specs.Run.{Env, Part}
use Rattle.swc_ecma_codegen_tokens.proofs.Reading.Phrased.{Prints, PrintsAt, prints_wider, then, after, before, prints_nothing, prints_never}
use Rattle.swc_ecma_codegen_tokens.proofs.Filling.Shapes.{open_}
use Rattle.swc_ecma_codegen_tokens.proofs.Reading.Printed.{writes_position}
use Rattle.swc_ecma_codegen_tokens.proofs.Commenting.CommentPrints.{writes_leading}
use Rattle.swc_ecma_codegen_tokens.proofs.LiteralTokens.TemplatePrints.{tpl_element_prints}
use Rattle.swc_ecma_codegen_emit.specs.declared.nodes.Context.TheVariants.{Plain, Callee}
use Rattle.swc_ecma_codegen_emit.specs.Places.{Whole}
use Rattle.swc_ecma_codegen_grammar.specs.CallPhrases.{value_at}
use Rattle.swc_ecma_codegen_emit.specs.Exprs.{held}
use Rattle.swc_ecma_codegen_emit.specs.Templates as words
use Rattle.swc_ecma_codegen_emit.proofs.AnnotationParts.{type_args_print}
use Rattle.swc_ecma_codegen_emit.proofs.Linked.{Linked, unbounded_linked, expr_at}
use Rattle.swc_ecma_codegen_tokens.proofs.Filling.Lengths.{at_length, prints_at_length}

rest_prints : {A : Type 0} (env : Env) (each : A → Part) (e : A → Phrase) → ((x : A) → Prints env (each x) (e x)) → (tagged : Bool) (xs : List A) (qs : List TplElement) → PrintsAt open_ env (words.tpl_rest each tagged xs qs) (lists.tpl_rest e tagged xs qs)
unfolding words.tpl_rest lists.tpl_rest
rest_prints env each e law tagged [] qs = prints_nothing
rest_prints env each e law tagged (x ∷ xs) [] = prints_nothing
rest_prints env each e law tagged (x ∷ xs) (q ∷ qs) = prints_wider open_ refl (then (law x) (then (tpl_element_prints env false (part_before tagged qs) q) (rest_prints env each e law tagged xs qs)))

all_print : {A : Type 0} (env : Env) (each : A → Part) (e : A → Phrase) → ((x : A) → Prints env (each x) (e x)) → (tagged : Bool) (xs : List A) (qs : List TplElement) → Prints env (words.tpl_all each tagged xs qs) (lists.tpl_parts e tagged xs qs)
unfolding words.tpl_all lists.tpl_parts
all_print env each e law tagged xs [] = prints_never
all_print env each e law tagged xs (q ∷ qs) = then (tpl_element_prints env true (part_before tagged qs) q) (rest_prints env each e law tagged xs qs)

-- no line may be ended in them
pub parts_print : {A : Type 0} (env : Env) (each : A → Part) (e : A → Phrase) → ((x : A) → Prints (at_length None env) (each x) (e x)) → (tagged : Bool) (xs : List A) (qs : List TplElement) → Prints env (words.tpl_parts each tagged xs qs) (lists.tpl_parts e tagged xs qs)
unfolding words.tpl_parts
parts_print env each e law tagged xs qs = prints_at_length None env (words.tpl_all each tagged xs qs) (all_print (at_length None env) each e law tagged xs qs)

-- a shape that has no text has no list of tokens
pub shaped_or : {env : Env} {p : Part} {f : Phrase} (counted : Bool) → Prints env p f → Prints env (λ rest. cond counted (p rest) (words.bad_shape rest)) (cond counted f Never)
shaped_or true h = h
shaped_or false h = prints_never

placed_prints : {X : Type 0} (l : Linked X) (tagged : Bool) (n : Tpl X) → Prints l.env (words.tpl_placed l.items tagged n) (lists.tpl_parts (value_at l.reads) tagged n.exprs.items n.quasis.items)
unfolding words.tpl_placed
placed_prints l tagged n =
    after (writes_leading l.env n.span.lo)
    (after (writes_position l.env n.span.lo) (before (parts_print l.env (held l.items) (value_at l.reads) (λ x. expr_at (unbounded_linked l) x Plain) tagged n.exprs.items n.quasis.items) (writes_position l.env n.span.hi)))

pub tpl_prints : {X : Type 0} (l : Linked X) (tagged : Bool) (n : Tpl X) → Prints l.env (words.tpl l.items tagged n) (lists.tpl l.reads tagged n)
unfolding words.tpl lists.tpl
tpl_prints l tagged n = shaped_or (is_counted n.exprs.items n.quasis.items) (placed_prints l tagged n)

pub tagged_tpl_prints : {X : Type 0} (l : Linked X) (n : TaggedTpl X) → Prints l.env (words.tagged_tpl l.items n) (lists.tagged_tpl l.reads n)
unfolding words.tagged_tpl lists.tagged_tpl
tagged_tpl_prints l n =
    after (writes_leading l.env n.span.lo)
    (after (writes_position l.env n.span.lo)
    (then (l.law n.tag.node.value (Whole Callee) IsCallee)
    (then (type_args_print l Plain n.type_params) (before (l.law n.tpl.node.value (Whole Plain) TaggedTemplate) (writes_position l.env n.span.hi)))))
