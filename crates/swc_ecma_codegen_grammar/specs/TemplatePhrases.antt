-- Templates: one production a node. `f` says what is read of what a link holds, in its role. ECMA-262, sections 12.9.6, 13.2.8 and 13.3.11.
use Rattle.std.specs.Prelude.{ℕ, ◌+◌, ◌==◌, Bool, true, false, if◌then◌else◌, List, [], ◌∷◌, ◌++◌, codes, length}
use Rattle.swc_ecma_codegen_tree.specs.declared.exprs.Tpl.{Tpl}
use Rattle.swc_ecma_codegen_tree.specs.declared.exprs.TplElement.{TplElement}
use Rattle.swc_ecma_codegen_tree.specs.declared.exprs.TaggedTpl.{TaggedTpl}
use Rattle.swc_ecma_codegen_grammar.specs.declared.kinds.Kind.{Kind}
use Rattle.swc_ecma_codegen_grammar.specs.declared.kinds.Kind.TheVariants.{Template, TemplateRest}
use Rattle.swc_ecma_codegen_grammar.specs.declared.kinds.TemplatePart.{TemplatePart}
use Rattle.swc_ecma_codegen_grammar.specs.LitPhrases.{characters}
use Rattle.swc_ecma_codegen_grammar.specs.Phrases.{Phrase, Never, Nothing, One, ◌>◌, where_}
use Rattle.swc_ecma_codegen_grammar.specs.AnnotationPhrases.{type_args}
use Rattle.swc_ecma_codegen_grammar.specs.CallPhrases.{value_at, callee_at}
use Rattle.swc_ecma_codegen_grammar.specs.FunctionPhrases.{is_some_listed}
use Rattle.swc_ecma_codegen_grammar.specs.Templates.{part_end}
use Rattle.swc_ecma_codegen_grammar.specs.Tokens.{has_shape, token_of}
use Rattle.swc_ecma_codegen_grammar.specs.declared.roles.Role.{Role}
use Rattle.swc_ecma_codegen_grammar.specs.declared.roles.Role.TheVariants.{TaggedTemplate}

-- the first part of a template, up to its first substitution or its end, or a later one
unfoldable pub part_kind : Bool → TemplatePart → Kind
part_kind first part = if first then Template part else TemplateRest part

unfoldable pub part_begin : Bool → List ℕ
part_begin first = if first then codes "`" else codes "}"

-- its spelling, by what stands inside: `}b${`
unfoldable pub part_text : Bool → TemplatePart → List ℕ → List ℕ
part_text first part inside = part_begin first ++ (inside ++ part_end part)

-- a text is such a part
unfoldable pub part_phrase : Kind → List ℕ → Phrase
part_phrase kind text = where_ (has_shape kind text) (One (token_of kind text))

-- the raw of a part: without malformed escapes, unless the template has a tag
unfoldable pub tpl_element : Bool → TemplatePart → TplElement → Phrase
tpl_element first part n = part_phrase (part_kind first part) (part_text first part (characters n.raw))

-- a part that opens a substitution where another comes after it
abbrev pub part_before : Bool → List TplElement → TemplatePart
part_before tagged quasis = record { tagged = tagged; opens = is_some_listed quasis }

-- the parts after the first, each behind an expression: `b}c${d}e`; or each behind a type
unfoldable pub tpl_rest : {A : Type 0} → (A → Phrase) → Bool → List A → List TplElement → Phrase
tpl_rest each tagged (e ∷ es) (q ∷ qs) = each e > tpl_element false (part_before tagged qs) q > tpl_rest each tagged es qs
tpl_rest each tagged es qs = Nothing

unfoldable pub tpl_parts : {A : Type 0} → (A → Phrase) → Bool → List A → List TplElement → Phrase
tpl_parts each tagged es [] = Never
tpl_parts each tagged es (q ∷ qs) = tpl_element true (part_before tagged qs) q > tpl_rest each tagged es qs

-- there is one part more than expressions
abbrev pub is_counted : {A B : Type 0} → List A → List B → Bool
is_counted exprs quasis = length quasis == length exprs + 1

-- whether it has a tag
unfoldable pub tpl : {X : Type 0} → (X → Role → Phrase) → Bool → Tpl X → Phrase
tpl f tagged n = if is_counted n.exprs.items n.quasis.items then tpl_parts (value_at f) tagged n.exprs.items n.quasis.items else Never

unfoldable pub tagged_tpl : {X : Type 0} → (X → Role → Phrase) → TaggedTpl X → Phrase
tagged_tpl f n = callee_at f n.tag > type_args f n.type_params > f n.tpl.node.value TaggedTemplate
