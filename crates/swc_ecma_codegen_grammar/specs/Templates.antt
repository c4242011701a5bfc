-- Parts of templates. ECMA-262, section 12.9.6.
use Rattle.std.specs.Prelude.{ℕ, ◌-◌, Bool, true, false, not, List, [], ◌∷◌, ◌++◌, ◌&&◌, ◌||◌, ◌==◌, ◌≡◌, codes, length, take, Option, None, if◌then◌else◌}
use Rattle.std.specs.Option.{is_some}
use Rattle.swc_ecma_codegen_grammar.specs.declared.kinds.TemplatePart.{TemplatePart}
use Rattle.swc_ecma_codegen_grammar.specs.Texts.{is_empty, is_same, begins}
use Rattle.swc_ecma_codegen_grammar.specs.TemplateValues.{cooked_value}

-- the rest of a template part, after a backslash or not: up to a back quote, or up to `${`
unfoldable pub ends_template : Bool → Bool → List ℕ → Bool
ends_template opens escaped [] = false
ends_template opens true (c ∷ cs) = ends_template opens false cs
ends_template opens false (c ∷ cs) =
    if c == 96 then (not opens && is_empty cs)
    else if (c == 36) && begins (123 ∷ []) cs then (opens && is_same cs (123 ∷ []))
    else ends_template opens (c == 92) cs

-- how a part of a template ends: a back quote, or `${`
unfoldable pub part_end : TemplatePart → List ℕ
part_end part = if part.opens then codes "${" else codes "`"

-- what stands before the end, in the rest of a part
unfoldable pub before_end : TemplatePart → List ℕ → List ℕ
before_end part rest = take (length rest - length (part_end part)) rest

-- The rest of a part, from its second character on. Only a template with a tag may have malformed escapes: NotEscapeSequence.
unfoldable pub goes_on_as : TemplatePart → List ℕ → Bool
goes_on_as part rest = ends_template part.opens false rest && (part.tagged || is_some (cooked_value (before_end part rest)))

-- NoSubstitutionTemplate, or TemplateHead where it opens a substitution
unfoldable pub is_template : TemplatePart → List ℕ → Bool
is_template part [] = false
is_template part (c ∷ cs) = (c == 96) && goes_on_as part cs

-- TemplateTail, or TemplateMiddle where it opens a further substitution
unfoldable pub is_template_rest : TemplatePart → List ℕ → Bool
is_template_rest part [] = false
is_template_rest part (c ∷ cs) = (c == 125) && goes_on_as part cs

-- the units of a part of a template without a tag
unfoldable pub part_units : TemplatePart → List ℕ → Option (List ℕ)
part_units part [] = None
part_units part (c ∷ cs) = cooked_value (before_end part cs)

-- a text is the inside of one part of a template, of every kind of part
abbrev pub IsInsidePart : List ℕ → Type 0
IsInsidePart text = (part : TemplatePart) → (is_template part (96 ∷ (text ++ part_end part)) ≡ true) × (is_template_rest part (125 ∷ (text ++ part_end part)) ≡ true)
