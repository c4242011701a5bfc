-- What stands inside of a part of a template.
use Rattle.std.specs.Prelude.{ℕ, Bool, true, false, not, ◌&&◌, ◌||◌, ◌==◌, if◌then◌else◌, List, [], ◌∷◌}
use Rattle.std.specs.Option.{is_some}
use Rattle.swc_ecma_codegen_tree.specs.declared.exprs.TplElement.{TplElement}
use Rattle.swc_ecma_codegen_grammar.specs.LitPhrases.{characters}
use Rattle.swc_ecma_codegen_grammar.specs.TemplateValues.{cooked_value}
use Rattle.swc_ecma_codegen_grammar.specs.Texts.{begins}

-- the rest of it, after a backslash or not: neither a bare back quote nor a bare `${`, and no backslash is last
unfoldable pub inside : Bool → List ℕ → Bool
inside escaped [] = not escaped
inside true (c ∷ cs) = inside false cs
inside false (c ∷ cs) = if c == 96 then false else if (c == 36) && begins (123 ∷ []) cs then false else inside (c == 92) cs

-- without malformed escapes, unless the template has a tag
unfoldable pub is_element : Bool → TplElement → Bool
is_element tagged n = inside false (characters n.raw) && (tagged || is_some (cooked_value (characters n.raw)))

unfoldable pub all_elements : Bool → List TplElement → Bool
all_elements tagged [] = true
all_elements tagged (n ∷ ns) = is_element tagged n && all_elements tagged ns
