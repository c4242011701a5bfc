-- Semicolons that may be left out, among tokens. ECMA-262, section 12.10: before `}` and at the end.
use Rattle.std.specs.Prelude.{◌⊎◌, ◌≡◌, Bool, true, false, List, [], ◌∷◌, ◌||◌, codes}
use Rattle.swc_ecma_codegen_grammar.specs.declared.kinds.Kind.{Kind}
use Rattle.swc_ecma_codegen_grammar.specs.declared.kinds.Kind.TheVariants.{Punctuator, Ending, TemplateRest}
use Rattle.swc_ecma_codegen_grammar.specs.Texts.{is_same}
use Rattle.swc_ecma_codegen_grammar.specs.Tokens.{Token, Value, Characters, ending}

-- `}`, a semicolon, or the rest of a template, which begins with `}`
unfoldable pub is_end : Kind → Value → Bool
is_end Punctuator (Characters text) = is_same text (codes "}") || is_same text (codes ";")
is_end Ending value = true
is_end (TemplateRest part) value = true
is_end kind value = false

unfoldable pub ends : Token → Bool
ends x = is_end x.kind x.value

-- where a semicolon isn't needed: nothing more follows, or a token that ends
unfoldable pub IsAtEnd : List Token → Type 0
IsAtEnd [] = Unit {0}
IsAtEnd (x ∷ xs) = ends x ≡ true

-- the same tokens without some ending semicolons, each of which stood where it isn't needed
unfoldable pub IsReduced : List Token → List Token → Type 0
IsReduced [] ys = ys ≡ []
IsReduced (x ∷ xs) ys = ((zs : List Token) × (ys ≡ x ∷ zs) × IsReduced xs zs) ⊎ ((x ≡ ending) × IsAtEnd xs × IsReduced xs ys)
