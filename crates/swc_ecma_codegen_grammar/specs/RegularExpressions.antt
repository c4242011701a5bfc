-- Regular expression literals. ECMA-262, section 12.9.5.
use Rattle.std.specs.Prelude.{ℕ, Bool, true, false, not, List, [], ◌∷◌, ◌&&◌, ◌||◌, ◌==◌, if◌then◌else◌}
use Rattle.swc_ecma_codegen_grammar.specs.Chars.{is_line_end}
use Rattle.swc_ecma_codegen_grammar.specs.Names.{all_part}

-- the rest of a regular expression, in a class or not, after a backslash or not
unfoldable pub class_after : Bool → ℕ → Bool
class_after inside c = if c == 91 then true else (if c == 93 then false else inside)

unfoldable pub ends_regex : Bool → Bool → List ℕ → Bool
ends_regex inside escaped [] = false
ends_regex inside true (c ∷ cs) = not (is_line_end c) && ends_regex inside false cs
ends_regex inside false (c ∷ cs) = if (c == 47) && not inside then all_part cs else (not (is_line_end c) && ends_regex (class_after inside c) (c == 92) cs)

unfoldable pub regex_body : List ℕ → Bool
regex_body [] = false
regex_body (c ∷ cs) = not ((c == 42) || (c == 47)) && ends_regex false false (c ∷ cs)

unfoldable pub is_regex : List ℕ → Bool
is_regex [] = false
is_regex (c ∷ cs) = (c == 47) && regex_body cs
