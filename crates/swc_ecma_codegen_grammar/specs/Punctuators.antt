-- Punctuators. ECMA-262, section 12.8.
use Rattle.std.specs.Prelude.{ℕ, Bool, List, [], ◌∷◌, codes}
use Rattle.swc_ecma_codegen_grammar.specs.Texts.{is_among}

-- Punctuator, DivPunctuator and RightBracePunctuator, and `@`, which stands before a decorator.
unfoldable pub punctuators : List (List ℕ)
punctuators =
    codes "{" ∷ codes "}" ∷ codes "(" ∷ codes ")" ∷ codes "[" ∷ codes "]" ∷ codes "." ∷ codes "..." ∷ codes ";" ∷ codes "," ∷
    codes "<" ∷ codes ">" ∷ codes "<=" ∷ codes ">=" ∷ codes "==" ∷ codes "!=" ∷ codes "===" ∷ codes "!==" ∷
    codes "+" ∷ codes "-" ∷ codes "*" ∷ codes "%" ∷ codes "**" ∷ codes "++" ∷ codes "--" ∷ codes "<<" ∷ codes ">>" ∷ codes ">>>" ∷
    codes "&" ∷ codes "|" ∷ codes "^" ∷ codes "!" ∷ codes "~" ∷ codes "&&" ∷ codes "||" ∷ codes "??" ∷ codes "?" ∷ codes ":" ∷
    codes "=" ∷ codes "+=" ∷ codes "-=" ∷ codes "*=" ∷ codes "%=" ∷ codes "**=" ∷ codes "<<=" ∷ codes ">>=" ∷ codes ">>>=" ∷
    codes "&=" ∷ codes "|=" ∷ codes "^=" ∷ codes "&&=" ∷ codes "||=" ∷ codes "??=" ∷ codes "=>" ∷ codes "/" ∷ codes "/=" ∷
    codes "?." ∷ codes "@" ∷ []

unfoldable pub is_punctuator : List ℕ → Bool
is_punctuator text = is_among text punctuators
