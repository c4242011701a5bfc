-- Where the reading of the body of a regular expression stands.
use Rattle.std.specs.Prelude.{ℕ, Bool, List, ◌++◌, codes}
use Rattle.swc_ecma_codegen_grammar.specs.RegularExpressions.{ends_regex}
use Rattle.swc_ecma_codegen_validate.specs.declared.regexes.RegexState.{RegexState}

-- these characters are the rest of one, which the slash after them ends
unfoldable pub goes_on : RegexState → List ℕ → Bool
goes_on s rest = ends_regex s.inside s.escaped (rest ++ codes "/")
