-- Strings inside a script of an HTML page: what would end the script, or open or close a comment in it, is spelled apart.
-- HTML, sections 4.12.1.3 and 13.2.5.15 to 13.2.5.31.
use Rattle.std.specs.Prelude.{◌≡◌, ℕ, suc, Bool, false, List, [], ◌∷◌, ◌++◌, ◌&&◌, ◌||◌, ◌==◌, nat_le, if◌then◌else◌, codes, Option, Some, None}
use Rattle.swc_ecma_codegen_grammar.specs.Numbers.{is_either}
use Rattle.swc_ecma_codegen_grammar.specs.CodeUnits.{begins_like}

-- one of `>`, blank, tab, LF, FF, CR: the name of a tag ends here
unfoldable pub is_tag_end : ℕ → Bool
is_tag_end c = (c == 62) || ((c == 32) || ((c == 9) || ((c == 10) || ((c == 12) || (c == 13)))))

-- `!--`, what a comment begins with after its `<`
unfoldable pub comment_start : List (ℕ → Bool)
comment_start = (λ c. c == 33) ∷ (λ c. c == 45) ∷ (λ c. c == 45) ∷ []

-- `/script` in any case of letters, and the end of the name: what an end tag begins with after its `<`
unfoldable pub script_end : List (ℕ → Bool)
script_end = (λ c. c == 47) ∷ is_either 115 83 ∷ is_either 99 67 ∷ is_either 114 82 ∷ is_either 105 73 ∷ is_either 112 80 ∷ is_either 116 84 ∷ is_tag_end ∷ []

-- `-->`
unfoldable pub comment_end : List (ℕ → Bool)
comment_end = (λ c. c == 45) ∷ (λ c. c == 45) ∷ (λ c. c == 62) ∷ []

-- `<\/script>` for `</script>`
unfoldable pub ends_apart : List ℕ → List ℕ
ends_apart [] = []
ends_apart (c ∷ cs) = if (c == 60) && begins_like script_end cs then (60 ∷ 92 ∷ ends_apart cs) else (c ∷ ends_apart cs)

-- `\x3c!--` for `<!--`
unfoldable pub opens_apart : List ℕ → List ℕ
opens_apart [] = []
opens_apart (c ∷ cs) = if (c == 60) && begins_like comment_start cs then (codes "\\x3c" ++ opens_apart cs) else (c ∷ opens_apart cs)

-- how many `-` stand before what follows a character
abbrev pub dashes_after : ℕ → ℕ → ℕ
dashes_after dashes c = if c == 45 then suc dashes else 0

-- `--\x3e` for `-->`, in a text that so many `-` stand before
unfoldable pub closes_apart : ℕ → List ℕ → List ℕ
closes_apart dashes [] = []
closes_apart dashes (c ∷ cs) = if (c == 62) && nat_le 2 dashes then (codes "\\x3e" ++ closes_apart 0 cs) else (c ∷ closes_apart (dashes_after dashes c) cs)

-- the three, in this order
unfoldable pub inline_text : List ℕ → List ℕ
inline_text literal = closes_apart 0 (opens_apart (ends_apart literal))

-- The same at once. What is written in place of a character after so many `-`, before `next`, where it may not stand.
unfoldable pub mark_text : ℕ → ℕ → List ℕ → Option (List ℕ)
mark_text dashes c next =
    if c == 60 then (if begins_like comment_start next then Some (codes "\\x3c") else if begins_like script_end next then Some (codes "<\\") else None)
    else if (c == 62) && nat_le 2 dashes then Some (codes "\\x3e")
    else None

abbrev pub or_stands : ℕ → Option (List ℕ) → List ℕ
or_stands c None = c ∷ []
or_stands c (Some text) = text

unfoldable pub marked : ℕ → List ℕ → List ℕ
marked dashes [] = []
marked dashes (c ∷ cs) = or_stands c (mark_text dashes c cs) ++ marked (dashes_after dashes c) cs

-- these characters stand somewhere in a text
unfoldable pub holds : List (ℕ → Bool) → List ℕ → Bool
holds ps [] = begins_like ps []
holds ps (c ∷ cs) = begins_like ps (c ∷ cs) || holds ps cs

-- A text that neither ends a script of an HTML page nor opens or closes a comment there: no `</script`, no `<!--`, no `-->`.
pub record IsInlineSafe (text : List ℕ) : Type 0 where
  pub no_script_end : holds ((λ c. c == 60) ∷ script_end) text ≡ false
  pub no_comment_start : holds ((λ c. c == 60) ∷ comment_start) text ≡ false
  pub no_comment_end : holds comment_end text ≡ false
