-- A name without escapes is the characters of its text, so what it begins with is told by its bytes.
use Rattle.std.proofs.Common.{◌≡◌, ℕ, Bool, true, false, ◌&&◌, ◌==◌, not, cond, codes, bytes_eq, List, [], ◌∷◌, ◌++◌, refl, sym, subst, ap, ◌∙◌}
use Rattle.std.specs.Str.{chars, IsUtf8}
use Rattle.std.proofs.Math.Utf8.{encode, encodes}
use Rattle.std.proofs.lemmas.Bool.{true≢false, eqb-true, and_parts, or_parts}
use Rattle.std.proofs.lemmas.Bool.Decides.{same_from_decides}
use Rattle.std.proofs.lemmas.Slice.Eq.{bytes_eq-Decides}
use Rattle.std.proofs.lemmas.Str.{encodes-chars}
use Rattle.swc_ecma_codegen_grammar.specs.Names.{name_characters, name_value}
use Rattle.swc_ecma_codegen_grammar.specs.declared.names.Place.TheVariants.{Between, Escaped}
use Rattle.swc_ecma_codegen_grammar.specs.SpelledNames.{spelled_name}
use Rattle.swc_ecma_codegen_grammar.specs.ValidNames.{turned_after}
use Rattle.swc_ecma_codegen_syntax.specs.declared.lookahead.Beginning.{Beginning}
use Rattle.swc_ecma_codegen_syntax.specs.declared.parameters.Parameters.{Parameters}
use Rattle.swc_ecma_codegen_syntax.specs.NameForms.{is_one_of, declaration_words, is_reserved, is_free, has_no_escape}
use Rattle.swc_ecma_codegen_syntax.specs.declared.lookahead.Beginning.TheVariants as begins
use Rattle.swc_ecma_codegen_syntax.specs.Lookahead.{LetWord, AsyncWord, FunctionWord, ClassWord, AnyToken, word_sign, begun}
use Rattle.swc_ecma_codegen_syntax.specs.Beginnings.{name_begins}

-- ---- no backslash

not_true : (b : Bool) → not b ≡ true → b ≡ false
not_true true h = absurd (true≢false (sym h))
not_true false h = refl

no_escape_after : (xs ys : List ℕ) → has_no_escape (xs ++ ys) ≡ true → has_no_escape ys ≡ true
unfolding has_no_escape
no_escape_after [] ys h = h
no_escape_after (x ∷ xs) ys h = no_escape_after xs ys (and_parts (not (x == 92)) (has_no_escape (xs ++ ys)) h).1

-- the first character of a text is no backslash where its bytes have none
first_by : (b : Bool) (c : ℕ) (cs : List ℕ) → (c == 92) ≡ b → has_no_escape (encode c ++ encodes cs) ≡ true → b ≡ false
unfolding has_no_escape encode
first_by false c cs e h = refl
first_by true c cs e h = absurd (true≢false (sym (subst (λ z. has_no_escape (encode z ++ encodes cs) ≡ true) (eqb-true c 92 e) h)))

-- the characters of a text have no backslash where its bytes have none
pub characters_have_none : (cs : List ℕ) → has_no_escape (encodes cs) ≡ true → has_no_escape cs ≡ true
unfolding has_no_escape
characters_have_none [] h = refl
characters_have_none (c ∷ cs) h =
    ap (λ b. not b && has_no_escape cs) (first_by (c == 92) c cs refl h) ∙ characters_have_none cs (no_escape_after (encode c) (encodes cs) h)

value_of_none : (cs : List ℕ) → has_no_escape cs ≡ true → name_characters Between cs ≡ cs
unfolding has_no_escape name_characters
value_of_none [] h = refl
value_of_none (c ∷ cs) h =
    let (e, k) = and_parts (not (c == 92)) (has_no_escape cs) h in
    ap (λ b. cond b (name_characters Escaped cs) (c ∷ name_characters Between cs)) (not_true (c == 92) e) ∙ ap (λ ds. c ∷ ds) (value_of_none cs k)

turned_of_none : (bytes : List ℕ) → has_no_escape bytes ≡ true → turned_after false bytes ≡ bytes
unfolding has_no_escape turned_after
turned_of_none [] h = refl
turned_of_none (c ∷ cs) h =
    let (e, k) = and_parts (not (c == 92)) (has_no_escape cs) h in
    ap (λ b. c ∷ turned_after b cs) (not_true (c == 92) e) ∙ ap (λ ds. c ∷ ds) (turned_of_none cs k)

-- ---- the characters of a name

name_characters_are : (bytes : List ℕ) → IsUtf8 bytes → has_no_escape bytes ≡ true → name_value (spelled_name bytes) ≡ chars bytes
unfolding name_value spelled_name
name_characters_are bytes u h =
    ap (λ t. name_characters Between (chars t)) (turned_of_none bytes h)
    ∙ value_of_none (chars bytes) (characters_have_none (chars bytes) (ap has_no_escape (encodes-chars bytes u) ∙ h))

-- a word of ASCII is spelled by its own characters
abbrev IsSpelled : List ℕ → Type 0
IsSpelled text = (encodes text ≡ text) × (chars text ≡ text)

let_spelled : IsSpelled (codes "let")
unfolding encode encodes chars
let_spelled = (refl, refl)

async_spelled : IsSpelled (codes "async")
unfolding encode encodes chars
async_spelled = (refl, refl)

function_spelled : IsSpelled (codes "function")
unfolding encode encodes chars
function_spelled = (refl, refl)

class_spelled : IsSpelled (codes "class")
unfolding encode encodes chars
class_spelled = (refl, refl)

spelled_same : (bytes text : List ℕ) → IsUtf8 bytes → has_no_escape bytes ≡ true → IsSpelled text → bytes_eq (name_value (spelled_name bytes)) text ≡ bytes_eq bytes text
spelled_same bytes text u h (e, k) =
    let n = name_characters_are bytes u h in
    let (there, back) = bytes_eq-Decides bytes text in
    let (to, from) = bytes_eq-Decides (name_value (spelled_name bytes)) text in
    same_from_decides {P = bytes ≡ text} (bytes_eq (name_value (spelled_name bytes)) text) (bytes_eq bytes text)
    ((λ q. sym (encodes-chars bytes u) ∙ ap encodes (sym n ∙ to q) ∙ e), (λ q. from (n ∙ ap chars q ∙ k))) (there, back)

-- ---- what it begins with

no_word : (c : Parameters) (text : List ℕ) → is_free c text ≡ true → (bytes_eq text (codes "function") ≡ false) × (bytes_eq text (codes "class") ≡ false)
unfolding is_free is_reserved is_one_of
no_word c text h =
    let r = not_true (is_reserved text) (and_parts (not (is_reserved text)) _ h).0 in
    let d = (or_parts (is_one_of declaration_words text) _ (or_parts _ _ r).1).0 in
    let (class_, d1) = or_parts (bytes_eq text (codes "class")) _ d in
    let (const_, d2) = or_parts (bytes_eq text (codes "const")) _ d1 in
    let (enum_, d3) = or_parts (bytes_eq text (codes "enum")) _ d2 in
    let (export_, d4) = or_parts (bytes_eq text (codes "export")) _ d3 in
    let (extends_, d5) = or_parts (bytes_eq text (codes "extends")) _ d4 in
    ((or_parts (bytes_eq text (codes "function")) _ d5).0, class_)

by_tests : (a b : Bool) → begun (cond a LetWord (cond b AsyncWord (cond false FunctionWord (cond false ClassWord AnyToken))) ∷ []) ≡ cond a begins.LetAlone (cond b begins.AsyncAlone begins.Other)
unfolding begun
by_tests true b = refl
by_tests false true = refl
by_tests false false = refl

pub name_begun : (c : Parameters) (bytes : List ℕ) → IsUtf8 bytes → is_free c bytes ≡ true → has_no_escape bytes ≡ true → begun (word_sign (name_value (spelled_name bytes)) ∷ []) ≡ name_begins bytes
unfolding word_sign name_begins
name_begun c bytes u free h =
    let (f, k) = no_word c bytes free in
    let text = name_value (spelled_name bytes) in
    let by : Bool → Bool → Bool → Bool → Beginning = λ a b d e. begun (cond a LetWord (cond b AsyncWord (cond d FunctionWord (cond e ClassWord AnyToken))) ∷ []) in
    ap (λ a. by a (bytes_eq text (codes "async")) (bytes_eq text (codes "function")) (bytes_eq text (codes "class"))) (spelled_same bytes (codes "let") u h let_spelled)
    ∙ ap (λ b. by (bytes_eq bytes (codes "let")) b (bytes_eq text (codes "function")) (bytes_eq text (codes "class"))) (spelled_same bytes (codes "async") u h async_spelled)
    ∙ ap (λ d. by (bytes_eq bytes (codes "let")) (bytes_eq bytes (codes "async")) d (bytes_eq text (codes "class"))) (spelled_same bytes (codes "function") u h function_spelled ∙ f)
    ∙ ap (λ e. by (bytes_eq bytes (codes "let")) (bytes_eq bytes (codes "async")) false e) (spelled_same bytes (codes "class") u h class_spelled ∙ k)
    ∙ by_tests (bytes_eq bytes (codes "let")) (bytes_eq bytes (codes "async"))
