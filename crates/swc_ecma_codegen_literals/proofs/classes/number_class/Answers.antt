use Rattle.std.proofs.Common.{◌≡◌, Bool, true, false, cond, List, ℕ, sym, ap, ◌∙◌}
use Rattle.std.specs.Str.{chars}
use Rattle.std.proofs.lemmas.Bool.{false_from_ne_true, true≢false}
use Rattle.swc_ecma_codegen_grammar.specs.Numbers.{takes_dot}
use Rattle.swc_ecma_codegen_literals.specs.declared.classes.TokenClass.TheVariants.{Integer, Word}
use Rattle.swc_ecma_codegen_literals.specs.Integers.{is_integer}
use Rattle.swc_ecma_codegen_literals.proofs.NameTexts.{ascii_chars, not_ascii_chars}
use Rattle.swc_ecma_codegen_literals.proofs.Integers.{integer_takes_dot, integer_ascii}
use Rattle.swc_ecma_codegen_literals.proofs.classes.number_class.Goals as goal
use Rattle.swc_ecma_codegen_literals.proofs.classes.number_class.Goals.{else-is_ascii-via-then-is_ascii+else-is_integer, else-is_ascii-via-else-is_ascii}

class_by : (b : Bool) (t : List ℕ) → takes_dot t ≡ b → cond (takes_dot t) Integer Word ≡ cond b Integer Word
class_by b t h = ap (λ x. cond x Integer Word) h

pub returns-then-is_integer : goal.returns-then-is_integer
returns-then-is_integer c =
    let text = c.args.spelling.now in
    let same = (ascii_chars text c.if-is_ascii.ensures.cases).0 in
    let is : takes_dot (chars text) ≡ true = integer_takes_dot (chars text) ∙ ap is_integer (same ∙ sym c.as_bytes.ensures.value) ∙ sym c.is_integer.ensures ∙ c.if-is_integer.true in
    sym (class_by true (chars text) is)

pub returns-else-is_ascii : goal.returns-else-is_ascii
returns-else-is_ascii c =
    let text = c.args.spelling.now in
    let not : takes_dot (chars text) ≡ false = elim c.else-is_ascii.branch [
      | else-is_ascii-via-then-is_ascii+else-is_integer w ↦ integer_takes_dot (chars text) ∙ ap is_integer ((ascii_chars text w.if-is_ascii.ensures.cases).0 ∙ sym w.as_bytes.ensures.value) ∙ sym w.is_integer.ensures ∙ w.if-is_integer.false
      | else-is_ascii-via-else-is_ascii w ↦ integer_takes_dot (chars text) ∙ false_from_ne_true (is_integer (chars text)) (λ e. true≢false (sym (integer_ascii (chars text) e) ∙ not_ascii_chars text c.utf8.spelling w.if-is_ascii.ensures.cases))
    ] in
    sym (class_by false (chars text) not)
