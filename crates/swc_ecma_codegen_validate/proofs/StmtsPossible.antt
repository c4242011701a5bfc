-- When the phrase of a statement is possible.
use Rattle.std.proofs.Common.{◌≡◌, ◌∙◌, ap, ◌&&◌, map, codes, Option, Some, None, refl}
use Rattle.swc_ecma_codegen_tree.specs.declared.idents.Ident.{Ident}
use Rattle.swc_ecma_codegen_tree.specs.declared.stmts.ForOfStmt.{ForOfStmt}
use Rattle.swc_ecma_codegen_tree.specs.declared.stmts.SwitchCase.{SwitchCase}
use Rattle.swc_ecma_codegen_tree.specs.declared.stmts.SwitchStmt.{SwitchStmt}
use Rattle.swc_ecma_codegen_grammar.specs.declared.roles.Role.{Role}
use Rattle.swc_ecma_codegen_grammar.specs.PatPhrases.{value_at}
use Rattle.swc_ecma_codegen_grammar.specs.NamePhrases.{ident}
use Rattle.swc_ecma_codegen_grammar.specs.FunctionPhrases.{optional_name}
use Rattle.swc_ecma_codegen_grammar.specs.StmtPhrases.{jump_rest, stmt_at, case_test, switch_case, switch_stmt, for_head, for_of_stmt}
use Rattle.swc_ecma_codegen_grammar.specs.Phrases.{Phrase, in_order, is_possible}
use Rattle.swc_ecma_codegen_validate.specs.Possible.{all_possible}
use Rattle.swc_ecma_codegen_validate.proofs.FunctionsPossible.{word_possible}
use Rattle.swc_ecma_codegen_validate.proofs.Lists.{in_order_possible, and_true}

pub switch_case_possible : {X : Type 0} (f : X → Role → Phrase) (n : SwitchCase X) → is_possible (switch_case f n) ≡ (is_possible (case_test f n.test) && all_possible (stmt_at f) n.cons.items)
unfolding is_possible switch_case
switch_case_possible f n = ap (λ b. is_possible (case_test f n.test) && b) (in_order_possible (stmt_at f) n.cons.items)

pub switch_stmt_possible : {X : Type 0} (f : X → Role → Phrase) (n : SwitchStmt X) → is_possible (switch_stmt f n) ≡ (is_possible (value_at f n.discriminant) && all_possible (switch_case f) n.cases.items)
unfolding is_possible switch_stmt
switch_stmt_possible f n = ap (λ b. is_possible (value_at f n.discriminant) && b) (and_true (is_possible (in_order (map (switch_case f) n.cases.items))) ∙ in_order_possible (switch_case f) n.cases.items)

pub for_of_stmt_possible : {X : Type 0} (f : X → Role → Phrase) (n : ForOfStmt X) → is_possible (for_of_stmt f n) ≡ (is_possible (for_head f n.left) && (is_possible (value_at f n.right) && is_possible (stmt_at f n.body)))
unfolding is_possible for_of_stmt
for_of_stmt_possible f n = ap (λ b. b && (is_possible (for_head f n.left) && (is_possible (value_at f n.right) && is_possible (stmt_at f n.body)))) (word_possible n.is_await (codes "await"))

-- a label, or none
pub jump_possible : (n : Option Ident) → is_possible (jump_rest n) ≡ is_possible (optional_name n)
unfolding is_possible jump_rest optional_name
jump_possible None = refl
jump_possible (Some n) = and_true (is_possible (ident n))
