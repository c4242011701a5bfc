-- What the roots of a tree are, once all below and their own links were changed, one after the other.
use Rattle.std.proofs.Common.{◌≡◌, sym, ap, ◌∙◌}
use Rattle.swc_ecma_codegen_tree.specs.declared.links.AnyNode.{AnyNode}
use Rattle.swc_ecma_codegen_tree.specs.declared.exprs.Expr.{Expr}
use Rattle.swc_ecma_codegen_tree.specs.declared.programs.ModuleItem.{ModuleItem}
use Rattle.swc_ecma_codegen_tree.specs.declared.programs.Program.{Program}
use Rattle.swc_ecma_codegen_tree.specs.declared.stmts.Stmt.{Stmt}
use Rattle.swc_ecma_codegen_visit.specs.MappedExprs.{map_expr}
use Rattle.swc_ecma_codegen_visit.specs.MappedModules.{map_module_item, map_program}
use Rattle.swc_ecma_codegen_visit.specs.MappedStmts.{map_stmt}
use Rattle.swc_ecma_codegen_visit.proofs.MapLaws.{expr_kept, item_kept, program_kept, same_expr, same_item, same_program, same_stmt, stmt_kept}
use Rattle.swc_ecma_codegen_parentheses.specs.declared.opens.Standing.TheVariants.{Value}
use Rattle.swc_ecma_codegen_parentheses.specs.Bare.{bare_below, bare_expr, bare_item, bare_program, bare_stmt, expr_in, open_item, open_program, open_stmt, opened_node, out_of_pair}

pub program_bare : (a b c d : Program AnyNode) → map_program (λ x. x) (λ x. x) a ≡ map_program (λ x. x) (λ x. x) b
    → map_program (λ x. x) bare_below b ≡ map_program (λ x. x) (λ x. x) c → d ≡ open_program opened_node c → d ≡ bare_program a
program_bare a b c d same below opening =
    opening ∙ ap (open_program opened_node) (sym (program_kept c) ∙ sym below ∙ ap (map_program (λ x. x) bare_below) (same_program a b same))

pub item_bare : (a b c d : ModuleItem AnyNode) → map_module_item (λ x. x) (λ x. x) a ≡ map_module_item (λ x. x) (λ x. x) b
    → map_module_item (λ x. x) bare_below b ≡ map_module_item (λ x. x) (λ x. x) c → d ≡ open_item opened_node c → d ≡ bare_item a
item_bare a b c d same below opening =
    opening ∙ ap (open_item opened_node) (sym (item_kept c) ∙ sym below ∙ ap (map_module_item (λ x. x) bare_below) (same_item a b same))

pub stmt_bare : (a b c d : Stmt AnyNode) → map_stmt (λ x. x) (λ x. x) a ≡ map_stmt (λ x. x) (λ x. x) b
    → map_stmt (λ x. x) bare_below b ≡ map_stmt (λ x. x) (λ x. x) c → d ≡ open_stmt opened_node c → d ≡ bare_stmt a
stmt_bare a b c d same below opening =
    opening ∙ ap (open_stmt opened_node) (sym (stmt_kept c) ∙ sym below ∙ ap (map_stmt (λ x. x) bare_below) (same_stmt a b same))

pub expr_bare : (a b c d e : Expr AnyNode) → map_expr (λ x. x) (λ x. x) a ≡ map_expr (λ x. x) (λ x. x) b
    → map_expr (λ x. x) bare_below b ≡ map_expr (λ x. x) (λ x. x) c → map_expr (λ x. x) (opened_node Value) c ≡ map_expr (λ x. x) (λ x. x) d
    → e ≡ out_of_pair expr_in d → e ≡ bare_expr a
expr_bare a b c d e same below opening out =
    let bared = sym (expr_kept c) ∙ sym below ∙ ap (map_expr (λ x. x) bare_below) (same_expr a b same) in
    out ∙ ap (out_of_pair expr_in) (sym (expr_kept d) ∙ sym opening ∙ ap (map_expr (λ x. x) (opened_node Value)) bared)
