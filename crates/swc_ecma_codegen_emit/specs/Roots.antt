-- What can be printed as a whole, by its root.
use Rattle.std.specs.Prelude.{◌≡◌, Bool, true, false, is_some}
use Rattle.swc_ecma_codegen_tree.specs.declared.links.AnyNode.{AnyNode}
use Rattle.swc_ecma_codegen_tree.specs.declared.exprs.Expr.{Expr}
use Rattle.swc_ecma_codegen_tree.specs.declared.stmts.Stmt.{Stmt}
use Rattle.swc_ecma_codegen_tree.specs.declared.programs.Module.{Module}
use Rattle.swc_ecma_codegen_tree.specs.declared.programs.ModuleItem.{ModuleItem}
use Rattle.swc_ecma_codegen_tree.specs.declared.programs.Program.{Program}
use Rattle.swc_ecma_codegen_tree.specs.declared.programs.Program.TheVariants as programs
use Rattle.swc_ecma_codegen_tree.specs.declared.programs.Script.{Script}
use Rattle.swc_ecma_codegen_grammar.specs.StmtPhrases as lists
use Rattle.swc_ecma_codegen_grammar.specs.Phrases.{Phrase, Never, is_possible}
use Rattle.swc_ecma_codegen_grammar.specs.declared.roles.Role.{Role}
use Rattle.swc_ecma_codegen_grammar.specs.declared.roles.Role.TheVariants.{Child, TagObject}
use Rattle.swc_ecma_codegen_grammar.specs.TreePhrases.{phrase, expr_phrase, stmt_phrase, program_phrase}
use Rattle.swc_ecma_codegen_text_writer.specs.Sheet.{Flowing}
use Rattle.swc_ecma_codegen_tokens.specs.Run.{Part, State}
use Rattle.swc_ecma_codegen_tokens.specs.Written.{IsNew, IsAtMargin}
use Rattle.swc_ecma_codegen_emit.specs.Answers.{any_answers}
use Rattle.swc_ecma_codegen_emit.specs.Places.{Place, by_itself, in_context, placed}
use Rattle.swc_ecma_codegen_emit.specs.AnyExpr.{expr}
use Rattle.swc_ecma_codegen_emit.specs.Stmts.{stmt}
use Rattle.swc_ecma_codegen_emit.specs.Modules.{module_item}
use Rattle.swc_ecma_codegen_emit.specs.Programs.{whole_module, script, program, has_hashbang}
use Rattle.swc_ecma_codegen_emit.specs.Tree.{any_items}

-- an expression, a statement, an item of a module, a module, a script, a program, or what a link holds, in a role
pub data Root : Type 0 where
  OfExpr : (node : Expr AnyNode) → Root
  OfStmt : (node : Stmt AnyNode) → Root
  OfItem : (node : ModuleItem AnyNode) → Root
  OfModule : (node : Module AnyNode) → Root
  OfScript : (node : Script AnyNode) → Root
  OfProgram : (node : Program AnyNode) → Root
  OfLink : (node : AnyNode) → (role : Role) → Root

-- what is written of it at a place
abbrev pub root_at : Root → Place → Part
root_at (OfExpr n) = in_context (expr any_answers any_items n)
root_at (OfStmt n) = λ place. stmt any_answers any_items n
root_at (OfItem n) = λ place. module_item any_answers any_items n
root_at (OfModule n) = whole_module any_answers any_items n
root_at (OfScript n) = script any_answers any_items n
root_at (OfProgram n) = program any_answers any_items n
root_at (OfLink n role) = λ place. any_items n (placed role place)

-- and by itself
abbrev pub root_items : Root → Part
root_items n = by_itself (root_at n)

-- a module or a script: its lines may be bounded
abbrev pub is_program : Root → Bool
is_program (OfModule n) = true
is_program (OfScript n) = true
is_program (OfProgram n) = true
is_program n = false

-- A child of an element stands right behind a tag or text, and the object of a name in a tag behind `<`: neither is read by itself.
abbrev pub read_alone : Role → Phrase → Phrase
read_alone Child f = Never
read_alone TagObject f = Never
read_alone role f = f

-- what it is read as
abbrev pub root_phrase : Root → Phrase
root_phrase (OfExpr n) = expr_phrase n
root_phrase (OfStmt n) = stmt_phrase n
root_phrase (OfItem n) = lists.module_item phrase n
root_phrase (OfModule n) = program_phrase (programs.Module n)
root_phrase (OfScript n) = program_phrase (programs.Script n)
root_phrase (OfProgram n) = program_phrase n
root_phrase (OfLink n role) = read_alone role (phrase n role)

-- it is well-formed
abbrev pub is_well_formed_root : Root → Bool
is_well_formed_root n = is_possible (root_phrase n)

-- it begins with a hashbang
abbrev pub root_hashbang : Root → Bool
root_hashbang (OfModule n) = is_some n.shebang
root_hashbang (OfScript n) = is_some n.shebang
root_hashbang (OfProgram n) = has_hashbang n
root_hashbang n = false

-- An emission begins where the root may stand: what is written of a module or script goes out at once, and one with a hashbang stands first of
-- all in a text.
pub record MayBegin (n : Root) (s : State) : Type 0 where
  pub is_new : IsNew s
  pub flows : is_program n ≡ true → s.sheet.lines ≡ Flowing
  pub at_margin : root_hashbang n ≡ true → IsAtMargin s
