-- What is written of a module or script, where lines may be ended in it and where not.
use Rattle.std.proofs.Common.{◌≡◌, ℕ, Bool, true, refl}
use Rattle.swc_ecma_codegen_tree.specs.declared.programs.Program.TheVariants as programs
use Rattle.swc_ecma_codegen_tokens.specs.Run.{Part}
use Rattle.swc_ecma_codegen_tokens.specs.Words as calls
use Rattle.swc_ecma_codegen_emit.specs.declared.nodes.Context.TheVariants.{ByItself, Plain}
use Rattle.swc_ecma_codegen_emit.specs.Places.{Whole}
use Rattle.swc_ecma_codegen_emit.specs.Answers.{any_answers}
use Rattle.swc_ecma_codegen_emit.specs.Programs.{module_parts, script_parts, whole_module, script, program}
use Rattle.swc_ecma_codegen_emit.specs.Roots.{Root, OfExpr, OfStmt, OfItem, OfModule, OfScript, OfProgram, OfLink, is_program, root_at}
use Rattle.swc_ecma_codegen_emit.specs.Tree.{any_items}
use Rattle.swc_ecma_codegen_laws.proofs.NodesLifted.{in_trees}
use Rattle.swc_ecma_codegen_laws.proofs.OfWords.{OfWords}
use Rattle.swc_ecma_codegen_laws.proofs.ProgramsLifted.{module_parts_holds, script_parts_holds}

-- what stands in a program
abbrev pub program_parts : Root → Part
program_parts (OfModule n) = module_parts any_answers any_items n
program_parts (OfScript n) = script_parts any_answers any_items n
program_parts (OfProgram (programs.Module n)) = module_parts any_answers any_items n
program_parts (OfProgram (programs.Script n)) = script_parts any_answers any_items n
program_parts root = λ rest. rest

pub program_holds : {holds : Bool → Part → Type 0} (words : OfWords holds) (bounded : Bool) (root : Root) → is_program root ≡ true → holds bounded (program_parts root)
program_holds words bounded (OfExpr n) h = absurd (cc)
program_holds words bounded (OfStmt n) h = absurd (cc)
program_holds words bounded (OfItem n) h = absurd (cc)
program_holds words bounded (OfModule n) h = module_parts_holds (in_trees words) bounded n
program_holds words bounded (OfScript n) h = script_parts_holds (in_trees words) bounded n
program_holds words bounded (OfProgram (programs.Module n)) h = module_parts_holds (in_trees words) bounded n
program_holds words bounded (OfProgram (programs.Script n)) h = script_parts_holds (in_trees words) bounded n
program_holds words bounded (OfLink n role) h = absurd (cc)

pub plain_program : (root : Root) → is_program root ≡ true → root_at root (Whole Plain) ≡ program_parts root
unfolding whole_module script program
plain_program (OfExpr n) h = absurd (cc)
plain_program (OfStmt n) h = absurd (cc)
plain_program (OfItem n) h = absurd (cc)
plain_program (OfModule n) h = refl
plain_program (OfScript n) h = refl
plain_program (OfProgram (programs.Module n)) h = refl
plain_program (OfProgram (programs.Script n)) h = refl
plain_program (OfLink n role) h = absurd (cc)

pub lined_program : (root : Root) (max : ℕ) → is_program root ≡ true → root_at root (Whole (ByItself max)) ≡ calls.bounded max (program_parts root)
unfolding whole_module script program
lined_program (OfExpr n) max h = absurd (cc)
lined_program (OfStmt n) max h = absurd (cc)
lined_program (OfItem n) max h = absurd (cc)
lined_program (OfModule n) max h = refl
lined_program (OfScript n) max h = refl
lined_program (OfProgram (programs.Module n)) max h = refl
lined_program (OfProgram (programs.Script n)) max h = refl
lined_program (OfLink n role) max h = absurd (cc)
