use Rattle.swc_ecma_codegen_tokens.proofs.Reading.SoFar.{space_so_far, formatting_space_so_far, line_so_far, formatting_line_so_far, commit_so_far, position_so_far, position_before_so_far, leading_so_far, trailing_so_far}
use Rattle.swc_ecma_codegen_tokens.proofs.Filling.BreakPrints.{break_so_far}
use Rattle.swc_ecma_codegen_tokens.proofs.laws.gaps_leave_the_tokens.Goals as goal

pub returns-clause-space : goal.returns-clause-space
returns-clause-space c = space_so_far

pub returns-clause-formatting_space : goal.returns-clause-formatting_space
returns-clause-formatting_space c = formatting_space_so_far

pub returns-clause-line : goal.returns-clause-line
returns-clause-line c = line_so_far

pub returns-clause-formatting_line : goal.returns-clause-formatting_line
returns-clause-formatting_line c = formatting_line_so_far

pub returns-clause-allow_break : goal.returns-clause-allow_break
returns-clause-allow_break c = break_so_far

pub returns-clause-commit : goal.returns-clause-commit
returns-clause-commit c = commit_so_far

pub returns-clause-position : goal.returns-clause-position
returns-clause-position c = position_so_far

pub returns-clause-position_before : goal.returns-clause-position_before
returns-clause-position_before c = position_before_so_far

pub returns-clause-leading : goal.returns-clause-leading
returns-clause-leading c = leading_so_far

pub returns-clause-trailing : goal.returns-clause-trailing
returns-clause-trailing c = trailing_so_far
