use Rattle.std.proofs.Common.{sym, ◌∙◌, ap, length, ◌++◌}
use Rattle.std.specs.Char.{encode_utf8}
use Rattle.swc_ecma_codegen_literals.proofs.Runs.{run_cut, run_each, run_more, run_all}
use Rattle.swc_ecma_codegen_literals.proofs.strings.split_run.Goals as goal

pub split_at-requires : goal.split_at-requires
split_at-requires c = run_cut c.loop-c.invariant.2 c.loop-c.invariant.0

pub returns-then-not-stands-clause-run : goal.returns-then-not-stands-clause-run
returns-then-not-stands-clause-run c = run_each _ _ _ _ c.loop-c.invariant.2 c.split_at.ensures.front

pub loop-c-preserved : goal.loop-c-preserved
loop-c-preserved c = (
  c.as_str-rest.utf8,
  c.as_str-rest.ensures,
  run_more _ _ _ _ c.in-Some.c c.loop-c.invariant.2 c.loop-c.invariant.0
      (c.loop-c.invariant.1 ∙ (c.in-Some.ensures.steps.0 ∙ ap (λ x. encode_utf8 c.in-Some.c ++ x) (sym c.as_str-rest.ensures)))
      (sym c.stands.ensures ∙ c.if-not-stands.false),
)

pub returns-clause-run : goal.returns-clause-run
returns-clause-run c = run_all _ _ _ c.loop-c.invariant.2 (ap length c.loop-c.invariant.1 ∙ c.in_default.ensures.steps.0.0)
