use Rattle.swc_ecma_codegen_requests.proofs.Parts.{part_of_cuts}
use Rattle.swc_ecma_codegen_requests.proofs.ids.within.Goals as goal

pub returns : goal.returns
returns c = part_of_cuts c.args.text.now c.in_ok-front.front.now c.in_ok-found.found.now c.trim_end_matches-ended.result.now c.trim_start_matches.result.now c.args.to c.args.from c.in_ok-front.ensures.front c.in_ok-found.ensures.back c.trim_end_matches-ended.ensures.value c.trim_start_matches.ensures.value
