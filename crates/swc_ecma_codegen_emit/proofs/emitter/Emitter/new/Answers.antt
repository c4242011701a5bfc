use Rattle.swc_ecma_codegen_grammar.specs.Comments.{maps_in}
use Rattle.swc_ecma_codegen_tokens.specs.PreviousToken.{last_at}
use Rattle.swc_ecma_codegen_tokens.specs.Run.{unlined}
use Rattle.swc_ecma_codegen_emit.proofs.emitter.Emitter.new.Goals as goal

pub returns-clause-state : goal.returns-clause-state
unfolding last_at
returns-clause-state g c = λ i.
    record {
      env = record { config = unlined c.args.cfg; max_line = c.args.cfg.max_line; keeps_invalid = (g.W.WriteJs.sheet c.args.wr).keeps_invalid; lines = g.S.SourceMapper.lines c.args.cm.now; maps = maps_in g.C.Comments.maps c.args.comments };
      sheet = g.W.WriteJs.sheet c.args.wr;
      last = last_at (c.new.ensures.token i);
      failed = c.new.ensures.failed i;
    }
