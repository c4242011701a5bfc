-- What a part writes where lines have another greatest length than around it, or none.
use Rattle.std.proofs.Common.{ℕ, Option}
use Rattle.swc_ecma_codegen_grammar.specs.Phrases.{Phrase}
use Rattle.swc_ecma_codegen_tokens.specs.Run.{Env, Part, nothing, with_max_line}
use Rattle.swc_ecma_codegen_tokens.specs.Written.{Spot}
use Rattle.swc_ecma_codegen_tokens.proofs.Emission.PartSteps.{NamedBy, IsSafe}
use Rattle.swc_ecma_codegen_tokens.proofs.Reading.Phrased.{PrintsOn}
use Rattle.swc_ecma_codegen_tokens.proofs.Filling.Shapes.{Shape}

-- the same with another greatest length of lines, or with none
abbrev pub at_length : Option ℕ → Env → Env
at_length max env = record env { max_line = max }

-- tokens don't go by it: what a part writes there it writes inside of one with another
pub prints_at_length : {v w : Spot} {i : Shape} {f : Phrase} (max : Option ℕ) (env : Env) (p : Part) → PrintsOn v w i (at_length max env) p f → PrintsOn v w i env (with_max_line max p) f
unfolding with_max_line NamedBy IsSafe nothing
prints_at_length max env p h = record {
  where_possible = λ k o maps.
      let b = h.where_possible k o maps in
      let m = b.writes in
      record {
        tokens = b.tokens;
        generated = b.generated;
        plain = λ e. b.plain (record { no_comments = e.no_comments; no_source = e.no_source });
        writes = record {
          steps = m.steps;
          is_steps = λ rest. m.is_steps (λ inner. rest (record inner { max_line = env.max_line }));
          lays = m.lays;
          remakes = m.remakes;
          inner = m.inner;
          deep = m.deep;
          hands = record { ascii = m.hands.ascii; keeps = m.hands.keeps; strings = m.hands.strings };
          comment_texts = m.comment_texts;
        };
        named = b.named;
        placed = record { stands = b.placed.stands };
        safe = b.safe;
      };
  where_out = λ k o maps rest. h.where_out k o maps (λ inner. rest (record inner { max_line = env.max_line }));
}
