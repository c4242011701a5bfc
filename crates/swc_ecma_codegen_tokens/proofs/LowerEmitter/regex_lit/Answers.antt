use Rattle.std.proofs.Common.{List, ℕ, Ok, string_bytes}
use Rattle.swc_ecma_codegen_grammar.specs.LitPhrases as phrases
use Rattle.swc_ecma_codegen_tokens.specs.Literals.{regex}
use Rattle.swc_ecma_codegen_tokens.specs.Lits.{regex_lit}
use Rattle.swc_ecma_codegen_tokens.proofs.LiteralTokens.LitPrints.{prints_regex}
use Rattle.swc_ecma_codegen_tokens.proofs.Reading.NodesSoFar.{does_text}
use Rattle.swc_ecma_codegen_tokens.proofs.Reading.TokensSoFar.{adds_list, regex_jointless}
use Rattle.swc_ecma_codegen_tokens.proofs.LowerEmitter.regex_lit.Goals as goal

pub returns-clause-reads : goal.returns-clause-reads
unfolding regex_lit
returns-clause-reads g c =
    let exp : List ℕ = c.as_str.result.now in
    let flags : List ℕ = c.as_str-2.result.now in
    adds_list (phrases.regex c.args.n.now) (regex_lit c.args.n.now) _ _ (Ok tt) (prints_regex _ c.args.n.now) (regex_jointless c.args.n.now)
    (does_text (λ z. regex z (string_bytes c.args.n.now.flags)) exp (string_bytes c.args.n.now.exp) _ _ (Ok tt) c.as_str.ensures.value (does_text (regex exp) flags (string_bytes c.args.n.now.flags) _ _ (Ok tt) c.as_str-2.ensures.value c.in_ok-regex.ensures.items))
