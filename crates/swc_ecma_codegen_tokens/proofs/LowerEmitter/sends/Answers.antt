use Rattle.std.proofs.Common.{Err, sym, subst}
use Rattle.swc_ecma_codegen_common.specs.declared.errors.Refusal.{Refusal}
use Rattle.swc_ecma_codegen_text_writer.specs.Sheet.{Sheet, Str, Writes}
use Rattle.swc_ecma_codegen_tokens.proofs.LowerEmitter.sends.Goals as goal

pub returns-clause-writes : goal.returns-clause-writes
returns-clause-writes g c =
    let t = c.args.text.now in
    let old = g.W.WriteJs.sheet c.args.wr.now in
    let P : Sheet → Type 0 = λ z. Writes (Str t) old z (Err c.give_up_sent.new.self.reason) in
    let Q : Refusal → Type 0 = λ e. Writes (Str t) old (g.W.WriteJs.sheet c.writes_in_line.new.self) (Err e) in
    subst P (sym c.give_up_sent.ensures.sheet) (subst Q (sym c.give_up_sent.ensures.reason) c.if-writes_in_line.ensures)
