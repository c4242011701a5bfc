use Rattle.std.proofs.Common.{◌≡◌, [], ◌∷◌, ◌+◌, ◌^◌, min, ℕ, get_or, ap, sym, ◌∙◌}
use Rattle.swc_ecma_codegen_text_writer.proofs.Counting.{not_end, unit, one_byte, stands_byte, stands_byte_end}
use Rattle.swc_ecma_codegen_text_writer.proofs.columns.Column.pass_byte.Goals as goal

pub returns-then-is_one_column : goal.returns-then-is_one_column
returns-then-is_one_column c = λ p s.
    let b : ℕ = get_or c.as_bytes.result.now 0 0 in
    let e : c.args.text.now ≡ b ∷ [] = one_byte c.args.text.now c.requires ∙ ap (λ t. get_or t 0 0 ∷ []) (sym c.as_bytes.ensures.value) in
    let k = sym c.is_one_column.ensures ∙ c.if-is_one_column.true in
    stands_byte c.args.self.now.units _ b c.args.text.now p e (not_end b k) (c.next-self.ensures.value ∙ ap (λ n. min (c.args.self.now.units + n) (2 ^ 32)) (sym (unit b k))) s

pub returns-then-is_line_end : goal.returns-then-is_line_end
returns-then-is_line_end c = λ p s.
    let b : ℕ = get_or c.as_bytes.result.now 0 0 in
    let e : c.args.text.now ≡ b ∷ [] = one_byte c.args.text.now c.requires ∙ ap (λ t. get_or t 0 0 ∷ []) (sym c.as_bytes.ensures.value) in
    stands_byte_end _ b c.args.text.now p e (sym c.is_line_end.ensures ∙ c.if-is_line_end.true) s

pub returns-else-is_line_end : goal.returns-else-is_line_end
returns-else-is_line_end c = λ p s.
    let b : ℕ = get_or c.as_bytes.result.now 0 0 in
    let e : c.args.text.now ≡ b ∷ [] = one_byte c.args.text.now c.requires ∙ ap (λ t. get_or t 0 0 ∷ []) (sym c.as_bytes.ensures.value) in
    let u = c.units.ensures.value in
    let a = c.next-self-else-is_line_end.ensures.value in
    stands_byte _ _ b c.args.text.now p e (sym c.is_line_end.ensures ∙ c.if-is_line_end.false) (rw u at a) s
