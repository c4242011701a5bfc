use Rattle.std.proofs.Common.{◌≡◌, ◌∙◌, ap, ◌∷◌, List, ℕ, arith, ◌<◌, length}
use Rattle.std.specs.Str.{chars}
use Rattle.swc_ecma_codegen_literals.proofs.TemplatePieces.{hex_front, hex_rest}
use Rattle.swc_ecma_codegen_literals.proofs.templates.split_hex.Goals as goal

pub returns-in_default-hex_digits_piece : goal.returns-in_default-hex_digits_piece
returns-in_default-hex_digits_piece c =
    let e : chars c.args.raw.now ≡ c.in-Some.first ∷ c.in-Some-split_char.second ∷ chars c.in-Some-split_char.rest.now = c.in-Some.ensures.chars ∙ ap (λ (x : List ℕ). c.in-Some.first ∷ x) c.in-Some-split_char.ensures.chars in
    let l : length c.in-Some.after.now < length c.args.raw.now = c.in-Some.ensures.shorter in
    let m : length c.in-Some-split_char.rest.now < length c.in-Some.after.now = c.in-Some-split_char.ensures.shorter in
    record {
      piece = hex_front c.in-Some.first c.in-Some-split_char.second (chars c.in-Some-split_char.rest.now) (chars c.args.raw.now) c.hex_digits_piece.result e c.hex_digits_piece.ensures;
      rest = hex_rest c.in-Some.first c.in-Some-split_char.second (chars c.in-Some-split_char.rest.now) (chars c.args.raw.now) c.hex_digits_piece.result e c.hex_digits_piece.ensures c.in_default-hex_digits_piece.not-Backslashed;
      text = c.in-Some-split_char.ensures.text;
      shorter = omega (arith, l, m);
    }
