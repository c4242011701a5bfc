use Rattle.std.proofs.Common.{◌≡◌, ◌++◌, arith, ap, ◌∙◌}
use Rattle.std.proofs.lemmas.Grind.{common_steps}
use Rattle.std.specs.Str.{is_utf8}
use Rattle.swc_ecma_codegen_text_writer.specs.Outlets.{bytes_so_far}
use Rattle.swc_ecma_codegen_text_writer.proofs.Text.{is_utf8-append}
use Rattle.swc_ecma_codegen_text_writer.proofs.outlet.Outlet.write_bytes.Goals as goal

-- the loop ends with all of the bytes sent, and a text joined on keeps what was text
pub returns-clause-whole : goal.returns-clause-whole
returns-clause-whole g c =
    let all : bytes_so_far c.loop-rest.self ≡ bytes_so_far c.args.self.now ++ c.args.bytes.now = grind (arith, common_steps) in
    ap is_utf8 all ∙ is_utf8-append _ _ c.requires
