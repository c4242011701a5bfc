-- The text of an outlet.
use Rattle.std.specs.Prelude.{ℕ, List, ◌++◌}
use Rattle.std.specs.declared.io.traits.Write.{Ghosts}
use Rattle.swc_ecma_codegen_text_writer.specs.Contents.{or_empty}
use Rattle.swc_ecma_codegen_text_writer.specs.declared.outlet.Outlet.{Outlet}

-- the bytes that its writer said it has at first, and those that went out since
abbrev pub bytes_so_far : {W : Type 0} {g : Ghosts W} → Outlet W g → List ℕ
bytes_so_far {g = g} o = or_empty (g.contents o.before.value) ++ o.log.bytes
