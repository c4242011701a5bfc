use Rattle.std.proofs.Common.{◌≡◌, ◌++◌, ℕ, List, OnOk, OnErr, sym, subst}
use Rattle.std.specs.Str.{IsUtf8}
use Rattle.swc_ecma_codegen_text_writer.specs.Contents.{IsPrefix}
use Rattle.swc_ecma_codegen_text_writer.specs.Outlets.{bytes_so_far}
use Rattle.swc_ecma_codegen_text_writer.proofs.outlet.Outlet.write_array.Goals as goal

pub write_bytes-requires : goal.write_bytes-requires
write_bytes-requires g c = subst IsUtf8 (sym c.bytes_of-bytes.ensures) c.utf8.text

pub returns-clause-bytes : goal.returns-clause-bytes
returns-clause-bytes g c =
    let P : List ℕ → Type 0 = λ t. OnOk c.write_bytes.result (bytes_so_far c.write_bytes.new.self ≡ bytes_so_far c.args.self.now ++ t) in
    subst P c.bytes_of-bytes.ensures c.write_bytes.ensures.bytes

pub returns-clause-logged : goal.returns-clause-logged
returns-clause-logged g c =
    let P : List ℕ → Type 0 = λ t. OnOk c.write_bytes.result (c.write_bytes.new.self.log.bytes ≡ c.args.self.now.log.bytes ++ t) in
    subst P c.bytes_of-bytes.ensures c.write_bytes.ensures.logged

pub returns-clause-front : goal.returns-clause-front
returns-clause-front g c =
    let P : List ℕ → Type 0 = λ t. OnErr c.write_bytes.result (IsPrefix (bytes_so_far c.write_bytes.new.self) (bytes_so_far c.args.self.now ++ t)) in
    subst P c.bytes_of-bytes.ensures c.write_bytes.ensures.front
