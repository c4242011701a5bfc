use Rattle.std.proofs.Common.{◌<◌, ℕ, replicate, arith}
use Rattle.std.specs.Str.{IsAscii}
use Rattle.std.proofs.lemmas.List.Elements.{All-replicate}
use Rattle.std.proofs.lemmas.Str.Ascii.{IsAscii-from_all}
use Rattle.swc_ecma_codegen_requests.proofs.layouts.Indent.text.Goals as goal

-- ten times one character
all_ascii : (b : ℕ) → b < 128 → IsAscii (replicate 10 b)
all_ascii b p = IsAscii-from_all (replicate 10 b) (All-replicate (λ x. x < 128) 10 b p)

pub first-requires : goal.first-requires
first-requires c = all_ascii 32 (omega arith)

pub first-requires-in-Tabs : goal.first-requires-in-Tabs
first-requires-in-Tabs c = all_ascii 9 (omega arith)
