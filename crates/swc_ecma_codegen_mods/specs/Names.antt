-- Names with `b` for `a`. Where in memory a name lies is no part of what it says, so each `b` is compared as one and the same string, `text_b`.
use Rattle.std.specs.Prelude.{refl, if◌then◌else◌, ◌||◌, codes, string_bytes}
use Rattle.std.specs.Str.{IsUtf8, bytes_eq}
use Rattle.std.specs.declared.alloc.Global.{Global}
use Rattle.std.specs.declared.string.String.{String}
use Rattle.std.proofs.Math.Nat.{le_refl}
use Rattle.std.proofs.Math.Dec.{lit<}
use lib.Utf8.{encode}
use denote.RawPtr.{null_ptr}
use Rattle.swc_ecma_codegen_tree.specs.declared.idents.Ident.{Ident}

pub b_is_text : IsUtf8 (codes "b")
unfolding encode
b_is_text = (codes "b", (refl, refl))

-- the string that `b` is compared as
unfoldable pub text_b : String Global
text_b = record {
  bytes = record { ptr = null_ptr; len = 1; cap = 1; alloc = record { memory = record { seal = tt } }; items = codes "b"; ok = (refl, le_refl 1); small = lit< tt };
  ok = ∣ b_is_text ∣₁;
}

-- a name `a` or `b` as `b`, and each other one as it is
abbrev pub renamed : Ident → Ident
renamed n = if bytes_eq (string_bytes n.sym) (codes "a") || bytes_eq (string_bytes n.sym) (codes "b") then record n { sym = text_b } else n

-- a name `b` by that string, and each other one as it is
abbrev pub spelled : Ident → Ident
spelled n = if bytes_eq (string_bytes n.sym) (codes "b") then record n { sym = text_b } else n
