-- Looks at short names.
use Rattle.std.proofs.Common.{◌≡◌, ℕ, suc, ◌+◌, ◌%◌, ◌^◌, ◌≤◌, Bool, true, false, cond, ◌==◌, List, [], ◌∷◌, length, map, replicate, w8, refl, sym, ap, ◌∙◌, arith}
use Rattle.std.proofs.lemmas.Bool.{eqb-true}
use Rattle.std.proofs.lemmas.Simd.{length-chunk, bitmask_splat, none_from_empty_mask}
use Rattle.std.specs.Bool.{OnTrue}
use lib.Lanes.{chunk, mask_l, zip2, top}
use Rattle.swc_ecma_codegen_literals.specs.ValidNames.{has_byte}
use Rattle.swc_ecma_codegen_tokens.specs.ShortNames.{LacksBetween}

on_true : (b : Bool) (P : Type 0) → (b ≡ true → P) → OnTrue b P
on_true true P f = f refl
on_true false P f = tt

-- no lane of a load is the byte
pub lacks_from_lanes : (byte : ℕ) (d : List ℕ) (i n : ℕ) → i + n ≤ length d → n ≤ 64
    → OnTrue (mask_l (map (top 7) (zip2 (λ a b. cond (a == b) 255 0) (chunk i n d) (replicate n byte))) % 2 ^ 64 == 0) (LacksBetween byte d i (i + n))
lacks_from_lanes byte d i n room few =
    on_true _ _ (λ e. none_from_empty_mask (λ x. x == byte) d i n 0 room (sym (bitmask_splat w8 (λ a b. a == b) (chunk i n d) n byte (length-chunk i n d room) few) ∙ eqb-true _ 0 e))

-- a text whose places lack a byte hasn't it
pub has_none : (byte : ℕ) (d : List ℕ) → LacksBetween byte d 0 (length d) → has_byte byte d ≡ false
unfolding has_byte
has_none byte [] h = refl
has_none byte (c ∷ cs) h = ap (λ b. cond b true (has_byte byte cs)) (h 0 (omega arith) (omega arith)) ∙ has_none byte cs (λ k p q. h (suc k) (omega arith) (omega arith))

pub none_where : (b : Bool) (byte : ℕ) (d : List ℕ) → OnTrue b (LacksBetween byte d 0 (length d)) → OnTrue b (has_byte byte d ≡ false)
none_where true byte d h = has_none byte d h
none_where false byte d h = tt
