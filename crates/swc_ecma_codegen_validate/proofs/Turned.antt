-- The names of a tree, by their characters.
use Rattle.std.proofs.Common.{◌≡◌, ℕ, ◌+◌, ◌/◌, ◌%◌, ◌<◌, ◌≤◌, ◌==◌, Bool, true, false, ◌&&◌, cond, List, [], ◌∷◌, ◌++◌, refl, sym, ap, ◌∙◌, inl, inr, arith, nat_lt}
use Rattle.std.proofs.lemmas.Bool.{cases_Bool, and_parts, true≢false}
use Rattle.std.proofs.lemmas.Bool.Decides.{nat_tests}
use Rattle.std.proofs.Math.Utf8.{encode, encodes}
use lib.Utf8.{scalar, scalars}
use Rattle.std.specs.Str.{chars, is_utf8, IsUtf8}
use Rattle.std.proofs.lemmas.Str.{encodes-chars, chars-encodes, scalars-chars, is_utf8-from_IsUtf8, encode_ascii}
use Rattle.swc_ecma_codegen_grammar.specs.Names.{is_name}
use Rattle.swc_ecma_codegen_grammar.specs.SpelledNames.{is_well_formed_name, spelled_name}
use Rattle.swc_ecma_codegen_grammar.specs.ValidNames.{turned, turned_after}

by_tests : (a z n : Bool) (b : ℕ) (rest : List ℕ) → z ≡ false → n ≡ false → cond (a && z) (turned_after false rest) (b ∷ turned_after n rest) ≡ b ∷ turned_after false rest
by_tests a true n b rest p q = absurd (true≢false p)
by_tests a false true b rest p q = absurd (true≢false q)
by_tests true false false b rest p q = refl
by_tests false false false b rest p q = refl

not_zero : (b : ℕ) → 128 ≤ b → (b == 0) ≡ false
not_zero b h = grind (arith, nat_tests)

not_backslash : (b : ℕ) → 128 ≤ b → (b == 92) ≡ false
not_backslash b h = grind (arith, nat_tests)

-- what is no ASCII character passes
passes : (a : Bool) (b : ℕ) (rest : List ℕ) → 128 ≤ b → turned_after a (b ∷ rest) ≡ b ∷ turned_after false rest
unfolding turned_after
passes a b rest h = by_tests a (b == 0) (b == 92) b rest (not_zero b h) (not_backslash b h)

high : (k x : ℕ) → 128 ≤ k → 128 ≤ k + x
high k x h = omega arith

many : (a x y z : Bool) (u v w n : ℕ) (b2 b3 b4 : ℕ) (c : ℕ) (rest : List ℕ) → x ≡ false → 128 ≤ b2 → 128 ≤ b3 → 128 ≤ b4 → 128 ≤ u → 128 ≤ v → 128 ≤ n → turned_after a (cond x (c ∷ []) (cond y (b2 ∷ n ∷ []) (cond z (b3 ∷ v ∷ n ∷ []) (b4 ∷ u ∷ v ∷ n ∷ []))) ++ rest) ≡ cond x (c ∷ []) (cond y (b2 ∷ n ∷ []) (cond z (b3 ∷ v ∷ n ∷ []) (b4 ∷ u ∷ v ∷ n ∷ []))) ++ turned_after false rest
many a true y z u v w n b2 b3 b4 c rest p h2 h3 h4 hu hv hn = absurd (true≢false p)
many a false true z u v w n b2 b3 b4 c rest p h2 h3 h4 hu hv hn = passes a b2 _ h2 ∙ ap (λ l. b2 ∷ l) (passes false n rest hn)
many a false false true u v w n b2 b3 b4 c rest p h2 h3 h4 hu hv hn = passes a b3 _ h3 ∙ ap (λ l. b3 ∷ l) (passes false v _ hv ∙ ap (λ l. v ∷ l) (passes false n rest hn))
many a false false false u v w n b2 b3 b4 c rest p h2 h3 h4 hu hv hn = passes a b4 _ h4 ∙ ap (λ l. b4 ∷ l) (passes false u _ hu ∙ ap (λ l. u ∷ l) (passes false v _ hv ∙ ap (λ l. v ∷ l) (passes false n rest hn)))

encoded : (a : Bool) (c : ℕ) (rest : List ℕ) → nat_lt c 128 ≡ false → turned_after a (encode c ++ rest) ≡ encode c ++ turned_after false rest
unfolding encode
encoded a c rest p = many a _ _ _ (128 + (c / 4096) % 64) (128 + (c / 64) % 64) 0 (128 + c % 64) (192 + c / 64) (224 + c / 4096) (240 + c / 262144) c rest p (high 192 _ (omega arith)) (high 224 _ (omega arith)) (high 240 _ (omega arith)) (high 128 _ (omega arith)) (high 128 _ (omega arith)) (high 128 _ (omega arith))

one_of : (w : Bool) (c : ℕ) (xs ys us vs : List ℕ) → c < 128 → us ≡ encodes xs → vs ≡ encodes ys → cond w us (c ∷ vs) ≡ encodes (cond w xs (c ∷ ys))
one_of true c xs ys us vs h e f = e
one_of false c xs ys us vs h e f = ap (λ l. c ∷ l) f ∙ ap (λ e. e ++ encodes ys) (sym (encode_ascii c h))

turned_encodes : (a : Bool) (cs : List ℕ) → turned_after a (encodes cs) ≡ encodes (turned_after a cs)
unfolding turned_after
turned_encodes a [] = refl
turned_encodes a (c ∷ cs) = elim (cases_Bool (nat_lt c 128)) [
  | inl low ↦
      let h : c < 128 = grind (arith, nat_tests) in
      ap (λ e. turned_after a (e ++ encodes cs)) (encode_ascii c h) ∙ one_of (a && (c == 0)) c _ _ _ _ h (turned_encodes false cs) (turned_encodes (c == 92) cs)
  | inr wide ↦
      let h : 128 ≤ c = grind (arith, nat_tests) in
      encoded a c (encodes cs) wide ∙ ap (λ l. encode c ++ l) (turned_encodes false cs) ∙ ap encodes (sym (passes a c cs h))
]

one_scalar : (w : Bool) (c : ℕ) (xs ys : List ℕ) → scalar c ≡ true → scalars xs ≡ true → scalars ys ≡ true → scalars (cond w xs (c ∷ ys)) ≡ true
one_scalar true c xs ys h e f = e
one_scalar false c xs ys h e f = ap (λ z. z && scalars ys) h ∙ f

turned_scalars : (a : Bool) (cs : List ℕ) → scalars cs ≡ true → scalars (turned_after a cs) ≡ true
unfolding turned_after
turned_scalars a [] h = refl
turned_scalars a (c ∷ cs) h =
    let p = and_parts (scalar c) (scalars cs) h in
    one_scalar (a && (c == 0)) c _ _ p.0 (turned_scalars false cs p.1) (turned_scalars (c == 92) cs p.1)

-- a name of a tree is well-formed where its characters are a name
pub name_by_characters : (bytes : List ℕ) → IsUtf8 bytes → is_well_formed_name bytes ≡ is_name (turned_after false (chars bytes))
unfolding is_well_formed_name spelled_name
name_by_characters bytes u =
    let cs = turned_after false (chars bytes) in
    let e : turned bytes ≡ encodes cs = ap (turned_after false) (sym (encodes-chars bytes u)) ∙ turned_encodes false (chars bytes) in
    let s : scalars cs ≡ true = turned_scalars false (chars bytes) (scalars-chars bytes u) in
    let utf8 : is_utf8 (turned bytes) ≡ true = is_utf8-from_IsUtf8 (turned bytes) (cs, (s, sym e)) in
    let same : chars (turned bytes) ≡ cs = ap chars e ∙ chars-encodes cs s in
    ap (λ z. z && is_name (chars (turned bytes))) utf8 ∙ ap is_name same
