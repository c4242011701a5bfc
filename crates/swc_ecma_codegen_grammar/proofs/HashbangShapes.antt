-- What may go on after a hashbang: what is no line end.
use Rattle.std.proofs.Common.{List, [], false, not, sym, true, ℕ, ◌++◌, ◌==◌, ◌∷◌, ◌≡◌}
use Rattle.std.proofs.lemmas.Bool.{and_parts, not-true, true≢false}
use Rattle.swc_ecma_codegen_grammar.specs.Chars.{is_line_end, is_one_line}
use Rattle.swc_ecma_codegen_grammar.specs.Hashbangs.{is_hashbang}
use Rattle.swc_ecma_codegen_grammar.specs.Texts.{begins}

next_in_line : (t : List ℕ) (c : ℕ) (m : List ℕ) → is_one_line (t ++ c ∷ m) ≡ true → is_line_end c ≡ false
unfolding is_one_line
next_in_line [] c m h = not-true (is_line_end c) (and_parts (not (is_line_end c)) (is_one_line m) h).0
next_in_line (x ∷ xs) c m h = next_in_line xs c m (and_parts (not (is_line_end x)) (is_one_line (xs ++ c ∷ m)) h).1

pub hashbang_more : (t : List ℕ) (c : ℕ) (m : List ℕ) → is_hashbang t ≡ true → is_hashbang (t ++ c ∷ m) ≡ true → is_line_end c ≡ false
unfolding is_hashbang
hashbang_more [] c m h k = absurd (true≢false (sym h))
hashbang_more (x ∷ xs) c m h k = next_in_line xs c m (and_parts (begins (33 ∷ []) (xs ++ c ∷ m)) (is_one_line (xs ++ c ∷ m)) (and_parts (x == 35) _ k).1).1

pub hashbang_head : (c : ℕ) (n : List ℕ) → is_hashbang (c ∷ n) ≡ true → (c == 35) ≡ true
unfolding is_hashbang
hashbang_head c n h = (and_parts (c == 35) _ h).0

pub some_hashbang : is_hashbang [] ≡ true → ⊥
unfolding is_hashbang
some_hashbang h = true≢false (sym h)
