-- What the plain reader skips is the trivia before a token, and no less.
use Rattle.std.proofs.Common.{Bool, List, None, Option, Some, [], ap, append_assoc, ap₂, arith, codes, false, if◌then◌else◌, length, not, refl, sym, true, ℕ, ◌&&◌, ◌++◌, ◌+◌, ◌<◌, ◌==◌, ◌∙◌, ◌∷◌, ◌≡◌}
use Rattle.std.proofs.lemmas.Bool.{and_from, and_parts, and_right, cond-false, cond-true, eq-eqb, eqb-true, false_from_ne_true, not-true, true≢false}
use Rattle.std.proofs.lemmas.List.{length-append}
use Rattle.swc_ecma_codegen_grammar.proofs.Unique.{IsSolid, not_solid, same_piece}
use Rattle.swc_ecma_codegen_grammar.specs.Chars.{is_blank, is_line_end, is_one_line}
use Rattle.swc_ecma_codegen_grammar.specs.Skipping.{NoPiece, Skips, after_block, after_line, after_piece}
use Rattle.swc_ecma_codegen_grammar.specs.Texts.{begins}
use Rattle.swc_ecma_codegen_grammar.specs.Trivia.{Blank, BlockOf, LineOf, Piece, Remark, Trivia, all_pieces, is_open, is_piece, piece_text, pieces_text}

star_slash : (c d : ℕ) → ((c == 42) && (d == 47)) ≡ true → (c ≡ 42) × (d ≡ 47)
star_slash c d h = let p = and_parts (c == 42) (d == 47) h in (eqb-true c 42 p.0, eqb-true d 47 p.1)

same_some : {A : Type 0} {x y : A} → Some x ≡ Some y → x ≡ y
same_some e = cc e

none_is_no_some : {A : Type 0} {x : A} → None ≡ Some x → ⊥
none_is_no_some e = cc

-- what a block comment holds, up to its end
pub record BlockIn (text rest : List ℕ) : Type 0 where
  pub inner : List ℕ
  pub closed_once : is_open inner ≡ true
  pub is_text : text ≡ inner ++ (codes "*/" ++ rest)

empty_block : (c d : ℕ) (cs rest : List ℕ) → ((c == 42) && (d == 47)) ≡ true → Some cs ≡ Some rest → BlockIn (c ∷ d ∷ cs) rest
unfolding is_open
empty_block c d cs rest h e =
    let p = star_slash c d h in
    let r : cs ≡ rest = same_some e in
    record { inner = []; closed_once = refl; is_text = cc (p.0, p.1, r) }

not_closed : (c d : ℕ) (i : List ℕ) (rest cs : List ℕ) → ((c == 42) && (d == 47)) ≡ false → d ∷ cs ≡ i ++ (codes "*/" ++ rest) → begins (codes "*/") (c ∷ i) ≡ false
unfolding begins
not_closed c d [] rest cs h e = and_right (42 == c) false refl
not_closed c d (x ∷ i) rest cs h e =
    let same : d ≡ x = cc e in
    false_from_ne_true _ (λ t.
    let p = and_parts (42 == c) ((47 == x) && true) t in
    let q = and_parts (47 == x) true p.1 in
    let both : ((c == 42) && (d == 47)) ≡ true = and_from (c == 42) (d == 47) (eq-eqb c 42 (sym (eqb-true 42 c p.0))) (eq-eqb d 47 (same ∙ sym (eqb-true 47 x q.0))) in
    true≢false (sym both ∙ h))

longer_block : (c d : ℕ) (cs rest : List ℕ) → ((c == 42) && (d == 47)) ≡ false → BlockIn (d ∷ cs) rest → BlockIn (c ∷ d ∷ cs) rest
unfolding is_open
longer_block c d cs rest h b = record {
  inner = c ∷ b.inner;
  closed_once = and_from (not (begins (codes "*/") (c ∷ b.inner))) (is_open b.inner) (ap not (not_closed c d b.inner rest cs h b.is_text)) b.closed_once;
  is_text = ap (λ z. c ∷ z) b.is_text;
}

block_case : (b : Bool) (c d : ℕ) (cs rest : List ℕ) (later : Option (List ℕ)) → ((c == 42) && (d == 47)) ≡ b → (later ≡ Some rest → BlockIn (d ∷ cs) rest) → (if b then Some cs else later) ≡ Some rest → BlockIn (c ∷ d ∷ cs) rest
block_case true c d cs rest later h f e = empty_block c d cs rest h e
block_case false c d cs rest later h f e = longer_block c d cs rest h (f e)

pub block_found : (text rest : List ℕ) → after_block text ≡ Some rest → BlockIn text rest
unfolding after_block
block_found [] rest e = absurd (none_is_no_some e)
block_found (c ∷ []) rest e = absurd (none_is_no_some e)
block_found (c ∷ d ∷ cs) rest e = block_case ((c == 42) && (d == 47)) c d cs rest (after_block (d ∷ cs)) refl (block_found (d ∷ cs) rest) e

-- a block comment that is there is found
first_apart : (c : ℕ) (i v : List ℕ) → is_open (c ∷ i) ≡ true → (d : ℕ) × (cs : List ℕ) × (i ++ (codes "*/" ++ v) ≡ d ∷ cs) × (((c == 42) && (d == 47)) ≡ false)
unfolding is_open begins
first_apart c [] v h = (42, codes "/" ++ v, refl, and_right (c == 42) false refl)
first_apart c (x ∷ i) v h =
    let n = not-true _ (and_parts (not (begins (codes "*/") (c ∷ x ∷ i))) (is_open (x ∷ i)) h).0 in (
      x,
      i ++ (codes "*/" ++ v),
      refl,
      false_from_ne_true _ (λ t.
          let p = and_parts (c == 42) (x == 47) t in
          let k : ((42 == c) && ((47 == x) && true)) ≡ true = and_from (42 == c) _ (eq-eqb 42 c (sym (eqb-true c 42 p.0))) (and_from (47 == x) true (eq-eqb 47 x (sym (eqb-true x 47 p.1))) refl) in
          true≢false (sym k ∙ n)),
    )

step_block : (c d : ℕ) (cs : List ℕ) → ((c == 42) && (d == 47)) ≡ false → after_block (c ∷ d ∷ cs) ≡ after_block (d ∷ cs)
unfolding after_block
step_block c d cs h = cond-false ((c == 42) && (d == 47)) (Some cs) (after_block (d ∷ cs)) h

pub block_there : (i v : List ℕ) → is_open i ≡ true → after_block (i ++ (codes "*/" ++ v)) ≡ Some v
unfolding is_open after_block
block_there [] v h = refl
block_there (c ∷ i) v h =
    let f = first_apart c i v h in
    ap (λ z. after_block (c ∷ z)) f.2
    ∙ step_block c f.0 f.1 f.3
    ∙ ap after_block (sym f.2)
    ∙ block_there i v (and_parts (not (begins (codes "*/") (c ∷ i))) (is_open i) h).1

-- what a line comment holds, up to its end
pub record LineIn (text rest : List ℕ) : Type 0 where
  pub inner : List ℕ
  pub end : ℕ
  pub one : is_one_line inner ≡ true
  pub ends : is_line_end end ≡ true
  pub is_text : text ≡ inner ++ end ∷ rest

line_case : (b : Bool) (c : ℕ) (cs rest : List ℕ) (later : Option (List ℕ)) → is_line_end c ≡ b → (later ≡ Some rest → LineIn cs rest) → (if b then Some cs else later) ≡ Some rest → LineIn (c ∷ cs) rest
unfolding is_one_line
line_case true c cs rest later h f e = record { inner = []; end = c; one = refl; ends = h; is_text = ap (λ z. c ∷ z) (same_some e) }
line_case false c cs rest later h f e =
    let r = f e in
    record { inner = c ∷ r.inner; end = r.end; one = and_from (not (is_line_end c)) (is_one_line r.inner) (ap not h) r.one; ends = r.ends; is_text = ap (λ z. c ∷ z) r.is_text }

pub line_found : (text rest : List ℕ) → after_line text ≡ Some rest → LineIn text rest
unfolding after_line
line_found [] rest e = absurd (none_is_no_some e)
line_found (c ∷ cs) rest e = line_case (is_line_end c) c cs rest (after_line cs) refl (line_found cs rest) e

pub line_there : (i : List ℕ) (c : ℕ) (v : List ℕ) → is_one_line i ≡ true → is_line_end c ≡ true → after_line (i ++ c ∷ v) ≡ Some v
unfolding is_one_line after_line
line_there [] c v h e = cond-true (is_line_end c) (Some v) (after_line v) e
line_there (x ∷ i) c v h e =
    let p = and_parts (not (is_line_end x)) (is_one_line i) h in
    cond-false (is_line_end x) (Some (i ++ c ∷ v)) (after_line (i ++ c ∷ v)) (not-true _ p.0) ∙ line_there i c v p.1 e

-- a piece that was found
pub record PieceIn (text rest : List ℕ) : Type 0 where
  pub piece : Piece
  pub good : is_piece piece ≡ true
  pub is_text : text ≡ piece_text piece ++ rest

blank_in : (c : ℕ) (cs rest : List ℕ) → is_blank c ≡ true → Some cs ≡ Some rest → PieceIn (c ∷ cs) rest
unfolding is_piece piece_text
blank_in c cs rest h e = record { piece = Blank c; good = h; is_text = ap (λ z. c ∷ z) (same_some e) }

block_in : (c d : ℕ) (cs rest : List ℕ) → ((c == 47) && (d == 42)) ≡ true → after_block cs ≡ Some rest → PieceIn (c ∷ d ∷ cs) rest
unfolding is_piece piece_text
block_in c d cs rest h e =
    let p = and_parts (c == 47) (d == 42) h in
    let a : c ≡ 47 = eqb-true c 47 p.0 in
    let b : d ≡ 42 = eqb-true d 42 p.1 in
    let r = block_found cs rest e in
    record { piece = BlockOf r.inner; good = r.closed_once; is_text = ap₂ (λ x y. x ∷ y ∷ cs) a b ∙ ap (λ z. codes "/*" ++ z) (r.is_text ∙ sym (append_assoc r.inner (codes "*/") rest)) }

line_in : (c d : ℕ) (cs rest : List ℕ) → ((c == 47) && (d == 47)) ≡ true → after_line cs ≡ Some rest → PieceIn (c ∷ d ∷ cs) rest
unfolding is_piece piece_text
line_in c d cs rest h e =
    let p = and_parts (c == 47) (d == 47) h in
    let a : c ≡ 47 = eqb-true c 47 p.0 in
    let b : d ≡ 47 = eqb-true d 47 p.1 in
    let r = line_found cs rest e in
    record { piece = LineOf r.inner r.end; good = and_from (is_one_line r.inner) (is_line_end r.end) r.one r.ends; is_text = ap₂ (λ x y. x ∷ y ∷ cs) a b ∙ ap (λ z. codes "//" ++ z) (r.is_text ∙ sym (append_assoc r.inner (r.end ∷ []) rest)) }

piece_case : (b k l : Bool) (c d : ℕ) (cs rest : List ℕ) → is_blank c ≡ b → ((c == 47) && (d == 42)) ≡ k → ((c == 47) && (d == 47)) ≡ l → (if b then Some (d ∷ cs) else (if k then after_block cs else (if l then after_line cs else None))) ≡ Some rest → PieceIn (c ∷ d ∷ cs) rest
piece_case true k l c d cs rest h i j e = blank_in c (d ∷ cs) rest h e
piece_case false true l c d cs rest h i j e = block_in c d cs rest i e
piece_case false false true c d cs rest h i j e = line_in c d cs rest j e
piece_case false false false c d cs rest h i j e = absurd (none_is_no_some e)

lone_case : (b : Bool) (c : ℕ) (rest : List ℕ) → is_blank c ≡ b → (if b then Some [] else None) ≡ Some rest → PieceIn (c ∷ []) rest
lone_case true c rest h e = blank_in c [] rest h e
lone_case false c rest h e = absurd (none_is_no_some e)

pub piece_found : (text rest : List ℕ) → after_piece text ≡ Some rest → PieceIn text rest
unfolding after_piece
piece_found [] rest e = absurd (none_is_no_some e)
piece_found (c ∷ []) rest e = lone_case (is_blank c) c rest refl e
piece_found (c ∷ d ∷ cs) rest e = piece_case (is_blank c) ((c == 47) && (d == 42)) ((c == 47) && (d == 47)) c d cs rest refl refl refl e

blank_there : (c : ℕ) (v : List ℕ) → is_blank c ≡ true → after_piece (c ∷ v) ≡ Some v
unfolding after_piece
blank_there c [] h = cond-true (is_blank c) (Some []) None h
blank_there c (d ∷ cs) h = cond-true (is_blank c) (Some (d ∷ cs)) _ h

pub piece_there : (p : Piece) (v : List ℕ) → is_piece p ≡ true → after_piece (piece_text p ++ v) ≡ Some v
unfolding is_piece piece_text after_piece is_blank
piece_there (Blank c) v h = blank_there c v h
piece_there (BlockOf t) v h = ap after_block (append_assoc t (codes "*/") v) ∙ block_there t v h
piece_there (LineOf t c) v h = let p = and_parts (is_one_line t) (is_line_end c) h in ap after_line (append_assoc t (c ∷ []) v) ∙ line_there t c v p.0 p.1

pub no_piece : (text : List ℕ) → after_piece text ≡ None → NoPiece text
no_piece text e p v h f = none_is_no_some (sym e ∙ ap after_piece f ∙ piece_there p v h)

-- nothing is skipped, or a piece and then more
pub skips_none : (text : List ℕ) → after_piece text ≡ None → Skips text text
unfolding all_pieces pieces_text
skips_none text e = record { pieces = []; each = refl; is_text = refl; none = no_piece text e }

pub skips_more : (text more rest : List ℕ) → after_piece text ≡ Some more → Skips more rest → Skips text rest
unfolding all_pieces pieces_text
skips_more text more rest e s =
    let p = piece_found text more e in
    record {
      pieces = p.piece ∷ s.pieces;
      each = and_from (is_piece p.piece) (all_pieces s.pieces) p.good s.each;
      is_text = p.is_text ∙ ap (λ z. piece_text p.piece ++ z) s.is_text ∙ sym (append_assoc (piece_text p.piece) (pieces_text s.pieces) rest);
      none = s.none;
    }

piece_length : (p : Piece) → 0 < length (piece_text p)
unfolding piece_text
piece_length (Blank c) = omega arith
piece_length (BlockOf t) = omega arith
piece_length (LineOf t c) = omega arith

-- what is left is shorter
pub piece_shorter : (text rest : List ℕ) → after_piece text ≡ Some rest → length rest < length text
piece_shorter text rest e =
    let p = piece_found text rest e in
    let l : length text ≡ length (piece_text p.piece) + length rest = ap length p.is_text ∙ length-append (piece_text p.piece) rest in
    let s : 0 < length (piece_text p.piece) = piece_length p.piece in
    omega (arith, l, s)

-- the trivia before a place where none begin are one
pub same_skip : (ps qs : List Piece) (u v : List ℕ) → all_pieces ps ≡ true → all_pieces qs ≡ true → pieces_text ps ++ u ≡ pieces_text qs ++ v → NoPiece u → NoPiece v → u ≡ v
unfolding all_pieces pieces_text
same_skip [] [] u v h k e s t = e
same_skip [] (q ∷ qs) u v h k e s t = absurd (s q (pieces_text qs ++ v) (and_parts (is_piece q) (all_pieces qs) k).0 (e ∙ append_assoc (piece_text q) (pieces_text qs) v))
same_skip (p ∷ ps) [] u v h k e s t = absurd (t p (pieces_text ps ++ u) (and_parts (is_piece p) (all_pieces ps) h).0 (sym e ∙ append_assoc (piece_text p) (pieces_text ps) u))
same_skip (p ∷ ps) (q ∷ qs) u v h k e s t =
    let a = and_parts (is_piece p) (all_pieces ps) h in
    let b = and_parts (is_piece q) (all_pieces qs) k in
    let one = same_piece p q (pieces_text ps ++ u) (pieces_text qs ++ v) a.0 b.0 (sym (append_assoc (piece_text p) (pieces_text ps) u) ∙ e ∙ append_assoc (piece_text q) (pieces_text qs) v) in
    same_skip ps qs u v a.1 b.1 one.1 s t

pub solid_no_piece : (u : List ℕ) → IsSolid u → NoPiece u
solid_no_piece u s p v h e = not_solid p v u h e s

-- what is skipped is the trivia before what is solid
pub skipped : (text rest gap u : List ℕ) (cs : List Remark) → Skips text rest → Trivia gap cs → text ≡ gap ++ u → NoPiece u → rest ≡ u
skipped text rest gap u cs s t e n = same_skip s.pieces t.pieces rest u s.each t.each (sym s.is_text ∙ e ∙ ap (λ z. z ++ u) t.is_text) s.none n
