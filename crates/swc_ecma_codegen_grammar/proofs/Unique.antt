-- For given kinds of tokens a text reads as one list at most, with one list of remarks.
use Rattle.std.proofs.Common.{Bool, List, [], ap, append-nil, append_assoc, ap₂, codes, false, inl, inr, not, refl, subst, sym, true, ℕ, ◌&&◌, ◌++◌, ◌==◌, ◌∙◌, ◌∷◌, ◌≡◌, ◌⊎◌}
use Rattle.std.proofs.lemmas.Bool.{and_parts, not-true, true≢false}
use Rattle.swc_ecma_codegen_grammar.proofs.Conditions.{same_line_unspelled}
use Rattle.swc_ecma_codegen_grammar.proofs.Heads.{AsClose, AsMark, AsRegex, AsText, HasHead, Head, Plain, has_head, head_of, plain_solid}
use Rattle.swc_ecma_codegen_grammar.proofs.Marks.{mark_head}
use Rattle.swc_ecma_codegen_grammar.proofs.RegexShapes.{regex_head}
use Rattle.swc_ecma_codegen_grammar.specs.Chars.{is_blank, is_line_end, is_one_line}
use Rattle.swc_ecma_codegen_grammar.specs.LongestMatch.{IsLongest, Stands, openers}
use Rattle.swc_ecma_codegen_grammar.specs.Punctuators.{punctuators}
use Rattle.swc_ecma_codegen_grammar.specs.Reads.{Reads, ReadsOn, is_child, is_close_by, kinds_of}
use Rattle.swc_ecma_codegen_grammar.specs.RegularExpressions.{is_regex}
use Rattle.swc_ecma_codegen_grammar.specs.Texts.{begins, is_among, is_same}
use Rattle.swc_ecma_codegen_grammar.specs.Tokens.{Child, Spells, Token, goal, has_shape, value_of, same_line}
use Rattle.swc_ecma_codegen_grammar.specs.Trivia.{Blank, BlockOf, LineOf, Piece, Remark, Trivia, all_pieces, is_open, is_piece, piece_text, pieces_text, remarks_of}
use Rattle.swc_ecma_codegen_grammar.specs.declared.kinds.Kind.{Kind}
use Rattle.swc_ecma_codegen_grammar.specs.declared.kinds.Kind.TheVariants.{JsxText}

-- no trivia begin here
unfoldable pub begins_blank : List ℕ → Bool
begins_blank [] = false
begins_blank (c ∷ cs) = is_blank c

pub record IsSolid (u : List ℕ) : Type 0 where
  pub blank : begins_blank u ≡ false
  pub line : begins (codes "//") u ≡ false
  pub block : begins (codes "/*") u ≡ false

pub nothing_solid : IsSolid []
unfolding begins_blank begins
nothing_solid = record { blank = refl; line = refl; block = refl }

plain_blank : (t rest : List ℕ) → HasHead t → begins_blank (t ++ rest) ≡ false
unfolding begins_blank
plain_blank t rest (has_head c n e h) = subst (λ z. begins_blank (z ++ rest) ≡ false) (sym e) (plain_solid c h)

regex_blank : (t rest : List ℕ) → is_regex t ≡ true → begins_blank (t ++ rest) ≡ false
unfolding begins_blank is_blank
regex_blank t rest h = subst (λ z. begins_blank (z ++ rest) ≡ false) (sym (regex_head t h).2) refl

mark_blank : (t rest : List ℕ) → is_among t punctuators ≡ true → begins_blank (t ++ rest) ≡ false
unfolding begins_blank
mark_blank t rest h = let a = mark_head t h in subst (λ z. begins_blank (z ++ rest) ≡ false) (sym a.2) a.3.blank

text_is_child : (x : Kind) → x ≡ JsxText → goal x ≡ Child
unfolding goal
text_is_child x e = ap goal e

close_blank : (t rest : List ℕ) → t ≡ codes ">" → begins_blank (t ++ rest) ≡ false
unfolding begins_blank is_blank
close_blank t rest e = subst (λ z. begins_blank (z ++ rest) ≡ false) (sym e) refl

blank_case : (x : Kind) (t rest : List ℕ) → (goal x ≡ Child → ⊥) → Head x t → begins_blank (t ++ rest) ≡ false
blank_case x t rest g (Plain h) = plain_blank t rest h
blank_case x t rest g (AsMark h e) = mark_blank t rest h
blank_case x t rest g (AsRegex h) = regex_blank t rest h
blank_case x t rest g (AsText e) = absurd (g (text_is_child x e))
blank_case x t rest g (AsClose e) = close_blank t rest e

head_blank : (x : Kind) (t rest : List ℕ) → (goal x ≡ Child → ⊥) → has_shape x t ≡ true → begins_blank (t ++ rest) ≡ false
head_blank x t rest g h = blank_case x t rest g (head_of x t h)

pub line_opener : is_among (codes "//") openers ≡ true
unfolding is_among is_same openers
line_opener = refl

pub block_opener : is_among (codes "/*") openers ≡ true
unfolding is_among is_same openers
block_opener = refl

pub solid : (x : Token) (t rest : List ℕ) → (goal x.kind ≡ Child → ⊥) → IsLongest x t rest → IsSolid (t ++ rest)
solid x t rest g l = record { blank = head_blank x.kind t rest g l.stands.spells.shape; line = l.no_comment g (codes "//") line_opener; block = l.no_comment g (codes "/*") block_opener }

-- of two fronts of one text one goes on with the other
pub fronts : (a b u v : List ℕ) → a ++ u ≡ b ++ v → ((m : List ℕ) × (b ≡ a ++ m) × (u ≡ m ++ v)) ⊎ ((m : List ℕ) × (a ≡ b ++ m) × (v ≡ m ++ u))
fronts [] b u v e = inl (b, refl, e)
fronts (x ∷ a) [] u v e = inr (x ∷ a, refl, sym e)
fronts (x ∷ a) (y ∷ b) u v e =
    let h : x ≡ y = cc e in
    elim (fronts a b u v (cc e)) [ inl r ↦ inl (r.0, cc (h, r.1), r.2) | inr r ↦ inr (r.0, cc (h, r.1), r.2) ]

-- a comment ends at one place
one_line_end : (a b : List ℕ) (c d : ℕ) (u v : List ℕ) → is_one_line a ≡ true → is_one_line b ≡ true → is_line_end c ≡ true → is_line_end d ≡ true → a ++ c ∷ u ≡ b ++ d ∷ v → (a ≡ b) × (c ≡ d) × (u ≡ v)
unfolding is_one_line
one_line_end [] [] c d u v h k x y e = (refl, cc e, cc e)
one_line_end [] (b ∷ bs) c d u v h k x y e = let f : b ≡ c = cc e in absurd (true≢false (sym x ∙ subst (λ z. is_line_end z ≡ false) f (not-true _ (and_parts (not (is_line_end b)) (is_one_line bs) k).0)))
one_line_end (a ∷ as') [] c d u v h k x y e = let f : a ≡ d = cc e in absurd (true≢false (sym y ∙ subst (λ z. is_line_end z ≡ false) f (not-true _ (and_parts (not (is_line_end a)) (is_one_line as') h).0)))
one_line_end (a ∷ as') (b ∷ bs) c d u v h k x y e =
    let r = one_line_end as' bs c d u v (and_parts (not (is_line_end a)) (is_one_line as') h).1 (and_parts (not (is_line_end b)) (is_one_line bs) k).1 x y (cc e) in
    (cc (e, r.0), r.1, r.2)

slash_is_no_star : ◌≡◌ {A = ℕ} 47 42 → ⊥
slash_is_no_star e = true≢false (sym (ap (λ z. z == 42) e))

second : {a b c d : ℕ} {u v : List ℕ} → a ∷ b ∷ u ≡ c ∷ d ∷ v → b ≡ d
second e = cc e

-- `*/` is not within what is open
ends_here : (b : ℕ) (bs v : List ℕ) (u : List ℕ) → 42 ∷ 47 ∷ u ≡ b ∷ (bs ++ (codes "*/" ++ v)) → (not (begins (codes "*/") (b ∷ bs)) && is_open bs) ≡ true → ⊥
unfolding begins
ends_here b [] v u e h = slash_is_no_star (second e)
ends_here b (c ∷ bs) v u e h =
    let x : 42 ≡ b = cc e in
    let y : 47 ≡ c = cc e in
    let n = not-true _ (and_parts (not (begins (codes "*/") (b ∷ c ∷ bs))) (is_open (c ∷ bs)) h).0 in
    true≢false (subst (λ z. begins (codes "*/") (42 ∷ z ∷ bs) ≡ false) (sym y) (subst (λ z. begins (codes "*/") (z ∷ c ∷ bs) ≡ false) (sym x) n))

one_block_end : (a b u v : List ℕ) → is_open a ≡ true → is_open b ≡ true → a ++ (codes "*/" ++ u) ≡ b ++ (codes "*/" ++ v) → (a ≡ b) × (u ≡ v)
unfolding is_open
one_block_end [] [] u v h k e = (refl, cc e)
one_block_end [] (b ∷ bs) u v h k e = absurd (ends_here b bs v u e k)
one_block_end (a ∷ as') [] u v h k e = absurd (ends_here a as' u v (sym e) h)
one_block_end (a ∷ as') (b ∷ bs) u v h k e =
    let r = one_block_end as' bs u v (and_parts (not (begins (codes "*/") (a ∷ as'))) (is_open as') h).1 (and_parts (not (begins (codes "*/") (b ∷ bs))) (is_open bs) k).1 (cc e) in
    (cc (e, r.0), r.1)

slash_is_no_blank : (c : ℕ) → is_blank c ≡ true → c ≡ 47 → ⊥
unfolding is_blank
slash_is_no_blank c h e = true≢false (sym h ∙ subst (λ z. is_blank z ≡ false) (sym e) refl)

-- two pieces at one place are one
pub same_piece : (p q : Piece) (u v : List ℕ) → is_piece p ≡ true → is_piece q ≡ true → piece_text p ++ u ≡ piece_text q ++ v → (p ≡ q) × (u ≡ v)
unfolding is_piece piece_text is_blank
same_piece (Blank c) (Blank d) u v h k e = (ap Blank (cc e), cc e)
same_piece (Blank c) (BlockOf t) u v h k e = absurd (slash_is_no_blank c h (cc e))
same_piece (Blank c) (LineOf t d) u v h k e = absurd (slash_is_no_blank c h (cc e))
same_piece (BlockOf t) (Blank d) u v h k e = absurd (slash_is_no_blank d k (cc e))
same_piece (BlockOf s) (BlockOf t) u v h k e =
    let f : 42 ∷ ((s ++ codes "*/") ++ u) ≡ 42 ∷ ((t ++ codes "*/") ++ v) = cc e in
    let g : (s ++ codes "*/") ++ u ≡ (t ++ codes "*/") ++ v = cc f in
    let r = one_block_end s t u v h k (sym (append_assoc s (codes "*/") u) ∙ g ∙ append_assoc t (codes "*/") v) in
    (ap BlockOf r.0, r.1)
same_piece (BlockOf s) (LineOf t d) u v h k e = absurd (slash_is_no_star (sym (second e)))
same_piece (LineOf s c) (Blank d) u v h k e = absurd (slash_is_no_blank d k (cc e))
same_piece (LineOf s c) (BlockOf t) u v h k e = absurd (slash_is_no_star (second e))
same_piece (LineOf s c) (LineOf t d) u v h k e =
    let a = and_parts (is_one_line s) (is_line_end c) h in
    let b = and_parts (is_one_line t) (is_line_end d) k in
    let f : 47 ∷ ((s ++ c ∷ []) ++ u) ≡ 47 ∷ ((t ++ d ∷ []) ++ v) = cc e in
    let g : (s ++ c ∷ []) ++ u ≡ (t ++ d ∷ []) ++ v = cc f in
    let r = one_line_end s t c d u v a.0 b.0 a.1 b.1 (sym (append_assoc s (c ∷ []) u) ∙ g ∙ append_assoc t (d ∷ []) v) in
    (ap₂ LineOf r.0 r.1, r.2)

-- where a piece begins is nothing solid
pub not_solid : (p : Piece) (v u : List ℕ) → is_piece p ≡ true → u ≡ piece_text p ++ v → IsSolid u → ⊥
unfolding is_piece piece_text begins begins_blank
not_solid (Blank c) v u h e s = true≢false (sym h ∙ subst (λ z. begins_blank z ≡ false) e s.blank)
not_solid (BlockOf t) v u h e s = true≢false (subst (λ z. begins (codes "/*") z ≡ false) e s.block)
not_solid (LineOf t c) v u h e s = true≢false (subst (λ z. begins (codes "//") z ≡ false) e s.line)

-- the trivia before what is solid are one
pub same_run : (ps qs : List Piece) (u v : List ℕ) → all_pieces ps ≡ true → all_pieces qs ≡ true → pieces_text ps ++ u ≡ pieces_text qs ++ v → IsSolid u → IsSolid v → (ps ≡ qs) × (u ≡ v)
unfolding all_pieces pieces_text
same_run [] [] u v h k e s t = (refl, e)
same_run [] (q ∷ qs) u v h k e s t = absurd (not_solid q (pieces_text qs ++ v) u (and_parts (is_piece q) (all_pieces qs) k).0 (e ∙ append_assoc (piece_text q) (pieces_text qs) v) s)
same_run (p ∷ ps) [] u v h k e s t = absurd (not_solid p (pieces_text ps ++ u) v (and_parts (is_piece p) (all_pieces ps) h).0 (sym e ∙ append_assoc (piece_text p) (pieces_text ps) u) t)
same_run (p ∷ ps) (q ∷ qs) u v h k e s t =
    let a = and_parts (is_piece p) (all_pieces ps) h in
    let b = and_parts (is_piece q) (all_pieces qs) k in
    let one = same_piece p q (pieces_text ps ++ u) (pieces_text qs ++ v) a.0 b.0 (sym (append_assoc (piece_text p) (pieces_text ps) u) ∙ e ∙ append_assoc (piece_text q) (pieces_text qs) v) in
    let later = same_run ps qs u v a.1 b.1 one.1 s t in
    (ap₂ (λ x xs. x ∷ xs) one.0 later.0, later.1)

pub same_trivia : (a b u v : List ℕ) (cs ds : List Remark) → Trivia a cs → Trivia b ds → a ++ u ≡ b ++ v → IsSolid u → IsSolid v → (cs ≡ ds) × (u ≡ v)
same_trivia a b u v cs ds h k e s t =
    let f : pieces_text h.pieces ++ u ≡ pieces_text k.pieces ++ v = sym (ap (λ z. z ++ u) h.is_text) ∙ e ∙ ap (λ z. z ++ v) k.is_text in
    let r = same_run h.pieces k.pieces u v h.each k.each f s t in
    (h.are_remarks ∙ ap remarks_of r.0 ∙ sym k.are_remarks, r.1)

pub token_at : (x y : Token) → x.kind ≡ y.kind → x.value ≡ y.value → x ≡ y
token_at x y e v = ap₂ (λ k w. let made : Token = record { kind = k; value = w } in made) e v

-- two tokens of one kind that a text spells are one
same_token : (x y : Token) (t : List ℕ) → Spells x t → Spells y t → x.kind ≡ y.kind → x ≡ y
same_token x y t h k e =
    let v : x.value ≡ y.value = sym h.value ∙ ap (λ z. value_of z t) e ∙ k.value in
    token_at x y e v

-- two longest tokens at one place are one
pub same_longest : (x y : Token) (a b u v : List ℕ) → IsLongest x a u → IsLongest y b v → a ++ u ≡ b ++ v → x.kind ≡ y.kind → (x ≡ y) × (a ≡ b) × (u ≡ v)
same_longest x y a b u v h k e same =
    let g : goal x.kind ≡ goal y.kind = ap goal same in
    elim (fronts a b u v e) [
      | inl r ↦
          let m : r.0 ≡ [] = h.longest y r.0 v (sym g) r.2 (subst (λ z. Stands y z v) r.1 k.stands) in
          let ab : b ≡ a = r.1 ∙ ap (λ z. a ++ z) m ∙ append-nil a in
          (same_token x y a h.stands.spells (subst (λ z. Spells y z) ab k.stands.spells) same, sym ab, r.2 ∙ ap (λ z. z ++ v) m)
      | inr r ↦
          let m : r.0 ≡ [] = k.longest x r.0 u g r.2 (subst (λ z. Stands x z u) r.1 h.stands) in
          let ab : a ≡ b = r.1 ∙ ap (λ z. b ++ z) m ∙ append-nil b in
          (same_token x y b (subst (λ z. Spells x z) ab h.stands.spells) k.stands.spells same, ab, sym (r.2 ∙ ap (λ z. z ++ u) m))
    ]

pub piece_is_some : (p : Piece) (t : List ℕ) → piece_text p ++ t ≡ [] → ⊥
unfolding piece_text
piece_is_some (Blank c) t e = cc
piece_is_some (BlockOf s) t e = cc
piece_is_some (LineOf s c) t e = cc

none_of_nothing : (ps : List Piece) → pieces_text ps ≡ [] → remarks_of ps ≡ []
unfolding pieces_text remarks_of
none_of_nothing [] e = refl
none_of_nothing (p ∷ ps) e = absurd (piece_is_some p (pieces_text ps) e)

no_remarks : (a : List ℕ) (cs : List Remark) → a ≡ [] → Trivia a cs → cs ≡ []
no_remarks a cs e h = h.are_remarks ∙ none_of_nothing h.pieces (sym h.is_text ∙ e)

-- what is not close by is no text between tags
pub not_child : (x : Kind) → is_close_by x ≡ false → goal x ≡ Child → ⊥
unfolding is_close_by is_child goal
not_child JsxText n e = true≢false n
not_child x n e = cc

-- Before what stands close by there is nothing, before the rest the same trivia.
pub gap_case : (x : Kind) (a b own1 own2 u v : List ℕ) (cs ds : List Remark) (c : Bool) → is_close_by x ≡ c → Trivia a cs → Trivia b ds → (is_close_by x ≡ true → a ≡ []) → (is_close_by x ≡ true → b ≡ [])
    → ((goal x ≡ Child → ⊥) → IsSolid (own1 ++ u)) → ((goal x ≡ Child → ⊥) → IsSolid (own2 ++ v)) → a ++ (own1 ++ u) ≡ b ++ (own2 ++ v) → (cs ≡ ds) × (own1 ++ u ≡ own2 ++ v)
gap_case x a b own1 own2 u v cs ds true c h j f g l m e =
    let p : a ≡ [] = f c in
    let q : b ≡ [] = g c in
    (no_remarks a cs p h ∙ sym (no_remarks b ds q j), sym (ap (λ z. z ++ (own1 ++ u)) p) ∙ e ∙ ap (λ z. z ++ (own2 ++ v)) q)
gap_case x a b own1 own2 u v cs ds false c h j f g l m e = same_trivia a b (own1 ++ u) (own2 ++ v) cs ds h j e (l (not_child x c)) (m (not_child x c))

pub head_kind : {x y : Kind} {xs ys : List Kind} → x ∷ xs ≡ y ∷ ys → (x ≡ y) × (xs ≡ ys)
head_kind e = (cc e, cc e)

-- what is `[no LineTerminator here]` is no token
no_shape : (x y : Token) (t : List ℕ) → x ≡ same_line → y.kind ≡ x.kind → has_shape y.kind t ≡ true → ⊥
unfolding same_line
no_shape x y t e k h = same_line_unspelled t (subst (λ z. has_shape z t ≡ true) (k ∙ ap (λ (z : Token). z.kind) e) h)

reads_on_once : (xs ys : List Token) (first joined : Bool) (text : List ℕ) (cs ds : List Remark) → ReadsOn first joined text xs cs → ReadsOn first joined text ys ds → kinds_of xs ≡ kinds_of ys → (xs ≡ ys) × (cs ≡ ds)
unfolding ReadsOn kinds_of
reads_on_once [] [] first joined text cs ds h k a = (refl, (same_trivia text text [] [] cs ds h k refl nothing_solid nothing_solid).0)
reads_on_once [] (y ∷ ys) first joined text cs ds h k a = absurd (cc)
reads_on_once (x ∷ xs) [] first joined text cs ds h k a = absurd (cc)
reads_on_once (x ∷ xs) (y ∷ ys) first joined text cs ds (inl h) (inl k) a =
    let later = reads_on_once xs ys first true text cs ds h.1 k.1 (head_kind a).1 in
    (ap₂ (λ z zs. z ∷ zs) (h.0 ∙ sym k.0) later.0, later.1)
reads_on_once (x ∷ xs) (y ∷ ys) first joined text cs ds (inl h) (inr k) a = absurd (no_shape x y k.1 h.0 (sym (head_kind a).0) k.10.stands.spells.shape)
reads_on_once (x ∷ xs) (y ∷ ys) first joined text cs ds (inr h) (inl k) a = absurd (no_shape y x h.1 k.0 (head_kind a).0 h.10.stands.spells.shape)
reads_on_once (x ∷ xs) (y ∷ ys) first joined text cs ds (inr h) (inr k) a =
    let kinds = head_kind a in
    let same : x.kind ≡ y.kind = kinds.0 in
    let e : h.0 ++ (h.1 ++ h.2) ≡ k.0 ++ (k.1 ++ k.2) = sym h.5 ∙ k.5 in
    let close : is_close_by x.kind ≡ is_close_by y.kind = ap is_close_by same in
    let f = gap_case x.kind h.0 k.0 h.1 k.1 h.2 k.2 h.3 k.3 (is_close_by x.kind) refl h.6 k.6 h.7 (λ c. k.7 (sym close ∙ c)) (λ n. solid x h.1 h.2 n h.10) (λ n. solid y k.1 k.2 (λ c. n (ap goal same ∙ c)) k.10) e in
    let one = same_longest x y h.1 k.1 h.2 k.2 h.10 k.10 f.1 same in
    let later = reads_on_once xs ys false false h.2 h.4 k.4 h.11 (subst (λ z. ReadsOn false false z ys k.4) (sym one.2) k.11) kinds.1 in
    (ap₂ (λ z zs. z ∷ zs) one.0 later.0, h.12 ∙ ap₂ (λ z zs. z ++ zs) f.0 later.1 ∙ sym k.12)

pub reads_once : (xs ys : List Token) (text : List ℕ) (cs ds : List Remark) → Reads text xs cs → Reads text ys ds → kinds_of xs ≡ kinds_of ys → (xs ≡ ys) × (cs ≡ ds)
unfolding Reads
reads_once xs ys text cs ds h k a = reads_on_once xs ys true false text cs ds h k a
