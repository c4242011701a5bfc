-- What the plain reader finds, token by token.
use Rattle.std.proofs.Common.{Bool, List, [], ap, append-nil, append_assoc, arith, false, inl, inr, length, refl, subst, suc, sym, take, true, ℕ, ◌&&◌, ◌++◌, ◌+◌, ◌<◌, ◌==◌, ◌∙◌, ◌∷◌, ◌≡◌, ◌≤◌}
use Rattle.std.proofs.Math.ListN.{get_or}
use Rattle.std.proofs.Math.Seq.{take-suc}
use Rattle.std.proofs.lemmas.Bool.{eqb-true, true≢false}
use Rattle.std.proofs.lemmas.List.{length-append, take_all}
use Rattle.swc_ecma_codegen_grammar.proofs.Conditions.{same_line_unspelled}
use Rattle.swc_ecma_codegen_grammar.proofs.Skips.{skipped}
use Rattle.swc_ecma_codegen_grammar.proofs.Unique.{gap_case, head_kind, piece_is_some, same_longest, solid, token_at}
use Rattle.swc_ecma_codegen_grammar.specs.LongestMatch.{IsLongest}
use Rattle.swc_ecma_codegen_grammar.specs.Parts.{before}
use Rattle.swc_ecma_codegen_grammar.specs.Reading.{ReadsNext, ReadsNone, ReadsOne, tokens_as}
use Rattle.swc_ecma_codegen_grammar.specs.Reads.{Reads, ReadsOn, is_close_by, is_hashbang_kind, is_same_line, kinds_of}
use Rattle.swc_ecma_codegen_grammar.specs.Skipping.{NoPiece, Skips}
use Rattle.swc_ecma_codegen_grammar.specs.Tokens.{Spells, Token, has_shape, same_line, token_of, value_of}
use Rattle.swc_ecma_codegen_grammar.specs.Trivia.{Remark, Trivia, pieces_text, remarks_of}
use Rattle.swc_ecma_codegen_grammar.specs.declared.kinds.Kind.{Kind}
use Rattle.swc_ecma_codegen_grammar.specs.declared.kinds.Kind.TheVariants.{SameLine}
use Rattle.swc_ecma_codegen_grammar.specs.Chars.{is_one_line}

-- Of one kind there is one token at a place.
pub one_only : (first joined : Bool) (kind : Kind) (text a b u v : List ℕ) → ReadsOne first joined kind text a u → ReadsOne first joined kind text b v → (a ≡ b) × (u ≡ v)
unfolding token_of
one_only first joined kind text a b u v h k =
    let gap = gap_case kind h.gap k.gap a b u v h.before k.before (is_close_by kind) refl h.trivia k.trivia h.close_by k.close_by (λ n. solid (token_of kind a) a u n h.is_longest) (λ n. solid (token_of kind b) b v n k.is_longest) (sym h.is_text ∙ k.is_text) in
    let r = same_longest (token_of kind a) (token_of kind b) a b u v h.is_longest k.is_longest gap.1 refl in
    (r.1, r.2)

-- the tokens so far, and what is left of the text
pub record Progress (text : List ℕ) (done : List Kind) (owns : List (List ℕ)) (first joined : Bool) (rest : List ℕ) : Type 0 where
  pub same : length owns ≡ length done
  pub sound : (xs : List Token) (remarks : List Remark) → ReadsOn first joined rest xs remarks → (all : List Remark) × ReadsOn true false text (tokens_as done owns ++ xs) all
  pub complete : (ks : List Kind) (xs : List Token) (remarks : List Remark) → ReadsOn true false text xs remarks → kinds_of xs ≡ done ++ ks → (ys : List Token) × (later : List Remark) × (kinds_of ys ≡ ks) × ReadsOn first joined rest ys later

pub nothing_yet : (text : List ℕ) → Progress text [] [] true false text
unfolding tokens_as
nothing_yet text = record { same = refl; sound = λ xs remarks r. (remarks, r); complete = λ ks xs remarks r e. (xs, remarks, e, r) }

-- one more token
tokens_more : (done : List Kind) (owns : List (List ℕ)) (kind : Kind) (own : List ℕ) → length owns ≡ length done → tokens_as (done ++ kind ∷ []) (owns ++ own ∷ []) ≡ tokens_as done owns ++ token_of kind own ∷ []
unfolding tokens_as
tokens_more [] [] kind own e = refl
tokens_more [] (o ∷ owns) kind own e = absurd (cc e)
tokens_more (k ∷ done) [] kind own e = absurd (cc e)
tokens_more (k ∷ done) (o ∷ owns) kind own e = ap (λ z. token_of k o ∷ z) (tokens_more done owns kind own (cc e))

reads_first : (first joined : Bool) (kind : Kind) (text own rest : List ℕ) (xs : List Token) (remarks : List Remark) → (h : ReadsOne first joined kind text own rest) → ReadsOn false false rest xs remarks → ReadsOn first joined text (token_of kind own ∷ xs) (h.before ++ remarks)
unfolding ReadsOn token_of
reads_first first joined kind text own rest xs remarks h r = inr (h.gap, own, rest, h.before, remarks, h.is_text, h.trivia, h.close_by, h.at_start, h.in_line, h.is_longest, r, refl)

-- a token is the one of its kind and text
spelled : (x : Token) (own : List ℕ) → Spells x own → x ≡ token_of x.kind own
unfolding token_of
spelled x own s = token_at x (record { kind = x.kind; value = value_of x.kind own }) refl (sym s.value)

-- the first token of a reading
pub record FirstRead (first joined : Bool) (kind : Kind) (text : List ℕ) (ks : List Kind) : Type 0 where
  pub own : List ℕ
  pub rest : List ℕ
  pub one : ReadsOne first joined kind text own rest
  pub ys : List Token
  pub later : List Remark
  pub kinds : kinds_of ys ≡ ks
  pub reads : ReadsOn false false rest ys later

one_of : (first joined : Bool) (x : Token) (text gap own rest : List ℕ) (before : List Remark) → text ≡ gap ++ (own ++ rest) → Trivia gap before → (is_close_by x.kind ≡ true → gap ≡ []) → (is_hashbang_kind x.kind ≡ true → first ≡ true) → (joined ≡ true → is_one_line gap ≡ true) → IsLongest x own rest → ReadsOne first joined x.kind text own rest
one_of first joined x text gap own rest before e t c h o l = record {
  gap = gap;
  before = before;
  is_text = e;
  trivia = t;
  close_by = c;
  at_start = h;
  in_line = o;
  is_longest = subst (λ z. IsLongest z own rest) (spelled x own l.stands.spells) l;
}

same_kind : (x : Token) → x ≡ same_line → is_same_line x.kind ≡ true
unfolding same_line is_same_line
same_kind x e = ap (λ (z : Token). is_same_line z.kind) e

pub first_read : (first joined : Bool) (kind : Kind) (text : List ℕ) (ks : List Kind) (xs : List Token) (remarks : List Remark) → is_same_line kind ≡ false → ReadsOn first joined text xs remarks → kinds_of xs ≡ kind ∷ ks → FirstRead first joined kind text ks
unfolding ReadsOn kinds_of
first_read first joined kind text ks [] remarks n r e = absurd (cc)
first_read first joined kind text ks (x ∷ xs) remarks n (inl r) e = absurd (true≢false (sym (same_kind x r.0) ∙ ap is_same_line (head_kind e).0 ∙ n))
first_read first joined kind text ks (x ∷ xs) remarks n (inr r) e =
    let k = head_kind e in record {
      own = r.1;
      rest = r.2;
      one = subst (λ z. ReadsOne first joined z text r.1 r.2) k.0 (one_of first joined x text r.0 r.1 r.2 r.3 r.5 r.6 r.7 r.8 r.9 r.10);
      ys = xs;
      later = r.4;
      kinds = k.1;
      reads = r.11;
    }

-- behind `[no LineTerminator here]`
joined_read : (first joined : Bool) (text : List ℕ) (ks : List Kind) (xs : List Token) (remarks : List Remark) → ReadsOn first joined text xs remarks → kinds_of xs ≡ SameLine ∷ ks → (ys : List Token) × (kinds_of ys ≡ ks) × ReadsOn first true text ys remarks
unfolding ReadsOn kinds_of
joined_read first joined text ks [] remarks r e = absurd (cc)
joined_read first joined text ks (x ∷ xs) remarks (inl r) e = (xs, (head_kind e).1, r.1)
joined_read first joined text ks (x ∷ xs) remarks (inr r) e = absurd (same_line_unspelled r.1 (subst (λ z. has_shape z r.1 ≡ true) (head_kind e).0 r.10.stands.spells.shape))

joint_first : (first joined : Bool) (text : List ℕ) (xs : List Token) (remarks : List Remark) → ReadsOn first true text xs remarks → ReadsOn first joined text (token_of SameLine [] ∷ xs) remarks
unfolding ReadsOn token_of value_of same_line
joint_first first joined text xs remarks r = inl (refl, r)

pub progress_joined : (text : List ℕ) (done : List Kind) (owns : List (List ℕ)) (first joined : Bool) (rest : List ℕ) → Progress text done owns first joined rest → Progress text (done ++ SameLine ∷ []) (owns ++ [] ∷ []) first true rest
progress_joined text done owns first joined rest p = record {
  same = length-append owns ([] ∷ []) ∙ ap (λ z. z + 1) p.same ∙ sym (length-append done (SameLine ∷ []));
  sound = λ xs remarks r.
      let all = p.sound (token_of SameLine [] ∷ xs) remarks (joint_first first joined rest xs remarks r) in
      (all.0, subst (λ z. ReadsOn true false text z all.0) (sym (append_assoc (tokens_as done owns) (token_of SameLine [] ∷ []) xs) ∙ ap (λ z. z ++ xs) (sym (tokens_more done owns SameLine [] p.same))) all.1);
  complete = λ ks xs remarks r e.
      let got = p.complete (SameLine ∷ ks) xs remarks r (e ∙ append_assoc done (SameLine ∷ []) ks) in
      let f = joined_read first joined rest ks got.0 got.1 got.3 got.2 in
      (f.0, got.1, f.1, f.2);
}

-- what was read so far, and one more token
pub progress_more : (text : List ℕ) (done : List Kind) (owns : List (List ℕ)) (first joined : Bool) (rest : List ℕ) (kind : Kind) (own after : List ℕ) → is_same_line kind ≡ false → Progress text done owns first joined rest → ReadsOne first joined kind rest own after → Progress text (done ++ kind ∷ []) (owns ++ own ∷ []) false false after
progress_more text done owns first joined rest kind own after n p h = record {
  same = length-append owns (own ∷ []) ∙ ap (λ z. z + 1) p.same ∙ sym (length-append done (kind ∷ []));
  sound = λ xs remarks r.
      let all = p.sound (token_of kind own ∷ xs) (h.before ++ remarks) (reads_first first joined kind rest own after xs remarks h r) in
      (all.0, subst (λ z. ReadsOn true false text z all.0) (sym (append_assoc (tokens_as done owns) (token_of kind own ∷ []) xs) ∙ ap (λ z. z ++ xs) (sym (tokens_more done owns kind own p.same))) all.1);
  complete = λ ks xs remarks r e.
      let got = p.complete (kind ∷ ks) xs remarks r (e ∙ append_assoc done (kind ∷ []) ks) in
      let f = first_read first joined kind rest ks got.0 got.1 n got.3 got.2 in
      let same = one_only first joined kind rest f.own own f.rest after f.one h in
      (f.ys, f.later, f.kinds, subst (λ z. ReadsOn false false z f.ys f.later) same.1 f.reads);
}

only_same : (kind : Kind) → is_same_line kind ≡ true → kind ≡ SameLine
unfolding is_same_line
only_same SameLine e = refl
only_same kind e = absurd (true≢false (sym e))

and_true : (b : Bool) → b ≡ (b && true)
and_true true = refl
and_true false = refl

and_false : (b : Bool) → false ≡ (b && false)
and_false true = refl
and_false false = refl

next_by : (text : List ℕ) (done : List Kind) (owns : List (List ℕ)) (first joined : Bool) (rest : List ℕ) (kind : Kind) (own after : List ℕ) (same : Bool) → same ≡ is_same_line kind → Progress text done owns first joined rest → ReadsNext first joined kind rest own after → Progress text (done ++ kind ∷ []) (owns ++ own ∷ []) (first && same) same after
unfolding ReadsNext
next_by text done owns first joined rest kind own after true e p (inl h) =
    let k : SameLine ≡ kind = sym (only_same kind h.0) in
    subst (λ z. Progress text (done ++ z ∷ []) (owns ++ own ∷ []) (first && true) true after) k
    (subst (λ z. Progress text (done ++ SameLine ∷ []) (owns ++ z ∷ []) (first && true) true after) (sym h.1)
    (subst (λ z. Progress text (done ++ SameLine ∷ []) (owns ++ [] ∷ []) (first && true) true z) (sym h.2)
    (subst (λ z. Progress text (done ++ SameLine ∷ []) (owns ++ [] ∷ []) z true rest) (and_true first) (progress_joined text done owns first joined rest p))))
next_by text done owns first joined rest kind own after false e p (inl h) = absurd (true≢false (sym h.0 ∙ sym e))
next_by text done owns first joined rest kind own after true e p (inr h) = absurd (true≢false (e ∙ h.0))
next_by text done owns first joined rest kind own after false e p (inr h) =
    subst (λ z. Progress text (done ++ kind ∷ []) (owns ++ own ∷ []) z false after) (and_false first) (progress_more text done owns first joined rest kind own after h.0 p h.1)

pub same_next : (first joined : Bool) (kind : Kind) (text : List ℕ) → is_same_line kind ≡ true → ReadsNext first joined kind text [] text
unfolding ReadsNext
same_next first joined kind text e = inl (e, refl, refl)

pub other_next : (first joined : Bool) (kind : Kind) (text own rest : List ℕ) → is_same_line kind ≡ false → ReadsOne first joined kind text own rest → ReadsNext first joined kind text own rest
unfolding ReadsNext
other_next first joined kind text own rest e h = inr (e, h)

pub none_next : (first joined : Bool) (kind : Kind) (text : List ℕ) → is_same_line kind ≡ false → ((own rest : List ℕ) → ReadsOne first joined kind text own rest → ⊥) → ReadsNone first joined kind text
unfolding ReadsNone
none_next first joined kind text e h = (e, h)

-- one more kind
pub progress_next : (text : List ℕ) (done : List Kind) (owns : List (List ℕ)) (first joined : Bool) (rest : List ℕ) (kind : Kind) (own after : List ℕ) (more same : Bool) → same ≡ is_same_line kind → more ≡ (first && same) → Progress text done owns first joined rest → ReadsNext first joined kind rest own after → Progress text (done ++ kind ∷ []) (owns ++ own ∷ []) more same after
progress_next text done owns first joined rest kind own after more same e m p h = subst (λ z. Progress text (done ++ kind ∷ []) (owns ++ own ∷ []) z same after) (sym m) (next_by text done owns first joined rest kind own after same e p h)

-- where no token of the next kind is, there is no reading
pub no_next : (text : List ℕ) (done : List Kind) (owns : List (List ℕ)) (first joined : Bool) (rest : List ℕ) (kind : Kind) (ks : List Kind) → Progress text done owns first joined rest → ReadsNone first joined kind rest → (xs : List Token) (remarks : List Remark) → kinds_of xs ≡ done ++ kind ∷ ks → Reads text xs remarks → ⊥
unfolding Reads ReadsNone
no_next text done owns first joined rest kind ks p none xs remarks e r =
    let got = p.complete (kind ∷ ks) xs remarks r e in
    let f = first_read first joined kind rest ks got.0 got.1 none.0 got.3 got.2 in
    none.1 f.own f.rest f.one

-- at the end
pub no_piece_in_nothing : NoPiece []
no_piece_in_nothing p v h e = piece_is_some p v (sym e)

pub reads_all : (text : List ℕ) (kinds : List Kind) (owns : List (List ℕ)) (first joined : Bool) (rest : List ℕ) → Progress text kinds owns first joined rest → Skips rest [] → (remarks : List Remark) × Reads text (tokens_as kinds owns) remarks
unfolding Reads ReadsOn
reads_all text kinds owns first joined rest p s =
    let t : Trivia rest (remarks_of s.pieces) = record { pieces = s.pieces; each = s.each; is_text = s.is_text ∙ append-nil (pieces_text s.pieces); are_remarks = refl } in
    let all = p.sound [] (remarks_of s.pieces) t in
    (all.0, subst (λ z. ReadsOn true false text z all.0) (append-nil (tokens_as kinds owns)) all.1)

no_kinds : (ys : List Token) → kinds_of ys ≡ [] → ys ≡ []
unfolding kinds_of
no_kinds [] e = refl
no_kinds (y ∷ ys) e = absurd (cc)

pub no_end : (text : List ℕ) (kinds : List Kind) (owns : List (List ℕ)) (first joined : Bool) (rest left : List ℕ) → Progress text kinds owns first joined rest → Skips rest left → (left ≡ [] → ⊥) → (xs : List Token) (remarks : List Remark) → kinds_of xs ≡ kinds → Reads text xs remarks → ⊥
unfolding Reads ReadsOn
no_end text kinds owns first joined rest left p s some xs remarks e r =
    let got = p.complete [] xs remarks r (e ∙ sym (append-nil kinds)) in
    let t : Trivia rest got.1 = subst (λ z. ReadsOn first joined rest z got.1) (no_kinds got.0 got.2) got.3 in
    some (skipped rest left rest [] got.1 s t (sym (append-nil rest)) no_piece_in_nothing)

-- steps of a loop over the kinds
one_more : (i : ℕ) → i + 1 ≡ suc i
one_more i = omega arith

pub take_one_more : {A : Type 0} (xs : List A) (i : ℕ) (d : A) → i < length xs → take (i + 1) xs ≡ take i xs ++ get_or xs i d ∷ []
take_one_more xs i d h = ap (λ k. take k xs) (one_more i) ∙ take-suc xs i d h

take_whole : {A : Type 0} (xs : List A) (i : ℕ) → length xs ≤ i → take i xs ≡ xs
take_whole xs i h = take_all i xs h

pub at_end : (text : List ℕ) (kinds : List Kind) (owns : List (List ℕ)) (first joined : Bool) (rest : List ℕ) (i : ℕ) → length kinds ≤ i → Progress text (take i kinds) owns first joined rest → Progress text kinds owns first joined rest
at_end text kinds owns first joined rest i h p = subst (λ z. Progress text z owns first joined rest) (take_whole kinds i h) p

some_length : (x : ℕ) (xs : List ℕ) → length (x ∷ xs) ≡ 0 → ⊥
some_length x xs e = omega (arith, e)

pub is_nothing : (xs : List ℕ) → (length xs == 0) ≡ true → xs ≡ []
is_nothing [] h = refl
is_nothing (x ∷ xs) h = absurd (some_length x xs (eqb-true (length (x ∷ xs)) 0 h))

pub is_something : (xs : List ℕ) → (length xs == 0) ≡ false → xs ≡ [] → ⊥
is_something xs h e = true≢false (subst (λ z. (length z == 0) ≡ false) e h)
