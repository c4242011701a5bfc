-- Maps of comments that can be read back.
use Rattle.std.proofs.Common.{◌≡◌, ◌∙◌, refl, ap, ℕ, Bool, true, false, cond, ◌&&◌, List, [], ◌∷◌, ◌++◌, ◌==◌, Option, Some, None, inl, inr}
use Rattle.std.proofs.lemmas.Bool.{cases_Bool}
use Rattle.swc_ecma_codegen_grammar.specs.declared.comments.Comment.{Comment}
use Rattle.swc_ecma_codegen_grammar.specs.CommentMaps.{Maps, listed, with, with_leading, with_trailing}
use Rattle.swc_ecma_codegen_grammar.specs.Comments.{AreClosed, all_closed, is_closed, remark_of, remarks_of}

-- those of a list, as what they read as
abbrev are_closed : List Comment → Bool
are_closed cs = all_closed (remarks_of cs)

none_closed : (o : Option (List Comment)) → o ≡ None → are_closed (listed o) ≡ true
unfolding listed all_closed remarks_of
none_closed o h = ap (λ z. are_closed (listed z)) h

-- where there are no comments
pub nowhere_closed : (maps : Maps) → ((pos : ℕ) → maps.leading pos ≡ None) → ((pos : ℕ) → maps.trailing pos ≡ None) → AreClosed maps
nowhere_closed maps h k = record { leading = λ pos. none_closed (maps.leading pos) (h pos); trailing = λ pos. none_closed (maps.trailing pos) (k pos) }

-- one more behind a list
both : (a b : Bool) → a ≡ true → b ≡ true → (a && b) ≡ true
both a b h k = ap (λ z. z && b) h ∙ k

rest_closed : (a b : Bool) → (a && b) ≡ true → b ≡ true
rest_closed true b h = h
rest_closed false b h = absurd (cc)

first_closed : (a b : Bool) → (a && b) ≡ true → a ≡ true
first_closed true b h = refl
first_closed false b h = h

more_closed : (cs : List Comment) (c : Comment) → are_closed cs ≡ true → is_closed (remark_of c) ≡ true → are_closed (cs ++ (c ∷ [])) ≡ true
unfolding all_closed remarks_of
more_closed [] c h k = both (is_closed (remark_of c)) true k refl
more_closed (d ∷ ds) c h k =
    both (is_closed (remark_of d)) (are_closed (ds ++ (c ∷ []))) (first_closed (is_closed (remark_of d)) (are_closed ds) h) (more_closed ds c (rest_closed (is_closed (remark_of d)) (are_closed ds) h) k)

with_closed : (at pos : ℕ) (c : Comment) (entries : ℕ → Option (List Comment)) → ((p : ℕ) → are_closed (listed (entries p)) ≡ true) → is_closed (remark_of c) ≡ true → are_closed (listed (with at c entries pos)) ≡ true
unfolding with listed
with_closed at pos c entries h k = elim (cases_Bool (at == pos)) [
  | inl e ↦ ap (λ b. are_closed (listed (cond b (Some (listed (entries at) ++ (c ∷ []))) (entries pos)))) e ∙ more_closed (listed (entries at)) c (h at) k
  | inr e ↦ ap (λ b. are_closed (listed (cond b (Some (listed (entries at) ++ (c ∷ []))) (entries pos)))) e ∙ h pos
]

pub leading_closed : (maps : Maps) (at : ℕ) (c : Comment) → AreClosed maps → is_closed (remark_of c) ≡ true → AreClosed (with_leading at c maps)
unfolding with_leading
leading_closed maps at c h k = record { leading = λ pos. with_closed at pos c maps.leading h.leading k; trailing = h.trailing }

pub trailing_closed : (maps : Maps) (at : ℕ) (c : Comment) → AreClosed maps → is_closed (remark_of c) ≡ true → AreClosed (with_trailing at c maps)
unfolding with_trailing
trailing_closed maps at c h k = record { leading = h.leading; trailing = λ pos. with_closed at pos c maps.trailing h.trailing k }
