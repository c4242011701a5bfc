-- What is cut off a text leaves a part of it.
use Rattle.std.proofs.Common.{◌≡◌, ◌∙◌, ◌-◌, ℕ, List, [], ◌++◌, take, drop, length, ap, sym, append_assoc, take-append-drop, append-nil, subst}
use Rattle.swc_ecma_codegen_requests.specs.Ids.{IsPartOf}

cut_front : (n : ℕ) (xs ys : List ℕ) → IsPartOf xs ys → IsPartOf xs (drop n ys)
cut_front n xs ys (before, after, e) =
    (before ++ take n ys, after, e ∙ ap (λ l. before ++ (l ++ after)) (sym (take-append-drop n ys)) ∙ ap (λ l. before ++ l) (append_assoc (take n ys) (drop n ys) after) ∙ sym (append_assoc before (take n ys) (drop n ys ++ after)))

cut_back : (n : ℕ) (xs ys : List ℕ) → IsPartOf xs ys → IsPartOf xs (take n ys)
cut_back n xs ys (before, after, e) =
    (before, drop n ys ++ after, e ∙ ap (λ l. before ++ (l ++ after)) (sym (take-append-drop n ys)) ∙ ap (λ l. before ++ l) (append_assoc (take n ys) (drop n ys) after))

-- between two places, without what is cut off on both sides
pub part_of_cuts : (text front found ended part : List ℕ) (to from : ℕ) → front ≡ take to text → found ≡ drop from front → ended ≡ take (length ended) found → part ≡ drop (length ended - length part) ended → IsPartOf text part
part_of_cuts text front found ended part to from f g h p =
    let whole : IsPartOf text text = ([], [], sym (append-nil text)) in
    let in_front = subst (IsPartOf text) (sym f) (cut_back to text text whole) in
    let in_found = subst (IsPartOf text) (sym g) (cut_front from text front in_front) in
    let in_ended = subst (IsPartOf text) (sym h) (cut_back (length ended) text found in_found) in
    subst (IsPartOf text) (sym p) (cut_front (length ended - length part) text ended in_ended)
