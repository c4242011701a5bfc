-- Lists of tokens that differ in what two layouts may differ in.
use Rattle.std.proofs.Common.{◌≡◌, Bool, true, false, ◌&&◌, ◌||◌, [], ◌∷◌, ◌++◌, codes, refl, sym, ap, subst, append_assoc, append-nil, inl, inr}
use Rattle.std.proofs.lemmas.Bool.{cases_Bool, true≢false}
use Rattle.swc_ecma_codegen_grammar.specs.Phrases.{Closing}
use Rattle.swc_ecma_codegen_settings.specs.declared.config.Config.{Config}
use Rattle.swc_ecma_codegen_laws.specs.Layouts.{Tokens, Allowed, IsOneLiteral, Differ, no_more, token, literal, first_comma, second_comma, parameter, arguments, closing, is_brace, mark, new_word}

pub differ_same : {allowed : Allowed} (xs : Tokens) → Differ allowed xs xs
differ_same [] = no_more
differ_same (x ∷ xs) = token x xs xs (differ_same xs)

pub differ_append : {allowed : Allowed} (xs ys us vs : Tokens) → Differ allowed xs ys → Differ allowed us vs → Differ allowed (xs ++ us) (ys ++ vs)
differ_append xs ys us vs no_more k = k
differ_append xs ys us vs (token x fs gs h) k = token x (fs ++ us) (gs ++ vs) (differ_append fs gs us vs h k)
differ_append {allowed} xs ys us vs (literal ps qs fs gs e one h) k =
    subst (λ z. Differ allowed z ((qs ++ gs) ++ vs)) (sym (append_assoc ps fs us))
    (subst (λ z. Differ allowed (ps ++ (fs ++ us)) z) (sym (append_assoc qs gs vs))
    (literal ps qs (fs ++ us) (gs ++ vs) e one (differ_append fs gs us vs h k)))
differ_append xs ys us vs (first_comma close fs gs e h) k = first_comma close (fs ++ us) (gs ++ vs) e (differ_append fs gs us vs h k)
differ_append xs ys us vs (second_comma close fs gs e h) k = second_comma close (fs ++ us) (gs ++ vs) e (differ_append fs gs us vs h k)
differ_append xs ys us vs (parameter name fs gs e h) k = parameter name (fs ++ us) (gs ++ vs) e (differ_append fs gs us vs h k)
differ_append {allowed} xs ys us vs (arguments callee types ps qs fs gs e a b m h) k =
    subst (λ z. Differ allowed (new_word ∷ z) (new_word ∷ ((qs ++ (mark (codes "(") ∷ mark (codes ")") ∷ gs)) ++ vs))) (sym (append_assoc ps fs us))
    (subst (λ z. Differ allowed (new_word ∷ (ps ++ (fs ++ us))) (new_word ∷ z)) (sym (append_assoc qs (mark (codes "(") ∷ mark (codes ")") ∷ gs) vs))
    (arguments callee types ps qs (fs ++ us) (gs ++ vs) e a b m (differ_append fs gs us vs h k)))

-- where neither source texts nor layouts differ they are the same
pub differ_equal : (first second : Config) (xs ys : Tokens) → Differ (record { commas = false; layout = false; first = first; second = second }) xs ys → xs ≡ ys
differ_equal first second xs ys no_more = refl
differ_equal first second xs ys (token x fs gs h) = ap (λ z. x ∷ z) (differ_equal first second fs gs h)
differ_equal first second xs ys (literal ps qs fs gs e one h) = absurd (true≢false (sym e))
differ_equal first second xs ys (first_comma close fs gs e h) = absurd (true≢false (sym e))
differ_equal first second xs ys (second_comma close fs gs e h) = absurd (true≢false (sym e))
differ_equal first second xs ys (parameter name fs gs e h) = absurd (true≢false (sym e))
differ_equal first second xs ys (arguments callee types ps qs fs gs e a b m h) = absurd (true≢false (sym e))

-- one literal
pub differ_literal : {allowed : Allowed} (us vs : Tokens) → allowed.layout ≡ true → IsOneLiteral allowed.first allowed.second us vs → Differ allowed us vs
differ_literal {allowed} us vs e one =
    subst (λ z. Differ allowed z vs) (append-nil us)
    (subst (λ z. Differ allowed (us ++ []) z) (append-nil vs) (literal us vs [] [] e one no_more))

-- the last comma of a list and the mark that closes it
abbrev pub comma_if : Bool → Tokens
comma_if true = mark (codes ",") ∷ []
comma_if false = []

apart : {A : Type 0} → true ≡ false → A
apart h = absurd (true≢false h)

either_flag : (a b : Bool) → (a ≡ false → b ≡ false → true ≡ false) → (a || b) ≡ true
either_flag true b h = refl
either_flag false true h = refl
either_flag false false h = sym (h refl refl)

pub differ_comma : {allowed : Allowed} (close : Closing) (a b : Bool) → (allowed.commas ≡ false → a ≡ true → b ≡ true) → (allowed.commas ≡ false → (allowed.layout && is_brace close) ≡ false → b ≡ a) → Differ allowed (comma_if a ++ (closing close ∷ [])) (comma_if b ++ (closing close ∷ []))
differ_comma close true true h k = differ_same (mark (codes ",") ∷ closing close ∷ [])
differ_comma close false false h k = differ_same (closing close ∷ [])
differ_comma {allowed} close true false h k = elim (cases_Bool allowed.commas) [
  | inl e ↦ first_comma close [] [] e no_more
  | inr e ↦ apart (sym (h e refl))
]
differ_comma {allowed} close false true h k = second_comma close [] [] (either_flag allowed.commas (allowed.layout && is_brace close) k) no_more
