-- What lists that lead to a state tell of one another: no token that such a list goes on with is refused.
use Rattle.std.proofs.Common.{◌≡◌, ℕ, true, false, not, ◌⊎◌, inl, inr, List, [], ◌∷◌, ◌++◌, refl, sym, ap, ◌∙◌, append_assoc, append-nil, subst}
use Rattle.std.proofs.lemmas.Bool.{true≢false}
use Rattle.swc_ecma_codegen_grammar.specs.Reads.{Reads}
use Rattle.swc_ecma_codegen_grammar.specs.Tokens.{Token}
use Rattle.swc_ecma_codegen_grammar.specs.Trivia.{Remark}
use Rattle.swc_ecma_codegen_uniqueness.specs.Parting.{Parting, begin_alike, behind_line}
use Rattle.swc_ecma_codegen_uniqueness.specs.Words.{as_names}
use Rattle.swc_ecma_codegen_uniqueness.proofs.Classes.{Line, Jsx, TagText, class}
use Rattle.swc_ecma_codegen_uniqueness.proofs.Controls.{Control}
use Rattle.swc_ecma_codegen_uniqueness.proofs.PlaceLaws.{is_line}
use Rattle.swc_ecma_codegen_uniqueness.proofs.JsxParts.{is_child}
use Rattle.swc_ecma_codegen_uniqueness.proofs.Machine.{Empty, State, At, Fail, next, run, is_fail, run_fails}
use Rattle.swc_ecma_codegen_uniqueness.proofs.Words.{begun_all, names_on, named_run}
use Rattle.swc_ecma_codegen_uniqueness.proofs.Apart.{Rivals, by_jsx, next_fails}
use Rattle.swc_ecma_codegen_uniqueness.proofs.Lines.{Kin, same_kin, line_fails, never_lined}
use Rattle.swc_ecma_codegen_uniqueness.proofs.Parting.{Fork, parts, told, told_too, line_told, line_told_too, lined, lined_too, last, last_too, ended, ended_too, split}

-- ---- what leads to a state, where it is read

run_on : (ts us : List Token) (q : State) → run (ts ++ us) q ≡ run us (run ts q)
run_on [] us q = refl
run_on (t ∷ ts) us q = run_on ts us (next t q)

-- A list before what is read behind it leads to a state, from frames that hold nothing; and so does it as names.
abbrev pub from : List Control → State
from cs = At (begun_all cs) Empty

abbrev pub Leads : List Control → List Token → List Token → Type 0
Leads cs behind ts = is_fail (run (ts ++ behind) (from cs)) ≡ false

names_lead : (cs : List Control) (behind ts : List Token) → as_names behind ≡ behind → Leads cs behind ts → Leads cs behind (as_names ts)
names_lead cs behind ts e h =
    ap (λ us. is_fail (run (as_names ts ++ us) (from cs))) (sym e)
    ∙ ap (λ us. is_fail (run us (from cs))) (sym (names_on ts behind))
    ∙ named_run cs (ts ++ behind)
    ∙ h

fails_there : (cs : List Control) (xs ys us : List Token) (t : Token) → next t (run xs (from cs)) ≡ Fail → is_fail (run ((xs ++ (t ∷ ys)) ++ us) (from cs)) ≡ true
fails_there cs xs ys us t e =
    ap (λ z. is_fail (run z (from cs))) (append_assoc xs (t ∷ ys) us) ∙ ap is_fail (run_on xs (t ∷ (ys ++ us)) (from cs)) ∙ ap (λ q. is_fail (run (ys ++ us) q)) e ∙ ap is_fail (run_fails (ys ++ us))

-- a list that leads to one has no token that is refused
never_there : (cs : List Control) (behind ts xs us : List Token) (t : Token) → Leads cs behind ts → ts ≡ xs ++ (t ∷ us) → next t (run xs (from cs)) ≡ Fail → ⊥
never_there cs behind ts xs us t h e f = true≢false (sym (ap (λ z. is_fail (run (z ++ behind) (from cs))) e ∙ fails_there cs xs us behind t f) ∙ h)

never_two : (cs : List Control) (behind ts xs us : List Token) (t u : Token) → Leads cs behind ts → ts ≡ xs ++ (t ∷ u ∷ us) → next u (next t (run xs (from cs))) ≡ Fail → ⊥
never_two cs behind ts xs us t u h e f =
    true≢false (
    sym (
    ap (λ z. is_fail (run (z ++ behind) (from cs))) e ∙ ap (λ z. is_fail (run z (from cs))) (append_assoc xs (t ∷ u ∷ us) behind) ∙ ap is_fail (run_on xs (t ∷ u ∷ (us ++ behind)) (from cs))
    ∙ ap (λ q. is_fail (run (us ++ behind) q)) f ∙ ap is_fail (run_fails (us ++ behind))
    )
    ∙ h)

-- nor is what is read behind it
never_last : (cs : List Control) (t : Token) (behind ts xs : List Token) (line : Token) → Leads cs (t ∷ behind) ts → ts ≡ xs ++ (line ∷ []) → next t (next line (run xs (from cs))) ≡ Fail → ⊥
never_last cs t behind ts xs line h e f =
    true≢false (
    sym (
    ap (λ z. is_fail (run (z ++ (t ∷ behind)) (from cs))) e ∙ ap (λ z. is_fail (run z (from cs))) (append_assoc xs (line ∷ []) (t ∷ behind)) ∙ ap is_fail (run_on xs (line ∷ t ∷ behind) (from cs))
    ∙ ap (λ q. is_fail (run behind q)) f ∙ ap is_fail (run_fails behind)
    )
    ∙ h)

never_ended : (cs : List Control) (t : Token) (behind ts xs : List Token) → Leads cs (t ∷ behind) ts → ts ≡ xs ++ [] → next t (run xs (from cs)) ≡ Fail → ⊥
never_ended cs t behind ts xs h e f =
    true≢false (sym (ap (λ z. is_fail (run (z ++ (t ∷ behind)) (from cs))) (e ∙ append-nil xs) ∙ ap is_fail (run_on xs (t ∷ behind) (from cs)) ∙ ap (λ q. is_fail (run behind q)) f ∙ ap is_fail (run_fails behind)) ∙ h)

-- ---- so no two lists part where a token tells

pub none_part : (cs : List Control) (behind xs ys zs us vs : List Token) (x y : Token) → Leads cs behind xs → Leads cs behind ys → xs ≡ zs ++ (x ∷ us) → ys ≡ zs ++ (y ∷ vs) → Rivals (class x) (class y) → ⊥
none_part cs behind xs ys zs us vs x y d e f g r = elim (next_fails (run zs (from cs)) x y r) [ inl i ↦ never_there cs behind xs zs us x d f i | inr i ↦ never_there cs behind ys zs vs y e g i ]

none_lined : (cs : List Control) (behind xs ys zs us vs : List Token) (line x y : Token) → Leads cs behind xs → Leads cs behind ys → xs ≡ zs ++ (line ∷ x ∷ us) → ys ≡ zs ++ (y ∷ vs) → class line ≡ Line → is_line (class y) ≡ false →
    Kin (class x) (class y) → ⊥
none_lined cs behind xs ys zs us vs line x y d e f g l i k = elim (line_fails (run zs (from cs)) line x y l i k) [ inl j ↦ never_two cs behind xs zs us line x d f j | inr j ↦ never_there cs behind ys zs vs y e g j ]

none_last : (cs : List Control) (t : Token) (behind xs ys zs : List Token) (line : Token) → is_line (class t) ≡ false → Leads cs (t ∷ behind) xs → Leads cs (t ∷ behind) ys → xs ≡ zs ++ (line ∷ []) → ys ≡ zs ++ [] → class line ≡ Line → ⊥
none_last cs t behind xs ys zs line i d e f g l = elim (line_fails (run zs (from cs)) line t t l i (same_kin refl)) [ inl j ↦ never_last cs t behind xs zs line d f j | inr j ↦ never_ended cs t behind ys zs e g j ]

-- text between tags, where the other list ends
none_ended : (cs : List Control) (t : Token) (behind xs ys zs vs : List Token) (y : Token) → not (is_child (class t)) ≡ true → Leads cs (t ∷ behind) xs → Leads cs (t ∷ behind) ys → xs ≡ zs ++ [] → ys ≡ zs ++ (y ∷ vs) → class y ≡ Jsx TagText → ⊥
none_ended cs t behind xs ys zs vs y i d e f g r = elim (next_fails (run zs (from cs)) y t (subst (λ z. Rivals z (class t)) (sym r) (by_jsx i))) [
  | inl j ↦ never_there cs (t ∷ behind) ys zs vs y e g j
  | inr j ↦ never_ended cs t behind xs zs d f j
]

-- where two lists part, the tokens before don't tell
forks_part : (cs : List Control) (t : Token) (behind xs ys zs : List Token) → is_line (class t) ≡ false → not (is_child (class t)) ≡ true → Leads cs (t ∷ behind) xs → Leads cs (t ∷ behind) ys → {us vs : List Token} → Fork us vs → xs ≡ zs ++ us →
    ys ≡ zs ++ vs → begin_alike (behind_line us) (behind_line vs) ≡ true
forks_part cs t behind xs ys zs i j d e (parts h) f g = h
forks_part cs t behind xs ys zs i j d e (told {x = x} {y = y} {us = us} {vs = vs} r) f g = absurd (none_part cs (t ∷ behind) xs ys zs us vs x y d e f g r)
forks_part cs t behind xs ys zs i j d e (told_too {x = x} {y = y} {us = us} {vs = vs} r) f g = absurd (none_part cs (t ∷ behind) ys xs zs vs us y x e d g f r)
forks_part cs t behind xs ys zs i j d e (line_told {line = line} {x = x} {y = y} {us = us} {vs = vs} l m k) f g = absurd (none_lined cs (t ∷ behind) xs ys zs us vs line x y d e f g l m k)
forks_part cs t behind xs ys zs i j d e (line_told_too {line = line} {x = x} {y = y} {us = us} {vs = vs} l m k) f g = absurd (none_lined cs (t ∷ behind) ys xs zs us vs line x y e d g f l m k)
forks_part cs t behind xs ys zs i j d e (lined {line = line} {x = x} {us = us} l m) f g = absurd (never_two cs (t ∷ behind) xs zs us line x d f (never_lined (run zs (from cs)) line x l m))
forks_part cs t behind xs ys zs i j d e (lined_too {line = line} {x = x} {us = us} l m) f g = absurd (never_two cs (t ∷ behind) ys zs us line x e g (never_lined (run zs (from cs)) line x l m))
forks_part cs t behind xs ys zs i j d e (last {line = line} l) f g = absurd (none_last cs t behind xs ys zs line i d e f g l)
forks_part cs t behind xs ys zs i j d e (last_too {line = line} l) f g = absurd (none_last cs t behind ys xs zs line i e d g f l)
forks_part cs t behind xs ys zs i j d e (ended {y = y} {vs = vs} r) f g = absurd (none_ended cs t behind xs ys zs vs y j d e f g r)
forks_part cs t behind xs ys zs i j d e (ended_too {y = y} {vs = vs} r) f g = absurd (none_ended cs t behind ys xs zs vs y j e d g f r)

-- two lists of one text are one, as names, or they part
pub one_list : (cs : List Control) (t : Token) (behind xs ys : List Token) (text : List ℕ) (ks ds : List Remark) → is_line (class t) ≡ false → not (is_child (class t)) ≡ true → as_names (t ∷ behind) ≡ t ∷ behind → Leads cs (t ∷ behind) xs →
    Leads cs (t ∷ behind) ys → Reads text xs ks → Reads text ys ds → (as_names xs ≡ as_names ys) ⊎ Parting (as_names xs) (as_names ys)
unfolding Reads
one_list cs t behind xs ys text ks ds i j n d e h k = elim (split xs ys true false false text ks ds h k) [
  | inl f ↦ inl f
  | inr z ↦ inr (record {
    before = z.before;
    first = z.first;
    second = z.second;
    is_first = z.is_first;
    is_second = z.is_second;
    parts = forks_part cs t behind (as_names xs) (as_names ys) z.before i j (names_lead cs (t ∷ behind) xs n d) (names_lead cs (t ∷ behind) ys n e) z.fork z.is_first z.is_second;
  })
]
