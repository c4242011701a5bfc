-- A punctuator is the longest, where what follows doesn't become one with it.
use Rattle.std.proofs.Common.{Bool, List, [], ap, codes, cond, false, inl, inr, not, refl, subst, sym, true, ℕ, ◌&&◌, ◌++◌, ◌==◌, ◌∙◌, ◌∷◌, ◌≡◌}
use Rattle.std.proofs.lemmas.Bool.{and_cases, and_parts, eqb-true, false_from_ne_true, not-false, or_parts, true≢false}
use Rattle.swc_ecma_codegen_grammar.proofs.Conditions.{at_eq}
use Rattle.swc_ecma_codegen_grammar.proofs.Marks.{choice_alone, opener_cases}
use Rattle.swc_ecma_codegen_grammar.proofs.Tables.{among_begins, eq_of_same}
use Rattle.swc_ecma_codegen_grammar.specs.Chars.{begins_digit}
use Rattle.swc_ecma_codegen_grammar.specs.GapRules.{Separated, IntegerEnd, PreviousToken, LessBang, LineEnd, Mark, Ready, Start, TagNameEnd, TextEnd, Whole, WordEnd, allows, fuses, grows, is_choice, mark_after, mark_fuses}
use Rattle.swc_ecma_codegen_grammar.specs.LongestMatch.{openers}
use Rattle.swc_ecma_codegen_grammar.specs.Punctuators.{punctuators}
use Rattle.swc_ecma_codegen_grammar.specs.Texts.{begins, is_among, is_same, some_begins}

-- no longer punctuator
pub no_longer : (t m left : List ℕ) (c : ℕ) → mark_fuses t c (m ++ left) ≡ false → is_among (t ++ c ∷ m) punctuators ≡ true → (t ++ c ∷ m ≡ codes "?." → begins_digit left ≡ false) → ⊥
unfolding mark_fuses grows is_choice
no_longer t m left c f h d =
    let g : some_begins (t ++ c ∷ []) punctuators ≡ true = among_begins t c m punctuators h in
    let f0 : (some_begins (t ++ c ∷ []) punctuators && not (is_choice t c (m ++ left))) ≡ false = (or_parts _ _ f).0 in
    let k : is_choice t c (m ++ left) ≡ true = elim (and_cases _ _ f0) [ inl n ↦ absurd (true≢false (sym g ∙ n)) | inr n ↦ not-false _ n ] in
    let p = and_parts (is_same t (codes "?")) _ k in
    let q = and_parts (c == 46) _ p.1 in
    let et : t ≡ codes "?" = eq_of_same _ _ p.0 in
    let ec : c ≡ 46 = eqb-true c 46 q.0 in
    let h1 : is_among (codes "?." ++ m) punctuators ≡ true = subst (λ x. is_among (codes "?" ++ x ∷ m) punctuators ≡ true) ec (subst (λ x. is_among (x ++ c ∷ m) punctuators ≡ true) et h) in
    let em : m ≡ [] = choice_alone m h1 in
    let e : t ++ c ∷ m ≡ codes "?." = cc in
    let b : begins_digit left ≡ true = subst (λ x. begins_digit (x ++ left) ≡ true) em q.1 in
    true≢false (sym b ∙ d e)

-- no comment opens at a punctuator
pub no_slashes : (t rest : List ℕ) → is_among t punctuators ≡ true → fuses (Mark t) rest ≡ false → begins (codes "//") (t ++ rest) ≡ true → ⊥
unfolding is_among is_same punctuators begins fuses mark_fuses grows some_begins is_choice
no_slashes [] rest p f h = true≢false (sym p)
no_slashes (a ∷ []) [] p f h = true≢false (sym (and_parts (47 == a) _ h).1)
no_slashes (a ∷ []) (b ∷ n) p f h =
    let x = and_parts (47 == a) _ h in
    let y = and_parts (47 == b) _ x.1 in
    true≢false (at_eq (λ b. fuses (Mark (codes "/")) (b ∷ n) ≡ false) 47 b y.0 (at_eq (λ a. fuses (Mark (a ∷ [])) (b ∷ n) ≡ false) 47 a x.0 f))
no_slashes (a ∷ b ∷ t) rest p f h =
    let x = and_parts (47 == a) _ h in
    let y = and_parts (47 == b) _ x.1 in
    true≢false (sym (at_eq (λ b. is_among (47 ∷ b ∷ t) punctuators ≡ true) 47 b y.0 (at_eq (λ a. is_among (a ∷ b ∷ t) punctuators ≡ true) 47 a x.0 p)))

pub no_block : (t rest : List ℕ) → is_among t punctuators ≡ true → fuses (Mark t) rest ≡ false → begins (codes "/*") (t ++ rest) ≡ true → ⊥
unfolding is_among is_same punctuators begins fuses mark_fuses grows some_begins is_choice
no_block [] rest p f h = true≢false (sym p)
no_block (a ∷ []) [] p f h = true≢false (sym (and_parts (47 == a) _ h).1)
no_block (a ∷ []) (b ∷ n) p f h =
    let x = and_parts (47 == a) _ h in
    let y = and_parts (42 == b) _ x.1 in
    true≢false (at_eq (λ b. fuses (Mark (codes "/")) (b ∷ n) ≡ false) 42 b y.0 (at_eq (λ a. fuses (Mark (a ∷ [])) (b ∷ n) ≡ false) 47 a x.0 f))
no_block (a ∷ b ∷ t) rest p f h =
    let x = and_parts (47 == a) _ h in
    let y = and_parts (42 == b) _ x.1 in
    true≢false (sym (at_eq (λ b. is_among (47 ∷ b ∷ t) punctuators ≡ true) 42 b y.0 (at_eq (λ a. is_among (a ∷ b ∷ t) punctuators ≡ true) 47 a x.0 p)))

pub no_html_open : (t rest : List ℕ) → is_among t punctuators ≡ true → (t ≡ codes "<" → begins (codes "!--") rest ≡ false) → begins (codes "<!--") (t ++ rest) ≡ true → ⊥
unfolding is_among is_same punctuators begins
no_html_open [] rest p f h = true≢false (sym p)
no_html_open (a ∷ []) rest p f h =
    let x = and_parts (60 == a) _ h in
    true≢false (sym x.1 ∙ f (ap (λ z. z ∷ []) (sym (eqb-true 60 a x.0))))
no_html_open (a ∷ b ∷ t) rest p f h =
    let x = and_parts (60 == a) _ h in
    let y = and_parts (33 == b) _ x.1 in
    true≢false (sym (at_eq (λ b. is_among (60 ∷ b ∷ t) punctuators ≡ true) 33 b y.0 (at_eq (λ a. is_among (a ∷ b ∷ t) punctuators ≡ true) 60 a x.0 p)))

pub no_html_close : (t rest : List ℕ) → is_among t punctuators ≡ true → fuses (Mark t) rest ≡ false → begins (codes "-->") (t ++ rest) ≡ true → ⊥
unfolding is_among is_same punctuators begins fuses mark_fuses grows some_begins is_choice
no_html_close [] rest p f h = true≢false (sym p)
no_html_close (a ∷ []) [] p f h = true≢false (sym (and_parts (45 == a) _ h).1)
no_html_close (a ∷ []) (b ∷ n) p f h =
    let x = and_parts (45 == a) _ h in
    let y = and_parts (45 == b) _ x.1 in
    true≢false (at_eq (λ b. fuses (Mark (codes "-")) (b ∷ n) ≡ false) 45 b y.0 (at_eq (λ a. fuses (Mark (a ∷ [])) (b ∷ n) ≡ false) 45 a x.0 f))
no_html_close (a ∷ b ∷ []) [] p f h =
    true≢false (sym (and_parts (45 == b) _ (and_parts (45 == a) _ h).1).1)
no_html_close (a ∷ b ∷ []) (c ∷ n) p f h =
    let x = and_parts (45 == a) _ h in
    let y = and_parts (45 == b) _ x.1 in
    let z = and_parts (62 == c) _ y.1 in
    true≢false (at_eq (λ c. fuses (Mark (codes "--")) (c ∷ n) ≡ false) 62 c z.0 (at_eq (λ b. fuses (Mark (45 ∷ b ∷ [])) (c ∷ n) ≡ false) 45 b y.0 (at_eq (λ a. fuses (Mark (a ∷ b ∷ [])) (c ∷ n) ≡ false) 45 a x.0 f)))
no_html_close (a ∷ b ∷ c ∷ t) rest p f h =
    let x = and_parts (45 == a) _ h in
    let y = and_parts (45 == b) _ x.1 in
    let z = and_parts (62 == c) _ y.1 in
    true≢false (sym (at_eq (λ c. is_among (45 ∷ 45 ∷ c ∷ t) punctuators ≡ true) 62 c z.0 (at_eq (λ b. is_among (45 ∷ b ∷ c ∷ t) punctuators ≡ true) 45 b y.0 (at_eq (λ a. is_among (a ∷ b ∷ c ∷ t) punctuators ≡ true) 45 a x.0 p))))

-- `.` and `?.` before a digit
pub no_digit : (rest : List ℕ) → fuses (Mark (codes "?.")) rest ≡ false → begins_digit rest ≡ false
unfolding fuses mark_fuses is_same begins_digit
no_digit [] f = refl
no_digit (c ∷ n) f = (or_parts _ _ (or_parts _ _ f).1).0

bang_is_not_less : Mark (codes "!") ≡ Mark (codes "<") → ⊥
bang_is_not_less e = cc

mark_bang : (rest : List ℕ) → Ready LessBang rest → Ready (Mark (codes "!")) rest
unfolding fuses allows
mark_bang [] r = record { apart = refl; no_html = λ x. absurd (bang_is_not_less x); allowed = refl }
mark_bang (c ∷ n) r = record { apart = (or_parts (mark_fuses (codes "!") c n) _ r.apart).0; no_html = λ x. absurd (bang_is_not_less x); allowed = refl }

mark_case : (b : Bool) (p rest : List ℕ) → (b ≡ true → p ≡ codes "!") → Ready (cond b LessBang (Mark p)) rest → Ready (Mark p) rest
mark_case false p rest e r = r
mark_case true p rest e r = subst (λ z. Ready (Mark z) rest) (sym (e refl)) (mark_bang rest r)

pub mark_ready : (k : PreviousToken) (p rest : List ℕ) → Ready (mark_after k p) rest → Ready (Mark p) rest
unfolding mark_after
mark_ready Separated p rest r = r
mark_ready Start p rest r = r
mark_ready WordEnd p rest r = r
mark_ready IntegerEnd p rest r = r
mark_ready TextEnd p rest r = r
mark_ready TagNameEnd p rest r = r
mark_ready LineEnd p rest r = r
mark_ready (Mark t) p rest r = mark_case (is_same t (codes "<") && is_same p (codes "!")) p rest (λ e. eq_of_same p (codes "!") (and_parts (is_same t (codes "<")) _ e).1) r
mark_ready LessBang p rest r = r
mark_ready Whole p rest r = r

-- no comment opens at a punctuator
pub mark_comment : (t rest o : List ℕ) → is_among t punctuators ≡ true → Ready (Mark t) rest → is_among o openers ≡ true → begins o (t ++ rest) ≡ false
mark_comment t rest o p r h =
    opener_cases (λ o. begins o (t ++ rest) ≡ false) o h
    (false_from_ne_true _ (no_slashes t rest p r.apart))
    (false_from_ne_true _ (no_block t rest p r.apart))
    (false_from_ne_true _ (no_html_open t rest p (λ e. r.no_html (ap Mark e))))
    (false_from_ne_true _ (no_html_close t rest p r.apart))
