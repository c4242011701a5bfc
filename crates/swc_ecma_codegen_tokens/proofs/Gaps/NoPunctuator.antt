-- Characters that no punctuator goes on with, and texts that differ behind what the gap rules look at.
use Rattle.std.proofs.Common.{◌≡◌, inl, inr, ℕ, Bool, true, false, not, ◌&&◌, ◌||◌, ◌==◌, List, [], ◌∷◌, ◌++◌, codes, refl, sym, ◌∙◌, ap, subst}
use Rattle.std.specs.Cmp.{both_ways}
use Rattle.std.proofs.lemmas.Bool.{or_cases, or_parts, and_parts, eqb-true, eq-eqb, false_from_ne_true, true≢false}
use Rattle.swc_ecma_codegen_grammar.specs.Chars.{begins_digit, is_digit, is_part, is_letter}
use Rattle.swc_ecma_codegen_grammar.specs.Texts.{is_same, begins, some_begins}
use Rattle.swc_ecma_codegen_grammar.specs.Punctuators.{punctuators}
use Rattle.swc_ecma_codegen_grammar.specs.GapRules.{PreviousToken, Start, Separated, WordEnd, IntegerEnd, Mark, LessBang, Whole, TextEnd, TagNameEnd, LineEnd, grows, is_choice, mark_fuses, fuses}

-- ---- lists of characters

unfoldable pub is_in : ℕ → List ℕ → Bool
is_in c [] = false
is_in c (d ∷ ds) = (c == d) || is_in c ds

unfoldable pub all_pass : {A : Type 0} → (A → Bool) → List A → Bool
all_pass f [] = true
all_pass f (x ∷ xs) = f x && all_pass f xs

pub passes : (f : ℕ → Bool) (c : ℕ) (xs : List ℕ) → all_pass f xs ≡ true → is_in c xs ≡ true → f c ≡ true
unfolding is_in all_pass
passes f c [] a h = absurd (cc)
passes f c (x ∷ xs) a h = let p = and_parts (f x) (all_pass f xs) a in elim (or_cases (c == x) (is_in c xs) h) [ inl e ↦ subst (λ (y : ℕ). f y ≡ true) (sym (eqb-true c x e)) p.0 | inr r ↦ passes f c xs p.1 r ]

-- the characters of punctuators
unfoldable pub marks : List ℕ
marks = codes "{}()[].;,<>=!+-*%&|^~?:/@"

-- ---- strangers to punctuators

within_marks : (c : ℕ) (p : List ℕ) → all_pass (λ d. is_in d marks) p ≡ true → is_in c marks ≡ false → is_in c p ≡ false
within_marks c p a h = false_from_ne_true (is_in c p) (λ e. true≢false (sym (passes (λ d. is_in d marks) c p a e) ∙ h))

begins_within : (t : List ℕ) (c : ℕ) (p : List ℕ) → is_in c p ≡ false → begins (t ++ c ∷ []) p ≡ false
unfolding begins is_in
begins_within [] c [] h = refl
begins_within [] c (d ∷ p) h = ap (λ b. b && true) (or_parts (c == d) (is_in c p) h).0
begins_within (a ∷ t) c [] h = refl
begins_within (a ∷ t) c (d ∷ p) h = elim (a == d) as (λ b. (b && begins (t ++ c ∷ []) p) ≡ false) [ true ↦ begins_within t c p (or_parts (c == d) (is_in c p) h).1 | false ↦ refl ]

none_begins : (t : List ℕ) (c : ℕ) (ps : List (List ℕ)) → all_pass (λ p. all_pass (λ d. is_in d marks) p) ps ≡ true → is_in c marks ≡ false → some_begins (t ++ c ∷ []) ps ≡ false
unfolding some_begins all_pass
none_begins t c [] a h = refl
none_begins t c (p ∷ ps) a h =
    let q = and_parts (all_pass (λ d. is_in d marks) p) (all_pass (λ x. all_pass (λ d. is_in d marks) x) ps) a in
    ap (λ b. b || some_begins (t ++ c ∷ []) ps) (begins_within t c p (within_marks c p q.0 h)) ∙ none_begins t c ps q.1 h

-- no punctuator goes on with a stranger
grows_stranger : (t : List ℕ) (c : ℕ) → is_in c marks ≡ false → grows t c ≡ false
unfolding grows punctuators all_pass is_in marks
grows_stranger t c h = none_begins t c punctuators refl h

-- a stranger is none of these
not_mark : (c d : ℕ) → is_in c marks ≡ false → is_in d marks ≡ true → (c == d) ≡ false
not_mark c d h m = false_from_ne_true (c == d) (λ e. true≢false (sym (ap (λ x. is_in x marks) (eqb-true c d e) ∙ m) ∙ h))

alone : (h s x : Bool) → (h || ((s && false) || (x && (false || false)))) ≡ h
alone true s x = refl
alone false true true = refl
alone false true false = refl
alone false false true = refl
alone false false false = refl

-- a punctuator and a stranger: a digit after a dot
mark_stranger : (t : List ℕ) (c : ℕ) (n : List ℕ) → is_in c marks ≡ false → mark_fuses t c n ≡ ((is_same t (codes ".") || is_same t (codes "?.")) && is_digit c)
unfolding mark_fuses is_in marks
mark_stranger t c n h =
    (λ i. (grows_stranger t c h i && not (is_choice t c n))
    || (((is_same t (codes ".") || is_same t (codes "?.")) && is_digit c)
    || ((is_same t (codes "--") && not_mark c 62 h refl i)
    || (is_same t (codes "/") && (not_mark c 47 h refl i || not_mark c 42 h refl i)))))
    ∙ alone ((is_same t (codes ".") || is_same t (codes "?.")) && is_digit c) (is_same t (codes "--")) (is_same t (codes "/"))

pub eq_swap : (a b : ℕ) → (a == b) ≡ (b == a)
eq_swap a b = both_ways (a == b) (b == a) (λ h. eq-eqb b a (sym (eqb-true a b h))) (λ h. eq-eqb a b (sym (eqb-true b a h)))

pub and_true : (b : Bool) → (b && true) ≡ b
and_true true = refl
and_true false = refl

pub and_false : (b : Bool) → (b && false) ≡ false
and_false true = refl
and_false false = refl

no_dashes : (c : ℕ) (n : List ℕ) → (c == 45) ≡ false → begins (codes "--") (c ∷ n) ≡ false
unfolding begins
no_dashes c n h = ap (λ b. b && begins (codes "-") n) (eq_swap 45 c ∙ h)

-- two strangers that are digits alike, and characters of names alike
pub stranger_same : (l : PreviousToken) (c d : ℕ) (n m : List ℕ) → is_in c marks ≡ false → is_in d marks ≡ false → is_digit c ≡ is_digit d → (is_part c || (c == 92)) ≡ (is_part d || (d == 92)) → fuses l (c ∷ n) ≡ fuses l (d ∷ m)
unfolding fuses is_in marks
stranger_same Start c d n m h k e p = refl
stranger_same Separated c d n m h k e p = refl
stranger_same WordEnd c d n m h k e p = p
stranger_same IntegerEnd c d n m h k e p = λ i. p i || (not_mark c 46 h refl ∙ sym (not_mark d 46 k refl)) i
stranger_same (Mark t) c d n m h k e p = mark_stranger t c n h ∙ (ap (λ b. (is_same t (codes ".") || is_same t (codes "?.")) && b) e ∙ sym (mark_stranger t d m k))
stranger_same LessBang c d n m h k e p =
    let a = mark_stranger (codes "!") c n h ∙ (ap (λ b. (is_same (codes "!") (codes ".") || is_same (codes "!") (codes "?.")) && b) e ∙ sym (mark_stranger (codes "!") d m k)) in
    let b = no_dashes c n (not_mark c 45 h refl) ∙ sym (no_dashes d m (not_mark d 45 k refl)) in
    λ i. a i || b i
stranger_same Whole c d n m h k e p = refl
stranger_same TextEnd c d n m h k e p = refl
stranger_same TagNameEnd c d n m h k e p = p
stranger_same LineEnd c d n m h k e p = refl

null_apart : (l : PreviousToken) → fuses l (0 ∷ []) ≡ false
unfolding fuses is_in marks is_part is_letter is_digit begins
null_apart Start = refl
null_apart Separated = refl
null_apart WordEnd = refl
null_apart IntegerEnd = refl
null_apart (Mark t) = mark_stranger t 0 [] refl ∙ and_false (is_same t (codes ".") || is_same t (codes "?."))
null_apart LessBang = ap (λ b. b || begins (codes "--") (0 ∷ [])) (mark_stranger (codes "!") 0 [] refl ∙ and_false (is_same (codes "!") (codes ".") || is_same (codes "!") (codes "?.")))
null_apart Whole = refl
null_apart TextEnd = refl
null_apart TagNameEnd = refl
null_apart LineEnd = refl

-- a stranger that is neither a digit nor a character of a name
pub stranger_apart : (l : PreviousToken) (c : ℕ) (n : List ℕ) → is_in c marks ≡ false → is_digit c ≡ false → (is_part c || (c == 92)) ≡ false → fuses l (c ∷ n) ≡ false
unfolding is_in marks is_part is_letter is_digit
stranger_apart l c n h e p = stranger_same l c 0 n [] h refl e p ∙ null_apart l

-- ---- what is looked at behind the first character

choice_same : (t : List ℕ) (n m : List ℕ) → begins_digit n ≡ begins_digit m → mark_fuses t 46 n ≡ mark_fuses t 46 m
unfolding mark_fuses is_choice
choice_same t n m h =
    ap
    (λ b. (grows t 46 && not (is_same t (codes "?") && ((46 == 46) && b)))
    || (((is_same t (codes ".") || is_same t (codes "?.")) && is_digit 46) || ((is_same t (codes "--") && (46 == 62)) || (is_same t (codes "/") && ((46 == 47) || (46 == 42))))))
    h

-- a dot: whether a digit follows
pub dot_same : (l : PreviousToken) (n m : List ℕ) → begins_digit n ≡ begins_digit m → fuses l (46 ∷ n) ≡ fuses l (46 ∷ m)
unfolding fuses begins
dot_same Start n m h = refl
dot_same Separated n m h = refl
dot_same WordEnd n m h = refl
dot_same IntegerEnd n m h = refl
dot_same (Mark t) n m h = choice_same t n m h
dot_same LessBang n m h = ap (λ b. b || false) (choice_same (codes "!") n m h)
dot_same Whole n m h = refl
dot_same TextEnd n m h = refl
dot_same TagNameEnd n m h = refl
dot_same LineEnd n m h = refl

unseen : (t : List ℕ) (c : ℕ) (n m : List ℕ) → (c == 46) ≡ false → mark_fuses t c n ≡ mark_fuses t c m
unfolding mark_fuses is_choice
unseen t c n m h =
    let same : ((c == 46) && begins_digit n) ≡ ((c == 46) && begins_digit m) = ap (λ b. b && begins_digit n) h ∙ sym (ap (λ b. b && begins_digit m) h) in
    ap
    (λ b. (grows t c && not (is_same t (codes "?") && b))
    || (((is_same t (codes ".") || is_same t (codes "?.")) && is_digit c) || ((is_same t (codes "--") && (c == 62)) || (is_same t (codes "/") && ((c == 47) || (c == 42))))))
    same

-- a dash: whether another follows
pub dash_same : (l : PreviousToken) (n m : List ℕ) → begins (codes "-") n ≡ begins (codes "-") m → fuses l (45 ∷ n) ≡ fuses l (45 ∷ m)
unfolding fuses begins
dash_same Start n m h = refl
dash_same Separated n m h = refl
dash_same WordEnd n m h = refl
dash_same IntegerEnd n m h = refl
dash_same (Mark t) n m h = unseen t 45 n m refl
dash_same LessBang n m h = λ i. unseen (codes "!") 45 n m refl i || h i
dash_same Whole n m h = refl
dash_same TextEnd n m h = refl
dash_same TagNameEnd n m h = refl
dash_same LineEnd n m h = refl

-- any other character: nothing
pub other_same : (l : PreviousToken) (c : ℕ) (n m : List ℕ) → (c == 46) ≡ false → (c == 45) ≡ false → fuses l (c ∷ n) ≡ fuses l (c ∷ m)
unfolding fuses
other_same Start c n m h k = refl
other_same Separated c n m h k = refl
other_same WordEnd c n m h k = refl
other_same IntegerEnd c n m h k = refl
other_same (Mark t) c n m h k = unseen t c n m h
other_same LessBang c n m h k = λ i. unseen (codes "!") c n m h i || (no_dashes c n k ∙ sym (no_dashes c m k)) i
other_same Whole c n m h k = refl
other_same TextEnd c n m h k = refl
other_same TagNameEnd c n m h k = refl
other_same LineEnd c n m h k = refl
