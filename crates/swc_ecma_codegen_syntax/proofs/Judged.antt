-- What the check says of a form, and over whatever gives the summaries of its parts.
use Rattle.std.proofs.Common.{◌≡◌, ℕ, Bool, false, ◌&&◌, not, List, [], ◌∷◌, map, Option, Some, None, refl, sym, ◌∙◌, ap, ap₂}
use Rattle.swc_ecma_codegen_grammar.specs.Phrases.{Phrase, Nothing, Then, mark}
use Rattle.swc_ecma_codegen_grammar.specs.Phrases as phrases
use Rattle.swc_ecma_codegen_grammar.specs.ElementPhrases as elements
use Rattle.swc_ecma_codegen_grammar.specs.declared.roles.Role.{Role}
use Rattle.swc_ecma_codegen_grammar.specs.declared.roles.Role.TheVariants.{Expression, Statement, Pattern}
use Rattle.swc_ecma_codegen_syntax.specs.declared.nonterminals.Nonterminal.{Nonterminal}
use Rattle.swc_ecma_codegen_syntax.specs.declared.parameters.Parameters.{Parameters}
use Rattle.swc_ecma_codegen_syntax.specs.declared.verdicts.Facts.{Facts}
use Rattle.swc_ecma_codegen_syntax.specs.Summary.{Summary, begins_in, empty_in, shape_in}
use Rattle.swc_ecma_codegen_syntax.specs.Shapes.{fits}
use Rattle.swc_ecma_codegen_syntax.specs.declared.verdicts.Verdict.{Verdict}
use Rattle.swc_ecma_codegen_syntax.specs.Verdicts.{Grammar, by_rule, standing, holds_in}
use Rattle.swc_ecma_codegen_syntax.specs.Parameters.{before}
use Rattle.swc_ecma_codegen_syntax.specs.Lookahead.{excludes}
use Rattle.swc_ecma_codegen_syntax.specs.Forms.{Form, Fixed, Part, Simple, Shaped, cure_of, Restricted, ByPlace, role_in, Both, Provided, Closed, Bare, Followed, ByRule, forget, map_form, is_target, asked, of_part, judge, is_met, stands, keeps, each_after, listed, some_listed, in_order, element, verdict_all, Lone}
use Rattle.swc_ecma_codegen_syntax.proofs.VerdictLaws.{and_true, and_assoc, holds_meet, holds_rule, holds_asked, holds_standing}

part_judged : (grammar : Grammar) (v : Verdict) (place : Nonterminal) (known : Facts) →
    holds_in grammar (of_part place v known) ≡ (holds_in grammar v && (stands grammar.places place known.nonterminal && holds_in grammar known.verdict))
part_judged grammar v place known =
    holds_meet grammar (standing v place known.nonterminal) known.verdict
    ∙ ap (λ b. b && holds_in grammar known.verdict) (holds_standing grammar v place known.nonterminal)
    ∙ and_assoc (holds_in grammar v) (stands grammar.places place known.nonterminal) (holds_in grammar known.verdict)

-- the verdict of a form holds where the one before it did and the form keeps its structure
pub judged : {X : Type 0} (grammar : Grammar) (f : X → Role → Parameters → Summary) (v : Verdict) (a : Form X) → holds_in grammar (judge f v a) ≡ (holds_in grammar v && keeps grammar f a)
unfolding judge keeps
judged grammar f v (Fixed p) = sym (and_true (holds_in grammar v))
judged grammar f v (Part place c role n) = part_judged grammar v place (f n role c).facts
judged grammar f v (Simple named place c n) =
    let t = (f n Expression c).facts in
    let b = is_target named t in
    part_judged grammar (by_rule v b) place t
    ∙ ap (λ k. k && (stands grammar.places place t.nonterminal && holds_in grammar t.verdict)) (holds_rule grammar v b)
    ∙ and_assoc (holds_in grammar v) b (stands grammar.places place t.nonterminal && holds_in grammar t.verdict)
judged grammar f v (Shaped shape place c role n) =
    let t = (f n role c).facts in
    let b = fits shape (shape_in f n) in
    part_judged grammar (asked (cure_of shape) v b) place t
    ∙ ap (λ k. k && (stands grammar.places place t.nonterminal && holds_in grammar t.verdict)) (holds_asked grammar (cure_of shape) v b)
    ∙ and_assoc (holds_in grammar v) (is_met grammar (cure_of shape) b) (stands grammar.places place t.nonterminal && holds_in grammar t.verdict)
judged grammar f v (Restricted lookahead place c as_pattern n) =
    let t = (f n (role_in as_pattern) c).facts in
    let b = not (excludes lookahead (begins_in f n (role_in as_pattern))) in
    part_judged grammar (asked ByPlace v b) place t
    ∙ ap (λ k. k && (stands grammar.places place t.nonterminal && holds_in grammar t.verdict)) (holds_asked grammar ByPlace v b)
    ∙ and_assoc (holds_in grammar v) (is_met grammar ByPlace b) (stands grammar.places place t.nonterminal && holds_in grammar t.verdict)
judged grammar f v (Lone place c n) = part_judged grammar v place (f n Pattern c).facts
judged grammar f v (Both a b) =
    judged grammar f (judge f v a) b ∙ ap (λ k. k && keeps grammar f b) (judged grammar f v a) ∙ and_assoc (holds_in grammar v) (keeps grammar f a) (keeps grammar f b)
judged grammar f v (Provided cure condition a) =
    judged grammar f (asked cure v condition) a ∙ ap (λ k. k && keeps grammar f a) (holds_asked grammar cure v condition)
    ∙ and_assoc (holds_in grammar v) (is_met grammar cure condition) (keeps grammar f a)
judged grammar f v (Closed comma close) = sym (and_true (holds_in grammar v))
judged grammar f v (Bare a) = judged grammar f v a
judged grammar f v (Followed place c n next) = part_judged grammar v place (f n Statement (before (empty_in f next) c)).facts

-- ---- over what links hold as something else

pub judge_mapped : {X Y : Type 0} (g : X → Y) (f : Y → Role → Parameters → Summary) (v : Verdict) (a : Form X) → judge f v (map_form g a) ≡ judge (λ x. f (g x)) v a
unfolding judge map_form
judge_mapped g f v (Fixed p) = refl
judge_mapped g f v (Part place c role n) = refl
judge_mapped g f v (Simple named place c n) = refl
judge_mapped g f v (Shaped shape place c role n) = refl
judge_mapped g f v (Restricted lookahead place c as_pattern n) = refl
judge_mapped g f v (Lone place c n) = refl
judge_mapped g f v (Both a b) = judge_mapped g f (judge f v (map_form g a)) b ∙ ap (λ w. judge (λ x. f (g x)) w b) (judge_mapped g f v a)
judge_mapped g f v (Provided cure condition a) = judge_mapped g f (asked cure v condition) a
judge_mapped g f v (Closed comma close) = refl
judge_mapped g f v (Bare a) = judge_mapped g f v a
judge_mapped g f v (Followed place c n next) = refl

pub keeps_mapped : {X Y : Type 0} (grammar : Grammar) (g : X → Y) (f : Y → Role → Parameters → Summary) (a : Form X) → keeps grammar f (map_form g a) ≡ keeps grammar (λ x. f (g x)) a
unfolding keeps map_form
keeps_mapped grammar g f (Fixed p) = refl
keeps_mapped grammar g f (Part place c role n) = refl
keeps_mapped grammar g f (Simple named place c n) = refl
keeps_mapped grammar g f (Shaped shape place c role n) = refl
keeps_mapped grammar g f (Restricted lookahead place c as_pattern n) = refl
keeps_mapped grammar g f (Lone place c n) = refl
keeps_mapped grammar g f (Both a b) = ap₂ (λ x y. x && y) (keeps_mapped grammar g f a) (keeps_mapped grammar g f b)
keeps_mapped grammar g f (Provided cure condition a) = ap (λ x. is_met grammar cure condition && x) (keeps_mapped grammar g f a)
keeps_mapped grammar g f (Closed comma close) = refl
keeps_mapped grammar g f (Bare a) = keeps_mapped grammar g f a
keeps_mapped grammar g f (Followed place c n next) = refl

-- ---- lists

pub after_judged : {X A : Type 0} (f : X → Role → Parameters → Summary) (t : List ℕ) (e : A → Form X) (v : Verdict) (xs : List A) →
    judge f v (each_after t e xs) ≡ verdict_all (λ x w. judge f w (e x)) v xs
unfolding judge each_after verdict_all
after_judged f t e v [] = refl
after_judged f t e v (x ∷ xs) = after_judged f t e (judge f v (e x)) xs

pub listed_judged : {X A : Type 0} (f : X → Role → Parameters → Summary) (t : List ℕ) (e : A → Form X) (v : Verdict) (xs : List A) →
    judge f v (listed t e xs) ≡ verdict_all (λ x w. judge f w (e x)) v xs
unfolding judge listed verdict_all
listed_judged f t e v [] = refl
listed_judged f t e v (x ∷ xs) = after_judged f t e (judge f v (e x)) xs

pub order_judged : {X A : Type 0} (f : X → Role → Parameters → Summary) (e : A → Form X) (v : Verdict) (xs : List A) →
    judge f v (in_order e xs) ≡ verdict_all (λ x w. judge f w (e x)) v xs
unfolding judge in_order verdict_all
order_judged f e v [] = refl
order_judged f e v (x ∷ xs) = order_judged f e (judge f v (e x)) xs

pub after_forgets : {X A : Type 0} (f : X → Role → Phrase) (t : List ℕ) (e : A → Form X) (xs : List A) → forget f (each_after t e xs) ≡ phrases.each_after t (map (λ x. forget f (e x)) xs)
unfolding forget each_after phrases.each_after
after_forgets f t e [] = refl
after_forgets f t e (x ∷ xs) = ap (λ p. Then (mark t) (Then (forget f (e x)) p)) (after_forgets f t e xs)

pub listed_forgets : {X A : Type 0} (f : X → Role → Phrase) (t : List ℕ) (e : A → Form X) (xs : List A) → forget f (listed t e xs) ≡ phrases.listed t (map (λ x. forget f (e x)) xs)
unfolding forget listed phrases.listed
listed_forgets f t e [] = refl
listed_forgets f t e (x ∷ xs) = ap (λ p. Then (forget f (e x)) p) (after_forgets f t e xs)

pub order_forgets : {X A : Type 0} (f : X → Role → Phrase) (e : A → Form X) (xs : List A) → forget f (in_order e xs) ≡ phrases.in_order (map (λ x. forget f (e x)) xs)
unfolding forget in_order phrases.in_order
order_forgets f e [] = refl
order_forgets f e (x ∷ xs) = ap (λ p. Then (forget f (e x)) p) (order_forgets f e xs)

pub some_forgets : {X A : Type 0} (f : X → Role → Phrase) (t : List ℕ) (e : A → Form X) (xs : List A) → forget f (some_listed t e xs) ≡ phrases.some_listed t (map (λ x. forget f (e x)) xs)
unfolding forget some_listed phrases.some_listed phrases.each_after
some_forgets f t e [] = refl
some_forgets f t e (x ∷ []) = refl
some_forgets f t e (x ∷ y ∷ xs) = ap (λ p. Then (forget f (e x)) p) (after_forgets f t e (y ∷ xs))

-- the same where each is read as something equal
pub map_same : {A B : Type 0} (e d : A → B) → ((x : A) → e x ≡ d x) → (xs : List A) → map e xs ≡ map d xs
map_same e d same [] = refl
map_same e d same (x ∷ xs) = ap₂ (λ y ys. y ∷ ys) (same x) (map_same e d same xs)

pub element_forgets : {X A : Type 0} (f : X → Role → Phrase) (e : A → Form X) (d : A → Phrase) → ((x : A) → forget f (e x) ≡ d x) → (o : Option A) → forget f (element e o) ≡ elements.element d o
unfolding forget element elements.element
element_forgets f e d same None = refl
element_forgets f e d same (Some x) = same x

pub after_mapped : {X Y A B : Type 0} (g : X → Y) (h : A → B) (t : List ℕ) (e : A → Form X) (d : B → Form Y) → ((x : A) → d (h x) ≡ map_form g (e x)) → (xs : List A) →
    each_after t d (map h xs) ≡ map_form g (each_after t e xs)
unfolding map_form each_after
after_mapped g h t e d same [] = refl
after_mapped g h t e d same (x ∷ xs) = ap₂ (λ a b. Both (Fixed (mark t)) (Both a b)) (same x) (after_mapped g h t e d same xs)

pub listed_mapped : {X Y A B : Type 0} (g : X → Y) (h : A → B) (t : List ℕ) (e : A → Form X) (d : B → Form Y) → ((x : A) → d (h x) ≡ map_form g (e x)) → (xs : List A) →
    listed t d (map h xs) ≡ map_form g (listed t e xs)
unfolding map_form listed
listed_mapped g h t e d same [] = refl
listed_mapped g h t e d same (x ∷ xs) = ap₂ (λ a b. Both a b) (same x) (after_mapped g h t e d same xs)

pub order_mapped : {X Y A B : Type 0} (g : X → Y) (h : A → B) (e : A → Form X) (d : B → Form Y) → ((x : A) → d (h x) ≡ map_form g (e x)) → (xs : List A) →
    in_order d (map h xs) ≡ map_form g (in_order e xs)
unfolding map_form in_order
order_mapped g h e d same [] = refl
order_mapped g h e d same (x ∷ xs) = ap₂ (λ a b. Both a b) (same x) (order_mapped g h e d same xs)

pub some_mapped : {X Y A B : Type 0} (g : X → Y) (h : A → B) (t : List ℕ) (e : A → Form X) (d : B → Form Y) → ((x : A) → d (h x) ≡ map_form g (e x)) → (xs : List A) →
    some_listed t d (map h xs) ≡ map_form g (some_listed t e xs)
unfolding map_form some_listed
some_mapped g h t e d same [] = refl
some_mapped g h t e d same (x ∷ []) = ap (λ a. Provided ByRule false (Both a (Fixed Nothing))) (same x)
some_mapped g h t e d same (x ∷ y ∷ xs) = ap₂ (λ a b. Both a b) (same x) (after_mapped g h t e d same (y ∷ xs))

pub element_mapped : {X Y A B : Type 0} (g : X → Y) (k : Option A → Option B) (h : A → B) (e : A → Form X) (d : B → Form Y) → k None ≡ None → ((x : A) → k (Some x) ≡ Some (h x)) →
    ((x : A) → d (h x) ≡ map_form g (e x)) → (o : Option A) → element d (k o) ≡ map_form g (element e o)
unfolding map_form element
element_mapped g k h e d none some same None = ap (element d) none
element_mapped g k h e d none some same (Some x) = ap (element d) (some x) ∙ same x
