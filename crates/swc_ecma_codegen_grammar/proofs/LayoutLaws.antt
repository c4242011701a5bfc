-- The lists of a tree under settings that differ in whether they minify.
use Rattle.std.proofs.Common.{◌≡◌, ◌⊎◌, Bool, true, false, ◌&&◌, cond, List, [], ◌∷◌, ◌++◌, append_assoc, append-nil, refl, sym, ap, ◌∙◌, subst, inl, inr}
use Rattle.std.proofs.lemmas.Bool.{or_parts, true≢false}
use Rattle.std.specs.List.{list_all, list_any}
use Rattle.std.specs.Prelude.{ℕ, not, nat_lt, Some, codes}
use Rattle.std.specs.Str.{chars}
use Rattle.swc_ecma_codegen_common.specs.declared.versions.EsVersion.{EsVersion}
use Rattle.swc_ecma_codegen_grammar.specs.declared.kinds.Kind.TheVariants.{Str, Punctuator, Ending}
use Rattle.swc_ecma_codegen_grammar.specs.CodeUnits.{all_utf16}
use Rattle.swc_ecma_codegen_grammar.specs.Endings.{IsReduced}
use Rattle.swc_ecma_codegen_grammar.specs.Keys.{wants_quotes, is_quoted, key_token}
use Rattle.swc_ecma_codegen_grammar.specs.Layouts.{AreAlike, Alongside, leaves_open, PutsIn, no_more, token, with_semicolon, with_comma, with_parentheses, AreSameBut, IsWritten}
use Rattle.swc_ecma_codegen_grammar.specs.Names.{name_value}
use Rattle.swc_ecma_codegen_grammar.specs.Phrases.{Phrase, Never, Nothing, One, NameOf, KeyOf, PrivateOf, TagNameOf, Then, CommaBefore, OptionalParentheses, Chosen, EmptyArguments, LoopEnding, AttributesWord, Generates, chosen, closing_mark, closing_token, comma, open_parenthesis, close_parenthesis, in_parentheses}
use Rattle.swc_ecma_codegen_grammar.specs.Settings.{Settings, is_up_to_es5}
use Rattle.swc_ecma_codegen_grammar.specs.SpelledNames.{spelled_name}
use Rattle.swc_ecma_codegen_grammar.specs.Tokens.{Token, Units, ending}
use Rattle.swc_ecma_codegen_grammar.specs.Tokens as tokens

-- ---- semicolons left out, needed or not

-- the same tokens without some semicolons that end a statement
Drops : List Token → List Token → Type 0
Drops [] ys = ys ≡ []
Drops (x ∷ xs) ys = ((zs : List Token) × (ys ≡ x ∷ zs) × Drops xs zs) ⊎ ((x ≡ ending) × Drops xs ys)

dropped : (xs ys : List Token) → IsReduced xs ys → Drops xs ys
unfolding IsReduced Drops
dropped [] ys h = h
dropped (x ∷ xs) ys (inl h) = inl (h.0, h.1, dropped xs h.0 h.2)
dropped (x ∷ xs) ys (inr h) = inr (h.0, dropped xs ys h.2)

drops_both : (xs ys us vs : List Token) → Drops xs us → Drops ys vs → Drops (xs ++ ys) (us ++ vs)
unfolding Drops
drops_both [] ys us vs h k = subst (λ z. Drops ys (z ++ vs)) (sym h) k
drops_both (x ∷ xs) ys us vs (inl h) k = inl (h.0 ++ vs, ap (λ z. z ++ vs) h.1, drops_both xs ys h.0 vs h.2 k)
drops_both (x ∷ xs) ys us vs (inr h) k = inr (h.0, drops_both xs ys us vs h.1 k)

-- of two lists, each without some
record Split (xs ys zs : List Token) : Type 0 where
  pub left : List Token
  pub right : List Token
  pub is : zs ≡ left ++ right
  pub of_first : Drops xs left
  pub of_second : Drops ys right

split : (xs ys zs : List Token) → Drops (xs ++ ys) zs → Split xs ys zs
unfolding Drops
split [] ys zs h = record { left = []; right = zs; is = refl; of_first = refl; of_second = h }
split (x ∷ xs) ys zs (inl h) =
    let p = split xs ys h.0 h.2 in
    record { left = x ∷ p.left; right = p.right; is = h.1 ∙ ap (λ z. x ∷ z) p.is; of_first = inl (p.left, refl, p.of_first); of_second = p.of_second }
split (x ∷ xs) ys zs (inr h) =
    let p = split xs ys zs h.1 in
    record { left = p.left; right = p.right; is = p.is; of_first = inr (h.0, p.of_first); of_second = p.of_second }

-- a punctuator ends no statement
no_ending : (t : List ℕ) → tokens.punctuator t ≡ ending → ⊥
unfolding tokens.punctuator ending
no_ending t e = let k : Punctuator ≡ Ending = ap (λ (x : Token). x.kind) e in absurd (cc)

kept_mark : (t : List ℕ) (xs zs : List Token) → Drops (tokens.punctuator t ∷ xs) zs → (ys : List Token) × (zs ≡ tokens.punctuator t ∷ ys) × Drops xs ys
unfolding Drops
kept_mark t xs zs (inl h) = h
kept_mark t xs zs (inr h) = absurd (no_ending t h.0)

-- what the second list is without some, where the first is without some too
record Less (xs zs : List Token) : Type 0 where
  pub less : List Token
  pub drops : Drops xs less
  pub puts : PutsIn less zs

less_then : (xs ys us vs zs : List Token) → zs ≡ us ++ (close_parenthesis ∷ vs) → Less xs us → Less ys vs → Less (xs ++ ys) (open_parenthesis ∷ zs)
less_then xs ys us vs zs e h k = record {
  less = h.less ++ k.less;
  drops = drops_both xs ys h.less k.less h.drops k.drops;
  puts = subst (λ z. PutsIn (h.less ++ k.less) (open_parenthesis ∷ z)) (sym e) (with_parentheses h.less k.less us vs h.puts k.puts);
}

less_of : (xs ys zs : List Token) → PutsIn xs ys → Drops ys zs → Less xs zs
unfolding Drops
less_of xs ys zs no_more h = record { less = []; drops = refl; puts = subst (λ z. PutsIn [] z) (sym h) no_more }
less_of xs ys zs (token x us vs p) (inl h) =
    let k = less_of us vs h.0 p h.2 in
    record { less = x ∷ k.less; drops = inl (k.less, refl, k.drops); puts = subst (λ z. PutsIn (x ∷ k.less) z) (sym h.1) (token x k.less h.0 k.puts) }
less_of xs ys zs (token x us vs p) (inr h) =
    let k = less_of us vs zs p h.1 in
    record { less = k.less; drops = inr (h.0, k.drops); puts = k.puts }
less_of xs ys zs (with_semicolon us vs p) (inl h) =
    let k = less_of us vs h.0 p h.2 in
    record { less = k.less; drops = k.drops; puts = subst (λ z. PutsIn k.less z) (sym h.1) (with_semicolon k.less h.0 k.puts) }
less_of xs ys zs (with_semicolon us vs p) (inr h) = less_of us vs zs p h.1
less_of xs ys zs (with_comma close us vs p) h =
    let m = kept_mark (codes ",") (closing_token close ∷ vs) zs h in
    let n = kept_mark (closing_mark close) vs m.0 m.2 in
    let k = less_of us vs n.0 p n.2 in
    record {
      less = closing_token close ∷ k.less;
      drops = inl (k.less, refl, k.drops);
      puts = subst (λ z. PutsIn (closing_token close ∷ k.less) z) (sym (m.1 ∙ ap (λ z. comma ∷ z) n.1)) (with_comma close k.less n.0 k.puts);
    }
less_of xs ys zs (with_parentheses ks bs us vs p q) h =
    let m = kept_mark (codes "(") (us ++ (close_parenthesis ∷ vs)) zs h in
    let s = split us (close_parenthesis ∷ vs) m.0 m.2 in
    let n = kept_mark (codes ")") vs s.right s.of_second in
    subst (λ z. Less (ks ++ bs) z) (sym m.1) (less_then ks bs s.left n.0 m.0 (s.is ∙ ap (λ z. s.left ++ z) n.1) (less_of ks us s.left p s.of_first) (less_of bs vs n.0 q n.2))

-- what the first list is without is put in
puts_back : (xs ys zs : List Token) → PutsIn xs ys → Drops xs zs → PutsIn zs ys
unfolding Drops
puts_back xs ys zs no_more h = subst (λ z. PutsIn z []) (sym h) no_more
puts_back xs ys zs (token x us vs p) (inl h) = subst (λ z. PutsIn z (x ∷ vs)) (sym h.1) (token x h.0 vs (puts_back us vs h.0 p h.2))
puts_back xs ys zs (token x us vs p) (inr h) = subst (λ (z : Token). PutsIn zs (z ∷ vs)) (sym h.0) (with_semicolon zs vs (puts_back us vs zs p h.1))
puts_back xs ys zs (with_semicolon us vs p) h = with_semicolon zs vs (puts_back us vs zs p h)
puts_back xs ys zs (with_comma close us vs p) h =
    let m = kept_mark (closing_mark close) us zs h in
    subst (λ z. PutsIn z (comma ∷ closing_token close ∷ vs)) (sym m.1) (with_comma close m.0 vs (puts_back us vs m.0 p m.2))
puts_back xs ys zs (with_parentheses ks bs us vs p q) h =
    let s = split ks bs zs h in
    subst (λ z. PutsIn z (open_parenthesis ∷ (us ++ (close_parenthesis ∷ vs)))) (sym s.is) (with_parentheses s.left s.right us vs (puts_back ks us s.left p s.of_first) (puts_back bs vs s.right q s.of_second))

same_reduced : (xs ys us vs : List Token) → AreSameBut xs ys → IsReduced xs us → IsReduced ys vs → AreSameBut us vs
same_reduced xs ys us vs h r s =
    let a = less_of h.both xs us h.first (dropped xs us r) in
    let b = less_of a.less ys vs (puts_back h.both ys a.less h.second a.drops) (dropped ys vs s) in
    record { both = b.less; first = puts_back a.less us b.less a.puts b.drops; second = b.puts }

-- ---- the lists of a phrase

-- what no layout leaves out
core : Settings → Phrase → List Token
core s Never = []
core s Nothing = []
core s (One x) = x ∷ []
core s (NameOf at bytes) = tokens.name (name_value (spelled_name bytes)) ∷ []
core s (KeyOf at bytes) = key_token s bytes ∷ []
core s (PrivateOf bytes) = tokens.private_name (name_value (spelled_name bytes)) ∷ []
core s (TagNameOf at bytes) = tokens.tag_name (chars bytes) ∷ []
core s (Then a b) = core s a ++ core s b
core s (CommaBefore close) = closing_token close ∷ []
core s (OptionalParentheses round a) = core s a
core s (Chosen EmptyArguments) = []
core s (Chosen LoopEnding) = []
core s (Chosen AttributesWord) = chosen s AttributesWord

puts_both : (xs ys us vs : List Token) → PutsIn xs us → PutsIn ys vs → PutsIn (xs ++ ys) (us ++ vs)
puts_both xs ys us vs no_more q = q
puts_both xs ys us vs (token x ks bs p) q = token x (ks ++ ys) (bs ++ vs) (puts_both ks ys bs vs p q)
puts_both xs ys us vs (with_semicolon ks bs p) q = with_semicolon (ks ++ ys) (bs ++ vs) (puts_both ks ys bs vs p q)
puts_both xs ys us vs (with_comma close ks bs p) q = with_comma close (ks ++ ys) (bs ++ vs) (puts_both ks ys bs vs p q)
puts_both xs ys us vs (with_parentheses ks bs cs ds p r) q =
    subst (λ z. PutsIn z ((open_parenthesis ∷ (cs ++ (close_parenthesis ∷ ds))) ++ vs)) (sym (append_assoc ks bs ys))
    (subst (λ z. PutsIn (ks ++ (bs ++ ys)) (open_parenthesis ∷ z)) (sym (append_assoc cs (close_parenthesis ∷ ds) vs)) (with_parentheses ks (bs ++ ys) cs (ds ++ vs) p (puts_both bs ys ds vs r q)))

one_token : (x : Token) (ts : List Token) → ts ≡ x ∷ [] → PutsIn (x ∷ []) ts
one_token x ts e = subst (λ z. PutsIn (x ∷ []) z) (sym e) (token x [] [] no_more)

no_token : (ts : List Token) → ts ≡ [] → PutsIn [] ts
no_token ts e = subst (λ z. PutsIn [] z) (sym e) no_more

within : (xs us : List Token) → PutsIn xs us → PutsIn xs (in_parentheses us)
within xs us p = subst (λ z. PutsIn z (in_parentheses us)) (append-nil xs) (with_parentheses xs [] us [] p no_more)

arguments : (s : Settings) → PutsIn [] (chosen s EmptyArguments)
unfolding chosen
arguments s = elim s.minify as (λ b. PutsIn [] (cond b [] (in_parentheses []))) [ true ↦ no_more | false ↦ within [] [] no_more ]

loop_ending : (s : Settings) → PutsIn [] (chosen s LoopEnding)
unfolding chosen
loop_ending s = elim (is_up_to_es5 s.target) as (λ b. PutsIn [] (cond b (ending ∷ []) [])) [ true ↦ with_semicolon [] [] no_more | false ↦ no_more ]

listed : (s : Settings) (f : Phrase) (ts : List Token) → Generates s f ts → PutsIn (core s f) ts
unfolding Generates core chosen
listed s Never ts g = absurd g
listed s Nothing ts g = no_token ts g
listed s (One x) ts g = one_token x ts g
listed s (NameOf at bytes) ts g = one_token _ ts g
listed s (KeyOf at bytes) ts g = one_token _ ts g
listed s (PrivateOf bytes) ts g = one_token _ ts g
listed s (TagNameOf at bytes) ts g = one_token _ ts g
listed s (Then a b) ts g = subst (λ z. PutsIn (core s a ++ core s b) z) (sym g.4) (puts_both (core s a) (core s b) g.0 g.1 (listed s a g.0 g.2) (listed s b g.1 g.3))
listed s (CommaBefore close) ts (inl g) = one_token _ ts g
listed s (CommaBefore close) ts (inr g) = subst (λ z. PutsIn (closing_token close ∷ []) z) (sym g) (with_comma close [] [] no_more)
listed s (OptionalParentheses round a) ts (inl g) = listed s a ts g
listed s (OptionalParentheses round a) ts (inr g) = subst (λ z. PutsIn (core s a) z) (sym g.2) (within (core s a) g.0 (listed s a g.0 g.1))
listed s (Chosen EmptyArguments) ts g = subst (λ z. PutsIn [] z) (sym g) (arguments s)
listed s (Chosen LoopEnding) ts g = subst (λ z. PutsIn [] z) (sym g) (loop_ending s)
listed s (Chosen AttributesWord) ts g = one_token _ ts g

-- a key is the same under settings that are alike
same_key : (s t : Settings) (bytes : List ℕ) → AreAlike s t → key_token s bytes ≡ key_token t bytes
unfolding key_token is_quoted
same_key s t bytes a =
    let text : List ℕ = spelled_name bytes in
    let quoted : Token = record { kind = Str; value = Units (Some (all_utf16 (name_value text))) } in
    let token_by : Bool → EsVersion → Token = λ b v. cond (b && (not (list_all (λ c. nat_lt c 128) text) && list_any (wants_quotes v) text)) quoted (tokens.name (name_value text)) in
    ap (λ b. token_by b s.target) a.ascii_only ∙ ap (λ v. token_by t.ascii_only v) a.target

same_word : (s t : Settings) → AreAlike s t → chosen s AttributesWord ≡ chosen t AttributesWord
unfolding chosen
same_word s t a = ap (λ b. tokens.word (cond b (codes "assert") (codes "with")) ∷ []) a.assert_for_attributes

same_ending : (s t : Settings) → AreAlike s t → chosen s LoopEnding ≡ chosen t LoopEnding
unfolding chosen
same_ending s t a = ap (λ v. cond (is_up_to_es5 v) (ending ∷ []) []) a.target

core_same : (s t : Settings) (f : Phrase) → AreAlike s t → core s f ≡ core t f
unfolding core chosen
core_same s t Never a = refl
core_same s t Nothing a = refl
core_same s t (One x) a = refl
core_same s t (NameOf at bytes) a = refl
core_same s t (KeyOf at bytes) a = ap (λ x. x ∷ []) (same_key s t bytes a)
core_same s t (PrivateOf bytes) a = refl
core_same s t (TagNameOf at bytes) a = refl
core_same s t (Then f g) a = ap (λ z. z ++ core s g) (core_same s t f a) ∙ ap (λ z. core t f ++ z) (core_same s t g a)
core_same s t (CommaBefore close) a = refl
core_same s t (OptionalParentheses round f) a = core_same s t f a
core_same s t (Chosen EmptyArguments) a = refl
core_same s t (Chosen LoopEnding) a = refl
core_same s t (Chosen AttributesWord) a = same_word s t a

-- The lists of a phrase are the same but for what a layout may leave out.
pub lists_alike : (s t : Settings) (f : Phrase) (xs ys : List Token) → AreAlike s t → Generates s f xs → Generates t f ys → AreSameBut xs ys
lists_alike s t f xs ys a g h = record { both = core s f; first = listed s f xs g; second = subst (λ z. PutsIn z ys) (sym (core_same s t f a)) (listed t f ys h) }

-- so is what is written of them
pub written_alike : (s t : Settings) (f : Phrase) (xs ys : List Token) → AreAlike s t → IsWritten s f xs → IsWritten t f ys → AreSameBut xs ys
written_alike s t f xs ys a g h = same_reduced g.tokens h.tokens xs ys (lists_alike s t f g.tokens h.tokens a g.is_list h.is_list) g.reduced h.reduced

-- ---- by what syntax leaves open

-- Two lists of a phrase differ where it leaves something open, and nowhere else.
pub alongside : (s t : Settings) (f : Phrase) (xs ys : List Token) → AreAlike s t → Generates s f xs → Generates t f ys → Alongside s t f xs ys
unfolding Alongside Generates
alongside s t Never xs ys a g h = g
alongside s t Nothing xs ys a g h = (g, h)
alongside s t (One x) xs ys a g h = (g, h)
alongside s t (NameOf at bytes) xs ys a g h = (g, h)
alongside s t (KeyOf at bytes) xs ys a g h = (g, h ∙ ap (λ x. x ∷ []) (sym (same_key s t bytes a)))
alongside s t (PrivateOf bytes) xs ys a g h = (g, h)
alongside s t (TagNameOf at bytes) xs ys a g h = (g, h)
alongside s t (Then e f) xs ys a g h = (g.0, g.1, h.0, h.1, alongside s t e g.0 h.0 a g.2 h.2, alongside s t f g.1 h.1 a g.3 h.3, g.4, h.4)
alongside s t (CommaBefore close) xs ys a g h = (g, h)
alongside s t (OptionalParentheses round f) xs ys a (inl g) (inl h) = (xs, ys, alongside s t f xs ys a g h, inl refl, inl refl)
alongside s t (OptionalParentheses round f) xs ys a (inl g) (inr h) = (xs, h.0, alongside s t f xs h.0 a g h.1, inl refl, inr h.2)
alongside s t (OptionalParentheses round f) xs ys a (inr g) (inl h) = (g.0, ys, alongside s t f g.0 ys a g.1 h, inr g.2, inl refl)
alongside s t (OptionalParentheses round f) xs ys a (inr g) (inr h) = (g.0, h.0, alongside s t f g.0 h.0 a g.1 h.1, inr g.2, inr h.2)
alongside s t (Chosen EmptyArguments) xs ys a g h = (g, h)
alongside s t (Chosen LoopEnding) xs ys a g h = (g, h ∙ sym (same_ending s t a))
alongside s t (Chosen AttributesWord) xs ys a g h = (g, h ∙ sym (same_word s t a))

-- so do those that what is written is reduced from
pub written_alongside : (s t : Settings) (f : Phrase) (xs ys : List Token) → AreAlike s t → (g : IsWritten s f xs) → (h : IsWritten t f ys) → Alongside s t f g.tokens h.tokens
written_alongside s t f xs ys a g h = alongside s t f g.tokens h.tokens a g.is_list h.is_list

-- Where a phrase leaves nothing open, it has one list under the same settings.
pub one_list : (s : Settings) (f : Phrase) (xs ys : List Token) → leaves_open f ≡ false → Generates s f xs → Generates s f ys → xs ≡ ys
unfolding leaves_open Generates
one_list s Never xs ys e g h = absurd g
one_list s Nothing xs ys e g h = g ∙ sym h
one_list s (One x) xs ys e g h = g ∙ sym h
one_list s (NameOf at bytes) xs ys e g h = g ∙ sym h
one_list s (KeyOf at bytes) xs ys e g h = g ∙ sym h
one_list s (PrivateOf bytes) xs ys e g h = g ∙ sym h
one_list s (TagNameOf at bytes) xs ys e g h = g ∙ sym h
one_list s (Then a b) xs ys e g h =
    let p = or_parts (leaves_open a) (leaves_open b) e in
    g.4 ∙ ap (λ z. z ++ g.1) (one_list s a g.0 h.0 p.0 g.2 h.2) ∙ ap (λ z. h.0 ++ z) (one_list s b g.1 h.1 p.1 g.3 h.3) ∙ sym h.4
one_list s (CommaBefore close) xs ys e g h = absurd (true≢false e)
one_list s (OptionalParentheses round a) xs ys e g h = absurd (true≢false e)
one_list s (Chosen choice) xs ys e g h = g ∙ sym h
