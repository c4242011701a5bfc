-- What lists have in common that differ by layout, or in commas alone.
use Rattle.std.proofs.Common.{◌≡◌, ◌⊎◌, inl, inr, ℕ, Bool, true, false, ◌&&◌, ◌||◌, ◌==◌, cond, List, [], ◌∷◌, ◌++◌, codes, refl, sym, ap, ◌∙◌, subst}
use Rattle.std.proofs.lemmas.Bool.{or_left, or_parts, true≢false}
use Rattle.swc_ecma_codegen_grammar.specs.Phrases.{RightBrace, RightBracket, closing_mark}
use Rattle.swc_ecma_codegen_grammar.specs.TemplatePhrases.{part_kind}
use Rattle.swc_ecma_codegen_grammar.specs.Texts.{is_same}
use Rattle.swc_ecma_codegen_grammar.specs.declared.kinds.Kind.{Kind}
use Rattle.swc_ecma_codegen_grammar.specs.declared.kinds.Kind.TheVariants as kinds
use Rattle.swc_ecma_codegen_grammar.specs.declared.kinds.TemplatePart.{TemplatePart}
use Rattle.swc_ecma_codegen_tree.specs.declared.lits.BigInt.{BigInt}
use Rattle.swc_ecma_codegen_settings.specs.declared.config.Config.{Config}
use Rattle.swc_ecma_codegen_tokens.specs.Literals.{signed}
use Rattle.swc_ecma_codegen_tokens.specs.Lits.{big_int_text, prints_big_raw}
use Rattle.swc_ecma_codegen_laws.specs.Layouts.{Tokens, DifferByLayout, DifferInCommas, IsOneLiteral, LeavesArguments, begins_arrow, big_integer, holds_new_or_arrow, is_mark, is_new, is_parenthesis, is_punctuator, is_word, mark, new_word, opens, parentheses, without_commas, no_more, token, literal, first_comma, second_comma, parameter, arguments, string, number, number_before_dot, big_int, template_part}

-- ---- a literal is one token, or two where it has a sign

data Shape : Tokens → Type 0 where
  plain : (x : Kind × List ℕ) → is_punctuator x.0 ≡ false → is_word x.0 ≡ false → Shape (x ∷ [])
  negative : (x : Kind × List ℕ) → is_punctuator x.0 ≡ false → is_word x.0 ≡ false → Shape (mark (codes "-") ∷ x ∷ [])

signed_shape : (kind : Kind) → is_punctuator kind ≡ false → is_word kind ≡ false → (t : List ℕ) → Shape (signed kind t)
unfolding signed
signed_shape kind h w [] = plain (kind, []) h w
signed_shape kind h w (c ∷ cs) = elim (c == 45) as (λ b. Shape (cond b (mark (codes "-") ∷ (kind, cs) ∷ []) ((kind, c ∷ cs) ∷ []))) [ true ↦ negative (kind, cs) h w | false ↦ plain (kind, c ∷ cs) h w ]

big_shape : (config : Config) (n : BigInt) → Shape (big_integer config n)
unfolding is_punctuator is_word
big_shape config n = elim (prints_big_raw config n) as (λ b. Shape (cond b ((kinds.BigInt, big_int_text config n) ∷ []) (signed kinds.BigInt (big_int_text config n ++ codes "n")))) [
  | true ↦ plain (kinds.BigInt, big_int_text config n) refl refl
  | false ↦ signed_shape kinds.BigInt refl refl (big_int_text config n ++ codes "n")
]

part_shape : (first : Bool) (part : TemplatePart) (t : List ℕ) → Shape ((part_kind first part, t) ∷ [])
unfolding part_kind is_punctuator is_word
part_shape true part t = plain (kinds.Template part, t) refl refl
part_shape false part t = plain (kinds.TemplateRest part, t) refl refl

shapes : {s t : Config} (us vs : Tokens) → IsOneLiteral s t us vs → Shape us × Shape vs
unfolding is_punctuator is_word
shapes us vs (string n) = (plain (kinds.Str, _) refl refl, plain (kinds.Str, _) refl refl)
shapes us vs (number n) = (signed_shape kinds.Number refl refl _, signed_shape kinds.Number refl refl _)
shapes us vs (number_before_dot n) = (signed_shape kinds.Number refl refl _, signed_shape kinds.Number refl refl _)
shapes {s} {t} us vs (big_int n) = (big_shape s n, big_shape t n)
shapes us vs (template_part first part n) = (part_shape first part _, part_shape first part _)

-- ---- a `(` of the second list

never : {A : Type 0} → false ≡ true → A
never h = absurd (true≢false (sym h))

-- a token that is no punctuator
closed_by : (x : Kind × List ℕ) (more : Tokens) → is_punctuator x.0 ≡ false → opens (x ∷ more) ≡ false
unfolding opens
closed_by x more h = ap (λ b. b && is_same x.1 (codes "(")) h

closed_literal : (us more : Tokens) → Shape us → opens (us ++ more) ≡ false
unfolding opens is_punctuator is_same
closed_literal us more (plain x h w) = closed_by x more h
closed_literal us more (negative x h w) = refl

opened : {s t : Config} (xs ys : Tokens) → DifferByLayout s t xs ys → opens ys ≡ true → (opens xs || begins_arrow xs) ≡ true
unfolding opens begins_arrow is_punctuator is_same closing_mark
opened xs ys no_more h = never h
opened xs ys (token x fs gs m) h = or_left (opens (x ∷ fs)) (begins_arrow (x ∷ fs)) h
opened xs ys (literal ps qs fs gs e one m) h = never (sym (closed_literal qs gs (shapes ps qs one).1) ∙ h)
opened xs ys (first_comma close fs gs e m) h = never e
opened xs ys (second_comma close fs gs e m) h = never h
opened xs ys (parameter name fs gs e m) h = refl
opened xs ys (arguments callee types ps qs fs gs e a b k m) h = never h

-- ---- behind a token that stands in both

is_some_list : Tokens → Bool
is_some_list [] = false
is_some_list (x ∷ xs) = true

rest_of : Tokens → Tokens
rest_of [] = []
rest_of (x ∷ xs) = xs

begins_mark : Tokens → Bool
begins_mark [] = false
begins_mark (x ∷ xs) = is_punctuator x.0

begins_new : Tokens → Bool
begins_new [] = false
begins_new (x ∷ xs) = is_new x

-- which begins the same in both
begins_comma : Tokens → Bool
begins_comma [] = false
begins_comma (x ∷ xs) = is_mark (codes ",") x

opened_on : {s t : Config} (fs gs xs ys : Tokens) → DifferByLayout s t fs gs → fs ≡ xs → gs ≡ mark (codes "(") ∷ ys → (opens xs || begins_arrow xs) ≡ true
unfolding opens is_punctuator is_same
opened_on fs gs xs ys m d e = subst (λ z. (opens z || begins_arrow z) ≡ true) d (opened fs gs m (ap opens e))

behind_literal : {s t : Config} (x : Kind × List ℕ) (us vs fs gs xs ys : Tokens) → Shape us → Shape vs → DifferByLayout s t fs gs → us ++ fs ≡ x ∷ xs → vs ++ gs ≡ x ∷ mark (codes "(") ∷ ys → (opens xs || begins_arrow xs) ≡ true
unfolding rest_of begins_mark opens is_punctuator is_same
behind_literal x us vs fs gs xs ys (plain a h v) (plain b k w) m d e = opened_on fs gs xs ys m (ap rest_of d) (ap rest_of e)
behind_literal x us vs fs gs xs ys (negative a h v) (plain b k w) m d e = never (sym k ∙ ap begins_mark e ∙ sym (ap begins_mark d))
behind_literal x us vs fs gs xs ys shape (negative b k w) m d e = never (sym (closed_by b gs k) ∙ ap (λ z. opens (rest_of z)) e)

behind : {s t : Config} (x : Kind × List ℕ) (xs ys us vs : Tokens) → is_new x ≡ false → DifferByLayout s t us vs → us ≡ x ∷ xs → vs ≡ x ∷ mark (codes "(") ∷ ys → (opens xs || begins_arrow xs) ≡ true
unfolding is_some_list rest_of begins_mark begins_new begins_comma is_punctuator is_word is_same closing_mark
behind x xs ys us vs n no_more d e = never (ap is_some_list d)
behind x xs ys us vs n (token y fs gs m) d e = opened_on fs gs xs ys m (ap rest_of d) (ap rest_of e)
behind x xs ys us vs n (literal ps qs fs gs l one m) d e = behind_literal x ps qs fs gs xs ys (shapes ps qs one).0 (shapes ps qs one).1 m d e
behind x xs ys us vs n (first_comma close fs gs l m) d e = never l
behind x xs ys us vs n (second_comma RightBracket fs gs l m) d e = never (ap begins_comma d ∙ sym (ap begins_comma e))
behind x xs ys us vs n (second_comma RightBrace fs gs l m) d e = never (ap begins_comma d ∙ sym (ap begins_comma e))
behind x xs ys us vs n (parameter name fs gs l m) d e = never (ap begins_mark d ∙ sym (ap begins_mark e))
behind x xs ys us vs n (arguments callee types ps qs fs gs l a b k m) d e = never (sym n ∙ sym (ap begins_new d))

pub opened_behind : (s t : Config) (x : Kind × List ℕ) (xs ys : Tokens) → is_new x ≡ false → DifferByLayout s t (x ∷ xs) (x ∷ mark (codes "(") ∷ ys) → (opens xs || begins_arrow xs) ≡ true
opened_behind s t x xs ys n m = behind x xs ys _ _ n m refl refl

-- ---- behind a `new` that stands in both

new_literal : (us more xs : Tokens) → Shape us → us ++ more ≡ new_word ∷ xs → false ≡ true
unfolding begins_new begins_mark is_punctuator is_word is_same
new_literal us more xs (plain x h w) e = sym (ap (λ b. b && is_same x.1 (codes "new")) w) ∙ ap begins_new e
new_literal us more xs (negative x h w) e = sym (ap begins_mark e)

behind_new : {s t : Config} (xs ys us vs : Tokens) → DifferByLayout s t us vs → us ≡ new_word ∷ xs → vs ≡ new_word ∷ ys → DifferByLayout s t xs ys ⊎ LeavesArguments s t xs ys
unfolding is_some_list rest_of begins_mark begins_new is_punctuator is_word is_same
behind_new xs ys us vs no_more d e = never (ap is_some_list d)
behind_new {s} {t} xs ys us vs (token y fs gs m) d e = inl (subst (λ z. DifferByLayout s t z ys) (ap rest_of d) (subst (λ z. DifferByLayout s t fs z) (ap rest_of e) m))
behind_new xs ys us vs (literal ps qs fs gs l one m) d e = never (new_literal ps fs xs (shapes ps qs one).0 d)
behind_new xs ys us vs (first_comma close fs gs l m) d e = never l
behind_new xs ys us vs (second_comma close fs gs l m) d e = never (sym (ap begins_mark d))
behind_new xs ys us vs (parameter name fs gs l m) d e = never (ap begins_new d)
behind_new xs ys us vs (arguments callee types ps qs fs gs l a b k m) d e = inr (record {
  callee = callee;
  types = types;
  first = ps;
  second = qs;
  first_rest = fs;
  second_rest = gs;
  first_called = a;
  second_called = b;
  first_is = sym (ap rest_of d);
  second_is = sym (ap rest_of e);
  alike = k;
  rest = m;
})

pub stands_behind_called : (s t : Config) (xs ys : Tokens) → DifferByLayout s t (new_word ∷ xs) (new_word ∷ ys) → DifferByLayout s t xs ys ⊎ LeavesArguments s t xs ys
stands_behind_called s t xs ys m = behind_new xs ys _ _ m refl refl

-- ---- lists without `new` and `=>`

plain_by : (x : Kind × List ℕ) → is_punctuator x.0 ≡ false → is_parenthesis x ≡ false
plain_by x h = ap (λ b. (b && is_same x.1 (codes "(")) || (b && is_same x.1 (codes ")"))) h

no_parenthesis : (us more : Tokens) → Shape us → parentheses (us ++ more) ≡ parentheses more
unfolding parentheses is_punctuator is_same
no_parenthesis us more (plain x h w) = ap (λ b. cond b (x ∷ parentheses more) (parentheses more)) (plain_by x h)
no_parenthesis us more (negative x h w) = ap (λ b. cond b (x ∷ parentheses more) (parentheses more)) (plain_by x h)

rest_holds : (x : Kind × List ℕ) (more : Tokens) → holds_new_or_arrow (x ∷ more) ≡ false → holds_new_or_arrow more ≡ false
unfolding holds_new_or_arrow
rest_holds x more h = (or_parts (is_mark (codes "=>") x) (holds_new_or_arrow more) (or_parts (is_new x) (is_mark (codes "=>") x || holds_new_or_arrow more) h).1).1

behind_holds : (us more : Tokens) → Shape us → holds_new_or_arrow (us ++ more) ≡ false → holds_new_or_arrow more ≡ false
behind_holds us more (plain x k w) h = rest_holds x more h
behind_holds us more (negative x k w) h = rest_holds x more (rest_holds (mark (codes "-")) (x ∷ more) h)

pub same_parentheses : (s t : Config) (xs ys : Tokens) → DifferByLayout s t xs ys → holds_new_or_arrow xs ≡ false → parentheses xs ≡ parentheses ys
unfolding parentheses holds_new_or_arrow is_punctuator is_word is_same closing_mark
same_parentheses s t xs ys no_more h = refl
same_parentheses s t xs ys (token x fs gs m) h = ap (λ z. cond (is_parenthesis x) (x ∷ z) z) (same_parentheses s t fs gs m (rest_holds x fs h))
same_parentheses s t xs ys (literal ps qs fs gs e one m) h =
    no_parenthesis ps fs (shapes ps qs one).0 ∙ same_parentheses s t fs gs m (behind_holds ps fs (shapes ps qs one).0 h) ∙ sym (no_parenthesis qs gs (shapes ps qs one).1)
same_parentheses s t xs ys (first_comma close fs gs e m) h = never e
same_parentheses s t xs ys (second_comma RightBracket fs gs e m) h = same_parentheses s t fs gs m h
same_parentheses s t xs ys (second_comma RightBrace fs gs e m) h = same_parentheses s t fs gs m h
same_parentheses s t xs ys (parameter name fs gs e m) h = never (sym h)
same_parentheses s t xs ys (arguments callee types ps qs fs gs e a b k m) h = never (sym h)

-- ---- commas

pub same_without : (s : Config) (xs ys : Tokens) → DifferInCommas s xs ys → without_commas xs ≡ without_commas ys
unfolding without_commas is_punctuator is_same closing_mark
same_without s xs ys no_more = refl
same_without s xs ys (token x fs gs m) = ap (λ z. cond (is_mark (codes ",") x) z (x ∷ z)) (same_without s fs gs m)
same_without s xs ys (literal ps qs fs gs e one m) = never e
same_without s xs ys (first_comma RightBracket fs gs e m) = ap (λ z. mark (codes "]") ∷ z) (same_without s fs gs m)
same_without s xs ys (first_comma RightBrace fs gs e m) = ap (λ z. mark (codes "}") ∷ z) (same_without s fs gs m)
same_without s xs ys (second_comma RightBracket fs gs e m) = ap (λ z. mark (codes "]") ∷ z) (same_without s fs gs m)
same_without s xs ys (second_comma RightBrace fs gs e m) = ap (λ z. mark (codes "}") ∷ z) (same_without s fs gs m)
same_without s xs ys (parameter name fs gs e m) = never e
same_without s xs ys (arguments callee types ps qs fs gs e a b k m) = never e
