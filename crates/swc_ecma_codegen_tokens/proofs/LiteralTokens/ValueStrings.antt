-- The strings of steps that are printed by their value.
use Rattle.std.proofs.Common.{◌≡◌, ℕ, Bool, true, false, cond, ◌&&◌, List, [], ◌∷◌, ◌++◌, append_assoc, refl, sym, ap, ◌∙◌, subst}
use Rattle.std.proofs.lemmas.Bool.{or_parts}
use Rattle.swc_ecma_codegen_grammar.specs.declared.kinds.Kind.{Kind}
use Rattle.swc_ecma_codegen_text_writer.specs.Sheet.{Item}
use Rattle.swc_ecma_codegen_tokens.specs.Run.{Step, Guard, Token, Plain, Ends, Remake, Take, CommentText, text_of}
use Rattle.swc_ecma_codegen_tokens.specs.Scripts.{is_string_call, string_by_value, strings_after, AreSafe}
use Rattle.swc_ecma_codegen_tokens.proofs.Emission.StepAscii.{has_string}

-- whether texts are made anew, after some steps
unfoldable pub anew_after : Bool → List Step → Bool
anew_after anew [] = anew
anew_after anew (Guard t ∷ xs) = anew_after anew xs
anew_after anew (Token kind x ∷ xs) = anew_after anew xs
anew_after anew (Plain x ∷ xs) = anew_after anew xs
anew_after anew (Ends tokens x ∷ xs) = anew_after anew xs
anew_after anew (Remake due ∷ xs) = anew_after due xs
anew_after anew (Take side at ∷ xs) = anew_after anew xs
anew_after anew (CommentText t ∷ xs) = anew_after anew xs

pub anew_append : (anew : Bool) (xs ys : List Step) → anew_after anew (xs ++ ys) ≡ anew_after (anew_after anew xs) ys
unfolding anew_after
anew_append anew [] ys = refl
anew_append anew (Guard t ∷ xs) ys = anew_append anew xs ys
anew_append anew (Token kind x ∷ xs) ys = anew_append anew xs ys
anew_append anew (Plain x ∷ xs) ys = anew_append anew xs ys
anew_append anew (Ends tokens x ∷ xs) ys = anew_append anew xs ys
anew_append anew (Remake due ∷ xs) ys = anew_append due xs ys
anew_append anew (Take side at ∷ xs) ys = anew_append anew xs ys
anew_append anew (CommentText t ∷ xs) ys = anew_append anew xs ys

pub strings_append : (anew : Bool) (xs ys : List Step) → strings_after anew (xs ++ ys) ≡ strings_after anew xs ++ strings_after (anew_after anew xs) ys
unfolding strings_after anew_after
strings_append anew [] ys = refl
strings_append anew (Guard t ∷ xs) ys = strings_append anew xs ys
strings_append anew (Token kind x ∷ xs) ys = let here = string_by_value anew kind x in ap (λ z. here ++ z) (strings_append anew xs ys) ∙ sym (append_assoc here (strings_after anew xs) (strings_after (anew_after anew xs) ys))
strings_append anew (Plain x ∷ xs) ys = strings_append anew xs ys
strings_append anew (Ends tokens x ∷ xs) ys = strings_append anew xs ys
strings_append anew (Remake due ∷ xs) ys = strings_append due xs ys
strings_append anew (Take side at ∷ xs) ys = strings_append anew xs ys
strings_append anew (CommentText t ∷ xs) ys = strings_append anew xs ys

-- ---- no string

and_never : (a b : Bool) → b ≡ false → (a && b) ≡ false
and_never true b h = h
and_never false b h = refl

no_call : (anew : Bool) (kind : Kind) (x : Item) → is_string_call kind x ≡ false → string_by_value anew kind x ≡ []
unfolding string_by_value
no_call anew kind x h = ap (λ b. cond b (text_of x ∷ []) []) (and_never anew (is_string_call kind x) h)

pub none_by_value : (anew : Bool) (xs : List Step) → has_string xs ≡ false → strings_after anew xs ≡ []
unfolding has_string strings_after
none_by_value anew [] h = refl
none_by_value anew (Guard t ∷ xs) h = none_by_value anew xs h
none_by_value anew (Token kind x ∷ xs) h = let p = or_parts (is_string_call kind x) (has_string xs) h in ap (λ z. z ++ strings_after anew xs) (no_call anew kind x p.0) ∙ none_by_value anew xs p.1
none_by_value anew (Plain x ∷ xs) h = none_by_value anew xs h
none_by_value anew (Ends tokens x ∷ xs) h = none_by_value anew xs h
none_by_value anew (Remake due ∷ xs) h = none_by_value due xs h
none_by_value anew (Take side at ∷ xs) h = none_by_value anew xs h
none_by_value anew (CommentText t ∷ xs) h = none_by_value anew xs h

-- ---- safe ones

pub both_safe : (ts us : List (List ℕ)) → AreSafe ts → AreSafe us → AreSafe (ts ++ us)
unfolding AreSafe
both_safe [] us h k = k
both_safe (t ∷ ts) us h k = (h.0, both_safe ts us h.1 k)

-- of steps, and then of others, whatever was before them
pub steps_safe : (xs ys : List Step) → ((anew : Bool) → AreSafe (strings_after anew xs)) → ((anew : Bool) → AreSafe (strings_after anew ys)) → (anew : Bool) → AreSafe (strings_after anew (xs ++ ys))
steps_safe xs ys h k anew = subst AreSafe (sym (strings_append anew xs ys)) (both_safe (strings_after anew xs) (strings_after (anew_after anew xs) ys) (h anew) (k (anew_after anew xs)))
