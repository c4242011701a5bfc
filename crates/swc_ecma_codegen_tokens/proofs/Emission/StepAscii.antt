-- What steps hand over: ASCII, where the settings ask for that, or what stands as it is in the tree; and strings.
use Rattle.std.proofs.Common.{◌≡◌, Bool, true, false, not, ◌&&◌, ◌||◌, List, [], ◌∷◌, ◌++◌, refl, sym, ap, ◌∙◌, inl, inr}
use Rattle.std.proofs.lemmas.Bool.{and_from, and_parts, or_cases, or_from, or_left, or_right, true≢false}
use Rattle.swc_ecma_codegen_grammar.specs.Tokens as lexical
use Rattle.swc_ecma_codegen_text_writer.specs.Sheet.{Item}
use Rattle.swc_ecma_codegen_literals.specs.AsciiNames.{is_ascii_text}
use Rattle.swc_ecma_codegen_grammar.specs.CommentMaps.{Maps}
use Rattle.swc_ecma_codegen_tokens.specs.Run.{Env, at_maps, Step, Guard, Token, Plain, Ends, Remake, Take, CommentText, text_of}
use Rattle.swc_ecma_codegen_tokens.specs.Ascii.{is_other, is_other_piece, is_other_end, is_other_value, keeps_other, are_ascii, is_kept, is_kept_piece, is_kept_end, are_ascii_or_kept, keeps_tokens}
use Rattle.swc_ecma_codegen_tokens.specs.Scripts.{is_str, is_string_call}

-- a string is among these steps
unfoldable pub has_string : List Step → Bool
has_string [] = false
has_string (Guard t ∷ xs) = has_string xs
has_string (Token kind x ∷ xs) = is_string_call kind x || has_string xs
has_string (Plain x ∷ xs) = has_string xs
has_string (Ends tokens x ∷ xs) = has_string xs
has_string (Remake due ∷ xs) = has_string xs
has_string (Take side at ∷ xs) = has_string xs
has_string (CommentText t ∷ xs) = has_string xs

-- and among these tokens
unfoldable pub holds_string : List lexical.Token → Bool
holds_string [] = false
holds_string (x ∷ xs) = is_str x.kind || holds_string xs

-- Where the settings ask for ASCII, each text is, save what stands as it is in the tree; and of such a text there is a token.
-- Of a string there is one too.
pub record HandsOverAscii (env : Env) (steps : List Step) (ts : List lexical.Token) : Type 0 where
  pub ascii : env.config.ascii_only ≡ true → are_ascii_or_kept steps ≡ true
  pub keeps : keeps_other steps ≡ true → keeps_tokens ts ≡ true
  pub strings : has_string steps ≡ true → holds_string ts ≡ true

-- whatever comments are to be taken
pub hands_at : {env : Env} {steps : List Step} {ts : List lexical.Token} (maps : Maps) → HandsOverAscii env steps ts → HandsOverAscii (at_maps maps env) steps ts
hands_at maps h = record { ascii = h.ascii; keeps = h.keeps; strings = h.strings }

pub hands_from : {env : Env} {steps : List Step} {ts : List lexical.Token} (maps : Maps) → HandsOverAscii (at_maps maps env) steps ts → HandsOverAscii env steps ts
hands_from maps h = record { ascii = h.ascii; keeps = h.keeps; strings = h.strings }

-- ---- steps one after the other

or_assoc : (a b c : Bool) → (a || (b || c)) ≡ ((a || b) || c)
or_assoc true b c = refl
or_assoc false b c = refl

and_assoc : (a b c : Bool) → (a && (b && c)) ≡ ((a && b) && c)
and_assoc true b c = refl
and_assoc false b c = refl

pub keeps_append : (xs ys : List Step) → keeps_other (xs ++ ys) ≡ (keeps_other xs || keeps_other ys)
unfolding keeps_other
keeps_append [] ys = refl
keeps_append (Guard t ∷ xs) ys = keeps_append xs ys
keeps_append (Token kind x ∷ xs) ys = ap (λ z. is_other kind x || z) (keeps_append xs ys) ∙ or_assoc (is_other kind x) (keeps_other xs) (keeps_other ys)
keeps_append (Plain x ∷ xs) ys = ap (λ z. is_other_piece x || z) (keeps_append xs ys) ∙ or_assoc (is_other_piece x) (keeps_other xs) (keeps_other ys)
keeps_append (Ends tokens x ∷ xs) ys = ap (λ z. is_other_end tokens x || z) (keeps_append xs ys) ∙ or_assoc (is_other_end tokens x) (keeps_other xs) (keeps_other ys)
keeps_append (Remake due ∷ xs) ys = keeps_append xs ys
keeps_append (Take side at ∷ xs) ys = keeps_append xs ys
keeps_append (CommentText t ∷ xs) ys = keeps_append xs ys

pub ascii_append : (xs ys : List Step) → are_ascii (xs ++ ys) ≡ (are_ascii xs && are_ascii ys)
unfolding are_ascii
ascii_append [] ys = refl
ascii_append (Guard t ∷ xs) ys = ascii_append xs ys
ascii_append (Token kind x ∷ xs) ys = ap (λ z. is_ascii_text (text_of x) && z) (ascii_append xs ys) ∙ and_assoc (is_ascii_text (text_of x)) (are_ascii xs) (are_ascii ys)
ascii_append (Plain x ∷ xs) ys = ap (λ z. is_ascii_text (text_of x) && z) (ascii_append xs ys) ∙ and_assoc (is_ascii_text (text_of x)) (are_ascii xs) (are_ascii ys)
ascii_append (Ends tokens x ∷ xs) ys = ap (λ z. is_ascii_text (text_of x) && z) (ascii_append xs ys) ∙ and_assoc (is_ascii_text (text_of x)) (are_ascii xs) (are_ascii ys)
ascii_append (Remake due ∷ xs) ys = ascii_append xs ys
ascii_append (Take side at ∷ xs) ys = ascii_append xs ys
ascii_append (CommentText t ∷ xs) ys = ascii_append xs ys

pub or_kept_append : (xs ys : List Step) → are_ascii_or_kept (xs ++ ys) ≡ (are_ascii_or_kept xs && are_ascii_or_kept ys)
unfolding are_ascii_or_kept
or_kept_append [] ys = refl
or_kept_append (Guard t ∷ xs) ys = or_kept_append xs ys
or_kept_append (Token kind x ∷ xs) ys = ap (λ z. (is_ascii_text (text_of x) || is_kept kind x) && z) (or_kept_append xs ys) ∙ and_assoc (is_ascii_text (text_of x) || is_kept kind x) (are_ascii_or_kept xs) (are_ascii_or_kept ys)
or_kept_append (Plain x ∷ xs) ys = ap (λ z. (is_ascii_text (text_of x) || is_kept_piece x) && z) (or_kept_append xs ys) ∙ and_assoc (is_ascii_text (text_of x) || is_kept_piece x) (are_ascii_or_kept xs) (are_ascii_or_kept ys)
or_kept_append (Ends tokens x ∷ xs) ys = ap (λ z. (is_ascii_text (text_of x) || is_kept_end tokens x) && z) (or_kept_append xs ys) ∙ and_assoc (is_ascii_text (text_of x) || is_kept_end tokens x) (are_ascii_or_kept xs) (are_ascii_or_kept ys)
or_kept_append (Remake due ∷ xs) ys = or_kept_append xs ys
or_kept_append (Take side at ∷ xs) ys = or_kept_append xs ys
or_kept_append (CommentText t ∷ xs) ys = or_kept_append xs ys

-- ASCII is one of the two
call_or_kept : (kept : Bool) (x : Item) (all rest : Bool) → (is_ascii_text (text_of x) && all) ≡ true → (all ≡ true → rest ≡ true) → ((is_ascii_text (text_of x) || kept) && rest) ≡ true
call_or_kept kept x all rest h k =
    let p = and_parts (is_ascii_text (text_of x)) all h in
    and_from (is_ascii_text (text_of x) || kept) rest (or_left (is_ascii_text (text_of x)) kept p.0) (k p.1)

pub kept_of_ascii : (xs : List Step) → are_ascii xs ≡ true → are_ascii_or_kept xs ≡ true
unfolding are_ascii are_ascii_or_kept
kept_of_ascii [] h = refl
kept_of_ascii (Guard t ∷ xs) h = kept_of_ascii xs h
kept_of_ascii (Token kind x ∷ xs) h = call_or_kept (is_kept kind x) x (are_ascii xs) (are_ascii_or_kept xs) h (kept_of_ascii xs)
kept_of_ascii (Plain x ∷ xs) h = call_or_kept (is_kept_piece x) x (are_ascii xs) (are_ascii_or_kept xs) h (kept_of_ascii xs)
kept_of_ascii (Ends tokens x ∷ xs) h = call_or_kept (is_kept_end tokens x) x (are_ascii xs) (are_ascii_or_kept xs) h (kept_of_ascii xs)
kept_of_ascii (Remake due ∷ xs) h = kept_of_ascii xs h
kept_of_ascii (Take side at ∷ xs) h = kept_of_ascii xs h
kept_of_ascii (CommentText t ∷ xs) h = kept_of_ascii xs h

pub tokens_keep : (ts us : List lexical.Token) → keeps_tokens (ts ++ us) ≡ (keeps_tokens ts || keeps_tokens us)
unfolding keeps_tokens
tokens_keep [] us = refl
tokens_keep (x ∷ ts) us = ap (λ z. is_other_value x.kind x.value || z) (tokens_keep ts us) ∙ or_assoc (is_other_value x.kind x.value) (keeps_tokens ts) (keeps_tokens us)

pub has_append : (xs ys : List Step) → has_string (xs ++ ys) ≡ (has_string xs || has_string ys)
unfolding has_string
has_append [] ys = refl
has_append (Guard t ∷ xs) ys = has_append xs ys
has_append (Token kind x ∷ xs) ys = ap (λ z. is_string_call kind x || z) (has_append xs ys) ∙ or_assoc (is_string_call kind x) (has_string xs) (has_string ys)
has_append (Plain x ∷ xs) ys = has_append xs ys
has_append (Ends tokens x ∷ xs) ys = has_append xs ys
has_append (Remake due ∷ xs) ys = has_append xs ys
has_append (Take side at ∷ xs) ys = has_append xs ys
has_append (CommentText t ∷ xs) ys = has_append xs ys

holds_append : (ts us : List lexical.Token) → holds_string (ts ++ us) ≡ (holds_string ts || holds_string us)
unfolding holds_string
holds_append [] us = refl
holds_append (x ∷ ts) us = ap (λ z. is_str x.kind || z) (holds_append ts us) ∙ or_assoc (is_str x.kind) (holds_string ts) (holds_string us)

or_either : (x y a b : Bool) → (x || y) ≡ true → (x ≡ true → a ≡ true) → (y ≡ true → b ≡ true) → (a || b) ≡ true
or_either x y a b h f g = elim (or_cases x y h) [ inl e ↦ or_left a b (f e) | inr e ↦ or_right a b (g e) ]

pub hands_then : {env : Env} {xs ys : List Step} {ts us : List lexical.Token} → HandsOverAscii env xs ts → HandsOverAscii env ys us → HandsOverAscii env (xs ++ ys) (ts ++ us)
hands_then {env} {xs} {ys} {ts} {us} h k = record {
  ascii = λ e. or_kept_append xs ys ∙ and_from (are_ascii_or_kept xs) (are_ascii_or_kept ys) (h.ascii e) (k.ascii e);
  keeps = λ n. tokens_keep ts us ∙ or_either (keeps_other xs) (keeps_other ys) (keeps_tokens ts) (keeps_tokens us) (sym (keeps_append xs ys) ∙ n) h.keeps k.keeps;
  strings = λ n. holds_append ts us ∙ or_either (has_string xs) (has_string ys) (holds_string ts) (holds_string us) (sym (has_append xs ys) ∙ n) h.strings k.strings;
}

-- ---- steps that hand over ASCII

and_none : (a b : Bool) → b ≡ true → (a && not b) ≡ false
and_none true b h = ap not h
and_none false b h = refl

call_keeps : (kept : Bool) (x : Item) (rest : Bool) → is_ascii_text (text_of x) ≡ true → rest ≡ false → ((kept && not (is_ascii_text (text_of x))) || rest) ≡ false
call_keeps kept x rest h k = or_from (kept && not (is_ascii_text (text_of x))) rest (and_none kept (is_ascii_text (text_of x)) h) k

pub ascii_keeps : (xs : List Step) → are_ascii xs ≡ true → keeps_other xs ≡ false
unfolding are_ascii keeps_other is_other is_other_piece is_other_end
ascii_keeps [] h = refl
ascii_keeps (Guard t ∷ xs) h = ascii_keeps xs h
ascii_keeps (Token kind x ∷ xs) h = let p = and_parts (is_ascii_text (text_of x)) (are_ascii xs) h in call_keeps _ x (keeps_other xs) p.0 (ascii_keeps xs p.1)
ascii_keeps (Plain x ∷ xs) h = let p = and_parts (is_ascii_text (text_of x)) (are_ascii xs) h in call_keeps _ x (keeps_other xs) p.0 (ascii_keeps xs p.1)
ascii_keeps (Ends tokens x ∷ xs) h = let p = and_parts (is_ascii_text (text_of x)) (are_ascii xs) h in call_keeps _ x (keeps_other xs) p.0 (ascii_keeps xs p.1)
ascii_keeps (Remake due ∷ xs) h = ascii_keeps xs h
ascii_keeps (Take side at ∷ xs) h = ascii_keeps xs h
ascii_keeps (CommentText t ∷ xs) h = ascii_keeps xs h

-- whatever the settings
pub hands_ascii : (env : Env) (steps : List Step) (ts : List lexical.Token) → are_ascii steps ≡ true → (has_string steps ≡ true → holds_string ts ≡ true) → HandsOverAscii env steps ts
hands_ascii env steps ts a s = record { ascii = λ e. kept_of_ascii steps a; keeps = λ n. absurd (true≢false (sym n ∙ ascii_keeps steps a)); strings = s }

-- where the settings ask for it
pub hands_by_settings : (env : Env) (steps : List Step) (ts : List lexical.Token) → (env.config.ascii_only ≡ true → are_ascii steps ≡ true) → keeps_other steps ≡ false → (has_string steps ≡ true → holds_string ts ≡ true) → HandsOverAscii env steps ts
hands_by_settings env steps ts a n s = record { ascii = λ e. kept_of_ascii steps (a e); keeps = λ k. absurd (true≢false (sym k ∙ n)); strings = s }
