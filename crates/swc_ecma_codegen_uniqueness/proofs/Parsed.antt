-- What a derivation makes of a list has its tokens.
use Rattle.std.proofs.Common.{◌≡◌, Bool, true, false, List, [], ◌∷◌, ◌++◌, inl, inr, refl, sym, ap, ◌∙◌, append_assoc}
use Rattle.swc_ecma_codegen_tree.specs.declared.links.AnyNode.{AnyNode, out-AnyNode}
use Rattle.swc_ecma_codegen_grammar.specs.Phrases.{Phrase, Never, Nothing, One, NameOf, KeyOf, PrivateOf, TagNameOf, Then, CommaBefore, OptionalParentheses, Chosen, Generates, chosen, close_parenthesis, open_parenthesis}
use Rattle.swc_ecma_codegen_grammar.specs.Settings.{Settings}
use Rattle.swc_ecma_codegen_grammar.specs.Tokens.{Token}
use Rattle.swc_ecma_codegen_syntax.specs.Forms.{Form}
use Rattle.swc_ecma_codegen_syntax.specs.Derives.{Derives, fixed, part, simple, shaped, restricted, lone, lone_in_parentheses, both, provided, closed, comma_closed, followed, bare}
use Rattle.swc_ecma_codegen_syntax.specs.Verdicts.{Grammar, core}
use Rattle.swc_ecma_codegen_uniqueness.specs.ParseTrees.{Variant, ParseTree, End, Optional, tokens_of, AreCommasAndParentheses, node_variant}
use Rattle.swc_ecma_codegen_uniqueness.specs.Parses.{placed, is_inlined, read_all}
use Rattle.swc_ecma_codegen_uniqueness.proofs.Reading.{read_phrase, derived_parse}

read_tokens : (ts : List Token) (rest : ParseTree) (us : List Token) → tokens_of (read_all ts rest) us ≡ ts ++ tokens_of rest us
unfolding tokens_of read_all
read_tokens [] rest us = refl
read_tokens (t ∷ ts) rest us = ap (λ z. t ∷ z) (read_tokens ts rest us)

-- tokens that stand behind one another
in_front : {ts vs : List Token} (us : List Token) → ts ≡ vs → vs ++ us ≡ ts ++ us
in_front us e = ap (λ z. z ++ us) (sym e)

phrase_tokens : (s : Settings) (p : Phrase) (ts : List Token) (g : Generates s p ts) (rest : ParseTree) (us : List Token) → tokens_of (read_phrase s p ts g rest) us ≡ ts ++ tokens_of rest us
unfolding Generates read_phrase tokens_of
phrase_tokens s Never ts g rest us = absurd g
phrase_tokens s Nothing ts g rest us = in_front (tokens_of rest us) g
phrase_tokens s (One x) ts g rest us = in_front (tokens_of rest us) g
phrase_tokens s (NameOf at bytes) ts g rest us = in_front (tokens_of rest us) g
phrase_tokens s (KeyOf at bytes) ts g rest us = in_front (tokens_of rest us) g
phrase_tokens s (PrivateOf bytes) ts g rest us = in_front (tokens_of rest us) g
phrase_tokens s (TagNameOf at bytes) ts g rest us = in_front (tokens_of rest us) g
phrase_tokens s (Then a b) ts (vs, ws, x, y, e) rest us =
    phrase_tokens s a vs x (read_phrase s b ws y rest) us ∙ ap (λ z. vs ++ z) (phrase_tokens s b ws y rest us) ∙ sym (append_assoc vs ws (tokens_of rest us)) ∙ in_front (tokens_of rest us) e
phrase_tokens s (CommaBefore close) ts (inl e) rest us = in_front (tokens_of rest us) e
phrase_tokens s (CommaBefore close) ts (inr e) rest us = in_front (tokens_of rest us) e
phrase_tokens s (OptionalParentheses round a) ts (inl x) rest us = phrase_tokens s a ts x rest us
phrase_tokens s (OptionalParentheses round a) ts (inr (vs, x, e)) rest us =
    ap (λ z. open_parenthesis ∷ z) (phrase_tokens s a vs x (Optional close_parenthesis rest) us ∙ sym (append_assoc vs (close_parenthesis ∷ []) (tokens_of rest us))) ∙ in_front (tokens_of rest us) e
phrase_tokens s (Chosen choice) ts g rest us = read_tokens (chosen s choice) rest us ∙ in_front (tokens_of rest us) g

placed_tokens : (b : Bool) (variant : Variant) (inside : ParseTree → ParseTree) (ts : List Token) → ((rest : ParseTree) (us : List Token) → tokens_of (inside rest) us ≡ ts ++ tokens_of rest us) →
    (rest : ParseTree) (us : List Token) → tokens_of (placed b variant inside rest) us ≡ ts ++ tokens_of rest us
unfolding tokens_of placed
placed_tokens true variant inside ts h rest us = h rest us
placed_tokens false variant inside ts h rest us = h End (tokens_of rest us)

pub tokens_before : {grammar : Grammar} {s : Settings} {a : Form AnyNode} {ts : List Token} (d : Derives grammar s a ts) (rest : ParseTree) (us : List Token) → tokens_of (derived_parse d rest) us ≡ ts ++ tokens_of rest us
unfolding tokens_of derived_parse
tokens_before {s = s} (fixed {p = p} {ts = ts} g) rest us = phrase_tokens s p ts g rest us
tokens_before (part {role = role} {n = n} {ts = ts} called stands d) rest us = placed_tokens (is_inlined role (out-AnyNode n)) (node_variant (out-AnyNode n) role) (derived_parse d) ts (tokens_before d) rest us
tokens_before (simple h d) rest us = tokens_before d rest us
tokens_before (shaped h d) rest us = tokens_before d rest us
tokens_before (restricted h d) rest us = tokens_before d rest us
tokens_before (lone h d) rest us = tokens_before d rest us
tokens_before (lone_in_parentheses {ts = ts} d) rest us =
    ap (λ z. open_parenthesis ∷ z) (tokens_before d (Optional close_parenthesis rest) us ∙ sym (append_assoc ts (close_parenthesis ∷ []) (tokens_of rest us)))
tokens_before (both {ts = ts} {us = vs} d e) rest us =
    tokens_before d (derived_parse e rest) us ∙ ap (λ z. ts ++ z) (tokens_before e rest us) ∙ sym (append_assoc ts vs (tokens_of rest us))
tokens_before (provided h d) rest us = tokens_before d rest us
tokens_before closed rest us = refl
tokens_before comma_closed rest us = refl
tokens_before (followed d) rest us = tokens_before d rest us
tokens_before (bare d) rest us = tokens_before d rest us

-- ---- what it leaves open are commas and parentheses

all_allowed : (ts : List Token) (rest : ParseTree) → AreCommasAndParentheses rest → AreCommasAndParentheses (read_all ts rest)
unfolding read_all AreCommasAndParentheses
all_allowed [] rest k = k
all_allowed (t ∷ ts) rest k = all_allowed ts rest k

phrase_allowed : (s : Settings) (p : Phrase) (ts : List Token) (g : Generates s p ts) (rest : ParseTree) → AreCommasAndParentheses rest → AreCommasAndParentheses (read_phrase s p ts g rest)
unfolding Generates read_phrase AreCommasAndParentheses
phrase_allowed s Never ts g rest k = absurd g
phrase_allowed s Nothing ts g rest k = k
phrase_allowed s (One x) ts g rest k = k
phrase_allowed s (NameOf at bytes) ts g rest k = k
phrase_allowed s (KeyOf at bytes) ts g rest k = k
phrase_allowed s (PrivateOf bytes) ts g rest k = k
phrase_allowed s (TagNameOf at bytes) ts g rest k = k
phrase_allowed s (Then a b) ts (vs, ws, x, y, e) rest k = phrase_allowed s a vs x (read_phrase s b ws y rest) (phrase_allowed s b ws y rest k)
phrase_allowed s (CommaBefore close) ts (inl e) rest k = k
phrase_allowed s (CommaBefore close) ts (inr e) rest k = (inl refl, k)
phrase_allowed s (OptionalParentheses round a) ts (inl x) rest k = phrase_allowed s a ts x rest k
phrase_allowed s (OptionalParentheses round a) ts (inr (vs, x, e)) rest k = (inr (inl refl), phrase_allowed s a vs x (Optional close_parenthesis rest) (inr (inr refl), k))
phrase_allowed s (Chosen choice) ts g rest k = all_allowed (chosen s choice) rest k

placed_allowed : (b : Bool) (variant : Variant) (inside : ParseTree → ParseTree) → ((rest : ParseTree) → AreCommasAndParentheses rest → AreCommasAndParentheses (inside rest)) → (rest : ParseTree) → AreCommasAndParentheses rest →
    AreCommasAndParentheses (placed b variant inside rest)
unfolding placed AreCommasAndParentheses
placed_allowed true variant inside h rest k = h rest k
placed_allowed false variant inside h rest k = (h End tt, k)

pub derived_allowed : {s : Settings} {a : Form AnyNode} {ts : List Token} (d : Derives core s a ts) (rest : ParseTree) → AreCommasAndParentheses rest → AreCommasAndParentheses (derived_parse d rest)
unfolding derived_parse AreCommasAndParentheses
derived_allowed {s = s} (fixed {p = p} {ts = ts} g) rest k = phrase_allowed s p ts g rest k
derived_allowed (part {role = role} {n = n} called stands d) rest k = placed_allowed (is_inlined role (out-AnyNode n)) (node_variant (out-AnyNode n) role) (derived_parse d) (derived_allowed d) rest k
derived_allowed (simple h d) rest k = derived_allowed d rest k
derived_allowed (shaped h d) rest k = derived_allowed d rest k
derived_allowed (restricted h d) rest k = derived_allowed d rest k
derived_allowed (lone h d) rest k = derived_allowed d rest k
derived_allowed (lone_in_parentheses d) rest k = (inr (inl refl), derived_allowed d (Optional close_parenthesis rest) (inr (inr refl), k))
derived_allowed (both d e) rest k = derived_allowed d (derived_parse e rest) (derived_allowed e rest k)
derived_allowed (provided h d) rest k = derived_allowed d rest k
derived_allowed closed rest k = k
derived_allowed comma_closed rest k = (inl refl, k)
derived_allowed (followed d) rest k = derived_allowed d rest k
derived_allowed (bare d) rest k = derived_allowed d rest k
