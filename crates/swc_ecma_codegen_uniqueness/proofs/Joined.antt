-- What stands behind what a derivation makes of a list.
use Rattle.std.proofs.Common.{◌≡◌, Bool, true, false, List, [], ◌∷◌, inl, inr, refl, ap, ◌∙◌}
use Rattle.swc_ecma_codegen_tree.specs.declared.links.AnyNode.{AnyNode, out-AnyNode}
use Rattle.swc_ecma_codegen_grammar.specs.Phrases.{Phrase, Never, Nothing, One, NameOf, KeyOf, PrivateOf, TagNameOf, Then, CommaBefore, OptionalParentheses, Chosen, Generates, chosen, open_parenthesis, close_parenthesis}
use Rattle.swc_ecma_codegen_grammar.specs.Settings.{Settings}
use Rattle.swc_ecma_codegen_grammar.specs.Tokens.{Token}
use Rattle.swc_ecma_codegen_syntax.specs.Forms.{Form}
use Rattle.swc_ecma_codegen_syntax.specs.Derives.{Derives, fixed, part, simple, shaped, restricted, lone, lone_in_parentheses, both, provided, closed, comma_closed, followed, bare}
use Rattle.swc_ecma_codegen_syntax.specs.Verdicts.{core}
use Rattle.swc_ecma_codegen_uniqueness.specs.ParseTrees.{Variant, ParseTree, Read, Optional, node_variant}
use Rattle.swc_ecma_codegen_uniqueness.specs.Parses.{read_all, placed, is_inlined}
use Rattle.swc_ecma_codegen_uniqueness.proofs.Machine.{joined}
use Rattle.swc_ecma_codegen_uniqueness.proofs.Reading.{read_phrase, derived_parse}

-- ---- what stands behind a part stands behind what it is made of

all_joined : (ts : List Token) (m rest : ParseTree) → joined (read_all ts m) rest ≡ read_all ts (joined m rest)
unfolding read_all
all_joined [] m rest = refl
all_joined (t ∷ ts) m rest = ap (Read t) (all_joined ts m rest)

phrase_joined : (s : Settings) (p : Phrase) (ts : List Token) (g : Generates s p ts) (m rest : ParseTree) → joined (read_phrase s p ts g m) rest ≡ read_phrase s p ts g (joined m rest)
unfolding read_phrase Generates
phrase_joined s Never ts g m rest = absurd g
phrase_joined s Nothing ts g m rest = refl
phrase_joined s (One x) ts g m rest = refl
phrase_joined s (NameOf at bytes) ts g m rest = refl
phrase_joined s (KeyOf at bytes) ts g m rest = refl
phrase_joined s (PrivateOf bytes) ts g m rest = refl
phrase_joined s (TagNameOf at bytes) ts g m rest = refl
phrase_joined s (Then a b) ts (us, vs, x, y, e) m rest = phrase_joined s a us x (read_phrase s b vs y m) rest ∙ ap (read_phrase s a us x) (phrase_joined s b vs y m rest)
phrase_joined s (CommaBefore close) ts (inl e) m rest = refl
phrase_joined s (CommaBefore close) ts (inr e) m rest = refl
phrase_joined s (OptionalParentheses round a) ts (inl x) m rest = phrase_joined s a ts x m rest
phrase_joined s (OptionalParentheses round a) ts (inr (us, x, e)) m rest = ap (Optional open_parenthesis) (phrase_joined s a us x (Optional close_parenthesis m) rest)
phrase_joined s (Chosen choice) ts g m rest = all_joined (chosen s choice) m rest

placed_joined : (b : Bool) (variant : Variant) (f : ParseTree → ParseTree) → ((m rest : ParseTree) → joined (f m) rest ≡ f (joined m rest)) → (m rest : ParseTree) → joined (placed b variant f m) rest ≡ placed b variant f (joined m rest)
unfolding placed
placed_joined true variant f h m rest = h m rest
placed_joined false variant f h m rest = refl

pub derived_joined : {s : Settings} {a : Form AnyNode} {ts : List Token} (d : Derives core s a ts) (m rest : ParseTree) → joined (derived_parse d m) rest ≡ derived_parse d (joined m rest)
unfolding derived_parse
derived_joined {s = s} (fixed {p = p} {ts = ts} g) m rest = phrase_joined s p ts g m rest
derived_joined (part {role = role} {n = n} called st d) m rest = placed_joined (is_inlined role (out-AnyNode n)) (node_variant (out-AnyNode n) role) (derived_parse d) (derived_joined d) m rest
derived_joined (simple h d) m rest = derived_joined d m rest
derived_joined (shaped h d) m rest = derived_joined d m rest
derived_joined (restricted h d) m rest = derived_joined d m rest
derived_joined (lone h d) m rest = derived_joined d m rest
derived_joined (lone_in_parentheses d) m rest = ap (Optional open_parenthesis) (derived_joined d (Optional close_parenthesis m) rest)
derived_joined (both d e) m rest = derived_joined d (derived_parse e m) rest ∙ ap (derived_parse d) (derived_joined e m rest)
derived_joined (provided h d) m rest = derived_joined d m rest
derived_joined closed m rest = refl
derived_joined comma_closed m rest = refl
derived_joined (followed d) m rest = derived_joined d m rest
derived_joined (bare d) m rest = derived_joined d m rest
