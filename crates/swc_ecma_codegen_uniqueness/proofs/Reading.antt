-- What a derivation makes of a list of tokens: a parse tree, in which what syntax leaves open is marked.
use Rattle.std.proofs.Common.{List, inl, inr}
use Rattle.swc_ecma_codegen_tree.specs.declared.links.AnyNode.{AnyNode, out-AnyNode}
use Rattle.swc_ecma_codegen_grammar.specs.Keys.{key_token}
use Rattle.std.specs.Str.{chars}
use Rattle.swc_ecma_codegen_grammar.specs.Names.{name_value}
use Rattle.swc_ecma_codegen_grammar.specs.SpelledNames.{spelled_name}
use Rattle.swc_ecma_codegen_grammar.specs.Phrases.{Phrase, Never, Nothing, One, NameOf, KeyOf, PrivateOf, TagNameOf, Then, CommaBefore, OptionalParentheses, Chosen, Generates, chosen, closing_token, comma, open_parenthesis, close_parenthesis}
use Rattle.swc_ecma_codegen_grammar.specs.Settings.{Settings}
use Rattle.swc_ecma_codegen_grammar.specs.Tokens.{Token}
use Rattle.swc_ecma_codegen_grammar.specs.Tokens as tokens
use Rattle.swc_ecma_codegen_syntax.specs.Forms.{Form}
use Rattle.swc_ecma_codegen_syntax.specs.Derives.{Derives, fixed, part, simple, shaped, restricted, lone, lone_in_parentheses, both, provided, closed, comma_closed, followed, bare}
use Rattle.swc_ecma_codegen_syntax.specs.Verdicts.{Grammar}
use Rattle.swc_ecma_codegen_uniqueness.specs.ParseTrees.{ParseTree, Read, Optional, node_variant}
use Rattle.swc_ecma_codegen_uniqueness.specs.Parses.{placed, is_inlined, read_all}

unfoldable pub read_phrase : (s : Settings) (p : Phrase) (ts : List Token) → Generates s p ts → ParseTree → ParseTree
unfolding Generates
read_phrase s Never ts g rest = absurd g
read_phrase s Nothing ts g rest = rest
read_phrase s (One x) ts g rest = Read x rest
read_phrase s (NameOf at bytes) ts g rest = Read (tokens.name (name_value (spelled_name bytes))) rest
read_phrase s (KeyOf at bytes) ts g rest = Read (key_token s bytes) rest
read_phrase s (PrivateOf bytes) ts g rest = Read (tokens.private_name (name_value (spelled_name bytes))) rest
read_phrase s (TagNameOf at bytes) ts g rest = Read (tokens.tag_name (chars bytes)) rest
read_phrase s (Then a b) ts g rest = read_phrase s a g.0 g.2 (read_phrase s b g.1 g.3 rest)
read_phrase s (CommaBefore close) ts g rest = elim g [ inl e ↦ Read (closing_token close) rest | inr e ↦ Optional comma (Read (closing_token close) rest) ]
read_phrase s (OptionalParentheses round a) ts g rest = elim g [ inl x ↦ read_phrase s a ts x rest | inr x ↦ Optional open_parenthesis (read_phrase s a x.0 x.1 (Optional close_parenthesis rest)) ]
read_phrase s (Chosen choice) ts g rest = read_all (chosen s choice) rest

unfoldable pub derived_parse : {grammar : Grammar} {s : Settings} {a : Form AnyNode} {ts : List Token} → Derives grammar s a ts → ParseTree → ParseTree
derived_parse {s = s} (fixed {p = p} {ts = ts} g) rest = read_phrase s p ts g rest
derived_parse (part {role = role} {n = n} called stands d) rest = placed (is_inlined role (out-AnyNode n)) (node_variant (out-AnyNode n) role) (derived_parse d) rest
derived_parse (simple h d) rest = derived_parse d rest
derived_parse (shaped h d) rest = derived_parse d rest
derived_parse (restricted h d) rest = derived_parse d rest
derived_parse (lone h d) rest = derived_parse d rest
derived_parse (lone_in_parentheses d) rest = Optional open_parenthesis (derived_parse d (Optional close_parenthesis rest))
derived_parse (both d e) rest = derived_parse d (derived_parse e rest)
derived_parse (provided h d) rest = derived_parse d rest
derived_parse (closed {close = close}) rest = Read (closing_token close) rest
derived_parse (comma_closed {close = close}) rest = Optional comma (Read (closing_token close) rest)
derived_parse (followed d) rest = derived_parse d rest
derived_parse (bare d) rest = derived_parse d rest
