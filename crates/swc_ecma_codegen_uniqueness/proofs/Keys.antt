-- Keys are read as they are.
use Rattle.std.proofs.Common.{◌≡◌, ℕ, Bool, true, false, List, refl, sym, ap, subst}
use Rattle.std.specs.Prelude.{string_bytes, if◌then◌else◌}
use Rattle.swc_ecma_codegen_tree.specs.Links.{PropNameBox}
use Rattle.swc_ecma_codegen_tree.specs.declared.links.AnyNode.{AnyNode, AnyNode-F, out-AnyNode}
use Rattle.swc_ecma_codegen_tree.specs.declared.links.AnyNode.TheOpen as nodes
use Rattle.swc_ecma_codegen_tree.specs.declared.parts.ExprPart.TheVariants as expr_parts
use Rattle.swc_ecma_codegen_tree.specs.declared.parts.JSXPart.TheVariants as jsx_parts
use Rattle.swc_ecma_codegen_tree.specs.declared.parts.StmtPart.TheVariants as stmt_parts
use Rattle.swc_ecma_codegen_tree.specs.declared.exprs.PropName.{PropName}
use Rattle.swc_ecma_codegen_tree.specs.declared.exprs.PropName.TheVariants as prop_names
use Rattle.swc_ecma_codegen_grammar.specs.Keys.{key_token, is_quoted}
use Rattle.swc_ecma_codegen_grammar.specs.LitPhrases.{number}
use Rattle.swc_ecma_codegen_grammar.specs.Settings.{Settings}
use Rattle.swc_ecma_codegen_grammar.specs.SpelledNames.{spelled_name}
use Rattle.swc_ecma_codegen_grammar.specs.Tokens.{Token, Value}
use Rattle.swc_ecma_codegen_grammar.specs.Tokens as tokens
use Rattle.swc_ecma_codegen_grammar.specs.declared.kinds.Kind.TheVariants as kinds
use Rattle.swc_ecma_codegen_grammar.specs.declared.roles.Role.TheVariants.{PropertyName}
use Rattle.swc_ecma_codegen_syntax.specs.declared.nonterminals.Nonterminal.{Nonterminal}
use Rattle.swc_ecma_codegen_syntax.specs.declared.parameters.Parameters.{Parameters}
use Rattle.swc_ecma_codegen_syntax.specs.Forms.{Part, is_met}
use Rattle.swc_ecma_codegen_syntax.specs.MemberForms.{computed_form}
use Rattle.swc_ecma_codegen_syntax.specs.NodeForms.{node_form, part_form, stmt_part_form, jsx_part_form}
use Rattle.swc_ecma_codegen_syntax.specs.ObjectForms.{prop_name_form}
use Rattle.swc_ecma_codegen_syntax.specs.Derives.{Derives, fixed, part, both, provided}
use Rattle.swc_ecma_codegen_syntax.specs.Verdicts.{core}
use Rattle.swc_ecma_codegen_uniqueness.specs.ParseTrees.{ParseTree, Read}
use Rattle.swc_ecma_codegen_uniqueness.specs.Parses.{placed, is_inlined}
use Rattle.swc_ecma_codegen_uniqueness.proofs.Classes.{class}
use Rattle.swc_ecma_codegen_uniqueness.proofs.Controls.{AfterKey}
use Rattle.swc_ecma_codegen_uniqueness.proofs.Shapes.{InObject, InProperties, property_place, is_key, Keyed, object_key}
use Rattle.swc_ecma_codegen_uniqueness.proofs.Reading.{read_phrase, derived_parse}
use Rattle.swc_ecma_codegen_uniqueness.proofs.Fits.{at_place, PlacedGood, AllGood, no_form}
use Rattle.swc_ecma_codegen_uniqueness.proofs.Atoms.{IsLiteral, number_literal, str_literal, big_literal}
use Rattle.swc_ecma_codegen_uniqueness.proofs.Looks.{of_name}

-- ---- keys

either_key : (b : Bool) (v : Value) (text : List ℕ) → is_key (class (if b then record { kind = kinds.Str; value = v } else tokens.name text)) ≡ true
either_key true v text = refl
either_key false v text = of_name is_key text refl refl

word_key : (s : Settings) (bytes : List ℕ) → is_key (class (key_token s bytes)) ≡ true
unfolding key_token
word_key s bytes = either_key (is_quoted s (spelled_name bytes)) _ _

literal_then : {f : ParseTree → ParseTree} {Before Behind : ParseTree → Type 0} (k : Keyed Before Behind) → IsLiteral f → (m : ParseTree) → Behind m → Before (f m)
literal_then {Before = Before} k l m g = subst (λ z. Before z) (sym (l.is m)) (k.token l.token m (ap is_key l.literal) g)

pub key_good : {s : Settings} {Before Behind : ParseTree → Type 0} (k : Keyed Before Behind) (c : Parameters) (n : PropName AnyNode) {ts : List Token} (d : Derives core s (prop_name_form c n) ts) → AllGood d → s.minify ≡ c.minify → (m : ParseTree) → Behind m →
    Before (derived_parse d m)
unfolding prop_name_form computed_form number is_met AllGood PlacedGood derived_parse read_phrase placed is_inlined
key_good {s = s} k c (prop_names.Ident n) (fixed g) o e m h = k.token (key_token s (string_bytes n.sym)) m (word_key s (string_bytes n.sym)) h
key_good {s = s} k c (prop_names.Str n) (fixed {ts = ts} g) o e m h = literal_then k (str_literal s n.value ts g) m h
key_good {s = s} k c (prop_names.Num n) (provided i (fixed {ts = ts} g)) o e m h = literal_then k (number_literal s n.value.value n.value.raw ts i g) m h
key_good {s = s} k c (prop_names.BigInt n) (provided i (fixed {ts = ts} g)) o e m h = literal_then k (big_literal s n.value ts i g) m h
key_good k c (prop_names.Computed n) (both (fixed g) (both (part a sa d) (fixed i))) (x, (o, y)) e m h = k.computed _ _ m (at_place _ _ sa (o e)) h

-- a name that is a key and a value
pub named_then : (b : Bool) (text : List ℕ) {m : ParseTree} → InObject AfterKey m → InProperties b (Read (tokens.name text) m)
named_then b text {m = m} g = (object_key (property_place b)).token (tokens.name text) m (of_name is_key text refl refl) g

key_in : {s : Settings} {Before Behind : ParseTree → Type 0} (k : Keyed Before Behind) (called : Bool) (c : Parameters) (y : AnyNode-F AnyNode) {ts : List Token} (d : Derives core s (node_form called c y PropertyName) ts) → AllGood d → s.minify ≡ c.minify → (m : ParseTree) → Behind m →
    Before (derived_parse d m)
unfolding node_form part_form stmt_part_form jsx_part_form
key_in k called c (nodes.ExprPart (expr_parts.PropName n)) d o e m h = key_good k c n d o e m h
key_in k called c (nodes.StmtPart (stmt_parts.BlockStmt n)) d o e m h = absurd (no_form d)
key_in k called c (nodes.JSXPart (jsx_parts.JSXElement n)) d o e m h = absurd (no_form d)
key_in k called c y d o e m h = absurd (no_form d)

-- a key that a link holds
pub own_key_good : {s : Settings} {Before Behind : ParseTree → Type 0} (k : Keyed Before Behind) (place : Nonterminal) (c : Parameters) (x : PropNameBox AnyNode) {ts : List Token} (d : Derives core s (Part place c PropertyName x.node.value) ts) → AllGood d → s.minify ≡ c.minify → (m : ParseTree) → Behind m →
    Before (derived_parse d m)
unfolding AllGood PlacedGood derived_parse placed is_inlined
own_key_good k place c x (part a sa d) o e m h = key_in k a c (out-AnyNode x.node.value) d o e m h
