-- The rules of names and literals.
use Rattle.std.specs.Prelude.{ℕ, not, ◌==◌, length, List, [], codes}
use Rattle.swc_ecma_codegen_tree.specs.declared.idents.BindingIdent.{BindingIdent}
use Rattle.swc_ecma_codegen_tree.specs.declared.idents.Ident.{Ident}
use Rattle.swc_ecma_codegen_tree.specs.declared.idents.IdentName.{IdentName}
use Rattle.swc_ecma_codegen_tree.specs.declared.idents.PrivateName.{PrivateName}
use Rattle.swc_ecma_codegen_tree.specs.declared.lits.BigInt.{BigInt}
use Rattle.swc_ecma_codegen_tree.specs.declared.lits.Bool.{Bool}
use Rattle.swc_ecma_codegen_tree.specs.declared.lits.Lit.{Lit}
use Rattle.swc_ecma_codegen_tree.specs.declared.lits.Null.{Null}
use Rattle.swc_ecma_codegen_tree.specs.declared.lits.Number.{Number}
use Rattle.swc_ecma_codegen_tree.specs.declared.lits.Regex.{Regex}
use Rattle.swc_ecma_codegen_tree.specs.declared.lits.Str.{Str}
use Rattle.swc_ecma_codegen_tree.specs.declared.lits.Lit.TheVariants as lits
use Rattle.swc_ecma_codegen_grammar.specs.declared.roles.Role.TheVariants.{Annotation}
use Rattle.std.specs.Prelude.{string_bytes}
use Rattle.swc_ecma_codegen_grammar.specs.LitPhrases.{characters, are_digits, regex_text}
use Rattle.swc_ecma_codegen_grammar.specs.LitPhrases as lit_phrases
use Rattle.swc_ecma_codegen_grammar.specs.Phrases.{is_possible}
use Rattle.swc_ecma_codegen_grammar.specs.RegularExpressions.{is_regex}
use Rattle.swc_ecma_codegen_grammar.specs.Names.{all_part}
use Rattle.swc_ecma_codegen_grammar.specs.SpelledNames.{is_well_formed_name}
use Rattle.swc_ecma_codegen_validate.specs.Rules.{Rules, Free, Optional, ◌&◌, rule, not_here, at, link, leaf}

-- a name, by its bytes in the tree
unfoldable pub name_rules : List ℕ → Rules ⊥
name_rules bytes = rule (not (length bytes == 0)) (codes "a name is empty") & rule (is_well_formed_name bytes) (codes "a name holds a character that no name may")

unfoldable pub ident : Ident → Rules ⊥
ident n = name_rules (string_bytes n.sym)

unfoldable pub ident_name : IdentName → Rules ⊥
ident_name n = name_rules (string_bytes n.sym)

unfoldable pub binding_ident : {X : Type 0} → BindingIdent X → Rules X
binding_ident n = at (codes "id") (leaf (ident n.id)) & at (codes "type_ann") (Optional n.type_ann (λ x. link x Annotation))

unfoldable pub private_name : PrivateName → Rules ⊥
private_name n = name_rules (string_bytes n.name)

unfoldable pub str_lit : Str → Rules ⊥
str_lit n = rule (is_possible (lit_phrases.str_lit n)) (codes "the raw of a string spells another string")

unfoldable pub bool_lit : Bool → Rules ⊥
bool_lit n = Free

unfoldable pub null_lit : Null → Rules ⊥
null_lit n = Free

unfoldable pub number : Number → Rules ⊥
number n = rule (is_possible (lit_phrases.number n)) (codes "the raw of a number spells another number")

unfoldable pub big_int : BigInt → Rules ⊥
big_int n = rule (are_digits n.radix (characters n.digits)) (codes "a big integer has a digit that isn't one of its radix, or a zero too many") & rule (is_possible (lit_phrases.big_int n)) (codes "the raw of a big integer spells another one")

unfoldable pub regex : Regex → Rules ⊥
regex n = rule (is_regex (regex_text (characters n.exp) [])) (codes "the pattern of a regular expression ends before its end") & rule (all_part (characters n.flags)) (codes "a flag of a regular expression is no letter")

unfoldable pub lit : Lit → Rules ⊥
lit (lits.Str n) = str_lit n
lit (lits.Bool n) = bool_lit n
lit (lits.Null n) = null_lit n
lit (lits.Num n) = number n.value
lit (lits.BigInt n) = big_int n.value
lit (lits.Regex n) = regex n
lit (lits.JSXText n) = not_here
