-- A name or a literal of which no rule is broken is well-formed.
use Rattle.std.proofs.Common.{◌≡◌, true, codes, Option, Some, None, refl, sym}
use Rattle.std.proofs.lemmas.Bool.{true≢false}
use Rattle.swc_ecma_codegen_tree.specs.declared.idents.BindingIdent.{BindingIdent}
use Rattle.swc_ecma_codegen_tree.specs.declared.idents.Ident.{Ident}
use Rattle.swc_ecma_codegen_tree.specs.declared.idents.IdentName.{IdentName}
use Rattle.swc_ecma_codegen_tree.specs.declared.idents.PrivateName.{PrivateName}
use Rattle.swc_ecma_codegen_tree.specs.declared.lits.BigInt.{BigInt}
use Rattle.swc_ecma_codegen_tree.specs.declared.lits.Bool.{Bool}
use Rattle.swc_ecma_codegen_tree.specs.declared.lits.Lit.{Lit}
use Rattle.swc_ecma_codegen_tree.specs.declared.lits.Null.{Null}
use Rattle.swc_ecma_codegen_tree.specs.declared.lits.Number.{Number}
use Rattle.swc_ecma_codegen_tree.specs.declared.lits.Regex.{Regex}
use Rattle.swc_ecma_codegen_tree.specs.declared.lits.Str.{Str}
use Rattle.swc_ecma_codegen_tree.specs.declared.lits.Lit.TheVariants as lits
use Rattle.swc_ecma_codegen_grammar.specs.declared.roles.Role.{Role}
use Rattle.swc_ecma_codegen_grammar.specs.declared.roles.Role.TheVariants.{Annotation}
use Rattle.swc_ecma_codegen_grammar.specs.FunctionPhrases.{optional_name}
use Rattle.swc_ecma_codegen_grammar.specs.LitPhrases.{big_int, bool_lit, lit, null_lit, number, regex, str_lit}
use Rattle.swc_ecma_codegen_grammar.specs.NamePhrases.{binding_ident, ident, ident_name, private_name}
use Rattle.swc_ecma_codegen_grammar.specs.Phrases.{Nothing, Phrase, is_possible, mark}
use Rattle.swc_ecma_codegen_validate.specs.NameRules as rules
use Rattle.swc_ecma_codegen_validate.specs.Rules.{Findings, findings, no_links, in_some}
use Rattle.swc_ecma_codegen_validate.proofs.Fitting.{Held, some_fits, either_fits}
use Rattle.swc_ecma_codegen_validate.proofs.Annotations.{binding_possible}
use Rattle.swc_ecma_codegen_validate.proofs.Possible.{where_possible}
use Rattle.swc_ecma_codegen_validate.proofs.Slashes.{by_parts}

pub ident_fits : (n : Ident) → (findings no_links (rules.ident n)).none → is_possible (ident n) ≡ true
unfolding findings rules.ident rules.name_rules ident is_possible
ident_fits n h = simp (h.1, either_fits n.optional (mark (codes "?")) Nothing refl refl)

pub optional_name_fits : (o : Option Ident) → (in_some (λ x. findings no_links (rules.ident x)) o).none → is_possible (optional_name o) ≡ true
unfolding in_some optional_name is_possible
optional_name_fits None h = refl
optional_name_fits (Some n) h = ident_fits n h

pub ident_name_fits : (n : IdentName) → (findings no_links (rules.ident_name n)).none → is_possible (ident_name n) ≡ true
unfolding findings rules.ident_name rules.name_rules ident_name is_possible
ident_name_fits n h = h.1

pub private_name_fits : (n : PrivateName) → (findings no_links (rules.private_name n)).none → is_possible (private_name n) ≡ true
unfolding findings rules.private_name rules.name_rules private_name is_possible
private_name_fits n h = h.1

pub str_lit_fits : (n : Str) → (findings no_links (rules.str_lit n)).none → is_possible (str_lit n) ≡ true
unfolding findings rules.str_lit
str_lit_fits n h = h

pub bool_lit_fits : (n : Bool) → (findings no_links (rules.bool_lit n)).none → is_possible (bool_lit n) ≡ true
unfolding findings rules.bool_lit bool_lit is_possible
bool_lit_fits n h = refl

pub null_lit_fits : (n : Null) → (findings no_links (rules.null_lit n)).none → is_possible (null_lit n) ≡ true
unfolding findings rules.null_lit null_lit is_possible
null_lit_fits n h = refl

pub number_fits : (n : Number) → (findings no_links (rules.number n)).none → is_possible (number n) ≡ true
unfolding findings rules.number
number_fits n h = h

pub big_int_fits : (n : BigInt) → (findings no_links (rules.big_int n)).none → is_possible (big_int n) ≡ true
unfolding findings rules.big_int
big_int_fits n h = h.1

pub regex_fits : (n : Regex) → (findings no_links (rules.regex n)).none → is_possible (regex n) ≡ true
unfolding findings rules.regex regex is_possible
regex_fits n h = simp (by_parts, where_possible, h.0, h.1)

pub lit_fits : (n : Lit) → (findings no_links (rules.lit n)).none → is_possible (lit n) ≡ true
unfolding findings rules.lit lit is_possible
lit_fits (lits.Str n) h = simp (str_lit_fits n h)
lit_fits (lits.Bool n) h = simp (bool_lit_fits n h)
lit_fits (lits.Null n) h = simp (null_lit_fits n h)
lit_fits (lits.Num n) h = simp (number_fits n.value h)
lit_fits (lits.BigInt n) h = simp (big_int_fits n.value h)
lit_fits (lits.Regex n) h = simp (regex_fits n h)
lit_fits (lits.JSXText n) h = absurd (true≢false (sym h))

module _ {X : Type 0} (f : X → Role → Findings) (g : X → Role → Phrase) (held : Held f g) where
  pub binding_ident_fits : (n : BindingIdent X) → (findings f (rules.binding_ident n)).none → is_possible (binding_ident g n) ≡ true
  unfolding findings rules.binding_ident
  binding_ident_fits n h = simp (binding_possible, ident_fits n.id h.0, some_fits _ _ n.type_ann h.1 (λ x. held.node x.node.value Annotation))
