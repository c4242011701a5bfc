-- Names of properties: one production a node. `f` says what is read of what a link holds, in its role.
use Rattle.std.specs.Prelude.{codes, string_bytes}
use Rattle.swc_ecma_codegen_tree.specs.declared.exprs.ComputedPropName.{ComputedPropName}
use Rattle.swc_ecma_codegen_tree.specs.declared.exprs.PropName.{PropName}
use Rattle.swc_ecma_codegen_tree.specs.declared.exprs.PropName.TheVariants as prop_names
use Rattle.swc_ecma_codegen_grammar.specs.Phrases.{Phrase, KeyOf, ◌>◌, mark}
use Rattle.swc_ecma_codegen_grammar.specs.LitPhrases.{str_lit, number, big_int}
use Rattle.swc_ecma_codegen_grammar.specs.declared.roles.Role.{Role}
use Rattle.swc_ecma_codegen_grammar.specs.declared.roles.Role.TheVariants.{Expression}

-- ECMA-262, section 13.3.2: `[a]`
unfoldable pub computed_prop_name : {X : Type 0} → (X → Role → Phrase) → ComputedPropName X → Phrase
computed_prop_name f n = mark (codes "[") > f n.expr.node.value Expression > mark (codes "]")

-- section 13.2.5
unfoldable pub prop_name : {X : Type 0} → (X → Role → Phrase) → PropName X → Phrase
prop_name f (prop_names.Ident n) = KeyOf n.span.lo (string_bytes n.sym)
prop_name f (prop_names.Str n) = str_lit n.value
prop_name f (prop_names.Num n) = number n.value
prop_name f (prop_names.BigInt n) = big_int n.value
prop_name f (prop_names.Computed n) = computed_prop_name f n
