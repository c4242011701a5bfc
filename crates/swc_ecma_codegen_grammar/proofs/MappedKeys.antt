-- The productions of names of properties see what links hold through f alone.
use Rattle.std.proofs.Common.{◌≡◌, refl}
use Rattle.swc_ecma_codegen_tree.specs.declared.links.AnyNode.{map-AnyNode}
use Rattle.swc_ecma_codegen_tree.specs.declared.links.AnyNode.TheOpen as nodes
use Rattle.swc_ecma_codegen_tree.specs.declared.parts.ExprPart.TheVariants as expr_parts
use Rattle.swc_ecma_codegen_tree.specs.declared.exprs.PropName.{PropName}
use Rattle.swc_ecma_codegen_tree.specs.declared.exprs.PropName.TheVariants as prop_names
use Rattle.swc_ecma_codegen_grammar.specs.Phrases.{Phrase}
use Rattle.swc_ecma_codegen_grammar.specs.declared.roles.Role.{Role}
use Rattle.swc_ecma_codegen_grammar.specs.declared.roles.Role.TheVariants.{PropertyName}
use Rattle.swc_ecma_codegen_grammar.specs.KeyPhrases.{computed_prop_name, prop_name}
use Rattle.swc_ecma_codegen_grammar.specs.PartPhrases.{expr_part}
use Rattle.swc_ecma_codegen_grammar.specs.TreePhrases.{node_phrase}

pub prop_name_mapped : {X Y : Type 0} (g : X → Y) (f : Y → Role → Phrase) (n : PropName X) → node_phrase f (map-AnyNode X Y g (nodes.ExprPart (expr_parts.PropName n))) PropertyName ≡ prop_name (λ x. f (g x)) n
unfolding node_phrase expr_part prop_name computed_prop_name
prop_name_mapped g f (prop_names.Ident n) = refl
prop_name_mapped g f (prop_names.Str n) = refl
prop_name_mapped g f (prop_names.Num n) = refl
prop_name_mapped g f (prop_names.BigInt n) = refl
prop_name_mapped g f (prop_names.Computed n) = refl
