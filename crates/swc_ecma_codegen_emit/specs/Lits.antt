-- What is written of a literal, by where it stands.
use Rattle.std.specs.Prelude.{Bool, true, false}
use Rattle.swc_ecma_codegen_tree.specs.declared.lits.Lit.{Lit}
use Rattle.swc_ecma_codegen_tree.specs.declared.lits.Lit.TheVariants as lits
use Rattle.swc_ecma_codegen_tokens.specs.Run.{Part}
use Rattle.swc_ecma_codegen_tokens.specs.Attributes.{jsx_text_lit}
use Rattle.swc_ecma_codegen_tokens.specs.Lits.{number_lit, number_object, lit}
use Rattle.swc_ecma_codegen_emit.specs.declared.nodes.Context.{Context}
use Rattle.swc_ecma_codegen_emit.specs.declared.nodes.Context.TheVariants.{Object, DottedObject}

-- `10` of `10..x` has a dot of its own, `10` of `10[x]` has none
unfoldable pub lit_at : Lit → Context → Part
lit_at (lits.Num n) Object rest = number_lit n.value rest
lit_at (lits.Num n) (DottedObject prop) rest = number_object n.value prop rest
lit_at (lits.JSXText n) context rest = jsx_text_lit n rest
lit_at n context rest = lit n rest

-- the object of a member
unfoldable pub is_object : Context → Bool
is_object Object = true
is_object (DottedObject prop) = true
is_object context = false

-- a number that is an object: the comments after it are left where they are
unfoldable pub is_number_object : Lit → Context → Bool
is_number_object (lits.Num n) context = is_object context
is_number_object n context = false
