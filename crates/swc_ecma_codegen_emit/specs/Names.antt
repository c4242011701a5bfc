-- What is written of the names that are bound, and of those of properties.
use Rattle.std.specs.Prelude.{string_bytes}
use Rattle.swc_ecma_codegen_tree.specs.declared.exprs.PropName.{PropName}
use Rattle.swc_ecma_codegen_tree.specs.declared.exprs.PropName.TheVariants as prop_names
use Rattle.swc_ecma_codegen_tree.specs.declared.idents.BindingIdent.{BindingIdent}
use Rattle.swc_ecma_codegen_tokens.specs.Keys.{key}
use Rattle.swc_ecma_codegen_tokens.specs.Lits.{str_lit, number_lit, big_int_lit}
use Rattle.swc_ecma_codegen_tokens.specs.Run.{Part}
use Rattle.swc_ecma_codegen_emit.specs.Places.{Place}
use Rattle.swc_ecma_codegen_emit.specs.Annotations.{annotation}
use Rattle.swc_ecma_codegen_emit.specs.Exprs.{ident, computed_prop_name}

-- with a type, as in `a: T`, or without
unfoldable pub binding_ident : {X : Type 0} → (X → Place → Part) → BindingIdent X → Part
binding_ident items n rest = ident n.id (annotation items n.type_ann rest)

unfoldable pub prop_name : {X : Type 0} → (X → Place → Part) → PropName X → Part
prop_name items (prop_names.Ident n) rest = key n.span (string_bytes n.sym) rest
prop_name items (prop_names.Str n) rest = str_lit n.value rest
prop_name items (prop_names.Num n) rest = number_lit n.value rest
prop_name items (prop_names.BigInt n) rest = big_int_lit n.value rest
prop_name items (prop_names.Computed n) rest = computed_prop_name items n rest
