-- Names: a law of the words holds of the plan.
use Rattle.std.proofs.Common.{Bool}
use Rattle.std.specs.Prelude.{string_bytes}
use Rattle.swc_ecma_codegen_tree.specs.declared.exprs.PropName.{PropName}
use Rattle.swc_ecma_codegen_tree.specs.declared.exprs.PropName.TheVariants as prop_names
use Rattle.swc_ecma_codegen_tree.specs.declared.idents.BindingIdent.{BindingIdent}
use Rattle.swc_ecma_codegen_tokens.specs.Run.{Part}
use Rattle.swc_ecma_codegen_laws.proofs.OfWords.{Known, items_in}
use Rattle.swc_ecma_codegen_emit.specs.Names.{binding_ident, prop_name}
use Rattle.swc_ecma_codegen_laws.proofs.AnnotationsLifted.{annotation_holds}
use Rattle.swc_ecma_codegen_laws.proofs.ExprsLifted.{computed_prop_name_holds, ident_holds}

pub binding_ident_holds : {X : Type 0} {holds : Bool → Part → Type 0} (known : Known holds X) (bounded : Bool) (n : BindingIdent X) → holds bounded (binding_ident (items_in known) n)
unfolding binding_ident
binding_ident_holds known bounded n = known.words.and_then bounded (ident_holds known.words bounded n.id) (annotation_holds known bounded n.type_ann)

pub prop_name_holds : {X : Type 0} {holds : Bool → Part → Type 0} (known : Known holds X) (bounded : Bool) (x1 : PropName X) → holds bounded (prop_name (items_in known) x1)
unfolding prop_name
prop_name_holds known bounded (prop_names.Ident n) = known.words.key bounded n.span (string_bytes n.sym)
prop_name_holds known bounded (prop_names.Str n) = known.words.str_lit bounded n.value
prop_name_holds known bounded (prop_names.Num n) = known.words.number_lit bounded n.value
prop_name_holds known bounded (prop_names.BigInt n) = known.words.big_int_lit bounded n.value
prop_name_holds known bounded (prop_names.Computed n) = computed_prop_name_holds known bounded n
