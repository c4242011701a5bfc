-- Lits: a law of the words holds of the plan.
use Rattle.std.specs.Prelude.{Bool}
use Rattle.swc_ecma_codegen_tree.specs.declared.lits.Lit.{Lit}
use Rattle.swc_ecma_codegen_tree.specs.declared.lits.Lit.TheVariants as lits
use Rattle.swc_ecma_codegen_tokens.specs.Run.{Part}
use Rattle.swc_ecma_codegen_emit.specs.declared.nodes.Context.{Context}
use Rattle.swc_ecma_codegen_emit.specs.declared.nodes.Context.TheVariants.{Object, DottedObject}
use Rattle.swc_ecma_codegen_laws.proofs.OfWords.{OfWords}
use Rattle.swc_ecma_codegen_emit.specs.Lits.{lit_at}

pub lit_at_holds : {holds : Bool → Part → Type 0} (words : OfWords holds) (bounded : Bool) (n : Lit) (context : Context) → holds bounded (lit_at n context)
unfolding lit_at
lit_at_holds words bounded (lits.Num n) Object = words.number_lit bounded n.value
lit_at_holds words bounded (lits.Num n) (DottedObject prop) = words.number_object bounded n.value prop
lit_at_holds words bounded (lits.JSXText n) context = words.jsx_text_lit bounded n
lit_at_holds words bounded n context = words.lit bounded n
