-- What is written of names that are bound, and of those of properties, is what it reads as.
use Rattle.std.proofs.Common.{string_bytes}
use Rattle.swc_ecma_codegen_tree.specs.declared.exprs.PropName.{PropName}
use Rattle.swc_ecma_codegen_tree.specs.declared.exprs.PropName.TheVariants as prop_names
use Rattle.swc_ecma_codegen_tree.specs.declared.idents.BindingIdent.{BindingIdent}
use Rattle.swc_ecma_codegen_grammar.specs.KeyPhrases as keys
use Rattle.swc_ecma_codegen_grammar.specs.NamePhrases as names
use Rattle.swc_ecma_codegen_tokens.proofs.LiteralTokens.BigPrints.{prints_big_int}
use Rattle.swc_ecma_codegen_tokens.proofs.NameTokens.KeyPrints.{prints_key}
use Rattle.swc_ecma_codegen_tokens.proofs.LiteralTokens.NumberPrints.{prints_number}
use Rattle.swc_ecma_codegen_tokens.proofs.Reading.Phrased.{Prints, then}
use Rattle.swc_ecma_codegen_tokens.proofs.LiteralTokens.StringPrints.{prints_str}
use Rattle.swc_ecma_codegen_emit.specs.Names as bound
use Rattle.swc_ecma_codegen_emit.proofs.AnnotationParts.{annotation_prints}
use Rattle.swc_ecma_codegen_emit.proofs.Linked.{Linked}
use Rattle.swc_ecma_codegen_emit.proofs.ExprParts.{ident_prints, computed_prints}

pub binding_ident_prints : {X : Type 0} (l : Linked X) (n : BindingIdent X) → Prints l.env (bound.binding_ident l.items n) (names.binding_ident l.reads n)
unfolding bound.binding_ident names.binding_ident
binding_ident_prints l n = then (ident_prints l n.id) (annotation_prints l n.type_ann)

pub prop_name_prints : {X : Type 0} (l : Linked X) (n : PropName X) → Prints l.env (bound.prop_name l.items n) (keys.prop_name l.reads n)
unfolding bound.prop_name keys.prop_name
prop_name_prints l (prop_names.Ident n) = prints_key l.env n.span (string_bytes n.sym) l.leaves_out
prop_name_prints l (prop_names.Str n) = prints_str l.env n.value
prop_name_prints l (prop_names.Num n) = prints_number l.env n.value
prop_name_prints l (prop_names.BigInt n) = prints_big_int l.env n.value
prop_name_prints l (prop_names.Computed n) = computed_prints l n
