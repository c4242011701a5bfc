-- What is written of each literal is what it reads as, under any settings.
use Rattle.std.proofs.Common.{true, codes}
use Rattle.swc_ecma_codegen_tree.specs.declared.lits.Lit.{Lit}
use Rattle.swc_ecma_codegen_tree.specs.declared.lits.Lit.TheVariants as lits
use Rattle.swc_ecma_codegen_grammar.specs.LitPhrases as phrases
use Rattle.swc_ecma_codegen_tokens.specs.Lits.{bool_text, lit}
use Rattle.swc_ecma_codegen_tokens.specs.Run.{Env}
use Rattle.swc_ecma_codegen_tokens.proofs.LiteralTokens.BigPrints.{prints_big_int_at}
use Rattle.swc_ecma_codegen_tokens.proofs.LiteralTokens.LitPrints.{prints_bool, prints_null, prints_regex}
use Rattle.swc_ecma_codegen_tokens.proofs.LiteralTokens.LiteralParts.{writes_begun}
use Rattle.swc_ecma_codegen_tokens.proofs.LiteralTokens.NumberPrints.{prints_number_at}
use Rattle.swc_ecma_codegen_tokens.proofs.Reading.Phrased.{Prints, after, prints_never}
use Rattle.swc_ecma_codegen_tokens.proofs.LiteralTokens.StringPrints.{prints_string_at}

pub prints_lit : (env : Env) (n : Lit) → Prints env (lit n) (phrases.lit n)
unfolding lit phrases.lit
prints_lit env (lits.Str n) = prints_string_at env true n
prints_lit env (lits.Bool n) = after (writes_begun env n.span (bool_text n.value)) (prints_bool env n)
prints_lit env (lits.Null n) = after (writes_begun env n.span (codes "null")) (prints_null env n)
prints_lit env (lits.Num n) = prints_number_at env true n.value
prints_lit env (lits.BigInt n) = prints_big_int_at env true n.value
prints_lit env (lits.Regex n) = after (writes_begun env n.span (codes "/")) (prints_regex env n)
prints_lit env (lits.JSXText n) = prints_never
