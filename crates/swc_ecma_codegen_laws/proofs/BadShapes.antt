-- Shapes of which no text is written.
use Rattle.std.proofs.Common.{◌≡◌, false, true, cond, ap}
use Rattle.swc_ecma_codegen_tree.specs.declared.links.AnyNode.{AnyNode}
use Rattle.swc_ecma_codegen_tree.specs.declared.lits.Str.{Str}
use Rattle.swc_ecma_codegen_tree.specs.declared.ts_types.TsTplLitType.{TsTplLitType}
use Rattle.swc_ecma_codegen_grammar.specs.TemplatePhrases.{is_counted}
use Rattle.swc_ecma_codegen_tokens.specs.declared.refusals.Unprintable.TheVariants.{BadShape}
use Rattle.swc_ecma_codegen_tokens.specs.Attributes.{attribute_string, has_no_text, spelled_string}
use Rattle.swc_ecma_codegen_tokens.specs.Run.{Env, Plan, refuse, refused}
use Rattle.swc_ecma_codegen_emit.specs.Templates.{bad_shape}
use Rattle.swc_ecma_codegen_emit.specs.Tree.{any_items}
use Rattle.swc_ecma_codegen_emit.specs.Types.{ts_tpl_lit_type, ts_tpl_parts}

-- a string of an attribute without a raw whose value holds both quotes
pub textless_refused : (n : Str) (rest : Plan) (env : Env) → has_no_text n ≡ true → attribute_string n rest env ≡ refused BadShape
unfolding attribute_string refuse
textless_refused n rest env h = ap (λ b. cond b (refuse BadShape rest) (spelled_string n rest) env) h

-- a template of types without one part more than types
pub type_template_refused : (n : TsTplLitType AnyNode) (rest : Plan) (env : Env) → is_counted n.types.items n.quasis.items ≡ false → ts_tpl_lit_type any_items n rest env ≡ refused BadShape
unfolding ts_tpl_lit_type bad_shape refuse
type_template_refused n rest env h = ap (λ b. cond b (ts_tpl_parts any_items n rest) (bad_shape rest) env) h
