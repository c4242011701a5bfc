-- What a whole node begins with, where it is a pattern.
use Rattle.std.proofs.Common.{◌≡◌, refl, sym, ◌∙◌, ap, cond, Bool, true, false, ◌||◌, is_some}
use Rattle.swc_ecma_codegen_tree.specs.declared.links.AnyNode.{AnyNode, AnyNode-F, out-AnyNode}
use Rattle.swc_ecma_codegen_tree.specs.declared.links.AnyNode.TheOpen as nodes
use Rattle.swc_ecma_codegen_tree.specs.declared.links.AnyNode.TheVariants as whole
use Rattle.swc_ecma_codegen_tree.specs.declared.links.AnyNode.TheViews.{out-roll-AnyNode}
use Rattle.swc_ecma_codegen_tree.specs.declared.parts.ExprPart.{ExprPart}
use Rattle.swc_ecma_codegen_tree.specs.declared.parts.ExprPart.TheVariants as expr_parts
use Rattle.swc_ecma_codegen_tree.specs.declared.parts.JSXPart.{JSXPart}
use Rattle.swc_ecma_codegen_tree.specs.declared.parts.TsPart.{TsPart}
use Rattle.swc_ecma_codegen_tree.specs.declared.parts.TsPart.TheVariants as ts_parts
use Rattle.swc_ecma_codegen_tree.specs.declared.parts.JSXPart.TheVariants as jsx_parts
use Rattle.swc_ecma_codegen_tree.specs.declared.parts.StmtPart.{StmtPart}
use Rattle.swc_ecma_codegen_tree.specs.declared.parts.StmtPart.TheVariants as stmt_parts
use Rattle.swc_ecma_codegen_tree.specs.declared.pats.Pat.{Pat}
use Rattle.swc_ecma_codegen_tree.specs.declared.pats.Pat.TheVariants as pats
use Rattle.swc_ecma_codegen_grammar.specs.Phrases.{Phrase, Never}
use Rattle.swc_ecma_codegen_grammar.specs.JsxPhrases.{jsx_part}
use Rattle.swc_ecma_codegen_grammar.specs.NamePhrases.{binding_ident}
use Rattle.swc_ecma_codegen_grammar.specs.PartPhrases.{expr_part, stmt_part, ts_part}
use Rattle.swc_ecma_codegen_grammar.specs.PatPhrases.{pat, plain_name, plain_parameter}
use Rattle.swc_ecma_codegen_grammar.specs.TreePhrases.{node_phrase, phrase}
use Rattle.swc_ecma_codegen_grammar.specs.declared.roles.Role.{Role}
use Rattle.swc_ecma_codegen_grammar.specs.declared.roles.Role.TheVariants.{Pattern, PlainParameter}
use Rattle.swc_ecma_codegen_grammar.proofs.TreeLaws.{phrase_at}
use Rattle.swc_ecma_codegen_emit.specs.declared.patterns.PatternKind.TheVariants.{PlainName, Name}
use Rattle.swc_ecma_codegen_emit.specs.Answers.{any_answers}
use Rattle.swc_ecma_codegen_emit.specs.FunctionExprs.{is_plain}
use Rattle.swc_ecma_codegen_emit.specs.Patterns.{name_kind, pat_kind, part_pattern, node_pattern, any_pattern}

pub any_pattern_of : (n : AnyNode) → any_pattern n ≡ node_pattern (out-AnyNode n)
unfolding any_pattern
any_pattern_of n = refl

pub any_pattern_part : (n : ExprPart AnyNode) → any_pattern (whole.ExprPart n) ≡ part_pattern n
unfolding any_pattern node_pattern
any_pattern_part n = ap (λ z. node_pattern (out-AnyNode z)) (sym (whole.rolls-ExprPart n)) ∙ ap node_pattern (out-roll-AnyNode (nodes.ExprPart n))

-- ---- the role of a name alone

-- A pattern has the role of a plain parameter where it is a name alone, and reads there as it does elsewhere.
name_plain : (typed : Bool) (p : Phrase) → cond typed Never p ≡ cond (is_plain (cond typed Name PlainName)) p Never
unfolding is_plain
name_plain true p = refl
name_plain false p = refl

pat_plain : {X : Type 0} (f : X → Role → Phrase) (n : Pat X) → plain_parameter f n ≡ cond (is_plain (pat_kind n)) (pat f n) Never
unfolding plain_parameter plain_name pat pat_kind name_kind is_plain
pat_plain f (pats.Ident n) = name_plain (n.id.optional || is_some n.type_ann) (binding_ident f n)
pat_plain f n = refl

part_plain : {X : Type 0} (f : X → Role → Phrase) (n : ExprPart X) → expr_part f n PlainParameter ≡ cond (is_plain (part_pattern n)) (expr_part f n Pattern) Never
unfolding expr_part part_pattern is_plain
part_plain f (expr_parts.Pat n) = pat_plain f n
part_plain f n = refl

stmt_part_plain : {X : Type 0} (f : X → Role → Phrase) (n : StmtPart X) → stmt_part f n PlainParameter ≡ Never
unfolding stmt_part
stmt_part_plain f (stmt_parts.Function n) = refl
stmt_part_plain f (stmt_parts.BlockStmt n) = refl
stmt_part_plain f n = refl

jsx_part_plain : {X : Type 0} (f : X → Role → Phrase) (n : JSXPart X) → jsx_part f n PlainParameter ≡ Never
unfolding jsx_part
jsx_part_plain f (jsx_parts.JSXElement n) = refl
jsx_part_plain f (jsx_parts.JSXFragment n) = refl
jsx_part_plain f (jsx_parts.JSXObject n) = refl

ts_part_plain : {X : Type 0} (f : X → Role → Phrase) (n : TsPart X) → ts_part f n PlainParameter ≡ Never
unfolding ts_part
ts_part_plain f (ts_parts.TsType n) = refl
ts_part_plain f (ts_parts.TsTypeAnn n) = refl
ts_part_plain f (ts_parts.TsTypeParamDecl n) = refl
ts_part_plain f (ts_parts.TsTypeParamInstantiation n) = refl
ts_part_plain f (ts_parts.TsFnParam n) = refl
ts_part_plain f (ts_parts.TsEntityName n) = refl
ts_part_plain f n = refl

node_plain : {X : Type 0} (f : X → Role → Phrase) (n : AnyNode-F X) → node_phrase f n PlainParameter ≡ cond (is_plain (node_pattern n)) (node_phrase f n Pattern) Never
unfolding node_phrase node_pattern is_plain
node_plain f (nodes.ExprPart n) = part_plain f n
node_plain f (nodes.StmtPart n) = stmt_part_plain f n
node_plain f (nodes.JSXPart n) = jsx_part_plain f n
node_plain f (nodes.TsPart n) = ts_part_plain f n
node_plain f n = refl

pub plain_reads : (n : AnyNode) → phrase n PlainParameter ≡ cond (is_plain (any_answers n).pattern) (phrase n Pattern) Never
unfolding any_answers any_pattern
plain_reads n = phrase_at n PlainParameter ∙ node_plain phrase (out-AnyNode n) ∙ ap (λ z. cond (is_plain (node_pattern (out-AnyNode n))) z Never) (sym (phrase_at n Pattern))
