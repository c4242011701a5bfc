-- Without nonterminals each type's form is the production that tells its tokens.
use Rattle.std.proofs.Common.{◌≡◌, codes, refl, ap}
use Rattle.swc_ecma_codegen_tree.specs.declared.idents.Ident.{Ident}
use Rattle.swc_ecma_codegen_tree.specs.declared.lits.Lit.{Lit}
use Rattle.swc_ecma_codegen_tree.specs.declared.exprs.UnaryExpr.{UnaryExpr}
use Rattle.swc_ecma_codegen_tree.specs.declared.exprs.UpdateExpr.{UpdateExpr}
use Rattle.swc_ecma_codegen_tree.specs.declared.exprs.BinExpr.{BinExpr}
use Rattle.swc_ecma_codegen_tree.specs.declared.exprs.CondExpr.{CondExpr}
use Rattle.swc_ecma_codegen_tree.specs.declared.exprs.AssignExpr.{AssignExpr}
use Rattle.swc_ecma_codegen_tree.specs.declared.exprs.YieldExpr.{YieldExpr}
use Rattle.swc_ecma_codegen_tree.specs.declared.exprs.AwaitExpr.{AwaitExpr}
use Rattle.swc_ecma_codegen_tree.specs.declared.exprs.SeqExpr.{SeqExpr}
use Rattle.swc_ecma_codegen_tree.specs.declared.exprs.ParenExpr.{ParenExpr}
use Rattle.swc_ecma_codegen_grammar.specs.Phrases.{Phrase, Then, word}
use Rattle.swc_ecma_codegen_grammar.specs.LitPhrases.{lit}
use Rattle.swc_ecma_codegen_grammar.specs.NamePhrases.{ident}
use Rattle.swc_ecma_codegen_grammar.specs.ExprPhrases.{unary_expr, update_expr, bin_expr, cond_expr, assign_expr, yield_expr, await_expr, seq_expr, paren_expr}
use Rattle.swc_ecma_codegen_grammar.specs.declared.roles.Role.{Role}
use Rattle.swc_ecma_codegen_syntax.specs.declared.nonterminals.Nonterminal.TheVariants as nt
use Rattle.swc_ecma_codegen_syntax.specs.declared.parameters.Parameters.{Parameters}
use Rattle.swc_ecma_codegen_syntax.specs.Forms.{forget}
use Rattle.swc_ecma_codegen_syntax.specs.NameForms.{name_form, lit_form}
use Rattle.swc_ecma_codegen_syntax.specs.MemberForms.{expr_part}
use Rattle.swc_ecma_codegen_syntax.specs.ExprForms.{unary_form, update_form, bin_form, cond_form, assign_form, yield_form, await_form, seq_form, paren_form}
use Rattle.swc_ecma_codegen_syntax.proofs.Judged.{some_forgets}
use Rattle.swc_ecma_codegen_syntax.proofs.Forgets.{update_forgets, yield_forgets}

pub name_law : {X : Type 0} (f : X → Role → Phrase) (c : Parameters) (n : Ident) → forget f (name_form c n) ≡ ident n
unfolding forget name_form
name_law f c n = refl

pub lit_law : {X : Type 0} (f : X → Role → Phrase) (n : Lit) → forget f (lit_form n) ≡ lit n
unfolding forget lit_form
lit_law f n = refl

pub unary_law : {X : Type 0} (f : X → Role → Phrase) (c : Parameters) (n : UnaryExpr X) → forget f (unary_form c n) ≡ unary_expr f n
unfolding forget unary_form unary_expr
unary_law f c n = refl

pub update_law : {X : Type 0} (f : X → Role → Phrase) (c : Parameters) (n : UpdateExpr X) → forget f (update_form c n) ≡ update_expr f n
update_law f c n = update_forgets f c n n.prefix

pub bin_law : {X : Type 0} (f : X → Role → Phrase) (c : Parameters) (n : BinExpr X) → forget f (bin_form c n) ≡ bin_expr f n
unfolding forget bin_form bin_expr
bin_law f c n = refl

pub cond_law : {X : Type 0} (f : X → Role → Phrase) (c : Parameters) (n : CondExpr X) → forget f (cond_form c n) ≡ cond_expr f n
unfolding forget cond_form cond_expr
cond_law f c n = refl

pub assign_law : {X : Type 0} (f : X → Role → Phrase) (c : Parameters) (n : AssignExpr X) → forget f (assign_form c n) ≡ assign_expr f n
unfolding forget assign_form assign_expr
assign_law f c n = refl

pub yield_law : {X : Type 0} (f : X → Role → Phrase) (c : Parameters) (n : YieldExpr X) → forget f (yield_form c n) ≡ yield_expr f n
unfolding forget yield_form yield_expr
yield_law f c n = ap (Then (word (codes "yield"))) (yield_forgets f c n.delegate n.arg)

pub await_law : {X : Type 0} (f : X → Role → Phrase) (c : Parameters) (n : AwaitExpr X) → forget f (await_form c n) ≡ await_expr f n
unfolding forget await_form await_expr
await_law f c n = refl

pub seq_law : {X : Type 0} (f : X → Role → Phrase) (c : Parameters) (n : SeqExpr X) → forget f (seq_form c n) ≡ seq_expr f n
unfolding forget seq_form seq_expr
seq_law f c n = some_forgets f (codes ",") (expr_part nt.AssignmentExpression c) n.exprs.items

pub paren_law : {X : Type 0} (f : X → Role → Phrase) (c : Parameters) (n : ParenExpr X) → forget f (paren_form c n) ≡ paren_expr f n
unfolding forget paren_form paren_expr
paren_law f c n = refl
