-- What `-a;` reads as.
use Rattle.std.proofs.Common.{◌≡◌, refl, sym, ap, ◌∙◌, subst, ℕ, ◌<◌, ◌^◌, ◌&&◌, if◌then◌else◌, true, false, List, [], ◌∷◌, ◌++◌, codes, Option, Some, string_bytes, arith}
use Rattle.std.specs.Str.{chars}
use Rattle.swc_ecma_codegen_common.specs.declared.positions.BytePos.{BytePos}
use Rattle.swc_ecma_codegen_common.specs.declared.operators.UnaryOp.{UnaryOp}
use Rattle.swc_ecma_codegen_common.specs.declared.operators.UnaryOp.TheVariants.{Minus}
use Rattle.swc_ecma_codegen_common.specs.Operators.{unary_text}
use Rattle.swc_ecma_codegen_tree.specs.declared.links.AnyNode.{AnyNode, AnyNode-F, out-AnyNode, roll-AnyNode, roll-out-AnyNode}
use Rattle.swc_ecma_codegen_tree.specs.declared.links.AnyNode.TheOpen as nodes
use Rattle.swc_ecma_codegen_tree.specs.declared.links.AnyNode.TheVariants as whole
use Rattle.swc_ecma_codegen_tree.specs.declared.exprs.Expr.{Expr}
use Rattle.swc_ecma_codegen_tree.specs.declared.exprs.Expr.TheVariants as exprs
use Rattle.swc_ecma_codegen_tree.specs.declared.exprs.UnaryExpr.{UnaryExpr}
use Rattle.swc_ecma_codegen_tree.specs.declared.stmts.Stmt.TheVariants as stmts
use Rattle.swc_ecma_codegen_tree.specs.declared.stmts.ExprStmt.{ExprStmt}
use Rattle.swc_ecma_codegen_tree.specs.LinkTargets.{sorted_at, sorted_in}
use Rattle.swc_ecma_codegen_tree.specs.SortedNodes.{expr_at}
use Rattle.swc_ecma_codegen_grammar.specs.Comments.{all_tame}
use Rattle.swc_ecma_codegen_grammar.specs.ExprPhrases.{expr, unary_expr, unary_op}
use Rattle.swc_ecma_codegen_grammar.specs.NamePhrases.{ident}
use Rattle.swc_ecma_codegen_grammar.specs.Names.{name_value}
use Rattle.swc_ecma_codegen_grammar.specs.Phrases.{Phrase, Nothing, One, NameOf, ◌>◌, ending, mark, Generates, is_possible}
use Rattle.swc_ecma_codegen_grammar.specs.Reads.{Reads}
use Rattle.swc_ecma_codegen_grammar.specs.Settings.{Settings}
use Rattle.swc_ecma_codegen_grammar.specs.SpelledNames.{is_well_formed_name, spelled_name}
use Rattle.swc_ecma_codegen_grammar.specs.StmtPhrases.{stmt, expr_stmt}
use Rattle.swc_ecma_codegen_grammar.specs.Tokens.{Token}
use Rattle.swc_ecma_codegen_grammar.specs.Tokens as tokens
use Rattle.swc_ecma_codegen_grammar.specs.TreePhrases.{node_phrase, phrase, stmt_phrase}
use Rattle.swc_ecma_codegen_grammar.specs.declared.roles.Role.TheVariants.{Expression}
use Rattle.swc_ecma_codegen_grammar.proofs.TreeLaws.{phrase_expr}
use Rattle.swc_ecma_codegen_tokens.specs.Ready.{token_count}
use Rattle.swc_ecma_codegen_tokens.specs.Settings.{settings_of}
use Rattle.swc_ecma_codegen_tokens.specs.Written.{ReadsAs}
use Rattle.swc_ecma_codegen_settings.specs.Defaults.{default_config}
use Rattle.swc_ecma_codegen_examples.specs.Negation.{IsNegation, IsOperation, negation_tokens}

-- the expression that a link holds
abbrev pub held_expr : AnyNode → Option (Expr AnyNode)
held_expr n = expr_at (sorted_in n)

is_expr_node : (x : AnyNode-F AnyNode) (e : Expr AnyNode) → expr_at (sorted_at x) ≡ Some e → x ≡ nodes.Expr e
is_expr_node (nodes.Expr n) e h = cc
is_expr_node (nodes.Stmt n) e h = absurd (cc)
is_expr_node (nodes.MemberExpr n) e h = absurd (cc)
is_expr_node (nodes.ExprPart n) e h = absurd (cc)
is_expr_node (nodes.StmtPart n) e h = absurd (cc)
is_expr_node (nodes.JSXPart n) e h = absurd (cc)
is_expr_node (nodes.TsPart n) e h = absurd (cc)

-- a link that holds it is read as it
held_read : (n : AnyNode) (e : Expr AnyNode) → held_expr n ≡ Some e → phrase n Expression ≡ expr phrase e
unfolding node_phrase
held_read n e h =
    let same : n ≡ whole.Expr e = sym (roll-out-AnyNode n) ∙ ap roll-AnyNode (is_expr_node (out-AnyNode n) e h) ∙ whole.rolls-Expr e in
    ap (λ z. phrase z Expression) same ∙ phrase_expr e Expression

-- the phrase of `-a;`, where the name stands at a position
abbrev negation_phrase : BytePos → List ℕ → Phrase
negation_phrase at bytes = (mark (codes "-") > NameOf at bytes > Nothing) > ending

pub negation_read : (bytes : List ℕ) (n : ExprStmt AnyNode) → IsNegation held_expr bytes n → (at : BytePos) × (stmt_phrase (stmts.Expr n) ≡ negation_phrase at bytes)
unfolding stmt expr_stmt expr unary_expr unary_op ident tokens.punctuator unary_text
negation_read bytes n h =
    let name : phrase h.unary.arg.node.value Expression ≡ (NameOf h.ident.span.lo bytes > Nothing) =
    held_read h.unary.arg.node.value (exprs.Ident h.ident) h.is_name ∙ ap (λ b. NameOf h.ident.span.lo (string_bytes h.ident.sym) > (if b then mark (codes "?") else Nothing)) h.is_required ∙ ap (λ t. NameOf h.ident.span.lo t > Nothing) h.is_spelled in
    let minus : phrase n.expr.node.value Expression ≡ (mark (codes "-") > NameOf h.ident.span.lo bytes > Nothing) =
    held_read n.expr.node.value (exprs.Unary h.unary) h.is_unary ∙ ap (λ op. One (unary_op op) > phrase h.unary.arg.node.value Expression) h.has_op ∙ ap (λ p. mark (codes "-") > p) name in
    (h.ident.span.lo, ap (λ p. p > ending) minus)

-- it is well-formed, where the name is one
negation_possible : (at : BytePos) (bytes : List ℕ) → is_well_formed_name bytes ≡ true → is_possible (negation_phrase at bytes) ≡ true
unfolding is_possible
negation_possible at bytes well = ap (λ b. (b && true) && true) well

-- it has three tokens
negation_listed : (s : Settings) (at : BytePos) (bytes : List ℕ) (ts : List Token) → Generates s (negation_phrase at bytes) ts → ts ≡ negation_tokens bytes
unfolding Generates
negation_listed s at bytes ts (inner, last, (minus, named, e1, (characters, none, e2, e3, e4), e5), e6, e7) =
    e7
    ∙ ap (λ t. inner ++ t) e6
    ∙ ap (λ t. t ++ (tokens.ending ∷ []))
    (e5 ∙ ap (λ t. t ++ named) e1 ∙ ap (λ t. tokens.punctuator (codes "-") ∷ t) (e4 ∙ ap (λ t. t ++ none) e2 ∙ ap (λ t. tokens.name (name_value (spelled_name bytes)) ∷ t) e3))

negation_short : (at : BytePos) (bytes : List ℕ) → token_count (negation_phrase at bytes) < 2 ^ 32
unfolding token_count
negation_short at bytes = omega arith

pub well_formed_negation : (bytes : List ℕ) (n : ExprStmt AnyNode) → IsNegation held_expr bytes n → is_well_formed_name bytes ≡ true → is_possible (stmt_phrase (stmts.Expr n)) ≡ true
well_formed_negation bytes n h well = let (at, same) = negation_read bytes n h in ap is_possible same ∙ negation_possible at bytes well

pub short_negation : (bytes : List ℕ) (n : ExprStmt AnyNode) → IsNegation held_expr bytes n → token_count (stmt_phrase (stmts.Expr n)) < 2 ^ 32
short_negation bytes n h = let (at, same) = negation_read bytes n h in subst (λ p. token_count p < 2 ^ 32) (sym same) (negation_short at bytes)

-- a text that reads as one reads as its tokens
pub negation_reads : (bytes : List ℕ) (n : ExprStmt AnyNode) (text : List ℕ) → IsNegation held_expr bytes n → ReadsAs default_config false (stmt_phrase (stmts.Expr n)) [] text → Reads (chars text) (negation_tokens bytes) []
unfolding all_tame
negation_reads bytes n text h reading =
    let (at, same) = negation_read bytes n h in
    let listed : reading.tokens ≡ negation_tokens bytes =
    negation_listed (settings_of default_config) at bytes reading.tokens (subst (λ p. Generates (settings_of default_config) p reading.tokens) same reading.is_list) in
    subst (λ ts. Reads (chars text) ts []) (reading.whole refl ∙ listed) (reading.keeps_lines refl)

-- where an operator is changed to a minus, the statement is a negation
pub changed_to_minus : (bytes : List ℕ) (op : UnaryOp) (old new : ExprStmt AnyNode) → IsOperation held_expr op bytes old
    → ((node : UnaryExpr AnyNode) → held_expr old.expr.node.value ≡ Some (exprs.Unary node) → held_expr new.expr.node.value ≡ Some (exprs.Unary (record node { op = Minus })))
    → IsNegation held_expr bytes new
changed_to_minus bytes op old new h set =
    record {
      unary = record h.unary { op = Minus };
      ident = h.ident;
      is_unary = set h.unary h.is_unary;
      has_op = refl;
      is_name = h.is_name;
      is_spelled = h.is_spelled;
      is_required = h.is_required;
    }
