-- Which lists of tokens the syntactic grammar derives with a tree as the derivation.
use Rattle.std.specs.Prelude.{◌≡◌, Bool, true, false, ◌||◌, ◌&&◌, not, List, [], ◌∷◌, ◌++◌}
use Rattle.swc_ecma_codegen_tree.specs.declared.links.AnyNode.{AnyNode, out-AnyNode}
use Rattle.swc_ecma_codegen_tree.specs.declared.links.AnyNode.TheVariants as whole
use Rattle.swc_ecma_codegen_tree.specs.declared.exprs.Expr.{Expr}
use Rattle.swc_ecma_codegen_tree.specs.declared.parts.ExprPart.TheVariants as expr_parts
use Rattle.swc_ecma_codegen_tree.specs.declared.pats.Pat.{Pat}
use Rattle.swc_ecma_codegen_tree.specs.declared.programs.ModuleItem.{ModuleItem}
use Rattle.swc_ecma_codegen_tree.specs.declared.programs.Program.{Program}
use Rattle.swc_ecma_codegen_tree.specs.declared.stmts.Stmt.{Stmt}
use Rattle.swc_ecma_codegen_grammar.specs.Phrases.{Phrase, Closing, Then, CommaBefore, OptionalParentheses, closing_mark, closing_token, in_parentheses, mark, Generates}
use Rattle.swc_ecma_codegen_grammar.specs.FunctionPhrases.{is_never}
use Rattle.swc_ecma_codegen_grammar.specs.Phrases as phrases
use Rattle.swc_ecma_codegen_grammar.specs.PatPhrases.{pat}
use Rattle.swc_ecma_codegen_grammar.specs.StmtPhrases.{module_item}
use Rattle.swc_ecma_codegen_grammar.specs.Settings.{Settings}
use Rattle.swc_ecma_codegen_grammar.specs.Tokens.{Token}
use Rattle.swc_ecma_codegen_grammar.specs.TreePhrases.{phrase}
use Rattle.swc_ecma_codegen_grammar.specs.declared.roles.Role.{Role}
use Rattle.swc_ecma_codegen_grammar.specs.declared.roles.Role.TheVariants.{Expression, PlainParameter, Statement, Pattern}
use Rattle.swc_ecma_codegen_syntax.specs.declared.nonterminals.Nonterminal.{Nonterminal}
use Rattle.swc_ecma_codegen_syntax.specs.declared.parameters.Parameters.{Parameters}
use Rattle.swc_ecma_codegen_syntax.specs.declared.verdicts.Verdict.{Verdict}
use Rattle.swc_ecma_codegen_syntax.specs.Verdicts.{Grammar, full, core, unasked, meet}
use Rattle.swc_ecma_codegen_syntax.specs.declared.lookahead.Lookahead.{Lookahead}
use Rattle.swc_ecma_codegen_syntax.specs.Lookahead.{beginning, excludes}
use Rattle.swc_ecma_codegen_syntax.specs.Forms.{of_part, judge, Form, Fixed, Part, Simple, Shaped, cure_of, Restricted, Both, Provided, Closed, Bare, Followed, Cure, ByPlace, role_in, is_met, stands, Lone}
use Rattle.swc_ecma_codegen_syntax.specs.NodeForms.{node_nonterminal, node_form, is_simple, is_name_node, expr_facts, part_facts, stmt_facts, summary_of}
use Rattle.swc_ecma_codegen_syntax.specs.Parameters.{before}
use Rattle.swc_ecma_codegen_syntax.specs.declared.verdicts.Shape.{Shape}
use Rattle.swc_ecma_codegen_syntax.specs.Shapes.{fits, shape_of}
use Rattle.swc_ecma_codegen_syntax.specs.StmtForms.{is_empty_node}
use Rattle.swc_ecma_codegen_syntax.specs.ModuleForms.{item_form, program_form}

-- A form derives a list. A part is derived by a production of its node (`other` chooses between two: a member's, by a MemberExpression or a
-- CallExpression, and a pattern's, where no comma may stand before its closing mark, or one may), whose nonterminal stands where the place wants one: by unit productions.
-- Where `grammar.places` is false a part may stand where only parentheses would let it.
pub data Derives (grammar : Grammar) (s : Settings) : Form AnyNode → List Token → Type 0 where
  fixed : {p : Phrase} {ts : List Token} → Generates s p ts → Derives grammar s (Fixed p) ts
  part : {place : Nonterminal} {c : Parameters} {role : Role} {n : AnyNode} {ts : List Token} → (called : Bool) →
      stands grammar.places place (node_nonterminal called c (out-AnyNode n) role) ≡ true → Derives grammar s (node_form called c (out-AnyNode n) role) ts →
      Derives grammar s (Part place c role n) ts
  simple : {named : Bool} {place : Nonterminal} {c : Parameters} {n : AnyNode} {ts : List Token} →
      (is_simple n c.is_strict && (named || not (is_name_node (out-AnyNode n)))) ≡ true → Derives grammar s (Part place c Expression n) ts →
      Derives grammar s (Simple named place c n) ts
  shaped : {shape : Shape} {place : Nonterminal} {c : Parameters} {role : Role} {n : AnyNode} {ts : List Token} →
      is_met grammar (cure_of shape) (fits shape (shape_of n)) ≡ true → Derives grammar s (Part place c role n) ts →
      Derives grammar s (Shaped shape place c role n) ts
  restricted : {lookahead : Lookahead} {place : Nonterminal} {c : Parameters} {as_pattern : Bool} {n : AnyNode} {ts : List Token} →
      is_met grammar ByPlace (not (excludes lookahead (beginning ts))) ≡ true → Derives grammar s (Part place c (role_in as_pattern) n) ts →
      Derives grammar s (Restricted lookahead place c as_pattern n) ts
  -- 15.3: ArrowParameters is a BindingIdentifier, or stands in parentheses
  lone : {place : Nonterminal} {c : Parameters} {n : AnyNode} {ts : List Token} → is_never (phrase n PlainParameter) ≡ false →
      Derives grammar s (Part place c Pattern n) ts → Derives grammar s (Lone place c n) ts
  lone_in_parentheses : {place : Nonterminal} {c : Parameters} {n : AnyNode} {ts : List Token} → Derives grammar s (Part place c Pattern n) ts →
      Derives grammar s (Lone place c n) (in_parentheses ts)
  both : {a b : Form AnyNode} {ts us : List Token} → Derives grammar s a ts → Derives grammar s b us → Derives grammar s (Both a b) (ts ++ us)
  provided : {cure : Cure} {condition : Bool} {a : Form AnyNode} {ts : List Token} → is_met grammar cure condition ≡ true → Derives grammar s a ts →
      Derives grammar s (Provided cure condition a) ts
  closed : {comma : Bool} {close : Closing} → Derives grammar s (Closed comma close) (closing_token close ∷ [])
  comma_closed : {close : Closing} → Derives grammar s (Closed true close) (phrases.comma ∷ closing_token close ∷ [])
  followed : {place : Nonterminal} {c : Parameters} {n next : AnyNode} {ts : List Token} →
      Derives grammar s (Part place (before (is_empty_node (out-AnyNode next)) c) Statement n) ts → Derives grammar s (Followed place c n next) ts
  bare : {a : Form AnyNode} {ts : List Token} → Derives grammar s a ts → Derives grammar s (Bare a) ts

-- in a grammar: an expression by itself, as a nonterminal with its parameters, under settings that minify where these say so
abbrev pub DerivesExprIn : Grammar → Settings → Nonterminal → Parameters → Expr AnyNode → List Token → Type 0
DerivesExprIn grammar s place c n ts = (s.minify ≡ c.minify) × Derives grammar s (Part place c Expression (whole.Expr n)) ts

-- a pattern by itself: `parameters` say whether it is one of a binding
abbrev pub DerivesPatIn : Grammar → Settings → Nonterminal → Parameters → Pat AnyNode → List Token → Type 0
DerivesPatIn grammar s place c n ts = (s.minify ≡ c.minify) × Derives grammar s (Part place c Pattern (whole.ExprPart (expr_parts.Pat n))) ts

-- a statement by itself, and an item of a module
abbrev pub DerivesStmtIn : Grammar → Settings → Nonterminal → Parameters → Stmt AnyNode → List Token → Type 0
DerivesStmtIn grammar s place c n ts = (s.minify ≡ c.minify) × Derives grammar s (Part place c Statement (whole.Stmt n)) ts

abbrev pub DerivesItemIn : Grammar → Settings → Parameters → ModuleItem AnyNode → List Token → Type 0
DerivesItemIn grammar s c n ts = (s.minify ≡ c.minify) × Derives grammar s (item_form c n) ts

-- a program, from Script or Module
abbrev pub DerivesProgramIn : Grammar → Settings → Program AnyNode → List Token → Type 0
DerivesProgramIn grammar s n ts = Derives grammar s (program_form s.minify n) ts

-- the same in all of the grammar
abbrev pub DerivesExpr : Bool → Settings → Nonterminal → Parameters → Expr AnyNode → List Token → Type 0
DerivesExpr places = DerivesExprIn (full places)

abbrev pub DerivesPat : Bool → Settings → Nonterminal → Parameters → Pat AnyNode → List Token → Type 0
DerivesPat places = DerivesPatIn (full places)

abbrev pub DerivesStmt : Bool → Settings → Nonterminal → Parameters → Stmt AnyNode → List Token → Type 0
DerivesStmt places = DerivesStmtIn (full places)

abbrev pub DerivesItem : Bool → Settings → Parameters → ModuleItem AnyNode → List Token → Type 0
DerivesItem places = DerivesItemIn (full places)

abbrev pub DerivesProgram : Bool → Settings → Program AnyNode → List Token → Type 0
DerivesProgram places = DerivesProgramIn (full places)

-- and in its core
abbrev pub DerivesCoreExpr : Settings → Nonterminal → Parameters → Expr AnyNode → List Token → Type 0
DerivesCoreExpr = DerivesExprIn core

abbrev pub DerivesCoreProgram : Settings → Program AnyNode → List Token → Type 0
DerivesCoreProgram = DerivesProgramIn core

-- what an item of a module reads as
abbrev pub item_phrase : ModuleItem AnyNode → Phrase
item_phrase n = module_item phrase n

-- what a pattern by itself reads as
abbrev pub pat_phrase : Pat AnyNode → Phrase
pat_phrase n = pat phrase n

-- what a tree reads as, without what syntax leaves open: no comma before a closing mark, and no parentheses that the tree hasn't
unfoldable pub bare_phrase : Phrase → Phrase
bare_phrase (Then a b) = Then (bare_phrase a) (bare_phrase b)
bare_phrase (CommaBefore close) = mark (closing_mark close)
bare_phrase (OptionalParentheses round a) = bare_phrase a
bare_phrase p = p

-- what is said of an expression and of a pattern by itself, as a nonterminal with its parameters
abbrev pub expr_verdict : Nonterminal → Parameters → Expr AnyNode → Verdict
expr_verdict place c n = of_part place unasked (expr_facts summary_of false c n)

abbrev pub pat_verdict : Nonterminal → Parameters → Pat AnyNode → Verdict
pat_verdict place c n = of_part place unasked (part_facts summary_of c (expr_parts.Pat n) Pattern)

abbrev pub stmt_verdict : Nonterminal → Parameters → Stmt AnyNode → Verdict
stmt_verdict place c n = of_part place unasked (stmt_facts summary_of c n)

abbrev pub item_verdict : Parameters → ModuleItem AnyNode → Verdict
item_verdict c n = judge summary_of unasked (item_form c n)

-- of a program, what holds both of an emission that doesn't minify and of one that does
abbrev pub program_verdict : Program AnyNode → Verdict
program_verdict n = meet (judge summary_of unasked (program_form false n)) (judge summary_of unasked (program_form true n))
