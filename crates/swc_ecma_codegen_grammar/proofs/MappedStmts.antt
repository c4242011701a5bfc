-- The productions of statements and declarations see what links hold through f alone.
use Rattle.std.proofs.Common.{◌≡◌, refl, ap, List, map, codes, Bool, true, false, Option, Some, None, Vec, Global}
use Rattle.swc_ecma_codegen_common.specs.declared.positions.Span.{Span}
use Rattle.swc_ecma_codegen_tree.specs.declared.links.AnyNode.{AnyNode-F, map-AnyNode}
use Rattle.swc_ecma_codegen_tree.specs.declared.links.AnyNode.TheOpen as nodes
use Rattle.swc_ecma_codegen_tree.specs.Links.{BlockStmtBox, ExprBox, PatBox, StmtBox, TsTypeAnnBox}
use Rattle.swc_ecma_codegen_tree.specs.declared.idents.Ident.{Ident}
use Rattle.swc_ecma_codegen_tree.specs.declared.parts.ExprPart.TheVariants as expr_parts
use Rattle.swc_ecma_codegen_tree.specs.declared.parts.StmtPart.TheVariants as stmt_parts
use Rattle.swc_ecma_codegen_tree.specs.declared.decls.Decl.{Decl}
use Rattle.swc_ecma_codegen_tree.specs.declared.decls.Decl.TheVariants as decls
use Rattle.swc_ecma_codegen_tree.specs.declared.decls.VarDecl.{VarDecl}
use Rattle.swc_ecma_codegen_tree.specs.declared.decls.VarDeclarator.{VarDeclarator}
use Rattle.swc_ecma_codegen_tree.specs.declared.pats.Pat.{Pat}
use Rattle.swc_ecma_codegen_tree.specs.declared.pats.Pat.TheVariants as pats
use Rattle.swc_ecma_codegen_tree.specs.declared.stmts.CatchClause.{CatchClause}
use Rattle.swc_ecma_codegen_tree.specs.declared.stmts.ForHead.{ForHead}
use Rattle.swc_ecma_codegen_tree.specs.declared.stmts.ForHead.TheVariants as heads
use Rattle.swc_ecma_codegen_tree.specs.declared.stmts.ForInStmt.{ForInStmt}
use Rattle.swc_ecma_codegen_tree.specs.declared.stmts.ForOfStmt.{ForOfStmt}
use Rattle.swc_ecma_codegen_tree.specs.declared.stmts.ForStmt.{ForStmt}
use Rattle.swc_ecma_codegen_tree.specs.declared.stmts.IfStmt.{IfStmt}
use Rattle.swc_ecma_codegen_tree.specs.declared.stmts.ReturnStmt.{ReturnStmt}
use Rattle.swc_ecma_codegen_tree.specs.declared.stmts.Stmt.{Stmt}
use Rattle.swc_ecma_codegen_tree.specs.declared.stmts.Stmt.TheVariants as stmts
use Rattle.swc_ecma_codegen_tree.specs.declared.stmts.SwitchCase.{SwitchCase}
use Rattle.swc_ecma_codegen_tree.specs.declared.stmts.SwitchStmt.{SwitchStmt}
use Rattle.swc_ecma_codegen_tree.specs.declared.stmts.TryStmt.{TryStmt}
use Rattle.swc_ecma_codegen_tree.specs.declared.stmts.VarDeclOrExpr.{VarDeclOrExpr}
use Rattle.swc_ecma_codegen_tree.specs.declared.stmts.VarDeclOrExpr.TheVariants as inits
use Rattle.swc_ecma_codegen_grammar.specs.Phrases.{Phrase, Never, ◌>◌, mark, word, same_line, ending, in_order, some_listed}
use Rattle.swc_ecma_codegen_grammar.specs.declared.roles.Role.{Role}
use Rattle.swc_ecma_codegen_grammar.specs.declared.roles.Role.TheVariants.{Statement, Declaration, VariableDeclaration}
use Rattle.swc_ecma_codegen_grammar.specs.AnnotationPhrases.{annotation}
use Rattle.swc_ecma_codegen_grammar.specs.PatPhrases.{value_at, initializer}
use Rattle.swc_ecma_codegen_grammar.specs.FunctionPhrases.{word_if}
use Rattle.swc_ecma_codegen_grammar.specs.DeclPhrases.{after_await, fn_decl, definite_pat, declared_pat, var_declarator, var_kind, var_decl, using_decl, decl}
use Rattle.swc_ecma_codegen_grammar.specs.ClassPhrases.{class_decl}
use Rattle.swc_ecma_codegen_grammar.specs.TsDeclPhrases.{declare_word}
use Rattle.swc_ecma_codegen_grammar.specs.StmtPhrases.{stmt_at, optional_value, empty_stmt, expr_stmt, debugger_stmt, with_stmt, return_stmt, labeled_stmt, break_stmt, continue_stmt, else_branch, if_stmt, case_test, switch_case, switch_stmt, throw_stmt, catch_param, catch_clause, handler, finalizer, try_stmt, while_stmt, do_while_stmt, var_decl_or_expr, for_init, for_stmt, for_head, for_in_stmt, for_of_stmt, stmt, return_rest}
use Rattle.swc_ecma_codegen_grammar.specs.PartPhrases.{expr_part, stmt_part}
use Rattle.swc_ecma_codegen_grammar.specs.TreePhrases.{node_phrase}
use Rattle.swc_ecma_codegen_grammar.proofs.Mapped.{list_mapped, each_option, by_three}
use Rattle.swc_ecma_codegen_grammar.proofs.MappedPats.{pat_mapped}
use Rattle.swc_ecma_codegen_grammar.proofs.MappedTsDecls.{interface_mapped, alias_mapped, enum_mapped, module_mapped}

-- ---- declarations

-- what holds of each declarator, by whether it has a value, holds of all
pub by_init : {X : Type 0} (P : VarDeclarator X → Type 0)
    → ((span : Span) (name : Pat X) (definite : Bool) → P (record { span = span; name = name; init = None; definite = definite }))
    → ((span : Span) (name : Pat X) (init : ExprBox X) (definite : Bool) → P (record { span = span; name = name; init = Some init; definite = definite }))
    → (n : VarDeclarator X) → P n
by_init P none some n = each_option (λ init. P (record { span = n.span; name = n.name; init = init; definite = n.definite })) (none n.span n.name n.definite) (λ init. some n.span n.name init n.definite) n.init

-- a declarator with its pattern
named : (p q init : Phrase) → p ≡ q → (p > init) ≡ (q > init)
named p q init e = ap (λ z. z > init) e

-- what is declared, as a part that a link holds
abbrev declared_in : {X : Type 0} → (X → Role → Phrase) → Bool → AnyNode-F X → Phrase
declared_in f definite (nodes.ExprPart (expr_parts.Pat n)) = declared_pat f definite n
declared_in f definite n = Never

definite_mapped : {X Y : Type 0} (g : X → Y) (f : Y → Role → Phrase) (id : Ident) (type_ann : Option (TsTypeAnnBox X)) → declared_in f true (map-AnyNode X Y g (nodes.ExprPart (expr_parts.Pat (pats.Ident (record { id = id; type_ann = type_ann }))))) ≡ definite_pat (λ x. f (g x)) (pats.Ident (record { id = id; type_ann = type_ann }))
unfolding declared_pat definite_pat annotation
definite_mapped g f id None = refl
definite_mapped g f id (Some t) = refl

declared_mapped : {X Y : Type 0} (g : X → Y) (f : Y → Role → Phrase) (definite : Bool) (n : Pat X) → declared_in f definite (map-AnyNode X Y g (nodes.ExprPart (expr_parts.Pat n))) ≡ declared_pat (λ x. f (g x)) definite n
unfolding node_phrase expr_part declared_pat definite_pat
declared_mapped g f false n = pat_mapped g f n
declared_mapped g f true (pats.Ident n) = definite_mapped g f n.id n.type_ann
declared_mapped g f true n = refl

declarators_mapped : {X Y : Type 0} (g : VarDeclarator X → VarDeclarator Y) (f : Y → Role → Phrase) (d : X → Role → Phrase) → ((n : VarDeclarator X) → var_declarator f (g n) ≡ var_declarator d n) → (xs : List (VarDeclarator X)) → some_listed (codes ",") (map (var_declarator f) (map g xs)) ≡ some_listed (codes ",") (map (var_declarator d) xs)
declarators_mapped g f d same xs = ap (some_listed (codes ",")) (list_mapped g (var_declarator f) (var_declarator d) same xs)

pub var_decl_mapped : {X Y : Type 0} (g : X → Y) (f : Y → Role → Phrase) (n : VarDecl X) → node_phrase f (map-AnyNode X Y g (nodes.StmtPart (stmt_parts.VarDecl n))) VariableDeclaration ≡ var_decl (λ x. f (g x)) n
unfolding node_phrase expr_part stmt_part var_decl var_declarator initializer
var_decl_mapped {X} {Y} g f n = ap (λ p. declare_word n.declare > var_kind n.kind > p) (declarators_mapped {X = X} {Y = Y} _ f (λ x. f (g x)) (by_init {X = X} _ (λ span name definite. named _ _ _ (declared_mapped g f definite name)) (λ span name init definite. named _ _ _ (declared_mapped g f definite name))) n.decls.items)

pub decl_mapped : {X Y : Type 0} (g : X → Y) (f : Y → Role → Phrase) (n : Decl X) → node_phrase f (map-AnyNode X Y g (nodes.StmtPart (stmt_parts.Decl n))) Declaration ≡ decl (λ x. f (g x)) n
unfolding node_phrase expr_part stmt_part decl fn_decl using_decl var_declarator initializer class_decl
decl_mapped {X} {Y} g f (decls.Using n) = ap (λ p. after_await n.is_await (word (codes "using") > same_line > p) > ending) (declarators_mapped {X = X} {Y = Y} _ f (λ x. f (g x)) (by_init {X = X} _ (λ span name definite. named _ _ _ (declared_mapped g f definite name)) (λ span name init definite. named _ _ _ (declared_mapped g f definite name))) n.decls.items)
decl_mapped g f (decls.Fn n) = refl
decl_mapped g f (decls.Var n) = ap (λ p. p > ending) (var_decl_mapped g f n)
decl_mapped g f (decls.TsInterface n) = interface_mapped g f n
decl_mapped g f (decls.TsTypeAlias n) = alias_mapped g f n
decl_mapped g f (decls.TsEnum n) = enum_mapped g f n
decl_mapped g f (decls.TsModule n) = module_mapped g f n
decl_mapped g f n = refl

-- ---- statements

return_by : {X Y : Type 0} (g : X → Y) (f : Y → Role → Phrase) (n : ReturnStmt X) (arg : Option (ExprBox X)) → node_phrase f (map-AnyNode X Y g (nodes.Stmt (stmts.Return (record n { arg = arg })))) Statement ≡ return_stmt (λ x. f (g x)) (record n { arg = arg })
unfolding node_phrase stmt return_stmt return_rest
return_by g f n None = refl
return_by g f n (Some x) = refl

if_by : {X Y : Type 0} (g : X → Y) (f : Y → Role → Phrase) (n : IfStmt X) (alt : Option (StmtBox X)) → node_phrase f (map-AnyNode X Y g (nodes.Stmt (stmts.If (record n { alt = alt })))) Statement ≡ if_stmt (λ x. f (g x)) (record n { alt = alt })
unfolding node_phrase stmt if_stmt else_branch
if_by g f n None = refl
if_by g f n (Some x) = refl

-- what holds of each case, by whether it has an expression, holds of all
pub by_test : {X : Type 0} (P : SwitchCase X → Type 0)
    → ((span : Span) (cons : Vec (StmtBox X) Global) → P (record { span = span; test = None; cons = cons }))
    → ((span : Span) (test : ExprBox X) (cons : Vec (StmtBox X) Global) → P (record { span = span; test = Some test; cons = cons }))
    → (n : SwitchCase X) → P n
by_test P none some n = each_option (λ test. P (record { span = n.span; test = test; cons = n.cons })) (none n.span n.cons) (λ test. some n.span test n.cons) n.test

case_stmts : {X Y : Type 0} (g : StmtBox X → StmtBox Y) (f : Y → Role → Phrase) (d : X → Role → Phrase) → ((n : StmtBox X) → stmt_at f (g n) ≡ stmt_at d n) → (head : Phrase) (xs : List (StmtBox X)) → (head > mark (codes ":") > in_order (map (stmt_at f) (map g xs))) ≡ (head > mark (codes ":") > in_order (map (stmt_at d) xs))
case_stmts g f d same head xs = ap (λ ps. head > mark (codes ":") > in_order ps) (list_mapped g (stmt_at f) (stmt_at d) same xs)

switch_mapped : {X Y : Type 0} (g : X → Y) (f : Y → Role → Phrase) (n : SwitchStmt X) → node_phrase f (map-AnyNode X Y g (nodes.Stmt (stmts.Switch n))) Statement ≡ switch_stmt (λ x. f (g x)) n
unfolding node_phrase stmt switch_stmt switch_case case_test
switch_mapped {X} {Y} g f n = ap (λ ps. word (codes "switch") > mark (codes "(") > value_at (λ x. f (g x)) n.discriminant > mark (codes ")") > mark (codes "{") > in_order ps > mark (codes "}"))
    (list_mapped {A = SwitchCase X} _ (switch_case f) (switch_case (λ x. f (g x))) (by_test {X = X} _
    (λ span cons. case_stmts {X = X} {Y = Y} _ f (λ x. f (g x)) (λ s. refl) (word (codes "default")) cons.items)
    (λ span test cons. case_stmts {X = X} {Y = Y} _ f (λ x. f (g x)) (λ s. refl) (word (codes "case") > value_at (λ x. f (g x)) test) cons.items)) n.cases.items)

caught_by : {X Y : Type 0} (g : X → Y) (f : Y → Role → Phrase) (n : TryStmt X) (c : CatchClause X) (param : Option (PatBox X)) (last : Option (BlockStmtBox X)) → node_phrase f (map-AnyNode X Y g (nodes.Stmt (stmts.Try (record n { handler = Some (record c { param = param }); finalizer = last })))) Statement ≡ try_stmt (λ x. f (g x)) (record n { handler = Some (record c { param = param }); finalizer = last })
unfolding node_phrase stmt try_stmt handler catch_clause catch_param finalizer
caught_by g f n c None None = refl
caught_by g f n c None (Some b) = refl
caught_by g f n c (Some p) None = refl
caught_by g f n c (Some p) (Some b) = refl

try_by : {X Y : Type 0} (g : X → Y) (f : Y → Role → Phrase) (n : TryStmt X) (caught : Option (CatchClause X)) (last : Option (BlockStmtBox X)) → node_phrase f (map-AnyNode X Y g (nodes.Stmt (stmts.Try (record n { handler = caught; finalizer = last })))) Statement ≡ try_stmt (λ x. f (g x)) (record n { handler = caught; finalizer = last })
unfolding node_phrase stmt try_stmt handler finalizer
try_by g f n None None = refl
try_by g f n None (Some b) = refl
try_by g f n (Some c) last = caught_by g f n c c.param last

for_by : {X Y : Type 0} (g : X → Y) (f : Y → Role → Phrase) (n : ForStmt X) (init : Option (VarDeclOrExpr X)) (test update : Option (ExprBox X)) → node_phrase f (map-AnyNode X Y g (nodes.Stmt (stmts.For (record n { init = init; test = test; update = update })))) Statement ≡ for_stmt (λ x. f (g x)) (record n { init = init; test = test; update = update })
unfolding node_phrase stmt for_stmt for_init var_decl_or_expr optional_value
for_by g f n = by_three (λ i t u. word (codes "for") > mark (codes "(") > i > mark (codes ";") > t > mark (codes ";") > u > mark (codes ")") > stmt_at (λ x. f (g x)) n.body)
    (elim [ None ↦ refl | Some (inits.VarDecl i) ↦ refl | Some (inits.Expr i) ↦ refl ]) (elim [ None ↦ refl | Some t ↦ refl ]) (elim [ None ↦ refl | Some t ↦ refl ])

-- the head of a `for` that declares by `using`
abbrev using_head : Bool → Phrase → Phrase
using_head is_await declarators = after_await is_await (word (codes "using") > same_line > declarators)

for_in_by : {X Y : Type 0} (g : X → Y) (f : Y → Role → Phrase) (n : ForInStmt X) (left : ForHead X) → node_phrase f (map-AnyNode X Y g (nodes.Stmt (stmts.ForIn (record n { left = left })))) Statement ≡ for_in_stmt (λ x. f (g x)) (record n { left = left })
unfolding node_phrase expr_part stmt for_in_stmt for_head using_decl var_declarator initializer
for_in_by g f n (heads.VarDecl h) = refl
for_in_by {X} {Y} g f n (heads.UsingDecl h) = ap (λ p. word (codes "for") > mark (codes "(") > using_head h.value.is_await p > word (codes "in") > value_at (λ x. f (g x)) n.right > mark (codes ")") > stmt_at (λ x. f (g x)) n.body)
    (declarators_mapped {X = X} {Y = Y} _ f (λ x. f (g x)) (by_init {X = X} _ (λ span name definite. named _ _ _ (declared_mapped g f definite name)) (λ span name init definite. named _ _ _ (declared_mapped g f definite name))) h.value.decls.items)
for_in_by g f n (heads.Pat h) = refl

for_of_by : {X Y : Type 0} (g : X → Y) (f : Y → Role → Phrase) (n : ForOfStmt X) (left : ForHead X) → node_phrase f (map-AnyNode X Y g (nodes.Stmt (stmts.ForOf (record n { left = left })))) Statement ≡ for_of_stmt (λ x. f (g x)) (record n { left = left })
unfolding node_phrase expr_part stmt for_of_stmt for_head using_decl var_declarator initializer
for_of_by g f n (heads.VarDecl h) = refl
for_of_by {X} {Y} g f n (heads.UsingDecl h) = ap (λ p. word (codes "for") > word_if n.is_await (word (codes "await")) > mark (codes "(") > using_head h.value.is_await p > word (codes "of") > value_at (λ x. f (g x)) n.right > mark (codes ")") > stmt_at (λ x. f (g x)) n.body)
    (declarators_mapped {X = X} {Y = Y} _ f (λ x. f (g x)) (by_init {X = X} _ (λ span name definite. named _ _ _ (declared_mapped g f definite name)) (λ span name init definite. named _ _ _ (declared_mapped g f definite name))) h.value.decls.items)
for_of_by g f n (heads.Pat h) = refl

pub stmt_mapped : {X Y : Type 0} (g : X → Y) (f : Y → Role → Phrase) (n : Stmt X) → node_phrase f (map-AnyNode X Y g (nodes.Stmt n)) Statement ≡ stmt (λ x. f (g x)) n
unfolding node_phrase stmt stmt_part empty_stmt expr_stmt debugger_stmt with_stmt labeled_stmt break_stmt continue_stmt throw_stmt while_stmt do_while_stmt
stmt_mapped g f (stmts.Return n) = return_by g f n n.arg
stmt_mapped g f (stmts.If n) = if_by g f n n.alt
stmt_mapped g f (stmts.Switch n) = switch_mapped g f n
stmt_mapped g f (stmts.Try n) = try_by g f n n.handler n.finalizer
stmt_mapped g f (stmts.For n) = for_by g f n n.init n.test n.update
stmt_mapped g f (stmts.ForIn n) = for_in_by g f n n.left
stmt_mapped g f (stmts.ForOf n) = for_of_by g f n n.left
stmt_mapped g f (stmts.Decl n) = decl_mapped g f n
stmt_mapped g f n = refl
