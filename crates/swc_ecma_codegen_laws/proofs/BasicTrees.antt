-- What is written of a tree of names and operators takes no memory.
use Rattle.std.proofs.Common.{◌≡◌, ℕ, Bool, true, false, not, cond, ◌&&◌, List, [], ◌∷◌, map, codes, is_some, string_bytes, refl, sym, ap, ◌∙◌, subst, inl, inr, Option, Some, None}
use Rattle.std.specs.declared.string.String.{String}
use Rattle.std.proofs.lemmas.Bool.{and_parts, cases_Bool, not-true, true≢false}
use denote.Hole.Holds.{Such}
use Rattle.swc_ecma_codegen_common.specs.declared.positions.Span.{Span}
use Rattle.swc_ecma_codegen_common.specs.declared.operators.UnaryOp.{UnaryOp}
use Rattle.swc_ecma_codegen_common.specs.declared.operators.BinaryOp.{BinaryOp}
use Rattle.swc_ecma_codegen_common.specs.declared.operators.UpdateOp.{UpdateOp}
use Rattle.swc_ecma_codegen_common.specs.Operators.{unary_text, binary_text, update_text}
use Rattle.swc_ecma_codegen_tree.specs.declared.links.AnyNode.{AnyNode, AnyNode-F, ind-AnyNode, map-AnyNode, roll-AnyNode}
use Rattle.swc_ecma_codegen_tree.specs.declared.links.AnyNode.TheOpen as nodes
use Rattle.swc_ecma_codegen_tree.specs.declared.links.AnyNode.TheBlock.{the_family, member-AnyNode}
use Rattle.swc_ecma_codegen_tree.specs.declared.links.AnyNode.TheFolds.{claims, fold-roll-AnyNode}
use Rattle.swc_ecma_codegen_tree.specs.Links.{ExprBox}
use Rattle.swc_ecma_codegen_tree.specs.declared.idents.Ident.{Ident}
use Rattle.swc_ecma_codegen_tree.specs.declared.idents.IdentName.{IdentName}
use Rattle.swc_ecma_codegen_tree.specs.declared.exprs.ThisExpr as this_exprs
use Rattle.swc_ecma_codegen_tree.specs.declared.exprs.UnaryExpr.{UnaryExpr}
use Rattle.swc_ecma_codegen_tree.specs.declared.exprs.UpdateExpr.{UpdateExpr}
use Rattle.swc_ecma_codegen_tree.specs.declared.exprs.BinExpr.{BinExpr}
use Rattle.swc_ecma_codegen_tree.specs.declared.exprs.MemberExpr.{MemberExpr}
use Rattle.swc_ecma_codegen_tree.specs.declared.exprs.MemberProp.{MemberProp}
use Rattle.swc_ecma_codegen_tree.specs.declared.exprs.MemberProp.TheVariants as member_props
use Rattle.swc_ecma_codegen_tree.specs.declared.exprs.ComputedPropName.{ComputedPropName}
use Rattle.swc_ecma_codegen_tree.specs.declared.exprs.CondExpr.{CondExpr}
use Rattle.swc_ecma_codegen_tree.specs.declared.exprs.SeqExpr.{SeqExpr}
use Rattle.swc_ecma_codegen_tree.specs.declared.exprs.ParenExpr.{ParenExpr}
use Rattle.swc_ecma_codegen_tree.specs.declared.exprs.Expr.{Expr}
use Rattle.swc_ecma_codegen_tree.specs.declared.exprs.Expr.TheVariants as exprs
use Rattle.swc_ecma_codegen_tree.specs.declared.stmts.EmptyStmt.{EmptyStmt}
use Rattle.swc_ecma_codegen_tree.specs.declared.stmts.ExprStmt.{ExprStmt}
use Rattle.swc_ecma_codegen_tree.specs.declared.stmts.Stmt.{Stmt}
use Rattle.swc_ecma_codegen_tree.specs.declared.stmts.Stmt.TheVariants as stmts
use Rattle.swc_ecma_codegen_tree.specs.declared.programs.Script.{Script}
use Rattle.swc_ecma_codegen_tree.specs.declared.programs.Program.TheVariants as program_variants
use Rattle.swc_ecma_codegen_spans.specs.Spans.{expr_span, stmt_span}
use Rattle.swc_ecma_codegen_settings.specs.Starts as starts
use Rattle.swc_ecma_codegen_tokens.specs.Run.{Env, Part, at_maps, is_bounded}
use Rattle.swc_ecma_codegen_tokens.specs.Words.{keyword, operator, word_operator, punct, formatting_line, commit_pending_semi, trailing_comments}
use Rattle.swc_ecma_codegen_tokens.proofs.Reading.Printed.{writes_commit, writes_formatting_line, writes_formatting_space, writes_position, writes_position_before}
use Rattle.swc_ecma_codegen_tokens.proofs.Commenting.CommentPrints.{writes_leading, writes_trailing}
use Rattle.swc_ecma_codegen_emit.specs.declared.nodes.Context.{Context}
use Rattle.swc_ecma_codegen_emit.specs.declared.nodes.Context.TheVariants.{Plain, LeftOperand}
use Rattle.swc_ecma_codegen_emit.specs.Answers.{Answers, any_answers, place_of}
use Rattle.swc_ecma_codegen_emit.specs.Operands.{is_word_op, operand_space}
use Rattle.swc_ecma_codegen_emit.specs.Exprs as words
use Rattle.swc_ecma_codegen_emit.specs.AnyExpr as wholes
use Rattle.swc_ecma_codegen_emit.specs.Branches.{is_block}
use Rattle.swc_ecma_codegen_emit.specs.Lists.{comma, listed, in_order}
use Rattle.swc_ecma_codegen_emit.specs.Stmts as statements
use Rattle.swc_ecma_codegen_emit.specs.Programs as programs
use Rattle.swc_ecma_codegen_emit.specs.Places.{Place, Whole, by_itself, placed, context_of, in_context}
use Rattle.swc_ecma_codegen_emit.specs.Roots.{Root, OfExpr, OfStmt, OfItem, OfModule, OfScript, OfProgram, OfLink, root_items}
use Rattle.swc_ecma_codegen_emit.specs.Tree.{node_items, any_items}
use Rattle.swc_ecma_codegen_emit.proofs.Asked.{kept_same, committed_same}
use Rattle.swc_ecma_codegen_emit.proofs.ExprParts.{writes_blank, writes_comments_before, writes_opened, writes_space_if}
use Rattle.swc_ecma_codegen_emit.proofs.MappedNodes.{items_of}
use Rattle.swc_ecma_codegen_laws.specs.Basic.{is_bare, basic_prop, all_basic, basic_expr, basic_stmt, basic_node, any_basic, basic_stmts, is_basic, TakesNoMemory}
use Rattle.swc_ecma_codegen_laws.proofs.NoMemory.{Quiet, then, inside, quiet_allow_break, quiet_itself, quiet_same, quiet_made, quiet_if, quiet_nothing, quiet_keyword, quiet_operator, quiet_word_operator, quiet_punct, quiet_semi, quiet_name, takes_none, itself_takes_none}

-- What is known of whatever links hold: what is written of it takes no memory where it is basic.
record Linked (X : Type 0) : Type 0 where
  env : Env
  no_ascii : env.config.ascii_only ≡ false
  asks : X → Answers
  items : X → Place → Part
  basic : X → Bool
  law : (x : X) (place : Place) → basic x ≡ true → Quiet env (items x place)

never : {A : Type 0} → false ≡ true → A
never h = absurd (true≢false (sym h))

-- ---- expressions

quiet_this : (env : Env) (n : this_exprs.ThisExpr) → Quiet env (words.this n)
unfolding words.this
quiet_this env n = then (quiet_made (writes_leading env n.span.lo)) (quiet_keyword env (Some n.span) (codes "this"))

quiet_ident : {X : Type 0} (l : Linked X) (n : Ident) → is_bare (string_bytes n.sym) ≡ true → Quiet l.env (words.ident n)
unfolding words.ident
quiet_ident l n h = quiet_name l.env n.span (string_bytes n.sym) n.optional l.no_ascii (not-true _ h)

quiet_ident_name : {X : Type 0} (l : Linked X) (n : IdentName) → is_bare (string_bytes n.sym) ≡ true → Quiet l.env (words.ident_name n)
unfolding words.ident_name
quiet_ident_name l n h = quiet_name l.env n.span (string_bytes n.sym) false l.no_ascii (not-true _ h)

quiet_unary_op : (env : Env) (op : UnaryOp) → Quiet env (words.unary_op op)
unfolding words.unary_op
quiet_unary_op env op = quiet_if env (starts.is_word_op op) (keyword None (unary_text op)) (punct (unary_text op)) (quiet_keyword env None (unary_text op)) (quiet_punct env (unary_text op))

quiet_unary_gap : (env : Env) (op : UnaryOp) (arg : Answers) → Quiet env (words.unary_gap op arg)
unfolding words.unary_gap
quiet_unary_gap env op arg = quiet_if env (starts.is_word_op op) (words.blank arg.starts) (words.space_if (operand_space op arg.kind)) (quiet_made (writes_blank env arg.starts)) (quiet_made (writes_space_if env (operand_space op arg.kind)))

quiet_unary : {X : Type 0} (l : Linked X) (n : UnaryExpr X) → l.basic n.arg.node.value ≡ true → Quiet l.env (words.unary l.asks l.items n)
unfolding words.unary
quiet_unary l n h = then (quiet_made (writes_opened l.env n.span)) (then (quiet_unary_op l.env n.op) (then (quiet_unary_gap l.env n.op (l.asks n.arg.node.value)) (l.law n.arg.node.value (Whole Plain) h)))

update_case : (env : Env) (prefix : Bool) (op : UpdateOp) (p : Part) → Quiet env p → Quiet env (λ rest. cond prefix (operator (update_text op) (p rest)) (p (operator (update_text op) rest)))
update_case env true op p h = then (quiet_operator env (update_text op)) h
update_case env false op p h = then h (quiet_operator env (update_text op))

quiet_update : {X : Type 0} (l : Linked X) (n : UpdateExpr X) → l.basic n.arg.node.value ≡ true → Quiet l.env (words.update l.items n)
unfolding words.update words.update_parts
quiet_update l n h = then (quiet_made (writes_opened l.env n.span)) (update_case l.env n.prefix n.op (l.items n.arg.node.value (Whole Plain)) (l.law n.arg.node.value (Whole Plain) h))

quiet_binary_op : (env : Env) (op : BinaryOp) → Quiet env (words.binary_op op)
unfolding words.binary_op
quiet_binary_op env op = quiet_if env (is_word_op op) (word_operator (binary_text op)) (operator (binary_text op)) (quiet_word_operator env (binary_text op)) (quiet_operator env (binary_text op))

quiet_bin_opened : (env : Env) (context : Context) (span : Span) → Quiet env (words.bin_opened context span)
unfolding words.bin_opened
quiet_bin_opened env LeftOperand span = quiet_nothing env
quiet_bin_opened env context span = quiet_made (writes_opened env span)

quiet_bin : {X : Type 0} (l : Linked X) (n : BinExpr X) (context : Context) → (l.basic n.left.node.value && l.basic n.right.node.value) ≡ true → Quiet l.env (words.bin l.asks l.items n context)
unfolding words.bin words.bin_trailing words.bin_operator
quiet_bin l n context h =
    let both = and_parts (l.basic n.left.node.value) (l.basic n.right.node.value) h in
    then (quiet_bin_opened l.env context n.span)
    (then (l.law n.left.node.value (Whole LeftOperand) both.0)
    (then (quiet_made (writes_blank l.env (words.before_op n.op (l.asks n.left.node.value))))
    (then (quiet_binary_op l.env n.op)
    (then (quiet_allow_break l.env)
    (then (quiet_made (writes_blank l.env (words.after_op n.op (l.asks n.right.node.value)))) (l.law n.right.node.value (Whole Plain) both.1))))))

quiet_computed : {X : Type 0} (l : Linked X) (n : ComputedPropName X) → l.basic n.expr.node.value ≡ true → Quiet l.env (words.computed_prop_name l.items n)
unfolding words.computed_prop_name
quiet_computed l n h =
    then (quiet_made (writes_position l.env n.span.lo))
    (then (quiet_punct l.env (codes "["))
    (then (l.law n.expr.node.value (Whole Plain) h) (then (quiet_punct l.env (codes "]")) (quiet_made (writes_position l.env n.span.hi)))))

quiet_prop : {X : Type 0} (l : Linked X) (n : MemberProp X) → basic_prop l.basic n ≡ true → Quiet l.env (words.member_prop l.items n)
unfolding words.member_prop basic_prop
quiet_prop l (member_props.Ident n) h = then (quiet_made (writes_comments_before l.env n.span.lo)) (then (quiet_punct l.env (codes ".")) (quiet_ident_name l n h))
quiet_prop l (member_props.PrivateName n) h = never h
quiet_prop l (member_props.Computed n) h = quiet_computed l n h

quiet_member : {X : Type 0} (l : Linked X) (n : MemberExpr X) → (l.basic n.obj.node.value && basic_prop l.basic n.prop) ≡ true → Quiet l.env (words.member l.items n)
unfolding words.member
quiet_member l n h =
    let both = and_parts (l.basic n.obj.node.value) (basic_prop l.basic n.prop) h in
    then (quiet_made (writes_opened l.env n.span))
    (then (l.law n.obj.node.value (Whole (words.object_place n.prop)) both.0) (then (quiet_prop l n.prop both.1) (quiet_made (writes_position l.env n.span.hi))))

quiet_spaced : (env : Env) (t : List ℕ) → Quiet env (words.spaced_punct t)
unfolding words.spaced_punct
quiet_spaced env t = then (quiet_made (writes_formatting_space env)) (then (quiet_punct env t) (quiet_made (writes_formatting_space env)))

quiet_choice : {X : Type 0} (l : Linked X) (n : CondExpr X) → (l.basic n.test.node.value && l.basic n.cons.node.value && l.basic n.alt.node.value) ≡ true → Quiet l.env (words.choice l.items n)
unfolding words.choice
quiet_choice l n h =
    let both = and_parts (l.basic n.test.node.value && l.basic n.cons.node.value) (l.basic n.alt.node.value) h in
    let first = and_parts (l.basic n.test.node.value) (l.basic n.cons.node.value) both.0 in
    then (quiet_made (writes_opened l.env n.span))
    (then (l.law n.test.node.value (Whole Plain) first.0)
    (then (quiet_spaced l.env (codes "?"))
    (then (l.law n.cons.node.value (Whole Plain) first.1) (then (quiet_spaced l.env (codes ":")) (l.law n.alt.node.value (Whole Plain) both.1)))))

quiet_comma : (env : Env) (first : Bool) → Quiet env (comma first)
unfolding comma
quiet_comma env true = quiet_nothing env
quiet_comma env false = then (quiet_punct env (codes ",")) (quiet_made (writes_formatting_space env))

quiet_listed : {X : Type 0} (l : Linked X) (first : Bool) (ns : List (ExprBox X)) → all_basic l.basic ns ≡ true → Quiet l.env (listed (words.held l.items) first ns)
unfolding listed all_basic
quiet_listed l first [] h = quiet_nothing l.env
quiet_listed l first (n ∷ ns) h =
    let both = and_parts (l.basic n.node.value) (all_basic l.basic ns) h in
    then (quiet_comma l.env first) (then (l.law n.node.value (Whole Plain) both.0) (quiet_listed l false ns both.1))

quiet_seq : {X : Type 0} (l : Linked X) (n : SeqExpr X) → all_basic l.basic n.exprs.items ≡ true → Quiet l.env (words.seq l.items n)
unfolding words.seq
quiet_seq l n h = then (quiet_made (writes_opened l.env n.span)) (quiet_listed l true n.exprs.items h)

quiet_paren : {X : Type 0} (l : Linked X) (n : ParenExpr X) → l.basic n.expr.node.value ≡ true → Quiet l.env (words.paren l.items n)
unfolding words.paren
quiet_paren l n h =
    then (quiet_made (writes_commit l.env))
    (then (quiet_made (writes_opened l.env n.span))
    (then (quiet_punct l.env (codes "("))
    (then (l.law n.expr.node.value (Whole Plain) h) (then (quiet_made (writes_position_before l.env n.span.hi)) (quiet_punct l.env (codes ")"))))))

quiet_expr_parts : {X : Type 0} (l : Linked X) (n : Expr X) (context : Context) → basic_expr l.basic n ≡ true → Quiet l.env (wholes.expr_parts l.asks l.items n context)
unfolding wholes.expr_parts basic_expr
quiet_expr_parts l (exprs.This n) context h = quiet_this l.env n
quiet_expr_parts l (exprs.Unary n) context h = quiet_unary l n h
quiet_expr_parts l (exprs.Update n) context h = quiet_update l n h
quiet_expr_parts l (exprs.Bin n) context h = quiet_bin l n context h
quiet_expr_parts l (exprs.Member n) context h = quiet_member l n h
quiet_expr_parts l (exprs.Cond n) context h = quiet_choice l n h
quiet_expr_parts l (exprs.Seq n) context h = quiet_seq l n h
quiet_expr_parts l (exprs.Ident n) context h = quiet_ident l n h
quiet_expr_parts l (exprs.Paren n) context h = quiet_paren l n h
quiet_expr_parts l n context h = never h

-- the comments after it
quiet_closed : (env : Env) (left : Bool) (span : Span) → Quiet env (wholes.expr_closed left span)
unfolding wholes.expr_closed
quiet_closed env left span = quiet_if env left (λ rest. rest) (trailing_comments true span.hi) (quiet_nothing env) (quiet_made (writes_trailing env true span.hi))

quiet_expr : {X : Type 0} (l : Linked X) (n : Expr X) (context : Context) → basic_expr l.basic n ≡ true → Quiet l.env (wholes.expr l.asks l.items n context)
unfolding wholes.expr
quiet_expr l n context h = then (quiet_expr_parts l n context h) (quiet_closed l.env (wholes.leaves_comments n context) (expr_span (place_of l.asks) n))

quiet_wrapped : {X : Type 0} (l : Linked X) (n : Expr X) → basic_expr l.basic n ≡ true → Quiet l.env (wholes.wrapped l.asks l.items n)
unfolding wholes.wrapped
quiet_wrapped l n h = then (quiet_punct l.env (codes "(")) (then (quiet_expr l n Plain h) (quiet_punct l.env (codes ")")))

quiet_placed : {X : Type 0} (l : Linked X) (n : Expr X) (context : Context) → basic_expr l.basic n ≡ true → Quiet l.env (wholes.placed_expr l.asks l.items n context)
unfolding wholes.placed_expr
quiet_placed l n context h = quiet_if l.env (wholes.is_wrapped n context) (wholes.wrapped l.asks l.items n) (wholes.expr l.asks l.items n context) (quiet_wrapped l n h) (quiet_expr l n context h)

-- ---- statements

quiet_empty : (env : Env) (n : EmptyStmt) → Quiet env (statements.empty_stmt n)
unfolding statements.empty_stmt
quiet_empty env n = then (quiet_made (writes_leading env n.span.lo)) (quiet_punct env (codes ";"))

quiet_expr_stmt : {X : Type 0} (l : Linked X) (n : ExprStmt X) → l.basic n.expr.node.value ≡ true → Quiet l.env (statements.expr_stmt l.items n)
unfolding statements.expr_stmt
quiet_expr_stmt l n h = then (quiet_made (writes_leading l.env n.span.lo)) (then (l.law n.expr.node.value (Whole Plain) h) (quiet_semi l.env))

quiet_stmt_parts : {X : Type 0} (l : Linked X) (n : Stmt X) → basic_stmt l.basic n ≡ true → Quiet l.env (statements.stmt_parts l.asks l.items n)
unfolding statements.stmt_parts basic_stmt
quiet_stmt_parts l (stmts.Empty n) h = quiet_empty l.env n
quiet_stmt_parts l (stmts.Expr n) h = quiet_expr_stmt l n h
quiet_stmt_parts l n h = never h

-- the comments after it, and the end of its line
quiet_stmt_closed : (env : Env) (block : Bool) (span : Span) → Quiet env (statements.stmt_closed block span)
unfolding statements.stmt_closed
quiet_stmt_closed env block span =
    quiet_if env block (λ rest. rest) (λ rest. trailing_comments true span.hi (formatting_line rest)) (quiet_nothing env)
    (then (quiet_made (writes_trailing env true span.hi)) (quiet_made (writes_formatting_line env)))

quiet_stmt : {X : Type 0} (l : Linked X) (n : Stmt X) → basic_stmt l.basic n ≡ true → Quiet l.env (statements.stmt l.asks l.items n)
unfolding statements.stmt
quiet_stmt l n h = then (quiet_stmt_parts l n h) (quiet_stmt_closed l.env (is_block n) (stmt_span (place_of l.asks) n))

-- ---- a word sees what links hold through f alone

all_mapped : {A B : Type 0} (g : ExprBox A → ExprBox B) (e : B → Bool) (d : A → Bool) → ((x : ExprBox A) → e (g x).node.value ≡ d x.node.value) → (xs : List (ExprBox A)) → all_basic e (map g xs) ≡ all_basic d xs
unfolding all_basic
all_mapped g e d same [] = refl
all_mapped g e d same (x ∷ xs) = ap (λ b. b && all_basic e (map g xs)) (same x) ∙ ap (λ b. d x.node.value && b) (all_mapped g e d same xs)

prop_mapped : {X Y : Type 0} (g : X → Y) (f : Y → Bool) (n : MemberExpr X) (prop : MemberProp X) → basic_node f (map-AnyNode X Y g (nodes.Expr (exprs.Member (record n { prop = prop })))) ≡ (f (g n.obj.node.value) && basic_prop (λ x. f (g x)) prop)
unfolding basic_node basic_expr basic_prop
prop_mapped g f n (member_props.Ident p) = refl
prop_mapped g f n (member_props.PrivateName p) = refl
prop_mapped g f n (member_props.Computed p) = refl

expr_mapped : {X Y : Type 0} (g : X → Y) (f : Y → Bool) (n : Expr X) → basic_node f (map-AnyNode X Y g (nodes.Expr n)) ≡ basic_expr (λ x. f (g x)) n
unfolding basic_node basic_expr
expr_mapped g f (exprs.Seq n) = all_mapped _ f (λ x. f (g x)) (λ x. refl) n.exprs.items
expr_mapped g f (exprs.Member n) = prop_mapped g f n n.prop
expr_mapped g f n = refl

stmt_mapped : {X Y : Type 0} (g : X → Y) (f : Y → Bool) (n : Stmt X) → basic_node f (map-AnyNode X Y g (nodes.Stmt n)) ≡ basic_stmt (λ x. f (g x)) n
unfolding basic_node basic_stmt
stmt_mapped g f (stmts.Empty n) = refl
stmt_mapped g f (stmts.Expr n) = refl
stmt_mapped g f n = refl

node_mapped : {X Y : Type 0} (g : X → Y) (f : Y → Bool) (n : AnyNode-F X) → basic_node f (map-AnyNode X Y g n) ≡ basic_node (λ x. f (g x)) n
unfolding basic_node
node_mapped g f (nodes.Expr n) = expr_mapped g f n
node_mapped g f (nodes.Stmt n) = stmt_mapped g f n
node_mapped g f n = refl

basic_of_layer : (n : AnyNode-F AnyNode) → any_basic (roll-AnyNode n) ≡ basic_node any_basic n
unfolding any_basic
basic_of_layer n = fold-roll-AnyNode Bool (basic_node (λ known. known)) n ∙ node_mapped any_basic (λ known. known) n

-- what links hold may come with more
basic_of : {X : Type 0} (g : X → AnyNode) (n : AnyNode-F X) → any_basic (roll-AnyNode (map-AnyNode X AnyNode g n)) ≡ basic_node (λ x. any_basic (g x)) n
basic_of {X} g n = basic_of_layer (map-AnyNode X AnyNode g n) ∙ node_mapped g any_basic n

-- ---- whole trees

quiet_node : {X : Type 0} (l : Linked X) (n : AnyNode-F X) (place : Place) → basic_node l.basic n ≡ true → Quiet l.env (node_items l.asks l.items n place)
unfolding node_items basic_node
quiet_node l (nodes.Expr n) place h = quiet_placed l n (context_of place) h
quiet_node l (nodes.Stmt n) place h = quiet_stmt l n h
quiet_node l n place h = never h

abbrev Law : Env → AnyNode → Type 0
Law env n = (place : Place) → any_basic n ≡ true → Quiet env (any_items n place)

-- nodes that a link of the tree holds, with the law of each
abbrev children : (env : Env) → env.config.ascii_only ≡ false → Linked (Such the_family (claims (Law env)) member-AnyNode)
children env e = record { env = env; no_ascii = e; asks = λ y. any_answers y.0; items = λ y. any_items y.0; basic = λ y. any_basic y.0; law = λ y. y.1 }

quiet_tree : (env : Env) → env.config.ascii_only ≡ false → (n : AnyNode) → Law env n
quiet_tree env e = ind-AnyNode (Law env) (λ x y q. subst (λ z. Law env (roll-AnyNode z)) q (λ place h.
    let here = quiet_node (children env e) y place (sym (basic_of (λ z. z.0) y) ∙ h) in
    subst (λ p. Quiet env p) (sym (items_of (λ z. z.0) y place)) here))

-- the nodes of a whole tree
abbrev known : (env : Env) → env.config.ascii_only ≡ false → Linked AnyNode
known env e = record { env = env; no_ascii = e; asks = any_answers; items = any_items; basic = any_basic; law = quiet_tree env e }

-- ---- programs

quiet_stmts : (l : Linked AnyNode) → l.basic ≡ any_basic → (ns : List (Stmt AnyNode)) → basic_stmts ns ≡ true → Quiet l.env (in_order (statements.stmt l.asks l.items) ns)
unfolding in_order basic_stmts
quiet_stmts l same [] h = quiet_nothing l.env
quiet_stmts l same (n ∷ ns) h =
    let both = and_parts (basic_stmt any_basic n) (basic_stmts ns) h in
    then (quiet_stmt l n (ap (λ f. basic_stmt f n) same ∙ both.0)) (quiet_stmts l same ns both.1)

quiet_last_semi : (env : Env) → Quiet env programs.last_semi
quiet_last_semi env = elim (cases_Bool env.config.omit_last_semi) [
  | inl left ↦ quiet_same env programs.last_semi (λ rest. rest) (λ maps rest. kept_same rest (at_maps maps env) left) (quiet_nothing env)
  | inr wanted ↦ quiet_same env programs.last_semi commit_pending_semi (λ maps rest. committed_same rest (at_maps maps env) wanted) (quiet_made (writes_commit env))
]

quiet_start_if_empty : {A : Type 0} (env : Env) (xs : List A) (span : Span) → Quiet env (programs.start_if_empty xs span)
unfolding programs.start_if_empty
quiet_start_if_empty env [] span = quiet_made (writes_position env span.lo)
quiet_start_if_empty env (x ∷ xs) span = quiet_nothing env

quiet_start : {A Z : Type 0} (env : Env) (shebang : Option (String Z)) (xs : List A) (span : Span) → is_some shebang ≡ false → Quiet env (programs.program_start shebang xs span)
unfolding programs.program_start
quiet_start env None xs span h = then (quiet_made (writes_leading env span.lo)) (quiet_start_if_empty env xs span)
quiet_start env (Some text) xs span h = absurd (true≢false h)

quiet_script : (env : Env) → env.config.ascii_only ≡ false → (n : Script AnyNode) → (not (is_some n.shebang) && basic_stmts n.body.items) ≡ true → Quiet env (programs.script any_answers any_items n (Whole Plain))
unfolding programs.script programs.script_parts
quiet_script env e n h =
    let both = and_parts (not (is_some n.shebang)) (basic_stmts n.body.items) h in
    then (quiet_start env n.shebang n.body.items n.span (not-true _ both.0))
    (then (quiet_stmts (known env e) refl n.body.items both.1)
    (then (quiet_made (writes_trailing env true n.span.hi)) (quiet_last_semi env)))

quiet_root : (env : Env) → env.config.ascii_only ≡ false → is_bounded env ≡ false → (n : Root) → is_basic n ≡ true → Quiet env (root_items n)
unfolding programs.program
quiet_root env e k (OfExpr n) h = quiet_itself env (in_context (wholes.expr any_answers any_items n)) k (quiet_expr (known (inside env) e) n Plain h)
quiet_root env e k (OfStmt n) h = quiet_itself env (λ place. statements.stmt any_answers any_items n) k (quiet_stmt (known (inside env) e) n h)
quiet_root env e k (OfItem n) h = never h
quiet_root env e k (OfModule n) h = never h
quiet_root env e k (OfScript n) h = quiet_itself env (programs.script any_answers any_items n) k (quiet_script (inside env) e n h)
quiet_root env e k (OfProgram (program_variants.Script n)) h = quiet_itself env (programs.program any_answers any_items (program_variants.Script n)) k (quiet_script (inside env) e n h)
quiet_root env e k (OfProgram (program_variants.Module n)) h = never h
quiet_root env e k (OfLink n role) h = quiet_itself env (λ place. any_items n (placed role place)) k (quiet_tree (inside env) e n (placed role (Whole Plain)) h)

pub root_takes_none : (n : Root) → is_basic n ≡ true → TakesNoMemory (root_items n)
root_takes_none n h = takes_none (root_items n) (λ env e k. quiet_root env e k n h)

-- ---- nodes by themselves

pub this_takes_none : (n : this_exprs.ThisExpr) → TakesNoMemory (by_itself (λ place. words.this n))
this_takes_none n = itself_takes_none (λ place. words.this n) (λ env e. quiet_this env n)

pub ident_takes_none : (n : Ident) → is_bare (string_bytes n.sym) ≡ true → TakesNoMemory (by_itself (λ place. words.ident n))
ident_takes_none n h = itself_takes_none (λ place. words.ident n) (λ env e. quiet_ident (known env e) n h)

pub ident_name_takes_none : (n : IdentName) → is_bare (string_bytes n.sym) ≡ true → TakesNoMemory (by_itself (λ place. words.ident_name n))
ident_name_takes_none n h = itself_takes_none (λ place. words.ident_name n) (λ env e. quiet_ident_name (known env e) n h)

pub unary_takes_none : (n : UnaryExpr AnyNode) → is_basic (OfExpr (exprs.Unary n)) ≡ true → TakesNoMemory (by_itself (λ place. words.unary any_answers any_items n))
unfolding basic_expr
unary_takes_none n h = itself_takes_none (λ place. words.unary any_answers any_items n) (λ env e. quiet_unary (known env e) n h)

pub update_takes_none : (n : UpdateExpr AnyNode) → is_basic (OfExpr (exprs.Update n)) ≡ true → TakesNoMemory (by_itself (λ place. words.update any_items n))
unfolding basic_expr
update_takes_none n h = itself_takes_none (λ place. words.update any_items n) (λ env e. quiet_update (known env e) n h)

pub bin_takes_none : (n : BinExpr AnyNode) → is_basic (OfExpr (exprs.Bin n)) ≡ true → TakesNoMemory (by_itself (in_context (words.bin any_answers any_items n)))
unfolding basic_expr
bin_takes_none n h = itself_takes_none (in_context (words.bin any_answers any_items n)) (λ env e. quiet_bin (known env e) n Plain h)

pub computed_takes_none : (n : ComputedPropName AnyNode) → any_basic n.expr.node.value ≡ true → TakesNoMemory (by_itself (λ place. words.computed_prop_name any_items n))
computed_takes_none n h = itself_takes_none (λ place. words.computed_prop_name any_items n) (λ env e. quiet_computed (known env e) n h)

pub member_takes_none : (n : MemberExpr AnyNode) → is_basic (OfExpr (exprs.Member n)) ≡ true → TakesNoMemory (by_itself (in_context (words.member_at any_items n)))
unfolding basic_expr words.member_at
member_takes_none n h = itself_takes_none (in_context (words.member_at any_items n)) (λ env e. quiet_member (known env e) n h)

pub cond_takes_none : (n : CondExpr AnyNode) → is_basic (OfExpr (exprs.Cond n)) ≡ true → TakesNoMemory (by_itself (λ place. words.choice any_items n))
unfolding basic_expr
cond_takes_none n h = itself_takes_none (λ place. words.choice any_items n) (λ env e. quiet_choice (known env e) n h)

pub seq_takes_none : (n : SeqExpr AnyNode) → is_basic (OfExpr (exprs.Seq n)) ≡ true → TakesNoMemory (by_itself (λ place. words.seq any_items n))
unfolding basic_expr
seq_takes_none n h = itself_takes_none (λ place. words.seq any_items n) (λ env e. quiet_seq (known env e) n h)

pub paren_takes_none : (n : ParenExpr AnyNode) → is_basic (OfExpr (exprs.Paren n)) ≡ true → TakesNoMemory (by_itself (λ place. words.paren any_items n))
unfolding basic_expr
paren_takes_none n h = itself_takes_none (λ place. words.paren any_items n) (λ env e. quiet_paren (known env e) n h)

pub empty_takes_none : (n : EmptyStmt) → TakesNoMemory (by_itself (λ place. statements.empty_stmt n))
empty_takes_none n = itself_takes_none (λ place. statements.empty_stmt n) (λ env e. quiet_empty env n)

pub expr_stmt_takes_none : (n : ExprStmt AnyNode) → is_basic (OfStmt (stmts.Expr n)) ≡ true → TakesNoMemory (by_itself (λ place. statements.expr_stmt any_items n))
unfolding basic_stmt
expr_stmt_takes_none n h = itself_takes_none (λ place. statements.expr_stmt any_items n) (λ env e. quiet_expr_stmt (known env e) n h)
