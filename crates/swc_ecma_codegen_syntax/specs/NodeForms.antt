-- What a whole node is, in a role, and its summary: a fold over the tree.
use Rattle.std.specs.Prelude.{Bool, true, false, string_bytes}
use Rattle.swc_ecma_codegen_tree.specs.declared.links.AnyNode.{AnyNode, AnyNode-F, fold-AnyNode}
use Rattle.swc_ecma_codegen_tree.specs.declared.links.AnyNode.TheOpen as nodes
use Rattle.swc_ecma_codegen_tree.specs.declared.exprs.Expr.{Expr}
use Rattle.swc_ecma_codegen_tree.specs.declared.exprs.Expr.TheVariants as exprs
use Rattle.swc_ecma_codegen_tree.specs.declared.stmts.Stmt.{Stmt}
use Rattle.swc_ecma_codegen_tree.specs.declared.parts.ExprPart.{ExprPart}
use Rattle.swc_ecma_codegen_tree.specs.declared.parts.ExprPart.TheVariants as expr_parts
use Rattle.swc_ecma_codegen_tree.specs.declared.parts.JSXPart.{JSXPart}
use Rattle.swc_ecma_codegen_tree.specs.declared.parts.JSXPart.TheVariants as jsx_parts
use Rattle.swc_ecma_codegen_tree.specs.declared.parts.StmtPart.{StmtPart}
use Rattle.swc_ecma_codegen_tree.specs.declared.parts.StmtPart.TheVariants as stmt_parts
use Rattle.swc_ecma_codegen_grammar.specs.Phrases.{Never}
use Rattle.swc_ecma_codegen_grammar.specs.declared.roles.Role.{Role}
use Rattle.swc_ecma_codegen_grammar.specs.declared.roles.Role.TheVariants.{Expression, Callee, Statement, ChainMember, ChainCall, Pattern, PropertyName, ObjectLiteral, AssignmentTarget, Template, TaggedTemplate, Block, VariableDeclaration, ModuleDeclaration, ExportedHead, ExportedTail, Function, FunctionHead, MethodHead, MethodTail, FieldValue, MethodDecorators, AccessorTail, ClassHead, ClassWord, ClassTail, Member, Element, Child, TagObject}
use Rattle.swc_ecma_codegen_syntax.specs.declared.nonterminals.Nonterminal.{Nonterminal}
use Rattle.swc_ecma_codegen_syntax.specs.declared.nonterminals.Nonterminal.TheVariants as nt
use Rattle.swc_ecma_codegen_syntax.specs.declared.parameters.Parameters.{Parameters}
use Rattle.swc_ecma_codegen_syntax.specs.declared.verdicts.Facts.{Facts}
use Rattle.swc_ecma_codegen_syntax.specs.Summary.{Summary, begins_in, shape_in}
use Rattle.swc_ecma_codegen_syntax.specs.Shapes.{node_shape}
use Rattle.swc_ecma_codegen_syntax.specs.declared.verdicts.Verdict.{Verdict}
use Rattle.swc_ecma_codegen_syntax.specs.Nonterminals.{is_call}
use Rattle.swc_ecma_codegen_syntax.specs.Verdicts.{unasked}
use Rattle.swc_ecma_codegen_syntax.specs.Parameters.{with_in}
use Rattle.swc_ecma_codegen_syntax.specs.Forms.{Form, Fixed, Provided, ByScope, ByCore, judge}
use Rattle.swc_ecma_codegen_syntax.specs.Beginnings.{node_begins}
use Rattle.swc_ecma_codegen_syntax.specs.NameForms.{is_assignable}
use Rattle.swc_ecma_codegen_syntax.specs.MemberForms.{chain_member_form}
use Rattle.swc_ecma_codegen_syntax.specs.CallForms.{chain_call_form}
use Rattle.swc_ecma_codegen_syntax.specs.TemplateForms.{tpl_form}
use Rattle.swc_ecma_codegen_syntax.specs.ObjectForms.{prop_name_form, object_form}
use Rattle.swc_ecma_codegen_syntax.specs.PatForms.{pat_form, pat_nonterminal}
use Rattle.swc_ecma_codegen_syntax.specs.TargetForms.{target_form, target_nonterminal}
use Rattle.swc_ecma_codegen_grammar.specs.FunctionPhrases.{function_head, method_head}
use Rattle.swc_ecma_codegen_syntax.specs.FunctionForms.{rest_of_function, function_form, function_head_nonterminal, decorators_form}
use Rattle.swc_ecma_codegen_syntax.specs.ExprForms.{expr_form, expr_nonterminal}
use Rattle.swc_ecma_codegen_syntax.specs.DeclForms.{var_decl_form, decl_nonterminal}
use Rattle.swc_ecma_codegen_syntax.specs.StmtForms.{stmt_form, stmt_nonterminal, is_empty_node, block_form}
use Rattle.swc_ecma_codegen_syntax.specs.JsxForms.{tag_object_form, element_form, fragment_form}
use Rattle.swc_ecma_codegen_syntax.specs.ModuleForms.{exported_head_form, exported_tail_form, module_decl_form}
use Rattle.swc_ecma_codegen_syntax.specs.ClassForms.{prop_name_nonterminal, accessor_nonterminal, accessor_form, class_word_form, class_tail_form, member_of_class_form, field_expr_form}

abbrev pub missing_form : {X : Type 0} → Form X
missing_form = Provided ByScope false (Fixed Never)

unfoldable pub part_nonterminal : {X : Type 0} → ExprPart X → Role → Nonterminal
part_nonterminal (expr_parts.Pat n) Pattern = pat_nonterminal n
part_nonterminal (expr_parts.ObjectLit n) ObjectLiteral = nt.PrimaryExpression
part_nonterminal (expr_parts.PropName n) PropertyName = prop_name_nonterminal n
part_nonterminal (expr_parts.OptCall n) (ChainCall optional) = nt.OptionalChain
part_nonterminal (expr_parts.AssignTarget n) AssignmentTarget = target_nonterminal n
part_nonterminal (expr_parts.Tpl n) Template = nt.TemplateLiteral
part_nonterminal (expr_parts.Tpl n) TaggedTemplate = nt.TemplateLiteral
part_nonterminal n role = nt.Uncovered

unfoldable pub part_form : {X : Type 0} → Bool → Parameters → ExprPart X → Role → Form X
part_form comma c (expr_parts.Pat n) Pattern = pat_form comma c n
part_form comma c (expr_parts.ObjectLit n) ObjectLiteral = object_form c n
part_form comma c (expr_parts.PropName n) PropertyName = prop_name_form c n
part_form comma c (expr_parts.OptCall n) (ChainCall optional) = chain_call_form c optional n
part_form comma c (expr_parts.AssignTarget n) AssignmentTarget = target_form comma c n
part_form comma c (expr_parts.Tpl n) Template = tpl_form c false n
part_form comma c (expr_parts.Tpl n) TaggedTemplate = tpl_form c true n
part_form comma c n role = missing_form

unfoldable pub stmt_part_nonterminal : {X : Type 0} → StmtPart X → Role → Nonterminal
stmt_part_nonterminal (stmt_parts.BlockStmt n) Block = nt.Block
stmt_part_nonterminal (stmt_parts.VarDecl n) VariableDeclaration = nt.VariableDeclarations
stmt_part_nonterminal (stmt_parts.Decl n) ExportedHead = nt.ExportedHead
stmt_part_nonterminal (stmt_parts.Decl n) ExportedTail = decl_nonterminal n
stmt_part_nonterminal (stmt_parts.ModuleDecl n) ModuleDeclaration = nt.ModuleDeclaration
stmt_part_nonterminal (stmt_parts.Function n) Function = nt.FunctionTail
stmt_part_nonterminal (stmt_parts.Function n) FunctionHead = function_head_nonterminal n.value.is_generator n.value.is_async
stmt_part_nonterminal (stmt_parts.Function n) MethodHead = nt.MethodHead
stmt_part_nonterminal (stmt_parts.Function n) MethodTail = nt.FunctionTail
stmt_part_nonterminal (stmt_parts.Function n) MethodDecorators = nt.DecoratorList
stmt_part_nonterminal (stmt_parts.Function n) AccessorTail = accessor_nonterminal n.value.params.items
stmt_part_nonterminal (stmt_parts.Class n) ClassHead = nt.DecoratorList
stmt_part_nonterminal (stmt_parts.Class n) ClassWord = nt.ClassHead
stmt_part_nonterminal (stmt_parts.Class n) ClassTail = nt.ClassTail
stmt_part_nonterminal (stmt_parts.ClassMember n) Member = nt.ClassElement
stmt_part_nonterminal n role = nt.Uncovered

unfoldable pub stmt_part_form : {X : Type 0} → Parameters → StmtPart X → Role → Form X
stmt_part_form c (stmt_parts.BlockStmt n) Block = block_form c n
stmt_part_form c (stmt_parts.VarDecl n) VariableDeclaration = var_decl_form c n
stmt_part_form c (stmt_parts.Decl n) ExportedHead = exported_head_form c n
stmt_part_form c (stmt_parts.Decl n) ExportedTail = exported_tail_form c n
stmt_part_form c (stmt_parts.ModuleDecl n) ModuleDeclaration = module_decl_form c n.value
stmt_part_form c (stmt_parts.Function n) Function = function_form c n.value
stmt_part_form c (stmt_parts.Function n) FunctionHead = Fixed (function_head n.value)
stmt_part_form c (stmt_parts.Function n) MethodHead = Fixed (method_head n.value)
stmt_part_form c (stmt_parts.Function n) MethodTail = rest_of_function c n.value
stmt_part_form c (stmt_parts.Function n) MethodDecorators = decorators_form ByCore c n.value.decorators.items
stmt_part_form c (stmt_parts.Function n) AccessorTail = accessor_form c n.value
stmt_part_form c (stmt_parts.Class n) ClassHead = decorators_form ByCore c n.value.decorators.items
stmt_part_form c (stmt_parts.Class n) ClassWord = class_word_form n.value
stmt_part_form c (stmt_parts.Class n) ClassTail = class_tail_form c n.value
stmt_part_form c (stmt_parts.ClassMember n) Member = member_of_class_form c n.value
stmt_part_form c n role = missing_form

unfoldable pub jsx_part_nonterminal : {X : Type 0} → JSXPart X → Role → Nonterminal
jsx_part_nonterminal (jsx_parts.JSXElement n) Element = nt.JSXElement
jsx_part_nonterminal (jsx_parts.JSXElement n) Child = nt.JSXElement
jsx_part_nonterminal (jsx_parts.JSXFragment n) Element = nt.JSXElement
jsx_part_nonterminal (jsx_parts.JSXFragment n) Child = nt.JSXElement
jsx_part_nonterminal (jsx_parts.JSXObject n) TagObject = nt.JSXObject
jsx_part_nonterminal n role = nt.Uncovered

unfoldable pub jsx_part_form : {X : Type 0} → Parameters → JSXPart X → Role → Form X
jsx_part_form c (jsx_parts.JSXElement n) Element = element_form c false n.value
jsx_part_form c (jsx_parts.JSXElement n) Child = element_form c true n.value
jsx_part_form c (jsx_parts.JSXFragment n) Element = fragment_form c false n
jsx_part_form c (jsx_parts.JSXFragment n) Child = fragment_form c true n
jsx_part_form c (jsx_parts.JSXObject n) TagObject = tag_object_form c n
jsx_part_form c n role = missing_form

-- The nonterminal whose production derives a node, and the production. `called` chooses between the two
-- that a member has, and says of a pattern whether a comma stands before its closing mark.
unfoldable pub node_nonterminal : {X : Type 0} → Bool → Parameters → AnyNode-F X → Role → Nonterminal
node_nonterminal called c (nodes.Expr n) Expression = expr_nonterminal false called c n
node_nonterminal called c (nodes.Expr n) Callee = expr_nonterminal true called c n
node_nonterminal called c (nodes.Expr n) FieldValue = expr_nonterminal false called c n
node_nonterminal called c (nodes.MemberExpr n) (ChainMember optional) = nt.OptionalChain
node_nonterminal called c (nodes.ExprPart n) role = part_nonterminal n role
node_nonterminal called c (nodes.Stmt n) Statement = stmt_nonterminal n
node_nonterminal called c (nodes.StmtPart n) role = stmt_part_nonterminal n role
node_nonterminal called c (nodes.JSXPart n) role = jsx_part_nonterminal n role
node_nonterminal called c n role = nt.Uncovered

unfoldable pub node_form : {X : Type 0} → Bool → Parameters → AnyNode-F X → Role → Form X
node_form called c (nodes.Expr n) Expression = expr_form false called c n
node_form called c (nodes.Expr n) Callee = expr_form true called c n
node_form called c (nodes.Expr n) FieldValue = field_expr_form (expr_form false called c n) n
node_form called c (nodes.MemberExpr n) (ChainMember optional) = chain_member_form c optional n
node_form called c (nodes.ExprPart n) role = part_form called c n role
node_form called c (nodes.Stmt n) Statement = stmt_form c n
node_form called c (nodes.StmtPart n) role = stmt_part_form c n role
node_form called c (nodes.JSXPart n) role = jsx_part_form c n role
node_form called c n role = missing_form

-- ---- AssignmentTargetType, section 8.6.4

unfoldable pub is_simple_expr : {X : Type 0} → (X → Bool) → Bool → Expr X → Bool
is_simple_expr f strict (exprs.Ident n) = is_assignable strict (string_bytes n.sym)
is_simple_expr f strict (exprs.Member n) = true
is_simple_expr f strict (exprs.SuperProp n) = true
is_simple_expr f strict (exprs.Paren n) = f n.expr.node.value
is_simple_expr f strict n = false

unfoldable pub is_simple_node : {X : Type 0} → (X → Bool) → Bool → AnyNode-F X → Bool
is_simple_node f strict (nodes.Expr n) = is_simple_expr f strict n
is_simple_node f strict n = false

-- a tree's AssignmentTargetType is simple, in strict code or in other
unfoldable pub is_simple : AnyNode → Bool → Bool
is_simple = fold-AnyNode (Bool → Bool) (λ n strict. is_simple_node (λ known. known strict) strict n)

unfoldable pub is_name_expr : {X : Type 0} → Expr X → Bool
is_name_expr (exprs.Ident n) = true
is_name_expr n = false

unfoldable pub is_name_node : {X : Type 0} → AnyNode-F X → Bool
is_name_node (nodes.Expr n) = is_name_expr n
is_name_node n = false

-- ---- the summary of a node, where f gives those of what its links hold

-- a member, or a tag, is a CallExpression
unfoldable pub is_called : {X : Type 0} → (X → Role → Parameters → Summary) → Parameters → Expr X → Bool
is_called f c (exprs.Member n) = is_call (f n.obj.node.value Callee (with_in c)).facts.nonterminal
is_called f c (exprs.TaggedTpl n) = is_call (f n.tag.node.value Callee (with_in c)).facts.nonterminal
is_called f c n = false

unfoldable pub is_called_node : {X : Type 0} → (X → Role → Parameters → Summary) → Parameters → AnyNode-F X → Bool
is_called_node f c (nodes.Expr n) = is_called f c n
is_called_node f c n = false

abbrev pub simple_in : {X : Type 0} → (X → Role → Parameters → Summary) → Parameters → X → Bool
simple_in f c n = (f n Expression (with_in c)).facts.is_simple

unfoldable pub expr_facts : {X : Type 0} → (X → Role → Parameters → Summary) → Bool → Parameters → Expr X → Facts
expr_facts f keeps c n = record {
  nonterminal = expr_nonterminal keeps (is_called f c n) c n;
  is_simple = is_simple_expr (simple_in f c) c.is_strict n;
  is_name = is_name_expr n;
  verdict = judge f unasked (expr_form keeps (is_called f c n) c n);
}

-- what is no expression
abbrev pub other_facts : Nonterminal → Verdict → Facts
other_facts nonterminal verdict = record { nonterminal = nonterminal; is_simple = false; is_name = false; verdict = verdict }

-- what is assigned to
abbrev pub target_facts : Nonterminal → Verdict → Facts
target_facts nonterminal verdict = record { nonterminal = nonterminal; is_simple = true; is_name = false; verdict = verdict }

unfoldable pub part_facts : {X : Type 0} → (X → Role → Parameters → Summary) → Parameters → ExprPart X → Role → Facts
part_facts f c n role = other_facts (part_nonterminal n role) (judge f unasked (part_form false c n role))

unfoldable pub stmt_facts : {X : Type 0} → (X → Role → Parameters → Summary) → Parameters → Stmt X → Facts
stmt_facts f c n = other_facts (stmt_nonterminal n) (judge f unasked (stmt_form c n))

unfoldable pub stmt_part_facts : {X : Type 0} → (X → Role → Parameters → Summary) → Parameters → StmtPart X → Role → Facts
stmt_part_facts f c n role = other_facts (stmt_part_nonterminal n role) (judge f unasked (stmt_part_form c n role))

unfoldable pub jsx_part_facts : {X : Type 0} → (X → Role → Parameters → Summary) → Parameters → JSXPart X → Role → Facts
jsx_part_facts f c n role = other_facts (jsx_part_nonterminal n role) (judge f unasked (jsx_part_form c n role))

abbrev pub no_facts : Facts
no_facts = other_facts nt.Uncovered (record { covered = false; curable = true; parenthesized = true; core = true })

unfoldable pub node_facts : {X : Type 0} → (X → Role → Parameters → Summary) → AnyNode-F X → Role → Parameters → Facts
node_facts f (nodes.Expr n) Expression c = expr_facts f false c n
node_facts f (nodes.Expr n) Callee c = expr_facts f true c n
node_facts f (nodes.Expr n) FieldValue c = expr_facts f false c n
node_facts f (nodes.MemberExpr n) (ChainMember optional) c = other_facts nt.OptionalChain (judge f unasked (chain_member_form c optional n))
node_facts f (nodes.ExprPart n) role c = part_facts f c n role
node_facts f (nodes.Stmt n) Statement c = stmt_facts f c n
node_facts f (nodes.StmtPart n) role c = stmt_part_facts f c n role
node_facts f (nodes.JSXPart n) role c = jsx_part_facts f c n role
node_facts f n role c = no_facts

unfoldable pub node_summary : {X : Type 0} → (X → Role → Parameters → Summary) → AnyNode-F X → Role → Parameters → Summary
node_summary f n role c = record { facts = node_facts f n role c; begins = node_begins (begins_in f) n role; is_empty = is_empty_node n; shape = node_shape (shape_in f) n }

unfoldable pub summary_of : AnyNode → Role → Parameters → Summary
summary_of = fold-AnyNode (Role → Parameters → Summary) (node_summary (λ known. known))

abbrev pub facts : AnyNode → Role → Parameters → Facts
facts n role c = (summary_of n role c).facts
