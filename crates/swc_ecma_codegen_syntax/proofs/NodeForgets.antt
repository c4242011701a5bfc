-- Without nonterminals the forms of whole nodes are the productions that tell their tokens, where they keep their structure.
use Rattle.std.proofs.Common.{◌≡◌, Bool, true, false, refl, sym}
use Rattle.std.proofs.lemmas.Bool.{true≢false}
use Rattle.swc_ecma_codegen_tree.specs.declared.links.AnyNode.{AnyNode-F}
use Rattle.swc_ecma_codegen_tree.specs.declared.links.AnyNode.TheOpen as nodes
use Rattle.swc_ecma_codegen_tree.specs.declared.exprs.Expr.{Expr}
use Rattle.swc_ecma_codegen_tree.specs.declared.exprs.Expr.TheVariants as exprs
use Rattle.swc_ecma_codegen_tree.specs.declared.parts.ExprPart.{ExprPart}
use Rattle.swc_ecma_codegen_tree.specs.declared.parts.ExprPart.TheVariants as expr_parts
use Rattle.swc_ecma_codegen_tree.specs.declared.parts.JSXPart.{JSXPart}
use Rattle.swc_ecma_codegen_tree.specs.declared.parts.JSXPart.TheVariants as jsx_parts
use Rattle.swc_ecma_codegen_tree.specs.declared.parts.StmtPart.{StmtPart}
use Rattle.swc_ecma_codegen_tree.specs.declared.parts.StmtPart.TheVariants as stmt_parts
use Rattle.swc_ecma_codegen_grammar.specs.Phrases.{Phrase}
use Rattle.swc_ecma_codegen_grammar.specs.ExprPhrases.{expr_in, expr}
use Rattle.swc_ecma_codegen_grammar.specs.PartPhrases.{expr_part, stmt_part}
use Rattle.swc_ecma_codegen_grammar.specs.TreePhrases.{node_phrase}
use Rattle.swc_ecma_codegen_grammar.specs.declared.roles.Role.{Role}
use Rattle.swc_ecma_codegen_grammar.specs.declared.roles.Role.TheVariants.{Expression, Callee, Statement, ChainMember, ChainCall, Pattern, PropertyName, ObjectLiteral, AssignmentTarget, Template, TaggedTemplate, Block, VariableDeclaration, ModuleDeclaration, ExportedHead, ExportedTail, Function, FunctionHead, MethodHead, MethodTail, FieldValue, MethodDecorators, AccessorTail, ClassHead, ClassWord, ClassTail, Member, Element, Child, TagObject}
use Rattle.swc_ecma_codegen_grammar.specs.JsxPhrases.{jsx_part}
use Rattle.swc_ecma_codegen_syntax.specs.declared.parameters.Parameters.{Parameters}
use Rattle.swc_ecma_codegen_syntax.specs.Summary.{Summary}
use Rattle.swc_ecma_codegen_syntax.specs.Forms.{forget, keeps, is_met}
use Rattle.swc_ecma_codegen_syntax.specs.ExprForms.{expr_form}
use Rattle.swc_ecma_codegen_syntax.specs.NodeForms.{part_form, stmt_part_form, jsx_part_form, node_form}
use Rattle.swc_ecma_codegen_syntax.proofs.FunctionForgets.{function_forgets, rest_forgets}
use Rattle.swc_ecma_codegen_syntax.proofs.Forgets.{chain_member_forgets, chain_call_forgets, tpl_forgets, prop_name_forgets, object_forgets, new_forgets}
use Rattle.swc_ecma_codegen_syntax.proofs.ExprForgets.{expr_forgets}
use Rattle.swc_ecma_codegen_syntax.proofs.JsxForgets.{tag_object_forgets, element_forgets, fragment_forgets}
use Rattle.swc_ecma_codegen_syntax.proofs.PatForgets.{pat_forgets, target_forgets}
use Rattle.swc_ecma_codegen_syntax.proofs.StmtForgets.{var_decl_forgets, stmt_forgets, block_forgets}
use Rattle.swc_ecma_codegen_syntax.proofs.ModuleForgets.{exported_head_forgets, exported_tail_forgets, module_decl_forgets}
use Rattle.swc_ecma_codegen_syntax.specs.ClassForms.{class_word_form}
use Rattle.swc_ecma_codegen_syntax.specs.Verdicts.{Grammar}
use Rattle.swc_ecma_codegen_syntax.proofs.ClassForgets.{class_decorators_forget, accessor_forgets, class_tail_forgets, class_member_forgets, field_expr_forgets, field_expr_keeps}
use Rattle.swc_ecma_codegen_grammar.specs.ClassPhrases.{method_decorators, class_head}

part_forgets : {X : Type 0} (comma : Bool) (grammar : Grammar) (f : X → Role → Parameters → Summary) (p : X → Role → Phrase) (c : Parameters) (n : ExprPart X) (role : Role) → keeps grammar f (part_form comma c n role) ≡ true → forget p (part_form comma c n role) ≡ expr_part p n role
unfolding keeps is_met part_form expr_part
part_forgets comma grammar f p c (expr_parts.Pat n) Pattern k = pat_forgets p comma c n
part_forgets comma grammar f p c (expr_parts.ObjectLit n) ObjectLiteral k = object_forgets grammar f p c n k
part_forgets comma grammar f p c (expr_parts.PropName n) PropertyName k = prop_name_forgets p c n
part_forgets comma grammar f p c (expr_parts.OptCall n) (ChainCall optional) k = chain_call_forgets p c optional n
part_forgets comma grammar f p c (expr_parts.AssignTarget n) AssignmentTarget k = target_forgets comma grammar f p c n k
part_forgets comma grammar f p c (expr_parts.Tpl n) Template k = tpl_forgets p c false n
part_forgets comma grammar f p c (expr_parts.Tpl n) TaggedTemplate k = tpl_forgets p c true n
part_forgets comma grammar f p c n role k = absurd (true≢false (sym k))

callee_forgets : {X : Type 0} (grammar : Grammar) (f : X → Role → Parameters → Summary) (p : X → Role → Phrase) (called : Bool) (c : Parameters) (n : Expr X) → keeps grammar f (expr_form true called c n) ≡ true → forget p (expr_form true called c n) ≡ expr_in p true n
unfolding expr_form expr_in
callee_forgets grammar f p called c (exprs.New n) k = new_forgets p c true n
callee_forgets grammar f p called c n k = expr_forgets grammar f p called c n k

stmt_part_forgets : {X : Type 0} (grammar : Grammar) (f : X → Role → Parameters → Summary) (p : X → Role → Phrase) (c : Parameters) (n : StmtPart X) (role : Role) →
    keeps grammar f (stmt_part_form c n role) ≡ true → forget p (stmt_part_form c n role) ≡ stmt_part p n role
unfolding forget keeps is_met stmt_part_form class_word_form stmt_part method_decorators class_head
stmt_part_forgets grammar f p c (stmt_parts.BlockStmt n) Block k = block_forgets grammar f p c n k
stmt_part_forgets grammar f p c (stmt_parts.VarDecl n) VariableDeclaration k = var_decl_forgets grammar f p c n k
stmt_part_forgets grammar f p c (stmt_parts.Decl n) ExportedHead k = exported_head_forgets grammar f p c n k
stmt_part_forgets grammar f p c (stmt_parts.Decl n) ExportedTail k = exported_tail_forgets grammar f p c n k
stmt_part_forgets grammar f p c (stmt_parts.ModuleDecl n) ModuleDeclaration k = module_decl_forgets grammar f p c n.value k
stmt_part_forgets grammar f p c (stmt_parts.Function n) Function k = function_forgets p c n.value
stmt_part_forgets grammar f p c (stmt_parts.Function n) FunctionHead k = refl
stmt_part_forgets grammar f p c (stmt_parts.Function n) MethodHead k = refl
stmt_part_forgets grammar f p c (stmt_parts.Function n) MethodTail k = rest_forgets p c n.value
stmt_part_forgets grammar f p c (stmt_parts.Function n) MethodDecorators k = class_decorators_forget p c n.value.decorators.items
stmt_part_forgets grammar f p c (stmt_parts.Function n) AccessorTail k = accessor_forgets p c n.value
stmt_part_forgets grammar f p c (stmt_parts.Class n) ClassHead k = class_decorators_forget p c n.value.decorators.items
stmt_part_forgets grammar f p c (stmt_parts.Class n) ClassWord k = refl
stmt_part_forgets grammar f p c (stmt_parts.Class n) ClassTail k = class_tail_forgets grammar f p c n.value k
stmt_part_forgets grammar f p c (stmt_parts.ClassMember n) Member k = class_member_forgets grammar f p c n.value k
stmt_part_forgets grammar f p c n role k = absurd (true≢false (sym k))

field_same : {X : Type 0} (grammar : Grammar) (f : X → Role → Parameters → Summary) (p : X → Role → Phrase) (called : Bool) (c : Parameters) (n : Expr X) → keeps grammar f (expr_form false called c n) ≡ true → forget p (expr_form false called c n) ≡ expr p n
field_same grammar f p called c n k = expr_forgets grammar f p called c n k

jsx_part_forgets : {X : Type 0} (grammar : Grammar) (f : X → Role → Parameters → Summary) (p : X → Role → Phrase) (c : Parameters) (n : JSXPart X) (role : Role) →
    keeps grammar f (jsx_part_form c n role) ≡ true → forget p (jsx_part_form c n role) ≡ jsx_part p n role
unfolding keeps is_met jsx_part_form jsx_part
jsx_part_forgets grammar f p c (jsx_parts.JSXElement n) Element k = element_forgets p c false n.value
jsx_part_forgets grammar f p c (jsx_parts.JSXElement n) Child k = element_forgets p c true n.value
jsx_part_forgets grammar f p c (jsx_parts.JSXFragment n) Element k = fragment_forgets p c false n
jsx_part_forgets grammar f p c (jsx_parts.JSXFragment n) Child k = fragment_forgets p c true n
jsx_part_forgets grammar f p c (jsx_parts.JSXObject n) TagObject k = tag_object_forgets p c n
jsx_part_forgets grammar f p c n role k = absurd (true≢false (sym k))

pub node_forgets : {X : Type 0} (grammar : Grammar) (f : X → Role → Parameters → Summary) (p : X → Role → Phrase) (called : Bool) (c : Parameters) (n : AnyNode-F X) (role : Role) →
    keeps grammar f (node_form called c n role) ≡ true → forget p (node_form called c n role) ≡ node_phrase p n role
unfolding keeps is_met node_form node_phrase
node_forgets grammar f p called c (nodes.Expr n) Expression k = expr_forgets grammar f p called c n k
node_forgets grammar f p called c (nodes.Expr n) Callee k = callee_forgets grammar f p called c n k
node_forgets grammar f p called c (nodes.Expr n) FieldValue k = field_expr_forgets p (expr_form false called c n) n (field_same grammar f p called c n (field_expr_keeps grammar f (expr_form false called c n) n k))
node_forgets grammar f p called c (nodes.MemberExpr n) (ChainMember optional) k = chain_member_forgets p c optional n
node_forgets grammar f p called c (nodes.ExprPart n) role k = part_forgets called grammar f p c n role k
node_forgets grammar f p called c (nodes.Stmt n) Statement k = stmt_forgets grammar f p c n k
node_forgets grammar f p called c (nodes.StmtPart n) role k = stmt_part_forgets grammar f p c n role k
node_forgets grammar f p called c (nodes.JSXPart n) role k = jsx_part_forgets grammar f p c n role k
node_forgets grammar f p called c n role k = absurd (true≢false (sym k))
