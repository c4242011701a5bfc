-- Declarations of variables: one production a node, with nonterminals. ECMA-262, sections 14.3 and 14.7.5. `using` is a proposal, explicit resource management.
use Rattle.std.specs.Prelude.{Bool, true, false, ◌&&◌, ◌||◌, not, is_some, codes, string_bytes, bytes_eq, List, [], ◌∷◌, length, ◌==◌, Option, Some, None, if◌then◌else◌}
use Rattle.swc_ecma_codegen_tree.specs.Links.{ExprBox}
use Rattle.swc_ecma_codegen_tree.specs.declared.decls.Decl.{Decl}
use Rattle.swc_ecma_codegen_tree.specs.declared.decls.Decl.TheVariants as decls
use Rattle.swc_ecma_codegen_tree.specs.declared.decls.UsingDecl.{UsingDecl}
use Rattle.swc_ecma_codegen_tree.specs.declared.decls.VarDecl.{VarDecl}
use Rattle.swc_ecma_codegen_tree.specs.declared.decls.VarDeclKind.{VarDeclKind}
use Rattle.swc_ecma_codegen_tree.specs.declared.decls.VarDeclKind.TheVariants.{Var, Const}
use Rattle.swc_ecma_codegen_tree.specs.declared.decls.VarDeclarator.{VarDeclarator}
use Rattle.swc_ecma_codegen_tree.specs.declared.pats.Pat.{Pat}
use Rattle.swc_ecma_codegen_tree.specs.declared.pats.Pat.TheVariants as pats
use Rattle.swc_ecma_codegen_grammar.specs.Phrases.{Never, Nothing, word, mark, same_line, ending}
use Rattle.swc_ecma_codegen_grammar.specs.DeclPhrases.{var_kind}
use Rattle.swc_ecma_codegen_grammar.specs.TsDeclPhrases.{declare_word}
use Rattle.swc_ecma_codegen_syntax.specs.declared.nonterminals.Nonterminal.{Nonterminal}
use Rattle.swc_ecma_codegen_syntax.specs.declared.nonterminals.Nonterminal.TheVariants as nt
use Rattle.swc_ecma_codegen_syntax.specs.declared.parameters.Parameters.{Parameters}
use Rattle.swc_ecma_codegen_syntax.specs.declared.parameters.Position.{Position}
use Rattle.swc_ecma_codegen_syntax.specs.declared.parameters.Position.TheVariants as positions
use Rattle.swc_ecma_codegen_syntax.specs.FunctionForms.{fn_decl_form}
use Rattle.swc_ecma_codegen_syntax.specs.Parameters.{of_bindings, of_declarations, may_await}
use Rattle.swc_ecma_codegen_syntax.specs.Nonterminals.{takes}
use Rattle.swc_ecma_codegen_syntax.specs.Forms.{Form, Fixed, Provided, ByRule, ByScope, ByCore, ◌⇢◌, each_after}
use Rattle.swc_ecma_codegen_syntax.specs.MemberForms.{expr_part}
use Rattle.swc_ecma_codegen_syntax.specs.PatForms.{pat_form, pat_nonterminal}
use Rattle.swc_ecma_codegen_syntax.specs.ClassForms.{class_decl_form}

unfoldable pub is_const : VarDeclKind → Bool
is_const Const = true
is_const kind = false

unfoldable pub is_pattern : {X : Type 0} → Pat X → Bool
is_pattern (pats.Array n) = true
is_pattern (pats.Object n) = true
is_pattern n = false

-- Initializer: `= AssignmentExpression[?In]`. The core has none in the head of a loop.
unfoldable pub value_form : {X : Type 0} → Parameters → Option (ExprBox X) → Form X
value_form c None = Fixed Nothing
value_form c (Some n) = Provided ByCore (not c.is_loop_head) (Fixed (mark (codes "=")) ⇢ expr_part nt.AssignmentExpression c n)

-- A pattern has a value, and so has a `const`: 14.3.1, 14.3.2. In `for (let a of b) {}` the loop gives it: 14.7.5. A name may have one besides in
-- `for (var a = b in c)`: B.3.5.
unfoldable pub is_valued : {X : Type 0} → Parameters → Bool → VarDeclarator X → Bool
is_valued c constant n = if c.is_loop_head then not (is_some n.init) || (c.initializes && not (is_pattern n.name)) else is_some n.init || not (constant || is_pattern n.name)

-- LexicalBinding, VariableDeclaration, ForBinding: a name or a BindingPattern, without a comma before its closing mark
unfoldable pub declarator_form : {X : Type 0} → Parameters → Bool → VarDeclarator X → Form X
declarator_form c constant n =
    Provided ByScope (not n.definite)
    (Provided ByRule (is_valued c constant n && takes nt.PatternTarget (pat_nonterminal n.name))
    (pat_form false (of_bindings c) n.name ⇢ value_form c n.init))

-- one, or several with commas between
unfoldable pub declarators_form : {X : Type 0} → Parameters → Bool → List (VarDeclarator X) → Form X
declarators_form c constant [] = Fixed Never
declarators_form c constant (x ∷ xs) = declarator_form c constant x ⇢ each_after (codes ",") (declarator_form c constant) xs

-- 14.7.5: in `for (let a of b) {}` one alone
unfoldable pub is_single : {X : Type 0} → Parameters → VarDecl X → Bool
is_single c n = not c.is_loop_head || length n.decls.items == 1

unfoldable pub is_var : VarDeclKind → Bool
is_var Var = true
is_var kind = false

-- `let` and `const` have no value there
abbrev pub of_kind : VarDeclKind → Parameters → Parameters
of_kind kind c = record c { initializes = c.initializes && is_var kind }

-- VariableDeclarationList, LexicalDeclaration. `declare` is of TypeScript.
unfoldable pub var_decl_form : {X : Type 0} → Parameters → VarDecl X → Form X
var_decl_form c n =
    Provided ByScope (not n.declare)
    (Provided ByRule (is_single c n)
    (Fixed (declare_word n.declare) ⇢ Fixed (var_kind n.kind) ⇢ declarators_form (of_kind n.kind c) (is_const n.kind) n.decls.items))

-- What `using` declares is a name, and none is `await`; where `bars_of` none is `of`.
unfoldable pub is_resource_name : {X : Type 0} → Bool → Pat X → Bool
is_resource_name bars_of (pats.Ident n) =
    not (bytes_eq (string_bytes n.id.sym) (codes "await")) && not (bars_of && bytes_eq (string_bytes n.id.sym) (codes "of"))
is_resource_name bars_of n = false

unfoldable pub are_resource_names : {X : Type 0} → Bool → List (VarDeclarator X) → Bool
are_resource_names bars_of [] = true
are_resource_names bars_of (x ∷ xs) = is_resource_name bars_of x.name && are_resource_names bars_of xs

-- `await using` stands where `await` may. In the head of a loop there is one name, which isn't `of` behind `using` alone: [lookahead ≠ using of].
unfoldable pub are_resources : {X : Type 0} → Parameters → Bool → List (VarDeclarator X) → Bool
are_resources c is_await ns =
    (not is_await || may_await c) && ((not c.is_loop_head || length ns == 1) && are_resource_names (c.is_loop_head && not is_await) ns)

unfoldable pub after_await_form : {X : Type 0} → Bool → Form X → Form X
after_await_form true a = Fixed (word (codes "await")) ⇢ Fixed same_line ⇢ a
after_await_form false a = a

-- using BindingList; await using BindingList: as a `const` each has a value, but in the head of a loop
unfoldable pub resources_form : {X : Type 0} → Parameters → Bool → List (VarDeclarator X) → Form X
resources_form c is_await ns =
    Provided ByRule (are_resources c is_await ns)
    (after_await_form is_await (Fixed (word (codes "using")) ⇢ Fixed same_line ⇢ declarators_form c true ns))

unfoldable pub using_form : {X : Type 0} → Parameters → UsingDecl X → Form X
using_form c n = resources_form c n.is_await n.decls.items

-- Behind a label, and in a branch of `if`, a plain function alone: 14.13 and B.3.3.
unfoldable pub head_at : Position → Nonterminal
head_at positions.Labelled = nt.FunctionHead
head_at positions.Branch = nt.FunctionHead
head_at position = nt.AnyFunctionHead

unfoldable pub decl_form : {X : Type 0} → Parameters → Decl X → Form X
decl_form c (decls.Var n) = var_decl_form (of_declarations c) n ⇢ Fixed ending
decl_form c (decls.Using n) = Provided ByCore false (Provided ByRule (not c.bars_using) (using_form (of_declarations c) n ⇢ Fixed ending))
decl_form c (decls.Fn n) = fn_decl_form (head_at c.position) c n
decl_form c (decls.Class n) = class_decl_form c n
decl_form c n = Provided ByScope false (Fixed Never)

-- `var` stands where any statement does
unfoldable pub var_nonterminal : VarDeclKind → Nonterminal
var_nonterminal Var = nt.Statement
var_nonterminal kind = nt.Declaration

unfoldable pub decl_nonterminal : {X : Type 0} → Decl X → Nonterminal
decl_nonterminal (decls.Var n) = var_nonterminal n.kind
decl_nonterminal (decls.Fn n) = nt.HoistableDeclaration
decl_nonterminal n = nt.Declaration
