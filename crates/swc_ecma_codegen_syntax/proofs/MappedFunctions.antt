-- The forms of functions over what links hold as something else.
use Rattle.std.proofs.Common.{◌≡◌, Bool, true, false, not, cond, refl, ap, ap₂, ◌∙◌, List, [], ◌∷◌, map, codes, Option, Some, None, Box, Global}
use Rattle.swc_ecma_codegen_tree.specs.Links.{BlockStmtBox, PatBox, TsTypeAnnBox, TsTypeParamDeclBox}
use Rattle.swc_ecma_codegen_tree.specs.declared.links.AnyNode.{map-AnyNode}
use Rattle.swc_ecma_codegen_tree.specs.declared.links.AnyNode.TheOpen as nodes
use Rattle.swc_ecma_codegen_tree.specs.declared.decls.Decorator.{Decorator}
use Rattle.swc_ecma_codegen_tree.specs.declared.decls.Function as functions
use Rattle.swc_ecma_codegen_tree.specs.declared.decls.Param.{Param}
use Rattle.swc_ecma_codegen_tree.specs.declared.exprs.ArrowExpr.{ArrowExpr}
use Rattle.swc_ecma_codegen_tree.specs.declared.exprs.BlockStmtOrExpr.{BlockStmtOrExpr}
use Rattle.swc_ecma_codegen_tree.specs.declared.exprs.BlockStmtOrExpr.TheVariants as bodies
use Rattle.swc_ecma_codegen_tree.specs.declared.exprs.Expr.TheVariants as exprs
use Rattle.swc_ecma_codegen_tree.specs.declared.exprs.FnExpr.{FnExpr}
use Rattle.swc_ecma_codegen_tree.specs.declared.idents.Ident.{Ident}
use Rattle.swc_ecma_codegen_tree.specs.declared.parts.StmtPart.TheVariants as stmt_parts
use Rattle.swc_ecma_codegen_grammar.specs.Phrases.{Never, mark, same_line, Nothing}
use Rattle.swc_ecma_codegen_grammar.specs.FunctionPhrases.{is_some_listed}
use Rattle.swc_ecma_codegen_grammar.specs.declared.roles.Role.TheVariants.{Function, FunctionHead, MethodTail}
use Rattle.swc_ecma_codegen_grammar.proofs.MappedFunctions.{some_mapped, with_parts}
use Rattle.swc_ecma_codegen_syntax.specs.declared.nonterminals.Nonterminal.{Nonterminal}
use Rattle.swc_ecma_codegen_syntax.specs.declared.nonterminals.Nonterminal.TheVariants as nt
use Rattle.swc_ecma_codegen_syntax.specs.declared.parameters.Parameters.{Parameters}
use Rattle.swc_ecma_codegen_syntax.specs.Nonterminals.{takes}
use Rattle.swc_ecma_codegen_syntax.specs.Parameters.{of_function_name}
use Rattle.swc_ecma_codegen_syntax.specs.Forms.{Form, Fixed, Part, Provided, ByRule, ByScope, ◌⇢◌, map_form, ending_after, ending_listed, Cure}
use Rattle.swc_ecma_codegen_syntax.specs.NameForms.{name_form}
use Rattle.swc_ecma_codegen_syntax.specs.MemberForms.{annotation_form}
use Rattle.swc_ecma_codegen_syntax.specs.PatForms.{pat_part, pat_form, pat_nonterminal}
use Rattle.swc_ecma_codegen_syntax.specs.FunctionForms.{type_params_form, decorator_form, decorators_form, bound_name_form, optional_name_form, pat_in, param_form, body_form, rest_of_function, function_form, head_before, fn_expr_form, arrow_params_form, arrow_body_form, async_form, arrow_form}
use Rattle.swc_ecma_codegen_syntax.specs.ExprForms.{expr_form}
use Rattle.swc_ecma_codegen_syntax.specs.NodeForms.{node_form, stmt_part_form, part_form, node_nonterminal, part_nonterminal}
use Rattle.swc_ecma_codegen_syntax.proofs.Judged.{order_mapped}
use Rattle.swc_ecma_codegen_syntax.proofs.MappedCalls.{form_in}
use Rattle.swc_ecma_codegen_syntax.proofs.MappedPats.{pat_mapped, pat_sort_mapped}

-- ---- lists whose last element may be a rest

ending_after_mapped : {X Y A B : Type 0} (g : X → Y) (h : A → B) (e : Nonterminal → A → Form X) (d : Nonterminal → B → Form Y) → ((place : Nonterminal) (x : A) → d place (h x) ≡ map_form g (e place x)) → (xs : List A) →
    ending_after d (map h xs) ≡ map_form g (ending_after e xs)
unfolding ending_after map_form
ending_after_mapped g h e d same [] = refl
ending_after_mapped g h e d same (x ∷ []) = ap (λ a. Fixed (mark (codes ",")) ⇢ a ⇢ Fixed Nothing) (same nt.LastElement x)
ending_after_mapped g h e d same (x ∷ y ∷ xs) = ap₂ (λ a b. Fixed (mark (codes ",")) ⇢ a ⇢ b) (same nt.PatternElement x) (ending_after_mapped g h e d same (y ∷ xs))

pub ending_mapped : {X Y A B : Type 0} (g : X → Y) (h : A → B) (e : Nonterminal → A → Form X) (d : Nonterminal → B → Form Y) → ((place : Nonterminal) (x : A) → d place (h x) ≡ map_form g (e place x)) → (xs : List A) →
    ending_listed d (map h xs) ≡ map_form g (ending_listed e xs)
unfolding ending_listed map_form
ending_mapped g h e d same [] = refl
ending_mapped g h e d same (x ∷ []) = ap (λ a. a ⇢ Fixed Nothing) (same nt.LastElement x)
ending_mapped g h e d same (x ∷ y ∷ xs) = ap₂ (λ a b. a ⇢ b) (same nt.PatternElement x) (ending_after_mapped g h e d same (y ∷ xs))

-- ---- parameters

pub decorators_mapped : {X Y : Type 0} (g : X → Y) (h : Decorator X → Decorator Y) (cure : Cure) (c : Parameters) → ((n : Decorator X) → decorator_form c (h n) ≡ map_form g (decorator_form c n)) → (ns : List (Decorator X)) →
    decorators_form cure c (map h ns) ≡ map_form g (decorators_form cure c ns)
unfolding decorators_form map_form
decorators_mapped g h cure c same ns = ap₂ (λ b a. Provided cure (not b) a) (some_mapped h ns) (order_mapped g h (decorator_form c) (decorator_form c) same ns)

pub param_mapped : {X Y : Type 0} (g : X → Y) (k : Param X → Param Y) (h : Decorator X → Decorator Y) (c : Parameters) → ((n : Param X) → (k n).decorators.items ≡ map h n.decorators.items) →
    ((n : Param X) → pat_form false c (k n).pat ≡ map_form g (pat_form false c n.pat)) → ((n : Param X) → pat_nonterminal (k n).pat ≡ pat_nonterminal n.pat) →
    ((n : Decorator X) → decorator_form c (h n) ≡ map_form g (decorator_form c n)) → (place : Nonterminal) (n : Param X) → param_form c place (k n) ≡ map_form g (param_form c place n)
unfolding param_form pat_in map_form
param_mapped g k h c items pattern sort same place n =
    ap₂ (λ a b. a ⇢ b) (ap (decorators_form ByScope c) (items n) ∙ decorators_mapped g h ByScope c same n.decorators.items)
    (ap₂ (λ b a. Provided ByRule (takes place b) a) (sort n) (pattern n))

-- ---- functions

abbrev pub rest_parts : {Y : Type 0} → Form Y → Form Y → Form Y → Form Y → Form Y
rest_parts types params result body = types ⇢ Fixed (mark (codes "(")) ⇢ params ⇢ Fixed (mark (codes ")")) ⇢ result ⇢ body

rest_same : {Y : Type 0} (types params others result body : Form Y) → params ≡ others → rest_parts types params result body ≡ rest_parts types others result body
rest_same types params others result body e = ap (λ a. rest_parts types a result body) e

rest_by : {X Y : Type 0} (g : X → Y) (called : Bool) (c : Parameters) (b : Box (functions.Function X) Global) (n : functions.Function X) (body : Option (BlockStmtBox X)) (type_params : Option (TsTypeParamDeclBox X)) (return_type : Option (TsTypeAnnBox X)) →
    node_form called c (map-AnyNode X Y g (nodes.StmtPart (stmt_parts.Function (record b { value = with_parts n body type_params return_type })))) MethodTail ≡ map_form g (rest_of_function c (with_parts n body type_params return_type))
unfolding node_form part_form node_nonterminal part_nonterminal stmt_part_form rest_of_function type_params_form annotation_form body_form decorator_form map_form
rest_by {X} {Y} g called c b n None None None = rest_same _ _ _ _ _ (ending_mapped g _ (param_form _) (param_form _) (param_mapped {X = X} {Y = Y} g _ _ _ (λ x. refl) (λ x. pat_mapped g false _ x.pat) (λ x. pat_sort_mapped g false c x.pat) (λ x. refl)) n.params.items)
rest_by {X} {Y} g called c b n None None (Some t) = rest_same _ _ _ _ _ (ending_mapped g _ (param_form _) (param_form _) (param_mapped {X = X} {Y = Y} g _ _ _ (λ x. refl) (λ x. pat_mapped g false _ x.pat) (λ x. pat_sort_mapped g false c x.pat) (λ x. refl)) n.params.items)
rest_by {X} {Y} g called c b n None (Some p) None = rest_same _ _ _ _ _ (ending_mapped g _ (param_form _) (param_form _) (param_mapped {X = X} {Y = Y} g _ _ _ (λ x. refl) (λ x. pat_mapped g false _ x.pat) (λ x. pat_sort_mapped g false c x.pat) (λ x. refl)) n.params.items)
rest_by {X} {Y} g called c b n None (Some p) (Some t) = rest_same _ _ _ _ _ (ending_mapped g _ (param_form _) (param_form _) (param_mapped {X = X} {Y = Y} g _ _ _ (λ x. refl) (λ x. pat_mapped g false _ x.pat) (λ x. pat_sort_mapped g false c x.pat) (λ x. refl)) n.params.items)
rest_by {X} {Y} g called c b n (Some body) None None = rest_same _ _ _ _ _ (ending_mapped g _ (param_form _) (param_form _) (param_mapped {X = X} {Y = Y} g _ _ _ (λ x. refl) (λ x. pat_mapped g false _ x.pat) (λ x. pat_sort_mapped g false c x.pat) (λ x. refl)) n.params.items)
rest_by {X} {Y} g called c b n (Some body) None (Some t) = rest_same _ _ _ _ _ (ending_mapped g _ (param_form _) (param_form _) (param_mapped {X = X} {Y = Y} g _ _ _ (λ x. refl) (λ x. pat_mapped g false _ x.pat) (λ x. pat_sort_mapped g false c x.pat) (λ x. refl)) n.params.items)
rest_by {X} {Y} g called c b n (Some body) (Some p) None = rest_same _ _ _ _ _ (ending_mapped g _ (param_form _) (param_form _) (param_mapped {X = X} {Y = Y} g _ _ _ (λ x. refl) (λ x. pat_mapped g false _ x.pat) (λ x. pat_sort_mapped g false c x.pat) (λ x. refl)) n.params.items)
rest_by {X} {Y} g called c b n (Some body) (Some p) (Some t) = rest_same _ _ _ _ _ (ending_mapped g _ (param_form _) (param_form _) (param_mapped {X = X} {Y = Y} g _ _ _ (λ x. refl) (λ x. pat_mapped g false _ x.pat) (λ x. pat_sort_mapped g false c x.pat) (λ x. refl)) n.params.items)

pub rest_mapped : {X Y : Type 0} (g : X → Y) (called : Bool) (c : Parameters) (b : Box (functions.Function X) Global) →
    node_form called c (map-AnyNode X Y g (nodes.StmtPart (stmt_parts.Function b))) MethodTail ≡ map_form g (rest_of_function c b.value)
rest_mapped g called c b = rest_by g called c b b.value b.value.body b.value.type_params b.value.return_type

pub never_mapped : {X Y : Type 0} (g : X → Y) (some : Bool) (a : Form X) → cond some (Provided ByRule false (Fixed Never)) (map_form g a) ≡ map_form g (cond some (Provided ByRule false (Fixed Never)) a)
unfolding map_form
never_mapped g true a = refl
never_mapped g false a = refl

pub function_mapped : {X Y : Type 0} (g : X → Y) (called : Bool) (c : Parameters) (b : Box (functions.Function X) Global) →
    node_form called c (map-AnyNode X Y g (nodes.StmtPart (stmt_parts.Function b))) Function ≡ map_form g (function_form c b.value)
unfolding node_form stmt_part_form function_form
function_mapped g called c b =
    ap₂ (λ some a. cond some (Provided ByRule false (Fixed Never)) a) (some_mapped _ b.value.decorators.items) (rest_mapped g called c b)
    ∙ never_mapped g (is_some_listed b.value.decorators.items) (rest_of_function c b.value)

pub optional_name_mapped : {X Y : Type 0} (g : X → Y) (c : Parameters) (n : Option Ident) → optional_name_form c n ≡ map_form g (optional_name_form c n)
unfolding optional_name_form bound_name_form name_form map_form
optional_name_mapped g c None = refl
optional_name_mapped g c (Some n) = refl

pub fn_expr_mapped : {X Y : Type 0} (g : X → Y) (stays called : Bool) (c : Parameters) (n : FnExpr X) → form_in stays called c (map-AnyNode X Y g (nodes.Expr (exprs.Fn n))) ≡ map_form g (fn_expr_form c n)
unfolding expr_form fn_expr_form map_form
fn_expr_mapped g stays called c n =
    ap (λ a. Part (head_before n.ident) c FunctionHead (g n.function.node.value) ⇢ a ⇢ Part nt.FunctionTail c Function (g n.function.node.value)) (optional_name_mapped g (of_function_name c) n.ident)

-- ---- arrow functions

arrow_params_mapped : {X Y : Type 0} (g : X → Y) (h : PatBox X → PatBox Y) (c : Parameters) → ((place : Nonterminal) (n : PatBox X) → pat_part place c (h n) ≡ map_form g (pat_part place c n)) →
    ((n : PatBox X) → arrow_params_form c false (h n ∷ []) ≡ map_form g (arrow_params_form c false (n ∷ []))) → (typed : Bool) (ns : List (PatBox X)) → arrow_params_form c typed (map h ns) ≡ map_form g (arrow_params_form c typed ns)
unfolding arrow_params_form ending_listed map_form
arrow_params_mapped g h c same only false [] = refl
arrow_params_mapped g h c same only true [] = refl
arrow_params_mapped g h c same only false (n ∷ []) = only n
arrow_params_mapped g h c same only true (n ∷ []) = ap (λ a. Fixed (mark (codes "(")) ⇢ a ⇢ Fixed (mark (codes ")"))) (ending_mapped g h (λ place n. pat_part place c n) (λ place n. pat_part place c n) same (n ∷ []))
arrow_params_mapped g h c same only false (n ∷ m ∷ ns) = ap (λ a. Fixed (mark (codes "(")) ⇢ a ⇢ Fixed (mark (codes ")"))) (ending_mapped g h (λ place n. pat_part place c n) (λ place n. pat_part place c n) same (n ∷ m ∷ ns))
arrow_params_mapped g h c same only true (n ∷ m ∷ ns) = ap (λ a. Fixed (mark (codes "(")) ⇢ a ⇢ Fixed (mark (codes ")"))) (ending_mapped g h (λ place n. pat_part place c n) (λ place n. pat_part place c n) same (n ∷ m ∷ ns))

async_mapped : {X Y : Type 0} (g : X → Y) (is_async : Bool) (a : Form X) → async_form is_async (map_form g a) ≡ map_form g (async_form is_async a)
unfolding async_form map_form
async_mapped g true a = refl
async_mapped g false a = refl

abbrev arrow_parts : {Y : Type 0} → Form Y → Form Y → Form Y → Form Y → Form Y → Form Y
arrow_parts star types params result body = star ⇢ types ⇢ params ⇢ result ⇢ Fixed same_line ⇢ Fixed (mark (codes "=>")) ⇢ body

arrow_same : {X Y : Type 0} (g : X → Y) (is_async : Bool) (star types params result body : Form Y) (a : Form X) (others : Form Y) → params ≡ others → arrow_parts star types others result body ≡ map_form g a →
    async_form is_async (arrow_parts star types params result body) ≡ map_form g (async_form is_async a)
arrow_same g is_async star types params result body a others e k =
    ap (λ z. async_form is_async (arrow_parts star types z result body)) e ∙ ap (async_form is_async) k ∙ async_mapped g is_async a

arrow_by : {X Y : Type 0} (g : X → Y) (stays called : Bool) (c : Parameters) (b : Box (ArrowExpr X) Global) (n : ArrowExpr X) (body : BlockStmtOrExpr X) (type_params : Option (TsTypeParamDeclBox X)) (return_type : Option (TsTypeAnnBox X)) →
    form_in stays called c (map-AnyNode X Y g (nodes.Expr (exprs.Arrow (record b { value = record n { body = body; type_params = type_params; return_type = return_type } }))))
    ≡ map_form g (arrow_form c (record n { body = body; type_params = type_params; return_type = return_type }))
unfolding expr_form arrow_form type_params_form annotation_form arrow_body_form arrow_params_form map_form
arrow_by {X} {Y} g stays called c b n (bodies.BlockStmt body) None None = arrow_same g n.is_async _ _ _ _ _ _ _ (arrow_params_mapped {X = X} {Y = Y} g _ _ (λ place x. refl) (λ x. refl) false n.params.items) refl
arrow_by {X} {Y} g stays called c b n (bodies.BlockStmt body) None (Some t) = arrow_same g n.is_async _ _ _ _ _ _ _ (arrow_params_mapped {X = X} {Y = Y} g _ _ (λ place x. refl) (λ x. refl) true n.params.items) refl
arrow_by {X} {Y} g stays called c b n (bodies.BlockStmt body) (Some p) None = arrow_same g n.is_async _ _ _ _ _ _ _ (arrow_params_mapped {X = X} {Y = Y} g _ _ (λ place x. refl) (λ x. refl) true n.params.items) refl
arrow_by {X} {Y} g stays called c b n (bodies.BlockStmt body) (Some p) (Some t) = arrow_same g n.is_async _ _ _ _ _ _ _ (arrow_params_mapped {X = X} {Y = Y} g _ _ (λ place x. refl) (λ x. refl) true n.params.items) refl
arrow_by {X} {Y} g stays called c b n (bodies.Expr body) None None = arrow_same g n.is_async _ _ _ _ _ _ _ (arrow_params_mapped {X = X} {Y = Y} g _ _ (λ place x. refl) (λ x. refl) false n.params.items) refl
arrow_by {X} {Y} g stays called c b n (bodies.Expr body) None (Some t) = arrow_same g n.is_async _ _ _ _ _ _ _ (arrow_params_mapped {X = X} {Y = Y} g _ _ (λ place x. refl) (λ x. refl) true n.params.items) refl
arrow_by {X} {Y} g stays called c b n (bodies.Expr body) (Some p) None = arrow_same g n.is_async _ _ _ _ _ _ _ (arrow_params_mapped {X = X} {Y = Y} g _ _ (λ place x. refl) (λ x. refl) true n.params.items) refl
arrow_by {X} {Y} g stays called c b n (bodies.Expr body) (Some p) (Some t) = arrow_same g n.is_async _ _ _ _ _ _ _ (arrow_params_mapped {X = X} {Y = Y} g _ _ (λ place x. refl) (λ x. refl) true n.params.items) refl

pub arrow_mapped : {X Y : Type 0} (g : X → Y) (stays called : Bool) (c : Parameters) (b : Box (ArrowExpr X) Global) → form_in stays called c (map-AnyNode X Y g (nodes.Expr (exprs.Arrow b))) ≡ map_form g (arrow_form c b.value)
arrow_mapped g stays called c b = arrow_by g stays called c b b.value b.value.body b.value.type_params b.value.return_type
