-- The productions of functions and blocks see what links hold through f alone.
use Rattle.std.proofs.Common.{◌≡◌, refl, ◌∙◌, ap, List, [], ◌∷◌, map, codes, Bool, true, false, cond, Option, Some, None, Box, Global}
use Rattle.swc_ecma_codegen_tree.specs.declared.links.AnyNode.{map-AnyNode}
use Rattle.swc_ecma_codegen_tree.specs.declared.links.AnyNode.TheOpen as nodes
use Rattle.swc_ecma_codegen_tree.specs.Links.{BlockStmtBox, PatBox, TsTypeAnnBox, TsTypeParamDeclBox}
use Rattle.swc_ecma_codegen_tree.specs.declared.parts.StmtPart.TheVariants as stmt_parts
use Rattle.swc_ecma_codegen_tree.specs.declared.decls.Decorator.{Decorator}
use Rattle.swc_ecma_codegen_tree.specs.declared.decls.Param.{Param}
use Rattle.swc_ecma_codegen_tree.specs.declared.decls.Function as functions
use Rattle.swc_ecma_codegen_tree.specs.declared.exprs.ArrowExpr.{ArrowExpr}
use Rattle.swc_ecma_codegen_tree.specs.declared.exprs.BlockStmtOrExpr.{BlockStmtOrExpr}
use Rattle.swc_ecma_codegen_tree.specs.declared.exprs.BlockStmtOrExpr.TheVariants as bodies
use Rattle.swc_ecma_codegen_tree.specs.declared.exprs.Expr.TheVariants as exprs
use Rattle.swc_ecma_codegen_tree.specs.declared.stmts.BlockStmt.{BlockStmt}
use Rattle.swc_ecma_codegen_tree.specs.declared.stmts.Stmt.{Stmt}
use Rattle.swc_ecma_codegen_grammar.specs.AnnotationPhrases.{annotation, type_params}
use Rattle.swc_ecma_codegen_grammar.specs.Phrases.{Phrase, Never, ◌>◌, mark, listed, in_order, same_line}
use Rattle.swc_ecma_codegen_grammar.specs.declared.roles.Role.{Role}
use Rattle.swc_ecma_codegen_grammar.specs.declared.roles.Role.TheVariants.{Expression, Function, Block}
use Rattle.swc_ecma_codegen_grammar.specs.PatPhrases.{pat_at, pat}
use Rattle.swc_ecma_codegen_grammar.specs.FunctionPhrases.{word_if, is_some_listed, decorator, param, function_body, function, only_parameter, arrow_parameters, arrow_body, arrow_expr, after_async}
use Rattle.swc_ecma_codegen_grammar.specs.ExprPhrases.{expr}
use Rattle.swc_ecma_codegen_grammar.specs.StmtPhrases.{stmt, block_stmt}
use Rattle.swc_ecma_codegen_grammar.specs.PartPhrases.{expr_part, stmt_part}
use Rattle.swc_ecma_codegen_grammar.specs.TreePhrases.{node_phrase}
use Rattle.swc_ecma_codegen_grammar.proofs.Mapped.{list_mapped, signature_mapped}
use Rattle.swc_ecma_codegen_grammar.proofs.MappedPats.{pat_mapped}
use Rattle.swc_ecma_codegen_grammar.proofs.MappedStmts.{stmt_mapped}

-- ---- functions

pub some_mapped : {A B : Type 0} (g : A → B) (xs : List A) → is_some_listed (map g xs) ≡ is_some_listed xs
unfolding is_some_listed
some_mapped g [] = refl
some_mapped g (x ∷ xs) = refl

pub param_mapped : {X Y : Type 0} (g : Param X → Param Y) (h : Decorator X → Decorator Y) (f : Y → Role → Phrase) (d : X → Role → Phrase) → ((n : Param X) → (g n).decorators.items ≡ map h n.decorators.items) → ((n : Param X) → pat f (g n).pat ≡ pat d n.pat) → ((n : Decorator X) → decorator f (h n) ≡ decorator d n) → (n : Param X) → param f (g n) ≡ param d n
unfolding param
param_mapped g h f d items pattern same n =
    ap (λ ds. in_order (map (decorator f) ds) > pat f (g n).pat) (items n)
    ∙ ap (λ ps. in_order ps > pat f (g n).pat) (list_mapped h (decorator f) (decorator d) same n.decorators.items)
    ∙ ap (λ p. in_order (map (decorator d) n.decorators.items) > p) (pattern n)

undecorated_signature : {A B C : Type 0} {b c : Bool} {p q : A → B → C → Phrase} → b ≡ c → ((x : A) (y : B) (z : C) → p x y z ≡ q x y z) → (x : A) (y : B) (z : C) → cond b Never (p x y z) ≡ cond c Never (q x y z)
undecorated_signature {c = c} {p = p} e same x y z = ap (λ t. cond t Never (p x y z)) e ∙ ap (λ t. cond c Never t) (same x y z)

abbrev pub with_parts : {X : Type 0} → functions.Function X → Option (BlockStmtBox X) → Option (TsTypeParamDeclBox X) → Option (TsTypeAnnBox X) → functions.Function X
with_parts n body type_params return_type = record n { body = body; type_params = type_params; return_type = return_type }

function_mapped : {X Y : Type 0} (g : X → Y) (f : Y → Role → Phrase) (b : Box (functions.Function X) Global) (n : functions.Function X) (type_params : Option (TsTypeParamDeclBox X)) (return_type : Option (TsTypeAnnBox X)) (body : Option (BlockStmtBox X)) → node_phrase f (map-AnyNode X Y g (nodes.StmtPart (stmt_parts.Function (record b { value = with_parts n body type_params return_type })))) Function ≡ function (λ x. f (g x)) (with_parts n body type_params return_type)
unfolding node_phrase expr_part stmt_part function function_body decorator annotation type_params
function_mapped {X} {Y} g f b n = undecorated_signature (some_mapped _ n.decorators.items) (signature_mapped
    (elim [ None ↦ refl | Some t ↦ refl ])
    (ap (listed (codes ",")) (list_mapped _ (param f) (param (λ x. f (g x))) (param_mapped {X = X} {Y = Y} _ _ f (λ x. f (g x)) (λ x. refl) (λ x. pat_mapped g f x.pat) (λ x. refl)) n.params.items))
    (elim [ None ↦ refl | Some t ↦ refl ])
    (elim [ None ↦ refl | Some t ↦ refl ]))

pub function_part_mapped : {X Y : Type 0} (g : X → Y) (f : Y → Role → Phrase) (b : Box (functions.Function X) Global) → node_phrase f (map-AnyNode X Y g (nodes.StmtPart (stmt_parts.Function b))) Function ≡ function (λ x. f (g x)) b.value
function_part_mapped g f b = function_mapped g f b b.value b.value.type_params b.value.return_type b.value.body

pub block_mapped : {X Y : Type 0} (g : X → Y) (f : Y → Role → Phrase) (n : BlockStmt X) → node_phrase f (map-AnyNode X Y g (nodes.StmtPart (stmt_parts.BlockStmt n))) Block ≡ block_stmt (λ x. f (g x)) n
unfolding node_phrase stmt_part block_stmt
block_mapped {X} g f n = ap (λ ps. mark (codes "{") > in_order ps > mark (codes "}")) (list_mapped {A = Stmt X} _ (stmt f) (stmt (λ x. f (g x))) (stmt_mapped g f) n.stmts.items)

-- ---- arrow functions

parameters_mapped : {X Y : Type 0} (g : PatBox X → PatBox Y) (f : Y → Role → Phrase) (d : X → Role → Phrase) → ((n : PatBox X) → pat_at f (g n) ≡ pat_at d n) → ((n : PatBox X) → only_parameter f (g n) ≡ only_parameter d n) → (typed : Bool) (ns : List (PatBox X)) → arrow_parameters f typed (map g ns) ≡ arrow_parameters d typed ns
unfolding arrow_parameters
parameters_mapped g f d same only false [] = refl
parameters_mapped g f d same only true [] = refl
parameters_mapped g f d same only false (n ∷ []) = only n
parameters_mapped g f d same only true (n ∷ []) = ap (λ ps. mark (codes "(") > listed (codes ",") ps > mark (codes ")")) (list_mapped g (pat_at f) (pat_at d) same (n ∷ []))
parameters_mapped g f d same only false (n ∷ m ∷ ns) = ap (λ ps. mark (codes "(") > listed (codes ",") ps > mark (codes ")")) (list_mapped g (pat_at f) (pat_at d) same (n ∷ m ∷ ns))
parameters_mapped g f d same only true (n ∷ m ∷ ns) = ap (λ ps. mark (codes "(") > listed (codes ",") ps > mark (codes ")")) (list_mapped g (pat_at f) (pat_at d) same (n ∷ m ∷ ns))

arrow_mapped : {X Y : Type 0} (g : X → Y) (f : Y → Role → Phrase) (b : Box (ArrowExpr X) Global) (n : ArrowExpr X) (body : BlockStmtOrExpr X) (type_params : Option (TsTypeParamDeclBox X)) (return_type : Option (TsTypeAnnBox X)) → node_phrase f (map-AnyNode X Y g (nodes.Expr (exprs.Arrow (record b { value = record n { body = body; type_params = type_params; return_type = return_type } })))) Expression ≡ arrow_expr (λ x. f (g x)) (record n { body = body; type_params = type_params; return_type = return_type })
unfolding node_phrase expr arrow_expr arrow_body only_parameter annotation type_params
arrow_mapped {X} {Y} g f b n (bodies.BlockStmt body) None None = ap (λ z. after_async n.is_async (word_if n.is_generator (mark (codes "*")) > type_params (λ x. f (g x)) None > z > annotation (λ x. f (g x)) None > same_line > mark (codes "=>") > f (g body.node.value) Block)) (parameters_mapped {X = X} {Y = Y} _ f (λ x. f (g x)) (λ x. refl) (λ x. refl) false n.params.items)
arrow_mapped {X} {Y} g f b n (bodies.BlockStmt body) None (Some t) = ap (λ z. after_async n.is_async (word_if n.is_generator (mark (codes "*")) > type_params (λ x. f (g x)) None > z > annotation (λ x. f (g x)) (Some t) > same_line > mark (codes "=>") > f (g body.node.value) Block)) (parameters_mapped {X = X} {Y = Y} _ f (λ x. f (g x)) (λ x. refl) (λ x. refl) true n.params.items)
arrow_mapped {X} {Y} g f b n (bodies.BlockStmt body) (Some p) None = ap (λ z. after_async n.is_async (word_if n.is_generator (mark (codes "*")) > type_params (λ x. f (g x)) (Some p) > z > annotation (λ x. f (g x)) None > same_line > mark (codes "=>") > f (g body.node.value) Block)) (parameters_mapped {X = X} {Y = Y} _ f (λ x. f (g x)) (λ x. refl) (λ x. refl) true n.params.items)
arrow_mapped {X} {Y} g f b n (bodies.BlockStmt body) (Some p) (Some t) = ap (λ z. after_async n.is_async (word_if n.is_generator (mark (codes "*")) > type_params (λ x. f (g x)) (Some p) > z > annotation (λ x. f (g x)) (Some t) > same_line > mark (codes "=>") > f (g body.node.value) Block)) (parameters_mapped {X = X} {Y = Y} _ f (λ x. f (g x)) (λ x. refl) (λ x. refl) true n.params.items)
arrow_mapped {X} {Y} g f b n (bodies.Expr body) None None = ap (λ z. after_async n.is_async (word_if n.is_generator (mark (codes "*")) > type_params (λ x. f (g x)) None > z > annotation (λ x. f (g x)) None > same_line > mark (codes "=>") > f (g body.node.value) Expression)) (parameters_mapped {X = X} {Y = Y} _ f (λ x. f (g x)) (λ x. refl) (λ x. refl) false n.params.items)
arrow_mapped {X} {Y} g f b n (bodies.Expr body) None (Some t) = ap (λ z. after_async n.is_async (word_if n.is_generator (mark (codes "*")) > type_params (λ x. f (g x)) None > z > annotation (λ x. f (g x)) (Some t) > same_line > mark (codes "=>") > f (g body.node.value) Expression)) (parameters_mapped {X = X} {Y = Y} _ f (λ x. f (g x)) (λ x. refl) (λ x. refl) true n.params.items)
arrow_mapped {X} {Y} g f b n (bodies.Expr body) (Some p) None = ap (λ z. after_async n.is_async (word_if n.is_generator (mark (codes "*")) > type_params (λ x. f (g x)) (Some p) > z > annotation (λ x. f (g x)) None > same_line > mark (codes "=>") > f (g body.node.value) Expression)) (parameters_mapped {X = X} {Y = Y} _ f (λ x. f (g x)) (λ x. refl) (λ x. refl) true n.params.items)
arrow_mapped {X} {Y} g f b n (bodies.Expr body) (Some p) (Some t) = ap (λ z. after_async n.is_async (word_if n.is_generator (mark (codes "*")) > type_params (λ x. f (g x)) (Some p) > z > annotation (λ x. f (g x)) (Some t) > same_line > mark (codes "=>") > f (g body.node.value) Expression)) (parameters_mapped {X = X} {Y = Y} _ f (λ x. f (g x)) (λ x. refl) (λ x. refl) true n.params.items)

pub arrow_expr_mapped : {X Y : Type 0} (g : X → Y) (f : Y → Role → Phrase) (b : Box (ArrowExpr X) Global) → node_phrase f (map-AnyNode X Y g (nodes.Expr (exprs.Arrow b))) Expression ≡ arrow_expr (λ x. f (g x)) b.value
arrow_expr_mapped g f b = arrow_mapped g f b b.value b.value.body b.value.type_params b.value.return_type
