-- When the phrase of a function or a block is possible.
use Rattle.std.proofs.Common.{◌≡◌, ◌∙◌, refl, sym, ap, ℕ, suc, ◌==◌, Bool, true, false, not, ◌&&◌, cond, List, [], ◌∷◌, length, map, codes, Option, arith}
use Rattle.std.proofs.lemmas.Bool.{ne_eqb}
use Rattle.swc_ecma_codegen_tree.specs.declared.decls.Function as functions
use Rattle.swc_ecma_codegen_tree.specs.declared.exprs.ArrowExpr.{ArrowExpr}
use Rattle.swc_ecma_codegen_tree.specs.declared.stmts.BlockStmt.{BlockStmt}
use Rattle.swc_ecma_codegen_tree.specs.Links.{PatBox, TsTypeAnnBox, TsTypeParamDeclBox}
use Rattle.swc_ecma_codegen_grammar.specs.AnnotationPhrases.{annotation, type_params}
use Rattle.swc_ecma_codegen_grammar.specs.ElementPhrases.{element}
use Rattle.swc_ecma_codegen_grammar.specs.TypePhrases.{ann_at, params_at}
use Rattle.swc_ecma_codegen_grammar.specs.declared.roles.Role.{Role}
use Rattle.swc_ecma_codegen_grammar.specs.declared.roles.Role.TheVariants.{PlainParameter}
use Rattle.swc_ecma_codegen_grammar.specs.PatPhrases.{pat_at}
use Rattle.swc_ecma_codegen_grammar.specs.FunctionPhrases.{after_async, word_if, is_some_listed, param, function_body, function, function_head, method_head, is_never, only_parameter, arrow_parameters, is_typed_arrow, arrow_body, arrow_expr}
use Rattle.swc_ecma_codegen_grammar.specs.StmtPhrases.{stmt, block_stmt}
use Rattle.swc_ecma_codegen_grammar.specs.Phrases.{Phrase, Never, OptionalParentheses, Parameter, ◌>◌, mark, word, in_order, listed, is_possible}
use Rattle.swc_ecma_codegen_validate.specs.Possible.{all_possible}
use Rattle.swc_ecma_codegen_validate.proofs.Annotations.{annotation_possible, params_possible}
use Rattle.swc_ecma_codegen_validate.proofs.Lists.{in_order_possible, listed_possible, and_true}

pub word_possible : (b : Bool) (t : List ℕ) → is_possible (word_if b (word t)) ≡ true
unfolding is_possible word_if
word_possible true t = refl
word_possible false t = refl

mark_possible : (b : Bool) (t : List ℕ) → is_possible (word_if b (mark t)) ≡ true
unfolding is_possible word_if
mark_possible true t = refl
mark_possible false t = refl

pub after_async_possible : (b : Bool) (p : Phrase) → is_possible (after_async b p) ≡ is_possible p
unfolding is_possible after_async
after_async_possible true p = refl
after_async_possible false p = refl

pub method_head_possible : {X : Type 0} (n : functions.Function X) → is_possible (method_head n) ≡ true
unfolding is_possible method_head
method_head_possible n = after_async_possible n.is_async _ ∙ mark_possible n.is_generator (codes "*")

pub function_head_possible : {X : Type 0} (n : functions.Function X) → is_possible (function_head n) ≡ true
unfolding is_possible function_head
function_head_possible n = after_async_possible n.is_async _ ∙ mark_possible n.is_generator (codes "*")

undecorated : (decorated : Bool) (p : Phrase) (b : Bool) → is_possible p ≡ b → is_possible (cond decorated Never p) ≡ (not decorated && b)
unfolding is_possible
undecorated true p b e = refl
undecorated false p b e = e

-- parameters of types, parameters, a result and a body
pub signature_possible : {X A : Type 0} (f : X → Role → Phrase) (params : Option (TsTypeParamDeclBox X)) (each : A → Phrase) (xs : List A) (result : Option (TsTypeAnnBox X)) (body : Bool)
    → (is_possible (type_params f params) && (is_possible (listed (codes ",") (map each xs)) && (is_possible (annotation f result) && body)))
    ≡ (is_possible (element (params_at f) params) && (all_possible each xs && (is_possible (element (ann_at f) result) && body)))
signature_possible f params each xs result body =
    ap (λ b. b && (is_possible (listed (codes ",") (map each xs)) && (is_possible (annotation f result) && body))) (params_possible f params)
    ∙ ap (λ b. is_possible (element (params_at f) params) && (b && (is_possible (annotation f result) && body))) (listed_possible (codes ",") each xs)
    ∙ ap (λ b. is_possible (element (params_at f) params) && (all_possible each xs && (b && body))) (annotation_possible f result)

some_long : {A : Type 0} (xs : List A) → suc (length xs) ≡ 0 → ⊥
some_long xs e = omega (arith, e)

none_listed : {A : Type 0} (xs : List A) → not (is_some_listed xs) ≡ (length xs == 0)
unfolding is_some_listed
none_listed [] = refl
none_listed (x ∷ xs) = sym (ne_eqb (suc (length xs)) 0 (some_long xs))

pub function_possible : {X : Type 0} (f : X → Role → Phrase) (n : functions.Function X) → is_possible (function f n) ≡ ((length n.decorators.items == 0) && (is_possible (element (params_at f) n.type_params) && (all_possible (param f) n.params.items && (is_possible (element (ann_at f) n.return_type) && is_possible (function_body f n.body)))))
unfolding is_possible function
function_possible f n =
    undecorated (is_some_listed n.decorators.items) _ _ (signature_possible f n.type_params (param f) n.params.items n.return_type (is_possible (function_body f n.body)))
    ∙ ap (λ b. b && (is_possible (element (params_at f) n.type_params) && (all_possible (param f) n.params.items && (is_possible (element (ann_at f) n.return_type) && is_possible (function_body f n.body))))) (none_listed n.decorators.items)

pub block_possible : {X : Type 0} (f : X → Role → Phrase) (n : BlockStmt X) → is_possible (block_stmt f n) ≡ all_possible (stmt f) n.stmts.items
unfolding is_possible block_stmt
block_possible f n = and_true (is_possible (in_order (map (stmt f) n.stmts.items))) ∙ in_order_possible (stmt f) n.stmts.items

-- ---- arrow functions

either_parentheses : (b : Bool) (p : Phrase) → is_possible (cond b (mark (codes "(") > p > mark (codes ")")) (OptionalParentheses Parameter p)) ≡ is_possible p
unfolding is_possible
either_parentheses true p = and_true (is_possible p)
either_parentheses false p = refl

only_possible : {X : Type 0} (f : X → Role → Phrase) (n : PatBox X) → is_possible (only_parameter f n) ≡ is_possible (pat_at f n)
unfolding only_parameter
only_possible f n = either_parentheses (is_never (f n.node.value PlainParameter)) (pat_at f n)

listed_parameters : {X : Type 0} (f : X → Role → Phrase) (ns : List (PatBox X)) → is_possible (mark (codes "(") > listed (codes ",") (map (pat_at f) ns) > mark (codes ")")) ≡ all_possible (pat_at f) ns
unfolding is_possible
listed_parameters f ns = and_true _ ∙ listed_possible (codes ",") (pat_at f) ns

parameters_possible : {X : Type 0} (f : X → Role → Phrase) (typed : Bool) (ns : List (PatBox X)) → is_possible (arrow_parameters f typed ns) ≡ all_possible (pat_at f) ns
unfolding is_possible arrow_parameters all_possible
parameters_possible f true [] = listed_parameters f []
parameters_possible f true (n ∷ []) = listed_parameters f (n ∷ [])
parameters_possible f true (n ∷ m ∷ ns) = listed_parameters f (n ∷ m ∷ ns)
parameters_possible f false [] = listed_parameters f []
parameters_possible f false (n ∷ []) = only_possible f n ∙ sym (and_true (is_possible (pat_at f n)))
parameters_possible f false (n ∷ m ∷ ns) = listed_parameters f (n ∷ m ∷ ns)

pub arrow_possible : {X : Type 0} (f : X → Role → Phrase) (n : ArrowExpr X) → is_possible (arrow_expr f n) ≡ (is_possible (element (params_at f) n.type_params) && (all_possible (pat_at f) n.params.items && (is_possible (element (ann_at f) n.return_type) && is_possible (arrow_body f n.body))))
unfolding is_possible arrow_expr
arrow_possible f n =
    let body : Bool = is_possible (arrow_body f n.body) in
    after_async_possible n.is_async _
    ∙ ap (λ b. b && (is_possible (type_params f n.type_params) && (is_possible (arrow_parameters f (is_typed_arrow n) n.params.items) && (is_possible (annotation f n.return_type) && body)))) (mark_possible n.is_generator (codes "*"))
    ∙ ap (λ b. b && (is_possible (arrow_parameters f (is_typed_arrow n) n.params.items) && (is_possible (annotation f n.return_type) && body))) (params_possible f n.type_params)
    ∙ ap (λ b. is_possible (element (params_at f) n.type_params) && (b && (is_possible (annotation f n.return_type) && body))) (parameters_possible f (is_typed_arrow n) n.params.items)
    ∙ ap (λ b. is_possible (element (params_at f) n.type_params) && (all_possible (pat_at f) n.params.items && (b && body))) (annotation_possible f n.return_type)
