-- What is written of functions and blocks sees what links hold through `asks` and `items` alone.
use Rattle.std.proofs.Common.{◌≡◌, not, ◌&&◌, refl, ◌∙◌, ap, List, [], ◌∷◌, map, codes, Bool, true, false, Option, Some, None, Box, Global}
use Rattle.swc_ecma_codegen_common.specs.declared.positions.Span.{Span}
use Rattle.swc_ecma_codegen_tree.specs.declared.links.AnyNode.{AnyNode-F, map-AnyNode}
use Rattle.swc_ecma_codegen_tree.specs.declared.links.AnyNode.TheOpen as nodes
use Rattle.swc_ecma_codegen_tree.specs.Links.{BlockStmtBox, PatBox, TsTypeAnnBox, TsTypeParamDeclBox}
use Rattle.swc_ecma_codegen_tree.specs.declared.parts.StmtPart.TheVariants as stmt_parts
use Rattle.swc_ecma_codegen_tree.specs.declared.decls.Decorator.{Decorator}
use Rattle.swc_ecma_codegen_tree.specs.declared.decls.Param.{Param}
use Rattle.swc_ecma_codegen_tree.specs.declared.decls.Function as functions
use Rattle.swc_ecma_codegen_tree.specs.declared.exprs.ArrowExpr.{ArrowExpr}
use Rattle.swc_ecma_codegen_tree.specs.declared.exprs.BlockStmtOrExpr.{BlockStmtOrExpr}
use Rattle.swc_ecma_codegen_tree.specs.declared.exprs.BlockStmtOrExpr.TheVariants as bodies
use Rattle.swc_ecma_codegen_tree.specs.declared.exprs.Expr.TheVariants as exprs
use Rattle.swc_ecma_codegen_tree.specs.declared.stmts.BlockStmt.{BlockStmt}
use Rattle.swc_ecma_codegen_tree.specs.declared.stmts.Stmt.{Stmt}
use Rattle.swc_ecma_codegen_spans.specs.Spans.{expr_span, stmt_span, node_span}
use Rattle.swc_ecma_codegen_grammar.proofs.Mapped.{list_mapped}
use Rattle.swc_ecma_codegen_grammar.proofs.MappedFunctions.{some_mapped}
use Rattle.swc_ecma_codegen_grammar.specs.TreePhrases.{is_sequence}
use Rattle.swc_ecma_codegen_tokens.specs.Run.{Plan, Part}
use Rattle.swc_ecma_codegen_tokens.specs.Lists.{ListChild, list}
use Rattle.swc_ecma_codegen_tokens.specs.Words.{allow_break, by_maps, punct, leading_comments, start_of, end_of, trailing_comments, formatting_space}
use Rattle.swc_ecma_codegen_emit.specs.declared.nodes.Context.{Context}
use Rattle.swc_ecma_codegen_emit.specs.declared.nodes.Context.TheVariants.{Plain}
use Rattle.swc_ecma_codegen_emit.specs.declared.nodes.Piece.TheVariants.{FunctionHead, MethodHead, DeclarationHead, DeclarationTail, StaticHead, MethodDecorators, MethodTail}
use Rattle.swc_ecma_codegen_emit.specs.Places.{Place, Whole, Only, context_of}
use Rattle.swc_ecma_codegen_emit.specs.declared.patterns.PatternKind.{PatternKind}
use Rattle.swc_ecma_codegen_emit.specs.Annotations.{annotation, type_params}
use Rattle.swc_ecma_codegen_emit.specs.Answers.{Answers, place_of}
use Rattle.swc_ecma_codegen_emit.specs.Blocks.{block_lines, block_start, block_stmt}
use Rattle.swc_ecma_codegen_emit.specs.AnyExpr.{expr, expr_parts, expr_closed, leaves_comments, is_wrapped, placed_expr}
use Rattle.swc_ecma_codegen_emit.specs.Commented.{has_comment_after}
use Rattle.swc_ecma_codegen_grammar.specs.CommentMaps.{Maps}
use Rattle.swc_ecma_codegen_emit.specs.FunctionExprs.{comma_list_format, is_plain, is_name, is_only, async_arrow, star, has_comment_behind, arrow_within, arrow_parameters, arrow_body, arrow_result, arrow_expr}
use Rattle.swc_ecma_codegen_emit.specs.Functions.{decorators_format, decorator, decorator_place, param, parameters, function_body, fn_trailing, break_without_body, declaration_tail, function_head, declaration_head, method_head, static_head, decorator_lines, method_body, method_tail, function}
use Rattle.swc_ecma_codegen_emit.specs.Lists.{child_of, in_order}
use Rattle.swc_ecma_codegen_emit.specs.Parts.{expr_part, stmt_part}
use Rattle.swc_ecma_codegen_emit.specs.Stmts.{stmt}
use Rattle.swc_ecma_codegen_emit.specs.Tree.{node_items}
use Rattle.swc_ecma_codegen_emit.proofs.MappedPats.{children_mapped, pat_mapped}
use Rattle.swc_ecma_codegen_emit.proofs.MappedStmts.{stmt_child_mapped}
use Rattle.swc_ecma_codegen_emit.proofs.MappedOptions.{by_two, by_three}

-- ---- functions

-- a parameter, by its parts
abbrev pub param_child : Span → List ListChild → Part → ListChild
param_child span ds pat = record { place = span; part = λ rest. leading_comments span.lo (start_of span (list decorators_format span ds (pat (end_of span rest)))) }

pub param_same : (span : Span) (cs ds : List ListChild) (p q : Part) → cs ≡ ds → ((rest : Plan) → p rest ≡ q rest) → param_child span cs p ≡ param_child span ds q
param_same span cs ds p q e h = ap (λ z. param_child span z p) e ∙ ap (param_child span ds) (λ i. λ rest. h rest i)

abbrev with_parts : {X : Type 0} → functions.Function X → Option (BlockStmtBox X) → Option (TsTypeParamDeclBox X) → Option (TsTypeAnnBox X) → functions.Function X
with_parts n body type_params return_type = record n { body = body; type_params = type_params; return_type = return_type }

-- a function, as what a link holds, and what is written of its parts there
abbrev as_function : {X : Type 0} → Box (functions.Function X) Global → functions.Function X → AnyNode-F X
as_function b n = nodes.StmtPart (stmt_parts.Function (record b { value = n }))

abbrev types_in : {X : Type 0} → (X → Place → Part) → AnyNode-F X → Part
types_in items (nodes.StmtPart (stmt_parts.Function b)) rest = type_params items b.value.type_params rest
types_in items n rest = rest

abbrev params_in : {X : Type 0} → (X → Answers) → (X → Place → Part) → AnyNode-F X → Part
params_in asks items (nodes.StmtPart (stmt_parts.Function b)) rest = parameters asks items b.value rest
params_in asks items n rest = rest

abbrev result_in : {X : Type 0} → (X → Place → Part) → AnyNode-F X → Part
result_in items (nodes.StmtPart (stmt_parts.Function b)) rest = annotation items b.value.return_type rest
result_in items n rest = rest

abbrev body_in : {X : Type 0} → (Option (BlockStmtBox X) → Part) → AnyNode-F X → Part
body_in write (nodes.StmtPart (stmt_parts.Function b)) rest = write b.value.body rest
body_in write n rest = rest

types_mapped : {X Y : Type 0} (g : X → Y) (items : Y → Place → Part) (b : Box (functions.Function X) Global) (n : functions.Function X) (body : Option (BlockStmtBox X)) (types : Option (TsTypeParamDeclBox X)) (result : Option (TsTypeAnnBox X)) (rest : Plan) → types_in items (map-AnyNode X Y g (as_function b (with_parts n body types result))) rest ≡ type_params (λ x. items (g x)) types rest
unfolding type_params
types_mapped g items b n body None result rest = refl
types_mapped g items b n body (Some t) result rest = refl

result_mapped : {X Y : Type 0} (g : X → Y) (items : Y → Place → Part) (b : Box (functions.Function X) Global) (n : functions.Function X) (body : Option (BlockStmtBox X)) (types : Option (TsTypeParamDeclBox X)) (result : Option (TsTypeAnnBox X)) (rest : Plan) → result_in items (map-AnyNode X Y g (as_function b (with_parts n body types result))) rest ≡ annotation (λ x. items (g x)) result rest
unfolding annotation
result_mapped g items b n body types None rest = refl
result_mapped g items b n body types (Some t) rest = refl

body_mapped : {X Y : Type 0} (g : X → Y) (items : Y → Place → Part) (b : Box (functions.Function X) Global) (n : functions.Function X) (body : Option (BlockStmtBox X)) (types : Option (TsTypeParamDeclBox X)) (result : Option (TsTypeAnnBox X)) (rest : Plan) → body_in (function_body items) (map-AnyNode X Y g (as_function b (with_parts n body types result))) rest ≡ function_body (λ x. items (g x)) body rest
unfolding function_body
body_mapped g items b n None types result rest = refl
body_mapped g items b n (Some t) types result rest = refl

method_body_mapped : {X Y : Type 0} (g : X → Y) (items : Y → Place → Part) (b : Box (functions.Function X) Global) (n : functions.Function X) (body : Option (BlockStmtBox X)) (types : Option (TsTypeParamDeclBox X)) (result : Option (TsTypeAnnBox X)) (rest : Plan) → body_in (method_body items) (map-AnyNode X Y g (as_function b (with_parts n body types result))) rest ≡ method_body (λ x. items (g x)) body rest
unfolding method_body
method_body_mapped g items b n None types result rest = refl
method_body_mapped g items b n (Some t) types result rest = refl

-- `<A>(a): B`
abbrev signature : {X : Type 0} → (X → Answers) → (X → Place → Part) → functions.Function X → Option (TsTypeParamDeclBox X) → Option (TsTypeAnnBox X) → Plan → Plan
signature asks items n types result after = type_params items types (punct (codes "(") (parameters asks items n (punct (codes ")") (annotation items result after))))

signature_mapped : {X Y : Type 0} (g : X → Y) (asks : Y → Answers) (items : Y → Place → Part) (b : Box (functions.Function X) Global) (n : functions.Function X) (body : Option (BlockStmtBox X)) (types : Option (TsTypeParamDeclBox X)) (result : Option (TsTypeAnnBox X)) (after : Plan) → types_in items (map-AnyNode X Y g (as_function b (with_parts n body types result))) (punct (codes "(") (params_in asks items (map-AnyNode X Y g (as_function b (with_parts n body types result))) (punct (codes ")") (result_in items (map-AnyNode X Y g (as_function b (with_parts n body types result))) after)))) ≡ signature (λ x. asks (g x)) (λ x. items (g x)) n types result after
unfolding node_items expr_part param decorator
signature_mapped {X} g asks items b n body types result after =
    types_mapped g items b n body types result _
    ∙ ap (λ z. type_params (λ x. items (g x)) types (punct (codes "(") z)) (children_mapped {A = Param X} _ _ _ (λ p. param_same p.span _ _ _ _ (list_mapped {A = Decorator X} _ _ (child_of decorator_place (λ d place. decorator (λ x. items (g x)) d)) (λ d. refl) p.decorators.items) (pat_mapped g asks items p.pat (Whole Plain))) comma_list_format n.span n.params.items _)
    ∙ ap (λ z. type_params (λ x. items (g x)) types (punct (codes "(") (parameters (λ x. asks (g x)) (λ x. items (g x)) n (punct (codes ")") z)))) (result_mapped g items b n body types result after)

trailing_mapped : {X Y : Type 0} (g : X → Y) (asks : Y → Answers) (items : Y → Place → Part) (b : Box (functions.Function X) Global) (n : functions.Function X) (body : Option (BlockStmtBox X)) (types : Option (TsTypeParamDeclBox X)) (result : Option (TsTypeAnnBox X)) (rest : Plan) → node_items asks items (map-AnyNode X Y g (as_function b (with_parts n body types result))) (Whole Plain) rest ≡ fn_trailing (λ x. asks (g x)) (λ x. items (g x)) (with_parts n body types result) rest
unfolding node_items stmt_part function fn_trailing
trailing_mapped g asks items b n body types result rest =
    signature_mapped g asks items b n body types result _ ∙ ap (signature (λ x. asks (g x)) (λ x. items (g x)) n types result) (body_mapped g items b n body types result rest)

declared_mapped : {X Y : Type 0} (g : X → Y) (asks : Y → Answers) (items : Y → Place → Part) (b : Box (functions.Function X) Global) (n : functions.Function X) (body : Option (BlockStmtBox X)) (type_params : Option (TsTypeParamDeclBox X)) (return_type : Option (TsTypeAnnBox X)) (rest : Plan) → node_items asks items (map-AnyNode X Y g (nodes.StmtPart (stmt_parts.Function (record b { value = with_parts n body type_params return_type })))) (Only DeclarationTail) rest ≡ declaration_tail (λ x. asks (g x)) (λ x. items (g x)) (with_parts n body type_params return_type) rest
unfolding node_items stmt_part function declaration_tail break_without_body
declared_mapped g asks items b n None ps r rest = trailing_mapped g asks items b n None ps r (allow_break rest)
declared_mapped g asks items b n (Some body) ps r rest = trailing_mapped g asks items b n (Some body) ps r rest

in_order_mapped : {A B : Type 0} (g : A → B) (e : B → Part) (d : A → Part) → ((x : A) → e (g x) ≡ d x) → (xs : List A) (rest : Plan) → in_order e (map g xs) rest ≡ in_order d xs rest
unfolding in_order
in_order_mapped g e d same [] rest = refl
in_order_mapped g e d same (x ∷ xs) rest = ap (λ part. part (in_order e (map g xs) rest)) (same x) ∙ ap (d x) (in_order_mapped g e d same xs rest)

pub decorators_mapped : {X Y : Type 0} (g : Decorator X → Decorator Y) (items : Y → Place → Part) (put : X → Place → Part) → ((n : Decorator X) → decorator items (g n) ≡ decorator put n) → (ns : List (Decorator X)) (rest : Plan) → decorator_lines items (map g ns) rest ≡ decorator_lines put ns rest
decorators_mapped g items put same ns rest = in_order_mapped g (decorator items) (decorator put) same ns rest

tail_mapped : {X Y : Type 0} (g : X → Y) (asks : Y → Answers) (items : Y → Place → Part) (b : Box (functions.Function X) Global) (n : functions.Function X) (body : Option (BlockStmtBox X)) (types : Option (TsTypeParamDeclBox X)) (result : Option (TsTypeAnnBox X)) (rest : Plan) → node_items asks items (map-AnyNode X Y g (as_function b (with_parts n body types result))) (Only MethodTail) rest ≡ method_tail (λ x. asks (g x)) (λ x. items (g x)) (with_parts n body types result) rest
unfolding node_items stmt_part function method_tail
tail_mapped g asks items b n body types result rest =
    signature_mapped g asks items b n body types result _ ∙ ap (signature (λ x. asks (g x)) (λ x. items (g x)) n types result) (method_body_mapped g items b n body types result rest)

method_decorators_mapped : {X Y : Type 0} (g : X → Y) (asks : Y → Answers) (items : Y → Place → Part) (b : Box (functions.Function X) Global) (rest : Plan) → node_items asks items (map-AnyNode X Y g (nodes.StmtPart (stmt_parts.Function b))) (Only MethodDecorators) rest ≡ decorator_lines (λ x. items (g x)) b.value.decorators.items rest
unfolding node_items stmt_part function decorator
method_decorators_mapped g asks items b rest = decorators_mapped _ items (λ x. items (g x)) (λ d. refl) b.value.decorators.items rest

pub function_mapped : {X Y : Type 0} (g : X → Y) (asks : Y → Answers) (items : Y → Place → Part) (b : Box (functions.Function X) Global) (place : Place) (rest : Plan) → node_items asks items (map-AnyNode X Y g (nodes.StmtPart (stmt_parts.Function b))) place rest ≡ function (λ x. asks (g x)) (λ x. items (g x)) b.value place rest
unfolding node_items stmt_part function function_head declaration_head method_head static_head
function_mapped g asks items b (Only FunctionHead) rest = refl
function_mapped g asks items b (Only MethodHead) rest = refl
function_mapped g asks items b (Only DeclarationHead) rest = refl
function_mapped g asks items b (Only DeclarationTail) rest = declared_mapped g asks items b b.value b.value.body b.value.type_params b.value.return_type rest
function_mapped g asks items b (Only (StaticHead starts)) rest = refl
function_mapped g asks items b (Only MethodDecorators) rest = method_decorators_mapped g asks items b rest
function_mapped g asks items b (Only MethodTail) rest = tail_mapped g asks items b b.value b.value.body b.value.type_params b.value.return_type rest
function_mapped g asks items b place rest = trailing_mapped g asks items b b.value b.value.body b.value.type_params b.value.return_type rest

-- ---- blocks

statements_same : {X : Type 0} (context : Context) (n : BlockStmt X) (some other : Bool) (cs ds : List ListChild) (after : Plan) → some ≡ other → cs ≡ ds → leading_comments n.span.lo (block_start context n.span (punct (codes "{") (block_lines some n.span cs after))) ≡ leading_comments n.span.lo (block_start context n.span (punct (codes "{") (block_lines other n.span ds after)))
statements_same context n some other cs ds after e h =
    ap (λ z. leading_comments n.span.lo (block_start context n.span (punct (codes "{") (block_lines z n.span cs after)))) e
    ∙ ap (λ z. leading_comments n.span.lo (block_start context n.span (punct (codes "{") (block_lines other n.span z after)))) h

pub block_mapped : {X Y : Type 0} (g : X → Y) (asks : Y → Answers) (items : Y → Place → Part) (n : BlockStmt X) (place : Place) (rest : Plan) → node_items asks items (map-AnyNode X Y g (nodes.StmtPart (stmt_parts.BlockStmt n))) place rest ≡ block_stmt (λ x. asks (g x)) (λ x. items (g x)) n (context_of place) rest
unfolding node_items node_span stmt_part block_stmt
block_mapped {X} g asks items n place rest = statements_same (context_of place) n _ _ _ _ _ (some_mapped _ n.stmts.items) (list_mapped {A = Stmt X} _ _ (child_of (stmt_span (place_of (λ x. asks (g x)))) (λ s place. stmt (λ x. asks (g x)) (λ x. items (g x)) s)) (stmt_child_mapped g asks items) n.stmts.items)

-- ---- arrow functions

only_mapped : {X Y : Type 0} (g : PatBox X → PatBox Y) (test : PatternKind → Bool) (asks : Y → Answers) (known : X → Answers) → ((n : PatBox X) → (asks (g n).node.value).pattern ≡ (known n.node.value).pattern) → (ns : List (PatBox X)) → is_only test asks (map g ns) ≡ is_only test known ns
unfolding is_only
only_mapped g test asks known same [] = refl
only_mapped g test asks known same (n ∷ []) = ap test (same n)
only_mapped g test asks known same (n ∷ m ∷ ns) = refl

abbrev head_of : {X : Type 0} → ArrowExpr X → Bool → Plan → Plan
head_of n named z = leading_comments n.span.lo (start_of n.span (async_arrow n.is_async named (star n.is_generator z)))

abbrev params_of : {X : Type 0} → ArrowExpr X → Bool → (Maps → Bool) → List ListChild → Plan → Plan
params_of n plain behind cs after = by_maps (λ maps. arrow_within (plain && not (behind maps)) n.span cs) after

behind_mapped : {X Y : Type 0} (g : PatBox X → PatBox Y) (asks : Y → Answers) (known : X → Answers) → ((n : PatBox X) → (asks (g n).node.value).place ≡ (known n.node.value).place) → (ns : List (PatBox X)) → has_comment_behind asks (map g ns) ≡ has_comment_behind known ns
unfolding has_comment_behind
behind_mapped g asks known same [] = refl
behind_mapped g asks known same (n ∷ []) = ap has_comment_after (same n)
behind_mapped g asks known same (n ∷ m ∷ ns) = refl

arrow_same : {X : Type 0} (n : ArrowExpr X) (named other : Bool) (plain bare : Bool) (behind beyond : Maps → Bool) (cs ds : List ListChild) (after : Plan) → named ≡ other → plain ≡ bare → behind ≡ beyond → cs ≡ ds → head_of n named (params_of n plain behind cs after) ≡ head_of n other (params_of n bare beyond ds after)
arrow_same n named other plain bare behind beyond cs ds after e k b h = ap (λ z. head_of n z (params_of n plain behind cs after)) e ∙ ap (λ z. head_of n other (params_of n z behind cs after)) k ∙ ap (λ z. head_of n other (params_of n bare z cs after)) b ∙ ap (λ z. head_of n other (params_of n bare beyond z after)) h

-- with types around them its parameters have their parentheses
abbrev typed_head : {X : Type 0} → ArrowExpr X → (Plan → Plan) → Bool → List ListChild → Plan → Plan
typed_head n before named cs after = head_of n named (before (by_maps (λ maps. arrow_within false n.span cs) after))

typed_same : {X : Type 0} (n : ArrowExpr X) (before : Plan → Plan) (named other : Bool) (cs ds : List ListChild) (after : Plan) → named ≡ other → cs ≡ ds → typed_head n before named cs after ≡ typed_head n before other ds after
typed_same n before named other cs ds after e h = ap (λ z. typed_head n before z cs after) e ∙ ap (λ z. typed_head n before other z after) h

-- `async (a, b)` and `async a`, by the parameters
abbrev bare_head : {X Z : Type 0} → (X → Answers) → (X → Place → Part) → ArrowExpr Z → List (PatBox X) → Part
bare_head asks items n ps = λ rest. head_of n (is_only is_name asks ps) (params_of n (is_only is_plain asks ps) (has_comment_behind asks ps) (map (child_of (λ p. (asks p.node.value).place) (λ p place. items p.node.value place)) ps) rest)

-- `async <A>(a, b)`, with types behind the parameters or before them
abbrev head_between : {X Z : Type 0} → (X → Answers) → (X → Place → Part) → ArrowExpr Z → (Plan → Plan) → List (PatBox X) → Part
head_between asks items n before ps = λ rest. typed_head n before (is_only is_name asks ps) (map (child_of (λ p. (asks p.node.value).place) (λ p place. items p.node.value place)) ps) rest

-- ` => ` and what stands behind it
abbrev arrow_behind : {X : Type 0} → ArrowExpr X → Part → Part
arrow_behind n body rest = punct (codes "=>") (body (trailing_comments true n.span.hi rest))

-- with type parameters
arrow_between_mapped : {X Y : Type 0} (g : X → Y) (asks : Y → Answers) (items : Y → Place → Part) (b : Box (ArrowExpr X) Global) (n : ArrowExpr X) (place : Place) (q : TsTypeParamDeclBox X) (return_type : Option (TsTypeAnnBox X)) (body : BlockStmtOrExpr X) (rest : Plan) → node_items asks items (map-AnyNode X Y g (nodes.Expr (exprs.Arrow (record b { value = record n { body = body; type_params = Some q; return_type = return_type } })))) place rest ≡ expr (λ x. asks (g x)) (λ x. items (g x)) (exprs.Arrow (record b { value = record n { body = body; type_params = Some q; return_type = return_type } })) (context_of place) rest
unfolding node_items expr expr_parts expr_closed expr_span leaves_comments placed_expr is_wrapped is_sequence arrow_expr arrow_parameters arrow_body arrow_result type_params
arrow_between_mapped {X} g asks items b n place q =
    by_three (map _) (head_between asks items n (items (g q.node.value) (Whole Plain))) (head_between (λ x. asks (g x)) (λ x. items (g x)) n (items (g q.node.value) (Whole Plain))) _ (arrow_result items) (arrow_result (λ x. items (g x))) _ (arrow_body items) (arrow_body (λ x. items (g x)))
    (λ ps r m rest. ps (r (arrow_behind n m rest))) (λ ps z. typed_same n (items (g q.node.value) (Whole Plain)) _ _ _ _ z (only_mapped _ is_name asks (λ x. asks (g x)) (λ p. refl) ps) (list_mapped {A = PatBox X} _ _ (child_of (λ p. (asks (g p.node.value)).place) (λ p place. items (g p.node.value) place)) (λ p. refl) ps)) (elim [ None ↦ λ z. refl | Some t ↦ λ z. refl ]) (elim [ bodies.BlockStmt m ↦ λ z. refl | bodies.Expr m ↦ λ z. refl ]) n.params.items

arrow_mapped : {X Y : Type 0} (g : X → Y) (asks : Y → Answers) (items : Y → Place → Part) (b : Box (ArrowExpr X) Global) (n : ArrowExpr X) (place : Place) (type_params : Option (TsTypeParamDeclBox X)) (return_type : Option (TsTypeAnnBox X)) (body : BlockStmtOrExpr X) (rest : Plan) → node_items asks items (map-AnyNode X Y g (nodes.Expr (exprs.Arrow (record b { value = record n { body = body; type_params = type_params; return_type = return_type } })))) place rest ≡ expr (λ x. asks (g x)) (λ x. items (g x)) (exprs.Arrow (record b { value = record n { body = body; type_params = type_params; return_type = return_type } })) (context_of place) rest
unfolding node_items expr expr_parts expr_closed expr_span leaves_comments placed_expr is_wrapped is_sequence arrow_expr arrow_parameters arrow_body arrow_result type_params
arrow_mapped {X} g asks items b n place None None = by_two (map _) (bare_head asks items n) (bare_head (λ x. asks (g x)) (λ x. items (g x)) n) _ (arrow_body items) (arrow_body (λ x. items (g x)))
    (λ ps m rest. ps (arrow_behind n m rest)) (λ ps z. arrow_same n _ _ _ _ _ _ _ _ z (only_mapped _ is_name asks (λ x. asks (g x)) (λ p. refl) ps) (only_mapped _ is_plain asks (λ x. asks (g x)) (λ p. refl) ps) (behind_mapped _ asks (λ x. asks (g x)) (λ p. refl) ps) (list_mapped {A = PatBox X} _ _ (child_of (λ p. (asks (g p.node.value)).place) (λ p place. items (g p.node.value) place)) (λ p. refl) ps)) (elim [ bodies.BlockStmt m ↦ λ z. refl | bodies.Expr m ↦ λ z. refl ]) n.params.items
arrow_mapped {X} g asks items b n place None (Some t) = by_two (map _) (head_between asks items n (λ z. z)) (head_between (λ x. asks (g x)) (λ x. items (g x)) n (λ z. z)) _ (arrow_body items) (arrow_body (λ x. items (g x)))
    (λ ps m rest. ps (punct (codes ":") (formatting_space (items (g t.node.value) (Whole Plain) (formatting_space (arrow_behind n m rest)))))) (λ ps z. typed_same n (λ z. z) _ _ _ _ z (only_mapped _ is_name asks (λ x. asks (g x)) (λ p. refl) ps) (list_mapped {A = PatBox X} _ _ (child_of (λ p. (asks (g p.node.value)).place) (λ p place. items (g p.node.value) place)) (λ p. refl) ps)) (elim [ bodies.BlockStmt m ↦ λ z. refl | bodies.Expr m ↦ λ z. refl ]) n.params.items
arrow_mapped g asks items b n place (Some q) result = arrow_between_mapped g asks items b n place q result

pub arrow_expr_mapped : {X Y : Type 0} (g : X → Y) (asks : Y → Answers) (items : Y → Place → Part) (b : Box (ArrowExpr X) Global) (place : Place) (rest : Plan) → node_items asks items (map-AnyNode X Y g (nodes.Expr (exprs.Arrow b))) place rest ≡ expr (λ x. asks (g x)) (λ x. items (g x)) (exprs.Arrow b) (context_of place) rest
arrow_expr_mapped g asks items b place rest = arrow_mapped g asks items b b.value place b.value.type_params b.value.return_type b.value.body rest
