-- What is written of declarations sees what links hold through `asks` and `items` alone.
use Rattle.std.proofs.Common.{◌≡◌, refl, ◌∙◌, ap, List, [], ◌∷◌, map, codes, Bool, true, false, Option, Some, None}
use Rattle.swc_ecma_codegen_common.specs.declared.positions.Span.{Span}
use Rattle.swc_ecma_codegen_tree.specs.declared.links.AnyNode.{AnyNode-F, map-AnyNode}
use Rattle.swc_ecma_codegen_tree.specs.declared.links.AnyNode.TheOpen as nodes
use Rattle.swc_ecma_codegen_tree.specs.Links.{TsTypeAnnBox}
use Rattle.swc_ecma_codegen_tree.specs.declared.idents.Ident.{Ident}
use Rattle.swc_ecma_codegen_tree.specs.declared.parts.ExprPart.TheVariants as expr_parts
use Rattle.swc_ecma_codegen_tree.specs.declared.parts.StmtPart.TheVariants as stmt_parts
use Rattle.swc_ecma_codegen_tree.specs.declared.pats.Pat.{Pat}
use Rattle.swc_ecma_codegen_tree.specs.declared.pats.Pat.TheVariants as pats
use Rattle.swc_ecma_codegen_tree.specs.declared.decls.Decl.{Decl}
use Rattle.swc_ecma_codegen_tree.specs.declared.decls.Decl.TheVariants as decls
use Rattle.swc_ecma_codegen_tree.specs.declared.decls.VarDecl.{VarDecl}
use Rattle.swc_ecma_codegen_tree.specs.declared.decls.VarDeclarator.{VarDeclarator}
use Rattle.swc_ecma_codegen_spans.specs.Spans.{class_decl_span, fn_decl_span, decl_span, stmt_part_span, node_span}
use Rattle.swc_ecma_codegen_grammar.proofs.MappedStmts.{by_init}
use Rattle.swc_ecma_codegen_tokens.specs.Lists.{ListChild, list}
use Rattle.swc_ecma_codegen_tokens.specs.Run.{Plan, Part}
use Rattle.swc_ecma_codegen_tokens.specs.Words.{keyword, semi, space, commit_pending_semi, start_of, leading_comments}
use Rattle.swc_ecma_codegen_emit.specs.declared.nodes.Context.{Context}
use Rattle.swc_ecma_codegen_emit.specs.declared.nodes.Context.TheVariants.{Plain}
use Rattle.swc_ecma_codegen_emit.specs.declared.nodes.Piece.TheVariants.{ExportedHead, ExportedTail}
use Rattle.swc_ecma_codegen_emit.specs.Places.{Place, Whole, Only, context_of}
use Rattle.swc_ecma_codegen_emit.specs.Answers.{Answers, place_of}
use Rattle.swc_ecma_codegen_emit.specs.Decls.{declarators_format, fn_decl, var_declarator, declarator_place, var_kind, is_unmarked, first_is_unmarked, var_decl, await_word, using_decl, decl_end, exported_class, exported_head, exported_tail, variables, resources, whole_decl, decl}
use Rattle.swc_ecma_codegen_emit.specs.Classes.{class_decl}
use Rattle.swc_ecma_codegen_emit.specs.TsDecls.{declare_word}
use Rattle.swc_ecma_codegen_emit.proofs.MappedTsDecls.{interface_mapped, alias_mapped, enum_mapped, module_mapped}
use Rattle.swc_ecma_codegen_emit.specs.Exprs.{blank, opened}
use Rattle.swc_ecma_codegen_emit.specs.Lists.{child_at, child_of}
use Rattle.swc_ecma_codegen_emit.specs.Parts.{expr_part, stmt_part}
use Rattle.swc_ecma_codegen_emit.specs.Annotations.{annotation}
use Rattle.swc_ecma_codegen_emit.specs.Pats.{initializer, definite_ident, definite_pat, declared_pat}
use Rattle.swc_ecma_codegen_emit.specs.Patterns.{pat_kind, part_pattern, node_pattern}
use Rattle.swc_ecma_codegen_emit.specs.Tree.{node_items}
use Rattle.swc_ecma_codegen_emit.proofs.MappedPats.{children_mapped, pat_mapped, pat_kind_mapped}

-- a declarator, as a child of a list
abbrev pub declarator_child : {X : Type 0} → (X → Answers) → (X → Place → Part) → VarDeclarator X → ListChild
declarator_child asks items = child_of declarator_place (λ n place. var_declarator asks items n)

-- the same, by its parts
pub declarator_same : (span : Span) (p q : Part) (after : Part) → ((rest : Plan) → p rest ≡ q rest) → child_at span (λ rest. opened span (p (after rest))) ≡ child_at span (λ rest. opened span (q (after rest)))
declarator_same span p q after h = λ i. child_at span (λ rest. opened span (h (after rest) i))

-- what is declared, as a part that a link holds
abbrev declared_in : {X : Type 0} → (X → Answers) → (X → Place → Part) → Bool → AnyNode-F X → Part
declared_in asks items definite (nodes.ExprPart (expr_parts.Pat n)) rest = declared_pat asks items definite n rest
declared_in asks items definite n rest = rest

definite_mapped : {X Y : Type 0} (g : X → Y) (asks : Y → Answers) (items : Y → Place → Part) (id : Ident) (type_ann : Option (TsTypeAnnBox X)) (rest : Plan) → declared_in asks items true (map-AnyNode X Y g (nodes.ExprPart (expr_parts.Pat (pats.Ident (record { id = id; type_ann = type_ann }))))) rest ≡ definite_pat (λ x. asks (g x)) (λ x. items (g x)) (pats.Ident (record { id = id; type_ann = type_ann })) rest
unfolding declared_pat definite_pat definite_ident annotation
definite_mapped g asks items id None rest = refl
definite_mapped g asks items id (Some t) rest = refl

pub declared_pat_mapped : {X Y : Type 0} (g : X → Y) (asks : Y → Answers) (items : Y → Place → Part) (definite : Bool) (n : Pat X) (rest : Plan) → declared_in asks items definite (map-AnyNode X Y g (nodes.ExprPart (expr_parts.Pat n))) rest ≡ declared_pat (λ x. asks (g x)) (λ x. items (g x)) definite n rest
unfolding node_items expr_part declared_pat definite_pat
declared_pat_mapped g asks items false n rest = pat_mapped g asks items n (Whole Plain) rest
declared_pat_mapped g asks items true (pats.Ident n) rest = definite_mapped g asks items n.id n.type_ann rest
declared_pat_mapped g asks items true n rest = pat_mapped g asks items n (Whole Plain) rest

first_mapped : {X Y : Type 0} (g : VarDeclarator X → VarDeclarator Y) → ((n : VarDeclarator X) → pat_kind (g n).name ≡ pat_kind n.name) → (ns : List (VarDeclarator X)) → first_is_unmarked (map g ns) ≡ first_is_unmarked ns
unfolding first_is_unmarked
first_mapped g same [] = refl
first_mapped g same (n ∷ ns) = ap is_unmarked (same n)

-- the declarators behind a word: where the first begins with no mark a blank is due
declared_mapped : {X Y : Type 0} (g : VarDeclarator X → VarDeclarator Y) (e : VarDeclarator Y → ListChild) (d : VarDeclarator X → ListChild) → ((n : VarDeclarator X) → pat_kind (g n).name ≡ pat_kind n.name) → ((n : VarDeclarator X) → e (g n) ≡ d n) → (span : Span) (ns : List (VarDeclarator X)) (after : Plan) → blank (first_is_unmarked (map g ns)) (list declarators_format span (map e (map g ns)) after) ≡ blank (first_is_unmarked ns) (list declarators_format span (map d ns) after)
declared_mapped g e d same child span ns after =
    ap (λ b. blank b (list declarators_format span (map e (map g ns)) after)) (first_mapped g same ns)
    ∙ ap (blank (first_is_unmarked ns)) (children_mapped g e d child declarators_format span ns after)

pub var_decl_mapped : {X Y : Type 0} (g : X → Y) (asks : Y → Answers) (items : Y → Place → Part) (n : VarDecl X) (place : Place) (rest : Plan) → node_items asks items (map-AnyNode X Y g (nodes.StmtPart (stmt_parts.VarDecl n))) place rest ≡ var_decl (λ x. asks (g x)) (λ x. items (g x)) n rest
unfolding node_items expr_part node_pattern part_pattern stmt_part var_decl var_declarator initializer
var_decl_mapped {X} {Y} g asks items n place rest = ap (λ z. leading_comments n.span.lo (commit_pending_semi (start_of n.span (declare_word n.declare (var_kind n.kind z)))))
    (declared_mapped {X = X} {Y = Y} _ _ _ (λ d. pat_kind_mapped g d.name) (by_init {X = X} _ (λ span name definite. declarator_same span _ (declared_pat (λ x. asks (g x)) (λ x. items (g x)) definite name) (λ after. after) (declared_pat_mapped g asks items definite name)) (λ span name init definite. declarator_same span _ (declared_pat (λ x. asks (g x)) (λ x. items (g x)) definite name) (initializer (λ x. items (g x)) (Some init)) (declared_pat_mapped g asks items definite name))) n.span n.decls.items rest)

whole_mapped : {X Y : Type 0} (g : X → Y) (asks : Y → Answers) (items : Y → Place → Part) (n : Decl X) (context : Context) (rest : Plan) → node_items asks items (map-AnyNode X Y g (nodes.StmtPart (stmt_parts.Decl n))) (Whole context) rest ≡ whole_decl (λ x. asks (g x)) (λ x. items (g x)) n context rest
unfolding node_items expr_part stmt_part decl whole_decl variables resources class_decl fn_decl using_decl var_declarator initializer
whole_mapped g asks items (decls.Fn n) context rest = refl
whole_mapped g asks items (decls.Var n) context rest = var_decl_mapped g asks items n (Whole context) (semi (decl_end context n.span rest))
whole_mapped {X} g asks items (decls.Using n) context rest = ap (λ z. leading_comments n.span.lo (await_word n.is_await (keyword None (codes "using") (space z))))
    (children_mapped {A = VarDeclarator X} _ _ _ (by_init {X = X} _ (λ span name definite. declarator_same span _ (declared_pat (λ x. asks (g x)) (λ x. items (g x)) definite name) (λ after. after) (declared_pat_mapped g asks items definite name)) (λ span name init definite. declarator_same span _ (declared_pat (λ x. asks (g x)) (λ x. items (g x)) definite name) (initializer (λ x. items (g x)) (Some init)) (declared_pat_mapped g asks items definite name))) declarators_format n.span n.decls.items (semi rest))
whole_mapped g asks items (decls.TsInterface n) context rest = interface_mapped g asks items n rest
whole_mapped g asks items (decls.TsTypeAlias n) context rest = alias_mapped g asks items n rest
whole_mapped g asks items (decls.TsEnum n) context rest = enum_mapped g asks items n rest
whole_mapped g asks items (decls.TsModule n) context rest = module_mapped g asks items n rest
whole_mapped g asks items n context rest = refl

head_mapped : {X Y : Type 0} (g : X → Y) (asks : Y → Answers) (items : Y → Place → Part) (n : Decl X) (rest : Plan) → node_items asks items (map-AnyNode X Y g (nodes.StmtPart (stmt_parts.Decl n))) (Only ExportedHead) rest ≡ exported_head (λ x. items (g x)) n rest
unfolding node_items stmt_part decl exported_head
head_mapped g asks items (decls.Class n) rest = refl
head_mapped g asks items n rest = refl

tail_mapped : {X Y : Type 0} (g : X → Y) (asks : Y → Answers) (items : Y → Place → Part) (n : Decl X) (rest : Plan) → node_items asks items (map-AnyNode X Y g (nodes.StmtPart (stmt_parts.Decl n))) (Only ExportedTail) rest ≡ exported_tail (λ x. asks (g x)) (λ x. items (g x)) n rest
unfolding node_items stmt_part decl exported_tail exported_class
tail_mapped g asks items (decls.Class n) rest = refl
tail_mapped g asks items n rest = whole_mapped g asks items n Plain rest

pub decl_mapped : {X Y : Type 0} (g : X → Y) (asks : Y → Answers) (items : Y → Place → Part) (n : Decl X) (place : Place) (rest : Plan) → node_items asks items (map-AnyNode X Y g (nodes.StmtPart (stmt_parts.Decl n))) place rest ≡ decl (λ x. asks (g x)) (λ x. items (g x)) n place rest
unfolding node_items stmt_part decl
decl_mapped g asks items n (Only ExportedHead) rest = head_mapped g asks items n rest
decl_mapped g asks items n (Only ExportedTail) rest = tail_mapped g asks items n rest
decl_mapped g asks items n place rest = whole_mapped g asks items n (context_of place) rest

pub decl_placed : {X Y : Type 0} (g : X → Y) (asks : Y → Answers) (n : Decl X) → node_span (place_of asks) (map-AnyNode X Y g (nodes.StmtPart (stmt_parts.Decl n))) ≡ decl_span (place_of (λ x. asks (g x))) n
unfolding node_span stmt_part_span decl_span class_decl_span fn_decl_span
decl_placed g asks (decls.Var n) = refl
decl_placed g asks n = refl
