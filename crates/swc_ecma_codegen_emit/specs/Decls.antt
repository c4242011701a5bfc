-- What is written of declarations.
use Rattle.std.specs.Prelude.{ℕ, Bool, true, false, if◌then◌else◌, List, [], ◌∷◌, map, codes, None}
use Rattle.swc_ecma_codegen_common.specs.declared.positions.Span.{Span}
use Rattle.swc_ecma_codegen_tree.specs.declared.decls.ClassDecl.{ClassDecl}
use Rattle.swc_ecma_codegen_tree.specs.declared.decls.Decl.{Decl}
use Rattle.swc_ecma_codegen_tree.specs.declared.decls.Decl.TheVariants as decls
use Rattle.swc_ecma_codegen_tree.specs.declared.decls.FnDecl.{FnDecl}
use Rattle.swc_ecma_codegen_tree.specs.declared.decls.UsingDecl.{UsingDecl}
use Rattle.swc_ecma_codegen_tree.specs.declared.decls.VarDecl.{VarDecl}
use Rattle.swc_ecma_codegen_tree.specs.declared.decls.VarDeclKind.{VarDeclKind}
use Rattle.swc_ecma_codegen_tree.specs.declared.decls.VarDeclKind.TheVariants.{Var, Let, Const}
use Rattle.swc_ecma_codegen_tree.specs.declared.decls.VarDeclarator.{VarDeclarator}
use Rattle.swc_ecma_codegen_tokens.specs.Run.{Part}
use Rattle.swc_ecma_codegen_tokens.specs.Lists.{list}
use Rattle.swc_ecma_codegen_tokens.specs.Words.{keyword, semi, space, commit_pending_semi, start_of, end_of, leading_comments}
use Rattle.swc_ecma_codegen_emit.specs.declared.nodes.Context.{Context}
use Rattle.swc_ecma_codegen_emit.specs.declared.nodes.Context.TheVariants.{Plain, Statement}
use Rattle.swc_ecma_codegen_emit.specs.declared.nodes.Piece.TheVariants.{ClassHead, ClassWord, DeclarationHead, DeclarationTail, ExportedHead, ExportedTail}
use Rattle.swc_ecma_codegen_emit.specs.Places.{Place, Whole, Only, context_of}
use Rattle.swc_ecma_codegen_emit.specs.declared.patterns.PatternKind.{PatternKind}
use Rattle.swc_ecma_codegen_emit.specs.declared.patterns.PatternKind.TheVariants.{Marked}
use Rattle.swc_ecma_codegen_emit.specs.Answers.{Answers}
use Rattle.swc_ecma_codegen_emit.specs.Classes.{class_decl}
use Rattle.swc_ecma_codegen_emit.specs.Exprs.{blank, opened, ident}
use Rattle.swc_ecma_codegen_emit.specs.Lists.{child_of}
use Rattle.swc_ecma_codegen_emit.specs.Pats.{declared_pat, initializer}
use Rattle.swc_ecma_codegen_emit.specs.Patterns.{pat_kind}
use Rattle.swc_ecma_codegen_emit.specs.TsDecls.{declare_word, ts_interface_decl, ts_type_alias_decl, ts_enum_decl, ts_module_decl}

-- `VariableDeclarationList`
abbrev pub declarators_format : ℕ
declarators_format = 272

-- `function f(a) { b; }`, `declare function f(a);`
unfoldable pub fn_decl : {X : Type 0} → (X → Answers) → (X → Place → Part) → FnDecl X → Part
fn_decl asks items n rest =
    let function = n.function.node.value in
    leading_comments (asks function).place.lo
    (commit_pending_semi
    (start_of (asks function).place
    (declare_word n.declare (items function (Only DeclarationHead) (ident n.ident (items function (Only DeclarationTail) rest))))))

-- `a`, `a = b`, `a!: A`
unfoldable pub var_declarator : {X : Type 0} → (X → Answers) → (X → Place → Part) → VarDeclarator X → Part
var_declarator asks items n rest = opened n.span (declared_pat asks items n.definite n.name (initializer items n.init rest))

abbrev pub declarator_place : {X : Type 0} → VarDeclarator X → Span
declarator_place n = n.span

-- `a = b, c`
abbrev pub declarators : {X : Type 0} → (X → Answers) → (X → Place → Part) → Span → List (VarDeclarator X) → Part
declarators asks items span ns = list declarators_format span (map (child_of declarator_place (λ n place. var_declarator asks items n)) ns)

unfoldable pub var_kind : VarDeclKind → Part
var_kind Var rest = keyword None (codes "var") rest
var_kind Let rest = keyword None (codes "let") rest
var_kind Const rest = keyword None (codes "const") rest

-- a pattern begins with no mark
unfoldable pub is_unmarked : PatternKind → Bool
is_unmarked Marked = false
is_unmarked kind = true

-- so does the first that is declared
unfoldable pub first_is_unmarked : {X : Type 0} → List (VarDeclarator X) → Bool
first_is_unmarked [] = true
first_is_unmarked (n ∷ ns) = is_unmarked (pat_kind n.name)

-- `let a = b, c`, minified `let[a]=b`
unfoldable pub var_decl : {X : Type 0} → (X → Answers) → (X → Place → Part) → VarDecl X → Part
var_decl asks items n rest =
    leading_comments n.span.lo
    (commit_pending_semi
    (start_of n.span
    (declare_word n.declare (var_kind n.kind (blank (first_is_unmarked n.decls.items) (declarators asks items n.span n.decls.items rest))))))

-- `await` and a blank, where it is so
unfoldable pub await_word : Bool → Part
await_word wanted rest = if wanted then keyword None (codes "await") (space rest) else rest

-- `await using a = b`
unfoldable pub using_decl : {X : Type 0} → (X → Answers) → (X → Place → Part) → UsingDecl X → Part
using_decl asks items n rest = leading_comments n.span.lo (await_word n.is_await (keyword None (codes "using") (space (declarators asks items n.span n.decls.items rest))))

-- the end of one of variables is recorded, unless it is a statement
unfoldable pub decl_end : Context → Span → Part
decl_end Statement span rest = rest
decl_end context span rest = end_of span rest

-- `class A {}` of `@b export class A {}`: decorators stand before the word
unfoldable pub exported_class : {X : Type 0} → (X → Answers) → (X → Place → Part) → ClassDecl X → Part
exported_class asks items n rest =
    let class = n.class.node.value in
    leading_comments (asks class).place.lo
    (start_of (asks class).place
    (declare_word n.declare (items class (Only ClassWord) (space (ident n.ident (items class (Whole Plain) rest))))))

-- `let a = b;`
unfoldable pub variables : {X : Type 0} → (X → Answers) → (X → Place → Part) → VarDecl X → Context → Part
variables asks items n context rest = var_decl asks items n (semi (decl_end context n.span rest))

-- `using a = b;`
unfoldable pub resources : {X : Type 0} → (X → Answers) → (X → Place → Part) → UsingDecl X → Part
resources asks items n rest = using_decl asks items n (semi rest)

-- a declaration by its variant
unfoldable pub whole_decl : {X : Type 0} → (X → Answers) → (X → Place → Part) → Decl X → Context → Part
whole_decl asks items (decls.Class n) context rest = class_decl asks items n rest
whole_decl asks items (decls.Fn n) context rest = fn_decl asks items n rest
whole_decl asks items (decls.Var n) context rest = variables asks items n context rest
whole_decl asks items (decls.Using n) context rest = resources asks items n rest
whole_decl asks items (decls.TsInterface n) context rest = ts_interface_decl items n.value rest
whole_decl asks items (decls.TsTypeAlias n) context rest = ts_type_alias_decl items n.value rest
whole_decl asks items (decls.TsEnum n) context rest = ts_enum_decl items n.value rest
whole_decl asks items (decls.TsModule n) context rest = ts_module_decl items n.value rest

-- what of it stands before `export`: `@a` of a class, of another nothing
unfoldable pub exported_head : {X : Type 0} → (X → Place → Part) → Decl X → Part
exported_head items (decls.Class n) rest = items n.class.node.value (Only ClassHead) rest
exported_head items n rest = rest

-- and what stands after it
unfoldable pub exported_tail : {X : Type 0} → (X → Answers) → (X → Place → Part) → Decl X → Part
exported_tail asks items (decls.Class n) rest = exported_class asks items n rest
exported_tail asks items n rest = whole_decl asks items n Plain rest

-- the whole, or what of it is exported beside the word
unfoldable pub decl : {X : Type 0} → (X → Answers) → (X → Place → Part) → Decl X → Place → Part
decl asks items n (Only ExportedHead) rest = exported_head items n rest
decl asks items n (Only ExportedTail) rest = exported_tail asks items n rest
decl asks items n place rest = whole_decl asks items n (context_of place) rest
