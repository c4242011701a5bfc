-- Decls: a law of the words holds of the plan.
use Rattle.std.proofs.Common.{refl}
use Rattle.swc_ecma_codegen_laws.proofs.Children.{children_hold}
use Rattle.std.specs.Prelude.{Bool, List, map, codes, None}
use Rattle.swc_ecma_codegen_common.specs.declared.positions.Span.{Span}
use Rattle.swc_ecma_codegen_tree.specs.declared.decls.ClassDecl.{ClassDecl}
use Rattle.swc_ecma_codegen_tree.specs.declared.decls.Decl.{Decl}
use Rattle.swc_ecma_codegen_tree.specs.declared.decls.Decl.TheVariants as decls
use Rattle.swc_ecma_codegen_tree.specs.declared.decls.FnDecl.{FnDecl}
use Rattle.swc_ecma_codegen_tree.specs.declared.decls.UsingDecl.{UsingDecl}
use Rattle.swc_ecma_codegen_tree.specs.declared.decls.VarDecl.{VarDecl}
use Rattle.swc_ecma_codegen_tree.specs.declared.decls.VarDeclKind.{VarDeclKind}
use Rattle.swc_ecma_codegen_tree.specs.declared.decls.VarDeclKind.TheVariants.{Var, Let, Const}
use Rattle.swc_ecma_codegen_tree.specs.declared.decls.VarDeclarator.{VarDeclarator}
use Rattle.swc_ecma_codegen_tokens.specs.Run.{Part}
use Rattle.swc_ecma_codegen_emit.specs.declared.nodes.Context.{Context}
use Rattle.swc_ecma_codegen_emit.specs.declared.nodes.Context.TheVariants.{Plain, Statement}
use Rattle.swc_ecma_codegen_emit.specs.declared.nodes.Piece.TheVariants.{ClassHead, ClassWord, DeclarationHead, DeclarationTail, ExportedHead, ExportedTail}
use Rattle.swc_ecma_codegen_emit.specs.Places.{Place, Whole, Only, context_of}
use Rattle.swc_ecma_codegen_emit.specs.Lists.{child_of}
use Rattle.swc_ecma_codegen_laws.proofs.OfWords.{OfWords, Known, asks_in, items_in, either}
use Rattle.swc_ecma_codegen_emit.specs.Decls.{declarators_format, fn_decl, var_declarator, declarator_place, declarators, var_kind, first_is_unmarked, var_decl, await_word, using_decl, decl_end, exported_class, exported_head, exported_tail, variables, resources, whole_decl, decl}
use Rattle.swc_ecma_codegen_laws.proofs.ClassesLifted.{class_decl_holds}
use Rattle.swc_ecma_codegen_laws.proofs.ExprsLifted.{blank_holds, ident_holds, opened_holds}
use Rattle.swc_ecma_codegen_laws.proofs.PatsLifted.{declared_pat_holds, initializer_holds}
use Rattle.swc_ecma_codegen_laws.proofs.TsDeclsLifted.{declare_word_holds, ts_enum_decl_holds, ts_interface_decl_holds, ts_module_decl_holds, ts_type_alias_decl_holds}

pub fn_decl_holds : {X : Type 0} {holds : Bool → Part → Type 0} (known : Known holds X) (bounded : Bool) (n : FnDecl X) → holds bounded (fn_decl (asks_in known) (items_in known) n)
unfolding fn_decl
fn_decl_holds known bounded n = known.words.and_then bounded (known.words.leading_comments bounded ((asks_in known) n.function.node.value).place.lo) (known.words.and_then bounded (known.words.commit_pending_semi bounded) (known.words.and_then bounded (known.words.position bounded ((asks_in known) n.function.node.value).place.lo) (known.words.and_then bounded (declare_word_holds known.words bounded n.declare) (known.words.and_then bounded (known.law bounded n.function.node.value (Only DeclarationHead)) (known.words.and_then bounded (ident_holds known.words bounded n.ident) (known.law bounded n.function.node.value (Only DeclarationTail)))))))

pub var_declarator_holds : {X : Type 0} {holds : Bool → Part → Type 0} (known : Known holds X) (bounded : Bool) (n : VarDeclarator X) → holds bounded (var_declarator (asks_in known) (items_in known) n)
unfolding var_declarator
var_declarator_holds known bounded n = known.words.and_then bounded (opened_holds known.words bounded n.span) (known.words.and_then bounded (declared_pat_holds known bounded n.definite n.name) (initializer_holds known bounded n.init))

pub declarators_holds : {X : Type 0} {holds : Bool → Part → Type 0} (known : Known holds X) (bounded : Bool) (span : Span) (ns : List (VarDeclarator X)) → holds bounded (declarators (asks_in known) (items_in known) span ns)
declarators_holds known bounded span ns = known.words.list bounded declarators_format refl span (map (child_of declarator_place (λ n place. var_declarator (asks_in known) (items_in known) n)) ns) (children_hold _ _ declarator_place (λ n place. var_declarator (asks_in known) (items_in known) n) (λ n. (var_declarator_holds known bounded n)) ns)

pub var_kind_holds : {holds : Bool → Part → Type 0} (words : OfWords holds) (bounded : Bool) (x0 : VarDeclKind) → holds bounded (var_kind x0)
unfolding var_kind
var_kind_holds words bounded Var = words.keyword bounded None (codes "var")
var_kind_holds words bounded Let = words.keyword bounded None (codes "let")
var_kind_holds words bounded Const = words.keyword bounded None (codes "const")

pub var_decl_holds : {X : Type 0} {holds : Bool → Part → Type 0} (known : Known holds X) (bounded : Bool) (n : VarDecl X) → holds bounded (var_decl (asks_in known) (items_in known) n)
unfolding var_decl
var_decl_holds known bounded n = known.words.and_then bounded (known.words.leading_comments bounded n.span.lo) (known.words.and_then bounded (known.words.commit_pending_semi bounded) (known.words.and_then bounded (known.words.position bounded n.span.lo) (known.words.and_then bounded (declare_word_holds known.words bounded n.declare) (known.words.and_then bounded (var_kind_holds known.words bounded n.kind) (known.words.and_then bounded (blank_holds known.words bounded (first_is_unmarked n.decls.items)) (declarators_holds known bounded n.span n.decls.items))))))

pub await_word_holds : {holds : Bool → Part → Type 0} (words : OfWords holds) (bounded : Bool) (wanted : Bool) → holds bounded (await_word wanted)
unfolding await_word
await_word_holds words bounded wanted = either words bounded wanted (words.and_then bounded (words.keyword bounded None (codes "await")) (words.space bounded)) (words.none bounded)

pub using_decl_holds : {X : Type 0} {holds : Bool → Part → Type 0} (known : Known holds X) (bounded : Bool) (n : UsingDecl X) → holds bounded (using_decl (asks_in known) (items_in known) n)
unfolding using_decl
using_decl_holds known bounded n = known.words.and_then bounded (known.words.leading_comments bounded n.span.lo) (known.words.and_then bounded (await_word_holds known.words bounded n.is_await) (known.words.and_then bounded (known.words.keyword bounded None (codes "using")) (known.words.and_then bounded (known.words.space bounded) (declarators_holds known bounded n.span n.decls.items))))

pub decl_end_holds : {holds : Bool → Part → Type 0} (words : OfWords holds) (bounded : Bool) (context : Context) (span : Span) → holds bounded (decl_end context span)
unfolding decl_end
decl_end_holds words bounded Statement span = words.none bounded
decl_end_holds words bounded context span = words.position bounded span.hi

pub exported_class_holds : {X : Type 0} {holds : Bool → Part → Type 0} (known : Known holds X) (bounded : Bool) (n : ClassDecl X) → holds bounded (exported_class (asks_in known) (items_in known) n)
unfolding exported_class
exported_class_holds known bounded n = known.words.and_then bounded (known.words.leading_comments bounded ((asks_in known) n.class.node.value).place.lo) (known.words.and_then bounded (known.words.position bounded ((asks_in known) n.class.node.value).place.lo) (known.words.and_then bounded (declare_word_holds known.words bounded n.declare) (known.words.and_then bounded (known.law bounded n.class.node.value (Only ClassWord)) (known.words.and_then bounded (known.words.space bounded) (known.words.and_then bounded (ident_holds known.words bounded n.ident) (known.law bounded n.class.node.value (Whole Plain)))))))

pub variables_holds : {X : Type 0} {holds : Bool → Part → Type 0} (known : Known holds X) (bounded : Bool) (n : VarDecl X) (context : Context) → holds bounded (variables (asks_in known) (items_in known) n context)
unfolding variables
variables_holds known bounded n context = known.words.and_then bounded (var_decl_holds known bounded n) (known.words.and_then bounded (known.words.semi bounded) (decl_end_holds known.words bounded context n.span))

pub resources_holds : {X : Type 0} {holds : Bool → Part → Type 0} (known : Known holds X) (bounded : Bool) (n : UsingDecl X) → holds bounded (resources (asks_in known) (items_in known) n)
unfolding resources
resources_holds known bounded n = known.words.and_then bounded (using_decl_holds known bounded n) (known.words.semi bounded)

pub whole_decl_holds : {X : Type 0} {holds : Bool → Part → Type 0} (known : Known holds X) (bounded : Bool) (x2 : Decl X) (context : Context) → holds bounded (whole_decl (asks_in known) (items_in known) x2 context)
unfolding whole_decl
whole_decl_holds known bounded (decls.Class n) context = class_decl_holds known bounded n
whole_decl_holds known bounded (decls.Fn n) context = fn_decl_holds known bounded n
whole_decl_holds known bounded (decls.Var n) context = variables_holds known bounded n context
whole_decl_holds known bounded (decls.Using n) context = resources_holds known bounded n
whole_decl_holds known bounded (decls.TsInterface n) context = ts_interface_decl_holds known bounded n.value
whole_decl_holds known bounded (decls.TsTypeAlias n) context = ts_type_alias_decl_holds known bounded n.value
whole_decl_holds known bounded (decls.TsEnum n) context = ts_enum_decl_holds known bounded n.value
whole_decl_holds known bounded (decls.TsModule n) context = ts_module_decl_holds known bounded n.value

pub exported_head_holds : {X : Type 0} {holds : Bool → Part → Type 0} (known : Known holds X) (bounded : Bool) (x1 : Decl X) → holds bounded (exported_head (items_in known) x1)
unfolding exported_head
exported_head_holds known bounded (decls.Class n) = known.law bounded n.class.node.value (Only ClassHead)
exported_head_holds known bounded n = known.words.none bounded

pub exported_tail_holds : {X : Type 0} {holds : Bool → Part → Type 0} (known : Known holds X) (bounded : Bool) (x2 : Decl X) → holds bounded (exported_tail (asks_in known) (items_in known) x2)
unfolding exported_tail
exported_tail_holds known bounded (decls.Class n) = exported_class_holds known bounded n
exported_tail_holds known bounded n = whole_decl_holds known bounded n Plain

pub decl_holds : {X : Type 0} {holds : Bool → Part → Type 0} (known : Known holds X) (bounded : Bool) (n : Decl X) (place : Place) → holds bounded (decl (asks_in known) (items_in known) n place)
unfolding decl
decl_holds known bounded n (Only ExportedHead) = exported_head_holds known bounded n
decl_holds known bounded n (Only ExportedTail) = exported_tail_holds known bounded n
decl_holds known bounded n place = whole_decl_holds known bounded n (context_of place)
