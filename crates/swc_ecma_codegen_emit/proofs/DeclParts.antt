-- What is written of each declaration is what it reads as.
use Rattle.std.proofs.Common.{Bool, true, false, List, [], ◌∷◌, map, codes, refl, None}
use Rattle.swc_ecma_codegen_common.specs.declared.positions.Span.{Span}
use Rattle.swc_ecma_codegen_tree.specs.declared.decls.ClassDecl.{ClassDecl}
use Rattle.swc_ecma_codegen_tree.specs.declared.decls.Decl.{Decl}
use Rattle.swc_ecma_codegen_tree.specs.declared.decls.Decl.TheVariants as decls
use Rattle.swc_ecma_codegen_tree.specs.declared.decls.FnDecl.{FnDecl}
use Rattle.swc_ecma_codegen_tree.specs.declared.decls.UsingDecl.{UsingDecl}
use Rattle.swc_ecma_codegen_tree.specs.declared.decls.VarDecl.{VarDecl}
use Rattle.swc_ecma_codegen_tree.specs.declared.decls.VarDeclKind.{VarDeclKind}
use Rattle.swc_ecma_codegen_tree.specs.declared.decls.VarDeclKind.TheVariants.{Var, Let, Const}
use Rattle.swc_ecma_codegen_tree.specs.declared.decls.VarDeclarator.{VarDeclarator}
use Rattle.swc_ecma_codegen_grammar.specs.declared.roles.Role.TheVariants.{Function, FunctionHead, ClassHead as HeadOfClass, ClassWord, ClassTail}
use Rattle.swc_ecma_codegen_grammar.specs.Phrases as phrases
use Rattle.swc_ecma_codegen_grammar.specs.Phrases.{◌>◌}
use Rattle.swc_ecma_codegen_grammar.specs.NamePhrases.{ident as ident_list}
use Rattle.swc_ecma_codegen_grammar.specs.ModulePhrases as module_lists
use Rattle.swc_ecma_codegen_grammar.specs.DeclPhrases as lists
use Rattle.swc_ecma_codegen_tokens.specs.Run.{Env, Part}
use Rattle.swc_ecma_codegen_tokens.proofs.Listing.ListLaws.{prints_list_on_line}
use Rattle.swc_ecma_codegen_tokens.proofs.Reading.Phrased.{Prints, then, after, before, prints_nothing, prints_never, prints_keyword, prints_semi, PrintsAt, prints_wider, joined_then}
use Rattle.swc_ecma_codegen_tokens.proofs.Reading.Printed.{writes_nothing, writes_space, writes_commit, writes_position, Fills}
use Rattle.swc_ecma_codegen_tokens.proofs.Commenting.CommentPrints.{writes_leading}
use Rattle.swc_ecma_codegen_emit.specs.declared.nodes.Context.{Context}
use Rattle.swc_ecma_codegen_emit.specs.declared.nodes.Context.TheVariants.{Plain, Statement}
use Rattle.swc_ecma_codegen_emit.specs.declared.nodes.Piece.TheVariants.{DeclarationHead, DeclarationTail, ExportedHead, ExportedTail}
use Rattle.swc_ecma_codegen_emit.specs.Places.{Whole, Only}
use Rattle.swc_ecma_codegen_emit.specs.Decls as words
use Rattle.swc_ecma_codegen_emit.specs.Decls.{declarators_format, declarator_place}
use Rattle.swc_ecma_codegen_emit.proofs.ExprParts.{writes_blank, writes_opened, ident_prints}
use Rattle.swc_ecma_codegen_emit.proofs.ClassParts.{class_decl_prints}
use Rattle.swc_ecma_codegen_emit.proofs.TsDeclParts.{declare_prints, interface_prints, alias_prints, enum_prints, module_prints}
use Rattle.swc_ecma_codegen_grammar.specs.TsDeclPhrases.{declare_word}
use Rattle.swc_ecma_codegen_emit.proofs.Linked.{Linked}
use Rattle.swc_ecma_codegen_emit.proofs.MarkWords as marks
use Rattle.swc_ecma_codegen_emit.proofs.PatParts.{declared_prints, initializer_prints}
use Rattle.swc_ecma_codegen_tokens.proofs.Filling.Shapes.{ended, ended_if_any}

fn_decl_prints : {X : Type 0} (l : Linked X) (n : FnDecl X) → PrintsAt ended l.env (words.fn_decl l.asks l.items n) (lists.fn_decl l.reads n)
unfolding words.fn_decl lists.fn_decl
fn_decl_prints l n =
    after (writes_leading l.env (l.asks n.function.node.value).place.lo)
    (after (writes_commit l.env)
    (after (writes_position l.env (l.asks n.function.node.value).place.lo)
    (then (declare_prints l.env n.declare)
    (then (l.law n.function.node.value (Only DeclarationHead) FunctionHead)
    (then (ident_prints l n.ident) (l.law n.function.node.value (Only DeclarationTail) Function))))))

-- ---- variables

declarator_prints : {X : Type 0} (l : Linked X) (n : VarDeclarator X) → Prints l.env (words.var_declarator l.asks l.items n) (lists.var_declarator l.reads n)
unfolding words.var_declarator lists.var_declarator
declarator_prints l n = after (writes_opened l.env n.span) (then (declared_prints l n.definite n.name) (initializer_prints l n.init))

-- They begin on the line before them, since no line ends before the first.
declarators_print : {X : Type 0} (l : Linked X) (span : Span) (ns : List (VarDeclarator X)) → PrintsAt ended l.env (words.declarators l.asks l.items span ns) (phrases.some_listed (codes ",") (map (lists.var_declarator l.reads) ns))
unfolding phrases.listed phrases.some_listed
declarators_print l span [] = prints_never
declarators_print l span (n ∷ ns) = prints_list_on_line l.env declarators_format span declarator_place (words.var_declarator l.asks l.items) (lists.var_declarator l.reads) (declarator_prints l) refl refl refl refl n ns refl

kind_prints : (env : Env) (kind : VarDeclKind) → Prints env (words.var_kind kind) (lists.var_kind kind)
unfolding words.var_kind lists.var_kind
kind_prints env Var = prints_keyword env None (codes "var") marks.var_word
kind_prints env Let = prints_keyword env None (codes "let") marks.let_word
kind_prints env Const = prints_keyword env None (codes "const") marks.const_word

pub var_decl_prints : {X : Type 0} (l : Linked X) (n : VarDecl X) → PrintsAt ended l.env (words.var_decl l.asks l.items n) (lists.var_decl l.reads n)
unfolding words.var_decl lists.var_decl
var_decl_prints l n =
    after (writes_leading l.env n.span.lo)
    (after (writes_commit l.env)
    (after (writes_position l.env n.span.lo)
    (then (declare_prints l.env n.declare)
    (then (kind_prints l.env n.kind)
    (after (writes_blank l.env (words.first_is_unmarked n.decls.items)) (declarators_print l n.span n.decls.items))))))

-- behind `await`, where it is so
await_then : (env : Env) (wanted : Bool) {p : Part} {f : phrases.Phrase} → PrintsAt ended env p f → PrintsAt ended env (λ rest. words.await_word wanted (p rest)) (lists.after_await wanted f)
unfolding words.await_word lists.after_await
await_then env true h = joined_then env None (codes "await") marks.await_word (after (writes_space env) h)
await_then env false h = h

pub using_decl_prints : {X : Type 0} (l : Linked X) (n : UsingDecl X) → PrintsAt ended l.env (words.using_decl l.asks l.items n) (lists.using_decl l.reads n)
unfolding words.using_decl lists.using_decl
using_decl_prints l n =
    after (writes_leading l.env n.span.lo)
    (await_then l.env n.is_await
    (joined_then l.env None (codes "using") marks.using_word (after (writes_space l.env) (declarators_print l n.span n.decls.items))))

-- ---- all of them

writes_decl_end : (env : Env) (context : Context) (span : Span) → Fills env (words.decl_end context span)
unfolding words.decl_end
writes_decl_end env Statement span = writes_nothing env
writes_decl_end env context span = writes_position env span.hi

-- one that isn't exported
pub decl_prints : {X : Type 0} (l : Linked X) (n : Decl X) (context : Context) → PrintsAt ended l.env (words.decl l.asks l.items n (Whole context)) (lists.decl l.reads n)
unfolding words.decl words.whole_decl words.variables words.resources lists.decl
decl_prints l (decls.Class n) context = prints_wider ended refl (class_decl_prints l n)
decl_prints l (decls.Fn n) context = fn_decl_prints l n
decl_prints l (decls.Var n) context = then (var_decl_prints l n) (before (prints_semi l.env) (writes_decl_end l.env context n.span))
decl_prints l (decls.Using n) context = then (using_decl_prints l n) (prints_semi l.env)
decl_prints l (decls.TsInterface n) context = prints_wider ended refl (interface_prints l n.value)
decl_prints l (decls.TsTypeAlias n) context = alias_prints l n.value
decl_prints l (decls.TsEnum n) context = prints_wider ended refl (enum_prints l n.value)
decl_prints l (decls.TsModule n) context = module_prints l n.value

-- ---- one that is exported

pub exported_head_prints : {X : Type 0} (l : Linked X) (n : Decl X) → PrintsAt ended_if_any l.env (words.decl l.asks l.items n (Only ExportedHead)) (module_lists.exported_head l.reads n)
unfolding words.decl words.exported_head module_lists.exported_head
exported_head_prints l (decls.Class n) = l.law n.class.node.value (Whole Plain) HeadOfClass
exported_head_prints l n = prints_wider ended_if_any refl prints_nothing

exported_class_prints : {X : Type 0} (l : Linked X) (n : ClassDecl X) → Prints l.env (words.exported_class l.asks l.items n) (declare_word n.declare > l.reads n.class.node.value ClassWord > ident_list n.ident > l.reads n.class.node.value ClassTail)
unfolding words.exported_class
exported_class_prints l n =
    after (writes_leading l.env (l.asks n.class.node.value).place.lo)
    (after (writes_position l.env (l.asks n.class.node.value).place.lo)
    (then (declare_prints l.env n.declare)
    (then (l.law n.class.node.value (Whole Plain) ClassWord)
    (after (writes_space l.env) (then (ident_prints l n.ident) (l.law n.class.node.value (Whole Plain) ClassTail))))))

pub exported_tail_prints : {X : Type 0} (l : Linked X) (n : Decl X) → PrintsAt ended l.env (words.decl l.asks l.items n (Only ExportedTail)) (module_lists.exported_tail l.reads n)
unfolding words.decl words.exported_tail words.whole_decl words.variables words.resources words.decl_end lists.decl module_lists.exported_tail
exported_tail_prints l (decls.Class n) = prints_wider ended refl (exported_class_prints l n)
exported_tail_prints l (decls.Fn n) = fn_decl_prints l n
exported_tail_prints l (decls.Var n) = then (var_decl_prints l n) (before (prints_semi l.env) (writes_position l.env n.span.hi))
exported_tail_prints l (decls.Using n) = then (using_decl_prints l n) (prints_semi l.env)
exported_tail_prints l (decls.TsInterface n) = prints_wider ended refl (interface_prints l n.value)
exported_tail_prints l (decls.TsTypeAlias n) = alias_prints l n.value
exported_tail_prints l (decls.TsEnum n) = prints_wider ended refl (enum_prints l n.value)
exported_tail_prints l (decls.TsModule n) = module_prints l n.value
