-- Modules: a law of the words holds of the plan.
use Rattle.std.proofs.Common.{refl}
use Rattle.swc_ecma_codegen_laws.proofs.Children.{children_hold}
use Rattle.std.specs.Prelude.{Bool, true, not, ◌&&◌, List, [], ◌∷◌, map, filter, codes, Option, Some, None}
use Rattle.std.specs.List.{list_any}
use Rattle.swc_ecma_codegen_common.specs.declared.positions.Span.{Span}
use Rattle.swc_ecma_codegen_tree.specs.Links.{ObjectLitBox}
use Rattle.swc_ecma_codegen_tree.specs.declared.lits.Str.{Str}
use Rattle.swc_ecma_codegen_tree.specs.declared.modules.DefaultDecl.{DefaultDecl}
use Rattle.swc_ecma_codegen_tree.specs.declared.modules.DefaultDecl.TheVariants as default_decls
use Rattle.swc_ecma_codegen_tree.specs.declared.modules.ExportAll.{ExportAll}
use Rattle.swc_ecma_codegen_tree.specs.declared.modules.ExportDecl.{ExportDecl}
use Rattle.swc_ecma_codegen_tree.specs.declared.modules.ExportDefaultDecl.{ExportDefaultDecl}
use Rattle.swc_ecma_codegen_tree.specs.declared.modules.ExportDefaultExpr.{ExportDefaultExpr}
use Rattle.swc_ecma_codegen_tree.specs.declared.modules.ExportNamedSpecifier.{ExportNamedSpecifier}
use Rattle.swc_ecma_codegen_tree.specs.declared.modules.ExportNamespaceSpecifier.{ExportNamespaceSpecifier}
use Rattle.swc_ecma_codegen_tree.specs.declared.modules.ExportSpecifier.{ExportSpecifier}
use Rattle.swc_ecma_codegen_tree.specs.declared.modules.ExportSpecifier.TheVariants as exported
use Rattle.swc_ecma_codegen_tree.specs.declared.modules.ImportDecl.{ImportDecl}
use Rattle.swc_ecma_codegen_tree.specs.declared.modules.ImportNamedSpecifier.{ImportNamedSpecifier}
use Rattle.swc_ecma_codegen_tree.specs.declared.modules.ImportPhase.{ImportPhase}
use Rattle.swc_ecma_codegen_tree.specs.declared.modules.ImportPhase.TheVariants.{Evaluation, Source, Defer}
use Rattle.swc_ecma_codegen_tree.specs.declared.modules.ImportSpecifier.{ImportSpecifier}
use Rattle.swc_ecma_codegen_tree.specs.declared.modules.ImportSpecifier.TheVariants as imported
use Rattle.swc_ecma_codegen_tree.specs.declared.modules.ModuleExportName.{ModuleExportName}
use Rattle.swc_ecma_codegen_tree.specs.declared.modules.ModuleExportName.TheVariants as export_names
use Rattle.swc_ecma_codegen_tree.specs.declared.modules.NamedExport.{NamedExport}
use Rattle.swc_ecma_codegen_tree.specs.declared.programs.ModuleDecl.{ModuleDecl}
use Rattle.swc_ecma_codegen_tree.specs.declared.programs.ModuleDecl.TheVariants as module_decls
use Rattle.swc_ecma_codegen_tree.specs.declared.programs.ModuleItem.{ModuleItem}
use Rattle.swc_ecma_codegen_tree.specs.declared.programs.ModuleItem.TheVariants as module_items
use Rattle.swc_ecma_codegen_spans.specs.Spans.{import_specifier_span, export_specifier_span, module_item_span, module_decl_span}
use Rattle.swc_ecma_codegen_tokens.specs.Run.{Part}
use Rattle.swc_ecma_codegen_tokens.specs.Words.{punct}
use Rattle.swc_ecma_codegen_grammar.specs.Phrases.{RightBrace, closing_mark}
use Rattle.swc_ecma_codegen_emit.specs.declared.nodes.Context.TheVariants.{Plain, DefaultExport}
use Rattle.swc_ecma_codegen_emit.specs.declared.nodes.Piece.TheVariants.{ExportedHead, ExportedTail}
use Rattle.swc_ecma_codegen_emit.specs.Places.{Whole, Only}
use Rattle.swc_ecma_codegen_emit.specs.Answers.{place_of}
use Rattle.swc_ecma_codegen_emit.specs.Lists.{child_of, unsupported}
use Rattle.swc_ecma_codegen_emit.specs.Templates.{bad_shape}
use Rattle.swc_ecma_codegen_laws.proofs.OfWords.{OfWords, Known, asks_in, items_in, either}
use Rattle.swc_ecma_codegen_tokens.specs.declared.refusals.Unprintable.TheVariants as unprintable
use Rattle.swc_ecma_codegen_emit.specs.Modules.{module_export_name, named_format, from_word, as_word, star_as, type_word, imported_as, import_named, import_specifier, is_named, is_default, is_crowded, import_list, before_brace, before_braces, some_named, import_braces, begins_default, some_imports, import_clause, phase_word, attributes, source_end, import_tail, import_parts, import_decl, exported_as, export_named_specifier, export_namespace, export_specifier, is_namespace, is_braced, export_list, export_braces, star_export, more_exports, star_exports, export_clause, ends_with_name, from_clause, export_tail, export_named, all_tail, all_word, export_all, export_decl, default_decl, export_default, export_default_decl, export_default_expr, module_decl_by, module_decl, module_item_by, module_item}
use Rattle.swc_ecma_codegen_laws.proofs.AnnotationsLifted.{word_before_holds}
use Rattle.swc_ecma_codegen_laws.proofs.ClassExprsLifted.{class_expr_holds}
use Rattle.swc_ecma_codegen_laws.proofs.ExprsLifted.{blank_holds, ident_holds}
use Rattle.swc_ecma_codegen_laws.proofs.FunctionExprsLifted.{fn_expr_holds}
use Rattle.swc_ecma_codegen_laws.proofs.ListsLifted.{comma_holds}
use Rattle.swc_ecma_codegen_laws.proofs.StmtsLifted.{stmt_holds}
use Rattle.swc_ecma_codegen_laws.proofs.TsDeclsLifted.{ts_export_assignment_holds, ts_import_equals_decl_holds, ts_interface_decl_holds, ts_namespace_export_decl_holds}

pub module_export_name_holds : {holds : Bool → Part → Type 0} (words : OfWords holds) (bounded : Bool) (x0 : ModuleExportName) → holds bounded (module_export_name x0)
unfolding module_export_name
module_export_name_holds words bounded (export_names.Ident n) = ident_holds words bounded n
module_export_name_holds words bounded (export_names.Str n) = words.str_lit bounded n

pub from_word_holds : {holds : Bool → Part → Type 0} (words : OfWords holds) (bounded : Bool) → holds bounded from_word
unfolding from_word
from_word_holds words bounded = words.and_then bounded (words.keyword bounded None (codes "from")) (words.formatting_space bounded)

pub as_word_holds : {holds : Bool → Part → Type 0} (words : OfWords holds) (bounded : Bool) → holds bounded as_word
unfolding as_word
as_word_holds words bounded = words.and_then bounded (words.space bounded) (words.and_then bounded (words.keyword bounded None (codes "as")) (words.space bounded))

pub star_as_holds : {holds : Bool → Part → Type 0} (words : OfWords holds) (bounded : Bool) → holds bounded star_as
unfolding star_as
star_as_holds words bounded = words.and_then bounded (words.punct bounded (codes "*")) (words.and_then bounded (words.formatting_space bounded) (words.and_then bounded (words.keyword bounded None (codes "as")) (words.space bounded)))

pub type_word_holds : {holds : Bool → Part → Type 0} (words : OfWords holds) (bounded : Bool) (type_only : Bool) → holds bounded (type_word type_only)
unfolding type_word
type_word_holds words bounded type_only = either words bounded type_only (words.and_then bounded (words.space bounded) (words.keyword bounded None (codes "type"))) (words.none bounded)

pub imported_as_holds : {holds : Bool → Part → Type 0} (words : OfWords holds) (bounded : Bool) (x0 : Option ModuleExportName) → holds bounded (imported_as x0)
unfolding imported_as
imported_as_holds words bounded None = words.none bounded
imported_as_holds words bounded (Some n) = words.and_then bounded (module_export_name_holds words bounded n) (as_word_holds words bounded)

pub import_named_holds : {holds : Bool → Part → Type 0} (words : OfWords holds) (bounded : Bool) (n : ImportNamedSpecifier) → holds bounded (import_named n)
unfolding import_named
import_named_holds words bounded n = words.and_then bounded (words.position bounded n.span.lo) (words.and_then bounded (word_before_holds words bounded n.is_type_only (codes "type")) (words.and_then bounded (imported_as_holds words bounded n.imported) (words.and_then bounded (ident_holds words bounded n.local) (words.position bounded n.span.hi))))

pub import_specifier_holds : {holds : Bool → Part → Type 0} (words : OfWords holds) (bounded : Bool) (n : ImportSpecifier) → holds bounded (import_specifier n)
unfolding import_specifier
import_specifier_holds words bounded (imported.Named n) = import_named_holds words bounded n
import_specifier_holds words bounded n = words.none bounded

pub import_list_holds : {holds : Bool → Part → Type 0} (words : OfWords holds) (bounded : Bool) (parent : Span) (ns : List ImportSpecifier) → holds bounded (λ rest. import_list parent ns (punct (codes "}") rest))
unfolding closing_mark
import_list_holds words bounded parent ns = words.closed_list bounded named_format parent (map (child_of import_specifier_span (λ n place. import_specifier n)) (filter is_named ns)) RightBrace refl (children_hold _ _ import_specifier_span (λ n place. import_specifier n) (λ n. (import_specifier_holds words bounded n)) (filter is_named ns))

pub before_brace_holds : {holds : Bool → Part → Type 0} (words : OfWords holds) (bounded : Bool) (first : Bool) (x1 : ImportSpecifier) → holds bounded (before_brace first x1)
unfolding before_brace
before_brace_holds words bounded first (imported.Named n) = words.none bounded
before_brace_holds words bounded first (imported.Default n) = ident_holds words bounded n.local
before_brace_holds words bounded first (imported.Namespace n) = words.and_then bounded (comma_holds words bounded first) (words.and_then bounded (star_as_holds words bounded) (ident_holds words bounded n.local))

pub before_braces_holds : {holds : Bool → Part → Type 0} (words : OfWords holds) (bounded : Bool) (first : Bool) (x1 : List ImportSpecifier) → holds bounded (before_braces first x1)
unfolding before_braces
before_braces_holds words bounded first [] = words.none bounded
before_braces_holds words bounded first (n ∷ ns) = words.and_then bounded (before_brace_holds words bounded first n) (before_braces_holds words bounded (first && not (is_default n)) ns)

pub some_named_holds : {holds : Bool → Part → Type 0} (words : OfWords holds) (bounded : Bool) (parent : Span) (ns : List ImportSpecifier) → holds bounded (some_named parent ns)
unfolding some_named
some_named_holds words bounded parent ns = words.and_then bounded (comma_holds words bounded (not (list_any is_default ns))) (words.and_then bounded (words.punct bounded (codes "{")) (words.and_then bounded (import_list_holds words bounded parent ns) (words.formatting_space bounded)))

pub import_braces_holds : {holds : Bool → Part → Type 0} (words : OfWords holds) (bounded : Bool) (parent : Span) (ns : List ImportSpecifier) → holds bounded (import_braces parent ns)
unfolding import_braces
import_braces_holds words bounded parent ns = either words bounded (list_any is_named ns) (some_named_holds words bounded parent ns) (words.space bounded)

pub some_imports_holds : {holds : Bool → Part → Type 0} (words : OfWords holds) (bounded : Bool) (parent : Span) (ns : List ImportSpecifier) → holds bounded (some_imports parent ns)
unfolding some_imports
some_imports_holds words bounded parent ns = words.and_then bounded (before_braces_holds words bounded true ns) (words.and_then bounded (import_braces_holds words bounded parent ns) (from_word_holds words bounded))

pub import_clause_holds : {holds : Bool → Part → Type 0} (words : OfWords holds) (bounded : Bool) (parent : Span) (x1 : List ImportSpecifier) → holds bounded (import_clause parent x1)
unfolding import_clause
import_clause_holds words bounded parent [] = words.none bounded
import_clause_holds words bounded parent (n ∷ ns) = some_imports_holds words bounded parent (n ∷ ns)

pub phase_word_holds : {holds : Bool → Part → Type 0} (words : OfWords holds) (bounded : Bool) (x0 : ImportPhase) → holds bounded (phase_word x0)
unfolding phase_word
phase_word_holds words bounded Evaluation = words.none bounded
phase_word_holds words bounded Source = words.and_then bounded (words.space bounded) (words.keyword bounded None (codes "source"))
phase_word_holds words bounded Defer = words.and_then bounded (words.space bounded) (words.keyword bounded None (codes "defer"))

pub attributes_holds : {X : Type 0} {holds : Bool → Part → Type 0} (known : Known holds X) (bounded : Bool) (x1 : Option (ObjectLitBox X)) → holds bounded (attributes (items_in known) x1)
unfolding attributes
attributes_holds known bounded None = known.words.none bounded
attributes_holds known bounded (Some n) = known.words.and_then bounded (known.words.formatting_space bounded) (known.words.and_then bounded (known.words.attributes_word bounded) (known.words.and_then bounded (known.words.formatting_space bounded) (known.law bounded n.node.value (Whole Plain))))

pub source_end_holds : {X : Type 0} {holds : Bool → Part → Type 0} (known : Known holds X) (bounded : Bool) (src : Str) (with_ : Option (ObjectLitBox X)) (span : Span) → holds bounded (source_end (items_in known) src with_ span)
unfolding source_end
source_end_holds known bounded src with_ span = known.words.and_then bounded (known.words.str_lit bounded src) (known.words.and_then bounded (attributes_holds known bounded with_) (known.words.and_then bounded (known.words.semi bounded) (known.words.position bounded span.hi)))

pub import_tail_holds : {X : Type 0} {holds : Bool → Part → Type 0} (known : Known holds X) (bounded : Bool) (n : ImportDecl X) → holds bounded (import_tail (items_in known) n)
unfolding import_tail
import_tail_holds known bounded n = known.words.and_then bounded (import_clause_holds known.words bounded n.span n.specifiers.items) (source_end_holds known bounded n.src n.with n.span)

pub import_parts_holds : {X : Type 0} {holds : Bool → Part → Type 0} (known : Known holds X) (bounded : Bool) (n : ImportDecl X) → holds bounded (import_parts (items_in known) n)
unfolding import_parts
import_parts_holds known bounded n = known.words.and_then bounded (known.words.leading_comments bounded n.span.lo) (known.words.and_then bounded (known.words.position bounded n.span.lo) (known.words.and_then bounded (known.words.keyword bounded None (codes "import")) (known.words.and_then bounded (type_word_holds known.words bounded n.type_only) (known.words.and_then bounded (phase_word_holds known.words bounded n.phase) (known.words.and_then bounded (blank_holds known.words bounded (begins_default n.specifiers.items)) (import_tail_holds known bounded n))))))

pub import_decl_holds : {X : Type 0} {holds : Bool → Part → Type 0} (known : Known holds X) (bounded : Bool) (n : ImportDecl X) → holds bounded (import_decl (items_in known) n)
unfolding import_decl bad_shape
import_decl_holds known bounded n = either known.words bounded (is_crowded n.specifiers.items) (known.words.refuse bounded unprintable.BadShape) (import_parts_holds known bounded n)

pub exported_as_holds : {holds : Bool → Part → Type 0} (words : OfWords holds) (bounded : Bool) (x0 : Option ModuleExportName) → holds bounded (exported_as x0)
unfolding exported_as
exported_as_holds words bounded None = words.none bounded
exported_as_holds words bounded (Some n) = words.and_then bounded (as_word_holds words bounded) (module_export_name_holds words bounded n)

pub export_named_specifier_holds : {holds : Bool → Part → Type 0} (words : OfWords holds) (bounded : Bool) (n : ExportNamedSpecifier) → holds bounded (export_named_specifier n)
unfolding export_named_specifier
export_named_specifier_holds words bounded n = words.and_then bounded (words.leading_comments bounded n.span.lo) (words.and_then bounded (words.position bounded n.span.lo) (words.and_then bounded (word_before_holds words bounded n.is_type_only (codes "type")) (words.and_then bounded (module_export_name_holds words bounded n.orig) (words.and_then bounded (exported_as_holds words bounded n.exported) (words.position bounded n.span.hi)))))

pub export_namespace_holds : {holds : Bool → Part → Type 0} (words : OfWords holds) (bounded : Bool) (n : ExportNamespaceSpecifier) → holds bounded (export_namespace n)
unfolding export_namespace
export_namespace_holds words bounded n = words.and_then bounded (words.leading_comments bounded n.span.lo) (words.and_then bounded (words.position bounded n.span.lo) (words.and_then bounded (star_as_holds words bounded) (words.and_then bounded (module_export_name_holds words bounded n.name) (words.position bounded n.span.hi))))

pub export_specifier_holds : {holds : Bool → Part → Type 0} (words : OfWords holds) (bounded : Bool) (x0 : ExportSpecifier) → holds bounded (export_specifier x0)
unfolding export_specifier unsupported
export_specifier_holds words bounded (exported.Named n) = export_named_specifier_holds words bounded n
export_specifier_holds words bounded (exported.Namespace n) = export_namespace_holds words bounded n
export_specifier_holds words bounded (exported.Default n) = words.refuse bounded unprintable.UnsupportedNode

pub export_list_holds : {holds : Bool → Part → Type 0} (words : OfWords holds) (bounded : Bool) (parent : Span) (ns : List ExportSpecifier) → holds bounded (λ rest. export_list parent ns (punct (codes "}") rest))
unfolding closing_mark
export_list_holds words bounded parent ns = words.closed_list bounded named_format parent (map (child_of export_specifier_span (λ n place. export_specifier n)) (filter is_braced ns)) RightBrace refl (children_hold _ _ export_specifier_span (λ n place. export_specifier n) (λ n. (export_specifier_holds words bounded n)) (filter is_braced ns))

pub export_braces_holds : {holds : Bool → Part → Type 0} (words : OfWords holds) (bounded : Bool) (parent : Span) (ns : List ExportSpecifier) → holds bounded (export_braces parent ns)
unfolding export_braces
export_braces_holds words bounded parent ns = words.and_then bounded (words.punct bounded (codes "{")) (export_list_holds words bounded parent ns)

pub star_export_holds : {holds : Bool → Part → Type 0} (words : OfWords holds) (bounded : Bool) (x0 : List ExportSpecifier) → holds bounded (star_export x0)
unfolding star_export
star_export_holds words bounded [] = words.none bounded
star_export_holds words bounded (exported.Namespace n ∷ ns) = export_namespace_holds words bounded n
star_export_holds words bounded (n ∷ ns) = star_export_holds words bounded ns

pub more_exports_holds : {holds : Bool → Part → Type 0} (words : OfWords holds) (bounded : Bool) (parent : Span) (ns : List ExportSpecifier) → holds bounded (more_exports parent ns)
unfolding more_exports
more_exports_holds words bounded parent ns = either words bounded (list_any is_braced ns) (words.and_then bounded (words.punct bounded (codes ",")) (words.and_then bounded (words.formatting_space bounded) (export_braces_holds words bounded parent ns))) (words.none bounded)

pub star_exports_holds : {holds : Bool → Part → Type 0} (words : OfWords holds) (bounded : Bool) (parent : Span) (ns : List ExportSpecifier) → holds bounded (star_exports parent ns)
unfolding star_exports
star_exports_holds words bounded parent ns = words.and_then bounded (star_export_holds words bounded ns) (more_exports_holds words bounded parent ns)

pub export_clause_holds : {holds : Bool → Part → Type 0} (words : OfWords holds) (bounded : Bool) (parent : Span) (ns : List ExportSpecifier) → holds bounded (export_clause parent ns)
unfolding export_clause
export_clause_holds words bounded parent ns = either words bounded (list_any is_namespace ns) (star_exports_holds words bounded parent ns) (export_braces_holds words bounded parent ns)

pub from_clause_holds : {X : Type 0} {holds : Bool → Part → Type 0} (known : Known holds X) (bounded : Bool) (with_ : Option (ObjectLitBox X)) (needed : Bool) (x3 : Option Str) → holds bounded (from_clause (items_in known) with_ needed x3)
unfolding from_clause
from_clause_holds known bounded with_ needed None = known.words.none bounded
from_clause_holds known bounded with_ needed (Some n) = known.words.and_then bounded (blank_holds known.words bounded needed) (known.words.and_then bounded (from_word_holds known.words bounded) (known.words.and_then bounded (known.words.str_lit bounded n) (attributes_holds known bounded with_)))

pub export_tail_holds : {X : Type 0} {holds : Bool → Part → Type 0} (known : Known holds X) (bounded : Bool) (n : NamedExport X) → holds bounded (export_tail (items_in known) n)
unfolding export_tail
export_tail_holds known bounded n = known.words.and_then bounded (export_clause_holds known.words bounded n.span n.specifiers.items) (known.words.and_then bounded (from_clause_holds known bounded n.with (ends_with_name n.specifiers.items) n.src) (known.words.and_then bounded (known.words.semi bounded) (known.words.position bounded n.span.hi)))

pub export_named_holds : {X : Type 0} {holds : Bool → Part → Type 0} (known : Known holds X) (bounded : Bool) (n : NamedExport X) → holds bounded (export_named (items_in known) n)
unfolding export_named
export_named_holds known bounded n = known.words.and_then bounded (known.words.leading_comments bounded n.span.lo) (known.words.and_then bounded (known.words.position bounded n.span.lo) (known.words.and_then bounded (known.words.keyword bounded None (codes "export")) (known.words.and_then bounded (type_word_holds known.words bounded n.type_only) (known.words.and_then bounded (known.words.formatting_space bounded) (export_tail_holds known bounded n)))))

pub all_tail_holds : {X : Type 0} {holds : Bool → Part → Type 0} (known : Known holds X) (bounded : Bool) (n : ExportAll X) → holds bounded (all_tail (items_in known) n)
unfolding all_tail
all_tail_holds known bounded n = known.words.and_then bounded (known.words.punct bounded (codes "*")) (known.words.and_then bounded (known.words.formatting_space bounded) (known.words.and_then bounded (from_word_holds known.words bounded) (source_end_holds known bounded n.src n.with n.span)))

pub all_word_holds : {holds : Bool → Part → Type 0} (words : OfWords holds) (bounded : Bool) (type_only : Bool) → holds bounded (all_word type_only)
unfolding all_word
all_word_holds words bounded type_only = either words bounded type_only (words.and_then bounded (words.space bounded) (words.and_then bounded (words.keyword bounded None (codes "type")) (words.space bounded))) (words.formatting_space bounded)

pub export_all_holds : {X : Type 0} {holds : Bool → Part → Type 0} (known : Known holds X) (bounded : Bool) (n : ExportAll X) → holds bounded (export_all (items_in known) n)
unfolding export_all
export_all_holds known bounded n = known.words.and_then bounded (known.words.leading_comments bounded n.span.lo) (known.words.and_then bounded (known.words.position bounded n.span.lo) (known.words.and_then bounded (known.words.keyword bounded None (codes "export")) (known.words.and_then bounded (all_word_holds known.words bounded n.type_only) (all_tail_holds known bounded n))))

pub export_decl_holds : {X : Type 0} {holds : Bool → Part → Type 0} (known : Known holds X) (bounded : Bool) (n : ExportDecl X) → holds bounded (export_decl (items_in known) n)
unfolding export_decl
export_decl_holds known bounded n = known.words.and_then bounded (known.words.position bounded n.span.lo) (known.words.and_then bounded (known.law bounded n.decl.node.value (Only ExportedHead)) (known.words.and_then bounded (known.words.keyword bounded None (codes "export")) (known.words.and_then bounded (known.words.space bounded) (known.law bounded n.decl.node.value (Only ExportedTail)))))

pub default_decl_holds : {X : Type 0} {holds : Bool → Part → Type 0} (known : Known holds X) (bounded : Bool) (x2 : DefaultDecl X) → holds bounded (default_decl (asks_in known) (items_in known) x2)
unfolding default_decl
default_decl_holds known bounded (default_decls.Class n) = class_expr_holds known bounded n
default_decl_holds known bounded (default_decls.Fn n) = fn_expr_holds known bounded n DefaultExport
default_decl_holds known bounded (default_decls.TsInterfaceDecl n) = ts_interface_decl_holds known bounded n

pub export_default_holds : {holds : Bool → Part → Type 0} (words : OfWords holds) (bounded : Bool) → holds bounded export_default
unfolding export_default
export_default_holds words bounded = words.and_then bounded (words.keyword bounded None (codes "export")) (words.and_then bounded (words.space bounded) (words.keyword bounded None (codes "default")))

pub export_default_decl_holds : {X : Type 0} {holds : Bool → Part → Type 0} (known : Known holds X) (bounded : Bool) (n : ExportDefaultDecl X) → holds bounded (export_default_decl (asks_in known) (items_in known) n)
unfolding export_default_decl
export_default_decl_holds known bounded n = known.words.and_then bounded (known.words.leading_comments bounded n.span.lo) (known.words.and_then bounded (known.words.position bounded n.span.lo) (known.words.and_then bounded (export_default_holds known.words bounded) (known.words.and_then bounded (known.words.space bounded) (default_decl_holds known bounded n.decl))))

pub export_default_expr_holds : {X : Type 0} {holds : Bool → Part → Type 0} (known : Known holds X) (bounded : Bool) (n : ExportDefaultExpr X) → holds bounded (export_default_expr (asks_in known) (items_in known) n)
unfolding export_default_expr
export_default_expr_holds known bounded n = known.words.and_then bounded (known.words.position bounded n.span.lo) (known.words.and_then bounded (export_default_holds known.words bounded) (known.words.and_then bounded (blank_holds known.words bounded ((asks_in known) n.expr.node.value).starts) (known.words.and_then bounded (known.law bounded n.expr.node.value (Whole Plain)) (known.words.and_then bounded (known.words.semi bounded) (known.words.position bounded n.span.hi)))))

pub module_decl_by_holds : {X : Type 0} {holds : Bool → Part → Type 0} (known : Known holds X) (bounded : Bool) (x2 : ModuleDecl X) → holds bounded (module_decl_by (asks_in known) (items_in known) x2)
unfolding module_decl_by
module_decl_by_holds known bounded (module_decls.Import n) = import_decl_holds known bounded n
module_decl_by_holds known bounded (module_decls.ExportDecl n) = export_decl_holds known bounded n
module_decl_by_holds known bounded (module_decls.ExportNamed n) = export_named_holds known bounded n
module_decl_by_holds known bounded (module_decls.ExportDefaultDecl n) = export_default_decl_holds known bounded n
module_decl_by_holds known bounded (module_decls.ExportDefaultExpr n) = export_default_expr_holds known bounded n
module_decl_by_holds known bounded (module_decls.ExportAll n) = export_all_holds known bounded n
module_decl_by_holds known bounded (module_decls.TsImportEquals n) = ts_import_equals_decl_holds known bounded n
module_decl_by_holds known bounded (module_decls.TsExportAssignment n) = ts_export_assignment_holds known bounded n
module_decl_by_holds known bounded (module_decls.TsNamespaceExport n) = ts_namespace_export_decl_holds known.words bounded n

pub module_decl_holds : {X : Type 0} {holds : Bool → Part → Type 0} (known : Known holds X) (bounded : Bool) (n : ModuleDecl X) → holds bounded (module_decl (asks_in known) (items_in known) n)
unfolding module_decl
module_decl_holds known bounded n = known.words.and_then bounded (known.words.leading_comments bounded (module_decl_span n).lo) (known.words.and_then bounded (module_decl_by_holds known bounded n) (known.words.and_then bounded (known.words.trailing_comments bounded true (module_decl_span n).hi) (known.words.formatting_line bounded)))

pub module_item_by_holds : {X : Type 0} {holds : Bool → Part → Type 0} (known : Known holds X) (bounded : Bool) (x2 : ModuleItem X) → holds bounded (module_item_by (asks_in known) (items_in known) x2)
unfolding module_item_by
module_item_by_holds known bounded (module_items.ModuleDecl n) = known.law bounded n.node.value (Whole Plain)
module_item_by_holds known bounded (module_items.Stmt n) = stmt_holds known bounded n

pub module_item_holds : {X : Type 0} {holds : Bool → Part → Type 0} (known : Known holds X) (bounded : Bool) (n : ModuleItem X) → holds bounded (module_item (asks_in known) (items_in known) n)
unfolding module_item
module_item_holds known bounded n = known.words.and_then bounded (known.words.leading_comments bounded (module_item_span (place_of (asks_in known)) n).lo) (known.words.and_then bounded (module_item_by_holds known bounded n) (known.words.trailing_comments bounded true (module_item_span (place_of (asks_in known)) n).hi))
