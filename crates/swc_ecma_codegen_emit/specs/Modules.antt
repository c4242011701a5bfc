-- What is written of imports and exports. Specifiers that stand in no order of the language are written as swc writes them.
use Rattle.std.specs.Prelude.{ℕ, nat_lt, Bool, true, false, not, ◌&&◌, if◌then◌else◌, List, [], ◌∷◌, length, map, filter, codes, Option, Some, None}
use Rattle.std.specs.List.{list_any}
use Rattle.swc_ecma_codegen_common.specs.declared.positions.Span.{Span}
use Rattle.swc_ecma_codegen_tree.specs.Links.{ObjectLitBox}
use Rattle.swc_ecma_codegen_tree.specs.declared.lits.Str.{Str}
use Rattle.swc_ecma_codegen_tree.specs.declared.modules.DefaultDecl.{DefaultDecl}
use Rattle.swc_ecma_codegen_tree.specs.declared.modules.DefaultDecl.TheVariants as default_decls
use Rattle.swc_ecma_codegen_tree.specs.declared.modules.ExportAll.{ExportAll}
use Rattle.swc_ecma_codegen_tree.specs.declared.modules.ExportDecl.{ExportDecl}
use Rattle.swc_ecma_codegen_tree.specs.declared.modules.ExportDefaultDecl.{ExportDefaultDecl}
use Rattle.swc_ecma_codegen_tree.specs.declared.modules.ExportDefaultExpr.{ExportDefaultExpr}
use Rattle.swc_ecma_codegen_tree.specs.declared.modules.ExportNamedSpecifier.{ExportNamedSpecifier}
use Rattle.swc_ecma_codegen_tree.specs.declared.modules.ExportNamespaceSpecifier.{ExportNamespaceSpecifier}
use Rattle.swc_ecma_codegen_tree.specs.declared.modules.ExportSpecifier.{ExportSpecifier}
use Rattle.swc_ecma_codegen_tree.specs.declared.modules.ExportSpecifier.TheVariants as exported
use Rattle.swc_ecma_codegen_tree.specs.declared.modules.ImportDecl.{ImportDecl}
use Rattle.swc_ecma_codegen_tree.specs.declared.modules.ImportNamedSpecifier.{ImportNamedSpecifier}
use Rattle.swc_ecma_codegen_tree.specs.declared.modules.ImportPhase.{ImportPhase}
use Rattle.swc_ecma_codegen_tree.specs.declared.modules.ImportPhase.TheVariants.{Evaluation, Source, Defer}
use Rattle.swc_ecma_codegen_tree.specs.declared.modules.ImportSpecifier.{ImportSpecifier}
use Rattle.swc_ecma_codegen_tree.specs.declared.modules.ImportSpecifier.TheVariants as imported
use Rattle.swc_ecma_codegen_tree.specs.declared.modules.ModuleExportName.{ModuleExportName}
use Rattle.swc_ecma_codegen_tree.specs.declared.modules.ModuleExportName.TheVariants as export_names
use Rattle.swc_ecma_codegen_tree.specs.declared.modules.NamedExport.{NamedExport}
use Rattle.swc_ecma_codegen_tree.specs.declared.programs.ModuleDecl.{ModuleDecl}
use Rattle.swc_ecma_codegen_tree.specs.declared.programs.ModuleDecl.TheVariants as module_decls
use Rattle.swc_ecma_codegen_tree.specs.declared.programs.ModuleItem.{ModuleItem}
use Rattle.swc_ecma_codegen_tree.specs.declared.programs.ModuleItem.TheVariants as module_items
use Rattle.swc_ecma_codegen_spans.specs.Spans.{import_specifier_span, export_specifier_span, module_item_span, module_decl_span}
use Rattle.swc_ecma_codegen_tokens.specs.Choices.{attributes_word}
use Rattle.swc_ecma_codegen_tokens.specs.Run.{Part}
use Rattle.swc_ecma_codegen_tokens.specs.Lists.{list}
use Rattle.swc_ecma_codegen_tokens.specs.Lits.{str_lit}
use Rattle.swc_ecma_codegen_tokens.specs.Words.{keyword, punct, semi, space, formatting_space, formatting_line, start_of, end_of, leading_comments, trailing_comments}
use Rattle.swc_ecma_codegen_emit.specs.declared.nodes.Context.TheVariants.{Plain, DefaultExport}
use Rattle.swc_ecma_codegen_emit.specs.declared.nodes.Piece.TheVariants.{ExportedHead, ExportedTail}
use Rattle.swc_ecma_codegen_emit.specs.Places.{Place, Whole, Only}
use Rattle.swc_ecma_codegen_emit.specs.Answers.{Answers, place_of}
use Rattle.swc_ecma_codegen_emit.specs.ClassExprs.{class_expr}
use Rattle.swc_ecma_codegen_emit.specs.Exprs.{blank, ident}
use Rattle.swc_ecma_codegen_emit.specs.FunctionExprs.{fn_expr}
use Rattle.swc_ecma_codegen_emit.specs.Lists.{child_of, comma, unsupported}
use Rattle.swc_ecma_codegen_emit.specs.Stmts.{stmt}
use Rattle.swc_ecma_codegen_emit.specs.Templates.{bad_shape}
use Rattle.swc_ecma_codegen_emit.specs.TsDecls.{ts_interface_decl, ts_import_equals_decl, ts_export_assignment, ts_namespace_export_decl}
use Rattle.swc_ecma_codegen_emit.specs.Annotations.{word_before}

-- `a` or `'b c'`
unfoldable pub module_export_name : ModuleExportName → Part
module_export_name (export_names.Ident n) rest = ident n rest
module_export_name (export_names.Str n) rest = str_lit n rest

-- `NamedImportsOrExportsElements`
abbrev pub named_format : ℕ
named_format = 432

-- `from` and a blank
unfoldable pub from_word : Part
from_word rest = keyword None (codes "from") (formatting_space rest)

-- ` as `
unfoldable pub as_word : Part
as_word rest = space (keyword None (codes "as") (space rest))

-- `* as `
unfoldable pub star_as : Part
star_as rest = punct (codes "*") (formatting_space (keyword None (codes "as") (space rest)))

-- ` type` of `import type a from 'b'`, where it stands
unfoldable pub type_word : Bool → Part
type_word type_only rest = if type_only then space (keyword None (codes "type") rest) else rest

-- ---- imports

-- `a as ` of `import { a as b } from 'c'`
unfoldable pub imported_as : Option ModuleExportName → Part
imported_as None rest = rest
imported_as (Some n) rest = module_export_name n (as_word rest)

-- `a as b`
unfoldable pub import_named : ImportNamedSpecifier → Part
import_named n rest = start_of n.span (word_before n.is_type_only (codes "type") (imported_as n.imported (ident n.local (end_of n.span rest))))

-- such stand among braces, and others before them
unfoldable pub import_specifier : ImportSpecifier → Part
import_specifier (imported.Named n) rest = import_named n rest
import_specifier n rest = rest

unfoldable pub is_named : ImportSpecifier → Bool
is_named (imported.Named n) = true
is_named n = false

unfoldable pub is_default : ImportSpecifier → Bool
is_default (imported.Default n) = true
is_default n = false

unfoldable pub is_star : ImportSpecifier → Bool
is_star (imported.Namespace n) = true
is_star n = false

-- A namespace stands among more than two: swc stops there.
unfoldable pub is_crowded : List ImportSpecifier → Bool
is_crowded ns = list_any is_star ns && nat_lt 2 (length ns)

abbrev pub import_list : Span → List ImportSpecifier → Part
import_list parent ns = list named_format parent (map (child_of import_specifier_span (λ n place. import_specifier n)) (filter is_named ns))

-- What of one specifier stands before the braces: `a`, `* as a`. `first` says that no default name stands before it.
unfoldable pub before_brace : Bool → ImportSpecifier → Part
before_brace first (imported.Named n) rest = rest
before_brace first (imported.Default n) rest = ident n.local rest
before_brace first (imported.Namespace n) rest = comma first (star_as (ident n.local rest))

-- `a, * as b`, in whatever order
unfoldable pub before_braces : Bool → List ImportSpecifier → Part
before_braces first [] rest = rest
before_braces first (n ∷ ns) rest = before_brace first n (before_braces (first && not (is_default n)) ns rest)

-- `{ a, b as c } `, and a comma after a default name
unfoldable pub some_named : Span → List ImportSpecifier → Part
some_named parent ns rest = comma (not (list_any is_default ns)) (punct (codes "{") (import_list parent ns (punct (codes "}") (formatting_space rest))))

unfoldable pub import_braces : Span → List ImportSpecifier → Part
import_braces parent ns rest = if list_any is_named ns then some_named parent ns rest else space rest

-- a blank before the default one is needed, where it is first: `import a`, minified `import{a}`
unfoldable pub begins_default : List ImportSpecifier → Bool
begins_default (imported.Default n ∷ ns) = true
begins_default ns = false

-- `a, { b } from `
unfoldable pub some_imports : Span → List ImportSpecifier → Part
some_imports parent ns rest = before_braces true ns (import_braces parent ns (from_word rest))

unfoldable pub import_clause : Span → List ImportSpecifier → Part
import_clause parent [] rest = rest
import_clause parent (n ∷ ns) rest = some_imports parent (n ∷ ns) rest

unfoldable pub phase_word : ImportPhase → Part
phase_word Evaluation rest = rest
phase_word Source rest = space (keyword None (codes "source") rest)
phase_word Defer rest = space (keyword None (codes "defer") rest)

-- ` with { type: 'json' }`, minified `with{type:"json"}`, where there is such
unfoldable pub attributes : {X : Type 0} → (X → Place → Part) → Option (ObjectLitBox X) → Part
attributes items None rest = rest
attributes items (Some n) rest = formatting_space (attributes_word (formatting_space (items n.node.value (Whole Plain) rest)))

-- `'b' with { type: 'json' };`, the end of an import or an export
unfoldable pub source_end : {X : Type 0} → (X → Place → Part) → Str → Option (ObjectLitBox X) → Span → Part
source_end items src with_ span rest = str_lit src (attributes items with_ (semi (end_of span rest)))

-- `{ a } from 'b';`
unfoldable pub import_tail : {X : Type 0} → (X → Place → Part) → ImportDecl X → Part
import_tail items n rest = import_clause n.span n.specifiers.items (source_end items n.src n.with n.span rest)

-- `import { a } from 'b';`
unfoldable pub import_parts : {X : Type 0} → (X → Place → Part) → ImportDecl X → Part
import_parts items n rest =
    leading_comments n.span.lo
    (start_of n.span
    (keyword None (codes "import")
    (type_word n.type_only (phase_word n.phase (blank (begins_default n.specifiers.items) (import_tail items n rest))))))

unfoldable pub import_decl : {X : Type 0} → (X → Place → Part) → ImportDecl X → Part
import_decl items n rest = if is_crowded n.specifiers.items then bad_shape rest else import_parts items n rest

-- ---- exports

-- ` as b` of `export { a as b }`
unfoldable pub exported_as : Option ModuleExportName → Part
exported_as None rest = rest
exported_as (Some n) rest = as_word (module_export_name n rest)

-- `a as b`
unfoldable pub export_named_specifier : ExportNamedSpecifier → Part
export_named_specifier n rest =
    leading_comments n.span.lo
    (start_of n.span (word_before n.is_type_only (codes "type") (module_export_name n.orig (exported_as n.exported (end_of n.span rest)))))

-- `* as a`
unfoldable pub export_namespace : ExportNamespaceSpecifier → Part
export_namespace n rest = leading_comments n.span.lo (start_of n.span (star_as (module_export_name n.name (end_of n.span rest))))

-- one for a default isn't supported by swc either
unfoldable pub export_specifier : ExportSpecifier → Part
export_specifier (exported.Named n) rest = export_named_specifier n rest
export_specifier (exported.Namespace n) rest = export_namespace n rest
export_specifier (exported.Default n) rest = unsupported rest

-- it stands before the braces
unfoldable pub is_namespace : ExportSpecifier → Bool
is_namespace (exported.Namespace n) = true
is_namespace n = false

unfoldable pub is_braced : ExportSpecifier → Bool
is_braced n = not (is_namespace n)

abbrev pub export_list : Span → List ExportSpecifier → Part
export_list parent ns = list named_format parent (map (child_of export_specifier_span (λ n place. export_specifier n)) (filter is_braced ns))

-- `{ a, b as c }`
unfoldable pub export_braces : Span → List ExportSpecifier → Part
export_braces parent ns rest = punct (codes "{") (export_list parent ns (punct (codes "}") rest))

-- The first of a namespace, wherever it stands; swc passes by others.
unfoldable pub star_export : List ExportSpecifier → Part
star_export [] rest = rest
star_export (exported.Namespace n ∷ ns) rest = export_namespace n rest
star_export (n ∷ ns) rest = star_export ns rest

-- what stands after it: `, { b }`
unfoldable pub more_exports : Span → List ExportSpecifier → Part
more_exports parent ns rest = if list_any is_braced ns then punct (codes ",") (formatting_space (export_braces parent ns rest)) else rest

unfoldable pub star_exports : Span → List ExportSpecifier → Part
star_exports parent ns rest = star_export ns (more_exports parent ns rest)

unfoldable pub export_clause : Span → List ExportSpecifier → Part
export_clause parent ns rest = if list_any is_namespace ns then star_exports parent ns rest else export_braces parent ns rest

-- it ends with a name: `export * as a from 'b'`, minified `export*as a from"b"`
unfoldable pub ends_with_name : List ExportSpecifier → Bool
ends_with_name ns = list_any is_namespace ns && not (list_any is_braced ns)

-- ` from 'a'` with its attributes, where it is so
unfoldable pub from_clause : {X : Type 0} → (X → Place → Part) → Option (ObjectLitBox X) → Bool → Option Str → Part
from_clause items with_ needed None rest = rest
from_clause items with_ needed (Some n) rest = blank needed (from_word (str_lit n (attributes items with_ rest)))

unfoldable pub export_tail : {X : Type 0} → (X → Place → Part) → NamedExport X → Part
export_tail items n rest = export_clause n.span n.specifiers.items (from_clause items n.with (ends_with_name n.specifiers.items) n.src (semi (end_of n.span rest)))

-- `export { a, b as c } from 'd';`
unfoldable pub export_named : {X : Type 0} → (X → Place → Part) → NamedExport X → Part
export_named items n rest =
    leading_comments n.span.lo
    (start_of n.span (keyword None (codes "export") (type_word n.type_only (formatting_space (export_tail items n rest)))))

-- `* from 'a';`
unfoldable pub all_tail : {X : Type 0} → (X → Place → Part) → ExportAll X → Part
all_tail items n rest = punct (codes "*") (formatting_space (from_word (source_end items n.src n.with n.span rest)))

-- ` type ` of `export type * from 'a'`, with its blanks minified too, or the blank in its place
unfoldable pub all_word : Bool → Part
all_word type_only rest = if type_only then space (keyword None (codes "type") (space rest)) else formatting_space rest

-- `export * from 'a';`
unfoldable pub export_all : {X : Type 0} → (X → Place → Part) → ExportAll X → Part
export_all items n rest = leading_comments n.span.lo (start_of n.span (keyword None (codes "export") (all_word n.type_only (all_tail items n rest))))

-- `export let a = b;`; decorators of a class stand before the word
unfoldable pub export_decl : {X : Type 0} → (X → Place → Part) → ExportDecl X → Part
export_decl items n rest = start_of n.span (items n.decl.node.value (Only ExportedHead) (keyword None (codes "export") (space (items n.decl.node.value (Only ExportedTail) rest))))

-- `class {}` of `export default class {}`
unfoldable pub default_decl : {X : Type 0} → (X → Answers) → (X → Place → Part) → DefaultDecl X → Part
default_decl asks items (default_decls.Class n) rest = class_expr asks items n rest
default_decl asks items (default_decls.Fn n) rest = fn_expr asks items n DefaultExport rest
default_decl asks items (default_decls.TsInterfaceDecl n) rest = ts_interface_decl items n rest

-- `export default`
unfoldable pub export_default : Part
export_default rest = keyword None (codes "export") (space (keyword None (codes "default") rest))

unfoldable pub export_default_decl : {X : Type 0} → (X → Answers) → (X → Place → Part) → ExportDefaultDecl X → Part
export_default_decl asks items n rest = leading_comments n.span.lo (start_of n.span (export_default (space (default_decl asks items n.decl rest))))

-- `export default a;`, minified `export default[a]`
unfoldable pub export_default_expr : {X : Type 0} → (X → Answers) → (X → Place → Part) → ExportDefaultExpr X → Part
export_default_expr asks items n rest = start_of n.span (export_default (blank (asks n.expr.node.value).starts (items n.expr.node.value (Whole Plain) (semi (end_of n.span rest)))))

-- ---- all of them

unfoldable pub module_decl_by : {X : Type 0} → (X → Answers) → (X → Place → Part) → ModuleDecl X → Part
module_decl_by asks items (module_decls.Import n) rest = import_decl items n rest
module_decl_by asks items (module_decls.ExportDecl n) rest = export_decl items n rest
module_decl_by asks items (module_decls.ExportNamed n) rest = export_named items n rest
module_decl_by asks items (module_decls.ExportDefaultDecl n) rest = export_default_decl asks items n rest
module_decl_by asks items (module_decls.ExportDefaultExpr n) rest = export_default_expr asks items n rest
module_decl_by asks items (module_decls.ExportAll n) rest = export_all items n rest
module_decl_by asks items (module_decls.TsImportEquals n) rest = ts_import_equals_decl items n rest
module_decl_by asks items (module_decls.TsExportAssignment n) rest = ts_export_assignment items n rest
module_decl_by asks items (module_decls.TsNamespaceExport n) rest = ts_namespace_export_decl n rest

-- each on a line of its own
unfoldable pub module_decl : {X : Type 0} → (X → Answers) → (X → Place → Part) → ModuleDecl X → Part
module_decl asks items n rest =
    leading_comments (module_decl_span n).lo (module_decl_by asks items n (trailing_comments true (module_decl_span n).hi (formatting_line rest)))

unfoldable pub module_item_by : {X : Type 0} → (X → Answers) → (X → Place → Part) → ModuleItem X → Part
module_item_by asks items (module_items.ModuleDecl n) rest = items n.node.value (Whole Plain) rest
module_item_by asks items (module_items.Stmt n) rest = stmt asks items n rest

unfoldable pub module_item : {X : Type 0} → (X → Answers) → (X → Place → Part) → ModuleItem X → Part
module_item asks items n rest =
    leading_comments (module_item_span (place_of asks) n).lo (module_item_by asks items n (trailing_comments true (module_item_span (place_of asks) n).hi rest))
