-- What is written of imports and exports is what they read as.
use Rattle.std.proofs.Common.{◌≡◌, nat_lt, Bool, true, false, not, ◌&&◌, cond, List, [], ◌∷◌, length, map, codes, Option, Some, None, refl, sym, ap, subst, ◌∙◌}
use Rattle.std.specs.List.{filter, list_any}
use Rattle.std.proofs.lemmas.Bool.{and_parts, true≢false}
use Rattle.swc_ecma_codegen_common.specs.declared.positions.Span.{Span}
use Rattle.swc_ecma_codegen_tree.specs.Links.{ObjectLitBox}
use Rattle.swc_ecma_codegen_tree.specs.declared.lits.Str.{Str}
use Rattle.swc_ecma_codegen_tree.specs.declared.modules.DefaultDecl.{DefaultDecl}
use Rattle.swc_ecma_codegen_tree.specs.declared.modules.DefaultDecl.TheVariants as default_decls
use Rattle.swc_ecma_codegen_tree.specs.declared.modules.ExportAll.{ExportAll}
use Rattle.swc_ecma_codegen_tree.specs.declared.modules.ExportDecl.{ExportDecl}
use Rattle.swc_ecma_codegen_tree.specs.declared.modules.ExportDefaultDecl.{ExportDefaultDecl}
use Rattle.swc_ecma_codegen_tree.specs.declared.modules.ExportDefaultExpr.{ExportDefaultExpr}
use Rattle.swc_ecma_codegen_tree.specs.declared.modules.ExportNamedSpecifier.{ExportNamedSpecifier}
use Rattle.swc_ecma_codegen_tree.specs.declared.modules.ExportNamespaceSpecifier.{ExportNamespaceSpecifier}
use Rattle.swc_ecma_codegen_tree.specs.declared.modules.ExportSpecifier.{ExportSpecifier}
use Rattle.swc_ecma_codegen_tree.specs.declared.modules.ExportSpecifier.TheVariants as exported
use Rattle.swc_ecma_codegen_tree.specs.declared.modules.ImportDecl.{ImportDecl}
use Rattle.swc_ecma_codegen_tree.specs.declared.modules.ImportDefaultSpecifier.{ImportDefaultSpecifier}
use Rattle.swc_ecma_codegen_tree.specs.declared.modules.ImportNamedSpecifier.{ImportNamedSpecifier}
use Rattle.swc_ecma_codegen_tree.specs.declared.modules.ImportPhase.{ImportPhase}
use Rattle.swc_ecma_codegen_tree.specs.declared.modules.ImportPhase.TheVariants.{Evaluation, Source, Defer}
use Rattle.swc_ecma_codegen_tree.specs.declared.modules.ImportStarAsSpecifier.{ImportStarAsSpecifier}
use Rattle.swc_ecma_codegen_tree.specs.declared.modules.ImportSpecifier.{ImportSpecifier}
use Rattle.swc_ecma_codegen_tree.specs.declared.modules.ImportSpecifier.TheVariants as imported
use Rattle.swc_ecma_codegen_tree.specs.declared.modules.ModuleExportName.{ModuleExportName}
use Rattle.swc_ecma_codegen_tree.specs.declared.modules.ModuleExportName.TheVariants as export_names
use Rattle.swc_ecma_codegen_tree.specs.declared.modules.NamedExport.{NamedExport}
use Rattle.swc_ecma_codegen_tree.specs.declared.programs.ModuleDecl.{ModuleDecl}
use Rattle.swc_ecma_codegen_tree.specs.declared.programs.ModuleDecl.TheVariants as module_decls
use Rattle.swc_ecma_codegen_tree.specs.declared.programs.ModuleItem.{ModuleItem}
use Rattle.swc_ecma_codegen_tree.specs.declared.programs.ModuleItem.TheVariants as module_items
use Rattle.swc_ecma_codegen_spans.specs.Spans.{import_specifier_span, export_specifier_span, module_item_span, module_decl_span}
use Rattle.swc_ecma_codegen_grammar.specs.ElementPhrases.{closing_of}
use Rattle.swc_ecma_codegen_grammar.specs.ModulePhrases as lists
use Rattle.swc_ecma_codegen_grammar.specs.StmtPhrases as stmt_lists
use Rattle.swc_ecma_codegen_grammar.specs.NamePhrases.{ident}
use Rattle.swc_ecma_codegen_grammar.specs.Phrases as phrases
use Rattle.swc_ecma_codegen_grammar.specs.Phrases.{Phrase, CommaBefore, RightBrace, closing_mark, ◌>◌, mark, word, ending, is_possible}
use Rattle.swc_ecma_codegen_grammar.specs.LitPhrases.{str_lit}
use Rattle.swc_ecma_codegen_grammar.specs.declared.roles.Role.TheVariants.{ObjectLiteral, ModuleDeclaration, ExportedHead as HeadOfExported, ExportedTail as TailOfExported}
use Rattle.swc_ecma_codegen_tokens.specs.Lists.{list}
use Rattle.swc_ecma_codegen_tokens.specs.Run.{Env, Plan, Part, at_maps}
use Rattle.swc_ecma_codegen_tokens.specs.Words.{punct, formatting_space}
use Rattle.swc_ecma_codegen_tokens.proofs.Listing.ListLaws.{children_of, writes_no_list, prints_some, prints_optional_closing}
use Rattle.swc_ecma_codegen_tokens.proofs.Reading.Choices.{prints_attributes_word}
use Rattle.swc_ecma_codegen_tokens.proofs.Filling.Shapes.{Shape, open_, closed, ended}
use Rattle.swc_ecma_codegen_tokens.proofs.Reading.Phrased.{Prints, PrintsAt, prints_wider, loosened, then, after, before, prints_nothing, prints_never, prints_same, prints_keyword, prints_punct, prints_semi}
use Rattle.swc_ecma_codegen_tokens.proofs.Reading.Printed.{writes_space, writes_formatting_space, writes_formatting_line, writes_position}
use Rattle.swc_ecma_codegen_tokens.proofs.Commenting.CommentPrints.{writes_leading, writes_trailing}
use Rattle.swc_ecma_codegen_tokens.proofs.LiteralTokens.StringPrints.{prints_str}
use Rattle.swc_ecma_codegen_emit.specs.declared.nodes.Context.TheVariants.{Plain}
use Rattle.swc_ecma_codegen_emit.specs.Places.{Whole}
use Rattle.swc_ecma_codegen_emit.specs.Answers.{place_of}
use Rattle.swc_ecma_codegen_emit.specs.Exprs.{ident as words_ident}
use Rattle.swc_ecma_codegen_emit.specs.Lists.{comma}
use Rattle.swc_ecma_codegen_emit.specs.Modules as words
use Rattle.swc_ecma_codegen_emit.specs.Templates.{bad_shape}
use Rattle.swc_ecma_codegen_emit.proofs.AnnotationParts.{word_before_prints}
use Rattle.swc_ecma_codegen_emit.proofs.ExprParts.{ident_prints, writes_blank}
use Rattle.swc_ecma_codegen_emit.proofs.FunctionExprParts.{class_expr_prints, default_fn_prints}
use Rattle.swc_ecma_codegen_emit.proofs.Impossible.{if_possible, prints_impossible}
use Rattle.swc_ecma_codegen_emit.proofs.TsDeclParts.{interface_prints, import_equals_prints, export_assignment_prints, namespace_export_prints}
use Rattle.swc_ecma_codegen_emit.proofs.TsDeclWords as decl_words
use Rattle.swc_ecma_codegen_grammar.specs.FunctionPhrases.{word_if}
use Rattle.swc_ecma_codegen_emit.proofs.Linked.{Linked, expr_at}
use Rattle.swc_ecma_codegen_emit.proofs.MarkWords as marks
use Rattle.swc_ecma_codegen_emit.proofs.StmtParts.{stmt_prints}

-- ---- what imports and exports share

name_prints : {X : Type 0} (l : Linked X) (n : ModuleExportName) → Prints l.env (words.module_export_name n) (lists.module_export_name n)
unfolding words.module_export_name lists.module_export_name
name_prints l (export_names.Ident n) = ident_prints l n
name_prints l (export_names.Str n) = prints_str l.env n

from_prints : (env : Env) → Prints env words.from_word (word (codes "from"))
unfolding words.from_word
from_prints env = before (prints_keyword env None (codes "from") marks.from_word) (writes_formatting_space env)

as_prints : (env : Env) → Prints env words.as_word (word (codes "as"))
unfolding words.as_word
as_prints env = after (writes_space env) (before (prints_keyword env None (codes "as") marks.as_word) (writes_space env))

star_prints : (env : Env) {p : Part} {f : Phrase} → Prints env p f → Prints env (λ rest. words.star_as (p rest)) (mark (codes "*") > word (codes "as") > f)
unfolding words.star_as
star_prints env h =
    then (prints_punct env (codes "*") marks.star)
    (after (writes_formatting_space env) (then (prints_keyword env None (codes "as") marks.as_word) (after (writes_space env) h)))

type_word_prints : (env : Env) (type_only : Bool) → PrintsAt open_ env (words.type_word type_only) (lists.type_word type_only)
unfolding words.type_word lists.type_word word_if
type_word_prints env true = prints_wider open_ refl (after (writes_space env) (prints_keyword env None (codes "type") decl_words.type_word))
type_word_prints env false = prints_nothing

-- ---- imports

imported_prints : {X : Type 0} (l : Linked X) (n : Option ModuleExportName) → PrintsAt open_ l.env (words.imported_as n) (lists.imported_as n)
unfolding words.imported_as lists.imported_as
imported_prints l None = prints_nothing
imported_prints l (Some n) = prints_wider open_ refl (then (name_prints l n) (as_prints l.env))

import_named_prints : {X : Type 0} (l : Linked X) (n : ImportNamedSpecifier) → Prints l.env (words.import_named n) (lists.import_named n)
unfolding words.import_named lists.import_named lists.type_word
import_named_prints l n =
    after (writes_position l.env n.span.lo)
    (then (word_before_prints l.env n.is_type_only (codes "type") decl_words.type_word)
    (then (imported_prints l n.imported) (before (ident_prints l n.local) (writes_position l.env n.span.hi))))

import_specifier_prints : {X : Type 0} (l : Linked X) (n : ImportSpecifier) → Prints l.env (words.import_specifier n) (lists.import_specifier n)
unfolding words.import_specifier lists.import_specifier
import_specifier_prints l (imported.Named n) = import_named_prints l n
import_specifier_prints l n = prints_never

-- where none but names stand among the braces
abbrev all_named : List ImportSpecifier → Bool
all_named [] = true
all_named (imported.Named n ∷ ns) = all_named ns
all_named (n ∷ ns) = false

named_kept : (ns : List ImportSpecifier) → all_named ns ≡ true → filter words.is_named ns ≡ ns
unfolding words.is_named
named_kept [] h = refl
named_kept (imported.Named n ∷ ns) h = ap (λ xs. imported.Named n ∷ xs) (named_kept ns h)
named_kept (n ∷ ns) h = absurd (true≢false (sym h))

none_before : (first : Bool) (ns : List ImportSpecifier) (rest : Plan) → all_named ns ≡ true → words.before_braces first ns rest ≡ rest
unfolding words.before_braces words.before_brace
none_before first [] rest h = refl
none_before first (imported.Named n ∷ ns) rest h = none_before (first && not (words.is_default (imported.Named n))) ns rest h
none_before first (n ∷ ns) rest h = absurd (true≢false (sym h))

none_default : (ns : List ImportSpecifier) → all_named ns ≡ true → list_any words.is_default ns ≡ false
unfolding words.is_default
none_default [] h = refl
none_default (imported.Named n ∷ ns) h = none_default ns h
none_default (n ∷ ns) h = absurd (true≢false (sym h))

none_star : (ns : List ImportSpecifier) → all_named ns ≡ true → list_any words.is_star ns ≡ false
unfolding words.is_star
none_star [] h = refl
none_star (imported.Named n ∷ ns) h = none_star ns h
none_star (n ∷ ns) h = absurd (true≢false (sym h))

named_after : (ns : List ImportSpecifier) → is_possible (phrases.each_after (codes ",") (map lists.import_specifier ns)) ≡ true → all_named ns ≡ true
unfolding is_possible phrases.each_after lists.import_specifier
named_after [] w = refl
named_after (imported.Named n ∷ ns) w = named_after ns (and_parts (is_possible (lists.import_named n)) _ w).1
named_after (n ∷ ns) w = absurd (true≢false (sym w))

abbrev braced_imports : List ImportSpecifier → Phrase
braced_imports ns = mark (codes "{") > phrases.listed (codes ",") (map lists.import_specifier ns) > closing_of RightBrace ns

named_braced : (n : ImportNamedSpecifier) (ns : List ImportSpecifier) → is_possible (braced_imports (imported.Named n ∷ ns)) ≡ true → all_named ns ≡ true
unfolding is_possible phrases.listed lists.import_specifier
named_braced n ns w =
    let names : Bool = is_possible (lists.import_named n) && is_possible (phrases.each_after (codes ",") (map lists.import_specifier ns)) in
    named_after ns (and_parts (is_possible (lists.import_named n)) _ (and_parts names _ w).0).1

import_list_prints : {X : Type 0} (l : Linked X) (parent : Span) (close : Part) → Prints l.env close (mark (codes "}")) → (ns : List ImportSpecifier) → PrintsAt closed l.env (λ rest. list words.named_format parent (children_of import_specifier_span words.import_specifier ns) (close rest)) (phrases.listed (codes ",") (map lists.import_specifier ns) > closing_of RightBrace ns)
unfolding phrases.listed closing_of closing_mark
import_list_prints l parent close h [] = after (writes_no_list l.env words.named_format parent) (then prints_nothing h)
import_list_prints l parent close h (n ∷ ns) =
    prints_some l.env words.named_format parent import_specifier_span words.import_specifier lists.import_specifier (CommaBefore RightBrace) close
    (λ n. loosened (import_specifier_prints l n)) refl refl (λ last. prints_optional_closing l.env words.named_format parent last RightBrace close refl refl h) n ns

import_braces_print : {X : Type 0} (l : Linked X) (parent : Span) (ns : List ImportSpecifier) → all_named ns ≡ true → Prints l.env (λ rest. punct (codes "{") (words.import_list parent ns (punct (codes "}") rest))) (braced_imports ns)
import_braces_print l parent ns h =
    let P : List ImportSpecifier → Type 0 = λ xs. Prints l.env (λ rest. punct (codes "{") (list words.named_format parent (children_of import_specifier_span words.import_specifier xs) (punct (codes "}") rest))) (braced_imports ns) in
    subst P (sym (named_kept ns h)) (then (prints_punct l.env (codes "{") marks.left_brace) (import_list_prints l parent (punct (codes "}")) (prints_punct l.env (codes "}") marks.right_brace) ns))

-- the orders of specifiers that the language has
data Ordered : List ImportSpecifier → Type 0 where
  bare : Ordered []
  star : (n : ImportStarAsSpecifier) → Ordered (imported.Namespace n ∷ [])
  named : (n : ImportNamedSpecifier) (ns : List ImportSpecifier) → all_named ns ≡ true → Ordered (imported.Named n ∷ ns)
  default : (d : ImportDefaultSpecifier) → Ordered (imported.Default d ∷ [])
  default_star : (d : ImportDefaultSpecifier) (n : ImportStarAsSpecifier) → Ordered (imported.Default d ∷ imported.Namespace n ∷ [])
  default_named : (d : ImportDefaultSpecifier) (n : ImportNamedSpecifier) (ns : List ImportSpecifier) → all_named ns ≡ true → Ordered (imported.Default d ∷ imported.Named n ∷ ns)

no_order : (a : Bool) → (a && false) ≡ true → ⊥
no_order a w = true≢false (sym (and_parts a false w).1)

imports_ordered : (ns : List ImportSpecifier) → is_possible (lists.import_clause ns) ≡ true → Ordered ns
unfolding is_possible phrases.listed lists.import_clause lists.import_bindings lists.after_default lists.import_specifier
imports_ordered [] w = bare
imports_ordered (imported.Namespace n ∷ []) w = star n
imports_ordered (imported.Namespace n ∷ m ∷ ns) w = absurd (true≢false (sym w))
imports_ordered (imported.Named n ∷ ns) w = named n ns (named_braced n ns (and_parts (is_possible (lists.import_bindings (imported.Named n ∷ ns))) true w).0)
imports_ordered (imported.Default d ∷ []) w = default d
imports_ordered (imported.Default d ∷ imported.Namespace n ∷ []) w = default_star d n
imports_ordered (imported.Default d ∷ imported.Namespace n ∷ m ∷ ns) w = absurd (no_order _ w)
imports_ordered (imported.Default d ∷ imported.Default n ∷ ns) w = absurd (no_order _ w)
imports_ordered (imported.Default d ∷ imported.Named n ∷ ns) w =
    default_named d n ns (named_braced n ns (and_parts (is_possible (lists.import_bindings (imported.Named n ∷ ns))) true (and_parts (is_possible (ident d.local)) _ w).1).0)

ordered_not_crowded : {ns : List ImportSpecifier} → Ordered ns → words.is_crowded ns ≡ false
unfolding words.is_crowded words.is_star
ordered_not_crowded bare = refl
ordered_not_crowded (star n) = refl
ordered_not_crowded (named n ns h) = ap (λ b. b && nat_lt 2 (length (imported.Named n ∷ ns))) (none_star ns h)
ordered_not_crowded (default d) = refl
ordered_not_crowded (default_star d n) = refl
ordered_not_crowded (default_named d n ns h) = ap (λ b. b && nat_lt 2 (length (imported.Default d ∷ imported.Named n ∷ ns))) (none_star ns h)

-- `{ a } ` alone, and behind a default name
abbrev braces_then : Span → List ImportSpecifier → Part
braces_then parent ns rest = punct (codes "{") (words.import_list parent ns (punct (codes "}") (formatting_space rest)))

named_clause : (parent : Span) (n : ImportNamedSpecifier) (ns : List ImportSpecifier) (rest : Plan) → all_named ns ≡ true → words.import_clause parent (imported.Named n ∷ ns) rest ≡ braces_then parent (imported.Named n ∷ ns) (words.from_word rest)
unfolding words.import_clause words.some_imports words.before_brace words.before_braces words.import_braces words.some_named words.is_named words.is_default comma
named_clause parent n ns rest h =
    let braced : Plan = braces_then parent (imported.Named n ∷ ns) (words.from_word rest) in
    none_before true ns (comma (not (list_any words.is_default ns)) braced) h ∙ ap (λ b. comma (not b) braced) (none_default ns h)

default_clause : (parent : Span) (d : ImportDefaultSpecifier) (n : ImportNamedSpecifier) (ns : List ImportSpecifier) (rest : Plan) → all_named ns ≡ true → words.import_clause parent (imported.Default d ∷ imported.Named n ∷ ns) rest ≡ words_ident d.local (punct (codes ",") (formatting_space (braces_then parent (imported.Named n ∷ ns) (words.from_word rest))))
unfolding words.import_clause words.some_imports words.before_brace words.before_braces words.import_braces words.some_named words.is_named words.is_default comma
default_clause parent d n ns rest h = ap (λ z. words_ident d.local z) (none_before false ns (punct (codes ",") (formatting_space (braces_then parent (imported.Named n ∷ ns) (words.from_word rest)))) h)

ordered_prints : {X : Type 0} (l : Linked X) (parent : Span) {ns : List ImportSpecifier} → Ordered ns → PrintsAt open_ l.env (words.import_clause parent ns) (lists.import_clause ns)
unfolding words.import_clause words.some_imports words.before_brace words.before_braces words.import_braces words.is_named words.is_default comma lists.import_clause lists.import_bindings lists.after_default
ordered_prints l parent bare = prints_nothing
ordered_prints l parent (star n) = prints_wider open_ refl (then (star_prints l.env (before (ident_prints l n.local) (writes_space l.env))) (from_prints l.env))
ordered_prints l parent (named n ns h) =
    prints_same (words.import_clause parent (imported.Named n ∷ ns)) (λ rest. braces_then parent (imported.Named n ∷ ns) (words.from_word rest)) (λ maps rest. ap (λ p. p (at_maps maps l.env)) (named_clause parent n ns rest h))
    (prints_wider open_ refl (then (before (import_braces_print l parent (imported.Named n ∷ ns) h) (writes_formatting_space l.env)) (from_prints l.env)))
ordered_prints l parent (default d) = prints_wider open_ refl (then (ident_prints l d.local) (then (after (writes_space l.env) prints_nothing) (from_prints l.env)))
ordered_prints l parent (default_star d n) =
    prints_wider open_ refl
    (then (ident_prints l d.local)
    (then (then (prints_punct l.env (codes ",") marks.comma) (after (writes_formatting_space l.env) (star_prints l.env (before (ident_prints l n.local) (writes_space l.env)))))
    (from_prints l.env)))
ordered_prints l parent (default_named d n ns h) =
    prints_same (words.import_clause parent (imported.Default d ∷ imported.Named n ∷ ns)) (λ rest. words_ident d.local (punct (codes ",") (formatting_space (braces_then parent (imported.Named n ∷ ns) (words.from_word rest)))))
    (λ maps rest. ap (λ p. p (at_maps maps l.env)) (default_clause parent d n ns rest h))
    (prints_wider open_ refl
    (then (ident_prints l d.local)
    (then (then (prints_punct l.env (codes ",") marks.comma) (after (writes_formatting_space l.env) (before (import_braces_print l parent (imported.Named n ∷ ns) h) (writes_formatting_space l.env))))
    (from_prints l.env))))

import_clause_prints : {X : Type 0} (l : Linked X) (parent : Span) (ns : List ImportSpecifier) → PrintsAt open_ l.env (words.import_clause parent ns) (lists.import_clause ns)
import_clause_prints l parent ns = if_possible (λ w. ordered_prints l parent (imports_ordered ns w))

phase_prints : (env : Env) (phase : ImportPhase) → PrintsAt open_ env (words.phase_word phase) (lists.import_phase phase)
unfolding words.phase_word lists.import_phase
phase_prints env Evaluation = prints_nothing
phase_prints env Source = prints_wider open_ refl (after (writes_space env) (prints_keyword env None (codes "source") marks.source_word))
phase_prints env Defer = prints_wider open_ refl (after (writes_space env) (prints_keyword env None (codes "defer") marks.defer_word))

attributes_print : {X : Type 0} (l : Linked X) (n : Option (ObjectLitBox X)) → PrintsAt open_ l.env (words.attributes l.items n) (lists.attributes l.reads n)
unfolding words.attributes lists.attributes
attributes_print l None = prints_nothing
attributes_print l (Some n) =
    prints_wider open_ refl
    (after (writes_formatting_space l.env) (then prints_attributes_word (after (writes_formatting_space l.env) (l.law n.node.value (Whole Plain) ObjectLiteral))))

source_end_prints : {X : Type 0} (l : Linked X) (src : Str) (with_ : Option (ObjectLitBox X)) (span : Span) → PrintsAt ended l.env (words.source_end l.items src with_ span) (str_lit src > lists.attributes l.reads with_ > ending)
unfolding words.source_end
source_end_prints l src with_ span = then (prints_str l.env src) (then (attributes_print l with_) (before (prints_semi l.env) (writes_position l.env span.hi)))

-- a namespace among more than two is refused, and has no list of tokens
unless_crowded : {i : Shape} {env : Env} {p : Part} {f : Phrase} (crowded : Bool) → (is_possible f ≡ true → crowded ≡ false) → PrintsAt i env p f → PrintsAt i env (λ rest. cond crowded (bad_shape rest) (p rest)) f
unless_crowded {env = env} {p = p} crowded room h =
    if_possible (λ w. prints_same (λ rest. cond crowded (bad_shape rest) (p rest)) p (λ maps rest. ap (λ b. cond b (bad_shape rest) (p rest) (at_maps maps env)) (room w)) h)

import_has_room : (type_only : Bool) (phase : ImportPhase) (ns : List ImportSpecifier) (tail : Phrase) → is_possible (word (codes "import") > lists.type_word type_only > lists.import_phase phase > lists.import_clause ns > tail) ≡ true → words.is_crowded ns ≡ false
unfolding is_possible
import_has_room type_only phase ns tail w =
    ordered_not_crowded (imports_ordered ns (and_parts (is_possible (lists.import_clause ns)) _ (and_parts (is_possible (lists.import_phase phase)) _ (and_parts (is_possible (lists.type_word type_only)) _ w).1).1).0)

import_prints : {X : Type 0} (l : Linked X) (n : ImportDecl X) → PrintsAt ended l.env (words.import_decl l.items n) (lists.import_decl l.reads n)
unfolding words.import_decl words.import_parts words.import_tail lists.import_decl
import_prints l n = unless_crowded (words.is_crowded n.specifiers.items) (import_has_room n.type_only n.phase n.specifiers.items _)
    (after (writes_leading l.env n.span.lo)
    (after (writes_position l.env n.span.lo)
    (then (prints_keyword l.env None (codes "import") marks.import_word)
    (then (type_word_prints l.env n.type_only)
    (then (phase_prints l.env n.phase)
    (after (writes_blank l.env (words.begins_default n.specifiers.items))
    (then (import_clause_prints l n.span n.specifiers.items) (source_end_prints l n.src n.with n.span))))))))

-- ---- exports

exported_as_prints : {X : Type 0} (l : Linked X) (n : Option ModuleExportName) → PrintsAt open_ l.env (words.exported_as n) (lists.exported_as n)
unfolding words.exported_as lists.exported_as
exported_as_prints l None = prints_nothing
exported_as_prints l (Some n) = prints_wider open_ refl (then (as_prints l.env) (name_prints l n))

export_named_specifier_prints : {X : Type 0} (l : Linked X) (n : ExportNamedSpecifier) → Prints l.env (words.export_named_specifier n) (lists.export_named_specifier n)
unfolding words.export_named_specifier lists.export_named_specifier lists.type_word
export_named_specifier_prints l n =
    after (writes_leading l.env n.span.lo)
    (after (writes_position l.env n.span.lo)
    (then (word_before_prints l.env n.is_type_only (codes "type") decl_words.type_word)
    (then (name_prints l n.orig) (before (exported_as_prints l n.exported) (writes_position l.env n.span.hi)))))

export_specifier_prints : {X : Type 0} (l : Linked X) (n : ExportSpecifier) → Prints l.env (words.export_specifier n) (lists.export_specifier n)
unfolding words.export_specifier lists.export_specifier
export_specifier_prints l (exported.Named n) = export_named_specifier_prints l n
export_specifier_prints l n = prints_never

-- where none but names stand among the braces
abbrev all_exported : List ExportSpecifier → Bool
all_exported [] = true
all_exported (exported.Named n ∷ ns) = all_exported ns
all_exported (n ∷ ns) = false

exported_kept : (ns : List ExportSpecifier) → all_exported ns ≡ true → filter words.is_braced ns ≡ ns
unfolding words.is_braced words.is_namespace
exported_kept [] h = refl
exported_kept (exported.Named n ∷ ns) h = ap (λ xs. exported.Named n ∷ xs) (exported_kept ns h)
exported_kept (n ∷ ns) h = absurd (true≢false (sym h))

none_namespace : (ns : List ExportSpecifier) → all_exported ns ≡ true → list_any words.is_namespace ns ≡ false
unfolding words.is_namespace
none_namespace [] h = refl
none_namespace (exported.Named n ∷ ns) h = none_namespace ns h
none_namespace (n ∷ ns) h = absurd (true≢false (sym h))

exported_after : (ns : List ExportSpecifier) → is_possible (phrases.each_after (codes ",") (map lists.export_specifier ns)) ≡ true → all_exported ns ≡ true
unfolding is_possible phrases.each_after lists.export_specifier
exported_after [] w = refl
exported_after (exported.Named n ∷ ns) w = exported_after ns (and_parts (is_possible (lists.export_named_specifier n)) _ w).1
exported_after (n ∷ ns) w = absurd (true≢false (sym w))

exported_braced : (n : ExportNamedSpecifier) (ns : List ExportSpecifier) → is_possible (lists.export_braces (exported.Named n ∷ ns)) ≡ true → all_exported ns ≡ true
unfolding is_possible phrases.listed lists.export_specifier lists.export_braces
exported_braced n ns w =
    let names : Bool = is_possible (lists.export_named_specifier n) && is_possible (phrases.each_after (codes ",") (map lists.export_specifier ns)) in
    exported_after ns (and_parts (is_possible (lists.export_named_specifier n)) _ (and_parts names _ w).0).1

export_list_prints : {X : Type 0} (l : Linked X) (parent : Span) (close : Part) → Prints l.env close (mark (codes "}")) → (ns : List ExportSpecifier) → PrintsAt closed l.env (λ rest. list words.named_format parent (children_of export_specifier_span words.export_specifier ns) (close rest)) (phrases.listed (codes ",") (map lists.export_specifier ns) > closing_of RightBrace ns)
unfolding phrases.listed closing_of closing_mark
export_list_prints l parent close h [] = after (writes_no_list l.env words.named_format parent) (then prints_nothing h)
export_list_prints l parent close h (n ∷ ns) =
    prints_some l.env words.named_format parent export_specifier_span words.export_specifier lists.export_specifier (CommaBefore RightBrace) close
    (λ n. loosened (export_specifier_prints l n)) refl refl (λ last. prints_optional_closing l.env words.named_format parent last RightBrace close refl refl h) n ns

export_braces_print : {X : Type 0} (l : Linked X) (parent : Span) (ns : List ExportSpecifier) → all_exported ns ≡ true → Prints l.env (words.export_braces parent ns) (lists.export_braces ns)
unfolding words.export_braces lists.export_braces
export_braces_print l parent ns h =
    let P : List ExportSpecifier → Type 0 = λ xs. Prints l.env (λ rest. punct (codes "{") (list words.named_format parent (children_of export_specifier_span words.export_specifier xs) (punct (codes "}") rest))) (lists.export_braces ns) in
    subst P (sym (exported_kept ns h)) (then (prints_punct l.env (codes "{") marks.left_brace) (export_list_prints l parent (punct (codes "}")) (prints_punct l.env (codes "}") marks.right_brace) ns))

namespace_prints : {X : Type 0} (l : Linked X) (n : ExportNamespaceSpecifier) → Prints l.env (words.export_namespace n) (lists.export_namespace n)
unfolding words.export_namespace lists.export_namespace
namespace_prints l n = after (writes_leading l.env n.span.lo) (after (writes_position l.env n.span.lo) (star_prints l.env (before (name_prints l n.name) (writes_position l.env n.span.hi))))

star_then_braces : {X : Type 0} (l : Linked X) (parent : Span) (n : ExportNamespaceSpecifier) (m : ExportNamedSpecifier) (ns : List ExportSpecifier) → all_exported ns ≡ true → Prints l.env (words.export_clause parent (exported.Namespace n ∷ exported.Named m ∷ ns)) (lists.export_clause (exported.Namespace n ∷ exported.Named m ∷ ns))
unfolding words.export_clause words.star_exports words.star_export words.more_exports words.export_braces words.is_namespace words.is_braced lists.export_clause
star_then_braces l parent n m ns h =
    then (namespace_prints l n) (then (prints_punct l.env (codes ",") marks.comma) (after (writes_formatting_space l.env) (export_braces_print l parent (exported.Named m ∷ ns) h)))

braces_alone : {X : Type 0} (l : Linked X) (parent : Span) (m : ExportNamedSpecifier) (ns : List ExportSpecifier) → all_exported ns ≡ true → Prints l.env (words.export_clause parent (exported.Named m ∷ ns)) (lists.export_clause (exported.Named m ∷ ns))
unfolding words.export_clause words.is_namespace lists.export_clause
braces_alone l parent m ns h =
    let ms : List ExportSpecifier = exported.Named m ∷ ns in
    prints_same (words.export_clause parent ms) (words.export_braces parent ms) (λ maps rest. ap (λ b. cond b (words.star_exports parent ms rest) (words.export_braces parent ms rest) (at_maps maps l.env)) (none_namespace ns h))
    (export_braces_print l parent ms h)

export_clause_prints : {X : Type 0} (l : Linked X) (parent : Span) (ns : List ExportSpecifier) → Prints l.env (words.export_clause parent ns) (lists.export_clause ns)
unfolding is_possible phrases.listed words.export_clause words.star_exports words.star_export words.more_exports words.is_namespace words.is_braced lists.export_clause lists.export_braces lists.export_specifier
export_clause_prints l parent [] = export_braces_print l parent [] refl
export_clause_prints l parent (exported.Namespace n ∷ []) = namespace_prints l n
export_clause_prints l parent (exported.Namespace n ∷ exported.Named m ∷ ns) = if_possible (λ w. star_then_braces l parent n m ns (exported_braced m ns (and_parts (is_possible (lists.export_namespace n)) _ w).1))
export_clause_prints l parent (exported.Namespace n ∷ exported.Namespace m ∷ ns) = if_possible (λ w. absurd (no_order _ w))
export_clause_prints l parent (exported.Namespace n ∷ exported.Default m ∷ ns) = if_possible (λ w. absurd (no_order _ w))
export_clause_prints l parent (exported.Named n ∷ ns) = if_possible (λ w. braces_alone l parent n ns (exported_braced n ns w))
export_clause_prints l parent (exported.Default n ∷ ns) = prints_impossible refl

from_clause_prints : {X : Type 0} (l : Linked X) (with_ : Option (ObjectLitBox X)) (needed : Bool) (n : Option Str) → PrintsAt open_ l.env (words.from_clause l.items with_ needed n) (lists.from_clause l.reads with_ n)
unfolding words.from_clause lists.from_clause
from_clause_prints l None needed None = prints_nothing
from_clause_prints l (Some w) needed None = prints_never
from_clause_prints l with_ needed (Some n) = prints_wider open_ refl (after (writes_blank l.env needed) (then (from_prints l.env) (then (prints_str l.env n) (attributes_print l with_))))

export_named_prints : {X : Type 0} (l : Linked X) (n : NamedExport X) → PrintsAt ended l.env (words.export_named l.items n) (lists.export_named l.reads n)
unfolding words.export_named words.export_tail lists.export_named
export_named_prints l n =
    after (writes_leading l.env n.span.lo)
    (after (writes_position l.env n.span.lo)
    (then (prints_keyword l.env None (codes "export") marks.export_word)
    (then (type_word_prints l.env n.type_only)
    (after (writes_formatting_space l.env)
    (then (export_clause_prints l n.span n.specifiers.items)
    (then (from_clause_prints l n.with (words.ends_with_name n.specifiers.items) n.src) (before (prints_semi l.env) (writes_position l.env n.span.hi))))))))

all_word_prints : (env : Env) (type_only : Bool) → PrintsAt open_ env (words.all_word type_only) (lists.type_word type_only)
unfolding words.all_word lists.type_word word_if
all_word_prints env true = prints_wider open_ refl (after (writes_space env) (before (prints_keyword env None (codes "type") decl_words.type_word) (writes_space env)))
all_word_prints env false = after (writes_formatting_space env) prints_nothing

export_all_prints : {X : Type 0} (l : Linked X) (n : ExportAll X) → PrintsAt ended l.env (words.export_all l.items n) (lists.export_all l.reads n)
unfolding words.export_all words.all_tail lists.export_all
export_all_prints l n =
    after (writes_leading l.env n.span.lo)
    (after (writes_position l.env n.span.lo)
    (then (prints_keyword l.env None (codes "export") marks.export_word)
    (then (all_word_prints l.env n.type_only)
    (then (prints_punct l.env (codes "*") marks.star)
    (after (writes_formatting_space l.env)
    (then (from_prints l.env) (source_end_prints l n.src n.with n.span)))))))

export_decl_prints : {X : Type 0} (l : Linked X) (n : ExportDecl X) → PrintsAt ended l.env (words.export_decl l.items n) (lists.export_decl l.reads n)
unfolding words.export_decl lists.export_decl
export_decl_prints l n =
    after (writes_position l.env n.span.lo)
    (then (l.law n.decl.node.value (Whole Plain) HeadOfExported)
    (then (prints_keyword l.env None (codes "export") marks.export_word) (after (writes_space l.env) (l.law n.decl.node.value (Whole Plain) TailOfExported))))

default_decl_prints : {X : Type 0} (l : Linked X) (n : DefaultDecl X) → PrintsAt ended l.env (words.default_decl l.asks l.items n) (lists.default_decl l.reads n)
unfolding words.default_decl lists.default_decl
default_decl_prints l (default_decls.Class n) = prints_wider ended refl (class_expr_prints l n)
default_decl_prints l (default_decls.Fn n) = default_fn_prints l n
default_decl_prints l (default_decls.TsInterfaceDecl n) = prints_wider ended refl (interface_prints l n)

default_prints : (env : Env) {p : Part} {f : Phrase} → PrintsAt ended env p f → PrintsAt ended env (λ rest. words.export_default (p rest)) (word (codes "export") > word (codes "default") > f)
unfolding words.export_default
default_prints env h = then (prints_keyword env None (codes "export") marks.export_word) (after (writes_space env) (then (prints_keyword env None (codes "default") marks.default_word) h))

export_default_decl_prints : {X : Type 0} (l : Linked X) (n : ExportDefaultDecl X) → PrintsAt ended l.env (words.export_default_decl l.asks l.items n) (lists.export_default_decl l.reads n)
unfolding words.export_default_decl lists.export_default_decl
export_default_decl_prints l n =
    after (writes_leading l.env n.span.lo) (after (writes_position l.env n.span.lo) (default_prints l.env (after (writes_space l.env) (default_decl_prints l n.decl))))

export_default_expr_prints : {X : Type 0} (l : Linked X) (n : ExportDefaultExpr X) → PrintsAt ended l.env (words.export_default_expr l.asks l.items n) (lists.export_default_expr l.reads n)
unfolding words.export_default_expr lists.export_default_expr
export_default_expr_prints l n =
    after (writes_position l.env n.span.lo)
    (default_prints l.env
    (after (writes_blank l.env (l.asks n.expr.node.value).starts) (then (expr_at l n.expr Plain) (before (prints_semi l.env) (writes_position l.env n.span.hi)))))

-- ---- all of them

decl_by_prints : {X : Type 0} (l : Linked X) (n : ModuleDecl X) → PrintsAt ended l.env (words.module_decl_by l.asks l.items n) (lists.module_decl l.reads n)
unfolding words.module_decl_by lists.module_decl
decl_by_prints l (module_decls.Import n) = import_prints l n
decl_by_prints l (module_decls.ExportDecl n) = export_decl_prints l n
decl_by_prints l (module_decls.ExportNamed n) = export_named_prints l n
decl_by_prints l (module_decls.ExportDefaultDecl n) = export_default_decl_prints l n
decl_by_prints l (module_decls.ExportDefaultExpr n) = export_default_expr_prints l n
decl_by_prints l (module_decls.ExportAll n) = export_all_prints l n
decl_by_prints l (module_decls.TsImportEquals n) = import_equals_prints l n
decl_by_prints l (module_decls.TsExportAssignment n) = export_assignment_prints l n
decl_by_prints l (module_decls.TsNamespaceExport n) = namespace_export_prints l n

pub module_decl_prints : {X : Type 0} (l : Linked X) (n : ModuleDecl X) → PrintsAt ended l.env (words.module_decl l.asks l.items n) (lists.module_decl l.reads n)
unfolding words.module_decl
module_decl_prints l n =
    after (writes_leading l.env (module_decl_span n).lo)
    (before (before (decl_by_prints l n) (writes_trailing l.env true (module_decl_span n).hi)) (writes_formatting_line l.env))

item_by_prints : {X : Type 0} (l : Linked X) (n : ModuleItem X) → PrintsAt ended l.env (words.module_item_by l.asks l.items n) (stmt_lists.module_item l.reads n)
unfolding words.module_item_by stmt_lists.module_item
item_by_prints l (module_items.ModuleDecl n) = l.law n.node.value (Whole Plain) ModuleDeclaration
item_by_prints l (module_items.Stmt n) = stmt_prints l n

pub module_item_prints : {X : Type 0} (l : Linked X) (n : ModuleItem X) → PrintsAt ended l.env (words.module_item l.asks l.items n) (stmt_lists.module_item l.reads n)
unfolding words.module_item
module_item_prints l n =
    after (writes_leading l.env (module_item_span (place_of l.asks) n).lo) (before (item_by_prints l n) (writes_trailing l.env true (module_item_span (place_of l.asks) n).hi))
