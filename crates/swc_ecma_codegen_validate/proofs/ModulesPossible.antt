-- When modules, imports and exports are well-formed.
use Rattle.std.proofs.Common.{◌≡◌, Bool, true, ◌&&◌, is_none, List, [], ◌∷◌, map, codes, Option, Some, None, refl, ap, ◌∙◌}
use Rattle.swc_ecma_codegen_tree.specs.Links.{ObjectLitBox}
use Rattle.swc_ecma_codegen_tree.specs.declared.decls.ClassDecl.{ClassDecl}
use Rattle.swc_ecma_codegen_tree.specs.declared.decls.Decl.TheVariants as decls
use Rattle.swc_ecma_codegen_tree.specs.declared.modules.ExportAll.{ExportAll}
use Rattle.swc_ecma_codegen_tree.specs.declared.modules.ExportNamedSpecifier.{ExportNamedSpecifier}
use Rattle.swc_ecma_codegen_tree.specs.declared.modules.ExportSpecifier.{ExportSpecifier}
use Rattle.swc_ecma_codegen_tree.specs.declared.modules.ExportSpecifier.TheVariants as exported
use Rattle.swc_ecma_codegen_tree.specs.declared.modules.ImportDecl.{ImportDecl}
use Rattle.swc_ecma_codegen_tree.specs.declared.modules.ImportNamedSpecifier.{ImportNamedSpecifier}
use Rattle.swc_ecma_codegen_tree.specs.declared.modules.ImportPhase.{ImportPhase}
use Rattle.swc_ecma_codegen_tree.specs.declared.modules.ImportPhase.TheVariants.{Evaluation, Source, Defer}
use Rattle.swc_ecma_codegen_tree.specs.declared.modules.ImportSpecifier.{ImportSpecifier}
use Rattle.swc_ecma_codegen_tree.specs.declared.modules.ImportSpecifier.TheVariants as imported
use Rattle.swc_ecma_codegen_tree.specs.declared.modules.ModuleExportName.{ModuleExportName}
use Rattle.swc_ecma_codegen_tree.specs.declared.modules.NamedExport.{NamedExport}
use Rattle.swc_ecma_codegen_grammar.specs.Phrases.{Phrase, RightBrace, ◌>◌, mark, listed, is_possible}
use Rattle.swc_ecma_codegen_grammar.specs.ElementPhrases.{closing_of}
use Rattle.swc_ecma_codegen_grammar.specs.LitPhrases.{str_lit}
use Rattle.swc_ecma_codegen_grammar.specs.ModulePhrases.{type_word, attributes, module_export_name, imported_as, import_named, import_specifier, import_bindings, after_default, import_clause, import_phase, import_decl, exported_as, export_named_specifier, export_specifier, export_namespace, export_braces, export_clause, from_clause, export_named, export_all, exported_tail}
use Rattle.swc_ecma_codegen_grammar.specs.NamePhrases.{ident}
use Rattle.swc_ecma_codegen_grammar.specs.declared.roles.Role.{Role}
use Rattle.swc_ecma_codegen_grammar.specs.declared.roles.Role.TheVariants.{ClassWord, ClassTail}
use Rattle.swc_ecma_codegen_validate.specs.ModuleForms.{bindings_fit, others_fit, imports_fit, exports_fit}
use Rattle.swc_ecma_codegen_validate.specs.Possible.{all_possible}
use Rattle.swc_ecma_codegen_validate.proofs.Lists.{listed_possible, and_true}
use Rattle.swc_ecma_codegen_validate.proofs.MembersPossible.{past_word}
use Rattle.swc_ecma_codegen_validate.proofs.PatsPossible.{closing_possible}
use Rattle.swc_ecma_codegen_validate.proofs.TsDeclsPossible.{past_declare}

-- what stands between braces
braces : {A : Type 0} (e : A → Phrase) (ns : List A) → is_possible (mark (codes "{") > listed (codes ",") (map e ns) > closing_of RightBrace ns) ≡ all_possible e ns
unfolding is_possible
braces e ns =
    ap (λ b. b && is_possible (closing_of RightBrace ns)) (listed_possible (codes ",") e ns)
    ∙ ap (λ b. all_possible e ns && b) (closing_possible RightBrace ns)
    ∙ and_true (all_possible e ns)

-- what stands behind `type`, where it is there
past_type : (type_only : Bool) (rest : Bool) → (is_possible (type_word type_only) && rest) ≡ rest
unfolding type_word
past_type type_only rest = past_word type_only (codes "type") rest

-- ---- imports

pub imported_as_possible : (n : ModuleExportName) → is_possible (imported_as (Some n)) ≡ is_possible (module_export_name n)
unfolding is_possible imported_as
imported_as_possible n = and_true (is_possible (module_export_name n))

pub import_named_possible : (n : ImportNamedSpecifier) → is_possible (import_named n) ≡ (is_possible (imported_as n.imported) && is_possible (ident n.local))
unfolding is_possible import_named
import_named_possible n = past_type n.is_type_only _

bindings_possible : (ns : List ImportSpecifier) → is_possible (import_bindings ns) ≡ bindings_fit ns
unfolding is_possible import_bindings bindings_fit
bindings_possible [] = braces import_specifier []
bindings_possible (imported.Namespace n ∷ []) = refl
bindings_possible (imported.Namespace n ∷ m ∷ ns) = braces import_specifier (imported.Namespace n ∷ m ∷ ns)
bindings_possible (imported.Named n ∷ ns) = braces import_specifier (imported.Named n ∷ ns)
bindings_possible (imported.Default n ∷ ns) = braces import_specifier (imported.Default n ∷ ns)

others_possible : (ns : List ImportSpecifier) → is_possible (after_default ns) ≡ others_fit ns
unfolding is_possible after_default others_fit
others_possible [] = refl
others_possible (n ∷ ns) = bindings_possible (n ∷ ns)

imports_possible : (ns : List ImportSpecifier) → is_possible (import_clause ns) ≡ imports_fit ns
unfolding is_possible import_clause imports_fit
imports_possible [] = refl
imports_possible (imported.Default n ∷ ns) = ap (λ b. is_possible (ident n.local) && b) (and_true (is_possible (after_default ns)) ∙ others_possible ns)
imports_possible (imported.Named n ∷ ns) = and_true (is_possible (import_bindings (imported.Named n ∷ ns))) ∙ bindings_possible (imported.Named n ∷ ns)
imports_possible (imported.Namespace n ∷ ns) = and_true (is_possible (import_bindings (imported.Namespace n ∷ ns))) ∙ bindings_possible (imported.Namespace n ∷ ns)

phase_possible : (p : ImportPhase) → is_possible (import_phase p) ≡ true
unfolding is_possible import_phase
phase_possible Evaluation = refl
phase_possible Source = refl
phase_possible Defer = refl

pub import_decl_possible : {X : Type 0} (f : X → Role → Phrase) (n : ImportDecl X) → is_possible (import_decl f n) ≡ (imports_fit n.specifiers.items && (is_possible (str_lit n.src) && is_possible (attributes f n.with)))
unfolding is_possible import_decl
import_decl_possible f n =
    let src : Bool = is_possible (str_lit n.src) in
    let with_ : Bool = is_possible (attributes f n.with) in
    past_type n.type_only _
    ∙ ap (λ b. b && (is_possible (import_clause n.specifiers.items) && (src && (with_ && true)))) (phase_possible n.phase)
    ∙ ap (λ b. b && (src && (with_ && true))) (imports_possible n.specifiers.items)
    ∙ ap (λ b. imports_fit n.specifiers.items && (src && b)) (and_true with_)

-- ---- exports

pub export_named_specifier_possible : (n : ExportNamedSpecifier) → is_possible (export_named_specifier n) ≡ (is_possible (module_export_name n.orig) && is_possible (exported_as n.exported))
unfolding is_possible export_named_specifier
export_named_specifier_possible n = past_type n.is_type_only _

exports_possible : (ns : List ExportSpecifier) → is_possible (export_clause ns) ≡ exports_fit ns
unfolding is_possible export_clause export_namespace export_braces exports_fit
exports_possible [] = braces export_specifier []
exports_possible (exported.Namespace n ∷ []) = refl
exports_possible (exported.Namespace n ∷ m ∷ ns) = ap (λ b. is_possible (module_export_name n.name) && b) (braces export_specifier (m ∷ ns))
exports_possible (exported.Named n ∷ ns) = braces export_specifier (exported.Named n ∷ ns)
exports_possible (exported.Default n ∷ ns) = braces export_specifier (exported.Default n ∷ ns)

-- without another module there are no attributes
pub no_module_possible : {X : Type 0} (f : X → Role → Phrase) (with_ : Option (ObjectLitBox X)) → is_possible (from_clause f with_ None) ≡ is_none with_
unfolding is_possible from_clause
no_module_possible f None = refl
no_module_possible f (Some n) = refl

pub export_named_possible : {X : Type 0} (f : X → Role → Phrase) (n : NamedExport X) → is_possible (export_named f n) ≡ (exports_fit n.specifiers.items && is_possible (from_clause f n.with n.src))
unfolding is_possible export_named
export_named_possible f n =
    let from : Bool = is_possible (from_clause f n.with n.src) in
    past_type n.type_only _
    ∙ ap (λ b. b && (from && true)) (exports_possible n.specifiers.items)
    ∙ ap (λ b. exports_fit n.specifiers.items && b) (and_true from)

pub export_all_possible : {X : Type 0} (f : X → Role → Phrase) (n : ExportAll X) → is_possible (export_all f n) ≡ (is_possible (str_lit n.src) && is_possible (attributes f n.with))
unfolding is_possible export_all
export_all_possible f n = past_type n.type_only _ ∙ ap (λ b. is_possible (str_lit n.src) && b) (and_true (is_possible (attributes f n.with)))

pub exported_class_possible : {X : Type 0} (f : X → Role → Phrase) (n : ClassDecl X) → is_possible (exported_tail f (decls.Class n)) ≡ (is_possible (f n.class.node.value ClassWord) && (is_possible (ident n.ident) && is_possible (f n.class.node.value ClassTail)))
unfolding is_possible exported_tail
exported_class_possible f n = past_declare n.declare _
