-- Which specifiers of imports and exports are well-formed.
use Rattle.std.specs.Prelude.{Bool, true, List, [], ◌∷◌, ◌&&◌}
use Rattle.swc_ecma_codegen_tree.specs.declared.modules.ExportSpecifier.{ExportSpecifier}
use Rattle.swc_ecma_codegen_tree.specs.declared.modules.ExportSpecifier.TheVariants as exported
use Rattle.swc_ecma_codegen_tree.specs.declared.modules.ImportSpecifier.{ImportSpecifier}
use Rattle.swc_ecma_codegen_tree.specs.declared.modules.ImportSpecifier.TheVariants as imported
use Rattle.swc_ecma_codegen_grammar.specs.Phrases.{is_possible}
use Rattle.swc_ecma_codegen_grammar.specs.ModulePhrases.{module_export_name, import_specifier, export_specifier}
use Rattle.swc_ecma_codegen_grammar.specs.NamePhrases.{ident}
use Rattle.swc_ecma_codegen_validate.specs.Possible.{all_possible}

-- `{ a, b }` or `* as a`
unfoldable pub bindings_fit : List ImportSpecifier → Bool
bindings_fit (imported.Namespace n ∷ []) = is_possible (ident n.local)
bindings_fit ns = all_possible import_specifier ns

-- what stands after the default one
unfoldable pub others_fit : List ImportSpecifier → Bool
others_fit [] = true
others_fit (n ∷ ns) = bindings_fit (n ∷ ns)

unfoldable pub imports_fit : List ImportSpecifier → Bool
imports_fit [] = true
imports_fit (imported.Default n ∷ ns) = is_possible (ident n.local) && others_fit ns
imports_fit ns = bindings_fit ns

unfoldable pub exports_fit : List ExportSpecifier → Bool
exports_fit (exported.Namespace n ∷ []) = is_possible (module_export_name n.name)
exports_fit (exported.Namespace n ∷ m ∷ ns) = is_possible (module_export_name n.name) && all_possible export_specifier (m ∷ ns)
exports_fit ns = all_possible export_specifier ns
