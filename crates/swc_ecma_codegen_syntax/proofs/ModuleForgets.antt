-- Without nonterminals the forms of modules and programs are the productions that tell their tokens, where they keep their structure.
use Rattle.std.proofs.Common.{◌≡◌, Bool, true, refl, sym, ap, ap₂, List, [], ◌∷◌, map, codes, Option, Some, None}
use Rattle.std.proofs.lemmas.Bool.{true≢false, and_parts}
use Rattle.swc_ecma_codegen_tree.specs.declared.modules.DefaultDecl.{DefaultDecl}
use Rattle.swc_ecma_codegen_tree.specs.declared.modules.DefaultDecl.TheVariants as default_decls
use Rattle.swc_ecma_codegen_tree.specs.Links.{ObjectLitBox}
use Rattle.swc_ecma_codegen_tree.specs.declared.decls.Decl.{Decl}
use Rattle.swc_ecma_codegen_tree.specs.declared.decls.Decl.TheVariants as decls
use Rattle.swc_ecma_codegen_tree.specs.declared.lits.Str.{Str}
use Rattle.swc_ecma_codegen_tree.specs.declared.modules.ImportDecl.{ImportDecl}
use Rattle.swc_ecma_codegen_tree.specs.declared.modules.ExportAll.{ExportAll}
use Rattle.swc_ecma_codegen_tree.specs.declared.modules.NamedExport.{NamedExport}
use Rattle.swc_ecma_codegen_tree.specs.declared.programs.ModuleDecl.{ModuleDecl}
use Rattle.swc_ecma_codegen_tree.specs.declared.programs.ModuleDecl.TheVariants as module_decls
use Rattle.swc_ecma_codegen_tree.specs.declared.programs.ModuleItem.{ModuleItem}
use Rattle.swc_ecma_codegen_tree.specs.declared.programs.ModuleItem.TheVariants as module_items
use Rattle.swc_ecma_codegen_tree.specs.declared.programs.Program.{Program}
use Rattle.swc_ecma_codegen_tree.specs.declared.programs.Program.TheVariants as programs
use Rattle.swc_ecma_codegen_grammar.specs.Phrases.{Phrase, Then, ◌>◌, word, mark, ending}
use Rattle.swc_ecma_codegen_grammar.specs.Phrases as phrases
use Rattle.swc_ecma_codegen_grammar.specs.LitPhrases.{str_lit}
use Rattle.swc_ecma_codegen_grammar.specs.ModulePhrases.{type_word, import_phase, import_clause, attributes, import_decl, from_clause, export_clause, export_named, export_all, exported_head, exported_tail, export_decl, export_default_expr, module_decl, default_decl, export_default_decl}
use Rattle.swc_ecma_codegen_grammar.specs.StmtPhrases.{shebang, script, module_item, whole_module, program}
use Rattle.swc_ecma_codegen_grammar.specs.declared.roles.Role.{Role}
use Rattle.swc_ecma_codegen_syntax.specs.declared.parameters.Parameters.{Parameters}
use Rattle.swc_ecma_codegen_syntax.specs.Summary.{Summary}
use Rattle.swc_ecma_codegen_syntax.specs.Parameters.{of_script, of_module, in_list}
use Rattle.swc_ecma_codegen_syntax.specs.Forms.{forget, keeps, is_met}
use Rattle.swc_ecma_codegen_syntax.specs.ModuleForms.{attributes_form, import_form, from_form, export_named_form, export_all_form, exported_head_form, exported_tail_form, export_decl_form, export_default_form, module_decl_form, item_form, begins_empty_item, items_form, module_form, script_form, program_form, default_form, default_decl_form}
use Rattle.swc_ecma_codegen_syntax.specs.Verdicts.{Grammar}
use Rattle.swc_ecma_codegen_syntax.proofs.StmtForgets.{decl_forgets, stmt_forgets, list_forgets}
use Rattle.swc_ecma_codegen_syntax.proofs.ClassForgets.{class_rest_forgets, class_expr_forgets}
use Rattle.swc_ecma_codegen_syntax.proofs.FunctionForgets.{fn_default_forgets}

attributes_forget : {X : Type 0} (p : X → Role → Phrase) (c : Parameters) (n : Option (ObjectLitBox X)) → forget p (attributes_form c n) ≡ attributes p n
unfolding forget attributes_form attributes
attributes_forget p c None = refl
attributes_forget p c (Some n) = refl

import_forgets : {X : Type 0} (p : X → Role → Phrase) (c : Parameters) (n : ImportDecl X) → forget p (import_form c n) ≡ import_decl p n
unfolding forget import_form import_decl
import_forgets p c n =
    ap (λ a. word (codes "import") > type_word n.type_only > import_phase n.phase > import_clause n.specifiers.items > str_lit n.src > a > ending) (attributes_forget p c n.with)

from_forgets : {X : Type 0} (p : X → Role → Phrase) (c : Parameters) (with_ : Option (ObjectLitBox X)) (n : Option Str) → forget p (from_form c with_ n) ≡ from_clause p with_ n
unfolding forget from_form from_clause
from_forgets p c with_ (Some n) = ap (λ a. word (codes "from") > str_lit n > a) (attributes_forget p c with_)
from_forgets p c None None = refl
from_forgets p c (Some w) None = refl

named_forgets : {X : Type 0} (p : X → Role → Phrase) (c : Parameters) (n : NamedExport X) → forget p (export_named_form c n) ≡ export_named p n
unfolding forget export_named_form export_named
named_forgets p c n = ap (λ a. word (codes "export") > type_word n.type_only > export_clause n.specifiers.items > a > ending) (from_forgets p c n.with n.src)

all_forgets : {X : Type 0} (p : X → Role → Phrase) (c : Parameters) (n : ExportAll X) → forget p (export_all_form c n) ≡ export_all p n
unfolding forget export_all_form export_all
all_forgets p c n = ap (λ a. word (codes "export") > type_word n.type_only > mark (codes "*") > word (codes "from") > str_lit n.src > a > ending) (attributes_forget p c n.with)

pub exported_head_forgets : {X : Type 0} (grammar : Grammar) (f : X → Role → Parameters → Summary) (p : X → Role → Phrase) (c : Parameters) (n : Decl X) →
    keeps grammar f (exported_head_form c n) ≡ true → forget p (exported_head_form c n) ≡ exported_head p n
unfolding forget keeps is_met exported_head_form exported_head
exported_head_forgets grammar f p c (decls.Class n) k = refl
exported_head_forgets grammar f p c n k = refl

pub exported_tail_forgets : {X : Type 0} (grammar : Grammar) (f : X → Role → Parameters → Summary) (p : X → Role → Phrase) (c : Parameters) (n : Decl X) →
    keeps grammar f (exported_tail_form c n) ≡ true → forget p (exported_tail_form c n) ≡ exported_tail p n
unfolding keeps is_met exported_tail_form exported_tail
exported_tail_forgets grammar f p c (decls.Class n) k = class_rest_forgets p c n
exported_tail_forgets grammar f p c (decls.Using n) k = absurd (true≢false (sym k))
exported_tail_forgets grammar f p c n k = decl_forgets grammar f p c n k

default_forgets : {X : Type 0} (grammar : Grammar) (f : X → Role → Parameters → Summary) (p : X → Role → Phrase) (c : Parameters) (n : DefaultDecl X) →
    keeps grammar f (default_form c n) ≡ true → forget p (default_form c n) ≡ default_decl p n
unfolding keeps is_met default_form default_decl
default_forgets grammar f p c (default_decls.Class n) k = class_expr_forgets p c n
default_forgets grammar f p c (default_decls.Fn n) k = fn_default_forgets p c n
default_forgets grammar f p c (default_decls.TsInterfaceDecl n) k = absurd (true≢false (sym k))

pub module_decl_forgets : {X : Type 0} (grammar : Grammar) (f : X → Role → Parameters → Summary) (p : X → Role → Phrase) (c : Parameters) (n : ModuleDecl X) →
    keeps grammar f (module_decl_form c n) ≡ true → forget p (module_decl_form c n) ≡ module_decl p n
unfolding forget keeps is_met module_decl_form export_decl_form default_decl_form export_default_form module_decl export_decl export_default_decl export_default_expr
module_decl_forgets grammar f p c (module_decls.Import n) k = import_forgets p c n
module_decl_forgets grammar f p c (module_decls.ExportDecl n) k = refl
module_decl_forgets grammar f p c (module_decls.ExportNamed n) k = named_forgets p c n
module_decl_forgets grammar f p c (module_decls.ExportDefaultDecl n) k = ap (λ q. word (codes "export") > word (codes "default") > q) (default_forgets grammar f p c n.decl k)
module_decl_forgets grammar f p c (module_decls.ExportDefaultExpr n) k = refl
module_decl_forgets grammar f p c (module_decls.ExportAll n) k = all_forgets p c n
module_decl_forgets grammar f p c n k = absurd (true≢false (sym k))

-- ---- programs

pub item_forgets : {X : Type 0} (grammar : Grammar) (f : X → Role → Parameters → Summary) (p : X → Role → Phrase) (c : Parameters) (n : ModuleItem X) →
    keeps grammar f (item_form c n) ≡ true → forget p (item_form c n) ≡ module_item p n
unfolding forget item_form module_item
item_forgets grammar f p c (module_items.ModuleDecl n) k = refl
item_forgets grammar f p c (module_items.Stmt n) k = stmt_forgets grammar f p c n k

items_forget : {X : Type 0} (grammar : Grammar) (f : X → Role → Parameters → Summary) (p : X → Role → Phrase) (c : Parameters) (xs : List (ModuleItem X)) →
    keeps grammar f (items_form c xs) ≡ true → forget p (items_form c xs) ≡ phrases.in_order (map (module_item p) xs)
unfolding forget keeps items_form phrases.in_order
items_forget grammar f p c [] k = refl
items_forget grammar f p c (x ∷ xs) k =
    let (h, l) = and_parts (keeps grammar f (item_form (in_list (begins_empty_item xs) c) x)) (keeps grammar f (items_form c xs)) k in
    ap₂ Then (item_forgets grammar f p (in_list (begins_empty_item xs) c) x h) (items_forget grammar f p c xs l)

pub program_forgets : {X : Type 0} (grammar : Grammar) (f : X → Role → Parameters → Summary) (p : X → Role → Phrase) (minify : Bool) (n : Program X) →
    keeps grammar f (program_form minify n) ≡ true → forget p (program_form minify n) ≡ program p n
unfolding forget keeps program_form module_form script_form program whole_module script
program_forgets grammar f p minify (programs.Module n) k = ap (Then (shebang n.shebang)) (items_forget grammar f p (record of_module { minify = minify }) n.body.items k)
program_forgets grammar f p minify (programs.Script n) k = ap (Then (shebang n.shebang)) (list_forgets grammar f p (record of_script { minify = minify }) n.body.items k)
