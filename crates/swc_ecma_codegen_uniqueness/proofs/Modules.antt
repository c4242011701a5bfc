-- Imports and exports are read as they are.
use Rattle.std.proofs.Common.{◌≡◌, Bool, true, false, ◌&&◌, not, List, [], ◌∷◌, Option, Some, None, map, refl, sym, ap, ◌∙◌, ◌⊎◌, inl, inr, subst}
use Rattle.std.specs.Prelude.{codes, string_bytes}
use Rattle.std.proofs.lemmas.Bool.{true≢false, and_parts, or_left}
use Rattle.swc_ecma_codegen_tree.specs.Links.{ObjectLitBox}
use Rattle.swc_ecma_codegen_tree.specs.declared.links.AnyNode.{AnyNode, AnyNode-F, out-AnyNode}
use Rattle.swc_ecma_codegen_tree.specs.declared.links.AnyNode.TheOpen as nodes
use Rattle.swc_ecma_codegen_tree.specs.declared.decls.Decl.{Decl}
use Rattle.swc_ecma_codegen_tree.specs.declared.decls.Decl.TheVariants as decls
use Rattle.swc_ecma_codegen_tree.specs.declared.idents.Ident.{Ident}
use Rattle.swc_ecma_codegen_tree.specs.declared.lits.Str.{Str}
use Rattle.swc_ecma_codegen_tree.specs.declared.modules.DefaultDecl.{DefaultDecl}
use Rattle.swc_ecma_codegen_tree.specs.declared.modules.DefaultDecl.TheVariants as default_decls
use Rattle.swc_ecma_codegen_tree.specs.declared.modules.ExportAll.{ExportAll}
use Rattle.swc_ecma_codegen_tree.specs.declared.modules.ExportDecl.{ExportDecl}
use Rattle.swc_ecma_codegen_tree.specs.declared.modules.ExportDefaultExpr.{ExportDefaultExpr}
use Rattle.swc_ecma_codegen_tree.specs.declared.modules.ExportSpecifier.{ExportSpecifier}
use Rattle.swc_ecma_codegen_tree.specs.declared.modules.ExportSpecifier.TheVariants as exported
use Rattle.swc_ecma_codegen_tree.specs.declared.modules.ImportDecl.{ImportDecl}
use Rattle.swc_ecma_codegen_tree.specs.declared.modules.ImportPhase.{ImportPhase}
use Rattle.swc_ecma_codegen_tree.specs.declared.modules.ImportPhase.TheVariants as phases
use Rattle.swc_ecma_codegen_tree.specs.declared.modules.ImportSpecifier.{ImportSpecifier}
use Rattle.swc_ecma_codegen_tree.specs.declared.modules.ImportSpecifier.TheVariants as imported
use Rattle.swc_ecma_codegen_tree.specs.declared.modules.ModuleExportName.{ModuleExportName}
use Rattle.swc_ecma_codegen_tree.specs.declared.modules.ModuleExportName.TheVariants as export_names
use Rattle.swc_ecma_codegen_tree.specs.declared.modules.NamedExport.{NamedExport}
use Rattle.swc_ecma_codegen_tree.specs.declared.parts.ExprPart.TheVariants as expr_parts
use Rattle.swc_ecma_codegen_tree.specs.declared.parts.JSXPart.TheVariants as jsx_parts
use Rattle.swc_ecma_codegen_tree.specs.declared.parts.StmtPart.TheVariants as stmt_parts
use Rattle.swc_ecma_codegen_tree.specs.declared.programs.ModuleDecl.{ModuleDecl}
use Rattle.swc_ecma_codegen_tree.specs.declared.programs.ModuleDecl.TheVariants as module_decls
use Rattle.swc_ecma_codegen_grammar.specs.ElementPhrases.{closing_of}
use Rattle.swc_ecma_codegen_grammar.specs.FunctionPhrases.{word_if}
use Rattle.swc_ecma_codegen_grammar.specs.LitPhrases.{str_lit}
use Rattle.swc_ecma_codegen_grammar.specs.ModulePhrases.{module_export_name, type_word, imported_as, import_named, import_specifier, import_bindings, after_default, import_clause, import_phase, exported_as, export_named_specifier, export_specifier, export_namespace, export_braces, export_clause}
use Rattle.swc_ecma_codegen_grammar.specs.NamePhrases.{ident}
use Rattle.swc_ecma_codegen_grammar.specs.Phrases.{Phrase, Generates, RightBrace, ◌>◌, mark, closing_mark, each_after, listed}
use Rattle.swc_ecma_codegen_grammar.specs.Phrases as phrases
use Rattle.swc_ecma_codegen_grammar.specs.Settings.{Settings}
use Rattle.swc_ecma_codegen_grammar.specs.Tokens.{Token, punctuator, word, ending}
use Rattle.swc_ecma_codegen_grammar.specs.Tokens as tokens
use Rattle.swc_ecma_codegen_grammar.specs.declared.roles.Role.TheVariants.{ModuleDeclaration, ExportedHead, ExportedTail}
use Rattle.swc_ecma_codegen_syntax.specs.declared.nonterminals.Nonterminal.TheVariants as nt
use Rattle.swc_ecma_codegen_syntax.specs.declared.parameters.Parameters.{Parameters}
use Rattle.swc_ecma_codegen_syntax.specs.CallForms.{is_evaluation}
use Rattle.swc_ecma_codegen_syntax.specs.DeclForms.{head_at, decl_form}
use Rattle.swc_ecma_codegen_syntax.specs.Forms.{is_met}
use Rattle.swc_ecma_codegen_syntax.specs.Parameters.{of_declarations}
use Rattle.swc_ecma_codegen_syntax.specs.ModuleForms.{is_plain, is_export_name, is_optional_name, is_plain_import, are_plain_imports, attributes_form, import_form, is_plain_name, is_plain_export, are_plain_exports, from_form, export_named_form, export_all_form, exported_head_form, exported_tail_form, export_decl_form, export_default_form, default_form, default_decl_form, module_decl_form}
use Rattle.swc_ecma_codegen_syntax.specs.NameForms.{has_no_escape}
use Rattle.swc_ecma_codegen_syntax.specs.Nonterminals.{takes}
use Rattle.swc_ecma_codegen_syntax.specs.NodeForms.{node_form, part_form, stmt_part_form, jsx_part_form}
use Rattle.swc_ecma_codegen_syntax.specs.Derives.{Derives, fixed, part, restricted, both, provided}
use Rattle.swc_ecma_codegen_syntax.specs.Verdicts.{core}
use Rattle.swc_ecma_codegen_uniqueness.specs.ParseTrees.{Variant, ParseTree, End, Read, Node, Class as AClass, Fn, VarDecl, Foreign, tokens_of}
use Rattle.swc_ecma_codegen_uniqueness.specs.Parses.{placed, is_inlined, is_empty_variant}
use Rattle.swc_ecma_codegen_uniqueness.proofs.Classes.{Class, Infix, Times, OpenBrace, NameToken, LiteralToken, FunctionWord, ClassWord, AsyncWord, Semi, Semicolon, class, Over, Assigns, Later, First, Line, Slashed, Jsx, KeyToken, Strange}
use Rattle.swc_ecma_codegen_uniqueness.proofs.Controls.{Control, ImportItem, Clause, ClauseComma, AfterExport, AfterExportDefault, AsyncDefault, AsyncDefaultLine, DefaultValue, AfterFunction, entered, starts}
use Rattle.swc_ecma_codegen_uniqueness.proofs.Moves.{shifted_to, begun_at, started}
use Rattle.swc_ecma_codegen_uniqueness.proofs.Tables.{Shift, Enter, without, Push}
use Rattle.swc_ecma_codegen_uniqueness.proofs.PlaceLaws.{is_delayed, async_line, async_enters}
use Rattle.swc_ecma_codegen_uniqueness.proofs.TableLaws.{ended_by, takes_on}
use Rattle.swc_ecma_codegen_uniqueness.proofs.Machine.{Whole, Rest, Good, Frame, Entering, entering_there, third_enters, shifted, shifted_turned, entering, merged}
use Rattle.swc_ecma_codegen_uniqueness.proofs.Shapes.{Operand, takes_self, assignment_taken, part_then, ended}
use Rattle.swc_ecma_codegen_uniqueness.proofs.StatementShapes.{MayEnter, at_once, behind_import, behind_async, AnEmpty, item_of, import_item, export_item}
use Rattle.swc_ecma_codegen_uniqueness.proofs.Heading.{is_default_word, may_be_default, not_excluded}
use Rattle.swc_ecma_codegen_uniqueness.proofs.Reading.{read_phrase, derived_parse}
use Rattle.swc_ecma_codegen_uniqueness.proofs.Parsed.{tokens_before}
use Rattle.swc_ecma_codegen_uniqueness.proofs.Fits.{at_place, PlacedGood, AllGood, no_form}
use Rattle.swc_ecma_codegen_uniqueness.proofs.Atoms.{named_read, str_literal}
use Rattle.swc_ecma_codegen_uniqueness.proofs.Functions.{behind_async as async_before, fn_decl_read, fn_default_read}
use Rattle.swc_ecma_codegen_uniqueness.proofs.ClassDefinitions.{no_class_decorators, class_expr_read, class_rest_read}
use Rattle.swc_ecma_codegen_uniqueness.proofs.Variables.{vars_read}
use Rattle.swc_ecma_codegen_uniqueness.proofs.Looks.{of_name}

-- ---- the names of an import or an export hold no node

abbrev InClause : Control → ParseTree → Type 0
InClause c m = Good (Rest c Foreign (item_of AnEmpty)) m

data ClausePlace : Control → Type 0 where
  among : ClausePlace Clause
  at_comma : ClausePlace ClauseComma
  at_import : ClausePlace ImportItem

abbrev is_clause_token : Class → Bool
is_clause_token NameToken = true
is_clause_token KeyToken = true
is_clause_token LiteralToken = true
is_clause_token OpenBrace = true
is_clause_token (Infix Times) = true
is_clause_token l = false

clause_shifts : {c : Control} → ClausePlace c → (l : Class) → is_clause_token l ≡ true → (without c l ≡ Shift) × (shifted_to c l ≡ Clause)
clause_shifts among NameToken h = (refl, refl)
clause_shifts among KeyToken h = (refl, refl)
clause_shifts among LiteralToken h = (refl, refl)
clause_shifts among OpenBrace h = (refl, refl)
clause_shifts among (Infix Times) h = (refl, refl)
clause_shifts at_comma NameToken h = (refl, refl)
clause_shifts at_comma KeyToken h = (refl, refl)
clause_shifts at_comma LiteralToken h = (refl, refl)
clause_shifts at_comma OpenBrace h = (refl, refl)
clause_shifts at_comma (Infix Times) h = (refl, refl)
clause_shifts at_import NameToken h = (refl, refl)
clause_shifts at_import KeyToken h = (refl, refl)
clause_shifts at_import LiteralToken h = (refl, refl)
clause_shifts at_import OpenBrace h = (refl, refl)
clause_shifts at_import (Infix Times) h = (refl, refl)
clause_shifts p l h = absurd (true≢false (sym h))

-- what begins with such a token stands at each of these places
record Anywhere (m : ParseTree) : Type 0 where
  token : Token
  rest : ParseTree
  is : m ≡ Read token rest
  plain : is_clause_token (class token) ≡ true
  good : InClause Clause rest

anywhere : (t : Token) (m : ParseTree) → is_clause_token (class t) ≡ true → InClause Clause m → Anywhere (Read t m)
anywhere t m h g = record { token = t; rest = m; is = refl; plain = h; good = g }

stands_in : {c : Control} {m : ParseTree} → ClausePlace c → Anywhere m → InClause c m
stands_in {c = c} p a =
    let e = clause_shifts p (class a.token) a.plain in
    subst (λ z. InClause c z) (sym a.is) (shifted e.0 (subst (λ z. InClause z a.rest) (sym e.1) a.good))

-- what begins with `{` or `*` stands behind `export` too
record Marked (m : ParseTree) : Type 0 where
  token : Token
  rest : ParseTree
  is : m ≡ Read token rest
  begins : (class token ≡ OpenBrace) ⊎ (class token ≡ Infix Times)
  good : InClause Clause rest

marked : (t : Token) (m : ParseTree) → (class t ≡ OpenBrace) ⊎ (class t ≡ Infix Times) → InClause Clause m → Marked (Read t m)
marked t m h g = record { token = t; rest = m; is = refl; begins = h; good = g }

mark_plain : (l : Class) → (l ≡ OpenBrace) ⊎ (l ≡ Infix Times) → is_clause_token l ≡ true
mark_plain l (inl e) = ap is_clause_token e
mark_plain l (inr e) = ap is_clause_token e

unmarked : {m : ParseTree} → Marked m → Anywhere m
unmarked a = record { token = a.token; rest = a.rest; is = a.is; plain = mark_plain (class a.token) a.begins; good = a.good }

mark_shifts : (l : Class) → (l ≡ OpenBrace) ⊎ (l ≡ Infix Times) → (without AfterExport l ≡ Shift) × (shifted_to AfterExport l ≡ Clause)
mark_shifts l (inl e) = (ap (without AfterExport) e, ap (shifted_to AfterExport) e)
mark_shifts l (inr e) = (ap (without AfterExport) e, ap (shifted_to AfterExport) e)

behind_export : {m : ParseTree} → Marked m → InClause AfterExport m
behind_export a =
    let e = mark_shifts (class a.token) a.begins in
    subst (λ z. InClause AfterExport z) (sym a.is) (shifted e.0 (subst (λ z. InClause z a.rest) (sym e.1) a.good))

comma_then : {m : ParseTree} → Anywhere m → InClause Clause (Read (punctuator (codes ",")) m)
unfolding punctuator
comma_then a = shifted refl (stands_in at_comma a)

clause_ends : InClause Clause (Read ending End)
unfolding ending
clause_ends = shifted refl (ended Foreign (item_of AnEmpty))

-- ---- names and strings

ident_good : (s : Settings) (n : Ident) (ts : List Token) (g : Generates s (ident n) ts) → not n.optional ≡ true → (m : ParseTree) → InClause Clause m → Anywhere (read_phrase s (ident n) ts g m)
unfolding ident
ident_good s n ts g h m r = subst (λ z. Anywhere z) (sym (named_read s n.optional n.span.lo (string_bytes n.sym) ts g h m)) (anywhere (tokens.name _) m (of_name is_clause_token _ refl refl) r)

plain_good : (s : Settings) (n : Ident) (ts : List Token) (g : Generates s (ident n) ts) → is_plain n ≡ true → (m : ParseTree) → InClause Clause m → Anywhere (read_phrase s (ident n) ts g m)
unfolding is_plain
plain_good s n ts g h m r = ident_good s n ts g (and_parts (has_no_escape (string_bytes n.sym)) (not n.optional) h).1 m r

string_good : (s : Settings) (n : Str) (ts : List Token) (g : Generates s (str_lit n) ts) (m : ParseTree) → InClause Clause m → Anywhere (read_phrase s (str_lit n) ts g m)
string_good s n ts g m r = let l = str_literal s n ts g in subst (λ z. Anywhere z) (sym (l.is m)) (anywhere l.token m (ap is_clause_token l.literal) r)

export_name_good : (s : Settings) (n : ModuleExportName) (ts : List Token) (g : Generates s (module_export_name n) ts) → is_export_name n ≡ true → (m : ParseTree) → InClause Clause m → Anywhere (read_phrase s (module_export_name n) ts g m)
unfolding module_export_name is_export_name
export_name_good s (export_names.Ident n) ts g h m r = ident_good s n ts g h m r
export_name_good s (export_names.Str n) ts g h m r = string_good s n ts g m r

plain_name_good : (s : Settings) (n : ModuleExportName) (ts : List Token) (g : Generates s (module_export_name n) ts) → is_plain_name n ≡ true → (m : ParseTree) → InClause Clause m → Anywhere (read_phrase s (module_export_name n) ts g m)
unfolding module_export_name is_plain_name
plain_name_good s (export_names.Ident n) ts g h m r = plain_good s n ts g h m r
plain_name_good s (export_names.Str n) ts g h m r = string_good s n ts g m r

no_type : (s : Settings) (b : Bool) (ts : List Token) (g : Generates s (type_word b) ts) → not b ≡ true → (m : ParseTree) → read_phrase s (type_word b) ts g m ≡ m
unfolding type_word word_if read_phrase
no_type s true ts g h m = absurd (true≢false (sym h))
no_type s false ts g h m = refl

as_then : {m : ParseTree} → Anywhere m → Anywhere (Read (word (codes "as")) m)
unfolding word
as_then {m = m} a = anywhere (word (codes "as")) m refl (stands_in among a)

from_then : {m : ParseTree} → Anywhere m → Anywhere (Read (word (codes "from")) m)
unfolding word
from_then {m = m} a = anywhere (word (codes "from")) m refl (stands_in among a)

-- ---- lists in braces

abbrev each_is : {A : Type 0} → (A → Bool) → List A → Bool
each_is is [] = true
each_is is (x ∷ xs) = is x && each_is is xs

-- what one of them is read as
abbrev EachGood : {A : Type 0} → (A → Phrase) → (A → Bool) → Type 0
EachGood {A} f is = (s : Settings) (x : A) (ts : List Token) (g : Generates s (f x) ts) → is x ≡ true → (m : ParseTree) → InClause Clause m → Anywhere (read_phrase s (f x) ts g m)

after_good : {A : Type 0} (f : A → Phrase) (is : A → Bool) → EachGood f is → (s : Settings) (xs : List A) (ts : List Token) (g : Generates s (each_after (codes ",") (map f xs)) ts) → each_is is xs ≡ true → (m : ParseTree) → InClause Clause m →
    InClause Clause (read_phrase s (each_after (codes ",") (map f xs)) ts g m)
unfolding each_after read_phrase Generates
after_good f is k s [] ts g h m r = r
after_good f is k s (x ∷ xs) ts (us, vs, g, (ws, zs, i, j, e), q) h m r =
    let p = and_parts (is x) (each_is is xs) h in comma_then (k s x ws i p.0 _ (after_good f is k s xs zs j p.1 m r))

listed_good : {A : Type 0} (f : A → Phrase) (is : A → Bool) → EachGood f is → (s : Settings) (xs : List A) (ts : List Token) (g : Generates s (listed (codes ",") (map f xs)) ts) → each_is is xs ≡ true → (m : ParseTree) → InClause Clause m →
    InClause Clause (read_phrase s (listed (codes ",") (map f xs)) ts g m)
unfolding listed read_phrase Generates
listed_good f is k s [] ts g h m r = r
listed_good f is k s (x ∷ xs) ts (us, vs, i, j, e) h m r = let p = and_parts (is x) (each_is is xs) h in stands_in among (k s x us i p.0 _ (after_good f is k s xs vs j p.1 m r))

-- a comma before `}` is left open
brace_good : {A : Type 0} (s : Settings) (xs : List A) (ts : List Token) (g : Generates s (closing_of RightBrace xs) ts) (m : ParseTree) → InClause Clause m → InClause Clause (read_phrase s (closing_of RightBrace xs) ts g m)
unfolding closing_of closing_mark read_phrase Generates punctuator
brace_good s [] ts g m r = shifted refl r
brace_good s (x ∷ xs) ts (inl e) m r = shifted refl r
brace_good s (x ∷ xs) ts (inr e) m r = shifted_turned refl refl r

braces_good : {A : Type 0} (f : A → Phrase) (is : A → Bool) → EachGood f is → (s : Settings) (xs : List A) (ts : List Token) (g : Generates s (mark (codes "{") > listed (codes ",") (map f xs) > closing_of RightBrace xs) ts) → each_is is xs ≡ true →
    (m : ParseTree) → InClause Clause m → Marked (read_phrase s (mark (codes "{") > listed (codes ",") (map f xs) > closing_of RightBrace xs) ts g m)
unfolding read_phrase Generates punctuator
braces_good f is k s xs ts (us, vs, g, (ws, zs, i, j, e), q) h m r = marked (punctuator (codes "{")) _ (inl refl) (listed_good f is k s xs ws i h _ (brace_good s xs zs j m r))

-- ---- imports

imported_good : (s : Settings) (o : Option ModuleExportName) (ts : List Token) (g : Generates s (imported_as o) ts) → is_optional_name o ≡ true → (m : ParseTree) → Anywhere m → Anywhere (read_phrase s (imported_as o) ts g m)
unfolding imported_as is_optional_name read_phrase Generates
imported_good s None ts g h m a = a
imported_good s (Some n) ts (us, vs, g, i, e) h m a = export_name_good s n us g h _ (stands_in among (as_then a))

specifier_good : EachGood import_specifier is_plain_import
unfolding import_specifier import_named is_plain_import read_phrase Generates
specifier_good s (imported.Named n) ts (us, vs, g, (ws, zs, i, j, e), q) h m r =
    let x = and_parts (not n.is_type_only) _ h in
    let y = and_parts (is_plain n.local) (is_optional_name n.imported) x.1 in
    subst (λ z. Anywhere z) (sym (no_type s n.is_type_only us g x.0 _)) (imported_good s n.imported ws i y.1 _ (plain_good s n.local zs j y.0 m r))
specifier_good s x ts g h m r = absurd g

plain_imports : (xs : List ImportSpecifier) → are_plain_imports xs ≡ true → each_is is_plain_import xs ≡ true
unfolding are_plain_imports
plain_imports [] h = refl
plain_imports (x ∷ xs) h = let p = and_parts (is_plain_import x) (are_plain_imports xs) h in ap (λ b. b && each_is is_plain_import xs) p.0 ∙ plain_imports xs p.1

bindings_good : (s : Settings) (xs : List ImportSpecifier) (ts : List Token) (g : Generates s (import_bindings xs) ts) → are_plain_imports xs ≡ true → (m : ParseTree) → InClause Clause m → Anywhere (read_phrase s (import_bindings xs) ts g m)
unfolding import_bindings are_plain_imports is_plain_import read_phrase Generates punctuator
bindings_good s [] ts g h m r = unmarked (braces_good import_specifier is_plain_import specifier_good s [] ts g refl m r)
bindings_good s (imported.Namespace n ∷ []) ts (us, vs, g, (ws, zs, i, j, e), q) h m r =
    anywhere (punctuator (codes "*")) _ refl (stands_in among (as_then (plain_good s n.local zs j (and_parts (is_plain n.local) true h).0 m r)))
bindings_good s (imported.Namespace n ∷ x ∷ xs) ts g h m r = unmarked (braces_good import_specifier is_plain_import specifier_good s (imported.Namespace n ∷ x ∷ xs) ts g (plain_imports (imported.Namespace n ∷ x ∷ xs) h) m r)
bindings_good s (imported.Named n ∷ xs) ts g h m r = unmarked (braces_good import_specifier is_plain_import specifier_good s (imported.Named n ∷ xs) ts g (plain_imports (imported.Named n ∷ xs) h) m r)
bindings_good s (imported.Default n ∷ xs) ts g h m r = unmarked (braces_good import_specifier is_plain_import specifier_good s (imported.Default n ∷ xs) ts g (plain_imports (imported.Default n ∷ xs) h) m r)

default_good : (s : Settings) (xs : List ImportSpecifier) (ts : List Token) (g : Generates s (after_default xs) ts) → are_plain_imports xs ≡ true → (m : ParseTree) → InClause Clause m → InClause Clause (read_phrase s (after_default xs) ts g m)
unfolding after_default read_phrase Generates
default_good s [] ts g h m r = r
default_good s (x ∷ xs) ts (us, vs, g, i, e) h m r = comma_then (bindings_good s (x ∷ xs) vs i h m r)

import_clause_good : (s : Settings) (xs : List ImportSpecifier) (ts : List Token) (g : Generates s (import_clause xs) ts) → are_plain_imports xs ≡ true → (m : ParseTree) → Anywhere m → Anywhere (read_phrase s (import_clause xs) ts g m)
unfolding import_clause are_plain_imports is_plain_import read_phrase Generates
import_clause_good s [] ts g h m a = a
import_clause_good s (imported.Default n ∷ xs) ts (us, vs, g, (ws, zs, i, j, e), q) h m a =
    let p = and_parts (is_plain n.local) (are_plain_imports xs) h in
    plain_good s n.local us g p.0 _ (default_good s xs ws i p.1 _ (stands_in among (from_then a)))
import_clause_good s (imported.Named n ∷ xs) ts (us, vs, g, i, e) h m a = bindings_good s (imported.Named n ∷ xs) us g h _ (stands_in among (from_then a))
import_clause_good s (imported.Namespace n ∷ xs) ts (us, vs, g, i, e) h m a = bindings_good s (imported.Namespace n ∷ xs) us g h _ (stands_in among (from_then a))

no_phase : (s : Settings) (phase : ImportPhase) (ts : List Token) (g : Generates s (import_phase phase) ts) → is_evaluation phase ≡ true → (m : ParseTree) → read_phrase s (import_phase phase) ts g m ≡ m
unfolding import_phase is_evaluation read_phrase
no_phase s phases.Evaluation ts g h m = refl
no_phase s phase ts g h m = absurd (true≢false (sym h))

no_attributes : {s : Settings} (c : Parameters) (o : Option (ObjectLitBox AnyNode)) {ts : List Token} (d : Derives core s (attributes_form c o) ts) (rest : ParseTree) → derived_parse d rest ≡ rest
unfolding attributes_form is_met derived_parse read_phrase
no_attributes c None (fixed g) rest = refl
no_attributes c (Some n) (provided h d) rest = absurd (true≢false (sym h))

-- what is no empty statement
foreign_solid : is_empty_variant Foreign ≡ false
unfolding is_empty_variant
foreign_solid = refl

class_solid : is_empty_variant AClass ≡ false
unfolding is_empty_variant
class_solid = refl

function_solid : is_empty_variant Fn ≡ false
unfolding is_empty_variant
function_solid = refl

variables_solid : is_empty_variant VarDecl ≡ false
unfolding is_empty_variant
variables_solid = refl

-- an item of a module, without a node of its own
pub record Item (m : ParseTree) : Type 0 where
  pub variant : Variant
  pub solid : is_empty_variant variant ≡ false
  pub good : Good (Whole variant (item_of AnEmpty)) m

as_item : {v : Variant} {p m : ParseTree} → is_empty_variant v ≡ false → p ≡ m → Good (Whole v (item_of AnEmpty)) m → Item p
as_item {v = v} i e g = record { variant = v; solid = i; good = subst (λ z. Good (Whole v (item_of AnEmpty)) z) (sym e) g }

import_good : {s : Settings} (c : Parameters) (n : ImportDecl AnyNode) {ts : List Token} (d : Derives core s (import_form c n) ts) → Item (derived_parse d End)
unfolding import_form is_met derived_parse read_phrase
import_good {s = s} c n (provided h (provided k (both (fixed g) (both (fixed {ts = ts} i) (both (fixed {ts = us} j) (both (fixed {ts = vs} l) (both (fixed {ts = ws} q) (both a (fixed e))))))))) =
    let x = and_parts (not n.type_only) _ h in
    let y = and_parts (is_evaluation n.phase) (are_plain_imports n.specifiers.items) x.1 in
    as_item foreign_solid (ap (Read (word (codes "import"))) (no_type s n.type_only ts i x.0 _ ∙ no_phase s n.phase us j y.0 _))
    (import_item (stands_in at_import (import_clause_good s n.specifiers.items vs l y.1 _
    (string_good s n.src ws q _ (subst (λ z. InClause Clause z) (sym (no_attributes c n.with a (Read ending End))) clause_ends)))))

-- ---- exports of names

exported_good : (s : Settings) (o : Option ModuleExportName) (ts : List Token) (g : Generates s (exported_as o) ts) → is_optional_name o ≡ true → (m : ParseTree) → InClause Clause m → InClause Clause (read_phrase s (exported_as o) ts g m)
unfolding exported_as is_optional_name read_phrase Generates
exported_good s None ts g h m r = r
exported_good s (Some n) ts (us, vs, g, i, e) h m r = stands_in among (as_then (export_name_good s n vs i h m r))

export_specifier_good : EachGood export_specifier is_plain_export
unfolding export_specifier export_named_specifier is_plain_export read_phrase Generates
export_specifier_good s (exported.Named n) ts (us, vs, g, (ws, zs, i, j, e), q) h m r =
    let x = and_parts (not n.is_type_only) _ h in
    let y = and_parts (is_plain_name n.orig) (is_optional_name n.exported) x.1 in
    subst (λ z. Anywhere z) (sym (no_type s n.is_type_only us g x.0 _)) (plain_name_good s n.orig ws i y.0 _ (exported_good s n.exported zs j y.1 m r))
export_specifier_good s x ts g h m r = absurd g

plain_exports : (xs : List ExportSpecifier) → are_plain_exports xs ≡ true → each_is is_plain_export xs ≡ true
unfolding are_plain_exports
plain_exports [] h = refl
plain_exports (x ∷ xs) h = let p = and_parts (is_plain_export x) (are_plain_exports xs) h in ap (λ b. b && each_is is_plain_export xs) p.0 ∙ plain_exports xs p.1

export_braces_good : (s : Settings) (xs : List ExportSpecifier) (ts : List Token) (g : Generates s (export_braces xs) ts) → are_plain_exports xs ≡ true → (m : ParseTree) → InClause Clause m → Marked (read_phrase s (export_braces xs) ts g m)
unfolding export_braces
export_braces_good s xs ts g h m r = braces_good export_specifier is_plain_export export_specifier_good s xs ts g (plain_exports xs h) m r

export_clause_good : (s : Settings) (xs : List ExportSpecifier) (ts : List Token) (g : Generates s (export_clause xs) ts) → are_plain_exports xs ≡ true → (m : ParseTree) → InClause Clause m → Marked (read_phrase s (export_clause xs) ts g m)
unfolding export_clause export_namespace are_plain_exports is_plain_export read_phrase Generates punctuator
export_clause_good s [] ts g h m r = export_braces_good s [] ts g refl m r
export_clause_good s (exported.Namespace n ∷ []) ts (us, vs, g, (ws, zs, i, j, e), q) h m r =
    marked (punctuator (codes "*")) _ (inr refl) (stands_in among (as_then (export_name_good s n.name zs j (and_parts (is_export_name n.name) true h).0 m r)))
export_clause_good s (exported.Namespace n ∷ x ∷ xs) ts (us, vs, (ws, zs, g, (at, bs, i, j, e), q), (cs, ds, k, l, o), u) h m r =
    let p = and_parts (is_export_name n.name) (are_plain_exports (x ∷ xs)) h in
    marked (punctuator (codes "*")) _ (inr refl) (stands_in among (as_then (export_name_good s n.name bs j p.0 _ (comma_then (unmarked (export_braces_good s (x ∷ xs) ds l p.1 m r))))))
export_clause_good s (exported.Named n ∷ xs) ts g h m r = export_braces_good s (exported.Named n ∷ xs) ts g h m r
export_clause_good s (exported.Default n ∷ xs) ts g h m r = export_braces_good s (exported.Default n ∷ xs) ts g h m r

from_good : {s : Settings} (c : Parameters) (o : Option (ObjectLitBox AnyNode)) (src : Option Str) {ts : List Token} (d : Derives core s (from_form c o src) ts) (m : ParseTree) → InClause Clause m → InClause Clause (derived_parse d m)
unfolding from_form derived_parse read_phrase Generates
from_good {s = s} c o (Some n) (both (fixed g) (both (fixed {ts = ts} i) a)) m r =
    stands_in among (from_then (string_good s n ts i _ (subst (λ z. InClause Clause z) (sym (no_attributes c o a m)) r)))
from_good c None None (fixed g) m r = r
from_good c (Some x) None (fixed g) m r = absurd g

export_named_good : {s : Settings} (c : Parameters) (n : NamedExport AnyNode) {ts : List Token} (d : Derives core s (export_named_form c n) ts) → Item (derived_parse d End)
unfolding export_named_form is_met derived_parse read_phrase
export_named_good {s = s} c n (provided h (provided k (both (fixed g) (both (fixed {ts = ts} i) (both (fixed {ts = us} j) (both f (fixed e))))))) =
    let x = and_parts (not n.type_only) (are_plain_exports n.specifiers.items) h in
    as_item foreign_solid (ap (Read (word (codes "export"))) (no_type s n.type_only ts i x.0 _))
    (export_item (behind_export (export_clause_good s n.specifiers.items us j x.1 _ (from_good c n.with n.src f (Read ending End) clause_ends))))

export_all_good : {s : Settings} (c : Parameters) (n : ExportAll AnyNode) {ts : List Token} (d : Derives core s (export_all_form c n) ts) → Item (derived_parse d End)
unfolding export_all_form is_met derived_parse read_phrase punctuator
export_all_good {s = s} c n (provided h (both (fixed g) (both (fixed {ts = ts} i) (both (fixed j) (both (fixed l) (both (fixed {ts = us} q) (both a (fixed e)))))))) =
    as_item foreign_solid (ap (Read (word (codes "export"))) (no_type s n.type_only ts i h _))
    (export_item (behind_export (marked (punctuator (codes "*")) _ (inr refl) (stands_in among (from_then
    (string_good s n.src us q _ (subst (λ z. InClause Clause z) (sym (no_attributes c n.with a (Read ending End))) clause_ends)))))))

-- ---- exports of declarations

-- behind `export`
record Exported (m : ParseTree) : Type 0 where
  variant : Variant
  solid : is_empty_variant variant ≡ false
  good : Good (Rest AfterExport variant (item_of AnEmpty)) m

function_exported : (b : Bool) {m : ParseTree} → Good (Rest AfterFunction Fn (item_of AnEmpty)) m → Good (Rest AfterExport Fn (item_of AnEmpty)) (async_before b (Read (word (codes "function")) m))
unfolding word tokens.same_line
function_exported true g = shifted refl (shifted refl (shifted refl g))
function_exported false g = shifted refl g

tail_by : {s : Settings} (c : Parameters) (n : Decl AnyNode) {ts : List Token} (d : Derives core s (exported_tail_form c n) ts) → AllGood d → s.minify ≡ c.minify → Exported (derived_parse d End)
unfolding exported_tail_form decl_form AllGood derived_parse word
tail_by c (decls.Class n) d o m = let k = class_rest_read (item_of AnEmpty) c n d o m in record { variant = AClass; solid = class_solid; good = subst (λ z. Good (Rest AfterExport AClass (item_of AnEmpty)) z) (sym k.is) (shifted refl k.good) }
tail_by c (decls.Fn n) d o m = let k = fn_decl_read (item_of AnEmpty) (head_at c.position) c n d o m in record { variant = Fn; solid = function_solid; good = subst (λ z. Good (Rest AfterExport Fn (item_of AnEmpty)) z) (sym k.is) (function_exported k.is_async k.good) }
tail_by c (decls.Var n) (both d e) (o, x) m =
    let k = vars_read (item_of AnEmpty) (of_declarations c) n d e o m in
    record { variant = VarDecl; solid = variables_solid; good = subst (λ z. Good (Rest AfterExport VarDecl (item_of AnEmpty)) z) (sym k.is) (shifted (ap (without AfterExport) k.var) (subst (λ l. Good (Rest (shifted_to AfterExport l) VarDecl (item_of AnEmpty)) k.rest) (sym k.var) k.good)) }
tail_by c n d o m = absurd (no_form d)

tail_in : {s : Settings} (k : Bool) (c : Parameters) (y : AnyNode-F AnyNode) {ts : List Token} (d : Derives core s (node_form k c y ExportedTail) ts) → AllGood d → s.minify ≡ c.minify → Exported (derived_parse d End)
unfolding node_form part_form stmt_part_form jsx_part_form
tail_in k c (nodes.StmtPart (stmt_parts.Decl n)) d o m = tail_by c n d o m
tail_in k c (nodes.ExprPart (expr_parts.Tpl x)) d o m = absurd (no_form d)
tail_in k c (nodes.JSXPart (jsx_parts.JSXElement x)) d o m = absurd (no_form d)
tail_in k c y d o m = absurd (no_form d)

head_by : {s : Settings} (c : Parameters) (n : Decl AnyNode) {ts : List Token} (d : Derives core s (exported_head_form c n) ts) (rest : ParseTree) → derived_parse d rest ≡ rest
unfolding exported_head_form derived_parse read_phrase
head_by c (decls.Class n) d rest = no_class_decorators c n.class.node.value d rest
head_by c n (fixed g) rest = refl

head_in : {s : Settings} (k : Bool) (c : Parameters) (y : AnyNode-F AnyNode) {ts : List Token} (d : Derives core s (node_form k c y ExportedHead) ts) (rest : ParseTree) → derived_parse d rest ≡ rest
unfolding node_form part_form stmt_part_form jsx_part_form
head_in k c (nodes.StmtPart (stmt_parts.Decl n)) d rest = head_by c n d rest
head_in k c (nodes.ExprPart (expr_parts.Tpl x)) d rest = absurd (no_form d)
head_in k c (nodes.JSXPart (jsx_parts.JSXElement x)) d rest = absurd (no_form d)
head_in k c y d rest = absurd (no_form d)

export_decl_good : {s : Settings} (c : Parameters) (n : ExportDecl AnyNode) {ts : List Token} (d : Derives core s (export_decl_form c n) ts) → AllGood d → s.minify ≡ c.minify → Item (derived_parse d End)
unfolding export_decl_form AllGood PlacedGood derived_parse read_phrase placed is_inlined
export_decl_good c n (both (part a sa d) (both (fixed g) (part b sb e))) (x, (y, o)) m =
    let t = tail_in b c (out-AnyNode n.decl.node.value) e o m in as_item t.solid (head_in a c (out-AnyNode n.decl.node.value) d _) (export_item t.good)

-- ---- what a module exports by default

default_enters : (l : Class) → starts l ≡ true → is_default_word l ≡ false → is_delayed l ≡ false → (without AfterExportDefault l ≡ Enter) × (without DefaultValue l ≡ Push)
default_enters FunctionWord s h k = absurd (true≢false h)
default_enters ClassWord s h k = absurd (true≢false h)
default_enters AsyncWord s h k = absurd (true≢false k)
default_enters (Infix Over) s h k = absurd (true≢false (sym s))
default_enters (Assigns Slashed) s h k = absurd (true≢false (sym s))
default_enters (First true opens) s h k = absurd (true≢false (sym s))
default_enters (Later tagged opens) s h k = absurd (true≢false (sym s))
default_enters Line s h k = absurd (true≢false (sym s))
default_enters Semi s h k = absurd (true≢false (sym s))
default_enters Semicolon s h k = absurd (true≢false (sym s))
default_enters KeyToken s h k = absurd (true≢false (sym s))
default_enters Strange s h k = absurd (true≢false (sym s))
default_enters (Jsx sort) s h k = absurd (true≢false (sym s))
default_enters l s h k = (refl, refl)

-- the tokens of a value enter its place
default_entered : (f : Frame) → f.control ≡ AfterExportDefault → (ts : List Token) → MayEnter is_default_word ts → Entering f ts
default_entered f q ts (at_once {u = u} {ts = vs} h b k) = λ s.
    let x = default_enters (class u) h b k in entering_there f s (u ∷ vs) u vs refl (ap (λ c. without c (class u)) q ∙ x.0, ap (λ c. without (entered c) (class u)) q ∙ x.1)
default_entered f q ts (behind_import {u = u} {v = v} {ts = vs} e k) = λ s.
    entering_there f s (u ∷ v ∷ vs) u (v ∷ vs) refl (ap (λ c. without c (class u)) q ∙ ap (without AfterExportDefault) e, ap (λ c. without (entered c) (class u)) q ∙ ap (without DefaultValue) e)
default_entered f q ts (behind_async {u = u} {v = v} {w = w} {ts = vs} e h k) =
    let y = async_line (class v) h in
    let z = async_enters (class w) k in
    third_enters f u v w vs AsyncDefault AsyncDefaultLine Enter (ap (λ c. without c (class u)) q ∙ ap (without AfterExportDefault) e) (ap (λ c. begun_at c (class u)) q) y.2 y.3 z.1
    (ap (λ c. without (entered c) (class u)) q ∙ ap (without DefaultValue) e) (ap started e) y.4 y.5 z.2 refl

default_value : {v : Variant} {p : ParseTree} → Operand nt.AssignmentExpression v p → ((us : List Token) → MayEnter is_default_word (tokens_of p (ending ∷ us))) → Good (Rest AfterExportDefault Foreign (item_of AnEmpty)) (Node v p (Read ending End))
unfolding tokens_of ending
default_value {v = v} {p = p} o h =
    entering (λ b q t us. default_entered (record { control = AfterExportDefault; so_far = b; other = q }) refl (tokens_of p (ending ∷ t ∷ us)) (h (t ∷ us)))
    (part_then DefaultValue (Read ending End) (takes_self nt.AssignmentExpression) o (assignment_taken, λ z. refl, ended Foreign (item_of AnEmpty)))

default_then : {v : Variant} {m : ParseTree} → Good (Rest AfterExportDefault v (item_of AnEmpty)) m → Good (Whole v (item_of AnEmpty)) (Read (word (codes "export")) (Read (word (codes "default")) m))
unfolding word
default_then g = export_item (shifted refl g)

expression_taken : {v : Variant} {p : ParseTree} (o : Operand nt.AssignmentExpression v p) → takes nt.Expression o.of ≡ true
expression_taken o = takes_on nt.Expression nt.AssignmentExpression o.of assignment_taken o.taken

function_default : (b : Bool) {m : ParseTree} → Good (Rest AfterFunction Fn (item_of AnEmpty)) m → Good (Rest AfterExportDefault Fn (item_of AnEmpty)) (async_before b (Read (word (codes "function")) m))
unfolding word tokens.same_line
function_default true g = merged _ _ _ refl refl refl refl refl g
function_default false g = shifted refl g

export_value_good : {s : Settings} (c : Parameters) (n : ExportDefaultExpr AnyNode) {ts : List Token} (d : Derives core s (export_default_form c n) ts) → AllGood d → s.minify ≡ c.minify → Item (derived_parse d End)
unfolding export_default_form is_met AllGood PlacedGood derived_parse read_phrase placed is_inlined tokens_of ending
export_value_good c n (both (fixed g) (both (fixed i) (both (restricted {ts = ts} h (part a sa d)) (fixed j)))) (x, (y, (o, z))) m =
    let v = at_place _ _ sa (o m) in
    as_item foreign_solid refl
    (default_then (default_value v
    (may_be_default ending (derived_parse d End) ts (λ us. tokens_before d End us) v.good (or_left _ _ (expression_taken v)) (ended_by Semi v.of (expression_taken v)) refl (not_excluded _ h))))

default_decl_good : {s : Settings} (c : Parameters) (n : DefaultDecl AnyNode) (us vs : List Token) {ts : List Token} (g : Generates s (phrases.word (codes "export")) us) (i : Generates s (phrases.word (codes "default")) vs) (d : Derives core s (default_form c n) ts) → AllGood d →
    s.minify ≡ c.minify → Item (read_phrase s (phrases.word (codes "export")) us g (read_phrase s (phrases.word (codes "default")) vs i (derived_parse d End)))
unfolding default_form read_phrase is_met word
default_decl_good c (default_decls.Class n) us vs g i d o m =
    let k = class_expr_read (item_of AnEmpty) c n d o m in as_item class_solid (ap (λ z. Read (word (codes "export")) (Read (word (codes "default")) z)) k.is) (default_then (shifted refl k.good))
default_decl_good c (default_decls.Fn n) us vs g i d o m =
    let k = fn_default_read (item_of AnEmpty) c n d o m in as_item function_solid (ap (λ z. Read (word (codes "export")) (Read (word (codes "default")) z)) k.is) (default_then (function_default k.is_async k.good))
default_decl_good c (default_decls.TsInterfaceDecl n) us vs g i d o m = absurd (no_form d)

-- ---- all of them

module_decl_good : {s : Settings} (c : Parameters) (n : ModuleDecl AnyNode) {ts : List Token} (d : Derives core s (module_decl_form c n) ts) → AllGood d → s.minify ≡ c.minify → Item (derived_parse d End)
unfolding module_decl_form default_decl_form AllGood derived_parse
module_decl_good c (module_decls.Import n) d o m = import_good c n d
module_decl_good c (module_decls.ExportDecl n) d o m = export_decl_good c n d o m
module_decl_good c (module_decls.ExportNamed n) d o m = export_named_good c n d
module_decl_good c (module_decls.ExportDefaultDecl n) (both (fixed {ts = us} g) (both (fixed {ts = vs} i) d)) (x, (y, o)) m = default_decl_good c n.decl us vs g i d o m
module_decl_good c (module_decls.ExportDefaultExpr n) d o m = export_value_good c n d o m
module_decl_good c (module_decls.ExportAll n) d o m = export_all_good c n d
module_decl_good c n d o m = absurd (no_form d)

pub module_item : {s : Settings} (k : Bool) (c : Parameters) (y : AnyNode-F AnyNode) {ts : List Token} (d : Derives core s (node_form k c y ModuleDeclaration) ts) → AllGood d → s.minify ≡ c.minify → Item (derived_parse d End)
unfolding node_form part_form stmt_part_form jsx_part_form
module_item k c (nodes.StmtPart (stmt_parts.ModuleDecl n)) d o m = module_decl_good c n.value d o m
module_item k c (nodes.ExprPart (expr_parts.Tpl x)) d o m = absurd (no_form d)
module_item k c (nodes.JSXPart (jsx_parts.JSXElement x)) d o m = absurd (no_form d)
module_item k c y d o m = absurd (no_form d)
