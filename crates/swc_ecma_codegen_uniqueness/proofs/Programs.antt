-- Of a list of tokens there is one program.
use Rattle.std.proofs.Common.{◌≡◌, Bool, true, false, List, [], ◌∷◌, ◌++◌, Option, Some, None, refl, sym, ap, ◌∙◌, subst}
use Rattle.std.specs.Prelude.{codes}
use Rattle.std.specs.declared.string.String.{String}
use Rattle.swc_ecma_codegen_tree.specs.declared.links.AnyNode.{AnyNode, out-AnyNode}
use Rattle.swc_ecma_codegen_tree.specs.declared.programs.ModuleItem.{ModuleItem}
use Rattle.swc_ecma_codegen_tree.specs.declared.programs.ModuleItem.TheVariants as module_items
use Rattle.swc_ecma_codegen_tree.specs.declared.programs.Program.{Program}
use Rattle.swc_ecma_codegen_tree.specs.declared.programs.Program.TheVariants as programs
use Rattle.swc_ecma_codegen_grammar.specs.Phrases.{Generates}
use Rattle.swc_ecma_codegen_grammar.specs.Settings.{Settings}
use Rattle.swc_ecma_codegen_grammar.specs.StmtPhrases.{shebang}
use Rattle.swc_ecma_codegen_grammar.specs.Tokens.{Token, punctuator, token_of}
use Rattle.swc_ecma_codegen_grammar.specs.TreePhrases.{program_phrase}
use Rattle.swc_ecma_codegen_syntax.specs.declared.nonterminals.Nonterminal.TheVariants as nt
use Rattle.swc_ecma_codegen_syntax.specs.declared.parameters.Parameters.{Parameters}
use Rattle.swc_ecma_codegen_syntax.specs.Parameters.{in_list, of_module, of_script}
use Rattle.swc_ecma_codegen_syntax.specs.ModuleForms.{item_form, is_empty_item, begins_empty_item, items_form, module_form, script_form, program_form}
use Rattle.swc_ecma_codegen_syntax.specs.Derives.{Derives, DerivesCoreProgram, bare_phrase, program_verdict, fixed, part, both}
use Rattle.swc_ecma_codegen_syntax.specs.Verdicts.{core, holds_in}
use Rattle.swc_ecma_codegen_syntax.proofs.RootLaws.{program_complete}
use Rattle.swc_ecma_codegen_uniqueness.specs.ParseTrees.{ParseTree, End, Read, Optional, Node, BlockStmt, AreCommasAndParentheses, settled, tokens_of}
use Rattle.swc_ecma_codegen_uniqueness.specs.Parses.{placed, is_inlined, is_empty_variant, program_parse}
use Rattle.swc_ecma_codegen_uniqueness.specs.Words.{as_name, as_names, with_names}
use Rattle.swc_ecma_codegen_uniqueness.proofs.Controls.{InList, Statement}
use Rattle.swc_ecma_codegen_uniqueness.proofs.Machine.{Rest, Good, joined, shifted, one_rest}
use Rattle.swc_ecma_codegen_uniqueness.proofs.Shapes.{ended}
use Rattle.swc_ecma_codegen_uniqueness.proofs.Reading.{read_phrase, derived_parse}
use Rattle.swc_ecma_codegen_uniqueness.proofs.Joined.{derived_joined}
use Rattle.swc_ecma_codegen_uniqueness.proofs.Parsed.{tokens_before, derived_allowed}
use Rattle.swc_ecma_codegen_uniqueness.proofs.Fits.{PlacedGood, AllGood}
use Rattle.swc_ecma_codegen_uniqueness.proofs.Linking.{where_read}
use Rattle.swc_ecma_codegen_uniqueness.proofs.Modules.{module_item}
use Rattle.swc_ecma_codegen_uniqueness.proofs.StatementShapes.{before_any}
use Rattle.swc_ecma_codegen_uniqueness.proofs.Statements.{InItems, item_taken, item_good, list_good, list_end}
use Rattle.swc_ecma_codegen_uniqueness.proofs.Layers.{all_good}
use Rattle.swc_ecma_codegen_uniqueness.proofs.ParseLaws.{derived_settled}
use Rattle.swc_ecma_codegen_uniqueness.proofs.Words.{rest_named, settled_named, same_names}

-- ---- a program is read as a list of statements

abbrev InProgram : Bool → ParseTree → Type 0
InProgram empty m = InItems (InList BlockStmt) BlockStmt nt.Statement empty m

solid : (b : Bool) → b ≡ false → b ≡ true → false ≡ true
solid b h k = sym h ∙ k

items_good : {s : Settings} (c : Parameters) (xs : List (ModuleItem AnyNode)) {ts : List Token} (d : Derives core s (items_form c xs) ts) → AllGood d → s.minify ≡ c.minify → (rest : ParseTree) → InProgram false rest → InProgram (begins_empty_item xs) (derived_parse d rest)
unfolding items_form item_form begins_empty_item is_empty_item AllGood PlacedGood derived_parse read_phrase placed is_inlined
items_good c [] (fixed g) o m rest r = r
items_good c (module_items.Stmt x ∷ xs) (both d e) (o, q) m rest r = item_good (InList BlockStmt) BlockStmt nt.Statement (begins_empty_item xs) c x refl d o m (derived_parse e rest) (items_good c xs e q m rest r)
items_good c (module_items.ModuleDecl x ∷ xs) (both (part a sa d) e) (o, q) m rest r =
    let t = module_item a (in_list (begins_empty_item xs) c) (out-AnyNode x.node.value) d o m in
    item_taken (InList BlockStmt) BlockStmt nt.Statement (begins_empty_item xs) false refl d (before_any (begins_empty_item xs) t.good) (solid (is_empty_variant t.variant) t.solid) (derived_parse e rest) (items_good c xs e q m rest r)

first_line : (s : Settings) {Z : Type 0} (o : Option (String Z)) (ts : List Token) (g : Generates s (shebang o) ts) {m : ParseTree} → Good (Rest (Statement (InList BlockStmt)) BlockStmt nt.Statement) m →
    Good (Rest (Statement (InList BlockStmt)) BlockStmt nt.Statement) (read_phrase s (shebang o) ts g m)
unfolding shebang read_phrase token_of
first_line s None ts g h = h
first_line s (Some text) ts g {m = m} h = subst (λ z. Good (Rest (Statement (InList BlockStmt)) BlockStmt nt.Statement) z) (sym (where_read s _ _ ts g m)) (shifted refl h)

abbrev pub brace : Token
brace = punctuator (codes "}")

pub program_good : {s : Settings} (b : Bool) (n : Program AnyNode) {ts : List Token} (d : Derives core s (program_form b n) ts) → AllGood d → s.minify ≡ b → Good (Rest (Statement (InList BlockStmt)) BlockStmt nt.Statement) (derived_parse d (Read brace End))
unfolding program_form script_form module_form AllGood derived_parse
program_good {s = s} b (programs.Script n) (both (fixed {ts = ts} g) d) (x, o) m =
    first_line s n.shebang ts g (list_good (InList BlockStmt) BlockStmt nt.Statement (record of_script { minify = b }) n.body.items refl d o m (Read brace End) (list_end (InList BlockStmt) BlockStmt nt.Statement refl End (ended BlockStmt nt.Statement))).0
program_good {s = s} b (programs.Module n) (both (fixed {ts = ts} g) d) (x, o) m =
    first_line s n.shebang ts g (items_good (record of_module { minify = b }) n.body.items d o m (Read brace End) (list_end (InList BlockStmt) BlockStmt nt.Statement refl End (ended BlockStmt nt.Statement))).0

-- ---- so its tokens tell it

abbrev without_last : ParseTree → ParseTree
without_last End = End
without_last (Read t End) = End
without_last (Read t p) = Read t (without_last p)
without_last (Optional t p) = Optional t (without_last p)
without_last (Node s p q) = Node s p (without_last q)

last_gone : (p : ParseTree) (t : Token) → without_last (joined p (Read t End)) ≡ p
last_gone End t = refl
last_gone (Read u End) t = refl
last_gone (Read u (Read v p)) t = ap (Read u) (last_gone (Read v p) t)
last_gone (Read u (Optional v p)) t = ap (Read u) (last_gone (Optional v p) t)
last_gone (Read u (Node s p q)) t = ap (Read u) (last_gone (Node s p q) t)
last_gone (Optional u p) t = ap (Optional u) (last_gone p t)
last_gone (Node s p q) t = ap (Node s p) (last_gone q t)

abbrev inside_of : ParseTree → ParseTree
inside_of (Node s p q) = p
inside_of p = End

program_settled : {s : Settings} (n : Program AnyNode) {ts : List Token} (d : DerivesCoreProgram s n ts) → settled (derived_parse d End) ≡ program_parse s n
unfolding settled
program_settled n d = derived_settled d End

whole : {s : Settings} (n : Program AnyNode) {ts : List Token} (d : DerivesCoreProgram s n ts) → without_last (derived_parse d (Read brace End)) ≡ derived_parse d End
whole n d = ap without_last (sym (derived_joined d End (Read brace End))) ∙ last_gone (derived_parse d End) brace

pub one_program : (s t : Settings) (a b : Program AnyNode) (ts : List Token) → DerivesCoreProgram s a ts → DerivesCoreProgram t b ts → program_parse s a ≡ program_parse t b
unfolding punctuator tokens_of
one_program s t a b ts d e =
    let same = one_rest (Statement (InList BlockStmt)) (punctuator (codes ")")) BlockStmt nt.Statement (derived_parse d (Read brace End)) (derived_parse e (Read brace End)) refl refl
    (program_good s.minify a d (all_good d) refl) (program_good t.minify b e (all_good e) refl)
    (tokens_before d (Read brace End) (punctuator (codes ")") ∷ []) ∙ sym (tokens_before e (Read brace End) (punctuator (codes ")") ∷ []))) in
    sym (program_settled a d) ∙ ap settled (sym (whole a d) ∙ ap (λ z. without_last (inside_of z)) same ∙ whole b e) ∙ program_settled b e

-- ---- so do names in place of words

last_named : (p : ParseTree) → with_names (without_last p) ≡ without_last (with_names p)
unfolding with_names
last_named End = refl
last_named (Read t End) = refl
last_named (Read t (Read u p)) = ap (Read (as_name t)) (last_named (Read u p))
last_named (Read t (Optional u p)) = ap (Read (as_name t)) (last_named (Optional u p))
last_named (Read t (Node s p q)) = ap (Read (as_name t)) (last_named (Node s p q))
last_named (Optional t p) = ap (Optional (as_name t)) (last_named p)
last_named (Node s p q) = ap (Node s (with_names p)) (last_named q)

pub one_program_named : (s t : Settings) (a b : Program AnyNode) (ts us : List Token) → DerivesCoreProgram s a ts → DerivesCoreProgram t b us → as_names ts ≡ as_names us → with_names (program_parse s a) ≡ with_names (program_parse t b)
unfolding punctuator tokens_of
one_program_named s t a b ts us d e h =
    let same = rest_named (Statement (InList BlockStmt)) (punctuator (codes ")")) BlockStmt nt.Statement (derived_parse d (Read brace End)) (derived_parse e (Read brace End)) refl refl
    (program_good s.minify a d (all_good d) refl) (program_good t.minify b e (all_good e) refl)
    (same_names ts us _ _ (brace ∷ punctuator (codes ")") ∷ []) (tokens_before d (Read brace End) (punctuator (codes ")") ∷ [])) (tokens_before e (Read brace End) (punctuator (codes ")") ∷ [])) h) in
    let ended : with_names (derived_parse d End) ≡ with_names (derived_parse e End) =
    ap with_names (sym (whole a d)) ∙ last_named (derived_parse d (Read brace End)) ∙ ap without_last same ∙ sym (last_named (derived_parse e (Read brace End))) ∙ ap with_names (whole b e) in
    ap with_names (sym (program_settled a d)) ∙ settled_named (derived_parse d End) ∙ ap settled ended ∙ sym (settled_named (derived_parse e End)) ∙ ap with_names (program_settled b e)

pub kept_program_named : (s t : Settings) (a b : Program AnyNode) (ts us : List Token) → holds_in core (program_verdict a) ≡ true → holds_in core (program_verdict b) ≡ true → Generates s (bare_phrase (program_phrase a)) ts →
    Generates t (bare_phrase (program_phrase b)) us → as_names ts ≡ as_names us → with_names (program_parse s a) ≡ with_names (program_parse t b)
kept_program_named s t a b ts us h k x y e = one_program_named s t a b ts us (program_complete core a _ refl h s ts x) (program_complete core b _ refl k t us y) e

pub kept_program : (s t : Settings) (a b : Program AnyNode) (ts : List Token) → holds_in core (program_verdict a) ≡ true → holds_in core (program_verdict b) ≡ true → Generates s (bare_phrase (program_phrase a)) ts →
    Generates t (bare_phrase (program_phrase b)) ts → program_parse s a ≡ program_parse t b
kept_program s t a b ts h k x y = one_program s t a b ts (program_complete core a _ refl h s ts x) (program_complete core b _ refl k t ts y)

pub program_tokens : (s : Settings) (a : Program AnyNode) (ts : List Token) → DerivesCoreProgram s a ts →
    (p : ParseTree) × (settled p ≡ program_parse s a) × AreCommasAndParentheses p × ((us : List Token) → tokens_of p us ≡ ts ++ us)
unfolding tokens_of AreCommasAndParentheses
program_tokens s a ts d = (derived_parse d End, program_settled a d, derived_allowed d End tt, λ us. tokens_before d End us)
