-- What is said of a program, an item or a statement by itself decides which lists are derived with it.
use Rattle.std.proofs.Common.{◌≡◌, ◌↔◌, Bool, true, false, ◌&&◌, List, refl, sym, subst, ◌∙◌, ap}
use Rattle.std.proofs.lemmas.Bool.{and_parts, and_from}
use Rattle.swc_ecma_codegen_common.specs.declared.versions.EsVersion.TheVariants.{Es5}
use Rattle.swc_ecma_codegen_tree.specs.declared.links.AnyNode.{AnyNode}
use Rattle.swc_ecma_codegen_tree.specs.declared.links.AnyNode.TheVariants as whole
use Rattle.swc_ecma_codegen_tree.specs.declared.programs.ModuleItem.{ModuleItem}
use Rattle.swc_ecma_codegen_tree.specs.declared.programs.Program.{Program}
use Rattle.swc_ecma_codegen_tree.specs.declared.stmts.Stmt.{Stmt}
use Rattle.swc_ecma_codegen_grammar.specs.Phrases.{Phrase, Generates, is_possible}
use Rattle.swc_ecma_codegen_grammar.specs.PlainPhrases.{plain_phrase}
use Rattle.swc_ecma_codegen_grammar.specs.Settings.{Settings}
use Rattle.swc_ecma_codegen_grammar.specs.Tokens.{Token}
use Rattle.swc_ecma_codegen_grammar.specs.TreePhrases.{node_phrase, phrase, stmt_phrase, program_phrase}
use Rattle.swc_ecma_codegen_grammar.specs.declared.roles.Role.TheVariants.{Statement}
use Rattle.swc_ecma_codegen_grammar.proofs.TreeLaws.{phrase_stmt}
use Rattle.swc_ecma_codegen_syntax.specs.declared.nonterminals.Nonterminal.{Nonterminal}
use Rattle.swc_ecma_codegen_syntax.specs.declared.parameters.Parameters.{Parameters}
use Rattle.swc_ecma_codegen_syntax.specs.Verdicts.{Grammar, unasked, holds_in}
use Rattle.swc_ecma_codegen_syntax.specs.Forms.{Form, of_part, judge, keeps, forget}
use Rattle.swc_ecma_codegen_syntax.specs.NodeForms.{stmt_facts, node_facts, summary_of, facts}
use Rattle.swc_ecma_codegen_syntax.specs.ModuleForms.{item_form, program_form}
use Rattle.swc_ecma_codegen_syntax.specs.Derives.{Derives, DerivesStmtIn, DerivesItemIn, DerivesProgramIn, bare_phrase, item_phrase, stmt_verdict, item_verdict, program_verdict}
use Rattle.swc_ecma_codegen_syntax.proofs.Judged.{judged}
use Rattle.swc_ecma_codegen_syntax.proofs.VerdictLaws.{holds_meet}
use Rattle.swc_ecma_codegen_syntax.proofs.TreeFacts.{facts_stmt}
use Rattle.swc_ecma_codegen_syntax.proofs.SummaryForms.{unasked_holds}
use Rattle.swc_ecma_codegen_syntax.proofs.Exact.{derived_kept, form_derives, form_derives_plain}
use Rattle.swc_ecma_codegen_syntax.proofs.ModuleForgets.{item_forgets, program_forgets}
use Rattle.swc_ecma_codegen_syntax.proofs.Wholes.{listed, said, node_sound, node_complete, node_exactly}

-- ---- of any form that is read as today

form_kept : (grammar : Grammar) (a : Form AnyNode) → holds_in grammar (judge summary_of unasked a) ≡ keeps grammar summary_of a
form_kept grammar a = judged grammar summary_of unasked a ∙ ap (λ b. b && keeps grammar summary_of a) (unasked_holds grammar)

abbrev Reads : Grammar → Form AnyNode → Phrase → Type 0
Reads grammar a p = keeps grammar summary_of a ≡ true → forget phrase a ≡ p

form_sound : (grammar : Grammar) (a : Form AnyNode) (p : Phrase) → Reads grammar a p → (b : Bool) → b ≡ holds_in grammar (judge summary_of unasked a) → (s : Settings) (ts : List Token) → Derives grammar s a ts → (b ≡ true) × Generates s p ts
form_sound grammar a p reads b e s ts d =
    let (k, x) = derived_kept grammar s a ts d in
    (e ∙ form_kept grammar a ∙ k, subst (λ q. Generates s q ts) (reads k) x)

form_complete : (grammar : Grammar) (a : Form AnyNode) (p : Phrase) → Reads grammar a p → (b : Bool) → b ≡ holds_in grammar (judge summary_of unasked a) → b ≡ true → (s : Settings) (ts : List Token) → Generates s (bare_phrase p) ts → Derives grammar s a ts
form_complete grammar a p reads b e h s ts x =
    let k : keeps grammar summary_of a ≡ true = sym (form_kept grammar a) ∙ sym e ∙ h in
    form_derives grammar s a k ts (subst (λ q. Generates s (bare_phrase q) ts) (sym (reads k)) x)

form_complete_plain : (grammar : Grammar) (m : Bool) (a : Form AnyNode) (p : Phrase) → Reads grammar a p → (b : Bool) → b ≡ holds_in grammar (judge summary_of unasked a) → b ≡ true → (s : Settings) (ts : List Token) → Generates s (plain_phrase m p) ts → Derives grammar s a ts
form_complete_plain grammar m a p reads b e h s ts x =
    let k : keeps grammar summary_of a ≡ true = sym (form_kept grammar a) ∙ sym e ∙ h in
    form_derives_plain grammar m s a k ts (subst (λ q. Generates s (plain_phrase m q) ts) (sym (reads k)) x)

-- ---- items

item_reads : (grammar : Grammar) (c : Parameters) (n : ModuleItem AnyNode) → Reads grammar (item_form c n) (item_phrase n)
item_reads grammar c n k = item_forgets grammar summary_of phrase c n k

pub item_sound : (grammar : Grammar) (c : Parameters) (n : ModuleItem AnyNode) (b : Bool) → b ≡ holds_in grammar (item_verdict c n) → (s : Settings) (ts : List Token) → DerivesItemIn grammar s c n ts → (b ≡ true) × Generates s (item_phrase n) ts
item_sound grammar c n b e s ts (m, d) = form_sound grammar (item_form c n) (item_phrase n) (item_reads grammar c n) b e s ts d

pub item_complete : (grammar : Grammar) (c : Parameters) (n : ModuleItem AnyNode) (b : Bool) → b ≡ holds_in grammar (item_verdict c n) → b ≡ true → (s : Settings) (ts : List Token) →
    s.minify ≡ c.minify → Generates s (bare_phrase (item_phrase n)) ts → DerivesItemIn grammar s c n ts
item_complete grammar c n b e h s ts m x = (m, form_complete grammar (item_form c n) (item_phrase n) (item_reads grammar c n) b e h s ts x)

pub item_exactly : (grammar : Grammar) (c : Parameters) (n : ModuleItem AnyNode) (b : Bool) → b ≡ holds_in grammar (item_verdict c n) → is_possible (item_phrase n) ≡ true → (s : Settings) →
    s.minify ≡ c.minify → (b ≡ true) ↔ ((ts : List Token) × DerivesItemIn grammar s c n ts)
item_exactly grammar c n b e w s m =
    let there : b ≡ true → (ts : List Token) × DerivesItemIn grammar s c n ts = λ h. let (ts, x) = listed s (item_phrase n) w in (ts, item_complete grammar c n b e h s ts m x) in
    let back : ((ts : List Token) × DerivesItemIn grammar s c n ts) → b ≡ true = λ d. (item_sound grammar c n b e s d.0 d.1).0 in
    (there, back)

-- ---- programs

program_reads : (grammar : Grammar) (minify : Bool) (n : Program AnyNode) → Reads grammar (program_form minify n) (program_phrase n)
program_reads grammar minify n k = program_forgets grammar summary_of phrase minify n k

abbrev holds_with : Grammar → Bool → Program AnyNode → Bool
holds_with grammar minify n = holds_in grammar (judge summary_of unasked (program_form minify n))

-- the verdict of both ways
both_hold : (grammar : Grammar) (n : Program AnyNode) → holds_in grammar (program_verdict n) ≡ (holds_with grammar false n && holds_with grammar true n)
both_hold grammar n = holds_meet grammar (judge summary_of unasked (program_form false n)) (judge summary_of unasked (program_form true n))

holds_in_both : (grammar : Grammar) (n : Program AnyNode) (minify : Bool) → holds_in grammar (program_verdict n) ≡ true → holds_with grammar minify n ≡ true
holds_in_both grammar n false h = (and_parts (holds_with grammar false n) (holds_with grammar true n) (sym (both_hold grammar n) ∙ h)).0
holds_in_both grammar n true h = (and_parts (holds_with grammar false n) (holds_with grammar true n) (sym (both_hold grammar n) ∙ h)).1

holds_by : (grammar : Grammar) (minify : Bool) (n : Program AnyNode) (s : Settings) (ts : List Token) → s.minify ≡ minify → DerivesProgramIn grammar s n ts → holds_with grammar minify n ≡ true
holds_by grammar minify n s ts e d =
    (form_sound grammar (program_form minify n) (program_phrase n) (program_reads grammar minify n) (holds_with grammar minify n) refl s ts (subst (λ b. Derives grammar s (program_form b n) ts) e d)).0

pub program_sound : (grammar : Grammar) (n : Program AnyNode) (b : Bool) → b ≡ holds_in grammar (program_verdict n) → (s t : Settings) (ts us : List Token) →
    s.minify ≡ false → t.minify ≡ true → DerivesProgramIn grammar s n ts → DerivesProgramIn grammar t n us → b ≡ true
program_sound grammar n b e s t ts us h l d g =
    e ∙ both_hold grammar n ∙ and_from (holds_with grammar false n) (holds_with grammar true n) (holds_by grammar false n s ts h d) (holds_by grammar true n t us l g)

pub program_read : (grammar : Grammar) (n : Program AnyNode) (s : Settings) (ts : List Token) → DerivesProgramIn grammar s n ts → Generates s (program_phrase n) ts
program_read grammar n s ts d = (form_sound grammar (program_form s.minify n) (program_phrase n) (program_reads grammar s.minify n) (holds_with grammar s.minify n) refl s ts d).1

pub program_complete : (grammar : Grammar) (n : Program AnyNode) (b : Bool) → b ≡ holds_in grammar (program_verdict n) → b ≡ true → (s : Settings) (ts : List Token) →
    Generates s (bare_phrase (program_phrase n)) ts → DerivesProgramIn grammar s n ts
program_complete grammar n b e h s ts x =
    form_complete grammar (program_form s.minify n) (program_phrase n) (program_reads grammar s.minify n) (holds_with grammar s.minify n) refl (holds_in_both grammar n s.minify (sym e ∙ h)) s ts x

-- what is written of it where there are neither comments nor a source text is derived with it
pub program_complete_plain : (grammar : Grammar) (m : Bool) (n : Program AnyNode) (b : Bool) → b ≡ holds_in grammar (program_verdict n) → b ≡ true → (s : Settings) (ts : List Token) →
    Generates s (plain_phrase m (program_phrase n)) ts → DerivesProgramIn grammar s n ts
program_complete_plain grammar m n b e h s ts x =
    form_complete_plain grammar m (program_form s.minify n) (program_phrase n) (program_reads grammar s.minify n) (holds_with grammar s.minify n) refl (holds_in_both grammar n s.minify (sym e ∙ h)) s ts x

abbrev with_minify : Bool → Settings
with_minify minify = record { target = Es5; ascii_only = false; minify = minify; assert_for_attributes = false }

pub program_exactly : (grammar : Grammar) (n : Program AnyNode) (b : Bool) → b ≡ holds_in grammar (program_verdict n) → is_possible (program_phrase n) ≡ true →
    (b ≡ true) ↔ ((s : Settings) → (ts : List Token) × DerivesProgramIn grammar s n ts)
program_exactly grammar n b e w =
    let there : b ≡ true → (s : Settings) → (ts : List Token) × DerivesProgramIn grammar s n ts = λ h s. let (ts, x) = listed s (program_phrase n) w in (ts, program_complete grammar n b e h s ts x) in
    let back : ((s : Settings) → (ts : List Token) × DerivesProgramIn grammar s n ts) → b ≡ true =
    λ d. program_sound grammar n b e (with_minify false) (with_minify true) (d (with_minify false)).0 (d (with_minify true)).0 refl refl (d (with_minify false)).1 (d (with_minify true)).1 in
    (there, back)

-- ---- statements

stmt_facts_at : (n : Stmt AnyNode) (c : Parameters) → facts (whole.Stmt n) Statement c ≡ stmt_facts summary_of c n
unfolding node_facts
stmt_facts_at n c = facts_stmt n Statement c

stmt_read : (n : Stmt AnyNode) → phrase (whole.Stmt n) Statement ≡ stmt_phrase n
unfolding node_phrase
stmt_read n = phrase_stmt n Statement

stmt_said : (grammar : Grammar) (place : Nonterminal) (c : Parameters) (n : Stmt AnyNode) → holds_in grammar (stmt_verdict place c n) ≡ holds_in grammar (said place c Statement (whole.Stmt n))
stmt_said grammar place c n = ap (λ t. holds_in grammar (of_part place unasked t)) (sym (stmt_facts_at n c))

pub stmt_sound : (grammar : Grammar) (place : Nonterminal) (c : Parameters) (n : Stmt AnyNode) (b : Bool) → b ≡ holds_in grammar (stmt_verdict place c n) → (s : Settings) (ts : List Token) →
    DerivesStmtIn grammar s place c n ts → (b ≡ true) × Generates s (stmt_phrase n) ts
stmt_sound grammar place c n b e s ts (m, d) =
    let (k, x) = node_sound grammar place c Statement (whole.Stmt n) b (e ∙ stmt_said grammar place c n) s ts d in
    (k, subst (λ p. Generates s p ts) (stmt_read n) x)

pub stmt_complete : (grammar : Grammar) (place : Nonterminal) (c : Parameters) (n : Stmt AnyNode) (b : Bool) → b ≡ holds_in grammar (stmt_verdict place c n) → b ≡ true → (s : Settings) (ts : List Token) →
    s.minify ≡ c.minify → Generates s (bare_phrase (stmt_phrase n)) ts → DerivesStmtIn grammar s place c n ts
stmt_complete grammar place c n b e h s ts m x =
    (m, node_complete grammar place c Statement (whole.Stmt n) b (e ∙ stmt_said grammar place c n) h s ts (subst (λ p. Generates s (bare_phrase p) ts) (sym (stmt_read n)) x))

pub stmt_exactly : (grammar : Grammar) (place : Nonterminal) (c : Parameters) (n : Stmt AnyNode) (b : Bool) → b ≡ holds_in grammar (stmt_verdict place c n) → is_possible (stmt_phrase n) ≡ true → (s : Settings) →
    s.minify ≡ c.minify → (b ≡ true) ↔ ((ts : List Token) × DerivesStmtIn grammar s place c n ts)
stmt_exactly grammar place c n b e w s m =
    let (there, back) = node_exactly grammar place c Statement (whole.Stmt n) b (e ∙ stmt_said grammar place c n) (ap is_possible (stmt_read n) ∙ w) s in
    ((λ h. let (ts, d) = there h in (ts, (m, d))), (λ d. back (d.0, d.1.1)))
