-- Declarations of variables are read as they are, in a statement and in the head of a `for`.
use Rattle.std.proofs.Common.{◌≡◌, Bool, true, false, not, List, [], ◌∷◌, Option, Some, None, length, arith, refl, sym, ap, ◌∙◌, subst}
use Rattle.std.specs.Prelude.{codes, is_some}
use Rattle.std.proofs.lemmas.Bool.{true≢false, and_parts, eqb-true, or_left}
use Rattle.swc_ecma_codegen_tree.specs.Links.{ExprBox}
use Rattle.swc_ecma_codegen_tree.specs.declared.links.AnyNode.{AnyNode}
use Rattle.swc_ecma_codegen_tree.specs.declared.decls.VarDecl as var_decls
use Rattle.swc_ecma_codegen_tree.specs.declared.decls.VarDeclarator.{VarDeclarator}
use Rattle.swc_ecma_codegen_tree.specs.declared.decls.VarDeclKind.{VarDeclKind}
use Rattle.swc_ecma_codegen_tree.specs.declared.decls.VarDeclKind.TheVariants.{Var, Let, Const}
use Rattle.swc_ecma_codegen_grammar.specs.DeclPhrases.{var_kind}
use Rattle.swc_ecma_codegen_grammar.specs.FunctionPhrases.{word_if}
use Rattle.swc_ecma_codegen_grammar.specs.Phrases.{Generates}
use Rattle.swc_ecma_codegen_grammar.specs.Phrases as phrases
use Rattle.swc_ecma_codegen_grammar.specs.TsDeclPhrases.{declare_word}
use Rattle.swc_ecma_codegen_grammar.specs.Settings.{Settings}
use Rattle.swc_ecma_codegen_grammar.specs.Tokens.{Token, punctuator, word, ending}
use Rattle.swc_ecma_codegen_syntax.specs.declared.nonterminals.Nonterminal.{Nonterminal}
use Rattle.swc_ecma_codegen_syntax.specs.declared.nonterminals.Nonterminal.TheVariants as nt
use Rattle.swc_ecma_codegen_syntax.specs.declared.parameters.Parameters.{Parameters}
use Rattle.swc_ecma_codegen_syntax.specs.Nonterminals.{takes}
use Rattle.swc_ecma_codegen_syntax.specs.Parameters.{of_bindings, of_loop}
use Rattle.swc_ecma_codegen_syntax.specs.Forms.{Fixed, is_met, each_after}
use Rattle.swc_ecma_codegen_syntax.specs.DeclForms.{is_const, is_single, of_kind, value_form, declarator_form, declarators_form, var_decl_form}
use Rattle.swc_ecma_codegen_syntax.specs.PatForms.{pat_form, pat_nonterminal}
use Rattle.swc_ecma_codegen_syntax.specs.Derives.{Derives, fixed, part, both, provided}
use Rattle.swc_ecma_codegen_syntax.specs.Verdicts.{core}
use Rattle.swc_ecma_codegen_uniqueness.specs.ParseTrees.{Variant, ParseTree, End, Read, VarDecl}
use Rattle.swc_ecma_codegen_uniqueness.specs.Parses.{placed, is_inlined}
use Rattle.swc_ecma_codegen_uniqueness.proofs.Classes.{VarWord, class}
use Rattle.swc_ecma_codegen_uniqueness.proofs.Controls.{Control, Declarators, Initializer, ForHead, ForVars, ForValue, ForTest, stands, waits, left}
use Rattle.swc_ecma_codegen_uniqueness.proofs.Moves.{shifted_to, passed_to}
use Rattle.swc_ecma_codegen_uniqueness.proofs.Tables.{Splice, Shift, without, decide}
use Rattle.swc_ecma_codegen_uniqueness.proofs.TableLaws.{cover, cover_taken, ended_by, takes_on}
use Rattle.swc_ecma_codegen_uniqueness.proofs.Machine.{Whole, Rest, Good, joined, shifted, splicing}
use Rattle.swc_ecma_codegen_uniqueness.proofs.Shapes.{After, takes_self, assignment_taken, left_assigned, part_then, ended}
use Rattle.swc_ecma_codegen_uniqueness.proofs.StatementShapes.{target_element}
use Rattle.swc_ecma_codegen_uniqueness.proofs.Reading.{read_phrase, derived_parse}
use Rattle.swc_ecma_codegen_uniqueness.proofs.Joined.{derived_joined}
use Rattle.swc_ecma_codegen_uniqueness.proofs.Fits.{at_place, PlacedGood, AllGood}
use Rattle.swc_ecma_codegen_uniqueness.proofs.Patterns.{pat_good}
use Rattle.swc_ecma_codegen_uniqueness.proofs.Functions.{not_inlined}

-- ---- where they stand

-- before a name, and before a value of it
pub data VarsAt : Control → Control → Type 0 where
  in_statement : VarsAt Declarators Initializer
  in_head : VarsAt ForVars ForValue

-- the same in a node
pub record VarPlace : Type 0 where
  pub names : Control
  pub values : Control
  pub at : VarsAt names values
  pub variant : Variant
  pub of : Nonterminal

abbrev pub of_statement : Nonterminal → VarPlace
of_statement n = record { names = Declarators; values = Initializer; at = in_statement; variant = VarDecl; of = n }

abbrev pub of_head : Variant → Nonterminal → VarPlace
of_head v n = record { names = ForVars; values = ForValue; at = in_head; variant = v; of = n }

abbrev pub InVars : VarPlace → ParseTree → Type 0
InVars p m = Good (Rest p.names p.variant p.of) m

names_stand : {a b : Control} → VarsAt a b → (k : Nonterminal) → takes nt.LeftHandSideExpression k ≡ true → stands a k ≡ true
names_stand in_statement k h = or_left _ _ h
names_stand in_head k h = or_left _ _ h

values_wait : {a b : Control} → VarsAt a b → takes (waits b) nt.AssignmentExpression ≡ true
values_wait in_statement = takes_self nt.AssignmentExpression
values_wait in_head = takes_self nt.AssignmentExpression

equals : {a b : Control} → VarsAt a b → ((s : Variant) → decide a (Some s) (punctuator (codes "=")) ≡ Splice) × (passed_to a (class (punctuator (codes "="))) ≡ b)
unfolding punctuator
equals in_statement = (λ s. refl, refl)
equals in_head = (λ s. refl, refl)

commas : {a b : Control} → VarsAt a b →
    ((s : Variant) → decide a (Some s) (punctuator (codes ",")) ≡ Splice) × (passed_to a (class (punctuator (codes ","))) ≡ a) × ((s : Variant) → decide b (Some s) (punctuator (codes ",")) ≡ Shift) × (passed_to b (class (punctuator (codes ","))) ≡ a)
unfolding punctuator
commas in_statement = (λ s. refl, refl, λ s. refl, refl)
commas in_head = (λ s. refl, refl, λ s. refl, refl)

-- a name or a pattern that no link holds, and the token behind it
name_then : (p : VarPlace) (t : Token) (k : Nonterminal) {v : Variant} {q m r : ParseTree} → takes nt.LeftHandSideExpression k ≡ true → Good (Whole v k) q → takes (left (class t)) nt.LeftHandSideExpression ≡ true →
    ((s : Variant) → decide p.names (Some s) t ≡ Splice) → Good (Rest (passed_to p.names (class t)) p.variant p.of) m → r ≡ joined q (Read t m) → InVars p r
name_then p t k {v = v} h g c e i same = splicing t (names_stand p.at k h) g (ended_by (class t) k (takes_on (left (class t)) nt.LeftHandSideExpression k c h)) (e v) i same

left_at : {a b : Control} {v : Variant} {n : Nonterminal} {m : ParseTree} → a ≡ b → Good (Rest b v n) m → Good (Rest a v n) m
left_at {v = v} {n = n} {m = m} e g = subst (λ z. Good (Rest z v n) m) (sym e) g

-- what stands behind a name or a value: `,` or `;`
pub record BehindVar (p : VarPlace) (m : ParseTree) : Type 0 where
  pub token : Token
  pub rest : ParseTree
  pub is : m ≡ Read token rest
  pub ends : takes (left (class token)) nt.AssignmentExpression ≡ true
  pub spliced : (s : Variant) → decide p.names (Some s) token ≡ Splice
  pub named : Good (Rest (passed_to p.names (class token)) p.variant p.of) rest
  pub passes : (s : Variant) → decide p.values (Some s) token ≡ Shift
  pub valued : Good (Rest (passed_to p.values (class token)) p.variant p.of) rest

behind_comma : (p : VarPlace) {m : ParseTree} → InVars p m → BehindVar p (Read (punctuator (codes ",")) m)
unfolding punctuator
behind_comma p {m = m} g =
    let e = commas p.at in
    record {
      token = punctuator (codes ",");
      rest = m;
      is = refl;
      ends = takes_self nt.AssignmentExpression;
      spliced = e.0;
      named = left_at e.1 g;
      passes = e.2;
      valued = left_at e.3 g;
    }

behind_ending : (n : Nonterminal) → BehindVar (of_statement n) (Read ending End)
unfolding ending
behind_ending n = record { token = _; rest = End; is = refl; ends = assignment_taken; spliced = λ s. refl; named = ended VarDecl n; passes = λ s. refl; valued = ended VarDecl n }

pub behind_semicolon : (v : Variant) (n : Nonterminal) {m : ParseTree} → Good (Rest ForTest v n) m → BehindVar (of_head v n) (Read (punctuator (codes ";")) m)
unfolding punctuator
behind_semicolon v n g = record { token = _; rest = _; is = refl; ends = assignment_taken; spliced = λ s. refl; named = g; passes = λ s. refl; valued = g }

-- ---- declarations

declarator_by : {s : Settings} (p : VarPlace) (c : Parameters) (x : VarDeclarator AnyNode) {ts us : List Token} → takes nt.PatternTarget (pat_nonterminal x.name) ≡ true →
    (d : Derives core s (pat_form false (of_bindings c) x.name) ts) (o : Option (ExprBox AnyNode)) (e : Derives core s (value_form c o) us) → AllGood d → AllGood e → s.minify ≡ c.minify → (m : ParseTree) → BehindVar p m →
    InVars p (derived_parse d (derived_parse e m))
unfolding value_form AllGood PlacedGood derived_parse read_phrase placed is_inlined punctuator
declarator_by p c x h d None (fixed g) o q m rest behind =
    name_then p behind.token (cover (pat_nonterminal x.name)) (cover_taken nt.PatternTarget (pat_nonterminal x.name) h)
    (pat_good false (of_bindings c) x.name d o m (not_inlined (of_bindings c) x.name (target_element _ h) refl d)) (takes_on (left (class behind.token)) nt.AssignmentExpression nt.LeftHandSideExpression behind.ends left_assigned) behind.spliced behind.named
    (ap (derived_parse d) behind.is ∙ sym (derived_joined d End (Read behind.token behind.rest)))
declarator_by p c x h d (Some v) (provided u (both (fixed g) (part a sa e))) o (y, q) m rest behind =
    let w = at_place _ _ sa (q m) in
    let i = equals p.at in
    name_then p (punctuator (codes "=")) (cover (pat_nonterminal x.name)) (cover_taken nt.PatternTarget (pat_nonterminal x.name) h)
    (pat_good false (of_bindings c) x.name d o m (not_inlined (of_bindings c) x.name (target_element _ h) refl d)) (takes_self nt.LeftHandSideExpression) i.0
    (left_at i.1 (part_then p.values rest (values_wait p.at) w (subst (λ z. After p.values nt.AssignmentExpression p.variant p.of z) (sym behind.is) (behind.ends, behind.passes, behind.valued))))
    (sym (derived_joined d End _))

declarator_good : {s : Settings} (p : VarPlace) (c : Parameters) (constant : Bool) (x : VarDeclarator AnyNode) {ts : List Token} (d : Derives core s (declarator_form c constant x) ts) → AllGood d → s.minify ≡ c.minify → (m : ParseTree) → BehindVar p m →
    InVars p (derived_parse d m)
unfolding declarator_form is_met AllGood derived_parse
declarator_good p c constant x (provided h (provided k (both d e))) (o, q) m rest behind = declarator_by p c x (and_parts _ _ k).1 d x.init e o q m rest behind

declarators_after : {s : Settings} (p : VarPlace) (c : Parameters) (constant : Bool) (xs : List (VarDeclarator AnyNode)) {ts : List Token} (d : Derives core s (each_after (codes ",") (declarator_form c constant) xs) ts) → AllGood d → s.minify ≡ c.minify →
    (m : ParseTree) → BehindVar p m → BehindVar p (derived_parse d m)
unfolding each_after AllGood derived_parse read_phrase
declarators_after p c constant [] (fixed g) o m rest behind = behind
declarators_after p c constant (x ∷ xs) (both (fixed g) (both d e)) (y, (o, q)) m rest behind =
    behind_comma p (declarator_good p c constant x d o m (derived_parse e rest) (declarators_after p c constant xs e q m rest behind))

declarators_good : {s : Settings} (p : VarPlace) (c : Parameters) (constant : Bool) (xs : List (VarDeclarator AnyNode)) {ts : List Token} (d : Derives core s (declarators_form c constant xs) ts) → AllGood d → s.minify ≡ c.minify →
    (m : ParseTree) → BehindVar p m → InVars p (derived_parse d m)
unfolding declarators_form AllGood derived_parse read_phrase Generates
declarators_good p c constant [] (fixed g) o m rest behind = absurd g
declarators_good p c constant (x ∷ xs) (both d e) (o, q) m rest behind = declarator_good p c constant x d o m (derived_parse e rest) (declarators_after p c constant xs e q m rest behind)

-- what is read behind `let`
pub record VarsRead (p : VarPlace) (m : ParseTree) : Type 0 where
  pub token : Token
  pub rest : ParseTree
  pub is : m ≡ Read token rest
  pub var : class token ≡ VarWord
  pub good : InVars p rest

var_word : (s : Settings) (p : VarPlace) (kind : VarDeclKind) (ts : List Token) (g : Generates s (var_kind kind) ts) (m : ParseTree) → InVars p m → VarsRead p (read_phrase s (var_kind kind) ts g m)
unfolding var_kind read_phrase word
var_word s p Var ts g m h = record { token = word (codes "var"); rest = m; is = refl; var = refl; good = h }
var_word s p Let ts g m h = record { token = word (codes "let"); rest = m; is = refl; var = refl; good = h }
var_word s p Const ts g m h = record { token = word (codes "const"); rest = m; is = refl; var = refl; good = h }

no_declare : {s : Settings} (b : Bool) {ts : List Token} → not b ≡ true → (d : Derives core s (Fixed (declare_word b)) ts) (rest : ParseTree) → derived_parse d rest ≡ rest
unfolding declare_word word_if derived_parse read_phrase
no_declare true h d rest = absurd (true≢false (sym h))
no_declare false h (fixed g) rest = refl

pub decl_read : {s : Settings} (p : VarPlace) (c : Parameters) (n : var_decls.VarDecl AnyNode) {ts : List Token} (d : Derives core s (var_decl_form c n) ts) → AllGood d → s.minify ≡ c.minify → (m : ParseTree) → BehindVar p m → VarsRead p (derived_parse d m)
unfolding var_decl_form is_met AllGood derived_parse
decl_read p c n (provided h (provided k (both w (both (fixed g) d)))) (x, (y, o)) m rest behind =
    let r = var_word _ p n.kind _ g _ (declarators_good p (of_kind n.kind c) (is_const n.kind) n.decls.items d o m rest behind) in
    record { token = r.token; rest = r.rest; is = no_declare n.declare h w _ ∙ r.is; var = r.var; good = r.good }

pub vars_read : {s : Settings} (at : Nonterminal) (c : Parameters) (n : var_decls.VarDecl AnyNode) {ts us : List Token} (d : Derives core s (var_decl_form c n) ts) (e : Derives core s (Fixed phrases.ending) us) → AllGood d → s.minify ≡ c.minify →
    VarsRead (of_statement at) (derived_parse d (derived_parse e End))
unfolding derived_parse read_phrase
vars_read at c n d (fixed g) o m = decl_read (of_statement at) c n d o m (Read ending End) (behind_ending at)

-- ---- the one of `for (let a of b)`, without a value

abbrev pub Single : Variant → Nonterminal → Token → ParseTree → Type 0
Single v n t m = (takes (left (class t)) nt.LeftHandSideExpression ≡ true) × ((s : Variant) → decide ForVars (Some s) t ≡ Splice) × Good (Rest (passed_to ForVars (class t)) v n) m

single_by : {s : Settings} (v : Variant) (n : Nonterminal) (c : Parameters) (x : VarDeclarator AnyNode) {ts us : List Token} → takes nt.PatternTarget (pat_nonterminal x.name) ≡ true → (d : Derives core s (pat_form false (of_bindings c) x.name) ts)
    (o : Option (ExprBox AnyNode)) (e : Derives core s (value_form c o) us) → c.is_loop_head ≡ true → AllGood d → s.minify ≡ c.minify → (t : Token) (m : ParseTree) → Single v n t m → InVars (of_head v n) (derived_parse d (derived_parse e (Read t m)))
unfolding value_form is_met derived_parse read_phrase
single_by v n c x h d None (fixed g) i o m t rest (a, b, r) =
    name_then (of_head v n) t (cover (pat_nonterminal x.name)) (cover_taken nt.PatternTarget (pat_nonterminal x.name) h)
    (pat_good false (of_bindings c) x.name d o m (not_inlined (of_bindings c) x.name (target_element _ h) refl d)) a b r (sym (derived_joined d End (Read t rest)))
single_by v n c x h d (Some e) (provided u f) i o m t rest r = absurd (true≢false (sym u ∙ ap not i))

single_good : {s : Settings} (v : Variant) (n : Nonterminal) (initializes : Bool) (c : Parameters) (kind : VarDeclKind) (constant : Bool) (xs : List (VarDeclarator AnyNode)) {ts : List Token} → length xs ≡ 1 → (d : Derives core s (declarators_form (of_kind kind (of_loop initializes c)) constant xs) ts) → AllGood d →
    s.minify ≡ c.minify → (t : Token) (m : ParseTree) → Single v n t m → InVars (of_head v n) (derived_parse d (Read t m))
unfolding declarators_form declarator_form each_after is_met AllGood derived_parse read_phrase Generates
single_good v n b c kind constant [] h (fixed g) o m t rest r = absurd g
single_good v n b c kind constant (x ∷ []) h (both (provided i (provided k (both d e))) (fixed g)) ((o, p), q) m t rest r =
    single_by v n (of_kind kind (of_loop b c)) x (and_parts _ _ k).1 d x.init e refl o m t rest r
single_good v n b c kind constant (x ∷ y ∷ xs) h d o m t rest r = absurd (omega (arith, h))

pub single_read : {s : Settings} (v : Variant) (n : Nonterminal) (initializes : Bool) (c : Parameters) (x : var_decls.VarDecl AnyNode) {ts : List Token} (d : Derives core s (var_decl_form (of_loop initializes c) x) ts) → AllGood d → s.minify ≡ c.minify → (t : Token) (m : ParseTree) →
    Single v n t m → VarsRead (of_head v n) (derived_parse d (Read t m))
unfolding var_decl_form is_single is_met AllGood derived_parse
single_read v n b c x (provided h (provided k (both w (both (fixed g) d)))) (y, (z, o)) m t rest i =
    let r = var_word _ (of_head v n) x.kind _ g _ (single_good v n b c x.kind (is_const x.kind) x.decls.items (eqb-true (length x.decls.items) 1 k) d o m t rest i) in
    record { token = r.token; rest = r.rest; is = no_declare x.declare h w _ ∙ r.is; var = r.var; good = r.good }

-- behind `for (`
pub vars_begin : {v : Variant} {n : Nonterminal} {m : ParseTree} → VarsRead (of_head v n) m → Good (Rest ForHead v n) m
vars_begin {v = v} {n = n} r =
    subst (λ z. Good (Rest ForHead v n) z) (sym r.is) (shifted (ap (without ForHead) r.var) (subst (λ l. Good (Rest (shifted_to ForHead l) v n) r.rest) (sym r.var) r.good))
