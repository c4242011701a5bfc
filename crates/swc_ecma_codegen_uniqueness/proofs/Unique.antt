-- Of a list of tokens there is one tree.
use Rattle.std.proofs.Common.{◌≡◌, true, false, inl, List, [], ◌∷◌, ◌++◌, refl, sym, ap, ◌∙◌}
use Rattle.std.specs.Prelude.{codes}
use Rattle.std.proofs.lemmas.Bool.{or_left}
use Rattle.swc_ecma_codegen_tree.specs.declared.links.AnyNode.{AnyNode}
use Rattle.swc_ecma_codegen_tree.specs.declared.exprs.Expr.{Expr}
use Rattle.swc_ecma_codegen_grammar.specs.Phrases.{Generates}
use Rattle.swc_ecma_codegen_grammar.specs.Settings.{Settings}
use Rattle.swc_ecma_codegen_grammar.specs.TreePhrases.{expr_phrase}
use Rattle.swc_ecma_codegen_syntax.specs.Verdicts.{core, holds_in}
use Rattle.swc_ecma_codegen_syntax.proofs.Wholes.{complete}
use Rattle.swc_ecma_codegen_grammar.specs.Tokens.{Token, punctuator}
use Rattle.swc_ecma_codegen_grammar.specs.declared.roles.Role.TheVariants.{Expression}
use Rattle.swc_ecma_codegen_syntax.specs.declared.nonterminals.Nonterminal.{Nonterminal}
use Rattle.swc_ecma_codegen_syntax.specs.declared.nonterminals.Nonterminal.TheVariants as nt
use Rattle.swc_ecma_codegen_syntax.specs.declared.parameters.Parameters.{Parameters}
use Rattle.swc_ecma_codegen_syntax.specs.Nonterminals.{takes}
use Rattle.swc_ecma_codegen_syntax.specs.Forms.{Part}
use Rattle.swc_ecma_codegen_syntax.specs.Derives.{Derives, DerivesCoreExpr, part, bare_phrase, expr_verdict}
use Rattle.swc_ecma_codegen_uniqueness.specs.ParseTrees.{Variant, ParseTree, End, Node, tokens_of, settled, AreCommasAndParentheses}
use Rattle.swc_ecma_codegen_uniqueness.specs.Parses.{placed, is_inlined, form_parse, expr_parse}
use Rattle.swc_ecma_codegen_uniqueness.specs.Words.{as_names, with_names}
use Rattle.swc_ecma_codegen_uniqueness.proofs.Classes.{CloseParen}
use Rattle.swc_ecma_codegen_uniqueness.proofs.Controls.{InParen}
use Rattle.swc_ecma_codegen_uniqueness.proofs.Machine.{Whole, Good, Empty, Full, Frame, At, is_fail, one_tree, reads, run, went}
use Rattle.swc_ecma_codegen_uniqueness.proofs.Tables.{Shift}
use Rattle.swc_ecma_codegen_uniqueness.proofs.TableLaws.{ended_by, cover_taken}
use Rattle.swc_ecma_codegen_uniqueness.proofs.Reading.{derived_parse}
use Rattle.swc_ecma_codegen_uniqueness.proofs.Parsed.{tokens_before, derived_allowed}
use Rattle.swc_ecma_codegen_uniqueness.proofs.Fits.{PlacedGood, AllGood, taken_at}
use Rattle.swc_ecma_codegen_uniqueness.proofs.Layers.{all_good}
use Rattle.swc_ecma_codegen_uniqueness.proofs.ParseLaws.{derived_settled}
use Rattle.swc_ecma_codegen_uniqueness.proofs.Words.{one_named, settled_named, same_names}

-- an expression that is read as it is
record Readable (m : ParseTree) : Type 0 where
  variant : Variant
  of : Nonterminal
  inside : ParseTree
  is : m ≡ Node variant inside End
  taken : takes nt.Expression of ≡ true
  good : Good (Whole variant of) inside

readable : {s : Settings} {c : Parameters} {n : AnyNode} {ts : List Token} (d : Derives core s (Part nt.Expression c Expression n) ts) → s.minify ≡ c.minify → Readable (derived_parse d End)
unfolding derived_parse placed is_inlined AllGood PlacedGood
readable {c = c} {n = n} (part called st d) m =
    let f = all_good (part {place = nt.Expression} {c = c} {role = Expression} {n = n} called st d) m in
    record { variant = _; of = _; inside = derived_parse d End; is = refl; taken = cover_taken nt.Expression _ (taken_at _ _ st); good = f.good }

same_readable : (p q : ParseTree) → Readable p → Readable q → tokens_of p (punctuator (codes ")") ∷ []) ≡ tokens_of q (punctuator (codes ")") ∷ []) → p ≡ q
unfolding tokens_of punctuator
same_readable p q x y e =
    x.is
    ∙ one_tree InParen (punctuator (codes ")")) x.variant y.variant x.of y.of x.inside y.inside (or_left _ _ x.taken, ended_by CloseParen x.of x.taken, refl) (or_left _ _ y.taken, ended_by CloseParen y.of y.taken, refl) x.good y.good
    (sym (ap (λ z. tokens_of z (punctuator (codes ")") ∷ [])) x.is) ∙ e ∙ ap (λ z. tokens_of z (punctuator (codes ")") ∷ [])) y.is)
    ∙ sym y.is

same_named : (p q : ParseTree) → Readable p → Readable q → as_names (tokens_of p (punctuator (codes ")") ∷ [])) ≡ as_names (tokens_of q (punctuator (codes ")") ∷ [])) → with_names p ≡ with_names q
unfolding tokens_of punctuator
same_named p q x y e =
    ap with_names x.is
    ∙ one_named InParen (punctuator (codes ")")) x.variant y.variant x.of y.of x.inside y.inside (or_left _ _ x.taken, ended_by CloseParen x.of x.taken, refl) (or_left _ _ y.taken, ended_by CloseParen y.of y.taken, refl) x.good y.good
    (ap (λ z. as_names (tokens_of z (punctuator (codes ")") ∷ []))) (sym x.is) ∙ e ∙ ap (λ z. as_names (tokens_of z (punctuator (codes ")") ∷ []))) y.is)
    ∙ ap with_names (sym y.is)

-- it leads to a state, before `)`
pub expr_runs : {s : Settings} {c : Parameters} (a : Expr AnyNode) {ts : List Token} → DerivesCoreExpr s nt.Expression c a ts →
    is_fail (run (ts ++ (punctuator (codes ")") ∷ [])) (At (record { control = InParen; so_far = λ rest. rest; other = λ rest. rest } ∷ []) Empty)) ≡ false
unfolding tokens_of punctuator
expr_runs a x =
    let u = punctuator (codes ")") in
    let f : Frame = record { control = InParen; so_far = λ rest. rest; other = λ rest. rest } in
    let r = readable x.1 x.0 in
    ap (λ us. is_fail (run us (At (f ∷ []) Empty))) (sym (tokens_before x.1 End (u ∷ [])) ∙ ap (λ z. tokens_of z (u ∷ [])) r.is)
    ∙ ap is_fail (reads r.good f [] u [] (inl (or_left _ _ r.taken)) (ended_by CloseParen r.of r.taken) ∙ went Shift u f [] (Full r.variant r.inside) refl)

expr_derived : {s : Settings} {c : Parameters} (a : Expr AnyNode) {ts : List Token} (x : DerivesCoreExpr s nt.Expression c a ts) → settled (derived_parse x.1 End) ≡ expr_parse s c a
unfolding form_parse settled
expr_derived a x = derived_settled x.1 End

pub parse_tokens : (s : Settings) (c : Parameters) (a : Expr AnyNode) (ts : List Token) → DerivesCoreExpr s nt.Expression c a ts →
    (p : ParseTree) × (settled p ≡ expr_parse s c a) × AreCommasAndParentheses p × ((us : List Token) → tokens_of p us ≡ ts ++ us)
unfolding tokens_of AreCommasAndParentheses
parse_tokens s c a ts x = (derived_parse x.1 End, expr_derived a x, derived_allowed x.1 End tt, λ us. tokens_before x.1 End us)

pub one_parse : (s t : Settings) (c e : Parameters) (a b : Expr AnyNode) (ts : List Token) → DerivesCoreExpr s nt.Expression c a ts → DerivesCoreExpr t nt.Expression e b ts → expr_parse s c a ≡ expr_parse t e b
unfolding tokens_of
one_parse s t c e a b ts x y =
    let u = punctuator (codes ")") ∷ [] in
    sym (expr_derived a x)
    ∙ ap settled (same_readable _ _ (readable x.1 x.0) (readable y.1 y.0) (tokens_before x.1 End u ∙ sym (tokens_before y.1 End u)))
    ∙ expr_derived b y

pub one_parse_named : (s t : Settings) (c e : Parameters) (a b : Expr AnyNode) (ts us : List Token) → DerivesCoreExpr s nt.Expression c a ts → DerivesCoreExpr t nt.Expression e b us → as_names ts ≡ as_names us →
    with_names (expr_parse s c a) ≡ with_names (expr_parse t e b)
unfolding tokens_of
one_parse_named s t c e a b ts us x y h =
    let u = punctuator (codes ")") ∷ [] in
    ap with_names (sym (expr_derived a x)) ∙ settled_named (derived_parse x.1 End)
    ∙ ap settled (same_named _ _ (readable x.1 x.0) (readable y.1 y.0) (same_names ts us _ _ u (tokens_before x.1 End u) (tokens_before y.1 End u) h))
    ∙ sym (settled_named (derived_parse y.1 End)) ∙ ap with_names (expr_derived b y)

pub kept_told : (s t : Settings) (c e : Parameters) (a b : Expr AnyNode) (ts : List Token) → holds_in core (expr_verdict nt.Expression c a) ≡ true → s.minify ≡ c.minify →
    holds_in core (expr_verdict nt.Expression e b) ≡ true → t.minify ≡ e.minify → Generates s (bare_phrase (expr_phrase a)) ts → Generates t (bare_phrase (expr_phrase b)) ts →
    expr_parse s c a ≡ expr_parse t e b
kept_told s t c e a b ts h m k n x y =
    one_parse s t c e a b ts (complete core nt.Expression c a _ refl h s ts m x) (complete core nt.Expression e b _ refl k t ts n y)
