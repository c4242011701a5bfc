-- What a verdict holds is what it held before, and what was asked since.
use Rattle.std.proofs.Common.{◌≡◌, Bool, true, false, ◌&&◌, ◌||◌, not, cond, refl, sym, ◌∙◌, ap}
use Rattle.swc_ecma_codegen_syntax.specs.declared.nonterminals.Nonterminal.{Nonterminal}
use Rattle.swc_ecma_codegen_syntax.specs.declared.verdicts.Verdict.{Verdict}
use Rattle.swc_ecma_codegen_syntax.specs.Nonterminals.{takes}
use Rattle.swc_ecma_codegen_syntax.specs.Verdicts.{Grammar, meet, by_place, by_rule, by_scope, by_core, standing, is_mended, holds, holds_in}
use Rattle.swc_ecma_codegen_syntax.specs.Forms.{Cure, ByPlace, ByRule, ByScope, ByCore, asked, is_met, stands}

pub and_true : (b : Bool) → (b && true) ≡ b
and_true true = refl
and_true false = refl

pub and_false : (b : Bool) → (b && false) ≡ false
and_false true = refl
and_false false = refl

pub and_assoc : (a b c : Bool) → ((a && b) && c) ≡ (a && (b && c))
and_assoc true b c = refl
and_assoc false b c = refl

pub and_swap : (a b : Bool) → (a && b) ≡ (b && a)
and_swap true b = sym (and_true b)
and_swap false b = sym (and_false b)

-- ---- in Bools

meet_strict : (a b c x y z : Bool) → ((a && x) && ((b && y) && (c && z))) ≡ ((a && (b && c)) && (x && (y && z)))
meet_strict false b c x y z = refl
meet_strict true false c x y z = and_false x
meet_strict true true false x y z = ap (λ k. x && k) (and_false y) ∙ and_false x
meet_strict true true true x y z = refl

meet_loose : (a b x y : Bool) → ((a && x) && ((b && y) && true)) ≡ ((a && (b && true)) && (x && (y && true)))
meet_loose false b x y = refl
meet_loose true false x y = and_false x
meet_loose true true x y = refl

last_asked : (a b c d : Bool) → (a && (b && (c && d))) ≡ ((a && (b && c)) && d)
last_asked false b c d = refl
last_asked true false c d = refl
last_asked true true c d = refl

middle_asked : (a b c d : Bool) → (a && ((b && d) && c)) ≡ ((a && (b && c)) && d)
middle_asked false b c d = refl
middle_asked true false c d = refl
middle_asked true true c d = and_swap d c

first_asked : (a b c d : Bool) → ((a && d) && (b && c)) ≡ ((a && (b && c)) && d)
first_asked false b c d = refl
first_asked true b c d = and_swap d (b && c)

-- by whether all of the grammar is asked for, and what is in its core
meet_core : (wide a b x y : Bool) → ((wide || (a && b)) && (x && y)) ≡ (((wide || a) && x) && ((wide || b) && y))
meet_core true a b x y = refl
meet_core false false b x y = refl
meet_core false true false x y = sym (and_false x)
meet_core false true true x y = refl

core_asked : (wide a d x : Bool) → ((wide || (a && d)) && x) ≡ (((wide || a) && x) && (wide || d))
core_asked true a d x = sym (and_true x)
core_asked false false d x = refl
core_asked false true d x = and_swap d x

-- ---- in verdicts

holds_both_meet : (places : Bool) (v w : Verdict) → holds places (meet v w) ≡ (holds places v && holds places w)
unfolding holds meet
holds_both_meet true v w = meet_strict v.covered v.curable v.parenthesized w.covered w.curable w.parenthesized
holds_both_meet false v w = meet_loose v.covered v.curable w.covered w.curable

pub holds_meet : (grammar : Grammar) (v w : Verdict) → holds_in grammar (meet v w) ≡ (holds_in grammar v && holds_in grammar w)
unfolding meet
holds_meet grammar v w =
    ap (λ b. (grammar.wide || (v.core && w.core)) && b) (holds_both_meet grammar.places v w)
    ∙ meet_core grammar.wide v.core w.core (holds grammar.places v) (holds grammar.places w)

-- what is asked beside the core
asked_beside : (grammar : Grammar) (v : Verdict) (asked before d : Bool) → asked ≡ (before && d) → ((grammar.wide || v.core) && asked) ≡ (((grammar.wide || v.core) && before) && d)
asked_beside grammar v asked before d e = ap (λ b. (grammar.wide || v.core) && b) e ∙ sym (and_assoc (grammar.wide || v.core) before d)

place_asked : (places : Bool) (v : Verdict) (d : Bool) → holds places (by_place v d) ≡ (holds places v && (not places || d))
unfolding holds by_place
place_asked true v d = last_asked v.covered v.curable v.parenthesized d
place_asked false v d = sym (and_true (v.covered && (v.curable && true)))

pub holds_place : (grammar : Grammar) (v : Verdict) (d : Bool) → holds_in grammar (by_place v d) ≡ (holds_in grammar v && (not grammar.places || d))
unfolding by_place
holds_place grammar v d = asked_beside grammar v _ _ _ (place_asked grammar.places v d)

rule_asked : (places : Bool) (v : Verdict) (d : Bool) → holds places (by_rule v d) ≡ (holds places v && d)
unfolding holds by_rule
rule_asked places v d = middle_asked v.covered v.curable (not places || v.parenthesized) d

pub holds_rule : (grammar : Grammar) (v : Verdict) (d : Bool) → holds_in grammar (by_rule v d) ≡ (holds_in grammar v && d)
unfolding by_rule
holds_rule grammar v d = asked_beside grammar v _ _ _ (rule_asked grammar.places v d)

scope_asked : (places : Bool) (v : Verdict) (d : Bool) → holds places (by_scope v d) ≡ (holds places v && d)
unfolding holds by_scope
scope_asked places v d = first_asked v.covered v.curable (not places || v.parenthesized) d

pub holds_scope : (grammar : Grammar) (v : Verdict) (d : Bool) → holds_in grammar (by_scope v d) ≡ (holds_in grammar v && d)
unfolding by_scope
holds_scope grammar v d = asked_beside grammar v _ _ _ (scope_asked grammar.places v d)

pub holds_core : (grammar : Grammar) (v : Verdict) (d : Bool) → holds_in grammar (by_core v d) ≡ (holds_in grammar v && (grammar.wide || d))
unfolding holds by_core
holds_core grammar v d = core_asked grammar.wide v.core d (v.covered && (v.curable && (not grammar.places || v.parenthesized)))

pub holds_asked : (grammar : Grammar) (cure : Cure) (v : Verdict) (d : Bool) → holds_in grammar (asked cure v d) ≡ (holds_in grammar v && is_met grammar cure d)
unfolding asked is_met
holds_asked grammar ByPlace v d = holds_place grammar v d
holds_asked grammar ByRule v d = holds_rule grammar v d
holds_asked grammar ByScope v d = holds_scope grammar v d
holds_asked grammar ByCore v d = holds_core grammar v d

-- by whether the place takes it, and whether parentheses would mend it
or_false : (b : Bool) → (not b || false) ≡ (not b && true)
or_false true = refl
or_false false = refl

and_no : (b : Bool) → (not b && false) ≡ false
and_no true = refl
and_no false = refl

standing_by : (grammar : Grammar) (v : Verdict) (taken mended : Bool) →
    holds_in grammar (cond taken v (cond mended (by_place v false) (by_rule v false))) ≡ (holds_in grammar v && (taken || (not grammar.places && mended)))
standing_by grammar v true mended = sym (and_true (holds_in grammar v))
standing_by grammar v false true = holds_place grammar v false ∙ ap (λ b. holds_in grammar v && b) (or_false grammar.places)
standing_by grammar v false false = holds_rule grammar v false ∙ ap (λ b. holds_in grammar v && b) (sym (and_no grammar.places))

pub holds_standing : (grammar : Grammar) (v : Verdict) (place part : Nonterminal) → holds_in grammar (standing v place part) ≡ (holds_in grammar v && stands grammar.places place part)
unfolding standing stands
holds_standing grammar v place part = standing_by grammar v (takes place part) (is_mended place part)

-- ---- what the three answers tell together

both_of : (a b c : Bool) → (a && (b && c)) ≡ ((a && (b && true)) && c)
both_of false b c = refl
both_of true false c = refl
both_of true true c = refl

pub holds_both : (v : Verdict) → holds true v ≡ (holds false v && v.parenthesized)
unfolding holds
holds_both v = both_of v.covered v.curable v.parenthesized

pub uncovered_holds : (places : Bool) (v : Verdict) → v.covered ≡ false → holds places v ≡ false
unfolding holds
uncovered_holds places v h = ap (λ b. b && (v.curable && (not places || v.parenthesized))) h
