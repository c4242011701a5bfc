-- What the parts of templates, and numbers before a dot, do, from what is done in each branch.
use Rattle.std.proofs.Common.{◌≡◌, ℕ, Bool, true, false, cond, List, sym, subst, Result, ◌∙◌, string_bytes}
use Rattle.swc_ecma_codegen_common.specs.declared.errors.Refusal.{Refusal}
use Rattle.swc_ecma_codegen_tree.specs.declared.exprs.TplElement.{TplElement}
use Rattle.swc_ecma_codegen_common.specs.declared.positions.BytePos.{BytePos}
use Rattle.swc_ecma_codegen_tree.specs.declared.lits.Number.{Number}
use Rattle.swc_ecma_codegen_grammar.specs.CommentMaps.{Maps}
use Rattle.swc_ecma_codegen_grammar.specs.declared.kinds.TemplatePart.{TemplatePart}
use Rattle.swc_ecma_codegen_tokens.specs.Lits.{is_named, named_number, number_object, spelled_object}
use Rattle.swc_ecma_codegen_tokens.specs.Run.{Part, State, Does, DoesTaking}
use Rattle.swc_ecma_codegen_tokens.specs.Templates.{part_by, cooked_part, tpl_element}

-- the same text
pub does_text : (part : List ℕ → Part) (t u : List ℕ) (a b : State) (r : Result (Unit {0}) Refusal) → t ≡ u → Does (part t) a b r → Does (part u) a b r
does_text part t u a b r e d = subst (λ z. Does (part z) a b r) e d

-- ---- a part of a template

-- of one with a tag
pub tagged_element : (first : Bool) (part : TemplatePart) (n : TplElement) (t : List ℕ) (a b : State) (r : Result (Unit {0}) Refusal) → part.tagged ≡ true → t ≡ string_bytes n.raw → Does (part_by first part n.span t) a b r → Does (tpl_element first part n) a b r
unfolding tpl_element
tagged_element first part n t a b r e same d =
    let P : Bool → Type 0 = λ z. Does (λ rest. cond z (part_by first part n.span (string_bytes n.raw) rest) (cooked_part first part n rest)) a b r in
    subst P (sym e) (does_text (part_by first part n.span) t (string_bytes n.raw) a b r same d)

-- of one without
pub cooked_element : (first : Bool) (part : TemplatePart) (n : TplElement) (a b : State) (r : Result (Unit {0}) Refusal) → part.tagged ≡ false → Does (cooked_part first part n) a b r → Does (tpl_element first part n) a b r
unfolding tpl_element
cooked_element first part n a b r e d =
    let P : Bool → Type 0 = λ z. Does (λ rest. cond z (part_by first part n.span (string_bytes n.raw) rest) (cooked_part first part n rest)) a b r in
    subst P (sym e) d

-- ---- a number before the dot of a property

-- of one that no literal spells
pub named_object : (n : Number) (pos : BytePos) (b : Bool) (before left : Maps) (x y : State) (r : Result (Unit {0}) Refusal) → b ≡ is_named n → b ≡ true → DoesTaking (named_number false n.span n.value) before left x y r → DoesTaking (number_object n pos) before left x y r
unfolding number_object
named_object n pos b before left x y r same e d =
    let P : Bool → Type 0 = λ z. DoesTaking (λ rest. cond z (named_number false n.span n.value rest) (spelled_object n pos rest)) before left x y r in
    subst P (sym e ∙ same) d

-- of another
pub literal_object : (n : Number) (pos : BytePos) (b : Bool) (before left : Maps) (x y : State) (r : Result (Unit {0}) Refusal) → b ≡ is_named n → b ≡ false → DoesTaking (spelled_object n pos) before left x y r → DoesTaking (number_object n pos) before left x y r
unfolding number_object
literal_object n pos b before left x y r same e d =
    let P : Bool → Type 0 = λ z. DoesTaking (λ rest. cond z (named_number false n.span n.value rest) (spelled_object n pos rest)) before left x y r in
    subst P (sym e ∙ same) d
