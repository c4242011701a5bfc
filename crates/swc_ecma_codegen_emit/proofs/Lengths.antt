-- A part that is made where lines have another greatest length.
use Rattle.std.proofs.Common.{◌≡◌, ℕ, Option, Some, None, refl, sym, ap, ◌∙◌, subst}
use Rattle.swc_ecma_codegen_common.specs.declared.errors.Refusal.{Refusal}
use Rattle.swc_ecma_codegen_tokens.specs.Run.{Plan, Part, nothing, with_max_line}
use Rattle.swc_ecma_codegen_tokens.proofs.Filling.Lengths.{at_length}
use Rattle.swc_ecma_codegen_tokens.proofs.Filling.MaxLines.{lengthened, follows_keeps, follows_length}
use Rattle.swc_ecma_codegen_emit.specs.Standing.{Standing, outcome, Leads, LeadsAfter, Makes}
use Rattle.swc_ecma_codegen_emit.proofs.Standings.{makes_ended, makes_same}
use Rattle.swc_ecma_codegen_emit.specs.Places.{Place, alone, by_itself}

-- where an emission stands, with another greatest length of lines
abbrev pub standing_at : Option ℕ → Standing → Standing
standing_at max s = record s { state = lengthened max s.state }

keeps_after : (old : Option Refusal) (level : ℕ) (p : Plan) (a b : Standing) → LeadsAfter old level p a b → b.state.env.max_line ≡ a.state.env.max_line
unfolding LeadsAfter
keeps_after None level p a b h = follows_keeps p a.state b.state (outcome b.refusal) h.0
keeps_after (Some e) level p a b h = ap (λ (s : Standing). s.state.env.max_line) h

leads_keeps : (level : ℕ) (p : Plan) (a b : Standing) → Leads level p a b → b.state.env.max_line ≡ a.state.env.max_line
unfolding Leads
leads_keeps level p a b h = keeps_after a.refusal level p a b h

-- the length that it has
same_length : (max : Option ℕ) (s : Standing) → max ≡ s.state.env.max_line → standing_at max s ≡ s
same_length max s e = ap (λ z. standing_at z s) e

after_length : (old : Option Refusal) (level : ℕ) (p q : Plan) (max : Option ℕ) (a c : Standing) → q a.state.env ≡ p (at_length max a.state.env) → c.state.env.max_line ≡ a.state.env.max_line → LeadsAfter old level p (standing_at max a) (standing_at max c) → LeadsAfter old level q a c
unfolding LeadsAfter
after_length None level p q max a c e k h = (follows_length p q max a.state c.state (outcome c.refusal) e k h.0, h.1)
after_length (Some r) level p q max a c e k h = ap (standing_at c.state.env.max_line) h ∙ same_length c.state.env.max_line a k

leads_length : (level : ℕ) (p q : Plan) (max : Option ℕ) (a c : Standing) → q a.state.env ≡ p (at_length max a.state.env) → c.state.env.max_line ≡ a.state.env.max_line → Leads level p (standing_at max a) (standing_at max c) → Leads level q a c
unfolding Leads
leads_length level p q max a c e k h = after_length a.refusal level p q max a c e k h

-- A part that is made at another length leads, with the length that it was, to where the whole leads.
pub length_makes : (max : Option ℕ) (p : Part) (a b : Standing) → Makes p (standing_at max a) b → Makes (with_max_line max p) a (standing_at a.state.env.max_line b)
unfolding with_max_line
length_makes max p a b h = λ level rest c k.
    let was : Option ℕ = a.state.env.max_line in
    let inner : Plan = λ env. rest (record env { max_line = was }) in
    let there : b.state.env.max_line ≡ max = leads_keeps b.state.sheet.indentation (p nothing) (standing_at max a) b (makes_ended p (standing_at max a) b h) in
    let end : c.state.env.max_line ≡ was = leads_keeps level rest (standing_at was b) c k in
    let goes : Leads level inner b (standing_at max c) =
    leads_length level rest inner was b (standing_at max c) refl (sym there) (subst (λ z. Leads level rest (standing_at was b) z) (sym (same_length was c (sym end))) k) in
    leads_length level (p inner) (with_max_line max p rest) max a c refl end (h level inner (standing_at max c) goes)

-- a node by itself: it stands where its settings say, and it alone tells where lines may be ended
pub alone_makes : (items : Place → Part) (a b : Standing) → Makes (items (alone a.state.env)) (standing_at None a) b → Makes (by_itself items) a (standing_at a.state.env.max_line b)
unfolding by_itself
alone_makes items a b h = makes_same (by_itself items) (with_max_line None (items (alone a.state.env))) a (standing_at a.state.env.max_line b) (λ rest. refl) (length_makes None (items (alone a.state.env)) a b h)
