-- What may come next: which spot is as good as another.
use Rattle.std.proofs.Common.{◌≡◌, ℕ, Bool, true, false, ◌==◌, List, ◌∷◌, codes, refl, sym, subst, inl, inr}
use Rattle.std.proofs.lemmas.Bool.{eqb-true, or_cases, true≢false}
use Rattle.swc_ecma_codegen_grammar.specs.Tokens as lexical
use Rattle.swc_ecma_codegen_grammar.specs.Trivia.{Remark}
use Rattle.swc_ecma_codegen_grammar.specs.Texts.{begins}
use Rattle.swc_ecma_codegen_tokens.specs.Run.{State}
use Rattle.swc_ecma_codegen_tokens.specs.Written.{is_indent, Spot, Anything, Between, InText, InName, Takes, RestsAt}
use Rattle.swc_ecma_codegen_tokens.proofs.Reading.Laid.{LaysTo}
use Rattle.swc_ecma_codegen_tokens.proofs.Filling.Shapes.{Shape}

-- any token may come behind the end of a tag, as may a child
abbrev pub is_narrower : Spot → Spot → Bool
is_narrower Anything Anything = true
is_narrower Anything InName = true
is_narrower Between w = true
is_narrower InText InText = true
is_narrower InName InName = true
is_narrower v w = false

pub taking : {v : Spot} (w : Spot) (s : State) → Takes w s → RestsAt v s → RestsAt w s
taking w s k r = record { indent_text = r.indent_text; line_end = r.line_end; flowing = r.flowing; free = r.free; allowed = k }

pub rests_narrower : (v w : Spot) (s : State) → is_narrower v w ≡ true → RestsAt v s → RestsAt w s
rests_narrower Anything Anything s e r = r
rests_narrower Anything InName s e r = taking InName s (λ t d. r.allowed t) r
rests_narrower Between Anything s e r = taking Anything s r.allowed.1 r
rests_narrower Between Between s e r = r
rests_narrower Between InText s e r = taking InText s (r.allowed.0, λ t d. r.allowed.1 t) r
rests_narrower Between InName s e r = taking InName s (λ t d. r.allowed.1 t) r
rests_narrower InText InText s e r = r
rests_narrower InName InName s e r = r
rests_narrower v w s e r = absurd (true≢false (sym e))

pub lays_ends : {i : Shape} {ts : List lexical.Token} {rs : List Remark} {v : Spot} (w : Spot) (a b : State) → (RestsAt v b → RestsAt w b) → LaysTo v i ts rs a b → LaysTo w i ts rs a b
lays_ends w a b f h = record { out = h.out; laid = h.laid; bytes = h.bytes; text = h.text; utf8 = h.utf8; spells = h.spells; tokens = h.tokens; remarks = h.remarks; apart = h.apart; reduces = h.reduces; holds = h.holds; whole = h.whole; cuts = h.cuts; rest = f h.rest; fits = h.fits }

pub lays_narrower : {i : Shape} {ts : List lexical.Token} {rs : List Remark} (v w : Spot) (a b : State) → is_narrower v w ≡ true → LaysTo v i ts rs a b → LaysTo w i ts rs a b
lays_narrower v w a b e h = lays_ends w a b (rests_narrower v w b e) h

-- a line's indentation begins with no dash
pub dashless : (c : ℕ) (n : List ℕ) → is_indent c ≡ true → begins (codes "-") (c ∷ n) ≡ false
unfolding is_indent begins
dashless c n h = elim (or_cases (c == 32) (c == 9) h) [
  | inl x ↦ subst (λ z. begins (codes "-") (z ∷ n) ≡ false) (sym (eqb-true c 32 x)) refl
  | inr x ↦ subst (λ z. begins (codes "-") (z ∷ n) ≡ false) (sym (eqb-true c 9 x)) refl
]
