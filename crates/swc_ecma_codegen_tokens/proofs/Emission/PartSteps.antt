-- What the steps of a part do beside writing tokens: which names they place, and which strings.
use Rattle.std.proofs.Common.{◌≡◌, ℕ, Bool, true, false, List, [], ◌∷◌, ◌++◌, refl, sym, ap, ◌∙◌, subst, append_assoc, append-nil}
use Rattle.std.proofs.lemmas.Bool.{and_parts, false_from_ne_true, true≢false}
use Rattle.swc_ecma_codegen_grammar.specs.Tokens as lexical
use Rattle.swc_ecma_codegen_grammar.specs.Comments.{all_closed}
use Rattle.swc_ecma_codegen_text_writer.specs.Sheet.{fills_lines}
use Rattle.swc_ecma_codegen_text_writer.proofs.Sheets.{effect_keeps_positions}
use Rattle.swc_ecma_codegen_grammar.specs.Phrases.{Phrase, Nothing, Then, PlacedName, Generates, names_in}
use Rattle.swc_ecma_codegen_tokens.specs.Run.{Env, Plan, Part, State, Step, Steps, done, steps_of, run, nothing}
use Rattle.swc_ecma_codegen_tokens.specs.Settings.{settings_of}
use Rattle.swc_ecma_codegen_tokens.specs.Written.{Spot, Anything}
use Rattle.swc_ecma_codegen_tokens.specs.Named.{EachName}
use Rattle.swc_ecma_codegen_tokens.specs.Scripts.{strings_after, AreSafe}
use Rattle.swc_ecma_codegen_tokens.proofs.Emission.Fronts.{run_append, run_sheet, run_fills}
use Rattle.swc_ecma_codegen_tokens.proofs.Emission.StepAscii.{has_string, holds_string}
use Rattle.swc_ecma_codegen_tokens.proofs.Filling.NamesCut.{run_on}
use Rattle.swc_ecma_codegen_tokens.proofs.Emission.Positions.{Named, named_none, named_then, run_records}
use Rattle.swc_ecma_codegen_tokens.proofs.Reading.Standing.{ReachedAt, all_more, nameless, reached_as, reached_narrower, reached_then}
use Rattle.swc_ecma_codegen_tokens.proofs.LiteralTokens.ValueStrings.{none_by_value, steps_safe}
use Rattle.swc_ecma_codegen_tokens.proofs.Filling.Shapes.{Shape, join, is_within}
use Rattle.swc_ecma_codegen_tokens.proofs.Gaps.Spots.{is_narrower}
use Rattle.swc_ecma_codegen_tokens.proofs.Reading.Laid.{enters_first, enters_wider}
use Rattle.swc_ecma_codegen_tokens.proofs.Reading.Printed.{remarks_both, env_after, remarks_by, closed_append, chain, MakesOn}
use Rattle.swc_ecma_codegen_tokens.proofs.Filling.CutStanding.{AllHere, run_later}

pub steps_of_chain : (xs : List Step) → steps_of (chain xs done) ≡ xs
unfolding steps_of chain
steps_of_chain [] = refl
steps_of_chain (x ∷ xs) = ap (λ z. x ∷ z) (steps_of_chain xs)

pub steps_of_more : (xs : List Step) (rest : Steps) → steps_of (chain xs rest) ≡ xs ++ steps_of rest
unfolding steps_of chain
steps_of_more [] rest = refl
steps_of_more (x ∷ xs) rest = ap (λ z. x ∷ z) (steps_of_more xs rest)

pub steps_alone : {i : Shape} {room : ℕ} {env : Env} {p : Part} {ts : List lexical.Token} {b : Bool} {v w : Spot} (h : MakesOn v w i room env p ts b) → steps_of (p nothing env) ≡ h.steps
unfolding nothing
steps_alone h = ap steps_of (h.is_steps nothing) ∙ steps_of_chain h.steps

-- the steps of a part, and then those of another
steps_then : {i : Shape} {room : ℕ} {env : Env} {p : Part} {ts : List lexical.Token} {b : Bool} {v w : Spot} (h : MakesOn v w i room env p ts b) (q : Part) → steps_of (p (q nothing) env) ≡ steps_of (p nothing env) ++ steps_of (q nothing (env_after h.steps env))
unfolding nothing
steps_then {env = env} h q =
    let alone = ap steps_of (h.is_steps nothing) ∙ steps_of_chain h.steps in
    ap steps_of (h.is_steps (q nothing)) ∙ steps_of_more h.steps (q nothing (env_after h.steps env)) ∙ ap (λ z. z ++ steps_of (q nothing (env_after h.steps env))) (sym alone)

-- Where positions are kept, and no lines are filled, the steps of a part write these names, and record the position of each where it begins.
unfoldable pub NamedBy : Env → Part → List PlacedName → Type 0
NamedBy env p names = (s : State) → s.sheet.keeps_positions ≡ true → fills_lines s.sheet.lines ≡ false → Named env.config names s.sheet (run (steps_of (p nothing env)) s).sheet

pub no_names : (env : Env) (p : Part) → NamedBy env p []
unfolding NamedBy
no_names env p s k n = named_none env.config s.sheet _ (run_records (steps_of (p nothing env)) s) (run_on (steps_of (p nothing env)) s)

pub names_then : {i : Shape} {room : ℕ} {env : Env} {p : Part} {ts : List lexical.Token} {b : Bool} {v w : Spot} (q : Part) (xs ys : List PlacedName) (h : MakesOn v w i room env p ts b) → NamedBy env p xs → NamedBy (env_after h.steps env) q ys → NamedBy env (λ rest. p (q rest)) (xs ++ ys)
unfolding NamedBy nothing
names_then {env = env} {p = p} q xs ys m h k s keeps flows =
    let here = steps_of (p nothing env) in
    let there = steps_of (q nothing (env_after m.steps env)) in
    let alone : here ≡ m.steps = ap steps_of (m.is_steps nothing) ∙ steps_of_chain m.steps in
    let still : fills_lines (run here s).sheet.lines ≡ false = ap (λ z. fills_lines (run z s).sheet.lines) alone ∙ run_fills m.steps s m.inner ∙ flows in
    let P : List Step → Type 0 = λ z. Named env.config (xs ++ ys) s.sheet (run z s).sheet in
    let Q : State → Type 0 = λ z. Named env.config (xs ++ ys) s.sheet z.sheet in
    subst P (sym (steps_then m q)) (subst Q (sym (run_append here there s))
    (named_then env.config xs ys s.sheet (run here s).sheet (run there (run here s)).sheet (h s keeps flows) (k (run here s) (run_sheet (λ z. z.keeps_positions) effect_keeps_positions here s ∙ keeps) still)))

-- Where an emission has come so far that a part may stand, and positions are kept, its steps write this list of a phrase, in which each name
-- stands as its own token, with its position where it begins.
pub record PlacedOn (before : Spot) (i : Shape) (env : Env) (p : Part) (f : Phrase) (ts : List lexical.Token) : Type 0 where
  pub stands : (a s : State) (us : List lexical.Token) → ReachedAt before i us a s → s.sheet.keeps_positions ≡ true → all_closed (remarks_by (steps_of (p nothing env)) env) ≡ true → AllHere env.config a.sheet (run (steps_of (p nothing env)) s).sheet us f ts

-- where any token may come before it
abbrev pub PlacedBy : Shape → Env → Part → Phrase → List lexical.Token → Type 0
PlacedBy i env p f ts = PlacedOn Anything i env p f ts

-- a phrase without names
pub placed_none : {v : Spot} {i : Shape} (env : Env) (p : Part) (f : Phrase) (ts : List lexical.Token) → names_in f ≡ [] → Generates (settings_of env.config) f ts → PlacedOn v i env p f ts
placed_none env p f ts e g = record { stands = λ a s us r k c. nameless env.config a.sheet _ us f ts e g }

placed_both : {u v : Spot} {i j : Shape} {room : ℕ} {env : Env} {p : Part} {ts : List lexical.Token} {b : Bool} (q : Part) (f g : Phrase) (vs : List lexical.Token) (h : MakesOn u v i room env p ts b) → PlacedOn u i env p f ts → PlacedOn v j (env_after h.steps env) q g vs → (a s : State) (us : List lexical.Token) → ReachedAt u (join i j) us a s → s.sheet.keeps_positions ≡ true → all_closed (remarks_by (steps_of (p (q nothing) env)) env) ≡ true → AllHere env.config a.sheet (run (steps_of (p (q nothing) env)) s).sheet us f ts × AllHere env.config a.sheet (run (steps_of (p (q nothing) env)) s).sheet (us ++ ts) g vs
placed_both {v = v} {i = i} {j = j} {env = env} {p = p} {ts = ts} q f g vs h x y a s us r k c =
    let here : List Step = h.steps in
    let there : List Step = steps_of (q nothing (env_after here env)) in
    let same : steps_of (p nothing env) ≡ here = steps_alone h in
    let whole : steps_of (p (q nothing) env) ≡ here ++ there = steps_then h q ∙ ap (λ z. z ++ there) same in
    let both : all_closed (remarks_by (here ++ there) env) ≡ true = subst (λ z. all_closed (remarks_by z env) ≡ true) whole c in
    let rs = remarks_by here env in
    let qs = remarks_by there (env_after here env) in
    let closed = and_parts (all_closed rs) (all_closed qs) (sym (closed_append rs qs) ∙ ap all_closed (sym (remarks_both here there env)) ∙ both) in
    let next : State = run here s in
    let first : AllHere env.config a.sheet next.sheet us f ts = subst (λ z. AllHere env.config a.sheet (run z s).sheet us f ts) same (x.stands a s us (reached_as i (enters_first i j s r.enters) r) k (subst (λ z. all_closed (remarks_by z env) ≡ true) (sym same) closed.0)) in
    let reached : ReachedAt v j (us ++ ts) a next = reached_then i j us ts a s next r (h.lays s r.rest closed.0) (run_records here s) in
    let second : AllHere env.config a.sheet (run there next).sheet (us ++ ts) g vs = y.stands a next (us ++ ts) reached (run_sheet (λ z. z.keeps_positions) effect_keeps_positions here s ∙ k) closed.1 in
    let P : List Step → Type 0 = λ z. AllHere env.config a.sheet (run z s).sheet us f ts × AllHere env.config a.sheet (run z s).sheet (us ++ ts) g vs in
    let Q : State → Type 0 = λ z. AllHere env.config a.sheet z.sheet us f ts × AllHere env.config a.sheet z.sheet (us ++ ts) g vs in
    subst P (sym whole) (subst Q (sym (run_append here there s)) (all_more env.config a.sheet next.sheet (run there next).sheet us f ts (run_later there next) first, second))

pub placed_then : {u v : Spot} {i j : Shape} {room : ℕ} {env : Env} {p : Part} {ts : List lexical.Token} {b : Bool} (q : Part) (f g : Phrase) (vs : List lexical.Token) (h : MakesOn u v i room env p ts b) → PlacedOn u i env p f ts → PlacedOn v j (env_after h.steps env) q g vs → PlacedOn u (join i j) env (λ rest. p (q rest)) (Then f g) (ts ++ vs)
unfolding EachName
placed_then {ts = ts} q f g vs h x y = record { stands = λ a s us r k c. let z = placed_both q f g vs h x y a s us r k c in (ts, vs, z.0, z.1, refl) }

-- behind or before what writes no token
pub placed_after : {u v : Spot} {i j : Shape} {room : ℕ} {env : Env} {p : Part} {b : Bool} (q : Part) (g : Phrase) (vs : List lexical.Token) (h : MakesOn u v i room env p [] b) → PlacedOn v j (env_after h.steps env) q g vs → PlacedOn u (join i j) env (λ rest. p (q rest)) g vs
unfolding names_in Generates nothing
placed_after {env = env} {p = p} q g vs h y = record {
  stands = λ a s us r k c. subst (λ z. AllHere env.config a.sheet (run (steps_of (p (q nothing) env)) s).sheet z g vs) (append-nil us) (placed_both q Nothing g vs h (placed_none env p Nothing [] refl refl) y a s us r k c).1;
}

pub placed_before : {u v : Spot} {i : Shape} (j : Shape) {room : ℕ} {env : Env} {p : Part} {ts : List lexical.Token} {b : Bool} (q : Part) (f : Phrase) (h : MakesOn u v i room env p ts b) → PlacedOn u i env p f ts → PlacedOn u (join i j) env (λ rest. p (q rest)) f ts
unfolding names_in Generates
placed_before j {env = env} {p = p} q f h x = record { stands = λ a s us r k c. (placed_both q f Nothing [] h x (placed_none {i = j} (env_after h.steps env) q Nothing [] refl refl) a s us r k c).0 }

pub placed_wider : {v : Spot} {i : Shape} (j : Shape) {env : Env} {p : Part} {f : Phrase} {ts : List lexical.Token} → is_within i j ≡ true → PlacedOn v i env p f ts → PlacedOn v j env p f ts
placed_wider {i = i} j e x = record { stands = λ a s us r k c. x.stands a s us (reached_as i (enters_wider i j s e r.enters) r) k c }

-- where more may come before it
pub placed_narrower : (u : Spot) {v : Spot} {i : Shape} {env : Env} {p : Part} {f : Phrase} {ts : List lexical.Token} → is_narrower u v ≡ true → PlacedOn v i env p f ts → PlacedOn u i env p f ts
placed_narrower u {v} e x = record { stands = λ a s us r k c. x.stands a s us (reached_narrower u v e r) k c }

pub placed_same : {i : Shape} {f : Phrase} {ts : List lexical.Token} (env : Env) (p q : Part) → ((rest : Plan) → p rest env ≡ q rest env) → PlacedBy i env q f ts → PlacedBy i env p f ts
placed_same {f = f} {ts = ts} env p q e x = record {
  stands = λ a s us r k c. subst (λ (z : Steps). AllHere env.config a.sheet (run (steps_of z) s).sheet us f ts) (sym (e nothing)) (x.stands a s us r k (subst (λ (z : Steps). all_closed (remarks_by (steps_of z) env) ≡ true) (e nothing) c));
}

-- the lists of three phrases, however they are taken together
pub placed_regrouped : {i : Shape} {env : Env} {p : Part} {ts : List lexical.Token} (f g h : Phrase) → PlacedBy i env p (Then (Then f g) h) ts → PlacedBy i env p (Then f (Then g h)) ts
unfolding EachName
placed_regrouped {env = env} {p = p} f g h x = record {
  stands = λ a s us r k c.
      let z = x.stands a s us r k c in
      let P : List lexical.Token → Type 0 = λ v. AllHere env.config a.sheet (run (steps_of (p nothing env)) s).sheet v h z.1 in
      (z.2.0, z.2.1 ++ z.1, z.2.2, (z.2.1, z.1, z.2.3, subst P (ap (λ v. us ++ v) z.2.4 ∙ sym (append_assoc us z.2.0 z.2.1)) z.3, refl), z.4 ∙ ap (λ v. v ++ z.1) z.2.4 ∙ append_assoc z.2.0 z.2.1 z.1);
}

-- Under `inline_script` the strings of a part that are printed by their value are safe, whatever was before it.
unfoldable pub IsSafe : Env → Part → Type 0
IsSafe env p = env.config.inline_script ≡ true → (anew : Bool) → AreSafe (strings_after anew (steps_of (p nothing env)))

-- a part without strings
pub no_strings : {i : Shape} {room : ℕ} {env : Env} {p : Part} {ts : List lexical.Token} {b : Bool} {v w : Spot} → MakesOn v w i room env p ts b → holds_string ts ≡ false → IsSafe env p
unfolding IsSafe AreSafe nothing
no_strings {env = env} {p = p} {ts = ts} h none e anew =
    let same : steps_of (p nothing env) ≡ h.steps = ap steps_of (h.is_steps nothing) ∙ steps_of_chain h.steps in
    let no : has_string h.steps ≡ false = false_from_ne_true (has_string h.steps) (λ s. true≢false (sym (h.hands.strings s) ∙ none)) in
    subst AreSafe (sym (ap (strings_after anew) same ∙ none_by_value anew h.steps no)) tt

pub safe_then : {i : Shape} {room : ℕ} {env : Env} {p : Part} {ts : List lexical.Token} {b : Bool} {v w : Spot} (q : Part) (h : MakesOn v w i room env p ts b) → IsSafe env p → IsSafe (env_after h.steps env) q → IsSafe env (λ rest. p (q rest))
unfolding IsSafe
safe_then {env = env} {p = p} q m h k e anew =
    let here = steps_of (p nothing env) in
    let there = steps_of (q nothing (env_after m.steps env)) in
    subst (λ z. AreSafe (strings_after anew z)) (sym (steps_then m q)) (steps_safe here there (h e) (k e) anew)
