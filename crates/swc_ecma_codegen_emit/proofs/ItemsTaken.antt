-- After the emission of a module no comment is left before one of its items.
use Rattle.std.proofs.Common.{◌≡◌, ◌∙◌, ℕ, ◌==◌, ◌||◌, arith, Bool, true, false, cond, List, [], ◌∷◌, map, refl, sym, ap, subst, ◌⊎◌, Some, None, Result, Ok, Err, OnOk, inl, inr, All}
use Rattle.std.specs.Prelude.{⊤}
use Rattle.std.proofs.lemmas.Bool.{cases_Bool, and_from, and_parts, or_parts, eq-eqb, ne_eqb}
use Rattle.std.proofs.lemmas.List.Elements.{All-cons}
use Rattle.swc_ecma_codegen_common.specs.declared.errors.Refusal.{Refusal}
use Rattle.swc_ecma_codegen_common.specs.declared.positions.BytePos.{BytePos}
use Rattle.swc_ecma_codegen_common.specs.declared.positions.Span.{Span}
use Rattle.swc_ecma_codegen_common.specs.Refusals.{in_short}
use Rattle.swc_ecma_codegen_tree.specs.declared.links.AnyNode.{AnyNode}
use Rattle.swc_ecma_codegen_tree.specs.declared.programs.Module.{Module}
use Rattle.swc_ecma_codegen_tree.specs.declared.programs.ModuleItem.{ModuleItem}
use Rattle.swc_ecma_codegen_tree.specs.declared.programs.Program.TheVariants as programs
use Rattle.swc_ecma_codegen_spans.specs.Spans.{module_item_span}
use Rattle.swc_ecma_codegen_grammar.specs.CommentMaps.{Maps, without, without_leading, without_trailing}
use Rattle.swc_ecma_codegen_grammar.specs.Comments.{Leading, Trailing, taken_out, comments_at}
use Rattle.swc_ecma_codegen_grammar.specs.Phrases.{is_possible}
use Rattle.swc_ecma_codegen_grammar.specs.Phrases as phrases
use Rattle.swc_ecma_codegen_grammar.specs.StmtPhrases as lists
use Rattle.swc_ecma_codegen_grammar.specs.TreePhrases.{is_well_formed, phrase}
use Rattle.swc_ecma_codegen_tokens.specs.Run.{Env, Plan, Part, State, Step, Take, Follows, nothing, step, at_maps, after_step, maps_after, steps_of, unbounded, with_max_line}
use Rattle.swc_ecma_codegen_tokens.specs.Targets.{is_out}
use Rattle.swc_ecma_codegen_tokens.specs.Words.{begin_lines, bounded, end_lines, in_lines, leading_comments, trailing_comments, take_comments, comments}
use Rattle.swc_ecma_codegen_tokens.proofs.Filling.Lengths.{at_length}
use Rattle.swc_ecma_codegen_tokens.proofs.Reading.Printed.{MakesFrom, env_after, maps_append}
use Rattle.swc_ecma_codegen_tokens.proofs.Reading.Phrased.{prints_nothing, prints_wider, steps_of_more}
use Rattle.swc_ecma_codegen_tokens.proofs.Filling.Shapes.{Shape, loose}
use Rattle.swc_ecma_codegen_tokens.proofs.Emission.Short.{on_ok_in_short}
use Rattle.swc_ecma_codegen_emit.specs.Answers.{any_answers, place_of}
use Rattle.swc_ecma_codegen_emit.specs.Emission.{Outcome, LeavesNone}
use Rattle.swc_ecma_codegen_emit.specs.Left.{NoneBefore, NoneBeforeItems}
use Rattle.swc_ecma_codegen_emit.specs.Lists.{in_order}
use Rattle.swc_ecma_codegen_emit.specs.Modules.{module_item, module_item_by}
use Rattle.swc_ecma_codegen_emit.specs.Programs.{last_semi, module_parts, program, whole_module}
use Rattle.swc_ecma_codegen_emit.specs.declared.nodes.Context.TheVariants.{ByItself, Plain}
use Rattle.swc_ecma_codegen_emit.specs.Places.{Place, Whole, alone, by_itself}
use Rattle.swc_ecma_codegen_emit.specs.Roots.{Root, OfExpr, OfStmt, OfItem, OfModule, OfScript, OfProgram, OfLink, root_items}
use Rattle.swc_ecma_codegen_emit.specs.Tree.{any_items}
use Rattle.swc_ecma_codegen_emit.proofs.ByItself.{alone_or}
use Rattle.swc_ecma_codegen_emit.proofs.Linked.{Linked}
use Rattle.swc_ecma_codegen_emit.proofs.ModuleParts.{module_item_prints}
use Rattle.swc_ecma_codegen_emit.proofs.ProgramParts.{opened_prints}
use Rattle.swc_ecma_codegen_emit.proofs.TreeLaw.{known}
use Rattle.swc_ecma_codegen_emit.proofs.TreeReads.{maps_followed, root_in_target}

-- ---- what is gone stays gone

step_stays : (x : Step) (pos : ℕ) (maps : Maps) → maps.leading pos ≡ None → (after_step x maps).leading pos ≡ None
unfolding after_step taken_out without_leading without_trailing without
step_stays (Take Leading at) pos maps h = elim (cases_Bool (at == pos)) [
  | inl e ↦ ap (λ b. cond b None (maps.leading pos)) e
  | inr e ↦ ap (λ b. cond b None (maps.leading pos)) e ∙ h
]
step_stays (Take Trailing at) pos maps h = h
step_stays x pos maps h = h

stays : (xs : List Step) (pos : ℕ) (maps : Maps) → maps.leading pos ≡ None → (maps_after xs maps).leading pos ≡ None
unfolding maps_after
stays [] pos maps h = h
stays (x ∷ xs) pos maps h = stays xs pos (after_step x maps) (step_stays x pos maps h)

gone : (pos : ℕ) (maps : Maps) → (taken_out Leading pos maps).leading pos ≡ None
unfolding taken_out without_leading without
gone pos maps = ap (λ b. cond b None (maps.leading pos)) (eq-eqb pos pos refl)

-- the comments before a position are, wherever they are taken
before_gone : (pos : BytePos) (rest : Plan) (env : Env) → (pos.0 ≡ 0 → ⊥) → (maps_after (steps_of (leading_comments pos rest env)) env.maps).leading pos.0 ≡ None
unfolding leading_comments take_comments step steps_of maps_after after_step
before_gone pos rest env n =
    let P : Bool → Type 0 = λ b. (maps_after (steps_of (cond b rest (take_comments Leading false pos.0 rest) env)) env.maps).leading pos.0 ≡ None in
    subst P (sym (ne_eqb pos.0 0 n)) (stays (steps_of (comments false (comments_at Leading pos.0 env.maps) rest (at_maps (taken_out Leading pos.0 env.maps) env))) pos.0 (taken_out Leading pos.0 env.maps) (gone pos.0 env.maps))

-- ---- items one after another

-- what is left where steps come behind those of a part
left_then : {i : Shape} {room : ℕ} {env : Env} {p : Part} {ts : _} {b : Bool} (h : MakesFrom i room env p ts b) (rest : Plan) → maps_after (steps_of (p rest env)) env.maps ≡ maps_after (steps_of (rest (env_after h.steps env))) (maps_after h.steps env.maps)
left_then {env = env} h rest =
    ap (λ xs. maps_after xs env.maps) (ap steps_of (h.is_steps rest) ∙ steps_of_more h.steps (rest (env_after h.steps env))) ∙ maps_append h.steps (steps_of (rest (env_after h.steps env))) env.maps

module _ {X : Type 0} (l : Linked X) where
  -- before none of these a comment is left
  abbrev AllLeft : List (ModuleItem X) → Maps → Type 0
  AllLeft xs maps = All (λ item. NoneBefore (module_item_span (place_of l.asks) item) maps) xs

  items_left : (xs : List (ModuleItem X)) (rest : Plan) (maps : Maps) → is_possible (phrases.in_order (map (lists.module_item l.reads) xs)) ≡ true → is_out l.env.config (phrases.in_order (map (lists.module_item l.reads) xs)) ≡ false
      → AllLeft xs (maps_after (steps_of (in_order (module_item l.asks l.items) xs rest (at_maps maps l.env))) maps)
  unfolding phrases.in_order in_order is_possible is_out module_item
  items_left [] rest maps w o = λ k d less. absurd (let none : ⊥ = omega (arith, less) in none)
  items_left (x ∷ xs) rest maps w o =
      let both = and_parts (is_possible (lists.module_item l.reads x)) (is_possible (phrases.in_order (map (lists.module_item l.reads) xs))) w in
      let none = or_parts (is_out l.env.config (lists.module_item l.reads x)) (is_out l.env.config (phrases.in_order (map (lists.module_item l.reads) xs))) o in
      let h = ((module_item_prints l x).where_possible both.0 none.0 maps).writes in
      let there : Maps = maps_after h.steps maps in
      let more : Plan = in_order (module_item l.asks l.items) xs rest in
      let span : Span = module_item_span (place_of l.asks) x in
      let left : Maps = maps_after (steps_of (module_item l.asks l.items x more (at_maps maps l.env))) maps in
      let P : ModuleItem X → Type 0 = λ item. NoneBefore (module_item_span (place_of l.asks) item) left in
      All-cons P x xs
      (before_gone span.lo (module_item_by l.asks l.items x (trailing_comments true span.hi more)) (at_maps maps l.env))
      (subst (AllLeft xs) (sym (left_then h more)) (items_left xs rest there both.1 none.1))

  module_left : (n : Module X) (rest : Plan) → is_possible (lists.whole_module l.reads n) ≡ true → is_out l.env.config (lists.whole_module l.reads n) ≡ false → AllLeft n.body.items (maps_after (steps_of (module_parts l.asks l.items n rest l.env)) l.env.maps)
  unfolding lists.whole_module module_parts is_possible is_out
  module_left n rest w o =
      let body = phrases.in_order (map (lists.module_item l.reads) n.body.items) in
      let both = and_parts (is_possible (lists.shebang n.shebang)) (is_possible body) w in
      let none = or_parts (is_out l.env.config (lists.shebang n.shebang)) (is_out l.env.config body) o in
      let h = ((opened_prints l.env n.shebang n.body.items n.span (prints_wider loose refl prints_nothing)).where_possible (and_from (is_possible (lists.shebang n.shebang)) true both.0 refl) (ap (λ b. b || false) none.0) l.env.maps).writes in
      let last : Plan = trailing_comments true n.span.hi (last_semi rest) in
      subst (AllLeft n.body.items) (sym (left_then h (in_order (module_item l.asks l.items) n.body.items last))) (items_left n.body.items last (maps_after h.steps l.env.maps) both.1 none.1)

-- ---- as the calls say it

-- in lines and without, and whatever comes behind it
module_left_at : (n : Module AnyNode) (place : Place) (rest : Plan) (env : Env) → env.keeps_invalid ≡ false → is_well_formed (programs.Module n) ≡ true → is_out env.config (lists.whole_module phrase n) ≡ false → (place ≡ Whole Plain) ⊎ ((max : ℕ) × (place ≡ Whole (ByItself max))) → NoneBeforeItems n (maps_after (steps_of (unbounded (whole_module any_answers any_items n place) rest env)) env.maps)
unfolding lists.program whole_module with_max_line bounded in_lines begin_lines end_lines step steps_of maps_after after_step
module_left_at n place rest env e w o (inl h) =
    let P : Place → Type 0 = λ z. NoneBeforeItems n (maps_after (steps_of (unbounded (whole_module any_answers any_items n z) rest env)) env.maps) in
    subst P (sym h) (module_left (known (at_length None env) e) n (λ inner. rest (record inner { max_line = env.max_line })) w o)
module_left_at n place rest env e w o (inr h) =
    let P : Place → Type 0 = λ z. NoneBeforeItems n (maps_after (steps_of (unbounded (whole_module any_answers any_items n z) rest env)) env.maps) in
    subst P (sym h.1) (module_left (known (at_length (Some h.0) env) e) n (λ inner. end_lines (λ more. rest (record more { max_line = env.max_line })) (record inner { max_line = None })) w o)

followed_left : (n : Module AnyNode) (a b : State) (r : Result (Unit {0}) Refusal) → is_well_formed (programs.Module n) ≡ true → a.env.keeps_invalid ≡ false → Follows (by_itself (whole_module any_answers any_items n) nothing) a b r → OnOk r (NoneBeforeItems n b.env.maps)
unfolding lists.program by_itself
followed_left n a b (Ok u) w e h =
    subst (NoneBeforeItems n) (sym (maps_followed _ a b (Ok tt) h)) (module_left_at n (alone a.env) nothing a.env e w (root_in_target (OfModule n) a b w e h) (alone_or a.env))
followed_left n a b (Err x) w e h = tt

module_leaves : (n : Module AnyNode) (a b : State) (r : Outcome) → is_well_formed (programs.Module n) ≡ true → a.env.keeps_invalid ≡ false → Follows (by_itself (whole_module any_answers any_items n) nothing) a b (in_short r) → OnOk r (NoneBeforeItems n b.env.maps)
module_leaves n a b r w e h = on_ok_in_short _ r (followed_left n a b (in_short r) w e h)

none_left : (r : Outcome) → OnOk r ⊤
none_left (Ok u) = tt
none_left (Err x) = tt

pub root_leaves : (n : Root) (a b : State) (r : Outcome) → Follows (root_items n nothing) a b (in_short r) → LeavesNone n a b r
unfolding program
root_leaves (OfModule n) a b r h = λ w e. module_leaves n a b r w e h
root_leaves (OfProgram (programs.Module n)) a b r h = λ w e. module_leaves n a b r w e h
root_leaves (OfProgram (programs.Script n)) a b r h = λ w e. none_left r
root_leaves (OfScript n) a b r h = λ w e. none_left r
root_leaves (OfItem n) a b r h = λ w e. none_left r
root_leaves (OfStmt n) a b r h = λ w e. none_left r
root_leaves (OfExpr n) a b r h = λ w e. none_left r
root_leaves (OfLink n role) a b r h = λ w e. none_left r
