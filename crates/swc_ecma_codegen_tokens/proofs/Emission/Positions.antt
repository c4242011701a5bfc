-- What an emission records: places that are true, and the position of each name where it begins.
use Rattle.std.proofs.Common.{◌≡◌, ℕ, Bool, true, false, cond, ◌||◌, ◌&&◌, ◌==◌, List, [], ◌∷◌, ◌++◌, append_assoc, append-nil, codes, arith, Some, None, refl, sym, ap, ◌∙◌, subst, inl, inr, not}
use Rattle.std.proofs.lemmas.Bool.{and_from, cases_Bool, or_cases, or_left, or_right, true≢false}
use Rattle.std.proofs.lemmas.Bool.Decides.{nat_tests}
use Rattle.std.specs.Str.{chars}
use Rattle.swc_ecma_codegen_common.specs.declared.positions.BytePos.{BytePos}
use Rattle.swc_ecma_codegen_spans.specs.Spans.{dummy_span}
use Rattle.swc_ecma_codegen_grammar.specs.declared.kinds.Kind.{Kind}
use Rattle.swc_ecma_codegen_grammar.specs.GapRules.{fuses, Separated}
use Rattle.swc_ecma_codegen_grammar.specs.Phrases.{PlacedName}
use Rattle.swc_ecma_codegen_settings.specs.declared.config.Config.{Config}
use Rattle.std.specs.List.{repeat}
use Rattle.swc_ecma_codegen_text_writer.proofs.Flows.{appended_leaves, appended_text, appended_pairs, appended_place, recorded_out}
use Rattle.swc_ecma_codegen_text_writer.specs.Places.{Place, after_text}
use Rattle.swc_ecma_codegen_text_writer.specs.Recorded.{RecordsTruly}
use Rattle.swc_ecma_codegen_text_writer.specs.Sheet.{Sheet, Pair, Segment, Cutting, Space, Comment, Symbol, Position, Commit, effect, has_pair, is_same_pair, pair_at, with_pair, appended, indented, recorded, pending_recorded, start_recorded, end_recorded, started, written, pointed, settled, fills_lines, is_recorded, recorded_by, noted}
use Rattle.swc_ecma_codegen_text_writer.proofs.Cuts.{LinesGoOn, NotedLast, appended_grows, recorded_last, on_then, pointed_on, started_on}
use Rattle.swc_ecma_codegen_text_writer.proofs.Pairs.{after_both, records_refl, records_trans, pointed_records, started_records, effect_records}
use Rattle.swc_ecma_codegen_text_writer.proofs.Sheets.{effect_keeps_positions}
use Rattle.swc_ecma_codegen_text_writer.proofs.Stays.{indented_stays, started_stays, pointed_stays, effect_fills}
use Rattle.swc_ecma_codegen_tokens.specs.Named.{IsRecorded, NamesStand, RecordsNames}
use Rattle.swc_ecma_codegen_tokens.specs.Run.{State, Step, Guard, Token, Plain, Ends, Remake, Take, CommentText, put, run}
use Rattle.swc_ecma_codegen_tokens.specs.Targets.{written_as}
use Rattle.swc_ecma_codegen_tokens.specs.Written.{holds_one}
use Rattle.swc_ecma_codegen_tokens.proofs.Emission.Fronts.{run_sheet}
use Rattle.swc_ecma_codegen_tokens.proofs.Filling.NamesCut.{CutsNames, NotesLast, cuts_none, cuts_one, cuts_then, notes_none, run_on}
use Rattle.swc_ecma_codegen_tokens.proofs.Emission.PendingSemi.{begun_sheet, written_semicolons, pointed_keeps, settled_none, unheld_settled}

-- ---- what is recorded is true

pub put_records : (x : Step) (a : State) → RecordsTruly a.sheet (put x a).sheet
unfolding put
put_records (Guard t) a = elim (fuses a.last (chars t)) as (λ b. RecordsTruly a.sheet (cond b (record a { sheet = effect Space a.sheet; last = Separated }) a).sheet) [ true ↦ effect_records Space a.sheet | false ↦ records_refl a.sheet ]
put_records (Token kind x) a = effect_records x a.sheet
put_records (Plain x) a = effect_records x a.sheet
put_records (Ends tokens x) a = effect_records x a.sheet
put_records (Remake due) a = records_refl a.sheet
put_records (Take side at) a = records_refl a.sheet
put_records (CommentText t) a = effect_records (Comment t) a.sheet

pub run_records : (xs : List Step) (a : State) → RecordsTruly a.sheet (run xs a).sheet
unfolding run
run_records [] a = records_refl a.sheet
run_records (x ∷ xs) a = records_trans _ _ _ (put_records x a) (run_records xs (put x a))

-- ---- pairs that stand there stay

pub has_more : (x : Pair) (ys zs : List Pair) → has_pair x ys ≡ true → has_pair x (ys ++ zs) ≡ true
unfolding has_pair
has_more x [] zs h = absurd (true≢false (sym h))
has_more x (y ∷ ys) zs h = elim (or_cases (is_same_pair x y) (has_pair x ys) h) [
  | inl e ↦ or_left (is_same_pair x y) (has_pair x (ys ++ zs)) e
  | inr e ↦ or_right (is_same_pair x y) (has_pair x (ys ++ zs)) (has_more x ys zs e)
]

same_pair : (x : Pair) → is_same_pair x x ≡ true
unfolding is_same_pair
same_pair x = grind (arith, nat_tests)

has_last : (x : Pair) (xs : List Pair) → has_pair x (xs ++ (x ∷ [])) ≡ true
unfolding has_pair
has_last x [] = or_left (is_same_pair x x) false (same_pair x)
has_last x (y ∷ ys) = or_right (is_same_pair x y) (has_pair x (ys ++ (x ∷ []))) (has_last x ys)

pub recorded_more : (pos : BytePos) (p : Place) (xs ys : List Pair) → IsRecorded pos p xs → IsRecorded pos p (xs ++ ys)
recorded_more pos p xs ys h = elim h [ inl e ↦ inl e | inr e ↦ inr (has_more (pair_at pos p) xs ys e) ]

pub is_none : (pos : BytePos) → (pos.0 == 0) ≡ true → pos.0 ≡ 0
is_none pos h = grind (arith, nat_tests)

-- a position that is recorded stands there
with_pair_has : (pos : BytePos) (p : Place) (xs : List Pair) → IsRecorded pos p (with_pair pos p xs)
unfolding with_pair
with_pair_has pos p xs =
    let stands : Bool = (pos.0 == 0) || has_pair (pair_at pos p) xs in
    let P : Bool → Type 0 = λ b. stands ≡ b → IsRecorded pos p (cond b xs (xs ++ (pair_at pos p ∷ []))) in
    (elim stands as P [
      | true ↦ λ h. elim (or_cases (pos.0 == 0) (has_pair (pair_at pos p) xs) h) [ inl e ↦ inl (is_none pos e) | inr e ↦ inr e ]
      | false ↦ λ h. inr (has_last (pair_at pos p) xs)
    ]) refl

noted_here : (pos : BytePos) (s : Sheet) → IsRecorded pos (noted pos s).place (noted pos s).pairs
unfolding noted
noted_here pos s = with_pair_has pos s.place s.pairs

recorded_has : (pos : BytePos) (s : Sheet) → s.keeps_positions ≡ true → fills_lines s.lines ≡ false → IsRecorded pos (recorded pos s).place (recorded pos s).pairs
recorded_has pos s k n =
    elim (cases_Bool (pos.0 == 0)) [
      | inl e ↦ inl (is_none pos e)
      | inr e ↦
          let i : is_recorded pos s ≡ true = λ j. k j && not (e j) in
          let c : cond (is_recorded pos s) (noted pos s) s ≡ noted pos s = ap (λ b. cond b (noted pos s) s) i in
          let p : (recorded pos s).place ≡ (noted pos s).place = recorded_out (λ z. z.place) (λ z l. refl) pos s n ∙ ap (λ (z : Sheet). z.place) c in
          let q : (recorded pos s).pairs ≡ (noted pos s).pairs = recorded_out (λ z. z.pairs) (λ z l. refl) pos s n ∙ ap (λ (z : Sheet). z.pairs) c in
          subst (λ (v : Place). IsRecorded pos v (recorded pos s).pairs) (sym p) (subst (λ (z : List Pair). IsRecorded pos (noted pos s).place z) (sym q) (noted_here pos s))
    ]

-- ---- a position before a text

pointed_first : (pos : BytePos) (s : Sheet) → s.keeps_positions ≡ true → s.at_line_start ≡ true → pointed pos s ≡ record s { pending = Some pos }
unfolding pointed
pointed_first pos s k e =
    ap (λ b. cond (b && s.at_line_start) (record s { pending = Some pos }) (recorded pos s)) k ∙ ap (λ b. cond b (record s { pending = Some pos }) (recorded pos s)) e

pointed_later : (pos : BytePos) (s : Sheet) → s.keeps_positions ≡ true → s.at_line_start ≡ false → pointed pos s ≡ recorded pos s
unfolding pointed
pointed_later pos s k e =
    ap (λ b. cond (b && s.at_line_start) (record s { pending = Some pos }) (recorded pos s)) k ∙ ap (λ b. cond b (record s { pending = Some pos }) (recorded pos s)) e

started_first : (s : Sheet) → s.at_line_start ≡ true → started s ≡ pending_recorded s.pending (begun_sheet s)
unfolding started begun_sheet
started_first s e = ap (λ b. cond b (pending_recorded s.pending (record (indented s.indentation s) { at_line_start = false })) s) e

started_later : (s : Sheet) → s.at_line_start ≡ false → started s ≡ s
unfolding started
started_later s e = ap (λ b. cond b (pending_recorded s.pending (record (indented s.indentation s) { at_line_start = false })) s) e

pub noted_first : (pos : BytePos) (s : Sheet) → s.keeps_positions ≡ true → s.at_line_start ≡ true → started (pointed pos s) ≡ recorded pos (record (begun_sheet (record s { pending = Some pos })) { pending = None })
unfolding pending_recorded
noted_first pos s k e = ap started (pointed_first pos s k e) ∙ started_first (record s { pending = Some pos }) e

pub noted_later : (pos : BytePos) (s : Sheet) → s.keeps_positions ≡ true → s.at_line_start ≡ false → started (pointed pos s) ≡ recorded pos s
noted_later pos s k e =
    started_later (pointed pos s) (pointed_keeps (λ z. z.at_line_start) (λ z x l. refl) (λ z x. refl) pos s ∙ e) ∙ pointed_later pos s k e

pub begun_keeps : (pos : BytePos) (s : Sheet) → (record (begun_sheet (record s { pending = Some pos })) { pending = None }).keeps_positions ≡ s.keeps_positions
unfolding begun_sheet indented
begun_keeps pos s = appended_leaves (λ z. z.keeps_positions) (λ z t p l. refl) (repeat s.indentation s.indent_text) (record s { pending = Some pos })

begun_fills : (pos : BytePos) (s : Sheet) → fills_lines (record (begun_sheet (record s { pending = Some pos })) { pending = None }).lines ≡ fills_lines s.lines
unfolding begun_sheet
begun_fills pos s = (indented_stays s.indentation (record s { pending = Some pos })).fills

-- what is written next has it where it begins, behind the indentation
pub noted_has : (pos : BytePos) (s : Sheet) → s.keeps_positions ≡ true → fills_lines s.lines ≡ false → IsRecorded pos (started (pointed pos s)).place (started (pointed pos s)).pairs
noted_has pos s k n =
    let P : Sheet → Type 0 = λ z. IsRecorded pos z.place z.pairs in
    elim (cases_Bool s.at_line_start) [
      | inl e ↦ subst P (sym (noted_first pos s k e)) (recorded_has pos (record (begun_sheet (record s { pending = Some pos })) { pending = None }) (begun_keeps pos s ∙ k) (begun_fills pos s ∙ n))
      | inr e ↦ subst P (sym (noted_later pos s k e)) (recorded_has pos s k n)
    ]

-- ---- names in a text

stand_later : (config : Config) (p : Place) (t u : List ℕ) (pairs : List Pair) (xs : List PlacedName) → NamesStand config (after_text t p) u pairs xs → NamesStand config p (t ++ u) pairs xs
unfolding NamesStand
stand_later config p t u pairs [] h = tt
stand_later config p t u pairs (x ∷ xs) h =
    let e : after_text h.0 (after_text t p) ≡ after_text (t ++ h.0) p = sym (after_both t h.0 p) in
    (t ++ h.0, h.1, ap (λ z. t ++ z) h.2 ∙ sym (append_assoc t h.0 (written_as config x ++ h.1)), subst (λ (q : Place). IsRecorded x.at q pairs) e h.3, subst (λ (q : Place). NamesStand config (after_text (written_as config x) q) h.1 pairs xs) e h.4)

-- names of a text, and then those of the text after it
stand_both : (config : Config) (p : Place) (t u : List ℕ) (pairs more : List Pair) (xs ys : List PlacedName) → NamesStand config p t pairs xs → NamesStand config (after_text t p) u (pairs ++ more) ys → NamesStand config p (t ++ u) (pairs ++ more) (xs ++ ys)
unfolding NamesStand
stand_both config p t u pairs more [] ys h k = stand_later config p t u (pairs ++ more) ys k
stand_both config p t u pairs more (x ∷ xs) ys h k =
    let q : Place = after_text (written_as config x) (after_text h.0 p) in
    let e : after_text t p ≡ after_text h.1 q = ap (λ z. after_text z p) h.2 ∙ after_both h.0 (written_as config x ++ h.1) p ∙ after_both (written_as config x) h.1 (after_text h.0 p) in
    (h.0, h.1 ++ u, ap (λ z. z ++ u) h.2 ∙ append_assoc h.0 (written_as config x ++ h.1) u ∙ ap (λ z. h.0 ++ z) (append_assoc (written_as config x) h.1 u), recorded_more x.at (after_text h.0 p) pairs more h.3, stand_both config q h.1 u pairs more xs ys h.4 (subst (λ (z : Place). NamesStand config z u (pairs ++ more) ys) e k))

-- From one sheet to another these names were written, with their positions, and further pairs were recorded.
pub record NamesWritten (config : Config) (names : List PlacedName) (a b : Sheet) : Type 0 where
  pub text : List ℕ
  pub is_text : b.text ≡ a.text ++ text
  pub added : List Pair
  pub is_added : b.pairs ≡ a.pairs ++ added
  pub place : b.place ≡ after_text text a.place
  pub stand : NamesStand config a.place text b.pairs names

written_none : (config : Config) (a b : Sheet) → RecordsTruly a b → NamesWritten config [] a b
unfolding NamesStand
written_none config a b h = record { text = h.text; is_text = h.is_text; added = h.added; is_added = h.is_added; place = h.place; stand = tt }

written_then : (config : Config) (xs ys : List PlacedName) (a b c : Sheet) → NamesWritten config xs a b → NamesWritten config ys b c → NamesWritten config (xs ++ ys) a c
written_then config xs ys a b c h k =
    let next : NamesStand config (after_text h.text a.place) k.text (b.pairs ++ k.added) ys =
    subst (λ (p : Place). NamesStand config p k.text (b.pairs ++ k.added) ys) h.place (subst (λ (z : List Pair). NamesStand config b.place k.text z ys) k.is_added k.stand) in
    record {
      text = h.text ++ k.text;
      is_text = k.is_text ∙ ap (λ z. z ++ k.text) h.is_text ∙ append_assoc a.text h.text k.text;
      added = h.added ++ k.added;
      is_added = k.is_added ∙ ap (λ z. z ++ k.added) h.is_added ∙ append_assoc a.pairs h.added k.added;
      place = k.place ∙ ap (after_text k.text) h.place ∙ sym (after_both h.text k.text a.place);
      stand = subst (λ (z : List Pair). NamesStand config a.place (h.text ++ k.text) z (xs ++ ys)) (sym k.is_added) (stand_both config a.place h.text k.text b.pairs k.added xs ys h.stand next);
    }

-- The same, and where the first sheet is cut they stand in its segments.
pub record Named (config : Config) (names : List PlacedName) (a b : Sheet) : Type 0 where
  pub written : NamesWritten config names a b
  pub cut : CutsNames config names a b

pub named_none : (config : Config) (a b : Sheet) → RecordsTruly a b → LinesGoOn a b → Named config [] a b
named_none config a b h f = record { written = written_none config a b h; cut = cuts_none config a b f }

pub named_then : (config : Config) (xs ys : List PlacedName) (a b c : Sheet) → Named config xs a b → Named config ys b c → Named config (xs ++ ys) a c
named_then config xs ys a b c h k = record { written = written_then config xs ys a b c h.written k.written; cut = cuts_then config xs ys a b c h.cut k.cut }

pub named_records : (config : Config) (xs : List PlacedName) (a b : Sheet) → Named config xs a b → RecordsNames config xs a b
named_records config xs a b h = record { text = h.written.text; is_text = h.written.is_text; stand = h.written.stand }

-- ---- one name

written_one : (config : Config) (x : PlacedName) (s : Sheet) → IsRecorded x.at s.place s.pairs → fills_lines s.lines ≡ false → NamesWritten config (x ∷ []) s (appended (written_as config x) s)
unfolding NamesStand after_text
written_one config x s h n = record {
  text = written_as config x;
  is_text = appended_text (written_as config x) s n;
  added = [];
  is_added = appended_pairs (written_as config x) s n ∙ sym (append-nil s.pairs);
  place = appended_place (written_as config x) s n;
  stand = ([], [], sym (append-nil (written_as config x)), subst (λ (z : List Pair). IsRecorded x.at s.place z) (sym (appended_pairs (written_as config x) s n)) h, tt);
}

recorded_none : (s : Sheet) → recorded dummy_span.lo s ≡ s
unfolding recorded
recorded_none s = elim s.keeps_positions as (λ b. cond (b && false) (recorded_by s.lines dummy_span.lo s) s ≡ s) [ true ↦ refl | false ↦ refl ]

written_plain : (t : List ℕ) (s : Sheet) → (t ≡ [] → ⊥) → written (Some dummy_span) t s ≡ appended t (started s)
unfolding written start_recorded end_recorded
written_plain [] s some = absurd (some refl)
written_plain (c ∷ cs) s some = recorded_none (appended (c ∷ cs) (recorded dummy_span.lo (started s))) ∙ ap (appended (c ∷ cs)) (recorded_none (started s))

-- a name by one call, where no semicolon is held back
pub symbol_sheet : (t : List ℕ) (s : Sheet) → (t ≡ [] → ⊥) → holds_one s.semicolons ≡ false → effect (Symbol dummy_span t) s ≡ appended t (started s)
unfolding effect
symbol_sheet t s some h = written_plain t (settled s) some ∙ ap (λ z. appended t (started z)) (unheld_settled s h)

symbol_written : (config : Config) (x : PlacedName) (s : Sheet) → (written_as config x ≡ [] → ⊥) → holds_one s.semicolons ≡ false → fills_lines s.lines ≡ false → IsRecorded x.at (started s).place (started s).pairs → NamesWritten config (x ∷ []) s (effect (Symbol dummy_span (written_as config x)) s)
symbol_written config x s some h n k =
    let t : List ℕ = written_as config x in
    subst (λ (z : Sheet). NamesWritten config (x ∷ []) s z) (sym (symbol_sheet t s some h))
    (written_then config [] (x ∷ []) s (started s) (appended t (started s)) (written_none config s (started s) (started_records s)) (written_one config x (started s) k ((started_stays s).fills ∙ n)))

-- in segments, where a position is noted before it
symbol_cut : (config : Config) (x : PlacedName) (a s : Sheet) → (written_as config x ≡ [] → ⊥) → holds_one s.semicolons ≡ false → LinesGoOn a (started s) → NotesLast x.at a (started s) → CutsNames config (x ∷ []) a (effect (Symbol dummy_span (written_as config x)) s)
symbol_cut config x a s some h f k = subst (λ (z : Sheet). CutsNames config (x ∷ []) a z) (sym (symbol_sheet (written_as config x) s some h)) (cuts_one config x a (started s) f k)

-- one without a position
symbol_named : (config : Config) (x : PlacedName) (s : Sheet) → (written_as config x ≡ [] → ⊥) → holds_one s.semicolons ≡ false → fills_lines s.lines ≡ false → x.at.0 ≡ 0 → Named config (x ∷ []) s (effect (Symbol dummy_span (written_as config x)) s)
symbol_named config x s some h n z = record {
  written = symbol_written config x s some h n (inl z);
  cut = symbol_cut config x s s some h (started_on s) (notes_none x.at s (started s) z (started_on s));
}

-- the same with its position before it
placed_written : (config : Config) (x : PlacedName) (s : Sheet) → (written_as config x ≡ [] → ⊥) → holds_one (pointed x.at s).semicolons ≡ false → fills_lines s.lines ≡ false → s.keeps_positions ≡ true → NamesWritten config (x ∷ []) s (effect (Symbol dummy_span (written_as config x)) (pointed x.at s))
placed_written config x s some h n k =
    written_then config [] (x ∷ []) s (pointed x.at s) _ (written_none config s (pointed x.at s) (pointed_records x.at s))
    (symbol_written config x (pointed x.at s) some h ((pointed_stays x.at s).fills ∙ n) (noted_has x.at s k n))

recorded_where : (pos : BytePos) (s : Sheet) → s.keeps_positions ≡ true → (pos.0 == 0) ≡ false → is_recorded pos s ≡ true
recorded_where pos s k n = and_from s.keeps_positions (not (pos.0 == 0)) k (ap not n)

-- behind it, where the line begins, it is noted at the end of the segment
pub noted_cut : (pos : BytePos) (s : Sheet) → s.keeps_positions ≡ true → (pos.0 == 0) ≡ false → (done : List Segment) (begun : Segment) → s.lines ≡ Cutting done begun → NotedLast pos done (started (pointed pos s)).lines
unfolding begun_sheet indented
noted_cut pos s k n done begun e =
    elim (cases_Bool s.at_line_start) [
      | inl f ↦
          let there : Sheet = record (begun_sheet (record s { pending = Some pos })) { pending = None } in
          let g = appended_grows (repeat s.indentation s.indent_text) (record s { pending = Some pos }) done begun e in
          subst (λ (z : Sheet). NotedLast pos done z.lines) (sym (noted_first pos s k f)) (recorded_last pos there (recorded_where pos there (begun_keeps pos s ∙ k) n) done g.held g.lines)
      | inr f ↦ subst (λ (z : Sheet). NotedLast pos done z.lines) (sym (noted_later pos s k f)) (recorded_last pos s (recorded_where pos s k n) done begun e)
    ]

placed_named : (config : Config) (x : PlacedName) (s : Sheet) → (written_as config x ≡ [] → ⊥) → holds_one s.semicolons ≡ false → fills_lines s.lines ≡ false → s.keeps_positions ≡ true → (x.at.0 == 0) ≡ false → Named config (x ∷ []) s (effect (Symbol dummy_span (written_as config x)) (pointed x.at s))
placed_named config x s some h n k z =
    let w : Sheet = pointed x.at s in
    let unheld : holds_one w.semicolons ≡ false = pointed_keeps (λ z. holds_one z.semicolons) (λ z y l. refl) (λ z y. refl) x.at s ∙ h in
    record {
      written = placed_written config x s some unheld n k;
      cut = symbol_cut config x s w some unheld (on_then s w (started w) (pointed_on x.at s) (started_on w)) (λ done begun e. let q = noted_cut x.at s k z done begun e in record { done = done; held = q.held; lines = q.lines; noted = inr q.note });
    }

-- ---- the steps of a name

-- the call of a name by a text, and its position before it
unfoldable pub name_call : Kind → Bool → BytePos → List ℕ → List Step
name_call kind b pos t = cond b (Token kind (Symbol dummy_span t) ∷ []) (Plain (Position pos) ∷ Token kind (Symbol dummy_span t) ∷ [])

-- where a name begins: what was held back is written, the text is made anew, twice where that is due, and the blank that is due
unfoldable pub before_name : Bool → Bool → List ℕ → List Step
before_name first second t = Plain Commit ∷ Remake first ∷ Remake second ∷ Guard t ∷ []

unfoldable pub name_steps : Bool → Bool → Kind → Bool → BytePos → List ℕ → List Step
name_steps first second kind b pos t = Plain Commit ∷ Remake first ∷ Remake second ∷ Guard t ∷ name_call kind b pos t

guard_unheld : (t : List ℕ) (a : State) → holds_one a.sheet.semicolons ≡ false → holds_one (put (Guard t) a).sheet.semicolons ≡ false
unfolding put effect
guard_unheld t a h =
    elim (fuses a.last (chars t)) as (λ b. holds_one (cond b (record a { sheet = effect Space a.sheet; last = Separated }) a).sheet.semicolons ≡ false)
    [ true ↦ ap holds_one (written_semicolons None (codes " ") (settled a.sheet)) ∙ settled_none a.sheet | false ↦ h ]

pub before_unheld : (first second : Bool) (t : List ℕ) (s : State) → holds_one (run (before_name first second t) s).sheet.semicolons ≡ false
unfolding before_name run put effect
before_unheld first second t s = guard_unheld t (put (Remake second) (put (Remake first) (put (Plain Commit) s))) (settled_none s.sheet)

guard_flows : (t : List ℕ) (a : State) → fills_lines a.sheet.lines ≡ false → fills_lines (put (Guard t) a).sheet.lines ≡ false
unfolding put
guard_flows t a h =
    elim (fuses a.last (chars t)) as (λ b. fills_lines (cond b (record a { sheet = effect Space a.sheet; last = Separated }) a).sheet.lines ≡ false) [ true ↦ effect_fills Space a.sheet refl ∙ h | false ↦ h ]

pub before_flows : (first second : Bool) (t : List ℕ) (s : State) → fills_lines s.sheet.lines ≡ false → fills_lines (run (before_name first second t) s).sheet.lines ≡ false
unfolding before_name run put
before_flows first second t s n = guard_flows t (put (Remake second) (put (Remake first) (put (Plain Commit) s))) (effect_fills Commit s.sheet refl ∙ n)

before_named : (config : Config) (first second : Bool) (t : List ℕ) (s : State) → Named config [] s.sheet (run (before_name first second t) s).sheet
before_named config first second t s = named_none config s.sheet _ (run_records (before_name first second t) s) (run_on (before_name first second t) s)

pub name_named : (config : Config) (first second : Bool) (kind : Kind) (b : Bool) (x : PlacedName) (s : State) → b ≡ (x.at.0 == 0) → (written_as config x ≡ [] → ⊥) → s.sheet.keeps_positions ≡ true → fills_lines s.sheet.lines ≡ false → Named config (x ∷ []) s.sheet (run (name_steps first second kind b x.at (written_as config x)) s).sheet
unfolding name_steps name_call before_name run put effect
name_named config first second kind true x s e some k n =
    let there : State = run (before_name first second (written_as config x)) s in
    named_then config [] (x ∷ []) s.sheet there.sheet _ (before_named config first second (written_as config x) s)
    (symbol_named config x there.sheet some (before_unheld first second (written_as config x) s) (before_flows first second (written_as config x) s n) (is_none x.at (sym e)))
name_named config first second kind false x s e some k n =
    let there : State = run (before_name first second (written_as config x)) s in
    named_then config [] (x ∷ []) s.sheet there.sheet _ (before_named config first second (written_as config x) s)
    (placed_named config x there.sheet some (before_unheld first second (written_as config x) s) (before_flows first second (written_as config x) s n) (run_sheet (λ z. z.keeps_positions) effect_keeps_positions (before_name first second (written_as config x)) s ∙ k) (sym e))
