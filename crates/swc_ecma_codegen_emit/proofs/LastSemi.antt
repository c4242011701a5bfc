-- A semicolon that is held back at the end of an emission, and is written then.
use Rattle.std.proofs.Common.{◌≡◌, ℕ, append_assoc, Bool, true, false, not, refl, sym, ap, ◌∙◌, subst, inl, inr, List, [], ◌∷◌, ◌++◌, None, Ok, append-nil, if◌then◌else◌}
use Rattle.std.proofs.lemmas.Bool.{not-false, cases_Bool}
use Rattle.std.proofs.lemmas.Str.{is_utf8-from_IsUtf8, IsUtf8-nil}
use Rattle.swc_ecma_codegen_settings.specs.declared.config.Config.{Config}
use Rattle.swc_ecma_codegen_text_writer.specs.Places.{Place, origin, after_text}
use Rattle.swc_ecma_codegen_text_writer.specs.Recorded.{RecordsTruly, StandIn, AreNew}
use Rattle.swc_ecma_codegen_text_writer.specs.Sheet.{Sheet, Pair, Commit, effect, settled, holds_semicolons, fills_lines}
use Rattle.swc_ecma_codegen_text_writer.proofs.Pairs.{records_trans, settled_records, records_refl}
use Rattle.swc_ecma_codegen_grammar.specs.Phrases.{PlacedName, names_in}
use Rattle.swc_ecma_codegen_grammar.specs.SourceLines.{Lines}
use Rattle.swc_ecma_codegen_grammar.specs.CommentMaps.{Maps}
use Rattle.swc_ecma_codegen_grammar.specs.Comments.{AreClosed, remarks_of}
use Rattle.swc_ecma_codegen_tokens.specs.Run.{Part, Plan, State, unlined, Step, Plain, nothing, step, run, put, start, steps_of, steps_in, printed, taken_in, taken_by, unprintable_in, Follows}
use Rattle.swc_ecma_codegen_tokens.specs.Named.{NamesStand, RecordsNames}
use Rattle.swc_ecma_codegen_tokens.specs.Targets.{written_as}
use Rattle.swc_ecma_codegen_tokens.specs.Words.{commit_pending_semi}
use Rattle.swc_ecma_codegen_tokens.specs.Written.{AddsReading, ReadsAs, taken_remarks, all_indent, is_indent, holds_one}
use Rattle.swc_ecma_codegen_tokens.proofs.Emission.Fronts.{run_append, run_whole}
use Rattle.swc_ecma_codegen_tokens.proofs.Emission.PartSteps.{steps_of_chain, steps_of_more}
use Rattle.swc_ecma_codegen_tokens.proofs.Reading.Phrased.{PrintsAt, before, prints_wider, steps_read, made_not_out, follows_records}
use Rattle.swc_ecma_codegen_tokens.proofs.Emission.Positions.{recorded_more}
use Rattle.swc_ecma_codegen_tokens.proofs.Reading.Printed.{env_after, writes_commit, remarks_both}
use Rattle.swc_ecma_codegen_tokens.proofs.Filling.Shapes.{unbroken_at, open_, join, is_within}
use Rattle.swc_ecma_codegen_emit.specs.Roots.{Root, is_program, root_items, root_phrase, is_well_formed_root, root_hashbang, MayBegin}
use Rattle.swc_ecma_codegen_emit.specs.Texts.{blank_sheet, held_by, placed_sheet, sheet_on, sheet_with, start_on, start_with, with_last}
use Rattle.swc_ecma_codegen_emit.specs.Lined.{CanFill}
use Rattle.swc_ecma_codegen_emit.proofs.ByItself.{Stands, root_shape}
use Rattle.swc_ecma_codegen_emit.proofs.InLines.{InLines, lines_settle}
use Rattle.swc_ecma_codegen_emit.proofs.TreeReads.{stands, stands_name, stands_read}

left_out : (config : Config) (s : Sheet) → config.omit_last_semi ≡ true → with_last config s ≡ s
unfolding with_last
left_out config s h = ap (λ b. if b then s else settled s) h

written_last : (config : Config) (s : Sheet) → config.omit_last_semi ≡ false → with_last config s ≡ settled s
unfolding with_last
written_last config s h = ap (λ b. if b then s else settled s) h

-- the call that writes it
abbrev last_step : List Step
last_step = Plain Commit ∷ []

after_last : (s : State) → (run last_step s).sheet ≡ settled s.sheet
unfolding run put effect
after_last s = refl

-- ---- what is recorded

last_records : (config : Config) (s : Sheet) → RecordsTruly s (with_last config s)
last_records config s =
    elim (cases_Bool config.omit_last_semi) [
      | inl left ↦ subst (RecordsTruly s) (sym (left_out config s left)) (records_refl s)
      | inr wanted ↦ subst (RecordsTruly s) (sym (written_last config s wanted)) (settled_records s)
    ]

part_records : (p : Part) (a : State) → unprintable_in (steps_in p a) ≡ None → RecordsTruly a.sheet (printed p a).sheet
unfolding Follows
part_records p a none = follows_records (p nothing) a (printed p a) (Ok tt) (none, refl)

pub records_with : (lines : Lines) (maps : Maps) (config : Config) (p : Part) → unprintable_in (steps_in p (start_with lines maps config)) ≡ None → RecordsTruly (held_by config.minify placed_sheet) (sheet_with lines maps config p)
records_with lines maps config p none =
    let a = start_with lines maps config in
    records_trans (held_by config.minify placed_sheet) (printed p a).sheet (sheet_with lines maps config p) (part_records p a none) (last_records config (printed p a).sheet)

-- the sheet on which a text is made, where positions are kept or not
abbrev pub first_sheet : Bool → Sheet
first_sheet true = placed_sheet
first_sheet false = blank_sheet

-- it had no text and no pairs before
no_pairs : (b : Bool) → (held_by b placed_sheet).pairs ≡ []
unfolding held_by
no_pairs true = refl
no_pairs false = refl

no_text : (keeps b : Bool) → (held_by b (first_sheet keeps)).text ≡ []
unfolding held_by
no_text true true = refl
no_text true false = refl
no_text false true = refl
no_text false false = refl

at_origin : (b : Bool) → (held_by b placed_sheet).place ≡ origin
unfolding held_by
at_origin true = refl
at_origin false = refl

pub stand_with : (b : Bool) (s : Sheet) → RecordsTruly (held_by b placed_sheet) s → StandIn origin s.text s.pairs
stand_with b s h =
    let text : s.text ≡ h.text = h.is_text ∙ ap (λ t. t ++ h.text) (no_text true b) in
    let pairs : s.pairs ≡ h.added = h.is_added ∙ ap (λ (t : List Pair). t ++ h.added) (no_pairs b) in
    subst (λ t. StandIn origin t s.pairs) (sym text) (subst (λ t. StandIn origin h.text t) (sym pairs) (subst (λ q. StandIn q h.text h.added) (at_origin b) h.are_true))

pub new_with : (b : Bool) (s : Sheet) → RecordsTruly (held_by b placed_sheet) s → AreNew [] s.pairs
new_with b s h =
    let pairs : s.pairs ≡ h.added = h.is_added ∙ ap (λ (t : List Pair). t ++ h.added) (no_pairs b) in
    subst (AreNew []) (sym pairs) (subst (λ t. AreNew t h.added) (no_pairs b) h.are_new)

-- ---- its bytes

last_whole : (config : Config) (s : State) → (with_last config s.sheet).whole ≡ s.sheet.whole
last_whole config s =
    elim (cases_Bool config.omit_last_semi) [
      | inl left ↦ ap (λ (z : Sheet). z.whole) (left_out config s.sheet left)
      | inr wanted ↦ ap (λ (z : Sheet). z.whole) (written_last config s.sheet wanted ∙ sym (after_last s)) ∙ run_whole last_step s
    ]

whole_at : (keeps b : Bool) → (held_by b (first_sheet keeps)).whole ≡ true
unfolding held_by
whole_at true true = is_utf8-from_IsUtf8 [] IsUtf8-nil
whole_at true false = is_utf8-from_IsUtf8 [] IsUtf8-nil
whole_at false true = is_utf8-from_IsUtf8 [] IsUtf8-nil
whole_at false false = is_utf8-from_IsUtf8 [] IsUtf8-nil

pub whole_on : (keeps : Bool) (lines : Lines) (maps : Maps) (config : Config) (p : Part) → (sheet_on (first_sheet keeps) lines maps config p).whole ≡ true
whole_on keeps lines maps config p =
    let a = start_on (first_sheet keeps) lines maps config in
    last_whole config (printed p a) ∙ run_whole (steps_of (steps_in p a)) a ∙ whole_at keeps config.minify

-- ---- what it reads as

-- nothing more may stand before or behind it
fits : (b : Bool) → is_within (join (unbroken_at b) open_) (unbroken_at b) ≡ true
fits true = refl
fits false = refl

plain_reads_last : (n : Root) (p : Part) (a : State) → PrintsAt (root_shape n) a.env p (root_phrase n) → is_well_formed_root n ≡ true → MayBegin n a → AreClosed a.env.maps → unprintable_in (p nothing a.env) ≡ None → AddsReading a.env.config (root_phrase n) (taken_remarks p a.env) a.sheet (with_last a.env.config (run (steps_of (p nothing a.env)) a).sheet)
unfolding nothing commit_pending_semi step steps_of taken_in taken_by remarks_of
plain_reads_last n p a prints w s closed none =
    let anywhere = not (root_hashbang n) in
    let margin = λ (e : anywhere ≡ false). s.at_margin (not-false (root_hashbang n) e) in
    let f = root_phrase n in
    let xs = steps_of (p nothing a.env) in
    let o = made_not_out p f a.env prints w none in
    elim (cases_Bool a.env.config.omit_last_semi) [
      | inl left ↦ subst (AddsReading a.env.config f (taken_remarks p a.env) a.sheet) (sym (left_out a.env.config (run xs a).sheet left)) (steps_read anywhere p f a s.is_new margin closed prints w o)
      | inr wanted ↦
          let q : Part = λ (rest : Plan). p (commit_pending_semi rest) in
          let more : PrintsAt (root_shape n) a.env q f = prints_wider (root_shape n) (fits anywhere) (before prints (writes_commit a.env)) in
          let h = (prints.where_possible w o a.env.maps).writes in
          let base : xs ≡ h.steps = ap steps_of (h.is_steps nothing) ∙ steps_of_chain h.steps in
          let all : steps_of (q nothing a.env) ≡ xs ++ last_step =
          ap steps_of (h.is_steps (commit_pending_semi nothing)) ∙ steps_of_more h.steps (commit_pending_semi nothing (env_after h.steps a.env)) ∙ ap (λ z. z ++ last_step) (sym base) in
          let read = subst (λ z. AddsReading a.env.config f (remarks_of (taken_in z a.env.maps)) a.sheet (run z a).sheet) all (steps_read anywhere q f a s.is_new margin closed more w o) in
          let remarks : remarks_of (taken_in (xs ++ last_step) a.env.maps) ≡ remarks_of (taken_in xs a.env.maps) = remarks_both xs last_step a.env ∙ append-nil _ in
          let end : (run (xs ++ last_step) a).sheet ≡ with_last a.env.config (run xs a).sheet =
          ap (λ (z : State). z.sheet) (run_append xs last_step a) ∙ after_last (run xs a) ∙ sym (written_last a.env.config (run xs a).sheet wanted) in
          subst (AddsReading a.env.config f (taken_remarks p a.env) a.sheet) end (subst (λ z. AddsReading a.env.config f z a.sheet (run (xs ++ last_step) a).sheet) remarks read)
    ]

-- in lines none is held back at the end but where the settings leave it out
lined_last : (n : Root) (p : Part) (a : State) → is_program n ≡ true → InLines (root_shape n) a.env p (root_phrase n) → is_well_formed_root n ≡ true → MayBegin n a → unprintable_in (p nothing a.env) ≡ None → with_last a.env.config (run (steps_of (p nothing a.env)) a).sheet ≡ (run (steps_of (p nothing a.env)) a).sheet
lined_last n p a whole h w s none =
    let b : State = run (steps_of (p nothing a.env)) a in
    elim (cases_Bool a.env.config.omit_last_semi) [
      | inl left ↦ left_out a.env.config b.sheet left
      | inr wanted ↦ written_last a.env.config b.sheet wanted ∙ lines_settle p (root_phrase n) a h w (s.flows whole) s.is_new.line_end none wanted
    ]

stands_reads_last : (n : Root) (p : Part) (a : State) → Stands n a.env p → is_well_formed_root n ≡ true → MayBegin n a → AreClosed a.env.maps → unprintable_in (p nothing a.env) ≡ None → AddsReading a.env.config (root_phrase n) (taken_remarks p a.env) a.sheet (with_last a.env.config (run (steps_of (p nothing a.env)) a).sheet)
unfolding Follows
stands_reads_last n p a (inl h) w s closed none = plain_reads_last n p a h w s closed none
stands_reads_last n p a (inr h) w s closed none =
    subst (AddsReading a.env.config (root_phrase n) (taken_remarks p a.env) a.sheet) (sym (lined_last n p a h.0 h.1 w s none))
    (stands_read n p a (run (steps_of (p nothing a.env)) a) (Ok tt) (inr h) w s closed (none, refl))

root_reads_last : (n : Root) (p : Part) (a : State) → p ≡ root_items n → is_well_formed_root n ≡ true → MayBegin n a → AreClosed a.env.maps → unprintable_in (p nothing a.env) ≡ None → AddsReading a.env.config (root_phrase n) (taken_remarks p a.env) a.sheet (with_last a.env.config (run (steps_of (p nothing a.env)) a).sheet)
root_reads_last n p a same w s closed none = stands_reads_last n p a (stands n p a.env s.is_new.leaves_out same) w s closed none

begins_by : (n : Root) (lines : Lines) (maps : Maps) (config : Config) (keeps b : Bool) → MayBegin n (start lines maps config (held_by b (first_sheet keeps)))
unfolding held_by all_indent is_indent holds_one
begins_by n lines maps config true true = record { is_new = record { nothing_written = refl; nothing_held = refl; indent_text = refl; line_end = inl refl; flowing = refl; leaves_out = refl }; flows = λ whole. refl; at_margin = λ hashbang line. refl }
begins_by n lines maps config true false = record { is_new = record { nothing_written = refl; nothing_held = refl; indent_text = refl; line_end = inl refl; flowing = refl; leaves_out = refl }; flows = λ whole. refl; at_margin = λ hashbang line. refl }
begins_by n lines maps config false true = record { is_new = record { nothing_written = refl; nothing_held = refl; indent_text = refl; line_end = inl refl; flowing = refl; leaves_out = refl }; flows = λ whole. refl; at_margin = λ hashbang line. refl }
begins_by n lines maps config false false = record { is_new = record { nothing_written = refl; nothing_held = refl; indent_text = refl; line_end = inl refl; flowing = refl; leaves_out = refl }; flows = λ whole. refl; at_margin = λ hashbang line. refl }

holds_by : (keeps b : Bool) → holds_semicolons (held_by b (first_sheet keeps)).semicolons ≡ b
unfolding held_by
holds_by true true = refl
holds_by true false = refl
holds_by false true = refl
holds_by false false = refl

pub code_reads_on : (keeps : Bool) (lines : Lines) (maps : Maps) (config : Config) (n : Root) (p : Part) → p ≡ root_items n → is_well_formed_root n ≡ true → AreClosed maps → unprintable_in (steps_in p (start_on (first_sheet keeps) lines maps config)) ≡ None → ReadsAs (unlined config) config.minify (root_phrase n) (taken_remarks p (start_on (first_sheet keeps) lines maps config).env) (sheet_on (first_sheet keeps) lines maps config p).text
unfolding with_last
code_reads_on keeps lines maps config n p same w closed none =
    let a = start_on (first_sheet keeps) lines maps config in
    let h = root_reads_last n p a same w (begins_by n lines maps config keeps config.minify) closed none in
    let added : (sheet_on (first_sheet keeps) lines maps config p).text ≡ h.added = h.is_added ∙ ap (λ t. t ++ h.added) (no_text keeps config.minify) in
    subst (λ t. ReadsAs (unlined config) config.minify (root_phrase n) (taken_remarks p a.env) t) (sym added) (subst (λ b. ReadsAs (unlined config) b (root_phrase n) (taken_remarks p a.env) h.added) (holds_by keeps config.minify) h.reading)

-- ---- names

-- names that stand in a text stand in a longer one, with more pairs
names_longer : (config : Config) (p : Place) (t u : List ℕ) (pairs more : List Pair) (xs : List PlacedName) → NamesStand config p t pairs xs → NamesStand config p (t ++ u) (pairs ++ more) xs
unfolding NamesStand
names_longer config p t u pairs more [] h = tt
names_longer config p t u pairs more (x ∷ xs) h =
    (h.0, h.1 ++ u, ap (λ z. z ++ u) h.2 ∙ append_assoc h.0 (written_as config x ++ h.1) u ∙ ap (λ z. h.0 ++ z) (append_assoc (written_as config x) h.1 u), recorded_more x.at (after_text h.0 p) pairs more h.3, names_longer config (after_text (written_as config x) (after_text h.0 p)) h.1 u pairs more xs h.4)

flows_by : (b : Bool) → fills_lines (held_by b placed_sheet).lines ≡ false
unfolding held_by
flows_by true = refl
flows_by false = refl

fills_by : (lines : Lines) (maps : Maps) (config : Config) (b : Bool) → CanFill (start lines maps config (held_by b placed_sheet))
unfolding held_by
fills_by lines maps config true = record { flows = refl; line_end = inl refl }
fills_by lines maps config false = record { flows = refl; line_end = inl refl }

keeps_by : (b : Bool) → (held_by b placed_sheet).keeps_positions ≡ true
unfolding held_by
keeps_by true = refl
keeps_by false = refl

leaves_by : (lines : Lines) (maps : Maps) (config : Config) (b : Bool) → (start lines maps config (held_by b placed_sheet)).env.keeps_invalid ≡ false
unfolding held_by
leaves_by lines maps config true = refl
leaves_by lines maps config false = refl

pub names_with : (lines : Lines) (maps : Maps) (config : Config) (n : Root) (p : Part) → p ≡ root_items n → is_well_formed_root n ≡ true → unprintable_in (steps_in p (start_with lines maps config)) ≡ None → NamesStand (unlined config) origin (sheet_with lines maps config p).text (sheet_with lines maps config p).pairs (names_in (root_phrase n))
unfolding Follows
names_with lines maps config n p same w none =
    let a = start_with lines maps config in
    let f = root_phrase n in
    let xs = names_in f in
    let here = stands n p a.env (leaves_by lines maps config config.minify) same in
    let h : RecordsNames (unlined config) xs a.sheet (printed p a).sheet = stands_name n p a (printed p a) (Ok tt) here w (keeps_by config.minify) (flows_by config.minify) (λ whole b. fills_by lines maps config config.minify) (none, refl) in
    let k = last_records config (printed p a).sheet in
    let s = sheet_with lines maps config p in
    let text : s.text ≡ h.text ++ k.text = k.is_text ∙ ap (λ z. z ++ k.text) (h.is_text ∙ ap (λ z. z ++ h.text) (no_text true config.minify)) in
    let stand = names_longer (unlined config) a.sheet.place h.text k.text (printed p a).sheet.pairs k.added xs h.stand in
    subst (λ z. NamesStand (unlined config) origin z s.pairs xs) (sym text) (subst (λ z. NamesStand (unlined config) origin (h.text ++ k.text) z xs) (sym k.is_added) (subst (λ q. NamesStand (unlined config) q (h.text ++ k.text) ((printed p a).sheet.pairs ++ k.added) xs) (at_origin config.minify) stand))
