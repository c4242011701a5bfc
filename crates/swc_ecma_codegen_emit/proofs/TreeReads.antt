-- What an emission of a root does: a lemma a clause.
use Rattle.std.proofs.Common.{◌≡◌, ℕ, Bool, true, false, not, cond, if◌then◌else◌, List, refl, sym, ap, ◌∙◌, subst, inl, inr, Some, None, Result, Ok, Err, OnOk}
use Rattle.std.proofs.lemmas.Bool.{not-false, true≢false}
use Rattle.swc_ecma_codegen_common.specs.declared.errors.Error.{Error}
use Rattle.swc_ecma_codegen_common.specs.Refusals.{in_short}
use Rattle.swc_ecma_codegen_tree.specs.declared.links.AnyNode.{AnyNode}
use Rattle.swc_ecma_codegen_tree.specs.declared.exprs.Tpl.{Tpl}
use Rattle.swc_ecma_codegen_tree.specs.declared.modules.ImportDecl.{ImportDecl}
use Rattle.swc_ecma_codegen_grammar.specs.TemplatePhrases.{is_counted}
use Rattle.swc_ecma_codegen_settings.specs.declared.config.Config.{Config}
use Rattle.swc_ecma_codegen_text_writer.specs.View.{new_sheet}
use Rattle.swc_ecma_codegen_common.specs.declared.errors.Refusal.TheVariants as refusals
use Rattle.swc_ecma_codegen_tokens.specs.declared.refusals.Unprintable.TheVariants.{BadShape, NameOutOfTarget}
use Rattle.swc_ecma_codegen_grammar.specs.SourceLines.{Lines}
use Rattle.swc_ecma_codegen_grammar.specs.CommentMaps.{Maps}
use Rattle.swc_ecma_codegen_grammar.specs.Comments.{AreClosed, texts_of}
use Rattle.swc_ecma_codegen_common.specs.declared.errors.Refusal.{Refusal}
use Rattle.swc_ecma_codegen_tokens.specs.Run.{Env, is_bounded, Plan, Part, State, refuse, refused, nothing, Follows, start, makes_text, maps_after, taken_in, spoken, steps_of, steps_in, unprintable_in}
use Rattle.swc_ecma_codegen_tokens.specs.Targets.{is_out}
use Rattle.swc_ecma_codegen_tokens.specs.Escapes.{may_make_text}
use Rattle.swc_ecma_codegen_tokens.specs.Named.{RecordsNames, PlacesNames}
use Rattle.swc_ecma_codegen_literals.specs.AsciiNames.{is_ascii_text}
use Rattle.swc_ecma_codegen_tokens.specs.Ascii.{other_texts, may_keep_other, AddsAscii, WantsAscii}
use Rattle.swc_ecma_codegen_tokens.specs.Scripts.{value_strings, AddsSafe}
use Rattle.swc_ecma_codegen_tokens.proofs.Emission.AsciiTexts.{printed_ascii, printed_keeps, none_other}
use Rattle.swc_ecma_codegen_tokens.proofs.LiteralTokens.ScriptTexts.{printed_safe}
use Rattle.swc_ecma_codegen_text_writer.specs.Recorded.{RecordsTruly}
use Rattle.swc_ecma_codegen_grammar.specs.Phrases.{names_in}
use Rattle.swc_ecma_codegen_text_writer.specs.Sheet.{Flowing, HoldsNone, fills_lines}
use Rattle.swc_ecma_codegen_tokens.specs.Written.{IsAtMargin, IsLineEnd, IsNew, AddsReading, taken_remarks, all_indent, is_indent, holds_one}
use Rattle.swc_ecma_codegen_tokens.proofs.Emission.Short.{on_ok_in_short}
use Rattle.swc_ecma_codegen_tokens.proofs.Reading.Phrased.{made_not_out, printed_reads, printed_tells, printed_remakes, printed_names, printed_places, follows_records, PrintsAt}
use Rattle.swc_ecma_codegen_tokens.proofs.Emission.Made.{printable, run_env}
use Rattle.swc_ecma_codegen_emit.specs.Emission.{Outcome, AddsOnlyAscii, AddsSafeStrings, FillsItsLines, PlacesEachName, ReadsAsRoot, RecordsEachName, TakesComments, WritesTaken}
use Rattle.swc_ecma_codegen_emit.specs.Modules.{is_crowded, import_parts, import_decl}
use Rattle.swc_ecma_codegen_emit.specs.Templates.{tpl_placed, bad_shape, tpl}
use Rattle.swc_ecma_codegen_emit.specs.Tree.{any_items}
use Rattle.swc_ecma_codegen_emit.specs.Roots.{Root, is_program, root_at, root_items, root_phrase, is_well_formed_root, root_hashbang, MayBegin}
use Rattle.swc_ecma_codegen_emit.specs.Lined.{CanFill, FillsLinesOf}
use Rattle.swc_ecma_codegen_emit.proofs.ByItself.{Stands, alone_at, bounded_at, program_in, root_prints, root_shape, root_stands}
use Rattle.swc_ecma_codegen_emit.proofs.InLines.{Ends, ends_so, goes_in_target, goes_out_of_target, goes_shaped, goes_supported, lines_ascii, lines_fill, lines_keep, lines_names, lines_not_out, lines_out, lines_place, lines_printable, lines_read, lines_safe, lines_tell}

-- a root, whatever refers to it
pub stands : (n : Root) (p : Part) (env : Env) → env.keeps_invalid ≡ false → p ≡ root_items n → Stands n env p
stands n p env e same = subst (Stands n env) (sym same) (root_stands env e n)

-- the settings leave its lines as they are
pub stands_plain : (n : Root) (p : Part) (env : Env) → env.keeps_invalid ≡ false → is_bounded env ≡ false → p ≡ root_items n → PrintsAt (root_shape n) env p (root_phrase n)
stands_plain n p env e b same = subst (λ z. PrintsAt (root_shape n) env z (root_phrase n)) (sym same) (root_prints env e n b)

abbrev margin : (n : Root) (a : State) → MayBegin n a → not (root_hashbang n) ≡ false → IsAtMargin a
margin n a s e = s.at_margin (not-false (root_hashbang n) e)

stands_not_out : (n : Root) (p : Part) (env : Env) → Stands n env p → is_well_formed_root n ≡ true → unprintable_in (p nothing env) ≡ None → is_out env.config (root_phrase n) ≡ false
stands_not_out n p env (inl h) w k = made_not_out p (root_phrase n) env h w k
stands_not_out n p env (inr h) w k = lines_not_out p (root_phrase n) env h.1 w k

stands_end : (n : Root) (p : Part) (env : Env) → Stands n env p → is_well_formed_root n ≡ true → Ends env p (root_phrase n)
stands_end n p env (inl h) w = record { printable = printable p (root_phrase n) env h w; out = λ o. h.where_out w o env.maps nothing }
stands_end n p env (inr h) w = record { printable = lines_printable p (root_phrase n) env h.1 w; out = lines_out p (root_phrase n) env h.1 w }

root_end : (n : Root) (env : Env) → env.keeps_invalid ≡ false → is_well_formed_root n ≡ true → Ends env (root_items n) (root_phrase n)
root_end n env e w = stands_end n (root_items n) env (root_stands env e n) w

pub stands_read : (n : Root) (p : Part) (a b : State) (r : Result (Unit {0}) Refusal) → Stands n a.env p → is_well_formed_root n ≡ true → MayBegin n a → AreClosed a.env.maps → Follows (p nothing) a b r → OnOk r (AddsReading a.env.config (root_phrase n) (taken_remarks p a.env) a.sheet b.sheet)
stands_read n p a b r (inl h) w s closed k = printed_reads (not (root_hashbang n)) p (root_phrase n) a b r s.is_new (margin n a s) closed h w k
stands_read n p a b r (inr h) w s closed k = lines_read (not (root_hashbang n)) p (root_phrase n) a b h.1 w s.is_new (s.flows h.0) (margin n a s) closed r k

pub root_reads : (n : Root) (a b : State) (r : Outcome) → Follows (root_items n nothing) a b (in_short r) → ReadsAsRoot n a b r
root_reads n a b r h = λ w s closed. on_ok_in_short _ r (stands_read n (root_items n) a b (in_short r) (root_stands a.env s.is_new.leaves_out n) w s closed h)

-- what is written of what refers to a root is what is written of that
pub as_root : (n : Root) (p : Part) (a b : State) (r : Outcome) → p ≡ root_items n → Follows (p nothing) a b (in_short r) → Follows (root_items n nothing) a b (in_short r)
as_root n p a b r same h = subst (λ z. Follows (z nothing) a b (in_short r)) same h

-- what begins with no hashbang may stand anywhere
pub may_begin : (n : Root) (a : State) → root_hashbang n ≡ false → a.sheet.lines ≡ Flowing → IsNew a → MayBegin n a
may_begin n a h flows s = record { is_new = s; flows = λ whole. flows; at_margin = λ e. absurd (true≢false (sym e ∙ h)) }

pub maps_followed : (p : Plan) (a b : State) (r : Result (Unit {0}) Refusal) → Follows p a b r → OnOk r (b.env.maps ≡ maps_after (steps_of (p a.env)) a.env.maps)
unfolding Follows
maps_followed p a b (Ok u) h = ap (λ (s : State). s.env.maps) h.1 ∙ ap (λ (e : Env). e.maps) (run_env _ a)
maps_followed p a b (Err e) h = tt

-- what is gone from the maps is what was taken
pub steps_taken : (p : Part) (a b : State) (r : Outcome) → Follows (p nothing) a b (in_short r) → TakesComments p a b r
steps_taken p a b r h = on_ok_in_short _ r (maps_followed (p nothing) a b (in_short r) h)

pub root_taken : (n : Root) (a b : State) (r : Outcome) → Follows (root_items n nothing) a b (in_short r) → TakesComments (root_items n) a b r
root_taken n a b r h = steps_taken (root_items n) a b r h

-- each of them is written once, in order of taking
stands_tell : (n : Root) (p : Part) (env : Env) → Stands n env p → is_well_formed_root n ≡ true → is_out env.config (root_phrase n) ≡ false → spoken (steps_of (p nothing env)) ≡ texts_of (taken_in (steps_of (p nothing env)) env.maps)
stands_tell n p env (inl h) w o = printed_tells p (root_phrase n) env h w o
stands_tell n p env (inr h) w o = lines_tell p (root_phrase n) env h.1 w o

-- what is recorded is true
pub steps_recorded : (p : Plan) (a b : State) (r : Result (Unit {0}) Error) → Follows p a b (in_short r) → OnOk r (RecordsTruly a.sheet b.sheet)
steps_recorded p a b r h = on_ok_in_short _ r (follows_records p a b (in_short r) h)

pub stands_name : (n : Root) (p : Part) (a b : State) (r : Result (Unit {0}) Refusal) → Stands n a.env p → is_well_formed_root n ≡ true → a.sheet.keeps_positions ≡ true → fills_lines a.sheet.lines ≡ false → (is_program n ≡ true → is_bounded a.env ≡ true → CanFill a) → Follows (p nothing) a b r → OnOk r (RecordsNames a.env.config (names_in (root_phrase n)) a.sheet b.sheet)
stands_name n p a b r (inl h) w k flows fill f = printed_names p (root_phrase n) a b r h w k flows f
stands_name n p a b r (inr h) w k flows fill f = let can = fill h.0 h.1.bounded in lines_names p (root_phrase n) a b h.1 w r k can.flows can.line_end f

-- where positions are kept, each name has its own where it begins
pub root_names : (n : Root) (a b : State) (r : Outcome) → Follows (root_items n nothing) a b (in_short r) → RecordsEachName n a b r
root_names n a b r h = λ w k e flows fill. on_ok_in_short _ r (stands_name n (root_items n) a b (in_short r) (root_stands a.env e n) w k flows fill h)

stands_place : (n : Root) (p : Part) (a b : State) (r : Result (Unit {0}) Refusal) → Stands n a.env p → is_well_formed_root n ≡ true → MayBegin n a → AreClosed a.env.maps → a.sheet.keeps_positions ≡ true → Follows (p nothing) a b r → OnOk r (PlacesNames a.env.config (root_phrase n) (taken_remarks p a.env) a.sheet b.sheet)
stands_place n p a b r (inl h) w s closed k f = printed_places (not (root_hashbang n)) p (root_phrase n) a b r s.is_new (margin n a s) closed h w k f
stands_place n p a b r (inr h) w s closed k f = lines_place (not (root_hashbang n)) p (root_phrase n) a b h.1 w s.is_new (s.flows h.0) (margin n a s) closed r k f

-- of a new emitter, each name stands as its own token, with its position where it begins
pub root_places : (n : Root) (a b : State) (r : Outcome) → Follows (root_items n nothing) a b (in_short r) → PlacesEachName n a b r
root_places n a b r h = λ w s closed k. on_ok_in_short _ r (stands_place n (root_items n) a b (in_short r) (root_stands a.env s.is_new.leaves_out n) w s closed k h)

stands_ascii : (n : Root) (p : Part) (a b : State) (r : Result (Unit {0}) Refusal) → Stands n a.env p → is_well_formed_root n ≡ true → WantsAscii a → Follows (p nothing) a b r → OnOk r (AddsAscii (other_texts (steps_of (p nothing a.env))) a.sheet.text b.sheet.text)
stands_ascii n p a b r (inl h) w s k = printed_ascii p (root_phrase n) a b r h w s k
stands_ascii n p a b r (inr h) w s k = lines_ascii p (root_phrase n) a b h.1 w r s k

-- under ASCII only what is added is ASCII, save what stands as it is
pub root_ascii : (n : Root) (a b : State) (r : Outcome) → Follows (root_items n nothing) a b (in_short r) → AddsOnlyAscii n a b r
root_ascii n a b r h = λ w s. on_ok_in_short _ r (stands_ascii n (root_items n) a b (in_short r) (root_stands a.env s.leaves_out n) w s h)

stands_safe : (n : Root) (p : Part) (a b : State) (r : Result (Unit {0}) Refusal) → Stands n a.env p → is_well_formed_root n ≡ true → a.env.config.inline_script ≡ true → fills_lines a.sheet.lines ≡ false → Follows (p nothing) a b r → OnOk r (AddsSafe (value_strings (steps_of (p nothing a.env))) a.sheet.text b.sheet.text)
stands_safe n p a b r (inl h) w i flows k = printed_safe p (root_phrase n) a b r h w i flows k
stands_safe n p a b r (inr h) w i flows k = lines_safe p (root_phrase n) a b h.1 w r i flows k

-- under `inline_script` each string that is printed by its value is safe inside a script
pub root_safe : (n : Root) (a b : State) (r : Outcome) → Follows (root_items n nothing) a b (in_short r) → AddsSafeStrings n a b r
root_safe n a b r h = λ w i e flows. on_ok_in_short _ r (stands_safe n (root_items n) a b (in_short r) (root_stands a.env e n) w i flows h)

-- where lines are bounded, those of a module or script are filled
fill : (n : Root) (a b : State) (r : Result (Unit {0}) Refusal) (max : ℕ) → is_program n ≡ true → is_well_formed_root n ≡ true → a.env.config.minify ≡ true → a.env.max_line ≡ Some max → a.env.keeps_invalid ≡ false → CanFill a → Follows (root_items n nothing) a b r → OnOk r (FillsLinesOf max (root_at n) a b.sheet)
unfolding program_in
fill n a b r max whole w m l e can k =
    let here = program_in a.env max e n whole (bounded_at a.env max m l) (alone_at a.env max m l) in
    lines_fill (root_items n) (root_phrase n) a b here w r can.flows can.line_end k

pub root_fills : (n : Root) (a b : State) (r : Outcome) → Follows (root_items n nothing) a b (in_short r) → FillsItsLines n a b r
root_fills n a b r h = λ max whole w m l e can. on_ok_in_short _ r (fill n a b (in_short r) max whole w m l e can h)

stands_keep : (n : Root) (p : Part) (env : Env) → Stands n env p → is_well_formed_root n ≡ true → is_out env.config (root_phrase n) ≡ false → may_keep_other (root_phrase n) ≡ false → other_texts (steps_of (p nothing env)) ≡ spoken (steps_of (p nothing env))
stands_keep n p env (inl h) w o none = none_other (steps_of (p nothing env)) (printed_keeps p (root_phrase n) env h w o none)
stands_keep n p env (inr h) w o none = lines_keep p (root_phrase n) env h.1 w o none

-- only texts of comments aren't ASCII, where no token is in the tree that stands as it is and isn't
pub root_keeps : (n : Root) (s : State) → is_well_formed_root n ≡ true → s.env.keeps_invalid ≡ false → is_out s.env.config (root_phrase n) ≡ false → may_keep_other (root_phrase n) ≡ false → other_texts (steps_of (steps_in (root_items n) s)) ≡ spoken (steps_of (steps_in (root_items n) s))
root_keeps n s w e o none = stands_keep n (root_items n) s.env (root_stands s.env e n) w o none

-- a new emitter over a new writer
pub new_wants_ascii : (lines : Lines) (maps : Maps) (config : Config) (bytes line_end : List ℕ) → config.ascii_only ≡ true → IsLineEnd line_end → WantsAscii (start lines maps config (new_sheet bytes line_end))
new_wants_ascii lines maps config bytes line_end e (inl h) = record { by_settings = e; leaves_out = refl; indent_text = refl; line_end = ap is_ascii_text h; flowing = refl }
new_wants_ascii lines maps config bytes line_end e (inr h) = record { by_settings = e; leaves_out = refl; indent_text = refl; line_end = ap is_ascii_text h; flowing = refl }

-- no text is made anew where nothing of the tree may be, and no lines are bounded
pub root_remakes : (n : Root) (s : State) → is_well_formed_root n ≡ true → s.env.keeps_invalid ≡ false → is_bounded s.env ≡ false → may_make_text s.env.config (root_phrase n) ≡ false → makes_text (steps_of (steps_in (root_items n) s)) ≡ false
root_remakes n s w e b none = printed_remakes (root_items n) (root_phrase n) s.env (root_prints s.env e n b) w none

-- an emission comes to a node that can't be printed exactly where a name of the tree is out of the target
pub root_ends : (n : Root) (s : State) → is_well_formed_root n ≡ true → s.env.keeps_invalid ≡ false → unprintable_in (steps_in (root_items n) s) ≡ (if is_out s.env.config (root_phrase n) then Some NameOutOfTarget else None)
root_ends n s w e = ends_so (root_items n) (root_phrase n) s.env (root_end n s.env e w)

pub root_in_target : (n : Root) (a b : State) → is_well_formed_root n ≡ true → a.env.keeps_invalid ≡ false → Follows (root_items n nothing) a b (Ok tt) → is_out a.env.config (root_phrase n) ≡ false
root_in_target n a b w e h = goes_in_target (root_items n) (root_phrase n) a b (root_end n a.env e w) h

pub root_out_of_target : (n : Root) (a b : State) → is_well_formed_root n ≡ true → a.env.keeps_invalid ≡ false → Follows (root_items n nothing) a b (Err refusals.NameOutOfTarget) → is_out a.env.config (root_phrase n) ≡ true
root_out_of_target n a b w e h = goes_out_of_target (root_items n) (root_phrase n) a b (root_end n a.env e w) h

-- it comes to no other node that can't be printed
pub root_shaped : (n : Root) (a b : State) → is_well_formed_root n ≡ true → a.env.keeps_invalid ≡ false → Follows (root_items n nothing) a b (Err refusals.BadShape) → ⊥
root_shaped n a b w e h = goes_shaped (root_items n) (root_phrase n) a b (root_end n a.env e w) h

pub root_supported : (n : Root) (a b : State) → is_well_formed_root n ≡ true → a.env.keeps_invalid ≡ false → Follows (root_items n nothing) a b (Err refusals.UnsupportedNode) → ⊥
root_supported n a b w e h = goes_supported (root_items n) (root_phrase n) a b (root_end n a.env e w) h

-- a shape of which no text is written
pub crowded_refused : (n : ImportDecl AnyNode) (rest : Plan) (env : Env) → is_crowded n.specifiers.items ≡ true → import_decl any_items n rest env ≡ refused BadShape
unfolding import_decl bad_shape refuse
crowded_refused n rest env h = ap (λ b. cond b (bad_shape rest) (import_parts any_items n rest) env) h

pub uncounted_refused : (n : Tpl AnyNode) (tagged : Bool) (rest : Plan) (env : Env) → is_counted n.exprs.items n.quasis.items ≡ false → tpl any_items tagged n rest env ≡ refused BadShape
unfolding tpl bad_shape refuse
uncounted_refused n tagged rest env h = ap (λ b. cond b (tpl_placed any_items tagged n rest) (bad_shape rest) env) h

new_is_new : (lines : Lines) (maps : Maps) (config : Config) (bytes line_end : List ℕ) → IsLineEnd line_end → IsNew (start lines maps config (new_sheet bytes line_end))
unfolding all_indent is_indent holds_one
new_is_new lines maps config bytes line_end h = record { nothing_written = refl; nothing_held = refl; indent_text = refl; line_end = h; leaves_out = refl; flowing = refl }

indented_is_new : (lines : Lines) (maps : Maps) (config : Config) (bytes line_end indent : List ℕ) → IsLineEnd line_end → all_indent indent ≡ true → IsNew (start lines maps config (record (new_sheet bytes line_end) { indent_text = indent }))
unfolding holds_one
indented_is_new lines maps config bytes line_end indent h k = record { nothing_written = refl; nothing_held = refl; indent_text = k; line_end = h; leaves_out = refl; flowing = refl }

holding_is_new : (lines : Lines) (maps : Maps) (config : Config) (bytes line_end : List ℕ) → IsLineEnd line_end → IsNew (start lines maps config (record (new_sheet bytes line_end) { semicolons = HoldsNone }))
unfolding all_indent is_indent holds_one
holding_is_new lines maps config bytes line_end h = record { nothing_written = refl; nothing_held = refl; indent_text = refl; line_end = h; leaves_out = refl; flowing = refl }

-- what a new emitter over a new writer begins may be any root
pub new_begins : (n : Root) (lines : Lines) (maps : Maps) (config : Config) (bytes line_end : List ℕ) → IsLineEnd line_end → MayBegin n (start lines maps config (new_sheet bytes line_end))
new_begins n lines maps config bytes line_end h = record { is_new = new_is_new lines maps config bytes line_end h; flows = λ whole. refl; at_margin = λ e at. refl }

pub indented_begins : (n : Root) (lines : Lines) (maps : Maps) (config : Config) (bytes line_end indent : List ℕ) → IsLineEnd line_end → all_indent indent ≡ true → MayBegin n (start lines maps config (record (new_sheet bytes line_end) { indent_text = indent }))
indented_begins n lines maps config bytes line_end indent h k = record { is_new = indented_is_new lines maps config bytes line_end indent h k; flows = λ whole. refl; at_margin = λ e at. refl }

pub holding_begins : (n : Root) (lines : Lines) (maps : Maps) (config : Config) (bytes line_end : List ℕ) → IsLineEnd line_end → MayBegin n (start lines maps config (record (new_sheet bytes line_end) { semicolons = HoldsNone }))
holding_begins n lines maps config bytes line_end h = record { is_new = holding_is_new lines maps config bytes line_end h; flows = λ whole. refl; at_margin = λ e at. refl }

-- what an emission took it wrote, once, in order of taking
told : (n : Root) (a b : State) (r : Result (Unit {0}) Refusal) → is_well_formed_root n ≡ true → a.env.keeps_invalid ≡ false → Follows (root_items n nothing) a b r → OnOk r (spoken (steps_of (steps_in (root_items n) a)) ≡ texts_of (taken_in (steps_of (steps_in (root_items n) a)) a.env.maps))
unfolding Follows
told n a b (Ok u) w e h =
    let here = root_stands a.env e n in
    stands_tell n (root_items n) a.env here w (stands_not_out n (root_items n) a.env here w h.0)
told n a b (Err x) w e h = tt

pub root_told : (n : Root) (a b : State) (r : Outcome) → Follows (root_items n nothing) a b (in_short r) → WritesTaken n a r
root_told n a b r h = λ w e. on_ok_in_short _ r (told n a b (in_short r) w e h)
