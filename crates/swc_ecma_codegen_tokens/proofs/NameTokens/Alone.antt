-- A name that is a text alone: nothing comes of its comments, its position, or a semicolon before it.
use Rattle.std.proofs.Common.{◌≡◌, true, false, List, ℕ, Option, Some, None, Result, Ok, Err, refl, sym, ap}
use Rattle.std.specs.Prelude.{is_some}
use Rattle.swc_ecma_codegen_common.specs.declared.errors.Refusal.{Refusal}
use Rattle.swc_ecma_codegen_common.specs.declared.positions.Span.{Span}
use Rattle.swc_ecma_codegen_grammar.specs.CommentMaps.{Maps}
use Rattle.swc_ecma_codegen_grammar.specs.Comments.{maps_in}
use Rattle.swc_ecma_codegen_text_writer.specs.Sheet.{Commit, is_settled}
use Rattle.swc_ecma_codegen_text_writer.proofs.AsStrings.{commit_is}
use Rattle.swc_ecma_codegen_tokens.specs.Run.{Plan, Part, State, Plain, Follows, Does, DoesTaking, with_source, put, after_plain}
use Rattle.swc_ecma_codegen_tokens.specs.Words.{name, name_text, question, commit_pending_semi, start_of}
use Rattle.swc_ecma_codegen_tokens.proofs.Commenting.NoComments.{idle, leading_at}
use Rattle.swc_ecma_codegen_tokens.proofs.Emission.NoPositions.{unkept_position}

-- two parts in order
pub both : (p q : Part) (a m b : State) (r : Result (Unit {0}) Refusal) → Does p a m (Ok tt) → Does q m b r → Does (λ rest. p (q rest)) a b r
both p q a m b (Ok u) h k = λ lines maps rest c r f. h lines maps (q rest) c r (k lines maps rest c r f)
both p q a m b (Err e) h k = λ lines maps rest. h lines maps (q rest) _ (Err e) (k lines maps rest)

-- where no semicolon is held none is written
settled_same : (a : State) → is_settled a.sheet.semicolons ≡ true → put (Plain Commit) a ≡ a
unfolding put after_plain
settled_same a h = sym (ap (λ z. record a { sheet = z }) (commit_is a.sheet h))

pub silent_commit : (rest : Plan) (a c : State) (r : Result (Unit {0}) Refusal) → is_settled a.sheet.semicolons ≡ true → Follows rest a c r → Follows (commit_pending_semi rest) a c r
unfolding commit_pending_semi
silent_commit rest a c r h f = idle a.failed (Plain Commit) rest a c r refl (settled_same a h) f

-- a part behind a position that isn't kept
pub unplaced : (span : Span) (part : Part) (a b : State) (r : Result (Unit {0}) Refusal) → a.sheet.keeps_positions ≡ false → Does part a b r → Does (λ rest. start_of span (part rest)) a b r
unfolding with_source
unplaced span part a b (Ok u) none h = λ lines maps rest c r f. unkept_position span.lo (part rest) (with_source lines maps a) c r none (h lines maps rest c r f)
unplaced span part a b (Err e) none h = λ lines maps rest. unkept_position span.lo (part rest) (with_source lines maps a) (with_source lines maps b) (Err e) none (h lines maps rest)

pub alone : {C : Type 0} (m : C → Maps) (notes : Option C) (span : Span) (t : List ℕ) (a b : State) (r : Result (Unit {0}) Refusal) → is_some ((maps_in m notes).leading span.lo.0) ≡ false → is_settled a.sheet.semicolons ≡ true → Does (name_text span t) a b r
    → DoesTaking (name span t false) (maps_in m notes) (maps_in m notes) a b r
unfolding with_source name question
alone m notes span t a b (Ok u) bare settled h = λ lines rest c r f.
    let maps : Maps = maps_in m notes in
    leading_at span.lo (commit_pending_semi (name_text span t rest)) (with_source lines maps a) c r bare
    (silent_commit (name_text span t rest) (with_source lines maps a) c r settled (h lines maps rest c r f))
alone m notes span t a b (Err e) bare settled h = λ lines rest.
    let maps : Maps = maps_in m notes in
    leading_at span.lo (commit_pending_semi (name_text span t rest)) (with_source lines maps a) (with_source lines maps b) (Err e) bare
    (silent_commit (name_text span t rest) (with_source lines maps a) (with_source lines maps b) (Err e) settled (h lines maps rest))
