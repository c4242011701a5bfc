-- Comments that are written one after another.
use Rattle.std.proofs.Common.{◌≡◌, ℕ, List, [], ◌∷◌, ◌+◌, ◌-◌, ◌<◌, ◌≤◌, length, get_or, drop, codes, sym, subst, true, false, cond, ◌==◌, refl, ap, ◌∙◌, Option, None, Some, Result, Ok, Err, Bool}
use Rattle.swc_ecma_codegen_common.specs.declared.errors.Refusal.{Refusal}
use Rattle.swc_ecma_codegen_common.specs.declared.errors.Refusal.TheVariants.{Failed}
use Rattle.swc_ecma_codegen_common.specs.declared.positions.BytePos.{BytePos}
use Rattle.swc_ecma_codegen_grammar.specs.CommentMaps.{Maps, without, without_leading, without_trailing}
use Rattle.swc_ecma_codegen_grammar.specs.SourceLines.{Lines}
use Rattle.swc_ecma_codegen_grammar.specs.declared.comments.Comment.{Comment}
use Rattle.swc_ecma_codegen_tokens.specs.Run.{Part, Plan, State, Plain, Take, put, DoesTaking, step, Does, Follows, with_source}
use Rattle.swc_ecma_codegen_tokens.specs.Words.{comment_blank, comment, comments, take_comments, leading_comments, trailing_comments, comments_before_end}
use Rattle.swc_ecma_codegen_grammar.specs.CommentMaps.{listed}
use Rattle.swc_ecma_codegen_grammar.specs.Comments.{Side, Leading, Trailing, maps_in, no_maps, comments_at, taken_out}
use Rattle.swc_ecma_codegen_tokens.proofs.Emission.Emitting.{follows_step, follows_same, emits_failed}
use Rattle.swc_ecma_codegen_text_writer.specs.Sheet as calls
use Rattle.swc_ecma_codegen_tokens.proofs.Emission.Calls.{skipped, not_skipped}
use Rattle.std.proofs.lemmas.Bool.{ne_eqb, true≢false}
use Rattle.std.proofs.lemmas.List.{drop_more, drop_all}

-- What goes on after those that are left, now, goes on after all of them, from the start.
abbrev pub Continues : Bool → List Comment → State → List Comment → State → Type 0
Continues prefix_space left now all begin = (lines : Lines) (maps : Maps) (rest : Plan) (c : State) (r : Result (Unit {0}) Refusal) → Follows (comments prefix_space left rest) (with_source lines maps now) c r → Follows (comments prefix_space all rest) (with_source lines maps begin) c r

pub next_comment : (prefix_space : Bool) (node : Comment) (left all : List Comment) (begin now then : State) → Continues prefix_space (node ∷ left) now all begin → Does (comment prefix_space node) now then (Ok tt) → Continues prefix_space left then all begin
unfolding comments
next_comment prefix_space node left all begin now then h k = λ lines maps rest c r f. h lines maps rest c r (k lines maps (comments prefix_space left rest) c r f)

pub stopped_comment : (prefix_space : Bool) (node : Comment) (left all : List Comment) (begin now end : State) (e : Refusal) → Continues prefix_space (node ∷ left) now all begin → Does (comment prefix_space node) now end (Err e) → Does (comments prefix_space all) begin end (Err e)
unfolding comments
stopped_comment prefix_space node left all begin now end e h k = λ lines maps rest. h lines maps rest (with_source lines maps end) (Err e) (k lines maps (comments prefix_space left rest))

pub all_comments : (prefix_space : Bool) (all : List Comment) (i : ℕ) (begin now : State) → length all ≤ i → Continues prefix_space (drop i all) now all begin → Does (comments prefix_space all) begin now (Ok tt)
unfolding comments
all_comments prefix_space all i begin now le h = let P : List Comment → Type 0 = λ z. Continues prefix_space z now all begin in subst P (drop_all i all le) h

-- the blank before one
pub no_blank : (wanted : Bool) (a : State) → wanted ≡ false → Does (comment_blank wanted) a a (Ok tt)
unfolding comment_blank
no_blank true a h = absurd (true≢false h)
no_blank false a h = λ lines maps rest c r f. f

pub skipped_blank : (wanted : Bool) (a : State) → a.env.config.minify ≡ true → Does (comment_blank wanted) a a (Ok tt)
unfolding comment_blank
skipped_blank true a h = skipped (step (Plain (calls.Comment (codes " ")))) a h
skipped_blank false a h = λ lines maps rest c r f. f

pub blank_written : (wanted : Bool) (a b : State) (r : Result (Unit {0}) Refusal) → wanted ≡ true → a.env.config.minify ≡ false → Does (step (Plain (calls.Comment (codes " ")))) a b r → Does (comment_blank wanted) a b r
unfolding comment_blank
blank_written true a b (Ok u) w h k = not_skipped (step (Plain (calls.Comment (codes " ")))) a b (Ok u) h k
blank_written true a b (Err e) w h k = not_skipped (step (Plain (calls.Comment (codes " ")))) a b (Err e) h k
blank_written false a b r w h k = absurd (true≢false (sym w))

-- the same, by where the loop stands
pub turned : (prefix_space : Bool) (all : List Comment) (i : ℕ) (node : Comment) (begin now : State) → i < length all → node ≡ get_or all i node → Continues prefix_space (drop i all) now all begin → Continues prefix_space (node ∷ drop (i + 1) all) now all begin
turned prefix_space all i node begin now h e k =
    let P : List Comment → Type 0 = λ z. Continues prefix_space z now all begin in
    let Q : Comment → Type 0 = λ z. Continues prefix_space (z ∷ drop (i + 1) all) now all begin in
    subst Q (sym e) (subst P (drop_more all i node h) k)

-- ---- comments that are taken

none_at : (at q : ℕ) → ◌≡◌ {A = Option (List Comment)} (cond (at == q) None None) None
none_at at q = elim (at == q) as (λ b. ◌≡◌ {A = Option (List Comment)} (cond b None None) None) [ true ↦ refl | false ↦ refl ]

-- where there are none, none is taken
pub none_taken : (side : Side) (at : ℕ) → taken_out side at no_maps ≡ no_maps
unfolding taken_out without_leading without_trailing without
none_taken Leading at = λ i. record { leading = λ q. none_at at q i; trailing = λ q. None }
none_taken Trailing at = λ i. record { leading = λ q. None; trailing = λ q. none_at at q i }

takes_written : (side : Side) (prefix_space : Bool) (at : ℕ) (before : Maps) (a b : State) (r : Result (Unit {0}) Refusal) → a.failed ≡ false → Does (comments prefix_space (comments_at side at before)) a b r → DoesTaking (take_comments side prefix_space at) before (taken_out side at before) a b r
unfolding take_comments with_source put step Follows
takes_written side prefix_space at before a b (Ok u) fresh h = λ lines rest c r f.
    let there : State = with_source lines before a in
    follows_same (take_comments side prefix_space at rest) (step (Take side at) (comments prefix_space (comments_at side at before) rest)) there c r refl
    (follows_step (Take side at) (comments prefix_space (comments_at side at before) rest) there c r fresh (h lines (taken_out side at before) rest c r f))
takes_written side prefix_space at before a b (Err e) fresh h = λ lines rest.
    let there : State = with_source lines before a in
    follows_same (take_comments side prefix_space at rest) (step (Take side at) (comments prefix_space (comments_at side at before) rest)) there (with_source lines (taken_out side at before) b) (Err e) refl
    (follows_step (Take side at) (comments prefix_space (comments_at side at before) rest) there (with_source lines (taken_out side at before) b) (Err e) fresh (h lines (taken_out side at before) rest))

pub taking_failed : (p : Part) (maps : Maps) (a : State) → a.failed ≡ true → DoesTaking p maps maps a a (Err Failed)
unfolding with_source
taking_failed p maps a h = λ lines rest. emits_failed (p rest) (with_source lines maps a) h

-- where the list is empty
pub none_written : (prefix_space : Bool) (a : State) → Does (comments prefix_space []) a a (Ok tt)
unfolding comments
none_written prefix_space a = λ lines maps rest c r f. f

-- by a position, unless it is none
pub leading_nowhere : (pos : BytePos) (maps : Maps) (a : State) → pos.0 ≡ 0 → DoesTaking (leading_comments pos) maps maps a a (Ok tt)
unfolding leading_comments
leading_nowhere pos maps a e = λ lines rest c r f. subst (λ b. Follows (cond b rest (take_comments Leading false pos.0 rest)) (with_source lines maps a) c r) (sym (ap (λ z. z == 0) e)) f

placed : (pos : BytePos) (before left : Maps) (a b : State) (r : Result (Unit {0}) Refusal) → (pos.0 == 0) ≡ false → DoesTaking (take_comments Leading false pos.0) before left a b r → DoesTaking (leading_comments pos) before left a b r
unfolding leading_comments
placed pos before left a b (Ok u) e h = λ lines rest c r f. subst (λ z. Follows (cond z rest (take_comments Leading false pos.0 rest)) (with_source lines before a) c r) (sym e) (h lines rest c r f)
placed pos before left a b (Err x) e h = λ lines rest. subst (λ z. Follows (cond z rest (take_comments Leading false pos.0 rest)) (with_source lines before a) (with_source lines left b) (Err x)) (sym e) (h lines rest)

pub leading_taken : (pos : BytePos) (cs : List Comment) (before left : Maps) (a b : State) (r : Result (Unit {0}) Refusal) → (pos.0 == 0) ≡ false → a.failed ≡ false → cs ≡ comments_at Leading pos.0 before → left ≡ taken_out Leading pos.0 before → Does (comments false cs) a b r → DoesTaking (leading_comments pos) before left a b r
leading_taken pos cs before left a b r e fresh same gone h =
    let P : List Comment → Type 0 = λ z. Does (comments false z) a b r in
    let Q : Maps → Type 0 = λ z. DoesTaking (take_comments Leading false pos.0) before z a b r in
    placed pos before left a b r e (subst Q (sym gone) (takes_written Leading false pos.0 before a b r fresh (subst P same h)))

pub leading_none : (pos : BytePos) (a : State) → (pos.0 == 0) ≡ false → a.failed ≡ false → DoesTaking (leading_comments pos) no_maps no_maps a a (Ok tt)
unfolding comments_at listed
leading_none pos a e fresh = leading_taken pos [] no_maps no_maps a a (Ok tt) e fresh refl (sym (none_taken Leading pos.0)) (none_written false a)

-- what a call finds, and what it leaves
pub leading_from : {C : Type 0} (m : C → Maps) (notes : Option C) (all new : C) (pos : BytePos) (cs : List Comment) (x : Option (List Comment)) (a b : State) (r : Result (Unit {0}) Refusal) → notes ≡ Some all → (pos.0 ≡ 0 → ⊥) → a.failed ≡ false → x ≡ (m all).leading pos.0 → m new ≡ without_leading pos.0 (m all) → cs ≡ listed x → Does (comments false cs) a b r → DoesTaking (leading_comments pos) (maps_in m notes) (maps_in m (Some new)) a b r
unfolding maps_in comments_at taken_out
leading_from m notes all new pos cs x a b r some n fresh taken gone same h =
    let Q : Option _ → Type 0 = λ z. DoesTaking (leading_comments pos) (maps_in m z) (m new) a b r in
    subst Q (sym some) (leading_taken pos cs (m all) (m new) a b r (ne_eqb pos.0 0 n) fresh (same ∙ ap listed taken) gone h)

pub leading_without : {C : Type 0} (m : C → Maps) (notes : Option C) (pos : BytePos) (a : State) → notes ≡ None → (pos.0 ≡ 0 → ⊥) → a.failed ≡ false → DoesTaking (leading_comments pos) (maps_in m notes) (maps_in m notes) a a (Ok tt)
unfolding maps_in
leading_without m notes pos a none n fresh =
    let Q : Option _ → Type 0 = λ z. DoesTaking (leading_comments pos) (maps_in m z) (maps_in m z) a a (Ok tt) in
    subst Q (sym none) (leading_none pos a (ne_eqb pos.0 0 n) fresh)

-- ---- the same of those before the last character

pub end_nowhere : (pos : BytePos) (maps : Maps) (a : State) → pos.0 ≡ 0 → DoesTaking (comments_before_end pos) maps maps a a (Ok tt)
unfolding comments_before_end
end_nowhere pos maps a e = λ lines rest c r f. subst (λ b. Follows (cond b rest (take_comments Leading false (pos.0 - 1) rest)) (with_source lines maps a) c r) (sym (ap (λ z. z == 0) e)) f

end_placed : (pos : BytePos) (before left : Maps) (a b : State) (r : Result (Unit {0}) Refusal) → (pos.0 == 0) ≡ false → DoesTaking (take_comments Leading false (pos.0 - 1)) before left a b r → DoesTaking (comments_before_end pos) before left a b r
unfolding comments_before_end
end_placed pos before left a b (Ok u) e h = λ lines rest c r f. subst (λ z. Follows (cond z rest (take_comments Leading false (pos.0 - 1) rest)) (with_source lines before a) c r) (sym e) (h lines rest c r f)
end_placed pos before left a b (Err x) e h = λ lines rest. subst (λ z. Follows (cond z rest (take_comments Leading false (pos.0 - 1) rest)) (with_source lines before a) (with_source lines left b) (Err x)) (sym e) (h lines rest)

pub end_taken : (pos : BytePos) (cs : List Comment) (before left : Maps) (a b : State) (r : Result (Unit {0}) Refusal) → (pos.0 == 0) ≡ false → a.failed ≡ false → cs ≡ comments_at Leading (pos.0 - 1) before → left ≡ taken_out Leading (pos.0 - 1) before → Does (comments false cs) a b r → DoesTaking (comments_before_end pos) before left a b r
end_taken pos cs before left a b r e fresh same gone h =
    let P : List Comment → Type 0 = λ z. Does (comments false z) a b r in
    let Q : Maps → Type 0 = λ z. DoesTaking (take_comments Leading false (pos.0 - 1)) before z a b r in
    end_placed pos before left a b r e (subst Q (sym gone) (takes_written Leading false (pos.0 - 1) before a b r fresh (subst P same h)))

pub end_none : (pos : BytePos) (a : State) → (pos.0 == 0) ≡ false → a.failed ≡ false → DoesTaking (comments_before_end pos) no_maps no_maps a a (Ok tt)
unfolding comments_at listed
end_none pos a e fresh = end_taken pos [] no_maps no_maps a a (Ok tt) e fresh refl (sym (none_taken Leading (pos.0 - 1))) (none_written false a)

pub end_from : {C : Type 0} (m : C → Maps) (notes : Option C) (all new : C) (pos : BytePos) (cs : List Comment) (x : Option (List Comment)) (a b : State) (r : Result (Unit {0}) Refusal) → notes ≡ Some all → (pos.0 ≡ 0 → ⊥) → a.failed ≡ false → x ≡ (m all).leading (pos.0 - 1) → m new ≡ without_leading (pos.0 - 1) (m all) → cs ≡ listed x → Does (comments false cs) a b r → DoesTaking (comments_before_end pos) (maps_in m notes) (maps_in m (Some new)) a b r
unfolding maps_in comments_at taken_out
end_from m notes all new pos cs x a b r some n fresh taken gone same h =
    let Q : Option _ → Type 0 = λ z. DoesTaking (comments_before_end pos) (maps_in m z) (m new) a b r in
    subst Q (sym some) (end_taken pos cs (m all) (m new) a b r (ne_eqb pos.0 0 n) fresh (same ∙ ap listed taken) gone h)

pub end_without : {C : Type 0} (m : C → Maps) (notes : Option C) (pos : BytePos) (a : State) → notes ≡ None → (pos.0 ≡ 0 → ⊥) → a.failed ≡ false → DoesTaking (comments_before_end pos) (maps_in m notes) (maps_in m notes) a a (Ok tt)
unfolding maps_in
end_without m notes pos a none n fresh =
    let Q : Option _ → Type 0 = λ z. DoesTaking (comments_before_end pos) (maps_in m z) (maps_in m z) a a (Ok tt) in
    subst Q (sym none) (end_none pos a (ne_eqb pos.0 0 n) fresh)

-- ---- the same of those after a position

-- by a position, unless it is none
pub trailing_nowhere : (w : Bool) (pos : BytePos) (maps : Maps) (a : State) → pos.0 ≡ 0 → DoesTaking (trailing_comments w pos) maps maps a a (Ok tt)
unfolding trailing_comments
trailing_nowhere w pos maps a e = λ lines rest c r f. subst (λ b. Follows (cond b rest (take_comments Trailing w pos.0 rest)) (with_source lines maps a) c r) (sym (ap (λ z. z == 0) e)) f

placed_behind : (w : Bool) (pos : BytePos) (before left : Maps) (a b : State) (r : Result (Unit {0}) Refusal) → (pos.0 == 0) ≡ false → DoesTaking (take_comments Trailing w pos.0) before left a b r → DoesTaking (trailing_comments w pos) before left a b r
unfolding trailing_comments
placed_behind w pos before left a b (Ok u) e h = λ lines rest c r f. subst (λ z. Follows (cond z rest (take_comments Trailing w pos.0 rest)) (with_source lines before a) c r) (sym e) (h lines rest c r f)
placed_behind w pos before left a b (Err x) e h = λ lines rest. subst (λ z. Follows (cond z rest (take_comments Trailing w pos.0 rest)) (with_source lines before a) (with_source lines left b) (Err x)) (sym e) (h lines rest)

pub trailing_taken : (w : Bool) (pos : BytePos) (cs : List Comment) (before left : Maps) (a b : State) (r : Result (Unit {0}) Refusal) → (pos.0 == 0) ≡ false → a.failed ≡ false → cs ≡ comments_at Trailing pos.0 before → left ≡ taken_out Trailing pos.0 before → Does (comments w cs) a b r → DoesTaking (trailing_comments w pos) before left a b r
trailing_taken w pos cs before left a b r e fresh same gone h =
    let P : List Comment → Type 0 = λ z. Does (comments w z) a b r in
    let Q : Maps → Type 0 = λ z. DoesTaking (take_comments Trailing w pos.0) before z a b r in
    placed_behind w pos before left a b r e (subst Q (sym gone) (takes_written Trailing w pos.0 before a b r fresh (subst P same h)))

pub trailing_none : (w : Bool) (pos : BytePos) (a : State) → (pos.0 == 0) ≡ false → a.failed ≡ false → DoesTaking (trailing_comments w pos) no_maps no_maps a a (Ok tt)
unfolding comments_at listed
trailing_none w pos a e fresh = trailing_taken w pos [] no_maps no_maps a a (Ok tt) e fresh refl (sym (none_taken Trailing pos.0)) (none_written w a)

-- what a call finds, and what it leaves
pub trailing_from : (w : Bool) {C : Type 0} (m : C → Maps) (notes : Option C) (all new : C) (pos : BytePos) (cs : List Comment) (x : Option (List Comment)) (a b : State) (r : Result (Unit {0}) Refusal) → notes ≡ Some all → (pos.0 ≡ 0 → ⊥) → a.failed ≡ false → x ≡ (m all).trailing pos.0 → m new ≡ without_trailing pos.0 (m all) → cs ≡ listed x → Does (comments w cs) a b r → DoesTaking (trailing_comments w pos) (maps_in m notes) (maps_in m (Some new)) a b r
unfolding maps_in comments_at taken_out
trailing_from w m notes all new pos cs x a b r some n fresh taken gone same h =
    let Q : Option _ → Type 0 = λ z. DoesTaking (trailing_comments w pos) (maps_in m z) (m new) a b r in
    subst Q (sym some) (trailing_taken w pos cs (m all) (m new) a b r (ne_eqb pos.0 0 n) fresh (same ∙ ap listed taken) gone h)

pub trailing_without : (w : Bool) {C : Type 0} (m : C → Maps) (notes : Option C) (pos : BytePos) (a : State) → notes ≡ None → (pos.0 ≡ 0 → ⊥) → a.failed ≡ false → DoesTaking (trailing_comments w pos) (maps_in m notes) (maps_in m notes) a a (Ok tt)
unfolding maps_in
trailing_without w m notes pos a none n fresh =
    let Q : Option _ → Type 0 = λ z. DoesTaking (trailing_comments w pos) (maps_in m z) (maps_in m z) a a (Ok tt) in
    subst Q (sym none) (trailing_none w pos a (ne_eqb pos.0 0 n) fresh)
