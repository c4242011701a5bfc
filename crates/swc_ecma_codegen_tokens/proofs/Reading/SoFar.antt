-- After a call the text reads as the tokens so far and those of the call, whatever follows that doesn't fuse.
use Rattle.std.proofs.Common.{◌≡◌, ℕ, Bool, true, false, ◌&&◌, cond, List, [], ◌∷◌, ◌++◌, ◌-◌, ◌==◌, codes, refl, sym, ap, ◌∙◌, subst, append_assoc, append-nil, inl, inr, Option, None, Ok}
use Rattle.std.specs.Str.{chars, is_utf8}
use Rattle.std.proofs.lemmas.Str.{chars-nil, chars-append, IsUtf8-nil, IsUtf8-append}
use Rattle.swc_ecma_codegen_common.specs.declared.positions.BytePos.{BytePos}
use Rattle.swc_ecma_codegen_common.specs.declared.positions.Span.{Span}
use Rattle.swc_ecma_codegen_grammar.specs.Tokens as lexical
use Rattle.swc_ecma_codegen_grammar.specs.Reads.{Reads, is_same_line}
use Rattle.swc_ecma_codegen_grammar.specs.Endings.{IsReduced}
use Rattle.swc_ecma_codegen_text_writer.specs.Sheet.{holds_semicolons, Position}
use Rattle.swc_ecma_codegen_grammar.specs.Parts as parts
use Rattle.swc_ecma_codegen_grammar.specs.Parts.{Gap, Own, OnLine, PastLine, KeepsLines, IsEnding, begins_break, Reduced, walk, is_broken, NoneFuse, tokens_of, remarks_in}
use Rattle.swc_ecma_codegen_grammar.specs.GapRules.{Start, allows}
use Rattle.swc_ecma_codegen_grammar.specs.declared.kinds.Kind.TheVariants.{Ending}
use Rattle.swc_ecma_codegen_grammar.proofs.Dropped.{keeps_reduced, none_fuse_reduced, tokens_reduced, without_last_gap}
use Rattle.swc_ecma_codegen_grammar.specs.Settings.{Settings}
use Rattle.swc_ecma_codegen_settings.specs.declared.config.Config.{Config}
use Rattle.swc_ecma_codegen_tokens.specs.Settings.{settings_of}
use Rattle.swc_ecma_codegen_grammar.specs.Phrases.{Phrase, Nothing, One, NameOf, Generates, is_possible, ◌>◌, mark}
use Rattle.swc_ecma_codegen_grammar.specs.SpelledNames.{is_well_formed_name}
use Rattle.swc_ecma_codegen_grammar.proofs.Reading.{reads}
use Rattle.swc_ecma_codegen_grammar.specs.CommentMaps.{Maps}
use Rattle.swc_ecma_codegen_grammar.specs.SourceLines.{Lines}
use Rattle.swc_ecma_codegen_tokens.specs.Run.{Env, is_bounded, Part, State, at_source, Step, Plain, step, after_step, taken_in, taken_by, when_minified, no_part, steps_of, unprintable_in, run, nothing, Follows, Emits}
use Rattle.swc_ecma_codegen_tokens.specs.Targets.{is_out}
use Rattle.swc_ecma_codegen_tokens.specs.Words.{allow_break, allows_break, bare_punct, bare_semi, break_where, keyword, operator, operator_between, word_operator, punct, punct_between, placed_punct, semi, name, space, formatting_space, line_end, formatting_line, commit_pending_semi, position, position_before, leading_comments, trailing_comments}
use Rattle.swc_ecma_codegen_tokens.specs.Tags.{closing, close, text_token, jsx_text, open_token, child_open}
use Rattle.swc_ecma_codegen_grammar.specs.Jsx.{is_jsx_text, is_jsx_open}
use Rattle.swc_ecma_codegen_tokens.proofs.Jsx.TagPrints.{prints_tag_end, is_text_token, prints_jsx_text, prints_opens}
use Rattle.swc_ecma_codegen_tokens.specs.Written.{keeps_break, IsNew, IsWord, IsMark, ReadsSoFar, ReadsSoFarAt, GoesOn, IsLeft, pending, indentation_due, blanks, holds_one, Spot, RestsAt, Takes, Anything, Between, InText, InName, AddsText, taken_remarks, name_tokens}
use Rattle.swc_ecma_codegen_tokens.proofs.Emission.Emitting.{emits_nothing}
use Rattle.swc_ecma_codegen_tokens.proofs.Gaps.Spots.{rests_narrower}
use Rattle.swc_ecma_codegen_tokens.proofs.Reading.Appended.{text_append, tokens_append, remarks_append}
use Rattle.swc_ecma_codegen_tokens.proofs.Filling.Cuts.{break_if, past_break, ending_past}
use Rattle.swc_ecma_codegen_tokens.proofs.Reading.Laid.{LaysTo, Enters}
use Rattle.swc_ecma_codegen_tokens.proofs.Filling.Jointless.{holds_joint, walks_past, drops_joints}
use Rattle.swc_ecma_codegen_grammar.specs.Trivia.{Remark, Piece}
use Rattle.swc_ecma_codegen_grammar.specs.Comments.{AreClosed, remarks_of, all_closed}
use Rattle.std.proofs.lemmas.Bool.{or_from}
use Rattle.swc_ecma_codegen_tokens.proofs.Reading.Printed.{writes_space, writes_formatting_space, writes_line, writes_formatting_line, writes_commit, writes_position, writes_position_before, MakesOn, MakesAt, EndsLines, makes_wider, from_wider, remarks_by}
use Rattle.swc_ecma_codegen_tokens.proofs.Commenting.CommentPrints.{writes_leading, writes_trailing}
use Rattle.swc_ecma_codegen_tokens.proofs.Emission.PartSteps.{steps_of_chain}
use Rattle.swc_ecma_codegen_tokens.proofs.Reading.Phrased.{PrintsOn, PrintsAt, after, before, prints_opened, new_at_rest, kept_front, prints_keyword, prints_operator, prints_word_operator, prints_punct, prints_bare_punct, prints_bare_semi, prints_placed_punct, prints_semi, prints_close, prints_ident, made_not_out, taken_closed}
use Rattle.swc_ecma_codegen_tokens.proofs.Filling.Shapes.{Shape, Le, line_first, loose, open_, whole, ended, join, is_within, walk_append, walk_le, not_broken}

-- where no line ends within what follows the end of a line, none does where some parts stand before
kept_on : (xs more : List parts.Part) → Le (walk PastLine xs) PastLine → is_broken (walk PastLine more) ≡ false → is_broken (walk PastLine (xs ++ more)) ≡ false
kept_on xs more h k = ap is_broken (walk_append xs more PastLine) ∙ not_broken _ _ (walk_le more _ _ h) k

both_tokens : (xs : List lexical.Token) (ys zs : List parts.Part) → xs ++ tokens_of (ys ++ zs) ≡ (xs ++ tokens_of ys) ++ tokens_of zs
both_tokens xs ys zs = ap (λ z. xs ++ z) (tokens_append ys zs) ∙ sym (append_assoc xs (tokens_of ys) (tokens_of zs))

-- what is written of what was laid since, and of what goes on
lays_left : {w : Spot} {i : Shape} {ts : List lexical.Token} {qs : List Remark} (a b : State) (l : LaysTo w i ts qs a b) (next left : List parts.Part) → IsLeft (pending b.sheet ++ next) left → IsLeft (pending a.sheet ++ (l.out ++ next)) (l.laid ++ left)
lays_left a b l next left (inl d) = inl (l.reduces next left d)
lays_left a b l next left (inr d) = inr (d.0, subst (λ z. Reduced (pending a.sheet ++ (l.out ++ next)) z) (sym (append_assoc l.laid left (Gap d.0 ∷ []))) (l.reduces next (left ++ Gap d.0 ∷ []) d.1))

lays_on : {w : Spot} {i : Shape} {ts : List lexical.Token} {qs : List Remark} (a b : State) (l : LaysTo w i ts qs a b) → Enters i a → holds_joint ts ≡ false → (next left : List parts.Part) → GoesOn b.last b.sheet next left → GoesOn a.last a.sheet (l.out ++ next) (l.laid ++ left)
lays_on a b l e none next left g = record {
  apart = l.apart e next g.apart;
  keeps_lines = kept_on l.out next (walks_past l.out (ap holds_joint l.tokens ∙ none)) g.keeps_lines;
  is_left = lays_left a b l next left g.is_left;
}

-- what was laid since
lays_so_far : {v w : Spot} {i : Shape} (old : List ℕ) (tokens ts : List lexical.Token) (rs qs : List Remark) (a b : State) → holds_joint ts ≡ false → Enters i a → LaysTo w i ts qs a b → ReadsSoFarAt v old tokens rs a → ReadsSoFarAt w old (tokens ++ ts) (rs ++ qs) b
lays_so_far old tokens ts rs qs a b none e l h =
    let kept : holds_semicolons b.sheet.semicolons ≡ false → holds_semicolons a.sheet.semicolons ≡ false = λ o. sym l.holds ∙ o in
    record {
      added = h.added ++ l.bytes;
      is_added = l.text ∙ ap (λ z. z ++ l.bytes) h.is_added ∙ append_assoc old h.added l.bytes;
      utf8 = IsUtf8-append h.added l.bytes h.utf8 l.utf8;
      written = h.written ++ tokens_of l.laid;
      whole = λ o. ap (λ z. z ++ tokens_of l.laid) (h.whole (kept o)) ∙ ap (λ z. tokens ++ z) (ap tokens_of (l.whole (kept o)) ∙ l.tokens);
      reduced = λ next left g.
          let asked : tokens ++ tokens_of (l.out ++ next) ≡ (tokens ++ ts) ++ tokens_of next =
          ap (λ z. tokens ++ z) (tokens_append l.out next ∙ ap (λ z. z ++ tokens_of next) l.tokens)
          ∙ sym (append_assoc tokens ts (tokens_of next)) in
          subst (λ z. IsReduced z ((h.written ++ tokens_of l.laid) ++ tokens_of left)) asked
          (subst (λ z. IsReduced (tokens ++ tokens_of (l.out ++ next)) z) (both_tokens h.written l.laid left) (h.reduced (l.out ++ next) (l.laid ++ left) (lays_on a b l e none next left g)));
      reads = λ next left g.
          let text : chars h.added ++ parts.text_of (l.laid ++ left) ≡ chars (h.added ++ l.bytes) ++ parts.text_of left =
          ap (λ z. chars h.added ++ z) (text_append l.laid left)
          ∙ sym (append_assoc (chars h.added) (parts.text_of l.laid) (parts.text_of left))
          ∙ ap (λ z. (chars h.added ++ z) ++ parts.text_of left) (sym l.spells)
          ∙ ap (λ z. z ++ parts.text_of left) (sym (chars-append h.added l.bytes h.utf8)) in
          let said : rs ++ remarks_in (l.laid ++ left) ≡ (rs ++ qs) ++ remarks_in left =
          ap (λ z. rs ++ z) (remarks_append l.laid left ∙ ap (λ z. z ++ remarks_in left) l.remarks)
          ∙ sym (append_assoc rs qs (remarks_in left)) in
          subst (λ z. Reads z ((h.written ++ tokens_of l.laid) ++ tokens_of left) ((rs ++ qs) ++ remarks_in left)) text
          (subst (λ z. Reads (chars h.added ++ parts.text_of (l.laid ++ left)) z ((rs ++ qs) ++ remarks_in left)) (both_tokens h.written l.laid left)
          (subst (λ z. Reads (chars h.added ++ parts.text_of (l.laid ++ left)) (h.written ++ tokens_of (l.laid ++ left)) z) said
          (h.reads (l.out ++ next) (l.laid ++ left) (lays_on a b l e none next left g))));
      rest = l.rest;
    }

-- what the steps of a part laid, which take no comments
pub laid_so_far : {v w : Spot} {i : Shape} (part : Part) (old : List ℕ) (tokens ts : List lexical.Token) (rs : List Remark) (a b : State) → holds_joint ts ≡ false → Enters i a → (RestsAt v a → LaysTo w i ts [] a (run (steps_of (part nothing a.env)) a)) → Emits part a b (Ok tt) → ReadsSoFarAt v old tokens rs a → ReadsSoFarAt w old (tokens ++ ts) rs b
unfolding Follows nothing
laid_so_far {w = w} part old tokens ts rs a b none k l e h =
    let end : b ≡ run (steps_of (part nothing a.env)) a = (e nothing b (Ok tt) (emits_nothing b)).1 in
    let P : State → Type 0 = λ z. ReadsSoFarAt w old (tokens ++ ts) rs z in
    let Q : List Remark → Type 0 = λ z. ReadsSoFarAt w old (tokens ++ ts) z (run (steps_of (part nothing a.env)) a) in
    subst P (sym end) (subst Q (append-nil rs) (lays_so_far old tokens ts rs [] a (run (steps_of (part nothing a.env)) a) none k (l h.rest) h))

-- a part that writes tokens, and was made
from_so_far : {room : ℕ} {remade : Bool} {v w : Spot} (part : Part) (old : List ℕ) (tokens ts : List lexical.Token) (rs : List Remark) (a b : State) → MakesOn v w loose room a.env part ts remade → holds_joint ts ≡ false → all_closed (taken_remarks part a.env) ≡ true → Emits part a b (Ok tt) → ReadsSoFarAt v old tokens rs a → ReadsSoFarAt w old (tokens ++ ts) (rs ++ taken_remarks part a.env) b
unfolding Follows nothing
from_so_far {v = v} {w = y} part old tokens ts rs a b w none c e h =
    let k = e nothing b (Ok tt) (emits_nothing b) in
    let same : steps_of (part nothing a.env) ≡ w.steps = ap steps_of (w.is_steps nothing) ∙ steps_of_chain w.steps in
    let end : b ≡ run w.steps a = k.1 ∙ ap (λ z. run z a) same in
    let P : State → Type 0 = λ z. ReadsSoFarAt y old (tokens ++ ts) (rs ++ taken_remarks part a.env) z in
    let Q : List Step → Type 0 = λ z. ReadsSoFarAt y old (tokens ++ ts) (rs ++ remarks_by z a.env) (run w.steps a) in
    subst P (sym end) (subst Q (sym same) (lays_so_far old tokens ts rs (remarks_by w.steps a.env) a (run w.steps a) none (inl refl) (w.lays a h.rest (ap (λ z. all_closed (remarks_by z a.env)) (sym same) ∙ c)) h))

emitted_so_far : (part : Part) (old : List ℕ) (tokens ts : List lexical.Token) (rs : List Remark) (a b : State) {remade : Bool} → MakesAt loose a.env part ts remade → holds_joint ts ≡ false → all_closed (taken_remarks part a.env) ≡ true → Emits part a b (Ok tt) → ReadsSoFar old tokens rs a → ReadsSoFar old (tokens ++ ts) (rs ++ taken_remarks part a.env) b
emitted_so_far part old tokens ts rs a b w none c e h = from_so_far part old tokens ts rs a b (w.from a.env.maps) none c e h

-- a part that writes tokens whatever comments there are, and takes none
pub made_so_far : (part : Part) (old : List ℕ) (tokens ts : List lexical.Token) (rs : List Remark) (a b : State) {remade : Bool} → MakesAt whole a.env part ts remade → holds_joint ts ≡ false → taken_remarks part a.env ≡ [] → Emits part a b (Ok tt) → ReadsSoFar old tokens rs a → ReadsSoFar old (tokens ++ ts) rs b
made_so_far part old tokens ts rs a b w none t e h =
    let closed : all_closed (taken_remarks part a.env) ≡ true = ap all_closed t ∙ (unfold all_closed in refl) in
    subst (λ z. ReadsSoFar old (tokens ++ ts) z b) (ap (λ z. rs ++ z) t ∙ append-nil rs) (emitted_so_far part old tokens ts rs a b (makes_wider loose refl w) none closed e h)

-- a part that writes one token, and takes no comments
one_so_far : {v w : Spot} {i : Shape} → is_within i loose ≡ true → (part : Part) (x : lexical.Token) (old : List ℕ) (tokens : List lexical.Token) (rs : List Remark) (a b : State) → PrintsOn v w i a.env part (One x) → is_same_line x.kind ≡ false → taken_remarks part a.env ≡ [] → Emits part a b (Ok tt) → ReadsSoFarAt v old tokens rs a → ReadsSoFarAt w old (tokens ++ x ∷ []) rs b
unfolding Generates is_possible is_out
one_so_far {w = w} fits part x old tokens rs a b prints n t e h =
    let p = prints.where_possible refl refl a.env.maps in
    let none : holds_joint p.tokens ≡ false = ap holds_joint p.generated ∙ (unfold holds_joint in or_from (is_same_line x.kind) false n refl) in
    let closed : all_closed (taken_remarks part a.env) ≡ true = ap all_closed t ∙ (unfold all_closed in refl) in
    subst (λ z. ReadsSoFarAt w old (tokens ++ x ∷ []) z b) (ap (λ z. rs ++ z) t ∙ append-nil rs)
    (subst (λ z. ReadsSoFarAt w old (tokens ++ z) (rs ++ taken_remarks part a.env) b) p.generated (from_so_far part old tokens p.tokens rs a b (from_wider loose fits p.writes) none closed e h))

-- a part that was made comes to its end
emitted_ends : (part : Part) (a b : State) → Emits part a b (Ok tt) → unprintable_in (part nothing a.env) ≡ None
unfolding Follows
emitted_ends part a b e = (e nothing b (Ok tt) (emits_nothing b)).0

-- a part that writes one of the token lists of a phrase
pub phrase_so_far : {v w : Spot} (part : Part) (f : Phrase) (old : List ℕ) (tokens : List lexical.Token) (rs : List Remark) (a b : State) → PrintsOn v w whole a.env part f → is_possible f ≡ true → ((ts : List lexical.Token) → Generates (settings_of a.env.config) f ts → holds_joint ts ≡ false) → AreClosed a.env.maps → Emits part a b (Ok tt) → ReadsSoFarAt v old tokens rs a → (ts : List lexical.Token) × Generates (settings_of a.env.config) f ts × ReadsSoFarAt w old (tokens ++ ts) (rs ++ taken_remarks part a.env) b
phrase_so_far part f old tokens rs a b prints w none c e h =
    let p = prints.where_possible w (made_not_out part f a.env prints w (emitted_ends part a b e)) a.env.maps in
    (p.tokens, p.generated, from_so_far part old tokens p.tokens rs a b (from_wider loose refl p.writes) (none p.tokens p.generated) (taken_closed (steps_of (part nothing a.env)) a.env.maps c) e h)

pub keyword_so_far : (span : Option Span) (t old : List ℕ) (tokens : List lexical.Token) (rs : List Remark) (a b : State) → IsWord t → Emits (keyword span t) a b (Ok tt) → ReadsSoFar old tokens rs a → ReadsSoFar old (tokens ++ lexical.word t ∷ []) rs b
unfolding keyword step steps_of nothing after_step taken_in taken_by remarks_of lexical.word lexical.punctuator lexical.ending is_same_line
keyword_so_far span t old tokens rs a b w e h = one_so_far refl (keyword span t) (lexical.word t) old tokens rs a b (prints_keyword a.env span t w) refl refl e h

pub word_operator_so_far : (t old : List ℕ) (tokens : List lexical.Token) (rs : List Remark) (a b : State) → IsWord t → Emits (word_operator t) a b (Ok tt) → ReadsSoFar old tokens rs a → ReadsSoFar old (tokens ++ lexical.word t ∷ []) rs b
unfolding word_operator step steps_of nothing after_step taken_in taken_by remarks_of lexical.word lexical.punctuator lexical.ending is_same_line
word_operator_so_far t old tokens rs a b w e h = one_so_far refl (word_operator t) (lexical.word t) old tokens rs a b (prints_word_operator a.env t w) refl refl e h

pub operator_so_far : (t old : List ℕ) (tokens : List lexical.Token) (rs : List Remark) (a b : State) → IsMark t → Emits (operator t) a b (Ok tt) → ReadsSoFar old tokens rs a → ReadsSoFar old (tokens ++ lexical.punctuator t ∷ []) rs b
unfolding operator step steps_of nothing after_step taken_in taken_by remarks_of lexical.word lexical.punctuator lexical.ending is_same_line
operator_so_far t old tokens rs a b w e h = one_so_far refl (operator t) (lexical.punctuator t) old tokens rs a b (prints_operator a.env t w) refl refl e h

-- an allowed break takes no comments
break_takes : (allowed : Bool) (env : Env) → taken_in (steps_of (break_where allowed nothing env)) env.maps ≡ []
unfolding break_where step steps_of nothing taken_in taken_by after_step
break_takes true env = refl
break_takes false env = refl

behind_takes : (b : Bool) (env : Env) → taken_in (steps_of (cond b (allow_break nothing) nothing env)) env.maps ≡ []
unfolding allow_break steps_of nothing taken_in
behind_takes true env = break_takes (is_bounded env) env
behind_takes false env = refl

punct_takes : (t : List ℕ) (env : Env) → taken_remarks (punct t) env ≡ []
unfolding punct bare_punct step steps_of after_step taken_in taken_by
punct_takes t env = ap remarks_of (behind_takes (allows_break t) env) ∙ (unfold remarks_of in refl)

semi_takes : (env : Env) → taken_remarks semi env ≡ []
unfolding semi bare_semi allow_break step steps_of after_step taken_in taken_by
semi_takes env = ap remarks_of (break_takes (is_bounded env) env) ∙ (unfold remarks_of in refl)

punct_fits : (b : Bool) → is_within (cond b ended whole) loose ≡ true
punct_fits true = refl
punct_fits false = refl

pub punct_so_far : (t old : List ℕ) (tokens : List lexical.Token) (rs : List Remark) (a b : State) → IsMark t → Emits (punct t) a b (Ok tt) → ReadsSoFar old tokens rs a → ReadsSoFar old (tokens ++ lexical.punctuator t ∷ []) rs b
unfolding lexical.punctuator is_same_line
punct_so_far t old tokens rs a b w e h = one_so_far (punct_fits (allows_break t)) (punct t) (lexical.punctuator t) old tokens rs a b (prints_punct a.env t w) refl (punct_takes t a.env) e h

-- the same with the blanks round it
operator_between_prints : (env : Env) (t : List ℕ) → IsMark t → PrintsAt (join open_ (join whole open_)) env (operator_between t) (mark t)
unfolding operator_between
operator_between_prints env t w = after (writes_space env) (before (prints_operator env t w) (writes_space env))

pub operator_between_so_far : (t old : List ℕ) (tokens : List lexical.Token) (rs : List Remark) (a b : State) → IsMark t → Emits (operator_between t) a b (Ok tt) → ReadsSoFar old tokens rs a → ReadsSoFar old (tokens ++ lexical.punctuator t ∷ []) rs b
unfolding operator_between operator space step steps_of nothing after_step taken_in taken_by remarks_of lexical.word lexical.punctuator lexical.ending is_same_line
operator_between_so_far t old tokens rs a b w e h = one_so_far refl (operator_between t) (lexical.punctuator t) old tokens rs a b (operator_between_prints a.env t w) refl refl e h

break_and_space_take : (allowed : Bool) (env : Env) → taken_in (steps_of (break_where allowed (space nothing) env)) env.maps ≡ []
unfolding break_where space step steps_of nothing taken_in taken_by after_step
break_and_space_take true env = refl
break_and_space_take false env = refl

space_behind_takes : (b : Bool) (env : Env) → taken_in (steps_of (cond b (allow_break (space nothing)) (space nothing) env)) env.maps ≡ []
unfolding allow_break space step steps_of nothing taken_in taken_by after_step
space_behind_takes true env = break_and_space_take (is_bounded env) env
space_behind_takes false env = refl

between_takes : (t : List ℕ) (env : Env) → taken_remarks (punct_between t) env ≡ []
unfolding punct_between punct bare_punct space step steps_of after_step taken_in taken_by
between_takes t env = ap remarks_of (space_behind_takes (allows_break t) env) ∙ (unfold remarks_of in refl)

punct_between_prints : (env : Env) (t : List ℕ) → IsMark t → PrintsAt (join open_ (join ended open_)) env (punct_between t) (mark t)
unfolding punct_between
punct_between_prints env t w = after (writes_space env) (before (prints_opened env t w) (writes_space env))

pub punct_between_so_far : (t old : List ℕ) (tokens : List lexical.Token) (rs : List Remark) (a b : State) → IsMark t → Emits (punct_between t) a b (Ok tt) → ReadsSoFar old tokens rs a → ReadsSoFar old (tokens ++ lexical.punctuator t ∷ []) rs b
unfolding lexical.punctuator is_same_line
punct_between_so_far t old tokens rs a b w e h = one_so_far refl (punct_between t) (lexical.punctuator t) old tokens rs a b (punct_between_prints a.env t w) refl (between_takes t a.env) e h

pub bare_punct_so_far : (t old : List ℕ) (tokens : List lexical.Token) (rs : List Remark) (a b : State) → IsMark t → Emits (bare_punct t) a b (Ok tt) → ReadsSoFar old tokens rs a → ReadsSoFar old (tokens ++ lexical.punctuator t ∷ []) rs b
unfolding bare_punct step steps_of nothing after_step taken_in taken_by remarks_of lexical.word lexical.punctuator lexical.ending is_same_line
bare_punct_so_far t old tokens rs a b w e h = one_so_far refl (bare_punct t) (lexical.punctuator t) old tokens rs a b (prints_bare_punct a.env t w) refl refl e h

pub placed_punct_so_far : (span : Span) (t old : List ℕ) (tokens : List lexical.Token) (rs : List Remark) (a b : State) → IsMark t → Emits (placed_punct span t) a b (Ok tt) → ReadsSoFar old tokens rs a → ReadsSoFar old (tokens ++ lexical.punctuator t ∷ []) rs b
unfolding placed_punct step steps_of nothing after_step taken_in taken_by remarks_of lexical.word lexical.punctuator lexical.ending is_same_line
placed_punct_so_far span t old tokens rs a b w e h = one_so_far refl (placed_punct span t) (lexical.punctuator t) old tokens rs a b (prints_placed_punct a.env span t w) refl refl e h

pub semi_so_far : (old : List ℕ) (tokens : List lexical.Token) (rs : List Remark) (a b : State) → Emits semi a b (Ok tt) → ReadsSoFar old tokens rs a → ReadsSoFar old (tokens ++ lexical.ending ∷ []) rs b
unfolding lexical.ending is_same_line
semi_so_far old tokens rs a b e h = one_so_far refl semi lexical.ending old tokens rs a b (prints_semi a.env) refl (semi_takes a.env) e h

pub bare_semi_so_far : (old : List ℕ) (tokens : List lexical.Token) (rs : List Remark) (a b : State) → Emits bare_semi a b (Ok tt) → ReadsSoFar old tokens rs a → ReadsSoFar old (tokens ++ lexical.ending ∷ []) rs b
unfolding bare_semi step steps_of nothing after_step taken_in taken_by remarks_of lexical.ending is_same_line
bare_semi_so_far old tokens rs a b e h = one_so_far refl bare_semi lexical.ending old tokens rs a b (prints_bare_semi a.env) refl refl e h

pub close_so_far : (old : List ℕ) (tokens : List lexical.Token) (rs : List Remark) (a b : State) → Emits close a b (Ok tt) → ReadsSoFar old tokens rs a → ReadsSoFar old (tokens ++ closing ∷ []) rs b
unfolding close step steps_of nothing after_step taken_in taken_by remarks_of lexical.tag_close is_same_line
close_so_far old tokens rs a b e h = one_so_far refl close closing old tokens rs a b (prints_close a.env) refl refl e h

-- behind a name in a tag: a child may come next
pub tag_end_so_far : (old : List ℕ) (tokens : List lexical.Token) (rs : List Remark) (a b : State) → Emits close a b (Ok tt) → ReadsSoFarAt InName old tokens rs a → ReadsSoFarAt Between old (tokens ++ closing ∷ []) rs b
unfolding close step steps_of nothing after_step taken_in taken_by remarks_of lexical.tag_close is_same_line
tag_end_so_far old tokens rs a b e h = one_so_far refl close closing old tokens rs a b (prints_tag_end a.env) refl refl e h

pub named_so_far : (old : List ℕ) (tokens : List lexical.Token) (rs : List Remark) (s : State) → ReadsSoFar old tokens rs s → ReadsSoFarAt InName old tokens rs s
named_so_far old tokens rs s h = record {
  added = h.added;
  is_added = h.is_added;
  utf8 = h.utf8;
  written = h.written;
  whole = h.whole;
  reduced = h.reduced;
  reads = h.reads;
  rest = rests_narrower Anything InName s refl h.rest;
}

pub text_so_far : (span : Span) (t old : List ℕ) (tokens : List lexical.Token) (rs : List Remark) (a b : State) → is_utf8 t ≡ true → is_jsx_text (chars t) ≡ true → Emits (jsx_text span t) a b (Ok tt) → ReadsSoFarAt Between old tokens rs a → ReadsSoFarAt InText old (tokens ++ text_token t ∷ []) rs b
unfolding jsx_text step steps_of nothing after_step taken_in taken_by remarks_of lexical.jsx_text is_same_line
text_so_far span t old tokens rs a b u n e h = one_so_far refl (jsx_text span t) (text_token t) old tokens rs a b (prints_jsx_text a.env span t (is_text_token t u n)) refl refl e h

pub open_so_far : (t old : List ℕ) (tokens : List lexical.Token) (rs : List Remark) (a b : State) → is_jsx_open t ≡ true → Emits (child_open t) a b (Ok tt) → ReadsSoFarAt InText old tokens rs a → ReadsSoFar old (tokens ++ open_token t ∷ []) rs b
unfolding child_open step steps_of nothing after_step taken_in taken_by remarks_of lexical.child_open is_same_line
open_so_far t old tokens rs a b o e h = one_so_far refl (child_open t) (open_token t) old tokens rs a b (prints_opens a.env t o) refl refl e h

-- a name, and `?` after an optional one
name_list : (s : Settings) (at : BytePos) (bytes : List ℕ) (optional : Bool) (ts : List lexical.Token) → Generates s (NameOf at bytes > cond optional (mark (codes "?")) Nothing) ts → ts ≡ name_tokens bytes optional
unfolding Generates
name_list s at bytes true ts g = g.4 ∙ ap (λ z. z ++ g.1) g.2 ∙ ap (λ z. name_tokens bytes false ++ z) g.3
name_list s at bytes false ts g = g.4 ∙ ap (λ z. z ++ g.1) g.2 ∙ ap (λ z. name_tokens bytes false ++ z) g.3

name_possible : (at : BytePos) (bytes : List ℕ) (optional : Bool) → is_well_formed_name bytes ≡ true → is_possible (NameOf at bytes > cond optional (mark (codes "?")) Nothing) ≡ true
unfolding is_possible
name_possible at bytes true w = ap (λ z. z && true) w
name_possible at bytes false w = ap (λ z. z && true) w

name_joint : (bytes : List ℕ) (optional : Bool) → holds_joint (name_tokens bytes optional) ≡ false
unfolding holds_joint is_same_line lexical.name lexical.punctuator
name_joint bytes true = refl
name_joint bytes false = refl

pub name_so_far : (span : Span) (bytes : List ℕ) (optional : Bool) (old : List ℕ) (tokens : List lexical.Token) (rs : List Remark) (a b : State) → a.env.keeps_invalid ≡ false → is_well_formed_name bytes ≡ true → AreClosed a.env.maps → Emits (name span bytes optional) a b (Ok tt) → ReadsSoFar old tokens rs a → ReadsSoFar old (tokens ++ name_tokens bytes optional) (rs ++ taken_remarks (name span bytes optional) a.env) b
name_so_far span bytes optional old tokens rs a b v w c e h =
    let p = phrase_so_far (name span bytes optional) _ old tokens rs a b (prints_ident a.env span bytes optional v) (name_possible span.lo bytes optional w) (λ ts g. ap holds_joint (name_list (settings_of a.env.config) span.lo bytes optional ts g) ∙ name_joint bytes optional) c e h in
    subst (λ z. ReadsSoFar old (tokens ++ z) (rs ++ taken_remarks (name span bytes optional) a.env) b) (name_list (settings_of a.env.config) span.lo bytes optional p.0 p.1) p.2

-- nothing was written yet: what is written of what comes first
pub record IsPrefix (next left : List parts.Part) : Type 0 where
  pub apart : NoneFuse Start left
  pub lines : KeepsLines left
  pub tokens : IsReduced (tokens_of next) (tokens_of left)

front_of_reduced : (next left : List parts.Part) → NoneFuse Start next → KeepsLines next → Reduced next left → IsPrefix next left
front_of_reduced next left n k d = record { apart = none_fuse_reduced next left n d; lines = keeps_reduced next left OnLine d k; tokens = tokens_reduced next left n d }

front_of_gap : (next left : List parts.Part) (ps : List Piece) → IsPrefix next (left ++ Gap ps ∷ []) → IsPrefix next left
unfolding tokens_of
front_of_gap next left ps f = record {
  apart = without_last_gap Start left ps f.apart;
  lines = kept_front left (Gap ps ∷ []) OnLine f.lines;
  tokens = subst (λ z. IsReduced (tokens_of next) z) (tokens_append left (Gap ps ∷ []) ∙ append-nil (tokens_of left)) f.tokens;
}

front_of_left : (next left : List parts.Part) → NoneFuse Start next → KeepsLines next → IsLeft next left → IsPrefix next left
front_of_left next left n k (inl d) = front_of_reduced next left n k d
front_of_left next left n k (inr d) = front_of_gap next left d.0 (front_of_reduced next (left ++ Gap d.0 ∷ []) n k d.1)

goes_first : (s : State) → IsNew s → (next left : List parts.Part) → GoesOn s.last s.sheet next left → IsPrefix next left
goes_first s n next left g =
    let none : pending s.sheet ≡ [] = ap (λ b. cond b (Gap (blanks (indentation_due s.sheet)) ∷ Own Ending (codes ";") ∷ break_if (keeps_break s.sheet.semicolons)) []) n.nothing_held in
    front_of_left next left
    (subst (λ k. NoneFuse k next) n.nothing_written g.apart)
    (not_broken _ _ (walk_le next OnLine PastLine (line_first PastLine)) g.keeps_lines)
    (subst (λ z. IsLeft (z ++ next) left) none g.is_left)

pub new_so_far : (s : State) → IsNew s → ReadsSoFar s.sheet.text [] [] s
new_so_far s n = record {
  added = [];
  is_added = sym (append-nil s.sheet.text);
  utf8 = IsUtf8-nil;
  written = [];
  whole = λ o. refl;
  reduced = λ next left g. (goes_first s n next left g).tokens;
  reads = λ next left g.
      let f = goes_first s n next left g in
      subst (λ z. Reads (z ++ parts.text_of left) (tokens_of left) (remarks_in left)) (sym chars-nil) (reads left f.apart f.lines);
  rest = new_at_rest s n;
}

-- where nothing follows, a semicolon that is held back isn't needed
nothing_left : (b c : Bool) (u : List ℕ) → IsLeft (cond b (Gap (blanks u) ∷ Own Ending (codes ";") ∷ break_if c) [] ++ []) []
unfolding Reduced IsEnding begins_break
nothing_left true c u = inr (blanks u, inl ([], refl, inr (inl (refl, ending_past c [] tt, refl, past_break c [] [] refl))))
nothing_left false c u = inl refl

at_end : (s : State) → allows s.last [] ≡ true → GoesOn s.last s.sheet [] []
unfolding NoneFuse walk is_broken
at_end s a = record { apart = a; keeps_lines = refl; is_left = nothing_left (holds_one s.sheet.semicolons) (keeps_break s.sheet.semicolons) (indentation_due s.sheet) }

pub so_far_reads : (config : Config) (f : Phrase) (old : List ℕ) (tokens : List lexical.Token) (rs : List Remark) (s : State) → Generates (settings_of config) f tokens → ReadsSoFar old tokens rs s → AddsText config (holds_semicolons s.sheet.semicolons) f rs old s.sheet.text
unfolding parts.text_of tokens_of remarks_in
so_far_reads config f old tokens rs s g h =
    let end = at_end s (h.rest.allowed []) in
    let all = subst (λ z. Reads (chars h.added) h.written z) (append-nil rs) (subst (λ z. Reads (chars h.added) z (rs ++ [])) (append-nil h.written) (subst (λ z. Reads z (h.written ++ []) (rs ++ [])) (append-nil (chars h.added)) (h.reads [] [] end))) in
    record {
      added = h.added;
      is_added = h.is_added;
      reading = record {
        utf8 = h.utf8;
        tokens = tokens;
        is_list = g;
        written = h.written;
        reduced = subst (λ z. IsReduced z h.written) (append-nil tokens) (subst (λ z. IsReduced (tokens ++ []) z) (append-nil h.written) (h.reduced [] [] end));
        whole = h.whole;
        reads = drops_joints h.written (chars h.added) rs all;
        keeps_lines = λ t. all;
      };
    }

-- a part that writes no token, and takes no comments
gap_so_far : (part : Part) (old : List ℕ) (tokens : List lexical.Token) (rs : List Remark) (a b : State) → EndsLines a.env part → taken_remarks part a.env ≡ [] → Emits part a b (Ok tt) → ReadsSoFar old tokens rs a → ReadsSoFar old tokens rs b
unfolding holds_joint
gap_so_far part old tokens rs a b w t e h =
    let closed : all_closed (taken_remarks part a.env) ≡ true = ap all_closed t ∙ (unfold all_closed in refl) in
    subst (λ z. ReadsSoFar old tokens z b) (ap (λ z. rs ++ z) t ∙ append-nil rs) (subst (λ z. ReadsSoFar old z (rs ++ taken_remarks part a.env) b) (append-nil tokens) (emitted_so_far part old tokens [] rs a b w refl closed e h))

-- one that may take some
taking_so_far : (part : Part) (old : List ℕ) (tokens : List lexical.Token) (rs : List Remark) (a b : State) → EndsLines a.env part → AreClosed a.env.maps → Emits part a b (Ok tt) → ReadsSoFar old tokens rs a → ReadsSoFar old tokens (rs ++ taken_remarks part a.env) b
unfolding holds_joint
taking_so_far part old tokens rs a b w c e h = subst (λ z. ReadsSoFar old z (rs ++ taken_remarks part a.env) b) (append-nil tokens) (emitted_so_far part old tokens [] rs a b w refl (taken_closed (steps_of (part nothing a.env)) a.env.maps c) e h)

pub space_so_far : (old : List ℕ) (tokens : List lexical.Token) (rs : List Remark) (a b : State) → Emits space a b (Ok tt) → ReadsSoFar old tokens rs a → ReadsSoFar old tokens rs b
unfolding space step steps_of nothing after_step taken_in taken_by remarks_of
space_so_far old tokens rs a b e h = gap_so_far space old tokens rs a b (makes_wider loose refl (writes_space a.env)) refl e h

pub line_so_far : (old : List ℕ) (tokens : List lexical.Token) (rs : List Remark) (a b : State) → Emits line_end a b (Ok tt) → ReadsSoFar old tokens rs a → ReadsSoFar old tokens rs b
unfolding line_end step steps_of nothing after_step taken_in taken_by remarks_of
line_so_far old tokens rs a b e h = gap_so_far line_end old tokens rs a b (writes_line a.env) refl e h

pub commit_so_far : (old : List ℕ) (tokens : List lexical.Token) (rs : List Remark) (a b : State) → Emits commit_pending_semi a b (Ok tt) → ReadsSoFar old tokens rs a → ReadsSoFar old tokens rs b
unfolding commit_pending_semi step steps_of nothing after_step taken_in taken_by remarks_of
commit_so_far old tokens rs a b e h = gap_so_far commit_pending_semi old tokens rs a b (makes_wider loose refl (writes_commit a.env)) refl e h

-- by the settings
minified_none : (part : Part) (env : Env) → taken_remarks part env ≡ [] → taken_remarks (when_minified no_part part) env ≡ []
unfolding when_minified no_part steps_of nothing taken_in remarks_of
minified_none part env h = elim env.config.minify as (λ b. remarks_of (taken_in (steps_of (cond b (nothing env) (part nothing env))) env.maps) ≡ []) [ true ↦ refl | false ↦ h ]

pub formatting_space_so_far : (old : List ℕ) (tokens : List lexical.Token) (rs : List Remark) (a b : State) → Emits formatting_space a b (Ok tt) → ReadsSoFar old tokens rs a → ReadsSoFar old tokens rs b
unfolding formatting_space space step steps_of nothing after_step taken_in taken_by remarks_of
formatting_space_so_far old tokens rs a b e h = gap_so_far formatting_space old tokens rs a b (makes_wider loose refl (writes_formatting_space a.env)) (minified_none space a.env refl) e h

pub formatting_line_so_far : (old : List ℕ) (tokens : List lexical.Token) (rs : List Remark) (a b : State) → Emits formatting_line a b (Ok tt) → ReadsSoFar old tokens rs a → ReadsSoFar old tokens rs b
unfolding formatting_line line_end step steps_of nothing after_step taken_in taken_by remarks_of
formatting_line_so_far old tokens rs a b e h = gap_so_far formatting_line old tokens rs a b (writes_formatting_line a.env) (minified_none line_end a.env refl) e h

where_none : (b : Bool) (x : Step) (env : Env) → taken_remarks (step x) env ≡ [] → taken_remarks (λ rest. cond b rest (step x rest)) env ≡ []
unfolding nothing steps_of taken_in remarks_of
where_none true x env h = refl
where_none false x env h = h

pub position_so_far : (pos : BytePos) (old : List ℕ) (tokens : List lexical.Token) (rs : List Remark) (a b : State) → Emits (position pos) a b (Ok tt) → ReadsSoFar old tokens rs a → ReadsSoFar old tokens rs b
unfolding position step steps_of nothing after_step taken_in taken_by remarks_of
position_so_far pos old tokens rs a b e h = gap_so_far (position pos) old tokens rs a b (makes_wider loose refl (writes_position a.env pos)) (where_none (pos.0 == 0) (Plain (Position pos)) a.env refl) e h

pub position_before_so_far : (pos : BytePos) (old : List ℕ) (tokens : List lexical.Token) (rs : List Remark) (a b : State) → Emits (position_before pos) a b (Ok tt) → ReadsSoFar old tokens rs a → ReadsSoFar old tokens rs b
unfolding position_before step steps_of nothing after_step taken_in taken_by remarks_of
position_before_so_far pos old tokens rs a b e h = gap_so_far (position_before pos) old tokens rs a b (makes_wider loose refl (writes_position_before a.env pos)) (where_none (pos.0 == 0) (Plain (Position (record { 0 = pos.0 - 1 }))) a.env refl) e h

-- comments that are taken stand behind those so far
pub leading_so_far : (pos : BytePos) (old : List ℕ) (tokens : List lexical.Token) (rs : List Remark) (a b : State) → AreClosed a.env.maps → Emits (leading_comments pos) a b (Ok tt) → ReadsSoFar old tokens rs a → ReadsSoFar old tokens (rs ++ taken_remarks (leading_comments pos) a.env) b
leading_so_far pos old tokens rs a b c e h = taking_so_far (leading_comments pos) old tokens rs a b (makes_wider loose refl (writes_leading a.env pos)) c e h

pub trailing_so_far : (prefix : Bool) (pos : BytePos) (old : List ℕ) (tokens : List lexical.Token) (rs : List Remark) (a b : State) → AreClosed a.env.maps → Emits (trailing_comments prefix pos) a b (Ok tt) → ReadsSoFar old tokens rs a → ReadsSoFar old tokens (rs ++ taken_remarks (trailing_comments prefix pos) a.env) b
trailing_so_far prefix pos old tokens rs a b c e h = taking_so_far (trailing_comments prefix pos) old tokens rs a b (makes_wider loose refl (writes_trailing a.env prefix pos)) c e h

-- it doesn't hang on the lines and the comments
takes_at : (v : Spot) (lines : Lines) (maps : Maps) (s : State) → Takes v s → Takes v (at_source lines maps s)
takes_at Anything lines maps s k = k
takes_at Between lines maps s k = (record { child = k.0.child; nothing_held = k.0.nothing_held; in_line = k.0.in_line }, k.1)
takes_at InText lines maps s k = (record { child = k.0.child; nothing_held = k.0.nothing_held; in_line = k.0.in_line }, k.1)
takes_at InName lines maps s k = k

takes_from : (v : Spot) (lines : Lines) (maps : Maps) (s : State) → Takes v (at_source lines maps s) → Takes v s
takes_from Anything lines maps s k = k
takes_from Between lines maps s k = (record { child = k.0.child; nothing_held = k.0.nothing_held; in_line = k.0.in_line }, k.1)
takes_from InText lines maps s k = (record { child = k.0.child; nothing_held = k.0.nothing_held; in_line = k.0.in_line }, k.1)
takes_from InName lines maps s k = k

pub so_far_at : {v : Spot} (lines : Lines) (maps : Maps) (old : List ℕ) (tokens : List lexical.Token) (rs : List Remark) (s : State) → ReadsSoFarAt v old tokens rs s → ReadsSoFarAt v old tokens rs (at_source lines maps s)
so_far_at {v} lines maps old tokens rs s h = record {
  added = h.added;
  is_added = h.is_added;
  utf8 = h.utf8;
  written = h.written;
  whole = h.whole;
  reduced = h.reduced;
  reads = h.reads;
  rest = record { indent_text = h.rest.indent_text; line_end = h.rest.line_end; flowing = h.rest.flowing; free = h.rest.free; allowed = takes_at v lines maps s h.rest.allowed };
}

pub so_far_from : {v : Spot} (lines : Lines) (maps : Maps) (old : List ℕ) (tokens : List lexical.Token) (rs : List Remark) (s : State) → ReadsSoFarAt v old tokens rs (at_source lines maps s) → ReadsSoFarAt v old tokens rs s
so_far_from {v} lines maps old tokens rs s h = record {
  added = h.added;
  is_added = h.is_added;
  utf8 = h.utf8;
  written = h.written;
  whole = h.whole;
  reduced = h.reduced;
  reads = h.reads;
  rest = record { indent_text = h.rest.indent_text; line_end = h.rest.line_end; flowing = h.rest.flowing; free = h.rest.free; allowed = takes_from v lines maps s h.rest.allowed };
}
