-- Each name stands as its own token: what is before it reads as the tokens before it.
use Rattle.std.proofs.Common.{◌≡◌, ℕ, Bool, true, false, List, [], ◌∷◌, ◌++◌, ◌==◌, append_assoc, append-nil, refl, sym, ap, ◌∙◌, subst, inl, inr}
use Rattle.std.proofs.lemmas.List.{append_cancel_left}
use Rattle.std.specs.Str.{chars, IsUtf8}
use Rattle.std.proofs.lemmas.Str.{chars-append, chars-nil, IsUtf8-nil, IsUtf8-append}
use Rattle.swc_ecma_codegen_grammar.specs.declared.kinds.Kind.{Kind}
use Rattle.swc_ecma_codegen_grammar.specs.Endings.{IsReduced}
use Rattle.swc_ecma_codegen_grammar.specs.GapRules.{PreviousToken, Start, fuses, allows, last_after_gap, last_after}
use Rattle.swc_ecma_codegen_grammar.specs.Parts as parts
use Rattle.swc_ecma_codegen_grammar.specs.Parts.{Gap, Own, NoneFuse, Reduced, tokens_of, remarks_in}
use Rattle.swc_ecma_codegen_grammar.specs.Phrases.{Phrase, PlacedName, Never, Nothing, One, NameOf, KeyOf, PrivateOf, TagNameOf, Then, CommaBefore, OptionalParentheses, Chosen, Generates, names_in}
use Rattle.swc_ecma_codegen_grammar.specs.Reads.{Reads}
use Rattle.swc_ecma_codegen_grammar.specs.Tokens.{Token, token_of}
use Rattle.swc_ecma_codegen_grammar.specs.Trivia.{Remark, Piece}
use Rattle.swc_ecma_codegen_grammar.proofs.Dropped.{none_fuse_reduced, tokens_reduced, reduced_same}
use Rattle.swc_ecma_codegen_text_writer.proofs.Flows.{appended_text, appended_pairs}
use Rattle.swc_ecma_codegen_text_writer.specs.Places.{Place, after_text}
use Rattle.swc_ecma_codegen_text_writer.specs.Recorded.{RecordsTruly}
use Rattle.swc_ecma_codegen_text_writer.specs.Sheet.{no_segment, with_text, Cutting, Sheet, Pair, appended, started, pointed, effect, holds_semicolons, fills_lines}
use Rattle.swc_ecma_codegen_text_writer.proofs.Pairs.{after_both, started_records}
use Rattle.swc_ecma_codegen_text_writer.proofs.Sheets.{effect_keeps_positions}
use Rattle.swc_ecma_codegen_text_writer.proofs.Stays.{started_stays, pointed_stays}
use Rattle.swc_ecma_codegen_settings.specs.declared.config.Config.{Config}
use Rattle.swc_ecma_codegen_tokens.specs.Named.{IsRecorded, StandsAfter, EachName}
use Rattle.swc_ecma_codegen_tokens.specs.Run.{State, put, run, spelling, after_plain}
use Rattle.swc_ecma_codegen_tokens.specs.Settings.{settings_of}
use Rattle.swc_ecma_codegen_tokens.specs.Targets.{written_as}
use Rattle.swc_ecma_codegen_tokens.specs.Written.{keeps_break, AtRest, RestsAt, Spot, Anything, IsNew, holds_one, all_indent, without_joints}
use Rattle.swc_ecma_codegen_tokens.proofs.Reading.Appended.{text_append, tokens_append, remarks_append}
use Rattle.swc_ecma_codegen_tokens.proofs.Emission.Fronts.{run_sheet}
use Rattle.swc_ecma_codegen_tokens.proofs.Emission.PendingSemi.{front, started_text, pointed_keeps}
use Rattle.swc_ecma_codegen_tokens.proofs.Gaps.Indented.{blanks, blanks_text, indent_chars, indent_utf8}
use Rattle.swc_ecma_codegen_tokens.proofs.Filling.Jointless.{reads_without}
use Rattle.swc_ecma_codegen_tokens.proofs.Emission.Positions.{recorded_more, noted_has, is_none, symbol_sheet, before_name, before_unheld, name_steps, name_call, run_records}
use Rattle.swc_ecma_codegen_tokens.proofs.Filling.Shapes.{Shape, open_, join}
use Rattle.swc_ecma_codegen_tokens.proofs.Gaps.Spots.{is_narrower, rests_narrower}
use Rattle.swc_ecma_codegen_text_writer.proofs.Cuts.{GrowsBy, still_last, longer_refl, grows_then, appended_grows, appended_last}
use Rattle.swc_ecma_codegen_tokens.proofs.Filling.Cuts.{Cuts, cuts_then, cuts_whole, cuts_same, whole_segments}
use Rattle.swc_ecma_codegen_tokens.proofs.Filling.CutStanding.{Later, StandsHere, AllHere, CutHere, StartsAt, cut_more, starts_none, starts_noted}
use Rattle.swc_ecma_codegen_tokens.proofs.Reading.Laid.{LaysTo, Enters, held, held_of, enters_first, enters_second, lays_then}
use Rattle.swc_ecma_codegen_tokens.proofs.Jsx.TagLays.{laid_chars}
use Rattle.swc_ecma_codegen_tokens.proofs.Gaps.Written.{front_indent, apart_open, settle, lays_commit}
use Rattle.swc_ecma_codegen_tokens.proofs.Reading.TokenLays.{Spelled, own_apart, lays_guard, after_guard}

-- ---- what stands there stays

stands_more : (config : Config) (a b c : Sheet) (us : List Token) (t : Token) (x : PlacedName) → RecordsTruly b c → StandsAfter config a b us t x → StandsAfter config a c us t x
stands_more config a b c us t x r h = record {
  before = h.before;
  rest = h.rest ++ r.text;
  is_text =
      r.is_text ∙ ap (λ z. z ++ r.text) h.is_text ∙ append_assoc a.text (h.before ++ (written_as config x ++ h.rest)) r.text
      ∙ ap (λ z. a.text ++ z) (append_assoc h.before (written_as config x ++ h.rest) r.text ∙ ap (λ z. h.before ++ z) (append_assoc (written_as config x) h.rest r.text));
  written = h.written;
  reduced = h.reduced;
  whole = h.whole;
  remarks = h.remarks;
  reads_before = h.reads_before;
  reads = h.reads;
  recorded = subst (λ (z : List Pair). IsRecorded x.at (after_text h.before a.place) z) (sym r.is_added) (recorded_more x.at (after_text h.before a.place) b.pairs r.added h.recorded);
}

here_more : (config : Config) (a b c : Sheet) (us : List Token) (t : Token) (x : PlacedName) → Later b c → StandsHere config a b us t x → StandsHere config a c us t x
unfolding stands_more
here_more config a b c us t x r h = record {
  stands = stands_more config a b c us t x r.records h.stands;
  cut = λ i. cut_more x (written_as config x) h.stands.written t h.stands.remarks b c r.lines (h.cut i);
}

pub all_more : (config : Config) (a b c : Sheet) (us : List Token) (f : Phrase) (ts : List Token) → Later b c → AllHere config a b us f ts → AllHere config a c us f ts
unfolding EachName
all_more config a b c us Never ts r h = h
all_more config a b c us Nothing ts r h = h
all_more config a b c us (One x) ts r h = h
all_more config a b c us (NameOf at bytes) ts r h = (h.0, here_more config a b c us _ _ r h.1)
all_more config a b c us (KeyOf at bytes) ts r h = (h.0, here_more config a b c us _ _ r h.1)
all_more config a b c us (PrivateOf bytes) ts r h = h
all_more config a b c us (TagNameOf at bytes) ts r h = (h.0, here_more config a b c us _ _ r h.1)
all_more config a b c us (Then f g) ts r h = (h.0, h.1, all_more config a b c us f h.0 r h.2, all_more config a b c (us ++ h.0) g h.1 r h.3, h.4)
all_more config a b c us (CommaBefore close) ts r h = h
all_more config a b c us (OptionalParentheses round f) ts r (inl h) = inl (all_more config a b c us f ts r h)
all_more config a b c us (OptionalParentheses round f) ts r (inr h) = inr (h.0, all_more config a b c _ f h.0 r h.1, h.2)
all_more config a b c us (Chosen choice) ts r h = h

-- ---- a phrase without names

none_left : (xs ys : List PlacedName) → xs ++ ys ≡ [] → xs ≡ []
none_left [] ys e = refl
none_left (x ∷ xs) ys e = absurd (cc)

none_right : (xs ys : List PlacedName) → xs ++ ys ≡ [] → ys ≡ []
none_right [] ys e = e
none_right (x ∷ xs) ys e = absurd (cc)

pub nameless : (config : Config) (a b : Sheet) (us : List Token) (f : Phrase) (ts : List Token) → names_in f ≡ [] → Generates (settings_of config) f ts → AllHere config a b us f ts
unfolding EachName Generates names_in
nameless config a b us Never ts e h = h
nameless config a b us Nothing ts e h = h
nameless config a b us (One x) ts e h = h
nameless config a b us (NameOf at bytes) ts e h = absurd (cc)
nameless config a b us (KeyOf at bytes) ts e h = absurd (cc)
nameless config a b us (PrivateOf bytes) ts e h = h
nameless config a b us (TagNameOf at bytes) ts e h = absurd (cc)
nameless config a b us (Then f g) ts e h = (h.0, h.1, nameless config a b us f h.0 (none_left (names_in f) (names_in g) e) h.2, nameless config a b (us ++ h.0) g h.1 (none_right (names_in f) (names_in g) e) h.3, h.4)
nameless config a b us (CommaBefore close) ts e h = h
nameless config a b us (OptionalParentheses round f) ts e (inl h) = inl (nameless config a b us f ts e h)
nameless config a b us (OptionalParentheses round f) ts e (inr h) = inr (h.0, nameless config a b _ f h.0 e h.1, h.2)
nameless config a b us (Chosen choice) ts e h = h

-- ---- how far an emission has come

-- From where an emission began to here these tokens were asked for, and parts of a shape may stand next.
pub record ReachedAt (spot : Spot) (i : Shape) (us : List Token) (a s : State) : Type 0 where
  pub is_new : IsNew a
  pub out : List parts.Part
  pub laid : List parts.Part
  pub bytes : List ℕ
  pub text : s.sheet.text ≡ a.sheet.text ++ bytes
  pub utf8 : IsUtf8 bytes
  pub spells : chars bytes ≡ parts.text_of laid
  pub tokens : tokens_of out ≡ us
  pub apart : (more : List parts.Part) → NoneFuse s.last more → NoneFuse a.last (out ++ more)
  pub reduces : (more ys : List parts.Part) → Reduced (held s.sheet ++ more) ys → Reduced (held a.sheet ++ (out ++ more)) (laid ++ ys)
  pub holds : holds_semicolons s.sheet.semicolons ≡ holds_semicolons a.sheet.semicolons
  pub whole : holds_semicolons a.sheet.semicolons ≡ false → laid ≡ out
  pub cuts : Cuts laid a.sheet s.sheet
  pub place : s.sheet.place ≡ after_text bytes a.sheet.place
  pub rest : RestsAt spot s
  pub enters : Enters i s

-- where any token may stand next
abbrev pub Reached : Shape → List Token → State → State → Type 0
Reached i us a s = ReachedAt Anything i us a s

pub reached_first : (i : Shape) (a : State) → IsNew a → AtRest a → Enters i a → Reached i [] a a
unfolding tokens_of parts.text_of after_text
reached_first i a n r e = record {
  is_new = n;
  out = [];
  laid = [];
  bytes = [];
  text = sym (append-nil a.sheet.text);
  utf8 = IsUtf8-nil;
  spells = chars-nil;
  tokens = refl;
  apart = λ more h. h;
  reduces = λ more ys h. h;
  holds = refl;
  whole = λ e. refl;
  cuts = cuts_same a.sheet a.sheet refl;
  place = refl;
  rest = r;
  enters = e;
}

pub reached_as : {v : Spot} (i : Shape) {j : Shape} {us : List Token} {a s : State} → Enters i s → ReachedAt v j us a s → ReachedAt v i us a s
reached_as i e r = record { is_new = r.is_new; out = r.out; laid = r.laid; bytes = r.bytes; text = r.text; utf8 = r.utf8; spells = r.spells; tokens = r.tokens; apart = r.apart; reduces = r.reduces; holds = r.holds; whole = r.whole; cuts = r.cuts; place = r.place; rest = r.rest; enters = e }

-- where less is known of what may stand next
pub reached_narrower : (v w : Spot) {i : Shape} {us : List Token} {a s : State} → is_narrower v w ≡ true → ReachedAt v i us a s → ReachedAt w i us a s
reached_narrower v w {s = s} e r = record { is_new = r.is_new; out = r.out; laid = r.laid; bytes = r.bytes; text = r.text; utf8 = r.utf8; spells = r.spells; tokens = r.tokens; apart = r.apart; reduces = r.reduces; holds = r.holds; whole = r.whole; cuts = r.cuts; place = r.place; rest = rests_narrower v w s e r.rest; enters = r.enters }

pub reached_same : {v : Spot} {i : Shape} {us vs : List Token} {a s : State} → us ≡ vs → ReachedAt v i us a s → ReachedAt v i vs a s
reached_same {v} {i} {a = a} {s = s} e r = subst (λ z. ReachedAt v i z a s) e r

-- and further
pub reached_then : {v w : Spot} (i j : Shape) {rs : List Remark} (us ts : List Token) (a s b : State) → ReachedAt v (join i j) us a s → LaysTo w i ts rs s b → RecordsTruly s.sheet b.sheet → ReachedAt w j (us ++ ts) a b
reached_then i j us ts a s b r h t =
    let same : t.text ≡ h.bytes = append_cancel_left s.sheet.text t.text h.bytes (sym t.is_text ∙ h.text) in
    record {
      is_new = r.is_new;
      out = r.out ++ h.out;
      laid = r.laid ++ h.laid;
      bytes = r.bytes ++ h.bytes;
      text = h.text ∙ ap (λ z. z ++ h.bytes) r.text ∙ append_assoc a.sheet.text r.bytes h.bytes;
      utf8 = IsUtf8-append r.bytes h.bytes r.utf8 h.utf8;
      spells = chars-append r.bytes h.bytes r.utf8 ∙ ap (λ z. z ++ chars h.bytes) r.spells ∙ ap (λ z. parts.text_of r.laid ++ z) h.spells ∙ sym (text_append r.laid h.laid);
      tokens = tokens_append r.out h.out ∙ ap (λ z. z ++ tokens_of h.out) r.tokens ∙ ap (λ z. us ++ z) h.tokens;
      apart = λ more n. subst (λ z. NoneFuse a.last z) (sym (append_assoc r.out h.out more)) (r.apart (h.out ++ more) (h.apart (enters_first i j s r.enters) more n));
      reduces = λ more ys d.
          subst (λ z. Reduced (held a.sheet ++ z) ((r.laid ++ h.laid) ++ ys)) (sym (append_assoc r.out h.out more))
          (subst (λ z. Reduced (held a.sheet ++ (r.out ++ (h.out ++ more))) z) (sym (append_assoc r.laid h.laid ys)) (r.reduces (h.out ++ more) (h.laid ++ ys) (h.reduces more ys d)));
      holds = h.holds ∙ r.holds;
      whole = λ e. ap (λ z. z ++ h.laid) (r.whole e) ∙ ap (λ z. r.out ++ z) (h.whole (r.holds ∙ e));
      cuts = cuts_then r.laid h.laid a.sheet s.sheet b.sheet r.cuts h.cuts;
      place = t.place ∙ ap (λ z. after_text z s.sheet.place) same ∙ ap (after_text h.bytes) r.place ∙ sym (after_both r.bytes h.bytes a.sheet.place);
      rest = h.rest;
      enters = enters_second i j s b r.enters;
    }

-- ---- what is before a name reads, and with the name

-- where no semicolon is held back, what is out and further parts
front_reduced : {v : Spot} {i : Shape} (us : List Token) (a s : State) (r : ReachedAt v i us a s) → holds_one s.sheet.semicolons ≡ false → (more : List parts.Part) → Reduced (r.out ++ more) (r.laid ++ more)
front_reduced us a s r o more =
    let none : held a.sheet ≡ [] = ap (λ z. held_of z (keeps_break a.sheet.semicolons) a.sheet) r.is_new.nothing_held in
    let here : held s.sheet ≡ [] = ap (λ z. held_of z (keeps_break s.sheet.semicolons) s.sheet) o in
    subst (λ z. Reduced (z ++ (r.out ++ more)) (r.laid ++ more)) none (r.reduces more more (subst (λ z. Reduced (z ++ more) more) (sym here) (reduced_same more)))

front_apart : {v : Spot} {i : Shape} (us : List Token) (a s : State) (r : ReachedAt v i us a s) (more : List parts.Part) → NoneFuse s.last more → NoneFuse Start (r.out ++ more)
front_apart us a s r more n = subst (λ z. NoneFuse z (r.out ++ more)) r.is_new.nothing_written (r.apart more n)

front_alone : {v : Spot} {i : Shape} (us : List Token) (a s : State) (r : ReachedAt v i us a s) → holds_one s.sheet.semicolons ≡ false → (more : List parts.Part) → NoneFuse s.last more → NoneFuse Start (r.laid ++ more)
front_alone us a s r o more n = none_fuse_reduced (r.out ++ more) (r.laid ++ more) (front_apart us a s r more n) (front_reduced us a s r o more)

front_reads : {v : Spot} {i : Shape} (us : List Token) (a s : State) (r : ReachedAt v i us a s) → holds_one s.sheet.semicolons ≡ false → (u : List ℕ) (more : List parts.Part) → chars u ≡ parts.text_of more → NoneFuse s.last more → Reads (chars (r.bytes ++ u)) (without_joints (tokens_of r.laid ++ tokens_of more)) (remarks_in r.laid ++ remarks_in more)
front_reads us a s r o u more e n =
    let laid : NoneFuse Start (r.laid ++ more) = front_alone us a s r o more n in
    let spells : chars (r.bytes ++ u) ≡ parts.text_of (r.laid ++ more) = chars-append r.bytes u r.utf8 ∙ ap (λ z. z ++ chars u) r.spells ∙ ap (λ z. parts.text_of r.laid ++ z) e ∙ sym (text_append r.laid more) in
    subst (λ z. Reads z (without_joints (tokens_of r.laid ++ tokens_of more)) (remarks_in r.laid ++ remarks_in more)) (sym spells)
    (subst (λ z. Reads (parts.text_of (r.laid ++ more)) (without_joints z) (remarks_in r.laid ++ remarks_in more)) (tokens_append r.laid more)
    (subst (λ z. Reads (parts.text_of (r.laid ++ more)) (without_joints (tokens_of (r.laid ++ more))) z) (remarks_append r.laid more) (reads_without (r.laid ++ more) laid)))

front_tokens : {v : Spot} {i : Shape} (us : List Token) (a s : State) (r : ReachedAt v i us a s) → holds_one s.sheet.semicolons ≡ false → (more : List parts.Part) → NoneFuse s.last more → IsReduced (us ++ tokens_of more) (tokens_of r.laid ++ tokens_of more)
front_tokens us a s r o more n =
    let all : IsReduced (tokens_of (r.out ++ more)) (tokens_of (r.laid ++ more)) = tokens_reduced (r.out ++ more) (r.laid ++ more) (front_apart us a s r more n) (front_reduced us a s r o more) in
    subst (λ z. IsReduced z (tokens_of r.laid ++ tokens_of more)) (tokens_append r.out more ∙ ap (λ z. z ++ tokens_of more) r.tokens)
    (subst (λ z. IsReduced (tokens_of (r.out ++ more)) z) (tokens_append r.laid more) all)

-- blanks alone, before a token
gap_open : (k : PreviousToken) (ps : List Piece) → allows k [] ≡ true → allows (last_after_gap k ps) [] ≡ true
unfolding last_after_gap
gap_open k [] a = a
gap_open k (p ∷ ps) a = apart_open []

pub gap_alone : (k : PreviousToken) (ps : List Piece) (xs : List parts.Part) → allows k [] ≡ true → NoneFuse k (Gap ps ∷ xs) → NoneFuse k (Gap ps ∷ [])
unfolding NoneFuse
gap_alone k ps xs a h = (h.0, h.1, h.2, gap_open k ps a)

none_after : (k : PreviousToken) (kind : Kind) (t : List ℕ) → Spelled kind t → NoneFuse (last_after k kind (spelling kind t)) []
unfolding NoneFuse
none_after k kind t p = p.allowed k []

gap_text : (u : List ℕ) → all_indent u ≡ true → chars u ≡ parts.text_of (Gap (blanks u) ∷ [])
unfolding parts.text_of
gap_text u h = indent_chars u h ∙ sym (blanks_text u) ∙ sym (append-nil _)

-- where it is cut, it stands in the last segment
cut_behind : {v : Spot} {i : Shape} (kind : Kind) (x : PlacedName) (t : List ℕ) (us : List Token) (a s : State) (w : Sheet) (r : ReachedAt v i us a s) → holds_one s.sheet.semicolons ≡ false → IsUtf8 t → chars t ≡ spelling kind t → NoneFuse s.last (Gap (blanks (front s.sheet)) ∷ Own kind (spelling kind t) ∷ []) → NoneFuse s.last (Gap (blanks (front s.sheet)) ∷ []) → StartsAt x.at (front s.sheet) s.sheet (started w) → a.sheet.lines ≡ Cutting [] no_segment →
    CutHere x t (tokens_of r.laid) (token_of kind (spelling kind t)) (remarks_in r.laid ++ remarks_in (Gap (blanks (front s.sheet)) ∷ [])) (appended t (started w))
unfolding tokens_of remarks_in
cut_behind kind x t us a s w r o utf8 spelled n m starts first =
    let u : List ℕ = front s.sheet in
    let h : all_indent u ≡ true = front_indent s.sheet r.rest.indent_text in
    let gap : List parts.Part = Gap (blanks u) ∷ [] in
    let with : List parts.Part = Gap (blanks u) ∷ Own kind (spelling kind t) ∷ [] in
    let new : Sheet = appended t (started w) in
    let p = r.cuts [] no_segment first in
    let q = starts p.more p.held p.lines in
    let grows : GrowsBy u s.sheet (started w) = λ done begun e. (starts done begun e).grows in
    let before = cuts_then r.laid gap a.sheet s.sheet (started w) r.cuts (cuts_whole gap u s.sheet (started w) refl (indent_utf8 u h) (gap_text u h) grows) in
    let behind =
    cuts_then r.laid with a.sheet s.sheet new r.cuts
    (cuts_whole with (u ++ t) s.sheet new refl (IsUtf8-append u t (indent_utf8 u h) utf8) (laid_chars u t kind h spelled) (grows_then u t s.sheet (started w) new grows (appended_grows t (started w)))) in
    let last = appended_last t p.more q.grows.held (started w) q.grows.lines in
    let x1 = whole_segments (r.laid ++ gap) p.more q.grows.held (started w).lines (before [] no_segment first) q.grows.lines in
    let x2 = whole_segments (r.laid ++ with) p.more (with_text t q.grows.held) new.lines (behind [] no_segment first) last in
    record {
      done = p.more;
      held = q.grows.held;
      laid = r.laid ++ gap;
      apart = front_alone us a s r o gap m;
      tokens = tokens_append r.laid gap ∙ append-nil (tokens_of r.laid);
      said = remarks_append r.laid gap;
      utf8 = x1.utf8;
      same = x1.same;
      laid_with = r.laid ++ with;
      apart_with = front_alone us a s r o with n;
      tokens_with = tokens_append r.laid with;
      said_with = remarks_append r.laid with;
      utf8_with = x2.utf8;
      same_with = x2.same;
      goes_on = still_last (with_text t q.grows.held) last (longer_refl (with_text t q.grows.held));
      noted = q.noted;
    }

-- a name that is written behind the indentation, if any, of its line
pub stands_behind : {v : Spot} {i : Shape} (config : Config) (kind : Kind) (x : PlacedName) (us : List Token) (a s : State) (w : Sheet) → ReachedAt v i us a s → holds_one s.sheet.semicolons ≡ false → IsUtf8 (written_as config x) → chars (written_as config x) ≡ spelling kind (written_as config x) → NoneFuse s.last (Gap (blanks (front s.sheet)) ∷ Own kind (spelling kind (written_as config x)) ∷ []) → NoneFuse s.last (Gap (blanks (front s.sheet)) ∷ []) → w.text ≡ s.sheet.text → front w ≡ front s.sheet → w.place ≡ s.sheet.place → fills_lines w.lines ≡ false → IsRecorded x.at (started w).place (started w).pairs → StartsAt x.at (front s.sheet) s.sheet (started w) → StandsHere config a.sheet (appended (written_as config x) (started w)) us (token_of kind (spelling kind (written_as config x))) x
unfolding tokens_of remarks_in
stands_behind config kind x us a s w r o utf8 spelled n m text same place flows recorded starts =
    let t : List ℕ = written_as config x in
    let u : List ℕ = front s.sheet in
    let ps : List Piece = blanks u in
    let h : all_indent u ≡ true = front_indent s.sheet r.rest.indent_text in
    let z : (started w).text ≡ s.sheet.text ++ u = started_text w flows ∙ ap (λ v. v ++ front w) text ∙ ap (λ v. s.sheet.text ++ v) same in
    let d = started_records w in
    let du : d.text ≡ u = append_cancel_left w.text d.text u (sym d.is_text ∙ started_text w flows ∙ ap (λ v. w.text ++ v) same) in
    let q : (started w).place ≡ after_text (r.bytes ++ u) a.sheet.place = d.place ∙ ap (λ v. after_text v w.place) du ∙ ap (after_text u) (place ∙ r.place) ∙ sym (after_both r.bytes u a.sheet.place) in
    record {
      stands =
          record {
            before = r.bytes ++ u;
            rest = [];
            is_text =
                appended_text t (started w) ((started_stays w).fills ∙ flows) ∙ ap (λ v. v ++ t) (z ∙ ap (λ v. v ++ u) r.text ∙ append_assoc a.sheet.text r.bytes u) ∙ append_assoc a.sheet.text (r.bytes ++ u) t
                ∙ ap (λ v. a.sheet.text ++ ((r.bytes ++ u) ++ v)) (sym (append-nil t));
            written = tokens_of r.laid;
            reduced = front_tokens us a s r o (Gap ps ∷ Own kind (spelling kind t) ∷ []) n;
            whole = λ e. ap tokens_of (r.whole e) ∙ r.tokens;
            remarks = remarks_in r.laid ++ remarks_in (Gap ps ∷ []);
            reads_before = subst (λ v. Reads (chars (r.bytes ++ u)) (without_joints v) (remarks_in r.laid ++ remarks_in (Gap ps ∷ []))) (append-nil (tokens_of r.laid)) (front_reads us a s r o u (Gap ps ∷ []) (gap_text u h) m);
            reads =
                subst (λ v. Reads (chars v) (without_joints (tokens_of r.laid ++ (token_of kind (spelling kind t) ∷ []))) (remarks_in r.laid ++ remarks_in (Gap ps ∷ []))) (sym (append_assoc r.bytes u t))
                (front_reads us a s r o (u ++ t) (Gap ps ∷ Own kind (spelling kind t) ∷ []) (laid_chars u t kind h spelled) n);
            recorded = subst (λ (v : List Pair). IsRecorded x.at (after_text (r.bytes ++ u) a.sheet.place) v) (sym (appended_pairs t (started w) ((started_stays w).fills ∙ flows))) (subst (λ (v : Place). IsRecorded x.at v (started w).pairs) q recorded);
          };
      cut = λ e. cut_behind kind x t us a s w r o utf8 spelled n m starts e;
    }

name_behind : {i : Shape} (config : Config) (kind : Kind) (x : PlacedName) (us : List Token) (a s : State) (w : Sheet) → Reached i us a s → holds_one s.sheet.semicolons ≡ false → fuses s.last (chars (written_as config x)) ≡ false → Spelled kind (written_as config x) → w.text ≡ s.sheet.text → front w ≡ front s.sheet → w.place ≡ s.sheet.place → fills_lines w.lines ≡ false → IsRecorded x.at (started w).place (started w).pairs → StartsAt x.at (front s.sheet) s.sheet (started w) → StandsHere config a.sheet (appended (written_as config x) (started w)) us (token_of kind (spelling kind (written_as config x))) x
name_behind config kind x us a s w r o f p text same place flows recorded starts =
    let t : List ℕ = written_as config x in
    let ps : List Piece = blanks (front s.sheet) in
    let n : NoneFuse s.last (Gap ps ∷ Own kind (spelling kind t) ∷ []) = own_apart s.sheet.at_line_start kind t s [] refl o p f r.rest (none_after s.last kind t p) in
    stands_behind config kind x us a s w r o p.utf8 p.same n (gap_alone s.last ps (Own kind (spelling kind t) ∷ []) (r.rest.allowed []) n) text same place flows recorded starts

-- ---- the steps of a name

begun : {i : Shape} (first second : Bool) (t : List ℕ) (us : List Token) (a s : State) → Reached i us a s → Reached open_ us a (run (before_name first second t) s)
unfolding before_name run put effect after_plain
begun first second t us a s r =
    let there : State = run (before_name first second t) s in
    let c = lays_commit s r.rest in
    reached_same (append-nil us)
    (reached_then (join open_ open_) open_ us [] a s there (reached_as _ (inl refl) r) (lays_then [] [] s (settle s) there c (lays_guard t (settle s) c.rest)) (run_records (before_name first second t) s))

begun_apart : (first second : Bool) (t : List ℕ) (s : State) → fuses (run (before_name first second t) s).last (chars t) ≡ false
unfolding before_name run put effect after_plain
begun_apart first second t s = after_guard t (settle s)

pub name_stands : {i : Shape} (config : Config) (first second : Bool) (kind : Kind) (b : Bool) (x : PlacedName) (us : List Token) (a s : State) → b ≡ (x.at.0 == 0) → Spelled kind (written_as config x) → s.sheet.keeps_positions ≡ true → Reached i us a s → StandsHere config a.sheet (run (name_steps first second kind b x.at (written_as config x)) s).sheet us (token_of kind (spelling kind (written_as config x))) x
unfolding name_steps name_call before_name run put effect
name_stands config first second kind true x us a s e p k r =
    let t : List ℕ = written_as config x in
    let there : State = run (before_name first second t) s in
    let o = before_unheld first second t s in
    subst (λ (z : Sheet). StandsHere config a.sheet z us (token_of kind (spelling kind t)) x) (sym (symbol_sheet t there.sheet p.some o))
    (name_behind config kind x us a there there.sheet (begun first second t us a s r) o (begun_apart first second t s) p refl refl refl (begun first second t us a s r).rest.flowing (inl (is_none x.at (sym e))) (starts_none x.at there.sheet (is_none x.at (sym e))))
name_stands config first second kind false x us a s e p k r =
    let t : List ℕ = written_as config x in
    let there : State = run (before_name first second t) s in
    let o = before_unheld first second t s in
    let w : Sheet = pointed x.at there.sheet in
    let keeps : there.sheet.keeps_positions ≡ true = run_sheet (λ z. z.keeps_positions) effect_keeps_positions (before_name first second t) s ∙ k in
    subst (λ (z : Sheet). StandsHere config a.sheet z us (token_of kind (spelling kind t)) x) (sym (symbol_sheet t w p.some (pointed_keeps (λ z. holds_one z.semicolons) (λ z y l. refl) (λ z y. refl) x.at there.sheet ∙ o)))
    (name_behind config kind x us a there w (begun first second t us a s r) o (begun_apart first second t s) p (pointed_keeps (λ z. z.text) (λ z y l. refl) (λ z y. refl) x.at there.sheet) (pointed_keeps (λ z. front z) (λ z y l. refl) (λ z y. refl) x.at there.sheet) (pointed_keeps (λ z. z.place) (λ z y l. refl) (λ z y. refl) x.at there.sheet) ((pointed_stays x.at there.sheet).fills ∙ (begun first second t us a s r).rest.flowing) (noted_has x.at there.sheet keeps (begun first second t us a s r).rest.flowing) (starts_noted x.at there.sheet keeps (sym e)))
