-- Names in segments that go out, with a greatest line length: they stand in the text one after another, with their positions.
use Rattle.std.proofs.Common.{◌≡◌, ℕ, Bool, true, false, List, [], ◌∷◌, ◌++◌, ◌==◌, refl, sym, ap, ◌∙◌, subst, append_assoc, inl, inr}
use Rattle.std.proofs.lemmas.Bool.{cases_Bool, eqb-true}
use Rattle.std.proofs.lemmas.List.{append_cancel_left}
use Rattle.swc_ecma_codegen_common.specs.declared.positions.BytePos.{BytePos}
use Rattle.swc_ecma_codegen_grammar.specs.Phrases.{PlacedName}
use Rattle.swc_ecma_codegen_text_writer.specs.Filling.{text_of, part_text}
use Rattle.swc_ecma_codegen_text_writer.specs.Places.{Place, after_text}
use Rattle.swc_ecma_codegen_text_writer.specs.Runs.{segments_released}
use Rattle.swc_ecma_codegen_text_writer.specs.Sheet.{Sheet, Pair, Segment, no_segment, with_text, text_in, Cutting, has_pair, pair_at, ends_before, line_ended, segment_released}
use Rattle.swc_ecma_codegen_text_writer.proofs.Added.{Adds, adds_nothing, adds_then, adds_same, segment_adds}
use Rattle.swc_ecma_codegen_text_writer.proofs.Cuts.{GoOn, still_last, followed, Longer, longer_trans, longer_text}
use Rattle.swc_ecma_codegen_text_writer.proofs.Reaching.{after_both}
use Rattle.swc_ecma_codegen_text_writer.proofs.Released.{released_parts, parts_add, released_append}
use Rattle.swc_ecma_codegen_text_writer.proofs.Twins.{text-more, text-none}
use Rattle.swc_ecma_codegen_settings.specs.declared.config.Config.{Config}
use Rattle.swc_ecma_codegen_tokens.specs.Named.{IsRecorded, NamesStand, RecordsNames}
use Rattle.swc_ecma_codegen_tokens.specs.Targets.{written_as}
use Rattle.swc_ecma_codegen_tokens.proofs.Filling.FilledNames.{Among, among, part_more, ended_place, note_recorded}
use Rattle.swc_ecma_codegen_tokens.proofs.Filling.NamesCut.{IsNoted, NamesCut, names_end}

-- ---- a point of what goes out

-- The segments `done` went out, and then comes one that begins with `begun`.
record Point (max : ℕ) (old : Sheet) (all done : List Segment) (begun : Segment) : Type 0 where
  so_far : Sheet
  first : Bool
  text : List ℕ
  adds : Adds text old so_far
  segment : Segment
  later : List Segment
  split : all ≡ done ++ (segment ∷ later)
  longer : Longer begun segment
  goes_on : segments_released max true all old ≡ segments_released max false later (segment_released max first segment so_far)

-- whether a line end goes out before that segment
abbrev is_ended : {max : ℕ} {old : Sheet} {all done : List Segment} {begun : Segment} → Point max old all done begun → Bool
is_ended {max = max} p = ends_before max p.first p.segment p.so_far

-- what went out, up to the end of `begun`
abbrev text_to : {max : ℕ} {old : Sheet} {all done : List Segment} {begun : Segment} → Point max old all done begun → List ℕ
text_to {begun = begun} p = p.text ++ part_text p.so_far.line_end (is_ended p) (text_in begun)

-- the sheet behind that segment
abbrev sheet_behind : {max : ℕ} {old : Sheet} {all done : List Segment} {begun : Segment} → Point max old all done begun → Sheet
sheet_behind {max = max} p = segment_released max p.first p.segment p.so_far

-- what goes out after `begun`
abbrev text_from : {max : ℕ} {old : Sheet} {all done : List Segment} {begun : Segment} → Point max old all done begun → List ℕ
text_from {max = max} p = p.longer.added ++ text_of (sheet_behind p).line_end (released_parts max p.later (sheet_behind p))

-- its segment is `begun` and more
segment_text : {max : ℕ} {old : Sheet} {all done : List Segment} {begun : Segment} (p : Point max old all done begun) → part_text p.so_far.line_end (is_ended p) (text_in p.segment) ≡ part_text p.so_far.line_end (is_ended p) (text_in begun) ++ p.longer.added
segment_text {begun = begun} p = ap (part_text p.so_far.line_end (is_ended p)) p.longer.text ∙ part_more p.so_far.line_end (is_ended p) (text_in begun) p.longer.added

-- all that goes out
whole_text : {max : ℕ} {old : Sheet} {all done : List Segment} {begun : Segment} (p : Point max old all done begun) → Adds (text_to p ++ text_from p) old (segments_released max true all old)
whole_text {max = max} {old = old} {all = all} {begun = begun} p =
    let there : Sheet = sheet_behind p in
    let next : Sheet = segments_released max false p.later there in
    let front : List ℕ = part_text p.so_far.line_end (is_ended p) (text_in begun) in
    let back : List ℕ = text_of there.line_end (released_parts max p.later there) in
    let spelled : p.text ++ (part_text p.so_far.line_end (is_ended p) (text_in p.segment) ++ back) ≡ text_to p ++ text_from p =
    ap (λ z. p.text ++ (z ++ back)) (segment_text p) ∙ ap (λ z. p.text ++ z) (append_assoc front p.longer.added back) ∙ sym (append_assoc p.text front (p.longer.added ++ back)) in
    let adds = adds_then old p.so_far next p.adds (adds_then p.so_far there next (segment_adds max p.first p.segment p.so_far) (parts_add max p.later there)) in
    subst (λ (z : Sheet). Adds (text_to p ++ text_from p) old z) (sym p.goes_on) (adds_same (text_to p ++ text_from p) old next spelled adds)

-- so that is what the text is longer by
whole_is : {max : ℕ} {old : Sheet} {all done : List Segment} {begun : Segment} (p : Point max old all done begun) (whole : List ℕ) → (segments_released max true all old).text ≡ old.text ++ whole → whole ≡ text_to p ++ text_from p
whole_is {old = old} p whole e = append_cancel_left old.text whole (text_to p ++ text_from p) (sym e ∙ (whole_text p).text)

-- the place where `begun` ends
place_at : {max : ℕ} {old : Sheet} {all done : List Segment} {begun : Segment} (p : Point max old all done begun) → after_text (text_in begun) (line_ended (is_ended p) p.so_far).place ≡ after_text (text_to p) old.place
place_at {old = old} {begun = begun} p =
    ended_place (is_ended p) (text_in begun) p.so_far
    ∙ ap (after_text (part_text p.so_far.line_end (is_ended p) (text_in begun))) p.adds.place
    ∙ sym (after_both p.text (part_text p.so_far.line_end (is_ended p) (text_in begun)) old.place)

-- a position that is noted there is recorded there
recorded_at : {max : ℕ} {old : Sheet} {all done : List Segment} {begun : Segment} (p : Point max old all done begun) (pos : BytePos) → IsNoted pos begun → IsRecorded pos (after_text (text_to p) old.place) (segments_released max true all old).pairs
recorded_at {max = max} {old = old} {all = all} {begun = begun} p pos (inl e) = inl e
recorded_at {max = max} {old = old} {all = all} {begun = begun} p pos (inr n) =
    elim (cases_Bool (pos.0 == 0)) [
      | inl z ↦ inl (eqb-true pos.0 0 z)
      | inr z ↦
          let q = note_recorded max p.first pos p.segment p.later (text_in begun) p.so_far z (p.longer.notes pos (text_in begun) n) in
          let P : Sheet → Type 0 = λ s. has_pair (pair_at pos (after_text (text_to p) old.place)) s.pairs ≡ true in
          inr (subst P (sym p.goes_on) (subst (λ (v : Place). has_pair (pair_at pos v) (segments_released max false p.later (sheet_behind p)).pairs ≡ true) (place_at p) q))
    ]

-- ---- from one point to the next

-- The end of another segment that was begun, and the text up to there is longer by this one.
record Behind {max : ℕ} {old : Sheet} {all done : List Segment} {begun : Segment} (p : Point max old all done begun) (ds : List Segment) (held : Segment) (between : List ℕ) : Type 0 where
  point : Point max old all ds held
  text : text_to point ≡ text_to p ++ between

record Onward {max : ℕ} {old : Sheet} {all done : List Segment} {begun : Segment} (p : Point max old all done begun) (ds : List Segment) (held : Segment) : Type 0 where
  between : List ℕ
  behind : Behind p ds held between

-- the segment goes on by a text
behind_here : {max : ℕ} {old : Sheet} {all done : List Segment} {begun : Segment} (p : Point max old all done begun) (held : Segment) (t : List ℕ) → text_in held ≡ text_in begun ++ t → Longer held p.segment → Behind p done held t
behind_here {begun = begun} p held t k j =
    let e : List ℕ = p.so_far.line_end in
    let b : Bool = is_ended p in
    record {
      point = record { so_far = p.so_far; first = p.first; text = p.text; adds = p.adds; segment = p.segment; later = p.later; split = p.split; longer = j; goes_on = p.goes_on };
      text = ap (λ z. p.text ++ z) (ap (part_text e b) k ∙ part_more e b (text_in begun) t) ∙ sym (append_assoc p.text (part_text e b (text_in begun)) t);
    }

released_first : (max : ℕ) (first : Bool) (g : Segment) (gs : List Segment) (s : Sheet) → segments_released max first (g ∷ gs) s ≡ segments_released max false gs (segment_released max first g s)
unfolding segments_released
released_first max first g gs s = refl

-- others come after it
onward_after : {max : ℕ} {old : Sheet} {all done : List Segment} {begun : Segment} (p : Point max old all done begun) (ds xs : List Segment) (held g : Segment) (gs : List Segment) → p.later ≡ xs ++ (g ∷ gs) → all ≡ ds ++ (g ∷ gs) → Longer held g → Onward p ds held
onward_after {max = max} {old = old} {begun = begun} p ds xs held g gs f split k =
    let there : Sheet = sheet_behind p in
    let next : Sheet = segments_released max false xs there in
    let e : List ℕ = p.so_far.line_end in
    let b : Bool = is_ended p in
    let front : List ℕ = part_text e b (text_in begun) in
    let back : List ℕ = text_of there.line_end (released_parts max xs there) in
    let last : List ℕ = part_text next.line_end (ends_before max false g next) (text_in held) in
    record {
      between = p.longer.added ++ (back ++ last);
      behind = record {
        point = record {
          so_far = next;
          first = false;
          text = p.text ++ (part_text e b (text_in p.segment) ++ back);
          adds = adds_then old p.so_far next p.adds (adds_then p.so_far there next (segment_adds max p.first p.segment p.so_far) (parts_add max xs there));
          segment = g;
          later = gs;
          split = split;
          longer = k;
          goes_on = p.goes_on ∙ ap (λ z. segments_released max false z there) f ∙ released_append max xs (g ∷ gs) there ∙ released_first max false g gs next;
        };
        text =
            ap (λ z. (p.text ++ (z ++ back)) ++ last) (segment_text p)
            ∙ append_assoc p.text ((front ++ p.longer.added) ++ back) last
            ∙ ap (λ z. p.text ++ z) (append_assoc (front ++ p.longer.added) back last ∙ append_assoc front p.longer.added (back ++ last))
            ∙ sym (append_assoc p.text front (p.longer.added ++ (back ++ last)));
      };
    }

onward : {max : ℕ} {old : Sheet} {all done : List Segment} {begun : Segment} (p : Point max old all done begun) (ds : List Segment) (held : Segment) → GoOn done begun (Cutting ds held) → Among ds held all → Onward p ds held
onward {done = done} {begun = begun} p ds held (still_last next l k) a =
    let f : ds ≡ done = cc l in
    let e : next ≡ held = cc l in
    let both : (p.segment ∷ p.later) ≡ (a.segment ∷ a.later) = append_cancel_left done (p.segment ∷ p.later) (a.segment ∷ a.later) (sym p.split ∙ a.split ∙ ap (λ z. z ++ (a.segment ∷ a.later)) f) in
    let g : a.segment ≡ p.segment = cc both in
    let j : Longer begun held = subst (λ z. Longer begun z) e k in
    subst (λ z. Onward p z held) (sym f) (record { between = j.added; behind = behind_here p held j.added j.text (subst (λ z. Longer held z) g a.longer) })
onward {done = done} p ds held (followed x xs next l k) a =
    let f : ds ≡ done ++ (x ∷ xs) = cc l in
    let both : (p.segment ∷ p.later) ≡ (x ∷ (xs ++ (a.segment ∷ a.later))) =
    append_cancel_left done (p.segment ∷ p.later) (x ∷ (xs ++ (a.segment ∷ a.later))) (sym p.split ∙ a.split ∙ ap (λ z. z ++ (a.segment ∷ a.later)) f ∙ append_assoc done (x ∷ xs) (a.segment ∷ a.later)) in
    let g : p.later ≡ xs ++ (a.segment ∷ a.later) = cc both in
    onward_after p ds xs held a.segment a.later g a.split a.longer

-- ---- the names

-- what is behind a text, where another follows, and then a third
behind_both : (whole t u v rest between name after : List ℕ) → whole ≡ t ++ rest → u ≡ t ++ between → v ≡ u ++ name → whole ≡ v ++ after → rest ≡ between ++ (name ++ after)
behind_both whole t u v rest between name after e f g h =
    let all : whole ≡ t ++ (between ++ (name ++ after)) = h ∙ ap (λ z. z ++ after) g ∙ append_assoc u name after ∙ ap (λ z. z ++ (name ++ after)) f ∙ append_assoc t between (name ++ after) in
    append_cancel_left t rest (between ++ (name ++ after)) (sym e ∙ all)

place_behind : (t u between : List ℕ) (p : Place) → u ≡ t ++ between → after_text u p ≡ after_text between (after_text t p)
place_behind t u between p e = ap (λ z. after_text z p) e ∙ after_both t between p

-- A point where a name begins, and the one behind it.
record AtName {max : ℕ} {old : Sheet} {all done : List Segment} {begun : Segment} (p : Point max old all done begun) (ds : List Segment) (held : Segment) (name : List ℕ) : Type 0 where
  between : List ℕ
  to : Behind p ds held between
  past : Behind to.point ds (with_text name held) name

name_past : {max : ℕ} {old : Sheet} {all done : List Segment} {begun : Segment} (p : Point max old all done begun) (name : List ℕ) → Among done (with_text name begun) all → Behind p done (with_text name begun) name
name_past {done = done} {begun = begun} p name a =
    let both : (p.segment ∷ p.later) ≡ (a.segment ∷ a.later) = append_cancel_left done (p.segment ∷ p.later) (a.segment ∷ a.later) (sym p.split ∙ a.split) in
    let same : a.segment ≡ p.segment = cc both in
    behind_here p (with_text name begun) name (text-more begun name) (subst (λ z. Longer (with_text name begun) z) same a.longer)

at_name : {max : ℕ} {old : Sheet} {all done : List Segment} {begun : Segment} (p : Point max old all done begun) (ds : List Segment) (held : Segment) (name : List ℕ) → GoOn done begun (Cutting ds held) → Among ds (with_text name held) all → AtName p ds held name
at_name p ds held name g a =
    let to = onward p ds held g (record { segment = a.segment; later = a.later; split = a.split; longer = longer_trans held (with_text name held) a.segment (longer_text name held) a.longer }) in
    record { between = to.between; to = to.behind; past = name_past to.behind.point name a }

-- a name there, and those behind it
name_out : {max : ℕ} {old : Sheet} {all done : List Segment} {begun : Segment} (config : Config) (p : Point max old all done begun) (x : PlacedName) (xs : List PlacedName) (ds : List Segment) (held : Segment) (n : AtName p ds held (written_as config x)) (whole rest : List ℕ) →
    (segments_released max true all old).text ≡ old.text ++ whole → whole ≡ text_to p ++ rest → IsNoted x.at held →
    ((after : List ℕ) → whole ≡ text_to n.past.point ++ after → NamesStand config (after_text (text_to n.past.point) old.place) after (segments_released max true all old).pairs xs) →
    NamesStand config (after_text (text_to p) old.place) rest (segments_released max true all old).pairs (x ∷ xs)
unfolding NamesStand
name_out {max = max} {old = old} {all = all} config p x xs ds held n whole rest is_whole e noted more =
    let pairs : List Pair = (segments_released max true all old).pairs in
    let name : List ℕ = written_as config x in
    let q : Point max old all ds held = n.to.point in
    let r : Point max old all ds (with_text name held) = n.past.point in
    let is_all : whole ≡ text_to r ++ text_from r = whole_is r whole is_whole in
    let here : after_text (text_to q) old.place ≡ after_text n.between (after_text (text_to p) old.place) = place_behind (text_to p) (text_to q) n.between old.place n.to.text in
    let there : after_text (text_to r) old.place ≡ after_text name (after_text n.between (after_text (text_to p) old.place)) = place_behind (text_to q) (text_to r) name old.place n.past.text ∙ ap (after_text name) here in (
      n.between,
      text_from r,
      behind_both whole (text_to p) (text_to q) (text_to r) rest n.between name (text_from r) e n.to.text n.past.text is_all,
      subst (λ (v : Place). IsRecorded x.at v pairs) here (recorded_at q x.at noted),
      subst (λ (v : Place). NamesStand config v (text_from r) pairs xs) there (more (text_from r) is_all),
    )

names_out : (max : ℕ) (config : Config) (old : Sheet) (ds : List Segment) (last : Segment) (whole : List ℕ) → (segments_released max true (ds ++ (last ∷ [])) old).text ≡ old.text ++ whole →
    (xs : List PlacedName) (done : List Segment) (begun : Segment) (p : Point max old (ds ++ (last ∷ [])) done begun) (rest : List ℕ) → whole ≡ text_to p ++ rest → NamesCut config done begun (Cutting ds last) xs →
    NamesStand config (after_text (text_to p) old.place) rest (segments_released max true (ds ++ (last ∷ [])) old).pairs xs
unfolding NamesCut NamesStand
names_out max config old ds last whole is_whole [] done begun p rest e h = tt
names_out max config old ds last whole is_whole (x ∷ xs) done begun p rest e h =
    let named : Segment = with_text (written_as config x) h.1 in
    let n = at_name p h.0 h.1 (written_as config x) h.2 (among h.0 named ds last (names_end config xs h.0 named (Cutting ds last) h.4)) in
    name_out config p x xs h.0 h.1 n whole rest is_whole e h.3 (λ after f. names_out max config old ds last whole is_whole xs h.0 named n.past.point after f h.4)

-- nothing went out so far
start_text : (max : ℕ) (g : Segment) (old : Sheet) → part_text old.line_end (ends_before max true g old) (text_in no_segment) ≡ []
unfolding part_text ends_before
start_text max g old = text-none

-- Names that stand in the segments of a sheet that was cut stand in the text of these segments, with a greatest line length.
pub released_names : (max : ℕ) (config : Config) (old new : Sheet) (ds : List Segment) (last : Segment) (xs : List PlacedName) →
    new.text ≡ (segments_released max true (ds ++ (last ∷ [])) old).text → new.pairs ≡ (segments_released max true (ds ++ (last ∷ [])) old).pairs → NamesCut config [] no_segment (Cutting ds last) xs → RecordsNames config xs old new
unfolding after_text
released_names max config old new ds last xs is_released pairs h =
    let all : List Segment = ds ++ (last ∷ []) in
    let a : Among [] no_segment all = among [] no_segment ds last (names_end config xs [] no_segment (Cutting ds last) h) in
    let p : Point max old all [] no_segment = record {
      so_far = old;
      first = true;
      text = [];
      adds = adds_nothing old;
      segment = a.segment;
      later = a.later;
      split = a.split;
      longer = a.longer;
      goes_on = ap (λ z. segments_released max true z old) a.split ∙ released_first max true a.segment a.later old;
    } in
    let none : text_to p ≡ [] = start_text max a.segment old in
    let w = whole_text p in
    let stand = names_out max config old ds last (text_to p ++ text_from p) w.text xs [] no_segment p (text_from p) refl h in
    record {
      text = text_from p;
      is_text = is_released ∙ w.text ∙ ap (λ z. old.text ++ (z ++ text_from p)) none;
      stand = subst (λ (z : List Pair). NamesStand config old.place (text_from p) z xs) (sym pairs) (subst (λ z. NamesStand config (after_text z old.place) (text_from p) (segments_released max true all old).pairs xs) none stand);
    }
