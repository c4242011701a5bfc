-- Where the texts stand that calls hand over, out or held, whatever lines are made: of `f("a")` with an allowed break behind `(`, `f(` is out
-- and `"a"` held, and a line end may come between.
use Rattle.std.proofs.Common.{◌≡◌, ℕ, zero, suc, Bool, true, false, cond, codes, List, [], ◌∷◌, ◌++◌, refl, sym, ap, ◌∙◌, subst, append_assoc, append-nil, Option, Some, None, ◌&&◌}
use Rattle.std.specs.List.{repeat}
use Rattle.std.specs.Str.{chars}
use Rattle.std.proofs.lemmas.Bool.{true≢false}
use Rattle.swc_ecma_codegen_common.specs.declared.positions.BytePos.{BytePos}
use Rattle.swc_ecma_codegen_common.specs.declared.positions.Span.{Span}
use Rattle.swc_ecma_codegen_grammar.specs.GapRules.{fuses, Separated}
use Rattle.swc_ecma_codegen_text_writer.specs.Filling.{part_text}
use Rattle.swc_ecma_codegen_text_writer.specs.Sheet.{Sheet, Item, Semi, Space, Keyword, Operator, Param, Property, Line, Lit, Comment, StrLit, Str, Symbol, Punct, Position, Commit, Deeper, Shallower, BeginLines, AllowBreak, EndLines, Semicolons, AtOnce, HoldsNone, HoldsOne, Segment, no_segment, with_text, with_note, text_in, Flow, Flowing, Filling, Cutting, fills_lines, released, noted, appended_by, appended, indented, is_recorded, recorded_by, recorded, start_recorded, end_recorded, pending_recorded, started, written, literal_written, ended, pointed, ends_before, segment_released, begun_by, allowed_by, allowed, closed_by, passed_on, settled_by, settled, semicolon_by, dropped, is_ending, before_punct, allowed_at, effect}
use Rattle.swc_ecma_codegen_text_writer.proofs.Added.{segment_adds}
use Rattle.swc_ecma_codegen_text_writer.proofs.Sheets.{Same, alike_same, recorded_alike, settled_same, written_same, effect_same}
use Rattle.swc_ecma_codegen_text_writer.proofs.Twins.{text-more, text-noted, text-none}
use Rattle.swc_ecma_codegen_tokens.specs.Run.{State, Guard, put, text_of}

-- ---- texts in a text

-- A way in which some texts stand in a text: those of two texts stand in the one and then the other, and no text is needed to stand in
-- nothing, in a blank or in a semicolon.
pub record Stands (P : List (List ℕ) → List ℕ → Type 0) : Type 0 where
  pub nothing : P [] []
  pub both : (ts us : List (List ℕ)) (t u : List ℕ) → P ts t → P us u → P (ts ++ us) (t ++ u)
  pub blank : P [] (codes " ")
  pub semicolon : P [] (codes ";")

-- nor in what indents lines, or ends them
pub record FitsLines (P : List (List ℕ) → List ℕ → Type 0) (s : Sheet) : Type 0 where
  pub indent_text : P [] s.indent_text
  pub line_end : P [] s.line_end

fits_same : {P : List (List ℕ) → List ℕ → Type 0} (a b : Sheet) → Same b a → FitsLines P a → FitsLines P b
fits_same {P} a b e l = record { indent_text = subst (λ z. P [] z) (sym e.indent_text) l.indent_text; line_end = subst (λ z. P [] z) (sym e.line_end) l.line_end }

-- what is held of a text while lines are filled
abbrev pub held_text : Flow → List ℕ
held_text Flowing = []
held_text (Filling max first held) = text_in held
held_text (Cutting done begun) = []

holds_none : (l : Flow) → fills_lines l ≡ false → held_text l ≡ []
holds_none Flowing h = refl
holds_none (Filling max first held) h = absurd (true≢false h)
holds_none (Cutting done begun) h = refl

-- What a text is longer by has these.
pub record AddsTexts (P : List (List ℕ) → List ℕ → Type 0) (ts : List (List ℕ)) (old new : List ℕ) : Type 0 where
  pub added : List ℕ
  pub is_added : new ≡ old ++ added
  pub stand : P ts added

-- Some of these texts stand in what is out, and the others in what is held: none is torn.
pub record Brought (P : List (List ℕ) → List ℕ → Type 0) (ts : List (List ℕ)) (old text : List ℕ) (lines : Flow) : Type 0 where
  pub out : List (List ℕ)
  pub held : List (List ℕ)
  pub are : ts ≡ out ++ held
  pub adds : AddsTexts P out old text
  pub is_held : P held (held_text lines)

abbrev pub Brings : (List (List ℕ) → List ℕ → Type 0) → List (List ℕ) → List ℕ → Sheet → Type 0
Brings P ts old s = Brought P ts old s.text s.lines

adds_then : {P : List (List ℕ) → List ℕ → Type 0} {ts us : List (List ℕ)} {old t : List ℕ} (k : Stands P) (u v : List ℕ) → P us u → v ≡ t ++ u → AddsTexts P ts old t → AddsTexts P (ts ++ us) old v
adds_then {P} {ts} {us} {old} {t} k u v p e h = record {
  added = h.added ++ u;
  is_added = e ∙ ap (λ z. z ++ u) h.is_added ∙ append_assoc old h.added u;
  stand = k.both ts us h.added u h.stand p;
}

-- where nothing is held, all are out
pub all_out : {P : List (List ℕ) → List ℕ → Type 0} {ts : List (List ℕ)} {old text : List ℕ} (k : Stands P) (l : Flow) → held_text l ≡ [] → Brought P ts old text l → AddsTexts P ts old text
all_out {P} {ts} {old} {text} k l e h =
    let p : P h.held [] = subst (λ z. P h.held z) e h.is_held in
    subst (λ z. AddsTexts P z old text) (sym h.are) (adds_then k [] text p (sym (append-nil text)) h.adds)

only_out : {P : List (List ℕ) → List ℕ → Type 0} {ts : List (List ℕ)} {old text : List ℕ} (k : Stands P) (l : Flow) → held_text l ≡ [] → AddsTexts P ts old text → Brought P ts old text l
only_out {P} {ts} k l e h = record { out = ts; held = []; are = sym (append-nil ts); adds = h; is_held = subst (λ z. P [] z) (sym e) k.nothing }

-- where as much is out, and as much held
brought_same : {P : List (List ℕ) → List ℕ → Type 0} {ts : List (List ℕ)} {old t u : List ℕ} (l m : Flow) → u ≡ t → held_text m ≡ held_text l → Brought P ts old t l → Brought P ts old u m
brought_same {P} {ts} {old} {t} {u} l m e f h = record {
  out = h.out;
  held = h.held;
  are = h.are;
  adds = subst (λ z. AddsTexts P h.out old z) (sym e) h.adds;
  is_held = subst (λ z. P h.held z) (sym f) h.is_held;
}

-- texts that stand where nothing is
brought_none : {P : List (List ℕ) → List ℕ → Type 0} {ts us : List (List ℕ)} {old t : List ℕ} (k : Stands P) (l : Flow) → P us [] → Brought P ts old t l → Brought P (ts ++ us) old t l
brought_none {P} {ts} {us} k l p h = record {
  out = h.out;
  held = h.held ++ us;
  are = ap (λ z. z ++ us) h.are ∙ append_assoc h.out h.held us;
  adds = h.adds;
  is_held = subst (λ z. P (h.held ++ us) z) (append-nil (held_text l)) (k.both h.held us (held_text l) [] h.is_held p);
}

brought_still : {P : List (List ℕ) → List ℕ → Type 0} {ts : List (List ℕ)} {old t : List ℕ} {l : Flow} → Brought P (ts ++ []) old t l → Brought P ts old t l
brought_still {P} {ts} {old} {t} {l} h = subst (λ z. Brought P z old t l) (append-nil ts) h

-- ---- a text more

appended_by_brings : {P : List (List ℕ) → List ℕ → Type 0} {ts us : List (List ℕ)} {old : List ℕ} (k : Stands P) (l : Flow) (t : List ℕ) (s : Sheet) → s.lines ≡ l → P us t → Brings P ts old s → Brings P (ts ++ us) old (appended_by l t s)
unfolding appended_by released
appended_by_brings k Flowing t s e p h = only_out k s.lines (ap held_text e) (adds_then k t (s.text ++ t) p refl (all_out k s.lines (ap held_text e) h))
appended_by_brings {P} {ts} {us} k (Filling max first held) t s e p h =
    let all : P (h.held ++ us) (text_in held ++ t) = k.both h.held us (text_in held) t (subst (λ z. P h.held z) (ap held_text e) h.is_held) p in
    record {
      out = h.out;
      held = h.held ++ us;
      are = ap (λ z. z ++ us) h.are ∙ append_assoc h.out h.held us;
      adds = h.adds;
      is_held = subst (λ z. P (h.held ++ us) z) (sym (text-more held t)) all;
    }
appended_by_brings k (Cutting done begun) t s e p h = only_out k (Cutting done (with_text t begun)) refl (adds_then k t (s.text ++ t) p refl (all_out k s.lines (ap held_text e) h))

appended_brings : {P : List (List ℕ) → List ℕ → Type 0} {ts us : List (List ℕ)} {old : List ℕ} (k : Stands P) (t : List ℕ) (s : Sheet) → P us t → Brings P ts old s → Brings P (ts ++ us) old (appended t s)
unfolding appended
appended_brings k t s p h = appended_by_brings k s.lines t s refl p h

-- ---- positions

recorded_by_brings : {P : List (List ℕ) → List ℕ → Type 0} {ts : List (List ℕ)} {old : List ℕ} (l : Flow) (pos : BytePos) (s : Sheet) → s.lines ≡ l → Brings P ts old s → Brings P ts old (recorded_by l pos s)
unfolding recorded_by noted
recorded_by_brings Flowing pos s e h = h
recorded_by_brings (Filling max first held) pos s e h = brought_same s.lines (Filling max first (with_note pos held)) refl (text-noted held pos ∙ sym (ap held_text e)) h
recorded_by_brings (Cutting done begun) pos s e h = brought_same s.lines (Cutting done (with_note pos begun)) refl (sym (ap held_text e)) h

recorded_brings : {P : List (List ℕ) → List ℕ → Type 0} {ts : List (List ℕ)} {old : List ℕ} (pos : BytePos) (s : Sheet) → Brings P ts old s → Brings P ts old (recorded pos s)
unfolding recorded
recorded_brings {P} {ts} {old} pos s h = elim (is_recorded pos s) as (λ b. Brings P ts old (cond b (recorded_by s.lines pos s) s)) [ true ↦ recorded_by_brings s.lines pos s refl h | false ↦ h ]

start_brings : {P : List (List ℕ) → List ℕ → Type 0} {ts : List (List ℕ)} {old : List ℕ} (span : Option Span) (s : Sheet) → Brings P ts old s → Brings P ts old (start_recorded span s)
unfolding start_recorded
start_brings None s h = h
start_brings (Some span) s h = recorded_brings span.lo s h

end_brings : {P : List (List ℕ) → List ℕ → Type 0} {ts : List (List ℕ)} {old : List ℕ} (span : Option Span) (s : Sheet) → Brings P ts old s → Brings P ts old (end_recorded span s)
unfolding end_recorded
end_brings None s h = h
end_brings (Some span) s h = recorded_brings span.hi s h

pending_brings : {P : List (List ℕ) → List ℕ → Type 0} {ts : List (List ℕ)} {old : List ℕ} (pos : Option BytePos) (s : Sheet) → Brings P ts old s → Brings P ts old (pending_recorded pos s)
unfolding pending_recorded
pending_brings None s h = h
pending_brings (Some pos) s h = recorded_brings pos (record s { pending = None }) h

pointed_brings : {P : List (List ℕ) → List ℕ → Type 0} {ts : List (List ℕ)} {old : List ℕ} (pos : BytePos) (s : Sheet) → Brings P ts old s → Brings P ts old (pointed pos s)
unfolding pointed
pointed_brings {P} {ts} {old} pos s h =
    elim (s.keeps_positions && s.at_line_start) as (λ b. Brings P ts old (cond b (record s { pending = Some pos }) (recorded pos s))) [ true ↦ h | false ↦ recorded_brings pos s h ]

-- ---- texts of calls

repeated : {P : List (List ℕ) → List ℕ → Type 0} (k : Stands P) (n : ℕ) (t : List ℕ) → P [] t → P [] (repeat n t)
repeated k zero t p = k.nothing
repeated k (suc n) t p = k.both [] [] t (repeat n t) p (repeated k n t p)

started_brings : {P : List (List ℕ) → List ℕ → Type 0} {ts : List (List ℕ)} {old : List ℕ} (k : Stands P) (s : Sheet) → FitsLines P s → Brings P ts old s → Brings P ts old (started s)
unfolding started indented
started_brings {P} {ts} {old} k s l h =
    let indent : List ℕ = repeat s.indentation s.indent_text in
    let begun : Sheet = record (appended indent s) { at_line_start = false } in
    elim s.at_line_start as (λ b. Brings P ts old (cond b (pending_recorded s.pending begun) s))
    [ true ↦ pending_brings s.pending begun (brought_still (appended_brings k indent s (repeated k s.indentation s.indent_text l.indent_text) h)) | false ↦ h ]

written_brings : {P : List (List ℕ) → List ℕ → Type 0} {ts us : List (List ℕ)} {old : List ℕ} (k : Stands P) (span : Option Span) (t : List ℕ) (s : Sheet) → FitsLines P s → P us t → Brings P ts old s → Brings P (ts ++ us) old (written span t s)
unfolding written
written_brings k span [] s l p h = brought_none k s.lines p h
written_brings k span (c ∷ cs) s l p h =
    let w : Sheet = start_recorded span (started s) in
    end_brings span (appended (c ∷ cs) w) (appended_brings k (c ∷ cs) w p (start_brings span (started s) (started_brings k s l h)))

literal_brings : {P : List (List ℕ) → List ℕ → Type 0} {ts us : List (List ℕ)} {old : List ℕ} (k : Stands P) (span : Span) (t : List ℕ) (s : Sheet) → FitsLines P s → P us t → Brings P ts old s → Brings P (ts ++ us) old (literal_written span t s)
unfolding literal_written
literal_brings k span [] s l p h = brought_none k s.lines p h
literal_brings {P} k span (c ∷ cs) s l p h =
    let w : Sheet = recorded span.lo s in
    let m : FitsLines P w = fits_same s w (alike_same s w (recorded_alike span.lo s)) l in
    recorded_brings span.hi (written None (c ∷ cs) w) (written_brings k None (c ∷ cs) w m p (recorded_brings span.lo s h))

ended_brings : {P : List (List ℕ) → List ℕ → Type 0} {ts us : List (List ℕ)} {old : List ℕ} (k : Stands P) (s : Sheet) → FitsLines P s → P us [] → Brings P ts old s → Brings P (ts ++ us) old (ended s)
unfolding ended
ended_brings {P} {ts} {us} {old} k s l p h =
    let line : P us s.line_end = subst (λ z. P us z) (append-nil s.line_end) (k.both [] us s.line_end [] l.line_end p) in
    elim s.at_line_start as (λ b. Brings P (ts ++ us) old (cond b (record s { pending = None }) (record (appended s.line_end s) { at_line_start = true })))
    [ true ↦ brought_none k s.lines p h | false ↦ appended_brings k s.line_end s line h ]

-- ---- segments that go out

part_fits : {P : List (List ℕ) → List ℕ → Type 0} (k : Stands P) (ts : List (List ℕ)) (e : List ℕ) (b : Bool) (t : List ℕ) → P [] e → P ts t → P ts (part_text e b t)
unfolding part_text
part_fits k ts e true t p q = k.both [] ts e t p q
part_fits k ts e false t p q = q

-- what is held goes out
released_adds : {P : List (List ℕ) → List ℕ → Type 0} {ts : List (List ℕ)} {old : List ℕ} (k : Stands P) (max : ℕ) (first : Bool) (held : Segment) (s : Sheet) → s.lines ≡ Filling max first held → FitsLines P s → Brings P ts old s → AddsTexts P ts old (segment_released max first held s).text
released_adds {P} {ts} {old} k max first held s e l h =
    let b : Bool = ends_before max first held s in
    let p : P h.held (part_text s.line_end b (text_in held)) = part_fits k h.held s.line_end b (text_in held) l.line_end (subst (λ z. P h.held z) (ap held_text e) h.is_held) in
    subst (λ z. AddsTexts P z old (segment_released max first held s).text) (sym h.are) (adds_then k (part_text s.line_end b (text_in held)) _ p (segment_adds max first held s).text h.adds)

allowed_by_brings : {P : List (List ℕ) → List ℕ → Type 0} {ts : List (List ℕ)} {old : List ℕ} (k : Stands P) (l : Flow) (s : Sheet) → s.lines ≡ l → FitsLines P s → Brings P ts old s → Brings P ts old (allowed_by l s)
unfolding allowed_by
allowed_by_brings k Flowing s e l h = h
allowed_by_brings k (Filling max first held) s e l h = only_out k (Filling max false no_segment) text-none (released_adds k max first held s e l h)
allowed_by_brings k (Cutting done begun) s e l h = brought_same s.lines (Cutting (done ++ (begun ∷ [])) no_segment) refl (sym (ap held_text e)) h

allowed_brings : {P : List (List ℕ) → List ℕ → Type 0} {ts : List (List ℕ)} {old : List ℕ} (k : Stands P) (s : Sheet) → FitsLines P s → Brings P ts old s → Brings P ts old (allowed s)
unfolding allowed
allowed_brings k s l h = allowed_by_brings k s.lines s refl l h

begun_by_brings : {P : List (List ℕ) → List ℕ → Type 0} {ts : List (List ℕ)} {old : List ℕ} (l : Flow) (max : ℕ) (s : Sheet) → s.lines ≡ l → Brings P ts old s → Brings P ts old (begun_by l max s)
unfolding begun_by
begun_by_brings Flowing max s e h = brought_same s.lines (Filling max true no_segment) refl (text-none ∙ sym (ap held_text e)) h
begun_by_brings (Filling before first held) max s e h = brought_same s.lines (Filling max first held) refl (sym (ap held_text e)) h
begun_by_brings (Cutting done begun) max s e h = h

closed_by_brings : {P : List (List ℕ) → List ℕ → Type 0} {ts : List (List ℕ)} {old : List ℕ} (k : Stands P) (l : Flow) (s : Sheet) → s.lines ≡ l → FitsLines P s → Brings P ts old s → Brings P ts old (closed_by l s)
unfolding closed_by
closed_by_brings k Flowing s e l h = h
closed_by_brings k (Filling max first held) s e l h = only_out k Flowing refl (released_adds k max first held s e l h)
closed_by_brings k (Cutting done begun) s e l h = h

-- ---- calls

passed_brings : {P : List (List ℕ) → List ℕ → Type 0} {ts : List (List ℕ)} {old : List ℕ} (k : Stands P) (b : Bool) (s : Sheet) → FitsLines P s → Brings P ts old s → Brings P ts old (passed_on b s)
unfolding passed_on
passed_brings k true s l h = allowed_brings k s l h
passed_brings k false s l h = h

settled_by_brings : {P : List (List ℕ) → List ℕ → Type 0} {ts : List (List ℕ)} {old : List ℕ} (k : Stands P) (x : Semicolons) (s : Sheet) → FitsLines P s → Brings P ts old s → Brings P ts old (settled_by x s)
unfolding settled_by
settled_by_brings k AtOnce s l h = h
settled_by_brings k HoldsNone s l h = h
settled_by_brings {P} k (HoldsOne span kept) s l h =
    let none : Sheet = record s { semicolons = HoldsNone } in
    let out : Sheet = written span (codes ";") none in
    let fits : FitsLines P none = record { indent_text = l.indent_text; line_end = l.line_end } in
    passed_brings k kept out (fits_same none out (written_same span (codes ";") none) fits) (brought_still (written_brings k span (codes ";") none fits k.semicolon h))

settled_brings : {P : List (List ℕ) → List ℕ → Type 0} {ts : List (List ℕ)} {old : List ℕ} (k : Stands P) (s : Sheet) → FitsLines P s → Brings P ts old s → Brings P ts old (settled s)
settled_brings k s l h = settled_by_brings k s.semicolons s l h

settled_fits : {P : List (List ℕ) → List ℕ → Type 0} (s : Sheet) → FitsLines P s → FitsLines P (settled s)
settled_fits s l = fits_same s (settled s) (settled_same s) l

semicolon_brings : {P : List (List ℕ) → List ℕ → Type 0} {ts us : List (List ℕ)} {old : List ℕ} (k : Stands P) (x : Semicolons) (span : Option Span) (s : Sheet) → FitsLines P s → P us (codes ";") → P us [] → Brings P ts old s → Brings P (ts ++ us) old (semicolon_by x span s)
unfolding semicolon_by
semicolon_brings k AtOnce span s l p q h = written_brings k span (codes ";") s l p h
semicolon_brings k HoldsNone span s l p q h = brought_none k s.lines q h
semicolon_brings k (HoldsOne before kept) span s l p q h = brought_none k s.lines q h

break_brings : {P : List (List ℕ) → List ℕ → Type 0} {ts : List (List ℕ)} {old : List ℕ} (k : Stands P) (x : Semicolons) (s : Sheet) → FitsLines P s → Brings P ts old s → Brings P ts old (allowed_at x s)
unfolding allowed_at
break_brings k AtOnce s l h = allowed_brings k s l h
break_brings k HoldsNone s l h = allowed_brings k s l h
break_brings k (HoldsOne span kept) s l h = h

text_brings : {P : List (List ℕ) → List ℕ → Type 0} {ts us : List (List ℕ)} {old : List ℕ} (k : Stands P) (span : Option Span) (t : List ℕ) (s : Sheet) → FitsLines P s → P us t → Brings P ts old s → Brings P (ts ++ us) old (written span t (settled s))
text_brings k span t s l p h = written_brings k span t (settled s) (settled_fits s l) p (settled_brings k s l h)

literal_text : {P : List (List ℕ) → List ℕ → Type 0} {ts us : List (List ℕ)} {old : List ℕ} (k : Stands P) (span : Span) (t : List ℕ) (s : Sheet) → FitsLines P s → P us t → Brings P ts old s → Brings P (ts ++ us) old (literal_written span t (settled s))
literal_text k span t s l p h = literal_brings k span t (settled s) (settled_fits s l) p (settled_brings k s l h)

punct_brings : {P : List (List ℕ) → List ℕ → Type 0} {ts us : List (List ℕ)} {old : List ℕ} (k : Stands P) (span : Option Span) (t : List ℕ) (s : Sheet) → FitsLines P s → P us t → Brings P ts old s → Brings P (ts ++ us) old (written span t (before_punct t s))
unfolding before_punct
punct_brings {P} {ts} {us} {old} k span t s l p h =
    let lost : Sheet = record s { semicolons = dropped s.semicolons } in
    elim (is_ending t) as (λ b. Brings P (ts ++ us) old (written span t (cond b lost (settled s))))
    [ true ↦ written_brings k span t lost (record { indent_text = l.indent_text; line_end = l.line_end }) p h | false ↦ text_brings k span t s l p h ]

-- A call whose text holds these; a semicolon may also be held back, and is no text of its own.
effect_brings : {P : List (List ℕ) → List ℕ → Type 0} {ts us : List (List ℕ)} {old : List ℕ} (k : Stands P) (x : Item) (s : Sheet) → FitsLines P s → P us (text_of x) → ((span : Option Span) → x ≡ Semi span → P us []) → Brings P ts old s → Brings P (ts ++ us) old (effect x s)
unfolding effect text_of
effect_brings k (Semi span) s l p q h = semicolon_brings k s.semicolons span s l p (q span refl) h
effect_brings k Space s l p q h = text_brings k None (codes " ") s l p h
effect_brings k (Keyword span t) s l p q h = text_brings k span t s l p h
effect_brings k (Operator span t) s l p q h = text_brings k span t s l p h
effect_brings k (Param t) s l p q h = text_brings k None t s l p h
effect_brings k (Property t) s l p q h = text_brings k None t s l p h
effect_brings k Line s l p q h = ended_brings k (settled s) (settled_fits s l) p (settled_brings k s l h)
effect_brings k (Lit span t) s l p q h = literal_text k span t s l p h
effect_brings k (Comment t) s l p q h = text_brings k None t s l p h
effect_brings k (StrLit span t) s l p q h = literal_text k span t s l p h
effect_brings k (Str t) s l p q h = text_brings k None t s l p h
effect_brings k (Symbol span t) s l p q h = text_brings k (Some span) t s l p h
effect_brings k (Punct span t) s l p q h = punct_brings k span t s l p h
effect_brings k (Position pos) s l p q h = brought_none k (pointed pos s).lines p (pointed_brings pos s h)
effect_brings k Commit s l p q h = brought_none k (settled s).lines p (settled_brings k s l h)
effect_brings k Deeper s l p q h = brought_none k (settled s).lines p (settled_brings k s l h)
effect_brings k Shallower s l p q h = brought_none k (settled s).lines p (settled_brings k s l h)
effect_brings k (BeginLines max) s l p q h = brought_none k (begun_by s.lines max s).lines p (begun_by_brings s.lines max s refl h)
effect_brings k AllowBreak s l p q h = brought_none k (allowed_at s.semicolons s).lines p (break_brings k s.semicolons s l h)
effect_brings k EndLines s l p q h = brought_none k (closed_by s.lines s).lines p (closed_by_brings k s.lines s refl l h)

-- ---- what steps go on with

-- these texts were written since a text, and none stands in what is put between
pub record Goes (P : List (List ℕ) → List ℕ → Type 0) (ts : List (List ℕ)) (old : List ℕ) (s : Sheet) : Type 0 where
  pub lines : FitsLines P s
  pub brings : Brings P ts old s

pub call_goes : {P : List (List ℕ) → List ℕ → Type 0} {ts us : List (List ℕ)} {old : List ℕ} (k : Stands P) (x : Item) (s : Sheet) → P us (text_of x) → ((span : Option Span) → x ≡ Semi span → P us []) → Goes P ts old s → Goes P (ts ++ us) old (effect x s)
call_goes k x s p q g = record { lines = fits_same s (effect x s) (effect_same x s) g.lines; brings = effect_brings k x s g.lines p q g.brings }

-- a call in whose text none stands
pub call_still : {P : List (List ℕ) → List ℕ → Type 0} {ts : List (List ℕ)} {old : List ℕ} (k : Stands P) (x : Item) (s : Sheet) → P [] (text_of x) → Goes P ts old s → Goes P ts old (effect x s)
call_still {P} {ts} {old} k x s p g = subst (λ z. Goes P z old (effect x s)) (append-nil ts) (call_goes k x s p (λ span e. k.nothing) g)

pub guard_goes : {P : List (List ℕ) → List ℕ → Type 0} {ts : List (List ℕ)} {old : List ℕ} (k : Stands P) (t : List ℕ) (a : State) → Goes P ts old a.sheet → Goes P ts old (put (Guard t) a).sheet
unfolding put text_of
guard_goes {P} {ts} {old} k t a g =
    elim (fuses a.last (chars t)) as (λ b. Goes P ts old (cond b (record a { sheet = effect Space a.sheet; last = Separated }) a).sheet)
    [ true ↦ call_still k Space a.sheet k.blank g | false ↦ g ]

-- where nothing was written yet, and no lines are filled
pub goes_first : {P : List (List ℕ) → List ℕ → Type 0} (k : Stands P) (s : Sheet) → P [] s.indent_text → P [] s.line_end → fills_lines s.lines ≡ false → Goes P [] s.text s
goes_first {P} k s indent end n = record {
  lines = record { indent_text = indent; line_end = end };
  brings = only_out k s.lines (holds_none s.lines n) (record { added = []; is_added = sym (append-nil s.text); stand = k.nothing });
}

-- where no lines are filled any more, all are out
pub goes_last : {P : List (List ℕ) → List ℕ → Type 0} {ts : List (List ℕ)} {old : List ℕ} (k : Stands P) (s : Sheet) → fills_lines s.lines ≡ false → Goes P ts old s → AddsTexts P ts old s.text
goes_last k s n g = all_out k s.lines (holds_none s.lines n) g.brings
