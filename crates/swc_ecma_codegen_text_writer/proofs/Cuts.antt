-- How texts go into the segments of a sheet that is cut where breaks are allowed.
use Rattle.std.proofs.Common.{◌≡◌, ℕ, Bool, true, false, codes, List, [], ◌∷◌, ◌++◌, refl, sym, ap, ◌∙◌, subst, append_assoc, append-nil, cond, Option, Some, None, ◌&&◌}
use Rattle.std.specs.List.{repeat}
use Rattle.swc_ecma_codegen_common.specs.declared.positions.BytePos.{BytePos}
use Rattle.swc_ecma_codegen_common.specs.declared.positions.Span.{Span}
use Rattle.swc_ecma_codegen_text_writer.specs.Sheet.{Sheet, Item, Semi, Space, Keyword, Operator, Param, Property, Line, Lit, Comment, StrLit, Str, Symbol, Punct, Position, Commit, Deeper, Shallower, BeginLines, AllowBreak, EndLines, Semicolons, AtOnce, HoldsNone, HoldsOne, Segment, no_segment, with_text, with_note, notes_text, text_in, Flow, Cutting, appended_by, appended, indented, is_recorded, recorded_by, recorded, start_recorded, end_recorded, pending_recorded, started, written, literal_written, ended, pointed, begun_by, allowed_by, allowed, closed_by, passed_on, settled_by, settled, semicolon_by, dropped, is_ending, before_punct, allowed_at, effect}
use Rattle.swc_ecma_codegen_text_writer.proofs.Twins.{text-more, text-noted}

-- The last segment goes on by a text, and those before it stay.
pub record Grows (t : List ℕ) (done : List Segment) (begun : Segment) (new : Flow) : Type 0 where
  pub held : Segment
  pub lines : new ≡ Cutting done held
  pub text : text_in held ≡ text_in begun ++ t

-- so it does where a sheet is cut
abbrev pub GrowsBy : List ℕ → Sheet → Sheet → Type 0
GrowsBy t a b = (done : List Segment) (begun : Segment) → a.lines ≡ Cutting done begun → Grows t done begun b.lines

pub grows_same : (a b : Sheet) → b.lines ≡ a.lines → GrowsBy [] a b
grows_same a b h = λ done begun e. record { held = begun; lines = h ∙ e; text = sym (append-nil (text_in begun)) }

pub grows_then : (t u : List ℕ) (a b c : Sheet) → GrowsBy t a b → GrowsBy u b c → GrowsBy (t ++ u) a c
grows_then t u a b c f g = λ done begun e.
    let x = f done begun e in
    let y = g done x.held x.lines in
    record { held = y.held; lines = y.lines; text = y.text ∙ ap (λ z. z ++ u) x.text ∙ append_assoc (text_in begun) t u }

pub grows_as : (t u : List ℕ) (a b : Sheet) → t ≡ u → GrowsBy t a b → GrowsBy u a b
grows_as t u a b e f = λ done begun h. subst (λ z. Grows z done begun b.lines) e (f done begun h)

-- before what adds nothing, and behind it
pub grows_last : (t : List ℕ) (a b c : Sheet) → GrowsBy t a b → GrowsBy [] b c → GrowsBy t a c
grows_last t a b c f g = grows_as (t ++ []) t a c (append-nil t) (grows_then t [] a b c f g)

pub grows_first : (t : List ℕ) (a b c : Sheet) → GrowsBy [] a b → GrowsBy t b c → GrowsBy t a c
grows_first t a b c f g = grows_then [] t a b c f g

pub appended_grows : (t : List ℕ) (s : Sheet) → GrowsBy t s (appended t s)
unfolding appended appended_by
appended_grows t s = λ done begun e. subst (λ l. Grows t done begun (appended_by l t s).lines) (sym e) (record { held = with_text t begun; lines = refl; text = text-more begun t })

recorded_by_grows : (pos : BytePos) (s : Sheet) → GrowsBy [] s (recorded_by s.lines pos s)
unfolding recorded_by
recorded_by_grows pos s = λ done begun e.
    subst (λ l. Grows [] done begun (recorded_by l pos s).lines) (sym e)
    (record { held = with_note pos begun; lines = refl; text = text-noted begun pos ∙ sym (append-nil (text_in begun)) })

pub recorded_grows : (pos : BytePos) (s : Sheet) → GrowsBy [] s (recorded pos s)
unfolding recorded
recorded_grows pos s = elim (is_recorded pos s) as (λ b. GrowsBy [] s (cond b (recorded_by s.lines pos s) s)) [ true ↦ recorded_by_grows pos s | false ↦ grows_same s s refl ]

start_grows : (span : Option Span) (s : Sheet) → GrowsBy [] s (start_recorded span s)
unfolding start_recorded
start_grows None s = grows_same s s refl
start_grows (Some span) s = recorded_grows span.lo s

end_grows : (span : Option Span) (s : Sheet) → GrowsBy [] s (end_recorded span s)
unfolding end_recorded
end_grows None s = grows_same s s refl
end_grows (Some span) s = recorded_grows span.hi s

pending_grows : (pos : Option BytePos) (s : Sheet) → GrowsBy [] s (pending_recorded pos s)
unfolding pending_recorded
pending_grows None s = grows_same s s refl
pending_grows (Some pos) s = recorded_grows pos (record s { pending = None })

-- the indentation that is due, and what is pending
pub started_grows : (s : Sheet) → GrowsBy (cond s.at_line_start (repeat s.indentation s.indent_text) []) s (started s)
unfolding started indented
started_grows s =
    let begun : Sheet = record (indented s.indentation s) { at_line_start = false } in
    elim s.at_line_start as (λ b. GrowsBy (cond b (repeat s.indentation s.indent_text) []) s (cond b (pending_recorded s.pending begun) s)) [
      | true ↦ grows_last (repeat s.indentation s.indent_text) s begun (pending_recorded s.pending begun) (appended_grows (repeat s.indentation s.indent_text) s) (pending_grows s.pending begun)
      | false ↦ grows_same s s refl
    ]

pub written_grows : (span : Option Span) (c : ℕ) (cs : List ℕ) (s : Sheet) → GrowsBy (cond s.at_line_start (repeat s.indentation s.indent_text) [] ++ c ∷ cs) s (written span (c ∷ cs) s)
unfolding written
written_grows span c cs s =
    let u : List ℕ = cond s.at_line_start (repeat s.indentation s.indent_text) [] in
    let w : Sheet = start_recorded span (started s) in
    let x : Sheet = appended (c ∷ cs) w in
    grows_last (u ++ c ∷ cs) s x (end_recorded span x)
    (grows_then u (c ∷ cs) s w x (grows_last u s (started s) w (started_grows s) (start_grows span (started s))) (appended_grows (c ∷ cs) w))
    (end_grows span x)

pub pointed_grows : (pos : BytePos) (s : Sheet) → GrowsBy [] s (pointed pos s)
unfolding pointed
pointed_grows pos s =
    elim (s.keeps_positions && s.at_line_start) as (λ b. GrowsBy [] s (cond b (record s { pending = Some pos }) (recorded pos s)))
    [ true ↦ grows_same s (record s { pending = Some pos }) refl | false ↦ recorded_grows pos s ]

-- an allowed break ends the last segment, and the next one is empty
pub allowed_cuts : (done : List Segment) (begun : Segment) (s : Sheet) → s.lines ≡ Cutting done begun → (allowed s).lines ≡ Cutting (done ++ (begun ∷ [])) no_segment
unfolding allowed allowed_by
allowed_cuts done begun s e = ap (λ l. (allowed_by l s).lines) e

-- ---- what stays of segments, whatever comes after them

-- A position is noted in a segment, behind this text of it.
pub record NoteAt (pos : BytePos) (g : Segment) (before : List ℕ) : Type 0 where
  pub some : List (List ℕ × BytePos)
  pub text : List ℕ
  pub more : List (List ℕ × BytePos)
  pub noted : g.noted ≡ some ++ ((text, pos) ∷ more)
  pub is_before : before ≡ notes_text some ++ text

-- The second segment is the first with more behind it.
pub record Longer (g h : Segment) : Type 0 where
  pub added : List ℕ
  pub text : text_in h ≡ text_in g ++ added
  pub notes : (pos : BytePos) (before : List ℕ) → NoteAt pos g before → NoteAt pos h before

pub longer_refl : (g : Segment) → Longer g g
longer_refl g = record { added = []; text = sym (append-nil (text_in g)); notes = λ pos before n. n }

pub longer_trans : (g h i : Segment) → Longer g h → Longer h i → Longer g i
longer_trans g h i a b = record {
  added = a.added ++ b.added;
  text = b.text ∙ ap (λ z. z ++ b.added) a.text ∙ append_assoc (text_in g) a.added b.added;
  notes = λ pos before n. b.notes pos before (a.notes pos before n);
}

pub longer_text : (t : List ℕ) (g : Segment) → Longer g (with_text t g)
longer_text t g = record {
  added = t;
  text = text-more g t;
  notes = λ pos before n. record { some = n.some; text = n.text; more = n.more; noted = n.noted; is_before = n.is_before };
}

longer_note : (pos : BytePos) (g : Segment) → Longer g (with_note pos g)
longer_note pos g = record {
  added = [];
  text = text-noted g pos ∙ sym (append-nil (text_in g));
  notes = λ at before n. record {
    some = n.some;
    text = n.text;
    more = n.more ++ ((g.rest, pos) ∷ []);
    noted = ap (λ z. z ++ ((g.rest, pos) ∷ [])) n.noted ∙ append_assoc n.some ((n.text, at) ∷ n.more) ((g.rest, pos) ∷ []);
    is_before = n.is_before;
  };
}

-- a position that was just noted
pub noted_here : (pos : BytePos) (g : Segment) → NoteAt pos (with_note pos g) (text_in (with_note pos g))
unfolding text_in
noted_here pos g = record { some = g.noted; text = g.rest; more = []; noted = refl; is_before = text-noted g pos }

-- The segments of a sheet that was cut are still there: the last goes on, or others came after it.
pub data GoOn (done : List Segment) (begun : Segment) (new : Flow) : Type 0 where
  still_last : (held : Segment) → new ≡ Cutting done held → Longer begun held → GoOn done begun new
  followed : (g : Segment) (gs : List Segment) (held : Segment) → new ≡ Cutting (done ++ (g ∷ gs)) held → Longer begun g → GoOn done begun new

abbrev pub LinesGoOn : Sheet → Sheet → Type 0
LinesGoOn a b = (done : List Segment) (begun : Segment) → a.lines ≡ Cutting done begun → GoOn done begun b.lines

pub on_same : (a b : Sheet) → b.lines ≡ a.lines → LinesGoOn a b
on_same a b h = λ done begun e. still_last begun (h ∙ e) (longer_refl begun)

pub on_case : (done : List Segment) (begun : Segment) (b c : Sheet) → GoOn done begun b.lines → LinesGoOn b c → GoOn done begun c.lines
on_case done begun b c (still_last held l k) g = elim (g done held l) [
  | still_last next m j ↦ still_last next m (longer_trans begun held next k j)
  | followed x xs next m j ↦ followed x xs next m (longer_trans begun held x k j)
]
on_case done begun b c (followed x xs held l k) g = elim (g (done ++ (x ∷ xs)) held l) [
  | still_last next m j ↦ followed x xs next m k
  | followed y ys next m j ↦ followed x (xs ++ (y ∷ ys)) next (m ∙ ap (λ z. Cutting z next) (append_assoc done (x ∷ xs) (y ∷ ys))) k
]

pub on_then : (a b c : Sheet) → LinesGoOn a b → LinesGoOn b c → LinesGoOn a c
on_then a b c f g = λ done begun e. on_case done begun b c (f done begun e) g

appended_on : (t : List ℕ) (s : Sheet) → LinesGoOn s (appended t s)
unfolding appended appended_by
appended_on t s = λ done begun e. subst (λ l. GoOn done begun (appended_by l t s).lines) (sym e) (still_last (with_text t begun) refl (longer_text t begun))

recorded_by_on : (pos : BytePos) (s : Sheet) → LinesGoOn s (recorded_by s.lines pos s)
unfolding recorded_by
recorded_by_on pos s = λ done begun e. subst (λ l. GoOn done begun (recorded_by l pos s).lines) (sym e) (still_last (with_note pos begun) refl (longer_note pos begun))

recorded_on : (pos : BytePos) (s : Sheet) → LinesGoOn s (recorded pos s)
unfolding recorded
recorded_on pos s = elim (is_recorded pos s) as (λ b. LinesGoOn s (cond b (recorded_by s.lines pos s) s)) [ true ↦ recorded_by_on pos s | false ↦ on_same s s refl ]

start_on : (span : Option Span) (s : Sheet) → LinesGoOn s (start_recorded span s)
unfolding start_recorded
start_on None s = on_same s s refl
start_on (Some span) s = recorded_on span.lo s

end_on : (span : Option Span) (s : Sheet) → LinesGoOn s (end_recorded span s)
unfolding end_recorded
end_on None s = on_same s s refl
end_on (Some span) s = recorded_on span.hi s

pending_on : (pos : Option BytePos) (s : Sheet) → LinesGoOn s (pending_recorded pos s)
unfolding pending_recorded
pending_on None s = on_same s s refl
pending_on (Some pos) s = recorded_on pos (record s { pending = None })

pub started_on : (s : Sheet) → LinesGoOn s (started s)
unfolding started indented
started_on s =
    let begun : Sheet = record (indented s.indentation s) { at_line_start = false } in
    elim s.at_line_start as (λ b. LinesGoOn s (cond b (pending_recorded s.pending begun) s))
    [ true ↦ on_then s begun (pending_recorded s.pending begun) (appended_on (repeat s.indentation s.indent_text) s) (pending_on s.pending begun) | false ↦ on_same s s refl ]

written_on : (span : Option Span) (t : List ℕ) (s : Sheet) → LinesGoOn s (written span t s)
unfolding written
written_on span [] s = on_same s s refl
written_on span (c ∷ cs) s =
    let w : Sheet = start_recorded span (started s) in
    let x : Sheet = appended (c ∷ cs) w in
    on_then s (started s) (end_recorded span x) (started_on s)
    (on_then (started s) w (end_recorded span x) (start_on span (started s)) (on_then w x (end_recorded span x) (appended_on (c ∷ cs) w) (end_on span x)))

literal_on : (span : Span) (t : List ℕ) (s : Sheet) → LinesGoOn s (literal_written span t s)
unfolding literal_written
literal_on span [] s = on_same s s refl
literal_on span (c ∷ cs) s =
    let w : Sheet = recorded span.lo s in
    let x : Sheet = written None (c ∷ cs) w in
    on_then s w (recorded span.hi x) (recorded_on span.lo s) (on_then w x (recorded span.hi x) (written_on None (c ∷ cs) w) (recorded_on span.hi x))

ended_on : (s : Sheet) → LinesGoOn s (ended s)
unfolding ended
ended_on s =
    elim s.at_line_start as (λ b. LinesGoOn s (cond b (record s { pending = None }) (record (appended s.line_end s) { at_line_start = true })))
    [ true ↦ on_same s (record s { pending = None }) refl | false ↦ appended_on s.line_end s ]

pub pointed_on : (pos : BytePos) (s : Sheet) → LinesGoOn s (pointed pos s)
unfolding pointed
pointed_on pos s =
    elim (s.keeps_positions && s.at_line_start) as (λ b. LinesGoOn s (cond b (record s { pending = Some pos }) (recorded pos s)))
    [ true ↦ on_same s (record s { pending = Some pos }) refl | false ↦ recorded_on pos s ]

allowed_on : (s : Sheet) → LinesGoOn s (allowed s)
allowed_on s = λ done begun e. followed begun [] no_segment (allowed_cuts done begun s e) (longer_refl begun)

passed_on_lines : (b : Bool) (s : Sheet) → LinesGoOn s (passed_on b s)
unfolding passed_on
passed_on_lines true s = allowed_on s
passed_on_lines false s = on_same s s refl

settled_by_on : (x : Semicolons) (s : Sheet) → LinesGoOn s (settled_by x s)
unfolding settled_by
settled_by_on AtOnce s = on_same s s refl
settled_by_on HoldsNone s = on_same s s refl
settled_by_on (HoldsOne span kept) s =
    let w : Sheet = written span (codes ";") (record s { semicolons = HoldsNone }) in
    on_then s w (passed_on kept w) (written_on span (codes ";") (record s { semicolons = HoldsNone })) (passed_on_lines kept w)

settled_on : (s : Sheet) → LinesGoOn s (settled s)
settled_on s = settled_by_on s.semicolons s

written_settled : (span : Option Span) (t : List ℕ) (s : Sheet) → LinesGoOn s (written span t (settled s))
written_settled span t s = on_then s (settled s) (written span t (settled s)) (settled_on s) (written_on span t (settled s))

literal_settled : (span : Span) (t : List ℕ) (s : Sheet) → LinesGoOn s (literal_written span t (settled s))
literal_settled span t s = on_then s (settled s) (literal_written span t (settled s)) (settled_on s) (literal_on span t (settled s))

semicolon_on : (x : Semicolons) (span : Option Span) (s : Sheet) → LinesGoOn s (semicolon_by x span s)
unfolding semicolon_by
semicolon_on AtOnce span s = written_on span (codes ";") s
semicolon_on HoldsNone span s = on_same s (record s { semicolons = HoldsOne span false }) refl
semicolon_on (HoldsOne held kept) span s = on_same s (record s { semicolons = HoldsOne span false }) refl

punct_on : (t : List ℕ) (s : Sheet) → LinesGoOn s (before_punct t s)
unfolding before_punct
punct_on t s =
    elim (is_ending t) as (λ b. LinesGoOn s (cond b (record s { semicolons = dropped s.semicolons }) (settled s)))
    [ true ↦ on_same s (record s { semicolons = dropped s.semicolons }) refl | false ↦ settled_on s ]

break_on : (x : Semicolons) (s : Sheet) → LinesGoOn s (allowed_at x s)
unfolding allowed_at
break_on AtOnce s = allowed_on s
break_on HoldsNone s = allowed_on s
break_on (HoldsOne span kept) s = on_same s (record s { semicolons = HoldsOne span true }) refl

-- where a sheet is cut, lines neither begin nor end
begun_on : (max : ℕ) (s : Sheet) → LinesGoOn s (begun_by s.lines max s)
unfolding begun_by
begun_on max s = λ done begun e. subst (λ l. GoOn done begun (begun_by l max s).lines) (sym e) (still_last begun e (longer_refl begun))

closed_on : (s : Sheet) → LinesGoOn s (closed_by s.lines s)
unfolding closed_by
closed_on s = λ done begun e. subst (λ l. GoOn done begun (closed_by l s).lines) (sym e) (still_last begun e (longer_refl begun))

-- whatever is called
pub effect_on : (x : Item) (s : Sheet) → LinesGoOn s (effect x s)
unfolding effect
effect_on (Semi span) s = semicolon_on s.semicolons span s
effect_on Space s = written_settled None (codes " ") s
effect_on (Keyword span t) s = written_settled span t s
effect_on (Operator span t) s = written_settled span t s
effect_on (Param t) s = written_settled None t s
effect_on (Property t) s = written_settled None t s
effect_on Line s = on_then s (settled s) (ended (settled s)) (settled_on s) (ended_on (settled s))
effect_on (Lit span t) s = literal_settled span t s
effect_on (Comment t) s = written_settled None t s
effect_on (StrLit span t) s = literal_settled span t s
effect_on (Str t) s = written_settled None t s
effect_on (Symbol span t) s = written_settled (Some span) t s
effect_on (Punct span t) s = on_then s (before_punct t s) (written span t (before_punct t s)) (punct_on t s) (written_on span t (before_punct t s))
effect_on (Position pos) s = pointed_on pos s
effect_on Commit s = settled_on s
effect_on Deeper s = settled_on s
effect_on Shallower s = settled_on s
effect_on (BeginLines max) s = begun_on max s
effect_on AllowBreak s = break_on s.semicolons s
effect_on EndLines s = closed_on s

-- ---- a position before a text

-- behind it, where the line begins, it is noted at the end of the segment
pub record NotedLast (pos : BytePos) (done : List Segment) (new : Flow) : Type 0 where
  pub held : Segment
  pub lines : new ≡ Cutting done held
  pub note : NoteAt pos held (text_in held)

pub recorded_last : (pos : BytePos) (s : Sheet) → is_recorded pos s ≡ true → (done : List Segment) (begun : Segment) → s.lines ≡ Cutting done begun → NotedLast pos done (recorded pos s).lines
unfolding recorded recorded_by
recorded_last pos s k done begun e =
    subst (λ b. NotedLast pos done (cond b (recorded_by s.lines pos s) s).lines) (sym k)
    (subst (λ l. NotedLast pos done (recorded_by l pos s).lines) (sym e) (record { held = with_note pos begun; lines = refl; note = noted_here pos begun }))

-- what a text makes of the last segment
pub appended_last : (t : List ℕ) (done : List Segment) (begun : Segment) (s : Sheet) → s.lines ≡ Cutting done begun → (appended t s).lines ≡ Cutting done (with_text t begun)
unfolding appended appended_by
appended_last t done begun s e = ap (λ l. (appended_by l t s).lines) e
