-- Names in the segments of a sheet that is cut, one after another.
use Rattle.std.proofs.Common.{◌≡◌, ◌⊎◌, ℕ, true, false, cond, List, [], ◌∷◌, ◌++◌, refl, ap, ◌∙◌, subst, append_assoc, inl}
use Rattle.std.specs.Str.{chars}
use Rattle.swc_ecma_codegen_common.specs.declared.positions.BytePos.{BytePos}
use Rattle.swc_ecma_codegen_grammar.specs.GapRules.{Separated, fuses}
use Rattle.swc_ecma_codegen_grammar.specs.Phrases.{PlacedName}
use Rattle.swc_ecma_codegen_text_writer.specs.Sheet.{Sheet, Segment, with_text, text_in, Flow, Cutting, Space, Comment, appended, effect}
use Rattle.swc_ecma_codegen_text_writer.proofs.Cuts.{NoteAt, GoOn, LinesGoOn, still_last, followed, longer_refl, longer_trans, longer_text, on_same, on_then, effect_on, appended_last}
use Rattle.swc_ecma_codegen_settings.specs.declared.config.Config.{Config}
use Rattle.swc_ecma_codegen_tokens.specs.Run.{State, Step, Guard, Token, Plain, Ends, Remake, Take, CommentText, put, run}
use Rattle.swc_ecma_codegen_tokens.specs.Targets.{written_as}

-- ---- segments stay, whatever steps come

put_on : (x : Step) (a : State) → LinesGoOn a.sheet (put x a).sheet
unfolding put
put_on (Guard t) a = elim (fuses a.last (chars t)) as (λ b. LinesGoOn a.sheet (cond b (record a { sheet = effect Space a.sheet; last = Separated }) a).sheet) [ true ↦ effect_on Space a.sheet | false ↦ on_same a.sheet a.sheet refl ]
put_on (Token kind x) a = effect_on x a.sheet
put_on (Plain x) a = effect_on x a.sheet
put_on (Ends tokens x) a = effect_on x a.sheet
put_on (Remake due) a = on_same a.sheet a.sheet refl
put_on (Take side at) a = on_same a.sheet a.sheet refl
put_on (CommentText t) a = effect_on (Comment t) a.sheet

pub run_on : (xs : List Step) (a : State) → LinesGoOn a.sheet (run xs a).sheet
unfolding run
run_on [] a = on_same a.sheet a.sheet refl
run_on (x ∷ xs) a = on_then a.sheet (put x a).sheet (run xs (put x a)).sheet (put_on x a) (run_on xs (put x a))

-- ---- names, one after another

-- a position is noted at the end of a segment, unless it is none
abbrev pub IsNoted : BytePos → Segment → Type 0
IsNoted pos g = (pos.0 ≡ 0) ⊎ NoteAt pos g (text_in g)

-- From a segment that was begun on, names stand in the segments one after another, as these settings have them written, and where each begins
-- its position is noted. So `a,b` that is cut behind the comma has an `a` noted where its first segment begins, and a `b` where its second does.
unfoldable pub NamesCut : Config → List Segment → Segment → Flow → List PlacedName → Type 0
NamesCut config done begun new [] = GoOn done begun new
NamesCut config done begun new (x ∷ xs) =
    (ds : List Segment) × (held : Segment) × GoOn done begun (Cutting ds held) × IsNoted x.at held × NamesCut config ds (with_text (written_as config x) held) new xs

-- so they do where a sheet is cut
abbrev pub CutsNames : Config → List PlacedName → Sheet → Sheet → Type 0
CutsNames config names a b = (done : List Segment) (begun : Segment) → a.lines ≡ Cutting done begun → NamesCut config done begun b.lines names

pub record Lands (new : Flow) : Type 0 where
  pub done : List Segment
  pub held : Segment
  pub lines : new ≡ Cutting done held

pub lands : (done : List Segment) (begun : Segment) (new : Flow) → GoOn done begun new → Lands new
lands done begun new (still_last held l k) = record { done = done; held = held; lines = l }
lands done begun new (followed g gs held l k) = record { done = done ++ (g ∷ gs); held = held; lines = l }

go_then : (done ds : List Segment) (begun held : Segment) (new : Flow) → GoOn done begun (Cutting ds held) → GoOn ds held new → GoOn done begun new
go_then done ds begun held new (still_last next l k) h =
    let f : ds ≡ done = cc l in
    let e : held ≡ next = cc l in
    elim (subst (λ z. GoOn done z new) e (subst (λ z. GoOn z held new) f h)) [
      | still_last g m j ↦ still_last g m (longer_trans begun next g k j)
      | followed g gs last m j ↦ followed g gs last m (longer_trans begun next g k j)
    ]
go_then done ds begun held new (followed x xs next l k) h =
    let f : ds ≡ done ++ (x ∷ xs) = cc l in
    elim (subst (λ z. GoOn z held new) f h) [
      | still_last g m j ↦ followed x xs g m k
      | followed g gs last m j ↦ followed x (xs ++ (g ∷ gs)) last (m ∙ ap (λ z. Cutting z last) (append_assoc done (x ∷ xs) (g ∷ gs))) k
    ]

-- where they end
pub names_end : (config : Config) (xs : List PlacedName) (done : List Segment) (begun : Segment) (new : Flow) → NamesCut config done begun new xs → GoOn done begun new
unfolding NamesCut
names_end config [] done begun new h = h
names_end config (x ∷ xs) done begun new h =
    let name : List ℕ = written_as config x in
    let there : GoOn h.0 h.1 (Cutting h.0 (with_text name h.1)) = still_last (with_text name h.1) refl (longer_text name h.1) in
    go_then done h.0 begun h.1 new h.2 (go_then h.0 h.0 h.1 (with_text name h.1) new there (names_end config xs h.0 (with_text name h.1) new h.4))

names_behind : (config : Config) (xs : List PlacedName) (done ds : List Segment) (begun held : Segment) (new : Flow) → GoOn done begun (Cutting ds held) → NamesCut config ds held new xs → NamesCut config done begun new xs
unfolding NamesCut
names_behind config [] done ds begun held new g h = go_then done ds begun held new g h
names_behind config (x ∷ xs) done ds begun held new g h = (h.0, h.1, go_then done ds begun held (Cutting h.0 h.1) g h.2, h.3, h.4)

-- names, and then those of what comes after
names_both : (config : Config) (xs ys : List PlacedName) (done : List Segment) (begun : Segment) (new last : Flow) → NamesCut config done begun new xs → ((ds : List Segment) (held : Segment) → new ≡ Cutting ds held → NamesCut config ds held last ys) → NamesCut config done begun last (xs ++ ys)
unfolding NamesCut
names_both config [] ys done begun new last h k =
    let l = lands done begun new h in
    names_behind config ys done l.done begun l.held last (subst (λ z. GoOn done begun z) l.lines h) (k l.done l.held l.lines)
names_both config (x ∷ xs) ys done begun new last h k = (h.0, h.1, h.2, h.3, names_both config xs ys h.0 (with_text (written_as config x) h.1) new last h.4 k)

pub cuts_none : (config : Config) (a b : Sheet) → LinesGoOn a b → CutsNames config [] a b
unfolding NamesCut
cuts_none config a b f = λ done begun e. f done begun e

pub cuts_then : (config : Config) (xs ys : List PlacedName) (a b c : Sheet) → CutsNames config xs a b → CutsNames config ys b c → CutsNames config (xs ++ ys) a c
cuts_then config xs ys a b c f g = λ done begun e. names_both config xs ys done begun b.lines c.lines (f done begun e) g

-- ---- one name

-- a position is noted at the end of the last segment
pub record EndsNoted (pos : BytePos) (new : Flow) : Type 0 where
  pub done : List Segment
  pub held : Segment
  pub lines : new ≡ Cutting done held
  pub noted : IsNoted pos held

abbrev pub NotesLast : BytePos → Sheet → Sheet → Type 0
NotesLast pos s w = (done : List Segment) (begun : Segment) → s.lines ≡ Cutting done begun → EndsNoted pos w.lines

-- a position that is none
pub notes_none : (pos : BytePos) (s w : Sheet) → pos.0 ≡ 0 → LinesGoOn s w → NotesLast pos s w
notes_none pos s w z f = λ done begun e. let l = lands done begun w.lines (f done begun e) in record { done = l.done; held = l.held; lines = l.lines; noted = inl z }

pub cuts_one : (config : Config) (x : PlacedName) (s w : Sheet) → LinesGoOn s w → NotesLast x.at s w → CutsNames config (x ∷ []) s (appended (written_as config x) w)
unfolding NamesCut
cuts_one config x s w f g = λ done begun e.
    let n = g done begun e in
    let name : List ℕ = written_as config x in
    let last : Segment = with_text name n.held in
    let there : GoOn n.done last (appended name w).lines = still_last last (appended_last name n.done n.held w n.lines) (longer_refl last) in
    (n.done, n.held, subst (λ z. GoOn done begun z) n.lines (f done begun e), n.noted, there)
