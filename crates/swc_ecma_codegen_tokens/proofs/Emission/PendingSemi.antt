-- What calls leave of a sheet, and a semicolon that is held back.
use Rattle.std.proofs.Common.{◌≡◌, ℕ, Bool, true, false, cond, List, [], ◌∷◌, ◌++◌, refl, sym, ap, ◌∙◌, append_assoc, append-nil, Option, Some, None, ◌&&◌}
use Rattle.std.specs.List.{repeat}
use Rattle.swc_ecma_codegen_common.specs.declared.positions.BytePos.{BytePos}
use Rattle.swc_ecma_codegen_common.specs.declared.positions.Span.{Span}
use Rattle.swc_ecma_codegen_text_writer.specs.Sheet.{Sheet, Pair, Semicolons, AtOnce, HoldsNone, HoldsOne, Flow, fills_lines, start_recorded, end_recorded, pending_recorded, appended, indented, started, written, pointed, settled, settled_by, dropped, recorded}
use Rattle.swc_ecma_codegen_text_writer.specs.Places.{Place}
use Rattle.swc_ecma_codegen_text_writer.proofs.Flows.{recorded_leaves, appended_leaves, appended_text}
use Rattle.swc_ecma_codegen_text_writer.proofs.Semicolons.{out_keeps}
use Rattle.swc_ecma_codegen_text_writer.proofs.Stays.{start_stays, started_stays}
use Rattle.swc_ecma_codegen_tokens.specs.Written.{holds_one}

-- ---- what recording positions leaves

pub recorded_keeps : {A : Type 0} (f : Sheet → A) → ((s : Sheet) (x : List Pair) (l : Flow) → f (record s { pairs = x; lines = l }) ≡ f s) → (pos : BytePos) (s : Sheet) → f (recorded pos s) ≡ f s
recorded_keeps f k pos s = recorded_leaves f k pos s

start_keeps : {A : Type 0} (f : Sheet → A) → ((s : Sheet) (x : List Pair) (l : Flow) → f (record s { pairs = x; lines = l }) ≡ f s) → (span : Option Span) (s : Sheet) → f (start_recorded span s) ≡ f s
unfolding start_recorded
start_keeps f k None s = refl
start_keeps f k (Some span) s = recorded_keeps f k span.lo s

end_keeps : {A : Type 0} (f : Sheet → A) → ((s : Sheet) (x : List Pair) (l : Flow) → f (record s { pairs = x; lines = l }) ≡ f s) → (span : Option Span) (s : Sheet) → f (end_recorded span s) ≡ f s
unfolding end_recorded
end_keeps f k None s = refl
end_keeps f k (Some span) s = recorded_keeps f k span.hi s

pending_keeps : {A : Type 0} (f : Sheet → A) → ((s : Sheet) (x : List Pair) (l : Flow) → f (record s { pairs = x; lines = l }) ≡ f s) → ((s : Sheet) → f (record s { pending = None }) ≡ f s) → (pos : Option BytePos) (s : Sheet) → f (pending_recorded pos s) ≡ f s
unfolding pending_recorded
pending_keeps f k l None s = refl
pending_keeps f k l (Some pos) s = recorded_keeps f k pos (record s { pending = None }) ∙ l s

-- ---- the text

-- what a text is preceded by
abbrev pub front_of : Bool → Sheet → List ℕ
front_of b s = cond b (repeat s.indentation s.indent_text) []

abbrev pub front : Sheet → List ℕ
front s = front_of s.at_line_start s

-- the sheet at a line's start, with the indentation out
unfoldable pub begun_sheet : Sheet → Sheet
begun_sheet s = record (indented s.indentation s) { at_line_start = false }

indented_keeps : {A : Type 0} (f : Sheet → A) → ((s : Sheet) (t : List ℕ) (p : Place) (l : Flow) → f (record s { text = t; place = p; lines = l }) ≡ f s) → (n : ℕ) (s : Sheet) → f (indented n s) ≡ f s
unfolding indented
indented_keeps f k n s = appended_leaves f k (repeat n s.indent_text) s

indented_text : (n : ℕ) (s : Sheet) → fills_lines s.lines ≡ false → (indented n s).text ≡ s.text ++ repeat n s.indent_text
unfolding indented
indented_text n s h = appended_text (repeat n s.indent_text) s h

pub started_text : (s : Sheet) → fills_lines s.lines ≡ false → (started s).text ≡ s.text ++ front s
unfolding started
started_text s h =
    elim s.at_line_start as (λ b. (cond b (pending_recorded s.pending (record (indented s.indentation s) { at_line_start = false })) s).text ≡ s.text ++ front_of b s) [
      | true ↦ pending_keeps (λ z. z.text) (λ z x l. refl) (λ z. refl) s.pending (record (indented s.indentation s) { at_line_start = false }) ∙ indented_text s.indentation s h
      | false ↦ sym (append-nil s.text)
    ]

pub written_text : (span : Option Span) (c : ℕ) (cs : List ℕ) (s : Sheet) → fills_lines s.lines ≡ false → (written span (c ∷ cs) s).text ≡ s.text ++ (front s ++ c ∷ cs)
unfolding written
written_text span c cs s h =
    let w : Sheet = start_recorded span (started s) in
    end_keeps (λ z. z.text) (λ z x l. refl) span (appended (c ∷ cs) w)
    ∙ appended_text (c ∷ cs) w ((start_stays span (started s)).fills ∙ (started_stays s).fills ∙ h)
    ∙ ap (λ z. z ++ c ∷ cs) (start_keeps (λ z. z.text) (λ z x l. refl) span (started s) ∙ started_text s h) ∙ append_assoc s.text (front s) (c ∷ cs)

started_in_line : (b : Bool) (s : Sheet) → s.at_line_start ≡ b → (cond b (pending_recorded s.pending (record (indented s.indentation s) { at_line_start = false })) s).at_line_start ≡ false
started_in_line true s e = pending_keeps (λ z. z.at_line_start) (λ z x l. refl) (λ z. refl) s.pending (record (indented s.indentation s) { at_line_start = false })
started_in_line false s e = e

pub in_line : (span : Option Span) (c : ℕ) (cs : List ℕ) (s : Sheet) → (written span (c ∷ cs) s).at_line_start ≡ false
unfolding written started
in_line span c cs s =
    end_keeps (λ z. z.at_line_start) (λ z x l. refl) span (appended (c ∷ cs) (start_recorded span (started s)))
    ∙ appended_leaves (λ z. z.at_line_start) (λ z t p l. refl) (c ∷ cs) (start_recorded span (started s))
    ∙ start_keeps (λ z. z.at_line_start) (λ z x l. refl) span (started s) ∙ started_in_line s.at_line_start s refl

-- ---- semicolons

started_semicolons : (s : Sheet) → (started s).semicolons ≡ s.semicolons
unfolding started
started_semicolons s =
    elim s.at_line_start as (λ b. (cond b (pending_recorded s.pending (record (indented s.indentation s) { at_line_start = false })) s).semicolons ≡ s.semicolons) [
      | true ↦ pending_keeps (λ z. z.semicolons) (λ z x l. refl) (λ z. refl) s.pending (record (indented s.indentation s) { at_line_start = false }) ∙ indented_keeps (λ z. z.semicolons) (λ z t p l. refl) s.indentation s
      | false ↦ refl
    ]

pub written_semicolons : (span : Option Span) (t : List ℕ) (s : Sheet) → (written span t s).semicolons ≡ s.semicolons
unfolding written
written_semicolons span [] s = refl
written_semicolons span (c ∷ cs) s =
    end_keeps (λ z. z.semicolons) (λ z x l. refl) span (appended (c ∷ cs) (start_recorded span (started s)))
    ∙ appended_leaves (λ z. z.semicolons) (λ z t p l. refl) (c ∷ cs) (start_recorded span (started s))
    ∙ start_keeps (λ z. z.semicolons) (λ z x l. refl) span (started s) ∙ started_semicolons s

-- a position that is noted changes neither the text nor what comes next
pub pointed_keeps : {A : Type 0} (f : Sheet → A) → ((s : Sheet) (x : List Pair) (l : Flow) → f (record s { pairs = x; lines = l }) ≡ f s) → ((s : Sheet) (x : Option BytePos) → f (record s { pending = x }) ≡ f s) → (pos : BytePos) (s : Sheet) → f (pointed pos s) ≡ f s
unfolding pointed
pointed_keeps f k l pos s = elim (s.keeps_positions && s.at_line_start) as (λ b. f (cond b (record s { pending = Some pos }) (recorded pos s)) ≡ f s) [ true ↦ l s (Some pos) | false ↦ recorded_keeps f k pos s ]

-- no semicolon is held once it is written
settled_by_none : (x : Semicolons) (s : Sheet) → x ≡ s.semicolons → holds_one (settled_by x s).semicolons ≡ false
unfolding settled_by holds_one
settled_by_none AtOnce s h = ap holds_one (sym h)
settled_by_none HoldsNone s h = ap holds_one (sym h)
settled_by_none (HoldsOne span allowed) s h = ap holds_one (out_keeps span allowed s)

pub settled_none : (s : Sheet) → holds_one (settled s).semicolons ≡ false
settled_none s = settled_by_none s.semicolons s refl

-- nothing is held: nothing is written for it, and nothing lost
unheld_settled_by : (x : Semicolons) (s : Sheet) → holds_one x ≡ false → settled_by x s ≡ s
unfolding settled_by holds_one
unheld_settled_by AtOnce s h = refl
unheld_settled_by HoldsNone s h = refl
unheld_settled_by (HoldsOne span allowed) s h = absurd (cc)

pub unheld_settled : (s : Sheet) → holds_one s.semicolons ≡ false → settled s ≡ s
unheld_settled s h = unheld_settled_by s.semicolons s h

pub dropped_none : (x : Semicolons) → holds_one (dropped x) ≡ false
unfolding dropped holds_one
dropped_none AtOnce = refl
dropped_none HoldsNone = refl
dropped_none (HoldsOne span allowed) = refl
