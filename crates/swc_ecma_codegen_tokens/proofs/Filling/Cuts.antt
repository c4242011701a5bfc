-- Where texts are cut: the segments of a sheet that is cut are those of the parts that are laid.
use Rattle.std.proofs.Common.{◌≡◌, ℕ, Bool, true, false, cond, List, [], ◌∷◌, ◌++◌, refl, sym, ap, ◌∙◌, subst, append_assoc, append-nil, inr}
use Rattle.std.specs.Str.{chars, IsUtf8}
use Rattle.std.proofs.lemmas.Bool.{true≢false}
use Rattle.std.proofs.lemmas.Str.{chars-nil, chars-append, IsUtf8-nil, IsUtf8-append}
use Rattle.swc_ecma_codegen_grammar.specs.LineEnds.{segments}
use Rattle.swc_ecma_codegen_grammar.specs.Parts as parts
use Rattle.swc_ecma_codegen_grammar.specs.Parts.{Gap, Own, Joint, Break, remarks_in, IsEnding, Reduced}
use Rattle.swc_ecma_codegen_grammar.specs.Trivia.{pieces_text}
use Rattle.swc_ecma_codegen_text_writer.specs.Sheet.{Sheet, Segment, no_segment, text_in, Flow, Cutting, allowed, passed_on}
use Rattle.swc_ecma_codegen_text_writer.proofs.Cuts.{GrowsBy, grows_same, allowed_cuts}
use Rattle.swc_ecma_codegen_text_writer.proofs.Twins.{text-none}

-- ---- the segments on the way

-- the texts of segments, as characters
unfoldable pub decoded : List Segment → List (List ℕ)
decoded [] = []
decoded (g ∷ gs) = chars (text_in g) ∷ decoded gs

unfoldable pub AreUtf8 : List Segment → Type 0
AreUtf8 [] = Unit {0}
AreUtf8 (g ∷ gs) = IsUtf8 (text_in g) × AreUtf8 gs

-- A segment that was begun goes on with what is laid: some segments end on the way, and the last goes on. So `(` that was begun ends with
-- `a,` of `a,b`, and `b` is the last.
pub record CutsAt (laid : List parts.Part) (done : List Segment) (begun : Segment) (new : Flow) : Type 0 where
  pub more : List Segment
  pub held : Segment
  pub lines : new ≡ Cutting (done ++ more) held
  pub utf8 : IsUtf8 (text_in begun) → AreUtf8 more × IsUtf8 (text_in held)
  -- whatever is laid after it
  pub same : IsUtf8 (text_in begun) → (ys : List parts.Part) → segments (laid ++ ys) (chars (text_in begun)) ≡ decoded more ++ segments ys (chars (text_in held))

-- so it is where a sheet is cut
abbrev pub Cuts : List parts.Part → Sheet → Sheet → Type 0
Cuts laid a b = (done : List Segment) (begun : Segment) → a.lines ≡ Cutting done begun → CutsAt laid done begun b.lines

pub decoded_append : (xs ys : List Segment) → decoded (xs ++ ys) ≡ decoded xs ++ decoded ys
unfolding decoded
decoded_append [] ys = refl
decoded_append (x ∷ xs) ys = ap (λ z. chars (text_in x) ∷ z) (decoded_append xs ys)

pub utf8_append : (xs ys : List Segment) → AreUtf8 xs → AreUtf8 ys → AreUtf8 (xs ++ ys)
unfolding AreUtf8
utf8_append [] ys h k = k
utf8_append (x ∷ xs) ys h k = (h.0, utf8_append xs ys h.1 k)

-- one after the other
pub cuts_then : (xs ys : List parts.Part) (a b c : Sheet) → Cuts xs a b → Cuts ys b c → Cuts (xs ++ ys) a c
cuts_then xs ys a b c f g = λ done begun h.
    let p = f done begun h in
    let q = g (done ++ p.more) p.held p.lines in
    record {
      more = p.more ++ q.more;
      held = q.held;
      lines = q.lines ∙ ap (λ z. Cutting z q.held) (append_assoc done p.more q.more);
      utf8 = λ v. let i = p.utf8 v in let j = q.utf8 i.1 in (utf8_append p.more q.more i.0 j.0, j.1);
      same = λ v zs.
          let last : List (List ℕ) = segments zs (chars (text_in q.held)) in
          ap (λ z. segments z (chars (text_in begun))) (append_assoc xs ys zs)
          ∙ p.same v (ys ++ zs)
          ∙ ap (λ z. decoded p.more ++ z) (q.same (p.utf8 v).1 zs)
          ∙ sym (append_assoc (decoded p.more) (decoded q.more) last)
          ∙ ap (λ z. z ++ last) (sym (decoded_append p.more q.more));
    }

-- no line may be ended among parts
abbrev pub is_unbroken : List parts.Part → Bool
is_unbroken [] = true
is_unbroken (Gap ps ∷ xs) = is_unbroken xs
is_unbroken (Own x t ∷ xs) = is_unbroken xs
is_unbroken (Joint ∷ xs) = is_unbroken xs
is_unbroken (Break ∷ xs) = false

segments_on : (laid ys : List parts.Part) (begun : List ℕ) → is_unbroken laid ≡ true → segments (laid ++ ys) begun ≡ segments ys (begun ++ parts.text_of laid)
unfolding segments parts.text_of
segments_on [] ys begun h = ap (segments ys) (sym (append-nil begun))
segments_on (Gap ps ∷ xs) ys begun h = segments_on xs ys (begun ++ pieces_text ps) h ∙ ap (segments ys) (append_assoc begun (pieces_text ps) (parts.text_of xs))
segments_on (Own x t ∷ xs) ys begun h = segments_on xs ys (begun ++ t) h ∙ ap (segments ys) (append_assoc begun t (parts.text_of xs))
segments_on (Joint ∷ xs) ys begun h = segments_on xs ys begun h
segments_on (Break ∷ xs) ys begun h = absurd (true≢false (sym h))

-- a text that spells such parts
pub cuts_whole : (laid : List parts.Part) (bytes : List ℕ) (a b : Sheet) → is_unbroken laid ≡ true → IsUtf8 bytes → chars bytes ≡ parts.text_of laid → GrowsBy bytes a b → Cuts laid a b
unfolding decoded AreUtf8
cuts_whole laid bytes a b n u e f = λ done begun h.
    let g = f done begun h in
    record {
      more = [];
      held = g.held;
      lines = g.lines ∙ ap (λ z. Cutting z g.held) (sym (append-nil done));
      utf8 = λ v. (tt, subst IsUtf8 (sym g.text) (IsUtf8-append (text_in begun) bytes v u));
      same = λ v ys.
          segments_on laid ys (chars (text_in begun)) n
          ∙ ap (segments ys) (ap (λ z. chars (text_in begun) ++ z) (sym e) ∙ sym (chars-append (text_in begun) bytes v) ∙ ap chars (sym g.text));
    }

-- no text
pub cuts_none : (a b : Sheet) → GrowsBy [] a b → Cuts [] a b
unfolding parts.text_of
cuts_none a b f = cuts_whole [] [] a b refl IsUtf8-nil chars-nil f

pub cuts_same : (a b : Sheet) → b.lines ≡ a.lines → Cuts [] a b
cuts_same a b e = cuts_none a b (grows_same a b e)

-- an allowed break
pub cuts_break : (s : Sheet) → Cuts (Break ∷ []) s (allowed s)
unfolding decoded AreUtf8 segments
cuts_break s = λ done begun h. record {
  more = begun ∷ [];
  held = no_segment;
  lines = allowed_cuts done begun s h;
  utf8 = λ v. ((v, tt), subst IsUtf8 (sym text-none) IsUtf8-nil);
  same = λ v ys. ap (λ z. chars (text_in begun) ∷ segments ys z) (sym chars-nil ∙ ap chars (sym text-none));
}

-- the segments of a sheet that was cut from where nothing was written
pub record Segments (laid : List parts.Part) (done : List Segment) (begun : Segment) : Type 0 where
  pub utf8 : AreUtf8 (done ++ (begun ∷ []))
  pub same : segments laid [] ≡ decoded (done ++ (begun ∷ []))

pub whole_segments : (laid : List parts.Part) (more : List Segment) (last : Segment) (new : Flow) → CutsAt laid [] no_segment new → new ≡ Cutting more last → Segments laid more last
unfolding AreUtf8 decoded segments
whole_segments laid more last new c e =
    let f : c.more ≡ more = cc (c.lines, e) in
    let g : c.held ≡ last = cc (c.lines, e) in
    let u : IsUtf8 (text_in no_segment) = subst IsUtf8 (sym text-none) IsUtf8-nil in
    let P : List Segment → Segment → Type 0 = λ ms h. Segments laid ms h in
    let v = c.utf8 u in
    let all : Segments laid c.more c.held = record {
      utf8 = utf8_append c.more (c.held ∷ []) v.0 (v.1, tt);
      same =
          ap (segments laid) (sym chars-nil ∙ ap chars (sym text-none))
          ∙ ap (λ z. segments z (chars (text_in no_segment))) (sym (append-nil laid))
          ∙ c.same u []
          ∙ sym (decoded_append c.more (c.held ∷ []));
    } in
    subst (λ z. P z last) f (subst (λ z. P c.more z) g all)

-- ---- a break that is kept with a semicolon

abbrev pub break_if : Bool → List parts.Part
break_if b = cond b (Break ∷ []) []

pub cuts_passed : (b : Bool) (s : Sheet) → Cuts (break_if b) s (passed_on b s)
unfolding passed_on
cuts_passed true s = cuts_break s
cuts_passed false s = cuts_same s s refl

pub break_text : (b : Bool) (xs : List parts.Part) → parts.text_of (break_if b ++ xs) ≡ parts.text_of xs
unfolding parts.text_of
break_text true xs = refl
break_text false xs = refl

pub break_remarks : (b : Bool) (xs : List parts.Part) → remarks_in (break_if b ++ xs) ≡ remarks_in xs
unfolding remarks_in
break_remarks true xs = refl
break_remarks false xs = refl

-- it goes where its semicolon goes
pub past_break : (b : Bool) (xs ys : List parts.Part) → Reduced xs ys → Reduced (break_if b ++ xs) ys
unfolding Reduced
past_break true xs ys r = inr (inr (refl, r))
past_break false xs ys r = r

pub ending_past : (b : Bool) (xs : List parts.Part) → IsEnding xs → IsEnding (break_if b ++ xs)
unfolding IsEnding
ending_past true xs h = h
ending_past false xs h = h
