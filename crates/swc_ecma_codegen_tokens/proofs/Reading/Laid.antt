-- What lies between two states: parts, without some semicolons that aren't needed.
use Rattle.std.proofs.Common.{◌≡◌, ◌⊎◌, ℕ, Bool, true, false, cond, List, [], ◌∷◌, ◌++◌, codes, refl, sym, ap, ◌∙◌, subst, append_assoc, append-nil, inl, inr, ◌&&◌}
use Rattle.std.specs.Str.{chars, IsUtf8}
use Rattle.std.proofs.lemmas.Bool.{and_parts}
use Rattle.std.proofs.lemmas.Str.{chars-nil, chars-append, IsUtf8-nil, IsUtf8-append}
use Rattle.swc_ecma_codegen_grammar.specs.declared.kinds.Kind.TheVariants.{Ending}
use Rattle.swc_ecma_codegen_grammar.specs.Tokens as lexical
use Rattle.swc_ecma_codegen_grammar.specs.Comments.{all_tame, is_tame}
use Rattle.swc_ecma_codegen_grammar.specs.Trivia.{Remark}
use Rattle.swc_ecma_codegen_grammar.specs.GapRules.{Start}
use Rattle.swc_ecma_codegen_grammar.specs.Parts as parts
use Rattle.swc_ecma_codegen_grammar.specs.Parts.{Gap, Own, Joint, tokens_of, remarks_in, NoneFuse}
use Rattle.swc_ecma_codegen_grammar.specs.Parts.{Reduced}
use Rattle.swc_ecma_codegen_grammar.proofs.Dropped.{reduced_after}
use Rattle.swc_ecma_codegen_text_writer.specs.Sheet.{Sheet, holds_semicolons}
use Rattle.swc_ecma_codegen_text_writer.proofs.Cuts.{GrowsBy, grows_same}
use Rattle.swc_ecma_codegen_tokens.specs.Run.{State, Take, put}
use Rattle.swc_ecma_codegen_grammar.specs.Comments.{Side}
use Rattle.swc_ecma_codegen_tokens.specs.Written.{holds_one, keeps_break, AtRest, RestsAt, Spot, Anything, InName}
use Rattle.swc_ecma_codegen_tokens.proofs.Emission.PendingSemi.{front}
use Rattle.swc_ecma_codegen_tokens.proofs.Reading.Appended.{text_append, tokens_append, remarks_append}
use Rattle.swc_ecma_codegen_tokens.proofs.Filling.Shapes.{Shape, whole, open_, joining, join, is_within, within_stands, Fits, fits_then, fits_wider, fits_nothing, fits_joint}
use Rattle.swc_ecma_codegen_tokens.proofs.Gaps.Indented.{blanks}
use Rattle.swc_ecma_codegen_tokens.proofs.Filling.Cuts.{Cuts, cuts_then, cuts_whole, cuts_none, break_if}

-- what is asked for and isn't out yet: a semicolon that is held back, where it would stand, and the break that is kept with it
abbrev pub held_of : Bool → Bool → Sheet → List parts.Part
held_of b c s = cond b (Gap (blanks (front s)) ∷ Own Ending (codes ";") ∷ break_if c) []

abbrev pub held : Sheet → List parts.Part
held s = held_of (holds_one s.semicolons) (keeps_break s.semicolons) s

-- Nothing was written, and nothing stands before what is written next.
pub record IsFirst (s : State) : Type 0 where
  pub nothing_written : s.last ≡ Start
  pub nothing_held : holds_one s.sheet.semicolons ≡ false
  pub at_margin : front s.sheet ≡ []

-- parts of a shape may stand here
abbrev pub Enters : Shape → State → Type 0
Enters i s = (i.anywhere ≡ true) ⊎ ((i.first ≡ true) × IsFirst s)

-- From one state to another these tokens were asked for, with blanks between them: parts in which no two fuse, and which lead
-- no further on lines than their shape says. What went out are the same parts without some semicolons that aren't needed, and
-- without one that is still held back. These comments stand between.
pub record LaysTo (spot : Spot) (shape : Shape) (ts : List lexical.Token) (rs : List Remark) (a b : State) : Type 0 where
  pub out : List parts.Part
  pub laid : List parts.Part
  pub bytes : List ℕ
  pub text : b.sheet.text ≡ a.sheet.text ++ bytes
  pub utf8 : IsUtf8 bytes
  pub spells : chars bytes ≡ parts.text_of laid
  pub tokens : tokens_of out ≡ ts
  pub remarks : remarks_in laid ≡ rs
  pub apart : Enters shape a → (more : List parts.Part) → NoneFuse b.last more → NoneFuse a.last (out ++ more)
  pub reduces : (more ys : List parts.Part) → Reduced (held b.sheet ++ more) ys → Reduced (held a.sheet ++ (out ++ more)) (laid ++ ys)
  -- a writer that holds nothing back leaves nothing out
  pub holds : holds_semicolons b.sheet.semicolons ≡ holds_semicolons a.sheet.semicolons
  pub whole : holds_semicolons a.sheet.semicolons ≡ false → laid ≡ out
  -- its segments are those of what is laid
  pub cuts : Cuts laid a.sheet b.sheet
  pub rest : RestsAt spot b
  -- where no line ends in or after a comment
  pub fits : all_tame rs ≡ true → Fits shape out

-- after which any token may come
abbrev pub LaysWith : Shape → List lexical.Token → List Remark → State → State → Type 0
LaysWith shape ts rs a b = LaysTo Anything shape ts rs a b

-- without comments
abbrev pub LaysAt : Shape → List lexical.Token → State → State → Type 0
LaysAt shape ts a b = LaysWith shape ts [] a b

-- what begins and ends with a token
abbrev pub Lays : List lexical.Token → State → State → Type 0
Lays ts a b = LaysAt whole ts a b

-- what may stand first of all, or anywhere, is one after the other where the second may stand anywhere
pub enters_first : (i j : Shape) (a : State) → Enters (join i j) a → Enters i a
enters_first i j a (inl e) = inl (and_parts i.anywhere j.anywhere e).0
enters_first i j a (inr k) = inr ((and_parts i.first j.anywhere k.0).0, k.1)

pub enters_second : (i j : Shape) (a b : State) → Enters (join i j) a → Enters j b
enters_second i j a b (inl e) = inl (and_parts i.anywhere j.anywhere e).1
enters_second i j a b (inr k) = inl (and_parts i.first j.anywhere k.0).1

pub enters_wider : (i j : Shape) (a : State) → is_within i j ≡ true → Enters j a → Enters i a
enters_wider i j a e (inl k) = inl ((within_stands i j e).0 k)
enters_wider i j a e (inr k) = inr ((within_stands i j e).1 k.0, k.1)

tame_append : (xs ys : List Remark) → all_tame (xs ++ ys) ≡ (all_tame xs && all_tame ys)
unfolding all_tame
tame_append [] ys = refl
tame_append (x ∷ xs) ys = ap (λ z. is_tame x && z) (tame_append xs ys) ∙ and_assoc (is_tame x) (all_tame xs) (all_tame ys)
  where
    and_assoc : (a b c : Bool) → (a && (b && c)) ≡ ((a && b) && c)
    and_assoc true b c = refl
    and_assoc false b c = refl

-- one after the other
pub lays_then : {i j : Shape} {rs qs : List Remark} {v w : Spot} (ts us : List lexical.Token) (a b c : State) → LaysTo v i ts rs a b → LaysTo w j us qs b c → LaysTo w (join i j) (ts ++ us) (rs ++ qs) a c
lays_then {i} {j} {rs} {qs} ts us a b c h k = record {
  out = h.out ++ k.out;
  laid = h.laid ++ k.laid;
  bytes = h.bytes ++ k.bytes;
  text = k.text ∙ ap (λ z. z ++ k.bytes) h.text ∙ append_assoc a.sheet.text h.bytes k.bytes;
  utf8 = IsUtf8-append h.bytes k.bytes h.utf8 k.utf8;
  spells = chars-append h.bytes k.bytes h.utf8 ∙ ap (λ z. z ++ chars k.bytes) h.spells ∙ ap (λ z. parts.text_of h.laid ++ z) k.spells ∙ sym (text_append h.laid k.laid);
  tokens = tokens_append h.out k.out ∙ ap (λ z. z ++ tokens_of k.out) h.tokens ∙ ap (λ z. ts ++ z) k.tokens;
  remarks = remarks_append h.laid k.laid ∙ ap (λ z. z ++ remarks_in k.laid) h.remarks ∙ ap (λ z. rs ++ z) k.remarks;
  apart = λ e more n. subst (λ z. NoneFuse a.last z) (sym (append_assoc h.out k.out more)) (h.apart (enters_first i j a e) (k.out ++ more) (k.apart (enters_second i j a b e) more n));
  reduces = λ more ys r.
      subst (λ z. Reduced (held a.sheet ++ z) ((h.laid ++ k.laid) ++ ys)) (sym (append_assoc h.out k.out more))
      (subst (λ z. Reduced (held a.sheet ++ (h.out ++ (k.out ++ more))) z) (sym (append_assoc h.laid k.laid ys)) (h.reduces (k.out ++ more) (k.laid ++ ys) (k.reduces more ys r)));
  holds = k.holds ∙ h.holds;
  whole = λ e. ap (λ z. z ++ k.laid) (h.whole e) ∙ ap (λ z. h.out ++ z) (k.whole (h.holds ∙ e));
  cuts = cuts_then h.laid k.laid a.sheet b.sheet c.sheet h.cuts k.cuts;
  rest = k.rest;
  fits = λ t. let p = and_parts (all_tame rs) (all_tame qs) (sym (tame_append rs qs) ∙ t) in fits_then h.out k.out (h.fits p.0) (k.fits p.1);
}

-- what leads less far
pub lays_wider : {i : Shape} (j : Shape) {ts : List lexical.Token} {rs : List Remark} {a b : State} {w : Spot} → is_within i j ≡ true → LaysTo w i ts rs a b → LaysTo w j ts rs a b
lays_wider {i} j {a = a} e h = record { out = h.out; laid = h.laid; bytes = h.bytes; text = h.text; utf8 = h.utf8; spells = h.spells; tokens = h.tokens; remarks = h.remarks; apart = λ k. h.apart (enters_wider i j a e k); reduces = h.reduces; holds = h.holds; whole = h.whole; cuts = h.cuts; rest = h.rest; fits = λ t. fits_wider j e (h.fits t) }

-- the parts that are asked for go out, where no semicolon is held back
pub laid_out : (a b : State) (out more ys : List parts.Part) → holds_one a.sheet.semicolons ≡ false → holds_one b.sheet.semicolons ≡ false → Reduced (held b.sheet ++ more) ys → Reduced (held a.sheet ++ (out ++ more)) (out ++ ys)
laid_out a b out more ys h k r =
    subst (λ z. Reduced (held_of z (keeps_break a.sheet.semicolons) a.sheet ++ (out ++ more)) (out ++ ys)) (sym h)
    (reduced_after out more ys (subst (λ z. Reduced (held_of z (keeps_break b.sheet.semicolons) b.sheet ++ more) ys) k r))

-- nothing, where nothing that matters changes
pub lays_same : {w : Spot} (a b : State) → b.sheet.text ≡ a.sheet.text → b.last ≡ a.last → held b.sheet ≡ held a.sheet → holds_semicolons b.sheet.semicolons ≡ holds_semicolons a.sheet.semicolons → GrowsBy [] a.sheet b.sheet → RestsAt w b → LaysTo w open_ [] [] a b
unfolding parts.text_of tokens_of remarks_in
lays_same a b t l h o g r = record {
  out = [];
  laid = [];
  bytes = [];
  text = t ∙ sym (append-nil a.sheet.text);
  utf8 = IsUtf8-nil;
  spells = chars-nil;
  tokens = refl;
  remarks = refl;
  apart = λ e more n. subst (λ k. NoneFuse k more) l n;
  reduces = λ more ys d. subst (λ z. Reduced (z ++ more) ys) h d;
  holds = o;
  whole = λ e. refl;
  cuts = cuts_none a.sheet b.sheet g;
  rest = r;
  fits = λ t. fits_nothing;
}

pub lays_nothing : {w : Spot} (s : State) → RestsAt w s → LaysTo w open_ [] [] s s
lays_nothing s r = lays_same s s refl refl refl refl (grows_same s.sheet s.sheet refl) r

-- comments are taken out of the maps: nothing that matters here changes
pub rest_taken : (side : Side) (at : ℕ) (s : State) → AtRest s → AtRest (put (Take side at) s)
unfolding put
rest_taken side at s r = record { indent_text = r.indent_text; line_end = r.line_end; flowing = r.flowing; free = r.free; allowed = r.allowed }

enters_taken : (i : Shape) (side : Side) (at : ℕ) (s : State) → Enters i s → Enters i (put (Take side at) s)
unfolding put
enters_taken i side at s (inl e) = inl e
enters_taken i side at s (inr k) = inr (k.0, record { nothing_written = k.1.nothing_written; nothing_held = k.1.nothing_held; at_margin = k.1.at_margin })

pub lays_taken : {w : Spot} {i : Shape} {rs : List Remark} {ts : List lexical.Token} (side : Side) (at : ℕ) (s b : State) → LaysTo w i ts rs (put (Take side at) s) b → LaysTo w i ts rs s b
unfolding put
lays_taken {i} side at s b h = record { out = h.out; laid = h.laid; bytes = h.bytes; text = h.text; utf8 = h.utf8; spells = h.spells; tokens = h.tokens; remarks = h.remarks; apart = λ e. h.apart (enters_taken i side at s e); reduces = h.reduces; holds = h.holds; whole = h.whole; cuts = h.cuts; rest = h.rest; fits = h.fits }

-- behind a name in a tag too
pub named_taken : (side : Side) (at : ℕ) (s : State) → RestsAt InName s → RestsAt InName (put (Take side at) s)
unfolding put
named_taken side at s r = record { indent_text = r.indent_text; line_end = r.line_end; flowing = r.flowing; free = r.free; allowed = r.allowed }

-- `[no LineTerminator here]`, where no semicolon is held back
pub lays_joint : (s : State) → holds_one s.sheet.semicolons ≡ false → AtRest s → LaysAt joining (lexical.same_line ∷ []) s s
unfolding parts.text_of tokens_of remarks_in NoneFuse
lays_joint s o r = record {
  out = Joint ∷ [];
  laid = Joint ∷ [];
  bytes = [];
  text = sym (append-nil s.sheet.text);
  utf8 = IsUtf8-nil;
  spells = chars-nil;
  tokens = refl;
  remarks = refl;
  apart = λ e more n. n;
  reduces = λ more ys d. laid_out s s (Joint ∷ []) more ys o o d;
  holds = refl;
  whole = λ e. refl;
  cuts = cuts_whole (Joint ∷ []) [] s.sheet s.sheet refl IsUtf8-nil chars-nil (grows_same s.sheet s.sheet refl);
  rest = r;
  fits = λ t. fits_joint;
}
