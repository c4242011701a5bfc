-- Parts without `[no LineTerminator here]`: they read whatever ends lines between them.
use Rattle.std.proofs.Common.{◌≡◌, ℕ, Bool, true, false, cond, List, [], ◌∷◌, ◌++◌, ◌||◌, refl, sym, ap, ◌∙◌, subst, inl, inr}
use Rattle.std.proofs.lemmas.Bool.{or_parts, true≢false}
use Rattle.swc_ecma_codegen_grammar.specs.declared.kinds.Kind.{Kind}
use Rattle.swc_ecma_codegen_grammar.specs.declared.kinds.Kind.TheVariants.{SameLine}
use Rattle.swc_ecma_codegen_grammar.specs.Chars.{is_one_line}
use Rattle.swc_ecma_codegen_grammar.specs.Tokens as lexical
use Rattle.swc_ecma_codegen_grammar.specs.Tokens.{Token, token_of, has_shape}
use Rattle.swc_ecma_codegen_grammar.specs.Trivia.{Piece, pieces_text, remarks_of}
use Rattle.swc_ecma_codegen_grammar.specs.Reads.{Reads, ReadsOn, is_same_line}
use Rattle.swc_ecma_codegen_grammar.specs.Trivia.{Remark}
use Rattle.swc_ecma_codegen_grammar.specs.GapRules.{PreviousToken, Start, Separated, last_after, last_after_gap}
use Rattle.swc_ecma_codegen_grammar.specs.Parts as parts
use Rattle.swc_ecma_codegen_grammar.specs.Parts.{Gap, Own, Joint, Break, OfLine, OnLine, PastLine, AtJoint, Broken, over_gap, over_own, walk, is_broken, tokens_of, remarks_in, NoneFuse}
use Rattle.swc_ecma_codegen_grammar.specs.LineEnds.{IsNewLine, segments, ended_text, segments_in}
use Rattle.swc_ecma_codegen_grammar.proofs.LineEnds.{reads_cut}
use Rattle.swc_ecma_codegen_grammar.proofs.Reading.{reads}
use Rattle.swc_ecma_codegen_tokens.specs.Written.{without_joints}
use Rattle.swc_ecma_codegen_tokens.proofs.Filling.Shapes.{Le, line_first, same}

unfoldable stripped : List parts.Part → List parts.Part
stripped [] = []
stripped (Gap ps ∷ xs) = Gap ps ∷ stripped xs
stripped (Own x t ∷ xs) = Own x t ∷ stripped xs
stripped (Joint ∷ xs) = stripped xs
stripped (Break ∷ xs) = Break ∷ stripped xs

stripped_text : (xs : List parts.Part) → parts.text_of (stripped xs) ≡ parts.text_of xs
unfolding stripped parts.text_of
stripped_text [] = refl
stripped_text (Gap ps ∷ xs) = ap (λ z. pieces_text ps ++ z) (stripped_text xs)
stripped_text (Own x t ∷ xs) = ap (λ z. t ++ z) (stripped_text xs)
stripped_text (Joint ∷ xs) = stripped_text xs
stripped_text (Break ∷ xs) = stripped_text xs

stripped_remarks : (xs : List parts.Part) → remarks_in (stripped xs) ≡ remarks_in xs
unfolding stripped remarks_in
stripped_remarks [] = refl
stripped_remarks (Gap ps ∷ xs) = ap (λ z. remarks_of ps ++ z) (stripped_remarks xs)
stripped_remarks (Own x t ∷ xs) = stripped_remarks xs
stripped_remarks (Joint ∷ xs) = stripped_remarks xs
stripped_remarks (Break ∷ xs) = stripped_remarks xs

stripped_fuse : (k : PreviousToken) (xs : List parts.Part) → NoneFuse k xs → NoneFuse k (stripped xs)
unfolding stripped NoneFuse
stripped_fuse k [] h = h
stripped_fuse k (Gap ps ∷ xs) h = (h.0, h.1, h.2, stripped_fuse (last_after_gap k ps) xs h.3)
stripped_fuse k (Own x t ∷ xs) h = (h.0, h.1, h.2, h.3, stripped_fuse (last_after k x t) xs h.4)
stripped_fuse k (Joint ∷ xs) h = stripped_fuse k xs h
stripped_fuse k (Break ∷ xs) h = (h.0, stripped_fuse k xs h.1, stripped_fuse Separated xs h.2)

-- a token that is spelled is no joint
spelled_kind : (x : Kind) (t : List ℕ) → has_shape x t ≡ true → is_same_line x ≡ false
unfolding has_shape is_same_line
spelled_kind SameLine t h = absurd (true≢false (sym h))
spelled_kind x t h = refl

kept : (x : Kind) (t : List ℕ) (ts : List Token) → has_shape x t ≡ true → without_joints (token_of x t ∷ ts) ≡ token_of x t ∷ without_joints ts
unfolding without_joints token_of
kept x t ts h = ap (λ b. cond b (without_joints ts) (token_of x t ∷ without_joints ts)) (spelled_kind x t h)

joint_left : (ts : List Token) → without_joints (lexical.same_line ∷ ts) ≡ without_joints ts
unfolding without_joints lexical.same_line is_same_line
joint_left ts = refl

stripped_tokens : (k : PreviousToken) (xs : List parts.Part) → NoneFuse k xs → tokens_of (stripped xs) ≡ without_joints (tokens_of xs)
unfolding stripped NoneFuse tokens_of
stripped_tokens k [] h = unfold without_joints in refl
stripped_tokens k (Gap ps ∷ xs) h = stripped_tokens (last_after_gap k ps) xs h.3
stripped_tokens k (Own x t ∷ xs) h = ap (λ z. token_of x t ∷ z) (stripped_tokens (last_after k x t) xs h.4) ∙ sym (kept x t (tokens_of xs) h.0)
stripped_tokens k (Joint ∷ xs) h = stripped_tokens k xs h ∙ sym (joint_left (tokens_of xs))
stripped_tokens k (Break ∷ xs) h = stripped_tokens k xs h.1

-- on a line or past its end, no joint before
unfoldable is_calm : OfLine → Bool
is_calm OnLine = true
is_calm PastLine = true
is_calm w = false

gap_calm : (o : Bool) (w : OfLine) → is_calm w ≡ true → is_calm (over_gap o w) ≡ true
unfolding is_calm over_gap
gap_calm true w h = h
gap_calm false OnLine h = refl
gap_calm false PastLine h = refl
gap_calm false AtJoint h = absurd (true≢false (sym h))
gap_calm false Broken h = absurd (true≢false (sym h))

own_calm : (w : OfLine) → is_calm w ≡ true → is_calm (over_own w) ≡ true
unfolding is_calm over_own
own_calm OnLine h = refl
own_calm PastLine h = refl
own_calm AtJoint h = refl
own_calm Broken h = absurd (true≢false (sym h))

calm_end : (w : OfLine) → is_calm w ≡ true → is_broken w ≡ false
unfolding is_calm is_broken
calm_end OnLine h = refl
calm_end PastLine h = refl
calm_end AtJoint h = refl
calm_end Broken h = absurd (true≢false (sym h))

stripped_calm : (xs : List parts.Part) (w : OfLine) → is_calm w ≡ true → is_calm (walk w (stripped xs)) ≡ true
unfolding stripped walk
stripped_calm [] w h = h
stripped_calm (Gap ps ∷ xs) w h = stripped_calm xs _ (gap_calm (is_one_line (pieces_text ps)) w h)
stripped_calm (Own x t ∷ xs) w h = stripped_calm xs _ (own_calm w h)
stripped_calm (Joint ∷ xs) w h = stripped_calm xs w h
stripped_calm (Break ∷ xs) w h = stripped_calm xs _ (gap_calm false w h)

-- whatever ends lines between them, parts in which no two fuse read as their tokens, where nothing is said of lines
pub reads_without : (xs : List parts.Part) → NoneFuse Start xs → Reads (parts.text_of xs) (without_joints (tokens_of xs)) (remarks_in xs)
unfolding is_calm
reads_without xs h =
    let r = reads (stripped xs) (stripped_fuse Start xs h) (calm_end (walk OnLine (stripped xs)) (stripped_calm xs OnLine refl)) in
    subst (λ z. Reads z (without_joints (tokens_of xs)) (remarks_in xs)) (stripped_text xs)
    (subst (λ z. Reads (parts.text_of (stripped xs)) z (remarks_in xs)) (stripped_tokens Start xs h)
    (subst (λ z. Reads (parts.text_of (stripped xs)) (tokens_of (stripped xs)) z) (stripped_remarks xs) r))

stripped_segments : (xs : List parts.Part) (begun : List ℕ) → segments (stripped xs) begun ≡ segments xs begun
unfolding stripped segments
stripped_segments [] begun = refl
stripped_segments (Gap ps ∷ xs) begun = stripped_segments xs (begun ++ pieces_text ps)
stripped_segments (Own x t ∷ xs) begun = stripped_segments xs (begun ++ t)
stripped_segments (Joint ∷ xs) begun = stripped_segments xs begun
stripped_segments (Break ∷ xs) begun = ap (λ z. begun ∷ z) (stripped_segments xs [])

-- so they do where lines are ended at some of the places where they may be
pub cut_without : (line : List Piece) (xs : List parts.Part) (c : List ℕ) (ps : List (Bool × List ℕ)) → IsNewLine line → NoneFuse Start xs → segments xs [] ≡ (c ∷ segments_in ps) → Reads (c ++ ended_text (pieces_text line) ps) (without_joints (tokens_of xs)) (remarks_in xs)
unfolding is_calm
cut_without line xs c ps l h e =
    let r = reads_cut line (stripped xs) c ps l (stripped_fuse Start xs h) (calm_end (walk OnLine (stripped xs)) (stripped_calm xs OnLine refl)) (stripped_segments xs [] ∙ e) in
    subst (λ z. Reads (c ++ ended_text (pieces_text line) ps) z (remarks_in xs)) (stripped_tokens Start xs h)
    (subst (λ z. Reads (c ++ ended_text (pieces_text line) ps) (tokens_of (stripped xs)) z) (stripped_remarks xs) r)

-- `[no LineTerminator here]` is among these tokens
unfoldable pub holds_joint : List Token → Bool
holds_joint [] = false
holds_joint (x ∷ xs) = is_same_line x.kind || holds_joint xs

calm_walk : (xs : List parts.Part) (w : OfLine) → holds_joint (tokens_of xs) ≡ false → is_calm w ≡ true → is_calm (walk w xs) ≡ true
unfolding walk tokens_of holds_joint token_of lexical.same_line is_same_line
calm_walk [] w n h = h
calm_walk (Gap ps ∷ xs) w n h = calm_walk xs _ n (gap_calm (is_one_line (pieces_text ps)) w h)
calm_walk (Own x t ∷ xs) w n h = calm_walk xs _ (or_parts (is_same_line x) (holds_joint (tokens_of xs)) n).1 (own_calm w h)
calm_walk (Joint ∷ xs) w n h = absurd (true≢false n)
calm_walk (Break ∷ xs) w n h = calm_walk xs _ n (gap_calm false w h)

calm_le : (w : OfLine) → is_calm w ≡ true → Le w PastLine
unfolding is_calm
calm_le OnLine h = line_first PastLine
calm_le PastLine h = same PastLine
calm_le AtJoint h = absurd (true≢false (sym h))
calm_le Broken h = absurd (true≢false (sym h))

-- parts without it lead from past the end of a line no farther
pub walks_past : (xs : List parts.Part) → holds_joint (tokens_of xs) ≡ false → Le (walk PastLine xs) PastLine
unfolding is_calm
walks_past xs n = calm_le (walk PastLine xs) (calm_walk xs PastLine n refl)

-- a text that reads as some tokens reads as these without it
dropped_joint : (first : Bool) (text : List ℕ) (xs : List Token) (rs : List Remark) → ReadsOn first false text (without_joints xs) rs → ReadsOn first false text (cond (is_same_line lexical.same_line.kind) (without_joints xs) (lexical.same_line ∷ without_joints xs)) rs
unfolding lexical.same_line is_same_line
dropped_joint first text xs rs h = h

drops : (ts : List Token) (first joined : Bool) (text : List ℕ) (rs : List Remark) → ReadsOn first joined text ts rs → ReadsOn first false text (without_joints ts) rs
unfolding ReadsOn without_joints
drops [] first joined text rs h = h
drops (x ∷ xs) first joined text rs (inl h) =
    let k = drops xs first true text rs h.1 in
    let P : Token → Type 0 = λ z. ReadsOn first false text (cond (is_same_line z.kind) (without_joints xs) (z ∷ without_joints xs)) rs in
    subst P (sym h.0) (dropped_joint first text xs rs k)
drops (x ∷ xs) first joined text rs (inr h) =
    let none : is_same_line x.kind ≡ false = spelled_kind x.kind h.1 h.10.stands.spells.shape in
    let P : Bool → Type 0 = λ b. ReadsOn first false text (cond b (without_joints xs) (x ∷ without_joints xs)) rs in
    subst P (sym none) (inr (h.0, h.1, h.2, h.3, h.4, h.5, h.6, h.7, h.8, (λ e. absurd (true≢false (sym e))), h.10, drops xs false false h.2 h.4 h.11, h.12))

pub drops_joints : (ts : List Token) (text : List ℕ) (rs : List Remark) → Reads text ts rs → Reads text (without_joints ts) rs
unfolding Reads
drops_joints ts text rs h = drops ts true false text rs h
