-- What an emission under ASCII only adds to a text.
use Rattle.std.proofs.Common.{◌≡◌, ℕ, Bool, true, false, cond, not, ◌&&◌, ◌||◌, List, [], ◌∷◌, ◌++◌, nat_lt, refl, sym, ap, ◌∙◌, subst, append_assoc, append-nil, inl, inr, Option, Result, Ok, Err, OnOk}
use Rattle.std.specs.Str.{chars}
use Rattle.std.proofs.lemmas.Bool.{and_from, and_parts, or_parts, false_from_ne_true, true≢false}
use Rattle.std.proofs.lemmas.List.Folds.{list_all-append}
use Rattle.swc_ecma_codegen_common.specs.declared.errors.Refusal.{Refusal}
use Rattle.swc_ecma_codegen_common.specs.declared.positions.Span.{Span}
use Rattle.swc_ecma_codegen_grammar.specs.Settings.{Settings, is_up_to_es5}
use Rattle.swc_ecma_codegen_grammar.specs.Phrases.{Phrase, Never, Nothing, One, NameOf, KeyOf, PrivateOf, TagNameOf, Then, CommaBefore, OptionalParentheses, Chosen, EmptyArguments, LoopEnding, AttributesWord, in_parentheses, close_parenthesis, Generates, chosen, is_possible}
use Rattle.swc_ecma_codegen_grammar.specs.Tokens as lexical
use Rattle.swc_ecma_codegen_tokens.proofs.Emission.Fronts.{are_inner_steps, run_fills}
use Rattle.swc_ecma_codegen_text_writer.specs.Sheet.{Item, Semi, Comment, Sheet, effect, fills_lines}
use Rattle.swc_ecma_codegen_literals.specs.AsciiNames.{is_ascii_text}
use Rattle.swc_ecma_codegen_tokens.specs.Ascii.{is_other_value, is_other, is_other_piece, is_other_end, is_kept, is_kept_piece, is_kept_end, keeps_other, are_ascii_or_kept, text_if, other_texts, keeps_tokens, may_keep_other, WantsAscii, IsAsciiBut, AddsAscii}
use Rattle.swc_ecma_codegen_tokens.specs.Run.{Env, Part, State, Step, Guard, Token, Plain, Ends, Remake, Take, CommentText, spoken, put, run, steps_of, nothing, text_of, Follows}
use Rattle.swc_ecma_codegen_tokens.specs.Settings.{settings_of}
use Rattle.swc_ecma_codegen_tokens.specs.Targets.{is_out}
use Rattle.swc_ecma_codegen_tokens.specs.Written.{Spot}
use Rattle.swc_ecma_codegen_tokens.proofs.Emission.StepAscii.{tokens_keep}
use Rattle.swc_ecma_codegen_tokens.proofs.Filling.HeldTexts.{Stands, AddsTexts, Goes, call_goes, guard_goes, goes_first, goes_last}
use Rattle.swc_ecma_codegen_tokens.proofs.NameTokens.KeyTexts.{key_kept}
use Rattle.swc_ecma_codegen_tokens.proofs.Emission.PartSteps.{steps_alone}
use Rattle.swc_ecma_codegen_tokens.proofs.Reading.Phrased.{made_not_out, PrintsOn}
use Rattle.swc_ecma_codegen_tokens.proofs.Filling.Shapes.{Shape}

-- ---- ASCII, save some texts

ascii_both : (t u : List ℕ) → is_ascii_text t ≡ true → is_ascii_text u ≡ true → is_ascii_text (t ++ u) ≡ true
ascii_both t u h k = list_all-append (λ c. nat_lt c 128) t u ∙ and_from (is_ascii_text t) (is_ascii_text u) h k

but_later : (us : List (List ℕ)) (t u : List ℕ) → is_ascii_text t ≡ true → IsAsciiBut us u → IsAsciiBut us (t ++ u)
unfolding IsAsciiBut
but_later [] t u a h = ascii_both t u a h
but_later (c ∷ cs) t u a h = (t ++ h.0, h.1, ap (λ z. t ++ z) h.2 ∙ sym (append_assoc t h.0 (c ++ h.1)), ascii_both t h.0 a h.3, h.4)

but_both : (ts us : List (List ℕ)) (t u : List ℕ) → IsAsciiBut ts t → IsAsciiBut us u → IsAsciiBut (ts ++ us) (t ++ u)
unfolding IsAsciiBut
but_both [] us t u h k = but_later us t u h k
but_both (c ∷ cs) us t u h k = (h.0, h.1 ++ u, ap (λ z. z ++ u) h.2 ∙ append_assoc h.0 (c ++ h.1) u ∙ ap (λ z. h.0 ++ z) (append_assoc c h.1 u), h.3, but_both cs us h.1 u h.4 k)

but_itself : (t : List ℕ) → IsAsciiBut (t ∷ []) t
unfolding IsAsciiBut
but_itself t = ([], [], sym (append-nil t), refl, refl)

ascii_stands : Stands IsAsciiBut
unfolding IsAsciiBut
ascii_stands = record { nothing = refl; both = but_both; blank = refl; semicolon = refl }

-- a call that hands over ASCII, or a text that stands as it is
other_call : {ts : List (List ℕ)} {old : List ℕ} (a kept : Bool) (x : Item) (s : Sheet) → is_ascii_text (text_of x) ≡ a → (a || kept) ≡ true → Goes IsAsciiBut ts old s → Goes IsAsciiBut (ts ++ text_if (kept && not a) (text_of x)) old (effect x s)
unfolding IsAsciiBut text_of
other_call true true x s e h g = call_goes ascii_stands x s e (λ span q. refl) g
other_call true false x s e h g = call_goes ascii_stands x s e (λ span q. refl) g
other_call false true x s e h g = call_goes ascii_stands x s (but_itself (text_of x)) (λ span q. absurd (true≢false (sym (ap (λ z. is_ascii_text (text_of z)) q) ∙ e))) g
other_call false false x s e h g = absurd (true≢false (sym h))

no_semicolon : {P : Type 0} (t : List ℕ) (span : Option Span) → ◌≡◌ {A = Item} (Comment t) (Semi span) → P
no_semicolon t span h = absurd (cc)

-- the text of a comment, whatever it is
said_goes : {ts : List (List ℕ)} {old : List ℕ} (t : List ℕ) (s : Sheet) → Goes IsAsciiBut ts old s → Goes IsAsciiBut (ts ++ t ∷ []) old (effect (Comment t) s)
unfolding text_of
said_goes t s g = call_goes ascii_stands (Comment t) s (but_itself t) (λ span q. no_semicolon t span q) g

goes_on : (ts : List (List ℕ)) (old : List ℕ) (us vs : List (List ℕ)) (s : Sheet) → Goes IsAsciiBut ((ts ++ us) ++ vs) old s → Goes IsAsciiBut (ts ++ (us ++ vs)) old s
goes_on ts old us vs s g = subst (λ z. Goes IsAsciiBut z old s) (append_assoc ts us vs) g

run_ascii : {ts : List (List ℕ)} {old : List ℕ} (xs : List Step) (a : State) → are_ascii_or_kept xs ≡ true → Goes IsAsciiBut ts old a.sheet → Goes IsAsciiBut (ts ++ other_texts xs) old (run xs a).sheet
unfolding run put are_ascii_or_kept other_texts is_other is_other_piece is_other_end
run_ascii {ts} {old} [] a h g = subst (λ z. Goes IsAsciiBut z old a.sheet) (sym (append-nil ts)) g
run_ascii (Guard t ∷ xs) a h g = run_ascii xs (put (Guard t) a) h (guard_goes ascii_stands t a g)
run_ascii {ts} {old} (Token kind x ∷ xs) a h g =
    let p = and_parts (is_ascii_text (text_of x) || is_kept kind x) (are_ascii_or_kept xs) h in
    goes_on ts old (text_if (is_other kind x) (text_of x)) (other_texts xs) (run xs (put (Token kind x) a)).sheet
    (run_ascii {ts = ts ++ text_if (is_other kind x) (text_of x)} xs (put (Token kind x) a) p.1 (other_call (is_ascii_text (text_of x)) (is_kept kind x) x a.sheet refl p.0 g))
run_ascii {ts} {old} (Plain x ∷ xs) a h g =
    let p = and_parts (is_ascii_text (text_of x) || is_kept_piece x) (are_ascii_or_kept xs) h in
    goes_on ts old (text_if (is_other_piece x) (text_of x)) (other_texts xs) (run xs (put (Plain x) a)).sheet
    (run_ascii {ts = ts ++ text_if (is_other_piece x) (text_of x)} xs (put (Plain x) a) p.1 (other_call (is_ascii_text (text_of x)) (is_kept_piece x) x a.sheet refl p.0 g))
run_ascii {ts} {old} (Ends tokens x ∷ xs) a h g =
    let p = and_parts (is_ascii_text (text_of x) || is_kept_end tokens x) (are_ascii_or_kept xs) h in
    goes_on ts old (text_if (is_other_end tokens x) (text_of x)) (other_texts xs) (run xs (put (Ends tokens x) a)).sheet
    (run_ascii {ts = ts ++ text_if (is_other_end tokens x) (text_of x)} xs (put (Ends tokens x) a) p.1 (other_call (is_ascii_text (text_of x)) (is_kept_end tokens x) x a.sheet refl p.0 g))
run_ascii (Remake due ∷ xs) a h g = run_ascii xs (put (Remake due) a) h g
run_ascii (Take side at ∷ xs) a h g = run_ascii xs (put (Take side at) a) h g
run_ascii {ts} {old} (CommentText t ∷ xs) a h g =
    goes_on ts old (t ∷ []) (other_texts xs) (run xs (put (CommentText t) a)).sheet (run_ascii {ts = ts ++ t ∷ []} xs (put (CommentText t) a) h (said_goes t a.sheet g))

-- Steps that hand over ASCII, or texts that stand as they are: what they add is ASCII save these, also where lines begin and end among them.
pub steps_ascii : (xs : List Step) (a : State) → WantsAscii a → are_ascii_or_kept xs ≡ true → fills_lines (run xs a).sheet.lines ≡ false → AddsAscii (other_texts xs) a.sheet.text (run xs a).sheet.text
unfolding IsAsciiBut
steps_ascii xs a s h n =
    let g : AddsTexts IsAsciiBut (other_texts xs) a.sheet.text (run xs a).sheet.text = goes_last ascii_stands (run xs a).sheet n (run_ascii xs a h (goes_first ascii_stands a.sheet s.indent_text s.line_end s.flowing)) in
    record { added = g.added; is_added = g.is_added; ascii = g.stand }

-- ---- what an emission adds

pub part_ascii : {v w : Spot} {i : Shape} {p : Part} {f : Phrase} {env : Env} → PrintsOn v w i env p f → is_possible f ≡ true → is_out env.config f ≡ false → env.config.ascii_only ≡ true → are_ascii_or_kept (steps_of (p nothing env)) ≡ true
part_ascii {env = env} prints w o e = let h = (prints.where_possible w o env.maps).writes in ap are_ascii_or_kept (steps_alone h) ∙ h.hands.ascii e

-- lines are filled after a part as before it
pub part_fills : {v w : Spot} {i : Shape} {p : Part} {f : Phrase} (a : State) → PrintsOn v w i a.env p f → is_possible f ≡ true → is_out a.env.config f ≡ false → fills_lines (run (steps_of (p nothing a.env)) a).sheet.lines ≡ fills_lines a.sheet.lines
part_fills {p = p} a prints w o =
    let h = (prints.where_possible w o a.env.maps).writes in
    run_fills (steps_of (p nothing a.env)) a (ap are_inner_steps (steps_alone h) ∙ h.inner)

-- under ASCII only what is added is ASCII, save what stands as it is, and the texts of comments
pub printed_ascii : {v w : Spot} {i : Shape} (p : Part) (f : Phrase) (a b : State) (r : Result (Unit {0}) Refusal) → PrintsOn v w i a.env p f → is_possible f ≡ true → WantsAscii a → Follows (p nothing) a b r → OnOk r (AddsAscii (other_texts (steps_of (p nothing a.env))) a.sheet.text b.sheet.text)
unfolding Follows
printed_ascii p f a b (Ok u) prints w s k =
    let o = made_not_out p f a.env prints w k.0 in
    let steps : List Step = steps_of (p nothing a.env) in
    let P : State → Type 0 = λ z. AddsAscii (other_texts steps) a.sheet.text z.sheet.text in
    subst P (sym k.1) (steps_ascii steps a s (part_ascii prints w o s.by_settings) (part_fills a prints w o ∙ s.flowing))
printed_ascii p f a b (Err x) prints w s k = tt

-- where no such text is among the steps, they are the texts of comments
pub none_other : (xs : List Step) → keeps_other xs ≡ false → other_texts xs ≡ spoken xs
unfolding keeps_other other_texts spoken
none_other [] h = refl
none_other (Guard t ∷ xs) h = none_other xs h
none_other (Token kind x ∷ xs) h = let p = or_parts (is_other kind x) (keeps_other xs) h in ap (λ z. text_if z (text_of x) ++ other_texts xs) p.0 ∙ none_other xs p.1
none_other (Plain x ∷ xs) h = let p = or_parts (is_other_piece x) (keeps_other xs) h in ap (λ z. text_if z (text_of x) ++ other_texts xs) p.0 ∙ none_other xs p.1
none_other (Ends tokens x ∷ xs) h = let p = or_parts (is_other_end tokens x) (keeps_other xs) h in ap (λ z. text_if z (text_of x) ++ other_texts xs) p.0 ∙ none_other xs p.1
none_other (Remake due ∷ xs) h = none_other xs h
none_other (Take side at ∷ xs) h = none_other xs h
none_other (CommentText t ∷ xs) h = ap (λ z. t ∷ z) (none_other xs h)

-- ---- what may stand as it is, by the tree

kept_alone : (b : Bool) → (b || false) ≡ b
kept_alone true = refl
kept_alone false = refl

choice_kept : (s : Settings) → keeps_tokens (chosen s EmptyArguments) ≡ false
unfolding keeps_tokens chosen is_other_value lexical.punctuator
choice_kept s = elim s.minify as (λ b. keeps_tokens (cond b [] (in_parentheses [])) ≡ false) [ true ↦ refl | false ↦ refl ]

ending_kept : (s : Settings) → keeps_tokens (chosen s LoopEnding) ≡ false
unfolding keeps_tokens chosen is_other_value lexical.ending
ending_kept s = elim (is_up_to_es5 s.target) as (λ b. keeps_tokens (cond b (lexical.ending ∷ []) []) ≡ false) [ true ↦ refl | false ↦ refl ]

word_kept : (s : Settings) → keeps_tokens (chosen s AttributesWord) ≡ false
unfolding keeps_tokens chosen is_other_value lexical.word
word_kept s = refl

kept_listed : (s : Settings) (f : Phrase) (ts : List lexical.Token) → is_possible f ≡ true → Generates s f ts → keeps_tokens ts ≡ may_keep_other f
unfolding Generates is_possible keeps_tokens may_keep_other is_other_value lexical.name lexical.private_name lexical.tag_name lexical.punctuator
kept_listed s Never ts w g = absurd g
kept_listed s Nothing ts w g = ap keeps_tokens g
kept_listed s (One x) ts w g = ap keeps_tokens g ∙ kept_alone (is_other_value x.kind x.value)
kept_listed s (NameOf at bytes) ts w g = ap keeps_tokens g
kept_listed s (KeyOf at bytes) ts w g = ap keeps_tokens g ∙ key_kept s bytes w
kept_listed s (PrivateOf bytes) ts w g = ap keeps_tokens g
kept_listed s (TagNameOf at bytes) ts w g = ap keeps_tokens g ∙ kept_alone (not (is_ascii_text (chars bytes)))
kept_listed s (Then a b) ts w g =
    let p = and_parts (is_possible a) (is_possible b) w in
    ap keeps_tokens g.4 ∙ tokens_keep g.0 g.1 ∙ ap (λ z. z || keeps_tokens g.1) (kept_listed s a g.0 p.0 g.2) ∙ ap (λ z. may_keep_other a || z) (kept_listed s b g.1 p.1 g.3)
kept_listed s (CommaBefore close) ts w (inl g) = ap keeps_tokens g
kept_listed s (CommaBefore close) ts w (inr g) = ap keeps_tokens g
kept_listed s (OptionalParentheses round a) ts w (inl g) = kept_listed s a ts w g
kept_listed s (OptionalParentheses round a) ts w (inr g) = ap keeps_tokens g.2 ∙ tokens_keep g.0 (close_parenthesis ∷ []) ∙ kept_alone (keeps_tokens g.0) ∙ kept_listed s a g.0 w g.1
kept_listed s (Chosen EmptyArguments) ts w g = ap keeps_tokens g ∙ choice_kept s
kept_listed s (Chosen LoopEnding) ts w g = ap keeps_tokens g ∙ ending_kept s
kept_listed s (Chosen AttributesWord) ts w g = ap keeps_tokens g ∙ word_kept s

-- where no such token is in the tree, no such text is among the steps
pub printed_keeps : {v w : Spot} {i : Shape} (p : Part) (f : Phrase) (env : Env) → PrintsOn v w i env p f → is_possible f ≡ true → is_out env.config f ≡ false → may_keep_other f ≡ false → keeps_other (steps_of (p nothing env)) ≡ false
printed_keeps p f env prints w o none =
    let h = prints.where_possible w o env.maps in
    ap keeps_other (steps_alone h.writes) ∙ false_from_ne_true (keeps_other h.writes.steps) (λ n. true≢false (sym (h.writes.hands.keeps n) ∙ kept_listed (settings_of env.config) f h.tokens w h.generated ∙ none))
