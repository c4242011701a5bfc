-- What an expression statement doesn't begin with.
use Rattle.std.proofs.Common.{◌≡◌, ℕ, Bool, true, false, ◌&&◌, ◌||◌, not, cond, ◌⊎◌, inl, inr, Some, List, [], ◌∷◌, ◌++◌, refl, sym, ap, ◌∙◌, subst}
use Rattle.std.specs.Prelude.{map, codes, bytes_eq}
use Rattle.std.proofs.lemmas.Bool.{true≢false, and_parts}
use Rattle.std.proofs.lemmas.Slice.Eq.{bytes_eq-Decides}
use Rattle.swc_ecma_codegen_grammar.specs.declared.kinds.Kind.{Kind}
use Rattle.swc_ecma_codegen_grammar.specs.declared.kinds.Kind.TheVariants as kinds
use Rattle.swc_ecma_codegen_grammar.specs.FunctionPhrases.{is_some_listed}
use Rattle.swc_ecma_codegen_grammar.specs.Tokens.{Token, Value, Characters}
use Rattle.swc_ecma_codegen_syntax.specs.declared.nonterminals.Nonterminal.{Nonterminal}
use Rattle.swc_ecma_codegen_syntax.specs.declared.lookahead.Beginning.TheVariants as begins
use Rattle.swc_ecma_codegen_syntax.specs.declared.lookahead.Lookahead.{Lookahead}
use Rattle.swc_ecma_codegen_syntax.specs.declared.lookahead.Lookahead.TheVariants.{StatementStart, BodyStart, DefaultStart}
use Rattle.swc_ecma_codegen_syntax.specs.NameForms.{is_one_of, is_reserved}
use Rattle.swc_ecma_codegen_syntax.specs.Lookahead.{Sign, OpenBrace as BraceSign, FunctionWord as FunctionSign, ClassWord as ClassSign, AsyncWord as AsyncSign, NoLineEnd, word_sign, mark_sign, sign_of, sign, begun, beginning, is_statement_start, is_default_start, is_brace, excludes}
use Rattle.swc_ecma_codegen_uniqueness.specs.ParseTrees.{Variant, ParseTree, tokens_of}
use Rattle.swc_ecma_codegen_uniqueness.proofs.Classes.{Class, Strange, FunctionWord, ClassWord, ImportWord, AsyncWord, words, marks, child_marks, look, class_of, class, KeyToken, NameToken}
use Rattle.swc_ecma_codegen_uniqueness.proofs.Controls.{OfElse, Entered, starts, stands as stands_at, closes as closes_at}
use Rattle.swc_ecma_codegen_uniqueness.proofs.Moves.{started, shifted_to}
use Rattle.swc_ecma_codegen_uniqueness.proofs.Tables.{Leave, decide, without}
use Rattle.swc_ecma_codegen_uniqueness.proofs.PlaceLaws.{is_barred, is_import_call, import_rejects, is_line, is_function, is_no_start, none_begins, async_line, async_rejects, async_ends, leaves_alone, delayed_by}
use Rattle.swc_ecma_codegen_uniqueness.proofs.Machine.{Whole, Good, Heads, never_next, never_rejected}
use Rattle.swc_ecma_codegen_uniqueness.proofs.StatementShapes.{operand_heads, MayEnter, at_once, behind_import, behind_async, MayStand, is_open_brace}
use Rattle.swc_ecma_codegen_uniqueness.proofs.Looks.{of_neither}

-- ---- what is barred is `{`, `function` and `class`

-- a class that f tells has these texts
abbrev keyed : (Class → Bool) → List (List ℕ) → List (List ℕ × Class) → Bool
keyed f keys [] = true
keyed f keys (e ∷ es) = (not (f e.1) || is_one_of keys e.0) && keyed f keys es

not_or : (a b : Bool) → (not a || b) ≡ true → b ≡ false → a ≡ false
not_or false b h k = refl
not_or true b h k = absurd (true≢false (sym h ∙ k))

look_by : (f : Class → Bool) (keys : List (List ℕ)) (b : Bool) (e : List ℕ × Class) (es : List (List ℕ × Class)) (text : List ℕ) → bytes_eq text e.0 ≡ b → (not (f e.1) || is_one_of keys e.0) ≡ true → is_one_of keys text ≡ false →
    f (look es text) ≡ false → f (cond b e.1 (look es text)) ≡ false
look_by f keys false e es text q h k i = i
look_by f keys true e es text q h k i = not_or (f e.1) (is_one_of keys e.0) h (sym (ap (is_one_of keys) ((bytes_eq-Decides text e.0).0 q)) ∙ k)

look_free : (f : Class → Bool) (keys : List (List ℕ)) (es : List (List ℕ × Class)) (text : List ℕ) → f Strange ≡ false → keyed f keys es ≡ true → is_one_of keys text ≡ false → f (look es text) ≡ false
look_free f keys [] text z h k = z
look_free f keys (e ∷ es) text z h k =
    let p = and_parts (not (f e.1) || is_one_of keys e.0) (keyed f keys es) h in
    look_by f keys (bytes_eq text e.0) e es text refl p.0 k (look_free f keys es text z p.1 k)

abbrev Barred : Class → Sign → Type 0
Barred c g = (is_barred c ≡ false) ⊎ ((g ≡ BraceSign) ⊎ ((g ≡ FunctionSign) ⊎ (g ≡ ClassSign)))

not_either : (a b : Bool) → a ≡ false → b ≡ false → (a || (b || false)) ≡ false
not_either false false h k = refl
not_either true b h k = absurd (true≢false h)
not_either false true h k = absurd (true≢false k)

mark_by : (b : Bool) (text : List ℕ) → bytes_eq text (codes "{") ≡ b → Barred (look marks text) (mark_sign text)
unfolding mark_sign is_one_of
mark_by true text e = inr (inl (ap mark_sign ((bytes_eq-Decides text (codes "{")).0 e)))
mark_by false text e = inl (look_free is_barred (codes "{" ∷ []) marks text refl refl (not_either false (bytes_eq text (codes "{")) refl e))

word_by : (b k : Bool) (text : List ℕ) → bytes_eq text (codes "function") ≡ b → bytes_eq text (codes "class") ≡ k → Barred (look words text) (word_sign text)
unfolding word_sign is_one_of
word_by true k text e h = inr (inr (inl (ap word_sign ((bytes_eq-Decides text (codes "function")).0 e))))
word_by false true text e h = inr (inr (inr (ap word_sign ((bytes_eq-Decides text (codes "class")).0 h))))
word_by false false text e h = inl (look_free is_barred (codes "function" ∷ codes "class" ∷ []) words text refl refl (not_either _ _ e h))

signs_by : (k : Kind) (v : Value) → Barred (class_of k v) (sign_of k v)
unfolding sign_of is_one_of
signs_by kinds.Word (Characters text) = word_by (bytes_eq text (codes "function")) (bytes_eq text (codes "class")) text refl refl
signs_by kinds.Punctuator (Characters text) = mark_by (bytes_eq text (codes "{")) text refl
signs_by kinds.JsxOpen (Characters text) = inl (look_free is_barred [] child_marks text refl refl refl)
signs_by kinds.Name (Characters text) = inl (of_neither is_barred (is_reserved text) KeyToken NameToken refl refl)
signs_by (kinds.Template part) v = inl refl
signs_by (kinds.TemplateRest part) v = inl refl
signs_by k v = inl refl

signs : (t : Token) → Barred (class t) (sign t)
unfolding sign
signs t = signs_by t.kind t.value

-- ---- what a lookahead restriction says of the first token

begun_barred : (g : Sign) (gs : List Sign) → (g ≡ BraceSign) ⊎ ((g ≡ FunctionSign) ⊎ (g ≡ ClassSign)) → is_statement_start (begun (g ∷ gs)) ≡ true
unfolding begun is_statement_start
begun_barred g gs (inl e) = subst (λ z. is_statement_start (begun (z ∷ gs)) ≡ true) (sym e) refl
begun_barred g gs (inr (inl e)) = subst (λ z. is_statement_start (begun (z ∷ gs)) ≡ true) (sym e) refl
begun_barred g gs (inr (inr e)) = subst (λ z. is_statement_start (begun (z ∷ gs)) ≡ true) (sym e) refl

barred_first : (t : Token) (ts : List Token) → excludes StatementStart (beginning (t ∷ ts)) ≡ false → is_barred (class t) ≡ false
unfolding excludes beginning
barred_first t ts h = elim (signs t) [ inl e ↦ e | inr e ↦ absurd (true≢false (sym (begun_barred (sign t) _ e) ∙ h)) ]

-- `{` alone begins no value of an arrow function
open_mark_by : (b : Bool) (text : List ℕ) → bytes_eq text (codes "{") ≡ b → (is_open_brace (look marks text) ≡ false) ⊎ (mark_sign text ≡ BraceSign)
unfolding mark_sign is_one_of
open_mark_by true text e = inr (ap mark_sign ((bytes_eq-Decides text (codes "{")).0 e))
open_mark_by false text e = inl (look_free is_open_brace (codes "{" ∷ []) marks text refl refl (not_either false (bytes_eq text (codes "{")) refl e))

open_signs_by : (k : Kind) (v : Value) → (is_open_brace (class_of k v) ≡ false) ⊎ (sign_of k v ≡ BraceSign)
unfolding sign_of is_one_of
open_signs_by kinds.Word (Characters text) = inl (look_free is_open_brace [] words text refl refl refl)
open_signs_by kinds.Punctuator (Characters text) = open_mark_by (bytes_eq text (codes "{")) text refl
open_signs_by kinds.JsxOpen (Characters text) = inl (look_free is_open_brace [] child_marks text refl refl refl)
open_signs_by kinds.Name (Characters text) = inl (of_neither is_open_brace (is_reserved text) KeyToken NameToken refl refl)
open_signs_by (kinds.Template part) v = inl refl
open_signs_by (kinds.TemplateRest part) v = inl refl
open_signs_by k v = inl refl

open_signs : (t : Token) → (is_open_brace (class t) ≡ false) ⊎ (sign t ≡ BraceSign)
unfolding sign
open_signs t = open_signs_by t.kind t.value

begun_open : (g : Sign) (gs : List Sign) → g ≡ BraceSign → is_brace (begun (g ∷ gs)) ≡ true
unfolding begun is_brace
begun_open g gs e = subst (λ z. is_brace (begun (z ∷ gs)) ≡ true) (sym e) refl

open_first : (t : Token) (ts : List Token) → excludes BodyStart (beginning (t ∷ ts)) ≡ false → is_open_brace (class t) ≡ false
unfolding excludes beginning
open_first t ts h = elim (open_signs t) [ inl e ↦ e | inr e ↦ absurd (true≢false (sym (begun_open (sign t) _ e) ∙ h)) ]

-- `function` and `class` begin no value behind `export default`
abbrev pub is_default_word : Class → Bool
is_default_word FunctionWord = true
is_default_word ClassWord = true
is_default_word c = false

abbrev Declared : Class → Sign → Type 0
Declared c g = (is_default_word c ≡ false) ⊎ ((g ≡ FunctionSign) ⊎ (g ≡ ClassSign))

default_word_by : (b k : Bool) (text : List ℕ) → bytes_eq text (codes "function") ≡ b → bytes_eq text (codes "class") ≡ k → Declared (look words text) (word_sign text)
unfolding word_sign is_one_of
default_word_by true k text e h = inr (inl (ap word_sign ((bytes_eq-Decides text (codes "function")).0 e)))
default_word_by false true text e h = inr (inr (ap word_sign ((bytes_eq-Decides text (codes "class")).0 h)))
default_word_by false false text e h = inl (look_free is_default_word (codes "function" ∷ codes "class" ∷ []) words text refl refl (not_either _ _ e h))

default_signs_by : (k : Kind) (v : Value) → Declared (class_of k v) (sign_of k v)
unfolding sign_of is_one_of
default_signs_by kinds.Word (Characters text) = default_word_by (bytes_eq text (codes "function")) (bytes_eq text (codes "class")) text refl refl
default_signs_by kinds.Punctuator (Characters text) = inl (look_free is_default_word [] marks text refl refl refl)
default_signs_by kinds.JsxOpen (Characters text) = inl (look_free is_default_word [] child_marks text refl refl refl)
default_signs_by kinds.Name (Characters text) = inl (of_neither is_default_word (is_reserved text) KeyToken NameToken refl refl)
default_signs_by (kinds.Template part) v = inl refl
default_signs_by (kinds.TemplateRest part) v = inl refl
default_signs_by k v = inl refl

default_signs : (t : Token) → Declared (class t) (sign t)
unfolding sign
default_signs t = default_signs_by t.kind t.value

begun_declared : (g : Sign) (gs : List Sign) → (g ≡ FunctionSign) ⊎ (g ≡ ClassSign) → is_default_start (begun (g ∷ gs)) ≡ true
unfolding begun is_default_start
begun_declared g gs (inl e) = subst (λ z. is_default_start (begun (z ∷ gs)) ≡ true) (sym e) refl
begun_declared g gs (inr e) = subst (λ z. is_default_start (begun (z ∷ gs)) ≡ true) (sym e) refl

default_first : (t : Token) (ts : List Token) → excludes DefaultStart (beginning (t ∷ ts)) ≡ false → is_default_word (class t) ≡ false
unfolding excludes beginning
default_first t ts h = elim (default_signs t) [ inl e ↦ e | inr e ↦ absurd (true≢false (sym (begun_declared (sign t) _ e) ∙ h)) ]

-- ---- `async function`

abbrev is_async : Class → Bool
is_async AsyncWord = true
is_async c = false

async_word_by : (b : Bool) (text : List ℕ) → bytes_eq text (codes "async") ≡ b → (is_async (look words text) ≡ false) ⊎ (word_sign text ≡ AsyncSign)
unfolding word_sign is_one_of
async_word_by true text e = inr (ap word_sign ((bytes_eq-Decides text (codes "async")).0 e))
async_word_by false text e = inl (look_free is_async (codes "async" ∷ []) words text refl refl (not_either false (bytes_eq text (codes "async")) refl e))

async_signs_by : (k : Kind) (v : Value) → (is_async (class_of k v) ≡ false) ⊎ (sign_of k v ≡ AsyncSign)
unfolding sign_of is_one_of
async_signs_by kinds.Word (Characters text) = async_word_by (bytes_eq text (codes "async")) text refl
async_signs_by kinds.Punctuator (Characters text) = inl (look_free is_async [] marks text refl refl refl)
async_signs_by kinds.JsxOpen (Characters text) = inl (look_free is_async [] child_marks text refl refl refl)
async_signs_by kinds.Name (Characters text) = inl (of_neither is_async (is_reserved text) KeyToken NameToken refl refl)
async_signs_by (kinds.Template part) v = inl refl
async_signs_by (kinds.TemplateRest part) v = inl refl
async_signs_by k v = inl refl

function_word_by : (b : Bool) (text : List ℕ) → bytes_eq text (codes "function") ≡ b → (is_function (look words text) ≡ false) ⊎ (word_sign text ≡ FunctionSign)
unfolding word_sign is_one_of
function_word_by true text e = inr (ap word_sign ((bytes_eq-Decides text (codes "function")).0 e))
function_word_by false text e = inl (look_free is_function (codes "function" ∷ []) words text refl refl (not_either false (bytes_eq text (codes "function")) refl e))

function_signs_by : (k : Kind) (v : Value) → (is_function (class_of k v) ≡ false) ⊎ (sign_of k v ≡ FunctionSign)
unfolding sign_of is_one_of
function_signs_by kinds.Word (Characters text) = function_word_by (bytes_eq text (codes "function")) text refl
function_signs_by kinds.Punctuator (Characters text) = inl (look_free is_function [] marks text refl refl refl)
function_signs_by kinds.JsxOpen (Characters text) = inl (look_free is_function [] child_marks text refl refl refl)
function_signs_by kinds.Name (Characters text) = inl (of_neither is_function (is_reserved text) KeyToken NameToken refl refl)
function_signs_by (kinds.Template part) v = inl refl
function_signs_by (kinds.TemplateRest part) v = inl refl
function_signs_by k v = inl refl

line_signs_by : (k : Kind) (v : Value) → (is_line (class_of k v) ≡ false) ⊎ (sign_of k v ≡ NoLineEnd)
unfolding sign_of is_one_of
line_signs_by kinds.Word (Characters text) = inl (look_free is_line [] words text refl refl refl)
line_signs_by kinds.Punctuator (Characters text) = inl (look_free is_line [] marks text refl refl refl)
line_signs_by kinds.SameLine v = inr refl
line_signs_by kinds.JsxOpen (Characters text) = inl (look_free is_line [] child_marks text refl refl refl)
line_signs_by kinds.Name (Characters text) = inl (of_neither is_line (is_reserved text) KeyToken NameToken refl refl)
line_signs_by (kinds.Template part) v = inl refl
line_signs_by (kinds.TemplateRest part) v = inl refl
line_signs_by k v = inl refl

begun_async : (f g h : Sign) (gs : List Sign) → f ≡ AsyncSign → g ≡ NoLineEnd → h ≡ FunctionSign → begun (f ∷ g ∷ h ∷ gs) ≡ begins.AsyncFunction
unfolding begun
begun_async f g h gs x y z = ap (λ a. begun (a ∷ g ∷ h ∷ gs)) x ∙ ap (λ a. begun (AsyncSign ∷ a ∷ h ∷ gs)) y ∙ ap (λ a. begun (AsyncSign ∷ NoLineEnd ∷ a ∷ gs)) z

async_first : (l : Lookahead) → excludes l begins.AsyncFunction ≡ true → (u v w : Token) (ts : List Token) → excludes l (beginning (u ∷ v ∷ w ∷ ts)) ≡ false → class u ≡ AsyncWord → is_line (class v) ≡ true → is_function (class w) ≡ false
unfolding beginning sign
async_first l k u v w ts x i j = elim (function_signs_by w.kind w.value) [
  | inl e ↦ e
  | inr e ↦ elim (async_signs_by u.kind u.value) [
    | inl q ↦ absurd (true≢false (sym (ap is_async i) ∙ q))
    | inr q ↦ elim (line_signs_by v.kind v.value) [
      | inl r ↦ absurd (true≢false (sym j ∙ r))
      | inr r ↦ absurd (true≢false (sym k ∙ ap (excludes l) (sym (begun_async (sign u) (sign v) (sign w) (map sign ts) q r e)) ∙ x))
    ]
  ]
]

-- ---- of a tree whose tokens these are

abbrev first : Token → List Token → Token
first d [] = d
first d (t ∷ ts) = t

no_tokens : (u : Token) (us ts : List Token) → ts ≡ [] → ts ≡ u ∷ us → ⊥
unfolding is_some_listed
no_tokens u us ts e h = true≢false (sym (ap is_some_listed h) ∙ ap is_some_listed e)

-- an expression before the token that ends its statement
pub record Stated (t : Token) (p : ParseTree) : Type 0 where
  pub variant : Variant
  pub of : Nonterminal
  pub good : Good (Whole variant of) p
  pub stands : stands_at (Entered OfElse) of ≡ true
  pub closes : closes_at t of ≡ true
  pub leaves : decide (Entered OfElse) (Some variant) t ≡ Leave

-- behind `import` stands `(` or `.`, and behind `async` what stays on its line
called_by : {t : Token} {p : ParseTree} (s : Stated t p) (u v : Token) (ts : List Token) (b : Bool) → tokens_of p (t ∷ []) ≡ u ∷ v ∷ ts → class u ≡ ImportWord → is_import_call (class v) ≡ b → b ≡ true
called_by s u v ts true e i k = refl
called_by {t = t} s u v ts false e i k =
    absurd (never_next (Entered OfElse) t u v ts s.good s.stands s.closes s.leaves e (ap (without (Entered OfElse)) i) (ap (λ l. without (started l) (class v)) i ∙ import_rejects (class v) k))

line_by : {t : Token} {p : ParseTree} (s : Stated t p) (u v : Token) (ts : List Token) (b : Bool) → tokens_of p (t ∷ []) ≡ u ∷ v ∷ ts → class u ≡ AsyncWord → is_line (class v) ≡ b → b ≡ true
line_by s u v ts true e i k = refl
line_by {t = t} s u v ts false e i k =
    absurd (never_next (Entered OfElse) t u v ts s.good s.stands s.closes s.leaves e (ap (without (Entered OfElse)) i) (ap (λ l. without (started l) (class v)) i ∙ async_ends (class v) k))

-- and behind that neither `/` nor the rest of a template nor `;`
slash_by : {t : Token} {p : ParseTree} (s : Stated t p) (u v w : Token) (ts : List Token) (b : Bool) → tokens_of p (t ∷ []) ≡ u ∷ v ∷ w ∷ ts → class u ≡ AsyncWord → is_line (class v) ≡ true → is_no_start (class w) ≡ b → b ≡ false
slash_by s u v w ts false e i j k = refl
slash_by {t = t} s u v w ts true e i j k =
    let y = async_line (class v) j in
    absurd (never_rejected (Entered OfElse) t u v w ts s.good s.stands s.closes s.leaves e (ap (without (Entered OfElse)) i) (ap (λ l. without (started l) (class v)) i ∙ y.4)
    (ap (λ l. without (shifted_to (started l) (class v)) (class w)) i ∙ ap (λ c. without c (class w)) y.5 ∙ async_rejects (class w) k))

-- What an expression begins with, where its first token may not be barred, nor its first three `async function`.
may_begin : (bars : Class → Bool) (l : Lookahead) → ((u : Token) (ts : List Token) → excludes l (beginning (u ∷ ts)) ≡ false → bars (class u) ≡ false) → excludes l begins.AsyncFunction ≡ true → {t : Token} {p : ParseTree} → Stated t p → (ts : List Token) →
    ((us : List Token) → tokens_of p us ≡ ts ++ us) → excludes l (beginning ts) ≡ false → (us : List Token) → MayEnter bars (tokens_of p (t ∷ us))
may_begin bars l f k {t = t} {p = p} s [] e x us = let h = operand_heads s.good s.stands [] in absurd (no_tokens h.0 h.1 (tokens_of p []) (e []) h.2)
may_begin bars l f k {t = t} {p = p} s (u ∷ []) e x us =
    let h = operand_heads s.good s.stands [] in
    let y = subst (λ z. starts (class z) ≡ true) (ap (first u) (sym h.2 ∙ e [])) h.3 in
    subst (MayEnter bars) (sym (e (t ∷ us))) (elim (delayed_by (class u)) [
      | inl d ↦ at_once y (f u [] x) d
      | inr i ↦ elim i [
        | inl i ↦ behind_import i (called_by s u t [] (is_import_call (class t)) (e (t ∷ [])) i refl)
        | inr i ↦ absurd (true≢false (sym (line_by s u t [] (is_line (class t)) (e (t ∷ [])) i refl) ∙ (leaves_alone (class t) s.leaves).0))
      ]
    ])
may_begin bars l f k {t = t} {p = p} s (u ∷ v ∷ []) e x us =
    let h = operand_heads s.good s.stands [] in
    let y = subst (λ z. starts (class z) ≡ true) (ap (first u) (sym h.2 ∙ e [])) h.3 in
    subst (MayEnter bars) (sym (e (t ∷ us))) (elim (delayed_by (class u)) [
      | inl d ↦ at_once y (f u (v ∷ []) x) d
      | inr i ↦ elim i [
        | inl i ↦ behind_import i (called_by s u v (t ∷ []) (is_import_call (class v)) (e (t ∷ [])) i refl)
        | inr i ↦
            let j = line_by s u v (t ∷ []) (is_line (class v)) (e (t ∷ [])) i refl in
            behind_async i j (none_begins (class t) (leaves_alone (class t) s.leaves).1 (slash_by s u v t [] (is_no_start (class t)) (e (t ∷ [])) i j refl))
      ]
    ])
may_begin bars l f k {t = t} {p = p} s (u ∷ v ∷ w ∷ ts) e x us =
    let h = operand_heads s.good s.stands [] in
    let y = subst (λ z. starts (class z) ≡ true) (ap (first u) (sym h.2 ∙ e [])) h.3 in
    subst (MayEnter bars) (sym (e (t ∷ us))) (elim (delayed_by (class u)) [
      | inl d ↦ at_once y (f u (v ∷ w ∷ ts) x) d
      | inr i ↦ elim i [
        | inl i ↦ behind_import i (called_by s u v (w ∷ (ts ++ (t ∷ []))) (is_import_call (class v)) (e (t ∷ [])) i refl)
        | inr i ↦
            let j = line_by s u v (w ∷ (ts ++ (t ∷ []))) (is_line (class v)) (e (t ∷ [])) i refl in
            behind_async i j (none_begins (class w) (async_first l k u v w ts x i j) (slash_by s u v w (ts ++ (t ∷ [])) (is_no_start (class w)) (e (t ∷ [])) i j refl))
      ]
    ])

stated_good : (t : Token) {variant : Variant} {n : Nonterminal} {p : ParseTree} → Good (Whole variant n) p → stands_at (Entered OfElse) n ≡ true → closes_at t n ≡ true → decide (Entered OfElse) (Some variant) t ≡ Leave → Stated t p
stated_good t g s c l = record { variant = _; of = _; good = g; stands = s; closes = c; leaves = l }

pub may_stand : (t : Token) {variant : Variant} {n : Nonterminal} (p : ParseTree) (ts : List Token) → ((us : List Token) → tokens_of p us ≡ ts ++ us) → Good (Whole variant n) p → stands_at (Entered OfElse) n ≡ true → closes_at t n ≡ true →
    decide (Entered OfElse) (Some variant) t ≡ Leave → excludes StatementStart (beginning ts) ≡ false → MayStand t p
unfolding excludes is_statement_start
may_stand t p ts e g s c l x = λ us. may_begin is_barred StatementStart barred_first refl (stated_good t g s c l) ts e x us

-- the value of `export default`
pub may_be_default : (t : Token) {variant : Variant} {n : Nonterminal} (p : ParseTree) (ts : List Token) → ((us : List Token) → tokens_of p us ≡ ts ++ us) → Good (Whole variant n) p → stands_at (Entered OfElse) n ≡ true → closes_at t n ≡ true →
    decide (Entered OfElse) (Some variant) t ≡ Leave → excludes DefaultStart (beginning ts) ≡ false → (us : List Token) → MayEnter is_default_word (tokens_of p (t ∷ us))
unfolding excludes is_default_start
may_be_default t p ts e g s c l x us = may_begin is_default_word DefaultStart default_first refl (stated_good t g s c l) ts e x us

-- the value of an arrow function
pub may_be_value : (p : ParseTree) (ts : List Token) → ((us : List Token) → tokens_of p us ≡ ts ++ us) → Heads (λ u. starts (class u) ≡ true) p → excludes BodyStart (beginning ts) ≡ false → Heads (λ u. (is_open_brace (class u) ≡ false) × (starts (class u) ≡ true)) p
may_be_value p [] e h x = λ us. absurd (no_tokens (h []).0 (h []).1 (tokens_of p []) (e []) (h []).2)
may_be_value p (t ∷ ts) e h x = λ us. (t, ts ++ us, e us, (open_first t ts x, subst (λ z. starts (class z) ≡ true) (ap (first t) (sym (h us).2 ∙ e us)) (h us).3))

pub not_excluded : (b : Bool) → (not true || not b) ≡ true → b ≡ false
not_excluded true h = absurd (true≢false (sym h))
not_excluded false h = refl
