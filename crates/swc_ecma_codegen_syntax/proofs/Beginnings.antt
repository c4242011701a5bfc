-- What the lists of a phrase begin with.
use Rattle.std.proofs.Common.{◌≡◌, Bool, true, false, refl, sym, subst, ap, ◌∙◌, List, [], ◌∷◌, ◌++◌, map}
use Rattle.std.proofs.lemmas.Bool.{true≢false}
use Rattle.std.proofs.lemmas.List.{map-append, append-nil}
use Rattle.swc_ecma_codegen_grammar.specs.Phrases.{Phrase, Never, Nothing, One, Then, same_line, Generates}
use Rattle.swc_ecma_codegen_grammar.specs.Settings.{Settings}
use Rattle.swc_ecma_codegen_grammar.specs.Tokens.{Token}
use Rattle.swc_ecma_codegen_grammar.specs.Tokens as tokens
use Rattle.swc_ecma_codegen_syntax.specs.declared.lookahead.Beginning.{Beginning}
use Rattle.swc_ecma_codegen_syntax.specs.declared.lookahead.Beginning.TheVariants as begins
use Rattle.swc_ecma_codegen_syntax.specs.Lookahead.{Sign, OpenBracket, FunctionWord, LetWord, AsyncWord, NoLineEnd, AnyToken, sign, sign_of, begun, beginning}
use Rattle.swc_ecma_codegen_syntax.specs.Beginnings.{goes_on, goes_on_in_brackets, goes_on_in_line}

-- a text that is asked for
abbrev pub is_asked : Beginning → Bool
is_asked begins.Nothing = false
is_asked b = true

-- what comes behind a beginning
abbrev pub joined : Beginning → List Sign → Beginning
joined begins.LetAlone ts = begun (LetWord ∷ ts)
joined begins.AsyncAlone ts = begun (AsyncWord ∷ ts)
joined b ts = b

begun_more : (ts us : List Sign) → is_asked (begun ts) ≡ true → begun (ts ++ us) ≡ joined (begun ts) us
unfolding begun
begun_more [] us h = absurd (true≢false (sym h))
begun_more (LetWord ∷ []) us h = refl
begun_more (LetWord ∷ OpenBracket ∷ ts) us h = refl
begun_more (LetWord ∷ NoLineEnd ∷ ts) us h = refl
begun_more (LetWord ∷ t ∷ ts) us h = refl
begun_more (AsyncWord ∷ []) us h = refl
begun_more (AsyncWord ∷ NoLineEnd ∷ []) us h = absurd (true≢false (sym h))
begun_more (AsyncWord ∷ NoLineEnd ∷ FunctionWord ∷ ts) us h = refl
begun_more (AsyncWord ∷ NoLineEnd ∷ t ∷ ts) us h = refl
begun_more (AsyncWord ∷ t ∷ ts) us h = refl
begun_more (t ∷ ts) us h = refl

-- a list begins so
abbrev pub Begins : Beginning → List Token → Type 0
Begins b ts = (beginning ts ≡ b) × (is_asked b ≡ true)

more : (us vs : List Token) (b : Beginning) → Begins b us → beginning (us ++ vs) ≡ joined b (map sign vs)
unfolding beginning
more us vs b (e, h) =
    ap begun (map-append sign us vs) ∙ begun_more (map sign us) (map sign vs) (ap is_asked e ∙ h) ∙ ap (λ z. joined z (map sign vs)) e

-- each list of a phrase begins so; and its first token has this sign
abbrev pub Leads : Settings → Phrase → Beginning → Type 0
Leads s p b = (ts : List Token) → Generates s p ts → Begins b ts

abbrev pub First : Settings → Phrase → Sign → Type 0
First s p z = (ts : List Token) → Generates s p ts → (t : Token) × (us : List Token) × (ts ≡ t ∷ us) × (sign t ≡ z)

-- ---- first tokens

pub first_one : (s : Settings) (x : Token) (z : Sign) → sign x ≡ z → First s (One x) z
unfolding Generates
first_one s x z e ts h = (x, [], h, e)

pub first_then : (s : Settings) (p q : Phrase) (z : Sign) → First s p z → First s (Then p q) z
unfolding Generates
first_then s p q z h ts (us, vs, x, y, e) =
    let (t, ws, k, l) = h us x in
    (t, ws ++ vs, e ∙ ap (λ xs. xs ++ vs) k, l)

pub first_nothing : (s : Settings) (q : Phrase) (z : Sign) → First s q z → First s (Then Nothing q) z
unfolding Generates
first_nothing s q z h ts (us, vs, x, y, e) =
    let (t, ws, k, l) = h vs y in
    (t, ws, e ∙ ap (λ xs. xs ++ vs) x ∙ k, l)

-- those that nothing behind them changes
abbrev is_settled : Sign → Bool
is_settled LetWord = false
is_settled AsyncWord = false
is_settled t = true

settled_begun : (z : Sign) (zs : List Sign) → is_settled z ≡ true → begun (z ∷ zs) ≡ begun (z ∷ [])
unfolding begun
settled_begun LetWord zs h = absurd (true≢false (sym h))
settled_begun AsyncWord zs h = absurd (true≢false (sym h))
settled_begun z zs h = refl

settled_asked : (z : Sign) → is_asked (begun (z ∷ [])) ≡ true
unfolding begun
settled_asked LetWord = refl
settled_asked z = refl

pub leads_first : (s : Settings) (p : Phrase) (z : Sign) → is_settled z ≡ true → First s p z → Leads s p (begun (z ∷ []))
unfolding beginning
leads_first s p z h first ts x =
    let (t, us, e, k) = first ts x in
    (ap (λ xs. begun (map sign xs)) e ∙ ap (λ y. begun (y ∷ map sign us)) k ∙ settled_begun z (map sign us) h, settled_asked z)

-- anything else
pub leads_other : (s : Settings) (p : Phrase) → First s p AnyToken → Leads s p begins.Other
unfolding begun
leads_other s p first = leads_first s p AnyToken refl first

-- ---- what goes on

abbrev is_next : Sign → Bool
is_next OpenBracket = false
is_next NoLineEnd = false
is_next z = true

joined_goes : (b : Beginning) (z : Sign) (zs : List Sign) → is_next z ≡ true → joined b (z ∷ zs) ≡ goes_on b
unfolding begun goes_on
joined_goes begins.LetAlone OpenBracket zs h = absurd (true≢false (sym h))
joined_goes begins.LetAlone NoLineEnd zs h = absurd (true≢false (sym h))
joined_goes begins.LetAlone z zs h = refl
joined_goes begins.AsyncAlone NoLineEnd zs h = absurd (true≢false (sym h))
joined_goes begins.AsyncAlone z zs h = refl
joined_goes b z zs h = refl

asked_goes : (b : Beginning) → is_asked b ≡ true → is_asked (goes_on b) ≡ true
unfolding goes_on
asked_goes begins.LetAlone h = refl
asked_goes begins.AsyncAlone h = refl
asked_goes b h = h

pub leads_goes : (s : Settings) (p q : Phrase) (b : Beginning) (z : Sign) → is_next z ≡ true → Leads s p b → First s q z → Leads s (Then p q) (goes_on b)
unfolding Generates
leads_goes s p q b z n leads first ts (us, vs, x, y, e) =
    let (t, ws, k, l) = first vs y in (
      ap beginning e ∙ more us vs b (leads us x) ∙ ap (λ xs. joined b (map sign xs)) k ∙ ap (λ w. joined b (w ∷ map sign ws)) l ∙ joined_goes b z (map sign ws) n,
      asked_goes b (leads us x).1,
    )

joined_brackets : (b : Beginning) (zs : List Sign) → joined b (OpenBracket ∷ zs) ≡ goes_on_in_brackets b
unfolding begun goes_on_in_brackets
joined_brackets begins.LetAlone zs = refl
joined_brackets begins.AsyncAlone zs = refl
joined_brackets b zs = refl

asked_brackets : (b : Beginning) → is_asked b ≡ true → is_asked (goes_on_in_brackets b) ≡ true
unfolding goes_on_in_brackets
asked_brackets begins.LetAlone h = refl
asked_brackets begins.AsyncAlone h = refl
asked_brackets b h = h

pub leads_brackets : (s : Settings) (p q : Phrase) (b : Beginning) → Leads s p b → First s q OpenBracket → Leads s (Then p q) (goes_on_in_brackets b)
unfolding Generates
leads_brackets s p q b leads first ts (us, vs, x, y, e) =
    let (t, ws, k, l) = first vs y in (
      ap beginning e ∙ more us vs b (leads us x) ∙ ap (λ xs. joined b (map sign xs)) k ∙ ap (λ w. joined b (w ∷ map sign ws)) l ∙ joined_brackets b (map sign ws),
      asked_brackets b (leads us x).1,
    )

-- behind [no LineTerminator here]
joined_line : (b : Beginning) (zs : List Sign) → joined b (NoLineEnd ∷ AnyToken ∷ zs) ≡ goes_on_in_line b
unfolding begun goes_on_in_line
joined_line begins.LetAlone zs = refl
joined_line begins.AsyncAlone zs = refl
joined_line b zs = refl

asked_line : (b : Beginning) → is_asked b ≡ true → is_asked (goes_on_in_line b) ≡ true
unfolding goes_on_in_line
asked_line begins.LetAlone h = refl
asked_line begins.AsyncAlone h = refl
asked_line b h = h

line_first : (s : Settings) (q : Phrase) (ts : List Token) → First s q AnyToken → Generates s (Then same_line q) ts → (us : List Token) × (map sign ts ≡ NoLineEnd ∷ AnyToken ∷ map sign us)
unfolding Generates sign sign_of tokens.same_line
line_first s q ts first (us, vs, x, y, e) =
    let (t, ws, k, l) = first vs y in
    (ws, ap (map sign) (e ∙ ap (λ xs. xs ++ vs) x ∙ ap (λ xs. tokens.same_line ∷ xs) k) ∙ ap (λ w. NoLineEnd ∷ w ∷ map sign ws) l)

pub list_in_line : (s : Settings) (q : Phrase) (b : Beginning) (us vs : List Token) → Begins b us → First s q AnyToken → Generates s (Then same_line q) vs → Begins (goes_on_in_line b) (us ++ vs)
list_in_line s q b us vs h first y =
    let (ws, k) = line_first s q vs first y in
    (more us vs b h ∙ ap (joined b) k ∙ joined_line b (map sign ws), asked_line b h.1)

pub leads_line : (s : Settings) (p q : Phrase) (b : Beginning) → Leads s p b → First s q AnyToken → Leads s (Then p (Then same_line q)) (goes_on_in_line b)
unfolding Generates
leads_line s p q b leads first ts (us, vs, x, y, e) =
    let (h, k) = list_in_line s q b us vs (leads us x) first y in
    (ap beginning e ∙ h, k)

-- behind nothing
pub leads_behind : (s : Settings) (q : Phrase) (b : Beginning) → Leads s q b → Leads s (Then Nothing q) b
unfolding Generates
leads_behind s q b leads ts (us, vs, x, y, e) =
    let k : ts ≡ vs = e ∙ ap (λ xs. xs ++ vs) x in
    (ap beginning k ∙ (leads vs y).0, (leads vs y).1)

-- a beginning that nothing behind it changes
abbrev pub Settled : Beginning → Type 0
Settled b = (ts : List Sign) → joined b ts ≡ b

pub leads_settled : (s : Settings) (p q : Phrase) (b : Beginning) → Settled b → Leads s p b → Leads s (Then p q) b
unfolding Generates
leads_settled s p q b settled leads ts (us, vs, x, y, e) = (ap beginning e ∙ more us vs b (leads us x) ∙ settled (map sign vs), (leads us x).1)

-- behind it nothing comes
abbrev pub Ends : Settings → Phrase → Type 0
Ends s p = (ts : List Token) → Generates s p ts → ts ≡ []

pub leads_alone : (s : Settings) (p q : Phrase) (b : Beginning) → Leads s p b → Ends s q → Leads s (Then p q) b
unfolding Generates
leads_alone s p q b leads ends ts (us, vs, x, y, e) =
    let k : ts ≡ us = e ∙ ap (λ xs. us ++ xs) (ends vs y) ∙ append-nil us in
    (ap beginning k ∙ (leads us x).0, (leads us x).1)

pub ends_nothing : (s : Settings) → Ends s Nothing
unfolding Generates
ends_nothing s ts h = h

pub leads_after : (s : Settings) (p q : Phrase) (b : Beginning) → Ends s p → Leads s q b → Leads s (Then p q) b
unfolding Generates
leads_after s p q b ends leads ts (us, vs, x, y, e) = subst (λ l. Begins b l) (sym (e ∙ ap (λ l. l ++ vs) (ends us x))) (leads vs y)

pub leads_never : (s : Settings) (b : Beginning) → Leads s Never b
unfolding Generates
leads_never s b ts h = absurd h
