-- Literals, by a text that is made anew where that is due.
use Rattle.std.proofs.Common.{◌≡◌, true, false, List, ℕ, Bool, Result, Ok, Err, ap, subst}
use Rattle.swc_ecma_codegen_common.specs.declared.errors.Refusal.{Refusal}
use Rattle.swc_ecma_codegen_common.specs.declared.errors.Refusal.TheVariants.{OutOfMemory}
use Rattle.swc_ecma_codegen_grammar.specs.SourceLines.{Lines}
use Rattle.swc_ecma_codegen_grammar.specs.CommentMaps.{Maps}
use Rattle.swc_ecma_codegen_tokens.specs.Run.{Plan, Part, State, Remake, Emits, Does, DoesTaking, with_source, put, IsRefused, step}
use Rattle.swc_ecma_codegen_tokens.proofs.Emission.Emitting.{emits_refused, does_by, follows_step, follows_same}
use Rattle.swc_ecma_codegen_tokens.proofs.NameTokens.Spelled.{marked_with}

-- what a part emits depends only on its steps
pub emits_same : (p q : Part) (a b : State) (r : Result (Unit {0}) Refusal) → ((rest : Plan) → p rest a.env ≡ q rest a.env) → Emits q a b r → Emits p a b r
emits_same p q a b (Ok u) h k = λ rest c r f. follows_same (p rest) (q rest) a c r (h rest) (k rest c r f)
emits_same p q a b (Err e) h k = λ rest. follows_same (p rest) (q rest) a b (Err e) (h rest) (k rest)

pub anew : (due : Bool) (part : Part) (a b : State) (r : Result (Unit {0}) Refusal) → a.failed ≡ false → Emits part a b r → Emits (λ rest. step (Remake due) (part rest)) a b r
unfolding put
anew due part a b (Ok u) fresh h = λ rest c r f. follows_step (Remake due) (part rest) a c r fresh (h rest c r f)
anew due part a b (Err e) fresh h = λ rest. follows_step (Remake due) (part rest) a b (Err e) fresh (h rest)

-- the text is there
spelled_here : (word : Part) (due : Bool) (by : List ℕ → Part) (t u : List ℕ) (a b : State) (r : Result (Unit {0}) Refusal) → a.failed ≡ false → ((rest : Plan) → word rest a.env ≡ step (Remake due) (by u rest) a.env) → t ≡ u → Emits (by t) a b r → Emits word a b r
spelled_here word due by t u a b r fresh same eq h =
    emits_same word (λ rest. step (Remake due) (by u rest)) a b r same (anew due (by u) a b r fresh (let P : List ℕ → Type 0 = λ v. Emits (by v) a b r in subst P eq h))

-- memory for it is refused
pub not_here : (word : Part) (due : Bool) (part : Part) (e : Refusal) (a b : State) → a.failed ≡ false → ((rest : Plan) → word rest a.env ≡ step (Remake due) (part rest) a.env) → e ≡ OutOfMemory → due ≡ true → b ≡ record a { failed = true } → Emits word a b (Err e)
unfolding IsRefused
not_here word due part e a b fresh same eq h marked =
    emits_same word (λ rest. step (Remake due) (part rest)) a b (Err e) same (λ rest. emits_refused (Remake due) e a b fresh (marked_with a b marked) (eq, h, ap (λ (s : State). s.sheet) marked) (part rest))

-- the same, wherever lines end: for words that don't depend on that
pub spelled_anew : (word : Part) (due : Bool) (by : List ℕ → Part) (t u : List ℕ) (a b : State) (r : Result (Unit {0}) Refusal) → a.failed ≡ false → ((lines : Lines) (maps : Maps) (rest : Plan) → word rest (record a.env { lines = lines; maps = maps }) ≡ step (Remake due) (by u rest) (record a.env { lines = lines; maps = maps })) → t ≡ u → Does (by t) a b r → Does word a b r
unfolding with_source
spelled_anew word due by t u a b r fresh same eq h = does_by (by t) word a b r (λ lines maps s k. spelled_here word due by t u (with_source lines maps a) (with_source lines maps b) s fresh (same lines maps) eq k) h

pub not_anew : (word : Part) (due : Bool) (part : Part) (e : Refusal) (a b : State) → a.failed ≡ false → ((lines : Lines) (maps : Maps) (rest : Plan) → word rest (record a.env { lines = lines; maps = maps }) ≡ step (Remake due) (part rest) (record a.env { lines = lines; maps = maps })) → e ≡ OutOfMemory → due ≡ true → b ≡ record a { failed = true } → Does word a b (Err e)
unfolding with_source
not_anew word due part e a b fresh same eq h marked = λ lines maps. not_here word due part e (with_source lines maps a) (with_source lines maps b) fresh (same lines maps) eq h (ap (with_source lines maps) marked)

-- what a part does depends only on its steps
pub does_same : (p q : Part) (a b : State) (r : Result (Unit {0}) Refusal) → ((lines : Lines) (maps : Maps) (rest : Plan) → p rest (record a.env { lines = lines; maps = maps }) ≡ q rest (record a.env { lines = lines; maps = maps })) → Does q a b r → Does p a b r
unfolding with_source
does_same p q a b r h k = does_by q p a b r (λ lines maps s f. emits_same p q (with_source lines maps a) (with_source lines maps b) s (h lines maps) f) k

-- ---- the same of what takes comments

-- what takes none leaves all
pub does_takes : (p : Part) (maps : Maps) (a b : State) (r : Result (Unit {0}) Refusal) → Does p a b r → DoesTaking p maps maps a b r
does_takes p maps a b (Ok u) h = λ lines. h lines maps
does_takes p maps a b (Err e) h = λ lines. h lines maps

takes_by : (p q : Part) (before left : Maps) (a b : State) (r : Result (Unit {0}) Refusal) → ((lines : Lines) (s : Result (Unit {0}) Refusal) → Emits p (with_source lines before a) (with_source lines left b) s → Emits q (with_source lines before a) (with_source lines left b) s) → DoesTaking p before left a b r → DoesTaking q before left a b r
takes_by p q before left a b (Ok u) f h = λ lines. f lines (Ok u) (h lines)
takes_by p q before left a b (Err e) f h = λ lines. f lines (Err e) (h lines)

pub taking_anew : (word : Part) (due : Bool) (by : List ℕ → Part) (t u : List ℕ) (before left : Maps) (a b : State) (r : Result (Unit {0}) Refusal) → a.failed ≡ false → ((lines : Lines) (maps : Maps) (rest : Plan) → word rest (record a.env { lines = lines; maps = maps }) ≡ step (Remake due) (by u rest) (record a.env { lines = lines; maps = maps })) → t ≡ u → DoesTaking (by t) before left a b r → DoesTaking word before left a b r
unfolding with_source
taking_anew word due by t u before left a b r fresh same eq h = takes_by (by t) word before left a b r (λ lines s k. spelled_here word due by t u (with_source lines before a) (with_source lines left b) s fresh (same lines before) eq k) h

pub taking_same : (p q : Part) (before left : Maps) (a b : State) (r : Result (Unit {0}) Refusal) → ((lines : Lines) (maps : Maps) (rest : Plan) → p rest (record a.env { lines = lines; maps = maps }) ≡ q rest (record a.env { lines = lines; maps = maps })) → DoesTaking q before left a b r → DoesTaking p before left a b r
unfolding with_source
taking_same p q before left a b r h k = takes_by q p before left a b r (λ lines s f. emits_same p q (with_source lines before a) (with_source lines left b) s (h lines before) f) k

pub taking_not_anew : (word : Part) (due : Bool) (part : Part) (e : Refusal) (maps : Maps) (a b : State) → a.failed ≡ false → ((lines : Lines) (maps : Maps) (rest : Plan) → word rest (record a.env { lines = lines; maps = maps }) ≡ step (Remake due) (part rest) (record a.env { lines = lines; maps = maps })) → e ≡ OutOfMemory → due ≡ true → b ≡ record a { failed = true } → DoesTaking word maps maps a b (Err e)
taking_not_anew word due part e maps a b fresh same eq h marked = does_takes word maps a b (Err e) (not_anew word due part e a b fresh same eq h marked)
