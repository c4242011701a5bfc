use Rattle.std.proofs.Common.{◌≡◌, ◌≢◌, List, ℕ, [], ◌++◌, Option, None, Some, Result, Ok, Err, OnErr, IfSome, refl, subst, true, rules}
use Rattle.std.specs.Io.BufRead.{take_through, drop_through}
use Rattle.std.specs.Io.KnownBytes.{Appends}
use Rattle.std.proofs.KnownBytes.{Appends-nil, Appends-trans}
use Rattle.swc_ecma_codegen_requests.specs.Answers.{IsAnswer}
use Rattle.swc_ecma_codegen_requests.specs.Serves.{nothing, one_more, BeginsAnswer, Served, ServedInPart}
use Rattle.swc_ecma_codegen_requests.proofs.serve.Goals as goal

-- before the first line nothing was answered
served_nothing : (all told : Option (List ℕ)) → IfSome all (λ xs. Served xs all told told)
served_nothing None told = tt
served_nothing (Some xs) told = record { rest = xs; answers = []; is_left = refl; serves = nothing; sent = Appends-nil told }

-- the line that was answered is one more
served_more : (all left after old told new : Option (List ℕ)) → IfSome all (λ xs. Served xs left old told) → IfSome left (λ rest. (rest ≢ []) × (after ≡ Some (drop_through 10 rest)) × ((answer : List ℕ) × IsAnswer (take_through 10 rest) answer × Appends told new answer)) → IfSome all (λ xs. Served xs after old new)
served_more None left after old told new so_far one = tt
served_more (Some xs) left after old told new so_far one =
    let (some, dropped, (answer, is, sent)) = subst (λ l. IfSome l (λ rest. (rest ≢ []) × (after ≡ Some (drop_through 10 rest)) × ((answer : List ℕ) × IsAnswer (take_through 10 rest) answer × Appends told new answer))) so_far.is_left one in
    record { rest = drop_through 10 so_far.rest; answers = so_far.answers ++ answer; is_left = dropped; serves = one_more so_far.serves some is; sent = Appends-trans _ _ _ _ _ so_far.sent sent }

-- what holds anyway holds after a fault
anyway : {X E P : Type 0} (r : Result X E) → P → OnErr r P
anyway (Ok x) p = tt
anyway (Err e) p = p

pub loop-init : goal.loop-init
loop-init g c = served_nothing _ _

pub loop-preserved : goal.loop-preserved
loop-preserved g c =
    let is_one : c.in_ok-serve_one.field-0 ≡ true = search rules in
    served_more _ _ _ _ _ _ c.loop.invariant (c.in_ok-serve_one.ensures.one is_one)

-- the lines before were answered, and nothing or a beginning of the next answer is out
served_in_part : (all left old told new : Option (List ℕ)) → IfSome all (λ xs. Served xs left old told) → IfSome left (λ rest. BeginsAnswer (take_through 10 rest) told new) → IfSome all (λ xs. ServedInPart xs old new)
served_in_part None left old told new so_far begun = tt
served_in_part (Some xs) left old told new so_far begun =
    record { rest = so_far.rest; answers = so_far.answers; between = told; serves = so_far.serves; sent = so_far.sent; begun = subst (λ l. IfSome l (λ rest. BeginsAnswer (take_through 10 rest) told new)) so_far.is_left begun }

pub returns-in_err-serve_one-clause-in_part : goal.returns-in_err-serve_one-clause-in_part
returns-in_err-serve_one-clause-in_part g c = anyway _ (served_in_part _ _ _ _ _ c.loop.invariant c.in_err-serve_one.ensures.begun)
