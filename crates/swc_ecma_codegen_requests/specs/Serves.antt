-- What comes out for lines that come in.
use Rattle.std.specs.Prelude.{◌≡◌, ◌≢◌, ◌⊎◌, ℕ, List, [], ◌++◌, Option, Some}
use Rattle.std.specs.Io.BufRead.{take_through, drop_through}
use Rattle.std.specs.Io.KnownBytes.{Appends}
use Rattle.swc_ecma_codegen_requests.specs.Answers.{IsAnswer}
use Rattle.swc_ecma_codegen_requests.specs.Streams.{AddsFront}

-- All these bytes came in, and the lines before the rest were answered: each in order, by one answer of its own. A line goes to the first
-- LF (10), and with it, or to the end.
pub data Serves (all : List ℕ) : List ℕ → List ℕ → Type 0 where
  nothing : Serves all all []
  one_more : {rest answers answer : List ℕ} → Serves all rest answers → rest ≢ [] → IsAnswer (take_through 10 rest) answer → Serves all (drop_through 10 rest) (answers ++ answer)

-- Of all these bytes that came in a rest is left; the lines before it were answered, and a writer tells the answers besides what it told before.
pub record Served (all : List ℕ) (left old new : Option (List ℕ)) : Type 0 where
  pub rest : List ℕ
  pub answers : List ℕ
  pub is_left : left ≡ Some rest
  pub serves : Serves all rest answers
  pub sent : Appends old new answers

-- nothing, or a beginning of an answer to this line
abbrev pub BeginsAnswer : List ℕ → Option (List ℕ) → Option (List ℕ) → Type 0
BeginsAnswer line old new = Appends old new [] ⊎ (answer : List ℕ) × IsAnswer line answer × AddsFront answer old new

-- The lines before a rest were answered, and nothing of the next one's answer is out, or a beginning of it.
pub record ServedInPart (all : List ℕ) (old new : Option (List ℕ)) : Type 0 where
  pub rest : List ℕ
  pub answers : List ℕ
  pub between : Option (List ℕ)
  pub serves : Serves all rest answers
  pub sent : Appends old between answers
  pub begun : BeginsAnswer (take_through 10 rest) between new
