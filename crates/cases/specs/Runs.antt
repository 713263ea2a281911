-- The light table's runs: a table, workers on it, and what each step answers.
-- Assumes nothing.
use Rattle.std.specs.Prelude.{List, [], ◌∷◌, ◌++◌, ℕ, zero, suc, ◌+◌, replicate}
use Rattle.refusal.specs.Said.{Said, gives, refuses}
use Rattle.table.specs.Pair.{word_of}
use Rattle.table.specs.Rules.{fresh_words}
use Rattle.protocol.specs.Says.{Verdict, going, yes, no, full}
use Rattle.protocol.specs.Step.{idle_worker, step_of}
use Rattle.protocol.specs.Calls.{start_of}
use Rattle.protocol.specs.declared.Kind.{Kind}
use Rattle.protocol.specs.declared.Phase.{Phase}
use Rattle.protocol.specs.declared.Phase.TheVariants.{Walk, OnRouting, New, Two, One, Leaf, UnderData, UnderRouting}
use Rattle.protocol.specs.declared.Worker.{Worker}

-- a fresh table of n slots' words, whatever it held
abbrev pub fresh : ℕ → List ℕ
fresh words = fresh_words (replicate words 7)

-- an answer as a number: going 0, yes 1, no 2, Full its own 5, a refusal 100 and its number
abbrev pub told : Said Verdict → ℕ
told (gives going) = 0
told (gives yes) = 1
told (gives no) = 2
told (gives full) = 5
told (refuses n) = 100 + n

-- where the words and a worker stand after some steps of it, and what those steps answered
pub record Stand : Type 0 where
  pub answers : List ℕ
  pub worker : Worker
  pub words : List ℕ

-- n steps more
unfoldable pub steps : ℕ → List ℕ → List ℕ → Worker → Stand
steps zero so_far ws w = record { answers = so_far; worker = w; words = ws }
steps (suc n) so_far ws w = steps n (so_far ++ (told (step_of ws w).says ∷ [])) (step_of ws w).words (step_of ws w).worker

-- a work from its start on
unfoldable pub work : Kind → ℕ → ℕ → List ℕ → Stand
work kind key n ws = steps n [] (start_of ws idle_worker kind key).words (start_of ws idle_worker kind key).worker

-- 1 for a worker that walks and stands at the root, 0 for any other
abbrev pub at_root : Phase → ℕ
at_root (Walk zero prev before side up) = 1
at_root (Walk (suc at) prev before side up) = 0
at_root (OnRouting this done) = 0
at_root (New prev side done) = 0
at_root (Two this done) = 0
at_root (One this prev side child toward done) = 0
at_root (Leaf this prev side before up) = 0
at_root (UnderData this prev side done) = 0
at_root (UnderRouting this prev side before up other done) = 0

-- two workers on one table, and a step of the one or the other
pub record Workers : Type 0 where
  pub first : Worker
  pub second : Worker
  pub words : List ℕ

unfoldable pub both : Kind → ℕ → ℕ → List ℕ → Workers
both kind j k ws =
    record {
      first = (start_of ws idle_worker kind j).worker;
      second = (start_of (start_of ws idle_worker kind j).words idle_worker kind k).worker;
      words = (start_of (start_of ws idle_worker kind j).words idle_worker kind k).words;
    }

unfoldable pub first_steps : Workers → Workers
first_steps t = record { first = (step_of t.words t.first).worker; second = t.second; words = (step_of t.words t.first).words }

unfoldable pub second_steps : Workers → Workers
second_steps t = record { first = t.first; second = (step_of t.words t.second).worker; words = (step_of t.words t.second).words }

-- whether each is at the root, and the root's second word
unfoldable pub standing : Workers → List ℕ
standing t = at_root t.first.phase ∷ at_root t.second.phase ∷ word_of t.words 0 1 ∷ []
