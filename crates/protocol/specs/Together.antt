-- WORKERS TOGETHER: what a run is. A table that was made by fresh and a list of idle records; then any calls, in any order, with
-- any arguments. What happens is what the definitions of the calls say, and nothing else is believed here.
-- Assumes nothing.
use Rattle.std.specs.Prelude.{Bool, false, cond, not, ◌&&◌, List, ℕ, zero, suc, ltb, eqb, length, get_or, set}
use Rattle.refusal.specs.Said.{Said}
use Rattle.table.specs.Rules.{fresh_words}
use Rattle.tree.specs.Answers.{sweep_words}
use Rattle.protocol.specs.Says.{Verdict}
use Rattle.protocol.specs.Step.{Call, idle_worker, step_of}
use Rattle.protocol.specs.Calls.{idle, start_of, withdraw_of}
use Rattle.protocol.specs.declared.Kind.{Kind}
use Rattle.protocol.specs.declared.Worker.{Worker}

-- one call with its arguments; a record is named by its place in the list
pub data Asked : Type 0 where
  start : (a : ℕ) (kind : Kind) (key : ℕ) → Asked
  step : (a : ℕ) → Asked
  withdraw : (a : ℕ) → Asked
  sweep : Asked
  list : (low high : ℕ) (out : List ℕ) → Asked
  first : (from : ℕ) → Asked
  check : Asked

-- the words of the table, and the records
pub record System : Type 0 where
  pub words : List ℕ
  pub workers : List Worker

-- a table made by fresh, whatever it held, and records
abbrev pub begin : List ℕ → List Worker → System
begin old workers = record { words = fresh_words old; workers = workers }

abbrev pub record_at : System → ℕ → Worker
record_at s a = get_or s.workers a idle_worker

abbrev pub idle_at : System → ℕ → Bool
idle_at s a = idle (record_at s a).work

-- what a call on record a leaves; for a record that is not in the list nothing happens
abbrev pub placed : {A : Type 0} → System → ℕ → Call A → System
placed s a c = record { words = c.words; workers = set s.workers a c.worker }

abbrev pub on : {A : Type 0} → System → ℕ → Call A → System
on s a c = cond (ltb a (length s.workers)) (placed s a c) s

-- what each call leaves; list, first frame and check write neither words nor records
abbrev pub after : System → Asked → System
after s (start a kind key) = on s a (start_of s.words (record_at s a) kind key)
after s (step a) = on s a (step_of s.words (record_at s a))
after s (withdraw a) = on s a (withdraw_of s.words (record_at s a))
after s sweep = record { words = sweep_words s.words; workers = s.workers }
after s (list low high out) = s
after s (first from) = s
after s check = s

-- is it a step of record a?
abbrev pub is_step : Asked → ℕ → Bool
is_step (start b kind key) a = false
is_step (step b) a = eqb a b
is_step (withdraw b) a = false
is_step sweep a = false
is_step (list low high out) a = false
is_step (first from) a = false
is_step check a = false

-- A RUN: moment 0 is the beginning, moment i + 1 comes after call i
module _ (asked : ℕ → Asked) (s : System) where
  abbrev pub moment : ℕ → System
  moment zero = s
  moment (suc i) = after (moment i) (asked i)

  abbrev pub words_at : ℕ → List ℕ
  words_at i = (moment i).words

  abbrev pub worker_at : ℕ → ℕ → Worker
  worker_at i a = record_at (moment i) a

  -- what a step of record a says at moment i
  abbrev pub said_at : ℕ → ℕ → Said Verdict
  said_at i a = (step_of (words_at i) (worker_at i a)).says

  -- the moment after the start of the work that record a has in hand: idle before, busy after
  abbrev pub born : ℕ → ℕ → ℕ
  born zero a = 0
  born (suc i) a = cond (idle_at (moment i) a && not (idle_at (moment (suc i)) a)) (suc i) (born i a)

  -- its own steps since then, counted in the calls
  abbrev pub steps : ℕ → ℕ → ℕ
  steps zero a = 0
  steps (suc i) a = cond (idle_at (moment i) a) 0 (cond (is_step (asked i) a) (suc (steps i a)) (steps i a))
