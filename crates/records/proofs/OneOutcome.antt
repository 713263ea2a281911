-- For every input each promise leaves one answer, or one content of the words: any two that it allows are equal.
-- Assumes nothing.
use mathlib.Core.Path.{◌≡◌, sym, ◌∙◌}
use mathlib.Core.Bool.{Bool}
use mathlib.Core.List.{List}
use Prim.Native.Nat.{ℕ}
use Rattle.std.specs.Prelude.{Option}
use Rattle.protocol.specs.Plan.{at_root}
use Rattle.protocol.specs.Step.{idle_worker}
use Rattle.protocol.specs.declared.Kind.{Kind}
use Rattle.protocol.specs.declared.Work.TheVariants.{Busy}
use Rattle.protocol.specs.declared.Phase.{Phase}
use Rattle.protocol.specs.declared.Worker.{Worker}
use Rattle.records.specs.Records.{parts_of, read_of, worker_at, put_record, is_idle, is_walk, walk_on, has_plan, count_on}
use Rattle.records.specs.declared.Flat.{Flat}

pub read_one : (s : List ℕ) (a b : Option Worker) → a ≡ read_of s → b ≡ read_of s → a ≡ b
read_one s a b p q = p ∙ sym q

pub put_one : (s : List ℕ) (w : Worker) (a b : List ℕ) → a ≡ put_record s w → b ≡ put_record s w → a ≡ b
put_one s w a b p q = p ∙ sym q

pub is_walk_one : (s : List ℕ) (a b : Bool) → a ≡ is_walk s → b ≡ is_walk s → a ≡ b
is_walk_one s a b p q = p ∙ sym q

pub walk_on_one : (s : List ℕ) (next : ℕ) (left : Bool) (a b : List ℕ) → a ≡ walk_on s next left → b ≡ walk_on s next left → a ≡ b
walk_on_one s next left a b p q = p ∙ sym q

pub count_on_one : (s : List ℕ) (a b : List ℕ) → a ≡ count_on s → b ≡ count_on s → a ≡ b
count_on_one s a b p q = p ∙ sym q

pub take_apart_one : (s : List ℕ) (a b : Option Flat) → a ≡ parts_of s → b ≡ parts_of s → a ≡ b
take_apart_one s a b p q = p ∙ sym q

pub phase_of_one : (f : Flat) (a b : Phase) → a ≡ (worker_at f).phase → b ≡ (worker_at f).phase → a ≡ b
phase_of_one f a b p q = p ∙ sym q

pub put_idle_one : (s a b : List ℕ) → a ≡ put_record s idle_worker → b ≡ put_record s idle_worker → a ≡ b
put_idle_one s a b p q = p ∙ sym q

pub put_started_one : (s : List ℕ) (kind : Kind) (key : ℕ) (a b : List ℕ)
    → let w : Worker = record { work = Busy kind; key = key; phase = at_root } in a ≡ put_record s w → b ≡ put_record s w → a ≡ b
put_started_one s kind key a b p q = p ∙ sym q

pub is_idle_one : (s : List ℕ) (a b : Bool) → a ≡ is_idle s → b ≡ is_idle s → a ≡ b
is_idle_one s a b p q = p ∙ sym q

pub has_plan_one : (s : List ℕ) (a b : Bool) → a ≡ has_plan s → b ≡ has_plan s → a ≡ b
has_plan_one s a b p q = p ∙ sym q
