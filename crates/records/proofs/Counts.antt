-- A phase of the plan that goes on, counted in its words: they become the words of the record with the next phase.
-- Assumes nothing.
use mathlib.Core.Path.{◌≡◌, refl, sym, ap, ◌∙◌}
use mathlib.Core.Bool.{true}
use mathlib.Core.List.{List}
use Prim.Native.Nat.{ℕ, ◌<◌}
use borrow.Author.Tests.{lt-ltb}
use Rattle.protocol.specs.Plan.{done_of, next_of}
use Rattle.protocol.specs.declared.Work.{Work}
use Rattle.protocol.specs.declared.Phase.{Phase}
use Rattle.protocol.specs.declared.Phase.TheVariants.{Walk, OnRouting, New, Two, One, Leaf, UnderData, UnderRouting}
use Rattle.protocol.specs.declared.Worker.{Worker}
use Rattle.records.specs.Records.{flat_of, words_of, worker_of, is_record, count_on}
use Rattle.records.proofs.Canonical.{record_words}

-- a worker with the next phase
abbrev pub next : Worker → Worker
next w = record { work = w.work; key = w.key; phase = next_of w.phase }

by_phase : (work : Work) (key : ℕ) (p : Phase) → done_of p < 9
    → count_on (words_of (record { work = work; key = key; phase = p })) ≡ words_of (record { work = work; key = key; phase = next_of p })
unfolding count_on words_of flat_of
by_phase work key (Walk at prev before side up) h = refl
by_phase work key (OnRouting this done) h = rw (lt-ltb done 9 h)
by_phase work key (New prev side done) h = rw (lt-ltb done 9 h)
by_phase work key (Two this done) h = rw (lt-ltb done 9 h)
by_phase work key (One this prev side child toward done) h = rw (lt-ltb done 9 h)
by_phase work key (Leaf this prev side before up) h = refl
by_phase work key (UnderData this prev side done) h = rw (lt-ltb done 9 h)
by_phase work key (UnderRouting this prev side before up other done) h = rw (lt-ltb done 9 h)

pub counts_on : (s : List ℕ) → is_record s ≡ true → done_of (worker_of s).phase < 9 → count_on s ≡ words_of (next (worker_of s))
counts_on s r h = let w = worker_of s in ap count_on (sym (record_words s r)) ∙ by_phase w.work w.key w.phase h
