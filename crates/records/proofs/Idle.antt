-- Eleven zeros are the words of an idle record.
-- Assumes nothing.
use mathlib.Core.Path.{◌≡◌, sym, ap, ◌∙◌}
use mathlib.Core.Bool.{true}
use mathlib.Core.List.{List}
use Prim.Native.Nat.{ℕ}
use Rattle.moment.proofs.Tests.{tests}
use Rattle.protocol.specs.Step.{idle_worker}
use Rattle.records.specs.Records.{flat_at, flat_of, words_of, worker_of, is_record, is_idle}
use Rattle.records.proofs.Canonical.{eleven, words_read, words_record}

idle_words : (s : List ℕ) → is_idle s ≡ true → s ≡ words_of idle_worker
unfolding is_idle flat_at words_of flat_of
idle_words s e =
    let r = simp tests at e in
    let z = r.1 in
    sym (eleven s r.0) ∙ rw (z.0.0.0.0.0.0.0.0.0.0, z.0.0.0.0.0.0.0.0.0.1, z.0.0.0.0.0.0.0.0.1, z.0.0.0.0.0.0.0.1, z.0.0.0.0.0.0.1, z.0.0.0.0.0.1, z.0.0.0.0.1, z.0.0.0.1, z.0.0.1, z.0.1, z.1)

pub idle_record : (s : List ℕ) → is_idle s ≡ true → (is_record s ≡ true) × (worker_of s ≡ idle_worker)
idle_record s e =
    let w = idle_words s e in
    (ap is_record w ∙ words_record idle_worker, ap worker_of w ∙ words_read idle_worker)
