-- Calls on lent words: what their parts come to, and that a refused call leaves table and record as they were.
-- Assumes nothing.
use mathlib.Core.Path.{◌≡◌, refl, ap, ◌∙◌}
use mathlib.Core.Bool.{Bool, true, false}
use mathlib.Core.List.{List}
use Prim.Native.Nat.{ℕ}
use Rattle.refusal.specs.Said.{Said, refuses}
use Rattle.protocol.specs.Step.{Call, refused, step_of}
use Rattle.protocol.specs.Calls.{start_of, withdraw_of}
use Rattle.protocol.specs.declared.Kind.{Kind}
use Rattle.protocol.specs.declared.Worker.{Worker}
use Rattle.protocol.proofs.StepLaws.{step_refused}
use Rattle.protocol.proofs.CallLaws.{start_refused, withdraw_refused}
use Rattle.records.specs.Records.{words_of, worker_of, is_record, put_record}
use Rattle.calls.specs.Workers.{unread_number, call_number, call_record, call_words}
use Rattle.records.proofs.Canonical.{put_fits, record_words}

-- the words are no record
pub unread_call : {A : Type 0} (f : Said A → ℕ) (ws s : List ℕ) (c : Call A) {n : ℕ} → is_record s ≡ false → n ≡ unread_number ws
    → (n ≡ call_number f ws s c) × (s ≡ call_record s c) × (ws ≡ call_words ws s c)
unfolding call_number call_record call_words
unread_call f ws s c r n = (rw r n, rw r, rw r)

-- the words are a record: the call on it, its answer, and the record put back
pub read_call : {A : Type 0} (f : Said A → ℕ) (ws s : List ℕ) (c : Call A) {n : ℕ} {a : Said A} {w : Worker} {s' ws' : List ℕ}
    → is_record s ≡ true → n ≡ f a → a ≡ c.says → w ≡ c.worker → s' ≡ put_record s w → ws' ≡ c.words
    → (n ≡ call_number f ws s c) × (s' ≡ call_record s c) × (ws' ≡ call_words ws s c)
unfolding call_number call_record call_words
read_call f ws s c r n a w p q =
    (rw r (n ∙ ap f a), rw r (p ∙ put_fits s _ r ∙ ap words_of w), rw r q)

-- A refusal leaves both as they were

kept : {A : Type 0} (ws s : List ℕ) (c : Call A) (n : ℕ) → c ≡ refused n (worker_of s) ws → (b : Bool) → is_record s ≡ b
    → (call_record s c ≡ s) × (call_words ws s c ≡ ws)
unfolding call_record call_words
kept ws s c n e true r = (rw (r, e) (record_words s r), rw (r, e))
kept ws s c n e false r = (rw r, rw r)

pub step_stays : (ws s : List ℕ) (n : ℕ) → (step_of ws (worker_of s)).says ≡ refuses n
    → (call_record s (step_of ws (worker_of s)) ≡ s) × (call_words ws s (step_of ws (worker_of s)) ≡ ws)
step_stays ws s n e = kept ws s _ n (step_refused ws (worker_of s) n e) (is_record s) refl

pub start_stays : (ws s : List ℕ) (kind : Kind) (key n : ℕ) → (start_of ws (worker_of s) kind key).says ≡ refuses n
    → (call_record s (start_of ws (worker_of s) kind key) ≡ s) × (call_words ws s (start_of ws (worker_of s) kind key) ≡ ws)
start_stays ws s kind key n e = kept ws s _ n (start_refused ws (worker_of s) kind key n e) (is_record s) refl

pub withdraw_stays : (ws s : List ℕ) (n : ℕ) → (withdraw_of ws (worker_of s)).says ≡ refuses n
    → (call_record s (withdraw_of ws (worker_of s)) ≡ s) × (call_words ws s (withdraw_of ws (worker_of s)) ≡ ws)
withdraw_stays ws s n e = kept ws s _ n (withdraw_refused ws (worker_of s) n e) (is_record s) refl

-- and so does a call on words that are no record
pub unread_stays : {A : Type 0} (ws s : List ℕ) (c : Call A) → is_record s ≡ false → (call_record s c ≡ s) × (call_words ws s c ≡ ws)
unfolding call_record call_words
unread_stays ws s c r = (rw r, rw r)
