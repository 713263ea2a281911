-- Start and withdraw: done, or refused by a number, and then nothing changes.
-- Assumes nothing.
use mathlib.Core.Path.{◌≡◌, refl, ap}
use mathlib.Core.Bool.{true, false, cond, false≢true}
use mathlib.Core.List.{List}
use Prim.Native.Nat.{ℕ, ◌≤◌, ◌<◌}
use lib.Dec.{leb, eqb}
use borrow.Author.Tests.{leb-true, leb-false}
use Rattle.refusal.specs.Said.{Said, gives, refuses}
use Rattle.moment.specs.Key.{legal_of}
use Rattle.moment.proofs.Tests.{by_cases}
use Rattle.table.specs.Pair.{busy_of}
use Rattle.table.specs.Rules.{table_fine}
use Rattle.protocol.specs.Plan.{done_of, at_root}
use Rattle.protocol.specs.Record.{record_fine}
use Rattle.protocol.specs.Locks.{all_held, released}
use Rattle.protocol.specs.Step.{Call, refused, idle_worker, leave}
use Rattle.protocol.specs.Calls.{idle, judge_start, seated, start_of, stored, judge_busy, judge_withdraw, withdraw_of}
use Rattle.protocol.specs.declared.Kind.{Kind}
use Rattle.protocol.specs.declared.Work.{Work}
use Rattle.protocol.specs.declared.Work.TheVariants.{Idle, Busy}
use Rattle.protocol.specs.declared.Phase.{Phase}
use Rattle.protocol.specs.declared.Worker.{Worker}
use Rattle.protocol.proofs.AnswerLaws.{gave, refusal_of}

pub idle_is : (work : Work) → idle work ≡ true → work ≡ Idle
idle_is Idle e = refl
idle_is (Busy kind) e = absurd (false≢true e)

-- Start

-- what an accepted start gives
abbrev pub started : List ℕ → Kind → ℕ → Call (Unit {0})
started ws kind key = record { says = gives tt; worker = record { work = Busy kind; key = key; phase = at_root }; words = seated ws }

pub start_ends : (P : Call (Unit {0}) → Type 0) (ws : List ℕ) (w : Worker) (kind : Kind) (key : ℕ)
    → (table_fine ws ≡ false → P (refused 1 w ws))
    → (table_fine ws ≡ true → idle w.work ≡ false → P (refused 2 w ws))
    → (table_fine ws ≡ true → w.work ≡ Idle → legal_of key ≡ false → P (refused 3 w ws))
    → (table_fine ws ≡ true → w.work ≡ Idle → legal_of key ≡ true → 16 ≤ busy_of ws → P (refused 4 w ws))
    → (table_fine ws ≡ true → w.work ≡ Idle → legal_of key ≡ true → busy_of ws < 16 → P (started ws kind key))
    → P (start_of ws w kind key)
unfolding start_of judge_start
start_ends P ws w kind key one two three four done =
    by_cases Q (table_fine ws)
    (λ t. by_cases Q (idle w.work)
    (λ i. by_cases Q (legal_of key)
    (λ l. by_cases Q (leb 16 (busy_of ws)) (λ b. four t (idle_is _ i) l (leb-true _ _ b)) (λ b. done t (idle_is _ i) l (leb-false _ _ b)))
    (λ l. three t (idle_is _ i) l))
    (λ i. two t i))
    one
  where
    Q : ℕ → Type 0
    Q j = P (cond (eqb j 0) (started ws kind key) (refused j w ws))

pub start_refused : (ws : List ℕ) (w : Worker) (kind : Kind) (key n : ℕ) → (start_of ws w kind key).says ≡ refuses n
    → start_of ws w kind key ≡ refused n w ws
start_refused ws w kind key n =
    start_ends (λ c. c.says ≡ refuses n → c ≡ refused n w ws) ws w kind key
    (λ t e. again 1 e) (λ t i e. again 2 e) (λ t i l e. again 3 e) (λ t i l b e. again 4 e) (λ t i l b e. absurd (gave e))
  where
    again : (m : ℕ) → ◌≡◌ {A = Said (Unit {0})} (refuses m) (refuses n) → ◌≡◌ {A = Call (Unit {0})} (refused m w ws) (refused n w ws)
    again m e = ap (λ (k : ℕ). refused {A = Unit {0}} k w ws) (ap refusal_of e)

-- Withdraw

-- what an accepted withdraw gives
abbrev pub withdrawn : List ℕ → Phase → Call (Unit {0})
withdrawn ws p = record { says = gives tt; worker = idle_worker; words = leave (released ws p (done_of p)) }

pub withdraw_ends : (P : Call (Unit {0}) → Type 0) (ws : List ℕ) (w : Worker)
    → (table_fine ws ≡ false → P (refused 1 w ws))
    → (table_fine ws ≡ true → w.work ≡ Idle → P (refused 2 w ws))
    → ((kind : Kind) → table_fine ws ≡ true → w.work ≡ Busy kind → record_fine ws kind w.key w.phase ≡ false → P (refused 6 w ws))
    → ((kind : Kind) → table_fine ws ≡ true → w.work ≡ Busy kind → record_fine ws kind w.key w.phase ≡ true
    → all_held ws w.phase (done_of w.phase) ≡ false → P (refused 6 w ws))
    → ((kind : Kind) → table_fine ws ≡ true → w.work ≡ Busy kind → record_fine ws kind w.key w.phase ≡ true
    → all_held ws w.phase (done_of w.phase) ≡ true → stored w.phase (done_of w.phase) ≡ true → P (refused 7 w ws))
    → ((kind : Kind) → table_fine ws ≡ true → w.work ≡ Busy kind → record_fine ws kind w.key w.phase ≡ true
    → all_held ws w.phase (done_of w.phase) ≡ true → stored w.phase (done_of w.phase) ≡ false → P (withdrawn ws w.phase))
    → P (withdraw_of ws w)
unfolding withdraw_of judge_withdraw judge_busy
withdraw_ends P ws w one two six bad seven done =
    by_cases Q (table_fine ws) (λ t. go t w.work refl) one
  where
    Q : ℕ → Type 0
    Q j = P (cond (eqb j 0) (withdrawn ws w.phase) (refused j w ws))

    go : table_fine ws ≡ true → (k : Work) → w.work ≡ k → Q (judge_busy ws k w.key w.phase)
    go t Idle e = two t e
    go t (Busy kind) e =
        by_cases Q (record_fine ws kind w.key w.phase)
        (λ f. by_cases Q (all_held ws w.phase (done_of w.phase))
        (λ h. by_cases Q (stored w.phase (done_of w.phase)) (seven kind t e f h) (done kind t e f h))
        (bad kind t e f))
        (six kind t e)

pub withdraw_refused : (ws : List ℕ) (w : Worker) (n : ℕ) → (withdraw_of ws w).says ≡ refuses n → withdraw_of ws w ≡ refused n w ws
withdraw_refused ws w n =
    withdraw_ends (λ c. c.says ≡ refuses n → c ≡ refused n w ws) ws w
    (λ t e. again 1 e) (λ t i e. again 2 e) (λ kind t i f e. again 6 e) (λ kind t i f h e. again 6 e) (λ kind t i f h s e. again 7 e)
    (λ kind t i f h s e. absurd (gave e))
  where
    again : (m : ℕ) → ◌≡◌ {A = Said (Unit {0})} (refuses m) (refuses n) → ◌≡◌ {A = Call (Unit {0})} (refused m w ws) (refused n w ws)
    again m e = ap (λ (k : ℕ). refused {A = Unit {0}} k w ws) (ap refusal_of e)
