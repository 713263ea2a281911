-- A start that is told at once: that is the start of the record that the words are.
-- Assumes nothing.
use mathlib.Core.Path.{◌≡◌, refl, sym, ap, ◌∙◌}
use mathlib.Core.Bool.{Bool, true, false, cond, not, ◌&&◌, and-eq-true_iff}
use mathlib.Core.List.{List}
use Prim.Native.Nat.{ℕ}
use lib.Dec.{leb}
use borrow.Author.Tests.{not-true}
use Rattle.refusal.specs.Said.{gives}
use Rattle.moment.specs.Key.{legal_of}
use Rattle.table.specs.Pair.{busy_of}
use Rattle.table.specs.Rules.{table_fine}
use Rattle.protocol.specs.Plan.{at_root}
use Rattle.protocol.specs.Step.{Call, refused, idle_worker}
use Rattle.protocol.specs.Calls.{judge_start, seated, start_of}
use Rattle.protocol.specs.declared.Kind.{Kind}
use Rattle.protocol.specs.declared.Work.TheVariants.{Busy}
use Rattle.protocol.specs.declared.Worker.{Worker}
use Rattle.records.specs.Records.{words_of, worker_of, put_record}
use Rattle.records.proofs.Canonical.{record_words, put_fits}
use Rattle.records.proofs.Idle.{idle_record}
use Rattle.calls.specs.Numbers.{number}
use Rattle.calls.specs.Workers.{Comes, OpensAtOnce}
use Rattle.calls.proofs.Calls.{read_call}

-- a work of this kind on the key, where it begins
abbrev started : Kind → ℕ → Worker
started kind key = record { work = Busy kind; key = key; phase = at_root }

-- what a start of an idle record comes to, by whether the key is legal
begins : (ws : List ℕ) (kind : Kind) (key : ℕ) (b : Bool) → (table_fine ws && not (leb 16 (busy_of ws))) ≡ true → legal_of key ≡ b
    → start_of ws idle_worker kind key
    ≡ cond b (record { says = gives tt; worker = started kind key; words = seated ws }) (refused 3 idle_worker ws)
unfolding start_of judge_start
begins ws kind key true o l =
    let t = (and-eq-true_iff (table_fine ws) (not (leb 16 (busy_of ws)))).0 o in
    rw (t.0, l, not-true (leb 16 (busy_of ws)) t.1)
begins ws kind key false o l = rw (((and-eq-true_iff (table_fine ws) (not (leb 16 (busy_of ws)))).0 o).0, l)

-- the start of the record that the words are
starts : (ws s : List ℕ) (kind : Kind) (key : ℕ) (b : Bool) → OpensAtOnce ws s → legal_of key ≡ b
    → start_of ws (worker_of s) kind key
    ≡ cond b (record { says = gives tt; worker = started kind key; words = seated ws }) (refused 3 idle_worker ws)
starts ws s kind key b a l =
    ap (λ (w : Worker). start_of ws w kind key) (idle_record s a.0).1 ∙ begins ws kind key b a.1 l

-- A LEGAL KEY: the work begins
pub start_call : (ws s : List ℕ) (kind : Kind) (key : ℕ) {s' ws' : List ℕ} → OpensAtOnce ws s → legal_of key ≡ true
    → s' ≡ put_record s (started kind key) → ws' ≡ seated ws
    → Comes number ws s (start_of ws (worker_of s) kind key) 0 s' ws'
start_call ws s kind key a l p q =
    let c = sym (starts ws s kind key true a l) in
    read_call number ws s _ (idle_record s a.0).0 refl (ap (λ (x : Call (Unit {0})). x.says) c) (ap (λ (x : Call (Unit {0})). x.worker) c) p
    (q ∙ ap (λ (x : Call (Unit {0})). x.words) c)

-- any other: 3, and nothing changes
pub start_wrong : (ws s : List ℕ) (kind : Kind) (key : ℕ) → OpensAtOnce ws s → legal_of key ≡ false
    → Comes number ws s (start_of ws (worker_of s) kind key) 3 s ws
start_wrong ws s kind key a l =
    let i = idle_record s a.0 in
    let c = sym (starts ws s kind key false a l) in
    read_call number ws s _ i.0 refl (ap (λ (x : Call (Unit {0})). x.says) c) (ap (λ (x : Call (Unit {0})). x.worker) c)
    (sym (put_fits s idle_worker i.0 ∙ ap words_of (sym i.1) ∙ record_words s i.0))
    (ap (λ (x : Call (Unit {0})). x.words) c)
