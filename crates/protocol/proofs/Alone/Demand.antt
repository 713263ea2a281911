-- DEMAND 2, A WORKER ALONE. "On a sound table with no lock held and no deleted slot linked, a worker started and run while no other
-- is busy finishes within the number of slots plus 10 steps. It answers as the set of source document 000 does, or Full exactly
-- when an insert needs a free slot and there is none." The words of each statement stand in specs/Alone and specs/Sets.
-- Assumes nothing.
use mathlib.Core.Path.{◌≡◌, refl, sym, ap, ◌∙◌, subst}
use mathlib.Core.Bool.{true}
use mathlib.Core.List.{List}
use mathlib.Core.Logic.{◌↔◌, ◌≢◌}
use Prim.Native.Nat.{ℕ, suc, ◌+◌, ◌/◌, ◌≤◌, ◌<◌}
use lib.ListN.{length}
use Rattle.refusal.specs.Said.{gives}
use Rattle.moment.specs.Key.{legal_of}
use Rattle.table.specs.Pair.{free, deleted, state_f, slots_of, state_of}
use Rattle.table.specs.Rules.{size_fine, fresh_words}
use Rattle.tree.specs.Answers.{sweep_says, sweep_words}
use Rattle.tree.proofs.Sweeping.{sweep_done}
use Rattle.protocol.specs.Says.{Verdict, going, full}
use Rattle.protocol.specs.Step.{Call, idle_worker}
use Rattle.protocol.specs.Calls.{start_of}
use Rattle.protocol.specs.Alone.{Calm, Runs, last, more, Answers, Finishes}
use Rattle.protocol.specs.Sets.{no_values, Item, Proper, Served}
use Rattle.protocol.specs.declared.Kind.{Kind}
use Rattle.protocol.specs.declared.Kind.TheVariants.{Insert}
use Rattle.protocol.specs.declared.Work.TheVariants.{Idle}
use Rattle.protocol.specs.declared.Worker.{Worker}
use Rattle.protocol.proofs.AnswerLaws.{given_or}
use Rattle.protocol.proofs.Alone.Works.{finishes}
use Rattle.protocol.proofs.Alone.Sequence.{calm_exactly, served, fresh_calm, fresh_shows}

-- IT FINISHES AND ANSWERS: every kind of work, with every legal key, from every calm table and every idle record. `Finishes`: start
-- is done, the steps are at most the slots plus 10, the answer is exact, the table is calm again and the record idle
pub alone : (ws : List ℕ) (w : Worker) (kind : Kind) (k : ℕ) → Calm ws → w.work ≡ Idle → legal_of k ≡ true → Finishes ws w kind k
alone = finishes

-- A table is calm exactly if a sweep of it would be done: the premise can be asked of the table itself
pub calm_when : (ws : List ℕ) → Calm ws ↔ (sweep_says ws ≡ gives tt)
calm_when = calm_exactly

-- THERE IS NO OTHER RUN: the words and the record at its beginning decide a run
abbrev OneRun : Verdict → List ℕ → Worker → ℕ → Verdict → List ℕ → Worker → ℕ → Type 0
OneRun v vs u m v' vs' u' m' = (v ≡ v') × (vs ≡ vs') × (u ≡ u') × (m ≡ m')

-- a step that ends the work is none that goes on
ends_not : {v : Verdict} {vs us : List ℕ} {u x : Worker} → v ≢ going
    → ◌≡◌ {A = Call Verdict} (record { says = gives v; worker = u; words = vs }) (record { says = gives going; worker = x; words = us }) → ⊥
ends_not n e = n (ap (λ (c : Call Verdict). given_or going c.says) e)

pub one_run : {v v' : Verdict} {vs vs' : List ℕ} {u u' : Worker} {ws : List ℕ} {w : Worker} {m m' : ℕ} → Runs v vs u ws w m → Runs v' vs' u' ws w m'
    → OneRun v vs u m v' vs' u' m'
one_run (last n e) (last n' e') =
    let q = sym e ∙ e' in
    (ap (λ (c : Call Verdict). given_or going c.says) q, ap (λ (c : Call Verdict). c.words) q, ap (λ (c : Call Verdict). c.worker) q, refl)
one_run (last n e) (more e' r') = absurd (ends_not n (sym e ∙ e'))
one_run (more e r) (last n' e') = absurd (ends_not n' (sym e' ∙ e))
one_run {v' = v'} {vs' = vs'} {u' = u'} (more e r) (more {m = m'} e' r') =
    let i = one_run r (subst (λ (c : Call Verdict). Runs v' vs' u' c.words c.worker m') (sym e' ∙ e) r') in
    (i.0, i.1, i.2, ap suc i.3)

-- SO WHATEVER RUN IS MADE after the start, it is that one
pub every_run : (ws : List ℕ) (w : Worker) (kind : Kind) (k : ℕ) → Calm ws → w.work ≡ Idle → legal_of k ≡ true
    → {v : Verdict} {vs : List ℕ} {u : Worker} {m : ℕ} → Runs v vs u (start_of ws w kind k).words (start_of ws w kind k).worker m
    → (m ≤ slots_of ws + 10) × (u ≡ idle_worker) × Answers kind ws k v vs × Calm vs
every_run ws w kind k c i l {v} {vs} {u} {m} r =
    let f = alone ws w kind k c i l in
    let q = one_run f.run r in (
      subst (λ (n : ℕ). n ≤ slots_of ws + 10) q.3 f.within,
      sym q.2,
      subst (λ (x : Verdict). Answers kind ws k x vs) q.0 (subst (λ (x : List ℕ). Answers kind ws k f.answer x) q.1 f.answers),
      subst Calm q.1 f.calm,
    )

-- FULL NEVER COMES WHILE A SLOT IS FREE
pub never_full : {ws : List ℕ} {w : Worker} {k : ℕ} (f : Finishes ws w Insert k) (i : ℕ) → i < slots_of ws → state_of ws i ≡ free → f.answer ≢ full
never_full f i l e a = (f.answers.full_exactly.0 a).1 i l e

-- AFTER A SWEEP THAT FREED A SLOT no insert is Full
pub never_full_swept : (ws : List ℕ) → sweep_says ws ≡ gives tt → (i : ℕ) → i < slots_of ws → state_of ws i ≡ deleted
    → {w : Worker} {k : ℕ} (f : Finishes (sweep_words ws) w Insert k) → f.answer ≢ full
never_full_swept ws e i l d f =
    let s = (sweep_done ws e).words in
    never_full f i (subst (λ (n : ℕ). i < n / 2) (sym s.size) l) (s.zero_field state_f i l d)

-- ONE WORK AFTER THE OTHER, sweeps anywhere between them, from a fresh table: the answers are those of the set type, or Full
pub in_sequence : (ws : List ℕ) → size_fine (length ws) ≡ true → (items : List Item) → Proper items → Served items (fresh_words ws) no_values
in_sequence ws e items p = served items p (fresh_words ws) no_values (fresh_calm ws e) (fresh_shows ws e)
