-- A lone worker, whole: its start, its walk, its plan and its end, for every kind of work.
-- Assumes nothing.
use mathlib.Core.Path.{◌≡◌, refl, sym, ap, subst}
use mathlib.Core.Bool.{true}
use mathlib.Core.List.{List}
use Prim.Native.Nat.{ℕ, ◌+◌}
use native.Mathlib.Omega.{arith}
use Rattle.moment.specs.Key.{legal_of}
use Rattle.table.specs.Pair.{slots_of}
use Rattle.tree.specs.Walk.{here}
use Rattle.protocol.specs.Plan.{at_root}
use Rattle.protocol.specs.Step.{Call, idle_worker}
use Rattle.protocol.specs.Calls.{seated}
use Rattle.protocol.specs.Alone.{Calm, Runs, Finishes}
use Rattle.protocol.specs.declared.Kind.{Kind}
use Rattle.protocol.specs.declared.Work.TheVariants.{Idle}
use Rattle.protocol.specs.declared.Worker.{Worker}
use Rattle.protocol.proofs.Alone.Steps.{busy, Comes}
use Rattle.protocol.proofs.Alone.Walking.{at_root_lem, walk_on_lem}
use Rattle.protocol.proofs.Alone.Beginning.{starts, ready, begun_end, begun_short}
use Rattle.protocol.proofs.Alone.Finishing.{Fate}
use Rattle.protocol.proofs.Alone.Ending.{work_ends}

-- the run from the start on
runs : {ws : List ℕ} (c : Calm ws) (kind : Kind) (k : ℕ) → legal_of k ≡ true → Comes (Fate ws kind k) (seated ws) (busy kind k at_root) (slots_of ws + 10)
runs {ws} c kind k l =
    let (y, w, t) = begun_end c k l in
    walk_on_lem (ready c) kind k l 11 w 0 0 true true here (at_root_lem refl refl refl)
    (λ p q d u v came. work_ends c k l y v p q d u came kind t) (slots_of ws + 10) (omega (arith, begun_short c k y w))

pub finishes : (ws : List ℕ) (w : Worker) (kind : Kind) (k : ℕ) → Calm ws → w.work ≡ Idle → legal_of k ≡ true → Finishes ws w kind k
finishes ws w kind k c i l =
    let e = starts ws w kind k c i l in
    let r = runs c kind k l in
    record {
      started = ap (λ (x : Call (Unit {0})). x.says) e;
      steps = r.steps;
      within = r.within;
      answer = r.answer;
      after = r.after;
      run = subst (λ (x : Call (Unit {0})). Runs r.answer r.after idle_worker x.words x.worker r.steps) (sym e) r.run;
      answers = r.told.0;
      calm = r.told.1;
    }
