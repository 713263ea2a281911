-- What a plan's stores come to, once all is given up: the table is calm again, and but for the key of the work the set is as it
-- was. Assumes nothing.
use mathlib.Core.Path.{◌≡◌, refl, sym, ◌∙◌, subst}
use mathlib.Core.Bool.{Bool}
use mathlib.Core.List.{List}
use mathlib.Core.Logic.{◌↔◌, ◌≢◌}
use Prim.Native.Nat.{ℕ}
use native.Mathlib.Omega.{arith}
use Rattle.table.specs.Pair.{deleted, slots_of}
use Rattle.tree.specs.Reach.{Tab, tab_of, Reached, Has, InSet}
use Rattle.protocol.specs.Says.{Verdict}
use Rattle.protocol.specs.Calls.{seated}
use Rattle.protocol.specs.Alone.{Calm, Answers}
use Rattle.protocol.specs.declared.Kind.{Kind}
use Rattle.protocol.specs.declared.Action.{Action}
use Rattle.protocol.proofs.Alone.Plans.{held_zero}
use Rattle.protocol.proofs.Alone.Doing.{Mid, Rests}
use Rattle.protocol.proofs.Alone.Veil.{Grown}
use Rattle.protocol.proofs.Alone.Calmness.{gone_in, calm_again}
use Rattle.protocol.proofs.Alone.Beginning.{ready, begun_busy, begun_locks, begun_tab}

-- what is to be shown of an answer and the words after it
abbrev pub Fate : List ℕ → Kind → ℕ → Verdict → List ℕ → Type 0
Fate ws kind k v vs = Answers kind ws k v vs × Calm vs

-- the plan begins with no lock held
pub begun_mid : {ws : List ℕ} (c : Calm ws) (acts : List Action) → Mid acts (slots_of (seated ws)) 0 (seated ws)
begun_mid c acts =
    record {
      tame = (ready c).tame;
      size = refl;
      seat = begun_busy c;
      locks = λ j l. begun_locks c j l ∙ sym (held_zero acts j l);
      some = λ m h. absurd (omega arith);
    }

-- from the table A to the table B only k went in or out
pub record Turned (D : ℕ → Bool) (k : ℕ) (A B : Tab) : Type 0 where
  pub grown : Grown D B
  pub linked : (y : ℕ) → Reached B y → B.state y ≢ deleted
  pub others : (j : ℕ) → j ≢ k → Has B j ↔ Has A j

pub carry : {A B : Tab} → A ≡ B → (j : ℕ) → Has A j ↔ Has B j
carry e j = (subst (λ (X : Tab). Has X j) e, subst (λ (X : Tab). Has X j) (sym e))

pub both_ways : {P Q R : Type 0} → P ↔ Q → Q ↔ R → P ↔ R
both_ways f g = ((λ p. g.0 (f.0 p)), λ r. f.1 (g.1 r))

-- A FINISHED PLAN: ws before the work, A the table with the locks taken, xs with the stores made, fs with all given up
module _ {ws xs fs : List ℕ} {A : Tab} {k : ℕ} (c : Calm ws) (same : A ≡ tab_of (seated ws)) (t : Turned (gone_in ws) k A (tab_of xs)) (r : Rests xs fs) where
  pub calm_after : Calm fs
  calm_after =
      calm_again r.tame (subst (Grown (gone_in ws)) (sym r.tab) t.grown) r.locks
      (subst (λ (B : Tab). (y : ℕ) → Reached B y → B.state y ≢ deleted) (sym r.tab) t.linked) r.nobody

  pub set_after : (j : ℕ) → InSet fs j ↔ Has (tab_of xs) j
  set_after j = carry r.tab j

  pub set_before : (j : ℕ) → Has A j ↔ InSet ws j
  set_before j = carry (same ∙ begun_tab c) j

  pub others_after : (j : ℕ) → j ≢ k → InSet fs j ↔ InSet ws j
  others_after j n = both_ways (set_after j) (both_ways (t.others j n) (set_before j))
