-- Each change that a lone worker makes keeps the bit rules. Assumes nothing.
use mathlib.Core.Path.{◌≡◌, refl, sym, ap, ◌∙◌}
use mathlib.Core.Bool.{Bool, true, false}
use mathlib.Core.List.{List}
use mathlib.Core.Logic.{◌≢◌}
use Prim.Native.Nat.{ℕ, zero, suc, ◌≤◌, ◌<◌}
use native.Mathlib.Omega.{arith}
use native.Mathlib.Decide.{ℕ_discrete}
use Rattle.moment.proofs.Tests.{tests}
use Rattle.table.specs.Pair.{free, as_data, state_f, link_f, lock_f, busy_f, zeros_f, slots_of, word_of, field_of, set_key, state_of, lock_of, set_state, set_link, set_lock, set_busy}
use Rattle.table.specs.Rules.{lock_fine}
use Rattle.table.specs.declared.Which.{Which}
use Rattle.table.specs.declared.Which.TheVariants.{State, Edge}
use Rattle.table.proofs.PairLaws.{Slot, word_other}
use Rattle.table.proofs.ChangeLaws.{Only, only, fine_state, field_in, lock_apart}
use Rattle.protocol.specs.Plan.{action_at}
use Rattle.protocol.specs.Locks.{held_one, release_one, all_held, released}
use Rattle.protocol.specs.Stores.{taken}
use Rattle.protocol.specs.declared.Phase.{Phase}
use Rattle.protocol.specs.declared.Action.{Action}
use Rattle.protocol.specs.declared.Action.TheVariants.{Visit, Look, Lock, Mark, Link, Take, End, Beyond}
use Rattle.protocol.proofs.HeldLaws.{LocksOnly, lock_holds, given_up_only}
use Rattle.protocol.proofs.StoreLaws.{Joins, state_link, link_holds}
use Rattle.protocol.proofs.Alone.Tame.{Zeros, Tame, tame_table, tame_slots, tame_only, word_slot, zero_same, zeros_field, zeros_other}

-- fields apart
lock_zeros : (l : Which) → lock_f l ≢ zeros_f
lock_zeros State = omega arith
lock_zeros (Edge true) = omega arith
lock_zeros (Edge false) = omega arith

pub one_side : (d e : Bool) → link_f d ≡ link_f e → d ≡ e
one_side true true h = refl
one_side true false h = absurd (omega arith)
one_side false true h = absurd (omega arith)
one_side false false h = refl

link_apart : (d : Bool) → (link_f d ≢ busy_f) × (link_f d ≢ zeros_f)
link_apart true = (omega arith, omega arith)
link_apart false = (omega arith, omega arith)

module _ {us : List ℕ} (t : Tame us) where
  pub slot_of : (i : ℕ) → state_of us i ≢ free → Slot us i
  slot_of i n = field_in state_f us i n

  -- a lock
  pub lock_only : (s : ℕ) (l : Which) (x : ℕ) → state_of us s ≢ free → x < 64 → Only (lock_f l) s x us (set_lock us s l x)
  lock_only s l x n h = only (lock_f l) us s x (slot_of s n) (lock_holds l x h)

  pub tame_lock : (s : ℕ) (l : Which) (x : ℕ) → state_of us s ≢ free → x < 64 → lock_fine x ≡ true → Tame (set_lock us s l x)
  tame_lock s l x n h f =
      let a = lock_apart l in
      tame_only t (lock_only s l x n h)
      (record {
        root_state = λ e. absurd (a.0 e);
        root_right = λ e. absurd (a.1 false e);
        link = λ d e. absurd (a.1 d e);
        lock = λ m e. f;
        seat = λ e. absurd (a.2 e);
        none = lock_zeros l;
      })
      (zeros_other (lock_f l) s x us t.zeros (λ e. a.0 (sym e)) n)

  -- a state
  pub state_only : (s v : ℕ) → state_of us s ≢ free → v < 4 → Only state_f s v us (set_state us s v)
  state_only s v n h = only state_f us s v (slot_of s n) h

  pub tame_state : (s v : ℕ) → state_of us s ≢ free → s ≢ 0 → 0 < v → v < 4 → Tame (set_state us s v)
  tame_state s v n z a h =
      let o = state_only s v n h in
      tame_only t o
      (record {
        root_state = λ e. z;
        root_right = λ e. z;
        link = λ d e. absurd (state_link d e);
        lock = λ l e. absurd ((lock_apart l).0 (sym e));
        seat = λ e. absurd (omega arith);
        none = omega arith;
      })
      (zeros_field state_f s v us t.zeros (let q = o.there in λ e. omega arith))

  -- a link
  pub link_only : (s : ℕ) (d : Bool) (v : ℕ) → state_of us s ≢ free → v < slots_of us → Only (link_f d) s v us (set_link us s d v)
  link_only s d v n h = only (link_f d) us s v (slot_of s n) (link_holds us d v (tame_table t) h)

  pub tame_link : (s : ℕ) (d : Bool) (v : ℕ) → state_of us s ≢ free → v < slots_of us → (d ≡ false → s ≢ 0) → Tame (set_link us s d v)
  tame_link s d v n h r =
      tame_only t (link_only s d v n h)
      (record {
        root_state = λ e. absurd (state_link d (sym e));
        root_right = λ e. r (one_side d false e);
        link = λ c e. h;
        lock = λ l e. absurd ((lock_apart l).1 d (sym e));
        seat = λ e. absurd ((link_apart d).0 e);
        none = (link_apart d).1;
      })
      (zeros_other (link_f d) s v us t.zeros (state_link d) n)

  -- a seat
  root_some : state_of us 0 ≢ free
  root_some = let r = t.root_data in λ e. omega arith

  pub busy_only : (n : ℕ) → n ≤ 16 → Only busy_f 0 n us (set_busy us n)
  busy_only n h = only busy_f us 0 n (slot_of 0 root_some) (omega arith)

  pub tame_busy : (n : ℕ) → n ≤ 16 → Tame (set_busy us n)
  tame_busy n h =
      tame_only t (busy_only n h)
      (record {
        root_state = λ e. absurd (omega arith);
        root_right = λ e. absurd (omega arith);
        link = λ d e. absurd ((link_apart d).0 (sym e));
        lock = λ l e. absurd ((lock_apart l).2 (sym e));
        seat = λ e. (refl, h);
        none = omega arith;
      })
      (zeros_other busy_f 0 n us t.zeros (omega arith) root_some)

-- all locks given up
pub tame_free : {us vs : List ℕ} → Tame us → LocksOnly us vs → ((i : ℕ) (l : Which) → lock_of vs i l ≡ 0) → Zeros vs → Tame vs
unfolding lock_fine
tame_free {us} {vs} t o f z =
    record {
      size = rw o.size t.size;
      ones = o.keys 0 ∙ t.ones;
      root_data = o.fields state_f 0 (λ l e. (lock_apart l).0 (sym e)) ∙ t.root_data;
      right = o.fields (link_f false) 0 (λ l e. (lock_apart l).1 false (sym e)) ∙ t.right;
      inside = λ i d l. rw (o.size, o.fields (link_f d) i (λ m e. (lock_apart m).1 d (sym e))) (t.inside i d (rw o.size at l));
      light = λ i l h. rw (f i l);
      seats = rw (o.fields busy_f 0 (λ l e. (lock_apart l).2 (sym e))) t.seats;
      lone = λ i l n. o.fields busy_f i (λ m e. (lock_apart m).2 (sym e)) ∙ t.lone i (rw o.size at l) n;
      bare = λ i l. o.fields zeros_f i (λ m e. lock_zeros m (sym e)) ∙ t.bare i (rw o.size at l);
      zeros = z;
    }

-- giving up touches no free slot
zeros_release : (us vs : List ℕ) (a : Action) → held_one us a ≡ true → ((i : ℕ) → state_of vs i ≡ state_of us i) → Zeros vs → Zeros (release_one vs a)
unfolding held_one release_one
zeros_release us vs (Visit at prev before side up) h s z = z
zeros_release us vs (Look this prev side before up) h s z = z
zeros_release us vs (Lock slot which write state links) h s z =
    let p = simp tests at h in
    zeros_other (lock_f which) slot _ vs z (λ e. (lock_apart which).0 (sym e)) (rw (s slot) (fine_state us slot p.0))
zeros_release us vs (Mark slot to) h s z = z
zeros_release us vs (Link slot side to) h s z = z
zeros_release us vs (Take prev side) h s z = z
zeros_release us vs End h s z = z
zeros_release us vs Beyond h s z = z

pub zeros_released : (us : List ℕ) (p : Phase) (n : ℕ) → all_held us p n ≡ true → Zeros us → Zeros (released us p n)
unfolding all_held released
zeros_released us p zero h z = z
zeros_released us p (suc n) h z =
    let q = simp tests at h in
    zeros_release us (released us p n) (action_at p n) q.1
    (λ i. (given_up_only us p n).fields state_f i (λ l e. (lock_apart l).0 (sym e))) (zeros_released us p n q.0 z)

-- A NEW SLOT, AND ONE LINK TO IT

pub by_joins : {f key prev : ℕ} {side : Bool} {us vs : List ℕ} → Joins f key prev side us vs → (P : ℕ → Type 0) (g j : ℕ)
    → (j ≡ f → g ≡ state_f → P as_data) → (j ≡ f → g ≢ state_f → P 0) → (j ≡ prev → g ≡ link_f side → P f)
    → P (field_of g us j) → P (field_of g vs j)
by_joins {f} {key} {prev} {side} {us} {vs} o P g j there bare link miss =
    go (ℕ_discrete j f) (ℕ_discrete g state_f) (ℕ_discrete j prev) (ℕ_discrete g (link_f side))
  where
    go : Dec (j ≡ f) → Dec (g ≡ state_f) → Dec (j ≡ prev) → Dec (g ≡ link_f side) → P (field_of g vs j)
    go (yes e) (yes s) p l = rw (e, s, o.state_there) (there e s)
    go (yes e) (no s) p l = rw (e, o.bare g s) (bare e s)
    go (no e) s (yes p) (yes l) = rw (p, l, o.link_there) (link p l)
    go (no e) s (yes p) (no l) = rw (p, o.fields g l) (rw p at miss)
    go (no e) s (no p) l = rw (o.slots g j e p) miss

joined_words : (us : List ℕ) (f key prev : ℕ) (side : Bool) (j k : ℕ) → k < 2 → j ≢ f → j ≢ prev
    → word_of (set_link (taken us f key) prev side f) j k ≡ word_of us j k
unfolding taken
joined_words us f key prev side j k h n m =
    word_slot (link_f side) (set_state (set_key us f key) f as_data) prev j k f h m
    ∙ word_slot state_f (set_key us f key) f j k as_data h n ∙ word_other us f j 0 k key (omega arith)

module _ {us : List ℕ} (t : Tame us) (f key prev : ℕ) (side : Bool) where
  abbrev vs : List ℕ
  vs = set_link (taken us f key) prev side f

  zeros_joined : Joins f key prev side us vs → state_of us prev ≢ free → Zeros vs
  zeros_joined o n i l e =
      let a : i ≢ f = λ z. (let q = o.state_there in let r : state_of vs f ≡ free = ap (state_of vs) (sym z) ∙ e in omega arith) in
      let b : i ≢ prev = λ z. n (sym (o.fields state_f (state_link side)) ∙ ap (state_of vs) (sym z) ∙ e) in
      zero_same us vs i (λ k h. joined_words us f key prev side i k h a b) (t.zeros i (rw o.size at l) (sym (o.slots state_f i a b) ∙ e))

  pub tame_joined : Joins f key prev side us vs → state_of us prev ≢ free → f ≢ 0 → f < slots_of us → (side ≡ false → prev ≢ 0) → Tame vs
  unfolding lock_fine
  tame_joined o n z h r =
      record {
        size = rw o.size t.size;
        ones = o.keys 0 (λ e. z (sym e)) ∙ t.ones;
        root_data = by_joins o (λ x. x ≡ as_data) state_f 0 (λ e s. refl) (λ e s. absurd (z (sym e))) (λ e s. absurd (state_link side s)) t.root_data;
        right = by_joins o (λ x. x ≡ 0) (link_f false) 0 (λ e s. absurd (z (sym e))) (λ e s. refl)
            (λ e s. absurd (r (one_side side false (sym s)) (sym e))) t.right;
        inside = λ i d l. rw o.size (by_joins o (λ x. x < slots_of us) (link_f d) i
            (λ e s. absurd (state_link d (sym s))) (λ e s. omega (arith, tame_slots t)) (λ e s. h) (t.inside i d (rw o.size at l)));
        light = λ i l j. by_joins o (λ x. lock_fine x ≡ true) (lock_f l) i
            (λ e s. absurd ((lock_apart l).0 s)) (λ e s. refl) (λ e s. absurd ((lock_apart l).1 side s)) (t.light i l (rw o.size at j));
        seats = by_joins o (λ x. x ≤ 16) busy_f 0 (λ e s. absurd (omega arith)) (λ e s. omega arith) (λ e s. absurd ((link_apart side).0 (sym s))) t.seats;
        lone = λ i l m. by_joins o (λ x. x ≡ 0) busy_f i
            (λ e s. absurd (omega arith)) (λ e s. refl) (λ e s. absurd ((link_apart side).0 (sym s))) (t.lone i (rw o.size at l) m);
        bare = λ i l. by_joins o (λ x. x ≡ 0) zeros_f i
            (λ e s. absurd (omega arith)) (λ e s. refl) (λ e s. absurd ((link_apart side).1 (sym s))) (t.bare i (rw o.size at l));
        zeros = zeros_joined o n;
      }
