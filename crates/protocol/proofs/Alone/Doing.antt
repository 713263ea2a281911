-- A lone worker that does its plan, in whatever case: each lock is given, each store is made, and the end gives up everything.
-- Assumes nothing.
use mathlib.Core.Path.{◌≡◌, refl, sym, ap, ◌∙◌}
use mathlib.Core.Bool.{Bool, true, false}
use mathlib.Core.List.{List}
use mathlib.Core.Logic.{◌≢◌}
use Prim.Native.Nat.{ℕ, zero, suc, ◌+◌, ◌-◌, ◌/◌, ◌≤◌, ◌<◌}
use native.Mathlib.Omega.{arith}
use native.Mathlib.Decide.{ℕ_discrete}
use lib.ListN.{length, get_or}
use borrow.Author.Tests.{eq-eqb, ne_eqb}
use Rattle.moment.specs.Key.{legal_of}
use Rattle.table.specs.Pair.{free, state_f, lock_f, busy_f, slots_of, state_of, lock_of, busy_of, set_lock, set_state, set_link, zero_pair}
use Rattle.table.specs.Rules.{lock_fine}
use Rattle.table.specs.declared.Which.{Which}
use Rattle.table.proofs.ChangeLaws.{lock_apart}
use Rattle.tree.specs.Reach.{tab_of}
use Rattle.protocol.specs.Says as verdict
use Rattle.protocol.specs.Plan.{plan, action_at, done_of, next_of}
use Rattle.protocol.specs.Record.{roles}
use Rattle.protocol.specs.Locks.{state_fits, links_fit, weight, clear, holds, crowded, granted, held_one, all_held, released, give_up, lock_step}
use Rattle.protocol.specs.Stores.{lowest_fit, taken, take_step}
use Rattle.protocol.specs.Step.{reads_fine, act_step, leave, settled, step_of}
use Rattle.protocol.specs.declared.Kind.{Kind}
use Rattle.protocol.specs.declared.Phase.{Phase}
use Rattle.protocol.specs.declared.Links.{Links}
use Rattle.protocol.specs.declared.Action.{Action}
use Rattle.protocol.specs.declared.Action.TheVariants.{Visit, Look, Lock, Mark, Link, Take, End, Beyond}
use Rattle.protocol.proofs.HeldLaws.{weighs, LocksOnly, set_lock_only, given_locks, given_up_locks, given_up_only}
use Rattle.protocol.proofs.StepLaws.{settle}
use Rattle.protocol.proofs.StoreLaws.{Joins, lowest_fit_lem, taken_joins, state_link, zero_field}
use Rattle.protocol.proofs.Mistakes.{fit_free}
use Rattle.protocol.proofs.LockLaws.{weight_lt}
use Rattle.protocol.proofs.Words.{locks_tab, seat_tab, seat_locks, state_locks, link_locks, new_locks, busy_link}
use Rattle.protocol.proofs.Alone.Tame.{Tame, tame_table, tame_pair, by_only}
use Rattle.protocol.proofs.Alone.Changes.{lock_only, tame_lock, state_only, tame_state, link_only, tame_link, by_joins, tame_joined, tame_free, zeros_released, busy_only, tame_busy}
use Rattle.protocol.proofs.Alone.Plans.{slot_in, Sole, held_by, held_suc, held_is, held_before, held_since}
use Rattle.protocol.proofs.Alone.Steps.{busy, went, over, step_acts, record_fine_lem}

-- A case of a work on n slots: its phases, by how many actions are done, and its plan, whose locks are on words of their own
pub record Case (kind : Kind) (key n : ℕ) (ph : ℕ → Phase) (acts : List Action) : Type 0 where
  pub legal : legal_of key ≡ true
  pub fit : (i : ℕ) → i < length acts → roles n kind (ph i) ≡ true
  pub done : (i : ℕ) → done_of (ph i) ≡ i
  pub next : (i : ℕ) → next_of (ph i) ≡ ph (suc i)
  pub same : (i : ℕ) → plan (ph i) ≡ acts
  pub sole : Sole acts

-- The table with i actions of the plan done: n slots, one worker busy, and exactly the locks of those actions held
pub record Mid (acts : List Action) (n i : ℕ) (us : List ℕ) : Type 0 where
  pub tame : Tame us
  pub size : slots_of us ≡ n
  pub seat : busy_of us ≡ 1
  pub locks : (j : ℕ) (l : Which) → lock_of us j l ≡ held_by acts i j l
  pub some : (m : ℕ) → m < i → state_of us (slot_in (get_or acts m Beyond)) ≢ free

-- one action more
pub mid_next : {acts : List Action} {n i : ℕ} {us vs : List ℕ} → Mid acts n i us → Tame vs → slots_of vs ≡ slots_of us → busy_of vs ≡ busy_of us
    → ((j : ℕ) (l : Which) → lock_of vs j l ≡ lock_of us j l + weighs (get_or acts i Beyond) j l)
    → ((x : ℕ) → state_of us x ≢ free → state_of vs x ≢ free) → state_of vs (slot_in (get_or acts i Beyond)) ≢ free → Mid acts n (suc i) vs
mid_next {acts} {n} {i} {us} {vs} m t s b l k h =
    record {
      tame = t;
      size = s ∙ m.size;
      seat = b ∙ m.seat;
      locks = λ j w. l j w ∙ ap (λ (z : ℕ). z + weighs (get_or acts i Beyond) j w) (m.locks j w) ∙ sym (held_suc acts i j w);
      some = λ x lt. go x lt (ℕ_discrete x i);
    }
  where
    go : (x : ℕ) → x < suc i → Dec (x ≡ i) → state_of vs (slot_in (get_or acts x Beyond)) ≢ free
    go x lt (yes e) = rw e h
    go x lt (no e) = k _ (m.some x (omega arith))

-- an action that takes no lock weighs nothing
abbrev pub Stores : Action → Type 0
Stores a = ((j : ℕ) (l : Which) → weighs a j l ≡ 0) × (slot_in a ≡ 0)

pub mid_store : {acts : List Action} {n i : ℕ} {us vs : List ℕ} (a : Action) → Mid acts n i us → get_or acts i Beyond ≡ a → Stores a → Tame vs
    → slots_of vs ≡ slots_of us → busy_of vs ≡ busy_of us → ((j : ℕ) (l : Which) → lock_of vs j l ≡ lock_of us j l)
    → ((x : ℕ) → state_of us x ≢ free → state_of vs x ≢ free) → Mid acts n (suc i) vs
mid_store {acts} {n} {i} {us} {vs} a m e st t s b l k =
    mid_next m t s b (λ j w. omega (arith, l j w, ap (λ (z : Action). weighs z j w) e, st.0 j w)) k
    (rw (e, st.1) (let r = t.root_data in λ z. omega arith))

-- What is left where all is given up: the tree, no lock, nobody busy
pub record Rests (us vs : List ℕ) : Type 0 where
  pub tame : Tame vs
  pub tab : tab_of vs ≡ tab_of us
  pub size : slots_of vs ≡ slots_of us
  pub locks : (j : ℕ) (l : Which) → lock_of vs j l ≡ 0
  pub nobody : busy_of vs ≡ 0

clear_none : (write : Bool) → clear write 0 ≡ true
unfolding clear
clear_none true = refl
clear_none false = refl

crowded_none : (write : Bool) → crowded write 0 ≡ false
unfolding crowded
crowded_none true = refl
crowded_none false = refl

weight_fine : (write : Bool) → lock_fine (weight write) ≡ true
unfolding lock_fine
weight_fine true = refl
weight_fine false = refl

weight_holds : (write : Bool) → holds write (weight write) ≡ true
unfolding holds
weight_holds true = refl
weight_holds false = refl

module _ {kind : Kind} {key n : ℕ} {ph : ℕ → Phase} {acts : List Action} (c : Case kind key n ph acts) where
  acts_at : (i j : ℕ) → action_at (ph i) j ≡ get_or acts j Beyond
  unfolding action_at
  acts_at i j = ap (λ (l : List Action). get_or l j Beyond) (c.same i)

  -- the step does the action
  does : {i : ℕ} {us : List ℕ} (a : Action) → Mid acts n i us → i < length acts → get_or acts i Beyond ≡ a → reads_fine us a ≡ true
      → step_of us (busy kind key (ph i)) ≡ settle (busy kind key (ph i)) (act_step us kind key (ph i) i (ph (suc i)) a)
  does {i} {us} a m h e r =
      rw (c.next i, c.done i) at
      (step_acts us kind key (ph i) a (tame_table m.tame)
      (record_fine_lem us kind key (ph i) c.legal (rw m.size (c.fit i h)) (let s = m.seat in λ z. omega arith))
      (acts_at i (done_of (ph i)) ∙ ap (λ (j : ℕ). get_or acts j Beyond) (c.done i) ∙ e) r)

  -- A LOCK
  module _ {i : ℕ} {us : List ℕ} (m : Mid acts n i us) (h : i < length acts) {s : ℕ} {l : Which} {write : Bool} {state : ℕ} {links : Links}
      (e : get_or acts i Beyond ≡ Lock s l write state links) (some : state_of us s ≢ free)
      (state_fits_lem : state_fits state (state_of us s) ≡ true) (links_fit_lem : links_fit us s links ≡ true) where
    nothing_held : lock_of us s l ≡ 0
    nothing_held = m.locks s l ∙ held_before acts c.sole i i s l write state links e (omega arith)

    abbrev pub locked_words : List ℕ
    locked_words = set_lock us s l (lock_of us s l + weight write)

    given : granted us s l write state links ≡ true
    unfolding granted
    given = rw (state_fits_lem, links_fit_lem, nothing_held, clear_none write)

    clear_word : crowded write (lock_of us s l) ≡ false
    clear_word = rw nothing_held (crowded_none write)

    value : lock_of us s l + weight write ≡ weight write
    value = omega (arith, nothing_held)

    pub lock_goes : step_of us (busy kind key (ph i)) ≡ went kind key (ph (suc i)) locked_words
    unfolding reads_fine act_step lock_step settled
    lock_goes = does (Lock s l write state links) m h e (tame_pair m.tame s some) ∙ rw (given, clear_word)

    pub lock_mid : Mid acts n (suc i) locked_words
    lock_mid =
        let x : lock_of us s l + weight write < 64 = omega (arith, value, weight_lt write) in
        let o = lock_only m.tame s l (lock_of us s l + weight write) some x in
        mid_next m (tame_lock m.tame s l (lock_of us s l + weight write) some x (rw value (weight_fine write)))
        (ap (λ (z : ℕ). z / 2) o.size) (o.fields busy_f 0 (λ z. (lock_apart l).2 (sym z)))
        (λ j w. given_locks us s l write state links j w (tame_pair m.tame s some) given clear_word ∙ rw e)
        (λ x k. rw (o.fields state_f x (λ z. (lock_apart l).0 (sym z))) k)
        (rw (e, o.fields state_f s (λ z. (lock_apart l).0 (sym z))) some)

    pub lock_same : LocksOnly us locked_words
    lock_same = set_lock_only us s l (lock_of us s l + weight write)

  -- STORES
  module _ {i : ℕ} {us : List ℕ} (m : Mid acts n i us) (h : i < length acts) where
    pub mark_goes : (s v : ℕ) → get_or acts i Beyond ≡ Mark s v → state_of us s ≢ free
        → step_of us (busy kind key (ph i)) ≡ went kind key (ph (suc i)) (set_state us s v)
    unfolding reads_fine act_step settled
    mark_goes s v e some = does (Mark s v) m h e (tame_pair m.tame s some)

    pub mark_mid : (s v : ℕ) → get_or acts i Beyond ≡ Mark s v → state_of us s ≢ free → s ≢ 0 → 0 < v → v < 4 → Mid acts n (suc i) (set_state us s v)
    mark_mid s v e some z a b =
        let o = state_only m.tame s v some b in
        mid_store (Mark s v) m e ((λ j l. refl), refl) (tame_state m.tame s v some z a b) (ap (λ (z : ℕ). z / 2) o.size) (o.fields busy_f 0 (omega arith))
        (state_locks s v us (set_state us s v) o) (λ x k. by_only o (λ y. y ≢ free) state_f x (λ f g. omega arith) k)

    pub link_goes : (s : ℕ) (d : Bool) (v : ℕ) → get_or acts i Beyond ≡ Link s d v → state_of us s ≢ free
        → step_of us (busy kind key (ph i)) ≡ went kind key (ph (suc i)) (set_link us s d v)
    unfolding reads_fine act_step settled
    link_goes s d v e some = does (Link s d v) m h e (tame_pair m.tame s some)

    pub link_mid : (s : ℕ) (d : Bool) (v : ℕ) → get_or acts i Beyond ≡ Link s d v → state_of us s ≢ free → v < slots_of us → (d ≡ false → s ≢ 0)
        → Mid acts n (suc i) (set_link us s d v)
    link_mid s d v e some b r =
        let o = link_only m.tame s d v some b in
        mid_store (Link s d v) m e ((λ j l. refl), refl) (tame_link m.tame s d v some b r) (ap (λ (z : ℕ). z / 2) o.size) (o.fields busy_f 0 (λ z. busy_link d (sym z)))
        (link_locks s d v us (set_link us s d v) o) (λ x k. rw (o.fields state_f x (state_link d)) k)

    -- the lowest free slot is taken
    module _ (prev : ℕ) (side : Bool) (e : get_or acts i Beyond ≡ Take prev side) (some : state_of us prev ≢ free) where
      abbrev pub took_words : List ℕ
      took_words = set_link (taken us (lowest_fit us) key) prev side (lowest_fit us)

      zero_there : lowest_fit us ≢ 0 → zero_pair us (lowest_fit us) ≡ true
      zero_there f = let q = lowest_fit_lem us f in m.tame.zeros (lowest_fit us) q.2 (fit_free us (lowest_fit us) q.0)

      pub took_joins : lowest_fit us ≢ 0 → Joins (lowest_fit us) key prev side us took_words
      took_joins f = taken_joins us key prev side (tame_table m.tame) (tame_pair m.tame prev some) f (zero_there f)

      pub take_goes : lowest_fit us ≢ 0 → step_of us (busy kind key (ph i)) ≡ went kind key (ph (suc i)) took_words
      unfolding reads_fine act_step take_step settled
      take_goes f = does (Take prev side) m h e (tame_pair m.tame prev some) ∙ rw (ne_eqb (lowest_fit us) 0 f, zero_there f)

      pub take_mid : lowest_fit us ≢ 0 → (side ≡ false → prev ≢ 0) → Mid acts n (suc i) took_words
      take_mid f r =
          let o = took_joins f in
          let q = lowest_fit_lem us f in
          mid_store (Take prev side) m e ((λ j l. refl), refl) (tame_joined m.tame (lowest_fit us) key prev side o some f q.2 r) (ap (λ (z : ℕ). z / 2) o.size)
          (by_joins o (λ y. y ≡ busy_of us) busy_f 0 (λ a b. absurd (omega arith)) (λ a b. absurd (f (sym a))) (λ a b. absurd (busy_link side (sym b))) refl)
          (new_locks (lowest_fit us) key prev side us took_words o (λ l. zero_field us (lowest_fit us) (lock_f l) (zero_there f)))
          (λ x k. by_joins o (λ y. y ≢ free) state_f x (λ a b. omega arith) (λ a b. absurd (b refl)) (λ a b. absurd (state_link side b)) k)

    -- THE END: all is given up
    all_held_lem : (j : ℕ) → j ≤ i → all_held us (ph i) j ≡ true
    unfolding all_held held_one
    all_held_lem zero k = refl
    all_held_lem (suc j) k = rw (all_held_lem j (omega arith), acts_at i j) (one (get_or acts j Beyond) refl)
      where
        one : (a : Action) → get_or acts j Beyond ≡ a → held_one us a ≡ true
        one (Visit at prev before side up) e = refl
        one (Look this prev side before up) e = refl
        one (Lock slot which write state links) e =
            rw (tame_pair m.tame slot (rw (ap slot_in e) at (m.some j (omega arith))), m.locks slot which, held_since acts c.sole j i slot which write state links e (omega arith))
            (weight_holds write)
        one (Mark slot to) e = refl
        one (Link slot side to) e = refl
        one (Take prev side) e = refl
        one End e = refl
        one Beyond e = refl

    abbrev pub rest_words : List ℕ
    rest_words = leave (released us (ph i) i)

    pub rests : Rests us rest_words
    unfolding leave
    rests =
        let vs = released us (ph i) i in
        let o = given_up_only us (ph i) i in
        let f : (j : ℕ) (l : Which) → lock_of vs j l ≡ 0 = λ j l. omega (arith, given_up_locks us (ph i) i j l, held_is acts (ph i) (c.same i) i j l, m.locks j l) in
        let t = tame_free m.tame o f (zeros_released us (ph i) i (all_held_lem i (omega arith)) m.tame.zeros) in
        let b : busy_of vs - 1 ≡ 0 = omega (arith, o.fields busy_f 0 (λ l z. (lock_apart l).2 (sym z)), m.seat) in
        let q = busy_only t (busy_of vs - 1) (omega (arith, b)) in
        record {
          tame = tame_busy t (busy_of vs - 1) (omega (arith, b));
          tab = seat_tab (busy_of vs - 1) vs (leave vs) q ∙ locks_tab us vs o;
          size = ap (λ (z : ℕ). z / 2) (q.size ∙ o.size);
          locks = λ j l. seat_locks (busy_of vs - 1) vs (leave vs) q j l ∙ f j l;
          nobody = q.there ∙ b;
        }

    pub ends_yes : get_or acts i Beyond ≡ End → step_of us (busy kind key (ph i)) ≡ over verdict.yes rest_words
    unfolding reads_fine act_step give_up settled
    ends_yes e = does End m h e refl ∙ rw (all_held_lem i (omega arith))

    pub ends_full : (prev : ℕ) (side : Bool) → get_or acts i Beyond ≡ Take prev side → state_of us prev ≢ free → lowest_fit us ≡ 0
        → step_of us (busy kind key (ph i)) ≡ over verdict.full rest_words
    unfolding reads_fine act_step take_step give_up settled
    ends_full prev side e some f =
        does (Take prev side) m h e (tame_pair m.tame prev some) ∙ rw (eq-eqb (lowest_fit us) 0 f, all_held_lem i (omega arith))
