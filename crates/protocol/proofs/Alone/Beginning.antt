-- The start of a lone worker: it is done, takes one seat and changes nothing else; and the seat given up again leaves every word
-- as it was. Assumes nothing.
use mathlib.Core.Path.{◌≡◌, sym, ap, ◌∙◌, subst}
use mathlib.Core.Bool.{true}
use mathlib.Core.List.{List}
use mathlib.Core.Logic.{◌≢◌}
use Prim.Native.Nat.{ℕ, ◌+◌, ◌-◌, ◌/◌, ◌≤◌}
use native.Mathlib.Omega.{arith}
use borrow.Author.Tests.{lt-leb}
use Rattle.layout.specs.Layout.{pos, wid, fld_set}
use Rattle.layout.proofs.WordLaws.{put_put, put_get}
use Rattle.moment.specs.Key.{legal_of}
use Rattle.table.specs.Pair.{layout, free, deleted, state_f, busy_f, slots_of, word_of, set_word, field_of, set_field, state_of, lock_of, busy_of}
use Rattle.table.specs.declared.Which.{Which}
use Rattle.table.proofs.PairLaws.{Slot, Holds, word_same, word_again, word_itself, set_field_fits, field_lt}
use Rattle.table.proofs.ChangeLaws.{Only, field_in}
use Rattle.tree.specs.Reach.{Tab, tab_of, Reached}
use Rattle.tree.specs.Walk.{Way}
use Rattle.tree.proofs.Paths.{Between}
use Rattle.tree.proofs.Trees.{slots_on}
use Rattle.tree.proofs.Judged.{root_of, rooted, sound_exactly}
use Rattle.tree.proofs.SoundPaths.{sound_between, walk_short}
use Rattle.protocol.specs.Step.{leave}
use Rattle.protocol.specs.Calls.{judge_start, seated, start_of}
use Rattle.protocol.specs.Alone.{Calm}
use Rattle.protocol.specs.declared.Kind.{Kind}
use Rattle.protocol.specs.declared.Work.TheVariants.{Idle}
use Rattle.protocol.specs.declared.Worker.{Worker}
use Rattle.protocol.proofs.CallLaws.{started}
use Rattle.protocol.proofs.Words.{seat_tab, seat_locks}
use Rattle.protocol.proofs.Alone.Changes.{busy_only, tame_busy}
use Rattle.protocol.proofs.Alone.Veil.{Grown}
use Rattle.protocol.proofs.Alone.Calmness.{gone_in, calm_locks, calm_tame, calm_grown}
use Rattle.protocol.proofs.Alone.Walking.{legal_below, Stops, walk_end, Ready}

-- START IS DONE
pub starts : (ws : List ℕ) (w : Worker) (kind : Kind) (k : ℕ) → Calm ws → w.work ≡ Idle → legal_of k ≡ true → start_of ws w kind k ≡ started ws kind k
unfolding start_of judge_start
starts ws w kind k c i l =
    let b = c.nobody in
    rw (c.fine, i, l, lt-leb 16 (busy_of ws) (omega arith))

stored_again : (f : ℕ) (ws : List ℕ) (i : ℕ) → fld_set layout f (word_of ws i 1) (field_of f ws i) ≡ word_of ws i 1
unfolding field_of
stored_again f ws i = put_get (pos layout f) (wid layout f) (word_of ws i 1)

-- a store undone gives the words back
undone : (f : ℕ) (ws : List ℕ) (i v : ℕ) → Slot ws i → Holds f v → set_field f (set_field f ws i v) i (field_of f ws i) ≡ ws
undone f ws i v s h =
    let x = fld_set layout f (word_of ws i 1) v in
    let e = set_field_fits f ws i v h in
    let y : word_of (set_word ws i 1 x) i 1 ≡ x = word_same ws i 1 x s in
    ap (λ (l : List ℕ). set_field f l i (field_of f ws i)) e
    ∙ set_field_fits f (set_word ws i 1 x) i (field_of f ws i) (field_lt f ws i)
    ∙ word_again ws i 1 x (fld_set layout f (word_of (set_word ws i 1 x) i 1) (field_of f ws i))
    ∙ ap (λ (z : ℕ). set_word ws i 1 (fld_set layout f z (field_of f ws i))) y
    ∙ ap (set_word ws i 1) (put_put (pos layout f) (wid layout f) (word_of ws i 1) v (field_of f ws i) h ∙ stored_again f ws i)
    ∙ word_itself ws i 1

module _ {ws : List ℕ} (c : Calm ws) where
  abbrev pub us : List ℕ
  us = seated ws

  one : busy_of ws + 1 ≤ 16
  one = let b = c.nobody in omega arith

  only_seat : Only busy_f 0 (busy_of ws + 1) ws us
  unfolding seated
  only_seat = busy_only (calm_tame c) (busy_of ws + 1) one

  pub begun_busy : busy_of us ≡ 1
  begun_busy = let b = c.nobody in only_seat.there ∙ omega arith

  -- THE TREE IS THE SAME
  pub begun_tab : tab_of us ≡ tab_of ws
  begun_tab = seat_tab (busy_of ws + 1) ws us only_seat

  pub begun_size : slots_of us ≡ slots_of ws
  begun_size = ap (λ (z : ℕ). z / 2) only_seat.size

  pub begun_locks : (j : ℕ) (l : Which) → lock_of us j l ≡ 0
  begun_locks j l = seat_locks (busy_of ws + 1) ws us only_seat j l ∙ calm_locks c j l

  pub ready : Ready us
  unfolding seated
  ready =
      record {
        tame = tame_busy (calm_tame c) (busy_of ws + 1) one;
        seat = begun_busy;
        some = subst (λ (A : Tab). (y : ℕ) → Reached A y → A.state y ≢ free) (sym begun_tab) c.sound.taken;
        between = subst Between (sym begun_tab) (sound_between ws c.sound);
      }

  pub begun_grown : Grown (gone_in ws) (tab_of us)
  begun_grown = subst (Grown (gone_in ws)) (sym begun_tab) (calm_grown c)

  pub begun_linked : (y : ℕ) → Reached (tab_of us) y → state_of us y ≢ deleted
  begun_linked = subst (λ (A : Tab). (y : ℕ) → Reached A y → A.state y ≢ deleted) (sym begun_tab) c.linked

  -- THE WALK ENDS, and is not longer than there are slots
  pub begun_end : (k : ℕ) → legal_of k ≡ true → (y : ℕ) × Way (tab_of us) k y × Stops (tab_of us) k y
  begun_end k l =
      subst (λ (A : Tab). (y : ℕ) × Way A k y × Stops A k y) (sym begun_tab)
      (walk_end k (rooted ws c.fine ((sound_exactly ws c.fine).1 c.sound)) (let o = (root_of ws c.fine).ones in omega (arith, legal_below k l)))

  pub begun_short : (k y : ℕ) (w : Way (tab_of us) k y) → slots_on w ≤ slots_of ws
  begun_short =
      subst (λ (A : Tab). (k y : ℕ) (w : Way A k y) → slots_on w ≤ slots_of ws) (sym begun_tab) (walk_short ws c.sound c.fine)

  -- THE SEAT GIVEN UP AGAIN: every word is as it was
  pub leave_back : leave us ≡ ws
  unfolding leave seated
  leave_back =
      let e : busy_of us - 1 ≡ busy_of ws = (let b = c.nobody in omega (arith, begun_busy)) in
      let r = (calm_tame c).root_data in
      ap (λ (n : ℕ). set_field busy_f us 0 n) e
      ∙ undone busy_f ws 0 (busy_of ws + 1) (field_in state_f ws 0 (λ z. omega arith)) (let o = one in omega arith)
