-- A FRESH TABLE WITH IDLE RECORDS IS A GOOD MOMENT.
-- Assumes nothing.
use mathlib.Core.Path.{◌≡◌, refl, sym, ap, ◌∙◌}
use mathlib.Core.Bool.{Bool, true, false}
use mathlib.Core.List.{List}
use mathlib.Core.Logic.{◌≢◌}
use Prim.Native.Nat.{ℕ, zero, suc, ◌/◌, ◌≤◌, ◌<◌}
use native.Mathlib.Omega.{arith}
use native.Mathlib.Decide.{ℕ_discrete, dec_lt}
use lib.ListN.{length, get_or, length-map}
use Rattle.moment.proofs.Tests.{tests}
use Rattle.table.specs.Pair.{state_f, link_f, lock_f, busy_f, zeros_f, slots_of, word_at, word_of, field_of, state_of, link_of, lock_of, zero_pair}
use Rattle.table.specs.Rules.{size_fine, fresh_words}
use Rattle.table.proofs.PairLaws.{word_beyond}
use Rattle.table.proofs.ChangeLaws.{lock_apart}
use Rattle.table.proofs.FreshLaws.{fresh_length, fresh_root_key, fresh_root_state, fresh_root_bare, fresh_field}
use Rattle.tree.specs.Reach.{tab_of, top}
use Rattle.tree.proofs.Fresh.{fresh_starts}
use Rattle.protocol.specs.Step.{idle_worker}
use Rattle.protocol.specs.TogetherPromise.{AllIdle}
use Rattle.protocol.specs.declared.Work.{Work}
use Rattle.protocol.specs.declared.Worker.{Worker}
use Rattle.protocol.proofs.StoreLaws.{state_link}
use Rattle.protocol.proofs.Paths.Shape.{Shape}
use Rattle.protocol.proofs.Together.Locks.{units, units_none}
use Rattle.protocol.proofs.Together.Stages.{doing_by, doing, held}
use Rattle.protocol.proofs.Together.Readers.{seat}
use Rattle.protocol.proofs.Together.Inv.{Inv}
use Rattle.protocol.proofs.Together.Rest.{Rest, no_sum}
use Rattle.protocol.proofs.Together.Clean.{Clean}
use Rattle.protocol.proofs.Together.Good.{doings, doing_at, Good}
use Rattle.protocol.proofs.Together.Calls.{idle_busy}

-- the words are even in number
even_size : (n : ℕ) → size_fine n ≡ true → (i k : ℕ) → (i < n / 2 → ⊥) → n ≤ word_at i k
unfolding size_fine
even_size n e i k l = let p = simp tests at e in let q = p.0.0 in omega arith

module _ (old : List ℕ) (size : size_fine (length old) ≡ true) where
  abbrev ws : List ℕ
  ws = fresh_words old

  -- every field but the root's state is 0
  bare_field : (f i : ℕ) → f ≢ state_f → field_of f ws i ≡ 0
  bare_field f i n = go (ℕ_discrete i 0)
    where
      go : Dec (i ≡ 0) → field_of f ws i ≡ 0
      go (yes e) = rw e (fresh_root_bare old size f n)
      go (no e) = fresh_field old size f i e

  no_link : (i : ℕ) (d : Bool) → link_of ws i d ≡ 0
  no_link i d = bare_field (link_f d) i (λ e. state_link d (sym e))

  only_root : (i : ℕ) → state_of ws i ≢ 0 → i ≡ 0
  only_root i n = go (ℕ_discrete i 0)
    where
      go : Dec (i ≡ 0) → i ≡ 0
      go (yes e) = e
      go (no e) = absurd (n (fresh_field old size state_f i e))

  root_state : state_of ws 0 ≡ 1
  root_state = fresh_root_state old size

  fresh_shape : Shape (tab_of ws) (λ x. 0)
  fresh_shape = record {
    cap = 0;
    capped = λ s. omega arith;
    small = λ s. small s (ℕ_discrete s 0);
    root_data = root_state;
    root_right = no_link 0 false;
    highest = λ s n m. absurd (m (only_root s n));
    edge = λ p y d r e n. absurd (n (sym e ∙ no_link p d));
    alive = λ s l. top (only_root s (λ e. omega arith));
    rank = λ s y d n e m. absurd (m (sym e ∙ no_link s d));
    bare = λ s d e. no_link s d;
    two = λ s d e. absurd (let z = ap (state_of ws) (only_root s (λ i. omega arith)) in omega (arith, root_state));
  }
    where
      small : (s : ℕ) → Dec (s ≡ 0) → state_of ws s ≤ 3
      small s (yes e) = rw (e, root_state) (omega arith)
      small s (no e) = rw (fresh_field old size state_f s e) (omega arith)

  -- a free slot is zero, in the table and beyond it
  pair_zero : (i k : ℕ) → k < 2 → zero_pair ws i ≡ true → word_of ws i k ≡ 0
  unfolding zero_pair
  pair_zero i zero b e = let p = simp tests at e in p.0
  pair_zero i (suc zero) b e = let p = simp tests at e in p.1
  pair_zero i (suc (suc k)) b e = absurd (omega arith)

  free_zero : (i k : ℕ) → k < 2 → state_of ws i ≡ 0 → Dec (i < slots_of ws) → word_of ws i k ≡ 0
  free_zero i k b e (yes l) = pair_zero i k b ((fresh_starts old size).sound.zeros i l e)
  free_zero i k b e (no l) = sym (word_beyond ws i k (even i k l))
    where
      even : (i k : ℕ) → (i < slots_of ws → ⊥) → length ws ≤ word_at i k
      even i k n = even_size (length ws) (rw (fresh_length old size) size) i k n

  fresh_clean : Clean ws
  fresh_clean = record {
    size = rw (fresh_length old size) size;
    ones = fresh_root_key old size;
    zeros = λ i. bare_field zeros_f i (omega arith);
    seats = λ i n. fresh_field old size busy_f i n;
    empty = λ i k l e. free_zero i k l e (dec_lt i (slots_of ws));
    legal = λ i n m. absurd (m (only_root i n));
  }

  module _ (rs : List Worker) (rest : AllIdle rs) (O : ℕ → ℕ → Type 0) (T : ℕ → ℕ) where
    all_idle : Rest (doings rs)
    all_idle a l =
        let w = get_or rs a idle_worker in
        doing_at rs a ∙ ap (λ (k : Work). doing_by k w.key w.phase) (rest a (rw (length-map rs doing) at l))

    fresh_inv : Inv (slots_of ws) (tab_of ws) (lock_of ws) (doings rs) O T
    fresh_inv = record {
      rho = λ x. 0;
      shape = fresh_shape;
      fine = λ a l. rw (all_idle a l) tt;
      fit = λ a l. rw (all_idle a l) tt;
      quick = λ a l. rw (all_idle a l) tt;
      roles = λ a l. rw (all_idle a l) tt;
      locked = record {
        counted = λ i l. bare_field (lock_f l) i (lock_apart l).0 ∙ sym (no_sum (λ w. units i l (held w)) (doings rs) (units_none i l) all_idle);
        fair = λ a h l m e. absurd (rw (all_idle a l) at m);
      };
      owned = λ x e t. absurd (let y = ap (state_of ws) (only_root x (λ i. omega arith)) in omega (arith, root_state));
    }

    pub fresh_good : Good ws rs O T
    fresh_good = record {
      inv = fresh_inv;
      clean = fresh_clean;
      count = bare_field busy_f 0 (omega arith) ∙ sym (no_sum seat (doings rs) refl all_idle);
      most = omega (arith, bare_field busy_f 0 (omega arith));
      keys = λ a l kind e. absurd (idle_busy (sym (rest a l) ∙ e));
    }
