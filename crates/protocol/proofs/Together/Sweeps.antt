-- A SWEEP OF A GOOD MOMENT: with nobody busy it is done, and what follows is a good moment with the same set; else it is refused.
-- Assumes nothing.
use mathlib.Core.Path.{◌≡◌, refl, sym, ap, ◌∙◌, subst}
use mathlib.Core.Bool.{true}
use mathlib.Core.List.{List}
use mathlib.Core.Logic.{◌≢◌}
use Prim.Native.Nat.{ℕ, ◌/◌, ◌<◌}
use native.Mathlib.Omega.{arith}
use native.Mathlib.Decide.{ℕ_discrete}
use lib.ListN.{get_or}
use Rattle.refusal.specs.Said.{refuses}
use Rattle.moment.specs.Key.{legal_of}
use Rattle.table.specs.Pair.{state_f, link_f, lock_f, busy_f, zeros_f, slots_of, word_of, key_of, field_of, state_of, lock_of, busy_of}
use Rattle.table.specs.declared.Which.{Which}
use Rattle.tree.specs.Reach.{tab_of, Reached}
use Rattle.tree.specs.Answers.{sweep_says}
use Rattle.tree.proofs.Sweeping.{Sweepable, AfterSweep}
use Rattle.tree.proofs.Refusals.{WhySweep, sweep_1, sweep_8, sweep_6, sweep_refuses}
use Rattle.protocol.specs.declared.Worker.{Worker}
use Rattle.protocol.proofs.Together.Sum.{sum, sum_at}
use Rattle.protocol.proofs.Together.Stages.{Doing, idle, busy}
use Rattle.protocol.proofs.Together.Readers.{seat}
use Rattle.protocol.proofs.Together.Inv.{Inv}
use Rattle.protocol.proofs.Together.Rest as rest
use Rattle.protocol.proofs.Together.Rest.{Rest, no_lock, no_deleted, Swept}
use Rattle.protocol.proofs.Together.Clean.{Clean}
use Rattle.protocol.proofs.Together.Good.{doings, Good, good_table, good_sound, good_inside}

-- no seat is taken: all are idle
no_seats : (ds : List Doing) → sum seat ds ≡ 0 → Rest ds
no_seats ds e a l = go (get_or ds a idle) refl
  where
    go : (d : Doing) → get_or ds a idle ≡ d → get_or ds a idle ≡ idle
    go idle f = f
    go (busy j k p) f = absurd (omega (arith, sum_at seat ds a idle l, ap seat f))

module _ {ws : List ℕ} {rs : List Worker} {O : ℕ → ℕ → Type 0} {T : ℕ → ℕ} (g : Good ws rs O T) where
  pub at_rest : busy_of ws ≡ 0 → Rest (doings rs)
  at_rest e = no_seats (doings rs) (sym g.count ∙ e)

  pub rest_locks : busy_of ws ≡ 0 → (x : ℕ) (l : Which) → lock_of ws x l ≡ 0
  rest_locks e x l = no_lock g.inv (at_rest e) x l

  pub rest_linked : busy_of ws ≡ 0 → (x : ℕ) → Reached (tab_of ws) x → state_of ws x ≢ 3
  rest_linked e x r = no_deleted g.inv (at_rest e) x r

  can_sweep : busy_of ws ≡ 0 → Sweepable ws
  can_sweep e = record { sound = good_sound g; no_lock = λ i w l. rest_locks e i w; linked = rest_linked e }

  -- REFUSED ONLY WHILE A WORKER IS BUSY
  pub sweep_only_8 : (n : ℕ) → sweep_says ws ≡ refuses n → (n ≡ 8) × (busy_of ws ≢ 0)
  sweep_only_8 n e = go n (sweep_refuses ws n e)
    where
      go : (n : ℕ) → WhySweep ws n → (n ≡ 8) × (busy_of ws ≢ 0)
      go n (sweep_1 t) = absurd (let z : ◌≡◌ {A = ℕ} 0 1 = cc (t, good_table g) in omega arith)
      go n (sweep_8 t b) = (refl, b)
      go n (sweep_6 t b s) = absurd (s (can_sweep b))

  -- A SWEEP THAT IS DONE
  module _ (vs : List ℕ) (s : AfterSweep ws vs) where
    abbrev nobody : Rest (doings rs)
    nobody = at_rest s.nobody

    in_table : (x : ℕ) → state_of ws x ≡ 3 → x < slots_of ws
    in_table x e = good_inside g x (λ z. omega arith)

    is_swept : Swept (tab_of ws) (tab_of vs)
    is_swept = record {
      keys = λ x n. s.words.kept x 0 (omega arith) n;
      states = λ x n. s.words.field state_f x n;
      links = λ x d n. s.words.field (link_f d) x n;
      gone = λ x e. s.words.zero_field state_f x (in_table x e) e;
      none = λ x d e. s.words.zero_field (link_f d) x (in_table x e) e;
    }

    -- a field that is 0 in deleted slots is as it was
    same_field : (f x : ℕ) → field_of f ws x ≡ 0 → Dec (state_of ws x ≡ 3) → field_of f vs x ≡ 0
    same_field f x z (yes e) = s.words.zero_field f x (in_table x e) e
    same_field f x z (no n) = s.words.field f x n ∙ z

    locks_same : (x : ℕ) (l : Which) → lock_of vs x l ≡ lock_of ws x l
    locks_same x l = let z = no_lock g.inv nobody x l in same_field (lock_f l) x z (ℕ_discrete (state_of ws x) 3) ∙ sym z

    root_kept : state_of ws 0 ≢ 3
    root_kept e = omega (arith, g.inv.shape.root_data)

    swept_clean : Clean vs
    swept_clean = record {
      size = rw s.words.size g.clean.size;
      ones = s.words.kept 0 0 (omega arith) root_kept ∙ g.clean.ones;
      zeros = λ i. same_field zeros_f i (g.clean.zeros i) (ℕ_discrete (state_of ws i) 3);
      seats = λ i n. same_field busy_f i (g.clean.seats i n) (ℕ_discrete (state_of ws i) 3);
      empty = λ i k l e. none i k l e (ℕ_discrete (state_of ws i) 3);
      legal = λ i e n. key_at i e n (ℕ_discrete (state_of ws i) 3);
    }
      where
        none : (i k : ℕ) → k < 2 → state_of vs i ≡ 0 → Dec (state_of ws i ≡ 3) → word_of vs i k ≡ 0
        none i k l e (yes d) = s.words.zeroed i k l (in_table i d) d
        none i k l e (no d) = s.words.kept i k l d ∙ g.clean.empty i k l (sym (s.words.field state_f i d) ∙ e)

        key_at : (i : ℕ) → state_of vs i ≢ 0 → i ≢ 0 → Dec (state_of ws i ≡ 3) → legal_of (key_of vs i) ≡ true
        key_at i e n (yes d) = absurd (e (s.words.zero_field state_f i (in_table i d) d))
        key_at i e n (no d) = rw (s.words.kept i 0 (omega arith) d) (g.clean.legal i (rw (s.words.field state_f i d) at e) n)

    pub swept_good : (N : ℕ → ℕ → Type 0) (S : ℕ → ℕ) → Good vs rs N S
    swept_good N S = record {
      inv = subst (λ (n : ℕ). Inv n (tab_of vs) (lock_of vs) (doings rs) N S) (ap (λ (n : ℕ). n / 2) (sym s.words.size))
          (subst (λ (M : ℕ → Which → ℕ). Inv (slots_of ws) (tab_of vs) M (doings rs) N S) (λ t x l. sym (locks_same x l) t)
          (rest.sweep is_swept nobody g.inv N S));
      clean = swept_clean;
      count = busy_same ∙ g.count;
      most = omega (arith, busy_same, g.most);
      keys = g.keys;
    }
      where
        busy_same : busy_of vs ≡ busy_of ws
        busy_same = s.words.field busy_f 0 root_kept
