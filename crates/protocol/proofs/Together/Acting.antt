-- EVERY STEP OF A BUSY RECORD IS A MOVE, or is refused and changes nothing: the plan's actions one by one, for each case.
-- Assumes nothing.
use mathlib.Core.Path.{◌≡◌, refl, sym, ap}
use mathlib.Core.Bool.{true}
use mathlib.Core.List.{List, [], ◌∷◌}
use Prim.Native.Nat.{ℕ, zero, suc, ◌≤◌, ◌<◌}
use native.Mathlib.Omega.{arith}
use lib.ListN.{length}
use Rattle.moment.specs.Key.{legal_of}
use Rattle.table.specs.Pair.{slots_of, lock_of}
use Rattle.table.specs.Rules.{table_fine}
use Rattle.table.specs.declared.Which.{Which}
use Rattle.table.proofs.ChangeLaws.{fine_state}
use Rattle.tree.specs.Reach.{tab_of}
use Rattle.protocol.specs.Plan.{plan, action_at, done_of, next_of, action_of}
use Rattle.protocol.specs.Locks.{released}
use Rattle.protocol.specs.Step.{reads_fine, act_step}
use Rattle.protocol.specs.declared.Kind.{Kind}
use Rattle.protocol.specs.declared.Phase.{Phase}
use Rattle.protocol.specs.declared.Phase.TheVariants.{Walk, OnRouting, New, Two, One, Leaf, UnderData, UnderRouting}
use Rattle.protocol.specs.declared.Action.{Action}
use Rattle.protocol.specs.declared.Action.TheVariants.{Visit, Look, Lock, Mark, Link, Take, End, Beyond}
use Rattle.protocol.proofs.StoreLaws as store
use Rattle.protocol.proofs.Paths.Shape.{Shape}
use Rattle.protocol.proofs.Together.Locks.{units, Drops}
use Rattle.protocol.proofs.Together.Wishes.{Wish, lock_in, locks}
use Rattle.protocol.proofs.Together.Stages.{lock, killed, killed_both, view, held_in, Knows, Fits}
use Rattle.protocol.proofs.Together.Moves.{nowish, next_lock}
use Rattle.protocol.proofs.Together.Puts.{put_data, put_routing, kill_one, pass_one, kill_leaf, cut_leaf, kill_under, kill_routing, pass_routing}
use Rattle.protocol.proofs.Together.Clean.{Clean}
use Rattle.protocol.proofs.Together.Holding.{gives_up}
use Rattle.protocol.proofs.Together.Steps.{Acts, visit_acts, look_acts, end_acts, lock_acts, mark_acts, link_acts, take_acts}

abbrev pub first : List Wish → Wish
first [] = nowish
first (w ∷ ws) = w

pub not_none : {w : Wish} → [] ≡ w ∷ [] → ⊥
not_none e = let z : ◌≡◌ {A = ℕ} 0 1 = ap length e in omega arith

module _ (ws : List ℕ) {rho : ℕ → ℕ} (h : Shape (tab_of ws) rho) (fine : table_fine ws ≡ true) (clean : Clean ws) (j : Kind) (k : ℕ) (lk : legal_of k ≡ true) where
  -- the plan's next action is the case's next lock
  lock_action : (a : Action) (p c : Phase) (i n : ℕ) (next : Phase) → i < length (locks c) → lock_in a ≡ next_lock c i ∷ []
      → view next ≡ lock c (suc i) → reads_fine ws a ≡ true → Drops (lock_of ws) (lock_of (released ws p n)) (held_in (lock c i))
      → Acts ws j k (lock c i) (act_step ws j k p n next a).said (act_step ws j k p n next a).words
  unfolding act_step reads_fine
  lock_action (Visit at prev before side up) p c i n next l e v r d = absurd (not_none e)
  lock_action (Look this prev side before up) p c i n next l e v r d = absurd (not_none e)
  lock_action (Lock slot which write state links) p c i n next l e v r d =
      lock_acts ws h fine clean j k p c i n next slot which write state links l (sym (ap first e)) v r d
  lock_action (Mark slot to) p c i n next l e v r d = absurd (not_none e)
  lock_action (Link slot side to) p c i n next l e v r d = absurd (not_none e)
  lock_action (Take prev side) p c i n next l e v r d = absurd (not_none e)
  lock_action End p c i n next l e v r d = absurd (not_none e)
  lock_action Beyond p c i n next l e v r d = absurd (not_none e)

  locked : (p c : Phase) (i : ℕ) → lock_in (action_of p) ≡ next_lock c i ∷ [] → view (next_of p) ≡ lock c (suc i) → i < length (locks c)
      → reads_fine ws (action_of p) ≡ true → Drops (lock_of ws) (lock_of (released ws p (done_of p))) (held_in (lock c i))
      → Acts ws j k (lock c i) (act_step ws j k p (done_of p) (next_of p) (action_of p)).said (act_step ws j k p (done_of p) (next_of p) (action_of p)).words
  locked p c i e v l r d = lock_action (action_of p) p c i (done_of p) (next_of p) l e v r d

  pub act_acts : (p : Phase) → Fits j (view p) → Knows (tab_of ws) rho j k (view p)
      → ((x : ℕ) (l : Which) → units x l (held_in (view p)) ≤ lock_of ws x l)
      → reads_fine ws (action_of p) ≡ true → store.Fits (slots_of ws) (action_of p)
      → Acts ws j k (view p) (act_step ws j k p (done_of p) (next_of p) (action_of p)).said (act_step ws j k p (done_of p) (next_of p) (action_of p)).words
  unfolding locks plan action_at act_step reads_fine
  act_acts (Walk at prev before side up) f q g r w = visit_acts ws h fine clean j k at prev before side up (fine_state ws at r)
  act_acts (Leaf t p s b up) f q g r w = rw f (look_acts ws h fine clean k t p b s up (fine_state ws p r))
  act_acts (OnRouting t zero) f q g r w = locked (OnRouting t 0) (OnRouting t 0) 0 refl refl (omega arith) r (gives_up ws j (OnRouting t 0) f g)
  act_acts (OnRouting t (suc zero)) f q g r w =
      mark_acts ws h fine clean j k (lock (OnRouting t 0) 1) (OnRouting t 2) t 1 r w (omega arith) (λ b. put_data b)
  act_acts (OnRouting t (suc (suc zero))) f q g r w = end_acts ws h fine clean j k (OnRouting t 2) (OnRouting t 0) 2 (gives_up ws j (OnRouting t 2) f g)
  act_acts (OnRouting t (suc (suc (suc n)))) f q g r w = absurd (omega (arith, f.1))
  act_acts (New p s zero) f q g r w = locked (New p s 0) (New p s 0) 0 refl refl (omega arith) r (gives_up ws j (New p s 0) f g)
  act_acts (New p s (suc zero)) f q g r w = locked (New p s 1) (New p s 0) 1 refl refl (omega arith) r (gives_up ws j (New p s 1) f g)
  act_acts (New p s (suc (suc zero))) f q g r w =
      take_acts ws h fine clean j k (New p s 2) 2 (New p s 3) p s lk r refl (gives_up ws j (New p s 2) f g)
  act_acts (New p s (suc (suc (suc zero)))) f q g r w = end_acts ws h fine clean j k (New p s 3) (New p s 0) 3 (gives_up ws j (New p s 3) f g)
  act_acts (New p s (suc (suc (suc (suc n))))) f q g r w = absurd (omega (arith, f.1))
  act_acts (Two t zero) f q g r w = locked (Two t 0) (Two t 0) 0 refl refl (omega arith) r (gives_up ws j (Two t 0) f g)
  act_acts (Two t (suc zero)) f q g r w =
      mark_acts ws h fine clean j k (lock (Two t 0) 1) (Two t 2) t 2 r w (omega arith) (λ b. put_routing b)
  act_acts (Two t (suc (suc zero))) f q g r w = end_acts ws h fine clean j k (Two t 2) (Two t 0) 2 (gives_up ws j (Two t 2) f g)
  act_acts (Two t (suc (suc (suc n)))) f q g r w = absurd (omega (arith, f.1))
  act_acts (One t p s c cs zero) f q g r w = locked (One t p s c cs 0) (One t p s c cs 0) 0 refl refl (omega arith) r (gives_up ws j (One t p s c cs 0) f g)
  act_acts (One t p s c cs (suc zero)) f q g r w = locked (One t p s c cs 1) (One t p s c cs 0) 1 refl refl (omega arith) r (gives_up ws j (One t p s c cs 1) f g)
  act_acts (One t p s c cs (suc (suc zero))) f q g r w = locked (One t p s c cs 2) (One t p s c cs 0) 2 refl refl (omega arith) r (gives_up ws j (One t p s c cs 2) f g)
  act_acts (One t p s c cs (suc (suc (suc zero)))) f q g r w =
      mark_acts ws h fine clean j k (lock (One t p s c cs 0) 3) (One t p s c cs 4) t 3 r w (omega arith) (λ b. kill_one b)
  act_acts (One t p s c cs (suc (suc (suc (suc zero))))) f q g r w =
      link_acts ws h fine clean j k (killed (One t p s c cs 0)) (One t p s c cs 5) p s c r w (λ b. pass_one b)
  act_acts (One t p s c cs (suc (suc (suc (suc (suc zero)))))) f q g r w = end_acts ws h fine clean j k (One t p s c cs 5) (One t p s c cs 0) 5 (gives_up ws j (One t p s c cs 5) f g)
  act_acts (One t p s c cs (suc (suc (suc (suc (suc (suc n))))))) f q g r w = absurd (omega (arith, f.1))
  act_acts (UnderData t p s zero) f q g r w = locked (UnderData t p s 0) (UnderData t p s 0) 0 refl refl (omega arith) r (gives_up ws j (UnderData t p s 0) f g)
  act_acts (UnderData t p s (suc zero)) f q g r w = locked (UnderData t p s 1) (UnderData t p s 0) 1 refl refl (omega arith) r (gives_up ws j (UnderData t p s 1) f g)
  act_acts (UnderData t p s (suc (suc zero))) f q g r w = locked (UnderData t p s 2) (UnderData t p s 0) 2 refl refl (omega arith) r (gives_up ws j (UnderData t p s 2) f g)
  act_acts (UnderData t p s (suc (suc (suc zero)))) f q g r w =
      mark_acts ws h fine clean j k (lock (UnderData t p s 0) 3) (UnderData t p s 4) t 3 r w (omega arith) (λ b. kill_leaf b)
  act_acts (UnderData t p s (suc (suc (suc (suc zero))))) f q g r w =
      link_acts ws h fine clean j k (killed (UnderData t p s 0)) (UnderData t p s 5) p s 0 r w (λ b. cut_leaf b)
  act_acts (UnderData t p s (suc (suc (suc (suc (suc zero)))))) f q g r w = end_acts ws h fine clean j k (UnderData t p s 5) (UnderData t p s 0) 5 (gives_up ws j (UnderData t p s 5) f g)
  act_acts (UnderData t p s (suc (suc (suc (suc (suc (suc n))))))) f q g r w = absurd (omega (arith, f.1))
  act_acts (UnderRouting t p s a up o zero) f q g r w = locked (UnderRouting t p s a up o 0) (UnderRouting t p s a up o 0) 0 refl refl (omega arith) r (gives_up ws j (UnderRouting t p s a up o 0) f g)
  act_acts (UnderRouting t p s a up o (suc zero)) f q g r w = locked (UnderRouting t p s a up o 1) (UnderRouting t p s a up o 0) 1 refl refl (omega arith) r (gives_up ws j (UnderRouting t p s a up o 1) f g)
  act_acts (UnderRouting t p s a up o (suc (suc zero))) f q g r w = locked (UnderRouting t p s a up o 2) (UnderRouting t p s a up o 0) 2 refl refl (omega arith) r (gives_up ws j (UnderRouting t p s a up o 2) f g)
  act_acts (UnderRouting t p s a up o (suc (suc (suc zero)))) f q g r w = locked (UnderRouting t p s a up o 3) (UnderRouting t p s a up o 0) 3 refl refl (omega arith) r (gives_up ws j (UnderRouting t p s a up o 3) f g)
  act_acts (UnderRouting t p s a up o (suc (suc (suc (suc zero))))) f q g r w = locked (UnderRouting t p s a up o 4) (UnderRouting t p s a up o 0) 4 refl refl (omega arith) r (gives_up ws j (UnderRouting t p s a up o 4) f g)
  act_acts (UnderRouting t p s a up o (suc (suc (suc (suc (suc zero)))))) f q g r w =
      mark_acts ws h fine clean j k (lock (UnderRouting t p s a up o 0) 5) (UnderRouting t p s a up o 6) t 3 r w (omega arith) (λ b. kill_under b)
  act_acts (UnderRouting t p s a up o (suc (suc (suc (suc (suc (suc zero))))))) f q g r w =
      mark_acts ws h fine clean j k (killed (UnderRouting t p s a up o 0)) (UnderRouting t p s a up o 7) p 3 r w (omega arith) (λ b. kill_routing b)
  act_acts (UnderRouting t p s a up o (suc (suc (suc (suc (suc (suc (suc zero)))))))) f q g r w =
      link_acts ws h fine clean j k (killed_both (UnderRouting t p s a up o 0)) (UnderRouting t p s a up o 8) a up o r w (λ b. pass_routing b)
  act_acts (UnderRouting t p s a up o (suc (suc (suc (suc (suc (suc (suc (suc zero))))))))) f q g r w = end_acts ws h fine clean j k (UnderRouting t p s a up o 8) (UnderRouting t p s a up o 0) 8 (gives_up ws j (UnderRouting t p s a up o 8) f g)
  act_acts (UnderRouting t p s a up o (suc (suc (suc (suc (suc (suc (suc (suc (suc n)))))))))) f q g r w = absurd (omega (arith, f.1))
