-- THE STORES THAT DELETE A SLOT: what is known makes each a store under its locks, and leads to what is known after.
-- Assumes nothing.
use mathlib.Core.Path.{◌≡◌, refl, ap}
use mathlib.Core.Bool.{Bool, true, false, not}
use mathlib.Core.Logic.{◌⊎◌, inl, inr, ◌≢◌}
use Prim.Native.Nat.{ℕ, ◌<◌}
use native.Mathlib.Omega.{arith}
use Rattle.table.specs.declared.Which.TheVariants.{Edge}
use Rattle.tree.specs.Reach.{Tab}
use Rattle.protocol.specs.Plan.{plan}
use Rattle.protocol.specs.declared.Kind.{Kind}
use Rattle.protocol.specs.declared.Phase.TheVariants.{One, UnderData, UnderRouting}
use Rattle.protocol.proofs.Words.{SetState}
use Rattle.protocol.proofs.Paths.Shape.{Shape}
use Rattle.protocol.proofs.Together.Locks.{Among}
use Rattle.protocol.proofs.Together.Facts.{is_kid, is_key, leads, in_state, no_child, alive_by, hold, state, own}
use Rattle.protocol.proofs.Together.Wishes.{locks}
use Rattle.protocol.proofs.Together.Stages.{Stage, lock, killed, killed_both, held_in, Knows}
use Rattle.protocol.proofs.Together.Turns.{both, apart, key_root, minus, none, owned_state, turn_minus, turn_none}
use Rattle.protocol.proofs.Together.Ready.{one_ready, leaf_ready, under_ready}
use Rattle.protocol.proofs.Together.Puts.{After, stated, kill}

-- on each side of a slot that is deleted there is no child, or the edge is held
abbrev Shut : Tab → Stage → ℕ → Bool → Type 0
Shut A p t y = (A.link t y ≡ 0) ⊎ ((q : Bool) × Among (held_in p) (hold t (Edge y) q))

module _ {A B : Tab} {rho : ℕ → ℕ} (h : Shape A rho) where
  pub kill_one_lem : (j : Kind) (k t p : ℕ) (s : Bool) (c : ℕ) (cs : Bool) → SetState A B t 3 → k < A.key 0 → Knows A rho j k (lock (One t p s c cs 0) 3)
      → After A B rho h j k (lock (One t p s c cs 0) 3) (killed (One t p s c cs 0)) minus
  unfolding locks plan
  kill_one_lem j k t p s c cs b l q =
      let (e, pt, c0, f, g, v, d, o) = one_ready A rho j k t p s c cs q in
      let x = kill h b l e.1 d.1 in
      let away = (apart h s pt.0 g.1 (key_root h l e.1)).0 in
      let f1 = own x h (leads t cs c) tt f in
      let f2 = own x h (leads p s t) tt g in
      let f3 = own x h (alive_by p s) away v in
      let f5 = own x h (no_child t (not cs)) tt o in
      let f6 = own x h (is_key t k) tt e in
      let f7 = own x h (is_kid c) tt c0 in
      record {
        store = state t 3 x (inr (inr (inl refl))) (λ i. both (Shut A (lock (One t p s c cs 0) 3) t) cs (inr (_, inl refl)) (inl o.1));
        knows = (f1, (f2, (f3, (((λ i. omega (arith, b.there)), b.there), (f5, (f6, (f7, tt)))))));
        owned = owned_state x h (lock (One t p s c cs 0) 3) (killed (One t p s c cs 0)) (λ v. refl) (λ y i. absurd i);
        turn = turn_minus x h k e.1 d.1 (omega arith);
      }

  pub kill_leaf_lem : (j : Kind) (k t p : ℕ) (s : Bool) → SetState A B t 3 → k < A.key 0 → Knows A rho j k (lock (UnderData t p s 0) 3)
      → After A B rho h j k (lock (UnderData t p s 0) 3) (killed (UnderData t p s 0)) minus
  unfolding locks plan
  kill_leaf_lem j k t p s b l q =
      let (e, pt, g, d, o1, o2, i) = leaf_ready A rho j k t p s q in
      let x = kill h b l e.1 d.1 in
      let away = (apart h s pt.0 g.1 (key_root h l e.1)).0 in
      let f1 = own x h (leads p s t) tt g in
      let f3 = own x h (no_child t true) tt o1 in
      let f4 = own x h (no_child t false) tt o2 in
      let f5 = own x h (in_state p 1) away i in
      let f6 = own x h (is_key t k) tt e in
      record {
        store = state t 3 x (inr (inl refl)) (λ i. both (Shut A (lock (UnderData t p s 0) 3) t) true (inl o1.1) (inl o2.1));
        knows = (f1, (((λ i. omega (arith, b.there)), b.there), (f3, (f4, (f5, (f6, tt))))));
        owned = owned_state x h (lock (UnderData t p s 0) 3) (killed (UnderData t p s 0)) (λ v. refl) (λ y i. absurd i);
        turn = turn_minus x h k e.1 d.1 (omega arith);
      }

  pub kill_under_lem : (j : Kind) (k t p : ℕ) (s : Bool) (a : ℕ) (d : Bool) (o : ℕ) → SetState A B t 3 → k < A.key 0
      → Knows A rho j k (lock (UnderRouting t p s a d o 0) 5)
      → After A B rho h j k (lock (UnderRouting t p s a d o 0) 5) (killed (UnderRouting t p s a d o 0)) minus
  unfolding locks plan
  kill_under_lem j k t p s a d o b l q =
      let (e, pt, ap', o0, g, sd, o1, o2, ot, up, av, ps) = under_ready A rho j k t p s a d o q in
      let ps1 = ps.1 in
      let x = kill h b l e.1 sd.1 in
      let near = apart h s pt.0 g.1 (key_root h l e.1) in
      let far = apart h d ap'.0 up.1 (λ i. (let f = ap A.state i in omega (arith, h.root_data))) in
      let away : a ≢ t = λ i. (let f = ap rho i in let u = near.1 in let u' = far.1 in omega arith) in
      let f1 = own x h (leads p s t) tt g in
      let f3 = own x h (no_child t true) tt o1 in
      let f4 = own x h (no_child t false) tt o2 in
      let f5 = own x h (leads p (not s) o) tt ot in
      let f6 = own x h (leads a d p) tt up in
      let f7 = own x h (alive_by a d) away av in
      let f8 = own x h (in_state p 2) near.0 ps in
      let f9 = own x h (is_key t k) tt e in
      let f10 = own x h (is_kid o) tt o0 in
      record {
        store = state t 3 x (inr (inl refl)) (λ i. both (Shut A (lock (UnderRouting t p s a d o 0) 5) t) true (inl o1.1) (inl o2.1));
        knows = (f1, (((λ i. omega (arith, b.there)), b.there), (f3, (f4, (f5, (f6, (f7, (f8, (f9, (f10, tt))))))))));
        owned = owned_state x h (lock (UnderRouting t p s a d o 0) 5) (killed (UnderRouting t p s a d o 0)) (λ v. refl) (λ y i. absurd i);
        turn = turn_minus x h k e.1 sd.1 (omega arith);
      }

  -- the routing parent: both its edges are held
  pub kill_routing_lem : (j : Kind) (k t p : ℕ) (s : Bool) (a : ℕ) (d : Bool) (o : ℕ) → SetState A B p 3 → k < A.key 0
      → Knows A rho j k (killed (UnderRouting t p s a d o 0))
      → After A B rho h j k (killed (UnderRouting t p s a d o 0)) (killed_both (UnderRouting t p s a d o 0)) none
  unfolding locks plan
  kill_routing_lem j k t p s a d o b l (g, (sd, (o1, (o2, (ot, (up, (av, (ps, (e, (o0, z)))))))))) =
      let ps1 = ps.1 in
      let sd1 = sd.1 in
      let p0 : p ≢ 0 = λ i. (let f = ap A.state i in omega (arith, h.root_data)) in
      let x = stated h b (omega arith) p0 (omega arith) (λ i f. absurd (omega arith)) in
      let tp : t ≢ p = λ i. (let f = ap A.state i in omega arith) in
      let away = (apart h d up.0 up.1 p0).0 in
      let f1 = own x h (leads p s t) tt g in
      let f2 = own x h (in_state t 3) tp sd in
      let f3 = own x h (no_child t true) tt o1 in
      let f4 = own x h (no_child t false) tt o2 in
      let f5 = own x h (leads p (not s) o) tt ot in
      let f6 = own x h (leads a d p) tt up in
      let f7 = own x h (alive_by a d) away av in
      let f9 = own x h (is_key t k) tt e in
      let f10 = own x h (is_kid o) tt o0 in
      record {
        store = state p 3 x (inr (inr (inr (inr (inl refl)))))
            (λ i. both (Shut A (killed (UnderRouting t p s a d o 0)) p) s (inr (_, inl refl)) (inr (_, inr (inr (inl refl)))));
        knows = (f1, (f2, (f3, (f4, (f5, (f6, (f7, (((λ i. omega (arith, b.there)), b.there), (f9, (f10, tt))))))))));
        owned = owned_state x h (killed (UnderRouting t p s a d o 0)) (killed_both (UnderRouting t p s a d o 0)) (λ v. inr refl) (λ y i. inl i);
        turn = turn_none x h k ps.1 (omega arith);
      }
