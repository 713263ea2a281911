-- THE STEPS OF A WORKER THAT STORE NOTHING: beginning at the root, walking, looking at previous, a lock given. Each leads from
-- what is known to what is known.
-- Assumes nothing.
use mathlib.Core.Path.{◌≡◌, refl, sym, ap, ◌∙◌}
use mathlib.Core.Bool.{Bool, true, false, not, true≢false, false≢true}
use mathlib.Core.List.{List, [], ◌∷◌, ◌++◌}
use mathlib.Core.Logic.{inl, inr, ⊎_elim, ◌≢◌}
use Prim.Native.Nat.{ℕ, zero, suc, ◌+◌, ◌<◌}
use native.Mathlib.Omega.{arith}
use native.Mathlib.Decide.{ℕ_discrete}
use lib.ListN.{length, get_or, take}
use lib.Seq.{take-suc}
use borrow.Author.Tests.{lt-ltb}
use Rattle.table.specs.declared.Which.TheVariants.{State}
use Rattle.tree.specs.Reach.{Tab, top, Has}
use Rattle.tree.specs.Walk.{dir, next, here, Seen}
use Rattle.tree.proofs.Paths.{via, stop_key, stop_none, step_on}
use Rattle.protocol.specs.Plan.{plan}
use Rattle.protocol.specs.declared.Kind.{Kind}
use Rattle.protocol.specs.declared.Kind.TheVariants.{Lookup, Insert, Remove}
use Rattle.protocol.specs.declared.Links.TheVariants.{Any}
use Rattle.protocol.specs.declared.Phase.{Phase}
use Rattle.protocol.specs.declared.Phase.TheVariants.{Walk, OnRouting, New, Two, One, Leaf, UnderData, UnderRouting}
use Rattle.protocol.proofs.Paths.Shape.{Shape, reached_some, set_seen, seen_set}
use Rattle.protocol.proofs.Together.Locks.{Held}
use Rattle.protocol.proofs.Together.Facts.{turns, below, nears, Holds}
use Rattle.protocol.proofs.Together.Wishes.{All, All_at, All_snoc, Wish, wish, locks, held_of, helds, Meets, Got, gain}
use Rattle.protocol.proofs.Together.Stages.{Stage, walk, look, lock, busy, held_in, base, Knows, Ahead, Fine}

pub not_same : (s : Bool) → s ≡ not s → ⊥
not_same true e = true≢false e
not_same false e = false≢true e

-- the next lock of a case
abbrev pub nowish : Wish
nowish = wish 0 State false 0 Any

abbrev pub next_lock : Phase → ℕ → Wish
next_lock c i = get_or (locks c) i nowish

-- whether a key is ahead can be decided: the rank bounds the walk
module _ {A : Tab} {rho : ℕ → ℕ} (h : Shape A rho) where
  pub dec_seen : (m k x : ℕ) → A.state x ≢ 0 → h.cap < rho x + m → Dec (Seen A k x)
  dec_seen zero k x n l = absurd (omega (arith, h.capped x))
  dec_seen (suc m) k x n l = go (ℕ_discrete (A.key x) k) (ℕ_discrete (A.state x) 1) (ℕ_discrete (next A k x) 0) (λ z i j. dec_seen m k z i j)
    where
      go : Dec (A.key x ≡ k) → Dec (A.state x ≡ 1) → Dec (next A k x ≡ 0)
          → ((z : ℕ) → A.state z ≢ 0 → h.cap < rho z + m → Dec (Seen A k z)) → Dec (Seen A k x)
      go (yes e) (yes f) g r = yes (x, here, e, f)
      go (yes e) (no f) g r = no (λ s. f (ap A.state (stop_key e s.1) ∙ s.3))
      go (no e) f (yes g) r = no (λ s. e (ap A.key (stop_none g s.1) ∙ s.2))
      go (no e) f (no g) r = more (r (next A k x) q.0 (omega (arith, q.1)))
        where
          q : (A.state (next A k x) ≢ 0) × (rho x < rho (next A k x))
          q = h.rank x (next A k x) (dir A k x) n refl g

          more : Dec (Seen A k (next A k x)) → Dec (Seen A k x)
          more (yes s) = yes (s.0, via (next A k x) (λ z. e (sym z)) refl g s.1, s.2, s.3)
          more (no s) = no (λ u. ⊎_elim (λ z. e (ap A.key z ∙ u.2)) (λ z. s (u.0, z, u.2, u.3)) (step_on (next A k x) refl u.1))

  root_some : A.state 0 ≢ 0
  root_some = reached_some h (top refl)

  pub dec_set : (k : ℕ) → k < A.key 0 → Dec (Has A k)
  dec_set k l = go (dec_seen (suc h.cap) k 0 root_some (omega arith))
    where
      go : Dec (Seen A k 0) → Dec (Has A k)
      go (yes s) = yes (seen_set h l s)
      go (no s) = no (λ i. s (set_seen h i))

  -- start and restart: at the root
  at_root_lem : Holds A rho (nears 0 0)
  at_root_lem = (root_some, (root_some, (λ m. absurd (m refl)), (λ e. refl)))

  root_turn : (k : ℕ) → k < A.key 0 → Holds A rho (turns 0 k true)
  root_turn k l = (root_some, lt-ltb k (A.key 0) l)

  begin_knows : (j : Kind) (k : ℕ) → k < A.key 0 → Knows A rho j k (walk 0 0 0 true)
  begin_knows Lookup k l = ((root_some, tt), (at_root_lem, (at_root_lem, (root_turn k l, tt))))
  begin_knows Insert k l = ((root_some, λ y t m. t), (at_root_lem, (at_root_lem, (root_turn k l, tt))))
  begin_knows Remove k l = ((root_some, tt), (at_root_lem, (at_root_lem, (root_turn k l, tt))))

  begin_ahead : {O : Type 0} (j : Kind) (k : ℕ) → k < A.key 0 → ((Has A k → ⊥) → O) → Ahead A O j k (walk 0 0 0 true)
  begin_ahead {O} j k l o = go j (dec_set k l)
    where
      go : (j : Kind) → Dec (Has A k) → Ahead A O j k (walk 0 0 0 true)
      go Lookup (yes i) = inl (set_seen h i)
      go Lookup (no i) = inr (o i)
      go Insert i = tt
      go Remove (yes i) = inl (set_seen h i)
      go Remove (no i) = inr (o i)

  pub begin : {O : ℕ → Type 0} (j : Kind) (k : ℕ) → k < A.key 0 → ((k : ℕ) → (Has A k → ⊥) → O k) → Fine A rho O (busy j k (walk 0 0 0 true))
  begin j k l o = (l, begin_knows j k l, begin_ahead j k l (o k))

-- STEPS THAT CHANGE NEITHER TABLE NOR LOCKS
pub data Quiet (A : Tab) (k : ℕ) : Kind → Stage → Stage → Type 0 where
  go_on : {j : Kind} {a p b : ℕ} {s : Bool} (z : ℕ) → k ≢ A.key a → next A k a ≡ z → z ≢ 0 → Quiet A k j (walk a p b s) (walk z a p (dir A k a))
  ins_routing : {a p b : ℕ} {s : Bool} → A.key a ≡ k → A.state a ≡ 2 → Quiet A k Insert (walk a p b s) (lock (OnRouting a 0) 0)
  ins_none : {a p b : ℕ} {s : Bool} → k ≢ A.key a → next A k a ≡ 0 → Quiet A k Insert (walk a p b s) (lock (New a (dir A k a) 0) 0)
  rem_two : {a p b : ℕ} {s : Bool} → A.key a ≡ k → A.state a ≡ 1 → Quiet A k Remove (walk a p b s) (lock (Two a 0) 0)
  rem_one : {a p b : ℕ} {s : Bool} (cs : Bool) (c : ℕ) → A.key a ≡ k → A.state a ≡ 1 → A.link a cs ≡ c → c ≢ 0
      → Quiet A k Remove (walk a p b s) (lock (One a p s c cs 0) 0)
  rem_leaf : {a p b : ℕ} {s : Bool} → A.key a ≡ k → A.state a ≡ 1 → Quiet A k Remove (walk a p b s) (look a p b s)
  look_data : {t p b : ℕ} {s : Bool} → A.state p ≡ 1 → Quiet A k Remove (look t p b s) (lock (UnderData t p s 0) 0)
  look_routing : {t p b : ℕ} {s : Bool} (up : Bool) (o : ℕ) → A.state p ≡ 2 → A.link p (not s) ≡ o → o ≢ 0
      → Quiet A k Remove (look t p b s) (lock (UnderRouting t p s b up o 0) 0)

module _ {A : Tab} {rho : ℕ → ℕ} (h : Shape A rho) where
  on_to : (a z : ℕ) → A.state a ≢ 0 → (A.state z ≢ 0) × (rho a < rho z) → z ≢ 0 → Holds A rho (nears a z)
  on_to a z n r m = (n, (r.0, (λ i. r.1), (λ e. absurd (m e))))

  -- previous is below the slot with the key
  under : {k : ℕ} (p a : ℕ) → k < A.key 0 → A.key a ≡ k → Holds A rho (nears p a) → Holds A rho (below p a)
  under p a l e q = (q.0, (q.1.0, q.1.1 (λ z. let f = ap A.key z in omega arith)))

  walk_on_lem : (j : Kind) (k a p b : ℕ) (s : Bool) (z : ℕ) → k ≢ A.key a → next A k a ≡ z → z ≢ 0 → Knows A rho j k (walk a p b s)
      → Knows A rho j k (walk z a p (dir A k a))
  walk_on_lem Lookup k a p b s z n e m q =
      let r = h.rank a z (dir A k a) q.0.0 e m in
      ((r.0, tt), (on_to a z q.0.0 r m, (q.1.0, ((q.0.0, refl), tt))))
  walk_on_lem Insert k a p b s z n e m q =
      let r = h.rank a z (dir A k a) q.0.0 e m in
      ((r.0, λ y t l. q.0.1 y (via z n e m t) l), (on_to a z q.0.0 r m, (q.1.0, ((q.0.0, refl), tt))))
  walk_on_lem Remove k a p b s z n e m q =
      let r = h.rank a z (dir A k a) q.0.0 e m in
      ((r.0, tt), (on_to a z q.0.0 r m, (q.1.0, ((q.0.0, refl), tt))))

  pub seen_on : {k a : ℕ} (z : ℕ) → k ≢ A.key a → next A k a ≡ z → Seen A k a → Seen A k z
  seen_on z n e (y, t, f, s) = (y, ⊎_elim (λ u. absurd (n (sym f ∙ ap A.key (sym u)))) (λ u. u) (step_on z e t), f, s)

  ahead_on : (O : Type 0) (j : Kind) (k a p b : ℕ) (s : Bool) (z : ℕ) → k ≢ A.key a → next A k a ≡ z → Ahead A O j k (walk a p b s)
      → Ahead A O j k (walk z a p (dir A k a))
  ahead_on O Lookup k a p b d z n e (inl s) = inl (seen_on z n e s)
  ahead_on O Lookup k a p b d z n e (inr s) = inr s
  ahead_on O Insert k a p b d z n e s = tt
  ahead_on O Remove k a p b d z n e (inl s) = inl (seen_on z n e s)
  ahead_on O Remove k a p b d z n e (inr s) = inr s

  pub quiet : (O : Type 0) {j : Kind} {k : ℕ} {p q : Stage} → Quiet A k j p q → k < A.key 0 → Knows A rho j k p → Ahead A O j k p
      → Knows A rho j k q × Ahead A O j k q
  quiet O {j} {k} (go_on {a = a} {p = p} {b = b} {s = d} z n e m) lt w s = (walk_on_lem j k a p b d z n e m w, ahead_on O j k a p b d z n e s)
  quiet O (ins_routing e f) lt w s = ((((w.0.0, e), tt), tt), tt)
  quiet O (ins_none {a = a} n e) lt w s = ((((w.0.0, refl), ((w.0.0, n), ((w.0.0, λ l. w.0.1 a here l), tt))), tt), tt)
  quiet O (rem_two e f) lt w s = ((((w.0.0, e), tt), tt), tt)
  quiet O (rem_one {a = a} {p = p} cs c e f l m) lt w s =
      let r = h.rank a c cs w.0.0 l m in
      ((((w.0.0, e), (under p a lt e w.1.0, ((r.0, m), ((w.0.0, r), tt)))), tt), tt)
  quiet O (rem_leaf {a = a} {p = p} e f) lt w s = (((w.0.0, e), (under p a lt e w.1.0, (w.1.1.0, (w.1.1.1.0, tt)))), tt)
  quiet O (look_data f) lt w s = (((w.0, (w.1.0, tt)), tt), tt)
  quiet O {k = k} (look_routing {p = p} {b = b} {s = sd} up o f l m) lt w s =
      let r = h.rank p o (not sd) w.1.0.0 l m in
      let g = w.1.1.0 in
      let d = w.1.1.1.0.1 in
      let p0 : p ≢ 0 = λ e. (let z = ap A.state e in omega (arith, h.root_data)) in
      let e = h.edge p o (not sd) (h.alive p (omega arith)) l m in
      let other : k ≢ A.key o = λ z. not_same sd (sym d ∙ ap (λ (i : ℕ). dir A i p) z ∙ e.side) in
      (((w.0, (w.1.0, ((g.0, (g.1.0, g.1.1 p0)), ((r.0, m), ((w.1.0.0, r), ((r.0, other), ((w.1.0.0, p0), tt))))))), tt), tt)

  -- a lock given
  pub noted : (k : ℕ) (c : Phase) → All (Holds A rho) (base k c) → All (λ l. A.state l.slot ≢ 0) (locks c)
  unfolding locks plan
  noted k (Walk at prev before side up) q = tt
  noted k (OnRouting t n) q = (q.0.0, tt)
  noted k (New p s n) q = (q.0.0, (q.0.0, tt))
  noted k (Two t n) q = (q.0.0, tt)
  noted k (One t p s c cs n) q = (q.0.0, (q.1.0.0, (q.0.0, tt)))
  noted k (Leaf this prev side before up) q = tt
  noted k (UnderData t p s n) q = (q.1.0.0, (q.0.0, (q.1.0.0, tt)))
  noted k (UnderRouting t p s a up o n) q = (q.1.0.0, (q.0.0, (q.1.0.0, (q.1.1.0.0, (q.1.0.0, tt)))))

  pub given : (j : Kind) (k : ℕ) (c : Phase) (i : ℕ) → i < length (locks c) → Meets A (next_lock c i) → Knows A rho j k (lock c i) → Knows A rho j k (lock c (suc i))
  given j k c i l m q = (
    q.0,
    rw (take-suc (locks c) i nowish l)
        (All_snoc (Got A rho) (take i (locks c)) (next_lock c i) q.1
        (gain h (next_lock c i) (All_at (λ x. A.state x.slot ≢ 0) (locks c) nowish i l (noted k c q.0)) m)),
  )

helds_snoc : (ls : List Wish) (l : Wish) → helds (ls ++ (l ∷ [])) ≡ helds ls ++ (held_of l ∷ [])
helds_snoc [] l = refl
helds_snoc (x ∷ xs) l = ap (λ (r : List Held). held_of x ∷ r) (helds_snoc xs l)

pub given_held : (c : Phase) (i : ℕ) → i < length (locks c) → held_in (lock c (suc i)) ≡ held_in (lock c i) ++ (held_of (next_lock c i) ∷ [])
given_held c i l = ap helds (take-suc (locks c) i nowish l) ∙ helds_snoc (take i (locks c)) (next_lock c i)
