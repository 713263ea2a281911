-- THE INVARIANT, and that every move of every worker keeps it.
-- Assumes nothing.
use mathlib.Core.Path.{◌≡◌, refl, sym, ap, ◌∙◌, subst}
use mathlib.Core.Bool.{true}
use mathlib.Core.List.{List, [], ◌∷◌, ◌++◌}
use mathlib.Core.Logic.{⊎_elim, ◌≢◌}
use Prim.Native.Nat.{ℕ, suc, ◌≤◌, ◌<◌}
use native.Mathlib.Omega.{arith}
use native.Mathlib.Decide.{ℕ_discrete}
use Rattle.table.specs.declared.Which.{Which}
use Rattle.tree.specs.Reach.{Tab, top, Reached, Has}
use Rattle.protocol.proofs.Paths.Shape.{Shape, reached_some}
use lib.ListN.{length, get_or, set, length-set}
use lib.Seq.{get_or-set_same, get_or-set_other}
use Rattle.protocol.proofs.Together.Locks.{Locked, alone, same_locks, take_lock_lem, drop_all}
use Rattle.protocol.proofs.Together.Facts.{hold, Excl, rho_after, shape_store, key_store}
use Rattle.protocol.proofs.Together.Wishes.{held_of}
use Rattle.protocol.proofs.Together.Stages.{walk, lock, Doing, idle, busy, held, Owns, Fine, Fits, Fit, Working}
use Rattle.protocol.proofs.Together.Known.{fine_store}
use Rattle.protocol.proofs.Together.Moves.{quiet, given, given_held, next_lock, begin}
use Rattle.protocol.proofs.Together.Puts.{put_held}
use Rattle.protocol.proofs.Together.Passes.{put}
use Rattle.protocol.proofs.Together.Bound.{Quick}
use Rattle.protocol.proofs.Together.Roles.{RolesOf, roles_put}
use Rattle.protocol.proofs.Together.Machine.{Answer, Move, start, quietly, takes, again, ends, puts}
use Rattle.protocol.proofs.Together.Records.{fit_walk, fit_quiet, fit_put, fine_mono, quiet_roles, quiet_owns, quiet_held, again_owns, end_owns, put_ahead, quick_mono, quick_store, begin_quick, again_quick, quiet_quick, put_quick}

-- O a k: k was out at some moment since worker a's start
-- T a: the steps that worker a has made since its start; n: the number of slots
pub record Inv (n : ℕ) (A : Tab) (L : ℕ → Which → ℕ) (ws : List Doing) (O : ℕ → ℕ → Type 0) (T : ℕ → ℕ) : Type 0 where
  pub rho : ℕ → ℕ
  pub shape : Shape A rho
  pub fine : (a : ℕ) → a < length ws → Fine A rho (O a) (get_or ws a idle)
  pub fit : (a : ℕ) → a < length ws → Fit (get_or ws a idle)
  pub quick : (a : ℕ) → a < length ws → Quick n A rho (T a) (get_or ws a idle)
  pub roles : (a : ℕ) → a < length ws → RolesOf n (get_or ws a idle)
  pub locked : Locked held idle L ws
  pub owned : (x : ℕ) → A.state x ≡ 3 → Reached A x → (a : ℕ) × (a < length ws) × Owns (get_or ws a idle) x

pub excl : {L : ℕ → Which → ℕ} {ws : List Doing} → Locked held idle L ws → (a b : ℕ) → a ≢ b → a < length ws → b < length ws
    → Excl (held (get_or ws a idle)) (held (get_or ws b idle))
excl k a b n la lb = record {
  ours = λ s l m p q. alone held idle k a b n la lb (hold s l true) (hold s l m) refl refl refl p q;
  theirs = λ s l m p q. alone held idle k b a (λ e. n (sym e)) lb la (hold s l true) (hold s l m) refl refl refl q p;
}

module _ {n : ℕ} {A : Tab} {L : ℕ → Which → ℕ} {ws : List Doing} {O : ℕ → ℕ → Type 0} {T : ℕ → ℕ} (v : Inv n A L ws O T) (j : ℕ) (lj : j < length ws) where
  -- worker j becomes w
  by_one : (P : ℕ → Doing → Type 0) (w : Doing) → P j w → ((a : ℕ) → a ≢ j → a < length ws → P a (get_or ws a idle))
      → (a : ℕ) → a < length (set ws j w) → P a (get_or (set ws j w) a idle)
  by_one P w p q a l = go (ℕ_discrete a j)
    where
      go : Dec (a ≡ j) → P a (get_or (set ws j w) a idle)
      go (yes e) = rw (e, get_or-set_same ws j w idle lj) p
      go (no e) = rw (get_or-set_other ws j a w idle e) (q a e (rw (length-set ws j w) at l))

  -- a slot's owner is found again
  re_own : (w : Doing) (x : ℕ) → (Owns (get_or ws j idle) x → Owns w x) → ((a : ℕ) × (a < length ws) × Owns (get_or ws a idle) x)
      → (a : ℕ) × (a < length (set ws j w)) × Owns (get_or (set ws j w) a idle) x
  re_own w x f (a, l, o) = (a, rw (length-set ws j w) l, go (ℕ_discrete a j))
    where
      go : Dec (a ≡ j) → Owns (get_or (set ws j w) a idle) x
      go (yes e) = rw (e, get_or-set_same ws j w idle lj) (f (rw e at o))
      go (no e) = rw (get_or-set_other ws j a w idle e) o

  -- a move that leaves the table alone
  same_table : (M : ℕ → Which → ℕ) (w : Doing) (N : ℕ → ℕ → Type 0) (S : ℕ → ℕ) → ((a k : ℕ) → a ≢ j → O a k → N a k) → ((a : ℕ) → a ≢ j → S a ≤ T a)
      → Locked held idle M (set ws j w) → Fine A v.rho (N j) w → Fit w → Quick n A v.rho (S j) w → RolesOf n w → ((x : ℕ) → Owns (get_or ws j idle) x → ⊥) → Inv n A M (set ws j w) N S
  same_table M w N S o c k f i q rl e = record {
    rho = v.rho;
    shape = v.shape;
    fine = by_one (λ a u. Fine A v.rho (N a) u) w f (λ a e l. fine_mono A v.rho (get_or ws a idle) (λ i. o a i e) (v.fine a l));
    fit = by_one (λ a u. Fit u) w i (λ a d l. v.fit a l);
    quick = by_one (λ a u. Quick n A v.rho (S a) u) w q (λ a d l. quick_mono n A v.rho (T a) (S a) (get_or ws a idle) (c a d) (v.quick a l));
    roles = by_one (λ a u. RolesOf n u) w rl (λ a d l. v.roles a l);
    locked = k;
    owned = λ x d r. re_own w x (λ i. absurd (e x i)) (v.owned x d r);
  }

  pub move : {B : Tab} {M : ℕ → Which → ℕ} {w : Doing} {r : Answer} (u : Doing) → get_or ws j idle ≡ u → Move A L u B M w r
      → ((x : ℕ) → A.state x ≢ 0 → x < n)
      → (N : ℕ → ℕ → Type 0) → ((a k : ℕ) → a ≢ j → O a k → N a k) → (Working u → (k : ℕ) → O j k → N j k) → ((a k : ℕ) → (Has B k → ⊥) → N a k)
      → (S : ℕ → ℕ) → ((a : ℕ) → a ≢ j → S a ≤ T a) → (Working u → S j ≤ suc (T j)) → ((Working u → ⊥) → S j ≡ 0)
      → Inv n B M (set ws j w) N S
  move u e (start i k l) d N o m z S c t y =
      same_table L (busy i k (walk 0 0 0 true)) N S o c (same_locks held idle L v.locked j (busy i k (walk 0 0 0 true)) lj (λ x q. refl) (sym (ap held e)))
      (begin v.shape i k l (z j)) (fit_walk i)
      (subst (λ (x : ℕ). Quick n A v.rho x (busy i k (walk 0 0 0 true))) (sym (y (λ f. f))) (begin_quick n v.shape i k (let q = d 0 (reached_some v.shape (top refl)) in omega arith))) tt (λ x q. rw e at q)
  move u e (quietly {j = i} {k = k} {p = p} {q = q} t) d N o m z S c s y =
      let f : Fine A v.rho (N j) (busy i k p) = fine_mono A v.rho (busy i k p) (m tt) (rw e at (v.fine j lj)) in
      let g = quiet v.shape (N j k) t f.0 f.1 f.2 in
      same_table L (busy i k q) N S o c (same_locks held idle L v.locked j (busy i k q) lj (λ x w. refl) (quiet_held t ∙ sym (ap held e)))
      (f.0, g.0, g.1) (fit_quiet t (rw e at (v.fit j lj)))
      (quiet_quick n v.shape d (T j) (S j) (s tt) t f.1 (rw e at (v.quick j lj))) (quiet_roles n t) (λ x w. quiet_owns t x (rw e at w))
  move u e (takes {j = i} {k = k} c y M l t s) d N o m z S r q x =
      let f : Fine A v.rho (O j) (busy i k (lock c y)) = rw e at (v.fine j lj) in
      same_table M (busy i k (lock c (suc y))) N S o r
      (take_lock_lem held idle M v.locked j (busy i k (lock c (suc y))) lj (held_of (next_lock c y)) s
      (given_held c y l ∙ ap (λ (w : Doing). held w ++ (held_of (next_lock c y) ∷ [])) (sym e)))
      (f.0, given v.shape i k c y l t f.1, tt) (let g : Fits i (lock c y) = rw e at (v.fit j lj) in (g.0, l)) tt tt (λ x w. rw e at w)
  move u e (again {j = i} {k = k} {p = p} M t s) d N o m z S c y q =
      let f : Fine A v.rho (O j) (busy i k p) = rw e at (v.fine j lj) in
      same_table M (busy i k (walk 0 0 0 true)) N S o c (drop_all held idle M v.locked j (busy i k (walk 0 0 0 true)) lj (rw e s) refl)
      (begin v.shape i k f.0 (z j)) (fit_walk i) (again_quick n A v.rho (S j) t (rw e at (v.fit j lj))) tt (λ x w. again_owns t x (rw e at w))
  move u e (ends {j = i} {k = k} {p = p} M t s) d N o m z S c y q =
      same_table M idle N S o c (drop_all held idle M v.locked j idle lj (rw e s) refl) tt tt tt tt (λ x w. end_owns t x (rw e at w))
  move u e (puts {j = i} {k = k} {p = p} {q = q} B t) d N o m z S c s y =
      let f : Fine A v.rho (O j) (busy i k p) = rw e at (v.fine j lj) in
      let g = put v.shape i t f.0 f.1 in
      let rho' = rho_after g.store v.shape in
      record {
        rho = rho';
        shape = shape_store g.store v.shape;
        fine = by_one (λ a w. Fine B rho' (N a) w) (busy i k q)
            (rw (key_store g.store v.shape 0 (reached_some v.shape (top refl))) f.0, g.knows, put_ahead (N j k) t i)
            (λ a x l. fine_store g.store v.shape (get_or ws a idle) (λ w. o a w x) (z a)
            (rw e at (excl v.locked j a (λ w. x (sym w)) lj l)) (v.fine a l));
        fit = by_one (λ a w. Fit w) (busy i k q) (fit_put t i (rw e at (v.fit j lj))) (λ a x l. v.fit a l);
        quick = by_one (λ a w. Quick n B rho' (S a) w) (busy i k q) (put_quick n rho' (S j) i t)
            (λ a x l. quick_store n (O a) g.store v.shape (T a) (S a) (get_or ws a idle) (c a x) (v.fine a l) (v.quick a l));
        roles = by_one (λ a w. RolesOf n w) (busy i k q) (roles_put n v.rho d i t f.0 f.1 (rw e at (v.roles j lj))) (λ a x l. v.roles a l);
        locked = same_locks held idle L v.locked j (busy i k q) lj (λ x w. refl) (put_held t ∙ sym (ap held e));
        owned = λ x w r. ⊎_elim
            (λ a. (j, rw (length-set ws j (busy i k q)) lj, rw (get_or-set_same ws j (busy i k q) idle lj) a))
            (λ a. re_own (busy i k q) x (λ b. a.2 (rw e at b)) (v.owned x a.0 a.1))
            (g.owned x w r);
      }

module _ {n : ℕ} {A : Tab} {L : ℕ → Which → ℕ} {ws : List Doing} {O : ℕ → ℕ → Type 0} {T : ℕ → ℕ} (v : Inv n A L ws O T) where
  pub inv_mono : (N : ℕ → ℕ → Type 0) (S : ℕ → ℕ) → ((a k : ℕ) → O a k → N a k) → ((a : ℕ) → S a ≤ T a) → Inv n A L ws N S
  inv_mono N S o t = record {
    rho = v.rho;
    shape = v.shape;
    fine = λ a l. fine_mono A v.rho (get_or ws a idle) (o a) (v.fine a l);
    fit = v.fit;
    quick = λ a l. quick_mono n A v.rho (T a) (S a) (get_or ws a idle) (t a) (v.quick a l);
    roles = v.roles;
    locked = v.locked;
    owned = v.owned;
  }
