-- WHAT EACH MOVE DOES TO THE RECORD ALONE: its kind and stage go together, what it owns, whether it is ahead, how far a lookup
-- still has to go.
-- Assumes nothing.
use mathlib.Core.Path.{◌≡◌, refl}
use mathlib.Core.Bool.{true}
use mathlib.Core.List.{List}
use mathlib.Core.Logic.{inl, inr, ◌≢◌}
use Prim.Native.Nat.{ℕ, suc, ◌≤◌, ◌<◌}
use native.Mathlib.Omega.{arith}
use Rattle.tree.specs.Reach.{Tab}
use Rattle.tree.specs.Walk.{dir}
use Rattle.protocol.specs.declared.Kind.{Kind}
use Rattle.protocol.specs.declared.Kind.TheVariants.{Lookup, Insert, Remove}
use Rattle.protocol.proofs.Paths.Shape.{Shape}
use Rattle.protocol.proofs.Together.Locks.{Held}
use Rattle.protocol.proofs.Together.Facts.{Store, rho_after}
use Rattle.protocol.proofs.Together.Stages.{Stage, walk, look, lock, killed, killed_both, last, Doing, idle, busy, held_in, OwnsIn, Knows, Ahead, Fine, Fits}
use Rattle.protocol.proofs.Together.Moves.{Quiet, go_on, ins_routing, ins_none, rem_two, rem_one, rem_leaf, look_data, look_routing}
use Rattle.protocol.proofs.Together.Puts.{Put, put_data, put_new, put_routing, kill_one, pass_one, kill_leaf, cut_leaf, kill_under, kill_routing, pass_routing}
use Rattle.protocol.proofs.Together.Bound.{Quick, togo_root, togo_step, togo_store}
use Rattle.protocol.proofs.Together.Roles.{Roles}
use Rattle.protocol.proofs.Together.Machine.{Answer, Again, ins_gone, look_gone, look_none, refused, Before, End, look_yes, look_no, ins_no, rem_no, ins_full, last_yes, leave}

pub fit_walk : (j : Kind) → Fits j (walk 0 0 0 true)
fit_walk j = tt

pub fit_quiet : {A : Tab} {k : ℕ} {j : Kind} {p q : Stage} → Quiet A k j p q → Fits j p → Fits j q
fit_quiet (go_on z n e m) f = tt
fit_quiet (ins_routing e f) g = (tt, omega arith)
fit_quiet (ins_none e f) g = (tt, omega arith)
fit_quiet (rem_two e f) g = (tt, omega arith)
fit_quiet (rem_one cs c e f l m) g = (tt, omega arith)
fit_quiet (rem_leaf e f) g = refl
fit_quiet (look_data f) g = (tt, omega arith)
fit_quiet (look_routing up c f l m) g = (tt, omega arith)

pub fit_put : {A B : Tab} {k : ℕ} {p q : Stage} → Put A B k p q → (j : Kind) → Fits j p → Fits j q
fit_put (put_data b) j f = f.0
fit_put (put_new g z b) j f = f.0
fit_put (put_routing b) j f = f.0
fit_put (kill_one b) j f = (f.0, tt)
fit_put (pass_one b) j f = f.0
fit_put (kill_leaf b) j f = (f.0, tt)
fit_put (cut_leaf b) j f = f.0
fit_put (kill_under b) j f = (f.0, tt)
fit_put (kill_routing b) j f = (f.0, tt)
fit_put (pass_routing b) j f = f.0

pub ahead_mono : (A : Tab) {O N : Type 0} (j : Kind) (k : ℕ) (p : Stage) → (O → N) → Ahead A O j k p → Ahead A N j k p
ahead_mono A Lookup k (walk a p b s0) f (inl s) = inl s
ahead_mono A Lookup k (walk a p b s0) f (inr s) = inr (f s)
ahead_mono A Insert k (walk a p b s0) f s = tt
ahead_mono A Remove k (walk a p b s0) f (inl s) = inl s
ahead_mono A Remove k (walk a p b s0) f (inr s) = inr (f s)
ahead_mono A j k (look t p b s0) f s = tt
ahead_mono A j k (lock c i) f s = tt
ahead_mono A j k (killed c) f s = tt
ahead_mono A j k (killed_both c) f s = tt
ahead_mono A j k (last c) f s = tt

pub fine_mono : (A : Tab) (rho : ℕ → ℕ) {O N : ℕ → Type 0} (w : Doing) → ((k : ℕ) → O k → N k) → Fine A rho O w → Fine A rho N w
fine_mono A rho idle f x = tt
fine_mono A rho (busy j k p) f x = (x.0, x.1, ahead_mono A j k p (f k) x.2)

pub quiet_roles : (n : ℕ) {A : Tab} {k : ℕ} {j : Kind} {p q : Stage} → Quiet A k j p q → Roles n q
quiet_roles n (go_on z u e m) = tt
quiet_roles n (ins_routing e f) = tt
quiet_roles n (ins_none e f) = tt
quiet_roles n (rem_two e f) = tt
quiet_roles n (rem_one cs c e f l m) = tt
quiet_roles n (rem_leaf e f) = tt
quiet_roles n (look_data f) = tt
quiet_roles n (look_routing up c f l m) = tt

-- what is not a store starts where nothing is owned
pub quiet_owns : {A : Tab} {k : ℕ} {j : Kind} {p q : Stage} → Quiet A k j p q → (x : ℕ) → OwnsIn p x → ⊥
quiet_owns (go_on z n e m) x o = o
quiet_owns (ins_routing e f) x o = o
quiet_owns (ins_none e f) x o = o
quiet_owns (rem_two e f) x o = o
quiet_owns (rem_one cs c e f l m) x o = o
quiet_owns (rem_leaf e f) x o = o
quiet_owns (look_data f) x o = o
quiet_owns (look_routing up c f l m) x o = o

pub quiet_held : {A : Tab} {k : ℕ} {j : Kind} {p q : Stage} → Quiet A k j p q → held_in q ≡ held_in p
quiet_held (go_on z n e m) = refl
quiet_held (ins_routing e f) = refl
quiet_held (ins_none e f) = refl
quiet_held (rem_two e f) = refl
quiet_held (rem_one cs c e f l m) = refl
quiet_held (rem_leaf e f) = refl
quiet_held (look_data f) = refl
quiet_held (look_routing up c f l m) = refl

pub again_owns : {A : Tab} {k : ℕ} {j : Kind} {p : Stage} → Again A k j p → (x : ℕ) → OwnsIn p x → ⊥
again_owns (ins_gone e f) x o = o
again_owns (look_gone e) x o = o
again_owns (look_none s e f) x o = o
again_owns (refused c i l) x o = o

pub before_owns : (p : Stage) → Before p → (x : ℕ) → OwnsIn p x → ⊥
before_owns (walk a p b s0) f x o = o
before_owns (look t p b s0) f x o = o
before_owns (lock c i) f x o = o
before_owns (killed c) f x o = f
before_owns (killed_both c) f x o = f
before_owns (last c) f x o = o

pub end_owns : {A : Tab} {k : ℕ} {j : Kind} {p : Stage} {o : Answer} → End A k j p o → (x : ℕ) → OwnsIn p x → ⊥
end_owns (look_yes e f) x o = o
end_owns (look_no e) x o = o
end_owns (ins_no e f) x o = o
end_owns (rem_no e) x o = o
end_owns ins_full x o = o
end_owns last_yes x o = o
end_owns (leave {p = p} f) x o = before_owns p f x o

-- after a store nobody walks
pub put_ahead : (O : Type 0) {A B : Tab} {k : ℕ} {p q : Stage} → Put A B k p q → (j : Kind) → Ahead B O j k q
put_ahead O (put_data b) j = tt
put_ahead O (put_new f z b) j = tt
put_ahead O (put_routing b) j = tt
put_ahead O (kill_one b) j = tt
put_ahead O (pass_one b) j = tt
put_ahead O (kill_leaf b) j = tt
put_ahead O (cut_leaf b) j = tt
put_ahead O (kill_under b) j = tt
put_ahead O (kill_routing b) j = tt
put_ahead O (pass_routing b) j = tt

pub quick_mono : (n : ℕ) (A : Tab) (rho : ℕ → ℕ) (s t : ℕ) (w : Doing) → t ≤ s → Quick n A rho s w → Quick n A rho t w
quick_mono n A rho s t idle l q = tt
quick_mono n A rho s t (busy Lookup k (walk a p b s0)) l q = omega arith
quick_mono n A rho s t (busy Insert k (walk a p b s0)) l q = tt
quick_mono n A rho s t (busy Remove k (walk a p b s0)) l q = tt
quick_mono n A rho s t (busy j k (look u p b s0)) l q = tt
quick_mono n A rho s t (busy j k (lock c i)) l q = tt
quick_mono n A rho s t (busy j k (killed c)) l q = tt
quick_mono n A rho s t (busy j k (killed_both c)) l q = tt
quick_mono n A rho s t (busy j k (last c)) l q = tt

pub quick_store : (n : ℕ) (O : ℕ → Type 0) {A B : Tab} {hs : List Held} {rho : ℕ → ℕ} (t : Store A B hs) (h : Shape A rho) (x y : ℕ) (w : Doing) → y ≤ x
    → Fine A rho O w → Quick n A rho x w → Quick n B (rho_after t h) y w
quick_store n O t h x y idle l f q = tt
quick_store n O t h x y (busy Lookup k (walk a p b s0)) l f q = omega (arith, togo_store n a t h f.1.0.0)
quick_store n O t h x y (busy Insert k (walk a p b s0)) l f q = tt
quick_store n O t h x y (busy Remove k (walk a p b s0)) l f q = tt
quick_store n O t h x y (busy j k (look u p b s0)) l f q = tt
quick_store n O t h x y (busy j k (lock c i)) l f q = tt
quick_store n O t h x y (busy j k (killed c)) l f q = tt
quick_store n O t h x y (busy j k (killed_both c)) l f q = tt
quick_store n O t h x y (busy j k (last c)) l f q = tt

pub begin_quick : (n : ℕ) {A : Tab} {rho : ℕ → ℕ} (h : Shape A rho) (j : Kind) (k : ℕ) → 0 < n → Quick n A rho 0 (busy j k (walk 0 0 0 true))
begin_quick n h Lookup k l = omega (arith, togo_root n h l)
begin_quick n h Insert k l = tt
begin_quick n h Remove k l = tt

-- a walk that begins again is no Lookup's
pub again_quick : (n : ℕ) (B : Tab) (rho : ℕ → ℕ) (t : ℕ) {A : Tab} {k : ℕ} {j : Kind} {p : Stage} → Again A k j p → Fits j p → Quick n B rho t (busy j k (walk 0 0 0 true))
again_quick n B rho t (ins_gone e f) i = tt
again_quick n B rho t (look_gone e) i = tt
again_quick n B rho t (look_none s e f) i = tt
again_quick n B rho t (refused {j = Lookup} c y l) i = absurd i.0
again_quick n B rho t (refused {j = Insert} c y l) i = tt
again_quick n B rho t (refused {j = Remove} c y l) i = tt

pub quiet_quick : (n : ℕ) {A : Tab} {rho : ℕ → ℕ} (h : Shape A rho) → ((x : ℕ) → A.state x ≢ 0 → x < n) → (s t : ℕ) → t ≤ suc s
    → {k : ℕ} {j : Kind} {p q : Stage} → Quiet A k j p q → Knows A rho j k p → Quick n A rho s (busy j k p) → Quick n A rho t (busy j k q)
quiet_quick n {A} {rho} h d s t l {k = k} (go_on {j = Lookup} {a = a} z u e m) f q =
    let r = h.rank a z (dir A k a) f.0.0 e m in
    omega (arith, togo_step A rho n a z r.0 r.1 (d z r.0))
quiet_quick n h d s t l (go_on {j = Insert} z u e m) f q = tt
quiet_quick n h d s t l (go_on {j = Remove} z u e m) f q = tt
quiet_quick n h d s t l (ins_routing e f) g q = tt
quiet_quick n h d s t l (ins_none e f) g q = tt
quiet_quick n h d s t l (rem_two e f) g q = tt
quiet_quick n h d s t l (rem_one cs c e f i m) g q = tt
quiet_quick n h d s t l (rem_leaf e f) g q = tt
quiet_quick n h d s t l (look_data f) g q = tt
quiet_quick n h d s t l (look_routing up c f i m) g q = tt

pub put_quick : (n : ℕ) (rho : ℕ → ℕ) (t : ℕ) (j : Kind) {A B : Tab} {k : ℕ} {p q : Stage} → Put A B k p q → Quick n B rho t (busy j k q)
put_quick n rho t j (put_data b) = tt
put_quick n rho t j (put_new f z b) = tt
put_quick n rho t j (put_routing b) = tt
put_quick n rho t j (kill_one b) = tt
put_quick n rho t j (pass_one b) = tt
put_quick n rho t j (kill_leaf b) = tt
put_quick n rho t j (cut_leaf b) = tt
put_quick n rho t j (kill_under b) = tt
put_quick n rho t j (kill_routing b) = tt
put_quick n rho t j (pass_routing b) = tt
