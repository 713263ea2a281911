-- NO SLOT STANDS IN TWO ROLES OF A RECORD: ranks keep them apart until the first store, and then only numbers are concerned.
-- Assumes nothing.
use mathlib.Core.Path.{◌≡◌, sym, ap, ◌∙◌}
use mathlib.Core.Bool.{true}
use mathlib.Core.Logic.{◌≢◌}
use Prim.Native.Nat.{ℕ, ◌<◌}
use native.Mathlib.Omega.{arith}
use Rattle.tree.specs.Reach.{Tab}
use Rattle.protocol.specs.declared.Kind.{Kind}
use Rattle.protocol.specs.declared.Kind.TheVariants.{Lookup, Insert, Remove}
use Rattle.protocol.specs.declared.Phase.{Phase}
use Rattle.protocol.specs.declared.Phase.TheVariants.{Walk, OnRouting, New, Two, One, Leaf, UnderData, UnderRouting}
use Rattle.protocol.proofs.Together.Facts.{Holds, nears}
use Rattle.protocol.proofs.Together.Wishes.{All}
use Rattle.protocol.proofs.Together.Stages.{Stage, walk, look, lock, killed, killed_both, last, Doing, idle, busy, base, Knows}
use Rattle.protocol.proofs.Together.Puts.{Put, put_data, put_new, put_routing, kill_one, pass_one, kill_leaf, cut_leaf, kill_under, kill_routing, pass_routing}

-- the roles as document 01 keeps them apart: the root and none share 0
abbrev pub CaseApart : Phase → Type 0
CaseApart (Walk at prev before side up) = Unit {0}
CaseApart (OnRouting t n) = t ≢ 0
CaseApart (New p s n) = Unit {0}
CaseApart (Two t n) = t ≢ 0
CaseApart (One t p s c cs n) = (t ≢ 0) × (c ≢ 0) × (p ≢ t) × (t ≢ c) × (p ≢ c)
CaseApart (Leaf this prev side before up) = Unit {0}
CaseApart (UnderData t p s n) = (t ≢ 0) × (p ≢ t)
CaseApart (UnderRouting t p s a d o n) = (t ≢ 0) × (o ≢ 0) × (p ≢ t) × (a ≢ p) × (a ≢ t) × (p ≢ o) × (a ≢ o) × (o ≢ t) × (p ≢ 0)

-- and inside the table of n slots
abbrev pub CaseIn : ℕ → Phase → Type 0
CaseIn n (Walk at prev before side up) = Unit {0}
CaseIn n (OnRouting t i) = t < n
CaseIn n (New p s i) = p < n
CaseIn n (Two t i) = t < n
CaseIn n (One t p s c cs i) = (t < n) × (p < n) × (c < n)
CaseIn n (Leaf this prev side before up) = Unit {0}
CaseIn n (UnderData t p s i) = (t < n) × (p < n)
CaseIn n (UnderRouting t p s a d o i) = (t < n) × (p < n) × (a < n) × (o < n)

abbrev pub Apart : Stage → Type 0
Apart (walk a p b d) = (a ≢ 0 → p ≢ a) × (p ≢ 0 → b ≢ p) × (a ≢ 0 → b ≢ a) × (a ≡ 0 → p ≡ 0) × (p ≡ 0 → b ≡ 0)
Apart (look t p b d) = (t ≢ 0) × (p ≢ t) × (p ≢ 0 → b ≢ p) × (b ≢ t) × (p ≡ 0 → b ≡ 0)
Apart (lock c i) = CaseApart c
Apart (killed c) = CaseApart c
Apart (killed_both c) = CaseApart c
Apart (last c) = CaseApart c

-- kept from the first store on, since only numbers are concerned
abbrev pub Roles : ℕ → Stage → Type 0
Roles n (walk a p b d) = Unit {0}
Roles n (look t p b d) = Unit {0}
Roles n (lock c i) = Unit {0}
Roles n (killed c) = CaseApart c × CaseIn n c
Roles n (killed_both c) = CaseApart c × CaseIn n c
Roles n (last c) = CaseApart c × CaseIn n c

abbrev pub RolesOf : ℕ → Doing → Type 0
RolesOf n idle = Unit {0}
RolesOf n (busy j k p) = Roles n p

module _ (A : Tab) (rho : ℕ → ℕ) where
  lower : (x y : ℕ) → rho x < rho y → x ≢ y
  lower x y l e = let f = ap rho e in omega arith

  key_some : (k t : ℕ) → k < A.key 0 → A.key t ≡ k → t ≢ 0
  key_some k t l e z = let f = ap A.key z in omega arith

  -- b is above p, p above a: b is not a
  skip : (a p b : ℕ) → Holds A rho (nears p a) → Holds A rho (nears b p) → a ≢ 0 → b ≢ a
  skip a p b q r n e =
      let u = q.1.1 n in
      go (λ m. let v = r.1.1 m in let f = ap rho e in omega arith)
    where
      go : ((p ≢ 0) → ⊥) → ⊥
      go f = f (λ z. lower p a (q.1.1 n) (z ∙ sym (r.1.2 z) ∙ e))

  walk_apart : (a p b : ℕ) → Holds A rho (nears p a) → Holds A rho (nears b p) → Apart (walk a p b true)
  walk_apart a p b q r = ((λ n. lower p a (q.1.1 n)), (λ n. lower b p (r.1.1 n)), (λ n. skip a p b q r n), q.1.2, r.1.2)

  pub case_apart : (k : ℕ) (c : Phase) → k < A.key 0 → All (Holds A rho) (base k c) → CaseApart c
  case_apart k (Walk at prev before side up) l q = tt
  case_apart k (OnRouting t n) l q = key_some k t l q.0.1
  case_apart k (New p s n) l q = tt
  case_apart k (Two t n) l q = key_some k t l q.0.1
  case_apart k (One t p s c cs n) l q =
      let u = q.1.0.1.1 in
      let v = q.1.1.1.0.1.1 in
      (key_some k t l q.0.1, q.1.1.0.1, lower p t u, lower t c v, (λ e. let f = ap rho e in omega arith))
  case_apart k (Leaf this prev side before up) l q = tt
  case_apart k (UnderData t p s n) l q = (key_some k t l q.0.1, lower p t q.1.0.1.1)
  case_apart k (UnderRouting t p s a d o n) l q =
      let u = q.1.0.1.1 in
      let v = q.1.1.0.1.1 in
      let w = q.1.1.1.1.0.1.1 in (
        key_some k t l q.0.1,
        q.1.1.1.0.1,
        lower p t u,
        lower a p v,
        (λ e. let f = ap rho e in omega arith),
        lower p o w,
        (λ e. let f = ap rho e in omega arith),
        (λ e. q.1.1.1.1.1.0.1 (sym q.0.1 ∙ ap A.key (sym e))),
        q.1.1.1.1.1.1.0.1,
      )

  pub apart : (n : ℕ) (j : Kind) (k : ℕ) (p : Stage) → k < A.key 0 → Knows A rho j k p → Roles n p → Apart p
  apart n Lookup k (walk a p b d) l q u = walk_apart a p b q.1.0 q.1.1.0
  apart n Insert k (walk a p b d) l q u = walk_apart a p b q.1.0 q.1.1.0
  apart n Remove k (walk a p b d) l q u = walk_apart a p b q.1.0 q.1.1.0
  apart n j k (look t p b d) l q v =
      let t0 = key_some k t l q.0.1 in
      let u = q.1.0 in
      let near : Holds A rho (nears p t) = (u.0, (u.1.0, (λ m. u.1.1), (λ e. absurd (t0 e)))) in
      let w = walk_apart t p b near q.1.1.0 in
      (t0, w.0 t0, w.1, w.2 t0, w.4)
  apart n j k (lock c i) l q u = case_apart k c l q.0
  apart n j k (killed c) l q u = u.0
  apart n j k (killed_both c) l q u = u.0
  apart n j k (last c) l q u = u.0

  -- a slot that is not free is inside
  module _ (n : ℕ) (in_table : (x : ℕ) → A.state x ≢ 0 → x < n) where
    pub case_in : (k : ℕ) (c : Phase) → All (Holds A rho) (base k c) → CaseIn n c
    case_in k (Walk at prev before side up) q = tt
    case_in k (OnRouting t i) q = in_table t q.0.0
    case_in k (New p s i) q = in_table p q.0.0
    case_in k (Two t i) q = in_table t q.0.0
    case_in k (One t p s c cs i) q = (in_table t q.0.0, in_table p q.1.0.0, in_table c q.1.1.0.0)
    case_in k (Leaf this prev side before up) q = tt
    case_in k (UnderData t p s i) q = (in_table t q.0.0, in_table p q.1.0.0)
    case_in k (UnderRouting t p s a d o i) q =
        (in_table t q.0.0, in_table p q.1.0.0, in_table a q.1.1.0.0, in_table o q.1.1.1.0.0)

    -- the roles when the first store is made
    pub case_roles : (k : ℕ) (c : Phase) → k < A.key 0 → All (Holds A rho) (base k c) → CaseApart c × CaseIn n c
    case_roles k c l q = (case_apart k c l q, case_in k c q)

-- the stores keep the roles apart
pub roles_put : (n : ℕ) {A B : Tab} (rho : ℕ → ℕ) → ((x : ℕ) → A.state x ≢ 0 → x < n) → (j : Kind) {k : ℕ} {p q : Stage} → Put A B k p q
    → k < A.key 0 → Knows A rho j k p → Roles n p → Roles n q
roles_put n {A} rho d j {k} (put_data {t = t} b) l q u = case_roles A rho n d k (OnRouting t 0) l q.0
roles_put n {A} rho d j {k} (put_new {p = p} {s = s} f z b) l q u = case_roles A rho n d k (New p s 0) l q.0
roles_put n {A} rho d j {k} (put_routing {t = t} b) l q u = case_roles A rho n d k (Two t 0) l q.0
roles_put n {A} rho d j {k} (kill_one {t = t} {p = p} {s = s} {c = c} {cs = cs} b) l q u = case_roles A rho n d k (One t p s c cs 0) l q.0
roles_put n rho d j (pass_one b) l q u = u
roles_put n {A} rho d j {k} (kill_leaf {t = t} {p = p} {s = s} b) l q u = case_roles A rho n d k (UnderData t p s 0) l q.0
roles_put n rho d j (cut_leaf b) l q u = u
roles_put n {A} rho d j {k} (kill_under {t = t} {p = p} {s = s} {a = a} {d = up} {o = o} b) l q u =
    case_roles A rho n d k (UnderRouting t p s a up o 0) l q.0
roles_put n rho d j (kill_routing b) l q u = u
roles_put n rho d j (pass_routing b) l q u = u
