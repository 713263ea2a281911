-- A walk by itself: what the quick tests tell, and what a step of it comes to.
-- Assumes nothing.
use mathlib.Core.Path.{◌≡◌, refl, sym, ap, ◌∙◌}
use mathlib.Core.Bool.{Bool, true, false, cond, not, ◌&&◌, and-eq-true_iff}
use mathlib.Core.List.{List}
use Prim.Native.Nat.{ℕ}
use lib.Dec.{ltb, eqb}
use borrow.Author.Tests.{eqb-true}
use Rattle.moment.specs.Key.{legal_of}
use Rattle.table.specs.Pair.{as_data, slots_of, busy_of, key_of, state_of, link_of}
use Rattle.table.specs.Rules.{pair_fine, root_fine, table_fine}
use Rattle.protocol.specs.Record.{roles, record_fine}
use Rattle.protocol.specs.Walk.{found, nothing, visit, onward}
use Rattle.protocol.specs.declared.Kind.{Kind}
use Rattle.protocol.specs.declared.Kind.TheVariants.{Lookup}
use Rattle.protocol.specs.declared.Work.TheVariants.{Busy}
use Rattle.protocol.specs.declared.Phase.TheVariants.{Walk}
use Rattle.protocol.specs.declared.Answer.TheVariants.{Yes, No}
use Rattle.protocol.specs.declared.Outcome.TheVariants.{Goes, Ends}
use Rattle.locks.specs.Taking.{after}
use Rattle.acting.specs.Moves.{moved_of, busy_move, work_move, step_move}
use Rattle.std.specs.Prelude.{Ok, Err, Option, Some, None, unwrap_or}
use Rattle.refusal.specs.declared.Refusal.TheVariants.{Table, Damaged}
use Rattle.acting.proofs.ActLaws.{any_work}
use Rattle.worker.specs.Moving.{walk_fine, walk_to}

-- the quick tests, put together
pub quick_fine : (ws : List ℕ) (key at prev before : ℕ) → (table_fine ws && not (eqb (busy_of ws) 0)) ≡ true
    → (legal_of key && roles (slots_of ws) Lookup (Walk at prev before true true)) ≡ true → pair_fine ws at ≡ true
    → walk_fine ws key at prev before ≡ true
unfolding walk_fine record_fine
quick_fine ws key at prev before t r p =
    let a = (and-eq-true_iff (table_fine ws) (not (eqb (busy_of ws) 0))).0 t in
    let b = (and-eq-true_iff (legal_of key) (roles (slots_of ws) Lookup (Walk at prev before true true))).0 r in
    rw (a.0, a.1, b.0, b.1, p)

-- at the root rule 1 is enough
pub at_root_lem : (ws : List ℕ) → (table_fine ws && not (eqb (busy_of ws) 0)) ≡ true → pair_fine ws 0 ≡ true
unfolding table_fine root_fine pair_fine
at_root_lem ws t =
    let r = (simp and-eq-true_iff at t).0.1 in
    let s = eqb-true (state_of ws 0) as_data r.0.0.0.1 in
    rw (s, r.0.1)

-- a walk that is fine steps by `visit`
pub fine_move : (ws : List ℕ) (kind : Kind) (key at prev before : ℕ) (side up : Bool) → walk_fine ws key at prev before ≡ true
    → step_move ws (Busy kind) key (Walk at prev before side up) ≡ after (Ok (moved_of (visit ws kind key at prev before side up))) ws
unfolding walk_fine step_move work_move busy_move
fine_move ws kind key at prev before side up e =
    let m = simp and-eq-true_iff at e in
    let r = sym (any_work ws kind key at prev before side up) ∙ m.0.1 in
    rw (m.0.0, r, m.1)

-- one that rule 6 does not let step is refused 6
pub unfine_move : (ws : List ℕ) (kind : Kind) (key at prev before : ℕ) (side up : Bool) → table_fine ws ≡ true → walk_fine ws key at prev before ≡ false
    → step_move ws (Busy kind) key (Walk at prev before side up) ≡ after (Err Damaged) ws
unfolding walk_fine step_move work_move busy_move
unfine_move ws kind key at prev before side up t e =
    let f = rw t at e in
    rw (t, sym (any_work ws kind key at prev before side up), f)

-- and where rule 1 does not, 1
pub untabled_move : (ws : List ℕ) (kind : Kind) (key at prev before : ℕ) (side up : Bool) → table_fine ws ≡ false
    → step_move ws (Busy kind) key (Walk at prev before side up) ≡ after (Err Table) ws
unfolding step_move
untabled_move ws kind key at prev before side up t = rw t

-- a link that is taken where two tests are left: it is taken, so both are left
taken_where : (a b : Bool) (x c : ℕ) → Some c ≡ cond a None (cond b None (Some x)) → (a ≡ false) × (b ≡ false) × (x ≡ c)
taken_where true b x c e = cc
taken_where false true x c e = cc
taken_where false false x c e = (refl, refl, sym (ap (λ (o : Option ℕ). unwrap_or o 0) e))

pub goes_to : (ws : List ℕ) (kind : Kind) (key at prev before : ℕ) (side up : Bool) (c : ℕ) → Some c ≡ walk_to ws key at
    → visit ws kind key at prev before side up ≡ Goes (Walk c at prev (ltb key (key_of ws at)) side)
unfolding walk_to visit onward
goes_to ws kind key at prev before side up c e =
    let t = taken_where (eqb (key_of ws at) key) (eqb (link_of ws at (ltb key (key_of ws at))) 0) _ c e in
    rw (t.0, t.1, t.2)

-- a lookup that ends: yes exactly on a data slot of the key
lookup_at : (k d z : Bool) (c at prev : ℕ) (side left : Bool) → cond k None (cond z None (Some c)) ≡ None
    → cond k (cond d (Ends Yes) (Ends No)) (cond z (nothing Lookup at left) (Goes (Walk c at prev left side))) ≡ Ends (cond (k && d) Yes No)
unfolding nothing
lookup_at true true z c at prev side left e = refl
lookup_at true false z c at prev side left e = refl
lookup_at false d true c at prev side left e = refl
lookup_at false d false c at prev side left e = cc

pub lookup_ends : (ws : List ℕ) (key at prev before : ℕ) (side up : Bool) → walk_to ws key at ≡ None
    → visit ws Lookup key at prev before side up ≡ Ends (cond (eqb (key_of ws at) key && eqb (state_of ws at) as_data) Yes No)
unfolding walk_to visit found onward
lookup_ends ws key at prev before side up e =
    let left = ltb key (key_of ws at) in
    lookup_at (eqb (key_of ws at) key) (eqb (state_of ws at) as_data) (eqb (link_of ws at left) 0) (link_of ws at left) at prev side left e
