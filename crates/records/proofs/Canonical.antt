-- Words and records are one to one: the words of a record are read as it, and words that are taken for a record are the
-- words of the record that is read.
-- Assumes nothing.
use mathlib.Core.Path.{◌≡◌, refl, sym, ap, ◌∙◌}
use mathlib.Core.Bool.{Bool, true, false, cond}
use mathlib.Core.List.{List, [], ◌∷◌}
use Prim.Native.Nat.{ℕ}
use native.Mathlib.Omega.{arith}
use Rattle.std.specs.Prelude.{Some, None}
use lib.Dec.{eqb}
use lib.ListN.{length}
use borrow.Author.Tests.{eq-eqb}
use Rattle.moment.proofs.Tests.{tests}
use Rattle.protocol.specs.declared.Kind.TheVariants.{Lookup, Insert, Remove}
use Rattle.protocol.specs.declared.Work.{Work}
use Rattle.protocol.specs.declared.Work.TheVariants.{Idle, Busy}
use Rattle.protocol.specs.declared.Phase.{Phase}
use Rattle.protocol.specs.declared.Phase.TheVariants.{Walk, OnRouting, New, Two, One, Leaf, UnderData, UnderRouting}
use Rattle.protocol.specs.declared.Worker.{Worker}
use Rattle.records.specs.declared.Flat.{Flat}
use Rattle.records.specs.Records.{side_number, work_number, phase_flat, flat_of, listed, words_of, flat_at, work_at, phase_at, worker_at, worker_of, same_flat, is_record, read_of, put_record}

-- A record's words are read as it

side_back : (b : Bool) → eqb (side_number b) 0 ≡ b
side_back true = refl
side_back false = refl

work_back : (w : Work) → work_at (work_number w) ≡ w
unfolding work_at
work_back Idle = refl
work_back (Busy Lookup) = refl
work_back (Busy Insert) = refl
work_back (Busy Remove) = refl

phase_in : Flat → Phase
phase_in f =
    phase_at f.phase f.this f.prev (eqb f.side 0) f.before (eqb f.up 0) f.other (eqb f.toward 0) f.done

phase_back : (n k : ℕ) (p : Phase) → phase_in (phase_flat n k p) ≡ p
unfolding phase_in phase_at
phase_back n k (Walk at prev before side up) = rw (side_back side, side_back up)
phase_back n k (OnRouting this done) = refl
phase_back n k (New prev side done) = rw (side_back side)
phase_back n k (Two this done) = refl
phase_back n k (One this prev side child toward done) = rw (side_back side, side_back toward)
phase_back n k (Leaf this prev side before up) = rw (side_back side, side_back up)
phase_back n k (UnderData this prev side done) = rw (side_back side)
phase_back n k (UnderRouting this prev side before up other done) = rw (side_back side, side_back up)

-- work and key stand in front, whatever the phase
heads : (n k : ℕ) (p : Phase) → ((phase_flat n k p).work ≡ n) × ((phase_flat n k p).key ≡ k)
heads n k (Walk at prev before side up) = (refl, refl)
heads n k (OnRouting this done) = (refl, refl)
heads n k (New prev side done) = (refl, refl)
heads n k (Two this done) = (refl, refl)
heads n k (One this prev side child toward done) = (refl, refl)
heads n k (Leaf this prev side before up) = (refl, refl)
heads n k (UnderData this prev side done) = (refl, refl)
heads n k (UnderRouting this prev side before up other done) = (refl, refl)

pub flat_back : (w : Worker) → worker_at (flat_of w) ≡ w
unfolding worker_at flat_of phase_in
flat_back w =
    let n = work_number w.work in
    let h = heads n w.key w.phase in
    rw (h.0, h.1, work_back w.work, phase_back n w.key w.phase)

-- the words of a record, taken apart again
pub listed_flat : (f : Flat) → flat_at (listed f) ≡ f
unfolding flat_at
listed_flat f = refl

pub words_read : (w : Worker) → worker_of (words_of w) ≡ w
unfolding words_of
words_read w = rw (listed_flat (flat_of w)) (flat_back w)

-- Words that are taken for a record

same_listed : (a b : Flat) → same_flat a b ≡ true → listed a ≡ listed b
unfolding same_flat
same_listed a b e =
    let r = simp tests at e in
    rw (r.0.0.0.0.0.0.0.0.0.0, r.0.0.0.0.0.0.0.0.0.1, r.0.0.0.0.0.0.0.0.1, r.0.0.0.0.0.0.0.1, r.0.0.0.0.0.0.1, r.0.0.0.0.0.1, r.0.0.0.0.1, r.0.0.0.1, r.0.0.1, r.0.1, r.1)

same_self : (a : Flat) → same_flat a a ≡ true
unfolding same_flat
same_self a = simp (eq-eqb a.work _ refl, eq-eqb a.key _ refl, eq-eqb a.phase _ refl, eq-eqb a.this _ refl, eq-eqb a.prev _ refl, eq-eqb a.side _ refl, eq-eqb a.before _ refl, eq-eqb a.up _ refl, eq-eqb a.other _ refl, eq-eqb a.toward _ refl, eq-eqb a.done _ refl)

pub eleven : (s : List ℕ) → length s ≡ 11 → listed (flat_at s) ≡ s
unfolding flat_at
eleven (a ∷ b ∷ c ∷ d ∷ e ∷ f ∷ g ∷ h ∷ i ∷ j ∷ k ∷ []) n = refl
eleven [] n = absurd (omega (arith, n))
eleven (a ∷ []) n = absurd (omega (arith, n))
eleven (a ∷ b ∷ []) n = absurd (omega (arith, n))
eleven (a ∷ b ∷ c ∷ []) n = absurd (omega (arith, n))
eleven (a ∷ b ∷ c ∷ d ∷ []) n = absurd (omega (arith, n))
eleven (a ∷ b ∷ c ∷ d ∷ e ∷ []) n = absurd (omega (arith, n))
eleven (a ∷ b ∷ c ∷ d ∷ e ∷ f ∷ []) n = absurd (omega (arith, n))
eleven (a ∷ b ∷ c ∷ d ∷ e ∷ f ∷ g ∷ []) n = absurd (omega (arith, n))
eleven (a ∷ b ∷ c ∷ d ∷ e ∷ f ∷ g ∷ h ∷ []) n = absurd (omega (arith, n))
eleven (a ∷ b ∷ c ∷ d ∷ e ∷ f ∷ g ∷ h ∷ i ∷ []) n = absurd (omega (arith, n))
eleven (a ∷ b ∷ c ∷ d ∷ e ∷ f ∷ g ∷ h ∷ i ∷ j ∷ []) n = absurd (omega (arith, n))
eleven (a ∷ b ∷ c ∷ d ∷ e ∷ f ∷ g ∷ h ∷ i ∷ j ∷ k ∷ l ∷ s) n = absurd (omega (arith, n))

pub record_length : (s : List ℕ) → is_record s ≡ true → length s ≡ 11
unfolding is_record
record_length s e = (simp tests at e).0

pub put_fits : (s : List ℕ) (w : Worker) → is_record s ≡ true → put_record s w ≡ words_of w
unfolding put_record
put_fits s w r = rw (eq-eqb (length s) 11 (record_length s r))

-- every list of words that is accepted is the words of the record that is read
pub record_words : (s : List ℕ) → is_record s ≡ true → words_of (worker_of s) ≡ s
unfolding is_record words_of
record_words s e =
    let r = simp tests at e in
    sym (same_listed (flat_at s) (flat_of (worker_of s)) r.1) ∙ eleven s r.0

-- the words of every record are accepted
pub words_record : (w : Worker) → is_record (words_of w) ≡ true
unfolding is_record words_of
words_record w = rw (listed_flat (flat_of w), flat_back w, same_self (flat_of w))

-- so a record has its own words
pub one_record : (a b : Worker) → words_of a ≡ words_of b → a ≡ b
one_record a b e = sym (words_read a) ∙ ap worker_of e ∙ words_read b

-- What a test keeps: nothing exactly where it fails

pub none_not : {A : Type 0} (b : Bool) (x : A) → cond b (Some x) None ≡ None → b ≡ false
none_not true x e = cc
none_not false x e = refl

pub some_only : {A : Type 0} (b : Bool) (x y : A) → cond b (Some x) None ≡ Some y → (b ≡ true) × (y ≡ x)
some_only true x y e = (refl, cc)
some_only false x y e = absurd cc

-- so nothing is read exactly where the words are no record

pub read_nothing : (s : List ℕ) → read_of s ≡ None → is_record s ≡ false
unfolding read_of
read_nothing s e = none_not (is_record s) (worker_of s) e

pub read_record : (s : List ℕ) (w : Worker) → read_of s ≡ Some w → (is_record s ≡ true) × (w ≡ worker_of s)
unfolding read_of
read_record s w e = some_only (is_record s) (worker_of s) w e
