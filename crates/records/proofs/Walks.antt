-- Words of a busy walk: they are a record, and which; and they go on as it does.
-- Assumes nothing.
use mathlib.Core.Path.{◌≡◌, refl, sym, ap, ◌∙◌}
use mathlib.Core.Bool.{Bool, true}
use mathlib.Core.List.{List}
use Prim.Native.Nat.{ℕ, ◌≤◌, suc, zero}
use native.Mathlib.Omega.{arith}
use lib.Dec.{eqb}
use lib.ListN.{length, get_or}
use Rattle.moment.proofs.Tests.{tests}
use Rattle.protocol.specs.declared.Kind.{Kind}
use Rattle.protocol.specs.declared.Kind.TheVariants.{Lookup, Insert, Remove}
use Rattle.protocol.specs.declared.Work.TheVariants.{Busy}
use Rattle.protocol.specs.declared.Phase.TheVariants.{Walk}
use Rattle.protocol.specs.declared.Worker.{Worker}
use Rattle.records.specs.declared.Flat.{Flat}
use Rattle.records.specs.Records.{side_number, kind_number, flat_of, listed, words_of, flat_at, worker_of, is_record, is_walk, walk_on}
use Rattle.records.proofs.Canonical.{eleven, words_read, words_record}

-- a record that walks
abbrev pub walker : Kind → ℕ → ℕ → ℕ → ℕ → Bool → Bool → Worker
walker kind key at prev before side up = record { work = Busy kind; key = key; phase = Walk at prev before side up }

-- the one that the words are
abbrev pub walker_of : Kind → List ℕ → Worker
walker_of kind s =
    walker kind (get_or s 1 0) (get_or s 3 0) (get_or s 4 0) (get_or s 6 0) (eqb (get_or s 5 0) 0) (eqb (get_or s 7 0) 0)

side_of : (n : ℕ) → n ≤ 1 → n ≡ side_number (eqb n 0)
side_of zero h = refl
side_of (suc zero) h = refl
side_of (suc (suc n)) h = absurd (omega (arith, h))

pub record Works (n : ℕ) : Type 0 where
  pub kind : Kind
  pub is : n ≡ kind_number kind

kind_of : (n : ℕ) → 1 ≤ n → n ≤ 3 → Works n
kind_of zero h k = absurd (omega (arith, h))
kind_of (suc zero) h k = record { kind = Lookup; is = refl }
kind_of (suc (suc zero)) h k = record { kind = Insert; is = refl }
kind_of (suc (suc (suc zero))) h k = record { kind = Remove; is = refl }
kind_of (suc (suc (suc (suc n)))) h k = absurd (omega (arith, k))

-- the words of a walk are those of the record that walks so
pub record Walking (s : List ℕ) : Type 0 where
  pub kind : Kind
  pub is : s ≡ words_of (walker_of kind s)

pub walk_length : (s : List ℕ) → is_walk s ≡ true → length s ≡ 11
unfolding is_walk
walk_length s e = (simp tests at e).0

walk_flat : (f : Flat) (kind : Kind) (side up : Bool) → f.work ≡ kind_number kind → f.phase ≡ 0 → f.side ≡ side_number side
    → f.up ≡ side_number up → f.other ≡ 0 → f.toward ≡ 0 → f.done ≡ 0
    → listed f ≡ words_of (walker kind f.key f.this f.prev f.before side up)
unfolding words_of flat_of
walk_flat f kind side up w p s u o t d = rw (w, p, s, u, o, t, d)

pub walking : (s : List ℕ) → is_walk s ≡ true → Walking s
unfolding is_walk flat_at
walking s e =
    let r = simp tests at e in
    let w = r.1 in
    let k = kind_of (get_or s 0 0) w.0.0.0.0.0.0.0 w.0.0.0.0.0.0.1 in
    let p = side_of (get_or s 5 0) w.0.0.0.0.1 in
    let u = side_of (get_or s 7 0) w.0.0.0.1 in
    record {
      kind = k.kind;
      is = sym (eleven s r.0) ∙ walk_flat (flat_at s) k.kind _ _ k.is w.0.0.0.0.0.1 p u w.0.0.1 w.0.1 w.1;
    }

-- so they are a record, and that one
pub walk_record : (s : List ℕ) (w : Walking s) → (is_record s ≡ true) × (worker_of s ≡ walker_of w.kind s)
walk_record s w = (ap is_record w.is ∙ words_record _, ap worker_of w.is ∙ words_read _)

-- a walk's words go on as the walk does
goes_on : (kind : Kind) (key at prev before : ℕ) (side up : Bool) (next : ℕ) (left : Bool)
    → walk_on (words_of (walker kind key at prev before side up)) next left ≡ words_of (walker kind key next at prev left side)
unfolding walk_on words_of flat_of
goes_on kind key at prev before side up next left = refl

pub walk_goes_on : (s : List ℕ) (w : Walking s) (next : ℕ) (left : Bool)
    → walk_on s next left ≡ words_of (walker w.kind (get_or s 1 0) next (get_or s 3 0) (get_or s 4 0) left (eqb (get_or s 5 0) 0))
walk_goes_on s w next left =
    ap (λ z. walk_on z next left) w.is
    ∙ goes_on w.kind (get_or s 1 0) (get_or s 3 0) (get_or s 4 0) (get_or s 6 0) (eqb (get_or s 5 0) 0) (eqb (get_or s 7 0) 0) next left
