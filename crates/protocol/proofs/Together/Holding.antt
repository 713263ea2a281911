-- THE LOCKS THAT A RECORD HOLDS, ON THE WORDS: they are those of its stage; a lock given adds itself to one word; giving up takes
-- them off, and nothing else.
-- Assumes nothing.
use mathlib.Core.Path.{◌≡◌, refl, sym, ap, ◌∙◌}
use mathlib.Core.Bool.{Bool, true, false, true≢false, false≢true}
use mathlib.Core.List.{List, [], ◌∷◌, ◌++◌, append-nil, append_assoc}
use mathlib.Core.Logic.{◌≢◌}
use Prim.Native.Nat.{ℕ, zero, suc, ◌+◌, ◌≤◌, ◌<◌}
use native.Mathlib.Omega.{arith}
use native.Mathlib.Decide.{ℕ_discrete}
use lib.ListN.{length, take}
use lib.Seq.{take-suc}
use borrow.Author.Tests.{eqb-true, eqb-false, not-true}
use Rattle.table.specs.Pair.{lock_f, lock_of, set_lock}
use Rattle.table.specs.Rules.{pair_fine}
use Rattle.table.specs.declared.Which.{Which}
use Rattle.table.proofs.ChangeLaws.{Only}
use Rattle.protocol.specs.Plan.{plan, action_at, done_of}
use Rattle.protocol.specs.Locks.{weight, clear, crowded, granted, released}
use Rattle.protocol.specs.declared.Kind.{Kind}
use Rattle.protocol.specs.declared.Links.{Links}
use Rattle.protocol.specs.declared.Phase.{Phase}
use Rattle.protocol.specs.declared.Phase.TheVariants.{Walk, OnRouting, New, Two, One, Leaf, UnderData, UnderRouting}
use Rattle.protocol.specs.declared.Action.{Action}
use Rattle.protocol.specs.declared.Action.TheVariants.{Visit, Look, Lock, Mark, Link, Take, End, Beyond}
use Rattle.protocol.proofs.HeldLaws as laws
use Rattle.protocol.proofs.HeldLaws.{given_only, given_up_locks}
use Rattle.protocol.proofs.Mistakes.{granted_tells}
use Rattle.protocol.proofs.Together.Locks.{Held, lock_one, units, units_none, Takes, Drops}
use Rattle.protocol.proofs.Together.Facts.{hold}
use Rattle.protocol.proofs.Together.Wishes.{Wish, lock_in, locks_in, locks, held_of, helds}
use Rattle.protocol.proofs.Together.Stages.{Stage, walk, look, lock, killed, killed_both, last, view, held_in, Fits}

-- THE LOCKS THAT ARE DONE are those of the stage

abbrev pub wishes_in : Stage → List Wish
wishes_in (walk a p b d) = []
wishes_in (look t p b d) = []
wishes_in (lock c i) = take i (locks c)
wishes_in (killed c) = locks c
wishes_in (killed_both c) = locks c
wishes_in (last c) = locks c

pub held_wishes : (p : Stage) → held_in p ≡ helds (wishes_in p)
held_wishes (walk a p b d) = refl
held_wishes (look t p b d) = refl
held_wishes (lock c i) = refl
held_wishes (killed c) = refl
held_wishes (killed_both c) = refl
held_wishes (last c) = refl

pub wishes_view : (j : Kind) (p : Phase) → Fits j (view p) → (locks_in (take (done_of p) (plan p)) ≡ wishes_in (view p)) × (done_of p < length (plan p))
unfolding locks plan
wishes_view j (Walk at prev before side up) f = (refl, omega arith)
wishes_view j (Leaf t p s b up) f = (refl, omega arith)
wishes_view j (OnRouting t zero) f = (refl, omega arith)
wishes_view j (OnRouting t (suc zero)) f = (refl, omega arith)
wishes_view j (OnRouting t (suc (suc zero))) f = (refl, omega arith)
wishes_view j (OnRouting t (suc (suc (suc n)))) f = absurd (omega (arith, f.1))
wishes_view j (New p s zero) f = (refl, omega arith)
wishes_view j (New p s (suc zero)) f = (refl, omega arith)
wishes_view j (New p s (suc (suc zero))) f = (refl, omega arith)
wishes_view j (New p s (suc (suc (suc zero)))) f = (refl, omega arith)
wishes_view j (New p s (suc (suc (suc (suc n))))) f = absurd (omega (arith, f.1))
wishes_view j (Two t zero) f = (refl, omega arith)
wishes_view j (Two t (suc zero)) f = (refl, omega arith)
wishes_view j (Two t (suc (suc zero))) f = (refl, omega arith)
wishes_view j (Two t (suc (suc (suc n)))) f = absurd (omega (arith, f.1))
wishes_view j (One t p s c cs zero) f = (refl, omega arith)
wishes_view j (One t p s c cs (suc zero)) f = (refl, omega arith)
wishes_view j (One t p s c cs (suc (suc zero))) f = (refl, omega arith)
wishes_view j (One t p s c cs (suc (suc (suc zero)))) f = (refl, omega arith)
wishes_view j (One t p s c cs (suc (suc (suc (suc zero))))) f = (refl, omega arith)
wishes_view j (One t p s c cs (suc (suc (suc (suc (suc zero)))))) f = (refl, omega arith)
wishes_view j (One t p s c cs (suc (suc (suc (suc (suc (suc n))))))) f = absurd (omega (arith, f.1))
wishes_view j (UnderData t p s zero) f = (refl, omega arith)
wishes_view j (UnderData t p s (suc zero)) f = (refl, omega arith)
wishes_view j (UnderData t p s (suc (suc zero))) f = (refl, omega arith)
wishes_view j (UnderData t p s (suc (suc (suc zero)))) f = (refl, omega arith)
wishes_view j (UnderData t p s (suc (suc (suc (suc zero))))) f = (refl, omega arith)
wishes_view j (UnderData t p s (suc (suc (suc (suc (suc zero)))))) f = (refl, omega arith)
wishes_view j (UnderData t p s (suc (suc (suc (suc (suc (suc n))))))) f = absurd (omega (arith, f.1))
wishes_view j (UnderRouting t p s a up o zero) f = (refl, omega arith)
wishes_view j (UnderRouting t p s a up o (suc zero)) f = (refl, omega arith)
wishes_view j (UnderRouting t p s a up o (suc (suc zero))) f = (refl, omega arith)
wishes_view j (UnderRouting t p s a up o (suc (suc (suc zero)))) f = (refl, omega arith)
wishes_view j (UnderRouting t p s a up o (suc (suc (suc (suc zero))))) f = (refl, omega arith)
wishes_view j (UnderRouting t p s a up o (suc (suc (suc (suc (suc zero)))))) f = (refl, omega arith)
wishes_view j (UnderRouting t p s a up o (suc (suc (suc (suc (suc (suc zero))))))) f = (refl, omega arith)
wishes_view j (UnderRouting t p s a up o (suc (suc (suc (suc (suc (suc (suc zero)))))))) f = (refl, omega arith)
wishes_view j (UnderRouting t p s a up o (suc (suc (suc (suc (suc (suc (suc (suc zero))))))))) f = (refl, omega arith)
wishes_view j (UnderRouting t p s a up o (suc (suc (suc (suc (suc (suc (suc (suc (suc n)))))))))) f = absurd (omega (arith, f.1))

pub locks_snoc : (xs : List Action) (a : Action) → locks_in (xs ++ (a ∷ [])) ≡ locks_in xs ++ lock_in a
locks_snoc [] a = append-nil (lock_in a)
locks_snoc (x ∷ xs) a = ap (λ (r : List Wish). lock_in x ++ r) (locks_snoc xs a) ∙ sym (append_assoc (lock_in x) (locks_in xs) (lock_in a))

helds_app : (xs ys : List Wish) → helds (xs ++ ys) ≡ helds xs ++ helds ys
helds_app [] ys = refl
helds_app (x ∷ xs) ys = ap (λ (hs : List Held). held_of x ∷ hs) (helds_app xs ys)

units_app : (x : ℕ) (l : Which) (hs gs : List Held) → units x l (hs ++ gs) ≡ units x l hs + units x l gs
unfolding units
units_app x l [] gs = omega arith
units_app x l (h ∷ hs) gs = omega (arith, units_app x l hs gs)

weighs_units : (a : Action) (x : ℕ) (l : Which) → laws.weighs a x l ≡ units x l (helds (lock_in a))
unfolding units
weighs_units (Visit at prev before side up) x l = refl
weighs_units (Look this prev side before up) x l = refl
weighs_units (Lock slot which write state links) x l = omega arith
weighs_units (Mark slot to) x l = refl
weighs_units (Link slot side to) x l = refl
weighs_units (Take prev side) x l = refl
weighs_units End x l = refl
weighs_units Beyond x l = refl

-- what n actions hold on a word is what their locks weigh
held_sum : (p : Phase) (n : ℕ) → n ≤ length (plan p) → (x : ℕ) (l : Which) → laws.held p n x l ≡ units x l (helds (locks_in (take n (plan p))))
unfolding laws.held action_at
held_sum p zero h x l = sym (units_none x l)
held_sum p (suc n) h x l =
    let e = ap helds (ap locks_in (take-suc (plan p) n Beyond h) ∙ locks_snoc (take n (plan p)) (action_at p n))
    ∙ helds_app (locks_in (take n (plan p))) (lock_in (action_at p n)) in
    omega (
      arith,
      ap (units x l) e,
      units_app x l (helds (locks_in (take n (plan p)))) (helds (lock_in (action_at p n))),
      held_sum p n (omega arith) x l,
      weighs_units (action_at p n) x l,
    )

-- so what is held after the actions that are done is what the stage holds
pub held_view : (j : Kind) (p : Phase) → Fits j (view p) → (x : ℕ) (l : Which) → laws.held p (done_of p) x l ≡ units x l (held_in (view p))
held_view j p f x l =
    let e = wishes_view j p f in
    let d = e.1 in
    held_sum p (done_of p) (omega arith) x l ∙ ap (λ (ws : List Wish). units x l (helds ws)) e.0 ∙ ap (units x l) (sym (held_wishes (view p)))

-- a lock given
clear_write : (b : Bool) (n : ℕ) → clear b n ≡ true → b ≡ true → n ≡ 0
unfolding clear
clear_write true n e f = eqb-true n 0 e
clear_write false n e f = absurd (false≢true f)

clear_read : (b : Bool) (n : ℕ) → clear b n ≡ true → b ≡ false → n ≢ 1
unfolding clear
clear_read true n e f = absurd (true≢false f)
clear_read false n e f = eqb-false n 1 (not-true _ e)

pub given_takes : (ws : List ℕ) (slot : ℕ) (which : Which) (write : Bool) (state : ℕ) (links : Links)
    → pair_fine ws slot ≡ true → granted ws slot which write state links ≡ true → crowded write (lock_of ws slot which) ≡ false
    → Takes (lock_of ws) (lock_of (set_lock ws slot which (lock_of ws slot which + weight write))) (hold slot which write)
given_takes ws slot which write state links r g c =
    let o = given_only ws slot which write state links r g c in
    let t = granted_tells ws slot which write state links g in
    record {
      there = o.there;
      rest = λ i l n. other o i l n (ℕ_discrete i slot);
      free = clear_write write (lock_of ws slot which) t.2;
      shared = clear_read write (lock_of ws slot which) t.2;
    }
  where
    vs : List ℕ
    vs = set_lock ws slot which (lock_of ws slot which + weight write)

    other : Only (lock_f which) slot (lock_of ws slot which + weight write) ws vs → (i : ℕ) (l : Which) → ((slot ≡ i) × (which ≡ l) → ⊥)
        → Dec (i ≡ slot) → lock_of vs i l ≡ lock_of ws i l
    other o i l n (yes e) = o.fields (lock_f l) i (λ z. n (sym e, sym (lock_one l which z)))
    other o i l n (no e) = o.slots (lock_f l) i e

-- giving up
pub gives_up : (ws : List ℕ) (j : Kind) (p : Phase) → Fits j (view p) → ((x : ℕ) (l : Which) → units x l (held_in (view p)) ≤ lock_of ws x l)
    → Drops (lock_of ws) (lock_of (released ws p (done_of p))) (held_in (view p))
gives_up ws j p f g =
    record { diff = λ x l. omega (arith, g x l, held_view j p f x l, given_up_locks ws p (done_of p) x l) }
