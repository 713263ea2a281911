-- WHAT OF THE WORDS IS NEITHER TABLE NOR LOCKS: their number, the root's key, bits that are zero, free slots that are zero, keys
-- that are legal. Every change that a call makes keeps it.
-- Assumes nothing.
use mathlib.Core.Path.{◌≡◌, refl, sym, ap, ◌∙◌}
use mathlib.Core.Bool.{Bool, true, false}
use mathlib.Core.List.{List}
use mathlib.Core.Logic.{◌≢◌}
use Prim.Native.Nat.{ℕ, zero, suc, ◌-◌, ◌<◌}
use native.Mathlib.Omega.{arith}
use native.Mathlib.Decide.{ℕ_discrete}
use lib.ListN.{length}
use Rattle.moment.specs.Key.{legal_of}
use Rattle.moment.proofs.Tests.{tests}
use Rattle.layout.specs.Layout.{fld_set}
use Rattle.table.specs.Pair.{layout, as_data, state_f, link_f, lock_f, busy_f, zeros_f, word_of, key_of, set_key, field_of, state_of, lock_of, set_field, set_state, set_link, set_lock, set_busy}
use Rattle.table.specs.Rules.{all_ones, size_fine}
use Rattle.table.specs.declared.Which.{Which}
use Rattle.table.specs.declared.Which.TheVariants.{State, Edge}
use Rattle.table.proofs.PairLaws.{stored, word_other, field_same, field_slot, field_field, field_key, field_length}
use Rattle.table.proofs.ChangeLaws.{field_in, fine_state, lock_apart}
use Rattle.protocol.specs.Plan.{action_at}
use Rattle.protocol.specs.Locks.{weight, held_one, release_one, all_held, released}
use Rattle.protocol.specs.Stores.{taken}
use Rattle.protocol.specs.declared.Phase.{Phase}
use Rattle.protocol.specs.declared.Action.{Action}
use Rattle.protocol.specs.declared.Action.TheVariants.{Visit, Look, Lock, Mark, Link, Take, End, Beyond}
use Rattle.protocol.proofs.StoreLaws.{Joins, state_link}
use Rattle.protocol.proofs.HeldLaws.{given_up_only}

pub record Clean (ws : List ℕ) : Type 0 where
  pub size : size_fine (length ws) ≡ true
  pub ones : key_of ws 0 ≡ all_ones
  pub zeros : (i : ℕ) → field_of zeros_f ws i ≡ 0
  pub seats : (i : ℕ) → i ≢ 0 → field_of busy_f ws i ≡ 0
  pub empty : (i k : ℕ) → k < 2 → state_of ws i ≡ 0 → word_of ws i k ≡ 0
  pub legal : (i : ℕ) → state_of ws i ≢ 0 → i ≢ 0 → legal_of (key_of ws i) ≡ true

-- A STORE TO ONE FIELD

-- the words of another slot stay
field_word : (f : ℕ) (ws : List ℕ) (s v j k : ℕ) → k < 2 → j ≢ s → word_of (set_field f ws s v) j k ≡ word_of ws j k
field_word f ws s v j k b d =
    stored (λ (x : List ℕ). word_of x j k ≡ word_of ws j k) f ws s v
    (λ h. word_other ws s j 1 k (fld_set layout f (word_of ws s 1) v) (omega arith)) refl

-- the slot is not free, before and after; the bits that are zero are not stored to
pub clean_field : (f : ℕ) (ws : List ℕ) (s v : ℕ) → f ≢ zeros_f → (f ≡ busy_f → s ≡ 0) → state_of ws s ≢ 0 → state_of (set_field f ws s v) s ≢ 0
    → Clean ws → Clean (set_field f ws s v)
clean_field f ws s v z b n m c =
    record {
      size = rw (field_length f ws s v) c.size;
      ones = field_key f ws s 0 v ∙ c.ones;
      zeros = λ i. field_field zeros_f f ws s i v (λ e. z (sym e)) ∙ c.zeros i;
      seats = λ i d. seat i d (ℕ_discrete i s) (ℕ_discrete f busy_f);
      empty = λ i k l e. none i k l e (ℕ_discrete i s);
      legal = λ i e d. rw (field_key f ws s i v) (c.legal i (was i e (ℕ_discrete i s)) d);
    }
  where
    seat : (i : ℕ) → i ≢ 0 → Dec (i ≡ s) → Dec (f ≡ busy_f) → field_of busy_f (set_field f ws s v) i ≡ 0
    seat i d (no e) g = field_slot busy_f f ws s i v e ∙ c.seats i d
    seat i d (yes e) (yes g) = absurd (d (e ∙ b g))
    seat i d (yes e) (no g) = field_field busy_f f ws s i v (λ q. g (sym q)) ∙ c.seats i d

    none : (i k : ℕ) → k < 2 → state_of (set_field f ws s v) i ≡ 0 → Dec (i ≡ s) → word_of (set_field f ws s v) i k ≡ 0
    none i k l e (yes q) = absurd (m (ap (state_of (set_field f ws s v)) (sym q) ∙ e))
    none i k l e (no q) = field_word f ws s v i k l q ∙ c.empty i k l (sym (field_slot state_f f ws s i v q) ∙ e)

    was : (i : ℕ) → state_of (set_field f ws s v) i ≢ 0 → Dec (i ≡ s) → state_of ws i ≢ 0
    was i e (yes q) = rw q n
    was i e (no q) = rw (field_slot state_f f ws s i v q) at e

lock_high : (l : Which) → lock_f l ≢ zeros_f
lock_high State = omega arith
lock_high (Edge true) = omega arith
lock_high (Edge false) = omega arith

link_high : (d : Bool) → (link_f d ≢ zeros_f) × (link_f d ≢ busy_f)
link_high true = (omega arith, omega arith)
link_high false = (omega arith, omega arith)

pub clean_lock : (ws : List ℕ) (s : ℕ) (which : Which) (x : ℕ) → state_of ws s ≢ 0 → Clean ws → Clean (set_lock ws s which x)
clean_lock ws s which x n c =
    let a = lock_apart which in
    clean_field (lock_f which) ws s x (lock_high which) (λ e. absurd (a.2 e)) n
    (rw (field_field state_f (lock_f which) ws s s x (λ e. a.0 (sym e))) n) c

pub clean_link : (ws : List ℕ) (s : ℕ) (d : Bool) (x : ℕ) → state_of ws s ≢ 0 → Clean ws → Clean (set_link ws s d x)
clean_link ws s d x n c =
    clean_field (link_f d) ws s x (link_high d).0 (λ e. absurd ((link_high d).1 e)) n
    (rw (field_field state_f (link_f d) ws s s x (state_link d)) n) c

pub clean_state : (ws : List ℕ) (s v : ℕ) → state_of ws s ≢ 0 → v ≢ 0 → v < 4 → Clean ws → Clean (set_state ws s v)
clean_state ws s v n m l c =
    clean_field state_f ws s v (omega arith) (λ e. absurd (omega arith)) n
    (rw (field_same state_f ws s v (field_in state_f ws s n) l) m) c

pub clean_busy : (ws : List ℕ) (x : ℕ) → state_of ws 0 ≢ 0 → Clean ws → Clean (set_busy ws x)
clean_busy ws x n c =
    clean_field busy_f ws 0 x (omega arith) (λ e. refl) n (rw (field_field state_f busy_f ws 0 0 x (omega arith)) n) c

-- GIVING UP LOCKS that are held: their pairs are not free

abbrev HeldThere : List ℕ → Action → Type 0
HeldThere ws (Visit at prev before side up) = Unit {0}
HeldThere ws (Look this prev side before up) = Unit {0}
HeldThere ws (Lock slot which write state links) = state_of ws slot ≢ 0
HeldThere ws (Mark slot to) = Unit {0}
HeldThere ws (Link slot side to) = Unit {0}
HeldThere ws (Take prev side) = Unit {0}
HeldThere ws End = Unit {0}
HeldThere ws Beyond = Unit {0}

held_there : (ws : List ℕ) (a : Action) → held_one ws a ≡ true → HeldThere ws a
unfolding held_one
held_there ws (Visit at prev before side up) e = tt
held_there ws (Look this prev side before up) e = tt
held_there ws (Lock slot which write state links) e = let h = simp tests at e in fine_state ws slot h.0
held_there ws (Mark slot to) e = tt
held_there ws (Link slot side to) e = tt
held_there ws (Take prev side) e = tt
held_there ws End e = tt
held_there ws Beyond e = tt

clean_release : (ws vs : List ℕ) (a : Action) → ((i : ℕ) → state_of vs i ≡ state_of ws i) → HeldThere ws a → Clean vs → Clean (release_one vs a)
unfolding release_one
clean_release ws vs (Visit at prev before side up) s h c = c
clean_release ws vs (Look this prev side before up) s h c = c
clean_release ws vs (Lock slot which write state links) s h c = clean_lock vs slot which (lock_of vs slot which - weight write) (rw (s slot) h) c
clean_release ws vs (Mark slot to) s h c = c
clean_release ws vs (Link slot side to) s h c = c
clean_release ws vs (Take prev side) s h c = c
clean_release ws vs End s h c = c
clean_release ws vs Beyond s h c = c

pub clean_released : (ws : List ℕ) (p : Phase) (n : ℕ) → all_held ws p n ≡ true → Clean ws → Clean (released ws p n)
unfolding released all_held
clean_released ws p zero e c = c
clean_released ws p (suc n) e c =
    let h = simp tests at e in
    clean_release ws (released ws p n) (action_at p n)
    (λ i. (given_up_only ws p n).fields state_f i (λ l z. (lock_apart l).0 (sym z)))
    (held_there ws (action_at p n) h.1) (clean_released ws p n h.0 c)

-- A NEW FRAME in a slot that was zero

pub clean_new : (ws : List ℕ) (f key prev : ℕ) (side : Bool) → legal_of key ≡ true → f ≢ 0 → state_of ws prev ≢ 0 → state_of ws f ≡ 0
    → Joins f key prev side ws (set_link (taken ws f key) prev side f) → Clean ws → Clean (set_link (taken ws f key) prev side f)
unfolding taken
clean_new ws f key prev side k d n z o c =
    record {
      size = rw o.size c.size;
      ones = o.keys 0 (λ e. d (sym e)) ∙ c.ones;
      zeros = λ i. field zeros_f i (omega arith) (λ e. (link_high side).0 (sym e)) (c.zeros i) (ℕ_discrete i f) (ℕ_discrete i prev);
      seats = λ i e. field busy_f i (omega arith) (λ q. (link_high side).1 (sym q)) (c.seats i e) (ℕ_discrete i f) (ℕ_discrete i prev);
      empty = λ i j l e. none i j l e (ℕ_discrete i f) (ℕ_discrete i prev);
      legal = λ i e m. key_at i e m (ℕ_discrete i f);
    }
  where
    vs : List ℕ
    vs = set_link (set_state (set_key ws f key) f as_data) prev side f

    prev_there : state_of vs prev ≡ state_of ws prev
    prev_there = o.fields state_f (state_link side)

    field : (g i : ℕ) → g ≢ state_f → g ≢ link_f side → field_of g ws i ≡ 0 → Dec (i ≡ f) → Dec (i ≡ prev) → field_of g vs i ≡ 0
    field g i a b e (yes q) r = rw q (o.bare g a)
    field g i a b e (no q) (yes r) = rw r (o.fields g b ∙ rw r at e)
    field g i a b e (no q) (no r) = o.slots g i q r ∙ e

    none : (i j : ℕ) → j < 2 → state_of vs i ≡ 0 → Dec (i ≡ f) → Dec (i ≡ prev) → word_of vs i j ≡ 0
    none i j l e (yes q) r = absurd (let y : state_of vs f ≡ 0 = ap (state_of vs) (sym q) ∙ e in omega (arith, o.state_there))
    none i j l e (no q) (yes r) = absurd (n (sym prev_there ∙ ap (state_of vs) (sym r) ∙ e))
    none i j l e (no q) (no r) =
        field_word (link_f side) (set_state (set_key ws f key) f as_data) prev f i j l r
        ∙ field_word state_f (set_key ws f key) f as_data i j l q
        ∙ word_other ws f i 0 j key (omega arith)
        ∙ c.empty i j l (sym (o.slots state_f i q r) ∙ e)

    key_at : (i : ℕ) → state_of vs i ≢ 0 → i ≢ 0 → Dec (i ≡ f) → legal_of (key_of vs i) ≡ true
    key_at i e m (yes q) = rw (q, o.key_there) k
    key_at i e m (no q) = rw (o.keys i q) (c.legal i (was (ℕ_discrete i prev)) m)
      where
        was : Dec (i ≡ prev) → state_of ws i ≢ 0
        was (yes r) = rw r n
        was (no r) = rw (o.slots state_f i q r) at e
