-- LOCKS AND WHO HOLDS THEM: each lock word is the sum of what the workers hold of it, and is 1 where one of them writes it.
-- So what one writes no other holds.
-- Assumes nothing.
use mathlib.Core.Path.{◌≡◌, refl, sym, ap, ap₂, ◌∙◌}
use mathlib.Core.Bool.{Bool, true, false, cond, ◌&&◌}
use mathlib.Core.List.{List, [], ◌∷◌, ◌++◌}
use mathlib.Core.Logic.{◌⊎◌, inl, inr, ⊎_elim, ◌≢◌}
use Prim.Native.Nat.{ℕ, ◌+◌, ◌<◌}
use native.Mathlib.Omega.{arith}
use native.Mathlib.Decide.{ℕ_discrete, dec_lt}
use lib.Dec.{eqb}
use lib.ListN.{length, get_or, set, length-set}
use lib.Seq.{get_or-set_same, get_or-set_other}
use borrow.Author.Tests.{eq-eqb, ne_eqb}
use Rattle.table.specs.Pair.{lock_f}
use Rattle.table.specs.declared.Which.{Which}
use Rattle.table.specs.declared.Which.TheVariants.{State, Edge}
use Rattle.protocol.specs.Locks.{weight}
use Rattle.protocol.proofs.Together.Sum.{sum, sum_set, sum_at, sum_two}

-- a lock held: its slot, which of the slot's locks, for writing or reading
pub record Held : Type 0 where
  pub slot : ℕ
  pub which : Which
  pub write : Bool

abbrev pub unit : ℕ → Which → Held → ℕ
unit i l h = cond (eqb h.slot i && eqb (lock_f h.which) (lock_f l)) (weight h.write) 0

unfoldable pub units : ℕ → Which → List Held → ℕ
units i l hs = sum (unit i l) hs

abbrev pub Among : List Held → Held → Type 0
Among [] h = ⊥
Among (x ∷ xs) h = (x ≡ h) ⊎ Among xs h

pub weight_some : (b : Bool) → 0 < weight b
weight_some true = omega arith
weight_some false = omega arith

-- locks by their numbers
pub lock_one : (a b : Which) → lock_f a ≡ lock_f b → a ≡ b
lock_one State State e = refl
lock_one State (Edge true) e = absurd (omega arith)
lock_one State (Edge false) e = absurd (omega arith)
lock_one (Edge true) State e = absurd (omega arith)
lock_one (Edge true) (Edge true) e = refl
lock_one (Edge true) (Edge false) e = absurd (omega arith)
lock_one (Edge false) State e = absurd (omega arith)
lock_one (Edge false) (Edge true) e = absurd (omega arith)
lock_one (Edge false) (Edge false) e = refl

pub which_dec : (a b : Which) → Dec (a ≡ b)
which_dec a b = go (ℕ_discrete (lock_f a) (lock_f b))
  where
    go : Dec (lock_f a ≡ lock_f b) → Dec (a ≡ b)
    go (yes e) = yes (lock_one a b e)
    go (no e) = no (λ f. e (ap lock_f f))

pub unit_own : (h : Held) → unit h.slot h.which h ≡ weight h.write
unit_own h = rw (eq-eqb h.slot h.slot refl, eq-eqb (lock_f h.which) (lock_f h.which) refl)

pub unit_other : (i : ℕ) (l : Which) (h : Held) → ((h.slot ≡ i) × (h.which ≡ l) → ⊥) → unit i l h ≡ 0
unit_other i l h n = go (ℕ_discrete h.slot i) (ℕ_discrete (lock_f h.which) (lock_f l))
  where
    go : Dec (h.slot ≡ i) → Dec (lock_f h.which ≡ lock_f l) → unit i l h ≡ 0
    go (yes e) (yes f) = absurd (n (e, lock_one h.which l f))
    go (yes e) (no f) = rw (eq-eqb h.slot i e, ne_eqb (lock_f h.which) (lock_f l) f)
    go (no e) f = rw (ne_eqb h.slot i e)

pub has_units : (hs : List Held) (h : Held) → Among hs h → 0 < units h.slot h.which hs
unfolding units
has_units [] h m = absurd m
has_units (x ∷ xs) h (inl e) = rw (e, unit_own h) (omega (arith, weight_some h.write))
has_units (x ∷ xs) h (inr m) = omega (arith, has_units xs h m)

pub units_none : (i : ℕ) (l : Which) → units i l [] ≡ 0
unfolding units
units_none i l = refl

pub units_snoc : (i : ℕ) (l : Which) (hs : List Held) (h : Held) → units i l (hs ++ (h ∷ [])) ≡ units i l hs + unit i l h
unfolding units
units_snoc i l [] h = omega arith
units_snoc i l (x ∷ xs) h = omega (arith, units_snoc i l xs h)

pub has_snoc : (hs : List Held) (g h : Held) → Among (hs ++ (g ∷ [])) h → Among hs h ⊎ (g ≡ h)
has_snoc [] g h (inl e) = inr e
has_snoc [] g h (inr m) = absurd m
has_snoc (x ∷ xs) g h (inl e) = inl (inl e)
has_snoc (x ∷ xs) g h (inr m) = ⊎_elim (λ n. inl (inr n)) (λ n. inr n) (has_snoc xs g h m)

-- the words after h is taken, where it may be; after all of hs are given up
pub record Takes (L M : ℕ → Which → ℕ) (h : Held) : Type 0 where
  pub there : M h.slot h.which ≡ L h.slot h.which + weight h.write
  pub rest : (i : ℕ) (l : Which) → ((h.slot ≡ i) × (h.which ≡ l) → ⊥) → M i l ≡ L i l
  pub free : h.write ≡ true → L h.slot h.which ≡ 0
  pub shared : h.write ≡ false → L h.slot h.which ≢ 1

pub record Drops (L M : ℕ → Which → ℕ) (hs : List Held) : Type 0 where
  pub diff : (i : ℕ) (l : Which) → M i l + units i l hs ≡ L i l

module _ {W : Type 0} (held : W → List Held) (idle : W) where
  abbrev pub At : List W → ℕ → List Held
  At ws j = held (get_or ws j idle)

  pub record Locked (L : ℕ → Which → ℕ) (ws : List W) : Type 0 where
    pub counted : (i : ℕ) (l : Which) → L i l ≡ sum (λ w. units i l (held w)) ws
    pub fair : (j : ℕ) (h : Held) → j < length ws → Among (At ws j) h → h.write ≡ true → L h.slot h.which ≡ 1

  -- X: what one writes no other holds
  pub alone : {L : ℕ → Which → ℕ} {ws : List W} → Locked L ws → (a b : ℕ) → a ≢ b → a < length ws → b < length ws → (g h : Held)
      → g.slot ≡ h.slot → g.which ≡ h.which → g.write ≡ true → Among (At ws a) g → Among (At ws b) h → ⊥
  alone {L} {ws} k a b n la lb g h e f w p q = go (dec_lt a b)
    where
      one : L h.slot h.which ≡ 1
      one = ap₂ L (sym e) (sym f) ∙ k.fair a g la p w

      mine : 0 < units h.slot h.which (At ws a)
      mine = rw (e, f) at (has_units (At ws a) g p)

      yours : 0 < units h.slot h.which (At ws b)
      yours = has_units (At ws b) h q

      go : Dec (a < b) → ⊥
      go (yes l) = omega (arith, one, mine, yours, k.counted h.slot h.which, sum_two (λ v. units h.slot h.which (held v)) ws a b idle l lb)
      go (no l) =
          omega (arith, one, mine, yours, k.counted h.slot h.which, sum_two (λ v. units h.slot h.which (held v)) ws b a idle (omega arith) la)

  -- worker j becomes w, and each word changes by the difference
  module _ {L : ℕ → Which → ℕ} (M : ℕ → Which → ℕ) {ws : List W} (k : Locked L ws) (j : ℕ) (w : W) (lj : j < length ws) where
    recount : ((i : ℕ) (l : Which) → M i l + units i l (At ws j) ≡ L i l + units i l (held w)) → (i : ℕ) (l : Which) → M i l ≡ sum (λ v. units i l (held v)) (set ws j w)
    recount diff i l = omega (arith, diff i l, k.counted i l, sum_set (λ v. units i l (held v)) ws j w idle lj)

    -- a lock held after: by w, or by another before
    held_after : (a : ℕ) (h : Held) → Among (At (set ws j w) a) h → Among (held w) h ⊎ Among (At ws a) h
    held_after a h m = go (ℕ_discrete a j)
      where
        go : Dec (a ≡ j) → Among (held w) h ⊎ Among (At ws a) h
        go (yes e) = inl (rw (e, get_or-set_same ws j w idle lj) at m)
        go (no e) = inr (rw (get_or-set_other ws j a w idle e) at m)

    short : (a : ℕ) → a < length (set ws j w) → a < length ws
    short a l = rw (length-set ws j w) at l

    pub same_locks : ((i : ℕ) (l : Which) → M i l ≡ L i l) → held w ≡ At ws j → Locked M (set ws j w)
    same_locks e f = record {
      counted = recount (λ i l. omega (arith, e i l, ap (units i l) f));
      fair = λ a h la m t. ⊎_elim
          (λ n. e h.slot h.which ∙ k.fair j h lj (rw f at n) t)
          (λ n. e h.slot h.which ∙ k.fair a h (short a la) n t)
          (held_after a h m);
    }

    pub take_lock_lem : (h : Held) → Takes L M h → held w ≡ At ws j ++ (h ∷ []) → Locked M (set ws j w)
    take_lock_lem g t f = record {
      counted = recount (λ i l. omega (arith, ap (units i l) f, units_snoc i l (At ws j) g, grown i l));
      fair = λ a h la m z. ⊎_elim
          (λ n. ⊎_elim
          (λ o. old h z (k.fair j h lj o z))
          (λ o. rw (← o) (t.there ∙ ap₂ (λ (x y : ℕ). x + y) (t.free (ap (λ (q : Held). q.write) o ∙ z)) (ap weight (ap (λ (q : Held). q.write) o ∙ z))))
          (has_snoc (At ws j) g h (rw f at n)))
          (λ n. old h z (k.fair a h (short a la) n z))
          (held_after a h m);
    }
      where
        grown : (i : ℕ) (l : Which) → M i l ≡ L i l + unit i l g
        grown i l = go (ℕ_discrete g.slot i) (which_dec g.which l)
          where
            go : Dec (g.slot ≡ i) → Dec (g.which ≡ l) → M i l ≡ L i l + unit i l g
            go (yes e) (yes f) = rw (← e, ← f) (omega (arith, t.there, unit_own g))
            go (yes e) (no f) = omega (arith, t.rest i l (λ z. f z.1), unit_other i l g (λ z. f z.1))
            go (no e) f = omega (arith, t.rest i l (λ z. e z.0), unit_other i l g (λ z. e z.0))

        -- a word that was written is not the one taken
        old : (h : Held) → h.write ≡ true → L h.slot h.which ≡ 1 → M h.slot h.which ≡ 1
        old h z one = t.rest h.slot h.which (λ e. busy g.write refl (ap₂ L e.0 e.1 ∙ one)) ∙ one
          where
            busy : (b : Bool) → g.write ≡ b → L g.slot g.which ≡ 1 → ⊥
            busy true q o = omega (arith, t.free q, o)
            busy false q o = t.shared q o

    pub drop_all : Drops L M (At ws j) → held w ≡ [] → Locked M (set ws j w)
    drop_all t f = record { counted = again; fair = λ a h la m z. ⊎_elim (λ n. absurd (rw f at n)) (λ n. left a h (short a la) (k.fair a h (short a la) n z) m) (held_after a h m) }
      where
        again : (i : ℕ) (l : Which) → M i l ≡ sum (λ v. units i l (held v)) (set ws j w)
        again = recount (λ i l. omega (arith, ap (units i l) f, units_none i l, t.diff i l))

        left : (a : ℕ) (h : Held) → a < length ws → L h.slot h.which ≡ 1 → Among (At (set ws j w) a) h → M h.slot h.which ≡ 1
        left a h la one m =
            omega (
              arith,
              one,
              again h.slot h.which,
              t.diff h.slot h.which,
              has_units (At (set ws j w) a) h m,
              sum_at (λ v. units h.slot h.which (held v)) (set ws j w) a idle (rw (length-set ws j w) la),
            )
