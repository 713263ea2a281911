-- For every input each promise leaves one answer, and one content of the words: any two that it allows are equal.
-- Assumes nothing.
use mathlib.Core.Path.{◌≡◌, sym, ◌∙◌}
use mathlib.Core.Bool.{Bool}
use mathlib.Core.List.{List}
use Prim.Native.Nat.{ℕ}
use Rattle.std.specs.Prelude.{Result}
use Rattle.refusal.specs.declared.Refusal.{Refusal}
use Rattle.table.specs.declared.Which.{Which}
use Rattle.protocol.specs.Locks.{all_held, released}
use Rattle.protocol.specs.declared.Phase.{Phase}
use Rattle.protocol.specs.declared.Links.{Links}
use Rattle.locks.specs.Taking.{take_lock, given_up}
use Rattle.locks.specs.declared.Acted.{Acted}

pub all_held_one : (ws : List ℕ) (phase : Phase) (done : ℕ) (a b : Bool) → a ≡ all_held ws phase done → b ≡ all_held ws phase done → a ≡ b
all_held_one ws phase done a b p q = p ∙ sym q

pub release_all_one : (ws : List ℕ) (phase : Phase) (done : ℕ) (a b : List ℕ) → a ≡ released ws phase done → b ≡ released ws phase done → a ≡ b
release_all_one ws phase done a b p q = p ∙ sym q

-- an answer a, b with the words x, y
both_one : {A : Type 0} (d : A) (e : List ℕ) (a b : A) (x y : List ℕ) → (a ≡ d) × (x ≡ e) → (b ≡ d) × (y ≡ e) → (a ≡ b) × (x ≡ y)
both_one d e a b x y p q = (p.0 ∙ sym q.0, p.1 ∙ sym q.1)

pub give_up_one : (ws : List ℕ) (phase : Phase) (done : ℕ) (a b : Bool) (x y : List ℕ)
    → (a ≡ all_held ws phase done) × (x ≡ given_up ws phase done) → (b ≡ all_held ws phase done) × (y ≡ given_up ws phase done) → (a ≡ b) × (x ≡ y)
give_up_one ws phase done a b x y p q = both_one (all_held ws phase done) (given_up ws phase done) a b x y p q

pub take_lock_one : (ws : List ℕ) (slot : ℕ) (which : Which) (write : Bool) (state : ℕ) (links : Links) (a b : Result Acted Refusal) (x y : List ℕ)
    → let d = take_lock ws slot which write state links in (a ≡ d.said) × (x ≡ d.words) → (b ≡ d.said) × (y ≡ d.words) → (a ≡ b) × (x ≡ y)
take_lock_one ws slot which write state links a b x y p q =
    let d = take_lock ws slot which write state links in both_one d.said d.words a b x y p q
