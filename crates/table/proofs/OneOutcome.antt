-- For every input each promise leaves one answer, and one content of the words: any two that it allows are equal.
-- Assumes nothing.
use mathlib.Core.Path.{◌≡◌, refl, sym, ap, ◌∙◌}
use mathlib.Core.Bool.{Bool}
use mathlib.Core.List.{List}
use Prim.Native.Nat.{ℕ, ◌<◌}
use native.Mathlib.Omega.{arith}
use Rattle.std.specs.Prelude.{Option, None, Some, MatchOption, Result}
use Rattle.table.specs.Free.{lowest_free}
use Rattle.table.specs.Pair.{slots_of, word_of, key_of, state_of, link_of, lock_of, busy_of, set_key, set_state, set_link, set_lock, set_busy, zero_pair, zeroed}
use Rattle.table.specs.Rules.{bits_fine, pair_fine, table_fine, fresh_says, fresh_words}
use Rattle.table.specs.declared.Which.{Which}
use Rattle.refusal.specs.Said.{said}
use Rattle.refusal.specs.declared.Refusal.{Refusal}
use Rattle.refusal.proofs.SaidLaws.{said_one}

pub slots_one : (ws : List ℕ) (a b : ℕ) → a ≡ slots_of ws → b ≡ slots_of ws → a ≡ b
slots_one ws a b p q = p ∙ sym q

pub key_one : (ws : List ℕ) (i : ℕ) (a b : ℕ) → a ≡ key_of ws i → b ≡ key_of ws i → a ≡ b
key_one ws i a b p q = p ∙ sym q

pub fields_one : (ws : List ℕ) (i : ℕ) (a b : ℕ) → a ≡ word_of ws i 1 → b ≡ word_of ws i 1 → a ≡ b
fields_one ws i a b p q = p ∙ sym q

pub lowest_free_one : (ws : List ℕ) (a b : ℕ) → a ≡ lowest_free ws → b ≡ lowest_free ws → a ≡ b
lowest_free_one ws a b p q = p ∙ sym q

-- of what the search returns: the slot, or none
pub lowest_free_found_one : (ws : List ℕ) (a b : Option ℕ) → MatchOption a (lowest_free ws ≡ 0) (λ i. (i ≡ lowest_free ws) × (0 < i))
    → MatchOption b (lowest_free ws ≡ 0) (λ i. (i ≡ lowest_free ws) × (0 < i)) → a ≡ b
lowest_free_found_one ws None None p q = refl
lowest_free_found_one ws None (Some j) p q = absurd (omega (arith, p, q.0, q.1))
lowest_free_found_one ws (Some i) None p q = absurd (omega (arith, q, p.0, p.1))
lowest_free_found_one ws (Some i) (Some j) p q = ap Some (p.0 ∙ sym q.0)

pub state_one : (ws : List ℕ) (i : ℕ) (a b : ℕ) → a ≡ state_of ws i → b ≡ state_of ws i → a ≡ b
state_one ws i a b p q = p ∙ sym q

pub link_one : (ws : List ℕ) (i : ℕ) (side : Bool) (a b : ℕ) → a ≡ link_of ws i side → b ≡ link_of ws i side → a ≡ b
link_one ws i side a b p q = p ∙ sym q

pub lock_one : (ws : List ℕ) (i : ℕ) (which : Which) (a b : ℕ) → a ≡ lock_of ws i which → b ≡ lock_of ws i which → a ≡ b
lock_one ws i which a b p q = p ∙ sym q

pub busy_one_lem : (ws : List ℕ) (a b : ℕ) → a ≡ busy_of ws → b ≡ busy_of ws → a ≡ b
busy_one_lem ws a b p q = p ∙ sym q

pub set_key_one : (ws : List ℕ) (i k : ℕ) (a b : List ℕ) → a ≡ set_key ws i k → b ≡ set_key ws i k → a ≡ b
set_key_one ws i k a b p q = p ∙ sym q

pub set_state_one : (ws : List ℕ) (i s : ℕ) (a b : List ℕ) → a ≡ set_state ws i s → b ≡ set_state ws i s → a ≡ b
set_state_one ws i s a b p q = p ∙ sym q

pub set_link_one : (ws : List ℕ) (i : ℕ) (side : Bool) (c : ℕ) (a b : List ℕ) → a ≡ set_link ws i side c → b ≡ set_link ws i side c → a ≡ b
set_link_one ws i side c a b p q = p ∙ sym q

pub set_lock_one : (ws : List ℕ) (i : ℕ) (which : Which) (x : ℕ) (a b : List ℕ) → a ≡ set_lock ws i which x → b ≡ set_lock ws i which x → a ≡ b
set_lock_one ws i which x a b p q = p ∙ sym q

pub set_busy_one : (ws : List ℕ) (n : ℕ) (a b : List ℕ) → a ≡ set_busy ws n → b ≡ set_busy ws n → a ≡ b
set_busy_one ws n a b p q = p ∙ sym q

pub zero_pair_one : (ws : List ℕ) (i : ℕ) (a b : Bool) → a ≡ zero_pair ws i → b ≡ zero_pair ws i → a ≡ b
zero_pair_one ws i a b p q = p ∙ sym q

pub zero_slot_one : (ws : List ℕ) (i : ℕ) (a b : List ℕ) → a ≡ zeroed ws i → b ≡ zeroed ws i → a ≡ b
zero_slot_one ws i a b p q = p ∙ sym q

pub bits_fine_one : (ws : List ℕ) (i : ℕ) (a b : Bool) → a ≡ bits_fine ws i → b ≡ bits_fine ws i → a ≡ b
bits_fine_one ws i a b p q = p ∙ sym q

pub pair_fine_one : (ws : List ℕ) (i : ℕ) (a b : Bool) → a ≡ pair_fine ws i → b ≡ pair_fine ws i → a ≡ b
pair_fine_one ws i a b p q = p ∙ sym q

pub table_fine_one : (ws : List ℕ) (a b : Bool) → a ≡ table_fine ws → b ≡ table_fine ws → a ≡ b
table_fine_one ws a b p q = p ∙ sym q

-- the answers a, b with the words x, y
pub fresh_one : (ws : List ℕ) (a b : Result (Unit {0}) Refusal) (x y : List ℕ) → (said a ≡ fresh_says ws) × (x ≡ fresh_words ws)
    → (said b ≡ fresh_says ws) × (y ≡ fresh_words ws) → (a ≡ b) × (x ≡ y)
fresh_one ws a b x y p q = (said_one a b (p.0 ∙ sym q.0), p.1 ∙ sym q.1)
