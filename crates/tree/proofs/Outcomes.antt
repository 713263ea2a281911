-- What an answer tells, for each call: which tables give it, that a refusal changes nothing, and that the promise leaves
-- one outcome (two answers that say the same are the same).
-- Assumes nothing.
use mathlib.Core.Path.{◌≡◌, refl, sym, ap, ◌∙◌}
use mathlib.Core.Bool.{Bool, true, false, cond}
use mathlib.Core.List.{List}
use mathlib.Core.Logic.{◌⊎◌, inl, inr, ⊎_elim}
use Prim.Native.Nat.{ℕ, ◌≤◌}
use native.Mathlib.Omega.{arith}
use lib.Dec.{ltb}
use lib.ListN.{length}
use borrow.Author.Tests.{eqb-false, ltb-false}
use Rattle.std.specs.Prelude.{Result, Ok, Err, IfOk}
use Rattle.refusal.specs.Said.{Said, gives, refuses, number, said, judged}
use Rattle.refusal.specs.declared.Refusal.{Refusal}
use Rattle.refusal.proofs.SaidLaws.{said_one, number_one, number-eqb_zero}
use Rattle.table.specs.Rules.{table_fine}
use Rattle.tree.specs.Reach.{InSet}
use Rattle.tree.specs.Sound.{Sound}
use Rattle.tree.specs.Judge.{sound_of}
use Rattle.tree.specs.Answers.{sound_then, check_says, keys_of, fits, list_says, list_holds, list_front, list_number, first_says, sweep_says, sweep_words}
use Rattle.tree.proofs.Judged.{sound_exactly}
use Rattle.tree.proofs.Lists.{First, head_first, head_13}
use Rattle.tree.proofs.Answering.{list_count}

-- ONE OUTCOME

-- any two outcomes that a promise allows are equal: the answer, and what is left of table and buffer
pub check_once : (ws : List ℕ) (a b : Result Bool Refusal) → said a ≡ check_says ws → said b ≡ check_says ws → a ≡ b
check_once ws a b p q = said_one a b (p ∙ sym q)

pub list_once : (ws : List ℕ) (low high : ℕ) (o : List ℕ) (a b : Result ℕ Refusal) (o₁ o₂ : List ℕ)
    → (said a ≡ list_says ws low high (length o)) × (o₁ ≡ list_holds ws low high o)
    → (said b ≡ list_says ws low high (length o)) × (o₂ ≡ list_holds ws low high o) → (a ≡ b) × (o₁ ≡ o₂)
list_once ws low high o a b o₁ o₂ p q = (said_one a b (p.0 ∙ sym q.0), p.1 ∙ sym q.1)

pub part_once : (ws : List ℕ) (low high : ℕ) (o r₁ r₂ : List ℕ) (n₁ n₂ : ℕ)
    → (r₁ ≡ list_front ws low high o) × (n₁ ≡ list_number ws low high o)
    → (r₂ ≡ list_front ws low high o) × (n₂ ≡ list_number ws low high o) → (r₁ ≡ r₂) × (n₁ ≡ n₂)
part_once ws low high o r₁ r₂ n₁ n₂ p q = (p.0 ∙ sym q.0, p.1 ∙ sym q.1)

-- of what `list` returns, with what the handed part holds: the front, or the refusal
pub handed_once : (ws : List ℕ) (low high : ℕ) (o : List ℕ) (a b : Result (List ℕ) Refusal)
    → IfOk a (λ r. r ≡ list_front ws low high o) × (judged a ≡ list_number ws low high o)
    → IfOk b (λ r. r ≡ list_front ws low high o) × (judged b ≡ list_number ws low high o) → a ≡ b
handed_once ws low high o (Ok r) (Ok t) p q = ap Ok (p.0 ∙ sym q.0)
handed_once ws low high o (Ok r) (Err e) p q = absurd (eqb-false (number e) 0 (number-eqb_zero e) (q.1 ∙ sym p.1))
handed_once ws low high o (Err d) (Ok t) p q = absurd (eqb-false (number d) 0 (number-eqb_zero d) (p.1 ∙ sym q.1))
handed_once ws low high o (Err d) (Err e) p q = ap Err (number_one d e (p.1 ∙ sym q.1))

pub first_once : (ws : List ℕ) (from : ℕ) (a b : Result ℕ Refusal) → said a ≡ first_says ws from → said b ≡ first_says ws from → a ≡ b
first_once ws from a b p q = said_one a b (p ∙ sym q)

pub sweep_once : (ws : List ℕ) (a b : Result (Unit {0}) Refusal) (vs₁ vs₂ : List ℕ) → (said a ≡ sweep_says ws) × (vs₁ ≡ sweep_words ws)
    → (said b ≡ sweep_says ws) × (vs₂ ≡ sweep_words ws) → (a ≡ b) × (vs₁ ≡ vs₂)
sweep_once ws a b vs₁ vs₂ p q = (said_one a b (p.0 ∙ sym q.0), p.1 ∙ sym q.1)

-- WHAT A TEST BEFORE AN ANSWER TELLS: it was passed, or its number is the answer

pub passed : {A : Type 0} (t : Bool) (r : ℕ) (a : Said A) (v : A) → cond t a (refuses r) ≡ gives v → (t ≡ true) × (a ≡ gives v)
passed true r a v e = (refl, e)
passed false r a v e = let z : ◌≡◌ {A = ℕ} 0 1 = cc in absurd (omega arith)

pub stopped : {A : Type 0} (t : Bool) (r n : ℕ) (a : Said A) → cond t a (refuses r) ≡ refuses n → ((t ≡ false) × (n ≡ r)) ⊎ ((t ≡ true) × (a ≡ refuses n))
stopped true r n a e = inr (refl, e)
stopped false r n a e = inl (refl, cc)

-- CHECK: sound exactly if it says so; 1 exactly for rule 1

pub check_sound : (ws : List ℕ) → check_says ws ≡ gives true → (table_fine ws ≡ true) × Sound ws
unfolding check_says
check_sound ws e =
    let p = passed (table_fine ws) 1 (gives (sound_of ws)) true e in
    let q = p.1 in
    (p.0, (sound_exactly ws p.0).0 cc)

pub check_unsound : (ws : List ℕ) → check_says ws ≡ gives false → (table_fine ws ≡ true) × (Sound ws → ⊥)
unfolding check_says
check_unsound ws e =
    let p = passed (table_fine ws) 1 (gives (sound_of ws)) false e in
    let q = p.1 in
    (p.0, λ s. let r = (sound_exactly ws p.0).1 s in let z : ◌≡◌ {A = ℕ} 0 1 = cc in omega arith)

pub sound_checked : (ws : List ℕ) → table_fine ws ≡ true → Sound ws → check_says ws ≡ gives true
unfolding check_says
sound_checked ws f s = rw (f, (sound_exactly ws f).1 s)

pub check_refused : (ws : List ℕ) (n : ℕ) → check_says ws ≡ refuses n → (table_fine ws ≡ false) × (n ≡ 1)
unfolding check_says
check_refused ws n e = ⊎_elim (λ p. p) (λ p. let q = p.1 in let z : ◌≡◌ {A = ℕ} 0 1 = cc in absurd (omega arith)) (stopped (table_fine ws) 1 n (gives (sound_of ws)) e)

-- LIST: so many keys, of a sound table, within the buffer

pub list_gives : (ws : List ℕ) (low high room n : ℕ) → list_says ws low high room ≡ gives n
    → (table_fine ws ≡ true) × Sound ws × (n ≡ length (keys_of ws low high)) × (n ≤ room)
unfolding list_says fits
list_gives ws low high room n e =
    let p = passed (table_fine ws) 1 (sound_then ws (fits room (keys_of ws low high))) n e in
    let q = passed (sound_of ws) 6 (fits room (keys_of ws low high)) n p.1 in
    let c = list_count ws low high room n e in
    (p.0, (sound_exactly ws p.0).0 q.0, c, go (ltb room (length (keys_of ws low high))) refl q.1 c)
  where
    go : (t : Bool) → ltb room (length (keys_of ws low high)) ≡ t → cond t (refuses 11) (gives (length (keys_of ws low high))) ≡ gives n
        → n ≡ length (keys_of ws low high) → n ≤ room
    go true b h c = let z : ◌≡◌ {A = ℕ} 0 1 = cc in absurd (omega arith)
    go false b h c = omega (arith, ltb-false room (length (keys_of ws low high)) b)

pub list_refused : (ws : List ℕ) (low high n : ℕ) (o : List ℕ) → list_says ws low high (length o) ≡ refuses n → list_holds ws low high o ≡ o
unfolding list_holds
list_refused ws low high n o e = rw e

-- FIRST FRAME

pub first_gives : (ws : List ℕ) (from k : ℕ) → first_says ws from ≡ gives k → First ws from k
unfolding first_says
first_gives ws from k e =
    let p = passed (table_fine ws) 1 (sound_then ws _) k e in
    let q = passed (sound_of ws) 6 _ k p.1 in
    head_first ws p.0 ((sound_exactly ws p.0).0 q.0) from k q.1

pub first_none : (ws : List ℕ) (from : ℕ) → first_says ws from ≡ refuses 13 → (table_fine ws ≡ true) × Sound ws × ((j : ℕ) → InSet ws j → from ≤ j → ⊥)
unfolding first_says
first_none ws from e =
    ⊎_elim (λ p. let q = p.1 in absurd (omega arith))
    (λ p. ⊎_elim (λ q. let r = q.1 in absurd (omega arith))
    (λ q. let s = (sound_exactly ws p.0).0 q.0 in (p.0, s, (head_13 ws p.0 s from 13 q.1).1))
    (stopped (sound_of ws) 6 13 _ p.1))
    (stopped (table_fine ws) 1 13 _ e)

-- SWEEP

pub sweep_refused : (ws : List ℕ) (n : ℕ) → sweep_says ws ≡ refuses n → sweep_words ws ≡ ws
unfolding sweep_words
sweep_refused ws n e = rw e
