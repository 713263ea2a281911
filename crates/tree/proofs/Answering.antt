-- The answers, as the code comes to them: one law for each way out of a function.
-- Assumes nothing.
use mathlib.Core.Path.{◌≡◌, refl, sym, ap, ◌∙◌}
use mathlib.Core.Bool.{Bool, true, false, cond, ◌&&◌}
use mathlib.Core.List.{List, ◌++◌}
use Prim.Native.Nat.{ℕ, suc, ◌+◌, ◌-◌, ◌≤◌, ◌<◌}
use native.Mathlib.Omega.{arith}
use native.Mathlib.Nat.{zero-add}
use native.Mathlib.Decide.{ℕ_discrete}
use lib.Dec.{ltb, eqb}
use lib.ListN.{length, take, drop, length-append}
use lib.Seq.{take-append_seam, length-take-le}
use borrow.Author.Tests.{eqb-false, ltb-false, lt-ltb, le-ltb, eq-eqb, ne_eqb}
use Rattle.layout.specs.Filling.{Put}
use Rattle.refusal.specs.Said.{Said, gives, refuses, number}
use Rattle.refusal.specs.declared.Refusal.{Refusal}
use Rattle.refusal.proofs.SaidLaws.{number-eqb_zero}
use Rattle.table.specs.Pair.{as_data, slots_of, key_of, link_of}
use Rattle.table.specs.Rules.{table_fine}
use Rattle.tree.specs.Judge.{every, pair_sound, tree_sound, want, live, inorder, reached_of, live_slots, sound_of, keys_at}
use Rattle.tree.specs.Places.{refusal_of, tree_room}
use Rattle.tree.specs.Answers.{fine_then, sound_then, keys_of, fits, list_says, list_holds, list_front}
use Rattle.tree.proofs.Rooms.{put_all}

-- sound: as many places as the live slots are taken, and one is left
one_left : (p t : Bool) (l m : ℕ) → eqb (cond t (cond p (suc m) 0 - l) 0) 1 ≡ (p && t && eqb l m)
one_left true true l m = go (ℕ_discrete l m)
  where
    go : Dec (l ≡ m) → eqb (suc m - l) 1 ≡ eqb l m
    go (yes e) = eq-eqb (suc m - l) 1 (omega arith) ∙ sym (eq-eqb l m e)
    go (no e) = ne_eqb (suc m - l) 1 (λ q. e (omega arith)) ∙ sym (ne_eqb l m e)
one_left true false l m = refl
one_left false true l m = ne_eqb (0 - l) 1 (omega arith)
one_left false false l m = refl

pub sound_room : (ws : List ℕ) (room n l k : ℕ) → room ≡ cond (every (pair_sound ws) (slots_of ws)) (suc (length (live_slots ws (slots_of ws)))) 0
    → n ≡ slots_of ws → l ≡ link_of ws 0 true → k ≡ key_of ws 0 → eqb (tree_room ws n l 0 k room) 1 ≡ sound_of ws
unfolding sound_of reached_of tree_room
sound_room ws room n l k e en el ek =
    rw (e, en, el, ek)
    (one_left (every (pair_sound ws) (slots_of ws)) (tree_sound ws (slots_of ws) (link_of ws 0 true) 0 (key_of ws 0))
    (length (inorder ws live (slots_of ws) (link_of ws 0 true))) (length (live_slots ws (slots_of ws))))

-- what the judgement of a table tells: it is sound, or each call that asks for a sound one is refused so
module _ (ws : List ℕ) where
  pub judged_sound : ◌≡◌ {A = Said (Unit {0})} (gives tt) (fine_then ws (sound_then ws (gives tt))) → (table_fine ws ≡ true) × (sound_of ws ≡ true)
  judged_sound e = go (table_fine ws) (sound_of ws) e
    where
      go : (a b : Bool) → ◌≡◌ {A = Said (Unit {0})} (gives tt) (cond a (cond b (gives tt) (refuses 6)) (refuses 1)) → (a ≡ true) × (b ≡ true)
      go true true e = (refl, refl)
      go true false e = cc
      go false b e = cc

  pub judged_not : {A : Type 0} (x : Said A) (n : ℕ) → ◌≡◌ {A = Said (Unit {0})} (refuses n) (fine_then ws (sound_then ws (gives tt)))
      → refuses n ≡ fine_then ws (sound_then ws x)
  judged_not {A} x n e = go (table_fine ws) (sound_of ws) e
    where
      go : (a b : Bool) → ◌≡◌ {A = Said (Unit {0})} (refuses n) (cond a (cond b (gives tt) (refuses 6)) (refuses 1)) → ◌≡◌ {A = Said A} (refuses n) (cond a (cond b x (refuses 6)) (refuses 1))
      go true true e = cc
      go true false e = let q : n ≡ 6 = cc in ap refuses q
      go false b e = let q : n ≡ 1 = cc in ap refuses q

-- a refusal by its number, which is never 0
pub is_refused : {A : Type 0} (a : Said A) (n : ℕ) → n ≡ refusal_of a → (n ≡ 0 → ⊥) → refuses n ≡ a
is_refused (gives x) n e z = absurd (z e)
is_refused (refuses m) n e z = ap refuses e

-- the list: the numbers, and what 0 says
module _ (ws : List ℕ) (low high room : ℕ) where
  module _ (f : table_fine ws ≡ true) (s : sound_of ws ≡ true) where
    pub list_fits : length (keys_of ws low high) ≤ room → 0 ≡ refusal_of (list_says ws low high room)
    unfolding list_says fits
    list_fits h = rw (f, s, le-ltb room (length (keys_of ws low high)) h)

    pub list_over : room < length (keys_of ws low high) → 11 ≡ refusal_of (list_says ws low high room)
    unfolding list_says fits
    list_over h = rw (f, s, lt-ltb room (length (keys_of ws low high)) h)

  pub list_tells : refusal_of (list_says ws low high room) ≡ 0 → (length (keys_of ws low high) ≤ room) × (list_says ws low high room ≡ fits room (keys_of ws low high))
  unfolding list_says fits
  list_tells e = go (table_fine ws) (sound_of ws) (ltb room (length (keys_of ws low high))) refl e
    where
      go : (a b c : Bool) → ltb room (length (keys_of ws low high)) ≡ c → refusal_of (cond a (cond b (cond c (refuses 11) (gives (length (keys_of ws low high)))) (refuses 6)) (refuses 1)) ≡ 0
          → (length (keys_of ws low high) ≤ room) × (cond a (cond b (cond c (refuses 11) (gives (length (keys_of ws low high)))) (refuses 6)) (refuses 1) ≡ cond c (refuses 11) (gives (length (keys_of ws low high))))
      go true true true q h = absurd (omega arith)
      go true true false q h = (ltb-false room (length (keys_of ws low high)) q, refl)
      go true false c q h = absurd (omega arith)
      go false b c q h = absurd (omega arith)

pub list_numbered : (ws : List ℕ) (low high : ℕ) (o : List ℕ) (e : Refusal) → number e ≡ refusal_of (list_says ws low high (length o))
    → (refuses (number e) ≡ list_says ws low high (length o)) × (o ≡ list_holds ws low high o)
unfolding list_holds
list_numbered ws low high o e h =
    let r = is_refused (list_says ws low high (length o)) (number e) h (eqb-false (number e) 0 (number-eqb_zero e)) in (r, rw (← r))

module _ (ws : List ℕ) (n l : ℕ) (en : n ≡ slots_of ws) (el : l ≡ link_of ws 0 true) where
  module _ (low high : ℕ) (o : List ℕ) (h : refusal_of (list_says ws low high (length o)) ≡ 0) where
    pub list_room : 0 + length (keys_at ws (inorder ws (want as_data as_data low high) n l)) ≤ length o
    unfolding keys_of reached_of
    list_room = rw (en, el) (rw zero-add (list_tells ws low high (length o) h).0)

    pub list_done : (m : ℕ) (o' : List ℕ) → Put o 0 (keys_at ws (inorder ws (want as_data as_data low high) n l)) m o'
        → (gives m ≡ list_says ws low high (length o)) × (o' ≡ list_holds ws low high o)
    unfolding keys_of reached_of list_holds
    list_done m o' p =
        let t = list_tells ws low high (length o) h in
        rw t.1 (put_all (keys_of ws low high) o o' m t.0 (rw (← en, ← el) p))

-- the front that is handed back
fits_tells : (room n : ℕ) (ks : List ℕ) (t : Bool) → cond t (refuses 11) (gives (length ks)) ≡ gives n → n ≡ length ks
fits_tells room n ks true e = let z : ◌≡◌ {A = ℕ} 0 1 = cc in absurd (omega arith)
fits_tells room n ks false e = cc

gives_count : (t s : Bool) (room n : ℕ) (ks : List ℕ) → cond t (cond s (fits room ks) (refuses 6)) (refuses 1) ≡ gives n → n ≡ length ks
unfolding fits
gives_count true true room n ks e = fits_tells room n ks (ltb room (length ks)) e
gives_count true false room n ks e = let z : ◌≡◌ {A = ℕ} 0 1 = cc in absurd (omega arith)
gives_count false s room n ks e = let z : ◌≡◌ {A = ℕ} 0 1 = cc in absurd (omega arith)

pub list_count : (ws : List ℕ) (low high room n : ℕ) → list_says ws low high room ≡ gives n → n ≡ length (keys_of ws low high)
unfolding list_says
list_count ws low high room n e = gives_count (table_fine ws) (sound_of ws) room n (keys_of ws low high) e

module _ (ws : List ℕ) (low high : ℕ) (o : List ℕ) (n : ℕ) (o' : List ℕ) (e : gives n ≡ list_says ws low high (length o)) (h : o' ≡ list_holds ws low high o) where
  keys_front : o' ≡ keys_of ws low high ++ drop n o
  unfolding list_holds
  keys_front = rw (← e) at h

  pub front_counted : take n o' ≡ list_front ws low high o
  unfolding list_front
  front_counted =
      let ks = keys_of ws low high in
      let c = list_count ws low high (length o) n (sym e) in
      rw (← e) (rw (keys_front, c) (take-append_seam ks (drop (length ks) o)))

  pub front_length : n ≡ length (take n o')
  front_length =
      let c = list_count ws low high (length o) n (sym e) in
      sym (length-take-le n o' (rw keys_front (simp length-append (omega arith))))
