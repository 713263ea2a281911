-- A calm table keeps the bit rules and has a shape; and a table that does, with no lock held, no deleted slot reached and nobody
-- busy, is calm. Assumes nothing.
use mathlib.Core.Path.{◌≡◌, refl, sym, ◌∙◌}
use mathlib.Core.Bool.{Bool, true, false, cond}
use mathlib.Core.List.{List}
use mathlib.Core.Logic.{inl, inr, ⊎_elim, ◌≢◌}
use Prim.Native.Nat.{ℕ, suc, ◌≤◌, ◌<◌}
use native.Mathlib.Omega.{arith}
use native.Mathlib.Decide.{ℕ_discrete, dec_lt}
use lib.Dec.{eqb}
use lib.ListN.{length}
use borrow.Author.Tests.{ne_eqb, eqb-true, eqb-false}
use Rattle.moment.proofs.Tests.{tests, either}
use Rattle.table.specs.Pair.{as_data, routing, deleted, state_f, link_f, lock_f, busy_f, zeros_f, slots_of, field_of, state_of, link_of, lock_of, busy_of}
use Rattle.table.specs.Rules.{lock_fine, bits_fine, size_fine, table_fine}
use Rattle.table.specs.declared.Which.{Which}
use Rattle.table.proofs.PairLaws.{field_lt}
use Rattle.table.proofs.ChangeLaws.{field_beyond}
use Rattle.tree.specs.Reach.{Tab, tab_of, top, kid, Reached}
use Rattle.tree.specs.Walk.{Ordered}
use Rattle.tree.proofs.Trees.{Rooted, reached_bounds}
use Rattle.tree.proofs.TreeTest.{Fine}
use Rattle.tree.proofs.Judged.{Root, root_of, rooted, sound_exactly}
use Rattle.tree.proofs.SoundPaths.{sound_ordered, sound_from_paths}
use Rattle.protocol.specs.Alone.{Calm}
use Rattle.protocol.proofs.StoreLaws.{zero_field}
use Rattle.protocol.proofs.Paths.Shape.{Shape}
use Rattle.protocol.proofs.Alone.Tame.{Tame, tame_bits, tame_table, some_in}
use Rattle.protocol.proofs.Alone.Ranks.{rank_of, rank_capped, rank_rises}
use Rattle.protocol.proofs.Alone.Veil.{veil, state_at, link_at, state_shows, reached_out, reached_in, on_in, Grown, grown_ordered, grown_some, grown_two, grown_alive}

-- the slots that are deleted
abbrev pub gone_in : List ℕ → ℕ → Bool
gone_in ws i = eqb (state_of ws i) deleted

module _ {ws : List ℕ} (c : Calm ws) where
  root : Root ws
  root = root_of ws c.fine

  calm_size : size_fine (length ws) ≡ true
  unfolding table_fine
  calm_size = let f = c.fine in let p = simp tests at f in p.0

  bits : (i : ℕ) → i < slots_of ws → ((i ≢ 0) → field_of busy_f ws i ≡ 0) × (field_of zeros_f ws i ≡ 0)
  unfolding bits_fine
  bits i l =
      let b = c.sound.bits i l in
      let p = simp tests at b in
      ((λ n. ⊎_elim (λ e. absurd (n (eqb-true i 0 e))) (λ e. eqb-true (field_of busy_f ws i) 0 e) (either (eqb i 0) (eqb (field_of busy_f ws i) 0) p.0.1)), p.1)

  pub calm_locks : (i : ℕ) (l : Which) → lock_of ws i l ≡ 0
  calm_locks i l = go (dec_lt i (slots_of ws))
    where
      go : Dec (i < slots_of ws) → lock_of ws i l ≡ 0
      go (yes h) = c.no_lock i l h
      go (no h) = field_beyond (lock_f l) ws i (omega arith)

  pub calm_tame : Tame ws
  unfolding lock_fine
  calm_tame =
      record {
        size = calm_size;
        ones = root.ones;
        root_data = root.root_data;
        right = root.right;
        inside = c.sound.inside;
        light = λ i l h. rw (calm_locks i l);
        seats = let b = c.nobody in omega arith;
        lone = λ i l. (bits i l).0;
        bare = λ i l. (bits i l).1;
        zeros = c.sound.zeros;
      }

  -- THE SHAPE
  abbrev A : Tab
  A = tab_of ws

  abbrev B : Tab
  B = veil (gone_in ws) A

  unveiled : (x : ℕ) → Reached A x → gone_in ws x ≡ false
  unveiled x r = ne_eqb (state_of ws x) deleted (c.linked x r)

  tree : Rooted A (Fine ws) (slots_of ws)
  tree = rooted ws c.fine ((sound_exactly ws c.fine).1 c.sound)

  in_slots : (i : ℕ) → state_of ws i ≢ 0 → i < slots_of ws
  in_slots i n = some_in calm_tame state_f i n

  -- what is shown is data or routing, and so reached
  live : (i : ℕ) → B.state i ≢ 0 → Reached A i
  live i n =
      let e = state_shows (gone_in ws) A i n in
      let a : state_of ws i ≢ 0 = rw (state_at (gone_in ws) A i e) at n in
      let b : state_of ws i ≢ deleted = eqb-false (state_of ws i) deleted e in
      let h = field_lt state_f ws i in
      go a b h (ℕ_discrete (state_of ws i) as_data)
    where
      go : state_of ws i ≢ 0 → state_of ws i ≢ deleted → state_of ws i < 4 → Dec (state_of ws i ≡ as_data) → Reached A i
      go a b h (yes d) = c.sound.alive i (in_slots i a) (inl d)
      go a b h (no d) = c.sound.alive i (in_slots i a) (inr (two_left a b h d))
        where
          two_left : state_of ws i ≢ 0 → state_of ws i ≢ deleted → state_of ws i < 4 → state_of ws i ≢ as_data → state_of ws i ≡ routing
          two_left a b h d = omega arith

  ordered : Ordered B
  ordered p y d r e n =
      let r' = reached_out (gone_in ws) A r in
      let k = sound_ordered ws c.sound p y d r' (sym (link_at (gone_in ws) A p d (unveiled p r')) ∙ e) n in
      record { apart = k.apart; side = k.side; way = on_in (gone_in ws) A unveiled (top refl) k.way }

  -- a link that is shown
  child : (s y : ℕ) (d : Bool) → B.state s ≢ 0 → B.link s d ≡ y → y ≢ 0 → Reached A y × (A.link s d ≡ y)
  child s y d n e m =
      let f = sym (link_at (gone_in ws) A s d (state_shows (gone_in ws) A s n)) ∙ e in
      (kid d (live s n) f m, f)

  empty : (s : ℕ) (d : Bool) → state_of ws s ≡ 0 → link_of ws s d ≡ 0
  empty s d e = go (dec_lt s (slots_of ws))
    where
      go : Dec (s < slots_of ws) → link_of ws s d ≡ 0
      go (yes l) = zero_field ws s (link_f d) (c.sound.zeros s l e)
      go (no l) = field_beyond (link_f d) ws s (omega arith)

  calm_shape : Shape B (rank_of tree)
  calm_shape =
      record {
        cap = suc (slots_of ws);
        capped = rank_capped tree;
        small = λ s. low (gone_in ws s) (state_of ws s) (field_lt state_f ws s);
        root_data = state_at (gone_in ws) A 0 (unveiled 0 (top refl)) ∙ root.root_data;
        root_right = link_at (gone_in ws) A 0 false (unveiled 0 (top refl)) ∙ root.right;
        highest = λ s n m. (reached_bounds tree (live s n) m).1;
        edge = ordered;
        alive = λ s l. reached_in (gone_in ws) A unveiled (live s (omega arith));
        rank = λ s y d n e m.
            let h = child s y d n e m in
            ((λ z. c.sound.taken y h.0 (sym (state_at (gone_in ws) A y (unveiled y h.0)) ∙ z)), rank_rises tree d (live s n) h.1 m);
        bare = λ s d e. bare_at s d (gone_in ws s) refl e;
        two = λ s d e n.
            let k : B.state s ≢ 0 = λ z. (let q = sym z ∙ e in omega arith) in
            let f = state_shows (gone_in ws) A s k in
            c.sound.two s d (live s k) (sym (state_at (gone_in ws) A s f) ∙ e) (sym (link_at (gone_in ws) A s d f) ∙ n);
      }
    where
      low : (b : Bool) (v : ℕ) → v < 4 → cond b 0 v ≤ 3
      low true v h = omega arith
      low false v h = omega arith

      bare_at : (s : ℕ) (d : Bool) (b : Bool) → gone_in ws s ≡ b → B.state s ≡ 0 → B.link s d ≡ 0
      bare_at s d true b e = rw b
      bare_at s d false b e = rw b (empty s d (sym (state_at (gone_in ws) A s b) ∙ e))

  pub calm_grown : Grown (gone_in ws) A
  calm_grown =
      record { rho = rank_of tree; shape = calm_shape; gone = λ i e. eqb-true (state_of ws i) deleted e; legal = c.sound.legal }

-- CALM AGAIN
pub calm_again : {D : ℕ → Bool} {us : List ℕ} → Tame us → Grown D (tab_of us) → ((i : ℕ) (l : Which) → lock_of us i l ≡ 0)
    → ((y : ℕ) → Reached (tab_of us) y → state_of us y ≢ deleted) → busy_of us ≡ 0 → Calm us
calm_again {D} {us} t g f d b =
    record {
      fine = tame_table t;
      sound = sound_from_paths us (grown_ordered g) (tame_bits t) t.zeros (grown_some g) (grown_two g)
          (λ i l s. grown_alive g i (⊎_elim (λ e. omega arith) (λ e. omega arith) s)) g.legal;
      no_lock = λ i l h. f i l;
      linked = d;
      nobody = b;
    }
