-- THE STORES THAT TAKE A DELETED SLOT OUT: previous, or the one before, leads past it. And all stores of the plan together (`put`).
-- Assumes nothing.
use mathlib.Core.Path.{◌≡◌, refl, sym, ◌∙◌}
use mathlib.Core.Bool.{Bool, true, not}
use mathlib.Core.Logic.{◌⊎◌, inl, inr, ⊎_elim}
use Prim.Native.Nat.{ℕ, ◌<◌}
use native.Mathlib.Omega.{arith}
use Rattle.tree.specs.Reach.{Tab, kid, Reached}
use Rattle.protocol.specs.Plan.{plan}
use Rattle.protocol.specs.declared.Kind.{Kind}
use Rattle.protocol.specs.declared.Phase.TheVariants.{One, UnderData, UnderRouting}
use Rattle.protocol.proofs.Words.{SetLink}
use Rattle.protocol.proofs.Paths.Shape.{Live, Shape, unique_parent}
use Rattle.protocol.proofs.Paths.Stores.{Bypass}
use Rattle.protocol.proofs.Together.Facts.{pass}
use Rattle.protocol.proofs.Together.Wishes.{locks}
use Rattle.protocol.proofs.Together.Stages.{Stage, killed, killed_both, last, Knows}
use Rattle.protocol.proofs.Together.Moves.{not_same}
use Rattle.protocol.proofs.Together.Turns.{both, apart, key_root, dead_root, none, owned_pass, turn_pass}
use Rattle.protocol.proofs.Together.Puts.{Put, put_data, put_new, put_routing, kill_one, pass_one, kill_leaf, cut_leaf, kill_under, kill_routing, pass_routing, effect, After, put_data_lem, put_routing_lem, put_new_lem}
use Rattle.protocol.proofs.Together.Kills.{kill_one_lem, kill_leaf_lem, kill_under_lem, kill_routing_lem}

-- each link of v leads nowhere, to c, or to w that leads nowhere
abbrev Spent : Tab → ℕ → ℕ → ℕ → Bool → Type 0
Spent A v c w y = (A.link v y ≡ 0) ⊎ ((A.link v y ≡ c) ⊎ ((A.link v y ≡ w) × ((q : Bool) → A.link w q ≡ 0)))

module _ {A B : Tab} {rho : ℕ → ℕ} (h : Shape A rho) where
  pub pass_one_lem : (j : Kind) (k t p : ℕ) (s : Bool) (c : ℕ) (cs : Bool) → SetLink A B p s c → k < A.key 0 → Knows A rho j k (killed (One t p s c cs 0))
      → After A B rho h j k (killed (One t p s c cs 0)) (last (One t p s c cs 0)) none
  unfolding locks plan
  pass_one_lem j k t p s c cs b l ((m, f), ((m1, g), ((m2, v), ((m3, d), ((m4, o), ((n, e), ((n2, c0), z))))))) =
      let t0 = key_root h l e in
      let tc = (apart h cs m f c0).0 in
      let x : Bypass A B p s t c t = record {
        keys = b.keys;
        states = b.states;
        there = b.there;
        rest = b.rest;
        was = g;
        some = t0;
        one = both (Spent A t c t) cs (inr (inl f)) (inl o);
        from = λ i. (cs, f);
        under = inl refl;
        other = t0;
        differ = λ i. tc (sym i);
        live = v (rw g t0);
        dead = d;
        dead_too = d;
        two = inl c0;
      } in
      record {
        store = pass p s t c t x (inr (inl refl)) (inl c0);
        knows = tt;
        owned = owned_pass x h (killed (One t p s c cs 0)) (last (One t p s c cs 0)) (λ y i. inl i);
        turn = turn_pass x h k;
      }

  pub cut_leaf_lem : (j : Kind) (k t p : ℕ) (s : Bool) → SetLink A B p s 0 → k < A.key 0 → Knows A rho j k (killed (UnderData t p s 0))
      → After A B rho h j k (killed (UnderData t p s 0)) (last (UnderData t p s 0)) none
  unfolding locks plan
  cut_leaf_lem j k t p s b l ((m1, g), ((m3, d), ((m4, o1), ((m5, o2), ((m6, i), ((n, e), z)))))) =
      let t0 = key_root h l e in
      let x : Bypass A B p s t 0 t = record {
        keys = b.keys;
        states = b.states;
        there = b.there;
        rest = b.rest;
        was = g;
        some = t0;
        one = both (Spent A t 0 t) true (inl o1) (inl o2);
        from = λ u. absurd (u refl);
        under = inl refl;
        other = t0;
        differ = λ u. t0 (sym u);
        live = omega arith;
        dead = d;
        dead_too = d;
        two = inr i;
      } in
      record {
        store = pass p s t 0 t x (inl refl) (inr (_, inr (inr (inl refl))));
        knows = tt;
        owned = owned_pass x h (killed (UnderData t p s 0)) (last (UnderData t p s 0)) (λ y i. inl i);
        turn = turn_pass x h k;
      }

  pub pass_routing_lem : (j : Kind) (k t p : ℕ) (s : Bool) (a : ℕ) (d : Bool) (o : ℕ) → SetLink A B a d o → k < A.key 0
      → Knows A rho j k (killed_both (UnderRouting t p s a d o 0))
      → After A B rho h j k (killed_both (UnderRouting t p s a d o 0)) (last (UnderRouting t p s a d o 0)) none
  unfolding locks plan
  pass_routing_lem j k t p s a d o b l ((m1, g), ((m3, sd), ((m4, o1), ((m5, o2), ((m6, ot), ((m7, up), ((m8, av), ((m9, ps), ((n, e), ((n3, o0), z)))))))))) =
      let t0 = key_root h l e in
      let p0 = dead_root h ps in
      let la : Live A a = av (rw up p0) in
      let rp : Reached A p = kid d (h.alive a la) up p0 in
      let x : Bypass A B a d p o t = record {
        keys = b.keys;
        states = b.states;
        there = b.there;
        rest = b.rest;
        was = up;
        some = p0;
        one = both (Spent A p o t) s (inr (inr (g, both (λ q. A.link t q ≡ 0) true o1 o2))) (inr (inl ot));
        from = λ u. (not s, ot);
        under = inr (s, g);
        other = t0;
        differ = λ u. not_same s (unique_parent h s (not s) rp rp g (ot ∙ u) t0).1;
        live = la;
        dead = ps;
        dead_too = sd;
        two = inl o0;
      } in
      record {
        store = pass a d p o t x (inr (inr (inr (inl refl)))) (inl o0);
        knows = tt;
        owned = owned_pass x h (killed_both (UnderRouting t p s a d o 0)) (last (UnderRouting t p s a d o 0)) (λ y i. ⊎_elim (λ u. inr u) (λ u. inl u) i);
        turn = turn_pass x h k;
      }

  -- EVERY STORE: it is done under its locks, and leads from what is known to what is known
  pub put : (j : Kind) {k : ℕ} {p q : Stage} (b : Put A B k p q) → k < A.key 0 → Knows A rho j k p → After A B rho h j k p q (effect b)
  put j {k} (put_data {t = t} b) l q = put_data_lem h j k t b l q
  put j {k} (put_new {p = p} {s = s} f z b) l q = put_new_lem h j k p s f z b l q
  put j {k} (put_routing {t = t} b) l q = put_routing_lem h j k t b l q
  put j {k} (kill_one {t = t} {p = p} {s = s} {c = c} {cs = cs} b) l q = kill_one_lem h j k t p s c cs b l q
  put j {k} (pass_one {t = t} {p = p} {s = s} {c = c} {cs = cs} b) l q = pass_one_lem j k t p s c cs b l q
  put j {k} (kill_leaf {t = t} {p = p} {s = s} b) l q = kill_leaf_lem h j k t p s b l q
  put j {k} (cut_leaf {t = t} {p = p} {s = s} b) l q = cut_leaf_lem j k t p s b l q
  put j {k} (kill_under {t = t} {p = p} {s = s} {a = a} {d = d} {o = o} b) l q = kill_under_lem h j k t p s a d o b l q
  put j {k} (kill_routing {t = t} {p = p} {s = s} {a = a} {d = d} {o = o} b) l q = kill_routing_lem h j k t p s a d o b l q
  put j {k} (pass_routing {t = t} {p = p} {s = s} {a = a} {d = d} {o = o} b) l q = pass_routing_lem j k t p s a d o b l q
