-- WHAT A RUN DOES TO THE SET: a call changes it only as a step of an insert or a remove; the work in hand has changed it exactly if
-- its stage says so.
-- Assumes nothing.
use mathlib.Core.Path.{◌≡◌, refl, sym, ap, ◌∙◌, subst}
use mathlib.Core.Bool.{Bool, true, false, not, ◌&&◌, true≢false, false≢true}
use mathlib.Core.List.{List}
use mathlib.Core.Logic.{◌⊎◌, inl, inr}
use Prim.Native.Nat.{ℕ, zero, suc, ◌≤◌, ◌<◌}
use native.Mathlib.Omega.{arith}
use native.Mathlib.Decide.{ℕ_discrete}
use lib.ListN.{length, set, length-map}
use lib.Seq.{get_or-set_same, get_or-set_other}
use Rattle.tree.specs.Reach.{tab_of}
use Rattle.protocol.specs.Says.{going}
use Rattle.protocol.specs.Step.{idle_worker}
use Rattle.protocol.specs.Calls.{idle}
use Rattle.protocol.specs.Together.{Asked, step, System, record_at, idle_at, moment, words_at, born, steps}
use Rattle.protocol.specs.TogetherPromise.{AllIdle, SameSet, ChangedBy, Changes}
use Rattle.protocol.specs.declared.Kind.TheVariants.{Lookup, Insert, Remove}
use Rattle.protocol.specs.declared.Work.{Work}
use Rattle.protocol.specs.declared.Work.TheVariants.{Idle, Busy}
use Rattle.protocol.specs.declared.Worker.{Worker}
use Rattle.protocol.specs.declared.Phase.{Phase}
use Rattle.protocol.proofs.Together.Stages.{doing_by, doing, Fine, Fit, Working}
use Rattle.protocol.proofs.Together.Machine.{Answer, said, done}
use Rattle.protocol.proofs.Together.Good.{doings, doing_at, Good}
use Rattle.protocol.proofs.Together.Calls.{Moved}
use Rattle.protocol.proofs.Together.Called.{busy_inside, Tie, Called, none, by, swept, called}
use Rattle.protocol.proofs.Together.Run.{begins, busy_not, tie_one, Out, born_le, always}
use Rattle.protocol.proofs.Together.Does.{altered, TurnBy, MoveDoes, stays, turns, move_does}

abbrev pub altered_at : System → ℕ → Bool
altered_at s a = altered (doing (record_at s a))

same_path : (ws vs : List ℕ) → vs ≡ ws → SameSet ws vs
same_path ws vs e k = rw e ((λ x. x), (λ x. x))

-- a turn is a change by the work's key, and a change it is
changed_by : (k : Work) (key : ℕ) (p : Phase) (ws vs : List ℕ) → TurnBy (doing_by k key p) (tab_of ws) (tab_of vs) → ChangedBy k key ws vs
changed_by Idle key p ws vs t = t
changed_by (Busy Lookup) key p ws vs t = t
changed_by (Busy Insert) key p ws vs t = t
changed_by (Busy Remove) key p ws vs t = t

not_same : (k : Work) (key : ℕ) (ws vs : List ℕ) → ChangedBy k key ws vs → SameSet ws vs → ⊥
not_same Idle key ws vs c s = c
not_same (Busy Lookup) key ws vs c s = c
not_same (Busy Insert) key ws vs c s = c.0 ((s key).1 c.1)
not_same (Busy Remove) key ws vs c s = c.1 ((s key).0 c.0)

idle_altered : (k : Work) (key : ℕ) (p : Phase) → idle k ≡ true → altered (doing_by k key p) ≡ false
idle_altered Idle key p e = refl
idle_altered (Busy kind) key p e = absurd (false≢true e)

pub idle_turn : (k : Work) (key : ℕ) (ws vs : List ℕ) → idle k ≡ true → ChangedBy k key ws vs → ⊥
idle_turn Idle key ws vs e c = c
idle_turn (Busy kind) key ws vs e c = false≢true e

busy_working : (k : Work) (key : ℕ) (p : Phase) → idle k ≡ false → Working (doing_by k key p)
busy_working Idle key p e = absurd (true≢false e)
busy_working (Busy kind) key p e = tt

abbrev pub is_done : Answer → Bool
is_done (said v) = false
is_done done = true

pub starts_with : (x y : Bool) → x ≡ true → y ≡ false → (x && not y) ≡ true
starts_with x y e f = rw (e, f)

-- nobody is busy at the beginning
pub idle_first : (s : System) → AllIdle s.workers → (a : ℕ) → idle_at s a ≡ false → ⊥
idle_first s rest a b = true≢false (sym (ap idle (rest a (busy_inside s a b))) ∙ b)

-- WHAT ONE CALL TELLS
module _ {O : ℕ → ℕ → Type 0} {T : ℕ → ℕ} (s : System) (q : Asked) (g : Good s.words s.workers O T) where
  does : (a : ℕ) (l : a < length s.workers) (v : Worker) (vs : List ℕ) (o : Answer) → Moved s.words (record_at s a) v vs o
      → MoveDoes (tab_of s.words) (tab_of vs) (doing (record_at s a)) (doing v) o
  does a l v vs o m =
      let low : a < length (doings s.workers) = rw (length-map s.workers doing) l in
      move_does (O a) m.move g.inv.shape
      (subst (Fine (tab_of s.words) g.inv.rho (O a)) (doing_at s.workers a) (g.inv.fine a low))
      (subst Fit (doing_at s.workers a) (g.inv.fit a low))

  -- the set stays, or a step of an insert or remove changed it, which had not done so
  pub call_changes : (t : System) → Called s q t → SameSet s.words t.words
      ⊎ ((a : ℕ) × (q ≡ step a) × ChangedBy (record_at s a).work (record_at s a).key s.words t.words × (altered_at s a ≡ false))
  call_changes t (none e quiet) = inl (same_path s.words t.words (ap (λ (x : System). x.words) e))
  call_changes t (swept vs x y) = inl (λ k. ((x.set k).1, (x.set k).0))
  call_changes t (by a l v vs o m len tie) = go o tie (does a l v vs o m)
    where
      go : (o : Answer) → Tie s q a o → MoveDoes (tab_of s.words) (tab_of vs) (doing (record_at s a)) (doing v) o
          → SameSet s.words vs ⊎ ((b : ℕ) × (q ≡ step b) × ChangedBy (record_at s b).work (record_at s b).key s.words vs × (altered_at s b ≡ false))
      go o t (stays x y) = inl x
      go (said w) t (turns e x y z) = inr (a, t.0, changed_by (record_at s a).work (record_at s a).key (record_at s a).phase s.words vs z, x)
      go done t (turns e x y z) = absurd (not_done e)
        where
          not_done : done ≡ said going → ⊥
          not_done f = true≢false (ap is_done f)

  -- a record that is busy after the call
  pub data Tells (t : System) (a : ℕ) : Type 0 where
    begun : idle_at s a ≡ true → altered_at t a ≡ false → Tells t a
    stood : idle_at s a ≡ false → (q ≡ step a → SameSet s.words t.words) → altered_at t a ≡ altered_at s a → Tells t a
    turned : idle_at s a ≡ false → q ≡ step a → (SameSet s.words t.words → ⊥) → altered_at t a ≡ true → Tells t a

  as_before : (t : System) (a : ℕ) → record_at t a ≡ record_at s a → idle_at t a ≡ false → (q ≡ step a → SameSet s.words t.words) → Tells t a
  as_before t a e i h = stood (sym (ap (λ (w : Worker). idle w.work) e) ∙ i) h (ap (λ (w : Worker). altered (doing w)) e)

  pub tells : (t : System) → Called s q t → (a : ℕ) → idle_at t a ≡ false → Tells t a
  tells t (none e quiet) a i =
      as_before t a (ap (λ (x : System). record_at x a) e) i (λ f. same_path s.words t.words (ap (λ (x : System). x.words) e))
  tells t (swept vs x y) a i = as_before t a refl i (λ f. absurd (y a f))
  tells t (by b l v vs o m len tie) a i = go (ℕ_discrete a b)
    where
      t' : System
      t' = record { words = vs; workers = set s.workers b v }

      here : record_at t' b ≡ v
      here = get_or-set_same s.workers b v idle_worker l

      working : idle_at t' b ≡ false → Working (doing v)
      working j = busy_working v.work v.key v.phase (sym (ap (λ (w : Worker). idle w.work) here) ∙ j)

      asks : (o : Answer) → Tie s q b o → o ≡ said going → q ≡ step b
      asks (said w) x f = x.0
      asks done x f = absurd (true≢false (ap is_done f))

      moved : idle_at t' b ≡ false → (x : Bool) → idle_at s b ≡ x → MoveDoes (tab_of s.words) (tab_of vs) (doing (record_at s b)) (doing v) o → Tells t' b
      moved j true e (stays c d) =
          begun e (ap (λ (w : Worker). altered (doing w)) here ∙ d (working j) ∙ idle_altered (record_at s b).work (record_at s b).key (record_at s b).phase e)
      moved j false e (stays c d) = stood e (λ f. c) (ap (λ (w : Worker). altered (doing w)) here ∙ d (working j))
      moved j true e (turns f c d z) =
          absurd (idle_turn (record_at s b).work (record_at s b).key s.words vs e (changed_by (record_at s b).work (record_at s b).key (record_at s b).phase s.words vs z))
      moved j false e (turns f c d z) =
          turned e (asks o tie f)
          (not_same (record_at s b).work (record_at s b).key s.words vs (changed_by (record_at s b).work (record_at s b).key (record_at s b).phase s.words vs z))
          (ap (λ (w : Worker). altered (doing w)) here ∙ d)

      go : Dec (a ≡ b) → Tells t' a
      go (yes e) = rw e (moved (rw e at i) (idle_at s b) refl (does b l v vs o m))
      go (no e) = as_before t' a (get_or-set_other s.workers b a v idle_worker e) i (λ f. absurd (tie_one s q b o tie a e f))

-- THE WORK IN HAND HAS CHANGED THE SET EXACTLY IF ITS STAGE SAYS SO

-- before moment i
abbrev pub Earlier : (ℕ → Asked) → System → ℕ → ℕ → Type 0
Earlier asked s i a = (j : ℕ) × (born asked s i a ≤ j) × (j < i) × Changes asked s j a

module _ (asked : ℕ → Asked) (s : System) (g : Good s.words s.workers (Out asked s 0) (steps asked s 0)) (rest : AllIdle s.workers) where
  abbrev pub good_at : (i : ℕ) → Good (words_at asked s i) (moment asked s i).workers (Out asked s i) (steps asked s i)
  good_at i = always asked s g i

  abbrev pub called_at : (i : ℕ) → Called (moment asked s i) (asked i) (moment asked s (suc i))
  called_at i = called (moment asked s i) (good_at i) (asked i)

  born_begun : (i a : ℕ) → begins (moment asked s i) (moment asked s (suc i)) a ≡ true → born asked s (suc i) a ≡ suc i
  born_begun i a e = rw e

  pub born_same : (i a : ℕ) → idle_at (moment asked s i) a ≡ false → born asked s (suc i) a ≡ born asked s i a
  born_same i a e = rw (busy_not (idle_at (moment asked s i) a) (idle_at (moment asked s (suc i)) a) e)

  pub did_iff : (i a : ℕ) → idle_at (moment asked s i) a ≡ false
      → (altered_at (moment asked s i) a ≡ true → Earlier asked s i a) × (Earlier asked s i a → altered_at (moment asked s i) a ≡ true)
  did_iff zero a b = ((λ e. absurd (no_one a b)), (λ (j, l, m, c). absurd (omega arith)))
    where
      no_one : (a : ℕ) → idle_at s a ≡ false → ⊥
      no_one a b = idle_first s rest a b
  did_iff (suc i) a b = go (did_iff i a) (tells (moment asked s i) (asked i) (good_at i) (moment asked s (suc i)) (called_at i) a b)
    where
      S : System
      S = moment asked s i

      N : System
      N = moment asked s (suc i)

      earlier : idle_at S a ≡ false → Earlier asked s i a → Earlier asked s (suc i) a
      earlier e (j, l, m, c) = (j, rw (born_same i a e) l, omega arith, c)

      go : (idle_at S a ≡ false → (altered_at S a ≡ true → Earlier asked s i a) × (Earlier asked s i a → altered_at S a ≡ true)) → Tells S (asked i) (good_at i) N a → (altered_at N a ≡ true → Earlier asked s (suc i) a) × (Earlier asked s (suc i) a → altered_at N a ≡ true)
      go ih (begun e f) = (
        (λ z. absurd (true≢false (sym z ∙ f))),
        (λ (j, l, m, c). let z = born_begun i a (starts_with (idle_at S a) (idle_at N a) e b) in absurd (omega arith)),
      )
      go ih (stood e h f) = (
        (λ z. earlier e ((ih e).0 (sym f ∙ z))),
        (λ (j, l, m, c). f ∙ (ih e).1 (j, rw (born_same i a e) at l, older j m c, c)),
      )
        where
          older : (j : ℕ) → j < suc i → Changes asked s j a → j < i
          older j m c = at (ℕ_discrete j i)
            where
              at : Dec (j ≡ i) → j < i
              at (yes z) = absurd (let d : Changes asked s i a = rw z at c in d.1 (h d.0))
              at (no z) = omega arith
      go ih (turned e f h k) = ((λ z. (i, rw (born_same i a e) (born_le asked s i a), omega arith, (f, h))), (λ z. k))
