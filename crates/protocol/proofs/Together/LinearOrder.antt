-- THE WHOLE ORDER, moment after moment: where it leads, that it has what it should, and that each stands at its time, once.
-- Assumes nothing.
use mathlib.Core.Path.{◌≡◌, sym, ap, ◌∙◌, subst}
use mathlib.Core.Bool.{Bool, true, false, true≢false}
use mathlib.Core.List.{List, []}
use mathlib.Core.Logic.{inl, ◌≢◌}
use Prim.Native.Nat.{ℕ, zero, suc, ◌+◌, ◌≤◌, ◌<◌}
use native.Mathlib.Omega.{arith}
use native.Mathlib.Decide.{ℕ_discrete}
use Rattle.protocol.specs.Together.{Asked, System, words_at}
use Rattle.protocol.specs.TogetherPromise.{SameSet}
use Rattle.protocol.specs.Linear.{Entry, told, made, call_of, Has, Each, Pairs}
use Rattle.protocol.proofs.Together.LinearWorks.{same}
use Rattle.protocol.proofs.Together.LinearHistory.{
  Tells,
  Judged,
  MadeBy,
  Turns,
  Leads,
  moment_of,
  tell,
  turn,
  each_weak,
  each_tell,
  pairs_tell,
  has_tell,
  told_tell,
  leads_tell,
  each_turn,
  pairs_turn,
  has_turn,
  made_turn,
  leads_turn,
}

abbrev is_told : Entry → Bool
is_told (told i) = true
is_told (made k) = false

module _ (asked : ℕ → Asked) (s : System) (judged : (i : ℕ) → Judged asked s i) (turns : (k : ℕ) → Turns asked s k) where
  -- the works of calls before n whose answer was true at moment k, before h
  abbrev tells : ℕ → ℕ → List Entry → List Entry
  tells k zero h = h
  tells k (suc n) h = tell asked s k n (judged n) (tells k n h)

  abbrev pub time_of : Entry → ℕ
  time_of (told i) = moment_of asked s (judged i)
  time_of (made k) = k

  each_tells : (P : Entry → Type 0) (k n : ℕ) (h : List Entry)
      → ((i : ℕ) (t : Tells asked s i) → i < n → judged i ≡ inl t → t.1.m ≡ k → P (told i)) → Each P h → Each P (tells k n h)
  each_tells P k zero h f e = e
  each_tells P k (suc n) h f e =
      each_tell asked s P k n (judged n) (tells k n h) (λ t. f n t (omega arith)) (each_tells P k n h (λ i t l. f i t (omega arith)) e)

  has_tells : (k n : ℕ) (h : List Entry) (x : Entry) → Has h x → Has (tells k n h) x
  has_tells k zero h x e = e
  has_tells k (suc n) h x e = has_tell asked s k n (judged n) (tells k n h) x (has_tells k n h x e)

  told_tells : (k n : ℕ) (h : List Entry) (i : ℕ) (t : Tells asked s i) → i < n → judged i ≡ inl t → t.1.m ≡ k → Has (tells k n h) (told i)
  told_tells k zero h i t l e z = absurd (omega arith)
  told_tells k (suc n) h i t l e z = go (λ m. told_tells k n h i t m e z) (ℕ_discrete n i)
    where
      go : (i < n → Has (tells k n h) (told i)) → Dec (n ≡ i) → Has (tells k (suc n) h) (told i)
      go ih (yes y) =
          subst (λ (x : ℕ). Has (tell asked s k x (judged x) (tells k n h)) (told i)) (sym y)
          (told_tell asked s k i (judged i) (tells k n h) t e z)
      go ih (no y) = has_tell asked s k n (judged n) (tells k n h) (told i) (ih (omega arith))

  leads_tells : (k m : ℕ) (h : List Entry) (n : ℕ) → Leads asked s h k n → Leads asked s (tells k m h) k n
  leads_tells k zero h n e = e
  leads_tells k (suc m) h n e = leads_tell asked s k m (judged m) (tells k m h) n (leads_tells k m h n e)

  -- x may stand before y
  abbrev pub Comes : Entry → Entry → Type 0
  Comes x y = (time_of x ≤ time_of y) × (x ≢ y)

  -- y may stand behind the works that tell at moment k
  abbrev Behind : ℕ → Entry → Type 0
  Behind k y = (k ≤ time_of y) × ((i : ℕ) → time_of (told i) ≡ k → told i ≢ y)

  pairs_tells : (k n : ℕ) (h : List Entry) → Each (Behind k) h → Pairs Comes h → Pairs Comes (tells k n h)
  pairs_tells k zero h d e = e
  pairs_tells k (suc n) h d e = pairs_tell asked s Comes k n (judged n) (tells k n h) first (pairs_tells k n h d e)
    where
      first : (t : Tells asked s n) → judged n ≡ inl t → t.1.m ≡ k → Each (Comes (told n)) (tells k n h)
      first t j z =
          let w : time_of (told n) ≡ k = ap (moment_of asked s) j ∙ z in
          each_tells (Comes (told n)) k n h
          (λ i u l f y.
          let x : time_of (told i) ≡ k = ap (moment_of asked s) f ∙ y in
          (omega arith, λ g. let r : n ≡ i = ap call_of g in absurd (omega arith)))
          (each_weak (λ y b. let c = b.0 in (omega arith, b.1 n w)) h d)

  module _ (N : ℕ) where
    -- from moment k on, with d calls to go
    abbrev pub history : ℕ → ℕ → List Entry
    history zero k = tells k N []
    history (suc d) k = tells k N (turn asked s k (turns k) (history d (suc k)))

    pub leads_history : (d k n : ℕ) → d + k ≡ n → Leads asked s (history d k) k n
    leads_history zero k n e =
        let z : k ≡ n = omega arith in
        subst (Leads asked s (history zero k) k) z (leads_tells k N [] k (same (words_at asked s k)))
    leads_history (suc d) k n e =
        leads_tells k N (turn asked s k (turns k) (history d (suc k))) n
        (leads_turn asked s k (turns k) (history d (suc k)) n (leads_history d (suc k) n (omega arith)))

    pub told_history : (d k i : ℕ) (t : Tells asked s i) → i < N → judged i ≡ inl t → k ≤ t.1.m → t.1.m ≤ d + k → Has (history d k) (told i)
    told_history zero k i t l e b c = told_tells k N [] i t l e (omega arith)
    told_history (suc d) k i t l e b c = go (λ x. told_history d (suc k) i t l e x (omega arith)) (ℕ_discrete t.1.m k)
      where
        go : (suc k ≤ t.1.m → Has (history d (suc k)) (told i)) → Dec (t.1.m ≡ k) → Has (history (suc d) k) (told i)
        go ih (yes z) = told_tells k N (turn asked s k (turns k) (history d (suc k))) i t l e z
        go ih (no z) = has_tells k N (turn asked s k (turns k) (history d (suc k))) (told i) (has_turn asked s k (turns k) (history d (suc k)) (told i) (ih (omega arith)))

    pub made_history : (d k j : ℕ) → k ≤ j → j < d + k → (SameSet (words_at asked s j) (words_at asked s (suc j)) → ⊥) → Has (history d k) (made j)
    made_history zero k j b c n = absurd (omega arith)
    made_history (suc d) k j b c n = go (λ x. made_history d (suc k) j x (omega arith) n) (ℕ_discrete k j)
      where
        go : (suc k ≤ j → Has (history d (suc k)) (made j)) → Dec (k ≡ j) → Has (history (suc d) k) (made j)
        go ih (yes z) = has_tells k N (turn asked s k (turns k) (history d (suc k))) (made j)
            (subst (λ (x : ℕ). Has (turn asked s k (turns k) (history d (suc k))) (made x)) z
            (made_turn asked s k (turns k) (history d (suc k)) (subst (λ (x : ℕ). SameSet (words_at asked s x) (words_at asked s (suc x)) → ⊥) (sym z) n)))
        go ih (no z) = has_tells k N (turn asked s k (turns k) (history d (suc k))) (made j) (has_turn asked s k (turns k) (history d (suc k)) (made j) (ih (omega arith)))

    -- what stands there
    abbrev pub Fine : Entry → Type 0
    Fine (told i) = (i < N) × ((t : Tells asked s i) × (t.1.m ≡ time_of (told i)))
    Fine (made k) = (k < N) × ((a : ℕ) × MadeBy asked s k a)

    fine_told : (k : ℕ) → (i : ℕ) (t : Tells asked s i) → i < N → judged i ≡ inl t → t.1.m ≡ k → Fine (told i) × (k ≤ time_of (told i))
    fine_told k i t l e z =
        let w : time_of (told i) ≡ t.1.m = ap (moment_of asked s) e in
        ((l, (t, sym w)), omega arith)

    pub fine_history : (d k : ℕ) → d + k ≡ N → Each (λ x. Fine x × (k ≤ time_of x)) (history d k)
    fine_history zero k e = each_tells (λ x. Fine x × (k ≤ time_of x)) k N [] (fine_told k) tt
    fine_history (suc d) k e =
        each_tells (λ x. Fine x × (k ≤ time_of x)) k N (turn asked s k (turns k) (history d (suc k))) (fine_told k)
        (each_turn asked s (λ x. Fine x × (k ≤ time_of x)) k (turns k) (history d (suc k)) (λ a c. ((omega arith, (a, c)), omega arith))
        (each_weak (λ x f. let g = f.1 in (f.0, omega arith)) (history d (suc k)) (fine_history d (suc k) (omega arith))))

    pub pairs_history : (d k : ℕ) → d + k ≡ N → Pairs Comes (history d k)
    pairs_history zero k e = pairs_tells k N [] tt tt
    pairs_history (suc d) k e =
        let rest = fine_history d (suc k) (omega arith) in
        pairs_tells k N (turn asked s k (turns k) (history d (suc k)))
        (each_turn asked s (Behind k) k (turns k) (history d (suc k)) (λ a c. (omega arith, λ i z g. true≢false (ap is_told g)))
        (each_weak (λ x f. let g = f.1 in (omega arith, λ i z y. let u = ap time_of y in absurd (omega arith))) (history d (suc k)) rest))
        (pairs_turn asked s Comes k (turns k) (history d (suc k))
        (each_weak (λ x f. let g = f.1 in (omega arith, λ y. let u = ap time_of y in absurd (omega arith))) (history d (suc k)) rest)
        (pairs_history d (suc k) (omega arith)))
