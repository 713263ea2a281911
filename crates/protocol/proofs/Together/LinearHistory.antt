-- THE ORDER OF THE WORKS of the first N calls: for each moment the works whose answer was true then and leaves the set, one by one, and
-- then the work that the next call is a step of, if that call changes the set. What stands there, where, and where it leads.
-- Assumes nothing.
use mathlib.Core.Path.{◌≡◌, refl, sym, subst}
use mathlib.Core.List.{List, [], ◌∷◌}
use mathlib.Core.Logic.{◌⊎◌, inl, inr}
use Prim.Native.Nat.{ℕ, suc, ◌≤◌}
use native.Mathlib.Decide.{ℕ_discrete}
use Rattle.protocol.specs.Says as says
use Rattle.protocol.specs.Says.{Verdict}
use Rattle.protocol.specs.Together.{Asked, step, System, words_at, worker_at, born}
use Rattle.protocol.specs.TogetherPromise.{SameSet, ChangedBy, AsSet, Did}
use Rattle.protocol.specs.Linear.{Entry, told, made, Has, Each, Pairs, Ends}
use Rattle.protocol.proofs.Together.LinearWorks.{same}

pub each_weak : {P Q : Entry → Type 0} → ((x : Entry) → P x → Q x) → (h : List Entry) → Each P h → Each Q h
each_weak f [] e = tt
each_weak f (x ∷ h) e = (f x e.0, each_weak f h e.1)

pub each_has : (P : Entry → Type 0) (h : List Entry) (x : Entry) → Each P h → Has h x → P x
each_has P [] x e g = absurd g
each_has P (y ∷ h) x e (inl z) = subst P (sym z) e.0
each_has P (y ∷ h) x e (inr g) = each_has P h x e.1 g

pub each_with : {P Q : Entry → Type 0} {R : Entry → Type 0} → ((x : Entry) → P x → Q x → R x) → (h : List Entry) → Each P h → Each Q h → Each R h
each_with f [] d e = tt
each_with f (x ∷ h) d e = (f x d.0 e.0, each_with f h d.1 e.1)

pub pairs_with : {P : Entry → Type 0} {Q R : Entry → Entry → Type 0} → ((x y : Entry) → P x → P y → Q x y → R x y) → (h : List Entry)
    → Each P h → Pairs Q h → Pairs R h
pairs_with f [] d e = tt
pairs_with f (x ∷ h) d e = (each_with (λ y. f x y d.0) h d.1 e.0, pairs_with f h d.1 e.1)

module _ (asked : ℕ → Asked) (s : System) where
  -- call i answered record a's work; the answer leaves the set as it is, and was true of it at moment m
  pub record ToldBy (i a : ℕ) : Type 0 where
    pub v : Verdict
    pub ends : Ends asked s i a v
    pub m : ℕ
    pub since : born asked s i a ≤ m
    pub until : m ≤ suc i
    pub held : AsSet (worker_at asked s i a).work (worker_at asked s i a).key v (words_at asked s m) (words_at asked s m)

  abbrev pub Tells : ℕ → Type 0
  Tells i = (a : ℕ) × ToldBy i a

  -- call i answers no work, or one that changed the set
  abbrev pub Silent : ℕ → Type 0
  Silent i = (a : ℕ) (v : Verdict) → Ends asked s i a v → (v ≡ says.yes) × Did asked s i a

  abbrev pub Judged : ℕ → Type 0
  Judged i = Tells i ⊎ Silent i

  -- call k is a step of record a that changed the set
  abbrev pub MadeBy : ℕ → ℕ → Type 0
  MadeBy k a = (asked k ≡ step a) × ChangedBy (worker_at asked s k a).work (worker_at asked s k a).key (words_at asked s k) (words_at asked s (suc k))

  abbrev pub Turns : ℕ → Type 0
  Turns k = SameSet (words_at asked s k) (words_at asked s (suc k)) ⊎ ((a : ℕ) × MadeBy k a)

  abbrev pub moment_of : {i : ℕ} → Judged i → ℕ
  moment_of (inl t) = t.1.m
  moment_of (inr z) = 0

  -- a work takes effect at a point of its life, from moment m to moment n: at one moment, or at the call that changed the set
  abbrev pub Does : Entry → ℕ → ℕ → Type 0
  Does (told i) m n = (n ≡ m) × ((a : ℕ) × (t : ToldBy i a) × (t.m ≡ m))
  Does (made k) m n = (m ≡ k) × (n ≡ suc k) × ((a : ℕ) × MadeBy k a)

  -- one after the other, each finds the set that the one before it left
  abbrev pub Leads : List Entry → ℕ → ℕ → Type 0
  Leads [] m n = SameSet (words_at asked s m) (words_at asked s n)
  Leads (x ∷ h) m n = (o o' : ℕ) × SameSet (words_at asked s m) (words_at asked s o) × Does x o o' × Leads h o' n

  -- THE LIST

  abbrev put : {P : Type 0} → Entry → Dec P → List Entry → List Entry
  put x (yes z) h = x ∷ h
  put x (no z) h = h

  abbrev pub tell : (k i : ℕ) → Judged i → List Entry → List Entry
  tell k i (inl t) h = put (told i) (ℕ_discrete t.1.m k) h
  tell k i (inr z) h = h

  abbrev pub turn : (k : ℕ) → Turns k → List Entry → List Entry
  turn k (inl e) h = h
  turn k (inr c) h = made k ∷ h

  pub each_tell : (P : Entry → Type 0) (k i : ℕ) (j : Judged i) (h : List Entry) → ((t : Tells i) → j ≡ inl t → t.1.m ≡ k → P (told i)) → Each P h → Each P (tell k i j h)
  each_tell P k i (inr z) h f e = e
  each_tell P k i (inl t) h f e = go (ℕ_discrete t.1.m k)
    where
      go : (d : Dec (t.1.m ≡ k)) → Each P (put (told i) d h)
      go (yes z) = (f t refl z, e)
      go (no z) = e

  pub pairs_tell : (R : Entry → Entry → Type 0) (k i : ℕ) (j : Judged i) (h : List Entry) → ((t : Tells i) → j ≡ inl t → t.1.m ≡ k → Each (R (told i)) h)
      → Pairs R h → Pairs R (tell k i j h)
  pairs_tell R k i (inr z) h f e = e
  pairs_tell R k i (inl t) h f e = go (ℕ_discrete t.1.m k)
    where
      go : (d : Dec (t.1.m ≡ k)) → Pairs R (put (told i) d h)
      go (yes z) = (f t refl z, e)
      go (no z) = e

  pub has_tell : (k i : ℕ) (j : Judged i) (h : List Entry) (x : Entry) → Has h x → Has (tell k i j h) x
  has_tell k i (inr z) h x e = e
  has_tell k i (inl t) h x e = go (ℕ_discrete t.1.m k)
    where
      go : (d : Dec (t.1.m ≡ k)) → Has (put (told i) d h) x
      go (yes z) = inr e
      go (no z) = e

  pub told_tell : (k i : ℕ) (j : Judged i) (h : List Entry) (t : Tells i) → j ≡ inl t → t.1.m ≡ k → Has (tell k i j h) (told i)
  told_tell k i j h t e z = subst (λ (x : Judged i). Has (tell k i x h) (told i)) (sym e) (go (ℕ_discrete t.1.m k))
    where
      go : (d : Dec (t.1.m ≡ k)) → Has (put (told i) d h) (told i)
      go (yes y) = inl refl
      go (no y) = absurd (y z)

  pub leads_tell : (k i : ℕ) (j : Judged i) (h : List Entry) (n : ℕ) → Leads h k n → Leads (tell k i j h) k n
  leads_tell k i (inr z) h n e = e
  leads_tell k i (inl (a, t)) h n e = go (ℕ_discrete t.m k)
    where
      go : (d : Dec (t.m ≡ k)) → Leads (put (told i) d h) k n
      go (yes z) = (k, k, same (words_at asked s k), (refl, (a, t, z)), e)
      go (no z) = e

  pub each_turn : (P : Entry → Type 0) (k : ℕ) (c : Turns k) (h : List Entry) → ((a : ℕ) → MadeBy k a → P (made k)) → Each P h → Each P (turn k c h)
  each_turn P k (inl z) h f e = e
  each_turn P k (inr (a, c)) h f e = (f a c, e)

  pub pairs_turn : (R : Entry → Entry → Type 0) (k : ℕ) (c : Turns k) (h : List Entry) → Each (R (made k)) h → Pairs R h → Pairs R (turn k c h)
  pairs_turn R k (inl z) h f e = e
  pairs_turn R k (inr c) h f e = (f, e)

  pub has_turn : (k : ℕ) (c : Turns k) (h : List Entry) (x : Entry) → Has h x → Has (turn k c h) x
  has_turn k (inl z) h x e = e
  has_turn k (inr c) h x e = inr e

  pub made_turn : (k : ℕ) (c : Turns k) (h : List Entry) → (SameSet (words_at asked s k) (words_at asked s (suc k)) → ⊥) → Has (turn k c h) (made k)
  made_turn k (inl z) h n = absurd (n z)
  made_turn k (inr c) h n = inl refl

  leads_from : (h : List Entry) (l m n : ℕ) → SameSet (words_at asked s l) (words_at asked s m) → Leads h m n → Leads h l n
  leads_from [] l m n e f = λ k. ((λ x. (f k).0 ((e k).0 x)), (λ x. (e k).1 ((f k).1 x)))
  leads_from (x ∷ h) l m n e (o, o', f, d, r) = (o, o', (λ k. ((λ y. (f k).0 ((e k).0 y)), (λ y. (e k).1 ((f k).1 y)))), d, r)

  pub leads_turn : (k : ℕ) (c : Turns k) (h : List Entry) (n : ℕ) → Leads h (suc k) n → Leads (turn k c h) k n
  leads_turn k (inl z) h n e = leads_from h k (suc k) n z e
  leads_turn k (inr c) h n e = (k, suc k, same (words_at asked s k), (refl, refl, c), e)
