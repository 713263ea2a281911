-- What the stores and the seats change: one state, one link, a new slot and one link, or the busy count.
-- Assumes nothing.
use mathlib.Core.Path.{◌≡◌, refl, sym, ◌∙◌}
use mathlib.Core.Bool.{Bool, true, false}
use mathlib.Core.List.{List, [], ◌∷◌}
use mathlib.Core.Logic.{◌≢◌}
use Prim.Native.Nat.{ℕ, zero, suc, ◌+◌, ◌-◌, ◌≤◌, ◌<◌}
use native.Mathlib.Omega.{arith}
use native.Mathlib.Nat.{zero-div, zero-mod}
use native.Mathlib.Decide.{ℕ_discrete}
use lib.ListN.{length, get_or}
use Rattle.moment.proofs.Tests.{tests, by_cases}
use Rattle.table.specs.Free.{lowest_from, lowest_slot}
use Rattle.table.specs.Pair.{as_data, state_f, link_f, busy_f, slots_of, key_of, set_key, field_of, state_of, link_of, busy_of, set_state, set_link, zero_pair}
use Rattle.table.specs.Rules.{pair_fine, table_fine}
use Rattle.table.proofs.PairLaws.{Slot, Holds, field_same, field_slot, field_field, field_key, field_length, field_lt, key_same, key_slot, key_field, key_length}
use Rattle.table.proofs.ChangeLaws.{Only, only, fine_in, fine_state, table_size}
use Rattle.protocol.specs.Plan.{plan, action_at}
use Rattle.protocol.specs.Record.{roles}
use Rattle.protocol.specs.Stores.{fit, lowest_fit, taken}
use Rattle.protocol.specs.Step.{leave}
use Rattle.protocol.specs.Calls.{seated}
use Rattle.protocol.specs.declared.Kind.{Kind}
use Rattle.protocol.specs.declared.Phase.{Phase}
use Rattle.protocol.specs.declared.Phase.TheVariants.{Walk, OnRouting, New, Two, One, Leaf, UnderData, UnderRouting}
use Rattle.protocol.specs.declared.Action.{Action}
use Rattle.protocol.specs.declared.Action.TheVariants.{Visit, Look, Lock, Mark, Link, Take, End, Beyond}

-- Stores of a state or a link

-- what an action stores fits: a state, a slot of the table
abbrev pub Fits : ℕ → Action → Type 0
Fits n (Visit at prev before side up) = Unit {0}
Fits n (Look this prev side before up) = Unit {0}
Fits n (Lock slot which write state links) = Unit {0}
Fits n (Mark slot to) = to < 4
Fits n (Link slot side to) = to < n
Fits n (Take prev side) = Unit {0}
Fits n End = Unit {0}
Fits n Beyond = Unit {0}

abbrev pub Each : (Action → Type 0) → List Action → Type 0
Each P [] = Unit {0}
Each P (a ∷ rest) = P a × Each P rest

-- a fact of each action of the plan, and of what lies past its end, is one of the action at any place
pub planned : (P : Action → Type 0) → P Beyond → (acts : List Action) → Each P acts → (i : ℕ) → P (get_or acts i Beyond)
planned P b [] e i = b
planned P b (a ∷ rest) e zero = e.0
planned P b (a ∷ rest) e (suc i) = planned P b rest e.1 i

pub each_fits : (n : ℕ) (kind : Kind) (p : Phase) → roles n kind p ≡ true → Each (Fits n) (plan p)
unfolding roles plan
each_fits n kind (Walk at prev before side up) e = (tt, tt)
each_fits n kind (OnRouting this done) e = (tt, (omega arith, (tt, tt)))
each_fits n kind (New prev side done) e = (tt, (tt, (tt, (tt, tt))))
each_fits n kind (Two this done) e = (tt, (omega arith, (tt, tt)))
each_fits n kind (One this prev side child toward done) e =
    let h = simp tests at e in
    (tt, (tt, (tt, (omega arith, (h.0.0.0.0.1.1, (tt, tt))))))
each_fits n kind (Leaf this prev side before up) e = (tt, tt)
each_fits n kind (UnderData this prev side done) e =
    let h = simp tests at e in
    (tt, (tt, (tt, (omega arith, (omega (arith, h.0.0.1), (tt, tt))))))
each_fits n kind (UnderRouting this prev side before up other done) e =
    let h = simp tests at e in
    (tt, (tt, (tt, (tt, (tt, (omega arith, (omega arith, (h.0.0.0.0.0.0.0.1.1, (tt, tt)))))))))

pub plan_fits : (n : ℕ) (kind : Kind) (p : Phase) → roles n kind p ≡ true → (i : ℕ) → Fits n (action_at p i)
unfolding action_at
plan_fits n kind p e i = planned (Fits n) tt (plan p) (each_fits n kind p e) i

pub mark_only : (ws : List ℕ) (slot to : ℕ) → pair_fine ws slot ≡ true → to < 4 → Only state_f slot to ws (set_state ws slot to)
mark_only ws slot to p h = only state_f ws slot to (fine_in ws slot p) h

pub link_holds : (ws : List ℕ) (side : Bool) (to : ℕ) → table_fine ws ≡ true → to < slots_of ws → Holds (link_f side) to
link_holds ws true to t h = let z = table_size ws t in omega (arith, z.1)
link_holds ws false to t h = let z = table_size ws t in omega (arith, z.1)

pub link_only : (ws : List ℕ) (slot : ℕ) (side : Bool) (to : ℕ) → table_fine ws ≡ true → pair_fine ws slot ≡ true → to < slots_of ws
    → Only (link_f side) slot to ws (set_link ws slot side to)
link_only ws slot side to t p h = only (link_f side) ws slot to (fine_in ws slot p) (link_holds ws side to t h)

-- The busy count

pub leave_only : (ws : List ℕ) → Slot ws 0 → Only busy_f 0 (busy_of ws - 1) ws (leave ws)
unfolding leave
leave_only ws s = only busy_f ws 0 (busy_of ws - 1) s (omega (arith, field_lt busy_f ws 0))

pub seat_only : (ws : List ℕ) → Slot ws 0 → busy_of ws < 16 → Only busy_f 0 (busy_of ws + 1) ws (seated ws)
unfolding seated
seat_only ws s h = only busy_f ws 0 (busy_of ws + 1) s (omega arith)

-- The slot that is taken: the lowest that is fit, by the laws of a search for the lowest that passes a test

pub passes_from : (f : ℕ → Bool) (i n : ℕ) → lowest_from f i n ≢ 0
    → (f (lowest_from f i n) ≡ true) × (i ≤ lowest_from f i n) × (lowest_from f i n < i + n)
unfolding lowest_from
passes_from f i zero d = absurd (d refl)
passes_from f i (suc n) d =
    by_cases (λ (k : ℕ). k ≢ 0 → (f k ≡ true) × (i ≤ k) × (k < i + suc n)) (f i)
    (λ g e. (g, omega arith, omega arith))
    (λ g e. let h = passes_from f (suc i) n e in (h.0, omega (arith, h.1), omega (arith, h.2)))
    d

pub passes_none : (f : ℕ → Bool) (i n : ℕ) → 0 < i → lowest_from f i n ≡ 0 → (j : ℕ) → i ≤ j → j < i + n → f j ≡ false
unfolding lowest_from
passes_none f i zero z e j a b = absurd (omega arith)
passes_none f i (suc n) z e₀ j₀ a₀ b₀ =
    by_cases (λ (k : ℕ). k ≡ 0 → (j : ℕ) → i ≤ j → j < i + suc n → f j ≡ false) (f i)
    (λ g e j a b. absurd (omega arith))
    (λ g e j a b. go g j a b (passes_none f (suc i) n (omega arith) e j) (ℕ_discrete i j))
    e₀ j₀ a₀ b₀
  where
    go : f i ≡ false → (j : ℕ) → i ≤ j → j < i + suc n → (suc i ≤ j → j < suc i + n → f j ≡ false) → Dec (i ≡ j) → f j ≡ false
    go g j a b on (yes q) = rw (← q) g
    go g j a b on (no q) = on (omega arith) (omega arith)

pub lowest_fit_lem : (ws : List ℕ) → lowest_fit ws ≢ 0
    → (fit ws (lowest_fit ws) ≡ true) × (1 ≤ lowest_fit ws) × (lowest_fit ws < slots_of ws)
unfolding lowest_fit lowest_slot
lowest_fit_lem ws d = let h = passes_from (fit ws) 1 (slots_of ws - 1) d in (h.0, h.1, omega (arith, h.1, h.2))

-- none below it is: it is the lowest
pub passes_least : (f : ℕ → Bool) (i n : ℕ) → (j : ℕ) → i ≤ j → j < lowest_from f i n → f j ≡ false
unfolding lowest_from
passes_least f i zero j a b = absurd (omega arith)
passes_least f i (suc n) j₀ a₀ b₀ =
    by_cases (λ (k : ℕ). (j : ℕ) → i ≤ j → j < k → f j ≡ false) (f i)
    (λ g j a b. absurd (omega arith))
    (λ g j a b. go g j a (passes_least f (suc i) n j) b (ℕ_discrete i j))
    j₀ a₀ b₀
  where
    go : f i ≡ false → (j : ℕ) → i ≤ j → (suc i ≤ j → j < lowest_from f (suc i) n → f j ≡ false) → j < lowest_from f (suc i) n
        → Dec (i ≡ j) → f j ≡ false
    go g j a on b (yes q) = rw (← q) g
    go g j a on b (no q) = on (omega arith) b

pub lowest_least : (ws : List ℕ) (j : ℕ) → 1 ≤ j → j < lowest_fit ws → fit ws j ≡ false
unfolding lowest_fit lowest_slot
lowest_least ws j a b = passes_least (fit ws) 1 (slots_of ws - 1) j a b

pub none_fit : (ws : List ℕ) → lowest_fit ws ≡ 0 → (j : ℕ) → 1 ≤ j → j < slots_of ws → fit ws j ≡ false
unfolding lowest_fit lowest_slot
none_fit ws e j a b = passes_none (fit ws) 1 (slots_of ws - 1) (omega arith) e j a (omega arith)

-- The store that takes it

-- vs is ws but for slot f, which holds key, state data and nothing else, and for the link of prev to it
pub record Joins (f key prev : ℕ) (side : Bool) (ws vs : List ℕ) : Type 0 where
  pub size : length vs ≡ length ws
  pub key_there : key_of vs f ≡ key
  pub keys : (j : ℕ) → j ≢ f → key_of vs j ≡ key_of ws j
  pub state_there : state_of vs f ≡ as_data
  pub bare : (g : ℕ) → g ≢ state_f → field_of g vs f ≡ 0
  pub link_there : link_of vs prev side ≡ f
  pub slots : (g j : ℕ) → j ≢ f → j ≢ prev → field_of g vs j ≡ field_of g ws j
  pub fields : (g : ℕ) → g ≢ link_f side → field_of g vs prev ≡ field_of g ws prev

-- a slot whose words are zero has no field
pub zero_field : (ws : List ℕ) (i g : ℕ) → zero_pair ws i ≡ true → field_of g ws i ≡ 0
unfolding zero_pair field_of
zero_field ws i g e = let h = simp tests at e in rw (h.1, zero-div, zero-mod) refl

pub state_link : (side : Bool) → state_f ≢ link_f side
state_link true = omega arith
state_link false = omega arith

pub joined : (ws : List ℕ) (f key prev : ℕ) (side : Bool)
    → Slot ws f → Slot ws prev → f ≢ prev → Holds (link_f side) f → zero_pair ws f ≡ true
    → Joins f key prev side ws (set_link (taken ws f key) prev side f)
unfolding taken
joined ws f key prev side sf sp d h z =
    let a = set_key ws f key in
    let b = set_state a f as_data in
    let la = key_length ws f key in
    let lb = field_length state_f a f as_data in
    record {
      size = field_length (link_f side) b prev f ∙ lb ∙ la;
      key_there = field_key (link_f side) b prev f f ∙ field_key state_f a f f as_data ∙ key_same ws f key sf;
      keys = λ j e. field_key (link_f side) b prev j f ∙ field_key state_f a f j as_data ∙ key_slot ws f j key e;
      state_there = field_field state_f (link_f side) b prev f f (state_link side) ∙ field_same state_f a f as_data (omega (arith, la)) (omega arith);
      bare = λ g e. field_slot g (link_f side) b prev f f d ∙ field_field g state_f a f f as_data e ∙ key_field g ws f f key ∙ zero_field ws f g z;
      link_there = field_same (link_f side) b prev f (omega (arith, la, lb)) h;
      slots = λ g j e k. field_slot g (link_f side) b prev j f k ∙ field_slot g state_f a f j as_data e ∙ key_field g ws f j key;
      fields = λ g e. field_field g (link_f side) b prev prev f e ∙ field_slot g state_f a f prev as_data (λ y. d (sym y)) ∙ key_field g ws f prev key;
    }

-- so it is under the step's own tests
pub taken_joins : (ws : List ℕ) (key prev : ℕ) (side : Bool)
    → table_fine ws ≡ true → pair_fine ws prev ≡ true → lowest_fit ws ≢ 0 → zero_pair ws (lowest_fit ws) ≡ true
    → Joins (lowest_fit ws) key prev side ws (set_link (taken ws (lowest_fit ws) key) prev side (lowest_fit ws))
taken_joins ws key prev side t p d z =
    let h = (lowest_fit_lem ws d).2 in
    joined ws (lowest_fit ws) key prev side (omega (arith, h)) (fine_in ws prev p)
    (λ e. fine_state ws prev p (rw (← e) (zero_field ws (lowest_fit ws) state_f z)))
    (link_holds ws side (lowest_fit ws) t h) z
