-- WHAT A MOVE DOES TO THE SET: nothing, or it is the one store of an insert or a remove that changes it; and what a move that ends
-- the work ends with.
-- Assumes nothing.
use mathlib.Core.Path.{◌≡◌, refl, sym, ◌∙◌}
use mathlib.Core.Bool.{Bool, true, false}
use Prim.Native.Nat.{ℕ}
use Rattle.table.specs.declared.Which.{Which}
use Rattle.tree.specs.Reach.{Tab, Has}
use Rattle.protocol.specs.Says.{going, yes, no, full}
use Rattle.protocol.specs.declared.Kind.{Kind}
use Rattle.protocol.specs.declared.Kind.TheVariants.{Lookup, Insert, Remove}
use Rattle.protocol.proofs.Paths.Shape.{Shape}
use Rattle.protocol.proofs.Together.Stages.{Stage, Doing, idle, busy, Fine, Fit, Working}
use Rattle.protocol.proofs.Together.Moves.{Quiet, go_on, ins_routing, ins_none, rem_two, rem_one, rem_leaf, look_data, look_routing}
use Rattle.protocol.proofs.Together.Turns.{Effect, plus, minus, none, Turn}
use Rattle.protocol.proofs.Together.Puts.{effect}
use Rattle.protocol.proofs.Together.Passes.{put}
use Rattle.protocol.proofs.Together.Machine.{Answer, said, done, Again, ins_gone, look_gone, look_none, refused, End, Move, start, quietly, takes, again, ends, puts}
use Rattle.protocol.proofs.Together.Answers.{changed, Once, once}

-- has the work in hand changed the set?
abbrev pub altered : Doing → Bool
altered idle = false
altered (busy j k p) = changed p

abbrev pub Same : Tab → Tab → Type 0
Same A B = (k : ℕ) → (Has A k → Has B k) × (Has B k → Has A k)

-- by its key alone, and the right way
abbrev pub TurnBy : Doing → Tab → Tab → Type 0
TurnBy idle A B = ⊥
TurnBy (busy Lookup k p) A B = ⊥
TurnBy (busy Insert k p) A B = Turn A B k plus
TurnBy (busy Remove k p) A B = Turn A B k minus

pub data MoveDoes (A B : Tab) (u w : Doing) (r : Answer) : Type 0 where
  stays : Same A B → (Working w → altered w ≡ altered u) → MoveDoes A B u w r
  turns : r ≡ said going → altered u ≡ false → altered w ≡ true → TurnBy u A B → MoveDoes A B u w r

same : {A : Tab} → Same A A
same k = ((λ x. x), (λ x. x))

quiet_changed : {A : Tab} {k : ℕ} {j : Kind} {p q : Stage} → Quiet A k j p q → changed q ≡ changed p
quiet_changed (go_on z n e m) = refl
quiet_changed (ins_routing e f) = refl
quiet_changed (ins_none e f) = refl
quiet_changed (rem_two e f) = refl
quiet_changed (rem_one cs c e f l m) = refl
quiet_changed (rem_leaf e f) = refl
quiet_changed (look_data f) = refl
quiet_changed (look_routing up c f l m) = refl

again_changed : {A : Tab} {k : ℕ} {j : Kind} {p : Stage} → Again A k j p → changed p ≡ false
again_changed (ins_gone e f) = refl
again_changed (look_gone e) = refl
again_changed (look_none s e f) = refl
again_changed (refused c i l) = refl

turn_by : {A B : Tab} {k : ℕ} (j : Kind) (p q : Stage) (e : Effect) → Once j p q e → Turn A B k e → MoveDoes A B (busy j k p) (busy j k q) (said going)
turn_by j p q plus o t = turns refl o.1 o.2 (rw o.0 t)
turn_by j p q minus o t = turns refl o.1 o.2 (rw o.0 t)
turn_by j p q none o t = stays t (λ w. o.1 ∙ sym o.0)

pub move_does : {A : Tab} {L : ℕ → Which → ℕ} {u : Doing} {B : Tab} {M : ℕ → Which → ℕ} {w : Doing} {r : Answer} (O : ℕ → Type 0) {rho : ℕ → ℕ}
    → Move A L u B M w r → Shape A rho → Fine A rho O u → Fit u → MoveDoes A B u w r
move_does O (start j k l) h f g = stays same (λ w. refl)
move_does O (quietly t) h f g = stays same (λ w. quiet_changed t)
move_does O (takes c i M l m t) h f g = stays same (λ w. refl)
move_does O (again M t d) h f g = stays same (λ w. sym (again_changed t))
move_does O (ends M t d) h f g = stays same (λ w. absurd w)
move_does O (puts {j = j} {p = p} {q = q} B t) h f g = turn_by j p q (effect t) (once j t g) (put h j t f.0 f.1).turn

-- THE END OF A WORK

abbrev pub Ending : Answer → Type 0
Ending (said going) = ⊥
Ending (said yes) = Unit {0}
Ending (said no) = Unit {0}
Ending (said full) = Unit {0}
Ending done = Unit {0}

abbrev pub EndOf : Tab → Doing → Answer → Type 0
EndOf A idle r = ⊥
EndOf A (busy j k p) r = End A k j p r

pub move_end : {A : Tab} {L : ℕ → Which → ℕ} {u : Doing} {B : Tab} {M : ℕ → Which → ℕ} {w : Doing} {r : Answer} → Move A L u B M w r → Ending r → Working u
    → EndOf A u r × Same A B
move_end (start j k l) e w = absurd w
move_end (quietly t) e w = absurd e
move_end (takes c i M l m t) e w = absurd e
move_end (again M t d) e w = absurd e
move_end (ends M t d) e w = (t, same)
move_end (puts B t) e w = absurd e
