-- THE SET TYPE OF SOURCE DOCUMENT 000, and works run one after the other: "An object of the set type stores a set of integer
-- values, initially empty". Full is the table's own answer: a set has no size, a table has.
-- Assumes nothing.
use Rattle.std.specs.Prelude.{◌≡◌, Bool, true, false, not, ◌&&◌, ◌||◌, List, [], ◌∷◌, ◌↔◌, ℕ, eqb}
use Rattle.refusal.specs.Said.{gives}
use Rattle.moment.specs.Key.{legal_of}
use Rattle.tree.specs.Reach.{InSet}
use Rattle.tree.specs.Answers.{sweep_says, sweep_words}
use Rattle.protocol.specs.Says.{Verdict, yes, no, full}
use Rattle.protocol.specs.Alone.{Needs, NoneFree, Finishes}
use Rattle.protocol.specs.declared.Kind.{Kind}
use Rattle.protocol.specs.declared.Kind.TheVariants.{Lookup, Insert, Remove}
use Rattle.protocol.specs.declared.Work.TheVariants.{Idle}
use Rattle.protocol.specs.declared.Worker.{Worker}

-- which values are present
abbrev pub Values : Type 0
Values = ℕ → Bool

-- "initially empty"
unfoldable pub no_values : Values
no_values v = false

-- "a boolean response, true if and only if v is absent (for insert(v)) or present (for remove(v)) in the set .. The contains(v)
-- returns a boolean response, true if and only if v is present"
unfoldable pub responds : Kind → Values → ℕ → Bool
responds Lookup S v = S v
responds Insert S v = not (S v)
responds Remove S v = S v

-- "After insert(v) is complete, v is present in the set, and after remove(v) is complete, v is absent"
unfoldable pub values_after : Kind → Values → ℕ → Values
values_after Lookup S v j = S j
values_after Insert S v j = eqb j v || S j
values_after Remove S v j = not (eqb j v) && S j

-- the response as a work says it
abbrev pub said : Bool → Verdict
said true = yes
said false = no

-- the table holds exactly these values
abbrev pub Shows : List ℕ → Values → Type 0
Shows ws S = (j : ℕ) → (S j ≡ true) ↔ InSet ws j

-- WORKS ONE AFTER THE OTHER: each with an idle record and a legal key, sweeps anywhere between them
pub data Item : Type 0 where
  work : Worker → Kind → ℕ → Item
  sweep : Item

abbrev pub Proper : List Item → Type 0
Proper [] = Unit {0}
Proper (work w kind k ∷ rest) = (w.work ≡ Idle) × (legal_of k ≡ true) × Proper rest
Proper (sweep ∷ rest) = Proper rest

-- S is what the set type makes of the works so far; at every moment the table holds S, each work finishes, and answers as the
-- set type responds; or it is an insert of an absent value that needs a free slot where there is none: Full, and S stays
pub data Served : List Item → List ℕ → Values → Type 0 where
  done : {ws : List ℕ} {S : Values} → Shows ws S → Served [] ws S
  answered : {rest : List Item} {ws : List ℕ} {S : Values} {w : Worker} {kind : Kind} {k : ℕ} → Shows ws S → (f : Finishes ws w kind k)
      → f.answer ≡ said (responds kind S k) → Served rest f.after (values_after kind S k) → Served (work w kind k ∷ rest) ws S
  too_full : {rest : List Item} {ws : List ℕ} {S : Values} {w : Worker} {k : ℕ} → Shows ws S → (f : Finishes ws w Insert k)
      → f.answer ≡ full → S k ≡ false → Needs ws k → NoneFree ws → Served rest f.after S → Served (work w Insert k ∷ rest) ws S
  swept : {rest : List Item} {ws : List ℕ} {S : Values} → Shows ws S → sweep_says ws ≡ gives tt → Served rest (sweep_words ws) S
      → Served (sweep ∷ rest) ws S
