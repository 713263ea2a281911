-- The walk, one slot a step, and the leaf's look at previous. Neither changes a word.
-- Assumes nothing.
use Rattle.std.specs.Prelude.{Bool, true, false, cond, not, List, ℕ, ltb, eqb}
use Rattle.table.specs.Pair.{as_data, deleted, key_of, state_of, link_of}
use Rattle.protocol.specs.Plan.{at_root}
use Rattle.protocol.specs.declared.Kind.{Kind}
use Rattle.protocol.specs.declared.Kind.TheVariants.{Lookup, Insert, Remove}
use Rattle.protocol.specs.declared.Phase.TheVariants.{Walk, OnRouting, New, Two, One, Leaf, UnderData, UnderRouting}
use Rattle.protocol.specs.declared.Answer.TheVariants.{Yes, No}
use Rattle.protocol.specs.declared.Outcome.{Outcome}
use Rattle.protocol.specs.declared.Outcome.TheVariants.{Goes, Ends}

-- remove, on a data slot: its links l and r are noted and decide the case
unfoldable pub removing : ℕ → ℕ → ℕ → ℕ → ℕ → Bool → Bool → Outcome
removing l r at prev before side up =
    cond (eqb l 0)
    (cond (eqb r 0) (Goes (Leaf at prev side before up)) (Goes (One at prev side r false 0)))
    (cond (eqb r 0) (Goes (One at prev side l true 0)) (Goes (Two at 0)))

-- the walk ends on a slot of state s
unfoldable pub found : Kind → ℕ → ℕ → ℕ → ℕ → ℕ → ℕ → Bool → Bool → Outcome
found Lookup s l r at prev before side up = cond (eqb s as_data) (Ends Yes) (Ends No)
found Insert s l r at prev before side up =
    cond (eqb s as_data) (Ends No) (cond (eqb s deleted) (Goes at_root) (Goes (OnRouting at 0)))
found Remove s l r at prev before side up = cond (eqb s as_data) (removing l r at prev before side up) (Ends No)

-- the walk ends at nothing, on a side of slot at
unfoldable pub nothing : Kind → ℕ → Bool → Outcome
nothing Lookup at side = Ends No
nothing Insert at side = Goes (New at side 0)
nothing Remove at side = Ends No

-- the wanted key lies on side d, where the link is c
unfoldable pub onward : Kind → Bool → ℕ → ℕ → ℕ → Bool → Outcome
onward kind d c at prev side = cond (eqb c 0) (nothing kind at d) (Goes (Walk c at prev d side))

-- one slot: its key is the wanted one, or left for a smaller wanted key, right for a larger
unfoldable pub visit : List ℕ → Kind → ℕ → ℕ → ℕ → ℕ → Bool → Bool → Outcome
visit ws kind key at prev before side up =
    cond (eqb (key_of ws at) key)
    (found kind (state_of ws at) (link_of ws at true) (link_of ws at false) at prev before side up)
    (onward kind (ltb key (key_of ws at)) (link_of ws at (ltb key (key_of ws at))) at prev side)

-- remove, leaf: previous has state s and this other child
unfoldable pub under : ℕ → ℕ → ℕ → ℕ → Bool → ℕ → Bool → Outcome
under s other this prev side before up =
    cond (eqb s deleted) (Goes at_root)
    (cond (eqb s as_data) (Goes (UnderData this prev side 0))
    (cond (eqb other 0) (Goes at_root) (Goes (UnderRouting this prev side before up other 0))))

unfoldable pub look : List ℕ → ℕ → ℕ → Bool → ℕ → Bool → Outcome
look ws this prev side before up = under (state_of ws prev) (link_of ws prev (not side)) this prev side before up
