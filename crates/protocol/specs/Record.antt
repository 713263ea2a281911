-- What of a busy record is damaged (refusal 6): a slot beyond the table, one slot in two roles, a slot that lacks, a key
-- that is not legal, a phase of another kind of work; and no worker counted busy.
-- Assumes nothing.
use Rattle.std.specs.Prelude.{Bool, true, false, not, ◌&&◌, ◌||◌, List, ℕ, ltb, eqb}
use Rattle.moment.specs.Key.{legal_of}
use Rattle.table.specs.Pair.{slots_of, busy_of}
use Rattle.protocol.specs.declared.Kind.{Kind}
use Rattle.protocol.specs.declared.Kind.TheVariants.{Lookup, Insert, Remove}
use Rattle.protocol.specs.declared.Phase.{Phase}
use Rattle.protocol.specs.declared.Phase.TheVariants.{Walk, OnRouting, New, Two, One, Leaf, UnderData, UnderRouting}

abbrev pub inserts : Kind → Bool
inserts Lookup = false
inserts Insert = true
inserts Remove = false

abbrev pub removes : Kind → Bool
removes Lookup = false
removes Insert = false
removes Remove = true

-- a slot of the table other than the root
abbrev pub slot : ℕ → ℕ → Bool
slot n x = not (eqb x 0) && ltb x n

-- Of n slots. In the walk, and at the leaf, nothing is above the root: previous 0 has no one before. The last number of a
-- case is the length of its plan
unfoldable pub roles : ℕ → Kind → Phase → Bool
roles n kind (Walk at prev before side up) =
    ltb at n && ltb prev n && ltb before n
    && ((eqb prev 0 && eqb before 0) || (slot n at && slot n prev && not (eqb at prev) && not (eqb at before) && not (eqb prev before)))
roles n kind (OnRouting this done) = inserts kind && slot n this && ltb done 3
roles n kind (New prev side done) = inserts kind && ltb prev n && ltb done 4
roles n kind (Two this done) = removes kind && slot n this && ltb done 3
roles n kind (One this prev side child toward done) =
    removes kind && slot n this && ltb prev n && slot n child
    && not (eqb this prev) && not (eqb this child) && not (eqb prev child) && ltb done 6
roles n kind (Leaf this prev side before up) =
    removes kind && slot n this && ltb prev n && ltb before n && not (eqb this prev) && not (eqb this before)
    && ((eqb prev 0 && eqb before 0) || (not (eqb prev 0) && not (eqb prev before)))
roles n kind (UnderData this prev side done) =
    removes kind && slot n this && ltb prev n && not (eqb this prev) && ltb done 6
roles n kind (UnderRouting this prev side before up other done) =
    removes kind && slot n this && slot n prev && ltb before n && slot n other
    && not (eqb this prev) && not (eqb this before) && not (eqb this other)
    && not (eqb prev before) && not (eqb prev other) && not (eqb before other) && ltb done 9

unfoldable pub record_fine : List ℕ → Kind → ℕ → Phase → Bool
record_fine ws kind key p = legal_of key && roles (slots_of ws) kind p && not (eqb (busy_of ws) 0)
