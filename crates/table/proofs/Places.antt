-- The numbers of the quick tests, all by the widths of the layout.
-- Assumes nothing.
use mathlib.Core.Bool.{true, false}
use Prim.Native.Nat.{ℕ, ◌+◌, ◌-◌, ◌*◌, ◌^◌}
use Rattle.layout.specs.Layout.{pos, wid}
use Rattle.table.specs.Pair.{layout, state_f, link_f, lock_f, busy_f}
use Rattle.table.specs.declared.Which.TheVariants.{State, Edge}

-- one of a field
abbrev pub one : ℕ → ℕ
one f = 2 ^ pos layout f

-- the locks side by side: where they begin, and how wide they are
abbrev pub locks_at : ℕ
locks_at = pos layout (lock_f (Edge false))

abbrev pub locks_wide : ℕ
locks_wide = wid layout (lock_f State) + (wid layout (lock_f (Edge true)) + wid layout (lock_f (Edge false)))

-- the first second word that is no free slot's
abbrev pub taken : ℕ
taken = one state_f

-- the root's word of fields with no link, no lock held and b workers busy
abbrev pub root : ℕ → ℕ
root b = one state_f + b * one busy_f

-- the bits of what is left that hold neither the left link nor up to 15 workers more, and those that are no lock's
abbrev pub rest : ℕ
rest = one (link_f true) - 1 - 15 * one busy_f

abbrev pub rest_locked : ℕ
rest_locked = rest - (2 ^ locks_wide - 1) * 2 ^ locks_at
