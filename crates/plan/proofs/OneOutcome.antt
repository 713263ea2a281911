-- For every input each promise leaves one answer: any two that it allows are equal.
-- Assumes nothing.
use mathlib.Core.Path.{◌≡◌, sym, ◌∙◌}
use mathlib.Core.Bool.{Bool, true, ◌&&◌}
use mathlib.Core.List.{List}
use Prim.Native.Nat.{ℕ}
use Rattle.protocol.specs.Plan.{action_at, at_root, done_of, with_done}
use Rattle.moment.specs.Key.{legal_of}
use Rattle.table.specs.Pair.{slots_of}
use Rattle.protocol.specs.Record.{roles, record_fine}
use Rattle.protocol.specs.Calls.{stored}
use Rattle.protocol.specs.declared.Kind.{Kind}
use Rattle.protocol.specs.declared.Kind.TheVariants.{Lookup, Insert, Remove}
use Rattle.protocol.specs.declared.Phase.{Phase}
use Rattle.protocol.specs.declared.Phase.TheVariants.{Walk, OnRouting, New, Two, One, UnderData, UnderRouting}
use Rattle.protocol.specs.declared.Action.{Action}
use Rattle.plan.specs.Due.{due_of}
use Rattle.plan.specs.First.{locks_of}

pub action_at_one : (phase : Phase) (i : ℕ) (a b : Action) → a ≡ action_at phase i → b ≡ action_at phase i → a ≡ b
action_at_one phase i a b p q = p ∙ sym q

pub due_one : (n : ℕ) (kind : Kind) (phase : Phase) (a b : Action) → a ≡ due_of n kind phase → b ≡ due_of n kind phase → a ≡ b
due_one n kind phase a b p q = p ∙ sym q

pub at_root_one : (a b : Phase) → a ≡ at_root → b ≡ at_root → a ≡ b
at_root_one a b p q = p ∙ sym q

pub done_of_one : (phase : Phase) (a b : ℕ) → a ≡ done_of phase → b ≡ done_of phase → a ≡ b
done_of_one phase a b p q = p ∙ sym q

pub with_done_one : (phase : Phase) (n : ℕ) (a b : Phase) → a ≡ with_done phase n → b ≡ with_done phase n → a ≡ b
with_done_one phase n a b p q = p ∙ sym q

pub has_stored_one : (phase : Phase) (done : ℕ) (a b : Bool) → a ≡ stored phase done → b ≡ stored phase done → a ≡ b
has_stored_one phase done a b p q = p ∙ sym q

pub record_fine_one : (ws : List ℕ) (kind : Kind) (key : ℕ) (phase : Phase) (a b : Bool) → a ≡ record_fine ws kind key phase → b ≡ record_fine ws kind key phase → a ≡ b
record_fine_one ws kind key phase a b p q = p ∙ sym q

pub walk_fine_one : (ws : List ℕ) (key at prev before : ℕ) (a b : Bool) → a ≡ record_fine ws Lookup key (Walk at prev before true true)
    → b ≡ record_fine ws Lookup key (Walk at prev before true true) → a ≡ b
walk_fine_one ws key at prev before a b p q = p ∙ sym q

pub walk_quick_one : (ws : List ℕ) (key at prev before : ℕ) (a b : Bool)
    → let r = legal_of key && roles (slots_of ws) Lookup (Walk at prev before true true) in a ≡ r → b ≡ r → a ≡ b
walk_quick_one ws key at prev before a b p q = p ∙ sym q

pub locks_of_one : (phase : Phase) (a b : ℕ) → a ≡ locks_of phase → b ≡ locks_of phase → a ≡ b
locks_of_one phase a b p q = p ∙ sym q

-- the action that is due, by a phase's numbers

pub insert_due_one : (n : ℕ) (phase : Phase) (a b : Action) → a ≡ due_of n Insert phase → b ≡ due_of n Insert phase → a ≡ b
insert_due_one n phase a b p q = p ∙ sym q

pub remove_due_one : (n : ℕ) (phase : Phase) (a b : Action) → a ≡ due_of n Remove phase → b ≡ due_of n Remove phase → a ≡ b
remove_due_one n phase a b p q = p ∙ sym q

pub on_routing_due_one : (n this done : ℕ) (a b : Action) → a ≡ due_of n Insert (OnRouting this done) → b ≡ due_of n Insert (OnRouting this done) → a ≡ b
on_routing_due_one n this done a b p q = p ∙ sym q

pub new_due_one : (n prev : ℕ) (side : Bool) (done : ℕ) (a b : Action) → a ≡ due_of n Insert (New prev side done) → b ≡ due_of n Insert (New prev side done) → a ≡ b
new_due_one n prev side done a b p q = p ∙ sym q

pub two_due_one : (n this done : ℕ) (a b : Action) → a ≡ due_of n Remove (Two this done) → b ≡ due_of n Remove (Two this done) → a ≡ b
two_due_one n this done a b p q = p ∙ sym q

pub one_due_one : (n this prev : ℕ) (side : Bool) (child : ℕ) (toward : Bool) (done : ℕ) (a b : Action)
    → a ≡ due_of n Remove (One this prev side child toward done) → b ≡ due_of n Remove (One this prev side child toward done) → a ≡ b
one_due_one n this prev side child toward done a b p q = p ∙ sym q

pub under_data_due_one : (n this prev : ℕ) (side : Bool) (done : ℕ) (a b : Action)
    → a ≡ due_of n Remove (UnderData this prev side done) → b ≡ due_of n Remove (UnderData this prev side done) → a ≡ b
under_data_due_one n this prev side done a b p q = p ∙ sym q

pub under_routing_due_one : (n this prev : ℕ) (side : Bool) (before : ℕ) (up : Bool) (other done : ℕ) (a b : Action)
    → a ≡ due_of n Remove (UnderRouting this prev side before up other done) → b ≡ due_of n Remove (UnderRouting this prev side before up other done) → a ≡ b
under_routing_due_one n this prev side before up other done a b p q = p ∙ sym q
