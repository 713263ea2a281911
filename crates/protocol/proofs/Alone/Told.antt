-- The answers of a lone worker, each from what it found and what it left. Assumes nothing.
use mathlib.Core.Path.{refl, sym, ap}
use mathlib.Core.List.{List}
use mathlib.Core.Logic.{◌↔◌, ◌≢◌}
use Prim.Native.Nat.{ℕ}
use native.Mathlib.Omega.{arith}
use Rattle.tree.specs.Reach.{InSet}
use Rattle.protocol.specs.Says.{Verdict, going, yes, no, full}
use Rattle.protocol.specs.Alone.{Needs, NoneFree, LookedUp, Inserted, Removed}

-- the verdicts are apart
abbrev pub code_of : Verdict → ℕ
code_of going = 0
code_of yes = 1
code_of no = 2
code_of full = 3

pub yes_ends : yes ≢ going
yes_ends e = let z = ap code_of e in omega arith

pub no_ends : no ≢ going
no_ends e = let z = ap code_of e in omega arith

pub full_ends : full ≢ going
full_ends e = let z = ap code_of e in omega arith

yes_no : yes ≢ no
yes_no e = let z = ap code_of e in omega arith

yes_full : yes ≢ full
yes_full e = let z = ap code_of e in omega arith

no_full : no ≢ full
no_full e = let z = ap code_of e in omega arith

module _ {ws : List ℕ} {k : ℕ} where
  pub looked_yes : InSet ws k → LookedUp ws k yes ws
  looked_yes i =
      record { yes_exactly = ((λ e. i), λ h. refl); no_exactly = ((λ e. absurd (yes_no e)), λ n. absurd (n i)); words = refl }

  pub looked_no : (InSet ws k → ⊥) → LookedUp ws k no ws
  looked_no o =
      record { yes_exactly = ((λ e. absurd (yes_no (sym e))), λ h. absurd (o h)); no_exactly = ((λ e. o), λ n. refl); words = refl }

  pub inserted_no : InSet ws k → Inserted ws k no ws
  inserted_no i =
      record {
        no_exactly = ((λ e. i), λ h. refl);
        full_exactly = ((λ e. absurd (no_full e)), λ h. absurd (h.0.0 i));
        yes_exactly = ((λ e. absurd (yes_no (sym e))), λ h. absurd (h.0 i));
        now_in = λ e. i;
        still_out = λ e. absurd (no_full e);
        others = λ j n. ((λ h. h), λ h. h);
        words = λ e. refl;
      }

  pub inserted_yes : {vs : List ℕ} → (InSet ws k → ⊥) → ((Needs ws k × NoneFree ws) → ⊥) → InSet vs k → ((j : ℕ) → j ≢ k → InSet vs j ↔ InSet ws j)
      → Inserted ws k yes vs
  inserted_yes o f i s =
      record {
        no_exactly = ((λ e. absurd (yes_no e)), λ h. absurd (o h));
        full_exactly = ((λ e. absurd (yes_full e)), λ h. absurd (f h));
        yes_exactly = ((λ e. (o, f)), λ h. refl);
        now_in = λ e. i;
        still_out = λ e. absurd (yes_full e);
        others = s;
        words = λ e. absurd (yes_no e);
      }

  pub inserted_full : {vs : List ℕ} → Needs ws k → NoneFree ws → (InSet vs k → ⊥) → ((j : ℕ) → j ≢ k → InSet vs j ↔ InSet ws j) → Inserted ws k full vs
  inserted_full n f o s =
      record {
        no_exactly = ((λ e. absurd (no_full (sym e))), λ h. absurd (n.0 h));
        full_exactly = ((λ e. (n, f)), λ h. refl);
        yes_exactly = ((λ e. absurd (yes_full (sym e))), λ h. absurd (h.1 (n, f)));
        now_in = λ e. absurd (yes_full (sym e));
        still_out = λ e. o;
        others = s;
        words = λ e. absurd (no_full (sym e));
      }

  pub removed_no : (InSet ws k → ⊥) → Removed ws k no ws
  removed_no o =
      record {
        yes_exactly = ((λ e. absurd (yes_no (sym e))), λ h. absurd (o h));
        no_exactly = ((λ e. o), λ n. refl);
        now_out = o;
        others = λ j n. ((λ h. h), λ h. h);
        words = λ e. refl;
      }

  pub removed_yes : {vs : List ℕ} → InSet ws k → (InSet vs k → ⊥) → ((j : ℕ) → j ≢ k → InSet vs j ↔ InSet ws j) → Removed ws k yes vs
  removed_yes i o s =
      record {
        yes_exactly = ((λ e. i), λ h. refl);
        no_exactly = ((λ e. absurd (yes_no e)), λ n. absurd (n i));
        now_out = o;
        others = s;
        words = λ e. absurd (yes_no e);
      }
