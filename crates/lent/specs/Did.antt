-- What a call over a lent record promises: what it says, and the record and the words after it, are the protocol's.
-- Assumes nothing.
use Rattle.std.specs.Prelude.{◌≡◌, List, ℕ}
use Rattle.refusal.specs.Said.{Said}
use Rattle.protocol.specs.Step.{Call}
use Rattle.protocol.specs.declared.Worker.{Worker}

-- the call came to c: it said s, and left the record w and the words ws
abbrev pub Did : {A : Type 0} → Call A → Said A → Worker → List ℕ → Type 0
Did c s w ws = (s ≡ c.says) × (w ≡ c.worker) × (ws ≡ c.words)
