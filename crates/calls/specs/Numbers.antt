-- The numbers that answers have at the boundary: document 01's where it gives one, and 0, 16, 17 for what it gives none.
-- Assumes nothing.
use Rattle.std.specs.Prelude.{Bool, true, false, ℕ}
use Rattle.refusal.specs.Said.{Said, gives, refuses}
use Rattle.protocol.specs.Says.{Verdict, going, yes, no, full}

-- a step: 0 going, 16 yes, 17 no, 5 Full, or the refusal's number
abbrev pub verdict_number : Said Verdict → ℕ
verdict_number (gives going) = 0
verdict_number (gives yes) = 16
verdict_number (gives no) = 17
verdict_number (gives full) = 5
verdict_number (refuses n) = n

-- done, or a value that is handed back beside the number: 0; or the refusal's number
abbrev pub number : {A : Type 0} → Said A → ℕ
number (gives a) = 0
number (refuses n) = n

-- check: 16 sound, 17 not
abbrev pub sound_number : Said Bool → ℕ
sound_number (gives true) = 16
sound_number (gives false) = 17
sound_number (refuses n) = n
