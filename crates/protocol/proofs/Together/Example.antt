-- A RUN, by computing: an insert and a lookup of one key at work together. The lookup says No while the insert is at its locks; the
-- insert says Yes; another insert of the key says No.
-- Assumes nothing.
use mathlib.Core.Path.{◌≡◌, refl}
use mathlib.Core.List.{List, [], ◌∷◌}
use Prim.Native.Nat.{ℕ}
use lib.ListN.{get_or}
use Rattle.layout.specs.Word.{put}
use Rattle.moment.specs.Calendar.{leap_of, days_in, date_exists, time_exists, moment_exists}
use Rattle.moment.specs.Key.{moment_of, in_range, fields_of, legal_of}
use Rattle.table.specs.Free.{lowest_from, lowest_slot, is_free}
use Rattle.table.specs.Pair.{word_of, set_word, field_of, set_field, zero_pair, key_of}
use Rattle.table.specs.Rules.{lock_fine, bits_fine, pair_fine, root_fine, size_fine, table_fine, fresh_words}
use Rattle.refusal.specs.Said.{Said, gives, refuses}
use Rattle.protocol.specs.Says as says
use Rattle.protocol.specs.Says.{Verdict, going, full}
use Rattle.protocol.specs.Plan.{plan, action_at}
use Rattle.protocol.specs.Record.{roles, record_fine}
use Rattle.protocol.specs.Walk.{removing, found, nothing, onward, visit, under, look}
use Rattle.protocol.specs.Locks.{state_fits, links_fit, clear, holds, crowded, granted, held_one, release_one, all_held, released, give_up, lock_step}
use Rattle.protocol.specs.Stores.{fit, lowest_fit, taken, take_step}
use Rattle.protocol.specs.Step.{reads_fine, act_step, busy_step, work_step, step_did, leave, settled, step_of, idle_worker}
use Rattle.protocol.specs.Calls.{judge_start, seated, start_of}
use Rattle.protocol.specs.Together.{Asked, start, step, check, System, begin, words_at, said_at, born, steps}
use Rattle.protocol.specs.declared.Kind.TheVariants.{Lookup, Insert}

abbrev key : ℕ
key = 0x7E867A821C004066

-- calls 0, 1, 2, ..
abbrev calls : List Asked
calls =
    start 0 Insert key ∷ start 1 Lookup key ∷ step 0 ∷ step 0 ∷ step 1 ∷ step 0 ∷ step 0 ∷ step 0
    ∷ start 1 Insert key ∷ step 1 ∷ step 1 ∷ []

abbrev asked : ℕ → Asked
asked i = get_or calls i check

abbrev four : System
four = begin (0 ∷ 0 ∷ 0 ∷ 0 ∷ 0 ∷ 0 ∷ 0 ∷ 0 ∷ []) (idle_worker ∷ idle_worker ∷ [])

-- going 0, yes 1, no 2, Full 5
abbrev number : Said Verdict → ℕ
number (gives going) = 0
number (gives says.yes) = 1
number (gives says.no) = 2
number (gives full) = 5
number (refuses n) = 100

-- what the steps say: the insert's five, the lookup's one, the second insert's two; when each work was born, and its steps before
-- its answer; the key in slot 1 at the end
run : number (said_at asked four 2 0) ∷ number (said_at asked four 3 0) ∷ number (said_at asked four 5 0) ∷ number (said_at asked four 6 0)
    ∷ number (said_at asked four 7 0) ∷ number (said_at asked four 4 1) ∷ number (said_at asked four 9 1) ∷ number (said_at asked four 10 1)
    ∷ born asked four 7 0 ∷ born asked four 4 1 ∷ born asked four 10 1 ∷ steps asked four 7 0 ∷ steps asked four 4 1 ∷ key_of (words_at asked four 11) 1 ∷ []
    ≡ 0 ∷ 0 ∷ 0 ∷ 0 ∷ 1 ∷ 2 ∷ 0 ∷ 2 ∷ 1 ∷ 2 ∷ 9 ∷ 4 ∷ 0 ∷ key ∷ []
unfolding put leap_of days_in date_exists time_exists moment_exists in_range moment_of fields_of legal_of word_of set_word field_of set_field zero_pair lock_fine bits_fine pair_fine root_fine size_fine table_fine fresh_words plan action_at roles record_fine removing found nothing onward visit under look state_fits links_fit clear holds crowded granted held_one release_one all_held released give_up lock_step fit lowest_from lowest_slot is_free lowest_fit taken take_step reads_fine act_step busy_step work_step step_did leave settled step_of judge_start seated start_of
run = refl
