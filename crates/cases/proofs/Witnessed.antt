-- The witnesses meet the premises: by computing all of them.
-- Assumes nothing.
use mathlib.Core.Path.{refl}
use Rattle.moment.specs.Calendar.{leap_of, days_in, date_exists, time_exists, moment_exists}
use Rattle.moment.specs.Key.{key_of_fields, in_range, moment_of, packs, fields_of, legal_of}
use Rattle.exif.specs.Parts.{beyond_of, of_part}
use Rattle.exif.specs.Reading.{is_digit, digit_of, two_at, fits_byte, shaped, unknown_of, one_digit_of, form_of, moment_at, moment_in, judges, reads_text, reads}
use Rattle.cases.specs.Runs.{steps, work, both, first_steps, second_steps, standing}
use Rattle.layout.specs.Word.{put}
use Rattle.table.specs.Free.{lowest_from, lowest_slot, is_free}
use Rattle.table.specs.Pair.{word_of, set_word, field_of, set_field, zero_pair}
use Rattle.table.specs.Rules.{lock_fine, bits_fine, pair_fine, root_fine, size_fine, table_fine, fresh_words}
use Rattle.protocol.specs.Plan.{plan, action_at}
use Rattle.protocol.specs.Record.{roles, record_fine}
use Rattle.protocol.specs.Walk.{removing, found, nothing, onward, visit, under, look}
use Rattle.protocol.specs.Locks.{state_fits, links_fit, clear, holds, crowded, granted, held_one, release_one, all_held, released, give_up, lock_step}
use Rattle.protocol.specs.Stores.{fit, lowest_fit, taken, take_step}
use Rattle.protocol.specs.Step.{reads_fine, act_step, busy_step, work_step, step_did, leave, settled, step_of}
use Rattle.protocol.specs.Calls.{judge_start, seated, start_of, stored, judge_busy, judge_withdraw, withdraw_of}
use Rattle.tree.specs.Judge.{every, pair_sound, slot_sound, tree_sound, wanted, inorder, reached_of, live_of, live_slots, sound_of, unlocked, keys_at}
use Rattle.tree.specs.Answers.{check_says, keys_of, fits, list_says, list_holds, list_front, list_number, head_of, first_says, sweepable, sweep_says, freed, swept_slot, swept, sweep_words}
use Rattle.cases.specs.Witness.{Witness}

pub witnessed : Witness
unfolding leap_of days_in date_exists time_exists moment_exists key_of_fields in_range moment_of packs beyond_of of_part is_digit digit_of two_at fits_byte shaped unknown_of one_digit_of form_of moment_at moment_in judges reads_text reads steps work both first_steps second_steps standing put fields_of legal_of word_of set_word field_of set_field zero_pair lock_fine bits_fine pair_fine root_fine size_fine table_fine fresh_words plan action_at roles record_fine removing found nothing onward visit under look state_fits links_fit clear holds crowded granted held_one release_one all_held released give_up lock_step fit lowest_from lowest_slot is_free lowest_fit taken take_step reads_fine act_step busy_step work_step step_did leave settled step_of judge_start seated start_of stored judge_busy judge_withdraw withdraw_of every pair_sound slot_sound tree_sound wanted inorder reached_of live_of live_slots sound_of unlocked keys_at check_says keys_of fits list_says list_holds list_front list_number head_of first_says sweepable sweep_says freed swept_slot swept sweep_words
witnessed = refl
