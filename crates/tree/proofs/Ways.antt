-- The laws by which the check finds each function's way out by itself: a set for a function, named at the function.
-- Assumes nothing.
use Rattle.layout.proofs.FillLaws.{put_none, put_one}
use Rattle.refusal.proofs.SaidLaws.{handed_on}
use Rattle.tree.proofs.Answering.{sound_room, judged_sound, judged_not, list_fits, list_over, list_numbered, list_room, front_counted, front_length}
use Rattle.tree.proofs.Counting.{some_slots, root_pair, root_live, pairs_pass, asked_first, keys_few, keys_counted}
use Rattle.tree.proofs.Heads.{head_none, least_none, least_own, least_right, slot_none, slot_some}
use Rattle.tree.proofs.Kept.{sweepable_not, sweepable_all}
use Rattle.tree.proofs.Outcomes.{sweep_refused}
use Rattle.tree.proofs.Recursions.{every_none, every_more, in_none, in_stop, goes_on, keys_none, keys_own, keys_skip, keys_length, swept_none, swept_step, swept_more}
use Rattle.tree.proofs.Rooms.{room_none, room_fuel, put_to, one_fewer, fits_left, fits_mid, fits_right}

pub ruleset of_tree_room = (room_none, room_fuel)

pub ruleset of_is_sound = (sound_room, some_slots, root_pair, root_live, pairs_pass)

pub ruleset of_may_list = (handed_on, judged_sound, judged_not, list_fits, list_over, some_slots, asked_first, keys_few, keys_counted)

pub ruleset of_put_key = (put_none, put_one, keys_own, keys_skip)

pub ruleset of_fill = (put_none, put_to, one_fewer, fits_left, fits_mid, fits_right, in_none, in_stop, goes_on, keys_none, keys_length)

pub ruleset of_least = (head_none, least_none, least_own, least_right, in_none)

pub ruleset of_list_into = (handed_on, list_numbered, list_room)

pub ruleset of_list = (handed_on, front_counted, front_length)

pub ruleset of_first = (handed_on, judged_sound, judged_not, slot_none, slot_some)

pub ruleset of_may_sweep = (every_none, every_more, sweepable_not, sweepable_all)

pub ruleset of_sweep_all = (swept_none, swept_step, swept_more)

pub ruleset of_sweep = (handed_on, sweep_refused)
