use Rattle.tree.proofs.judge.+tree_room.Given as goal

abbrev pub decreases-tree_room : goal.decreases-tree_room
decreases-tree_room l = l.fuel
