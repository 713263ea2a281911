use Rattle.tree.specs.Places.{slot_room, tree_room}
use Rattle.tree.proofs.Rooms.{slot_room_lem, room_stop, room_none, room_left, room_both}
use Rattle.tree.proofs.judge.+tree_room.Goals.{then-l-ne0, else-l-ne0}
use native.Mathlib.Omega.{arith}
use mathlib.Core.Path.{◌≡◌, ◌∙◌}
use Prim.Native.Nat.{◌-◌}
use Rattle.tree.proofs.judge.+tree_room.Goals as goal

-- the slot itself is judged by what is read of it
pub returns-then-rest-eq0 : goal.returns-then-rest-eq0
returns-then-rest-eq0 t c = let a = c.args in
    let judged : c.slot_room-rest.result ≡ slot_room a.words.now a.slot a.lo a.hi a.room = slot_room_lem _ _ _ _ c.key-k.ensures (omega (arith, c.key-k.type_inv)) _ _ _ _ _ _ c.state-s.ensures c.link-l.ensures c.link-r.ensures c.slot_room-rest.ensures in
    room_stop _ _ _ _ _ _ _ c.if-slot-eq0.false c.if-fuel-eq0.false judged c.if-rest-eq0.true

-- what the left side leaves, be it nothing that hangs there
pub returns-then-r-eq0 : goal.returns-then-r-eq0
returns-then-r-eq0 t c = let a = c.args in
    let judged : c.slot_room-rest.result ≡ slot_room a.words.now a.slot a.lo a.hi a.room = slot_room_lem _ _ _ _ c.key-k.ensures (omega (arith, c.key-k.type_inv)) _ _ _ _ _ _ c.state-s.ensures c.link-l.ensures c.link-r.ensures c.slot_room-rest.ensures in
    let left : c.if-l-ne0.rest ≡ tree_room a.words.now (a.fuel - 1) c.link-l.result a.lo c.key-k.result c.slot_room-rest.result = elim c.if-l-ne0.branch [
      | then-l-ne0 w ↦ w.rest-is ∙ w.tree_room-rest.ensures
      | else-l-ne0 w ↦ w.rest-is ∙ room_none _ _ _ _ _ _ w.if-l-ne0.false
    ] in
    room_left _ _ _ _ _ _ _ _ _ _ c.if-slot-eq0.false c.if-fuel-eq0.false c.key-k.ensures c.link-l.ensures c.link-r.ensures judged _ left c.if-r-eq0.true

pub returns : goal.returns
returns t c = let a = c.args in
    let judged : c.slot_room-rest.result ≡ slot_room a.words.now a.slot a.lo a.hi a.room = slot_room_lem _ _ _ _ c.key-k.ensures (omega (arith, c.key-k.type_inv)) _ _ _ _ _ _ c.state-s.ensures c.link-l.ensures c.link-r.ensures c.slot_room-rest.ensures in
    let left : c.if-l-ne0.rest ≡ tree_room a.words.now (a.fuel - 1) c.link-l.result a.lo c.key-k.result c.slot_room-rest.result = elim c.if-l-ne0.branch [
      | then-l-ne0 w ↦ w.rest-is ∙ w.tree_room-rest.ensures
      | else-l-ne0 w ↦ w.rest-is ∙ room_none _ _ _ _ _ _ w.if-l-ne0.false
    ] in
    room_both _ _ _ _ _ _ _ _ _ _ c.if-slot-eq0.false c.if-fuel-eq0.false c.key-k.ensures c.link-l.ensures c.link-r.ensures judged _ _ left c.tree_room.ensures
