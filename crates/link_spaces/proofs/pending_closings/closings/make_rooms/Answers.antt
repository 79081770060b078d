use Rattle.std.proofs.Common.{◌≡◌, ◌<◌, length, sym, ap, subst, ◌∙◌, arith}
use Rattle.std.proofs.Math.ListN.{set}
use Rattle.std.proofs.lemmas.List.Edits.{map_over_more}
use Rattle.std.proofs.lemmas.List.{set-get_or}
use Rattle.std.proofs.lemmas.Result.{err_from_is_err_and}
use Rattle.link_spaces.specs.PendingClosingsPart.Pending.{HaveRoomOf, PendingClosing, with_more}
use Rattle.link_spaces.proofs.PendingClosingsPart.Rooms.{some_have_more}
use Rattle.link_spaces.proofs.pending_closings.closings.make_rooms.Goals as goal

pub returns-in_err-make_room-clause-err : goal.returns-in_err-make_room-clause-err
returns-in_err-make_room-clause-err c =
    let before : HaveRoomOf c.args.closings.now c.loop-closing.closings =
    subst (HaveRoomOf c.args.closings.now) (sym c.loop-closing.invariant) (some_have_more c.args.closings.now c.loop-closing.closing-index) in
    let unchanged : set c.loop-closing.closings c.loop-closing.closing-index c.make_room.new.self ≡ c.loop-closing.closings =
    ap (λ (p : PendingClosing). set c.loop-closing.closings c.loop-closing.closing-index p) c.in_err-make_room.ensures.err ∙ set-get_or c.loop-closing.closings c.loop-closing.closing-index c.closing-item.result in
    let have : HaveRoomOf c.args.closings.now (set c.loop-closing.closings c.loop-closing.closing-index c.make_room.new.self) = subst (HaveRoomOf c.args.closings.now) (sym unchanged) before in
    let p = err_from_is_err_and c.from_residual.result c.from_residual.ensures.1 in rw p.1 have

pub loop-closing-preserved : goal.loop-closing-preserved
loop-closing-preserved c =
    let within : c.loop-closing.closing-index < length c.args.closings.now = omega arith in
    ap (λ (p : PendingClosing). set c.loop-closing.closings c.loop-closing.closing-index p) (c.in_ok-make_room.ensures.ok ∙ ap with_more (sym c.closing-item.is))
    ∙ map_over_more with_more c.args.closings.now c.loop-closing.closings c.loop-closing.closing-index c.closing-item.result within c.loop-closing.invariant c.closing-item.is
