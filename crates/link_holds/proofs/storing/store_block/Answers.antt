use Rattle.std.proofs.Common.{List, subst, sym}
use Rattle.address_space.specs.Pages.{AllFree}
use Rattle.history_event.specs.declared.event.Range.{Range}
use Rattle.history_state.specs.Areas.{free_pages}
use Rattle.link_holds.specs.Lemmas.Stored.{room_by, same_room}
use Rattle.link_holds.proofs.storing.store_block.Goals as goal

pub returns-in_err-make_room-clause-closings : goal.returns-in_err-make_room-clause-closings
returns-in_err-make_room-clause-closings c = same_room c.args.closings.now.closings

pub returns-in_err-make_room-2-clause-closings : goal.returns-in_err-make_room-2-clause-closings
returns-in_err-make_room-2-clause-closings c = same_room c.args.closings.now.closings

pub returns-in_err-make_room-3-clause-closings : goal.returns-in_err-make_room-3-clause-closings
returns-in_err-make_room-3-clause-closings c = same_room c.args.closings.now.closings

pub returns-clause-closings : goal.returns-clause-closings
returns-clause-closings c =
    room_by c.make_room_in_each.result c.args.closings.now.closings c.make_room_in_each.new.self.closings c.make_room_in_each.ensures.ok c.make_room_in_each.ensures.err

pub push-requires-clause-free : goal.push-requires-clause-free
push-requires-clause-free c =
    subst (λ (ranges : List Range). AllFree (free_pages ranges) c.args.block.now.start c.args.block.now.pages) (sym c.make_room.ensures.ranges) c.requires.free
