use Rattle.std.proofs.Common.{◌≡◌, ◌+◌, ◌∙◌, arith}
use Rattle.history_journal.proofs.Keeps.{kept_first}
use Rattle.history_journal.proofs.journal.LawfulJournal.new.Goals as goal

pub invariant_of-result : goal.invariant_of-result
invariant_of-result c =
    let room : c.make_room.new.self.room ≡ c.args.harts + 1 = omega (arith, c.in_ok-make_room.ensures.room, c.new-journal.ensures.room) in
    kept_first c.args.harts c.make_room.new.self.events c.make_room.new.self.room (c.make_room.ensures.events ∙ c.new-journal.ensures.events) (c.each_hart_ends.ensures c.args.harts c.requires) room
