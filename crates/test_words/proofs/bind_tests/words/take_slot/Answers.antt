use Rattle.test_words.proofs.BindTests.Unmapping.{may_take_slot, slot_written, unslotted}
use Rattle.test_words.proofs.bind_tests.words.take_slot.Goals as goal

pub take_role-requires-clause-may : goal.take_role-requires-clause-may
take_role-requires-clause-may g c = may_take_slot c.args.keeper.now c.requires.stocked c.requires.settled

pub take_role-requires-clause-unwritten : goal.take_role-requires-clause-unwritten
take_role-requires-clause-unwritten g c = slot_written c.args.keeper.now c.requires.stocked c.requires.settled

pub returns : goal.returns
returns g c = unslotted c.args.keeper.now c.requires.stocked c.requires.settled c.take_role.new.keeper c.take_role.ensures.taken
