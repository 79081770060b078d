use Rattle.test_words.proofs.BindTests.Unmapping.{all_taken, first_written, lazy_written, may_take_first, may_take_lazy, may_take_second, second_written}
use Rattle.test_words.proofs.bind_tests.words.take_code.Goals as goal

pub take_role-requires-clause-may : goal.take_role-requires-clause-may
take_role-requires-clause-may g c = may_take_lazy c.args.keeper.now c.requires.unslotted

pub take_role-requires-clause-unwritten : goal.take_role-requires-clause-unwritten
take_role-requires-clause-unwritten g c = lazy_written c.args.keeper.now c.requires.unslotted

pub take_role-requires-2-clause-may : goal.take_role-requires-2-clause-may
take_role-requires-2-clause-may g c = may_take_first c.args.keeper.now c.requires.unslotted c.take_role.new.keeper c.take_role.ensures.taken

pub take_role-requires-2-clause-unwritten : goal.take_role-requires-2-clause-unwritten
take_role-requires-2-clause-unwritten g c = first_written c.args.keeper.now c.requires.unslotted c.take_role.new.keeper c.take_role.ensures.taken

pub take_role-requires-3-clause-may : goal.take_role-requires-3-clause-may
take_role-requires-3-clause-may g c = may_take_second c.args.keeper.now c.requires.unslotted c.take_role.new.keeper c.take_role.ensures.taken c.take_role-2.new.keeper c.take_role-2.ensures.taken

pub take_role-requires-3-clause-unwritten : goal.take_role-requires-3-clause-unwritten
take_role-requires-3-clause-unwritten g c = second_written c.args.keeper.now c.requires.unslotted c.take_role.new.keeper c.take_role.ensures.taken c.take_role-2.new.keeper c.take_role-2.ensures.taken

pub returns : goal.returns
returns g c = all_taken c.args.keeper.now c.requires.unslotted c.take_role.new.keeper c.take_role.ensures.taken c.take_role-2.new.keeper c.take_role-2.ensures.taken c.take_role-3.new.keeper c.take_role-3.ensures.taken
