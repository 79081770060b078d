use Rattle.test_words.proofs.BindTests.Unmapping.{take_done}
use Rattle.test_words.proofs.bind_tests.words.take_role.Goals as goal

pub returns : goal.returns
returns g c = record { taken = take_done c.args.keeper.now c.retire.new.keeper c.args.address c.retire.result c.requires.unwritten c.retire.ensures.ok c.retire.ensures.writable }
