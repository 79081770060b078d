use Rattle.history_state.specs.Lemmas.Lately.{late_legal, not_the_other_block}
use Rattle.history_state.proofs.journals.late_blocks_are_apart.Goals as goal

pub returns-clause-legal : goal.returns-clause-legal
returns-clause-legal c = late_legal

pub returns-clause-other_block : goal.returns-clause-other_block
returns-clause-other_block c = not_the_other_block
