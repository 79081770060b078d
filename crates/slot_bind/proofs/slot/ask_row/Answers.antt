use Rattle.std.proofs.Common.{rules}
use Rattle.slot_bind.proofs.Grants.{ask_slot, lost_state, lost_view}
use Rattle.slot_bind.proofs.slot.ask_row.Goals as goal

pub saw-requires-clause-lost : goal.saw-requires-clause-lost
saw-requires-clause-lost g c = (ask_slot c.args.keeper.now c.load_word-state.new.self c.args.hart c.load_word-state.result c.load_word-state.ensures.resting.1 c.requires.low c.load_word-state.ensures.view c.load_word-state.ensures.learns
    (lost_state c.load_word-state.result c.load_word-state.ensures.learns.state (search rules) (search rules)) c.requires.posted).lost

pub saw-requires-clause-of : goal.saw-requires-clause-of
saw-requires-clause-of g c = (ask_slot c.args.keeper.now c.load_word-state.new.self c.args.hart c.load_word-state.result c.load_word-state.ensures.resting.1 c.requires.low c.load_word-state.ensures.view c.load_word-state.ensures.learns
    (lost_state c.load_word-state.result c.load_word-state.ensures.learns.state (search rules) (search rules)) c.requires.posted).of

pub returns-in_default-clause-asked : goal.returns-in_default-clause-asked
returns-in_default-clause-asked g c = lost_view c.args.keeper.now c.load_word-state.new.self c.args.hart c.load_word-state.result c.saw.result c.requires.posted.0 c.load_word-state.ensures.resting.0 c.load_word-state.ensures.resting.1 c.requires.low
    c.load_word-state.ensures.learns c.load_word-state.ensures.view (lost_state c.load_word-state.result c.load_word-state.ensures.learns.state (search rules) (search rules)) c.requires.posted.1 c.saw.ensures.saw c.saw.new.keeper c.saw.ensures.keeper
