use Rattle.history_state.specs.After.{after}
use Rattle.history_state.specs.Lookup.RefusesSymbol.{name_too_long}
use Rattle.trace_rows.proofs.Found.{never}
use Rattle.trace_rows.proofs.rows.looking.look_up.Goals as goal

pub returns-in-TooLong : goal.returns-in-TooLong
returns-in-TooLong c = λ past x has. name_too_long c.in-TooLong.ensures

pub returns-in-Overlong : goal.returns-in-Overlong
returns-in-Overlong c = λ past x has. never (after past) c.args.hart c.args.ask.now c.in-Overlong.ensures
