use Rattle.std.proofs.Common.{sym, ◌∙◌}
use Rattle.link_spaces.proofs.SlotWords.Roles.{in_none, in_segment}
use Rattle.link_spaces.proofs.slot_words.words.is_code.Goals as goal

pub returns-in-Some : goal.returns-in-Some
returns-in-Some c = c.is_executable.ensures ∙ in_segment c.args.object.now c.args.address c.in-Some.segment.now (sym c.in-Some.ensures)

pub returns-in-None : goal.returns-in-None
returns-in-None c = in_none c.args.object.now c.args.address (sym c.in-None.ensures)
