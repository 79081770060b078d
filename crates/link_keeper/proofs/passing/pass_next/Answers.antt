use Rattle.std.proofs.Common.{sym, subst, ◌∙◌}
use Rattle.link_keeper.specs.Passing.{IsNextEntry}
use Rattle.link_keeper.proofs.Rest.{next_entry, next_event, next_low, passes_next}
use Rattle.link_keeper.proofs.passing.pass_next.Goals as goal

pub entry_at-entry-requires : goal.entry_at-entry-requires
entry_at-entry-requires g c = next_low c.args.state.now c.args.keeper.now c.args.index c.requires.next.0 c.requires.next.1 c.requires.index c.requires.next.2

pub pass_event-requires-clause-entry : goal.pass_event-requires-clause-entry
pass_event-requires-clause-entry g c = subst (IsNextEntry c.args.keeper.now)
    (sym (next_entry c.args.state.now c.args.keeper.now c.args.index c.entry_at-entry.result c.requires.next.0 c.requires.next.1 c.requires.index c.requires.next.2 c.entry_at-entry.ensures)) c.requires.next.2.entry

pub returns : goal.returns
returns g c = record {
  passed = λ e rest next. passes_next c.args.keeper.now c.pass_event.new.keeper c.args.seat.now c.pass_event.new.seat c.args.id c.index-events-index.result e c.entry_at-entry.result
      (next_event c.args.state.now.events c.as_slice-events.result.now c.args.keeper.now c.args.index c.index-events-index.result _ e rest (c.as_slice-events.ensures ∙ c.journal.ensures.events) c.index-events-index.is
      c.requires.index next.ahead)
      (next_entry c.args.state.now c.args.keeper.now c.args.index c.entry_at-entry.result e rest c.requires.index next c.entry_at-entry.ensures)
      c.pass_event.ensures.keeper c.pass_event.ensures.seat c.pass_event.ensures.step;
}
