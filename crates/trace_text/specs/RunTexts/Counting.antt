-- The numbers of a journal.
use Rattle.std.specs.Prelude.{Bool, true, false, List, length, count_by}
use Rattle.history_event.specs.declared.event.Event.{Event}
use Rattle.history_event.specs.declared.event.Event.TheVariants.{Grant, Bound, Lost}
use Rattle.trace_text.specs.declared.run_texts.record.Counts.{Counts}

unfoldable pub is_grant : Event → Bool
is_grant (Grant number hart owner slot choice value) = true
is_grant other = false

unfoldable pub is_bound : Event → Bool
is_bound (Bound number) = true
is_bound other = false

unfoldable pub is_lost : Event → Bool
is_lost (Lost number saw) = true
is_lost other = false

-- how many events there are, and of them how many grants, and grants that were bound and that were lost
abbrev pub counts_of : List Event → Counts
counts_of journal = record {
  events = length journal;
  grants = count_by is_grant journal;
  bound = count_by is_bound journal;
  lost = count_by is_lost journal;
}
