-- How a command ends.
use Rattle.std.specs.Prelude.{◌≡◌, List, [], Option, Some, None}
use Rattle.history_event.specs.declared.event.Event.{Event}
use Rattle.trace_text.specs.declared.run_texts.record.RunRecord.{RunRecord}
use Rattle.word_rule.specs.declared.view.KeeperView.{KeeperView}
use Rattle.ldso_cli.specs.declared.outcome.Cause.{Cause}
use Rattle.ldso_cli.specs.declared.outcome.End.{End}
use Rattle.ldso_cli.specs.declared.outcome.Outcome.{Outcome}

-- the end that an outcome shows, less its status
abbrev pub end_of : Outcome → End
end_of outcome = record { cause = outcome.cause; kept = outcome.kept; trails = outcome.trails }

-- the end of a command that runs no program: nothing is kept of a run
abbrev pub bare : Cause → End
bare cause = record { cause = cause; kept = None; trails = None }

-- the end of a command whose run on one thread left this, which is kept
abbrev pub kept_end : Cause → RunRecord → End
kept_end cause left = record { cause = cause; kept = Some left; trails = None }

-- and of one whose run on threads left this, and its harts' trails, if it started
abbrev pub end_with_trails : Cause → RunRecord → Option KeeperView → End
end_with_trails cause left trails = record { cause = cause; kept = Some left; trails = trails }

-- the events that are kept
abbrev pub events_kept : End → List Event
events_kept end = elim end.kept [ Some kept ↦ kept.journal.events | None ↦ [] ]

-- two records show the same events, the same ends of harts, and the same numbers
pub record ShowOne (first second : RunRecord) : Type 0 where
  pub events : first.journal.events ≡ second.journal.events
  pub ends : first.ends ≡ second.ends
  pub counts : first.counts ≡ second.counts

abbrev pub KeepOne : Option RunRecord → Option RunRecord → Type 0
KeepOne None None = Unit {0}
KeepOne None (Some second) = ⊥
KeepOne (Some first) None = ⊥
KeepOne (Some first) (Some second) = ShowOne first second

-- two ends have one cause, and keep the same
pub record AreOneEnd (first second : End) : Type 0 where
  pub cause : first.cause ≡ second.cause
  pub kept : KeepOne first.kept second.kept
