use Rattle.std.proofs.Common.{◌∙◌, ap, refl}
use Rattle.history_event.specs.Roomy.{RoomyEvents}
use Rattle.ldso_cli.proofs.play.not_started.Goals as goal

pub returns : goal.returns
returns c = record { ended_is = refl; journal = ap (λ (j : RoomyEvents). j.events) c.new-2.ensures.journal; no_ends = c.new-2.ensures.ends ∙ c.new.ensures }
