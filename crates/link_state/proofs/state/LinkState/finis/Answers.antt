use Rattle.std.proofs.Common.{Some, None, ap, ◌∙◌}
use Rattle.std.specs.Option.{option_map}
use Rattle.history_state.specs.After.{after}
use Rattle.history_state.specs.Memory.{image_of}
use Rattle.history_calls.specs.Functions.{destructors}
use Rattle.link_state.specs.Table.{LinkTable}
use Rattle.link_holds.specs.Lemmas.Parts.{finis_found}
use Rattle.link_state.proofs.state.LinkState.finis.Goals as goal

pub returns-in-Some : goal.returns-in-Some
returns-in-Some c =
    finis_found (after c.self.inside.journal.events) c.self.inside.parts.parts c.args.serial (Some c.in-Some.part.now) c.self.invariant.memory.parts c.in-Some.ensures
    ∙ ap (λ (v : LinkTable). option_map destructors (image_of (after v.events) c.args.serial)) c.self.view_is

pub returns-in-None : goal.returns-in-None
returns-in-None c =
    finis_found (after c.self.inside.journal.events) c.self.inside.parts.parts c.args.serial None c.self.invariant.memory.parts c.in-None.ensures
    ∙ ap (λ (v : LinkTable). option_map destructors (image_of (after v.events) c.args.serial)) c.self.view_is
