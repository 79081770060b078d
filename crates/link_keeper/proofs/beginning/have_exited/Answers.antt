use Rattle.std.proofs.Common.{ℕ, List, sym, ap, ◌∙◌}
use Rattle.history_event.specs.declared.event.Event.{Event}
use Rattle.history_state.specs.Setting.{Machine}
use Rattle.link_keeper.specs.Beginning.{ends_in, first_exited}
use Rattle.link_keeper.proofs.Lasting.{exits_are}
use Rattle.link_keeper.proofs.beginning.have_exited.Goals as goal

pub returns : goal.returns
returns c = λ w machine.
    c.first_exited.ensures
    ∙ ap (λ (n : ℕ). first_exited n (ends_in c.as_slice.result.now)) (c.harts.ensures ∙ sym (ap (λ (m : Machine). m.harts) machine))
    ∙ ap (λ (es : List Event). first_exited w.machine.harts (ends_in es)) (c.as_slice.ensures ∙ c.journal.ensures.events)
    ∙ sym (exits_are w c.args.state.now.events)
