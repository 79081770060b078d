use Rattle.std.proofs.Common.{List, sym, ap, ◌∙◌}
use Rattle.std.specs.List.{list_any}
use Rattle.hart_moves.specs.Harts.{Frame, is_startup_frame}
use Rattle.history_state.specs.Lemmas.Lists.{any_reverse}
use Rattle.hart_seat.specs.Table.{HartTable}
use Rattle.hart_seat.proofs.hart.LinkedHart.is_starting.Goals as goal

pub returns : goal.returns
returns c =
    let frames : List Frame = c.self.inside.frames.items in
    c.has_startup.ensures ∙ ap (list_any is_startup_frame) c.as_slice.ensures.value ∙ sym (any_reverse is_startup_frame frames)
    ∙ ap (λ (t : HartTable). list_any is_startup_frame t.hart.frames) c.self.view_is
