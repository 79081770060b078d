use Rattle.std.proofs.Common.{◌-◌, List, length, reverse, sym, take, ap, ◌∙◌}
use Rattle.std.specs.List.{slice_get}
use Rattle.hart_moves.specs.Harts.{Frame}
use Rattle.hart_seat.specs.Table.{HartTable}
use Rattle.hart_seat.proofs.Running.{last_frame}
use Rattle.hart_seat.proofs.hart.LinkedHart.next_function.Goals as goal

pub returns-in-Some-clause-parts : goal.returns-in-Some-clause-parts
returns-in-Some-clause-parts c =
    let items : List Frame = c.self.inside.frames.items in
    c.due.ensures.parts c.args.self.now.hart (reverse (take (length items - 1) items))
    (sym (ap (λ (t : HartTable). t.hart.frames) c.self.view_is)
    ∙ last_frame items c.in-Some.queue.now (c.in-Some.ensures.value ∙ ap (λ (xs : List Frame). slice_get xs (length xs - 1)) c.deref.ensures.value))
