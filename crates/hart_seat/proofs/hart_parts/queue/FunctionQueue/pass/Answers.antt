use Rattle.std.proofs.Common.{◌≡◌, ◌+◌, List, length, min, drop, ap, ◌∙◌, arith}
use Rattle.history_event.specs.declared.handed.Function.{Function}
use Rattle.hart_moves.specs.Harts.{Frame}
use Rattle.hart_seat.specs.HartParts.Views.{purpose_of}
use Rattle.hart_seat.proofs.HartParts.Functions.{passes_more}
use Rattle.hart_seat.proofs.hart_parts.queue.FunctionQueue.pass.Goals as goal

pub returns : goal.returns
returns c =
    let places : c.min-self-inside.result ≡ min (length c.self.inside.functions) (c.self.inside.passed + c.args.behind + 1) = omega arith in
    ap (λ (functions : List Function). record { purpose = purpose_of c.self.inside.purpose; queue = functions })
    (passes_more c.self.inside.passed c.args.behind c.self.inside.entered c.min-self-inside.result c.self.inside.functions places)
    ∙ ap (λ (frame : Frame). record frame { queue = drop (c.args.behind + 1) frame.queue }) c.self.view_is
