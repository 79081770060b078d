use Rattle.std.proofs.Common.{ap, ◌∙◌}
use Rattle.hart_moves.specs.Harts.{HartState, Phase}
use Rattle.hart_seat.specs.Copied.{copied_phase}
use Rattle.hart_seat.proofs.Copies.{copy_leaves}
use Rattle.hart_seat.proofs.hart.LinkedHart.copied.Goals as goal

pub returns-clause-phase : goal.returns-clause-phase
returns-clause-phase c = λ s copy start bytes is.
    c.take_word.ensures ∙ ap (λ (b : HartState). record b { phase = copied_phase b.registers b.phase c.args.word }) c.begin_copy.ensures
    ∙ ap (λ (p : Phase). record c.args.self.now.hart { phase = p }) (copy_leaves s c.args.self.now.hart copy start bytes c.args.word is)
