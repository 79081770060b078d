use Rattle.std.proofs.Common.{◌≡◌, ℕ, ◌+◌, ◌-◌, List, length, length-drop, take, take_all, drop, refl, sym, ap, subst, ◌∙◌, arith}
use Rattle.std.specs.List.{list_all}
use Rattle.hart_seat.specs.Table.{HartTable}
use Rattle.world_answers.specs.ReturnsPart.Settling.{harts_in}
use Rattle.world_turns.specs.Run.{has_ended}
use Rattle.plain_world.specs.Stretches.{RunsAlone}
use Rattle.plain_world.proofs.Stretches.{alone_from}
use Rattle.plain_world.proofs.harts.last_from.Goals as goal

pub returns-then-have_ended : goal.returns-then-have_ended
returns-then-have_ended c =
    let behind : List HartTable = drop (c.args.index + 1) c.args.harts.now in
    let whole : take (length c.args.harts.now - (c.args.index + 1)) behind ≡ behind =
    take_all (length c.args.harts.now - (c.args.index + 1)) behind (omega (arith, length-drop (c.args.index + 1) c.args.harts.now)) in
    subst (λ (h : ℕ). RunsAlone (harts_in c.args.harts.now) h) (sym c.new.ensures)
    (alone_from c.args.harts.now c.args.index (c.args.index + 1) refl c.requires.first
    (sym (ap (list_all (λ (x : HartTable). has_ended x.hart)) whole) ∙ sym c.have_ended.ensures ∙ c.if-have_ended.true))
