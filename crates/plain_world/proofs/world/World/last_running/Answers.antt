use Rattle.std.proofs.Common.{◌≡◌, List, length, IfSome, sym, ap, subst, ◌∙◌, arith}
use Rattle.std.proofs.lemmas.List.{length-map}
use Rattle.hart_seat.specs.Table.{HartTable}
use Rattle.world_answers.specs.ReturnsPart.Settling.{harts_in}
use Rattle.plain_world.specs.Stretches.{RunsAlone}
use Rattle.plain_world.specs.Table.{WorldTable}
use Rattle.plain_world.proofs.world.World.last_running.Goals as goal

pub last_running-requires : goal.last_running-requires
last_running-requires c =
    let harts : length c.args.self.now.world.harts ≡ length c.as_slice.result.now =
    ap (λ (t : WorldTable). length t.world.harts) (sym c.self.view_is) ∙ length-map c.self.inside.harts.items (λ (h : HartTable). h.hart)
    ∙ ap (λ (hs : List HartTable). length hs) (sym c.as_slice.ensures.value) in
    omega (arith, harts, c.count.ensures.count, c.count.ensures.harts, c.count.type_inv)

pub returns : goal.returns
returns c =
    subst (λ (t : WorldTable). IfSome c.last_running.result (RunsAlone t.world.harts)) c.self.view_is
    (subst (λ (hs : List HartTable). IfSome c.last_running.result (RunsAlone (harts_in hs))) c.as_slice.ensures.value c.last_running.ensures)
