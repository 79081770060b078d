use Rattle.std.proofs.Common.{◌≡◌, List, length, sym, ap, subst, arith}
use Rattle.std.proofs.lemmas.List.{with_items_is}
use Rattle.std.specs.Vec.{with_items}
use Rattle.std.specs.Bool.{OnFalse, OnTrue}
use Rattle.history_state.specs.Setting.{Setting}
use Rattle.history_journal.specs.Following.{machine_of}
use Rattle.history_calls.specs.CallLaws.Coming.{IsOn}
use Rattle.hart_moves.specs.Starting.{starting_registers}
use Rattle.hart_seat.specs.Table.{HartTable}
use Rattle.world_answers.specs.GuestsPart.GuestWorlds.Worlds.{world_of}
use Rattle.world_turns.specs.World.{World}
use Rattle.plain_world.specs.Finals.{FinalsBegin, FinalsDont}
use Rattle.plain_world.specs.Inside.{world_in}
use Rattle.plain_world.specs.Playing.{BeginsToFinalise, FinalisesOnce}
use Rattle.plain_world.specs.Table.{WorldTable}
use Rattle.world_answers.specs.GuestsPart.Counting.{RefusesNone}
use Rattle.plain_world.proofs.Parts.{on_false, on_true}
use Rattle.plain_world.proofs.Telling.{turn_seen}
use Rattle.plain_world.proofs.world.World.begin_finals.Goals as goal

pub returns-clause-begins : goal.returns-clause-begins
returns-clause-begins c =
    let new : World = world_of c.begin.new.state c.self.inside.memory c.begin.new.harts in
    let same = c.begin.auto.harts in
    let were : length c.as_mut_slice.result.now ≡ length c.self.inside.harts.items = ap (λ (hs : List HartTable). length hs) c.as_mut_slice.ensures.value in
    let counted = c.self.inside.harts.ok.0 in
    let long : length c.begin.new.harts ≡ c.self.inside.harts.len = omega (arith, same, were, counted) in
    let kept : (with_items c.self.inside.harts c.begin.new.harts).items ≡ c.begin.new.harts = with_items_is c.self.inside.harts c.begin.new.harts long in
    subst (λ (hs : List HartTable). OnTrue c.begin.result (BeginsToFinalise c.args.self.now.begun (starting_registers c.args.self.now.entry)
    c.args.self.now.world (world_of c.begin.new.state c.self.inside.memory hs))) (sym kept)
    (subst (λ (t : WorldTable). OnTrue c.begin.result (BeginsToFinalise t.begun (starting_registers t.entry) t.world new)) c.self.view_is
    (on_true c.begin.result
    (FinalsBegin c.self.inside.begun c.self.inside.entry c.self.inside.state c.begin.new.state c.as_mut_slice.result.now c.begin.new.harts)
    (BeginsToFinalise c.self.inside.begun (starting_registers c.self.inside.entry) (world_in c.self.inside) new)
    (λ begins. subst (λ (hs : List HartTable). BeginsToFinalise c.self.inside.begun (starting_registers c.self.inside.entry)
    (world_of c.self.inside.state c.self.inside.memory hs) new) c.as_mut_slice.ensures.value (begins c.self.inside.memory))
    c.begin.ensures.begins))

pub returns-clause-other : goal.returns-clause-other
returns-clause-other c =
    let new : World = world_of c.begin.new.state c.self.inside.memory c.begin.new.harts in
    let same = c.begin.auto.harts in
    let were : length c.as_mut_slice.result.now ≡ length c.self.inside.harts.items = ap (λ (hs : List HartTable). length hs) c.as_mut_slice.ensures.value in
    let counted = c.self.inside.harts.ok.0 in
    let long : length c.begin.new.harts ≡ c.self.inside.harts.len = omega (arith, same, were, counted) in
    let kept : (with_items c.self.inside.harts c.begin.new.harts).items ≡ c.begin.new.harts = with_items_is c.self.inside.harts c.begin.new.harts long in
    subst (λ (hs : List HartTable). OnFalse c.begin.result ((w : Setting) → IsOn (machine_of c.args.self.now.count) w
    → FinalisesOnce w c.args.self.now.begun (starting_registers c.args.self.now.entry) c.args.self.now.world
    (world_of c.begin.new.state c.self.inside.memory hs))) (sym kept)
    (subst (λ (t : WorldTable). OnFalse c.begin.result ((w : Setting) → IsOn (machine_of t.count) w
    → FinalisesOnce w t.begun (starting_registers t.entry) t.world new)) c.self.view_is
    (on_false c.begin.result
    (FinalsDont c.self.inside.begun c.self.inside.entry c.self.inside.state c.begin.new.state c.as_mut_slice.result.now c.begin.new.harts)
    ((w : Setting) → IsOn (machine_of c.self.inside.state.harts) w
    → FinalisesOnce w c.self.inside.begun (starting_registers c.self.inside.entry) (world_in c.self.inside) new)
    (λ none w on. subst (λ (hs : List HartTable). FinalisesOnce w c.self.inside.begun (starting_registers c.self.inside.entry)
    (world_of c.self.inside.state c.self.inside.memory hs) new) c.as_mut_slice.ensures.value (none c.self.inside.memory w on))
    c.begin.ensures.other))

pub returns-clause-refuses : goal.returns-clause-refuses
returns-clause-refuses c =
    let same = c.begin.auto.harts in
    let were : length c.as_mut_slice.result.now ≡ length c.self.inside.harts.items = ap (λ (hs : List HartTable). length hs) c.as_mut_slice.ensures.value in
    let counted = c.self.inside.harts.ok.0 in
    let long : length c.begin.new.harts ≡ c.self.inside.harts.len = omega (arith, same, were, counted) in
    let kept : (with_items c.self.inside.harts c.begin.new.harts).items ≡ c.begin.new.harts = with_items_is c.self.inside.harts c.begin.new.harts long in
    turn_seen (λ (t : WorldTable) (v : World). RefusesNone t.world v) c.self.inside c.as_mut_slice.result.now c.args.self.now c.begin.new.state c.self.inside.memory
    c.begin.new.harts (with_items c.self.inside.harts c.begin.new.harts).items c.as_mut_slice.ensures.value c.self.view_is kept
    (c.begin.ensures.refuses c.self.inside.memory)
