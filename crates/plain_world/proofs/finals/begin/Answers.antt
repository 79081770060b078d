use Rattle.std.proofs.Common.{ℕ, Bool, true, [], refl, sym, subst, ◌∙◌}
use Rattle.hart_moves.specs.Starting.{starting_registers}
use Rattle.world_answers.specs.GuestsPart.Lemmas.Counting.{unmoved}
use Rattle.world_answers.specs.GuestsPart.GuestWorlds.Worlds.{MayBeAt, setting_without, world_of}
use Rattle.world_turns.specs.WorldEnds.Ends.{has_exited}
use Rattle.world_turns.specs.Run.{Finalises}
use Rattle.world_turns.specs.World.{World}
use Rattle.plain_world.specs.Playing.{FinalisesOnce}
use Rattle.plain_world.proofs.Counting.{begun_refuses, lacks_refuses, same_refuses}
use Rattle.plain_world.proofs.Parts.{all_in, begun_at}
use Rattle.plain_world.proofs.finals.begin.Goals as goal

pub returns-then-not-have_exited-clause-other : goal.returns-then-not-have_exited-clause-other
returns-then-not-have_exited-clause-other c = λ words w on.
    FinalisesOnce.for_once c.if-begun.false
    (Finalises.none_runs (sym (all_in has_exited c.args.harts.now) ∙ sym c.have_exited.ensures ∙ c.if-not-have_exited.true) refl)

pub begin_finals-requires-clause-over : goal.begin_finals-requires-clause-over
begin_finals-requires-clause-over c = sym (all_in has_exited c.args.harts.now) ∙ sym c.have_exited.ensures ∙ c.if-not-have_exited.false

pub returns-in-Begun-clause-begins : goal.returns-in-Begun-clause-begins
returns-in-Begun-clause-begins c = λ words. record {
  before = c.if-begun.false;
  exited = sym (all_in has_exited c.args.harts.now) ∙ sym c.have_exited.ensures ∙ c.if-not-have_exited.false;
  begins = c.in-Begun.ensures.begins words;
}

pub returns-in-Begun-clause-stays : goal.returns-in-Begun-clause-stays
returns-in-Begun-clause-stays c = λ words folders at.
    let old : World = world_of c.args.state.now words c.args.harts.now in
    let new : World = world_of c.begin_finals.new.state words c.begin_finals.new.harts in
    subst (λ (n : ℕ). MayBeAt n folders true new) (sym c.in-Begun.ensures.count)
    (c.runs_stay.ensures.begins c.args.state.now.harts folders (starting_registers c.args.entry) old new
    (subst (λ (b : Bool). MayBeAt c.args.state.now.harts folders b old) c.if-begun.false at)
    (sym (all_in has_exited c.args.harts.now) ∙ sym c.have_exited.ensures ∙ c.if-not-have_exited.false) (c.in-Begun.ensures.begins words))

pub returns-in-NoneLeft-clause-other : goal.returns-in-NoneLeft-clause-other
returns-in-NoneLeft-clause-other c = λ words w on.
    FinalisesOnce.for_once c.if-begun.false (Finalises.none_is_left (c.in-NoneLeft.ensures.begins words).0 (c.in-NoneLeft.ensures.begins words).1)

pub returns-in-NoneLeft-clause-stays : goal.returns-in-NoneLeft-clause-stays
returns-in-NoneLeft-clause-stays c = λ words folders at.
    let old : World = world_of c.args.state.now words c.args.harts.now in
    let new : World = world_of c.begin_finals.new.state words c.begin_finals.new.harts in
    subst (λ (n : ℕ). MayBeAt n folders true new) (sym c.in-NoneLeft.ensures.count)
    (subst (λ (v : World). MayBeAt c.args.state.now.harts folders true v) (sym (c.in-NoneLeft.ensures.begins words).1)
    (begun_at c.args.state.now.harts folders c.args.begun old at))

pub returns-in-Memory-clause-other : goal.returns-in-Memory-clause-other
returns-in-Memory-clause-other c = λ words w on.
    FinalisesOnce.for_once c.if-begun.false
    (Finalises.no_memory (sym (all_in has_exited c.args.harts.now) ∙ sym c.have_exited.ensures ∙ c.if-not-have_exited.false)
    (c.in-Memory.ensures.begins words w on))

pub returns-in-Memory-clause-stays : goal.returns-in-Memory-clause-stays
returns-in-Memory-clause-stays c = λ words folders at.
    let old : World = world_of c.args.state.now words c.args.harts.now in
    let new : World = world_of c.begin_finals.new.state words c.begin_finals.new.harts in
    subst (λ (n : ℕ). MayBeAt n folders true new) (sym c.in-Memory.ensures.count)
    (c.runs_stay.ensures.lacks c.args.state.now.harts folders old new
    (subst (λ (b : Bool). MayBeAt c.args.state.now.harts folders b old) c.if-begun.false at)
    (sym (all_in has_exited c.args.harts.now) ∙ sym c.have_exited.ensures ∙ c.if-not-have_exited.false) (c.in-Memory.ensures.begins words))

pub returns-then-begun-clause-refuses : goal.returns-then-begun-clause-refuses
returns-then-begun-clause-refuses c = λ words. unmoved (world_of c.args.state.now words c.args.harts.now)

pub returns-then-not-have_exited-clause-refuses : goal.returns-then-not-have_exited-clause-refuses
returns-then-not-have_exited-clause-refuses c = λ words. unmoved (world_of c.args.state.now words c.args.harts.now)

pub returns-in-Begun-clause-refuses : goal.returns-in-Begun-clause-refuses
returns-in-Begun-clause-refuses c = λ words.
    begun_refuses (starting_registers c.args.entry) (world_of c.args.state.now words c.args.harts.now)
    (world_of c.begin_finals.new.state words c.begin_finals.new.harts) (c.in-Begun.ensures.begins words)

pub returns-in-NoneLeft-clause-refuses : goal.returns-in-NoneLeft-clause-refuses
returns-in-NoneLeft-clause-refuses c = λ words.
    same_refuses (world_of c.args.state.now words c.args.harts.now) (world_of c.begin_finals.new.state words c.begin_finals.new.harts)
    (c.in-NoneLeft.ensures.begins words).1

pub returns-in-Memory-clause-refuses : goal.returns-in-Memory-clause-refuses
returns-in-Memory-clause-refuses c = λ words.
    lacks_refuses (setting_without c.args.state.now.harts [] []) (world_of c.args.state.now words c.args.harts.now)
    (world_of c.begin_finals.new.state words c.begin_finals.new.harts)
    (c.in-Memory.ensures.begins words (setting_without c.args.state.now.harts [] []) refl)
