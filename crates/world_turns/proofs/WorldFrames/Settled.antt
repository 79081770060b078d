-- What is settled leaves the frames of harts as they are.
use Rattle.std.proofs.Common.{ℕ, List, ◌++◌, ap, subst, ◌∙◌}
use Rattle.history_event.specs.declared.event.Event.{Event}
use Rattle.history_state.specs.After.{after}
use Rattle.history_state.specs.Lemmas.Lists.{has_in, in_has}
use Rattle.hart_moves.specs.Harts.{Frame, HartState}
use Rattle.world_turns.specs.World.{settling}
use Rattle.world_turns.specs.Lemmas.Turning.{freed_at}
use Rattle.world_turns.specs.WorldFrames.Belong.{FramesFit}
use Rattle.world_turns.specs.WorldFrames.Finals.{FinalsFit}
use Rattle.world_turns.specs.WorldFrames.Laws.{SettlingKeepsFinals, SettlingKeepsFrames}
use Rattle.world_turns.specs.WorldFrames.Lemmas.Finals.{inits_kept, was_grows}
use Rattle.world_turns.specs.WorldFrames.Lemmas.Origins.{all_settled}

fit_settled : (past : List Event) (harts : List HartState) (h : ℕ) (frames : List Frame) → FramesFit (after past) h frames
    → FramesFit (after (past ++ settling harts)) h frames
fit_settled past harts h frames x = record { origins = x.origins; are = all_settled h x.origins frames past harts x.are; once = x.once }

pub frames_settled : SettlingKeepsFrames
frames_settled world belong h b at =
    let x = freed_at world.harts h b at in
    subst (λ (c : HartState). FramesFit (after (world.journal ++ settling world.harts)) h c.frames) x.2
    (fit_settled world.journal world.harts h x.0.frames (belong h x.0 x.1))

pub finals_settled : SettlingKeepsFinals
finals_settled w world belong first at on =
    let x = freed_at world.harts 0 first at in
    let was : FinalsFit w world.journal x.0.frames = belong x.0 x.1 (ap (λ (c : HartState). c.«end») x.2 ∙ on) in
    subst (λ (c : HartState). FinalsFit w (world.journal ++ settling world.harts) c.frames) x.2 (record {
      code = was.code;
      function = was.function;
      above = was.above;
      are = was.are;
      fit = fit_settled world.journal world.harts 0 was.above was.fit;
      initialised = in_has (after (world.journal ++ settling world.harts)).inits was.function.object
          (inits_kept world.journal (settling world.harts) was.function.object (has_in (after world.journal).inits was.function.object was.initialised));
      was = was_grows w world.journal (settling world.harts) was.function.object was.was;
    })
