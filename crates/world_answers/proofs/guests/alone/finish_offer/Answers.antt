use Rattle.std.proofs.Common.{refl, [], ap, ◌∙◌}
use Rattle.hart_moves.specs.Harts.{HartState}
use Rattle.hart_moves.specs.Moves.{Did}
use Rattle.world_answers.specs.GuestsPart.GuestWorlds.Worlds.{setting_without}
use Rattle.world_answers.proofs.guests.alone.finish_offer.Goals as goal

pub returns-clause-turn : goal.returns-clause-turn
returns-clause-turn c = λ words o found at.
    let left = (c.finish.ensures (setting_without 0 [] []) [] 0 o found at).leaves in
    record {
      did = Did.finishes;
      quiet = refl;
      moves = λ w past h. c.finish.ensures w past h o found at;
      does = λ past. refl;
      runs = ap (λ (b : HartState). b.«end») left ∙ c.requires;
      no_call = refl;
    }
