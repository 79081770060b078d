use Rattle.std.proofs.Common.{refl, ap, ◌∙◌}
use Rattle.hart_moves.specs.Harts.{HartState}
use Rattle.hart_moves.specs.Moves.{Did}
use Rattle.hart_seat.specs.HartParts.Views.{offered_of}
use Rattle.world_answers.proofs.guests.alone.exchange.Goals as goal

pub returns-clause-turn : goal.returns-clause-turn
returns-clause-turn c =
    let left = c.exchanged.ensures (offered_of c.args.offered) c.requires.granted in
    record {
      did = Did.exchanges (offered_of c.args.offered) c.exchange-found.result;
      quiet = refl;
      moves = λ w past h. record { found = c.exchange-found.result; is = refl; leaves = left };
      does = λ past. (c.exchange-found.ensures.found, c.exchange-found.ensures.left);
      runs = ap (λ (b : HartState). b.«end») left ∙ c.requires.runs;
      no_call = refl;
    }
