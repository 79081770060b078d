-- When a run starts each hart has what it is to run of its opening.
use Rattle.std.proofs.Common.{◌≡◌, List, Some, subst}
use Rattle.std.specs.List.{slice_get}
use Rattle.history_calls.specs.Laws.{OpeningBegins}
use Rattle.hart_moves.specs.Harts.{HartState}
use Rattle.world_turns.specs.WorldFrames.Laws.{StartBelongs}
use Rattle.world_turns.specs.WorldFrames.Lemmas.Starting.{starting_fit}

pub start_belongs : OpeningBegins → StartBelongs
start_belongs begins w setup world is h b at =
    starting_fit begins w setup world.journal is.started is.starts h b (subst (λ (bs : List HartState). slice_get bs h ≡ Some b) is.harts at)
