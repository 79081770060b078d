-- Where nothing fails in events, nothing does in parts of them.
use Rattle.std.proofs.Common.{List, ◌++◌, sym, ◌∙◌}
use Rattle.std.specs.List.{list_any}
use Rattle.std.proofs.lemmas.Bool.{or_parts}
use Rattle.std.proofs.lemmas.List.Folds.{list_any-append}
use Rattle.history_event.specs.declared.event.Event.{Event}
use Rattle.world_laws.specs.TurnOnce.Laws.{NothingFails, is_from_outside}

either_part : (one other : List Event) → NothingFails (one ++ other) → NothingFails one × NothingFails other
either_part one other none = or_parts (list_any is_from_outside one) (list_any is_from_outside other) (sym (list_any-append is_from_outside one other) ∙ none)

pub front_part : (one other : List Event) → NothingFails (one ++ other) → NothingFails one
front_part one other none = (either_part one other none).0

pub last_part : (one other : List Event) → NothingFails (one ++ other) → NothingFails other
last_part one other none = (either_part one other none).1
