-- The first view of the keeper.
use Rattle.word_rule.specs.Start.{IsFirst, first_keeper}
use Rattle.word_rule.specs.Views.{IsLong}
use Rattle.word_rule.specs.Lemmas.Begins.{is_first}
use Rattle.word_steps.specs.Views.{IsResting}

-- the first keeper's view rests, and knows of every doubleword
pub first_rests : IsResting first_keeper
first_rests = record { access = is_first.access; note = is_first.no_note }

pub first_long : IsLong first_keeper
first_long = is_first.long

pub first_of : IsFirst first_keeper
first_of = is_first
