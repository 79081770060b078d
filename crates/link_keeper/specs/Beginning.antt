-- Whether every hart has ended by exit, as it is read off a journal. For the code of this crate alone.
use Rattle.std.specs.Prelude.{◌≡◌, ℕ, false, Bool, ◌&&◌, nat_le, List, [], ◌∷◌, ◌++◌, length, take, flat_map, IsTrue}
use Rattle.std.specs.List.{list_all}
use Rattle.history_event.specs.declared.event.Event.{Event}
use Rattle.history_event.specs.declared.event.Event.TheVariants.{Ended}
use Rattle.history_event.specs.declared.state.Ending.{Ending}
use Rattle.history_event.specs.declared.hart_end.HartEnd.TheVariants.{Memory}
use Rattle.word_rule.specs.declared.view.HartView.{HartView}
use Rattle.word_rule.specs.declared.view.TrailItem.TheVariants.{Took}
use Rattle.word_rule.specs.Views.{BeginsWith}
use Rattle.history_state.specs.After.{after}
use Rattle.history_state.specs.Setting.{Setting, are_finals, exited}
use Rattle.tls_blocks.specs.Blocks.{BlockTable}
use Rattle.hart_moves.specs.Follows.{HasNone}
use Rattle.hart_trails.specs.Entries.{entry_behind}
use Rattle.hart_linker.specs.Between.{BlocksFit, HasHeard}

-- the end of a hart that an event is
abbrev pub ending_by : Event → List Ending
ending_by e = elim e [ Ended hart reason ↦ record { hart = hart; «end» = reason } ∷ [] | _ ↦ [] ]

abbrev pub ends_in : List Event → List Ending
ends_in events = flat_map ending_by events

-- there are so many ends, and the first so many are exits
abbrev pub first_exited : ℕ → List Ending → Bool
first_exited harts endings = nat_le harts (length endings) && list_all exited (take harts endings)

-- the first hart ended once more, for want of memory, behind these events, at which every hart had ended by exit
pub record EndsAgain (w : Setting) (begun : List Event) (before now : HartView) : Type 0 where
  pub same : now.number ≡ before.number
  pub past : List Event
  pub since : BeginsWith past before.heard
  pub none : HasNone past before.number (length before.heard) (length past)
  pub over : IsTrue (are_finals w (after past))
  pub is : now.heard ≡ past ++ Ended before.number Memory ∷ []
  pub trail : now.trail ≡ before.trail ++ Took (entry_behind past (Ended before.number Memory)) ∷ []
  pub heard : HasHeard w begun now
  pub calling : now.lane.calling ≡ false
  pub blocks : (d : BlockTable) → BlocksFit d before → BlocksFit d now
