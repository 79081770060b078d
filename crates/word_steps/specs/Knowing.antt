-- What a seat knows once an event is counted, a hart's seat is joined, or it was told of another's knowledge.
use Rattle.std.specs.Prelude.{[], ◌∷◌, ◌++◌, Some}
use Rattle.history_event.specs.declared.event.Event.{Event}
use Rattle.word_rule.specs.declared.view.HartView.{HartView}
use Rattle.word_rule.specs.declared.view.KeeperView.{KeeperView}
use Rattle.word_rule.specs.Views.{known_of, longer, readings_of, row_of}

-- an event more
abbrev pub counted : Event → KeeperView → KeeperView
counted e k = record k { events = k.events ++ e ∷ [] }

-- a hart whose seat is joined
abbrev pub with_joined : HartView → KeeperView → KeeperView
with_joined h k = record k { joined = k.joined ++ h ∷ [] }

-- the keeper was told of a hart's knowledge: it keeps its own list, and the hart's until its next load
abbrev pub told_of : HartView → KeeperView → KeeperView
told_of h k =
    record k {
      note = Some (record { had = k.events; told = h.heard; number = h.number; entries = known_of h.lane; readings = readings_of h.trail; lazy = 0 });
    }

-- a hart was told of the keeper's knowledge: it has the longer list, and keeps both until its next load
abbrev pub told_by : KeeperView → HartView → HartView
told_by k h =
    record h {
      heard = longer h.heard k.events;
      note = Some (record {
        had = h.heard;
        told = k.events;
        number = h.number;
        entries = (row_of k h.number).issued;
        readings = [];
        lazy = (row_of k h.number).lazy;
      });
    }
