-- A worked trail.
use Rattle.std.specs.Prelude.{◌≡◌, List, [], ◌∷◌, None}
use Rattle.ld_base.specs.declared.linking.Choice.TheVariants.{Def}
use Rattle.history_event.specs.declared.event.Event.{Event}
use Rattle.history_event.specs.declared.event.Event.TheVariants.{Grant}
use Rattle.word_rule.specs.declared.entry.Exchange.{Exchange}
use Rattle.word_rule.specs.declared.view.TrailItem.TheVariants.{Done, Exchanged}
use Rattle.history_state.specs.Setting.{Setting}
use Rattle.hart_moves.specs.Follows.{Turned}
use Rattle.hart_moves.specs.Harts.{HartState, Offered, Resolving}
use Rattle.hart_moves.specs.Moves.{Did, spent}
use Rattle.hart_moves.specs.Registers.{at}
use Rattle.hart_moves.specs.Trails.{beside_of}
use Rattle.hart_trails.specs.Trails.{FollowsBy}

abbrev pub journal : List Event
journal = Grant 1 0 2 0 (Def 3 1) 0x39000 ∷ []

abbrev pub offer : Offered
offer = record { number = 1; slot = 0x37010; lazy = 0x35000; value = 0x39000 }

abbrev pub exchange : Exchange
exchange = record {
  grant = record { entry = record { mark = 3; number = 1; slot = 0x37010; value = 0x39000; generation = 0 }; lazy = 0x35000 };
  found = 0x35000;
}

-- a turn behind the grant
abbrev pub turn : HartState → Did → Turned
turn b did = record { at = 1; did = did; beside = beside_of journal 0 b did }

abbrev pub exchanged : HartState → HartState
exchanged b = spent (record b { resolving = Resolving.to_finish offer 0x35000 })

-- a hart that was granted the slot finds the lazy word, and goes on at its own choice
abbrev pub FollowsExchange : Type 0
FollowsExchange = (w : Setting) (b : HartState) → b.resolving ≡ Resolving.to_exchange offer → b.«end» ≡ None
    → FollowsBy w journal 0 1 b (turn b (Did.exchanges offer 0x35000) ∷ turn (exchanged b) Did.finishes ∷ []) (Exchanged exchange ∷ Done ∷ []) 1
    (spent (record (exchanged b) { registers = at 0x39000 b.registers; resolving = Resolving.to_settle offer 0x35000 }))
