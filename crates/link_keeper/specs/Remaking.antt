-- Memory gets what a turn's events come to, before the keeper counts them. For the code of this crate alone.
use Rattle.std.specs.Prelude.{◌≡◌, ℕ, true, false, List, ◌∷◌, ◌++◌}
use Rattle.history_event.specs.declared.event.Event.{Event}
use Rattle.word_rule.specs.declared.view.KeeperView.{KeeperView}
use Rattle.history_state.specs.After.{after}
use Rattle.history_state.specs.Allowed.{Allowed}
use Rattle.history_state.specs.Setting.{Setting}
use Rattle.history_calls.specs.declared.link_served.installs.Installs.{Installs}
use Rattle.link_state.specs.Table.{LinkTable}
use Rattle.world_memory.specs.TurnAnswers.Changes.{Changes}
use Rattle.world_memory.specs.declared.turn_answers.answered.MemoryChange.{MemoryChange}
use Rattle.world_memory.specs.declared.turn_answers.answered.MemoryChange.TheVariants as change
use Rattle.word_installs.specs.Installed.{IsInstalled, MayInstall}
use Rattle.word_installs.specs.Unmapped.{IsUnmapped, MayUnmap}
use Rattle.kept_words.specs.Keeping.{IsRemadeView, remakes_memory}
use Rattle.link_keeper.specs.Entering.{AreQuiet}
use Rattle.link_keeper.specs.Keeping.{KeepsView}

-- the state is ahead of the keeper by these events, which come to this change of memory: the first may come, and those behind it bring nothing and
-- take nothing away
pub record ComesTo (w : Setting) (state : LinkTable) (k : KeeperView) (e : Event) (rest : List Event) (does : MemoryChange) : Type 0 where
  pub ahead : state.events ≡ k.events ++ e ∷ rest
  pub may : Allowed w k.events e
  pub quiet : AreQuiet rest
  pub changes : Changes (after k.events) (e ∷ rest) state.made does

-- the keeper's view before the first of them is counted: it is remade by the event, if that brings objects or a block or takes objects away; else
-- the keeper's record is as it was. No row, hart or event is another
pub record Remakes (w : Setting) (begun : List Event) (e : Event) (k l : KeeperView) : Type 0 where
  pub remade : remakes_memory e ≡ true → IsRemadeView (after k.events) e k l
  pub keeps : remakes_memory e ≡ false → KeepsView w begun l
  pub only : l ≡ record k { words = l.words; shown = l.shown; retired = l.retired; generation = l.generation }

-- ---- one change

-- it may be made; `made` is the block that the state has made last
abbrev pub MayMake : MemoryChange → Installs → KeeperView → Type 0
MayMake change.Nothing made k = Unit {0}
MayMake (change.Installs installs) made k = MayInstall k installs
MayMake change.Made made k = MayInstall k made
MayMake (change.Removes ranges) made k = MayUnmap k ranges

-- it was, and the generation is set
abbrev pub IsMade : MemoryChange → Installs → ℕ → KeeperView → KeeperView → Type 0
IsMade change.Nothing made generation k l = l ≡ record k { generation = generation }
IsMade (change.Installs installs) made generation k l = IsInstalled installs k l × (l.generation ≡ generation)
IsMade change.Made made generation k l = IsInstalled made k l × (l.generation ≡ generation)
IsMade (change.Removes ranges) made generation k l = IsUnmapped ranges k l × (l.generation ≡ generation)
