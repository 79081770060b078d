-- What holds whenever the keeper's lock is free. For whoever makes a keeper, and for whoever closes it.
use Rattle.std.specs.Prelude.{◌≡◌, ◌⊎◌, ℕ, ◌<◌, Bool, true, false, List, ◌∷◌, ◌++◌, Option, length, drop, Some, None, Contains, IsTrue}
use Rattle.ld_base.specs.declared.linking.File.{File}
use Rattle.history_event.specs.declared.event.Event.{Event}
use Rattle.history_event.specs.declared.event.Event.TheVariants.{Open}
use Rattle.word_rule.specs.declared.entry.Grant.{Grant}
use Rattle.word_rule.specs.declared.view.KeeperView.{KeeperView}
use Rattle.word_rule.specs.Layout.{harts_at_most}
use Rattle.word_rule.specs.Views.{row_of}
use Rattle.history_state.specs.After.{after}
use Rattle.history_state.specs.Setting.{Setting, have_exited}
use Rattle.history_calls.specs.Laws.{hart_of}
use Rattle.history_journal.specs.Following.{machine_of}
use Rattle.link_state.specs.Granting.{HasOpenGrant}
use Rattle.link_state.specs.Table.{LinkTable}
use Rattle.world_turns.specs.Counts.{Counts, ShowInCounts}
use Rattle.kept_words.specs.Kept.{AreKept}
use Rattle.kept_words.specs.Staying.{number_in}
use Rattle.link_keeper.specs.Rounds.{AreRounds}

-- each grant whose fate the keeper doesn't know is an open one of its hart
abbrev pub AreOpen : KeeperView → Type 0
AreOpen k = (m : ℕ) (g : Grant) → m < harts_at_most → (row_of k m).pending ≡ Some g → HasOpenGrant (after k.events) m (number_in k.events m g)

-- at some moment so far every hart had ended by exit
abbrev pub WasOver : Setting → List Event → Type 0
WasOver w journal = (past : List Event) × (since : List Event) × (journal ≡ past ++ since) × IsTrue (have_exited w (after past))

-- since then only the first hart's events come, and nobody's
abbrev pub FirstGoesOn : Setting → List Event → Type 0
FirstGoesOn w journal = (past : List Event) (e : Event) (rest : List Event) → journal ≡ past ++ e ∷ rest → WasOver w past
    → (hart_of e ≡ Some 0) ⊎ (hart_of e ≡ None)

-- the keeper's view is that of its journal. `begun` is the journal that the run had when its harts' seats were made
pub record KeepsView (w : Setting) (begun : List Event) (k : KeeperView) : Type 0 where
  pub kept : AreKept w begun k
  pub pending : AreOpen k
  pub last : FirstGoesOn w k.events

-- and the journal is the state's
pub record KeepsState (w : Setting) (begun : List Event) (state : LinkTable) (k : KeeperView) : Type 0 where
  pub view : KeepsView w begun k
  pub machine : w.machine ≡ machine_of state.harts
  pub same : k.events ≡ state.events

-- folders and files are those of the run, and the library's counts show each refusal since the seats were made: `first` is what it had counted then.
-- The events since then came round after round
pub record LockKeeps (w : Setting) (begun : List Event) (first : Counts) (state : LinkTable) (k : KeeperView) (folders : List (List ℕ))
    (files : Option (List File)) (counts : Counts) : Type 0 where
  pub keeps : KeepsState w begun state k
  pub folders_are : w.folders ≡ folders
  pub files_are : w.files ≡ files
  pub shown : ShowInCounts w.folders (drop (length begun) k.events) first counts
  pub rounds : AreRounds w begun k.events k.opens

-- what is behind the lock once it is closed
pub record IsClosed (w : Setting) (begun : List Event) (first : Counts) (state : LinkTable) (k : KeeperView)
    (files : Option (List File)) (counts : Counts) : Type 0 where
  pub folders : List (List ℕ)
  pub kept : LockKeeps w begun first state k folders files counts

-- ---- what leaves the library's counts as they are

abbrev pub is_opening : Event → Bool
is_opening e = elim e [ Open hart ask answer ↦ true | _ ↦ false ]

-- events came, and none is an opening
pub record OpensNothing (old new : List Event) : Type 0 where
  pub more : List Event
  pub are : new ≡ old ++ more
  pub none : (e : Event) → Contains more e → is_opening e ≡ false
