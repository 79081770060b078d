-- While a hart runs, not every hart has ended. For the laws of Fits.
use Rattle.std.specs.Prelude.{◌≡◌, ℕ, ◌<◌, false, List, map, Contains}
use Rattle.history_event.specs.declared.event.Event.{Event}
use Rattle.history_event.specs.declared.state.Ending.{Ending}
use Rattle.history_state.specs.After.{after}
use Rattle.history_state.specs.Legal.{Lawful}
use Rattle.history_state.specs.Setting.{Setting, exited, have_exited}
use Rattle.hart_fits.specs.Others.{NeverOver}

-- what ended are harts of the machine
abbrev pub EndsWithin : Setting → List Event → Type 0
EndsWithin w journal = (e : Ending) → Contains (after journal).endings e → e.hart < w.machine.harts

-- the hart hasn't ended
abbrev pub RunsYet : ℕ → List Event → Type 0
RunsYet h journal = Contains (map (λ e. e.hart) (after journal).endings) h → ⊥

abbrev pub RunningIsNotOver : Type 0
RunningIsNotOver = (w : Setting) (journal : List Event) (h : ℕ) → Lawful w.machine journal → h < w.machine.harts → EndsWithin w journal → RunsYet h journal
    → NeverOver w journal

-- nor while each of its ends that the journal has is another than by exit
abbrev pub UnexitedIsNotOver : Type 0
UnexitedIsNotOver = (w : Setting) (journal : List Event) (h : ℕ) → Lawful w.machine journal → h < w.machine.harts → EndsWithin w journal
    → ((e : Ending) → Contains (after journal).endings e → e.hart ≡ h → exited e ≡ false) → have_exited w (after journal) ≡ false
