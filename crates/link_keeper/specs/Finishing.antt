-- What a run on threads comes to, once its harts have ended: a whole journal, and each hart's trail beside it. For whoever runs a program, and for whoever
-- reads what a run promises.
use Rattle.std.specs.Prelude.{◌≡◌, ℕ, ◌<◌, List, [], ◌∷◌, ◌++◌, length, Some, Contains}
use Rattle.std.specs.List.{slice_get}
use Rattle.history_event.specs.declared.event.Event.{Event}
use Rattle.history_event.specs.declared.event.Event.TheVariants.{Lost as LostEvent}
use Rattle.word_rule.specs.declared.entry.Exchange.{Exchange}
use Rattle.word_rule.specs.declared.entry.Grant.{Grant}
use Rattle.word_rule.specs.declared.view.Fate.{Fate}
use Rattle.word_rule.specs.declared.view.Fate.TheVariants.{Lost, Won}
use Rattle.word_rule.specs.declared.view.HartView.{HartView}
use Rattle.word_rule.specs.Generations.{AllKept}
use Rattle.word_rule.specs.Layout.{harts_at_most}
use Rattle.word_rule.specs.Slots.{HasLost, HasWon, Rising}
use Rattle.word_rule.specs.Views.{BeginsWith, exchanges_of}
use Rattle.history_state.specs.Legal.{Legal, Whole}
use Rattle.history_state.specs.Setting.{Setting}
use Rattle.hart_moves.specs.Follows.{HasNone}
use Rattle.hart_trails.specs.Owners.{AreNobodys, AreOfHarts}
use Rattle.kept_words.specs.Kept.{IsFateEvent}
use Rattle.kept_words.specs.Over.{IsFinished, TrailIsTrue}
use Rattle.kept_words.specs.Staying.{IsGrantEvent, number_in}

-- a hart that was told of these events, and nothing else of it has changed
abbrev pub knows : List Event → HartView → HartView
knows events h = record h { heard = events }

-- a hart's trail beside the journal: nothing of the hart stands behind what it has heard. The trail's entries of events are the hart's events since the
-- seats were made, in order, and say what those answer; its exchanges are of its grants, one after another, and won where those were bound; what it
-- fetched is code, but where an executable word was taken away; and each block that it read by itself is that of the last answer at its generation
pub record TrailIsClosed (w : Setting) (begun journal : List Event) (h : ℕ) (j : HartView) : Type 0 where
  pub number : j.number ≡ h
  pub longer : BeginsWith journal j.heard
  pub none : HasNone journal h (length j.heard) (length journal)
  pub is_true : TrailIsTrue w begun journal h j
  pub rising : Rising (exchanges_of j.trail)
  pub kept : AllKept [] j.trail

-- the exchange of a grant came to this
abbrev pub HasCome : Fate → List Exchange → Grant → Type 0
HasCome Won exchanges g = HasWon exchanges g
HasCome Lost exchanges g = HasLost exchanges g

-- a grant of this number was won, or lost, by an exchange in the trail of its hart, which found the word that its event shows
pub record IsExchangeOf (journal : List Event) (harts : List HartView) (n : ℕ) (f : Fate) (e : Event) : Type 0 where
  pub hart : ℕ
  pub view : HartView
  pub there : slice_get harts hart ≡ Some view
  pub grant : Grant
  pub event : IsGrantEvent journal hart grant
  pub number_is : number_in journal hart grant ≡ n
  pub come : HasCome f (exchanges_of view.trail) grant
  pub shown : (i saw : ℕ) → e ≡ LostEvent i saw → Contains (exchanges_of view.trail) (record { grant = grant; found = saw })

-- an event settles a grant of this hart
abbrev pub IsSettlingOf : List Event → ℕ → Event → Type 0
IsSettlingOf journal h e = (g : Grant) × (f : Fate) × IsGrantEvent journal h g × IsFateEvent (number_in journal h g) f e

-- these settle grants of harts below this number: each hart's behind those of the harts below it
pub data SettledUpTo (journal : List Event) : ℕ → List Event → Type 0 where
  nothing : (below : ℕ) → SettledUpTo journal below []
  one_more : (front : List Event) (h below : ℕ) (e : Event) → SettledUpTo journal h front → h < below → IsSettlingOf journal h e
      → SettledUpTo journal below (front ++ e ∷ [])

-- behind the journal that was, grants are settled that were open still, in the order of their harts, and nothing else came. All is a legal history and,
-- where the final destructors have run, a whole one; and each hart's trail says what it says
pub record RunIsOver (w : Setting) (begun before journal : List Event) (harts : List HartView) : Type 0 where
  pub more : List Event
  pub are : journal ≡ before ++ more
  pub nobodys : AreNobodys more
  pub in_order : SettledUpTo journal harts_at_most more
  pub legal : Legal w journal
  pub begins : BeginsWith journal begun
  pub own : AreOfHarts w journal
  pub whole : IsFinished w journal → Whole w journal
  pub trails : (h : ℕ) (j : HartView) → slice_get harts h ≡ Some j → TrailIsClosed w begun journal h j
  pub fates : (n : ℕ) (f : Fate) (e : Event) → Contains journal e → IsFateEvent n f e → IsExchangeOf journal harts n f e
