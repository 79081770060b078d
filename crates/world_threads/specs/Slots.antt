-- What became of each slot by the end of a run on threads: each exchange of it put there or found one value, or no grant of it was made.
use Rattle.std.specs.Prelude.{◌≡◌, ◌⊎◌, ℕ, false, List, Some, None, Contains, IsTrue}
use Rattle.std.specs.List.{slice_get}
use Rattle.history_event.specs.declared.event.Event.{Event}
use Rattle.history_event.specs.declared.event.Event.TheVariants.{Bound}
use Rattle.history_event.specs.declared.state.Granting.{Granting}
use Rattle.history_calls.specs.declared.link_served.startup.Setup.{Setup}
use Rattle.history_state.specs.After.{after}
use Rattle.history_state.specs.Grants.{is_of}
use Rattle.history_state.specs.Legal.{IsOnlyBound}
use Rattle.history_state.specs.Objects.{IsMapped}
use Rattle.history_state.specs.Setting.{Setting}
use Rattle.history_state.specs.Slots.{value_at_load}
use Rattle.kept_words.specs.Staying.{number_in}
use Rattle.link_keeper.specs.Finishing.{IsExchangeOf}
use Rattle.trace_text.specs.declared.run_texts.record.RunRecord.{RunRecord}
use Rattle.word_rule.specs.declared.entry.Exchange.{Exchange}
use Rattle.word_rule.specs.declared.view.Fate.TheVariants.{Won}
use Rattle.word_rule.specs.declared.view.HartView.{HartView}
use Rattle.word_rule.specs.declared.view.KeeperView.{KeeperView}
use Rattle.word_rule.specs.Views.{exchanges_of}
use Rattle.world_threads.specs.Threaded.{IsThreaded}

-- a hart's exchange of this grant, which is one of the slot
pub record IsExchangedFor (journal : List Event) (harts : List HartView) (owner slot : ℕ) (g : Granting) (x : Exchange) : Type 0 where
  pub hart : ℕ
  pub view : HartView
  pub there : slice_get harts hart ≡ Some view
  pub made : Contains (exchanges_of view.trail) x
  pub granted : Contains (after journal).grants g
  pub number_is : number_in journal hart x.grant ≡ g.number
  pub of : IsTrue (is_of owner slot g)

-- it found the slot lazy, and put the grant's value there
pub record Wins (value : ℕ) (bound g : Granting) (x : Exchange) : Type 0 where
  pub number_is : g.number ≡ bound.number
  pub lazy : x.found ≡ x.grant.lazy
  pub value_is : x.grant.entry.value ≡ value

pub data SlotEnds (journal : List Event) (harts : List HartView) (owner slot : ℕ) : Type 0 where
  -- it got its value when its object was loaded, and each exchange of it found that
  at_load : (value : ℕ) → value_at_load (after journal) owner slot ≡ Some value
      → ((g : Granting) (x : Exchange) → IsExchangedFor journal harts owner slot g x → x.found ≡ value) → SlotEnds journal harts owner slot
  -- it is lazy still: no grant of it was made
  untouched : value_at_load (after journal) owner slot ≡ None
      → ((g : Granting) → Contains (after journal).grants g → is_of owner slot g ≡ false) → SlotEnds journal harts owner slot
  -- one grant of it alone is bound, which a hart's exchange won, and each other exchange of the slot found that grant's value
  bound : (value : ℕ) (o : IsOnlyBound (after journal) owner slot value) → IsExchangeOf journal harts o.grant.number Won (Bound o.grant.number)
      → ((g : Granting) (x : Exchange) → IsExchangedFor journal harts owner slot g x → Wins value o.grant g x ⊎ (x.found ≡ value))
      → SlotEnds journal harts owner slot

-- of each slot of an object that is mapped
abbrev pub SlotsEnd : List Event → List HartView → Type 0
SlotsEnd journal harts = (owner slot : ℕ) → IsMapped (after journal) owner → SlotEnds journal harts owner slot

abbrev pub RunsEndSlots : Type 0
RunsEndSlots = (w : Setting) (setup : Setup) (left : RunRecord) (trails : KeeperView) → IsThreaded w setup left trails
    → SlotsEnd left.journal.events trails.joined
