-- What harts fetched: words of the images that the journal has, or had when it took them away. For whoever reads what a run promises.
use Rattle.std.specs.Prelude.{◌≡◌, ◌⊎◌, ℕ, List, take, Ok, Some, Contains}
use Rattle.std.specs.List.{slice_get}
use Rattle.ld_base.specs.declared.linking.Role.TheVariants.{Rx}
use Rattle.rv_hart.specs.Doublewords.{lane}
use Rattle.rv_hart.specs.declared.bus.Item.TheVariants.{Fetch}
use Rattle.history_event.specs.declared.event.Event.{Event}
use Rattle.word_rule.specs.declared.view.TrailItem.{TrailItem}
use Rattle.word_rule.specs.declared.view.TrailItem.TheVariants.{Call}
use Rattle.word_rule.specs.declared.view.Retired.{Retired}
use Rattle.word_rule.specs.Fetches.{FetchesFind, StandAmong}
use Rattle.word_rule.specs.HartSteps.{IsAsked}
use Rattle.word_rule.specs.Layout.{place_of}
use Rattle.history_state.specs.After.{after}
use Rattle.history_state.specs.Changes.{taken}
use Rattle.history_state.specs.Memory.{first_word_at, role_at}
use Rattle.history_memory.specs.Memory.{doubleword_of}
use Rattle.kept_words.specs.Gone.{HaveGone, IsCovered}

-- an event of the journal took the doubleword away, which could be run
pub record WasTaken (journal : List Event) (d : ℕ) : Type 0 where
  pub number : ℕ
  pub event : Event
  pub at : slice_get journal number ≡ Some event
  pub address : ℕ
  pub covered : IsCovered (taken (after (take number journal)) event) address
  pub place : place_of address ≡ d
  pub role : role_at (after (take number journal)) address ≡ Rx

-- what a fetch found: an instruction may lie at the address, and these are four bytes of an RX word there, of what is mapped, or of what was mapped when the
-- word was taken away
pub data IsCodeAt (journal : List Event) (a bits : ℕ) : Type 0 where
  mapped : IsAsked a 4 → role_at (after journal) (doubleword_of a) ≡ Rx → bits ≡ lane (first_word_at (after journal) (doubleword_of a)) a 4 → IsCodeAt journal a bits
  unmapped : IsAsked a 4 → (was : WasTaken journal (place_of a)) → bits ≡ lane (first_word_at (after (take was.number journal)) (doubleword_of a)) a 4
      → IsCodeAt journal a bits

-- so it is with each fetch in a trail that was answered, but for some, of whose bytes nothing is said: for each of these stands a role RX of its doubleword
-- that the journal took away. Each role that went stands for one fetch at most, in the order in which they went
pub record AreCode (journal : List Event) (trail : List TrailItem) : Type 0 where
  pub gone : List Retired
  pub have_gone : HaveGone journal gone
  pub crossed : List Retired
  pub among : StandAmong crossed gone
  pub each : FetchesFind (IsCodeAt journal) trail crossed

-- of each answered fetch by itself: it found code, or a word that could be run was taken away there
abbrev pub EachIsCode : Type 0
EachIsCode = (journal : List Event) (trail : List TrailItem) (a bits : ℕ) → AreCode journal trail → Contains trail (Call (Fetch a (Ok bits)))
    → IsCodeAt journal a bits ⊎ (IsAsked a 4 × WasTaken journal (place_of a))
