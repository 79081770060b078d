-- What unmappings take away: each role of a word of their ranges, those of slots first, at the generation and behind the events that each of them comes
-- at, with the words that could be run. For the loops that take them, and for whoever reads what a run promises.
use Rattle.std.specs.Prelude.{◌≡◌, ◌≢◌, ℕ, true, List, [], ◌∷◌, ◌++◌, length, Contains}
use Rattle.ld_base.specs.declared.linking.Role.{Role}
use Rattle.ld_base.specs.declared.linking.Role.TheVariants.{None as NoRole, Rx, Slot}
use Rattle.history_event.specs.declared.event.Event.{Event}
use Rattle.history_event.specs.declared.event.Range.{Range}
use Rattle.word_rule.specs.declared.view.KeeperView.{KeeperView}
use Rattle.word_rule.specs.declared.view.Retired.{Retired}
use Rattle.word_rule.specs.Fetches.{RoleWent}
use Rattle.word_rule.specs.Layout.{place_of}
use Rattle.word_rule.specs.Views.{kept_at}
use Rattle.history_state.specs.After.{after}
use Rattle.history_state.specs.Changes.{taken}
use Rattle.history_state.specs.Memory.{covers, first_word_at, role_at}
use Rattle.history_state.specs.Step.{step}
use Rattle.history_memory.specs.Memory.{IsDoubleword}

-- the address of a doubleword of guest memory that one of these ranges has
pub record IsCovered (ranges : List Range) (a : ℕ) : Type 0 where
  pub word : IsDoubleword a
  pub range : Range
  pub there : Contains ranges range
  pub covers_it : covers a range ≡ true

-- a doubleword is inside one of them, or outside all of them
abbrev pub IsInside : List Range → ℕ → Type 0
IsInside ranges d = (a : ℕ) × IsCovered ranges a × (place_of a ≡ d)

abbrev pub IsOutside : List Range → ℕ → Type 0
IsOutside ranges d = ¬ (IsInside ranges d)

-- a slot's role, or another one
abbrev pub IsOfSlot : Role → Type 0
IsOfSlot role = role ≡ Slot

abbrev pub IsOfOther : Role → Type 0
IsOfOther role = role ≢ Slot

-- each of these roles is such a one, and went from a doubleword of the ranges, at this generation and behind so many events
abbrev pub AreGone : (Role → Type 0) → List Range → ℕ → ℕ → List Retired → Type 0
AreGone which ranges generation number gone =
    (x : Retired) → Contains gone x → which x.role × IsInside ranges x.at × (x.generation ≡ generation) × (x.number ≡ number)

-- first went those of slots, and then the others
pub record GoInOrder (ranges : List Range) (generation number : ℕ) (gone : List Retired) : Type 0 where
  pub slots : List Retired
  pub others : List Retired
  pub are : gone ≡ slots ++ others
  pub first : AreGone IsOfSlot ranges generation number slots
  pub next : AreGone IsOfOther ranges generation number others

-- each role that a doubleword of the ranges had is among them
abbrev pub AllGo : (ℕ → Role) → List Range → List Retired → Type 0
AllGo role ranges gone = (a : ℕ) → IsCovered ranges a → role a ≢ NoRole → RoleWent gone (place_of a) (role a)

-- no doubleword stands twice
abbrev pub AreApart : List Retired → Type 0
AreApart [] = Unit {0}
AreApart (x ∷ xs) = ((y : Retired) → Contains xs y → x.at ≢ y.at) × AreApart xs

-- nothing else is: each is the role that its doubleword had, once
pub record OnlyGo (role : ℕ → Role) (gone : List Retired) : Type 0 where
  pub some : (x : Retired) → Contains gone x → x.role ≢ NoRole
  pub had : (x : Retired) (a : ℕ) → Contains gone x → IsDoubleword a → place_of a ≡ x.at → x.role ≡ role a
  pub once : AreApart gone

-- the word of an RX doubleword that is among them is the one at its address
abbrev pub HadWords : (ℕ → ℕ) → List Retired → Type 0
HadWords word gone = (x : Retired) (a : ℕ) → Contains gone x → x.role ≡ Rx → IsDoubleword a → place_of a ≡ x.at → x.value ≡ word a

-- so they did between two views
pub record Goes (ranges : List Range) (generation : ℕ) (k l : KeeperView) : Type 0 where
  pub more : List Retired
  pub are : l.retired ≡ k.retired ++ more
  pub in_order : GoInOrder ranges generation (length k.events) more
  pub all : AllGo (λ a. (kept_at k (place_of a)).role) ranges more
  pub only : OnlyGo (λ a. (kept_at k (place_of a)).role) more
  pub words : HadWords (λ a. (kept_at k (place_of a)).value) more

-- what went by an event behind these: the roles of the words that it takes away, all of them and no others, at the generation behind it. What could be run
-- was the image's word
pub record WentBy (past : List Event) (e : Event) (more : List Retired) : Type 0 where
  pub in_order : GoInOrder (taken (after past) e) (step (after past) e).generation (length past) more
  pub all : AllGo (role_at (after past)) (taken (after past) e) more
  pub only : OnlyGo (role_at (after past)) more
  pub words : HadWords (first_word_at (after past)) more

-- all that went by these events, one after another
pub data HaveGone : List Event → List Retired → Type 0 where
  nothing : HaveGone [] []
  by_event : (past : List Event) (e : Event) (gone more : List Retired) → HaveGone past gone → WentBy past e more → HaveGone (past ++ e ∷ []) (gone ++ more)
