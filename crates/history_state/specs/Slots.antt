-- The slots of a state: which object has one, what it chose, and which grants it had.
use Rattle.std.specs.Prelude.{◌≡◌, ◌≢◌, ℕ, ◌==◌, ◌⊎◌, false, find, Option, Some, None, Contains, IsTrue}
use Rattle.std.specs.List.{slice_get}
use Rattle.std.specs.Option.{option_and_then}
use Rattle.ld_base.specs.declared.linking.Choice.{Choice}
use Rattle.ld_base.specs.declared.linking.Loaded.{Loaded}
use Rattle.ld_base.specs.declared.object.Reloc.{Reloc}
use Rattle.history_event.specs.declared.state.Granting.{Granting}
use Rattle.history_event.specs.declared.state.Standing.TheVariants.{Open, Bound, Lost}
use Rattle.scope_rule.specs.Relocation.{choice_at}
use Rattle.scope_rule.specs.Seen.{seen_in}
use Rattle.scope_rule.specs.declared.namespace.Namespace.{Namespace}
use Rattle.history_state.specs.State.{State}
use Rattle.history_state.specs.Addresses.{leads_to_code}
use Rattle.history_state.specs.Bound.{lazy_word}
use Rattle.history_state.specs.Grants.{is_of}

-- a mapped object's slot, and what it chooses in this state
pub record IsSlot (s : State) (owner slot : ℕ) (choice : Choice) : Type 0 where
  pub namespace : Namespace
  pub object : Loaded
  pub there : Contains s.namespaces namespace
  pub inside : Contains namespace.objects object
  pub is : object.serial ≡ owner
  pub reloc : Reloc
  pub at : slice_get object.object.plt_relocs slot ≡ Some reloc
  pub chooses : choice ≡ choice_at (seen_in namespace) object reloc

-- what it holds until it is bound
abbrev pub lazy_of : {s : State} {owner slot : ℕ} {choice : Choice} → IsSlot s owner slot choice → ℕ
lazy_of slot = lazy_word slot.object slot.reloc

-- the slot of an object may be bound to what it chooses
pub record MayBeBound (s : State) (owner slot : ℕ) (choice : Choice) : Type 0 where
  pub is_slot : IsSlot s owner slot choice
  pub code : IsTrue (leads_to_code s (lazy_of is_slot) choice)

-- it may not: nothing defines its symbol, or what does isn't code
pub record MayNotBeBound (s : State) (owner slot : ℕ) (choice : Choice) : Type 0 where
  pub is_slot : IsSlot s owner slot choice
  pub code : leads_to_code s (lazy_of is_slot) choice ≡ false

-- the hart has no open grant
abbrev pub HasNoGrant : State → ℕ → Type 0
HasNoGrant s hart = (g : Granting) → Contains s.grants g → g.standing ≡ Open → g.hart ≢ hart

-- the value of a slot that was bound at its object's opening
abbrev pub value_at_load : State → ℕ → ℕ → Option ℕ
value_at_load s owner slot = option_and_then (λ c. option_and_then (λ v. v) (slice_get c.values slot)) (find (λ c. c.owner == owner) s.chosen)

-- a grant of this slot is bound
pub record HasBound (s : State) (owner slot : ℕ) : Type 0 where
  pub grant : Granting
  pub there : Contains s.grants grant
  pub of : IsTrue (is_of owner slot grant)
  pub bound : grant.standing ≡ Bound

-- another grant of the slot, which isn't lost, has this value
pub record IsOthers (s : State) (g : Granting) (saw : ℕ) : Type 0 where
  pub other : Granting
  pub there : Contains s.grants other
  pub of : IsTrue (is_of g.owner g.slot other)
  pub differs : other.number ≢ g.number
  pub kept : (word : ℕ) → other.standing ≢ Lost word
  pub value : saw ≡ other.value

-- the open grant with a number
pub record IsOpenGrant (s : State) (number : ℕ) (g : Granting) : Type 0 where
  pub there : Contains s.grants g
  pub numbered : g.number ≡ number
  pub open_yet : g.standing ≡ Open

-- an open grant of a slot that no value is in, neither from the opening nor from a bound grant
pub record MayBind (s : State) (number : ℕ) : Type 0 where
  pub grant : Granting
  pub is : IsOpenGrant s number grant
  pub lazy : value_at_load s grant.owner grant.slot ≡ None
  pub first : ¬ (HasBound s grant.owner grant.slot)

-- an open grant of a slot that had this word: that of the opening, or the value of another grant
pub record MayLose (s : State) (number saw : ℕ) : Type 0 where
  pub grant : Granting
  pub is : IsOpenGrant s number grant
  pub found : (value_at_load s grant.owner grant.slot ≡ Some saw) ⊎ IsOthers s grant saw
