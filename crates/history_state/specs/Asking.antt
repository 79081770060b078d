-- What an opening may ask for (dlopen(3), dlmopen(3)).
use Rattle.std.specs.Prelude.{◌≡◌, ◌≢◌, ℕ, ◌-◌, ◌^◌, ◌<◌, Bool, false, not, ◌&&◌, nat_le, List, length, Option, Some, None, IsTrue, ◌⊎◌}
use Rattle.history_event.specs.declared.event.OpenAsk.{OpenAsk}
use Rattle.history_state.specs.State.{State}
use Rattle.history_state.specs.Flags.{are_flags}
use Rattle.history_state.specs.Objects.{has_namespace, is_startup}

-- LM_ID_NEWLM as a number
abbrev pub new_namespace : ℕ
new_namespace = 2 ^ 64 - 1

-- a name that a guest passes has at most 255 bytes; of a longer one 256 are known
abbrev pub is_too_long : List ℕ → Bool
is_too_long name = nat_le 256 (length name)

abbrev pub asks_too_long : State → Option (List ℕ) → Bool
asks_too_long s None = false
asks_too_long s (Some name) = not (is_startup s) && is_too_long name

-- the least number that no namespace has
pub record IsFreeNumber (s : State) (id : ℕ) : Type 0 where
  pub free : has_namespace s id ≡ false
  pub below : id < 16
  pub least : (other : ℕ) → other < id → IsTrue (has_namespace s other)

-- the namespace's number: one that is there, or for a new one the least that is free. The null name is the program's, in the base
-- namespace alone.
abbrev pub IsNamespace : State → Option ℕ → Option (List ℕ) → ℕ → Type 0
IsNamespace s (Some n) (Some name) id = (id ≡ n) × IsTrue (has_namespace s n)
IsNamespace s (Some n) None id = (id ≡ n) × (n ≡ 0)
IsNamespace s None (Some name) id = IsFreeNumber s id
IsNamespace s None None id = ⊥

abbrev pub IsBadNamespace : State → Option ℕ → Option (List ℕ) → ℕ → Type 0
IsBadNamespace s (Some n) (Some name) bad = (bad ≡ n) × (has_namespace s n ≡ false)
IsBadNamespace s (Some n) None bad = (bad ≡ n) × (n ≢ 0)
IsBadNamespace s None (Some name) bad = ⊥
IsBadNamespace s None None bad = bad ≡ new_namespace

abbrev pub AreNamespacesFull : State → Option ℕ → Option (List ℕ) → Type 0
AreNamespacesFull s None (Some name) = (id : ℕ) → id < 16 → IsTrue (has_namespace s id)
AreNamespacesFull s None None = ⊥
AreNamespacesFull s (Some n) name = ⊥

-- name and flags are accepted, and this is the namespace
pub record IsAsked (s : State) (ask : OpenAsk) (id : ℕ) : Type 0 where
  pub short : asks_too_long s ask.name ≡ false
  pub flags : IsTrue (are_flags ask.flags)
  pub namespace : IsNamespace s ask.ns ask.name id

abbrev pub HasName : Option (List ℕ) → Type 0
HasName (Some name) = Unit {0}
HasName None = ⊥

-- startup's opening: by hart 0, in the base namespace, of a name, global, and lazy or now
pub record IsStartupAsk (hart : ℕ) (ask : OpenAsk) : Type 0 where
  pub by_first : hart ≡ 0
  pub base : ask.ns ≡ Some 0
  pub named : HasName ask.name
  pub flags : (ask.flags ≡ 0x101) ⊎ (ask.flags ≡ 0x102)

-- the opening while nothing was loaded is startup's
abbrev pub MayAsk : State → ℕ → OpenAsk → Type 0
MayAsk s hart ask = IsTrue (is_startup s) → IsStartupAsk hart ask
