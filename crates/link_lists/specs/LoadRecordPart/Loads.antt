-- What contracts see of the record of openings.
use Rattle.std.specs.Prelude.{◌≡◌, ℕ, ◌+◌, Bool, if◌then◌else◌, ◌==◌, List, ◌++◌, length, map}
use Rattle.ld_base.specs.declared.linking.Loaded.{Loaded}
use Rattle.history_state.specs.Flags.{is_now}
use Rattle.history_state.specs.Objects.{serial_of}
use Rattle.history_state.specs.Step.{pinned_by}

pub record LoadTable : Type 0 where
  -- slots are bound at load in the whole run
  pub binds : Bool
  -- the serial of the next new object
  pub next : ℕ
  -- the objects that startup loaded, and the roots that stay
  pub startup : List ℕ
  pub pinned : List ℕ
  -- how many more of these there is room for
  pub startup_room : ℕ
  pub pinned_room : ℕ

-- nothing was loaded yet
abbrev pub is_first : LoadTable → Bool
is_first table = length table.startup == 0

-- the record after an opening of this root that loaded these objects
pub record Notes (old : LoadTable) (flags root : ℕ) (added : List Loaded) (new : LoadTable) : Type 0 where
  pub binds : new.binds ≡ (if is_first old then is_now flags else old.binds)
  pub next : new.next ≡ old.next + length added
  pub startup : new.startup ≡ (if is_first old then map serial_of added else old.startup)
  pub pinned : new.pinned ≡ old.pinned ++ pinned_by old.pinned flags root
