-- What openings bring to the scopes of objects: for the code of this crate alone.
use Rattle.std.specs.Prelude.{◌≡◌, ℕ, true, ◌++◌, if◌then◌else◌, List, [], flat_map}
use Rattle.scope_rule.specs.Breadth.{breadth, has}
use Rattle.scope_rule.specs.Seen.{Seen}
use Rattle.scope_lists.specs.declared.brought.Brought.{Brought}

-- what an opening whose root leads to these brings to the object of a serial
abbrev pub brought_to : List ℕ → ℕ → List ℕ
brought_to libraries serial = if has libraries serial then libraries else []

-- what the openings bring to it
abbrev pub brought_in : Seen → ℕ → List ℕ
brought_in s serial = flat_map (λ r. brought_to (breadth s r.root) serial) s.opens

-- what is kept of that
abbrev pub brought_of : Brought → ℕ → List ℕ
brought_of b serial = flat_map (λ order. brought_to order.keys serial) b.orders.items

-- it is what the openings bring to the owners
abbrev pub AreBrought : Seen → List ℕ → Brought → Type 0
AreBrought s owners b = (serial : ℕ) → has owners serial ≡ true → brought_of b serial ≡ brought_in s serial

-- an opening more brings to them what its root leads to
abbrev pub BringsMore : Seen → List ℕ → ℕ → Brought → Brought → Type 0
BringsMore s owners root old new = (serial : ℕ) → has owners serial ≡ true → brought_of new serial ≡ brought_of old serial ++ brought_to (breadth s root) serial
