-- What contracts see of closings that wait.
use Rattle.std.specs.Prelude.{◌≡◌, ℕ, ◌+◌, ◌≤◌, ◌&&◌, ◌==◌, Bool, List, [], ◌∷◌}
use Rattle.std.specs.Str.{bytes_eq}
use Rattle.history_event.specs.declared.state.Closing.{Closing}

-- a closing, and for how many objects and ranges there is room
pub record PendingClosing : Type 0 where
  pub hart : ℕ
  pub set : List ℕ
  pub objects : ℕ
  pub ranges : ℕ

pub record PendingList : Type 0 where
  pub closings : List PendingClosing
  -- how many more there is room for
  pub spare : ℕ

-- the closing by itself
abbrev pub closing_of : PendingClosing → Closing
closing_of p = record { hart = p.hart; set = p.set }

-- it is the closing of a hart with these objects
abbrev pub is_of : ℕ → List ℕ → PendingClosing → Bool
is_of hart set p = p.hart == hart && bytes_eq p.set set

-- with room for a range more
abbrev pub with_more : PendingClosing → PendingClosing
with_more p = record p { ranges = p.ranges + 1 }

-- it is the same closing, with no less room
pub record HasRoomOf (p q : PendingClosing) : Type 0 where
  pub same : closing_of q ≡ closing_of p
  pub objects : p.objects ≤ q.objects
  pub ranges : p.ranges ≤ q.ranges

-- they are the same closings, each with no less room
abbrev pub HaveRoomOf : List PendingClosing → List PendingClosing → Type 0
HaveRoomOf [] [] = Unit {0}
HaveRoomOf [] (q ∷ qs) = ⊥
HaveRoomOf (p ∷ ps) [] = ⊥
HaveRoomOf (p ∷ ps) (q ∷ qs) = HasRoomOf p q × HaveRoomOf ps qs
