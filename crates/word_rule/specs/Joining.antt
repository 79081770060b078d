-- Seats that are made, and seats that are joined: a hart's seat from the keeper's and back, and notes.
use Rattle.std.specs.Prelude.{◌≡◌, ◌⊎◌, ℕ, ◌+◌, ◌<◌, false, List, [], ◌∷◌, ◌++◌, Some, slice_index_or, slice_set}
use mathlib.Core.Option.{some}
use lib.ListN.{get_elem?}
use Rattle.word_rule.specs.declared.entry.Entry.{Entry}
use Rattle.word_rule.specs.declared.view.Lane.{Lane}
use Rattle.word_rule.specs.declared.view.Offer.{Offer}
use Rattle.word_rule.specs.declared.view.Slip.TheVariants.{OfHart, OfKeeper}
use Rattle.word_rule.specs.declared.view.Told.{Told}
use Rattle.word_rule.specs.declared.view.View.{View}
use Rattle.word_rule.specs.declared.view.View.TheVariants.{Keeper, Hart, Note, Spent}
use Rattle.word_rule.specs.Layout.{harts_at_most}
use Rattle.word_rule.specs.Views.{first_hart, IsRead, known_of, longer, no_row, readings_of}
use Rattle.word_rule.specs.Rule.{IsGuest}

-- ---- a hart's seat is made from the keeper's

abbrev pub with_hart : View → View
with_hart (Keeper k) = Keeper (record k { harts = k.harts + 1 })
with_hart v = v

abbrev pub new_hart : View → View
new_hart (Keeper k) = Hart (first_hart k.harts)
new_hart v = Spent

abbrev pub HasRoom : View → Type 0
HasRoom (Keeper k) = k.harts < harts_at_most
HasRoom v = ⊥

-- ---- a note is split off, and leaves the seat as it was

abbrev pub note_of : View → View
note_of (Keeper k) = Note k.events (OfKeeper k.rows)
note_of (Hart h) = Note h.heard (OfHart h.number (known_of h.lane) (readings_of h.trail))
note_of v = Spent

abbrev pub HasNote : View → Type 0
HasNote (Keeper k) = Unit {0}
HasNote (Hart h) = Unit {0}
HasNote v = ⊥

-- ---- a seat takes another in

-- a hart that doesn't call, or one that knows all of its row
abbrev pub IsSettled : Lane → Type 0
IsSettled l = (l.calling ≡ false) ⊎ ((o : Offer) × (e : Entry) × (l.offer ≡ Some o) × IsRead o e)

abbrev pub takes_in : View → View → View
takes_in (Keeper k) (Hart h) = Keeper (record k { joined = k.joined ++ h ∷ [] })
takes_in (Keeper k) (Note events (OfHart m entries readings)) =
    Keeper (record k { note = Some (record { had = k.events; told = events; number = m; entries = entries; readings = readings; lazy = 0 }) })
takes_in (Hart h) (Note events (OfKeeper rows)) =
    let row = slice_index_or rows h.number no_row in
    let told : Told = record { had = h.heard; told = events; number = h.number; entries = row.issued; readings = []; lazy = row.lazy } in
    Hart (record h { heard = longer h.heard events; note = Some told })
takes_in v w = v

abbrev pub MayTake : View → View → Type 0
MayTake (Keeper k) (Hart h) = Unit {0}
MayTake (Keeper k) (Note events (OfHart m entries readings)) = Unit {0}
MayTake (Hart h) (Note events (OfKeeper rows)) = IsSettled h.lane
MayTake _ _ = ⊥

-- ---- what is kept

-- a seat with this view may be cut in two
abbrev pub SplitKeeps : ℕ → View → View → View → Type 0
SplitKeeps seat v left right =
    (words : List ℕ) (views : List View) → IsGuest words views → get_elem? views seat ≡ some v
    → IsGuest words (slice_set views seat left ++ right ∷ [])

-- a seat may take in another
abbrev pub JoinKeeps : ℕ → View → ℕ → View → View → Type 0
JoinKeeps seat v other w both =
    (words : List ℕ) (views : List View) → IsGuest words views → get_elem? views seat ≡ some v → ¬ (other ≡ seat)
    → get_elem? (slice_set views seat both) other ≡ some w
    → IsGuest words (slice_set (slice_set views seat both) other Spent)
