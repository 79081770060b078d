-- What comes and goes of guest memory, page by page.
use Rattle.std.specs.Prelude.{◌≡◌, ℕ, ◌<◌, Bool, true, false, not, List, [], ◌∷◌, ◌++◌, filter, length, Contains}
use Rattle.ld_base.specs.declared.linking.Role.TheVariants.{None as NoRole, Rx}
use Rattle.address_space.specs.Pages.{IsGuestRange}
use Rattle.history_event.specs.declared.event.Range.{Range}
use Rattle.history_state.specs.Memory.{covers, ebreaks, role_at, first_word_at}
use Rattle.history_state.specs.State.{State}
use Rattle.history_calls.specs.Served.{is_area}
use Rattle.history_memory.specs.Memory.{IsDoubleword}
use Rattle.rv_hart.specs.Doublewords.{raised}
use Rattle.rv_hart.specs.declared.doubleword.Doubleword.{Doubleword}
use Rattle.seg_image.specs.declared.image.Word.{Word}
use Rattle.world_turns.specs.Memory.{doubleword}

-- ---- one doubleword

-- each doubleword of the linker's own page
abbrev pub linkers_word : Doubleword
linkers_word = record { value = ebreaks; role = Rx; version = 0 }

-- a word with its role takes the place of what was found there, and the version rises
abbrev pub word_over : Word → Doubleword → Doubleword
word_over word found = record { value = word.value; role = word.role; version = raised found.version }

-- what is found at an address becomes this where its page is reserved: its first word in a state, with its role
abbrev pub reserved_word : State → ℕ → Doubleword → Doubleword
reserved_word s a found = word_over (record { value = first_word_at s a; role = role_at s a }) found

-- and this where its page is taken away: it loses its role alone, and the version rises
abbrev pub released_word : ℕ → Doubleword → Doubleword
released_word a found = record found { role = NoRole; version = raised found.version }

-- ---- doublewords side by side

-- what is found at these addresses becomes this, and all else stays
pub record RemakesAt (here : ℕ → Bool) (made : ℕ → Doubleword → Doubleword) (old new : List Doubleword) : Type 0 where
  pub all : length new ≡ length old
  pub remade : (a : ℕ) → IsDoubleword a → here a ≡ true → doubleword new a ≡ made a (doubleword old a)
  pub kept : (a : ℕ) → IsDoubleword a → here a ≡ false → doubleword new a ≡ doubleword old a

-- in one range after another
abbrev pub RemakesEach : (ℕ → Doubleword → Doubleword) → List Range → List Doubleword → List Doubleword → Type 0
RemakesEach made [] old new = new ≡ old
RemakesEach made (r ∷ rest) old new = (between : List Doubleword) × RemakesAt (λ a. covers a r) made old between × RemakesEach made rest between new

-- ---- ranges

-- its pages lie in guest memory
abbrev pub IsGuest : Range → Type 0
IsGuest r = 0 < r.pages → IsGuestRange r.address r.pages

abbrev pub AreGuest : List Range → Type 0
AreGuest ranges = (r : Range) → Contains ranges r → IsGuest r

-- those of objects, then those of stacks, static areas and blocks
abbrev pub objects_first : List Range → List Range
objects_first ranges = filter (λ r. not (is_area r)) ranges ++ filter is_area ranges
