-- Pages of guest memory. A page is named by its address, and a list of free pages is in order.
use Rattle.std.specs.Prelude.{◌≡◌, ℕ, ◌+◌, ◌*◌, ◌%◌, ◌<◌, ◌≤◌, Bool, not, ◌&&◌, ◌||◌, List, map, nat_eq, nat_le, nat_lt, Contains}
use Rattle.std.specs.List.{filter, list_any, range_with_len}

-- the bytes of a page
abbrev pub page_size : ℕ
page_size = 4096

-- the address of the page of this number: guest memory begins at 0x10000
abbrev pub page_at : ℕ → ℕ
page_at number = 0x10000 + page_size * number

-- the pages that may be given away: those of guest memory but the last, which is the linker's own
unfoldable pub guest_pages : List ℕ
guest_pages = map page_at (range_with_len 0 2047)

-- the page is one of so many from an address on
abbrev pub is_within : ℕ → ℕ → ℕ → Bool
is_within address pages page = nat_le address page && nat_lt page (address + page_size * pages)

-- so many pages from an address on are all free
abbrev pub AllFree : List ℕ → ℕ → ℕ → Type 0
AllFree free address pages = (k : ℕ) → k < pages → Contains free (address + page_size * k)

-- so many pages from an address on are all in use, though they may be given away
abbrev pub AllInUse : List ℕ → ℕ → ℕ → Type 0
AllInUse free address pages = (k : ℕ) → k < pages →
    Contains guest_pages (address + page_size * k) × ¬ (Contains free (address + page_size * k))

-- so many pages from an address on lie in guest memory, before the linker's own
pub record IsGuestRange (address pages : ℕ) : Type 0 where
  pub aligned : address % page_size ≡ 0
  pub low : page_at 0 ≤ address
  pub high : address + page_size * pages ≤ page_at 2047

-- so many pages may be given away at this address, which has to be a multiple of align
pub record Fits (free : List ℕ) (pages align address : ℕ) : Type 0 where
  pub aligned : address % align ≡ 0
  pub room : AllFree free address pages

-- the least address at which so many pages may be given away
pub record IsFirstFit (free : List ℕ) (pages align address : ℕ) : Type 0 where
  pub fits : Fits free pages align address
  pub least : (other : ℕ) → Fits free pages align other → address ≤ other

-- the free pages but those from an address on
abbrev pub without : List ℕ → ℕ → ℕ → List ℕ
without free address pages = filter (λ page. not (is_within address pages page)) free

-- the free pages and those from an address on
abbrev pub together_with : List ℕ → ℕ → ℕ → List ℕ
together_with free address pages =
    filter (λ page. list_any (nat_eq page) free || is_within address pages page) guest_pages
