-- How marks, one for each page that may be given away, stand for the list of free pages.
use Rattle.std.specs.Prelude.{◌≡◌, ℕ, ◌+◌, ◌-◌, ◌/◌, ◌%◌, ◌<◌, ◌≤◌, Bool, true, false, List, slice_index_or}
use Rattle.std.specs.List.{filter}
use Rattle.address_space.specs.Pages.{guest_pages, page_at, page_size}

-- whether a page is marked
abbrev pub is_marked : List Bool → ℕ → Bool
is_marked marks page = slice_index_or marks ((page - page_at 0) / page_size) false

-- the pages that are marked
abbrev pub marked_pages : List Bool → List ℕ
marked_pages marks = filter (is_marked marks) guest_pages

-- so many marks from a place on are set
abbrev pub AllMarked : List Bool → ℕ → ℕ → Type 0
AllMarked marks start pages = (k : ℕ) → k < pages → slice_index_or marks (start + k) false ≡ true

-- so many pages from this place on are marked, and the first is a multiple of align
pub record FitsAt (marks : List Bool) (pages align start : ℕ) : Type 0 where
  pub aligned : page_at start % align ≡ 0
  pub marked : AllMarked marks start pages

-- the marks from a place on have a value, and the others are as they were
pub record MarksAs (old : List Bool) (start pages : ℕ) (value : Bool) (new : List Bool) : Type 0 where
  pub inside : (k : ℕ) → start ≤ k → k < start + pages → slice_index_or new k false ≡ value
  pub before : (k : ℕ) → k < start → slice_index_or new k false ≡ slice_index_or old k false
  pub behind : (k : ℕ) → start + pages ≤ k → slice_index_or new k false ≡ slice_index_or old k false
