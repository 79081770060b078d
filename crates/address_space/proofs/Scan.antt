-- A scan of marks for the first run of so many, which begins at an aligned page.
use Rattle.std.proofs.Common.{◌≡◌, ℕ, ◌+◌, ◌-◌, ◌%◌, ◌<◌, ◌≤◌, Bool, true, false, List, get_or, length, sym, subst, ◌∙◌, ⊎_elim}
use Rattle.std.proofs.lemmas.Bool.{false≢true, cases_lt}
use Rattle.std.proofs.lemmas.List.{get_or_past}
use Rattle.address_space.specs.Pages.{page_at}
use Rattle.address_space.specs.Marks.{AllMarked, FitsAt}

abbrev pub IsAligned : ℕ → ℕ → Type 0
IsAligned align place = page_at place % align ≡ 0

-- the marks before a place were scanned: a run of them ends there, and no place before has room
pub record Scanned (marks : List Bool) (pages align place run : ℕ) : Type 0 where
  pub within : run ≤ place
  pub short : run < pages
  pub marked : AllMarked marks (place - run) run
  pub aligned : 0 < run → IsAligned align (place - run)
  -- an aligned place from which on all marks up to here are set is not before the run
  pub longest : (other : ℕ) → other < place → IsAligned align other → AllMarked marks other (place - other) → place - run ≤ other
  pub passed : (other : ℕ) → other + pages ≤ place → ¬ (FitsAt marks pages align other)

-- a mark of a list of marks, at a place that is written in another way
at_place : (marks : List Bool) (i j : ℕ) → i ≡ j → get_or marks i false ≡ true → get_or marks j false ≡ true
at_place marks i j e h = subst (λ (n : ℕ). get_or marks n false ≡ true) e h

-- a mark that is set is there
pub marked_within : (marks : List Bool) (i : ℕ) → get_or marks i false ≡ true → i < length marks
marked_within marks i mark = ⊎_elim
    (λ (within : i < length marks). within)
    (λ (past : length marks ≤ i). absurd (false≢true (sym (get_or_past marks i false past) ∙ mark)))
    (cases_lt i (length marks))
