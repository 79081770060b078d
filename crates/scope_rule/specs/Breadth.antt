-- The order in which an object's libraries are searched: breadth-first (gABI, "Shared Object Dependencies").
use Rattle.std.specs.Prelude.{ℕ, zero, suc, Bool, not, ◌==◌, ◌||◌, if◌then◌else◌, List, [], ◌∷◌, ◌++◌, length, filter, flat_map}
use Rattle.std.specs.List.{list_any}
use Rattle.scope_rule.specs.Seen.{Seen}
use Rattle.scope_rule.specs.Loading.{found_of}

-- it is one of the list
abbrev pub has : List ℕ → ℕ → Bool
has xs x = list_any (λ y. y == x) xs

-- level 0 is the object itself; each further level is what the objects of the level before found, one after another
abbrev pub level : Seen → ℕ → ℕ → List ℕ
level ns root zero = root ∷ []
level ns root (suc n) = flat_map (found_of ns) (level ns root n)

-- the levels from 0 to n, one after another
abbrev pub levels : Seen → ℕ → ℕ → List ℕ
levels ns root zero = level ns root zero
levels ns root (suc n) = levels ns root n ++ level ns root (suc n)

-- the other elements
abbrev pub without : ℕ → List ℕ → List ℕ
without x xs = filter (λ y. not (y == x)) xs

-- first occurrences kept
abbrev pub first_kept : List ℕ → List ℕ
first_kept [] = []
first_kept (x ∷ xs) = x ∷ without x (first_kept xs)

-- a list with those of the others at its end that it lacks, first occurrences kept, the linker's own object left out
abbrev pub extend : List ℕ → List ℕ → List ℕ
extend order [] = order
extend order (x ∷ xs) = if x == 0 || has order x then extend order xs else extend (order ++ x ∷ []) xs

-- Breadth: the levels of a root, down to as many as there are objects, first occurrences kept, the linker's own object left out
unfoldable pub breadth : Seen → ℕ → List ℕ
breadth ns root = without 0 (first_kept (levels ns root (length ns.objects)))

-- the order of so many levels: each level puts at the end of the first elements what the order so far leads to and they lack
abbrev pub order_to : (ℕ → List ℕ) → List ℕ → ℕ → List ℕ
order_to f first zero = first
order_to f first (suc n) = extend first (flat_map f (order_to f first n))
