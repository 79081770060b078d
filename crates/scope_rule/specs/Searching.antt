-- Where a name is searched that isn't a relocation's (dlsym(3)).
use Rattle.std.specs.Prelude.{ℕ, List, [], ◌∷◌, ◌++◌, Option}
use Rattle.ld_base.specs.declared.linking.Want.{Want}
use Rattle.scope_rule.specs.Breadth.{breadth}
use Rattle.scope_rule.specs.Choose.{pick_at, first_with}
use Rattle.scope_rule.specs.Seen.{Seen}

-- on a handle: the first object with a definition of those that its root leads to
unfoldable pub in_breadth : Seen → ℕ → List ℕ → Want → Option (ℕ × ℕ)
in_breadth ns root name want = first_with (pick_at ns name want) (breadth ns root)

-- on RTLD_DEFAULT: of those that are global, and then the linker's own
unfoldable pub in_global : Seen → List ℕ → Want → Option (ℕ × ℕ)
in_global ns name want = first_with (pick_at ns name want) (ns.global ++ 0 ∷ [])
