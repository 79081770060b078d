-- What objects lead to: for the code of this crate alone.
use Rattle.std.specs.Prelude.{◌≡◌, ℕ, ◌==◌, true, false, List, [], map}
use Rattle.ld_base.specs.declared.linking.Loaded.{Loaded}
use Rattle.scope_rule.specs.Breadth.{extend, has}
use Rattle.scope_rule.specs.Loading.{found_of}
use Rattle.scope_rule.specs.Seen.{Seen}
use Rattle.scope_rule.specs.Places.{serials_of}
use Rattle.scope_lists.specs.declared.links.Links.{Links}

-- what an object's names found, each once
abbrev pub found_once : Loaded → List ℕ
found_once o = extend [] o.found

-- where the objects stand is known, what each leads to, and what any does
pub record AreLinks (s : Seen) (links : Links) : Type 0 where
  pub places : links.places ≡ serials_of s
  pub found : links.found.items ≡ map found_once s.objects
  pub all : (serial x : ℕ) → has (found_of s serial) x ≡ true → (x == 0) ≡ false → has links.all x ≡ true
