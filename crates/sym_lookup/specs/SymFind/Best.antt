-- What a walk over candidates keeps: for the walks of this crate alone.
use Rattle.std.specs.Prelude.{◌≡◌, ◌≢◌, ℕ, Bool, IsTrue, false, not, ◌&&◌, ◌||◌, ◌==◌, nat_le, min, if◌then◌else◌, List, Option, Some, None}
use Rattle.std.specs.List.{slice_get}
use Rattle.std.specs.Option.{option_map_or, option_or}
use Rattle.ld_base.specs.declared.linking.Want.{Want}
use Rattle.ld_base.specs.declared.object.Object.{Object}
use Rattle.ld_base.specs.declared.object.Symbol.{Symbol}
use Rattle.ld_base.specs.Marks.{is_marked}
use Rattle.ld_base.specs.Pick.{is_offer, is_wanted}
use Rattle.ld_base.specs.Symbol.{version_index}
use Rattle.ld_base.specs.Taken.{fits, in_sight, Exports}
use Rattle.scope_lists.specs.NameOrder.{exports}
use Rattle.sym_lookup.specs.SymFind.Found.{Nowhere, Least, Only}
use Rattle.sym_lookup.specs.declared.sym_find.best.Best.{Best}
use Rattle.sym_lookup.specs.declared.sym_find.best.Search.{Search}
use Rattle.sym_lookup.specs.declared.sym_find.best.Sight.{Sight}
use Rattle.sym_lookup.specs.declared.sym_find.best.Sight.TheVariants as sight
use Rattle.sym_lookup.specs.declared.sym_find.best.Test.{Test}
use Rattle.sym_lookup.specs.declared.sym_find.best.Test.TheVariants as test

-- a definition's version is one that is wanted
abbrev pub passes : Test → Symbol → Bool
passes test.Any s = Bool.true
passes (test.Base last) s = version_index s == 1 || version_index s == last
passes (test.Just carriers) s = is_marked carriers.now (version_index s)
passes (test.Version carriers) s = is_marked carriers.now (version_index s) || s.version == 1

-- the definitions that fit a search, and those that it has in sight
abbrev pub fitting : Search → Symbol → Bool
fitting w s = is_offer w.object.now w.name.now s && passes w.test s

abbrev pub sighted : Search → Symbol → Bool
sighted w s = in_sight w.object.now w.name.now s

-- the definition at an index is of a version that is wanted, or the object has no versions
abbrev pub IsWantedAt : Object → Want → ℕ → Type 0
IsWantedAt o want k = (s : Symbol) → slice_get o.symbols k ≡ Some s → IsTrue (not o.has_versym || is_wanted o want s)

-- no candidate yet
abbrev pub nothing : Best
nothing = record { first = None; sight = sight.Nothing }

-- the least of those so far and one more
abbrev pub least : Option ℕ → ℕ → Option ℕ
least None k = Some k
least (Some j) k = Some (min j k)

-- one more in sight
abbrev pub seen_too : Sight → ℕ → Sight
seen_too sight.Nothing k = sight.One k
seen_too (sight.One j) k = if j == k then sight.One j else sight.Several
seen_too sight.Several k = sight.Several

-- one more candidate, which fits or not and is in sight or not
abbrev pub made : Best → ℕ → Bool → Bool → Best
made b k fit seen = record { first = if fit then least b.first k else b.first; sight = if seen then seen_too b.sight k else b.sight }

-- one more candidate
abbrev pub after : Search → Best → ℕ → Best
after w b k = made b k (exports w.object.now (fitting w) k) (exports w.object.now (sighted w) k)

-- the first that fits isn't behind a symbol
abbrev pub precedes : Best → ℕ → Bool
precedes b k = option_map_or (λ first. nat_le first k) b.first false

-- what a reference takes: the first that fits, or else, if that is allowed, the only one in sight
abbrev pub only_of : Sight → Option ℕ
only_of (sight.One k) = Some k
only_of sight.Nothing = None
only_of sight.Several = None

abbrev pub taken : Best → Bool → Option ℕ
taken b only = option_or b.first (if only then only_of b.sight else None)

-- what is kept is the least of those numbers; it is the only one of them
abbrev pub FirstOf : (ℕ → Type 0) → Option ℕ → Type 0
FirstOf P None = Nowhere P
FirstOf P (Some k) = Least P k

abbrev pub OnlyOf : (ℕ → Type 0) → Sight → Type 0
OnlyOf P sight.Nothing = Nowhere P
OnlyOf P (sight.One k) = Only P k
OnlyOf P sight.Several = (j : ℕ) × (k : ℕ) × P j × P k × (j ≢ k)

-- the candidates that a search has seen, and what it keeps of them; what is in sight counts only where none fits
pub record Knows (w : Search) (led : ℕ → Type 0) (b : Best) : Type 0 where
  pub first : FirstOf (λ k. Exports w.object.now (fitting w) k × led k) b.first
  pub sight : b.first ≡ None → OnlyOf (λ k. Exports w.object.now (sighted w) k × led k) b.sight

-- the same, of what a reference to a name wants in an object
pub record Keeps (o : Object) (name : List ℕ) (want : Want) (led : ℕ → Type 0) (b : Best) : Type 0 where
  pub first : FirstOf (λ k. Exports o (fits o name want) k × led k) b.first
  pub sight : b.first ≡ None → OnlyOf (λ k. Exports o (in_sight o name) k × led k) b.sight

-- the same, of all definitions of a name, whatever their version
pub record KeepsAll (o : Object) (name : List ℕ) (led : ℕ → Type 0) (b : Best) : Type 0 where
  pub first : FirstOf (λ k. Exports o (is_offer o name) k × led k) b.first
  pub sight : b.first ≡ None → OnlyOf (λ k. Exports o (in_sight o name) k × led k) b.sight
