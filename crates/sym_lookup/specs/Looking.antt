-- What a look-up by tables and lists stands on.
use Rattle.std.specs.Prelude.{◌≡◌, ℕ, ◌==◌, ◌&&◌, if◌then◌else◌, Bool, List, Option, Some, None}
use Rattle.std.specs.List.{slice_get}
use Rattle.ld_base.specs.declared.linking.Choice.{Choice}
use Rattle.ld_base.specs.declared.linking.Choice.TheVariants.{Missing}
use Rattle.ld_base.specs.declared.linking.Loaded.{Loaded}
use Rattle.ld_base.specs.declared.linking.Want.{Want}
use Rattle.ld_base.specs.declared.linking.Want.TheVariants as want
use Rattle.scope_rule.specs.Choose.{choose_for}
use Rattle.scope_rule.specs.Loading.{object_of}
use Rattle.scope_rule.specs.Seen.{Seen}
use Rattle.sym_hash.specs.Reached.{IsTableOf}

-- the table of each object that is seen is that object's
abbrev pub HaveTables : Seen → Type 0
HaveTables s = (serial : ℕ) (o : Loaded) → object_of s serial ≡ Some o → IsTableOf o.table o.object

-- what is found, but for a COPY not in the object that has it
abbrev pub outside : Bool → ℕ → (ℕ → Option ℕ) → ℕ → Option ℕ
outside copy owner pick serial = if copy && serial == owner then None else pick serial

-- the choice for the symbol of an object at an index
abbrev pub choice_of_symbol : Seen → Loaded → ℕ → Bool → Choice
choice_of_symbol s o index copy = elim (slice_get o.object.symbols index) [ Some symbol ↦ choose_for s o index symbol copy | None ↦ Missing ]

-- what a reference wants that asks for this version, or for none
abbrev pub want_for : Option (List ℕ) → Want
want_for (Some version) = want.Version version
want_for None = want.Plain
