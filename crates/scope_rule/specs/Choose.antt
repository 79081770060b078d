-- Which definition a reference is bound to (gABI, "Symbol Table" and "Shared Object Dependencies"; psABI, COPY).
use Rattle.std.specs.Prelude.{ℕ, Bool, not, ◌&&◌, ◌||◌, ◌==◌, nat_le, if◌then◌else◌, List, [], ◌∷◌, Option, Some, None, filter}
use Rattle.std.specs.List.{slice_get}
use Rattle.ld_base.specs.declared.linking.Choice.{Choice}
use Rattle.ld_base.specs.declared.linking.Choice.TheVariants.{Def, WeakZero, Missing}
use Rattle.ld_base.specs.declared.linking.Loaded.{Loaded}
use Rattle.ld_base.specs.declared.linking.Want.{Want}
use Rattle.ld_base.specs.declared.linking.Want.TheVariants as want
use Rattle.ld_base.specs.declared.object.Object.{Object}
use Rattle.ld_base.specs.declared.object.Symbol.{Symbol}
use Rattle.ld_base.specs.Symbol.{is_local, is_weak, is_defined, visibility, version_index}
use Rattle.ld_base.specs.Version.{version_name}
use Rattle.ld_base.specs.Pick.{pick_of}
use Rattle.scope_rule.specs.Seen.{Seen}
use Rattle.scope_rule.specs.Loading.{object_of}
use Rattle.scope_rule.specs.Linker.{linker_symbol}
use Rattle.scope_rule.specs.Scope.{scope}

-- what an object of the namespace, or the linker's own, has for a name and a version
unfoldable pub pick_at : Seen → List ℕ → Want → ℕ → Option ℕ
pick_at ns name want serial = if serial == 0 then linker_symbol name else elim (object_of ns serial) [ Some o ↦ pick_of o.object name want | None ↦ None ]

-- the first of the list that has something, with what it has
abbrev pub first_with : (ℕ → Option ℕ) → List ℕ → Option (ℕ × ℕ)
first_with pick [] = None
first_with pick (serial ∷ rest) = elim (pick serial) [ Some index ↦ Some (serial, index) | None ↦ first_with pick rest ]

-- the version that a relocation against a symbol asks for: the name of its index, where that is 2 or more
abbrev pub want_of : Object → Symbol → Want
want_of o s = if nat_le 2 (version_index s) then elim (version_name o (version_index s)) [ Some v ↦ want.Version v | None ↦ want.Plain ] else want.Plain

-- a symbol that no other object may define: local, or defined with other than default visibility
abbrev pub is_own : Symbol → Bool
is_own s = is_local s || (is_defined s && not (visibility s == 0))

-- what a search gives: a definition, or nothing
abbrev pub choice_of : Symbol → Option (ℕ × ℕ) → Choice
choice_of s (Some m) = Def m.0 m.1
choice_of s None = if is_weak s then WeakZero else Missing

-- where a reference is searched: a COPY's isn't searched in the object that has it
abbrev pub searched : Seen → Loaded → Bool → List ℕ
searched ns o copy = if copy then filter (λ serial. not (serial == o.serial)) (scope ns o) else scope ns o

-- Choose: the definition that a relocation of an object against its symbol is bound to
unfoldable pub choose_for : Seen → Loaded → ℕ → Symbol → Bool → Choice
choose_for ns o index s copy =
    if not copy && is_own s then Def o.serial index
    else choice_of s (first_with (pick_at ns s.name (want_of o.object s)) (searched ns o copy))

-- the same, of the object with a serial and its symbol at an index
abbrev pub choose_of : Seen → ℕ → ℕ → Bool → Choice
choose_of ns owner index copy =
    elim (object_of ns owner) [ Some o ↦ elim (slice_get o.object.symbols index) [ Some s ↦ choose_for ns o index s copy | None ↦ Missing ] | None ↦ Missing ]
