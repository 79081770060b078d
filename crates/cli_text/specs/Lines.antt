-- What bind writes: each object, and the definition of each slot.
use Rattle.std.specs.Prelude.{ℕ, List, [], ◌∷◌, ◌++◌, flat_map, Option, Some, None, codes}
use Rattle.std.specs.Fmt.{decimal}
use Rattle.std.specs.List.{slice_get, enumerate_from}
use Rattle.ld_base.specs.Text.{name_text, name_or_none}
use Rattle.ld_base.specs.declared.linking.Choice.{Choice}
use Rattle.ld_base.specs.declared.linking.Choice.TheVariants.{Def, WeakZero, Missing}
use Rattle.ld_base.specs.declared.linking.Loaded.{Loaded}
use Rattle.ld_base.specs.declared.linking.Want.{Want}
use Rattle.ld_base.specs.declared.linking.Want.TheVariants as want
use Rattle.ld_base.specs.declared.object.Object.{Object}
use Rattle.ld_base.specs.declared.object.Reloc.{Reloc}
use Rattle.ld_base.specs.declared.object.Symbol.{Symbol}
use Rattle.scope_rule.specs.Choose.{want_of}
use Rattle.scope_rule.specs.Relocation.{choice_at}
use Rattle.scope_rule.specs.Seen.{Seen, seen_in}
use Rattle.scope_rule.specs.declared.namespace.Namespace.{Namespace}

abbrev pub object_line : Loaded → List ℕ
object_line o = codes "object " ++ decimal o.serial ++ 32 ∷ name_text o.path ++ 10 ∷ []

-- a definition is the serial of its object and the index of its symbol
abbrev pub choice_text : Choice → List ℕ
choice_text (Def serial index) = decimal serial ++ 46 ∷ decimal index
choice_text WeakZero = codes "weak"
choice_text Missing = codes "missing"

-- the version that a reference asks for, if any
abbrev pub version_of : Want → Option (List ℕ)
version_of (want.Version name) = Some name
version_of want.Plain = None
version_of want.Dlsym = None
version_of (want.Dlvsym name) = Some name

-- a symbol as a reference names it: its name and the version that it asks for
abbrev pub reference_text : Object → Symbol → List ℕ
reference_text o s = name_text s.name ++ 32 ∷ name_or_none (version_of (want_of o s))

-- a slot: its object, its number, what it refers to, and its choice
unfoldable pub slot_text : Loaded → ℕ → Symbol → Choice → List ℕ
slot_text o number s choice =
    codes "slot " ++ decimal o.serial ++ 32 ∷ decimal number ++ 32 ∷ reference_text o.object s ++ codes " -> " ++ choice_text choice ++ 10 ∷ []

-- the line of a numbered slot, whose symbol is there
abbrev pub numbered_line : Seen → Loaded → ℕ × Reloc → List ℕ
numbered_line seen o slot = elim (slice_get o.object.symbols slot.1.symbol) [ Some s ↦ slot_text o slot.0 s (choice_at seen o slot.1) | None ↦ [] ]

abbrev pub slot_lines : Seen → Loaded → List ℕ
slot_lines seen o = flat_map (numbered_line seen o) (enumerate_from 0 o.object.plt_relocs)

-- the slots of all objects
abbrev pub slots_text : Namespace → List ℕ
slots_text ns = flat_map (slot_lines (seen_in ns)) ns.objects

-- the text of a namespace that was bound
unfoldable pub bound_text : Namespace → List ℕ
bound_text ns = flat_map object_line ns.objects ++ slots_text ns ++ codes "end 0 bound" ++ 10 ∷ []
