-- What the relocations of an object choose when it is loaded (psABI, "Relocations").
use Rattle.std.specs.Prelude.{Bool, List, ◌++◌, map}
use Rattle.std.specs.Option.{unwrap_or}
use Rattle.ld_base.specs.declared.linking.Choice.{Choice}
use Rattle.ld_base.specs.declared.linking.Choice.TheVariants.{WeakZero}
use Rattle.ld_base.specs.declared.linking.Loaded.{Loaded}
use Rattle.ld_base.specs.declared.object.Reloc.{Reloc}
use Rattle.history_state.specs.Bound.{slot_choice}
use Rattle.scope_rule.specs.Relocation.{choice_at}
use Rattle.scope_rule.specs.Seen.{Seen}

-- a slot's entry: WeakZero stands where it stays lazy and chooses nothing
abbrev pub slot_entry : Seen → Bool → Loaded → Reloc → Choice
slot_entry ns now o r = unwrap_or (slot_choice ns now o r) WeakZero

-- one entry a relocation, DT_RELA before the slots
abbrev pub choices_of : Seen → Bool → Loaded → List Choice
choices_of ns now o = map (choice_at ns o) o.object.relocs ++ map (slot_entry ns now o) o.object.plt_relocs
