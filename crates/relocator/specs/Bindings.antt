-- What the bindings of an object's relocations are.
use Rattle.std.specs.Prelude.{◌≡◌, ◌≢◌, ℕ, ◌+◌, ◌==◌, ◌≤◌, Bool, IsTrue, List, length, min, Option, Some, None, drop}
use Rattle.std.specs.List.{slice_get, zip}
use Rattle.ld_base.specs.declared.linking.Choice.{Choice}
use Rattle.ld_base.specs.declared.linking.Choice.TheVariants.{Def, WeakZero, Missing}
use Rattle.ld_base.specs.declared.object.Object.{Object}
use Rattle.ld_base.specs.declared.object.Reloc.{Reloc}
use Rattle.seg_image.specs.Accepted.{symbol_size}
use Rattle.relocator.specs.declared.binding.Binding.{Binding}

-- R_RISCV_COPY is 4
abbrev pub is_copy : Reloc → Bool
is_copy r = r.kind == 4

-- the object that a choice is of
abbrev pub chosen : Choice → Option ℕ
chosen (Def serial index) = Some serial
chosen WeakZero = None
chosen Missing = None

-- a binding says what its choice, which isn't missing, comes to: its object, nothing for a weak symbol without a definition, and for a copy as many bytes as
-- the smaller of the two sizes
pub record IsBinding (o : Object) (r : Reloc) (b : Binding) : Type 0 where
  pub found : b.choice ≢ Missing
  pub object : b.object ≡ chosen b.choice
  pub weak : b.choice ≡ WeakZero → (b.value ≡ 0) × (b.size ≡ 0)
  pub copied : IsTrue (is_copy r) → length b.copied ≡ min (symbol_size o r) b.size

-- the relocations of DT_RELA, and the slots, each with its binding
abbrev pub relas_of : Object → List Binding → List (Reloc × Binding)
relas_of o bindings = zip o.relocs bindings

abbrev pub slots_of : Object → List Binding → List (Reloc × Binding)
slots_of o bindings = zip o.plt_relocs (drop (length o.relocs) bindings)

-- one binding a relocation, first those of DT_RELA and then those of the slots; of a slot that stays lazy nothing is asked
pub record AreBindings (o : Object) (bindings : List Binding) : Type 0 where
  pub count : length bindings ≡ length o.relocs + length o.plt_relocs
  pub relas : (k : ℕ) (r : Reloc) (b : Binding) → slice_get (relas_of o bindings) k ≡ Some (r, b) → IsBinding o r b
  pub slots : (k : ℕ) (r : Reloc) (b : Binding) → slice_get (slots_of o bindings) k ≡ Some (r, b) → IsTrue b.bound → IsBinding o r b

-- a copy has at most as many bytes as its symbol
abbrev pub AreCopied : Object → List Binding → Type 0
AreCopied o bindings = (k : ℕ) (r : Reloc) (b : Binding) → slice_get (relas_of o bindings) k ≡ Some (r, b) → IsTrue (is_copy r)
    → length b.copied ≤ symbol_size o r
