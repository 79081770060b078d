-- What the relocations of an object are bound to (psABI, "Relocations").
use Rattle.std.specs.Prelude.{Bool, ◌||◌, ◌==◌, nat_lt, if◌then◌else◌, ◌++◌, length, Some, None}
use Rattle.std.specs.List.{slice_get, list_all}
use Rattle.ld_base.specs.declared.linking.Choice.{Choice}
use Rattle.ld_base.specs.declared.linking.Choice.TheVariants.{Def, WeakZero, Missing}
use Rattle.ld_base.specs.declared.linking.Loaded.{Loaded}
use Rattle.ld_base.specs.declared.object.Object.{Object}
use Rattle.ld_base.specs.declared.object.Reloc.{Reloc}
use Rattle.scope_rule.specs.Seen.{Seen}
use Rattle.scope_rule.specs.Choose.{choose_for}

-- R_RISCV_NONE is 0, R_RISCV_RELATIVE 3: they are of no symbol, whichever they name
abbrev pub has_no_symbol : Reloc → Bool
has_no_symbol r = r.kind == 0 || r.kind == 3

-- R_RISCV_COPY is 4
abbrev pub is_copy : Reloc → Bool
is_copy r = r.kind == 4

-- the choice of a relocation: the null symbol is the object's own, and one of no symbol makes no search
unfoldable pub choice_at : Seen → Loaded → Reloc → Choice
choice_at ns o r =
    if has_no_symbol r then WeakZero
    else if r.symbol == 0 then Def o.serial 0
    else elim (slice_get o.object.symbols r.symbol) [ Some s ↦ choose_for ns o r.symbol s (is_copy r) | None ↦ Missing ]

-- each relocation of an object names one of its symbols
abbrev pub names_symbols : Object → Bool
names_symbols o = list_all (λ r. nat_lt r.symbol (length o.symbols)) (o.relocs ++ o.plt_relocs)
