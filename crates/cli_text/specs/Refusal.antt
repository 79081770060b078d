-- What bind refuses of a namespace whose objects are all there.
use Rattle.std.specs.Prelude.{Bool, true, false, List, [], ◌∷◌, Option, Some, None, if◌then◌else◌}
use Rattle.std.specs.List.{slice_get}
use Rattle.std.specs.Option.{option_or, option_map}
use Rattle.ld_base.specs.declared.fault.DlFault.{DlFault}
use Rattle.ld_base.specs.declared.fault.DlFault.TheVariants as dl
use Rattle.ld_base.specs.declared.linking.Choice.{Choice}
use Rattle.ld_base.specs.declared.linking.Choice.TheVariants.{Def, WeakZero, Missing}
use Rattle.ld_base.specs.declared.linking.Loaded.{Loaded}
use Rattle.ld_base.specs.declared.object.Reloc.{Reloc}
use Rattle.ld_base.specs.declared.object.Symbol.{Symbol}
use Rattle.scope_rule.specs.Choose.{want_of}
use Rattle.scope_rule.specs.Relocation.{choice_at}
use Rattle.scope_rule.specs.Seen.{Seen, seen_in}
use Rattle.scope_rule.specs.declared.namespace.Namespace.{Namespace}
use Rattle.cli_text.specs.Lines.{version_of}

abbrev pub is_missing : Choice → Bool
is_missing (Def serial index) = false
is_missing WeakZero = false
is_missing Missing = true

-- the refusal of a relocation whose symbol has no definition
abbrev pub missing_symbol : Loaded → Symbol → DlFault
missing_symbol o s = dl.MissingSymbol (Some o.path) s.name (version_of (want_of o.object s))

-- what a relocation is refused for
unfoldable pub refusal_at : Seen → Loaded → Reloc → Option DlFault
refusal_at seen o r = if is_missing (choice_at seen o r) then option_map (missing_symbol o) (slice_get o.object.symbols r.symbol) else None

-- the first refusal of relocations in order
abbrev pub first_missing : Seen → Loaded → List Reloc → Option DlFault
first_missing seen o [] = None
first_missing seen o (r ∷ rest) = option_or (refusal_at seen o r) (first_missing seen o rest)

-- of an object: first of its relocations that aren't slots, and where every slot is wanted then of its slots
abbrev pub refusal_of : Seen → Bool → Loaded → Option DlFault
refusal_of seen now o = option_or (first_missing seen o o.object.relocs) (if now then first_missing seen o o.object.plt_relocs else None)

-- of the objects in load order, the first refusal
abbrev pub first_refusal : Namespace → Bool → List Loaded → Option DlFault
first_refusal ns now [] = None
first_refusal ns now (o ∷ rest) = option_or (refusal_of (seen_in ns) now o) (first_refusal ns now rest)
