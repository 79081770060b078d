use Rattle.std.proofs.Common.{◌≡◌, ℕ, ◌<◌, false, get_or, List}
use Rattle.elf_dynamic.proofs.Ranges.{nothing}
use Rattle.ld_base.specs.declared.object.Span.{Span}
use Rattle.elf_dynamic.specs.Marks.{AreMarks}
use Rattle.elf_dynamic.specs.Named.{slot_ranges}
use Rattle.elf_dynamic.specs.Rules.{is_bad_slot}
use Rattle.elf_dynamic.proofs.slot_rules.first_bad_slot.Given as goal

-- none of the slots so far is bad
abbrev pub invariant-loop-index : goal.invariant-loop-index
invariant-loop-index l = (others : List Span) → AreMarks l.named.words.items others → (k : ℕ) → k < l.index
    → is_bad_slot l.slots.bytes.now l.slots.head.now.headers l.slots.symbols.now others (slot_ranges l.slots.symbols.now l.slots.relocs.now)
    (get_or l.slots.relocs.now k nothing) ≡ false
