-- How a hart ended.
use Rattle.std.specs.Prelude.{ℕ, List, [], ◌∷◌, codes}
use Rattle.std.specs.Fmt.{decimal}
use Rattle.ld_base.specs.FaultText.{hex_text}
use Rattle.history_event.specs.declared.hart_end.HartEnd.{HartEnd}
use Rattle.history_event.specs.declared.hart_end.HartEnd.TheVariants as ends
use Rattle.trace_text.specs.Said.{said}

unfoldable pub end_text : HartEnd → List ℕ
end_text (ends.Exit code) = said (codes "exit" ∷ []) (decimal code)
end_text ends.FuelOut = codes "fuel"
end_text (ends.NotMapped pc address) = said (codes "not-mapped" ∷ hex_text pc ∷ []) (hex_text address)
end_text (ends.SlotStore pc address) = said (codes "slot-store" ∷ hex_text pc ∷ []) (hex_text address)
end_text (ends.BadInstruction pc word) = said (codes "bad-instruction" ∷ hex_text pc ∷ []) (hex_text word)
end_text (ends.Misaligned pc address) = said (codes "misaligned" ∷ hex_text pc ∷ []) (hex_text address)
end_text (ends.Break pc) = said (codes "break" ∷ []) (hex_text pc)
end_text (ends.BadModule number) = said (codes "bad-module" ∷ []) (decimal number)
end_text (ends.Unloaded serial) = said (codes "unloaded" ∷ []) (hex_text serial)
end_text (ends.NoSlot serial eights) = said (codes "no-slot" ∷ decimal serial ∷ []) (hex_text eights)
end_text (ends.Unresolved serial slot) = said (codes "unresolved" ∷ decimal serial ∷ []) (decimal slot)
end_text (ends.NotCode serial slot) = said (codes "not-code" ∷ decimal serial ∷ []) (decimal slot)
end_text (ends.AddressSpaceFull pages) = said (codes "address-space-full" ∷ []) (decimal pages)
end_text ends.Memory = codes "memory"
