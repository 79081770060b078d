use Rattle.std.proofs.Common.{◌≡◌, ◌++◌, drop, length, map, take}
use Rattle.history_state.specs.Bound.{place_of}
use Rattle.history_state.specs.Relocating.{first_fault, reloc_fault}
use Rattle.history_state.specs.State.{State}
use Rattle.scope_rule.specs.Relocation.{choice_at}
use Rattle.link_open_plan.specs.ObjectChoices.Sight.{AreNamed}
use Rattle.link_open_plan.proofs.object_choices.choosing.choose_relocs.Given as goal

-- the first refusal of the rest is that of all, and those in front are chosen
abbrev pub invariant-loop-reloc : goal.invariant-loop-reloc
invariant-loop-reloc l = record {
  first : (s : State) → map place_of s.modules ≡ l.places
      → first_fault (reloc_fault s l.fn.references.seen l.owner) (drop l.reloc-index l.relocs) ≡ first_fault (reloc_fault s l.fn.references.seen l.owner) l.relocs;
  same : l.references ≡ l.fn.references;
  rest : AreNamed (length l.owner.object.symbols) (drop l.reloc-index l.relocs);
  chosen : l.choices ≡ l.initial.choices ++ map (choice_at l.fn.references.seen l.owner) (take l.reloc-index l.relocs);
}
