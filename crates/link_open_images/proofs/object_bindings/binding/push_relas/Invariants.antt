use Rattle.std.proofs.Common.{◌≡◌, Bool, ◌++◌, map, take}
use Rattle.link_open_images.specs.ObjectBindings.Bindings.{AreMade, copies_from, rela_binding}
use Rattle.link_open_images.proofs.object_bindings.binding.push_relas.Given as goal

-- those of the relocations in front
abbrev pub invariant-loop-index : goal.invariant-loop-index
invariant-loop-index l = (now : Bool) → AreMade l.indexed now l.made.places.now l.made.objects.now l.made.images.now
    → l.bindings ≡ l.initial.bindings ++ map (rela_binding (copies_from l.indexed now l.made.places.now l.made.objects.now) l.indexed l.owner) (take l.index l.reloc-items)
