use Rattle.std.proofs.Common.{◌≡◌, ◌≤◌, List, sym, subst, arith}
use Rattle.seg_image.specs.declared.image.Image.{Image}
use Rattle.history_calls.specs.declared.link_served.installs.SlotWord.{SlotWord}
use Rattle.word_installs.specs.Installed.{MayPut, MayPutSlots, OfImages, OfSlots, Puts}
use Rattle.word_installs.proofs.Putting.{generation_same}
use Rattle.word_installs.proofs.Together.{installed, next_areas, next_slots}
use Rattle.word_installs.proofs.installing.install.Goals as goal

pub put_images-requires : goal.put_images-requires
put_images-requires g c = subst (MayPut c.args.keeper.now) (sym c.as_slice-images.ensures) c.requires.may.images

pub put_images-requires-2 : goal.put_images-requires-2
put_images-requires-2 g c =
    subst (MayPut c.put_images.new.keeper) (sym c.as_slice.ensures)
    (next_areas c.args.installs.now c.args.keeper.now c.requires.may c.put_images.new.keeper
    (subst (λ (is : List Image). Puts (OfImages is) c.args.keeper.now c.put_images.new.keeper) c.as_slice-images.ensures c.put_images.ensures))

pub put_slots-requires : goal.put_slots-requires
put_slots-requires g c =
    subst (λ (is : List Image). MayPutSlots c.put_images-2.new.keeper is c.as_slice-2.result.now) (sym c.as_slice-images.ensures)
    (subst (MayPutSlots c.put_images-2.new.keeper c.args.installs.now.images) (sym c.as_slice-2.ensures)
    (next_slots c.args.installs.now c.args.keeper.now c.requires.may c.put_images.new.keeper c.put_images-2.new.keeper
    (subst (λ (is : List Image). Puts (OfImages is) c.args.keeper.now c.put_images.new.keeper) c.as_slice-images.ensures c.put_images.ensures)
    (subst (λ (is : List Image). Puts (OfImages is) c.put_images.new.keeper c.put_images-2.new.keeper) c.as_slice.ensures c.put_images-2.ensures)))

pub raise_generation-requires : goal.raise_generation-requires
raise_generation-requires g c =
    let one : c.put_images.new.keeper.generation ≡ c.args.keeper.now.generation = generation_same _ c.args.keeper.now c.put_images.new.keeper c.put_images.ensures in
    let two : c.put_images-2.new.keeper.generation ≡ c.put_images.new.keeper.generation = generation_same _ c.put_images.new.keeper c.put_images-2.new.keeper c.put_images-2.ensures in
    let three : c.put_slots.new.keeper.generation ≡ c.put_images-2.new.keeper.generation = generation_same _ c.put_images-2.new.keeper c.put_slots.new.keeper c.put_slots.ensures in
    let rises : c.args.keeper.now.generation ≤ c.args.generation = c.requires.rises in
    omega (arith, one, two, three, rises)

pub returns-clause-installed : goal.returns-clause-installed
returns-clause-installed g c =
    installed c.args.installs.now c.args.keeper.now c.requires.may c.put_images.new.keeper c.put_images-2.new.keeper
    (subst (λ (is : List Image). Puts (OfImages is) c.args.keeper.now c.put_images.new.keeper) c.as_slice-images.ensures c.put_images.ensures)
    (subst (λ (is : List Image). Puts (OfImages is) c.put_images.new.keeper c.put_images-2.new.keeper) c.as_slice.ensures c.put_images-2.ensures)
    c.put_slots.new.keeper c.raise_generation.new.keeper c.args.generation
    (subst (λ (is : List Image). Puts (OfSlots is c.args.installs.now.slots) c.put_images-2.new.keeper c.put_slots.new.keeper) c.as_slice-images.ensures
    (subst (λ (ss : List SlotWord). Puts (OfSlots c.as_slice-images.result.now ss) c.put_images-2.new.keeper c.put_slots.new.keeper) c.as_slice-2.ensures c.put_slots.ensures))
    c.raise_generation.ensures.raised
