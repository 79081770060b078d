-- The images of the state after an opening.
use Rattle.std.proofs.Common.{◌≡◌, ℕ, List, [], ◌∷◌, ◌++◌, map, refl, ap}
use Rattle.ld_base.specs.declared.linking.Loaded.{Loaded}
use Rattle.history_event.specs.declared.event.OpenAsk.{OpenAsk}
use Rattle.history_event.specs.declared.event.Range.{Range}
use Rattle.history_state.specs.Bound.{linked_with, uncopied, with_copies}
use Rattle.history_state.specs.State.{Linked, State}
use Rattle.history_state.specs.Step.{binds, loaded, open_done, seen_after}
use Rattle.link_open_laws.specs.Laws.{image_made}

twice_mapped : {X Y Z : Type 0} (f : X → Y) (g : Y → Z) (xs : List X) → map g (map f xs) ≡ map (λ x. g (f x)) xs
twice_mapped f g [] = refl
twice_mapped {X} {Y} {Z} f g (x ∷ xs) = ap (λ (zs : List Z). g (f x) ∷ zs) (twice_mapped f g xs)

-- the images of the state after the opening
pub images_after : (s : State) (hart : ℕ) (ask : OpenAsk) (id root : ℕ) (added : List Loaded) (ranges : List Range)
    → (open_done s hart ask id root added ranges).images ≡ s.images ++ map (image_made s hart ask id root added ranges) added
unfolding linked_with loaded
images_after s hart ask id root added ranges =
    let made = uncopied (loaded s hart ask id root added ranges) (seen_after s ask id root added) (binds s ask) in
    ap (λ (ms : List Linked). s.images ++ ms) (twice_mapped made (with_copies (s.images ++ map made added)) added)
