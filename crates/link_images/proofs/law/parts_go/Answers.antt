use Rattle.std.proofs.Common.{◌≡◌, ℕ, Bool, true, false, not, cond, List, [], ◌∷◌, map, refl, ap}
use Rattle.std.specs.List.{filter}
use Rattle.history_state.specs.Objects.{has}
use Rattle.history_state.specs.State.{Linked}
use Rattle.link_images.specs.declared.parts.Part.{Part}
use Rattle.link_images.specs.Parts.{part_of}
use Rattle.link_images.proofs.law.parts_go.Goals as goal

go : (set : List ℕ) (images : List Linked) → map part_of (filter (λ m. not (has set m.serial)) images) ≡ filter (λ p. not (has set p.serial)) (map part_of images)
go set [] = refl
go set (m ∷ images) = at (has set m.serial) (go set images)
  where
    at : (b : Bool) → map part_of (filter (λ m. not (has set m.serial)) images) ≡ filter (λ p. not (has set p.serial)) (map part_of images)
        → map part_of (cond (not b) (m ∷ filter (λ m. not (has set m.serial)) images) (filter (λ m. not (has set m.serial)) images))
        ≡ cond (not b) (part_of m ∷ filter (λ p. not (has set p.serial)) (map part_of images)) (filter (λ p. not (has set p.serial)) (map part_of images))
    at true rest = rest
    at false rest = ap (λ (ps : List Part). part_of m ∷ ps) rest

pub returns : goal.returns
returns c = go
