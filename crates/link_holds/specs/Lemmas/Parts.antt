-- What is kept of an image is found by its serial.
use Rattle.std.proofs.Common.{◌≡◌, ℕ, Bool, true, false, cond, eqb, List, [], ◌∷◌, map, Option, Some, None, refl, ap, ◌∙◌}
use Rattle.std.specs.List.{find}
use Rattle.std.specs.Option.{option_map, option_map_or}
use Rattle.link_images.specs.Parts.{part_of, storage_of}
use Rattle.link_images.specs.declared.parts.Part.{Part}
use Rattle.history_state.specs.Memory.{image_of}
use Rattle.history_state.specs.State.{Linked, State}
use Rattle.history_calls.specs.Functions.{destructors}

find_part : (serial : ℕ) (images : List Linked) → find (λ (p : Part). eqb p.serial serial) (map part_of images) ≡ option_map part_of (find (λ (m : Linked). eqb m.serial serial) images)
find_part serial [] = refl
find_part serial (m ∷ images) = by (eqb m.serial serial) (find_part serial images)
  where
    by : (b : Bool) → find (λ (p : Part). eqb p.serial serial) (map part_of images) ≡ option_map part_of (find (λ (i : Linked). eqb i.serial serial) images)
        → cond b (Some (part_of m)) (find (λ (p : Part). eqb p.serial serial) (map part_of images)) ≡ option_map part_of (cond b (Some m) (find (λ (i : Linked). eqb i.serial serial) images))
    by true rest = refl
    by false rest = rest

both : (found : Option Linked) → option_map (λ (p : Part). p.destructors) (option_map part_of found) ≡ option_map destructors found
both None = refl
both (Some m) = refl

pub finis_found : (s : State) (parts : List Part) (serial : ℕ) (found : Option Part) → parts ≡ map part_of s.images → found ≡ find (λ (p : Part). eqb p.serial serial) parts
    → option_map (λ (p : Part). p.destructors) found ≡ option_map destructors (image_of s serial)
finis_found s parts serial found are is =
    ap (option_map (λ (p : Part). p.destructors)) (is ∙ ap (find (λ (p : Part). eqb p.serial serial)) are ∙ find_part serial s.images) ∙ both (find (λ (m : Linked). eqb m.serial serial) s.images)

-- and so are the bytes with which a block of its storage begins
pub storage_found : (s : State) (parts : List Part) (serial : ℕ) (p : Part) (i : Linked) → parts ≡ map part_of s.images → Some p ≡ find (λ (q : Part). eqb q.serial serial) parts → image_of s serial ≡ Some i
    → p.storage ≡ storage_of i
storage_found s parts serial p i are found is =
    ap (λ (q : Option Part). option_map_or (λ (x : Part). x.storage) q [])
    (found ∙ ap (find (λ (q : Part). eqb q.serial serial)) are ∙ find_part serial s.images ∙ ap (option_map part_of) is)
