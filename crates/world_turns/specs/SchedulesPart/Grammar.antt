-- How a schedule is written: `rr`, or items between commas. An item `H*K` gives hart H its next K turns, and `H` alone gives it one.
use Rattle.std.specs.Prelude.{◌≡◌, ◌⊎◌, ℕ, ◌^◌, ◌<◌, ◌≤◌, ◌==◌, List, [], ◌∷◌, ◌++◌, codes}
use Rattle.std.specs.Fmt.{decimal}
use Rattle.std.specs.List.{slice_split}
use Rattle.world_turns.specs.declared.schedules.schedule.TurnItem.{TurnItem}

-- the harts are numbered from 0; a number has no sign, and no zero before it
pub record IsItem (harts : ℕ) (text : List ℕ) (item : TurnItem) : Type 0 where
  pub hart : item.hart < harts
  pub some : 1 ≤ item.count
  pub most : item.count ≤ 2 ^ 32
  pub written : (text ≡ decimal item.hart ++ codes "*" ++ decimal item.count) ⊎ ((text ≡ decimal item.hart) × (item.count ≡ 1))

-- an item a part
abbrev pub AreItems : ℕ → List (List ℕ) → List TurnItem → Type 0
AreItems harts [] [] = Unit {0}
AreItems harts [] (item ∷ items) = ⊥
AreItems harts (part ∷ parts) [] = ⊥
AreItems harts (part ∷ parts) (item ∷ items) = IsItem harts part item × AreItems harts parts items

-- what stands between commas
abbrev pub parts_of : List ℕ → List (List ℕ)
parts_of text = slice_split (λ b. b == 44) text

-- the text says these items; `rr` says none, since after the last item all harts take turns in order anyway
pub data SaysTurns (harts : ℕ) (text : List ℕ) : List TurnItem → Type 0 where
  in_order : text ≡ codes "rr" → SaysTurns harts text []
  by_items : (items : List TurnItem) → AreItems harts (parts_of text) items → SaysTurns harts text items
