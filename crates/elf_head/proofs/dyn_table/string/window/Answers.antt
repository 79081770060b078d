use Rattle.std.proofs.Common.{◌≡◌, ℕ, ◌-◌, List, length, take, drop, min, length-drop, arith}
use Rattle.std.proofs.lemmas.List.{take_all, take_min}
use Rattle.elf_head.proofs.dyn_table.string.window.Goals as goal

-- a slice that is cut where it is too long
cut : (n limit offset : ℕ) (xs : List ℕ) → n ≡ min limit (length (take (length xs - offset) (drop offset xs))) → take n (take (length xs - offset) (drop offset xs)) ≡ take limit (drop offset xs)
cut n limit offset xs e =
    let whole : take (length xs - offset) (drop offset xs) ≡ drop offset xs = take_all (length xs - offset) (drop offset xs) (omega (arith, length-drop offset xs)) in
    rw (e, whole) (take_min limit (drop offset xs))

pub returns : goal.returns
returns c = cut c.min.result 4096 c.args.offset c.args.strings.now c.min.ensures
