-- Where the objects of a namespace stand in load order.
use Rattle.std.specs.Prelude.{ℕ, ◌==◌, List, map, position, Option}
use Rattle.ld_base.specs.declared.linking.Loaded.{Loaded}
use Rattle.scope_rule.specs.Seen.{Seen}

-- the serials of objects, and of what is seen of a namespace, in load order
abbrev pub serials : List Loaded → List ℕ
serials objects = map (λ o. o.serial) objects

abbrev pub serials_of : Seen → List ℕ
serials_of s = serials s.objects

-- the first place of a serial
abbrev pub place_in : List ℕ → ℕ → Option ℕ
place_in serials serial = position (λ s. s == serial) serials
