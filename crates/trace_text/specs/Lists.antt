-- Lists in lines: their elements with commas between, and - where there is none.
use Rattle.std.specs.Prelude.{ℕ, ◌/◌, ◌%◌, List, [], ◌∷◌, ◌++◌, flat_map, Option, Some, None}
use Rattle.std.specs.Fmt.{decimal}
use Rattle.ld_base.specs.declared.linking.Loaded.{Loaded}
use Rattle.ld_base.specs.declared.linking.TlsPlace.{TlsPlace}
use Rattle.ld_base.specs.Text.{name_text, hex_digit}
use Rattle.ld_base.specs.FaultText.{hex_text}

abbrev pub serials_text : List ℕ → List ℕ
serials_text [] = 45 ∷ []
serials_text (serial ∷ serials) = decimal serial ++ flat_map (λ s. 44 ∷ decimal s) serials

-- a module of thread-local storage by its number, a static one with its offset
abbrev pub place_text : Option TlsPlace → List ℕ
place_text None = []
place_text (Some place) = 47 ∷ decimal place.number ++ elim place.offset [ None ↦ [] | Some offset ↦ 43 ∷ hex_text offset ]

-- a new object: its serial, its path, where it is mapped, and its module
abbrev pub new_text : Loaded → List ℕ
new_text o = decimal o.serial ++ 58 ∷ name_text o.path ++ 64 ∷ hex_text o.base ++ place_text o.«module»

abbrev pub added_text : List Loaded → List ℕ
added_text [] = 45 ∷ []
added_text (object ∷ objects) = new_text object ++ flat_map (λ o. 44 ∷ new_text o) objects

-- a byte as its two digits
abbrev pub byte_digits : ℕ → List ℕ
byte_digits byte = hex_digit (byte / 16) ∷ hex_digit (byte % 16) ∷ []
