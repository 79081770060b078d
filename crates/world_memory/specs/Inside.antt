-- Guest memory in the code, as its doublewords, and what is kept of it.
use Rattle.std.specs.Prelude.{◌≡◌, ◌≤◌, List}
use Rattle.std.specs.Vec.{vec_capacity, vec_len}
use Rattle.rv_hart.specs.declared.doubleword.Doubleword.{Doubleword}
use Rattle.world_memory.specs.Front.{front_count, spread}
use Rattle.world_memory.specs.declared.memory.PlainMemory.TheInside.{Inside}

abbrev pub words_of : Inside → List Doubleword
words_of m = spread m.front.items m.page.items

pub record IsKept (m : Inside) : Type 0 where
  pub few : vec_len m.front ≤ front_count
  pub room : front_count ≤ vec_capacity m.front
  pub page : vec_len m.page ≡ 512
