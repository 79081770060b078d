-- What a step does to its word.
use Rattle.std.specs.Prelude.{ℕ, ◌+◌, ◌%◌, eqb}
use prog.Atomic.{either}

pub data Op : Type 0 where
  load : Op
  store : ℕ → Op
  exchange : ℕ → ℕ → Op
  add : ℕ → Op

-- the word after, by the number found
abbrev pub becomes : Op → ℕ → ℕ
becomes load n = n
becomes (store x) n = x
becomes (exchange old new) n = either (eqb n old) new n
becomes (add k) n = (n + k) % 18446744073709551616

-- the operands, as a table of atomic words names them
abbrev pub operands : Op → ℕ × ℕ
operands load = (0, 0)
operands (store x) = (x, 0)
operands (exchange old new) = (old, new)
operands (add k) = (k, 0)
