use Rattle.std.proofs.Common.{◌≡◌, ℕ, take, drop, nat_lt}
use Rattle.std.specs.List.{list_any}
use Rattle.sym_hash.specs.Gnu.{is_end}
use Rattle.sym_hash.proofs.gnu.ended.Given as goal

abbrev pub invariant-loop-index : goal.invariant-loop-index
invariant-loop-index l = (k : ℕ) → list_any is_end (drop k (take l.index l.words)) ≡ nat_lt k l.ended
