use Rattle.asm_places.proofs.Counting.{none_counted}
use Rattle.asm_places.proofs.counter.Counter.new.Goals as goal

pub returns : goal.returns
returns c = none_counted
