use Rattle.asm_layout.specs.declared.place.Place.{Place}
use Rattle.asm_places.proofs.Counting.{counted_line, place_counted, placed_more}
use Rattle.asm_places.proofs.places.Places.of.Goals as goal

pub loop-line-preserved : goal.loop-line-preserved
loop-line-preserved c =
    let lines = c.as_slice-line-items.result.now in
    let n = c.loop-line.line-index in
    let counter = c.loop-line.end in
    let place : Place = record { section = counter.section; offset = c.filled.result } in
    record {
      counts = counted_line lines n c.line-item.result counter c.in-Some.next c.loop-line-test.true c.line-item.is
          c.loop-line.invariant.counts c.in-Some.ensures;
      places = rw c.in_ok-push.ensures.ok
          (placed_more lines n c.loop-line.lines place c.loop-line.invariant.places
          (place_counted lines n counter c.filled.result c.loop-line.invariant.counts c.filled.ensures));
    }
