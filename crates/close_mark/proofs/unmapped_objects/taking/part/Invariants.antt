use Rattle.std.proofs.Common.{◌≡◌, ◌+◌, ◌≤◌, drop}
use Rattle.std.specs.List.{count_by}
use Rattle.std.specs.Vec.{vec_capacity, vec_len}
use Rattle.std.specs.VecDeque.{deque_capacity, deque_len}
use Rattle.close_mark.specs.UnmappedObjects.Taken.{IsParted, goes}
use Rattle.close_mark.proofs.unmapped_objects.taking.part.Given as goal

-- so many objects were taken from the front, and there is room for the others
abbrev pub invariant-loop : goal.invariant-loop
invariant-loop l =
    record {
      parted : IsParted l.set l.fn.objects.items l.queue.items l.initial.gone.items l.gone.items l.counter;
      total : vec_len l.gone + count_by (goes l.set) (drop l.counter l.fn.objects.items) ≡ vec_len l.initial.gone + count_by (goes l.set) l.fn.objects.items;
      capacity : vec_capacity l.gone ≡ vec_capacity l.initial.gone;
      within : deque_len l.queue ≤ deque_capacity l.queue;
    }
