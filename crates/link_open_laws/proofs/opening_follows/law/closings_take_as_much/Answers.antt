use Rattle.std.proofs.Common.{◌≡◌, false, length, map}
use Rattle.std.specs.List.{Contains, range_with_len}
use Rattle.history_journal.specs.Following.{machine_of}
use Rattle.ld_base.specs.declared.linking.Loaded.{Loaded}
use Rattle.history_state.specs.After.{after}
use Rattle.history_state.specs.Flags.{is_global}
use Rattle.history_state.specs.Objects.{has, serial_of}
use Rattle.history_state.specs.Step.{goes_with, loaded}
use Rattle.link_open_laws.proofs.OpeningFollows.Counted.{count_with, counted_with, is_not_of, new_from}
use Rattle.link_open_laws.proofs.OpeningFollows.Given.{ranges_stay}
use Rattle.link_open_laws.proofs.opening_follows.law.closings_take_as_much.Goals as goal

pub returns : goal.returns
unfolding loaded
returns c harts past hart id root ask added ranges lawful next closing there =
    let row : map serial_of added ≡ range_with_len (after past).next (length added) =
    c.serials_are_in_order.ensures.new (machine_of harts) next.setting past hart id root ask added ranges next.machine lawful next.may in
    let order = c.serials_are_in_order.ensures.order (machine_of harts) past lawful in
    let dies = c.each_dies_once.ensures (machine_of harts) past lawful in
    let none : (o : Loaded) → Contains added o → has closing.set o.serial ≡ false = λ o new. is_not_of (after past) order dies closing there o.serial (new_from added (after past).next o row new) in
    record {
      objects = counted_with (has closing.set) id root (is_global ask.flags) added none (after past).namespaces;
      ranges = count_with (goes_with closing.set) (after past).ranges ranges (ranges_stay next.setting (after past) hart ask id root added ranges ask.name closing.set next.may.name none);
    }
