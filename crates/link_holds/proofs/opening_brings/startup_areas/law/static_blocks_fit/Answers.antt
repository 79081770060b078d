use Rattle.std.proofs.Common.{◌≡◌, ◌+◌, ◌++◌, ◌∷◌, [], length, map, subst, arith}
use Rattle.std.specs.List.{range_with_len}
use Rattle.std.proofs.lemmas.List.Elements.{Contains-append_right}
use Rattle.address_space.specs.Pages.{IsGuestRange}
use Rattle.history_journal.specs.Following.{machine_of}
use Rattle.history_event.specs.declared.event.Event.{Event}
use Rattle.history_event.specs.declared.event.Event.TheVariants.{Open}
use Rattle.history_event.specs.declared.event.OpenAnswer.TheVariants.{Done}
use Rattle.history_state.specs.After.{after}
use Rattle.history_state.specs.Laws.{ModulesAreTidy, RangesAreApart, StaticsAreApart}
use Rattle.history_state.specs.Legal.{Lawful}
use Rattle.history_state.specs.Objects.{serial_of}
use Rattle.history_state.specs.State.{State}
use Rattle.history_state.specs.Step.{loaded, open_done}
use Rattle.history_state.specs.Lemmas.History.{after_push, lawful_push}
use Rattle.link_holds.proofs.OpeningBrings.StartupAreas.Given.{some_pages}
use Rattle.link_holds.proofs.OpeningBrings.StartupAreas.New.{blocks_fit}
use Rattle.link_holds.proofs.opening_brings.startup_areas.law.static_blocks_fit.Goals as goal

pub returns : goal.returns
unfolding loaded
returns c harts past hart id root ask added ranges lawful next =
    let s : State = after past in
    let t : State = open_done (after past) hart ask id root added ranges in
    let e : Event = Open hart ask (Done id root added ranges) in
    let state : after (past ++ e ∷ []) ≡ t = after_push past e in
    let lawful_t : Lawful (machine_of harts) (past ++ e ∷ []) = lawful_push (machine_of harts) next.setting past e next.machine lawful next.may in
    let row : map serial_of added ≡ range_with_len (after past).next (length added) =
    c.serials_are_in_order.ensures.new (machine_of harts) next.setting past hart id root ask added ranges next.machine lawful next.may in
    let tidy : ModulesAreTidy (open_done (after past) hart ask id root added ranges) = subst ModulesAreTidy state (c.modules_are_tidy.ensures.tidy (machine_of harts) (past ++ e ∷ []) lawful_t) in
    let statics : StaticsAreApart (open_done (after past) hart ask id root added ranges) = subst StaticsAreApart state (c.statics_are_apart.ensures (machine_of harts) (past ++ e ∷ []) lawful_t) in
    let apart : RangesAreApart (open_done (after past) hart ask id root added ranges) = subst RangesAreApart state (c.ranges_apart.ensures (machine_of harts) (past ++ e ∷ []) lawful_t) in
    record {
      blocks = blocks_fit s hart ask id root added ranges tidy c.blocks_begin_as_kept.ensures.count (c.new_objects_are_placed.ensures harts past hart id root ask added ranges lawful next) statics row;
      low = λ r inside area.
          let guest : IsGuestRange r.address r.pages =
          apart.guest r (Contains-append_right s.ranges ranges r inside) (some_pages next.setting s hart ask id root added ranges ask.name next.may.name r inside area) in
          omega (arith, guest.high);
    }
