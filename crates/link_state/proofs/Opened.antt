-- What an opening brings.
use Rattle.std.proofs.Common.{◌≡◌, IfOk, OnOk, Result, Ok, Err, List, sym, ap, subst, ◌∙◌}
use Rattle.ld_base.specs.declared.linking.Loaded.{Loaded}
use Rattle.history_event.specs.declared.event.Range.{Range}
use Rattle.link_images.specs.ImageReads.Reads.{ArePrepared}
use Rattle.history_event.specs.declared.event.Event.{Event}
use Rattle.history_state.specs.After.{after}
use Rattle.history_state.specs.Lemmas.History.{after_push}
use Rattle.history_calls.specs.Served.{AreInstalls}
use Rattle.link_state.specs.Table.{LinkTable, appended}
use Rattle.history_state.specs.State.{State}
use Rattle.history_state.specs.Step.{open_done, step}
use Rattle.link_holds.specs.OpeningBrings.Brought.{IsBrought, OfLists}
use Rattle.link_holds.specs.declared.opening_brings.bringing.Brings.{Brings}
use Rattle.link_holds.specs.declared.opening_brings.bringing.Planned.{Planned}

-- ---- what was brought, over plain lists

pub brought : (s : State) (p : Planned) (added : List Loaded) (ranges : List Range) (b : Brings) → IsBrought s p b → p.added.now ≡ added → p.ranges.now ≡ ranges
    → OfLists s p.hart p.ask.now p.ns p.root added ranges b
brought s p added ranges b is same laid =
    subst (λ (os : List Loaded). OfLists s p.hart p.ask.now p.ns p.root os ranges b) same
    (subst (λ (rs : List Range). OfLists s p.hart p.ask.now p.ns p.root p.added.now rs b) laid is.lists)

-- ---- what is handed out

pub installs_brought : (s : State) (p : Planned) (added : List Loaded) (ranges : List Range) (b : Brings) → IsBrought s p b → p.added.now ≡ added → p.ranges.now ≡ ranges
    → AreInstalls (open_done s p.hart p.ask.now p.ns p.root added ranges) added ranges b.installs
installs_brought s p added ranges b is same laid =
    subst (λ (os : List Loaded). AreInstalls (open_done s p.hart p.ask.now p.ns p.root os ranges) os ranges b.installs) same
    (subst (λ (rs : List Range). AreInstalls (open_done s p.hart p.ask.now p.ns p.root p.added.now rs) p.added.now rs b.installs) laid is.installs)

pub prepared_brought : (s : State) (p : Planned) (added : List Loaded) (ranges : List Range) (b : Brings) → IsBrought s p b → p.added.now ≡ added → p.ranges.now ≡ ranges
    → ArePrepared (open_done s p.hart p.ask.now p.ns p.root added ranges) added b.installs.images
prepared_brought s p added ranges b is same laid =
    subst (λ (os : List Loaded). ArePrepared (open_done s p.hart p.ask.now p.ns p.root os ranges) os b.installs.images) same
    (subst (λ (rs : List Range). ArePrepared (open_done s p.hart p.ask.now p.ns p.root p.added.now rs) p.added.now b.installs.images) laid is.prepared)

-- what holds of a result in the state after an event
pub after_it : {X E : Type 0} (P : State → X → Type 0) (result : Result X E) (old new : LinkTable) (e : Event) (x : X) → P (step (after old.events) e) x → OnOk result (new ≡ appended old e)
    → IfOk result (λ made. made ≡ x) → IfOk result (P (after new.events))
after_it P (Ok made) old new e x holds is same =
    subst (P (after new.events)) (sym same) (subst (λ (s : State). P s x) (sym (ap (λ (v : LinkTable). after v.events) is ∙ after_push old.events e)) holds)
after_it P (Err error) old new e x holds is same = tt
