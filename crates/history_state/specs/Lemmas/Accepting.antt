-- Each image is of an object that the machine accepts.
use Rattle.std.proofs.Common.{◌≡◌, ⊎_elim, ℕ, ◌+◌, Bool, true, false, not, List, [], ◌∷◌, map, length, Option, Some, None, sym, ap, subst, ◌∙◌, arith}
use Rattle.std.specs.List.{AllByRecursion, Contains}
use Rattle.std.proofs.lemmas.List.{take_all}
use Rattle.std.proofs.lemmas.List.Elements.{Contains-append_cases}
use Rattle.ld_base.specs.declared.linking.Loaded.{Loaded}
use Rattle.ld_base.specs.declared.object.Object.{Object}
use Rattle.ld_base.specs.declared.parts.HashTable.{HashTable}
use Rattle.history_event.specs.declared.event.CloseAnswer.{CloseAnswer}
use Rattle.history_event.specs.declared.event.CloseAnswer.TheVariants as closes
use Rattle.history_event.specs.declared.event.Event.{Event}
use Rattle.history_event.specs.declared.event.Event.TheVariants as events
use Rattle.history_event.specs.declared.event.OpenAnswer.{OpenAnswer}
use Rattle.history_event.specs.declared.event.OpenAnswer.TheVariants as opens
use Rattle.history_event.specs.declared.event.OpenAsk.{OpenAsk}
use Rattle.history_event.specs.declared.event.Range.{Range}
use Rattle.history_event.specs.declared.event.SymAnswer.{SymAnswer}
use Rattle.history_event.specs.declared.event.SymAnswer.TheVariants as syms
use Rattle.history_event.specs.declared.event.SymAsk.{SymAsk}
use Rattle.scope_rule.specs.declared.arrival.Arrival.{Arrival}
use Rattle.scope_rule.specs.Finding.{Reading, here, absent}
use Rattle.scope_rule.specs.Load.{Brings, Load, Walk, found_by, record_of, records, records_of}
use Rattle.scope_rule.specs.Loads.{IsRead}
use Rattle.history_state.specs.State.{Linked, State}
use Rattle.history_state.specs.Accepted.{AcceptsOnly, IsAccepted}
use Rattle.history_state.specs.After.{after}
use Rattle.history_state.specs.Allowed.{AllowedIn}
use Rattle.history_state.specs.Bound.{linked_with, uncopied, with_copies}
use Rattle.history_state.specs.Flags.{is_deepbind, is_noload}
use Rattle.history_state.specs.Legal.{Lawful}
use Rattle.history_state.specs.Objects.{has}
use Rattle.history_state.specs.Opening.{Loads as LoadsName, MayOpen, OpensName, unplaced}
use Rattle.history_state.specs.Setting.{Machine, MayRead, ReadingsBy, Setting, load_of}
use Rattle.history_state.specs.Step.{binds, die, initialise, loaded, lower, seen_after, step, unmap}
use Rattle.history_state.specs.Lemmas.History.{by_history}
use Rattle.history_state.specs.Lemmas.Lists.{first_or_later, from_filter, from_map, here as first_in, in_map, later, none_in}
use Rattle.history_state.specs.Lemmas.Brought.{all_at}

-- what a load reads
abbrev pub ReadLaw : Type 0
ReadLaw = (load : Load) (w : Walk) → Brings load w → AllByRecursion (IsRead load w.arrivals) w.arrivals

abbrev Accepting : List Linked → Type 0
Accepting images = (i : Linked) → Contains images i → IsAccepted i.object

-- a record is that of an object that was read
arrival_of : (hart : ℕ) (deep : Bool) (serial : ℕ) (os : List Arrival) (founds : List (List ℕ)) (o : Loaded) → Contains (records hart deep serial os founds) o
    → (a : Arrival) × Contains os a × (o.object ≡ a.object)
arrival_of hart deep serial [] founds o h = absurd (none_in o h)
arrival_of hart deep serial (a ∷ os) [] o h = absurd (none_in o h)
arrival_of hart deep serial (a ∷ os) (found ∷ founds) o h = ⊎_elim
    (λ (e : record_of hart deep serial a found ≡ o). (a, first_in a os, sym (ap (λ (q : Loaded). q.object) e)))
    (λ (i : Contains (records hart deep (serial + 1) os founds) o). let rest = arrival_of hart deep (serial + 1) os founds o i in (rest.0, later a os rest.0 rest.1, rest.2))
    (first_or_later (record_of hart deep serial a found) (records hart deep (serial + 1) os founds) o h)

-- an object that a reading gives is accepted
read_accepted : (m : Machine) → AcceptsOnly m → (w : Setting) → w.machine ≡ m → (noload : Bool) (s : State) (name : List ℕ) (reading : List ℕ → Reading) → ReadingsBy noload w s name reading
    → (path : List ℕ) (o : Object) (table : HashTable) → reading path ≡ here o table → IsAccepted o
read_accepted m only w same true s name reading read path o table e = absurd (let d : here o table ≡ absent = sym e ∙ read path in cc)
read_accepted m only w same false s name reading read path o table e = by _ (reading path) e (read path)
  where
    by : (program : Bool) (r : Reading) → r ≡ here o table → MayRead w program path r → IsAccepted o
    by program r is may =
        let at : MayRead w program path (here o table) = subst (MayRead w program path) is may in
        only at.0 program o table (ap (λ (n : Machine). n.verdict at.0 program) (sym same) ∙ at.2)

new_accepted : ReadLaw → (m : Machine) → AcceptsOnly m → (w : Setting) → w.machine ≡ m → (s : State) (hart : ℕ) (ask : OpenAsk) (name : List ℕ) (id root : ℕ) (added : List Loaded) (ranges : List Range)
    → LoadsName w s hart ask name id root added ranges → (a : Loaded) → Contains added a → IsAccepted a.object
new_accepted law m only w same s hart ask name id root added ranges loads a h =
    let load : Load = load_of w s hart id name loads.finds.reading in
    let placed : map unplaced added ≡ records_of load (is_deepbind ask.flags) loads.finds.walk = loads.storage.same ∙ loads.finds.are in
    let inside : Contains (records_of load (is_deepbind ask.flags) loads.finds.walk) (unplaced a) = subst (λ (os : List Loaded). Contains os (unplaced a)) placed (in_map unplaced added a h) in
    let from = arrival_of hart (is_deepbind ask.flags) s.next loads.finds.walk.arrivals (found_by load loads.finds.walk) (unplaced a) inside in
    let read : IsRead load loads.finds.walk.arrivals from.0 = all_at (IsRead load loads.finds.walk.arrivals) loads.finds.walk.arrivals from.0 (law load loads.finds.walk loads.finds.brings) from.1 in
    subst IsAccepted (sym from.2)
    (read_accepted m only w same (is_noload ask.flags) s name loads.finds.reading loads.finds.read from.0.path from.0.object from.0.table read.read)

pub opens_accepted : ReadLaw → (m : Machine) → AcceptsOnly m → (w : Setting) → w.machine ≡ m → (s : State) (hart : ℕ) (ask : OpenAsk) (id root : ℕ) (added : List Loaded) (ranges : List Range) (name : Option (List ℕ))
    → OpensName w s hart ask name id root added ranges → (a : Loaded) → Contains added a → IsAccepted a.object
opens_accepted law m only w same s hart ask id root added ranges (Some name) loads a h = new_accepted law m only w same s hart ask name id root added ranges loads a h
opens_accepted law m only w same s hart ask id root added ranges None program a h = absurd (none_in a (subst (λ (os : List Loaded). Contains os a) program.none h))

module _ (law : ReadLaw) (m : Machine) (only : AcceptsOnly m) where
  open_accepting : (w : Setting) → w.machine ≡ m → (s : State) (hart : ℕ) (ask : OpenAsk) (answer : OpenAnswer) → MayOpen w s hart ask answer → Accepting s.images
      → Accepting (step s (events.Open hart ask answer)).images
  unfolding loaded linked_with
  open_accepting w same s hart ask (opens.Done id root added ranges) may accepting = λ i there. ⊎_elim
      (λ (h : Contains s.images i). accepting i h)
      (λ (h : Contains (map (with_copies _) (map (uncopied (loaded s hart ask id root added ranges) (seen_after s ask id root added) (binds s ask)) added)) i).
      let at = from_map (with_copies _) (map (uncopied (loaded s hart ask id root added ranges) (seen_after s ask id root added) (binds s ask)) added) i h in
      let by = from_map (uncopied (loaded s hart ask id root added ranges) (seen_after s ask id root added) (binds s ask)) added at.0 at.1 in
      let object : by.0.object ≡ i.object = ap (λ (q : Linked). q.object) by.2 ∙ ap (λ (q : Linked). q.object) at.2 in
      subst IsAccepted object (opens_accepted law m only w same s hart ask id root added ranges ask.name may.name by.0 by.1))
      (Contains-append_cases s.images _ i there)
  open_accepting w same s hart ask opens.Absent may accepting = accepting
  open_accepting w same s hart ask (opens.Refused fault) may accepting = accepting

  close_accepting : (s : State) (hart handle : ℕ) (answer : CloseAnswer) → Accepting s.images → Accepting (step s (events.Close hart handle answer)).images
  unfolding die lower
  close_accepting s hart handle (closes.Done set) accepting = accepting
  close_accepting s hart handle (closes.Refused fault) accepting = accepting

  sym_accepting : (s : State) (hart : ℕ) (ask : SymAsk) (answer : SymAnswer) → Accepting s.images → Accepting (step s (events.Sym hart ask answer)).images
  sym_accepting s hart ask (syms.Found serial index value) accepting = accepting
  sym_accepting s hart ask (syms.Refused fault) accepting = accepting

  accepting_step : (w : Setting) → w.machine ≡ m → (past : List Event) (s : State) (e : Event) → AllowedIn w past s e → Accepting s.images → Accepting (step s e).images
  unfolding unmap initialise
  accepting_step w same past s (events.Open hart ask answer) may accepting = open_accepting w same s hart ask answer may accepting
  accepting_step w same past s (events.Close hart handle answer) may accepting = close_accepting s hart handle answer accepting
  accepting_step w same past s (events.Unmapped hart set) may accepting = λ i there. accepting i (from_filter (λ (q : Linked). not (has set q.serial)) s.images i there).0
  accepting_step w same past s (events.Grant number hart owner slot choice value) may accepting = accepting
  accepting_step w same past s (events.Bound number) may accepting = accepting
  accepting_step w same past s (events.Lost number saw) may accepting = accepting
  accepting_step w same past s (events.Unresolved hart owner slot choice) may accepting = accepting
  accepting_step w same past s (events.Sym hart ask answer) may accepting = sym_accepting s hart ask answer accepting
  accepting_step w same past s (events.Tls hart owner address) may accepting = accepting
  accepting_step w same past s (events.Init hart object) may accepting = accepting
  accepting_step w same past s (events.Fini hart object) may accepting = accepting
  accepting_step w same past s (events.Wrote hart bytes) may accepting = accepting
  accepting_step w same past s (events.Told hart fault) may accepting = accepting
  accepting_step w same past s (events.Ended hart reason) may accepting = accepting

  pub accepted_after : (journal : List Event) → Lawful m journal → (i : Linked) → Contains (after journal).images i → IsAccepted i.object
  accepted_after journal lawful =
      subst (λ (es : List Event). Accepting (after es).images) (take_all (length journal) journal (omega arith))
      (by_history m (λ s. Accepting s.images) (λ i there. absurd (none_in i there)) (λ w past e same accepting may. accepting_step w same past (after past) e may accepting) journal lawful (length journal))
