-- What an opening brings: its objects follow one another, their images can be read, and their constructors are in order.
use Rattle.std.proofs.Common.{◌≡◌, ℕ, Bool, List, map, Some, Ok, sym, ap, subst}
use Rattle.std.specs.List.{Contains, flat_map}
use Rattle.history_calls.specs.CallLaws.Laws.{NewEdgesSuffice}
use Rattle.elf_object.specs.Verdict.{object_verdict}
use Rattle.link_images.specs.ImageReads.Reads.{ArePrepared}
use Rattle.history_journal.specs.Following.{MayFollow, machine_of}
use Rattle.ld_base.specs.declared.linking.Loaded.{Loaded}
use Rattle.ld_base.specs.declared.object.Object.{Object}
use Rattle.ld_base.specs.declared.parts.HashTable.{HashTable}
use Rattle.history_event.specs.declared.event.Event.TheVariants.{Open}
use Rattle.history_event.specs.declared.event.OpenAnswer.TheVariants.{Done}
use Rattle.history_event.specs.declared.event.OpenAnswer.{OpenAnswer}
use Rattle.history_event.specs.declared.event.OpenAsk.{OpenAsk}
use Rattle.history_event.specs.declared.event.Range.{Range}
use Rattle.history_event.specs.declared.handed.Function.{Function}
use Rattle.history_event.specs.declared.handed.Opening.{Opening}
use Rattle.history_graph.specs.Initialised.{InitOrder, program_last}
use Rattle.history_state.specs.Accepted.{IsAccepted}
use Rattle.history_state.specs.After.{after}
use Rattle.history_state.specs.Legal.{Lawful}
use Rattle.history_state.specs.Lemmas.Lists.{at_in}
use Rattle.history_state.specs.Links.{found_edges}
use Rattle.history_state.specs.Objects.{mapped, serial_of}
use Rattle.history_state.specs.Read.{WasRead}
use Rattle.history_state.specs.State.{State}
use Rattle.history_calls.specs.declared.link_served.installs.Installs.{Installs}
use Rattle.history_calls.specs.Functions.{AreConstructors, AreOf, constructors, object_of}
use Rattle.link_state.specs.Opening.{ArePut, IsPut, event_of}
use Rattle.link_state.specs.Table.{LinkTable, appended}
use Rattle.link_images.specs.ObjectFunctions.Rooms.{CanReadAll}
use Rattle.link_startup.specs.Bringing.{CameLast}

-- the images are those of the objects, which were read
pub readable : (harts : ℕ) (new : LinkTable) (added : List Loaded) (installs : Installs)
    → ArePrepared (after new.events) added installs.images → ((o : Loaded) → Contains added o → WasRead (machine_of harts) o)
    → ((bytes : List ℕ) (program : Bool) (o : Object) (table : HashTable) → object_verdict bytes program ≡ Ok (o, table) → IsAccepted o) → CanReadAll added installs.images
readable harts new added installs prepared read accepts = record {
  count = prepared.count;
  each = λ k o image at at_image.
      let was = read o (at_in added k o at) in
      record { accepted = accepts was.bytes was.program o.object o.table was.is; whole = (prepared.each k o image at at_image).is.relocated.all };
}

pub constructed : NewEdgesSuffice → (old new : LinkTable) (hart id root : ℕ) (ask : OpenAsk) (added : List Loaded) (ranges : List Range) (order : List ℕ) (functions : List Function)
    → Lawful (machine_of old.harts) old.events → MayFollow old.harts old.events (Open hart ask (Done id root added ranges))
    → new ≡ appended old (Open hart ask (Done id root added ranges))
    → InitOrder (flat_map found_edges added) (program_last (Some 1) (map serial_of added)) order → map object_of functions ≡ order
    → AreOf (after new.events) constructors functions → AreConstructors (after new.events) (map serial_of added) functions
constructed suffices old new hart id root ask added ranges order functions lawful may is ordered are addresses = record {
  order = subst (λ (t : LinkTable). InitOrder (flat_map found_edges (mapped (after t.events))) (program_last (Some 1) (map serial_of added)) (map object_of functions)) (sym is)
      (suffices (machine_of old.harts) may.setting old.events hart id root ask added ranges (map object_of functions) may.machine lawful may.may
      (subst (InitOrder (flat_map found_edges added) (program_last (Some 1) (map serial_of added))) (sym are) ordered));
  addresses = addresses;
}

-- the state with the event
pub came_last : (old new : LinkTable) (hart id root : ℕ) (ask : OpenAsk) (added : List Loaded) (ranges : List Range) → new ≡ appended old (Open hart ask (Done id root added ranges))
    → CameLast new.events added
came_last old new hart id root ask added ranges is = record {
  past = old.events;
  hart = hart;
  ask = ask;
  id = id;
  root = root;
  ranges = ranges;
  are = ap (λ (t : LinkTable). t.events) is;
}

-- what memory gets of an opening that brings objects
pub put_so : (s : State) (hart id root : ℕ) (ask : OpenAsk) (added : List Loaded) (ranges : List Range) (o : Opening) (installs : Installs)
    → event_of o ≡ Open hart ask (Done id root added ranges) → IsPut s o.answer installs → ArePut s added ranges installs
put_so s hart id root ask added ranges o installs is put =
    let same : o.answer ≡ Done id root added ranges = cc in
    subst (λ (a : OpenAnswer). IsPut s a installs) same put
