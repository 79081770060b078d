-- Openings that are carried out, and those that have to wait.
use Rattle.std.proofs.Common.{◌≡◌, ◌≢◌, ℕ, ◌+◌, ◌≤◌, Bool, List, [], ◌∷◌, ◌++◌, length, map, min, take, Option, Some, None, Result, Ok, Err, IfOk, OnOk, refl, sym, ap, subst, ◌∙◌, arith}
use Rattle.std.specs.List.{Contains, flat_map}
use Rattle.std.specs.Option.{option_map}
use Rattle.std.proofs.lemmas.List.{append-nil, length-map, length-take}
use Rattle.std.proofs.lemmas.Option.{slice_get-map}
use Rattle.history_calls.specs.CallLaws.Coming.{Comes, IsOver, refusal_of}
use Rattle.history_calls.specs.CallLaws.Counts.{FaultsShow, ShowsInCounts}
use Rattle.history_calls.specs.CallLaws.Laws.{AreNumberedFrom, NewEdgesSuffice, NumberedByPlace, OpensUnlessFaultsShow}
use Rattle.elf_object.specs.Verdict.{object_verdict}
use Rattle.link_images.specs.ImageReads.Reads.{ArePrepared}
use Rattle.history_journal.specs.Following.{MayFollow, machine_of}
use Rattle.ld_base.specs.declared.fault.DlFault.{DlFault}
use Rattle.ld_base.specs.declared.fault.Shown.{Shown}
use Rattle.ld_base.specs.declared.linking.Choice.{Choice}
use Rattle.ld_base.specs.declared.linking.File.{File}
use Rattle.ld_base.specs.declared.linking.Loaded.{Loaded}
use Rattle.ld_base.specs.declared.object.Object.{Object}
use Rattle.ld_base.specs.declared.parts.HashTable.{HashTable}
use Rattle.history_event.specs.declared.event.Ask.TheVariants as asks
use Rattle.history_event.specs.declared.event.Event.{Event}
use Rattle.history_event.specs.declared.event.Event.TheVariants.{Open}
use Rattle.history_event.specs.declared.event.OpenAnswer.TheVariants.{Absent, Done}
use Rattle.history_event.specs.declared.event.OpenAsk.{OpenAsk}
use Rattle.history_event.specs.declared.event.Range.{Range}
use Rattle.history_event.specs.declared.handed.Function.{Function}
use Rattle.history_graph.specs.Initialised.{InitOrder, program_last}
use Rattle.history_state.specs.Accepted.{IsAccepted}
use Rattle.history_state.specs.After.{after}
use Rattle.history_state.specs.Allowed.{Allowed}
use Rattle.history_state.specs.Legal.{Lawful}
use Rattle.history_state.specs.Lemmas.Lists.{at_in}
use Rattle.history_state.specs.Links.{found_edges}
use Rattle.history_state.specs.Objects.{serial_of}
use Rattle.history_state.specs.Opening.{IsAbsent, IsRefused, Opens}
use Rattle.history_state.specs.Read.{WasRead}
use Rattle.history_state.specs.Setting.{Setting}
use Rattle.history_state.specs.State.{State}
use Rattle.link_calls.specs.LinkOpening.Planned.{IsOpenPlan}
use Rattle.link_calls.specs.declared.link_opening.planning.OpenPlan.{OpenPlan}
use Rattle.history_calls.specs.declared.link_served.installs.Installs.{Installs}
use Rattle.history_calls.specs.declared.link_served.served.Served.{Served}
use Rattle.history_calls.specs.declared.link_served.served.Served.TheVariants as served
use Rattle.history_calls.specs.Answer.{returns as returning}
use Rattle.history_calls.specs.Call.{Call, opens}
use Rattle.history_calls.specs.Functions.{AreConstructors, AreOf, constructors, object_of}
use Rattle.history_calls.specs.Gives.{by_event, is_absent, is_loaded, is_not_opened, is_there, to_again}
use Rattle.history_calls.specs.Served.{AreInstalls}
use Rattle.history_calls.specs.Waiting.{Waits, by_load}
use Rattle.link_state.specs.Table.{LinkTable, appended}
use Rattle.link_holds.specs.Events.{refusal}
use Rattle.history_calls.specs.LoadChoices.Choices.{choices_of}
use Rattle.link_images.specs.ObjectFunctions.Rooms.{AreInRow, CanReadAll}
use Rattle.link_open_images.specs.Relocated.{AreChoices}
use Rattle.link_open_plan.specs.Lemmas.Counts.{counts_none}
use Rattle.link_open_plan.specs.declared.planning.NewObjects.{NewObjects}
use Rattle.link_open_plan.specs.declared.planning.Planned.TheVariants as plans
use Rattle.scope_rule.specs.Seen.{Seen}
use Rattle.link_calls.specs.Opening.{MayPlan, OpensIn, OpensUnlessReadsFail, asked}
use Rattle.link_calls.proofs.Refused.{nothing_came, refused_so}

-- ---- what the events of an opening come to, in each of these runs

pub waits_so : (IsOf : Setting → Type 0) (past : List Event) (hart : ℕ) (ask : OpenAsk) (shown : Shown) → ((w : Setting) → IsOf w → Waits w (after past) hart ask shown)
    → Comes IsOf past past hart (opens ask) (served.Again shown)
waits_so IsOf past hart ask shown waits = record { given = []; are = sym (append-nil past); served = λ w of. to_again (opens ask) shown (by_load ask shown (waits w of)) }

absent_so : (IsOf : Setting → Type 0) (past : List Event) (hart : ℕ) (ask : OpenAsk) → ((w : Setting) → IsOf w → IsAbsent w (after past) hart ask)
    → Comes IsOf past (past ++ Open hart ask Absent ∷ []) hart (opens ask) (served.Done 0)
absent_so IsOf past hart ask may = record {
  given = Open hart ask Absent ∷ [];
  are = refl;
  served = λ w of. by_event (opens ask) (Open hart ask Absent) (returning 0) (is_absent ask) (may w of);
}

there_so : (IsOf : Setting → Type 0) (past : List Event) (hart id root : ℕ) (ask : OpenAsk) (ranges : List Range)
    → ((w : Setting) → IsOf w → Opens w (after past) hart ask id root [] ranges)
    → Comes IsOf past (past ++ Open hart ask (Done id root [] ranges) ∷ []) hart (opens ask) (served.Done root)
there_so IsOf past hart id root ask ranges may = record {
  given = Open hart ask (Done id root [] ranges) ∷ [];
  are = refl;
  served = λ w of. by_event (opens ask) (Open hart ask (Done id root [] ranges)) (returning root) (is_there ask id root ranges) (may w of);
}

loaded_so : (IsOf : Setting → Type 0) (past : List Event) (hart id root : ℕ) (ask : OpenAsk) (added : List Loaded) (ranges : List Range) (installs : Installs) (functions : List Function)
    → added ≢ [] → ((w : Setting) → IsOf w → Opens w (after past) hart ask id root added ranges)
    → AreInstalls (after (past ++ Open hart ask (Done id root added ranges) ∷ [])) added ranges installs
    → AreConstructors (after (past ++ Open hart ask (Done id root added ranges) ∷ [])) (map serial_of added) functions
    → Comes IsOf past (past ++ Open hart ask (Done id root added ranges) ∷ []) hart (opens ask) (served.Opened root installs functions)
loaded_so IsOf past hart id root ask [] ranges installs functions some may installed constructed = absurd (some refl)
loaded_so IsOf past hart id root ask (first ∷ rest) ranges installs functions some may installed constructed = record {
  given = Open hart ask (Done id root (first ∷ rest) ranges) ∷ [];
  are = refl;
  served = λ w of. record {
    ask = ask;
    id = id;
    added = first ∷ rest;
    ranges = ranges;
    is = refl;
    gives = by_event (opens ask) (Open hart ask (Done id root (first ∷ rest) ranges)) _ (is_loaded ask id root first rest ranges) (may w of);
    installed = installed;
    constructed = constructed;
  };
}

-- ---- the same, of the linker's state

pub absent_in : (old new : LinkTable) (IsOf : Setting → Type 0) (hart : ℕ) (ask : OpenAsk) → new ≡ appended old (Open hart ask Absent)
    → ((w : Setting) → IsOf w → IsAbsent w (after old.events) hart ask) → Comes IsOf old.events new.events hart (opens ask) (served.Done 0)
absent_in old new IsOf hart ask is may =
    subst (λ (t : LinkTable). Comes IsOf old.events t.events hart (opens ask) (served.Done 0)) (sym is) (absent_so IsOf old.events hart ask may)

pub there_in : (old new : LinkTable) (IsOf : Setting → Type 0) (hart id root : ℕ) (ask : OpenAsk) (ranges : List Range) → new ≡ appended old (Open hart ask (Done id root [] ranges))
    → ((w : Setting) → IsOf w → Opens w (after old.events) hart ask id root [] ranges) → Comes IsOf old.events new.events hart (opens ask) (served.Done root)
there_in old new IsOf hart id root ask ranges is may =
    subst (λ (t : LinkTable). Comes IsOf old.events t.events hart (opens ask) (served.Done root)) (sym is) (there_so IsOf old.events hart id root ask ranges may)

-- what is noted of an opening that loads nothing, if it is noted
pub absent_if : {E : Type 0} (r : Result Served E) (old new : LinkTable) (IsOf : Setting → Type 0) (hart : ℕ) (ask : OpenAsk) → IfOk r (λ came. came ≡ served.Done 0)
    → OnOk r (new ≡ appended old (Open hart ask Absent)) → ((w : Setting) → IsOf w → IsAbsent w (after old.events) hart ask)
    → IfOk r (λ came. Comes IsOf old.events new.events hart (opens ask) came)
absent_if (Ok came) old new IsOf hart ask returns noted may = subst (λ (c : Served). Comes IsOf old.events new.events hart (opens ask) c) (sym returns) (absent_in old new IsOf hart ask noted may)
absent_if (Err e) old new IsOf hart ask returns noted may = returns

pub there_if : {E : Type 0} (r : Result Served E) (old new : LinkTable) (IsOf : Setting → Type 0) (hart id root : ℕ) (ask : OpenAsk) → IfOk r (λ came. came ≡ served.Done root)
    → OnOk r (new ≡ appended old (Open hart ask (Done id root [] []))) → ((w : Setting) → IsOf w → Opens w (after old.events) hart ask id root [] [])
    → IfOk r (λ came. Comes IsOf old.events new.events hart (opens ask) came)
there_if (Ok came) old new IsOf hart id root ask returns noted may =
    subst (λ (c : Served). Comes IsOf old.events new.events hart (opens ask) c) (sym returns) (there_in old new IsOf hart id root ask [] noted may)
there_if (Err e) old new IsOf hart id root ask returns noted may = returns

-- a call that returns isn't refused
pub returned : {E : Type 0} (r : Result Served E) (value : ℕ) → IfOk r (λ came. came ≡ served.Done value) → IfOk r (λ came. refusal_of came ≡ None)
returned (Ok came) value returns = ap refusal_of returns
returned (Err e) value returns = returns

-- a load that brings nothing new
pub none_in_load : (old new : LinkTable) (IsOf : Setting → Type 0) (hart id root : ℕ) (ask : OpenAsk) (added : List Loaded) (ranges : List Range)
    → new ≡ appended old (Open hart ask (Done id root added ranges)) → added ≡ []
    → ((w : Setting) → IsOf w → Opens w (after old.events) hart ask id root added ranges) → Comes IsOf old.events new.events hart (opens ask) (served.Done root)
none_in_load old new IsOf hart id root ask [] ranges is none may = there_in old new IsOf hart id root ask ranges is may
none_in_load old new IsOf hart id root ask (o ∷ rest) ranges is none may = absurd cc

pub loaded_in : (old new : LinkTable) (IsOf : Setting → Type 0) (hart id root : ℕ) (ask : OpenAsk) (added : List Loaded) (ranges : List Range) (installs : Installs) (functions : List Function)
    → new ≡ appended old (Open hart ask (Done id root added ranges)) → added ≢ []
    → ((w : Setting) → IsOf w → Opens w (after old.events) hart ask id root added ranges)
    → AreInstalls (after new.events) added ranges installs → AreConstructors (after new.events) (map serial_of added) functions
    → Comes IsOf old.events new.events hart (opens ask) (served.Opened root installs functions)
loaded_in old new IsOf hart id root ask added ranges installs functions is some may installed constructed =
    let e : Event = Open hart ask (Done id root added ranges) in
    subst (λ (t : LinkTable). Comes IsOf old.events t.events hart (opens ask) (served.Opened root installs functions)) (sym is)
    (loaded_so IsOf old.events hart id root ask added ranges installs functions some may
    (subst (λ (t : LinkTable). AreInstalls (after t.events) added ranges installs) is installed)
    (subst (λ (t : LinkTable). AreConstructors (after t.events) (map serial_of added) functions) is constructed))

-- ---- what carrying out a plan asks for

pub may_be_absent : (harts : ℕ) (past : List Event) (hart : ℕ) (ask : OpenAsk) (id : ℕ) → MayPlan harts (after past) hart ask id plans.Absent
    → MayFollow harts past (Open hart ask Absent)
may_be_absent harts past hart ask id may = record { setting = may.setting; machine = may.machine; may = may.is }

pub may_be_there : (harts : ℕ) (past : List Event) (hart : ℕ) (ask : OpenAsk) (id root : ℕ) → MayPlan harts (after past) hart ask id (plans.There root)
    → MayFollow harts past (Open hart ask (Done id root [] []))
may_be_there harts past hart ask id root may = record { setting = may.setting; machine = may.machine; may = may.is }

pub may_be_loaded : (harts : ℕ) (past : List Event) (hart : ℕ) (ask : OpenAsk) (id : ℕ) (news : NewObjects) → MayPlan harts (after past) hart ask id (plans.New news)
    → MayFollow harts past (Open hart ask (Done id news.root news.added news.ranges))
may_be_loaded harts past hart ask id news may = record { setting = may.setting; machine = may.machine; may = may.is.opens }

-- nothing chooses nothing
pub none_choose : (ns : Seen) (now : Bool) → AreChoices ns now [] []
none_choose ns now = record { count = refl; each = λ k o at. absurd (let none : None ≡ Some o = at in cc) }

pub are_choices : (ns : Seen) (now : Bool) (added : List Loaded) (choices : List (List Choice)) → choices ≡ map (choices_of ns now) added → AreChoices ns now added choices
are_choices ns now added choices are = subst (AreChoices ns now added) (sym are) (record {
  count = length-map added (choices_of ns now);
  each = λ k o at. slice_get-map (choices_of ns now) added k ∙ ap (option_map (choices_of ns now)) at;
})

-- ---- what their constructors ask for

pub in_row : NumberedByPlace → (next : ℕ) (added : List Loaded) → AreNumberedFrom next added → AreInRow added
in_row by_place next added numbered = λ k first o begins at.
    let here : first.serial ≡ next + 0 = by_place next 0 added first numbered begins in
    let there : o.serial ≡ next + k = by_place next k added o numbered at in
    omega (arith, here, there)

-- the images are those of the objects, which were read
pub can_read : (harts : ℕ) (s : State) (added : List Loaded) (installs : Installs) → ArePrepared s added installs.images
    → ((o : Loaded) → Contains added o → WasRead (machine_of harts) o)
    → ((bytes : List ℕ) (program : Bool) (o : Object) (table : HashTable) → object_verdict bytes program ≡ Ok (o, table) → IsAccepted o) → CanReadAll added installs.images
can_read harts s added installs prepared read accepts = record {
  count = prepared.count;
  each = λ k o image at at_image.
      let was = read o (at_in added k o at) in
      record { accepted = accepts was.bytes was.program o.object o.table was.is; whole = (prepared.each k o image at at_image).is.relocated.all };
}

constructed : NewEdgesSuffice → (harts : ℕ) (w : Setting) (past : List Event) (hart id root : ℕ) (ask : OpenAsk) (added : List Loaded) (ranges : List Range) (order : List ℕ) (functions : List Function)
    → w.machine ≡ machine_of harts → Lawful (machine_of harts) past → Allowed w past (Open hart ask (Done id root added ranges))
    → InitOrder (flat_map found_edges added) (program_last (Some 1) (map serial_of added)) order → map object_of functions ≡ order
    → AreOf (after (past ++ Open hart ask (Done id root added ranges) ∷ [])) constructors functions
    → AreConstructors (after (past ++ Open hart ask (Done id root added ranges) ∷ [])) (map serial_of added) functions
constructed suffices harts w past hart id root ask added ranges order functions machine lawful may ordered are addresses = record {
  order = suffices (machine_of harts) w past hart id root ask added ranges (map object_of functions) machine lawful may
      (subst (InitOrder (flat_map found_edges added) (program_last (Some 1) (map serial_of added))) (sym are) ordered);
  addresses = addresses;
}

-- so they are the constructors of the state after the opening
pub constructed_in : NewEdgesSuffice → (old new : LinkTable) (w : Setting) (hart id root : ℕ) (ask : OpenAsk) (added : List Loaded) (ranges : List Range) (order : List ℕ) (functions : List Function)
    → new ≡ appended old (Open hart ask (Done id root added ranges)) → w.machine ≡ machine_of old.harts → Lawful (machine_of old.harts) old.events
    → Allowed w old.events (Open hart ask (Done id root added ranges)) → InitOrder (flat_map found_edges added) (program_last (Some 1) (map serial_of added)) order
    → map object_of functions ≡ order → AreOf (after new.events) constructors functions → AreConstructors (after new.events) (map serial_of added) functions
constructed_in suffices old new w hart id root ask added ranges order functions is machine lawful may ordered are addresses =
    subst (λ (t : LinkTable). AreConstructors (after t.events) (map serial_of added) functions) (sym is)
    (constructed suffices old.harts w old.events hart id root ask added ranges order functions machine lawful may ordered are
    (subst (λ (t : LinkTable). AreOf (after t.events) constructors functions) is addresses))

-- ---- what is asked for

-- of a name no more than 256 bytes are known
pub few_known : (ns : Option ℕ) (name : Option (List ℕ)) (flags : ℕ) (ask : OpenAsk) → ask ≡ asked ns name flags → (text : List ℕ) → ask.name ≡ Some text → length text ≤ 256
few_known ns None flags ask is text named = absurd (let none : None ≡ Some text = sym (ap (λ (a : OpenAsk). a.name) is) ∙ named in cc)
few_known ns (Some name) flags ask is text named =
    let some : Some (take 256 name) ≡ Some text = sym (ap (λ (a : OpenAsk). a.name) is) ∙ named in
    let same : take 256 name ≡ text = cc in
    let count : length text ≡ min 256 (length name) = sym (ap length same) ∙ length-take 256 name in
    omega (arith, count)

-- ---- what a plan says of each run with these folders and files, it says of one

abbrev given_to : ℕ → List (List ℕ) → Option (List File) → Setting
given_to harts folders files = record { machine = machine_of harts; folders = folders; preload = []; files = files }

pub may_plan : (harts : ℕ) (s : State) (hart : ℕ) (ask : OpenAsk) (plan : OpenPlan) (folders : List (List ℕ)) (files : Option (List File))
    → ((w : Setting) → IsOver (machine_of harts) folders files w → IsOpenPlan w s hart ask plan) → MayPlan harts s hart ask plan.ns plan.planned
may_plan harts s hart ask plan folders files planned = record {
  setting = given_to harts folders files;
  machine = refl;
  is = planned (given_to harts folders files) (record { machine = refl; folders_are = refl; files_are = refl });
}

pub may_refuse_open : (harts : ℕ) (past : List Event) (hart : ℕ) (ask : OpenAsk) (fault : DlFault) (folders : List (List ℕ)) (files : Option (List File))
    → ((w : Setting) → IsOver (machine_of harts) folders files w → IsRefused w (after past) hart ask fault) → MayFollow harts past (refusal hart (asks.Open ask) fault)
may_refuse_open harts past hart ask fault folders files refused = record {
  setting = given_to harts folders files;
  machine = refl;
  may = refused (given_to harts folders files) (record { machine = refl; folders_are = refl; files_are = refl });
}

-- ---- refusals

refused_open : (old new : LinkTable) (folders : List (List ℕ)) (files : Option (List File)) (hart : ℕ) (ask : OpenAsk) (fault : DlFault)
    → ((w : Setting) → IsOver (machine_of old.harts) folders files w → IsRefused w (after old.events) hart ask fault)
    → new ≡ appended old (refusal hart (asks.Open ask) fault) → OpensIn old folders files hart (opens ask) (served.Refused fault) new
refused_open old new folders files hart ask fault refuses noted =
    subst (λ (t : LinkTable). OpensIn old folders files hart (opens ask) (served.Refused fault) t) (sym noted)
    (refused_so (IsOver (machine_of old.harts) folders files) old.events hart (opens ask) (refusal hart (asks.Open ask) fault) fault (is_not_opened ask fault) refuses)

pub not_opened : {E : Type 0} (r : Result Served E) (old new : LinkTable) (folders : List (List ℕ)) (files : Option (List File)) (hart : ℕ) (ask : OpenAsk) (fault : DlFault)
    → ((w : Setting) → IsOver (machine_of old.harts) folders files w → IsRefused w (after old.events) hart ask fault) → IfOk r (λ came. came ≡ served.Refused fault)
    → OnOk r (new ≡ appended old (refusal hart (asks.Open ask) fault)) → IfOk r (λ came. OpensIn old folders files hart (opens ask) came new)
not_opened (Ok came) old new folders files hart ask fault refuses is noted =
    subst (λ (c : Served). OpensIn old folders files hart (opens ask) c new) (sym is) (refused_open old new folders files hart ask fault refuses noted)
not_opened (Err e) old new folders files hart ask fault refuses is noted = is

-- ---- what the library's counts show

pub unrefused_shows : {E : Type 0} (r : Result Served E) (Are : List ℕ → List (List ℕ) → Type 0) (failures failures' misses misses' : ℕ) → IfOk r (λ came. refusal_of came ≡ None)
    → IfOk r (λ came. ShowsInCounts Are (refusal_of came) failures failures' misses misses')
unrefused_shows (Ok came) Are failures failures' misses misses' none =
    subst (λ (f : Option DlFault). ShowsInCounts Are f failures failures' misses misses') (sym none) (counts_none Are failures failures' misses misses')
unrefused_shows (Err e) Are failures failures' misses misses' none = none

pub refused_shows : {E : Type 0} (r : Result Served E) (Are : List ℕ → List (List ℕ) → Type 0) (fault : DlFault) (failures failures' misses misses' : ℕ)
    → ShowsInCounts Are (Some fault) failures failures' misses misses' → IfOk r (λ came. came ≡ served.Refused fault)
    → IfOk r (λ came. ShowsInCounts Are (refusal_of came) failures failures' misses misses')
refused_shows (Ok came) Are fault failures failures' misses misses' shows is =
    subst (λ (c : Served). ShowsInCounts Are (refusal_of c) failures failures' misses misses') (sym is) shows
refused_shows (Err e) Are fault failures failures' misses misses' shows is = is

-- ---- at the call

-- for want of memory nothing is opened
pub unopened_none : (old new : LinkTable) (folders : List (List ℕ)) (files : Option (List File)) (hart : ℕ) (call : Call) → new ≡ old → OpensIn old folders files hart call served.Memory new
unopened_none old new folders files hart call is =
    subst (λ (t : LinkTable). OpensIn old folders files hart call served.Memory t) (sym is) (nothing_came (IsOver (machine_of old.harts) folders files) old.events hart call)

pub whole_of : OpensUnlessFaultsShow → (old new : LinkTable) (folders : List (List ℕ)) (files : Option (List File)) (hart : ℕ) (ask : OpenAsk) (came : Served) (failures failures' : ℕ)
    → OpensIn old folders files hart (opens ask) came new → FaultsShow (refusal_of came) failures failures' → OpensUnlessReadsFail old folders files failures failures' hart ask came
whole_of law old new folders files hart ask came failures failures' comes shows = λ told are unrisen.
    law (machine_of old.harts) folders told old.events comes.given hart ask came failures failures'
    (λ w over. comes.served w (record { machine = over.machine; folders_are = over.folders_are; files_are = over.files_are ∙ sym are })) shows unrisen
