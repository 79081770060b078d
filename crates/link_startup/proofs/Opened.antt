-- A run whose program is opened: what it has loaded, and how its harts start.
use Rattle.std.proofs.Common.{◌≡◌, ◌≢◌, ℕ, suc, ◌+◌, ◌<◌, List, [], ◌∷◌, ◌++◌, map, length, Option, Some, get_or, refl, sym, ap, subst, ◌∙◌, arith}
use Rattle.std.specs.List.{slice_get}
use Rattle.std.proofs.lemmas.Option.{slice_get-get_or}
use Rattle.history_calls.specs.CallLaws.Laws.{AreNumberedFrom}
use Rattle.link_images.specs.ImageReads.Reads.{ArePrepared, IsImageOf}
use Rattle.ld_base.specs.declared.linking.File.{File}
use Rattle.ld_base.specs.declared.linking.Loaded.{Loaded}
use Rattle.history_event.specs.declared.event.Event.{Event}
use Rattle.history_event.specs.declared.event.Event.TheVariants.{Open}
use Rattle.history_event.specs.declared.event.OpenAnswer.TheVariants.{Done}
use Rattle.history_event.specs.declared.event.OpenAsk.{OpenAsk}
use Rattle.history_event.specs.declared.event.Range.{Range}
use Rattle.history_event.specs.declared.handed.Function.{Function}
use Rattle.history_event.specs.declared.handed.HartEntry.{HartEntry}
use Rattle.history_state.specs.After.{after, after_from}
use Rattle.history_state.specs.Memory.{image_of}
use Rattle.history_state.specs.Objects.{serial_of}
use Rattle.history_state.specs.Read.{BeginsUntouched, IsUntouched}
use Rattle.history_state.specs.Setting.{Setting}
use Rattle.history_state.specs.State.{Linked, State}
use Rattle.history_state.specs.Step.{loaded}
use Rattle.history_calls.specs.declared.link_served.installs.Installs.{Installs}
use Rattle.history_calls.specs.declared.link_served.startup.Setup.{Setup}
use Rattle.history_calls.specs.Functions.{AreAddresses, AreConstructors, preceded, preinits}
use Rattle.history_calls.specs.Served.{AreInstalls}
use Rattle.history_calls.specs.Startup.{FindHarts, Starts, entries_from, opening, program_ask, program_entry}
use Rattle.link_state.specs.Opening.{ArePut}
use Rattle.link_state.specs.Table.{LinkTable, appended}
use Rattle.link_images.specs.ObjectFunctions.Rooms.{CanRead, CanReadAll}
use Rattle.link_open_plan.specs.Startup.{run_of}
use Rattle.link_open_plan.specs.declared.planning.NewObjects.{NewObjects}
use Rattle.scope_rule.specs.declared.namespace.Namespace.{Namespace}
use Rattle.seg_image.specs.declared.image.Image.{Image}
use Rattle.link_startup.specs.StartParts.Harts.{FoundAll}
use Rattle.link_startup.specs.StartParts.Loaded.{HasLoaded}
use Rattle.link_startup.specs.Bringing.{IsBrought}
use Rattle.link_startup.specs.Startup.{PlansStart}
use Rattle.link_startup.proofs.First.{first_serial, may_open, nothing_yet}

-- ---- the first opening brings objects

untouched_opens : (hart root : ℕ) (ask : OpenAsk) (ranges : List Range) → BeginsUntouched (after (Open hart ask (Done 0 root [] ranges) ∷ [])) → ⊥
unfolding loaded after_from
untouched_opens hart root ask ranges begun =
    let untouched : IsUntouched (after (Open hart ask (Done 0 root [] ranges) ∷ [])) = begun refl in
    let opens : map (λ (ns : Namespace). ns.opens) (after (Open hart ask (Done 0 root [] ranges) ∷ [])).namespaces ≡ [] ∷ [] = ap (map (λ (ns : Namespace). ns.opens)) untouched.namespaces in
    absurd cc

pub brings_some : (hart root : ℕ) (ask : OpenAsk) (added : List Loaded) (ranges : List Range) → BeginsUntouched (after (Open hart ask (Done 0 root added ranges) ∷ [])) → added ≢ []
brings_some hart root ask [] ranges begun = λ none. untouched_opens hart root ask ranges begun
brings_some hart root ask (o ∷ rest) ranges begun = λ none. absurd cc

-- ---- what has come of it

pub has_loaded : (hart root : ℕ) (ask : OpenAsk) (added : List Loaded) (ranges : List Range) (events : List Event) → events ≡ Open hart ask (Done 0 root added ranges) ∷ [] → HasLoaded events
has_loaded hart root ask added ranges events are = record {
  hart = hart;
  ask = ask;
  root = root;
  added = added;
  ranges = ranges;
  found = [];
  are = are;
  same = ap after are;
}

-- as many harts start as there are names, and the first one
found_are : (w : Setting) (past : List Event) (hart : ℕ) (names : List (List ℕ)) (found : List Event) (addresses : List ℕ) → FindHarts w past hart names found addresses
    → length addresses ≡ length names
found_are w past hart names found addresses (FindHarts.no_more p h) = refl
found_are w past hart names found addresses (FindHarts.one_more p h name rest serial index value events more finds further) = ap suc (found_are w _ (h + 1) rest events more further)

pub all_start : (w : Setting) (past events : List Event) (names : List (List ℕ)) (starts : List ℕ) → FoundAll past names starts events → length starts ≡ length names + 1
all_start w past events names starts all =
    let further = found_are w past 1 names all.further.found all.addresses (all.further.finds w) in
    let count : length starts ≡ suc (length all.addresses) = ap length all.first in
    omega (arith, further, count)

-- ---- the program is brought

pub opened_events : (setup : Setup) (news : NewObjects) (old new : LinkTable) (hart : ℕ) (ask : OpenAsk) → old.events ≡ [] → hart ≡ 0 → ask ≡ program_ask setup
    → new ≡ appended old (Open hart ask (Done 0 news.root news.added news.ranges)) → new.events ≡ opening setup news.root news.added news.ranges ∷ []
opened_events setup news old new hart ask none first asked is =
    ap (λ (t : LinkTable). t.events) is ∙ ap (λ (past : List Event). past ++ Open hart ask (Done 0 news.root news.added news.ranges) ∷ []) none
    ∙ ap (λ (h : ℕ). Open h ask (Done 0 news.root news.added news.ranges) ∷ []) first
    ∙ ap (λ (a : OpenAsk). Open 0 a (Done 0 news.root news.added news.ranges) ∷ []) asked

module _ (setup : Setup) (news : NewObjects) (events : List Event) (are : events ≡ opening setup news.root news.added news.ranges ∷ []) where
  pub some_new : BeginsUntouched (after events) → news.added ≢ []
  some_new begun = brings_some 0 news.root (program_ask setup) news.added news.ranges (subst (λ (es : List Event). BeginsUntouched (after es)) are begun)

  pub is_brought : (installs : Installs) → BeginsUntouched (after events) → AreNumberedFrom (after []).next news.added → ArePrepared (after events) news.added installs.images
      → CanReadAll news.added installs.images → IsBrought events installs
  unfolding has_loaded
  is_brought installs begun numbered prepared readable = by news.added refl
    where
      by : (added : List Loaded) → news.added ≡ added → IsBrought events installs
      by [] e = absurd (some_new begun e)
      by (program ∷ others) e = record {
        loaded = has_loaded 0 news.root (program_ask setup) news.added news.ranges events are;
        program = program;
        others = others;
        are = e;
        first = first_serial program others (subst (AreNumberedFrom 1) e (subst (λ (s : State). AreNumberedFrom s.next news.added) (nothing_yet [] refl) numbered));
        prepared = prepared;
        readable = readable;
      }

-- ---- the first of its objects, and the first image

module _ (events : List Event) (installs : Installs) (b : IsBrought events installs) (objects : List Loaded) (o : Loaded) (images : List Image) (image : Image)
    (all : objects ≡ b.loaded.added) (same : images ≡ installs.images) (at : o ≡ get_or objects 0 o) (at_image : image ≡ get_or images 0 image) where
  its_program : o ≡ b.program
  its_program = at ∙ ap (λ (os : List Loaded). get_or os 0 o) (all ∙ b.are)

  stands : slice_get b.loaded.added 0 ≡ Some o
  stands = ap (λ (os : List Loaded). slice_get os 0) b.are ∙ ap (λ (p : Loaded). Some p) (sym its_program)

  image_stands : slice_get installs.images 0 ≡ Some image
  image_stands =
      let count : length installs.images ≡ length b.loaded.added = b.prepared.count in
      let more : length b.loaded.added ≡ length (b.program ∷ b.others) = ap length b.are in
      let some : 0 < length installs.images = omega (arith, count, more) in
      slice_get-get_or installs.images 0 image some ∙ ap (λ (i : Image). Some i) (ap (λ (is : List Image). get_or is 0 image) (sym same) ∙ sym at_image)

  pub can_read_it : CanRead o image
  can_read_it = b.readable.each 0 o image stands image_stands

  pub addresses_are : (addresses : List ℕ) → ((m : Linked) → IsImageOf m o.object o.base image → addresses ≡ preinits m) → AreAddresses preinits addresses (image_of (after events) 1)
  addresses_are addresses are =
      let prepared = b.prepared.each 0 o image stands image_stands in
      let first : 1 ≡ o.serial = sym (ap serial_of its_program ∙ b.first) in
      subst (AreAddresses preinits addresses) (sym (ap (image_of (after events)) first ∙ prepared.found)) (are prepared.linked prepared.is)

-- ---- the run has started

module _ (setup : Setup) (files : Option (List File)) (news : NewObjects) (plan : PlansStart setup files news) (past : List Event)
    (are : past ≡ opening setup news.root news.added news.ranges ∷ []) where
  pub starts_so : (installs : Installs) (plain functions : List Function) (before starts : List ℕ) (entries : List HartEntry) (events : List Event) → ArePut (after past) news.added news.ranges installs
      → AreConstructors (after past) (map serial_of news.added) plain → AreAddresses preinits before (image_of (after past) 1) → functions ≡ preceded before plain
      → FoundAll past setup.harts starts events → entries ≡ entries_from (after events) 0 starts
      → Starts (run_of setup files) setup events (record { installs = installs; functions = functions; entries = entries })
  starts_so installs plain functions before starts entries events put constructed program with_them found given = record {
    set_up = refl;
    root = news.root;
    added = news.added;
    ranges = news.ranges;
    opens = may_open setup files news plan;
    found = found.further.found;
    addresses = found.addresses;
    finds = subst (λ (es : List Event). FindHarts (run_of setup files) es 1 setup.harts found.further.found found.addresses) are (found.further.finds (run_of setup files));
    are = found.further.are ∙ ap (λ (es : List Event). es ++ found.further.found) are;
    installed = subst (λ (s : State). AreInstalls s news.added news.ranges installs) (sym found.same) put.installed;
    constructed = record {
      plain = plain;
      are = subst (λ (s : State). AreConstructors s (map serial_of news.added) plain) (sym found.same) constructed;
      before = before;
      program = subst (λ (s : State). AreAddresses preinits before (image_of s 1)) (sym found.same) program;
      is = with_them;
    };
    entries = given ∙ ap (entries_from (after events) 0) (found.first ∙ ap (λ (s : State). program_entry s ∷ found.addresses) (sym found.same));
  }
