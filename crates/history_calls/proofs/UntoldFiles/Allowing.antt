-- An event that may come over told files may come over untold ones.
use Rattle.std.proofs.Common.{◌⊎◌, inl, inr, ℕ, Bool, true, false, ◌&&◌, List, Option, Some, None}
use Rattle.std.specs.Str.{bytes_eq}
use Rattle.ld_base.specs.declared.fault.DlFault.{DlFault}
use Rattle.ld_base.specs.declared.linking.Loaded.{Loaded}
use Rattle.history_event.specs.declared.event.Event.{Event}
use Rattle.history_event.specs.declared.event.Event.TheVariants as events
use Rattle.history_event.specs.declared.event.OpenAnswer.{OpenAnswer}
use Rattle.history_event.specs.declared.event.OpenAnswer.TheVariants as opens
use Rattle.history_event.specs.declared.event.OpenAsk.{OpenAsk}
use Rattle.history_event.specs.declared.event.Range.{Range}
use Rattle.scope_rule.specs.Finding.{Reading, here, unaccepted, absent, failed}
use Rattle.history_state.specs.After.{after}
use Rattle.history_state.specs.Allowed.{Allowed, AllowedIn, AtTheEnd, ByClosing}
use Rattle.history_state.specs.Flags.{is_noload}
use Rattle.history_state.specs.Objects.{is_startup}
use Rattle.history_state.specs.Opening.{ArePlaced, Finds, IsNowhere, MayOpen, OpensName, Refuses, name_too_long, bad_flags, bad_namespace, namespaces_full, stopped, lacks_version, has_no_pages, unrelocated}
use Rattle.history_state.specs.Setting.{MayRead, Readings, ReadingsBy, Setting}
use Rattle.history_state.specs.State.{State}
use Rattle.history_calls.specs.UntoldFiles.Untold.{untold}

-- ---- readings

may_read : (w : Setting) (program : Bool) (path : List ℕ) (r : Reading) → MayRead w program path r → MayRead (untold w) program path r
may_read w program path (here o table) (bytes, held, is) = (bytes, tt, is)
may_read w program path (unaccepted broken) (bytes, held, is) = (bytes, tt, is)
may_read w program path absent held = tt
may_read w program path failed held = tt

readings_by : (noload : Bool) (w : Setting) (s : State) (name : List ℕ) (reading : List ℕ → Reading) → ReadingsBy noload w s name reading
    → ReadingsBy noload (untold w) s name reading
readings_by true w s name reading read = read
readings_by false w s name reading read = λ path. may_read w (is_startup s && bytes_eq name path) path (reading path) (read path)

pub readings : (w : Setting) (s : State) (ask : OpenAsk) (name : List ℕ) (reading : List ℕ → Reading) → Readings w s ask name reading
    → Readings (untold w) s ask name reading
readings w s ask name reading read = readings_by (is_noload ask.flags) w s name reading read

-- ---- the stages of an opening

finds : (w : Setting) (s : State) (hart : ℕ) (ask : OpenAsk) (name : List ℕ) (id root : ℕ) (news : List Loaded) → Finds w s hart ask name id root news
    → Finds (untold w) s hart ask name id root news
finds w s hart ask name id root news f = record {
  reading = f.reading;
  read = readings w s ask name f.reading f.read;
  walk = f.walk;
  brings = f.brings;
  root_is = f.root_is;
  are = f.are;
}

placed : (w : Setting) (s : State) (added : List Loaded) (ranges : List Range) → ArePlaced w s added ranges → ArePlaced (untold w) s added ranges
placed w s added ranges p = record { left = p.left; given = p.given; based = p.based }

opens_name : (w : Setting) (s : State) (hart : ℕ) (ask : OpenAsk) (name : Option (List ℕ)) (id root : ℕ) (added : List Loaded) (ranges : List Range)
    → OpensName w s hart ask name id root added ranges → OpensName (untold w) s hart ask name id root added ranges
opens_name w s hart ask (Some name) id root added ranges l = record {
  news = l.news;
  finds = finds w s hart ask name id root l.news l.finds;
  versions = l.versions;
  storage = l.storage;
  placed = placed w s added ranges l.placed;
  relocated = l.relocated;
}
opens_name w s hart ask None id root added ranges p = p

-- ---- absence and refusals

somewhere : (w : Setting) (s : State) (hart : ℕ) (ask : OpenAsk) (name : List ℕ) (id : ℕ) → ¬ (IsNowhere w s hart ask name id)
    → ¬ (IsNowhere (untold w) s hart ask name id)
somewhere w s hart ask name id loads n = loads (record { noload = n.noload; none = n.none })

refuses : (w : Setting) (s : State) (hart : ℕ) (ask : OpenAsk) (fault : DlFault) → Refuses w s hart ask fault → Refuses (untold w) s hart ask fault
refuses w s hart ask fault (name_too_long name named long asks) = name_too_long name named long asks
refuses w s hart ask fault (bad_flags short bad) = bad_flags short bad
refuses w s hart ask fault (bad_namespace number short flags bad) = bad_namespace number short flags bad
refuses w s hart ask fault (namespaces_full short flags full) = namespaces_full short flags full
refuses w s hart ask fault (stopped name id _ is) = stopped name id fault (record {
  named = is.named;
  reading = is.reading;
  read = readings w s ask name is.reading is.read;
  loads = somewhere w s hart ask name id is.loads;
  stops = is.stops;
})
refuses w s hart ask fault (lacks_version name id _ is) = lacks_version name id fault (record {
  named = is.named;
  root = is.root;
  news = is.news;
  finds = finds w s hart ask name id is.root is.news is.finds;
  lacks = is.lacks;
})
refuses w s hart ask fault (has_no_pages name id pages is) = has_no_pages name id pages (record {
  named = is.named;
  root = is.root;
  news = is.news;
  finds = finds w s hart ask name id is.root is.news is.finds;
  versions = is.versions;
  added = is.added;
  storage = is.storage;
  lacks = is.lacks;
})
refuses w s hart ask fault (unrelocated name id _ is) = unrelocated name id fault (record {
  named = is.named;
  root = is.root;
  news = is.news;
  finds = finds w s hart ask name id is.root is.news is.finds;
  versions = is.versions;
  added = is.added;
  storage = is.storage;
  ranges = is.ranges;
  placed = placed w s is.added is.ranges is.placed;
  is = is.is;
})

-- ---- events

may_open : (w : Setting) (s : State) (hart : ℕ) (ask : OpenAsk) (answer : OpenAnswer) → MayOpen w s hart ask answer → MayOpen (untold w) s hart ask answer
may_open w s hart ask (opens.Done id root added ranges) o =
    record { may = o.may; asked = o.asked; name = opens_name w s hart ask ask.name id root added ranges o.name }
may_open w s hart ask opens.Absent o = record {
  may = o.may;
  id = o.id;
  asked = o.asked;
  name = o.name;
  named = o.named;
  nowhere = record { noload = o.nowhere.noload; none = o.nowhere.none };
}
may_open w s hart ask (opens.Refused fault) o = record { may = o.may; refuses = refuses w s hart ask fault o.refuses }

may_finalise : (w : Setting) (past : List Event) (s : State) (hart object : ℕ) → ByClosing s hart object ⊎ AtTheEnd w past s hart object
    → ByClosing s hart object ⊎ AtTheEnd (untold w) past s hart object
may_finalise w past s hart object (inl by) = inl by
may_finalise w past s hart object (inr at) = inr (record {
  first_hart = at.first_hart;
  mapped = at.mapped;
  initialised = at.initialised;
  unfinished = at.unfinished;
  was = record { before = at.was.before; since = at.was.since; are = at.was.are; over = at.was.over; next = at.was.next };
})

allowed_in : (w : Setting) (past : List Event) (s : State) (e : Event) → AllowedIn w past s e → AllowedIn (untold w) past s e
allowed_in w past s (events.Open hart ask answer) may = may_open w s hart ask answer may
allowed_in w past s (events.Close hart handle answer) may = may
allowed_in w past s (events.Unmapped hart set) may = may
allowed_in w past s (events.Grant number hart owner slot choice value) may = may
allowed_in w past s (events.Bound number) may = may
allowed_in w past s (events.Lost number saw) may = may
allowed_in w past s (events.Unresolved hart owner slot choice) may = may
allowed_in w past s (events.Sym hart ask answer) may = may
allowed_in w past s (events.Tls hart owner address) may = may
allowed_in w past s (events.Init hart object) may = may
allowed_in w past s (events.Fini hart object) may = may_finalise w past s hart object may
allowed_in w past s (events.Wrote hart bytes) may = may
allowed_in w past s (events.Told hart fault) may = may
allowed_in w past s (events.Ended hart reason) may = may

pub allowed : (w : Setting) (past : List Event) (e : Event) → Allowed w past e → Allowed (untold w) past e
allowed w past e may = allowed_in w past (after past) e may
