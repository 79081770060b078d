-- What a call gives over told files, and how a run starts, it gives and starts over untold ones.
use Rattle.std.proofs.Common.{ℕ, ◌+◌, List, [], ◌∷◌, ◌++◌, ap}
use Rattle.ld_base.specs.declared.fault.Shown.{Shown}
use Rattle.history_event.specs.declared.event.Event.{Event}
use Rattle.history_calls.specs.declared.link_served.startup.Setup.{Setup}
use Rattle.history_calls.specs.declared.link_served.startup.Started.{Started}
use Rattle.history_state.specs.After.{after}
use Rattle.history_state.specs.Setting.{Setting}
use Rattle.history_state.specs.State.{State}
use Rattle.history_calls.specs.Answer.{Answer}
use Rattle.history_calls.specs.Call.{Call}
use Rattle.history_calls.specs.Gives.{Gives, Serves, by_event, by_first_block, in_new_block, in_block, to_again, to_end}
use Rattle.history_calls.specs.Startup.{FindHarts, Starts, no_more, one_more, found_at, opening}
use Rattle.history_calls.specs.Waiting.{Shows, by_load, by_grant}
use Rattle.history_calls.specs.UntoldFiles.Untold.{untold}
use Rattle.history_calls.proofs.UntoldFiles.Allowing.{allowed, readings}

shows : (w : Setting) (s : State) (h : ℕ) (call : Call) (for : Shown) → Shows w s h call for → Shows (untold w) s h call for
shows w s h call for (by_load ask _ waits) = by_load ask for (record {
  name = waits.name;
  id = waits.id;
  named = waits.named;
  reading = waits.reading;
  read = readings w s ask waits.name waits.reading waits.read;
  stops = waits.stops;
})
shows w s h call for (by_grant set number finished held) = by_grant set number finished held

gives : (w : Setting) (past : List Event) (h : ℕ) (call : Call) (given : List Event) (answer : Answer) → Gives w past h call given answer
    → Gives (untold w) past h call given answer
gives w past h call given answer (by_event _ e _ is may) = by_event call e answer is (allowed w past e may)
gives w past h call given answer (by_first_block ask e f value finds) = by_first_block ask e f value (record {
  serial = finds.serial;
  index = finds.index;
  block = finds.block;
  storage = finds.storage;
  gets = finds.gets;
  finds = finds.finds;
  may_get = allowed w past e finds.may_get;
  may_find = allowed w (past ++ e ∷ []) f finds.may_find;
})
gives w past h call given answer (in_new_block number offset block e gets) = in_new_block number offset block e (record {
  of = gets.of;
  there = gets.there;
  is = gets.is;
  may = allowed w past e gets.may;
})
gives w past h call given answer (in_block number offset block has) = in_block number offset block has
gives w past h call given answer (to_again _ for for_this) = to_again call for (shows w (after past) h call for for_this)
gives w past h call given answer (to_end _ reason ends) = to_end call reason ends

pub serves : (w : Setting) (past : List Event) (h : ℕ) (call : Call) (appended : List Event) (answer : Answer) → Serves w past h call appended answer
    → Serves (untold w) past h call appended answer
serves w past h call appended answer s =
    record { given = s.given; gives = gives w past h call s.given answer s.gives; may_end = s.may_end; are = s.are }

-- ---- startup

find_harts : (w : Setting) (past : List Event) (h : ℕ) (names : List (List ℕ)) (events : List Event) (addresses : List ℕ)
    → FindHarts w past h names events addresses → FindHarts (untold w) past h names events addresses
find_harts w past h names events addresses (no_more _ _) = no_more past h
find_harts w past h names events addresses (one_more _ _ name rest serial index value behind others start further) =
    one_more past h name rest serial index value behind others (record { may = allowed w past (found_at h name serial index value) start.may; code = start.code })
    (find_harts w (past ++ found_at h name serial index value ∷ []) (h + 1) rest behind others further)

pub starts : (w : Setting) (setup : Setup) (journal : List Event) (started : Started) → Starts w setup journal started
    → Starts (untold w) setup journal started
starts w setup journal started s = record {
  set_up = ap untold s.set_up;
  root = s.root;
  added = s.added;
  ranges = s.ranges;
  opens = allowed w [] (opening setup s.root s.added s.ranges) s.opens;
  found = s.found;
  addresses = s.addresses;
  finds = find_harts w (opening setup s.root s.added s.ranges ∷ []) 1 setup.harts s.found s.addresses s.finds;
  are = s.are;
  installed = s.installed;
  constructed = s.constructed;
  entries = s.entries;
}
