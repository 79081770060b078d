-- A name's run is the run that it names.
use Rattle.std.proofs.Common.{◌≡◌, List, drop, length, Some, Ok, sym, subst}
use Rattle.std.specs.List.{slice_get}
use Rattle.history_event.specs.declared.event.Event.{Event}
use Rattle.history_event.specs.declared.handed.HartEntry.{HartEntry}
use Rattle.history_calls.specs.declared.link_served.startup.Setup.{Setup}
use Rattle.history_calls.specs.declared.link_served.startup.Started.{Started}
use Rattle.history_calls.specs.Startup.{Starts}
use Rattle.history_state.specs.Setting.{Setting}
use Rattle.hart_moves.specs.Harts.{HartState}
use Rattle.tls_blocks.specs.Blocks.{BlockTable}
use Rattle.word_rule.specs.declared.view.HartView.{HartView}
use Rattle.word_rule.specs.Views.{BeginsWith}
use Rattle.world_answers.specs.GuestsPart.Counting.{Rise}
use Rattle.world_threads.specs.Running.{ComesOf, IsNamed, SetsOff}
use Rattle.world_threads.specs.Setting.{AreSetOff}
use Rattle.world_threads.specs.Threaded.{IsThreaded}
use Rattle.world_threads.specs.declared.run.Ran.{Ran}
use Rattle.world_turns.specs.Counts.{Counts, ShowInCounts}

module _ (named : Setting) (begun : List Event) (counts : Counts) (w : Setting) (events : List Event) (first : Counts) (is : IsNamed named begun counts w events first) where
  pub starts_named : (setup : Setup) (started : Started) → Starts w setup events started → Starts named setup begun started
  starts_named setup started starts =
      subst (λ (v : Setting). Starts v setup begun started) (sym is.setting_is) (subst (λ (es : List Event). Starts w setup es started) (sym is.journal_is) starts)

  pub set_off : (setup : Setup) (started : Started) (entry : HartEntry) (seats : List HartView) (harts : List HartState) (blocks : List BlockTable)
      → Starts w setup events started → slice_get started.entries 0 ≡ Some entry → AreSetOff events setup.fuel started.functions started.entries seats harts blocks
      → SetsOff named setup begun started entry seats harts blocks
  set_off setup started entry seats harts blocks starts at are = record {
    starts = starts_named setup started starts;
    entry_is = at;
    are = subst (λ (es : List Event). AreSetOff es setup.fuel started.functions started.entries seats harts blocks) (sym is.journal_is) are;
  }

  pub comes : (setup : Setup) (ran : Ran) (last : Counts) → IsThreaded named setup ran.left ran.trails → BeginsWith ran.left.journal.events begun
      → ShowInCounts named.folders (drop (length begun) ran.left.journal.events) counts last → Rise counts last → ComesOf w setup events first (Ok ran) last
  comes setup ran last threaded begins shown rise = (
    subst (λ (v : Setting). IsThreaded v setup ran.left ran.trails) is.setting_is threaded,
    subst (BeginsWith ran.left.journal.events) is.journal_is begins,
    subst (λ (v : Setting). ShowInCounts v.folders (drop (length events) ran.left.journal.events) first last) is.setting_is
        (subst (λ (es : List Event). ShowInCounts named.folders (drop (length es) ran.left.journal.events) first last) is.journal_is
        (subst (λ (c : Counts). ShowInCounts named.folders (drop (length begun) ran.left.journal.events) c last) is.counts_are shown)),
    subst (λ (c : Counts). Rise c last) is.counts_are rise,
  )
