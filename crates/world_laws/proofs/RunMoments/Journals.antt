-- What is true of each legal journal.
use Rattle.std.proofs.Common.{List}
use Rattle.history_event.specs.declared.event.Event.{Event}
use Rattle.history_state.specs.Accepted.{AcceptsOnly}
use Rattle.history_state.specs.After.{after}
use Rattle.history_state.specs.Laws.{BlocksAreApart, GrantsAreHeld, ImagesAreMapped, LoadsEnterCode, SlotsBegin, SlotsEnterCode, SlotsLeadToRx}
use Rattle.history_state.specs.Legal.{Lawful, Legal}
use Rattle.history_state.specs.Setting.{Machine, Setting}
use Rattle.history_state.specs.Lemmas.Brought.{LoadLaws}
use Rattle.history_state.specs.Lemmas.History.{legal_is_lawful}
use Rattle.history_state.specs.Lemmas.Lazy.{PageLaws}
use Rattle.history_state.specs.Lemmas.LoadWords.{grant_word, load_word}
use Rattle.history_state.specs.Lemmas.Map.{Mapped}
use Rattle.world_laws.specs.RunMoments.Laws.{JournalsAreTrue}
use Rattle.world_laws.specs.RunMoments.OfJournal.{ChoicesAreTrue, HistoryIsTrue, JournalIsTrue, StorageIsTrue}
use Rattle.world_laws.proofs.RunMoments.Chosen.{was_chosen, was_granted}
use Rattle.world_laws.proofs.RunMoments.Closed.{was_closed}
use Rattle.world_laws.proofs.RunMoments.Entered.{chosen_code, enters_at_load, enters_lazy}
use Rattle.world_laws.proofs.RunMoments.Own.{finds_own}

pub record JournalLaws (m : Machine) : Type 0 where
  pub pages : PageLaws
  pub load : LoadLaws
  pub mapped : (journal : List Event) → Lawful m journal → Mapped (after journal)
  pub images : (journal : List Event) → Lawful m journal → ImagesAreMapped (after journal)
  pub begins : (journal : List Event) → Lawful m journal → SlotsBegin (after journal)
  pub held : (journal : List Event) → Lawful m journal → GrantsAreHeld (after journal)
  pub grants : (journal : List Event) → Lawful m journal → SlotsEnterCode (after journal)
  pub loads : (journal : List Event) → Lawful m journal → LoadsEnterCode (after journal)
  pub leads : (journal : List Event) → Lawful m journal → SlotsLeadToRx (after journal)
  pub apart : (journal : List Event) → Lawful m journal → BlocksAreApart m (after journal)

module _ (w : Setting) (laws : JournalLaws w.machine) where
  history_true : (journal : List Event) → Legal w journal → HistoryIsTrue w journal
  history_true journal legal =
      let lawful = legal_is_lawful w journal legal in
      let begins = laws.begins journal lawful in
      record {
        legal = legal;
        mapped = laws.images journal lawful;
        first_words = record {
          at_load = λ i slot value r there at got. begins.at_load i slot value r there at got (load_word w.machine journal lawful i.serial slot value got);
          lazy = begins.lazy;
        };
      }

  choices_true : (journal : List Event) → Legal w journal → ChoicesAreTrue journal
  choices_true journal legal =
      let lawful = legal_is_lawful w journal legal in
      let m = laws.mapped journal lawful in
      let images = laws.images journal lawful in
      record {
        granted = was_granted w journal legal;
        chosen = was_chosen w journal legal;
        held = laws.held journal lawful;
        enter = λ g there kept home.
            chosen_code laws.pages (after journal) m images g.choice g.value
            (grant_word laws.load w.machine journal lawful g there)
            (laws.grants journal lawful g there kept home);
        enter_at_load = λ i slot value there got.
            enters_at_load laws.pages (after journal) m images (laws.loads journal lawful) i slot value there got
            (load_word w.machine journal lawful i.serial slot value got);
        enter_lazy = enters_lazy laws.pages (after journal) m images (laws.leads journal lawful);
      }

  storage_true : (journal : List Event) → Legal w journal → StorageIsTrue w journal
  storage_true journal legal = record { blocks = laws.apart journal (legal_is_lawful w journal legal); finds = finds_own w journal legal }

  journal_true : (journal : List Event) → Legal w journal → JournalIsTrue w journal
  journal_true journal legal = record {
    history = history_true journal legal;
    choices = choices_true journal legal;
    storage = storage_true journal legal;
    closings = was_closed w journal legal;
  }

pub journals_true : ((m : Machine) → AcceptsOnly m → JournalLaws m) → JournalsAreTrue
journals_true laws w journal only legal = journal_true w (laws w.machine only) journal legal
