-- Each event of a legal journal has a line.
use Rattle.std.proofs.Common.{◌≡◌, ℕ, true, false, List, take, get_or, IsTrue}
use Rattle.std.specs.Prelude.{All}
use Rattle.std.proofs.lemmas.Bool.{false≢true}
use Rattle.std.proofs.lemmas.Option.{slice_get-get_or}
use Rattle.ld_base.specs.declared.linking.Choice.{Choice}
use Rattle.ld_base.specs.declared.linking.Choice.TheVariants.{Def, WeakZero, Missing}
use Rattle.history_event.specs.declared.event.Event.{Event}
use Rattle.history_event.specs.declared.event.Event.TheVariants.{Grant, Unresolved}
use Rattle.history_state.specs.Addresses.{address, leads_to_code}
use Rattle.history_state.specs.After.{after}
use Rattle.history_state.specs.Allowed.{Allowed}
use Rattle.history_state.specs.Legal.{Lawful, Legal}
use Rattle.history_state.specs.Setting.{Machine, Setting}
use Rattle.history_state.specs.Slots.{lazy_of}
use Rattle.history_state.specs.State.{State}
use Rattle.trace_text.specs.Lines.{IsSayable}

grants : (s : State) (lazy number hart owner slot : ℕ) (choice : Choice) (value : ℕ) → IsTrue (leads_to_code s lazy choice) → value ≡ address s choice
    → IsSayable (Grant number hart owner slot choice value)
unfolding leads_to_code address
grants s lazy number hart owner slot (Def serial index) value code is = tt
grants s lazy number hart owner slot WeakZero value code is = is
grants s lazy number hart owner slot Missing value code is = false≢true code

refuses : (s : State) (lazy hart owner slot : ℕ) (choice : Choice) → leads_to_code s lazy choice ≡ false → IsSayable (Unresolved hart owner slot choice)
unfolding leads_to_code
refuses s lazy hart owner slot (Def serial index) code = tt
refuses s lazy hart owner slot WeakZero code = let no : true ≡ false = code in cc
refuses s lazy hart owner slot Missing code = tt

pub sayable : (w : Setting) (past : List Event) (e : Event) → Allowed w past e → IsSayable e
sayable w past (Grant number hart owner slot choice value) may =
    grants (after past) (lazy_of may.may.is_slot) number hart owner slot choice value may.may.code may.is
sayable w past (Unresolved hart owner slot choice) may = refuses (after past) (lazy_of may.may_not.is_slot) hart owner slot choice may.may_not.code
sayable w past other may = tt

pub legal_sayable : (w : Setting) (journal : List Event) → Legal w journal → All IsSayable journal
unfolding Legal
legal_sayable w journal legal k d lt = sayable w (take k journal) (get_or journal k d) (legal k (get_or journal k d) (slice_get-get_or journal k d lt))

pub lawful_sayable : (m : Machine) (journal : List Event) → Lawful m journal → All IsSayable journal
unfolding Lawful
lawful_sayable m journal lawful k d lt =
    let may = lawful k (get_or journal k d) (slice_get-get_or journal k d lt) in
    sayable may.0 (take k journal) (get_or journal k d) may.2
