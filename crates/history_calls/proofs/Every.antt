-- Each call that a hart may make has an answer.
use Rattle.std.proofs.Common.{◌≡◌, ℕ, false, List, [], ◌∷◌, length, refl}
use Rattle.history_event.specs.declared.event.Event.{Event}
use Rattle.history_event.specs.declared.event.Event.TheVariants as events
use Rattle.history_event.specs.declared.hart_end.HartEnd.{HartEnd}
use Rattle.history_event.specs.declared.hart_end.HartEnd.TheVariants as ends
use Rattle.std.specs.Prelude.{IsTrue}
use Rattle.history_state.specs.Accepted.{AcceptsOnly}
use Rattle.history_state.specs.After.{after}
use Rattle.history_state.specs.Allowed.{kept_for}
use Rattle.history_state.specs.Laws.{AreApart, ModulesAreTidy}
use Rattle.history_state.specs.Legal.{Lawful}
use Rattle.history_state.specs.Lookup.{SymbolsAreStored}
use Rattle.history_state.specs.Setting.{Machine, Setting}
use Rattle.history_state.specs.Lemmas.Accepting.{ReadLaw}
use Rattle.history_state.specs.Lemmas.Alone.{apart}
use Rattle.history_state.specs.Lemmas.Brought.{LoadLaws}
use Rattle.history_state.specs.Lemmas.Defined.{symbols_stored}
use Rattle.history_state.specs.Lemmas.Moduled.{NumberLaws}
use Rattle.history_state.specs.Lemmas.Offsets.{modules_tidy}
use Rattle.history_calls.specs.Answer.{over, returns, told}
use Rattle.history_calls.specs.Call.{Call, resolves, opens, looks_up, closes, unmaps, asks_fault, locates, writes, stops}
use Rattle.history_calls.specs.Complete.{HasAnswer, MayMake}
use Rattle.history_calls.specs.Ends.{is_own_end}
use Rattle.history_calls.specs.Ends.EndsAs.{asked}
use Rattle.history_calls.specs.Laws.{is_memory}
use Rattle.history_calls.specs.Gives.EventAnswers.{is_told, is_written}
use Rattle.history_calls.specs.Gives.Gives.{by_event, to_end}
use Rattle.history_calls.proofs.Answered.{closes_answered, locates_answered, resolves_answered, unmaps_answered}
use Rattle.history_calls.proofs.Looked.{looks_up_answered}
use Rattle.history_calls.proofs.OpenAnswered.{opens_answered}

own_ample : (reason : HartEnd) → IsTrue (is_own_end reason) → is_memory reason ≡ false
own_ample (ends.Exit code) own = refl
own_ample ends.FuelOut own = refl
own_ample (ends.NotMapped pc address) own = refl
own_ample (ends.SlotStore pc address) own = refl
own_ample (ends.BadInstruction pc word) own = refl
own_ample (ends.Misaligned pc address) own = refl
own_ample (ends.Break pc) own = refl
own_ample (ends.BadModule number) own = refl
own_ample (ends.Unloaded owner) own = refl
own_ample (ends.NoSlot owner eights) own = refl
own_ample (ends.Unresolved owner slot) own = refl
own_ample (ends.NotCode owner slot) own = refl
own_ample (ends.AddressSpaceFull pages) own = refl
own_ample ends.Memory own = absurd (cc)

answered : LoadLaws → (m : Machine) (w : Setting) (past : List Event) (h : ℕ) (call : Call) → Lawful m past → AreApart (after past) → ModulesAreTidy (after past) → SymbolsAreStored (after past) → MayMake w (after past) h call → HasAnswer w past h call
answered laws m w past h (resolves owner eights) lawful alone tidy symbols may = resolves_answered w past h owner eights may
answered laws m w past h (opens ask) lawful alone tidy symbols may = opens_answered laws m w past h ask lawful may
answered laws m w past h (looks_up ask) lawful alone tidy symbols may = looks_up_answered w past h ask symbols may
answered laws m w past h (closes handle) lawful alone tidy symbols may = closes_answered w past h handle
answered laws m w past h (unmaps set) lawful alone tidy symbols may = unmaps_answered w past h set may
answered laws m w past h asks_fault lawful alone tidy symbols may = record {
  given = events.Told h (kept_for (after past) h) ∷ [];
  answer = told (kept_for (after past) h);
  gives = by_event _ _ _ (is_told (kept_for (after past) h)) refl;
  ample = refl;
}
answered laws m w past h (locates number offset) lawful alone tidy symbols may = locates_answered w past h number offset alone tidy
answered laws m w past h (writes bytes) lawful alone tidy symbols may = record { given = events.Wrote h bytes ∷ []; answer = returns (length bytes); gives = by_event _ _ _ (is_written bytes) may; ample = refl }
answered laws m w past h (stops reason) lawful alone tidy symbols may = record { given = []; answer = over reason; gives = to_end _ _ (asked reason may); ample = own_ample reason may }

pub complete : NumberLaws → LoadLaws → ReadLaw → (m : Machine) (w : Setting) (past : List Event) (h : ℕ) (call : Call) → w.machine ≡ m → AcceptsOnly m → Lawful m past → MayMake w (after past) h call
    → HasAnswer w past h call
complete numbers laws read m w past h call same only lawful may =
    answered laws m w past h call lawful (apart laws m past lawful) (modules_tidy numbers laws m past lawful) (symbols_stored numbers laws read m only past lawful) may
