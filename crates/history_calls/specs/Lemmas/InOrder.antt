-- Of refusals the first is given, and an opening that passes opens.
use Rattle.std.proofs.Common.{◌≡◌, ℕ, false, List, [], ◌∷◌, length, Some, refl, ap, arith}
use Rattle.ld_base.specs.declared.fault.DlFault.{DlFault}
use Rattle.ld_base.specs.declared.linking.File.{File}
use Rattle.ld_base.specs.declared.linking.Loaded.{Loaded}
use Rattle.history_event.specs.declared.event.Event.{Event}
use Rattle.history_event.specs.declared.event.Event.TheVariants as events
use Rattle.history_event.specs.declared.event.OpenAnswer.TheVariants as openings
use Rattle.history_event.specs.declared.event.OpenAsk.{OpenAsk}
use Rattle.history_event.specs.declared.event.Range.{Range}
use Rattle.history_event.specs.declared.event.SymAsk.{SymAsk}
use Rattle.history_event.specs.declared.hart_end.HartEnd.TheVariants as ends
use Rattle.history_state.specs.After.{after}
use Rattle.history_state.specs.Lookup.{RefusesSymbol}
use Rattle.history_state.specs.Opening.{Opens, Refuses}
use Rattle.history_state.specs.Setting.{Setting}
use Rattle.history_calls.specs.Answer.{Answer, returns, refused, over}
use Rattle.history_calls.specs.Call.{opens, looks_up, locates}
use Rattle.history_calls.specs.Ends.{IsBadModule}
use Rattle.history_calls.specs.Gives.{FindsFirst, Gives}
use Rattle.history_calls.specs.Laws.{RefusesAsk, is_chance, is_read_fault, is_want}
use Rattle.history_calls.specs.Lemmas.Opened.{OutcomeLaws, passed_opens, refused_asked, refused_first}
use Rattle.history_calls.specs.Lemmas.Told.{ample_of, comes_to, located, looked_up, same_located, same_looked_up}
use Rattle.history_calls.specs.Lemmas.Told.LookedUp.{finds_first, refuses}
use Rattle.history_calls.specs.Lemmas.Told.Located.{is_bad}

-- ---- refusals in their order, and success

pub ask_first : (w : Setting) (past : List Event) (h : ℕ) (ask : OpenAsk) (given : List Event) (answer : Answer) (fault : DlFault) → RefusesAsk (after past) ask fault → Gives w past h (opens ask) given answer
    → is_want answer ≡ false → answer ≡ refused fault
ask_first w past h ask given answer fault stands gives ample = refused_asked w (after past) h ask given answer fault stands (comes_to gives ample)

pub stages_in_order : OutcomeLaws → (w : Setting) (past : List Event) (h : ℕ) (ask : OpenAsk) (files : List File) (given : List Event) (answer : Answer) (fault : DlFault) → w.files ≡ Some files
    → is_read_fault fault ≡ false → Refuses w (after past) h ask fault → Gives w past h (opens ask) given answer → is_chance answer ≡ false → answer ≡ refused fault
stages_in_order laws w past h ask files given answer fault tells sound stands gives ample =
    refused_first laws w (after past) h ask files given answer fault tells sound stands ample (comes_to gives (ample_of answer ample))

pub symbols_in_order : (w : Setting) (past : List Event) (h : ℕ) (ask : SymAsk) (given : List Event) (answer : Answer) (fault : DlFault) → RefusesSymbol (after past) h ask fault
    → Gives w past h (looks_up ask) given answer → is_want answer ≡ false → answer ≡ refused fault
symbols_in_order w past h ask given answer fault stands gives ample = (same_looked_up w past h ask (looked_up gives ample) (refuses fault stands)).1

pub passed : OutcomeLaws → (w : Setting) (past : List Event) (h : ℕ) (ask : OpenAsk) (files : List File) (id root : ℕ) (added : List Loaded) (ranges : List Range) (given : List Event) (answer : Answer)
    → w.files ≡ Some files → Opens w (after past) h ask id root added ranges → Gives w past h (opens ask) given answer → is_chance answer ≡ false
    → given ≡ events.Open h ask (openings.Done id root added ranges) ∷ []
passed laws w past h ask files id root added ranges given answer tells all gives ample =
    passed_opens laws w (after past) h ask files id root added ranges given answer tells all ample (comes_to gives (ample_of answer ample))

-- a block comes before its symbol
pub two_events : (w : Setting) (past : List Event) (h : ℕ) (ask : SymAsk) (e f d : Event) (value other : ℕ) → FindsFirst w past h ask e f value → Gives w past h (looks_up ask) (d ∷ []) (returns other) → ⊥
two_events w past h ask e f d value other first gives =
    let same : d ∷ [] ≡ e ∷ f ∷ [] = (same_looked_up w past h ask (looked_up gives refl) (finds_first e f value first)).0 in
    let counts : 1 ≡ 2 = ap length same in
    omega (arith, counts)

-- a module that isn't there has no variables
pub no_such_module : (w : Setting) (past : List Event) (h number offset : ℕ) (given : List Event) (value : ℕ) → IsBadModule (after past) number → Gives w past h (locates number offset) given (returns value) → ⊥
no_such_module w past h number offset given value none gives =
    let same : returns value ≡ over (ends.BadModule number) = (same_located w past h number offset (located gives refl) (is_bad none)).1 in
    cc
