-- What is asked has its namespace, or is refused, and then no file is the cause.
use Rattle.std.proofs.Common.{◌≡◌, ℕ, ◌≤◌, true, false, List, length, Option, Some, None, sym, ◌∙◌}
use Rattle.std.proofs.lemmas.Bool.{true≢false}
use Rattle.history_calls.specs.CallLaws.Coming.{NeedsNoRead, is_refused, is_programs, only_if_there}
use Rattle.history_calls.specs.CallLaws.Laws.{RefusedByAsking}
use Rattle.ld_base.specs.declared.fault.DlFault.{DlFault}
use Rattle.history_event.specs.declared.event.OpenAsk.{OpenAsk}
use Rattle.history_state.specs.Asking.{IsAsked, IsBadNamespace, IsNamespace}
use Rattle.history_state.specs.Flags.{is_noload}
use Rattle.history_state.specs.Objects.{is_startup}
use Rattle.history_state.specs.Opening.{IsRefused}
use Rattle.history_state.specs.Setting.{Setting}
use Rattle.history_state.specs.State.{State}
use Rattle.history_calls.specs.Laws.{RefusesAsk, flags, full, long, space}
use Rattle.link_open_plan.specs.Planned.{ShowsInNoCount}
use Rattle.link_open_plan.specs.declared.planning.Unopened.TheVariants.{Refused}
use Rattle.history_calls.specs.Lemmas.Opened.{good_or_full}

pub refused_asking : RefusedByAsking → (w : Setting) (s : State) (hart : ℕ) (ask : OpenAsk) (fault : DlFault) → is_startup s ≡ false → RefusesAsk s ask fault
    → ((name : List ℕ) → ask.name ≡ Some name → length name ≤ 256) → IsRefused w s hart ask fault
refused_asking law w s hart ask fault started h known = record { may = λ first. absurd (true≢false (sym first ∙ started)); refuses = law w s hart ask fault h known }

pub asking_needs_none : (s : State) (ask : OpenAsk) (fault : DlFault) → RefusesAsk s ask fault → ShowsInNoCount (Refused fault)
asking_needs_none s ask _ (long h) = tt
asking_needs_none s ask _ (flags h k) = tt
asking_needs_none s ask _ (space number h k bad) = tt
asking_needs_none s ask _ (full h k all) = tt

bad_or_there : (s : State) (ns : Option ℕ) (name : Option (List ℕ)) (id number : ℕ) → IsNamespace s ns name id → IsBadNamespace s ns name number → ⊥
bad_or_there s (Some n) (Some name) id number has bad = true≢false (sym has.1 ∙ bad.1)
bad_or_there s (Some n) None id number has bad = bad.1 has.1
bad_or_there s None (Some name) id number has bad = bad
bad_or_there s None None id number has bad = has

asked_or_refused : (s : State) (ask : OpenAsk) (id : ℕ) (fault : DlFault) → IsAsked s ask id → RefusesAsk s ask fault → ⊥
asked_or_refused s ask id _ asked (long h) = true≢false (sym h ∙ asked.short)
asked_or_refused s ask id _ asked (flags h k) = true≢false (sym asked.flags ∙ k)
asked_or_refused s ask id _ asked (space number h k bad) = bad_or_there s ask.ns ask.name id number asked.namespace bad
asked_or_refused s ask id _ asked (full h k all) = good_or_full s ask.ns ask.name id asked.namespace all

-- what is asked by a name, and may be, reads nothing only with RTLD_NOLOAD
pub reads_none : (s : State) (ask : OpenAsk) (id : ℕ) (name : List ℕ) → IsAsked s ask id → ask.name ≡ Some name → NeedsNoRead s ask → is_noload ask.flags ≡ true
reads_none s ask id name asked named (is_refused fault h) = absurd (asked_or_refused s ask id fault asked h)
reads_none s ask id name asked named (is_programs unnamed) = absurd (let d : Some name ≡ None = sym named ∙ unnamed in cc)
reads_none s ask id name asked named (only_if_there noload) = noload
