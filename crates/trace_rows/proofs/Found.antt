-- Look-ups of symbols.
use Rattle.std.proofs.Common.{Bor, ◌≡◌, ℕ, ◌<◌, ◌&&◌, Bool, true, false, List, length, Option, Some, None, refl, sym, ap, subst, ◌∙◌}
use Rattle.std.specs.Bool.{Decides}
use Rattle.std.specs.Prelude.{IsTrue}
use Rattle.std.specs.List.{find, list_any}
use Rattle.std.specs.Option.{is_some, option_copied}
use Rattle.std.proofs.lemmas.Bool.{and_from, and_parts, lt-leb, true≢false}
use Rattle.address_space.specs.Pages.{Fits}
use Rattle.history_calls.specs.Lemmas.Unique.{block_or_none, found_or_refused, long_or_short, no_search, not_both, not_yet, same_found, same_refusal, same_symbol, has_found}
use Rattle.history_event.specs.declared.event.SymAnswer.{SymAnswer}
use Rattle.history_event.specs.declared.event.SymAnswer.TheVariants as syms
use Rattle.history_event.specs.declared.event.SymAsk.{SymAsk}
use Rattle.history_state.specs.Addresses.{address}
use Rattle.history_state.specs.Areas.{free_pages}
use Rattle.history_state.specs.Asking.{is_too_long}
use Rattle.history_state.specs.Lookup.{HasNoBlock, HasStorage, IsTooLong, MayAnswer, MayHaveBlock, RefusesSymbol, SearchAnswers, SymbolsAreStored, WantsBlock, search}
use Rattle.history_state.specs.Lookup.IsTooLong.{version as long_version}
use Rattle.history_state.specs.Lookup.RefusesSymbol.{name_too_long, bad_handle, missing, no_room}
use Rattle.history_state.specs.Objects.{has_id, has_namespace}
use Rattle.history_state.specs.State.{State}
use Rattle.history_state.specs.Storage.{block_align, block_pages, tls_block}
use Rattle.ld_base.specs.declared.fault.DlFault.{DlFault}
use Rattle.ld_base.specs.declared.fault.DlFault.TheVariants.{AddressSpaceFull}
use Rattle.ld_base.specs.declared.object.TlsSeg.{TlsSeg}
use Rattle.link_search.specs.Finding.{IsSymFault}
use Rattle.link_search.specs.declared.finding.SymFault.{SymFault}
use Rattle.link_search.specs.declared.finding.SymFault.TheVariants as faults
use Rattle.scope_rule.specs.declared.namespace.Namespace.{Namespace}
use Rattle.trace_replay.specs.Lists.{Lists}
use Rattle.trace_replay.specs.Shown.{IsShown}
use Rattle.trace_replay.specs.Steps.{storage_in}
use Rattle.trace_rows.specs.Blocks.{HasNoRoom, StandsAt}
use Rattle.trace_rows.specs.Looking.{ComesOfLooking, FindsVariable, IsOfLength, IsRefusalFor}
use Rattle.trace_rows.specs.declared.rows.looking.Length.TheVariants as lengths
use Rattle.trace_rows.proofs.Stored.{any_is, may_have, segment_of, wants}

-- ---- one answer

same_answer : (s : State) (hart : ℕ) (ask : SymAsk) (a b : SymAnswer) → SearchAnswers s hart ask a → SearchAnswers s hart ask b → a ≡ b
same_answer s hart ask (syms.Found serial index value) (syms.Found other at address) x y =
    let same = same_found s hart ask serial index value other at address x y in
    ap (λ n. syms.Found n index value) same.0 ∙ ap (λ n. syms.Found other n value) same.1 ∙ ap (syms.Found other at) same.2
same_answer s hart ask (syms.Found serial index value) (syms.Refused fault) x y = absurd (found_or_refused s hart ask serial index value fault x y)
same_answer s hart ask (syms.Refused fault) (syms.Found serial index value) x y = absurd (found_or_refused s hart ask serial index value fault y x)
same_answer s hart ask (syms.Refused fault) (syms.Refused other) x y = ap (λ (f : DlFault). syms.Refused f) (same_refusal s hart ask fault other x y)

copied_some : {X : Type 0} (found : Option (Bor X)) → is_some (option_copied found) ≡ is_some found
copied_some (Some x) = refl
copied_some None = refl

pub there_so : (s : State) (l : Lists) (id : ℕ) (found : Option (Bor Namespace)) (there : Bool) → IsShown s l → option_copied found ≡ find (has_id id) l.namespaces → there ≡ is_some found
    → there ≡ has_namespace s id
there_so s l id found there x is some =
    some ∙ sym (copied_some found) ∙ ap is_some is ∙ sym (any_is (has_id id) l.namespaces) ∙ ap (list_any (has_id id)) x.namespaces

pub answers_so : (s : State) (hart : ℕ) (ask : SymAsk) (found : Option SymAnswer) (answer : SymAnswer) (there is : Bool) → there ≡ has_namespace s ask.ns
    → (IsTrue (has_namespace s ask.ns) → ComesOfLooking s hart ask found) → Decides is (found ≡ Some answer) → Decides (there && is) (MayAnswer s hart ask answer)
answers_so s hart ask found answer there is has comes decides = (
  (λ e.
      let both = and_parts there is e in
      let caller : has_namespace s ask.ns ≡ true = sym has ∙ both.0 in
      (caller, subst (ComesOfLooking s hart ask) (decides.0 both.1) (comes caller))),
  (λ m. and_from there is (has ∙ m.0) (decides.1 (by found (comes m.0) m.1))),
)
  where
    by : (f : Option SymAnswer) → ComesOfLooking s hart ask f → SearchAnswers s hart ask answer → f ≡ Some answer
    by (Some a) x y = ap (λ (b : SymAnswer). Some b) (same_answer s hart ask a answer x y)
    by None none y = absurd (none answer y)

-- ---- lengths

not_long : (bytes : List ℕ) → length bytes < 256 → is_too_long bytes ≡ false
not_long bytes less = lt-leb 256 (length bytes) less

pub long_with : (ask : SymAsk) (text : List ℕ) → length ask.name < 256 → ask.version ≡ Some text → length text ≡ 256 → IsTooLong ask
long_with ask text less is long = long_version (not_long ask.name less) text is long

-- what asks for too much has no answer
pub never : (s : State) (hart : ℕ) (ask : SymAsk) → IsOfLength ask lengths.Overlong → ComesOfLooking s hart ask None
never s hart ask neither (syms.Found serial index value) found = neither.0 found.short
never s hart ask neither (syms.Refused fault) gives = refused fault gives
  where
    refused : (f : DlFault) → RefusesSymbol s hart ask f → ⊥
    refused _ (name_too_long long) = neither.1 long
    refused _ (bad_handle short handle gone) = neither.0 short
    refused _ (missing short gone) = neither.0 short
    refused _ (no_room other at pages short found storage full) = neither.0 short

-- ---- refusals

pub refused_so : (s : State) (hart : ℕ) (ask : SymAsk) (why : SymFault) (found : Option SymAnswer) → IsRefusalFor why found → IsSymFault s hart ask why → ComesOfLooking s hart ask found
refused_so s hart ask (faults.Refused fault) found is gives = subst (ComesOfLooking s hart ask) (sym is) gives
refused_so s hart ask faults.Memory found is gives = absurd is

-- ---- no block yet

wants_one : (s : State) (l : Lists) (hart : ℕ) (ask : SymAsk) (serial index offset : ℕ) → IsShown s l → SymbolsAreStored s → FindsVariable s ask serial index offset
    → tls_block s hart serial ≡ None → (seg : TlsSeg) × WantsBlock s hart serial seg
wants_one s l hart ask serial index offset x law finds none =
    let has : HasStorage s serial = law ask serial index finds.finds.found finds.storage in
    (has.seg, record { object = has.object; mapped = has.mapped; storage = has.storage; has_module = has.has_module; none = none })

-- the object of a variable has a segment
pub has_segment : (s : State) (l : Lists) (hart : ℕ) (ask : SymAsk) (serial index offset : ℕ) → IsShown s l → SymbolsAreStored s → FindsVariable s ask serial index offset
    → tls_block s hart serial ≡ None → None ≡ storage_in l.namespaces serial → ⊥
has_segment s l hart ask serial index offset x law finds none lacks =
    let one = wants_one s l hart ask serial index offset x law finds none in
    not_both (storage_in l.namespaces serial) one.0 (sym lacks) (segment_of s l hart serial one.0 x one.1)

its_segment : (s : State) (l : Lists) (hart : ℕ) (ask : SymAsk) (serial index offset : ℕ) (seg : TlsSeg) → IsShown s l → SymbolsAreStored s → FindsVariable s ask serial index offset
    → tls_block s hart serial ≡ None → Some seg ≡ storage_in l.namespaces serial → WantsBlock s hart serial seg
its_segment s l hart ask serial index offset seg x law finds none is =
    let one = wants_one s l hart ask serial index offset x law finds none in
    wants s l hart serial seg x (sym is) one.1.has_module none

pub without_room : (s : State) (l : Lists) (hart : ℕ) (ask : SymAsk) (serial index offset count : ℕ) (seg : TlsSeg) → IsShown s l → SymbolsAreStored s
    → FindsVariable s ask serial index offset → tls_block s hart serial ≡ None → Some seg ≡ storage_in l.namespaces serial → HasNoRoom (free_pages l.ranges) seg count
    → ComesOfLooking s hart ask (Some (syms.Refused (AddressSpaceFull count)))
without_room s l hart ask serial index offset count seg x law finds none is full =
    no_room serial index count finds.finds.short finds.finds.found finds.storage (record {
      seg = seg;
      wants = its_segment s l hart ask serial index offset seg x law finds none is;
      none = λ at fits. full.none at (subst (λ rs. Fits (free_pages rs) (block_pages seg) (block_align seg) at) (sym x.ranges) fits);
      is = full.is;
    })

-- while there is room no answer comes: the hart gets its block first
pub not_before : (s : State) (l : Lists) (hart : ℕ) (ask : SymAsk) (serial index offset start : ℕ) (seg : TlsSeg) → IsShown s l → SymbolsAreStored s
    → FindsVariable s ask serial index offset → tls_block s hart serial ≡ None → Some seg ≡ storage_in l.namespaces serial → StandsAt (free_pages l.ranges) seg start
    → ComesOfLooking s hart ask None
not_before s l hart ask serial index offset start seg x law finds none is stands = by
  where
    block : MayHaveBlock s hart serial start
    block = may_have s l hart serial start seg x (its_segment s l hart ask serial index offset seg x law finds none is) stands

    refused : (fault : DlFault) → RefusesSymbol s hart ask fault → ⊥
    refused _ (name_too_long long) = long_or_short ask long finds.finds.short
    refused _ (bad_handle short handle gone) = not_both (search s ask) (Some (serial, index)) (no_search s ask handle gone) finds.finds.found
    refused _ (missing short gone) = true≢false (sym (ap has_found finds.finds.found) ∙ ap has_found gone)
    refused _ (no_room other at pages short found storage full) =
        let same = same_symbol (search s ask) other at serial index found finds.finds.found in
        block_or_none s hart serial start pages block (subst (λ n. HasNoBlock s hart n pages) same.serials full)

    by : (answer : SymAnswer) → SearchAnswers s hart ask answer → ⊥
    by (syms.Found other at value) found = not_yet s hart ask other at value serial index found finds.finds.found finds.storage none
    by (syms.Refused fault) gives = refused fault gives
