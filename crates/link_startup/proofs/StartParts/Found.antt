-- Look-ups of names at which harts start.
use Rattle.std.proofs.Common.{◌≡◌, ℕ, ◌+◌, true, false, List, [], ◌∷◌, Option, Some, None, refl, sym, ap, subst, ◌∙◌}
use Rattle.std.specs.Prelude.{◌==◌, IsSome}
use Rattle.std.specs.List.{Contains}
use Rattle.std.specs.Option.{is_some, option_map_or}
use Rattle.ld_base.specs.declared.fault.DlFault.{DlFault}
use Rattle.ld_base.specs.declared.fault.Shown.{Shown}
use Rattle.history_event.specs.declared.event.Event.{Event}
use Rattle.history_event.specs.declared.event.Event.TheVariants as events
use Rattle.history_event.specs.declared.event.SymAnswer.{SymAnswer}
use Rattle.history_event.specs.declared.event.SymAnswer.TheVariants as symbols
use Rattle.history_event.specs.declared.event.SymAsk.{SymAsk}
use Rattle.history_event.specs.declared.state.Module.{Module}
use Rattle.history_state.specs.After.{after}
use Rattle.history_state.specs.Allowed.{Allowed}
use Rattle.history_state.specs.Lemmas.Lists.{found_in}
use Rattle.history_state.specs.Lookup.{MayHaveBlock}
use Rattle.history_state.specs.Setting.{Setting}
use Rattle.history_state.specs.State.{State}
use Rattle.history_state.specs.Storage.{late_block, module_of, tls_block, tp_of}
use Rattle.history_calls.specs.declared.link_served.installs.Installs.{Installs}
use Rattle.history_calls.specs.Answer.{Answer, returns, loading, closing, refused, granted, told, again, over}
use Rattle.history_calls.specs.Call.{Call, opens, looks_up, unmaps, locates}
use Rattle.history_calls.specs.Gives.{EventAnswers, FindsFirst, Gives}
use Rattle.history_calls.specs.Served.{InstallsNothing, Makes}
use Rattle.history_calls.specs.Waiting.{Shows}

abbrev pub AreStatic : State → Type 0
AreStatic s = (m : Module) → Contains s.modules m → is_some m.offset ≡ true

block_of : (s : State) (hart serial : ℕ) (m : Module) → module_of s serial ≡ Some m
    → tls_block s hart serial ≡ option_map_or (λ (offset : ℕ). Some (tp_of s hart + offset)) m.offset (late_block s hart serial)
unfolding tls_block
block_of s hart serial m e =
    ap (λ (found : Option Module). elim found [ Some q ↦ option_map_or (λ (offset : ℕ). Some (tp_of s hart + offset)) q.offset (late_block s hart serial) | None ↦ None ]) e

static_block : (tp : ℕ) (offset late : Option ℕ) → is_some offset ≡ true → option_map_or (λ (o : ℕ). Some (tp + o)) offset late ≡ None → ⊥
static_block tp None late static none = absurd (let d : false ≡ true = static in cc)
static_block tp (Some offset) late static none = absurd (let d : Some (tp + offset) ≡ None = none in cc)

-- no hart waits for a block where each module is static
block_there : (s : State) (hart serial : ℕ) (found : Option Module) → AreStatic s → module_of s serial ≡ found → IsSome found → tls_block s hart serial ≡ None → ⊥
block_there s hart serial None static e some none = absurd (let d : false ≡ true = some in cc)
block_there s hart serial (Some m) static e some none =
    static_block (tp_of s hart) m.offset (late_block s hart serial) (static m (found_in (λ (x : Module). x.serial == serial) s.modules m e).0)
    (sym (block_of s hart serial m e) ∙ none)

no_first : (w : Setting) (past : List Event) (h : ℕ) (ask : SymAsk) (e f : Event) (value : ℕ) → AreStatic (after past) → FindsFirst w past h ask e f value → ⊥
no_first w past h ask e f value static finds =
    let may : MayHaveBlock (after past) h finds.serial finds.block = subst (Allowed w past) finds.gets finds.may_get in
    block_there (after past) h finds.serial (module_of (after past) finds.serial) static refl may.wants.has_module may.wants.none

-- ---- what a look-up gives

found_by : (h : ℕ) (call : Call) (e : Event) (answer : Answer) (ask : SymAsk) (value : ℕ) → EventAnswers h call e answer → call ≡ looks_up ask → answer ≡ returns value
    → (serial : ℕ) × (index : ℕ) × (e ≡ events.Sym h ask (symbols.Found serial index value))
found_by h call e answer ask value (EventAnswers.is_found a serial index v) is gives =
    let one : a ≡ ask = cc in let same : v ≡ value = cc in
    (serial, index, ap (λ (x : SymAsk). events.Sym h x (symbols.Found serial index v)) one ∙ ap (λ x. events.Sym h ask (symbols.Found serial index x)) same)
found_by h call e answer ask value _ is gives = absurd cc

refused_by : (h : ℕ) (call : Call) (e : Event) (answer : Answer) (ask : SymAsk) (fault : DlFault) → EventAnswers h call e answer → call ≡ looks_up ask → answer ≡ refused fault
    → e ≡ events.Sym h ask (symbols.Refused fault)
refused_by h call e answer ask fault (EventAnswers.is_not_found a f) is gives =
    let one : a ≡ ask = cc in let same : f ≡ fault = cc in
    ap (λ (x : SymAsk). events.Sym h x (symbols.Refused f)) one ∙ ap (λ (x : DlFault). events.Sym h ask (symbols.Refused x)) same
refused_by h call e answer ask fault _ is gives = absurd cc

pub found_so : (w : Setting) (past : List Event) (h : ℕ) (call : Call) (given : List Event) (answer : Answer) (ask : SymAsk) (value : ℕ) → AreStatic (after past)
    → Gives w past h call given answer → call ≡ looks_up ask → answer ≡ returns value
    → (serial : ℕ) × (index : ℕ) × (given ≡ events.Sym h ask (symbols.Found serial index value) ∷ []) × Allowed w past (events.Sym h ask (symbols.Found serial index value))
found_so w past h call given answer ask value static (Gives.by_event c e a answers may) is gives =
    let so = found_by h c e a ask value answers is gives in
    (so.0, so.1, ap (λ (x : Event). x ∷ []) so.2, subst (Allowed w past) so.2 may)
found_so w past h call given answer ask value static (Gives.by_first_block a e f v finds) is gives = absurd (no_first w past h a e f v static finds)
found_so w past h call given answer ask value static (Gives.in_new_block number offset block e gets) is gives = absurd (let d : locates number offset ≡ looks_up ask = is in cc)
found_so w past h call given answer ask value static (Gives.in_block number offset block has) is gives = absurd (let d : locates number offset ≡ looks_up ask = is in cc)
found_so w past h call given answer ask value static (Gives.to_again c for shows) is gives = absurd (let d : again for ≡ returns value = gives in cc)
found_so w past h call given answer ask value static (Gives.to_end c reason ends) is gives = absurd (let d : over reason ≡ returns value = gives in cc)

pub refused_so : (w : Setting) (past : List Event) (h : ℕ) (call : Call) (given : List Event) (answer : Answer) (ask : SymAsk) (fault : DlFault)
    → Gives w past h call given answer → call ≡ looks_up ask → answer ≡ refused fault
    → (given ≡ events.Sym h ask (symbols.Refused fault) ∷ []) × Allowed w past (events.Sym h ask (symbols.Refused fault))
refused_so w past h call given answer ask fault (Gives.by_event c e a answers may) is gives =
    let so = refused_by h c e a ask fault answers is gives in (ap (λ (x : Event). x ∷ []) so, subst (Allowed w past) so may)
refused_so w past h call given answer ask fault (Gives.by_first_block a e f v finds) is gives = absurd (let d : returns v ≡ refused fault = gives in cc)
refused_so w past h call given answer ask fault (Gives.in_new_block number offset block e gets) is gives = absurd (let d : locates number offset ≡ looks_up ask = is in cc)
refused_so w past h call given answer ask fault (Gives.in_block number offset block has) is gives = absurd (let d : locates number offset ≡ looks_up ask = is in cc)
refused_so w past h call given answer ask fault (Gives.to_again c for shows) is gives = absurd (let d : again for ≡ refused fault = gives in cc)
refused_so w past h call given answer ask fault (Gives.to_end c reason ends) is gives = absurd (let d : over reason ≡ refused fault = gives in cc)

-- ---- what no look-up gives

-- it loads and closes nothing, and never waits
abbrev pub IsOfLookUp : Answer → Type 0
IsOfLookUp (returns value) = Unit {0}
IsOfLookUp (loading root added) = ⊥
IsOfLookUp (closing set) = ⊥
IsOfLookUp (refused fault) = Unit {0}
IsOfLookUp (granted grant) = ⊥
IsOfLookUp (told fault) = ⊥
IsOfLookUp (again for) = ⊥
IsOfLookUp (over reason) = Unit {0}

event_of_look_up : (h : ℕ) (call : Call) (e : Event) (answer : Answer) (ask : SymAsk) → EventAnswers h call e answer → call ≡ looks_up ask → IsOfLookUp answer
event_of_look_up h call e answer ask (EventAnswers.is_found a serial index v) is = tt
event_of_look_up h call e answer ask (EventAnswers.is_not_found a f) is = tt
event_of_look_up h call e answer ask _ is = absurd cc

never_waits : (w : Setting) (s : State) (h : ℕ) (call : Call) (for : Shown) (ask : SymAsk) → Shows w s h call for → call ≡ looks_up ask → ⊥
never_waits w s h call for ask (Shows.by_load a f waits) is = absurd (let d : opens a ≡ looks_up ask = is in cc)
never_waits w s h call for ask (Shows.by_grant set number done held) is = absurd (let d : unmaps set ≡ looks_up ask = is in cc)

pub gives_look_up : (w : Setting) (past : List Event) (h : ℕ) (call : Call) (given : List Event) (answer : Answer) (ask : SymAsk)
    → Gives w past h call given answer → call ≡ looks_up ask → IsOfLookUp answer
gives_look_up w past h call given answer ask (Gives.by_event c e a answers may) is = event_of_look_up h c e a ask answers is
gives_look_up w past h call given answer ask (Gives.by_first_block a e f v finds) is = tt
gives_look_up w past h call given answer ask (Gives.in_new_block number offset block e gets) is = tt
gives_look_up w past h call given answer ask (Gives.in_block number offset block has) is = tt
gives_look_up w past h call given answer ask (Gives.to_again c for shows) is = never_waits w (after past) h c for ask shows is
gives_look_up w past h call given answer ask (Gives.to_end c reason ends) is = tt

-- ---- what it makes

-- the event of a name that is found makes no block
pub found_makes_none : (s : State) (h : ℕ) (ask : SymAsk) (answer : SymAnswer) (given : List Event) (made : Installs)
    → given ≡ events.Sym h ask answer ∷ [] → Makes s given made → InstallsNothing made
found_makes_none s h ask answer given made is (Makes.a_block hart serial address rest m installed) = absurd cc
found_makes_none s h ask answer given made is (Makes.no_block hart a other m nothing) = nothing
found_makes_none s h ask answer given made is (Makes.no_event m nothing) = nothing
