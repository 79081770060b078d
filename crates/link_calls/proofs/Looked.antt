-- Look-ups, in the words of the calls.
use Rattle.std.proofs.Common.{◌≡◌, ℕ, ◌<◌, ◌≤◌, Bool, true, false, nat_le, List, length, take, Some, None, Result, Ok, Err, IfOk, OnOk, refl, sym, ap, subst, ◌∙◌, arith}
use Rattle.std.specs.Prelude.{IsTrue}
use Rattle.std.proofs.lemmas.Bool.{leb-false, leb-true}
use Rattle.std.proofs.lemmas.List.{length-take-le, take_all}
use Rattle.history_calls.specs.CallLaws.Coming.{IsOn}
use Rattle.history_journal.specs.Following.{MayFollow, machine_of}
use Rattle.ld_base.specs.declared.fault.DlFault.{DlFault}
use Rattle.ld_base.specs.declared.linking.Want.TheVariants.{Dlsym, Dlvsym}
use Rattle.history_event.specs.declared.event.Ask.TheVariants as asks
use Rattle.history_event.specs.declared.event.Event.TheVariants.{Sym}
use Rattle.history_event.specs.declared.event.SymAnswer.TheVariants as syms
use Rattle.history_event.specs.declared.event.SymAsk.{SymAsk}
use Rattle.history_state.specs.After.{after}
use Rattle.history_state.specs.Asking.{is_too_long}
use Rattle.history_state.specs.Lookup.{RefusesSymbol}
use Rattle.history_state.specs.Objects.{has_namespace}
use Rattle.history_calls.specs.declared.link_served.served.Served.{Served}
use Rattle.history_calls.specs.declared.link_served.served.Served.TheVariants as served
use Rattle.history_calls.specs.Call.{Call, asked_version, looks_up}
use Rattle.history_calls.specs.Gives.{is_not_found}
use Rattle.link_state.specs.Looking.{IsLookedUp}
use Rattle.link_state.specs.Table.{LinkTable, appended}
use Rattle.link_holds.specs.Events.{refusal}
use Rattle.link_holds.specs.Lemmas.Held.{follows}
use Rattle.link_search.specs.Asking.{ask_of}
use Rattle.link_calls.specs.Coming.{LooksUpIn}
use Rattle.link_calls.proofs.Refused.{nothing_came, refused_so}

-- for want of memory nothing is looked up
pub unlooked : (old new : LinkTable) (hart : ℕ) (call : Call) → new ≡ old → LooksUpIn old hart call served.Memory new
unlooked old new hart call is =
    let none = nothing_came (IsOn (machine_of old.harts)) old.events hart call in
    subst (λ (t : LinkTable). LooksUpIn old hart call served.Memory t) (sym is)
    (record { given = none.given; are = none.are; served = none.served; made_by = refl })

pub looked_up : (old new : LinkTable) (hart : ℕ) (ask : SymAsk) (value : ℕ) → IsLookedUp old hart ask value new → LooksUpIn old hart (looks_up ask) (served.Done value) new
looked_up old new hart ask value is = record { given = is.given; are = is.events; served = λ w on. is.gives w on; made_by = is.made }

-- ---- refusals

pub may_refuse : (t : LinkTable) (hart : ℕ) (ask : SymAsk) (fault : DlFault) → IsTrue (has_namespace (after t.events) ask.ns) → RefusesSymbol (after t.events) hart ask fault
    → MayFollow t.harts t.events (refusal hart (asks.Sym ask) fault)
may_refuse t hart ask fault caller refuses = follows t.harts t.events (Sym hart ask (syms.Refused fault)) (caller, refuses)

-- the same after a look-up that changed nothing, of what was asked and refused in other words
pub may_refuse_after : (old mid : LinkTable) (hart : ℕ) (ask asked : SymAsk) (fault given : DlFault) → mid ≡ old → asked ≡ ask → given ≡ fault
    → IsTrue (has_namespace (after old.events) ask.ns) → RefusesSymbol (after old.events) hart ask fault → MayFollow mid.harts mid.events (refusal hart (asks.Sym asked) given)
may_refuse_after old mid hart ask asked fault given same are is caller refuses =
    subst (λ (t : LinkTable). MayFollow t.harts t.events (refusal hart (asks.Sym asked) given)) (sym same)
    (subst (λ (a : SymAsk). MayFollow old.harts old.events (refusal hart (asks.Sym a) given)) (sym are)
    (subst (λ (f : DlFault). MayFollow old.harts old.events (refusal hart (asks.Sym ask) f)) (sym is) (may_refuse old hart ask fault caller refuses)))

refused_look : (old mid new : LinkTable) (hart : ℕ) (ask : SymAsk) (fault : DlFault) → mid ≡ old → IsTrue (has_namespace (after old.events) ask.ns)
    → RefusesSymbol (after old.events) hart ask fault → new ≡ appended mid (refusal hart (asks.Sym ask) fault) → LooksUpIn old hart (looks_up ask) (served.Refused fault) new
refused_look old mid new hart ask fault same caller refuses noted =
    let comes = refused_so (IsOn (machine_of old.harts)) old.events hart (looks_up ask) (refusal hart (asks.Sym ask) fault) fault (is_not_found ask fault) (λ w on. (caller, refuses)) in
    subst (λ (t : LinkTable). LooksUpIn old hart (looks_up ask) (served.Refused fault) t)
    (sym (noted ∙ ap (λ (t : LinkTable). appended t (refusal hart (asks.Sym ask) fault)) same))
    (record { given = comes.given; are = comes.are; served = comes.served; made_by = refl })

-- a look-up that asks for this, in these words, is refused so
pub not_found : {E : Type 0} (r : Result Served E) (old mid new : LinkTable) (hart : ℕ) (ask asked : SymAsk) (fault : DlFault) → mid ≡ old → asked ≡ ask
    → IsTrue (has_namespace (after old.events) ask.ns) → RefusesSymbol (after old.events) hart ask fault → IfOk r (λ came. came ≡ served.Refused fault)
    → OnOk r (new ≡ appended mid (refusal hart (asks.Sym asked) fault)) → IfOk r (λ came. LooksUpIn old hart (looks_up ask) came new)
not_found (Ok came) old mid new hart ask asked fault same are caller refuses refused noted =
    subst (λ (c : Served). LooksUpIn old hart (looks_up ask) c new) (sym refused)
    (refused_look old mid new hart ask fault same caller refuses (noted ∙ ap (λ (a : SymAsk). appended mid (refusal hart (asks.Sym a) fault)) are))
not_found (Err e) old mid new hart ask asked fault same are caller refuses refused noted = refused

-- ---- names that are too long, and those that aren't

pub shows_long : (xs : List ℕ) → 256 ≤ length xs → length (take 256 xs) ≡ 256
shows_long xs le = length-take-le 256 xs le

pub not_long : (name : List ℕ) → length name < 256 → is_too_long name ≡ false
not_long name few = by (nat_le 256 (length name)) refl
  where
    by : (b : Bool) → nat_le 256 (length name) ≡ b → b ≡ false
    by true e = absurd (omega (arith, few, leb-true 256 (length name) e))
    by false e = refl

pub is_long : (name : List ℕ) → 256 ≤ length name → is_too_long name ≡ true
is_long name le = by (nat_le 256 (length name)) refl
  where
    by : (b : Bool) → nat_le 256 (length name) ≡ b → b ≡ true
    by true e = refl
    by false e = absurd (omega (arith, le, leb-false 256 (length name) e))

-- ---- what dlsym and dlvsym ask for

pub asked_plain : (caller handle : ℕ) (name : List ℕ) → length name < 256 → ask_of caller handle name Dlsym ≡ record { ns = caller; handle = handle; name = take 256 name; version = None }
asked_plain caller handle name few =
    ap (λ (n : List ℕ). record { ns = caller; handle = handle; name = n; version = None }) (sym (take_all 256 name (omega (arith, few))))

pub asked_version_of : (caller handle : ℕ) (name version text : List ℕ) → length name < 256 → text ≡ take 256 version
    → ask_of caller handle name (Dlvsym text) ≡ record { ns = caller; handle = handle; name = take 256 name; version = asked_version (is_too_long name) version }
asked_version_of caller handle name version text few are =
    ap (λ (t : List ℕ). record { ns = caller; handle = handle; name = name; version = Some t }) are
    ∙ ap (λ (n : List ℕ). record { ns = caller; handle = handle; name = n; version = Some (take 256 version) }) (sym (take_all 256 name (omega (arith, few))))
    ∙ ap (λ (b : Bool). record { ns = caller; handle = handle; name = take 256 name; version = asked_version b version }) (sym (not_long name few))

-- beside a name that is too long no version is asked for
pub asked_none : (caller handle : ℕ) (name version : List ℕ) → 256 ≤ length name
    → ask_of caller handle (take 256 name) Dlsym ≡ record { ns = caller; handle = handle; name = take 256 name; version = asked_version (is_too_long name) version }
asked_none caller handle name version le =
    ap (λ (b : Bool). record { ns = caller; handle = handle; name = take 256 name; version = asked_version b version }) (sym (is_long name le))
