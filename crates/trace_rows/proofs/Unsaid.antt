-- The event that a line says.
use Rattle.std.proofs.Common.{◌≡◌, Bool, true, false, Option, Some, None, refl, sym, subst, ◌∙◌, Result, Ok, Err}
use Rattle.std.specs.Prelude.{IfOk, IfSome}
use Rattle.std.proofs.lemmas.Bool.{true≢false}
use Rattle.history_event.specs.declared.event.Event.{Event}
use Rattle.history_event.specs.declared.event.Event.TheVariants as events
use Rattle.history_event.specs.declared.event_line.EventLine.{EventLine}
use Rattle.history_event.specs.declared.event_line.EventLine.TheVariants as lines
use Rattle.trace_read.specs.Said.{said_of}
use Rattle.trace_replay.specs.Lists.{Lists}
use Rattle.trace_replay.specs.Taken.{OpensNothing}
use Rattle.trace_rows.specs.Rows.{IsDecided, IsExpected, IsNoOpening, NoneMayCome, unsaid}

record Back (line : EventLine) (e : Event) : Type 0 where
  said : said_of e ≡ line
  nothing : OpensNothing e

back : (line : EventLine) (e : Event) → unsaid line ≡ Some e → Back line e
back line e is = by line refl is
  where
    one : (f : Event) → said_of f ≡ line → OpensNothing f → Some f ≡ Some e → Back line e
    one f said nothing same = let at : f ≡ e = cc in subst (Back line) at (record { said = said; nothing = nothing })

    by : (n : EventLine) → n ≡ line → unsaid n ≡ Some e → Back line e
    by (lines.Open hart ask answer) at u = absurd (let d : None ≡ Some e = u in cc)
    by (lines.Close hart handle answer) at u = one (events.Close hart handle answer) at tt u
    by (lines.Unmapped hart set) at u = one (events.Unmapped hart set) at tt u
    by (lines.Grant grant hart owner slot choice value) at u = one (events.Grant grant hart owner slot choice value) at tt u
    by (lines.Bound grant) at u = one (events.Bound grant) at tt u
    by (lines.Lost grant saw) at u = one (events.Lost grant saw) at tt u
    by (lines.Unresolved hart owner slot choice) at u = one (events.Unresolved hart owner slot choice) at tt u
    by (lines.Sym hart ask answer) at u = one (events.Sym hart ask answer) at tt u
    by (lines.Tls hart owner address) at u = one (events.Tls hart owner address) at tt u
    by (lines.Init hart object) at u = one (events.Init hart object) at tt u
    by (lines.Fini hart object) at u = one (events.Fini hart object) at tt u
    by (lines.Wrote hart bytes) at u = one (events.Wrote hart bytes) at tt u
    by (lines.Told hart fault) at u = one (events.Told hart fault) at tt u
    by (lines.Ended hart reason) at u = one (events.Ended hart reason) at tt u

forth : (e : Event) → IsNoOpening (said_of e) → unsaid (said_of e) ≡ Some e
forth (events.Open hart ask answer) none = absurd none
forth (events.Close hart handle answer) none = refl
forth (events.Unmapped hart set) none = refl
forth (events.Grant grant hart owner slot choice value) none = refl
forth (events.Bound grant) none = refl
forth (events.Lost grant saw) none = refl
forth (events.Unresolved hart owner slot choice) none = refl
forth (events.Sym hart ask answer) none = refl
forth (events.Tls hart owner address) none = refl
forth (events.Init hart object) none = refl
forth (events.Fini hart object) none = refl
forth (events.Wrote hart bytes) none = refl
forth (events.Told hart fault) none = refl
forth (events.Ended hart reason) none = refl

pub expected_so : (l : Lists) (line : EventLine) (e : Event) (may : Bool) → unsaid line ≡ Some e → IfSome (unsaid line) (λ f. IsDecided l f may) → may ≡ true → IsExpected l line e
expected_so l line e may is decided so =
    let decides : IsDecided l e may = subst (λ (u : Option Event). IfSome u (λ f. IsDecided l f may)) is decided in
    let both : Back line e = back line e is in
    record { said = both.said; may = λ w past same x. (decides w past same x).0 so; opens = both.nothing }

pub none_so : (l : Lists) (line : EventLine) (may : Bool) → IsNoOpening line → IfSome (unsaid line) (λ f. IsDecided l f may) → may ≡ false → NoneMayCome l line
none_so l line may plain decided not_so e said w past same x allowed =
    let is : unsaid line ≡ Some e = subst (λ (n : EventLine). unsaid n ≡ Some e) said (forth e (subst IsNoOpening (sym said) plain)) in
    let decides : IsDecided l e may = subst (λ (u : Option Event). IfSome u (λ f. IsDecided l f may)) is decided in
    true≢false (sym ((decides w past same x).1 allowed) ∙ not_so)

-- ---- a line's event

pub decided_in : (l : Lists) (line : EventLine) (e : Event) (may : Bool) → unsaid line ≡ Some e → IsDecided l e may → IfSome (unsaid line) (λ f. IsDecided l f may)
decided_in l line e may is decided = subst (λ (u : Option Event). IfSome u (λ f. IsDecided l f may)) (sym is) decided

pub decided_of : {E : Type 0} (l : Lists) (line : EventLine) (e : Event) (r : Result Bool E) → unsaid line ≡ Some e → IfOk r (λ may. IsDecided l e may)
    → IfOk r (λ may. IfSome (unsaid line) (λ f. IsDecided l f may))
decided_of l line e (Ok may) is decided = decided_in l line e may is decided
decided_of l line e (Err why) is decided = decided
