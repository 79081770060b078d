-- What neither reserves pages nor takes any away leaves memory as it is.
use Rattle.std.proofs.Common.{◌≡◌, subst, refl, true, false, List, [], ◌∷◌}
use Rattle.std.specs.List.{Contains}
use Rattle.history_event.specs.declared.event.Event.TheVariants as events
use Rattle.history_event.specs.declared.event.OpenAnswer.TheVariants as opens
use Rattle.history_event.specs.declared.event.Range.{Range}
use Rattle.history_state.specs.Step.{step}
use Rattle.history_state.specs.Lemmas.Lists.{here, later, none_in}
use Rattle.world_memory.specs.TurnParts.Leaving.{AllLeave, AllStay, OneStays, OthersLeave}

pub others_leave : OthersLeave
others_leave s (events.Open hart ask (opens.Done id root added ranges)) e = absurd (let d : true ≡ false = e in cc)
others_leave s (events.Open hart ask opens.Absent) e = (refl, refl)
others_leave s (events.Open hart ask (opens.Refused fault)) e = (refl, refl)
others_leave s (events.Close hart handle answer) e = (refl, refl)
others_leave s (events.Unmapped hart set) e = absurd (let d : true ≡ false = e in cc)
others_leave s (events.Grant number hart owner slot choice value) e = (refl, refl)
others_leave s (events.Bound number) e = (refl, refl)
others_leave s (events.Lost number saw) e = (refl, refl)
others_leave s (events.Unresolved hart owner slot choice) e = (refl, refl)
others_leave s (events.Sym hart ask answer) e = (refl, refl)
others_leave s (events.Tls hart owner address) e = absurd (let d : true ≡ false = e in cc)
others_leave s (events.Init hart object) e = (refl, refl)
others_leave s (events.Fini hart object) e = (refl, refl)
others_leave s (events.Wrote hart bytes) e = (refl, refl)
others_leave s (events.Told hart fault) e = (refl, refl)
others_leave s (events.Ended hart reason) e = (refl, refl)

pub all_leave : AllLeave
all_leave s [] others = tt
all_leave s (e ∷ rest) others =
    let leaves = others_leave s e (others e (here e rest)) in
    (leaves.0, leaves.1, all_leave (step s e) rest (λ d there. others d (later e rest d there)))

pub one_stays : OneStays
one_stays s e words none_reserved none_taken = record {
  all = refl;
  kept = λ a is untouched. refl;
  given = λ r a is there covered. absurd (none_in r (subst (λ (rs : List Range). Contains rs r) none_reserved there));
  gone = λ r a is there covered. absurd (none_in r (subst (λ (rs : List Range). Contains rs r) none_taken there));
}

pub all_stay : AllStay
all_stay s [] words leave = refl
all_stay s (e ∷ rest) words leave = (words, one_stays s e words leave.0 leave.1, all_stay (step s e) rest words leave.2)
