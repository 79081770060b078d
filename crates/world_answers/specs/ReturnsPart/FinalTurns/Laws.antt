-- What holds of the final destructors, whoever carries them out.
use Rattle.std.specs.Prelude.{◌≡◌, ℕ, Bool, List, [], ◌∷◌, ◌++◌, IsTrue}
use Rattle.history_event.specs.declared.event.Event.{Event}
use Rattle.history_event.specs.declared.event.Event.TheVariants.{Fini}
use Rattle.history_state.specs.After.{after}
use Rattle.history_state.specs.Allowed.{Allowed}
use Rattle.history_state.specs.Setting.{Setting, have_exited}
use Rattle.link_holds.specs.Events.{settled}
use Rattle.hart_moves.specs.Moves.{AreAllowed, all_finis, own_fini}
use Rattle.world_answers.specs.ReturnsPart.FinalTurns.Planned.{FinalsMayFollow, IsPlanned}
use Rattle.world_answers.specs.ReturnsPart.FinalTurns.Table.{FinalPlan}

-- ---- a grant that is settled

-- leaves what is planned
abbrev pub SettlingKeepsPlans : Type 0
SettlingKeepsPlans = (past : List Event) (grant saw : ℕ) (won : Bool) (plan : FinalPlan) → IsPlanned (after past) plan
    → IsPlanned (after (past ++ settled grant won saw ∷ [])) plan

-- the object whose destructors have run may be finalised as before
abbrev pub SettlingKeepsOwn : Type 0
SettlingKeepsOwn = (w : Setting) (past : List Event) (h object grant saw : ℕ) (won : Bool) → AreAllowed w past (own_fini (after past) h object)
    → AreAllowed w (past ++ settled grant won saw ∷ []) (own_fini (after (past ++ settled grant won saw ∷ [])) h object)

-- every hart has ended by exit as before
abbrev pub SettlingKeepsExits : Type 0
SettlingKeepsExits = (w : Setting) (past : List Event) (grant saw : ℕ) (won : Bool) → IsTrue (have_exited w (after past))
    → IsTrue (have_exited w (after (past ++ settled grant won saw ∷ [])))

-- ---- the events of a turn

-- once every hart has ended by exit, the object that is next of all may be finalised
abbrev pub NextMayPass : Setting → ℕ → Type 0
NextMayPass w h = (past : List Event) (d : ℕ) (rest : List ℕ) → IsTrue (have_exited w (after past)) → all_finis (after past) ≡ d ∷ rest
    → Allowed w past (Fini h d)

-- so they may come, where the object's own may
abbrev pub FinalsGoOn : Type 0
FinalsGoOn = (w : Setting) (past : List Event) (h object : ℕ) → IsTrue (have_exited w (after past)) → AreAllowed w past (own_fini (after past) h object)
    → NextMayPass w h → FinalsMayFollow w past h object
