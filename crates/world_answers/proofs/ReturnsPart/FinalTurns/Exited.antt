-- How harts have ended isn't changed by objects that are finalised, nor by grants that are settled.
use Rattle.std.proofs.Common.{◌≡◌, ℕ, true, false, List, [], ◌∷◌, ◌++◌, ◌&&◌, nat_le, length, take, sym, ap, subst, ◌∙◌, append-nil, append_assoc, IsTrue}
use Rattle.std.specs.List.{list_all}
use Rattle.history_event.specs.declared.event.Event.{Event}
use Rattle.history_event.specs.declared.event.Event.TheVariants.{Fini}
use Rattle.history_event.specs.declared.state.Ending.{Ending}
use Rattle.history_state.specs.After.{after}
use Rattle.history_state.specs.Setting.{Setting, exited, have_exited}
use Rattle.history_state.specs.State.{State}
use Rattle.history_state.specs.Lemmas.History.{after_push}
use Rattle.link_holds.specs.Events.{settled}
use Rattle.world_answers.specs.ReturnsPart.FinalTurns.Laws.{FinalsGoOn, SettlingKeepsExits}
use Rattle.world_answers.specs.ReturnsPart.FinalTurns.Table.{finis}

exits_by : (w : Setting) (s t : State) → t.endings ≡ s.endings → IsTrue (have_exited w s) → IsTrue (have_exited w t)
exits_by w s t same over =
    subst (λ (es : List Ending). IsTrue (nat_le w.machine.harts (length es) && list_all exited (take w.machine.harts es))) (sym same) over

endings_stay : (past : List Event) (h : ℕ) (objects : List ℕ) → (after (past ++ finis h objects)).endings ≡ (after past).endings
endings_stay past h [] = ap (λ (es : List Event). (after es).endings) (append-nil past)
endings_stay past h (d ∷ rest) =
    ap (λ (es : List Event). (after es).endings) (sym (append_assoc past (Fini h d ∷ []) (finis h rest))) ∙ endings_stay (past ++ Fini h d ∷ []) h rest
    ∙ ap (λ (s : State). s.endings) (after_push past (Fini h d))

pub go_on : FinalsGoOn
go_on w past h object over own next = record {
  own = own;
  next = λ before d rest is. next (past ++ finis h before) d rest (exits_by w (after past) (after (past ++ finis h before)) (endings_stay past h before) over) is;
}

pub exits_stay : SettlingKeepsExits
exits_stay w past grant saw true over = exits_by w (after past) (after (past ++ settled grant true saw ∷ [])) (ap (λ (s : State). s.endings) (after_push past (settled grant true saw))) over
exits_stay w past grant saw false over = exits_by w (after past) (after (past ++ settled grant false saw ∷ [])) (ap (λ (s : State). s.endings) (after_push past (settled grant false saw))) over
