-- What was the next to be finalised, and whether every hart has exited.
use Rattle.std.proofs.Common.{◌≡◌, Bool, true, false, cond, List, [], ◌∷◌, Option, Some, sym, ap, ◌∙◌}
use Rattle.std.specs.List.{filter, find, slice_get}
use Rattle.history_journal.specs.Following.{machine_of}
use Rattle.history_state.specs.Setting.{Machine, Setting, have_exited}
use Rattle.history_state.specs.State.{State}
use Rattle.trace_replay.specs.Heads.{exits_by}
use Rattle.trace_replay.specs.Lists.{Lists}
use Rattle.trace_replay.specs.Shown.{IsShown}

-- the first that passes
pub first_found : {X : Type 0} (p : X → Bool) (xs : List X) (found : Option X) → find p xs ≡ found → slice_get (filter p xs) 0 ≡ found
first_found {X} p [] found e = e
first_found {X} p (y ∷ xs) found e = at (first_found p xs found) (p y) e
  where
    at : (find p xs ≡ found → slice_get (filter p xs) 0 ≡ found) → (b : Bool) → cond b (Some y) (find p xs) ≡ found → slice_get (cond b (y ∷ filter p xs) (filter p xs)) 0 ≡ found
    at again true f = f
    at again false f = again f

pub exits_are : (w : Setting) (s : State) (l : Lists) → w.machine ≡ machine_of l.harts → IsShown s l → have_exited w s ≡ exits_by l.harts l.endings
exits_are w s l same x = ap (λ (m : Machine). exits_by m.harts s.endings) same ∙ ap (exits_by l.harts) (sym x.endings)
