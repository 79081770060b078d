-- What a hart that fits its journal shows of a call.
use Rattle.std.proofs.Common.{◌≡◌, ◌⊎◌, inl, inr, ℕ, ◌<◌, true, false, refl, List, [], ◌∷◌, ◌++◌, map, None, sym, ap, subst, ◌∙◌}
use Rattle.std.proofs.lemmas.Bool.{false≢true}
use Rattle.history_event.specs.declared.event.Event.{Event}
use Rattle.history_event.specs.declared.handed.Function.{Function}
use Rattle.history_state.specs.After.{after}
use Rattle.history_state.specs.Allowed.{MayEnd}
use Rattle.history_state.specs.Legal.{Lawful, Legal}
use Rattle.history_state.specs.Lemmas.History.{legal_is_lawful}
use Rattle.history_state.specs.Owed.{ends_at_most, times_ended}
use Rattle.history_state.specs.Setting.{Machine, Setting}
use Rattle.history_state.specs.State.{State}
use Rattle.history_calls.specs.CallLaws.Coming.{IsOn}
use Rattle.history_calls.specs.Call.{Call, unmaps}
use Rattle.history_calls.specs.Functions.{passed}
use Rattle.history_calls.specs.Waiting.{HasFinished}
use Rattle.history_journal.specs.Following.{MayFollow, machine_of}
use Rattle.history_event.specs.declared.event.Event.TheVariants.{Ended}
use Rattle.history_event.specs.declared.hart_end.HartEnd.{HartEnd}
use Rattle.hart_moves.specs.Due.{Due, Return, due}
use Rattle.hart_moves.specs.Harts.{Frame, HartState, Purpose}
use Rattle.hart_moves.specs.Moves.{AreAllowed, passing}
use Rattle.hart_moves.specs.TurnEvents.Appends.{is_of_end}
use Rattle.hart_moves.specs.TurnEvents.Lemmas.Dues.{IsFrom}
use Rattle.world_turns.specs.WorldFrames.Belong.{FramesFit}
use Rattle.world_turns.specs.WorldFrames.Finals.{final_frame}
use Rattle.world_turns.specs.TurnWrites.Laws.{ServedMayBeWritten}
use Rattle.world_turns.specs.WorldFrames.Laws.{FramesFinish, FramesPass}
use Rattle.hart_fits.specs.Fits.{FitsMayEnd, HartFits, IsBefore, IsInFinals}
use Rattle.hart_linker.specs.Serving.{is_asking}
use Rattle.link_state.specs.Table.{LinkTable}
use Rattle.world_answers.specs.Answers.{is_service, is_wait}
use Rattle.world_answers.specs.GuestsPart.GuestWorlds.Worlds.{MayEndNow}
use Rattle.world_answers.specs.GuestsPart.Taking.{MakesCall}
use Rattle.world_answers.specs.ReturnsPart.Completing.{MayPass, is_complete}
use Rattle.link_keeper.specs.Acting.{MayAct, MayCall}
use Rattle.link_keeper.proofs.Acted.{IsFree, is_free}

-- ---- ends

abbrev pub bare : Machine → Setting
bare m = record { machine = m; folders = []; files = None; preload = [] }

-- it may end in each run on the machine
pub ends_on : (w : Setting) (m : Machine) (s : State) (h : ℕ) → w.machine ≡ m → MayEnd w s h → (v : Setting) → IsOn m v → MayEnd v s h
ends_on w m s h same may v on = subst (λ (n : Machine). MayEnd (bare n) s h) (same ∙ sym on) may

-- ---- functions that have run

-- the innermost frame, which is none of the final destructors'
top_fits : (s : State) (h : ℕ) (code : ℕ) (f : Function) (above : List Frame) (purpose : Purpose) (queue : List Function) (below : List Frame)
    → record { purpose = purpose; queue = queue } ∷ below ≡ above ++ final_frame code f ∷ [] → is_of_end purpose ≡ false → FramesFit s h above
    → (rest : List Frame) × FramesFit s h (record { purpose = purpose; queue = queue } ∷ rest)
top_fits s h code f [] purpose queue below are not fit =
    let both : record { purpose = purpose; queue = queue } ∷ below ≡ final_frame code f ∷ [] = are in
    let same : record { purpose = purpose; queue = queue } ≡ final_frame code f = cc in
    absurd (false≢true (sym not ∙ ap (λ (x : Frame). is_of_end x.purpose) same))
top_fits s h code f (x ∷ above) purpose queue below are not fit =
    let both : record { purpose = purpose; queue = queue } ∷ below ≡ x ∷ (above ++ final_frame code f ∷ []) = are in
    let same : record { purpose = purpose; queue = queue } ≡ x = cc in
    (above, subst (λ (y : Frame). FramesFit s h (y ∷ above)) (sym same) fit)

pub passes_all : FramesPass → (w : Setting) (past : List Event) (h : ℕ) (b : HartState) (purpose : Purpose) (object : ℕ) (rest : List Function) (below : List Frame) → Legal w past → HartFits w past h b
    → IsFrom b (Due.complete purpose object rest below) → AreAllowed w past (map (passing purpose h) (object ∷ passed rest))
passes_all pass w past h b purpose object rest below legal fits from =
    subst (λ (o : ℕ). AreAllowed w past (map (passing purpose h) (o ∷ passed rest))) from.0.is (by fits.place)
  where
    by : IsBefore past h b ⊎ IsInFinals w past h b → AreAllowed w past (map (passing purpose h) (from.0.function.object ∷ passed rest))
    by (inl before) = pass w past h purpose from.0.function rest below legal (subst (FramesFit (after past) h) from.0.before before.frames)
    by (inr last) =
        let top = top_fits (after past) 0 last.frames.code last.frames.function last.frames.above purpose (from.0.function ∷ rest) below (sym from.0.before ∙ last.frames.are) from.1 last.frames.fit in
        pass w past h purpose from.0.function rest top.0 legal (subst (λ (n : ℕ). FramesFit (after past) n (record { purpose = purpose; queue = from.0.function ∷ rest } ∷ top.0)) (sym last.first) top.1)

-- a closing of which no object is left to finalise has finished
pub finished_all : FramesFinish → (w : Setting) (past : List Event) (h : ℕ) (b : HartState) (set : List ℕ) (to : Return) → Legal w past → HartFits w past h b → IsFrom b (Due.serve (unmaps set) to)
    → HasFinished (after past) h set
finished_all finish w past h b set to legal fits from = by fits.place
  where
    by : IsBefore past h b ⊎ IsInFinals w past h b → HasFinished (after past) h set
    by (inl before) = finish w past h to.to set to.frames legal (subst (FramesFit (after past) h) from before.frames)
    by (inr last) =
        let top = top_fits (after past) 0 last.frames.code last.frames.function last.frames.above (Purpose.of_closing to.to set) [] to.frames (sym from ∙ last.frames.are) refl last.frames.fit in
        finish w past h to.to set top.0 legal (subst (λ (n : ℕ). FramesFit (after past) n (record { purpose = Purpose.of_closing to.to set; queue = [] } ∷ top.0)) (sym last.first) top.1)

pub may_pass : FramesPass → (w : Setting) (past : List Event) (h : ℕ) (b : HartState) → Legal w past → HartFits w past h b → (harts : ℕ) → w.machine ≡ machine_of harts → (d : Due) → IsFrom b d → MayPass harts past h d
may_pass pass w past h b legal fits harts on Due.nothing from = tt
may_pass pass w past h b legal fits harts on (Due.exchange o) from = tt
may_pass pass w past h b legal fits harts on (Due.finish o found) from = tt
may_pass pass w past h b legal fits harts on Due.fuel_out from = tt
may_pass pass w past h b legal fits harts on Due.instruction from = tt
may_pass pass w past h b legal fits harts on (Due.copy copy start bytes) from = tt
may_pass pass w past h b legal fits harts on (Due.serve call back) from = tt
may_pass pass w past h b legal fits harts on (Due.wait for) from = tt
may_pass pass w past h b legal fits harts on (Due.store text stored word more) from = tt
may_pass pass w past h b legal fits harts on (Due.enter function frames) from = tt
may_pass pass w past h b legal fits harts on (Due.complete purpose object rest below) from =
    record { setting = w; machine = on; may = passes_all pass w past h b purpose object rest below legal fits from }
may_pass pass w past h b legal fits harts on (Due.finalise code object) from = tt

-- ---- a call

pub record IsCall (d : Due) : Type 0 where
  pub call : Call
  pub back : Return
  pub is : d ≡ Due.serve call back

pub is_call : (d : Due) → is_service d ≡ true → IsCall d
is_call Due.nothing is = absurd (false≢true is)
is_call (Due.exchange o) is = absurd (false≢true is)
is_call (Due.finish o found) is = absurd (false≢true is)
is_call Due.fuel_out is = absurd (false≢true is)
is_call Due.instruction is = absurd (false≢true is)
is_call (Due.copy copy start bytes) is = absurd (false≢true is)
is_call (Due.serve call back) is = record { call = call; back = back; is = refl }
is_call (Due.wait for) is = absurd (false≢true is)
is_call (Due.store text stored word more) is = absurd (false≢true is)
is_call (Due.enter function frames) is = absurd (false≢true is)
is_call (Due.complete purpose object rest below) is = absurd (false≢true is)
is_call (Due.finalise code object) is = absurd (false≢true is)

-- a turn that asks, that isn't the one in which functions have run, and that doesn't wait still, is one
pub asks_call : (d : Due) → is_asking d ≡ true → is_complete d ≡ false → is_wait d ≡ false → is_service d ≡ true
asks_call Due.nothing asks other goes = absurd (false≢true asks)
asks_call (Due.exchange o) asks other goes = absurd (false≢true asks)
asks_call (Due.finish o found) asks other goes = absurd (false≢true asks)
asks_call Due.fuel_out asks other goes = absurd (false≢true asks)
asks_call Due.instruction asks other goes = absurd (false≢true asks)
asks_call (Due.copy copy start bytes) asks other goes = absurd (false≢true asks)
asks_call (Due.serve call back) asks other goes = refl
asks_call (Due.wait for) asks other goes = absurd (false≢true (sym goes))
asks_call (Due.store text stored word more) asks other goes = absurd (false≢true asks)
asks_call (Due.enter function frames) asks other goes = absurd (false≢true asks)
asks_call (Due.complete purpose object rest below) asks other goes = absurd (false≢true (sym other))
asks_call (Due.finalise code object) asks other goes = absurd (false≢true asks)

abbrev pub EndsAreFew : Type 0
EndsAreFew = (w : Setting) (journal : List Event) (hart : ℕ) → Lawful w.machine journal → MayEnd w (after journal) hart → times_ended hart (after journal).endings < ends_at_most hart

module _ (w : Setting) (state : LinkTable) (h : ℕ) (b : HartState) (may : MayAct w state h b) where
  pub free : IsFree b (due (after state.events) b)
  free = is_free (after state.events) b may.asks

  pub within : h < state.harts
  within = subst (λ (m : Machine). h < m.harts) may.machine may.fits.within

  pub passes_here : FramesPass → MayPass state.harts state.events h (due (after state.events) b)
  passes_here pass = may_pass pass w state.events h b may.legal may.fits state.harts may.machine (due (after state.events) b) free.from

  module _ (few : EndsAreFew) (may_end : FitsMayEnd) where
    pub end_here : MayEnd w (after state.events) h
    end_here = may_end w state.events h b may.fits free.runs

    pub ends_now : MayEndNow state.harts state.events h
    ends_now = record {
      hart = within;
      times = few w state.events h (legal_is_lawful w state.events may.legal) end_here;
      may = λ v on. ends_on w (machine_of state.harts) (after state.events) h may.machine end_here v on;
    }

    pub makes_call : FramesFinish → ServedMayBeWritten → is_service (due (after state.events) b) ≡ true → MakesCall state.harts state.events h b
    makes_call finish served calls =
        let x : IsCall (due (after state.events) b) = is_call (due (after state.events) b) calls in
        record {
          call = x.call;
          back = x.back;
          is = x.is;
          may = record {
            started = may.started;
            free = may.free;
            finished = λ set to is. finished_all finish w state.events h b set to may.legal may.fits (subst (IsFrom b) is free.from);
            writes = λ bytes to is. served (after state.events) b bytes to may.fits.writes is;
            «end» = ends_now;
            fuel = free.fuel;
          };
        }

-- its end may follow
pub follows_ended : (harts : ℕ) (journal : List Event) (h : ℕ) (reason : HartEnd) → MayEndNow harts journal h → MayFollow harts journal (Ended h reason)
follows_ended harts journal h reason now = record { setting = bare (machine_of harts); machine = refl; may = now.may (bare (machine_of harts)) refl }

-- a turn that asks is a call where it is none of the others; neither has changed anything
pub carried_call : (w : Setting) (old mid : LinkTable) (h : ℕ) (b c : HartState) → mid ≡ old → c ≡ b → MayAct w old h b → is_complete (due (after old.events) b) ≡ false
    → is_wait (due (after mid.events) c) ≡ false → MayCall w mid h c
carried_call w old mid h b c same left may other goes =
    let due_is : due (after mid.events) c ≡ due (after old.events) b =
    ap (λ (t : LinkTable). due (after t.events) c) same ∙ ap (λ (y : HartState). due (after old.events) y) left in
    subst (λ (t : LinkTable). MayCall w t h c) (sym same) (subst (λ (y : HartState). MayCall w old h y) (sym left) (record {
      may = may;
      calls = asks_call (due (after old.events) b) may.asks other (sym (ap is_wait due_is) ∙ goes);
    }))
