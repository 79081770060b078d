-- What a call asks of thread-local storage, and what comes of it where there is no room.
use Rattle.std.proofs.Common.{◌≡◌, ℕ, true, false, List, ◌∷◌, ◌++◌, [], length, drop, refl, sym, ap, ◌∙◌, arith}
use Rattle.std.proofs.lemmas.Bool.{false≢true}
use Rattle.std.specs.Prelude.{IsTrue}
use Rattle.std.specs.Result.{OnOk, is_err}
use Rattle.std.specs.declared.result.Result.{Result}
use Rattle.std.specs.declared.result.Result.TheVariants.{Ok, Err}
use Rattle.history_event.specs.declared.event.Event.{Event}
use Rattle.history_event.specs.declared.event.Event.TheVariants as events
use Rattle.history_event.specs.declared.hart_end.HartEnd.TheVariants as ends
use Rattle.history_state.specs.After.{after}
use Rattle.history_state.specs.Allowed.{MayEnd}
use Rattle.history_state.specs.Setting.{Setting}
use Rattle.history_calls.specs.Call.{Call, resolves, opens, looks_up, closes, unmaps, asks_fault, locates, writes, stops}
use Rattle.history_calls.specs.Ends.{EndsAs, takes_memory}
use Rattle.hart_moves.specs.Due.{Due, due}
use Rattle.hart_moves.specs.Harts.{HartState}
use Rattle.hart_moves.specs.Moves.{ended, spent}
use Rattle.link_state.specs.Table.{LinkTable, appended}
use Rattle.world_memory.specs.declared.turn_answers.answered.MemoryChange.{MemoryChange}
use Rattle.world_memory.specs.declared.turn_answers.answered.MemoryChange.TheVariants as change
use Rattle.world_answers.specs.Answers.{is_service}
use Rattle.world_answers.specs.GuestsPart.Lemmas.Counting.{spare_counts}
use Rattle.world_turns.specs.Counts.{Counts, ShowInCounts}
use Rattle.link_keeper.specs.Acting.{Acts, AsksStorage, OpenNothing, asks, gives_block, may_give_block}
use Rattle.link_keeper.specs.declared.acting.Reply.{Reply}
use Rattle.link_keeper.specs.declared.acting.Reply.TheVariants as reply
use Rattle.link_keeper.specs.declared.acting.Storage.{Storage}
use Rattle.link_keeper.specs.declared.acting.Storage.TheVariants as storage
use Rattle.link_keeper.proofs.Acted.{IsFree, never}
use Rattle.link_keeper.proofs.Premises.{IsCall, is_call}
use Rattle.link_keeper.proofs.Taken.{end_acts, refuse_none}

pub on_ok : {T E P : Type 0} (r : Result T E) → is_err r ≡ false → OnOk r P → P
on_ok (Ok x) is p = p
on_ok (Err e) is p = absurd (false≢true (sym is))

pub stores : (b : HartState) (d : Due) (asked : Storage) → AsksStorage b d asked → asks asked ≡ true → may_give_block d ≡ true
stores b d storage.Nothing x some = never some
stores b d storage.LookUp x some = x.0
stores b d (storage.Locate number offset) x some = ap may_give_block x

pub asks_it : (b : HartState) (d : Due) (asked : Storage) → AsksStorage b d asked → may_give_block d ≡ true → asks asked ≡ true
asks_it b d storage.Nothing x gives = absurd (false≢true (sym x ∙ gives))
asks_it b d storage.LookUp x gives = refl
asks_it b d (storage.Locate number offset) x gives = refl

takes_it : (call : Call) → gives_block call ≡ true → IsTrue (takes_memory call)
takes_it (resolves owner eights) gives = never gives
takes_it (opens ask) gives = never gives
takes_it (looks_up ask) gives = refl
takes_it (closes handle) gives = never gives
takes_it (unmaps set) gives = never gives
takes_it asks_fault gives = never gives
takes_it (locates number offset) gives = refl
takes_it (writes bytes) gives = never gives
takes_it (stops reason) gives = never gives

-- without room the call ends its hart
pub roomless_acts : (w : Setting) (past : List Event) (old new : LinkTable) (h : ℕ) (b c : HartState) (asked : Storage) (does : MemoryChange) (answer : Reply) (spare : ℕ) → old.events ≡ past
    → IsFree b (due (after past) b) → is_service (due (after past) b) ≡ true → AsksStorage b (due (after past) b) asked → asks asked ≡ true → MayEnd w (after past) h
    → new ≡ appended old (events.Ended h ends.Memory) → c ≡ ended ends.Memory (spent b) → does ≡ change.Nothing → answer ≡ reply.Events → Acts w past new h b c spare does answer
roomless_acts w past old new h b c asked does answer spare before f service x some may noted left nothing same =
    let call : IsCall (due (after past) b) = is_call (due (after past) b) service in
    end_acts w past new h b c call.call call.back ends.Memory does answer spare f call.is
    (EndsAs.no_memory call.call (takes_it call.call (sym (ap may_give_block call.is) ∙ stores b (due (after past) b) asked x some))) may
    (ap (λ (t : LinkTable). t.events) noted ∙ ap (λ (es : List Event). es ++ events.Ended h ends.Memory ∷ []) before) left nothing same

-- nothing was opened
pub quiet_shown : (folders : List (List ℕ)) (past new : List Event) (counts : Counts) → OpenNothing (drop (length past) new) → ShowInCounts folders (drop (length past) new) counts counts
quiet_shown folders past new counts none =
    spare_counts folders counts counts (drop (length past) new) (record { faults = omega arith; misses = omega arith }) (refuse_none (drop (length past) new) none)
