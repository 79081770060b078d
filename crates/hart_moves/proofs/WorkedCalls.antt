-- The worked turns of calls and of functions that the linker has run.
use Rattle.std.proofs.Common.{◌≡◌, ℕ, inl, inr, not, ◌&&◌, cond, List, [], ◌∷◌, ◌++◌, take, Option, None, Some, Ok, Err, refl, sym, ap, subst, append-nil, arith}
use Rattle.std.specs.Option.{is_some}
use Rattle.ld_base.specs.declared.fault.Shown.TheVariants.{OpenGrant}
use Rattle.ld_base.specs.declared.linking.Loaded.{Loaded}
use Rattle.ld_base.specs.declared.linking.Role.TheVariants.{None as NoRole}
use Rattle.history_event.specs.declared.event.Event.{Event}
use Rattle.history_event.specs.declared.event.Event.TheVariants.{Ended, Fini, Told, Wrote}
use Rattle.history_event.specs.declared.hart_end.HartEnd.{HartEnd}
use Rattle.history_event.specs.declared.hart_end.HartEnd.TheVariants.{Misaligned}
use Rattle.rv_hart.specs.declared.bus.BusFault.TheVariants.{Role as RoleFault}
use Rattle.seg_image.specs.Words.{byte_of}
use Rattle.history_state.specs.After.{after, after_from}
use Rattle.history_state.specs.Objects.{has}
use Rattle.history_state.specs.Setting.{Setting}
use Rattle.history_state.specs.State.{State}
use Rattle.history_state.specs.Step.{initialise, loaded}
use Rattle.history_calls.specs.Answer.{again, over, returns}
use Rattle.history_calls.specs.Call.{stops, unmaps, writes}
use Rattle.history_calls.specs.Ends.EndsAs.{asked}
use Rattle.history_calls.specs.Gives.EventAnswers.{is_written}
use Rattle.history_calls.specs.Gives.Gives.{by_event, to_again, to_end}
use Rattle.hart_moves.specs.Copying.{bytes_from, grown, with_bytes}
use Rattle.hart_moves.specs.Due.{by_phase, due}
use Rattle.hart_moves.specs.Follows.{EndsBehind, Follows, Turned}
use Rattle.hart_moves.specs.Harts.{HartState, Purpose}
use Rattle.hart_moves.specs.Moves.{AreAllowed, Finals, did_by, freed_by, own_fini, runs, spent}
use Rattle.hart_moves.specs.Lemmas.Legality.{ended_stays}
use Rattle.hart_moves.specs.WorkedCalls as worked
use Rattle.hart_moves.specs.WorkedCalls.{CompletesBehind, CopiesNoVersion, CopiesSome, EndsAtPair, EndsForMemory, EntersPreinit, LeavesItsOwn, PassesClosed, ReadsNothing, SettlesAtEnd, SkipsItsOwn, StoresFirst, StoresLast, WaitsForGrant, WritesSome}

-- ---- copies

pub reads_nothing : (w : Setting) (past : List Event) → ReadsNothing w past
unfolding due by_phase
reads_nothing w past = record { answer = Err (RoleFault NoRole); comes = record { is = refl; leaves = refl } }

pub copies_some : (w : Setting) (past : List Event) → CopiesSome w past
unfolding due by_phase grown with_bytes bytes_from byte_of
copies_some w past = record { answer = Ok 0x6161616161616161; comes = record { is = refl; leaves = refl } }

pub writes_some : (w : Setting) (past : List Event) → WritesSome w past
unfolding due by_phase
writes_some w past = record {
  appended = Wrote 1 (worked.letters 256) ∷ [];
  answer = returns 256;
  serves = record {
    given = Wrote 1 (worked.letters 256) ∷ [];
    gives = by_event (writes (worked.letters 256)) (Wrote 1 (worked.letters 256)) (returns 256) (is_written (worked.letters 256)) (record { some = omega arith; few = omega arith });
    may_end = λ reason e. absurd (let no : returns 256 ≡ over reason = e in cc);
    are = refl;
  };
  takes = record { is = refl; leaves = refl };
}

pub copies_no_version : (w : Setting) (past : List Event) → CopiesNoVersion w past
unfolding due by_phase grown with_bytes bytes_from byte_of
copies_no_version w past = record { answer = Ok 0x6161616161616161; comes = record { is = refl; leaves = refl } }

pub ends_at_pair : EndsAtPair
unfolding due by_phase after_from initialise loaded
ends_at_pair = record {
  appended = Ended 1 (Misaligned 0x80f070 0x20004) ∷ [];
  answer = over (Misaligned 0x80f070 0x20004);
  serves = record { given = []; gives = to_end (stops (Misaligned 0x80f070 0x20004)) (Misaligned 0x80f070 0x20004) (asked (Misaligned 0x80f070 0x20004) refl); may_end = λ reason e. inl refl; are = refl };
  takes = record { is = refl; leaves = refl };
}

-- ---- stores

pub stores_first : (w : Setting) (past : List Event) → StoresFirst w past
unfolding due by_phase
stores_first w past = record { answer = Ok tt; comes = record { is = refl; leaves = refl } }

pub stores_last : (w : Setting) (past : List Event) → StoresLast w past
unfolding due by_phase
stores_last w past = record { answer = Ok tt; comes = record { is = refl; leaves = refl } }

-- ---- an unmapping

pub waits_for_grant : (w : Setting) (past : List Event) → WaitsForGrant w past
unfolding due by_phase
waits_for_grant w past shows = record {
  appended = [];
  answer = again (OpenGrant 3);
  serves = record { given = []; gives = to_again (unmaps (2 ∷ [])) (OpenGrant 3) shows; may_end = λ reason e. absurd (let no : again (OpenGrant 3) ≡ over reason = e in cc); are = refl };
  takes = record { is = refl; leaves = refl };
}

-- ---- the final destructors

pub passes_closed : (w : Setting) (past : List Event) → PassesClosed w past
unfolding due by_phase
passes_closed w past gone none = inl (record {
  may = subst (λ (es : List Event). AreAllowed w past es) (sym own) tt;
  events = [];
  next = None;
  finals = subst (λ (es : List Event). Finals w 0 (past ++ es) [] None) (sym own) (subst (λ (es : List Event). Finals w 0 es [] None) (sym (append-nil past)) (Finals.no_more past none));
  is = ap (λ (es : List Event). did_by (es ++ [])) (sym own);
  leaves = ap (λ (es : List Event). spent (runs (Purpose.of_end 7) [] [] (freed_by (es ++ []) worked.finisher))) (sym own);
})
  where
    own : own_fini (after past) 0 5 ≡ []
    own = ap (λ (o : Option Loaded). cond (is_some o && not (has (after past).finis 5)) (Fini 0 5 ∷ []) []) gone

pub ends_for_memory : (w : Setting) (past : List Event) → EndsForMemory w past
unfolding due by_phase
ends_for_memory w past may = inr (record { may = may; is = refl; leaves = refl })

-- ---- functions before all others

pub enters_preinit : EntersPreinit
enters_preinit = refl

pub completes_behind : (s : State) → CompletesBehind s
unfolding due by_phase
completes_behind s = refl

-- ---- fuel, and a journal

pub settles_at_end : SettlesAtEnd
unfolding due after_from initialise loaded
settles_at_end = (record { may = inl refl; is = refl; leaves = refl }, refl)

pub skips_its_own : (w : Setting) → SkipsItsOwn w
skips_its_own w b c turn rest to at (Follows.one_more _ _ _ x _ _ _ later none taken more) = none 0 (Told 1 None) (omega arith) (omega (arith, at)) refl refl

pub leaves_its_own : (w : Setting) → LeavesItsOwn w
leaves_its_own w start why reason from ended x = by start.from start.hart x.turns x.to x.ended from ended x.follows x.behind
  where
    none_behind : (to : ℕ) (b : HartState) (first last : HartEnd) → to ≡ 0 → EndsBehind w (Told 1 None ∷ []) 1 start.registers to b first last → ⊥
    none_behind to b first last none (EndsBehind.is_another other spares) = spares 0 (Told 1 None) (omega (arith, none)) (omega arith) refl refl
    none_behind to b first last none (EndsBehind.none_runs zeroth spares so) = absurd (omega (arith, zeroth))
    none_behind to b first last none (EndsBehind.none_is_left zeroth spares left) = absurd (omega (arith, zeroth))
    none_behind to b first last none (EndsBehind.no_memory zeroth at lacks spares) = absurd (omega (arith, zeroth))
    none_behind to b first last none (EndsBehind.all_run zeroth at upto begun left turns cause begins follows so spares) = absurd (omega (arith, zeroth))

    by : (from : ℕ) (b : HartState) (turns : List Turned) (to : ℕ) (c : HartState) → from ≡ 0 → b.«end» ≡ Some why → Follows w (Told 1 None ∷ []) 1 from b turns to c
        → EndsBehind w (Told 1 None ∷ []) 1 start.registers to c x.first reason → ⊥
    by from b turns to c none ended (Follows.no_more _ _) behind = none_behind to c x.first reason none behind
    by from b turns to c none ended (Follows.one_more _ _ _ d _ turn rest late spares taken more) behind =
        ended_stays w (take turn.at (Told 1 None ∷ [])) 1 b d turn.did why ended taken.moves
