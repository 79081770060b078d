-- In the final destructors the first hart's own moves leave it fit, and it fits where they begin.
use Rattle.std.proofs.Common.{◌≡◌, inl, inr, ⊎_elim, ℕ, ◌≤◌, IsTrue, Bool, true, false, ◌&&◌, nat_le, leb-true, eqb, eq-eqb, List, [], ◌∷◌, ◌++◌, length, take, Some, None, refl, sym, ap, subst, ◌∙◌, arith}
use Rattle.std.specs.Prelude.{◌||◌}
use Rattle.std.specs.List.{list_all, list_any}
use Rattle.std.proofs.lemmas.Bool.{and_parts}
use Rattle.history_event.specs.declared.event.Event.{Event}
use Rattle.history_event.specs.declared.handed.Function.{Function}
use Rattle.history_event.specs.declared.state.Ending.{Ending}
use Rattle.history_state.specs.After.{after}
use Rattle.history_state.specs.Setting.{Machine, Setting, are_finals, exited, have_exited}
use Rattle.history_state.specs.State.{State}
use Rattle.hart_moves.specs.Harts.{Frame, HartState, Phase, Purpose}
use Rattle.hart_moves.specs.Moves.{Moves, events_of}
use Rattle.hart_moves.specs.Starting.{finalising_hart}
use Rattle.hart_moves.specs.TurnEvents.Appends.{Appends, has_finals, is_final_frame}
use Rattle.hart_moves.specs.TurnEvents.Laws.{FinalsStay, TurnsAppend}
use Rattle.hart_moves.specs.TurnFrames.Leaves.{behind_first}
use Rattle.hart_moves.specs.TurnFrames.Lemmas.Turning.{runs_frames, turns_leave_frames}
use Rattle.hart_moves.specs.Lemmas.Legality.{turns_allowed}
use Rattle.world_turns.specs.TurnWrites.Laws.{TurnsKeepWrites}
use Rattle.world_turns.specs.WorldEnds.Lemmas.Endings.{sparing_events, unmapping}
use Rattle.world_turns.specs.WorldFrames.Finals.{final_frame}
use Rattle.world_turns.specs.WorldFrames.Lemmas.Finals.{by_frames, is_next, was_next}
use Rattle.world_turns.specs.WorldFrames.Lemmas.Leaving.{FrameLaws}
use Rattle.hart_fits.specs.Fits.{IsBefore, IsInFinals, OwnMovesLeaveHart}
use Rattle.hart_fits.specs.Finals.{FinalsBeginFit, OwnMovesFit, OwnMovesLeaveFinals}
use Rattle.hart_fits.specs.Lemmas.Waits.{is_waiting, own_moves_leave_waits, waits_none}

-- ---- they go on

is_over : (w : Setting) (s t : State) → t.endings ≡ s.endings → IsTrue (are_finals w s) → IsTrue (are_finals w t)
is_over w s t same over =
    subst (λ (es : List Ending). IsTrue (eqb (length es) w.machine.harts && (nat_le w.machine.harts (length es) && list_all exited (take w.machine.harts es)))) (sym same) over

have_over : (w : Setting) (s : State) → IsTrue (are_finals w s) → IsTrue (have_exited w s)
have_over w s over = (and_parts (eqb (length s.endings) w.machine.harts) (have_exited w s) over).1

any_last : (above : List Frame) (last : Frame) → is_final_frame last ≡ true → list_any is_final_frame (above ++ last ∷ []) ≡ true
any_last [] last is = go (is_final_frame last) is
  where
    go : (t : Bool) → t ≡ true → (t || false) ≡ true
    go true e = refl
    go false e = e
any_last (frame ∷ rest) last is = go (is_final_frame frame) (any_last rest last is)
  where
    go : (t : Bool) → list_any is_final_frame (rest ++ last ∷ []) ≡ true → (t || list_any is_final_frame (rest ++ last ∷ [])) ≡ true
    go true e = refl
    go false e = e

pub own_moves_leave_finals : ((m : Machine) → FrameLaws m) → TurnsAppend → FinalsStay → OwnMovesLeaveFinals
own_moves_leave_finals laws append stays w past b c did lawful moves on is = record {
  first = refl;
  over = over;
  frames = by_frames w (laws w.machine) past lawful b c did is.frames (events_of did) (have_over w (after (past ++ events_of did)) over) still
      (turns_allowed w past 0 b c did moves) refl (turns_leave_frames w past 0 b c did moves);
}
  where
    was : has_finals b.frames ≡ true
    was = ap has_finals is.frames.are ∙ any_last is.frames.above (final_frame is.frames.code is.frames.function) refl

    still : has_finals c.frames ≡ true
    still = stays w past 0 b c did moves was on

    by : Appends past 0 b did c → (after (past ++ events_of did)).endings ≡ (after past).endings
    by (Appends.no_end spares same) = sparing_events past (events_of did) spares
    by (Appends.unmapping set are same) = ap (λ (es : List Event). (after (past ++ es)).endings) are ∙ unmapping past 0 set
    by (Appends.an_end front reason spares are ends) = absurd (let no : Some reason ≡ None = sym ends ∙ on in cc)
    by (Appends.after_finals code spares finals ends all) = absurd (let no : c.«end» ≡ None = on in let x = sym ends ∙ no in cc)

    over : IsTrue (are_finals w (after (past ++ events_of did)))
    over = is_over w (after past) (after (past ++ events_of did)) (by (append w past 0 b c did moves)) is.over

-- ---- they begin

pub finals_begin_fit : FinalsBeginFit
finals_begin_fit w journal registers from ended at begun x once some = record {
  within = some;
  writes = λ bytes is. absurd (let no : Phase.at_pc ≡ Phase.writing bytes = sym at_pc ∙ is in cc);
  waits = waits_none w past 0 begun (ap is_waiting at_pc);
  place = inr (record {
    first = refl;
    over = over;
    frames = record {
      code = x.code;
      function = behind_first f;
      above = [];
      are = ap (λ (b : HartState). b.frames) x.is ∙ runs_frames (Purpose.of_end x.code) (f ∷ []) [] (record ended { registers = registers; phase = Phase.at_pc; frames = []; «end» = None });
      fit = record { origins = []; are = tt; once = tt };
      initialised = (is_next (after past) x.object x.rest x.next).initialised;
      was = was_next w past x.object x.rest x.over x.next;
    };
  });
}
  where
    past : List Event
    past = take at journal

    f : Function
    f = record { object = x.object; addresses = x.addresses }

    phase : (code object : ℕ) (addresses : List ℕ) → (finalising_hart registers code (record { object = object; addresses = addresses }) ended).phase ≡ Phase.at_pc
    phase code object [] = refl
    phase code object (a ∷ more) = refl

    at_pc : begun.phase ≡ Phase.at_pc
    at_pc = ap (λ (b : HartState). b.phase) x.is ∙ phase x.code x.object x.addresses

    long : w.machine.harts ≤ length (after past).endings
    long = leb-true w.machine.harts (length (after past).endings) (and_parts (nat_le w.machine.harts (length (after past).endings)) _ x.over).0

    over : IsTrue (are_finals w (after past))
    over =
        let few : length (after past).endings ≤ w.machine.harts = once in
        let count : length (after past).endings ≡ w.machine.harts = omega (arith, long, few) in
        both (eqb (length (after past).endings) w.machine.harts) (eq-eqb (length (after past).endings) w.machine.harts count) x.over
      where
        both : (t : Bool) → t ≡ true → IsTrue (have_exited w (after past)) → IsTrue (t && have_exited w (after past))
        both true e all = all
        both false e all = absurd (let no : false ≡ true = e in cc)

-- ---- before them and in them

pub own_moves_fit : OwnMovesLeaveHart → OwnMovesLeaveFinals → TurnsKeepWrites → OwnMovesFit
own_moves_fit before finals writes w past h b c did lawful moves runs on fits = record {
  within = fits.within;
  writes = writes w past h b c did moves fits.writes;
  waits = own_moves_leave_waits w past h b c did moves on fits.waits;
  place = ⊎_elim
      (λ (x : IsBefore past h b). inl (before w past h b c did lawful moves runs x))
      (λ (x : IsInFinals w past h b). inr (in_finals x))
      fits.place;
}
  where
    in_finals : IsInFinals w past h b → IsInFinals w (past ++ events_of did) h c
    in_finals x = subst (λ (n : ℕ). IsInFinals w (past ++ events_of did) n c) (sym x.first)
        (finals w past b c did lawful (subst (λ (n : ℕ). Moves w past n b did c) x.first moves) on (subst (λ (n : ℕ). IsInFinals w past n b) x.first x))
