-- How a closing returns.
use Rattle.std.proofs.Common.{◌≡◌, ℕ, suc, List, [], ◌∷◌, ◌++◌, length, refl, sym, ap, subst, ◌∙◌, arith}
use Rattle.ld_base.specs.declared.linking.Role.TheVariants.{None as NoRole}
use Rattle.history_event.specs.declared.event.Event.{Event}
use Rattle.history_event.specs.declared.event.Event.TheVariants.{Unmapped}
use Rattle.history_event.specs.declared.handed.Function.{Function}
use Rattle.history_state.specs.Accepted.{AcceptsOnly}
use Rattle.history_state.specs.After.{after}
use Rattle.history_state.specs.Allowed.{Allowed}
use Rattle.history_state.specs.Changes.{ChangesMemory}
use Rattle.history_state.specs.Legal.{Lawful}
use Rattle.history_state.specs.Memory.{role_at}
use Rattle.history_state.specs.Setting.{Machine, Setting}
use Rattle.history_state.specs.State.{State}
use Rattle.history_state.specs.Lemmas.History.{after_push}
use Rattle.history_calls.specs.Answer.{returns}
use Rattle.history_calls.specs.Call.{unmaps}
use Rattle.history_calls.specs.Functions.{left}
use Rattle.history_calls.specs.Gives.{EventAnswers, Gives}
use Rattle.hart_moves.specs.Harts.{Frame, HartState, Purpose}
use Rattle.hart_moves.specs.Moves.{Did, events_of, freed, runs, spent}
use Rattle.hart_moves.specs.Registers.{returned}
use Rattle.hart_moves.specs.TurnFrames.Closings.{ClosesAtOnce, UnmapsNext, ReturnsBehind, UnmapsAll, closing_frame, emptied}
use Rattle.hart_moves.specs.TurnFrames.Leaves.{AreFrames, LeavesFrames, behind_all, behind_first}
use Rattle.hart_moves.specs.TurnFrames.Lemmas.Turning.{turns_leave_frames}

pub closes_at_once : ClosesAtOnce
closes_at_once w past given h handle value (Gives.by_event call e answer (EventAnswers.stays at) may) = (refl, refl)

pub unmaps_next : UnmapsNext
unmaps_next w past before h to b c did set functions below x none =
    let is : c ≡ spent (runs (Purpose.of_closing to set) [] below (freed b)) = x.leaves ∙ ap (λ (fs : List Function). spent (runs (Purpose.of_closing to set) fs below (freed b))) none in
    (ap (λ (z : HartState). z.frames) is, ap (λ (z : HartState). z.registers.pc) is)

-- ---- the frame goes

grows : (x : Frame) (xs : List Frame) → x ∷ xs ≡ xs → ⊥
grows x xs e = let n : suc (length xs) ≡ length xs = ap (λ (fs : List Frame). length fs) e in omega (arith, n)

grows_twice : (x y : Frame) (xs : List Frame) → x ∷ y ∷ xs ≡ xs → ⊥
grows_twice x y xs e = let n : suc (suc (length xs)) ≡ length xs = ap (λ (fs : List Frame). length fs) e in omega (arith, n)

module _ (w : Setting) (past : List Event) (h to : ℕ) (b c : HartState) (did : Did) (set : List ℕ) (queue : List Function) (below : List Frame)
    (was : b.frames ≡ closing_frame to set queue ∷ below) (goes : c.frames ≡ below) where
  abbrev Returns : Type 0
  Returns = (events_of did ≡ Unmapped h set ∷ []) × (c.registers ≡ returned to 0 b.registers)

  -- a frame stands on all of them
  on_all : (x : Frame) → c.frames ≡ x ∷ b.frames → Returns
  on_all x came = absurd (grows_twice x (closing_frame to set queue) below (ap (λ (fs : List Frame). x ∷ fs) (sym was) ∙ sym came ∙ goes))

  -- or on those below
  on_others : (x one : Frame) (others : List Frame) → b.frames ≡ one ∷ others → c.frames ≡ x ∷ others → Returns
  on_others x one others had came =
      let are : closing_frame to set queue ∷ below ≡ one ∷ others = sym was ∙ had in
      let tails : below ≡ others = cc in
      absurd (grows x below (ap (λ (fs : List Frame). x ∷ fs) tails ∙ sym came ∙ goes))

  not_stayed : c.frames ≡ b.frames → Returns
  not_stayed same = absurd (grows (closing_frame to set queue) below (sym was ∙ sym same ∙ goes))

  not_begun : (purpose : Purpose) (functions : List Function) → (AreFrames purpose [] b.frames c.frames → Returns) → AreFrames purpose functions b.frames c.frames → Returns
  not_begun purpose [] none are = none are
  not_begun purpose (f ∷ rest) none are = on_all (record { purpose = purpose; queue = behind_first f ∷ rest }) are

  not_completed : (purpose : Purpose) (f : Function) (rest functions : List Function) (others : List Frame) → b.frames ≡ record { purpose = purpose; queue = f ∷ rest } ∷ others
      → AreFrames purpose functions others c.frames → Returns
  not_completed purpose f rest [] others had came =
      let are : closing_frame to set queue ∷ below ≡ record { purpose = purpose; queue = f ∷ rest } ∷ others = sym was ∙ had in
      let one : closing_frame to set queue ≡ record { purpose = purpose; queue = f ∷ rest } = cc in
      on_others (emptied to set) (record { purpose = purpose; queue = f ∷ rest }) others had
      (subst (λ (q : Purpose). c.frames ≡ behind_all q others) (sym (ap (λ (x : Frame). x.purpose) one)) came)
  not_completed purpose f rest (g ∷ gs) others had came = on_others (record { purpose = purpose; queue = behind_first g ∷ gs }) (record { purpose = purpose; queue = f ∷ rest }) others had came

  behind : LeavesFrames w past h b did c → Returns
  behind (LeavesFrames.stays none same) = not_stayed same
  behind (LeavesFrames.enters purpose f address more rest others had has none pc frames) =
      on_others (record { purpose = purpose; queue = record f { addresses = more } ∷ rest }) (record { purpose = purpose; queue = f ∷ rest }) others had frames
  behind (LeavesFrames.loads to_caller root id ask first rest ranges functions are is frames back entered) = not_begun (Purpose.of_opening to_caller root) (left functions) not_stayed frames
  behind (LeavesFrames.dies to_caller handle first rest functions are is frames back entered) = not_begun (Purpose.of_closing to_caller (first ∷ rest)) (left functions) (on_all (emptied to_caller (first ∷ rest))) frames
  behind (LeavesFrames.completes purpose f rest others not_end had is frames entered) = not_completed purpose f rest (left rest) others had frames
  behind (LeavesFrames.unmaps ra gone others had is frames registers) =
      let one : closing_frame to set queue ∷ below ≡ emptied ra gone ∷ others = sym was ∙ had in
      let frame : closing_frame to set queue ≡ emptied ra gone = cc in
      let purpose : Purpose.of_closing to set ≡ Purpose.of_closing ra gone = ap (λ (x : Frame). x.purpose) frame in
      let sets : gone ≡ set = cc in
      let back : ra ≡ to = cc in
      (is ∙ ap (λ (os : List ℕ). Unmapped h os ∷ []) sets, registers ∙ ap (λ (n : ℕ). returned n 0 b.registers) back)
  behind (LeavesFrames.finalises code f rest others events next had finals is frames entered) = absurd (
      let are : closing_frame to set queue ∷ below ≡ record { purpose = Purpose.of_end code; queue = f ∷ rest } ∷ others = sym was ∙ had in
      let one : closing_frame to set queue ≡ record { purpose = Purpose.of_end code; queue = f ∷ rest } = cc in
      let no : Purpose.of_closing to set ≡ Purpose.of_end code = ap (λ (x : Frame). x.purpose) one in cc)

pub returns_behind : ReturnsBehind
returns_behind w past h to b c did set queue below moves was goes = behind w past h to b c did set queue below was goes (turns_leave_frames w past h b c did moves)

-- ---- what is unmapped

unmapped : (w : Setting) (past given : List Event) (h value : ℕ) (set : List ℕ) → Gives w past h (unmaps set) given (returns value) → (value ≡ 0) × (given ≡ Unmapped h set ∷ []) × Allowed w past (Unmapped h set)
unmapped w past given h value set (Gives.by_event call e answer (EventAnswers.is_unmapped gone) may) = (refl, refl, may)

pub unmaps_all : ((m : Machine) (w : Setting) (past : List Event) (e : Event) → w.machine ≡ m → AcceptsOnly m → Lawful m past → Allowed w past e → ChangesMemory (after past) e) → UnmapsAll
unmaps_all changes m w past given h value set same only lawful gives =
    let x = unmapped w past given h value set gives in (
      x.0,
      x.1,
      λ r a there covered.
          subst (λ (es : List Event). role_at (after (past ++ es)) a ≡ NoRole) (sym x.1)
          (subst (λ (s : State). role_at s a ≡ NoRole) (sym (after_push past (Unmapped h set))) ((changes m w past (Unmapped h set) same only lawful x.2).taken_after r a there covered)),
    )
