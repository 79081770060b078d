-- Once the first hart's way has come to its end, what was initialised is finalised, where every hart ended once, by exit.
use Rattle.std.proofs.Common.{◌≡◌, ◌⊎◌, inl, inr, ℕ, zero, suc, ◌+◌, ◌≤◌, ◌<◌, List, [], ◌∷◌, ◌++◌, length, take, drop, Some, None, refl, sym, ap, subst, ◌∙◌, append_assoc, append-nil, length-append, arith}
use Rattle.std.specs.Prelude.{IsTrue}
use Rattle.std.specs.List.{Contains, slice_get}
use Rattle.std.proofs.lemmas.Bool.{and_parts, eqb-true, true≢false}
use Rattle.std.proofs.lemmas.List.{length-take-le, take-append-drop, take-take}
use Rattle.history_event.specs.declared.event.Event.{Event}
use Rattle.history_event.specs.declared.event.Event.TheVariants as events
use Rattle.history_event.specs.declared.hart_end.HartEnd.{HartEnd}
use Rattle.history_event.specs.declared.hart_end.HartEnd.TheVariants as ends_of
use Rattle.history_event.specs.declared.hart_end.HartEnd.TheVariants.{Memory}
use Rattle.history_event.specs.declared.state.Ending.{Ending}
use Rattle.history_state.specs.After.{after}
use Rattle.history_state.specs.Lemmas.History.{after_push, one_behind}
use Rattle.history_state.specs.Lemmas.Lists.{here, later}
use Rattle.history_state.specs.Setting.{Setting, are_finals, have_exited}
use Rattle.history_state.specs.State.{State}
use Rattle.history_state.specs.Step.{step}
use Rattle.history_calls.specs.Laws.{hart_of}
use Rattle.history_calls.specs.Lemmas.Ends.{step_ends, told_by}
use Rattle.hart_moves.specs.Follows.{EndsBehind, Follows, FollowsToItsEnd, HasNone, LacksList, Turned}
use Rattle.hart_moves.specs.Harts.{HartState}
use Rattle.hart_moves.specs.Laws.{EndedStays}
use Rattle.hart_moves.specs.Moves.{all_finis, events_of}
use Rattle.hart_moves.specs.Starting.{HartStart, finalising_hart}
use Rattle.rv_hart.specs.Registers.{Registers}
use Rattle.hart_moves.specs.TurnEvents.Appends.{Appends}
use Rattle.hart_moves.specs.TurnEvents.Laws.{TurnsAppend}
use Rattle.link_keeper.specs.Keeping.{FirstGoesOn}

-- ---- how many harts have ended

abbrev pub ended_in : List Event → ℕ
ended_in journal = length (after journal).endings

push_ends : (past : List Event) (e : Event) → ended_in (past ++ e ∷ []) ≡ ended_in past + length (told_by e)
push_ends past e = ap (λ (s : State). length s.endings) (after_push past e) ∙ ap (λ (es : List Ending). length es) (step_ends (after past) e) ∙ length-append (after past).endings (told_by e)

pub ends_grow : (past more : List Event) → ended_in past ≤ ended_in (past ++ more)
ends_grow past [] = subst (λ (es : List Event). ended_in past ≤ ended_in es) (sym (append-nil past)) (omega arith)
ends_grow past (e ∷ rest) =
    let behind : ended_in (past ++ e ∷ []) ≤ ended_in (past ++ e ∷ rest) =
    subst (λ (es : List Event). ended_in (past ++ e ∷ []) ≤ ended_in es) (one_behind past e rest) (ends_grow (past ++ e ∷ []) rest) in
    let one = push_ends past e in
    omega (arith, behind, one)

-- an end behind these is one more
ends_rise : (past front rest : List Event) (h : ℕ) (reason : HartEnd) → ended_in past + 1 ≤ ended_in (past ++ (front ++ events.Ended h reason ∷ rest))
ends_rise past [] rest h reason =
    let behind : ended_in (past ++ events.Ended h reason ∷ []) ≤ ended_in (past ++ events.Ended h reason ∷ rest) =
    subst (λ (es : List Event). ended_in (past ++ events.Ended h reason ∷ []) ≤ ended_in es) (one_behind past (events.Ended h reason) rest) (ends_grow (past ++ events.Ended h reason ∷ []) rest) in
    let one : ended_in (past ++ events.Ended h reason ∷ []) ≡ ended_in past + 1 = push_ends past (events.Ended h reason) in
    omega (arith, behind, one)
ends_rise past (e ∷ front) rest h reason =
    let behind : ended_in (past ++ e ∷ []) + 1 ≤ ended_in (past ++ (e ∷ front ++ events.Ended h reason ∷ rest)) =
    subst (λ (es : List Event). ended_in (past ++ e ∷ []) + 1 ≤ ended_in es) (one_behind past e (front ++ events.Ended h reason ∷ rest)) (ends_rise (past ++ e ∷ []) front rest h reason) in
    let one = push_ends past e in
    omega (arith, behind, one)

pub exited_many : (w : Setting) (s : State) → IsTrue (have_exited w s) → w.machine.harts ≤ length s.endings
exited_many w s over = grind (arith, and_parts, over)

finals_exited : (w : Setting) (s : State) → IsTrue (are_finals w s) → IsTrue (have_exited w s)
finals_exited w s finals = (and_parts _ _ finals).1

finals_once : (w : Setting) (s : State) → IsTrue (are_finals w s) → length s.endings ≡ w.machine.harts
finals_once w s finals = eqb-true (length s.endings) w.machine.harts (and_parts _ _ finals).0

-- ---- nobody's events leave what is to be finalised

nobodys_step : (s : State) (e : Event) → hart_of e ≡ None → all_finis (step s e) ≡ all_finis s
nobodys_step s (events.Bound number) none = refl
nobodys_step s (events.Lost number saw) none = refl
nobodys_step s (events.Open hart ask answer) none = absurd (let no : Some hart ≡ None = none in cc)
nobodys_step s (events.Close hart handle answer) none = absurd (let no : Some hart ≡ None = none in cc)
nobodys_step s (events.Unmapped hart set) none = absurd (let no : Some hart ≡ None = none in cc)
nobodys_step s (events.Grant number hart owner slot choice value) none = absurd (let no : Some hart ≡ None = none in cc)
nobodys_step s (events.Unresolved hart owner slot choice) none = absurd (let no : Some hart ≡ None = none in cc)
nobodys_step s (events.Sym hart ask answer) none = absurd (let no : Some hart ≡ None = none in cc)
nobodys_step s (events.Tls hart owner address) none = absurd (let no : Some hart ≡ None = none in cc)
nobodys_step s (events.Init hart object) none = absurd (let no : Some hart ≡ None = none in cc)
nobodys_step s (events.Fini hart object) none = absurd (let no : Some hart ≡ None = none in cc)
nobodys_step s (events.Wrote hart bytes) none = absurd (let no : Some hart ≡ None = none in cc)
nobodys_step s (events.Told hart fault) none = absurd (let no : Some hart ≡ None = none in cc)
nobodys_step s (events.Ended hart reason) none = absurd (let no : Some hart ≡ None = none in cc)

-- several of them leave that, and who has ended
pub nobodys_leave : (past more : List Event) → ((e : Event) → Contains more e → hart_of e ≡ None) → all_finis (after (past ++ more)) ≡ all_finis (after past)
nobodys_leave past [] nobodys = ap (λ (es : List Event). all_finis (after es)) (append-nil past)
nobodys_leave past (e ∷ rest) nobodys =
    ap (λ (es : List Event). all_finis (after es)) (sym (one_behind past e rest))
    ∙ nobodys_leave (past ++ e ∷ []) rest (λ x there. nobodys x (later e rest x there))
    ∙ ap all_finis (after_push past e) ∙ nobodys_step (after past) e (nobodys e (here e rest))

nobodys_told : (e : Event) → hart_of e ≡ None → told_by e ≡ []
nobodys_told (events.Ended hart reason) none = absurd (let no : Some hart ≡ None = none in cc)
nobodys_told _ none = refl

pub nobodys_end : (past more : List Event) → ((e : Event) → Contains more e → hart_of e ≡ None) → (after (past ++ more)).endings ≡ (after past).endings
nobodys_end past [] nobodys = ap (λ (es : List Event). (after es).endings) (append-nil past)
nobodys_end past (e ∷ rest) nobodys =
    ap (λ (es : List Event). (after es).endings) (sym (one_behind past e rest))
    ∙ nobodys_end (past ++ e ∷ []) rest (λ x there. nobodys x (later e rest x there))
    ∙ ap (λ (s : State). s.endings) (after_push past e) ∙ step_ends (after past) e
    ∙ ap (λ (es : List Ending). (after past).endings ++ es) (nobodys_told e (nobodys e (here e rest))) ∙ append-nil (after past).endings

got_behind : (past : List Event) (e : Event) (rest : List Event) → slice_get (past ++ e ∷ rest) (length past) ≡ Some e
got_behind [] e rest = refl
got_behind (x ∷ past) e rest = got_behind past e rest

-- where they begin it runs
begun_runs : (code object : ℕ) (addresses : List ℕ) (registers : Registers) (ended : HartState)
    → (finalising_hart registers code (record { object = object; addresses = addresses }) ended).«end» ≡ None
begun_runs code object [] registers ended = refl
begun_runs code object (a ∷ more) registers ended = refl

-- ---- the first hart in the final destructors

module _ (append : TurnsAppend) (stays : EndedStays) (w : Setting) (journal : List Event) (alone : FirstGoesOn w journal) (finals : IsTrue (are_finals w (after journal)))
    (at : ℕ) (over : IsTrue (have_exited w (after (take at journal)))) where
  all_over : w.machine.harts ≤ ended_in (take at journal)
  all_over = exited_many w (after (take at journal)) over

  split : (n : ℕ) → journal ≡ take n journal ++ drop n journal
  split n = sym (take-append-drop n journal)

  -- what stands before a later moment begins with what stood then
  later_front : (n : ℕ) → at ≤ n → (since : List Event) × (take n journal ≡ take at journal ++ since)
  later_front n low = (drop at (take n journal), sym (take-append-drop at (take n journal)) ∙ ap (λ (es : List Event). es ++ drop at (take n journal)) (take-take at n journal low))

  -- no hart ends once more
  no_second : (n : ℕ) (front : List Event) (reason : HartEnd) (rest : List Event) → at ≤ n → journal ≡ take n journal ++ (front ++ events.Ended 0 reason ∷ rest) → ⊥
  no_second n front reason rest low are =
      let before = later_front n low in
      let grown : ended_in (take at journal) ≤ ended_in (take n journal) = subst (λ (es : List Event). ended_in (take at journal) ≤ ended_in es) (sym before.1) (ends_grow (take at journal) before.0) in
      let more : ended_in (take n journal) + 1 ≤ ended_in journal = subst (λ (es : List Event). ended_in (take n journal) + 1 ≤ ended_in es) (sym are) (ends_rise (take n journal) front rest 0 reason) in
      let once = finals_once w (after journal) finals in
      let many = all_over in
      omega (arith, grown, more, once, many)

  -- behind these events, since which the first hart has none, only nobody's come
  only_nobodys : (past more : List Event) → journal ≡ past ++ more → (since : List Event) × (past ≡ take at journal ++ since) → HasNone journal 0 (length past) (length journal)
      → all_finis (after past) ≡ [] → all_finis (after journal) ≡ []
  only_nobodys past [] are before none empty = ap (λ (es : List Event). all_finis (after es)) (are ∙ append-nil past) ∙ empty
  only_nobodys past (e ∷ rest) are before none empty = by (alone past e rest are (take at journal, before.0, before.1, over))
      (λ nobodys. only_nobodys (past ++ e ∷ []) rest (are ∙ sym (one_behind past e rest)) (before.0 ++ e ∷ [], ap (λ (es : List Event). es ++ e ∷ []) before.1 ∙ append_assoc (take at journal) before.0 (e ∷ []))
      (λ k x from to there. none k x (let one : length (past ++ e ∷ []) ≡ length past + 1 = length-append past (e ∷ []) in omega (arith, from, one)) to there)
      (ap all_finis (after_push past e) ∙ nobodys_step (after past) e nobodys ∙ empty))
    where
      is_there : slice_get journal (length past) ≡ Some e
      is_there = subst (λ (es : List Event). slice_get es (length past) ≡ Some e) (sym are) (got_behind past e rest)

      low : length past < length journal
      low = let many : length journal ≡ length past + suc (length rest) = ap length are ∙ length-append past (e ∷ rest) in omega (arith, many)

      by : (hart_of e ≡ Some 0) ⊎ (hart_of e ≡ None) → (hart_of e ≡ None → all_finis (after journal) ≡ []) → all_finis (after journal) ≡ []
      by (inl own) on = absurd (none (length past) e (omega arith) low is_there own)
      by (inr nobodys) on = on nobodys

  -- its turns, to its end
  follows_finish : (from to : ℕ) (b c : HartState) (turns : List Turned) (reason : HartEnd) → Follows w journal 0 from b turns to c → at ≤ from → b.«end» ≡ None → c.«end» ≡ Some reason
      → HasNone journal 0 to (length journal) → all_finis (after journal) ≡ []
  follows_finish from to b c turns reason (Follows.no_more _ _) low runs ends none = absurd (let no : None ≡ Some reason = sym runs ∙ ends in cc)
  follows_finish from to b d turns reason (Follows.one_more _ _ _ c _ turn rest since before takes behind) low runs ends none =
      by (append w (take turn.at journal) 0 b c turn.did takes.moves)
      (λ same. follows_finish (turn.at + length (events_of turn.did)) to c d rest reason behind (omega (arith, low, since)) (same ∙ runs) ends none)
    where
      later_at : at ≤ turn.at
      later_at = omega (arith, low, since)

      past : List Event
      past = take turn.at journal ++ events_of turn.did

      more : List Event
      more = drop (length (events_of turn.did)) (drop turn.at journal)

      are : journal ≡ take turn.at journal ++ (events_of turn.did ++ more)
      are = split turn.at ∙ ap (λ (es : List Event). take turn.at journal ++ es)
          (sym (take-append-drop (length (events_of turn.did)) (drop turn.at journal)) ∙ ap (λ (es : List Event). es ++ more) takes.own)

      by : Appends (take turn.at journal) 0 b turn.did c → (c.«end» ≡ b.«end» → all_finis (after journal) ≡ []) → all_finis (after journal) ≡ []
      by (Appends.no_end spares same) on = on same
      by (Appends.unmapping set is same) on = on same
      by (Appends.an_end front why spares is ended) on = absurd (no_second turn.at front why more later_at
          (are ∙ ap (λ (es : List Event). take turn.at journal ++ (es ++ more)) is ∙ ap (λ (es : List Event). take turn.at journal ++ es) (append_assoc front (events.Ended 0 why ∷ []) more)))
      by (Appends.after_finals code spares finals ended empty) on = over_at (turn.at + length (events_of turn.did)) c rest behind refl ended
        where
          long : length past ≡ turn.at + length (events_of turn.did)
          long = length-append (take turn.at journal) (events_of turn.did) ∙ ap (λ (n : ℕ). n + length (events_of turn.did)) (length-take-le turn.at journal (let inside = takes.within in omega (arith, inside)))

          over_at : (n : ℕ) (x : HartState) (next : List Turned) → Follows w journal 0 n x next to d → n ≡ turn.at + length (events_of turn.did) → x.«end» ≡ Some (ends_of.Exit code)
              → all_finis (after journal) ≡ []
          over_at n x next (Follows.one_more _ _ _ _ _ turned _ _ _ then _) is over_now = absurd (stays w (take turned.at journal) 0 x _ turned.did _ over_now then.moves)
          over_at n x next (Follows.no_more _ _) is over_now =
              let front = later_front turn.at later_at in
              only_nobodys past more (are ∙ sym (append_assoc (take turn.at journal) (events_of turn.did) more))
              (front.0 ++ events_of turn.did, ap (λ (es : List Event). es ++ events_of turn.did) front.1 ∙ append_assoc (take at journal) front.0 (events_of turn.did))
              (subst (λ (m : ℕ). HasNone journal 0 m (length journal)) (is ∙ sym long) none) empty

-- ---- its whole way

module _ (append : TurnsAppend) (stays : EndedStays) (w : Setting) (journal : List Event) (alone : FirstGoesOn w journal) (finals : IsTrue (are_finals w (after journal))) where
  -- it ended twice, but no hart did
  lacks_no : (from at : ℕ) (ended : HartState) → LacksList w journal from ended at → ⊥
  lacks_no from at ended lacks = no_second append stays w journal alone finals at lacks.over at [] Memory (drop (suc at) journal) (omega arith)
      (next_split at journal (events.Ended 0 Memory) lacks.ends)
    where
      next_split : (n : ℕ) (es : List Event) (e : Event) → slice_get es n ≡ Some e → es ≡ take n es ++ e ∷ drop (suc n) es
      next_split n [] e got = absurd (let no : None ≡ Some e = got in cc)
      next_split zero (x ∷ es) e got = let same : x ≡ e = cc in ap (λ (y : Event). y ∷ es) same
      next_split (suc n) (x ∷ es) e got = ap (λ (ys : List Event). x ∷ ys) (next_split n es e got)

  behind_finish : (registers : Registers) (from : ℕ) (ended : HartState) (first reason : HartEnd) → EndsBehind w journal 0 registers from ended first reason → all_finis (after journal) ≡ []
  behind_finish registers from ended first reason (EndsBehind.is_another another none) = absurd (another refl)
  behind_finish registers from ended first reason (EndsBehind.none_runs zeroth none none_over) = absurd (true≢false (sym (finals_exited w (after journal) finals) ∙ none_over))
  behind_finish registers from ended first reason (EndsBehind.none_is_left zeroth none empty) = empty
  behind_finish registers from ended first reason (EndsBehind.no_memory zeroth at lacks none) = absurd (lacks_no from at ended lacks)
  behind_finish registers from ended first reason (EndsBehind.all_run zeroth at to begun last turns _ begins follows ends none) =
      follows_finish append stays w journal alone finals at begins.over at to begun last turns reason follows (omega arith) (ap (λ (b : HartState). b.«end») begins.is ∙ begun_runs begins.code begins.object begins.addresses registers ended) ends none

-- where the first hart's way has come to its end
pub finishes : TurnsAppend → EndedStays → (w : Setting) (journal : List Event) (start : HartStart) (reason : HartEnd) → FirstGoesOn w journal → FollowsToItsEnd w journal start 0 reason
    → IsTrue (are_finals w (after journal)) → all_finis (after journal) ≡ []
finishes append stays w journal start reason alone way finals = behind_finish append stays w journal alone finals start.registers way.to way.ended way.first reason way.behind
