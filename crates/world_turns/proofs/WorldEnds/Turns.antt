-- Turns, the begin of the final destructors and the settling keep the ends of the journal those of the harts.
use Rattle.std.proofs.Common.{◌≡◌, inl, inr, ⊎_elim, ℕ, zero, suc, ◌+◌, Bool, true, false, cond, ◌&&◌, IsTrue, List, [], ◌∷◌, ◌++◌, length, map, Option, Some, None, refl, sym, ap, subst, ◌∙◌, ◌==◌, arith}
use Rattle.std.specs.Prelude.{nat_le, slice_set, take}
use Rattle.std.specs.List.{Contains, list_all, slice_get}
use Rattle.std.specs.Option.{is_some}
use Rattle.std.proofs.lemmas.Bool.{and_parts, eq-eqb, eqb-true, false≢true, le-leb}
use Rattle.std.proofs.lemmas.Option.{none-some}
use Rattle.std.proofs.lemmas.List.{length-set, take_all}
use Rattle.history_event.specs.declared.event.Event.{Event}
use Rattle.history_event.specs.declared.event.Event.TheVariants as events
use Rattle.history_event.specs.declared.hart_end.HartEnd.{HartEnd}
use Rattle.history_event.specs.declared.hart_end.HartEnd.TheVariants as ends
use Rattle.history_event.specs.declared.state.Ending.{Ending}
use Rattle.history_state.specs.After.{after}
use Rattle.history_state.specs.Allowed.{MayEnd}
use Rattle.history_state.specs.Objects.{has}
use Rattle.history_state.specs.Setting.{Setting, are_finals, exited, have_exited, is_exit}
use Rattle.history_state.specs.State.{State}
use Rattle.history_state.specs.Lemmas.Lists.{first_or_later, from_map, has_in, here, later, none_in}
use Rattle.history_calls.specs.Lemmas.Unique.{both_found}
use Rattle.hart_moves.specs.Harts.{HartState, Phase, Purpose}
use Rattle.hart_moves.specs.Moves.{all_finis, ended, events_of, freed, settles}
use Rattle.hart_moves.specs.Starting.{finalising_hart}
use Rattle.hart_moves.specs.Lemmas.Legality.{ended_stays}
use Rattle.hart_moves.specs.TurnEvents.Appends.{Appends, NoneEndsOrUnmaps, has_finals, is_of_end}
use Rattle.hart_moves.specs.TurnEvents.Lemmas.Frames.{first_end, first_some}
use Rattle.hart_moves.specs.TurnEvents.Lemmas.Turning.{finals_away, finals_stay, turns_append}
use Rattle.world_turns.specs.Run.{LacksMemory, exit_code, has_ended, harts_have_exited, settled}
use Rattle.world_turns.specs.Turn.{Turn}
use Rattle.world_turns.specs.World.{World, found_harts, found_journal, settling}
use Rattle.world_turns.specs.Lemmas.Running.{freed_alike}
use Rattle.world_turns.specs.Lemmas.Turning.{freed_at, freed_length}
use Rattle.world_turns.specs.WorldEnds.Ends.{AreEndings, BeforeFinals, InFinals, has_exited}
use Rattle.world_turns.specs.WorldEnds.Laws.{ExitsAreTold, FinalsBegin, FinalsLack, HartsMayEnd, SettlingKeepsBefore, SettlingKeepsInFinals, TurnsKeepBefore, TurnsKeepFinals}
use Rattle.world_turns.specs.WorldEnds.Lemmas.Endings.{an_end, ended_fit, freed_fit, one_longer, sparing_events, same_fit, unmapping}
use Rattle.world_turns.specs.WorldEnds.Lemmas.Places.{all_pass, at_set, count_all, each_passes, exited_ends, freed_here, reason_of, running, runs_on}
use Rattle.world_turns.specs.WorldEnds.Lemmas.Settled.{found_keeps, settling_keeps}

-- ---- what settling leaves

abbrev endings_of : State → List Ending
endings_of s = s.endings

abbrev finals_in : Setting → List Ending → Bool
finals_in w endings = length endings == w.machine.harts && (nat_le w.machine.harts (length endings) && list_all exited (take w.machine.harts endings))

finis_stay : (past : List Event) (harts : List HartState) → all_finis (after (past ++ settling harts)) ≡ all_finis (after past)
finis_stay = settling_keeps (List ℕ) all_finis (λ s number standing. refl)

endings_stay : (past : List Event) (harts : List HartState) → (after (past ++ settling harts)).endings ≡ (after past).endings
endings_stay = settling_keeps (List Ending) endings_of (λ s number standing. refl)

-- as many have ended as there are harts
finals_all : (w : Setting) (endings : List Ending) → finals_in w endings ≡ true → length endings ≡ w.machine.harts
finals_all w endings is =
    eqb-true (length endings) w.machine.harts (and_parts (length endings == w.machine.harts) (nat_le w.machine.harts (length endings) && list_all exited (take w.machine.harts endings)) is).0

-- so no more can be
no_more : (w : Setting) (endings : List Ending) (e : Ending) → length endings ≡ w.machine.harts → finals_in w (endings ++ e ∷ []) ≡ true → ⊥
no_more w endings e all is =
    let longer : length (endings ++ e ∷ []) ≡ length endings + 1 = one_longer endings e in
    let same : length (endings ++ e ∷ []) ≡ w.machine.harts = finals_all w (endings ++ e ∷ []) is in
    past_it w.machine.harts (length (endings ++ e ∷ [])) (length endings) longer same all
  where
    past_it : (n k m : ℕ) → k ≡ m + 1 → k ≡ n → m ≡ n → ⊥
    past_it n k m a b c = omega (arith, a, b, c)

-- ---- ends by exit

abbrev exit_of_end : HartEnd → Option ℕ
exit_of_end reason = elim reason [ ends.Exit code ↦ Some code | _ ↦ None ]

-- ---- a turn

module _ (w : Setting) (h : ℕ) (old new : World) (turn : Turn w h old new) where
  abbrev past : List Event
  past = found_journal old turn.did

  abbrev harts : List HartState
  harts = found_harts old turn.did

  runs : turn.before.«end» ≡ None
  runs = running turn.before.«end» (λ reason over. ended_stays w past h turn.before turn.left turn.did reason over turn.moves)

  appends : Appends past h turn.before turn.did turn.left
  appends = turns_append w past h turn.before turn.left turn.did turn.moves

  found_endings : (after past).endings ≡ (after old.journal).endings
  found_endings = found_keeps (List Ending) endings_of (λ s number standing. refl) old turn.did

  -- the journal's ends after the turn, by what it appended
  sparing_endings : NoneEndsOrUnmaps (events_of turn.did) → (after new.journal).endings ≡ (after old.journal).endings
  sparing_endings spares = ap (λ (es : List Event). (after es).endings) turn.journal ∙ sparing_events past (events_of turn.did) spares ∙ found_endings

  unmapped_endings : (set : List ℕ) → events_of turn.did ≡ events.Unmapped h set ∷ [] → (after new.journal).endings ≡ (after old.journal).endings
  unmapped_endings set is = ap (λ (es : List Event). (after es).endings) (turn.journal ∙ ap (λ (es : List Event). past ++ es) is) ∙ unmapping past h set ∙ found_endings

  end_endings : (front : List Event) (reason : HartEnd) → NoneEndsOrUnmaps front → events_of turn.did ≡ front ++ events.Ended h reason ∷ []
      → (after new.journal).endings ≡ (after old.journal).endings ++ record { hart = h; «end» = reason } ∷ []
  end_endings front reason spares is =
      ap (λ (es : List Event). (after es).endings) (turn.journal ∙ ap (λ (es : List Event). past ++ es) is) ∙ an_end past front h reason spares
      ∙ ap (λ (es : List Ending). es ++ record { hart = h; «end» = reason } ∷ []) found_endings

  -- ---- before the final destructors

  module _ (x : BeforeFinals w old) where
    found_length : (t : Bool) → length (cond t (map freed old.harts) old.harts) ≡ length old.harts
    found_length true = freed_length old.harts
    found_length false = refl

    length_is : length new.harts ≡ w.machine.harts
    length_is = ap (λ (bs : List HartState). length bs) turn.harts ∙ length-set harts h turn.left ∙ found_length (settles turn.did) ∙ x.harts

    found_fit : (t : Bool) → AreEndings (after old.journal).endings (cond t (map freed old.harts) old.harts)
    found_fit true = freed_fit (after old.journal).endings old.harts x.endings
    found_fit false = x.endings

    -- the hart, as the turn finds it
    found_hart : (t : Bool) → (b : HartState) × (slice_get (cond t (map freed old.harts) old.harts) h ≡ Some b) × (b.«end» ≡ turn.before.«end»)
    found_hart true = (freed turn.before, freed_here old.harts h turn.before turn.there, refl)
    found_hart false = (turn.before, turn.there, refl)

    found_none : (t : Bool) (j : ℕ) (b : HartState) → slice_get (cond t (map freed old.harts) old.harts) j ≡ Some b → has_finals b.frames ≡ false
    found_none true j b at = let y = freed_at old.harts j b at in ap (λ (z : HartState). has_finals z.frames) (sym y.2) ∙ x.none j y.0 y.1
    found_none false j b at = x.none j b at

    no_finals : has_finals turn.before.frames ≡ false
    no_finals = x.none h turn.before turn.there

    same_endings : turn.left.«end» ≡ turn.before.«end» → (after new.journal).endings ≡ (after old.journal).endings → AreEndings (after new.journal).endings new.harts
    same_endings same are =
        let b = found_hart (settles turn.did) in
        subst (λ (es : List Ending). AreEndings es new.harts) (sym are)
        (subst (λ (bs : List HartState). AreEndings (after old.journal).endings bs) (sym turn.harts)
        (same_fit (after old.journal).endings harts (found_fit (settles turn.did)) h b.0 turn.left b.1 (same ∙ sym b.2)))

    endings_fit : Appends past h turn.before turn.did turn.left → AreEndings (after new.journal).endings new.harts
    endings_fit (Appends.no_end spares same) = same_endings same (sparing_endings spares)
    endings_fit (Appends.unmapping set is same) = same_endings same (unmapped_endings set is)
    endings_fit (Appends.an_end front reason spares is over) =
        let b = found_hart (settles turn.did) in
        subst (λ (es : List Ending). AreEndings es new.harts) (sym (end_endings front reason spares is))
        (subst (λ (bs : List HartState). AreEndings ((after old.journal).endings ++ record { hart = h; «end» = reason } ∷ []) bs) (sym turn.harts)
        (ended_fit (after old.journal).endings harts (found_fit (settles turn.did)) h b.0 turn.left b.1 reason (b.2 ∙ runs) over))
    endings_fit (Appends.after_finals code spares finals over none) = absurd (false≢true (sym no_finals ∙ finals))

    none_after : (j : ℕ) (b : HartState) → slice_get new.harts j ≡ Some b → has_finals b.frames ≡ false
    none_after j b at = ⊎_elim
        (λ (y : (j ≡ h) × (b ≡ turn.left)). ap (λ (z : HartState). has_finals z.frames) y.1 ∙ finals_away w past h turn.before turn.left turn.did turn.moves no_finals)
        (λ (y : slice_get harts j ≡ Some b). found_none (settles turn.did) j b y)
        (at_set harts h turn.left j b (subst (λ (bs : List HartState). slice_get bs j ≡ Some b) turn.harts at))

    pub before_kept : BeforeFinals w new
    before_kept = record { harts = length_is; endings = endings_fit appends; none = none_after }

  -- ---- in them

  module _ (x : InFinals w old) where
    -- the turn is the first hart's
    is_first : (j : ℕ) → slice_get (x.first ∷ x.others) j ≡ Some turn.before → (j ≡ 0) × (x.first ≡ turn.before)
    is_first zero at = (refl, (let same : x.first ≡ turn.before = cc in same))
    is_first (suc j) at = absurd (false≢true (sym (runs_on turn.before runs) ∙ exited_ends turn.before (each_passes has_exited x.others j turn.before x.over at)))

    first_is : (h ≡ 0) × (x.first ≡ turn.before)
    first_is = is_first h (ap (λ (bs : List HartState). slice_get bs h) (sym x.harts) ∙ turn.there)

    are_so : IsTrue (are_finals w (after old.journal))
    are_so = x.runs (ap (λ (b : HartState). b.«end») first_is.1 ∙ runs)

    all_ended : length (after old.journal).endings ≡ w.machine.harts
    all_ended = finals_all w (after old.journal).endings are_so

    abbrev others_found : Bool → List HartState
    others_found t = cond t (map freed x.others) x.others

    split : (t : Bool) → slice_set (cond t (map freed old.harts) old.harts) 0 turn.left ≡ turn.left ∷ others_found t
    split true = ap (λ (bs : List HartState). slice_set (map freed bs) 0 turn.left) x.harts
    split false = ap (λ (bs : List HartState). slice_set bs 0 turn.left) x.harts

    others_over : (t : Bool) → IsTrue (list_all has_exited (others_found t))
    others_over true = freed_alike has_exited (λ b. refl) x.others ∙ x.over
    others_over false = x.over

    frames_after : turn.left.«end» ≡ None → IsTrue (has_finals turn.left.frames)
    frames_after none =
        finals_stay w past h turn.before turn.left turn.did turn.moves
        (ap (λ (b : HartState). has_finals b.frames) (sym first_is.1) ∙ x.frames (ap (λ (b : HartState). b.«end») first_is.1 ∙ runs)) none

    finals_still : (after new.journal).endings ≡ (after old.journal).endings → IsTrue (are_finals w (after new.journal))
    finals_still same = ap (finals_in w) same ∙ are_so

    not_over : {T : Type 0} → turn.left.«end» ≡ turn.before.«end» → IsTrue (has_ended turn.left) → T
    not_over {T} same over = absurd (false≢true (sym (ap is_some same ∙ runs_on turn.before runs) ∙ over))

    not_running : {T : Type 0} (reason : HartEnd) → turn.left.«end» ≡ Some reason → turn.left.«end» ≡ None → T
    not_running {T} reason over none = absurd (none-some reason (sym none ∙ over))

    runs_after : Appends past h turn.before turn.did turn.left → turn.left.«end» ≡ None → IsTrue (are_finals w (after new.journal))
    runs_after (Appends.no_end spares same) none = finals_still (sparing_endings spares)
    runs_after (Appends.unmapping set is same) none = finals_still (unmapped_endings set is)
    runs_after (Appends.an_end front reason spares is over) none = not_running reason over none
    runs_after (Appends.after_finals code spares finals over last) none = not_running (ends.Exit code) over none

    done_after : Appends past h turn.before turn.did turn.left → IsTrue (has_ended turn.left) → IsTrue (are_finals w (after new.journal)) → all_finis (after new.journal) ≡ []
    done_after (Appends.no_end spares same) over are = not_over same over
    done_after (Appends.unmapping set is same) over are = not_over same over
    done_after (Appends.an_end front reason spares is so) over are =
        absurd (no_more w (after old.journal).endings (record { hart = h; «end» = reason }) all_ended (ap (finals_in w) (sym (end_endings front reason spares is)) ∙ are))
    done_after (Appends.after_finals code spares finals so last) over are = ap (λ (es : List Event). all_finis (after es)) turn.journal ∙ last

    pub finals_kept : InFinals w new
    finals_kept = record {
      first = turn.left;
      others = others_found (settles turn.did);
      harts = turn.harts ∙ ap (λ (n : ℕ). slice_set harts n turn.left) first_is.0 ∙ split (settles turn.did);
      over = others_over (settles turn.did);
      frames = frames_after;
      runs = runs_after appends;
      done = done_after appends;
    }

pub turns_keep_before : TurnsKeepBefore
turns_keep_before w h old new turn x = before_kept w h old new turn x

pub turns_keep_finals : TurnsKeepFinals
turns_keep_finals w h old new turn x = finals_kept w h old new turn x

-- ---- the final destructors begin

all_in : (p : Ending → Bool) (endings : List Ending) → ((e : Ending) → Contains endings e → p e ≡ true) → list_all p endings ≡ true
all_in p [] each = refl
all_in p (e ∷ rest) each = ap (λ (t : Bool). t && list_all p rest) (each e (here e rest)) ∙ all_in p rest (λ d there. each d (later e rest d there))

from_all : (p : Ending → Bool) (endings : List Ending) (e : Ending) → list_all p endings ≡ true → Contains endings e → p e ≡ true
from_all p [] e all there = absurd (none_in e there)
from_all p (d ∷ rest) e all there = ⊎_elim
    (λ (same : d ≡ e). ap p (sym same) ∙ (and_parts (p d) (list_all p rest) all).0)
    (λ (more : Contains rest e). from_all p rest e (and_parts (p d) (list_all p rest) all).1 more)
    (first_or_later d rest e there)

exit_of : (reason : HartEnd) → is_some (exit_of_end reason) ≡ true → is_exit reason ≡ true
exit_of (ends.Exit code) is = refl
exit_of ends.FuelOut is = absurd (false≢true is)
exit_of (ends.NotMapped pc address) is = absurd (false≢true is)
exit_of (ends.SlotStore pc address) is = absurd (false≢true is)
exit_of (ends.BadInstruction pc word) is = absurd (false≢true is)
exit_of (ends.Misaligned pc address) is = absurd (false≢true is)
exit_of (ends.Break pc) is = absurd (false≢true is)
exit_of (ends.BadModule number) is = absurd (false≢true is)
exit_of (ends.Unloaded owner) is = absurd (false≢true is)
exit_of (ends.NoSlot owner eights) is = absurd (false≢true is)
exit_of (ends.Unresolved owner slot) is = absurd (false≢true is)
exit_of (ends.NotCode owner slot) is = absurd (false≢true is)
exit_of (ends.AddressSpaceFull pages) is = absurd (false≢true is)
exit_of ends.Memory is = absurd (false≢true is)

code_of : (reason : HartEnd) → is_exit reason ≡ true → is_some (exit_of_end reason) ≡ true
code_of (ends.Exit code) is = refl
code_of ends.FuelOut is = absurd (false≢true is)
code_of (ends.NotMapped pc address) is = absurd (false≢true is)
code_of (ends.SlotStore pc address) is = absurd (false≢true is)
code_of (ends.BadInstruction pc word) is = absurd (false≢true is)
code_of (ends.Misaligned pc address) is = absurd (false≢true is)
code_of (ends.Break pc) is = absurd (false≢true is)
code_of (ends.BadModule number) is = absurd (false≢true is)
code_of (ends.Unloaded owner) is = absurd (false≢true is)
code_of (ends.NoSlot owner eights) is = absurd (false≢true is)
code_of (ends.Unresolved owner slot) is = absurd (false≢true is)
code_of (ends.NotCode owner slot) is = absurd (false≢true is)
code_of (ends.AddressSpaceFull pages) is = absurd (false≢true is)
code_of ends.Memory is = absurd (false≢true is)

coded : (b : HartState) (reason : HartEnd) → b.«end» ≡ Some reason → is_some (exit_code b) ≡ true → is_exit reason ≡ true
coded b reason over is = exit_of reason (sym (ap (λ (e : Option HartEnd). is_some (elim e [ Some why ↦ exit_of_end why | None ↦ None ])) over) ∙ is)

all_over : (harts : List HartState) → IsTrue (list_all (λ b. is_some (exit_code b)) harts) → IsTrue (list_all has_ended harts)
all_over harts all = all_pass has_ended harts (λ h b at. exited_ends b (each_passes (λ c. is_some (exit_code c)) harts h b all at))

le_same : (n k : ℕ) → k ≡ n → nat_le n k ≡ true
le_same n k same = le-leb n k (let e : k ≡ n = same in omega (arith, e))

module _ (w : Setting) (old : World) (over : IsTrue (harts_have_exited old)) (x : BeforeFinals w old) where
  as_many : length (after old.journal).endings ≡ w.machine.harts
  as_many = x.endings.all ∙ count_all old.harts (all_over old.harts over) ∙ x.harts

  each_exited : (e : Ending) → Contains (after old.journal).endings e → exited e ≡ true
  each_exited e there = let y = x.endings.each e there in coded y.0 e.«end» y.2 (each_passes (λ c. is_some (exit_code c)) old.harts e.hart y.0 over y.1)

  pub finals_are : IsTrue (are_finals w (after old.journal))
  finals_are =
      let n : ℕ = w.machine.harts in
      let es : List Ending = (after old.journal).endings in
      ap (λ (t : Bool). t && (nat_le w.machine.harts (length (after old.journal).endings) && list_all exited (take w.machine.harts (after old.journal).endings))) (eq-eqb (length (after old.journal).endings) w.machine.harts as_many)
      ∙ ap (λ (t : Bool). t && list_all exited (take w.machine.harts (after old.journal).endings)) (le_same w.machine.harts (length (after old.journal).endings) as_many)
      ∙ ap (λ (ys : List Ending). list_all exited ys) (take_all w.machine.harts (after old.journal).endings (let e : length (after old.journal).endings ≡ w.machine.harts = as_many in omega (arith, e)))
      ∙ all_in exited (after old.journal).endings each_exited

  split_over : (first : HartState) (others : List HartState) → old.harts ≡ first ∷ others → IsTrue (list_all has_exited others)
  split_over first others are = (and_parts (has_exited first) (list_all has_exited others) (subst (λ (bs : List HartState). IsTrue (list_all has_exited bs)) are over)).1

pub finals_begin : FinalsBegin
finals_begin w registers old new over x before = subst (InFinals w) (sym x.begun) (record {
  first = begun;
  others = x.others;
  harts = refl;
  over = split_over w old over before x.first x.others x.harts;
  frames = λ none. first_some is_of_end (Purpose.of_end x.code) x.object x.addresses [] [] (record x.first { registers = registers; phase = Phase.at_pc; frames = []; «end» = None });
  runs = λ none. finals_are w old over before;
  done = λ ended_so are. absurd (false≢true (sym (runs_on begun begun_runs) ∙ ended_so));
})
  where
    begun : HartState
    begun = finalising_hart registers x.code (record { object = x.object; addresses = x.addresses }) x.first

    begun_runs : begun.«end» ≡ None
    begun_runs = first_end (Purpose.of_end x.code) x.object x.addresses [] [] (record x.first { registers = registers; phase = Phase.at_pc; frames = []; «end» = None })

lack_endings : (old : World) → (after ((old.journal ++ settling old.harts) ++ events.Ended 0 ends.Memory ∷ [])).endings ≡ (after old.journal).endings ++ record { hart = 0; «end» = ends.Memory } ∷ []
lack_endings old = an_end (old.journal ++ settling old.harts) [] 0 ends.Memory tt ∙ ap (λ (es : List Ending). es ++ record { hart = 0; «end» = ends.Memory } ∷ []) (endings_stay old.journal old.harts)

pub finals_lack : FinalsLack
finals_lack w old new over x before = subst (InFinals w) (sym x.leaves) (record {
  first = ended ends.Memory x.first;
  others = map freed x.others;
  harts = refl;
  over = freed_alike has_exited (λ b. refl) x.others ∙ split_over w old over before x.first x.others x.harts;
  frames = λ none. absurd (none-some ends.Memory (sym none));
  runs = λ none. absurd (none-some ends.Memory (sym none));
  done = λ ended_so are. absurd (no_more w (after old.journal).endings (record { hart = 0; «end» = ends.Memory }) (as_many w old over before) (ap (finals_in w) (sym (lack_endings old)) ∙ are));
})

-- then it isn't the one end of the first hart
pub lack_done : (w : Setting) (old new : World) → IsTrue (harts_have_exited old) → LacksMemory w old new → BeforeFinals w old → IsTrue (are_finals w (after new.journal)) → all_finis (after new.journal) ≡ []
lack_done w old new over x before are =
    absurd (no_more w (after old.journal).endings (record { hart = 0; «end» = ends.Memory }) (as_many w old over before)
    (ap (finals_in w) (sym (lack_endings old) ∙ sym (ap (λ (y : World). (after y.journal).endings) x.leaves)) ∙ are))

-- where none ended again, each end is an exit
exit_coded : (b : HartState) (reason : HartEnd) → b.«end» ≡ Some reason → is_exit reason ≡ true → is_some (exit_code b) ≡ true
exit_coded b reason over is = ap (λ (e : Option HartEnd). is_some (elim e [ Some why ↦ exit_of_end why | None ↦ None ])) over ∙ code_of reason is

pub exits_are : (w : Setting) (world : World) → IsTrue (list_all has_ended world.harts) → BeforeFinals w world → IsTrue (are_finals w (after world.journal)) → harts_have_exited world ≡ true
exits_are w world over x are = all_pass (λ b. is_some (exit_code b)) world.harts each
  where
    es : List Ending
    es = (after world.journal).endings

    all_of : list_all exited (take w.machine.harts (after world.journal).endings) ≡ true
    all_of =
        (and_parts (nat_le w.machine.harts (length (after world.journal).endings)) (list_all exited (take w.machine.harts (after world.journal).endings))
        (and_parts (length (after world.journal).endings == w.machine.harts) (nat_le w.machine.harts (length (after world.journal).endings) && list_all exited (take w.machine.harts (after world.journal).endings)) are).1).1

    whole : take w.machine.harts (after world.journal).endings ≡ (after world.journal).endings
    whole = take_all w.machine.harts (after world.journal).endings (let e : length (after world.journal).endings ≡ w.machine.harts = finals_all w (after world.journal).endings are in omega (arith, e))

    each : (h : ℕ) (b : HartState) → slice_get world.harts h ≡ Some b → is_some (exit_code b) ≡ true
    each h b at =
        let reason = reason_of b (each_passes has_ended world.harts h b over at) in
        let told : Contains (after world.journal).endings (record { hart = h; «end» = reason.0 }) = x.endings.told h b reason.0 at reason.1 in
        exit_coded b reason.0 reason.1 (from_all exited (after world.journal).endings (record { hart = h; «end» = reason.0 }) (ap (λ (ys : List Ending). list_all exited ys) (sym whole) ∙ all_of) told)

-- so the journal says whether each end is one
pub exits_told : ExitsAreTold
exits_told w world x over = by (harts_have_exited world) (have_exited w (after world.journal)) refl refl
  where
    as_many_ended : length (after world.journal).endings ≡ w.machine.harts
    as_many_ended = x.endings.all ∙ count_all world.harts over ∙ x.harts

    by : (s t : Bool) → harts_have_exited world ≡ s → have_exited w (after world.journal) ≡ t → have_exited w (after world.journal) ≡ harts_have_exited world
    by true t is told = (and_parts (length (after world.journal).endings == w.machine.harts) (have_exited w (after world.journal)) (finals_are w world is x)).1 ∙ sym is
    by false false is told = told ∙ sym is
    by false true is told = absurd (false≢true (sym is ∙ exits_are w world over x
        (ap (λ (t : Bool). length (after world.journal).endings == w.machine.harts && t) told ∙ ap (λ (t : Bool). t && true) (eq-eqb (length (after world.journal).endings) w.machine.harts as_many_ended))))

-- ---- what is left is settled

pub settled_before : SettlingKeepsBefore
settled_before w world x = record {
  harts = freed_length world.harts ∙ x.harts;
  endings = subst (λ (es : List Ending). AreEndings es (map freed world.harts)) (sym (endings_stay world.journal world.harts)) (freed_fit (after world.journal).endings world.harts x.endings);
  none = λ h b at. let y = freed_at world.harts h b at in ap (λ (z : HartState). has_finals z.frames) (sym y.2) ∙ x.none h y.0 y.1;
}

pub settled_finals : SettlingKeepsInFinals
settled_finals w world x = record {
  first = freed x.first;
  others = map freed x.others;
  harts = ap (λ (bs : List HartState). map freed bs) x.harts;
  over = freed_alike has_exited (λ b. refl) x.others ∙ x.over;
  frames = x.frames;
  runs = λ none. ap (finals_in w) (endings_stay world.journal world.harts) ∙ x.runs none;
  done = λ over are. finis_stay world.journal world.harts ∙ x.done over (ap (finals_in w) (sym (endings_stay world.journal world.harts)) ∙ are);
}

-- the finals are those of the world before the settling, and so are the objects that are left
pub finals_settled : (w : Setting) (world : World) → IsTrue (are_finals w (after (settled world).journal)) → IsTrue (are_finals w (after world.journal))
finals_settled w world are = ap (finals_in w) (sym (endings_stay world.journal world.harts)) ∙ are

pub finis_settled : (world : World) → all_finis (after (settled world).journal) ≡ all_finis (after world.journal)
finis_settled world = finis_stay world.journal world.harts

-- ---- a hart that runs may end

not_told : (w : Setting) (world : World) (h : ℕ) (b : HartState) → BeforeFinals w world → slice_get world.harts h ≡ Some b → b.«end» ≡ None → (t : Bool) → has (map (λ e. e.hart) (after world.journal).endings) h ≡ t
    → has (map (λ e. e.hart) (after world.journal).endings) h ≡ false
not_told w world h b x at none false is = is
not_told w world h b x at none true is =
    let y = from_map (λ (e : Ending). e.hart) (after world.journal).endings h (has_in (map (λ e. e.hart) (after world.journal).endings) h is) in
    let z = x.endings.each y.0 y.1 in
    let same : z.0 ≡ b = both_found (slice_get world.harts h) z.0 b (ap (λ (n : ℕ). slice_get world.harts n) (sym y.2) ∙ z.1) at in
    absurd (none-some y.0.«end» (sym none ∙ ap (λ (c : HartState). c.«end») (sym same) ∙ z.2))

first_may : (w : Setting) (world : World) (x : InFinals w world) (h : ℕ) (b : HartState) → slice_get (x.first ∷ x.others) h ≡ Some b → b.«end» ≡ None → MayEnd w (after world.journal) h
first_may w world x zero b at none = inr (refl, x.runs (ap (λ (c : HartState). c.«end») (let same : x.first ≡ b = cc in same) ∙ none))
first_may w world x (suc j) b at none = absurd (false≢true (sym (runs_on b none) ∙ exited_ends b (each_passes has_exited x.others j b x.over at)))

pub harts_may_end : HartsMayEnd
harts_may_end w world x h b at none = ⊎_elim
    (λ (y : BeforeFinals w world). inl (not_told w world h b y at none (has (map (λ e. e.hart) (after world.journal).endings) h) refl))
    (λ (y : InFinals w world). first_may w world y h b (ap (λ (bs : List HartState). slice_get bs h) (sym y.harts) ∙ at) none)
    x
