-- The worked turns.
use Rattle.std.proofs.Common.{◌≡◌, inl, ℕ, List, [], ◌∷◌, Option, Some, None, Ok, Err, refl, sym, ap, ◌∙◌, arith}
use Rattle.std.specs.List.{slice_get}
use Rattle.std.specs.Option.{option_and_then, option_map_or}
use Rattle.ld_base.specs.declared.linking.Choice.TheVariants.{Def}
use Rattle.ld_base.specs.declared.linking.Role.TheVariants.{None as NoRole}
use Rattle.ld_base.specs.declared.object.Reloc.{Reloc}
use Rattle.history_event.specs.declared.event.Event.{Event}
use Rattle.history_event.specs.declared.event.Event.TheVariants.{Ended, Grant, Init}
use Rattle.history_event.specs.declared.hart_end.HartEnd.TheVariants.{Break, Exit}
use Rattle.history_event.specs.declared.state.Granting.{Granting}
use Rattle.relocator.specs.Relocated.{moved_word}
use Rattle.rv_hart.specs.declared.bus.BusFault.TheVariants.{Role as RoleFault}
use Rattle.rv_hart.specs.declared.bus.Item.{Item}
use Rattle.seg_image.specs.Pages.{guest_address, segment_at}
use Rattle.seg_image.specs.Words.{byte_of, file_byte, file_word, word_of}
use Rattle.history_state.specs.After.{after, after_from}
use Rattle.history_state.specs.Bound.{linked_with}
use Rattle.history_state.specs.FirstMatch as first_match
use Rattle.history_state.specs.Laws.{slot_address}
use Rattle.history_state.specs.Legal.{Legal}
use Rattle.history_state.specs.Memory.{image_of}
use Rattle.history_state.specs.Parts.{slot as slot_reloc}
use Rattle.history_state.specs.Race as race
use Rattle.history_state.specs.Setting.{Setting}
use Rattle.history_state.specs.State.{Linked, State}
use Rattle.history_state.specs.Step.{initialise, loaded}
use Rattle.history_state.specs.Lemmas.History.{legal_push, legal_take}
use Rattle.history_state.specs.Lemmas.Matched.{first_match_legal, program_not_first}
use Rattle.history_state.specs.Lemmas.Raced.{first_not_granted, race_legal}
use Rattle.history_calls.specs.Answer.{granted, over}
use Rattle.history_calls.specs.Call.{stops}
use Rattle.history_calls.specs.Ends.EndsAs.{asked}
use Rattle.history_calls.specs.Gives.Gives.{to_end}
use Rattle.history_calls.specs.Worked.{granted_to}
use Rattle.history_calls.specs.Lemmas.Examples as calls
use Rattle.hart_moves.specs.Copying.{Copy, bytes_from, grown, text_words, with_bytes}
use Rattle.hart_moves.specs.Due.{by_phase, due}
use Rattle.hart_moves.specs.Harts.{HartState, Naming, Offered}
use Rattle.hart_moves.specs.Moves.{Did, IsOffer, copied_item}
use Rattle.hart_moves.specs.Worked as worked
use Rattle.hart_moves.specs.Lemmas.Legality.{turns_legal}
use Rattle.hart_moves.proofs.OneHart.{copy_items}
use Rattle.hart_moves.specs.Worked.{CopiesInside, CopiesName, EndsAtRole, EntersSecond, Exchanges, Exits, FindsNoName, FollowsItself, FollowsWinner, GoesOn, GoesOnWithoutFuel, GrantsGlobal, GrantsTheFirst, HasNoFunction, RunsWithoutFuel, ServesAtOnce, Starts, StartsEarly, TextWords, Traps}

-- ---- two harts at one slot

offer_by : (s : State) (g : Granting) (r : Reloc) (slot lazy : ℕ) (found : Option Linked) → image_of s g.owner ≡ found → option_and_then (λ (i : Linked). slice_get i.object.plt_relocs g.slot) found ≡ Some r
    → option_map_or (λ (i : Linked). slot_address i r) found 0 ≡ slot → option_map_or (λ (i : Linked). moved_word i.object i.base r.place) found 0 ≡ lazy
    → IsOffer s g (record { number = g.number; slot = slot; lazy = lazy; value = g.value })
offer_by s g r slot lazy None is at place word = absurd (let no : None ≡ Some r = at in cc)
offer_by s g r slot lazy (Some i) is at place word = record {
  image = i;
  reloc = r;
  found = is;
  at = at;
  is = ap (λ (n : ℕ). offer n lazy) (sym place) ∙ ap (offer (slot_address i r)) (sym word);
}
  where
    offer : ℕ → ℕ → Offered
    offer a w = record { number = g.number; slot = a; lazy = w; value = g.value }

race_offered : IsOffer (after race.before) (granted_to 1 4 0x3c000) (worked.race_offer 4 0x3c000)
unfolding loaded initialise after_from linked_with moved_word guest_address file_word file_byte word_of segment_at
race_offered = offer_by (after race.before) (granted_to 1 4 0x3c000) (slot_reloc 0x3010 1) 0x37010 0x34000 (image_of (after race.before) 2) refl refl refl refl

pub grants_global : GrantsGlobal
unfolding due by_phase
grants_global = record {
  appended = Grant 4 1 2 0 (Def 4 1) 0x3c000 ∷ [];
  answer = granted (granted_to 1 4 0x3c000);
  serves = record { given = Grant 4 1 2 0 (Def 4 1) 0x3c000 ∷ []; gives = calls.grants_global; may_end = λ reason e. absurd (let no : granted (granted_to 1 4 0x3c000) ≡ over reason = e in cc); are = refl };
  takes = record { offered = worked.race_offer 4 0x3c000; offer = race_offered; is = refl; leaves = refl };
}

pub grants_the_first : GrantsTheFirst
grants_the_first c moves =
    first_not_granted (turns_legal race.setting race.before 1 worked.caller c (worked.grants 3 0x39000) (legal_take race.setting race.race 14 race_legal) moves)

pub exchanges : (w : Setting) (past : List Event) → Exchanges w past
unfolding due
exchanges w past = record { found = 0x34000; is = refl; leaves = refl }

pub goes_on : (w : Setting) (past : List Event) → GoesOn w past
unfolding due
goes_on w past = record { is = refl; leaves = refl }

pub follows_winner : (w : Setting) (past : List Event) → FollowsWinner w past
unfolding due
follows_winner w past = record { is = refl; leaves = refl }

pub follows_itself : (w : Setting) (past : List Event) → FollowsItself w past → ⊥
unfolding due
follows_itself w past x = let pcs : 0x39000 ≡ 0x3c000 = ap (λ (b : HartState). b.registers.pc) x.leaves in omega (arith, pcs)

pub without_fuel : (w : Setting) (past : List Event) → GoesOnWithoutFuel w past
unfolding due
without_fuel w past = record { found = 0x34000; is = refl; leaves = refl }

quiet_or_serves : (items others : List Item) (events : List Event) → Did.quiet items ≡ Did.serves others events → ⊥
quiet_or_serves items others events e = cc

pub runs_without_fuel : (w : Setting) (past : List Event) → RunsWithoutFuel w past
unfolding due
runs_without_fuel w past items c x = quiet_or_serves items [] _ x.is

-- ---- a name

pub copies_name : (w : Setting) (past : List Event) → CopiesName w past
unfolding due by_phase grown with_bytes bytes_from byte_of
copies_name w past = record { answer = Ok worked.name_word; comes = record { is = refl; leaves = refl } }

pub copies_inside : (w : Setting) (past : List Event) → CopiesInside w past
unfolding due by_phase grown with_bytes bytes_from byte_of
copies_inside w past = record { answer = Ok 0x6762696c00000000; comes = record { is = refl; leaves = refl } }

pub serves_at_once : (w : Setting) (past : List Event) → ServesAtOnce w past
unfolding due by_phase
serves_at_once w past events c x =
    let items : [] ≡ copied_item 0x20000 [] x.answer ∷ [] = copy_items w past 1 worked.opener (copied_item 0x20000 [] x.answer ∷ []) (Copy.of_name Naming.dlopen) 0x20000 [] x.answer (Did.serves [] events) c x.comes in
    no_items (copied_item 0x20000 [] x.answer) items
  where
    no_items : (item : Item) → [] ≡ item ∷ [] → ⊥
    no_items item e = cc

pub finds_no_name : FindsNoName
unfolding due by_phase after_from initialise loaded
finds_no_name = record { answer = Err (RoleFault NoRole); comes = record { may = inl refl; is = refl; leaves = refl } }

-- ---- ends

pub has_no_function : HasNoFunction
unfolding due by_phase after_from initialise loaded
has_no_function = record {
  appended = Ended 1 (Break 0x80f080) ∷ [];
  answer = over (Break 0x80f080);
  serves = record { given = []; gives = to_end (stops (Break 0x80f080)) (Break 0x80f080) (asked (Break 0x80f080) refl); may_end = λ reason e. inl refl; are = refl };
  takes = record { is = refl; leaves = refl };
}

pub exits : Exits
unfolding due by_phase after_from initialise loaded
exits = record {
  appended = Ended 1 (Exit 7) ∷ [];
  answer = over (Exit 7);
  serves = record { given = []; gives = to_end (stops (Exit 7)) (Exit 7) (asked (Exit 7) refl); may_end = λ reason e. inl refl; are = refl };
  takes = record { is = refl; leaves = refl };
}

-- ---- tables

pub enters_second : EntersSecond
enters_second = refl

pub traps : Traps
traps = (refl, refl, refl, refl, refl)

pub ends_at_role : EndsAtRole
ends_at_role = (refl, refl)

pub text_words_are : TextWords
unfolding text_words word_of
text_words_are = refl

-- ---- constructors

pub starts : Starts
unfolding due by_phase Legal
starts = record { may = first_match_legal 3 (Init 0 1) refl; passes = record { may = tt; is = refl; leaves = refl } }

pub starts_early : StartsEarly
unfolding due by_phase
starts_early did c x =
    program_not_first (legal_push first_match.setting (first_match.startup ∷ []) (Init 0 1) (legal_take first_match.setting first_match.first_match 1 first_match_legal) x.may)
