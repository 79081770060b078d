-- The turn behind final destructors, once all memory for it is there.
use Rattle.std.proofs.Common.{◌≡◌, ℕ, ◌<◌, length, get_or, List, Some, sym, ap, subst, ◌∙◌}
use Rattle.std.specs.Prelude.{slice_set}
use Rattle.std.specs.List.{slice_get}
use Rattle.history_state.specs.State.{State}
use Rattle.history_calls.specs.Lemmas.Unique.{both_found}
use Rattle.link_state.specs.Table.{LinkTable}
use Rattle.rv_hart.specs.declared.doubleword.Doubleword.{Doubleword}
use Rattle.hart_moves.specs.Due.{Due, due}
use Rattle.hart_moves.specs.Harts.{HartState}
use Rattle.hart_seat.specs.Table.{HartTable}
use Rattle.world_answers.specs.GuestsPart.GuestWorlds.Coming.{LeavesHart}
use Rattle.world_answers.specs.GuestsPart.GuestWorlds.Worlds.{IsSomewhere, TurnsOn, world_of}
use Rattle.world_answers.specs.declared.guests.guest_worlds.turn.Turn.{Turn}
use Rattle.world_answers.specs.GuestsPart.Lemmas.Places.{put_here, read_at, set_same, written_at}
use Rattle.world_answers.specs.ReturnsPart.Settling.{harts_in}
use Rattle.world_turns.specs.World.{World}
use Rattle.world_answers.specs.GuestsPart.Last.{HasRoom, IsLast, IsSomewhereIn}

-- read twice, it is the same
pub last_read : (harts : List HartTable) (n h : ℕ) (d e : HartTable) → n ≡ h → h < length harts → (code object : ℕ)
    → ((s : State) → due s (get_or harts n d).hart ≡ Due.finalise code object) → (s : State) → due s (get_or harts n e).hart ≡ Due.finalise code object
last_read harts n h d e same lt code object is s =
    subst (λ (x : HartState). due s x ≡ Due.finalise code object)
    (both_found (slice_get (harts_in harts) h) (get_or harts n d).hart (get_or harts n e).hart (read_at harts n h d same lt) (read_at harts n h e same lt)) (is s)

module _ (state : LinkTable) (harts : List HartTable) (n h : ℕ) (d : HartTable) (same : n ≡ h) (lt : h < length harts) where
  abbrev b : HartState
  b = (get_or harts n d).hart

  -- the hart that stands there is at the turn
  pub due_here : (code object : ℕ) → IsLast (harts_in harts) h code object → (s : State) → due s b ≡ Due.finalise code object
  due_here code object last s =
      subst (λ (x : HartState). due s x ≡ Due.finalise code object) (both_found (slice_get (harts_in harts) h) last.hart b last.there (read_at harts n h d same lt)) (last.is s)

  -- it has got room, and nothing else has changed
  module _ (x : HartTable) (kept : x.hart ≡ b) where
    harts_same : harts_in (slice_set harts n x) ≡ harts_in harts
    harts_same = written_at harts n h x b same kept ∙ set_same (harts_in harts) h b (read_at harts n h d same lt)

    pub run_stays : IsSomewhereIn state harts → IsSomewhereIn state (slice_set harts n x)
    run_stays run = (run.0, subst (λ (hs : List HartState). IsSomewhere state.harts (record { journal = state.events; words = run.0; harts = hs })) (sym harts_same) run.1)

    pub is_last : (code object lasting lasted : ℕ) → code ≡ lasting → object ≡ lasted → ((s : State) → due s b ≡ Due.finalise lasting lasted)
        → IsLast (harts_in (slice_set harts n x)) h code object
    is_last code object lasting lasted one other is = record {
      hart = b;
      there = subst (λ (hs : List HartState). slice_get hs h ≡ Some b) (sym harts_same) (read_at harts n h d same lt);
      is = λ s. is s ∙ ap (λ (k : ℕ). Due.finalise k lasted) (sym one) ∙ ap (λ (k : ℕ). Due.finalise code k) (sym other);
    }

    pub has_room : 0 < x.spare → HasRoom (slice_set harts n x) h
    has_room room y at =
        subst (λ (z : HartTable). 0 < z.spare) (sym (put_here harts h x y (subst (λ (k : ℕ). slice_get (slice_set harts k x) h ≡ Some y) same at))) room

    pub turns_stay : (words : List Doubleword) (new : World) → TurnsOn state.harts h (world_of state words (slice_set harts n x)) new
        → TurnsOn state.harts h (world_of state words harts) new
    turns_stay words new turns = subst (λ (hs : List HartState). TurnsOn state.harts h (record { journal = state.events; words = words; harts = hs }) new) harts_same turns

    pub comes_stays : (words : List Doubleword) (new : World) (came : Turn) → LeavesHart (world_of state words (slice_set harts n x)) new h came
        → LeavesHart (world_of state words harts) new h came
    comes_stays words new came comes = subst (λ (hs : List HartState). LeavesHart (record { journal = state.events; words = words; harts = hs }) new h came) harts_same comes
