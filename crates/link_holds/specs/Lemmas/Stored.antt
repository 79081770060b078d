-- Blocks of thread-local storage.
use Rattle.std.proofs.Common.{◌≡◌, ⊎_elim, ℕ, ◌+◌, ◌-◌, ◌≤◌, Bool, true, false, cond, List, [], ◌∷◌, ◌++◌, map, length, Result, Ok, Err, OnErr, OnOk, refl, sym, ap, subst, ◌∙◌, arith}
use Rattle.std.proofs.lemmas.List.{length-append}
use Rattle.std.proofs.lemmas.List.Elements.{filter-append}
use Rattle.std.proofs.lemmas.List.Sums.{length-filter}
use Rattle.std.specs.List.{Contains, count_by, filter}
use Rattle.link_lists.specs.LateBlocksPart.Blocks.{BlockList}
use Rattle.history_event.specs.declared.event.Range.{Range}
use Rattle.history_event.specs.declared.state.Block.{Block}
use Rattle.history_event.specs.declared.state.Closing.{Closing}
use Rattle.history_state.specs.Objects.{has, mapped, serial_of}
use Rattle.history_state.specs.State.{State}
use Rattle.history_state.specs.Step.{add_block, block_ranges, goes_with}
use Rattle.history_state.specs.Lemmas.Lists.{first_or_later, from_map, here, later}
use Rattle.link_open_images.specs.declared.new_blocks.placing.BlockFault.TheVariants as blocks
use Rattle.link_spaces.specs.PendingClosingsPart.Pending.{HaveRoomOf, PendingClosing, PendingList, closing_of, with_more}
use Rattle.link_spaces.specs.ReservedPagesPart.Laid.{RangeList}
use Rattle.close_mark.specs.ClosingPlans.Plans.{IsRoomy}
use Rattle.link_holds.specs.Holding.{HoldsAll, Lists}

-- ---- room in closings that wait

pub same_room : (ps : List PendingClosing) → HaveRoomOf ps ps
same_room [] = tt
same_room (p ∷ ps) = (record { same = refl; objects = omega arith; ranges = omega arith }, same_room ps)

pub more_room : (ps : List PendingClosing) → HaveRoomOf ps (map with_more ps)
more_room [] = tt
more_room (p ∷ ps) = (record { same = refl; objects = omega arith; ranges = omega arith }, more_room ps)

pub room_by : {X E : Type 0} (r : Result X E) (old new : List PendingClosing) → OnOk r (new ≡ map with_more old) → OnErr r (HaveRoomOf old new) → HaveRoomOf old new
room_by (Ok x) old new ok err = subst (HaveRoomOf old) (sym ok) (more_room old)
room_by (Err e) old new ok err = err

same_closings : (ps qs : List PendingClosing) → HaveRoomOf ps qs → map closing_of qs ≡ map closing_of ps
same_closings [] [] room = refl
same_closings [] (q ∷ qs) room = absurd room
same_closings (p ∷ ps) [] room = absurd room
same_closings (p ∷ ps) (q ∷ qs) room = ap (λ (c : Closing). c ∷ map closing_of qs) room.0.same ∙ ap (λ (cs : List Closing). closing_of p ∷ cs) (same_closings ps qs room.1)

roomier : (serials : List ℕ) (laid : List Range) (ps qs : List PendingClosing) → HaveRoomOf ps qs → ((p : PendingClosing) → Contains ps p → IsRoomy serials laid p) → (q : PendingClosing) → Contains qs q → IsRoomy serials laid q
roomier serials laid [] [] room roomy q inside = roomy q inside
roomier serials laid [] (x ∷ qs) room roomy q inside = absurd room
roomier serials laid (p ∷ ps) [] room roomy q inside = absurd room
roomier serials laid (p ∷ ps) (x ∷ qs) room roomy q inside = ⊎_elim
    (λ (same : x ≡ q). subst (IsRoomy serials laid) same (by (roomy p (here p ps))))
    (λ (rest : Contains qs q). roomier serials laid ps qs room.1 (λ z among. roomy z (later p ps z among)) q rest)
    (first_or_later x qs q inside)
  where
    by : IsRoomy serials laid p → IsRoomy serials laid x
    by r =
        let set : x.set ≡ p.set = ap (λ (c : Closing). c.set) room.0.same in
        record {
          objects = subst (λ (ds : List ℕ). count_by (has ds) serials ≤ x.objects) (sym set) (omega (arith, r.objects, room.0.objects));
          ranges = subst (λ (ds : List ℕ). count_by (goes_with ds) laid ≤ x.ranges) (sym set) (omega (arith, r.ranges, room.0.ranges));
        }

-- only there is more room
pub all_roomier_closings : (s : State) (l : Lists) (reserved : RangeList) (blocks : BlockList) (closings : PendingList) → HoldsAll s l → reserved.ranges ≡ l.reserved.ranges
    → blocks.blocks ≡ l.blocks.blocks → HaveRoomOf l.closings.closings closings.closings → HoldsAll s (record l { reserved = reserved; blocks = blocks; closings = closings })
all_roomier_closings s l reserved blocks closings holds ranges same room = record {
  faults = holds.faults;
  running = holds.running;
  memory = record {
    ranges = ranges ∙ holds.memory.ranges;
    modules = holds.memory.modules;
    size = holds.memory.size;
    tp = holds.memory.tp;
    generation = holds.memory.generation;
    blocks = same ∙ holds.memory.blocks;
    parts = holds.memory.parts;
  };
  keeping = record {
    every = holds.keeping.every;
    only = holds.keeping.only;
    room = holds.keeping.room;
    closings = same_closings l.closings.closings closings.closings room ∙ holds.keeping.closings;
    roomy = roomier (map serial_of (mapped s)) s.ranges l.closings.closings closings.closings room holds.keeping.roomy;
  };
  opening = holds.opening;
}

one_more : (set : List ℕ) (laid : List Range) (r : Range) (n : ℕ) → count_by (goes_with set) laid ≤ n → count_by (goes_with set) (laid ++ r ∷ []) ≤ n + 1
one_more set laid r n few =
    let all : count_by (goes_with set) (laid ++ r ∷ []) ≡ length (filter (goes_with set) laid ++ filter (goes_with set) (r ∷ [])) =
    sym (length-filter (goes_with set) (laid ++ r ∷ [])) ∙ ap length (filter-append (goes_with set) laid (r ∷ [])) in
    let parts = length-append (filter (goes_with set) laid) (filter (goes_with set) (r ∷ [])) in
    let was = length-filter (goes_with set) laid in
    let last : length (filter (goes_with set) (r ∷ [])) ≤ 1 = by (goes_with set r) in
    omega (arith, all, parts, was, last, few)
  where
    by : (b : Bool) → length (cond b (r ∷ []) []) ≤ 1
    by true = omega arith
    by false = omega arith

-- a block more
pub all_blocked : (s : State) (hart serial address : ℕ) (r : Range) (l : Lists) (reserved : RangeList) (blocks : BlockList) (closings : PendingList) → HoldsAll s l
    → block_ranges s hart serial address ≡ r ∷ [] → reserved.ranges ≡ l.reserved.ranges ++ r ∷ [] → blocks.blocks ≡ l.blocks.blocks ++ record { hart = hart; serial = serial; address = address } ∷ []
    → closings.closings ≡ map with_more l.closings.closings → HoldsAll (add_block hart serial address s) (record l { reserved = reserved; blocks = blocks; closings = closings })
all_blocked s hart serial address r l reserved blocks closings holds its ranges more room = record {
  faults = holds.faults;
  running = holds.running;
  memory = record {
    ranges = ranges ∙ ap (λ (rs : List Range). rs ++ r ∷ []) holds.memory.ranges ∙ ap (λ (rs : List Range). s.ranges ++ rs) (sym its);
    modules = holds.memory.modules;
    size = holds.memory.size;
    tp = holds.memory.tp;
    generation = holds.memory.generation;
    blocks = more ∙ ap (λ (bs : List Block). bs ++ record { hart = hart; serial = serial; address = address } ∷ []) holds.memory.blocks;
    parts = holds.memory.parts;
  };
  keeping = record {
    every = holds.keeping.every;
    only = holds.keeping.only;
    room = holds.keeping.room;
    closings = ap (map closing_of) room ∙ same_closings l.closings.closings (map with_more l.closings.closings) (more_room l.closings.closings) ∙ holds.keeping.closings;
    roomy = λ q inside.
        let at = from_map with_more l.closings.closings q (subst (λ (qs : List PendingClosing). Contains qs q) room inside) in
        let was : IsRoomy (map serial_of (mapped s)) s.ranges at.0 = holds.keeping.roomy at.0 at.1 in
        subst (IsRoomy (map serial_of (mapped s)) (s.ranges ++ block_ranges s hart serial address)) at.2 (record {
          objects = was.objects;
          ranges = subst (λ (rs : List Range). count_by (goes_with at.0.set) (s.ranges ++ rs) ≤ at.0.ranges + 1) (sym its) (one_more at.0.set s.ranges r at.0.ranges was.ranges);
        });
  };
  opening = holds.opening;
}
