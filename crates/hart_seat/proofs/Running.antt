-- Functions that the linker has a hart run.
use Rattle.std.proofs.Common.{◌≡◌, ℕ, ◌+◌, ◌-◌, ◌<◌, List, [], ◌∷◌, ◌++◌, Some, drop, length, reverse, take, refl, sym, ap, ◌∙◌, add-one, arith}
use Rattle.std.specs.List.{slice_get}
use Rattle.std.proofs.lemmas.List.{reverse-append, take_all, take_more}
use Rattle.std.proofs.lemmas.Option.{get_or_from_slice_get, slice_get_within}
use Rattle.history_event.specs.declared.handed.Function.{Function}
use Rattle.hart_moves.specs.Harts.{Frame, HartState, Purpose}
use Rattle.hart_moves.specs.Moves.{after_all, runs, with_first}

-- the frames that were there don't count
all_over : (purpose : Purpose) (frames below : List Frame) (b : HartState) → after_all purpose below (record b { frames = frames }) ≡ after_all purpose below b
all_over (Purpose.of_startup registers) frames below b = refl
all_over (Purpose.of_opening to root) frames below b = refl
all_over (Purpose.of_closing to set) frames below b = refl
all_over (Purpose.of_end code) frames below b = refl

first_over : (purpose : Purpose) (object : ℕ) (addresses : List ℕ) (rest : List Function) (frames below : List Frame) (b : HartState)
    → with_first purpose object addresses rest below (record b { frames = frames }) ≡ with_first purpose object addresses rest below b
first_over purpose object [] rest frames below b = refl
first_over purpose object (function ∷ more) rest frames below b = refl

pub runs_over : (purpose : Purpose) (queue : List Function) (frames below : List Frame) (b : HartState)
    → runs purpose queue below (record b { frames = frames }) ≡ runs purpose queue below b
runs_over purpose [] frames below b = all_over purpose frames below b
runs_over purpose (f ∷ rest) frames below b = first_over purpose f.object f.addresses rest frames below b

-- the innermost frame is the last of the code's
pub innermost : (frames items : List Frame) (q : Frame) → frames ≡ items ++ q ∷ [] → reverse frames ≡ q ∷ reverse items
innermost frames items q is = ap reverse is ∙ reverse-append items (q ∷ [])

-- an object of it passes, and some behind that
pub completed : (b : HartState) (items : List Frame) (q left : Frame) (passed : ℕ) (purpose : Purpose) (f : Function) (rest : List Function) (below : List Frame)
    → q ∷ reverse items ≡ record { purpose = purpose; queue = f ∷ rest } ∷ below → left ≡ record q { queue = drop (passed + 1) q.queue }
    → runs left.purpose left.queue (reverse items) (record b { frames = reverse items }) ≡ runs purpose (drop passed rest) below b
completed b items q left passed purpose f rest below is pass =
    let frame : q ≡ record { purpose = purpose; queue = f ∷ rest } = cc in
    let others : reverse items ≡ below = cc in
    let with_rest : left ≡ record { purpose = purpose; queue = drop passed rest } =
    pass ∙ ap (λ (x : Frame). record x { queue = drop (passed + 1) x.queue }) frame
    ∙ rw add-one refl in
    ap (λ (x : Frame). runs x.purpose x.queue (reverse items) (record b { frames = reverse items })) with_rest
    ∙ runs_over purpose (drop passed rest) (reverse items) (reverse items) b
    ∙ ap (λ (frames : List Frame). runs purpose (drop passed rest) frames b) others

-- it is the last one that there is
pub last_frame : (items : List Frame) (q : Frame) → Some q ≡ slice_get items (length items - 1) → reverse items ≡ q ∷ reverse (take (length items - 1) items)
last_frame items q is =
    let last : ℕ = length items - 1 in
    let inside : last < length items = slice_get_within items last q (sym is) in
    let all : take (last + 1) items ≡ items = take_all (last + 1) items (omega arith) in
    let split : items ≡ take last items ++ q ∷ [] =
    sym all ∙ take_more items last q inside ∙ ap (λ (x : Frame). take last items ++ x ∷ []) (get_or_from_slice_get items last q q (sym is)) in
    innermost items (take last items) q split
