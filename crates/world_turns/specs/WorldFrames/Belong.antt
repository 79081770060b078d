-- What each frame of a hart is of: an opening whose constructors are left to run, or a closing whose destructors are.
use Rattle.std.specs.Prelude.{◌≡◌, ℕ, List, [], ◌∷◌, map, Some, Contains}
use Rattle.std.specs.List.{slice_get}
use Rattle.history_event.specs.declared.handed.Function.{Function}
use Rattle.history_event.specs.declared.state.Closing.{Closing}
use Rattle.history_event.specs.declared.state.Loading.{Loading}
use Rattle.history_state.specs.After.{after}
use Rattle.history_state.specs.Links.{finis_of}
use Rattle.history_state.specs.State.{State}
use Rattle.history_calls.specs.Functions.{AreLeft, object_of}
use Rattle.hart_moves.specs.Harts.{Frame, HartState, Purpose}
use Rattle.world_turns.specs.World.{World}

pub data Origin : Type 0 where
  opening : Loading → Origin
  closing : Closing → Origin

-- the objects of the queue are those that the hart's opening has still to initialise, in their order
pub record IsOfOpening (s : State) (h : ℕ) (l : Loading) (queue : List Function) : Type 0 where
  pub there : Contains s.loadings l
  pub by : l.hart ≡ h
  pub left : AreLeft s l (map object_of queue)

-- they are those that its closing has still to finalise; when none is, the closing's objects are to be unmapped
pub record IsOfClosing (s : State) (h : ℕ) (set : List ℕ) (c : Closing) (queue : List Function) : Type 0 where
  pub there : Contains s.closings c
  pub by : c.hart ≡ h
  pub whole : c.set ≡ set
  pub left : finis_of s set ≡ map object_of queue

abbrev pub IsFrameOf : State → ℕ → Origin → Purpose → List Function → Type 0
IsFrameOf s h (Origin.opening l) (Purpose.of_startup registers) queue = IsOfOpening s h l queue
IsFrameOf s h (Origin.opening l) (Purpose.of_opening to root) queue = IsOfOpening s h l queue
IsFrameOf s h (Origin.opening l) (Purpose.of_closing to set) queue = ⊥
IsFrameOf s h (Origin.opening l) (Purpose.of_end code) queue = ⊥
IsFrameOf s h (Origin.closing c) (Purpose.of_startup registers) queue = ⊥
IsFrameOf s h (Origin.closing c) (Purpose.of_opening to root) queue = ⊥
IsFrameOf s h (Origin.closing c) (Purpose.of_closing to set) queue = IsOfClosing s h set c queue
IsFrameOf s h (Origin.closing c) (Purpose.of_end code) queue = ⊥

-- each frame is of one
abbrev pub AreFramesOf : State → ℕ → List Origin → List Frame → Type 0
AreFramesOf s h [] [] = Unit {0}
AreFramesOf s h [] (frame ∷ below) = ⊥
AreFramesOf s h (o ∷ origins) [] = ⊥
AreFramesOf s h (o ∷ origins) (frame ∷ below) = IsFrameOf s h o frame.purpose frame.queue × AreFramesOf s h origins below

abbrev pub AllDiffer : List Origin → Type 0
AllDiffer [] = Unit {0}
AllDiffer (o ∷ origins) = ¬ (Contains origins o) × AllDiffer origins

-- and no two are of one
pub record FramesFit (s : State) (h : ℕ) (frames : List Frame) : Type 0 where
  pub origins : List Origin
  pub are : AreFramesOf s h origins frames
  pub once : AllDiffer origins

abbrev pub FramesBelong : World → Type 0
FramesBelong world = (h : ℕ) (b : HartState) → slice_get world.harts h ≡ Some b → FramesFit (after world.journal) h b.frames
