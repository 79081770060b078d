-- Events of nobody settle grants, which leaves what harts have to run and who has ended.
use Rattle.std.proofs.Common.{◌≡◌, ℕ, List, [], ◌∷◌, ◌++◌, IsTrue, None, Some, refl, sym, ap, subst, ◌∙◌, append-nil, append_assoc}
use Rattle.history_event.specs.declared.event.Event.{Event}
use Rattle.history_event.specs.declared.event.Event.TheVariants as events
use Rattle.history_event.specs.declared.handed.Function.{Function}
use Rattle.history_event.specs.declared.state.Standing.{Standing}
use Rattle.history_event.specs.declared.state.Standing.TheVariants.{Bound, Lost}
use Rattle.history_state.specs.After.{after}
use Rattle.history_state.specs.Lemmas.History.{after_push, one_behind}
use Rattle.history_state.specs.Lemmas.Lists.{here, later}
use Rattle.history_state.specs.Objects.{has}
use Rattle.history_state.specs.Setting.{Setting, are_finals}
use Rattle.history_state.specs.State.{State}
use Rattle.history_state.specs.Step.{settle, step}
use Rattle.history_calls.specs.Laws.{hart_of}
use Rattle.hart_moves.specs.Harts.{Frame, HartState, Purpose}
use Rattle.world_turns.specs.WorldFrames.Belong.{AreFramesOf, FramesFit, IsFrameOf, Origin}
use Rattle.hart_fits.specs.Finals.{NobodysLeaveFinals}
use Rattle.hart_fits.specs.Fits.{IsInFinals}

-- ---- a grant that is settled leaves the frames

frame_on : (n : ℕ) (z : Standing) (s : State) (h : ℕ) (o : Origin) (purpose : Purpose) (queue : List Function) → IsFrameOf s h o purpose queue → IsFrameOf (settle n z s) h o purpose queue
frame_on n z s h (Origin.opening l) (Purpose.of_startup registers) queue x = record { there = x.there; by = x.by; left = record { each = x.left.each; all = x.left.all } }
frame_on n z s h (Origin.opening l) (Purpose.of_opening to root) queue x = record { there = x.there; by = x.by; left = record { each = x.left.each; all = x.left.all } }
frame_on n z s h (Origin.opening l) (Purpose.of_closing to set) queue x = x
frame_on n z s h (Origin.opening l) (Purpose.of_end code) queue x = x
frame_on n z s h (Origin.closing c) (Purpose.of_startup registers) queue x = x
frame_on n z s h (Origin.closing c) (Purpose.of_opening to root) queue x = x
frame_on n z s h (Origin.closing c) (Purpose.of_closing to set) queue x = record { there = x.there; by = x.by; whole = x.whole; left = x.left }
frame_on n z s h (Origin.closing c) (Purpose.of_end code) queue x = x

frames_on : (n : ℕ) (z : Standing) (s : State) (h : ℕ) (origins : List Origin) (frames : List Frame) → AreFramesOf s h origins frames → AreFramesOf (settle n z s) h origins frames
frames_on n z s h [] [] x = x
frames_on n z s h [] (f ∷ fs) x = x
frames_on n z s h (o ∷ os) [] x = x
frames_on n z s h (o ∷ os) (f ∷ fs) x = (frame_on n z s h o f.purpose f.queue x.0, frames_on n z s h os fs x.1)

-- what is nobody's settles a grant
data IsSettling (s : State) (e : Event) : Type 0 where
  settles : (n : ℕ) (z : Standing) → step s e ≡ settle n z s → IsSettling s e

is_settling : (s : State) (e : Event) → hart_of e ≡ None → IsSettling s e
is_settling s (events.Open hart ask answer) none = absurd (let no : Some hart ≡ None = none in cc)
is_settling s (events.Close hart handle answer) none = absurd (let no : Some hart ≡ None = none in cc)
is_settling s (events.Unmapped hart set) none = absurd (let no : Some hart ≡ None = none in cc)
is_settling s (events.Grant number hart owner slot choice value) none = absurd (let no : Some hart ≡ None = none in cc)
is_settling s (events.Bound number) none = IsSettling.settles number Bound refl
is_settling s (events.Lost number saw) none = IsSettling.settles number (Lost saw) refl
is_settling s (events.Unresolved hart owner slot choice) none = absurd (let no : Some hart ≡ None = none in cc)
is_settling s (events.Sym hart ask answer) none = absurd (let no : Some hart ≡ None = none in cc)
is_settling s (events.Tls hart owner address) none = absurd (let no : Some hart ≡ None = none in cc)
is_settling s (events.Init hart object) none = absurd (let no : Some hart ≡ None = none in cc)
is_settling s (events.Fini hart object) none = absurd (let no : Some hart ≡ None = none in cc)
is_settling s (events.Wrote hart bytes) none = absurd (let no : Some hart ≡ None = none in cc)
is_settling s (events.Told hart fault) none = absurd (let no : Some hart ≡ None = none in cc)
is_settling s (events.Ended hart reason) none = absurd (let no : Some hart ≡ None = none in cc)

one_settled : (w : Setting) (past : List Event) (e : Event) (h : ℕ) (b : HartState) → hart_of e ≡ None → IsInFinals w past h b → IsInFinals w (past ++ e ∷ []) h b
one_settled w past e h b none x = by (is_settling (after past) e none)
  where
    by : IsSettling (after past) e → IsInFinals w (past ++ e ∷ []) h b
    by (IsSettling.settles n z is) =
        let state : after (past ++ e ∷ []) ≡ settle n z (after past) = after_push past e ∙ is in
        record {
          first = x.first;
          over = subst (λ (s : State). IsTrue (are_finals w s)) (sym state) x.over;
          frames = record {
            code = x.frames.code;
            function = x.frames.function;
            above = x.frames.above;
            are = x.frames.are;
            fit = subst (λ (s : State). FramesFit s 0 x.frames.above) (sym state)
                (record { origins = x.frames.fit.origins; are = frames_on n z (after past) 0 x.frames.fit.origins x.frames.above x.frames.fit.are; once = x.frames.fit.once });
            initialised = subst (λ (s : State). IsTrue (has s.inits x.frames.function.object)) (sym state) x.frames.initialised;
            was = record {
              before = x.frames.was.before;
              since = x.frames.was.since ++ e ∷ [];
              are = ap (λ (es : List Event). es ++ e ∷ []) x.frames.was.are ∙ append_assoc x.frames.was.before x.frames.was.since (e ∷ []);
              over = x.frames.was.over;
              next = x.frames.was.next;
            };
          };
        }

pub all_settled : NobodysLeaveFinals
all_settled w past [] h b none x = subst (λ (es : List Event). IsInFinals w es h b) (sym (append-nil past)) x
all_settled w past (e ∷ rest) h b none x = subst (λ (es : List Event). IsInFinals w es h b) (one_behind past e rest)
    (all_settled w (past ++ e ∷ []) rest h b (λ d there. none d (later e rest d there)) (one_settled w past e h b (none e (here e rest)) x))
