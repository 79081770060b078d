-- When a run starts the first hart has the constructors of the program's opening to run.
use Rattle.std.proofs.Common.{◌≡◌, ℕ, zero, suc, ◌+◌, List, [], ◌∷◌, ◌++◌, flat_map, map, Some, refl, sym, ap, subst, ◌∙◌}
use Rattle.std.specs.List.{Contains, slice_get}
use Rattle.std.proofs.lemmas.Option.{none-some}
use Rattle.ld_base.specs.declared.linking.Loaded.{Loaded}
use Rattle.history_event.specs.declared.event.Event.{Event}
use Rattle.history_event.specs.declared.handed.Function.{Function}
use Rattle.history_event.specs.declared.handed.HartEntry.{HartEntry}
use Rattle.history_event.specs.declared.state.Loading.{Loading}
use Rattle.history_calls.specs.declared.link_served.startup.Setup.{Setup}
use Rattle.history_calls.specs.declared.link_served.startup.Started.{Started}
use Rattle.history_state.specs.After.{after, after_from}
use Rattle.history_state.specs.Allowed.{Allowed}
use Rattle.history_state.specs.Legal.{Lawful}
use Rattle.history_state.specs.Links.{found_edges}
use Rattle.history_state.specs.Objects.{mapped, serial_of}
use Rattle.history_state.specs.Setting.{Machine, Setting}
use Rattle.history_state.specs.State.{State, empty_state}
use Rattle.history_state.specs.Step.{step}
use Rattle.history_state.specs.Lemmas.Lists.{none_in}
use Rattle.history_graph.specs.declared.graph.Edge.{Edge}
use Rattle.history_graph.specs.Initialised.{InitOrder, program_last}
use Rattle.history_calls.specs.Functions.{AreConstructors, AreLeft, AreStartConstructors, object_of, preceded}
use Rattle.history_calls.specs.Laws.{OpeningBegins}
use Rattle.history_calls.specs.Startup.{FindHarts, Starts, found_at, opening, program_ask}
use Rattle.hart_moves.specs.Harts.{Frame, HartState, Purpose}
use Rattle.hart_moves.specs.Moves.{runs}
use Rattle.hart_moves.specs.Starting.{starting_hart, starting_harts, starting_registers}
use Rattle.hart_moves.specs.TurnFrames.Leaves.{behind_first}
use Rattle.hart_moves.specs.TurnFrames.Lemmas.Turning.{runs_frames}
use Rattle.world_turns.specs.WorldFrames.Belong.{FramesFit, IsOfOpening, Origin}
use Rattle.world_turns.specs.WorldFrames.Lemmas.Passing.{new_loading}

-- look-ups that find something leave the state as it is
finds_keep : (w : Setting) (past : List Event) (h : ℕ) (names : List (List ℕ)) (found : List Event) (addresses : List ℕ) → FindHarts w past h names found addresses → (s : State) → after_from s found ≡ s
unfolding after_from
finds_keep w past h names found addresses (FindHarts.no_more _ _) s = refl
finds_keep w past h names found addresses (FindHarts.one_more _ _ name rest serial index value more others finds later) s =
    finds_keep w (past ++ found_at h name serial index value ∷ []) (h + 1) rest more others later s

pub start_state : (w : Setting) (setup : Setup) (past : List Event) (started : Started) (is : Starts w setup past started) → after past ≡ after (opening setup is.root is.added is.ranges ∷ [])
unfolding after_from
start_state w setup past started is =
    ap after is.are ∙ finds_keep w _ 1 setup.harts is.found is.addresses is.finds (step empty_state (opening setup is.root is.added is.ranges))

preceded_objects : (before : List ℕ) (functions : List Function) → map object_of (preceded before functions) ≡ map object_of functions
preceded_objects before [] = refl
preceded_objects before (f ∷ rest) = refl

none_lawful : (m : Machine) → Lawful m []
unfolding Lawful
none_lawful m k e at = absurd (none-some e at)

-- of no new objects there are no constructors
none_left : (edges : List Edge) (order : List ℕ) → InitOrder edges (program_last (Some 1) []) order → order ≡ []
none_left edges [] x = refl
none_left edges (o ∷ rest) x = absurd (none-some o ((x.each 0 o refl).stands))

module _ (begins : OpeningBegins) (w : Setting) (setup : Setup) (past : List Event) (started : Started) (is : Starts w setup past started) where
  abbrev functions : List Function
  functions = started.functions

  abbrev loading_of_start : Loaded → List Loaded → Loading
  loading_of_start first rest = record { hart = 0; serials = map serial_of (first ∷ rest) }

  -- what is left to be initialised, of the objects that startup loads
  left_at_start : (first : Loaded) (rest : List Loaded) → is.added ≡ first ∷ rest → IsOfOpening (after past) 0 (loading_of_start first rest) started.functions
  left_at_start first rest are =
      let it : AreStartConstructors (after past) (map serial_of is.added) started.functions = is.constructed in
      let e : Event = opening setup is.root (first ∷ rest) is.ranges in
      let state : after past ≡ after (opening setup is.root (first ∷ rest) is.ranges ∷ []) =
      start_state w setup past started is ∙ ap (λ (os : List Loaded). after (opening setup is.root os is.ranges ∷ [])) are in
      let plain : AreConstructors (after (opening setup is.root (first ∷ rest) is.ranges ∷ [])) (map serial_of (first ∷ rest)) it.plain =
      subst (λ (s : State). AreConstructors s (map serial_of (first ∷ rest)) it.plain) state (subst (λ (os : List Loaded). AreConstructors (after past) (map serial_of os) it.plain) are it.are) in
      let left = begins w.machine w [] 0 0 is.root (program_ask setup) first rest is.ranges it.plain refl (none_lawful w.machine)
      (subst (λ (os : List Loaded). Allowed w [] (opening setup is.root os is.ranges)) are is.opens) plain in
      record {
        there = subst (λ (s : State). Contains s.loadings (loading_of_start first rest)) (sym state) (new_loading [] 0 0 is.root (program_ask setup) first rest is.ranges);
        by = refl;
        left = subst (λ (s : State). AreLeft s (loading_of_start first rest) (map object_of started.functions)) (sym state)
            (subst (AreLeft (after (opening setup is.root (first ∷ rest) is.ranges ∷ [])) (loading_of_start first rest)) (sym (ap (λ (fs : List Function). map object_of fs) it.is ∙ preceded_objects it.before it.plain)) left);
      }

  none_fit : (h : ℕ) (frames : List Frame) → frames ≡ [] → FramesFit (after past) h frames
  none_fit h frames none = subst (FramesFit (after past) h) (sym none) (record { origins = []; are = tt; once = tt })

  -- the first hart's
  first_fit : (entry : HartEntry) (fs : List Function) → started.functions ≡ fs → (added : List Loaded) → is.added ≡ added → FramesFit (after past) 0 (runs (Purpose.of_startup (starting_registers entry)) fs [] (starting_hart setup.fuel entry)).frames
  first_fit entry [] are added news = none_fit 0 _ (runs_frames (Purpose.of_startup (starting_registers entry)) [] [] (starting_hart setup.fuel entry))
  first_fit entry (f ∷ rest) are [] news =
      let it : AreStartConstructors (after past) (map serial_of is.added) started.functions = is.constructed in
      let order : InitOrder (flat_map found_edges (mapped (after past))) (program_last (Some 1) []) (map object_of it.plain) =
      subst (λ (os : List Loaded). InitOrder (flat_map found_edges (mapped (after past))) (program_last (Some 1) (map serial_of os)) (map object_of it.plain)) news it.are.order in
      absurd (some_left (sym (none_left (flat_map found_edges (mapped (after past))) (map object_of it.plain) order) ∙ sym (preceded_objects it.before it.plain) ∙ ap (λ (fs : List Function). map object_of fs) (sym it.is ∙ are)))
    where
      some_left : [] ≡ f.object ∷ map object_of rest → ⊥
      some_left e = let no : [] ≡ f.object ∷ map object_of rest = e in cc
  first_fit entry (f ∷ rest) are (o ∷ others) news =
      subst (FramesFit (after past) 0) (sym (runs_frames (Purpose.of_startup (starting_registers entry)) (f ∷ rest) [] (starting_hart setup.fuel entry)))
      (record {
        origins = Origin.opening (loading_of_start o others) ∷ [];
        are = (left_with, tt);
        once = (λ there. none_in (Origin.opening (loading_of_start o others)) there, tt);
      })
    where
      left_with : IsOfOpening (after past) 0 (loading_of_start o others) (behind_first f ∷ rest)
      left_with =
          let x = left_at_start o others news in
          record { there = x.there; by = x.by; left = subst (AreLeft (after past) (loading_of_start o others)) (ap (λ (fs : List Function). map object_of fs) are) x.left }

  others_fit : (entries : List HartEntry) (h k : ℕ) (b : HartState) → slice_get (map (starting_hart setup.fuel) entries) h ≡ Some b → FramesFit (after past) k b.frames
  others_fit [] h k b at = absurd (none-some b at)
  others_fit (entry ∷ rest) zero k b at = none_fit k b.frames (ap (λ (x : HartState). x.frames) (let same : b ≡ starting_hart setup.fuel entry = cc in same))
  others_fit (entry ∷ rest) (suc h) k b at = others_fit rest h k b at

  pub all_fit : (entries : List HartEntry) (h : ℕ) (b : HartState) → slice_get (starting_harts setup.fuel started.functions entries) h ≡ Some b → FramesFit (after past) h b.frames
  all_fit [] h b at = absurd (none-some b at)
  all_fit (entry ∷ rest) zero b at =
      subst (λ (x : HartState). FramesFit (after past) 0 x.frames) (let same : runs (Purpose.of_startup (starting_registers entry)) started.functions [] (starting_hart setup.fuel entry) ≡ b = cc in same)
      (first_fit entry started.functions refl is.added refl)
  all_fit (entry ∷ rest) (suc h) b at = others_fit rest h (suc h) b at

-- each hart that startup sets off has what it is to run of its opening
pub starting_fit : OpeningBegins → (w : Setting) (setup : Setup) (past : List Event) (started : Started) → Starts w setup past started → (h : ℕ) (b : HartState)
    → slice_get (starting_harts setup.fuel started.functions started.entries) h ≡ Some b → FramesFit (after past) h b.frames
starting_fit begins w setup past started is h b at = all_fit begins w setup past started is started.entries h b at
