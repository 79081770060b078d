-- What keeps the ends of a journal those of its harts.
use Rattle.std.proofs.Common.{◌≡◌, ⊎_elim, ℕ, ◌+◌, true, List, [], ◌∷◌, ◌++◌, length, map, Some, None, refl, sym, ap, subst, ◌∙◌, append-nil, append_assoc}
use Rattle.std.specs.Prelude.{slice_set}
use Rattle.std.specs.List.{Contains, slice_get}
use Rattle.std.specs.Option.{is_some}
use Rattle.std.proofs.lemmas.Bool.{false≢true}
use Rattle.std.proofs.lemmas.List.{length-append}
use Rattle.std.proofs.lemmas.Option.{none-some}
use Rattle.std.proofs.lemmas.List.Elements.{Contains-append_cases, Contains-append_left, Contains-append_right}
use Rattle.history_event.specs.declared.event.CloseAnswer.TheVariants as closes
use Rattle.history_event.specs.declared.event.Event.{Event}
use Rattle.history_event.specs.declared.event.Event.TheVariants as events
use Rattle.history_event.specs.declared.event.OpenAnswer.TheVariants as opens
use Rattle.history_event.specs.declared.event.SymAnswer.TheVariants as syms
use Rattle.history_event.specs.declared.hart_end.HartEnd.{HartEnd}
use Rattle.history_event.specs.declared.state.Ending.{Ending}
use Rattle.history_state.specs.After.{after}
use Rattle.history_state.specs.State.{State}
use Rattle.history_state.specs.Step.{die, initialise, loaded, lower, step, unmap}
use Rattle.history_state.specs.Lemmas.History.{after_push, one_behind}
use Rattle.history_state.specs.Lemmas.Lists.{here, only_in}
use Rattle.hart_moves.specs.Harts.{HartState}
use Rattle.hart_moves.specs.Moves.{freed}
use Rattle.hart_moves.specs.TurnEvents.Appends.{NoneEndsOrUnmaps, neither_ends_nor_unmaps}
use Rattle.world_turns.specs.Lemmas.Turning.{freed_at}
use Rattle.world_turns.specs.WorldEnds.Ends.{AreEndings}
use Rattle.world_turns.specs.WorldEnds.Lemmas.Places.{at_set, count_freed, count_more, count_same, ended_by, freed_here, in_set, runs_on, set_here}

-- ---- events

sparing_step : (s : State) (e : Event) → neither_ends_nor_unmaps e ≡ true → (step s e).endings ≡ s.endings
unfolding loaded die lower unmap initialise
sparing_step s (events.Open hart ask (opens.Done id root added ranges)) spares = refl
sparing_step s (events.Open hart ask opens.Absent) spares = refl
sparing_step s (events.Open hart ask (opens.Refused fault)) spares = refl
sparing_step s (events.Close hart handle (closes.Done set)) spares = refl
sparing_step s (events.Close hart handle (closes.Refused fault)) spares = refl
sparing_step s (events.Unmapped hart set) spares = refl
sparing_step s (events.Grant number hart owner slot choice value) spares = refl
sparing_step s (events.Bound number) spares = refl
sparing_step s (events.Lost number saw) spares = refl
sparing_step s (events.Unresolved hart owner slot choice) spares = refl
sparing_step s (events.Sym hart ask (syms.Found serial index value)) spares = refl
sparing_step s (events.Sym hart ask (syms.Refused fault)) spares = refl
sparing_step s (events.Tls hart owner address) spares = refl
sparing_step s (events.Init hart object) spares = refl
sparing_step s (events.Fini hart object) spares = refl
sparing_step s (events.Wrote hart bytes) spares = refl
sparing_step s (events.Told hart fault) spares = refl
sparing_step s (events.Ended hart reason) spares = absurd (false≢true spares)

pub sparing_events : (past added : List Event) → NoneEndsOrUnmaps added → (after (past ++ added)).endings ≡ (after past).endings
sparing_events past [] spares = ap (λ (es : List Event). (after es).endings) (append-nil past)
sparing_events past (e ∷ rest) spares =
    ap (λ (es : List Event). (after es).endings) (sym (one_behind past e rest)) ∙ sparing_events (past ++ e ∷ []) rest spares.1 ∙ ap (λ (s : State). s.endings) (after_push past e) ∙ sparing_step (after past) e spares.0

unmapped_step : (s : State) (h : ℕ) (set : List ℕ) → (step s (events.Unmapped h set)).endings ≡ s.endings
unfolding unmap
unmapped_step s h set = refl

pub unmapping : (past : List Event) (h : ℕ) (set : List ℕ) → (after (past ++ events.Unmapped h set ∷ [])).endings ≡ (after past).endings
unmapping past h set = ap (λ (s : State). s.endings) (after_push past (events.Unmapped h set)) ∙ unmapped_step (after past) h set

pub an_end : (past front : List Event) (h : ℕ) (reason : HartEnd) → NoneEndsOrUnmaps front
    → (after (past ++ (front ++ events.Ended h reason ∷ []))).endings ≡ (after past).endings ++ record { hart = h; «end» = reason } ∷ []
an_end past front h reason spares =
    ap (λ (es : List Event). (after es).endings) (sym (append_assoc past front (events.Ended h reason ∷ [])))
    ∙ ap (λ (s : State). s.endings) (after_push (past ++ front) (events.Ended h reason))
    ∙ ap (λ (es : List Ending). es ++ record { hart = h; «end» = reason } ∷ []) (sparing_events past front spares)

pub one_longer : (endings : List Ending) (e : Ending) → length (endings ++ e ∷ []) ≡ length endings + 1
one_longer endings e = length-append endings (e ∷ [])

-- ---- harts

module _ (endings : List Ending) (harts : List HartState) (x : AreEndings endings harts) where
  pub freed_fit : AreEndings endings (map freed harts)
  freed_fit = record {
    all = x.all ∙ sym (count_freed harts);
    each = λ e there. let y = x.each e there in (freed y.0, freed_here harts e.hart y.0 y.1, y.2);
    told = λ h b reason at over. let y = freed_at harts h b at in x.told h y.0 reason y.1 (ap (λ (z : HartState). z.«end») y.2 ∙ over);
  }

  module _ (h : ℕ) (b c : HartState) (at : slice_get harts h ≡ Some b) where
    -- a hart in its place that has ended as it did, or runs on
    pub same_fit : c.«end» ≡ b.«end» → AreEndings endings (slice_set harts h c)
    same_fit same = record {
      all = x.all ∙ sym (count_same harts h b c at (ap is_some same));
      each = λ e there. each_of e (x.each e there);
      told = λ k d reason where_is over. ⊎_elim
          (λ (y : (k ≡ h) × (d ≡ c)). subst (λ (n : ℕ). Contains endings (record { hart = n; «end» = reason })) (sym y.0) (x.told h b reason at (sym same ∙ ap (λ (z : HartState). z.«end») (sym y.1) ∙ over)))
          (λ (y : slice_get harts k ≡ Some d). x.told k d reason y over)
          (at_set harts h c k d where_is);
    }
      where
        each_of : (e : Ending) → (d : HartState) × (slice_get harts e.hart ≡ Some d) × (d.«end» ≡ Some e.«end») → (d : HartState) × (slice_get (slice_set harts h c) e.hart ≡ Some d) × (d.«end» ≡ Some e.«end»)
        each_of e (d, there, over) = ⊎_elim
            (λ (y : (d ≡ b) × (slice_get (slice_set harts h c) e.hart ≡ Some c)). (c, y.1, same ∙ ap (λ (z : HartState). z.«end») (sym y.0) ∙ over))
            (λ (y : slice_get (slice_set harts h c) e.hart ≡ Some d). (d, y, over))
            (in_set harts h b c at e.hart d there)

    -- the end of a hart that ran
    pub ended_fit : (reason : HartEnd) → b.«end» ≡ None → c.«end» ≡ Some reason → AreEndings (endings ++ record { hart = h; «end» = reason } ∷ []) (slice_set harts h c)
    ended_fit reason runs over = record {
      all = one_longer endings new ∙ ap (λ (n : ℕ). n + 1) x.all ∙ sym (count_more harts h b c at (runs_on b runs) (ended_by c reason over));
      each = λ e there. ⊎_elim (λ (old : Contains endings e). each_of e (x.each e old)) (λ (y : Contains (new ∷ []) e). new_of e (only_in new e y)) (Contains-append_cases endings (new ∷ []) e there);
      told = λ k d why where_is so. ⊎_elim
          (λ (y : (k ≡ h) × (d ≡ c)). Contains-append_right endings (new ∷ []) (record { hart = k; «end» = why })
          (subst (λ (e : Ending). Contains (new ∷ []) e) (named k why (sym y.0) (some_same (sym over ∙ ap (λ (z : HartState). z.«end») (sym y.1) ∙ so))) (here new [])))
          (λ (y : slice_get harts k ≡ Some d). Contains-append_left endings (new ∷ []) (record { hart = k; «end» = why }) (x.told k d why y so))
          (at_set harts h c k d where_is);
    }
      where
        new : Ending
        new = record { hart = h; «end» = reason }

        some_same : {why : HartEnd} → Some reason ≡ Some why → reason ≡ why
        some_same {why} e = let d : Some reason ≡ Some why = e in cc

        named : (k : ℕ) (why : HartEnd) → h ≡ k → reason ≡ why → new ≡ record { hart = k; «end» = why }
        named k why a e = ap (λ (n : ℕ). record { hart = n; «end» = reason }) a ∙ ap (λ (r : HartEnd). record { hart = k; «end» = r }) e

        each_of : (e : Ending) → (d : HartState) × (slice_get harts e.hart ≡ Some d) × (d.«end» ≡ Some e.«end») → (d : HartState) × (slice_get (slice_set harts h c) e.hart ≡ Some d) × (d.«end» ≡ Some e.«end»)
        each_of e (d, there, so) = ⊎_elim
            (λ (y : (d ≡ b) × (slice_get (slice_set harts h c) e.hart ≡ Some c)). absurd (none-some e.«end» (sym runs ∙ ap (λ (z : HartState). z.«end») (sym y.0) ∙ so)))
            (λ (y : slice_get (slice_set harts h c) e.hart ≡ Some d). (d, y, so))
            (in_set harts h b c at e.hart d there)

        new_of : (e : Ending) → new ≡ e → (d : HartState) × (slice_get (slice_set harts h c) e.hart ≡ Some d) × (d.«end» ≡ Some e.«end»)
        new_of e is = (c, ap (λ (y : Ending). slice_get (slice_set harts h c) y.hart) (sym is) ∙ set_here harts h b c at, over ∙ ap (λ (y : Ending). Some y.«end») is)
