-- What a closing takes nothing holds.
use Rattle.std.proofs.Common.{◌≡◌, ⊎_elim, ℕ, Bool, true, false, not, ◌||◌, List, ◌∷◌, refl, ap, subst}
use Rattle.std.specs.List.{Contains}
use Rattle.std.proofs.lemmas.Bool.{cases_Bool, true≢false}
use Rattle.ld_base.specs.declared.linking.Loaded.{Loaded}
use Rattle.ld_base.specs.declared.linking.State.{State as Doing}
use Rattle.ld_base.specs.declared.linking.State.TheVariants as states
use Rattle.history_event.specs.declared.state.Standing.{Standing}
use Rattle.history_event.specs.declared.state.Standing.TheVariants.{Open, Bound, Lost}
use Rattle.scope_rule.specs.declared.namespace.Namespace.{Namespace}
use Rattle.history_state.specs.State.{State}
use Rattle.history_state.specs.Allowed.{Closes}
use Rattle.history_state.specs.Grants.{target_of}
use Rattle.history_state.specs.Laws.{ClosesSpare, IsSpare}
use Rattle.history_state.specs.Links.{Needed, stays}
use Rattle.history_state.specs.Step.{lower, lowered_in}
use Rattle.history_state.specs.Lemmas.Lists.{here, later}
use Rattle.history_state.specs.Lemmas.Closed.{Dies, closes_dies, dies_along, dies_node, good_lower}
use Rattle.history_state.specs.Lemmas.Dangling.{leads_from}
use Rattle.history_state.specs.Lemmas.Dying.{granted_root, opened_root, pinned_root, staying_root, startup_root}
use Rattle.history_state.specs.Lemmas.Good.{Good, Inside, core}

-- an object that doesn't stay is ready, and may go
goes : (b : Bool) (doing : Doing) → (b || not (elim doing [ states.Ready ↦ true | _ ↦ false ])) ≡ false → (doing ≡ states.Ready) × (b ≡ false)
goes true doing e = absurd (true≢false e)
goes false states.Ready e = (refl, refl)
goes false (states.Initialising hart) e = absurd (true≢false e)
goes false (states.Dying hart) e = absurd (true≢false e)

spare_of : (s : State) (ns : Namespace) (set : List ℕ) → Good (core s) → Dies s ns set → (d : ℕ) → Contains set d → IsSpare s set d
spare_of s ns set good dies d h =
    let un = (dies_node s ns set dies d h).1 in
    let gone = λ (ms : Namespace) (o : Loaded) (inside : Inside s.namespaces ms o) (is : o.serial ≡ d). goes o.object.flags.nodelete o.state
    (⊎_elim
    (λ (t : stays o ≡ true). absurd (un (subst (Needed s) is (staying_root s ms o inside t))))
    (λ (f : stays o ≡ false). f)
    (cases_Bool (stays o))) in
    record {
      startup = λ i. un (startup_root s d i);
      opened = λ ms r there inside i. un (opened_root s ms r d there inside i);
      pinned = λ i. un (pinned_root s d i);
      ready = λ ms o inside is. (gone ms o (inside.there, inside.inside) is).0;
      marked = λ ms o inside is. (gone ms o (inside.there, inside.inside) is).1;
      granted = λ g there open_yet. (
        λ (is : g.owner ≡ d). un (granted_root s g d there (open_is g.standing open_yet) (subst (λ (n : ℕ). Contains (g.owner ∷ target_of g.choice) n) is (here g.owner (target_of g.choice)))),
        λ i. un (granted_root s g d there (open_is g.standing open_yet) (later g.owner (target_of g.choice) d i)),
      );
      followed = λ ms o inside leads. dies_along s ns set good dies ms o d (inside.there, inside.inside) (leads_from s o d leads) h;
    }
  where
    open_is : (st : Standing) → st ≡ Open → (elim st [ Open ↦ true | Bound ↦ false | Lost saw ↦ false ]) ≡ true
    open_is st e = ap (λ (x : Standing). elim x [ Open ↦ true | Bound ↦ false | Lost saw ↦ false ]) e

pub closes_spare : (s : State) (handle : ℕ) (set : List ℕ) → Good (core s) → Closes s handle set → ClosesSpare (lower handle s) set
closes_spare s handle set good closes =
    let dies = closes_dies s handle set closes in
    record {
      namespace = lowered_in handle closes.namespace;
      there = dies.there;
      inside = λ d h. (dies_node (lower handle s) (lowered_in handle closes.namespace) set dies d h).0;
      spare = λ d h. spare_of (lower handle s) (lowered_in handle closes.namespace) set (good_lower s handle good) dies d h;
    }
