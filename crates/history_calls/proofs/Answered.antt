-- Each call has an answer.
use Rattle.std.proofs.Common.{◌≡◌, ◌⊎◌, inl, inr, ⊎_elim, ℕ, ◌+◌, ◌*◌, ◌≤◌, Bool, true, false, eqb, leb, List, [], ◌∷◌, length, map, Option, Some, None, refl, sym, ap, subst, ◌∙◌, arith}
use Rattle.std.specs.Prelude.{IsSome, max, ◌/◌, ◌%◌, ◌&&◌, ◌||◌, ◌<◌}
use Rattle.std.specs.List.{Contains, list_any, slice_get}
use Rattle.std.specs.Option.{is_some}
use Rattle.std.proofs.Math.Nat.{le-max_left}
use Rattle.std.proofs.lemmas.Bool.{and_from, and_parts, cases_Bool, cases_lt, eq-eqb, eqb-true, leb-true, or_cases, or_left, or_right, true≢false}
use Rattle.ld_base.specs.declared.fault.DlFault.TheVariants as faults
use Rattle.ld_base.specs.declared.linking.Choice.{Choice}
use Rattle.ld_base.specs.declared.linking.Choice.TheVariants.{Def, WeakZero, Missing}
use Rattle.ld_base.specs.declared.linking.Loaded.{Loaded}
use Rattle.ld_base.specs.declared.object.Reloc.{Reloc}
use Rattle.ld_base.specs.declared.object.TlsSeg.{TlsSeg}
use Rattle.address_space.specs.Pages.{Fits, IsFirstFit}
use Rattle.history_event.specs.declared.event.Event.{Event}
use Rattle.history_event.specs.declared.event.Event.TheVariants as events
use Rattle.history_event.specs.declared.hart_end.HartEnd.TheVariants as ends
use Rattle.history_event.specs.declared.state.Granting.{Granting}
use Rattle.ld_base.specs.declared.fault.Shown.TheVariants as shown
use Rattle.history_event.specs.declared.state.Module.{Module}
use Rattle.history_event.specs.declared.state.Standing.TheVariants.{Open}
use Rattle.scope_rule.specs.declared.namespace.OpenRec.{OpenRec}
use Rattle.scope_rule.specs.Relocation.{choice_at}
use Rattle.scope_rule.specs.Seen.{seen_in}
use Rattle.scope_rule.specs.declared.namespace.Namespace.{Namespace}
use Rattle.tls_blocks.specs.Numbers.{module_at}
use Rattle.history_state.specs.Addresses.{address, leads_to_code}
use Rattle.history_state.specs.After.{after}
use Rattle.history_state.specs.Allowed.{Closes, IsOpened, closable}
use Rattle.history_state.specs.Areas.{free_pages}
use Rattle.history_state.specs.Bound.{lazy_word}
use Rattle.history_state.specs.Grants.{is_open, target_of}
use Rattle.history_state.specs.Laws.{AreApart, IsModule, ModulesAreTidy}
use Rattle.history_state.specs.Links.{edges, roots}
use Rattle.history_state.specs.Lookup.{HasStorage, HasNoBlock, MayHaveBlock, WantsBlock}
use Rattle.history_state.specs.Objects.{IsMapped, has, mapped, object_at, serial_of}
use Rattle.history_state.specs.Setting.{Setting}
use Rattle.history_state.specs.Slots.{HasNoGrant, IsSlot}
use Rattle.history_state.specs.State.{State}
use Rattle.history_state.specs.Step.{lower}
use Rattle.history_state.specs.Storage.{block_align, block_pages, module_of, residue, tls_block}
use Rattle.history_state.specs.Lemmas.Lists.{any_in, first_or_later, found_in, from_flat, has_in, here, in_any, in_flat, in_has, later, none_in, not_found}
use Rattle.history_state.specs.Lemmas.Played.{bad_handle}
use Rattle.history_calls.specs.Answer.{returns, granted, again, over}
use Rattle.history_calls.specs.Call.{resolves, closes, unmaps, locates}
use Rattle.history_calls.specs.Complete.{HasAnswer}
use Rattle.history_calls.specs.Ends.{LacksSlot}
use Rattle.history_calls.specs.Ends.EndsAs.{unloaded, no_slot, bad_module, no_room}
use Rattle.history_calls.specs.Gives.{variable_at}
use Rattle.history_calls.specs.Gives.EventAnswers.{dies, stays, is_granted, is_not_closed, is_not_code, is_unmapped, is_unresolved}
use Rattle.history_calls.specs.Gives.Gives.{by_event, in_new_block, in_block, to_again, to_end}
use Rattle.history_calls.specs.Waiting.{HasFinished, Touches}
use Rattle.history_calls.specs.Waiting.Shows.{by_grant}
use Rattle.history_calls.proofs.Decide.{first_fit, unneeded}
use Rattle.history_state.specs.Lemmas.Standing.{is_open_of, open_is, weak_leads}

-- ---- a slot

-- a slot that may not be bound
lacking : (w : Setting) (past : List Event) (h owner eights slot : ℕ) (choice : Choice) → HasNoGrant (after past) h → eights ≡ 8 * slot → (is : IsSlot (after past) owner slot choice)
    → leads_to_code (after past) (lazy_word is.object is.reloc) choice ≡ false → HasAnswer w past h (resolves owner eights)
lacking w past h owner eights slot (Def serial index) free eight is code = record {
  given = events.Unresolved h owner slot (Def serial index) ∷ [];
  answer = over (ends.NotCode owner slot);
  gives = by_event _ _ _ (is_not_code owner eights slot serial index eight) (record { free = free; may_not = record { is_slot = is; code = code } });
  ample = refl;
}
lacking w past h owner eights slot WeakZero free eight is code = absurd (true≢false (sym (weak_leads (after past) (lazy_word is.object is.reloc)) ∙ code))
lacking w past h owner eights slot Missing free eight is code = record {
  given = events.Unresolved h owner slot Missing ∷ [];
  answer = over (ends.Unresolved owner slot);
  gives = by_event _ _ _ (is_unresolved owner eights slot eight) (record { free = free; may_not = record { is_slot = is; code = code } });
  ample = refl;
}

at_slot : (w : Setting) (past : List Event) (h owner eights slot : ℕ) (choice : Choice) → HasNoGrant (after past) h → eights ≡ 8 * slot → (is : IsSlot (after past) owner slot choice)
    → HasAnswer w past h (resolves owner eights)
at_slot w past h owner eights slot choice free eight is = ⊎_elim
    (λ (t : leads_to_code (after past) (lazy_word is.object is.reloc) choice ≡ true). record {
      given = events.Grant (length (after past).grants + 1) h owner slot choice (address (after past) choice) ∷ [];
      answer = granted _;
      gives = by_event _ _ _ (is_granted owner eights slot (length (after past).grants + 1) choice (address (after past) choice) eight)
          (record { numbered = refl; free = free; may = record { is_slot = is; code = t }; is = refl });
      ample = refl;
    })
    (λ (f : leads_to_code (after past) (lazy_word is.object is.reloc) choice ≡ false). lacking w past h owner eights slot choice free eight is f)
    (cases_Bool (leads_to_code (after past) (lazy_word is.object is.reloc) choice))

no_slots : (w : Setting) (past : List Event) (h owner eights : ℕ) → LacksSlot (after past) owner eights → HasAnswer w past h (resolves owner eights)
no_slots w past h owner eights lacks = record { given = []; answer = over (ends.NoSlot owner eights); gives = to_end _ _ (no_slot owner eights lacks); ample = refl }

eighth : (eights slot : ℕ) → eights ≡ 8 * slot → slot ≡ eights / 8
eighth eights slot e = omega (arith, e)

multiple : (eights : ℕ) → eights % 8 ≡ 0 → eights ≡ 8 * (eights / 8)
multiple eights e = omega (arith, e)

no_multiple : (eights slot : ℕ) → eights ≡ 8 * slot → eights % 8 ≡ 0
no_multiple eights slot e = omega (arith, e)

of_object : (w : Setting) (past : List Event) (h owner eights : ℕ) (ns : Namespace) (o : Loaded) → HasNoGrant (after past) h → Contains (after past).namespaces ns → Contains ns.objects o → o.serial ≡ owner
    → HasAnswer w past h (resolves owner eights)
of_object w past h owner eights ns o free there inside is = ⊎_elim
    (λ (t : eqb (eights % 8) 0 ≡ true). by (multiple eights (eqb-true (eights % 8) 0 t)) (slice_get o.object.plt_relocs (eights / 8)) refl)
    (λ (f : eqb (eights % 8) 0 ≡ false). no_slots w past h owner eights (record {
      mapped = m;
      none = λ slot e. absurd (true≢false (sym (eq-eqb (eights % 8) 0 (no_multiple eights slot e)) ∙ f));
    }))
    (cases_Bool (eqb (eights % 8) 0))
  where
    m : IsMapped (after past) owner
    m = record { namespace = ns; object = o; there = there; inside = inside; is = is }

    by : eights ≡ 8 * (eights / 8) → (found : Option Reloc) → slice_get o.object.plt_relocs (eights / 8) ≡ found → HasAnswer w past h (resolves owner eights)
    by eight (Some r) at = at_slot w past h owner eights (eights / 8) (choice_at (seen_in ns) o r) free eight
        (record { namespace = ns; object = o; there = there; inside = inside; is = is; reloc = r; at = at; chooses = refl })
    by eight None none = no_slots w past h owner eights (record {
      mapped = m;
      none = λ slot e. subst (λ (n : ℕ). slice_get o.object.plt_relocs n ≡ None) (sym (eighth eights slot e)) none;
    })

pub resolves_answered : (w : Setting) (past : List Event) (h owner eights : ℕ) → HasNoGrant (after past) h → HasAnswer w past h (resolves owner eights)
resolves_answered w past h owner eights free = by (object_at (after past) owner) refl
  where
    by : (found : Option Loaded) → object_at (after past) owner ≡ found → HasAnswer w past h (resolves owner eights)
    by None none = record {
      given = [];
      answer = over (ends.Unloaded owner);
      gives = to_end _ _ (unloaded owner eights (λ m. true≢false (sym (eq-eqb m.object.serial owner m.is)
          ∙ not_found (λ (o : Loaded). eqb o.serial owner) (mapped (after past)) m.object none (in_flat (λ (n : Namespace). n.objects) (after past).namespaces m.namespace m.object m.there m.inside))));
      ample = refl;
    }
    by (Some o) at =
        let in_all = found_in (λ (x : Loaded). eqb x.serial owner) (mapped (after past)) o at in
        let home = from_flat (λ (n : Namespace). n.objects) (after past).namespaces o in_all.0 in
        of_object w past h owner eights home.0 o free home.1 home.2 (eqb-true o.serial owner in_all.1)

-- ---- a closing

close_by : (w : Setting) (past : List Event) (h handle : ℕ) (set : List ℕ) → Closes (after past) handle set → HasAnswer w past h (closes handle)
close_by w past h handle [] may = record { given = _; answer = _; gives = by_event _ _ _ (stays handle) may; ample = refl }
close_by w past h handle (first ∷ rest) may = record { given = _; answer = _; gives = by_event _ _ _ (dies handle first rest) may; ample = refl }

opened_at : (s : State) (handle : ℕ) → list_any (λ ns. list_any (λ r. eqb r.root handle && leb 1 (closable r)) ns.opens) s.namespaces ≡ true → (ns : Namespace) × IsOpened s handle ns
opened_at s handle some =
    let home = any_in (λ (ns : Namespace). list_any (λ r. eqb r.root handle && leb 1 (closable r)) ns.opens) s.namespaces some in
    let opening = any_in (λ (r : OpenRec). eqb r.root handle && leb 1 (closable r)) home.0.opens home.2 in
    let parts = and_parts (eqb opening.0.root handle) (leb 1 (closable opening.0)) opening.2 in
    (home.0, record { there = home.1; opening = opening.0; inside = opening.1; of = eqb-true opening.0.root handle parts.0; counts = leb-true 1 (closable opening.0) parts.1 })

pub closes_answered : (w : Setting) (past : List Event) (h handle : ℕ) → HasAnswer w past h (closes handle)
closes_answered w past h handle = ⊎_elim
    (λ (t : list_any (λ ns. list_any (λ r. eqb r.root handle && leb 1 (closable r)) ns.opens) (after past).namespaces ≡ true).
    let at = opened_at (after past) handle t in
    let dying = unneeded (edges (lower handle (after past))) (roots (lower handle (after past))) (map serial_of at.0.objects) in
    close_by w past h handle dying.0 (record { namespace = at.0; opened = at.1; exactly = dying.1 }))
    (λ (f : list_any (λ ns. list_any (λ r. eqb r.root handle && leb 1 (closable r)) ns.opens) (after past).namespaces ≡ false). record {
      given = _;
      answer = _;
      gives = by_event _ _ _ (is_not_closed handle (faults.BadHandle handle)) (bad_handle (after past) handle f);
      ample = refl;
    })
    (cases_Bool (list_any (λ ns. list_any (λ r. eqb r.root handle && leb 1 (closable r)) ns.opens) (after past).namespaces))

-- ---- an unmapping

abbrev touches : List ℕ → Granting → Bool
touches set g = is_open g && (has set g.owner || list_any (has set) (target_of g.choice))

touched : (set : List ℕ) (g : Granting) → touches set g ≡ true → (g.standing ≡ Open) × Touches g set
touched set g t =
    let parts = and_parts (is_open g) (has set g.owner || list_any (has set) (target_of g.choice)) t in (
      open_is g.standing parts.0,
      ⊎_elim
          (λ (o : has set g.owner ≡ true). (g.owner, has_in set g.owner o, inl refl))
          (λ (c : list_any (has set) (target_of g.choice) ≡ true). let at = any_in (has set) (target_of g.choice) c in (at.0, has_in set at.0 at.2, inr at.1))
          (or_cases (has set g.owner) (list_any (has set) (target_of g.choice)) parts.1),
    )

touching : (set : List ℕ) (g : Granting) → g.standing ≡ Open → Touches g set → touches set g ≡ true
touching set g open_yet at = and_from (is_open g) (has set g.owner || list_any (has set) (target_of g.choice)) (is_open_of g.standing open_yet) (⊎_elim
    (λ (e : g.owner ≡ at.0). or_left (has set g.owner) (list_any (has set) (target_of g.choice)) (in_has set g.owner (subst (Contains set) (sym e) at.1)))
    (λ (c : Contains (target_of g.choice) at.0). or_right (has set g.owner) (list_any (has set) (target_of g.choice)) (in_any (has set) (target_of g.choice) at.0 c (in_has set at.0 at.1)))
    at.2)

pub record IsLeastGrant (q : Granting → Bool) (gs : List Granting) (g : Granting) : Type 0 where
  pub there : Contains gs g
  pub passes : q g ≡ true
  pub least : (x : Granting) → Contains gs x → q x ≡ true → g.number ≤ x.number

least_grant : (q : Granting → Bool) (gs : List Granting) → ((g : Granting) × IsLeastGrant q gs g) ⊎ ((x : Granting) → Contains gs x → q x ≡ false)
least_grant q [] = inr (λ x there. absurd (none_in x there))
least_grant q (y ∷ gs) = by (cases_Bool (q y)) (least_grant q gs)
  where
    behind : (g : Granting) → IsLeastGrant q gs g → (q y ≡ true → g.number ≤ y.number) → IsLeastGrant q (y ∷ gs) g
    behind g at first = record {
      there = later y gs g at.there;
      passes = at.passes;
      least = λ x there p. ⊎_elim
          (λ (e : y ≡ x). subst (λ (z : Granting). q z ≡ true → g.number ≤ z.number) e first p)
          (λ (i : Contains gs x). at.least x i p)
          (first_or_later y gs x there);
    }

    in_front : q y ≡ true → ((x : Granting) → Contains gs x → q x ≡ true → y.number ≤ x.number) → IsLeastGrant q (y ∷ gs) y
    in_front t rest = record {
      there = here y gs;
      passes = t;
      least = λ x there p. ⊎_elim
          (λ (e : y ≡ x). subst (λ (z : Granting). y.number ≤ z.number) e (omega arith))
          (λ (i : Contains gs x). rest x i p)
          (first_or_later y gs x there);
    }

    by : (q y ≡ true) ⊎ (q y ≡ false) → ((g : Granting) × IsLeastGrant q gs g) ⊎ ((x : Granting) → Contains gs x → q x ≡ false)
        → ((g : Granting) × IsLeastGrant q (y ∷ gs) g) ⊎ ((x : Granting) → Contains (y ∷ gs) x → q x ≡ false)
    by (inl t) (inl some) = ⊎_elim
        (λ (lt : y.number < some.0.number). inl (y, in_front t (λ x i p. let le : some.0.number ≤ x.number = some.1.least x i p in omega (arith, lt, le))))
        (λ (ge : some.0.number ≤ y.number). inl (some.0, behind some.0 some.1 (λ p. ge)))
        (cases_lt y.number some.0.number)
    by (inl t) (inr none) = inl (y, in_front t (λ x i p. absurd (true≢false (sym p ∙ none x i))))
    by (inr f) (inl some) = inl (some.0, behind some.0 some.1 (λ p. absurd (true≢false (sym p ∙ f))))
    by (inr f) (inr none) = inr (λ x there. ⊎_elim (λ (e : y ≡ x). subst (λ (z : Granting). q z ≡ false) e f) (λ (i : Contains gs x). none x i) (first_or_later y gs x there))

pub unmaps_answered : (w : Setting) (past : List Event) (h : ℕ) (set : List ℕ) → HasFinished (after past) h set → HasAnswer w past h (unmaps set)
unmaps_answered w past h set finished = ⊎_elim
    (λ (some : (g : Granting) × IsLeastGrant (touches set) (after past).grants g).
    let at = touched set some.0 some.1.passes in
    record {
      given = [];
      answer = again (shown.OpenGrant some.0.number);
      gives = to_again _ _ (by_grant set some.0.number finished (record {
        grant = some.0;
        is = record { there = some.1.there; numbered = refl; open_yet = at.0 };
        touches = at.1;
        least = λ other there open_yet also. some.1.least other there (touching set other open_yet also);
      }));
      ample = refl;
    })
    (λ (none : (x : Granting) → Contains (after past).grants x → touches set x ≡ false). record {
      given = events.Unmapped h set ∷ [];
      answer = returns 0;
      gives = by_event _ _ _ (is_unmapped set) (record {
        some = finished.some;
        closing = finished.closing;
        there = finished.there;
        by = finished.by;
        whole = finished.whole;
        done = finished.done;
        free = λ g d there open_yet inside. (
          (λ (e : g.owner ≡ d). true≢false (sym (touching set g open_yet (d, inside, inl e)) ∙ none g there)),
          (λ (c : Contains (target_of g.choice) d). true≢false (sym (touching set g open_yet (d, inside, inr c)) ∙ none g there)),
        );
      });
      ample = refl;
    })
    (least_grant (touches set) (after past).grants)

-- ---- blocks

some_pages : (n : ℕ) → 1 ≤ max 1 n
some_pages n = le-max_left 1 n

-- a hart without a block of an object with storage gets one, or there is no room
pub block_or_full : (s : State) (h serial : ℕ) → HasStorage s serial → tls_block s h serial ≡ None → ((block : ℕ) × MayHaveBlock s h serial block) ⊎ ((pages : ℕ) × HasNoBlock s h serial pages)
block_or_full s h serial has none = ⊎_elim
    (λ (x : (a : ℕ) × IsFirstFit (free_pages s.ranges) (block_pages has.seg) (block_align has.seg) a).
    inl (x.0 + residue has.seg, record { seg = has.seg; wants = wants; pages = x.0; first = x.1; is = refl }))
    (λ (x : (a : ℕ) → ¬ (Fits (free_pages s.ranges) (block_pages has.seg) (block_align has.seg) a)). inr (block_pages has.seg, record { seg = has.seg; wants = wants; none = x; is = refl }))
    (first_fit (free_pages s.ranges) (block_pages has.seg) (block_align has.seg) (some_pages _))
  where
    wants : WantsBlock s h serial has.seg
    wants = record { object = has.object; mapped = has.mapped; storage = has.storage; has_module = has.has_module; none = none }

-- each module is one of an object with storage
module_stored : (s : State) → AreApart s → ModulesAreTidy s → (m : Module) → Contains s.modules m → HasStorage s m.serial
module_stored s apart tidy m there = by (tidy.mapped m there)
  where
    serial_is : (x : IsModule s m) → x.object.serial ≡ m.serial
    serial_is x = ap (λ (k : Module). k.serial) x.is

    seg_of : (x : IsModule s m) → (found : Option TlsSeg) → x.object.object.tls ≡ found → is_some found ≡ true → (seg : TlsSeg) × (x.object.object.tls ≡ Some seg)
    seg_of x (Some seg) e t = (seg, e)
    seg_of x None e t = absurd (true≢false (sym t))

    module_there : (found : Option Module) → module_of s m.serial ≡ found → IsSome (module_of s m.serial)
    module_there (Some k) e = subst (λ (f : Option Module). IsSome f) (sym e) refl
    module_there None e = absurd (true≢false (sym (eq-eqb m.serial m.serial refl) ∙ not_found (λ (k : Module). eqb k.serial m.serial) s.modules m e there))

    by : IsModule s m → HasStorage s m.serial
    by x =
        let seg = seg_of x x.object.object.tls refl (sym (tidy.some x.namespace x.object x.inside) ∙ ap is_some x.has) in
        record {
          object = x.object;
          mapped = subst (λ (n : ℕ). object_at s n ≡ Some x.object) (serial_is x) (apart.found x.namespace x.object x.inside);
          seg = seg.0;
          storage = seg.1;
          has_module = module_there (module_of s m.serial) refl;
        }

pub locates_answered : (w : Setting) (past : List Event) (h number offset : ℕ) → AreApart (after past) → ModulesAreTidy (after past) → HasAnswer w past h (locates number offset)
locates_answered w past h number offset apart tidy = by (module_at (after past).modules number) refl
  where
    of : (m : Module) → module_at (after past).modules number ≡ Some m → (found : Option ℕ) → tls_block (after past) h m.serial ≡ found → HasAnswer w past h (locates number offset)
    of m at (Some block) is = record {
      given = [];
      answer = returns (variable_at block offset);
      gives = in_block number offset block (record { of = m; there = at; is = is });
      ample = refl;
    }
    of m at None is = ⊎_elim
        (λ (x : (block : ℕ) × MayHaveBlock (after past) h m.serial block). record {
          given = events.Tls h m.serial x.0 ∷ [];
          answer = returns (variable_at x.0 offset);
          gives = in_new_block number offset x.0 (events.Tls h m.serial x.0) (record { of = m; there = at; is = refl; may = x.1 });
          ample = refl;
        })
        (λ (x : (pages : ℕ) × HasNoBlock (after past) h m.serial pages). record {
          given = [];
          answer = over (ends.AddressSpaceFull x.0);
          gives = to_end _ _ (no_room number offset x.0 (record { of = m; there = at; none = x.1 }));
          ample = refl;
        })
        (block_or_full (after past) h m.serial (module_stored (after past) apart tidy m (found_in (λ (k : Module). eqb k.number number) (after past).modules m at).0) is)

    by : (found : Option Module) → module_at (after past).modules number ≡ found → HasAnswer w past h (locates number offset)
    by (Some m) at = of m at (tls_block (after past) h m.serial) refl
    by None none = record { given = []; answer = over (ends.BadModule number); gives = to_end _ _ (bad_module number offset none); ample = refl }
