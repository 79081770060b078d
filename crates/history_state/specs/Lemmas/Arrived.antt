-- An opening keeps what leads where: what new objects found and chose stays.
use Rattle.std.proofs.Common.{◌≡◌, ◌⊎◌, inl, inr, ⊎_elim, ℕ, ◌+◌, ◌<◌, ◌≤◌, Bool, true, false, eqb, List, [], ◌∷◌, ◌++◌, map, length, Option, Some, None, refl, sym, ap, subst, ◌∙◌, arith}
use Rattle.std.specs.Prelude.{if◌then◌else◌}
use Rattle.std.specs.List.{Contains, flat_map, list_any}
use Rattle.std.proofs.lemmas.List.Elements.{Contains-append_cases, Contains-append_left, Contains-append_right, Contains-push_cases}
use Rattle.ld_base.specs.declared.linking.Choice.{Choice}
use Rattle.ld_base.specs.declared.linking.Loaded.{Loaded}
use Rattle.ld_base.specs.declared.object.Reloc.{Reloc}
use Rattle.history_event.specs.declared.state.Chosen.{Chosen}
use Rattle.history_event.specs.declared.state.Loading.{Loading}
use Rattle.scope_rule.specs.Breadth.{breadth, extend}
use Rattle.scope_rule.specs.Loading.{is_dying}
use Rattle.scope_rule.specs.Opening.{opened, raised}
use Rattle.scope_rule.specs.Relocation.{choice_at}
use Rattle.scope_rule.specs.Seen.{Seen, seen_in, with_added}
use Rattle.scope_rule.specs.declared.namespace.Namespace.{Namespace}
use Rattle.scope_rule.specs.declared.namespace.OpenRec.{OpenRec}
use Rattle.history_state.specs.State.{State, empty_namespace}
use Rattle.history_state.specs.Grants.{chosen_target, target_of}
use Rattle.history_state.specs.Bound.{binds_now, chosen_of, reloc_choices, slot_choice, slot_choices}
use Rattle.history_state.specs.Step.{with_namespace}
use Rattle.history_state.specs.Lemmas.Lists.{from_flat, from_map, none_in}
use Rattle.history_state.specs.Lemmas.Scopes.{breadth_in, extend_in}
use Rattle.history_state.specs.Lemmas.Good.{Along, ChoseBy, Core, Free, Good, Has, HeldBy, Leads, Safe, Sound, Stays, safe_choice, safe_stays, sound_of, stays_closed}
use Rattle.history_state.specs.Lemmas.Opened.{Before, members}

-- the namespace with new objects, before what the opening makes of its global list and its openings
abbrev pub joined : Namespace → List Loaded → Namespace
joined b added = record b { objects = b.objects ++ added }

-- what is known of new objects: their serials are new, each another, and what they found, and the root, stays
pub record Arrived (c : Core) (b : Namespace) (added : List Loaded) (root : ℕ) : Type 0 where
  pub fresh : (a : Loaded) → Contains added a → (c.next ≤ a.serial) × (a.serial < c.next + length added)
  pub one : (a e : Loaded) → Contains added a → Contains added e → a.serial ≡ e.serial → a ≡ e
  pub found : (a : Loaded) (d : ℕ) → Contains added a → Contains a.found d → Stays c.closings (joined b added) d
  pub root_is : Stays c.closings (joined b added) root
  pub alive : (a : Loaded) → Contains added a → is_dying a ≡ false

-- what a new object chose at load is safe
pub record Chooses (c : Core) (b : Namespace) (added : List Loaded) (k : Chosen) : Type 0 where
  pub by : Loaded
  pub new : Contains added by
  pub owner : k.owner ≡ by.serial
  pub safe : (d : ℕ) → Contains (flat_map chosen_target k.choices) d → Safe c.closings (joined b added) by.serial d

module _ (c : Core) (good : Good c) (id root : ℕ) (g : Bool) (added : List Loaded) (b : Namespace) (before : Before c.namespaces id b) (arrived : Arrived c b added root) where
  had_more : (d : ℕ) → Has b d → Has (joined b added) d
  had_more d h = (h.0, Contains-append_left b.objects added h.0 h.1, h.2)

  safe_more : (from d : ℕ) → Safe c.closings b from d → Safe c.closings (joined b added) from d
  safe_more from d safe = ⊎_elim (λ (e : d ≡ 0). inl e) (λ (h : Has b d × Along c.closings from d). inr (had_more d h.0, h.1)) safe

  stays_more : (d : ℕ) → Stays c.closings b d → Stays c.closings (joined b added) d
  stays_more d stays = ⊎_elim (λ (e : d ≡ 0). inl e) (λ (h : Has b d × Free c.closings d). inr (had_more d h.0, h.1)) stays

  sound_before : Sound c.closings b
  sound_before = ⊎_elim
      (λ (there : Contains c.namespaces b). sound_of c good b there)
      (λ (e : b ≡ empty_namespace id). subst (Sound c.closings) (sym e) (record {
        found = λ o d h f. absurd (none_in o h);
        global = λ d h. absurd (none_in d h);
        opens = λ r h. absurd (none_in r h);
        some = λ o h. absurd (none_in o h);
      }))
      before.was

  -- an object of the namespace was there, or is new
  pub old_in : (o : Loaded) → Contains b.objects o → Contains c.namespaces b
  old_in o h = ⊎_elim
      (λ (there : Contains c.namespaces b). there)
      (λ (e : b ≡ empty_namespace id). absurd (none_in o (subst (λ (n : Namespace). Contains n.objects o) e h)))
      before.was

  pub old_low : (o : Loaded) → Contains b.objects o → o.serial < c.next
  old_low o h = good.low b o (old_in o h, h)

  sound_joined : Sound c.closings (joined b added)
  sound_joined = record {
    found = λ o d h f. ⊎_elim
        (λ (i : Contains b.objects o). safe_more o.serial d (sound_before.found o d i f))
        (λ (i : Contains added o). safe_stays c.closings (joined b added) o.serial d (arrived.found o d i f))
        (Contains-append_cases b.objects added o h);
    global = λ d h. stays_more d (sound_before.global d h);
    opens = λ r h. stays_more r.root (sound_before.opens r h);
    some = λ o h. ⊎_elim
        (λ (i : Contains b.objects o). sound_before.some o i)
        (λ (i : Contains added o). let from : c.next ≤ o.serial = (arrived.fresh o i).0 in let p : 1 ≤ c.next = good.positive in omega (arith, from, p))
        (Contains-append_cases b.objects added o h);
  }

  abbrev after : Namespace
  after = opened b added root g

  global_stays : (t : Bool) (d : ℕ) → Contains (if t then extend b.global (breadth (with_added (seen_in b) added) root) else b.global) d → Stays c.closings (joined b added) d
  global_stays true d h = ⊎_elim
      (λ (i : Contains b.global d). sound_joined.global d i)
      (λ (i : Contains (breadth (with_added (seen_in b) added) root) d).
      breadth_in (with_added (seen_in b) added) (Stays c.closings (joined b added)) root
      (stays_closed c.closings (joined b added) sound_joined (with_added (seen_in b) added) refl) arrived.root_is d i)
      (extend_in b.global (breadth (with_added (seen_in b) added) root) d h)
  global_stays false d h = sound_joined.global d h

  raised_root : (r : OpenRec) → (raised root r).root ≡ r.root
  raised_root r = by (eqb r.root root)
    where
      by : (t : Bool) → (if t then record r { count = r.count + 1 } else r).root ≡ r.root
      by true = refl
      by false = refl

  opens_stay : (t : Bool) (r : OpenRec) → Contains (if t then map (raised root) b.opens else b.opens ++ record { root = root; count = 1 } ∷ []) r → Stays c.closings (joined b added) r.root
  opens_stay true r h =
      let at = from_map (raised root) b.opens r h in
      let same : at.0.root ≡ r.root = sym (raised_root at.0) ∙ ap (λ (q : OpenRec). q.root) at.2 in
      subst (Stays c.closings (joined b added)) same (sound_joined.opens at.0 at.1)
  opens_stay false r h = ⊎_elim
      (λ (i : Contains b.opens r). sound_joined.opens r i)
      (λ (e : record { root = root; count = 1 } ≡ r). subst (λ (q : OpenRec). Stays c.closings (joined b added) q.root) e arrived.root_is)
      (Contains-push_cases b.opens (record { root = root; count = 1 }) r h)

  pub sound_after : Sound c.closings after
  sound_after = record {
    found = sound_joined.found;
    global = λ d h. global_stays g d h;
    opens = λ r h. opens_stay (list_any (λ q. eqb q.root root) b.opens) r h;
    some = sound_joined.some;
  }

  -- what the new objects chose is safe
  in_choices : (ns : Seen) (now : Bool) (o : Loaded) (d : ℕ) → Contains (flat_map chosen_target (reloc_choices ns o ++ slot_choices ns now o)) d → (r : Reloc) × Contains (target_of (choice_at ns o r)) d
  in_choices ns now o d h =
      let at = from_flat chosen_target (reloc_choices ns o ++ slot_choices ns now o) d h in
      ⊎_elim
      (λ (i : Contains (reloc_choices ns o) at.0).
      let r = from_map (λ r. Some (choice_at ns o r)) o.object.relocs at.0 i in
      (r.0, subst (λ (q : Option Choice). Contains (chosen_target q) d) (sym r.2) at.2))
      (λ (i : Contains (slot_choices ns now o) at.0).
      let r = from_map (slot_choice ns now o) o.object.plt_relocs at.0 i in
      (r.0, by_now r.0 (binds_now now o.object) (subst (λ (q : Option Choice). Contains (chosen_target q) d) (sym r.2) at.2)))
      (Contains-append_cases (reloc_choices ns o) (slot_choices ns now o) at.0 at.1)
    where
      by_now : (r : Reloc) (t : Bool) → Contains (chosen_target (if t then Some (choice_at ns o r) else None)) d → Contains (target_of (choice_at ns o r)) d
      by_now r true i = i
      by_now r false i = absurd (none_in d i)

  pub chooses : (s : State) (now : Bool) (k : Chosen) → Contains (map (chosen_of s (seen_in after) now) added) k → Chooses c b added k
  chooses s now k h =
      let at = from_map (chosen_of s (seen_in after) now) added k h in
      record {
        by = at.0;
        new = at.1;
        owner = sym (ap (λ (q : Chosen). q.owner) at.2);
        safe = λ d i.
            let r = in_choices (seen_in after) now at.0 d (subst (λ (q : Chosen). Contains (flat_map chosen_target q.choices) d) (sym at.2) i) in
            safe_choice c.closings after sound_after at.0 (Contains-append_right b.objects added at.0 at.1) r.0 d r.1;
      }

  module _ (new : List Chosen) (choose : (k : Chosen) → Contains new k → Chooses c b added k) (loadings : List Loading) where
    abbrev pub opened_core : Core
    opened_core = record {
      namespaces = with_namespace id (λ ns. opened ns added root g) c.namespaces;
      closings = c.closings;
      grants = c.grants;
      chosen = c.chosen ++ new;
      loadings = loadings;
      next = c.next + length added;
    }

    low_then : (n : ℕ) → n < c.next → n < c.next + length added
    low_then n h = omega (arith, h)

    new_low : (k : Chosen) → Contains new k → (c.next ≤ k.owner) × (k.owner < c.next + length added)
    new_low k h =
        let by = choose k h in
        let f = arrived.fresh by.by by.new in
        (subst (λ (n : ℕ). c.next ≤ n) (sym by.owner) f.0, subst (λ (n : ℕ). n < c.next + length added) (sym by.owner) f.1)

    -- what an old object leads to it led to before
    old_leads : (o : Loaded) (d : ℕ) → o.serial < c.next → Leads c.grants (c.chosen ++ new) o d → Leads c.grants c.chosen o d
    old_leads o d low leads = ⊎_elim
        (λ (h : Contains o.found d). inl h)
        (λ (h : ChoseBy (c.chosen ++ new) o.serial d ⊎ HeldBy c.grants o.serial d). ⊎_elim
        (λ (i : ChoseBy (c.chosen ++ new) o.serial d). ⊎_elim
        (λ (j : Contains c.chosen i.0). inr (inl (i.0, j, i.2, i.3)))
        (λ (j : Contains new i.0). absurd (let from : c.next ≤ i.0.owner = (new_low i.0 j).0 in let is : i.0.owner ≡ o.serial = i.2 in omega (arith, from, is, low)))
        (Contains-append_cases c.chosen new i.0 i.1))
        (λ (i : HeldBy c.grants o.serial d). inr (inr i))
        h)
        leads

    -- what a new object leads to is safe
    new_leads : (o : Loaded) (d : ℕ) → Contains added o → Leads c.grants (c.chosen ++ new) o d → Safe c.closings after o.serial d
    new_leads o d inside leads =
        let from : c.next ≤ o.serial = (arrived.fresh o inside).0 in
        ⊎_elim
        (λ (h : Contains o.found d). sound_after.found o d (Contains-append_right b.objects added o inside) h)
        (λ (h : ChoseBy (c.chosen ++ new) o.serial d ⊎ HeldBy c.grants o.serial d). ⊎_elim
        (λ (i : ChoseBy (c.chosen ++ new) o.serial d). ⊎_elim
        (λ (j : Contains c.chosen i.0). absurd (let low : i.0.owner < c.next = good.chosen_low i.0 j in let is : i.0.owner ≡ o.serial = i.2 in omega (arith, from, is, low)))
        (λ (j : Contains new i.0). let by = choose i.0 j in
        subst (λ (n : ℕ). Safe c.closings after n d) (sym by.owner ∙ i.2) (by.safe d i.3))
        (Contains-append_cases c.chosen new i.0 i.1))
        (λ (i : HeldBy c.grants o.serial d). absurd (let low : i.0.owner < c.next = good.grants_low i.0 i.1 in let is : i.0.owner ≡ o.serial = i.2 in omega (arith, from, is, low)))
        h)
        leads

    -- an object of a namespace after: an old one of another or of this, or a new one
    cases : (P : Namespace → Type 0) (ns : Namespace) → Contains opened_core.namespaces ns → P after → ((ms : Namespace) → Contains c.namespaces ms → (ms.id ≡ id → ⊥) → P ms) → P ns
    cases P ns h changed other = ⊎_elim
        (λ (e : ns ≡ after). subst P (sym e) changed)
        (λ (o : Contains c.namespaces ns × (ns.id ≡ id → ⊥)). other ns o.0 o.1)
        (members c.namespaces id b before (λ n. opened n added root g) ns h)

    -- two objects of one serial: an old one of another namespace is none of this
    apart : (o p : Loaded) (ms : Namespace) → Contains after.objects o → Contains c.namespaces ms → (ms.id ≡ id → ⊥) → Contains ms.objects p → o.serial ≡ p.serial → ⊥
    apart o p ms h there other i same = ⊎_elim
        (λ (j : Contains b.objects o). other (ap (λ (n : Namespace). n.id) (good.one_home ms b p o (there, i) (old_in o j, j) (sym same)) ∙ before.numbered))
        (λ (j : Contains added o). let from : c.next ≤ o.serial = (arrived.fresh o j).0 in let low : p.serial < c.next = good.low ms p (there, i) in omega (arith, from, low, same))
        (Contains-append_cases b.objects added o h)

    pub good_opened : Good opened_core
    good_opened = record {
      leads = λ ns o d inside leads. cases (λ n. Contains n.objects o → Safe c.closings n o.serial d) ns inside.0
          (λ h. ⊎_elim
          (λ (i : Contains b.objects o). safe_more o.serial d (good.leads b o d (old_in o i, i) (old_leads o d (old_low o i) leads)))
          (λ (i : Contains added o). new_leads o d i leads)
          (Contains-append_cases b.objects added o h))
          (λ ms there other h. good.leads ms o d (there, h) (old_leads o d (good.low ms o (there, h)) leads))
          inside.1;
      global = λ ns d h. cases (λ n. Contains n.global d → Stays c.closings n d) ns h (sound_after.global d) (λ ms there other. good.global ms d there);
      opens = λ ns r h. cases (λ n. Contains n.opens r → Stays c.closings n r.root) ns h (sound_after.opens r) (λ ms there other. good.opens ms r there);
      dies = λ ns o k inside closing set. cases (λ n. Contains n.objects o → is_dying o ≡ true) ns inside.0
          (λ h. ⊎_elim
          (λ (i : Contains b.objects o). good.dies b o k (old_in o i, i) closing set)
          (λ (i : Contains added o). absurd (let from : c.next ≤ o.serial = (arrived.fresh o i).0 in let low : o.serial < c.next = good.set_low k o.serial closing set in omega (arith, from, low)))
          (Contains-append_cases b.objects added o h))
          (λ ms there other h. good.dies ms o k (there, h) closing set)
          inside.1;
      some = λ ns o inside. cases (λ n. Contains n.objects o → 1 ≤ o.serial) ns inside.0 (sound_after.some o) (λ ms there other h. good.some ms o (there, h)) inside.1;
      low = λ ns o inside. cases (λ n. Contains n.objects o → o.serial < c.next + length added) ns inside.0
          (λ h. ⊎_elim
          (λ (i : Contains b.objects o). low_then o.serial (old_low o i))
          (λ (i : Contains added o). (arrived.fresh o i).1)
          (Contains-append_cases b.objects added o h))
          (λ ms there other h. low_then o.serial (good.low ms o (there, h)))
          inside.1;
      set_low = λ k d closing set. low_then d (good.set_low k d closing set);
      chosen_low = λ k h. ⊎_elim
          (λ (i : Contains c.chosen k). low_then k.owner (good.chosen_low k i))
          (λ (i : Contains new k). (new_low k i).1)
          (Contains-append_cases c.chosen new k h);
      grants_low = λ q h. low_then q.owner (good.grants_low q h);
      one_home = λ ns ms o p first second same. cases (λ n. Contains n.objects o → n ≡ ms) ns first.0
          (λ h. cases (λ n. Contains n.objects p → after ≡ n) ms second.0
          (λ i. refl)
          (λ ls there other i. absurd (apart o p ls h there other i same))
          second.1)
          (λ ls there other h. cases (λ n. Contains n.objects p → ls ≡ n) ms second.0
          (λ i. absurd (apart p o ls i there other h (sym same)))
          (λ ks there' other' i. good.one_home ls ks o p (there, h) (there', i) same)
          second.1)
          first.1;
      one_id = λ ns ms first second same. cases (λ n. n.id ≡ ms.id → n ≡ ms) ns first
          (λ e. cases (λ n. b.id ≡ n.id → after ≡ n) ms second (λ i. refl) (λ ls there other i. absurd (other (sym i ∙ before.numbered))) e)
          (λ ls there other e. cases (λ n. ls.id ≡ n.id → ls ≡ n) ms second (λ i. absurd (other (i ∙ before.numbered))) (λ ks there' other' i. good.one_id ls ks there there' i) e)
          same;
      positive = let p : 1 ≤ c.next = good.positive in omega (arith, p);
    }
