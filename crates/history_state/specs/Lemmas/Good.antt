-- Nothing outside a dying set leads into it.
use Rattle.std.proofs.Common.{◌≡◌, ◌⊎◌, inl, inr, ⊎_elim, ℕ, ◌<◌, ◌≤◌, Bool, true, false, List, [], ◌∷◌, ◌++◌, map, refl, sym, ap, subst, ◌∙◌, arith}
use Rattle.std.specs.List.{Contains, flat_map}
use Rattle.std.proofs.lemmas.List.{append-nil}
use Rattle.std.proofs.lemmas.List.Elements.{Contains-push, Contains-push_cases}
use Rattle.ld_base.specs.declared.linking.Loaded.{Loaded}
use Rattle.ld_base.specs.declared.object.Reloc.{Reloc}
use Rattle.history_event.specs.declared.state.Chosen.{Chosen}
use Rattle.history_event.specs.declared.state.Closing.{Closing}
use Rattle.history_event.specs.declared.state.Granting.{Granting}
use Rattle.history_event.specs.declared.state.Loading.{Loading}
use Rattle.history_event.specs.declared.state.Standing.{Standing}
use Rattle.history_event.specs.declared.state.Standing.TheVariants.{Open, Bound, Lost}
use Rattle.scope_rule.specs.Loading.{is_dying}
use Rattle.scope_rule.specs.Relocation.{choice_at}
use Rattle.scope_rule.specs.Scope.{whole_scope}
use Rattle.scope_rule.specs.Seen.{Seen, seen_in}
use Rattle.scope_rule.specs.declared.namespace.Namespace.{Namespace}
use Rattle.scope_rule.specs.declared.namespace.OpenRec.{OpenRec}
use Rattle.history_state.specs.State.{State}
use Rattle.history_state.specs.Grants.{chosen_target, target_of}
use Rattle.history_state.specs.Step.{closing_of}
use Rattle.history_state.specs.Lemmas.Lists.{from_map, none_in}
use Rattle.history_state.specs.Lemmas.Scopes.{Closed, Reach, breadth_in, choice_in, scope_in}

-- the part of a state that says which objects lead to which
pub record Core : Type 0 where
  pub namespaces : List Namespace
  pub closings : List Closing
  pub grants : List Granting
  pub chosen : List Chosen
  pub loadings : List Loading
  pub next : ℕ

abbrev pub core : State → Core
core s = record { namespaces = s.namespaces; closings = s.closings; grants = s.grants; chosen = s.chosen; loadings = s.loadings; next = s.next }

-- ---- what leads where

abbrev pub Has : Namespace → ℕ → Type 0
Has ns d = (o : Loaded) × Contains ns.objects o × (o.serial ≡ d)

-- wherever d is dying, so is from
abbrev pub Along : List Closing → ℕ → ℕ → Type 0
Along closings from d = (c : Closing) → Contains closings c → Contains c.set d → Contains c.set from

-- d isn't dying
abbrev pub Free : List Closing → ℕ → Type 0
Free closings d = (c : Closing) → Contains closings c → Contains c.set d → ⊥

abbrev pub Safe : List Closing → Namespace → ℕ → ℕ → Type 0
Safe closings ns from d = (d ≡ 0) ⊎ (Has ns d × Along closings from d)

abbrev pub Stays : List Closing → Namespace → ℕ → Type 0
Stays closings ns d = (d ≡ 0) ⊎ (Has ns d × Free closings d)

-- a grant that isn't lost
abbrev pub is_live : Standing → Bool
is_live Open = true
is_live Bound = true
is_live (Lost saw) = false

abbrev pub ChoseBy : List Chosen → ℕ → ℕ → Type 0
ChoseBy chosen owner d = (c : Chosen) × Contains chosen c × (c.owner ≡ owner) × Contains (flat_map chosen_target c.choices) d

abbrev pub HeldBy : List Granting → ℕ → ℕ → Type 0
HeldBy grants owner d = (g : Granting) × Contains grants g × (g.owner ≡ owner) × (is_live g.standing ≡ true) × Contains (target_of g.choice) d

-- an object found d, chose it when it was loaded, or has a grant of it that isn't lost
abbrev pub Leads : List Granting → List Chosen → Loaded → ℕ → Type 0
Leads grants chosen o d = Contains o.found d ⊎ (ChoseBy chosen o.serial d ⊎ HeldBy grants o.serial d)

abbrev pub Inside : List Namespace → Namespace → Loaded → Type 0
Inside all ns o = Contains all ns × Contains ns.objects o

pub record Good (c : Core) : Type 0 where
  pub leads : (ns : Namespace) (o : Loaded) (d : ℕ) → Inside c.namespaces ns o → Leads c.grants c.chosen o d → Safe c.closings ns o.serial d
  pub global : (ns : Namespace) (d : ℕ) → Contains c.namespaces ns → Contains ns.global d → Stays c.closings ns d
  pub opens : (ns : Namespace) (r : OpenRec) → Contains c.namespaces ns → Contains ns.opens r → Stays c.closings ns r.root
  pub dies : (ns : Namespace) (o : Loaded) (k : Closing) → Inside c.namespaces ns o → Contains c.closings k → Contains k.set o.serial → is_dying o ≡ true
  pub some : (ns : Namespace) (o : Loaded) → Inside c.namespaces ns o → 1 ≤ o.serial
  pub low : (ns : Namespace) (o : Loaded) → Inside c.namespaces ns o → o.serial < c.next
  pub set_low : (k : Closing) (d : ℕ) → Contains c.closings k → Contains k.set d → d < c.next
  pub chosen_low : (k : Chosen) → Contains c.chosen k → k.owner < c.next
  pub grants_low : (g : Granting) → Contains c.grants g → g.owner < c.next
  pub one_home : (ns ms : Namespace) (o q : Loaded) → Inside c.namespaces ns o → Inside c.namespaces ms q → o.serial ≡ q.serial → ns ≡ ms
  pub one_id : (ns ms : Namespace) → Contains c.namespaces ns → Contains c.namespaces ms → ns.id ≡ ms.id → ns ≡ ms
  pub positive : 1 ≤ c.next

-- ---- choices in a sound namespace are safe

-- what a namespace by itself says of its objects
pub record Sound (closings : List Closing) (ns : Namespace) : Type 0 where
  pub found : (o : Loaded) (d : ℕ) → Contains ns.objects o → Contains o.found d → Safe closings ns o.serial d
  pub global : (d : ℕ) → Contains ns.global d → Stays closings ns d
  pub opens : (r : OpenRec) → Contains ns.opens r → Stays closings ns r.root
  pub some : (o : Loaded) → Contains ns.objects o → 1 ≤ o.serial

pub sound_of : (c : Core) → Good c → (ns : Namespace) → Contains c.namespaces ns → Sound c.closings ns
sound_of c good ns there = record {
  found = λ o d h f. good.leads ns o d (there, h) (inl f);
  global = λ d h. good.global ns d there h;
  opens = λ r h. good.opens ns r there h;
  some = λ o h. good.some ns o (there, h);
}

-- what stays leads to what stays, and what is safe from an object to what is safe from it
pub stays_closed : (closings : List Closing) (ns : Namespace) → Sound closings ns → (s : Seen) → s.objects ≡ ns.objects → Closed s (Stays closings ns)
stays_closed closings ns sound s same x d stays found =
    let inside : Contains ns.objects found.0 = subst (λ (os : List Loaded). Contains os found.0) same found.1 in
    let is : found.0.serial ≡ x = found.2 in
    let safe : Safe closings ns x d = subst (λ (y : ℕ). Safe closings ns y d) is (sound.found found.0 d inside found.3) in
    ⊎_elim
    (λ (e : x ≡ 0). absurd (let some : 1 ≤ found.0.serial = sound.some found.0 inside in let zero_is : found.0.serial ≡ 0 = is ∙ e in omega (arith, some, zero_is)))
    (λ (free : Has ns x × Free closings x). ⊎_elim
    (λ (e : d ≡ 0). inl e)
    (λ (h : Has ns d × Along closings x d). inr (h.0, λ c there dying. free.1 c there (h.1 c there dying)))
    safe)
    stays

pub safe_closed : (closings : List Closing) (ns : Namespace) → Sound closings ns → (from : ℕ) (s : Seen) → s.objects ≡ ns.objects → Closed s (Safe closings ns from)
safe_closed closings ns sound from s same x d safe found =
    let inside : Contains ns.objects found.0 = subst (λ (os : List Loaded). Contains os found.0) same found.1 in
    let is : found.0.serial ≡ x = found.2 in
    let next : Safe closings ns x d = subst (λ (y : ℕ). Safe closings ns y d) is (sound.found found.0 d inside found.3) in
    ⊎_elim
    (λ (e : x ≡ 0). absurd (let some : 1 ≤ found.0.serial = sound.some found.0 inside in let zero_is : found.0.serial ≡ 0 = is ∙ e in omega (arith, some, zero_is)))
    (λ (h : Has ns x × Along closings from x). ⊎_elim
    (λ (e : d ≡ 0). inl e)
    (λ (g : Has ns d × Along closings x d). inr (g.0, λ c there dying. h.1 c there (g.1 c there dying)))
    next)
    safe

pub safe_stays : (closings : List Closing) (ns : Namespace) (from d : ℕ) → Stays closings ns d → Safe closings ns from d
safe_stays closings ns from d stays = ⊎_elim
    (λ (e : d ≡ 0). inl e)
    (λ (h : Has ns d × Free closings d). inr (h.0, λ c there dying. absurd (h.1 c there dying)))
    stays

pub safe_itself : (closings : List Closing) (ns : Namespace) (o : Loaded) → Contains ns.objects o → Safe closings ns o.serial o.serial
safe_itself closings ns o inside = inr ((o, inside, refl), λ c there dying. dying)

pub safe_reach : (closings : List Closing) (ns : Namespace) → Sound closings ns → (o : Loaded) → Contains ns.objects o → Reach (seen_in ns) o (Safe closings ns o.serial)
safe_reach closings ns sound o inside = record {
  itself = safe_itself closings ns o inside;
  global = λ d h. safe_stays closings ns o.serial d (sound.global d h);
  openings = λ root d h r. safe_stays closings ns o.serial d
      (breadth_in (seen_in ns) (Stays closings ns) root (stays_closed closings ns sound (seen_in ns) refl)
      (subst (Stays closings ns) r.2 (sound.opens r.0 r.1)) d h);
  own = λ d h. breadth_in (seen_in ns) (Safe closings ns o.serial) o.serial (safe_closed closings ns sound o.serial (seen_in ns) refl) (safe_itself closings ns o inside) d h;
  linker = inl refl;
}

pub safe_choice : (closings : List Closing) (ns : Namespace) → Sound closings ns → (o : Loaded) → Contains ns.objects o → (r : Reloc) (d : ℕ)
    → Contains (target_of (choice_at (seen_in ns) o r)) d → Safe closings ns o.serial d
safe_choice closings ns sound o inside r d h = ⊎_elim
    (λ (e : o.serial ≡ d). subst (Safe closings ns o.serial) e (safe_itself closings ns o inside))
    (λ (i : Contains (whole_scope (seen_in ns) o) d). scope_in (seen_in ns) o (Safe closings ns o.serial) (safe_reach closings ns sound o inside) d i)
    (choice_in (seen_in ns) o r d h)

-- ---- namespaces that change in place

-- a change that keeps which objects there are and what they found, makes none dying less, and makes nothing global or opened
pub record Keeps (change : Namespace → Namespace) : Type 0 where
  pub id : (ns : Namespace) → (change ns).id ≡ ns.id
  pub back : (ns : Namespace) (o : Loaded) → Contains (change ns).objects o
      → (q : Loaded) × Contains ns.objects q × (q.serial ≡ o.serial) × (q.found ≡ o.found) × (is_dying q ≡ true → is_dying o ≡ true)
  pub forth : (ns : Namespace) (q : Loaded) → Contains ns.objects q → Has (change ns) q.serial
  pub global : (ns : Namespace) (d : ℕ) → Contains (change ns).global d → Contains ns.global d
  pub opens : (ns : Namespace) (r : OpenRec) → Contains (change ns).opens r → (q : OpenRec) × Contains ns.opens q × (q.root ≡ r.root)

pub each_mapped : (change : Namespace → Namespace) (all : List Namespace) (P : Namespace → Type 0)
    → ((ns : Namespace) → Contains all ns → P (change ns)) → (ms : Namespace) → Contains (map change all) ms → P ms
each_mapped change all P f ms h = let at = from_map change all ms h in subst P at.2 (f at.0 at.1)

module _ (change : Namespace → Namespace) (keeps : Keeps change) where
  pub has_kept : (ns : Namespace) (d : ℕ) → Has ns d → Has (change ns) d
  has_kept ns d h = subst (Has (change ns)) h.2 (keeps.forth ns h.0 h.1)

  pub safe_kept : (closings : List Closing) (ns : Namespace) (from d : ℕ) → Safe closings ns from d → Safe closings (change ns) from d
  safe_kept closings ns from d safe = ⊎_elim (λ (e : d ≡ 0). inl e) (λ (h : Has ns d × Along closings from d). inr (has_kept ns d h.0, h.1)) safe

  pub stays_kept : (closings : List Closing) (ns : Namespace) (d : ℕ) → Stays closings ns d → Stays closings (change ns) d
  stays_kept closings ns d stays = ⊎_elim (λ (e : d ≡ 0). inl e) (λ (h : Has ns d × Free closings d). inr (has_kept ns d h.0, h.1)) stays

-- what leads to d, with the same serial and founds, leads to it still
pub leads_same : (grants : List Granting) (chosen : List Chosen) (q o : Loaded) (d : ℕ) → q.serial ≡ o.serial → q.found ≡ o.found → Leads grants chosen o d → Leads grants chosen q d
leads_same grants chosen q o d serial found leads = ⊎_elim
    (λ (h : Contains o.found d). inl (subst (λ (xs : List ℕ). Contains xs d) (sym found) h))
    (λ (h : ChoseBy chosen o.serial d ⊎ HeldBy grants o.serial d). inr (subst (λ (n : ℕ). ChoseBy chosen n d ⊎ HeldBy grants n d) (sym serial) h))
    leads

pub good_map : (change : Namespace → Namespace) → Keeps change → (c : Core) → Good c → Good (record c { namespaces = map change c.namespaces })
good_map change keeps c good = record {
  leads = λ ms o d inside leads. each_mapped change c.namespaces (λ n. Contains n.objects o → Safe c.closings n o.serial d)
      (λ ns there h. let q = keeps.back ns o h in
      let was : Safe c.closings ns q.0.serial d = good.leads ns q.0 d (there, q.1) (leads_same c.grants c.chosen q.0 o d q.2 q.3 leads) in
      safe_kept change keeps c.closings ns o.serial d (subst (λ (n : ℕ). Safe c.closings ns n d) q.2 was))
      ms inside.0 inside.1;
  global = λ ms d there h. each_mapped change c.namespaces (λ n. Contains n.global d → Stays c.closings n d)
      (λ ns at i. stays_kept change keeps c.closings ns d (good.global ns d at (keeps.global ns d i))) ms there h;
  opens = λ ms r there h. each_mapped change c.namespaces (λ n. Contains n.opens r → Stays c.closings n r.root)
      (λ ns at i. let q = keeps.opens ns r i in stays_kept change keeps c.closings ns r.root (subst (Stays c.closings ns) q.2 (good.opens ns q.0 at q.1))) ms there h;
  dies = λ ms o k inside closing set. each_mapped change c.namespaces (λ n. Contains n.objects o → is_dying o ≡ true)
      (λ ns there h. let q = keeps.back ns o h in q.4 (good.dies ns q.0 k (there, q.1) closing (subst (Contains k.set) (sym q.2) set))) ms inside.0 inside.1;
  some = λ ms o inside. each_mapped change c.namespaces (λ n. Contains n.objects o → 1 ≤ o.serial)
      (λ ns there h. let q = keeps.back ns o h in subst (λ (n : ℕ). 1 ≤ n) q.2 (good.some ns q.0 (there, q.1))) ms inside.0 inside.1;
  low = λ ms o inside. each_mapped change c.namespaces (λ n. Contains n.objects o → o.serial < c.next)
      (λ ns there h. let q = keeps.back ns o h in subst (λ (n : ℕ). n < c.next) q.2 (good.low ns q.0 (there, q.1))) ms inside.0 inside.1;
  set_low = good.set_low;
  chosen_low = good.chosen_low;
  grants_low = good.grants_low;
  one_home = λ ms ls o p first second same. each_mapped change c.namespaces (λ n. Contains n.objects o → n ≡ ls)
      (λ ns there h. each_mapped change c.namespaces (λ n. Contains n.objects p → change ns ≡ n)
      (λ ns' there' h'. let q = keeps.back ns o h in let q' = keeps.back ns' p h' in
      ap change (good.one_home ns ns' q.0 q'.0 (there, q.1) (there', q'.1) (q.2 ∙ same ∙ sym q'.2)))
      ls second.0 second.1)
      ms first.0 first.1;
  one_id = λ ms ls first second same. each_mapped change c.namespaces (λ n. n.id ≡ ls.id → n ≡ ls)
      (λ ns there. each_mapped change c.namespaces (λ n. (change ns).id ≡ n.id → change ns ≡ n)
      (λ ns' there' e. ap change (good.one_id ns ns' there there' (sym (keeps.id ns) ∙ e ∙ keeps.id ns')))
      ls second)
      ms first same;
  positive = good.positive;
}

-- ---- one closing more

-- nothing but the set leads into it, and its objects are dying
pub record Sealed (c : Core) (set : List ℕ) : Type 0 where
  pub leads : (ns : Namespace) (o : Loaded) (d : ℕ) → Inside c.namespaces ns o → Leads c.grants c.chosen o d → Contains set d → Contains set o.serial
  pub global : (ns : Namespace) (d : ℕ) → Contains c.namespaces ns → Contains ns.global d → Contains set d → ⊥
  pub opens : (ns : Namespace) (r : OpenRec) → Contains c.namespaces ns → Contains ns.opens r → Contains set r.root → ⊥
  pub dies : (ns : Namespace) (o : Loaded) → Inside c.namespaces ns o → Contains set o.serial → is_dying o ≡ true
  pub low : (d : ℕ) → Contains set d → d < c.next

abbrev pub closing_by : ℕ → List ℕ → Closing
closing_by hart set = record { hart = hart; set = set }

-- a closing is an old one or the new one
pub closing_cases : (closings : List Closing) (hart : ℕ) (set : List ℕ) (k : Closing) → Contains (closings ++ closing_of hart set) k → Contains closings k ⊎ (closing_by hart set ≡ k)
closing_cases closings hart [] k there = inl (subst (λ (ks : List Closing). Contains ks k) (append-nil closings) there)
closing_cases closings hart (d ∷ rest) k there = Contains-push_cases closings (closing_by hart (d ∷ rest)) k there

-- one that takes something is there
pub closing_there : (closings : List Closing) (hart : ℕ) (set : List ℕ) (d : ℕ) → Contains set d → Contains (closings ++ closing_of hart set) (closing_by hart set)
closing_there closings hart [] d h = absurd (none_in d h)
closing_there closings hart (x ∷ rest) d h = Contains-push closings (closing_by hart (x ∷ rest))

-- what holds of each old closing and of the new one's set holds of each closing's
each_closing : (closings : List Closing) (hart : ℕ) (set : List ℕ) (P : List ℕ → Type 0) → ((k : Closing) → Contains closings k → P k.set) → P set
    → (k : Closing) → Contains (closings ++ closing_of hart set) k → P k.set
each_closing closings hart set P old new k there = ⊎_elim
    (λ (h : Contains closings k). old k h)
    (λ (e : closing_by hart set ≡ k). subst (λ (q : Closing). P q.set) e new)
    (closing_cases closings hart set k there)

pub good_closing : (c : Core) (hart : ℕ) (set : List ℕ) → Good c → Sealed c set → Good (record c { closings = c.closings ++ closing_of hart set })
good_closing c hart set good tight = record {
  leads = λ ns o d inside leads. ⊎_elim
      (λ (e : d ≡ 0). inl e)
      (λ (h : Has ns d × Along c.closings o.serial d). inr (
        h.0,
        each_closing c.closings hart set (λ xs. Contains xs d → Contains xs o.serial) h.1 (tight.leads ns o d inside leads),
      ))
      (good.leads ns o d inside leads);
  global = λ ns d there h. ⊎_elim
      (λ (e : d ≡ 0). inl e)
      (λ (i : Has ns d × Free c.closings d). inr (i.0, each_closing c.closings hart set (λ xs. Contains xs d → ⊥) i.1 (tight.global ns d there h)))
      (good.global ns d there h);
  opens = λ ns r there h. ⊎_elim
      (λ (e : r.root ≡ 0). inl e)
      (λ (i : Has ns r.root × Free c.closings r.root). inr (i.0, each_closing c.closings hart set (λ xs. Contains xs r.root → ⊥) i.1 (tight.opens ns r there h)))
      (good.opens ns r there h);
  dies = λ ns o k inside. each_closing c.closings hart set (λ xs. Contains xs o.serial → is_dying o ≡ true)
      (λ q there. good.dies ns o q inside there) (tight.dies ns o inside) k;
  some = good.some;
  low = good.low;
  set_low = λ k d. each_closing c.closings hart set (λ xs. Contains xs d → d < c.next) (λ q there. good.set_low q d there) (tight.low d) k;
  chosen_low = good.chosen_low;
  grants_low = good.grants_low;
  one_home = good.one_home;
  one_id = good.one_id;
  positive = good.positive;
}
