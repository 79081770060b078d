-- Offers of open grants: where their slots stand, and what keeps them.
use Rattle.std.proofs.Common.{◌≡◌, ◌≢◌, ◌⊎◌, inl, inr, ⊎_elim, ℕ, ◌^◌, ◌<◌, Bool, true, false, not, ◌==◌, List, [], ◌∷◌, ◌++◌, find, Option, Some, None, refl, sym, ap, subst, ◌∙◌}
use Rattle.std.specs.List.{Contains, slice_get}
use Rattle.std.proofs.lemmas.Bool.{eq-eqb, eqb-true, true≢false}
use Rattle.std.proofs.lemmas.List.Elements.{Contains-append_cases, Contains-append_left}
use Rattle.ld_base.specs.declared.linking.Role.TheVariants.{None as NoRole, Slot}
use Rattle.ld_base.specs.declared.object.Reloc.{Reloc}
use Rattle.history_event.specs.declared.event.CloseAnswer.TheVariants as closes
use Rattle.history_event.specs.declared.event.Event.{Event}
use Rattle.history_event.specs.declared.event.Event.TheVariants as events
use Rattle.history_event.specs.declared.event.OpenAnswer.TheVariants as opens
use Rattle.history_event.specs.declared.event.SymAnswer.TheVariants as syms
use Rattle.history_event.specs.declared.state.Granting.{Granting}
use Rattle.history_event.specs.declared.state.Standing.TheVariants as standings
use Rattle.relocator.specs.Relocated.{moved_word}
use Rattle.rv_hart.specs.declared.doubleword.Doubleword.{Doubleword}
use Rattle.history_state.specs.After.{after}
use Rattle.history_state.specs.Allowed.{Allowed}
use Rattle.history_state.specs.Changes.{ChangesMemory, StandsApart, reserved, taken}
use Rattle.history_state.specs.Laws.{ImagesAreMapped, NoneIsLazy, SlotsBegin, slot_address}
use Rattle.history_state.specs.Legal.{Lawful}
use Rattle.history_state.specs.Memory.{covers, image_of, role_at}
use Rattle.history_state.specs.Objects.{has}
use Rattle.history_state.specs.Setting.{Machine, Setting}
use Rattle.history_state.specs.Slots.{HasNoGrant}
use Rattle.history_state.specs.State.{Linked, State}
use Rattle.history_state.specs.Step.{die, initialise, loaded, lower, step, unmap}
use Rattle.history_state.specs.Lemmas.History.{after_push, lawful_push}
use Rattle.history_state.specs.Lemmas.Lists.{found_in, has_in, in_filter, not_found, only_in}
use Rattle.history_state.specs.Lemmas.Map.{Mapped}
use Rattle.history_state.specs.Lemmas.Tidy.{Tidy}
use Rattle.history_memory.specs.Holds.{IsSlotAt, lazy_at}
use Rattle.history_memory.specs.Memory.{IsDoubleword}
use Rattle.history_memory.specs.Lemmas.Exchanged.{fits}
use Rattle.history_memory.specs.Lemmas.Slots.{image_in, lazy_is}
use Rattle.history_calls.specs.Laws.{hart_of}
use Rattle.hart_moves.specs.Harts.{Offered}
use Rattle.hart_moves.specs.Moves.{IsOffer}
use Rattle.world_turns.specs.Memory.{Remakes}
use Rattle.world_turns.specs.Sound.{HasExchanged, HasOffer}

-- ---- what is known of a state

pub record Known (s : State) : Type 0 where
  pub mapped : Mapped s
  pub begins : SlotsBegin s
  pub images : ImagesAreMapped s
  pub lazy : NoneIsLazy s
  pub tidy : Tidy s.grants
  pub stand : (i : Linked) (slot : ℕ) (r : Reloc) → Contains s.images i → slice_get i.object.plt_relocs slot ≡ Some r → IsSlotAt s (slot_address i r) i.serial slot
  pub whole : (i : Linked) (slot : ℕ) (r : Reloc) → Contains s.images i → slice_get i.object.plt_relocs slot ≡ Some r → IsDoubleword (slot_address i r)

abbrev pub Know : Machine → Type 0
Know m = (journal : List Event) → Lawful m journal → Known (after journal)

abbrev pub Changes : Machine → Type 0
Changes m = (w : Setting) (past : List Event) (e : Event) → w.machine ≡ m → Lawful m past → Allowed w past e → ChangesMemory (after past) e

-- ---- the slot of an offer

pub record Stands (s : State) (g : Granting) (o : Offered) : Type 0 where
  pub place : IsDoubleword o.slot
  pub at : IsSlotAt s o.slot g.owner g.slot
  pub lazy : lazy_at s o.slot ≡ o.lazy
  pub role : role_at s o.slot ≡ Slot

pub stands : (s : State) → Known s → (g : Granting) (o : Offered) → IsOffer s g o → Stands s g o
stands s known g o x = record {
  place = subst IsDoubleword (sym slot) (known.whole x.image g.slot x.reloc there x.at);
  at = at;
  lazy = lazy_is s known.mapped known.begins o.slot word g.owner g.slot at
      ∙ ap (λ (i : Linked). moved_word i.object i.base at.reloc.place) same
      ∙ ap (λ (r : Reloc). moved_word x.image.object x.image.base r.place) relocs ∙ sym (ap (λ (p : Offered). p.lazy) x.is);
  role = ap (role_at s) slot ∙ known.begins.role x.image g.slot x.reloc there x.at;
}
  where
    there : Contains s.images x.image
    there = (found_in (λ q. q.serial == g.owner) s.images x.image x.found).0

    serial : x.image.serial ≡ g.owner
    serial = eqb-true x.image.serial g.owner (found_in (λ q. q.serial == g.owner) s.images x.image x.found).1

    slot : o.slot ≡ slot_address x.image x.reloc
    slot = ap (λ (p : Offered). p.slot) x.is

    at : IsSlotAt s o.slot g.owner g.slot
    at = subst (λ (a : ℕ). IsSlotAt s a g.owner g.slot) (sym slot) (subst (λ (n : ℕ). IsSlotAt s (slot_address x.image x.reloc) n g.slot) serial (known.stand x.image g.slot x.reloc there x.at))

    word : o.slot < 2 ^ 64
    word = fits o.slot (subst IsDoubleword (sym slot) (known.whole x.image g.slot x.reloc there x.at))

    same : at.image ≡ x.image
    same = known.mapped.one at.image x.image (image_in s known.mapped known.begins o.slot word g.owner g.slot at) there (at.serial ∙ sym serial)

    relocs : at.reloc ≡ x.reloc
    relocs = one_reloc (slice_get x.image.object.plt_relocs g.slot) at.reloc x.reloc (subst (λ (i : Linked). slice_get i.object.plt_relocs g.slot ≡ Some at.reloc) same at.at) x.at
      where
        one_reloc : (found : Option Reloc) (p q : Reloc) → found ≡ Some p → found ≡ Some q → p ≡ q
        one_reloc found p q a b = let e : Some p ≡ Some q = sym a ∙ b in cc

-- ---- an event that settles nothing

-- the hart that an event grants a slot to
abbrev pub granted_to : Event → Option ℕ
granted_to (events.Open hart ask answer) = None
granted_to (events.Close hart handle answer) = None
granted_to (events.Unmapped hart set) = None
granted_to (events.Grant number hart owner slot choice value) = Some hart
granted_to (events.Bound number) = None
granted_to (events.Lost number saw) = None
granted_to (events.Unresolved hart owner slot choice) = None
granted_to (events.Sym hart ask answer) = None
granted_to (events.Tls hart owner address) = None
granted_to (events.Init hart object) = None
granted_to (events.Fini hart object) = None
granted_to (events.Wrote hart bytes) = None
granted_to (events.Told hart fault) = None
granted_to (events.Ended hart reason) = None

-- grants stay, and a new one is its event's hart's
pub record Grants (s : State) (e : Event) : Type 0 where
  pub kept : (g : Granting) → Contains s.grants g → Contains (step s e).grants g
  pub new : (g : Granting) → Contains (step s e).grants g → Contains s.grants g ⊎ (granted_to e ≡ Some g.hart)

same_grants : (s : State) (e : Event) → (step s e).grants ≡ s.grants → Grants s e
same_grants s e same = record {
  kept = λ g there. subst (λ (gs : List Granting). Contains gs g) (sym same) there;
  new = λ g there. inl (subst (λ (gs : List Granting). Contains gs g) same there);
}

unsettled : (h : ℕ) → None ≡ Some h → ⊥
unsettled h e = let d : None ≡ Some h = e in cc

pub grants : (s : State) (e : Event) (h : ℕ) → hart_of e ≡ Some h → Grants s e
unfolding loaded die lower unmap initialise
grants s (events.Open hart ask (opens.Done id root added ranges)) h of = same_grants s (events.Open hart ask (opens.Done id root added ranges)) refl
grants s (events.Open hart ask opens.Absent) h of = same_grants s (events.Open hart ask opens.Absent) refl
grants s (events.Open hart ask (opens.Refused fault)) h of = same_grants s (events.Open hart ask (opens.Refused fault)) refl
grants s (events.Close hart handle (closes.Done set)) h of = same_grants s (events.Close hart handle (closes.Done set)) refl
grants s (events.Close hart handle (closes.Refused fault)) h of = same_grants s (events.Close hart handle (closes.Refused fault)) refl
grants s (events.Unmapped hart set) h of = same_grants s (events.Unmapped hart set) refl
grants s (events.Grant number hart owner slot choice value) h of = record {
  kept = λ g there. Contains-append_left s.grants (new ∷ []) g there;
  new = λ g there. ⊎_elim (λ (old : Contains s.grants g). inl old) (λ (one : Contains (new ∷ []) g). inr (ap (λ (q : Granting). Some q.hart) (only_in new g one))) (Contains-append_cases s.grants (new ∷ []) g there);
}
  where
    new : Granting
    new = record { number = number; hart = hart; owner = owner; slot = slot; choice = choice; value = value; standing = standings.Open }
grants s (events.Bound number) h of = absurd (unsettled h of)
grants s (events.Lost number saw) h of = absurd (unsettled h of)
grants s (events.Unresolved hart owner slot choice) h of = same_grants s (events.Unresolved hart owner slot choice) refl
grants s (events.Sym hart ask (syms.Found serial index value)) h of = same_grants s (events.Sym hart ask (syms.Found serial index value)) refl
grants s (events.Sym hart ask (syms.Refused fault)) h of = same_grants s (events.Sym hart ask (syms.Refused fault)) refl
grants s (events.Tls hart owner address) h of = same_grants s (events.Tls hart owner address) refl
grants s (events.Init hart object) h of = same_grants s (events.Init hart object) refl
grants s (events.Fini hart object) h of = same_grants s (events.Fini hart object) refl
grants s (events.Wrote hart bytes) h of = same_grants s (events.Wrote hart bytes) refl
grants s (events.Told hart fault) h of = same_grants s (events.Told hart fault) refl
grants s (events.Ended hart reason) h of = same_grants s (events.Ended hart reason) refl

-- the image of an open grant's owner stays
image_stays : (w : Setting) (past : List Event) (e : Event) → Allowed w past e → (g : Granting) → Contains (after past).grants g → g.standing ≡ standings.Open → (i : Linked) → Contains (after past).images i → i.serial ≡ g.owner
    → Contains (step (after past) e).images i
unfolding loaded die lower unmap initialise
image_stays w past (events.Open hart ask (opens.Done id root added ranges)) may g there open_yet i inside owner = Contains-append_left (after past).images _ i inside
image_stays w past (events.Open hart ask opens.Absent) may g there open_yet i inside owner = inside
image_stays w past (events.Open hart ask (opens.Refused fault)) may g there open_yet i inside owner = inside
image_stays w past (events.Close hart handle (closes.Done set)) may g there open_yet i inside owner = inside
image_stays w past (events.Close hart handle (closes.Refused fault)) may g there open_yet i inside owner = inside
image_stays w past (events.Unmapped hart set) may g there open_yet i inside owner =
    in_filter (λ (q : Linked). not (has set q.serial)) (after past).images i inside (ap not (not_has (has set i.serial) refl))
  where
    not_has : (t : Bool) → has set i.serial ≡ t → has set i.serial ≡ false
    not_has false e = e
    not_has true e = absurd ((may.free g i.serial there open_yet (has_in set i.serial e)).0 (sym owner))
image_stays w past (events.Grant number hart own slot choice value) may g there open_yet i inside owner = inside
image_stays w past (events.Bound number) may g there open_yet i inside owner = inside
image_stays w past (events.Lost number saw) may g there open_yet i inside owner = inside
image_stays w past (events.Unresolved hart own slot choice) may g there open_yet i inside owner = inside
image_stays w past (events.Sym hart ask (syms.Found serial index value)) may g there open_yet i inside owner = inside
image_stays w past (events.Sym hart ask (syms.Refused fault)) may g there open_yet i inside owner = inside
image_stays w past (events.Tls hart own address) may g there open_yet i inside owner = inside
image_stays w past (events.Init hart object) may g there open_yet i inside owner = inside
image_stays w past (events.Fini hart object) may g there open_yet i inside owner = inside
image_stays w past (events.Wrote hart bytes) may g there open_yet i inside owner = inside
image_stays w past (events.Told hart fault) may g there open_yet i inside owner = inside
image_stays w past (events.Ended hart reason) may g there open_yet i inside owner = inside

-- an image that is there is found by its serial
found_by : (images : List Linked) (i : Linked) (owner : ℕ) → ((j k : Linked) → Contains images j → Contains images k → j.serial ≡ k.serial → j ≡ k) → Contains images i → i.serial ≡ owner
    → (found : Option Linked) → find (λ q. q.serial == owner) images ≡ found → find (λ q. q.serial == owner) images ≡ Some i
found_by images i owner one there serial None is = absurd (true≢false (sym (eq-eqb i.serial owner serial) ∙ not_found (λ q. q.serial == owner) images i is there))
found_by images i owner one there serial (Some j) is =
    let at = found_in (λ q. q.serial == owner) images j is in
    is ∙ ap (λ (q : Linked). Some q) (one j i at.0 there (eqb-true j.serial owner at.1 ∙ sym serial))

offer_stays : (m : Machine) → Know m → (w : Setting) → w.machine ≡ m → (past : List Event) (e : Event) → Lawful m past → Allowed w past e → (g : Granting) (o : Offered) → Contains (after past).grants g → g.standing ≡ standings.Open
    → IsOffer (after past) g o → IsOffer (after (past ++ e ∷ [])) g o
offer_stays m know w same past e lawful may g o there open_yet x = record {
  image = x.image;
  reloc = x.reloc;
  found = found_by (after (past ++ e ∷ [])).images x.image g.owner (know (past ++ e ∷ []) (lawful_push m w past e same lawful may)).mapped.one inside serial (image_of (after (past ++ e ∷ [])) g.owner) refl;
  at = x.at;
  is = x.is;
}
  where
    serial : x.image.serial ≡ g.owner
    serial = eqb-true x.image.serial g.owner (found_in (λ q. q.serial == g.owner) (after past).images x.image x.found).1

    inside : Contains (after (past ++ e ∷ [])).images x.image
    inside = subst (λ (s : State). Contains s.images x.image) (sym (after_push past e)) (image_stays w past e may g there open_yet x.image (found_in (λ q. q.serial == g.owner) (after past).images x.image x.found).0 serial)

pub has_offer_stays : (m : Machine) → Know m → (w : Setting) → w.machine ≡ m → (past : List Event) (e : Event) (h : ℕ) → hart_of e ≡ Some h → Lawful m past → Allowed w past e → (j : ℕ) (o : Offered) → HasOffer (after past) j o
    → HasOffer (after (past ++ e ∷ [])) j o
has_offer_stays m know w same past e h of lawful may j o x = record {
  grant = x.grant;
  is = record {
    there = subst (λ (s : State). Contains s.grants x.grant) (sym (after_push past e)) ((grants (after past) e h of).kept x.grant x.is.there);
    numbered = x.is.numbered;
    open_yet = x.is.open_yet;
  };
  of = x.of;
  offer = offer_stays m know w same past e lawful may x.grant o x.is.there x.is.open_yet x.offer;
}

-- the slot of an open grant isn't touched
untouched : (m : Machine) → Know m → Changes m → (w : Setting) → w.machine ≡ m → (past : List Event) (e : Event) (h : ℕ) → hart_of e ≡ Some h → Lawful m past → Allowed w past e → (j : ℕ) (o : Offered)
    → HasOffer (after past) j o → StandsApart (after past) e o.slot
untouched m know changes w same past e h of lawful may j o x r either = by (covers o.slot r) refl
  where
    after_it : HasOffer (after (past ++ e ∷ [])) j o
    after_it = has_offer_stays m know w same past e h of lawful may j o x

    before : role_at (after past) o.slot ≡ Slot
    before = (stands (after past) (know past lawful) x.grant o x.offer).role

    behind : role_at (after (past ++ e ∷ [])) o.slot ≡ Slot
    behind = (stands (after (past ++ e ∷ [])) (know (past ++ e ∷ []) (lawful_push m w past e same lawful may)) after_it.grant o after_it.offer).role

    change : ChangesMemory (after past) e
    change = changes w past e same lawful may

    differs : Slot ≡ NoRole → ⊥
    differs q = cc

    by : (t : Bool) → covers o.slot r ≡ t → covers o.slot r ≡ false
    by false q = q
    by true q = ⊎_elim
        (λ (a : Contains (reserved (after past) e) r). absurd (differs (sym before ∙ change.reserved_before r o.slot a q)))
        (λ (b : Contains (taken (after past) e) r). absurd (differs (sym behind ∙ ap (λ (s : State). role_at s o.slot) (after_push past e) ∙ change.taken_after r o.slot b q)))
        either

pub has_exchanged_stays : (m : Machine) → Know m → Changes m → (w : Setting) → w.machine ≡ m → (past : List Event) (e : Event) (h : ℕ) → hart_of e ≡ Some h → Lawful m past → Allowed w past e → (j : ℕ) (o : Offered) (found : ℕ)
    (old new : List Doubleword) → Remakes (after past) e old new → HasExchanged (after past) old j o found → HasExchanged (after (past ++ e ∷ [])) new j o found
has_exchanged_stays m know changes w same past e h of lawful may j o found old new remakes x = record {
  offers = has_offer_stays m know w same past e h of lawful may j o x.offers;
  holds = ap (λ (d : Doubleword). d.value) (remakes.kept o.slot (stands (after past) (know past lawful) x.offers.grant o x.offers.offer).place (untouched m know changes w same past e h of lawful may j o x.offers)) ∙ x.holds;
}

pub no_grant_stays : (past : List Event) (e : Event) (h j : ℕ) → hart_of e ≡ Some h → granted_to e ≢ Some j → HasNoGrant (after past) j → HasNoGrant (after (past ++ e ∷ [])) j
no_grant_stays past e h j of spares none g there open_yet hart = ⊎_elim
    (λ (old : Contains (after past).grants g). none g old open_yet hart)
    (λ (new : granted_to e ≡ Some g.hart). spares (new ∙ ap (λ (n : ℕ). Some n) hart))
    ((grants (after past) e h of).new g (subst (λ (s : State). Contains s.grants g) (after_push past e) there))
