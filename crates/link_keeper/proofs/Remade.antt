-- Memory is remade by the events of a turn.
use Rattle.std.proofs.Common.{◌≡◌, ⊎_elim, inl, inr, ℕ, ◌≤◌, false, List, [], ◌∷◌, ◌++◌, filter, flat_map, None, Some, not, refl, sym, ap, subst, ◌∙◌, arith}
use Rattle.std.specs.List.{Contains, slice_get}
use Rattle.std.proofs.lemmas.Bool.{false≢true}
use Rattle.ld_base.specs.declared.linking.Loaded.{Loaded}
use Rattle.history_event.specs.declared.event.CloseAnswer.TheVariants as closes
use Rattle.history_event.specs.declared.event.Event.{Event}
use Rattle.history_event.specs.declared.event.Event.TheVariants as events
use Rattle.history_event.specs.declared.event.OpenAnswer.TheVariants as opens
use Rattle.history_event.specs.declared.event.Range.{Range}
use Rattle.history_event.specs.declared.event.SymAnswer.TheVariants as syms
use Rattle.seg_image.specs.declared.image.Image.{Image}
use Rattle.seg_image.specs.declared.image.Word.{Word}
use Rattle.word_rule.specs.declared.view.KeeperView.{KeeperView}
use Rattle.word_rule.specs.declared.view.Retired.{Retired}
use Rattle.word_rule.specs.declared.view.Sight.{Sight}
use Rattle.word_rule.specs.Views.{IsLong, kept_at, row_of}
use Rattle.history_calls.specs.Served.{AreImages, InstallsNothing, is_area, slots_of}
use Rattle.history_calls.specs.declared.link_served.installs.Installs.{Installs}
use Rattle.history_calls.specs.declared.link_served.installs.SlotWord.{SlotWord}
use Rattle.history_state.specs.Accepted.{AcceptsOnly}
use Rattle.history_state.specs.After.{after}
use Rattle.history_state.specs.Changes.{reserved, taken}
use Rattle.history_state.specs.Lemmas.History.{after_push, legal_is_lawful, one_behind}
use Rattle.history_state.specs.Lemmas.Lists.{none_in}
use Rattle.history_state.specs.Setting.{Setting}
use Rattle.history_state.specs.State.{State}
use Rattle.history_state.specs.Step.{die, initialise, loaded, lower, step}
use Rattle.hart_trails.specs.Lemmas.Rising.{generation_rises}
use Rattle.link_state.specs.Granting.{HasOpenGrant}
use Rattle.link_state.specs.Table.{LinkTable}
use Rattle.world_memory.specs.TurnAnswers.Changes.{AreReserved, AreTaken, Changes, loaded_objects}
use Rattle.world_memory.specs.declared.turn_answers.answered.MemoryChange.{MemoryChange}
use Rattle.world_memory.specs.declared.turn_answers.answered.MemoryChange.TheVariants as change
use Rattle.word_installs.specs.Installed.{HasWord, IsInstalled, MayInstall, OfInstalls}
use Rattle.word_installs.specs.Remaking.{AreInstallsOf, ComesNext, InstalledIsView, InstallsMayCome, RangesMayGo, UnmappedIsView}
use Rattle.word_installs.specs.Unmapped.{IsUnmapped, MayUnmap}
use Rattle.kept_words.proofs.Gone.{goes_none, goes_nowhere}
use Rattle.kept_words.specs.Keeping.{AlikeKept, IsAlike, IsRemadeView, remakes_memory}
use Rattle.kept_words.specs.Staying.{number_in}
use Rattle.link_keeper.specs.Keeping.{FirstGoesOn, KeepsView}
use Rattle.link_keeper.specs.Remaking.{ComesTo, IsMade, MayMake, Remakes}
use Rattle.link_keeper.proofs.Rest.{all_same}

-- ---- events that remake nothing

record Rests (s : State) (e : Event) : Type 0 where
  reserved_none : reserved s e ≡ []
  taken_none : taken s e ≡ []
  loaded_none : loaded_objects e ≡ []
  generation : (step s e).generation ≡ s.generation

rests : (s : State) (e : Event) → remakes_memory e ≡ false → Rests s e
unfolding loaded die lower initialise
rests s (events.Open hart ask (opens.Done id root added ranges)) still = absurd (false≢true (sym still))
rests s (events.Open hart ask opens.Absent) still = record { reserved_none = refl; taken_none = refl; loaded_none = refl; generation = refl }
rests s (events.Open hart ask (opens.Refused fault)) still = record { reserved_none = refl; taken_none = refl; loaded_none = refl; generation = refl }
rests s (events.Close hart handle (closes.Done set)) still = record { reserved_none = refl; taken_none = refl; loaded_none = refl; generation = refl }
rests s (events.Close hart handle (closes.Refused fault)) still = record { reserved_none = refl; taken_none = refl; loaded_none = refl; generation = refl }
rests s (events.Unmapped hart set) still = absurd (false≢true (sym still))
rests s (events.Sym hart ask (syms.Found serial index value)) still = record { reserved_none = refl; taken_none = refl; loaded_none = refl; generation = refl }
rests s (events.Sym hart ask (syms.Refused fault)) still = record { reserved_none = refl; taken_none = refl; loaded_none = refl; generation = refl }
rests s (events.Tls hart owner address) still = absurd (false≢true (sym still))
rests s _ still = record { reserved_none = refl; taken_none = refl; loaded_none = refl; generation = refl }

-- ---- nothing is put there

no_word : (images : List Image) → images ≡ [] → (a : ℕ) (x : Word) → HasWord images a x → ⊥
no_word images none a x has = let no : None ≡ Some has.is.image = ap (λ (all : List Image). slice_get all has.image) (sym none) ∙ has.is.there in cc

no_slot : (slots : List SlotWord) → slots ≡ [] → (i : ℕ) (x : SlotWord) → slice_get slots i ≡ Some x → ⊥
no_slot slots none i x there = let no : None ≡ Some x = ap (λ (all : List SlotWord). slice_get all i) (sym none) ∙ there in cc

no_installs : (installs : Installs) → InstallsNothing installs → (a lazy : ℕ) (x : Word) → OfInstalls installs a lazy x → ⊥
no_installs installs nothing a lazy x which = ⊎_elim
    (λ image. no_word installs.images nothing.images a x image.0)
    (λ rest. ⊎_elim (λ area. no_word installs.areas nothing.areas a x area.0) (λ slot. no_slot installs.slots nothing.slots slot.0 slot.1 slot.2) rest)
    which

may_nothing : (k : KeeperView) (installs : Installs) → InstallsNothing installs → MayInstall k installs
may_nothing k installs nothing = record {
  images = record {
    placed = λ a x there. absurd (no_word installs.images nothing.images a x there);
    free = λ a x there. absurd (no_word installs.images nothing.images a x there);
    apart = λ i j p q a x y one other. absurd (no_word installs.images nothing.images a x (record { image = i; index = j; is = one }));
  };
  areas = record {
    placed = λ a x there. absurd (no_word installs.areas nothing.areas a x there);
    free = λ a x there. absurd (no_word installs.areas nothing.areas a x there);
    apart = λ i j p q a x y one other. absurd (no_word installs.areas nothing.areas a x (record { image = i; index = j; is = one }));
  };
  apart = λ a x y image area. no_word installs.images nothing.images a x image;
  slots = λ i j x y one other same. absurd (no_slot installs.slots nothing.slots i x one);
  leads = λ a x there slot. absurd (no_word installs.images nothing.images a x there);
}

no_images : (s : State) (images : List Image) → AreImages s [] images → images ≡ []
no_images s [] are = refl
no_images s (image ∷ images) are = absurd are

none_reserved : (s : State) (e : Event) (installs : Installs) → Rests s e → AreInstallsOf s e installs → InstallsNothing installs
none_reserved s e installs rest are = record {
  images = no_images (step s e) installs.images (subst (λ (rs : List Range). AreImages (step s e) (filter (λ r. not (is_area r)) rs) installs.images) rest.reserved_none are.images);
  slots = are.slots ∙ ap (λ (os : List Loaded). flat_map slots_of os) rest.loaded_none;
  areas = no_images (step s e) installs.areas (subst (λ (rs : List Range). AreImages (step s e) (filter is_area rs) installs.areas) rest.reserved_none are.areas);
}

-- ---- views with the same words

-- but for words, what was shown of them, roles that went and the generation nothing changed
abbrev Only : KeeperView → KeeperView → Type 0
Only k l = l ≡ record k { words = l.words; shown = l.shown; retired = l.retired; generation = l.generation }

record Leaves (k l : KeeperView) : Type 0 where
  words : (d : ℕ) → kept_at l d ≡ kept_at k d
  retired : l.retired ≡ k.retired
  only : Only k l

only_raised : (k l : KeeperView) (g : ℕ) → l ≡ record k { generation = g } → Only k l
only_raised k l g is = subst (λ (v : KeeperView). v ≡ record k { words = v.words; shown = v.shown; retired = v.retired; generation = v.generation }) (sym is) refl

only_installed : (installs : Installs) (k l : KeeperView) → IsInstalled installs k l → Only k l
only_installed installs k l installed =
    ap (λ (v : KeeperView). record v { generation = l.generation }) installed.only
    ∙ ap (λ (all : List Sight). record k { words = l.words; shown = all; generation = l.generation }) (sym (ap (λ (v : KeeperView). v.shown) installed.only))
    ∙ ap (λ (all : List Retired). record k { words = l.words; shown = l.shown; retired = all; generation = l.generation }) (sym (ap (λ (v : KeeperView). v.retired) installed.only))

leaves_raised : (k l : KeeperView) (g : ℕ) → l ≡ record k { generation = g } → Leaves k l
leaves_raised k l g is = record { words = λ d. ap (λ (v : KeeperView). kept_at v d) is; retired = ap (λ (v : KeeperView). v.retired) is; only = only_raised k l g is }

leaves_installed : (installs : Installs) (k l : KeeperView) → InstallsNothing installs → IsInstalled installs k l → Leaves k l
leaves_installed installs k l nothing installed = record {
  words = λ d. installed.kept d (λ a lazy x which. absurd (no_installs installs nothing a lazy x which));
  retired = ap (λ (v : KeeperView). v.retired) installed.only;
  only = only_installed installs k l installed;
}

leaves_unmapped : (ranges : List Range) (k l : KeeperView) → ranges ≡ [] → IsUnmapped ranges k l → Leaves k l
leaves_unmapped ranges k l none unmapped = record {
  words = λ d. unmapped.kept d (λ inside. none_in inside.1.range (subst (λ (rs : List Range). Contains rs inside.1.range) none inside.1.there));
  retired = goes_nowhere ranges l.generation k l none unmapped.goes;
  only = unmapped.only;
}

unmapped_none : (ranges : List Range) (k l : KeeperView) → ranges ≡ [] → Leaves k l → IsUnmapped ranges k l
unmapped_none ranges k l none leaves = record {
  gone = λ a covered. absurd (none_in covered.range (subst (λ (rs : List Range). Contains rs covered.range) none covered.there));
  kept = λ d outside. leaves.words d;
  goes = goes_none ranges l.generation k l none leaves.retired;
  decided = λ r there. absurd (none_in r (subst (λ (rs : List Range). Contains rs r) none there));
  only = leaves.only;
}

-- the keeper's record stays
keeps_still : AlikeKept → (w : Setting) (begun : List Event) (k l : KeeperView) → KeepsView w begun k → Leaves k l → IsLong l → l.generation ≡ k.generation → KeepsView w begun l
keeps_still alike w begun k l view leaves long generation = record {
  kept = alike w begun k l is_alike view.kept;
  pending = λ m g low waits. subst (λ (es : List Event). HasOpenGrant (after es) m (number_in es m g)) (sym same)
      (view.pending m g low (sym (ap (λ (v : KeeperView). (row_of v m).pending) leaves.only) ∙ waits));
  last = subst (FirstGoesOn w) (sym same) view.last;
}
  where
    same : l.events ≡ k.events
    same = ap (λ (v : KeeperView). v.events) leaves.only

    is_alike : IsAlike k l
    is_alike = record {
      events = same;
      generation = generation;
      harts = ap (λ (v : KeeperView). v.harts) leaves.only;
      long = long;
      words = leaves.words;
      issued = λ m. ap (λ (v : KeeperView). (row_of v m).issued) leaves.only;
      pending = λ m. ap (λ (v : KeeperView). (row_of v m).pending) leaves.only;
      settled = λ m. ap (λ (v : KeeperView). (row_of v m).settled) leaves.only;
      losses = ap (λ (v : KeeperView). v.losses) leaves.only;
      retired = leaves.retired;
    }

-- ---- a turn's events

module _ (w : Setting) (begun : List Event) (t : LinkTable) (k : KeeperView) (e : Event) (rest : List Event) (does : MemoryChange) (accepts : AcceptsOnly w.machine)
    (view : KeepsView w begun k) (comes : ComesTo w t k e rest does) where
  abbrev s : State
  s = after k.events

  comes_next : ComesNext w k.events e k (number_in k.events)
  comes_next = record { accepts = accepts; lawful = legal_is_lawful w k.events view.kept.legal; may = comes.may; words = view.kept.words }

  -- what the first of them reserves
  of_first : (installs : Installs) → AreReserved s (e ∷ rest) installs → AreInstallsOf s e installs
  of_first installs x = let same : x.first ≡ e = (let are : e ∷ rest ≡ x.first ∷ x.behind = x.are in cc) in subst (λ (d : Event). AreInstallsOf s d installs) same x.installed

  takes_none : (installs : Installs) → AreReserved s (e ∷ rest) installs → taken s e ≡ []
  takes_none installs x = let same : x.first ≡ e = (let are : e ∷ rest ≡ x.first ∷ x.behind = x.are in cc) in subst (λ (d : Event). taken s d ≡ []) same x.takes_none

  -- what it takes away
  takes : (ranges : List Range) → AreTaken s (e ∷ rest) ranges → (ranges ≡ taken s e) × (reserved s e ≡ [])
  takes ranges x =
      let same : x.first ≡ e = (let are : e ∷ rest ≡ x.first ∷ x.behind = x.are in cc) in
      (subst (λ (d : Event). ranges ≡ taken s d) same x.takes, subst (λ (d : Event). reserved s d ≡ []) same x.reserves_none)

  -- ---- before

  generation_is : (after t.events).generation ≡ (step s e).generation
  generation_is =
      ap (λ (es : List Event). (after es).generation) (comes.ahead ∙ sym (one_behind k.events e rest))
      ∙ (all_same (k.events ++ e ∷ []) rest comes.quiet).generation ∙ ap (λ (x : State). x.generation) (after_push k.events e)

  pub rises : k.generation ≤ (after t.events).generation
  rises =
      let one : s.generation ≤ (step s e).generation = subst (λ (x : State). s.generation ≤ x.generation) (after_push k.events e) (generation_rises k.events (e ∷ [])) in
      let now : k.generation ≡ s.generation = view.kept.generation in
      let then : (after t.events).generation ≡ (step s e).generation = generation_is in
      omega (arith, one, now, then)

  may_by : InstallsMayCome → RangesMayGo → (c : MemoryChange) → Changes s (e ∷ rest) t.made c → MayMake c t.made k
  may_by come go change.Nothing x = tt
  may_by come go (change.Installs installs) x = come w k.events e k (number_in k.events) installs comes_next (of_first installs x)
  may_by come go change.Made (inl x) = come w k.events e k (number_in k.events) t.made comes_next (of_first t.made x)
  may_by come go change.Made (inr x) = may_nothing k t.made x.0
  may_by come go (change.Removes ranges) x =
      subst (MayUnmap k) (sym (takes ranges x).0) (go w k.events e k (number_in k.events) comes_next view.kept.long view.kept.rows.pending)

  pub may_make : InstallsMayCome → RangesMayGo → MayMake does t.made k
  may_make come go = may_by come go does comes.changes

  -- ---- and then

  module _ (l : KeeperView) (g : ℕ) (long : IsLong l) (is : g ≡ (after t.events).generation) where
    only_by : (c : MemoryChange) → IsMade c t.made g k l → Only k l
    only_by change.Nothing made = only_raised k l g made
    only_by (change.Installs installs) made = only_installed installs k l made.0
    only_by change.Made made = only_installed t.made k l made.0
    only_by (change.Removes ranges) made = made.0.only

    set_by : (c : MemoryChange) → IsMade c t.made g k l → l.generation ≡ (step s e).generation
    set_by change.Nothing made = ap (λ (v : KeeperView). v.generation) made ∙ is ∙ generation_is
    set_by (change.Installs installs) made = made.1 ∙ is ∙ generation_is
    set_by change.Made made = made.1 ∙ is ∙ generation_is
    set_by (change.Removes ranges) made = made.1 ∙ is ∙ generation_is

    view_by : InstalledIsView → UnmappedIsView → (c : MemoryChange) → Changes s (e ∷ rest) t.made c → IsMade c t.made g k l → l.generation ≡ (step s e).generation → IsRemadeView s e k l
    view_by installed unmapped change.Nothing x made set = unmapped s e k l x.0 (unmapped_none (taken s e) k l x.1 (leaves_raised k l g made)) long set
    view_by installed unmapped (change.Installs installs) x made set =
        installed w k.events e k l (number_in k.events) installs comes_next (of_first installs x) (takes_none installs x) made.0 long set
    view_by installed unmapped change.Made (inl x) made set =
        installed w k.events e k l (number_in k.events) t.made comes_next (of_first t.made x) (takes_none t.made x) made.0 long set
    view_by installed unmapped change.Made (inr x) made set =
        unmapped s e k l x.1.0 (unmapped_none (taken s e) k l x.1.1 (leaves_installed t.made k l x.0 made.0)) long set
    view_by installed unmapped (change.Removes ranges) x made set =
        unmapped s e k l (takes ranges x).1 (subst (λ (rs : List Range). IsUnmapped rs k l) (takes ranges x).0 made.0) long set

    leaves_by : Rests s e → (c : MemoryChange) → Changes s (e ∷ rest) t.made c → IsMade c t.made g k l → Leaves k l
    leaves_by rest_is change.Nothing x made = leaves_raised k l g made
    leaves_by rest_is (change.Installs installs) x made = leaves_installed installs k l (none_reserved s e installs rest_is (of_first installs x)) made.0
    leaves_by rest_is change.Made (inl x) made = leaves_installed t.made k l (none_reserved s e t.made rest_is (of_first t.made x)) made.0
    leaves_by rest_is change.Made (inr x) made = leaves_installed t.made k l x.0 made.0
    leaves_by rest_is (change.Removes ranges) x made = leaves_unmapped ranges k l ((takes ranges x).0 ∙ rest_is.taken_none) made.0

    pub remakes : InstalledIsView → UnmappedIsView → AlikeKept → IsMade does t.made g k l → Remakes w begun e k l
    remakes installed unmapped alike made = record {
      remade = λ yes. view_by installed unmapped does comes.changes made (set_by does made);
      keeps = λ no.
          let rest_is : Rests s e = rests s e no in
          keeps_still alike w begun k l view (leaves_by rest_is does comes.changes made) long (set_by does made ∙ rest_is.generation ∙ sym view.kept.generation);
      only = only_by does made;
    }
