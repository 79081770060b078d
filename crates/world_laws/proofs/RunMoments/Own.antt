-- What is answered on thread-local storage is in the hart's own block.
use Rattle.std.proofs.Common.{◌≡◌, ℕ, Bool, true, false, List, [], ◌∷◌, ◌++◌, Some, refl, sym, ap, subst, ◌∙◌, append-nil}
use Rattle.history_event.specs.declared.event.Event.{Event}
use Rattle.history_event.specs.declared.event.Event.TheVariants as events
use Rattle.history_event.specs.declared.event.SymAnswer.TheVariants.{Found}
use Rattle.history_event.specs.declared.event.SymAsk.{SymAsk}
use Rattle.history_state.specs.After.{after}
use Rattle.history_state.specs.Allowed.{Allowed}
use Rattle.history_state.specs.Legal.{Legal}
use Rattle.history_state.specs.Lookup.{FindsSymbol, IsAddressBy, is_storage_symbol}
use Rattle.history_state.specs.Setting.{Setting}
use Rattle.history_state.specs.State.{State}
use Rattle.history_state.specs.Storage.{tls_block}
use Rattle.history_state.specs.Lemmas.History.{after_push}
use Rattle.tls_blocks.specs.Numbers.{module_at}
use Rattle.history_calls.specs.Answer.{Answer, returns, loading, closing, refused, granted, told, again, over}
use Rattle.history_calls.specs.Call.{locates}
use Rattle.history_calls.specs.Gives.{GetsBlock, Gives, HasBlock, ending, variable_at}
use Rattle.history_calls.specs.Lemmas.Told.{Located, located}
use Rattle.link_open_images.specs.NewBlocks.Laws.{HartsHaveNewBlocks}
use Rattle.hart_moves.specs.Due.{Due, Return}
use Rattle.hart_moves.specs.Harts.{HartState}
use Rattle.hart_moves.specs.Moves.{Calls, Did, Moves, MovesAs, Takes, events_of, freed, returning, spent}
use Rattle.world_laws.proofs.RunMoments.Answered.{located_ends}
use Rattle.world_laws.specs.RunMoments.OfJournal.{FindsFromOwnBlock, IsFoundFromOwnBlock}
use Rattle.world_laws.specs.RunMoments.OfTurns.{LocatesFromOwnBlock, LocatesSo}

-- ---- __tls_get_addr

-- the address of a variable: so far from the start of the hart's own block of the module with this number
pub record IsFromOwnBlock (s : State) (hart number offset value : ℕ) : Type 0 where
  pub block : ℕ
  pub has : HasBlock s hart number block
  pub is : value ≡ variable_at block offset

module _ (new_blocks : HartsHaveNewBlocks) (w : Setting) (past : List Event) (h number offset value : ℕ) where
  variable_is : (block : ℕ) → returns (variable_at block offset) ≡ returns value → value ≡ variable_at block offset
  variable_is block same = let one : variable_at block offset ≡ value = cc in sym one

  -- the hart gets the block first
  in_its_new : (block : ℕ) (e : Event) → GetsBlock w past h number block e → value ≡ variable_at block offset
      → IsFromOwnBlock (after (past ++ e ∷ [])) h number offset value
  in_its_new block e gets is = record {
    block = block;
    has = record {
      of = gets.of;
      there = subst (λ (s : State). module_at s.modules number ≡ Some gets.of)
          (sym (ap (λ (d : Event). after (past ++ d ∷ [])) gets.is ∙ after_push past (events.Tls h gets.of.serial block))) gets.there;
      is = subst (λ (d : Event). tls_block (after (past ++ d ∷ [])) h gets.of.serial ≡ Some block) (sym gets.is)
          (new_blocks past h gets.of.serial block (subst (Allowed w past) gets.is gets.may));
    };
    is = is;
  }

  pub in_its_own : (given : List Event) (answer : Answer) → Located w past h number offset given answer → answer ≡ returns value
      → IsFromOwnBlock (after (past ++ given)) h number offset value
  in_its_own given answer (Located.in_new block e gets) same = in_its_new block e gets (variable_is block same)
  in_its_own given answer (Located.in_old block has) same =
      subst (λ (es : List Event). IsFromOwnBlock (after es) h number offset value) (sym (append-nil past))
      (record { block = block; has = has; is = variable_is block same })
  in_its_own given answer (Located.is_bad none) same = absurd (let no : over _ ≡ returns value = same in cc)
  in_its_own given answer (Located.is_full pages none) same = absurd (let no : over _ ≡ returns value = same in cc)

-- what the call may answer
abbrev MayAnswer : Answer → Type 0
MayAnswer (returns value) = Unit {0}
MayAnswer (loading root added) = ⊥
MayAnswer (closing set) = ⊥
MayAnswer (refused fault) = ⊥
MayAnswer (granted grant) = ⊥
MayAnswer (told fault) = ⊥
MayAnswer (again for) = ⊥
MayAnswer (over reason) = Unit {0}

may_answer : (w : Setting) (past : List Event) (h number offset : ℕ) (given : List Event) (answer : Answer) → Located w past h number offset given answer
    → MayAnswer answer
may_answer w past h number offset given answer (Located.in_new block e gets) = tt
may_answer w past h number offset given answer (Located.in_old block has) = tt
may_answer w past h number offset given answer (Located.is_bad none) = tt
may_answer w past h number offset given answer (Located.is_full pages none) = tt

module _ (new_blocks : HartsHaveNewBlocks) (w : Setting) (past : List Event) (h number offset : ℕ) (back : Return) (b c : HartState) (did : Did) where
  never : (given : List Event) (answer : Answer) → Located w past h number offset given answer → (MayAnswer answer → ⊥)
      → LocatesSo past h number offset back b did c
  never given answer located never_so = absurd (never_so (may_answer w past h number offset given answer located))

  located_so : (given : List Event) (answer : Answer) → Gives w past h (locates number offset) given answer → (appended : List Event)
      → appended ≡ given ++ ending h answer
      → Takes w past h b (locates number offset) back answer appended did c → LocatesSo past h number offset back b did c
  located_so given (returns value) gives appended are takes =
      let own = in_its_own new_blocks w past h number offset value given (returns value) (located gives refl) refl in
      let same : events_of did ≡ given = ap events_of takes.is ∙ are ∙ append-nil given in
      LocatesSo.is_own own.block (subst (λ (es : List Event). HasBlock (after (past ++ es)) h number own.block) (sym same) own.has)
      (takes.leaves ∙ ap (λ (n : ℕ). spent (returning back n (freed b))) own.is)
  located_so given (loading root added) gives appended are takes = never given (loading root added) (located gives refl) (λ x. x)
  located_so given (closing set) gives appended are takes = never given (closing set) (located gives refl) (λ x. x)
  located_so given (refused fault) gives appended are takes = never given (refused fault) (located gives refl) (λ x. x)
  located_so given (granted grant) gives appended are takes = never given (granted grant) (located gives refl) (λ x. x)
  located_so given (told fault) gives appended are takes = never given (told fault) (located gives refl) (λ x. x)
  located_so given (again for) gives appended are takes = never given (again for) (located gives refl) (λ x. x)
  located_so given (over reason) gives appended are takes = LocatesSo.ends reason (located_ends gives) (ap (λ (z : HartState). z.«end») takes.leaves)

pub locates_own : HartsHaveNewBlocks → (w : Setting) (past : List Event) (h : ℕ) (b c : HartState) (did : Did) → Moves w past h b did c
    → LocatesFromOwnBlock past h b did c
locates_own new_blocks w past h b c did moves number offset back is =
    let calls : Calls w past h b (locates number offset) back did c = subst (λ (d : Due). MovesAs w past h b d did c) is moves in
    located_so new_blocks w past h number offset back b c did calls.serves.given calls.answer calls.serves.gives calls.appended calls.serves.are calls.takes

-- ---- look-ups

found_by : (s : State) (hart serial index value : ℕ) (b : Bool) → IsAddressBy b s hart serial index value → b ≡ true
    → IsFoundFromOwnBlock s hart serial index value
found_by s hart serial index value true x storage = record { block = x.0; has = x.1; is = x.2 }
found_by s hart serial index value false x storage = absurd (let no : false ≡ true = storage in cc)

found_own : (s : State) (hart serial index value : ℕ) (ask : SymAsk) → FindsSymbol s hart ask serial index value → is_storage_symbol s serial index ≡ true
    → IsFoundFromOwnBlock s hart serial index value
found_own s hart serial index value ask x storage = found_by s hart serial index value (is_storage_symbol s serial index) x.is storage

pub finds_own : (w : Setting) (journal : List Event) → Legal w journal → FindsFromOwnBlock journal
unfolding Legal
finds_own w journal legal k hart serial index value ask at storage =
    found_own _ hart serial index value ask (legal k (events.Sym hart ask (Found serial index value)) at).1 storage
