use Rattle.std.proofs.Common.{◌≡◌, ℕ, ◌+◌, Bool, true, false, ◌++◌, ◌∷◌, [], List, length, map, Option, refl, sym, ap, subst, ◌∙◌}
use Rattle.std.specs.List.{Contains, filter, find, range_with_len}
use Rattle.std.specs.Option.{option_map_or}
use Rattle.std.proofs.lemmas.Bool.{and_parts, leb-true, true≢false}
use Rattle.std.proofs.lemmas.List.Elements.{Contains-append_right}
use Rattle.link_open_images.specs.AreaImages.Areas.{IsArea, byte_among}
use Rattle.history_journal.specs.Following.{machine_of}
use Rattle.history_event.specs.declared.event.Event.{Event}
use Rattle.history_event.specs.declared.event.Event.TheVariants.{Open}
use Rattle.history_event.specs.declared.event.OpenAnswer.TheVariants.{Done}
use Rattle.history_event.specs.declared.event.Purpose.{Purpose}
use Rattle.history_event.specs.declared.event.Purpose.TheVariants as purposes
use Rattle.history_event.specs.declared.event.Range.{Range}
use Rattle.history_event.specs.declared.state.Block.{Block}
use Rattle.history_state.specs.Accepted.{AcceptsOnly}
use Rattle.history_state.specs.After.{after}
use Rattle.history_state.specs.Laws.{ModulesAreTidy, RangesAreOwned, StaticsAreApart}
use Rattle.history_state.specs.Legal.{Lawful}
use Rattle.history_state.specs.Memory.{covers, first_byte, is_data_purpose}
use Rattle.history_state.specs.Objects.{is_startup, serial_of}
use Rattle.history_state.specs.Read.{IsUntouched}
use Rattle.history_state.specs.State.{State}
use Rattle.history_state.specs.Step.{loaded, open_done}
use Rattle.history_state.specs.Storage.{is_static_area, tp_of}
use Rattle.history_state.specs.Lemmas.History.{after_push, lawful_push}
use Rattle.history_state.specs.Lemmas.Lists.{from_filter, none_in}
use Rattle.history_calls.specs.Served.{AreImages, AreWordsOf, is_area}
use Rattle.seg_image.specs.declared.image.Image.{Image}
use Rattle.link_holds.specs.OpeningBrings.StartupAreas.Areas.{AreAreas, filling}
use Rattle.link_holds.specs.OpeningBrings.StartupAreas.Laws.{parts_made, statics_then}
use Rattle.link_holds.proofs.OpeningBrings.StartupAreas.Filled.{are_images}
use Rattle.link_holds.proofs.OpeningBrings.StartupAreas.Given.{none_later, static_found}
use Rattle.link_holds.proofs.OpeningBrings.StartupAreas.Installed.{among_at, among_none, area_byte}
use Rattle.link_holds.proofs.opening_brings.startup_areas.law.areas_are_installed.Goals as goal

pub returns : goal.returns
unfolding loaded tp_of
returns c harts past hart id root ask added ranges lawful next images = by (is_startup (after past)) refl
  where
    s : State
    s = after past

    t : State
    t = open_done (after past) hart ask id root added ranges

    e : Event
    e = Open hart ask (Done id root added ranges)

    state : after (past ++ e ∷ []) ≡ t
    state = after_push past e

    lawful_t : Lawful (machine_of harts) (past ++ e ∷ [])
    lawful_t = lawful_push (machine_of harts) next.setting past e next.machine lawful next.may

    tidy : ModulesAreTidy t
    tidy = subst ModulesAreTidy state (c.modules_are_tidy.ensures.tidy (machine_of harts) (past ++ e ∷ []) lawful_t)

    statics : StaticsAreApart t
    statics = subst StaticsAreApart state (c.statics_are_apart.ensures (machine_of harts) (past ++ e ∷ []) lawful_t)

    owned : RangesAreOwned t
    owned = subst RangesAreOwned state (c.ranges_are_owned.ensures (machine_of harts) (past ++ e ∷ []) lawful_t)

    row : map serial_of added ≡ range_with_len (after past).next (length added)
    row = c.serials_are_in_order.ensures.new (machine_of harts) next.setting past hart id root ask added ranges next.machine lawful next.may

    only : AcceptsOnly (machine_of harts)
    only = c.accepted_object.ensures.machine (machine_of harts) refl

    by : (startup : Bool) → is_startup (after past) ≡ startup → AreAreas startup (statics_then (after past) added).tp ranges added (parts_made (after past) hart ask id root added ranges) images
        → AreImages (open_done (after past) hart ask id root added ranges) (filter is_area ranges) images
    by false late none =
        subst (λ (rs : List Range). AreImages t rs images) (sym (none_later next.setting s hart ask id root added ranges ask.name late next.may.name))
        (subst (AreImages t []) (sym none) tt)
    by true startup have = are_images t have.bytes (filter is_area ranges) images each have.filled
      where
        untouched : IsUntouched s
        untouched = c.nothing_comes_before_startup.ensures (machine_of harts) past lawful startup

        there : (r : Range) → Contains ranges r → Contains t.ranges r
        there r inside = Contains-append_right s.ranges ranges r inside

        ranges_are : t.ranges ≡ ranges
        ranges_are = ap (λ (rs : List Range). rs ++ ranges) untouched.ranges

        blocks_are : t.blocks ≡ []
        blocks_are = untouched.blocks

        byte : (r : Range) → Contains ranges r → (p : Purpose) → r.purpose ≡ p → is_data_purpose p ≡ true → (a : ℕ) → covers a r ≡ true
            → byte_among r.address (filling have.bytes p) a ≡ first_byte t p a
        byte r inside (purposes.Object serial) is holds_data a in_r = absurd (true≢false (sym holds_data))
        byte r inside (purposes.Stack h) is holds_data a in_r = among_none r.address a
        byte r inside (purposes.StaticTls h) is holds_data a in_r =
            let low = leb-true r.address a (and_parts _ _ in_r).0 in
            let tp : tp_of (open_done (after past) hart ask id root added ranges) h ≡ r.address + (statics_then (after past) added).tp =
            ap (λ (rs : List Range). option_map_or (λ (q : Range). q.address + (statics_then s added).tp) (find (λ (q : Range). is_static_area h q.purpose) rs) 0) ranges_are
            ∙ ap (λ (f : Option Range). option_map_or (λ (q : Range). q.address + (statics_then s added).tp) f 0)
            (static_found next.setting s hart ask id root added ranges ask.name h startup next.may.name r inside is) in
            among_at r.address a have.bytes low
            ∙ area_byte s hart ask id root added ranges untouched tidy c.blocks_begin_as_kept.ensures.count (c.new_objects_are_placed.ensures harts past hart id root ask added ranges lawful next) statics row
            (c.new_images_are_found.ensures harts past hart id root ask added ranges lawful next) (statics_then s added).tp have.bytes have.blocks c.blocks_begin_as_kept.ensures.bytes h a r.address tp low
        byte r inside (purposes.Block h serial) is holds_data a in_r =
            let b = owned.late r h serial (there r inside) is in absurd (none_in b.0 (subst (λ (bs : List Block). Contains bs b.0) blocks_are b.1))

        each : (r : Range) (image : Image) → Contains (filter is_area ranges) r → IsArea r.address r.pages r.address (filling have.bytes r.purpose) image → AreWordsOf t r image
        each r image inside area =
            let of = from_filter is_area ranges r inside in
            subst (λ (x : State). AreWordsOf x r image) state
            (c.areas_have_words.ensures (machine_of harts) (past ++ e ∷ []) r r.address (filling have.bytes r.purpose) image only lawful_t
            (subst (λ (x : State). Contains x.ranges r) (sym state) (there r of.0)) of.1
            (λ a in_r. byte r of.0 r.purpose refl of.1 a in_r ∙ ap (λ (x : State). first_byte x r.purpose a) (sym state)) area)
