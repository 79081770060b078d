-- Images of areas, one after another.
use Rattle.std.proofs.Common.{◌≡◌, ℕ, ◌+◌, ◌<◌, List, [], ◌∷◌, ◌++◌, length, take, get_or, sym, ap, ◌∙◌}
use Rattle.std.specs.List.{Contains, filter}
use Rattle.std.proofs.lemmas.List.{take_more}
use Rattle.std.proofs.lemmas.List.Elements.{filter-append}
use Rattle.link_open_images.specs.AreaImages.Areas.{IsArea}
use Rattle.history_event.specs.declared.event.Range.{Range}
use Rattle.history_state.specs.State.{State}
use Rattle.history_state.specs.Lemmas.Lists.{here, later}
use Rattle.history_calls.specs.Served.{AreImages, AreWordsOf, is_area}
use Rattle.seg_image.specs.declared.image.Image.{Image}
use Rattle.link_holds.specs.OpeningBrings.StartupAreas.Areas.{AreFilled, filling}

pub one_more : (bytes : List ℕ) (ranges : List Range) (images : List Image) (r : Range) (image : Image) → AreFilled bytes ranges images
    → IsArea r.address r.pages r.address (filling bytes r.purpose) image → AreFilled bytes (ranges ++ r ∷ []) (images ++ image ∷ [])
one_more bytes [] [] r image all last = (last, tt)
one_more bytes [] (i ∷ images) r image all last = absurd all
one_more bytes (q ∷ ranges) [] r image all last = absurd all
one_more bytes (q ∷ ranges) (i ∷ images) r image all last = (all.0, one_more bytes ranges images r image all.1 last)

pub next_filled : (ranges : List Range) (n : ℕ) (r : Range) → n < length ranges → r ≡ get_or ranges n r → filter is_area (take (n + 1) ranges) ≡ filter is_area (take n ranges) ++ filter is_area (r ∷ [])
next_filled ranges n r lt is =
    ap (filter is_area) (take_more ranges n r lt ∙ ap (λ (x : Range). take n ranges ++ x ∷ []) (sym is)) ∙ filter-append is_area (take n ranges) (r ∷ [])

-- where each is what memory has, all are
pub are_images : (s : State) (bytes : List ℕ) (ranges : List Range) (images : List Image)
    → ((r : Range) (image : Image) → Contains ranges r → IsArea r.address r.pages r.address (filling bytes r.purpose) image → AreWordsOf s r image) → AreFilled bytes ranges images → AreImages s ranges images
are_images s bytes [] [] each all = tt
are_images s bytes [] (i ∷ images) each all = absurd all
are_images s bytes (q ∷ ranges) [] each all = absurd all
are_images s bytes (q ∷ ranges) (i ∷ images) each all =
    (each q i (here q ranges) all.0, are_images s bytes ranges images (λ r image there. each r image (later q ranges r there)) all.1)
