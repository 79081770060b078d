-- The words of pages for data.
use Rattle.std.proofs.Common.{◌≡◌, ℕ, ◌+◌, ◌*◌, ◌<◌, true, List, Some, refl, sym, ap, subst, ◌∙◌, arith}
use Rattle.std.specs.List.{Contains}
use Rattle.std.proofs.lemmas.Bool.{and_from, le-leb, lt-ltb}
use Rattle.link_open_images.specs.AreaImages.Areas.{IsArea, byte_among}
use Rattle.ld_base.specs.declared.linking.Role.{Role}
use Rattle.ld_base.specs.declared.linking.Role.TheVariants.{Rw}
use Rattle.history_event.specs.declared.event.Event.{Event}
use Rattle.history_event.specs.declared.event.Range.{Range}
use Rattle.history_state.specs.Accepted.{AcceptsOnly}
use Rattle.history_state.specs.After.{after}
use Rattle.history_state.specs.Laws.{IsDataAt}
use Rattle.history_state.specs.Legal.{Lawful}
use Rattle.history_state.specs.Memory.{covers, first_byte, is_data_purpose, role_at, first_word_at}
use Rattle.history_state.specs.Setting.{Machine}
use Rattle.history_state.specs.State.{State}
use Rattle.history_state.specs.Lemmas.Accepting.{ReadLaw}
use Rattle.history_state.specs.Lemmas.Brought.{LoadLaws}
use Rattle.history_state.specs.Lemmas.Data.{areas_data}
use Rattle.history_state.specs.Lemmas.Lazy.{PageLaws}
use Rattle.history_calls.specs.Served.{AreWordsOf}
use Rattle.seg_image.specs.Words.{word_of}
use Rattle.seg_image.specs.declared.image.Image.{Image}
use Rattle.link_open_images.proofs.NewBlocks.Bytes.{word_alike}

in_pages : (start pages k i : ℕ) → k < 512 * pages → i < 8 → (r : Range) → r.address ≡ start → r.pages ≡ pages → covers (start + 8 * k + i) r ≡ true
in_pages start pages k i few small r at many =
    and_from _ _ (le-leb r.address (start + 8 * k + i) (omega (arith, at))) (lt-ltb (start + 8 * k + i) (r.address + 4096 * r.pages) (omega (arith, at, many, few, small)))

module _ (page_laws : PageLaws) (loads : LoadLaws) (reads : ReadLaw) where
  pub area_words : (m : Machine) (events : List Event) (r : Range) (at : ℕ) (bytes : List ℕ) (image : Image) → AcceptsOnly m → Lawful m events → Contains (after events).ranges r
      → is_data_purpose r.purpose ≡ true → ((a : ℕ) → covers a r ≡ true → byte_among at bytes a ≡ first_byte (after events) r.purpose a) → IsArea r.address r.pages at bytes image
      → AreWordsOf (after events) r image
  area_words m events r at bytes image only lawful there holds_data byte_is area = record {
    start = area.start;
    all = area.all;
    each = λ k less. area.each k less
        ∙ ap (λ n. Some (record { value = n; role = Rw })) (each k less).0
        ∙ ap (λ (x : Role). Some (record { value = first_word_at t (r.address + 8 * k); role = x })) (sym (each k less).1);
  }
    where
      t : State
      t = after events

      each : (k : ℕ) → k < 512 * r.pages → (word_of (byte_among at bytes) (r.address + 8 * k) ≡ first_word_at t (r.address + 8 * k)) × (role_at t (r.address + 8 * k) ≡ Rw)
      each k less =
          let zero : r.address + 8 * k + 0 ≡ r.address + 8 * k = omega arith in
          let inside : covers (r.address + 8 * k) r ≡ true = subst (λ n. covers n r ≡ true) zero (in_pages r.address r.pages k 0 less (omega arith) r refl refl) in
          let held : IsDataAt t r (r.address + 8 * k) = areas_data page_laws loads reads m only events lawful r (r.address + 8 * k) there holds_data inside in (
            word_alike (byte_among at bytes) (first_byte t r.purpose) (r.address + 8 * k) (λ j few_bytes. byte_is (r.address + 8 * k + j) (in_pages r.address r.pages k j less few_bytes r refl refl)) ∙ sym held.word,
            held.role,
          )
