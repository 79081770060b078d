-- What the program headers tell by their kinds.
use Rattle.std.proofs.Common.{◌≡◌, refl, Bool, true, false, if◌then◌else◌, List, [], ◌∷◌, ◌++◌, map}
use Rattle.std.specs.Prelude.{Some, None}
use Rattle.elf_object.specs.Segments.{dynamic_of, relro_of, tls_of}
use Rattle.asm_write.specs.declared.contents.Contents.{Contents}
use Rattle.asm_write.specs.declared.entries.SegmentKind.{SegmentKind}
use Rattle.asm_write.specs.declared.entries.SegmentKind.TheVariants as segments
use Rattle.asm_write.specs.declared.part.Part.TheVariants as parts
use Rattle.asm_write.specs.Records.{header_of}
use Rattle.asm_write.specs.Sizes.{has_run, has_tls, has_written, segment_if, segments_of}
use Rattle.asm_write.specs.Starts.{start_in, starts_of}
use Rattle.asm_laws.specs.ElfSpelled.Said.{said_head}
use Rattle.asm_accepted.specs.ElfAccepted.Said.{header_in, said_relro, said_tls}

-- the kinds of headers, those that a test picks among them
abbrev kinds : Bool → Bool → Bool → List SegmentKind
kinds run written tls =
    (segments.Read ∷ []) ++ segment_if run segments.Run ++ (segments.Relocated ∷ []) ++ segment_if written segments.Written
    ++ (segments.Dynamic ∷ []) ++ segment_if tls segments.Tls ++ (segments.Relro ∷ [])

module _ (contents : Contents) where
  tls_in : (run written tls : Bool) → tls_of (map (header_in contents) (kinds run written tls))
      ≡ (let h = header_in contents segments.Tls in if tls then Some (record { vaddr = h.vaddr; filesz = h.filesz; memsz = h.memsz; align = h.align }) else None)
  unfolding tls_of header_of
  tls_in true true true = refl
  tls_in true true false = refl
  tls_in true false true = refl
  tls_in true false false = refl
  tls_in false true true = refl
  tls_in false true false = refl
  tls_in false false true = refl
  tls_in false false false = refl

  relro_in : (run written tls : Bool) → relro_of (map (header_in contents) (kinds run written tls)) ≡ Some (said_relro contents)
  unfolding relro_of header_of
  relro_in true true true = refl
  relro_in true true false = refl
  relro_in true false true = refl
  relro_in true false false = refl
  relro_in false true true = refl
  relro_in false true false = refl
  relro_in false false true = refl
  relro_in false false false = refl

  dynamic_in : (run written tls : Bool) → dynamic_of (map (header_in contents) (kinds run written tls)) ≡ start_in (starts_of contents) parts.Dynamic
  unfolding dynamic_of header_of
  dynamic_in true true true = refl
  dynamic_in true true false = refl
  dynamic_in true false true = refl
  dynamic_in true false false = refl
  dynamic_in false true true = refl
  dynamic_in false true false = refl
  dynamic_in false false true = refl
  dynamic_in false false false = refl

  pub tls_is : tls_of (said_head contents).headers ≡ said_tls contents
  unfolding segments_of
  tls_is = tls_in (has_run contents) (has_written contents) (has_tls contents)

  pub relro_is : relro_of (said_head contents).headers ≡ Some (said_relro contents)
  unfolding segments_of
  relro_is = relro_in (has_run contents) (has_written contents) (has_tls contents)

  pub dynamic_is : dynamic_of (said_head contents).headers ≡ start_in (starts_of contents) parts.Dynamic
  unfolding segments_of
  dynamic_is = dynamic_in (has_run contents) (has_written contents) (has_tls contents)
