-- Part by part.
use Rattle.std.proofs.Common.{◌≡◌, ◌+◌, length, refl}
use Rattle.std.specs.Prelude.{Some, None}
use Rattle.std.specs.Option.{option_map_or}
use Rattle.ld_base.specs.declared.parts.GnuPart.{GnuPart}
use Rattle.ld_base.specs.declared.parts.SysvPart.{SysvPart}
use Rattle.std.specs.Prelude.{Option, []}
use Rattle.asm_write.specs.declared.contents.Contents.{Contents}
use Rattle.asm_write.specs.declared.contents.SectionBytes.{SectionBytes}
use Rattle.asm_write.specs.declared.part.Part.{Part}
use Rattle.asm_write.specs.declared.part.Part.TheVariants as parts
use Rattle.asm_write.specs.declared.starts.Starts.{Starts}
use Rattle.asm_write.specs.Sizes.{plain_size, gnu_size, sysv_size}
use Rattle.asm_write.specs.Starts.{start_in, wrapped}
use Rattle.asm_write.specs.Values.{part_bytes, gnu_bytes, sysv_bytes}
use Rattle.asm_laws.specs.ElfWritten.Fitting.{FitsSections, HasOwnBytes}
use Rattle.asm_laws.proofs.ElfWritten.Parts as one

gnu_or_none : (part : Option GnuPart) → length (option_map_or gnu_bytes part []) ≡ option_map_or gnu_size part 0
gnu_or_none None = refl
gnu_or_none (Some part) = one.gnu part

sysv_or_none : (part : Option SysvPart) → length (option_map_or sysv_bytes part []) ≡ option_map_or sysv_size part 0
sysv_or_none None = refl
sysv_or_none (Some part) = one.sysv part

pub sized : (starts : Starts) (contents : Contents) (code : SectionBytes) → FitsSections contents code → (part : Part) → HasOwnBytes part
    → length (part_bytes starts contents code part) ≡ plain_size contents part
unfolding part_bytes plain_size
sized starts contents code fits parts.Head own = one.head starts contents
sized starts contents code fits parts.GnuHash own = gnu_or_none contents.gnu
sized starts contents code fits parts.SysvHash own = sysv_or_none contents.sysv
sized starts contents code fits parts.Symbols own = one.symbols starts contents.symbols
sized starts contents code fits parts.Strings own = refl
sized starts contents code fits parts.Versym own = one.versym contents.has_versions contents.symbols
sized starts contents code fits parts.Verdef own = one.verdef contents.versions
sized starts contents code fits parts.Verneed own = one.verneed contents.files contents.needed_versions
sized starts contents code fits parts.Rela own = one.rela starts contents.fixes
sized starts contents code fits parts.Relr own = absurd own
sized starts contents code fits parts.Jmprel own = one.slots (wrapped (start_in starts parts.GotPlt + 16)) contents.slots
sized starts contents code fits parts.Rodata own = fits.rodata
sized starts contents code fits parts.Plt own = fits.plt
sized starts contents code fits parts.Text own = fits.text
sized starts contents code fits parts.Dynamic own = one.dynamic starts contents
sized starts contents code fits parts.Got own = one.fixed starts contents.fixes parts.Got
sized starts contents code fits parts.PreinitArray own = one.fixed starts contents.fixes parts.PreinitArray
sized starts contents code fits parts.InitArray own = one.fixed starts contents.fixes parts.InitArray
sized starts contents code fits parts.FiniArray own = one.fixed starts contents.fixes parts.FiniArray
sized starts contents code fits parts.Relro own = fits.relro
sized starts contents code fits parts.Tdata own = fits.tdata
sized starts contents code fits parts.Tbss own = refl
sized starts contents code fits parts.GotPlt own = one.got_plt (start_in starts parts.Plt) contents.slots
sized starts contents code fits parts.Data own = fits.content
sized starts contents code fits parts.Bss own = absurd own
