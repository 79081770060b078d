use Rattle.std.proofs.Common.{◌-◌, ◌<◌, ◌≤◌, vec_len, take}
use Rattle.std.specs.Io.KnownBytes.{Consumes, IsAtEnd}
use Rattle.library_source.specs.Folder.{read_limit}
use Rattle.library_source.proofs.folder_library.read_front.Given as goal

abbrev pub invariant-loop-filled : goal.invariant-loop-filled
invariant-loop-filled g l = record {
  inside : l.filled ≤ vec_len l.bytes;
  bound : vec_len l.bytes ≤ read_limit;
  taken : Consumes (g.F.Read.remaining l.fn.file) (g.F.Read.remaining l.file) (take l.filled l.bytes.items);
  whole : l.filled < vec_len l.bytes → IsAtEnd (g.F.Read.remaining l.file);
}

abbrev pub decreases-loop-filled : goal.decreases-loop-filled
decreases-loop-filled g l = read_limit - vec_len l.bytes
