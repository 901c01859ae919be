use Rattle.std.proofs.Common.{◌≡◌, ◌+◌, ◌++◌, ◌<◌, ◌^◌, codes, length, map}
use Rattle.std.specs.List.{join_with_byte}
use Rattle.std.specs.String.{string_bytes}
use Rattle.ac_base.specs.Names.{suffix_bytes}
use Rattle.ac_query.specs.Shown.{suffixes_shown}
use Rattle.ac_find.proofs.DetailsWritten.{parts_from}
use Rattle.ac_find.proofs.broken.hosts.subtree_text.Given as goal

abbrev pub invariant-loop-place : goal.invariant-loop-place
invariant-loop-place l = record {
  fits : l.place + length l.suffix-iterator < 2 ^ 64;
  parts : string_bytes l.text ++ parts_from l.place (map suffix_bytes l.suffix-iterator) ≡ codes "same_subtree=" ++ join_with_byte 44 (suffixes_shown l.suffixes);
}
