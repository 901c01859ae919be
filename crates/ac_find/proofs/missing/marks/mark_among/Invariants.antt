use Rattle.std.proofs.Common.{◌≡◌, length, map, take}
use Rattle.std.specs.List.{list_any}
use Rattle.std.specs.Str.{bytes_eq}
use Rattle.ac_base.specs.Names.{trait_bytes}
use Rattle.ac_find.specs.Missing.{AreMarked}
use Rattle.ac_find.proofs.missing.marks.mark_among.Given as goal

abbrev pub invariant-loop-name : goal.invariant-loop-name
invariant-loop-name l = record {
  count : length l.marks ≡ length l.fn.marks;
  marked : AreMarked (map trait_bytes l.names) (λ name. list_any (λ t. bytes_eq name (trait_bytes t)) (take l.name-index l.traits)) l.fn.marks l.marks;
}
