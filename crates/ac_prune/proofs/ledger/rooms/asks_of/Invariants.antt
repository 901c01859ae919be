use Rattle.std.proofs.Common.{◌≡◌, map, take}
use Rattle.ac_base.specs.Names.{class_bytes}
use Rattle.ac_query.specs.Shown.Groups.{need_entry}
use Rattle.ac_prune.specs.Left.{ask_pair, numbered}
use Rattle.ac_prune.proofs.ledger.rooms.asks_of.Given as goal

abbrev pub invariant-loop-need : goal.invariant-loop-need
invariant-loop-need l = map ask_pair l.asks.items ≡ map (numbered (map (λ c. class_bytes c.now) l.classes)) (map need_entry (take l.need-index l.needs))
