-- Which slots ask for a provider for themselves with much of a column's class.
use Rattle.std.specs.Prelude.{ℕ}
use Rattle.ac_base.specs.Names.{class_bytes}
use Rattle.ac_query.specs.Asked.{Slot, slots_of}
use Rattle.ac_prune.specs.Left.Accounts.{asked_in}
use Rattle.ac_prune.specs.Ahead.{load_of, lone_much}
use Rattle.ac_prune.specs.declared.hosts.column.Column.{Column}

-- 1 for such a slot
abbrev pub is_lone : Column → ℕ → Slot → ℕ
is_lone column amount slot = lone_much (asked_in column.ledger.now) (class_bytes column.class.now) amount slot

-- how many there are
abbrev pub count_of_lone : Column → ℕ → ℕ
count_of_lone column amount = load_of (is_lone column amount) (slots_of (asked_in column.ledger.now))
