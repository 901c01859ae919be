-- What the structs of a flavor's room show.
use Rattle.std.specs.Prelude.{ℕ, List, map}
use Rattle.std.specs.Global.{Vec}
use Rattle.ac_run.specs.Capacity.{Room, commonest}
use Rattle.ac_run.specs.declared.capacity.Room as rust

-- a thing that roots are short of, with how many these are
abbrev pub shortage_shown : Vec ℕ × ℕ → List ℕ × ℕ
shortage_shown shortage = (shortage.0.items, shortage.1)

abbrev pub room_shown : rust.Room → Room
room_shown room = record {
  name = room.name.now;
  hosts = room.hosts;
  at_least = room.at_least;
  at_most = room.at_most;
  wanted = room.wanted;
  short = commonest (map shortage_shown room.shortages.items);
}
