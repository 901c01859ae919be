-- What is gathered in order: it rises, and is just what it was gathered of.
use Rattle.ac_tables.proofs.Common.{◌∙◌, ℕ, List, reverse, sym, bytes_eq, is_at, nat_cmp_total, nat_list_cmp_total, is_eq-slice_cmp, text_cmp, map_of}
use Rattle.ac_tables.specs.Laws.{IsMapOf, OrderHolds}
use Rattle.ac_base.proofs.Sorted.SameItems.{last_given, map_rises, member_rising, name_rising}
use Rattle.ac_base.proofs.Sorted.SearchFacts.{lookup_same}
use Rattle.ac_base.proofs.Sorted.SortedSets.{rising_sorted}

map_holds : {X : Type 0} (pairs : List (List ℕ × X)) → IsMapOf pairs (map_of pairs)
map_holds pairs = record {
  rises = map_rises nat_list_cmp_total pairs;
  last = λ q.
      lookup_same (bytes_eq q) (is_at (text_cmp q)) (λ n. sym (is_eq-slice_cmp q n)) (map_of pairs)
      ∙ last_given nat_list_cmp_total q pairs
      ∙ lookup_same (is_at (text_cmp q)) (bytes_eq q) (is_eq-slice_cmp q) (reverse pairs);
}

pub order_holds : OrderHolds
order_holds = record {
  ids_rise = λ ids. rising_sorted nat_cmp_total ids;
  ids = λ ids id. member_rising id ids;
  names_rise = λ names. rising_sorted nat_list_cmp_total names;
  names = λ names name. name_rising name names;
  inventories = λ pairs. map_holds pairs;
  amounts = λ pairs. map_holds pairs;
}
