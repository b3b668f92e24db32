use Rattle.std.proofs.Common.{◌≡◌, ◌+◌, ◌-◌, ◌*◌, ◌/◌, ◌≤◌, length, drop, map, min, max}
use Rattle.std.specs.Prelude.{vec_len, vec_capacity}
use Rattle.std.specs.List.{All}
use Rattle.mrt_frame.proofs.Items.{still}
use Rattle.mrt_body.specs.Listed.{AreNumbered, IsListed, read_listed}
use Rattle.mrt_body.specs.Many.{many}
use Rattle.mrt_body.specs.RibRecords.{read_entry_at}
use Rattle.mrt_body.proofs.Behind.{Behind}
use Rattle.bgp_update.proofs.Readings.{push}
use Rattle.mrt_body.proofs.rib.list_entries.Given as goal

abbrev pub invariant-loop-index : goal.invariant-loop-index
invariant-loop-index l = record {
  left : Behind l.body l.rest;
  says : still push (map (read_listed l.body) l.list.items) (many (read_entry_at l.add_path l.peers) (l.count - l.index) l.rest) ≡ many (read_entry_at l.add_path l.peers) l.count (drop l.start l.body);
  within : All (IsListed l.peers (length l.body)) l.list.items;
  numbered : AreNumbered 1 l.list.items;
  listed : vec_len l.list ≡ l.index;
  bytes : length l.rest + 8 * l.index ≤ length l.body - l.start;
  room : min l.count ((length l.body - l.start) / 8) ≤ vec_capacity l.list;
  capacity : vec_capacity l.list ≤ max (vec_capacity l.fn.list) (length l.body / 8);
}
