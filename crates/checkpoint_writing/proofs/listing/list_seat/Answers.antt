use Rattle.std.proofs.Common.{◌≡◌, ◌++◌, List, T, sym, ap, subst, ◌∙◌}
use Rattle.std.specs.List.{flat_map}
use Rattle.std.specs.FinMap.{is_sorted, entries_sorted}
use Rattle.bgp_prefix.specs.Keys.{RouteKey, key_cmp}
use Rattle.peer_units.specs.declared.unit.PeerKey.{PeerKey}
use Rattle.checkpoint_writing.specs.Merging.{Entries}
use Rattle.checkpoint_writing.specs.Leaving.{kept_entry, left_entry}
use Rattle.checkpoint_writing.proofs.LeavingLaws.{kept_flat, left_flat, kept_sorted}
use Rattle.checkpoint_writing.proofs.listing.list_seat.Goals as goal

pub returns-clause-entries : goal.returns-clause-entries
returns-clause-entries g c =
    let family = g.F.Unicast.family in
    let listed : c.as_slice.result.now ≡ c.args.seat.now.session.table = c.as_slice.ensures.value ∙ c.in_ok-listed.ensures ∙ c.table.ensures in
    c.in_ok-sort_routes.ensures.entries
    ∙ ap (λ (l : Entries). l ++ flat_map (kept_entry family) c.as_slice.result.now) c.new-entries.ensures.items
    ∙ ap (flat_map (kept_entry family)) listed
    ∙ kept_flat family c.args.seat.now.session.table

pub returns-clause-left : goal.returns-clause-left
returns-clause-left g c =
    let family = g.F.Unicast.family in
    let key = c.args.seat.now.key in
    let listed : c.as_slice.result.now ≡ c.args.seat.now.session.table = c.as_slice.ensures.value ∙ c.in_ok-listed.ensures ∙ c.table.ensures in
    c.in_ok-sort_routes.ensures.left
    ∙ ap (λ (es : Entries). c.args.left.now.items ++ flat_map (left_entry family key) es) listed
    ∙ ap (λ (ls : List (PeerKey × RouteKey)). c.args.left.now.items ++ ls) (left_flat family key c.args.seat.now.session.table)

pub returns-clause-sorted : goal.returns-clause-sorted
returns-clause-sorted g c =
    let family = g.F.Unicast.family in
    let listed : c.as_slice.result.now ≡ c.args.seat.now.session.table = c.as_slice.ensures.value ∙ c.in_ok-listed.ensures ∙ c.table.ensures in
    let whole =
    c.in_ok-sort_routes.ensures.entries
    ∙ ap (λ (l : Entries). l ++ flat_map (kept_entry family) c.as_slice.result.now) c.new-entries.ensures.items
    ∙ ap (flat_map (kept_entry family)) listed
    ∙ kept_flat family c.args.seat.now.session.table in
    subst (λ (es : Entries). T (is_sorted key_cmp es)) (sym whole) (kept_sorted family c.args.seat.now.session.table (subst (λ (es : Entries). T (is_sorted key_cmp es)) c.table.ensures (entries_sorted c.table.result.now)))
