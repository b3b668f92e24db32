use Rattle.std.proofs.Common.{◌++◌, List, subst}
use Rattle.bgp_update.specs.Decoded.{plain_update}
use Rattle.adj_rib.specs.Noting.{Takes}
use Rattle.adj_rib.specs.Steps.{Step, withdrawals, announcements, reachings}
use Rattle.adj_rib.proofs.NotingLaws.{takes_both}
use Rattle.adj_rib.proofs.UpdateSteps.{reached_by}
use Rattle.adj_rib.proofs.counted_table.CountedTable.apply_update.Goals as goal

pub returns : goal.returns
returns g c =
    let update = c.args.update.now in
    let u = plain_update update in
    let keep = g.N.Notes.keep in
    let selects = g.C.Chooses.is_chosen c.args.chosen.now in
    let both = takes_both keep selects (withdrawals u) (announcements u) _ _ _ c.in_ok-withdraw_update.ensures c.in_ok-announce_chosen.ensures in
    let by = reached_by update.route.route update.reached_route c.in-Some.route update.reached.now c.in-Some.is (update.by_hop c.in-Some.route c.in-Some.is) in
    let reached = subst (λ (steps : List Step). Takes keep selects steps ((c.announce_chosen.new.self, c.announce_chosen.new.churn), g.N.Notes.kept c.announce_chosen.new.notes) ((c.announce_chosen-2.new.self, c.announce_chosen-2.new.churn), g.N.Notes.kept c.announce_chosen-2.new.notes)) by c.in_ok-announce_chosen-2.ensures in
    takes_both keep selects (withdrawals u ++ announcements u) (reachings u) _ _ _ both reached
