use Rattle.report_laws.proofs.PlainTexts.{addr_stands, churn_stands, faults_stand, history_stands, member_stands, no_escape_is_value, origins_stand, peers_stand, prefix_stands, row_stands, seen_stands, visibility_stands}
use Rattle.report_laws.proofs.laws.texts_need_no_escape.Goals as goal

pub returns : goal.returns
returns c = record {
  routes = row_stands;
  history = history_stands;
  visibility = visibility_stands;
  origins = origins_stand;
  seen = seen_stands;
  churn = churn_stands;
  peers = peers_stand;
  faults = faults_stand;
  addresses = addr_stands;
  prefixes = prefix_stands;
  members = member_stands;
  whole = no_escape_is_value;
}
