-- Shown peers, of reports on routes of either family.
use Rattle.bgp_update.specs.Families.{FamilyOf}
use Rattle.report_lines.specs.declared.field.ShownPeer.{ShownPeer as ShownPeerOf}

-- a peer, and the layout of its lines
abbrev pub ShownPeer : Type 0
ShownPeer = ShownPeerOf FamilyOf
