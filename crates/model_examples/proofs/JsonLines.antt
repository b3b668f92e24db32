-- Lines in JSON, by computation.
use Rattle.std.proofs.Common.{◌≡◌, ℕ, ◌*◌, ◌^◌, true, List, [], ◌∷◌, ◌++◌, Some, None, refl}
use Rattle.std.specs.Prelude.{codes}
use Rattle.std.specs.List.{flat_map}
use Rattle.std.specs.Fmt.{digits}
use Rattle.ip_text.specs.AddressTexts.{address_text}
use Rattle.ip_text.specs.declared.address_form.AddressForm.TheVariants.{Short}
use Rattle.mrt_frame.specs.declared.fault.Fault.TheVariants.{BadAttribute, ShortHeader}
use Rattle.bgp_update.specs.Families.{ipv4}
use Rattle.bgp_update.specs.KeptAttributes.{no_attributes}
use Rattle.bgp_update.specs.declared.next_hop.NextHop.TheVariants as next_hop
use Rattle.report_request.specs.Plain.{Layout}
use Rattle.report_request.specs.declared.format.Format.TheVariants.{Json}
use Rattle.rib_report.specs.Reports.{churn_rows, fault_rows, match_rows, origin_rows, peer_rows, seen_rows, visibility_rows}
use Rattle.rib_report.specs.Lines.{churn_line, fault_line, origin_line, peer_line, route_line, seen_line, visibility_line}
use Rattle.model_examples.proofs.Lines.{bare_route, end, greatest_route, key_of, last_peer, peer, tables}

abbrev json : Layout
json = record {
  format = Json;
  peer_addresses = Short;
  route_addresses = Short;
  family = ipv4;
  attributes = no_attributes;
}

-- every field absent
bare : route_line json (record { peer = peer; key = key_of 0 0 0; route = bare_route })
    ≡ codes "{\"peer_asn\":65000,\"peer_ip\":\"192.0.2.1\",\"prefix\":\"0.0.0.0/0\",\"path_id\":null,\"as_path\":null,\"origin_asns\":[],\"next_hop\":null,"
    ++ codes "\"origin\":null,\"med\":null,\"local_pref\":null,\"atomic\":false,\"aggr_asn\":null,\"aggr_ip\":null}" ++ end
unfolding digits address_text
bare = refl

-- an empty path, a path identifier, and one address
empty_path : route_line json (record { peer = peer; key = key_of 0x0a000000 8 1; route = record bare_route { path = Some []; next_hop = Some (next_hop.V6 0x20010db8000000000000000000000001) } })
    ≡ codes "{\"peer_asn\":65000,\"peer_ip\":\"192.0.2.1\",\"prefix\":\"10.0.0.0/8\",\"path_id\":1,\"as_path\":\"\",\"origin_asns\":[],\"next_hop\":\"2001:db8::1\","
    ++ codes "\"origin\":null,\"med\":null,\"local_pref\":null,\"atomic\":false,\"aggr_asn\":null,\"aggr_ip\":null}" ++ end
unfolding digits address_text
empty_path = refl

-- every field there, and two addresses
greatest : route_line json (record { peer = last_peer; key = key_of 0xffffffff 32 0xffffffff; route = greatest_route })
    ≡ codes "{\"peer_asn\":4294967295,\"peer_ip\":\"ffff:ffff:ffff:ffff:ffff:ffff:ffff:ffff\",\"prefix\":\"255.255.255.255/32\",\"path_id\":4294967295,"
    ++ codes "\"as_path\":\"(64512 1) [3,2] 4294967295 0 10 {70001,70000}\",\"origin_asns\":[],\"next_hop\":\"ffff:ffff:ffff:ffff:ffff:ffff:ffff:ffff fe80::\","
    ++ codes "\"origin\":\"INCOMPLETE\",\"med\":4294967295,\"local_pref\":4294967295,\"atomic\":true,\"aggr_asn\":4294967295,\"aggr_ip\":\"255.255.255.255\"}" ++ end
unfolding digits address_text
greatest = refl

matched : flat_map (route_line json) (match_rows tables 0)
    ≡ codes "{\"peer_asn\":65000,\"peer_ip\":\"192.0.2.1\",\"prefix\":\"0.0.0.0/0\",\"path_id\":null,\"as_path\":\"65000 65001\",\"origin_asns\":[65001],\"next_hop\":\"192.0.2.1\","
    ++ codes "\"origin\":\"IGP\",\"med\":null,\"local_pref\":null,\"atomic\":false,\"aggr_asn\":null,\"aggr_ip\":null}" ++ end
unfolding digits address_text
matched = refl

visible : flat_map (visibility_line json) (visibility_rows tables)
    ≡ codes "{\"prefix\":\"0.0.0.0/0\",\"peers\":1}" ++ end ++ codes "{\"prefix\":\"10.0.0.0/8\",\"peers\":2}" ++ end
    ++ codes "{\"prefix\":\"10.1.0.0/16\",\"peers\":1}" ++ end
unfolding digits address_text
visible = refl

several : flat_map (origin_line json) (origin_rows tables) ≡ codes "{\"prefix\":\"10.0.0.0/8\",\"origin_asns\":[65001,65002]}" ++ end
unfolding digits address_text
several = refl

seen : flat_map (seen_line json) (seen_rows tables)
    ≡ codes "{\"prefix\":\"0.0.0.0/0\",\"origin_asn\":65001,\"peers\":1}" ++ end
    ++ codes "{\"prefix\":\"10.0.0.0/8\",\"origin_asn\":65001,\"peers\":2}" ++ end
    ++ codes "{\"prefix\":\"10.0.0.0/8\",\"origin_asn\":65002,\"peers\":1}" ++ end
    ++ codes "{\"prefix\":\"10.1.0.0/16\",\"origin_asn\":null,\"peers\":1}" ++ end
unfolding digits address_text
seen = refl

counted : flat_map (churn_line json) (churn_rows tables)
    ≡ codes "{\"peer_asn\":65000,\"peer_ip\":\"192.0.2.1\",\"new\":1,\"changed\":2,\"same\":3,\"gone\":4,\"void\":5,\"resets\":6,\"idle\":7,\"refused\":8,\"first\":1.000000,\"last\":2.000050}" ++ end
    ++ codes "{\"peer_asn\":65000,\"peer_ip\":\"192.0.2.2\",\"new\":1,\"changed\":2,\"same\":3,\"gone\":4,\"void\":5,\"resets\":6,\"idle\":7,\"refused\":8,\"first\":1.000000,\"last\":2.000050}" ++ end
unfolding digits
counted = refl

peers_listed : flat_map (peer_line json) (peer_rows tables)
    ≡ codes "{\"peer_asn\":65000,\"peer_ip\":\"192.0.2.1\",\"state\":\"up\",\"routes\":3,\"units\":36,\"first\":1.000000,\"last\":2.000050,\"file\":1,\"offset\":12,\"entry\":3}" ++ end
    ++ codes "{\"peer_asn\":65000,\"peer_ip\":\"192.0.2.2\",\"state\":\"up\",\"routes\":2,\"units\":36,\"first\":1.000000,\"last\":2.000050,\"file\":1,\"offset\":12,\"entry\":3}" ++ end
unfolding digits
peers_listed = refl

listed : flat_map (fault_line json) (fault_rows tables)
    ≡ codes "{\"file\":1,\"offset\":56,\"entry\":2,\"number\":14,\"fault\":\"BadAttribute(1)\"}" ++ end
    ++ codes "{\"file\":1,\"offset\":56,\"entry\":2,\"number\":14,\"fault\":\"BadAttribute(1)\"}" ++ end
unfolding digits
listed = refl
