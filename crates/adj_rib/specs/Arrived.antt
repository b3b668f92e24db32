-- How many units came, and where the first one stands.
use Rattle.std.specs.Prelude.{◌+◌, List, length, Some, None, unwrap_or, if◌then◌else◌}
use Rattle.std.specs.List.{filter_map}
use Rattle.peer_units.specs.Plain.{Unit as ReplayUnit}
use Rattle.peer_units.specs.declared.unit.Place.{Place}
use Rattle.adj_rib.specs.declared.arrivals.Arrivals.{Arrivals}
use Rattle.peer_units.specs.Payloads.{is_recorded}
use Rattle.adj_rib.specs.Churns.{first_of, stopped}

-- where the recorded units stand
abbrev pub recorded_places : List ReplayUnit → List Place
recorded_places units =
    filter_map (λ (unit : ReplayUnit). if is_recorded unit.payload then Some unit.place else None) units

-- how many recorded units there are, up to the greatest count, and where the first one stands
unfoldable pub arrivals_of : List ReplayUnit → Arrivals
arrivals_of units = record {
  units = stopped (length (recorded_places units));
  first = first_of (recorded_places units);
}

-- before the first unit
abbrev pub no_arrivals : Arrivals
no_arrivals = record { units = 0; first = None }

-- after one more unit, at this place
unfoldable pub arrived : Place → Arrivals → Arrivals
arrived place a = record { units = stopped (a.units + 1); first = Some (unwrap_or a.first place) }

-- after one more unit, if it is recorded
abbrev pub arrived_by : ReplayUnit → Arrivals → Arrivals
arrived_by unit a = if is_recorded unit.payload then arrived unit.place a else a
