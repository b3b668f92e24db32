-- What payloads mean (RFC 4271, 4.1 to 4.3).
use Rattle.std.specs.Prelude.{⊤, ◌≡◌, ◌≢◌, ℕ, ◌+◌, ◌^◌, ◌<◌, Bool, slice_index, List, ◌∷◌, ◌++◌, length, take, drop, replicate, Result, Ok, Err, nat_lt, ◌==◌, if◌then◌else◌}
use Rattle.std.specs.List.{list_all}
use Rattle.byteorder.specs.Endian.{big_number, big_bytes}
use Rattle.bgp_prefix.specs.Keys.{RouteKey}
use Rattle.mrt_frame.specs.declared.fault.Fault.{Fault}
use Rattle.mrt_frame.specs.declared.fault.Fault.TheVariants.{BadMarker, BadLength}
use Rattle.mrt_frame.specs.Fields.{◌>>=◌}
use Rattle.bgp_update.specs.Families.{RouteRules, route_rules}
use Rattle.bgp_update.specs.declared.width.Width.{Width}
use Rattle.bgp_update.specs.Attributes.{ReadsAsRoute, route_in}
use Rattle.bgp_update.specs.Updates.{ReadsAsUpdate, Update, update_in}
use Rattle.bgp_update.specs.Handling.{handled_entry, handled_update, taken_update}
use Rattle.bgp_update.specs.declared.error_rule.ErrorRule.{ErrorRule}
use Rattle.bgp_update.specs.declared.route.Route.{Route}
use Rattle.bgp_update.specs.Packing.{IsWritable}
use Rattle.peer_units.specs.Plain.{Payload}
use Rattle.peer_units.specs.declared.unit.Payload.TheVariants.{State, Message, Entry, Clear}
use Rattle.peer_units.specs.Plain.{Event}
use Rattle.peer_units.specs.declared.meaning.Event.TheVariants as event

-- marker of 16 bytes FF, length 2 that counts the header, type 1
abbrev pub marker : List ℕ
marker = replicate 16 255

abbrev pub message_header_len : ℕ
message_header_len = 19

-- the message of a type with this body
abbrev pub message_bytes : ℕ → List ℕ → List ℕ
message_bytes kind body = marker ++ (big_bytes 2 (message_header_len + length body) ++ (kind ∷ body))

-- the type of an UPDATE
abbrev pub UPDATE : ℕ
UPDATE = 2

-- A message is an UPDATE with its reading, taken by the rule on damage, or damaged, with what is done by it, or of
-- another type, which isn't read.
abbrev pub IsMessageEvent : ErrorRule → RouteRules → Width → Bool → List ℕ → Event → Type 0
IsMessageEvent errors rules width add_path bytes (event.Change update) =
    (body : List ℕ)
    × (bytes ≡ message_bytes UPDATE body)
    × (message_header_len + length body < 256 ^ 2)
    × (read : Update)
    × ReadsAsUpdate rules width add_path body read
    × (update ≡ taken_update errors read)
IsMessageEvent errors rules width add_path bytes (event.Handled fault update) =
    (body : List ℕ)
    × (bytes ≡ message_bytes UPDATE body)
    × (message_header_len + length body < 256 ^ 2)
    × (update_in rules width add_path body ≡ Err fault)
    × (handled_update errors rules width add_path body ≡ Ok update)
IsMessageEvent errors rules width add_path bytes event.Other =
    (kind : ℕ)
    × (body : List ℕ)
    × (kind ≢ UPDATE)
    × (bytes ≡ message_bytes kind body)
    × (message_header_len + length body < 256 ^ 2)
IsMessageEvent errors rules width add_path bytes (event.State old new rule) = ⊥
IsMessageEvent errors rules width add_path bytes (event.Rib key route) = ⊥
IsMessageEvent errors rules width add_path bytes event.Clear = ⊥

-- a RIB entry's attributes are read with AS numbers of this width (RFC 6396, 4.2 and 4.3.4), or are damaged
abbrev pub IsEntryEvent : ErrorRule → RouteRules → Width → RouteKey → List ℕ → Event → Type 0
IsEntryEvent errors rules width key attrs (event.Rib other route) = (other ≡ key) × ReadsAsRoute rules width attrs route
IsEntryEvent errors rules width key attrs (event.Handled fault update) =
    (route_in rules width attrs ≡ Err fault) × (handled_entry errors rules width key attrs ≡ Ok update)
IsEntryEvent errors rules width key attrs (event.Change update) = ⊥
IsEntryEvent errors rules width key attrs (event.State old new rule) = ⊥
IsEntryEvent errors rules width key attrs event.Other = ⊥
IsEntryEvent errors rules width key attrs event.Clear = ⊥

-- the event of a payload, by the rules that it has
abbrev pub IsEvent : Payload → Event → Type 0
IsEvent (State from to rule) e = e ≡ event.State from to rule
IsEvent (Message bytes width add_path rules) e = IsMessageEvent rules.errors (route_rules rules) width add_path bytes e
IsEvent (Entry rules key attrs) e = IsEntryEvent rules.errors (route_rules rules) rules.entry_width key attrs e
IsEvent Clear e = e ≡ event.Clear

-- the path of the event's route, if it has one, can be written with four-octet AS numbers
abbrev pub IsWritableEvent : Event → Type 0
IsWritableEvent (event.Change update) = IsWritable update.route.path
IsWritableEvent (event.Rib key route) = IsWritable route.path
IsWritableEvent (event.State old new rule) = ⊤
IsWritableEvent event.Other = ⊤
IsWritableEvent event.Clear = ⊤
IsWritableEvent (event.Handled fault update) = IsWritable update.route.path

-- ---- reading, with the first fault

-- the header passes: its type and the body
unfoldable pub message_in : List ℕ → Result (ℕ × List ℕ) Fault
message_in bytes =
    if nat_lt (length bytes) message_header_len then Err BadLength else
    (if list_all (λ b. b == 255) (take 16 bytes) then
    (if big_number 2 (drop 16 bytes) == length bytes then Ok (slice_index bytes 18, drop 19 bytes) else Err BadLength)
    else Err BadMarker)

-- a fault beside what is done about it, if anything is
abbrev pub damaged_event : Fault → Result Update Fault → Result Event Fault
damaged_event fault (Ok update) = Ok (event.Handled fault update)
damaged_event fault (Err other) = Err fault

-- an UPDATE, taken by the rule, or what is done by it about damage
abbrev pub update_event : ErrorRule → Result Update Fault → Result Update Fault → Result Event Fault
update_event errors (Ok update) handled = Ok (event.Change (taken_update errors update))
update_event errors (Err fault) handled = damaged_event fault handled

unfoldable pub message_event_in : ErrorRule → RouteRules → Width → Bool → List ℕ → Result Event Fault
message_event_in errors rules width add_path bytes = message_in bytes >>= λ m.
    if m.0 == UPDATE
    then update_event errors (update_in rules width add_path m.1) (handled_update errors rules width add_path m.1)
    else Ok event.Other

abbrev pub entry_event : RouteKey → Result Route Fault → Result Update Fault → Result Event Fault
entry_event key (Ok route) handled = Ok (event.Rib key route)
entry_event key (Err fault) handled = damaged_event fault handled

abbrev pub entry_event_in : ErrorRule → RouteRules → Width → RouteKey → List ℕ → Result Event Fault
entry_event_in errors rules width key attrs =
    entry_event key (route_in rules width attrs) (handled_entry errors rules width key attrs)

unfoldable pub event_in : Payload → Result Event Fault
event_in (State from to rule) = Ok (event.State from to rule)
event_in (Message bytes width add_path rules) = message_event_in rules.errors (route_rules rules) width add_path bytes
event_in (Entry rules key attrs) = entry_event_in rules.errors (route_rules rules) rules.entry_width key attrs
event_in Clear = Ok event.Clear
