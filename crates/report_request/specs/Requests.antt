-- Requests with an address of either family.
use Rattle.std.specs.Prelude.{ℕ}
use Rattle.report_request.specs.declared.request.Request.{Request as RequestOf}
use Rattle.report_request.specs.declared.request.Request.TheVariants.{Tables, Visibility, Origins, Seen, Churn, Peers, Match, Faults, History}
use Rattle.report_request.specs.Plain.{Request}

-- the request with the address's 128 bits
abbrev pub request_of : {A : Type 0} → (A → ℕ) → RequestOf A → Request
request_of bits Tables = Tables
request_of bits Visibility = Visibility
request_of bits Origins = Origins
request_of bits Seen = Seen
request_of bits (Churn since) = Churn since
request_of bits Peers = Peers
request_of bits (Match addr) = Match (bits addr)
request_of bits Faults = Faults
request_of bits (History since same) = History since same
