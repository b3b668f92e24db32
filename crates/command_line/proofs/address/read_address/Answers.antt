use Rattle.std.proofs.Common.{subst, IfNone}
use Rattle.command_line.specs.Addresses.{IsNoAddress}
use Rattle.command_line.proofs.address.read_address.Goals as goal

pub returns-clause-none : goal.returns-clause-none
returns-clause-none c = subst (λ text. IfNone c.address_in.result (IsNoAddress text)) c.as_bytes.ensures.value c.address_in.ensures.none
