-- How the bytes of a file end.
use Rattle.std.specs.Prelude.{Bool, true, false, Option, None, Some, not, if◌then◌else◌}
use Rattle.bzip2_reader.specs.declared.fault.Cause.{Cause}
use Rattle.bzip2_reader.specs.declared.fault.Cause.TheVariants.{Device, EarlyEnd, Memory}
use Rattle.bzip2_reader.specs.declared.fault.Damage.{Damage}
use Rattle.bzip2_reader.specs.declared.phase.Phase.{Phase}
use Rattle.bzip2_reader.specs.declared.phase.Phase.TheVariants.{Open, Ended, Broken}

-- reading failed, and not the data
abbrev pub is_failure : Cause → Bool
is_failure Device = true
is_failure Memory = true
is_failure cause = false

-- the data end inside a stream
abbrev pub is_early : Cause → Bool
is_early EarlyEnd = true
is_early cause = false

-- the device failed
abbrev pub is_device : Cause → Bool
is_device Device = true
is_device cause = false

-- the damage is one that this phase can have
abbrev pub agrees : Phase → Option Damage → Bool
agrees Open None = true
agrees Open (Some damage) = false
agrees Ended None = true
agrees Ended (Some damage) = not (is_failure damage.cause)
agrees Broken None = false
agrees Broken (Some damage) = is_failure damage.cause

-- the phase after a damage
abbrev pub phase_of : Damage → Phase
phase_of damage = if is_failure damage.cause then Broken else Ended

-- the bytes end where the device's do: behind the last stream, or inside one
abbrev pub tells_end : Option Damage → Bool
tells_end None = true
tells_end (Some damage) = is_early damage.cause

-- the bytes end because the device failed
abbrev pub tells_device : Option Damage → Bool
tells_device None = false
tells_device (Some damage) = is_device damage.cause
