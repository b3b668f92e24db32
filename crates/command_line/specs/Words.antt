-- Why words give no job.
use Rattle.std.specs.Prelude.{string_bytes}
use Rattle.command_line.specs.declared.words.Usage.{Usage}
use Rattle.command_line.specs.declared.words.Usage.TheVariants.{Help, Words, Address, Memory}
use Rattle.command_line.specs.Families.{IsNoAddressIn}

-- a text is told as none for an address of a family only where it is none
abbrev pub IsRefusal : Usage → Type 0
IsRefusal (Help text) = Unit {0}
IsRefusal (Words text) = Unit {0}
IsRefusal (Address family text) = IsNoAddressIn family (string_bytes text)
IsRefusal Memory = Unit {0}
