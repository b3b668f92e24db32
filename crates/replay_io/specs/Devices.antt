-- What the program's own readers give and its own writer holds.
use Rattle.std.specs.Prelude.{⊤, ℕ, List, Option, None}
use Rattle.packed_io.specs.Ahead.{reader_remaining}
use Rattle.packed_io.specs.Reading.{unpacked_remaining}
use Rattle.run_io.specs.Headers.{headed_contents}
use Rattle.replay_io.specs.declared.files.Access.{Access}
use Rattle.replay_io.specs.declared.files.Access.TheVariants.{Closed, Regular, Other, Standard, Left}
use Rattle.replay_io.specs.declared.input.Contents.{Contents}
use Rattle.replay_io.specs.declared.input.Contents.TheVariants.{Here, Ahead}
use Rattle.replay_io.specs.declared.input.Dump.{Dump}
use Rattle.replay_io.specs.declared.output.Report.{Report}

-- a file that is read from somewhere
abbrev pub IsOpen : Access → Type 0
IsOpen Closed = ⊥
IsOpen (Regular file) = ⊤
IsOpen (Other file) = ⊤
IsOpen (Standard input) = ⊤
IsOpen Left = ⊥

-- the bytes that a dump will give, where they are known, in whichever thread it is unpacked
abbrev pub contents_remaining : {D : Type 0} → (D → Option (List ℕ)) → Contents D → Option (List ℕ)
contents_remaining remaining (Here unpacked) = unpacked_remaining remaining unpacked
contents_remaining remaining (Ahead form reader) = reader_remaining remaining reader

-- other threads may unpack it
abbrev pub AreContentsAhead : {D : Type 0} → Contents D → Type 0
AreContentsAhead (Here unpacked) = ⊥
AreContentsAhead (Ahead form reader) = ⊤

abbrev pub dump_contents : {D : Type 0} → Dump D → Contents D
dump_contents dump = dump.contents

-- what is still to be read of a dump's device, with what was read of it and not yet given; of a packed one what is left
-- of that to which it unpacks
abbrev pub dump_remaining : {D : Type 0} → (D → Option (List ℕ)) → Dump D → Option (List ℕ)
dump_remaining remaining dump = contents_remaining remaining (dump_contents dump)

-- what the writer holds, and then what is left of the header
abbrev pub report_contents : {W : Type 0} → (W → Option (List ℕ)) → Report W → Option (List ℕ)
report_contents contents report = headed_contents contents report.out
