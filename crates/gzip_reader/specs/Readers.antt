-- How a reader of gzip files ends.
use Rattle.std.specs.Prelude.{◌≡◌, ℕ, true, false, List, Option, None}
use Rattle.gzip_reader.specs.Ahead.{IsBeginning}
use Rattle.gzip_reader.specs.Bits.{waiting}
use Rattle.gzip_reader.specs.Members.{TrailerAgrees, owes_trailer}
use Rattle.gzip_reader.specs.Ends.{is_end, is_failure}
use Rattle.gzip_reader.specs.declared.decoder.Phase.TheVariants.{Trailer}
use Rattle.gzip_reader.specs.declared.fault.Fault.{Fault}
use Rattle.gzip_reader.specs.declared.gunzip.Gunzip.{Gunzip}
use Rattle.gzip_reader.specs.declared.inflater.Inflater.{Inflater}

-- what stopped it, if anything did
abbrev pub fault_of : {R : Type 0} → Gunzip R → Option Fault
fault_of g = g.fault

-- the device that it reads from
abbrev pub gunzip_source : {R : Type 0} → Gunzip R → R
gunzip_source g = g.source

-- a reader at the beginning, with these bytes before those of its device
pub record IsNew {R : Type 0} (g : Gunzip R) (from : R) (head : List ℕ) : Type 0 where
  pub source : g.source ≡ from
  pub bits : g.inflater.decoder.input.count ≡ 0
  pub bytes : waiting g.inflater.decoder.input ≡ head
  pub fault : g.fault ≡ None
  pub begun : g.is_over ≡ false
  pub failures : g.failures ≡ 0
  pub working : g.is_broken ≡ false
  pub begins : IsBeginning g.inflater

-- it told its end: that of the file after a member, or a fault that ends the data
pub record HasEnded {R : Type 0} (g : Gunzip R) : Type 0 where
  pub over : g.is_over ≡ true
  pub end : is_end g.fault g.inflater.phase ≡ true

-- it told its failure, by a fault that does not end the data
pub record HasFailed {R : Type 0} (g : Gunzip R) : Type 0 where
  pub over : g.is_over ≡ true
  pub failure : is_failure g.fault ≡ true

-- a step of the inflater leaves a member only by a trailer that agrees
abbrev pub ChecksMember : Inflater → Inflater → Type 0
ChecksMember old new = owes_trailer old.phase ≡ true → owes_trailer new.phase ≡ false → (old.phase ≡ Trailer) × TrailerAgrees old.decoder
