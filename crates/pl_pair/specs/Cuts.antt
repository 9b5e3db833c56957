-- Why the feeder goes no further.
use Rattle.pl_input.specs.declared.halt.Halt.{Halt}
use Rattle.pl_input.specs.declared.halt.Halt.TheVariants as halt
use Rattle.pl_io.specs.declared.errors.LineFault.{LineFault}
use Rattle.pl_io.specs.declared.errors.LineFault.TheVariants as fault
use Rattle.pl_pair.specs.declared.cut.Cut.{Cut}
use Rattle.pl_pair.specs.declared.cut.Cut.TheVariants as cut

abbrev pub cut_of : Halt → Cut
cut_of halt.Read = cut.Read
cut_of halt.Write = cut.Write
cut_of halt.Limit = cut.Limit
cut_of halt.Full = cut.Full
cut_of halt.Memory = cut.Memory

-- a fault of the source, a line or an input that is too long, want of memory
abbrev pub cut_by : LineFault → Cut
cut_by fault.Read = cut.Read
cut_by (fault.Long n) = cut.Limit
cut_by fault.Total = cut.Limit
cut_by fault.Memory = cut.Memory
