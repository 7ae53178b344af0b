-- The number of each fault in the register's table of refusals, and what is printed of a reader's.
use Rattle.std.specs.Prelude.{ℕ, List, codes}
use Rattle.envelope.specs.declared.fault.ReadFault.{ReadFault}
use Rattle.envelope.specs.declared.fault.ReadFault.TheVariants.{Malformed}
use Rattle.envelope.specs.declared.fault.WriteFault.{WriteFault}
use Rattle.envelope.specs.declared.fault.WriteFault.TheVariants.{ShortBuffer}

-- what a reader refuses
abbrev pub read_number : ReadFault → ℕ
read_number Malformed = 10

-- what a writer refuses
abbrev pub write_number : WriteFault → ℕ
write_number ShortBuffer = 8

-- a reader's fault in words
abbrev pub read_words : ReadFault → List ℕ
read_words Malformed = codes "malformed"
