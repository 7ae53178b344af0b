-- The number of each fault of giving a mark in the register's table of refusals.
use Rattle.std.specs.Prelude.{ℕ}
use Rattle.marks.specs.declared.fault.GiveFault.{GiveFault}
use Rattle.marks.specs.declared.fault.GiveFault.TheVariants.{ShortBuffer, Spent}

abbrev pub give_number : GiveFault → ℕ
give_number ShortBuffer = 8
give_number Spent = 16
