-- The numbers by which C knows what became of a call (own).
use Rattle.std.specs.Prelude.{ℤ, Result, Ok, Err, pos}
use Rattle.wl_c.specs.declared.fault.Fault.{Fault}
use Rattle.wl_c.specs.declared.fault.Fault.TheVariants.{Memory, Spent, NoBooks, Null, TooLong, LineFeed}

abbrev pub fault_code : Fault → ℤ
fault_code Memory = pos 1
fault_code Spent = pos 2
fault_code NoBooks = pos 3
fault_code Null = pos 4
fault_code TooLong = pos 5
fault_code LineFeed = pos 6

-- 0 where the call did what it is for
abbrev pub code_of : Result (Unit {0}) Fault → ℤ
code_of (Ok done) = pos 0
code_of (Err fault) = fault_code fault
