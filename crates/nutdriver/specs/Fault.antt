-- The numbers of a driver's faults.
use Rattle.std.specs.Prelude.{ℕ}
use Rattle.nutdriver.specs.declared.fault.DriverFault.{DriverFault}
use Rattle.nutdriver.specs.declared.fault.DriverFault.TheVariants as faults

-- 1 malformed line, 2 unknown first word, 3 no such variable, 4 no such item, 5 bad number, 6 bad
-- flag, 7 value too long, 8 full, 9 no memory.
abbrev pub number_of : DriverFault → ℕ
number_of faults.Malformed = 1
number_of faults.Unknown = 2
number_of faults.NoSuchVar = 3
number_of faults.NoSuchItem = 4
number_of faults.BadNumber = 5
number_of faults.BadFlag = 6
number_of faults.TooLong = 7
number_of faults.Full = 8
number_of faults.Memory = 9
