-- What a line says of an order, and that its number, as it is reported, is one that an order may be
-- done with.
use Rattle.std.proofs.Common.{◌≡◌, arith, refl}
use Rattle.std.specs.Prelude.{Result, Ok, Err, IfOk}
use Rattle.nutdriver.specs.declared.fault.DriverFault.{DriverFault}
use Rattle.nutdriver.specs.declared.line.DriverLine.{DriverLine}
use Rattle.nutdriver.specs.declared.report.Report.{Report}
use Rattle.nutdriver.specs.declared.report.LineOutcome.{LineOutcome}
use Rattle.nutdriver.specs.DriverLine.{read_driver_line}
use Rattle.nutdriver.specs.DriverStep.{driver_step}
use Rattle.nutdriver.specs.Report.{end_read, reported_end, after_step, after_reading}
use Rattle.nutdriver.specs.Report.{HasLawfulNumber, ReportedNumbersAreLawful}
use Rattle.nutdriver.specs.Sound.{IsLawfulLine, ReadLinesAreLawful}

-- what is reported of an order is what the line says of it
step_reported : (at : Report) (line : DriverLine) →
    reported_end (after_step at (driver_step at.tree line)).1 ≡ end_read (Ok line)
step_reported at line = grind arith

pub reading_reported : (at : Report) (r : Result DriverLine DriverFault) →
    reported_end (after_reading at r).1 ≡ end_read r
reading_reported at (Ok line) = step_reported at line
reading_reported at (Err fault) = refl

-- a lawful number is reported, where the line is lawful
lawful_reported : (outcome : LineOutcome) (r : Result DriverLine DriverFault) →
    reported_end outcome ≡ end_read r → IfOk r IsLawfulLine → HasLawfulNumber outcome
lawful_reported outcome r e lawful = grind arith

pub numbers_lawful : ReadLinesAreLawful → ReportedNumbersAreLawful
numbers_lawful lawful moment report line =
    lawful_reported _ (read_driver_line line)
    (reading_reported (record report { heard = moment }) (read_driver_line line)) (lawful line)
