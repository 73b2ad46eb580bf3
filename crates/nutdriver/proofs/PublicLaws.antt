-- The laws of this crate that a proof in a crate above may cite: each is what a function of
-- src/laws.rt ensures.
use Rattle.nutdriver.specs.DriverLine.{read_driver_line}
use Rattle.nutdriver.specs.Report.{WhatIsReportedOfAnOrderIsRead}
use Rattle.nutdriver.proofs.ReportedNumbers.{reading_reported}

-- what_is_reported_of_an_order_is_read
pub what_is_reported_of_an_order_is_read : WhatIsReportedOfAnOrderIsRead
what_is_reported_of_an_order_is_read =
    λ moment report line. reading_reported (record report { heard = moment }) (read_driver_line line)
