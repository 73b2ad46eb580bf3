-- The laws of this crate that a proof in a crate above may cite: each is what a function of
-- src/laws.rt ensures.
use Rattle.nutcommand.specs.Command.{WhatIsReadIsLawful}
use Rattle.nutcommand.proofs.Commands as commands

-- what_is_read_is_lawful
pub what_is_read_is_lawful : WhatIsReadIsLawful
what_is_read_is_lawful = commands.reading_is_lawful
