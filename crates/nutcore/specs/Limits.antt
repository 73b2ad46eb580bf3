-- The limits, and the numbers of refused events.
use Rattle.std.specs.Prelude.{ℕ, ◌≡◌, Option, Some, None, nat_le, ◌&&◌, if◌then◌else◌}
use Rattle.nutcore.specs.declared.event.Fault.{Fault}
use Rattle.nutcore.specs.declared.event.Fault.TheVariants as faults
use Rattle.nutcore.specs.declared.TheConstants.{HELD_LIMIT, DRIVER_OWED_LIMIT}
use Rattle.nutlisting.specs.declared.outbox.TheConstants.{OWED_LIMIT}
use Rattle.nutlisting.specs.declared.outbox.TheConstants.{QUEUE_LIMIT}
use Rattle.nutusers.specs.declared.limits.TheConstants.{SESSION_LIMIT}
use Rattle.nutcore.specs.declared.max_age.TheConstants.{MAX_AGE_LEAST, MAX_AGE_MOST}
use Rattle.nutcore.specs.declared.max_age.TheConstants.{MAX_AGE_DEFAULT}
use Rattle.nutcore.specs.declared.note.TheConstants.{NOTE_LIMIT}

-- The greatest age of what a driver reported is from 3 to 86,400 seconds (`MAXAGE` of
-- upsd.conf(5)).
abbrev pub read_max_age : ℕ → Option ℕ
read_max_age seconds =
    if nat_le MAX_AGE_LEAST seconds && nat_le seconds MAX_AGE_MOST then Some seconds else None

-- A refusal's number: 1 no such UPS, 2 no such client, 3 too many clients, 4 more taken than
-- offered, 5 not connected, 6 connected already, 7 a line too long, 8 no memory, 9 an id that
-- is known, 10 too many ids.
abbrev pub number_of_fault : Fault → ℕ
number_of_fault faults.NoSuchUps = 1
number_of_fault faults.NoSuchClient = 2
number_of_fault faults.TooManyClients = 3
number_of_fault faults.TookTooMuch = 4
number_of_fault faults.NotConnected = 5
number_of_fault faults.AlreadyConnected = 6
number_of_fault faults.LineTooLong = 7
number_of_fault (faults.Memory k) = 8
number_of_fault faults.KnownId = 9
number_of_fault faults.TooManyIds = 10

pub record Limits : Type 0 where
  pub held : HELD_LIMIT ≡ 2048
  pub owed : OWED_LIMIT ≡ 4096
  pub offered : QUEUE_LIMIT ≡ 8192
  pub sessions : SESSION_LIMIT ≡ 64
  pub driver_owed : DRIVER_OWED_LIMIT ≡ 2048
  pub notes : NOTE_LIMIT ≡ 2048
  pub max_age_least : MAX_AGE_LEAST ≡ 3
  pub max_age_most : MAX_AGE_MOST ≡ 86400
  pub max_age_default : MAX_AGE_DEFAULT ≡ 15
