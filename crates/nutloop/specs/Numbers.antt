-- The numbers of the loop.
use Rattle.std.specs.Prelude.{◌≡◌, ◌+◌, ◌-◌, ◌^◌, ℕ}
use Rattle.nutloop.specs.declared.ids.TheConstants.{ID_SIZE}
use Rattle.nutloop.specs.declared.over_mio.TheConstants.{READ_PER_LOOK}
use Rattle.nutloop.specs.declared.over_mio.closing.TheConstants.{CLOSING_LIMIT, CLOSING_TICKS}
use Rattle.nutloop.specs.declared.over_mio.door.TheConstants.{DOOR_LIMIT}
use Rattle.nutloop.specs.declared.over_mio.places.TheConstants.{GIVES_WAY_AFTER}
use Rattle.nutloop.specs.declared.over_mio.pass.TheConstants.{STOPS, TURNS_PER_LOOK}
use Rattle.nutloop.specs.declared.serving.TheConstants.{TURN_LIMIT}
use Rattle.nutcore.specs.declared.TheConstants.{DRIVER_READ_LIMIT}
use Rattle.nutloop.specs.declared.fault.LoopFault.{LoopFault}
use Rattle.nutloop.specs.declared.fault.LoopFault.TheVariants.{Ready, Accept}

abbrev pub number_of : LoopFault → ℕ
number_of Ready = 1
number_of Accept = 2

pub record Numbers : Type 0 where
  pub driver_read : DRIVER_READ_LIMIT ≡ 512
  pub id : ID_SIZE ≡ 16
  pub turns_per_look : TURNS_PER_LOOK ≡ 16
  pub read_per_look : READ_PER_LOOK ≡ 256
  pub turns_between_looks : TURNS_PER_LOOK + STOPS ≡ 209
  pub closing : CLOSING_LIMIT ≡ 64
  pub closing_ticks : CLOSING_TICKS ≡ 2
  pub gives_way_after : GIVES_WAY_AFTER ≡ 60
  pub doors : DOOR_LIMIT ≡ 8
  pub turns : TURN_LIMIT ≡ 2 ^ 64 - 1
