-- The laws of this crate that a proof in a crate above may cite: each is what a function of
-- src/laws.rt ensures.
use Rattle.std.proofs.Common.{ℕ, List, Option}
use Rattle.nutreplay.specs.Recorded.{ARecordIsOfItsEvents}
use Rattle.nutreplay.proofs.Recording.{of_its_events}

pub a_record_is_of_its_events : {W : Type 0} (contents : W → Option (List ℕ))
    (failures : W → ℕ) → ARecordIsOfItsEvents contents failures
a_record_is_of_its_events contents failures = of_its_events contents failures
