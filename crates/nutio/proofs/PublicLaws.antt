-- The laws of this crate that a proof in a crate above may cite: each is what a function of
-- src/laws.rt ensures.
use Rattle.std.proofs.Common.{ℕ, List, [], ◌++◌, Option, Some, None, refl, sym, ap, ◌∙◌}
use Rattle.std.proofs.Common.{append_assoc, append-nil}
use Rattle.std.specs.Io.KnownBytes.{Consumes, Appends}
use Rattle.nutio.specs.Ends.{counted}
use Rattle.nutio.specs.Joining.{NothingIsReceived, ReceivedJoins, ReadFailedJoins, NothingIsWritten}
use Rattle.nutio.specs.Joining.{WrittenJoins, WriteFailedJoins}

consumes_nothing : (a : Option (List ℕ)) → Consumes a a []
consumes_nothing None = tt
consumes_nothing (Some xs) = refl

consumes_joins : (a b c : Option (List ℕ)) (x y : List ℕ) → Consumes a b x →
    Consumes b c y → Consumes a c (x ++ y)
consumes_joins None b c x y h k = tt
consumes_joins (Some xs) None c x y h k = absurd h
consumes_joins (Some xs) (Some ys) None x y h k = absurd k
consumes_joins (Some xs) (Some ys) (Some zs) x y h k = h ∙ ap (λ t. x ++ t) k ∙ sym (append_assoc x y zs)

appends_nothing : (a : Option (List ℕ)) → Appends a a []
appends_nothing None = tt
appends_nothing (Some xs) = sym (append-nil xs)

appends_joins : (a b c : Option (List ℕ)) (x y : List ℕ) → Appends a b x → Appends b c y →
    Appends a c (x ++ y)
appends_joins None b c x y h k = tt
appends_joins (Some xs) None c x y h k = absurd h
appends_joins (Some xs) (Some ys) None x y h k = absurd k
appends_joins (Some xs) (Some ys) (Some zs) x y h k = k ∙ ap (λ t. t ++ y) h ∙ append_assoc xs x y

-- reads_are_joined
pub nothing_is_received : {R : Type 0} (remaining : R → Option (List ℕ)) (failures : R → ℕ)
    → NothingIsReceived remaining failures
nothing_is_received remaining failures = λ reader. record { bytes = consumes_nothing (remaining reader); well = refl }

pub received_joins : {R : Type 0} (remaining : R → Option (List ℕ)) (failures : R → ℕ) →
    ReceivedJoins remaining failures
received_joins remaining failures = λ reader middle after front back h k. record {
  bytes = consumes_joins (remaining reader) (remaining middle) (remaining after) front back h.bytes k.bytes;
  well = k.well ∙ h.well;
}

pub read_failed_joins : {R : Type 0} (remaining : R → Option (List ℕ)) (failures : R → ℕ)
    → ReadFailedJoins remaining failures
read_failed_joins remaining failures = λ reader middle after front back h k. record {
  bytes = consumes_joins (remaining reader) (remaining middle) (remaining after) front back h.bytes k.bytes;
  failed = k.failed ∙ ap counted h.well;
}

-- writes_are_joined
pub nothing_is_written : {W : Type 0} (contents : W → Option (List ℕ)) (failures : W → ℕ)
    → NothingIsWritten contents failures
nothing_is_written contents failures =
    λ writer. record { bytes_written = appends_nothing (contents writer); well = refl }

pub written_joins : {W : Type 0} (contents : W → Option (List ℕ)) (failures : W → ℕ) →
    WrittenJoins contents failures
written_joins contents failures = λ writer middle after front back h k. record {
  bytes_written = appends_joins (contents writer) (contents middle) (contents after) front back
      h.bytes_written k.bytes_written;
  well = k.well ∙ h.well;
}

pub write_failed_joins : {W : Type 0} (contents : W → Option (List ℕ)) (failures : W → ℕ)
    → WriteFailedJoins contents failures
write_failed_joins contents failures = λ writer middle after front back h k. record {
  front = front ++ k.front;
  begins = (k.begins.0, ap (λ t. front ++ t) k.begins.1 ∙ sym (append_assoc front k.front k.begins.0));
  bytes_written = appends_joins (contents writer) (contents middle) (contents after) front k.front
      h.bytes_written k.bytes_written;
  failed = k.failed ∙ ap counted h.well;
}
