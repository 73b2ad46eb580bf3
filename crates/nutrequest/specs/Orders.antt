-- Whether the line of an order stands whole in what a server was sent.
use Rattle.std.specs.Prelude.{◌≡◌, ℕ, Bool, true, false, List, [], ◌∷◌, ◌++◌, ◌&&◌, ◌||◌, length}
use Rattle.std.specs.Prelude.{drop, eqb, Option, Result, Ok, Err}
use Rattle.std.specs.List.{starts_with}
use Rattle.std.specs.Io.KnownBytes.{Appends}
use Rattle.nutio.specs.Ends.{counted, Written}
use Rattle.nutrequest.specs.Request.{request_line}
use Rattle.nutrequest.specs.declared.faults.ClientFault.{ClientFault}
use Rattle.nutrequest.specs.declared.request.Request.{Request}
use Rattle.nutrequest.specs.declared.request.Request.TheVariants.{SetVar, Instcmd}
use Rattle.nutrequest.specs.declared.request.Request.TheVariants.{TrackedSetVar, TrackedInstcmd}

-- That a variable be set, or a command be done.
abbrev pub is_order : Request → Bool
is_order (SetVar ups name value) = true
is_order (Instcmd ups name value) = true
is_order (TrackedSetVar ups name value) = true
is_order (TrackedInstcmd ups name value) = true
is_order _ = false

-- The lines of these requests being sent in turn, that of an order stands whole in these bytes.
abbrev pub has_order_in : List Request → List ℕ → Bool
has_order_in [] sent = false
has_order_in (request ∷ requests) sent =
    starts_with eqb sent (request_line request)
    && (is_order request || has_order_in requests (drop (length (request_line request)) sent))

-- These bytes are the line, or only a beginning of it.
abbrev pub IsSentOf : List ℕ → List ℕ → Bool → Type 0
IsSentOf line front true = front ≡ line
IsSentOf line front false = (next : ℕ) × (rest : List ℕ) × (line ≡ front ++ next ∷ rest)

-- Only a beginning of the line was taken, and then a write failed.
pub record CutShort {W : Type 0} (contents : W → Option (List ℕ)) (failures : W → ℕ) (writer : W)
    (line : List ℕ) (after : W) : Type 0 where
  pub front : List ℕ
  pub begins : IsSentOf line front false
  pub bytes_written : Appends (contents writer) (contents after) front
  pub failed : failures after ≡ counted (failures writer)

-- All of the line was taken; or only a beginning, and then a write failed.
abbrev pub SendLineGives : {W : Type 0} → (W → Option (List ℕ)) → (W → ℕ) → List ℕ → W → Bool → W
    → Type 0
SendLineGives contents failures line writer true after =
    Written contents failures writer line after
SendLineGives contents failures line writer false after =
    CutShort contents failures writer line after

-- Whether an order was sent, after a request more: where it isn't granted, its line may have been
-- sent whole or not.
abbrev pub NotesOrder : {W A : Type 0} → (W → Option (List ℕ)) → Request → W → W → Bool
    → Result A ClientFault → Bool → Type 0
NotesOrder contents request writer sent before (Ok items) now =
    now ≡ (before || is_order request)
NotesOrder contents request writer sent before (Err fault) now = (whole : Bool) × (front : List ℕ)
    × IsSentOf (request_line request) front whole
    × Appends (contents writer) (contents sent) front
    × (now ≡ (before || (whole && is_order request)))
