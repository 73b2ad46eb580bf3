-- How the program ends by what it meets.
use Rattle.std.specs.Prelude.{◌≡◌, ◌≢◌, ◌⊎◌, ◌++◌, ◌∷◌, [], ℕ, ℤ, Bool, List, Option, Some, Result, Ok}
use Rattle.std.specs.Prelude.{Err}
use Rattle.std.specs.Prelude.{codes, slice_get}
use Rattle.std.specs.Net.Text.{socket_text}
use Rattle.std.specs.declared.net.socket_addr.SocketAddr.{SocketAddr}
use denote.Ref.{Bor}
use Rattle.nutio.specs.Ends.{WriteFailed, Written}
use Rattle.nutwords.specs.Text.{lines_of}
use Rattle.nutusers.specs.File.{Format, IsRefused}
use Rattle.nutusers.specs.declared.fault.Cause.TheVariants as causes
use Rattle.nutusers.specs.declared.fault.ConfFault.{ConfFault}
use Rattle.upsd.specs.declared.ending.Ending.{Ending}
use Rattle.upsd.specs.Refused.{IsRemark, line_at}
use Rattle.upsd.specs.declared.refused.Remark.{Remark}
use Rattle.upsd.specs.declared.refused.Shape.{Shape}
use Rattle.upsd.specs.declared.task.Addresses.{Addresses}
use Rattle.upsd.specs.declared.ending.Ending.TheVariants as endings
use Rattle.upsd.specs.declared.ending.TheConstants.{DONE, FAULT, WORD_FAULT}
use Rattle.nutloop.specs.declared.fault.LoopFault.{LoopFault}
use Rattle.nutreplay.specs.declared.replaying.ReplayFault.{ReplayFault}
use Rattle.nutreplay.specs.declared.replaying.ReplayFault.TheVariants as faults

-- The ending for this refusal of the file: no memory where memory was refused, and nowhere else;
-- else the file's path, the number of the refused line and the cause, and what is said of the line.
pub record EndsByFault (path : Bor (List ℕ)) (shape : Shape) (file : List ℕ) (fault : ConfFault)
    (ending : Ending) : Type 0 where
  pub memory : fault.cause ≡ causes.Memory → ending ≡ endings.Memory
  pub line : fault.cause ≢ causes.Memory → (remark : Remark)
      × IsRemark shape fault.cause (line_at file fault.line) remark
      × (ending ≡ endings.Refused path fault.line fault.cause remark)

-- The ending for the refusal of a file, which this format refuses.
abbrev pub EndsByRefusal : Format → (List ℕ → Bool) → Shape → Bor (List ℕ) → List ℕ → Ending → Type 0
EndsByRefusal format adds shape path file ending = (fault : ConfFault)
    × IsRefused format adds (lines_of file) fault × EndsByFault path shape file fault ending

-- How the program ends where its script isn't replayed.
abbrev pub ending_of_replay : Bor (List ℕ) → ReplayFault → Ending
ending_of_replay script (faults.BadEvent line) = endings.BadEvent script line
ending_of_replay script faults.Memory = endings.Memory
ending_of_replay script faults.Write = endings.Write

-- How serving at these addresses ends, once it has a server.
abbrev pub IsOneOf : Addresses → SocketAddr → Type 0
IsOneOf addresses address = (place : ℕ) × (slice_get addresses.list place ≡ Some address)

abbrev pub IsEndOfServing : Addresses → Ending → Type 0
IsEndOfServing addresses ending = (ending ≡ endings.Memory)
    ⊎ (((address : SocketAddr) × (error : Option ℤ) × IsOneOf addresses address
    × (ending ≡ endings.Listen address error))
    ⊎ ((ending ≡ endings.Write) ⊎ ((fault : LoopFault) × (ending ≡ endings.Loop fault))))

-- The line that says at which address the server listens for clients.
abbrev pub listening_line : SocketAddr → List ℕ
listening_line address = codes "upsd: listening on " ++ socket_text address ++ 10 ∷ []

-- The output took all of that line; or a beginning of it, and then a write failed; or nothing,
-- memory being refused.
abbrev pub PrintsAddress : {W : Type 0} → (W → Option (List ℕ)) → (W → ℕ) → SocketAddr → W
    → Result (Unit {0}) Ending → W → Type 0
PrintsAddress contents failures address out (Ok done) after =
    Written contents failures out (listening_line address) after
PrintsAddress contents failures address out (Err endings.Write) after =
    WriteFailed contents failures out (listening_line address) after
PrintsAddress contents failures address out (Err endings.Memory) after = after ≡ out
PrintsAddress contents failures address out result after = ⊥

-- The status with which the program ends.
abbrev pub status_of : Result (Unit {0}) Ending → ℕ
status_of (Ok u) = DONE
status_of (Err (endings.BadArgument bad)) = WORD_FAULT
status_of (Err _) = FAULT
