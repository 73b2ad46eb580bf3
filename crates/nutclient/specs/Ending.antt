-- With which status a program ends, and what it prints on standard error.
use Rattle.std.specs.Prelude.{◌≡◌, ℕ, Bool, true, false, List, [], ◌∷◌, ◌++◌, Option, Result, Ok}
use Rattle.std.specs.Prelude.{Err, codes}
use Rattle.std.specs.List.{flat_map}
use Rattle.std.specs.Io.KnownBytes.{Appends}
use Rattle.nutio.specs.Ends.{Received, Written}
use Rattle.nutrequest.specs.Request.{request_line}
use Rattle.nutrequest.specs.Reply.{Whole}
use Rattle.nutrequest.specs.declared.item.Item.{Item}
use Rattle.nutrequest.specs.declared.request.Request.{Request}
use Rattle.nutrequest.specs.Fault.{status_of, fault_text}
use Rattle.nutio.specs.Ends.{SendGives}
use Rattle.nutio.specs.declared.ends.Failed.{Failed}
use Rattle.nutrequest.specs.declared.faults.ClientFault.{ClientFault}
use Rattle.nutclient.specs.Requests.{last_reply}
use Rattle.nutclient.specs.Printed.{RunGives, text_of}
use Rattle.nutclient.specs.Shown.{shown}
use Rattle.nutclient.specs.Why.{why_after}
use Rattle.nutclient.specs.declared.cause.Cause.{Cause}
use Rattle.nutclient.specs.declared.engine.Shows.{Shows}
use Rattle.nutclient.specs.declared.form.Form.{Form}
use Rattle.nutclient.specs.declared.program.Program.{Program}
use Rattle.nutclient.specs.declared.program.Program.TheVariants.{Upsc, Upsrw, Upscmd}

abbrev pub name_of : Program → List ℕ
name_of Upsc = codes "upsc"
name_of Upsrw = codes "upsrw"
name_of Upscmd = codes "upscmd"

-- A line, after the program's name.
abbrev pub line_after : Program → List ℕ → List ℕ
line_after program text = name_of program ++ (codes ": " ++ (text ++ 10 ∷ []))

-- The line that says why a fault came, where that is explained, and there is something to say.
abbrev pub why_line : Program → Bool → List ℕ → List ℕ
why_line program false why = []
why_line program true [] = []
why_line program true (b ∷ why) = line_after program (b ∷ why)

-- The line that reports a fault, and the one that says why it came.
abbrev pub fault_lines : Program → Bool → ClientFault → List ℕ → List ℕ
fault_lines program is_explained fault why =
    line_after program (fault_text fault) ++ why_line program is_explained why

-- The status is the fault's, and the fault's line is sent, and where that is explained the one that
-- says why, whether or not all of it is taken.
abbrev pub Reports : {E : Type 0} → (E → Option (List ℕ)) → (E → ℕ) → Bool → Program → ClientFault
    → List ℕ → E → ℕ → E → Type 0
Reports contents failures is_explained program fault why err status after =
    (status ≡ status_of fault) × (sent : Result (Unit {0}) Failed)
    × SendGives contents failures
    (fault_lines program is_explained fault why) err sent after

-- By what came of it, these bytes of the requests being sent: where it is done, the status is 0,
-- and nothing is reported; a fault is reported, and why it came.
abbrev pub EndsBy : {E : Type 0} → (E → Option (List ℕ)) → (E → ℕ) → Bool → Program
    → List Request → List ℕ → Result (Unit {0}) ClientFault → E → ℕ → E → Type 0
EndsBy contents failures is_explained program requests bytes (Ok done) err status after =
    (status ≡ 0) × (after ≡ err)
EndsBy contents failures is_explained program requests bytes (Err fault) err status after =
    (cause : Cause)
    × Reports contents failures is_explained program fault
    (why_after requests bytes fault cause) err status after

-- What came of a job over these two ends: what was sent, what came and what was printed, and by
-- that the status and what is reported.
abbrev pub DoesJob : {R W O E : Type 0} → (R → Option (List ℕ)) → (R → ℕ) → (W → Option (List ℕ))
    → (W → ℕ) → (O → Option (List ℕ)) → (O → ℕ) → (E → Option (List ℕ)) → (E → ℕ) → Shows → Program
    → List Request → Form → R → W → O → E → ℕ → List ℕ → R → W → O → E → Type 0
DoesJob remaining failures contents write_failures printed print_failures reported report_failures
    shows program requests form reader writer out err status rest after sent then told =
    (outcome : Result (Unit {0}) ClientFault) × (bytes : List ℕ)
    × RunGives remaining failures contents write_failures printed print_failures
    requests form shows.is_terminal [] reader writer out outcome rest after sent then
    × Appends (contents writer) (contents sent) bytes
    × EndsBy reported report_failures shows.is_explained program requests bytes outcome err status
    told

-- A job that is done: the writer took the line of each request, once and in their order; what came
-- is a whole reply to each; and the output took the text of the last one's items.
pub record IsDone {R W O : Type 0} (remaining : R → Option (List ℕ)) (failures : R → ℕ)
    (contents : W → Option (List ℕ)) (write_failures : W → ℕ) (printed : O → Option (List ℕ))
    (print_failures : O → ℕ) (requests : List Request) (form : Form) (is_terminal : Bool)
    (reader : R) (writer : W) (out : O) (after : R) (sent : W) (then : O) : Type 0 where
  pub came : List ℕ
  pub items : List Item
  pub rest : List ℕ
  pub read : Received remaining failures reader came after
  pub written : Written contents write_failures writer (flat_map request_line requests) sent
  pub replies : last_reply requests came ≡ Whole items rest
  pub output : Written printed print_failures out (shown is_terminal (text_of form items)) then
