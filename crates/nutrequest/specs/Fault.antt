-- The statuses and the texts of a client's faults.
use Rattle.std.specs.Prelude.{ℕ, List, ◌++◌, codes}
use Rattle.std.specs.declared.io.ErrorKind.{ErrorKind}
use Rattle.std.specs.declared.io.ErrorKind.TheVariants.{OutOfMemory}
use Rattle.nutrequest.specs.declared.faults.ClientFault.{ClientFault}
use Rattle.nutrequest.specs.declared.faults.ClientFault.TheVariants as faults

-- The exit status of a program that meets the fault.
abbrev pub status_of : ClientFault → ℕ
status_of faults.BadTarget = 2
status_of _ = 1

-- The text of a fault.
abbrev pub fault_text : ClientFault → List ℕ
fault_text faults.Connect = codes "cannot connect"
fault_text faults.Read = codes "read failed"
fault_text faults.Write = codes "write failed"
fault_text faults.EarlyEnd = codes "reply ended early"
fault_text (faults.ErrWord word) = codes "server answered ERR " ++ word
fault_text faults.BadReply = codes "bad reply"
fault_text faults.BadTarget = codes "bad argument"
fault_text faults.Memory = codes "no memory"

-- What a call that connects met, by the kind of its error.
abbrev pub fault_of : ErrorKind → ClientFault
fault_of OutOfMemory = faults.Memory
fault_of kind = faults.Connect
