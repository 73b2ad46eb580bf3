-- Why a fault came, as its second line says it.
use Rattle.std.specs.Prelude.{◌≡◌, ℕ, ◌-◌, Bool, true, false, not, List, [], ◌∷◌, ◌++◌, ◌&&◌, codes}
use Rattle.std.specs.Prelude.{length, slice_get, if◌then◌else◌}
use Rattle.std.specs.Option.{option_map_or}
use Rattle.nutrequest.specs.Orders.{has_order_in}
use Rattle.nutrequest.specs.Request.{names_of}
use Rattle.nutrequest.specs.declared.faults.ClientFault.{ClientFault}
use Rattle.nutrequest.specs.declared.faults.ClientFault.TheVariants as faults
use Rattle.nutrequest.specs.declared.request.Request.{Request}
use Rattle.nutclient.specs.Meaning.{meaning}
use Rattle.nutclient.specs.declared.cause.Cause.{Cause}
use Rattle.nutclient.specs.declared.cause.Place.{Place}
use Rattle.nutclient.specs.declared.cause.Place.TheVariants.{Server, Output}

-- A UPS, or one of its variables or commands.
abbrev pub subject : List ℕ × List ℕ → List ℕ
subject (ups, []) = ups
subject (ups, b ∷ name) = ups ++ 32 ∷ b ∷ name

-- What the last of these requests is about.
abbrev pub subject_of : List Request → List ℕ
subject_of requests = option_map_or (λ request. subject (names_of request))
    (slice_get requests (length requests - 1)) []

-- Of a call: the server, or the output.
abbrev pub failed_at : Place → Cause → List ℕ
failed_at Server cause = cause.server.bytes
failed_at Output cause = codes "standard output"

-- What failed, and what the system said of it.
abbrev pub failed : Cause → List ℕ × List ℕ
failed cause = (failed_at cause.place cause, cause.said.bytes)

-- The server may be full, or a proxy be there without one.
abbrev pub closed_at_once : Cause → List ℕ × List ℕ
closed_at_once cause = (
  cause.server.bytes,
  codes "closed before any answer: the server is full, or not running behind a proxy",
)

-- What the reason is about, and the reason: nothing where the first line says it all. A refusal is
-- about what was asked for.
abbrev pub reason : List ℕ → ClientFault → Cause → List ℕ × List ℕ
reason asked faults.Connect cause = failed cause
reason asked faults.Read cause =
    if cause.was_reset && not cause.has_heard then closed_at_once cause else failed cause
reason asked faults.Write cause = failed cause
reason asked faults.EarlyEnd cause =
    if cause.has_heard then (cause.server.bytes, codes "the server closed the connection")
    else closed_at_once cause
reason asked (faults.ErrWord word) cause = (asked, meaning word)
reason asked faults.BadReply cause = (cause.server.bytes, codes "no reply of a UPS server came")
reason asked faults.BadTarget cause = ([], [])
reason asked faults.Memory cause = ([], [])

-- A text, after what it is about, if there is a text.
abbrev pub named : List ℕ → List ℕ → List ℕ
named of [] = []
named [] (b ∷ text) = b ∷ text
named (o ∷ of) (b ∷ text) = (o ∷ of) ++ (codes ": " ++ b ∷ text)

abbrev pub named_reason : List ℕ → ClientFault → Cause → List ℕ
named_reason asked fault cause = named (reason asked fault cause).0 (reason asked fault cause).1

abbrev pub look_first : List ℕ
look_first = codes "the order may have been given: look before you try again"

-- The warning, after what is said of the fault.
abbrev pub warned : List ℕ → List ℕ
warned [] = look_first
warned (b ∷ why) = b ∷ why ++ (codes "; " ++ look_first)

-- Why the fault came, and the warning where an order may have been given.
abbrev pub why_of : Bool → List ℕ → ClientFault → Cause → List ℕ
why_of true asked fault cause = warned (named_reason asked fault cause)
why_of false asked fault cause = named_reason asked fault cause

abbrev pub is_refusal : ClientFault → Bool
is_refusal (faults.ErrWord word) = true
is_refusal _ = false

-- An order may have been given that isn't printed as given: its line stands whole in what was sent,
-- and the server didn't refuse it.
abbrev pub may_be_given : List Request → List ℕ → ClientFault → Bool
may_be_given requests sent fault = has_order_in requests sent && not (is_refusal fault)

-- What is said of a job's fault, these bytes of its requests being sent.
abbrev pub why_after : List Request → List ℕ → ClientFault → Cause → List ℕ
why_after requests sent fault cause =
    why_of (may_be_given requests sent fault) (subject_of requests) fault cause

-- Where the line of an order stands whole in what was sent, and the server didn't refuse it, the
-- line that explains the fault ends with the warning. Where it doesn't, or the server refused it,
-- the line has no more than why the fault came.
pub record NoOrderIsGivenUnseen : Type 0 where
  pub warned : (requests : List Request) (sent : List ℕ) (fault : ClientFault) (cause : Cause)
      → has_order_in requests sent ≡ true → is_refusal fault ≡ false → (front : List ℕ)
      × (why_after requests sent fault cause ≡ front ++ look_first)
  pub not_sent : (requests : List Request) (sent : List ℕ) (fault : ClientFault) (cause : Cause)
      → has_order_in requests sent ≡ false
      → why_after requests sent fault cause ≡ named_reason (subject_of requests) fault cause
  pub refused : (requests : List Request) (sent word : List ℕ) (cause : Cause)
      → why_after requests sent (faults.ErrWord word) cause
      ≡ named (subject_of requests) (meaning word)
