-- What a status says of a job.
use Rattle.std.proofs.Common.{◌≡◌, Bool, ℕ, ◌≤◌, List, [], ◌∷◌, ◌++◌}
use Rattle.std.proofs.Common.{Option, Result, Ok, Err, refl, sym, ap, subst, ◌∙◌, arith}
use Rattle.std.proofs.Common.{append-nil}
use Rattle.std.specs.List.{flat_map}
use Rattle.std.specs.Io.KnownBytes.{Appends}
use Rattle.nutio.specs.Ends.{Written}
use Rattle.nutrequest.specs.Fault.{status_of}
use Rattle.nutrequest.specs.Request.{request_line}
use Rattle.nutrequest.specs.Reply.{Reply, Whole, Refused, Bad, Unfinished, reply}
use Rattle.nutrequest.specs.declared.item.Item.{Item}
use Rattle.nutrequest.specs.declared.request.Request.{Request}
use Rattle.nutrequest.specs.declared.faults.ClientFault.{ClientFault}
use Rattle.nutrequest.specs.declared.faults.ClientFault.TheVariants as faults
use Rattle.nutclient.specs.Requests.{lines_behind, sent_lines, reply_behind, last_reply, last_reply_after}
use Rattle.nutclient.specs.Printed.{RunGives}
use Rattle.nutclient.specs.Ending.{EndsBy, IsDone}
use Rattle.nutclient.specs.declared.form.Form.{Form}
use Rattle.nutclient.specs.declared.program.Program.{Program}
use Rattle.nutclient.proofs.Printing.{no_word_fault}

-- where each reply is whole, the lines of all requests are sent
whole_sent : (requests : List Request) (before items : List Item) (bytes rest : List ℕ)
    → last_reply_after before requests bytes ≡ Whole items rest →
    sent_lines requests bytes ≡ flat_map request_line requests
whole_sent [] before items bytes rest whole = refl
whole_sent (request ∷ requests) before items bytes rest whole =
    ap (λ t. request_line request ++ t)
    (by_reply (reply request bytes) whole (λ more left h. whole_sent requests more items left rest h))
  where
    by_reply : (r : Reply) → reply_behind r (λ more left. last_reply_after more requests left) ≡ Whole items rest
        → ((more : List Item) (left : List ℕ) → last_reply_after more requests left ≡
        Whole items rest → sent_lines requests left ≡ flat_map request_line requests)
        → lines_behind r (λ left. sent_lines requests left) ≡ flat_map request_line requests
    by_reply (Whole more left) h of_rest = of_rest more left h
    by_reply (Refused word) h of_rest = cc h
    by_reply Bad h of_rest = cc h
    by_reply Unfinished h of_rest = cc h

-- a fault that isn't one of the words has status 1
pub status_one : (fault : ClientFault) → (fault ≡ faults.BadTarget → ⊥) → status_of fault ≡ 1
status_one faults.BadTarget none = absurd (none refl)
status_one faults.Connect none = refl
status_one faults.Read none = refl
status_one faults.Write none = refl
status_one faults.EarlyEnd none = refl
status_one (faults.ErrWord word) none = refl
status_one faults.BadReply none = refl
status_one faults.Memory none = refl

-- a new session has read nothing
from_new : {R W O : Type 0} (rem : R → Option (List ℕ)) (rf : R → ℕ)
    (con : W → Option (List ℕ)) (wf : W → ℕ) (oc : O → Option (List ℕ)) (of : O → ℕ)
    (requests : List Request) (form : Form) (is_terminal : Bool) (old : List ℕ) (first reader : R)
    (begun writer : W) (out : O) (outcome : Result (Unit {0}) ClientFault) (new : List ℕ)
    (after : R) (sent : W) (then : O)
    → old ≡ [] → first ≡ reader → begun ≡ writer
    → RunGives rem rf con wf oc of requests form is_terminal old first begun out outcome new after
    sent then → RunGives rem rf con wf oc of requests form is_terminal [] reader writer out
    outcome new after sent then
from_new rem rf con wf oc of requests form is_terminal old first reader begun writer out outcome new
    after sent then o f b g =
    subst (λ x. RunGives rem rf con wf oc of requests form is_terminal [] reader x out outcome new after sent then) b
    (subst (λ x. RunGives rem rf con wf oc of requests form is_terminal [] x begun out outcome new after sent then) f
    (subst (λ x. RunGives rem rf con wf oc of requests form is_terminal x first begun out outcome
    new after sent then) o g))

module _ {R W O E : Type 0} (rem : R → Option (List ℕ)) (rf : R → ℕ)
    (con : W → Option (List ℕ)) (wf : W → ℕ) (oc : O → Option (List ℕ)) (of : O → ℕ)
    (ec : E → Option (List ℕ)) (ef : E → ℕ) (is_explained : Bool) (program : Program) (requests : List Request)
    (form : Form) (is_terminal : Bool) (reader : R) (writer : W) (out : O) (err : E)
    (new : List ℕ) (after : R) (sent : W) (then : O) (told : E) (status : ℕ) (bytes : List ℕ) where
  fault_status : (fault : ClientFault) →
      RunGives rem rf con wf oc of requests form is_terminal [] reader writer out (Err fault) new
      after sent then → status ≡ status_of fault → status ≡ 1
  fault_status fault g e = e ∙ status_one fault
      (λ bad. no_word_fault rem rf con wf oc of requests form is_terminal [] new reader after
      writer sent out then (Err fault) g (ap Err bad))

  status_most : (outcome : Result (Unit {0}) ClientFault) →
      RunGives rem rf con wf oc of requests form is_terminal [] reader writer out outcome new after
      sent then → EndsBy ec ef is_explained program requests bytes outcome err status told → status ≤ 1
  status_most (Ok done) g e = omega (arith, e.0)
  status_most (Err fault) g e = omega (arith, fault_status fault g e.1.0)

  is_done : (outcome : Result (Unit {0}) ClientFault) →
      RunGives rem rf con wf oc of requests form is_terminal [] reader writer out outcome new after
      sent then → EndsBy ec ef is_explained program requests bytes outcome err status told → status ≡ 0
      → IsDone rem rf con wf oc of requests form is_terminal reader writer out after sent then
  is_done (Err fault) g e zero = absurd (omega (arith, fault_status fault g e.1.0, zero))
  is_done (Ok done) g e zero =
      let came : List ℕ = g.1.0 in
      let replies : last_reply requests came ≡ Whole g.0 new =
      ap (last_reply requests) (sym (append-nil came)) ∙ g.1.5 [] ∙ ap (Whole g.0) (append-nil new) in
      let lines : g.1.1 ≡ flat_map request_line requests = sym (g.1.4 []) ∙
      ap (sent_lines requests) (append-nil came) ∙ whole_sent requests [] g.0 came new replies in
      record {
        came = came;
        items = g.0;
        rest = new;
        read = g.1.2;
        written = subst (λ t. Written con wf writer t sent) lines g.1.3;
        replies = replies;
        output = g.2;
      }

  -- what a new session's run and what is reported of it say together
  pub ends : (old : List ℕ) (first : R) (begun : W) (outcome : Result (Unit {0}) ClientFault) →
      old ≡ [] → first ≡ reader → begun ≡ writer
      → RunGives rem rf con wf oc of requests form is_terminal old first begun out outcome new
      after sent then → Appends (con begun) (con sent) bytes
      → EndsBy ec ef is_explained program requests bytes outcome err status told
      → ((o : Result (Unit {0}) ClientFault) × (bytes : List ℕ) ×
      RunGives rem rf con wf oc of requests form is_terminal [] reader writer out o new after sent
      then × Appends (con writer) (con sent) bytes ×
      EndsBy ec ef is_explained program requests bytes o err status told)
      × (status ≡ 0 → IsDone rem rf con wf oc of requests form is_terminal reader writer out
      after sent then) × (status ≤ 1)
  ends old first begun outcome o f b g a e =
      let run = from_new rem rf con wf oc of requests form is_terminal old first reader begun writer
      out outcome new after sent then o f b g in (
        (outcome, bytes, run, subst (λ w. Appends (con w) (con sent) bytes) b a, e),
        (λ zero. is_done outcome run e zero),
        status_most outcome run e,
      )
