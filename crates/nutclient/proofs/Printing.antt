-- What is printed of the replies to the requests.
use Rattle.std.proofs.Common.{◌≡◌, Bool, ℕ, ◌+◌, ◌-◌, ◌<◌, List, [], ◌++◌}
use Rattle.std.proofs.Common.{Option, Some, None, Result, Ok, Err, refl, sym, ap, subst, ◌∙◌}
use Rattle.std.proofs.Common.{inl, inr, arith, append-nil}
use Rattle.std.specs.Prelude.{min, ◌^◌}
use Rattle.std.specs.Io.KnownBytes.{Consumes, IsAtEnd}
use Rattle.nutio.specs.Ends.{counted, NoneFailed}
use Rattle.nutrequest.specs.declared.item.Item.{Item}
use Rattle.nutrequest.specs.declared.request.Request.{Request}
use Rattle.nutrequest.specs.declared.faults.ClientFault.{ClientFault}
use Rattle.nutrequest.specs.declared.faults.ClientFault.TheVariants as faults
use Rattle.nutclient.specs.Requests.{RequestsGive}
use Rattle.nutclient.specs.Shown.{shown}
use Rattle.nutclient.specs.Printed.{Printed, Prints, Faults, printed, printed_of, text_of}
use Rattle.nutclient.specs.Printed.{PrintGives, RunGives, Answers}
use Rattle.nutclient.specs.declared.form.Form.{Form}

-- the replies are whole, and the items of the last are printed
pub run_printed : {R W O : Type 0} (rem : R → Option (List ℕ)) (rf : R → ℕ)
    (con : W → Option (List ℕ)) (wf : W → ℕ) (oc : O → Option (List ℕ)) (of : O → ℕ)
    (requests : List Request) (form : Form) (is_terminal : Bool) (old new : List ℕ)
    (reader after : R) (writer sent : W) (out then : O) (items : List Item) (result : Result (Unit {0}) ClientFault)
    → RequestsGive rem rf con wf requests old reader writer (Ok items) new after sent →
    PrintGives oc of (shown is_terminal (text_of form items)) out result then
    → RunGives rem rf con wf oc of requests form is_terminal old reader writer out result new after sent then
run_printed rem rf con wf oc of requests form is_terminal old new reader after writer sent out
    then items (Ok tt) g p = (items, g, p)
run_printed rem rf con wf oc of requests form is_terminal old new reader after writer sent out
    then items (Err fault) g p = inr (items, g, p)

-- known bytes are what came and what is left
came_all : (r a : Option (List ℕ)) (xs came : List ℕ) → r ≡ Some xs →
    Consumes r a came → (ys : List ℕ) × (xs ≡ came ++ ys) × (a ≡ Some ys)
came_all None a xs came e h = absurd (none_some e)
  where
    none_some : None ≡ Some xs → ⊥
    none_some e = cc
came_all (Some zs) None xs came e h = absurd h
came_all (Some zs) (Some ys) xs came e h = let same : zs ≡ xs = cc in (ys, sym same ∙ h, refl)

too_low : (m n : ℕ) → n < m → min (n + 1) m ≡ n → ⊥
too_low m n h e = omega arith

-- a count that grew: a call failed
grew : (n now : ℕ) → NoneFailed n now → now ≡ counted n → ⊥
grew n now w e = too_low (2 ^ 64 - 1) n w.1 (sym e ∙ w.0)

at_end : (a : Option (List ℕ)) (ys : List ℕ) → a ≡ Some ys → IsAtEnd a → ys ≡ []
at_end a ys e h = subst (λ v. IsAtEnd v) e h

all_printed : (requests : List Request) (form : Form) (is_terminal : Bool)
    (old came ys xs : List ℕ) (print : Printed) → xs ≡ came ++ ys →
    ((more : List ℕ) → printed requests form (old ++ (came ++ more)) ≡ print) → print ≡
    printed requests form (old ++ xs)
all_printed requests form is_terminal old came ys xs print e h =
    sym (ap (λ bs. printed requests form (old ++ bs)) e ∙ h ys)

-- where nothing fails, the bytes that come decide what is printed
pub run_answers : {R W O : Type 0} (rem : R → Option (List ℕ)) (rf : R → ℕ)
    (con : W → Option (List ℕ)) (wf : W → ℕ) (oc : O → Option (List ℕ)) (of : O → ℕ)
    (requests : List Request) (form : Form) (is_terminal : Bool) (old xs new : List ℕ)
    (reader after : R) (writer sent : W) (out then : O) (result : Result (Unit {0}) ClientFault)
    → RunGives rem rf con wf oc of requests form is_terminal old reader writer out result new
    after sent then → rem reader ≡ Some xs → NoneFailed (rf reader) (rf after) →
    NoneFailed (wf writer) (wf sent) → NoneFailed (of out) (of then)
    → (result ≡ Err faults.Memory → ⊥) →
    Answers oc is_terminal (printed requests form (old ++ xs)) out result then
run_answers rem rf con wf oc of requests form is_terminal old xs new reader after writer sent out
    then (Ok tt) g e r w o m =
    let k = came_all (rem reader) (rem after) xs g.1.0 e g.1.2.bytes in
    subst (λ p. Answers oc is_terminal p out (Ok tt) then)
    (all_printed requests form is_terminal old g.1.0 k.0 xs (Prints (text_of form g.0)) k.1
    (λ more. ap (printed_of form) (g.1.5 more))) (refl, g.2.bytes_written)
run_answers rem rf con wf oc of requests form is_terminal old xs new reader after writer sent out
    then (Err faults.Write) (inl g) e r w o m = absurd (grew (wf writer) (wf sent) w g.0.3.failed)
run_answers rem rf con wf oc of requests form is_terminal old xs new reader after writer sent out
    then (Err faults.Write) (inr g) e r w o m = absurd (grew (of out) (of then) o g.2.failed)
run_answers rem rf con wf oc of requests form is_terminal old xs new reader after writer sent out
    then (Err (faults.ErrWord v)) (inl g) e r w o m =
    let f = g.0.2 in
    let k = came_all (rem reader) (rem after) xs f.0 e f.1.bytes in
    subst (λ p. Answers oc is_terminal p out (Err (faults.ErrWord v)) then)
    (all_printed requests form is_terminal old f.0 k.0 xs (Faults (faults.ErrWord v)) k.1
    (λ more. ap (printed_of form) (f.2 more).1)) (refl, g.1)
run_answers rem rf con wf oc of requests form is_terminal old xs new reader after writer sent out
    then (Err faults.BadReply) (inl g) e r w o m =
    let f = g.0.2 in
    let k = came_all (rem reader) (rem after) xs f.0 e f.1.bytes in
    subst (λ p. Answers oc is_terminal p out (Err faults.BadReply) then)
    (all_printed requests form is_terminal old f.0 k.0 xs (Faults faults.BadReply) k.1
    (λ more. ap (printed_of form) (f.2 more).1)) (refl, g.1)
run_answers rem rf con wf oc of requests form is_terminal old xs new reader after writer sent out
    then (Err faults.EarlyEnd) (inl g) e r w o m =
    let f = g.0.2 in
    let k = came_all (rem reader) (rem after) xs f.0 e f.1.bytes in
    let none : k.0 ≡ [] = at_end (rem after) k.0 k.2 f.2 in
    let all : xs ≡ f.0 = k.1 ∙ ap (λ t. f.0 ++ t) none ∙ append-nil f.0 in
    subst (λ p. Answers oc is_terminal p out (Err faults.EarlyEnd) then)
    (sym (ap (λ bs. printed requests form (old ++ bs)) all ∙ ap (printed_of form) f.3.1)) (refl, g.1)
run_answers rem rf con wf oc of requests form is_terminal old xs new reader after writer sent out
    then (Err faults.Read) (inl g) e r w o m = absurd (grew (rf reader) (rf after) r g.0.2.1.failed)
run_answers rem rf con wf oc of requests form is_terminal old xs new reader after writer sent out
    then (Err faults.Memory) g e r w o m = absurd (m refl)
run_answers rem rf con wf oc of requests form is_terminal old xs new reader after writer sent out
    then (Err faults.Connect) (inl g) e r w o m = absurd g.0.2
run_answers rem rf con wf oc of requests form is_terminal old xs new reader after writer sent out
    then (Err faults.BadTarget) (inl g) e r w o m = absurd g.0.2
run_answers rem rf con wf oc of requests form is_terminal old xs new reader after writer sent out
    then (Err (faults.ErrWord v)) (inr g) e r w o m = absurd g.2
run_answers rem rf con wf oc of requests form is_terminal old xs new reader after writer sent out
    then (Err faults.BadReply) (inr g) e r w o m = absurd g.2
run_answers rem rf con wf oc of requests form is_terminal old xs new reader after writer sent out
    then (Err faults.EarlyEnd) (inr g) e r w o m = absurd g.2
run_answers rem rf con wf oc of requests form is_terminal old xs new reader after writer sent out
    then (Err faults.Read) (inr g) e r w o m = absurd g.2
run_answers rem rf con wf oc of requests form is_terminal old xs new reader after writer sent out
    then (Err faults.Connect) (inr g) e r w o m = absurd g.2
run_answers rem rf con wf oc of requests form is_terminal old xs new reader after writer sent out
    then (Err faults.BadTarget) (inr g) e r w o m = absurd g.2

-- no job ends with a fault of its words
pub no_word_fault : {R W O : Type 0} (rem : R → Option (List ℕ)) (rf : R → ℕ)
    (con : W → Option (List ℕ)) (wf : W → ℕ) (oc : O → Option (List ℕ)) (of : O → ℕ)
    (requests : List Request) (form : Form) (is_terminal : Bool) (old new : List ℕ)
    (reader after : R) (writer sent : W) (out then : O) (result : Result (Unit {0}) ClientFault)
    → RunGives rem rf con wf oc of requests form is_terminal old reader writer out result new
    after sent then → result ≡ Err faults.BadTarget → ⊥
no_word_fault rem rf con wf oc of requests form is_terminal old new reader after writer sent out then result g e =
    elim (subst (λ r. RunGives rem rf con wf oc of requests form is_terminal old reader writer out
    r new after sent then) e g) [
      | inl refused ↦ absurd refused.0.2
      | inr printed ↦ absurd printed.2
    ]
