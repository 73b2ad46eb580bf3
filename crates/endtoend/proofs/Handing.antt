-- What a program prints of the bytes that its session is handed.
use Rattle.std.proofs.Common.{◌≡◌, ℕ, true, false, List, [], ◌∷◌, ◌++◌, Option}
use Rattle.std.proofs.Common.{Some, None, Err, sym, ap, subst, ◌∙◌, Bool, cond, Result, Ok}
use Rattle.std.proofs.Common.{refl}
use Rattle.nutwords.specs.declared.faults.BadName.{BadName}
use Rattle.std.specs.List.{before_first, after_first}
use Rattle.std.specs.Prelude.{◌≢◌, ◌==◌, is_ok, IfSome}
use Rattle.nutwords.specs.Bytes.{is_name_byte}
use Rattle.nutwords.specs.Reading.{read_text, read_name, is_name, is_ups_name}
use Rattle.nutio.specs.Ends.{NoneFailed}
use Rattle.nutrequest.specs.Session.{unread_of, reader_of, writer_of}
use Rattle.nutrequest.specs.declared.faults.ClientFault.TheVariants.{Memory}
use Rattle.nutrequest.specs.declared.request.Query.{Query}
use Rattle.nutrequest.specs.declared.request.Query.TheVariants as queries
use Rattle.nutrequest.specs.declared.request.Request.{Request}
use Rattle.nutrequest.specs.declared.request.Request.TheVariants.{List as ListOf, GetVar, GetNumAttach, GetTracking}
use Rattle.nutclient.specs.Job.{UpsPlace, JobParts, listing_of, variable_of, upses_of, parts_of, count_of, tracked_of}
use Rattle.nutclient.specs.Printed.{Prints, printed, Answers}
use Rattle.nutclient.specs.Target.{lawful, both, ups_of, has_byte, server_of, local_server, ups_place_of}
use Rattle.nutclient.specs.declared.form.Form.{Form}
use Rattle.nutclient.specs.declared.form.Form.TheVariants as forms
use Rattle.nutclient.specs.declared.job.Job.{Job}
use Rattle.nutclient.specs.declared.target.Target.{Target}
use Rattle.endtoend.specs.Handed.{ProgramRun, IsHanded, IsPrinted}
use Rattle.endtoend.proofs.Texts.{text_itself, text_same}
use Rattle.nutwords.specs.declared.limits.TheConstants.{NAME_LIMIT, UPS_NAME_LIMIT}

none-not_some : {A : Type 0} {x : A} → None ≡ Some x → ⊥
none-not_some h = cc

pub some_same : {A : Type 0} {x y : A} → Some x ≡ Some y → x ≡ y
some_same h = cc

-- what is lawful was read as it is
pub lawful_read : (allowed : ℕ → Bool) (may_be_empty : Bool) (most : ℕ) (text : List ℕ) →
    IfSome (lawful (read_text allowed may_be_empty most text))
    (λ read. is_ok (read_text allowed may_be_empty most read) ≡ true)
lawful_read allowed may_be_empty most text = by (read_text allowed may_be_empty most text) refl
  where
    by : (r : Result (List ℕ) BadName) → read_text allowed may_be_empty most text ≡ r →
        IfSome (lawful r) (λ read. is_ok (read_text allowed may_be_empty most read) ≡ true)
    by (Err bad) e = tt
    by (Ok read) e = subst (λ t. is_ok (read_text allowed may_be_empty most t) ≡ true)
        (text_same allowed may_be_empty most text read e) (ap is_ok e)

-- what two of them make
pub of_both : {A B C : Type 0} (make : A → B → C) (P : A → Type 0) (Q : B → Type 0)
    (R : C → Type 0) (a : Option A) (b : Option B) → IfSome a P → IfSome b Q →
    ((x : A) (y : B) → P x → Q y → R (make x y)) → IfSome (both make a b) R
of_both make P Q R (Some x) (Some y) p q h = h x y p q
of_both make P Q R (Some x) None p q h = tt
of_both make P Q R None b p q h = tt

pub of_any : {A : Type 0} (o : Option A) → IfSome o (λ a. Unit {0})
of_any None = tt
of_any (Some a) = tt

-- the UPS that the words name
pub place_read : (text : List ℕ) → IfSome (ups_place_of text) (λ place. is_ups_name place.0 ≡ true)
place_read text = by (has_byte 64 text)
  where
    named : (name : List ℕ) (server : Option Target) →
        IfSome {T = UpsPlace} (both (λ ups server. (ups, server)) (ups_of name) server)
        (λ place. is_ups_name place.0 ≡ true)
    named name server = of_both {C = UpsPlace} (λ ups server. (ups, server))
        (λ ups. is_ups_name ups ≡ true) (λ server. Unit {0})
        (λ place. is_ups_name place.0 ≡ true) (ups_of name) server
        (lawful_read is_name_byte false UPS_NAME_LIMIT name) (of_any server) (λ ups server h any. h)

    by : (v : Bool) → IfSome {T = UpsPlace}
        (cond v (both (λ ups server. (ups, server)) (ups_of (before_first (λ b. b == 64) text))
        (server_of (after_first (λ b. b == 64) text)))
        (both (λ ups server. (ups, server)) (ups_of text) (Some local_server)))
        (λ place. is_ups_name place.0 ≡ true)
    by true = named (before_first (λ b. b == 64) text) (server_of (after_first (λ b. b == 64) text))
    by false = named text (Some local_server)

pub place_lawful : (text : List ℕ) (place : UpsPlace) → ups_place_of text ≡ Some place →
    is_ups_name place.0 ≡ true
place_lawful text place h = subst (λ o. IfSome o (λ place. is_ups_name place.0 ≡ true)) h (place_read text)

-- what a job asks for, and in which form it is printed
pub record Asks (requests : List Request) (form : Form) (job : Job) : Type 0 where
  pub requests_are : job.requests.items ≡ requests
  pub form_is : job.form ≡ form

asks_parts : (target : Target) (requests : List Request) (form : Form) (job : Job) →
    Some (target, requests, form) ≡ Some (parts_of job) → Asks requests form job
asks_parts target requests form job h =
    let same : (target, requests, form) ≡ parts_of job = some_same h in
    record {
      requests_are = sym (ap (λ (p : JobParts). p.1) same);
      form_is = sym (ap (λ (p : JobParts). p.2) same);
    }

pub asks_listing : (query : List ℕ → Query) (form : Form) (o : Option UpsPlace)
    (place : UpsPlace) (job : Job) → listing_of query form o ≡ Some (parts_of job) → o ≡
    Some place → Asks (ListOf (query place.0) ∷ []) form job
asks_listing query form o place job h at =
    asks_parts place.1 (ListOf (query place.0) ∷ []) form job (sym (ap (listing_of query form) at) ∙ h)

-- the variable's name is lawful, where the job was read
pub name_asked : (o : Option UpsPlace) (name : List ℕ) (job : Job) →
    variable_of o (lawful (read_name name)) ≡ Some (parts_of job) → is_name name ≡ true
name_asked None name job h = absurd (none-not_some h)
name_asked (Some place) name job h = by (read_name name) h
  where
    by : (r : Result (List ℕ) BadName) → variable_of (Some place) (lawful r) ≡
        Some (parts_of job) → is_ok r ≡ true
    by (Ok read) k = refl
    by (Err bad) k = absurd (none-not_some k)

pub asks_variable : (o : Option UpsPlace) (name : List ℕ) (place : UpsPlace) (job : Job) →
    variable_of o (lawful (read_name name)) ≡ Some (parts_of job) → o ≡ Some place →
    is_name name ≡ true → Asks (GetVar place.0 name ∷ []) forms.Value job
asks_variable o name place job h at k =
    let read : lawful (read_name name) ≡ Some name = ap lawful (text_itself is_name_byte false NAME_LIMIT name k) in
    asks_parts place.1 (GetVar place.0 name ∷ []) forms.Value job
    (sym (ap (λ p. variable_of p (lawful (read_name name))) at ∙ ap (λ n. variable_of (Some place) n) read) ∙ h)

pub asks_number : (o : Option UpsPlace) (place : UpsPlace) (job : Job) → count_of o ≡
    Some (parts_of job) → o ≡ Some place → Asks (GetNumAttach place.0 ∷ []) forms.Value job
asks_number o place job h at = asks_parts place.1 (GetNumAttach place.0 ∷ []) forms.Value job
    (sym (ap count_of at) ∙ h)

pub asks_tracked : (o : Option UpsPlace) (i : Option ℕ) (id : ℕ) (job : Job) →
    tracked_of o i ≡ Some (parts_of job) → i ≡ Some id → Asks (GetTracking id ∷ []) forms.Value job
asks_tracked None i id job h is = absurd (none-not_some h)
asks_tracked (Some place) i id job h is =
    asks_parts place.1 (GetTracking id ∷ []) forms.Value job (sym (ap (tracked_of (Some place)) is) ∙ h)

pub asks_upses : (form : Form) (o : Option Target) (job : Job) → upses_of form o ≡
    Some (parts_of job) → Asks (ListOf queries.Ups ∷ []) form job
asks_upses form None job h = absurd (none-not_some h)
asks_upses form (Some target) job h = asks_parts target (ListOf queries.Ups ∷ []) form job h

module _ {R W O : Type 0} (remaining : R → Option (List ℕ)) (failures : R → ℕ)
    (write_failures : W → ℕ) (contents : O → Option (List ℕ)) (print_failures : O → ℕ) where
  -- what the engine answers where no call failed
  abbrev pub Runs : Job → ProgramRun R W O → Type 0
  Runs job r =
      r.session.is_over ≡ false → (bytes : List ℕ) → remaining (reader_of r.session) ≡ Some bytes
      → NoneFailed (failures (reader_of r.session)) (failures (reader_of r.session_after))
      → NoneFailed (write_failures (writer_of r.session)) (write_failures (writer_of r.session_after))
      → NoneFailed (print_failures r.out) (print_failures r.out_after) → r.result ≢ Err Memory
      → Answers contents false (printed job.requests.items job.form
      (unread_of r.session ++ bytes)) r.out r.result r.out_after

  pub handed : (job : Job) (requests : List Request) (form : Form) (bytes text : List ℕ) (r : ProgramRun R W O)
      → Runs job r → Asks requests form job → printed requests form bytes ≡ Prints text →
      IsHanded remaining failures write_failures contents print_failures bytes r →
      IsPrinted remaining failures write_failures contents print_failures text r
  handed job requests form bytes text r runs asks prints h =
      let answers = runs h.going bytes h.gives h.reads h.writes h.prints h.memory in
      let same : printed job.requests.items job.form (unread_of r.session ++ bytes) ≡ Prints text =
      ap (λ before. printed job.requests.items job.form (before ++ bytes)) h.fresh
      ∙ ap (λ rs. printed rs job.form bytes) asks.requests_are
      ∙ ap (λ f. printed requests f bytes) asks.form_is
      ∙ prints in
      let k = subst (λ p. Answers contents false p r.out r.result r.out_after) same answers in
      record { done = k.0; output = k.1 }
