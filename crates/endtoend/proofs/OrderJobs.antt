-- The requests of a job that orders something: those that it is sent after, and the order.
use Rattle.std.proofs.Common.{◌≡◌, ◌∙◌, inl, inr, ℕ, Bool, true, false, cond, leb}
use Rattle.std.proofs.Common.{List, [], ◌∷◌, ◌++◌, length}
use Rattle.std.proofs.Common.{Option, Some, None, Result, Ok, Err, IfSome, refl, sym, ap, subst}
use Rattle.std.specs.Prelude.{◌&&◌, IsTrue, All, is_some, option_map}
use Rattle.std.proofs.lemmas.List.Elements.{All-nil, All-cons}
use denote.Ref.{Bor}
use Rattle.nutwords.specs.Bytes.{is_lawful, is_name_byte}
use Rattle.nutwords.specs.Frame.{line_of}
use Rattle.nutwords.specs.Reading.{read_name, read_value, is_name, is_ups_name, is_value}
use Rattle.nutwords.specs.declared.faults.BadName.{BadName}
use Rattle.nutwords.specs.declared.limits.TheConstants.{NAME_LIMIT, VALUE_LIMIT}
use Rattle.nutusers.specs.declared.rights.Right.{Right}
use Rattle.nutusers.specs.declared.rights.Right.TheVariants as rights
use Rattle.nutanswer.specs.Orders.{right_to, set_line, instcmd_line, ok_words}
use Rattle.nutcore.specs.Server.{ServerState}
use Rattle.nutrequest.specs.Orders.{is_order}
use Rattle.nutrequest.specs.Reply.{Refused, reply as client_reply}
use Rattle.nutrequest.specs.declared.request.Request.{Request}
use Rattle.nutrequest.specs.declared.request.Request.TheVariants as requests
use Rattle.nutclient.specs.Job.{JobParts, UpsPlace, job_of, word_of, text_in, tracking, login_of, setting_of}
use Rattle.nutclient.specs.Job.{value_of, ordered, set_request, command_request, set_order, command_order}
use Rattle.nutclient.specs.Printed.{Prints, printed}
use Rattle.nutclient.specs.Target.{lawful, ups_place_of}
use Rattle.nutclient.specs.declared.form.Form.TheVariants as forms
use Rattle.nutclient.specs.declared.given.Given.TheVariants.{Set, Command}
use Rattle.nutclient.specs.declared.given.Sender.{Sender}
use Rattle.nutclient.specs.declared.limits.TheConstants.{USER_LIMIT, PASSWORD_LIMIT}
use Rattle.nutclient.specs.declared.target.Target.{Target}
use Rattle.endtoend.specs.OneOrder.{granted_text}
use Rattle.endtoend.specs.Refused.{is_granted_by_ok}
use Rattle.endtoend.specs.Served.{IsLineOf, IsReadAsAsked}
use Rattle.endtoend.proofs.Handing.{of_both, place_lawful}
use Rattle.endtoend.proofs.Ids.{WantsId, unwanted_id, missing_id, wanted_id}
use Rattle.endtoend.proofs.OrderRows.{IsLogin, IsOrderRow, login_username, login_password}
use Rattle.endtoend.proofs.OrderRows.{login_tracking, set_row, command_row, printed_untracked, printed_tracked}
use Rattle.endtoend.proofs.Refused.{granted_read}
use Rattle.endtoend.proofs.Requests.{IsWord}
use Rattle.endtoend.proofs.Sent.{IsSetting, word_read, name_read, setting_read, set_asked, command_asked, if_given}
use Rattle.endtoend.proofs.Stable.{HasOneLine}
use Rattle.endtoend.proofs.Texts.{text_same}

-- what grants an order is no refusal of it
unrefused_untracked : (request : Request) → is_granted_by_ok request ≡ true → (id : Option ℕ)
    (bytes more word : List ℕ) → bytes ≡ line_of (ok_words id)
    → client_reply request (bytes ++ more) ≡ Refused word → ⊥
unrefused_untracked request by_ok None bytes more word e h =
    cc (sym (ap (λ t. client_reply request (t ++ more)) e ∙ granted_read request more by_ok) ∙ h)
unrefused_untracked request by_ok (Some id) bytes more word e h =
    cc (sym (ap (λ t. client_reply request (t ++ more)) e ∙ unwanted_id request id more by_ok) ∙ h)

unrefused_tracked : (request : Request) → WantsId request → (id : Option ℕ) (bytes more word : List ℕ)
    → bytes ≡ line_of (ok_words id) → client_reply request (bytes ++ more) ≡ Refused word → ⊥
unrefused_tracked request wants None bytes more word e h =
    cc (sym (ap (λ t. client_reply request (t ++ more)) e ∙ missing_id request wants more) ∙ h)
unrefused_tracked request wants (Some id) bytes more word e h =
    elim (wanted_id request wants more id) [
      | inl bad ↦ cc (sym (ap (λ t. client_reply request (t ++ more)) e ∙ bad) ∙ h)
      | inr whole ↦ cc (sym (ap (λ t. client_reply request (t ++ more)) e ∙ whole) ∙ h)
    ]

-- an order of this user, by this right
pub record IsOrderOf (track : Bool) (ups : List ℕ) (right : Right) (bytes : Option ℕ → List ℕ)
    (order : Request) : Type 0 where
  pub orders : is_order order ≡ true
  pub reads : IsReadAsAsked order
  pub one : HasOneLine order
  pub row : (s : ServerState) (c : ℕ) (line : List ℕ) → IsLineOf order line
      → IsOrderRow s c line ups right bytes
  pub text : (id : Option ℕ) (bytes more text : List ℕ) → bytes ≡ line_of (ok_words id)
      → printed (order ∷ []) forms.Value (bytes ++ more) ≡ Prints text
      → (is_some id ≡ track) × (text ≡ granted_text id)
  pub unrefused : (id : Option ℕ) (bytes more word : List ℕ) → bytes ≡ line_of (ok_words id)
      → client_reply order (bytes ++ more) ≡ Refused word → ⊥

pub record IsOrderJob (track : Bool) (ups user password : List ℕ) (right : Right)
    (bytes : Option ℕ → List ℕ) (job : JobParts) : Type 0 where
  pub front : List Request
  pub order : Request
  pub requests_are : job.1 ≡ front ++ order ∷ []
  pub form_is : job.2 ≡ forms.Value
  pub logins : All (IsLogin user password) front
  pub its_order : IsOrderOf track ups right bytes order

set_order_of : (track : Bool) (ups name value : List ℕ) → is_ups_name ups ≡ true → is_name name ≡ true
    → is_value value ≡ true
    → IsOrderOf track ups rights.Set (set_line name value) (set_request track ups name value)
set_order_of false ups name value h k v =
    let reads = set_asked false ups name value h k v in
    record {
      orders = refl;
      reads = reads;
      one = λ value rest. refl;
      row = λ s c line asks. set_row s c line ups name value (reads line asks);
      text = λ id bytes more text e. printed_untracked (requests.SetVar ups name value) more text bytes refl id e;
      unrefused = unrefused_untracked (requests.SetVar ups name value) refl;
    }
set_order_of true ups name value h k v =
    let reads = set_asked true ups name value h k v in
    let wants : WantsId (requests.TrackedSetVar ups name value) =
    record { expected = λ words. refl; whole = λ value rest. refl } in
    record {
      orders = refl;
      reads = reads;
      one = λ value rest. refl;
      row = λ s c line asks. set_row s c line ups name value (reads line asks);
      text = λ id bytes more text e. printed_tracked (requests.TrackedSetVar ups name value) more
          text bytes wants id e;
      unrefused = unrefused_tracked (requests.TrackedSetVar ups name value) wants;
    }

command_order_of : (track : Bool) (ups name : List ℕ) (value : Option (List ℕ)) → is_ups_name ups ≡ true
    → is_name name ≡ true → IfSome value (λ v. IsTrue (is_value v))
    → IsOrderOf track ups (right_to name) (instcmd_line name value) (command_request track ups name value)
command_order_of false ups name value h k v =
    let reads = command_asked false ups name value h k v in
    record {
      orders = refl;
      reads = reads;
      one = λ value rest. refl;
      row = λ s c line asks. command_row s c line ups name value (reads line asks);
      text = λ id bytes more text e. printed_untracked (requests.Instcmd ups name value) more text bytes refl id e;
      unrefused = unrefused_untracked (requests.Instcmd ups name value) refl;
    }
command_order_of true ups name value h k v =
    let reads = command_asked true ups name value h k v in
    let wants : WantsId (requests.TrackedInstcmd ups name value) =
    record { expected = λ words. refl; whole = λ value rest. refl } in
    record {
      orders = refl;
      reads = reads;
      one = λ value rest. refl;
      row = λ s c line asks. command_row s c line ups name value (reads line asks);
      text = λ id bytes more text e. printed_tracked (requests.TrackedInstcmd ups name value) more
          text bytes wants id e;
      unrefused = unrefused_tracked (requests.TrackedInstcmd ups name value) wants;
    }

-- what is read of a word is the word
read_same : (may_be_empty : Bool) (text : List ℕ) → IfSome (lawful (read_value text)) (λ read. read ≡ text)
read_same may_be_empty text = by (read_value text) refl
  where
    by : (r : Result (List ℕ) BadName) → read_value text ≡ r → IfSome (lawful r) (λ read. read ≡ text)
    by (Err bad) e = tt
    by (Ok read) e = sym (text_same is_lawful true VALUE_LIMIT text read e)

name_same : (text : List ℕ) → IfSome (lawful (read_name text)) (λ read. read ≡ text)
name_same text = by (read_name text) refl
  where
    by : (r : Result (List ℕ) BadName) → read_name text ≡ r → IfSome (lawful r) (λ read. read ≡ text)
    by (Err bad) e = tt
    by (Ok read) e = sym (text_same is_name_byte false NAME_LIMIT text read e)

word_same : (most : ℕ) (text : List ℕ) → IfSome (word_of most text) (λ word. word ≡ text)
word_same most text = by (leb 1 (length text) && leb (length text) most)
  where
    by : (b : Bool) → IfSome (cond b (lawful (read_value text)) None) (λ word. word ≡ text)
    by true = read_same true text
    by false = tt

both_hold : {A : Type 0} (P Q : A → Type 0) (o : Option A) → IfSome o P → IfSome o Q →
    IfSome o (λ a. P a × Q a)
both_hold P Q None p q = tt
both_hold P Q (Some a) p q = (p, q)

tracked : (user password : List ℕ) (track : Bool) → All (IsLogin user password) (tracking track)
tracked user password false = All-nil (IsLogin user password)
tracked user password true =
    All-cons (IsLogin user password) requests.SetTracking [] (login_tracking user password)
    (All-nil (IsLogin user password))

logins : (by : Sender) → IfSome (login_of by.track by.user.now by.password.now)
    (All (IsLogin by.user.now by.password.now))
logins by =
    let IsIts = IsLogin by.user.now by.password.now in
    of_both _ (λ u. IsWord USER_LIMIT u × (u ≡ by.user.now))
    (λ p. IsWord PASSWORD_LIMIT p × (p ≡ by.password.now))
    (All IsIts) _ _
    (both_hold _ _ (word_of USER_LIMIT by.user.now) (word_read USER_LIMIT by.user.now)
    (word_same USER_LIMIT by.user.now))
    (both_hold _ _ (word_of PASSWORD_LIMIT by.password.now) (word_read PASSWORD_LIMIT by.password.now)
    (word_same PASSWORD_LIMIT by.password.now))
    (λ u p h k. All-cons IsIts (requests.Username u) (requests.Password p ∷ tracking by.track)
    (subst (λ w. IsLogin w by.password.now (requests.Username u)) h.1 (login_username u by.password.now h.0))
    (All-cons IsIts (requests.Password p) (tracking by.track)
    (subst (λ w. IsLogin by.user.now w (requests.Password p)) k.1 (login_password by.user.now p k.0))
    (tracked by.user.now by.password.now by.track)))

-- so is a job of these parts
job_of_order : (by : Sender) (track : Bool) (ups : List ℕ) (right : Right) (bytes : Option ℕ → List ℕ)
    (target : Target) (order : Request) (job : JobParts) → IsOrderOf track ups right bytes order
    → ordered (login_of by.track by.user.now by.password.now) (Some (target, order)) ≡ Some job
    → IsOrderJob track ups by.user.now by.password.now right bytes job
job_of_order by track ups right bytes target order job is h =
    by_login (login_of by.track by.user.now by.password.now) (logins by) h
  where
    by_login : (o : Option (List Request)) → IfSome o (All (IsLogin by.user.now by.password.now))
        → ordered o (Some (target, order)) ≡ Some job
        → IsOrderJob track ups by.user.now by.password.now right bytes job
    by_login None all e = cc e
    by_login (Some front) all e =
        let same : (target, front ++ order ∷ [], forms.Value) ≡ job = cc e in
        record {
          front = front;
          order = order;
          requests_are = sym (ap (λ (j : JobParts). j.1) same);
          form_is = sym (ap (λ (j : JobParts). j.2) same);
          logins = all;
          its_order = is;
        }

pub set_job : (ups setting : Bor (List ℕ)) (by : Sender) (job : JobParts) (place : UpsPlace) (name value : List ℕ)
    → job_of (Set ups setting by) ≡ Some job → ups_place_of ups.now ≡ Some place
    → setting_of setting.now ≡ Some (name, value)
    → IsOrderJob by.track place.0 by.user.now by.password.now rights.Set (set_line name value) job
set_job ups setting by job place name value h p q =
    let lawful_set : IsSetting (name, value) = subst (λ o. IfSome o IsSetting) q (setting_read setting.now) in
    job_of_order by by.track place.0 rights.Set (set_line name value) place.1
    (set_request by.track place.0 name value) job
    (set_order_of by.track place.0 name value (place_lawful ups.now place p) lawful_set.0 lawful_set.1)
    (sym (ap (λ (o : Option UpsPlace). ordered (login_of by.track by.user.now by.password.now)
    (set_order by.track o (setting_of setting.now))) p
    ∙ ap (λ (o : Option (List ℕ × List ℕ)). ordered
    (login_of by.track by.user.now by.password.now) (set_order by.track (Some place) o)) q) ∙ h)

-- the value of a command, as it is given
value_same : (value : Option (Bor (List ℕ)))
    → IfSome (value_of (text_in value)) (λ v. v ≡ option_map (λ (x : Bor (List ℕ)). x.now) value)
value_same None = refl
value_same (Some text) = by (lawful (read_value text.now)) (read_same true text.now)
  where
    by : (o : Option (List ℕ)) → IfSome o (λ read. read ≡ text.now)
        → IfSome (option_map (λ v. Some v) o) (λ v. v ≡ Some text.now)
    by None h = tt
    by (Some v) h = ap Some h

pub command_job : (ups name : Bor (List ℕ)) (value : Option (Bor (List ℕ))) (by : Sender) (job : JobParts)
    (place : UpsPlace) → job_of (Command ups name value by) ≡ Some job → ups_place_of ups.now ≡ Some place
    → IsOrderJob by.track place.0 by.user.now by.password.now (right_to name.now)
    (instcmd_line name.now (option_map (λ (v : Bor (List ℕ)). v.now) value)) job
command_job ups name value by job place h p =
    by_words (lawful (read_name name.now)) (value_of (text_in value))
    (both_hold _ _ _ (name_read name.now) (name_same name.now))
    (both_hold _ _ _ (if_given value) (value_same value))
    (sym (ap (λ (o : Option UpsPlace). ordered (login_of by.track by.user.now by.password.now)
    (command_order by.track o (lawful (read_name name.now)) (value_of (text_in value)))) p) ∙ h)
  where
    given : Option (List ℕ)
    given = option_map (λ (v : Bor (List ℕ)). v.now) value

    by_words : (n : Option (List ℕ)) (v : Option (Option (List ℕ)))
        → IfSome n (λ word. (is_name word ≡ true) × (word ≡ name.now))
        → IfSome v (λ word. IfSome word (λ text. IsTrue (is_value text)) × (word ≡ given))
        → ordered (login_of by.track by.user.now by.password.now)
        (command_order by.track (Some place) n v) ≡ Some job
        → IsOrderJob by.track place.0 by.user.now by.password.now (right_to name.now)
        (instcmd_line name.now given) job
    by_words (Some n) (Some v) lawful_name lawful_value e =
        subst (λ (w : List ℕ). IsOrderJob by.track place.0 by.user.now by.password.now (right_to w)
        (instcmd_line w given) job) lawful_name.1
        (subst (λ (w : Option (List ℕ)). IsOrderJob by.track place.0 by.user.now by.password.now (right_to n)
        (instcmd_line n w) job) lawful_value.1
        (job_of_order by by.track place.0 (right_to n) (instcmd_line n v) place.1
        (command_request by.track place.0 n v) job
        (command_order_of by.track place.0 n v (place_lawful ups.now place p) lawful_name.0 lawful_value.0) e))
    by_words (Some n) None lawful_name lawful_value e =
        absurd (no_login (login_of by.track by.user.now by.password.now) e)
      where
        no_login : (o : Option (List Request)) → ordered o None ≡ Some job → ⊥
        no_login None k = cc k
        no_login (Some front) k = cc k
    by_words None v lawful_name lawful_value e = absurd (no_login (login_of by.track by.user.now by.password.now) e)
      where
        no_login : (o : Option (List Request)) → ordered o None ≡ Some job → ⊥
        no_login None k = cc k
        no_login (Some front) k = cc k
