-- What a program's words ask for is sent in requests that the server reads as that.
use Rattle.std.proofs.Common.{◌≡◌, ◌<◌, ◌^◌, ℕ, Bool, true, false, cond, leb, List}
use Rattle.std.proofs.Common.{[], ◌∷◌, length, Option, Some, None, Result, Ok, Err, IfSome}
use Rattle.std.proofs.Common.{refl, subst, arith}
use Rattle.std.specs.Prelude.{◌&&◌, ◌==◌, IsTrue, All, option_map}
use Rattle.std.specs.List.{before_first, after_first}
use Rattle.std.proofs.lemmas.Bool.Decides.{nat_tests}
use Rattle.std.proofs.lemmas.List.Elements.{All-nil, All-cons, All-push}
use denote.Ref.{Bor}
use Rattle.nutwords.specs.Bytes.{is_name_byte, is_lawful}
use Rattle.nutwords.specs.Reading.{read_name, read_value, is_name, is_ups_name, is_value}
use Rattle.nutwords.specs.declared.faults.BadName.{BadName}
use Rattle.nutwords.specs.declared.limits.TheConstants.{NAME_LIMIT, VALUE_LIMIT}
use Rattle.nuttracking.specs.Id.{read_id}
use Rattle.nuttracking.proofs.PublicLaws.{read_is_written}
use Rattle.nutrequest.specs.declared.request.Query.TheVariants as queries
use Rattle.nutrequest.specs.declared.request.Request.{Request}
use Rattle.nutrequest.specs.declared.request.Request.TheVariants as requests
use Rattle.nutclient.specs.Job.{UpsPlace, JobParts, server_or_local, upses_of, word_of, tracking}
use Rattle.nutclient.specs.Job.{login_of, setting_of, text_in, value_of, ordered, set_request}
use Rattle.nutclient.specs.Job.{command_request}
use Rattle.nutclient.specs.Target.{lawful, both, has_byte, ups_place_of}
use Rattle.nutclient.specs.declared.form.Form.{Form}
use Rattle.nutclient.specs.declared.form.Form.TheVariants as forms
use Rattle.nutclient.specs.declared.given.Sender.{Sender}
use Rattle.nutclient.specs.declared.given.Given.TheVariants as given
use Rattle.nutclient.specs.declared.limits.TheConstants.{USER_LIMIT, PASSWORD_LIMIT}
use Rattle.nutclient.specs.declared.target.Target.{Target}
use Rattle.endtoend.specs.Served.{IsReadAsAsked, EachRequestIsReadAsAsked}
use Rattle.endtoend.proofs.Handing.{lawful_read, of_both, place_read}
use Rattle.endtoend.proofs.Progress.{get_tracking_read}
use Rattle.endtoend.proofs.Requests.{IsWord, list_var_read, list_rw_read, list_cmd_read}
use Rattle.endtoend.proofs.Requests.{list_client_read, list_ups_read, num_attach_read, get_var_read}
use Rattle.endtoend.proofs.Requests.{set_read, command_read, username_read, password_read}
use Rattle.endtoend.proofs.Requests.{set_tracking_read}
use Rattle.endtoend.proofs.Texts.{text_same}
use Rattle.nutwords.proofs.BytesRead.{text_all}

-- what the words are read as
pub name_read : (text : List ℕ) → IfSome (lawful (read_name text)) (λ name. is_name name ≡ true)
name_read text = lawful_read is_name_byte false NAME_LIMIT text

value_read : (text : List ℕ) → IfSome (lawful (read_value text)) (λ value. is_value value ≡ true)
value_read text = lawful_read is_lawful true VALUE_LIMIT text

pub word_read : (most : ℕ) (text : List ℕ) → IfSome (word_of most text) (IsWord most)
word_read most text = by (leb 1 (length text) && leb (length text) most) refl
  where
    read_as : leb 1 (length text) && leb (length text) most ≡ true →
        (r : Result (List ℕ) BadName) → read_value text ≡ r → IfSome (lawful r) (IsWord most)
    read_as fits (Err bad) e = tt
    read_as fits (Ok read) e =
        let lawful_bytes = text_all is_lawful true VALUE_LIMIT text (rw e refl) in
        subst (IsWord most) (text_same is_lawful true VALUE_LIMIT text read e)
        (record { some = grind (arith, nat_tests); short = grind (arith, nat_tests); lawful = lawful_bytes })

    by : (b : Bool) → leb 1 (length text) && leb (length text) most ≡ b →
        IfSome (cond b (lawful (read_value text)) None) (IsWord most)
    by true e = read_as e (read_value text) refl
    by false e = tt

id_read : (text : List ℕ) → IfSome (read_id text) (λ id. id < 2 ^ 128)
id_read text = by (read_id text) refl
  where
    by : (o : Option ℕ) → read_id text ≡ o → IfSome o (λ id. id < 2 ^ 128)
    by None e = tt
    by (Some id) e = ((read_is_written text id).0 e).0

abbrev pub IsSetting : List ℕ × List ℕ → Type 0
IsSetting set = (is_name set.0 ≡ true) × (is_value set.1 ≡ true)

pub setting_read : (text : List ℕ) → IfSome (setting_of text) IsSetting
setting_read text = by (has_byte 61 text)
  where
    by : (b : Bool) → IfSome (cond b
        (both (λ name value. (name, value))
        (lawful (read_name (before_first (λ b. b == 61) text)))
        (lawful (read_value (after_first (λ b. b == 61) text)))) None) IsSetting
    by true = of_both _ _ _ IsSetting _ _ (name_read (before_first (λ b. b == 61) text))
        (value_read (after_first (λ b. b == 61) text)) (λ name value h k. (h, k))
    by false = tt

-- what each job sends
abbrev AreRead : JobParts → Type 0
AreRead parts = All IsReadAsAsked parts.1

one : (request : Request) → IsReadAsAsked request → All IsReadAsAsked (request ∷ [])
one request h = All-cons IsReadAsAsked request [] h (All-nil IsReadAsAsked)

of_place : (request : List ℕ → Request) (form : Form) (text : List ℕ) →
    ((ups : List ℕ) → is_ups_name ups ≡ true → IsReadAsAsked (request ups)) →
    IfSome (option_map (λ (p : UpsPlace). (p.1, request p.0 ∷ [], form)) (ups_place_of text)) AreRead
of_place request form text read = by (ups_place_of text) (place_read text)
  where
    by : (o : Option UpsPlace) → IfSome o (λ place. is_ups_name place.0 ≡ true) →
        IfSome (option_map (λ (p : UpsPlace). (p.1, request p.0 ∷ [], form)) o) AreRead
    by None h = tt
    by (Some place) h = one (request place.0) (read place.0 h)

of_server : (form : Form) (server : Option Target) → IfSome (upses_of form server) AreRead
of_server form None = tt
of_server form (Some target) = one (requests.List queries.Ups) list_ups_read

tracked : (track : Bool) → All IsReadAsAsked (tracking track)
tracked false = All-nil IsReadAsAsked
tracked true = one requests.SetTracking set_tracking_read

login : (by : Sender) → IfSome (login_of by.track by.user.now by.password.now) (All IsReadAsAsked)
login by =
    of_both _ (IsWord USER_LIMIT) (IsWord PASSWORD_LIMIT) (All IsReadAsAsked) _ _
    (word_read USER_LIMIT by.user.now) (word_read PASSWORD_LIMIT by.password.now)
    (λ u p h k. All-cons IsReadAsAsked (requests.Username u)
    (requests.Password p ∷ tracking by.track) (username_read u h)
    (All-cons IsReadAsAsked (requests.Password p) (tracking by.track) (password_read p k) (tracked by.track)))

of_order : (by : Sender) (o : Option (Target × Request)) → IfSome o (λ o. IsReadAsAsked o.1) →
    IfSome (ordered (login_of by.track by.user.now by.password.now) o) AreRead
of_order by o h =
    of_both _ (All IsReadAsAsked) (λ (o : Target × Request). IsReadAsAsked o.1) AreRead
    (login_of by.track by.user.now by.password.now) o (login by) h
    (λ before o all read. All-push IsReadAsAsked before o.1 all read)

pub set_asked : (track : Bool) (ups name value : List ℕ) → is_ups_name ups ≡ true →
    is_name name ≡ true → is_value value ≡ true → IsReadAsAsked (set_request track ups name value)
set_asked false ups name value h k v = set_read ups name value h k v
set_asked true ups name value h k v = set_read ups name value h k v

pub command_asked : (track : Bool) (ups name : List ℕ) (value : Option (List ℕ)) →
    is_ups_name ups ≡ true → is_name name ≡ true →
    IfSome value (λ v. IsTrue (is_value v)) → IsReadAsAsked (command_request track ups name value)
command_asked false ups name value h k v = command_read ups name value h k v
command_asked true ups name value h k v = command_read ups name value h k v

pub if_given : (value : Option (Bor (List ℕ))) →
    IfSome (value_of (text_in value)) (λ v. IfSome v (λ text. IsTrue (is_value text)))
if_given None = tt
if_given (Some text) = by (lawful (read_value text.now)) (value_read text.now)
  where
    by : (o : Option (List ℕ)) → IfSome o (λ v. is_value v ≡ true) →
        IfSome (option_map (λ v. Some v) o) (λ v. IfSome v (λ text. IsTrue (is_value text)))
    by None h = tt
    by (Some v) h = h

pub each_read : EachRequestIsReadAsAsked
each_read (given.Variables ups) = of_place (λ u. requests.List (queries.Var u)) forms.Colon ups.now list_var_read
each_read (given.Variable ups name) = of_both _ (λ place. is_ups_name place.0 ≡ true)
    (λ n. is_name n ≡ true) AreRead _ _ (place_read ups.now) (name_read name.now)
    (λ p n h k. one (requests.GetVar p.0 n) (get_var_read p.0 n h k))
each_read (given.Upses server) = of_server forms.Name (server_or_local (text_in server))
each_read (given.Descriptions server) = of_server forms.Colon (server_or_local (text_in server))
each_read (given.Clients ups) = of_place (λ u. requests.List (queries.Client u)) forms.Name ups.now list_client_read
each_read (given.Attached ups) = of_place (λ u. requests.GetNumAttach u) forms.Value ups.now num_attach_read
each_read (given.Tracked ups id) = of_both _ (λ place. is_ups_name place.0 ≡ true) (λ i. i < 2 ^ 128)
    AreRead _ _ (place_read ups.now) (id_read id.now) (λ p i h k. one (requests.GetTracking i) (get_tracking_read i k))
each_read (given.Writable ups) = of_place (λ u. requests.List (queries.Rw u)) forms.Equals ups.now list_rw_read
each_read (given.Set ups setting by) =
    of_order by _
    (of_both _ (λ place. is_ups_name place.0 ≡ true) IsSetting (λ o. IsReadAsAsked o.1) _ _
    (place_read ups.now) (setting_read setting.now) (λ p set h k. set_asked by.track p.0 set.0 set.1 h k.0 k.1))
each_read (given.Commands ups) = of_place (λ u. requests.List (queries.Cmd u)) forms.Name ups.now list_cmd_read
each_read (given.Command ups name value by) =
    of_order by _
    (of_both _ (λ (named : UpsPlace × List ℕ). (is_ups_name named.0.0 ≡ true) ×
    (is_name named.1 ≡ true)) (λ v. IfSome v (λ text. IsTrue (is_value text))) (λ o. IsReadAsAsked o.1) _ _
    (of_both _ (λ place. is_ups_name place.0 ≡ true) (λ n. is_name n ≡ true)
    (λ named. (is_ups_name named.0.0 ≡ true) × (is_name named.1 ≡ true)) _ _
    (place_read ups.now) (name_read name.now) (λ p n h k. (h, k))) (if_given value)
    (λ named v h k. command_asked by.track named.0.0 named.1 v h.0 h.1 k))
