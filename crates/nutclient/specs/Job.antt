-- The server, the requests and the output that a program's words ask for.
use Rattle.std.specs.Prelude.{ℕ, Bool, true, false, List, [], ◌∷◌, ◌++◌, ◌==◌, ◌&&◌, nat_le}
use Rattle.std.specs.Prelude.{length, Option, Some, None, option_map, if◌then◌else◌}
use Rattle.std.specs.List.{before_first, after_first}
use denote.Ref.{Bor}
use Rattle.nutwords.specs.Reading.{read_name, read_value}
use Rattle.nuttracking.specs.Id.{read_id}
use Rattle.nutrequest.specs.declared.request.Query.{Query}
use Rattle.nutrequest.specs.declared.request.Query.TheVariants.{Ups, Var, Rw, Cmd, Client}
use Rattle.nutrequest.specs.declared.request.Request.{Request}
use Rattle.nutrequest.specs.declared.request.Request.TheVariants.{List as ListOf, GetVar}
use Rattle.nutrequest.specs.declared.request.Request.TheVariants.{GetNumAttach}
use Rattle.nutrequest.specs.declared.request.Request.TheVariants.{Username, Password, SetVar}
use Rattle.nutrequest.specs.declared.request.Request.TheVariants.{Instcmd, SetTracking}
use Rattle.nutrequest.specs.declared.request.Request.TheVariants.{TrackedSetVar, TrackedInstcmd}
use Rattle.nutrequest.specs.declared.request.Request.TheVariants.{GetTracking}
use Rattle.nutclient.specs.Target.{lawful, both, has_byte, server_of, local_server, ups_place_of}
use Rattle.nutclient.specs.declared.limits.TheConstants.{USER_LIMIT, PASSWORD_LIMIT}
use Rattle.nutclient.specs.declared.job.Job.{Job}
use Rattle.nutclient.specs.declared.target.Target.{Target}
use Rattle.nutclient.specs.declared.form.Form.{Form}
use Rattle.nutclient.specs.declared.form.Form.TheVariants.{Name, Value, Colon, Equals}
use Rattle.nutclient.specs.declared.given.Given.{Given}
use Rattle.nutclient.specs.declared.given.Given.TheVariants as given

-- A UPS and its server.
abbrev pub UpsPlace : Type 0
UpsPlace = List ℕ × Target

abbrev pub JobParts : Type 0
JobParts = Target × List Request × Form

-- What a job is of.
abbrev pub parts_of : Job → JobParts
parts_of job = (job.target, job.requests.items, job.form)

-- A listing of a UPS.
abbrev pub listing_of : (List ℕ → Query) → Form → Option UpsPlace → Option JobParts
listing_of query form place = option_map (λ p. (p.1, ListOf (query p.0) ∷ [], form)) place

abbrev pub server_or_local : Option (List ℕ) → Option Target
server_or_local None = Some local_server
server_or_local (Some text) = server_of text

-- The UPSs of a server.
abbrev pub upses_of : Form → Option Target → Option JobParts
upses_of form server = option_map (λ target. (target, ListOf Ups ∷ [], form)) server

-- 1 to so many lawful bytes.
abbrev pub word_of : ℕ → List ℕ → Option (List ℕ)
word_of most text =
    if nat_le 1 (length text) && nat_le (length text) most then lawful (read_value text) else None

-- The asking for the ids of orders, where they are tracked.
abbrev pub tracking : Bool → List Request
tracking false = []
tracking true = SetTracking ∷ []

-- What an order is sent after.
abbrev pub login_of : Bool → (user password : List ℕ) → Option (List Request)
login_of track user password =
    both (λ user password. Username user ∷ Password password ∷ tracking track)
    (word_of USER_LIMIT user) (word_of PASSWORD_LIMIT password)

-- The variable and the value of `VAR=VALUE`, cut at the first equals sign.
abbrev pub setting_of : List ℕ → Option (List ℕ × List ℕ)
setting_of text =
    if has_byte 61 text
    then both (λ name value. (name, value)) (lawful (read_name (before_first (λ b. b == 61) text)))
    (lawful (read_value (after_first (λ b. b == 61) text)))
    else None

-- A value for a command, which may have none.
abbrev pub value_of : Option (List ℕ) → Option (Option (List ℕ))
value_of None = Some None
value_of (Some text) = option_map (λ value. Some value) (lawful (read_value text))

-- An order after these requests, at the server that it is for.
abbrev pub ordered : Option (List Request) → Option (Target × Request) → Option JobParts
ordered = both (λ before o. (o.0, before ++ o.1 ∷ [], Value))

-- The order to set a variable, and the one to do a command, tracked or not.
abbrev pub set_request : Bool → List ℕ → List ℕ → List ℕ → Request
set_request false ups name value = SetVar ups name value
set_request true ups name value = TrackedSetVar ups name value

abbrev pub command_request : Bool → List ℕ → List ℕ → Option (List ℕ) → Request
command_request false ups name value = Instcmd ups name value
command_request true ups name value = TrackedInstcmd ups name value

abbrev pub set_order : Bool → Option UpsPlace → Option (List ℕ × List ℕ)
    → Option (Target × Request)
set_order track = both (λ place set. (place.1, set_request track place.0 set.0 set.1))

-- A UPS, its server and a name.
abbrev pub named_place : Option UpsPlace → Option (List ℕ) → Option (UpsPlace × List ℕ)
named_place = both (λ place name. (place, name))

abbrev pub command_order : Bool → Option UpsPlace → Option (List ℕ) → Option (Option (List ℕ))
    → Option (Target × Request)
command_order track place name value =
    both (λ named v. (named.0.1, command_request track named.0.0 named.1 v))
    (named_place place name) value

-- The value of a variable.
abbrev pub variable_of : Option UpsPlace → Option (List ℕ) → Option JobParts
variable_of = both (λ p n. (p.1, GetVar p.0 n ∷ [], Value))

-- The number of the clients of a UPS.
abbrev pub count_of : Option UpsPlace → Option JobParts
count_of place = option_map (λ p. (p.1, GetNumAttach p.0 ∷ [], Value)) place

-- How far an order has come. The UPS names the server that is asked, and isn't sent.
abbrev pub tracked_of : Option UpsPlace → Option ℕ → Option JobParts
tracked_of = both (λ place id. (place.1, GetTracking id ∷ [], Value))

-- The job of each form of the programs' words, where they are lawful.
abbrev pub variables_job : List ℕ → Option JobParts
variables_job ups = listing_of Var Colon (ups_place_of ups)

abbrev pub variable_job : (ups name : List ℕ) → Option JobParts
variable_job ups name = variable_of (ups_place_of ups) (lawful (read_name name))

abbrev pub upses_job : Option (List ℕ) → Option JobParts
upses_job server = upses_of Name (server_or_local server)

abbrev pub descriptions_job : Option (List ℕ) → Option JobParts
descriptions_job server = upses_of Colon (server_or_local server)

abbrev pub clients_job : List ℕ → Option JobParts
clients_job ups = listing_of Client Name (ups_place_of ups)

abbrev pub attached_job : List ℕ → Option JobParts
attached_job ups = count_of (ups_place_of ups)

abbrev pub tracked_job : (ups id : List ℕ) → Option JobParts
tracked_job ups id = tracked_of (ups_place_of ups) (read_id id)

abbrev pub writable_job : List ℕ → Option JobParts
writable_job ups = listing_of Rw Equals (ups_place_of ups)

abbrev pub set_job : Bool → (ups setting user password : List ℕ) → Option JobParts
set_job track ups setting user password = ordered (login_of track user password)
    (set_order track (ups_place_of ups) (setting_of setting))

abbrev pub commands_job : List ℕ → Option JobParts
commands_job ups = listing_of Cmd Name (ups_place_of ups)

abbrev pub command_job : Bool → (ups name : List ℕ) → Option (List ℕ) → (user password : List ℕ)
    → Option JobParts
command_job track ups name value user password = ordered (login_of track user password)
    (command_order track (ups_place_of ups) (lawful (read_name name)) (value_of value))

abbrev pub text_in : Option (Bor (List ℕ)) → Option (List ℕ)
text_in = option_map (λ text. text.now)

-- What each of the programs' forms asks for, where its words are lawful.
abbrev pub job_of : Given → Option JobParts
job_of (given.Variables ups) = variables_job ups.now
job_of (given.Variable ups name) = variable_job ups.now name.now
job_of (given.Upses server) = upses_job (text_in server)
job_of (given.Descriptions server) = descriptions_job (text_in server)
job_of (given.Clients ups) = clients_job ups.now
job_of (given.Attached ups) = attached_job ups.now
job_of (given.Tracked ups id) = tracked_job ups.now id.now
job_of (given.Writable ups) = writable_job ups.now
job_of (given.Set ups setting by) =
    set_job by.track ups.now setting.now by.user.now by.password.now
job_of (given.Commands ups) = commands_job ups.now
job_of (given.Command ups name value by) =
    command_job by.track ups.now name.now (text_in value) by.user.now by.password.now
