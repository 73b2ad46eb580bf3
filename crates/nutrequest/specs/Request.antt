-- The requests of a client, and the line of each (RFC 9271).
use Rattle.std.specs.Prelude.{ℕ, Bool, true, false, List, [], ◌∷◌, Option, Some, None, option_map}
use Rattle.std.specs.Prelude.{option_to_list, codes, unwrap_or}
use Rattle.nutwords.specs.Frame.{line_of}
use Rattle.nutwords.specs.Spelling.{quoted}
use Rattle.nuttracking.specs.Id.{id_text}
use Rattle.nutrequest.specs.declared.request.Query.{Query}
use Rattle.nutrequest.specs.declared.request.Query.TheVariants.{Ups, Var, Rw, Cmd, Client}
use Rattle.nutrequest.specs.declared.request.Request.{Request}
use Rattle.nutrequest.specs.declared.request.Request.TheVariants.{List as ListOf, GetVar}
use Rattle.nutrequest.specs.declared.request.Request.TheVariants.{GetNumAttach}
use Rattle.nutrequest.specs.declared.request.Request.TheVariants.{Username, Password, SetVar}
use Rattle.nutrequest.specs.declared.request.Request.TheVariants.{Instcmd, SetTracking}
use Rattle.nutrequest.specs.declared.request.Request.TheVariants.{TrackedSetVar, TrackedInstcmd}
use Rattle.nutrequest.specs.declared.request.Request.TheVariants.{GetTracking}

-- The word of a listing's kind.
abbrev pub kind_of : Query → List ℕ
kind_of Ups = codes "UPS"
kind_of (Var ups) = codes "VAR"
kind_of (Rw ups) = codes "RW"
kind_of (Cmd ups) = codes "CMD"
kind_of (Client ups) = codes "CLIENT"

-- The UPS whose items they are.
abbrev pub ups_of : Query → Option (List ℕ)
ups_of Ups = None
ups_of (Var ups) = Some ups
ups_of (Rw ups) = Some ups
ups_of (Cmd ups) = Some ups
ups_of (Client ups) = Some ups

abbrev pub name_of_ups : Query → List ℕ
name_of_ups query = unwrap_or (ups_of query) []

-- Whether its items have a value or a description.
abbrev pub has_value : Query → Bool
has_value Ups = true
has_value (Var ups) = true
has_value (Rw ups) = true
has_value (Cmd ups) = false
has_value (Client ups) = false

-- The words after LIST, BEGIN LIST and END LIST, which each item begins with, too.
abbrev pub asked_words : Query → List (List ℕ)
asked_words query = kind_of query ∷ option_to_list (ups_of query)

-- The words of an order to set a variable, and of one to do a command.
abbrev pub set_words : List ℕ → List ℕ → List ℕ → List (List ℕ)
set_words ups name value = codes "SET" ∷ codes "VAR" ∷ ups ∷ name ∷ quoted value ∷ []

abbrev pub instcmd_words : List ℕ → List ℕ → Option (List ℕ) → List (List ℕ)
instcmd_words ups name value =
    codes "INSTCMD" ∷ ups ∷ name ∷ option_to_list (option_map quoted value)

-- The words of a request, as they are written. A tracked order is written as any other.
abbrev pub request_words : Request → List (List ℕ)
request_words (ListOf query) = codes "LIST" ∷ asked_words query
request_words (GetVar ups name) = codes "GET" ∷ codes "VAR" ∷ ups ∷ name ∷ []
request_words (GetNumAttach ups) = codes "GET" ∷ codes "NUMATTACH" ∷ ups ∷ []
request_words (Username user) = codes "USERNAME" ∷ quoted user ∷ []
request_words (Password password) = codes "PASSWORD" ∷ quoted password ∷ []
request_words (SetVar ups name value) = set_words ups name value
request_words (Instcmd ups name value) = instcmd_words ups name value
request_words SetTracking = codes "SET" ∷ codes "TRACKING" ∷ codes "ON" ∷ []
request_words (TrackedSetVar ups name value) = set_words ups name value
request_words (TrackedInstcmd ups name value) = instcmd_words ups name value
request_words (GetTracking id) = codes "GET" ∷ codes "TRACKING" ∷ id_text id ∷ []

-- The name of the UPS that a request is about, and the one of the variable or command: nothing
-- where it has none.
abbrev pub names_of : Request → List ℕ × List ℕ
names_of (ListOf query) = (name_of_ups query, [])
names_of (GetVar ups name) = (ups, name)
names_of (GetNumAttach ups) = (ups, [])
names_of (SetVar ups name value) = (ups, name)
names_of (Instcmd ups name value) = (ups, name)
names_of (TrackedSetVar ups name value) = (ups, name)
names_of (TrackedInstcmd ups name value) = (ups, name)
names_of _ = ([], [])

-- The line of a request, with its LF.
abbrev pub request_line : Request → List ℕ
request_line request = line_of (request_words request)
