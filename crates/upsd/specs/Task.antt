-- What the program is to do, by the words that were found after a subcommand.
use Rattle.std.specs.Prelude.{◌≡◌, ◌⊎◌, ◌<◌, ◌≤◌, ◌^◌, ℕ, List, [], Option, Some, None, codes}
use Rattle.std.specs.Prelude.{length, slice_get, unwrap_or}
use Rattle.std.specs.Option.{option_map, option_map_or}
use Rattle.std.specs.Str.Parse.{IsNumeral, digits_value, without_leading_plus}
use Rattle.std.specs.Net.Grammar.{IsSocketText}
use Rattle.std.specs.declared.net.socket_addr.SocketAddr.{SocketAddr}
use Rattle.clap.specs.Words.{Text, found_of, first_value, matched_of, one_text, raw_values, rows_of, subcommand_name_of}
use Rattle.clap.specs.Words.{subcommand_rows_of}
use Rattle.clap.specs.declared.parser.matches.ArgMatches.{ArgMatches}
use Rattle.nutargs.specs.Words.{IsFlag}
use Rattle.nutcore.specs.Limits.{read_max_age}
use Rattle.nutcore.specs.declared.max_age.TheConstants.{MAX_AGE_DEFAULT}
use Rattle.upsd.specs.declared.task.TheConstants.{RECORD_MIB}
use Rattle.nutloop.specs.declared.over_mio.door.TheConstants.{DOOR_LIMIT}
use Rattle.upsd.specs.declared.task.Addresses.{Addresses}
use Rattle.upsd.specs.declared.task.Service.{Service}
use Rattle.upsd.specs.declared.task.Task.{Task}
use Rattle.upsd.specs.declared.task.Task.TheVariants.{Serve, Replay}
use Rattle.upsd.specs.declared.files.Files.{Files}

-- The files are those that the words name after --ups, --users, --vars, --ids and --record.
pub record AreNamedIn (found : ArgMatches) (files : Files) : Type 0 where
  pub ups : option_map (λ s. s.now) files.ups ≡ first_value (found_of found) (codes "ups")
  pub users : option_map (λ s. s.now) files.users ≡ first_value (found_of found) (codes "users")
  pub vars : option_map (λ s. s.now) files.vars ≡ first_value (found_of found) (codes "vars")
  pub ids : option_map (λ s. s.now) files.ids ≡ first_value (found_of found) (codes "ids")
  pub to_record : option_map (λ s. s.now) files.to_record
      ≡ first_value (found_of found) (codes "record")

-- The addresses are written after --listen, each in its place, and are as many as may be listened
-- at.
abbrev pub texts_in : ArgMatches → Text → List Text
texts_in found name = unwrap_or (option_map raw_values (matched_of (found_of found) name)) []

abbrev pub text_at : List Text → ℕ → Text
text_at texts place = unwrap_or (slice_get texts place) []

pub record AreAddresses (texts : List Text) (addresses : Addresses) : Type 0 where
  pub count : length texts ≡ addresses.count
  pub some : 0 < addresses.count
  pub most : addresses.count ≤ DOOR_LIMIT
  pub each : (place : ℕ) → place < addresses.count
      → (address : SocketAddr) × (slice_get addresses.list place ≡ Some address)
      × IsSocketText (text_at texts place) address

abbrev pub AreAddressesIn : ArgMatches → Addresses → Type 0
AreAddressesIn found addresses = AreAddresses (texts_in found (codes "listen")) addresses

-- The text is digits that write for how many seconds a client may be silent.
abbrev pub IsIdle : Option Text → Option ℕ → Type 0
IsIdle None idle = idle ≡ None
IsIdle (Some text) idle = IsNumeral 10 (without_leading_plus text)
    × (idle ≡ Some (digits_value 10 (without_leading_plus text)))
    × (digits_value 10 (without_leading_plus text) < 2 ^ 64)

abbrev pub IsIdleIn : ArgMatches → Option ℕ → Type 0
IsIdleIn found idle = IsIdle (one_text (found_of found) (codes "idle")) idle

-- The text is digits that write how many places are kept; without it none is.
abbrev pub AreKeptPlaces : Option Text → ℕ → Type 0
AreKeptPlaces None kept = kept ≡ 0
AreKeptPlaces (Some text) kept = IsNumeral 10 (without_leading_plus text)
    × (kept ≡ digits_value 10 (without_leading_plus text)) × (kept < 2 ^ 64)

abbrev pub AreKeptPlacesIn : ArgMatches → ℕ → Type 0
AreKeptPlacesIn found kept = AreKeptPlaces (one_text (found_of found) (codes "keep-places")) kept

-- The text, which may begin with a plus, is digits that write so many seconds as the greatest age
-- may have; without it these are 15.
abbrev pub IsMaxAge : Option (List ℕ) → ℕ → Type 0
IsMaxAge None age = read_max_age MAX_AGE_DEFAULT ≡ Some age
IsMaxAge (Some text) age = IsNumeral 10 (without_leading_plus text)
    × (read_max_age (digits_value 10 (without_leading_plus text)) ≡ Some age)

-- The greatest age is that after --maxage.
abbrev pub IsMaxAgeIn : ArgMatches → ℕ → Type 0
IsMaxAgeIn found age = IsMaxAge (one_text (found_of found) (codes "maxage")) age

-- The text is digits that write the MiB of a record; without it these are 64.
abbrev pub IsRecordLimit : Option (List ℕ) → ℕ → Type 0
IsRecordLimit None limit = limit ≡ RECORD_MIB
IsRecordLimit (Some text) limit = IsNumeral 10 (without_leading_plus text)
    × (limit ≡ digits_value 10 (without_leading_plus text)) × (limit < 2 ^ 64)

abbrev pub IsRecordLimitIn : ArgMatches → ℕ → Type 0
IsRecordLimitIn found limit = IsRecordLimit (one_text (found_of found) (codes "record-limit")) limit

pub record IsServiceIn (found : ArgMatches) (service : Service) : Type 0 where
  pub addresses : AreAddressesIn found service.addresses
  pub idle : IsIdleIn found service.idle
  pub kept_places : AreKeptPlacesIn found service.kept_places
  pub refills_ids : IsFlag found (codes "refill-ids") service.refills_ids
  pub max_age : IsMaxAgeIn found service.max_age
  pub record_limit : IsRecordLimitIn found service.record_limit
  pub priorities : IsFlag found (codes "priorities") service.priorities
  pub nut_bytes : IsFlag found (codes "nut-bytes") service.nut_bytes

-- The task is to serve over the files, as it was found.
abbrev pub IsServing : ArgMatches → Task → Type 0
IsServing found (Serve files service) = AreNamedIn found files × IsServiceIn found service
IsServing found (Replay files script) = ⊥

-- The task is to replay the script that was found, over the files that were.
abbrev pub IsReplaying : ArgMatches → Task → Type 0
IsReplaying found (Serve files service) = ⊥
IsReplaying found (Replay files script) = AreNamedIn found files
    × (first_value (found_of found) (codes "SCRIPT") ≡ Some script.now)

-- By this name and what was found after it nothing is asked for.
pub record IsNoTask (name : List ℕ) (found : ArgMatches) : Type 0 where
  pub serve : name ≡ codes "serve" → (service : Service) → ¬ (IsServiceIn found service)
  pub replay : name ≡ codes "replay" → first_value (found_of found) (codes "SCRIPT") ≡ None

-- This was found after the name of the subcommand, which is this one.
pub record IsFoundAfter (text : List ℕ) (words found : ArgMatches) : Type 0 where
  pub name : subcommand_name_of words ≡ Some text
  pub rows : option_map (λ p. p.1) (subcommand_rows_of words) ≡ Some (rows_of (found_of found))

-- No task is named, or what was found after its name doesn't ask for it.
abbrev pub AsksNothing : ArgMatches → Type 0
AsksNothing words = (subcommand_name_of words ≡ None)
    ⊎ ((name : List ℕ) × ((found : ArgMatches) × IsFoundAfter name words found
    × IsNoTask name found))
