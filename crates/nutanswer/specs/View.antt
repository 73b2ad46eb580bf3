-- The part of a server, and of the asking session, that an answer may look at.
use Rattle.std.specs.Prelude.{ℕ, ◌-◌, ◌==◌, Bool, false, not, ◌||◌, nat_lt, count_by, map, filter}
use Rattle.std.specs.Prelude.{List, Option, if◌then◌else◌}
use Rattle.std.specs.Option.{option_copied, option_map_or}
use Rattle.nuttracking.specs.Tracking.{TrackingState}
use Rattle.nutdriver.specs.declared.report.Report.{Report}
use Rattle.nutusers.specs.UpsList.{Ups}
use Rattle.nutusers.specs.Users.{User}
use Rattle.nutusers.specs.Descriptions.{Descriptions}
use Rattle.nutusers.specs.declared.ups_list.UpsId.{UpsId}
use Rattle.nutanswer.specs.declared.view.Asker.{Asker}
use Rattle.nutanswer.specs.declared.view.UpsView.{UpsView}

-- A UPS: what its driver has reported, whether a forced shutdown is set, and how many bytes more
-- its driver may be owed.
pub record UpsSeen : Type 0 where
  pub report : Report
  pub fsd : Bool
  pub free : ℕ

-- An open session: the client's address, and the UPS that it is logged in to.
pub record ClientSeen : Type 0 where
  pub address : List ℕ
  pub login : Option UpsId

-- The moment and the greatest age, in seconds; the list of UPSs, and what is known of each, in the
-- order of the list; the users; the descriptions of variables and commands; the open sessions, in
-- the order of opening; the available ids, and the tracked orders that are kept.
pub record Seen : Type 0 where
  pub moment : ℕ
  pub max_age : ℕ
  pub list : List Ups
  pub upses : List UpsSeen
  pub users : List User
  pub descriptions : Descriptions
  pub clients : List ClientSeen
  pub tracking : TrackingState

-- The session that asks: the user name and the password that it has given, the UPS that it is
-- logged in to, and whether its orders are tracked.
pub record AskerSeen : Type 0 where
  pub username : Option (List ℕ)
  pub password : Option (List ℕ)
  pub login : Option UpsId
  pub tracking : Bool

-- The UPS that a view shows.
abbrev pub ups_seen : UpsView → UpsSeen
ups_seen u = record { report = u.report.now; fsd = u.fsd; free = u.free }

-- The session that a view shows.
abbrev pub asker_seen : Asker → AskerSeen
asker_seen a =
    record {
      username = option_copied a.username;
      password = option_copied a.password;
      login = a.login;
      tracking = a.tracking;
    }

abbrev pub is_logged_in : UpsId → ClientSeen → Bool
is_logged_in u client = option_map_or (λ v. v.place == u.place) client.login false

-- How many of the sessions are logged in to the UPS.
abbrev pub login_count : UpsId → List ClientSeen → ℕ
login_count u clients = count_by (is_logged_in u) clients

-- The addresses of those that are, in the order of opening.
abbrev pub addresses_at : UpsId → List ClientSeen → List (List ℕ)
addresses_at u clients = map (λ client. client.address) (filter (is_logged_in u) clients)

-- Whether clients see what the driver has reported.
pub data Readiness : Type 0 where
  not_connected : Readiness
  stale : Readiness
  usable : Readiness

-- A connected UPS is stale until all was reported and the driver says that its data are right, and
-- where nothing was heard for more than the greatest age (upsd.conf(5): MAXAGE).
abbrev pub readiness : ℕ → ℕ → Report → Readiness
readiness moment max_age x =
    if not x.connected then not_connected
    else if not x.dumped || (not x.ok || nat_lt max_age (moment - x.heard)) then stale
    else usable
