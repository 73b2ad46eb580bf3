-- What holds of every server that events made of a new one.
use Rattle.std.specs.Prelude.{◌≡◌, ◌≤◌, ℕ, true, false, List, [], ◌∷◌, None, length, ◌+◌}
use Rattle.nutwords.specs.declared.limits.TheConstants.{LINE_LIMIT}
use Rattle.nutwords.specs.SplitLine.{split_line}
use Rattle.nuttracking.specs.Sound.{IsSoundTracking, HaveLawfulNumbers}
use Rattle.nutdriver.specs.Sound.{IsSoundTree}
use Rattle.nutusers.specs.declared.limits.TheConstants.{SESSION_LIMIT}
use Rattle.nutusers.specs.UpsList.{Ups, IsList}
use Rattle.nutusers.specs.Users.{User}
use Rattle.nutusers.specs.Descriptions.{Descriptions, AreLawful}
use Rattle.nutcore.specs.declared.TheConstants.{HELD_LIMIT, DRIVER_OWED_LIMIT}
use Rattle.nutcore.specs.declared.max_age.TheConstants.{MAX_AGE_LEAST, MAX_AGE_MOST}
use Rattle.nutcore.specs.declared.event.Event.{Event}
use Rattle.nutcore.specs.declared.event.Outcome.{Outcome}
use Rattle.nutcore.specs.Session.{SessionState}
use Rattle.nutcore.specs.Ups.{UpsState, new_ups}
use Rattle.nutcore.specs.Server.{ServerState, new_server}
use Rattle.nutcore.specs.Step.{Step}
use Rattle.nutcore.specs.Run.{Run}
use Rattle.nutcore.specs.Headline.{IsLawful}

-- The ids of the sessions rise: the first is at least this one, each other one is above the one
-- before it, and all are below the next one.
abbrev pub IdsRise : ℕ → ℕ → List SessionState → Type 0
IdsRise least next [] = least ≤ next
IdsRise least next (x ∷ xs) = (least ≤ x.id) × IdsRise (x.id + 1) next xs

-- It holds of each of them.
abbrev pub Each : {A : Type 0} → (A → Type 0) → List A → Type 0
Each P [] = Unit {0}
Each P (x ∷ xs) = P x × Each P xs

-- A session: it holds no more than it may; one that is ending holds nothing, and is logged in to
-- nothing.
pub record IsSoundSession (x : SessionState) : Type 0 where
  pub held : length x.held ≤ HELD_LIMIT
  pub ending : x.ending ≡ true → (x.held ≡ []) × (x.login ≡ None)

-- A UPS, at this moment: the tree that its driver reported is sound; nothing was heard or asked
-- later than now; its driver is owed no more than it may be, and of its next line no more came than
-- a line may have, and no LF; and where no driver is connected, none has reported or been asked
-- anything, nothing came of a line, and nothing is owed: it is a new one except for a forced
-- shutdown and the count of faults.
pub record IsSoundUps (moment : ℕ) (x : UpsState) : Type 0 where
  pub tree : IsSoundTree x.report.tree
  pub heard : x.report.heard ≤ moment
  pub pinged : x.pinged ≤ moment
  pub owed : length x.owed ≤ DRIVER_OWED_LIMIT
  pub unfinished : length x.unfinished ≤ LINE_LIMIT
  pub one_line : split_line x.unfinished ≡ None
  pub lost : x.report.connected ≡ false → x ≡ record new_ups { fsd = x.fsd; faulty = x.faulty }

-- The seconds are a greatest age of what a driver reported: from 3 to 86,400.
abbrev pub IsMaxAge : ℕ → Type 0
IsMaxAge seconds = (MAX_AGE_LEAST ≤ seconds) × (seconds ≤ MAX_AGE_MOST)

-- A server: its greatest age is one; the UPSs of its list are lawful, their names rise, and there
-- are no more than there may be; its descriptions are lawful; a state for each UPS of the list; at
-- most 64 sessions, whose ids rise from 1; all of them sound; and an id stands for one order, done
-- with a lawful number.
pub record IsSound (s : ServerState) : Type 0 where
  pub max_age : IsMaxAge s.max_age
  pub list : IsList s.list
  pub descriptions : AreLawful s.descriptions
  pub named : length s.upses ≡ length s.list
  pub few : length s.sessions ≤ SESSION_LIMIT
  pub ids : IdsRise 1 s.next_id s.sessions
  pub sessions : Each IsSoundSession s.sessions
  pub upses : Each (IsSoundUps s.moment) s.upses
  pub tracking : IsSoundTracking s.tracking
  pub numbers : HaveLawfulNumbers s.tracking.orders

-- Of every list of UPSs, as each that was read is one, all lawful descriptions, as those that were
-- read are, and every greatest age, as each `MaxAge` is.
abbrev pub ANewServerIsSound : Type 0
ANewServerIsSound =
    (list : List Ups) (users : List User) (descriptions : Descriptions) (max_age : ℕ) → IsList list
    → AreLawful descriptions → IsMaxAge max_age
    → IsSound (new_server list users descriptions max_age)

abbrev pub EachEventKeepsTheServerSound : Type 0
EachEventKeepsTheServerSound =
    (old new : ServerState) (event : Event) (outcome : Outcome) → Step old event outcome new
    → IsSound old → IsSound new

abbrev pub EveryRunKeepsTheServerSound : Type 0
EveryRunKeepsTheServerSound =
    (old new : ServerState) (events : List Event) (outcomes : List Outcome)
    → Run old events outcomes new → IsSound old → IsSound new

-- So the premise of the laws of every run holds of it.
abbrev pub ASoundServerIsLawful : Type 0
ASoundServerIsLawful = (s : ServerState) → IsSound s → IsLawful s
