-- What becomes of a script that is replayed over what the configuration files mean.
use Rattle.std.specs.Prelude.{◌≡◌, ◌⊎◌, ℕ, List, Option, Some, None, Result, Ok, Err}
use denote.Ref.{Bor}
use Rattle.nutio.specs.Ends.{Written, WriteFailed}
use Rattle.nutcore.specs.Server.{ServerState, new_server}
use Rattle.nutreplay.specs.Script.{first_bad_line, max_age_of}
use Rattle.nutreplay.specs.Transcript.{IsOutput}
use Rattle.nutreplay.specs.declared.replaying.ReplayFault.{ReplayFault}
use Rattle.nutreplay.specs.declared.replaying.ReplayFault.TheVariants as faults
use Rattle.upsd.specs.declared.ending.Ending.{Ending}
use Rattle.upsd.specs.declared.ending.Ending.TheVariants as endings
use Rattle.upsd.specs.declared.files.Configuration.{Configuration}
use Rattle.upsd.specs.declared.files.Files.{Files}
use Rattle.upsd.specs.Ending.{ending_of_replay}
use Rattle.upsd.specs.Reading.{Readings, CantBeRead, replayed_lines}
use Rattle.upsd.specs.Configuration.{AreMeant, FirstFails}

-- What replaying the script over this server gave, and what the writer took.
abbrev pub IsReplay : {W : Type 0} → (W → Option (List ℕ)) → (W → ℕ) → ServerState → List ℕ → W
    → Result (Unit {0}) ReplayFault → W → Type 0
IsReplay contents failures s script old (Ok u) new = (first_bad_line s.list script ≡ None)
    × ((output : List ℕ) × IsOutput s script output × Written contents failures old output new)
IsReplay contents failures s script old (Err (faults.BadEvent n)) new =
    (first_bad_line s.list script ≡ Some n) × (new ≡ old)
IsReplay contents failures s script old (Err faults.Memory) new = new ≡ old
IsReplay contents failures s script old (Err faults.Write) new =
    (first_bad_line s.list script ≡ None)
    × ((output : List ℕ) × IsOutput s script output × WriteFailed contents failures old output new)

-- How the replay of these lines of a script ends.
abbrev pub EndsReplay : {W : Type 0} → (W → Option (List ℕ)) → (W → ℕ) → ServerState → List ℕ
    → Bor (List ℕ) → W → Result (Unit {0}) Ending → W → Type 0
EndsReplay contents failures s lines script old (Ok u) new =
    IsReplay contents failures s lines old (Ok tt) new
EndsReplay contents failures s lines script old (Err ending) new =
    (fault : ReplayFault) × (ending ≡ ending_of_replay script fault)
    × IsReplay contents failures s lines old (Err fault) new

-- The script was read, and its lines were replayed, without a cut one, over a new server of this configuration,
-- of the greatest age that the script says. `gives` is what reading the file of a path gives.
pub record ReplaysOver {W : Type 0} (contents : W → Option (List ℕ)) (failures : W → ℕ)
    (gives : Readings) (c : Configuration) (script : Bor (List ℕ)) (old : W)
    (replayed : Result (Unit {0}) ReplayFault) (new : W) : Type 0 where
  pub bytes : List ℕ
  pub read : gives script.now (Ok bytes)
  pub gave : IsReplay contents failures
      (new_server c.list c.users c.descriptions (max_age_of (replayed_lines bytes)))
      (replayed_lines bytes) old replayed new

-- It was replayed over what the files mean.
pub record Replays {W : Type 0} (contents : W → Option (List ℕ)) (failures : W → ℕ)
    (gives : Readings) (files : Files) (script : Bor (List ℕ)) (old : W)
    (replayed : Result (Unit {0}) ReplayFault) (new : W) : Type 0 where
  pub configuration : Configuration
  pub meant : AreMeant gives files configuration
  pub over : ReplaysOver contents failures gives configuration script old replayed new

-- The script can't be read, or memory is refused.
abbrev pub FailsOver : Readings → Bor (List ℕ) → Ending → Type 0
FailsOver gives script ending = CantBeRead gives script ending ⊎ (ending ≡ endings.Memory)

-- How the replay of a script over this configuration ends.
abbrev pub EndsOver : {W : Type 0} → (W → Option (List ℕ)) → (W → ℕ) → Readings → Configuration
    → Bor (List ℕ) → W → Result (Unit {0}) Ending → W → Type 0
EndsOver contents failures gives c script old (Ok u) new =
    ReplaysOver contents failures gives c script old (Ok tt) new
EndsOver contents failures gives c script old (Err ending) new =
    (FailsOver gives script ending × (new ≡ old))
    ⊎ ((fault : ReplayFault) × (ending ≡ ending_of_replay script fault)
    × ReplaysOver contents failures gives c script old (Err fault) new)

-- The ending is about the first of the files that fails, the script last, or says that memory is
-- refused.
abbrev pub FailsBefore : Readings → Files → Bor (List ℕ) → Ending → Type 0
FailsBefore gives files script ending = FirstFails gives files ending
    ⊎ ((c : Configuration) × AreMeant gives files c × FailsOver gives script ending)
