-- What the sockets answer, and what they report of it.
use Rattle.std.specs.Prelude.{◌≡◌, ◌≤◌, ◌<◌, ◌⊎◌, ℕ, suc, Bool, true, List, [], ◌∷◌, ◌++◌, ⊤, Option}
use Rattle.std.specs.Prelude.{Some, None, Result, Ok, Err, length, take}
use Rattle.std.specs.Option.{option_map}
use Rattle.nutcore.specs.declared.event.Peer.{Peer}
use Rattle.nutcore.specs.Server.{ServerState}
use Rattle.nutio.specs.Ends.{counted}
use Rattle.nutloop.specs.declared.over_mio.pass.Pass.{Pass}
use Rattle.nutloop.specs.declared.over_mio.pass.Stop.{Stop}
use Rattle.nutloop.specs.declared.sockets.Call.{Call}
use Rattle.nutloop.specs.declared.sockets.Call.TheVariants.{Looked, Readied, Gave, Waits, Ended}
use Rattle.nutloop.specs.declared.sockets.Got.{Got}
use Rattle.nutloop.specs.declared.sockets.Got.TheVariants.{Bytes, Later, End}
use Rattle.nutloop.specs.declared.sockets.Ready.{Ready}
use Rattle.nutloop.specs.declared.sockets.Ready.TheVariants.{Nothing, Tick, Id}
use Rattle.nutloop.specs.Pass.{HasNext, HasTurn, IsOver, fresh}

-- What is reported of a read: how many bytes were asked for, as many as there is room for, and what
-- the peer gave.
abbrev pub read_call : Peer → List ℕ → Got → Call
read_call p into (Bytes n) = Gave p (length into) (take n into)
read_call p into Later = Waits p (length into)
read_call p into End = Ended p (length into)

-- A read gives no more than there is room for.
abbrev pub AtMost : {E : Type 0} → Result Got E → List ℕ → Type 0
AtMost (Ok (Bytes n)) into = n ≤ length into
AtMost (Ok Later) into = ⊤
AtMost (Ok End) into = ⊤
AtMost (Err e) into = ⊤

-- How far sockets have come: in a pass over the peers; the second that the clock had at the last
-- look; and how many ids are still to be handed in.
pub record Progress : Type 0 where
  pub pass : Pass
  pub second : ℕ
  pub ids : ℕ

-- With that, at which stops something may be done with this server, and what a turn does there.
pub record Passing : Type 0 where
  pub so_far : Progress
  pub may : ServerState → Stop → Bool
  pub ready_at : ServerState → Stop → Ready

-- What sockets report: the calls that were answered, where they are known; how many calls failed;
-- and how far they have come, where they make passes.
pub record Told : Type 0 where
  pub calls : Option (List Call)
  pub failures : ℕ
  pub passing : Option Passing

abbrev pub progress_of : Option Passing → Option Progress
progress_of passing = option_map (λ p. p.so_far) passing

-- The calls grow by these, or are known no more from here on.
abbrev pub Follows : Option (List Call) → List Call → Option (List Call) → Type 0
Follows None more None = ⊤
Follows None more (Some ys) = ⊥
Follows (Some xs) more None = ⊤
Follows (Some xs) more (Some ys) = ys ≡ xs ++ more

-- These calls are answered, and nothing else changes but the count of the calls that failed.
pub record Reports (count : ℕ → ℕ) (old : Told) (calls : List Call) (new : Told) : Type 0 where
  pub follows : Follows old.calls calls new.calls
  pub failures : new.failures ≡ count old.failures
  pub progress : progress_of new.passing ≡ progress_of old.passing

-- None of them failed.
abbrev pub none_failed : ℕ → ℕ
none_failed n = n

abbrev pub Answers : Told → List Call → Told → Type 0
Answers old calls new = Reports none_failed old calls new

-- A call that is answered is reported, and one that fails is counted.
abbrev pub ReportsCall : {T E : Type 0} → Told → (T → Call) → Result T E → Told → Type 0
ReportsCall old call (Ok x) new = Answers old (call x ∷ []) new
ReportsCall old call (Err e) new = Reports counted old [] new

-- The next turn of the pass, or of one that begins without a look.
abbrev pub HasNextTurn : ServerState → Passing → Ready → Passing → Type 0
HasNextTurn s old ready new =
    (visited : Stop) × (ready ≡ old.ready_at s visited)
    × HasNext (old.may s) old.so_far.pass visited new.so_far.pass
    × (new.so_far.second ≡ old.so_far.second) × (new.so_far.ids ≤ old.so_far.ids)

-- What is known to be ready: an id of those that are to be handed in, or the next turn.
abbrev pub GoesOn : ServerState → Option Passing → Ready → Option Passing → Type 0
GoesOn s None ready new = ⊤
GoesOn s (Some old) ready None = ⊥
GoesOn s (Some old) ready (Some new) =
    ((id : ℕ) × (ready ≡ Id id) × (old.so_far ≡ record new.so_far { ids = suc new.so_far.ids }))
    ⊎ HasNextTurn s old ready new

-- Nothing is: nobody has a turn any more in the pass.
abbrev pub HasPassed : ServerState → Option Passing → Type 0
HasPassed s None = ⊤
HasPassed s (Some old) = IsOver (old.may s) old.so_far.pass old.so_far.pass

-- After a look: the tick of the second that the clock has, where the server's moment is an earlier
-- one. Else the first turn of a new pass, or nothing where nobody has one.
abbrev pub Begins : ServerState → Ready → Option Passing → Type 0
Begins s ready None = ⊤
Begins s ready (Some new) =
    ((s.moment < new.so_far.second) × (ready ≡ Tick new.so_far.second)
    × (new.so_far.pass ≡ fresh))
    ⊎ ((new.so_far.second ≤ s.moment)
    × (((visited : Stop) × (ready ≡ new.ready_at s visited)
    × HasTurn (new.may s) fresh visited new.so_far.pass)
    ⊎ ((ready ≡ Nothing) × IsOver (new.may s) fresh new.so_far.pass)))

-- Something is ready.
pub record Readies (calls : List Call) (Passes : Option Passing → Option Passing → Type 0)
    (old new : Told) : Type 0 where
  pub follows : Follows old.calls calls new.calls
  pub failures : new.failures ≡ old.failures
  pub passes : Passes old.passing new.passing

-- What is known without a look,
pub record KnowsNothing (old : Told) (s : ServerState) (new : Told) : Type 0 where
  pub follows : Follows old.calls [] new.calls
  pub failures : new.failures ≡ old.failures
  pub passes : HasPassed s old.passing

abbrev pub Knows : Told → ServerState → Option Ready → Told → Type 0
Knows old s (Some ready) new = Readies (Readied ready ∷ []) (λ a b. GoesOn s a ready b) old new
Knows old s None new = KnowsNothing old s new

-- and what a look finds, if it doesn't fail. It may be to end soon.
pub record FailsToLook (old new : Told) : Type 0 where
  pub follows : Follows old.calls [] new.calls
  pub failures : new.failures ≡ counted old.failures

abbrev pub look_calls : Bool → Ready → List Call
look_calls soon ready = Looked soon ∷ Readied ready ∷ []

abbrev pub Looks : {E : Type 0} → Bool → Told → ServerState → Result Ready E → Told → Type 0
Looks soon old s (Ok ready) new =
    Readies (look_calls soon ready) (λ a b. Begins s ready b) old new
Looks soon old s (Err e) new = FailsToLook old new

-- What is ready: it is known, or nothing is known and a look finds it. The look is to end soon at
-- least where that is asked for.
abbrev pub IsFound : Bool → ServerState → Ready → Told → Told → Type 0
IsFound soon s ready old new =
    Readies (Readied ready ∷ []) (λ a b. GoesOn s a ready b) old new
    ⊎ ((asked : Bool) × (soon ≡ true → asked ≡ true)
    × Readies (look_calls asked ready) (λ a b. HasPassed s a × Begins s ready b) old new)
