-- The lines of a script that was read, replayed over a new server.
use Rattle.std.proofs.Common.{◌≡◌, ◌∙◌, ℕ, inl, inr, List, Option, refl, sym, ap, subst}
use Rattle.std.specs.Prelude.{Result, Ok, Err}
use denote.Ref.{Bor}
use Rattle.nutcore.specs.Server.{ServerState, new_server}
use Rattle.nutreplay.specs.Script.{max_age_of}
use Rattle.upsd.specs.declared.ending.Ending.{Ending}
use Rattle.upsd.specs.declared.files.Configuration.{Configuration}
use Rattle.upsd.specs.Reading.{Readings, replayed_lines}
use Rattle.upsd.specs.Replaying.{EndsOver, EndsReplay}

pub ends_over : {W : Type 0} (contents : W → Option (List ℕ)) (failures : W → ℕ)
    (gives : Readings) (c : Configuration) (script : Bor (List ℕ)) (bytes lines : List ℕ)
    (s : ServerState) (old : W) (result : Result (Unit {0}) Ending) (new : W)
    → gives script.now (Ok bytes) → lines ≡ replayed_lines bytes → s ≡
    new_server c.list c.users c.descriptions (max_age_of lines) →
    EndsReplay contents failures s lines script old result new
    → EndsOver contents failures gives c script old result new
ends_over {W} contents failures gives c script bytes lines s old result new read whole of replayed =
    by result (subst (λ xs. EndsReplay contents failures (server xs) xs script old result new)
    whole (subst (λ z. EndsReplay contents failures z lines script old result new) of replayed))
  where
    server : List ℕ → ServerState
    server xs = new_server c.list c.users c.descriptions (max_age_of xs)

    by : (result : Result (Unit {0}) Ending) →
        EndsReplay contents failures (new_server c.list c.users c.descriptions
        (max_age_of (replayed_lines bytes))) (replayed_lines bytes) script old result new →
        EndsOver contents failures gives c script old result new
    by (Ok u) h = record { bytes = bytes; read = read; gave = h }
    by (Err ending) h = inr (h.0, h.1, record { bytes = bytes; read = read; gave = h.2 })
