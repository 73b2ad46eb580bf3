-- A whole line, read and done, keeps the tree of the report sound.
use Rattle.std.proofs.Common.{ℕ, List}
use Rattle.std.specs.Prelude.{Result, Ok, Err, IfOk}
use Rattle.nutdriver.specs.declared.effect.Effect.{Effect}
use Rattle.nutdriver.specs.declared.effect.Effect.TheVariants as effects
use Rattle.nutdriver.specs.declared.fault.DriverFault.{DriverFault}
use Rattle.nutdriver.specs.declared.line.DriverLine.{DriverLine}
use Rattle.nutdriver.specs.declared.report.Report.{Report}
use Rattle.nutdriver.specs.Tree.{TreeState}
use Rattle.nutdriver.specs.DriverLine.{read_driver_line}
use Rattle.nutdriver.specs.DriverStep.{driver_step}
use Rattle.nutdriver.specs.Report.{after_effect, after_step, after_reading, after_line}
use Rattle.nutdriver.specs.Sound.{IsSoundTree, IsLawfulLine, ReadLinesAreLawful, LawfulLinesKeepTreesSound}

effect_sound : (report : Report) (effect : Effect) (tree : TreeState) → IsSoundTree tree →
    IsSoundTree (after_effect effect (record report { tree = tree })).tree
effect_sound report effects.Nothing tree s = s
effect_sound report effects.Changed tree s = s
effect_sound report effects.DumpDone tree s = s
effect_sound report effects.DataOk tree s = s
effect_sound report effects.DataStale tree s = s
effect_sound report effects.Pong tree s = s
effect_sound report (effects.Tracked id number) tree s = s

step_sound : (report : Report) (step : Result (TreeState × Effect) DriverFault) →
    IsSoundTree report.tree → IfOk step (λ after. IsSoundTree after.0) →
    IsSoundTree (after_step report step).0.tree
step_sound report (Ok (tree, effect)) s h = effect_sound report effect tree h
step_sound report (Err fault) s h = s

reading_sound : LawfulLinesKeepTreesSound →
    (report : Report) (line : Result DriverLine DriverFault) → IsSoundTree report.tree →
    IfOk line IsLawfulLine → IsSoundTree (after_reading report line).0.tree
reading_sound kept report (Ok line) s lawful =
    step_sound report (driver_step report.tree line) s (kept report.tree line s lawful)
reading_sound kept report (Err fault) s lawful = s

pub line_sound : ReadLinesAreLawful → LawfulLinesKeepTreesSound →
    (moment : ℕ) (report : Report) (line : List ℕ) → IsSoundTree report.tree →
    IsSoundTree (after_line moment report line).0.tree
line_sound lawful kept moment report line s =
    reading_sound kept (record report { heard = moment }) (read_driver_line line) s (lawful line)
