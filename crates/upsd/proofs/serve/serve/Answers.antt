use Rattle.std.proofs.Common.{inr}
use Rattle.std.proofs.lemmas.Result.{IfErr-weaker}
use Rattle.upsd.proofs.serve.serve.Goals as goal

pub returns-in-Ok-recorder_in : goal.returns-in-Ok-recorder_in
returns-in-Ok-recorder_in c =
    IfErr-weaker c.serve_over-ended.result _ _ (λ ending ends. inr ends) c.serve_over-ended.ensures
