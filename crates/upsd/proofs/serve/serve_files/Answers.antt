use Rattle.std.proofs.Common.{inr}
use Rattle.std.proofs.lemmas.Result.{IfErr-weaker}
use Rattle.upsd.proofs.serve.serve_files.Goals as goal

pub returns : goal.returns
returns c = IfErr-weaker c.serve.result _ _ (λ ending fails. inr fails) c.serve.ensures
