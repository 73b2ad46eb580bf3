use Rattle.std.proofs.Common.{◌≡◌, ◌<◌, ◌∙◌, ℕ, List, Option, Some, None, length, refl, arith}
use Rattle.nutwords.specs.Spelled.{spelled}
use Rattle.nuttracking.specs.Id.{read_id}
use Rattle.nuttracking.proofs.PublicLaws.{ids_are_plain}
use Rattle.nutcommand.proofs.command.words.id_of.Goals as goal

none_by : (text : List ℕ) (id : Option ℕ) → read_id text ≡ id → 36 < length text → None ≡ id
none_by text None e h = refl
none_by text (Some id) e h = absurd (omega (arith, h, ids_are_plain.read text id e))

-- a longer text is no id
long_is_none : (text : List ℕ) → 36 < length text → None ≡ read_id text
long_is_none text h = none_by text (read_id text) refl h

pub returns-in_err-bytes : goal.returns-in_err-bytes
returns-in_err-bytes c = c.from_residual.ensures ∙ long_is_none (spelled c.args.word.now) c.in_err-bytes.ensures
