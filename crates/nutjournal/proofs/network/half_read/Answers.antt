use Rattle.std.proofs.Common.{◌∙◌, Some, ap, sym}
use Rattle.nutjournal.specs.Network.{half_of}
use Rattle.nutjournal.proofs.Segments.{is_half}
use Rattle.nutjournal.proofs.network.half_read.Goals as goal

pub returns-in-Ok : goal.returns-in-Ok
returns-in-Ok c =
    ap Some (c.half_of.ensures ∙ ap half_of c.segments.ensures)
    ∙ sym (is_half c.args.text.now c.in-Ok.ip c.in-Ok.ensures)
