use Rattle.std.proofs.Common.{◌≡◌, ◌++◌, List, ℕ, sym, ◌≤◌, ◌-◌, length}
use Rattle.std.proofs.Common.{subst, take, drop, arith, length-drop}
use Rattle.std.specs.Io.KnownBytes.{Appends}
use Rattle.std.proofs.lemmas.List.{take-append-drop, take_all}
use Rattle.std.proofs.Math.Seq.{take-add}
use Rattle.nutio.proofs.Known.{breaks_off}
use Rattle.nutio.proofs.PublicLaws.{written_joins}
use Rattle.nutio.specs.Ends.{Written}
use Rattle.nutio.proofs.writing.send.Goals as goal

pub returns-in_default : goal.returns-in_default
returns-in_default g c =
    let i = c.loop-sent.invariant in
    breaks_off g.W.Sink.contents g.W.Sink.failures c.args.writer.now c.loop-sent.writer
    c.write.new.self (take c.loop-sent.sent c.args.text.now) (drop c.loop-sent.sent c.args.text.now) c.args.text.now
    i.took (sym (take-append-drop c.loop-sent.sent c.args.text.now)) c.in_default.ensures.bytes
    c.in_default.ensures.count

pub loop-sent-preserved : goal.loop-sent-preserved
loop-sent-preserved g c =
    let i = c.loop-sent.invariant in
    let text : List ℕ = c.args.text.now in
    let sent : ℕ = c.loop-sent.sent in
    let n : ℕ = c.in-Ok.n in
    let room : length (drop sent text) ≤ length text - sent = omega (arith, length-drop sent text) in
    let whole : take (length text - sent) (drop sent text) ≡ drop sent text =
    take_all (length text - sent) (drop sent text) room in
    let bound : n ≤ length (drop sent text) = subst (λ xs. n ≤ length xs) whole c.in-Ok.ensures.bound in
    let bytes : Appends (g.W.Sink.contents c.loop-sent.writer) (g.W.Sink.contents c.write.new.self)
    (take n (drop sent text)) =
    subst (λ xs. Appends (g.W.Sink.contents c.loop-sent.writer)
    (g.W.Sink.contents c.write.new.self) (take n xs)) whole c.in-Ok.ensures.bytes in
    let took : Written g.W.Sink.contents g.W.Sink.failures c.args.writer.now
    (take sent text ++ take n (drop sent text)) c.write.new.self =
    written_joins g.W.Sink.contents g.W.Sink.failures c.args.writer.now c.loop-sent.writer
    c.write.new.self (take sent text) (take n (drop sent text)) i.took
    (record { bytes_written = bytes; well = c.in-Ok.ensures.count }) in
    record {
      within = omega (arith, length-drop sent text);
      took = subst (λ xs. Written g.W.Sink.contents g.W.Sink.failures c.args.writer.now xs
          c.write.new.self) (sym (take-add sent n text)) took;
    }
