use Rattle.std.proofs.Common.{◌≡◌, ◌++◌, List, ℕ, sym, ◌≤◌, ◌-◌, length}
use Rattle.std.proofs.Common.{subst, take, drop, arith, length-drop}
use Rattle.std.specs.Io.KnownBytes.{Appends}
use Rattle.std.proofs.lemmas.List.{take_all}
use Rattle.std.proofs.Math.Seq.{take-add}
use Rattle.nutio.proofs.PublicLaws.{written_joins}
use Rattle.nutio.specs.Ends.{Written}
use Rattle.nutrequest.proofs.Sending.{cut_short}
use Rattle.nutrequest.proofs.session.send_line.Goals as goal

pub returns-in_default : goal.returns-in_default
returns-in_default g c =
    cut_short g.W.Sink.contents g.W.Sink.failures c.args.writer.now c.loop-sent.writer
    c.write.new.self c.loop-sent.sent c.args.line.now c.loop-sent-test.true c.loop-sent.invariant.took
    c.in_default.ensures.bytes c.in_default.ensures.count

pub loop-sent-preserved : goal.loop-sent-preserved
loop-sent-preserved g c =
    let i = c.loop-sent.invariant in
    let line : List ℕ = c.args.line.now in
    let sent : ℕ = c.loop-sent.sent in
    let n : ℕ = c.in-Ok.n in
    let room : length (drop sent line) ≤ length line - sent = omega (arith, length-drop sent line) in
    let whole : take (length line - sent) (drop sent line) ≡ drop sent line =
    take_all (length line - sent) (drop sent line) room in
    let bound : n ≤ length (drop sent line) = subst (λ xs. n ≤ length xs) whole c.in-Ok.ensures.bound in
    let bytes : Appends (g.W.Sink.contents c.loop-sent.writer) (g.W.Sink.contents c.write.new.self)
    (take n (drop sent line)) =
    subst (λ xs. Appends (g.W.Sink.contents c.loop-sent.writer)
    (g.W.Sink.contents c.write.new.self) (take n xs)) whole c.in-Ok.ensures.bytes in
    let took : Written g.W.Sink.contents g.W.Sink.failures c.args.writer.now
    (take sent line ++ take n (drop sent line)) c.write.new.self =
    written_joins g.W.Sink.contents g.W.Sink.failures c.args.writer.now c.loop-sent.writer
    c.write.new.self (take sent line) (take n (drop sent line)) i.took
    (record { bytes_written = bytes; well = c.in-Ok.ensures.count }) in
    record {
      within = omega (arith, length-drop sent line);
      took = subst (λ xs. Written g.W.Sink.contents g.W.Sink.failures c.args.writer.now xs
          c.write.new.self) (sym (take-add sent n line)) took;
    }
