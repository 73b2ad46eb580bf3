use Rattle.std.proofs.Common.{false, true, sym, ◌∙◌, get_or}
use Rattle.nutwords.proofs.InWord.{one_byte_more, escaped_byte_goes_on, backslash_goes_on, other_byte_goes_on}
use Rattle.nutwords.proofs.scan.word_end.Goals.{then-is_escaped, else-is_escaped+then-b-eq92}
use Rattle.nutwords.proofs.scan.word_end.Goals.{else-is_escaped+else-b-eq92+else-ends_word}
use Rattle.nutwords.proofs.scan.word_end.Goals as goal

pub loop-i-preserved : goal.loop-i-preserved
loop-i-preserved c =
    let line = c.args.line.now in
    let is_quoted = c.args.is_quoted in
    elim c.if-is_escaped.branch [
      | then-is_escaped w ↦ one_byte_more line c.loop-i.i _ is_quoted c.loop-i.is_escaped true
          false c.if-is_escaped.is_escaped w.if-is_escaped.true w.is_escaped-is c.loop-i-test.true
          (escaped_byte_goes_on is_quoted (get_or line c.loop-i.i 0)) c.loop-i.invariant
      | else-is_escaped+then-b-eq92 w ↦ one_byte_more line c.loop-i.i _ is_quoted
          c.loop-i.is_escaped false true c.if-is_escaped.is_escaped w.if-is_escaped.false
          w.is_escaped-is c.loop-i-test.true
          (backslash_goes_on is_quoted (get_or line c.loop-i.i 0) w.if-b-eq92.true) c.loop-i.invariant
      | else-is_escaped+else-b-eq92+else-ends_word w ↦ one_byte_more line c.loop-i.i _ is_quoted
          c.loop-i.is_escaped false false c.if-is_escaped.is_escaped w.if-is_escaped.false
          (w.is_escaped-is ∙ w.if-is_escaped.false) c.loop-i-test.true
          (other_byte_goes_on is_quoted (get_or line c.loop-i.i 0) w.if-b-eq92.false
          (sym w.ends_word.ensures ∙ w.if-ends_word.false)) c.loop-i.invariant
    ]
