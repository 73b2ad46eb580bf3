-- What begins with ERR changes nothing.
use Rattle.std.proofs.Common.{◌≡◌, ℕ, true, List, ◌∷◌, Option, Some, Result, Ok, refl, subst, arith}
use Rattle.std.specs.Prelude.{codes, nat_eq}
use Rattle.std.specs.List.{starts_with}
use Rattle.std.proofs.lemmas.Slice.Eq.{bytes_eq-Decides}
use Rattle.nutwords.specs.Frame.{line_of}
use Rattle.nutcommand.specs.declared.command.Command.{Command}
use Rattle.nutcommand.specs.declared.err_word.ErrWord.{ErrWord}
use Rattle.nutcommand.specs.Command.{read_command}
use Rattle.nutanswer.specs.Answer.{Answer, one_line, answer_to, text_of_answer}
use Rattle.nutcore.proofs.Common.{SessionState, ServerState, session, with_session}
use Rattle.nutcore.specs.Reply.{seen, asker, reply, text_to, change_by}
use Rattle.nutcore.specs.Pump.{next_line_for, after_line, answered as answered_line}
use Rattle.nutcore.proofs.Pumping.{after_line_is}
use Rattle.nutanswer.specs.declared.reply.Change.TheVariants.{Nothing}
use Rattle.nutanswer.specs.Laws.{is_ok_line, OnlyOkChanges}

-- a line of OK doesn't begin with ERR
ok_text : (answer : Result Answer ErrWord) → is_ok_line answer ≡ true →
    starts_with nat_eq (text_of_answer answer) (codes "ERR") ≡ true → ⊥
ok_text (Ok (one_line (first ∷ words) change)) ok e =
    by_words words (subst (λ (w : List ℕ). starts_with nat_eq (line_of (w ∷ words))
    (codes "ERR") ≡ true) ((bytes_eq-Decides first (codes "OK")).0 ok) e)
  where
    by_words : (words : List (List ℕ)) →
        starts_with nat_eq (line_of (codes "OK" ∷ words)) (codes "ERR") ≡ true → ⊥
    by_words words e = grind arith
ok_text answer ok e = cc ok

-- so what begins with ERR changes nothing
refused_change : OnlyOkChanges →
    (s : ServerState) (c : ℕ) (r : Result (Option Command) ErrWord) →
    starts_with nat_eq (text_to s c r) (codes "ERR") ≡ true → change_by s c r ≡ Nothing
refused_change only_ok s c (Ok (Some command)) e =
    grind (arith, ok_text (answer_to (seen s) (asker c s) command), only_ok (seen s) (asker c s) command)
refused_change only_ok s c r e = refl

pub refused_line : OnlyOkChanges →
    (s : ServerState) (c : ℕ) (line : List ℕ) (x : SessionState) → session c s ≡ Some x →
    next_line_for s c ≡ Some line → starts_with nat_eq (reply s c line) (codes "ERR") ≡
    true → after_line s c ≡ with_session s (answered_line line (reply s c line) x)
refused_line only_ok s c line x found next refused =
    cc (after_line_is s c line x found next, refused_change only_ok s c (read_command line) refused)
