-- A line that reads has no LF.
use Rattle.std.proofs.Common.{◌≡◌, ◌∙◌, ℕ, Bool, true, false, List, [], ◌∷◌, ◌++◌}
use Rattle.std.proofs.Common.{Some, Result, Ok, Err, refl, ap, arith}
use Rattle.std.specs.Prelude.{◌||◌, ◌==◌}
use Rattle.std.proofs.lemmas.Bool.Decides.{nat_tests}
use Rattle.std.proofs.lemmas.List.Folds.{list_any-append}
use Rattle.nutwords.specs.Bytes.{is_bare, is_blank, is_lawful, is_quotable}
use Rattle.nutwords.specs.Grammar.{Units, none, itself, escaped, Spells, bare, quoted}
use Rattle.nutwords.specs.Grammar.{Reads, end, blank, word}
use Rattle.nutwords.specs.Scan.{read_line}
use Rattle.nutwords.specs.Cut.{has_lf}
use Rattle.nutwords.specs.declared.faults.BadLine.{BadLine}
use Rattle.nutwords.proofs.PublicLaws.{read_line_is_the_grammar}
use Rattle.nutcommand.specs.Command.{read_command, command_from}
use Rattle.nutcommand.specs.declared.command.Command.{Command}

lawful-no_lf : (b : ℕ) → is_lawful b ≡ true → (b == 10) ≡ false
lawful-no_lf b h = grind (arith, nat_tests)

bare-no_lf : (b : ℕ) → is_bare b ≡ true → (b == 10) ≡ false
bare-no_lf b h = grind (arith, nat_tests)

quotable-no_lf : (b : ℕ) → is_quotable b ≡ true → (b == 10) ≡ false
quotable-no_lf b h = grind (arith, nat_tests)

blank-no_lf : (b : ℕ) → is_blank b ≡ true → (b == 10) ≡ false
blank-no_lf b h = grind (arith, nat_tests)

in_front : (b : ℕ) (bytes : List ℕ) → (b == 10) ≡ false → has_lf bytes ≡ false →
    has_lf (b ∷ bytes) ≡ false
in_front b bytes h k = rw h k

in_two : (a b : List ℕ) → has_lf a ≡ false → has_lf b ≡ false → has_lf (a ++ b) ≡ false
in_two a b h k = list_any-append (λ b. b == 10) a b ∙ ap (λ v. v || has_lf b) h ∙ k

units-no_lf : (may : ℕ → Bool) → ((b : ℕ) → may b ≡ true → (b == 10) ≡ false) →
    (text spelled : List ℕ) →
    Units may text spelled → has_lf text ≡ false
units-no_lf may none_is [] [] none = refl
units-no_lf may none_is [] (_ ∷ _) units = elim units [ ]
units-no_lf may none_is (b ∷ text) [] units = elim units [ ]
units-no_lf may none_is (b ∷ text) (_ ∷ spelled) (itself h units) =
    in_front b text (none_is b h) (units-no_lf may none_is text spelled units)
units-no_lf may none_is (_ ∷ b ∷ text) (_ ∷ spelled) (escaped h units) =
    in_front 92 (b ∷ text) refl (in_front b text (lawful-no_lf b h) (units-no_lf may none_is text spelled units))

spelled-no_lf : (text spelled : List ℕ) → Spells text spelled → has_lf text ≡ false
spelled-no_lf text spelled (bare h) = units-no_lf is_bare bare-no_lf text spelled h.0
spelled-no_lf text spelled (quoted (inside, units, is)) =
    rw is (in_front 34 (inside ++ 34 ∷ []) refl
    (in_two inside (34 ∷ []) (units-no_lf is_quotable quotable-no_lf inside spelled units) refl))

reads-no_lf : (line : List ℕ) (words : List (List ℕ)) → Reads line words → has_lf line ≡ false
reads-no_lf [] [] end = refl
reads-no_lf (b ∷ line) words (blank h reads) = in_front b line (blank-no_lf b h) (reads-no_lf line words reads)
reads-no_lf line (first ∷ words) (word {text = text} {rest = rest} is spells ends reads) =
    rw is (in_two text rest (spelled-no_lf text first spells) (reads-no_lf rest words reads))

-- So has no line that reads as a command.
pub command-no_lf : (line : List ℕ) (command : Command) → read_command line ≡
    Ok (Some command) → has_lf line ≡ false
command-no_lf line command h = by (read_line line) refl
  where
    by : (r : Result (List (List ℕ)) BadLine) → read_line line ≡ r → has_lf line ≡ false
    by (Ok words) e = reads-no_lf line words ((read_line_is_the_grammar line words).0 e)
    by (Err bad) e = cc (ap command_from e)
