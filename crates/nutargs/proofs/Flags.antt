-- What a flag is by the rows that are found of its name.
use Rattle.std.proofs.Common.{◌≡◌, ◌∙◌, Bool, true, false, List, Some, ap, codes}
use Rattle.clap.proofs.WalkLemmas.{one_text-rows}
use Rattle.clap.specs.Words.{Row, Text, found_of, one_of, rows_of}
use Rattle.clap.specs.declared.parser.matches.ArgMatches.{ArgMatches}
use Rattle.nutargs.specs.Words.{IsFlag}

abbrev pub flag_text : Bool → Text
flag_text true = codes "true"
flag_text false = codes "false"

pub flag : (found : ArgMatches) (name : Text) (given b : Bool) (rows : List Row) → rows_of (found_of found) ≡ rows
    → one_of name rows ≡ Some (flag_text b) → IsFlag found name given → given ≡ b
flag found name given true rows r text h = h.1 (one_text-rows (found_of found) name ∙ ap (one_of name) r ∙ text)
flag found name given false rows r text h = h.2 (one_text-rows (found_of found) name ∙ ap (one_of name) r ∙ text)
