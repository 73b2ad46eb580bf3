-- What each form of the words asks for, by computation.
use Rattle.std.proofs.Common.{◌≡◌, ◌∙◌, Bool, true, false, List, [], ◌∷◌, Option}
use Rattle.std.proofs.Common.{Some, None, ap, codes, refl}
use Rattle.clap.proofs.OnLiterals.{clap_on_literals}
use Rattle.clap.proofs.WalkLemmas.{first_value-rows}
use Rattle.std.specs.Prelude.{option_and_then}
use Rattle.clap.specs.Words.{App, Row, Text, fault_of, first_of, found_of, is_simple, matches_of, one_of}
use Rattle.nutargs.specs.Words.{program_with}
use Rattle.nutargs.proofs.Flags.{flag, flag_text}
use Rattle.nutclient.specs.Ending.{name_of}
use Rattle.nutclient.specs.declared.program.Program.TheVariants.{Upsrw}
use Rattle.upsrw.specs.Forms.{Asks, EachFormAsksForItsJob, order_words}
use Rattle.upsrw.specs.Words.{asked, upsrw_words}

abbrev app : App
app = program_with (name_of Upsrw) upsrw_words

simple : is_simple app ≡ true
unfolding clap_on_literals
simple = refl

abbrev rows_in : List Text → List Row
rows_in words = matches_of app (codes "upsrw" ∷ words)

-- a form by what is found in its words
form : (words : List Text) (track : Bool) (setting user password file ups : Option Text)
    → fault_of app (codes "upsrw" ∷ words) ≡ []
    → one_of (codes "track") (rows_in words) ≡ Some (flag_text track)
    → first_of (codes "s") (rows_in words) ≡ setting → first_of (codes "u") (rows_in words) ≡ user
    → first_of (codes "p") (rows_in words) ≡ password
    → first_of (codes "password-file") (rows_in words) ≡ file → first_of (codes "UPS") (rows_in words) ≡ ups
    → Asks words (option_and_then (asked track setting user password file) ups)
form words track setting user password file ups taken is_track is_s is_u is_p is_file is_ups = (
  taken,
  λ found job matches by.
      let rows = (matches simple).0 in
      let value = λ (key : Text). first_value-rows (found_of found) key ∙ ap (first_of key) rows in
      by.2 ∙ to_same (flag found (codes "track") by.0 track _ rows is_track by.1) (value (codes "s") ∙ is_s)
      (value (codes "u") ∙ is_u) (value (codes "p") ∙ is_p) (value (codes "password-file") ∙ is_file)
      (value (codes "UPS") ∙ is_ups),
)
  where
    to_same : {t : Bool} {s u p f n : Option Text} → t ≡ track → s ≡ setting → u ≡
        user → p ≡ password → f ≡ file → n ≡ ups
        → option_and_then (asked t s u p f) n ≡ option_and_then (asked track setting user password file) ups
    to_same a b d e g h = cc

pub each_form : EachFormAsksForItsJob
unfolding clap_on_literals
each_form = record {
  writable = form (codes "su" ∷ []) false None None None None (Some (codes "su")) refl refl refl refl refl refl refl;
  set = form order_words false (Some (codes "a=b")) (Some (codes "u")) (Some (codes "p")) None (Some (codes "su"))
      refl refl refl refl refl refl refl;
  tracked_set = form (codes "--track" ∷ order_words) true (Some (codes "a=b")) (Some (codes "u"))
      (Some (codes "p")) None
      (Some (codes "su")) refl refl refl refl refl refl refl;
  no_user = form (codes "-s" ∷ codes "a=b" ∷ codes "su" ∷ []) false (Some (codes "a=b")) None
      None None (Some (codes "su"))
      refl refl refl refl refl refl refl;
  no_order = form (codes "-u" ∷ codes "u" ∷ codes "su" ∷ []) false None (Some (codes "u"))
      None None (Some (codes "su"))
      refl refl refl refl refl refl refl;
  nothing_to_track = form (codes "--track" ∷ codes "su" ∷ []) true None None None None (Some (codes "su"))
      refl refl refl refl refl refl refl;
}
