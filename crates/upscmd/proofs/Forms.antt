-- What each form of the words asks for, by computation.
use Rattle.std.proofs.Common.{◌≡◌, ◌∙◌, Bool, true, false, List, [], ◌∷◌}
use Rattle.std.proofs.Common.{◌++◌, Option, Some, None, ap, codes, refl}
use Rattle.clap.proofs.OnLiterals.{clap_on_literals}
use Rattle.clap.proofs.WalkLemmas.{first_value-rows}
use Rattle.std.specs.Prelude.{option_and_then}
use Rattle.clap.specs.Words.{App, Row, Text, fault_of, first_of, found_of, is_simple, matches_of, one_of}
use Rattle.nutargs.specs.Words.{program_with}
use Rattle.nutargs.proofs.Flags.{flag, flag_text}
use Rattle.nutclient.specs.Ending.{name_of}
use Rattle.nutclient.specs.declared.program.Program.TheVariants.{Upscmd}
use Rattle.upscmd.specs.Forms.{Asks, EachFormAsksForItsJob, order_words}
use Rattle.upscmd.specs.Words.{asked, upscmd_words}

abbrev app : App
app = program_with (name_of Upscmd) upscmd_words

simple : is_simple app ≡ true
unfolding clap_on_literals
simple = refl

abbrev rows_in : List Text → List Row
rows_in words = matches_of app (codes "upscmd" ∷ words)

-- a form by what is found in its words
form : (words : List Text) (lists track : Bool) (user password file name value ups : Option Text)
    → fault_of app (codes "upscmd" ∷ words) ≡ []
    → one_of (codes "l") (rows_in words) ≡ Some (flag_text lists)
    → one_of (codes "track") (rows_in words) ≡ Some (flag_text track)
    → first_of (codes "u") (rows_in words) ≡ user → first_of (codes "p") (rows_in words) ≡ password
    → first_of (codes "password-file") (rows_in words) ≡ file → first_of (codes "CMD") (rows_in words) ≡ name
    → first_of (codes "VALUE") (rows_in words) ≡ value → first_of (codes "UPS") (rows_in words) ≡ ups
    → Asks words (option_and_then (asked lists track file user password name value) ups)
form words lists track user password file name value ups taken is_l is_track is_u is_p is_file
    is_name is_value is_ups = (
      taken,
      λ found job matches by.
          let rows = (matches simple).0 in
          let text = λ (key : Text). first_value-rows (found_of found) key ∙ ap (first_of key) rows in
          by.4 ∙ to_same (flag found (codes "l") by.0 lists _ rows is_l by.2)
          (flag found (codes "track") by.1 track _ rows is_track by.3)
          (text (codes "u") ∙ is_u) (text (codes "p") ∙ is_p) (text (codes "password-file") ∙ is_file)
          (text (codes "CMD") ∙ is_name) (text (codes "VALUE") ∙ is_value) (text (codes "UPS") ∙ is_ups),
    )
  where
    to_same : {l t : Bool} {u p f n v h : Option Text} → l ≡ lists → t ≡ track → u ≡
        user → p ≡ password → f ≡ file
        → n ≡ name → v ≡ value → h ≡ ups
        → option_and_then (asked l t f u p n v) h ≡
        option_and_then (asked lists track file user password name value) ups
    to_same a b d e g i j k = cc

pub each_form : EachFormAsksForItsJob
unfolding clap_on_literals
each_form = record {
  commands = form (codes "-l" ∷ codes "su" ∷ []) true false None None None None None (Some (codes "su"))
      refl refl refl refl refl refl refl refl refl;
  command = form order_words false false (Some (codes "a")) (Some (codes "b")) None
      (Some (codes "test.battery.start")) None
      (Some (codes "su")) refl refl refl refl refl refl refl refl refl;
  with_value = form (order_words ++ codes "5" ∷ []) false false (Some (codes "a")) (Some (codes "b")) None
      (Some (codes "test.battery.start")) (Some (codes "5")) (Some (codes "su")) refl refl refl refl
      refl refl refl refl refl;
  tracked = form (codes "--track" ∷ order_words) false true (Some (codes "a")) (Some (codes "b")) None
      (Some (codes "test.battery.start")) None (Some (codes "su")) refl refl refl refl refl refl refl refl refl;
  listed_too = form (codes "-l" ∷ order_words) true false (Some (codes "a")) (Some (codes "b")) None
      (Some (codes "test.battery.start")) None (Some (codes "su")) refl refl refl refl refl refl refl refl refl;
  no_user = form (codes "su" ∷ codes "test.battery.start" ∷ []) false false None None None
      (Some (codes "test.battery.start")) None (Some (codes "su")) refl refl refl refl refl refl refl refl refl;
}
